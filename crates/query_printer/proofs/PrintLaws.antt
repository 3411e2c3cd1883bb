-- Lists of what is still to be printed, with one more.
use Rattle.std.proofs.Common.{◌≡◌, ℕ, ◌+◌, List, [], ◌∷◌, ◌++◌, map, refl, sym, ap, append_assoc, arith}
use Rattle.std.proofs.lemmas.List.{append-nil}
use Rattle.query_printer.specs.PrintTasks.{cond_task_text, cond_tasks_text, cond_task_size, cond_tasks_size, query_task_text, query_tasks_text, query_task_size, query_tasks_size}
use Rattle.query_printer.specs.declared.print_cond.CondTask.{CondTask}
use Rattle.query_printer.specs.declared.print_query.QueryTask.{QueryTask}

pub cond_tasks_text_push : (names : List (List ℕ)) (ts : List CondTask) (t : CondTask) → cond_tasks_text names (ts ++ t ∷ []) ≡ cond_task_text names t ++ cond_tasks_text names ts
cond_tasks_text_push names [] t = sym (append-nil _)
cond_tasks_text_push names (s ∷ ts) t = rw (cond_tasks_text_push names ts t, append_assoc)

pub cond_tasks_size_push : (ts : List CondTask) (t : CondTask) → cond_tasks_size (ts ++ t ∷ []) ≡ cond_task_size t + cond_tasks_size ts
cond_tasks_size_push [] t = omega arith
cond_tasks_size_push (s ∷ ts) t = omega (arith, cond_tasks_size_push ts t)

pub query_tasks_text_push : (names : List (List ℕ)) (ts : List QueryTask) (t : QueryTask) → query_tasks_text names (ts ++ t ∷ []) ≡ query_task_text names t ++ query_tasks_text names ts
query_tasks_text_push names [] t = sym (append-nil _)
query_tasks_text_push names (s ∷ ts) t = rw (query_tasks_text_push names ts t, append_assoc)

pub query_tasks_size_push : (ts : List QueryTask) (t : QueryTask) → query_tasks_size (ts ++ t ∷ []) ≡ query_task_size t + query_tasks_size ts
query_tasks_size_push [] t = omega arith
query_tasks_size_push (s ∷ ts) t = omega (arith, query_tasks_size_push ts t)

-- one task less, and those that come in its place
pub cond_tasks_step : (names : List (List ℕ)) (text text' whole : List ℕ) (t : CondTask) (ts rest ts' : List CondTask) → ts ≡ rest ++ t ∷ [] → text' ++ cond_tasks_text names ts' ≡ text ++ cond_task_text names t ++ cond_tasks_text names rest → text ++ cond_tasks_text names ts ≡ whole → text' ++ cond_tasks_text names ts' ≡ whole
cond_tasks_step names text text' whole t ts rest ts' popped printed h =
    let h' = rw (popped, cond_tasks_text_push names rest t) at h in
    rw (printed, append_assoc) h'

pub query_tasks_step : (names : List (List ℕ)) (text text' whole : List ℕ) (t : QueryTask) (ts rest ts' : List QueryTask) → ts ≡ rest ++ t ∷ [] → text' ++ query_tasks_text names ts' ≡ text ++ query_task_text names t ++ query_tasks_text names rest → text ++ query_tasks_text names ts ≡ whole → text' ++ query_tasks_text names ts' ≡ whole
query_tasks_step names text text' whole t ts rest ts' popped printed h =
    let h' = rw (popped, query_tasks_text_push names rest t) at h in
    rw (printed, append_assoc) h'

pub map_same : (names : List (List ℕ)) → map (λ (name : List ℕ). name) names ≡ names
map_same [] = refl
map_same (name ∷ names) = ap (λ (rest : List (List ℕ)). name ∷ rest) (map_same names)

pub five_parts : (x x1 x2 x3 x4 x5 a b c d e : List ℕ) → x1 ≡ x ++ a → x2 ≡ x1 ++ b → x3 ≡ x2 ++ c → x4 ≡ x3 ++ d → x5 ≡ x4 ++ e → x5 ≡ x ++ (a ++ b ++ c ++ d ++ e)
five_parts x x1 x2 x3 x4 x5 a b c d e is1 is2 is3 is4 is5 = rw (is5, is4, is3, is2, is1) (simp append_assoc refl)
