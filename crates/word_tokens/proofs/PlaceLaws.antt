-- Characters and lines up to a place.
use Rattle.std.proofs.Common.{◌≡◌, ◌∙◌, ℕ, ◌+◌, ◌-◌, ◌≤◌, Bool, List, take, ap, cond, arith}
use Rattle.std.proofs.Math.Seq.{take-add}
use Rattle.std.proofs.lemmas.List.Sums.{sum_by-append}
use Rattle.std.specs.List.{slice_range, count_by}

pub count_between : (p : ℕ → Bool) (t : List ℕ) (from to : ℕ) → from ≤ to → count_by p (take to t) ≡ count_by p (take from t) + count_by p (slice_range t from to)
count_between p t from to order =
    let whole : from + (to - from) ≡ to = omega arith in
    let split = rw whole at (take-add from (to - from) t) in
    ap (λ (xs : List ℕ). count_by p xs) split ∙ sum_by-append (λ (x : ℕ). cond (p x) 1 0) (take from t) (slice_range t from to)
