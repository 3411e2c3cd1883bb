-- The numbers of the tables that a plan scans, collected in order.
use Rattle.std.specs.Prelude.{ℕ, ◌==◌, nat_lt, List, [], ◌∷◌, if◌then◌else◌}
use Rattle.query_meaning.specs.declared.plan.Plan.{Plan, fold-Plan}
use Rattle.query_meaning.specs.declared.plan.Plan.TheOpen.{Plan-F}

-- the ascending numbers with one more, if it isn't among them
abbrev pub with_number : ℕ → List ℕ → List ℕ
with_number number [] = number ∷ []
with_number number (first ∷ numbers) =
    if nat_lt number first then number ∷ first ∷ numbers else (if number == first then first ∷ numbers else first ∷ with_number number numbers)

-- one layer, whose parts add their numbers
abbrev pub collect_step : Plan-F (List ℕ → List ℕ) → List ℕ → List ℕ
collect_step (Plan-F.Scan number) numbers = with_number number numbers
collect_step (Plan-F.Filter source cond) numbers = source numbers
collect_step (Plan-F.Keep source items) numbers = source numbers
collect_step (Plan-F.Join left right cond) numbers = left (right numbers)
collect_step (Plan-F.Union left right) numbers = left (right numbers)
collect_step (Plan-F.Except left right) numbers = left (right numbers)
collect_step (Plan-F.Rename source alias) numbers = source numbers
collect_step (Plan-F.Choose expr left right) numbers = left (right numbers)
collect_step Plan-F.Nothing numbers = numbers

abbrev pub collected : Plan → List ℕ → List ℕ
collected p = fold-Plan (List ℕ → List ℕ) collect_step p
