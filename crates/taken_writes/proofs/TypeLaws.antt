-- A write has a type where no case of a refusal holds.
use Rattle.std.proofs.Common.{◌≡◌, ◌==◌, ℕ, zero, suc, Bool, true, false, not, ◌&&◌, List, [], ◌∷◌, length, Option, Some, None, refl, sym, ◌∙◌, ap, subst, arith}
use Rattle.condition_sat.specs.Admitted.{IsAdmitted}
use Rattle.condition_sat.specs.Possible.{some_admitted}
use Rattle.condition_sat.proofs.PossibleLaws.{none_admitted, some_admitted_of}
use Rattle.feature_expr.specs.declared.expr.Expr.{Expr}
use Rattle.query_meaning.specs.Cases.{Case, IsOneOf, case_of}
use Rattle.query_meaning.specs.WriteTyping.{IsWellTypedWrite, RefusesWrite, ShowsWriteCase, write_cases, write_name_cases}
use Rattle.query_meaning.specs.declared.ill.TypeRefused.{TypeRefused}
use Rattle.query_meaning.specs.declared.ill.TypeRefused.TheVariants as refused
use Rattle.query_meaning.specs.declared.ill.IllTyped.{IllTyped}
use Rattle.taken_writes.proofs.FitLaws.{positive}
use Rattle.vra_syntax.specs.declared.write.Write.{Write}
use Rattle.vschema.specs.declared.catalog.Table.{Table}
use Rattle.write_meaning.specs.TakenWrites.{has_type}

none_left : (cases : List Case) → cases ≡ [] → (length cases == 0) ≡ true
none_left cases is = ap (λ (cases : List Case). length cases == 0) is

some_left : (cases : List Case) (one : Case) → IsOneOf cases one → (length cases == 0) ≡ false
some_left [] one is = absurd is
some_left (first ∷ cases) one is = positive (suc (length cases)) (omega arith)

pub typed : (model : Expr) (tables : List Table) (w : Write) → IsWellTypedWrite model [] tables w → has_type model tables w ≡ true
typed model tables w it =
    let names = none_left (write_name_cases [] tables w) it.named in
    let none = none_admitted model (λ c. not (length (write_cases c [] tables w) == 0)) (λ c admitted. ap not (none_left (write_cases c [] tables w) (it.typed c admitted))) in
    ap (λ b. b && not (some_admitted model (λ c. not (length (write_cases c [] tables w) == 0)))) names ∙ ap not none

and_false : (a b : Bool) → b ≡ true → (a && not b) ≡ false
and_false true b h = ap not h
and_false false b h = refl

refused_by : (model : Expr) (tables : List Table) (w : Write) (one : Case) (config : Option (List ℕ)) → ShowsWriteCase model [] tables w one config → has_type model tables w ≡ false
refused_by model tables w one None is =
    ap (λ b. b && not (some_admitted model (λ c. not (length (write_cases c [] tables w) == 0)))) (some_left (write_name_cases [] tables w) one is)
refused_by model tables w one (Some c) is =
    and_false (length (write_name_cases [] tables w) == 0) (some_admitted model (λ c. not (length (write_cases c [] tables w) == 0)))
    (some_admitted_of model (λ c. not (length (write_cases c [] tables w) == 0)) c is.0 (ap not (some_left (write_cases c [] tables w) one is.1)))

pub is_refused : (model : Expr) (tables : List Table) (w : Write) (it : TypeRefused) (why : IllTyped) → it ≡ refused.Ill why → RefusesWrite model [] tables w it → has_type model tables w ≡ false
is_refused model tables w it why is shows =
    refused_by model tables w (case_of why) why.config (subst (λ r. RefusesWrite model [] tables w r) is shows)
