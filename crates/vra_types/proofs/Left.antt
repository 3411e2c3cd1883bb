-- Gaps that are looked at one after another: what was looked at is nowhere, and what is left decides.
use Rattle.std.proofs.Common.{List, [], ◌∷◌, ◌++◌, inl, inr}
use Rattle.feature_expr.specs.declared.expr.Expr.{Expr}
use Rattle.vra_types.specs.declared.refused.CheckRefused.{CheckRefused}
use Rattle.vra_types.specs.declared.refused.CheckRefused.TheVariants as refused
use Rattle.vra_types.specs.Check.{Gap, AreNowhere, ShowsFirst, RefusesGaps}

-- all gaps are judged as those that are left are
pub record IsLeft (model : Expr) (all rest : List Gap) : Type 0 where
  pub nowhere : AreNowhere model rest → AreNowhere model all
  pub refused : (why : CheckRefused) → RefusesGaps model rest why → RefusesGaps model all why

pub left_start : (model : Expr) (gaps : List Gap) → IsLeft model gaps gaps
left_start model gaps = record { nowhere = λ h. h; refused = λ why h. h }

behind_all : (model : Expr) (front rest : List Gap) (why : CheckRefused) → AreNowhere model front → ShowsFirst model rest why → ShowsFirst model (front ++ rest) why
behind_all model [] rest why none h = h
behind_all model (gap ∷ front) rest why none h = inr (none.0, behind_all model front rest why none.1 h)

pub refused_behind : (model : Expr) (front rest : List Gap) (why : CheckRefused) → AreNowhere model front → RefusesGaps model rest why → RefusesGaps model (front ++ rest) why
refused_behind model front rest refused.NoVariant none h = behind_all model front rest refused.NoVariant none h
refused_behind model front rest (refused.NoColumn name c) none h = behind_all model front rest (refused.NoColumn name c) none h
refused_behind model front rest (refused.MissingValue line name c) none h = behind_all model front rest (refused.MissingValue line name c) none h
refused_behind model front rest refused.Memory none h = tt

shown_before : (model : Expr) (front rest : List Gap) (why : CheckRefused) → ShowsFirst model front why → ShowsFirst model (front ++ rest) why
shown_before model [] rest why h = absurd h
shown_before model (gap ∷ front) rest why (inl h) = inl h
shown_before model (gap ∷ front) rest why (inr h) = inr (h.0, shown_before model front rest why h.1)

pub refused_before : (model : Expr) (front rest : List Gap) (why : CheckRefused) → RefusesGaps model front why → RefusesGaps model (front ++ rest) why
refused_before model front rest refused.NoVariant h = shown_before model front rest refused.NoVariant h
refused_before model front rest (refused.NoColumn name c) h = shown_before model front rest (refused.NoColumn name c) h
refused_before model front rest (refused.MissingValue line name c) h = shown_before model front rest (refused.MissingValue line name c) h
refused_before model front rest refused.Memory h = tt

pub nowhere_join : (model : Expr) (front rest : List Gap) → AreNowhere model front → AreNowhere model rest → AreNowhere model (front ++ rest)
nowhere_join model [] rest none more = more
nowhere_join model (gap ∷ front) rest none more = (none.0, nowhere_join model front rest none.1 more)

pub left_behind : (model : Expr) (all front rest : List Gap) → IsLeft model all (front ++ rest) → AreNowhere model front → IsLeft model all rest
left_behind model all front rest left none = record {
  nowhere = λ more. left.nowhere (nowhere_join model front rest none more);
  refused = λ why h. left.refused why (refused_behind model front rest why none h);
}

pub left_refused : (model : Expr) (all front rest : List Gap) (why : CheckRefused) → IsLeft model all (front ++ rest) → RefusesGaps model front why → RefusesGaps model all why
left_refused model all front rest why left h = left.refused why (refused_before model front rest why h)
