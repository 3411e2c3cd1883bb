-- A feature expression that begins at a place of a catalogue has one end and one value, or one fault.
use Rattle.std.proofs.Common.{◌≡◌, ◌≢◌, ℕ, List, sym, ap, ◌∙◌}
use Rattle.feature_expr.specs.declared.expr.Expr.{Expr}
use Rattle.feature_expr.specs.declared.parse.Fault.{Fault}
use Rattle.feature_expr.specs.declared.parse.Fault.TheVariants as expr_fault
use Rattle.word_tokens.specs.declared.token.Token.{Token}
use Rattle.feature_expr.proofs.PartLaws as parts
use Rattle.feature_expr.specs.Nesting.{nesting_limit}
use Rattle.vschema.specs.Faults.{fault_of, ExpressionFault}
use Rattle.vschema.specs.Spelling.{IsExpression}
use Rattle.vschema.specs.declared.fault.CatalogFault.{CatalogFault}
use Rattle.vschema.specs.declared.fault.CatalogFault.TheVariants as fault

module _ (names : List (List ℕ)) (text : List ℕ) (tokens : List Token) (n at : ℕ) where
  pub one_expression : (x : Expr) (m : ℕ) (y : Expr) (k : ℕ) → IsExpression names text tokens n at x m → IsExpression names text tokens n at y k → (x ≡ y) × (m ≡ k)
  one_expression x m y k d d' = parts.one_part names text tokens nesting_limit n at x m y k d.read d.spelled d'.read d'.spelled

  not_memory : (why : CatalogFault) (inner : Fault) → why ≡ fault_of inner → why ≢ fault.Memory → inner ≢ expr_fault.Memory
  not_memory why inner given other h = other (given ∙ ap fault_of h)

  pub fault_or_expression : (x : Expr) (m : ℕ) (why : CatalogFault) → IsExpression names text tokens n at x m → ExpressionFault names text tokens n at why → why ≢ fault.Memory → ⊥
  fault_or_expression x m why d f other = parts.no_fault names text tokens nesting_limit n at m x f.inner d.read d.spelled f.refused (not_memory why f.inner f.is other)

  pub one_fault : (why why' : CatalogFault) → ExpressionFault names text tokens n at why → ExpressionFault names text tokens n at why' → why ≢ fault.Memory → why' ≢ fault.Memory → why ≡ why'
  one_fault why why' f f' other other' =
      f.is ∙ (ap fault_of (parts.one_fault names text tokens nesting_limit n at f.inner f'.inner f.refused f.first f'.refused f'.first (not_memory why f.inner f.is other) (not_memory why' f'.inner f'.is other')) ∙ sym f'.is)
