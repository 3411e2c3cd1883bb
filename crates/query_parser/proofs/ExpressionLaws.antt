-- A feature expression that begins at a place has one end and one value, or one fault.
use Rattle.std.proofs.Common.{◌≡◌, ◌≢◌, ℕ, List, sym, ap, ◌∙◌}
use Rattle.feature_expr.specs.declared.expr.Expr.{Expr}
use Rattle.feature_expr.specs.declared.parse.Fault.{Fault}
use Rattle.feature_expr.specs.declared.parse.Fault.TheVariants as expr_fault
use Rattle.word_tokens.specs.declared.token.Token.{Token}
use Rattle.feature_expr.proofs.PartLaws as parts
use Rattle.query_parser.specs.ExpressionFaults.{fault_of}
use Rattle.query_parser.specs.Faults.{ExpressionFault}
use Rattle.query_parser.specs.Parts.{IsExpression}
use Rattle.query_parser.specs.declared.fault.ParseFault.{ParseFault}
use Rattle.query_parser.specs.declared.fault.ParseFault.TheVariants as fault
use Rattle.feature_expr.specs.Nesting.{nesting_limit}

module _ (names : List (List ℕ)) (text : List ℕ) (tokens : List Token) (n at : ℕ) where
  pub one_expression : (x : Expr) (m : ℕ) (y : Expr) (k : ℕ) → IsExpression names text tokens n at x m → IsExpression names text tokens n at y k → (x ≡ y) × (m ≡ k)
  one_expression x m y k d d' = parts.one_part names text tokens nesting_limit n at x m y k d.read d.spelled d'.read d'.spelled

  not_memory : (why : ParseFault) (inner : Fault) → why ≡ fault_of inner → why ≢ fault.Memory → inner ≢ expr_fault.Memory
  not_memory why inner given other h = other (given ∙ ap fault_of h)

  pub fault_or_expression : (x : Expr) (m : ℕ) (why : ParseFault) → IsExpression names text tokens n at x m → ExpressionFault names text tokens n at why → why ≢ fault.Memory → ⊥
  fault_or_expression x m why d f other = parts.no_fault names text tokens nesting_limit n at m x f.inner d.read d.spelled f.refused (not_memory why f.inner f.given other)

  pub one_fault : (why why' : ParseFault) → ExpressionFault names text tokens n at why → ExpressionFault names text tokens n at why' → why ≢ fault.Memory → why' ≢ fault.Memory → why ≡ why'
  one_fault why why' f f' other other' =
      f.given ∙ (ap fault_of (parts.one_fault names text tokens nesting_limit n at f.inner f'.inner f.refused f.first f'.refused f'.first (not_memory why f.inner f.given other) (not_memory why' f'.inner f'.given other')) ∙ sym f'.given)
