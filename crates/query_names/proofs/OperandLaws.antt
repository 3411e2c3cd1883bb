-- An operand whose name isn't known is one that the columns give no kind.
use Rattle.std.proofs.Common.{◌≡◌, Bool, true, false, List, [], ◌∷◌, ◌++◌, refl, ap, ◌∙◌, append_assoc}
use Rattle.plain_relation.specs.Relations.{Column, same_name}
use Rattle.query_meaning.specs.Cases.{Case}
use Rattle.query_meaning.specs.Names.{unknown_name, unknown_operand}
use Rattle.query_meaning.specs.Parameters.{Partner, partner_of, partner_named, partner_by}
use Rattle.query_names.specs.Findings.{unknown_by}
use Rattle.relational_algebra.specs.Columns.{kinds_of, named}
use Rattle.values.specs.declared.column_name.ColName.{ColName}
use Rattle.values.specs.declared.value.Kind.{Kind}
use Rattle.vra_syntax.specs.declared.cond.Operand.{Operand}
use Rattle.vra_syntax.specs.declared.cond.Operand.TheVariants as operand

-- some kind, whatever else there is
known_by : (kind : Kind) (kinds : List Kind) (name : ColName) → unknown_by (partner_by (kind ∷ kinds)) (operand.Column name) ≡ []
known_by kind [] name = refl
known_by kind (other ∷ kinds) name = refl

found_at : (name : ColName) (column : Column) (columns : List Column) (b : Bool) → same_name column.name name ≡ b → unknown_by (partner_named columns name) (operand.Column name) ≡ unknown_name columns name → unknown_by (partner_named (column ∷ columns) name) (operand.Column name) ≡ unknown_name (column ∷ columns) name
found_at name column columns true is more = rw is (known_by column.kind (kinds_of (named name columns)) name)
found_at name column columns false is more = rw is more

pub unknown_by_name : (columns : List Column) (name : ColName) → unknown_by (partner_named columns name) (operand.Column name) ≡ unknown_name columns name
unknown_by_name [] name = refl
unknown_by_name (column ∷ columns) name = found_at name column columns (same_name column.name name) refl (unknown_by_name columns name)

pub unknown_by_partner : (columns : List Column) (one : Operand) → unknown_by (partner_of columns one) one ≡ unknown_operand columns one
unknown_by_partner columns (operand.Column name) = unknown_by_name columns name
unknown_by_partner columns (operand.Literal value) = refl
unknown_by_partner columns (operand.Param number) = refl

-- what the two operands of a comparison add
pub compared : (columns : List Column) (left right : Operand) (is other : Partner) (old mid new : List Case) → is ≡ partner_of columns left → other ≡ partner_of columns right → mid ≡ old ++ unknown_by is left → new ≡ mid ++ unknown_by other right → new ≡ old ++ (unknown_operand columns left ++ unknown_operand columns right)
compared columns left right is other old mid new first second one two =
    let a : unknown_by is left ≡ unknown_operand columns left = ap (λ p. unknown_by p left) first ∙ unknown_by_partner columns left in
    let b : unknown_by other right ≡ unknown_operand columns right = ap (λ p. unknown_by p right) second ∙ unknown_by_partner columns right in
    two ∙ ap (λ (xs : List Case). xs ++ unknown_by other right) (one ∙ ap (λ (xs : List Case). old ++ xs) a) ∙ ap (λ (xs : List Case). (old ++ unknown_operand columns left) ++ xs) b ∙ append_assoc old (unknown_operand columns left) (unknown_operand columns right)
