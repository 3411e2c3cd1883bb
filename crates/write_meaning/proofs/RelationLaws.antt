-- Relations with the same rows are the same relation, and a write leaves what the columns weigh.
use Rattle.std.proofs.Common.{◌≡◌, List, [], ◌∷◌, Option, refl, subst, sym, inl, inr, Contains}
use Rattle.values.specs.declared.column_name.ColName.{ColName}
use Rattle.values.specs.declared.value.Value.{Value}
use Rattle.plain_relation.specs.Relations.{Cell, Column, Relation, SameRelation, HasRow, cell_of}
use Rattle.query_meaning.specs.Bounds.{Size}
use Rattle.vra_syntax.specs.declared.write.Write.{Write}
use Rattle.vra_syntax.specs.declared.write.Write.TheVariants as write
use Rattle.write_meaning.specs.Members.{Has, SameRows}
use Rattle.write_meaning.specs.PlainWrites.{size_after}

-- a row that stands among others and has these values
pub record Stands (rows : List (List Cell)) (values : ColName → Option Value) : Type 0 where
  pub row : List Cell
  pub there : Has rows row
  pub has : (name : ColName) → cell_of row name ≡ values name

row_there : (rows : List (List Cell)) (values : ColName → Option Value) → HasRow rows values → Stands rows values
row_there [] values h = absurd h
row_there (row ∷ rows) values (inl h) = record { row = row; there = inl refl; has = h }
row_there (row ∷ rows) values (inr h) = let found = row_there rows values h in record { row = found.row; there = inr found.there; has = found.has }

has_row : (rows : List (List Cell)) (values : ColName → Option Value) (row : List Cell) → Has rows row → ((name : ColName) → cell_of row name ≡ values name) → HasRow rows values
has_row [] values row there has = absurd there
has_row (one ∷ rows) values row (inl same) has = inl (subst (λ (r : List Cell). (name : ColName) → cell_of r name ≡ values name) (sym same) has)
has_row (one ∷ rows) values row (inr there) has = inr (has_row rows values row there has)

moved : (one other : List (List Cell)) (values : ColName → Option Value) → ((row : List Cell) → Has one row → Has other row) → HasRow one values → HasRow other values
moved one other values on h = let found = row_there one values h in has_row other values found.row (on found.row found.there) found.has

-- relations with the same columns and rows are the same
pub same_relation : (one other : Relation) → SameRows one other → SameRelation one other
same_relation one other same = record {
  columns = λ column. (subst (λ (columns : List Column). Contains columns column) same.columns, subst (λ (columns : List Column). Contains columns column) (sym same.columns));
  rows = λ values. (moved one.rows other.rows values (λ row. (same.rows row).0), moved other.rows one.rows values (λ row. (same.rows row).1));
}

-- a write leaves what the conditions of the columns may weigh
pub columns_stay : (w : Write) (size : Size) → (size_after w size).column_weight ≡ size.column_weight
columns_stay (write.Insert table names rows expr) size = refl
columns_stay (write.Delete table cond expr) size = refl
columns_stay (write.Update table items cond expr) size = refl
