-- The text of a statement, with single spaces, and brackets where a part would else be read otherwise.
use Rattle.std.specs.Prelude.{ℕ, ◌==◌, if◌then◌else◌, Bool, true, false, List, [], ◌∷◌, ◌++◌, map, flat_map, codes, decimal, Option, Some, None}
use Rattle.std.specs.Fmt.{signed_decimal}
use Rattle.feature_expr.specs.Printing.{opening, closing}
use Rattle.feature_expr.specs.Printing as exprs
use Rattle.values.specs.declared.column_name.ColName.{ColName}
use Rattle.feature_expr.specs.declared.expr.Expr.{Expr, out-Expr}
use Rattle.feature_expr.specs.declared.expr.Expr.TheOpen.{Expr-F}
use Rattle.values.specs.declared.value.Value.{Value}
use Rattle.values.specs.declared.value.Value.TheVariants as value
use Rattle.vra_syntax.specs.declared.cond.Cond.{Cond, fold-Cond, out-Cond}
use Rattle.vra_syntax.specs.declared.cond.Cond.TheOpen.{Cond-F}
use Rattle.vra_syntax.specs.declared.cond.Op.{Op}
use Rattle.vra_syntax.specs.declared.cond.Op.TheVariants as op
use Rattle.vra_syntax.specs.declared.cond.Operand.{Operand}
use Rattle.vra_syntax.specs.declared.cond.Operand.TheVariants as operand
use Rattle.vra_syntax.specs.declared.items.Item.{Item}
use Rattle.vra_syntax.specs.declared.items.Items.{Items}
use Rattle.vra_syntax.specs.declared.items.Items.TheVariants as items
use Rattle.vra_syntax.specs.declared.query.Query.{Query, fold-Query}
use Rattle.vra_syntax.specs.declared.query.Query.TheOpen.{Query-F}
use Rattle.vra_syntax.specs.declared.statement.Statement.{Statement}
use Rattle.vra_syntax.specs.declared.statement.Statement.TheVariants as statement
use Rattle.vra_syntax.specs.declared.write.SetItem.{SetItem}
use Rattle.vra_syntax.specs.declared.write.Write.{Write}
use Rattle.vra_syntax.specs.declared.write.Write.TheVariants as write
use Rattle.query_printer.specs.declared.print_cond.CondPlace.{CondPlace}
use Rattle.query_printer.specs.declared.print_cond.CondPlace.TheVariants as cplace
use Rattle.query_printer.specs.declared.print_query.QueryPlace.{QueryPlace}
use Rattle.query_printer.specs.declared.print_query.QueryPlace.TheVariants as qplace

abbrev pub behind_comma : List ℕ → List ℕ
behind_comma text = codes ", " ++ text

-- these texts with commas between them
abbrev pub listed : List (List ℕ) → List ℕ
listed [] = []
listed (text ∷ texts) = text ++ flat_map behind_comma texts

abbrev pub prefix_text : Option (List ℕ) → List ℕ
prefix_text None = []
prefix_text (Some prefix) = prefix ++ codes "."

abbrev pub column_text : ColName → List ℕ
column_text column = prefix_text column.prefix ++ column.base

-- a quote in a text is doubled
abbrev pub byte_text : ℕ → List ℕ
byte_text byte = if byte == 39 then codes "''" else byte ∷ []

abbrev pub quoted : List ℕ → List ℕ
quoted bytes = codes "'" ++ flat_map byte_text bytes ++ codes "'"

abbrev pub truth_text : Bool → List ℕ
truth_text true = codes "true"
truth_text false = codes "false"

abbrev pub value_text : Value → List ℕ
value_text (value.Int number) = signed_decimal number
value_text (value.Text bytes) = quoted bytes
value_text (value.Bool truth) = truth_text truth

abbrev pub operand_text : Operand → List ℕ
operand_text (operand.Column column) = column_text column
operand_text (operand.Literal value) = value_text value
operand_text (operand.Param number) = codes "$" ++ decimal number

abbrev pub op_text : Op → List ℕ
op_text op.Eq = codes " = "
op_text op.Ne = codes " <> "
op_text op.Lt = codes " < "
op_text op.Le = codes " <= "
op_text op.Gt = codes " > "
op_text op.Ge = codes " >= "

-- a choice up to its sides
unfoldable pub choice_text : List (List ℕ) → Expr → List ℕ
choice_text names expr = codes "choice [" ++ exprs.text_of names expr ++ codes "] ("

-- whether a chain of `and` stands there without brackets
abbrev pub takes_and : CondPlace → Bool
takes_and cplace.Operand = false
takes_and cplace.Conjunct = true
takes_and cplace.Disjunct = true

-- whether a chain of `or` stands there without brackets
abbrev pub takes_or : CondPlace → Bool
takes_or cplace.Operand = false
takes_or cplace.Conjunct = false
takes_or cplace.Disjunct = true

-- the text of one layer of a condition at a place, where the texts of its parts are known at each
abbrev pub cond_step : List (List ℕ) → Cond-F (CondPlace → List ℕ) → CondPlace → List ℕ
cond_step names (Cond-F.Cmp left op right) at = operand_text left ++ op_text op ++ operand_text right
cond_step names (Cond-F.Not inner) at = codes "not " ++ inner cplace.Operand
cond_step names (Cond-F.And left right) at =
    opening (takes_and at) ++ left cplace.Conjunct ++ codes " and " ++ right cplace.Operand ++ closing (takes_and at)
cond_step names (Cond-F.Or left right) at =
    opening (takes_or at) ++ left cplace.Disjunct ++ codes " or " ++ right cplace.Conjunct ++ closing (takes_or at)
cond_step names (Cond-F.Choice expr left right) at =
    choice_text names expr ++ left cplace.Disjunct ++ codes ", " ++ right cplace.Disjunct ++ codes ")"
cond_step names Cond-F.True at = codes "true"
cond_step names Cond-F.False at = codes "false"

-- the text of a condition at a place, in brackets where they are needed there
abbrev pub cond_at : List (List ℕ) → Cond → CondPlace → List ℕ
cond_at names c = fold-Cond (CondPlace → List ℕ) (cond_step names) c

-- the text of a condition alone
abbrev pub cond_text : List (List ℕ) → Cond → List ℕ
cond_text names c = cond_at names c cplace.Disjunct

abbrev pub where_step : List ℕ → Cond-F Cond → List ℕ
where_step text Cond-F.True = []
where_step text _ = codes " where " ++ text

-- `where` and a condition, nothing at the condition True
unfoldable pub where_text : List (List ℕ) → Cond → List ℕ
where_text names c = where_step (cond_text names c) (out-Cond c)

abbrev pub when_step : List ℕ → Expr-F Expr → List ℕ
when_step text Expr-F.True = []
when_step text _ = codes " when " ++ text

-- `when` and the expression of a write, nothing at the expression True
unfoldable pub when_text : List (List ℕ) → Expr → List ℕ
when_text names expr = when_step (exprs.text_of names expr) (out-Expr expr)

abbrev pub rename_text : Option ColName → List ℕ
rename_text None = []
rename_text (Some column) = codes " as " ++ column_text column

abbrev pub item_when_text : List (List ℕ) → Option Expr → List ℕ
item_when_text names None = []
item_when_text names (Some expr) = codes " when " ++ exprs.text_of names expr

abbrev pub item_text : List (List ℕ) → Item → List ℕ
item_text names item = column_text item.column ++ rename_text item.rename ++ item_when_text names item.cond

unfoldable pub items_text : List (List ℕ) → Items → List ℕ
items_text names items.All = codes "*"
items_text names (items.Listed kept) = listed (map (item_text names) kept)

-- whether a chain of `union` and `except` stands there without brackets
unfoldable pub takes_chain : QueryPlace → Bool
takes_chain qplace.Whole = true
takes_chain qplace.Term = false
takes_chain qplace.Source = false
takes_chain qplace.Joined = false
takes_chain qplace.Named = false

-- whether a select stands there without brackets
unfoldable pub takes_select : QueryPlace → Bool
takes_select qplace.Whole = true
takes_select qplace.Term = true
takes_select qplace.Source = false
takes_select qplace.Joined = false
takes_select qplace.Named = false

-- whether a chain of `join` stands there without brackets
unfoldable pub takes_join : QueryPlace → Bool
takes_join qplace.Whole = false
takes_join qplace.Term = false
takes_join qplace.Source = true
takes_join qplace.Joined = false
takes_join qplace.Named = false

-- whether an alias stands there without brackets
unfoldable pub takes_alias : QueryPlace → Bool
takes_alias qplace.Whole = false
takes_alias qplace.Term = false
takes_alias qplace.Source = true
takes_alias qplace.Joined = true
takes_alias qplace.Named = false

-- the text of one layer of a query at a place, where the texts of its parts are known at each
abbrev pub query_step : List (List ℕ) → Query-F (QueryPlace → List ℕ) → QueryPlace → List ℕ
query_step names (Query-F.Table name) at = name
query_step names (Query-F.Select kept source c) at =
    opening (takes_select at) ++ codes "select " ++ items_text names kept ++ codes " from " ++ source qplace.Source ++ where_text names c ++ closing (takes_select at)
query_step names (Query-F.Join left right c) at =
    opening (takes_join at) ++ left qplace.Source ++ codes " join " ++ right qplace.Joined ++ codes " on " ++ cond_text names c ++ closing (takes_join at)
query_step names (Query-F.Union left right) at =
    opening (takes_chain at) ++ left qplace.Whole ++ codes " union " ++ right qplace.Term ++ closing (takes_chain at)
query_step names (Query-F.Except left right) at =
    opening (takes_chain at) ++ left qplace.Whole ++ codes " except " ++ right qplace.Term ++ closing (takes_chain at)
query_step names (Query-F.Alias source name) at =
    opening (takes_alias at) ++ source qplace.Named ++ codes " as " ++ name ++ closing (takes_alias at)
query_step names (Query-F.Choice expr left right) at =
    choice_text names expr ++ left qplace.Whole ++ codes ", " ++ right qplace.Whole ++ codes ")"
query_step names Query-F.Empty at = codes "empty"

-- the text of a query at a place, in brackets where they are needed there
abbrev pub query_at : List (List ℕ) → Query → QueryPlace → List ℕ
query_at names q = fold-Query (QueryPlace → List ℕ) (query_step names) q

-- the text of a query alone
abbrev pub query_text : List (List ℕ) → Query → List ℕ
query_text names q = query_at names q qplace.Whole

abbrev pub row_text : List Operand → List ℕ
row_text row = codes "(" ++ listed (map operand_text row) ++ codes ")"

abbrev pub set_item_text : SetItem → List ℕ
set_item_text item = item.column ++ codes " = " ++ operand_text item.value

-- an insert up to its rows
unfoldable pub insert_text : List ℕ → List (List ℕ) → List ℕ
insert_text table columns = codes "insert into " ++ table ++ codes " (" ++ listed columns ++ codes ") values "

-- an update up to its conditions
unfoldable pub update_text : List ℕ → List SetItem → List ℕ
update_text table changes = codes "update " ++ table ++ codes " set " ++ listed (map set_item_text changes)

abbrev pub write_text : List (List ℕ) → Write → List ℕ
write_text names (write.Insert table columns rows expr) = insert_text table columns ++ listed (map row_text rows) ++ when_text names expr
write_text names (write.Delete table c expr) = codes "delete from " ++ table ++ where_text names c ++ when_text names expr
write_text names (write.Update table changes c expr) = update_text table changes ++ where_text names c ++ when_text names expr

abbrev pub text_of : List (List ℕ) → Statement → List ℕ
text_of names (statement.Query q) = query_text names q
text_of names (statement.Write w) = write_text names w
text_of names statement.Begin = codes "begin"
text_of names statement.Commit = codes "commit"
text_of names statement.Rollback = codes "rollback"
text_of names statement.Set = codes "set x to 0"
