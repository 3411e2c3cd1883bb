-- The tokens of a printed write spell it.
use Rattle.std.proofs.Common.{◌≡◌, ◌⊎◌, inl, inr, ℕ, ◌+◌, ◌<◌, List, [], ◌∷◌, ◌++◌, map, flat_map, length, Some, None, Ok, Bool, true, codes, refl, sym, ap, subst, append_assoc, append-nil, arith}
use Rattle.feature_expr.specs.Names.{refusal}
use Rattle.feature_expr.specs.Printing as exprs
use Rattle.feature_expr.specs.declared.expr.Expr.{Expr, out-Expr, roll-Expr}
use Rattle.feature_expr.specs.declared.expr.Expr as e
use Rattle.feature_expr.specs.declared.expr.Expr.TheFolds.{ind-Expr}
use Rattle.feature_expr.specs.declared.expr.Expr.TheOpen.{Expr-F}
use Rattle.feature_expr.specs.declared.expr.Expr.TheVariants as x
use Rattle.word_tokens.specs.declared.token.Token.{Token}
use Rattle.vra_syntax.specs.declared.cond.Cond.{Cond}
use Rattle.vra_syntax.specs.declared.cond.Operand.{Operand}
use Rattle.vra_syntax.specs.declared.statement.Statement.TheVariants as statement
use Rattle.vra_syntax.specs.declared.write.SetItem.{SetItem}
use Rattle.vra_syntax.specs.declared.write.Write.{Write}
use Rattle.vra_syntax.specs.declared.write.Write.TheVariants as write
use Rattle.query_parser.proofs.HereLaws.{Ends, name_here, value_here, expression_here}
use Rattle.query_parser.proofs.HereParts.{Isnt, reads_as, mark, mark_before, word_before, between, not_or, not_and}
use Rattle.query_parser.proofs.Heres.{Here, space_here}
use Rattle.query_parser.proofs.Printables.{PlainName, PlainNames, PlainValue, PlainValues, PlainExpr, PlainCond, PlainSetItems, PlainRows}
use Rattle.query_printer.proofs.PrintLaws.{map_same}
use Rattle.query_parser.proofs.PrintedConds.{EndsWhere, where_ended, where_ends, where_here}
use Rattle.query_parser.proofs.PrintedTexts.{two_behind, three_behind}
use Rattle.query_parser.specs.Lexemes.{lexeme_at, stands, name_at, value_at}
use Rattle.query_parser.specs.Parts.{IsWhen, no_when, some_when}
use Rattle.query_printer.specs.Printing.{behind_comma, listed, operand_text, where_text, when_step, when_text, row_text, set_item_text, insert_text, update_text, write_text}
use Rattle.query_parser.specs.Statements.{NamesTo, one_name, another_name, ValuesTo, one_value, another_value, IsTuple, TuplesTo, one_tuple, another_tuple, IsSetItem, SetItemsTo, one_set_item, another_set_item, SpellsStatement, insert_statement, delete_statement, update_statement}
use Rattle.query_parser.specs.declared.lexeme.Lexeme.{Lexeme}
use Rattle.query_parser.specs.declared.lexeme.Lexeme.TheVariants as lexeme
use Rattle.query_printer.specs.declared.print_cond.CondPlace.TheVariants as cplace

-- no expression of a write goes on with this token, and there begins none
abbrev pub EndsWhen : Lexeme → Type 0
EndsWhen l = Isnt l lexeme.When × Isnt l lexeme.Or × Isnt l lexeme.And

-- and there goes on no list and no condition
abbrev pub EndsWrite : Lexeme → Type 0
EndsWrite l = EndsWhere l × EndsWhen l × Isnt l lexeme.Comma

-- the parts of a write, with what stands behind it
four_behind : (t a b c d post : List ℕ) → t ≡ a ++ b ++ c ++ d → t ++ post ≡ a ++ (b ++ (c ++ (d ++ post)))
four_behind t a b c d post is = rw is (simp append_assoc refl)

update_behind : (t head a b c d e f post : List ℕ) → head ≡ a ++ b ++ c ++ d → t ≡ head ++ e ++ f → t ++ post ≡ a ++ (b ++ (c ++ (d ++ (e ++ (f ++ post)))))
update_behind t head a b c d e f post is_head is = rw (is, is_head) (simp append_assoc refl)

insert_behind : (t head a b c d e f g post : List ℕ) → head ≡ a ++ b ++ c ++ d ++ e → t ≡ head ++ f ++ g → t ++ post ≡ a ++ (b ++ (c ++ (d ++ (e ++ (f ++ (g ++ post))))))
insert_behind t head a b c d e f g post is_head is = rw (is, is_head) (simp append_assoc refl)

module _ (names : List (List ℕ)) where
  -- an expression behind `when`
  abbrev when_with : Expr → List ℕ → List ℕ
  when_with expr post = codes " when " ++ (exprs.text_of names expr ++ post)

  -- nothing is printed of the expression True
  abbrev PrintedWhen : Expr → Type 0
  PrintedWhen expr = (expr ≡ e.True) ⊎ ((post : List ℕ) → when_text names expr ++ post ≡ when_with expr post)

  when_by : (expr : Expr) (y : Expr-F Expr) (post : List ℕ) → out-Expr expr ≡ y → when_step (exprs.text_of names expr) y ≡ codes " when " ++ exprs.text_of names expr → when_text names expr ++ post ≡ when_with expr post
  unfolding when_text
  when_by expr y post is printed = two_behind (when_step (exprs.text_of names expr) (out-Expr expr)) (codes " when ") (exprs.text_of names expr) post (rw is printed)

  printed_no_when : when_text names e.True ≡ []
  unfolding when_text
  printed_no_when = rw x.outs-True refl

  when_at : (y : Expr-F Expr) → PrintedWhen (roll-Expr y)
  when_at Expr-F.True = inl x.rolls-True
  when_at Expr-F.False = subst PrintedWhen (sym x.rolls-False) (inr (λ post. when_by e.False Expr-F.False post x.outs-False refl))
  when_at (Expr-F.Feature i) = subst PrintedWhen (sym (x.rolls-Feature i)) (inr (λ post. when_by (e.Feature i) (Expr-F.Feature i) post (x.outs-Feature i) refl))
  when_at (Expr-F.Not inner) = subst PrintedWhen (sym (x.rolls-Not inner)) (inr (λ post. when_by (e.Not inner) (Expr-F.Not inner) post (x.outs-Not inner) refl))
  when_at (Expr-F.And left right) = subst PrintedWhen (sym (x.rolls-And left right)) (inr (λ post. when_by (e.And left right) (Expr-F.And left right) post (x.outs-And left right) refl))
  when_at (Expr-F.Or left right) = subst PrintedWhen (sym (x.rolls-Or left right)) (inr (λ post. when_by (e.Or left right) (Expr-F.Or left right) post (x.outs-Or left right) refl))

  when_printed : (expr : Expr) → PrintedWhen expr
  when_printed = ind-Expr PrintedWhen (λ y parts is. when_at y)

  no_when_text : (expr : Expr) (post : List ℕ) → expr ≡ e.True → when_text names expr ++ post ≡ post
  no_when_text expr post is = rw (is, printed_no_when) refl

  ends_by : (expr : Expr) (post : List ℕ) → PrintedWhen expr → Ends post → Ends (when_text names expr ++ post)
  ends_by expr post (inl is) ends = subst (λ (t : List ℕ). Ends t) (sym (no_when_text expr post is)) ends
  ends_by expr post (inr is) ends = subst (λ (t : List ℕ). Ends t) (sym (is post)) (refl, refl)

  pub when_ends : (expr : Expr) (post : List ℕ) → Ends post → Ends (when_text names expr ++ post)
  when_ends expr post ends = ends_by expr post (when_printed expr) ends

  -- what is printed of each write
  abbrev insert_with : List ℕ → List (List ℕ) → List (List Operand) → Expr → List ℕ → List ℕ
  insert_with table columns rows expr post =
      codes "insert" ++ (32 ∷ (codes "into" ++ (32 ∷ (table ++ (32 ∷ 40 ∷ (listed columns ++ (41 ∷ 32 ∷ (codes "values" ++ (32 ∷ (listed (map row_text rows) ++ (when_text names expr ++ post)))))))))))

  printed_insert : (table : List ℕ) (columns : List (List ℕ)) (rows : List (List Operand)) (expr : Expr) (post : List ℕ) → write_text names (write.Insert table columns rows expr) ++ post ≡ insert_with table columns rows expr post
  unfolding insert_text
  printed_insert table columns rows expr post =
      insert_behind (write_text names (write.Insert table columns rows expr)) (insert_text table columns) (codes "insert into ") table (codes " (") (listed columns) (codes ") values ") (listed (map row_text rows)) (when_text names expr) post refl refl

  abbrev delete_with : List ℕ → Cond → Expr → List ℕ → List ℕ
  delete_with table c expr post = codes "delete" ++ (32 ∷ (codes "from" ++ (32 ∷ (table ++ (where_text names c ++ (when_text names expr ++ post))))))

  printed_delete : (table : List ℕ) (c : Cond) (expr : Expr) (post : List ℕ) → write_text names (write.Delete table c expr) ++ post ≡ delete_with table c expr post
  printed_delete table c expr post = four_behind (write_text names (write.Delete table c expr)) (codes "delete from ") table (where_text names c) (when_text names expr) post refl

  abbrev update_with : List ℕ → List SetItem → Cond → Expr → List ℕ → List ℕ
  update_with table changes c expr post =
      codes "update" ++ (32 ∷ (table ++ (codes " set " ++ (listed (map set_item_text changes) ++ (where_text names c ++ (when_text names expr ++ post))))))

  printed_update : (table : List ℕ) (changes : List SetItem) (c : Cond) (expr : Expr) (post : List ℕ) → write_text names (write.Update table changes c expr) ++ post ≡ update_with table changes c expr post
  unfolding update_text
  printed_update table changes c expr post =
      update_behind (write_text names (write.Update table changes c expr)) (update_text table changes) (codes "update ") table (codes " set ") (listed (map set_item_text changes)) (where_text names c) (when_text names expr) post refl refl

module _ (names : List (List ℕ)) (none : refusal names ≡ None) (text : List ℕ) (tokens : List Token) where
  -- an expression behind `when`, or none
  pub record WhenHere (k : ℕ) (expr : Expr) (post : List ℕ) : Type 0 where
    pub end : ℕ
    pub spelled : EndsWhen (lexeme_at text tokens end) → IsWhen names text tokens k expr end
    pub begins : (k ≡ end) ⊎ (lexeme_at text tokens k ≡ lexeme.When)
    pub here : Here text tokens end post

  when_here_by : (expr : Expr) (k : ℕ) (post : List ℕ) → PrintedWhen names expr → PlainExpr names 0 expr → Ends post → Here text tokens k (when_text names expr ++ post) → WhenHere k expr post
  when_here_by expr k post (inl is) plain ends h = record {
    end = k;
    spelled = λ ending. subst (λ (x : Expr). IsWhen names text tokens k x k) (sym is) (no_when ending.0);
    begins = inl refl;
    here = reads_as text tokens k _ _ (no_when_text names expr post is) h;
  }
  when_here_by expr k post (inr is) plain ends h =
      let w = between text tokens k (codes "when") (exprs.text_of names expr ++ post) refl (reads_as text tokens k _ _ (is post) h) in
      let i = expression_here text tokens names none 0 expr (k + 1) post plain ends.0 w.1 in
      record {
        end = i.end;
        spelled = λ ending. some_when expr i.end (rw w.0 refl) (i.spelled (not_or text tokens i.end ending.1) (not_and text tokens i.end ending.2));
        begins = inr w.0;
        here = i.here;
      }

  pub when_here : (expr : Expr) (k : ℕ) (post : List ℕ) → PlainExpr names 0 expr → Ends post → Here text tokens k (when_text names expr ++ post) → WhenHere k expr post
  when_here expr k post plain ends h = when_here_by expr k post (when_printed names expr) plain ends h

more_ends : (texts : List (List ℕ)) (post : List ℕ) → Ends post → Ends (flat_map behind_comma texts ++ post)
more_ends [] post ends = ends
more_ends (t ∷ texts) post ends = (refl, refl)

module _ (text : List ℕ) (tokens : List Token) where
  -- a part that stands there, up to its end
  pub record PartHere (Is : ℕ → Type 0) (post : List ℕ) : Type 0 where
    pub end : ℕ
    pub is : Is end
    pub here : Here text tokens end post

  module _ (A : Type 0) (print : A → List ℕ) (Is : ℕ → A → ℕ → Type 0) where
    -- the text of a part is one, wherever it stands
    abbrev Walks : A → Type 0
    Walks x = (k : ℕ) (post : List ℕ) → Ends post → Here text tokens k (print x ++ post) → PartHere (Is k x) post

    abbrev AllWalk : List A → Type 0
    AllWalk [] = Unit {0}
    AllWalk (x ∷ xs) = Walks x × AllWalk xs

    abbrev more_text : List A → List ℕ
    more_text more = flat_map behind_comma (map print more)

    -- lists of parts with commas between them
    module _ (To : List A → ℕ → Type 0) where
      -- a list goes on behind a comma
      abbrev GoesOn : Type 0
      GoesOn = (before : List A) (at : ℕ) (x : A) (end : ℕ) → To before at → stands text tokens at lexeme.Comma ≡ true → Is (at + 1) x end → To (before ++ x ∷ []) end

      -- more parts, behind those that were read
      more_here : GoesOn → (more before : List A) (k : ℕ) (post : List ℕ) → AllWalk more → Ends post → To before k → Here text tokens k (more_text more ++ post) → PartHere (To (before ++ more)) post
      more_here on [] before k post walks ends read h = rw append-nil (record { end = k; is = read; here = h })
      more_here on (x ∷ more) before k post walks ends read h =
          let rest = more_text more ++ post in
          let m = mark_before text tokens k 44 (print x ++ rest) refl (reads_as text tokens k _ _ (two_behind (more_text (x ∷ more)) (behind_comma (print x)) (more_text more) post refl) h) in
          let i = walks.0 (k + 1) rest (more_ends (map print more) post ends) m.1 in
          let all = more_here on more (before ++ x ∷ []) i.end post walks.1 ends (on before k x i.end read (rw m.0 refl) i.is) i.here in
          subst (λ (parts : List A). PartHere (To parts) post) (append_assoc before (x ∷ []) more) all

      parts_here : (k : ℕ) → ((x : A) (end : ℕ) → Is k x end → To (x ∷ []) end) → GoesOn → (parts : List A) (post : List ℕ) → 0 < length parts → AllWalk parts → Ends post → Here text tokens k (listed (map print parts) ++ post) → PartHere (To parts) post
      parts_here k first on [] post some walks ends h = absurd (omega (arith, some))
      parts_here k first on (x ∷ more) post some walks ends h =
          let rest = more_text more ++ post in
          let i = walks.0 k rest (more_ends (map print more) post ends) (reads_as text tokens k _ _ (two_behind (listed (map print (x ∷ more))) (print x) (more_text more) post refl) h) in
          more_here on more (x ∷ []) i.end post walks.1 ends (first x i.end i.is) i.here

  -- names
  abbrev IsNamed : ℕ → List ℕ → ℕ → Type 0
  IsNamed k name end = (name_at text tokens k ≡ Some name) × (end ≡ k + 1)

  abbrev same_text : List ℕ → List ℕ
  same_text name = name

  names_walk : (names : List (List ℕ)) → PlainNames names → AllWalk (List ℕ) same_text IsNamed names
  names_walk [] plain = tt
  names_walk (name ∷ more) plain = ((λ k post ends h. let n = name_here text tokens name k post plain.0 ends.0 h in record { end = k + 1; is = (n.0, refl); here = n.1 }), names_walk more plain.1)

  first_name : (k : ℕ) (name : List ℕ) (end : ℕ) → IsNamed k name end → NamesTo text tokens k (name ∷ []) end
  first_name k name end is = rw is.1 (one_name name is.0)

  next_name : (k : ℕ) → GoesOn (List ℕ) same_text IsNamed (NamesTo text tokens k)
  next_name k before at name end read comma is =
      let two : end ≡ at + 2 = omega (arith, is.1) in
      rw two (another_name before at name read comma is.0)

  pub names_here : (names : List (List ℕ)) (k : ℕ) (post : List ℕ) → 0 < length names → PlainNames names → Ends post → Here text tokens k (listed names ++ post) → PartHere (NamesTo text tokens k names) post
  names_here names k post some plain ends h =
      parts_here (List ℕ) same_text IsNamed (NamesTo text tokens k) k (first_name k) (next_name k) names post some (names_walk names plain) ends (reads_as text tokens k _ _ (ap (λ (texts : List (List ℕ)). listed texts ++ post) (sym (map_same names))) h)

  module _ (with_params : Bool) where
    -- values
    abbrev IsValue : ℕ → Operand → ℕ → Type 0
    IsValue k v end = (value_at with_params text tokens k ≡ Ok v) × (end ≡ k + 1)

    values_walk : (values : List Operand) → PlainValues with_params values → AllWalk Operand operand_text IsValue values
    values_walk [] plain = tt
    values_walk (v ∷ more) plain = ((λ k post ends h. let t = value_here text tokens with_params v k post plain.0 ends h in record { end = k + 1; is = (t.0, refl); here = t.2 }), values_walk more plain.1)

    first_value : (k : ℕ) (v : Operand) (end : ℕ) → IsValue k v end → ValuesTo with_params text tokens k (v ∷ []) end
    first_value k v end is = rw is.1 (one_value v is.0)

    next_value : (k : ℕ) → GoesOn Operand operand_text IsValue (ValuesTo with_params text tokens k)
    next_value k before at v end read comma is =
        let two : end ≡ at + 2 = omega (arith, is.1) in
        rw two (another_value before at v read comma is.0)

    pub values_here : (values : List Operand) (k : ℕ) (post : List ℕ) → 0 < length values → PlainValues with_params values → Ends post → Here text tokens k (listed (map operand_text values) ++ post) → PartHere (ValuesTo with_params text tokens k values) post
    values_here values k post some plain ends h = parts_here Operand operand_text IsValue (ValuesTo with_params text tokens k) k (first_value k) (next_value k) values post some (values_walk values plain) ends h

    -- rows
    row_behind : (row : List Operand) (post : List ℕ) → row_text row ++ post ≡ 40 ∷ (listed (map operand_text row) ++ (41 ∷ post))
    row_behind row post = simp append_assoc refl

    row_walks : (count : ℕ) (row : List Operand) → 0 < count → length row ≡ count → PlainValues with_params row → Walks (List Operand) row_text (IsTuple with_params text tokens count) row
    row_walks count row some complete plain k post ends h =
        let o = mark text tokens k 40 (listed (map operand_text row) ++ (41 ∷ post)) refl (reads_as text tokens k _ _ (row_behind row post) h) in
        let v = values_here row (k + 1) (41 ∷ post) (omega (arith, some, complete)) plain (refl, refl) o.1 in
        let c = mark text tokens v.end 41 post refl v.here in
        record {
          end = v.end + 1;
          is = record { opens = rw o.0 refl; close = v.end; listed = v.is; closes = rw c.0 refl; complete = complete; ends = refl };
          here = c.1;
        }

    rows_walk : (count : ℕ) (rows : List (List Operand)) → 0 < count → PlainRows with_params count rows → AllWalk (List Operand) row_text (IsTuple with_params text tokens count) rows
    rows_walk count [] some plain = tt
    rows_walk count (row ∷ more) some plain = (row_walks count row some plain.0 plain.1, rows_walk count more some plain.2)

    next_row : (count k : ℕ) → GoesOn (List Operand) row_text (IsTuple with_params text tokens count) (TuplesTo with_params text tokens count k)
    next_row count k before at row end read comma is = another_tuple before at row end read comma is

    pub rows_here : (count : ℕ) (rows : List (List Operand)) (k : ℕ) (post : List ℕ) → 0 < count → 0 < length rows → PlainRows with_params count rows → Ends post → Here text tokens k (listed (map row_text rows) ++ post) → PartHere (TuplesTo with_params text tokens count k rows) post
    rows_here count rows k post some more plain ends h =
        parts_here (List Operand) row_text (IsTuple with_params text tokens count) (TuplesTo with_params text tokens count k) k (λ row end is. one_tuple row end is) (next_row count k) rows post more (rows_walk count rows some plain) ends h

    -- the columns of an update
    abbrev IsChange : ℕ → SetItem → ℕ → Type 0
    IsChange k item end = IsSetItem with_params text tokens k item × (end ≡ k + 3)

    change_walks : (item : SetItem) → PlainName item.column → PlainValue with_params item.value → Walks SetItem set_item_text IsChange item
    change_walks item name plain k post ends h =
        let rest = operand_text item.value ++ post in
        let n = name_here text tokens item.column k (codes " = " ++ rest) name refl (reads_as text tokens k _ _ (three_behind (set_item_text item) item.column (codes " = ") (operand_text item.value) post refl) h) in
        let s = mark_before text tokens (k + 1) 61 rest refl (space_here text tokens (k + 1) (61 ∷ 32 ∷ rest) n.1) in
        let second : k + 1 + 1 ≡ k + 2 = omega arith in
        let third : k + 2 + 1 ≡ k + 3 = omega arith in
        let v = value_here text tokens with_params item.value (k + 2) post plain ends (rw second at s.1) in
        record { end = k + 3; is = (record { named = n.0; equals = rw s.0 refl; valued = v.0 }, refl); here = rw third at v.2 }

    changes_walk : (changes : List SetItem) → PlainSetItems with_params changes → AllWalk SetItem set_item_text IsChange changes
    changes_walk [] plain = tt
    changes_walk (item ∷ more) plain = (change_walks item plain.0 plain.1, changes_walk more plain.2)

    first_change : (k : ℕ) (item : SetItem) (end : ℕ) → IsChange k item end → SetItemsTo with_params text tokens k (item ∷ []) end
    first_change k item end is = rw is.1 (one_set_item item is.0)

    next_change : (k : ℕ) → GoesOn SetItem set_item_text IsChange (SetItemsTo with_params text tokens k)
    next_change k before at item end read comma is =
        let four : end ≡ at + 4 = omega (arith, is.1) in
        rw four (another_set_item before at item read comma is.0)

    pub changes_here : (changes : List SetItem) (k : ℕ) (post : List ℕ) → 0 < length changes → PlainSetItems with_params changes → Ends post → Here text tokens k (listed (map set_item_text changes) ++ post) → PartHere (SetItemsTo with_params text tokens k changes) post
    changes_here changes k post some plain ends h =
        parts_here SetItem set_item_text IsChange (SetItemsTo with_params text tokens k) k (first_change k) (next_change k) changes post some (changes_walk changes plain) ends h

module _ (with_params : Bool) (names : List (List ℕ)) (none : refusal names ≡ None) (text : List ℕ) (tokens : List Token) where
  -- a write that stands there, where it doesn't go on with the token behind it
  pub record WriteHere (k : ℕ) (w : Write) (post : List ℕ) : Type 0 where
    pub end : ℕ
    pub spelled : EndsWrite (lexeme_at text tokens end) → SpellsStatement with_params names text tokens k (statement.Write w) end
    pub here : Here text tokens end post

  -- behind the last list or condition of a write stands `when`, or its end
  before_when : (k end : ℕ) → (k ≡ end) ⊎ (lexeme_at text tokens k ≡ lexeme.When) → EndsWrite (lexeme_at text tokens end) → EndsWhere (lexeme_at text tokens k) × Isnt (lexeme_at text tokens k) lexeme.Comma
  before_when k end (inl same) ending = rw same (ending.0, ending.2)
  before_when k end (inr is) ending = rw is (where_ended lexeme.When refl, refl)

  before_where : (k end : ℕ) → (k ≡ end) ⊎ (lexeme_at text tokens k ≡ lexeme.Where) → Isnt (lexeme_at text tokens end) lexeme.Comma → Isnt (lexeme_at text tokens k) lexeme.Comma
  before_where k end (inl same) ending = rw same ending
  before_where k end (inr is) ending = rw is refl

  pub insert_here : (table : List ℕ) (columns : List (List ℕ)) (rows : List (List Operand)) (expr : Expr) (k : ℕ) (post : List ℕ) → PlainName table → 0 < length columns → PlainNames columns → 0 < length rows → PlainRows with_params (length columns) rows → PlainExpr names 0 expr → Ends post → Here text tokens k (write_text names (write.Insert table columns rows expr) ++ post) → WriteHere k (write.Insert table columns rows expr) post
  insert_here table columns rows expr k post plain some plain_columns more plain_rows plain_expr ends h =
      let tail = when_text names expr ++ post in
      let given = listed (map row_text rows) ++ tail in
      let behind = 41 ∷ 32 ∷ (codes "values" ++ (32 ∷ given)) in
      let i = word_before text tokens k (codes "insert") (codes "into" ++ (32 ∷ (table ++ (32 ∷ 40 ∷ (listed columns ++ behind))))) refl (reads_as text tokens k _ _ (printed_insert names table columns rows expr post) h) in
      let into = word_before text tokens (k + 1) (codes "into") (table ++ (32 ∷ 40 ∷ (listed columns ++ behind))) refl i.1 in
      let t = name_here text tokens table (k + 1 + 1) (32 ∷ 40 ∷ (listed columns ++ behind)) plain refl into.1 in
      let third : k + 1 + 1 + 1 ≡ k + 1 + 2 = omega arith in
      let fourth : k + 1 + 2 + 1 ≡ k + 1 + 3 = omega arith in
      let o = mark text tokens (k + 1 + 2) 40 (listed columns ++ behind) refl (space_here text tokens (k + 1 + 2) (40 ∷ (listed columns ++ behind)) (rw third at t.1)) in
      let n = names_here text tokens columns (k + 1 + 3) behind some plain_columns (refl, refl) (rw fourth at o.1) in
      let c = mark_before text tokens n.end 41 (codes "values" ++ (32 ∷ given)) refl n.here in
      let v = word_before text tokens (n.end + 1) (codes "values") given refl c.1 in
      let second : n.end + 1 + 1 ≡ n.end + 2 = omega arith in
      let r = rows_here text tokens with_params (length columns) rows (n.end + 2) tail some more plain_rows (when_ends names expr post ends) (rw second at v.1) in
      let w = when_here names none text tokens expr r.end post plain_expr ends r.here in
      record {
        end = w.end;
        spelled = λ ending. insert_statement table columns rows expr w.end (rw i.0 refl) (record {
          into = rw into.0 refl;
          named = t.0;
          opens = rw o.0 refl;
          close = n.end;
          listed = n.is;
          closes = rw c.0 refl;
          values = rw v.0 refl;
          last = r.end;
          given = r.is;
          no_more = (before_when r.end w.end w.begins ending).1;
          condition = w.spelled ending.1;
        });
        here = w.here;
      }

  pub delete_here : (table : List ℕ) (c : Cond) (expr : Expr) (k : ℕ) (post : List ℕ) → PlainName table → PlainCond with_params names 0 cplace.Disjunct c → PlainExpr names 0 expr → Ends post → Here text tokens k (write_text names (write.Delete table c expr) ++ post) → WriteHere k (write.Delete table c expr) post
  delete_here table c expr k post plain plain_c plain_expr ends h =
      let tail = when_text names expr ++ post in
      let rest = where_text names c ++ tail in
      let tail_ends = when_ends names expr post ends in
      let rest_ends = where_ends with_params names none text tokens 0 c tail plain_c tail_ends in
      let d = word_before text tokens k (codes "delete") (codes "from" ++ (32 ∷ (table ++ rest))) refl (reads_as text tokens k _ _ (printed_delete names table c expr post) h) in
      let from = word_before text tokens (k + 1) (codes "from") (table ++ rest) refl d.1 in
      let t = name_here text tokens table (k + 1 + 1) rest plain rest_ends.0 from.1 in
      let third : k + 1 + 1 + 1 ≡ k + 1 + 2 = omega arith in
      let v = where_here with_params names none text tokens 0 c (k + 1 + 2) tail plain_c tail_ends (rw third at t.1) in
      let w = when_here names none text tokens expr v.end post plain_expr ends v.here in
      record {
        end = w.end;
        spelled = λ ending. delete_statement table c expr w.end (rw d.0 refl) (record {
          from = rw from.0 refl;
          named = t.0;
          last = v.end;
          chosen = v.spelled (before_when v.end w.end w.begins ending).0;
          condition = w.spelled ending.1;
        });
        here = w.here;
      }

  pub update_here : (table : List ℕ) (changes : List SetItem) (c : Cond) (expr : Expr) (k : ℕ) (post : List ℕ) → PlainName table → 0 < length changes → PlainSetItems with_params changes → PlainCond with_params names 0 cplace.Disjunct c → PlainExpr names 0 expr → Ends post → Here text tokens k (write_text names (write.Update table changes c expr) ++ post) → WriteHere k (write.Update table changes c expr) post
  update_here table changes c expr k post plain some plain_changes plain_c plain_expr ends h =
      let tail = when_text names expr ++ post in
      let rest = where_text names c ++ tail in
      let given = listed (map set_item_text changes) ++ rest in
      let tail_ends = when_ends names expr post ends in
      let rest_ends = where_ends with_params names none text tokens 0 c tail plain_c tail_ends in
      let u = word_before text tokens k (codes "update") (table ++ (codes " set " ++ given)) refl (reads_as text tokens k _ _ (printed_update names table changes c expr post) h) in
      let t = name_here text tokens table (k + 1) (codes " set " ++ given) plain refl u.1 in
      let set = between text tokens (k + 1 + 1) (codes "set") given refl t.1 in
      let third : k + 1 + 1 + 1 ≡ k + 1 + 2 = omega arith in
      let s = changes_here text tokens with_params changes (k + 1 + 2) rest some plain_changes rest_ends (rw third at set.1) in
      let v = where_here with_params names none text tokens 0 c s.end tail plain_c tail_ends s.here in
      let w = when_here names none text tokens expr v.end post plain_expr ends v.here in
      record {
        end = w.end;
        spelled = λ ending. let b = before_when v.end w.end w.begins ending in update_statement table changes c expr w.end (rw u.0 refl) (record {
          named = t.0;
          sets = rw set.0 refl;
          behind = s.end;
          listed = s.is;
          no_more = before_where s.end v.end v.begins b.1;
          last = v.end;
          chosen = v.spelled b.0;
          condition = w.spelled ending.1;
        });
        here = w.here;
      }
