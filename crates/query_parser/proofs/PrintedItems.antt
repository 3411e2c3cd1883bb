-- The tokens of the printed items of a select spell them.
use Rattle.std.proofs.Common.{◌≡◌, ◌⊎◌, inl, inr, ℕ, ◌+◌, List, [], ◌∷◌, ◌++◌, map, flat_map, Option, Some, None, true, false, codes, refl, subst, append_assoc, append-nil, arith}
use Rattle.feature_expr.specs.Names.{refusal}
use Rattle.feature_expr.specs.Printing as exprs
use Rattle.values.specs.declared.column_name.ColName.{ColName}
use Rattle.feature_expr.specs.declared.expr.Expr.{Expr}
use Rattle.word_tokens.specs.declared.token.Token.{Token}
use Rattle.word_tokens.proofs.StandLaws.{EndsWord}
use Rattle.vra_syntax.specs.declared.items.Item.{Item}
use Rattle.vra_syntax.specs.declared.items.Items.{Items}
use Rattle.vra_syntax.specs.declared.items.Items.TheVariants as items
use Rattle.query_parser.proofs.HereLaws.{column_here, expression_here}
use Rattle.query_parser.proofs.HereParts.{Isnt, reads_as, mark, mark_before, between, not_or, not_and}
use Rattle.query_parser.proofs.Heres.{Here}
use Rattle.query_parser.proofs.Printables.{PlainRename, PlainItemWhen, PlainItem, PlainItemList, PlainItems}
use Rattle.query_parser.proofs.PrintedTexts.{two_behind, three_behind}
use Rattle.query_parser.proofs.SignLaws.{name_takes}
use Rattle.query_parser.specs.Lexemes.{lexeme_at, stands, is_name}
use Rattle.query_parser.specs.Parts.{IsColumn, plain_column, prefixed_column, IsRename, no_rename, some_rename, IsItemWhen, no_item_when, some_item_when, IsItem, ItemsTo, one_item, another_item, AreItems, all_items, listed_items}
use Rattle.query_printer.specs.Printing.{behind_comma, listed, column_text, rename_text, item_when_text, item_text, items_text}
use Rattle.query_parser.specs.declared.lexeme.Lexeme.{Lexeme}
use Rattle.query_parser.specs.declared.lexeme.Lexeme.TheVariants as lexeme

-- no item goes on with this token
abbrev pub EndsItem : Lexeme → Type 0
EndsItem l = Isnt l lexeme.Dot × Isnt l lexeme.As × Isnt l lexeme.When × Isnt l lexeme.Or × Isnt l lexeme.And

-- no column and no new name go on with it
abbrev pub EndsRename : Lexeme → Type 0
EndsRename l = Isnt l lexeme.Dot × Isnt l lexeme.As

name_no_star : (l : Lexeme) → is_name l ≡ true → Isnt l lexeme.Star
name_no_star lexeme.Star is = absurd (cc is)
name_no_star _ is = refl

rename_ends : (rename : Option ColName) (post : List ℕ) → EndsWord post → EndsWord (rename_text rename ++ post)
rename_ends None post ends = ends
rename_ends (Some column) post ends = refl

module _ (names : List (List ℕ)) where
  when_ends : (condition : Option Expr) (post : List ℕ) → EndsWord post → EndsWord (item_when_text names condition ++ post)
  when_ends None post ends = ends
  when_ends (Some expr) post ends = refl

  -- the texts of more items
  abbrev pub more_text : List Item → List ℕ
  more_text more = flat_map behind_comma (map (item_text names) more)

  more_ends : (more : List Item) (post : List ℕ) → EndsWord post → EndsWord (more_text more ++ post)
  more_ends [] post ends = ends
  more_ends (item ∷ more) post ends = refl

module _ (names : List (List ℕ)) (none : refusal names ≡ None) (text : List ℕ) (tokens : List Token) where
  column_no_star : (k end : ℕ) (column : ColName) → IsColumn text tokens k column end → stands text tokens k lexeme.Star ≡ false
  column_no_star k end column (plain_column base named dot) = name_no_star (lexeme_at text tokens k) (name_takes text tokens k base named)
  column_no_star k end column (prefixed_column prefix base named dot named') = name_no_star (lexeme_at text tokens k) (name_takes text tokens k prefix named)

  record RenameHere (k : ℕ) (rename : Option ColName) (post : List ℕ) : Type 0 where
    end : ℕ
    spelled : EndsRename (lexeme_at text tokens end) → IsRename text tokens k rename end
    begins : (k ≡ end) ⊎ (lexeme_at text tokens k ≡ lexeme.As)
    here : Here text tokens end post

  rename_here : (rename : Option ColName) (k : ℕ) (post : List ℕ) → PlainRename rename → EndsWord post → Here text tokens k (rename_text rename ++ post) → RenameHere k rename post
  rename_here None k post plain ends h = record { end = k; spelled = λ e. no_rename e.1; begins = inl refl; here = h }
  rename_here (Some column) k post plain ends h =
      let w = between text tokens k (codes "as") (column_text column ++ post) refl h in
      let i = column_here text tokens column (k + 1) post plain ends w.1 in
      record { end = i.end; spelled = λ e. some_rename column i.end (rw w.0 refl) (i.spelled e.0); begins = inr w.0; here = i.here }

  record ItemWhenHere (n k : ℕ) (condition : Option Expr) (post : List ℕ) : Type 0 where
    end : ℕ
    spelled : EndsItem (lexeme_at text tokens end) → IsItemWhen names text tokens n k condition end
    begins : (k ≡ end) ⊎ (lexeme_at text tokens k ≡ lexeme.When)
    here : Here text tokens end post

  item_when_here : (n : ℕ) (condition : Option Expr) (k : ℕ) (post : List ℕ) → PlainItemWhen names n condition → EndsWord post → Here text tokens k (item_when_text names condition ++ post) → ItemWhenHere n k condition post
  item_when_here n None k post plain ends h = record { end = k; spelled = λ e. no_item_when e.2; begins = inl refl; here = h }
  item_when_here n (Some expr) k post plain ends h =
      let w = between text tokens k (codes "when") (exprs.text_of names expr ++ post) refl h in
      let i = expression_here text tokens names none n expr (k + 1) post plain ends w.1 in
      record { end = i.end; spelled = λ e. some_item_when expr i.end (rw w.0 refl) (i.spelled (not_or text tokens i.end e.3) (not_and text tokens i.end e.4)); begins = inr w.0; here = i.here }

  -- an item, where none of its parts goes on with the token behind it
  pub record ItemHere (n k : ℕ) (item : Item) (post : List ℕ) : Type 0 where
    pub end : ℕ
    pub spelled : EndsItem (lexeme_at text tokens end) → IsItem names text tokens n k item end
    pub here : Here text tokens end post

  behind_rename : (k end : ℕ) → (k ≡ end) ⊎ (lexeme_at text tokens k ≡ lexeme.When) → EndsItem (lexeme_at text tokens end) → EndsRename (lexeme_at text tokens k)
  behind_rename k end (inl same) e = rw same (e.0, e.1)
  behind_rename k end (inr is) e = rw is (refl, refl)

  behind_column : (k end : ℕ) → (k ≡ end) ⊎ (lexeme_at text tokens k ≡ lexeme.As) → EndsRename (lexeme_at text tokens end) → Isnt (lexeme_at text tokens k) lexeme.Dot
  behind_column k end (inl same) e = rw same e.0
  behind_column k end (inr is) e = rw is refl

  pub item_here : (n : ℕ) (item : Item) (k : ℕ) (post : List ℕ) → PlainItem names n item → EndsWord post → Here text tokens k (item_text names item ++ post) → ItemHere n k item post
  item_here n item k post plain ends h =
      let a = column_text item.column in
      let b = rename_text item.rename in
      let d = item_when_text names item.cond in
      let ends_d = when_ends names item.cond post ends in
      let c = column_here text tokens item.column k (b ++ (d ++ post)) plain.column (rename_ends item.rename (d ++ post) ends_d) (reads_as text tokens k _ _ (three_behind (item_text names item) a b d post refl) h) in
      let r = rename_here item.rename c.end (d ++ post) plain.rename ends_d c.here in
      let w = item_when_here n item.cond r.end post plain.condition ends r.here in
      record {
        end = w.end;
        spelled = λ e. let e' = behind_rename r.end w.end w.begins e in record { behind = c.end; named = c.spelled (behind_column c.end r.end r.begins e'); last = r.end; renamed = r.spelled e'; condition = w.spelled e };
        here = w.here;
      }

  -- items from one place on
  pub record ItemsHere (n from : ℕ) (kept : List Item) (post : List ℕ) : Type 0 where
    pub end : ℕ
    pub spelled : EndsItem (lexeme_at text tokens end) → ItemsTo names text tokens n from kept end
    pub here : Here text tokens end post

  -- more of them, behind those that were read
  more_here : (n from : ℕ) (more before : List Item) (k : ℕ) (post : List ℕ) → PlainItemList names n more → EndsWord post → (EndsItem (lexeme_at text tokens k) → ItemsTo names text tokens n from before k) → Here text tokens k (more_text names more ++ post) → ItemsHere n from (before ++ more) post
  more_here n from [] before k post plain ends read h = rw append-nil (record { end = k; spelled = read; here = h })
  more_here n from (item ∷ more) before k post plain ends read h =
      let rest = more_text names more ++ post in
      let m = mark_before text tokens k 44 (item_text names item ++ rest) refl (reads_as text tokens k _ _ (two_behind (more_text names (item ∷ more)) (behind_comma (item_text names item)) (more_text names more) post refl) h) in
      let i = item_here n item (k + 1) rest plain.0 (more_ends names more post ends) m.1 in
      let all = more_here n from more (before ++ item ∷ []) i.end post plain.1 ends (λ e. another_item before k item i.end (read (rw m.0 (refl, refl, refl, refl, refl))) (rw m.0 refl) (i.spelled e)) i.here in
      subst (λ (kept : List Item). ItemsHere n from kept post) (append_assoc before (item ∷ []) more) all

  -- what a select keeps, up to the word `from`
  pub record KeptHere (n k : ℕ) (kept : Items) (post : List ℕ) : Type 0 where
    pub end : ℕ
    pub spelled : lexeme_at text tokens end ≡ lexeme.From → AreItems names text tokens n k kept end
    pub here : Here text tokens end post

  pub items_here : (n : ℕ) (kept : Items) (k : ℕ) (post : List ℕ) → PlainItems names n kept → EndsWord post → Here text tokens k (items_text names kept ++ post) → KeptHere n k kept post
  unfolding items_text
  items_here n items.All k post plain ends h =
      let m = mark text tokens k 42 post refl h in
      record { end = k + 1; spelled = λ e. all_items (rw m.0 refl); here = m.1 }
  items_here n (items.Listed []) k post plain ends h = absurd (omega (arith, plain.0))
  items_here n (items.Listed (item ∷ more)) k post plain ends h =
      let rest = more_text names more ++ post in
      let i = item_here n item k rest plain.1.0 (more_ends names more post ends) (reads_as text tokens k _ _ (two_behind (listed (map (item_text names) (item ∷ more))) (item_text names item) (more_text names more) post refl) h) in
      let all = more_here n k more (item ∷ []) i.end post plain.1.1 ends (λ e. one_item item i.end (i.spelled e)) i.here in
      record {
        end = all.end;
        spelled = λ from. let is = all.spelled (rw from (refl, refl, refl, refl, refl)) in listed_items (item ∷ more) all.end (begins k all.end (item ∷ more) is) is (rw from refl);
        here = all.here;
      }
    where
      begins : (k' end : ℕ) (kept : List Item) → ItemsTo names text tokens n k' kept end → stands text tokens k' lexeme.Star ≡ false
      begins k' end kept (one_item item' last is) = column_no_star k' is.behind item'.column is.named
      begins k' end kept (another_item before at item' last all is_comma is) = begins k' at before all
