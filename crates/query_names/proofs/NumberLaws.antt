-- The numbers of tables by their names.
use Rattle.std.proofs.Common.{Bool, true, false, ◌≡◌, ℕ, ◌+◌, ◌∙◌, sym, cond, List, [], ◌∷◌, ◌++◌, length, Option, Some, None, position, refl, arith, ◌<◌, ◌≤◌, ap, get_or, take}
use Rattle.std.specs.List.{position_from}
use Rattle.std.specs.Option.{is_some}
use Rattle.std.proofs.lemmas.Grind.{take_at_read}
use Rattle.std.proofs.lemmas.List.{length-take-le}
use Rattle.std.specs.Cmp.Lexicographic.{slice_cmp}
use Rattle.std.specs.Ordering.{is_eq, nat_cmp}
use Rattle.std.specs.Str.{bytes_eq}
use Rattle.std.proofs.lemmas.Map.Text.{is_eq-slice_cmp}
use Rattle.std.proofs.lemmas.Slice.Eq.{bytes_eq-Decides}
use Rattle.std.proofs.lemmas.Iterator.Adapters.{position_from-zero}
use Rattle.query_meaning.specs.Sources.{number_of}
use Rattle.query_names.specs.TableNumbers.{first_number}
use Rattle.vschema.specs.declared.catalog.Table.{Table}

-- the first place of what passes a test, when one item comes behind the others
module _ {X : Type 0} (p : X → Bool) (x : X) where
  abbrev or_here : ℕ → Option ℕ → Option ℕ
  or_here place None = cond (p x) (Some place) None
  or_here place (Some earlier) = Some earlier

  from_at : (i : ℕ) (y : X) (xs : List X) (b : Bool) → p y ≡ b → position_from p (i + 1) (xs ++ x ∷ []) ≡ or_here ((i + 1) + length xs) (position_from p (i + 1) xs) → position_from p i ((y ∷ xs) ++ x ∷ []) ≡ or_here (i + length (y ∷ xs)) (position_from p i (y ∷ xs))
  from_at i y xs true is more = rw is refl
  from_at i y xs false is more =
      let e : i + length (y ∷ xs) ≡ (i + 1) + length xs = omega arith in
      rw (is, e) more

  from : (i : ℕ) (xs : List X) → position_from p i (xs ++ x ∷ []) ≡ or_here (i + length xs) (position_from p i xs)
  from i [] = let e : i + 0 ≡ i = omega arith in rw e refl
  from i (y ∷ xs) = from_at i y xs (p y) refl (from (i + 1) xs)

  pub position_more : (xs : List X) → position p (xs ++ x ∷ []) ≡ or_here (length xs) (position p xs)
  position_more xs =
      let e : 0 + length xs ≡ length xs = omega arith in
      rw (position_from-zero p (xs ++ x ∷ []), position_from-zero p xs) (rw e at (from 0 xs))

same_or : (name asked : List ℕ) (number : ℕ) (o : Option ℕ) (table : Table) → table.name ≡ name → or_here (λ (t : Table). bytes_eq t.name asked) table number o ≡ first_number name number asked o
same_or name asked number None table is = rw is refl
same_or name asked number (Some earlier) table is = refl

-- one more table has the next number, unless an earlier one has its name
pub numbered_more : (tables : List Table) (table : Table) (asked : List ℕ) → number_of (tables ++ table ∷ []) asked ≡ first_number table.name (length tables) asked (number_of tables asked)
numbered_more tables table asked = position_more (λ (t : Table). bytes_eq t.name asked) table tables ∙ same_or table.name asked (length tables) (number_of tables asked) table refl

put_at : (name asked : List ℕ) (number : ℕ) (before : Option ℕ) (b : Bool) → bytes_eq name asked ≡ b → (b ≡ true → before ≡ None) → cond b (Some number) before ≡ first_number name number asked before
put_at name asked number (Some earlier) true is none = absurd (let e : Some earlier ≡ None = none refl in cc e)
put_at name asked number None true is none = rw is refl
put_at name asked number (Some earlier) false is none = refl
put_at name asked number None false is none = rw is refl

-- what a map has under a name once the number was put under another one that it hadn't
pub put_first : (name key asked : List ℕ) (number : ℕ) (here before after : Option ℕ) → key ≡ name → here ≡ None → (name ≡ asked → before ≡ here) → after ≡ cond (is_eq (slice_cmp nat_cmp key asked)) (Some number) before → after ≡ first_number name number asked before
put_first name key asked number here before after same none at new =
    let t : is_eq (slice_cmp nat_cmp key asked) ≡ bytes_eq name asked = is_eq-slice_cmp key asked ∙ rw same refl in
    let e : after ≡ cond (bytes_eq name asked) (Some number) before = rw t at new in
    e ∙ put_at name asked number before (bytes_eq name asked) refl (λ is. at ((bytes_eq-Decides name asked).0 is) ∙ none)

pub none_here : (found : Option ℕ) {is : Bool} → is ≡ is_some found → is ≡ false → found ≡ None
none_here None same isnt = refl
none_here (Some number) same isnt = absurd (let e : true ≡ false = sym same ∙ isnt in cc e)

-- the numbers of one more table of a list
pub numbered_at : (tables : List Table) (place : ℕ) (table : Table) (asked : List ℕ) (before after : Option ℕ) → place < length tables → table ≡ get_or tables place table → before ≡ number_of (take place tables) asked → after ≡ first_number table.name place asked before → after ≡ number_of (take (place + 1) tables) asked
numbered_at tables place table asked before after below here earlier new =
    let t : take (place + 1) tables ≡ take place tables ++ table ∷ [] = (take_at_read tables place table below).1 ∙ ap (λ (x : Table). take place tables ++ x ∷ []) (sym here) in
    let n : length (take place tables) ≡ place = length-take-le place tables (let l : place ≤ length tables = omega (arith, below) in l) in
    let e : after ≡ first_number table.name place asked (number_of (take place tables) asked) = new ∙ ap (first_number table.name place asked) earlier in
    e ∙ sym (ap (λ (xs : List Table). number_of xs asked) t ∙ numbered_more (take place tables) table asked ∙ ap (λ k. first_number table.name k asked (number_of (take place tables) asked)) n)
