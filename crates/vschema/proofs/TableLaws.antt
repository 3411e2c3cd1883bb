-- The numbers of tables by their names.
use Rattle.std.proofs.Common.{Bool, true, false, ◌≡◌, ℕ, ◌+◌, ◌∙◌, sym, cond, List, [], ◌∷◌, ◌++◌, length, Option, Some, None, position, refl, arith}
use Rattle.std.specs.List.{position_from}
use Rattle.std.specs.Ordering.{is_eq, nat_cmp}
use Rattle.std.specs.Cmp.Lexicographic.{slice_cmp}
use Rattle.std.specs.Str.{bytes_eq}
use Rattle.std.proofs.lemmas.Iterator.Adapters.{position_from-zero}
use Rattle.std.proofs.lemmas.Map.Text.{is_eq-slice_cmp}
use Rattle.std.proofs.lemmas.Slice.Eq.{bytes_eq-Decides}
use Rattle.vschema.specs.Spelling.{table_place}
use Rattle.vschema.specs.declared.catalog.Table.{Table}

module _ {X : Type 0} (p : X → Bool) (x : X) where
  from_new_at : (i : ℕ) (y : X) (xs : List X) (b : Bool) → p y ≡ b → (position_from p (i + 1) xs ≡ None → position_from p (i + 1) (xs ++ x ∷ []) ≡ cond (p x) (Some ((i + 1) + length xs)) None) → position_from p i (y ∷ xs) ≡ None → position_from p i ((y ∷ xs) ++ x ∷ []) ≡ cond (p x) (Some (i + length (y ∷ xs))) None
  from_new_at i y xs true is more none = let q : Some i ≡ None = rw is at none in absurd (cc q)
  from_new_at i y xs false is more none =
      let q : position_from p (i + 1) xs ≡ None = rw is at none in
      let e : i + length (y ∷ xs) ≡ (i + 1) + length xs = omega arith in
      rw (is, e) (more q)

  from_new : (i : ℕ) (xs : List X) → position_from p i xs ≡ None → position_from p i (xs ++ x ∷ []) ≡ cond (p x) (Some (i + length xs)) None
  from_new i [] none = let e : i + 0 ≡ i = omega arith in rw e refl
  from_new i (y ∷ xs) none = from_new_at i y xs (p y) refl (from_new (i + 1) xs) none

  from_old_at : (i k : ℕ) (y : X) (xs : List X) (b : Bool) → p y ≡ b → (position_from p (i + 1) xs ≡ Some k → position_from p (i + 1) (xs ++ x ∷ []) ≡ Some k) → position_from p i (y ∷ xs) ≡ Some k → position_from p i ((y ∷ xs) ++ x ∷ []) ≡ Some k
  from_old_at i k y xs true is more some = let q : Some i ≡ Some k = rw is at some in rw is q
  from_old_at i k y xs false is more some = let q : position_from p (i + 1) xs ≡ Some k = rw is at some in rw is (more q)

  from_old : (i k : ℕ) (xs : List X) → position_from p i xs ≡ Some k → position_from p i (xs ++ x ∷ []) ≡ Some k
  from_old i k [] some = absurd (cc some)
  from_old i k (y ∷ xs) some = from_old_at i k y xs (p y) refl (from_old (i + 1) k xs) some

  from_zero : (xs : List X) → position p xs ≡ position_from p 0 xs
  from_zero xs = position_from-zero p xs

  pub position_new : (xs : List X) → position p xs ≡ None → position p (xs ++ x ∷ []) ≡ cond (p x) (Some (length xs)) None
  position_new xs none = let e : 0 + length xs ≡ length xs = omega arith in from_zero (xs ++ x ∷ []) ∙ rw e at (from_new 0 xs (sym (from_zero xs) ∙ none))

  pub position_old : (k : ℕ) (xs : List X) → position p xs ≡ Some k → position p (xs ++ x ∷ []) ≡ Some k
  position_old k xs some = from_zero (xs ++ x ∷ []) ∙ from_old 0 k xs (sym (from_zero xs) ∙ some)

place_more : (tables : List Table) (table : Table) (q : List ℕ) (b : Bool) (o : Option ℕ) → bytes_eq table.name q ≡ b → table_place table.name tables ≡ None → table_place q tables ≡ o → table_place q (tables ++ table ∷ []) ≡ cond b (Some (length tables)) o
place_more tables table q true o is fresh before =
    let same : table.name ≡ q = (bytes_eq-Decides table.name q).0 is in
    position_new (λ (t : Table). bytes_eq t.name q) table tables (rw same at fresh) ∙ rw is refl
place_more tables table q false None is fresh before = position_new (λ (t : Table). bytes_eq t.name q) table tables before ∙ rw is refl
place_more tables table q false (Some k) is fresh before = position_old (λ (t : Table). bytes_eq t.name q) table k tables before

-- one more table has the next number
pub numbered_more : (tables all : List Table) (table : Table) (name q : List ℕ) (number : ℕ) (before after : Option ℕ) → table_place table.name tables ≡ None → name ≡ table.name → number ≡ length tables → all ≡ tables ++ table ∷ [] → before ≡ table_place q tables → after ≡ cond (is_eq (slice_cmp nat_cmp name q)) (Some number) before → after ≡ table_place q all
numbered_more tables all table name q number before after fresh named counted is old new =
    let t : is_eq (slice_cmp nat_cmp name q) ≡ bytes_eq table.name q = is_eq-slice_cmp name q ∙ rw named refl in
    let e : after ≡ cond (bytes_eq table.name q) (Some (length tables)) before = rw (t, counted) at new in
    e ∙ sym (rw is (place_more tables table q (bytes_eq table.name q) before refl fresh (sym old)))
