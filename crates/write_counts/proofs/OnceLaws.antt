-- Lists of cells, each once, as a set of them has them.
use Rattle.std.proofs.Common.{◌≡◌, ℕ, ℤ, Bool, true, false, if◌then◌else◌, Decides, List, [], ◌∷◌, ◌++◌, map, Option, Some, None, refl, sym, ap, subst, rules, inl, inr}
use Rattle.std.proofs.lemmas.Bool.Decides.{Decides-int_eq, Decides-eqb}
use Rattle.std.proofs.lemmas.List.{map-append}
use Rattle.std.proofs.lemmas.Slice.Eq.{slice_eq-Decides}
use Rattle.std.specs.Cmp.{booleans_Decides}
use Rattle.std.specs.Cmp.Lexicographic.{pointwise}
use Rattle.std.specs.Global.{Vec}
use Rattle.std.specs.List.{list_any}
use Rattle.std.specs.Option.{option_eq}
use Rattle.indexmap.specs.IndexSet.{insert_key}
use Rattle.row_conditions.proofs.BoolLaws.{or_cases, neither}
use Rattle.values.specs.contracts.value.ValuePartialEq.TheImpl.{eq-value}
use Rattle.values.specs.declared.value.Value.{Value}
use Rattle.values.specs.declared.value.Value.TheVariants as value
use Rattle.write_counts.specs.Counts.{AreDistinct}
use Rattle.write_counts.specs.Lists.{AreOnce}
use Rattle.write_meaning.proofs.SetLaws.{has_left, has_right, has_cases}
use Rattle.write_meaning.specs.Members.{Has}

int_is : (a b : ℤ) → value.Int a ≡ value.Int b → a ≡ b
int_is a b is = cc is

text_is : (a b : List ℕ) → value.Text a ≡ value.Text b → a ≡ b
text_is a b is = cc is

truth_is : (a b : Bool) → value.Bool a ≡ value.Bool b → a ≡ b
truth_is a b is = cc is

some_is : (a b : Value) → Some a ≡ Some b → a ≡ b
some_is a b is = cc is

values_decide : (one other : Value) → Decides (eq-value.it one other) (one ≡ other)
values_decide (value.Int a) (value.Int b) = let d = Decides-int_eq a b in (λ h. ap value.Int (d.0 h), λ is. d.1 (int_is a b is))
values_decide (value.Text a) (value.Text b) = let d = slice_eq-Decides Decides-eqb a b _ refl in (λ h. ap value.Text (d.0 h), λ is. d.1 (text_is a b is))
values_decide (value.Bool a) (value.Bool b) = let d = booleans_Decides a b in (λ h. ap value.Bool (d.0 h), λ is. d.1 (truth_is a b is))
values_decide (value.Int a) (value.Text b) = (λ h. search rules, λ h. search rules)
values_decide (value.Int a) (value.Bool b) = (λ h. search rules, λ h. search rules)
values_decide (value.Text a) (value.Int b) = (λ h. search rules, λ h. search rules)
values_decide (value.Text a) (value.Bool b) = (λ h. search rules, λ h. search rules)
values_decide (value.Bool a) (value.Int b) = (λ h. search rules, λ h. search rules)
values_decide (value.Bool a) (value.Text b) = (λ h. search rules, λ h. search rules)

cell_decides : (one other : Option Value) → Decides (option_eq eq-value.it one other) (one ≡ other)
cell_decides None None = (λ h. refl, λ h. refl)
cell_decides None (Some b) = (λ h. search rules, λ h. search rules)
cell_decides (Some a) None = (λ h. search rules, λ h. search rules)
cell_decides (Some a) (Some b) = let d = values_decide a b in (λ h. ap Some (d.0 h), λ is. d.1 (some_is a b is))

abbrev pub same_list : Vec (Option Value) → Vec (Option Value) → Bool
same_list one other = pointwise (option_eq eq-value.it) one.items other.items

lists_decide : (one other : Vec (Option Value)) → Decides (same_list one other) (one.items ≡ other.items)
lists_decide one other = slice_eq-Decides cell_decides one.items other.items (same_list one other) refl

abbrev pub items_of : List (Vec (Option Value)) → List (List (Option Value))
items_of lists = map (λ (list : Vec (Option Value)). list.items) lists

found : (list : Vec (Option Value)) (lists : List (Vec (Option Value))) → list_any (same_list list) lists ≡ true → Has (items_of lists) list.items
found list [] h = search rules
found list (one ∷ lists) h = elim (or_cases (same_list list one) (list_any (same_list list) lists) h) [
  | inl same ↦ inl (sym ((lists_decide list one).0 same))
  | inr later ↦ inr (found list lists later)
]

unequal : (a b : Bool) → a ≡ false → a ≡ true → ⊥
unequal true b h k = search rules
unequal false b h k = search rules

not_found : (list : Vec (Option Value)) (lists : List (Vec (Option Value))) → list_any (same_list list) lists ≡ false → Has (items_of lists) list.items → ⊥
not_found list [] h there = there
not_found list (one ∷ lists) h (inl same) = unequal (same_list list one) true (neither (same_list list one) (list_any (same_list list) lists) h).0 ((lists_decide list one).1 (sym same))
not_found list (one ∷ lists) h (inr there) = not_found list lists (neither (same_list list one) (list_any (same_list list) lists) h).1 there

abbrev CellList : Type 0
CellList = List (Option Value)

distinct_more : (lists : List CellList) (cells : CellList) → AreDistinct lists → (Has lists cells → ⊥) → AreDistinct (lists ++ cells ∷ [])
distinct_more [] cells distinct new = (λ h. h, tt)
distinct_more (one ∷ lists) cells distinct new = (
  λ h. elim (has_cases lists (cells ∷ []) one h) [
    | inl there ↦ distinct.0 there
    | inr last ↦ elim last [
      | inl same ↦ new (inl (sym same))
      | inr none ↦ none
    ]
  ],
  distinct_more lists cells distinct.1 (λ there. new (inr there)),
)

module _ (all lists : List CellList) (cells : CellList) (once : AreOnce all lists) where
  -- a list that is there adds nothing
  again : Has lists cells → AreOnce (all ++ cells ∷ []) lists
  again there = record {
    distinct = once.distinct;
    same = λ other. (
      λ h. has_left all (cells ∷ []) other ((once.same other).0 h),
      λ h. elim (has_cases all (cells ∷ []) other h) [
        | inl before ↦ (once.same other).1 before
        | inr last ↦ elim last [
          | inl same ↦ subst (Has lists) same there
          | inr none ↦ absurd none
        ]
      ],
    );
  }

  -- another one goes last
  last : (Has lists cells → ⊥) → AreOnce (all ++ cells ∷ []) (lists ++ cells ∷ [])
  last new = record {
    distinct = distinct_more lists cells once.distinct new;
    same = λ other. (
      λ h. elim (has_cases lists (cells ∷ []) other h) [
        | inl before ↦ has_left all (cells ∷ []) other ((once.same other).0 before)
        | inr here ↦ has_right all (cells ∷ []) other here
      ],
      λ h. elim (has_cases all (cells ∷ []) other h) [
        | inl before ↦ has_left lists (cells ∷ []) other ((once.same other).1 before)
        | inr here ↦ has_right lists (cells ∷ []) other here
      ],
    );
  }

put_by : (all : List CellList) (lists : List (Vec (Option Value))) (list : Vec (Option Value)) (there : Bool) → list_any (same_list list) lists ≡ there → AreOnce all (items_of lists)
    → AreOnce (all ++ list.items ∷ []) (items_of (if there then lists else lists ++ list ∷ []))
put_by all lists list true is once = again all (items_of lists) list.items once (found list lists is)
put_by all lists list false is once =
    subst (AreOnce (all ++ list.items ∷ [])) (sym (map-append (λ (list : Vec (Option Value)). list.items) lists (list ∷ [])))
    (last all (items_of lists) list.items once (not_found list lists is))

-- a list more
pub put_once : (all : List CellList) (old new : List (Vec (Option Value))) (list : Vec (Option Value)) → new ≡ insert_key same_list old list → AreOnce all (items_of old) → AreOnce (all ++ list.items ∷ []) (items_of new)
put_once all old new list is once = subst (λ lists. AreOnce (all ++ list.items ∷ []) (items_of lists)) (sym is) (put_by all old list (list_any (same_list list) old) refl once)
