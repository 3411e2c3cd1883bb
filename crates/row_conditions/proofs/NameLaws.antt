-- Two names that are the same are equal.
use Rattle.std.proofs.Common.{◌≡◌, ◌∙◌, ℕ, Bool, true, false, ◌&&◌, List, Option, Some, None, refl, sym, ap, ap₂, true≢false}
use Rattle.std.proofs.lemmas.Slice.Eq.{bytes_eq-Decides}
use Rattle.values.specs.declared.column_name.ColName.{ColName}
use Rattle.values.specs.declared.value.Kind.{Kind}
use Rattle.values.specs.declared.value.Kind.TheVariants as kind
use Rattle.plain_relation.specs.Relations.{same_name, same_prefix}
use Rattle.plain_relation.specs.Values.{same_kind}
use Rattle.row_conditions.proofs.BoolLaws.{and_first, and_second}

prefix_is : (one other : Option (List ℕ)) → same_prefix one other ≡ true → one ≡ other
prefix_is None None h = refl
prefix_is None (Some other) h = absurd (true≢false (sym h))
prefix_is (Some one) None h = absurd (true≢false (sym h))
prefix_is (Some one) (Some other) h = ap Some ((bytes_eq-Decides one other).0 h)

prefix_same : (one : Option (List ℕ)) → same_prefix one one ≡ true
prefix_same None = refl
prefix_same (Some one) = (bytes_eq-Decides one one).1 refl

named : Option (List ℕ) → List ℕ → ColName
named prefix base = record { prefix = prefix; base = base }

named_is : (name : ColName) → named name.prefix name.base ≡ name
unfolding named
named_is name = refl

pub name_is : (one other : ColName) → same_name one other ≡ true → one ≡ other
name_is one other h =
    let prefix = prefix_is one.prefix other.prefix (and_first _ _ h) in
    let base : one.base ≡ other.base = (bytes_eq-Decides one.base other.base).0 (and_second (same_prefix one.prefix other.prefix) _ h) in
    sym (named_is one) ∙ ap₂ named prefix base ∙ named_is other

pub name_same : (name : ColName) → same_name name name ≡ true
name_same name = and_true _ _ (prefix_same name.prefix) ((bytes_eq-Decides name.base name.base).1 refl) where
  and_true : (a b : Bool) → a ≡ true → b ≡ true → (a && b) ≡ true
  and_true true b h k = k
  and_true false b h k = absurd (true≢false (sym h))

pub kind_is : (one other : Kind) → same_kind one other ≡ true → one ≡ other
kind_is kind.Int kind.Int h = refl
kind_is kind.Int kind.Text h = absurd (true≢false (sym h))
kind_is kind.Int kind.Bool h = absurd (true≢false (sym h))
kind_is kind.Text kind.Int h = absurd (true≢false (sym h))
kind_is kind.Text kind.Text h = refl
kind_is kind.Text kind.Bool h = absurd (true≢false (sym h))
kind_is kind.Bool kind.Int h = absurd (true≢false (sym h))
kind_is kind.Bool kind.Text h = absurd (true≢false (sym h))
kind_is kind.Bool kind.Bool h = refl

pub kind_same : (kind : Kind) → same_kind kind kind ≡ true
kind_same kind.Int = refl
kind_same kind.Text = refl
kind_same kind.Bool = refl
