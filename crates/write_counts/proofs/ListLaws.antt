-- Members of what is made of those items of a list that pass a test.
use Rattle.std.proofs.Common.{◌≡◌, Bool, true, false, cond, List, [], ◌∷◌, map, filter, refl, ap, subst, ◌∙◌, rules, inl, inr}
use Rattle.std.specs.List.{list_all}
use Rattle.row_conditions.proofs.BoolLaws.{and_first, and_second}
use Rattle.write_meaning.specs.Members.{Has}

-- an item that passes and of which the value is made
pub record IsMade {X Y : Type 0} (f : X → Y) (p : X → Bool) (xs : List X) (y : Y) : Type 0 where
  pub one : X
  pub there : Has xs one
  pub passes : p one ≡ true
  pub is : f one ≡ y

made_later : {X Y : Type 0} (f : X → Y) (p : X → Bool) (x : X) (xs : List X) (y : Y) → IsMade f p xs y → IsMade f p (x ∷ xs) y
made_later f p x xs y made = record { one = made.one; there = inr made.there; passes = made.passes; is = made.is }

made_by : {X Y : Type 0} (f : X → Y) (p : X → Bool) (x : X) (xs : List X) (y : Y) (b : Bool) → p x ≡ b → (Has (map f (filter p xs)) y → IsMade f p xs y)
    → Has (map f (cond b (x ∷ filter p xs) (filter p xs))) y → IsMade f p (x ∷ xs) y
made_by f p x xs y true passes on (inl h) = record { one = x; there = inl refl; passes = passes; is = h }
made_by f p x xs y true passes on (inr h) = made_later f p x xs y (on h)
made_by f p x xs y false passes on h = made_later f p x xs y (on h)

-- what is made is made of an item that passes
pub made_of : {X Y : Type 0} (f : X → Y) (p : X → Bool) (xs : List X) (y : Y) → Has (map f (filter p xs)) y → IsMade f p xs y
made_of f p [] y h = absurd h
made_of f p (x ∷ xs) y h = made_by f p x xs y (p x) refl (made_of f p xs y) h

here_by : {X Y : Type 0} (f : X → Y) (x one : X) (xs : List X) (b : Bool) → b ≡ true → x ≡ one → Has (map f (cond b (x ∷ xs) xs)) (f one)
here_by f x one xs true passes same = inl (ap f same)
here_by f x one xs false passes same = search rules

later_by : {X Y : Type 0} (f : X → Y) (x : X) (xs : List X) (y : Y) (b : Bool) → Has (map f xs) y → Has (map f (cond b (x ∷ xs) xs)) y
later_by f x xs y true h = inr h
later_by f x xs y false h = h

-- and of each such item it is made
pub of_made : {X Y : Type 0} (f : X → Y) (p : X → Bool) (xs : List X) (one : X) → Has xs one → p one ≡ true → Has (map f (filter p xs)) (f one)
of_made f p [] one there passes = absurd there
of_made f p (x ∷ xs) one (inl same) passes = here_by f x one (filter p xs) (p x) (ap p same ∙ passes) same
of_made f p (x ∷ xs) one (inr there) passes = later_by f x (filter p xs) (f one) (p x) (of_made f p xs one there passes)

-- a test that all pass is passed by each
pub each_passes : {Y : Type 0} (q : Y → Bool) (ys : List Y) (y : Y) → list_all q ys ≡ true → Has ys y → q y ≡ true
each_passes q [] y h there = absurd there
each_passes q (one ∷ ys) y h (inl same) = subst (λ z. q z ≡ true) same (and_first (q one) (list_all q ys) h)
each_passes q (one ∷ ys) y h (inr there) = each_passes q ys y (and_second (q one) (list_all q ys) h) there
