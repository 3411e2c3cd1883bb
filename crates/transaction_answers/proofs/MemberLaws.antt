-- Lists with the same members, filtered, mapped, paired and searched.
use Rattle.std.proofs.Common.{◌≡◌, ◌∙◌, Bool, true, false, cond, ◌||◌, List, [], ◌∷◌, ◌++◌, map, filter, flat_map, refl, sym, ap, subst, rules, true≢false, ◌⊎◌, inl, inr}
use Rattle.std.specs.List.{list_any}
use Rattle.write_meaning.proofs.SetLaws.{Same, has_cases, has_left, has_right}
use Rattle.write_meaning.specs.Members.{Has}

-- ---- filtered

filter_by : {X : Type 0} (p : X → Bool) (y : X) (xs : List X) (b : Bool) (x : X) → p y ≡ b → (Has (filter p xs) x → Has xs x × (p x ≡ true)) → Has (cond b (y ∷ filter p xs) (filter p xs)) x → Has (y ∷ xs) x × (p x ≡ true)
filter_by p y xs true x is on (inl h) = (inl h, subst (λ z. p z ≡ true) h is)
filter_by p y xs true x is on (inr h) = let k = on h in (inr k.0, k.1)
filter_by p y xs false x is on h = let k = on h in (inr k.0, k.1)

in_filter : {X : Type 0} (p : X → Bool) (xs : List X) (x : X) → Has (filter p xs) x → Has xs x × (p x ≡ true)
in_filter p [] x h = absurd h
in_filter p (y ∷ xs) x h = filter_by p y xs (p y) x refl (in_filter p xs x) h

keep_here : {X : Type 0} (y : X) (xs : List X) (b : Bool) (x : X) → b ≡ true → (y ≡ x) ⊎ Has xs x → Has (cond b (y ∷ xs) xs) x
keep_here y xs true x is h = h
keep_here y xs false x is h = search rules

keep_later : {X : Type 0} (y : X) (xs : List X) (b : Bool) (x : X) → Has xs x → Has (cond b (y ∷ xs) xs) x
keep_later y xs true x h = inr h
keep_later y xs false x h = h

of_filter : {X : Type 0} (p : X → Bool) (xs : List X) (x : X) → Has xs x → p x ≡ true → Has (filter p xs) x
of_filter p [] x h is = absurd h
of_filter p (y ∷ xs) x (inl h) is = keep_here y (filter p xs) (p y) x (subst (λ z. p z ≡ true) (sym h) is) (inl h)
of_filter p (y ∷ xs) x (inr h) is = keep_later y (filter p xs) (p y) x (of_filter p xs x h is)

-- two tests that agree on every member
pub same_filters : {X : Type 0} (p q : X → Bool) (xs ys : List X) → ((x : X) → p x ≡ q x) → Same xs ys → Same (filter p xs) (filter q ys)
same_filters p q xs ys agree same x =
    (λ h. let k = in_filter p xs x h in of_filter q ys x ((same x).0 k.0) (sym (agree x) ∙ k.1), λ h. let k = in_filter q ys x h in of_filter p xs x ((same x).1 k.0) (agree x ∙ k.1))

pub same_filter : {X : Type 0} (p : X → Bool) (xs ys : List X) → Same xs ys → Same (filter p xs) (filter p ys)
same_filter p xs ys same = same_filters p p xs ys (λ x. refl) same

-- ---- mapped

record IsImage {X Y : Type 0} (f : X → Y) (xs : List X) (y : Y) : Type 0 where
  pub x : X
  pub there : Has xs x
  pub is : f x ≡ y

in_map : {X Y : Type 0} (f : X → Y) (xs : List X) (y : Y) → Has (map f xs) y → IsImage f xs y
in_map f [] y h = absurd h
in_map f (x ∷ xs) y (inl h) = record { x = x; there = inl refl; is = h }
in_map f (x ∷ xs) y (inr h) = let k = in_map f xs y h in record { x = k.x; there = inr k.there; is = k.is }

of_map : {X Y : Type 0} (f : X → Y) (xs : List X) (x : X) → Has xs x → Has (map f xs) (f x)
of_map f [] x h = absurd h
of_map f (y ∷ xs) x (inl h) = inl (ap f h)
of_map f (y ∷ xs) x (inr h) = inr (of_map f xs x h)

moved : {X Y : Type 0} (f : X → Y) (xs ys : List X) (y : Y) → ((x : X) → Has xs x → Has ys x) → Has (map f xs) y → Has (map f ys) y
moved f xs ys y on h = let k = in_map f xs y h in subst (Has (map f ys)) k.is (of_map f ys k.x (on k.x k.there))

pub same_map : {X Y : Type 0} (f : X → Y) (xs ys : List X) → Same xs ys → Same (map f xs) (map f ys)
same_map f xs ys same y = (moved f xs ys y (λ x. (same x).0), moved f ys xs y (λ x. (same x).1))

-- ---- each of one list with each of another

abbrev crossed : {X : Type 0} → List (List X) → List (List X) → List (List X)
crossed left right = flat_map (λ row. map (λ other. row ++ other) right) left

record IsPair {X : Type 0} (left right : List (List X)) (z : List X) : Type 0 where
  pub one : List X
  pub other : List X
  pub in_left : Has left one
  pub in_right : Has right other
  pub is : one ++ other ≡ z

in_pairs : {X : Type 0} (left right : List (List X)) (z : List X) → Has (crossed left right) z → IsPair left right z
in_pairs [] right z h = absurd h
in_pairs (row ∷ left) right z h = elim (has_cases (map (λ other. row ++ other) right) (crossed left right) z h) [
  | inl a ↦ let k = in_map (λ other. row ++ other) right z a in record { one = row; other = k.x; in_left = inl refl; in_right = k.there; is = k.is }
  | inr b ↦ let k = in_pairs left right z b in record { one = k.one; other = k.other; in_left = inr k.in_left; in_right = k.in_right; is = k.is }
]

of_pairs : {X : Type 0} (left right : List (List X)) (one other : List X) → Has left one → Has right other → Has (crossed left right) (one ++ other)
of_pairs [] right one other h k = absurd h
of_pairs (row ∷ left) right one other (inl h) k =
    has_left (map (λ behind. row ++ behind) right) (crossed left right) (one ++ other)
    (subst (λ r. Has (map (λ behind. row ++ behind) right) (r ++ other)) h (of_map (λ behind. row ++ behind) right other k))
of_pairs (row ∷ left) right one other (inr h) k = has_right (map (λ behind. row ++ behind) right) (crossed left right) (one ++ other) (of_pairs left right one other h k)

paired : {X : Type 0} (left left' right right' : List (List X)) (z : List X) → ((x : List X) → Has left x → Has left' x) → ((x : List X) → Has right x → Has right' x) → Has (crossed left right) z → Has (crossed left' right') z
paired left left' right right' z f g h = let k = in_pairs left right z h in subst (Has (crossed left' right')) k.is (of_pairs left' right' k.one k.other (f k.one k.in_left) (g k.other k.in_right))

pub same_pairs : {X : Type 0} (left left' right right' : List (List X)) → Same left left' → Same right right' → Same (crossed left right) (crossed left' right')
same_pairs left left' right right' h k z = (paired left left' right right' z (λ x. (h x).0) (λ x. (k x).0), paired left' left right' right z (λ x. (h x).1) (λ x. (k x).1))

-- ---- whether one passes

record IsPassing {X : Type 0} (p : X → Bool) (xs : List X) : Type 0 where
  pub x : X
  pub there : Has xs x
  pub passes : p x ≡ true

any_by : {X : Type 0} (p : X → Bool) (y : X) (xs : List X) (b : Bool) → p y ≡ b → (list_any p xs ≡ true → IsPassing p xs) → (b || list_any p xs) ≡ true → IsPassing p (y ∷ xs)
any_by p y xs true is on h = record { x = y; there = inl refl; passes = is }
any_by p y xs false is on h = let k = on h in record { x = k.x; there = inr k.there; passes = k.passes }

in_any : {X : Type 0} (p : X → Bool) (xs : List X) → list_any p xs ≡ true → IsPassing p xs
in_any p [] h = absurd (true≢false (sym h))
in_any p (y ∷ xs) h = any_by p y xs (p y) refl (in_any p xs) h

or_true : (a : Bool) → (a || true) ≡ true
or_true true = refl
or_true false = refl

of_any : {X : Type 0} (p : X → Bool) (xs : List X) (x : X) → Has xs x → p x ≡ true → list_any p xs ≡ true
of_any p [] x h is = absurd h
of_any p (y ∷ xs) x (inl h) is = rw (ap p h ∙ is) refl
of_any p (y ∷ xs) x (inr h) is = rw (of_any p xs x h is) (or_true (p y))

either_way : (a b : Bool) → (a ≡ true → b ≡ true) → (b ≡ true → a ≡ true) → a ≡ b
either_way true true f g = refl
either_way true false f g = sym (f refl)
either_way false true f g = g refl
either_way false false f g = refl

pub same_any : {X : Type 0} (p : X → Bool) (xs ys : List X) → Same xs ys → list_any p xs ≡ list_any p ys
same_any p xs ys same =
    either_way (list_any p xs) (list_any p ys)
    (λ h. let k = in_any p xs h in of_any p ys k.x ((same k.x).0 k.there) k.passes)
    (λ h. let k = in_any p ys h in of_any p xs k.x ((same k.x).1 k.there) k.passes)
