-- Lists as sets.
use Rattle.std.proofs.Common.{◌≡◌, List, [], ◌∷◌, ◌++◌, sym, subst, ◌⊎◌, inl, inr, ◌↔◌}
use Rattle.write_meaning.specs.Members.{Has}

-- the same members
abbrev pub Same : {X : Type 0} → List X → List X → Type 0
Same {X} xs ys = (x : X) → Has xs x ↔ Has ys x

pub has_left : {X : Type 0} (xs ys : List X) (x : X) → Has xs x → Has (xs ++ ys) x
has_left [] ys x h = absurd h
has_left (y ∷ xs) ys x (inl h) = inl h
has_left (y ∷ xs) ys x (inr h) = inr (has_left xs ys x h)

pub has_right : {X : Type 0} (xs ys : List X) (x : X) → Has ys x → Has (xs ++ ys) x
has_right [] ys x h = h
has_right (y ∷ xs) ys x h = inr (has_right xs ys x h)

pub has_cases : {X : Type 0} (xs ys : List X) (x : X) → Has (xs ++ ys) x → Has xs x ⊎ Has ys x
has_cases [] ys x h = inr h
has_cases (y ∷ xs) ys x (inl h) = inl (inl h)
has_cases (y ∷ xs) ys x (inr h) = elim (has_cases xs ys x h) [
  | inl a ↦ inl (inr a)
  | inr b ↦ inr b
]

pub same_of : {X : Type 0} (xs ys : List X) → xs ≡ ys → Same xs ys
same_of xs ys e x = (subst (λ zs. Has zs x) e, subst (λ zs. Has zs x) (sym e))

pub same_on : {X : Type 0} (xs ys zs : List X) → Same xs ys → Same ys zs → Same xs zs
same_on xs ys zs h k x = (λ a. (k x).0 ((h x).0 a), λ a. (h x).1 ((k x).1 a))

joined : {X : Type 0} (xs xs' ys ys' : List X) (x : X) → (Has xs x → Has xs' x) → (Has ys x → Has ys' x) → Has (xs ++ ys) x → Has (xs' ++ ys') x
joined xs xs' ys ys' x f g h = elim (has_cases xs ys x h) [
  | inl a ↦ has_left xs' ys' x (f a)
  | inr b ↦ has_right xs' ys' x (g b)
]

pub same_both : {X : Type 0} (xs xs' ys ys' : List X) → Same xs xs' → Same ys ys' → Same (xs ++ ys) (xs' ++ ys')
same_both xs xs' ys ys' h k x = (joined xs xs' ys ys' x (h x).0 (k x).0, joined xs' xs ys' ys x (h x).1 (k x).1)

crossed : {X : Type 0} (fs bs cs ds : List X) (x : X) → Has ((fs ++ bs) ++ (cs ++ ds)) x → Has ((fs ++ cs) ++ (bs ++ ds)) x
crossed fs bs cs ds x h = elim (has_cases (fs ++ bs) (cs ++ ds) x h) [
  | inl l ↦ elim (has_cases fs bs x l) [
    | inl a ↦ has_left (fs ++ cs) (bs ++ ds) x (has_left fs cs x a)
    | inr b ↦ has_right (fs ++ cs) (bs ++ ds) x (has_left bs ds x b)
  ]
  | inr r ↦ elim (has_cases cs ds x r) [
    | inl c ↦ has_left (fs ++ cs) (bs ++ ds) x (has_right fs cs x c)
    | inr d ↦ has_right (fs ++ cs) (bs ++ ds) x (has_right bs ds x d)
  ]
]

-- the middle lists change places
pub same_crossed : {X : Type 0} (fs bs cs ds : List X) → Same ((fs ++ bs) ++ (cs ++ ds)) ((fs ++ cs) ++ (bs ++ ds))
same_crossed fs bs cs ds x = (crossed fs bs cs ds x, crossed fs cs bs ds x)

swapped : {X : Type 0} (fs bs cs : List X) (x : X) → Has (fs ++ (bs ++ cs)) x → Has ((fs ++ cs) ++ bs) x
swapped fs bs cs x h = elim (has_cases fs (bs ++ cs) x h) [
  | inl a ↦ has_left (fs ++ cs) bs x (has_left fs cs x a)
  | inr r ↦ elim (has_cases bs cs x r) [
    | inl b ↦ has_right (fs ++ cs) bs x b
    | inr c ↦ has_left (fs ++ cs) bs x (has_right fs cs x c)
  ]
]

back : {X : Type 0} (fs bs cs : List X) (x : X) → Has ((fs ++ cs) ++ bs) x → Has (fs ++ (bs ++ cs)) x
back fs bs cs x h = elim (has_cases (fs ++ cs) bs x h) [
  | inl l ↦ elim (has_cases fs cs x l) [
    | inl a ↦ has_left fs (bs ++ cs) x a
    | inr c ↦ has_right fs (bs ++ cs) x (has_right bs cs x c)
  ]
  | inr b ↦ has_right fs (bs ++ cs) x (has_left bs cs x b)
]

-- the last list goes before the middle one
pub same_swapped : {X : Type 0} (fs bs cs : List X) → Same (fs ++ (bs ++ cs)) ((fs ++ cs) ++ bs)
same_swapped fs bs cs x = (swapped fs bs cs x, back fs bs cs x)
