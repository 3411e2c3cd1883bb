-- The case that is shown of cases put one behind another.
use Rattle.std.proofs.Common.{◌≡◌, List, [], ◌∷◌, ◌++◌, Option, Some, None, refl, sym, ◌∙◌, ap, inl, inr, subst}
use Rattle.std.specs.Option.{option_map, option_or}
use Rattle.query_meaning.specs.Cases.{Case, IsOneOf}
use Rattle.write_typing.specs.Faults.{fault_case, first}
use Rattle.write_typing.specs.declared.fault.NameFault.{NameFault}

no_some : (one : Case) → Some one ≡ None → ⊥
no_some one is = cc is

pub first_put : (xs ys : List Case) → first (xs ++ ys) ≡ option_or (first xs) (first ys)
first_put [] ys = refl
first_put (x ∷ xs) ys = refl

either : (one other : Option NameFault) → option_map fault_case (option_or one other) ≡ option_or (option_map fault_case one) (option_map fault_case other)
either None other = refl
either (Some one) other = refl

pub first_of_both : (one other : Option NameFault) (xs ys : List Case) → option_map fault_case one ≡ first xs → option_map fault_case other ≡ first ys → option_map fault_case (option_or one other) ≡ first (xs ++ ys)
first_of_both one other xs ys is are = either one other ∙ ap (λ (o : Option Case). option_or o (option_map fault_case other)) is ∙ ap (option_or (first xs)) are ∙ sym (first_put xs ys)

pub first_of_four : (f g h k : Option NameFault) (xs ys zs ws : List Case) → option_map fault_case f ≡ first xs → option_map fault_case g ≡ first ys → option_map fault_case h ≡ first zs → option_map fault_case k ≡ first ws → option_map fault_case (option_or (option_or (option_or f g) h) k) ≡ first (xs ++ ys ++ zs ++ ws)
first_of_four f g h k xs ys zs ws a b c d =
    first_of_both (option_or (option_or f g) h) k (xs ++ ys ++ zs) ws (first_of_both (option_or f g) h (xs ++ ys) zs (first_of_both f g xs ys a b) c) d

-- a fault of the names that come first
pub first_unknown : (fault : NameFault) (xs ys whole : List Case) → whole ≡ xs ++ ys → option_map fault_case (Some fault) ≡ first xs → option_map fault_case (Some fault) ≡ first whole
first_unknown fault [] ys whole is shown = absurd (no_some (fault_case fault) shown)
first_unknown fault (x ∷ xs) ys whole is shown = shown ∙ ap first (sym is)

empty_first : (cases : List Case) → None ≡ first cases → cases ≡ []
empty_first [] is = refl
empty_first (one ∷ cases) is = absurd (no_some one (sym is))

-- or else of what is behind
pub first_behind : (fault : Option NameFault) (xs ys whole : List Case) → whole ≡ xs ++ ys → option_map fault_case None ≡ first xs → option_map fault_case fault ≡ first ys → option_map fault_case fault ≡ first whole
first_behind fault xs ys whole is none shown = shown ∙ ap (λ (zs : List Case). first (zs ++ ys)) (sym (empty_first xs none)) ∙ ap first (sym is)

pub no_case : (cases : List Case) → option_map fault_case None ≡ first cases → cases ≡ []
no_case cases is = empty_first cases is

pub one_case : (cases : List Case) (fault : NameFault) → option_map fault_case (Some fault) ≡ first cases → IsOneOf cases (fault_case fault)
one_case [] fault is = absurd (no_some (fault_case fault) is)
one_case (one ∷ cases) fault is = inl (cc is)
