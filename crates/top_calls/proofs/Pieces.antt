-- Pieces that are put one behind the other.
use Rattle.std.proofs.Common.{◌≡◌, ◌∙◌, ℕ, List, [], Option, Some, None, take, drop, take-append-drop, append-nil, subst}
use Rattle.std.specs.Io.KnownBytes.{Appends, Keeps}
use Rattle.std.proofs.KnownBytes.{Appends-trans, Appends-nil}

-- the first bytes of a piece, and then the rest
pub Appends-rest : (before mid after : Option (List ℕ)) (count : ℕ) (piece : List ℕ) → Appends before mid (take count piece) → Appends mid after (drop count piece) → Appends before after piece
Appends-rest before mid after count piece first rest =
    subst (Appends before after) (take-append-drop count piece) (Appends-trans before mid after (take count piece) (drop count piece) first rest)

-- none of the bytes of a piece
keeps_none : (before after : Option (List ℕ)) → Appends before after [] → Keeps before after
keeps_none None after none = tt
keeps_none (Some xs) None none = absurd none
keeps_none (Some xs) (Some ys) none = none ∙ append-nil xs

pub Keeps-none : (before after : Option (List ℕ)) (count : ℕ) (piece : List ℕ) → Appends before after (take count piece) → count ≡ 0 → Keeps before after
Keeps-none before after count piece none is = keeps_none before after (subst (λ (n : ℕ). Appends before after (take n piece)) is none)

pub ruleset pieces = (Appends-rest, Appends-nil, Keeps-none)
