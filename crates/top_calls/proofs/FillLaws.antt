-- Reading to the end, piece by piece.
use Rattle.std.proofs.Common.{◌≡◌, ◌∙◌, ℕ, ◌+◌, ◌<◌, ◌≤◌, List, [], ◌++◌, length, Option, Some, None, ap, subst, append-nil, length-append, arith}
use Rattle.std.specs.Io.KnownBytes.{Consumes, IsAtEnd}
use Rattle.std.proofs.KnownBytes.{Consumes-nil, Consumes-trans}
use Rattle.causes.specs.Told.{IsContent}
use Rattle.top_calls.specs.OpenedFiles.{Fills, HasLeft, HasMore, IsOpened}
use Rattle.top_calls.specs.Sources.{IsLong}
use Rattle.top_calls.specs.declared.source.FileGot.TheVariants as got

-- a reader that is at its end has given all that it had left
pub all_left : (left left' : Option (List ℕ)) (bytes : List ℕ) → Consumes left left' bytes → IsAtEnd left' → HasLeft left bytes
all_left None left' bytes given end = tt
all_left (Some xs) None bytes given end = absurd given
all_left (Some xs) (Some ys) bytes given end = given ∙ ap (λ (l : List ℕ). bytes ++ l) end ∙ append-nil bytes

-- a reader that gave more than so many bytes had more left
pub more_left : (left left' : Option (List ℕ)) (bytes : List ℕ) (most : ℕ) → Consumes left left' bytes → most < length bytes → HasMore left most
more_left None left' bytes most given many = tt
more_left (Some xs) None bytes most given many = absurd given
more_left (Some xs) (Some ys) bytes most given many = rw given (omega (arith, many, length-append bytes ys))

-- What was opened and filled is a read of the file. Where it isn't whole, what went behind the old bytes is cut off.
pub opened_whole : (contents : Option (List (List ℕ × List ℕ))) (name : List ℕ) (left : Option (List ℕ)) (most : ℕ) (old new : List ℕ) → IsOpened contents name left → Fills left most got.Whole old new → (bytes : List ℕ) × IsContent contents name bytes × (length bytes ≤ most) × (new ≡ old ++ bytes)
opened_whole None name left most old new is (bytes, has, within, put) = (bytes, tt, within, put)
opened_whole (Some files) name left most old new (bytes, is, whole) (read, has, within, put) =
    let same : bytes ≡ read = rw whole at has in
    (read, subst (λ b. IsContent (Some files) name b) same is, within, put)

pub opened_long : (contents : Option (List (List ℕ × List ℕ))) (name : List ℕ) (left : Option (List ℕ)) (most : ℕ) → IsOpened contents name left → HasMore left most → IsLong contents name most
opened_long None name left most is more = tt
opened_long (Some files) name left most (bytes, is, whole) more = (bytes, is, rw whole at more)

pub ruleset opened = (opened_whole, opened_long)

pub ruleset filling = (all_left, more_left, Consumes-nil, Consumes-trans)
