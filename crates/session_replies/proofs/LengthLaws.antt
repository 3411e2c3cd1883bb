-- Which of several messages is too long.
use Rattle.std.proofs.Common.{◌≡◌, ◌∙◌, List, [], ◌∷◌, ◌++◌, Option, Some, None, Result, Err, refl, sym, ap, subst}
use Rattle.pg_messages.specs.declared.back.Back.{Back}
use Rattle.session_replies.specs.AnswerMessages.{first_of, message_too_long, too_long}
use Rattle.session_replies.specs.Sends.{Sends}
use Rattle.session_replies.specs.declared.refusal.Refusal.{Refusal}
use Rattle.session_replies.specs.declared.refusal.Refusal.TheVariants as refusal

first_none : (one : Option Refusal) → first_of one None ≡ one
first_none None = refl
first_none (Some why) = refl

-- one that isn't too long was put
pub sends_more : (x : Back) (xs : List Back) (all : Option Refusal) → all ≡ too_long (x ∷ xs) → message_too_long x ≡ None → all ≡ too_long xs
sends_more x xs all is short = is ∙ ap (λ one. first_of one (too_long xs)) short

-- what stops one stops all
stops_as : (long all : Option Refusal) (why : Refusal) → (long ≡ Some why → all ≡ Some why) → Sends long (Err why) → Sends all (Err why)
stops_as long all refusal.OutOfMemory is s = tt
stops_as long all refusal.NotBuilt is s = is s
stops_as long all refusal.NotUtf8 is s = is s
stops_as long all (refusal.Unparsed why) is s = is s
stops_as long all (refusal.Untyped why) is s = is s
stops_as long all (refusal.TooLong n) is s = is s
stops_as long all refusal.TransactionFailed is s = is s
stops_as long all refusal.KeeperFault is s = is s
stops_as long all (refusal.Conflict table place) is s = is s
stops_as long all (refusal.CameFirst place) is s = is s
stops_as long all (refusal.LogFull number) is s = is s

pub sends_not : (x : Back) (xs : List Back) (all : Option Refusal) (why : Refusal) → all ≡ too_long (x ∷ xs) → Sends (message_too_long x) (Err why) → Sends all (Err why)
sends_not x xs all why is s = stops_as (message_too_long x) all why (λ long. is ∙ ap (λ one. first_of one (too_long xs)) long) s

first_append : (xs ys : List Back) → too_long (xs ++ ys) ≡ first_of (too_long xs) (too_long ys)
first_append [] ys = refl
first_append (x ∷ xs) ys = ap (first_of (message_too_long x)) (first_append xs ys) ∙ nested (message_too_long x) (too_long xs) (too_long ys)
  where
    nested : (a b c : Option Refusal) → first_of a (first_of b c) ≡ first_of (first_of a b) c
    nested None b c = refl
    nested (Some why) b c = refl

-- a row that is too long, before the description
pub rows_first : (rows : List Back) (described : Back) (why : Refusal) → Sends (too_long rows) (Err why) → Sends (too_long (rows ++ described ∷ [])) (Err why)
rows_first rows described why s =
    stops_as (too_long rows) (too_long (rows ++ described ∷ [])) why (λ long. first_append rows (described ∷ []) ∙ ap (λ one. first_of one (too_long (described ∷ []))) long) s

pub then_described : (rows : List Back) (described : Back) (result : Result (Unit {0}) Refusal) → too_long rows ≡ None → Sends (message_too_long described) result → Sends (too_long (rows ++ described ∷ [])) result
then_described rows described result short s =
    let is : too_long (rows ++ described ∷ []) ≡ message_too_long described = first_append rows (described ∷ []) ∙ ap (λ one. first_of one (too_long (described ∷ []))) short ∙ first_none (message_too_long described) in
    subst (λ long. Sends long result) (sym is) s
