-- What is put behind the bytes that wait.
use Rattle.std.proofs.Common.{◌≡◌, ◌∙◌, ℕ, ◌<◌, ◌≤◌, false, List, [], ◌∷◌, ◌++◌, length, take, drop, refl, sym, ap, subst, arith, drop-cons, length-append, le_of_eq, take_all, append_assoc}
use Rattle.pg_messages.specs.Back.{back_bytes}
use Rattle.pg_messages.specs.declared.back.Back.{Back}
use Rattle.session_replies.specs.Output.{is_empty, KeepsFront}
use Rattle.session_replies.specs.Replies.{spelled}

pub drop_not_empty : (start : ℕ) (bytes : List ℕ) → start < length bytes → is_empty (drop start bytes) ≡ false
drop_not_empty start bytes within = rw (drop-cons bytes start 0 within) refl

pub begins_same : (bytes : List ℕ) → KeepsFront bytes bytes
begins_same bytes = record { front = take_all (length bytes) bytes (le_of_eq refl); longer = le_of_eq refl }

pub begins_as : (old mid new : List ℕ) → KeepsFront old mid → new ≡ mid → KeepsFront old new
begins_as old mid new is same = subst (KeepsFront old) (sym same) is

front_behind : (old mid more : List ℕ) → length old ≤ length mid → take (length old) (mid ++ more) ≡ take (length old) mid
front_behind [] mid more longer = refl
front_behind (x ∷ old) [] more longer = absurd (omega (arith, longer))
front_behind (x ∷ old) (y ∷ mid) more longer = ap (λ (b : List ℕ). y ∷ b) (front_behind old mid more (omega (arith, longer)))

pub begins_put : (old mid more new : List ℕ) → KeepsFront old mid → new ≡ mid ++ more → KeepsFront old new
begins_put old mid more new is put = subst (KeepsFront old) (sym put) (record {
  front = front_behind old mid more is.longer ∙ is.front;
  longer = let sum = length-append mid more in let longer = is.longer in omega (arith, sum, longer);
})

-- a message more
pub put_more : (old mid new : List ℕ) (message : Back) (rest : List Back) (all : List ℕ) → mid ++ spelled (message ∷ rest) ≡ all → new ≡ mid ++ back_bytes message → new ++ spelled rest ≡ all
put_more old mid new message rest all is put = ap (λ (b : List ℕ). b ++ spelled rest) put ∙ append_assoc mid (back_bytes message) (spelled rest) ∙ is
