-- What a store answered. An event carries all that is needed to tell whether it fits a log.
use Rattle.std.specs.Prelude.{ℕ, List, [], ◌∷◌}
use Rattle.commit_log.specs.declared.commit.Commit.{Commit}
use Rattle.vra_syntax.specs.declared.write.Write.{Write}

-- A transaction began over the snapshot of so many commits; rows were read over these, the first commits of the log; the
-- writes of a transaction over a snapshot became the commit at a place, with its two numbers; a commit at a place wrote
-- a table that they write; another's commit came to a place first; the keeper failed; the log holds its greatest number.
pub data Event : Type 0 where
  Begun : (snapshot : ℕ) → Event
  Viewed : (commits : List Commit) → Event
  Committed : (base : ℕ) (writes : List Write) (place loop_no sequence : ℕ) → Event
  Conflicted : (base : ℕ) (writes : List Write) (table : List ℕ) (place : ℕ) → Event
  CameFirst : (place : ℕ) → Event
  KeeperFailed : Event
  LogFull : (number : ℕ) → Event

-- the places that were told as own commits, in order
abbrev pub places : List Event → List ℕ
places [] = []
places (Committed base writes place loop_no sequence ∷ events) = place ∷ places events
places (event ∷ events) = places events

-- the places at which another's commit came first, in order
abbrev pub others_first : List Event → List ℕ
others_first [] = []
others_first (CameFirst place ∷ events) = place ∷ others_first events
others_first (event ∷ events) = others_first events
