use Rattle.std.proofs.Common.{◌≡◌, ℕ, List, take}
use Rattle.std.specs.BTreeMap.{get}
use Rattle.std.specs.Cmp.Lexicographic.{slice_cmp}
use Rattle.std.specs.Ordering.{nat_cmp}
use Rattle.query_meaning.specs.Sources.{number_of}
use Rattle.query_names.proofs.table_names.TableNames.new.Given as goal

-- the numbers of the tables so far
abbrev pub invariant-loop-place : goal.invariant-loop-place
invariant-loop-place l = (name : List ℕ) → get (slice_cmp nat_cmp) l.numbers name ≡ number_of (take l.place l.tables) name
