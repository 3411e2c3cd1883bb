-- The places of a log in memory are all its own.
use Rattle.std.proofs.Common.{ℕ, zero, suc, ◌<◌, ◌≤◌, List, [], ◌∷◌, ◌++◌, length, arith}
use Rattle.commit_log.specs.Kept.{AscendWithin}
use Rattle.commit_log.specs.Places.{up_to}

one_more : (above last : ℕ) (numbers : List ℕ) → above ≤ last → AscendWithin above last numbers → AscendWithin above (suc last) (numbers ++ suc last ∷ [])
one_more above last [] within it = (omega (arith, within), omega arith, tt)
one_more above last (number ∷ numbers) within (after, below, rest) =
    (after, omega (arith, below), one_more number last numbers below rest)

-- the numbers up to a count ascend
pub ascend : (count : ℕ) → AscendWithin 0 count (up_to count)
ascend zero = tt
ascend (suc count) = one_more 0 count (up_to count) (omega arith) (ascend count)
