use Rattle.std.proofs.Common.{◌≡◌, take, length}
use Rattle.vra_types.specs.Alike.{valued}
use Rattle.vra_types.proofs.alike.have_values_alike.Given as goal

-- the places so far have values alike
abbrev pub invariant-loop-place : goal.invariant-loop-place
invariant-loop-place l = (valued (take l.place l.one) ≡ valued (take l.place l.other)) × (length l.one ≡ length l.other)
