use Rattle.std.proofs.Common.{◌≡◌, ◌≤◌, length, drop}
use Rattle.std.specs.List.{flat_map}
use Rattle.message_shapes.specs.Walks.{walked, step}
use Rattle.message_shapes.proofs.parts.put_all.Given as goal

-- what was put, before what is left, is all
abbrev pub invariant-loop-part : goal.invariant-loop-part
invariant-loop-part g l = record {
  all : step (flat_map g.T.Part.shape.write (drop l.part-index l.parts)) (walked l.at l.space) ≡ step (flat_map g.T.Part.shape.write l.parts) (walked l.fn.at l.fn.space);
  within : l.at.filled ≤ length l.space;
}
