use Rattle.std.proofs.Common.{rules, not, ◌==◌}
use Rattle.std.proofs.lemmas.Fn.{filter_same}
use Rattle.live_snapshots.specs.Snapshots.{Seen}
use Rattle.live_snapshots.proofs.live.drop_mark.Goals as goal

pub returns : goal.returns
returns c = filter_same _ (λ (pair : Seen). not (pair.0 == c.args.mark)) _ (λ x b f' k. search rules) _ _ c.retain.ensures.filtered
