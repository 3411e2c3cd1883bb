use Rattle.live_snapshots.proofs.LiveLaws.{still_below_without}
use Rattle.live_snapshots.proofs.live.Live.release.Goals as goal

pub invariant_of-self : goal.invariant_of-self
invariant_of-self c = still_below_without c.mark-mark.result 0 c.self.inside.next c.self.inside.pairs.items c.drop_mark.new.pairs.items c.drop_mark.ensures c.self.invariant
