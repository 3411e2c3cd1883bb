use Rattle.vra_syntax.proofs.UnboundLaws.{unbound_cond}
use Rattle.vra_syntax.proofs.copies.CondTryCopy.copy.Goals as goal

-- src/copies.rt
pub returns : goal.returns
returns c = rw (unbound_cond c.args.self.now) at c.bound_cond.ensures
