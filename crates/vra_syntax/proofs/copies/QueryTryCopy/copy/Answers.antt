use Rattle.vra_syntax.proofs.UnboundLaws.{unbound_query}
use Rattle.vra_syntax.proofs.copies.QueryTryCopy.copy.Goals as goal

-- src/copies.rt
pub returns : goal.returns
returns c = rw (unbound_query c.args.self.now) at c.bound_query.ensures
