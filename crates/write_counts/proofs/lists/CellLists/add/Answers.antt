use Rattle.std.proofs.Common.{sym, subst}
use Rattle.write_counts.proofs.OnceLaws.{put_once}
use Rattle.write_counts.specs.Lists.{AreOnce}
use Rattle.write_counts.proofs.lists.CellLists.add.Goals as goal

pub returns : goal.returns
returns c = λ all once. put_once all c.self.inside.lists.keys c.insert.new.self.keys c.args.cells c.in_ok-insert.ensures.keys (subst (AreOnce all) (sym c.self.view_is) once)
