use Rattle.std.proofs.Common.{rules}
use Rattle.top_calls.proofs.ReplayedLaws.{replayed_over}
use Rattle.top_calls.proofs.tool.run_replay.Goals as goal

pub returns-clause-replayed : goal.returns-clause-replayed
returns-clause-replayed g c =
    replayed_over (g.F.Source.files c.args.files.now) c.args.catalogue.now c.args.stream.now c.in-Ok.store c.as_slice.result.now c.replay.result (g.O.Sink.held c.args.out.now) (g.O.Sink.held c.replay.new.out)
    c.in-Ok.ensures.opened (search rules) (search rules) c.replay.ensures.ends c.replay.ensures.replays c.replay.ensures.all
