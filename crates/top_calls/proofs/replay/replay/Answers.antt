use Rattle.top_calls.proofs.LogLaws.{own_of, replays_all_alone}
use Rattle.top_calls.proofs.replay.replay.Goals as goal

pub returns-clause-all : goal.returns-clause-all
returns-clause-all g c = λ done.
    replays_all_alone c.args.stream.now c.args.store c.close.new.store c.drive-exit.new.store.moment (g.O.Sink.held c.args.out.now).bytes (g.O.Sink.held c.drive-exit.new.out).bytes
    (c.drive-exit.ensures.all done) c.close.ensures.ties
    (own_of c.into_keeper-2.result.commits c.into_keeper-2.result.max c.close.new.store.moment.kept c.into_keeper-2.ensures)
