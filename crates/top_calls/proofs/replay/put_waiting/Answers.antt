use Rattle.std.proofs.Common.{rules}
use Rattle.top_calls.proofs.ReplayLaws.{sent_on, stops_in}
use Rattle.top_calls.proofs.replay.put_waiting.Goals as goal

pub returns-clause-on : goal.returns-clause-on
returns-clause-on g c =
    sent_on c.args.stream.now c.args.fed c.waiting.result (g.O.Sink.held c.args.out.now).bytes (g.O.Sink.held c.put_all.new.out).bytes c.args.session.now c.take.new.self c.take.ensures.at (search rules) c.take.ensures.over (search rules) (search rules)

pub returns-then-not-put_all-clause-stops : goal.returns-then-not-put_all-clause-stops
returns-then-not-put_all-clause-stops g c =
    stops_in c.args.stream.now c.args.fed (g.O.Sink.held c.args.out.now).bytes (g.O.Sink.held c.put_all.new.out).bytes c.args.session.now (search rules)
