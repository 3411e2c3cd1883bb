use Rattle.top_calls.proofs.replay.follow.Goals as goal

pub returns-in-NeedInput-clause-on : goal.returns-in-NeedInput-clause-on
returns-in-NeedInput-clause-on g c = c.feed_on.ensures.on (g.O.Sink.held c.args.out.now).bytes
