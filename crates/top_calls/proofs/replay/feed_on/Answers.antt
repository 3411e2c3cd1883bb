use Rattle.std.proofs.Common.{rules}
use Rattle.top_calls.proofs.ReplayLaws.{fed_on, ended_on}
use Rattle.top_calls.proofs.replay.feed_on.Goals as goal

pub returns-then-is_empty-clause-on : goal.returns-then-is_empty-clause-on
returns-then-is_empty-clause-on c = λ now. ended_on c.args.stream.now c.args.fed now c.args.session.now c.end_input.new.self (search rules) c.end_input.ensures.at (search rules)

pub returns-clause-on : goal.returns-clause-on
returns-clause-on c = λ now. fed_on c.args.stream.now c.split_at-2.result.0.now c.args.fed c.min.result c.feed.result now c.args.session.now c.feed.new.self c.feed.ensures.at c.feed.ensures.over (search rules) (search rules) (search rules) (search rules)
