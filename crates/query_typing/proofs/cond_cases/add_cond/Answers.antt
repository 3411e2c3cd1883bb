use Rattle.query_meaning.specs.Typing.{columns_at}
use Rattle.query_typing.proofs.WaitingLaws.{count_smaller, last_read}
use Rattle.query_typing.proofs.cond_cases.add_cond.Goals as goal

pub loop-next-smaller : goal.loop-next-smaller
loop-next-smaller c = count_smaller c.loop-next.waiting.items c.pop.new.self.items c.add_next.new.waiting.items c.in-Some.next c.in-Some.ensures.items c.in_ok-add_next.ensures.fewer

pub loop-next-preserved : goal.loop-next-preserved
loop-next-preserved c = λ d. last_read d c.args.kinds.now (columns_at d c.args.columns.now) c.loop-next.waiting.items c.pop.new.self.items c.add_next.new.waiting.items c.in-Some.next _ _ _ c.in-Some.ensures.items (c.in_ok-add_next.ensures.cases d) (c.loop-next.invariant d)
