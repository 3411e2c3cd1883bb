use Rattle.std.proofs.Common.{ap, sym, ◌∙◌}
use Rattle.plan_merges.proofs.WayLaws.{with_ways_push, ways_are}
use Rattle.plan_merges.specs.Merges.{ways_of, with_ways}
use Rattle.plan_merges.proofs.way.all_ways.Goals as goal

pub loop-name-init : goal.loop-name-init
loop-name-init c = ap (with_ways c.args.columns.now c.args.names.items) c.in_ok-ways.ensures ∙ ways_are c.args.columns.now c.args.names.items

pub loop-name-preserved : goal.loop-name-preserved
loop-name-preserved c =
    ap (with_ways c.args.columns.now c.pop.new.self.items) (c.in_ok-ways-2.ensures ∙ ap (ways_of c.in-Some.name c.args.columns.now) c.as_slice.ensures.value)
    ∙ sym (with_ways_push c.args.columns.now c.pop.new.self.items c.in-Some.name c.loop-name.ways.items)
    ∙ ap (λ names. with_ways c.args.columns.now names c.loop-name.ways.items) (sym c.in-Some.ensures.items)
    ∙ c.loop-name.invariant
