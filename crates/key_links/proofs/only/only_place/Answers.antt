use Rattle.std.proofs.Common.{rules, ◌∙◌, sym}
use Rattle.key_links.proofs.OnlyLaws.{only_found}
use Rattle.key_links.proofs.only.only_place.Goals as goal

pub returns-else-has_name : goal.returns-else-has_name
returns-else-has_name c =
    only_found c.args.name.now c.loop-column.place c.in-Some.column.now c.in-Some.more.now c.loop-column.left.now c.args.columns.now
    c.loop-column.invariant.0 (search rules) (sym c.is_named.ensures ∙ c.if-is_named.true) (sym c.has_name.ensures ∙ c.if-has_name.false)
