use Rattle.std.proofs.Common.{get_or, sym, ◌∙◌, ap}
use Rattle.row_versions.proofs.TakingLaws.{put_again}
use Rattle.row_versions.proofs.held.take_at.Goals as goal

-- src/held.rt
pub returns-clause-was : goal.returns-clause-was
returns-clause-was g c =
    put_again c.args.items.now.items c.args.place c.replace.result c.replace.new.dest
    (c.replace.ensures.value ∙ c.index_mut.ensures.value ∙ ap (get_or c.args.items.now.items c.args.place) (sym c.replace.ensures.value))
