use Rattle.std.proofs.Common.{not, rules}
use Rattle.std.proofs.lemmas.Fn.{filter_same}
use Rattle.commit_changes.specs.Stored.{is_idle}
use Rattle.commit_changes.proofs.pending.without_idle.Goals as goal
use Rattle.table_changes.specs.declared.change.TableChange.{TableChange}

pub returns : goal.returns
returns c = filter_same _ (λ (change : TableChange). not (is_idle change)) _ (λ x b f r. search rules) _ _ c.retain.ensures.filtered
