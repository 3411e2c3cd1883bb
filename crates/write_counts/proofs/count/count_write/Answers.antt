use Rattle.std.proofs.Common.{sym, subst}
use Rattle.std.proofs.lemmas.Result.{IfOk-weaker}
use Rattle.write_counts.proofs.CountLaws.{delete_count, insert_count, update_count}
use Rattle.write_counts.specs.Counts.{IsCount}
use Rattle.write_counts.proofs.count.count_write.Goals as goal

pub returns-in-Insert-clause-counted : goal.returns-in-Insert-clause-counted
returns-in-Insert-clause-counted c =
    IfOk-weaker c.count_listed.result _ _ (λ count counted there are. subst (λ w. IsCount c.args.questions.now c.args.table.now w there count) (sym c.in-Insert.is)
    (insert_count c.args.questions.now c.args.table.now c.in-Insert._name c.in-Insert._names c.in-Insert.listed c.in-Insert.expr c.args.rows.now c.len.result count c.len.ensures counted there are)) c.count_listed.ensures.counted

pub returns-in-Delete-clause-counted : goal.returns-in-Delete-clause-counted
returns-in-Delete-clause-counted c =
    IfOk-weaker c.count_met.result _ _ (λ count counted there are. subst (λ w. IsCount c.args.questions.now c.args.table.now w there count) (sym c.in-Delete.is)
    (delete_count c.args.questions.now c.args.table.now c.in-Delete._name c.in-Delete.cond c.in-Delete.expr c.args.rows.now count c.requires.distinct counted there are)) c.count_met.ensures.counted

pub returns-in-Update-clause-counted : goal.returns-in-Update-clause-counted
returns-in-Update-clause-counted c =
    IfOk-weaker c.count_met-in-Update.result _ _ (λ count counted there are. subst (λ w. IsCount c.args.questions.now c.args.table.now w there count) (sym c.in-Update.is)
    (update_count c.args.questions.now c.args.table.now c.in-Update._name c.in-Update._items c.in-Update.cond c.in-Update.expr c.args.rows.now count c.requires.distinct counted there are)) c.count_met-in-Update.ensures.counted
