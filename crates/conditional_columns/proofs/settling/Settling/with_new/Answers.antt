use Rattle.std.proofs.Common.{◌≡◌, ◌∙◌, None, sym, subst, arith, length}
use Rattle.conditional_columns.specs.declared.settling.ColumnKey.{ColumnKey}
use Rattle.conditional_columns.specs.Keys.{key_place}
use Rattle.conditional_columns.proofs.KeyLaws.{placed_more, put_new}
use Rattle.conditional_columns.proofs.settling.Settling.with_new.Goals as goal

-- src/settling.rt
pub invariant_of-result : goal.invariant_of-result
invariant_of-result c =
    let counted : c.len.result ≡ length c.args.self.columns.items = omega (arith, c.len.ensures, c.args.self.columns.ok.0) in
    record { placed = λ key. placed_more c.args.self.columns.items c.push.new.self.items c.args.column c.args.key key c.len.result _ _ (subst (λ (k : ColumnKey). key_place k c.args.self.columns.items ≡ None) c.requires.of c.requires.fresh) c.requires.of counted c.in_ok-push.ensures.items (c.args.self.placed key) (c.in_ok-insert.ensures.updates.0 key) }

pub returns : goal.returns
returns c = c.in_ok-push.ensures.items ∙ sym (put_new c.args.column c.args.self.columns.items (subst (λ (k : ColumnKey). key_place k c.args.self.columns.items ≡ None) c.requires.of c.requires.fresh))
