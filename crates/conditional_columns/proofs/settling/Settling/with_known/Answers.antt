use Rattle.std.proofs.Common.{◌<◌, ◌∙◌, sym, ap, arith, length}
use Rattle.conditional_columns.specs.Keys.{key_for, key_place}
use Rattle.conditional_columns.proofs.KeyLaws.{known_places, known_within, put_known}
use Rattle.conditional_columns.proofs.settling.Settling.with_known.Goals as goal

-- src/settling.rt
pub index_mut-requires : goal.index_mut-requires
index_mut-requires c =
    let within : c.args.place < length c.args.self.columns.items = known_within (key_for c.args.column) c.args.self.columns.items c.args.place c.requires in
    omega (arith, within, c.args.self.columns.ok.0)

pub invariant_of-result : goal.invariant_of-result
invariant_of-result c = record {
  placed = λ key. c.args.self.placed key ∙ sym (ap (key_place key) (put_known c.args.column c.args.self.columns.items c.args.place c.index_mut.result.now c.join_cond.new.one c.index_mut.result.now c.requires c.index_mut.ensures.value c.in_ok-join_cond.ensures) ∙ known_places key c.args.column c.args.self.columns.items c.args.place c.requires);
}

pub returns : goal.returns
returns c = put_known c.args.column c.args.self.columns.items c.args.place c.index_mut.result.now c.join_cond.new.one c.index_mut.result.now c.requires c.index_mut.ensures.value c.in_ok-join_cond.ensures
