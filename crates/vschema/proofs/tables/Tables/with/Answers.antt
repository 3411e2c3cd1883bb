use Rattle.std.proofs.Common.{◌≡◌, length, arith}
use Rattle.vschema.proofs.TableLaws.{numbered_more}
use Rattle.vschema.proofs.tables.Tables.with.Goals as goal

pub invariant_of-result : goal.invariant_of-result
invariant_of-result c = record {
  numbered = λ name. numbered_more c.args.self.tables.items c.push.new.self.items c.args.table c.in_ok-name.name name c.len.result _ _ c.requires.fresh c.in_ok-name.ensures (let e : c.len.result ≡ length c.args.self.tables.items = omega (arith, c.len.ensures, c.args.self.tables.ok.0) in e) c.in_ok-push.ensures.items (c.args.self.numbered name) (c.in_ok-insert.ensures.updates.0 name);
}
