use Rattle.std.proofs.Common.{rules}
use Rattle.row_conditions.proofs.TruthOn.{pair_is}
use Rattle.row_conditions.proofs.pair.pair_rows.Goals as goal

pub returns-clause-pair : goal.returns-clause-pair
returns-clause-pair g c = pair_is c.args.left.now c.args.right.now (record { cells = c.from_vec-cells.result; cond = c.in_ok-cond.cond }) (grind (rules, c.from_vec-cells.ensures, c.in_ok-put_cells-2.ensures, c.in_ok-put_cells.ensures, c.as_slice.ensures, c.as_slice-2.ensures, c.in_ok-cells.ensures.items)) (cc (c.in_ok-cond.ensures.folded, c.in_ok-left_cond.ensures, c.in_ok-right_cond.ensures))
