use Rattle.std.proofs.Common.{subst, sym}
use Rattle.std.specs.Option.{option_copied}
use Rattle.query_typing.proofs.LeafBounds.{leaf_bounded}
use Rattle.query_typing.proofs.leaf.leaf_columns.Goals as goal
use Rattle.query_typing.specs.Bounded.{IsBounded}
use Rattle.query_typing.specs.Steps.{leaf_query}

pub returns-clause-bounded : goal.returns-clause-bounded
returns-clause-bounded c = subst (IsBounded c.args.tables.now.tables.now (leaf_query (option_copied c.args.leaf))) (sym c.in_ok-columns.ensures) (leaf_bounded c.args.tables.now.tables.now (λ q. c.column_laws.ensures.once c.args.tables.now.tables.now q c.args.tables.now.distinct) (option_copied c.args.leaf))
