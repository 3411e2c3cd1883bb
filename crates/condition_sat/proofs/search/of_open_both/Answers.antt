use Rattle.condition_sat.proofs.search.of_open_both.Goals as goal

pub returns-then-can_be : goal.returns-then-can_be
returns-then-can_be c = λ whole right of known. (known.0, of.occurs_right _ known.1)

pub returns-else-can_be : goal.returns-else-can_be
returns-else-can_be c = λ whole right of known c' extends. of.left_unmet c' (c.can_be.ensures c.if-can_be.false c' extends)
