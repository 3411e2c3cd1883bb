use Rattle.plan_exec_tests.proofs.answered.answer.Given as goal

-- the ledger of steps that nobody reads
abbrev pub ghosts-answer_counted : goal.ghosts-answer_counted
ghosts-answer_counted a = record { name = a.blank.name; parts = a.blank.parts }
