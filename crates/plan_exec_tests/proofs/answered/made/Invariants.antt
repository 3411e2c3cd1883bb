use Rattle.plan_exec_tests.proofs.answered.made.Given as goal

-- the ledger of steps that nobody reads
abbrev pub ghosts-made_counted : goal.ghosts-made_counted
ghosts-made_counted a = record { name = a.blank.name; parts = a.blank.parts }
