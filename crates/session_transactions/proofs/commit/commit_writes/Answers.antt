use Rattle.std.proofs.Common.{rules}
use Rattle.session_transactions.proofs.EndLaws.{spends_at, spends_behind, spends_conflict, spends_fault, spends_full, spends_memory}
use Rattle.session_transactions.proofs.commit.commit_writes.Goals as goal

-- src/commit.rt
pub returns-in-At : goal.returns-in-At
returns-in-At g c =
    spends_at c.args.store.now c.args.snap c.args.writes (search rules) c.commit.new.self c.in-At.place c.in-At.ensures.leaves c.in-At.ensures.answered.0 c.in-At.ensures.answered.1

pub returns-in-Conflict : goal.returns-in-Conflict
returns-in-Conflict g c =
    spends_conflict c.args.store.now c.args.snap c.args.writes (search rules) c.commit.new.self c.in-Conflict.table c.in-Conflict.place c.in-Conflict.ensures.leaves c.in-Conflict.ensures.answered

pub returns-in-Behind : goal.returns-in-Behind
returns-in-Behind g c =
    spends_behind c.args.store.now c.args.snap c.args.writes (search rules) c.commit.new.self c.release-in-Behind.new.self c.in-Behind.snap c.in-Behind._writes
    c.in-Behind.ensures.leaves c.release-in-Behind.ensures.leaves c.release-in-Behind.ensures.released c.in-Behind.place c.in-Behind.ensures.answered

pub returns-in-KeeperFault : goal.returns-in-KeeperFault
returns-in-KeeperFault g c =
    spends_fault c.args.store.now c.args.snap c.args.writes (search rules) c.commit.new.self c.release-in-KeeperFault.new.self c.in-KeeperFault.snap c.in-KeeperFault._writes
    c.in-KeeperFault.ensures.leaves c.release-in-KeeperFault.ensures.leaves c.release-in-KeeperFault.ensures.released c.in-KeeperFault.ensures.answered

pub returns-in-LogFull : goal.returns-in-LogFull
returns-in-LogFull g c =
    spends_full c.args.store.now c.args.snap c.args.writes (search rules) c.commit.new.self c.release-in-LogFull.new.self c.in-LogFull.snap c.in-LogFull._writes
    c.in-LogFull.ensures.leaves c.release-in-LogFull.ensures.leaves c.release-in-LogFull.ensures.released c.in-LogFull.number c.in-LogFull.ensures.answered

pub returns-in-Memory : goal.returns-in-Memory
returns-in-Memory g c =
    spends_memory c.args.store.now c.args.snap c.args.writes (search rules) c.commit.new.self c.release-in-Memory.new.self c.in-Memory.snap c.in-Memory._writes
    c.in-Memory.ensures.leaves c.release-in-Memory.ensures.leaves c.release-in-Memory.ensures.released c.in-Memory.ensures.answered
