-- How much room a session's output has for replies that take no memory.
use Rattle.session_poll.specs.declared.session.Session.{Session}
use Rattle.session_replies.specs.Output.{HasRoom}

-- for all that a step may tell: a snapshot, the place of a commit, a tag or an error, and that a message may come
abbrev pub HasStepRoom : Session → Type 0
HasStepRoom session = HasRoom 256 session.output

-- once the snapshot was told
abbrev pub HasStatementRoom : Session → Type 0
HasStatementRoom session = HasRoom 192 session.output

-- once the place of a commit was told too
abbrev pub HasTagRoom : Session → Type 0
HasTagRoom session = HasRoom 152 session.output

-- for an error, and that a message may come
abbrev pub HasErrorRoom : Session → Type 0
HasErrorRoom session = HasRoom 120 session.output
