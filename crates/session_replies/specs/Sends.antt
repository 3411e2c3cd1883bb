-- How messages are put behind those that wait.
use Rattle.std.specs.Prelude.{◌≡◌, Option, Some, None, Result, Ok, Err}
use Rattle.session_replies.specs.declared.refusal.Refusal.{Refusal}
use Rattle.session_replies.specs.declared.refusal.Refusal.TheVariants as refusal

-- They were put, or one is too long, of which the first is told, or memory ran out.
abbrev pub Sends : Option Refusal → Result (Unit {0}) Refusal → Type 0
Sends long (Ok done) = long ≡ None
Sends long (Err refusal.OutOfMemory) = Unit {0}
Sends long (Err why) = long ≡ Some why
