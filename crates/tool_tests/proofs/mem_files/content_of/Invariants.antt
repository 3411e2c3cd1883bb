use Rattle.std.proofs.Common.{◌≡◌, false, take}
use Rattle.tool_tests.specs.MemFiles.{is_there}
use Rattle.tool_tests.proofs.mem_files.content_of.Given as goal

-- none of those that were looked at has the name
abbrev pub invariant-loop-file : goal.invariant-loop-file
invariant-loop-file l = is_there (take l.file-index l.files) l.name ≡ false
