use Rattle.std.proofs.Common.{sym, ◌∙◌}
use Rattle.tool_tests.proofs.FileLaws.{not_there_more}
use Rattle.tool_tests.proofs.mem_files.content_of.Goals as goal

pub loop-file-preserved : goal.loop-file-preserved
loop-file-preserved c = not_there_more _ _ _ _ c.loop-file-test.true c.file-item.is c.loop-file.invariant (sym c.is_named.ensures.is ∙ c.if-is_named.false)
