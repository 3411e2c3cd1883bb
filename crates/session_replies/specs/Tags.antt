-- The tags of statements.
use Rattle.std.specs.Prelude.{ℕ, List, ◌++◌, codes, decimal}
use Rattle.pg_messages.specs.declared.back.Back.{Back}
use Rattle.pg_messages.specs.declared.back.Back.TheVariants as back
use Rattle.session_replies.specs.declared.tag.Tag.{Tag}
use Rattle.session_replies.specs.declared.tag.Tag.TheVariants as tags

abbrev pub tag_text : Tag → List ℕ
tag_text tags.Begin = codes "BEGIN"
tag_text tags.Commit = codes "COMMIT"
tag_text tags.Rollback = codes "ROLLBACK"
tag_text tags.Set = codes "SET"
tag_text (tags.Select count) = codes "SELECT " ++ decimal count
tag_text (tags.Insert count) = codes "INSERT 0 " ++ decimal count
tag_text (tags.Delete count) = codes "DELETE " ++ decimal count
tag_text (tags.Update count) = codes "UPDATE " ++ decimal count

-- a statement was run
abbrev pub complete : Tag → Back
complete tag = back.CommandComplete (tag_text tag)
