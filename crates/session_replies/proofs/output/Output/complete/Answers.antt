use Rattle.session_replies.specs.Pieces.{number_text}
use Rattle.session_replies.specs.Tags.{tag_text}
use Rattle.session_replies.proofs.PieceLaws.{tag_put}
use Rattle.session_replies.proofs.output.Output.complete.Goals as goal

pub returns-clause-bytes : goal.returns-clause-bytes
returns-clause-bytes c =
    tag_put (tag_text c.args.tag) c.parts-number.result.0.now (number_text c.parts-number.result.1) c.args.self.now.bytes c.put_tag.new.self.bytes
    c.parts-number.ensures.text c.put_tag.ensures.bytes
