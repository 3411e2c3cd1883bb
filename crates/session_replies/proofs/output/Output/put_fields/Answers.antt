use Rattle.session_replies.proofs.PieceLaws.{fields_put}
use Rattle.session_replies.proofs.output.Output.put_fields.Goals as goal

pub returns-clause-bytes : goal.returns-clause-bytes
returns-clause-bytes c =
    fields_put c.args.it.now c.size.result _ _ _ _ _ _ _ _ c.size.ensures.is c.put_head.ensures.bytes c.put_field.ensures.bytes c.put_field-2.ensures.bytes
    c.put_field-3.ensures.bytes c.put_text.ensures.bytes c.put_place.ensures.bytes c.put_fixed.ensures.bytes
