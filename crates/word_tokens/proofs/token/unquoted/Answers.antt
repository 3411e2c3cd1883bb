use Rattle.std.proofs.Common.{◌≡◌, ◌≢◌, get_or, arith, ◌∙◌}
use Rattle.word_tokens.proofs.QuoteLaws.{unquoted_quote, unquoted_other, unquoted_step}
use Rattle.word_tokens.proofs.token.unquoted.Goals as goal

pub loop-at-preserved-then-byte-eq39 : goal.loop-at-preserved-then-byte-eq39
loop-at-preserved-then-byte-eq39 c =
    let quote : get_or c.args.bytes.now c.loop-at.at 0 ≡ 39 = cc (c.byte_at-byte.ensures, c.if-byte-eq39.true) in
    let step = unquoted_quote c.args.bytes.now c.loop-at.at (omega arith) quote in
    unquoted_step c.args.bytes.now c.loop-at.plain.items c.push.new.self.items _ c.loop-at.at _ _ (cc (c.byte_at-byte.ensures, c.in_ok-push.ensures.items)) step c.loop-at.invariant

pub loop-at-preserved : goal.loop-at-preserved
loop-at-preserved c =
    let other : get_or c.args.bytes.now c.loop-at.at 0 ≢ 39 = λ e. c.if-byte-eq39.false (c.byte_at-byte.ensures ∙ e) in
    let step = unquoted_other c.args.bytes.now c.loop-at.at (omega arith) other in
    unquoted_step c.args.bytes.now c.loop-at.plain.items c.push.new.self.items _ c.loop-at.at _ _ (cc (c.byte_at-byte.ensures, c.in_ok-push.ensures.items)) step c.loop-at.invariant
