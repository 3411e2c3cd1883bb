use Rattle.std.proofs.Common.{◌≡◌, length, [], arith}
use Rattle.std.proofs.lemmas.List.{append-nil}
use Rattle.word_tokens.proofs.token.tokens.Goals as goal

pub returns : goal.returns
returns c =
    let end : c.loop-cursor.cursor.at ≡ length c.as_bytes-bytes.result.now = omega (arith, c.loop-cursor.invariant.within) in
    let all = rw append-nil at (c.loop-cursor.invariant.so_far [] end) in
    record { stand = rw (c.from_vec-2.ensures, ← c.as_bytes-bytes.ensures.value) all }
