-- Bytes that fill what was added at an end.
use Rattle.std.proofs.Common.{◌≡◌, ℕ, ◌+◌, List, [], ◌++◌, length, take, sym, ap, ap₂, ◌∙◌, arith}
use Rattle.std.proofs.lemmas.List.{append-nil, take_at, length-append}
use Rattle.message_shapes.specs.Walks.{Fills}

whole : (n : ℕ) (a : List ℕ) → length a ≡ n → a ≡ take n a
whole n a len = sym (take_at a [] n len) ∙ ap (take n) (append-nil a)

-- a space of the message's own size holds it
pub added : (bytes old space new : List ℕ) (n : ℕ) → length space ≡ length bytes → length new ≡ length space → Fills bytes 0 space new n → new ≡ bytes
added bytes old space new n same len fills =
    let count : n ≡ length bytes = omega (arith, fills.count, same) in
    let here : length new ≡ n = omega (arith, len, same, count) in
    let there : length bytes ≡ n = omega (arith, count) in
    whole n new here ∙ fills.filled ∙ sym (whole n bytes there)

-- the bytes before, which stayed, and those that were added
pub joined : (front tail behind old bytes : List ℕ) (len : ℕ) → front ≡ old → tail ≡ bytes → len ≡ length front + length tail → take len ((front ++ tail) ++ behind) ≡ old ++ bytes
joined front tail behind old bytes len is filled n =
    take_at (front ++ tail) behind len (omega (arith, n, length-append front tail)) ∙ ap₂ (λ (a b : List ℕ). a ++ b) is filled
