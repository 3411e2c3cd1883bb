-- A row of data, put without a message being made.
use Rattle.std.proofs.Common.{◌≡◌, ◌∙◌, ℕ, ◌+◌, List, [], ◌∷◌, ◌++◌, length, Option, Some, Result, Ok, Err, OnOk, ap, sym, subst, length-append, arith}
use Rattle.std.proofs.lemmas.List.{append-nil}
use Rattle.std.proofs.lemmas.Grind.{flat_map-append}
use Rattle.std.specs.Int.{w16, w32, to_be_bytes}
use Rattle.std.specs.List.{flat_map}
use Rattle.message_shapes.specs.Shapes.{sized_bytes, counted_bytes}
use Rattle.pg_messages.specs.Back.{back_bytes, back_sent}
use Rattle.pg_messages.specs.declared.back.Back.TheVariants as back
use Rattle.session_replies.specs.AnswerMessages.{message_too_long, too_long_by}
use Rattle.session_replies.specs.DataRows.{AreCells, row_bytes}
use Rattle.session_replies.specs.Sends.{Sends}
use Rattle.session_replies.specs.declared.refusal.Refusal.{Refusal}

-- the last cell behind the others
pub row_cells : (others : List (Option (List ℕ))) (last : List ℕ) (bytes : List ℕ) → bytes ≡ flat_map sized_bytes others ++ sized_bytes (Some last) → bytes ≡ flat_map sized_bytes (others ++ Some last ∷ [])
row_cells others last bytes are =
    are ∙ ap (λ (b : List ℕ). flat_map sized_bytes others ++ b) (sym (append-nil (sized_bytes (Some last)))) ∙ sym (flat_map-append sized_bytes others (Some last ∷ []))

-- these bytes are those of the message
row_is : (texts : List (Option (List ℕ))) → row_bytes (length texts) (flat_map sized_bytes texts) ≡ back_bytes (back.DataRow texts)
unfolding back_sent counted_bytes
row_is texts = ap (λ n. 68 ∷ to_be_bytes w32 n ++ (to_be_bytes w16 (length texts) ++ flat_map sized_bytes texts)) (omega (arith, length-append (to_be_bytes w16 (length texts)) (flat_map sized_bytes texts)))

pub row_put : (old new : List ℕ) (count : ℕ) (cells : List ℕ) (texts : List (Option (List ℕ))) → AreCells texts count cells → new ≡ old ++ row_bytes count cells → new ≡ old ++ back_bytes (back.DataRow texts)
row_put old new count cells texts are put = put ∙ ap (λ (b : List ℕ). old ++ b) (rw (are.counted, are.spelled) (row_is texts))

pub row_long : (count : ℕ) (cells : List ℕ) (texts : List (Option (List ℕ))) (result : Result (Unit {0}) Refusal) → AreCells texts count cells → Sends (too_long_by (length cells + 6)) result → Sends (message_too_long (back.DataRow texts)) result
unfolding back_sent counted_bytes
row_long count cells texts result are s =
    let long : length cells + 6 ≡ length (to_be_bytes w16 (length texts) ++ flat_map sized_bytes texts) + 4 = rw are.spelled (omega (arith, length-append (to_be_bytes w16 (length texts)) (flat_map sized_bytes texts))) in
    subst (λ n. Sends (too_long_by n) result) long s

-- where the row was put, so was the message
pub row_on_ok : (result : Result (Unit {0}) Refusal) (old new : List ℕ) (count : ℕ) (cells : List ℕ) (texts : List (Option (List ℕ))) → AreCells texts count cells → OnOk result (new ≡ old ++ row_bytes count cells) → OnOk result (new ≡ old ++ back_bytes (back.DataRow texts))
row_on_ok (Ok done) old new count cells texts are put = row_put old new count cells texts are put
row_on_ok (Err why) old new count cells texts are put = tt
