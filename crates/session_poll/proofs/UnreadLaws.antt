-- A packet for which no memory was found is a StartupMessage, or a Query, by the grammar.
use Rattle.std.proofs.Common.{◌≡◌, ◌∙◌, ℕ, Bool, true, false, ◌==◌, List, length, take, drop, Option, Some, None, is_some, Result, Ok, Err, refl, ap}
use Rattle.message_shapes.specs.Fields.{◌>>=◌, ended, string_at}
use Rattle.message_shapes.specs.Shapes.{ended_at}
use Rattle.pg_messages.specs.Front.{front_form, front_side, front_head, front_body, front_of, is_query}
use Rattle.pg_messages.specs.Sides.{formed_at, body_at, message_at}
use Rattle.pg_messages.specs.Packet.{IfMemory, length_of, decoded_as, packet_of, is_whole}
use Rattle.message_shapes.specs.Spelling.{IsBytes}
use Rattle.pg_messages.specs.Startup.{pair, startup_form, startup_head, last, startup_body, startup_of, is_start}
use Rattle.pg_messages.specs.declared.decoded.Decoded.{Decoded}
use Rattle.pg_messages.specs.declared.decoded.Decoded.TheVariants as decoded
use Rattle.pg_messages.specs.declared.front.Front.{Front}
use Rattle.pg_messages.specs.declared.front.Front.TheVariants as front
use Rattle.pg_messages.specs.declared.front.FrontKind.{FrontKind}
use Rattle.pg_messages.specs.declared.front.FrontKind.TheVariants as front_kinds
use Rattle.pg_messages.specs.declared.packet.Head.{Head}
use Rattle.pg_messages.specs.declared.packet.Head.TheVariants as head
use Rattle.pg_messages.specs.declared.startup.Pair.{Pair}
use Rattle.pg_messages.specs.declared.startup.Startup.{Startup}
use Rattle.pg_messages.specs.declared.startup.Startup.TheVariants as startup
use Rattle.pg_messages.specs.declared.startup.StartupKind.{StartupKind}
use Rattle.pg_messages.specs.declared.startup.StartupKind.TheVariants as startup_kinds
use Rattle.session_poll.specs.Packets.{IsStartupMessage, IsQuery}
use Rattle.session_poll.specs.Parts.{BeginsStartup, BeginsQuery}
use Rattle.pg_messages.proofs.FrontLaws.{front_takes}
use Rattle.pg_messages.proofs.StartupLaws.{startup_takes}

-- a body that is read as a Query's is a Query
query_ended : (n : ℕ) (text : List ℕ × List ℕ) (all : Bool) → (length text.1 == 0) ≡ all → is_whole (decoded_as n (ended (front.Query text.0, text.1))) ≡ true → decoded_as n (ended (front.Query text.0, text.1)) ≡ decoded.Whole (front.Query text.0) n
query_ended n text true is whole = rw is refl
query_ended n text false is whole = absurd (cc (rw is at whole))

query_text : (n : ℕ) (read : Result (List ℕ × List ℕ) ℕ) → is_whole (decoded_as n ((read >>= λ text. Ok (front.Query text.0, text.1)) >>= ended)) ≡ true → (text : List ℕ) × (decoded_as n ((read >>= λ text. Ok (front.Query text.0, text.1)) >>= ended) ≡ decoded.Whole (front.Query text) n)
query_text n (Ok text) whole = (text.0, query_ended n text (length text.1 == 0) refl whole)
query_text n (Err left) whole = absurd cc

query_body : (n : ℕ) (body : List ℕ) → is_whole (decoded_as n (front_body front_kinds.Query body)) ≡ true → (text : List ℕ) × (decoded_as n (front_body front_kinds.Query body) ≡ decoded.Whole (front.Query text) n)
unfolding body_at front_side front_form formed_at
query_body n body whole = query_text n (string_at body) whole

query_at : (x : Head FrontKind) (held : List ℕ) (count : ℕ) → is_query x ≡ true → length_of x ≡ Some count → is_whole (packet_of front_body 5 x held) ≡ true → (text : List ℕ) × (packet_of front_body 5 x held ≡ decoded.Whole (front.Query text) count)
query_at head.More held count kind is whole = absurd cc
query_at (head.Bad place cause) held count kind is whole = absurd cc
query_at (head.Packet front_kinds.Terminate n) held count kind is whole = absurd cc
query_at (head.Packet front_kinds.Query n) held count kind is whole =
    let found = query_body n (drop 5 (take n held)) whole in
    let same : n ≡ count = cc is in
    (found.0, found.1 ∙ ap (λ k. decoded.Whole (front.Query found.0) k) same)

query_cut : (held : List ℕ) (count : ℕ) → IsBytes held → is_query (front_head held) ≡ true → length_of (front_head held) ≡ Some count → is_whole (front_of held) ≡ true → IsQuery (take count held)
unfolding message_at
query_cut held count fits kind is whole =
    let found = query_at (front_head held) held count kind is whole in
    record { text = found.0; spelled = (front_takes held (front.Query found.0) count fits found.1).1 }

query_begins : (held : List ℕ) (found : Option ℕ) → IsBytes held → length_of (front_head held) ≡ found → is_some (length_of (front_head held)) ≡ true → is_query (front_head held) ≡ true → is_whole (front_of held) ≡ true → BeginsQuery found held
query_begins held None fits is there kind whole = absurd (cc (rw is at there))
query_begins held (Some count) fits is there kind whole = query_cut held count fits kind is whole

pub unread_query : (held : List ℕ) (result : Decoded Front) → IsBytes held → IfMemory result (is_some (length_of (front_head held)) ≡ true) → IfMemory result (is_query (front_head held) ≡ true) → IfMemory result (is_whole (front_of held) ≡ true) → IfMemory result (BeginsQuery (length_of (front_head held)) held)
unread_query held (decoded.Whole message n) fits there kind whole = tt
unread_query held decoded.More fits there kind whole = tt
unread_query held (decoded.Bad place cause) fits there kind whole = tt
unread_query held decoded.Memory fits there kind whole = query_begins held (length_of (front_head held)) fits refl there kind whole

-- a body that is read as a StartupMessage's is a StartupMessage
start_ended : (n : ℕ) (pairs : List Pair × List ℕ) (all : Bool) → (length pairs.1 == 0) ≡ all → is_whole (decoded_as n (last (startup.Start pairs.0, pairs.1))) ≡ true → decoded_as n (last (startup.Start pairs.0, pairs.1)) ≡ decoded.Whole (startup.Start pairs.0) n
start_ended n pairs true is whole = rw is refl
start_ended n pairs false is whole = absurd (cc (rw is at whole))

start_pairs : (n : ℕ) (read : Result (List Pair × List ℕ) ℕ) → is_whole (decoded_as n ((read >>= λ pairs. Ok (startup.Start pairs.0, pairs.1)) >>= last)) ≡ true → (pairs : List Pair) × (decoded_as n ((read >>= λ pairs. Ok (startup.Start pairs.0, pairs.1)) >>= last) ≡ decoded.Whole (startup.Start pairs) n)
start_pairs n (Ok pairs) whole = (pairs.0, start_ended n pairs (length pairs.1 == 0) refl whole)
start_pairs n (Err left) whole = absurd cc

start_body : (n : ℕ) (body : List ℕ) → is_whole (decoded_as n (startup_body startup_kinds.Start body)) ≡ true → (pairs : List Pair) × (decoded_as n (startup_body startup_kinds.Start body) ≡ decoded.Whole (startup.Start pairs) n)
unfolding startup_body startup_form formed_at
start_body n body whole = start_pairs n (ended_at pair.read body) whole

start_at : (x : Head StartupKind) (held : List ℕ) (count : ℕ) → is_start x ≡ true → length_of x ≡ Some count → is_whole (packet_of startup_body 8 x held) ≡ true → (pairs : List Pair) × (packet_of startup_body 8 x held ≡ decoded.Whole (startup.Start pairs) count)
start_at head.More held count kind is whole = absurd cc
start_at (head.Bad place cause) held count kind is whole = absurd cc
start_at (head.Packet (startup_kinds.Other code) n) held count kind is whole = absurd cc
start_at (head.Packet startup_kinds.Start n) held count kind is whole =
    let found = start_body n (drop 8 (take n held)) whole in
    let same : n ≡ count = cc in
    (found.0, found.1 ∙ ap (λ k. decoded.Whole (startup.Start found.0) k) same)

start_cut : (held : List ℕ) (count : ℕ) → IsBytes held → is_start (startup_head held) ≡ true → length_of (startup_head held) ≡ Some count → is_whole (startup_of held) ≡ true → IsStartupMessage (take count held)
unfolding startup_of
start_cut held count fits kind is whole =
    let found = start_at (startup_head held) held count kind is whole in
    record { pairs = found.0; spelled = (startup_takes held (startup.Start found.0) count fits found.1).1 }

start_begins : (held : List ℕ) (found : Option ℕ) → IsBytes held → length_of (startup_head held) ≡ found → is_some (length_of (startup_head held)) ≡ true → is_start (startup_head held) ≡ true → is_whole (startup_of held) ≡ true → BeginsStartup found held
start_begins held None fits is there kind whole = absurd (cc (rw is at there))
start_begins held (Some count) fits is there kind whole = start_cut held count fits kind is whole

pub unread_startup : (held : List ℕ) (result : Decoded Startup) → IsBytes held → IfMemory result (is_some (length_of (startup_head held)) ≡ true) → IfMemory result (is_start (startup_head held) ≡ true) → IfMemory result (is_whole (startup_of held) ≡ true) → IfMemory result (BeginsStartup (length_of (startup_head held)) held)
unread_startup held (decoded.Whole packet n) fits there kind whole = tt
unread_startup held decoded.More fits there kind whole = tt
unread_startup held (decoded.Bad place cause) fits there kind whole = tt
unread_startup held decoded.Memory fits there kind whole = start_begins held (length_of (startup_head held)) fits refl there kind whole
