-- The laws of shapes that are made of shapes: of each once.
use Rattle.std.proofs.Common.{◌≡◌, ℕ, zero, suc, ◌^◌, ◌<◌, ◌≤◌, Bool, true, false, not, cond, ltb, List, [], ◌∷◌, ◌++◌, length, take, drop, Option, Some, None, Result, Ok, Err, refl, sym, ap, subst, ◌∙◌, append_assoc, arith, inl, inr, lit<}
use Rattle.std.specs.Prelude.{◌==◌, nat_le}
use Rattle.std.specs.Int.{w16, to_be_bytes}
use mir.Val.{bits}
use Rattle.std.specs.List.{flat_map, list_all}
use Rattle.std.proofs.lemmas.Bool.{ne_eqb, leb-true, and_parts}
use Rattle.std.proofs.lemmas.List.{drop_at, length-append}
use Rattle.std.proofs.lemmas.Int.{to_z-of_z}
use Rattle.message_shapes.specs.Fields.{◌>>=◌, number_at, times, until_end, continued}
use Rattle.message_shapes.specs.Shapes.{Shape, size_limit, count_limit, number_bytes, counted_bytes, ended_bytes, low, BreaksBoth, ◌&◌, counted_at, BreaksItem, BreaksCounted, counted, listed, next_at, ended_at, BreaksNext, BreaksEnded, zero_ended, via}
use Rattle.message_shapes.specs.Spelling.{IsBytes, AreSpelled}
use Rattle.message_shapes.proofs.FieldLaws.{bind_ok, ok_is, Takes, Takes-then, wide16, number_takes, number_again, IsBytes-drop}
use Rattle.message_shapes.proofs.ShapeLaws.{IsShape, via_ok, number16_is}
use Rattle.message_shapes.proofs.SequenceLaws.{times_take, times_again}

-- ---- shapes made of shapes

both_takes : {X Y : Type 0} (s : Shape X) (t : Shape Y) → ((bytes : List ℕ) (x : X) (rest : List ℕ) → IsBytes bytes → s.read bytes ≡ Ok (x, rest) → (text : List ℕ) × s.Spells x text × Takes bytes text rest)
    → ((bytes : List ℕ) (x : Y) (rest : List ℕ) → IsBytes bytes → t.read bytes ≡ Ok (x, rest) → (text : List ℕ) × t.Spells x text × Takes bytes text rest)
    → (bytes : List ℕ) (x : X × Y) (rest : List ℕ) → IsBytes bytes → (s & t).read bytes ≡ Ok (x, rest) → (text : List ℕ) × (s & t).Spells x text × Takes bytes text rest
both_takes {X = X} {Y = Y} s t p q bytes x rest fits e =
    let a = bind_ok (s.read bytes) (λ u. t.read u.1 >>= λ v. Ok ((u.0, v.0), v.1)) (x, rest) e in
    let b = bind_ok (t.read a.0.1) (λ v. Ok ((a.0.0, v.0), v.1)) (x, rest) a.2 in
    let one = p bytes a.0.0 a.0.1 fits a.1 in
    let two = q a.0.1 b.0.0 b.0.1 one.2.rest_fits b.1 in
    let all : (text : List ℕ) × (s & t).Spells (a.0.0, b.0.0) text × Takes bytes text b.0.1 = (one.0 ++ two.0, (one.0, two.0, refl {a = one.0 ++ two.0}, one.1, two.1), Takes-then bytes one.0 a.0.1 two.0 b.0.1 one.2 two.2) in
    subst (λ (y : (X × Y) × List ℕ). (text : List ℕ) × (s & t).Spells y.0 text × Takes bytes text y.1) (ok_is ((a.0.0, b.0.0), b.0.1) (x, rest) b.2) all

both_ok : {X Y : Type 0} (s : Shape X) (t : Shape Y) (bytes more rest : List ℕ) (x : X) (y : Y) → s.read bytes ≡ Ok (x, more) → t.read more ≡ Ok (y, rest) → (s & t).read bytes ≡ Ok ((x, y), rest)
both_ok s t bytes more rest x y p q = rw (p, q) refl

both_written : {X Y : Type 0} (s : Shape X) (t : Shape Y) → ((x : X) → s.good x ≡ true → length (s.write x) ≤ size_limit → s.Spells x (s.write x)) → ((x : Y) → t.good x ≡ true → length (t.write x) ≤ size_limit → t.Spells x (t.write x))
    → (x : X × Y) → (s & t).good x ≡ true → length ((s & t).write x) ≤ size_limit → (s & t).Spells x ((s & t).write x)
both_written s t p q x h small =
    let parts = and_parts (s.good x.0) (t.good x.1) h in
    let len = length-append (s.write x.0) (t.write x.1) in
    (s.write x.0, t.write x.1, refl, p x.0 parts.0 (omega (arith, small, len)), q x.1 parts.1 (omega (arith, small, len)))

-- ---- where two fields break

abbrev ok : {X : Type 0} → X → Result X ℕ
ok x = Ok x

rest_fits : (bytes text rest : List ℕ) → IsBytes bytes → bytes ≡ text ++ rest → IsBytes rest
rest_fits bytes text rest fits is = subst IsBytes (ap (drop (length text)) is ∙ drop_at text rest (length text) refl) (IsBytes-drop (length text) bytes fits)

abbrev fault : {X : Type 0} → ℕ → Result X ℕ
fault left = Err left

no_value : {X : Type 0} (x : X) (left : ℕ) → ok x ≡ Err left → ⊥
no_value x left e = cc

same_fault : {X Y : Type 0} (m n : ℕ) → fault {X = X} m ≡ fault {X = X} n → fault {X = Y} m ≡ fault {X = Y} n
same_fault m n e = cc

-- a value that is made of another one is missing only where that one is
made_fault : {A B : Type 0} (r : Result A ℕ) (f : A → B) (left : ℕ) → (r >>= λ x. Ok (f x)) ≡ Err left → r ≡ Err left
made_fault (Ok x) f left e = absurd cc
made_fault (Err m) f left e = cc

abbrev both_then : {X Y : Type 0} → Shape Y → X × List ℕ → Result ((X × Y) × List ℕ) ℕ
both_then {X = X} {Y = Y} t x =
    let paired : Y × List ℕ → (X × Y) × List ℕ = λ y. ((x.0, y.0), y.1) in
    t.read x.1 >>= λ y. Ok (paired y)

both_found : {X Y : Type 0} (s : Shape X) (t : Shape Y) → IsShape s → IsShape t → (bytes : List ℕ) (left : ℕ) → IsBytes bytes → (found : Result (X × List ℕ) ℕ) → s.read bytes ≡ found → (found >>= both_then t) ≡ Err left → BreaksBoth s t bytes left
both_found s t p q bytes left fits (Err m) is e = inl (p.broken bytes left fits (is ∙ same_fault m left e))
both_found {X = X} {Y = Y} s t p q bytes left fits (Ok x) is e =
    let one = p.takes bytes x.0 x.1 fits is in
    let paired : Y × List ℕ → (X × Y) × List ℕ = λ y. ((x.0, y.0), y.1) in
    let two : t.read x.1 ≡ Err left = made_fault (t.read x.1) paired left e in
    inr (x.0, one.0, x.1, one.2.parts, one.1, q.broken x.1 left one.2.rest_fits two)

both_fault : {X Y : Type 0} (s : Shape X) (t : Shape Y) (bytes rest : List ℕ) (x : X) (left : ℕ) → s.read bytes ≡ Ok (x, rest) → t.read rest ≡ Err left → (s & t).read bytes ≡ Err left
both_fault s t bytes rest x left p q = rw (p, q) refl

first_fault : {X Y : Type 0} (s : Shape X) (t : Shape Y) (bytes : List ℕ) (left : ℕ) → s.read bytes ≡ Err left → (s & t).read bytes ≡ Err left
first_fault s t bytes left p = rw p refl

both_breaks : {X Y : Type 0} (s : Shape X) (t : Shape Y) → IsShape s → IsShape t → (bytes : List ℕ) (left : ℕ) → IsBytes bytes → BreaksBoth s t bytes left → (s & t).read bytes ≡ Err left
both_breaks s t p q bytes left fits (inl h) = first_fault s t bytes left (p.breaks bytes left fits h)
both_breaks s t p q bytes left fits (inr (x, text, rest, is, spelled, h)) =
    both_fault s t bytes rest x left (ap s.read is ∙ p.again x text rest spelled) (q.breaks rest left (rest_fits bytes text rest fits is) h)

pub both_is : {X Y : Type 0} (s : Shape X) (t : Shape Y) → IsShape s → IsShape t → IsShape (s & t)
both_is s t p q = record {
  takes = both_takes s t p.takes q.takes;
  again = λ x text rest h. ap (λ (u : List ℕ). (s & t).read (u ++ rest)) h.2 ∙ ap (s & t).read (append_assoc h.0 h.1 rest) ∙ both_ok s t (h.0 ++ (h.1 ++ rest)) (h.1 ++ rest) rest x.0 x.1 (p.again x.0 h.0 (h.1 ++ rest) h.3) (q.again x.1 h.1 rest h.4);
  written = both_written s t p.written q.written;
  broken = λ bytes left fits e. both_found s t p q bytes left fits (s.read bytes) refl e;
  breaks = both_breaks s t p q;
}

items_written : {X : Type 0} (s : Shape X) → ((x : X) → s.good x ≡ true → length (s.write x) ≤ size_limit → s.Spells x (s.write x))
    → (xs : List X) → list_all s.good xs ≡ true → length (flat_map s.write xs) ≤ size_limit → AreSpelled s.Spells xs (flat_map s.write xs)
items_written s written [] h small = refl
items_written s written (x ∷ xs) h small =
    let parts = and_parts (s.good x) (list_all s.good xs) h in
    let len = length-append (s.write x) (flat_map s.write xs) in
    (s.write x, flat_map s.write xs, refl, written x parts.0 (omega (arith, small, len)), items_written s written xs parts.1 (omega (arith, small, len)))

counted_takes : {X : Type 0} (s : Shape X) → IsShape s → (bytes : List ℕ) (xs : List X) (rest : List ℕ) → IsBytes bytes → counted_at s.read bytes ≡ Ok (xs, rest) → (text : List ℕ) × (counted s).Spells xs text × Takes bytes text rest
counted_takes s is bytes xs rest fits e =
    let a = bind_ok (number_at w16 bytes) (λ n. times s.read n.0 n.1) (xs, rest) e in
    let t = number_takes w16 (2 ^ 16) wide16 bytes a.0.0 a.0.1 fits a.1 in
    let b = times_take s.read s.Spells is.takes a.0.0 a.0.1 xs rest t.0.rest_fits a.2 in
    let one : Takes bytes (to_be_bytes w16 (length xs)) a.0.1 = subst (λ (k : ℕ). Takes bytes (to_be_bytes w16 k) a.0.1) (sym b.3) t.0 in
    (to_be_bytes w16 (length xs) ++ b.0, (b.0, refl, omega (arith, b.3, t.1), b.1), Takes-then bytes (to_be_bytes w16 (length xs)) a.0.1 b.0 rest one b.2)

counted_ok : {X : Type 0} (read : List ℕ → Result (X × List ℕ) ℕ) (bytes more rest : List ℕ) (n : ℕ) (xs : List X) → number_at w16 bytes ≡ Ok (n, more) → times read n more ≡ Ok (xs, rest) → counted_at read bytes ≡ Ok (xs, rest)
counted_ok read bytes more rest n xs p q = ap (λ r. r >>= λ k. times read k.0 k.1) p ∙ q

counted_again : {X : Type 0} (s : Shape X) → IsShape s → (xs : List X) (text rest : List ℕ) → (counted s).Spells xs text → counted_at s.read (text ++ rest) ≡ Ok (xs, rest)
counted_again s is xs text rest h =
    let n = length xs in
    ap (λ (u : List ℕ). counted_at s.read (u ++ rest)) h.1 ∙ ap (counted_at s.read) (append_assoc (to_be_bytes w16 n) h.0 rest)
    ∙ counted_ok s.read (to_be_bytes w16 n ++ (h.0 ++ rest)) (h.0 ++ rest) rest n xs (number_again w16 (2 ^ 16) wide16 n (h.0 ++ rest) (omega (arith, h.2))) (times_again s.read s.Spells is.again xs h.0 rest h.3)

-- ---- where counted values break

item_more : {X : Type 0} (s : Shape X) (n : ℕ) (bytes rest text : List ℕ) (x : X) (left : ℕ) → bytes ≡ text ++ rest → s.Spells x text → BreaksItem s n rest left → BreaksItem s (suc n) bytes left
item_more s n bytes rest text x left is spelled (xs, texts, after, parts, all, lt, h) =
    let whole : bytes ≡ (text ++ texts) ++ after = is ∙ ap (λ (r : List ℕ). text ++ r) parts ∙ sym (append_assoc text texts after) in
    (x ∷ xs, text ++ texts, after, whole, (text, texts, refl {a = text ++ texts}, spelled, all), omega (arith, lt), h)

abbrev items_then : {X : Type 0} → Shape X → ℕ → X × List ℕ → Result (List X × List ℕ) ℕ
items_then {X = X} s n x =
    let listed_with : List X × List ℕ → List X × List ℕ = λ others. (x.0 ∷ others.0, others.1) in
    times s.read n x.1 >>= λ others. Ok (listed_with others)

items_found : {X : Type 0} (s : Shape X) → IsShape s → (n : ℕ) → ((bytes : List ℕ) (left : ℕ) → IsBytes bytes → times s.read n bytes ≡ Err left → BreaksItem s n bytes left) → (bytes : List ℕ) (left : ℕ) → IsBytes bytes → (found : Result (X × List ℕ) ℕ) → s.read bytes ≡ found → (found >>= items_then s n) ≡ Err left → BreaksItem s (suc n) bytes left
items_found s p n so_on bytes left fits (Err m) is e = ([], [], bytes, refl, refl, omega arith, p.broken bytes left fits (is ∙ same_fault m left e))
items_found s p n so_on bytes left fits (Ok x) is e =
    let one = p.takes bytes x.0 x.1 fits is in
    let others = so_on x.1 left one.2.rest_fits (made_fault (times s.read n x.1) (λ others. (x.0 ∷ others.0, others.1)) left e) in
    item_more s n bytes x.1 one.0 x.0 left one.2.parts one.1 others

items_broken : {X : Type 0} (s : Shape X) → IsShape s → (n : ℕ) (bytes : List ℕ) (left : ℕ) → IsBytes bytes → times s.read n bytes ≡ Err left → BreaksItem s n bytes left
unfolding times
items_broken s p zero bytes left fits e = absurd (no_value ([], bytes) left e)
items_broken s p (suc n) bytes left fits e = items_found s p n (λ b l. items_broken s p n b l) bytes left fits (s.read bytes) refl e

items_break : {X : Type 0} (s : Shape X) → IsShape s → (n : ℕ) (xs : List X) (texts rest : List ℕ) (left : ℕ) → IsBytes rest → AreSpelled s.Spells xs texts → length xs < n → s.Breaks rest left → times s.read n (texts ++ rest) ≡ Err left
unfolding times
items_break s p zero xs texts rest left fits all lt h = absurd (omega (arith, lt))
items_break s p (suc n) [] texts rest left fits all lt h = rw (all, p.breaks rest left fits h) refl
items_break s p (suc n) (x ∷ xs) texts rest left fits all lt h =
    let regrouped : texts ++ rest ≡ all.0 ++ (all.1 ++ rest) = ap (λ (t : List ℕ). t ++ rest) all.2 ∙ append_assoc all.0 all.1 rest in
    ap (times s.read (suc n)) regrouped ∙ rw (p.again x all.0 (all.1 ++ rest) all.3, items_break s p n xs all.1 rest left fits all.4 (omega (arith, lt)) h) refl

counted_found : {X : Type 0} (s : Shape X) → IsShape s → (bytes : List ℕ) (left : ℕ) → IsBytes bytes → (found : Result (ℕ × List ℕ) ℕ) → number_at w16 bytes ≡ found → (found >>= λ n. times s.read n.0 n.1) ≡ Err left → BreaksCounted s bytes left
unfolding number_bytes
counted_found s p bytes left fits (Err m) is e = inl (number16_is.broken bytes left fits (is ∙ same_fault m left e))
counted_found s p bytes left fits (Ok n) is e =
    let t = number_takes w16 (2 ^ 16) wide16 bytes n.0 n.1 fits is in
    inr (n.0, n.1, t.0.parts, omega (arith, t.1), items_broken s p n.0 n.1 left t.0.rest_fits e)

counted_breaks : {X : Type 0} (s : Shape X) → IsShape s → (bytes : List ℕ) (left : ℕ) → IsBytes bytes → BreaksCounted s bytes left → counted_at s.read bytes ≡ Err left
unfolding number_bytes
counted_breaks s p bytes left fits (inl h) = ap (λ r. r >>= λ n. times s.read n.0 n.1) (number16_is.breaks bytes left fits h)
counted_breaks s p bytes left fits (inr (n, rest, is, low, (xs, texts, after, parts, all, lt, h))) =
    let behind = rest_fits bytes (to_be_bytes w16 n) rest fits is in
    let told : number_at w16 bytes ≡ Ok (n, rest) = ap (number_at w16) is ∙ number_again w16 (2 ^ 16) wide16 n rest (omega (arith, low)) in
    ap (λ r. r >>= λ k. times s.read k.0 k.1) told ∙ ap (times s.read n) parts ∙ items_break s p n xs texts after left (rest_fits rest texts after behind parts) all lt h

pub counted_is : {X : Type 0} (s : Shape X) → IsShape s → IsShape (counted s)
unfolding counted_bytes
counted_is s is = record {
  takes = counted_takes s is;
  again = counted_again s is;
  written = λ xs h small.
      let parts = and_parts (nat_le (length xs) count_limit) (list_all s.good xs) h in
      (flat_map s.write xs, refl, leb-true (length xs) count_limit parts.0, items_written s is.written xs parts.1 (omega (arith, small, length-append (to_be_bytes w16 (length xs)) (flat_map s.write xs))));
  broken = λ bytes left fits e. counted_found s is bytes left fits (number_at w16 bytes) refl e;
  breaks = counted_breaks s is;
}

-- ---- values up to a zero byte

abbrev pub StartsWell : {X : Type 0} → Shape X → Type 0
StartsWell {X = X} s = (x : X) (text : List ℕ) → s.Spells x text → (b : ℕ) × (t : List ℕ) × (text ≡ suc b ∷ t)

abbrev NextTakes : {X : Type 0} → Shape X → List ℕ → Option X × List ℕ → Type 0
NextTakes s bytes (None, rest) = Takes bytes (0 ∷ []) rest
NextTakes s bytes (Some x, rest) = (text : List ℕ) × s.Spells x text × Takes bytes text rest

next_takes : {X : Type 0} (s : Shape X) → IsShape s → (bytes : List ℕ) (x : Option X × List ℕ) → IsBytes bytes → next_at s.read bytes ≡ Ok x → NextTakes s bytes x
unfolding next_at
next_takes s is [] x fits e = absurd cc
next_takes {X = X} s is (zero ∷ bytes) x fits e =
    let same : ◌≡◌ {A = Option X × List ℕ} (None, bytes) x = ok_is (None, bytes) x e in
    subst (NextTakes s (0 ∷ bytes)) same (record { parts = refl; rest_fits = λ i. fits (suc i) })
next_takes {X = X} s is (suc b ∷ bytes) x fits e =
    let other : (suc b == 0) ≡ false = ne_eqb (suc b) 0 (λ e. absurd (omega arith)) in
    let read : (s.read (suc b ∷ bytes) >>= listed) ≡ Ok x = rw other at e in
    let a = bind_ok (s.read (suc b ∷ bytes)) listed x read in
    let same : ◌≡◌ {A = Option X × List ℕ} (Some a.0.0, a.0.1) x = ok_is (Some a.0.0, a.0.1) x a.2 in
    subst (NextTakes s (suc b ∷ bytes)) same (is.takes (suc b ∷ bytes) a.0.0 a.0.1 fits a.1)

pub record AllTaken {X : Type 0} (s : Shape X) (bytes : List ℕ) (xs : List X) (rest : List ℕ) : Type 0 where
  pub texts : List ℕ
  pub spelled : AreSpelled s.Spells xs texts
  pub taken : Takes bytes (texts ++ 0 ∷ []) rest

ended_step : {X : Type 0} (s : Shape X) (n : ℕ)
    → ((bytes : List ℕ) (xs : List X) (rest : List ℕ) → IsBytes bytes → until_end (next_at s.read) n bytes ≡ Ok (xs, rest) → AllTaken s bytes xs rest)
    → (bytes : List ℕ) (xs : List X) (rest : List ℕ) (x : Option X × List ℕ) → NextTakes s bytes x → continued (until_end (next_at s.read) n) x ≡ Ok (xs, rest) → AllTaken s bytes xs rest
ended_step {X = X} s n so_on bytes xs rest (None, after) took e =
    subst (λ (y : List X × List ℕ). AllTaken s bytes y.0 y.1) (ok_is ([], after) (xs, rest) e) (record { texts = []; spelled = refl; taken = took })
ended_step {X = X} s n so_on bytes xs rest (Some first, after) took e =
    let a = bind_ok (until_end (next_at s.read) n after) (λ y. Ok (first ∷ y.0, y.1)) (xs, rest) e in
    let others = so_on after a.0.0 a.0.1 took.2.rest_fits a.1 in
    let both = Takes-then bytes took.0 after (others.texts ++ 0 ∷ []) a.0.1 took.2 others.taken in
    let regrouped : took.0 ++ (others.texts ++ 0 ∷ []) ≡ (took.0 ++ others.texts) ++ 0 ∷ [] = sym (append_assoc took.0 others.texts (0 ∷ [])) in
    let all : AllTaken s bytes (first ∷ a.0.0) a.0.1 = record { texts = took.0 ++ others.texts; spelled = (took.0, others.texts, refl {a = took.0 ++ others.texts}, took.1, others.spelled); taken = subst (λ (t : List ℕ). Takes bytes t a.0.1) regrouped both } in
    subst (λ (y : List X × List ℕ). AllTaken s bytes y.0 y.1) (ok_is (first ∷ a.0.0, a.0.1) (xs, rest) a.2) all

ended_takes : {X : Type 0} (s : Shape X) → IsShape s → (n : ℕ) (bytes : List ℕ) (xs : List X) (rest : List ℕ) → IsBytes bytes → until_end (next_at s.read) n bytes ≡ Ok (xs, rest) → AllTaken s bytes xs rest
unfolding until_end
ended_takes s is zero bytes xs rest fits e = absurd cc
ended_takes s is (suc n) bytes xs rest fits e =
    let a = bind_ok (next_at s.read bytes) (continued (until_end (next_at s.read) n)) (xs, rest) e in
    ended_step s n (λ b ys r. ended_takes s is n b ys r) bytes xs rest a.0 (next_takes s is bytes a.0 fits a.1) a.2

next_again : {X : Type 0} (s : Shape X) → IsShape s → StartsWell s → (x : X) (text rest : List ℕ) → s.Spells x text → next_at s.read (text ++ rest) ≡ Ok (Some x, rest)
unfolding next_at
next_again s is starts x text rest h =
    let start = starts x text h in
    let other : (suc start.0 == 0) ≡ false = ne_eqb (suc start.0) 0 (λ e. absurd (omega arith)) in
    let read : s.read (suc start.0 ∷ (start.1 ++ rest)) ≡ Ok (x, rest) = ap (λ (t : List ℕ). s.read (t ++ rest)) (sym start.2) ∙ is.again x text rest h in
    ap (λ (t : List ℕ). next_at s.read (t ++ rest)) start.2 ∙ rw other (ap (λ r. r >>= listed) read)

ended_again : {X : Type 0} (s : Shape X) → IsShape s → StartsWell s → (n : ℕ) (xs : List X) (texts rest : List ℕ) → length texts < n → AreSpelled s.Spells xs texts → until_end (next_at s.read) n (texts ++ 0 ∷ rest) ≡ Ok (xs, rest)
unfolding until_end next_at
ended_again s is starts zero xs texts rest lt h = absurd (omega arith)
ended_again s is starts (suc n) [] texts rest lt h = rw h refl
ended_again s is starts (suc n) (x ∷ xs) texts rest lt h =
    let start = starts x h.0 h.3 in
    let some : length h.0 ≡ suc (length start.1) = ap length start.2 in
    let less : length h.1 < n = omega (arith, lt, some, ap length h.2, length-append h.0 h.1) in
    let regrouped : texts ++ 0 ∷ rest ≡ h.0 ++ (h.1 ++ 0 ∷ rest) = ap (λ (t : List ℕ). t ++ 0 ∷ rest) h.2 ∙ append_assoc h.0 h.1 (0 ∷ rest) in
    ap (until_end (next_at s.read) (suc n)) regrouped ∙ rw (next_again s is starts x h.0 (h.1 ++ 0 ∷ rest) h.3, ended_again s is starts n xs h.1 rest less h.4) refl

-- ---- where values up to a zero byte break

ended_more : {X : Type 0} (s : Shape X) (bytes rest text : List ℕ) (x : X) (left : ℕ) → bytes ≡ text ++ rest → s.Spells x text → BreaksEnded s rest left → BreaksEnded s bytes left
ended_more s bytes rest text x left is spelled (xs, texts, after, parts, all, h) =
    let whole : bytes ≡ (text ++ texts) ++ after = is ∙ ap (λ (r : List ℕ). text ++ r) parts ∙ sym (append_assoc text texts after) in
    (x ∷ xs, text ++ texts, after, whole, (text, texts, refl {a = text ++ texts}, spelled, all), h)

-- the first bad one of all, where none comes before it
ended_here : {X : Type 0} (s : Shape X) (bytes : List ℕ) (left : ℕ) → BreaksNext s bytes left → BreaksEnded s bytes left
ended_here s bytes left h = ([], [], bytes, refl, refl, h)

ended_found : {X : Type 0} (s : Shape X) → IsShape s → StartsWell s → (n : ℕ) → ((bytes : List ℕ) (left : ℕ) → IsBytes bytes → length bytes ≤ n → until_end (next_at s.read) n bytes ≡ Err left → BreaksEnded s bytes left) → (byte : ℕ) (bytes : List ℕ) (left : ℕ) → (byte == 0) ≡ false → IsBytes (byte ∷ bytes) → length (byte ∷ bytes) ≤ suc n → (found : Result (X × List ℕ) ℕ) → s.read (byte ∷ bytes) ≡ found → (found >>= listed >>= continued (until_end (next_at s.read) n)) ≡ Err left → BreaksEnded s (byte ∷ bytes) left
ended_found s p starts n so_on byte bytes left other fits le (Err m) is e = ended_here s (byte ∷ bytes) left (other, p.broken (byte ∷ bytes) left fits (is ∙ same_fault m left e))
ended_found s p starts n so_on byte bytes left other fits le (Ok x) is e =
    let one = p.takes (byte ∷ bytes) x.0 x.1 fits is in
    let start = starts x.0 one.0 one.1 in
    let some : length one.0 ≡ suc (length start.1) = ap length start.2 in
    let less : length x.1 ≤ n = omega (arith, le, some, ap length one.2.parts, length-append one.0 x.1) in
    let others = so_on x.1 left one.2.rest_fits less (made_fault (until_end (next_at s.read) n x.1) (λ y. (x.0 ∷ y.0, y.1)) left e) in
    ended_more s (byte ∷ bytes) x.1 one.0 x.0 left one.2.parts one.1 others

-- no bytes are left, whatever the turns
no_bytes : {X : Type 0} (s : Shape X) (n : ℕ) (left : ℕ) → until_end (next_at s.read) n [] ≡ Err left → left ≡ 0
unfolding until_end next_at
no_bytes s zero left e = cc
no_bytes s (suc n) left e = cc

nothing_left : {X : Type 0} (s : Shape X) (n : ℕ) (left : ℕ) → left ≡ 0 → until_end (next_at s.read) n [] ≡ Err left
unfolding until_end next_at
nothing_left s zero left h = ap fault (sym h)
nothing_left s (suc n) left h = ap fault (sym h)

ended_broken : {X : Type 0} (s : Shape X) → IsShape s → StartsWell s → (n : ℕ) (bytes : List ℕ) (left : ℕ) → IsBytes bytes → length bytes ≤ n → until_end (next_at s.read) n bytes ≡ Err left → BreaksEnded s bytes left
unfolding until_end next_at
ended_broken s p starts n [] left fits le e = ended_here s [] left (no_bytes s n left e)
ended_broken s p starts zero (byte ∷ bytes) left fits le e = absurd (omega (arith, le))
ended_broken s p starts (suc n) (zero ∷ bytes) left fits le e = absurd (no_value ([], bytes) left e)
ended_broken s p starts (suc n) (suc b ∷ bytes) left fits le e =
    let other : (suc b == 0) ≡ false = ne_eqb (suc b) 0 (λ e. absurd (omega arith)) in
    ended_found s p starts n (λ bs l. ended_broken s p starts n bs l) (suc b) bytes left other fits le (s.read (suc b ∷ bytes)) refl (rw other at e)

ended_fault : {X : Type 0} (s : Shape X) → IsShape s → (n : ℕ) (byte : ℕ) (rest : List ℕ) (left : ℕ) → IsBytes (byte ∷ rest) → (byte == 0) ≡ false → s.Breaks (byte ∷ rest) left → until_end (next_at s.read) (suc n) (byte ∷ rest) ≡ Err left
unfolding until_end next_at
ended_fault s p n byte rest left fits other h = rw (other, p.breaks (byte ∷ rest) left fits h) refl

ended_break : {X : Type 0} (s : Shape X) → IsShape s → StartsWell s → (n : ℕ) (xs : List X) (texts rest : List ℕ) (left : ℕ) → IsBytes rest → length (texts ++ rest) ≤ n → AreSpelled s.Spells xs texts → BreaksNext s rest left → until_end (next_at s.read) n (texts ++ rest) ≡ Err left
unfolding until_end
ended_break s p starts n [] texts [] left fits le all h = rw all (nothing_left s n left h)
ended_break s p starts zero [] texts (byte ∷ rest) left fits le all h = absurd (omega (arith, le, length-append texts (byte ∷ rest)))
ended_break s p starts (suc n) [] texts (byte ∷ rest) left fits le all h = rw all (ended_fault s p n byte rest left fits h.0 h.1)
ended_break s p starts zero (x ∷ xs) texts rest left fits le all h =
    let start = starts x all.0 all.3 in
    absurd (omega (arith, le, length-append texts rest, ap length all.2, length-append all.0 all.1, ap length start.2))
ended_break s p starts (suc n) (x ∷ xs) texts rest left fits le all h =
    let start = starts x all.0 all.3 in
    let some : length all.0 ≡ suc (length start.1) = ap length start.2 in
    let less : length (all.1 ++ rest) ≤ n = omega (arith, le, some, ap length all.2, length-append all.0 all.1, length-append texts rest, length-append all.1 rest) in
    let regrouped : texts ++ rest ≡ all.0 ++ (all.1 ++ rest) = ap (λ (t : List ℕ). t ++ rest) all.2 ∙ append_assoc all.0 all.1 rest in
    ap (until_end (next_at s.read) (suc n)) regrouped ∙ rw (next_again s p starts x all.0 (all.1 ++ rest) all.3, ended_break s p starts n xs all.1 rest left fits less all.4 h) refl

ended_breaks : {X : Type 0} (s : Shape X) → IsShape s → StartsWell s → (bytes : List ℕ) (left : ℕ) → IsBytes bytes → BreaksEnded s bytes left → ended_at s.read bytes ≡ Err left
ended_breaks s p starts bytes left fits (xs, texts, rest, is, all, h) =
    ap (until_end (next_at s.read) (length bytes)) is ∙ ended_break s p starts (length bytes) xs texts rest left (rest_fits bytes texts rest fits is) (omega (arith, ap length is)) all h

pub zero_ended_is : {X : Type 0} (s : Shape X) → IsShape s → StartsWell s → IsShape (zero_ended s)
unfolding ended_bytes
zero_ended_is s is starts = record {
  takes = λ bytes xs rest fits e. let all = ended_takes s is (length bytes) bytes xs rest fits e in (all.texts ++ 0 ∷ [], (all.texts, refl {a = all.texts ++ 0 ∷ []}, all.spelled), all.taken);
  again = λ xs text rest h.
      let regrouped : text ++ rest ≡ h.0 ++ 0 ∷ rest = ap (λ (t : List ℕ). t ++ rest) h.1 ∙ append_assoc h.0 (0 ∷ []) rest in
      ap (ended_at s.read) regrouped ∙ ended_again s is starts (length (h.0 ++ 0 ∷ rest)) xs h.0 rest (omega (arith, length-append h.0 (0 ∷ rest))) h.2;
  written = λ xs h small. (flat_map s.write xs, refl, items_written s is.written xs h (omega (arith, small, length-append (flat_map s.write xs) (0 ∷ []))));
  broken = λ bytes left fits e. ended_broken s is starts (length bytes) bytes left fits (omega arith) e;
  breaks = ended_breaks s is starts;
}

-- ---- values made of others

pub via_is : {X Y : Type 0} (made : X → Y) (taken : Y → X) (s : Shape X) → IsShape s → ((y : Y) → s.good (taken y) ≡ true → made (taken y) ≡ y) → IsShape (via made taken s)
via_is {X = X} {Y = Y} made taken s is back = record {
  takes = λ bytes y rest fits e.
      let a = bind_ok (s.read bytes) (λ x. Ok (made x.0, x.1)) (y, rest) e in
      let one = is.takes bytes a.0.0 a.0.1 fits a.1 in
      let all : (text : List ℕ) × (via made taken s).Spells (made a.0.0) text × Takes bytes text a.0.1 = (one.0, (a.0.0, refl {a = made a.0.0}, one.1), one.2) in
      subst (λ (z : Y × List ℕ). (text : List ℕ) × (via made taken s).Spells z.0 text × Takes bytes text z.1) (ok_is (made a.0.0, a.0.1) (y, rest) a.2) all;
  again = λ y text rest h. via_ok made s.read (text ++ rest) rest h.0 y (is.again h.0 text rest h.2) h.1;
  written = λ y h small. (taken y, back y h, is.written (taken y) h small);
  broken = λ bytes left fits e. is.broken bytes left fits (made_fault (s.read bytes) (λ x. (made x.0, x.1)) left e);
  breaks = λ bytes left fits h. ap (λ r. r >>= λ x. Ok (made x.0, x.1)) (is.breaks bytes left fits h);
}
