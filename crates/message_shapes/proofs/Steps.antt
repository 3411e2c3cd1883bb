-- Bytes that are put one behind the other.
use Rattle.std.proofs.Common.{◌≡◌, ℕ, zero, suc, ◌+◌, ◌-◌, ◌≤◌, ◌<◌, List, [], ◌∷◌, ◌++◌, length, take, drop, refl, sym, ap, ap₂, ◌∙◌, append_assoc, arith, inl, inr, Some, get_or}
use Rattle.std.proofs.lemmas.List.{append-nil, length-append, length-drop, length-take}
use Rattle.std.specs.Prelude.{min, ◌%◌, ◌/◌, ◌==◌, ◌&&◌, true}
use Rattle.std.specs.Int.{w16, w32, to_be_bytes}
use Rattle.std.specs.List.{flat_map}
use Rattle.std.proofs.lemmas.Bool.{and_parts, cases_lt, eqb-true}
use Rattle.std.proofs.lemmas.List.{nil_from_length, drop_more}
use Rattle.message_shapes.specs.Shapes.{number_bytes, one_byte, sized_bytes, counted_bytes, ended_bytes}
use Rattle.message_shapes.specs.Walks.{Walked, walked, step, Fills}
use Rattle.message_shapes.specs.declared.walk.Walk.{Walk}

abbrev nil : List ℕ
nil = []

drop_append : (n : ℕ) (a b : List ℕ) → drop n (a ++ b) ≡ drop n a ++ drop (n - length a) b
drop_append zero a b = (let none : zero - length a ≡ 0 = omega arith in rw none refl)
drop_append (suc n) [] b = (let all : suc n - 0 ≡ suc n = omega arith in rw all refl)
drop_append (suc n) (x ∷ a) b = (let same : suc n - suc (length a) ≡ n - length a = omega arith in rw same (drop_append n a b))

take_append : (n : ℕ) (a b : List ℕ) → take n (a ++ b) ≡ take n a ++ take (n - length a) b
take_append zero a b = (let none : zero - length a ≡ 0 = omega arith in rw none refl)
take_append (suc n) [] b = (let all : suc n - 0 ≡ suc n = omega arith in rw all refl)
take_append (suc n) (x ∷ a) b = (let same : suc n - suc (length a) ≡ n - length a = omega arith in rw same (ap (λ (t : List ℕ). x ∷ t) (take_append n a b)))

drop_drop : (m n : ℕ) (a : List ℕ) → drop m (drop n a) ≡ drop (n + m) a
drop_drop m zero a = (let none : 0 + m ≡ m = omega arith in rw none refl)
drop_drop zero (suc n) [] = (let more : suc n + 0 ≡ suc n = omega arith in rw more refl)
drop_drop (suc m) (suc n) [] = (let more : suc n + suc m ≡ suc (n + suc m) = omega arith in rw more refl)
drop_drop m (suc n) (x ∷ a) = (let more : suc n + m ≡ suc (n + m) = omega arith in rw more (drop_drop m n a))

drop-nil : (n : ℕ) → drop n nil ≡ nil
drop-nil zero = refl
drop-nil (suc n) = refl

take-nil : (n : ℕ) → take n nil ≡ nil
take-nil zero = refl
take-nil (suc n) = refl

drop_past : {X : Type 0} (n : ℕ) (xs : List X) → length xs ≤ n → drop n xs ≡ []
drop_past n xs le = nil_from_length (drop n xs) (omega (arith, length-drop n xs))

abbrev made : ℕ → List ℕ → List ℕ → Walked
made skip shown left = record { skip = skip; shown = shown; left = left }

pub step_append : (a b : List ℕ) (w : Walked) → step (a ++ b) w ≡ step b (step a w)
unfolding step
step_append a b w =
    let rest = drop w.skip a in
    let behind = drop (w.skip - length a) b in
    let both : drop w.skip (a ++ b) ≡ rest ++ behind = drop_append w.skip a b in
    let skip : w.skip - length (a ++ b) ≡ w.skip - length a - length b = omega (arith, length-append a b) in
    let room : length w.left - length rest ≡ length (drop (length rest) w.left) = omega (arith, length-drop (length rest) w.left) in
    let shown : w.shown ++ take (length w.left) (drop w.skip (a ++ b)) ≡ (w.shown ++ take (length w.left) rest) ++ take (length (drop (length rest) w.left)) behind =
    ap (λ (t : List ℕ). w.shown ++ take (length w.left) t) both ∙ ap (λ (t : List ℕ). w.shown ++ t) (take_append (length w.left) rest behind ∙ ap (λ (k : ℕ). take (length w.left) rest ++ take k behind) room) ∙ sym (append_assoc w.shown (take (length w.left) rest) (take (length (drop (length rest) w.left)) behind)) in
    let left : drop (length (drop w.skip (a ++ b))) w.left ≡ drop (length behind) (drop (length rest) w.left) =
    ap (λ (k : ℕ). drop k w.left) (ap length both ∙ length-append rest behind) ∙ sym (drop_drop (length behind) (length rest) w.left) in
    ap₂ (λ (n : ℕ) (t : List ℕ). made n t (drop (length (drop w.skip (a ++ b))) w.left)) skip shown ∙ ap (made (w.skip - length a - length b) ((w.shown ++ take (length w.left) rest) ++ take (length (drop (length rest) w.left)) behind)) left

-- a full space stays as it is
full_is : (bytes : List ℕ) (skip : ℕ) (shown left : List ℕ) → skip ≡ 0 → left ≡ [] → step bytes (made skip shown left) ≡ made skip shown left
unfolding step
full_is bytes skip shown left done full =
    let none : skip - length bytes ≡ skip = omega (arith, done) in
    rw (none, full) (ap (λ (t : List ℕ). made skip t (drop (length (drop skip bytes)) [])) (append-nil shown) ∙ ap (made skip shown) (drop-nil (length (drop skip bytes))))

pub step_full : (bytes : List ℕ) (w : Walked) → w.skip ≡ 0 → w.left ≡ [] → step bytes w ≡ w
step_full bytes w done full = full_is bytes w.skip w.shown w.left done full

-- one more item of a list, whose bytes go before those of the others
pub step_items : {X : Type 0} (write : X → List ℕ) (x : X) (xs : List X) (w : Walked) → step (flat_map write xs) (step (write x) w) ≡ step (flat_map write (x ∷ xs)) w
step_items write x xs w = sym (step_append (write x) (flat_map write xs) w)

pub step_stays : (bytes : List ℕ) (at : Walk) (space : List ℕ) → (at.skip == 0 && at.filled == length space) ≡ true → step bytes (walked at space) ≡ walked at space
step_stays bytes at space h =
    let parts = and_parts (at.skip == 0) (at.filled == length space) h in
    let all : length (drop at.filled space) ≡ 0 = omega (arith, length-drop at.filled space, eqb-true at.filled (length space) parts.1) in
    step_full bytes (walked at space) (eqb-true at.skip 0 parts.0) (nil_from_length (drop at.filled space) all)

-- the lowest bytes of a number are those of its remainder
pub low_bytes2 : (n : ℕ) → to_be_bytes w16 (n % 65536) ≡ to_be_bytes w16 n
low_bytes2 n =
    let a : n % 65536 / 256 % 256 ≡ n / 256 % 256 = omega arith in
    let b : n % 65536 % 256 ≡ n % 256 = omega arith in
    ap₂ (λ (x y : ℕ). x ∷ y ∷ []) a b

pub low_bytes4 : (n : ℕ) → to_be_bytes w32 (n % 4294967296) ≡ to_be_bytes w32 n
low_bytes4 n =
    let a : n % 4294967296 / 16777216 % 256 ≡ n / 16777216 % 256 = omega arith in
    let b : n % 4294967296 / 65536 % 256 ≡ n / 65536 % 256 = omega arith in
    let c : n % 4294967296 / 256 % 256 ≡ n / 256 % 256 = omega arith in
    let d : n % 4294967296 % 256 ≡ n % 256 = omega arith in
    ap₂ (λ (x : ℕ) (t : List ℕ). x ∷ t) a (ap₂ (λ (x : ℕ) (t : List ℕ). x ∷ t) b (ap₂ (λ (x y : ℕ). x ∷ y ∷ []) c d))

pub step_none : (w : Walked) → step [] w ≡ w
unfolding step
step_none w =
    let same : w.skip - 0 ≡ w.skip = omega arith in
    let nothing : drop w.skip nil ≡ [] = drop-nil w.skip in
    rw (same, nothing) (ap (λ (t : List ℕ). made w.skip t w.left) (ap (λ (t : List ℕ). w.shown ++ t) (take-nil (length w.left)) ∙ append-nil w.shown))

-- ---- the items of a list

pub step_last : {X : Type 0} (write : X → List ℕ) (i : ℕ) (xs : List X) (w all : Walked) → length xs ≤ i → step (flat_map write (drop i xs)) w ≡ all → w ≡ all
step_last write i xs w all le so_far = sym (step_none w) ∙ ap (λ ys. step (flat_map write ys) w) (sym (drop_past i xs le)) ∙ so_far

pub step_more : {X : Type 0} (write : X → List ℕ) (i : ℕ) (xs : List X) (x : X) (w next all : Walked) → drop i xs ≡ x ∷ drop (i + 1) xs → next ≡ step (write x) w → step (flat_map write (drop i xs)) w ≡ all → step (flat_map write (drop (i + 1) xs)) next ≡ all
step_more write i xs x w next all at put so_far =
    ap (step (flat_map write (drop (i + 1) xs))) put ∙ step_items write x (drop (i + 1) xs) w ∙ ap (λ ys. step (flat_map write ys) w) (sym at) ∙ so_far

pub step_low2 : (n : ℕ) (w next : Walked) → next ≡ step (number_bytes w16 (n % 65536)) w → next ≡ step (number_bytes w16 n) w
unfolding number_bytes
step_low2 n w next h = h ∙ ap (λ (t : List ℕ). step t w) (low_bytes2 n)

pub step_low4 : (n : ℕ) (w next : Walked) → next ≡ step (number_bytes w32 (n % 4294967296)) w → next ≡ step (number_bytes w32 n) w
unfolding number_bytes
step_low4 n w next h = h ∙ ap (λ (t : List ℕ). step t w) (low_bytes4 n)

pub step_then : (a b : List ℕ) (w next last : Walked) → next ≡ step a w → last ≡ step b next → last ≡ step (a ++ b) w
step_then a b w next last p q = q ∙ ap (step b) p ∙ sym (step_append a b w)

pub step_count : {X : Type 0} (write : X → List ℕ) (xs : List X) (w next last : Walked) → next ≡ step (number_bytes w16 (length xs)) w → last ≡ step (flat_map write xs) next → last ≡ step (counted_bytes write xs) w
unfolding number_bytes counted_bytes
step_count write xs w next last p q = step_then (to_be_bytes w16 (length xs)) (flat_map write xs) w next last p q

pub step_size : (bytes : List ℕ) (w next last : Walked) → next ≡ step (number_bytes w32 (length bytes)) w → last ≡ step bytes next → last ≡ step (sized_bytes (Some bytes)) w
unfolding number_bytes sized_bytes
step_size bytes w next last p q = step_then (to_be_bytes w32 (length bytes)) bytes w next last p q

pub step_ended : {X : Type 0} (write : X → List ℕ) (xs : List X) (w next last : Walked) → next ≡ step (flat_map write xs) w → last ≡ step (0 ∷ []) next → last ≡ step (ended_bytes write xs) w
unfolding ended_bytes
step_ended write xs w next last p q = step_then (flat_map write xs) (0 ∷ []) w next last p q

pub drop_item : {X : Type 0} (xs : List X) (i : ℕ) (x : X) → i < length xs → x ≡ get_or xs i x → drop i xs ≡ x ∷ drop (i + 1) xs
drop_item xs i x lt is = drop_more xs i x lt ∙ ap (λ y. y ∷ drop (i + 1) xs) (sym is)

-- ---- the head of a message, and its whole

take_len : (k : ℕ) (bytes : List ℕ) → take (length (take k bytes)) bytes ≡ take k bytes
take_len zero bytes = refl
take_len (suc k) [] = refl
take_len (suc k) (x ∷ bytes) = ap (λ (t : List ℕ). x ∷ t) (take_len k bytes)

shorter : (k n : ℕ) (bytes : List ℕ) → n ≡ length (take k bytes) → take k bytes ≡ take n bytes
shorter k n bytes len = sym (take_len k bytes) ∙ ap (λ (j : ℕ). take j bytes) (sym len)

same_left : (k n : ℕ) (old : List ℕ) → n ≤ k → (n < k → length old ≤ n) → drop k old ≡ drop n old
same_left k n old le past =
    elim (cases_lt n k) [
      | inl lt ↦ drop_past k old (omega (arith, past lt, lt)) ∙ sym (drop_past n old (past lt))
      | inr ge ↦ (let same : k ≡ n = omega (arith, le, ge) in ap (λ (j : ℕ). drop j old) same)
    ]

passed_is : (bytes : List ℕ) (skip : ℕ) (shown left : List ℕ) → length bytes ≤ skip → step bytes (made skip shown left) ≡ made (skip - length bytes) shown left
unfolding step
passed_is bytes skip shown left le =
    let nothing : drop skip bytes ≡ [] = drop_past skip bytes le in
    rw nothing (ap (λ (t : List ℕ). made (skip - length bytes) t left) (ap (λ (t : List ℕ). shown ++ t) (take-nil (length left)) ∙ append-nil shown))

-- bytes before the offset aren't looked at
pub step_passed : (bytes : List ℕ) (n : ℕ) (at next : Walk) (space : List ℕ) → length bytes ≡ n → n ≤ at.skip → next.skip ≡ at.skip - n → next.filled ≡ at.filled → walked next space ≡ step bytes (walked at space)
step_passed bytes n at next space len le skip filled =
    let fewer : next.skip ≡ at.skip - length bytes = omega (arith, skip, len) in
    ap₂ (λ (m k : ℕ). made m (take k space) (drop k space)) fewer filled ∙ sym (passed_is bytes at.skip (take at.filled space) (drop at.filled space) (omega (arith, le, len)))

pub step_skip : (bytes : List ℕ) (at from : Walk) (space old : List ℕ) → walked at space ≡ step bytes (walked from old) → at.skip ≡ from.skip - length bytes
unfolding step
step_skip bytes at from space old h = ap (λ (w : Walked). w.skip) h

fills_at : (bytes : List ℕ) (offset : ℕ) (old new : List ℕ) (n : ℕ) → n ≤ length new → take n new ≡ take (length old) (drop offset bytes) → drop n new ≡ drop (length (drop offset bytes)) old → Fills bytes offset old new n
fills_at bytes offset old new n within shown left =
    let len : n ≡ length (take (length old) (drop offset bytes)) = omega (arith, within, length-take n new, ap length shown) in
    let count : n ≡ min (length old) (length bytes - offset) = len ∙ length-take (length old) (drop offset bytes) ∙ ap (min (length old)) (length-drop offset bytes) in
    record {
      count = count;
      filled = shown ∙ shorter (length old) n (drop offset bytes) len;
      kept = left ∙ same_left (length (drop offset bytes)) n old (omega (arith, count, length-drop offset bytes)) (λ lt. omega (arith, count, lt, length-drop offset bytes));
    }

walked_fills : (bytes : List ℕ) (at start : Walk) (old new : List ℕ) → start.filled ≡ 0 → at.filled ≤ length new → walked at new ≡ step bytes (walked start old) → Fills bytes start.skip old new at.filled
unfolding step
walked_fills bytes at start old new none within h =
    let shown : take at.filled new ≡ take start.filled old ++ take (length (drop start.filled old)) (drop start.skip bytes) = ap (λ (w : Walked). w.shown) h in
    let left : drop at.filled new ≡ drop (length (drop start.skip bytes)) (drop start.filled old) = ap (λ (w : Walked). w.left) h in
    fills_at bytes start.skip old new at.filled within (rw none at shown) (rw none at left)

pub fills : (head body : List ℕ) (at next start : Walk) (old mid new : List ℕ) → start.filled ≡ 0 → at.filled ≤ length new → walked next mid ≡ step head (walked start old) → walked at new ≡ step body (walked next mid) → Fills (head ++ body) start.skip old new at.filled
fills head body at next start old mid new none within p q =
    walked_fills (head ++ body) at start old new none within (step_then head body (walked start old) (walked next mid) (walked at new) p q)
