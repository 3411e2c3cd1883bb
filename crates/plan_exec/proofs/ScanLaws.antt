-- The collected numbers are those that the plan scans, ascending and each once.
use Rattle.std.proofs.Common.{◌≡◌, ◌∙◌, ℕ, ◌≢◌, ◌==◌, nat_lt, Bool, true, false, ◌&&◌, ◌||◌, List, [], ◌∷◌, ◌++◌, refl, sym, ap, subst, true≢false, eq-eqb, arith}
use Rattle.std.proofs.lemmas.Bool.{eqb-true, ltb-false}
use Rattle.std.proofs.lemmas.List.Folds.{list_any-append}
use Rattle.row_conditions.proofs.BoolLaws.{and_first, and_second, or_assoc, or_false}
use Rattle.plan_exec.specs.Scanned.{collect_step, collected, with_number}
use Rattle.query_meaning.specs.Plans.{AreScanned, ascends, has_number, scans, scans_step}
use Rattle.query_meaning.specs.declared.plan.Plan.{Plan, map-Plan, roll-Plan}
use Rattle.query_meaning.specs.declared.plan.Plan.TheFolds.{fold-roll-Plan, ind-Plan}
use Rattle.query_meaning.specs.declared.plan.Plan.TheOpen.{Plan-F}

swap_or : (a b d : Bool) → ((a || b) || d) ≡ ((a || d) || b)
swap_or true b d = refl
swap_or false true true = refl
swap_or false true false = refl
swap_or false false true = refl
swap_or false false false = refl

or_swap : (a b : Bool) → (a || b) ≡ (b || a)
or_swap true true = refl
or_swap true false = refl
or_swap false true = refl
or_swap false false = refl

-- the number is among them, and nothing else is new
has_step : (k number first : ℕ) (numbers : List ℕ) (less same : Bool) → nat_lt number first ≡ less → (number == first) ≡ same → has_number k (with_number number numbers) ≡ (has_number k numbers || (number == k)) → has_number k (with_number number (first ∷ numbers)) ≡ (has_number k (first ∷ numbers) || (number == k))
has_step k number first numbers true same l s rest = rw l (or_swap (number == k) (has_number k (first ∷ numbers)))
has_step k number first numbers false true l s rest =
    rw (l, s) (within (first == k) (has_number k numbers) (number == k) (ap (λ n. n == k) (eqb-true number first s)))
  where
    within : (a b d : Bool) → d ≡ a → (a || b) ≡ ((a || b) || d)
    within true b d h = refl
    within false b d h = sym (ap (λ x. b || x) h ∙ or_false b)
has_step k number first numbers false false l s rest = rw (l, s) (ap (λ b. (first == k) || b) rest ∙ sym (or_assoc (first == k) (has_number k numbers) (number == k)))

has_with : (k number : ℕ) (numbers : List ℕ) → has_number k (with_number number numbers) ≡ (has_number k numbers || (number == k))
has_with k number [] = or_false (number == k)
has_with k number (first ∷ numbers) = has_step k number first numbers (nat_lt number first) (number == first) refl refl (has_with k number numbers)

-- the first of ascending numbers is before each that follows
abbrev leads : ℕ → List ℕ → Bool
leads number [] = true
leads number (first ∷ numbers) = nat_lt number first && ascends (first ∷ numbers)

ascends_as : (number : ℕ) (numbers : List ℕ) → ascends (number ∷ numbers) ≡ leads number numbers
ascends_as number [] = refl
ascends_as number (first ∷ numbers) = refl

tail_ascends : (number : ℕ) (numbers : List ℕ) → ascends (number ∷ numbers) ≡ true → ascends numbers ≡ true
tail_ascends number [] h = refl
tail_ascends number (first ∷ numbers) h = and_second (nat_lt number first) _ h

both : (a b : Bool) → a ≡ true → b ≡ true → (a && b) ≡ true
both true b h k = k
both false b h k = absurd (true≢false (sym h))

behind_first : (number first : ℕ) (more : Bool) → nat_lt number first ≡ false → (number == first) ≡ false → nat_lt first number ≡ more → nat_lt first number ≡ true
behind_first number first true l s is = is
behind_first number first false l s is = absurd (omega (arith, ltb-false number first l, ltb-false first number is, other)) where
  other : number ≢ first
  other same = true≢false (sym (eq-eqb number first same) ∙ s)

lead_step : (first number second : ℕ) (rest : List ℕ) (less same : Bool) → nat_lt number second ≡ less → (number == second) ≡ same → nat_lt first number ≡ true → ascends (first ∷ second ∷ rest) ≡ true → ascends (with_number number (second ∷ rest)) ≡ true → ascends (first ∷ with_number number (second ∷ rest)) ≡ true
lead_step first number second rest true same l s before h k = rw l (both _ _ before (rw l at k))
lead_step first number second rest false true l s before h k = rw (l, s) h
lead_step first number second rest false false l s before h k = rw (l, s) (both _ _ (and_first _ _ h) (rw (l, s) at k))

lead_with : (first number : ℕ) (rest : List ℕ) → nat_lt first number ≡ true → ascends (first ∷ rest) ≡ true → ascends (with_number number rest) ≡ true → ascends (first ∷ with_number number rest) ≡ true
lead_with first number [] before h k = both _ _ before refl
lead_with first number (second ∷ rest) before h k = lead_step first number second rest (nat_lt number second) (number == second) refl refl before h k

ascend_step : (number first : ℕ) (rest : List ℕ) (less same : Bool) → nat_lt number first ≡ less → (number == first) ≡ same → ascends (first ∷ rest) ≡ true → (ascends rest ≡ true → ascends (with_number number rest) ≡ true) → ascends (with_number number (first ∷ rest)) ≡ true
ascend_step number first rest true same l s h ih = rw l (both _ _ l h)
ascend_step number first rest false true l s h ih = rw (l, s) h
ascend_step number first rest false false l s h ih = rw (l, s) (lead_with first number rest (behind_first number first (nat_lt first number) l s refl) h (ih (tail_ascends first rest h)))

ascend_with : (number : ℕ) (numbers : List ℕ) → ascends numbers ≡ true → ascends (with_number number numbers) ≡ true
ascend_with number [] h = refl
ascend_with number (first ∷ rest) h = ascend_step number first rest (nat_lt number first) (number == first) refl refl h (ascend_with number rest)

-- the numbers so far, and those of a part
pub record Collects (collect : List ℕ → List ℕ) (numbers : List ℕ) : Type 0 where
  pub ascending : (out : List ℕ) → ascends out ≡ true → ascends (collect out) ≡ true
  pub same : (out : List ℕ) (k : ℕ) → has_number k (collect out) ≡ (has_number k out || has_number k numbers)

abbrev P : Plan → Type 0
P p = Collects (collected p) (scans p)

rolled : (x : Plan-F Plan) → Collects (collect_step (map-Plan Plan (List ℕ → List ℕ) collected x)) (scans_step (map-Plan Plan (List ℕ) scans x)) → P (roll-Plan x)
rolled x f =
    subst (λ (g : List ℕ → List ℕ). Collects g (scans (roll-Plan x))) (sym (fold-roll-Plan (List ℕ → List ℕ) collect_step x))
    (subst (λ (ns : List ℕ). Collects (collect_step (map-Plan Plan (List ℕ → List ℕ) collected x)) ns) (sym (fold-roll-Plan (List ℕ) scans_step x)) f)

regroup : (o r l : Bool) → ((o || r) || l) ≡ (o || (l || r))
regroup true r l = refl
regroup false true true = refl
regroup false true false = refl
regroup false false true = refl
regroup false false false = refl

two_parts : (f g : List ℕ → List ℕ) (left right : List ℕ) → Collects f left → Collects g right → Collects (λ out. f (g out)) (left ++ right)
two_parts f g left right a b = record {
  ascending = λ out h. a.ascending (g out) (b.ascending out h);
  same = λ out k. a.same (g out) k ∙ ap (λ x. x || has_number k left) (b.same out k) ∙ regroup (has_number k out) (has_number k right) (has_number k left) ∙ ap (λ x. has_number k out || x) (sym (list_any-append (λ other. other == k) left right));
}

layer : (y : Plan-F ((p : Plan) × P p)) → P (roll-Plan (map-Plan ((p : Plan) × P p) Plan (λ e. e.0) y))
layer (Plan-F.Scan number) = rolled (Plan-F.Scan number) (record {
  ascending = λ out h. ascend_with number out h;
  same = λ out k. has_with k number out ∙ ap (λ x. has_number k out || x) (sym (or_false (number == k)));
})
layer (Plan-F.Filter s cond) = rolled (Plan-F.Filter s.0 cond) (record { ascending = s.1.ascending; same = s.1.same })
layer (Plan-F.Keep s items) = rolled (Plan-F.Keep s.0 items) (record { ascending = s.1.ascending; same = s.1.same })
layer (Plan-F.Join l r cond) = rolled (Plan-F.Join l.0 r.0 cond) (two_parts (collected l.0) (collected r.0) (scans l.0) (scans r.0) l.1 r.1)
layer (Plan-F.Union l r) = rolled (Plan-F.Union l.0 r.0) (two_parts (collected l.0) (collected r.0) (scans l.0) (scans r.0) l.1 r.1)
layer (Plan-F.Except l r) = rolled (Plan-F.Except l.0 r.0) (two_parts (collected l.0) (collected r.0) (scans l.0) (scans r.0) l.1 r.1)
layer (Plan-F.Rename s alias) = rolled (Plan-F.Rename s.0 alias) (record { ascending = s.1.ascending; same = s.1.same })
layer (Plan-F.Choose expr l r) = rolled (Plan-F.Choose expr l.0 r.0) (two_parts (collected l.0) (collected r.0) (scans l.0) (scans r.0) l.1 r.1)
layer Plan-F.Nothing = rolled Plan-F.Nothing (record { ascending = λ out h. h; same = λ out k. sym (or_false (has_number k out)) })

collects : (p : Plan) → P p
collects = ind-Plan P (λ x y is. subst (λ z. P (roll-Plan z)) is (layer y))

pub scanned_are : (p : Plan) (numbers none : List ℕ) → none ≡ [] → numbers ≡ collected p none → AreScanned p numbers
scanned_are p numbers none empty is =
    subst (AreScanned p) (sym (is ∙ ap (collected p) empty)) (record {
      ascending = (collects p).ascending [] refl;
      same = λ number. (collects p).same [] number;
    })
