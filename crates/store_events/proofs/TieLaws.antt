-- Events that were answered up to a moment and from it on are all that was answered.
use Rattle.std.proofs.Common.{◌≡◌, ℕ, ◌≤◌, ◌<◌, ◌+◌, List, [], ◌∷◌, ◌++◌, inl, inr, refl, ◌∙◌, ap, subst, sym, arith, length, take, length-append, append_assoc}
use Rattle.std.proofs.lemmas.List.{take-append-le}
use Rattle.commit_log.specs.Kept.{Kept, Lasts, IsNotIn}
use Rattle.commit_log.specs.declared.commit.Commit.{Commit}
use Rattle.store_events.specs.Events.{Event, Event as event, places}
use Rattle.store_events.specs.Ties.{AllFit, Fits, IsCommitted, Moment, Numbered, Rising, Ties}
use Rattle.stored_versions.specs.Conflicts.{IsConflict}
use Rattle.vra_syntax.specs.declared.write.Write.{Write}

full_lasts : (old mid new : Kept) (n : ℕ) → Lasts mid new → Fits old mid (event.LogFull n) → Fits old new (event.LogFull n)
full_lasts old mid new n l f =
    let grown = ap length l.grown.1 ∙ length-append mid.seen l.grown.0 in
    let within = l.within (omega (arith, f.0, f.1)) in
    (f.0 ∙ sym l.most, omega (arith, f.0, f.1, grown, within, l.most))

rose_lasts : (old mid new : Kept) → Lasts mid new → Fits old mid event.KeeperFailed → Fits old new event.KeeperFailed
rose_lasts old mid new l (inl h) = inl (omega (arith, h, l.later))
rose_lasts old mid new l (inr h) = inr (omega (arith, h, l.later))

rose_before : (old mid new : Kept) → Lasts old mid → Fits mid new event.KeeperFailed → Fits old new event.KeeperFailed
rose_before old mid new l (inl h) = inl (omega (arith, h, l.later))
rose_before old mid new l (inr h) = inr h

take_front : (n : ℕ) (xs ys : List Commit) → n ≤ length xs → take n (xs ++ ys) ≡ take n xs
take_front n xs ys h = take-append-le n xs ys h

viewed_lasts : (old mid new : Kept) (commits : List Commit) → Lasts mid new → Fits old mid (event.Viewed commits) → Fits old new (event.Viewed commits)
viewed_lasts old mid new commits l f =
    let grown = ap length l.grown.1 ∙ length-append mid.seen l.grown.0 in
    (omega (arith, f.0, grown), f.1 ∙ sym (take_front (length commits) mid.seen l.grown.0 f.0) ∙ sym (ap (take (length commits)) l.grown.1))

committed_lasts : (mid new : Kept) (commit : Commit) (place : ℕ) → Lasts mid new → IsCommitted mid.seen commit place → IsCommitted new.seen commit place
committed_lasts mid new commit place l i = record { before = i.before; behind = i.behind ++ l.grown.0; log_is = l.grown.1 ∙ ap (λ xs. xs ++ l.grown.0) i.log_is ∙ append_assoc i.before (commit ∷ i.behind) l.grown.0; place_is = i.place_is; alone = i.alone }

conflict_lasts : (mid new : Kept) (base : ℕ) (writes : List Write) (table : List ℕ) (place : ℕ) → Lasts mid new → IsConflict mid.seen base writes table place → IsConflict new.seen base writes table place
conflict_lasts mid new base writes table place l i = record { before = i.before; commit = i.commit; behind = i.behind ++ l.grown.0; log_is = l.grown.1 ∙ ap (λ xs. xs ++ l.grown.0) i.log_is ∙ append_assoc i.before (i.commit ∷ i.behind) l.grown.0; place_is = i.place_is; past = i.past; least = i.least; table_is = i.table_is }

rising_low : (low mid high : ℕ) (two : List Event) → low ≤ mid → Rising mid two high → Rising low two high
rising_low low mid high [] h r = omega (arith, h, r)
rising_low low mid high (event.Begun s ∷ es) h r = (omega (arith, h, r.0), r.1)
rising_low low mid high (event.Committed b w p l s ∷ es) h r = (omega (arith, h, r.0), r.1)
rising_low low mid high (event.CameFirst p ∷ es) h r = (omega (arith, h, r.0), r.1)
rising_low low mid high (event.Viewed v ∷ es) h r = rising_low low mid high es h r
rising_low low mid high (event.Conflicted b w t p ∷ es) h r = rising_low low mid high es h r
rising_low low mid high (event.KeeperFailed ∷ es) h r = rising_low low mid high es h r
rising_low low mid high (event.LogFull n ∷ es) h r = rising_low low mid high es h r

rising_on : (low mid high : ℕ) (one two : List Event) → Rising low one mid → Rising mid two high → Rising low (one ++ two) high
rising_on low mid high [] two a b = rising_low low mid high two a b
rising_on low mid high (event.Begun s ∷ es) two a b = (a.0, rising_on s mid high es two a.1 b)
rising_on low mid high (event.Committed base w p l s ∷ es) two a b = (a.0, rising_on p mid high es two a.1 b)
rising_on low mid high (event.CameFirst p ∷ es) two a b = (a.0, rising_on p mid high es two a.1 b)
rising_on low mid high (event.Viewed v ∷ es) two a b = rising_on low mid high es two a b
rising_on low mid high (event.Conflicted base w t p ∷ es) two a b = rising_on low mid high es two a b
rising_on low mid high (event.KeeperFailed ∷ es) two a b = rising_on low mid high es two a b
rising_on low mid high (event.LogFull n ∷ es) two a b = rising_on low mid high es two a b

numbered_on : (loop a b c : ℕ) (one two : List Event) → Numbered loop a one b → Numbered loop b two c → Numbered loop a (one ++ two) c
numbered_on loop a b c [] two n m = subst (λ x. Numbered loop x two c) n m
numbered_on loop a b c (event.Committed base w p l s ∷ es) two n m = (n.0, n.1, numbered_on loop (a + 1) b c es two n.2 m)
numbered_on loop a b c (event.Begun s ∷ es) two n m = numbered_on loop a b c es two n m
numbered_on loop a b c (event.CameFirst p ∷ es) two n m = numbered_on loop a b c es two n m
numbered_on loop a b c (event.Viewed v ∷ es) two n m = numbered_on loop a b c es two n m
numbered_on loop a b c (event.Conflicted base w t p ∷ es) two n m = numbered_on loop a b c es two n m
numbered_on loop a b c (event.KeeperFailed ∷ es) two n m = numbered_on loop a b c es two n m
numbered_on loop a b c (event.LogFull k ∷ es) two n m = numbered_on loop a b c es two n m

places_on : (one two : List Event) → places (one ++ two) ≡ places one ++ places two
places_on [] two = refl
places_on (event.Committed base w p l s ∷ es) two = ap (λ xs. p ∷ xs) (places_on es two)
places_on (event.Begun s ∷ es) two = places_on es two
places_on (event.CameFirst p ∷ es) two = places_on es two
places_on (event.Viewed v ∷ es) two = places_on es two
places_on (event.Conflicted base w t p ∷ es) two = places_on es two
places_on (event.KeeperFailed ∷ es) two = places_on es two
places_on (event.LogFull k ∷ es) two = places_on es two

-- own places above a number aren't that number
above : (place low high : ℕ) (es : List Event) → place ≤ low → Rising low es high → IsNotIn place (places es)
above place low high [] h r = tt
above place low high (event.Committed base w p l s ∷ es) h r = ((λ e. omega (arith, h, r.0, e)), above place p high es (omega (arith, h, r.0)) r.1)
above place low high (event.Begun s ∷ es) h r = above place s high es (omega (arith, h, r.0)) r.1
above place low high (event.CameFirst p ∷ es) h r = above place p high es (omega (arith, h, r.0)) r.1
above place low high (event.Viewed v ∷ es) h r = above place low high es h r
above place low high (event.Conflicted base w t p ∷ es) h r = above place low high es h r
above place low high (event.KeeperFailed ∷ es) h r = above place low high es h r
above place low high (event.LogFull k ∷ es) h r = above place low high es h r

not_in_both : (place : ℕ) (xs ys : List ℕ) → IsNotIn place xs → IsNotIn place ys → IsNotIn place (xs ++ ys)
not_in_both place [] ys a b = b
not_in_both place (x ∷ xs) ys a b = (a.0, not_in_both place xs ys a.1 b)

-- one event fits later too
fits_later : (old mid new : Kept) (high : ℕ) (two : List Event) (it : Event) → Lasts mid new → Rising (length mid.seen) two high → new.own ≡ mid.own ++ places two → Fits old mid it → Fits old new it
fits_later old mid new high two (event.Begun s) l r o f = let grown = ap length l.grown.1 ∙ length-append mid.seen l.grown.0 in omega (arith, f, grown)
fits_later old mid new high two (event.Viewed v) l r o f = viewed_lasts old mid new v l f
fits_later old mid new high two (event.Committed b w p ln s) l r o f = committed_lasts mid new (record { base = b; loop_no = ln; sequence = s; writes = w }) p l f
fits_later old mid new high two (event.Conflicted b w t p) l r o f = conflict_lasts mid new b w t p l f
fits_later old mid new high two (event.CameFirst p) l r o f =
    let grown = ap length l.grown.1 ∙ length-append mid.seen l.grown.0 in
    (f.0, omega (arith, f.1, grown), subst (λ own. IsNotIn p own) (sym o) (not_in_both p mid.own (places two) f.2 (above p (length mid.seen) high two f.1 r)))
fits_later old mid new high two event.KeeperFailed l r o f = rose_lasts old mid new l f
fits_later old mid new high two (event.LogFull n) l r o f = full_lasts old mid new n l f

fits_earlier : (old mid new : Kept) (it : Event) → Lasts old mid → Fits mid new it → Fits old new it
fits_earlier old mid new event.KeeperFailed l f = rose_before old mid new l f
fits_earlier old mid new (event.Begun s) l f = f
fits_earlier old mid new (event.Viewed v) l f = f
fits_earlier old mid new (event.Committed b w p ln s) l f = f
fits_earlier old mid new (event.Conflicted b w t p) l f = f
fits_earlier old mid new (event.CameFirst p) l f = f
fits_earlier old mid new (event.LogFull n) l f = f

all_on : (old mid new : Kept) (high : ℕ) (one two whole : List Event) → Lasts old mid → Lasts mid new → Rising (length mid.seen) whole high → new.own ≡ mid.own ++ places whole → AllFit old mid one → AllFit mid new two → AllFit old new (one ++ two)
all_on old mid new high [] [] whole k l r o a b = tt
all_on old mid new high [] (it ∷ two) whole k l r o a b = (fits_earlier old mid new it k b.0, all_on old mid new high [] two whole k l r o a b.1)
all_on old mid new high (it ∷ one) two whole k l r o a b = (fits_later old mid new high whole it l r o a.0, all_on old mid new high one two whole k l r o a.1 b)

lasts_on : (old mid new : Kept) → Lasts old mid → Lasts mid new → Lasts old new
lasts_on old mid new k l = record {
  grown = (k.grown.0 ++ l.grown.0, l.grown.1 ∙ ap (λ xs. xs ++ l.grown.0) k.grown.1 ∙ append_assoc old.seen k.grown.0 l.grown.0);
  most = l.most ∙ k.most;
  lent = l.lent ∙ k.lent;
  later = omega (arith, k.later, l.later);
  within = λ h. l.within (k.within h);
}

-- what was answered up to a moment, and from it on
pub ties_on : (old mid new : Moment) (one two : List Event) → Ties old one mid → Ties mid two new → Ties old (one ++ two) new
ties_on old mid new one two a b = record {
  lasts = lasts_on old.kept mid.kept new.kept a.lasts b.lasts;
  fit = all_on old.kept mid.kept new.kept (length new.kept.seen) one two two a.lasts b.lasts b.rising b.own a.fit b.fit;
  rising = rising_on (length old.kept.seen) (length mid.kept.seen) (length new.kept.seen) one two a.rising b.rising;
  own = b.own ∙ ap (λ xs. xs ++ places two) a.own ∙ append_assoc old.kept.own (places one) (places two) ∙ ap (λ xs. old.kept.own ++ xs) (sym (places_on one two));
  loop_is = b.loop_is ∙ a.loop_is;
  numbered = numbered_on old.loop_no old.next mid.next new.next one two a.numbered (subst (λ n. Numbered n mid.next two new.next) a.loop_is b.numbered);
}
