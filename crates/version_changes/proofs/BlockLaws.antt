-- Versions held in blocks: a table's newest rows among others, of which some end and come to stand among those that ended.
use Rattle.std.proofs.Common.{◌≡◌, ℕ, ◌+◌, ◌≤◌, Bool, true, false, cond, if◌then◌else◌, List, [], ◌∷◌, ◌++◌, filter, length, refl, sym, ◌∙◌, ap, ap₂, subst, append_assoc, append-nil, arith}
use Rattle.std.specs.List.{AllByRecursion}
use Rattle.std.proofs.lemmas.List.Elements.{filter-append}
use Rattle.table_changes.specs.declared.change.TableChange.{TableChange}
use Rattle.version_changes.proofs.NumberLaws.{begun_numbered, ends_lower, ends_numbered}
use Rattle.version_changes.proofs.OrderLaws.{ends_in_order}
use Rattle.version_changes.specs.Changes.{ended_here, ends_behind, with_change, with_ends}
use Rattle.version_lists.proofs.BlockLaws.{apart_of, lower_held, stays_behind}
use Rattle.version_lists.proofs.MoveLaws.{Moves, apart_append, apart_from, apart_numbered, moves_behind, moves_crossed, moves_front, moves_of, moves_on}
use Rattle.version_lists.specs.Orders.{AreApart, AreLower, in_order}
use Rattle.version_lists.specs.Versions.{AreNumbered, Version, begun_versions, is_newest}
use Rattle.vtable.specs.declared.table.VRow.{VRow}

none_by : (v : Version) (versions : List Version) (b : Bool) → cond b (v ∷ versions) versions ≡ [] → (b ≡ false) × (versions ≡ [])
none_by v versions true h = let e = ap length h in let never : ⊥ = omega (arith, e) in absurd never
none_by v versions false h = (refl, h)

-- where none of a table's newest rows are
ends_skip : (table k place : ℕ) (ends : List ℕ) (one other : List Version) → filter (is_newest table) one ≡ [] → with_ends table k place ends (one ++ other) ≡ one ++ with_ends table k place ends other
ends_skip table k place ends [] other h = refl
ends_skip table k place ends (v ∷ one) other h =
    let none = none_by v (filter (is_newest table) one) (is_newest table v) h in
    ap (λ b. if b then ended_here k place ends v ∷ with_ends table k (place + 1) (ends_behind place ends) (one ++ other) else v ∷ with_ends table k place ends (one ++ other)) none.0
    ∙ ap (λ xs. v ∷ xs) (ends_skip table k place ends one other none.1)

ends_none : (table k place : ℕ) (ends : List ℕ) (versions : List Version) → filter (is_newest table) versions ≡ [] → with_ends table k place ends versions ≡ versions
ends_none table k place ends versions h =
    ap (with_ends table k place ends) (sym (append-nil versions)) ∙ ends_skip table k place ends versions [] h ∙ append-nil versions

stop_by : (k place : ℕ) (ends : List ℕ) (v : Version) (one other behind one_behind other_behind : List Version) (b : Bool) → one_behind ≡ one ++ behind → other_behind ≡ other ++ behind
    → (if b then ended_here k place ends v ∷ one_behind else v ∷ other_behind) ≡ (if b then ended_here k place ends v ∷ one else v ∷ other) ++ behind
stop_by k place ends v one other behind one_behind other_behind true on off = ap (λ xs. ended_here k place ends v ∷ xs) on
stop_by k place ends v one other behind one_behind other_behind false on off = ap (λ xs. v ∷ xs) off

ends_stop : (table k place : ℕ) (ends : List ℕ) (versions behind : List Version) → filter (is_newest table) behind ≡ [] → with_ends table k place ends (versions ++ behind) ≡ with_ends table k place ends versions ++ behind
ends_stop table k place ends [] behind h = ends_none table k place ends behind h
ends_stop table k place ends (v ∷ versions) behind h =
    stop_by k place ends v (with_ends table k (place + 1) (ends_behind place ends) versions) (with_ends table k place ends versions) behind
    (with_ends table k (place + 1) (ends_behind place ends) (versions ++ behind)) (with_ends table k place ends (versions ++ behind)) (is_newest table v)
    (ends_stop table k (place + 1) (ends_behind place ends) versions behind h) (ends_stop table k place ends versions behind h)

moved_out : (ended front newest behind gone stay : List Version) → Moves newest (gone ++ stay) → Moves (ended ++ (front ++ (newest ++ behind))) (ended ++ (gone ++ (front ++ (stay ++ behind))))
moved_out ended front newest behind gone stay h =
    moves_behind ended (front ++ (newest ++ behind)) (gone ++ (front ++ (stay ++ behind)))
    (moves_on (front ++ (newest ++ behind)) (front ++ (gone ++ (stay ++ behind))) (gone ++ (front ++ (stay ++ behind)))
    (moves_behind front (newest ++ behind) (gone ++ (stay ++ behind))
    (moves_on (newest ++ behind) ((gone ++ stay) ++ behind) (gone ++ (stay ++ behind)) (moves_front newest (gone ++ stay) behind h) (moves_of ((gone ++ stay) ++ behind) (gone ++ (stay ++ behind)) (append_assoc gone stay behind))))
    (moves_crossed front gone (stay ++ behind)))

-- from behind all others to behind those that stay
moved_in : (ended gone front stay behind begun : List Version) → Moves ((ended ++ (gone ++ (front ++ (stay ++ behind)))) ++ begun) ((ended ++ gone) ++ (front ++ ((stay ++ begun) ++ behind)))
moved_in ended gone front stay behind begun =
    let before : List Version = (ended ++ (gone ++ (front ++ (stay ++ behind)))) ++ begun in
    let mid : List Version = (ended ++ gone) ++ (front ++ (stay ++ (behind ++ begun))) in
    let turned : List Version = (ended ++ gone) ++ (front ++ (stay ++ (begun ++ behind))) in
    let after : List Version = (ended ++ gone) ++ (front ++ ((stay ++ begun) ++ behind)) in
    moves_on before mid after
    (moves_of before mid
    (append_assoc ended (gone ++ (front ++ (stay ++ behind))) begun
    ∙ ap (λ xs. ended ++ xs) (append_assoc gone (front ++ (stay ++ behind)) begun)
    ∙ sym (append_assoc ended gone ((front ++ (stay ++ behind)) ++ begun))
    ∙ ap (λ xs. (ended ++ gone) ++ xs) (append_assoc front (stay ++ behind) begun ∙ ap (λ xs. front ++ xs) (append_assoc stay behind begun))))
    (moves_on mid turned after
    (moves_behind (ended ++ gone) (front ++ (stay ++ (behind ++ begun))) (front ++ (stay ++ (begun ++ behind)))
    (moves_behind front (stay ++ (behind ++ begun)) (stay ++ (begun ++ behind)) (moves_behind stay (behind ++ begun) (begun ++ behind) (turned_round behind begun))))
    (moves_of turned after (ap (λ xs. (ended ++ gone) ++ (front ++ xs)) (sym (append_assoc stay begun behind))))) where
      turned_round : (one other : List Version) → Moves (one ++ other) (other ++ one)
      turned_round one other =
          moves_on (one ++ other) (one ++ (other ++ [])) (other ++ one) (moves_of (one ++ other) (one ++ (other ++ [])) (ap (λ xs. one ++ xs) (sym (append-nil other))))
          (moves_on (one ++ (other ++ [])) (other ++ (one ++ [])) (other ++ one) (moves_crossed one other []) (moves_of (other ++ (one ++ [])) (other ++ one) (ap (λ xs. other ++ xs) (append-nil one))))

-- A table's newest rows, held among others of which none is one of them, and what its change makes of them.
pub record IsChangedBlock (table k : ℕ) (ends : List ℕ) (ended front newest behind gone stay : List Version) : Type 0 where
  pub none_ended : filter (is_newest table) ended ≡ []
  pub none_front : filter (is_newest table) front ≡ []
  pub none_behind : filter (is_newest table) behind ≡ []
  pub numbered : AreNumbered 0 (filter (is_newest table) newest)
  pub moved : Moves (with_ends table k 0 ends newest) (gone ++ stay)

module _ (k next : ℕ) (change : TableChange) (ended front newest behind gone stay : List Version) (is : IsChangedBlock change.table k change.ends ended front newest behind gone stay)
    (numbered : AreNumbered 0 (in_order (ended ++ (front ++ (newest ++ behind))))) (lower : AreLower next (in_order (ended ++ (front ++ (newest ++ behind))))) where
  newest_found : filter (is_newest change.table) (ended ++ (front ++ (newest ++ behind))) ≡ filter (is_newest change.table) newest
  newest_found =
      filter-append (is_newest change.table) ended (front ++ (newest ++ behind))
      ∙ ap₂ (λ xs ys. xs ++ ys) is.none_ended (filter-append (is_newest change.table) front (newest ++ behind)
      ∙ ap₂ (λ xs ys. xs ++ ys) is.none_front (filter-append (is_newest change.table) newest behind ∙ ap (λ ys. filter (is_newest change.table) newest ++ ys) is.none_behind))
      ∙ append-nil (filter (is_newest change.table) newest)

  ends_found : with_ends change.table k 0 change.ends (ended ++ (front ++ (newest ++ behind))) ≡ ended ++ (front ++ (with_ends change.table k 0 change.ends newest ++ behind))
  ends_found =
      ends_skip change.table k 0 change.ends ended (front ++ (newest ++ behind)) is.none_ended
      ∙ ap (λ xs. ended ++ xs) (ends_skip change.table k 0 change.ends front (newest ++ behind) is.none_front
      ∙ ap (λ xs. front ++ xs) (ends_stop change.table k 0 change.ends newest behind is.none_behind))

  ends_are : with_ends change.table k 0 change.ends (in_order (ended ++ (front ++ (newest ++ behind)))) ≡ in_order (ended ++ (front ++ (with_ends change.table k 0 change.ends newest ++ behind)))
  ends_are =
      ends_in_order 0 change.table k 0 change.ends (ended ++ (front ++ (newest ++ behind))) (subst (AreNumbered 0) (sym newest_found) is.numbered) ∙ ap in_order ends_found

  out : Moves (ended ++ (front ++ (with_ends change.table k 0 change.ends newest ++ behind))) (ended ++ (gone ++ (front ++ (stay ++ behind))))
  out = moved_out ended front (with_ends change.table k 0 change.ends newest) behind gone stay is.moved

  apart_before : AreApart (ended ++ (front ++ (with_ends change.table k 0 change.ends newest ++ behind)))
  apart_before =
      apart_of 0 (ended ++ (front ++ (with_ends change.table k 0 change.ends newest ++ behind)))
      (subst (AreNumbered 0) ends_are (ends_numbered 0 change.table k 0 change.ends (in_order (ended ++ (front ++ (newest ++ behind)))) numbered))

  out_is : with_ends change.table k 0 change.ends (in_order (ended ++ (front ++ (newest ++ behind)))) ≡ in_order (ended ++ (gone ++ (front ++ (stay ++ behind))))
  out_is = ends_are ∙ out.same apart_before

  pub lower_out : AreLower next (ended ++ (gone ++ (front ++ (stay ++ behind))))
  lower_out =
      lower_held next (ended ++ (gone ++ (front ++ (stay ++ behind))))
      (subst (AreLower next) out_is (ends_lower next change.table k 0 change.ends (in_order (ended ++ (front ++ (newest ++ behind)))) lower))

  all_from : (low number k table : ℕ) (rows : List VRow) → low ≤ number → AllByRecursion (λ (v : Version). low ≤ v.number) (begun_versions number k table rows)
  all_from low number k table [] h = tt
  all_from low number k table (row ∷ rows) h = (h, all_from low (number + 1) k table rows (omega (arith, h)))

  pub block_changed : in_order ((ended ++ gone) ++ (front ++ ((stay ++ begun_versions next k change.table change.begun) ++ behind)))
      ≡ with_change k next change (in_order (ended ++ (front ++ (newest ++ behind))))
  block_changed =
      let stayed : List Version = ended ++ (gone ++ (front ++ (stay ++ behind))) in
      let begun : List Version = begun_versions next k change.table change.begun in
      let numbers : AreNumbered next begun = begun_numbered next next k change.table change.begun (omega arith) in
      let apart : AreApart (stayed ++ begun) = apart_append stayed begun (out.apart apart_before) (apart_numbered next begun numbers)
      (apart_from next stayed begun lower_out (all_from next next k change.table change.begun (omega arith))) in
      sym ((moved_in ended gone front stay behind begun).same apart)
      ∙ stays_behind next stayed begun lower_out numbers
      ∙ ap (λ xs. xs ++ begun) (sym out_is)
