-- The features that occur in the rows' conditions, from pass to pass.
use Rattle.std.proofs.Common.{◌≡◌, ℕ, ◌||◌, ◌&&◌, Bool, true, false, List, [], ◌∷◌, ◌++◌, Some, None, refl, sym, ◌∙◌, ap, inl, inr}
use Rattle.std.specs.List.{list_any, filter_map}
use Rattle.feature_expr.specs.declared.expr.Expr.{Expr}
use Rattle.feature_expr.specs.Expressions.{mentions}
use Rattle.vtable.specs.declared.group.Group.{Group}
use Rattle.vtable.specs.declared.table.VColumn.{VColumn}
use Rattle.vtable.specs.declared.table.VRow.{VRow}
use Rattle.vtable.specs.Disjunction.{any_mentions}
use Rattle.condition_sat.specs.Possible.{can_hold, settled}
use Rattle.vtable.specs.TableForm.{rows_mention, same_cells, has_cell, cut_cells}
use Rattle.vtable.specs.Passes.{groups_after, group_of, with_cond, AllJoined}
use Rattle.vtable.proofs.DisjunctionLaws.{mentions_push}
use Rattle.condition_sat.proofs.SettledLaws.{settled_known}
use Rattle.condition_sat.proofs.PossibleLaws.{true_or_false, or_left, or_right, or_cases}
use Rattle.vtable.proofs.RowsLaws.{choice_true, choice_false}
use Rattle.vtable.proofs.StayingLaws.{kept, row_kept, row_gone}

abbrev pub group_mentions : ℕ → Group → Bool
group_mentions i group = any_mentions i (group.first ∷ group.more)

or-false : (b : Bool) → (b || false) ≡ b
or-false true = refl
or-false false = refl

or-assoc : (a b c : Bool) → ((a || b) || c) ≡ (a || (b || c))
or-assoc true b c = refl
or-assoc false b c = refl

longer_mentions : (i : ℕ) (group : Group) (cond : Expr) (rest : Bool) → (group_mentions i (with_cond group cond) || rest) ≡ (group_mentions i group || (mentions i cond || rest))
longer_mentions i group cond rest =
    ap (λ b. (mentions i group.first || b) || rest) (mentions_push i group.more cond)
    ∙ ap (λ b. b || rest) (sym (or-assoc (mentions i group.first) (any_mentions i group.more) (mentions i cond)))
    ∙ or-assoc (group_mentions i group) (mentions i cond) rest

groups_mention : (i : ℕ) (group : Group) (rows : List VRow) → list_any (group_mentions i) (groups_after (Some group) rows) ≡ (group_mentions i group || rows_mention i rows)
groups_mention i group [] = refl
groups_mention i group (row ∷ rows) =
    elim (true_or_false (same_cells group.cells row.cells)) [
      | inl same ↦
          ap (list_any (group_mentions i)) (choice_true _ _ _ same)
          ∙ groups_mention i (with_cond group row.cond) rows
          ∙ longer_mentions i group row.cond (rows_mention i rows)
      | inr apart ↦
          ap (list_any (group_mentions i)) (choice_false _ _ _ apart)
          ∙ ap (λ b. group_mentions i group || b) (groups_mention i (group_of row) rows ∙ ap (λ b. b || rows_mention i rows) (or-false (mentions i row.cond)))
    ]

-- the groups mention what their rows do
pub all_groups_mention : (i : ℕ) (rows : List VRow) → list_any (group_mentions i) (groups_after None rows) ≡ rows_mention i rows
all_groups_mention i [] = refl
all_groups_mention i (row ∷ rows) = groups_mention i (group_of row) rows ∙ ap (λ b. b || rows_mention i rows) (or-false (mentions i row.cond))

-- the joined rows mention no more than the groups
pub joined_known : (model : Expr) (i : ℕ) (groups : List Group) (rows : List VRow) → AllJoined model groups rows → rows_mention i rows ≡ true → list_any (group_mentions i) groups ≡ true
joined_known model i [] [] all h = h
joined_known model i [] (row ∷ rows) all h = absurd all
joined_known model i (group ∷ groups) [] all h = absurd all
joined_known model i (group ∷ groups) (row ∷ rows) all h =
    elim (or_cases (mentions i row.cond) (rows_mention i rows) h) [
      | inl first ↦ or_left (group_mentions i group) (list_any (group_mentions i) groups) (all.0.known i first)
      | inr later ↦ or_right (group_mentions i group) (list_any (group_mentions i) groups) (joined_known model i groups rows all.1 later)
    ]

-- the rows that stay mention no more than all
pub kept_known : (model : Expr) (columns : List VColumn) (i : ℕ) (rows : List VRow) → rows_mention i (filter_map (kept model columns) rows) ≡ true → rows_mention i rows ≡ true
kept_known model columns i [] h = h
kept_known model columns i (row ∷ rows) h =
    elim (true_or_false (can_hold model row.cond && has_cell (cut_cells model row.cond columns row.cells))) [
      | inl stays ↦
          elim (or_cases (mentions i (settled model row.cond)) (rows_mention i (filter_map (kept model columns) rows)) (sym (ap (rows_mention i) (row_kept model columns row rows stays)) ∙ h)) [
            | inl first ↦ or_left (mentions i row.cond) (rows_mention i rows) (settled_known model row.cond i first)
            | inr later ↦ or_right (mentions i row.cond) (rows_mention i rows) (kept_known model columns i rows later)
          ]
      | inr gone ↦ or_right (mentions i row.cond) (rows_mention i rows) (kept_known model columns i rows (sym (ap (rows_mention i) (row_gone model columns row rows gone)) ∙ h))
    ]
