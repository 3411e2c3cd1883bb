-- The lists that the forms of a query make have no features but those of their parts and of the form.
use Rattle.std.proofs.Common.{◌≡◌, ℕ, ◌||◌, Bool, true, false, List, [], ◌∷◌, ◌++◌, map, Option, Some, None, refl, sym, ◌∙◌}
use Rattle.std.proofs.lemmas.Bool.{or_left, or_right}
use Rattle.feature_expr.specs.Expressions.{mentions, not_of}
use Rattle.feature_expr.specs.declared.expr.Expr.{Expr}
use Rattle.vra_syntax.specs.declared.items.Item.{Item}
use Rattle.vra_syntax.specs.declared.items.Items.TheVariants.{Listed}
use Rattle.relational_algebra.specs.Items.{given}
use Rattle.relational_algebra.specs.Mentions.{items_mention, option_mentions}
use Rattle.query_meaning.specs.Bounds.{cond_or_true}
use Rattle.query_meaning.specs.declared.typed.TypedColumn.{TypedColumn}
use Rattle.conditional_columns.specs.ColumnLists.{behind_alias, columns_mention, has_the_name, settled, under, with_name}
use Rattle.conditional_columns.specs.FormLists.{chosen_list, item_columns, joined_list, kept_list, united_list}
use Rattle.conditional_columns.proofs.Connectives.{none_in_True, not_mentions}
use Rattle.conditional_columns.proofs.ListLaws as lists
use Rattle.conditional_columns.proofs.ListLaws.{given_mention, mention-append, picked_mention, under_mention}
use Rattle.conditional_columns.proofs.SettleLaws.{settled_mention}

-- of two facts on Bools the one that follows from each of two others
of_both : (a b goal : Bool) → (a || b) ≡ true → (a ≡ true → goal ≡ true) → (b ≡ true → goal ≡ true) → goal ≡ true
of_both true b goal h first second = first refl
of_both false b goal h first second = second h

module _ (i : ℕ) where
  cond_mention : (cond : Option Expr) → mentions i (cond_or_true cond) ≡ true → option_mentions i cond ≡ true
  cond_mention None h = none_in_True i h _
  cond_mention (Some cond) h = h

  item_mention : (ks : List TypedColumn) (item : Item) → columns_mention i (item_columns ks item) ≡ true → (option_mentions i item.cond || columns_mention i ks) ≡ true
  item_mention ks item h =
      of_both (mentions i (cond_or_true item.cond)) (columns_mention i (with_name item.column ks)) _ (under_mention i (cond_or_true item.cond) (with_name item.column ks) (sym (given_mention i (given item) (cond_or_true item.cond) (with_name item.column ks)) ∙ h))
      (λ its. or_left (option_mentions i item.cond) (columns_mention i ks) (cond_mention item.cond its))
      (λ there. or_right (option_mentions i item.cond) (columns_mention i ks) (picked_mention i (has_the_name item.column) ks there))

  in_first : (a b d : Bool) → (a || d) ≡ true → ((a || b) || d) ≡ true
  in_first true b d h = refl
  in_first false true d h = refl
  in_first false false d h = h

  in_more : (a b d : Bool) → (b || d) ≡ true → ((a || b) || d) ≡ true
  in_more true b d h = refl
  in_more false b d h = h

  kept_mention : (ks : List TypedColumn) (items : List Item) → columns_mention i (kept_list ks items) ≡ true → (items_mention i (Listed items) || columns_mention i ks) ≡ true
  kept_mention ks [] h = absurd (cc h)
  kept_mention ks (item ∷ items) h =
      of_both (columns_mention i (item_columns ks item)) (columns_mention i (kept_list ks items)) _ (sym (mention-append i (item_columns ks item) (kept_list ks items)) ∙ h)
      (λ here. in_first (option_mentions i item.cond) (items_mention i (Listed items)) (columns_mention i ks) (item_mention ks item here))
      (λ there. in_more (option_mentions i item.cond) (items_mention i (Listed items)) (columns_mention i ks) (kept_mention ks items there))

  pub select_mention : (ks : List TypedColumn) (items : List Item) → columns_mention i (settled (kept_list ks items)) ≡ true → (items_mention i (Listed items) || columns_mention i ks) ≡ true
  select_mention ks items h = kept_mention ks items (settled_mention i (kept_list ks items) h)

  pub alias_mention : (alias : List ℕ) (ks : List TypedColumn) → columns_mention i (settled (map (behind_alias alias) ks)) ≡ true → columns_mention i ks ≡ true
  alias_mention alias ks h = sym (lists.alias_mention i alias ks) ∙ settled_mention i (map (behind_alias alias) ks) h

  pub union_mention : (ls rs : List TypedColumn) → columns_mention i (settled (united_list ls rs)) ≡ true → (columns_mention i ls || columns_mention i rs) ≡ true
  union_mention ls rs h = sym (mention-append i ls rs) ∙ settled_mention i (united_list ls rs) h

  -- two sides, each under a condition
  sides_mention : (one other : Expr) (ls rs : List TypedColumn) (goal : Bool) → columns_mention i (settled (map (under one) ls ++ map (under other) rs)) ≡ true
      → (mentions i one ≡ true → goal ≡ true) → (columns_mention i ls ≡ true → goal ≡ true) → (mentions i other ≡ true → goal ≡ true) → (columns_mention i rs ≡ true → goal ≡ true) → goal ≡ true
  sides_mention one other ls rs goal h by_one by_left by_other by_right =
      of_both (columns_mention i (map (under one) ls)) (columns_mention i (map (under other) rs)) goal (sym (mention-append i (map (under one) ls) (map (under other) rs)) ∙ settled_mention i (map (under one) ls ++ map (under other) rs) h)
      (λ front. of_both (mentions i one) (columns_mention i ls) goal (under_mention i one ls front) by_one by_left)
      (λ back. of_both (mentions i other) (columns_mention i rs) goal (under_mention i other rs back) by_other by_right)

  pub join_mention : (any_left any_right : Expr) (ls rs : List TypedColumn) → (mentions i any_left ≡ true → columns_mention i ls ≡ true) → (mentions i any_right ≡ true → columns_mention i rs ≡ true) → columns_mention i (settled (joined_list any_left any_right ls rs)) ≡ true → (columns_mention i ls || columns_mention i rs) ≡ true
  join_mention any_left any_right ls rs left right h =
      sides_mention any_right any_left ls rs _ h
      (λ m. or_right (columns_mention i ls) (columns_mention i rs) (right m)) (or_left (columns_mention i ls) (columns_mention i rs))
      (λ m. or_left (columns_mention i ls) (columns_mention i rs) (left m)) (or_right (columns_mention i ls) (columns_mention i rs))

  pub choice_mention : (expr : Expr) (ls rs : List TypedColumn) → columns_mention i (settled (chosen_list expr ls rs)) ≡ true → (mentions i expr || (columns_mention i ls || columns_mention i rs)) ≡ true
  choice_mention expr ls rs h =
      sides_mention expr (not_of expr) ls rs _ h
      (or_left (mentions i expr) (columns_mention i ls || columns_mention i rs)) (λ m. or_right (mentions i expr) (columns_mention i ls || columns_mention i rs) (or_left (columns_mention i ls) (columns_mention i rs) m))
      (λ m. or_left (mentions i expr) (columns_mention i ls || columns_mention i rs) (not_mentions i expr m)) (λ m. or_right (mentions i expr) (columns_mention i ls || columns_mention i rs) (or_right (columns_mention i ls) (columns_mention i rs) m))
