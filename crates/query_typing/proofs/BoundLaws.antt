-- The columns of each form weigh no more than its bound, and have no features but its own, where this is so of its parts.
use Rattle.std.proofs.Common.{◌≡◌, ℕ, ◌≤◌, ◌||◌, Bool, true, false, List, [], ◌∷◌, ◌++◌, map, refl, sym, ◌∙◌, ap, subst}
use Rattle.conditional_columns.proofs.FormLaws.{alias_possible, choice_possible, join_possible, select_possible, union_possible}
use Rattle.conditional_columns.proofs.MentionLaws.{alias_mention, choice_mention, join_mention, select_mention, union_mention}
use Rattle.conditional_columns.proofs.SettleLaws.{settled_headings}
use Rattle.conditional_columns.proofs.WeightLaws.{alias_weight, choice_weight, join_weight, select_weight, union_weight}
use Rattle.conditional_columns.specs.ColumnLists.{behind_alias, columns_mention, settled, under}
use Rattle.conditional_columns.specs.FormLists.{chosen_list, joined_list, kept_list, united_list}
use Rattle.feature_expr.specs.Expressions.{mentions}
use Rattle.feature_expr.specs.declared.expr.Expr.{Expr}
use Rattle.plain_relation.specs.Relations.{Column}
use Rattle.query_meaning.proofs.ColumnSets.{once_again}
use Rattle.query_meaning.specs.Bounds.{SizedPart, aliased_size, chosen_size, empty_sizes, joined_column_weight, size_step, united_size}
use Rattle.query_meaning.specs.PossibleColumns.{possible_columns, possible_step}
use Rattle.query_meaning.specs.Typing.{columns_weight, headings, tables_mention}
use Rattle.query_meaning.specs.declared.typed.TypedColumn.{TypedColumn}
use Rattle.query_typing.specs.Bounded.{IsBounded, JoinMade, StandBounded, TwoMade, alias_made, items_made, one_made, sized_part}
use Rattle.query_typing.specs.Steps.{one_wrapped, rewrapped, two_wrapped, wrapped}
use Rattle.query_typing.specs.declared.form.Form.{Form}
use Rattle.query_typing.specs.declared.form.Form.TheVariants as form
use Rattle.query_typing.specs.declared.form.OneForm.{OneForm}
use Rattle.query_typing.specs.declared.form.OneForm.TheVariants as one
use Rattle.query_typing.specs.declared.form.Step.{Step}
use Rattle.query_typing.specs.declared.form.TwoForm.{TwoForm}
use Rattle.query_typing.specs.declared.form.TwoForm.TheVariants as two
use Rattle.query_typing.proofs.StepLaws.{rewrapped_push}
use Rattle.relational_algebra.specs.Columns.{aliased, merged, once}
use Rattle.relational_algebra.specs.Items.{possible_kept}
use Rattle.relational_algebra.specs.Mentions.{cond_mentions, items_mention, query_mentions, query_mentions_step}
use Rattle.std.specs.Borrow.{Bor}
use Rattle.vra_syntax.specs.declared.cond.Cond.{Cond}
use Rattle.vra_syntax.specs.declared.items.Item.{Item}
use Rattle.vra_syntax.specs.declared.items.Items.{Items}
use Rattle.vra_syntax.specs.declared.items.Items.TheVariants.{All, Listed}
use Rattle.vra_syntax.specs.declared.query.Query.{Query, fold-Query, roll-Query}
use Rattle.vra_syntax.specs.declared.query.Query as query
use Rattle.vra_syntax.specs.declared.query.Query.TheFolds.{fold-roll-Query}
use Rattle.vra_syntax.specs.declared.query.Query.TheOpen.{Query-F}
use Rattle.vschema.specs.declared.catalog.Table.{Table}
use denote.Hole.Carrier

-- a fold over each form

module _ (R : Type 0) (f : Query-F R → R) where
  at_select : (items : Items) (q : Query) (cond : Cond) → fold-Query R f (query.Select items q cond) ≡ f (Query-F.Select items (fold-Query R f q) cond)
  unfolding roll-Query Carrier.roll
  at_select items q cond = fold-roll-Query R f (Query-F.Select items q cond)

  at_alias : (q : Query) (name : List ℕ) → fold-Query R f (query.Alias q name) ≡ f (Query-F.Alias (fold-Query R f q) name)
  unfolding roll-Query Carrier.roll
  at_alias q name = fold-roll-Query R f (Query-F.Alias q name)

  at_join : (l r : Query) (cond : Cond) → fold-Query R f (query.Join l r cond) ≡ f (Query-F.Join (fold-Query R f l) (fold-Query R f r) cond)
  unfolding roll-Query Carrier.roll
  at_join l r cond = fold-roll-Query R f (Query-F.Join l r cond)

  at_union : (l r : Query) → fold-Query R f (query.Union l r) ≡ f (Query-F.Union (fold-Query R f l) (fold-Query R f r))
  unfolding roll-Query Carrier.roll
  at_union l r = fold-roll-Query R f (Query-F.Union l r)

  at_except : (l r : Query) → fold-Query R f (query.Except l r) ≡ f (Query-F.Except (fold-Query R f l) (fold-Query R f r))
  unfolding roll-Query Carrier.roll
  at_except l r = fold-roll-Query R f (Query-F.Except l r)

  at_choice : (expr : Expr) (l r : Query) → fold-Query R f (query.Choice expr l r) ≡ f (Query-F.Choice expr (fold-Query R f l) (fold-Query R f r))
  unfolding roll-Query Carrier.roll
  at_choice expr l r = fold-roll-Query R f (Query-F.Choice expr l r)

-- one side put behind another, each under a condition
pub joined_exact : (any_left any_right : Expr) (ls rs zero one two : List TypedColumn) → zero ≡ [] → one ≡ zero ++ map (under any_right) ls → two ≡ one ++ map (under any_left) rs → two ≡ joined_list any_left any_right ls rs
joined_exact any_left any_right ls rs zero one two start first second = second ∙ ap (λ (v : List TypedColumn). v ++ map (under any_left) rs) (first ∙ ap (λ (v : List TypedColumn). v ++ map (under any_right) ls) start)

-- features of a form are those of its parts and its own

select_features : (items mine part cond t : Bool) → (items || mine) ≡ true → (mine ≡ true → (part || t) ≡ true) → ((items || part || cond) || t) ≡ true
select_features true mine part cond t h up = refl
select_features false mine true cond t h up = refl
select_features false mine false true t h up = refl
select_features false mine false false t h up = up h

all_features : (mine part cond t : Bool) → (mine ≡ true → (part || t) ≡ true) → mine ≡ true → ((false || part || cond) || t) ≡ true
all_features mine part cond t up h = select_features false mine part cond t h up

join_features : (a b l r cond t : Bool) → (a || b) ≡ true → (a ≡ true → (l || t) ≡ true) → (b ≡ true → (r || t) ≡ true) → ((l || r || cond) || t) ≡ true
join_features a b true r cond t h one other = refl
join_features a b false true cond t h one other = refl
join_features a b false false true t h one other = refl
join_features true b false false false t h one other = one refl
join_features false b false false false t h one other = other h

union_features : (a b l r t : Bool) → (a || b) ≡ true → (a ≡ true → (l || t) ≡ true) → (b ≡ true → (r || t) ≡ true) → ((l || r) || t) ≡ true
union_features a b true r t h one other = refl
union_features a b false true t h one other = refl
union_features true b false false t h one other = one refl
union_features false b false false t h one other = other h

left_features : (a l r t : Bool) → a ≡ true → (a ≡ true → (l || t) ≡ true) → ((l || r) || t) ≡ true
left_features a true r t h one = refl
left_features a false true t h one = refl
left_features a false false t h one = one h

choice_features : (e a b l r t : Bool) → (e || (a || b)) ≡ true → (a ≡ true → (l || t) ≡ true) → (b ≡ true → (r || t) ≡ true) → ((e || l || r) || t) ≡ true
choice_features true a b l r t h one other = refl
choice_features false a b true r t h one other = refl
choice_features false a b false true t h one other = refl
choice_features false true b false false t h one other = one refl
choice_features false false b false false t h one other = other h

module _ (tables : List Table) where
  -- from what the three definitions are at a form
  from_form : (whole : Query) (v : List TypedColumn) (order : List Column) (s : SizedPart) (m : ℕ → Bool)
      → possible_columns tables whole ≡ order → sized_part tables whole ≡ s → ((i : ℕ) → query_mentions i whole ≡ m i)
      → headings v ≡ order → headings v ≡ s.possible → once (headings v) ≡ headings v → columns_weight v ≤ s.size.column_weight → ((i : ℕ) → columns_mention i v ≡ true → (m i || tables_mention i tables) ≡ true)
      → IsBounded tables whole v
  from_form whole v order s m order_is size_is mention_is possible sized each weight features = record {
    possible = possible ∙ sym order_is;
    sized = sized ∙ ap (λ (x : SizedPart). x.possible) (sym size_is);
    each = each;
    weight = subst (λ (x : SizedPart). columns_weight v ≤ x.size.column_weight) (sym size_is) weight;
    features = record { each = λ i h. ap (λ b. b || tables_mention i tables) (mention_is i) ∙ features i h };
  }

  settled_once : (all : List TypedColumn) → once (headings (settled all)) ≡ headings (settled all)
  settled_once all = ap once (settled_headings all) ∙ once_again (headings all) ∙ sym (settled_headings all)

  -- forms over one part

  select_all_bounded : (q : Query) (cond : Cond) (ks : List TypedColumn) → IsBounded tables q ks → IsBounded tables (query.Select All q cond) ks
  select_all_bounded q cond ks is = from_form (query.Select All q cond) ks (possible_columns tables q) (size_step tables (empty_sizes tables) (Query-F.Select All (sized_part tables q) cond)) (λ i. false || query_mentions i q || cond_mentions i cond)
      (at_select (List Column) (possible_step tables) All q cond) (at_select SizedPart (size_step tables (empty_sizes tables)) All q cond) (λ i. at_select Bool (query_mentions_step i) All q cond)
      is.possible is.sized is.each is.weight (λ i. all_features (columns_mention i ks) (query_mentions i q) (cond_mentions i cond) (tables_mention i tables) (is.features.each i))

  select_listed_bounded : (items : List Item) (q : Query) (cond : Cond) (ks : List TypedColumn) → IsBounded tables q ks → IsBounded tables (query.Select (Listed items) q cond) (settled (kept_list ks items))
  select_listed_bounded items q cond ks is = from_form (query.Select (Listed items) q cond) (settled (kept_list ks items)) (possible_kept (Listed items) (possible_columns tables q)) (size_step tables (empty_sizes tables) (Query-F.Select (Listed items) (sized_part tables q) cond)) (λ i. items_mention i (Listed items) || query_mentions i q || cond_mentions i cond)
      (at_select (List Column) (possible_step tables) (Listed items) q cond) (at_select SizedPart (size_step tables (empty_sizes tables)) (Listed items) q cond) (λ i. at_select Bool (query_mentions_step i) (Listed items) q cond)
      (select_possible ks items ∙ ap (possible_kept (Listed items)) is.possible)
      (select_possible ks items ∙ ap (possible_kept (Listed items)) is.sized)
      (settled_once (kept_list ks items))
      (select_weight (sized_part tables q).size.column_weight ks items is.each is.weight)
      (λ i h. select_features (items_mention i (Listed items)) (columns_mention i ks) (query_mentions i q) (cond_mentions i cond) (tables_mention i tables) (select_mention i ks items h) (is.features.each i))

  alias_bounded : (q : Query) (name : List ℕ) (ks : List TypedColumn) → IsBounded tables q ks → IsBounded tables (query.Alias q name) (alias_made name ks)
  alias_bounded q name ks is = from_form (query.Alias q name) (alias_made name ks) (once (aliased name (possible_columns tables q))) (size_step tables (empty_sizes tables) (Query-F.Alias (sized_part tables q) name)) (λ i. query_mentions i q)
      (at_alias (List Column) (possible_step tables) q name) (at_alias SizedPart (size_step tables (empty_sizes tables)) q name) (λ i. at_alias Bool (query_mentions_step i) q name)
      (alias_possible name ks ∙ ap (λ k. once (aliased name k)) is.possible)
      (alias_possible name ks ∙ ap (λ k. once (aliased name k)) is.sized)
      (settled_once (map (behind_alias name) ks))
      (subst (λ k. columns_weight (alias_made name ks) ≤ (aliased_size k name (sized_part tables q).size).column_weight) is.sized (alias_weight name (sized_part tables q).size ks is.each is.weight))
      (λ i h. is.features.each i (alias_mention i name ks h))

  select_bounded : (items : Items) (q : Query) (cond : Cond) (ks : List TypedColumn) → IsBounded tables q ks → IsBounded tables (query.Select items q cond) (items_made items ks)
  select_bounded All q cond ks is = select_all_bounded q cond ks is
  select_bounded (Listed items) q cond ks is = select_listed_bounded items q cond ks is

  one_bounded : (f : OneForm) (q : Query) (ks : List TypedColumn) → IsBounded tables q ks → IsBounded tables (one_wrapped f q) (one_made f ks)
  one_bounded (one.Select items cond) q ks is = select_bounded items.now q cond.now ks is
  one_bounded (one.Alias name) q ks is = alias_bounded q name.now ks is

  -- forms over two parts

  module _ (l r : Query) (ls rs : List TypedColumn) (left : IsBounded tables l ls) (right : IsBounded tables r rs) where
    both_possible : merged (headings ls) (headings rs) ≡ merged (possible_columns tables l) (possible_columns tables r)
    both_possible = ap (λ k. merged k (headings rs)) left.possible ∙ ap (merged (possible_columns tables l)) right.possible

    both_sized : merged (headings ls) (headings rs) ≡ merged (sized_part tables l).possible (sized_part tables r).possible
    both_sized = ap (λ k. merged k (headings rs)) left.sized ∙ ap (merged (sized_part tables l).possible) right.sized

    -- a bound over the possible columns of the sides
    sides : (v : List TypedColumn) (weight : List Column → List Column → ℕ) → columns_weight v ≤ weight (headings ls) (headings rs) → columns_weight v ≤ weight (sized_part tables l).possible (sized_part tables r).possible
    sides v weight is = subst (λ k. columns_weight v ≤ weight (sized_part tables l).possible k) right.sized (subst (λ k. columns_weight v ≤ weight k (headings rs)) left.sized is)

    join_bounded : (cond : Cond) (v : List TypedColumn) → JoinMade ls rs v → IsBounded tables (query.Join l r cond) v
    join_bounded cond v made =
        let j = made.joined in
        let is : v ≡ settled (joined_list j.any_left j.any_right ls rs) = made.is ∙ ap settled j.is in
        subst (IsBounded tables (query.Join l r cond)) (sym is) (from_form (query.Join l r cond) (settled (joined_list j.any_left j.any_right ls rs)) (merged (possible_columns tables l) (possible_columns tables r)) (size_step tables (empty_sizes tables) (Query-F.Join (sized_part tables l) (sized_part tables r) cond)) (λ i. query_mentions i l || query_mentions i r || cond_mentions i cond)
        (at_join (List Column) (possible_step tables) l r cond) (at_join SizedPart (size_step tables (empty_sizes tables)) l r cond) (λ i. at_join Bool (query_mentions_step i) l r cond)
        (join_possible j.any_left j.any_right ls rs ∙ both_possible)
        (join_possible j.any_left j.any_right ls rs ∙ both_sized)
        (settled_once (joined_list j.any_left j.any_right ls rs))
        (sides (settled (joined_list j.any_left j.any_right ls rs)) (λ a b. joined_column_weight a b (sized_part tables l).size (sized_part tables r).size)
        (join_weight (sized_part tables l).size (sized_part tables r).size j.any_left j.any_right ls rs left.weight right.weight j.of_left.weight j.of_left.none j.of_right.weight j.of_right.none))
        (λ i h. join_features (columns_mention i ls) (columns_mention i rs) (query_mentions i l) (query_mentions i r) (cond_mentions i cond) (tables_mention i tables) (join_mention i j.any_left j.any_right ls rs (j.of_left.known i) (j.of_right.known i) h) (left.features.each i) (right.features.each i)))

    union_bounded : IsBounded tables (query.Union l r) (settled (united_list ls rs))
    union_bounded = from_form (query.Union l r) (settled (united_list ls rs)) (merged (possible_columns tables l) (possible_columns tables r)) (size_step tables (empty_sizes tables) (Query-F.Union (sized_part tables l) (sized_part tables r))) (λ i. query_mentions i l || query_mentions i r)
        (at_union (List Column) (possible_step tables) l r) (at_union SizedPart (size_step tables (empty_sizes tables)) l r) (λ i. at_union Bool (query_mentions_step i) l r)
        (union_possible ls rs ∙ both_possible)
        (union_possible ls rs ∙ both_sized)
        (settled_once (united_list ls rs))
        (sides (settled (united_list ls rs)) (λ a b. (united_size a b (sized_part tables l).size (sized_part tables r).size).column_weight) (union_weight (sized_part tables l).size (sized_part tables r).size ls rs left.weight right.weight))
        (λ i h. union_features (columns_mention i ls) (columns_mention i rs) (query_mentions i l) (query_mentions i r) (tables_mention i tables) (union_mention i ls rs h) (left.features.each i) (right.features.each i))

    except_bounded : IsBounded tables (query.Except l r) ls
    except_bounded = from_form (query.Except l r) ls (possible_columns tables l) (size_step tables (empty_sizes tables) (Query-F.Except (sized_part tables l) (sized_part tables r))) (λ i. query_mentions i l || query_mentions i r)
        (at_except (List Column) (possible_step tables) l r) (at_except SizedPart (size_step tables (empty_sizes tables)) l r) (λ i. at_except Bool (query_mentions_step i) l r)
        left.possible left.sized left.each left.weight
        (λ i h. left_features (columns_mention i ls) (query_mentions i l) (query_mentions i r) (tables_mention i tables) h (left.features.each i))

    choice_bounded : (expr : Expr) → IsBounded tables (query.Choice expr l r) (settled (chosen_list expr ls rs))
    choice_bounded expr = from_form (query.Choice expr l r) (settled (chosen_list expr ls rs)) (merged (possible_columns tables l) (possible_columns tables r)) (size_step tables (empty_sizes tables) (Query-F.Choice expr (sized_part tables l) (sized_part tables r))) (λ i. mentions i expr || query_mentions i l || query_mentions i r)
        (at_choice (List Column) (possible_step tables) expr l r) (at_choice SizedPart (size_step tables (empty_sizes tables)) expr l r) (λ i. at_choice Bool (query_mentions_step i) expr l r)
        (choice_possible expr ls rs ∙ both_possible)
        (choice_possible expr ls rs ∙ both_sized)
        (settled_once (chosen_list expr ls rs))
        (sides (settled (chosen_list expr ls rs)) (λ a b. (chosen_size a b expr (sized_part tables l).size (sized_part tables r).size).column_weight) (choice_weight expr (sized_part tables l).size (sized_part tables r).size ls rs left.weight right.weight))
        (λ i h. choice_features (mentions i expr) (columns_mention i ls) (columns_mention i rs) (query_mentions i l) (query_mentions i r) (tables_mention i tables) (choice_mention i expr ls rs h) (left.features.each i) (right.features.each i))

    two_bounded : (f : TwoForm) (v : List TypedColumn) → TwoMade f ls rs v → IsBounded tables (two_wrapped f l r) v
    two_bounded (two.Join cond) v made = join_bounded cond.now v made
    two_bounded two.Union v made = subst (IsBounded tables (query.Union l r)) (sym made) union_bounded
    two_bounded two.Except v made = subst (IsBounded tables (query.Except l r)) (sym made) except_bounded
    two_bounded (two.Choice expr) v made = subst (IsBounded tables (query.Choice expr.now l r)) (sym made) (choice_bounded expr.now)

  -- the walk

  pub bounded_begins : (steps : List Step) (leaf whole : Query) (ks : List TypedColumn) → rewrapped steps leaf ≡ whole → IsBounded tables leaf ks → StandBounded tables whole steps ks
  bounded_begins steps leaf whole ks is bounded = record { inner = leaf; is_whole = is; bounded = bounded }

  pub bounded_ends : (whole : Query) (steps : List Step) (ks : List TypedColumn) → steps ≡ [] → StandBounded tables whole steps ks → IsBounded tables whole ks
  bounded_ends whole steps ks empty at = subst (λ q. IsBounded tables q ks) (ap (λ ss. rewrapped ss at.inner) (sym empty) ∙ at.is_whole) at.bounded

  module _ (whole : Query) (steps before : List Step) (s : Step) (ks : List TypedColumn) (popped : before ≡ steps ++ s ∷ []) (at : StandBounded tables whole before ks) where
    round : rewrapped steps (wrapped s.form at.inner) ≡ whole
    round = sym (rewrapped_push steps s at.inner) ∙ ap (λ ss. rewrapped ss at.inner) (sym popped) ∙ at.is_whole

    goes : (f : Form) (v : List TypedColumn) → s.form ≡ f → IsBounded tables (wrapped f at.inner) v → StandBounded tables whole steps v
    goes f v is made = record { inner = wrapped s.form at.inner; is_whole = round; bounded = subst (λ g. IsBounded tables (wrapped g at.inner) v) (sym is) made }

    pub one_goes : (f : OneForm) (v : List TypedColumn) → s.form ≡ form.One f → v ≡ one_made f ks → StandBounded tables whole steps v
    one_goes f v is made = goes (form.One f) v is (subst (IsBounded tables (one_wrapped f at.inner)) (sym made) (one_bounded f at.inner ks at.bounded))

    pub two_goes : (f : TwoForm) (r : Bor Query) (right v : List TypedColumn) → s.form ≡ form.Two f r → IsBounded tables r.now right → TwoMade f ks right v → StandBounded tables whole steps v
    two_goes f r right v is of_right made = goes (form.Two f r) v is (two_bounded at.inner r.now ks right at.bounded of_right f v made)
