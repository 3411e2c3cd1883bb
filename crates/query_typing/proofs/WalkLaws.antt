-- The walk over a query: what its next step makes of the columns of a part, and what passes up.
use Rattle.std.proofs.Common.{◌≡◌, ℕ, Bool, true, false, not, List, [], ◌∷◌, ◌++◌, Option, refl, sym, ◌∙◌, ap, subst, if◌then◌else◌}
use Rattle.condition_sat.proofs.PossibleLaws.{both}
use Rattle.feature_expr.specs.Satisfaction.{satisfies}
use Rattle.feature_expr.specs.declared.expr.Expr.{Expr}
use Rattle.plain_relation.specs.Relations.{Column}
use Rattle.query_meaning.specs.Cases.{IsOneOf, case_of}
use Rattle.query_meaning.specs.PlainTypes.{PlainType, Columns, TypedPart, cases_of, chosen_type, typed_part}
use Rattle.query_meaning.specs.Typing.{columns_at, headings}
use Rattle.query_meaning.specs.declared.typed.TypedColumn.{TypedColumn}
use Rattle.query_typing.proofs.LeafLaws.{leaf_is}
use Rattle.query_typing.proofs.StepLaws.{case_up, one_part, reached_pop, rewrapped_push, right_up, two_part}
use Rattle.query_typing.specs.Leaves.{leaf_stored}
use Rattle.query_typing.specs.Parts.{PartFails, PartIs, Standing, TwoFails, TwoIs, one_typed, plain_part, two_typed}
use Rattle.query_typing.specs.Steps.{AreReached, chosen_reached, leaf_query, left_reached, one_wrapped, rewrapped, right_reached, two_wrapped, wrapped}
use Rattle.query_typing.specs.declared.form.Form.{Form}
use Rattle.query_typing.specs.declared.form.Form.TheVariants as form
use Rattle.query_typing.specs.declared.form.OneForm.{OneForm}
use Rattle.query_typing.specs.declared.form.OneForm.TheVariants as one
use Rattle.query_typing.specs.declared.form.Step.{Step}
use Rattle.query_typing.specs.declared.form.TwoForm.{TwoForm}
use Rattle.query_typing.specs.declared.form.TwoForm.TheVariants as two
use Rattle.query_typing.specs.declared.refused.CaseRefused.{CaseRefused}
use Rattle.query_typing.specs.declared.refused.CaseRefused.TheVariants as refused
use Rattle.relational_algebra.specs.Columns.{aliased, in_order_of, merged, once}
use Rattle.relational_algebra.specs.Items.{possible_kept}
use Rattle.std.specs.Borrow.{Bor}
use Rattle.values.specs.declared.value.Kind.{Kind}
use Rattle.vra_syntax.specs.declared.query.Query.{Query}
use Rattle.vschema.specs.declared.catalog.Table.{Table}

abbrev part_with : List Column → PlainType → TypedPart
part_with possible type = record { possible = possible; type = type }

-- a part is known by its possible columns and its type
same_part : (x y : TypedPart) → x.possible ≡ y.possible → x.type ≡ y.type → x ≡ y
same_part x y possible type = ap (λ p. part_with p x.type) possible ∙ ap (part_with y.possible) type

pub part_reached : (model reach other : Expr) (part : List ℕ → TypedPart) (ks : List TypedColumn) → ((c : List ℕ) → satisfies c reach ≡ satisfies c other) → PartIs model reach part ks → PartIs model other part ks
part_reached model reach other part ks same is = record { possible = is.possible; type = λ c admitted reached. is.type c admitted (same c ∙ reached) }

one_possible : (c : List ℕ) (kinds : List Kind) (f : OneForm) (x y : TypedPart) → x.possible ≡ y.possible → (one_typed c kinds f x).possible ≡ (one_typed c kinds f y).possible
one_possible c kinds (one.Select items cond) x y is = ap (possible_kept items.now) is
one_possible c kinds (one.Alias name) x y is = ap (λ ks. once (aliased name.now ks)) is

two_possible : (c : List ℕ) (kinds : List Kind) (f : TwoForm) (x x' y y' : TypedPart) → x.possible ≡ x'.possible → y.possible ≡ y'.possible → (two_typed c kinds f x y).possible ≡ (two_typed c kinds f x' y').possible
two_possible c kinds (two.Join cond) x x' y y' is other = ap (λ k. merged k y.possible) is ∙ ap (merged x'.possible) other
two_possible c kinds two.Union x x' y y' is other = ap (λ k. merged k y.possible) is ∙ ap (merged x'.possible) other
two_possible c kinds two.Except x x' y y' is other = is
two_possible c kinds (two.Choice expr) x x' y y' is other = ap (λ k. merged k y.possible) is ∙ ap (merged x'.possible) other

module _ (model : Expr) (kinds : List Kind) (tables : List Table) where
  abbrev part : Query → List ℕ → TypedPart
  part q c = typed_part c kinds tables q

  -- a form over one part

  one_is : (reach : Expr) (f : OneForm) (q : Query) (ks v : List TypedColumn) → PartIs model reach (part q) ks → PartIs model reach (λ c. one_typed c kinds f (plain_part ks c)) v → PartIs model reach (part (one_wrapped f q)) v
  one_is reach f q ks v is made = record {
    possible = λ c. ap (λ (t : TypedPart). t.possible) (one_part c kinds tables f q) ∙ one_possible c kinds f (part q c) (plain_part ks c) (is.possible c) ∙ made.possible c;
    type = λ c admitted reached. ap (λ (t : TypedPart). t.type) (one_part c kinds tables f q) ∙ ap (λ (t : TypedPart). (one_typed c kinds f t).type) (same_part (part q c) (plain_part ks c) (is.possible c) (is.type c admitted reached)) ∙ made.type c admitted reached;
  }

  one_fails : (reach : Expr) (f : OneForm) (q : Query) (ks : List TypedColumn) (why : CaseRefused) → PartIs model reach (part q) ks → PartFails model reach (λ c. one_typed c kinds f (plain_part ks c)) why → PartFails model reach (part (one_wrapped f q)) why
  one_fails reach f q ks refused.Memory is shows = tt
  one_fails reach f q ks (refused.Ill it) is shows = let c = shows.config in record {
    config = shows.config;
    is = shows.is;
    admitted = shows.admitted;
    reached = shows.reached;
    shown = subst (λ (t : TypedPart). IsOneOf (cases_of t.type) (case_of it)) (sym (one_part c kinds tables f q ∙ ap (one_typed c kinds f) (same_part (part q c) (plain_part ks c) (is.possible c) (is.type c shows.admitted shows.reached)))) shows.shown;
  }

  -- a form over two parts that are reached where it is

  module _ (reach : Expr) (f : TwoForm) (l r : Query) (left right : List TypedColumn) (l_is : PartIs model reach (part l) left) (r_is : PartIs model reach (part r) right) where
    both_is : (v : List TypedColumn) → PartIs model reach (λ c. two_typed c kinds f (plain_part left c) (plain_part right c)) v → PartIs model reach (part (two_wrapped f l r)) v
    both_is v made = record {
      possible = λ c. ap (λ (t : TypedPart). t.possible) (two_part c kinds tables f l r) ∙ two_possible c kinds f (part l c) (plain_part left c) (part r c) (plain_part right c) (l_is.possible c) (r_is.possible c) ∙ made.possible c;
      type = λ c admitted reached. ap (λ (t : TypedPart). t.type) (two_part c kinds tables f l r)
          ∙ ap (λ (t : TypedPart). (two_typed c kinds f t (part r c)).type) (same_part (part l c) (plain_part left c) (l_is.possible c) (l_is.type c admitted reached))
          ∙ ap (λ (t : TypedPart). (two_typed c kinds f (plain_part left c) t).type) (same_part (part r c) (plain_part right c) (r_is.possible c) (r_is.type c admitted reached))
          ∙ made.type c admitted reached;
    }

    both_fails : (why : CaseRefused) → PartFails model reach (λ c. two_typed c kinds f (plain_part left c) (plain_part right c)) why → PartFails model reach (part (two_wrapped f l r)) why
    both_fails refused.Memory shows = tt
    both_fails (refused.Ill it) shows = let c = shows.config in record {
      config = shows.config;
      is = shows.is;
      admitted = shows.admitted;
      reached = shows.reached;
      shown = subst (λ (t : TypedPart). IsOneOf (cases_of t.type) (case_of it)) (sym (two_part c kinds tables f l r
          ∙ ap (λ (t : TypedPart). two_typed c kinds f t (part r c)) (same_part (part l c) (plain_part left c) (l_is.possible c) (l_is.type c shows.admitted shows.reached))
          ∙ ap (λ (t : TypedPart). two_typed c kinds f (plain_part left c) t) (same_part (part r c) (plain_part right c) (r_is.possible c) (r_is.type c shows.admitted shows.reached)))) shows.shown;
    }

  -- a choice, whose sides are reached where it takes them

  chosen_by : (b : Bool) (order : List Column) (t s : PlainType) (ks os : List Column) → (b ≡ true → t ≡ Columns ks) → (b ≡ false → s ≡ Columns os) → chosen_type order (if b then t else s) ≡ Columns (in_order_of order (if b then ks else os))
  chosen_by true order t s ks os first second = ap (chosen_type order) (first refl)
  chosen_by false order t s ks os first second = ap (chosen_type order) (second refl)

  module _ (reach lr rr : Expr) (expr : Bor Expr) (l r : Query) (left right : List TypedColumn) (lr_is : (c : List ℕ) → satisfies c lr ≡ chosen_reached c (two.Choice expr) (satisfies c reach)) (rr_is : (c : List ℕ) → satisfies c rr ≡ right_reached c (two.Choice expr) (satisfies c reach)) (l_is : PartIs model lr (part l) left) (r_is : PartIs model rr (part r) right) where
    choice_is : (v : List TypedColumn) → headings v ≡ merged (headings left) (headings right) → ((c : List ℕ) → columns_at c v ≡ in_order_of (merged (headings left) (headings right)) (if satisfies c expr.now then columns_at c left else columns_at c right)) → PartIs model reach (part (two_wrapped (two.Choice expr) l r)) v
    choice_is v heads there = record {
      possible = λ c. ap (λ (t : TypedPart). t.possible) (two_part c kinds tables (two.Choice expr) l r) ∙ order_is c ∙ sym heads;
      type = λ c admitted reached. ap (λ (t : TypedPart). t.type) (two_part c kinds tables (two.Choice expr) l r)
          ∙ ap (λ k. chosen_type k (if satisfies c expr.now then (part l c).type else (part r c).type)) (order_is c)
          ∙ chosen_by (satisfies c expr.now) (merged (headings left) (headings right)) (part l c).type (part r c).type (columns_at c left) (columns_at c right)
          (λ taken. l_is.type c admitted (lr_is c ∙ both (satisfies c reach) (satisfies c expr.now) reached taken))
          (λ other. r_is.type c admitted (rr_is c ∙ both (satisfies c reach) (not (satisfies c expr.now)) reached (ap not other)))
          ∙ ap Columns (sym (there c));
    }
      where
        order_is : (c : List ℕ) → merged (part l c).possible (part r c).possible ≡ merged (headings left) (headings right)
        order_is c = ap (λ k. merged k (part r c).possible) (l_is.possible c) ∙ ap (merged (headings left)) (r_is.possible c)

  two_is : (reach lr rr : Expr) (f : TwoForm) (l r : Query) (left right v : List TypedColumn) → ((c : List ℕ) → satisfies c lr ≡ chosen_reached c f (satisfies c reach)) → ((c : List ℕ) → satisfies c rr ≡ right_reached c f (satisfies c reach)) → PartIs model lr (part l) left → PartIs model rr (part r) right → TwoIs model reach kinds f left right v → PartIs model reach (part (two_wrapped f l r)) v
  two_is reach lr rr (two.Join cond) l r left right v lr_is rr_is l_is r_is made = both_is reach (two.Join cond) l r left right (part_reached model lr reach (part l) left lr_is l_is) (part_reached model rr reach (part r) right rr_is r_is) v made
  two_is reach lr rr two.Union l r left right v lr_is rr_is l_is r_is made = both_is reach two.Union l r left right (part_reached model lr reach (part l) left lr_is l_is) (part_reached model rr reach (part r) right rr_is r_is) v made
  two_is reach lr rr two.Except l r left right v lr_is rr_is l_is r_is made = both_is reach two.Except l r left right (part_reached model lr reach (part l) left lr_is l_is) (part_reached model rr reach (part r) right rr_is r_is) v made
  two_is reach lr rr (two.Choice expr) l r left right v lr_is rr_is l_is r_is made = choice_is reach lr rr expr l r left right lr_is rr_is l_is r_is v made.0 made.1

  two_fails : (reach lr rr : Expr) (f : TwoForm) (l r : Query) (left right : List TypedColumn) (why : CaseRefused) → ((c : List ℕ) → satisfies c lr ≡ chosen_reached c f (satisfies c reach)) → ((c : List ℕ) → satisfies c rr ≡ right_reached c f (satisfies c reach)) → PartIs model lr (part l) left → PartIs model rr (part r) right → TwoFails model reach kinds f left right why → PartFails model reach (part (two_wrapped f l r)) why
  two_fails reach lr rr (two.Join cond) l r left right why lr_is rr_is l_is r_is made = both_fails reach (two.Join cond) l r left right (part_reached model lr reach (part l) left lr_is l_is) (part_reached model rr reach (part r) right rr_is r_is) why made
  two_fails reach lr rr two.Union l r left right why lr_is rr_is l_is r_is made = both_fails reach two.Union l r left right (part_reached model lr reach (part l) left lr_is l_is) (part_reached model rr reach (part r) right rr_is r_is) why made
  two_fails reach lr rr two.Except l r left right why lr_is rr_is l_is r_is made = both_fails reach two.Except l r left right (part_reached model lr reach (part l) left lr_is l_is) (part_reached model rr reach (part r) right rr_is r_is) why made
  two_fails reach lr rr (two.Choice expr) l r left right refused.Memory lr_is rr_is l_is r_is made = tt
  two_fails reach lr rr (two.Choice expr) l r left right (refused.Ill it) lr_is rr_is l_is r_is made = absurd made.shown

  -- a case of a part inside the steps is one of the whole
  fails_up : (root inner : Expr) (steps : List Step) (q : Query) (why : CaseRefused) → AreReached (λ c. satisfies c root) steps (λ c. satisfies c inner) → PartFails model inner (part q) why → PartFails model root (part (rewrapped steps q)) why
  fails_up root inner steps q refused.Memory reached shows = tt
  fails_up root inner steps q (refused.Ill it) reached shows =
      let up = case_up shows.config kinds tables (λ c. satisfies c root) (λ c. satisfies c inner) steps q (case_of it) reached shows.reached shows.shown in
      record { config = shows.config; is = shows.is; admitted = shows.admitted; reached = up.0; shown = up.1 }

  right_fails : (reach rr : Expr) (f : TwoForm) (l r : Query) (why : CaseRefused) → ((c : List ℕ) → satisfies c rr ≡ right_reached c f (satisfies c reach)) → PartFails model rr (part r) why → PartFails model reach (part (two_wrapped f l r)) why
  right_fails reach rr f l r refused.Memory rr_is shows = tt
  right_fails reach rr f l r (refused.Ill it) rr_is shows =
      let up = right_up shows.config kinds tables f (satisfies shows.config reach) l r (case_of it) (sym (rr_is shows.config) ∙ shows.reached) shows.shown in
      record { config = shows.config; is = shows.is; admitted = shows.admitted; reached = up.0; shown = up.1 }

  -- the walk

  pub begins : (root inner : Expr) (steps : List Step) (leaf : Option (List ℕ)) (whole : Query) (ks : List TypedColumn) → rewrapped steps (leaf_query leaf) ≡ whole → AreReached (λ c. satisfies c root) steps (λ c. satisfies c inner) → ks ≡ leaf_stored tables leaf → Standing model kinds tables root whole steps ks
  begins root inner steps leaf whole ks is reached stored = record {
    inner = leaf_query leaf;
    reach = inner;
    is_whole = is;
    reached = reached;
    typed = subst (PartIs model inner (part (leaf_query leaf))) (sym stored) (leaf_is model inner kinds tables leaf);
  }

  pub ends : (root : Expr) (whole : Query) (steps : List Step) (ks : List TypedColumn) → steps ≡ [] → Standing model kinds tables root whole steps ks → PartIs model root (part whole) ks
  ends root whole steps ks empty at =
      let reached : AreReached (λ c. satisfies c root) [] (λ c. satisfies c at.reach) = subst (λ ss. AreReached (λ c. satisfies c root) ss (λ c. satisfies c at.reach)) empty at.reached in
      let is : at.inner ≡ whole = ap (λ ss. rewrapped ss at.inner) (sym empty) ∙ at.is_whole in
      part_reached model at.reach root (part whole) ks reached (subst (λ q. PartIs model at.reach (part q) ks) is at.typed)

  module _ (root : Expr) (whole : Query) (steps before : List Step) (s : Step) (ks : List TypedColumn) (popped : before ≡ steps ++ s ∷ []) (at : Standing model kinds tables root whole before ks) where
    left_behind : (AreReached (λ c. satisfies c root) steps (λ c. satisfies c s.reach)) × ((c : List ℕ) → satisfies c at.reach ≡ left_reached c s.form (satisfies c s.reach))
    left_behind = reached_pop (λ c. satisfies c root) (λ c. satisfies c at.reach) steps s (subst (λ ss. AreReached (λ c. satisfies c root) ss (λ c. satisfies c at.reach)) popped at.reached)

    round : rewrapped steps (wrapped s.form at.inner) ≡ whole
    round = sym (rewrapped_push steps s at.inner) ∙ ap (λ ss. rewrapped ss at.inner) (sym popped) ∙ at.is_whole

    stands : (v : List TypedColumn) → PartIs model s.reach (part (wrapped s.form at.inner)) v → Standing model kinds tables root whole steps v
    stands v made = record { inner = wrapped s.form at.inner; reach = s.reach; is_whole = round; reached = left_behind.0; typed = made }

    fails : (why : CaseRefused) → PartFails model s.reach (part (wrapped s.form at.inner)) why → PartFails model root (part whole) why
    fails why shows = subst (λ q. PartFails model root (part q) why) round (fails_up root s.reach steps (wrapped s.form at.inner) why left_behind.0 shows)

    inside : (f : Form) → s.form ≡ f → (c : List ℕ) → satisfies c at.reach ≡ left_reached c f (satisfies c s.reach)
    inside f is c = left_behind.1 c ∙ ap (λ g. left_reached c g (satisfies c s.reach)) is

    pub one_stands : (f : OneForm) (v : List TypedColumn) → s.form ≡ form.One f → PartIs model s.reach (λ c. one_typed c kinds f (plain_part ks c)) v → Standing model kinds tables root whole steps v
    one_stands f v is made = stands v (subst (λ g. PartIs model s.reach (part (wrapped g at.inner)) v) (sym is) (one_is s.reach f at.inner ks v (part_reached model at.reach s.reach (part at.inner) ks (inside (form.One f) is) at.typed) made))

    pub one_refused : (f : OneForm) (why : CaseRefused) → s.form ≡ form.One f → PartFails model s.reach (λ c. one_typed c kinds f (plain_part ks c)) why → PartFails model root (part whole) why
    one_refused f why is shows = fails why (subst (λ g. PartFails model s.reach (part (wrapped g at.inner)) why) (sym is) (one_fails s.reach f at.inner ks why (part_reached model at.reach s.reach (part at.inner) ks (inside (form.One f) is) at.typed) shows))

    module _ (f : TwoForm) (r : Bor Query) (rr : Expr) (is : s.form ≡ form.Two f r) (rr_is : (c : List ℕ) → satisfies c rr ≡ right_reached c f (satisfies c s.reach)) where
      pub right_refused : (why : CaseRefused) → PartFails model rr (part r.now) why → PartFails model root (part whole) why
      right_refused why shows = fails why (subst (λ g. PartFails model s.reach (part (wrapped g at.inner)) why) (sym is) (right_fails s.reach rr f at.inner r.now why rr_is shows))

      pub two_stands : (right v : List TypedColumn) → PartIs model rr (part r.now) right → TwoIs model s.reach kinds f ks right v → Standing model kinds tables root whole steps v
      two_stands right v r_is made = stands v (subst (λ g. PartIs model s.reach (part (wrapped g at.inner)) v) (sym is) (two_is s.reach at.reach rr f at.inner r.now ks right v (inside (form.Two f r) is) rr_is at.typed r_is made))

      pub two_refused : (right : List TypedColumn) (why : CaseRefused) → PartIs model rr (part r.now) right → TwoFails model s.reach kinds f ks right why → PartFails model root (part whole) why
      two_refused right why r_is shows = fails why (subst (λ g. PartFails model s.reach (part (wrapped g at.inner)) why) (sym is) (two_fails s.reach at.reach rr f at.inner r.now ks right why (inside (form.Two f r) is) rr_is at.typed r_is shows))
