-- Columns under simplified conditions say what the columns said.
use Rattle.std.proofs.Common.{◌≡◌, ℕ, ◌+◌, ◌≤◌, ◌||◌, Bool, true, false, List, [], ◌∷◌, ◌++◌, refl, sym, ◌∙◌, ap, subst, arith, if◌then◌else◌}
use Rattle.std.proofs.lemmas.Bool.{or_right}
use Rattle.condition_sat.specs.Admitted.{IsAdmitted}
use Rattle.conditional_columns.proofs.ListLaws.{weight_cons}
use Rattle.conditional_columns.specs.ColumnLists.{columns_mention}
use Rattle.feature_expr.specs.Expressions.{mentions, weight_of}
use Rattle.feature_expr.specs.Satisfaction.{satisfies}
use Rattle.feature_expr.specs.declared.expr.Expr.{Expr}
use Rattle.plain_relation.specs.Relations.{Column}
use Rattle.query_meaning.specs.PlainTypes.{Columns, TypedPart}
use Rattle.query_meaning.specs.Typing.{columns_at, columns_weight, heading, headings}
use Rattle.query_meaning.specs.declared.typed.TypedColumn.{TypedColumn}
use Rattle.query_typing.specs.Answer.{AreSimpler, IsSimpler}
use Rattle.query_typing.specs.Bounded.{HasFeatures, IsBounded}
use Rattle.query_typing.specs.Parts.{PartIs}
use Rattle.relational_algebra.specs.Columns.{once}
use Rattle.simple_conditions.specs.Simpler.{Simplifies}
use Rattle.vra_syntax.specs.declared.query.Query.{Query}
use Rattle.vschema.specs.declared.catalog.Table.{Table}

-- the condition that `simplified` answers may stand in the other's place
pub simplified_is : (old new : Expr) → ((c : List ℕ) → satisfies c new ≡ satisfies c old) → weight_of new ≤ weight_of old → ((i : ℕ) → mentions i new ≡ true → mentions i old ≡ true) → Simplifies old new
simplified_is old new same lighter features = record { same = same; lighter = lighter; features = features }

-- one column more
pub simpler_push : (ks ss : List TypedColumn) (k s : TypedColumn) → AreSimpler ks ss → IsSimpler k s → AreSimpler (ks ++ k ∷ []) (ss ++ s ∷ [])
simpler_push [] [] k s so_far is = (is, tt)
simpler_push [] (x ∷ ss) k s so_far is = absurd so_far
simpler_push (x ∷ ks) [] k s so_far is = absurd so_far
simpler_push (x ∷ ks) (y ∷ ss) k s so_far is = (so_far.0, simpler_push ks ss k s so_far.1 is)

one_heading : (k s : TypedColumn) → s.name ≡ k.name → s.kind ≡ k.kind → heading s ≡ heading k
one_heading k s name kind = let h : heading k ≡ heading k = refl in rw (name, kind) h

same_headings : (ks ss : List TypedColumn) → AreSimpler ks ss → headings ss ≡ headings ks
same_headings [] [] are = refl
same_headings [] (s ∷ ss) are = absurd are
same_headings (k ∷ ks) [] are = absurd are
same_headings (k ∷ ks) (s ∷ ss) are = ap (λ h. h ∷ headings ss) (one_heading k s are.0.name are.0.kind) ∙ ap (λ hs. heading k ∷ hs) (same_headings ks ss are.1)

one_there : (k s : TypedColumn) (xs ys : List Column) (there : Bool) → heading s ≡ heading k → xs ≡ ys → (if there then heading s ∷ xs else xs) ≡ (if there then heading k ∷ ys else ys)
one_there k s xs ys true same rest = ap (λ h. h ∷ xs) same ∙ ap (λ zs. heading k ∷ zs) rest
one_there k s xs ys false same rest = rest

same_there : (c : List ℕ) (ks ss : List TypedColumn) → AreSimpler ks ss → columns_at c ss ≡ columns_at c ks
same_there c [] [] are = refl
same_there c [] (s ∷ ss) are = absurd are
same_there c (k ∷ ks) [] are = absurd are
same_there c (k ∷ ks) (s ∷ ss) are =
    ap (λ b. if b then heading s ∷ columns_at c ss else columns_at c ss) (are.0.cond.same c)
    ∙ one_there k s (columns_at c ss) (columns_at c ks) (satisfies c k.cond) (one_heading k s are.0.name are.0.kind) (same_there c ks ss are.1)

lighter : (ks ss : List TypedColumn) → AreSimpler ks ss → columns_weight ss ≤ columns_weight ks
lighter [] [] are = omega arith
lighter [] (s ∷ ss) are = absurd are
lighter (k ∷ ks) [] are = absurd are
lighter (k ∷ ks) (s ∷ ss) are =
    let one = are.0.cond.lighter in
    let rest = lighter ks ss are.1 in
    let theirs = weight_cons s ss in
    let mine = weight_cons k ks in
    omega (arith, one, rest, theirs, mine)

either : (a b a' b' : Bool) → (a ≡ true → a' ≡ true) → (b ≡ true → b' ≡ true) → (a || b) ≡ true → (a' || b') ≡ true
either true b a' b' f g h = ap (λ x. x || b') (f refl)
either false b a' b' f g h = or_right a' b' (g h)

no_feature : (i : ℕ) (ks ss : List TypedColumn) → AreSimpler ks ss → columns_mention i ss ≡ true → columns_mention i ks ≡ true
no_feature i [] [] are h = h
no_feature i [] (s ∷ ss) are h = absurd are
no_feature i (k ∷ ks) [] are h = absurd are
no_feature i (k ∷ ks) (s ∷ ss) are h = either (mentions i s.cond) (columns_mention i ss) (mentions i k.cond) (columns_mention i ks) (are.0.cond.features i) (no_feature i ks ss are.1) h

-- they are the part's, as the columns were
pub simpler_part : (model reach : Expr) (part : List ℕ → TypedPart) (ks ss : List TypedColumn) → AreSimpler ks ss → PartIs model reach part ks → PartIs model reach part ss
simpler_part model reach part ks ss are is = record {
  possible = λ c. is.possible c ∙ sym (same_headings ks ss are);
  type = λ c admitted holds. is.type c admitted holds ∙ ap Columns (sym (same_there c ks ss are));
}

-- and within its bounds
pub simpler_bounded : (tables : List Table) (query : Query) (ks ss : List TypedColumn) → AreSimpler ks ss → IsBounded tables query ks → IsBounded tables query ss
simpler_bounded tables query ks ss are bounded =
    let same = same_headings ks ss are in
    let less = lighter ks ss are in
    let most = bounded.weight in record {
      possible = same ∙ bounded.possible;
      sized = same ∙ bounded.sized;
      each = ap once same ∙ bounded.each ∙ sym same;
      weight = omega (arith, less, most);
      features = record { each = λ i h. bounded.features.each i (no_feature i ks ss are h) };
    }
