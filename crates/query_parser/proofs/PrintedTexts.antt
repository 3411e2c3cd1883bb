-- What is printed of each condition and query at each place, with what stands behind it.
use Rattle.std.proofs.Common.{◌≡◌, ℕ, List, [], ◌∷◌, ◌++◌, true, false, refl, sym, ap, ◌∙◌, append_assoc, append-nil}
use Rattle.std.specs.Prelude.{codes}
use Rattle.feature_expr.specs.Printing.{opening, closing}
use Rattle.feature_expr.specs.Printing as exprs
use Rattle.feature_expr.specs.declared.expr.Expr.{Expr}
use Rattle.vra_syntax.specs.declared.cond.Cond.{Cond, out-Cond}
use Rattle.vra_syntax.specs.declared.cond.Cond as cond
use Rattle.vra_syntax.specs.declared.cond.Cond.TheFolds.{fold-roll-Cond}
use Rattle.vra_syntax.specs.declared.cond.Cond.TheOpen.{Cond-F}
use Rattle.vra_syntax.specs.declared.cond.Cond.TheVariants as c
use Rattle.vra_syntax.specs.declared.cond.Op.{Op}
use Rattle.vra_syntax.specs.declared.cond.Operand.{Operand}
use Rattle.vra_syntax.specs.declared.items.Items.{Items}
use Rattle.vra_syntax.specs.declared.query.Query.{Query}
use Rattle.vra_syntax.specs.declared.query.Query as query
use Rattle.vra_syntax.specs.declared.query.Query.TheFolds.{fold-roll-Query}
use Rattle.vra_syntax.specs.declared.query.Query.TheOpen.{Query-F}
use Rattle.vra_syntax.specs.declared.query.Query.TheVariants as q
use Rattle.query_printer.specs.Printing.{operand_text, op_text, choice_text, takes_and, takes_or, cond_step, cond_at, cond_text, where_step, where_text, items_text, takes_chain, takes_select, takes_join, takes_alias, query_step, query_at}
use Rattle.query_printer.specs.declared.print_cond.CondPlace.{CondPlace}
use Rattle.query_printer.specs.declared.print_cond.CondPlace.TheVariants as cplace
use Rattle.query_printer.specs.declared.print_query.QueryPlace.{QueryPlace}
use Rattle.query_printer.specs.declared.print_query.QueryPlace.TheVariants as qplace

-- texts of parts, with what stands behind them
pub two_behind : (t a b post : List ℕ) → t ≡ a ++ b → t ++ post ≡ a ++ (b ++ post)
two_behind t a b post is = rw is (simp append_assoc refl)

pub three_behind : (t a b c post : List ℕ) → t ≡ a ++ b ++ c → t ++ post ≡ a ++ (b ++ (c ++ post))
three_behind t a b c post is = rw is (simp append_assoc refl)

free_behind : (t a b c post : List ℕ) → t ≡ [] ++ a ++ b ++ c ++ [] → t ++ post ≡ a ++ (b ++ (c ++ post))
free_behind t a b c post is = rw is (simp (append_assoc, append-nil) refl)

bound_behind : (t a b c post : List ℕ) → t ≡ 40 ∷ [] ++ a ++ b ++ c ++ 41 ∷ [] → t ++ post ≡ 40 ∷ (a ++ (b ++ (c ++ 41 ∷ post)))
bound_behind t a b c post is = rw is (simp append_assoc refl)

free_five : (t a b c d e post : List ℕ) → t ≡ [] ++ a ++ b ++ c ++ d ++ e ++ [] → t ++ post ≡ a ++ (b ++ (c ++ (d ++ (e ++ post))))
free_five t a b c d e post is = rw is (simp (append_assoc, append-nil) refl)

bound_five : (t a b c d e post : List ℕ) → t ≡ 40 ∷ [] ++ a ++ b ++ c ++ d ++ e ++ 41 ∷ [] → t ++ post ≡ 40 ∷ (a ++ (b ++ (c ++ (d ++ (e ++ 41 ∷ post)))))
bound_five t a b c d e post is = rw is (simp append_assoc refl)

-- the parts of a choice
sides_behind : (t head left right chooser a b c post : List ℕ) → head ≡ a ++ chooser ++ b → t ≡ head ++ left ++ c ++ right ++ 41 ∷ [] → t ++ post ≡ a ++ (chooser ++ (b ++ (left ++ (c ++ (right ++ 41 ∷ post)))))
sides_behind t head left right chooser a b c post is_head is = rw (is, is_head) (simp append_assoc refl)

module _ (names : List (List ℕ)) where
  -- a choice with its sides
  abbrev pub choice_with : Expr → List ℕ → List ℕ → List ℕ → List ℕ
  choice_with expr left right post = codes "choice" ++ (32 ∷ 91 ∷ (exprs.text_of names expr ++ (93 ∷ 32 ∷ 40 ∷ (left ++ (44 ∷ 32 ∷ (right ++ (41 ∷ post)))))))

  choice_behind : (t left right post : List ℕ) (expr : Expr) → t ≡ choice_text names expr ++ left ++ codes ", " ++ right ++ codes ")" → t ++ post ≡ choice_with expr left right post
  unfolding choice_text
  choice_behind t left right post expr is = sides_behind t (choice_text names expr) left right (exprs.text_of names expr) (codes "choice [") (codes "] (") (codes ", ") post refl is

  cond_at-roll : (p : CondPlace) (x : Cond) (y : Cond-F Cond) → x ≡ cond.roll-Cond y → cond_at names x p ≡ cond_step names (cond.map-Cond Cond (CondPlace → List ℕ) (cond_at names) y) p
  cond_at-roll p x y is = ap (λ (z : Cond). cond_at names z p) is ∙ ap (λ (f : CondPlace → List ℕ). f p) (fold-roll-Cond (CondPlace → List ℕ) (cond_step names) y)

  pub printed_cmp : (left : Operand) (op : Op) (right : Operand) (p : CondPlace) (post : List ℕ) → cond_at names (cond.Cmp left op right) p ++ post ≡ operand_text left ++ (op_text op ++ (operand_text right ++ post))
  printed_cmp left op right p post = three_behind (cond_at names (cond.Cmp left op right) p) (operand_text left) (op_text op) (operand_text right) post (cond_at-roll p (cond.Cmp left op right) (Cond-F.Cmp left op right) (sym (c.rolls-Cmp left op right)))

  pub printed_true : (p : CondPlace) (post : List ℕ) → cond_at names cond.True p ++ post ≡ codes "true" ++ post
  printed_true p post = ap (λ (t : List ℕ). t ++ post) (cond_at-roll p cond.True Cond-F.True (sym c.rolls-True))

  pub printed_false : (p : CondPlace) (post : List ℕ) → cond_at names cond.False p ++ post ≡ codes "false" ++ post
  printed_false p post = ap (λ (t : List ℕ). t ++ post) (cond_at-roll p cond.False Cond-F.False (sym c.rolls-False))

  pub printed_not : (inner : Cond) (p : CondPlace) (post : List ℕ) → cond_at names (cond.Not inner) p ++ post ≡ codes "not" ++ (32 ∷ (cond_at names inner cplace.Operand ++ post))
  printed_not inner p post = two_behind (cond_at names (cond.Not inner) p) (codes "not ") (cond_at names inner cplace.Operand) post (cond_at-roll p (cond.Not inner) (Cond-F.Not inner) (sym (c.rolls-Not inner)))

  cond_at-And : (left right : Cond) (p : CondPlace) → cond_at names (cond.And left right) p ≡ opening (takes_and p) ++ cond_at names left cplace.Conjunct ++ codes " and " ++ cond_at names right cplace.Operand ++ closing (takes_and p)
  cond_at-And left right p = cond_at-roll p (cond.And left right) (Cond-F.And left right) (sym (c.rolls-And left right))

  cond_at-Or : (left right : Cond) (p : CondPlace) → cond_at names (cond.Or left right) p ≡ opening (takes_or p) ++ cond_at names left cplace.Disjunct ++ codes " or " ++ cond_at names right cplace.Conjunct ++ closing (takes_or p)
  cond_at-Or left right p = cond_at-roll p (cond.Or left right) (Cond-F.Or left right) (sym (c.rolls-Or left right))

  -- a chain without brackets and in brackets
  abbrev pub and_with : Cond → Cond → List ℕ → List ℕ
  and_with left right post = cond_at names left cplace.Conjunct ++ (codes " and " ++ (cond_at names right cplace.Operand ++ post))

  abbrev pub or_with : Cond → Cond → List ℕ → List ℕ
  or_with left right post = cond_at names left cplace.Disjunct ++ (codes " or " ++ (cond_at names right cplace.Conjunct ++ post))

  pub printed_and : (left right : Cond) (p : CondPlace) (post : List ℕ) → takes_and p ≡ true → cond_at names (cond.And left right) p ++ post ≡ and_with left right post
  printed_and left right p post free = free_behind (cond_at names (cond.And left right) p) (cond_at names left cplace.Conjunct) (codes " and ") (cond_at names right cplace.Operand) post (rw free at (cond_at-And left right p))

  pub printed_and_bound : (left right : Cond) (p : CondPlace) (post : List ℕ) → takes_and p ≡ false → cond_at names (cond.And left right) p ++ post ≡ 40 ∷ and_with left right (41 ∷ post)
  printed_and_bound left right p post bound = bound_behind (cond_at names (cond.And left right) p) (cond_at names left cplace.Conjunct) (codes " and ") (cond_at names right cplace.Operand) post (rw bound at (cond_at-And left right p))

  pub printed_or : (left right : Cond) (p : CondPlace) (post : List ℕ) → takes_or p ≡ true → cond_at names (cond.Or left right) p ++ post ≡ or_with left right post
  printed_or left right p post free = free_behind (cond_at names (cond.Or left right) p) (cond_at names left cplace.Disjunct) (codes " or ") (cond_at names right cplace.Conjunct) post (rw free at (cond_at-Or left right p))

  pub printed_or_bound : (left right : Cond) (p : CondPlace) (post : List ℕ) → takes_or p ≡ false → cond_at names (cond.Or left right) p ++ post ≡ 40 ∷ or_with left right (41 ∷ post)
  printed_or_bound left right p post bound = bound_behind (cond_at names (cond.Or left right) p) (cond_at names left cplace.Disjunct) (codes " or ") (cond_at names right cplace.Conjunct) post (rw bound at (cond_at-Or left right p))

  pub printed_cond_choice : (expr : Expr) (left right : Cond) (p : CondPlace) (post : List ℕ) → cond_at names (cond.Choice expr left right) p ++ post ≡ choice_with expr (cond_at names left cplace.Disjunct) (cond_at names right cplace.Disjunct) post
  printed_cond_choice expr left right p post = choice_behind (cond_at names (cond.Choice expr left right) p) (cond_at names left cplace.Disjunct) (cond_at names right cplace.Disjunct) post expr (cond_at-roll p (cond.Choice expr left right) (Cond-F.Choice expr left right) (sym (c.rolls-Choice expr left right)))

  -- nothing is printed of a condition that is missing
  abbrev pub where_with : Cond → List ℕ → List ℕ
  where_with x post = codes " where " ++ (cond_text names x ++ post)

  where_by : (x : Cond) (y : Cond-F Cond) (post : List ℕ) → out-Cond x ≡ y → where_step (cond_text names x) y ≡ codes " where " ++ cond_text names x → where_text names x ++ post ≡ where_with x post
  unfolding where_text
  where_by x y post is printed = two_behind (where_step (cond_text names x) (out-Cond x)) (codes " where ") (cond_text names x) post (rw is printed)

  pub printed_no_where : where_text names cond.True ≡ []
  unfolding where_text
  printed_no_where = rw c.outs-True refl

  pub where_cmp : (left : Operand) (op : Op) (right : Operand) (post : List ℕ) → where_text names (cond.Cmp left op right) ++ post ≡ where_with (cond.Cmp left op right) post
  where_cmp left op right post = where_by (cond.Cmp left op right) (Cond-F.Cmp left op right) post (c.outs-Cmp left op right) refl

  pub where_false : (post : List ℕ) → where_text names cond.False ++ post ≡ where_with cond.False post
  where_false post = where_by cond.False Cond-F.False post c.outs-False refl

  pub where_not : (inner : Cond) (post : List ℕ) → where_text names (cond.Not inner) ++ post ≡ where_with (cond.Not inner) post
  where_not inner post = where_by (cond.Not inner) (Cond-F.Not inner) post (c.outs-Not inner) refl

  pub where_and : (left right : Cond) (post : List ℕ) → where_text names (cond.And left right) ++ post ≡ where_with (cond.And left right) post
  where_and left right post = where_by (cond.And left right) (Cond-F.And left right) post (c.outs-And left right) refl

  pub where_or : (left right : Cond) (post : List ℕ) → where_text names (cond.Or left right) ++ post ≡ where_with (cond.Or left right) post
  where_or left right post = where_by (cond.Or left right) (Cond-F.Or left right) post (c.outs-Or left right) refl

  pub where_choice : (expr : Expr) (left right : Cond) (post : List ℕ) → where_text names (cond.Choice expr left right) ++ post ≡ where_with (cond.Choice expr left right) post
  where_choice expr left right post = where_by (cond.Choice expr left right) (Cond-F.Choice expr left right) post (c.outs-Choice expr left right) refl

  query_at-roll : (p : QueryPlace) (x : Query) (y : Query-F Query) → x ≡ query.roll-Query y → query_at names x p ≡ query_step names (query.map-Query Query (QueryPlace → List ℕ) (query_at names) y) p
  query_at-roll p x y is = ap (λ (z : Query). query_at names z p) is ∙ ap (λ (f : QueryPlace → List ℕ). f p) (fold-roll-Query (QueryPlace → List ℕ) (query_step names) y)

  pub printed_table : (name : List ℕ) (p : QueryPlace) (post : List ℕ) → query_at names (query.Table name) p ++ post ≡ name ++ post
  printed_table name p post = ap (λ (t : List ℕ). t ++ post) (query_at-roll p (query.Table name) (Query-F.Table name) (sym (q.rolls-Table name)))

  pub printed_empty : (p : QueryPlace) (post : List ℕ) → query_at names query.Empty p ++ post ≡ codes "empty" ++ post
  printed_empty p post = ap (λ (t : List ℕ). t ++ post) (query_at-roll p query.Empty Query-F.Empty (sym q.rolls-Empty))

  pub printed_query_choice : (expr : Expr) (left right : Query) (p : QueryPlace) (post : List ℕ) → query_at names (query.Choice expr left right) p ++ post ≡ choice_with expr (query_at names left qplace.Whole) (query_at names right qplace.Whole) post
  printed_query_choice expr left right p post = choice_behind (query_at names (query.Choice expr left right) p) (query_at names left qplace.Whole) (query_at names right qplace.Whole) post expr (query_at-roll p (query.Choice expr left right) (Query-F.Choice expr left right) (sym (q.rolls-Choice expr left right)))

  abbrev pub select_with : Items → Query → Cond → List ℕ → List ℕ
  select_with kept source x post = codes "select" ++ (32 ∷ (items_text names kept ++ (codes " from " ++ (query_at names source qplace.Source ++ (where_text names x ++ post)))))

  query_at-Select : (kept : Items) (source : Query) (x : Cond) (p : QueryPlace) → query_at names (query.Select kept source x) p ≡ opening (takes_select p) ++ codes "select " ++ items_text names kept ++ codes " from " ++ query_at names source qplace.Source ++ where_text names x ++ closing (takes_select p)
  query_at-Select kept source x p = query_at-roll p (query.Select kept source x) (Query-F.Select kept source x) (sym (q.rolls-Select kept source x))

  pub printed_select : (kept : Items) (source : Query) (x : Cond) (p : QueryPlace) (post : List ℕ) → takes_select p ≡ true → query_at names (query.Select kept source x) p ++ post ≡ select_with kept source x post
  printed_select kept source x p post free = free_five (query_at names (query.Select kept source x) p) (codes "select ") (items_text names kept) (codes " from ") (query_at names source qplace.Source) (where_text names x) post (rw free at (query_at-Select kept source x p))

  pub printed_select_bound : (kept : Items) (source : Query) (x : Cond) (p : QueryPlace) (post : List ℕ) → takes_select p ≡ false → query_at names (query.Select kept source x) p ++ post ≡ 40 ∷ select_with kept source x (41 ∷ post)
  printed_select_bound kept source x p post bound = bound_five (query_at names (query.Select kept source x) p) (codes "select ") (items_text names kept) (codes " from ") (query_at names source qplace.Source) (where_text names x) post (rw bound at (query_at-Select kept source x p))

  pub printed_join : (left right : Query) (x : Cond) (p : QueryPlace) (post : List ℕ) → takes_join p ≡ true → query_at names (query.Join left right x) p ++ post ≡ query_at names left qplace.Source ++ (codes " join " ++ (query_at names right qplace.Joined ++ (codes " on " ++ (cond_text names x ++ post))))
  printed_join left right x p post free = free_five (query_at names (query.Join left right x) p) (query_at names left qplace.Source) (codes " join ") (query_at names right qplace.Joined) (codes " on ") (cond_text names x) post (rw free at (query_at-roll p (query.Join left right x) (Query-F.Join left right x) (sym (q.rolls-Join left right x))))

  -- a chain with this word between its parts, without brackets and in brackets
  abbrev pub chain_with : List ℕ → Query → Query → List ℕ → List ℕ
  chain_with word left right post = query_at names left qplace.Whole ++ (32 ∷ (word ++ (32 ∷ (query_at names right qplace.Term ++ post))))

  query_at-Union : (left right : Query) (p : QueryPlace) → query_at names (query.Union left right) p ≡ opening (takes_chain p) ++ query_at names left qplace.Whole ++ codes " union " ++ query_at names right qplace.Term ++ closing (takes_chain p)
  query_at-Union left right p = query_at-roll p (query.Union left right) (Query-F.Union left right) (sym (q.rolls-Union left right))

  query_at-Except : (left right : Query) (p : QueryPlace) → query_at names (query.Except left right) p ≡ opening (takes_chain p) ++ query_at names left qplace.Whole ++ codes " except " ++ query_at names right qplace.Term ++ closing (takes_chain p)
  query_at-Except left right p = query_at-roll p (query.Except left right) (Query-F.Except left right) (sym (q.rolls-Except left right))

  pub printed_union : (left right : Query) (p : QueryPlace) (post : List ℕ) → takes_chain p ≡ true → query_at names (query.Union left right) p ++ post ≡ chain_with (codes "union") left right post
  printed_union left right p post free = free_behind (query_at names (query.Union left right) p) (query_at names left qplace.Whole) (codes " union ") (query_at names right qplace.Term) post (rw free at (query_at-Union left right p))

  pub printed_union_bound : (left right : Query) (p : QueryPlace) (post : List ℕ) → takes_chain p ≡ false → query_at names (query.Union left right) p ++ post ≡ 40 ∷ chain_with (codes "union") left right (41 ∷ post)
  printed_union_bound left right p post bound = bound_behind (query_at names (query.Union left right) p) (query_at names left qplace.Whole) (codes " union ") (query_at names right qplace.Term) post (rw bound at (query_at-Union left right p))

  pub printed_except : (left right : Query) (p : QueryPlace) (post : List ℕ) → takes_chain p ≡ true → query_at names (query.Except left right) p ++ post ≡ chain_with (codes "except") left right post
  printed_except left right p post free = free_behind (query_at names (query.Except left right) p) (query_at names left qplace.Whole) (codes " except ") (query_at names right qplace.Term) post (rw free at (query_at-Except left right p))

  pub printed_except_bound : (left right : Query) (p : QueryPlace) (post : List ℕ) → takes_chain p ≡ false → query_at names (query.Except left right) p ++ post ≡ 40 ∷ chain_with (codes "except") left right (41 ∷ post)
  printed_except_bound left right p post bound = bound_behind (query_at names (query.Except left right) p) (query_at names left qplace.Whole) (codes " except ") (query_at names right qplace.Term) post (rw bound at (query_at-Except left right p))

  pub printed_alias : (source : Query) (name : List ℕ) (p : QueryPlace) (post : List ℕ) → takes_alias p ≡ true → query_at names (query.Alias source name) p ++ post ≡ query_at names source qplace.Named ++ (codes " as " ++ (name ++ post))
  printed_alias source name p post free = free_behind (query_at names (query.Alias source name) p) (query_at names source qplace.Named) (codes " as ") name post (rw free at (query_at-roll p (query.Alias source name) (Query-F.Alias source name) (sym (q.rolls-Alias source name))))
