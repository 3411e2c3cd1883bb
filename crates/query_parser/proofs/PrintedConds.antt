-- The tokens of a printed condition spell it.
use Rattle.std.proofs.Common.{◌≡◌, ◌⊎◌, inl, inr, ℕ, ◌+◌, ◌<◌, List, ◌∷◌, ◌++◌, Some, None, Bool, true, false, codes, refl, sym, ap, ◌∙◌, subst}
use Rattle.feature_expr.specs.Names.{refusal}
use Rattle.feature_expr.specs.declared.expr.Expr.{Expr}
use Rattle.word_tokens.specs.declared.token.Token.{Token}
use Rattle.values.specs.declared.value.Value.TheVariants as value
use Rattle.vra_syntax.specs.declared.cond.Cond.{Cond}
use Rattle.vra_syntax.specs.declared.cond.Cond as cond
use Rattle.vra_syntax.specs.declared.cond.Op.{Op}
use Rattle.vra_syntax.specs.declared.cond.Operand.{Operand}
use Rattle.vra_syntax.specs.declared.cond.Operand.TheVariants as operand
use Rattle.query_parser.proofs.HereLaws.{Ends, op_here, operand_here}
use Rattle.query_parser.proofs.HereParts.{Isnt, op_ends, reads_as, mark, word_before, between, mark_before, choice_here}
use Rattle.query_parser.proofs.Heres.{Here}
use Rattle.query_parser.proofs.Printables.{PlainOperand, plain_value, plain_truth, PlainExpr, PlainCond, plain_comparison, plain_true, plain_false, plain_not, free_and, bound_and, free_or, bound_or, plain_cond_choice}
use Rattle.query_parser.proofs.PrintedTexts.{and_with, or_with, where_with, printed_cmp, printed_true, printed_false, printed_not, printed_and, printed_and_bound, printed_or, printed_or_bound, printed_cond_choice, printed_no_where, where_cmp, where_false, where_not, where_and, where_or, where_choice}
use Rattle.query_parser.specs.Conditions.{CondPart, OrChain, Condition, AndChain, Negation, SpellsCond, one_conjunction, another_conjunction, whole_condition, one_negation, another_negation, whole_conjunction, not_condition, condition_in_brackets, choice_of_conditions, comparison, truth, falsehood, IsWhere, no_where, some_where}
use Rattle.query_parser.specs.Lexemes.{lexeme_at, op_of}
use Rattle.query_printer.specs.Printing.{operand_text, op_text, takes_and, takes_or, cond_at, cond_text, where_text}
use Rattle.query_parser.specs.declared.lexeme.Lexeme.{Lexeme}
use Rattle.query_parser.specs.declared.lexeme.Lexeme.TheVariants as lexeme
use Rattle.feature_expr.specs.Nesting.{nesting_limit}
use Rattle.query_printer.specs.declared.print_cond.CondPlace.{CondPlace}
use Rattle.query_printer.specs.declared.print_cond.CondPlace.TheVariants as cplace

-- no operand goes on with this token
abbrev pub EndsOperand : Lexeme → Type 0
EndsOperand l = Isnt l lexeme.Dot × (op_of l ≡ None)

-- and no conjunction
abbrev pub EndsConjunction : Lexeme → Type 0
EndsConjunction l = EndsOperand l × Isnt l lexeme.And

-- and no condition
abbrev pub EndsCondition : Lexeme → Type 0
EndsCondition l = EndsConjunction l × Isnt l lexeme.Or

-- and there begins none behind `where`
abbrev pub EndsWhere : Lexeme → Type 0
EndsWhere l = EndsCondition l × Isnt l lexeme.Where

-- the part that stands at a place
abbrev pub cond_part : CondPlace → ℕ → CondPart
cond_part cplace.Operand n = Negation n
cond_part cplace.Conjunct n = AndChain n
cond_part cplace.Disjunct n = OrChain n

-- what may not go on with the token behind it
abbrev pub EndsCondAt : CondPlace → Lexeme → Type 0
EndsCondAt cplace.Operand l = EndsOperand l
EndsCondAt cplace.Conjunct l = EndsOperand l
EndsCondAt cplace.Disjunct l = EndsConjunction l

-- the tokens behind which no condition goes on, nor one behind `where`
abbrev pub ends_where : Lexeme → Bool
ends_where lexeme.Close = true
ends_where lexeme.Comma = true
ends_where lexeme.Semicolon = true
ends_where lexeme.End = true
ends_where lexeme.When = true
ends_where lexeme.Union = true
ends_where lexeme.Except = true
ends_where _ = false

pub where_ended : (l : Lexeme) → ends_where l ≡ true → EndsWhere l
where_ended lexeme.Close is = ((((refl, refl), refl), refl), refl)
where_ended lexeme.Comma is = ((((refl, refl), refl), refl), refl)
where_ended lexeme.Semicolon is = ((((refl, refl), refl), refl), refl)
where_ended lexeme.End is = ((((refl, refl), refl), refl), refl)
where_ended lexeme.When is = ((((refl, refl), refl), refl), refl)
where_ended lexeme.Union is = ((((refl, refl), refl), refl), refl)
where_ended lexeme.Except is = ((((refl, refl), refl), refl), refl)
where_ended _ is = absurd (cc is)

module _ (with_params : Bool) (names : List (List ℕ)) (none : refusal names ≡ None) (text : List ℕ) (tokens : List Token) where
  -- a condition that stands there, printed for a place
  pub record CondHere (n : ℕ) (p : CondPlace) (k : ℕ) (c : Cond) (post : List ℕ) : Type 0 where
    pub end : ℕ
    pub spelled : EndsCondAt p (lexeme_at text tokens end) → SpellsCond with_params names text tokens (cond_part p n) k c end
    pub here : Here text tokens end post

  abbrev pub WalksCond : ℕ → CondPlace → Cond → Type 0
  WalksCond n p c = (k : ℕ) (post : List ℕ) → Ends post → Here text tokens k (cond_at names c p ++ post) → CondHere n p k c post

  lift : (p : CondPlace) (n k : ℕ) (c : Cond) (post : List ℕ) → CondHere n cplace.Operand k c post → CondHere n p k c post
  lift cplace.Operand n k c post h = h
  lift cplace.Conjunct n k c post h = record { end = h.end; spelled = λ e. one_negation n k c h.end (h.spelled e); here = h.here }
  lift cplace.Disjunct n k c post h = record { end = h.end; spelled = λ e. one_conjunction n k c h.end (whole_conjunction n k c h.end (one_negation n k c h.end (h.spelled e.0)) e.1); here = h.here }

  -- a conjunction in a chain of `or`
  first_or : (n k : ℕ) (c : Cond) (post : List ℕ) → CondHere n cplace.Conjunct k c post → CondHere n cplace.Disjunct k c post
  first_or n k c post h = record { end = h.end; spelled = λ e. one_conjunction n k c h.end (whole_conjunction n k c h.end (h.spelled e.0) e.1); here = h.here }

  whole : (n k : ℕ) (c : Cond) (post : List ℕ) (h : CondHere n cplace.Disjunct k c post) → EndsCondition (lexeme_at text tokens h.end) → SpellsCond with_params names text tokens (Condition n) k c h.end
  whole n k c post h e = whole_condition n k c h.end (h.spelled e.0) e.1

  walks_cmp : (n : ℕ) (p : CondPlace) (left : Operand) (op : Op) (right : Operand) → PlainOperand with_params left → PlainOperand with_params right → WalksCond n p (cond.Cmp left op right)
  walks_cmp n p left op right l r k post ends h =
      let a = operand_here text tokens with_params left k (op_text op ++ (operand_text right ++ post)) l (op_ends op (operand_text right ++ post)) (reads_as text tokens k _ _ (printed_cmp names left op right p post) h) in
      let o = op_here text tokens op a.end (operand_text right ++ post) a.here in
      let b = operand_here text tokens with_params right (a.end + 1) post r ends o.1 in
      lift p n k (cond.Cmp left op right) post (record {
        end = b.end;
        spelled = λ e. comparison n k left op right a.end b.end (a.spelled (no_dot (lexeme_at text tokens a.end) op o.0)) o.0 (b.spelled e.0);
        here = b.here;
      })
    where
      no_dot : (l : Lexeme) (o : Op) → op_of l ≡ Some o → Isnt l lexeme.Dot
      no_dot lexeme.Dot o is = absurd (cc is)
      no_dot _ o is = refl

  walks_true : (n : ℕ) (p : CondPlace) → WalksCond n p cond.True
  walks_true n p k post ends h =
      let a = operand_here text tokens with_params (operand.Literal (value.Bool true)) k post (plain_value (operand.Literal (value.Bool true)) (plain_truth true)) ends (reads_as text tokens k _ _ (printed_true names p post) h) in
      lift p n k cond.True post (record { end = a.end; spelled = λ e. truth n k a.end (a.spelled e.0) e.1; here = a.here })

  walks_false : (n : ℕ) (p : CondPlace) → WalksCond n p cond.False
  walks_false n p k post ends h =
      let a = operand_here text tokens with_params (operand.Literal (value.Bool false)) k post (plain_value (operand.Literal (value.Bool false)) (plain_truth false)) ends (reads_as text tokens k _ _ (printed_false names p post) h) in
      lift p n k cond.False post (record { end = a.end; spelled = λ e. falsehood n k a.end (a.spelled e.0) e.1; here = a.here })

  walks_not : (n : ℕ) (p : CondPlace) (inner : Cond) → n < nesting_limit → WalksCond (n + 1) cplace.Operand inner → WalksCond n p (cond.Not inner)
  walks_not n p inner below f k post ends h =
      let w = word_before text tokens k (codes "not") (cond_at names inner cplace.Operand ++ post) refl (reads_as text tokens k _ _ (printed_not names inner p post) h) in
      let i = f (k + 1) post ends w.1 in
      lift p n k (cond.Not inner) post (record { end = i.end; spelled = λ e. not_condition n k inner i.end (rw w.0 refl) below (i.spelled e); here = i.here })

  bracketed : (n k : ℕ) (c : Cond) (rest post : List ℕ) → n < nesting_limit → Here text tokens k (40 ∷ rest) → (Here text tokens (k + 1) rest → CondHere (n + 1) cplace.Disjunct (k + 1) c (41 ∷ post)) → CondHere n cplace.Operand k c post
  bracketed n k c rest post below h walk =
      let o = mark text tokens k 40 rest refl h in
      let i = walk o.1 in
      let s = mark text tokens i.end 41 post refl i.here in
      record {
        end = i.end + 1;
        spelled = λ e. condition_in_brackets n k c i.end (rw o.0 refl) below (whole (n + 1) (k + 1) c (41 ∷ post) i (rw s.0 (((refl, refl), refl), refl))) (rw s.0 refl);
        here = s.1;
      }

  chain_and : (n : ℕ) (left right : Cond) → WalksCond n cplace.Conjunct left → WalksCond n cplace.Operand right → (k : ℕ) (post : List ℕ) → Ends post → Here text tokens k (and_with names left right post) → CondHere n cplace.Conjunct k (cond.And left right) post
  chain_and n left right f g k post ends h =
      let l = f k (codes " and " ++ (cond_at names right cplace.Operand ++ post)) (refl, refl) h in
      let w = between text tokens l.end (codes "and") (cond_at names right cplace.Operand ++ post) refl l.here in
      let r = g (l.end + 1) post ends w.1 in
      record {
        end = r.end;
        spelled = λ e. another_negation n k left right l.end r.end (l.spelled (rw w.0 (refl, refl))) (rw w.0 refl) (r.spelled e);
        here = r.here;
      }

  chain_or : (n : ℕ) (left right : Cond) → WalksCond n cplace.Disjunct left → WalksCond n cplace.Conjunct right → (k : ℕ) (post : List ℕ) → Ends post → Here text tokens k (or_with names left right post) → CondHere n cplace.Disjunct k (cond.Or left right) post
  chain_or n left right f g k post ends h =
      let l = f k (codes " or " ++ (cond_at names right cplace.Conjunct ++ post)) (refl, refl) h in
      let w = between text tokens l.end (codes "or") (cond_at names right cplace.Conjunct ++ post) refl l.here in
      let r = g (l.end + 1) post ends w.1 in
      record {
        end = r.end;
        spelled = λ e. another_conjunction n k left right l.end r.end (l.spelled (rw w.0 ((refl, refl), refl))) (rw w.0 refl) (whole_conjunction n (l.end + 1) right r.end (r.spelled e.0) e.1);
        here = r.here;
      }

  walks_and : (p : CondPlace) (n : ℕ) (left right : Cond) → takes_and p ≡ true → WalksCond n cplace.Conjunct left → WalksCond n cplace.Operand right → WalksCond n p (cond.And left right)
  walks_and cplace.Operand n left right free f g k post ends h = absurd (cc free)
  walks_and cplace.Conjunct n left right free f g k post ends h = chain_and n left right f g k post ends (reads_as text tokens k _ _ (printed_and names left right cplace.Conjunct post free) h)
  walks_and cplace.Disjunct n left right free f g k post ends h =
      first_or n k (cond.And left right) post (chain_and n left right f g k post ends (reads_as text tokens k _ _ (printed_and names left right cplace.Disjunct post free) h))

  walks_bound_and : (p : CondPlace) (n : ℕ) (left right : Cond) → takes_and p ≡ false → n < nesting_limit → WalksCond (n + 1) cplace.Conjunct left → WalksCond (n + 1) cplace.Operand right → WalksCond n p (cond.And left right)
  walks_bound_and p n left right bound below f g k post ends h =
      lift p n k (cond.And left right) post (bracketed n k (cond.And left right) (and_with names left right (41 ∷ post)) post below (reads_as text tokens k _ _ (printed_and_bound names left right p post bound) h)
      (λ i. first_or (n + 1) (k + 1) (cond.And left right) (41 ∷ post) (chain_and (n + 1) left right f g (k + 1) (41 ∷ post) (refl, refl) i)))

  walks_or : (p : CondPlace) (n : ℕ) (left right : Cond) → takes_or p ≡ true → WalksCond n cplace.Disjunct left → WalksCond n cplace.Conjunct right → WalksCond n p (cond.Or left right)
  walks_or cplace.Operand n left right free f g k post ends h = absurd (cc free)
  walks_or cplace.Conjunct n left right free f g k post ends h = absurd (cc free)
  walks_or cplace.Disjunct n left right free f g k post ends h = chain_or n left right f g k post ends (reads_as text tokens k _ _ (printed_or names left right cplace.Disjunct post free) h)

  walks_bound_or : (p : CondPlace) (n : ℕ) (left right : Cond) → takes_or p ≡ false → n < nesting_limit → WalksCond (n + 1) cplace.Disjunct left → WalksCond (n + 1) cplace.Conjunct right → WalksCond n p (cond.Or left right)
  walks_bound_or p n left right bound below f g k post ends h =
      lift p n k (cond.Or left right) post (bracketed n k (cond.Or left right) (or_with names left right (41 ∷ post)) post below (reads_as text tokens k _ _ (printed_or_bound names left right p post bound) h)
      (λ i. chain_or (n + 1) left right f g (k + 1) (41 ∷ post) (refl, refl) i))

  walks_choice : (p : CondPlace) (n : ℕ) (expr : Expr) (left right : Cond) → n + 1 < nesting_limit → PlainExpr names (n + 1) expr → WalksCond (n + 2) cplace.Disjunct left → WalksCond (n + 2) cplace.Disjunct right → WalksCond n p (cond.Choice expr left right)
  walks_choice p n expr left right within plain f g k post ends h =
      let a = cond_at names left cplace.Disjunct in
      let b = cond_at names right cplace.Disjunct in
      let c = choice_here text tokens names none n expr k (a ++ (44 ∷ 32 ∷ (b ++ (41 ∷ post)))) within plain (reads_as text tokens k _ _ (printed_cond_choice names expr left right p post) h) in
      let l = f c.sides (44 ∷ 32 ∷ (b ++ (41 ∷ post))) (refl, refl) c.here in
      let m = mark_before text tokens l.end 44 (b ++ (41 ∷ post)) refl l.here in
      let r = g (l.end + 1) (41 ∷ post) (refl, refl) m.1 in
      let s = mark text tokens r.end 41 post refl r.here in
      lift p n k (cond.Choice expr left right) post (record {
        end = r.end + 1;
        spelled = λ e. choice_of_conditions n k expr c.sides left right l.end r.end c.is
            (whole (n + 2) c.sides left (44 ∷ 32 ∷ (b ++ (41 ∷ post))) l (rw m.0 (((refl, refl), refl), refl))) (rw m.0 refl)
            (whole (n + 2) (l.end + 1) right (41 ∷ post) r (rw s.0 (((refl, refl), refl), refl))) (rw s.0 refl);
        here = s.1;
      })

  -- the text of a condition at a place is the part that stands there
  pub walks_cond : (n : ℕ) (p : CondPlace) (c : Cond) → PlainCond with_params names n p c → WalksCond n p c
  walks_cond n p c (plain_comparison m at left op right l r) = walks_cmp n p left op right l r
  walks_cond n p c (plain_true m at) = walks_true n p
  walks_cond n p c (plain_false m at) = walks_false n p
  walks_cond n p c (plain_not m at inner below i) = walks_not n p inner below (walks_cond (n + 1) cplace.Operand inner i)
  walks_cond n p c (free_and m at left right free l r) = walks_and p n left right free (walks_cond n cplace.Conjunct left l) (walks_cond n cplace.Operand right r)
  walks_cond n p c (bound_and m at left right bound below l r) = walks_bound_and p n left right bound below (walks_cond (n + 1) cplace.Conjunct left l) (walks_cond (n + 1) cplace.Operand right r)
  walks_cond n p c (free_or m at left right free l r) = walks_or p n left right free (walks_cond n cplace.Disjunct left l) (walks_cond n cplace.Conjunct right r)
  walks_cond n p c (bound_or m at left right bound below l r) = walks_bound_or p n left right bound below (walks_cond (n + 1) cplace.Disjunct left l) (walks_cond (n + 1) cplace.Conjunct right r)
  walks_cond n p c (plain_cond_choice m at expr left right within plain l r) = walks_choice p n expr left right within plain (walks_cond (n + 2) cplace.Disjunct left l) (walks_cond (n + 2) cplace.Disjunct right r)

  -- a condition that stands there alone
  pub record ConditionHere (n k : ℕ) (c : Cond) (post : List ℕ) : Type 0 where
    pub end : ℕ
    pub spelled : EndsCondition (lexeme_at text tokens end) → SpellsCond with_params names text tokens (Condition n) k c end
    pub here : Here text tokens end post

  pub condition_here : (n : ℕ) (c : Cond) (k : ℕ) (post : List ℕ) → PlainCond with_params names n cplace.Disjunct c → Ends post → Here text tokens k (cond_text names c ++ post) → ConditionHere n k c post
  condition_here n c k post plain ends h =
      let w = walks_cond n cplace.Disjunct c plain k post ends h in
      record { end = w.end; spelled = λ e. whole n k c post w e; here = w.here }

  -- a condition is missing, or it stands behind `where`
  pub where_printed : (n : ℕ) (p : CondPlace) (c : Cond) → PlainCond with_params names n p c → (c ≡ cond.True) ⊎ ((post : List ℕ) → where_text names c ++ post ≡ where_with names c post)
  where_printed n p c (plain_comparison m at left op right l r) = inr (where_cmp names left op right)
  where_printed n p c (plain_true m at) = inl refl
  where_printed n p c (plain_false m at) = inr (where_false names)
  where_printed n p c (plain_not m at inner below i) = inr (where_not names inner)
  where_printed n p c (free_and m at left right free l r) = inr (where_and names left right)
  where_printed n p c (bound_and m at left right bound below l r) = inr (where_and names left right)
  where_printed n p c (free_or m at left right free l r) = inr (where_or names left right)
  where_printed n p c (bound_or m at left right bound below l r) = inr (where_or names left right)
  where_printed n p c (plain_cond_choice m at expr left right within plain l r) = inr (where_choice names expr left right)

  missing : (c : Cond) (post : List ℕ) → c ≡ cond.True → where_text names c ++ post ≡ post
  missing c post is = ap (λ (x : Cond). where_text names x ++ post) is ∙ ap (λ (t : List ℕ). t ++ post) (printed_no_where names)

  ends_by : (c : Cond) (post : List ℕ) → (c ≡ cond.True) ⊎ ((rest : List ℕ) → where_text names c ++ rest ≡ where_with names c rest) → Ends post → Ends (where_text names c ++ post)
  ends_by c post (inl is) ends = subst (λ (t : List ℕ). Ends t) (sym (missing c post is)) ends
  ends_by c post (inr is) ends = subst (λ (t : List ℕ). Ends t) (sym (is post)) (refl, refl)

  pub where_ends : (n : ℕ) (c : Cond) (post : List ℕ) → PlainCond with_params names n cplace.Disjunct c → Ends post → Ends (where_text names c ++ post)
  where_ends n c post plain ends = ends_by c post (where_printed n cplace.Disjunct c plain) ends

  -- a condition behind `where`, or none
  pub record WhereHere (n k : ℕ) (c : Cond) (post : List ℕ) : Type 0 where
    pub end : ℕ
    pub spelled : EndsWhere (lexeme_at text tokens end) → IsWhere with_params names text tokens n k c end
    pub begins : (k ≡ end) ⊎ (lexeme_at text tokens k ≡ lexeme.Where)
    pub here : Here text tokens end post

  where_by : (n : ℕ) (c : Cond) (k : ℕ) (post : List ℕ) → (c ≡ cond.True) ⊎ ((rest : List ℕ) → where_text names c ++ rest ≡ where_with names c rest) → PlainCond with_params names n cplace.Disjunct c → Ends post → Here text tokens k (where_text names c ++ post) → WhereHere n k c post
  where_by n c k post (inl is) plain ends h = record {
    end = k;
    spelled = λ e. subst (λ (x : Cond). IsWhere with_params names text tokens n k x k) (sym is) (no_where e.1);
    begins = inl refl;
    here = reads_as text tokens k _ _ (missing c post is) h;
  }
  where_by n c k post (inr is) plain ends h =
      let w = between text tokens k (codes "where") (cond_text names c ++ post) refl (reads_as text tokens k _ _ (is post) h) in
      let i = condition_here n c (k + 1) post plain ends w.1 in
      record { end = i.end; spelled = λ e. some_where c i.end (rw w.0 refl) (i.spelled e.0); begins = inr w.0; here = i.here }

  pub where_here : (n : ℕ) (c : Cond) (k : ℕ) (post : List ℕ) → PlainCond with_params names n cplace.Disjunct c → Ends post → Here text tokens k (where_text names c ++ post) → WhereHere n k c post
  where_here n c k post plain ends h = where_by n c k post (where_printed n cplace.Disjunct c plain) plain ends h
