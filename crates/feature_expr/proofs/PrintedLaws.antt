-- A printed text is the expression that was printed.
use Rattle.std.proofs.Common.{◌≡◌, ℕ, ◌+◌, ◌-◌, ◌<◌, ◌≤◌, ◌==◌, max, ◌||◌, Bool, true, false, IsTrue, List, [], ◌∷◌, ◌++◌, drop, get_or, Some, None, length, refl, sym, subst, ap, ◌∙◌, append_assoc, arith}
use Rattle.std.specs.Prelude.{codes}
use Rattle.std.proofs.lemmas.Bool.Decides.{nat_tests}
use Rattle.std.proofs.lemmas.Option.{slice_get-get_or, slice_get_past}
use Rattle.std.proofs.lemmas.List.{append-nil, length-append, length-drop}
use Rattle.std.proofs.Math.Seq.{drop-length}
use Rattle.feature_expr.specs.declared.expr.Expr.{Expr, roll-Expr, map-Expr}
use Rattle.feature_expr.specs.declared.expr.Expr.TheFolds.{fold-roll-Expr, ind-Expr}
use Rattle.feature_expr.specs.declared.expr.Expr.TheVariants.{rolls-True, rolls-False, rolls-Feature, rolls-Not, rolls-And, rolls-Or}
use Rattle.feature_expr.specs.declared.expr.Expr.TheOpen.{Expr-F}
use Rattle.feature_expr.specs.declared.expr.Expr as e
use Rattle.feature_expr.specs.declared.parse.Sign.TheVariants as sign
use Rattle.feature_expr.specs.declared.print.Position.{Position}
use Rattle.feature_expr.specs.declared.print.Position.TheVariants as position
use Rattle.word_tokens.specs.declared.token.Token.{Token}
use Rattle.word_tokens.specs.declared.token.TokenKind.TheVariants as kind
use Rattle.word_tokens.specs.Words.{is_word_of}
use Rattle.feature_expr.specs.Names.{refusal}
use Rattle.word_tokens.specs.Tokens.{StandAt, AreTokens, blank_end}
use Rattle.feature_expr.specs.ExprTexts.{IsText}
use Rattle.feature_expr.specs.Expressions.{mentions_step, mentions}
use Rattle.feature_expr.specs.Printing.{takes_and, takes_or, text_step, text_at, bracket_count, nesting_step, nesting_at, text_nesting, text_of, HasNames}
use Rattle.feature_expr.specs.ExprGrammar.{Part, Disjunction, Conjunction, Negation, sign_at, feature_at}
use Rattle.feature_expr.proofs.NameLaws.{feature_name, name_sign, named_word}
use Rattle.feature_expr.proofs.PrintLaws.{text_at-True, text_at-False, text_at-Feature, text_at-And, text_at-Or}
use Rattle.word_tokens.proofs.StandLaws.{EndsWord, TokenIs, Stands, drop_past, word_stands, open_stands, close_stands, space_stands}
use Rattle.feature_expr.proofs.SignLaws.{sign_is}
use Rattle.feature_expr.proofs.WrittenLaws.{IsWritten, written_true, written_false, written_feature, written_not, written_brackets, written_read, written_first_and, written_first_or, written_and, written_or}
use Rattle.feature_expr.proofs.TextLaws.{whole}

-- the part that stands at a position
abbrev pub part_at : Position → ℕ → Part
part_at position.Operand n = Negation n
part_at position.Conjunct n = Conjunction n
part_at position.Disjunct n = Disjunction n

pub nesting_And : (left right : Expr) (p : Position) → nesting_at (e.And left right) p ≡ bracket_count (takes_and p) + max (nesting_at left position.Conjunct) (nesting_at right position.Operand)
nesting_And left right p = ap (λ (x : Expr). nesting_at x p) (sym (rolls-And left right)) ∙ ap (λ (f : Position → ℕ). f p) (fold-roll-Expr (Position → ℕ) nesting_step (Expr-F.And left right))

pub nesting_Or : (left right : Expr) (p : Position) → nesting_at (e.Or left right) p ≡ bracket_count (takes_or p) + max (nesting_at left position.Disjunct) (nesting_at right position.Conjunct)
nesting_Or left right p = ap (λ (x : Expr). nesting_at x p) (sym (rolls-Or left right)) ∙ ap (λ (f : Position → ℕ). f p) (fold-roll-Expr (Position → ℕ) nesting_step (Expr-F.Or left right))

pub nesting_Not : (inner : Expr) (p : Position) → nesting_at (e.Not inner) p ≡ 1 + nesting_at inner position.Operand
nesting_Not inner p = ap (λ (x : Expr). nesting_at x p) (sym (rolls-Not inner)) ∙ ap (λ (f : Position → ℕ). f p) (fold-roll-Expr (Position → ℕ) nesting_step (Expr-F.Not inner))

text_Not : (names : List (List ℕ)) (inner : Expr) (p : Position) → text_at names (e.Not inner) p ≡ codes "not " ++ text_at names inner position.Operand
text_Not names inner p = ap (λ (x : Expr). text_at names x p) (sym (rolls-Not inner)) ∙ ap (λ (f : Position → List ℕ). f p) (fold-roll-Expr (Position → List ℕ) (text_step names) (Expr-F.Not inner))

pub mentions_And : (i : ℕ) (left right : Expr) → mentions i (e.And left right) ≡ (mentions i left || mentions i right)
mentions_And i left right = ap (mentions i) (sym (rolls-And left right)) ∙ fold-roll-Expr Bool (mentions_step i) (Expr-F.And left right)

pub mentions_Or : (i : ℕ) (left right : Expr) → mentions i (e.Or left right) ≡ (mentions i left || mentions i right)
mentions_Or i left right = ap (mentions i) (sym (rolls-Or left right)) ∙ fold-roll-Expr Bool (mentions_step i) (Expr-F.Or left right)

pub mentions_Not : (i : ℕ) (inner : Expr) → mentions i (e.Not inner) ≡ mentions i inner
mentions_Not i inner = ap (mentions i) (sym (rolls-Not inner)) ∙ fold-roll-Expr Bool (mentions_step i) (Expr-F.Not inner)

same_number : (i : ℕ) → (i == i) ≡ true
same_number i = grind (arith, nat_tests)

mentions_Feature : (i : ℕ) → mentions i (e.Feature i) ≡ true
mentions_Feature i = ap (mentions i) (sym (rolls-Feature i)) ∙ fold-roll-Expr Bool (mentions_step i) (Expr-F.Feature i) ∙ same_number i

left_of : (a b : Bool) → IsTrue a → IsTrue (a || b)
left_of a b h = rw h refl

right_of : (a b : Bool) → IsTrue b → IsTrue (a || b)
right_of true b h = refl
right_of false b h = h

module _ (names : List (List ℕ)) (text : List ℕ) (tokens : List Token) (limit : ℕ) where
  -- a part that is written from a token on and ends at a place of the text
  pub record Walked (part : Part) (k : ℕ) (expr : Expr) (b : ℕ) : Type 0 where
    pub end : ℕ
    pub written : IsWritten names text tokens limit part k expr end
    pub stands : Stands text tokens end b

  -- the words `and` and `or` with their spaces
  between : (k b : ℕ) (word post : List ℕ) → drop b text ≡ 32 ∷ (word ++ 32 ∷ post) → is_word_of word ≡ true → Stands text tokens k b → TokenIs text tokens k kind.Word word × Stands text tokens (k + 1) (b + 1 + length word + 1) × (drop (b + 1 + length word + 1) text ≡ post)
  between k b word post is good s =
      let is' = drop_past text b (32 ∷ []) (word ++ 32 ∷ post) is in
      let w = word_stands text tokens k (b + 1) word (32 ∷ post) is' good refl (space_stands text tokens k b (word ++ 32 ∷ post) is s) in
      let next = drop_past text (b + 1) word (32 ∷ post) is' in
      (w.0, space_stands text tokens (k + 1) (b + 1 + length word) post next w.1, drop_past text (b + 1 + length word) (32 ∷ []) post next)

  lift : (p : Position) (n k : ℕ) (expr : Expr) (b : ℕ) → Walked (Negation n) k expr b → Walked (part_at p n) k expr b
  lift position.Operand n k expr b w = w
  lift position.Conjunct n k expr b w = record { end = w.end; written = written_first_and names text tokens limit n k w.end expr w.written; stands = w.stands }
  lift position.Disjunct n k expr b w = record {
    end = w.end;
    written = written_first_or names text tokens limit n k w.end expr (written_first_and names text tokens limit n k w.end expr w.written);
    stands = w.stands;
  }

  bracketed : (n k b : ℕ) (inner post : List ℕ) (expr : Expr) → n < limit → drop b text ≡ 40 ∷ (inner ++ 41 ∷ post) → Stands text tokens k b → ((c : ℕ) → drop c text ≡ inner ++ 41 ∷ post → Stands text tokens (k + 1) c → Walked (Disjunction (n + 1)) (k + 1) expr (c + length inner)) → Walked (Negation n) k expr (b + 1 + length inner + 1)
  bracketed n k b inner post expr below is s walk =
      let is' = drop_past text b (40 ∷ []) (inner ++ 41 ∷ post) is in
      let o = open_stands text tokens k b (inner ++ 41 ∷ post) is s in
      let w = walk (b + 1) is' o.1 in
      let c = close_stands text tokens w.end (b + 1 + length inner) post (drop_past text (b + 1) inner (41 ∷ post) is') w.stands in
      record {
        end = w.end + 1;
        written = written_brackets names text tokens limit n k w.end expr below (sign_is text tokens k kind.Sign (40 ∷ []) o.0) w.written (sign_is text tokens w.end kind.Sign (41 ∷ []) c.0);
        stands = c.1;
      }

  -- the text of an expression at a position is the part that stands there
  abbrev pub Walks : Expr → Type 0
  Walks expr = (p : Position) (n k b : ℕ) (post : List ℕ) → HasNames names expr → n + nesting_at expr p ≤ limit → drop b text ≡ text_at names expr p ++ post → EndsWord post → Stands text tokens k b → Walked (part_at p n) k expr (b + length (text_at names expr p))

  walks_True : Walks e.True
  walks_True p n k b post named nests is ends s =
      let w = word_stands text tokens k b (codes "true") post (rw (text_at-True names p) at is) refl ends s in
      rw (text_at-True names p) (lift p n k e.True (b + 4) (record { end = k + 1; written = written_true names text tokens limit n k (sign_is text tokens k kind.Word (codes "true") w.0); stands = w.1 }))

  walks_False : Walks e.False
  walks_False p n k b post named nests is ends s =
      let w = word_stands text tokens k b (codes "false") post (rw (text_at-False names p) at is) refl ends s in
      rw (text_at-False names p) (lift p n k e.False (b + 5) (record { end = k + 1; written = written_false names text tokens limit n k (sign_is text tokens k kind.Word (codes "false") w.0); stands = w.1 }))

  walks_Not : (inner : Expr) → Walks inner → Walks (e.Not inner)
  walks_Not inner f p n k b post named nests is ends s =
      let tail = text_at names inner position.Operand in
      let deep = rw (nesting_Not inner p) at nests in
      let is' : drop b text ≡ codes "not" ++ 32 ∷ (tail ++ post) = rw (text_Not names inner p) at is in
      let w = word_stands text tokens k b (codes "not") (32 ∷ (tail ++ post)) is' refl refl s in
      let next = drop_past text b (codes "not") (32 ∷ (tail ++ post)) is' in
      let g = f position.Operand (n + 1) (k + 1) (b + 3 + 1) post (λ i m. named i (rw (mentions_Not i inner) m)) (omega (arith, deep)) (drop_past text (b + 3) (32 ∷ []) (tail ++ post) next) ends (space_stands text tokens (k + 1) (b + 3) (tail ++ post) next w.1) in
      let size : b + 3 + 1 + length tail ≡ b + length (text_at names (e.Not inner) p) = rw (text_Not names inner p) (omega arith) in
      lift p n k (e.Not inner) (b + length (text_at names (e.Not inner) p)) (record {
        end = g.end;
        written = written_not names text tokens limit n k g.end inner (omega (arith, deep)) (sign_is text tokens k kind.Word (codes "not") w.0) g.written;
        stands = rw size at g.stands;
      })

  walks_Feature : refusal names ≡ None → (i : ℕ) → Walks (e.Feature i)
  walks_Feature none i p n k b post named nests is ends s =
      let name = get_or names i [] in
      let found = slice_get-get_or names i [] (named i (rw (mentions_Feature i) refl)) in
      let good = feature_name names i name none found in
      let writes : text_at names (e.Feature i) p ≡ name = text_at-Feature names i p ∙ rw found refl in
      let w = word_stands text tokens k b name post (rw writes at is) (named_word name good.0).0 ends s in
      let known : feature_at names text tokens k ≡ Some i = rw (w.0.found, w.0.spells) good.1 in
      rw writes (lift p n k (e.Feature i) (b + length name) (record { end = k + 1; written = written_feature names text tokens limit n k i (sign_is text tokens k kind.Word name w.0 ∙ name_sign name good.0) known; stands = w.1 }))

  chain_and : (left right : Expr) → Walks left → Walks right → (n k b : ℕ) (post : List ℕ) → HasNames names (e.And left right) → n + max (nesting_at left position.Conjunct) (nesting_at right position.Operand) ≤ limit → drop b text ≡ text_at names left position.Conjunct ++ (codes " and " ++ (text_at names right position.Operand ++ post)) → EndsWord post → Stands text tokens k b → Walked (Conjunction n) k (e.And left right) (b + length (text_at names left position.Conjunct ++ (codes " and " ++ text_at names right position.Operand)))
  chain_and left right f g n k b post named nests is ends s =
      let first = text_at names left position.Conjunct in
      let second = text_at names right position.Operand in
      let l = f position.Conjunct n k b (codes " and " ++ (second ++ post)) (λ i m. named i (rw (mentions_And i left right) (left_of (mentions i left) (mentions i right) m))) (omega (arith, nests)) is refl s in
      let next = drop_past text b first (codes " and " ++ (second ++ post)) is in
      let w = between l.end (b + length first) (codes "and") (second ++ post) next refl l.stands in
      let r = g position.Operand n (l.end + 1) (b + length first + 1 + 3 + 1) post (λ i m. named i (rw (mentions_And i left right) (right_of (mentions i left) (mentions i right) m))) (omega (arith, nests)) w.2 ends w.1 in
      let size : b + length first + 1 + 3 + 1 + length second ≡ b + length (first ++ (codes " and " ++ second)) = rw length-append (omega arith) in
      record {
        end = r.end;
        written = written_and names text tokens limit n k l.end r.end left right l.written (sign_is text tokens l.end kind.Word (codes "and") w.0) r.written;
        stands = rw size at r.stands;
      }

  chain_or : (left right : Expr) → Walks left → Walks right → (n k b : ℕ) (post : List ℕ) → HasNames names (e.Or left right) → n + max (nesting_at left position.Disjunct) (nesting_at right position.Conjunct) ≤ limit → drop b text ≡ text_at names left position.Disjunct ++ (codes " or " ++ (text_at names right position.Conjunct ++ post)) → EndsWord post → Stands text tokens k b → Walked (Disjunction n) k (e.Or left right) (b + length (text_at names left position.Disjunct ++ (codes " or " ++ text_at names right position.Conjunct)))
  chain_or left right f g n k b post named nests is ends s =
      let first = text_at names left position.Disjunct in
      let second = text_at names right position.Conjunct in
      let l = f position.Disjunct n k b (codes " or " ++ (second ++ post)) (λ i m. named i (rw (mentions_Or i left right) (left_of (mentions i left) (mentions i right) m))) (omega (arith, nests)) is refl s in
      let next = drop_past text b first (codes " or " ++ (second ++ post)) is in
      let w = between l.end (b + length first) (codes "or") (second ++ post) next refl l.stands in
      let r = g position.Conjunct n (l.end + 1) (b + length first + 1 + 2 + 1) post (λ i m. named i (rw (mentions_Or i left right) (right_of (mentions i left) (mentions i right) m))) (omega (arith, nests)) w.2 ends w.1 in
      let size : b + length first + 1 + 2 + 1 + length second ≡ b + length (first ++ (codes " or " ++ second)) = rw length-append (omega arith) in
      record {
        end = r.end;
        written = written_or names text tokens limit n k l.end r.end left right l.written (sign_is text tokens l.end kind.Word (codes "or") w.0) r.written;
        stands = rw size at r.stands;
      }

  -- the same chains with what stands round them
  plain_text : (t a b c : List ℕ) → t ≡ [] ++ a ++ b ++ c ++ [] → t ≡ a ++ (b ++ c)
  plain_text t a b c is = rw is (simp (append_assoc, append-nil) refl)

  inner_text : (t a b c : List ℕ) → t ≡ 40 ∷ [] ++ a ++ b ++ c ++ 41 ∷ [] → t ≡ 40 ∷ ((a ++ (b ++ c)) ++ 41 ∷ [])
  inner_text t a b c is = rw is (simp append_assoc refl)

  behind_chain : (t a b c post : List ℕ) → t ≡ (a ++ (b ++ c)) ++ post → t ≡ a ++ (b ++ (c ++ post))
  behind_chain t a b c post is = rw is (simp append_assoc refl)

  behind_bracket : (t whole inner post : List ℕ) → t ≡ 40 ∷ (inner ++ 41 ∷ []) → whole ≡ t ++ post → whole ≡ 40 ∷ (inner ++ 41 ∷ post)
  behind_bracket t whole inner post is h = rw (h, is) (simp append_assoc refl)

  bracket_size : (b : ℕ) (t inner : List ℕ) → t ≡ 40 ∷ (inner ++ 41 ∷ []) → b + 1 + length inner + 1 ≡ b + length t
  bracket_size b t inner is = rw (is, length-append) (omega arith)

  first_or : (n k : ℕ) (expr : Expr) (b : ℕ) → Walked (Conjunction n) k expr b → Walked (Disjunction n) k expr b
  first_or n k expr b w = record { end = w.end; written = written_first_or names text tokens limit n k w.end expr w.written; stands = w.stands }

  plain_and : (left right : Expr) → Walks left → Walks right → (p : Position) (n k b : ℕ) (post : List ℕ) → takes_and p ≡ true → HasNames names (e.And left right) → n + nesting_at (e.And left right) p ≤ limit → drop b text ≡ text_at names (e.And left right) p ++ post → EndsWord post → Stands text tokens k b → Walked (Conjunction n) k (e.And left right) (b + length (text_at names (e.And left right) p))
  plain_and left right f g p n k b post plain named nests is ends s =
      let a = text_at names left position.Conjunct in
      let c = text_at names right position.Operand in
      let text_is = plain_text (text_at names (e.And left right) p) a (codes " and ") c (rw plain at (text_at-And names left right p)) in
      rw text_is (chain_and left right f g n k b post named (omega (arith, rw (nesting_And left right p, plain) at nests)) (behind_chain (drop b text) a (codes " and ") c post (rw text_is at is)) ends s)

  walks_And : (left right : Expr) → Walks left → Walks right → Walks (e.And left right)
  walks_And left right f g position.Conjunct n k b post named nests is ends s = plain_and left right f g position.Conjunct n k b post refl named nests is ends s
  walks_And left right f g position.Disjunct n k b post named nests is ends s =
      first_or n k (e.And left right) _ (plain_and left right f g position.Disjunct n k b post refl named nests is ends s)
  walks_And left right f g position.Operand n k b post named nests is ends s =
      let t = text_at names (e.And left right) position.Operand in
      let a = text_at names left position.Conjunct in
      let c = text_at names right position.Operand in
      let text_is = inner_text t a (codes " and ") c (text_at-And names left right position.Operand) in
      let deep = rw (nesting_And left right position.Operand) at nests in
      let w = bracketed n k b (a ++ (codes " and " ++ c)) post (e.And left right) (omega (arith, deep)) (behind_bracket t (drop b text) (a ++ (codes " and " ++ c)) post text_is is) s (λ d at s'. first_or (n + 1) (k + 1) (e.And left right) _ (chain_and left right f g (n + 1) (k + 1) d (41 ∷ post) named (omega (arith, deep)) (behind_chain (drop d text) a (codes " and ") c (41 ∷ post) at) refl s')) in
      rw (bracket_size b t (a ++ (codes " and " ++ c)) text_is) at w

  -- a chain of `or` in brackets
  inner_or : (left right : Expr) → Walks left → Walks right → (p : Position) (n k b : ℕ) (post : List ℕ) → takes_or p ≡ false → HasNames names (e.Or left right) → n + nesting_at (e.Or left right) p ≤ limit → drop b text ≡ text_at names (e.Or left right) p ++ post → Stands text tokens k b → Walked (Negation n) k (e.Or left right) (b + length (text_at names (e.Or left right) p))
  inner_or left right f g p n k b post bound named nests is s =
      let t = text_at names (e.Or left right) p in
      let a = text_at names left position.Disjunct in
      let c = text_at names right position.Conjunct in
      let text_is = inner_text t a (codes " or ") c (rw bound at (text_at-Or names left right p)) in
      let deep = rw (nesting_Or left right p, bound) at nests in
      let w = bracketed n k b (a ++ (codes " or " ++ c)) post (e.Or left right) (omega (arith, deep)) (behind_bracket t (drop b text) (a ++ (codes " or " ++ c)) post text_is is) s (λ d at s'. chain_or left right f g (n + 1) (k + 1) d (41 ∷ post) named (omega (arith, deep)) (behind_chain (drop d text) a (codes " or ") c (41 ∷ post) at) refl s') in
      rw (bracket_size b t (a ++ (codes " or " ++ c)) text_is) at w

  walks_Or : (left right : Expr) → Walks left → Walks right → Walks (e.Or left right)
  walks_Or left right f g position.Operand n k b post named nests is ends s = inner_or left right f g position.Operand n k b post refl named nests is s
  walks_Or left right f g position.Conjunct n k b post named nests is ends s =
      lift position.Conjunct n k (e.Or left right) _ (inner_or left right f g position.Conjunct n k b post refl named nests is s)
  walks_Or left right f g position.Disjunct n k b post named nests is ends s =
      let a = text_at names left position.Disjunct in
      let c = text_at names right position.Conjunct in
      let text_is = plain_text (text_at names (e.Or left right) position.Disjunct) a (codes " or ") c (text_at-Or names left right position.Disjunct) in
      rw text_is (chain_or left right f g n k b post named (omega (arith, rw (nesting_Or left right position.Disjunct) at nests)) (behind_chain (drop b text) a (codes " or ") c post (rw text_is at is)) ends s)

  walks_at : refusal names ≡ None → (y : Expr-F ((x : Expr) × Walks x)) → Walks (roll-Expr (map-Expr ((x : Expr) × Walks x) Expr (λ x. x.0) y))
  walks_at none Expr-F.True = subst Walks (sym rolls-True) walks_True
  walks_at none Expr-F.False = subst Walks (sym rolls-False) walks_False
  walks_at none (Expr-F.Feature i) = subst Walks (sym (rolls-Feature i)) (walks_Feature none i)
  walks_at none (Expr-F.Not inner) = subst Walks (sym (rolls-Not inner.0)) (walks_Not inner.0 inner.1)
  walks_at none (Expr-F.And left right) = subst Walks (sym (rolls-And left.0 right.0)) (walks_And left.0 right.0 left.1 right.1)
  walks_at none (Expr-F.Or left right) = subst Walks (sym (rolls-Or left.0 right.0)) (walks_Or left.0 right.0 left.1 right.1)

  pub walks : refusal names ≡ None → (expr : Expr) → Walks expr
  walks none = ind-Expr Walks (λ x y is. subst (λ z. Walks (roll-Expr z)) is (walks_at none y))

  -- the text of an expression alone is the part that stands there
  pub walks_text : refusal names ≡ None → (expr : Expr) (n k b : ℕ) (post : List ℕ) → HasNames names expr → n + text_nesting expr ≤ limit → drop b text ≡ text_of names expr ++ post → EndsWord post → Stands text tokens k b → Walked (Disjunction n) k expr (b + length (text_of names expr))
  walks_text none expr = walks none expr position.Disjunct

  pub none_left : (at : ℕ) (ts : List Token) → at ≡ length text → StandAt text at ts → ts ≡ []
  none_left at [] is stand = refl
  none_left at (t ∷ ts) is stand = absurd (omega (arith, is, stand.0))

  pub blank_last : blank_end text (length text) ≡ length text
  unfolding blank_end
  blank_last = rw drop-length (omega arith)

  last_sign : (at : ℕ) → at ≤ length tokens → drop at tokens ≡ [] → sign_at text tokens at ≡ sign.End
  unfolding sign_at
  last_sign at within none =
      let size : length tokens - at ≡ 0 = sym (length-drop at tokens) ∙ rw none refl in
      let here : at ≡ length tokens = omega (arith, size, within) in
      rw (slice_get_past tokens at (omega (arith, here)), here, same_number (length tokens)) refl

  -- a printed text is the expression, within the nesting of its text
  pub printed_text : (expr : Expr) → refusal names ≡ None → HasNames names expr → text_nesting expr ≤ limit → text ≡ text_of names expr → AreTokens text tokens → IsText names text limit expr
  printed_text expr none named nests is are =
      let w = walks none expr position.Disjunct 0 0 0 [] named (omega (arith, nests)) (rw append-nil is) refl (record { within = omega arith; stand = are.stand }) in
      let size : 0 + length (text_at names expr position.Disjunct) ≡ length text = rw is (omega arith) in
      let rest = none_left (blank_end text (length text)) (drop w.end tokens) blank_last (rw size at w.stands.stand) in
      let ends = last_sign w.end w.stands.within rest in
      record {
        tokens = tokens;
        are_tokens = are;
        end = w.end;
        ends = ends;
        viable = whole names text tokens limit w.end (written_read names text tokens limit 0 0 w.end expr w.written (λ h. cc (ends, h)) (λ h. cc (ends, h))) ends;
        spelled = w.written.spelled;
      }
