-- The tokens of a printed query spell it.
use Rattle.std.proofs.Common.{◌≡◌, ◌⊎◌, inl, inr, ℕ, ◌+◌, ◌<◌, List, ◌∷◌, ◌++◌, None, Bool, true, false, codes, refl, arith}
use Rattle.feature_expr.specs.Names.{refusal}
use Rattle.feature_expr.specs.declared.expr.Expr.{Expr}
use Rattle.word_tokens.specs.declared.token.Token.{Token}
use Rattle.vra_syntax.specs.declared.cond.Cond.{Cond}
use Rattle.vra_syntax.specs.declared.items.Items.{Items}
use Rattle.vra_syntax.specs.declared.query.Query.{Query}
use Rattle.vra_syntax.specs.declared.query.Query as query
use Rattle.query_parser.proofs.HereLaws.{Ends, name_here}
use Rattle.query_parser.proofs.HereParts.{Isnt, reads_as, mark, word, word_before, between, mark_before, choice_here}
use Rattle.query_parser.proofs.Heres.{Here}
use Rattle.query_parser.proofs.Printables.{PlainName, PlainExpr, PlainItems, PlainCond, PlainQuery, plain_table, plain_empty, free_select, bound_select, plain_join, free_union, bound_union, free_except, bound_except, plain_alias, plain_query_choice}
use Rattle.query_parser.proofs.PrintedConds.{EndsCondition, condition_here, where_ends, where_here}
use Rattle.query_parser.proofs.PrintedItems.{items_here}
use Rattle.query_parser.proofs.PrintedTexts.{select_with, chain_with, printed_table, printed_empty, printed_query_choice, printed_select, printed_select_bound, printed_join, printed_union, printed_union_bound, printed_except, printed_except_bound, printed_alias}
use Rattle.query_parser.specs.Lexemes.{lexeme_at}
use Rattle.query_printer.specs.Printing.{cond_text, where_text, items_text, takes_chain, takes_select, takes_join, takes_alias, query_at, query_text}
use Rattle.query_parser.specs.Queries.{QueryPart, QueryChain, WholeQuery, Term, Simple, SourceChain, SourceTerm, SpellsQuery, one_term, union_term, except_term, whole_query, select_term, simple_term, table, empty_query, query_in_brackets, choice_of_queries, one_source, joined_source, whole_source, plain_source, source_with_alias}
use Rattle.query_parser.specs.declared.lexeme.Lexeme.{Lexeme}
use Rattle.query_parser.specs.declared.lexeme.Lexeme.TheVariants as lexeme
use Rattle.feature_expr.specs.Nesting.{nesting_limit}
use Rattle.query_printer.specs.declared.print_cond.CondPlace.TheVariants as cplace
use Rattle.query_printer.specs.declared.print_query.QueryPlace.{QueryPlace}
use Rattle.query_printer.specs.declared.print_query.QueryPlace.TheVariants as qplace

-- no source goes on with this token, but for one that is joined
abbrev pub EndsSource : Lexeme → Type 0
EndsSource l = EndsCondition l × Isnt l lexeme.As

-- no select goes on with it
abbrev pub EndsTerm : Lexeme → Type 0
EndsTerm l = EndsSource l × Isnt l lexeme.Join × Isnt l lexeme.Where

-- no query goes on with it
abbrev pub EndsQuery : Lexeme → Type 0
EndsQuery l = EndsTerm l × Isnt l lexeme.Union × Isnt l lexeme.Except

-- the part that stands at a place
abbrev pub query_part : QueryPlace → ℕ → QueryPart
query_part qplace.Whole n = QueryChain n
query_part qplace.Term n = Term n
query_part qplace.Source n = SourceChain n
query_part qplace.Joined n = SourceTerm n
query_part qplace.Named n = Simple n

-- what may not go on with the token behind it
abbrev pub EndsQueryAt : QueryPlace → Lexeme → Type 0
EndsQueryAt qplace.Whole l = EndsTerm l
EndsQueryAt qplace.Term l = EndsTerm l
EndsQueryAt qplace.Source l = EndsSource l
EndsQueryAt qplace.Joined l = Isnt l lexeme.As
EndsQueryAt qplace.Named l = Unit {0}

-- the tokens behind which no query goes on
abbrev pub ends_query : Lexeme → Bool
ends_query lexeme.Close = true
ends_query lexeme.Comma = true
ends_query lexeme.Semicolon = true
ends_query lexeme.End = true
ends_query _ = false

pub query_ended : (l : Lexeme) → ends_query l ≡ true → EndsQuery l
query_ended lexeme.Close is = ((((((refl, refl), refl), refl), refl), refl, refl), refl, refl)
query_ended lexeme.Comma is = ((((((refl, refl), refl), refl), refl), refl, refl), refl, refl)
query_ended lexeme.Semicolon is = ((((((refl, refl), refl), refl), refl), refl, refl), refl, refl)
query_ended lexeme.End is = ((((((refl, refl), refl), refl), refl), refl, refl), refl, refl)
query_ended _ is = absurd (cc is)

module _ (with_params : Bool) (names : List (List ℕ)) (none : refusal names ≡ None) (text : List ℕ) (tokens : List Token) where
  -- a query that stands there, printed for a place
  pub record QueryHere (n : ℕ) (p : QueryPlace) (k : ℕ) (q : Query) (post : List ℕ) : Type 0 where
    pub end : ℕ
    pub spelled : EndsQueryAt p (lexeme_at text tokens end) → SpellsQuery with_params names text tokens (query_part p n) k q end
    pub here : Here text tokens end post

  abbrev pub WalksQuery : ℕ → QueryPlace → Query → Type 0
  WalksQuery n p q = (k : ℕ) (post : List ℕ) → Ends post → Here text tokens k (query_at names q p ++ post) → QueryHere n p k q post

  -- a simple query stands at each place
  lift : (p : QueryPlace) (n k : ℕ) (q : Query) (post : List ℕ) → QueryHere n qplace.Named k q post → QueryHere n p k q post
  lift qplace.Whole n k q post h = record { end = h.end; spelled = λ e. one_term n k q h.end (simple_term n k q h.end (h.spelled tt)); here = h.here }
  lift qplace.Term n k q post h = record { end = h.end; spelled = λ e. simple_term n k q h.end (h.spelled tt); here = h.here }
  lift qplace.Source n k q post h = record { end = h.end; spelled = λ e. one_source n k q h.end (plain_source n k q h.end (h.spelled tt) e.1); here = h.here }
  lift qplace.Joined n k q post h = record { end = h.end; spelled = λ e. plain_source n k q h.end (h.spelled tt) e; here = h.here }
  lift qplace.Named n k q post h = h

  -- a term alone is a chain
  first_term : (n k : ℕ) (q : Query) (post : List ℕ) → QueryHere n qplace.Term k q post → QueryHere n qplace.Whole k q post
  first_term n k q post h = record { end = h.end; spelled = λ e. one_term n k q h.end (h.spelled e); here = h.here }

  whole : (n k : ℕ) (q : Query) (post : List ℕ) (h : QueryHere n qplace.Whole k q post) → EndsQuery (lexeme_at text tokens h.end) → SpellsQuery with_params names text tokens (WholeQuery n) k q h.end
  whole n k q post h e = whole_query n k q h.end (h.spelled e.0) e.1 e.2

  walks_table : (n : ℕ) (p : QueryPlace) (name : List ℕ) → PlainName name → WalksQuery n p (query.Table name)
  walks_table n p name plain k post ends h =
      let m = name_here text tokens name k post plain ends.0 (reads_as text tokens k _ _ (printed_table names name p post) h) in
      lift p n k (query.Table name) post (record { end = k + 1; spelled = λ e. table n k name m.0; here = m.1 })

  walks_empty : (n : ℕ) (p : QueryPlace) → WalksQuery n p query.Empty
  walks_empty n p k post ends h =
      let m = word text tokens k (codes "empty") post refl ends.0 (reads_as text tokens k _ _ (printed_empty names p post) h) in
      lift p n k query.Empty post (record { end = k + 1; spelled = λ e. empty_query n k (rw m.0 refl); here = m.1 })

  bracketed : (n k : ℕ) (q : Query) (rest post : List ℕ) → n < nesting_limit → Here text tokens k (40 ∷ rest) → (Here text tokens (k + 1) rest → QueryHere (n + 1) qplace.Whole (k + 1) q (41 ∷ post)) → QueryHere n qplace.Named k q post
  bracketed n k q rest post below h walk =
      let o = mark text tokens k 40 rest refl h in
      let i = walk o.1 in
      let s = mark text tokens i.end 41 post refl i.here in
      record {
        end = i.end + 1;
        spelled = λ e. query_in_brackets n k q i.end (rw o.0 refl) below (whole (n + 1) (k + 1) q (41 ∷ post) i (rw s.0 (query_ended lexeme.Close refl))) (rw s.0 refl);
        here = s.1;
      }

  behind_source : (k end : ℕ) → (k ≡ end) ⊎ (lexeme_at text tokens k ≡ lexeme.Where) → EndsTerm (lexeme_at text tokens end) → EndsSource (lexeme_at text tokens k) × Isnt (lexeme_at text tokens k) lexeme.Join
  behind_source k end (inl same) e = rw same (e.0, e.1)
  behind_source k end (inr is) e = rw is (((((refl, refl), refl), refl), refl), refl)

  select_here : (n : ℕ) (kept : Items) (source : Query) (c : Cond) → PlainItems names n kept → WalksQuery n qplace.Source source → PlainCond with_params names n cplace.Disjunct c → (k : ℕ) (post : List ℕ) → Ends post → Here text tokens k (select_with names kept source c post) → QueryHere n qplace.Term k (query.Select kept source c) post
  select_here n kept source c plain f plain_c k post ends h =
      let rest = query_at names source qplace.Source ++ (where_text names c ++ post) in
      let w = word_before text tokens k (codes "select") (items_text names kept ++ (codes " from " ++ rest)) refl h in
      let i = items_here names none text tokens n kept (k + 1) (codes " from " ++ rest) plain refl w.1 in
      let from = between text tokens i.end (codes "from") rest refl i.here in
      let s = f (i.end + 1) (where_text names c ++ post) (where_ends with_params names none text tokens n c post plain_c ends) from.1 in
      let v = where_here with_params names none text tokens n c s.end post plain_c ends s.here in
      record {
        end = v.end;
        spelled = λ e. let b = behind_source s.end v.end v.begins e in
            select_term n k kept source c i.end s.end v.end (rw w.0 refl) (i.spelled from.0) (rw from.0 refl) (whole_source n (i.end + 1) source s.end (s.spelled b.0) b.1) (v.spelled (e.0.0, e.2));
        here = v.here;
      }

  walks_select : (p : QueryPlace) (n : ℕ) (kept : Items) (source : Query) (c : Cond) → takes_select p ≡ true → PlainItems names n kept → WalksQuery n qplace.Source source → PlainCond with_params names n cplace.Disjunct c → WalksQuery n p (query.Select kept source c)
  unfolding takes_select
  walks_select qplace.Whole n kept source c free plain f plain_c k post ends h =
      first_term n k (query.Select kept source c) post (select_here n kept source c plain f plain_c k post ends (reads_as text tokens k _ _ (printed_select names kept source c qplace.Whole post free) h))
  walks_select qplace.Term n kept source c free plain f plain_c k post ends h =
      select_here n kept source c plain f plain_c k post ends (reads_as text tokens k _ _ (printed_select names kept source c qplace.Term post free) h)
  walks_select qplace.Source n kept source c free plain f plain_c k post ends h = absurd (cc free)
  walks_select qplace.Joined n kept source c free plain f plain_c k post ends h = absurd (cc free)
  walks_select qplace.Named n kept source c free plain f plain_c k post ends h = absurd (cc free)

  walks_bound_select : (p : QueryPlace) (n : ℕ) (kept : Items) (source : Query) (c : Cond) → takes_select p ≡ false → n < nesting_limit → PlainItems names (n + 1) kept → WalksQuery (n + 1) qplace.Source source → PlainCond with_params names (n + 1) cplace.Disjunct c → WalksQuery n p (query.Select kept source c)
  walks_bound_select p n kept source c bound below plain f plain_c k post ends h =
      lift p n k (query.Select kept source c) post (bracketed n k (query.Select kept source c) (select_with names kept source c (41 ∷ post)) post below (reads_as text tokens k _ _ (printed_select_bound names kept source c p post bound) h)
      (λ i. first_term (n + 1) (k + 1) (query.Select kept source c) (41 ∷ post) (select_here (n + 1) kept source c plain f plain_c (k + 1) (41 ∷ post) (refl, refl) i)))

  -- chains of `union` and `except`
  union_here : (n : ℕ) (left right : Query) → WalksQuery n qplace.Whole left → WalksQuery n qplace.Term right → (k : ℕ) (post : List ℕ) → Ends post → Here text tokens k (chain_with names (codes "union") left right post) → QueryHere n qplace.Whole k (query.Union left right) post
  union_here n left right f g k post ends h =
      let rest = query_at names right qplace.Term ++ post in
      let l = f k (codes " union " ++ rest) (refl, refl) h in
      let w = between text tokens l.end (codes "union") rest refl l.here in
      let r = g (l.end + 1) post ends w.1 in
      record {
        end = r.end;
        spelled = λ e. union_term n k left right l.end r.end (l.spelled (rw w.0 (((((refl, refl), refl), refl), refl), refl, refl))) (rw w.0 refl) (r.spelled e);
        here = r.here;
      }

  except_here : (n : ℕ) (left right : Query) → WalksQuery n qplace.Whole left → WalksQuery n qplace.Term right → (k : ℕ) (post : List ℕ) → Ends post → Here text tokens k (chain_with names (codes "except") left right post) → QueryHere n qplace.Whole k (query.Except left right) post
  except_here n left right f g k post ends h =
      let rest = query_at names right qplace.Term ++ post in
      let l = f k (codes " except " ++ rest) (refl, refl) h in
      let w = between text tokens l.end (codes "except") rest refl l.here in
      let r = g (l.end + 1) post ends w.1 in
      record {
        end = r.end;
        spelled = λ e. except_term n k left right l.end r.end (l.spelled (rw w.0 (((((refl, refl), refl), refl), refl), refl, refl))) (rw w.0 refl) (r.spelled e);
        here = r.here;
      }

  -- only a whole query takes a chain without brackets
  at_whole : (p : QueryPlace) (n k : ℕ) (q : Query) (post : List ℕ) → takes_chain p ≡ true → QueryHere n qplace.Whole k q post → QueryHere n p k q post
  unfolding takes_chain
  at_whole qplace.Whole n k q post free h = h
  at_whole qplace.Term n k q post free h = absurd (cc free)
  at_whole qplace.Source n k q post free h = absurd (cc free)
  at_whole qplace.Joined n k q post free h = absurd (cc free)
  at_whole qplace.Named n k q post free h = absurd (cc free)

  walks_union : (p : QueryPlace) (n : ℕ) (left right : Query) → takes_chain p ≡ true → WalksQuery n qplace.Whole left → WalksQuery n qplace.Term right → WalksQuery n p (query.Union left right)
  walks_union p n left right free f g k post ends h =
      at_whole p n k (query.Union left right) post free (union_here n left right f g k post ends (reads_as text tokens k _ _ (printed_union names left right p post free) h))

  walks_bound_union : (p : QueryPlace) (n : ℕ) (left right : Query) → takes_chain p ≡ false → n < nesting_limit → WalksQuery (n + 1) qplace.Whole left → WalksQuery (n + 1) qplace.Term right → WalksQuery n p (query.Union left right)
  walks_bound_union p n left right bound below f g k post ends h =
      lift p n k (query.Union left right) post (bracketed n k (query.Union left right) (chain_with names (codes "union") left right (41 ∷ post)) post below (reads_as text tokens k _ _ (printed_union_bound names left right p post bound) h)
      (λ i. union_here (n + 1) left right f g (k + 1) (41 ∷ post) (refl, refl) i))

  walks_except : (p : QueryPlace) (n : ℕ) (left right : Query) → takes_chain p ≡ true → WalksQuery n qplace.Whole left → WalksQuery n qplace.Term right → WalksQuery n p (query.Except left right)
  walks_except p n left right free f g k post ends h =
      at_whole p n k (query.Except left right) post free (except_here n left right f g k post ends (reads_as text tokens k _ _ (printed_except names left right p post free) h))

  walks_bound_except : (p : QueryPlace) (n : ℕ) (left right : Query) → takes_chain p ≡ false → n < nesting_limit → WalksQuery (n + 1) qplace.Whole left → WalksQuery (n + 1) qplace.Term right → WalksQuery n p (query.Except left right)
  walks_bound_except p n left right bound below f g k post ends h =
      lift p n k (query.Except left right) post (bracketed n k (query.Except left right) (chain_with names (codes "except") left right (41 ∷ post)) post below (reads_as text tokens k _ _ (printed_except_bound names left right p post bound) h)
      (λ i. except_here (n + 1) left right f g (k + 1) (41 ∷ post) (refl, refl) i))

  -- chains of `join`
  join_here : (n : ℕ) (left right : Query) (c : Cond) → WalksQuery n qplace.Source left → WalksQuery n qplace.Joined right → PlainCond with_params names n cplace.Disjunct c → (k : ℕ) (post : List ℕ) → Ends post → Here text tokens k (query_at names left qplace.Source ++ (codes " join " ++ (query_at names right qplace.Joined ++ (codes " on " ++ (cond_text names c ++ post))))) → QueryHere n qplace.Source k (query.Join left right c) post
  join_here n left right c f g plain k post ends h =
      let tail = cond_text names c ++ post in
      let rest = query_at names right qplace.Joined ++ (codes " on " ++ tail) in
      let l = f k (codes " join " ++ rest) (refl, refl) h in
      let w = between text tokens l.end (codes "join") rest refl l.here in
      let r = g (l.end + 1) (codes " on " ++ tail) (refl, refl) w.1 in
      let on = between text tokens r.end (codes "on") tail refl r.here in
      let x = condition_here with_params names none text tokens n c (r.end + 1) post plain ends on.1 in
      record {
        end = x.end;
        spelled = λ e. joined_source n k left right c l.end r.end x.end (l.spelled (rw w.0 ((((refl, refl), refl), refl), refl))) (rw w.0 refl) (r.spelled (rw on.0 refl)) (rw on.0 refl) (x.spelled e.0);
        here = x.here;
      }

  walks_join : (p : QueryPlace) (n : ℕ) (left right : Query) (c : Cond) → takes_join p ≡ true → WalksQuery n qplace.Source left → WalksQuery n qplace.Joined right → PlainCond with_params names n cplace.Disjunct c → WalksQuery n p (query.Join left right c)
  unfolding takes_join
  walks_join qplace.Whole n left right c free f g plain k post ends h = absurd (cc free)
  walks_join qplace.Term n left right c free f g plain k post ends h = absurd (cc free)
  walks_join qplace.Source n left right c free f g plain k post ends h = join_here n left right c f g plain k post ends (reads_as text tokens k _ _ (printed_join names left right c qplace.Source post free) h)
  walks_join qplace.Joined n left right c free f g plain k post ends h = absurd (cc free)
  walks_join qplace.Named n left right c free f g plain k post ends h = absurd (cc free)

  alias_here : (n : ℕ) (source : Query) (name : List ℕ) → WalksQuery n qplace.Named source → PlainName name → (k : ℕ) (post : List ℕ) → Ends post → Here text tokens k (query_at names source qplace.Named ++ (codes " as " ++ (name ++ post))) → QueryHere n qplace.Joined k (query.Alias source name) post
  alias_here n source name f plain k post ends h =
      let s = f k (codes " as " ++ (name ++ post)) (refl, refl) h in
      let w = between text tokens s.end (codes "as") (name ++ post) refl s.here in
      let m = name_here text tokens name (s.end + 1) post plain ends.0 w.1 in
      let two : s.end + 1 + 1 ≡ s.end + 2 = omega arith in
      record {
        end = s.end + 2;
        spelled = λ e. source_with_alias n k source name s.end (s.spelled tt) (rw w.0 refl) m.0;
        here = rw two at m.1;
      }

  walks_alias : (p : QueryPlace) (n : ℕ) (source : Query) (name : List ℕ) → takes_alias p ≡ true → WalksQuery n qplace.Named source → PlainName name → WalksQuery n p (query.Alias source name)
  unfolding takes_alias
  walks_alias qplace.Whole n source name free f plain k post ends h = absurd (cc free)
  walks_alias qplace.Term n source name free f plain k post ends h = absurd (cc free)
  walks_alias qplace.Source n source name free f plain k post ends h =
      let a = alias_here n source name f plain k post ends (reads_as text tokens k _ _ (printed_alias names source name qplace.Source post free) h) in
      record { end = a.end; spelled = λ e. one_source n k (query.Alias source name) a.end (a.spelled e.1); here = a.here }
  walks_alias qplace.Joined n source name free f plain k post ends h = alias_here n source name f plain k post ends (reads_as text tokens k _ _ (printed_alias names source name qplace.Joined post free) h)
  walks_alias qplace.Named n source name free f plain k post ends h = absurd (cc free)

  walks_choice : (p : QueryPlace) (n : ℕ) (expr : Expr) (left right : Query) → n + 1 < nesting_limit → PlainExpr names (n + 1) expr → WalksQuery (n + 2) qplace.Whole left → WalksQuery (n + 2) qplace.Whole right → WalksQuery n p (query.Choice expr left right)
  walks_choice p n expr left right within plain f g k post ends h =
      let a = query_at names left qplace.Whole in
      let b = query_at names right qplace.Whole in
      let c = choice_here text tokens names none n expr k (a ++ (44 ∷ 32 ∷ (b ++ (41 ∷ post)))) within plain (reads_as text tokens k _ _ (printed_query_choice names expr left right p post) h) in
      let l = f c.sides (44 ∷ 32 ∷ (b ++ (41 ∷ post))) (refl, refl) c.here in
      let m = mark_before text tokens l.end 44 (b ++ (41 ∷ post)) refl l.here in
      let r = g (l.end + 1) (41 ∷ post) (refl, refl) m.1 in
      let s = mark text tokens r.end 41 post refl r.here in
      lift p n k (query.Choice expr left right) post (record {
        end = r.end + 1;
        spelled = λ e. choice_of_queries n k expr c.sides left right l.end r.end c.is
            (whole (n + 2) c.sides left (44 ∷ 32 ∷ (b ++ (41 ∷ post))) l (rw m.0 (query_ended lexeme.Comma refl))) (rw m.0 refl)
            (whole (n + 2) (l.end + 1) right (41 ∷ post) r (rw s.0 (query_ended lexeme.Close refl))) (rw s.0 refl);
        here = s.1;
      })

  -- the text of a query at a place is the part that stands there
  pub walks_query : (n : ℕ) (p : QueryPlace) (q : Query) → PlainQuery with_params names n p q → WalksQuery n p q
  walks_query n p q (plain_table m at name plain) = walks_table n p name plain
  walks_query n p q (plain_empty m at) = walks_empty n p
  walks_query n p q (free_select m at kept source c free plain s plain_c) = walks_select p n kept source c free plain (walks_query n qplace.Source source s) plain_c
  walks_query n p q (bound_select m at kept source c bound below plain s plain_c) = walks_bound_select p n kept source c bound below plain (walks_query (n + 1) qplace.Source source s) plain_c
  walks_query n p q (plain_join m at left right c free l r plain_c) = walks_join p n left right c free (walks_query n qplace.Source left l) (walks_query n qplace.Joined right r) plain_c
  walks_query n p q (free_union m at left right free l r) = walks_union p n left right free (walks_query n qplace.Whole left l) (walks_query n qplace.Term right r)
  walks_query n p q (bound_union m at left right bound below l r) = walks_bound_union p n left right bound below (walks_query (n + 1) qplace.Whole left l) (walks_query (n + 1) qplace.Term right r)
  walks_query n p q (free_except m at left right free l r) = walks_except p n left right free (walks_query n qplace.Whole left l) (walks_query n qplace.Term right r)
  walks_query n p q (bound_except m at left right bound below l r) = walks_bound_except p n left right bound below (walks_query (n + 1) qplace.Whole left l) (walks_query (n + 1) qplace.Term right r)
  walks_query n p q (plain_alias m at source name free s plain) = walks_alias p n source name free (walks_query n qplace.Named source s) plain
  walks_query n p q (plain_query_choice m at expr left right within plain l r) = walks_choice p n expr left right within plain (walks_query (n + 2) qplace.Whole left l) (walks_query (n + 2) qplace.Whole right r)

  -- a query that stands there alone
  pub record WholeQueryHere (n k : ℕ) (q : Query) (post : List ℕ) : Type 0 where
    pub end : ℕ
    pub spelled : (l : Lexeme) → lexeme_at text tokens end ≡ l → ends_query l ≡ true → SpellsQuery with_params names text tokens (WholeQuery n) k q end
    pub here : Here text tokens end post

  pub query_here : (n : ℕ) (q : Query) (k : ℕ) (post : List ℕ) → PlainQuery with_params names n qplace.Whole q → Ends post → Here text tokens k (query_text names q ++ post) → WholeQueryHere n k q post
  query_here n q k post plain ends h =
      let w = walks_query n qplace.Whole q plain k post ends h in
      record { end = w.end; spelled = λ l is ending. whole n k q post w (rw is (query_ended l ending)); here = w.here }
