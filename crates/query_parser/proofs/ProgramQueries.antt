-- What queries spell is what their programs come to, and so is each fault.
use Rattle.std.proofs.Common.{◌≡◌, ◌≢◌, ℕ, ◌+◌, Bool, true, false, List, Option, Some, None, Err, refl}
use Rattle.word_tokens.specs.declared.token.Token.{Token}
use Rattle.vra_syntax.specs.declared.query.Query.{Query}
use Rattle.query_parser.specs.Conditions.{Condition}
use Rattle.query_parser.specs.Faults.{QueryFault, query_memory, in_first_term, in_union_term, in_except_term, in_items, no_from, in_source, in_select_where, in_simple_term, no_simple_query, query_too_deep, in_query_brackets, query_unclosed, in_query_choice, in_left_query, no_right_query, in_right_query, query_sides_unclosed, in_first_source, in_joined_source, no_on, in_on, in_source_term, no_alias}
use Rattle.query_parser.specs.Lexemes.{lexeme_at, stands, name_at}
use Rattle.query_parser.specs.Queries.{QueryPart, QueryChain, WholeQuery, Term, Simple, SourceChain, WholeSource, SourceTerm, SpellsQuery, one_term, union_term, except_term, whole_query, select_term, simple_term, table, empty_query, query_in_brackets, choice_of_queries, one_source, joined_source, whole_source, plain_source, source_with_alias}
use Rattle.query_parser.specs.StatementGrammar.{takes}
use Rattle.query_parser.specs.declared.fault.ParseFault.{ParseFault}
use Rattle.query_parser.specs.declared.fault.ParseFault.TheVariants as fault
use Rattle.query_parser.specs.declared.lexeme.Lexeme.TheVariants as lexeme
use Rattle.query_parser.proofs.Programs.{AQuery, MoreTerms, ATerm, ASimple, ASource, MoreJoins, ASourceTerm, Program, Ask, ends, asks}
use Rattle.query_parser.proofs.ProgramParts.{below, above, Answer, R, other_sign, reads_choice, choice_begins, fails_choice, reads_items, fails_items, reads_cond, fails_cond, reads_where, fails_where}
use Rattle.query_parser.proofs.SignLaws.{name_takes}
use Rattle.query_parser.proofs.Walks.{apart, not_both}

module _ (with_params : Bool) (names : List (List ℕ)) (text : List ℕ) (tokens : List Token) where
  -- a sign that is no name
  none_named : (sign at : ℕ) (found : Option (List ℕ)) → name_at text tokens at ≡ found → apart sign 100 ≡ true → takes sign (lexeme_at text tokens at) ≡ true → found ≡ None
  none_named sign at None named far is = refl
  none_named sign at (Some name) named far is = absurd (not_both sign 100 (lexeme_at text tokens at) far is (name_takes text tokens at name named))

  nameless : (sign at : ℕ) → apart sign 100 ≡ true → takes sign (lexeme_at text tokens at) ≡ true → name_at text tokens at ≡ None
  nameless sign at far is = none_named sign at (name_at text tokens at) refl far is

  -- what goes on behind a part goes on from its beginning
  abbrev pub ReadsQuery : QueryPart → ℕ → Query → ℕ → Type 0
  ReadsQuery (QueryChain n) at q end = (k : Query → ℕ → Program) (a : Answer with_params names text tokens) → R with_params names text tokens (Ask (MoreTerms n q end) k) a → R with_params names text tokens (Ask (AQuery n at) k) a
  ReadsQuery (WholeQuery n) at q end = (k : Query → ℕ → Program) (a : Answer with_params names text tokens) → R with_params names text tokens (k q end) a → R with_params names text tokens (Ask (AQuery n at) k) a
  ReadsQuery (Term n) at q end = (k : Query → ℕ → Program) (a : Answer with_params names text tokens) → R with_params names text tokens (k q end) a → R with_params names text tokens (Ask (ATerm n at) k) a
  ReadsQuery (Simple n) at q end = (k : Query → ℕ → Program) (a : Answer with_params names text tokens) → R with_params names text tokens (k q end) a → R with_params names text tokens (Ask (ASimple n at) k) a
  ReadsQuery (SourceChain n) at q end = (k : Query → ℕ → Program) (a : Answer with_params names text tokens) → R with_params names text tokens (Ask (MoreJoins n q end) k) a → R with_params names text tokens (Ask (ASource n at) k) a
  ReadsQuery (WholeSource n) at q end = (k : Query → ℕ → Program) (a : Answer with_params names text tokens) → R with_params names text tokens (k q end) a → R with_params names text tokens (Ask (ASource n at) k) a
  ReadsQuery (SourceTerm n) at q end = (k : Query → ℕ → Program) (a : Answer with_params names text tokens) → R with_params names text tokens (k q end) a → R with_params names text tokens (Ask (ASourceTerm n at) k) a

  simple_apart : (n at : ℕ) (q : Query) (end : ℕ) → SpellsQuery with_params names text tokens (Simple n) at q end → stands text tokens at lexeme.Select ≡ false
  simple_apart n at q end (table m from name named) = other_sign with_params names text tokens 100 12 at refl (name_takes text tokens at name named)
  simple_apart n at q end (empty_query m from is) = other_sign with_params names text tokens 13 12 at refl is
  simple_apart n at q end (query_in_brackets m from inner last is low d close) = other_sign with_params names text tokens 33 12 at refl is
  simple_apart n at q end (choice_of_queries m from expr sides left right middle last is d comma d' close) = other_sign with_params names text tokens 14 12 at refl is.begins

  pub reads_query : (part : QueryPart) (at : ℕ) (q : Query) (end : ℕ) → SpellsQuery with_params names text tokens part at q end → ReadsQuery part at q end
  reads_query part at q end (one_term n from x last d) = λ k a r. asks (AQuery n at) k a (reads_query (Term n) at q end d _ a r)
  reads_query part at q end (union_term n from left right middle last d union d') =
      λ k a r. reads_query (QueryChain n) at left middle d k a (asks (MoreTerms n left middle) k a (rw union (reads_query (Term n) (middle + 1) right end d' _ a r)))
  reads_query part at q end (except_term n from left right middle last d except d') =
      λ k a r. reads_query (QueryChain n) at left middle d k a (asks (MoreTerms n left middle) k a (rw (other_sign with_params names text tokens 16 21 middle refl except, except) (reads_query (Term n) (middle + 1) right end d' _ a r)))
  reads_query part at q end (whole_query n from x last d union except) = λ k a r. reads_query (QueryChain n) at q end d k a (asks (MoreTerms n q end) k a (rw (union, except) r))
  reads_query part at q end (select_term n from items source c start behind last select d word d' w) =
      λ k a r. asks (ATerm n at) k a (rw select (reads_items with_params names text tokens n (at + 1) items start d _ a (rw word (reads_query (WholeSource n) (start + 1) source behind d' _ a (reads_where with_params names text tokens n behind c end w _ a r)))))
  reads_query part at q end (simple_term n from x last d) = λ k a r. asks (ATerm n at) k a (rw (simple_apart n at q end d) (reads_query (Simple n) at q end d k a r))
  reads_query part at q end (table n from name named) = λ k a r. asks (ASimple n at) k a (rw named r)
  reads_query part at q end (empty_query n from is) = λ k a r. asks (ASimple n at) k a (rw (nameless 13 at refl is, is) r)
  reads_query part at q end (query_in_brackets n from x last opens low d close) =
      λ k a r. asks (ASimple n at) k a (rw (nameless 33 at refl opens, other_sign with_params names text tokens 33 13 at refl opens, opens, below n low) (reads_query (WholeQuery (n + 1)) (at + 1) q last d _ a (rw close r)))
  reads_query part at q end (choice_of_queries n from expr sides left right middle last is d comma d' close) =
      λ k a r. asks (ASimple n at) k a (rw (nameless 14 at refl is.begins, other_sign with_params names text tokens 14 13 at refl is.begins, other_sign with_params names text tokens 14 33 at refl is.begins, is.begins) (reads_choice with_params names text tokens n at expr sides is _ a (reads_query (WholeQuery (n + 2)) sides left middle d _ a (rw comma (reads_query (WholeQuery (n + 2)) (middle + 1) right last d' _ a (rw close r))))))
  reads_query part at q end (one_source n from x last d) = λ k a r. asks (ASource n at) k a (reads_query (SourceTerm n) at q end d _ a r)
  reads_query part at q end (joined_source n from left right c middle on last d join d' word w) =
      λ k a r. reads_query (SourceChain n) at left middle d k a (asks (MoreJoins n left middle) k a (rw join (reads_query (SourceTerm n) (middle + 1) right on d' _ a (rw word (reads_cond with_params names text tokens (Condition n) (on + 1) c end w _ a r)))))
  reads_query part at q end (whole_source n from x last d join) = λ k a r. reads_query (SourceChain n) at q end d k a (asks (MoreJoins n q end) k a (rw join r))
  reads_query part at q end (plain_source n from x last d word) = λ k a r. asks (ASourceTerm n at) k a (reads_query (Simple n) at q end d _ a (rw word r))
  reads_query part at q end (source_with_alias n from x name last d word named) = λ k a r. asks (ASourceTerm n at) k a (reads_query (Simple n) at x last d _ a (rw (word, named) r))

  abbrev pub FailsQuery : QueryPart → ℕ → ParseFault → Type 0
  FailsQuery (QueryChain n) at why = Unit {0}
  FailsQuery (WholeQuery n) at why = (k : Query → ℕ → Program) → R with_params names text tokens (Ask (AQuery n at) k) (Err why)
  FailsQuery (Term n) at why = (k : Query → ℕ → Program) → R with_params names text tokens (Ask (ATerm n at) k) (Err why)
  FailsQuery (Simple n) at why = (k : Query → ℕ → Program) → R with_params names text tokens (Ask (ASimple n at) k) (Err why)
  FailsQuery (SourceChain n) at why = Unit {0}
  FailsQuery (WholeSource n) at why = (k : Query → ℕ → Program) → R with_params names text tokens (Ask (ASource n at) k) (Err why)
  FailsQuery (SourceTerm n) at why = (k : Query → ℕ → Program) → R with_params names text tokens (Ask (ASourceTerm n at) k) (Err why)

  pub fails_query : (part : QueryPart) (at : ℕ) (why : ParseFault) → QueryFault with_params names text tokens part at why → why ≢ fault.Memory → FailsQuery part at why
  fails_query part at why (query_memory p from) other = absurd (other refl)
  fails_query part at why (in_first_term n from w f) other = λ k. asks (AQuery n at) k (Err why) (fails_query (Term n) at why f other _)
  fails_query part at why (in_union_term n from left middle w d union f) other =
      λ k. reads_query (QueryChain n) at left middle d k (Err why) (asks (MoreTerms n left middle) k (Err why) (rw union (fails_query (Term n) (middle + 1) why f other _)))
  fails_query part at why (in_except_term n from left middle w d except f) other =
      λ k. reads_query (QueryChain n) at left middle d k (Err why) (asks (MoreTerms n left middle) k (Err why) (rw (other_sign with_params names text tokens 16 21 middle refl except, except) (fails_query (Term n) (middle + 1) why f other _)))
  fails_query part at why (in_items n from w select f) other = λ k. asks (ATerm n at) k (Err why) (rw select (fails_items with_params names text tokens n (at + 1) why f other _))
  fails_query part at why (no_from n from items start select d missing) other = λ k. asks (ATerm n at) k (Err why) (rw select (reads_items with_params names text tokens n (at + 1) items start d _ (Err why) (rw missing (ends (Err why)))))
  fails_query part at why (in_source n from items start w select d word f) other =
      λ k. asks (ATerm n at) k (Err why) (rw select (reads_items with_params names text tokens n (at + 1) items start d _ (Err why) (rw word (fails_query (WholeSource n) (start + 1) why f other _))))
  fails_query part at why (in_select_where n from items source start behind w select d word d' f) other =
      λ k. asks (ATerm n at) k (Err why) (rw select (reads_items with_params names text tokens n (at + 1) items start d _ (Err why) (rw word (reads_query (WholeSource n) (start + 1) source behind d' _ (Err why) (fails_where with_params names text tokens n behind why f other _)))))
  fails_query part at why (in_simple_term n from w missing f) other = λ k. asks (ATerm n at) k (Err why) (rw missing (fails_query (Simple n) at why f other k))
  fails_query part at why (no_simple_query n from none empty opens choice) other = λ k. asks (ASimple n at) k (Err why) (rw (none, empty, opens, choice) (ends (Err why)))
  fails_query part at why (query_too_deep n from opens deep) other = λ k. asks (ASimple n at) k (Err why) (rw (nameless 33 at refl opens, other_sign with_params names text tokens 33 13 at refl opens, opens, above n deep) (ends (Err why)))
  fails_query part at why (in_query_brackets n from w opens low f) other =
      λ k. asks (ASimple n at) k (Err why) (rw (nameless 33 at refl opens, other_sign with_params names text tokens 33 13 at refl opens, opens, below n low) (fails_query (WholeQuery (n + 1)) (at + 1) why f other _))
  fails_query part at why (query_unclosed n from q end opens low d missing) other =
      λ k. asks (ASimple n at) k (Err why) (rw (nameless 33 at refl opens, other_sign with_params names text tokens 33 13 at refl opens, opens, below n low) (reads_query (WholeQuery (n + 1)) (at + 1) q end d _ (Err why) (rw missing (ends (Err why)))))
  fails_query part at why (in_query_choice n from w f) other =
      let begins = choice_begins with_params names text tokens n at why f in
      λ k. asks (ASimple n at) k (Err why) (rw (nameless 14 at refl begins, other_sign with_params names text tokens 14 13 at refl begins, other_sign with_params names text tokens 14 33 at refl begins, begins) (fails_choice with_params names text tokens n at why f other _))
  fails_query part at why (in_left_query n from expr sides w is f) other =
      λ k. asks (ASimple n at) k (Err why) (rw (nameless 14 at refl is.begins, other_sign with_params names text tokens 14 13 at refl is.begins, other_sign with_params names text tokens 14 33 at refl is.begins, is.begins) (reads_choice with_params names text tokens n at expr sides is _ (Err why) (fails_query (WholeQuery (n + 2)) sides why f other _)))
  fails_query part at why (no_right_query n from expr sides left middle is d missing) other =
      λ k. asks (ASimple n at) k (Err why) (rw (nameless 14 at refl is.begins, other_sign with_params names text tokens 14 13 at refl is.begins, other_sign with_params names text tokens 14 33 at refl is.begins, is.begins) (reads_choice with_params names text tokens n at expr sides is _ (Err why) (reads_query (WholeQuery (n + 2)) sides left middle d _ (Err why) (rw missing (ends (Err why))))))
  fails_query part at why (in_right_query n from expr sides left middle w is d comma f) other =
      λ k. asks (ASimple n at) k (Err why) (rw (nameless 14 at refl is.begins, other_sign with_params names text tokens 14 13 at refl is.begins, other_sign with_params names text tokens 14 33 at refl is.begins, is.begins) (reads_choice with_params names text tokens n at expr sides is _ (Err why) (reads_query (WholeQuery (n + 2)) sides left middle d _ (Err why) (rw comma (fails_query (WholeQuery (n + 2)) (middle + 1) why f other _)))))
  fails_query part at why (query_sides_unclosed n from expr sides left right middle end is d comma d' missing) other =
      λ k. asks (ASimple n at) k (Err why) (rw (nameless 14 at refl is.begins, other_sign with_params names text tokens 14 13 at refl is.begins, other_sign with_params names text tokens 14 33 at refl is.begins, is.begins) (reads_choice with_params names text tokens n at expr sides is _ (Err why) (reads_query (WholeQuery (n + 2)) sides left middle d _ (Err why) (rw comma (reads_query (WholeQuery (n + 2)) (middle + 1) right end d' _ (Err why) (rw missing (ends (Err why))))))))
  fails_query part at why (in_first_source n from w f) other = λ k. asks (ASource n at) k (Err why) (fails_query (SourceTerm n) at why f other _)
  fails_query part at why (in_joined_source n from left middle w d join f) other =
      λ k. reads_query (SourceChain n) at left middle d k (Err why) (asks (MoreJoins n left middle) k (Err why) (rw join (fails_query (SourceTerm n) (middle + 1) why f other _)))
  fails_query part at why (no_on n from left right middle on d join d' missing) other =
      λ k. reads_query (SourceChain n) at left middle d k (Err why) (asks (MoreJoins n left middle) k (Err why) (rw join (reads_query (SourceTerm n) (middle + 1) right on d' _ (Err why) (rw missing (ends (Err why))))))
  fails_query part at why (in_on n from left right middle on w d join d' word f) other =
      λ k. reads_query (SourceChain n) at left middle d k (Err why) (asks (MoreJoins n left middle) k (Err why) (rw join (reads_query (SourceTerm n) (middle + 1) right on d' _ (Err why) (rw word (fails_cond with_params names text tokens (Condition n) (on + 1) why f other _)))))
  fails_query part at why (in_source_term n from w f) other = λ k. asks (ASourceTerm n at) k (Err why) (fails_query (Simple n) at why f other _)
  fails_query part at why (no_alias n from q end d word none) other = λ k. asks (ASourceTerm n at) k (Err why) (reads_query (Simple n) at q end d _ (Err why) (rw (word, none) (ends (Err why))))
