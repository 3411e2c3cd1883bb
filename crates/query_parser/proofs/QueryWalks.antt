-- Going through a query.
use Rattle.std.proofs.Common.{Bool, true, false, ◌≡◌, ◌<◌, ◌≤◌, ℕ, ◌+◌, List, [], ◌∷◌, ◌++◌, Option, Some, None, refl, arith, nat_lt}
use Rattle.std.proofs.lemmas.Bool.Decides.{nat_tests}
use Rattle.word_tokens.specs.Grammar.{Terminal, Nonterminal}
use Rattle.feature_expr.specs.ExprGrammar.{Foreign, Outer}
use Rattle.values.specs.declared.column_name.ColName.{ColName}
use Rattle.feature_expr.specs.declared.expr.Expr.{Expr}
use Rattle.word_tokens.specs.declared.token.Token.{Token}
use Rattle.vra_syntax.specs.declared.items.Item.{Item}
use Rattle.vra_syntax.specs.declared.items.Items.{Items}
use Rattle.vra_syntax.specs.declared.query.Query.{Query}
use Rattle.query_parser.specs.Faults.{WhenFault, ItemFault, in_item_column, in_rename, in_item_when, ItemsFault, items_memory, in_first_item, in_next_item, QueryFault, query_memory, in_first_term, in_union_term, in_except_term, in_items, no_from, in_source, in_select_where, in_simple_term, no_simple_query, query_too_deep, in_query_brackets, query_unclosed, in_query_choice, in_left_query, no_right_query, in_right_query, query_sides_unclosed, in_first_source, in_joined_source, no_on, in_on, in_source_term, no_alias}
use Rattle.query_parser.specs.Lexemes.{stands, name_at}
use Rattle.query_parser.specs.Parts.{IsColumn, IsChoice, IsRename, no_rename, some_rename, IsItemWhen, no_item_when, some_item_when, IsWhen, no_when, some_when, IsItem, ItemsTo, one_item, another_item, AreItems, all_items, listed_items}
use Rattle.query_parser.specs.Conditions.{Condition}
use Rattle.query_parser.specs.Queries as spelled
use Rattle.query_parser.specs.Queries.{QueryChain, WholeQuery, SourceChain, WholeSource, SpellsQuery, one_term, union_term, except_term, whole_query, select_term, simple_term, table, empty_query, query_in_brackets, choice_of_queries, one_source, joined_source, whole_source, plain_source, source_with_alias}
use Rattle.query_parser.specs.StatementGrammar.{Form, outer, within, Sign, NAME, Expression, ColumnPart, CondPart, Rename, When, Where, ItemPart, ItemsPart, MoreItems, QueryPart, MoreQuery, Term, Simple, SourcePart, MoreSource, SourceTerm, Alias}
use Rattle.query_parser.specs.declared.fault.ParseFault.{ParseFault}
use Rattle.query_parser.specs.declared.fault.ParseFault.TheVariants as fault
use Rattle.query_parser.specs.declared.lexeme.Lexeme.TheVariants as lexeme
use Rattle.feature_expr.specs.Nesting.{nesting_limit}
use Rattle.query_parser.proofs.SignLaws.{name_takes, no_name_takes}
use Rattle.query_parser.proofs.Walks.{apart, Takes, Moves, chain, Excluded, Never, not_this, NoneOf, no_part, choose, choose_by, pass, pass_to, Faulty, behind, stuck, missing, deep}
use Rattle.query_parser.proofs.PartWalks.{but, never_column, moves_column, faulty_column, moves_expression, faulty_expression, ChoiceHead, HasSides, moves_choice, faulty_choice}
use Rattle.query_parser.proofs.CondWalks.{FreeCondition, free_sign, never_optional, free_optional, skip, enter, reads, fails, reads_where, fails_where}

module _ (text : List ℕ) (tokens : List Token) where
  -- what may follow an item begins with none of the signs that would go on it
  pub record FreeItem (s : Form) : Type 0 where
    pub dot_free : Never text tokens 39 s
    pub as_free : Never text tokens 15 s
    pub when_free : Never text tokens 23 s
    pub or_free : Never text tokens 0 s
    pub and_free : Never text tokens 1 s

  -- a source, a term and a query
  pub record FreeSource (s : Form) : Type 0 where
    pub condition_free : FreeCondition text tokens s
    pub join_free : Never text tokens 19 s
    pub alias_free : Never text tokens 15 s

  pub record FreeTerm (s : Form) : Type 0 where
    pub source_free : FreeSource s
    pub where_free : Never text tokens 24 s

  pub record FreeQuery (s : Form) : Type 0 where
    pub term_free : FreeTerm s
    pub union_free : Never text tokens 21 s
    pub except_free : Never text tokens 16 s

  -- a sign that stands for itself
  pub query_sign : (sign : ℕ) (s : Form) → apart 102 sign ≡ true → apart 39 sign ≡ true → apart 1 sign ≡ true → apart 0 sign ≡ true → apart 19 sign ≡ true → apart 15 sign ≡ true → apart 24 sign ≡ true → apart 21 sign ≡ true → apart 16 sign ≡ true → FreeQuery (Terminal (Foreign sign) ∷ s)
  query_sign sign s a b c d e f g h i = record {
    term_free = record {
      source_free = record { condition_free = free_sign text tokens sign s a b c d; join_free = λ at k. but text tokens 19 sign s at e k; alias_free = λ at k. but text tokens 15 sign s at f k };
      where_free = λ at k. but text tokens 24 sign s at g k;
    };
    union_free = λ at k. but text tokens 21 sign s at h k;
    except_free = λ at k. but text tokens 16 sign s at i k;
  }

  never_more_query : (sign n : ℕ) (s : Form) → apart sign 21 ≡ true → apart sign 16 ≡ true → Never text tokens sign s → Never text tokens sign (MoreQuery n ∷ s)
  never_more_query sign n s a b free at i =
      no_part text tokens 7 n (λ limit. [] ∷ (Sign lexeme.Union ∷ Term n ∷ MoreQuery n ∷ []) ∷ (Sign lexeme.Except ∷ Term n ∷ MoreQuery n ∷ []) ∷ []) s at (λ limit. refl)
      (λ limit. (free at i, (but text tokens sign 21 (Term n ∷ MoreQuery n ∷ s) at a i, (but text tokens sign 16 (Term n ∷ MoreQuery n ∷ s) at b i, tt))))

  -- behind a term `union` and `except` may follow
  term_behind : (n : ℕ) (s : Form) → FreeQuery s → FreeTerm (MoreQuery n ∷ s)
  term_behind n s free =
      let c = free.term_free.source_free.condition_free in
      record {
        source_free = record {
          condition_free = record {
            or_free = never_more_query 0 n s refl refl c.or_free;
            conjunction_free = record {
              and_free = never_more_query 1 n s refl refl c.conjunction_free.and_free;
              negation_free = record {
                comparison_free = never_more_query 102 n s refl refl c.conjunction_free.negation_free.comparison_free;
                dot_free = never_more_query 39 n s refl refl c.conjunction_free.negation_free.dot_free;
              };
            };
          };
          join_free = never_more_query 19 n s refl refl free.term_free.source_free.join_free;
          alias_free = never_more_query 15 n s refl refl free.term_free.source_free.alias_free;
        };
        where_free = never_more_query 24 n s refl refl free.term_free.where_free;
      }

  -- behind a source `where`
  source_behind : (n : ℕ) (s : Form) → FreeTerm s → FreeSource (Where n ∷ s)
  source_behind n s free =
      let rest = CondPart n ∷ [] in
      record {
        condition_free = free_optional text tokens 20 n 24 rest s (λ limit. refl) refl refl refl refl free.source_free.condition_free;
        join_free = never_optional text tokens 20 n 19 24 rest s (λ limit. refl) refl free.source_free.join_free;
        alias_free = never_optional text tokens 20 n 15 24 rest s (λ limit. refl) refl free.source_free.alias_free;
      }

  -- behind a source's term or condition `join`
  alias_behind : (n : ℕ) (s : Form) → FreeSource s → Never text tokens 15 (MoreSource n ∷ s)
  alias_behind n s free = never_optional text tokens 17 n 15 19 (SourceTerm n ∷ Sign lexeme.On ∷ CondPart n ∷ MoreSource n ∷ []) s (λ limit. refl) refl free.alias_free

  condition_behind : (n : ℕ) (s : Form) → FreeSource s → FreeCondition text tokens (MoreSource n ∷ s)
  condition_behind n s free = free_optional text tokens 17 n 19 (SourceTerm n ∷ Sign lexeme.On ∷ CondPart n ∷ MoreSource n ∷ []) s (λ limit. refl) refl refl refl refl free.condition_free

  -- behind an item a comma, and behind the items `from`
  item_behind : (n : ℕ) (s : Form) → FreeItem (MoreItems n ∷ Sign lexeme.From ∷ s)
  item_behind n s =
      let rest = ItemPart n ∷ MoreItems n ∷ [] in let s' = Sign lexeme.From ∷ s in
      record {
        dot_free = never_optional text tokens 13 n 39 37 rest s' (λ limit. refl) refl (λ at k. but text tokens 39 17 s at refl k);
        as_free = never_optional text tokens 13 n 15 37 rest s' (λ limit. refl) refl (λ at k. but text tokens 15 17 s at refl k);
        when_free = never_optional text tokens 13 n 23 37 rest s' (λ limit. refl) refl (λ at k. but text tokens 23 17 s at refl k);
        or_free = never_optional text tokens 13 n 0 37 rest s' (λ limit. refl) refl (λ at k. but text tokens 0 17 s at refl k);
        and_free = never_optional text tokens 13 n 1 37 rest s' (λ limit. refl) refl (λ at k. but text tokens 1 17 s at refl k);
      }

  -- an item
  open_item : (n : ℕ) (s : Form) (at : ℕ) → Moves text tokens (ItemPart n ∷ s) at (ColumnPart ∷ Rename ∷ When n ∷ s) at
  open_item n s at = choose text tokens 12 n [] (ColumnPart ∷ Rename ∷ When n ∷ []) [] s at (λ limit h. refl) tt tt

  never_when : (sign n : ℕ) (s : Form) → apart sign 23 ≡ true → Never text tokens sign s → Never text tokens sign (When n ∷ s)
  never_when sign n s a free = never_optional text tokens 15 n sign 23 (Expression n ∷ []) s (λ limit. refl) a free

  dot_behind_column : (n : ℕ) (s : Form) → FreeItem s → Never text tokens 39 (Rename ∷ When n ∷ s)
  dot_behind_column n s free = never_optional text tokens 14 0 39 15 (ColumnPart ∷ []) (When n ∷ s) (λ limit. refl) refl (never_when 39 n s refl free.dot_free)

  to_rename : (n at behind : ℕ) (column : ColName) (s : Form) → IsColumn text tokens at column behind → FreeItem s → Moves text tokens (ItemPart n ∷ s) at (Rename ∷ When n ∷ s) behind
  to_rename n at behind column s is free = chain text tokens (open_item n s at) (moves_column text tokens at behind column (Rename ∷ When n ∷ s) is (dot_behind_column n s free))

  enter_rename : (n at : ℕ) (s : Form) → Takes text tokens 15 at → FreeItem s → Moves text tokens (Rename ∷ When n ∷ s) at (ColumnPart ∷ When n ∷ s) (at + 1)
  enter_rename n at s i free = enter text tokens 14 0 15 (ColumnPart ∷ []) (When n ∷ s) at (λ limit. refl) i (never_when 15 n s refl free.as_free)

  reads_rename : (n at end : ℕ) (rename : Option ColName) (s : Form) → IsRename text tokens at rename end → FreeItem s → Moves text tokens (Rename ∷ When n ∷ s) at (When n ∷ s) end
  reads_rename n at end rename s (no_rename other) free = skip text tokens 14 0 15 (ColumnPart ∷ []) (When n ∷ s) at (λ limit. refl) other
  reads_rename n at end rename s (some_rename column last i is) free = chain text tokens (enter_rename n at s i free) (moves_column text tokens (at + 1) end column (When n ∷ s) is (never_when 39 n s refl free.dot_free))

  pub enter_when : (n at : ℕ) (s : Form) → Takes text tokens 23 at → Never text tokens 23 s → Moves text tokens (When n ∷ s) at (Expression n ∷ s) (at + 1)
  enter_when n at s i free = enter text tokens 15 n 23 (Expression n ∷ []) s at (λ limit. refl) i free

  pub skip_when : (n at : ℕ) (s : Form) → stands text tokens at lexeme.When ≡ false → Moves text tokens (When n ∷ s) at s at
  skip_when n at s other = skip text tokens 15 n 23 (Expression n ∷ []) s at (λ limit. refl) other

  -- the forms of a simple query that nest
  abbrev pub NESTED : ℕ → List Form
  NESTED n = (Sign lexeme.Open ∷ QueryPart (n + 1) ∷ Sign lexeme.Close ∷ []) ∷ ChoiceHead text tokens 10 n ∷ []

  abbrev pub SIMPLE : List Form
  SIMPLE = (NAME ∷ []) ∷ (Sign lexeme.Empty ∷ []) ∷ []

  none_nested : (sign n : ℕ) (s : Form) (at : ℕ) (b : Bool) → apart sign 33 ≡ true → apart sign 14 ≡ true → Takes text tokens sign at → NoneOf text tokens s at (within b (NESTED n))
  none_nested sign n s at true c d i = (but text tokens sign 33 (QueryPart (n + 1) ∷ Sign lexeme.Close ∷ s) at c i, (but text tokens sign 14 (Sign lexeme.OpenSquare ∷ Expression (n + 1) ∷ Sign lexeme.CloseSquare ∷ Nonterminal (Outer 10 (n + 1)) ∷ s) at d i, tt))
  none_nested sign n s at false c d i = tt

  -- a token that begins no simple query, and no query
  pub never_simple : (sign n : ℕ) (s : Form) (at : ℕ) → apart sign 100 ≡ true → apart sign 13 ≡ true → apart sign 33 ≡ true → apart sign 14 ≡ true → Takes text tokens sign at → Excluded text tokens (Simple n ∷ s) at
  never_simple sign n s at a b c d i =
      no_part text tokens 9 n (λ limit. SIMPLE ++ within (nat_lt n limit) (NESTED n)) s at (λ limit. refl) (λ limit. (but text tokens sign 100 s at a i, (but text tokens sign 13 s at b i, none_nested sign n s at (nat_lt n limit) c d i)))

  never_term : (sign n : ℕ) (s : Form) (at : ℕ) → apart sign 12 ≡ true → apart sign 100 ≡ true → apart sign 13 ≡ true → apart sign 33 ≡ true → apart sign 14 ≡ true → Takes text tokens sign at → Excluded text tokens (Term n ∷ s) at
  never_term sign n s at e a b c d i =
      no_part text tokens 8 n (λ limit. (Sign lexeme.Select ∷ ItemsPart n ∷ Sign lexeme.From ∷ SourcePart n ∷ Where n ∷ []) ∷ (Simple n ∷ []) ∷ []) s at (λ limit. refl)
      (λ limit. (but text tokens sign 12 (ItemsPart n ∷ Sign lexeme.From ∷ SourcePart n ∷ Where n ∷ s) at e i, (never_simple sign n s at a b c d i, tt)))

  pub never_query : (sign n : ℕ) (s : Form) (at : ℕ) → apart sign 12 ≡ true → apart sign 100 ≡ true → apart sign 13 ≡ true → apart sign 33 ≡ true → apart sign 14 ≡ true → Takes text tokens sign at → Excluded text tokens (QueryPart n ∷ s) at
  never_query sign n s at e a b c d i = no_part text tokens 6 n (λ limit. (Term n ∷ MoreQuery n ∷ []) ∷ []) s at (λ limit. refl) (λ limit. (never_term sign n (MoreQuery n ∷ s) at e a b c d i, tt))

  simple_forms : (n limit : ℕ) → n < limit → outer limit 9 n ≡ SIMPLE ++ NESTED n
  simple_forms n limit h = rw (below h) refl
    where
      below : n < limit → nat_lt n limit ≡ true
      below h = grind (arith, nat_tests)

  flat_forms : (n limit : ℕ) → limit ≤ n → outer limit 9 n ≡ SIMPLE
  flat_forms n limit h = rw (above h) refl
    where
      above : limit ≤ n → nat_lt n limit ≡ false
      above h = grind (arith, nat_tests)

module _ (names : List (List ℕ)) (text : List ℕ) (tokens : List Token) where
  reads_item_when : (n at end : ℕ) (cond : Option Expr) (s : Form) → IsItemWhen names text tokens n at cond end → FreeItem text tokens s → Moves text tokens (When n ∷ s) at s end
  reads_item_when n at end cond s (no_item_when other) free = skip_when text tokens n at s other
  reads_item_when n at end cond s (some_item_when expr last i is) free =
      chain text tokens (enter_when text tokens n at s i free.when_free) (moves_expression text tokens names n (at + 1) end expr s is free.or_free free.and_free)

  -- the `when` of a write
  pub reads_when : (at end : ℕ) (expr : Expr) (s : Form) → IsWhen names text tokens at expr end → Never text tokens 23 s → Never text tokens 0 s → Never text tokens 1 s → Moves text tokens (When 0 ∷ s) at s end
  reads_when at end expr s (no_when other) a b c = skip_when text tokens 0 at s other
  reads_when at end expr s (some_when e last i is) a b c = chain text tokens (enter_when text tokens 0 at s i a) (moves_expression text tokens names 0 (at + 1) end expr s is b c)

  pub fails_when : (n at : ℕ) (why : ParseFault) (s : Form) → n ≤ nesting_limit → WhenFault names text tokens n at why → Never text tokens 23 s → Never text tokens 0 s → Never text tokens 1 s → Faulty text tokens (When n ∷ s) at why
  fails_when n at why s high f a b c = behind text tokens why (enter_when text tokens n at s f.begins a) (faulty_expression text tokens names n (at + 1) why s high f.in_when b c)

  reads_item : (n at end : ℕ) (item : Item) (s : Form) → IsItem names text tokens n at item end → FreeItem text tokens s → Moves text tokens (ItemPart n ∷ s) at s end
  reads_item n at end item s is free =
      chain text tokens (to_rename text tokens n at is.behind item.column s is.named free) (chain text tokens (reads_rename text tokens n is.behind is.last item.rename s is.renamed free) (reads_item_when n is.last end item.cond s is.condition free))

  fails_item : (n at : ℕ) (why : ParseFault) (s : Form) → n ≤ nesting_limit → ItemFault names text tokens n at why → FreeItem text tokens s → Faulty text tokens (ItemPart n ∷ s) at why
  fails_item n at why s high (in_item_column w f) free = behind text tokens why (open_item text tokens n s at) (faulty_column text tokens at why (Rename ∷ When n ∷ s) f (dot_behind_column text tokens n s free))
  fails_item n at why s high (in_rename column end w is i f) free =
      behind text tokens why (chain text tokens (to_rename text tokens n at end column s is free) (enter_rename text tokens n end s i free)) (faulty_column text tokens (end + 1) why (When n ∷ s) f (never_when text tokens 39 n s refl free.dot_free))
  fails_item n at why s high (in_item_when column mid rename last w is r f) free =
      behind text tokens why (chain text tokens (to_rename text tokens n at mid column s is free) (reads_rename text tokens n mid last rename s r free)) (fails_when n last why s high f free.when_free free.or_free free.and_free)

  -- items, up to where a comma or `from` has to stand
  link_item : (n at : ℕ) (s : Form) → Takes text tokens 37 at → Moves text tokens (MoreItems n ∷ Sign lexeme.From ∷ s) at (ItemPart n ∷ MoreItems n ∷ Sign lexeme.From ∷ s) (at + 1)
  link_item n at s i = enter text tokens 13 n 37 (ItemPart n ∷ MoreItems n ∷ []) (Sign lexeme.From ∷ s) at (λ limit. refl) i (λ place k. but text tokens 37 17 s place refl k)

  open_items : (n at : ℕ) (s : Form) → stands text tokens at lexeme.Star ≡ false → Moves text tokens (ItemsPart n ∷ s) at (ItemPart n ∷ MoreItems n ∷ s) at
  open_items n at s other = choose text tokens 11 n ((Sign lexeme.Star ∷ []) ∷ []) (ItemPart n ∷ MoreItems n ∷ []) [] s at (λ limit h. refl) (not_this text tokens 40 s at other, tt) tt

  reads_items_to : (n at : ℕ) (items : List Item) (end : ℕ) (s : Form) → ItemsTo names text tokens n at items end → Moves text tokens (ItemPart n ∷ MoreItems n ∷ Sign lexeme.From ∷ s) at (MoreItems n ∷ Sign lexeme.From ∷ s) end
  reads_items_to n at items end s (one_item item last is) = reads_item n at end item (MoreItems n ∷ Sign lexeme.From ∷ s) is (item_behind text tokens n s)
  reads_items_to n at items end s (another_item before place item last b i is) =
      chain text tokens (reads_items_to n at before place s b) (chain text tokens (link_item n place s i) (reads_item n (place + 1) end item (MoreItems n ∷ Sign lexeme.From ∷ s) is (item_behind text tokens n s)))

  never_item : (sign n : ℕ) (s : Form) (at : ℕ) → apart sign 100 ≡ true → Takes text tokens sign at → Excluded text tokens (ItemPart n ∷ s) at
  never_item sign n s at a i = no_part text tokens 12 n (λ limit. (ColumnPart ∷ Rename ∷ When n ∷ []) ∷ []) s at (λ limit. refl) (λ limit. (never_column text tokens sign (Rename ∷ When n ∷ s) at a i, tt))

  reads_items : (n at end : ℕ) (items : Items) (s : Form) → AreItems names text tokens n at items end → Moves text tokens (ItemsPart n ∷ Sign lexeme.From ∷ s) at (Sign lexeme.From ∷ s) end
  reads_items n at end items s (all_items i) =
      chain text tokens (choose text tokens 11 n [] (Sign lexeme.Star ∷ []) ((ItemPart n ∷ MoreItems n ∷ []) ∷ []) (Sign lexeme.From ∷ s) at (λ limit h. refl) tt (never_item 40 n (MoreItems n ∷ Sign lexeme.From ∷ s) at refl i, tt)) (pass text tokens 40 (Sign lexeme.From ∷ s) at i)
  reads_items n at end items s (listed_items listed last other is no_comma) =
      chain text tokens (open_items n at (Sign lexeme.From ∷ s) other) (chain text tokens (reads_items_to n at listed end s is) (skip text tokens 13 n 37 (ItemPart n ∷ MoreItems n ∷ []) (Sign lexeme.From ∷ s) end (λ limit. refl) no_comma))

  fails_items : (n at : ℕ) (why : ParseFault) (s : Form) → n ≤ nesting_limit → ItemsFault names text tokens n at why → Faulty text tokens (ItemsPart n ∷ Sign lexeme.From ∷ s) at why
  fails_items n at why s high items_memory = tt
  fails_items n at why s high (in_first_item w other f) =
      behind text tokens why (open_items n at (Sign lexeme.From ∷ s) other) (fails_item n at why (MoreItems n ∷ Sign lexeme.From ∷ s) high f (item_behind text tokens n s))
  fails_items n at why s high (in_next_item before place w other is i f) =
      behind text tokens why (chain text tokens (open_items n at (Sign lexeme.From ∷ s) other) (chain text tokens (reads_items_to n at before place s is) (link_item n place s i))) (fails_item n (place + 1) why (MoreItems n ∷ Sign lexeme.From ∷ s) high f (item_behind text tokens n s))

module _ (with_params : Bool) (names : List (List ℕ)) (text : List ℕ) (tokens : List Token) where
  -- what each part of a query leads to: a chain to where it may go on, a whole part to what is open behind it
  abbrev pub ReadsQuery : spelled.QueryPart → ℕ → ℕ → Type 0
  ReadsQuery (QueryChain n) at end = (s : Form) → FreeQuery text tokens s → Moves text tokens (QueryPart n ∷ s) at (MoreQuery n ∷ s) end
  ReadsQuery (WholeQuery n) at end = (s : Form) → FreeQuery text tokens s → Moves text tokens (QueryPart n ∷ s) at s end
  ReadsQuery (spelled.Term n) at end = (s : Form) → FreeTerm text tokens s → Moves text tokens (Term n ∷ s) at s end
  ReadsQuery (spelled.Simple n) at end = (s : Form) → Moves text tokens (Simple n ∷ s) at s end
  ReadsQuery (SourceChain n) at end = (s : Form) → FreeSource text tokens s → Moves text tokens (SourcePart n ∷ s) at (MoreSource n ∷ s) end
  ReadsQuery (WholeSource n) at end = (s : Form) → FreeSource text tokens s → Moves text tokens (SourcePart n ∷ s) at s end
  ReadsQuery (spelled.SourceTerm n) at end = (s : Form) → Never text tokens 15 s → Moves text tokens (SourceTerm n ∷ s) at s end

  free_query_close : (s : Form) → FreeQuery text tokens (Sign lexeme.Close ∷ s)
  free_query_close s = query_sign text tokens 34 s refl refl refl refl refl refl refl refl refl

  free_query_comma : (s : Form) → FreeQuery text tokens (Sign lexeme.Comma ∷ s)
  free_query_comma s = query_sign text tokens 37 s refl refl refl refl refl refl refl refl refl

  open_query : (n at : ℕ) (s : Form) → Moves text tokens (QueryPart n ∷ s) at (Term n ∷ MoreQuery n ∷ s) at
  open_query n at s = choose text tokens 6 n [] (Term n ∷ MoreQuery n ∷ []) [] s at (λ limit h. refl) tt tt

  link_union : (n at : ℕ) (s : Form) → Takes text tokens 21 at → FreeQuery text tokens s → Moves text tokens (MoreQuery n ∷ s) at (Term n ∷ MoreQuery n ∷ s) (at + 1)
  link_union n at s i free =
      chain text tokens (choose text tokens 7 n ([] ∷ []) (Sign lexeme.Union ∷ Term n ∷ MoreQuery n ∷ []) ((Sign lexeme.Except ∷ Term n ∷ MoreQuery n ∷ []) ∷ []) s at (λ limit h. refl) (free.union_free at i, tt) (but text tokens 21 16 (Term n ∷ MoreQuery n ∷ s) at refl i, tt)) (pass text tokens 21 (Term n ∷ MoreQuery n ∷ s) at i)

  link_except : (n at : ℕ) (s : Form) → Takes text tokens 16 at → FreeQuery text tokens s → Moves text tokens (MoreQuery n ∷ s) at (Term n ∷ MoreQuery n ∷ s) (at + 1)
  link_except n at s i free =
      chain text tokens (choose text tokens 7 n ([] ∷ (Sign lexeme.Union ∷ Term n ∷ MoreQuery n ∷ []) ∷ []) (Sign lexeme.Except ∷ Term n ∷ MoreQuery n ∷ []) [] s at (λ limit h. refl) (free.except_free at i, (but text tokens 16 21 (Term n ∷ MoreQuery n ∷ s) at refl i, tt)) tt) (pass text tokens 16 (Term n ∷ MoreQuery n ∷ s) at i)

  end_query : (n at : ℕ) (s : Form) → stands text tokens at lexeme.Union ≡ false → stands text tokens at lexeme.Except ≡ false → Moves text tokens (MoreQuery n ∷ s) at s at
  end_query n at s a b = choose text tokens 7 n [] [] ((Sign lexeme.Union ∷ Term n ∷ MoreQuery n ∷ []) ∷ (Sign lexeme.Except ∷ Term n ∷ MoreQuery n ∷ []) ∷ []) s at (λ limit h. refl) tt (not_this text tokens 21 (Term n ∷ MoreQuery n ∷ s) at a, (not_this text tokens 16 (Term n ∷ MoreQuery n ∷ s) at b, tt))

  -- a select
  into_select : (n at : ℕ) (s : Form) → Takes text tokens 12 at → Moves text tokens (Term n ∷ s) at (ItemsPart n ∷ Sign lexeme.From ∷ SourcePart n ∷ Where n ∷ s) (at + 1)
  into_select n at s i =
      chain text tokens (choose text tokens 8 n [] (Sign lexeme.Select ∷ ItemsPart n ∷ Sign lexeme.From ∷ SourcePart n ∷ Where n ∷ []) ((Simple n ∷ []) ∷ []) s at (λ limit h. refl) tt (never_simple text tokens 12 n s at refl refl refl refl i, tt))
      (pass text tokens 12 (ItemsPart n ∷ Sign lexeme.From ∷ SourcePart n ∷ Where n ∷ s) at i)

  to_source : (n at from : ℕ) (items : Items) (s : Form) → Takes text tokens 12 at → AreItems names text tokens n (at + 1) items from → Takes text tokens 17 from → Moves text tokens (Term n ∷ s) at (SourcePart n ∷ Where n ∷ s) (from + 1)
  to_source n at from items s i is j = chain text tokens (into_select n at s i) (chain text tokens (reads_items names text tokens n (at + 1) from items (SourcePart n ∷ Where n ∷ s) is) (pass text tokens 17 (SourcePart n ∷ Where n ∷ s) from j))

  into_simple : (n at : ℕ) (s : Form) → Excluded text tokens (Sign lexeme.Select ∷ ItemsPart n ∷ Sign lexeme.From ∷ SourcePart n ∷ Where n ∷ s) at → Moves text tokens (Term n ∷ s) at (Simple n ∷ s) at
  into_simple n at s other = choose text tokens 8 n ((Sign lexeme.Select ∷ ItemsPart n ∷ Sign lexeme.From ∷ SourcePart n ∷ Where n ∷ []) ∷ []) (Simple n ∷ []) [] s at (λ limit h. refl) (other, tt) tt

  -- a simple query doesn't begin with `select`
  simple_begins : (n at : ℕ) (q : Query) (end : ℕ) (s : Form) → SpellsQuery with_params names text tokens (spelled.Simple n) at q end → Excluded text tokens (Sign lexeme.Select ∷ s) at
  simple_begins n at q end s (table m from name named) = but text tokens 100 12 s at refl (name_takes text tokens at name named)
  simple_begins n at q end s (empty_query m from i) = but text tokens 13 12 s at refl i
  simple_begins n at q end s (query_in_brackets m from inner last i low r close) = but text tokens 33 12 s at refl i
  simple_begins n at q end s (choice_of_queries m from expr sides left right middle last is l comma r close) = but text tokens 14 12 s at refl is.begins

  -- a query in brackets
  into_query_brackets : (n at : ℕ) (s : Form) → n < nesting_limit → Takes text tokens 33 at → Moves text tokens (Simple n ∷ s) at (QueryPart (n + 1) ∷ Sign lexeme.Close ∷ s) (at + 1)
  into_query_brackets n at s low i =
      chain text tokens (choose text tokens 9 n (SIMPLE text tokens) (Sign lexeme.Open ∷ QueryPart (n + 1) ∷ Sign lexeme.Close ∷ []) (ChoiceHead text tokens 10 n ∷ []) s at (λ limit h. simple_forms text tokens n limit (omega (arith, low, h)))
      (but text tokens 33 100 s at refl i, (but text tokens 33 13 s at refl i, tt))
      (but text tokens 33 14 (Sign lexeme.OpenSquare ∷ Expression (n + 1) ∷ Sign lexeme.CloseSquare ∷ Nonterminal (Outer 10 (n + 1)) ∷ s) at refl i, tt))
      (pass text tokens 33 (QueryPart (n + 1) ∷ Sign lexeme.Close ∷ s) at i)

  into_query_choice : (n at : ℕ) (s : Form) → n < nesting_limit → Takes text tokens 14 at → Moves text tokens (Simple n ∷ s) at (ChoiceHead text tokens 10 n ++ s) at
  into_query_choice n at s low i =
      choose text tokens 9 n (SIMPLE text tokens ++ (Sign lexeme.Open ∷ QueryPart (n + 1) ∷ Sign lexeme.Close ∷ []) ∷ []) (ChoiceHead text tokens 10 n) [] s at (λ limit h. simple_forms text tokens n limit (omega (arith, low, h)))
      (but text tokens 14 100 s at refl i, (but text tokens 14 13 s at refl i, (but text tokens 14 33 (QueryPart (n + 1) ∷ Sign lexeme.Close ∷ s) at refl i, tt))) tt

  query_sides : (n : ℕ) → HasSides text tokens 10 n (QueryPart (n + 2) ∷ Sign lexeme.Comma ∷ QueryPart (n + 2) ∷ Sign lexeme.Close ∷ [])
  query_sides n limit = rw (two n) refl
    where
      two : (n : ℕ) → n + 1 + 1 ≡ n + 2
      two n = omega arith

  to_left_query : (n at sides : ℕ) (expr : Expr) (s : Form) → IsChoice names text tokens n at expr sides → Moves text tokens (Simple n ∷ s) at (QueryPart (n + 2) ∷ Sign lexeme.Comma ∷ QueryPart (n + 2) ∷ Sign lexeme.Close ∷ s) sides
  to_left_query n at sides expr s is =
      chain text tokens (into_query_choice n at s is.within is.begins) (moves_choice text tokens names 10 n at sides expr (QueryPart (n + 2) ∷ Sign lexeme.Comma ∷ QueryPart (n + 2) ∷ Sign lexeme.Close ∷ []) s (query_sides n) is)

  -- a table and `empty`
  reads_table : (n at : ℕ) (name : List ℕ) (s : Form) → name_at text tokens at ≡ Some name → Moves text tokens (Simple n ∷ s) at s (at + 1)
  reads_table n at name s named =
      let i = name_takes text tokens at name named in
      chain text tokens (choose_by text tokens 9 n [] (NAME ∷ []) (λ limit. (Sign lexeme.Empty ∷ []) ∷ within (nat_lt n limit) (NESTED text tokens n)) s at (λ limit h. refl) tt (λ limit. (but text tokens 100 13 s at refl i, none_nested text tokens 100 n s at (nat_lt n limit) refl refl i))) (pass text tokens 100 s at i)

  reads_empty : (n at : ℕ) (s : Form) → Takes text tokens 13 at → Moves text tokens (Simple n ∷ s) at s (at + 1)
  reads_empty n at s i =
      chain text tokens (choose_by text tokens 9 n ((NAME ∷ []) ∷ []) (Sign lexeme.Empty ∷ []) (λ limit. within (nat_lt n limit) (NESTED text tokens n)) s at (λ limit h. refl) (but text tokens 13 100 s at refl i, tt) (λ limit. none_nested text tokens 13 n s at (nat_lt n limit) refl refl i)) (pass text tokens 13 s at i)

  -- sources
  open_source : (n at : ℕ) (s : Form) → Moves text tokens (SourcePart n ∷ s) at (SourceTerm n ∷ MoreSource n ∷ s) at
  open_source n at s = choose text tokens 16 n [] (SourceTerm n ∷ MoreSource n ∷ []) [] s at (λ limit h. refl) tt tt

  open_source_term : (n at : ℕ) (s : Form) → Moves text tokens (SourceTerm n ∷ s) at (Simple n ∷ Alias ∷ s) at
  open_source_term n at s = choose text tokens 18 n [] (Simple n ∷ Alias ∷ []) [] s at (λ limit h. refl) tt tt

  link_join : (n at : ℕ) (s : Form) → Takes text tokens 19 at → FreeSource text tokens s → Moves text tokens (MoreSource n ∷ s) at (SourceTerm n ∷ Sign lexeme.On ∷ CondPart n ∷ MoreSource n ∷ s) (at + 1)
  link_join n at s i free = enter text tokens 17 n 19 (SourceTerm n ∷ Sign lexeme.On ∷ CondPart n ∷ MoreSource n ∷ []) s at (λ limit. refl) i free.join_free

  free_on : (s : Form) → Never text tokens 15 (Sign lexeme.On ∷ s)
  free_on s at k = but text tokens 15 20 s at refl k

  pub reads_query : (part : spelled.QueryPart) (at : ℕ) (q : Query) (end : ℕ) → SpellsQuery with_params names text tokens part at q end → ReadsQuery part at end
  reads_query part at q end (one_term n from inner last r) = λ s free. chain text tokens (open_query n at s) (reads_query (spelled.Term n) at inner end r (MoreQuery n ∷ s) (term_behind text tokens n s free))
  reads_query part at q end (union_term n from left right middle last l i r) =
      λ s free. chain text tokens (reads_query (QueryChain n) at left middle l s free) (chain text tokens (link_union n middle s i free) (reads_query (spelled.Term n) (middle + 1) right end r (MoreQuery n ∷ s) (term_behind text tokens n s free)))
  reads_query part at q end (except_term n from left right middle last l i r) =
      λ s free. chain text tokens (reads_query (QueryChain n) at left middle l s free) (chain text tokens (link_except n middle s i free) (reads_query (spelled.Term n) (middle + 1) right end r (MoreQuery n ∷ s) (term_behind text tokens n s free)))
  reads_query part at q end (whole_query n from inner last r a b) = λ s free. chain text tokens (reads_query (QueryChain n) at inner end r s free) (end_query n end s a b)
  reads_query part at q end (select_term n from items source c mid behind last i is j r w) =
      λ s free. chain text tokens (to_source n at mid items s i is j)
      (chain text tokens (reads_query (WholeSource n) (mid + 1) source behind r (Where n ∷ s) (source_behind text tokens n s free)) (reads_where with_params names text tokens n behind end c s w free.source_free.condition_free free.where_free))
  reads_query part at q end (simple_term n from inner last r) =
      λ s free. chain text tokens (into_simple n at s (simple_begins n at inner end (ItemsPart n ∷ Sign lexeme.From ∷ SourcePart n ∷ Where n ∷ s) r)) (reads_query (spelled.Simple n) at inner end r s)
  reads_query part at q end (table n from name named) = λ s. reads_table n at name s named
  reads_query part at q end (empty_query n from i) = λ s. reads_empty n at s i
  reads_query part at q end (query_in_brackets n from inner last i low r close) =
      λ s. chain text tokens (into_query_brackets n at s low i) (chain text tokens (reads_query (WholeQuery (n + 1)) (at + 1) inner last r (Sign lexeme.Close ∷ s) (free_query_close s)) (pass text tokens 34 s last close))
  reads_query part at q end (choice_of_queries n from expr sides left right middle last is l comma r close) =
      λ s. chain text tokens (to_left_query n at sides expr s is)
      (chain text tokens (reads_query (WholeQuery (n + 2)) sides left middle l (Sign lexeme.Comma ∷ QueryPart (n + 2) ∷ Sign lexeme.Close ∷ s) (free_query_comma (QueryPart (n + 2) ∷ Sign lexeme.Close ∷ s)))
      (chain text tokens (pass text tokens 37 (QueryPart (n + 2) ∷ Sign lexeme.Close ∷ s) middle comma)
      (chain text tokens (reads_query (WholeQuery (n + 2)) (middle + 1) right last r (Sign lexeme.Close ∷ s) (free_query_close s)) (pass text tokens 34 s last close))))
  reads_query part at q end (one_source n from inner last r) = λ s free. chain text tokens (open_source n at s) (reads_query (spelled.SourceTerm n) at inner end r (MoreSource n ∷ s) (alias_behind text tokens n s free))
  reads_query part at q end (joined_source n from left right c middle on last l i r j d) =
      λ s free. chain text tokens (reads_query (SourceChain n) at left middle l s free) (chain text tokens (link_join n middle s i free)
      (chain text tokens (reads_query (spelled.SourceTerm n) (middle + 1) right on r (Sign lexeme.On ∷ CondPart n ∷ MoreSource n ∷ s) (free_on (CondPart n ∷ MoreSource n ∷ s)))
      (chain text tokens (pass text tokens 20 (CondPart n ∷ MoreSource n ∷ s) on j) (reads with_params names text tokens (Condition n) (on + 1) c end d (MoreSource n ∷ s) (condition_behind text tokens n s free)))))
  reads_query part at q end (whole_source n from inner last r other) =
      λ s free. chain text tokens (reads_query (SourceChain n) at inner end r s free) (skip text tokens 17 n 19 (SourceTerm n ∷ Sign lexeme.On ∷ CondPart n ∷ MoreSource n ∷ []) s end (λ limit. refl) other)
  reads_query part at q end (plain_source n from inner last r other) =
      λ s free. chain text tokens (open_source_term n at s) (chain text tokens (reads_query (spelled.Simple n) at inner end r (Alias ∷ s)) (skip text tokens 19 0 15 (NAME ∷ []) s end (λ limit. refl) other))
  reads_query part at q end (source_with_alias n from inner name last r i named) =
      λ s free. chain text tokens (open_source_term n at s) (chain text tokens (reads_query (spelled.Simple n) at inner last r (Alias ∷ s)) (chain text tokens (enter text tokens 19 0 15 (NAME ∷ []) s last (λ limit. refl) i free) (pass_to text tokens 100 s (last + 1) (last + 2) (omega arith) (name_takes text tokens (last + 1) name named))))

  abbrev pub FailsQuery : spelled.QueryPart → ℕ → ParseFault → Type 0
  FailsQuery (QueryChain n) at why = (s : Form) → FreeQuery text tokens s → Faulty text tokens (QueryPart n ∷ s) at why
  FailsQuery (WholeQuery n) at why = (s : Form) → FreeQuery text tokens s → Faulty text tokens (QueryPart n ∷ s) at why
  FailsQuery (spelled.Term n) at why = (s : Form) → FreeTerm text tokens s → Faulty text tokens (Term n ∷ s) at why
  FailsQuery (spelled.Simple n) at why = (s : Form) → Faulty text tokens (Simple n ∷ s) at why
  FailsQuery (SourceChain n) at why = (s : Form) → FreeSource text tokens s → Faulty text tokens (SourcePart n ∷ s) at why
  FailsQuery (WholeSource n) at why = (s : Form) → FreeSource text tokens s → Faulty text tokens (SourcePart n ∷ s) at why
  FailsQuery (spelled.SourceTerm n) at why = (s : Form) → Never text tokens 15 s → Faulty text tokens (SourceTerm n ∷ s) at why

  abbrev pub query_nesting : spelled.QueryPart → ℕ
  query_nesting (QueryChain n) = n
  query_nesting (WholeQuery n) = n
  query_nesting (spelled.Term n) = n
  query_nesting (spelled.Simple n) = n
  query_nesting (SourceChain n) = n
  query_nesting (WholeSource n) = n
  query_nesting (spelled.SourceTerm n) = n

  no_query_memory : (part : spelled.QueryPart) (at : ℕ) → FailsQuery part at fault.Memory
  no_query_memory (QueryChain n) at = λ s free. tt
  no_query_memory (WholeQuery n) at = λ s free. tt
  no_query_memory (spelled.Term n) at = λ s free. tt
  no_query_memory (spelled.Simple n) at = λ s. tt
  no_query_memory (SourceChain n) at = λ s free. tt
  no_query_memory (WholeSource n) at = λ s free. tt
  no_query_memory (spelled.SourceTerm n) at = λ s free. tt

  no_simple : (n at : ℕ) (s : Form) → name_at text tokens at ≡ None → stands text tokens at lexeme.Empty ≡ false → stands text tokens at lexeme.Open ≡ false → stands text tokens at lexeme.Choice ≡ false → Faulty text tokens (Simple n ∷ s) at (fault.Syntax at)
  no_simple n at s none a b c =
      stuck text tokens (Simple n ∷ s) at (no_part text tokens 9 n (λ limit. SIMPLE text tokens ++ within (nat_lt n limit) (NESTED text tokens n)) s at (λ limit. refl)
      (λ limit. (not_this text tokens 100 s at (no_name_takes text tokens at none), (not_this text tokens 13 s at a, nested (nat_lt n limit)))))
    where
      nested : (t : Bool) → NoneOf text tokens s at (within t (NESTED text tokens n))
      nested true = (not_this text tokens 33 (QueryPart (n + 1) ∷ Sign lexeme.Close ∷ s) at b, (not_this text tokens 14 (Sign lexeme.OpenSquare ∷ Expression (n + 1) ∷ Sign lexeme.CloseSquare ∷ Nonterminal (Outer 10 (n + 1)) ∷ s) at c, tt))
      nested false = tt

  deep_query : (n at : ℕ) (s : Form) → n ≤ nesting_limit → nesting_limit ≤ n → Takes text tokens 33 at → Faulty text tokens (Simple n ∷ s) at (fault.TooDeep at)
  deep_query n at s high low i =
      deep text tokens 9 n 33 (SIMPLE text tokens) (SIMPLE text tokens) (ChoiceHead text tokens 10 n ∷ []) (QueryPart (n + 1) ∷ Sign lexeme.Close ∷ []) s at low i (flat_forms text tokens n nesting_limit low) (but text tokens 33 100 s at refl i, (but text tokens 33 13 s at refl i, tt)) (λ limit h lower. simple_forms text tokens n limit lower) high

  deep_choice : (n at : ℕ) (s : Form) → n ≤ nesting_limit → nesting_limit ≤ n → Takes text tokens 14 at → Faulty text tokens (Simple n ∷ s) at (fault.TooDeep at)
  deep_choice n at s high low i =
      deep text tokens 9 n 14 (SIMPLE text tokens) (SIMPLE text tokens ++ (Sign lexeme.Open ∷ QueryPart (n + 1) ∷ Sign lexeme.Close ∷ []) ∷ []) [] (Sign lexeme.OpenSquare ∷ Expression (n + 1) ∷ Sign lexeme.CloseSquare ∷ Nonterminal (Outer 10 (n + 1)) ∷ []) s at low i (flat_forms text tokens n nesting_limit low) (but text tokens 14 100 s at refl i, (but text tokens 14 13 s at refl i, tt)) (λ limit h lower. simple_forms text tokens n limit lower) high

  past_left_query : (n at sides middle : ℕ) (expr : Expr) (left : Query) (s : Form) → IsChoice names text tokens n at expr sides → SpellsQuery with_params names text tokens (WholeQuery (n + 2)) sides left middle → Moves text tokens (Simple n ∷ s) at (Sign lexeme.Comma ∷ QueryPart (n + 2) ∷ Sign lexeme.Close ∷ s) middle
  past_left_query n at sides middle expr left s is l = chain text tokens (to_left_query n at sides expr s is) (reads_query (WholeQuery (n + 2)) sides left middle l (Sign lexeme.Comma ∷ QueryPart (n + 2) ∷ Sign lexeme.Close ∷ s) (free_query_comma (QueryPart (n + 2) ∷ Sign lexeme.Close ∷ s)))

  to_right_query : (n at sides middle : ℕ) (expr : Expr) (left : Query) (s : Form) → IsChoice names text tokens n at expr sides → SpellsQuery with_params names text tokens (WholeQuery (n + 2)) sides left middle → Takes text tokens 37 middle → Moves text tokens (Simple n ∷ s) at (QueryPart (n + 2) ∷ Sign lexeme.Close ∷ s) (middle + 1)
  to_right_query n at sides middle expr left s is l comma = chain text tokens (past_left_query n at sides middle expr left s is l) (pass text tokens 37 (QueryPart (n + 2) ∷ Sign lexeme.Close ∷ s) middle comma)

  -- behind a source and `join`
  to_joined : (n at middle : ℕ) (left : Query) (s : Form) → SpellsQuery with_params names text tokens (SourceChain n) at left middle → Takes text tokens 19 middle → FreeSource text tokens s → Moves text tokens (SourcePart n ∷ s) at (SourceTerm n ∷ Sign lexeme.On ∷ CondPart n ∷ MoreSource n ∷ s) (middle + 1)
  to_joined n at middle left s l i free = chain text tokens (reads_query (SourceChain n) at left middle l s free) (link_join n middle s i free)

  to_on : (n at middle on : ℕ) (left right : Query) (s : Form) → SpellsQuery with_params names text tokens (SourceChain n) at left middle → Takes text tokens 19 middle → SpellsQuery with_params names text tokens (spelled.SourceTerm n) (middle + 1) right on → FreeSource text tokens s → Moves text tokens (SourcePart n ∷ s) at (Sign lexeme.On ∷ CondPart n ∷ MoreSource n ∷ s) on
  to_on n at middle on left right s l i r free = chain text tokens (to_joined n at middle left s l i free) (reads_query (spelled.SourceTerm n) (middle + 1) right on r (Sign lexeme.On ∷ CondPart n ∷ MoreSource n ∷ s) (free_on (CondPart n ∷ MoreSource n ∷ s)))

  pub fails_query : (part : spelled.QueryPart) (at : ℕ) (why : ParseFault) → query_nesting part ≤ nesting_limit → QueryFault with_params names text tokens part at why → FailsQuery part at why
  fails_query part at why high (query_memory p from) = no_query_memory part at
  fails_query part at why high (in_first_term n from w f) = λ s free. behind text tokens why (open_query n at s) (fails_query (spelled.Term n) at why high f (MoreQuery n ∷ s) (term_behind text tokens n s free))
  fails_query part at why high (in_union_term n from left middle w l i f) =
      λ s free. behind text tokens why (chain text tokens (reads_query (QueryChain n) at left middle l s free) (link_union n middle s i free)) (fails_query (spelled.Term n) (middle + 1) why high f (MoreQuery n ∷ s) (term_behind text tokens n s free))
  fails_query part at why high (in_except_term n from left middle w l i f) =
      λ s free. behind text tokens why (chain text tokens (reads_query (QueryChain n) at left middle l s free) (link_except n middle s i free)) (fails_query (spelled.Term n) (middle + 1) why high f (MoreQuery n ∷ s) (term_behind text tokens n s free))
  fails_query part at why high (in_items n from w i f) = λ s free. behind text tokens why (into_select n at s i) (fails_items names text tokens n (at + 1) why (SourcePart n ∷ Where n ∷ s) high f)
  fails_query part at why high (no_from n from items mid i is other) =
      λ s free. behind text tokens why (chain text tokens (into_select n at s i) (reads_items names text tokens n (at + 1) mid items (SourcePart n ∷ Where n ∷ s) is)) (missing text tokens 17 (SourcePart n ∷ Where n ∷ s) mid other)
  fails_query part at why high (in_source n from items mid w i is j f) =
      λ s free. behind text tokens why (to_source n at mid items s i is j) (fails_query (WholeSource n) (mid + 1) why high f (Where n ∷ s) (source_behind text tokens n s free))
  fails_query part at why high (in_select_where n from items source mid last w i is j r f) =
      λ s free. behind text tokens why (chain text tokens (to_source n at mid items s i is j) (reads_query (WholeSource n) (mid + 1) source last r (Where n ∷ s) (source_behind text tokens n s free)))
      (fails_where with_params names text tokens n last why s high f free.source_free.condition_free free.where_free)
  fails_query part at why high (in_simple_term n from w other f) =
      λ s free. behind text tokens why (into_simple n at s (not_this text tokens 12 (ItemsPart n ∷ Sign lexeme.From ∷ SourcePart n ∷ Where n ∷ s) at other)) (fails_query (spelled.Simple n) at why high f s)
  fails_query part at why high (no_simple_query n from none a b c) = λ s. no_simple n at s none a b c
  fails_query part at why high (query_too_deep n from i low) = λ s. deep_query n at s high low i
  fails_query part at why high (in_query_brackets n from w i low f) =
      λ s. behind text tokens why (into_query_brackets n at s low i) (fails_query (WholeQuery (n + 1)) (at + 1) why (omega (arith, low)) f (Sign lexeme.Close ∷ s) (free_query_close s))
  fails_query part at why high (query_unclosed n from q end i low r other) =
      λ s. behind text tokens why (chain text tokens (into_query_brackets n at s low i) (reads_query (WholeQuery (n + 1)) (at + 1) q end r (Sign lexeme.Close ∷ s) (free_query_close s))) (missing text tokens 34 s end other)
  fails_query part at why high (in_query_choice n from w f) =
      λ s. faulty_choice text tokens names 10 n at why (QueryPart (n + 2) ∷ Sign lexeme.Comma ∷ QueryPart (n + 2) ∷ Sign lexeme.Close ∷ []) (Simple n ∷ s) s (query_sides n) (λ i low. deep_choice n at s high low i) (λ i low. into_query_choice n at s low i) f
  fails_query part at why high (in_left_query n from expr sides w is f) =
      λ s. behind text tokens why (to_left_query n at sides expr s is) (fails_query (WholeQuery (n + 2)) sides why (omega (arith, is.sides_within)) f (Sign lexeme.Comma ∷ QueryPart (n + 2) ∷ Sign lexeme.Close ∷ s) (free_query_comma (QueryPart (n + 2) ∷ Sign lexeme.Close ∷ s)))
  fails_query part at why high (no_right_query n from expr sides left middle is l other) =
      λ s. behind text tokens why (past_left_query n at sides middle expr left s is l) (missing text tokens 37 (QueryPart (n + 2) ∷ Sign lexeme.Close ∷ s) middle other)
  fails_query part at why high (in_right_query n from expr sides left middle w is l comma f) =
      λ s. behind text tokens why (to_right_query n at sides middle expr left s is l comma) (fails_query (WholeQuery (n + 2)) (middle + 1) why (omega (arith, is.sides_within)) f (Sign lexeme.Close ∷ s) (free_query_close s))
  fails_query part at why high (query_sides_unclosed n from expr sides left right middle end is l comma r other) =
      λ s. behind text tokens why (chain text tokens (to_right_query n at sides middle expr left s is l comma) (reads_query (WholeQuery (n + 2)) (middle + 1) right end r (Sign lexeme.Close ∷ s) (free_query_close s))) (missing text tokens 34 s end other)
  fails_query part at why high (in_first_source n from w f) = λ s free. behind text tokens why (open_source n at s) (fails_query (spelled.SourceTerm n) at why high f (MoreSource n ∷ s) (alias_behind text tokens n s free))
  fails_query part at why high (in_joined_source n from left middle w l i f) =
      λ s free. behind text tokens why (to_joined n at middle left s l i free) (fails_query (spelled.SourceTerm n) (middle + 1) why high f (Sign lexeme.On ∷ CondPart n ∷ MoreSource n ∷ s) (free_on (CondPart n ∷ MoreSource n ∷ s)))
  fails_query part at why high (no_on n from left right middle on l i r other) =
      λ s free. behind text tokens why (to_on n at middle on left right s l i r free) (missing text tokens 20 (CondPart n ∷ MoreSource n ∷ s) on other)
  fails_query part at why high (in_on n from left right middle on w l i r j f) =
      λ s free. behind text tokens why (chain text tokens (to_on n at middle on left right s l i r free) (pass text tokens 20 (CondPart n ∷ MoreSource n ∷ s) on j)) (fails with_params names text tokens (Condition n) (on + 1) why high f (MoreSource n ∷ s) (condition_behind text tokens n s free))
  fails_query part at why high (in_source_term n from w f) = λ s free. behind text tokens why (open_source_term n at s) (fails_query (spelled.Simple n) at why high f (Alias ∷ s))
  fails_query part at why high (no_alias n from q end r i none) =
      λ s free. behind text tokens why (chain text tokens (open_source_term n at s) (chain text tokens (reads_query (spelled.Simple n) at q end r (Alias ∷ s)) (enter text tokens 19 0 15 (NAME ∷ []) s end (λ limit. refl) i free))) (missing text tokens 100 s (end + 1) (no_name_takes text tokens (end + 1) none))
