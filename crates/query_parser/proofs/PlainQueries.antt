-- A query that a text spells is plain.
use Rattle.std.proofs.Common.{◌≡◌, ℕ, ◌+◌, ◌<◌, ◌≤◌, Bool, true, false, List, [], ◌∷◌, Option, Some, None, refl, arith}
use Rattle.word_tokens.specs.Tokens.{AreTokens}
use Rattle.feature_expr.specs.declared.expr.Expr.{Expr}
use Rattle.word_tokens.specs.declared.token.Token.{Token}
use Rattle.vra_syntax.specs.declared.cond.Cond.{Cond}
use Rattle.vra_syntax.specs.declared.items.Item.{Item}
use Rattle.vra_syntax.specs.declared.items.Items.{Items}
use Rattle.vra_syntax.specs.declared.items.Items.TheVariants as items
use Rattle.vra_syntax.specs.declared.query.Query.{Query}
use Rattle.vra_syntax.specs.declared.query.Query as query
use Rattle.query_printer.specs.Printing.{takes_chain, takes_select, takes_join, takes_alias}
use Rattle.query_parser.specs.Queries.{QueryPart, QueryChain, WholeQuery, Term, Simple, SourceChain, WholeSource, SourceTerm, SpellsQuery, one_term, union_term, except_term, whole_query, select_term, simple_term, table, empty_query, query_in_brackets, choice_of_queries, one_source, joined_source, whole_source, plain_source, source_with_alias}
use Rattle.feature_expr.specs.Nesting.{nesting_limit}
use Rattle.query_printer.specs.declared.print_cond.CondPlace.TheVariants as cplace
use Rattle.query_printer.specs.declared.print_query.QueryPlace.{QueryPlace}
use Rattle.query_printer.specs.declared.print_query.QueryPlace.TheVariants as qplace
use Rattle.query_parser.proofs.Printables.{PlainItemWhen, PlainItem, PlainItemList, PlainItems, PlainCond, PlainQuery, plain_table, plain_empty, free_select, bound_select, plain_join, free_union, bound_union, free_except, bound_except, plain_alias, plain_query_choice}
use Rattle.query_parser.proofs.PlainTokens.{plain_name}
use Rattle.query_parser.proofs.PlainParts.{plain_choice_at, plain_items_at}
use Rattle.query_parser.proofs.PlainConds.{expr_shallower, cond_shallower, plain_condition_at, plain_where_at}

-- fewer brackets may be open round items
when_shallower : (names : List (List ℕ)) (m n : ℕ) (expr : Option Expr) → n ≤ m → PlainItemWhen names m expr → PlainItemWhen names n expr
when_shallower names m n None low plain = tt
when_shallower names m n (Some expr) low plain = expr_shallower names m n expr low plain

item_shallower : (names : List (List ℕ)) (m n : ℕ) (item : Item) → n ≤ m → PlainItem names m item → PlainItem names n item
item_shallower names m n item low plain = record { column = plain.column; rename = plain.rename; condition = when_shallower names m n item.cond low plain.condition }

list_shallower : (names : List (List ℕ)) (m n : ℕ) (listed : List Item) → n ≤ m → PlainItemList names m listed → PlainItemList names n listed
list_shallower names m n [] low plain = tt
list_shallower names m n (item ∷ listed) low plain = (item_shallower names m n item low plain.0, list_shallower names m n listed low plain.1)

items_shallower : (names : List (List ℕ)) (m n : ℕ) (kept : Items) → n ≤ m → PlainItems names m kept → PlainItems names n kept
items_shallower names m n items.All low plain = tt
items_shallower names m n (items.Listed listed) low plain = (plain.0, list_shallower names m n listed low plain.1)

module _ (with_params : Bool) (names : List (List ℕ)) where
  abbrev Plain : ℕ → QueryPlace → Query → Type 0
  Plain n at q = PlainQuery with_params names n at q

  abbrev Where : ℕ → Cond → Type 0
  Where n c = PlainCond with_params names n cplace.Disjunct c

  where_shallower : (m n : ℕ) (c : Cond) → n ≤ m → Where m c → Where n c
  where_shallower m n c low p = cond_shallower with_params names m n cplace.Disjunct c low p

  -- fewer brackets may be open round a query
  query_shallower : (m n : ℕ) (at : QueryPlace) (q : Query) → n ≤ m → Plain m at q → Plain n at q
  query_shallower k n a x low (plain_table m at name p) = plain_table n a name p
  query_shallower k n a x low (plain_empty m at) = plain_empty n a
  query_shallower k n a x low (free_select m at kept source c free i p w) =
      free_select n a kept source c free (items_shallower names m n kept low i) (query_shallower m n qplace.Source source low p) (where_shallower m n c low w)
  query_shallower k n a x low (bound_select m at kept source c bound deep i p w) =
      bound_select n a kept source c bound (omega (arith, low, deep)) (items_shallower names (m + 1) (n + 1) kept (omega (arith, low)) i) (query_shallower (m + 1) (n + 1) qplace.Source source (omega (arith, low)) p) (where_shallower (m + 1) (n + 1) c (omega (arith, low)) w)
  query_shallower k n a x low (plain_join m at left right c free p q w) =
      plain_join n a left right c free (query_shallower m n qplace.Source left low p) (query_shallower m n qplace.Joined right low q) (where_shallower m n c low w)
  query_shallower k n a x low (free_union m at left right free p q) = free_union n a left right free (query_shallower m n qplace.Whole left low p) (query_shallower m n qplace.Term right low q)
  query_shallower k n a x low (bound_union m at left right bound deep p q) =
      bound_union n a left right bound (omega (arith, low, deep)) (query_shallower (m + 1) (n + 1) qplace.Whole left (omega (arith, low)) p) (query_shallower (m + 1) (n + 1) qplace.Term right (omega (arith, low)) q)
  query_shallower k n a x low (free_except m at left right free p q) = free_except n a left right free (query_shallower m n qplace.Whole left low p) (query_shallower m n qplace.Term right low q)
  query_shallower k n a x low (bound_except m at left right bound deep p q) =
      bound_except n a left right bound (omega (arith, low, deep)) (query_shallower (m + 1) (n + 1) qplace.Whole left (omega (arith, low)) p) (query_shallower (m + 1) (n + 1) qplace.Term right (omega (arith, low)) q)
  query_shallower k n a x low (plain_alias m at source name free p named) = plain_alias n a source name free (query_shallower m n qplace.Named source low p) named
  query_shallower k n a x low (plain_query_choice m at expr left right deep e p q) =
      plain_query_choice n a expr left right (omega (arith, low, deep)) (expr_shallower names (m + 1) (n + 1) expr (omega (arith, low)) e) (query_shallower (m + 2) (n + 2) qplace.Whole left (omega (arith, low)) p) (query_shallower (m + 2) (n + 2) qplace.Whole right (omega (arith, low)) q)

  -- a select or a chain at a place where it needs brackets or not
  select_at : (n : ℕ) (at : QueryPlace) (kept : Items) (source : Query) (c : Cond) (b : Bool) → takes_select at ≡ b → n < nesting_limit → PlainItems names (n + 1) kept → Plain (n + 1) qplace.Source source → Where (n + 1) c → Plain n at (query.Select kept source c)
  select_at n at kept source c true is deep i p w =
      free_select n at kept source c is (items_shallower names (n + 1) n kept (omega arith) i) (query_shallower (n + 1) n qplace.Source source (omega arith) p) (where_shallower (n + 1) n c (omega arith) w)
  select_at n at kept source c false is deep i p w = bound_select n at kept source c is deep i p w

  union_at : (n : ℕ) (at : QueryPlace) (left right : Query) (b : Bool) → takes_chain at ≡ b → n < nesting_limit → Plain (n + 1) qplace.Whole left → Plain (n + 1) qplace.Term right → Plain n at (query.Union left right)
  union_at n at left right true is deep p q = free_union n at left right is (query_shallower (n + 1) n qplace.Whole left (omega arith) p) (query_shallower (n + 1) n qplace.Term right (omega arith) q)
  union_at n at left right false is deep p q = bound_union n at left right is deep p q

  except_at : (n : ℕ) (at : QueryPlace) (left right : Query) (b : Bool) → takes_chain at ≡ b → n < nesting_limit → Plain (n + 1) qplace.Whole left → Plain (n + 1) qplace.Term right → Plain n at (query.Except left right)
  except_at n at left right true is deep p q = free_except n at left right is (query_shallower (n + 1) n qplace.Whole left (omega arith) p) (query_shallower (n + 1) n qplace.Term right (omega arith) q)
  except_at n at left right false is deep p q = bound_except n at left right is deep p q

  -- all that may stand without brackets at the one place may at the other
  record Takes (from at : QueryPlace) : Type 0 where
    selects : takes_select from ≡ true → takes_select at ≡ true
    joins : takes_join from ≡ true → takes_join at ≡ true
    chains : takes_chain from ≡ true → takes_chain at ≡ true
    aliases : takes_alias from ≡ true → takes_alias at ≡ true

  query_looser : (n : ℕ) (from at : QueryPlace) (q : Query) → Takes from at → Plain n from q → Plain n at q
  query_looser k f at x t (plain_table n from name p) = plain_table n at name p
  query_looser k f at x t (plain_empty n from) = plain_empty n at
  query_looser k f at x t (free_select n from kept source c free i p w) = free_select n at kept source c (t.selects free) i p w
  query_looser k f at x t (bound_select n from kept source c bound deep i p w) = select_at n at kept source c (takes_select at) refl deep i p w
  query_looser k f at x t (plain_join n from left right c free p q w) = plain_join n at left right c (t.joins free) p q w
  query_looser k f at x t (free_union n from left right free p q) = free_union n at left right (t.chains free) p q
  query_looser k f at x t (bound_union n from left right bound deep p q) = union_at n at left right (takes_chain at) refl deep p q
  query_looser k f at x t (free_except n from left right free p q) = free_except n at left right (t.chains free) p q
  query_looser k f at x t (bound_except n from left right bound deep p q) = except_at n at left right (takes_chain at) refl deep p q
  query_looser k f at x t (plain_alias n from source name free p named) = plain_alias n at source name (t.aliases free) p named
  query_looser k f at x t (plain_query_choice n from expr left right deep e p q) = plain_query_choice n at expr left right deep e p q

  term_of : (n : ℕ) (q : Query) → Plain n qplace.Named q → Plain n qplace.Term q
  unfolding takes_select takes_join takes_chain takes_alias
  term_of n q p = query_looser n qplace.Named qplace.Term q (record { selects = λ h. absurd (cc h); joins = λ h. absurd (cc h); chains = λ h. absurd (cc h); aliases = λ h. absurd (cc h) }) p

  whole_of : (n : ℕ) (q : Query) → Plain n qplace.Term q → Plain n qplace.Whole q
  unfolding takes_select takes_join takes_chain takes_alias
  whole_of n q p = query_looser n qplace.Term qplace.Whole q (record { selects = λ h. refl; joins = λ h. absurd (cc h); chains = λ h. refl; aliases = λ h. absurd (cc h) }) p

  joined_of : (n : ℕ) (q : Query) → Plain n qplace.Named q → Plain n qplace.Joined q
  unfolding takes_select takes_join takes_chain takes_alias
  joined_of n q p = query_looser n qplace.Named qplace.Joined q (record { selects = λ h. absurd (cc h); joins = λ h. absurd (cc h); chains = λ h. absurd (cc h); aliases = λ h. refl }) p

  source_of : (n : ℕ) (q : Query) → Plain n qplace.Joined q → Plain n qplace.Source q
  unfolding takes_select takes_join takes_chain takes_alias
  source_of n q p = query_looser n qplace.Joined qplace.Source q (record { selects = λ h. absurd (cc h); joins = λ h. refl; chains = λ h. absurd (cc h); aliases = λ h. refl }) p

  -- in brackets it is a simple query
  named_of : (n : ℕ) (q : Query) → n < nesting_limit → Plain (n + 1) qplace.Whole q → Plain n qplace.Named q
  unfolding takes_select takes_join takes_chain takes_alias
  named_of n x deep (plain_table m at name p) = plain_table n qplace.Named name p
  named_of n x deep (plain_empty m at) = plain_empty n qplace.Named
  named_of n x deep (free_select m at kept source c free i p w) = bound_select n qplace.Named kept source c refl deep i p w
  named_of n x deep (bound_select m at kept source c bound deep' i p w) = absurd (cc bound)
  named_of n x deep (plain_join m at left right c free p q w) = absurd (cc free)
  named_of n x deep (free_union m at left right free p q) = bound_union n qplace.Named left right refl deep p q
  named_of n x deep (bound_union m at left right bound deep' p q) = absurd (cc bound)
  named_of n x deep (free_except m at left right free p q) = bound_except n qplace.Named left right refl deep p q
  named_of n x deep (bound_except m at left right bound deep' p q) = absurd (cc bound)
  named_of n x deep (plain_alias m at source name free p named) = absurd (cc free)
  named_of n x deep (plain_query_choice m at expr left right deep' e p q) =
      plain_query_choice n qplace.Named expr left right (omega (arith, deep')) (expr_shallower names (n + 1 + 1) (n + 1) expr (omega arith) e) (query_shallower (n + 1 + 2) (n + 2) qplace.Whole left (omega arith) p) (query_shallower (n + 1 + 2) (n + 2) qplace.Whole right (omega arith) q)

module _ (with_params : Bool) (names : List (List ℕ)) (text : List ℕ) (tokens : List Token) (are : AreTokens text tokens) where
  -- where each part may stand
  abbrev PlainPart : QueryPart → Query → Type 0
  PlainPart (QueryChain n) q = n ≤ nesting_limit → PlainQuery with_params names n qplace.Whole q
  PlainPart (WholeQuery n) q = n ≤ nesting_limit → PlainQuery with_params names n qplace.Whole q
  PlainPart (Term n) q = n ≤ nesting_limit → PlainQuery with_params names n qplace.Term q
  PlainPart (Simple n) q = n ≤ nesting_limit → PlainQuery with_params names n qplace.Named q
  PlainPart (SourceChain n) q = n ≤ nesting_limit → PlainQuery with_params names n qplace.Source q
  PlainPart (WholeSource n) q = n ≤ nesting_limit → PlainQuery with_params names n qplace.Source q
  PlainPart (SourceTerm n) q = n ≤ nesting_limit → PlainQuery with_params names n qplace.Joined q

  plain_part : (part : QueryPart) (at : ℕ) (q : Query) (end : ℕ) → SpellsQuery with_params names text tokens part at q end → PlainPart part q
  unfolding takes_select takes_join takes_chain takes_alias
  plain_part p a x z (one_term n at q end d) = λ low. whole_of with_params names n q (plain_part (Term n) at q end d low)
  plain_part p a x z (union_term n at left right middle end d is d') = λ low. free_union n qplace.Whole left right refl (plain_part (QueryChain n) at left middle d low) (plain_part (Term n) (middle + 1) right end d' low)
  plain_part p a x z (except_term n at left right middle end d is d') = λ low. free_except n qplace.Whole left right refl (plain_part (QueryChain n) at left middle d low) (plain_part (Term n) (middle + 1) right end d' low)
  plain_part p a x z (whole_query n at q end d union except) = plain_part (QueryChain n) at q end d
  plain_part p a x z (select_term n at kept source c from behind end is i from_word d w) = λ low.
      free_select n qplace.Term kept source c refl (plain_items_at names text tokens n (at + 1) kept from low i) (plain_part (WholeSource n) (from + 1) source behind d low) (plain_where_at with_params names text tokens are n behind c end w)
  plain_part p a x z (simple_term n at q end d) = λ low. term_of with_params names n q (plain_part (Simple n) at q end d low)
  plain_part p a x z (table n at name named) = λ low. plain_table n qplace.Named name (plain_name text tokens at name named)
  plain_part p a x z (empty_query n at is) = λ low. plain_empty n qplace.Named
  plain_part p a x z (query_in_brackets n at q end is deep d close) = λ low. named_of with_params names n q deep (plain_part (WholeQuery (n + 1)) (at + 1) q end d (omega (arith, deep)))
  plain_part p a x z (choice_of_queries n at expr sides left right middle end is d comma d' close) = λ low.
      let deep = is.sides_within in
      plain_query_choice n qplace.Named expr left right deep (plain_choice_at names text tokens n at expr sides is) (plain_part (WholeQuery (n + 2)) sides left middle d (omega (arith, deep))) (plain_part (WholeQuery (n + 2)) (middle + 1) right end d' (omega (arith, deep)))
  plain_part p a x z (one_source n at q end d) = λ low. source_of with_params names n q (plain_part (SourceTerm n) at q end d low)
  plain_part p a x z (joined_source n at left right c middle on end d is d' on_word w) = λ low.
      plain_join n qplace.Source left right c refl (plain_part (SourceChain n) at left middle d low) (plain_part (SourceTerm n) (middle + 1) right on d' low) (plain_condition_at with_params names text tokens are n (on + 1) c end w)
  plain_part p a x z (whole_source n at q end d none) = plain_part (SourceChain n) at q end d
  plain_part p a x z (plain_source n at q end d none) = λ low. joined_of with_params names n q (plain_part (Simple n) at q end d low)
  plain_part p a x z (source_with_alias n at q name end d is named) = λ low. plain_alias n qplace.Joined q name refl (plain_part (Simple n) at q end d low) (plain_name text tokens (end + 1) name named)

  pub plain_query_at : (n at : ℕ) (q : Query) (end : ℕ) → n ≤ nesting_limit → SpellsQuery with_params names text tokens (WholeQuery n) at q end → PlainQuery with_params names n qplace.Whole q
  plain_query_at n at q end low d = plain_part (WholeQuery n) at q end d low
