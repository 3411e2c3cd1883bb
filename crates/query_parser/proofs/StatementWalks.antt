-- Going through statements and whole texts.
use Rattle.std.proofs.Common.{Bool, true, false, ◌≡◌, subst, ◌<◌, ◌||◌, ℕ, ◌+◌, List, [], ◌∷◌, length, Some, ◌⊎◌, inl, inr, refl, arith}
use Rattle.feature_expr.specs.declared.expr.Expr.{Expr}
use Rattle.word_tokens.specs.declared.token.Token.{Token}
use Rattle.vra_syntax.specs.declared.cond.Cond.{Cond}
use Rattle.vra_syntax.specs.declared.cond.Operand.{Operand}
use Rattle.vra_syntax.specs.declared.query.Query.{Query}
use Rattle.vra_syntax.specs.declared.statement.Statement.{Statement}
use Rattle.vra_syntax.specs.declared.write.SetItem.{SetItem}
use Rattle.query_parser.specs.Lexemes.{lexeme_at, stands, name_at}
use Rattle.query_parser.specs.Queries as spelled
use Rattle.query_parser.specs.Queries.{QueryChain, WholeQuery, SourceChain, SpellsQuery, one_term, union_term, except_term, whole_query, select_term, simple_term, table, empty_query, query_in_brackets, choice_of_queries, one_source, joined_source, whole_source, plain_source, source_with_alias}
use Rattle.query_parser.specs.Conditions.{IsWhere}
use Rattle.query_parser.specs.Faults.{WhereFault, WhenFault}
use Rattle.query_parser.specs.Parts.{IsWhen}
use Rattle.query_parser.specs.Statements.{TuplesTo, SetItemsTo, NamesTo, one_name, another_name, IsInsert, IsDelete, IsUpdate, IsTail, no_tail, transaction_tail, work_tail, IsSetting, word_setting, integer_setting, text_setting, SpellsStatement, begin_statement, commit_statement, rollback_statement, set_statement, insert_statement, delete_statement, update_statement, query_statement, StatementsBefore, no_statement_yet, no_statement_here, another_statement, AreStatements, ends_bare, ends_with_statement}
use Rattle.query_parser.specs.StatementGrammar.{takes, is_word, Form, Sign, NAME, WORD, Statements, MoreStatements, StatementPart, Tail, SetSign, SetValue, Expression, CondPart, QueryPart, When, Where, MoreNames, TuplePart, MoreTuples, SetPart, MoreSets, IsViable, IsViableFault}
use Rattle.query_parser.specs.WriteFaults.{InsertFault, insert_memory, no_into, no_insert_table, no_names, in_names, no_values, in_tuples, in_insert_when, DeleteFault, delete_memory, no_delete_from, no_delete_table, in_delete_where, in_delete_when, UpdateFault, update_memory, no_update_table, no_set, in_set_items, in_update_where, in_update_when, SettingFault, no_setting, no_to, no_setting_value, setting_too_large, BeginsQuery, StatementFault, statement_memory, in_setting, in_insert, in_delete, in_update, in_query, StatementsFault, statements_memory, in_statement, statement_unended}
use Rattle.query_parser.specs.declared.fault.ParseFault.{ParseFault}
use Rattle.query_parser.specs.declared.fault.ParseFault.TheVariants as fault
use Rattle.query_parser.specs.declared.lexeme.Lexeme.TheVariants as lexeme
use Rattle.feature_expr.specs.Nesting.{nesting_limit}
use Rattle.query_parser.proofs.SignLaws.{name_takes, no_name_takes, ValueFault, not_a_value, too_large, too_many, none_taken, value_fault, end_place}
use Rattle.query_parser.proofs.Walks.{apart, not_both, Takes, Moves, stays, chain, moved, Excluded, Never, not_this, no_part, choose, pass, pass_to, Faulty, reaches, behind, stuck, missing}
use Rattle.query_parser.proofs.PartWalks.{but}
use Rattle.query_parser.proofs.CondWalks.{FreeCondition, never_optional, free_optional, reads_where, fails_where}
use Rattle.query_parser.proofs.QueryWalks.{FreeQuery, never_query, reads_query, fails_query, reads_when, fails_when}
use Rattle.query_parser.proofs.WriteWalks.{one_more, reads_names, close_names, fails_names, reads_tuples, end_tuples, fails_tuples, reads_sets, end_sets, fails_sets}

module _ (text : List ℕ) (tokens : List Token) where
  -- a token that is one sign isn't another
  isnt : (one other at : ℕ) → apart one other ≡ true → Takes text tokens one at → takes other (lexeme_at text tokens at) ≡ false
  isnt one other at far i = by (takes other (lexeme_at text tokens at)) refl
    where
      by : (b : Bool) → takes other (lexeme_at text tokens at) ≡ b → b ≡ false
      by true e = absurd (not_both one other (lexeme_at text tokens at) far i e)
      by false e = refl

  pub into_begin : (at : ℕ) (s : Form) → Takes text tokens 5 at → Moves text tokens (StatementPart ∷ s) at (Tail ∷ s) (at + 1)
  into_begin at s i =
      chain text tokens (choose text tokens 2 0 ([]) (Sign lexeme.Begin ∷ Tail ∷ []) ((Sign lexeme.Commit ∷ Tail ∷ []) ∷ (Sign lexeme.Rollback ∷ Tail ∷ []) ∷ (Sign lexeme.Set ∷ WORD ∷ SetSign ∷ SetValue ∷ []) ∷ (Sign lexeme.Insert ∷ Sign lexeme.Into ∷ NAME ∷ Sign lexeme.Open ∷ NAME ∷ MoreNames 1 ∷ When 0 ∷ []) ∷ (Sign lexeme.Delete ∷ Sign lexeme.From ∷ NAME ∷ Where 0 ∷ When 0 ∷ []) ∷ (Sign lexeme.Update ∷ NAME ∷ Sign lexeme.Set ∷ SetPart ∷ MoreSets ∷ Where 0 ∷ When 0 ∷ []) ∷ (QueryPart 0 ∷ []) ∷ []) s at (λ limit h. refl)
      tt
      (but text tokens 5 6 (Tail ∷ s) at refl i, (but text tokens 5 7 (Tail ∷ s) at refl i, (but text tokens 5 8 (WORD ∷ SetSign ∷ SetValue ∷ s) at refl i, (but text tokens 5 9 (Sign lexeme.Into ∷ NAME ∷ Sign lexeme.Open ∷ NAME ∷ MoreNames 1 ∷ When 0 ∷ s) at refl i, (but text tokens 5 10 (Sign lexeme.From ∷ NAME ∷ Where 0 ∷ When 0 ∷ s) at refl i, (but text tokens 5 11 (NAME ∷ Sign lexeme.Set ∷ SetPart ∷ MoreSets ∷ Where 0 ∷ When 0 ∷ s) at refl i, (never_query text tokens 5 0 s at refl refl refl refl refl i, tt))))))))
      (pass text tokens 5 (Tail ∷ s) at i)

  pub into_commit : (at : ℕ) (s : Form) → Takes text tokens 6 at → Moves text tokens (StatementPart ∷ s) at (Tail ∷ s) (at + 1)
  into_commit at s i =
      chain text tokens (choose text tokens 2 0 ((Sign lexeme.Begin ∷ Tail ∷ []) ∷ []) (Sign lexeme.Commit ∷ Tail ∷ []) ((Sign lexeme.Rollback ∷ Tail ∷ []) ∷ (Sign lexeme.Set ∷ WORD ∷ SetSign ∷ SetValue ∷ []) ∷ (Sign lexeme.Insert ∷ Sign lexeme.Into ∷ NAME ∷ Sign lexeme.Open ∷ NAME ∷ MoreNames 1 ∷ When 0 ∷ []) ∷ (Sign lexeme.Delete ∷ Sign lexeme.From ∷ NAME ∷ Where 0 ∷ When 0 ∷ []) ∷ (Sign lexeme.Update ∷ NAME ∷ Sign lexeme.Set ∷ SetPart ∷ MoreSets ∷ Where 0 ∷ When 0 ∷ []) ∷ (QueryPart 0 ∷ []) ∷ []) s at (λ limit h. refl)
      (but text tokens 6 5 (Tail ∷ s) at refl i, tt)
      (but text tokens 6 7 (Tail ∷ s) at refl i, (but text tokens 6 8 (WORD ∷ SetSign ∷ SetValue ∷ s) at refl i, (but text tokens 6 9 (Sign lexeme.Into ∷ NAME ∷ Sign lexeme.Open ∷ NAME ∷ MoreNames 1 ∷ When 0 ∷ s) at refl i, (but text tokens 6 10 (Sign lexeme.From ∷ NAME ∷ Where 0 ∷ When 0 ∷ s) at refl i, (but text tokens 6 11 (NAME ∷ Sign lexeme.Set ∷ SetPart ∷ MoreSets ∷ Where 0 ∷ When 0 ∷ s) at refl i, (never_query text tokens 6 0 s at refl refl refl refl refl i, tt)))))))
      (pass text tokens 6 (Tail ∷ s) at i)

  pub into_rollback : (at : ℕ) (s : Form) → Takes text tokens 7 at → Moves text tokens (StatementPart ∷ s) at (Tail ∷ s) (at + 1)
  into_rollback at s i =
      chain text tokens (choose text tokens 2 0 ((Sign lexeme.Begin ∷ Tail ∷ []) ∷ (Sign lexeme.Commit ∷ Tail ∷ []) ∷ []) (Sign lexeme.Rollback ∷ Tail ∷ []) ((Sign lexeme.Set ∷ WORD ∷ SetSign ∷ SetValue ∷ []) ∷ (Sign lexeme.Insert ∷ Sign lexeme.Into ∷ NAME ∷ Sign lexeme.Open ∷ NAME ∷ MoreNames 1 ∷ When 0 ∷ []) ∷ (Sign lexeme.Delete ∷ Sign lexeme.From ∷ NAME ∷ Where 0 ∷ When 0 ∷ []) ∷ (Sign lexeme.Update ∷ NAME ∷ Sign lexeme.Set ∷ SetPart ∷ MoreSets ∷ Where 0 ∷ When 0 ∷ []) ∷ (QueryPart 0 ∷ []) ∷ []) s at (λ limit h. refl)
      (but text tokens 7 5 (Tail ∷ s) at refl i, (but text tokens 7 6 (Tail ∷ s) at refl i, tt))
      (but text tokens 7 8 (WORD ∷ SetSign ∷ SetValue ∷ s) at refl i, (but text tokens 7 9 (Sign lexeme.Into ∷ NAME ∷ Sign lexeme.Open ∷ NAME ∷ MoreNames 1 ∷ When 0 ∷ s) at refl i, (but text tokens 7 10 (Sign lexeme.From ∷ NAME ∷ Where 0 ∷ When 0 ∷ s) at refl i, (but text tokens 7 11 (NAME ∷ Sign lexeme.Set ∷ SetPart ∷ MoreSets ∷ Where 0 ∷ When 0 ∷ s) at refl i, (never_query text tokens 7 0 s at refl refl refl refl refl i, tt))))))
      (pass text tokens 7 (Tail ∷ s) at i)

  pub into_set : (at : ℕ) (s : Form) → Takes text tokens 8 at → Moves text tokens (StatementPart ∷ s) at (WORD ∷ SetSign ∷ SetValue ∷ s) (at + 1)
  into_set at s i =
      chain text tokens (choose text tokens 2 0 ((Sign lexeme.Begin ∷ Tail ∷ []) ∷ (Sign lexeme.Commit ∷ Tail ∷ []) ∷ (Sign lexeme.Rollback ∷ Tail ∷ []) ∷ []) (Sign lexeme.Set ∷ WORD ∷ SetSign ∷ SetValue ∷ []) ((Sign lexeme.Insert ∷ Sign lexeme.Into ∷ NAME ∷ Sign lexeme.Open ∷ NAME ∷ MoreNames 1 ∷ When 0 ∷ []) ∷ (Sign lexeme.Delete ∷ Sign lexeme.From ∷ NAME ∷ Where 0 ∷ When 0 ∷ []) ∷ (Sign lexeme.Update ∷ NAME ∷ Sign lexeme.Set ∷ SetPart ∷ MoreSets ∷ Where 0 ∷ When 0 ∷ []) ∷ (QueryPart 0 ∷ []) ∷ []) s at (λ limit h. refl)
      (but text tokens 8 5 (Tail ∷ s) at refl i, (but text tokens 8 6 (Tail ∷ s) at refl i, (but text tokens 8 7 (Tail ∷ s) at refl i, tt)))
      (but text tokens 8 9 (Sign lexeme.Into ∷ NAME ∷ Sign lexeme.Open ∷ NAME ∷ MoreNames 1 ∷ When 0 ∷ s) at refl i, (but text tokens 8 10 (Sign lexeme.From ∷ NAME ∷ Where 0 ∷ When 0 ∷ s) at refl i, (but text tokens 8 11 (NAME ∷ Sign lexeme.Set ∷ SetPart ∷ MoreSets ∷ Where 0 ∷ When 0 ∷ s) at refl i, (never_query text tokens 8 0 s at refl refl refl refl refl i, tt)))))
      (pass text tokens 8 (WORD ∷ SetSign ∷ SetValue ∷ s) at i)

  pub into_insert : (at : ℕ) (s : Form) → Takes text tokens 9 at → Moves text tokens (StatementPart ∷ s) at (Sign lexeme.Into ∷ NAME ∷ Sign lexeme.Open ∷ NAME ∷ MoreNames 1 ∷ When 0 ∷ s) (at + 1)
  into_insert at s i =
      chain text tokens (choose text tokens 2 0 ((Sign lexeme.Begin ∷ Tail ∷ []) ∷ (Sign lexeme.Commit ∷ Tail ∷ []) ∷ (Sign lexeme.Rollback ∷ Tail ∷ []) ∷ (Sign lexeme.Set ∷ WORD ∷ SetSign ∷ SetValue ∷ []) ∷ []) (Sign lexeme.Insert ∷ Sign lexeme.Into ∷ NAME ∷ Sign lexeme.Open ∷ NAME ∷ MoreNames 1 ∷ When 0 ∷ []) ((Sign lexeme.Delete ∷ Sign lexeme.From ∷ NAME ∷ Where 0 ∷ When 0 ∷ []) ∷ (Sign lexeme.Update ∷ NAME ∷ Sign lexeme.Set ∷ SetPart ∷ MoreSets ∷ Where 0 ∷ When 0 ∷ []) ∷ (QueryPart 0 ∷ []) ∷ []) s at (λ limit h. refl)
      (but text tokens 9 5 (Tail ∷ s) at refl i, (but text tokens 9 6 (Tail ∷ s) at refl i, (but text tokens 9 7 (Tail ∷ s) at refl i, (but text tokens 9 8 (WORD ∷ SetSign ∷ SetValue ∷ s) at refl i, tt))))
      (but text tokens 9 10 (Sign lexeme.From ∷ NAME ∷ Where 0 ∷ When 0 ∷ s) at refl i, (but text tokens 9 11 (NAME ∷ Sign lexeme.Set ∷ SetPart ∷ MoreSets ∷ Where 0 ∷ When 0 ∷ s) at refl i, (never_query text tokens 9 0 s at refl refl refl refl refl i, tt))))
      (pass text tokens 9 (Sign lexeme.Into ∷ NAME ∷ Sign lexeme.Open ∷ NAME ∷ MoreNames 1 ∷ When 0 ∷ s) at i)

  pub into_delete : (at : ℕ) (s : Form) → Takes text tokens 10 at → Moves text tokens (StatementPart ∷ s) at (Sign lexeme.From ∷ NAME ∷ Where 0 ∷ When 0 ∷ s) (at + 1)
  into_delete at s i =
      chain text tokens (choose text tokens 2 0 ((Sign lexeme.Begin ∷ Tail ∷ []) ∷ (Sign lexeme.Commit ∷ Tail ∷ []) ∷ (Sign lexeme.Rollback ∷ Tail ∷ []) ∷ (Sign lexeme.Set ∷ WORD ∷ SetSign ∷ SetValue ∷ []) ∷ (Sign lexeme.Insert ∷ Sign lexeme.Into ∷ NAME ∷ Sign lexeme.Open ∷ NAME ∷ MoreNames 1 ∷ When 0 ∷ []) ∷ []) (Sign lexeme.Delete ∷ Sign lexeme.From ∷ NAME ∷ Where 0 ∷ When 0 ∷ []) ((Sign lexeme.Update ∷ NAME ∷ Sign lexeme.Set ∷ SetPart ∷ MoreSets ∷ Where 0 ∷ When 0 ∷ []) ∷ (QueryPart 0 ∷ []) ∷ []) s at (λ limit h. refl)
      (but text tokens 10 5 (Tail ∷ s) at refl i, (but text tokens 10 6 (Tail ∷ s) at refl i, (but text tokens 10 7 (Tail ∷ s) at refl i, (but text tokens 10 8 (WORD ∷ SetSign ∷ SetValue ∷ s) at refl i, (but text tokens 10 9 (Sign lexeme.Into ∷ NAME ∷ Sign lexeme.Open ∷ NAME ∷ MoreNames 1 ∷ When 0 ∷ s) at refl i, tt)))))
      (but text tokens 10 11 (NAME ∷ Sign lexeme.Set ∷ SetPart ∷ MoreSets ∷ Where 0 ∷ When 0 ∷ s) at refl i, (never_query text tokens 10 0 s at refl refl refl refl refl i, tt)))
      (pass text tokens 10 (Sign lexeme.From ∷ NAME ∷ Where 0 ∷ When 0 ∷ s) at i)

  pub into_update : (at : ℕ) (s : Form) → Takes text tokens 11 at → Moves text tokens (StatementPart ∷ s) at (NAME ∷ Sign lexeme.Set ∷ SetPart ∷ MoreSets ∷ Where 0 ∷ When 0 ∷ s) (at + 1)
  into_update at s i =
      chain text tokens (choose text tokens 2 0 ((Sign lexeme.Begin ∷ Tail ∷ []) ∷ (Sign lexeme.Commit ∷ Tail ∷ []) ∷ (Sign lexeme.Rollback ∷ Tail ∷ []) ∷ (Sign lexeme.Set ∷ WORD ∷ SetSign ∷ SetValue ∷ []) ∷ (Sign lexeme.Insert ∷ Sign lexeme.Into ∷ NAME ∷ Sign lexeme.Open ∷ NAME ∷ MoreNames 1 ∷ When 0 ∷ []) ∷ (Sign lexeme.Delete ∷ Sign lexeme.From ∷ NAME ∷ Where 0 ∷ When 0 ∷ []) ∷ []) (Sign lexeme.Update ∷ NAME ∷ Sign lexeme.Set ∷ SetPart ∷ MoreSets ∷ Where 0 ∷ When 0 ∷ []) ((QueryPart 0 ∷ []) ∷ []) s at (λ limit h. refl)
      (but text tokens 11 5 (Tail ∷ s) at refl i, (but text tokens 11 6 (Tail ∷ s) at refl i, (but text tokens 11 7 (Tail ∷ s) at refl i, (but text tokens 11 8 (WORD ∷ SetSign ∷ SetValue ∷ s) at refl i, (but text tokens 11 9 (Sign lexeme.Into ∷ NAME ∷ Sign lexeme.Open ∷ NAME ∷ MoreNames 1 ∷ When 0 ∷ s) at refl i, (but text tokens 11 10 (Sign lexeme.From ∷ NAME ∷ Where 0 ∷ When 0 ∷ s) at refl i, tt))))))
      (never_query text tokens 11 0 s at refl refl refl refl refl i, tt))
      (pass text tokens 11 (NAME ∷ Sign lexeme.Set ∷ SetPart ∷ MoreSets ∷ Where 0 ∷ When 0 ∷ s) at i)

  pub into_query : (at : ℕ) (s : Form) → BeginsQuery text tokens at → Moves text tokens (StatementPart ∷ s) at (QueryPart 0 ∷ s) at
  into_query at s a =
      choose text tokens 2 0 ((Sign lexeme.Begin ∷ Tail ∷ []) ∷ (Sign lexeme.Commit ∷ Tail ∷ []) ∷ (Sign lexeme.Rollback ∷ Tail ∷ []) ∷ (Sign lexeme.Set ∷ WORD ∷ SetSign ∷ SetValue ∷ []) ∷ (Sign lexeme.Insert ∷ Sign lexeme.Into ∷ NAME ∷ Sign lexeme.Open ∷ NAME ∷ MoreNames 1 ∷ When 0 ∷ []) ∷ (Sign lexeme.Delete ∷ Sign lexeme.From ∷ NAME ∷ Where 0 ∷ When 0 ∷ []) ∷ (Sign lexeme.Update ∷ NAME ∷ Sign lexeme.Set ∷ SetPart ∷ MoreSets ∷ Where 0 ∷ When 0 ∷ []) ∷ []) (QueryPart 0 ∷ []) [] s at (λ limit h. refl)
      (not_this text tokens 5 (Tail ∷ s) at a.not_begin, (not_this text tokens 6 (Tail ∷ s) at a.not_commit, (not_this text tokens 7 (Tail ∷ s) at a.not_rollback, (not_this text tokens 8 (WORD ∷ SetSign ∷ SetValue ∷ s) at a.not_set, (not_this text tokens 9 (Sign lexeme.Into ∷ NAME ∷ Sign lexeme.Open ∷ NAME ∷ MoreNames 1 ∷ When 0 ∷ s) at a.not_insert, (not_this text tokens 10 (Sign lexeme.From ∷ NAME ∷ Where 0 ∷ When 0 ∷ s) at a.not_delete, (not_this text tokens 11 (NAME ∷ Sign lexeme.Set ∷ SetPart ∷ MoreSets ∷ Where 0 ∷ When 0 ∷ s) at a.not_update, tt))))))) tt

  -- behind a statement
  abbrev pub REST : Form
  REST = MoreStatements ∷ []

  never_rest : (sign : ℕ) → apart sign 47 ≡ true → apart sign 38 ≡ true → Never text tokens sign REST
  never_rest sign a b at i =
      no_part text tokens 1 0 (λ limit. (Sign lexeme.End ∷ []) ∷ (Sign lexeme.Semicolon ∷ Statements ∷ []) ∷ []) [] at (λ limit. refl) (λ limit. (but text tokens sign 47 [] at a i, (but text tokens sign 38 (Statements ∷ []) at b i, tt)))

  free_condition_rest : FreeCondition text tokens REST
  free_condition_rest = record {
    or_free = never_rest 0 refl refl;
    conjunction_free = record { and_free = never_rest 1 refl refl; negation_free = record { comparison_free = never_rest 102 refl refl; dot_free = never_rest 39 refl refl } };
  }

  free_query_rest : FreeQuery text tokens REST
  free_query_rest = record {
    term_free = record {
      source_free = record { condition_free = free_condition_rest; join_free = never_rest 19 refl refl; alias_free = never_rest 15 refl refl };
      where_free = never_rest 24 refl refl;
    };
    union_free = never_rest 21 refl refl;
    except_free = never_rest 16 refl refl;
  }

  -- behind the condition of a write
  free_condition_when : FreeCondition text tokens (When 0 ∷ REST)
  free_condition_when = free_optional text tokens 15 0 23 (Expression 0 ∷ []) REST (λ limit. refl) refl refl refl refl free_condition_rest

  where_when : Never text tokens 24 (When 0 ∷ REST)
  where_when = never_optional text tokens 15 0 24 23 (Expression 0 ∷ []) REST (λ limit. refl) refl (never_rest 24 refl refl)

  comma_when : Never text tokens 37 (When 0 ∷ REST)
  comma_when = never_optional text tokens 15 0 37 23 (Expression 0 ∷ []) REST (λ limit. refl) refl (never_rest 37 refl refl)

  comma_where : Never text tokens 37 (Where 0 ∷ When 0 ∷ REST)
  comma_where = never_optional text tokens 20 0 37 24 (CondPart 0 ∷ []) (When 0 ∷ REST) (λ limit. refl) refl comma_when

  reads_tail : (at end : ℕ) → IsTail text tokens at end → Moves text tokens (Tail ∷ REST) at REST end
  reads_tail at end (no_tail a b) = choose text tokens 3 0 [] [] ((Sign lexeme.Transaction ∷ []) ∷ (Sign lexeme.Work ∷ []) ∷ []) REST at (λ limit h. refl) tt (not_this text tokens 25 REST at a, (not_this text tokens 26 REST at b, tt))
  reads_tail at end (transaction_tail i) =
      chain text tokens (choose text tokens 3 0 ([] ∷ []) (Sign lexeme.Transaction ∷ []) ((Sign lexeme.Work ∷ []) ∷ []) REST at (λ limit h. refl) (never_rest 25 refl refl at i, tt) (but text tokens 25 26 REST at refl i, tt)) (pass text tokens 25 REST at i)
  reads_tail at end (work_tail i) =
      chain text tokens (choose text tokens 3 0 ([] ∷ (Sign lexeme.Transaction ∷ []) ∷ []) (Sign lexeme.Work ∷ []) [] REST at (λ limit h. refl) (never_rest 26 refl refl at i, (but text tokens 26 25 REST at refl i, tt)) tt) (pass text tokens 26 REST at i)

  -- a setting
  reads_to : (at : ℕ) (b : Bool) (s : Form) → stands text tokens at lexeme.To ≡ b → b || stands text tokens at lexeme.Equal ≡ true → Moves text tokens (SetSign ∷ s) at s (at + 1)
  reads_to at true s i e = chain text tokens (choose text tokens 4 0 [] (Sign lexeme.To ∷ []) ((Sign lexeme.Equal ∷ []) ∷ []) s at (λ limit h. refl) tt (but text tokens 27 41 s at refl i, tt)) (pass text tokens 27 s at i)
  reads_to at false s i e = chain text tokens (choose text tokens 4 0 ((Sign lexeme.To ∷ []) ∷ []) (Sign lexeme.Equal ∷ []) [] s at (λ limit h. refl) (not_this text tokens 27 s at i, tt) tt) (pass text tokens 41 s at e)

  no_to_here : (at : ℕ) (b : Bool) (s : Form) → stands text tokens at lexeme.To ≡ b → b || stands text tokens at lexeme.Equal ≡ false → Faulty text tokens (SetSign ∷ s) at (fault.Syntax at)
  no_to_here at true s i e = absurd (cc e)
  no_to_here at false s i e = stuck text tokens (SetSign ∷ s) at (no_part text tokens 4 0 (λ limit. (Sign lexeme.To ∷ []) ∷ (Sign lexeme.Equal ∷ []) ∷ []) s at (λ limit. refl) (λ limit. (not_this text tokens 27 s at i, (not_this text tokens 41 s at e, tt))))

  integer_set : (at : ℕ) (s : Form) → Takes text tokens 30 at → Moves text tokens (SetValue ∷ s) at s (at + 1)
  integer_set at s i = chain text tokens (choose text tokens 5 0 ((WORD ∷ []) ∷ []) (Sign lexeme.Integer ∷ []) ((Sign lexeme.Text ∷ []) ∷ []) s at (λ limit h. refl) (but text tokens 30 101 s at refl i, tt) (but text tokens 30 31 s at refl i, tt)) (pass text tokens 30 s at i)

  reads_setting : (with_params : Bool) (at : ℕ) (s : Form) → IsSetting with_params text tokens at → Moves text tokens (SetValue ∷ s) at s (at + 1)
  reads_setting with_params at s (word_setting i) = chain text tokens (choose text tokens 5 0 [] (WORD ∷ []) ((Sign lexeme.Integer ∷ []) ∷ (Sign lexeme.Text ∷ []) ∷ []) s at (λ limit h. refl) tt (but text tokens 101 30 s at refl i, (but text tokens 101 31 s at refl i, tt))) (pass text tokens 101 s at i)
  reads_setting with_params at s (integer_setting v i is) = integer_set at s i
  reads_setting with_params at s (text_setting i) = chain text tokens (choose text tokens 5 0 ((WORD ∷ []) ∷ (Sign lexeme.Integer ∷ []) ∷ []) (Sign lexeme.Text ∷ []) [] s at (λ limit h. refl) (but text tokens 31 101 s at refl i, (but text tokens 31 30 s at refl i, tt)) tt) (pass text tokens 31 s at i)

  to_set_sign : (at : ℕ) (s : Form) → is_word (lexeme_at text tokens at) ≡ true → Moves text tokens (WORD ∷ SetSign ∷ SetValue ∷ s) at (SetSign ∷ SetValue ∷ s) (at + 1)
  to_set_sign at s i = pass text tokens 101 (SetSign ∷ SetValue ∷ s) at i

  to_setting : (at : ℕ) (s : Form) → is_word (lexeme_at text tokens at) ≡ true → stands text tokens (at + 1) lexeme.To || stands text tokens (at + 1) lexeme.Equal ≡ true → Moves text tokens (WORD ∷ SetSign ∷ SetValue ∷ s) at (SetValue ∷ s) (at + 2)
  to_setting at s i e = chain text tokens (to_set_sign at s i) (moved text tokens (at + 2) (omega arith) (reads_to (at + 1) (stands text tokens (at + 1) lexeme.To) (SetValue ∷ s) refl e))

  too_large_by : (at : ℕ) (why : ParseFault) (s : Form) → Takes text tokens 30 at → ValueFault text tokens (lexeme_at text tokens at) at why → Faulty text tokens (SetValue ∷ s) at why
  too_large_by at why s i (not_a_value none) = absurd (cc (i, none.0))
  too_large_by at why s i (too_large j) = reaches text tokens nesting_limit (omega arith) (integer_set at s i)
  too_large_by at why s i (too_many j) = absurd (not_both 30 32 (lexeme_at text tokens at) refl i j)
  too_large_by at why s i (none_taken j) = absurd (not_both 30 32 (lexeme_at text tokens at) refl i j)

  fails_setting : (with_params : Bool) (at : ℕ) (why : ParseFault) (s : Form) → SettingFault with_params text tokens at why → Faulty text tokens (WORD ∷ SetSign ∷ SetValue ∷ s) at why
  fails_setting with_params at why s (no_setting other) = missing text tokens 101 (SetSign ∷ SetValue ∷ s) at other
  fails_setting with_params at why s (no_to i e) = behind text tokens why (to_set_sign at s i) (no_to_here (at + 1) (stands text tokens (at + 1) lexeme.To) (SetValue ∷ s) refl e)
  fails_setting with_params at why s (no_setting_value i e a b c) =
      behind text tokens why (to_setting at s i e) (stuck text tokens (SetValue ∷ s) (at + 2) (no_part text tokens 5 0 (λ limit. (WORD ∷ []) ∷ (Sign lexeme.Integer ∷ []) ∷ (Sign lexeme.Text ∷ []) ∷ []) s (at + 2) (λ limit. refl)
      (λ limit. (not_this text tokens 101 s (at + 2) a, (not_this text tokens 30 s (at + 2) b, (not_this text tokens 31 s (at + 2) c, tt))))))
  fails_setting with_params at why s (setting_too_large w i e j is) = behind text tokens why (to_setting at s i e) (too_large_by (at + 2) why s j (value_fault text tokens with_params (at + 2) why is))

  -- a query's first token
  abbrev pub QueryFirst : ℕ → Type 0
  QueryFirst at = (Takes text tokens 12 at) ⊎ ((Takes text tokens 100 at) ⊎ ((Takes text tokens 13 at) ⊎ ((Takes text tokens 33 at) ⊎ (Takes text tokens 14 at))))

  pub first_isnt : (other at : ℕ) → apart 12 other ≡ true → apart 100 other ≡ true → apart 13 other ≡ true → apart 33 other ≡ true → apart 14 other ≡ true → QueryFirst at → takes other (lexeme_at text tokens at) ≡ false
  first_isnt other at a b c d e (inl i) = isnt 12 other at a i
  first_isnt other at a b c d e (inr (inl i)) = isnt 100 other at b i
  first_isnt other at a b c d e (inr (inr (inl i))) = isnt 13 other at c i
  first_isnt other at a b c d e (inr (inr (inr (inl i)))) = isnt 33 other at d i
  first_isnt other at a b c d e (inr (inr (inr (inr i)))) = isnt 14 other at e i

  pub begins_query : (at : ℕ) → QueryFirst at → BeginsQuery text tokens at
  begins_query at f = record {
    not_begin = first_isnt 5 at refl refl refl refl refl f;
    not_commit = first_isnt 6 at refl refl refl refl refl f;
    not_rollback = first_isnt 7 at refl refl refl refl refl f;
    not_set = first_isnt 8 at refl refl refl refl refl f;
    not_insert = first_isnt 9 at refl refl refl refl refl f;
    not_delete = first_isnt 10 at refl refl refl refl refl f;
    not_update = first_isnt 11 at refl refl refl refl refl f;
  }

  -- the names of an insert are some
  some_names : (at : ℕ) (columns : List (List ℕ)) (end : ℕ) → NamesTo text tokens at columns end → 0 < length columns
  some_names at columns end (one_name name named) = omega arith
  some_names at columns end (another_name before place name b i named) = let more = one_more before name in omega (arith, more)

module _ (with_params : Bool) (names : List (List ℕ)) (text : List ℕ) (tokens : List Token) where
  pub query_first : (part : spelled.QueryPart) (at : ℕ) (q : Query) (end : ℕ) → SpellsQuery with_params names text tokens part at q end → QueryFirst text tokens at
  query_first part at q end (one_term n from inner last r) = query_first (spelled.Term n) at inner end r
  query_first part at q end (union_term n from left right middle last l i r) = query_first (QueryChain n) at left middle l
  query_first part at q end (except_term n from left right middle last l i r) = query_first (QueryChain n) at left middle l
  query_first part at q end (whole_query n from inner last r a b) = query_first (QueryChain n) at inner end r
  query_first part at q end (select_term n from items source c mid behind last i is j r w) = inl i
  query_first part at q end (simple_term n from inner last r) = query_first (spelled.Simple n) at inner end r
  query_first part at q end (table n from name named) = inr (inl (name_takes text tokens at name named))
  query_first part at q end (empty_query n from i) = inr (inr (inl i))
  query_first part at q end (query_in_brackets n from inner last i low r close) = inr (inr (inr (inl i)))
  query_first part at q end (choice_of_queries n from expr sides left right middle last is l comma r close) = inr (inr (inr (inr is.begins)))
  query_first part at q end (one_source n from inner last r) = query_first (spelled.SourceTerm n) at inner end r
  query_first part at q end (joined_source n from left right c middle on last l i r j d) = query_first (SourceChain n) at left middle l
  query_first part at q end (whole_source n from inner last r other) = query_first (SourceChain n) at inner end r
  query_first part at q end (plain_source n from inner last r other) = query_first (spelled.Simple n) at inner end r
  query_first part at q end (source_with_alias n from inner name last r i named) = query_first (spelled.Simple n) at inner last r

  -- an insert
  to_insert_table : (at : ℕ) → Takes text tokens 18 at → Moves text tokens (Sign lexeme.Into ∷ NAME ∷ Sign lexeme.Open ∷ NAME ∷ MoreNames 1 ∷ When 0 ∷ REST text tokens) at (NAME ∷ Sign lexeme.Open ∷ NAME ∷ MoreNames 1 ∷ When 0 ∷ REST text tokens) (at + 1)
  to_insert_table at i = pass text tokens 18 (NAME ∷ Sign lexeme.Open ∷ NAME ∷ MoreNames 1 ∷ When 0 ∷ REST text tokens) at i

  to_open_names : (at : ℕ) (name : List ℕ) → Takes text tokens 18 at → name_at text tokens (at + 1) ≡ Some name → Moves text tokens (Sign lexeme.Into ∷ NAME ∷ Sign lexeme.Open ∷ NAME ∷ MoreNames 1 ∷ When 0 ∷ REST text tokens) at (Sign lexeme.Open ∷ NAME ∷ MoreNames 1 ∷ When 0 ∷ REST text tokens) (at + 2)
  to_open_names at name i named = chain text tokens (to_insert_table at i) (pass_to text tokens 100 (Sign lexeme.Open ∷ NAME ∷ MoreNames 1 ∷ When 0 ∷ REST text tokens) (at + 1) (at + 2) (omega arith) (name_takes text tokens (at + 1) name named))

  to_names : (at : ℕ) (name : List ℕ) → Takes text tokens 18 at → name_at text tokens (at + 1) ≡ Some name → Takes text tokens 33 (at + 2) → Moves text tokens (Sign lexeme.Into ∷ NAME ∷ Sign lexeme.Open ∷ NAME ∷ MoreNames 1 ∷ When 0 ∷ REST text tokens) at (NAME ∷ MoreNames 1 ∷ When 0 ∷ REST text tokens) (at + 3)
  to_names at name i named j = chain text tokens (to_open_names at name i named) (pass_to text tokens 33 (NAME ∷ MoreNames 1 ∷ When 0 ∷ REST text tokens) (at + 2) (at + 3) (omega arith) j)

  to_values : (at : ℕ) (name : List ℕ) (columns : List (List ℕ)) (close : ℕ) → Takes text tokens 18 at → name_at text tokens (at + 1) ≡ Some name → Takes text tokens 33 (at + 2) → NamesTo text tokens (at + 3) columns close → Takes text tokens 34 close → Moves text tokens (Sign lexeme.Into ∷ NAME ∷ Sign lexeme.Open ∷ NAME ∷ MoreNames 1 ∷ When 0 ∷ REST text tokens) at (Sign lexeme.Values ∷ TuplePart (length columns) ∷ MoreTuples (length columns) ∷ When 0 ∷ REST text tokens) (close + 1)
  to_values at name columns close i named j is k = chain text tokens (to_names at name i named j) (chain text tokens (reads_names text tokens (at + 3) columns close (When 0 ∷ REST text tokens) is) (close_names text tokens (length columns) close (When 0 ∷ REST text tokens) k))

  to_tuples : (at : ℕ) (name : List ℕ) (columns : List (List ℕ)) (close : ℕ) → Takes text tokens 18 at → name_at text tokens (at + 1) ≡ Some name → Takes text tokens 33 (at + 2) → NamesTo text tokens (at + 3) columns close → Takes text tokens 34 close → Takes text tokens 22 (close + 1) → Moves text tokens (Sign lexeme.Into ∷ NAME ∷ Sign lexeme.Open ∷ NAME ∷ MoreNames 1 ∷ When 0 ∷ REST text tokens) at (TuplePart (length columns) ∷ MoreTuples (length columns) ∷ When 0 ∷ REST text tokens) (close + 2)
  to_tuples at name columns close i named j is k v = chain text tokens (to_values at name columns close i named j is k) (pass_to text tokens 22 (TuplePart (length columns) ∷ MoreTuples (length columns) ∷ When 0 ∷ REST text tokens) (close + 1) (close + 2) (omega arith) v)

  past_tuples : (at : ℕ) (name : List ℕ) (columns : List (List ℕ)) (close : ℕ) (rows : List (List Operand)) (last : ℕ) → Takes text tokens 18 at → name_at text tokens (at + 1) ≡ Some name → Takes text tokens 33 (at + 2) → NamesTo text tokens (at + 3) columns close → Takes text tokens 34 close → Takes text tokens 22 (close + 1) → TuplesTo with_params text tokens (length columns) (close + 2) rows last → stands text tokens last lexeme.Comma ≡ false → Moves text tokens (Sign lexeme.Into ∷ NAME ∷ Sign lexeme.Open ∷ NAME ∷ MoreNames 1 ∷ When 0 ∷ REST text tokens) at (When 0 ∷ REST text tokens) last
  past_tuples at name columns close rows last i named j is k v t other =
      chain text tokens (to_tuples at name columns close i named j is k v) (chain text tokens (reads_tuples text tokens with_params (length columns) (close + 2) rows last (When 0 ∷ REST text tokens) t (comma_when text tokens)) (end_tuples text tokens (length columns) last (When 0 ∷ REST text tokens) other))

  reads_last_when : (at end : ℕ) (expr : Expr) → IsWhen names text tokens at expr end → Moves text tokens (When 0 ∷ REST text tokens) at (REST text tokens) end
  reads_last_when at end expr is = reads_when names text tokens at end expr (REST text tokens) is (never_rest text tokens 23 refl refl) (never_rest text tokens 0 refl refl) (never_rest text tokens 1 refl refl)

  fails_last_when : (at : ℕ) (why : ParseFault) → WhenFault names text tokens 0 at why → Faulty text tokens (When 0 ∷ REST text tokens) at why
  fails_last_when at why f = fails_when names text tokens 0 at why (REST text tokens) (omega arith) f (never_rest text tokens 23 refl refl) (never_rest text tokens 0 refl refl) (never_rest text tokens 1 refl refl)

  reads_insert : (at : ℕ) (name : List ℕ) (columns : List (List ℕ)) (rows : List (List Operand)) (expr : Expr) (end : ℕ) → IsInsert with_params names text tokens at name columns rows expr end → Moves text tokens (Sign lexeme.Into ∷ NAME ∷ Sign lexeme.Open ∷ NAME ∷ MoreNames 1 ∷ When 0 ∷ REST text tokens) at (REST text tokens) end
  reads_insert at name columns rows expr end is = chain text tokens (past_tuples at name columns is.close rows is.last is.into is.named is.opens is.listed is.closes is.values is.given is.no_more) (reads_last_when is.last end expr is.condition)

  fails_insert : (at : ℕ) (why : ParseFault) → InsertFault with_params names text tokens at why → Faulty text tokens (Sign lexeme.Into ∷ NAME ∷ Sign lexeme.Open ∷ NAME ∷ MoreNames 1 ∷ When 0 ∷ REST text tokens) at why
  fails_insert at why insert_memory = tt
  fails_insert at why (no_into other) = missing text tokens 18 (NAME ∷ Sign lexeme.Open ∷ NAME ∷ MoreNames 1 ∷ When 0 ∷ REST text tokens) at other
  fails_insert at why (no_insert_table i none) = behind text tokens why (to_insert_table at i) (missing text tokens 100 (Sign lexeme.Open ∷ NAME ∷ MoreNames 1 ∷ When 0 ∷ REST text tokens) (at + 1) (no_name_takes text tokens (at + 1) none))
  fails_insert at why (no_names name i named other) = behind text tokens why (to_open_names at name i named) (missing text tokens 33 (NAME ∷ MoreNames 1 ∷ When 0 ∷ REST text tokens) (at + 2) other)
  fails_insert at why (in_names name w i named j f) = behind text tokens why (to_names at name i named j) (fails_names text tokens (at + 3) why (When 0 ∷ REST text tokens) f)
  fails_insert at why (no_values name columns close i named j is k other) =
      behind text tokens why (to_values at name columns close i named j is k) (missing text tokens 22 (TuplePart (length columns) ∷ MoreTuples (length columns) ∷ When 0 ∷ REST text tokens) (close + 1) other)
  fails_insert at why (in_tuples name columns close w i named j is k v f) =
      behind text tokens why (to_tuples at name columns close i named j is k v) (fails_tuples text tokens with_params (length columns) (close + 2) why (When 0 ∷ REST text tokens) (some_names text tokens (at + 3) columns close is) f (comma_when text tokens))
  fails_insert at why (in_insert_when name columns close rows last w i named j is k v t other f) = behind text tokens why (past_tuples at name columns close rows last i named j is k v t other) (fails_last_when last why f)

  -- a delete
  to_delete_table : (at : ℕ) → Takes text tokens 17 at → Moves text tokens (Sign lexeme.From ∷ NAME ∷ Where 0 ∷ When 0 ∷ REST text tokens) at (NAME ∷ Where 0 ∷ When 0 ∷ REST text tokens) (at + 1)
  to_delete_table at i = pass text tokens 17 (NAME ∷ Where 0 ∷ When 0 ∷ REST text tokens) at i

  to_delete_where : (at : ℕ) (name : List ℕ) → Takes text tokens 17 at → name_at text tokens (at + 1) ≡ Some name → Moves text tokens (Sign lexeme.From ∷ NAME ∷ Where 0 ∷ When 0 ∷ REST text tokens) at (Where 0 ∷ When 0 ∷ REST text tokens) (at + 2)
  to_delete_where at name i named = chain text tokens (to_delete_table at i) (pass_to text tokens 100 (Where 0 ∷ When 0 ∷ REST text tokens) (at + 1) (at + 2) (omega arith) (name_takes text tokens (at + 1) name named))

  reads_last_where : (at end : ℕ) (c : Cond) → IsWhere with_params names text tokens 0 at c end → Moves text tokens (Where 0 ∷ When 0 ∷ REST text tokens) at (When 0 ∷ REST text tokens) end
  reads_last_where at end c is = reads_where with_params names text tokens 0 at end c (When 0 ∷ REST text tokens) is (free_condition_when text tokens) (where_when text tokens)

  fails_last_where : (at : ℕ) (why : ParseFault) → WhereFault with_params names text tokens 0 at why → Faulty text tokens (Where 0 ∷ When 0 ∷ REST text tokens) at why
  fails_last_where at why f = fails_where with_params names text tokens 0 at why (When 0 ∷ REST text tokens) (omega arith) f (free_condition_when text tokens) (where_when text tokens)

  reads_delete : (at : ℕ) (name : List ℕ) (c : Cond) (expr : Expr) (end : ℕ) → IsDelete with_params names text tokens at name c expr end → Moves text tokens (Sign lexeme.From ∷ NAME ∷ Where 0 ∷ When 0 ∷ REST text tokens) at (REST text tokens) end
  reads_delete at name c expr end is = chain text tokens (to_delete_where at name is.from is.named) (chain text tokens (reads_last_where (at + 2) is.last c is.chosen) (reads_last_when is.last end expr is.condition))

  fails_delete : (at : ℕ) (why : ParseFault) → DeleteFault with_params names text tokens at why → Faulty text tokens (Sign lexeme.From ∷ NAME ∷ Where 0 ∷ When 0 ∷ REST text tokens) at why
  fails_delete at why delete_memory = tt
  fails_delete at why (no_delete_from other) = missing text tokens 17 (NAME ∷ Where 0 ∷ When 0 ∷ REST text tokens) at other
  fails_delete at why (no_delete_table i none) = behind text tokens why (to_delete_table at i) (missing text tokens 100 (Where 0 ∷ When 0 ∷ REST text tokens) (at + 1) (no_name_takes text tokens (at + 1) none))
  fails_delete at why (in_delete_where name w i named f) = behind text tokens why (to_delete_where at name i named) (fails_last_where (at + 2) why f)
  fails_delete at why (in_delete_when name c last w i named is f) = behind text tokens why (chain text tokens (to_delete_where at name i named) (reads_last_where (at + 2) last c is)) (fails_last_when last why f)

  -- an update
  to_set_word : (at : ℕ) (name : List ℕ) → name_at text tokens at ≡ Some name → Moves text tokens (NAME ∷ Sign lexeme.Set ∷ SetPart ∷ MoreSets ∷ Where 0 ∷ When 0 ∷ REST text tokens) at (Sign lexeme.Set ∷ SetPart ∷ MoreSets ∷ Where 0 ∷ When 0 ∷ REST text tokens) (at + 1)
  to_set_word at name named = pass text tokens 100 (Sign lexeme.Set ∷ SetPart ∷ MoreSets ∷ Where 0 ∷ When 0 ∷ REST text tokens) at (name_takes text tokens at name named)

  to_sets : (at : ℕ) (name : List ℕ) → name_at text tokens at ≡ Some name → Takes text tokens 8 (at + 1) → Moves text tokens (NAME ∷ Sign lexeme.Set ∷ SetPart ∷ MoreSets ∷ Where 0 ∷ When 0 ∷ REST text tokens) at (SetPart ∷ MoreSets ∷ Where 0 ∷ When 0 ∷ REST text tokens) (at + 2)
  to_sets at name named i = chain text tokens (to_set_word at name named) (pass_to text tokens 8 (SetPart ∷ MoreSets ∷ Where 0 ∷ When 0 ∷ REST text tokens) (at + 1) (at + 2) (omega arith) i)

  past_sets : (at : ℕ) (name : List ℕ) (items : List SetItem) (last : ℕ) → name_at text tokens at ≡ Some name → Takes text tokens 8 (at + 1) → SetItemsTo with_params text tokens (at + 2) items last → stands text tokens last lexeme.Comma ≡ false → Moves text tokens (NAME ∷ Sign lexeme.Set ∷ SetPart ∷ MoreSets ∷ Where 0 ∷ When 0 ∷ REST text tokens) at (Where 0 ∷ When 0 ∷ REST text tokens) last
  past_sets at name items last named i is other =
      chain text tokens (to_sets at name named i) (chain text tokens (reads_sets text tokens with_params (at + 2) items last (Where 0 ∷ When 0 ∷ REST text tokens) is (comma_where text tokens)) (end_sets text tokens last (Where 0 ∷ When 0 ∷ REST text tokens) other))

  reads_update : (at : ℕ) (name : List ℕ) (items : List SetItem) (c : Cond) (expr : Expr) (end : ℕ) → IsUpdate with_params names text tokens at name items c expr end → Moves text tokens (NAME ∷ Sign lexeme.Set ∷ SetPart ∷ MoreSets ∷ Where 0 ∷ When 0 ∷ REST text tokens) at (REST text tokens) end
  reads_update at name items c expr end is = chain text tokens (past_sets at name items is.behind is.named is.sets is.listed is.no_more) (chain text tokens (reads_last_where is.behind is.last c is.chosen) (reads_last_when is.last end expr is.condition))

  fails_update : (at : ℕ) (why : ParseFault) → UpdateFault with_params names text tokens at why → Faulty text tokens (NAME ∷ Sign lexeme.Set ∷ SetPart ∷ MoreSets ∷ Where 0 ∷ When 0 ∷ REST text tokens) at why
  fails_update at why update_memory = tt
  fails_update at why (no_update_table none) = missing text tokens 100 (Sign lexeme.Set ∷ SetPart ∷ MoreSets ∷ Where 0 ∷ When 0 ∷ REST text tokens) at (no_name_takes text tokens at none)
  fails_update at why (no_set name named other) = behind text tokens why (to_set_word at name named) (missing text tokens 8 (SetPart ∷ MoreSets ∷ Where 0 ∷ When 0 ∷ REST text tokens) (at + 1) other)
  fails_update at why (in_set_items name w named i f) = behind text tokens why (to_sets at name named i) (fails_sets text tokens with_params (at + 2) why (Where 0 ∷ When 0 ∷ REST text tokens) f (comma_where text tokens))
  fails_update at why (in_update_where name items mid w named i is other f) = behind text tokens why (past_sets at name items mid named i is other) (fails_last_where mid why f)
  fails_update at why (in_update_when name items mid c last w named i is other d f) =
      behind text tokens why (chain text tokens (past_sets at name items mid named i is other) (reads_last_where mid last c d)) (fails_last_when last why f)

  -- a statement
  reads_statement : (at : ℕ) (s : Statement) (end : ℕ) → SpellsStatement with_params names text tokens at s end → Moves text tokens (StatementPart ∷ REST text tokens) at (REST text tokens) end
  reads_statement at s end (begin_statement last i t) = chain text tokens (into_begin text tokens at (REST text tokens) i) (reads_tail text tokens (at + 1) end t)
  reads_statement at s end (commit_statement last i t) = chain text tokens (into_commit text tokens at (REST text tokens) i) (reads_tail text tokens (at + 1) end t)
  reads_statement at s end (rollback_statement last i t) = chain text tokens (into_rollback text tokens at (REST text tokens) i) (reads_tail text tokens (at + 1) end t)
  reads_statement at s end (set_statement i word to v) =
      chain text tokens (into_set text tokens at (REST text tokens) i)
      (chain text tokens (to_set_sign text tokens (at + 1) (REST text tokens) word)
      (chain text tokens (moved text tokens (at + 2) (omega arith) (stays text tokens (SetSign ∷ SetValue ∷ REST text tokens) (at + 1 + 1)))
      (chain text tokens (reads_to text tokens (at + 2) (stands text tokens (at + 2) lexeme.To) (SetValue ∷ REST text tokens) refl to)
      (chain text tokens (moved text tokens (at + 3) (omega arith) (stays text tokens (SetValue ∷ REST text tokens) (at + 2 + 1)))
      (moved text tokens (at + 4) (omega arith) (reads_setting text tokens with_params (at + 3) (REST text tokens) v))))))
  reads_statement at s end (insert_statement name columns rows expr last i is) = chain text tokens (into_insert text tokens at (REST text tokens) i) (reads_insert (at + 1) name columns rows expr end is)
  reads_statement at s end (delete_statement name c expr last i is) = chain text tokens (into_delete text tokens at (REST text tokens) i) (reads_delete (at + 1) name c expr end is)
  reads_statement at s end (update_statement name items c expr last i is) = chain text tokens (into_update text tokens at (REST text tokens) i) (reads_update (at + 1) name items c expr end is)
  reads_statement at s end (query_statement q last r) =
      chain text tokens (into_query text tokens at (REST text tokens) (begins_query text tokens at (query_first (WholeQuery 0) at q end r))) (reads_query with_params names text tokens (WholeQuery 0) at q end r (REST text tokens) (free_query_rest text tokens))

  fails_statement : (at : ℕ) (why : ParseFault) → StatementFault with_params names text tokens at why → Faulty text tokens (StatementPart ∷ REST text tokens) at why
  fails_statement at why statement_memory = tt
  fails_statement at why (in_setting w i f) = behind text tokens why (into_set text tokens at (REST text tokens) i) (fails_setting text tokens with_params (at + 1) why (REST text tokens) f)
  fails_statement at why (in_insert w i f) = behind text tokens why (into_insert text tokens at (REST text tokens) i) (fails_insert (at + 1) why f)
  fails_statement at why (in_delete w i f) = behind text tokens why (into_delete text tokens at (REST text tokens) i) (fails_delete (at + 1) why f)
  fails_statement at why (in_update w i f) = behind text tokens why (into_update text tokens at (REST text tokens) i) (fails_update (at + 1) why f)
  fails_statement at why (in_query w begins f) = behind text tokens why (into_query text tokens at (REST text tokens) begins) (fails_query with_params names text tokens (WholeQuery 0) at why (omega arith) f (REST text tokens) (free_query_rest text tokens))

  -- a statement's first token is neither the end nor a semicolon
  statement_isnt : (other at : ℕ) (s : Statement) (end : ℕ) → apart 5 other ≡ true → apart 6 other ≡ true → apart 7 other ≡ true → apart 8 other ≡ true → apart 9 other ≡ true → apart 10 other ≡ true → apart 11 other ≡ true → apart 12 other ≡ true → apart 100 other ≡ true → apart 13 other ≡ true → apart 33 other ≡ true → apart 14 other ≡ true → SpellsStatement with_params names text tokens at s end → takes other (lexeme_at text tokens at) ≡ false
  statement_isnt other at s end a b c d e f g h j k l m (begin_statement last i t) = isnt text tokens 5 other at a i
  statement_isnt other at s end a b c d e f g h j k l m (commit_statement last i t) = isnt text tokens 6 other at b i
  statement_isnt other at s end a b c d e f g h j k l m (rollback_statement last i t) = isnt text tokens 7 other at c i
  statement_isnt other at s end a b c d e f g h j k l m (set_statement i word to v) = isnt text tokens 8 other at d i
  statement_isnt other at s end a b c d e f g h j k l m (insert_statement name columns rows expr last i is) = isnt text tokens 9 other at e i
  statement_isnt other at s end a b c d e f g h j k l m (delete_statement name cond expr last i is) = isnt text tokens 10 other at f i
  statement_isnt other at s end a b c d e f g h j k l m (update_statement name items cond expr last i is) = isnt text tokens 11 other at g i
  statement_isnt other at s end a b c d e f g h j k l m (query_statement q last r) = first_isnt text tokens other at h j k l m (query_first (WholeQuery 0) at q end r)

  -- texts
  into_statement : (at : ℕ) → takes 47 (lexeme_at text tokens at) ≡ false → takes 38 (lexeme_at text tokens at) ≡ false → Moves text tokens (Statements ∷ []) at (StatementPart ∷ REST text tokens) at
  into_statement at a b = choose text tokens 0 0 ((Sign lexeme.End ∷ []) ∷ (Sign lexeme.Semicolon ∷ Statements ∷ []) ∷ []) (StatementPart ∷ MoreStatements ∷ []) [] [] at (λ limit h. refl) (not_this text tokens 47 [] at a, (not_this text tokens 38 (Statements ∷ []) at b, tt)) tt

  never_statement : (sign at : ℕ) (s : Form) → apart sign 5 ≡ true → apart sign 6 ≡ true → apart sign 7 ≡ true → apart sign 8 ≡ true → apart sign 9 ≡ true → apart sign 10 ≡ true → apart sign 11 ≡ true → apart sign 12 ≡ true → apart sign 100 ≡ true → apart sign 13 ≡ true → apart sign 33 ≡ true → apart sign 14 ≡ true → Takes text tokens sign at → Excluded text tokens (StatementPart ∷ s) at
  never_statement sign at s a b c d e f g h j k l m i =
      no_part text tokens 2 0 (λ limit. (Sign lexeme.Begin ∷ Tail ∷ []) ∷ (Sign lexeme.Commit ∷ Tail ∷ []) ∷ (Sign lexeme.Rollback ∷ Tail ∷ []) ∷ (Sign lexeme.Set ∷ WORD ∷ SetSign ∷ SetValue ∷ [])
      ∷ (Sign lexeme.Insert ∷ Sign lexeme.Into ∷ NAME ∷ Sign lexeme.Open ∷ NAME ∷ MoreNames 1 ∷ When 0 ∷ []) ∷ (Sign lexeme.Delete ∷ Sign lexeme.From ∷ NAME ∷ Where 0 ∷ When 0 ∷ [])
      ∷ (Sign lexeme.Update ∷ NAME ∷ Sign lexeme.Set ∷ SetPart ∷ MoreSets ∷ Where 0 ∷ When 0 ∷ []) ∷ (QueryPart 0 ∷ []) ∷ []) s at (λ limit. refl)
      (λ limit. (
        but text tokens sign 5 (Tail ∷ s) at a i,
        (
          but text tokens sign 6 (Tail ∷ s) at b i,
          (
            but text tokens sign 7 (Tail ∷ s) at c i,
            (
              but text tokens sign 8 (WORD ∷ SetSign ∷ SetValue ∷ s) at d i,
              (
                but text tokens sign 9 (Sign lexeme.Into ∷ NAME ∷ Sign lexeme.Open ∷ NAME ∷ MoreNames 1 ∷ When 0 ∷ s) at e i,
                (
                  but text tokens sign 10 (Sign lexeme.From ∷ NAME ∷ Where 0 ∷ When 0 ∷ s) at f i,
                  (but text tokens sign 11 (NAME ∷ Sign lexeme.Set ∷ SetPart ∷ MoreSets ∷ Where 0 ∷ When 0 ∷ s) at g i, (never_query text tokens sign 0 s at h j k l m i, tt)),
                ),
              ),
            ),
          ),
        ),
      ))

  skip_semicolon : (at : ℕ) → Takes text tokens 38 at → Moves text tokens (Statements ∷ []) at (Statements ∷ []) (at + 1)
  skip_semicolon at i =
      chain text tokens (choose text tokens 0 0 ((Sign lexeme.End ∷ []) ∷ []) (Sign lexeme.Semicolon ∷ Statements ∷ []) ((StatementPart ∷ MoreStatements ∷ []) ∷ []) [] at (λ limit h. refl) (but text tokens 38 47 [] at refl i, tt)
      (never_statement 38 at (MoreStatements ∷ []) refl refl refl refl refl refl refl refl refl refl refl refl i, tt))
      (pass text tokens 38 (Statements ∷ []) at i)

  next_statement : (at : ℕ) → Takes text tokens 38 at → Moves text tokens (REST text tokens) at (Statements ∷ []) (at + 1)
  next_statement at i = chain text tokens (choose text tokens 1 0 ((Sign lexeme.End ∷ []) ∷ []) (Sign lexeme.Semicolon ∷ Statements ∷ []) [] [] at (λ limit h. refl) (but text tokens 38 47 [] at refl i, tt) tt) (pass text tokens 38 (Statements ∷ []) at i)

  past_statement : (at : ℕ) (s : Statement) (end : ℕ) → SpellsStatement with_params names text tokens at s end → Moves text tokens (Statements ∷ []) at (REST text tokens) end
  past_statement at s end r = chain text tokens (into_statement at (statement_isnt 47 at s end refl refl refl refl refl refl refl refl refl refl refl refl r) (statement_isnt 38 at s end refl refl refl refl refl refl refl refl refl refl refl refl r)) (reads_statement at s end r)

  reads_before : (all : List Statement) (at : ℕ) → StatementsBefore with_params names text tokens all at → Moves text tokens (Statements ∷ []) 0 (Statements ∷ []) at
  reads_before all at no_statement_yet = stays text tokens (Statements ∷ []) 0
  reads_before all at (no_statement_here before place b i) = chain text tokens (reads_before before place b) (skip_semicolon place i)
  reads_before all at (another_statement before place s end b r i) = chain text tokens (reads_before before place b) (chain text tokens (past_statement place s end r) (next_statement end i))

  end_text : (at : ℕ) → Takes text tokens 47 at → Moves text tokens (Statements ∷ []) at [] (at + 1)
  end_text at i =
      chain text tokens (choose text tokens 0 0 [] (Sign lexeme.End ∷ []) ((Sign lexeme.Semicolon ∷ Statements ∷ []) ∷ (StatementPart ∷ MoreStatements ∷ []) ∷ []) [] at (λ limit h. refl) tt
      (but text tokens 47 38 (Statements ∷ []) at refl i, (never_statement 47 at (MoreStatements ∷ []) refl refl refl refl refl refl refl refl refl refl refl refl i, tt)))
      (pass text tokens 47 [] at i)

  end_statement : (at : ℕ) → Takes text tokens 47 at → Moves text tokens (REST text tokens) at [] (at + 1)
  end_statement at i = chain text tokens (choose text tokens 1 0 [] (Sign lexeme.End ∷ []) ((Sign lexeme.Semicolon ∷ Statements ∷ []) ∷ []) [] at (λ limit h. refl) tt (but text tokens 47 38 (Statements ∷ []) at refl i, tt)) (pass text tokens 47 [] at i)

  at_end : (at : ℕ) → at ≡ length tokens → IsViable text tokens nesting_limit (at + 1) → IsViable text tokens nesting_limit (length tokens + 1)
  at_end at e v = subst (λ place. IsViable text tokens nesting_limit (place + 1)) e v

  -- a text that is read whole goes on the grammar up to its end
  pub viable_text : (all : List Statement) → AreStatements with_params names text tokens all → IsViable text tokens nesting_limit (length tokens + 1)
  viable_text all (ends_bare same at b i) = at_end at (end_place text tokens at i) (reaches text tokens nesting_limit (omega arith) (chain text tokens (reads_before all at b) (end_text at i))).goes
  viable_text all (ends_with_statement before at s end b r i) =
      at_end end (end_place text tokens end i) (reaches text tokens nesting_limit (omega arith) (chain text tokens (reads_before before at b) (chain text tokens (past_statement at s end r) (end_statement end i)))).goes

  fails_text : (why : ParseFault) → StatementsFault with_params names text tokens why → Faulty text tokens (Statements ∷ []) 0 why
  fails_text why statements_memory = tt
  fails_text why (in_statement before at w b a c f) = behind text tokens why (chain text tokens (reads_before before at b) (into_statement at a c)) (fails_statement at why f)
  fails_text why (statement_unended before at s end b r a c) =
      behind text tokens why (chain text tokens (reads_before before at b) (past_statement at s end r))
      (stuck text tokens (REST text tokens) end (no_part text tokens 1 0 (λ limit. (Sign lexeme.End ∷ []) ∷ (Sign lexeme.Semicolon ∷ Statements ∷ []) ∷ []) [] end (λ limit. refl) (λ limit. (not_this text tokens 47 [] end a, (not_this text tokens 38 (Statements ∷ []) end c, tt)))))

  viable_of : (why : ParseFault) → Faulty text tokens (Statements ∷ []) 0 why → IsViableFault text tokens why
  viable_of (fault.Syntax place) f = λ limit h. let stop = f limit h in record { before = stop.before; never = stop.never }
  viable_of (fault.TooDeep place) f = (record { before = f.0.before; never = f.0.never }, λ limit h. (f.1 limit h).goes)
  viable_of (fault.UnknownFeature place) f = f.goes
  viable_of (fault.IntTooLarge place) f = f.goes
  viable_of (fault.TooManyParams place) f = f.goes
  viable_of (fault.NoParam place) f = f.goes
  viable_of fault.Memory f = tt

  -- a fault of the text stands where the grammar says
  pub viable_fault : (why : ParseFault) → StatementsFault with_params names text tokens why → IsViableFault text tokens why
  viable_fault why f = viable_of why (fails_text why f)
