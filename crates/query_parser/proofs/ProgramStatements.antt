-- What writes, other statements and whole texts spell is what their programs come to, and so is each fault. So a text is
-- one list of statements alone, or has one fault.
use Rattle.std.proofs.Common.{◌≡◌, ◌≢◌, ℕ, ◌+◌, ◌==◌, ◌||◌, Bool, true, false, List, [], ◌∷◌, length, Some, Ok, Err, refl, arith}
use Rattle.std.proofs.lemmas.Bool.Decides.{nat_tests}
use Rattle.feature_expr.specs.declared.expr.Expr.{Expr}
use Rattle.word_tokens.specs.declared.token.Token.{Token}
use Rattle.vra_syntax.specs.declared.cond.Cond.{Cond}
use Rattle.vra_syntax.specs.declared.cond.Operand.{Operand}
use Rattle.vra_syntax.specs.declared.statement.Statement.{Statement}
use Rattle.vra_syntax.specs.declared.statement.Statement.TheVariants as statement
use Rattle.vra_syntax.specs.declared.write.SetItem.{SetItem}
use Rattle.vra_syntax.specs.declared.write.Write.TheVariants as write
use Rattle.query_parser.specs.Lexemes.{lexeme_at, stands, name_at, value_at}
use Rattle.query_parser.specs.Queries.{WholeQuery}
use Rattle.query_parser.specs.StatementGrammar.{is_word, takes}
use Rattle.query_parser.specs.Statements.{NamesTo, one_name, another_name, ValuesTo, one_value, another_value, IsTuple, TuplesTo, one_tuple, another_tuple, IsSetItem, SetItemsTo, one_set_item, another_set_item, IsInsert, IsDelete, IsUpdate, IsTail, no_tail, transaction_tail, work_tail, IsSetting, word_setting, integer_setting, text_setting, SpellsStatement, begin_statement, commit_statement, rollback_statement, set_statement, insert_statement, delete_statement, update_statement, query_statement, StatementsBefore, no_statement_yet, no_statement_here, another_statement, AreStatements, ends_bare, ends_with_statement}
use Rattle.query_parser.specs.WriteFaults.{NamesFault, names_memory, no_first_name, no_next_name, names_unclosed, TupleFault, tuple_memory, no_tuple, no_first_value, no_next_value, tuple_unclosed, another_count, TuplesFault, tuples_memory, in_first_tuple, in_next_tuple, SetItemFault, set_item_memory, no_set_column, no_equal, no_set_value, SetItemsFault, set_items_memory, in_first_set_item, in_next_set_item, InsertFault, insert_memory, no_into, no_insert_table, no_names, in_names, no_values, in_tuples, in_insert_when, DeleteFault, delete_memory, no_delete_from, no_delete_table, in_delete_where, in_delete_when, UpdateFault, update_memory, no_update_table, no_set, in_set_items, in_update_where, in_update_when, SettingFault, no_setting, no_to, no_setting_value, setting_too_large, StatementFault, statement_memory, in_setting, in_insert, in_delete, in_update, in_query, StatementsFault, statements_memory, in_statement, statement_unended}
use Rattle.query_parser.specs.declared.fault.ParseFault.{ParseFault}
use Rattle.query_parser.specs.declared.fault.ParseFault.TheVariants as fault
use Rattle.query_parser.specs.declared.lexeme.Lexeme.TheVariants as lexeme
use Rattle.query_parser.proofs.Programs.{MoreNames, MoreValues, ATuple, MoreTuples, ASetItem, MoreSetItems, ATail, ASetting, AStatement, MoreStatements, Program, Done, Ask, Fails, need, named, insert_program, delete_program, update_program, ends, asks, one_answer}
use Rattle.query_parser.proofs.ProgramParts.{Answer, R, not_true, other_sign, reads_when, fails_when, reads_where, fails_where}
use Rattle.query_parser.proofs.ProgramQueries.{reads_query, fails_query}
use Rattle.query_parser.proofs.StatementWalks.{begins_query, first_isnt, query_first}
use Rattle.query_parser.proofs.Walks.{apart}

same_count : (a b : ℕ) → a ≡ b → (a == b) ≡ true
same_count a b is = grind (arith, nat_tests)

other_count : (a b : ℕ) → a ≢ b → (a == b) ≡ false
other_count a b other = not_true (a == b) (λ h. other (grind (arith, nat_tests)))

module _ (with_params : Bool) (names : List (List ℕ)) (text : List ℕ) (tokens : List Token) where
  reads_names : (at : ℕ) (all : List (List ℕ)) (end : ℕ) → NamesTo text tokens at all end → (first : List ℕ) → name_at text tokens at ≡ Some first → (k : List (List ℕ) → ℕ → Program) (a : Answer with_params names text tokens) → R with_params names text tokens (Ask (MoreNames all end) k) a → R with_params names text tokens (Ask (MoreNames (first ∷ []) (at + 1)) k) a
  reads_names at all end (one_name name named) first is k a r = rw (let same : first ≡ name = cc (is, named) in same) r
  reads_names at all end (another_name before place name d comma named) first is k a r =
      reads_names at before place d first is k a (asks (MoreNames before place) k a (rw (comma, named) r))

  no_comma : (at : ℕ) → stands text tokens at lexeme.Close ≡ true → stands text tokens at lexeme.Comma ≡ false
  no_comma at close = other_sign with_params names text tokens 34 37 at refl close

  first_name : (at : ℕ) (all : List (List ℕ)) (end : ℕ) → NamesTo text tokens at all end → (first : List ℕ) × (name_at text tokens at ≡ Some first)
  first_name at all end (one_name name named) = (name, named)
  first_name at all end (another_name before place name d comma named) = first_name at before place d

  reads_values : (at : ℕ) (all : List Operand) (end : ℕ) → ValuesTo with_params text tokens at all end → (first : Operand) → value_at with_params text tokens at ≡ Ok first → (k : List Operand → ℕ → Program) (a : Answer with_params names text tokens) → R with_params names text tokens (Ask (MoreValues all end) k) a → R with_params names text tokens (Ask (MoreValues (first ∷ []) (at + 1)) k) a
  reads_values at all end (one_value value valued) first is k a r = rw (let same : first ≡ value = cc (is, valued) in same) r
  reads_values at all end (another_value before place value d comma valued) first is k a r =
      reads_values at before place d first is k a (asks (MoreValues before place) k a (rw (comma, valued) r))

  first_value : (at : ℕ) (all : List Operand) (end : ℕ) → ValuesTo with_params text tokens at all end → (first : Operand) × (value_at with_params text tokens at ≡ Ok first)
  first_value at all end (one_value value valued) = (value, valued)
  first_value at all end (another_value before place value d comma valued) = first_value at before place d

  reads_tuple : (count at : ℕ) (values : List Operand) (end : ℕ) → IsTuple with_params text tokens count at values end → (k : List Operand → ℕ → Program) (a : Answer with_params names text tokens) → R with_params names text tokens (k values end) a → R with_params names text tokens (Ask (ATuple count at) k) a
  reads_tuple count at values end d k a r =
      let first = first_value (at + 1) values d.close d.listed in
      asks (ATuple count at) k a (rw (d.opens, first.1) (reads_values (at + 1) values d.close d.listed first.0 first.1 _ a (asks (MoreValues values d.close) _ a (rw (no_comma d.close d.closes, d.closes, same_count (length values) count d.complete) (rw d.ends at r)))))

  fails_tuple : (count at : ℕ) (why : ParseFault) → TupleFault with_params text tokens count at why → why ≢ fault.Memory → (k : List Operand → ℕ → Program) → R with_params names text tokens (Ask (ATuple count at) k) (Err why)
  fails_tuple count at why tuple_memory other k = absurd (other refl)
  fails_tuple count at why (no_tuple missing) other k = asks (ATuple count at) k (Err why) (rw missing (ends (Err why)))
  fails_tuple count at why (no_first_value w opens is) other k = asks (ATuple count at) k (Err why) (rw (opens, is) (ends (Err why)))
  fails_tuple count at why (no_next_value before place w opens d comma is) other k =
      let first = first_value (at + 1) before place d in
      asks (ATuple count at) k (Err why) (rw (opens, first.1) (reads_values (at + 1) before place d first.0 first.1 _ (Err why) (asks (MoreValues before place) _ (Err why) (rw (comma, is) (ends (Err why))))))
  fails_tuple count at why (tuple_unclosed before place opens d comma missing) other k =
      let first = first_value (at + 1) before place d in
      asks (ATuple count at) k (Err why) (rw (opens, first.1) (reads_values (at + 1) before place d first.0 first.1 _ (Err why) (asks (MoreValues before place) _ (Err why) (rw (comma, missing) (ends (Err why))))))
  fails_tuple count at why (another_count before place opens d close wrong) other k =
      let first = first_value (at + 1) before place d in
      asks (ATuple count at) k (Err why) (rw (opens, first.1) (reads_values (at + 1) before place d first.0 first.1 _ (Err why) (asks (MoreValues before place) _ (Err why) (rw (no_comma place close, close, other_count (length before) count wrong) (ends (Err why))))))

  reads_tuples : (count at : ℕ) (all : List (List Operand)) (end : ℕ) → TuplesTo with_params text tokens count at all end → (k : List (List Operand) → ℕ → Program) (a : Answer with_params names text tokens) → R with_params names text tokens (Ask (MoreTuples count all end) k) a → R with_params names text tokens (Ask (ATuple count at) (λ row end. Ask (MoreTuples count (row ∷ []) end) k)) a
  reads_tuples count at all end (one_tuple values last d) k a r = reads_tuple count at values end d _ a r
  reads_tuples count at all end (another_tuple before place values last ds comma d) k a r =
      reads_tuples count at before place ds k a (asks (MoreTuples count before place) k a (rw comma (reads_tuple count (place + 1) values end d _ a r)))

  fails_tuples : (count at : ℕ) (why : ParseFault) → TuplesFault with_params text tokens count at why → why ≢ fault.Memory → (k : List (List Operand) → ℕ → Program) → R with_params names text tokens (Ask (ATuple count at) (λ row end. Ask (MoreTuples count (row ∷ []) end) k)) (Err why)
  fails_tuples count at why tuples_memory other k = absurd (other refl)
  fails_tuples count at why (in_first_tuple w f) other k = fails_tuple count at why f other _
  fails_tuples count at why (in_next_tuple before place w ds comma f) other k =
      reads_tuples count at before place ds k (Err why) (asks (MoreTuples count before place) k (Err why) (rw comma (fails_tuple count (place + 1) why f other _)))

  reads_set_item : (at : ℕ) (item : SetItem) → IsSetItem with_params text tokens at item → (k : SetItem → ℕ → Program) (a : Answer with_params names text tokens) → R with_params names text tokens (k item (at + 3)) a → R with_params names text tokens (Ask (ASetItem at) k) a
  reads_set_item at item d k a r = asks (ASetItem at) k a (rw (d.named, d.equals, d.valued) r)

  fails_set_item : (at : ℕ) (why : ParseFault) → SetItemFault with_params text tokens at why → why ≢ fault.Memory → (k : SetItem → ℕ → Program) → R with_params names text tokens (Ask (ASetItem at) k) (Err why)
  fails_set_item at why set_item_memory other k = absurd (other refl)
  fails_set_item at why (no_set_column none) other k = asks (ASetItem at) k (Err why) (rw none (ends (Err why)))
  fails_set_item at why (no_equal column named missing) other k = asks (ASetItem at) k (Err why) (rw (named, missing) (ends (Err why)))
  fails_set_item at why (no_set_value column w named equal is) other k = asks (ASetItem at) k (Err why) (rw (named, equal, is) (ends (Err why)))

  reads_set_items : (at : ℕ) (all : List SetItem) (end : ℕ) → SetItemsTo with_params text tokens at all end → (k : List SetItem → ℕ → Program) (a : Answer with_params names text tokens) → R with_params names text tokens (Ask (MoreSetItems all end) k) a → R with_params names text tokens (Ask (ASetItem at) (λ item end. Ask (MoreSetItems (item ∷ []) end) k)) a
  reads_set_items at all end (one_set_item item d) k a r = reads_set_item at item d _ a r
  reads_set_items at all end (another_set_item before place item ds comma d) k a r =
      let past : place + 4 ≡ place + 1 + 3 = omega arith in
      reads_set_items at before place ds k a (asks (MoreSetItems before place) k a (rw comma (reads_set_item (place + 1) item d _ a (rw past at r))))

  fails_set_items : (at : ℕ) (why : ParseFault) → SetItemsFault with_params text tokens at why → why ≢ fault.Memory → (k : List SetItem → ℕ → Program) → R with_params names text tokens (Ask (ASetItem at) (λ item end. Ask (MoreSetItems (item ∷ []) end) k)) (Err why)
  fails_set_items at why set_items_memory other k = absurd (other refl)
  fails_set_items at why (in_first_set_item w f) other k = fails_set_item at why f other _
  fails_set_items at why (in_next_set_item before place w ds comma f) other k =
      reads_set_items at before place ds k (Err why) (asks (MoreSetItems before place) k (Err why) (rw comma (fails_set_item (place + 1) why f other _)))

  fails_names : (at : ℕ) (why : ParseFault) → NamesFault text tokens at why → why ≢ fault.Memory → (k : List (List ℕ) → ℕ → Program) → R with_params names text tokens (named (name_at text tokens at) (λ first. Ask (MoreNames (first ∷ []) (at + 1)) (λ all close. need (stands text tokens close lexeme.Close) close (k all close))) (Fails (fault.Syntax at))) (Err why)
  fails_names at why names_memory other k = absurd (other refl)
  fails_names at why (no_first_name none) other k = rw none (ends (Err why))
  fails_names at why (no_next_name before place d comma none) other k =
      let first = first_name at before place d in
      rw first.1 (reads_names at before place d first.0 first.1 _ (Err why) (asks (MoreNames before place) _ (Err why) (rw (comma, none) (ends (Err why)))))
  fails_names at why (names_unclosed before place d comma missing) other k =
      let first = first_name at before place d in
      rw first.1 (reads_names at before place d first.0 first.1 _ (Err why) (asks (MoreNames before place) _ (Err why) (rw (comma, missing) (ends (Err why)))))

  reads_insert : (at : ℕ) (table : List ℕ) (columns : List (List ℕ)) (rows : List (List Operand)) (expr : Expr) (end : ℕ) → IsInsert with_params names text tokens at table columns rows expr end → (k : Statement → ℕ → Program) (a : Answer with_params names text tokens) → R with_params names text tokens (k (statement.Write (write.Insert table columns rows expr)) end) a → R with_params names text tokens (insert_program with_params names text tokens at k) a
  reads_insert at table columns rows expr end d k a r =
      let first = first_name (at + 3) columns d.close d.listed in
      rw (d.into, d.named, d.opens, first.1) (reads_names (at + 3) columns d.close d.listed first.0 first.1 _ a (asks (MoreNames columns d.close) _ a (rw (no_comma d.close d.closes, d.closes, d.values) (reads_tuples (length columns) (d.close + 2) rows d.last d.given _ a (asks (MoreTuples (length columns) rows d.last) _ a (rw d.no_more (reads_when with_params names text tokens d.last expr end d.condition _ a r)))))))

  fails_insert : (at : ℕ) (why : ParseFault) → InsertFault with_params names text tokens at why → why ≢ fault.Memory → (k : Statement → ℕ → Program) → R with_params names text tokens (insert_program with_params names text tokens at k) (Err why)
  fails_insert at why insert_memory other k = absurd (other refl)
  fails_insert at why (no_into missing) other k = rw missing (ends (Err why))
  fails_insert at why (no_insert_table into none) other k = rw (into, none) (ends (Err why))
  fails_insert at why (no_names table into named missing) other k = rw (into, named, missing) (ends (Err why))
  fails_insert at why (in_names table w into named opens f) other k = rw (into, named, opens) (fails_names (at + 3) why f other _)
  fails_insert at why (no_values table columns close into named opens d closes missing) other k =
      let first = first_name (at + 3) columns close d in
      rw (into, named, opens, first.1) (reads_names (at + 3) columns close d first.0 first.1 _ (Err why) (asks (MoreNames columns close) _ (Err why) (rw (no_comma close closes, closes, missing) (ends (Err why)))))
  fails_insert at why (in_tuples table columns close w into named opens d closes values f) other k =
      let first = first_name (at + 3) columns close d in
      rw (into, named, opens, first.1) (reads_names (at + 3) columns close d first.0 first.1 _ (Err why) (asks (MoreNames columns close) _ (Err why) (rw (no_comma close closes, closes, values) (fails_tuples (length columns) (close + 2) why f other _))))
  fails_insert at why (in_insert_when table columns close rows last w into named opens d closes values ds comma f) other k =
      let first = first_name (at + 3) columns close d in
      rw (into, named, opens, first.1) (reads_names (at + 3) columns close d first.0 first.1 _ (Err why) (asks (MoreNames columns close) _ (Err why) (rw (no_comma close closes, closes, values) (reads_tuples (length columns) (close + 2) rows last ds _ (Err why) (asks (MoreTuples (length columns) rows last) _ (Err why) (rw comma (fails_when with_params names text tokens last why f other _)))))))

  reads_delete : (at : ℕ) (table : List ℕ) (c : Cond) (expr : Expr) (end : ℕ) → IsDelete with_params names text tokens at table c expr end → (k : Statement → ℕ → Program) (a : Answer with_params names text tokens) → R with_params names text tokens (k (statement.Write (write.Delete table c expr)) end) a → R with_params names text tokens (delete_program with_params names text tokens at k) a
  reads_delete at table c expr end d k a r = rw (d.from, d.named) (reads_where with_params names text tokens 0 (at + 2) c d.last d.chosen _ a (reads_when with_params names text tokens d.last expr end d.condition _ a r))

  fails_delete : (at : ℕ) (why : ParseFault) → DeleteFault with_params names text tokens at why → why ≢ fault.Memory → (k : Statement → ℕ → Program) → R with_params names text tokens (delete_program with_params names text tokens at k) (Err why)
  fails_delete at why delete_memory other k = absurd (other refl)
  fails_delete at why (no_delete_from missing) other k = rw missing (ends (Err why))
  fails_delete at why (no_delete_table word none) other k = rw (word, none) (ends (Err why))
  fails_delete at why (in_delete_where table w word named f) other k = rw (word, named) (fails_where with_params names text tokens 0 (at + 2) why f other _)
  fails_delete at why (in_delete_when table c last w word named d f) other k = rw (word, named) (reads_where with_params names text tokens 0 (at + 2) c last d _ (Err why) (fails_when with_params names text tokens last why f other _))

  reads_update : (at : ℕ) (table : List ℕ) (items : List SetItem) (c : Cond) (expr : Expr) (end : ℕ) → IsUpdate with_params names text tokens at table items c expr end → (k : Statement → ℕ → Program) (a : Answer with_params names text tokens) → R with_params names text tokens (k (statement.Write (write.Update table items c expr)) end) a → R with_params names text tokens (update_program with_params names text tokens at k) a
  reads_update at table items c expr end d k a r =
      rw (d.named, d.sets) (reads_set_items (at + 2) items d.behind d.listed _ a (asks (MoreSetItems items d.behind) _ a (rw d.no_more (reads_where with_params names text tokens 0 d.behind c d.last d.chosen _ a (reads_when with_params names text tokens d.last expr end d.condition _ a r)))))

  fails_update : (at : ℕ) (why : ParseFault) → UpdateFault with_params names text tokens at why → why ≢ fault.Memory → (k : Statement → ℕ → Program) → R with_params names text tokens (update_program with_params names text tokens at k) (Err why)
  fails_update at why update_memory other k = absurd (other refl)
  fails_update at why (no_update_table none) other k = rw none (ends (Err why))
  fails_update at why (no_set table named missing) other k = rw (named, missing) (ends (Err why))
  fails_update at why (in_set_items table w named set f) other k = rw (named, set) (fails_set_items (at + 2) why f other _)
  fails_update at why (in_update_where table items behind w named set ds comma f) other k =
      rw (named, set) (reads_set_items (at + 2) items behind ds _ (Err why) (asks (MoreSetItems items behind) _ (Err why) (rw comma (fails_where with_params names text tokens 0 behind why f other _))))
  fails_update at why (in_update_when table items behind c last w named set ds comma d f) other k =
      rw (named, set) (reads_set_items (at + 2) items behind ds _ (Err why) (asks (MoreSetItems items behind) _ (Err why) (rw comma (reads_where with_params names text tokens 0 behind c last d _ (Err why) (fails_when with_params names text tokens last why f other _)))))

  reads_tail : (at end : ℕ) → IsTail text tokens at end → (k : Unit {0} → ℕ → Program) (a : Answer with_params names text tokens) → R with_params names text tokens (k tt end) a → R with_params names text tokens (Ask (ATail at) k) a
  reads_tail at end (no_tail x y) k a r = asks (ATail at) k a (rw (x, y) r)
  reads_tail at end (transaction_tail x) k a r = asks (ATail at) k a (rw x r)
  reads_tail at end (work_tail y) k a r = asks (ATail at) k a (rw (other_sign with_params names text tokens 26 25 at refl y, y) r)

  number_is_no_word : (at : ℕ) (sign : ℕ) → apart sign 101 ≡ true → takes sign (lexeme_at text tokens at) ≡ true → is_word (lexeme_at text tokens at) ≡ false
  number_is_no_word at sign far is = other_sign with_params names text tokens sign 101 at far is

  reads_setting : (at : ℕ) → is_word (lexeme_at text tokens at) ≡ true → stands text tokens (at + 1) lexeme.To || stands text tokens (at + 1) lexeme.Equal ≡ true → IsSetting with_params text tokens (at + 2) → (k : Unit {0} → ℕ → Program) (a : Answer with_params names text tokens) → R with_params names text tokens (k tt (at + 3)) a → R with_params names text tokens (Ask (ASetting at) k) a
  reads_setting at word to (word_setting is) k a r = asks (ASetting at) k a (rw (word, to, is) r)
  reads_setting at word to (integer_setting value is valued) k a r = asks (ASetting at) k a (rw (word, to, number_is_no_word (at + 2) 30 refl is, is, valued) r)
  reads_setting at word to (text_setting is) k a r = asks (ASetting at) k a (rw (word, to, number_is_no_word (at + 2) 31 refl is, other_sign with_params names text tokens 31 30 (at + 2) refl is, is) r)

  fails_setting : (at : ℕ) (why : ParseFault) → SettingFault with_params text tokens at why → (k : Unit {0} → ℕ → Program) → R with_params names text tokens (Ask (ASetting at) k) (Err why)
  fails_setting at why (no_setting missing) k = asks (ASetting at) k (Err why) (rw missing (ends (Err why)))
  fails_setting at why (no_to word missing) k = asks (ASetting at) k (Err why) (rw (word, missing) (ends (Err why)))
  fails_setting at why (no_setting_value word to x y z) k = asks (ASetting at) k (Err why) (rw (word, to, x, y, z) (ends (Err why)))
  fails_setting at why (setting_too_large w word to is valued) k = asks (ASetting at) k (Err why) (rw (word, to, number_is_no_word (at + 2) 30 refl is, is, valued) (ends (Err why)))

  reads_statement : (at : ℕ) (s : Statement) (end : ℕ) → SpellsStatement with_params names text tokens at s end → (k : Statement → ℕ → Program) (a : Answer with_params names text tokens) → R with_params names text tokens (k s end) a → R with_params names text tokens (Ask (AStatement at) k) a
  reads_statement at s end (begin_statement last is d) k a r = asks (AStatement at) k a (rw is (reads_tail (at + 1) end d _ a r))
  reads_statement at s end (commit_statement last is d) k a r = asks (AStatement at) k a (rw (other_sign with_params names text tokens 6 5 at refl is, is) (reads_tail (at + 1) end d _ a r))
  reads_statement at s end (rollback_statement last is d) k a r = asks (AStatement at) k a (rw (other_sign with_params names text tokens 7 5 at refl is, other_sign with_params names text tokens 7 6 at refl is, is) (reads_tail (at + 1) end d _ a r))
  reads_statement at s end (set_statement is word to d) k a r =
      let one : at + 2 ≡ at + 1 + 1 = omega arith in let two : at + 3 ≡ at + 1 + 2 = omega arith in let three : at + 4 ≡ at + 1 + 3 = omega arith in
      asks (AStatement at) k a (rw (other_sign with_params names text tokens 8 5 at refl is, other_sign with_params names text tokens 8 6 at refl is, other_sign with_params names text tokens 8 7 at refl is, is) (reads_setting (at + 1) word (rw one at to) (rw two at d) _ a (rw three at r)))
  reads_statement at s end (insert_statement table columns rows expr last is d) k a r = asks (AStatement at) k a (rw (other_sign with_params names text tokens 9 5 at refl is, other_sign with_params names text tokens 9 6 at refl is, other_sign with_params names text tokens 9 7 at refl is, other_sign with_params names text tokens 9 8 at refl is, is) (reads_insert (at + 1) table columns rows expr end d k a r))
  reads_statement at s end (delete_statement table c expr last is d) k a r = asks (AStatement at) k a (rw (other_sign with_params names text tokens 10 5 at refl is, other_sign with_params names text tokens 10 6 at refl is, other_sign with_params names text tokens 10 7 at refl is, other_sign with_params names text tokens 10 8 at refl is, other_sign with_params names text tokens 10 9 at refl is, is) (reads_delete (at + 1) table c expr end d k a r))
  reads_statement at s end (update_statement table items c expr last is d) k a r = asks (AStatement at) k a (rw (other_sign with_params names text tokens 11 5 at refl is, other_sign with_params names text tokens 11 6 at refl is, other_sign with_params names text tokens 11 7 at refl is, other_sign with_params names text tokens 11 8 at refl is, other_sign with_params names text tokens 11 9 at refl is, other_sign with_params names text tokens 11 10 at refl is, is) (reads_update (at + 1) table items c expr end d k a r))
  reads_statement at s end (query_statement q last d) k a r =
      let b = begins_query text tokens at (query_first with_params names text tokens (WholeQuery 0) at q end d) in
      asks (AStatement at) k a (rw (b.not_begin, b.not_commit, b.not_rollback, b.not_set, b.not_insert, b.not_delete, b.not_update) (reads_query with_params names text tokens (WholeQuery 0) at q end d _ a r))

  fails_statement : (at : ℕ) (why : ParseFault) → StatementFault with_params names text tokens at why → why ≢ fault.Memory → (k : Statement → ℕ → Program) → R with_params names text tokens (Ask (AStatement at) k) (Err why)
  fails_statement at why statement_memory other k = absurd (other refl)
  fails_statement at why (in_setting w is f) other k = asks (AStatement at) k (Err why) (rw (other_sign with_params names text tokens 8 5 at refl is, other_sign with_params names text tokens 8 6 at refl is, other_sign with_params names text tokens 8 7 at refl is, is) (fails_setting (at + 1) why f _))
  fails_statement at why (in_insert w is f) other k = asks (AStatement at) k (Err why) (rw (other_sign with_params names text tokens 9 5 at refl is, other_sign with_params names text tokens 9 6 at refl is, other_sign with_params names text tokens 9 7 at refl is, other_sign with_params names text tokens 9 8 at refl is, is) (fails_insert (at + 1) why f other k))
  fails_statement at why (in_delete w is f) other k = asks (AStatement at) k (Err why) (rw (other_sign with_params names text tokens 10 5 at refl is, other_sign with_params names text tokens 10 6 at refl is, other_sign with_params names text tokens 10 7 at refl is, other_sign with_params names text tokens 10 8 at refl is, other_sign with_params names text tokens 10 9 at refl is, is) (fails_delete (at + 1) why f other k))
  fails_statement at why (in_update w is f) other k = asks (AStatement at) k (Err why) (rw (other_sign with_params names text tokens 11 5 at refl is, other_sign with_params names text tokens 11 6 at refl is, other_sign with_params names text tokens 11 7 at refl is, other_sign with_params names text tokens 11 8 at refl is, other_sign with_params names text tokens 11 9 at refl is, other_sign with_params names text tokens 11 10 at refl is, is) (fails_update (at + 1) why f other k))
  fails_statement at why (in_query w b f) other k =
      asks (AStatement at) k (Err why) (rw (b.not_begin, b.not_commit, b.not_rollback, b.not_set, b.not_insert, b.not_delete, b.not_update) (fails_query with_params names text tokens (WholeQuery 0) at why f other _))

  -- a sign that begins no statement
  statement_apart : (at : ℕ) (s : Statement) (end : ℕ) → SpellsStatement with_params names text tokens at s end → (takes 47 (lexeme_at text tokens at) ≡ false) × (takes 38 (lexeme_at text tokens at) ≡ false)
  statement_apart at s end (begin_statement last is d) = (other_sign with_params names text tokens 5 47 at refl is, other_sign with_params names text tokens 5 38 at refl is)
  statement_apart at s end (commit_statement last is d) = (other_sign with_params names text tokens 6 47 at refl is, other_sign with_params names text tokens 6 38 at refl is)
  statement_apart at s end (rollback_statement last is d) = (other_sign with_params names text tokens 7 47 at refl is, other_sign with_params names text tokens 7 38 at refl is)
  statement_apart at s end (set_statement is word to d) = (other_sign with_params names text tokens 8 47 at refl is, other_sign with_params names text tokens 8 38 at refl is)
  statement_apart at s end (insert_statement table columns rows expr last is d) = (other_sign with_params names text tokens 9 47 at refl is, other_sign with_params names text tokens 9 38 at refl is)
  statement_apart at s end (delete_statement table c expr last is d) = (other_sign with_params names text tokens 10 47 at refl is, other_sign with_params names text tokens 10 38 at refl is)
  statement_apart at s end (update_statement table items c expr last is d) = (other_sign with_params names text tokens 11 47 at refl is, other_sign with_params names text tokens 11 38 at refl is)
  statement_apart at s end (query_statement q last d) =
      let first = query_first with_params names text tokens (WholeQuery 0) at q end d in
      (first_isnt text tokens 47 at refl refl refl refl refl first, first_isnt text tokens 38 at refl refl refl refl refl first)

  -- nothing is asked behind a whole text
  stop : List Statement → ℕ → Program
  stop all end = Done (Ok all)

  reads_before : (before : List Statement) (at : ℕ) → StatementsBefore with_params names text tokens before at → (a : Answer with_params names text tokens) → R with_params names text tokens (Ask (MoreStatements before at) stop) a → R with_params names text tokens (Ask (MoreStatements [] 0) stop) a
  reads_before before at no_statement_yet a r = r
  reads_before before at (no_statement_here others place d semicolon) a r = reads_before before place d a (asks (MoreStatements before place) stop a (rw (other_sign with_params names text tokens 38 47 place refl semicolon, semicolon) r))
  reads_before before at (another_statement others place s end d spelled semicolon) a r =
      let first = statement_apart place s end spelled in
      reads_before others place d a (asks (MoreStatements others place) stop a (rw (first.0, first.1) (reads_statement place s end spelled _ a (rw (other_sign with_params names text tokens 38 47 end refl semicolon, semicolon) r))))

  reads_text : (all : List Statement) → AreStatements with_params names text tokens all → R with_params names text tokens (Ask (MoreStatements [] 0) stop) (Ok all)
  reads_text all (ends_bare same at d is) = reads_before all at d (Ok all) (asks (MoreStatements all at) stop (Ok all) (rw is (ends (Ok all))))
  reads_text all (ends_with_statement before at s end d spelled is) =
      let first = statement_apart at s end spelled in
      reads_before before at d (Ok all) (asks (MoreStatements before at) stop (Ok all) (rw (first.0, first.1) (reads_statement at s end spelled _ (Ok all) (rw is (ends (Ok all))))))

  fails_text : (why : ParseFault) → StatementsFault with_params names text tokens why → why ≢ fault.Memory → R with_params names text tokens (Ask (MoreStatements [] 0) stop) (Err why)
  fails_text why statements_memory other = absurd (other refl)
  fails_text why (in_statement before at w d missing none f) other = reads_before before at d (Err why) (asks (MoreStatements before at) stop (Err why) (rw (missing, none) (fails_statement at why f other _)))
  fails_text why (statement_unended before at s end d spelled missing none) other =
      let first = statement_apart at s end spelled in
      reads_before before at d (Err why) (asks (MoreStatements before at) stop (Err why) (rw (first.0, first.1) (reads_statement at s end spelled _ (Err why) (rw (missing, none) (ends (Err why))))))

  -- tokens are one list of statements alone
  pub one_list : (all other : List Statement) → AreStatements with_params names text tokens all → AreStatements with_params names text tokens other → all ≡ other
  one_list all other d d' = cc (one_answer with_params names text tokens (Ask (MoreStatements [] 0) stop) (Ok all) (Ok other) (reads_text all d) (reads_text other d'))

  -- and then they have no fault
  pub no_fault : (all : List Statement) (why : ParseFault) → AreStatements with_params names text tokens all → StatementsFault with_params names text tokens why → why ≢ fault.Memory → ⊥
  no_fault all why d f other = cc (one_answer with_params names text tokens (Ask (MoreStatements [] 0) stop) (Ok all) (Err why) (reads_text all d) (fails_text why f other))

  -- or have one
  pub one_fault : (why why' : ParseFault) → StatementsFault with_params names text tokens why → StatementsFault with_params names text tokens why' → why ≢ fault.Memory → why' ≢ fault.Memory → why ≡ why'
  one_fault why why' f f' other other' = cc (one_answer with_params names text tokens (Ask (MoreStatements [] 0) stop) (Err why) (Err why') (fails_text why f other) (fails_text why' f' other'))
