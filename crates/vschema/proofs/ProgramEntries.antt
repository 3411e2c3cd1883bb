-- What tables, rows and whole files spell is what their programs come to, and so is each fault. So a file is one
-- catalogue alone, or has one fault.
use Rattle.std.proofs.Common.{◌≡◌, ◌≢◌, ℕ, ◌+◌, ◌<◌, ◌==◌, true, false, List, [], length, Ok, Err, ap, subst, refl, arith}
use Rattle.std.proofs.lemmas.Bool.Decides.{nat_tests}
use Rattle.feature_expr.specs.declared.expr.Expr.{Expr}
use Rattle.word_tokens.specs.declared.token.Token.{Token}
use Rattle.vschema.specs.Limits.{table_limit}
use Rattle.vschema.specs.Faults.{TableNameFault, table_name_memory, no_table_name, table_again, one_table_more, TableFault, at_table_name, table_unopened, in_columns, in_table_tail, RowNameFault, row_name_memory, no_row_name, no_such_table, RowFault, at_row_name, row_unopened, in_cells, in_row_tail, EntryFault, entry_memory, in_table, in_row, no_entry, FileFault, catalogue_memory, in_head, at_model, in_entries}
use Rattle.vschema.specs.Spelling.{IsTable, IsRow, IsEntry, tables_with, rows_with, EntriesTo, no_entry_yet, another_entry, SpellCatalogue}
use Rattle.vschema.specs.Words.{stands, line_number}
use Rattle.vschema.specs.declared.catalog.Catalog.{Catalog}
use Rattle.vschema.specs.declared.catalog.OpeningRow.{OpeningRow}
use Rattle.vschema.specs.declared.catalog.Table.{Table}
use Rattle.vschema.specs.declared.entries.Entry.{Entry}
use Rattle.vschema.specs.declared.entries.Entry.TheVariants as entry
use Rattle.vschema.specs.declared.fault.CatalogFault.{CatalogFault}
use Rattle.vschema.specs.declared.fault.CatalogFault.TheVariants as fault
use Rattle.vschema.specs.declared.words.Sign.{Sign}
use Rattle.vschema.specs.declared.words.Sign.TheVariants as sign
use Rattle.vschema.proofs.Programs.{AHead, AModel, ATable, ARow, MoreEntries, Answer, Program, Done, Ask, ends, asks, one_answer}
use Rattle.vschema.proofs.ProgramParts.{below, above, not_true, R, reads_head, fails_head, reads_model, fails_model, reads_tail, fails_tail, reads_columns, fails_columns, reads_cells, fails_cells}
use Rattle.vschema.proofs.ViableLaws.{class_of_sign, sign_class, end_class, table_row}

at_end : (n : ℕ) → (n == n) ≡ true
at_end n = grind (arith, nat_tests)

before_end : (n end : ℕ) → n < end → (n == end) ≡ false
before_end n end h = grind (arith, nat_tests)

-- a row is what its fields are
same_row : (row : OpeningRow) (line : ℕ) → row.line ≡ line → row ≡ record { table = row.table; cells = row.cells; cond = row.cond; line = line }
same_row row line is = ap (λ (number : ℕ). record { table = row.table; cells = row.cells; cond = row.cond; line = number }) is

module _ (text : List ℕ) (tokens : List Token) where
  reads_table : (names : List (List ℕ)) (tables : List Table) (at : ℕ) (table : Table) (end : ℕ) → IsTable names text tokens tables at table end → (k : Table → ℕ → Program) (a : Answer) → R text tokens (k table end) a → R text tokens (Ask (ATable names tables at) k) a
  reads_table names tables at table end d k a r =
      asks (ATable names tables at) k a (rw (d.is_new.named, d.is_new.fresh, below (length tables) table_limit d.is_new.within, d.opens) (reads_columns text tokens names (at + 3) table.columns d.behind d.columns _ a (reads_tail text tokens names d.behind table.cond end d.tail _ a r)))

  fails_table_name : (names : List (List ℕ)) (tables : List Table) (at : ℕ) (why : CatalogFault) → TableNameFault text tokens tables (at + 1) why → why ≢ fault.Memory → (k : Table → ℕ → Program) → R text tokens (Ask (ATable names tables at) k) (Err why)
  fails_table_name names tables at why table_name_memory other k = absurd (other refl)
  fails_table_name names tables at why (no_table_name none) other k = asks (ATable names tables at) k (Err why) (rw none (ends (Err why)))
  fails_table_name names tables at why (table_again name place named again) other k = asks (ATable names tables at) k (Err why) (rw (named, again) (ends (Err why)))
  fails_table_name names tables at why (one_table_more name named fresh full) other k = asks (ATable names tables at) k (Err why) (rw (named, fresh, above (length tables) table_limit full) (ends (Err why)))

  fails_table : (names : List (List ℕ)) (tables : List Table) (at : ℕ) (why : CatalogFault) → TableFault names text tokens tables at why → why ≢ fault.Memory → (k : Table → ℕ → Program) → R text tokens (Ask (ATable names tables at) k) (Err why)
  fails_table names tables at why (at_table_name w f) other k = fails_table_name names tables at why f other k
  fails_table names tables at why (table_unopened name new missing) other k =
      asks (ATable names tables at) k (Err why) (rw (new.named, new.fresh, below (length tables) table_limit new.within, missing) (ends (Err why)))
  fails_table names tables at why (in_columns name w new opens f) other k =
      asks (ATable names tables at) k (Err why) (rw (new.named, new.fresh, below (length tables) table_limit new.within, opens) (fails_columns text tokens names (at + 3) why f other _))
  fails_table names tables at why (in_table_tail name columns behind w new opens d f) other k =
      asks (ATable names tables at) k (Err why) (rw (new.named, new.fresh, below (length tables) table_limit new.within, opens) (reads_columns text tokens names (at + 3) columns behind d _ (Err why) (fails_tail text tokens names behind why f other _)))

  reads_row : (names : List (List ℕ)) (tables : List Table) (at : ℕ) (row : OpeningRow) (end : ℕ) → IsRow names text tokens tables at row end → (k : OpeningRow → ℕ → Program) (a : Answer) → R text tokens (k row end) a → R text tokens (Ask (ARow names tables at) k) a
  reads_row names tables at row end d k a r =
      let same = same_row row (line_number text tokens at) d.line in
      asks (ARow names tables at) k a (rw (d.is_name.named, d.is_name.found, d.is_name.there, d.opens) (reads_cells text tokens d.table.columns (at + 3) row.cells d.behind d.cells _ a (reads_tail text tokens names d.behind row.cond end d.tail _ a (subst (λ (it : OpeningRow). R text tokens (k it end) a) same r))))

  fails_row_name : (names : List (List ℕ)) (tables : List Table) (at : ℕ) (why : CatalogFault) → RowNameFault text tokens tables (at + 1) why → why ≢ fault.Memory → (k : OpeningRow → ℕ → Program) → R text tokens (Ask (ARow names tables at) k) (Err why)
  fails_row_name names tables at why row_name_memory other k = absurd (other refl)
  fails_row_name names tables at why (no_row_name none) other k = asks (ARow names tables at) k (Err why) (rw none (ends (Err why)))
  fails_row_name names tables at why (no_such_table name named none) other k = asks (ARow names tables at) k (Err why) (rw (named, none) (ends (Err why)))

  fails_row : (names : List (List ℕ)) (tables : List Table) (at : ℕ) (why : CatalogFault) → RowFault names text tokens tables at why → why ≢ fault.Memory → (k : OpeningRow → ℕ → Program) → R text tokens (Ask (ARow names tables at) k) (Err why)
  fails_row names tables at why (at_row_name w f) other k = fails_row_name names tables at why f other k
  fails_row names tables at why (row_unopened number table is missing) other k = asks (ARow names tables at) k (Err why) (rw (is.named, is.found, is.there, missing) (ends (Err why)))
  fails_row names tables at why (in_cells number table w is opens f) other k =
      asks (ARow names tables at) k (Err why) (rw (is.named, is.found, is.there, opens) (fails_cells text tokens table.columns (at + 3) why f other _))
  fails_row names tables at why (in_row_tail number table cells behind w is opens d f) other k =
      asks (ARow names tables at) k (Err why) (rw (is.named, is.found, is.there, opens) (reads_cells text tokens table.columns (at + 3) cells behind d _ (Err why) (fails_tail text tokens names behind why f other _)))

  -- a row is no table
  no_table : (at : ℕ) → stands text tokens at sign.Row ≡ true → stands text tokens at sign.Table ≡ false
  no_table at row = not_true (stands text tokens at sign.Table) (λ h. table_row text tokens at h row)

  -- behind a table or a row
  reads_entry : (names : List (List ℕ)) (tables : List Table) (rows : List OpeningRow) (it : Entry) (at end : ℕ) → IsEntry names text tokens tables at it end → (k : List Table × List OpeningRow → ℕ → Program) (a : Answer) → R text tokens (Ask (MoreEntries names (tables_with tables it) (rows_with rows it) end) k) a → R text tokens (Ask (MoreEntries names tables rows at) k) a
  reads_entry names tables rows (entry.Table table) at end d k a r = asks (MoreEntries names tables rows at) k a (rw d.begins (reads_table names tables at table end d _ a r))
  reads_entry names tables rows (entry.Row row) at end d k a r = asks (MoreEntries names tables rows at) k a (rw (no_table at d.begins, d.begins) (reads_row names tables at row end d _ a r))

  -- what goes on behind some tables and rows goes on from the first
  reads_entries : (names : List (List ℕ)) (from : ℕ) (tables : List Table) (rows : List OpeningRow) (at : ℕ) → EntriesTo names text tokens from tables rows at → (k : List Table × List OpeningRow → ℕ → Program) (a : Answer) → R text tokens (Ask (MoreEntries names tables rows at) k) a → R text tokens (Ask (MoreEntries names [] [] from) k) a
  reads_entries names from all all_rows to no_entry_yet k a r = r
  reads_entries names from all all_rows to (another_entry tables rows it at end ds d) k a r = reads_entries names from tables rows at ds k a (reads_entry names tables rows it at end d k a r)

  fails_entry : (names : List (List ℕ)) (tables : List Table) (rows : List OpeningRow) (at : ℕ) (why : CatalogFault) → EntryFault names text tokens tables at why → why ≢ fault.Memory → (k : List Table × List OpeningRow → ℕ → Program) → R text tokens (Ask (MoreEntries names tables rows at) k) (Err why)
  fails_entry names tables rows at why entry_memory other k = absurd (other refl)
  fails_entry names tables rows at why (in_table w begins f) other k = asks (MoreEntries names tables rows at) k (Err why) (rw begins (fails_table names tables at why f other _))
  fails_entry names tables rows at why (in_row w begins f) other k = asks (MoreEntries names tables rows at) k (Err why) (rw (no_table at begins, begins) (fails_row names tables at why f other _))
  fails_entry names tables rows at why (no_entry table row within) other k = asks (MoreEntries names tables rows at) k (Err why) (rw (table, row, before_end at (length tokens) within) (ends (Err why)))

  -- a word isn't the end of the file
  no_word : (s : Sign) → class_of_sign text tokens s ≡ 1 → stands text tokens (length tokens) s ≡ false
  no_word s word =
      let none = end_class text tokens (length tokens) (at_end (length tokens)) in
      not_true (stands text tokens (length tokens) s) (λ h. let one = sign_class text tokens s (length tokens) h in absurd (omega (arith, none, one, word)))

  -- behind the head and the feature model, the tables and rows make a file whole
  abbrev whole : List (List ℕ) → Expr → List Table × List OpeningRow → ℕ → Program
  whole names model found end = Done (Ok (record { features = names; model = model; tables = found.0 }, found.1))

  abbrev behind_model : List (List ℕ) → Expr → ℕ → Program
  behind_model names model entries = Ask (MoreEntries names [] [] entries) (whole names model)

  abbrev behind_head : List (List ℕ) → ℕ → Program
  behind_head names body = Ask (AModel names body) (behind_model names)

  abbrev file : Program
  file = Ask AHead behind_head

  reads_file : (catalog : Catalog) (rows : List OpeningRow) → SpellCatalogue text tokens catalog rows → R text tokens file (Ok (catalog, rows))
  reads_file catalog rows d =
      reads_head text tokens catalog.features d.body d.head behind_head (Ok (catalog, rows)) (reads_model text tokens catalog.features d.body catalog.model d.entries d.model (behind_model catalog.features) (Ok (catalog, rows))
      (reads_entries catalog.features d.entries catalog.tables rows (length tokens) d.all_entries (whole catalog.features catalog.model) (Ok (catalog, rows)) (asks (MoreEntries catalog.features catalog.tables rows (length tokens)) (whole catalog.features catalog.model) (Ok (catalog, rows)) (rw (no_word sign.Table refl, no_word sign.Row refl, at_end (length tokens)) (ends (Ok (catalog, rows)))))))

  fails_file : (why : CatalogFault) → FileFault text tokens why → why ≢ fault.Memory → R text tokens file (Err why)
  fails_file why catalogue_memory other = absurd (other refl)
  fails_file why (in_head w f) other = fails_head text tokens why f other behind_head
  fails_file why (at_model names body w d f) other = reads_head text tokens names body d behind_head (Err why) (fails_model text tokens names body why f other (behind_model names))
  fails_file why (in_entries names body model entries w d d' f) other =
      reads_head text tokens names body d behind_head (Err why) (reads_model text tokens names body model entries d' (behind_model names) (Err why) (reads_entries names entries f.tables f.rows f.at f.before (whole names model) (Err why) (fails_entry names f.tables f.rows f.at why f.here other (whole names model))))

  both : (found other : Catalog × List OpeningRow) → ◌≡◌ {A = Answer} (Ok found) (Ok other) → (found.0 ≡ other.0) × (found.1 ≡ other.1)
  both found other is =
      let same : found ≡ other = cc is in
      (ap (λ (pair : Catalog × List OpeningRow). pair.0) same, ap (λ (pair : Catalog × List OpeningRow). pair.1) same)

  -- tokens are one catalogue alone, with its opening rows
  pub one_file : (catalog catalog' : Catalog) (rows rows' : List OpeningRow) → SpellCatalogue text tokens catalog rows → SpellCatalogue text tokens catalog' rows' → (catalog ≡ catalog') × (rows ≡ rows')
  one_file catalog catalog' rows rows' d d' = both (catalog, rows) (catalog', rows') (one_answer text tokens file (Ok (catalog, rows)) (Ok (catalog', rows')) (reads_file catalog rows d) (reads_file catalog' rows' d'))

  -- and then they have no fault
  pub no_fault : (catalog : Catalog) (rows : List OpeningRow) (why : CatalogFault) → SpellCatalogue text tokens catalog rows → FileFault text tokens why → why ≢ fault.Memory → ⊥
  no_fault catalog rows why d f other = cc (one_answer text tokens file (Ok (catalog, rows)) (Err why) (reads_file catalog rows d) (fails_file why f other))

  -- or have one
  pub one_fault : (why why' : CatalogFault) → FileFault text tokens why → FileFault text tokens why' → why ≢ fault.Memory → why' ≢ fault.Memory → why ≡ why'
  one_fault why why' f f' other other' = cc (one_answer text tokens file (Err why) (Err why') (fails_file why f other) (fails_file why' f' other'))
