-- What was read leads to what is open behind it, and a fault is one of the grammar, or stands at a token that could
-- stand there.
use Rattle.std.proofs.Common.{Bool, true, false, ◌≡◌, ◌<◌, ◌==◌, ℕ, ◌+◌, List, [], ◌∷◌, length, Option, Some, None, is_some, refl, arith}
use Rattle.std.proofs.lemmas.Bool.Decides.{nat_tests}
use Rattle.word_tokens.specs.Grammar.{Terminal, Nonterminal}
use Rattle.word_tokens.proofs.GrammarLaws.{close_part}
use Rattle.feature_expr.specs.ExprGrammar.{Disjunction, signs_of, Foreign, Outer}
use Rattle.word_tokens.specs.Grammar.{IsFree}
use Rattle.feature_expr.specs.declared.expr.Expr.{Expr}
use Rattle.word_tokens.specs.declared.token.Token.{Token}
use Rattle.values.specs.declared.value.Kind.{Kind}
use Rattle.values.specs.declared.value.Value.{Value}
use Rattle.vschema.specs.Words.{stands, spelled_name_at, lower, folded_at, kind_at, value_at}
use Rattle.vschema.specs.Spelling.{NewFeature, FeaturesBefore, no_feature_yet, another_feature, IsHead, no_features, some_features, IsModel, no_model, some_model, IsWhen, no_when, some_when, IsTail, IsColumn, ColumnsBefore, no_column_yet, another_column, AreColumns, IsTable, IsCell, CellsBefore, no_cell_yet, another_cell, AreCells, IsRow, IsEntry, EntriesTo, no_entry_yet, another_entry, SpellCatalogue}
use Rattle.vschema.specs.Faults.{ExpressionFault, FeatureFault, feature_memory, no_feature_name, feature_again, one_feature_more, HeadFault, head_memory, no_features_word, at_feature, features_unended, ModelFault, in_model, model_unended, WhenFault, TailFault, in_tail_condition, tail_unended, ColumnNameFault, column_name_memory, no_column_name, column_again, one_column_more, ColumnFault, column_memory, at_column_name, no_kind, in_column_condition, ColumnsFault, columns_memory, at_column, columns_unclosed, TableNameFault, table_name_memory, no_table_name, table_again, one_table_more, TableFault, at_table_name, table_unopened, in_columns, in_table_tail, CellNameFault, cell_name_memory, no_cell_name, no_such_column, cell_again, CellFault, cell_memory, at_cell_name, no_value, another_kind, CellsFault, cells_memory, at_cell, cells_unclosed, RowNameFault, row_name_memory, no_row_name, no_such_table, RowFault, at_row_name, row_unopened, in_cells, in_row_tail, EntryFault, entry_memory, in_table, in_row, no_entry, FileFault, catalogue_memory, in_head, at_model, in_entries}
use Rattle.vschema.specs.CatalogueGrammar.{Form, fitting, outer, Expression, Goes, IsViable, IsFirstFileFault, IsViableFault, MODEL, TABLE, ROW, WHEN, OPEN, CLOSE, COMMA, SEMICOLON, NAME, KIND, VALUE, END, Names, MoreNames, ModelLine, Entries, Columns, MoreColumns, Cells, MoreCells, InnerWhen, When}
use Rattle.vschema.specs.declared.catalog.Catalog.{Catalog}
use Rattle.vschema.specs.declared.catalog.Column.{Column}
use Rattle.vschema.specs.declared.catalog.OpeningRow.{OpeningRow}
use Rattle.vschema.specs.declared.catalog.Table.{Table}
use Rattle.vschema.specs.declared.entries.Entry.{Entry}
use Rattle.vschema.specs.declared.entries.Entry.TheVariants as entry
use Rattle.vschema.specs.declared.fault.CatalogFault.{CatalogFault}
use Rattle.vschema.specs.declared.words.Sign.{Sign}
use Rattle.vschema.specs.declared.words.Sign.TheVariants as sign
use Rattle.vschema.proofs.ViableLaws.{grammar, token_fits, class_at, class_of_sign, sign_class, comma_semicolon, comma_close, model_table, model_row, table_row, named_class, end_class, Stands, begins, moved, reached, pass, never, stops, chosen, no_form, none_of, expression_ends, expression_refused, free_of, mark_free}

is_some_of : {X : Type 0} (found : Option X) (x : X) → found ≡ Some x → is_some found ≡ true
is_some_of found x e = rw e refl

not_some_of : {X : Type 0} (found : Option X) → found ≡ None → is_some found ≡ false
not_some_of found e = rw e refl

module _ (text : List ℕ) (tokens : List Token) where
  named_of_lower : (found : Option (List ℕ)) (name : List ℕ) → lower found ≡ Some name → is_some found ≡ true
  named_of_lower (Some word) name e = refl
  named_of_lower None name e = absurd (cc e)

  no_name_of_lower : (found : Option (List ℕ)) → lower found ≡ None → is_some found ≡ false
  no_name_of_lower (Some word) e = absurd (cc e)
  no_name_of_lower None e = refl

  -- a folded name is a name of the grammar
  folded_fits : (at : ℕ) (name : List ℕ) → folded_at text tokens at ≡ Some name → fitting text tokens 9 at ≡ true
  unfolding folded_at
  folded_fits at name e = named_of_lower (spelled_name_at text tokens at) name e

  folded_none : (at : ℕ) → folded_at text tokens at ≡ None → fitting text tokens 9 at ≡ false
  unfolding folded_at
  folded_none at e = no_name_of_lower (spelled_name_at text tokens at) e

  not_both : (b : Bool) → b ≡ true → b ≡ false → ⊥
  not_both b e f = cc (e, f)

  false_of : (b : Bool) → (b ≡ true → ⊥) → b ≡ false
  false_of true other = absurd (other refl)
  false_of false other = refl

  -- a name isn't a sign of another class
  name_isnt : (at : ℕ) → fitting text tokens 9 at ≡ true → class_at text tokens at ≡ 2 → ⊥
  name_isnt at e two = let one = named_class text tokens at (spelled_name_at text tokens at) refl e in absurd (omega (arith, one, two))

  semicolon_class : (at : ℕ) → fitting text tokens 8 at ≡ true → class_at text tokens at ≡ 2
  semicolon_class at e = sign_class text tokens sign.Semicolon at e

  comma_class : (at : ℕ) → fitting text tokens 7 at ≡ true → class_at text tokens at ≡ 2
  comma_class at e = sign_class text tokens sign.Comma at e

  close_class : (at : ℕ) → fitting text tokens 6 at ≡ true → class_at text tokens at ≡ 2
  close_class at e = sign_class text tokens sign.Close at e

  -- a word isn't the end of the text
  end_isnt : (at : ℕ) (s : Sign) → class_of_sign text tokens s ≡ 1 → fitting text tokens 12 at ≡ true → stands text tokens at s ≡ true → ⊥
  end_isnt at s word e stand = let none = end_class text tokens at e in let one = sign_class text tokens s at stand in absurd (omega (arith, none, one, word))

  end_at : (at : ℕ) → at < length tokens → fitting text tokens 12 at ≡ true → ⊥
  end_at at before e = let same : at ≡ length tokens = grind (arith, nat_tests) in absurd (omega (arith, same, before))

  -- at the name of a feature
  names_open : (names : List (List ℕ)) (at : ℕ) → FeaturesBefore text tokens names at → stands text tokens 0 sign.Features ≡ true → fitting text tokens 9 at ≡ true → Stands text tokens (NAME ∷ MoreNames ∷ ModelLine ∷ Entries ∷ []) at
  names_open all to no_feature_yet features name =
      chosen text tokens 0 ((SEMICOLON ∷ []) ∷ []) (NAME ∷ MoreNames ∷ []) [] (ModelLine ∷ Entries ∷ []) 1 refl (never text tokens 8 (ModelLine ∷ Entries ∷ []) 1 (λ e. name_isnt 1 name (semicolon_class 1 e)), tt) tt (pass text tokens 0 (Names ∷ ModelLine ∷ Entries ∷ []) 0 features (begins text tokens))
  names_open all to (another_feature names word at before new comma) features name =
      let more = pass text tokens 9 (MoreNames ∷ ModelLine ∷ Entries ∷ []) at (is_some_of (spelled_name_at text tokens at) word new.named) (names_open names at before features (is_some_of (spelled_name_at text tokens at) word new.named)) in
      let open_comma = chosen text tokens 1 ((SEMICOLON ∷ []) ∷ []) (COMMA ∷ NAME ∷ MoreNames ∷ []) [] (ModelLine ∷ Entries ∷ []) (at + 1) refl (never text tokens 8 (ModelLine ∷ Entries ∷ []) (at + 1) (λ e. comma_semicolon text tokens (at + 1) comma e), tt) tt more in
      moved text tokens (NAME ∷ MoreNames ∷ ModelLine ∷ Entries ∷ []) (at + 1 + 1) (at + 2) (omega arith) (pass text tokens 7 (NAME ∷ MoreNames ∷ ModelLine ∷ Entries ∷ []) (at + 1) comma open_comma)

  -- behind it
  names_more : (names : List (List ℕ)) (name : List ℕ) (at : ℕ) → FeaturesBefore text tokens names at → NewFeature text tokens names at name → stands text tokens 0 sign.Features ≡ true → Stands text tokens (MoreNames ∷ ModelLine ∷ Entries ∷ []) (at + 1)
  names_more names name at before new features =
      let fit = is_some_of (spelled_name_at text tokens at) name new.named in
      pass text tokens 9 (MoreNames ∷ ModelLine ∷ Entries ∷ []) at fit (names_open names at before features fit)

  head_open : (names : List (List ℕ)) (end : ℕ) → IsHead text tokens names end → Stands text tokens (ModelLine ∷ Entries ∷ []) end
  head_open all end (no_features features semicolon) =
      pass text tokens 8 (ModelLine ∷ Entries ∷ []) 1 semicolon (chosen text tokens 0 [] (SEMICOLON ∷ []) ((NAME ∷ MoreNames ∷ []) ∷ []) (ModelLine ∷ Entries ∷ []) 1 refl tt (never text tokens 9 (MoreNames ∷ ModelLine ∷ Entries ∷ []) 1 (λ e. name_isnt 1 e (semicolon_class 1 semicolon)), tt) (pass text tokens 0 (Names ∷ ModelLine ∷ Entries ∷ []) 0 features (begins text tokens)))
  head_open all end (some_features names name at features before new semicolon) =
      moved text tokens (ModelLine ∷ Entries ∷ []) (at + 1 + 1) (at + 2) (omega arith) (pass text tokens 8 (ModelLine ∷ Entries ∷ []) (at + 1) semicolon (chosen text tokens 1 [] (SEMICOLON ∷ []) ((COMMA ∷ NAME ∷ MoreNames ∷ []) ∷ []) (ModelLine ∷ Entries ∷ []) (at + 1) refl tt (never text tokens 7 (NAME ∷ MoreNames ∷ ModelLine ∷ Entries ∷ []) (at + 1) (λ e. comma_semicolon text tokens (at + 1) e semicolon), tt) (names_more names name at before new features)))

  no_name_here : (names : List (List ℕ)) (at : ℕ) → FeaturesBefore text tokens names at → stands text tokens 0 sign.Features ≡ true → stands text tokens 1 sign.Semicolon ≡ false → spelled_name_at text tokens at ≡ None → IsFirstFileFault text tokens at
  no_name_here all to no_feature_yet features some none =
      no_form text tokens 0 ((SEMICOLON ∷ []) ∷ (NAME ∷ MoreNames ∷ []) ∷ []) (ModelLine ∷ Entries ∷ []) 1 refl (never text tokens 8 (ModelLine ∷ Entries ∷ []) 1 (λ e. cc (e, some)), (never text tokens 9 (MoreNames ∷ ModelLine ∷ Entries ∷ []) 1 (λ e. cc (e, not_some_of (spelled_name_at text tokens 1) none)), tt)) (pass text tokens 0 (Names ∷ ModelLine ∷ Entries ∷ []) 0 features (begins text tokens))
  no_name_here all to (another_feature names word at before new comma) features some none =
      let open_comma = chosen text tokens 1 ((SEMICOLON ∷ []) ∷ []) (COMMA ∷ NAME ∷ MoreNames ∷ []) [] (ModelLine ∷ Entries ∷ []) (at + 1) refl (never text tokens 8 (ModelLine ∷ Entries ∷ []) (at + 1) (λ e. comma_semicolon text tokens (at + 1) comma e), tt) tt (names_more names word at before new features) in
      stops text tokens 9 (MoreNames ∷ ModelLine ∷ Entries ∷ []) (at + 2) (not_some_of (spelled_name_at text tokens (at + 2)) none) (moved text tokens (NAME ∷ MoreNames ∷ ModelLine ∷ Entries ∷ []) (at + 1 + 1) (at + 2) (omega arith) (pass text tokens 7 (NAME ∷ MoreNames ∷ ModelLine ∷ Entries ∷ []) (at + 1) comma open_comma))

  at_name : (names : List (List ℕ)) (name : List ℕ) (at : ℕ) → FeaturesBefore text tokens names at → stands text tokens 0 sign.Features ≡ true → spelled_name_at text tokens at ≡ Some name → IsViable text tokens (at + 1)
  at_name names name at before features named =
      let fit = is_some_of (spelled_name_at text tokens at) name named in
      reached text tokens (MoreNames ∷ ModelLine ∷ Entries ∷ []) (at + 1) (pass text tokens 9 (MoreNames ∷ ModelLine ∷ Entries ∷ []) at fit (names_open names at before features fit))

  feature_fault : (names : List (List ℕ)) (at : ℕ) (why : CatalogFault) → FeaturesBefore text tokens names at → stands text tokens 0 sign.Features ≡ true → stands text tokens 1 sign.Semicolon ≡ false → FeatureFault text tokens names at why → IsViableFault text tokens why
  feature_fault names at why before features some feature_memory = tt
  feature_fault names at why before features some (no_feature_name none) = no_name_here names at before features some none
  feature_fault names at why before features some (feature_again name named again) = at_name names name at before features named
  feature_fault names at why before features some (one_feature_more name named fresh full) = at_name names name at before features named

  head_fault : (why : CatalogFault) → HeadFault text tokens why → IsViableFault text tokens why
  head_fault why head_memory = tt
  head_fault why (no_features_word other) = stops text tokens 0 (Names ∷ ModelLine ∷ Entries ∷ []) 0 other (begins text tokens)
  head_fault why (at_feature names at inner features some before f) = feature_fault names at inner before features some f
  head_fault why (features_unended names name at features before new comma semicolon) =
      no_form text tokens 1 ((SEMICOLON ∷ []) ∷ (COMMA ∷ NAME ∷ MoreNames ∷ []) ∷ []) (ModelLine ∷ Entries ∷ []) (at + 1) refl (never text tokens 8 (ModelLine ∷ Entries ∷ []) (at + 1) (λ e. cc (e, semicolon)), (never text tokens 7 (NAME ∷ MoreNames ∷ ModelLine ∷ Entries ∷ []) (at + 1) (λ e. cc (e, comma)), tt)) (names_more names name at before new features)

  -- a table, a row or the end never begins with the word `model`
  entries_free : (at to : ℕ) → stands text tokens at sign.Model ≡ true → at < to → Goes text tokens (Entries ∷ []) at to → ⊥
  entries_free at to model order m =
      none_of text tokens [] at to ((END ∷ []) ∷ (TABLE ∷ NAME ∷ OPEN ∷ Columns ∷ When ∷ SEMICOLON ∷ Entries ∷ []) ∷ (ROW ∷ NAME ∷ OPEN ∷ Cells ∷ When ∷ SEMICOLON ∷ Entries ∷ []) ∷ []) order (never text tokens 12 [] at (λ e. end_isnt at sign.Model refl e model), (never text tokens 2 (NAME ∷ OPEN ∷ Columns ∷ When ∷ SEMICOLON ∷ Entries ∷ []) at (λ e. model_table text tokens at model e), (never text tokens 3 (NAME ∷ OPEN ∷ Cells ∷ When ∷ SEMICOLON ∷ Entries ∷ []) at (λ e. model_row text tokens at model e), tt))) (close_part grammar (token_fits text tokens) (Outer 3 0) [] at to order m)

  model_open : (names : List (List ℕ)) (at : ℕ) (model : Expr) (end : ℕ) → IsModel names text tokens at model end → Stands text tokens (ModelLine ∷ Entries ∷ []) at → Stands text tokens (Entries ∷ []) end
  model_open names at model end (no_model other) s = chosen text tokens 2 [] [] ((MODEL ∷ Expression 0 ∷ SEMICOLON ∷ []) ∷ []) (Entries ∷ []) at refl tt (never text tokens 1 (Expression 0 ∷ SEMICOLON ∷ Entries ∷ []) at (λ e. cc (e, other)), tt) s
  model_open names at model end (some_model expr last begins' is semicolon) s =
      let line = chosen text tokens 2 ([] ∷ []) (MODEL ∷ Expression 0 ∷ SEMICOLON ∷ []) [] (Entries ∷ []) at refl ((λ to order m. entries_free at to begins' order m), tt) tt s in
      pass text tokens 8 (Entries ∷ []) last semicolon (expression_ends text tokens names 0 (at + 1) last expr (SEMICOLON ∷ Entries ∷ []) is (mark_free text tokens 0 8 (Entries ∷ []) semicolon_class) (pass text tokens 1 (Expression 0 ∷ SEMICOLON ∷ Entries ∷ []) at begins' line))

  model_line : (at : ℕ) → stands text tokens at sign.Model ≡ true → Stands text tokens (ModelLine ∷ Entries ∷ []) at → Stands text tokens (Expression 0 ∷ SEMICOLON ∷ Entries ∷ []) (at + 1)
  model_line at model s =
      pass text tokens 1 (Expression 0 ∷ SEMICOLON ∷ Entries ∷ []) at model (chosen text tokens 2 ([] ∷ []) (MODEL ∷ Expression 0 ∷ SEMICOLON ∷ []) [] (Entries ∷ []) at refl ((λ to order m. entries_free at to model order m), tt) tt s)

  expr_fault_of : (names : List (List ℕ)) (nesting at : ℕ) (why : CatalogFault) (symbols : Form) → ExpressionFault names text tokens nesting at why → IsFree grammar (token_fits text tokens) (signs_of (Disjunction nesting)) symbols → Stands text tokens (Expression nesting ∷ symbols) at → IsViableFault text tokens why
  expr_fault_of names nesting at why symbols f free s = rw f.is (expression_refused text tokens names nesting at f.inner symbols f.refused free s)

  model_fault : (names : List (List ℕ)) (at : ℕ) (why : CatalogFault) → ModelFault names text tokens at why → Stands text tokens (ModelLine ∷ Entries ∷ []) at → IsViableFault text tokens why
  model_fault names at why (in_model inner model f) s = expr_fault_of names 0 (at + 1) inner (SEMICOLON ∷ Entries ∷ []) f (mark_free text tokens 0 8 (Entries ∷ []) semicolon_class) (model_line at model s)
  model_fault names at why (model_unended expr end model is other) s =
      stops text tokens 8 (Entries ∷ []) end other (expression_ends text tokens names 0 (at + 1) end expr (SEMICOLON ∷ Entries ∷ []) is (mark_free text tokens 0 8 (Entries ∷ []) semicolon_class) (model_line at model s))

  -- what never begins with a word
  abbrev Unworded : Form → Type 0
  Unworded symbols = (at to : ℕ) → at < to → class_at text tokens at ≡ 1 → Goes text tokens symbols at to → ⊥

  mark_unworded : (k : ℕ) (symbols : Form) → ((at : ℕ) → fitting text tokens k at ≡ true → class_at text tokens at ≡ 2) → Unworded (Terminal (Foreign k) ∷ symbols)
  mark_unworded k symbols marks at to order word m = never text tokens k symbols at (λ e. let two = marks at e in absurd (omega (arith, two, word))) to order m

  columns_unworded : (symbols : Form) → Unworded (MoreColumns ∷ symbols)
  columns_unworded symbols at to order word m =
      none_of text tokens symbols at to ((CLOSE ∷ []) ∷ (COMMA ∷ Columns ∷ []) ∷ []) order ((λ t o n. mark_unworded 6 symbols close_class at t o word n), ((λ t o n. mark_unworded 7 (Columns ∷ symbols) comma_class at t o word n), tt)) (close_part grammar (token_fits text tokens) (Outer 5 0) symbols at to order m)

  when_line : (p n at : ℕ) (symbols : Form) → outer p 0 ≡ [] ∷ (WHEN ∷ Expression n ∷ []) ∷ [] → Unworded symbols → stands text tokens at sign.When ≡ true → Stands text tokens (Nonterminal (Outer p 0) ∷ symbols) at → Stands text tokens (Expression n ∷ symbols) (at + 1)
  when_line p n at symbols is free when s =
      pass text tokens 4 (Expression n ∷ symbols) at when (chosen text tokens p ([] ∷ []) (WHEN ∷ Expression n ∷ []) [] symbols at is ((λ to order m. free at to order (sign_class text tokens sign.When at when) m), tt) tt s)

  when_open : (p n at end : ℕ) (names : List (List ℕ)) (cond : Expr) (symbols : Form) → outer p 0 ≡ [] ∷ (WHEN ∷ Expression n ∷ []) ∷ [] → Unworded symbols → IsWhen names text tokens n at cond end → Stands text tokens (Nonterminal (Outer p 0) ∷ symbols) at → Stands text tokens symbols end
  when_open p n at end names cond symbols is free (no_when other) s = chosen text tokens p [] [] ((WHEN ∷ Expression n ∷ []) ∷ []) symbols at is tt (never text tokens 4 (Expression n ∷ symbols) at (λ e. cc (e, other)), tt) s
  when_open p n at end names cond symbols is free (some_when expr last when spelled) s =
      expression_ends text tokens names n (at + 1) last expr symbols spelled (free_of text tokens n symbols free) (when_line p n at symbols is free when s)

  when_fault : (p n at : ℕ) (names : List (List ℕ)) (why : CatalogFault) (symbols : Form) → outer p 0 ≡ [] ∷ (WHEN ∷ Expression n ∷ []) ∷ [] → Unworded symbols → WhenFault names text tokens n at why → Stands text tokens (Nonterminal (Outer p 0) ∷ symbols) at → IsViableFault text tokens why
  when_fault p n at names why symbols is free f s = expr_fault_of names n (at + 1) why symbols f.inside (free_of text tokens n symbols free) (when_line p n at symbols is free f.begins s)

  tail_open : (names : List (List ℕ)) (at : ℕ) (cond : Expr) (end : ℕ) (symbols : Form) → IsTail names text tokens at cond end → Stands text tokens (When ∷ SEMICOLON ∷ symbols) at → Stands text tokens symbols end
  tail_open names at cond end symbols is s = moved text tokens symbols (is.last + 1) end (omega (arith, is.ends)) (pass text tokens 8 symbols is.last is.stops (when_open 9 0 at is.last names cond (SEMICOLON ∷ symbols) refl (mark_unworded 8 symbols semicolon_class) is.condition s))

  tail_fault : (names : List (List ℕ)) (at : ℕ) (why : CatalogFault) (symbols : Form) → TailFault names text tokens at why → Stands text tokens (When ∷ SEMICOLON ∷ symbols) at → IsViableFault text tokens why
  tail_fault names at why symbols (in_tail_condition inner f) s = when_fault 9 0 at names inner (SEMICOLON ∷ symbols) refl (mark_unworded 8 symbols semicolon_class) f s
  tail_fault names at why symbols (tail_unended cond end is other) s = stops text tokens 8 symbols end other (when_open 9 0 at end names cond (SEMICOLON ∷ symbols) refl (mark_unworded 8 symbols semicolon_class) is s)

  -- columns
  kind_line : (at : ℕ) (name : List ℕ) (symbols : Form) → folded_at text tokens at ≡ Some name → Stands text tokens (Columns ∷ symbols) at → Stands text tokens (KIND ∷ InnerWhen ∷ MoreColumns ∷ symbols) (at + 1)
  kind_line at name symbols named s = pass text tokens 9 (KIND ∷ InnerWhen ∷ MoreColumns ∷ symbols) at (folded_fits at name named) (chosen text tokens 4 [] (NAME ∷ KIND ∷ InnerWhen ∷ MoreColumns ∷ []) [] symbols at refl tt tt s)

  inner_line : (at : ℕ) (name : List ℕ) (kind : Kind) (symbols : Form) → folded_at text tokens at ≡ Some name → kind_at text tokens (at + 1) ≡ Some kind → Stands text tokens (Columns ∷ symbols) at → Stands text tokens (InnerWhen ∷ MoreColumns ∷ symbols) (at + 2)
  inner_line at name kind symbols named kinded s = moved text tokens (InnerWhen ∷ MoreColumns ∷ symbols) (at + 1 + 1) (at + 2) (omega arith) (pass text tokens 10 (InnerWhen ∷ MoreColumns ∷ symbols) (at + 1) (is_some_of (kind_at text tokens (at + 1)) kind kinded) (kind_line at name symbols named s))

  column_open : (names : List (List ℕ)) (columns : List Column) (at : ℕ) (column : Column) (end : ℕ) (symbols : Form) → IsColumn names text tokens columns at column end → Stands text tokens (Columns ∷ symbols) at → Stands text tokens (MoreColumns ∷ symbols) end
  column_open names columns at column end symbols is s = when_open 8 1 (at + 2) end names column.cond (MoreColumns ∷ symbols) refl (columns_unworded symbols) is.condition (inner_line at column.name column.kind symbols is.is_new.named is.kind s)

  columns_open : (names : List (List ℕ)) (from : ℕ) (columns : List Column) (at : ℕ) (symbols : Form) → ColumnsBefore names text tokens from columns at → Stands text tokens (Columns ∷ symbols) from → Stands text tokens (Columns ∷ symbols) at
  columns_open names from all to symbols no_column_yet s = s
  columns_open names from all to symbols (another_column columns column at end before is comma) s =
      pass text tokens 7 (Columns ∷ symbols) end comma (chosen text tokens 5 ((CLOSE ∷ []) ∷ []) (COMMA ∷ Columns ∷ []) [] symbols end refl (never text tokens 6 symbols end (λ e. comma_close text tokens end comma e), tt) tt (column_open names columns at column end symbols is (columns_open names from columns at symbols before s)))

  are_columns_open : (names : List (List ℕ)) (from : ℕ) (columns : List Column) (end : ℕ) (symbols : Form) → AreColumns names text tokens from columns end → Stands text tokens (Columns ∷ symbols) from → Stands text tokens symbols end
  are_columns_open names from columns end symbols are s =
      let more = column_open names are.others are.at are.last are.close symbols are.is_column (columns_open names from are.others are.at symbols are.before s) in
      moved text tokens symbols (are.close + 1) end (omega (arith, are.ends)) (pass text tokens 6 symbols are.close are.closes (chosen text tokens 5 [] (CLOSE ∷ []) ((COMMA ∷ Columns ∷ []) ∷ []) symbols are.close refl tt (never text tokens 7 (Columns ∷ symbols) are.close (λ e. comma_close text tokens are.close e are.closes), tt) more))

  column_name_fault : (columns : List Column) (at : ℕ) (why : CatalogFault) (symbols : Form) → ColumnNameFault text tokens columns at why → Stands text tokens (Columns ∷ symbols) at → IsViableFault text tokens why
  column_name_fault columns at why symbols column_name_memory s = tt
  column_name_fault columns at why symbols (no_column_name none) s = stops text tokens 9 (KIND ∷ InnerWhen ∷ MoreColumns ∷ symbols) at (folded_none at none) (chosen text tokens 4 [] (NAME ∷ KIND ∷ InnerWhen ∷ MoreColumns ∷ []) [] symbols at refl tt tt s)
  column_name_fault columns at why symbols (column_again name place named again) s = reached text tokens (KIND ∷ InnerWhen ∷ MoreColumns ∷ symbols) (at + 1) (kind_line at name symbols named s)
  column_name_fault columns at why symbols (one_column_more name named fresh full) s = reached text tokens (KIND ∷ InnerWhen ∷ MoreColumns ∷ symbols) (at + 1) (kind_line at name symbols named s)

  column_fault : (names : List (List ℕ)) (columns : List Column) (at : ℕ) (why : CatalogFault) (symbols : Form) → ColumnFault names text tokens columns at why → Stands text tokens (Columns ∷ symbols) at → IsViableFault text tokens why
  column_fault names columns at why symbols column_memory s = tt
  column_fault names columns at why symbols (at_column_name inner f) s = column_name_fault columns at inner symbols f s
  column_fault names columns at why symbols (no_kind name new none) s = stops text tokens 10 (InnerWhen ∷ MoreColumns ∷ symbols) (at + 1) (not_some_of (kind_at text tokens (at + 1)) none) (kind_line at name symbols new.named s)
  column_fault names columns at why symbols (in_column_condition name kind inner new kinded f) s = when_fault 8 1 (at + 2) names inner (MoreColumns ∷ symbols) refl (columns_unworded symbols) f (inner_line at name kind symbols new.named kinded s)

  columns_fault : (names : List (List ℕ)) (from : ℕ) (why : CatalogFault) (symbols : Form) → ColumnsFault names text tokens from why → Stands text tokens (Columns ∷ symbols) from → IsViableFault text tokens why
  columns_fault names from why symbols columns_memory s = tt
  columns_fault names from why symbols (at_column columns at inner before f) s = column_fault names columns at inner symbols f (columns_open names from columns at symbols before s)
  columns_fault names from why symbols (columns_unclosed columns column at end before is comma close) s =
      no_form text tokens 5 ((CLOSE ∷ []) ∷ (COMMA ∷ Columns ∷ []) ∷ []) symbols end refl (never text tokens 6 symbols end (λ e. cc (e, close)), (never text tokens 7 (Columns ∷ symbols) end (λ e. cc (e, comma)), tt)) (column_open names columns at column end symbols is (columns_open names from columns at symbols before s))

  -- cells
  value_line : (at : ℕ) (name : List ℕ) (symbols : Form) → folded_at text tokens at ≡ Some name → Stands text tokens (Cells ∷ symbols) at → Stands text tokens (VALUE ∷ MoreCells ∷ symbols) (at + 1)
  value_line at name symbols named s = pass text tokens 9 (VALUE ∷ MoreCells ∷ symbols) at (folded_fits at name named) (chosen text tokens 6 [] (NAME ∷ VALUE ∷ MoreCells ∷ []) [] symbols at refl tt tt s)

  cell_line : (at : ℕ) (name : List ℕ) (value : Value) (symbols : Form) → folded_at text tokens at ≡ Some name → value_at text tokens (at + 1) ≡ Some value → Stands text tokens (Cells ∷ symbols) at → Stands text tokens (MoreCells ∷ symbols) (at + 2)
  cell_line at name value symbols named literal s = moved text tokens (MoreCells ∷ symbols) (at + 1 + 1) (at + 2) (omega arith) (pass text tokens 11 (MoreCells ∷ symbols) (at + 1) (is_some_of (value_at text tokens (at + 1)) value literal) (value_line at name symbols named s))

  cell_open : (columns : List Column) (cells : List (Option Value)) (at place : ℕ) (value : Value) (symbols : Form) → IsCell text tokens columns cells at place value → Stands text tokens (Cells ∷ symbols) at → Stands text tokens (MoreCells ∷ symbols) (at + 2)
  cell_open columns cells at place value symbols is s = cell_line at is.is_new.name value symbols is.is_new.named is.literal s

  cells_open : (columns : List Column) (from : ℕ) (cells : List (Option Value)) (at : ℕ) (symbols : Form) → CellsBefore text tokens columns from cells at → Stands text tokens (Cells ∷ symbols) from → Stands text tokens (Cells ∷ symbols) at
  cells_open columns from all to symbols no_cell_yet s = s
  cells_open columns from all to symbols (another_cell cells at place value before is comma) s =
      moved text tokens (Cells ∷ symbols) (at + 2 + 1) (at + 3) (omega arith) (pass text tokens 7 (Cells ∷ symbols) (at + 2) comma (chosen text tokens 7 ((CLOSE ∷ []) ∷ []) (COMMA ∷ Cells ∷ []) [] symbols (at + 2) refl (never text tokens 6 symbols (at + 2) (λ e. comma_close text tokens (at + 2) comma e), tt) tt (cell_open columns cells at place value symbols is (cells_open columns from cells at symbols before s))))

  are_cells_open : (columns : List Column) (from : ℕ) (cells : List (Option Value)) (end : ℕ) (symbols : Form) → AreCells text tokens columns from cells end → Stands text tokens (Cells ∷ symbols) from → Stands text tokens symbols end
  are_cells_open columns from cells end symbols are s =
      let more = cell_open columns are.others are.at are.place are.value symbols are.is_cell (cells_open columns from are.others are.at symbols are.before s) in
      moved text tokens symbols (are.at + 2 + 1) end (omega (arith, are.ends)) (pass text tokens 6 symbols (are.at + 2) are.closes (chosen text tokens 7 [] (CLOSE ∷ []) ((COMMA ∷ Cells ∷ []) ∷ []) symbols (are.at + 2) refl tt (never text tokens 7 (Cells ∷ symbols) (are.at + 2) (λ e. comma_close text tokens (are.at + 2) e are.closes), tt) more))

  cell_name_fault : (columns : List Column) (cells : List (Option Value)) (at : ℕ) (why : CatalogFault) (symbols : Form) → CellNameFault text tokens columns cells at why → Stands text tokens (Cells ∷ symbols) at → IsViableFault text tokens why
  cell_name_fault columns cells at why symbols cell_name_memory s = tt
  cell_name_fault columns cells at why symbols (no_cell_name none) s = stops text tokens 9 (VALUE ∷ MoreCells ∷ symbols) at (folded_none at none) (chosen text tokens 6 [] (NAME ∷ VALUE ∷ MoreCells ∷ []) [] symbols at refl tt tt s)
  cell_name_fault columns cells at why symbols (no_such_column name named none) s = reached text tokens (VALUE ∷ MoreCells ∷ symbols) (at + 1) (value_line at name symbols named s)
  cell_name_fault columns cells at why symbols (cell_again name place named found filled) s = reached text tokens (VALUE ∷ MoreCells ∷ symbols) (at + 1) (value_line at name symbols named s)

  cell_fault : (columns : List Column) (cells : List (Option Value)) (at : ℕ) (why : CatalogFault) (symbols : Form) → CellFault text tokens columns cells at why → Stands text tokens (Cells ∷ symbols) at → IsViableFault text tokens why
  cell_fault columns cells at why symbols cell_memory s = tt
  cell_fault columns cells at why symbols (at_cell_name inner f) s = cell_name_fault columns cells at inner symbols f s
  cell_fault columns cells at why symbols (no_value place column new none) s = stops text tokens 11 (MoreCells ∷ symbols) (at + 1) (not_some_of (value_at text tokens (at + 1)) none) (value_line at new.name symbols new.named s)
  cell_fault columns cells at why symbols (another_kind place column value new literal other) s = reached text tokens (MoreCells ∷ symbols) (at + 1 + 1) (moved text tokens (MoreCells ∷ symbols) (at + 2) (at + 1 + 1) (omega arith) (cell_line at new.name value symbols new.named literal s))

  cells_fault : (columns : List Column) (from : ℕ) (why : CatalogFault) (symbols : Form) → CellsFault text tokens columns from why → Stands text tokens (Cells ∷ symbols) from → IsViableFault text tokens why
  cells_fault columns from why symbols cells_memory s = tt
  cells_fault columns from why symbols (at_cell cells at inner before f) s = cell_fault columns cells at inner symbols f (cells_open columns from cells at symbols before s)
  cells_fault columns from why symbols (cells_unclosed cells at place value before is comma close) s =
      no_form text tokens 7 ((CLOSE ∷ []) ∷ (COMMA ∷ Cells ∷ []) ∷ []) symbols (at + 2) refl (never text tokens 6 symbols (at + 2) (λ e. cc (e, close)), (never text tokens 7 (Cells ∷ symbols) (at + 2) (λ e. cc (e, comma)), tt)) (cell_open columns cells at place value symbols is (cells_open columns from cells at symbols before s))

  -- tables and rows
  abbrev TableForm : Form
  TableForm = TABLE ∷ NAME ∷ OPEN ∷ Columns ∷ When ∷ SEMICOLON ∷ Entries ∷ []

  abbrev RowForm : Form
  RowForm = ROW ∷ NAME ∷ OPEN ∷ Cells ∷ When ∷ SEMICOLON ∷ Entries ∷ []

  table_line : (at : ℕ) → stands text tokens at sign.Table ≡ true → Stands text tokens (Entries ∷ []) at → Stands text tokens (NAME ∷ OPEN ∷ Columns ∷ When ∷ SEMICOLON ∷ Entries ∷ []) (at + 1)
  table_line at table s =
      pass text tokens 2 (NAME ∷ OPEN ∷ Columns ∷ When ∷ SEMICOLON ∷ Entries ∷ []) at table (chosen text tokens 3 ((END ∷ []) ∷ []) TableForm (RowForm ∷ []) [] at refl (never text tokens 12 [] at (λ e. end_isnt at sign.Table refl e table), tt) (never text tokens 3 (NAME ∷ OPEN ∷ Cells ∷ When ∷ SEMICOLON ∷ Entries ∷ []) at (λ e. table_row text tokens at table e), tt) s)

  row_line : (at : ℕ) → stands text tokens at sign.Row ≡ true → Stands text tokens (Entries ∷ []) at → Stands text tokens (NAME ∷ OPEN ∷ Cells ∷ When ∷ SEMICOLON ∷ Entries ∷ []) (at + 1)
  row_line at row s =
      pass text tokens 3 (NAME ∷ OPEN ∷ Cells ∷ When ∷ SEMICOLON ∷ Entries ∷ []) at row (chosen text tokens 3 ((END ∷ []) ∷ TableForm ∷ []) RowForm [] [] at refl (never text tokens 12 [] at (λ e. end_isnt at sign.Row refl e row), (never text tokens 2 (NAME ∷ OPEN ∷ Columns ∷ When ∷ SEMICOLON ∷ Entries ∷ []) at (λ e. table_row text tokens at e row), tt)) tt s)

  named_line : (at : ℕ) (name : List ℕ) (symbols : Form) → folded_at text tokens (at + 1) ≡ Some name → Stands text tokens (NAME ∷ symbols) (at + 1) → Stands text tokens symbols (at + 2)
  named_line at name symbols named s = moved text tokens symbols (at + 1 + 1) (at + 2) (omega arith) (pass text tokens 9 symbols (at + 1) (folded_fits (at + 1) name named) s)

  opened_line : (at : ℕ) (name : List ℕ) (symbols : Form) → folded_at text tokens (at + 1) ≡ Some name → stands text tokens (at + 2) sign.Open ≡ true → Stands text tokens (NAME ∷ OPEN ∷ symbols) (at + 1) → Stands text tokens symbols (at + 3)
  opened_line at name symbols named opens s = moved text tokens symbols (at + 2 + 1) (at + 3) (omega arith) (pass text tokens 5 symbols (at + 2) opens (named_line at name (OPEN ∷ symbols) named s))

  named_viable : (at : ℕ) (name : List ℕ) (symbols : Form) → folded_at text tokens (at + 1) ≡ Some name → Stands text tokens (NAME ∷ symbols) (at + 1) → IsViable text tokens (at + 1 + 1)
  named_viable at name symbols named s = reached text tokens symbols (at + 1 + 1) (pass text tokens 9 symbols (at + 1) (folded_fits (at + 1) name named) s)

  table_open : (names : List (List ℕ)) (tables : List Table) (at : ℕ) (table : Table) (end : ℕ) → IsTable names text tokens tables at table end → Stands text tokens (Entries ∷ []) at → Stands text tokens (Entries ∷ []) end
  table_open names tables at table end is s =
      tail_open names is.behind table.cond end (Entries ∷ []) is.tail (are_columns_open names (at + 3) table.columns is.behind (When ∷ SEMICOLON ∷ Entries ∷ []) is.columns (opened_line at table.name (Columns ∷ When ∷ SEMICOLON ∷ Entries ∷ []) is.is_new.named is.opens (table_line at is.begins s)))

  row_open : (names : List (List ℕ)) (tables : List Table) (at : ℕ) (row : OpeningRow) (end : ℕ) → IsRow names text tokens tables at row end → Stands text tokens (Entries ∷ []) at → Stands text tokens (Entries ∷ []) end
  row_open names tables at row end is s =
      tail_open names is.behind row.cond end (Entries ∷ []) is.tail (are_cells_open is.table.columns (at + 3) row.cells is.behind (When ∷ SEMICOLON ∷ Entries ∷ []) is.cells (opened_line at is.is_name.name (Cells ∷ When ∷ SEMICOLON ∷ Entries ∷ []) is.is_name.named is.opens (row_line at is.begins s)))

  entry_open : (names : List (List ℕ)) (tables : List Table) (at : ℕ) (it : Entry) (end : ℕ) → IsEntry names text tokens tables at it end → Stands text tokens (Entries ∷ []) at → Stands text tokens (Entries ∷ []) end
  entry_open names tables at (entry.Table table) end is s = table_open names tables at table end is s
  entry_open names tables at (entry.Row row) end is s = row_open names tables at row end is s

  entries_open : (names : List (List ℕ)) (from : ℕ) (tables : List Table) (rows : List OpeningRow) (at : ℕ) → EntriesTo names text tokens from tables rows at → Stands text tokens (Entries ∷ []) from → Stands text tokens (Entries ∷ []) at
  entries_open names from all all_rows to no_entry_yet s = s
  entries_open names from all all_rows to (another_entry tables rows it at end before is) s = entry_open names tables at it end is (entries_open names from tables rows at before s)

  table_name_fault : (tables : List Table) (at : ℕ) (why : CatalogFault) (symbols : Form) → TableNameFault text tokens tables (at + 1) why → Stands text tokens (NAME ∷ symbols) (at + 1) → IsViableFault text tokens why
  table_name_fault tables at why symbols table_name_memory s = tt
  table_name_fault tables at why symbols (no_table_name none) s = stops text tokens 9 symbols (at + 1) (folded_none (at + 1) none) s
  table_name_fault tables at why symbols (table_again name place named again) s = named_viable at name symbols named s
  table_name_fault tables at why symbols (one_table_more name named fresh full) s = named_viable at name symbols named s

  table_fault : (names : List (List ℕ)) (tables : List Table) (at : ℕ) (why : CatalogFault) → stands text tokens at sign.Table ≡ true → TableFault names text tokens tables at why → Stands text tokens (Entries ∷ []) at → IsViableFault text tokens why
  table_fault names tables at why table (at_table_name inner f) s = table_name_fault tables at inner (OPEN ∷ Columns ∷ When ∷ SEMICOLON ∷ Entries ∷ []) f (table_line at table s)
  table_fault names tables at why table (table_unopened name new other) s = stops text tokens 5 (Columns ∷ When ∷ SEMICOLON ∷ Entries ∷ []) (at + 2) other (named_line at name (OPEN ∷ Columns ∷ When ∷ SEMICOLON ∷ Entries ∷ []) new.named (table_line at table s))
  table_fault names tables at why table (in_columns name inner new opens f) s = columns_fault names (at + 3) inner (When ∷ SEMICOLON ∷ Entries ∷ []) f (opened_line at name (Columns ∷ When ∷ SEMICOLON ∷ Entries ∷ []) new.named opens (table_line at table s))
  table_fault names tables at why table (in_table_tail name columns behind inner new opens are f) s = tail_fault names behind inner (Entries ∷ []) f (are_columns_open names (at + 3) columns behind (When ∷ SEMICOLON ∷ Entries ∷ []) are (opened_line at name (Columns ∷ When ∷ SEMICOLON ∷ Entries ∷ []) new.named opens (table_line at table s)))

  row_name_fault : (tables : List Table) (at : ℕ) (why : CatalogFault) (symbols : Form) → RowNameFault text tokens tables (at + 1) why → Stands text tokens (NAME ∷ symbols) (at + 1) → IsViableFault text tokens why
  row_name_fault tables at why symbols row_name_memory s = tt
  row_name_fault tables at why symbols (no_row_name none) s = stops text tokens 9 symbols (at + 1) (folded_none (at + 1) none) s
  row_name_fault tables at why symbols (no_such_table name named none) s = named_viable at name symbols named s

  row_fault : (names : List (List ℕ)) (tables : List Table) (at : ℕ) (why : CatalogFault) → stands text tokens at sign.Row ≡ true → RowFault names text tokens tables at why → Stands text tokens (Entries ∷ []) at → IsViableFault text tokens why
  row_fault names tables at why row (at_row_name inner f) s = row_name_fault tables at inner (OPEN ∷ Cells ∷ When ∷ SEMICOLON ∷ Entries ∷ []) f (row_line at row s)
  row_fault names tables at why row (row_unopened number table is other) s = stops text tokens 5 (Cells ∷ When ∷ SEMICOLON ∷ Entries ∷ []) (at + 2) other (named_line at is.name (OPEN ∷ Cells ∷ When ∷ SEMICOLON ∷ Entries ∷ []) is.named (row_line at row s))
  row_fault names tables at why row (in_cells number table inner is opens f) s = cells_fault table.columns (at + 3) inner (When ∷ SEMICOLON ∷ Entries ∷ []) f (opened_line at is.name (Cells ∷ When ∷ SEMICOLON ∷ Entries ∷ []) is.named opens (row_line at row s))
  row_fault names tables at why row (in_row_tail number table cells behind inner is opens are f) s = tail_fault names behind inner (Entries ∷ []) f (are_cells_open table.columns (at + 3) cells behind (When ∷ SEMICOLON ∷ Entries ∷ []) are (opened_line at is.name (Cells ∷ When ∷ SEMICOLON ∷ Entries ∷ []) is.named opens (row_line at row s)))

  entry_fault : (names : List (List ℕ)) (tables : List Table) (at : ℕ) (why : CatalogFault) → EntryFault names text tokens tables at why → Stands text tokens (Entries ∷ []) at → IsViableFault text tokens why
  entry_fault names tables at why entry_memory s = tt
  entry_fault names tables at why (in_table inner table f) s = table_fault names tables at inner table f s
  entry_fault names tables at why (in_row inner row f) s = row_fault names tables at inner row f s
  entry_fault names tables at why (no_entry table row within) s =
      no_form text tokens 3 ((END ∷ []) ∷ TableForm ∷ RowForm ∷ []) [] at refl (never text tokens 12 [] at (end_at at within), (never text tokens 2 (NAME ∷ OPEN ∷ Columns ∷ When ∷ SEMICOLON ∷ Entries ∷ []) at (λ e. cc (e, table)), (never text tokens 3 (NAME ∷ OPEN ∷ Cells ∷ When ∷ SEMICOLON ∷ Entries ∷ []) at (λ e. cc (e, row)), tt))) s

  -- each fault of a file
  pub is_viable_fault : (why : CatalogFault) → FileFault text tokens why → IsViableFault text tokens why
  is_viable_fault why catalogue_memory = tt
  is_viable_fault why (in_head inner f) = head_fault inner f
  is_viable_fault why (at_model names body inner head f) = model_fault names body inner f (head_open names body head)
  is_viable_fault why (in_entries names body model entries inner head is f) = entry_fault names f.tables f.at inner f.here (entries_open names entries f.tables f.rows f.at f.before (model_open names body model entries is (head_open names body head)))

  at_end : (n : ℕ) → (n == n) ≡ true
  at_end n = grind (arith, nat_tests)

  -- a whole file, and the end behind it
  pub is_whole : (catalog : Catalog) (rows : List OpeningRow) → SpellCatalogue text tokens catalog rows → IsViable text tokens (length tokens + 1)
  is_whole catalog rows is =
      let end = length tokens in
      let fit : fitting text tokens 12 end ≡ true = at_end end in
      let s = entries_open catalog.features is.entries catalog.tables rows end is.all_entries (model_open catalog.features is.body catalog.model is.entries is.model (head_open catalog.features is.body is.head)) in
      reached text tokens [] (end + 1) (pass text tokens 12 [] end fit (chosen text tokens 3 [] (END ∷ []) (TableForm ∷ RowForm ∷ []) [] end refl tt (never text tokens 2 (NAME ∷ OPEN ∷ Columns ∷ When ∷ SEMICOLON ∷ Entries ∷ []) end (λ e. end_isnt end sign.Table refl fit e), (never text tokens 3 (NAME ∷ OPEN ∷ Cells ∷ When ∷ SEMICOLON ∷ Entries ∷ []) end (λ e. end_isnt end sign.Row refl fit e), tt)) s))
