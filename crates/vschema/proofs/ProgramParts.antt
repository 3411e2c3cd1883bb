-- What the head of a file, its feature model, conditions, columns and cells spell is what their programs come to, and
-- so is each fault.
use Rattle.std.proofs.Common.{◌≡◌, ◌≢◌, ℕ, ◌+◌, ◌<◌, ◌≤◌, Bool, true, false, nat_lt, List, [], length, set, Option, Some, Err, sym, refl, arith}
use Rattle.std.proofs.lemmas.Bool.Decides.{nat_tests}
use Rattle.values.specs.Value.{kind_of}
use Rattle.feature_expr.specs.Config.{feature_limit}
use Rattle.feature_expr.specs.declared.expr.Expr.{Expr}
use Rattle.word_tokens.specs.declared.token.Token.{Token}
use Rattle.values.specs.declared.value.Kind.{Kind}
use Rattle.values.specs.declared.value.Kind.TheVariants as kind
use Rattle.values.specs.declared.value.Value.{Value}
use Rattle.vschema.specs.Limits.{column_limit}
use Rattle.vschema.specs.Faults.{FeatureFault, feature_memory, no_feature_name, feature_again, one_feature_more, HeadFault, head_memory, no_features_word, at_feature, features_unended, ModelFault, in_model, model_unended, WhenFault, TailFault, in_tail_condition, tail_unended, ColumnNameFault, column_name_memory, no_column_name, column_again, one_column_more, ColumnFault, column_memory, at_column_name, no_kind, in_column_condition, ColumnsFault, columns_memory, at_column, columns_unclosed, CellNameFault, cell_name_memory, no_cell_name, no_such_column, cell_again, CellFault, cell_memory, at_cell_name, no_value, another_kind, CellsFault, cells_memory, at_cell, cells_unclosed}
use Rattle.vschema.specs.Spelling.{NewFeature, FeaturesBefore, no_feature_yet, another_feature, IsHead, no_features, some_features, IsModel, no_model, some_model, IsWhen, no_when, some_when, IsTail, IsColumn, ColumnsBefore, no_column_yet, another_column, AreColumns, no_cells, IsCell, CellsBefore, no_cell_yet, another_cell, AreCells}
use Rattle.vschema.specs.Words.{stands, spelled_name_at}
use Rattle.vschema.specs.declared.catalog.Column.{Column}
use Rattle.vschema.specs.declared.fault.CatalogFault.{CatalogFault}
use Rattle.vschema.specs.declared.fault.CatalogFault.TheVariants as fault
use Rattle.vschema.specs.declared.words.Sign.TheVariants as sign
use Rattle.vschema.proofs.Programs.{AHead, MoreFeatures, AModel, AWhen, ATail, AColumn, MoreColumns, ACell, MoreCells, Answer, Program, Ask, same_kind, up_to_semicolon, Runs, ends, asks, expresses, refuses}
use Rattle.vschema.proofs.ViableLaws.{named_class, sign_class, comma_semicolon, comma_close}

pub below : (n limit : ℕ) → n < limit → nat_lt n limit ≡ true
below n limit h = grind (arith, nat_tests)

pub above : (n limit : ℕ) → limit ≤ n → nat_lt n limit ≡ false
above n limit h = grind (arith, nat_tests)

pub not_true : (b : Bool) → (b ≡ true → ⊥) → b ≡ false
not_true true never = absurd (never refl)
not_true false never = refl

one_kind : (a b : Kind) → a ≡ b → same_kind a b ≡ true
one_kind kind.Int b is = rw (sym is) refl
one_kind kind.Text b is = rw (sym is) refl
one_kind kind.Bool b is = rw (sym is) refl

other_kind : (a b : Kind) → a ≢ b → same_kind a b ≡ false
other_kind kind.Int kind.Int other = absurd (other refl)
other_kind kind.Int kind.Text other = refl
other_kind kind.Int kind.Bool other = refl
other_kind kind.Text kind.Int other = refl
other_kind kind.Text kind.Text other = absurd (other refl)
other_kind kind.Text kind.Bool other = refl
other_kind kind.Bool kind.Int other = refl
other_kind kind.Bool kind.Text other = refl
other_kind kind.Bool kind.Bool other = absurd (other refl)

module _ (text : List ℕ) (tokens : List Token) where
  abbrev pub R : Program → Answer → Type 0
  R p a = Runs text tokens p a

  -- signs that close or end a list are no comma
  no_comma : (at : ℕ) → stands text tokens at sign.Close ≡ true → stands text tokens at sign.Comma ≡ false
  no_comma at close = not_true (stands text tokens at sign.Comma) (λ h. comma_close text tokens at h close)

  none_more : (at : ℕ) → stands text tokens at sign.Semicolon ≡ true → stands text tokens at sign.Comma ≡ false
  none_more at ended = not_true (stands text tokens at sign.Comma) (λ h. comma_semicolon text tokens at h ended)

  -- a name is no semicolon
  name_or_end : (at : ℕ) (name : List ℕ) → spelled_name_at text tokens at ≡ Some name → stands text tokens at sign.Semicolon ≡ true → ⊥
  name_or_end at name named is =
      let one = named_class text tokens at (Some name) named refl in
      let two = sign_class text tokens sign.Semicolon at is in
      absurd (omega (arith, one, two))

  -- nor is the first name of a list of features
  first_feature : (names : List (List ℕ)) (name : List ℕ) (at : ℕ) → FeaturesBefore text tokens names at → NewFeature text tokens names at name → stands text tokens 1 sign.Semicolon ≡ false
  first_feature all name to no_feature_yet new = not_true (stands text tokens 1 sign.Semicolon) (λ h. name_or_end 1 name new.named h)
  first_feature all name to (another_feature before other at ds d comma) new = first_feature before other at ds d

  -- what goes on behind some features goes on from the first
  reads_features : (names : List (List ℕ)) (at : ℕ) → FeaturesBefore text tokens names at → (k : List (List ℕ) → ℕ → Program) (a : Answer) → R (Ask (MoreFeatures names at) k) a → R (Ask (MoreFeatures [] 1) k) a
  reads_features all to no_feature_yet k a r = r
  reads_features all to (another_feature before name at ds new comma) k a r =
      reads_features before at ds k a (asks (MoreFeatures before at) k a (rw (new.named, new.fresh, below (length before) feature_limit new.within, comma) r))

  pub reads_head : (names : List (List ℕ)) (end : ℕ) → IsHead text tokens names end → (k : List (List ℕ) → ℕ → Program) (a : Answer) → R (k names end) a → R (Ask AHead k) a
  reads_head all end (no_features word semicolon) k a r = asks AHead k a (rw (word, semicolon) r)
  reads_head all end (some_features names name at word ds new semicolon) k a r =
      asks AHead k a (rw (word, first_feature names name at ds new) (reads_features names at ds k a (asks (MoreFeatures names at) k a (rw (new.named, new.fresh, below (length names) feature_limit new.within, none_more (at + 1) semicolon, semicolon) r))))

  fails_feature : (names : List (List ℕ)) (at : ℕ) (why : CatalogFault) → FeatureFault text tokens names at why → why ≢ fault.Memory → (k : List (List ℕ) → ℕ → Program) → R (Ask (MoreFeatures names at) k) (Err why)
  fails_feature names at why feature_memory other k = absurd (other refl)
  fails_feature names at why (no_feature_name none) other k = asks (MoreFeatures names at) k (Err why) (rw none (ends (Err why)))
  fails_feature names at why (feature_again name named again) other k = asks (MoreFeatures names at) k (Err why) (rw (named, again) (ends (Err why)))
  fails_feature names at why (one_feature_more name named fresh full) other k = asks (MoreFeatures names at) k (Err why) (rw (named, fresh, above (length names) feature_limit full) (ends (Err why)))

  pub fails_head : (why : CatalogFault) → HeadFault text tokens why → why ≢ fault.Memory → (k : List (List ℕ) → ℕ → Program) → R (Ask AHead k) (Err why)
  fails_head why head_memory other k = absurd (other refl)
  fails_head why (no_features_word missing) other k = asks AHead k (Err why) (rw missing (ends (Err why)))
  fails_head why (at_feature names at w word some ds f) other k = asks AHead k (Err why) (rw (word, some) (reads_features names at ds k (Err why) (fails_feature names at why f other k)))
  fails_head why (features_unended names name at word ds new comma semicolon) other k =
      asks AHead k (Err why) (rw (word, first_feature names name at ds new) (reads_features names at ds k (Err why) (asks (MoreFeatures names at) k (Err why) (rw (new.named, new.fresh, below (length names) feature_limit new.within, comma, semicolon) (ends (Err why))))))

  pub reads_model : (names : List (List ℕ)) (at : ℕ) (model : Expr) (end : ℕ) → IsModel names text tokens at model end → (k : Expr → ℕ → Program) (a : Answer) → R (k model end) a → R (Ask (AModel names at) k) a
  reads_model names at model end (no_model missing) k a r = asks (AModel names at) k a (rw missing r)
  reads_model names at model end (some_model x last word d semicolon) k a r = asks (AModel names at) k a (rw word (expresses names 0 (at + 1) (up_to_semicolon text tokens k) model last a d (rw semicolon r)))

  pub fails_model : (names : List (List ℕ)) (at : ℕ) (why : CatalogFault) → ModelFault names text tokens at why → why ≢ fault.Memory → (k : Expr → ℕ → Program) → R (Ask (AModel names at) k) (Err why)
  fails_model names at why (in_model w word f) other k = asks (AModel names at) k (Err why) (rw word (refuses names 0 (at + 1) (up_to_semicolon text tokens k) why f other))
  fails_model names at why (model_unended model end word d missing) other k = asks (AModel names at) k (Err why) (rw word (expresses names 0 (at + 1) (up_to_semicolon text tokens k) model end (Err why) d (rw missing (ends (Err why)))))

  reads_when : (names : List (List ℕ)) (n at : ℕ) (condition : Expr) (end : ℕ) → IsWhen names text tokens n at condition end → (k : Expr → ℕ → Program) (a : Answer) → R (k condition end) a → R (Ask (AWhen names n at) k) a
  reads_when names n at condition end (no_when missing) k a r = asks (AWhen names n at) k a (rw missing r)
  reads_when names n at condition end (some_when x last word d) k a r = asks (AWhen names n at) k a (rw word (expresses names n (at + 1) k condition end a d r))

  fails_when : (names : List (List ℕ)) (n at : ℕ) (why : CatalogFault) → WhenFault names text tokens n at why → why ≢ fault.Memory → (k : Expr → ℕ → Program) → R (Ask (AWhen names n at) k) (Err why)
  fails_when names n at why f other k = asks (AWhen names n at) k (Err why) (rw f.begins (refuses names n (at + 1) k why f.inside other))

  pub reads_tail : (names : List (List ℕ)) (at : ℕ) (condition : Expr) (end : ℕ) → IsTail names text tokens at condition end → (k : Expr → ℕ → Program) (a : Answer) → R (k condition end) a → R (Ask (ATail names at) k) a
  reads_tail names at condition end d k a r = asks (ATail names at) k a (reads_when names 0 at condition d.last d.condition _ a (rw d.stops (rw d.ends at r)))

  pub fails_tail : (names : List (List ℕ)) (at : ℕ) (why : CatalogFault) → TailFault names text tokens at why → why ≢ fault.Memory → (k : Expr → ℕ → Program) → R (Ask (ATail names at) k) (Err why)
  fails_tail names at why (in_tail_condition w f) other k = asks (ATail names at) k (Err why) (fails_when names 0 at why f other _)
  fails_tail names at why (tail_unended condition end d missing) other k = asks (ATail names at) k (Err why) (reads_when names 0 at condition end d _ (Err why) (rw missing (ends (Err why))))

  reads_column : (names : List (List ℕ)) (columns : List Column) (at : ℕ) (column : Column) (end : ℕ) → IsColumn names text tokens columns at column end → (k : Column → ℕ → Program) (a : Answer) → R (k column end) a → R (Ask (AColumn names columns at) k) a
  reads_column names columns at column end d k a r =
      asks (AColumn names columns at) k a (rw (d.is_new.named, d.is_new.fresh, below (length columns) column_limit d.is_new.within, d.kind) (reads_when names 1 (at + 2) column.cond end d.condition _ a r))

  fails_column_name : (names : List (List ℕ)) (columns : List Column) (at : ℕ) (why : CatalogFault) → ColumnNameFault text tokens columns at why → why ≢ fault.Memory → (k : Column → ℕ → Program) → R (Ask (AColumn names columns at) k) (Err why)
  fails_column_name names columns at why column_name_memory other k = absurd (other refl)
  fails_column_name names columns at why (no_column_name none) other k = asks (AColumn names columns at) k (Err why) (rw none (ends (Err why)))
  fails_column_name names columns at why (column_again name place named again) other k = asks (AColumn names columns at) k (Err why) (rw (named, again) (ends (Err why)))
  fails_column_name names columns at why (one_column_more name named fresh full) other k = asks (AColumn names columns at) k (Err why) (rw (named, fresh, above (length columns) column_limit full) (ends (Err why)))

  fails_column : (names : List (List ℕ)) (columns : List Column) (at : ℕ) (why : CatalogFault) → ColumnFault names text tokens columns at why → why ≢ fault.Memory → (k : Column → ℕ → Program) → R (Ask (AColumn names columns at) k) (Err why)
  fails_column names columns at why column_memory other k = absurd (other refl)
  fails_column names columns at why (at_column_name w f) other k = fails_column_name names columns at why f other k
  fails_column names columns at why (no_kind name new none) other k = asks (AColumn names columns at) k (Err why) (rw (new.named, new.fresh, below (length columns) column_limit new.within, none) (ends (Err why)))
  fails_column names columns at why (in_column_condition name its_kind w new kinded f) other k =
      asks (AColumn names columns at) k (Err why) (rw (new.named, new.fresh, below (length columns) column_limit new.within, kinded) (fails_when names 1 (at + 2) why f other _))

  -- what goes on behind some columns goes on from the first
  reads_columns_before : (names : List (List ℕ)) (from : ℕ) (columns : List Column) (at : ℕ) → ColumnsBefore names text tokens from columns at → (k : List Column → ℕ → Program) (a : Answer) → R (Ask (MoreColumns names columns at) k) a → R (Ask (MoreColumns names [] from) k) a
  reads_columns_before names from all to no_column_yet k a r = r
  reads_columns_before names from all to (another_column columns column at end ds d comma) k a r =
      reads_columns_before names from columns at ds k a (asks (MoreColumns names columns at) k a (reads_column names columns at column end d _ a (rw comma r)))

  pub reads_columns : (names : List (List ℕ)) (from : ℕ) (columns : List Column) (end : ℕ) → AreColumns names text tokens from columns end → (k : List Column → ℕ → Program) (a : Answer) → R (k columns end) a → R (Ask (MoreColumns names [] from) k) a
  reads_columns names from columns end d k a r =
      reads_columns_before names from d.others d.at d.before k a (asks (MoreColumns names d.others d.at) k a (reads_column names d.others d.at d.last d.close d.is_column _ a (rw (no_comma d.close d.closes, d.closes) (rw (d.all, d.ends) at r))))

  pub fails_columns : (names : List (List ℕ)) (from : ℕ) (why : CatalogFault) → ColumnsFault names text tokens from why → why ≢ fault.Memory → (k : List Column → ℕ → Program) → R (Ask (MoreColumns names [] from) k) (Err why)
  fails_columns names from why columns_memory other k = absurd (other refl)
  fails_columns names from why (at_column columns at w ds f) other k = reads_columns_before names from columns at ds k (Err why) (asks (MoreColumns names columns at) k (Err why) (fails_column names columns at why f other _))
  fails_columns names from why (columns_unclosed columns column at end ds d comma close) other k =
      reads_columns_before names from columns at ds k (Err why) (asks (MoreColumns names columns at) k (Err why) (reads_column names columns at column end d _ (Err why) (rw (comma, close) (ends (Err why)))))

  reads_cell : (columns : List Column) (cells : List (Option Value)) (at place : ℕ) (value : Value) → IsCell text tokens columns cells at place value → (k : List (Option Value) → ℕ → Program) (a : Answer) → R (k (set cells place (Some value)) (at + 2)) a → R (Ask (ACell columns cells at) k) a
  reads_cell columns cells at place value d k a r =
      asks (ACell columns cells at) k a (rw (d.is_new.named, d.is_new.found, d.is_new.free, d.is_new.there, d.literal, one_kind (kind_of value) d.column.kind d.kind) r)

  fails_cell_name : (columns : List Column) (cells : List (Option Value)) (at : ℕ) (why : CatalogFault) → CellNameFault text tokens columns cells at why → why ≢ fault.Memory → (k : List (Option Value) → ℕ → Program) → R (Ask (ACell columns cells at) k) (Err why)
  fails_cell_name columns cells at why cell_name_memory other k = absurd (other refl)
  fails_cell_name columns cells at why (no_cell_name none) other k = asks (ACell columns cells at) k (Err why) (rw none (ends (Err why)))
  fails_cell_name columns cells at why (no_such_column name named none) other k = asks (ACell columns cells at) k (Err why) (rw (named, none) (ends (Err why)))
  fails_cell_name columns cells at why (cell_again name place named found filled) other k = asks (ACell columns cells at) k (Err why) (rw (named, found, filled) (ends (Err why)))

  fails_cell : (columns : List Column) (cells : List (Option Value)) (at : ℕ) (why : CatalogFault) → CellFault text tokens columns cells at why → why ≢ fault.Memory → (k : List (Option Value) → ℕ → Program) → R (Ask (ACell columns cells at) k) (Err why)
  fails_cell columns cells at why cell_memory other k = absurd (other refl)
  fails_cell columns cells at why (at_cell_name w f) other k = fails_cell_name columns cells at why f other k
  fails_cell columns cells at why (no_value place column new none) other k = asks (ACell columns cells at) k (Err why) (rw (new.named, new.found, new.free, new.there, none) (ends (Err why)))
  fails_cell columns cells at why (another_kind place column value new literal wrong) other k =
      asks (ACell columns cells at) k (Err why) (rw (new.named, new.found, new.free, new.there, literal, other_kind (kind_of value) column.kind wrong) (ends (Err why)))

  -- what goes on behind some values goes on from the first
  reads_cells_before : (columns : List Column) (from : ℕ) (cells : List (Option Value)) (at : ℕ) → CellsBefore text tokens columns from cells at → (k : List (Option Value) → ℕ → Program) (a : Answer) → R (Ask (MoreCells columns cells at) k) a → R (Ask (MoreCells columns (no_cells columns) from) k) a
  reads_cells_before columns from all to no_cell_yet k a r = r
  reads_cells_before columns from all to (another_cell cells at place value ds d comma) k a r =
      let past : at + 3 ≡ at + 2 + 1 = omega arith in
      reads_cells_before columns from cells at ds k a (asks (MoreCells columns cells at) k a (reads_cell columns cells at place value d _ a (rw comma (rw past at r))))

  pub reads_cells : (columns : List Column) (from : ℕ) (cells : List (Option Value)) (end : ℕ) → AreCells text tokens columns from cells end → (k : List (Option Value) → ℕ → Program) (a : Answer) → R (k cells end) a → R (Ask (MoreCells columns (no_cells columns) from) k) a
  reads_cells columns from cells end d k a r =
      let past : end ≡ d.at + 2 + 1 = omega (arith, d.ends) in
      reads_cells_before columns from d.others d.at d.before k a (asks (MoreCells columns d.others d.at) k a (reads_cell columns d.others d.at d.place d.value d.is_cell _ a (rw (no_comma (d.at + 2) d.closes, d.closes) (rw (d.all, past) at r))))

  pub fails_cells : (columns : List Column) (from : ℕ) (why : CatalogFault) → CellsFault text tokens columns from why → why ≢ fault.Memory → (k : List (Option Value) → ℕ → Program) → R (Ask (MoreCells columns (no_cells columns) from) k) (Err why)
  fails_cells columns from why cells_memory other k = absurd (other refl)
  fails_cells columns from why (at_cell cells at w ds f) other k = reads_cells_before columns from cells at ds k (Err why) (asks (MoreCells columns cells at) k (Err why) (fails_cell columns cells at why f other _))
  fails_cells columns from why (cells_unclosed cells at place value ds d comma close) other k =
      reads_cells_before columns from cells at ds k (Err why) (asks (MoreCells columns cells at) k (Err why) (reads_cell columns cells at place value d _ (Err why) (rw (comma, close) (ends (Err why)))))
