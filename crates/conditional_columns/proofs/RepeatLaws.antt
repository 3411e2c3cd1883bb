-- The names that stand again behind, column by column.
use Rattle.std.proofs.Common.{◌≡◌, ◌∙◌, ℕ, ◌+◌, ◌<◌, Bool, true, false, ◌&&◌, ◌||◌, List, [], ◌∷◌, ◌++◌, length, take, drop, get_or, inl, inr, refl, sym, ap, append_assoc, arith, length-append, if◌then◌else◌}
use Rattle.std.proofs.lemmas.Bool.{or_cases, or_right}
use Rattle.std.proofs.lemmas.List.{length-take-le, take_more}
use Rattle.std.proofs.lemmas.List.Folds.{list_any-append}
use Rattle.feature_expr.specs.Expressions.{and_of, mentions}
use Rattle.feature_expr.specs.Satisfaction.{satisfies}
use Rattle.feature_expr.specs.declared.expr.Expr.{Expr}
use Rattle.values.specs.declared.column_name.ColName.{ColName}
use Rattle.plain_relation.specs.Relations.{has_name}
use Rattle.relational_algebra.specs.Columns.{repeated}
use Rattle.query_meaning.specs.Typing.{columns_at, heading}
use Rattle.query_meaning.specs.declared.typed.TypedColumn.{TypedColumn}
use Rattle.conditional_columns.specs.ColumnLists.{columns_mention, conds_mention, names_where}
use Rattle.conditional_columns.proofs.CallLaws.{drop_is, whole_is}
use Rattle.conditional_columns.proofs.Connectives.{and_holds, and_mentions}
use Rattle.conditional_columns.proofs.ListLaws.{mention-append}

abbrev one_name : Bool → ColName → List ColName
one_name b name = if b then name ∷ [] else []

names_push : (c : List ℕ) (ks : List TypedColumn) (faults : List Expr) (x : TypedColumn) (fault : Expr) → length faults ≡ length ks → names_where c (ks ++ x ∷ []) (faults ++ fault ∷ []) ≡ names_where c ks faults ++ one_name (satisfies c fault) x.name
names_push c [] [] x fault e = one (satisfies c fault)
  where
    one : (b : Bool) → (if b then x.name ∷ [] else []) ≡ [] ++ one_name b x.name
    one true = refl
    one false = refl
names_push c [] (f ∷ faults) x fault e = absurd (omega (arith, e))
names_push c (k ∷ ks) [] x fault e = absurd (omega (arith, e))
names_push c (k ∷ ks) (f ∷ faults) x fault e = kept (satisfies c f) (names_push c ks faults x fault (omega (arith, e)))
  where
    kept : (b : Bool) → names_where c (ks ++ x ∷ []) (faults ++ fault ∷ []) ≡ names_where c ks faults ++ one_name (satisfies c fault) x.name
        → (if b then k.name ∷ names_where c (ks ++ x ∷ []) (faults ++ fault ∷ []) else names_where c (ks ++ x ∷ []) (faults ++ fault ∷ [])) ≡ (if b then k.name ∷ names_where c ks faults else names_where c ks faults) ++ one_name (satisfies c fault) x.name
    kept true h = ap (λ ns. k.name ∷ ns) h
    kept false h = h

repeated_one : (c : List ℕ) (x : TypedColumn) (rest : List TypedColumn) → repeated (columns_at c (x ∷ rest)) ≡ one_name (satisfies c x.cond && has_name x.name (columns_at c rest)) x.name ++ repeated (columns_at c rest)
repeated_one c x rest = there (satisfies c x.cond) (has_name x.name (columns_at c rest)) refl
  where
    there : (b d : Bool) → has_name x.name (columns_at c rest) ≡ d → repeated (if b then heading x ∷ columns_at c rest else columns_at c rest) ≡ one_name (b && d) x.name ++ repeated (columns_at c rest)
    there true true is = rw (is) refl
    there true false is = rw (is) refl
    there false d is = refl

pub repeats_more : (c : List ℕ) (columns : List TypedColumn) (faults new : List Expr) (i : ℕ) (x : TypedColumn) (fault : Expr) (after : List TypedColumn) (all : List ColName) → after ≡ drop (i + 1) columns → i < length columns → x ≡ get_or columns i x → new ≡ faults ++ fault ∷ [] → length faults ≡ i
    → satisfies c fault ≡ (satisfies c x.cond && has_name x.name (columns_at c after))
    → all ≡ names_where c (take i columns) faults ++ repeated (columns_at c (drop i columns)) → all ≡ names_where c (take (i + 1) columns) new ++ repeated (columns_at c (drop (i + 1) columns))
repeats_more c columns faults new i x fault after all behind below is put counted holds before =
    let rest = drop (i + 1) columns in
    before
    ∙ ap (λ ks. names_where c (take i columns) faults ++ repeated (columns_at c ks)) (drop_is columns i x below is)
    ∙ ap (λ ns. names_where c (take i columns) faults ++ ns) (repeated_one c x rest ∙ ap (λ b. one_name b x.name ++ repeated (columns_at c rest)) (sym (holds ∙ ap (λ ks. satisfies c x.cond && has_name x.name (columns_at c ks)) behind)))
    ∙ sym (append_assoc (names_where c (take i columns) faults) (one_name (satisfies c fault) x.name) (repeated (columns_at c rest)))
    ∙ ap (λ ns. ns ++ repeated (columns_at c rest)) (sym (ap (λ ks. names_where c ks new) (take_more columns i x below ∙ ap (λ y. take i columns ++ y ∷ []) (sym is)) ∙ ap (names_where c (take i columns ++ x ∷ [])) put ∙ names_push c (take i columns) faults x fault (counted ∙ sym (length_front columns i below))))
  where
    length_front : (ks : List TypedColumn) (n : ℕ) → n < length ks → length (take n ks) ≡ n
    length_front ks n h = length-take-le n ks (omega (arith, h))

pub again_holds : (c : List ℕ) (cond again fault : Expr) (there : Bool) → fault ≡ and_of cond again → satisfies c again ≡ there → satisfies c fault ≡ (satisfies c cond && there)
again_holds c cond again fault there is also = ap (satisfies c) is ∙ and_holds c cond again ∙ ap (λ b. satisfies c cond && b) also

pub again_known : (i : ℕ) (cond again fault : Expr) (rest : List TypedColumn) → fault ≡ and_of cond again → (mentions i again ≡ true → columns_mention i rest ≡ true) → mentions i fault ≡ true → (mentions i cond || columns_mention i rest) ≡ true
again_known i cond again fault rest is known h = more (mentions i cond) (and_mentions i cond again (sym (ap (mentions i) is) ∙ h))
  where
    more : (b : Bool) → (b || mentions i again) ≡ true → (b || columns_mention i rest) ≡ true
    more true yet = refl
    more false yet = known yet

pub counted_more : (faults new : List Expr) (fault : Expr) (i : ℕ) → new ≡ faults ++ fault ∷ [] → length faults ≡ i → length new ≡ i + 1
counted_more faults new fault i put counted =
    let lengths : length new ≡ length faults + 1 = ap length put ∙ length-append faults (fault ∷ []) in
    omega (arith, lengths, counted)

pub known_more : (i : ℕ) (columns : List TypedColumn) (faults new : List Expr) (place : ℕ) (x : TypedColumn) (fault : Expr) (after : List TypedColumn) → after ≡ drop (place + 1) columns → place < length columns → x ≡ get_or columns place x → new ≡ faults ++ fault ∷ []
    → (mentions i fault ≡ true → (mentions i x.cond || columns_mention i after) ≡ true) → (conds_mention i faults ≡ true → columns_mention i columns ≡ true) → conds_mention i new ≡ true → columns_mention i columns ≡ true
known_more i columns faults new place x fault after behind below is put known before h = elim (or_cases (conds_mention i faults) (conds_mention i (fault ∷ [])) (sym (ap (conds_mention i) put ∙ list_any-append (mentions i) faults (fault ∷ [])) ∙ h)) [
  | inl front ↦ before front
  | inr now ↦ ap (columns_mention i) (whole_is columns place x below is) ∙ mention-append i (take place columns) (x ∷ drop (place + 1) columns)
      ∙ or_right (columns_mention i (take place columns)) (columns_mention i (x ∷ drop (place + 1) columns)) (sym (ap (λ ks. mentions i x.cond || columns_mention i ks) behind) ∙ known (alone (mentions i fault) now))
]
  where
    alone : (b : Bool) → (b || false) ≡ true → b ≡ true
    alone true yet = refl
    alone false yet = yet
