-- What one more item of a select keeps.
use Rattle.std.proofs.Common.{◌≡◌, List, [], ◌∷◌, ◌++◌, map, fold, sym, ◌∙◌, ap, ℕ, ◌+◌, ◌<◌, length, get_or, take, append_assoc}
use Rattle.std.specs.List.{flat_map}
use Rattle.std.proofs.lemmas.Grind.{flat_map-append, take_at_read}
use Rattle.std.proofs.lemmas.List.{append-nil}
use Rattle.std.proofs.lemmas.List.Sums.{fold-append}
use Rattle.plain_relation.specs.Relations.{Column}
use Rattle.query_meaning.specs.Cases.{Case}
use Rattle.query_meaning.specs.Names.{unknown_in_items, unknown_name}
use Rattle.query_meaning.specs.Parameters.{Partner, partner_by}
use Rattle.query_names.proofs.ColumnLaws.{kinds_renamed}
use Rattle.query_names.proofs.OperandLaws.{unknown_by_name}
use Rattle.query_names.specs.Findings.{unknown_by}
use Rattle.values.specs.declared.column_name.ColName.{ColName}
use Rattle.values.specs.declared.value.Kind.{Kind}
use Rattle.vra_syntax.specs.declared.cond.Operand.TheVariants as operand
use Rattle.query_names.specs.Headings.{of_kind}
use Rattle.relational_algebra.specs.Columns.{kinds_of, named, with_column}
use Rattle.relational_algebra.specs.Items.{given, picked, possible_kept}
use Rattle.vra_syntax.specs.declared.items.Item.{Item}
use Rattle.vra_syntax.specs.declared.items.Items.TheVariants as listed

pub kept_more : (source : List Column) (items : List Item) (item : Item) → possible_kept (listed.Listed (items ++ item ∷ [])) source ≡ fold with_column (possible_kept (listed.Listed items) source) (map (of_kind (given item)) (kinds_of (named item.column source)))
kept_more source items item =
    ap (fold with_column []) (flat_map-append (picked source) items (item ∷ []))
    ∙ fold-append with_column [] (flat_map (picked source) items) (picked source item ++ [])
    ∙ ap (λ (xs : List Column). fold with_column (possible_kept (listed.Listed items) source) xs) (append-nil (picked source item) ∙ kinds_renamed (given item) (named item.column source))

-- the same of one more item of a list
pub kept_at : (source : List Column) (items : List Item) (place : ℕ) (item : Item) (kept after : List Column) (name : ColName) (kinds : List Kind) → place < length items → item ≡ get_or items place item → kept ≡ possible_kept (listed.Listed (take place items)) source → name ≡ given item → kinds ≡ kinds_of (named item.column source) → after ≡ fold with_column kept (map (of_kind name) kinds) → after ≡ possible_kept (listed.Listed (take (place + 1) items)) source
kept_at source items place item kept after name kinds within here before is found added =
    let t : take (place + 1) items ≡ take place items ++ item ∷ [] = (take_at_read items place item within).1 ∙ ap (λ (x : Item). take place items ++ x ∷ []) (sym here) in
    let e : after ≡ fold with_column (possible_kept (listed.Listed (take place items)) source) (map (of_kind (given item)) (kinds_of (named item.column source))) = added ∙ ap (λ (xs : List Column). fold with_column xs (map (of_kind name) kinds)) before ∙ ap (λ (n : ColName). fold with_column (possible_kept (listed.Listed (take place items)) source) (map (of_kind n) kinds)) is ∙ ap (λ (ks : List Kind). fold with_column (possible_kept (listed.Listed (take place items)) source) (map (of_kind (given item)) ks)) found in
    e ∙ sym (ap (λ (xs : List Item). possible_kept (listed.Listed xs) source) t ∙ kept_more source (take place items) item)

pub unknown_at : (source : List Column) (items : List Item) (place : ℕ) (item : Item) (base before after : List Case) (is : Partner) (kinds : List Kind) → place < length items → item ≡ get_or items place item → before ≡ base ++ unknown_in_items source (listed.Listed (take place items)) → is ≡ partner_by kinds → kinds ≡ kinds_of (named item.column source) → after ≡ before ++ unknown_by is (operand.Column item.column) → after ≡ base ++ unknown_in_items source (listed.Listed (take (place + 1) items))
unknown_at source items place item base before after is kinds within here old settled found added =
    let t : take (place + 1) items ≡ take place items ++ item ∷ [] = (take_at_read items place item within).1 ∙ ap (λ (x : Item). take place items ++ x ∷ []) (sym here) in
    let u : unknown_by is (operand.Column item.column) ≡ unknown_name source item.column = ap (λ (p : Partner). unknown_by p (operand.Column item.column)) (settled ∙ ap partner_by found) ∙ unknown_by_name source item.column in
    let m : unknown_in_items source (listed.Listed (take place items ++ item ∷ [])) ≡ unknown_in_items source (listed.Listed (take place items)) ++ unknown_name source item.column = flat_map-append (λ (i : Item). unknown_name source i.column) (take place items) (item ∷ []) ∙ ap (λ (xs : List Case). unknown_in_items source (listed.Listed (take place items)) ++ xs) (append-nil (unknown_name source item.column)) in
    added ∙ ap (λ (xs : List Case). xs ++ unknown_by is (operand.Column item.column)) old ∙ ap (λ (xs : List Case). (base ++ unknown_in_items source (listed.Listed (take place items))) ++ xs) u ∙ append_assoc base (unknown_in_items source (listed.Listed (take place items))) (unknown_name source item.column) ∙ ap (λ (xs : List Case). base ++ xs) (sym (ap (λ (xs : List Item). unknown_in_items source (listed.Listed xs)) t ∙ m))
