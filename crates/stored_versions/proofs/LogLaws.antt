-- One write more, in the database and in the bounds; and the log where every write counts.
use Rattle.std.proofs.Common.{◌≡◌, ℕ, Bool, true, false, ◌&&◌, if◌then◌else◌, List, [], ◌∷◌, ◌++◌, refl, sym, ◌∙◌, ap, rules, append_assoc}
use Rattle.commit_log.specs.declared.commit.Commit.{Commit}
use Rattle.plain_relation.specs.Relations.{Relation}
use Rattle.query_meaning.specs.Bounds.{Size}
use Rattle.stored_versions.specs.Catalogues.{catalog_after, catalog_from}
use Rattle.stored_versions.specs.Databases.{relation_after, relation_from, variant_database, catalog_at, bounds_after, bounds_from, sizes_of, opening_size}
use Rattle.stored_versions.specs.Logs.{taken_from, taken_writes, all_taken}
use Rattle.stored_versions.specs.Openings.{Opening}
use Rattle.vra_syntax.specs.declared.write.Write.{Write}
use Rattle.vschema.specs.Variants.{opening_database}
use Rattle.vschema.specs.declared.catalog.Catalog.{Catalog}
use Rattle.write_meaning.specs.TakenWrites.{is_taken}

relation_append : (c : List ℕ) (number : ℕ) (xs ys : List Write) (catalog : Catalog) (r : Relation) → relation_from c number catalog (xs ++ ys) r ≡ relation_from c number (catalog_from catalog xs) ys (relation_from c number catalog xs r)
relation_append c number [] ys catalog r = refl
relation_append c number (w ∷ xs) ys catalog r = relation_append c number xs ys (catalog_after catalog w) (relation_after c number catalog w r)

bounds_append : (number : ℕ) (xs ys : List Write) (catalog : Catalog) (size : Size) → bounds_from number catalog (xs ++ ys) size ≡ bounds_from number (catalog_from catalog xs) ys (bounds_from number catalog xs size)
bounds_append number [] ys catalog size = refl
bounds_append number (w ∷ xs) ys catalog size = bounds_append number xs ys (catalog_after catalog w) (bounds_after number catalog w size)

pub database_after : (c : List ℕ) (opening : Opening) (commits : List Commit) (writes : List Write) (w : Write) (number : ℕ)
    → variant_database c opening commits (writes ++ w ∷ []) number ≡ relation_after c number (catalog_at opening commits writes) w (variant_database c opening commits writes number)
database_after c opening commits writes w number =
    ap (λ ws. relation_from c number opening.catalog ws (opening_database c opening.catalog opening.rows number)) (sym (append_assoc (taken_writes opening commits) writes (w ∷ [])))
    ∙ relation_append c number (taken_writes opening commits ++ writes) (w ∷ []) opening.catalog (opening_database c opening.catalog opening.rows number)

pub sizes_after : (opening : Opening) (commits : List Commit) (writes : List Write) (w : Write) (number : ℕ)
    → sizes_of opening commits (writes ++ w ∷ []) number ≡ bounds_after number (catalog_at opening commits writes) w (sizes_of opening commits writes number)
sizes_after opening commits writes w number =
    ap (λ ws. bounds_from number opening.catalog ws (opening_size opening number)) (sym (append_assoc (taken_writes opening commits) writes (w ∷ [])))
    ∙ bounds_append number (taken_writes opening commits ++ writes) (w ∷ []) opening.catalog (opening_size opening number)

-- Where every write counts, none is left out.

and_first : (a b : Bool) → (a && b) ≡ true → a ≡ true
and_first true b h = refl
and_first false b h = h

and_second : (a b : Bool) → (a && b) ≡ true → b ≡ true
and_second true b h = h
and_second false b h = search rules

pub none_left_out : (writes : List Write) (catalog : Catalog) → all_taken catalog writes ≡ true → taken_from catalog writes ≡ writes
none_left_out [] catalog h = refl
none_left_out (w ∷ writes) catalog h =
    ap (λ b. if b then w ∷ taken_from (catalog_after catalog w) writes else taken_from catalog writes) (and_first (is_taken catalog w) (all_taken (catalog_after catalog w) writes) h)
    ∙ ap (λ ws. w ∷ ws) (none_left_out writes (catalog_after catalog w) (and_second (is_taken catalog w) (all_taken (catalog_after catalog w) writes) h))
