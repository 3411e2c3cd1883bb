-- The operands of a condition: what those of its parts are, and what is asked of them.
use Rattle.std.proofs.Common.{◌≡◌, ℕ, ◌+◌, List, [], ◌∷◌, ◌++◌, refl, sym, ◌∙◌, ap, ap₂, subst, append_assoc, arith, map}
use Rattle.std.specs.Borrow.{Bor}
use Rattle.std.specs.List.{flat_map}
use Rattle.std.proofs.lemmas.Grind.{flat_map-append}
use Rattle.std.proofs.lemmas.List.{append-nil, map-append}
use Rattle.plain_relation.specs.Relations.{Column}
use Rattle.query_meaning.specs.Cases.{Case}
use Rattle.query_meaning.specs.Names.{unknown_in_cond, unknown_operand, unknown_step}
use Rattle.query_meaning.specs.Parameters.{Occurrence, Partner, Open, occurrence, occurrences, occurrences_step, partner_of, without_kind}
use Rattle.query_names.specs.Waiting.{conds, nodes, waiting_nodes}
use Rattle.values.specs.declared.value.Kind.{Kind}
use Rattle.vra_syntax.specs.declared.cond.Cond.{Cond, map-Cond, roll-Cond}
use Rattle.vra_syntax.specs.declared.cond.Cond.TheFolds.{fold-roll-Cond, ind-Cond}
use Rattle.vra_syntax.specs.declared.cond.Cond.TheOpen.{Cond-F}
use Rattle.vra_syntax.specs.declared.cond.Operand.{Operand}
use Rattle.vra_syntax.specs.declared.cond.Operand.TheVariants as operand
use Rattle.write_typing.specs.Operands.{lent, operands_of, operands_step, waiting_operands}
use Rattle.write_typing.specs.Values.{operand_without_kind}

pub two_lent : (found : List (Bor Operand)) (left right : Bor Operand) → lent ((found ++ left ∷ []) ++ right ∷ []) ≡ lent found ++ left.now ∷ right.now ∷ []
two_lent found left right =
    map-append (λ (one : Bor Operand). one.now) (found ++ left ∷ []) (right ∷ [])
    ∙ ap (λ (xs : List Operand). xs ++ right.now ∷ []) (map-append (λ (one : Bor Operand). one.now) found (left ∷ []))
    ∙ append_assoc (lent found) (left.now ∷ []) (right.now ∷ [])

-- conditions that wait: what one more of them, put last, adds

waits_last : (them : List Cond) (cond : Cond) → waiting_operands (them ++ cond ∷ []) ≡ operands_of cond ++ waiting_operands them
waits_last [] cond = sym (append-nil (operands_of cond))
waits_last (other ∷ them) cond = ap (λ (xs : List Operand). xs ++ operands_of other) (waits_last them cond) ∙ append_assoc (operands_of cond) (waiting_operands them) (operands_of other)

counts_last : (them : List Cond) (cond : Cond) → waiting_nodes (them ++ cond ∷ []) ≡ waiting_nodes them + nodes cond
counts_last [] cond = refl
counts_last (other ∷ them) cond = ap (λ n. n + nodes other) (counts_last them cond) ∙ omega arith

conds_put : (waiting : List (Bor Cond)) (one : Bor Cond) → conds (waiting ++ one ∷ []) ≡ conds waiting ++ one.now ∷ []
conds_put waiting one = map-append (λ (r : Bor Cond). r.now) waiting (one ∷ [])

pub one_waits : (waiting : List (Bor Cond)) (one : Bor Cond) → waiting_operands (conds (waiting ++ one ∷ [])) ≡ operands_of one.now ++ waiting_operands (conds waiting)
one_waits waiting one = ap waiting_operands (conds_put waiting one) ∙ waits_last (conds waiting) one.now

pub one_counts : (waiting : List (Bor Cond)) (one : Bor Cond) → waiting_nodes (conds (waiting ++ one ∷ [])) ≡ waiting_nodes (conds waiting) + nodes one.now
one_counts waiting one = ap waiting_nodes (conds_put waiting one) ∙ counts_last (conds waiting) one.now

pub both_wait : (waiting : List (Bor Cond)) (left right : Bor Cond) → waiting_operands (conds ((waiting ++ right ∷ []) ++ left ∷ [])) ≡ operands_of left.now ++ operands_of right.now ++ waiting_operands (conds waiting)
both_wait waiting left right = one_waits (waiting ++ right ∷ []) left ∙ ap (λ (xs : List Operand). operands_of left.now ++ xs) (one_waits waiting right) ∙ sym (append_assoc (operands_of left.now) (operands_of right.now) (waiting_operands (conds waiting)))

pub both_count : (waiting : List (Bor Cond)) (left right : Bor Cond) → waiting_nodes (conds ((waiting ++ right ∷ []) ++ left ∷ [])) ≡ waiting_nodes (conds waiting) + nodes left.now + nodes right.now
both_count waiting left right = one_counts (waiting ++ right ∷ []) left ∙ ap (λ n. n + nodes left.now) (one_counts waiting right) ∙ omega arith

-- what is asked of a condition's names and parameters is asked of its operands

joined : (f : Operand → List Case) (xs ys : List Case) (left right : List Operand) → xs ≡ flat_map f left → ys ≡ flat_map f right → xs ++ ys ≡ flat_map f (left ++ right)
joined f xs ys left right is are = ap₂ (λ (a b : List Case). a ++ b) is are ∙ sym (flat_map-append f left right)

module _ (columns : List Column) where
  abbrev U : Cond → Type 0
  U cond = unknown_in_cond columns cond ≡ flat_map (unknown_operand columns) (operands_of cond)

  rolled : (x : Cond-F Cond) → unknown_step columns (map-Cond Cond (List Case) (unknown_in_cond columns) x) ≡ flat_map (unknown_operand columns) (operands_step (map-Cond Cond (List Operand) operands_of x)) → U (roll-Cond x)
  rolled x f = fold-roll-Cond (List Case) (unknown_step columns) x ∙ f ∙ sym (ap (flat_map (unknown_operand columns)) (fold-roll-Cond (List Operand) operands_step x))

  layer : (y : Cond-F ((cond : Cond) × U cond)) → U (roll-Cond (map-Cond ((cond : Cond) × U cond) Cond (λ p. p.0) y))
  layer (Cond-F.Cmp left sign right) = rolled (Cond-F.Cmp left sign right) (ap (λ (xs : List Case). unknown_operand columns left ++ xs) (sym (append-nil (unknown_operand columns right))))
  layer (Cond-F.Not inner) = rolled (Cond-F.Not inner.0) inner.1
  layer (Cond-F.And l r) = rolled (Cond-F.And l.0 r.0) (joined (unknown_operand columns) _ _ (operands_of l.0) (operands_of r.0) l.1 r.1)
  layer (Cond-F.Or l r) = rolled (Cond-F.Or l.0 r.0) (joined (unknown_operand columns) _ _ (operands_of l.0) (operands_of r.0) l.1 r.1)
  layer (Cond-F.Choice expr l r) = rolled (Cond-F.Choice expr l.0 r.0) (joined (unknown_operand columns) _ _ (operands_of l.0) (operands_of r.0) l.1 r.1)
  layer Cond-F.True = rolled Cond-F.True refl
  layer Cond-F.False = rolled Cond-F.False refl

  pub unknown_of_operands : (cond : Cond) → U cond
  unknown_of_operands = ind-Cond U (λ x y is. subst (λ z. U (roll-Cond z)) is (layer y))

pub lacks_alone : (kinds : List Kind) (partner : Partner) (value : Operand) → without_kind kinds (occurrence partner value) ≡ operand_without_kind kinds value
lacks_alone kinds partner (operand.Column name) = refl
lacks_alone kinds partner (operand.Literal value) = refl
lacks_alone kinds partner (operand.Param number) = refl

lacks_both : (kinds : List Kind) (f : Operand → List Case) (xs ys : List Occurrence) (left right : List Operand) → without_kind kinds xs ≡ flat_map f left → without_kind kinds ys ≡ flat_map f right → without_kind kinds (xs ++ ys) ≡ flat_map f (left ++ right)
lacks_both kinds f xs ys left right is are = flat_map-append _ xs ys ∙ joined f (without_kind kinds xs) (without_kind kinds ys) left right is are

module _ (kinds : List Kind) (columns : List Column) where
  abbrev W : Cond → Type 0
  W cond = without_kind kinds (occurrences columns cond) ≡ flat_map (operand_without_kind kinds) (operands_of cond)

  rolled_too : (x : Cond-F Cond) → without_kind kinds (occurrences_step columns (map-Cond Cond (List Occurrence) (occurrences columns) x)) ≡ flat_map (operand_without_kind kinds) (operands_step (map-Cond Cond (List Operand) operands_of x)) → W (roll-Cond x)
  rolled_too x f = ap (without_kind kinds) (fold-roll-Cond (List Occurrence) (occurrences_step columns) x) ∙ f ∙ sym (ap (flat_map (operand_without_kind kinds)) (fold-roll-Cond (List Operand) operands_step x))

  compared : (left right : Operand) → without_kind kinds (occurrence (partner_of columns right) left ++ occurrence (partner_of columns left) right) ≡ flat_map (operand_without_kind kinds) (left ∷ right ∷ [])
  compared left right = lacks_both kinds (operand_without_kind kinds) (occurrence (partner_of columns right) left) (occurrence (partner_of columns left) right) (left ∷ []) (right ∷ [])
      (lacks_alone kinds (partner_of columns right) left ∙ sym (append-nil (operand_without_kind kinds left)))
      (lacks_alone kinds (partner_of columns left) right ∙ sym (append-nil (operand_without_kind kinds right)))

  layer_too : (y : Cond-F ((cond : Cond) × W cond)) → W (roll-Cond (map-Cond ((cond : Cond) × W cond) Cond (λ p. p.0) y))
  layer_too (Cond-F.Cmp left sign right) = rolled_too (Cond-F.Cmp left sign right) (compared left right)
  layer_too (Cond-F.Not inner) = rolled_too (Cond-F.Not inner.0) inner.1
  layer_too (Cond-F.And l r) = rolled_too (Cond-F.And l.0 r.0) (lacks_both kinds (operand_without_kind kinds) (occurrences columns l.0) (occurrences columns r.0) (operands_of l.0) (operands_of r.0) l.1 r.1)
  layer_too (Cond-F.Or l r) = rolled_too (Cond-F.Or l.0 r.0) (lacks_both kinds (operand_without_kind kinds) (occurrences columns l.0) (occurrences columns r.0) (operands_of l.0) (operands_of r.0) l.1 r.1)
  layer_too (Cond-F.Choice expr l r) = rolled_too (Cond-F.Choice expr l.0 r.0) (lacks_both kinds (operand_without_kind kinds) (occurrences columns l.0) (occurrences columns r.0) (operands_of l.0) (operands_of r.0) l.1 r.1)
  layer_too Cond-F.True = rolled_too Cond-F.True refl
  layer_too Cond-F.False = rolled_too Cond-F.False refl

  pub lacks_of_operands : (cond : Cond) → W cond
  lacks_of_operands = ind-Cond W (λ x y is. subst (λ z. W (roll-Cond z)) is (layer_too y))
