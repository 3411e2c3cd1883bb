-- A write that is well typed, and whose parts are a statement's, counts.
use Rattle.std.proofs.Common.{◌≡◌, ◌==◌, Bool, true, false, ◌&&◌, [], length, sym, ◌∙◌}
use Rattle.query_meaning.specs.WriteTyping.{IsWellTypedWrite}
use Rattle.taken_writes.proofs.TypeLaws.{typed}
use Rattle.vra_syntax.specs.Parameters.{param_in_write}
use Rattle.vra_syntax.specs.declared.write.Write.{Write}
use Rattle.vschema.specs.declared.catalog.Catalog.{Catalog}
use Rattle.write_meaning.specs.TakenWrites.{has_type, is_taken, values_fit, write_below}

all_four : (a b c d : Bool) → (a && b && c) ≡ true → d ≡ true → (a && b && c && d) ≡ true
all_four true true true d h k = k
all_four true true false d h k = h
all_four true false c d h k = h
all_four false b c d h k = h

pub counts : (catalog : Catalog) (w : Write) (fit : Bool) → fit ≡ (param_in_write w == 0 && write_below (length catalog.features) w && values_fit w) → fit ≡ true → IsWellTypedWrite catalog.model [] catalog.tables w → is_taken catalog w ≡ true
counts catalog w fit is yes_fit well =
    all_four (param_in_write w == 0) (write_below (length catalog.features) w) (values_fit w) (has_type catalog.model catalog.tables w) (sym is ∙ yes_fit) (typed catalog.model catalog.tables w well)
