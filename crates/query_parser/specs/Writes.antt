-- Which writes tokens spell, each behind its word.
use Rattle.std.specs.Prelude.{Bool, ℕ, List}
use Rattle.word_tokens.specs.declared.token.Token.{Token}
use Rattle.vra_syntax.specs.declared.write.Write.{Write}
use Rattle.vra_syntax.specs.declared.write.Write.TheVariants as write
use Rattle.query_parser.specs.Statements.{IsInsert, IsDelete, IsUpdate}

abbrev pub SpellsInsert : Bool → List (List ℕ) → List ℕ → List Token → ℕ → Write → ℕ → Type 0
SpellsInsert with_params names text tokens at (write.Insert table columns rows expr) end = IsInsert with_params names text tokens at table columns rows expr end
SpellsInsert with_params names text tokens at _ end = ⊥

abbrev pub SpellsDelete : Bool → List (List ℕ) → List ℕ → List Token → ℕ → Write → ℕ → Type 0
SpellsDelete with_params names text tokens at (write.Delete table c expr) end = IsDelete with_params names text tokens at table c expr end
SpellsDelete with_params names text tokens at _ end = ⊥

abbrev pub SpellsUpdate : Bool → List (List ℕ) → List ℕ → List Token → ℕ → Write → ℕ → Type 0
SpellsUpdate with_params names text tokens at (write.Update table items c expr) end = IsUpdate with_params names text tokens at table items c expr end
SpellsUpdate with_params names text tokens at _ end = ⊥
