-- What a catalogue is that was read and passed its check, with its opening rows and its feature model.
use Rattle.std.specs.Prelude.{◌≡◌}
use Rattle.vschema.specs.Formed.{IsFormed}
use Rattle.vra_types.specs.Check.{Passes}
use Rattle.top_calls.specs.declared.tool.Passed.{Passed}

pub record HasPassed (passed : Passed) : Type 0 where
  pub formed : IsFormed passed.catalog passed.rows
  pub passes : Passes passed.catalog passed.rows
  pub model : passed.model ≡ passed.catalog.model
