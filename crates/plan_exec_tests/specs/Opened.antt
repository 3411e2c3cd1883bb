-- What generated queries are answered from.
use Rattle.std.specs.Prelude.{◌≡◌, ℕ, true, List}
use Rattle.condition_sat.specs.Admitted.{IsAdmitted}
use Rattle.plan_exec_tests.specs.declared.answered.Opened.{Opened}
use Rattle.query_answers.specs.Openings.{opening_tables}
use Rattle.vschema.specs.Formed.{IsFormed}
use Rattle.vschema.specs.Gaps.{have_all_values}

-- A catalogue that is formed and has a value wherever one is needed, its model, and its opening rows.
pub record IsOpened (opened : Opened) : Type 0 where
  pub model : opened.model ≡ opened.catalog.model
  pub formed : IsFormed opened.catalog opened.rows
  pub filled : (c : List ℕ) → IsAdmitted opened.catalog.model c → have_all_values c opened.catalog.tables opened.rows ≡ true
  pub stored : opened.stored.tables ≡ opening_tables opened.catalog.tables opened.rows
