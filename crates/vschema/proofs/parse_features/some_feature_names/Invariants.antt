use Rattle.std.proofs.Common.{◌-◌, ◌≤◌, length}
use Rattle.vschema.specs.Spelling.{FeaturesBefore}
use Rattle.vschema.proofs.parse_features.some_feature_names.Given as goal

abbrev pub invariant-names : goal.invariant-names
invariant-names l = record {
  within : l.at ≤ length l.reading.tokens.now;
  before : FeaturesBefore l.reading.text.now l.reading.tokens.now l.names.items l.at;
}

abbrev pub decreases-names : goal.decreases-names
decreases-names l = length l.reading.tokens.now - l.at
