use Rattle.std.proofs.lemmas.List.Elements.{All-push}
use Rattle.condition_sat.specs.Samples.{IsSample}
use Rattle.condition_sat.proofs.samples.samples_of.Goals as goal
use Rattle.condition_sat.proofs.samples.samples_of.Goals.{in-Some+in_ok-push-in-Some, in-None}

pub loop-pattern-preserved : goal.loop-pattern-preserved
loop-pattern-preserved c =
    elim c.match-sample_near.branch [
      | in-Some+in_ok-push-in-Some w ↦ rw w.samples-is (rw w.in_ok-push-in-Some.ensures.items (All-push (λ s. IsSample c.args.model.now s) _ _ c.loop-pattern.invariant w.in-Some.ensures))
      | in-None w ↦ rw w.samples-is c.loop-pattern.invariant
    ]
