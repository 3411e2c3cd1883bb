use Rattle.std.proofs.Common.{◌≡◌, arith, refl, rules, subst, sym, ◌∙◌}
use Rattle.session_poll.specs.Polls.{has_moved}
use Rattle.session_poll.specs.Standing.{Says}
use Rattle.session_poll.specs.declared.polled.Polled.TheVariants as polled
use Rattle.session_transactions.specs.Goings.{FitsStore}
use Rattle.top_calls.proofs.ReplayLaws.{at_first, polled_on, closed_all, replays_so_far}
use Rattle.top_calls.proofs.replay.drive.Goals as goal

pub returns-then-eq-clause-all : goal.returns-then-eq-clause-all
returns-then-eq-clause-all g c = λ done opening of.
    closed_all opening c.args.stream.now c.turns.fed c.args.store.now.moment c.poll-polled.new.store.moment (g.O.Sink.held c.args.out.now).bytes (g.O.Sink.held c.turns.out).bytes c.poll-polled.new.self
    (polled_on opening c.args.stream.now c.turns.fed c.args.store.now.moment (g.O.Sink.held c.args.out.now).bytes (g.O.Sink.held c.turns.out).bytes c.turns.session c.poll-polled.new.self c.turns.store c.poll-polled.new.store c.poll-polled.result (c.turns.invariant.still opening of) c.poll-polled.ensures (c.turns.invariant.at opening of))
    (has_moved c.poll-polled.ensures.did)
    (let closed : c.poll-polled.result ≡ polled.Closed = search rules in subst (λ r. Says (has_moved c.poll-polled.ensures.did) r c.poll-polled.new.self) closed c.poll-polled.ensures.says)

pub returns-then-eq-clause-replays : goal.returns-then-eq-clause-replays
returns-then-eq-clause-replays g c = λ opening of.
    replays_so_far opening c.args.stream.now c.turns.fed c.args.store.now.moment c.poll-polled.new.store.moment (g.O.Sink.held c.args.out.now).bytes (g.O.Sink.held c.turns.out).bytes c.poll-polled.new.self
    (polled_on opening c.args.stream.now c.turns.fed c.args.store.now.moment (g.O.Sink.held c.args.out.now).bytes (g.O.Sink.held c.turns.out).bytes c.turns.session c.poll-polled.new.self c.turns.store c.poll-polled.new.store c.poll-polled.result (c.turns.invariant.still opening of) c.poll-polled.ensures (c.turns.invariant.at opening of))

pub returns-in-None-clause-replays : goal.returns-in-None-clause-replays
returns-in-None-clause-replays g c = λ opening of.
    c.in-None.ensures.stops.on opening c.args.store.now.moment c.poll-polled.new.store.moment (g.O.Sink.held c.args.out.now).bytes
    (polled_on opening c.args.stream.now c.turns.fed c.args.store.now.moment (g.O.Sink.held c.args.out.now).bytes (g.O.Sink.held c.turns.out).bytes c.turns.session c.poll-polled.new.self c.turns.store c.poll-polled.new.store c.poll-polled.result (c.turns.invariant.still opening of) c.poll-polled.ensures (c.turns.invariant.at opening of))

pub turns-preserved : goal.turns-preserved
turns-preserved g c = record {
  quiet = c.in-Some.ensures.quiet ∙ c.turns.invariant.quiet;
  within = c.in-Some.ensures.within;
  fits = subst (λ t. FitsStore t c.poll-polled.new.store) (sym c.in-Some.ensures.on.transaction) (c.poll-polled.ensures.goes.fits c.turns.invariant.fits);
  still = λ opening of. c.poll-polled.ensures.goes.leaves.still opening (c.turns.invariant.still opening of);
  at = λ opening of. c.in-Some.ensures.on.on opening c.args.store.now.moment c.poll-polled.new.store.moment (g.O.Sink.held c.args.out.now).bytes
      (polled_on opening c.args.stream.now c.turns.fed c.args.store.now.moment (g.O.Sink.held c.args.out.now).bytes (g.O.Sink.held c.turns.out).bytes c.turns.session c.poll-polled.new.self c.turns.store c.poll-polled.new.store c.poll-polled.result (c.turns.invariant.still opening of) c.poll-polled.ensures (c.turns.invariant.at opening of));
}

pub returns-clause-replays : goal.returns-clause-replays
returns-clause-replays g c = λ opening of.
    replays_so_far opening c.args.stream.now c.turns.fed c.args.store.now.moment c.turns.store.moment (g.O.Sink.held c.args.out.now).bytes (g.O.Sink.held c.turns.out).bytes c.turns.session (c.turns.invariant.at opening of)

pub turns-init : goal.turns-init
turns-init g c = record {
  quiet = refl;
  within = omega arith;
  fits = c.requires.fits;
  still = λ opening of. of;
  at = λ opening of. at_first opening c.args.stream.now c.args.store.now.moment (g.O.Sink.held c.args.out.now).bytes c.args.session.now (c.requires.first opening) c.requires.over;
}
