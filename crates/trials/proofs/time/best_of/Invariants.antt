use Rattle.std.proofs.Common.{◌≡◌, Ok}
use Rattle.std.specs.Duration.{as_nanos, max_nanos}
use Rattle.trials.specs.Turns.{Runs, Turn}
use Rattle.trials.proofs.time.best_of.Given as goal

abbrev pub invariant-loop-turn : goal.invariant-loop-turn
invariant-loop-turn g l = record {
  draw : goal.D-IsAlwaysCallable g l.draw;
  step : goal.S-IsAlwaysCallable g l.step;
  each_turn : Runs (Turn (goal.D-step g) (λ p x q. goal.S-step g p x (Ok tt) q)) l.turn (l.initial.draw, l.initial.step) (l.draw, l.step);
  no_turns : l.turn ≡ 0 → as_nanos l.best ≡ max_nanos;
}
