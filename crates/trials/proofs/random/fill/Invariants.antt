use Rattle.std.proofs.Common.{◌≡◌, ℕ, ◌<◌, get_or}
use Rattle.trials.specs.Numbers.{number_at, state_after}
use Rattle.trials.proofs.random.fill.Given as goal

abbrev pub invariant-loop-x : goal.invariant-loop-x
invariant-loop-x g l = record {
  numbers : (k : ℕ) → k < l.x-index → (d : _) → goal.F-post g l.shown (number_at l.initial.random k) (get_or l.out k d);
  state : l.random ≡ state_after l.initial.random l.x-index;
}
