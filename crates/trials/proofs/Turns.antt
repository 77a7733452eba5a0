-- One turn more.
use Rattle.std.proofs.Common.{ℕ, ◌+◌, refl, add-one}
use Rattle.trials.specs.Turns.{Runs}

pub no_runs : {A : Type 0} (R : A → A → Type 0) (a : A) → Runs R 0 a a
unfolding Runs
no_runs R a = refl

pub runs_once_more : {A : Type 0} (R : A → A → Type 0) (n : ℕ) (a m b : A) → Runs R n a m → R m b → Runs R (n + 1) a b
unfolding Runs
runs_once_more R n a m b before last = rw add-one (m, before, last)
