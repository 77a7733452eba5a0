-- One number more.
use Rattle.std.proofs.Common.{◌≡◌, ℕ, ◌+◌, ap, add-one, rules}
use Rattle.rand_xoshiro.specs.SplitMix64.{mix_u64}
use Rattle.trials.specs.Numbers.{number_at, state_after}

pub number_drawn : (s k x t : ℕ) → (x, t) ≡ mix_u64 (state_after s k) → x ≡ number_at s k
unfolding number_at
number_drawn s k x t e = ap (λ p. p.0) e

pub state_drawn : (s k x t : ℕ) → (x, t) ≡ mix_u64 (state_after s k) → t ≡ state_after s (k + 1)
unfolding state_after
state_drawn s k x t e = rw add-one (ap (λ p. p.1) e)

pub none_drawn : (s : ℕ) → s ≡ state_after s 0
unfolding state_after
none_drawn s = search rules
