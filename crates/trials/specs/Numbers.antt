-- The numbers that a state of the generator gives.
use Rattle.std.specs.Prelude.{ℕ, zero, suc}
use Rattle.rand_xoshiro.specs.SplitMix64.{mix_u64, next_state}

-- the state with which every run begins
abbrev pub first_state : ℕ
first_state = 88172645463325252

-- the state after k numbers
unfoldable pub state_after : ℕ → ℕ → ℕ
state_after s zero = s
state_after s (suc k) = next_state (state_after s k)

-- the number that comes after k numbers
unfoldable pub number_at : ℕ → ℕ → ℕ
number_at s k = (mix_u64 (state_after s k)).0
