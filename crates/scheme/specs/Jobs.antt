-- Jobs: what is left of coins once a job has ended.
use Rattle.std.specs.Prelude.{ℕ, List, length, replicate}

-- as many bytes, all zero
abbrev pub cleared : List ℕ → List ℕ
cleared coins = replicate (length coins) 0
