-- Bits: the numbers modulo 2.
use Rattle.std.specs.Prelude.{ℕ, ◌%◌}
use Rattle.std.proofs.Common.{mod-lt, lit<}
use Rattle.arithmetic.specs.declared.bit.Bit.{Bit}

-- the bit of a number: its remainder modulo 2
abbrev pub bit : ℕ → Bit
bit n = record { code = n % 2; small = mod-lt n (lit< tt) }
