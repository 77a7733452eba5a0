use Rattle.std.proofs.Common.{◌≡◌, ℕ, ◌+◌, ◌/◌, ◌%◌, ◌^◌, ◌<◌, get_or}
use Rattle.algebra.specs.Radix.{digit_at}
use Rattle.arithmetic.specs.Digits.{digit}
use Rattle.scheme.proofs.ternary.unpack.Given as goal

abbrev pub invariant-loop-i : goal.invariant-loop-i
invariant-loop-i l =
    ((k : ℕ) → k < l.i → (get_or l.out k (digit 0)).code ≡ digit_at 3 5 l.bytes k)
    × ((l.i + l.left) % 5 ≡ 0) × (l.left < 5)
    × (0 < l.left → l.rest ≡ get_or l.bytes (l.i / 5) 0 / 3 ^ (l.i % 5))
