use Rattle.std.proofs.Common.{◌≡◌, ℕ, ◌<◌, ◌≤◌, get_or}
use Rattle.arithmetic.specs.Digits.{digit}
use Rattle.scheme.specs.Signs.{flipped_at}
use Rattle.scheme.proofs.signs.flip_signs.Given as goal

abbrev pub invariant-loop-i : goal.invariant-loop-i
invariant-loop-i l =
    ((k : ℕ) → k < l.i → get_or l.v k (digit 0) ≡ flipped_at l.initial.v k)
    × ((k : ℕ) → l.i ≤ k → get_or l.v k (digit 0) ≡ get_or l.initial.v k (digit 0))
