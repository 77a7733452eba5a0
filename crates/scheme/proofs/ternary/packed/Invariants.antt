use Rattle.std.proofs.Common.{◌≡◌, take}
use Rattle.algebra.specs.Radix.{numeral}
use Rattle.scheme.specs.TernaryParts.{codes}
use Rattle.scheme.proofs.ternary.packed.Given as goal

abbrev pub invariant-loop-i : goal.invariant-loop-i
invariant-loop-i l = l.byte ≡ numeral 3 (codes (take l.i l.five))
