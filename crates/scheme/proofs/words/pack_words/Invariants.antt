use Rattle.std.proofs.Common.{◌≡◌, ◌+◌, ◌*◌, ◌^◌, ◌<◌}
use Rattle.algebra.proofs.Radix.{Regroups}
use Rattle.scheme.proofs.words.pack_words.Given as goal

abbrev pub invariant-loop-held : goal.invariant-loop-held
invariant-loop-held l =
    (l.bits < 2 ^ l.held) × (l.held < 24) × (8 * l.at + l.held ≡ l.width.bits * (l.c-index + 1))
    × Regroups (2 ^ l.width.bits) 256 l.bits (2 ^ l.held) (l.c-index + 1) l.at l.coefficients l.out

abbrev pub decreases-loop-held : goal.decreases-loop-held
decreases-loop-held l = l.held

abbrev pub invariant-loop-c : goal.invariant-loop-c
invariant-loop-c l =
    (l.bits < 2 ^ l.held) × (l.held < 8) × (8 * l.at + l.held ≡ l.width.bits * l.c-index)
    × Regroups (2 ^ l.width.bits) 256 l.bits (2 ^ l.held) l.c-index l.at l.coefficients l.out
