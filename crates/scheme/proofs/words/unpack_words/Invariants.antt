use Rattle.std.proofs.Common.{◌≡◌, ◌+◌, ◌-◌, ◌*◌, ◌^◌, ◌<◌}
use Rattle.algebra.proofs.Radix.{Regroups}
use Rattle.scheme.proofs.words.unpack_words.Given as goal

abbrev pub invariant-loop-held : goal.invariant-loop-held
invariant-loop-held l =
    (l.bits < 2 ^ l.held) × (l.held < l.width.bits + 8) × (8 * l.at ≡ l.width.bits * l.i + l.held)
    × Regroups 256 (2 ^ l.width.bits) l.bits (2 ^ l.held) l.at l.i l.bytes l.out

abbrev pub decreases-loop-held : goal.decreases-loop-held
decreases-loop-held l = l.width.bits - l.held

abbrev pub invariant-loop-i : goal.invariant-loop-i
invariant-loop-i l =
    (l.bits < 2 ^ l.held) × (l.held < 8) × (8 * l.at ≡ l.width.bits * l.i + l.held)
    × Regroups 256 (2 ^ l.width.bits) l.bits (2 ^ l.held) l.at l.i l.bytes l.out
