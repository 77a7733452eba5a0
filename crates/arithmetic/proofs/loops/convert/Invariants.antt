use Rattle.std.proofs.Common.{◌≡◌, ℕ, ◌<◌, ◌≤◌, get_or}
use Rattle.arithmetic.proofs.loops.convert.Given as goal

abbrev pub invariant-loop-i : goal.invariant-loop-i
invariant-loop-i g l =
    record {
      converted : (k : ℕ) (a : g.row.A.Denot) (b : g.row.B.Denot) → k < l.i → g.B.From.from_gives (get_or l.from k a) (get_or l.into k b);
      rest_kept : (k : ℕ) (b : g.row.B.Denot) → l.i ≤ k → get_or l.into k b ≡ get_or l.initial.into k b;
    }
