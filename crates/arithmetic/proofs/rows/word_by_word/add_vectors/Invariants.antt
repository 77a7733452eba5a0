use Rattle.std.proofs.Common.{◌≡◌, ℕ, ◌-◌, ◌≤◌, List, length, take}
use Rattle.arithmetic.specs.Rows.{row_sum}
use Rattle.arithmetic.proofs.rows.word_by_word.add_vectors.Given as goal

abbrev pub invariant-loop-i : goal.invariant-loop-i
invariant-loop-i g l =
    record {
      within : l.i ≤ length l.list;
      words : (before : List ℕ) → l.initial.out ≡ row_sum 65536 l.factor (take l.done l.list) before → l.out ≡ row_sum 65536 l.factor (take l.i l.list) before;
    }

abbrev pub decreases-loop-i : goal.decreases-loop-i
decreases-loop-i g l = length l.list - l.i
