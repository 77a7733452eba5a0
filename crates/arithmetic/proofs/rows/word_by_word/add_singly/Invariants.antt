use Rattle.std.proofs.Common.{◌≡◌, take}
use Rattle.arithmetic.specs.Rows.{row_sum}
use Rattle.arithmetic.proofs.rows.word_by_word.add_singly.Given as goal

abbrev pub invariant-loop-i : goal.invariant-loop-i
invariant-loop-i l = l.out ≡ row_sum 65536 l.factor (take l.i l.list) l.initial.out
