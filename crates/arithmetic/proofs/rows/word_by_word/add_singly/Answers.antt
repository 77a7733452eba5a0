use Rattle.std.proofs.Common.{refl, arith}
use native.Mathlib.Nat.{add-mod-mod}
use Rattle.arithmetic.specs.Rows.{row_sum}
use Rattle.arithmetic.proofs.RowSums.{row_sum_more}
use Rattle.arithmetic.proofs.rows.word_by_word.add_singly.Goals as goal

pub loop-i-init : goal.loop-i-init
unfolding row_sum
loop-i-init c = refl

pub loop-i-preserved : goal.loop-i-preserved
loop-i-preserved c =
    row_sum_more 65536 c.args.factor c.args.list.now c.args.out.now c.loop-i.out c.loop-i.i _ (omega arith) (omega arith) c.loop-i.invariant (add-mod-mod _ _ _)
