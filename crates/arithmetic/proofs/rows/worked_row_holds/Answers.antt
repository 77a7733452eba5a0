use Rattle.std.proofs.Common.{refl, lit≤}
use Rattle.arithmetic.specs.Rows.{row_sum}
use Rattle.arithmetic.proofs.rows.worked_row_holds.Goals as goal

pub returns : goal.returns
unfolding row_sum
returns c = record {
  worked_row = λ rows rows' answer out' call. let done = call.served (record { some = lit≤ tt; few = lit≤ tt; same = refl }) in (done.0, done.1);
}
