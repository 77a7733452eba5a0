use Rattle.std.proofs.Common.{refl, arith}
use Rattle.euclid.proofs.Steps.{written_more}
use Rattle.arithmetic.proofs.loops.fill.Goals as goal

pub loop-c-preserved : goal.loop-c-preserved
loop-c-preserved g c =
    let m = g.R.Ring in
    written_more m.laws m.value (λ _. m.value c.args.value) c.loop-c.p c.loop-c.c-index c.args.value (omega arith) refl c.loop-c.invariant
