use Rattle.std.proofs.Common.{◌≡◌, length, refl, arith}
use Rattle.scheme.proofs.CoinDigits.{draw_all}
use Rattle.scheme.proofs.coins.draw.Goals as goal

pub returns : goal.returns
returns c =
    let s = c.loop-i in
    let cs = c.args.coins.now in
    let e : s.i ≡ length cs = omega arith in
    draw_all (length cs) cs s.out _ (omega arith) (omega arith) refl (rw e at s.invariant)
