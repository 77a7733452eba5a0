use Rattle.std.proofs.Common.{◌+◌, ◌-◌, ◌*◌, ◌%◌, ◌≤◌, get_or, pos, refl, arith}
use Rattle.algebra.proofs.WordInverses.{word_less}
use Rattle.algebra.proofs.WordLoops.{rest_none, divided_more, word_times}
use Rattle.scheme.proofs.equation.divide_by_3_phi1.Goals as goal

pub loop-word-init : goal.loop-word-init
loop-word-init c = (rest_none 65536 (λ k. pos (get_or c.args.d.now k 0)), ((λ k l. absurd (omega arith)), λ k l. refl))

pub loop-word-preserved : goal.loop-word-preserved
loop-word-preserved c =
    let s = c.loop-word in
    let a = get_or s.d s.word-index 0 in
    let r = (s.rest + (65536 - a)) % 65536 in
    let fits : a ≤ 65536 = omega arith in
    divided_more 65536 43691 c.args.d.now s.d s.rest s.word-index r (r * 43691 % 65536) (omega arith) (word_less 65536 s.rest a fits) (word_times 65536 r 43691) s.invariant
