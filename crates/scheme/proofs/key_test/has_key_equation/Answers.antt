use Rattle.std.proofs.Common.{◌≡◌, length, take, sym, ◌∙◌, arith}
use Rattle.std.proofs.lemmas.List.{length-take-le}
use Rattle.scheme.proofs.Working.{g_refused, g_told}
use Rattle.scheme.proofs.key_test.has_key_equation.Goals as goal

pub returns-then-is_some-clause-answer : goal.returns-then-is_some-clause-answer
returns-then-is_some-clause-answer g c =
    let set = c.args.set in
    let front : length (take set.n c.split_at_mut-hf_room.result.0.now) ≡ set.n = length-take-le set.n _ (omega (arith, set.length)) in
    let long = c.times_digits.auto.out ∙ front in
    g_told set.n set.width c.args.h.now c.times_digits.new.out c.divide_by_3_phi1.new.d c.args.f.now c.read_signs.new.out set.length.0 set.narrow c.requires.balanced
    long (c.divide_by_3_phi1.auto.d ∙ long) c.times_digits.ensures.product c.divide_by_3_phi1.ensures
    c.read_signs.result c.correlates.result (sym c.is_some.ensures ∙ c.if-is_some.true) c.read_signs.ensures (c.read_signs.auto.out ∙ c.requires.room.0) c.correlates.ensures

pub returns-else-is_some-clause-answer : goal.returns-else-is_some-clause-answer
returns-else-is_some-clause-answer g c =
    let set = c.args.set in
    let front : length (take set.n c.split_at_mut-hf_room.result.0.now) ≡ set.n = length-take-le set.n _ (omega (arith, set.length)) in
    let long = c.times_digits.auto.out ∙ front in
    g_refused set.n set.width c.args.h.now c.times_digits.new.out c.divide_by_3_phi1.new.d c.args.f.now c.read_signs.new.out set.length.0 set.narrow c.requires.balanced
    long (c.divide_by_3_phi1.auto.d ∙ long) c.times_digits.ensures.product c.divide_by_3_phi1.ensures
    c.read_signs.result c.is_some.result c.is_some.ensures c.if-is_some.false c.read_signs.ensures
