use Rattle.std.proofs.Common.{◌≡◌, length, take, ◌∙◌, arith}
use Rattle.std.proofs.lemmas.List.{length-take-le}
use Rattle.scheme.proofs.Makings.{published}
use Rattle.scheme.proofs.making.make_public.Goals as goal

pub returns-clause-made : goal.returns-clause-made
returns-clause-made g c =
    let set = c.args.set in
    let front : length (take set.n c.digits_times.new.work) ≡ set.n = length-take-le set.n _ (omega (arith, set.length)) in
    published set.width set.n c.args.f.now c.args.g.now c.invert_modulo_q.new.fq c.digits_times.new.out c.phi1_times.new.out c.triple.new.out set.narrow (c.phi1_times.auto.out ∙ front)
    c.in_ok-invert_modulo_q.ensures.inverse c.digits_times.ensures.product c.phi1_times.ensures c.triple.ensures.small c.triple.ensures.tripled
