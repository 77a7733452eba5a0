use Rattle.std.proofs.Common.{◌≡◌, length, take, ◌∙◌, arith}
use Rattle.std.proofs.lemmas.List.{length-take-le}
use Rattle.scheme.specs.declared.refusal.Refusal.TheVariants.{NoPair}
use Rattle.scheme.proofs.OkOr.{ok_or_cases}
use Rattle.scheme.proofs.Working.{r_found}
use Rattle.scheme.proofs.opening.find_r.Goals as goal

pub returns-clause-factor : goal.returns-clause-factor
returns-clause-factor g c =
    let set = c.args.set in
    let front : length (take set.n c.split_at_mut-room.result.0.now) ≡ set.n = length-take-le set.n _ (omega (arith, set.length)) in
    ok_or_cases _ _ NoPair c.read_reduced.result c.ok_or.ensures.value
    (r_found set.n set.width c.args.c.now c.args.hq.now c.lift.new.out c.subtract_words.new.u c.product.new.out c.args.m.now c.read_reduced.new.out set.length.0 set.narrow
    c.requires.words.0 (c.product.auto.out ∙ c.lift.auto.out ∙ front)
    c.lift.ensures c.subtract_words.ensures c.product.ensures.product c.read_reduced.result c.read_reduced.ensures)
