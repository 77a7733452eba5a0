use Rattle.std.proofs.Common.{length, refl, arith}
use Rattle.std.proofs.lemmas.List.{length-take-le}
use Rattle.arithmetic.specs.Products.{integers_of}
use Rattle.arithmetic.specs.WordInverses.{Taken}
use Rattle.arithmetic.proofs.Finding.{none_at, sized, found}
use Rattle.arithmetic.proofs.word_inverse.inverse_of_words.Goals as goal

pub returns-in_err-start : goal.returns-in_err-start
returns-in_err-start g c = record {
  none_exactly_when_none_serves =
      rw c.from_residual.ensures
      ((λ t. none_at c.args.width (length c.args.f.now) (integers_of c.args.f.now) t.some t.narrow c.in_err-start.ensures.inverse_or_none), refl, refl);
}

pub overflow_sub-result : goal.overflow_sub-result
overflow_sub-result g c =
    let t : Taken c.args.width c.args.f.now c.args.inverse.now = record { some = omega arith; narrow = omega arith; long = omega arith; few = omega arith; room = omega arith } in
    sized c.args.width c.args.f.now c.start.new.u c.lift_inverse.new.u c.args.inverse.now t c.in_ok-start.ensures.inverse_or_none c.lift_inverse.ensures.lifted
    c.mask_into.new.out (omega arith) (λ k l. c.mask_into.ensures k (omega (arith, length-take-le (length c.args.f.now) c.new-room.result.words (omega arith)))) c.significant.result c.significant.ensures.within c.significant.ensures.size

pub returns : goal.returns
returns g c =
    let t : Taken c.args.width c.args.f.now c.args.inverse.now = record { some = omega arith; narrow = omega arith; long = omega arith; few = omega arith; room = omega arith } in
    record {
      none_exactly_when_none_serves = (
        t,
        found c.args.width c.args.f.now c.start.new.u c.lift_inverse.new.u c.args.inverse.now t c.in_ok-start.ensures.inverse_or_none c.lift_inverse.ensures.lifted
            c.mask_into.new.out (omega arith) (λ k l. c.mask_into.ensures k (omega (arith, length-take-le (length c.args.f.now) c.new-room.result.words (omega arith)))) c.significant.result c.significant.ensures.within c.significant.ensures.size,
        c.lift_inverse.ensures.count,
      );
    }
