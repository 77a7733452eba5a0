use Rattle.std.proofs.Common.{◌≡◌, ◌-◌, ◌<◌, length, take, sym, ap, ◌∙◌, ⊎_elim, subst, ap₂, subst₂, arith}
use Rattle.std.proofs.lemmas.List.{length-take-le}
use Rattle.euclid.specs.Series.{Size, poly, polynomials}
use Rattle.euclid.proofs.Lists.{poly_take}
use Rattle.euclid.proofs.Sizes.{size_some, size_le, size_unique}
use Rattle.arithmetic.proofs.Fronts.{poly_ended}
use Rattle.arithmetic.proofs.division.divide.Goals as goal

pub reduce-requires-clause-divisor : goal.reduce-requires-clause-divisor
reduce-requires-clause-divisor g c =
    let m = g.F.Ring in
    let p = poly m.ring m.value in
    let b = c.args.divisor.now in
    let n = c.significant-size.result in
    subst₂ (λ i f. Size m.ring i f) (sym (length-take-le n b c.significant-size.ensures.within)) (sym (poly_take m.laws m.value b n c.significant-size.ensures.size.above)) c.significant-size.ensures.size

pub returns-clause-none_exactly_when_no_division : goal.returns-clause-none_exactly_when_no_division
returns-clause-none_exactly_when_no_division g c =
    let m = g.F.Ring in
    let some : 0 < c.significant-size.result = omega arith in
    ⊎_elim
    (λ e. size_some m.ring c.significant-size.result (poly m.ring m.value c.args.divisor.now) c.significant-size.ensures.size some e)
    (⊎_elim (λ (l : length c.args.quotient.now < length c.args.dividend.now). let z : ⊥ = omega arith in z) (λ (l : length c.args.remainder.now < length c.args.dividend.now). let z : ⊥ = omega arith in z))

pub returns-clause-quotient_and_remainder : goal.returns-clause-quotient_and_remainder
returns-clause-quotient_and_remainder g c =
    let m = g.F.Ring in
    let p = poly m.ring m.value in
    let b = c.args.divisor.now in
    let n = c.significant-size.result in
    let size = c.significant-size.ensures.size in
    let places : length (take n b) ≡ n = length-take-le n b c.significant-size.ensures.within in
    let front = poly_take m.laws m.value b n size.above in
    let whole = poly_ended m.ring m.value c.reduce.new.r c.clear.new.p c.clear.ensures.all_zeros in
    let short = size_le m.ring c.significant-2.result (n - 1) (p c.reduce.new.r) (subst (Size m.ring c.significant-2.result) whole c.significant-2.ensures.size) (λ k h. c.reduce.ensures.shorter k (omega (arith, places))) in
    record {
      whole = sym (ap p c.copy_from_slice.ensures.after) ∙ c.reduce.ensures.whole ∙ ap₂ (λ f r. (polynomials m.ring).plus ((polynomials m.ring).times (p c.reduce.new.q) f) r) front (sym whole);
      quotient = c.significant.ensures.size;
      remainder = c.significant-2.ensures.size;
      shorter = λ s t. let u = size_unique m.ring n s (p b) size t in omega arith;
    }
