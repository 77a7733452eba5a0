use Rattle.std.proofs.Common.{◌≡◌, suc, ◌-◌, ◌<◌, ◌≢◌, length, set, sym, ap, ◌∙◌, ap₂, arith}
use Rattle.euclid.specs.Series.{poly, polynomials, monomial}
use Rattle.euclid.proofs.Algebra.{nought_times, nought_plus}
use Rattle.euclid.proofs.Product.{polynomial_laws}
use Rattle.euclid.proofs.Lists.{poly_past, poly_read, poly_set, poly_set_other}
use Rattle.euclid.proofs.Dividing.{below_more, moved}
use Rattle.arithmetic.proofs.division.reduce.Goals as goal

pub loop-left-init : goal.loop-left-init
loop-left-init g c =
    let m = g.F.Ring in
    let P = polynomials m.ring in
    let PL = polynomial_laws m.laws in
    let d = poly m.ring m.value c.args.d.now in
    let r = poly m.ring m.value c.args.r.now in
    record {
      within = omega arith;
      whole = sym (ap (λ q. P.plus (P.times q d) r) c.requires.blank ∙ ap (λ w. P.plus w r) (nought_times PL d) ∙ nought_plus PL r);
      shorter = λ k h. poly_past m.laws m.value c.args.r.now k (omega arith);
      blank = λ k h. ap (λ q. q k) c.requires.blank;
    }

pub loop-left-preserved : goal.loop-left-preserved
loop-left-preserved g c =
    let m = g.F.Ring in
    let o = m.ring in
    let p = poly o m.value in
    let i = c.loop-left.left in
    let size = length c.args.d.now in
    let s = i - size in
    let x = m.value c.product-c.result in
    let lead = m.value c.inverse-lead.result in
    let inv = c.loop-left.invariant in
    let top : size - 1 < size = omega arith in
    let size_is : size ≡ suc (size - 1) = omega arith in
    let in_r : i - 1 < length c.loop-left.r = omega arith in
    let in_q : s < length c.loop-left.q = omega arith in
    let there = poly_read m.laws m.value c.args.d.now (size - 1) c.index-d-top.result top c.index-d-top.is in
    let undone : o.times (p c.args.d.now (size - 1)) lead ≡ o.unit =
    ap (λ w. o.times w lead) (sym there) ∙ c.inverse-lead.ensures.undoes (λ z. c.requires.divisor.top (size - 1) size_is (sym there ∙ z)) in
    let factor : x ≡ o.times (p c.loop-left.r (i - 1)) lead =
    c.product-c.ensures.multiplies ∙ ap (λ w. o.times w lead) (poly_read m.laws m.value c.loop-left.r (i - 1) c.index-r-left.result in_r c.index-r-left.is) in
    let written : p (set c.loop-left.q s c.product-c.result) ≡ (polynomials o).plus (p c.loop-left.q) (monomial o x s) =
    poly_set m.laws m.value c.loop-left.q s c.product-c.result x in_q (sym (ap (λ w. o.plus w x) (inv.blank s (omega arith)) ∙ nought_plus m.laws x)) in
    let added : p c.add_shifted.new.r ≡ (polynomials o).plus (p c.loop-left.r) ((polynomials o).times (monomial o (o.minus x) s) (p c.args.d.now)) =
    c.add_shifted.ensures.added ∙ ap (λ w. (polynomials o).plus (p c.loop-left.r) ((polynomials o).times (monomial o w s) (p c.args.d.now))) c.negation.ensures.negates in
    record {
      within = omega arith;
      whole =
          moved m.laws (p c.args.r.now) (p c.args.d.now) (p c.loop-left.q) (p c.loop-left.r) x s inv.whole
          ∙ sym (ap₂ (λ q r. (polynomials o).plus ((polynomials o).times q (p c.args.d.now)) r) written added);
      shorter = λ k h. ap (λ f. f k) added ∙ below_more m.laws (p c.loop-left.r) (p c.args.d.now) x lead s size i c.requires.some (omega arith) (λ j l. inv.shorter j (omega arith)) c.requires.divisor.above factor undone k (omega arith);
      blank = λ k h. let ne : k ≢ s = omega arith in poly_set_other m.laws m.value c.loop-left.q s k c.product-c.result ne ∙ inv.blank k (omega arith);
    }
