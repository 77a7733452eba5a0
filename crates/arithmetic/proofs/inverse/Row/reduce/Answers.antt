use Rattle.std.proofs.Common.{◌≡◌, ◌+◌, ◌-◌, ◌<◌, ◌≤◌, length, take, get_or, sym, refl, ap, ◌∙◌, subst, arith}
use Rattle.std.proofs.lemmas.List.{get_or_default}
use Rattle.euclid.specs.Series.{Size, monomial, poly, polynomials}
use Rattle.euclid.proofs.Lists.{poly_at, poly_take, top_undone}
use Rattle.euclid.proofs.Sizes.{size_le}
use Rattle.euclid.proofs.Dividing.{step_both, taken_none}
use Rattle.arithmetic.proofs.inverse.Row.reduce.Goals as goal

pub loop-size-init : goal.loop-size-init
loop-size-init g c =
    let m = g.F.Ring in
    let p = poly m.ring m.value in
    (omega arith, refl, refl, c.requires.dividend, taken_none m.laws (c.args.self.now.size + 1 - c.args.by.now.size) (p c.args.self.now.rest.now) (p c.args.by.now.rest.now) (p c.args.self.now.factor.now) (p c.args.by.now.factor.now))

pub loop-size-preserved : goal.loop-size-preserved
loop-size-preserved g c =
    let F = g.F.Ring in
    let o = F.ring in
    let p = poly o F.value in
    let O = polynomials o in
    let n = c.loop-size.size in
    let m = c.args.by.now.size in
    let s = c.args.by.now.rest.now in
    let v = c.args.by.now.factor.now in
    let inv = c.loop-size.invariant in
    let factor = F.value c.negation-c.result in
    let x = F.value c.product.result in
    let lead = F.value c.inverse-lead.result in
    let long = c.row_places-in-loop-size.result in
    let wide = c.row_places.result in
    let r₂ = c.take_top-size.new.r in
    let t₂ = c.add_shifted.new.r in
    let in_r : n - 1 < length c.loop-size.self.rest.now = omega (arith, inv.0, inv.1, c.requires.sizes) in
    let in_s : m ≤ length s = omega (arith, c.requires.lengths, c.requires.sizes) in
    let undone = top_undone F.laws F.value s m (get_or s (m - 1) c.index-by-by.result) c.inverse-lead.result c.requires.sizes.0 in_s c.requires.divisor (get_or_default s (m - 1) _ _ (omega (arith, c.requires.sizes))) c.inverse-lead.ensures.undoes in
    let read : x ≡ o.times (p c.loop-size.self.rest.now (n - 1)) lead =
    c.product.ensures.multiplies ∙ ap (λ w. o.times w lead) (sym (poly_at F.laws F.value c.loop-size.self.rest.now (n - 1) c.index-self-size.result in_r)) in
    let front_s : p (take long s) ≡ p s = poly_take F.laws F.value s long (λ i h. c.requires.divisor.above i (omega (arith, c.row_places-in-loop-size.ensures.enough))) in
    let front_v : p (take wide v) ≡ p v = poly_take F.laws F.value v wide (λ i h. c.requires.bound i (omega (arith, c.row_places.ensures.enough))) in
    let both =
    step_both F.laws (c.args.self.now.size + 1 - m) (p c.args.self.now.rest.now) (p s) (p c.args.self.now.factor.now) (p v) (p c.loop-size.self.rest.now) (p c.loop-size.self.factor.now) (p r₂) (p t₂) x lead factor (n - m) m n
    c.requires.sizes.0 (omega arith) (omega (arith, inv.0, c.requires.sizes)) inv.3.above c.requires.divisor.above read undone c.negation-c.ensures.negates inv.4
    (c.take_top-size.ensures.added ∙ ap (λ f. O.plus (p c.loop-size.self.rest.now) (O.times (monomial o factor (n - m)) f)) front_s)
    (c.add_shifted.ensures.added ∙ ap (λ f. O.plus (p c.loop-size.self.factor.now) (O.times (monomial o factor (n - m)) f)) front_v) in
    let size : Size o c.take_top-size.result (p r₂) =
    subst (Size o c.take_top-size.result) (poly_take F.laws F.value r₂ (n - 1) both.0) c.take_top-size.ensures.left in
    let le = size_le o c.take_top-size.result (n - 1) (p r₂) size both.0 in
    (omega (arith, inv.0), omega (arith, inv.1), omega (arith, inv.2), size, both.1)
