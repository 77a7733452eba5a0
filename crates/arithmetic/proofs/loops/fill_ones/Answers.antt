use Rattle.std.proofs.Common.{◌<◌, ◌≤◌, length, sym, ◌∙◌, ⊎_elim, arith}
use mathlib.Core.Path.{fun_ext}
use Rattle.std.proofs.lemmas.Bool.{cases_lt}
use Rattle.euclid.proofs.Lists.{poly_past}
use Rattle.euclid.proofs.Method.{phi_in, phi_below}
use Rattle.arithmetic.proofs.loops.fill_ones.Goals as goal

pub returns : goal.returns
returns g c = record {
  all_ones =
      let m = g.R.Ring in
      fun_ext (λ k. ⊎_elim
      (λ (l : k < length c.args.p.now). (c.fill.ensures.each k l ∙ c.one.ensures.is_unit) ∙ sym (phi_in m.laws (length c.args.p.now) k l))
      (λ (l : length c.args.p.now ≤ k). poly_past m.laws m.value c.fill.new.p k (omega arith) ∙ sym (phi_below m.laws (length c.args.p.now) k l))
      (cases_lt k (length c.args.p.now)));
}
