use Rattle.std.proofs.Common.{length, get_or, ◌-◌, refl, arith}
use Rattle.std.proofs.lemmas.List.{get_or_default}
use Rattle.euclid.specs.Series.{poly}
use Rattle.euclid.proofs.Lists.{top_undone}
use Rattle.euclid.proofs.Ending.{ended_none, ended_one}
use Rattle.arithmetic.proofs.inverse.Row.conclude.Goals as goal

pub returns-then-self-gt1 : goal.returns-then-self-gt1
returns-then-self-gt1 g c = record {
  concluded = λ a E.
      let F = g.F.Ring in
      let p = poly F.ring F.value in
      let r = c.args.self.now.rest.now in
      let R = E.2 in
      let undone = top_undone F.laws F.value r c.args.self.now.size (get_or r (c.args.self.now.size - 1) c.index-self-self.result) c.inverse-lead.result R.some R.most R.size (get_or_default r (c.args.self.now.size - 1) _ _ (omega (arith, R.some, R.most))) c.inverse-lead.ensures.undoes in
      (ended_none F.laws (length r) a (p r) (p c.args.self.now.factor.now) c.args.self.now.size (F.value c.inverse-lead.result) c.if-self-gt1.true undone E, refl);
}

pub overflow_sub-result : goal.overflow_sub-result
overflow_sub-result g c =
    let F = g.F.Ring in
    let p = poly F.ring F.value in
    let r = c.args.self.now.rest.now in
    let E = c.requires.ended.1 in
    let R = E.2 in
    let undone = top_undone F.laws F.value r c.args.self.now.size (get_or r (c.args.self.now.size - 1) c.index-self-self.result) c.inverse-lead.result R.some R.most R.size (get_or_default r (c.args.self.now.size - 1) _ _ (omega (arith, R.some, R.most))) c.inverse-lead.ensures.undoes in
    (ended_one F.laws (length r) c.requires.ended.0 (p r) (p c.args.self.now.factor.now) (p c.scale_into.new.out) c.args.self.now.size c.significant.result (F.value c.inverse-lead.result) (omega (arith, c.requires.lengths)) c.if-self-gt1.false undone E c.scale_into.ensures.scaled c.significant.ensures.size).0

pub returns : goal.returns
returns g c = record {
  concluded = λ a E.
      let F = g.F.Ring in
      let p = poly F.ring F.value in
      let r = c.args.self.now.rest.now in
      let R = E.2 in
      let undone = top_undone F.laws F.value r c.args.self.now.size (get_or r (c.args.self.now.size - 1) c.index-self-self.result) c.inverse-lead.result R.some R.most R.size (get_or_default r (c.args.self.now.size - 1) _ _ (omega (arith, R.some, R.most))) c.inverse-lead.ensures.undoes in
      (ended_one F.laws (length r) a (p r) (p c.args.self.now.factor.now) (p c.scale_into.new.out) c.args.self.now.size c.significant.result (F.value c.inverse-lead.result) (omega (arith, c.requires.lengths)) c.if-self-gt1.false undone E c.scale_into.ensures.scaled c.significant.ensures.size).1;
}
