use Rattle.std.proofs.Common.{◌≡◌, ℕ, ◌%◌, length, ap, ◌∙◌, arith, rules}
use Rattle.std.proofs.lemmas.List.{places}
use Rattle.algebra.specs.Ring.{sum_by}
use Rattle.arithmetic.specs.Rows.{raised}
use Rattle.arithmetic.proofs.Products.{partial, partial_more, product_all}
use Rattle.arithmetic.proofs.product.multiply_doubled.Goals as goal

pub loop-j-init : goal.loop-j-init
unfolding sum_by
loop-j-init g c = ((λ k l. search (rules, places)), omega (arith, g.met.U.RowUnit.top c.args.unit.now))

pub loop-j-preserved : goal.loop-j-preserved
loop-j-preserved g c =
    let u = c.args.u.now in
    let done = c.row.ensures.row_call.served (search (rules, places)) in (
      partial_more u c.args.doubled.now c.loop-j.out c.row.new.out c.loop-j.j c.requires.room (omega arith) (omega arith) done.1 c.loop-j.invariant.0,
      omega (arith, done.2),
    )

pub returns : goal.returns
returns g c =
    let u = c.args.u.now in
    let d = c.args.doubled.now in
    let end : c.loop-j.j ≡ length u = omega arith in
    record {
      words = λ v. product_all u d c.loop-j.out v c.requires.room (omega arith) (λ k l. c.loop-j.invariant.0 k l ∙ ap (λ (j : ℕ). partial u d k j % 65536) end);
      count = c.loop-j.invariant.1 ∙ ap (λ (j : ℕ). raised j (g.U.RowUnit.rows c.args.unit.now)) end;
    }
