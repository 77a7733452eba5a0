use Rattle.std.proofs.Common.{refl, arith}
use Rattle.arithmetic.specs.Rows.{Serves}
use Rattle.arithmetic.proofs.Products.{product_meaning}
use Rattle.arithmetic.proofs.product.multiply.Goals as goal

pub returns : goal.returns
returns g c =
    let u = c.args.u.now in
    let v = c.args.v.now in
    let row : Serves u c.args.out.now = c.in_ok-check.ensures.served refl in
    let words = c.multiply_doubled.ensures.words v c.write_twice.ensures.twice in
    record {
      product = record {
        made = λ _. record {
          served = refl;
          words = words;
          meaning = product_meaning u v c.multiply_doubled.new.out words;
          twice = c.write_twice.ensures.twice;
          count = c.multiply_doubled.ensures.count;
        };
        refused = λ no. absurd (no (record { some = row.some; few = row.few; factors = omega arith; room = omega arith; result = row.same }));
      };
    }
