use Rattle.std.proofs.Common.{◌≡◌, ℕ, ◌-◌, List, ◌++◌, length, take, refl, ap, ◌∙◌, arith, rules}
use borrow.Rule.Slice.PartMut.{post_of}
use Rattle.std.proofs.lemmas.List.{places}
use Rattle.arithmetic.specs.Rows.{row_sum}
use Rattle.arithmetic.proofs.RowSums.{part_more, rest_more, length_row_sum}
use Rattle.arithmetic.proofs.rows.halving.add_halves.Goals as goal

none : (f : ℕ) (ys : List ℕ) → ys ≡ row_sum 65536 f (take 0 ys) ys
unfolding row_sum
none f ys = refl

pub returns : goal.returns
returns g c =
    let first = c.row.ensures.row_call.served (search (rules, places)) in
    let second = c.row-2.ensures.row_call.served (search (rules, places)) in
    let f = c.args.factor in
    let h = c.upper_half-h.result in
    let xs = c.args.list.now in
    let ys = c.args.out.now in
    let zs = c.row.new.out ++ post_of 0 (h - 0) ys in
    let lower : zs ≡ row_sum 65536 f (take h xs) ys =
    part_more 65536 f 0 h h xs ys ys c.row.new.out (omega arith) (omega arith) (omega arith) refl (none f ys) first.1 in
    let lz : length zs ≡ length xs = ap length lower ∙ length_row_sum 65536 f (take h xs) ys ∙ c.requires.same_length in
    record {
      served = second.0;
      words = rest_more 65536 f h xs ys zs c.row-2.new.out (omega arith) c.requires.same_length lz lower second.1;
      two_rows = omega (arith, first.2, second.2);
    }
