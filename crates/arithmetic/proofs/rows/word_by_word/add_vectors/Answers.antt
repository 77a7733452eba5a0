use Rattle.std.proofs.Common.{◌≡◌, ◌+◌, length, take, refl, ap, ◌∙◌, sym, arith}
use Rattle.arithmetic.proofs.RowSums.{part_more, length_row_sum}
use Rattle.arithmetic.proofs.rows.word_by_word.add_vectors.Goals as goal

pub loop-i-preserved : goal.loop-i-preserved
loop-i-preserved g c =
    let i = c.loop-i.i in
    let f = c.args.factor in
    let list = c.args.list.now in
    record {
      within = omega arith;
      words = λ before e.
          let places : length before ≡ length list = sym (length_row_sum 65536 f (take c.args.done list) before) ∙ ap length (sym e) ∙ c.requires.same_length in
          part_more 65536 f i (i + g.row.N) (i + g.row.N) list before c.loop-i.out c.add_lanes.new.out
          (omega arith) (omega arith) places refl (c.loop-i.invariant.words before e) c.add_lanes.ensures.words;
    }
