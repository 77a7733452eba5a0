use Rattle.std.proofs.Common.{◌≡◌, ℕ, ◌+◌, ◌*◌, ◌%◌, ◌≤◌, List, ◌++◌, length, take, replicate, sym, ap, ◌∙◌, ap₂, arith, take_all}
use lib.Lanes.{zip2, put_chunk}
use lib.LanesLaws.{put_is}
use Rattle.std.proofs.lemmas.List.{append-nil, drop_all}
use Rattle.arithmetic.specs.Rows.{row_sum}
use Rattle.arithmetic.proofs.RowSums.{lanes_sum, length_row_sum}
use Rattle.arithmetic.proofs.rows.word_by_word.add_lanes.Goals as goal

-- what is as long as the list is written over all of it
written : (xs ys : List ℕ) → length ys ≡ length xs → put_chunk 0 xs ys ≡ ys
written xs ys e =
    let h : 0 + length ys ≤ length xs = omega arith in
    put_is 0 xs ys h ∙ ap (λ t. ys ++ t) (drop_all (length ys) xs (omega arith)) ∙ append-nil ys

pub returns : goal.returns
returns g c =
    let f = c.args.factor in
    let xs = c.args.list.now in
    let ys = c.args.out.now in
    let n = g.row.N in
    let lx : length xs ≡ n = c.requires.list_fills_a_vector in
    let ly : length ys ≡ n = c.requires.output_fills_a_vector in
    let sums : zip2 (λ a b. (a + b) % 65536) ys (zip2 (λ a b. (a * b) % 65536) (replicate n f) xs) ≡ row_sum 65536 f xs ys =
    ap (λ (n : ℕ). zip2 (λ a b. (a + b) % 65536) ys (zip2 (λ a b. (a * b) % 65536) (replicate n f) xs)) (sym lx) ∙ lanes_sum 65536 f xs ys (omega arith) in
    let tx : take n xs ≡ xs = take_all n xs (omega arith) in
    let ty : take n ys ≡ ys = take_all n ys (omega arith) in
    record {
      words =
          ap₂ (λ (a b : List ℕ). put_chunk 0 ys (zip2 (λ a b. (a + b) % 65536) a (zip2 (λ a b. (a * b) % 65536) (replicate n f) b))) ty tx
          ∙ ap (λ (t : List ℕ). put_chunk 0 ys t) sums ∙ written ys (row_sum 65536 f xs ys) (length_row_sum 65536 f xs ys);
    }
