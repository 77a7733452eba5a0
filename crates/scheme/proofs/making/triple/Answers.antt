use Rattle.std.proofs.Common.{◌≡◌, ℕ, ◌*◌, ◌%◌, ◌^◌, get_or, ap, ◌∙◌, arith, pow_pos}
use Rattle.algebra.proofs.WordBits.{low_of_word}
use Rattle.algebra.proofs.WordLoops.{filled_more, scaled}
use Rattle.scheme.proofs.making.triple.Goals as goal

pub loop-i-preserved : goal.loop-i-preserved
loop-i-preserved c =
    let s = c.loop-i in
    let w = c.args.set.width in
    let xs = c.args.words.now in
    let x = get_or xs s.i 0 in
    let three : x * 3 ≡ 3 * x = omega arith in
    let low : c.low.result ≡ x * 3 % 65536 % 2 ^ w = rw c.bits-width.ensures at c.low.ensures in
    filled_more (λ k y. y ≡ 3 * get_or xs k 0 % 2 ^ w) 0 s.out s.i _ (omega arith)
    (low ∙ low_of_word w (x * 3) c.args.set.narrow ∙ ap (λ (a : ℕ). a % 2 ^ w) three) s.invariant

pub returns : goal.returns
returns c =
    let s = c.loop-i in
    let both = scaled (2 ^ c.args.set.width) 3 c.args.words.now s.out (pow_pos c.args.set.width) (omega arith) (λ k l. s.invariant k (omega arith)) in
    record { small = both.0; tripled = both.1 }
