use Rattle.std.proofs.Common.{◌≡◌, ℕ, ◌+◌, ◌%◌, get_or, pos, ◌+ℤ◌, neg_ℤ, ap, ◌∙◌, arith, ◌/◌}
use lib.IntN.{+ℤ_idl}
use Rattle.algebra.specs.Ring.{Differ, integers}
use Rattle.algebra.proofs.Integers.{mod_laws, equal_mod}
use Rattle.algebra.proofs.InPlace.{changed_more}
use Rattle.std.proofs.Math.Nat.{mod-add-div}
use borrow.Author.Differences.{ints}
use Rattle.arithmetic.proofs.newton.negate.Goals as goal

-- a word that makes another up to a multiple of m is minus that one
word_minus : (m r x : ℕ) → (r + x) % m ≡ 0 → Differ integers (pos m) (pos r) (pos 0 +ℤ neg_ℤ (pos x))
word_minus m r x h = let all = mod-add-div (r + x) m in record { by = pos ((r + x) / m); is = omega (arith, ints) }

pub loop-word-preserved : goal.loop-word-preserved
loop-word-preserved c =
    let old = c.args.p.now in
    let p = c.loop-word.p in
    let k = c.loop-word.word-index in
    let kept : get_or p k 0 ≡ get_or old k 0 = c.loop-word.invariant.1 k (omega arith) in
    let less : pos 0 +ℤ neg_ℤ (pos (get_or p k 0)) ≡ neg_ℤ (pos (get_or old k 0)) = ap (λ (w : ℕ). pos 0 +ℤ neg_ℤ (pos w)) kept ∙ +ℤ_idl (neg_ℤ (pos (get_or old k 0))) in
    changed_more (λ i w. Differ integers (pos 65536) (pos w) (neg_ℤ (pos (get_or old i 0)))) old p k c.wrapping_neg.result (omega arith)
    ((mod_laws 65536).tr (word_minus 65536 c.wrapping_neg.result (get_or p k 0) c.wrapping_neg.ensures) (equal_mod 65536 less)) c.loop-word.invariant
