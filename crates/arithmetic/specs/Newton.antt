-- Inverses modulo powers of two and 1 + x + .. + x^(n-1), from inverses modulo 2.
use Rattle.std.specs.Prelude.{◌≡◌, ℕ, ◌-◌, ◌^◌, ◌≤◌, List, map, length, ◌+ℤ◌, neg_ℤ, slice_index_or}
use Rattle.std.specs.List.{range_with_len}
use Rattle.algebra.specs.Ring.{cyclic, integers, reduce, times_one}
use Rattle.algebra.specs.Polynomials.{Poly, InverseMod, as_word, refine_four}
use Rattle.arithmetic.specs.Products.{integers_of}

-- the first n coefficients of a polynomial over the integers, modulo 65536
unfoldable pub words_of : ℕ → Poly → List ℕ
words_of n u = map (λ k. as_word 65536 (u k)) (range_with_len 0 n)

-- 2 - p
abbrev pub two_less : ℕ → Poly → Poly
two_less n p k = times_one (cyclic integers n) 2 k +ℤ neg_ℤ (p k)

-- what four steps of Newton's method on u, an approximate inverse of f, leave: u (2 - f u), four times over, without its last coefficient.
-- Where u was an inverse modulo 2, that is one modulo every power of two up to 65536
pub record Lifted (f u u' : List ℕ) : Type 0 where
  pub words : u' ≡ words_of (length f) (reduce integers (length f) (refine_four (length f) (integers_of f) (integers_of u)))
  pub last : slice_index_or u' (length f - 1) 0 ≡ 0
  pub inverse : InverseMod 2 (length f) (integers_of f) (integers_of u) → (w : ℕ) → 1 ≤ w → w ≤ 16 → InverseMod (2 ^ w) (length f) (integers_of f) (integers_of u')
