-- Newton's steps over words, which are integers up to multiples of 65536.
use Rattle.std.proofs.Common.{◌≡◌, ℕ, ◌+◌, ◌-◌, ◌*◌, ◌%◌, ◌^◌, ◌<◌, ◌≤◌, ℤ, pos, ◌+ℤ◌, neg_ℤ, sym, refl, ap, ◌∙◌, mod-eq_of_lt, arith, pow-add}
use borrow.Author.Differences.{ints}
use Rattle.algebra.specs.Ring.{Differ, integers, cyclic, times_one, reduce, power}
use Rattle.algebra.specs.Polynomials.{Poly, times, SameMod, InverseMod, refine, refine_four}
use Rattle.algebra.specs.Theorems.{Inverses}
use Rattle.algebra.proofs.Derived.{mul_left, mul_o}
use Rattle.algebra.proofs.Integers.{mod_laws, equal_mod}
use Rattle.algebra.proofs.Naturals.{wrapped, congruent_in, congruent_out}
use Rattle.algebra.proofs.Cyclic.{cyclic_laws, power_at, power_off}
use Rattle.algebra.proofs.Phi.{reduced_laws, reduce_differs, reduce_same}
use Rattle.algebra.proofs.Polynomials.{divides_same, mod_phi}
use Rattle.algebra.proofs.Newton.{inverses_are, refined_cong}
use Rattle.algebra.proofs.Classes.{word_same}

-- the polynomial 2
pub two_first : (n : ℕ) → times_one (cyclic integers n) 2 0 ≡ pos 2
two_first n = ap (λ (z : ℤ). (pos 0 +ℤ z) +ℤ z) (power_at integers 0 0 refl)

pub two_later : (n k : ℕ) → 0 < k → times_one (cyclic integers n) 2 k ≡ pos 0
two_later n k h = ap (λ (z : ℤ). (pos 0 +ℤ z) +ℤ z) (power_off integers 0 k (λ e. omega arith))

-- a difference of words
pub word_less : (m a b : ℕ) → b ≤ m → Differ integers (pos m) (pos ((a + (m - b)) % m)) (pos a +ℤ neg_ℤ (pos b))
word_less m a b h = (mod_laws m).tr (congruent_out m ((a + (m - b)) % m) (a + (m - b)) (wrapped m (a + (m - b)))) (record { by = pos 1; is = omega (arith, ints) })

-- a word that is no more than a multiple of m is zero
pub word_zero : (m a : ℕ) → a < m → Differ integers (pos m) (pos a) (pos 0) → a ≡ 0
word_zero m a h d = sym (mod-eq_of_lt h) ∙ word_same m (omega arith) (pos a) (pos 0) d ∙ mod-eq_of_lt (omega arith)

module _ (m n : ℕ) where
  -- one step, by its parts
  pub step_is : (f u p q v : Poly) → SameMod m n p (times n f u) → SameMod m n q (λ k. times_one (cyclic integers n) 2 k +ℤ neg_ℤ (p k)) → SameMod m n v (times n q u) → SameMod m n v (refine n f u)
  step_is f u p q v a b c =
      let M = mod_laws m in
      let C = cyclic_laws M n in
      C.tr c (C.tr (C.mul_comm q u) (mul_left C u (C.tr b (record { at = λ k l. M.add_cong (M.rfl (times_one (cyclic integers n) 2 k)) (M.neg_cong (a.at k l)) }))))

  -- four steps, and the last coefficient taken from all
  pub four_steps : (f u u₁ u₂ u₃ u₄ v : Poly) → 0 < n → SameMod m n u₁ (refine n f u) → SameMod m n u₂ (refine n f u₁) → SameMod m n u₃ (refine n f u₂) → SameMod m n u₄ (refine n f u₃) →
      SameMod m n v (reduce integers n u₄) → SameMod m n v (reduce integers n (refine_four n f u))
  four_steps f u u₁ u₂ u₃ u₄ v some a b c d e =
      let M = mod_laws m in
      let C = cyclic_laws M n in
      let F : SameMod m n f f = C.rfl f in
      let b' = C.tr b (refined_cong M n F a) in
      let c' = C.tr c (refined_cong M n F b') in
      let d' = C.tr d (refined_cong M n F c') in
      C.tr e (record { at = λ k l. M.add_cong (d'.at k l) (M.neg_cong (d'.at (n - 1) (omega arith))) })

-- 2 ^ w divides 65536
pub width_divides : (w : ℕ) → w ≤ 16 → 2 ^ w * 2 ^ (16 - w) ≡ 65536
width_divides w few = let rest : w + (16 - w) ≡ 16 = omega arith in sym (pow-add 2 w (16 - w)) ∙ ap (λ (k : ℕ). 2 ^ k) rest

-- inverses modulo 2 and modulo 2 ^ w
pub inverses_at : (n w : ℕ) (f : Poly) → 1 ≤ w → w ≤ 16 → Inverses n (2 ^ w) f
inverses_at n w f one few =
    let half : w ≡ 1 + (w - 1) = omega arith in
    inverses_are n (2 ^ w) (2 ^ (w - 1)) (2 ^ (16 - w)) f (ap (λ (k : ℕ). 2 ^ k) half ∙ pow-add 2 1 (w - 1)) (width_divides w few)

-- the steps lead from an inverse modulo 2 to one modulo 2 ^ w
pub steps_invert : (n : ℕ) (f u v : Poly) → SameMod 65536 n v (reduce integers n (refine_four n f u)) → InverseMod 2 n f u → (w : ℕ) → 1 ≤ w → w ≤ 16 → InverseMod (2 ^ w) n f v
steps_invert n f u v s i w one few =
    let q = 2 ^ w in
    let P = reduced_laws (mod_laws q) n in
    P.tr
    (mul_left P f (P.tr (mod_phi q n (divides_same q (2 ^ (16 - w)) 65536 n (width_divides w few) s)) (P.sy (reduce_differs (mod_laws q) n (refine_four n f u)))))
    ((inverses_at n w f one few).made u i)

-- zero is no inverse
pub zero_inverts_nothing : (q n : ℕ) (f u : Poly) → 2 ≤ q → 2 ≤ n → SameMod q n u (λ k. pos 0) → InverseMod q n f u → ⊥
zero_inverts_nothing q n f u big long none i =
    let M = mod_laws q in
    let P = reduced_laws M n in
    let same = (reduce_same M n (P.tr (P.sy (P.tr (mul_left P f (mod_phi q n none)) (mul_o P f))) i)).at 0 (omega arith) in
    let first : reduce integers n (power integers 0) 0 ≡ pos 1 = rw (power_at integers 0 0 refl, power_off integers 0 (n - 1) (λ e. omega arith)) refl in
    let rem = (congruent_in q 0 1 (M.tr same (equal_mod q first))).rem in
    omega (arith, sym (mod-eq_of_lt big) ∙ sym rem)
