-- The coefficients of (x - 1) u v are small, for ternary u and v, where v does not correlate negatively; so are those of the sum that opening meets.
use Rattle.std.proofs.Common.{◌≡◌, ℕ, zero, suc, ◌+◌, ◌-◌, ◌*◌, ◌%◌, ◌<◌, ◌≤◌, [], ◌∷◌, ℤ, pos, negsuc, ◌+ℤ◌, ◌*ℤ◌, neg_ℤ, nat_abs, ◌≤ℤ◌, sym, refl, ap, ◌∙◌, subst, ap₂, mul-le-mul, arith}
use native.Mathlib.Decide.{dec_lt}
use borrow.Author.Differences.{ints}
use Rattle.algebra.specs.Ring.{Ops, Laws, integers, sum, back, conv, phi1, times_one}
use Rattle.algebra.specs.Ternary.{Ternary, Ternary+}
use Rattle.algebra.specs.Polynomials.{Poly, times, Φ1}
use Rattle.algebra.specs.Scheme.{combination}
use Rattle.algebra.proofs.Derived.{eqv, mul_left, mul_right, mul_o, o_mul, add_left, add_right, o_add}
use Rattle.algebra.proofs.Solver.{x, one, nat, ◌⊞◌, ◌⊠◌, ◌⊟◌, minus, ring}
use Rattle.algebra.proofs.Integers.{integer_laws}
use Rattle.algebra.proofs.Sums.{sum_cong, sum_more, sum_first, sum_back, sum_rotate, sum_three}
use Rattle.algebra.proofs.Indices.{back_first, back_next}
use Rattle.algebra.proofs.Cyclic.{conv_is, cyclic_laws}
use Rattle.algebra.proofs.Phi.{phi1_mul}
use Rattle.algebra.proofs.Order.{cauchy_schwarz, sum_up, sum_count, square_up, mul_le}

module _ {R : Ops} (L : Laws R) (n : ℕ) where
  infixr 30 ◌⨾◌
  infixl 60 ◌⊕◌
  infixl 70 ◌⊗◌
  infix 40 ◌≈◌
  open R use {El, same as ◌≈◌, o, e, add as ◌⊕◌, mul as ◌⊗◌, neg}
  open L use {tr, add_cong, mul_cong, add_o}

  ◌⨾◌ : {a b c : El} → a ≈ b → b ≈ c → a ≈ c
  p ⨾ q = tr p q

  -- the squares of (x - 1) v sum up to twice those of v, less twice the products of neighbours
  pub phi1_squares : (v : ℕ → El) →
      sum R n (λ k. conv R n (phi1 R n) v k ⊗ conv R n (phi1 R n) v k)
      ≈ times_one R 2 ⊗ sum R n (λ k. v k ⊗ v k) ⊕ neg (times_one R 2 ⊗ sum R n (λ k. v (back n k (1 % n)) ⊗ v k))
  phi1_squares v =
      let V = sum R n (λ k. v k ⊗ v k) in
      let G = sum R n (λ k. v (back n k (1 % n)) ⊗ v k) in
      let s = λ (k : ℕ). v (back n k (1 % n)) in
      sum_cong L n (λ k l. mul_cong (phi1_mul L n v k l) (phi1_mul L n v k l)
      ⨾ ring L (s k ∷ v k ∷ []) ((x 0 ⊟ x 1) ⊠ (x 0 ⊟ x 1)) (one ⊠ (x 0 ⊠ x 0) ⊞ one ⊠ (x 1 ⊠ x 1) ⊞ minus (nat 2) ⊠ (x 0 ⊠ x 1)) tt)
      ⨾ sum_three L n e e (neg (times_one R 2)) (λ k. s k ⊗ s k) (λ k. v k ⊗ v k) (λ k. s k ⊗ v k)
      ⨾ add_right L (neg (times_one R 2) ⊗ G) (add_right L (e ⊗ V) (mul_left L e (sum_rotate L n (n - 1 % n) (λ y. v y ⊗ v y))))
      ⨾ ring L (V ∷ G ∷ []) (one ⊠ x 0 ⊞ one ⊠ x 0 ⊞ minus (nat 2) ⊠ x 1) (nat 2 ⊠ x 0 ⊟ nat 2 ⊠ x 1) tt

  -- round the end: the products of neighbours where the last coefficient is zero
  pub neighbours : (m : ℕ) → n ≡ suc (suc m) → (v : ℕ → El) → v (suc m) ≈ o → sum R n (λ k. v (back n k (1 % n)) ⊗ v k) ≈ sum R m (λ k. v k ⊗ v (suc k))
  neighbours m p v z =
      let g = λ (k : ℕ). v (back n k (1 % n)) ⊗ v k in
      eqv L (ap (λ y. sum R y g) p)
      ⨾ sum_first L (suc m) g
      ⨾ add_cong
      (mul_right L (v 0) (eqv L (ap v first) ⨾ z) ⨾ o_mul L (v 0))
      (sum_cong L (suc m) (λ k l. mul_right L (v (suc k)) (eqv L (ap v (later k l)))) ⨾ sum_more L m (λ k. v k ⊗ v (suc k))
      ⨾ add_left L (sum R m (λ k. v k ⊗ v (suc k))) (mul_left L (v m) z ⨾ mul_o L (v m)) ⨾ add_o (sum R m (λ k. v k ⊗ v (suc k))))
      ⨾ o_add L (sum R m (λ k. v k ⊗ v (suc k)))
    where
      first : back n 0 (1 % n) ≡ suc m
      first = back_first n (omega arith) ∙ omega arith

      later : (k : ℕ) → k < suc m → back n (suc k) (1 % n) ≡ k
      later k l = back_next n (omega arith) k (omega arith)

small_square : (a : ℤ) → nat_abs a ≤ 1 → (a *ℤ a) ≤ℤ pos 1
small_square (pos zero) h = omega (arith, ints)
small_square (pos (suc zero)) h = omega (arith, ints)
small_square (pos (suc (suc n))) h = absurd (omega arith)
small_square (negsuc zero) h = omega (arith, ints)
small_square (negsuc (suc n)) h = absurd (omega arith)

-- the squares of a ternary polynomial
squares : (n : ℕ) (u : ℕ → ℤ) → 0 < n → Ternary n u → sum integers n (λ k. u k *ℤ u k) ≤ℤ pos (n - 1)
squares zero u l t = absurd (omega arith)
squares (suc n) u l t =
    let e : suc n - 1 ≡ n = omega arith in
    let z : u n ≡ pos 0 = ap u (sym e) ∙ t.last in
    let m : sum integers (suc n) (λ k. u k *ℤ u k) ≡ sum integers n (λ k. u k *ℤ u k) +ℤ u n *ℤ u n = sum_more integer_laws n (λ k. u k *ℤ u k) in
    let s : sum integers n (λ k. u k *ℤ u k) ≤ℤ pos n = sum_count n (λ k. u k *ℤ u k) (λ k b. small_square (u k) (t.digit k (omega arith))) in
    let w : u n *ℤ u n ≡ pos 0 = ap₂ ◌*ℤ◌ z z in
    let all : sum integers (suc n) (λ k. u k *ℤ u k) ≤ℤ pos n = omega (arith, ints, m, s, w) in
    subst (λ (y : ℕ). sum integers (suc n) (λ k. u k *ℤ u k) ≤ℤ pos y) (sym e) all

module _ (n : ℕ) (big : 2 ≤ n) where
  phi_squares : (v : ℕ → ℤ) → Ternary+ n v → sum integers n (λ k. conv integers n (phi1 integers n) v k *ℤ conv integers n (phi1 integers n) v k) ≤ℤ pos (2 * (n - 1))
  phi_squares v t =
      let p : n ≡ suc (suc (n - 2)) = omega arith in
      let q : suc (n - 2) ≡ n - 1 = omega arith in
      let G = neighbours integer_laws n (n - 2) p v (ap v q ∙ t.ternary.last) in
      let c = t.correlates in
      let s = squares n v (omega arith) t.ternary in
      let e = phi1_squares integer_laws n v in
      bounded (sum integers n (λ k. v k *ℤ v k)) (sum integers n (λ k. v (back n k (1 % n)) *ℤ v k))
      (sum integers n (λ k. conv integers n (phi1 integers n) v k *ℤ conv integers n (phi1 integers n) v k)) e (subst (λ z. pos 0 ≤ℤ z) (sym G) c) s
    where
      bounded : (V G W : ℤ) → W ≡ pos 2 *ℤ V +ℤ neg_ℤ (pos 2 *ℤ G) → pos 0 ≤ℤ G → V ≤ℤ pos (n - 1) → W ≤ℤ pos (2 * (n - 1))
      bounded V G W e g v = omega (arith, ints)

  pub small_product : (u v : ℕ → ℤ) → Ternary n u → Ternary+ n v → (k : ℕ) → k < n →
      (conv integers n (phi1 integers n) (conv integers n u v) k *ℤ conv integers n (phi1 integers n) (conv integers n u v) k) ≤ℤ pos ((n - 1) * (2 * (n - 1)))
  small_product u v t s k l =
      let w = conv integers n (phi1 integers n) v in
      let X = conv integers n (phi1 integers n) (conv integers n u v) k in
      let moved : X ≡ conv integers n u w k = (ring (cyclic_laws integer_laws n) (phi1 integers n ∷ u ∷ v ∷ []) (x 0 ⊠ (x 1 ⊠ x 2)) (x 1 ⊠ (x 0 ⊠ x 2)) tt).at k l in
      let is : X ≡ sum integers n (λ j. u j *ℤ w (back n k j)) = moved ∙ conv_is integer_laws n u w k in
      let cs = cauchy_schwarz n u (λ j. w (back n k j)) in
      let turned : sum integers n (λ j. w (back n k j) *ℤ w (back n k j)) ≡ sum integers n (λ j. w j *ℤ w j) = sum_back integer_laws n k (λ j. w j *ℤ w j) in
      let U = sum integers n (λ j. u j *ℤ u j) in
      let W = sum integers n (λ j. w j *ℤ w j) in
      let m : (U *ℤ W) ≤ℤ pos ((n - 1) * (2 * (n - 1))) =
      mul_le U W (n - 1) (2 * (n - 1)) (sum_up n (λ j. u j *ℤ u j) (λ j b. square_up (u j))) (squares n u (omega arith) t)
      (sum_up n (λ j. w j *ℤ w j) (λ j b. square_up (w j))) (phi_squares v s) in
      chain (X *ℤ X) (U *ℤ W) ((n - 1) * (2 * (n - 1)))
      (subst (λ z. (z *ℤ z) ≤ℤ (U *ℤ W)) (sym is) (subst (λ z. (sum integers n (λ j. u j *ℤ w (back n k j)) *ℤ sum integers n (λ j. u j *ℤ w (back n k j))) ≤ℤ (U *ℤ z)) turned cs)) m
    where
      chain : (a b : ℤ) (c : ℕ) → a ≤ℤ b → b ≤ℤ pos c → a ≤ℤ pos c
      chain a b c p q = omega (arith, ints)

-- ---- the sum that opening meets
square_abs : (z : ℤ) → z *ℤ z ≡ pos (nat_abs z * nat_abs z)
square_abs (pos n) = refl
square_abs (negsuc n) = refl

-- from squares to sizes
root : (q B : ℕ) (z : ℤ) → (z *ℤ z) ≤ℤ pos (16 * B) → 64 * B < q * q → nat_abs z + nat_abs z < q
root q B z h w = by (dec_lt (nat_abs z + nat_abs z) q)
  where
    by : Dec (nat_abs z + nat_abs z < q) → nat_abs z + nat_abs z < q
    by (yes l) = l
    by (no l) =
        let p : q ≤ nat_abs z + nat_abs z = omega arith in
        let m : q * q ≤ (nat_abs z + nat_abs z) * (nat_abs z + nat_abs z) = mul-le-mul p p in
        let s : pos (nat_abs z * nat_abs z) ≤ℤ pos (16 * B) = subst (λ y. y ≤ℤ pos (16 * B)) (square_abs z) h in
        let t : nat_abs z * nat_abs z ≤ 16 * B = omega (arith, ints) in
        absurd (omega arith)

-- 3 y + z is small where y and z are
combined_small : (q B : ℕ) (y z : ℤ) → (y *ℤ y) ≤ℤ pos B → (z *ℤ z) ≤ℤ pos B → 64 * B < q * q → nat_abs (pos 3 *ℤ y +ℤ z) + nat_abs (pos 3 *ℤ y +ℤ z) < q
combined_small q B y z hy hz w = root q B (pos 3 *ℤ y +ℤ z) (linear (y *ℤ y) (y *ℤ z) (z *ℤ z) ((pos 3 *ℤ y +ℤ z) *ℤ (pos 3 *ℤ y +ℤ z)) ((y +ℤ neg_ℤ z) *ℤ (y +ℤ neg_ℤ z))
    (ring integer_laws (y ∷ z ∷ []) ((nat 3 ⊠ x 0 ⊞ x 1) ⊠ (nat 3 ⊠ x 0 ⊞ x 1)) (nat 9 ⊠ (x 0 ⊠ x 0) ⊞ nat 6 ⊠ (x 0 ⊠ x 1) ⊞ x 1 ⊠ x 1) tt)
    (ring integer_laws (y ∷ z ∷ []) ((x 0 ⊟ x 1) ⊠ (x 0 ⊟ x 1)) (x 0 ⊠ x 0 ⊟ nat 2 ⊠ (x 0 ⊠ x 1) ⊞ x 1 ⊠ x 1) tt)
    (square_up (y +ℤ neg_ℤ z)) hy hz) w
  where
    linear : (a b c s d : ℤ) → s ≡ pos 9 *ℤ a +ℤ pos 6 *ℤ b +ℤ c → d ≡ a +ℤ neg_ℤ (pos 2 *ℤ b) +ℤ c → pos 0 ≤ℤ d → a ≤ℤ pos B → c ≤ℤ pos B → s ≤ℤ pos (16 * B)
    linear a b c s d e f g h k = omega (arith, ints)

pub combination_small : (n q : ℕ) → 2 ≤ n → 128 * ((n - 1) * (n - 1)) < q * q → (r g s f : Poly) → Ternary n r → Ternary+ n g → Ternary n s → Ternary+ n f →
    (k : ℕ) → k < n → nat_abs (combination n r g s f k) + nat_abs (combination n r g s f k) < q
combination_small n q long wide r g s f tr tg ts tf k l =
    combined_small q ((n - 1) * (2 * (n - 1))) (times n (Φ1 n) (times n r g) k) (times n (Φ1 n) (times n s f) k)
    (small_product n long r g tr tg k l) (small_product n long s f ts tf k l) (omega arith)
