-- Order of integers, sums of squares, and the inequality of Cauchy and Schwarz.
use Rattle.std.proofs.Common.{ℕ, zero, suc, ◌*◌, ◌<◌, ◌≤◌, [], ◌∷◌, ℤ, pos, negsuc, ◌+ℤ◌, ◌*ℤ◌, neg_ℤ, ◌≤ℤ◌, subst, mul-le-mul, arith}
use borrow.Author.Differences.{ints}
use Rattle.algebra.specs.Ring.{Ops, Laws, integers, sum, sum_by, times_one}
use Rattle.algebra.proofs.Solver.{x, nat, ◌⊞◌, ◌⊠◌, ◌⊟◌, minus, ring}
use Rattle.algebra.proofs.Integers.{integer_laws}
use Rattle.algebra.proofs.Sums.{sum_cong, sum_three}

-- ---- in any commutative ring: the sum of (a_i b_j - a_j b_i)² over i and j is 2 (Σ a²) (Σ b²) - 2 (Σ a b)²
module _ {R : Ops} (L : Laws R) (n : ℕ) where
  infixr 30 ◌⨾◌
  infixl 60 ◌⊕◌
  infixl 70 ◌⊗◌
  infix 40 ◌≈◌
  open R use {El, same as ◌≈◌, add as ◌⊕◌, mul as ◌⊗◌, neg}
  open L use {tr}

  ◌⨾◌ : {a b c : El} → a ≈ b → b ≈ c → a ≈ c
  p ⨾ q = tr p q

  pub lagrange : (a b : ℕ → El) →
      sum R n (λ i. sum R n (λ j. (a i ⊗ b j ⊕ neg (a j ⊗ b i)) ⊗ (a i ⊗ b j ⊕ neg (a j ⊗ b i))))
      ≈ times_one R 2 ⊗ (sum R n (λ k. a k ⊗ a k) ⊗ sum R n (λ k. b k ⊗ b k)) ⊕ neg (times_one R 2 ⊗ (sum R n (λ k. a k ⊗ b k) ⊗ sum R n (λ k. a k ⊗ b k)))
  lagrange a b =
      let A = sum R n (λ k. a k ⊗ a k) in
      let B = sum R n (λ k. b k ⊗ b k) in
      let C = sum R n (λ k. a k ⊗ b k) in
      sum_cong L n (λ i l.
      sum_cong L n (λ j m. ring L (a i ∷ b i ∷ a j ∷ b j ∷ [])
      ((x 0 ⊠ x 3 ⊟ x 2 ⊠ x 1) ⊠ (x 0 ⊠ x 3 ⊟ x 2 ⊠ x 1))
      ((x 0 ⊠ x 0) ⊠ (x 3 ⊠ x 3) ⊞ (x 1 ⊠ x 1) ⊠ (x 2 ⊠ x 2) ⊞ minus (nat 2 ⊠ (x 0 ⊠ x 1)) ⊠ (x 2 ⊠ x 3)) tt)
      ⨾ sum_three L n (a i ⊗ a i) (b i ⊗ b i) (neg (times_one R 2 ⊗ (a i ⊗ b i))) (λ j. b j ⊗ b j) (λ j. a j ⊗ a j) (λ j. a j ⊗ b j)
      ⨾ ring L (a i ∷ b i ∷ A ∷ B ∷ C ∷ [])
      ((x 0 ⊠ x 0) ⊠ x 3 ⊞ (x 1 ⊠ x 1) ⊠ x 2 ⊞ minus (nat 2 ⊠ (x 0 ⊠ x 1)) ⊠ x 4)
      (x 3 ⊠ (x 0 ⊠ x 0) ⊞ x 2 ⊠ (x 1 ⊠ x 1) ⊞ minus (nat 2 ⊠ x 4) ⊠ (x 0 ⊠ x 1)) tt)
      ⨾ sum_three L n B A (neg (times_one R 2 ⊗ C)) (λ i. a i ⊗ a i) (λ i. b i ⊗ b i) (λ i. a i ⊗ b i)
      ⨾ ring L (A ∷ B ∷ C ∷ []) (x 1 ⊠ x 0 ⊞ x 0 ⊠ x 1 ⊞ minus (nat 2 ⊠ x 2) ⊠ x 2) (nat 2 ⊠ (x 0 ⊠ x 1) ⊟ nat 2 ⊠ (x 2 ⊠ x 2)) tt

-- ---- integers
pub square_up : (a : ℤ) → pos 0 ≤ℤ (a *ℤ a)
square_up (pos n) = omega (arith, ints)
square_up (negsuc n) = omega (arith, ints)

pub sum_le : (n : ℕ) (f g : ℕ → ℤ) → ((k : ℕ) → k < n → f k ≤ℤ g k) → sum integers n f ≤ℤ sum integers n g
unfolding sum_by
sum_le zero f g h = omega (arith, ints)
sum_le (suc n) f g h =
    let p : sum integers n f ≤ℤ sum integers n g = sum_le n f g (λ k l. h k (omega arith)) in
    let q : f n ≤ℤ g n = h n (omega arith) in
    omega (arith, ints)

pub sum_up : (n : ℕ) (f : ℕ → ℤ) → ((k : ℕ) → k < n → pos 0 ≤ℤ f k) → pos 0 ≤ℤ sum integers n f
unfolding sum_by
sum_up zero f h = omega (arith, ints)
sum_up (suc n) f h =
    let p : pos 0 ≤ℤ sum integers n f = sum_up n f (λ k l. h k (omega arith)) in
    let q : pos 0 ≤ℤ f n = h n (omega arith) in
    omega (arith, ints)

pub sum_count : (n : ℕ) (f : ℕ → ℤ) → ((k : ℕ) → k < n → f k ≤ℤ pos 1) → sum integers n f ≤ℤ pos n
unfolding sum_by
sum_count zero f h = omega (arith, ints)
sum_count (suc n) f h =
    let p : sum integers n f ≤ℤ pos n = sum_count n f (λ k l. h k (omega arith)) in
    let q : f n ≤ℤ pos 1 = h n (omega arith) in
    omega (arith, ints)

half : (p q : ℤ) → pos 0 ≤ℤ (pos 2 *ℤ p +ℤ neg_ℤ (pos 2 *ℤ q)) → q ≤ℤ p
half p q h = omega (arith, ints)

pub cauchy_schwarz : (n : ℕ) (a b : ℕ → ℤ) →
    (sum integers n (λ k. a k *ℤ b k) *ℤ sum integers n (λ k. a k *ℤ b k)) ≤ℤ (sum integers n (λ k. a k *ℤ a k) *ℤ sum integers n (λ k. b k *ℤ b k))
cauchy_schwarz n a b =
    half (sum integers n (λ k. a k *ℤ a k) *ℤ sum integers n (λ k. b k *ℤ b k)) (sum integers n (λ k. a k *ℤ b k) *ℤ sum integers n (λ k. a k *ℤ b k))
    (subst (λ z. pos 0 ≤ℤ z) (lagrange integer_laws n a b)
    (sum_up n (λ i. sum integers n (λ j. (a i *ℤ b j +ℤ neg_ℤ (a j *ℤ b i)) *ℤ (a i *ℤ b j +ℤ neg_ℤ (a j *ℤ b i))))
    (λ i l. sum_up n (λ j. (a i *ℤ b j +ℤ neg_ℤ (a j *ℤ b i)) *ℤ (a i *ℤ b j +ℤ neg_ℤ (a j *ℤ b i)))
    (λ j m. square_up (a i *ℤ b j +ℤ neg_ℤ (a j *ℤ b i))))))

pub mul_le : (a b : ℤ) (c d : ℕ) → pos 0 ≤ℤ a → a ≤ℤ pos c → pos 0 ≤ℤ b → b ≤ℤ pos d → (a *ℤ b) ≤ℤ pos (c * d)
mul_le (pos a) (pos b) c d ha hc hb hd =
    let p : a ≤ c = omega (arith, ints) in
    let q : b ≤ d = omega (arith, ints) in
    let r : a * b ≤ c * d = mul-le-mul p q in
    omega (arith, ints)
mul_le (pos a) (negsuc b) c d ha hc hb hd = absurd (omega (arith, ints))
mul_le (negsuc a) b c d ha hc hb hd = absurd (omega (arith, ints))
