-- Theorems of integers, residues and polynomials over them.
use Rattle.std.specs.Prelude.{◌≡◌, ℕ, ◌+◌, ◌-◌, ◌*◌, ◌%◌, ◌<◌, ◌≤◌, List, ◌++◌, length, ℤ, pos, ◌*ℤ◌, neg_ℤ, ◌≤ℤ◌, slice_index}
use Rattle.algebra.specs.Ring.{Laws, Differ, Congruent, naturals, integers, sum, conv, power, reduced}
use Rattle.algebra.specs.Exact as Exact
use Rattle.algebra.specs.Residues.{Residue, residues}
use Rattle.algebra.specs.Ternary.{Ternary, Ternary+}
use Rattle.algebra.specs.Polynomials.{mod_k, Poly, times, Φ1, SameMod, Balanced, InverseMod, refine, refine_four}
use Rattle.algebra.specs.Stands.{Stands, residue_number, digit_number, numbers}
use Rattle.algebra.specs.RingTheorems.{Reduction}

-- ---- rings
abbrev pub IntegersAreARing : Type 0
IntegersAreARing = Laws integers

abbrev pub NaturalsModuloAreARing : Type 0
NaturalsModuloAreARing = (m : ℕ) → 0 < m → Laws (naturals m)

abbrev pub ResiduesAreARing : Type 0
ResiduesAreARing = (m : ℕ) (h : 1 < m) → Exact.Laws (residues m h)

-- residues modulo m stand for the integers modulo m
abbrev pub ResiduesStand : Type 0
ResiduesStand = (m : ℕ) (h : 1 < m) → Stands (residues m h) m (residue_number m)

-- and those modulo 3 by -1, 0, 1 as well
abbrev pub DigitsStand : Type 0
DigitsStand = (h : 1 < 3) → Stands (residues 3 h) 3 digit_number

-- ---- products
-- row j is u_j times the n words from word n - j on of v written twice
abbrev pub RowsAreTheProduct : Type 0
RowsAreTheProduct = (m n : ℕ) (us vs : List ℕ) → 0 < m → length vs ≡ n → (k : ℕ) → k < n →
    Congruent m (sum (naturals m) n (λ j. slice_index us j * slice_index (vs ++ vs) (n - j + k))) (conv (naturals m) n (λ j. slice_index us j) (λ j. slice_index vs j) k)

-- the product of words, modulo m, is that of the integers
abbrev pub WordProducts : Type 0
WordProducts = (m n : ℕ) → 0 < m → (u v : ℕ → ℕ) (k : ℕ) →
    Differ integers (pos m) (pos (conv (naturals m) n u v k % m)) (times n (λ j. pos (u j)) (λ j. pos (v j)) k)

-- and so is that of residues
abbrev pub ResidueProducts : Type 0
ResidueProducts = (m : ℕ) (h : 1 < m) (n : ℕ) (u v : ℕ → Residue m) →
    SameMod m n (numbers (residue_number m) (conv (Exact.exact (residues m h)) n u v)) (times n (numbers (residue_number m) u) (numbers (residue_number m) v))

abbrev pub CauchySchwarz : Type 0
CauchySchwarz = (n : ℕ) (a b : ℕ → ℤ) →
    (sum integers n (λ k. a k *ℤ b k) *ℤ sum integers n (λ k. a k *ℤ b k)) ≤ℤ (sum integers n (λ k. a k *ℤ a k) *ℤ sum integers n (λ k. b k *ℤ b k))

-- the coefficients of (x - 1) u v are at most √2 (n - 1) in size
abbrev pub ProductsAreSmall : Type 0
ProductsAreSmall = (n : ℕ) (u v : Poly) → 2 ≤ n → Ternary n u → Ternary+ n v → (k : ℕ) → k < n →
    (times n (Φ1 n) (times n u v) k *ℤ times n (Φ1 n) (times n u v) k) ≤ℤ pos ((n - 1) * (2 * (n - 1)))

-- to take coefficient n - 1 from all gives the one polynomial of the class modulo (k, 1 + x + .. + x^(n-1)) without it
abbrev pub ReductionModulo : Type 0
ReductionModulo = (k : ℕ) → Reduction (mod_k k)

-- residues have inverses up to 1 + x + .. + x^(n-1) exactly where the integers have them modulo m
pub record ResidueInverse (m : ℕ) (h : 1 < m) (n : ℕ) (a u : ℕ → Residue m) : Type 0 where
  pub stands : (reduced (Exact.exact (residues m h)) n).same (conv (Exact.exact (residues m h)) n a u) (power (Exact.exact (residues m h)) 0) →
      InverseMod m n (numbers (residue_number m) a) (numbers (residue_number m) u)
  pub back : InverseMod m n (numbers (residue_number m) a) (numbers (residue_number m) u) →
      (reduced (Exact.exact (residues m h)) n).same (conv (Exact.exact (residues m h)) n a u) (power (Exact.exact (residues m h)) 0)

abbrev pub ResidueInverses : Type 0
ResidueInverses = (m : ℕ) (h : 1 < m) (n : ℕ) (a u : ℕ → Residue m) → ResidueInverse m h n a u

-- ---- sums of coefficients
-- the last coefficient tells them: they sum up to zero exactly where it is minus the sum of the others
pub record ByLast (k n : ℕ) (u : Poly) : Type 0 where
  pub last : Balanced k n u → Differ integers (pos k) (u (n - 1)) (neg_ℤ (sum integers (n - 1) u))
  pub balances : Differ integers (pos k) (u (n - 1)) (neg_ℤ (sum integers (n - 1) u)) → Balanced k n u

abbrev pub BalancedByLast : Type 0
BalancedByLast = (k n : ℕ) (u : Poly) → 0 < n → ByLast k n u

-- ---- inverses
-- Newton's step squares the modulus
abbrev pub InversesLift : Type 0
InversesLift = (n k : ℕ) (f u : Poly) → InverseMod k n f u → InverseMod (k * k) n f (refine n f u)

-- inverses modulo q come from those modulo 2, and are unique without coefficient n - 1
pub record Inverses (n q : ℕ) (f : Poly) : Type 0 where
  pub made : (u : Poly) → InverseMod 2 n f u → InverseMod q n f (refine_four n f u)
  pub down : (u : Poly) → InverseMod q n f u → InverseMod 2 n f u
  pub only : (u v : Poly) → InverseMod q n f u → InverseMod q n f v → u (n - 1) ≡ pos 0 → v (n - 1) ≡ pos 0 → SameMod q n u v

-- q = 2 b divides 65536
abbrev pub InversesModuloWords : Type 0
InversesModuloWords = (n q b c : ℕ) (f : Poly) → q ≡ 2 * b → q * c ≡ 65536 → Inverses n q f
