-- Values that stand for integers modulo k.
use Rattle.std.specs.Prelude.{◌≡◌, ℕ, zero, suc, ℤ, pos, negsuc}
use Rattle.algebra.specs.Ring.{Hom, Differ, integers}
use Rattle.algebra.specs.Exact.{Ops, exact}
use Rattle.algebra.specs.Residues.{Residue}
use Rattle.algebra.specs.Polynomials.{Poly, mod_k}

-- values that stand for the integers modulo k, each class once
pub record Stands {A : Type 0} (o : Ops A) (k : ℕ) (number : A → ℤ) : Type 0 where
  pub of : ℤ → A
  pub hom : Hom (exact o) (mod_k k) number
  pub of_is : (z : ℤ) → Differ integers (pos k) (number (of z)) z
  pub faithful : (a b : A) → Differ integers (pos k) (number a) (number b) → a ≡ b

-- the polynomial over the integers that values stand for
abbrev pub numbers : {A : Type 0} → (A → ℤ) → (ℕ → A) → Poly
numbers number u k = number (u k)

-- a residue, read as 0 to m - 1
abbrev pub residue_number : (m : ℕ) → Residue m → ℤ
residue_number m x = pos x.0

-- 0, 1, 2 read as 0, 1, -1
abbrev pub signed : ℕ → ℤ
signed zero = pos 0
signed (suc zero) = pos 1
signed (suc (suc d)) = negsuc 0

-- a residue modulo 3, read as -1, 0 or 1
abbrev pub digit_number : Residue 3 → ℤ
digit_number x = signed x.0
