-- The numbers modulo m, a commutative ring where m is above 1.
use Rattle.std.specs.Prelude.{◌≡◌, ℕ, ◌+◌, ◌-◌, ◌*◌, ◌/◌, ◌%◌, ◌<◌}
use Rattle.std.proofs.Common.{sym, ap, ◌∙◌, arith, mod-lt, mod-eq_of_lt, add-mul, mul-add, mul_assoc, mul_comm, add_assoc, add_comm, add-zero, mul-one}
use mathlib.Core.HLevel.{Σ_prop_path}
use Rattle.std.proofs.Math.Bridge.{le_prop}
use Rattle.std.proofs.Math.Nat.{mod-add-mod, add-mod-mod, mod-mod, div-add-mod, mul-add-mod_self_left, mod_self}
use Rattle.algebra.specs.Exact.{Ops, Laws}

-- a number below m
abbrev pub Residue : ℕ → Type 0
Residue m = (n : ℕ) × (n < m)

-- the residue of n
abbrev pub residue : (m : ℕ) → 1 < m → ℕ → Residue m
residue m h n = (n % m, mod-lt n (omega arith))

-- the ring of residues
abbrev pub residues : (m : ℕ) → 1 < m → Ops (Residue m)
residues m h = record {
  nought = residue m h 0;
  unit = residue m h 1;
  plus = λ x y. residue m h (x.0 + y.0);
  times = λ x y. residue m h (x.0 * y.0);
  minus = λ x. residue m h (m - x.0);
}

-- ---- its laws. They stand here since implementations name them
pub same_residue : (m : ℕ) (u v : Residue m) → u.0 ≡ v.0 → u ≡ v
same_residue m u v p = Σ_prop_path (λ n. le_prop) {u = u} {v = v} p

pub mul_mod_in : (a b m : ℕ) → ((a % m) * b) % m ≡ (a * b) % m
mul_mod_in a b m =
    let e : a * b ≡ m * ((a / m) * b) + (a % m) * b = ap (λ x. x * b) (sym (div-add-mod a m)) ∙ add-mul (m * (a / m)) (a % m) b ∙ ap (λ x. x + (a % m) * b) (mul_assoc m (a / m) b) in
    sym (ap (λ x. x % m) e ∙ mul-add-mod_self_left m ((a / m) * b) ((a % m) * b))

pub mul_in_mod : (a b m : ℕ) → (a * (b % m)) % m ≡ (a * b) % m
mul_in_mod a b m = ap (λ x. x % m) (mul_comm a (b % m)) ∙ mul_mod_in b a m ∙ ap (λ x. x % m) (mul_comm b a)

-- remainders of parts may be left out within a remainder
pub ruleset inward = (mod-add-mod, add-mod-mod, mul_mod_in, mul_in_mod, mod-mod)

minus_mod : (m a : ℕ) → a < m → (a + (m - a)) % m ≡ 0
minus_mod m a h = let e : a + (m - a) ≡ m = omega arith in ap (λ x. x % m) e ∙ mod_self m

pub residue_laws : (m : ℕ) (h : 1 < m) → Laws (residues m h)
residue_laws m h = record {
  plus_nought = λ x. same_residue m _ x (simp (inward, add-zero) (mod-eq_of_lt x.1));
  plus_minus = λ x. same_residue m _ _ (simp inward (minus_mod m x.0 x.1 ∙ sym (mod-eq_of_lt (omega arith))));
  plus_comm = λ x y. same_residue m _ _ (ap (λ n. n % m) (add_comm x.0 y.0));
  plus_assoc = λ x y z. same_residue m _ _ (simp (inward, add_assoc));
  times_unit = λ x. same_residue m _ x (simp (inward, mul-one) (mod-eq_of_lt x.1));
  times_comm = λ x y. same_residue m _ _ (ap (λ n. n % m) (mul_comm x.0 y.0));
  times_assoc = λ x y z. same_residue m _ _ (simp (inward, mul_assoc));
  times_plus = λ x y z. same_residue m _ _ (simp (inward, mul-add));
  apart = λ e. let z : 1 % m ≡ 0 % m = ap (λ u. u.0) e in omega (arith, z, mod-eq_of_lt h);
}
