-- Residues and the numbers that they are taken from.
use Rattle.std.proofs.Common.{◌≡◌, ℕ, ◌+◌, ◌-◌, ◌*◌, ◌%◌, ◌<◌, pos, sym, ap, ◌∙◌, mod-eq_of_lt, zero-add, arith}
use native.Mathlib.Nat.{add-mod_right, mod-add-mod}
use Rattle.algebra.specs.Ring.{Differ, integers}
use Rattle.algebra.specs.Residues.{residue, residues, inward, same_residue}
use Rattle.algebra.specs.Stands.{residue_number}
use Rattle.algebra.proofs.Naturals.{congruent_out, wrapped}

module _ (m : ℕ) (h : 1 < m) where
  pub residue_eq : (a b : ℕ) → a % m ≡ b % m → residue m h a ≡ residue m h b
  residue_eq a b e = same_residue m _ _ e

  pub residue_plus : (a b : ℕ) → residue m h ((a + b) % m) ≡ (residues m h).plus (residue m h a) (residue m h b)
  residue_plus a b = residue_eq _ _ (simp inward)

  pub residue_times : (a b : ℕ) → residue m h ((a * b) % m) ≡ (residues m h).times (residue m h a) (residue m h b)
  residue_times a b = residue_eq _ _ (simp inward)

  -- r is minus a where their sum is a multiple of m
  pub residue_minus : (r a : ℕ) → r < m → a < m → (r + a) % m ≡ 0 → residue m h r ≡ (residues m h).minus (residue m h a)
  residue_minus r a hr ha e = residue_eq _ _ (rw (mod-eq_of_lt ha) step)
    where
      step : r % m ≡ (m - a) % m
      step =
          let f : r + m ≡ (r + a) + (m - a) = omega arith in
          sym (add-mod_right r m) ∙ ap (λ x. x % m) f ∙ sym (mod-add-mod (r + a) m (m - a)) ∙ ap (λ x. (x + (m - a)) % m) e ∙ ap (λ x. x % m) (zero-add (m - a))

  -- numbers below m are equal where their residues are
  pub residue_back : (a b : ℕ) → a < m → b < m → residue m h a ≡ residue m h b → a ≡ b
  residue_back a b ha hb e = sym (mod-eq_of_lt ha) ∙ ap (λ u. u.0) e ∙ mod-eq_of_lt hb

  pub residue_number_is : (a : ℕ) → Differ integers (pos m) (residue_number m (residue m h a)) (pos a)
  residue_number_is a = congruent_out m (a % m) a (wrapped m a)
