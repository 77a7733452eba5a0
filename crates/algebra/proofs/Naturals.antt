-- The naturals up to their remainder are a commutative ring, which stands in that of the integers up to multiples.
use Rattle.std.proofs.Common.{◌≡◌, ℕ, zero, suc, ◌+◌, ◌-◌, ◌*◌, ◌/◌, ◌%◌, ◌<◌, ◌⊎◌, [], ◌∷◌, ℤ, pos, negsuc, ◌+ℤ◌, ◌*ℤ◌, neg_ℤ, sym, refl, ap, ◌∙◌, subst, ap₂, inl, inr, add-zero, add_assoc, mod-lt, mod-eq_of_lt, mul_assoc, mul_comm, add_comm, mul-one, mul-add, arith, lit<}
use native.Mathlib.Nat.{add-mod, mod-add-div, add-mul-mod_self_left, mod-mod, mod-add-mod, mod_self}
use borrow.Author.Differences.{ints}
use Rattle.algebra.specs.Ring.{Laws, Congruent, naturals, Differ, Hom, integers}
use Rattle.algebra.specs.Residues.{mul_mod_in}
use Rattle.algebra.specs.Polynomials.{mod_k}
use Rattle.algebra.proofs.Derived.{neg_of}
use Rattle.algebra.proofs.Solver.{x, ◌⊞◌, ◌⊠◌, ◌⊟◌, ring, one, minus}
use Rattle.algebra.proofs.Integers.{integer_laws, mod_laws}

-- the same remainder from the same sum with multiples
pub mod_same : (m a b s t : ℕ) → a + m * s ≡ b + m * t → a % m ≡ b % m
mod_same m a b s t h = sym (add-mul-mod_self_left a m s) ∙ ap (λ y. y % m) h ∙ add-mul-mod_self_left b m t

less_one : (m a : ℕ) → 0 < m → (a + a * (m - 1)) + m * 0 ≡ 0 + m * a
less_one zero a h = absurd (omega arith)
less_one (suc m) a h = let p : suc m - 1 ≡ m = omega arith in rw p (omega arith)

module _ (m : ℕ) where
  pub eq : {a b : ℕ} → a ≡ b → Congruent m a b
  eq p = record { rem = ap (λ y. y % m) p }

  mul_right : {a b : ℕ} (c : ℕ) → Congruent m a b → Congruent m (a * c) (b * c)
  mul_right {a} {b} c p = record { rem = sym (mul_mod_in a c m) ∙ ap (λ y. (y * c) % m) p.rem ∙ mul_mod_in b c m }

  trans : {a b c : ℕ} → Congruent m a b → Congruent m b c → Congruent m a c
  trans p q = record { rem = p.rem ∙ q.rem }

  pub naturals_laws : 0 < m → Laws (naturals m)
  naturals_laws h = record {
    rfl = λ a. eq refl;
    sy = λ p. record { rem = sym p.rem };
    tr = trans;
    add_cong = λ {a} {b} {c} {d} p q. record { rem = add-mod a c m ∙ ap₂ (λ y z. (y + z) % m) p.rem q.rem ∙ sym (add-mod b d m) };
    mul_cong = λ {a} {b} {c} {d} p q. trans (mul_right c p) (trans (eq (mul_comm b c)) (trans (mul_right b q) (eq (mul_comm d b))));
    neg_cong = mul_right (m - 1);
    add_comm = λ a b. eq (add_comm a b);
    add_assoc = λ a b c. eq (add_assoc a b c);
    add_o = λ a. eq (add-zero a);
    add_neg = λ a. record { rem = mod_same m (a + a * (m - 1)) 0 0 a (less_one m a h) };
    mul_comm = λ a b. eq (mul_comm a b);
    mul_assoc = λ a b c. eq (mul_assoc a b c);
    mul_e = λ a. eq (mul-one a);
    mul-add = λ a b c. eq (mul-add a b c);
  }

-- what is no multiple of 3 is its own inverse modulo 3
pub square_three : (n : ℕ) → (n % 3 ≡ 0 → ⊥) → n * n % 3 ≡ 1
square_three n h =
    let p : (n % 3 ≡ 1) ⊎ (n % 3 ≡ 2) = by (n % 3) (mod-lt n (lit< tt)) h in
    elim p [ inl e ↦ sym (mul_mod_in n n 3) ∙ ap (λ r. (r * n) % 3) e ∙ omega arith | inr e ↦ sym (mul_mod_in n n 3) ∙ ap (λ r. (r * n) % 3) e ∙ mod_same 3 (2 * n) 1 0 (2 * (n / 3) + 1) (omega (arith, mod-add-div n 3)) ]
  where
    by : (r : ℕ) → r < 3 → (r ≡ 0 → ⊥) → (r ≡ 1) ⊎ (r ≡ 2)
    by zero l d = absurd (d refl)
    by (suc zero) l d = inl refl
    by (suc (suc zero)) l d = inr refl
    by (suc (suc (suc r))) l d = absurd (omega arith)

pub wrapped : (m a : ℕ) → Congruent m (a % m) a
wrapped m a = record { rem = mod-mod a m }

pub neg_wrapped : (m : ℕ) → 0 < m → (a : ℕ) → Congruent m ((m - a % m) % m) (a * (m - 1))
neg_wrapped m h a = neg_of (naturals_laws m h) (record { rem = sum_wraps })
  where
    sum_wraps : (a + (m - a % m) % m) % m ≡ 0 % m
    sum_wraps =
        let l : a % m < m = mod-lt a h in
        let e : a % m + (m - a % m) ≡ m = omega arith in
        native.Mathlib.Nat.add-mod-mod a (m - a % m) m ∙ sym (mod-add-mod a m (m - a % m)) ∙ ap (λ y. y % m) e ∙ mod_self m ∙ sym (mod-eq_of_lt h)

pub congruent_out : (m a b : ℕ) → Congruent m a b → Differ integers (pos m) (pos a) (pos b)
congruent_out m a b c = record { by = pos (a / m) +ℤ neg_ℤ (pos (b / m)); is = go (a / m) (b / m) (a % m) (mod-add-div a m) (ap (λ y. y + m * (b / m)) c.rem ∙ mod-add-div b m) }
  where
    go : (s t r : ℕ) → r + m * s ≡ a → r + m * t ≡ b → pos a ≡ pos b +ℤ pos m *ℤ (pos s +ℤ neg_ℤ (pos t))
    go s t r p q = subst (λ y. pos y ≡ pos b +ℤ pos m *ℤ (pos s +ℤ neg_ℤ (pos t))) p (subst (λ y. pos (r + m * s) ≡ pos y +ℤ pos m *ℤ (pos s +ℤ neg_ℤ (pos t))) q (shift r s t))
      where
        shift : (r s t : ℕ) → pos (r + m * s) ≡ pos (r + m * t) +ℤ pos m *ℤ (pos s +ℤ neg_ℤ (pos t))
        shift r s t = ring integer_laws (pos r ∷ pos m ∷ pos s ∷ pos t ∷ []) (x 0 ⊞ x 1 ⊠ x 2) (x 0 ⊞ x 1 ⊠ x 3 ⊞ x 1 ⊠ (x 2 ⊟ x 3)) tt

pub congruent_in : (m a b : ℕ) → Differ integers (pos m) (pos a) (pos b) → Congruent m a b
congruent_in m a b d = record { rem = by d.by d.is }
  where
    by : (c : ℤ) → pos a ≡ pos b +ℤ pos m *ℤ c → a % m ≡ b % m
    by (pos c) p = mod_same m a b 0 c (omega (arith, ints))
    by (negsuc c) p = mod_same m a b (suc c) 0 (omega (arith, ints))

-- naturals up to a remainder are integers up to multiples
pub naturals_hom : (m : ℕ) → 0 < m → Hom (naturals m) (mod_k m) pos
naturals_hom m h = record {
  cong = λ {a} {b} p. congruent_out m a b p;
  h_o = (mod_laws m).rfl (pos 0);
  h_e = (mod_laws m).rfl (pos 1);
  h_add = λ a b. (mod_laws m).rfl (pos (a + b));
  h_mul = λ a b. (mod_laws m).rfl (pos (a * b));
  h_neg = λ a. record { by = pos a; is = go a };
}
  where
    go : (a : ℕ) → pos (a * (m - 1)) ≡ neg_ℤ (pos a) +ℤ pos m *ℤ pos a
    go a =
        let e : m ≡ suc (m - 1) = omega arith in
        ring integer_laws (pos a ∷ pos (m - 1) ∷ []) (x 0 ⊠ x 1) (minus (x 0) ⊞ (x 1 ⊞ one) ⊠ x 0) tt ∙ ap (λ (t : ℕ). neg_ℤ (pos a) +ℤ pos t *ℤ pos a) (add_one_is e)
      where
        add_one_is : m ≡ suc (m - 1) → m - 1 + 1 ≡ m
        add_one_is e = omega arith
