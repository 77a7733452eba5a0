-- The integers are a commutative ring, and so they are up to multiples of k.
use Rattle.std.proofs.Common.{◌≡◌, ℕ, zero, suc, ◌+◌, ◌*◌, ◌/◌, ◌%◌, ◌<◌, ℤ, pos, negsuc, ◌+ℤ◌, ◌*ℤ◌, neg_ℤ, nat_abs, sym, refl, ap, ◌∙◌, subst, ap₂, arith}
use native.Mathlib.Nat.{mod-add-div}
use lib.IntN.{+ℤ_comm, +ℤ_assoc, +ℤ_idr, +ℤ_invr, *ℤ_comm, *ℤ-one, one}
use borrow.Author.Differences.{up, down, same_in, product_is, sum_is_lem, ints}
use Rattle.algebra.specs.Ring.{Laws, integers, Differ, times_one}
use Rattle.algebra.specs.Polynomials.{mod_k}
use Rattle.algebra.proofs.Quotients.{quotient_laws, up_to, weaken}

pub *ℤ_assoc : (a b c : ℤ) → (a *ℤ b) *ℤ c ≡ a *ℤ (b *ℤ c)
*ℤ_assoc a b c =
    let ab = product_is a b in
    let bc = product_is b c in
    same_in ((a *ℤ b) *ℤ c) (a *ℤ (b *ℤ c))
    (omega (
      arith,
      product_is (a *ℤ b) c,
      product_is a (b *ℤ c),
      ap (λ t. t * up c) ab.0,
      ap (λ t. t * down c) ab.0,
      ap (λ t. t * up c) ab.1,
      ap (λ t. t * down c) ab.1,
      ap (λ t. up a * t) bc.0,
      ap (λ t. down a * t) bc.0,
      ap (λ t. up a * t) bc.1,
      ap (λ t. down a * t) bc.1,
    ))

pub *ℤ_distrib : (a b c : ℤ) → a *ℤ (b +ℤ c) ≡ a *ℤ b +ℤ a *ℤ c
*ℤ_distrib a b c =
    let s = sum_is_lem b c in
    same_in (a *ℤ (b +ℤ c)) (a *ℤ b +ℤ a *ℤ c)
    (omega (arith, product_is a (b +ℤ c), product_is a b, product_is a c, sum_is_lem (a *ℤ b) (a *ℤ c), ap (λ t. up a * t) s, ap (λ t. down a * t) s))

pub integer_laws : Laws integers
unfolding one
integer_laws = record {
  rfl = λ a. refl;
  sy = sym;
  tr = ◌∙◌;
  add_cong = ap₂ ◌+ℤ◌;
  mul_cong = ap₂ ◌*ℤ◌;
  neg_cong = ap neg_ℤ;
  add_comm = +ℤ_comm;
  add_assoc = +ℤ_assoc;
  add_o = +ℤ_idr;
  add_neg = +ℤ_invr;
  mul_comm = *ℤ_comm;
  mul_assoc = *ℤ_assoc;
  mul_e = *ℤ-one;
  mul-add = *ℤ_distrib;
}

-- ---- up to multiples of k
pub mod_laws : (k : ℕ) → Laws (mod_k k)
mod_laws k = quotient_laws integer_laws (pos k)

pub equal_mod : (k : ℕ) {a b : ℤ} → a ≡ b → Differ integers (pos k) a b
equal_mod k p = up_to integer_laws (pos k) p

-- the same up to multiples of m are the same up to those of k, where k divides m
pub divides_mod : (k c m : ℕ) → k * c ≡ m → {a b : ℤ} → Differ integers (pos m) a b → Differ integers (pos k) a b
divides_mod k c m e {a} {b} d = weaken integer_laws (pos k) (pos c) (subst (λ (i : ℕ). Differ integers (pos i) a b) (sym e) d)

-- two small numbers that differ by a multiple of q are equal
pub close : (q : ℕ) (y z : ℤ) → Differ integers (pos q) y z → nat_abs y + nat_abs z < q → y ≡ z
close q y z d l = by d.by d.is
  where
    by : (c : ℤ) → y ≡ z +ℤ pos q *ℤ c → y ≡ z
    by (pos zero) p = omega (arith, ints)
    by (pos (suc c)) p = absurd (omega (arith, ints))
    by (negsuc c) p = absurd (omega (arith, ints))

pub times_one_pos : (n : ℕ) → times_one integers n ≡ pos n
times_one_pos zero = refl
times_one_pos (suc n) = ap (λ z. z +ℤ pos 1) (times_one_pos n) ∙ omega (arith, ints)

-- an inverse of n
pub inverse_of : (k n i : ℕ) → n * i % k ≡ 1 → Differ integers (pos k) (times_one integers n *ℤ pos i) (pos 1)
inverse_of k n i h = record { by = pos (n * i / k); is = ap (λ z. z *ℤ pos i) (times_one_pos n) ∙ ap pos (omega (arith, mod-add-div (n * i) k)) }
