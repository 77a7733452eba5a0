-- Power series over a commutative ring, and the polynomials among them.
use Rattle.std.specs.Prelude.{ℕ, suc, ◌-◌, ◌≤◌}
use Rattle.algebra.specs.Ring.{Ops, sum_by, power}

-- coefficient k of the plain product
unfoldable pub plain_by : {A : Type 0} → A → (A → A → A) → (A → A → A) → (ℕ → A) → (ℕ → A) → ℕ → A
plain_by o add mul u v k = sum_by o add (suc k) (λ j. mul (u j) (v (k - j)))

abbrev pub plain : (R : Ops) → (ℕ → R.El) → (ℕ → R.El) → ℕ → R.El
plain R = plain_by R.o R.add R.mul

-- the same coefficients
pub record Everywhere (R : Ops) (u v : ℕ → R.El) : Type 0 where
  pub at : (k : ℕ) → R.same (u k) (v k)

-- power series: polynomials are those that are zero from some place on
abbrev pub series : Ops → Ops
series R = record {
  El = ℕ → R.El;
  same = Everywhere R;
  o = λ k. R.o;
  e = power R 0;
  add = λ u v k. R.add (u k) (v k);
  mul = plain R;
  neg = λ u k. R.neg (u k);
}

-- zero from place a on
pub record Below (R : Ops) (a : ℕ) (u : ℕ → R.El) : Type 0 where
  pub zero_at : (k : ℕ) → a ≤ k → R.same (u k) R.o
