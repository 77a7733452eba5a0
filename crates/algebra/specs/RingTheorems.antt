-- Theorems of every commutative ring.
use Rattle.std.specs.Prelude.{ℕ, suc, ◌+◌, ◌-◌, ◌<◌, ◌≤◌}
use Rattle.algebra.specs.Ring.{Ops, Laws, Hom, Agree, Differ, sum, conv, cyclic, phi1, ones, reduced, reduce, divided, times_one}
use Rattle.algebra.specs.Series.{Below, plain, series}
use Rattle.algebra.specs.Exact as Exact

-- what holds of every commutative ring on A
abbrev pub EveryRing : Type 0 → (Ops → Type 0) → Type 0
EveryRing A P = (o : Exact.Ops A) → Exact.Laws o → P (Exact.exact o)

-- polynomials where x^n counts as 1 are a ring
abbrev pub CyclicPolynomials : Ops → Type 0
CyclicPolynomials R = (n : ℕ) → Laws (cyclic R n)

-- and so they are up to multiples of 1 + x + .. + x^(n-1)
abbrev pub ReducedPolynomials : Ops → Type 0
ReducedPolynomials R = (n : ℕ) → Laws (reduced R n)

-- the sum of the coefficients carries sums and products over
abbrev pub Totals : Ops → Type 0
Totals R = (n : ℕ) → 0 < n → Hom (cyclic R n) R (sum R n)

-- (x - 1) (1 + x + .. + x^(n-1)) = 0
abbrev pub Phi1Ones : Ops → Type 0
Phi1Ones R = (n : ℕ) → 0 < n → Agree R n (conv R n (phi1 R n) (ones R)) (λ k. R.o)

-- to take coefficient n - 1 from all gives the one congruent polynomial without it
pub record Reduction (R : Ops) : Type 0 where
  pub congruent : (n : ℕ) (u : ℕ → R.El) → Differ (cyclic R n) (ones R) u (reduce R n u)
  pub last : (n : ℕ) (u : ℕ → R.El) → R.same (reduce R n u (n - 1)) R.o
  pub same : (n : ℕ) (u v : ℕ → R.El) → Differ (cyclic R n) (ones R) u v → Agree R n (reduce R n u) (reduce R n v)
  pub back : (n : ℕ) (u v : ℕ → R.El) → Agree R n (reduce R n u) (reduce R n v) → Differ (cyclic R n) (ones R) u v

-- where n has an inverse, a polynomial is known by its class and the sum of its coefficients
abbrev pub Determined : Ops → Type 0
Determined R = (n : ℕ) (i : R.El) → R.same (R.mul (times_one R n) i) R.e → (u v : ℕ → R.El) →
    Differ (cyclic R n) (ones R) u v → R.same (sum R n u) (sum R n v) → Agree R n u v

-- what times x - 1 is y, for y with sum zero
pub record Division (R : Ops) : Type 0 where
  pub is : (n : ℕ) → 2 ≤ n → (y : ℕ → R.El) → R.same (sum R n y) R.o → Agree R n (conv R n (phi1 R n) (divided R y)) y
  pub last : (n : ℕ) → 2 ≤ n → (y : ℕ → R.El) → R.same (sum R n y) R.o → R.same (divided R y (n - 1)) R.o
  pub unique : (n : ℕ) → 2 ≤ n → (u v : ℕ → R.El) → Agree R n (conv R n (phi1 R n) u) (conv R n (phi1 R n) v) → R.same (u (n - 1)) (v (n - 1)) → Agree R n u v

-- power series are a ring
abbrev pub PowerSeries : Ops → Type 0
PowerSeries R = Laws (series R)

-- plain products: their degrees, and how they fold into the cyclic one
pub record Folding (R : Ops) : Type 0 where
  pub below : (a b : ℕ) (u v : ℕ → R.El) → Below R (suc a) u → Below R (suc b) v → Below R (suc (a + b)) (plain R u v)
  pub top : (a b : ℕ) (u v : ℕ → R.El) → Below R (suc a) u → Below R (suc b) v → R.same (plain R u v (a + b)) (R.mul (u a) (v b))
  pub folds : (n : ℕ) (u v : ℕ → R.El) → Below R n u → Below R n v → (k : ℕ) → k < n → R.same (conv R n u v k) (R.add (plain R u v k) (plain R u v (k + n)))
