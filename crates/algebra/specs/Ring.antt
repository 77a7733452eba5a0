-- Commutative rings up to a congruence, and the polynomials over them where x^n counts as 1.
use Rattle.std.specs.Prelude.{◌≡◌, ℕ, zero, suc, ◌+◌, ◌-◌, ◌*◌, ◌%◌, ◌<◌, cond, ℤ, pos, ◌+ℤ◌, ◌*ℤ◌, neg_ℤ, ◌==◌}

-- what is added and multiplied, and which elements count as equal
pub record Ops : Type 1 where
  pub El : Type 0
  pub same : El → El → Type 0
  pub o : El
  pub e : El
  pub add : El → El → El
  pub mul : El → El → El
  pub neg : El → El

-- the laws of a commutative ring, whose equality the operations respect
pub record Laws (R : Ops) : Type 0 where
  pub rfl : (a : R.El) → R.same a a
  pub sy : {a b : R.El} → R.same a b → R.same b a
  pub tr : {a b c : R.El} → R.same a b → R.same b c → R.same a c
  pub add_cong : {a b c d : R.El} → R.same a b → R.same c d → R.same (R.add a c) (R.add b d)
  pub mul_cong : {a b c d : R.El} → R.same a b → R.same c d → R.same (R.mul a c) (R.mul b d)
  pub neg_cong : {a b : R.El} → R.same a b → R.same (R.neg a) (R.neg b)
  pub add_comm : (a b : R.El) → R.same (R.add a b) (R.add b a)
  pub add_assoc : (a b c : R.El) → R.same (R.add (R.add a b) c) (R.add a (R.add b c))
  pub add_o : (a : R.El) → R.same (R.add a R.o) a
  pub add_neg : (a : R.El) → R.same (R.add a (R.neg a)) R.o
  pub mul_comm : (a b : R.El) → R.same (R.mul a b) (R.mul b a)
  pub mul_assoc : (a b c : R.El) → R.same (R.mul (R.mul a b) c) (R.mul a (R.mul b c))
  pub mul_e : (a : R.El) → R.same (R.mul a R.e) a
  pub mul-add : (a b c : R.El) → R.same (R.mul a (R.add b c)) (R.add (R.mul a b) (R.mul a c))

-- what carries sums and products over
pub record Hom (R S : Ops) (f : R.El → S.El) : Type 0 where
  pub cong : {a b : R.El} → R.same a b → S.same (f a) (f b)
  pub h_o : S.same (f R.o) S.o
  pub h_e : S.same (f R.e) S.e
  pub h_add : (a b : R.El) → S.same (f (R.add a b)) (S.add (f a) (f b))
  pub h_mul : (a b : R.El) → S.same (f (R.mul a b)) (S.mul (f a) (f b))
  pub h_neg : (a : R.El) → S.same (f (R.neg a)) (S.neg (f a))

-- the integers
abbrev pub integers : Ops
integers = record { El = ℤ; same = ◌≡◌; o = pos 0; e = pos 1; add = ◌+ℤ◌; mul = ◌*ℤ◌; neg = neg_ℤ }

-- a and b leave the same remainder. A record, so that a and b can be inferred from a proof; so too below
pub record Congruent (m a b : ℕ) : Type 0 where
  pub rem : a % m ≡ b % m

-- the naturals up to their remainder by m
abbrev pub naturals : ℕ → Ops
naturals m = record { El = ℕ; same = Congruent m; o = 0; e = 1; add = ◌+◌; mul = ◌*◌; neg = λ a. a * (m - 1) }

-- a is b and a multiple of d
pub record Differ (R : Ops) (d a b : R.El) : Type 0 where
  pub by : R.El
  pub is : R.same a (R.add b (R.mul d by))

-- R up to multiples of d
abbrev pub quotient : (R : Ops) → R.El → Ops
quotient R d = record { El = R.El; same = Differ R d; o = R.o; e = R.e; add = R.add; mul = R.mul; neg = R.neg }

-- n times one
abbrev pub times_one : (R : Ops) → ℕ → R.El
times_one R zero = R.o
times_one R (suc n) = R.add (times_one R n) R.e

-- f 0 + .. + f (n - 1)
unfoldable pub sum_by : {A : Type 0} → A → (A → A → A) → ℕ → (ℕ → A) → A
sum_by o add zero f = o
sum_by o add (suc n) f = add (sum_by o add n f) (f n)

abbrev pub sum : (R : Ops) → ℕ → (ℕ → R.El) → R.El
sum R = sum_by R.o R.add

-- k - j, counted round n places
abbrev pub back : ℕ → ℕ → ℕ → ℕ
back n k j = (k + (n - j)) % n

-- coefficient k of the product, where x^n counts as 1
unfoldable pub conv_by : {A : Type 0} → A → (A → A → A) → (A → A → A) → ℕ → (ℕ → A) → (ℕ → A) → ℕ → A
conv_by o add mul n u v k = sum_by o add n (λ j. mul (u j) (v (back n k j)))

-- it names the operations alone, so rings that differ in their equality have one product
abbrev pub conv : (R : Ops) → ℕ → (ℕ → R.El) → (ℕ → R.El) → ℕ → R.El
conv R = conv_by R.o R.add R.mul

-- x^i
unfoldable pub power_by : {A : Type 0} → A → A → ℕ → ℕ → A
power_by o e i k = cond (k == i) e o

abbrev pub power : (R : Ops) → ℕ → ℕ → R.El
power R = power_by R.o R.e

-- the same coefficients 0 to n - 1
pub record Agree (R : Ops) (n : ℕ) (u v : ℕ → R.El) : Type 0 where
  pub at : (k : ℕ) → k < n → R.same (u k) (v k)

-- polynomials over R, where x^n counts as 1
abbrev pub cyclic : Ops → ℕ → Ops
cyclic R n = record {
  El = ℕ → R.El;
  same = Agree R n;
  o = λ k. R.o;
  e = power R 0;
  add = λ u v k. R.add (u k) (v k);
  mul = conv R n;
  neg = λ u k. R.neg (u k);
}

-- a, as a polynomial
abbrev pub scalar : (R : Ops) → R.El → ℕ → R.El
scalar R a k = R.mul a (power R 0 k)

-- x - 1
abbrev pub phi1 : (R : Ops) → ℕ → ℕ → R.El
phi1 R n k = R.add (power R (1 % n) k) (R.neg (power R 0 k))

-- 1 + x + .. + x^(n-1)
abbrev pub ones : (R : Ops) → ℕ → R.El
ones R k = R.e

-- polynomials up to multiples of 1 + x + .. + x^(n-1)
abbrev pub reduced : Ops → ℕ → Ops
reduced R n = quotient (cyclic R n) (ones R)

-- coefficient n - 1 is taken from every coefficient
abbrev pub reduce : (R : Ops) → ℕ → (ℕ → R.El) → ℕ → R.El
reduce R n u k = R.add (u k) (R.neg (u (n - 1)))

-- coefficient k is -(y_0 + .. + y_k): what times x - 1 is y, where y's coefficients sum up to zero
abbrev pub divided : (R : Ops) → (ℕ → R.El) → ℕ → R.El
divided R y k = R.neg (sum R (suc k) y)

-- Newton's step from one inverse of f to a better one: u (2 - f u)
abbrev pub refined : (R : Ops) → ℕ → (ℕ → R.El) → (ℕ → R.El) → ℕ → R.El
refined R n f u = conv R n u (λ k. R.add (times_one (cyclic R n) 2 k) (R.neg (conv R n f u k)))
