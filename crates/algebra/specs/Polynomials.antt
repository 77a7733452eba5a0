-- Polynomials over the integers where x^n counts as 1, up to multiples of k and of 1 + x + .. + x^(n-1).
use Rattle.std.specs.Prelude.{ℕ, suc, ◌+◌, ◌-◌, ◌%◌, ◌<◌, ◌≤◌, cond, ℤ, pos, negsuc, ◌+ℤ◌, ◌*ℤ◌, neg_ℤ, nat_le, unsigned_abs}
use Rattle.algebra.specs.Ring.{Ops, Agree, integers, Differ, quotient, sum, conv, power, phi1, reduced, refined}

-- integers up to multiples of k
abbrev pub mod_k : ℕ → Ops
mod_k k = quotient integers (pos k)

-- coefficients 0 to n - 1 are read
abbrev pub Poly : Type 0
Poly = ℕ → ℤ

-- the product where x^n counts as 1
abbrev pub times : ℕ → Poly → Poly → Poly
times n = conv integers n

-- x - 1
abbrev pub Φ1 : ℕ → Poly
Φ1 n = phi1 integers n

abbrev pub scale : ℤ → Poly → Poly
scale a u k = a *ℤ u k

abbrev pub plus : Poly → Poly → Poly
plus u v k = u k +ℤ v k

abbrev pub less : Poly → Poly → Poly
less u v k = u k +ℤ neg_ℤ (v k)

-- each coefficient the same up to multiples of k
abbrev pub SameMod : (k n : ℕ) → Poly → Poly → Type 0
SameMod k n u v = Agree (mod_k k) n u v

-- the same up to multiples of k and of 1 + x + .. + x^(n-1)
abbrev pub SamePhi : (k n : ℕ) → Poly → Poly → Type 0
SamePhi k n u v = (reduced (mod_k k) n).same u v

-- the coefficients sum up to a multiple of k
abbrev pub Balanced : (k n : ℕ) → Poly → Type 0
Balanced k n u = Differ integers (pos k) (sum integers n u) (pos 0)

-- u is an inverse of f modulo (k, 1 + x + .. + x^(n-1))
abbrev pub InverseMod : (k n : ℕ) → Poly → Poly → Type 0
InverseMod k n f u = SamePhi k n (times n f u) (power integers 0)

-- f has none
abbrev pub NoInverseMod : (k n : ℕ) → Poly → Type 0
NoInverseMod k n f = (u : Poly) → InverseMod k n f u → ⊥

-- Newton's step: u (2 - f u)
abbrev pub refine : ℕ → Poly → Poly → Poly
refine n = refined integers n

abbrev pub refine_four : ℕ → Poly → Poly → Poly
refine_four n f u = refine n f (refine n f (refine n f (refine n f u)))

-- the integer of z's class from 0 to m - 1
abbrev pub as_word : ℕ → ℤ → ℕ
as_word m (pos a) = a % m
as_word m (negsuc a) = (m - suc a % m) % m

-- the integer of z's class from -q/2 on, to q/2 - 1 at even q
abbrev pub centre : ℕ → ℤ → ℤ
centre q z = cond (nat_le q (as_word q z + as_word q z)) (neg_ℤ (pos (q - as_word q z))) (pos (as_word q z))

-- each coefficient at most q / 2 in size
abbrev pub Centred : (n q : ℕ) → Poly → Type 0
Centred n q u = (k : ℕ) → k < n → unsigned_abs (u k) + unsigned_abs (u k) ≤ q
