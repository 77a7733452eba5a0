-- Keys, lifts and what opening computes, over integer polynomials.
use Rattle.std.specs.Prelude.{◌≡◌, ℕ, ◌-◌, ◌%◌, cond, ◌⊎◌, ℤ, pos, ◌+ℤ◌, ◌*ℤ◌, neg_ℤ, ◌==◌}
use Rattle.algebra.specs.Ring.{integers, sum, reduce, divided}
use Rattle.algebra.specs.Ternary.{Ternary, Ternary+}
use Rattle.algebra.specs.Polynomials.{Poly, times, Φ1, scale, plus, less, SameMod, SamePhi, InverseMod, NoInverseMod, centre, Centred}

-- h f = 3 (x - 1) g modulo q
abbrev pub Equation : (n q : ℕ) → (h f g : Poly) → Type 0
Equation n q h f g = SameMod q n (times n h f) (scale (pos 3) (times n (Φ1 n) g))

-- f, fp, h and hq are a key, with g
pub record Key (n q : ℕ) (f fp g h hq : Poly) : Type 0 where
  pub f_small : Ternary+ n f
  pub g_small : Ternary+ n g
  pub fp_inverse : InverseMod 3 n f fp
  pub equation : Equation n q h f g
  pub hq_inverse : InverseMod q n h hq

-- s is what lifts m: (x - 1) s is m modulo (3, 1 + x + .. + x^(n-1))
pub record Lifts (n : ℕ) (m s : Poly) : Type 0 where
  pub small : Ternary n s
  pub reduces : SamePhi 3 n (times n (Φ1 n) s) m

-- what is added to every coefficient of m, for the sum to become a multiple of 3
abbrev pub shift : ℕ → Poly → ℤ
shift n m = neg_ℤ (pos n *ℤ sum integers n m)

-- what lifts m, by a formula: coefficient k is -(m_0 + t) - .. - (m_k + t), as -1, 0 or 1
abbrev pub lifting : ℕ → Poly → Poly
lifting n m k = centre 3 (divided integers (λ i. m i +ℤ shift n m) k)

-- r and m encrypt to c under h: c = r h + (x - 1) s modulo q, where s lifts m
pub record Encrypts (n q : ℕ) (h r m c : Poly) : Type 0 where
  pub r_small : Ternary n r
  pub m_small : Ternary n m
  pub s : Poly
  pub lifts : Lifts n m s
  pub is : SameMod q n c (plus (times n r h) (times n (Φ1 n) s))

-- what c f is where r and m encrypt to c: 3 (x - 1) r g + (x - 1) s f
abbrev pub combination : ℕ → (r g s f : Poly) → Poly
combination n r g s f = plus (scale (pos 3) (times n (Φ1 n) (times n r g))) (times n (Φ1 n) (times n s f))

-- what opening computes from c: a, then m', then what lifts it, then r'
pub record Opens (n q : ℕ) (f fp hq c a m' s' r' : Poly) : Type 0 where
  pub a_is : SameMod q n a (times n c f)
  pub a_centred : Centred n q a
  pub m_is : SamePhi 3 n (times n a fp) m'
  pub m_small : Ternary n m'
  pub s_is : Lifts n m' s'
  pub r_is : SamePhi q n (times n (less c (times n (Φ1 n) s')) hq) r'
  pub r_centred : Centred n q r'
  pub r_last : r' (n - 1) ≡ pos 0

-- a, m' and r' by formulas; s' is lifting n m'
abbrev pub opened_a : (n q : ℕ) → (f c : Poly) → Poly
opened_a n q f c k = centre q (times n c f k)

abbrev pub opened_m : (n : ℕ) → (fp a : Poly) → Poly
opened_m n fp a k = centre 3 (reduce integers n (times n a fp) k)

abbrev pub opened_r : (n q : ℕ) → (hq c s : Poly) → Poly
opened_r n q hq c s k = centre q (reduce integers n (times n (less c (times n (Φ1 n) s)) hq) k)

-- where 3 t = 1 modulo q, what g must be for 3 (x - 1) g = d: coefficient k is -(d_0 + .. + d_k) t, centred
abbrev pub candidate : ℕ → ℕ → Poly → Poly
candidate q t d k = centre q (pos t *ℤ divided integers d k)

-- the signs of the even-numbered coefficients flipped
abbrev pub flip : Poly → Poly
flip v k = cond (k % 2 == 0) (neg_ℤ (v k)) (v k)

-- the public key of g, where fq is an inverse of f: 3 (x - 1) g fq
abbrev pub public_key : ℕ → (g fq : Poly) → Poly
public_key n g fq = scale (pos 3) (times n (Φ1 n) (times n g fq))

-- fp, h and hq are what making works out from f and g: the inverse of f modulo 3, the public key, and its inverse
pub record Makes (n q : ℕ) (f g fp h hq : Poly) : Type 0 where
  pub fp_inverse : InverseMod 3 n f fp
  pub fp_small : Ternary n fp
  pub fq : Poly
  pub fq_inverse : InverseMod q n f fq
  pub h_is : SameMod q n h (public_key n g fq)
  pub hq_inverse : InverseMod q n h hq
  pub hq_last : hq (n - 1) ≡ pos 0

-- f has no inverse modulo 2, or none modulo 3, or the public key has none
abbrev pub Unmakable : (n q : ℕ) → (f g : Poly) → Type 0
Unmakable n q f g = NoInverseMod 2 n f ⊎ (NoInverseMod 3 n f ⊎ ((fq : Poly) × InverseMod q n f fq × NoInverseMod q n (public_key n g fq)))
