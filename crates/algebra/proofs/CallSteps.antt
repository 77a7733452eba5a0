-- What seal, open, the key test and make work out step by step, over polynomials of words and digits.
use Rattle.std.proofs.Common.{◌≡◌, ℕ, suc, ◌-◌, ◌^◌, ◌<◌, ◌≤◌, [], ◌∷◌, pos, ◌+ℤ◌, ◌*ℤ◌, neg_ℤ, nat_abs, ap, ◌∙◌, ap₂, inl, inr, arith, lit<, pow_pos}
use Rattle.algebra.specs.Ring.{Agree, Differ, integers, ones, reduce, divided}
use Rattle.algebra.specs.Ternary.{Ternary, correlation}
use Rattle.algebra.specs.Polynomials.{Poly, times, Φ1, scale, less, SameMod, SamePhi, Balanced, InverseMod, centre}
use Rattle.algebra.specs.Scheme.{lifting, shift, opened_a, opened_m, opened_r, candidate, public_key, Makes, Unmakable, Encrypts, Key}
use Rattle.algebra.proofs.Derived.{mul_left, mul_right}
use Rattle.algebra.proofs.Solver.{x, one, nat, ◌⊞◌, ◌⊠◌, minus, follows}
use Rattle.algebra.proofs.Integers.{integer_laws, mod_laws, equal_mod}
use Rattle.algebra.proofs.Classes.{centre_same, centre_zero}
use Rattle.algebra.proofs.Cyclic.{cyclic_laws}
use Rattle.algebra.proofs.Divide.{divided_last}
use Rattle.algebra.proofs.Keys.{sum_class}
use Rattle.algebra.proofs.Phi.{phi1_ones, reduce_last, reduced_laws}
use Rattle.algebra.proofs.Polynomials.{agree_mod, balanced_times, divides_same, inverse_only, inverse_same, ternary_equal, ternary+_same}
use Rattle.algebra.proofs.Sums.{sum_cong}
use Rattle.algebra.proofs.WordInverses.{inverses_at, width_divides}

-- words modulo 65536 are right modulo 2 ^ w
pub narrowed : (w n : ℕ) → w ≤ 16 → {u v : Poly} → SameMod 65536 n u v → SameMod (2 ^ w) n u v
narrowed w n narrow h = divides_same (2 ^ w) (2 ^ (16 - w)) 65536 n (width_divides w narrow) h

-- ---- seal

-- ---- open
-- z is a modulo 3, where u is f, y is c u and z is y centred
pub a_is : (n w : ℕ) → w ≤ 16 → (f c u y z : Poly) → SameMod 65536 n u f → SameMod 65536 n y (times n c u) → SameMod 3 n z (λ k. centre (2 ^ w) (y k)) → SameMod 3 n z (opened_a n (2 ^ w) f c)
a_is n w narrow f c u y z hu hy hz =
    let C = cyclic_laws (mod_laws 65536) n in
    let whole : SameMod (2 ^ w) n y (times n c f) = narrowed w n narrow (C.tr hy (mul_left C c hu)) in
    record { at = λ k l. (mod_laws 3).tr (hz.at k l) (equal_mod 3 (centre_same (2 ^ w) (pow_pos w) (y k) (times n c f k) (whole.at k l))) }

-- to take the last coefficient from all keeps classes
reduce_cong : (m n : ℕ) {u v : Poly} → 0 < n → SameMod m n u v → (k : ℕ) → k < n → Differ integers (pos m) (reduce integers n u k) (reduce integers n v k)
reduce_cong m n some h k l = let M = mod_laws m in M.add_cong (h.at k l) (M.neg_cong (h.at (n - 1) (omega arith)))

-- m is m', where z is a, d is fp and p is z d modulo 3
pub m_is : (n : ℕ) → 0 < n → (fp a z d p m : Poly) → SameMod 3 n z a → SameMod 3 n d fp → Agree integers n p (times n z d) → Agree integers n m (λ k. centre 3 (reduce integers n p k)) → Agree integers n m (opened_m n fp a)
m_is n some fp a z d p m hz hd hp hm =
    let C = cyclic_laws (mod_laws 3) n in
    let whole : SameMod 3 n p (times n a fp) = C.tr (agree_mod 3 n hp) (C.mul_cong hz hd) in
    record { at = λ k l. hm.at k l ∙ centre_same 3 (lit< tt) (reduce integers n p k) (reduce integers n (times n a fp) k) (reduce_cong 3 n some whole k l) }

-- v reduced and centred is r', where y is (x - 1) s, b is c - y and v is b hq
pub r_is : (n w : ℕ) → 0 < n → w ≤ 16 → (hq c s s' y b v : Poly) → Agree integers n s' s → SameMod 65536 n y (times n (Φ1 n) s') → SameMod 65536 n b (less c y) → SameMod 65536 n v (times n b hq) →
    Agree integers n (λ k. centre (2 ^ w) (reduce integers n v k)) (opened_r n (2 ^ w) hq c s)
r_is n w some narrow hq c s s' y b v hs hy hb hv =
    let C = cyclic_laws (mod_laws 65536) n in
    let rest : SameMod 65536 n b (less c (times n (Φ1 n) s)) = C.tr hb (C.add_cong (C.rfl c) (C.neg_cong (C.tr hy (mul_left C (Φ1 n) (agree_mod 65536 n hs))))) in
    let whole : SameMod (2 ^ w) n v (times n (less c (times n (Φ1 n) s)) hq) = narrowed w n narrow (C.tr hv (mul_right C hq rest)) in
    record { at = λ k l. centre_same (2 ^ w) (pow_pos w) (reduce integers n v k) (reduce integers n (times n (less c (times n (Φ1 n) s)) hq) k) (reduce_cong (2 ^ w) n some whole k l) }

-- what is reduced and centred is ternary where it is small
pub reduced_ternary : (n q : ℕ) → 0 < q → (u : Poly) → ((k : ℕ) → k < n → nat_abs (centre q (reduce integers n u k)) ≤ 1) → Ternary n (λ k. centre q (reduce integers n u k))
reduced_ternary n q some u h = record { digit = h; last = centre_zero q some (reduce integers n u (n - 1)) (reduce_last (mod_laws q) n u) }

-- ---- the key test
-- v centred is the candidate, where u is f, y is h u and v is y divided by 3 (x - 1)
pub candidate_words : (n w : ℕ) → w ≤ 16 → (h f u y v : Poly) → SameMod 65536 n u f → SameMod 65536 n y (times n h u) → SameMod 65536 n v (λ k. pos 43691 *ℤ divided integers y k) →
    Agree integers n (λ k. centre (2 ^ w) (v k)) (candidate (2 ^ w) 43691 (times n h f))
candidate_words n w narrow h f u y v hu hy hv =
    let C = cyclic_laws (mod_laws 65536) n in
    let whole : SameMod (2 ^ w) n y (times n h f) = narrowed w n narrow (C.tr hy (mul_left C h hu)) in
    record {
      at = λ k l.
          let M = mod_laws (2 ^ w) in
          centre_same (2 ^ w) (pow_pos w) (v k) (pos 43691 *ℤ divided integers (times n h f) k)
          (M.tr ((narrowed w n narrow hv).at k l) (mul_left M (pos 43691) (sum_class (2 ^ w) n y (times n h f) whole k l)));
    }

-- the candidate is ternary where it is small, since the coefficients of h add up to 0
pub candidate_ternary : (n q t : ℕ) → 2 ≤ n → 0 < q → (h f : Poly) → Balanced q n h → ((k : ℕ) → k < n → nat_abs (candidate q t (times n h f) k) ≤ 1) → Ternary n (candidate q t (times n h f))
candidate_ternary n q t two some h f hs small =
    let M = mod_laws q in
    let d = times n h f in
    let none : Differ integers (pos q) (pos t *ℤ divided integers d (n - 1)) (pos 0) =
    follows M (pos t ∷ divided integers d (n - 1) ∷ []) (x 0 ⊠ x 1) (nat 0) ((x 0, x 1, nat 0) ∷ []) tt (divided_last M n two d (balanced_times q n h f hs), tt) in
    record { digit = small; last = centre_zero q some (pos t *ℤ divided integers d (n - 1)) none }

-- equal polynomials correlate alike
pub correlation_same : (n : ℕ) → 2 ≤ n → {u v : Poly} → Agree integers n u v → correlation n u ≡ correlation n v
correlation_same n two a = sum_cong integer_laws (n - 2) (λ i l. ap₂ ◌*ℤ◌ (a.at i (omega arith)) (a.at (suc i) (omega arith)))

-- ---- make
-- h is the public key, where u is g, p is u fq, y is (x - 1) p and h is 3 y
pub public_is : (q n : ℕ) (g fq u p y h : Poly) → SameMod q n u g → SameMod q n p (times n u fq) → SameMod q n y (times n (Φ1 n) p) → SameMod q n h (scale (pos 3) y) → SameMod q n h (public_key n g fq)
public_is q n g fq u p y h hu hp hy hh =
    let C = cyclic_laws (mod_laws q) n in
    let whole : SameMod q n y (times n (Φ1 n) (times n g fq)) = C.tr hy (mul_left C (Φ1 n) (C.tr hp (mul_right C fq hu))) in
    C.tr hh (record { at = λ k l. mul_left (mod_laws q) (pos 3) (whole.at k l) })

-- every inverse of f gives the same public key
pub public_same : (q n : ℕ) → 0 < n → (f g fq fq' : Poly) → InverseMod q n f fq → InverseMod q n f fq' → SameMod q n (public_key n g fq) (public_key n g fq')
public_same q n some f g fq fq' i j =
    let M = mod_laws q in
    let C = cyclic_laws M n in
    let d : SamePhi q n fq fq' = follows (reduced_laws M n) (f ∷ fq ∷ fq' ∷ []) (x 1) (x 2) ((minus (x 1), x 0 ⊠ x 2, one) ∷ (x 2, x 0 ⊠ x 1, one) ∷ []) tt (j, (i, tt)) in
    let whole : SameMod q n (times n (Φ1 n) (times n g fq)) (times n (Φ1 n) (times n g fq')) =
    follows C (Φ1 n ∷ g ∷ fq ∷ fq' ∷ ones integers ∷ d.by ∷ []) (x 0 ⊠ (x 1 ⊠ x 2)) (x 0 ⊠ (x 1 ⊠ x 3))
    ((x 0 ⊠ x 1, x 2, x 3 ⊞ x 4 ⊠ x 5) ∷ (x 1 ⊠ x 5, x 0 ⊠ x 4, nat 0) ∷ []) tt (d.is, (phi1_ones M n some, tt)) in
    record { at = λ k l. mul_left M (pos 3) (whole.at k l) }

module _ (n w : ℕ) (some : 0 < n) (f g fp h hq : Poly) (made : Makes n (2 ^ w) f g fp h hq) where
  -- the public key of any inverse of f has the inverse hq
  key_inverse : (fq : Poly) → InverseMod (2 ^ w) n f fq → InverseMod (2 ^ w) n (public_key n g fq) hq
  key_inverse fq i =
      let C = cyclic_laws (mod_laws (2 ^ w)) n in
      inverse_same (2 ^ w) n (C.tr made.h_is (public_same (2 ^ w) n some f g made.fq fq made.fq_inverse i)) (C.rfl hq) made.hq_inverse

  -- what was made can be made
  pub makable : 1 ≤ w → w ≤ 16 → Unmakable n (2 ^ w) f g → ⊥
  makable wide narrow (inl none) = none made.fq ((inverses_at n w f wide narrow).down made.fq made.fq_inverse)
  makable wide narrow (inr (inl none)) = none fp made.fp_inverse
  makable wide narrow (inr (inr (fq, i, none))) = none hq (key_inverse fq i)

  -- and only in one way
  pub made_only : (fp' h' hq' : Poly) → Makes n (2 ^ w) f g fp' h' hq' → Agree integers n fp fp' × SameMod (2 ^ w) n h h' × SameMod (2 ^ w) n hq hq'
  made_only fp' h' hq' other =
      let C = cyclic_laws (mod_laws (2 ^ w)) n in
      let key : SameMod (2 ^ w) n h h' = C.tr made.h_is (C.tr (public_same (2 ^ w) n some f g made.fq other.fq made.fq_inverse other.fq_inverse) (C.sy other.h_is)) in (
        ternary_equal n fp fp' made.fp_small other.fp_small (inverse_only 3 n f fp fp' made.fp_inverse other.fp_inverse made.fp_small.last other.fp_small.last),
        key,
        inverse_only (2 ^ w) n h hq hq' made.hq_inverse (inverse_same (2 ^ w) n (C.sy key) (C.rfl hq') other.hq_inverse) made.hq_last other.hq_last,
      )

-- ---- equal polynomials
-- what lifts equal polynomials is equal
pub lifting_same : (n : ℕ) {u v : Poly} → Agree integers n u v → Agree integers n (lifting n u) (lifting n v)
lifting_same n {u} {v} a = record {
  at = λ k l.
      let total : shift n u ≡ shift n v = ap (λ z. neg_ℤ (pos n *ℤ z)) (sum_cong integer_laws n a.at) in
      ap (λ z. centre 3 (neg_ℤ z)) (sum_cong integer_laws (suc k) (λ i b. ap₂ ◌+ℤ◌ (a.at i (omega arith)) total));
}

-- r' is the same for equal lifts
pub opened_r_same : (n q : ℕ) (hq c : Poly) {s s' : Poly} → 0 < n → Agree integers n s s' → Agree integers n (opened_r n q hq c s) (opened_r n q hq c s')
opened_r_same n q hq c {s} {s'} some a =
    let C = cyclic_laws integer_laws n in
    let whole : Agree integers n (times n (less c (times n (Φ1 n) s)) hq) (times n (less c (times n (Φ1 n) s')) hq) = mul_right C hq (C.add_cong (C.rfl c) (C.neg_cong (mul_left C (Φ1 n) a))) in
    record { at = λ k l. ap₂ (λ x y. centre q (x +ℤ neg_ℤ y)) (whole.at k l) (whole.at (n - 1) (omega arith)) }

-- ---- what encrypts and what is a key, along equal polynomials
-- c of one class, and h equal
pub encrypts_class : (n q : ℕ) {h h' r m c c' : Poly} → SameMod q n h h' → SameMod q n c' c → Encrypts n q h r m c → Encrypts n q h' r m c'
encrypts_class n q {h} {h'} {r} {m} sh sc e =
    let C = cyclic_laws (mod_laws q) n in
    record {
      r_small = e.r_small;
      m_small = e.m_small;
      s = e.s;
      lifts = e.lifts;
      is = C.tr sc (C.tr e.is (C.add_cong (mul_left C r sh) (C.rfl (times n (Φ1 n) e.s))));
    }

pub key_along : (n q : ℕ) {f f' fp fp' g h h' hq hq' : Poly} → 2 ≤ n → Agree integers n f' f → Agree integers n fp' fp → SameMod q n h' h → SameMod q n hq' hq → Key n q f fp g h hq → Key n q f' fp' g h' hq'
key_along n q two af afp sh shq key =
    let C = cyclic_laws (mod_laws q) n in
    let T = cyclic_laws (mod_laws 3) n in
    record {
      f_small = ternary+_same n two af key.f_small;
      g_small = key.g_small;
      fp_inverse = inverse_same 3 n (T.sy (agree_mod 3 n af)) (T.sy (agree_mod 3 n afp)) key.fp_inverse;
      equation = C.tr (C.mul_cong sh (agree_mod q n af)) key.equation;
      hq_inverse = inverse_same q n (C.sy sh) (C.sy shq) key.hq_inverse;
    }
