-- Opening gives back the pair that was sealed, and refuses only where there is none.
use Rattle.std.proofs.Common.{◌≡◌, ℕ, ◌+◌, ◌-◌, ◌*◌, ◌%◌, ◌^◌, ◌<◌, ◌≤◌, [], ◌∷◌, pos, nat_abs, sym, ◌∙◌, arith, lit<}
use Rattle.algebra.specs.Ring.{reduce, Agree, integers, scalar}
use Rattle.algebra.specs.Ternary.{Ternary}
use Rattle.algebra.specs.Polynomials.{centre, Poly, times, Φ1, SameMod, SamePhi, Balanced, plus, less}
use Rattle.algebra.specs.Scheme.{combination, Key, Lifts, lifting, Encrypts, Opens, opened_a, opened_m, opened_r}
use Rattle.algebra.specs.Sets.{Set}
use Rattle.algebra.proofs.Derived.{add_right}
use Rattle.algebra.proofs.Solver.{x, one, nat, ◌⊞◌, ◌⊠◌, ◌⊟◌, minus, ring, follows}
use Rattle.algebra.proofs.Integers.{integer_laws, mod_laws, equal_mod, close, inverse_of}
use Rattle.algebra.proofs.Cyclic.{cyclic_laws, scale_is}
use Rattle.algebra.proofs.Phi.{reduce_differs, reduce_last, reduced_laws, by_sum}
use Rattle.algebra.proofs.Classes.{centre_is, centre_small, centre_zero}
use Rattle.algebra.proofs.Bound.{combination_small}
use Rattle.algebra.proofs.Divide.{divide_unique_phi}
use Rattle.algebra.proofs.Polynomials.{canonical, agree_mod, mod_phi, ternary_equal, ternary_same, balanced_same, balanced_times, balanced_phi1, balanced_plus, balanced_less}
use Rattle.algebra.proofs.Lift.{lifting_is}
use Rattle.algebra.proofs.Sets.{sets_suffice}

module _ (n q i : ℕ) (long : 2 ≤ n) (big : 2 < q) (wide : 128 * ((n - 1) * (n - 1)) < q * q) (three : n * i % 3 ≡ 1) (f fp g h hq : Poly) (key : Key n q f fp g h hq) (r s m c : Poly)
    (tr : Ternary n r) (tm : Ternary n m) (lm : Lifts n m s) (sealed : SameMod q n c (plus (times n r h) (times n (Φ1 n) s))) where
  abbrev whole : Poly
  whole = combination n r g s f

  product_mod : SameMod q n (times n c f) whole
  product_mod =
      let L = cyclic_laws (mod_laws q) n in
      let K = scalar integers (pos 3) in
      L.tr
      (follows L (c ∷ r ∷ h ∷ Φ1 n ∷ s ∷ f ∷ K ∷ g ∷ []) (x 0 ⊠ x 5) (x 6 ⊠ (x 3 ⊠ (x 1 ⊠ x 7)) ⊞ x 3 ⊠ (x 4 ⊠ x 5))
      ((x 5, x 0, x 1 ⊠ x 2 ⊞ x 3 ⊠ x 4) ∷ (x 1, x 2 ⊠ x 5, x 6 ⊠ (x 3 ⊠ x 7)) ∷ []) tt
      (sealed, (L.tr key.equation (L.sy (scale_is (mod_laws q) n (pos 3) (times n (Φ1 n) g))), tt)))
      (add_right L (times n (Φ1 n) (times n s f)) (scale_is (mod_laws q) n (pos 3) (times n (Φ1 n) (times n r g))))

  whole_small : (k : ℕ) → k < n → nat_abs (whole k) + nat_abs (whole k) < q
  whole_small k l = combination_small n q long wide r g s f tr key.g_small lm.small key.f_small k l

  module _ (a m' s' r' : Poly) (op : Opens n q f fp hq c a m' s' r') where
    a_exact : Agree integers n a whole
    a_exact = record { at = λ k l. close q (a k) (whole k) (((cyclic_laws (mod_laws q) n).tr op.a_is product_mod).at k l) (omega (arith, op.a_centred k l, whole_small k l)) }

    three_gone : SameMod 3 n a (times n (Φ1 n) (times n s f))
    three_gone = record {
      at = λ k l. record {
        by = times n (Φ1 n) (times n r g) k;
        is = a_exact.at k l ∙ ring integer_laws (times n (Φ1 n) (times n r g) k ∷ times n (Φ1 n) (times n s f) k ∷ []) (nat 3 ⊠ x 0 ⊞ x 1) (x 1 ⊞ nat 3 ⊠ x 0) tt;
      };
    }

    pub m_back : Agree integers n m' m
    m_back =
        let L = reduced_laws (mod_laws 3) n in
        let e : SamePhi 3 n (times n a fp) m =
        follows L (a ∷ fp ∷ Φ1 n ∷ s ∷ f ∷ m ∷ []) (x 0 ⊠ x 1) (x 5)
        ((x 1, x 0, x 2 ⊠ (x 3 ⊠ x 4)) ∷ (x 2 ⊠ x 3, x 4 ⊠ x 1, one) ∷ (one, x 2 ⊠ x 3, x 5) ∷ []) tt
        (mod_phi 3 n three_gone, (key.fp_inverse, (lm.reduces, tt))) in
        ternary_equal n m' m op.m_small tm (canonical 3 n m' m (L.tr (L.sy op.m_is) e) op.m_small.last tm.last)

    s_back : Agree integers n s' s
    s_back =
        let L = reduced_laws (mod_laws 3) n in
        let ls = op.s_is in
        ternary_equal n s' s ls.small lm.small
        (divide_unique_phi (mod_laws 3) n long (pos i) (inverse_of 3 n i three) s' s
        (L.tr ls.reduces (L.tr (mod_phi 3 n (agree_mod 3 n m_back)) (L.sy lm.reduces)))
        (equal_mod 3 (ls.small.last ∙ sym lm.small.last)))

    pub r_back : Agree integers n r' r
    r_back =
        let L = reduced_laws (mod_laws q) n in
        let e : SamePhi q n (times n (less c (times n (Φ1 n) s')) hq) r =
        follows L (c ∷ Φ1 n ∷ s' ∷ hq ∷ r ∷ s ∷ h ∷ []) ((x 0 ⊟ x 1 ⊠ x 2) ⊠ x 3) (x 4)
        ((x 3, x 0, x 4 ⊠ x 6 ⊞ x 1 ⊠ x 5) ∷ (minus (x 3 ⊠ x 1), x 2, x 5) ∷ (x 4, x 6 ⊠ x 3, one) ∷ []) tt
        (mod_phi q n sealed, (mod_phi q n (agree_mod q n s_back), (key.hq_inverse, tt))) in
        let d : SameMod q n r' r = canonical q n r' r (L.tr (L.sy op.r_is) e) op.r_last tr.last in
        record { at = λ k l. close q (r' k) (r k) (d.at k l) (omega (arith, op.r_centred k l, tr.digit k l)) }

-- what opening answers encrypts to the record, whoever made it
module _ (n q j : ℕ) (some : 0 < n) (odd : n * j % q ≡ 1) (f fp g h hq c a m' s' r' : Poly) (key : Key n q f fp g h hq) (op : Opens n q f fp hq c a m' s' r')
    (h_sum : Balanced q n h) (c_sum : Balanced q n c) where
  pub encrypts : SameMod q n c (plus (times n r' h) (times n (Φ1 n) s'))
  encrypts =
      let M = mod_laws q in
      let L = reduced_laws M n in
      let C = cyclic_laws M n in
      let b = less c (times n (Φ1 n) s') in
      let e : SamePhi q n (times n r' h) b =
      follows L (r' ∷ h ∷ b ∷ hq ∷ []) (x 0 ⊠ x 1) (x 2) ((minus (x 1), x 2 ⊠ x 3, x 0) ∷ (x 2, x 1 ⊠ x 3, one) ∷ []) tt (op.r_is, (key.hq_inverse, tt)) in
      let rh : Balanced q n (times n r' h) = balanced_same q n (C.mul_comm r' h) (balanced_times q n h r' h_sum) in
      let bs : Balanced q n b = balanced_less q n c (times n (Φ1 n) s') c_sum (balanced_phi1 q n some s') in
      let same : SameMod q n (times n r' h) b = by_sum M n (pos j) (inverse_of q n j odd) e (M.tr rh (M.sy bs)) in
      follows C (c ∷ times n r' h ∷ times n (Φ1 n) s' ∷ []) (x 0) (x 1 ⊞ x 2) ((minus one, x 1, x 0 ⊟ x 2) ∷ []) tt (same, tt)

-- what a pair encrypts to is balanced where h is
pub ciphertext_balanced : (n q : ℕ) (h r m c : Poly) → 0 < n → Balanced q n h → Encrypts n q h r m c → Balanced q n c
ciphertext_balanced n q h r m c some b e =
    balanced_same q n e.is (balanced_plus q n (times n r h) (times n (Φ1 n) e.s)
    (balanced_same q n ((cyclic_laws (mod_laws q) n).mul_comm r h) (balanced_times q n h r b)) (balanced_phi1 q n some e.s))

-- ---- the formulas
module _ (n q : ℕ) (f fp hq c : Poly) (two : 2 ≤ n) (three : n % 3 ≡ 0 → ⊥) (some : 0 < q) where
  abbrev A : Poly
  A = opened_a n q f c

  abbrev M : Poly
  M = opened_m n fp (opened_a n q f c)

  abbrev S : Poly
  S = lifting n (opened_m n fp (opened_a n q f c))

  -- to reduce and centre leaves the class
  class : (k : ℕ) → 0 < k → (u : Poly) → SamePhi k n u (λ i. centre k (reduce integers n u i))
  class k h u =
      (reduced_laws (mod_laws k) n).tr (reduce_differs (mod_laws k) n u)
      (mod_phi k n ((cyclic_laws (mod_laws k) n).sy (record { at = λ i l. centre_is k h (reduce integers n u i) })))

  last : (k : ℕ) → 0 < k → (u : Poly) → centre k (reduce integers n u (n - 1)) ≡ pos 0
  last k h u = centre_zero k h (reduce integers n u (n - 1)) (reduce_last (mod_laws k) n u)

  pub computes : Opens n q f fp hq c A M S (opened_r n q hq c S)
  computes = record {
    a_is = record { at = λ i l. centre_is q some (times n c f i) };
    a_centred = λ i l. centre_small q some (times n c f i);
    m_is = class 3 (lit< tt) (times n A fp);
    m_small = record { digit = λ i l. omega (arith, centre_small 3 (lit< tt) (reduce integers n (times n A fp) i)); last = last 3 (lit< tt) (times n A fp) };
    s_is = (lifting_is n M two three).lifts;
    r_is = class q some (times n (less c (times n (Φ1 n) S)) hq);
    r_centred = λ i l. centre_small q some (reduce integers n (times n (less c (times n (Φ1 n) S)) hq) i);
    r_last = last q some (times n (less c (times n (Φ1 n) S)) hq);
  }

-- ---- at a set
module _ (n w : ℕ) (f fp g h hq : Poly) where
  pub gives_back : (r m c a m' s' r' : Poly) → Set n w → Key n (2 ^ w) f fp g h hq → Encrypts n (2 ^ w) h r m c → Opens n (2 ^ w) f fp hq c a m' s' r' → Agree integers n m' m × Agree integers n r' r
  gives_back r m c a m' s' r' set key e op =
      let facts = sets_suffice n w set in (
        m_back n (2 ^ w) n set.long facts.big set.wide facts.three f fp g h hq key r e.s m c e.r_small e.m_small e.lifts e.is a m' s' r' op,
        r_back n (2 ^ w) n set.long facts.big set.wide facts.three f fp g h hq key r e.s m c e.r_small e.m_small e.lifts e.is a m' s' r' op,
      )

  pub opened_encrypts : (c a m' s' r' : Poly) → Set n w → Key n (2 ^ w) f fp g h hq → Balanced (2 ^ w) n h → Balanced (2 ^ w) n c → Opens n (2 ^ w) f fp hq c a m' s' r' → Ternary n r' → Encrypts n (2 ^ w) h r' m' c
  opened_encrypts c a m' s' r' set key hs cs op t =
      let facts = sets_suffice n w set in
      record {
        r_small = t;
        m_small = op.m_small;
        s = s';
        lifts = op.s_is;
        is = encrypts n (2 ^ w) facts.inverse (omega (arith, set.long)) facts.inverse_is f fp g h hq c a m' s' r' key op hs cs;
      }

  pub refused_no_pair : (c a m' s' r' : Poly) → Set n w → Key n (2 ^ w) f fp g h hq → Opens n (2 ^ w) f fp hq c a m' s' r' → (Ternary n r' → ⊥) → (r m : Poly) → Encrypts n (2 ^ w) h r m c → ⊥
  refused_no_pair c a m' s' r' set key op not r m e =
      not (ternary_same n (omega (arith, set.long)) (gives_back r m c a m' s' r' set key e op).1 e.r_small)

  pub unique : (r m r₂ m₂ c : Poly) → Set n w → Key n (2 ^ w) f fp g h hq → Encrypts n (2 ^ w) h r m c → Encrypts n (2 ^ w) h r₂ m₂ c → Agree integers n m m₂ × Agree integers n r r₂
  unique r m r₂ m₂ c set key e e₂ =
      let C = cyclic_laws integer_laws n in
      let op = computes n (2 ^ w) f fp hq c set.long set.no_three (omega (arith, (sets_suffice n w set).big)) in
      let p = gives_back r m c _ _ _ _ set key e op in
      let p₂ = gives_back r₂ m₂ c _ _ _ _ set key e₂ op in
      (C.tr (C.sy p.0) p₂.0, C.tr (C.sy p.1) p₂.1)
