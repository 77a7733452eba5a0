-- From an inverse modulo d to one modulo d², and so from one modulo 2 to one modulo 2^w.
use Rattle.std.proofs.Common.{◌≡◌, ℕ, ◌*◌, ◌<◌, [], ◌∷◌, pos, sym, ◌∙◌}
use native.Mathlib.Decide.{dec_lt}
use Rattle.algebra.specs.Ring.{Ops, Laws, Hom, Agree, Differ, integers, quotient, conv, power, cyclic, reduced, ones, scalar, times_one, refined}
use Rattle.algebra.specs.Polynomials.{Poly, times, InverseMod, refine, refine_four}
use Rattle.algebra.specs.Theorems.{Inverses}
use Rattle.algebra.proofs.Derived.{add_left, mul_left}
use Rattle.algebra.proofs.Solver.{x, one, nat, ◌⊞◌, ◌⊠◌, ◌⊟◌, minus, follows}
use Rattle.algebra.proofs.Quotients.{up_to}
use Rattle.algebra.proofs.Integers.{integer_laws}
use Rattle.algebra.proofs.Cyclic.{cyclic_laws, scale_is}
use Rattle.algebra.proofs.Phi.{reduced_laws}
use Rattle.algebra.proofs.Homs.{hom_cyclic}
use Rattle.algebra.proofs.Polynomials.{divides_phi, inverse_only}

module _ {R : Ops} (L : Laws R) where
  open R use {El, e, add, mul, neg}

  pub newton : (d f g : El) → Differ R d (mul f g) e → Differ R (mul d d) (mul f (mul g (add (times_one R 2) (neg (mul f g))))) e
  newton d f g p = record {
    by = neg (mul p.by p.by);
    is = follows L (d ∷ f ∷ g ∷ p.by ∷ []) (x 1 ⊠ (x 2 ⊠ (nat 2 ⊟ x 1 ⊠ x 2))) (one ⊞ (x 0 ⊠ x 0) ⊠ minus (x 3 ⊠ x 3))
        ((minus (x 1 ⊠ x 2 ⊟ one ⊞ x 0 ⊠ x 3), x 1 ⊠ x 2, one ⊞ x 0 ⊠ x 3) ∷ []) tt (p.is, tt);
  }

-- multiples of d coefficient by coefficient are multiples of the polynomial d
module _ {R : Ops} (L : Laws R) (n : ℕ) (d : R.El) where
  open R use {El, o, e, add, mul}

  pub split : (u v : ℕ → El) → Agree (quotient R d) n u v → Differ (cyclic R n) (scalar R d) u v
  split u v h = record {
    by = λ k. chosen k (dec_lt k n);
    is = C.tr (record { at = λ k l. fits k l (dec_lt k n) }) (add_left C v (C.sy (scale_is L n d (λ k. chosen k (dec_lt k n)))));
  }
    where
      C : Laws (cyclic R n)
      C = cyclic_laws L n

      chosen : (k : ℕ) → Dec (k < n) → El
      chosen k (yes l) = (h.at k l).by
      chosen k (no l) = o

      fits : (k : ℕ) → k < n → (t : Dec (k < n)) → R.same (u k) (add (v k) (mul d (chosen k t)))
      fits k l (yes l') = (h.at k l').is
      fits k l (no m) = absurd (m l)

  pub join : (u v : ℕ → El) → Differ (cyclic R n) (scalar R d) u v → Agree (quotient R d) n u v
  join u v p = record { at = λ k l. record { by = p.by k; is = L.tr (p.is.at k l) (L.add_cong (L.rfl (v k)) ((scale_is L n d p.by).at k l)) } }

  -- the two orders of taking multiples
  pub split_phi : (u v : ℕ → El) → (reduced (quotient R d) n).same u v → Differ (reduced R n) (scalar R d) u v
  split_phi u v p =
      let s = split u (λ k. add (v k) (conv R n (ones R) p.by k)) p.is in
      record {
        by = s.by;
        is = record {
          by = p.by;
          is = follows (cyclic_laws L n) (u ∷ v ∷ ones R ∷ p.by ∷ scalar R d ∷ s.by ∷ []) (x 0) (x 1 ⊞ x 4 ⊠ x 5 ⊞ x 2 ⊠ x 3)
              ((one, x 0, x 1 ⊞ x 2 ⊠ x 3 ⊞ x 4 ⊠ x 5) ∷ []) tt (s.is, tt);
        };
      }

  pub join_phi : (u v : ℕ → El) → Differ (reduced R n) (scalar R d) u v → (reduced (quotient R d) n).same u v
  join_phi u v p = record {
    by = p.is.by;
    is = join u (λ k. add (v k) (conv R n (ones R) p.is.by k)) (record {
      by = p.by;
      is = follows (cyclic_laws L n) (u ∷ v ∷ ones R ∷ p.is.by ∷ scalar R d ∷ p.by ∷ []) (x 0) (x 1 ⊞ x 2 ⊠ x 3 ⊞ x 4 ⊠ x 5)
          ((one, x 0, x 1 ⊞ x 4 ⊠ x 5 ⊞ x 2 ⊠ x 3) ∷ []) tt (p.is.is, tt);
    });
  }

-- the step for polynomials: an inverse of f modulo (k, 1 + x + ..) gives one modulo (k², 1 + x + ..)
pub refine_inverse : (n k : ℕ) (f u : Poly) → InverseMod k n f u → InverseMod (k * k) n f (refine n f u)
refine_inverse n k f u p =
    let L = reduced_laws integer_laws n in
    let s = split_phi integer_laws n (pos k) (times n f u) (power integers 0) p in
    let t = newton L (scalar integers (pos k)) f u s in
    let kk : Agree integers n (times n (scalar integers (pos k)) (scalar integers (pos k))) (scalar integers (pos (k * k))) =
    record { at = λ i l. (scale_is integer_laws n (pos k) (scalar integers (pos k))).at i l ∙ sym (integer_laws.mul_assoc (pos k) (pos k) (power integers 0 i)) } in
    let up = up_to (cyclic_laws integer_laws n) (ones integers) kk in
    join_phi integer_laws n (pos (k * k)) (times n f (refine n f u)) (power integers 0)
    (record { by = t.by; is = L.tr t.is (L.add_cong (L.rfl (power integers 0)) (L.mul_cong up (L.rfl t.by))) })

four : (n : ℕ) (f u : Poly) → InverseMod 2 n f u → InverseMod 65536 n f (refine_four n f u)
four n f u i = refine_inverse n 256 f _ (refine_inverse n 16 f _ (refine_inverse n 4 f _ (refine_inverse n 2 f u i)))

pub inverses_are : (n q b c : ℕ) (f : Poly) → q ≡ 2 * b → q * c ≡ 65536 → Inverses n q f
inverses_are n q b c f e w = record {
  made = λ u i. divides_phi q c 65536 n w (four n f u i);
  down = λ u i. divides_phi 2 b q n (sym e) i;
  only = λ u v i j. inverse_only q n f u v i j;
}

-- ---- the step carries over
pub refined_cong : {R : Ops} (L : Laws R) (n : ℕ) {f f' u u' : ℕ → R.El} → Agree R n f f' → Agree R n u u' → Agree R n (refined R n f u) (refined R n f' u')
refined_cong {R} L n p q =
    let C = cyclic_laws L n in
    C.mul_cong q (C.add_cong (C.rfl (times_one (cyclic R n) 2)) (C.neg_cong (C.mul_cong p q)))

module _ {R S : Ops} (L : Laws R) (M : Laws S) (φ : R.El → S.El) (h : Hom R S φ) (n : ℕ) where
  pub hom_refined : (f u : ℕ → R.El) → Agree S n (λ k. φ (refined R n f u k)) (refined S n (λ k. φ (f k)) (λ k. φ (u k)))
  hom_refined f u =
      let C = cyclic_laws M n in
      let H = hom_cyclic L M φ h n in
      let K = cyclic R n in
      let p = conv R n f u in
      let two_less : ℕ → R.El = λ k. R.add (times_one K 2 k) (R.neg (p k)) in
      let two : Agree S n (λ k. φ (times_one (cyclic R n) 2 k)) (times_one (cyclic S n) 2) =
      C.tr (H.h_add (times_one K 1) K.e) (C.add_cong (C.tr (H.h_add K.o K.e) (C.add_cong H.h_o H.h_e)) H.h_e) in
      C.tr (H.h_mul u two_less)
      (mul_left C (λ k. φ (u k)) (C.tr (H.h_add (times_one K 2) (K.neg p)) (C.add_cong two (C.tr (H.h_neg p) (C.neg_cong (H.h_mul f u))))))
