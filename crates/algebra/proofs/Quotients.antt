-- A commutative ring up to the multiples of an element is one again.
use Rattle.std.proofs.Common.{[], ◌∷◌}
use Rattle.algebra.specs.Ring.{Ops, Laws, Differ, quotient}
use Rattle.algebra.proofs.Solver.{x, one, nat, ◌⊞◌, ◌⊠◌, minus, follows}

module _ {R : Ops} (L : Laws R) (d : R.El) where
  open R use {El, same, o, add, mul, neg}

  pub up_to : {a b : El} → same a b → Differ R d a b
  up_to {a} {b} h = record { by = o; is = follows L (a ∷ b ∷ d ∷ []) (x 0) (x 1 ⊞ x 2 ⊠ nat 0) ((one, x 0, x 1) ∷ []) tt (h, tt) }

  pub quotient_laws : Laws (quotient R d)
  quotient_laws = record {
    rfl = λ a. up_to (L.rfl a);
    sy = λ {a} {b} p. record {
      by = neg p.by;
      is = follows L (a ∷ b ∷ d ∷ p.by ∷ []) (x 1) (x 0 ⊞ x 2 ⊠ minus (x 3)) ((minus one, x 0, x 1 ⊞ x 2 ⊠ x 3) ∷ []) tt (p.is, tt);
    };
    tr = λ {a} {b} {c} p q. record {
      by = add p.by q.by;
      is = follows L (a ∷ b ∷ c ∷ d ∷ p.by ∷ q.by ∷ []) (x 0) (x 2 ⊞ x 3 ⊠ (x 4 ⊞ x 5))
          ((one, x 0, x 1 ⊞ x 3 ⊠ x 4) ∷ (one, x 1, x 2 ⊞ x 3 ⊠ x 5) ∷ []) tt (p.is, (q.is, tt));
    };
    add_cong = λ {a} {b} {c = a'} {d = b'} p q. record {
      by = add p.by q.by;
      is = follows L (a ∷ b ∷ a' ∷ b' ∷ d ∷ p.by ∷ q.by ∷ []) (x 0 ⊞ x 2) (x 1 ⊞ x 3 ⊞ x 4 ⊠ (x 5 ⊞ x 6))
          ((one, x 0, x 1 ⊞ x 4 ⊠ x 5) ∷ (one, x 2, x 3 ⊞ x 4 ⊠ x 6) ∷ []) tt (p.is, (q.is, tt));
    };
    mul_cong = λ {a} {b} {c = a'} {d = b'} p q. record {
      by = add (mul p.by a') (mul b q.by);
      is = follows L (a ∷ b ∷ a' ∷ b' ∷ d ∷ p.by ∷ q.by ∷ []) (x 0 ⊠ x 2) (x 1 ⊠ x 3 ⊞ x 4 ⊠ (x 5 ⊠ x 2 ⊞ x 1 ⊠ x 6))
          ((x 2, x 0, x 1 ⊞ x 4 ⊠ x 5) ∷ (x 1, x 2, x 3 ⊞ x 4 ⊠ x 6) ∷ []) tt (p.is, (q.is, tt));
    };
    neg_cong = λ {a} {b} p. record {
      by = neg p.by;
      is = follows L (a ∷ b ∷ d ∷ p.by ∷ []) (minus (x 0)) (minus (x 1) ⊞ x 2 ⊠ minus (x 3)) ((minus one, x 0, x 1 ⊞ x 2 ⊠ x 3) ∷ []) tt (p.is, tt);
    };
    add_comm = λ a b. up_to (L.add_comm a b);
    add_assoc = λ a b c. up_to (L.add_assoc a b c);
    add_o = λ a. up_to (L.add_o a);
    add_neg = λ a. up_to (L.add_neg a);
    mul_comm = λ a b. up_to (L.mul_comm a b);
    mul_assoc = λ a b c. up_to (L.mul_assoc a b c);
    mul_e = λ a. up_to (L.mul_e a);
    mul-add = λ a b c. up_to (L.mul-add a b c);
  }

-- multiples of d c are multiples of d
module _ {R : Ops} (L : Laws R) where
  open R use {El, mul}

  pub weaken : {a b : El} (d c : El) → Differ R (mul d c) a b → Differ R d a b
  weaken {a} {b} d c p = record { by = mul c p.by; is = follows L (a ∷ b ∷ d ∷ c ∷ p.by ∷ []) (x 0) (x 1 ⊞ x 2 ⊠ (x 3 ⊠ x 4)) ((one, x 0, x 1 ⊞ (x 2 ⊠ x 3) ⊠ x 4) ∷ []) tt (p.is, tt) }
