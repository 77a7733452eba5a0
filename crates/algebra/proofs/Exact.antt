-- The theory up to a congruence, at rings under real equality.
use Rattle.std.proofs.Common.{sym, refl, ap, ◌∙◌, ap₂}
use Rattle.algebra.specs.Ring.{Laws}
use Rattle.algebra.specs.Exact.{Ops as Real, Laws as RealLaws, exact}

module _ {A : Type 0} {o : Real A} (L : RealLaws o) where
  pub exact_laws : Laws (exact o)
  exact_laws = record {
    rfl = λ a. refl;
    sy = sym;
    tr = ◌∙◌;
    add_cong = ap₂ o.plus;
    mul_cong = ap₂ o.times;
    neg_cong = ap o.minus;
    add_comm = L.plus_comm;
    add_assoc = L.plus_assoc;
    add_o = L.plus_nought;
    add_neg = L.plus_minus;
    mul_comm = L.times_comm;
    mul_assoc = L.times_assoc;
    mul_e = L.times_unit;
    mul-add = L.times_plus;
  }
