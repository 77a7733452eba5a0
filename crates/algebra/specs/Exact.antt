-- Commutative rings under real equality.
use Rattle.std.specs.Prelude.{◌≡◌}
use Rattle.algebra.specs.Ring as Ring

pub record Ops (A : Type 0) : Type 0 where
  pub nought : A
  pub unit : A
  pub plus : A → A → A
  pub times : A → A → A
  pub minus : A → A

-- the laws of a commutative ring whose one is not its zero
pub record Laws {A : Type 0} (o : Ops A) : Type 0 where
  pub plus_nought : (x : A) → o.plus x o.nought ≡ x
  pub plus_minus : (x : A) → o.plus x (o.minus x) ≡ o.nought
  pub plus_comm : (x y : A) → o.plus x y ≡ o.plus y x
  pub plus_assoc : (x y z : A) → o.plus (o.plus x y) z ≡ o.plus x (o.plus y z)
  pub times_unit : (x : A) → o.times x o.unit ≡ x
  pub times_comm : (x y : A) → o.times x y ≡ o.times y x
  pub times_assoc : (x y z : A) → o.times (o.times x y) z ≡ o.times x (o.times y z)
  pub times_plus : (x y z : A) → o.times x (o.plus y z) ≡ o.plus (o.times x y) (o.times x z)
  pub apart : o.unit ≡ o.nought → ⊥

-- the same ring, its equality named
abbrev pub exact : {A : Type 0} → Ops A → Ring.Ops
exact {A} o = record { El = A; same = ◌≡◌; o = o.nought; e = o.unit; add = o.plus; mul = o.times; neg = o.minus }
