-- What follows from the laws of a commutative ring.
use Rattle.std.proofs.Common.{◌≡◌, sym, ap, ◌∙◌, ap₂}
use Rattle.algebra.specs.Exact.{Ops, Laws}

module _ {A : Type 0} {o : Ops A} (L : Laws o) where
  pub nought_plus : (x : A) → o.plus o.nought x ≡ x
  nought_plus x = L.plus_comm o.nought x ∙ L.plus_nought x

  pub minus_plus : (x : A) → o.plus (o.minus x) x ≡ o.nought
  minus_plus x = L.plus_comm (o.minus x) x ∙ L.plus_minus x

  pub plus_left : (x y z : A) → o.plus x (o.plus y z) ≡ o.plus y (o.plus x z)
  plus_left x y z = sym (L.plus_assoc x y z) ∙ ap (λ w. o.plus w z) (L.plus_comm x y) ∙ L.plus_assoc y x z

  pub plus_swap : (a b c d : A) → o.plus (o.plus a b) (o.plus c d) ≡ o.plus (o.plus a c) (o.plus b d)
  plus_swap a b c d = L.plus_assoc a b (o.plus c d) ∙ ap (o.plus a) (plus_left b c d) ∙ sym (L.plus_assoc a c (o.plus b d))

  pub unit_times : (x : A) → o.times o.unit x ≡ x
  unit_times x = L.times_comm o.unit x ∙ L.times_unit x

  pub times_left : (x y z : A) → o.times x (o.times y z) ≡ o.times y (o.times x z)
  times_left x y z = sym (L.times_assoc x y z) ∙ ap (λ w. o.times w z) (L.times_comm x y) ∙ L.times_assoc y x z

  pub plus_times : (x y z : A) → o.times (o.plus x y) z ≡ o.plus (o.times x z) (o.times y z)
  plus_times x y z = L.times_comm (o.plus x y) z ∙ L.times_plus z x y ∙ ap (λ w. o.plus w (o.times z y)) (L.times_comm z x) ∙ ap (o.plus (o.times x z)) (L.times_comm z y)

  -- a summand that leaves a sum as it is
  pub only_nought : (x y : A) → o.plus x y ≡ x → y ≡ o.nought
  only_nought x y e =
      sym (nought_plus y) ∙ ap (λ w. o.plus w y) (sym (minus_plus x)) ∙ L.plus_assoc (o.minus x) x y ∙ ap (o.plus (o.minus x)) e ∙ minus_plus x

  pub times_nought : (x : A) → o.times x o.nought ≡ o.nought
  times_nought x =
      only_nought (o.times x o.nought) (o.times x o.nought)
      (sym (L.times_plus x o.nought o.nought) ∙ ap (o.times x) (L.plus_nought o.nought))

  pub nought_times : (x : A) → o.times o.nought x ≡ o.nought
  nought_times x = L.times_comm o.nought x ∙ times_nought x

  -- what adds up to zero with x is its negation
  pub minus_only : (x y : A) → o.plus x y ≡ o.nought → y ≡ o.minus x
  minus_only x y e =
      sym (nought_plus y) ∙ ap (λ w. o.plus w y) (sym (minus_plus x)) ∙ L.plus_assoc (o.minus x) x y ∙ ap (o.plus (o.minus x)) e ∙ L.plus_nought (o.minus x)

  pub times_minus : (x y : A) → o.times x (o.minus y) ≡ o.minus (o.times x y)
  times_minus x y =
      minus_only (o.times x y) (o.times x (o.minus y))
      (sym (L.times_plus x y (o.minus y)) ∙ ap (o.times x) (L.plus_minus y) ∙ times_nought x)

  pub minus_times : (x y : A) → o.times (o.minus x) y ≡ o.minus (o.times x y)
  minus_times x y = L.times_comm (o.minus x) y ∙ times_minus y x ∙ ap o.minus (L.times_comm y x)

  pub minus_sum : (x y : A) → o.minus (o.plus x y) ≡ o.plus (o.minus x) (o.minus y)
  minus_sum x y =
      sym (minus_only (o.plus x y) (o.plus (o.minus x) (o.minus y)) (plus_swap x y (o.minus x) (o.minus y) ∙ ap (λ w. o.plus w (o.plus y (o.minus y))) (L.plus_minus x) ∙ nought_plus (o.plus y (o.minus y)) ∙ L.plus_minus y))

  pub minus_nought : o.minus o.nought ≡ o.nought
  minus_nought = sym (minus_only o.nought o.nought (L.plus_nought o.nought))

  -- x − y and then y again
  pub less_more : (x y : A) → o.plus (o.plus x (o.minus y)) y ≡ x
  less_more x y = L.plus_assoc x (o.minus y) y ∙ ap (o.plus x) (minus_plus y) ∙ L.plus_nought x

  -- a multiple m · b moved from the rest to the quotient
  pub whole_more : (a b q r m m' : A) → o.plus m m' ≡ o.nought → a ≡ o.plus (o.times q b) r → a ≡ o.plus (o.times (o.plus q m) b) (o.plus r (o.times m' b))
  whole_more a b q r m m' none inv =
      let gone : o.plus (o.times m b) (o.times m' b) ≡ o.nought = sym (plus_times m m' b) ∙ ap (λ w. o.times w b) none ∙ nought_times b in
      inv
      ∙ sym (L.plus_nought _)
      ∙ ap (o.plus (o.plus (o.times q b) r)) (sym gone)
      ∙ plus_swap (o.times q b) r (o.times m b) (o.times m' b)
      ∙ ap (λ w. o.plus w (o.plus r (o.times m' b))) (sym (plus_times q m b))

  -- the highest coefficient goes
  pub lead_gone : (x t lead c : A) → c ≡ o.times x lead → o.times t lead ≡ o.unit → o.plus x (o.times (o.minus c) t) ≡ o.nought
  lead_gone x t lead c e u =
      let back : o.times c t ≡ x = ap (λ w. o.times w t) e ∙ L.times_assoc x lead t ∙ ap (o.times x) (L.times_comm lead t ∙ u) ∙ L.times_unit x in
      ap (o.plus x) (minus_times c t ∙ ap o.minus back) ∙ L.plus_minus x

  pub moves : (x y z : A) → x ≡ o.plus y z → z ≡ o.plus x (o.minus y)
  moves x y z e =
      sym (ap (λ w. o.plus w (o.minus y)) (e ∙ L.plus_comm y z) ∙ L.plus_assoc z y (o.minus y) ∙ ap (o.plus z) (L.plus_minus y) ∙ L.plus_nought z)

  -- r and s are combinations of a and b, so r + x · s is
  pub combined : (a b r s t u v w x : A) → r ≡ o.plus (o.times t a) (o.times u b) → s ≡ o.plus (o.times v a) (o.times w b) → o.plus r (o.times x s) ≡ o.plus (o.times (o.plus t (o.times x v)) a) (o.times (o.plus u (o.times x w)) b)
  combined a b r s t u v w x e f =
      ap (λ z. o.plus z (o.times x s)) e
      ∙ ap (o.plus (o.plus (o.times t a) (o.times u b))) (ap (o.times x) f ∙ L.times_plus x (o.times v a) (o.times w b) ∙ ap (λ z. o.plus z (o.times x (o.times w b))) (sym (L.times_assoc x v a)) ∙ ap (o.plus (o.times (o.times x v) a)) (sym (L.times_assoc x w b)))
      ∙ plus_swap (o.times t a) (o.times u b) (o.times (o.times x v) a) (o.times (o.times x w) b)
      ∙ ap (λ z. o.plus z (o.plus (o.times u b) (o.times (o.times x w) b))) (sym (plus_times t (o.times x v) a))
      ∙ ap (o.plus (o.times (o.plus t (o.times x v)) a)) (sym (plus_times u (o.times x w) b))

  -- r is q · s + z, so a combination of r and s is one of s and z
  pub regrouped : (c r s z q t u : A) → c ≡ o.plus (o.times t r) (o.times u s) → r ≡ o.plus (o.times q s) z → c ≡ o.plus (o.times (o.plus (o.times t q) u) s) (o.times t z)
  regrouped c r s z q t u e f =
      e
      ∙ ap (λ w. o.plus (o.times t w) (o.times u s)) f
      ∙ ap (λ w. o.plus w (o.times u s)) (L.times_plus t (o.times q s) z)
      ∙ L.plus_assoc _ _ _ ∙ ap (o.plus (o.times t (o.times q s))) (L.plus_comm _ _) ∙ sym (L.plus_assoc _ _ _)
      ∙ ap (λ w. o.plus (o.plus w (o.times u s)) (o.times t z)) (sym (L.times_assoc t q s))
      ∙ ap (λ w. o.plus w (o.times t z)) (sym (plus_times (o.times t q) u s))

  -- r is a combination of a and b, and y its inverse
  pub scaled : (a b r t w y : A) → r ≡ o.plus (o.times t a) (o.times w b) → o.times y r ≡ o.unit → o.times a (o.times y t) ≡ o.plus o.unit (o.times (o.minus (o.times y w)) b)
  scaled a b r t w y e u =
      let sum : o.unit ≡ o.plus (o.times (o.times y w) b) (o.times a (o.times y t)) =
      sym u ∙ ap (o.times y) e ∙ L.times_plus y (o.times t a) (o.times w b) ∙ ap₂ o.plus (sym (L.times_assoc y t a) ∙ L.times_comm (o.times y t) a) (sym (L.times_assoc y w b)) ∙ L.plus_comm _ _ in
      moves o.unit (o.times (o.times y w) b) (o.times a (o.times y t)) sum ∙ ap (o.plus o.unit) (sym (minus_times (o.times y w) b))

  -- r divides a and b, so an inverse u of a modulo b makes r one of 1
  pub divides_unit : (a b r t v u w : A) → a ≡ o.times t r → b ≡ o.times v r → o.times a u ≡ o.plus o.unit (o.times w b) → o.times r (o.plus (o.times t u) (o.minus (o.times w v))) ≡ o.unit
  divides_unit a b r t v u w ea eb e =
      let left : o.times r (o.times t u) ≡ o.times a u = sym (L.times_assoc r t u) ∙ ap (λ z. o.times z u) (L.times_comm r t ∙ sym ea) in
      let right : o.times r (o.times w v) ≡ o.times w b = times_left r w v ∙ ap (o.times w) (L.times_comm r v ∙ sym eb) in
      L.times_plus r (o.times t u) (o.minus (o.times w v))
      ∙ ap₂ o.plus (left ∙ e) (times_minus r (o.times w v) ∙ ap o.minus right)
      ∙ L.plus_assoc o.unit (o.times w b) (o.minus (o.times w b)) ∙ ap (o.plus o.unit) (L.plus_minus (o.times w b)) ∙ L.plus_nought o.unit

  -- two inverses of a modulo b differ by a multiple of b
  pub two_inverses : (a b u w x y : A) → o.times a u ≡ o.plus o.unit (o.times x b) → o.times a w ≡ o.plus o.unit (o.times y b) → w ≡ o.plus u (o.times (o.plus (o.times u y) (o.minus (o.times w x))) b)
  two_inverses a b u w x y eu ew =
      let spread : (p q z : A) → o.times a q ≡ o.plus o.unit (o.times z b) → o.times a (o.times p q) ≡ o.plus p (o.times (o.times p z) b) =
      λ p q z e. times_left a p q ∙ ap (o.times p) e ∙ L.times_plus p o.unit (o.times z b) ∙ ap₂ o.plus (L.times_unit p) (sym (L.times_assoc p z b)) in
      let same : o.plus u (o.times (o.times u y) b) ≡ o.plus (o.times (o.times w x) b) w =
      sym (spread u w y ew) ∙ ap (o.times a) (L.times_comm u w) ∙ spread w u x eu ∙ L.plus_comm w (o.times (o.times w x) b) in
      moves (o.plus u (o.times (o.times u y) b)) (o.times (o.times w x) b) w same
      ∙ L.plus_assoc u (o.times (o.times u y) b) (o.minus (o.times (o.times w x) b))
      ∙ ap (o.plus u) (ap (o.plus (o.times (o.times u y) b)) (sym (minus_times (o.times w x) b)) ∙ sym (plus_times (o.times u y) (o.minus (o.times w x)) b))

  pub none_all : (x y : A) → y ≡ o.plus (o.times o.nought x) (o.times o.unit y)
  none_all x y = sym (ap₂ o.plus (nought_times x) (unit_times y) ∙ nought_plus y)

  pub all_none : (x y : A) → x ≡ o.plus (o.times o.unit x) (o.times o.nought y)
  all_none x y = sym (ap₂ o.plus (unit_times x) (nought_times y) ∙ L.plus_nought x)
