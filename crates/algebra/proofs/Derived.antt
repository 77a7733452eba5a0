-- What follows from a ring's laws.
use Rattle.std.proofs.Common.{◌≡◌, ℕ, zero, suc, ◌+◌, ◌*◌, ap, subst, add-zero, add-suc, mul-zero, mul-suc}
use Rattle.algebra.specs.Ring.{Ops, Laws, times_one}

module _ {R : Ops} (L : Laws R) where
  infixr 30 ◌⨾◌
  infixl 60 ◌⊕◌
  infixl 70 ◌⊗◌
  infix 40 ◌≈◌
  open R use {El, same as ◌≈◌, o, e, add as ◌⊕◌, mul as ◌⊗◌, neg}
  open L use {rfl, sy, tr, add_cong, mul_cong, neg_cong, add_comm, add_assoc, add_o, add_neg, mul_comm, mul_assoc, mul_e, mul-add}

  ◌⨾◌ : {a b c : El} → a ≈ b → b ≈ c → a ≈ c
  p ⨾ q = tr p q

  pub eqv : {a b : El} → a ≡ b → a ≈ b
  eqv {a} p = subst (λ x. a ≈ x) p (rfl a)

  pub o_add : (a : El) → o ⊕ a ≈ a
  o_add a = add_comm o a ⨾ add_o a

  pub e_mul : (a : El) → e ⊗ a ≈ a
  e_mul a = mul_comm e a ⨾ mul_e a

  pub add-mul : (a b c : El) → (a ⊕ b) ⊗ c ≈ a ⊗ c ⊕ b ⊗ c
  add-mul a b c = mul_comm (a ⊕ b) c ⨾ mul-add c a b ⨾ add_cong (mul_comm c a) (mul_comm c b)

  pub add_left : (a : El) {b c : El} → b ≈ c → a ⊕ b ≈ a ⊕ c
  add_left a h = add_cong (rfl a) h

  pub add_right : {a b : El} (c : El) → a ≈ b → a ⊕ c ≈ b ⊕ c
  add_right c h = add_cong h (rfl c)

  pub mul_left : (a : El) {b c : El} → b ≈ c → a ⊗ b ≈ a ⊗ c
  mul_left a h = mul_cong (rfl a) h

  pub mul_right : {a b : El} (c : El) → a ≈ b → a ⊗ c ≈ b ⊗ c
  mul_right c h = mul_cong h (rfl c)

  pub add_left_comm : (a b c : El) → a ⊕ (b ⊕ c) ≈ b ⊕ (a ⊕ c)
  add_left_comm a b c = sy (add_assoc a b c) ⨾ add_right c (add_comm a b) ⨾ add_assoc b a c

  pub mul_left_comm : (a b c : El) → a ⊗ (b ⊗ c) ≈ b ⊗ (a ⊗ c)
  mul_left_comm a b c = sy (mul_assoc a b c) ⨾ mul_right c (mul_comm a b) ⨾ mul_assoc b a c

  pub add_four : (a b c d : El) → (a ⊕ b) ⊕ (c ⊕ d) ≈ (a ⊕ c) ⊕ (b ⊕ d)
  add_four a b c d = add_assoc a b (c ⊕ d) ⨾ add_left a (add_left_comm b c d) ⨾ sy (add_assoc a c (b ⊕ d))

  pub mul_four : (a b c d : El) → (a ⊗ b) ⊗ (c ⊗ d) ≈ (a ⊗ c) ⊗ (b ⊗ d)
  mul_four a b c d = mul_assoc a b (c ⊗ d) ⨾ mul_left a (mul_left_comm b c d) ⨾ sy (mul_assoc a c (b ⊗ d))

  -- what is added on both sides may be left out
  pub cancel : {a b : El} (c : El) → a ⊕ c ≈ b ⊕ c → a ≈ b
  cancel {a} {b} c h =
      sy (add_o a) ⨾ add_left a (sy (add_neg c)) ⨾ sy (add_assoc a c (neg c)) ⨾ add_right (neg c) h
      ⨾ add_assoc b c (neg c) ⨾ add_left b (add_neg c) ⨾ add_o b

  pub neg_of : {a b : El} → a ⊕ b ≈ o → b ≈ neg a
  neg_of {a} {b} h = cancel a (add_comm b a ⨾ h ⨾ sy (add_neg a) ⨾ add_comm a (neg a))

  pub mul_o : (a : El) → a ⊗ o ≈ o
  mul_o a = cancel (a ⊗ o) (sy (mul-add a o o) ⨾ mul_left a (add_o o) ⨾ sy (o_add (a ⊗ o)))

  pub o_mul : (a : El) → o ⊗ a ≈ o
  o_mul a = mul_comm o a ⨾ mul_o a

  pub mul_neg : (a b : El) → a ⊗ neg b ≈ neg (a ⊗ b)
  mul_neg a b = neg_of (sy (mul-add a b (neg b)) ⨾ mul_left a (add_neg b) ⨾ mul_o a)

  pub neg_mul : (a b : El) → neg a ⊗ b ≈ neg (a ⊗ b)
  neg_mul a b = mul_comm (neg a) b ⨾ mul_neg b a ⨾ neg_cong (mul_comm b a)

  pub neg_neg : (a : El) → neg (neg a) ≈ a
  neg_neg a = sy (neg_of (add_comm (neg a) a ⨾ add_neg a))

  pub neg_o : neg o ≈ o
  neg_o = sy (neg_of (add_o o))

  pub neg_add : (a b : El) → neg (a ⊕ b) ≈ neg a ⊕ neg b
  neg_add a b = sy (neg_of (add_four a b (neg a) (neg b) ⨾ add_cong (add_neg a) (add_neg b) ⨾ add_o o))

  pub from_diff : {a b : El} → a ⊕ neg b ≈ o → a ≈ b
  from_diff {a} {b} h = cancel (neg b) (h ⨾ sy (add_neg b))

  pub to_diff : {a b : El} → a ≈ b → a ⊕ neg b ≈ o
  to_diff {a} {b} h = add_right (neg b) h ⨾ add_neg b

  pub times_one_add : (a b : ℕ) → times_one R (a + b) ≈ times_one R a ⊕ times_one R b
  times_one_add a zero = eqv (ap (times_one R) (add-zero a)) ⨾ sy (add_o (times_one R a))
  times_one_add a (suc b) = eqv (ap (times_one R) (add-suc a b)) ⨾ add_right e (times_one_add a b) ⨾ add_assoc (times_one R a) (times_one R b) e

  pub times_one_mul : (a b : ℕ) → times_one R (a * b) ≈ times_one R a ⊗ times_one R b
  times_one_mul a zero = eqv (ap (times_one R) (mul-zero a)) ⨾ sy (mul_o (times_one R a))
  times_one_mul a (suc b) =
      eqv (ap (times_one R) (mul-suc a b)) ⨾ times_one_add (a * b) a ⨾ add_cong (times_one_mul a b) (sy (mul_e (times_one R a))) ⨾ sy (mul-add (times_one R a) (times_one R b) e)
