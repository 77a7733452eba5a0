-- Identities of commutative rings by computation: both sides are multiplied out, and the difference has to vanish.
use Rattle.std.proofs.Common.{◌≡◌, ℕ, ◌+◌, ◌*◌, Bool, true, false, cond, ◌&&◌, T, eqb, leb, List, [], ◌∷◌, get_or, sym, refl, ap, ap₂, eqb→eq}
use Rattle.algebra.specs.Ring.{Ops, Laws, times_one}
use Rattle.algebra.proofs.Derived.{eqv, o_add, e_mul, add-mul, add_left, add_right, mul_left, mul_right, add_left_comm, mul_left_comm, add_four, mul_four, mul_o, o_mul, mul_neg, neg_mul, neg_neg, neg_o, neg_add, from_diff, to_diff, times_one_add, times_one_mul}

infixl 60 ◌⊞◌ ◌⊟◌
infixl 70 ◌⊠◌
-- an expression in variables 0, 1, ..
pub data Expr : Type 0 where
  x : ℕ → Expr
  one : Expr
  nat : ℕ → Expr
  ◌⊞◌ : Expr → Expr → Expr
  ◌⊠◌ : Expr → Expr → Expr
  minus : Expr → Expr

abbrev pub ◌⊟◌ : Expr → Expr → Expr
a ⊟ b = a ⊞ minus b

-- (p - n) times the variables of m
abbrev pub Term : Type 0
Term = ℕ × ℕ × List ℕ

abbrev pub Poly : Type 0
Poly = List Term

abbrev pub ins : ℕ → List ℕ → List ℕ
ins v [] = v ∷ []
ins v (w ∷ m) = cond (leb v w) (v ∷ w ∷ m) (w ∷ ins v m)

abbrev pub mrg : List ℕ → List ℕ → List ℕ
mrg [] m = m
mrg (v ∷ l) m = ins v (mrg l m)

abbrev pub eq_l : List ℕ → List ℕ → Bool
eq_l [] [] = true
eq_l [] (w ∷ m) = false
eq_l (v ∷ l) [] = false
eq_l (v ∷ l) (w ∷ m) = eqb v w && eq_l l m

abbrev pub add_t : Term → Poly → Poly
add_t t [] = t ∷ []
add_t t (s ∷ q) = cond (eq_l t.2 s.2) ((t.0 + s.0, t.1 + s.1, s.2) ∷ q) (s ∷ add_t t q)

abbrev pub add_p : Poly → Poly → Poly
add_p [] q = q
add_p (t ∷ p) q = add_t t (add_p p q)

abbrev pub mul_tt : Term → Term → Term
mul_tt t s = (t.0 * s.0 + t.1 * s.1, t.0 * s.1 + t.1 * s.0, mrg t.2 s.2)

abbrev pub mul_t : Term → Poly → Poly
mul_t t [] = []
mul_t t (s ∷ q) = add_t (mul_tt t s) (mul_t t q)

abbrev pub mul_p : Poly → Poly → Poly
mul_p [] q = []
mul_p (t ∷ p) q = add_p (mul_t t q) (mul_p p q)

abbrev pub neg_p : Poly → Poly
neg_p [] = []
neg_p (t ∷ p) = (t.1, t.0, t.2) ∷ neg_p p

abbrev pub zero_p : Poly → Bool
zero_p [] = true
zero_p (t ∷ p) = eqb t.0 t.1 && zero_p p

abbrev pub nf : Expr → Poly
nf (x i) = (1, 0, i ∷ []) ∷ []
nf one = (1, 0, []) ∷ []
nf (nat n) = (n, 0, []) ∷ []
nf (a ⊞ b) = add_p (nf a) (nf b)
nf (a ⊠ b) = mul_p (nf a) (nf b)
nf (minus a) = neg_p (nf a)

pub and_l : (a b : Bool) → T (a && b) → T a
and_l true b t = tt
and_l false b t = t

pub and_r : (a b : Bool) → T (a && b) → T b
and_r true b t = t
and_r false b t = absurd t

eq_l→eq : (l m : List ℕ) → T (eq_l l m) → l ≡ m
eq_l→eq [] [] t = refl
eq_l→eq [] (w ∷ m) t = absurd t
eq_l→eq (v ∷ l) [] t = absurd t
eq_l→eq (v ∷ l) (w ∷ m) t = ap₂ {C = List ℕ} (λ y ys. y ∷ ys) (eqb→eq v w (and_l (eqb v w) (eq_l l m) t)) (eq_l→eq l m (and_r (eqb v w) (eq_l l m) t))

by_cond : {A : Type 0} (P : A → Type 0) (c : Bool) (a b : A) → (T c → P a) → P b → P (cond c a b)
by_cond P true a b f g = f tt
by_cond P false a b f g = g

module _ {R : Ops} (L : Laws R) where
  infixr 30 ◌⨾◌
  infixl 60 ◌⊕◌
  infixl 70 ◌⊗◌
  infix 40 ◌≈◌
  open R use {El, same as ◌≈◌, o, e, add as ◌⊕◌, mul as ◌⊗◌, neg}
  open L use {rfl, sy, tr, add_cong, mul_cong, neg_cong, add_comm, add_assoc, add_o, mul_assoc, mul_e, mul-add}

  ◌⨾◌ : {a b c : El} → a ≈ b → b ≈ c → a ≈ c
  p ⨾ q = tr p q

  abbrev pub eval : List El → Expr → El
  eval ρ (x i) = get_or ρ i o
  eval ρ one = e
  eval ρ (nat n) = times_one R n
  eval ρ (a ⊞ b) = eval ρ a ⊕ eval ρ b
  eval ρ (a ⊠ b) = eval ρ a ⊗ eval ρ b
  eval ρ (minus a) = neg (eval ρ a)

  -- p - n
  abbrev cval : ℕ → ℕ → El
  cval p n = times_one R p ⊕ neg (times_one R n)

  cval_add : (p n p' n' : ℕ) → cval (p + p') (n + n') ≈ cval p n ⊕ cval p' n'
  cval_add p n p' n' =
      add_cong (times_one_add L p p') (neg_cong (times_one_add L n n') ⨾ neg_add L (times_one R n) (times_one R n'))
      ⨾ add_four L (times_one R p) (times_one R p') (neg (times_one R n)) (neg (times_one R n'))

  cval_neg : (p n : ℕ) → cval n p ≈ neg (cval p n)
  cval_neg p n = add_comm (times_one R n) (neg (times_one R p)) ⨾ add_left L (neg (times_one R p)) (sy (neg_neg L (times_one R n))) ⨾ sy (neg_add L (times_one R p) (neg (times_one R n)))

  cval_mul : (p n p' n' : ℕ) → cval (p * p' + n * n') (p * n' + n * p') ≈ cval p n ⊗ cval p' n'
  cval_mul p n p' n' =
      let P = times_one R p in
      let N = times_one R n in
      let P' = times_one R p' in
      let N' = times_one R n' in
      let nn : neg N ⊗ neg N' ≈ N ⊗ N' = neg_mul L N (neg N') ⨾ neg_cong (mul_neg L N N') ⨾ neg_neg L (N ⊗ N') in
      sy (add-mul L P (neg N) (cval p' n')
      ⨾ add_cong (mul-add P P' (neg N')) (mul-add (neg N) P' (neg N'))
      ⨾ add_cong (add_left L (P ⊗ P') (mul_neg L P N')) (add_comm (neg N ⊗ P') (neg N ⊗ neg N') ⨾ add_cong nn (neg_mul L N P'))
      ⨾ add_four L (P ⊗ P') (neg (P ⊗ N')) (N ⊗ N') (neg (N ⊗ P'))
      ⨾ add_left L (P ⊗ P' ⊕ N ⊗ N') (sy (neg_add L (P ⊗ N') (N ⊗ P')))
      ⨾ add_cong
      (sy (times_one_add L (p * p') (n * n') ⨾ add_cong (times_one_mul L p p') (times_one_mul L n n')))
      (neg_cong (sy (times_one_add L (p * n') (n * p') ⨾ add_cong (times_one_mul L p n') (times_one_mul L n p')))))

  module _ (ρ : List El) where
    abbrev mono : List ℕ → El
    mono [] = e
    mono (v ∷ m) = get_or ρ v o ⊗ mono m

    abbrev tv : Term → El
    tv t = cval t.0 t.1 ⊗ mono t.2

    abbrev ev : Poly → El
    ev [] = o
    ev (t ∷ p) = tv t ⊕ ev p

    ins_is : (v : ℕ) (m : List ℕ) → mono (ins v m) ≈ get_or ρ v o ⊗ mono m
    ins_is v [] = rfl (get_or ρ v o ⊗ e)
    ins_is v (w ∷ m) =
        by_cond (λ l. mono l ≈ get_or ρ v o ⊗ (get_or ρ w o ⊗ mono m)) (leb v w) (v ∷ w ∷ m) (w ∷ ins v m)
        (λ t. rfl (get_or ρ v o ⊗ (get_or ρ w o ⊗ mono m)))
        (mul_left L (get_or ρ w o) (ins_is v m) ⨾ mul_left_comm L (get_or ρ w o) (get_or ρ v o) (mono m))

    mrg_is : (l m : List ℕ) → mono (mrg l m) ≈ mono l ⊗ mono m
    mrg_is [] m = sy (e_mul L (mono m))
    mrg_is (v ∷ l) m = ins_is v (mrg l m) ⨾ mul_left L (get_or ρ v o) (mrg_is l m) ⨾ sy (mul_assoc (get_or ρ v o) (mono l) (mono m))

    add_t_is : (t : Term) (q : Poly) → ev (add_t t q) ≈ tv t ⊕ ev q
    add_t_is t [] = rfl (tv t ⊕ o)
    add_t_is t (s ∷ q) =
        by_cond (λ p. ev p ≈ tv t ⊕ (tv s ⊕ ev q)) (eq_l t.2 s.2) ((t.0 + s.0, t.1 + s.1, s.2) ∷ q) (s ∷ add_t t q)
        (λ same_mono. add_right L (ev q)
        (mul_right L (mono s.2) (cval_add t.0 t.1 s.0 s.1)
        ⨾ add-mul L (cval t.0 t.1) (cval s.0 s.1) (mono s.2)
        ⨾ add_right L (tv s) (mul_left L (cval t.0 t.1) (eqv L (ap mono (sym (eq_l→eq t.2 s.2 same_mono))))))
        ⨾ add_assoc (tv t) (tv s) (ev q))
        (add_left L (tv s) (add_t_is t q) ⨾ add_left_comm L (tv s) (tv t) (ev q))

    add_p_is : (p q : Poly) → ev (add_p p q) ≈ ev p ⊕ ev q
    add_p_is [] q = sy (o_add L (ev q))
    add_p_is (t ∷ p) q = add_t_is t (add_p p q) ⨾ add_left L (tv t) (add_p_is p q) ⨾ sy (add_assoc (tv t) (ev p) (ev q))

    mul_tt_is : (t s : Term) → tv (mul_tt t s) ≈ tv t ⊗ tv s
    mul_tt_is t s =
        mul_cong (cval_mul t.0 t.1 s.0 s.1) (mrg_is t.2 s.2)
        ⨾ mul_four L (cval t.0 t.1) (cval s.0 s.1) (mono t.2) (mono s.2)

    mul_t_is : (t : Term) (q : Poly) → ev (mul_t t q) ≈ tv t ⊗ ev q
    mul_t_is t [] = sy (mul_o L (tv t))
    mul_t_is t (s ∷ q) = add_t_is (mul_tt t s) (mul_t t q) ⨾ add_cong (mul_tt_is t s) (mul_t_is t q) ⨾ sy (mul-add (tv t) (tv s) (ev q))

    mul_p_is : (p q : Poly) → ev (mul_p p q) ≈ ev p ⊗ ev q
    mul_p_is [] q = sy (o_mul L (ev q))
    mul_p_is (t ∷ p) q = add_p_is (mul_t t q) (mul_p p q) ⨾ add_cong (mul_t_is t q) (mul_p_is p q) ⨾ sy (add-mul L (tv t) (ev p) (ev q))

    neg_p_is : (p : Poly) → ev (neg_p p) ≈ neg (ev p)
    neg_p_is [] = sy (neg_o L)
    neg_p_is (t ∷ p) =
        add_cong (mul_right L (mono t.2) (cval_neg t.0 t.1) ⨾ neg_mul L (cval t.0 t.1) (mono t.2)) (neg_p_is p)
        ⨾ sy (neg_add L (tv t) (ev p))

    zero_p_is : (p : Poly) → T (zero_p p) → ev p ≈ o
    zero_p_is [] t = rfl o
    zero_p_is (t ∷ p) z =
        let here : times_one R t.0 ≈ times_one R t.1 = eqv L (ap (times_one R) (eqb→eq t.0 t.1 (and_l (eqb t.0 t.1) (zero_p p) z))) in
        add_cong (mul_right L (mono t.2) (to_diff L here) ⨾ o_mul L (mono t.2)) (zero_p_is p (and_r (eqb t.0 t.1) (zero_p p) z)) ⨾ add_o o

    nf_is : (a : Expr) → ev (nf a) ≈ eval ρ a
    nf_is (x i) =
        add_o (cval 1 0 ⊗ (get_or ρ i o ⊗ e))
        ⨾ mul_cong (add_cong (o_add L e) (neg_o L) ⨾ add_o e) (mul_e (get_or ρ i o)) ⨾ e_mul L (get_or ρ i o)
    nf_is one = add_o (cval 1 0 ⊗ e) ⨾ mul_e (cval 1 0) ⨾ add_cong (o_add L e) (neg_o L) ⨾ add_o e
    nf_is (nat n) = add_o (cval n 0 ⊗ e) ⨾ mul_e (cval n 0) ⨾ add_left L (times_one R n) (neg_o L) ⨾ add_o (times_one R n)
    nf_is (a ⊞ b) = add_p_is (nf a) (nf b) ⨾ add_cong (nf_is a) (nf_is b)
    nf_is (a ⊠ b) = mul_p_is (nf a) (nf b) ⨾ mul_cong (nf_is a) (nf_is b)
    nf_is (minus a) = neg_p_is (nf a) ⨾ neg_cong (nf_is a)

    vanishes : (a : Expr) → T (zero_p (nf a)) → eval ρ a ≈ o
    vanishes a z = sy (nf_is a) ⨾ zero_p_is (nf a) z

    -- an identity: the difference multiplied out is zero
    pub ring : (a b : Expr) → T (zero_p (nf (a ⊟ b))) → eval ρ a ≈ eval ρ b
    ring a b z = from_diff L (vanishes (a ⊟ b) z)

  -- equations to build on, each with what it is multiplied by
  abbrev pub Fact : Type 0
  Fact = Expr × Expr × Expr

  abbrev pub Facts : List El → List Fact → Type 0
  Facts ρ [] = Unit {0}
  Facts ρ (h ∷ hs) = (eval ρ h.1 ≈ eval ρ h.2) × Facts ρ hs

  abbrev pub combined : List Fact → Expr
  combined [] = nat 0
  combined (h ∷ hs) = h.0 ⊠ (h.1 ⊟ h.2) ⊞ combined hs

  combined_is : (ρ : List El) (hs : List Fact) → Facts ρ hs → eval ρ (combined hs) ≈ o
  combined_is ρ [] f = rfl o
  combined_is ρ (h ∷ hs) f =
      add_cong (mul_left L (eval ρ h.0) (to_diff L f.0) ⨾ mul_o L (eval ρ h.0)) (combined_is ρ hs f.1) ⨾ add_o o

  -- an equation that follows from others: the difference is the sum of their differences, each times its factor
  pub follows : (ρ : List El) (a b : Expr) (hs : List Fact) → T (zero_p (nf (a ⊟ (b ⊞ combined hs)))) → Facts ρ hs → eval ρ a ≈ eval ρ b
  follows ρ a b hs z f = ring ρ a (b ⊞ combined hs) z ⨾ add_left L (eval ρ b) (combined_is ρ hs f) ⨾ add_o (eval ρ b)
