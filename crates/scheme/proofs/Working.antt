-- What seal, open, the key test and make work out on lists of digits and words.
use Rattle.std.proofs.Common.{◌≡◌, ℕ, ◌-◌, ◌^◌, ◌<◌, ◌≤◌, Bool, true, false, ◌≢◌, List, [], ◌∷◌, length, get_or, take, drop, pos, ◌*ℤ◌, nat_abs, ◌≤ℤ◌, is_some, Some, None, Option, MatchBool, MatchOption, sym, refl, ap, ◌∙◌, subst, inr, arith, lit<, pow_pos}
use native.Mathlib.Nat.{pow-le-pow_right}
use lib.Signed.{le_z}
use Rattle.std.specs.List.{AllWithin, HoldsAt}
use Rattle.std.proofs.lemmas.List.{take_all}
use Rattle.algebra.specs.Stands.{signed}
use Rattle.algebra.specs.Decided.{Tells}
use Rattle.algebra.specs.Radix.{Under}
use Rattle.algebra.specs.Ring.{Agree, integers, divided, power, reduce}
use Rattle.algebra.specs.Scheme.{candidate, lifting, opened_a, opened_m, opened_r}
use Rattle.algebra.specs.Ternary.{Ternary, Ternary+, correlation}
use Rattle.algebra.specs.Polynomials.{Poly, SameMod, Balanced, InverseMod, times, Φ1, plus, less, centre}
use Rattle.algebra.proofs.CallSteps.{a_is, m_is, r_is, reduced_ternary, candidate_words, candidate_ternary, correlation_same, narrowed}
use Rattle.algebra.proofs.Cyclic.{cyclic_laws, power_at, power_off}
use Rattle.algebra.proofs.Derived.{mul_left, mul_right}
use Rattle.algebra.proofs.Deciding.{told_as, correlates_tells, centred_one, one_centred, one_small}
use Rattle.algebra.proofs.Integers.{integer_laws, mod_laws, equal_mod}
use Rattle.algebra.proofs.Phi.{reduced_laws}
use Rattle.algebra.proofs.Polynomials.{agree_mod, mod_phi}
use Rattle.algebra.proofs.Stands.{signed_is}
use Rattle.arithmetic.specs.Digits.{coefficients, digit, number}
use Rattle.arithmetic.specs.Products.{cyclic_product, integers_of}
use Rattle.arithmetic.specs.declared.digit.Digit.{Digit}
use Rattle.arithmetic.proofs.Products.{whole}
use Rattle.scheme.specs.Readings.{Small, SignsRead}
use Rattle.scheme.specs.Sealing.{encrypted, lift_of}

-- ---- seal
pub encrypt_is : (n : ℕ) (r m : List Digit) (h p y c : List ℕ) → length p ≡ n → SameMod 65536 n (integers_of p) (times n (coefficients r) (integers_of h)) → SameMod 65536 n (integers_of y) (lift_of n (coefficients m)) →
    SameMod 65536 (length p) (integers_of c) (plus (integers_of p) (integers_of y)) →
    SameMod 65536 n (integers_of c) (encrypted n (integers_of h) (coefficients r) (coefficients m))
encrypt_is n r m h p y c lp hp hy hc =
    let C = cyclic_laws (mod_laws 65536) n in
    C.tr (subst (λ k. SameMod 65536 k (integers_of c) (plus (integers_of p) (integers_of y))) lp hc) (C.add_cong hp hy)

-- Lift(m), from the s that lifts m, and s as words
pub lift_is : (n : ℕ) (m s : List Digit) (u y : List ℕ) → length m ≡ n → length s ≡ n → Agree integers (length m) (coefficients s) (lifting (length m) (coefficients m)) →
    SameMod 65536 (length s) (integers_of u) (coefficients s) → SameMod 65536 n (integers_of y) (times n (Φ1 n) (integers_of u)) → SameMod 65536 n (integers_of y) (lift_of n (coefficients m))
lift_is n m s u y lm ls hs hu hy =
    let C = cyclic_laws (mod_laws 65536) n in
    C.tr hy
    (mul_left C (Φ1 n)
    (C.tr (subst (λ k. SameMod 65536 k (integers_of u) (coefficients s)) ls hu) (agree_mod 65536 n (subst (λ k. Agree integers k (coefficients s) (lifting k (coefficients m))) lm hs))))

-- ---- products of digits
pub times_digits_is : (n : ℕ) (c u y : List ℕ) (f : List Digit) → length f ≡ n → SameMod 65536 (length f) (integers_of u) (coefficients f) → SameMod 65536 n (integers_of y) (times n (integers_of c) (integers_of u)) →
    SameMod 65536 n (integers_of y) (times n (integers_of c) (coefficients f))
times_digits_is n c u y f lf hu hy =
    let C = cyclic_laws (mod_laws 65536) n in
    C.tr hy (mul_left C (integers_of c) (subst (λ k. SameMod 65536 k (integers_of u) (coefficients f)) lf hu))

pub digits_times_is : (n : ℕ) (u h y : List ℕ) (r : List Digit) → length r ≡ n → SameMod 65536 (length r) (integers_of u) (coefficients r) → SameMod 65536 n (integers_of y) (times n (integers_of u) (integers_of h)) →
    SameMod 65536 n (integers_of y) (times n (coefficients r) (integers_of h))
digits_times_is n u h y r lr hu hy =
    let C = cyclic_laws (mod_laws 65536) n in
    C.tr hy (mul_right C (integers_of h) (subst (λ k. SameMod 65536 k (integers_of u) (coefficients r)) lr hu))

-- ---- digits in products modulo 3
-- words that hold the codes of digits
abbrev Codes : List Digit → List ℕ → Type 0
Codes ds us = (k : ℕ) → k < length ds → get_or us k 0 ≡ (get_or ds k (digit 0)).code

codes_under : (ds : List Digit) (us : List ℕ) → length us ≡ length ds → Codes ds us → Under 3 us
codes_under ds us e h k l = let c = (get_or ds k (digit 0)).small in let w = h k (omega arith) in omega arith

codes_are : (n : ℕ) (ds : List Digit) (us : List ℕ) → n ≤ length ds → Codes ds us → SameMod 3 n (integers_of us) (coefficients ds)
codes_are n ds us e h = record {
  at = λ k l. let M = mod_laws 3 in let d = get_or ds k (digit 0) in M.tr (equal_mod 3 (ap pos (h k (omega arith)))) (M.sy (signed_is d.code d.small));
}

-- the code of a digit that is 0
code_zero : (x : ℕ) → signed x ≡ pos 0 → x ≡ 0
code_zero Prim.Native.Nat.zero e = refl
code_zero (Prim.Native.Nat.suc Prim.Native.Nat.zero) e = absurd (let z : ◌≡◌ {A = ℕ} 0 1 = cc in omega arith)
code_zero (Prim.Native.Nat.suc (Prim.Native.Nat.suc x)) e = absurd (let z : ◌≡◌ {A = ℕ} 0 1 = cc in omega arith)

codes_end : (n : ℕ) (ds : List Digit) (us : List ℕ) → 1 ≤ n → length ds ≡ n → Codes ds us → Ternary n (coefficients ds) → get_or us (n - 1) 0 ≡ 0
codes_end n ds us some e h t = h (n - 1) (omega arith) ∙ code_zero (get_or ds (n - 1) (digit 0)).code t.last

-- the code of a digit that is 1
code_one : (x : ℕ) → signed x ≡ pos 1 → x ≡ 1
code_one Prim.Native.Nat.zero e = absurd (let z : ◌≡◌ {A = ℕ} 0 1 = cc in omega arith)
code_one (Prim.Native.Nat.suc Prim.Native.Nat.zero) e = refl
code_one (Prim.Native.Nat.suc (Prim.Native.Nat.suc x)) e = absurd (let z : ◌≡◌ {A = ℕ} 0 1 = cc in omega arith)

-- the digits after the first, where it is 1, tell whether all are those of the polynomial 1
pub one_told : (ds xs : List Digit) (r : Bool) → 1 ≤ length ds → xs ≡ take (length ds - 1) (drop 1 ds) → coefficients ds 0 ≡ pos 1 →
    MatchBool r (AllWithin (λ d. d.code ≡ 0) xs 0 (length xs)) ((k : ℕ) × (k < length xs) × HoldsAt (λ d. d.code ≢ 0) xs k) → Tells r (Agree integers (length ds) (coefficients ds) (power integers 0))
one_told [] xs r some e one h = absurd (omega arith)
one_told (d ∷ rest) xs r some e one h =
    by r (subst (λ ys. MatchBool r (AllWithin (λ d. d.code ≡ 0) ys 0 (length ys)) ((k : ℕ) × (k < length ys) × HoldsAt (λ d. d.code ≢ 0) ys k)) (let all_but_one : length (d ∷ rest) - 1 ≡ length rest = omega arith in e ∙ ap (λ k. take k rest) all_but_one ∙ take_all (length rest) rest (omega arith)) h)
  where
    by : (r : Bool) → MatchBool r (AllWithin (λ d. d.code ≡ 0) rest 0 (length rest)) ((k : ℕ) × (k < length rest) × HoldsAt (λ d. d.code ≢ 0) rest k) →
        Tells r (Agree integers (length (d ∷ rest)) (coefficients (d ∷ rest)) (power integers 0))
    by true all = record { holds = λ _. record { at = at }; fails = λ e. absurd (let z : ◌≡◌ {A = ℕ} 0 1 = cc in omega arith) }
      where
        at : (k : ℕ) → k < length (d ∷ rest) → coefficients (d ∷ rest) k ≡ power integers 0 k
        at Prim.Native.Nat.zero l = one ∙ sym (power_at integers 0 0 refl)
        at (Prim.Native.Nat.suc k) l = ap signed (all k (digit 0) (omega arith) (omega arith)) ∙ sym (power_off integers 0 (Prim.Native.Nat.suc k) (omega arith))
    by false w = record {
      holds = λ e. absurd (let z : ◌≡◌ {A = ℕ} 0 1 = cc in omega arith);
      fails = λ _ a. w.2 (digit 0) (code_zero (get_or rest w.0 (digit 0)).code (a.at (Prim.Native.Nat.suc w.0) (let l = w.1 in omega arith) ∙ power_off integers 0 (Prim.Native.Nat.suc w.0) (omega arith)));
    }

-- and where it is not 1 they are not
pub not_one : (ds : List Digit) (d : Digit) → 1 ≤ length ds → number d ≡ coefficients ds 0 → (d.code ≡ 1 → ⊥) → Agree integers (length ds) (coefficients ds) (power integers 0) → ⊥
not_one ds d some e not_code a = not_code (code_one d.code (e ∙ a.at 0 some ∙ power_at integers 0 0 refl))

-- a product of words 0, 1, 2 of which the second factor ends in 0
whole_product : (n : ℕ) (u v out : List ℕ) → n ≤ 1408 → length u ≡ n → length v ≡ n → Under 3 u → Under 3 v → get_or v (n - 1) 0 ≡ 0 → out ≡ cyclic_product u v →
    Agree integers n (integers_of out) (times n (integers_of u) (integers_of v))
whole_product n u v out few lu lv hu hv last e = record {
  at = λ k l.
      ap (λ xs. pos (get_or xs k 0)) e
      ∙ (whole u v (omega arith) (lv ∙ sym lu) hu hv (inr (subst (λ i. get_or v (i - 1) 0 ≡ 0) (sym lu) last)) k (omega arith)).unwrapped
      ∙ ap (λ i. times i (integers_of u) (integers_of v) k) lu;
}

-- the product modulo 3 of digits, by their codes
pub product_3_is : (n : ℕ) (a b d : List Digit) (u v p : List ℕ) → 1 ≤ n → n ≤ 1408 → length a ≡ n → length b ≡ n → length u ≡ n → length v ≡ n → length p ≡ n → Ternary n (coefficients b) →
    Codes a u → Codes b v → p ≡ cyclic_product u v → Agree integers (length p) (coefficients d) (λ k. centre 3 (reduce integers (length p) (integers_of p) k)) →
    Agree integers n (coefficients d) (opened_m n (coefficients b) (coefficients a))
product_3_is n a b d u v p some few la lb lu lv lp t hu hv hp hd =
    m_is n some (coefficients b) (coefficients a) (integers_of u) (integers_of v) (integers_of p) (coefficients d)
    (codes_are n a u (omega arith) hu) (codes_are n b v (omega arith) hv)
    (whole_product n u v p few lu lv (codes_under a u (lu ∙ sym la) hu) (codes_under b v (lv ∙ sym lb) hv) (codes_end n b v some lb hv t) hp)
    (subst (λ k. Agree integers k (coefficients d) (λ i. centre 3 (reduce integers k (integers_of p) i))) lp hd)

-- ---- open
pub message_is : (n w : ℕ) (f fp a m : List Digit) (c y : List ℕ) → 2 ≤ n → w ≤ 16 → length y ≡ n →
    SameMod 65536 n (integers_of y) (times n (integers_of c) (coefficients f)) → SameMod 3 (length y) (coefficients a) (λ k. centre (2 ^ w) (integers_of y k)) →
    Agree integers n (coefficients m) (opened_m n (coefficients fp) (coefficients a)) →
    Agree integers n (coefficients m) (opened_m n (coefficients fp) (opened_a n (2 ^ w) (coefficients f) (integers_of c)))
message_is n w f fp a m c y two narrow ly hy ha hm =
    m_is n (omega arith) (coefficients fp) (opened_a n (2 ^ w) (coefficients f) (integers_of c)) (coefficients a) (coefficients fp) (times n (coefficients a) (coefficients fp)) (coefficients m)
    (a_is n w narrow (coefficients f) (integers_of c) (coefficients f) (integers_of y) (coefficients a) ((cyclic_laws (mod_laws 65536) n).rfl (coefficients f)) hy
    (subst (λ k. SameMod 3 k (coefficients a) (λ i. centre (2 ^ w) (integers_of y i))) ly ha))
    ((cyclic_laws (mod_laws 3) n).rfl (coefficients fp)) ((cyclic_laws integer_laws n).rfl (times n (coefficients a) (coefficients fp))) hm

-- what is read of a polynomial is read of one that is the same centred
pub reads_same : (n m w : ℕ) (u v : Poly) → m ≡ n → Agree integers n (λ k. centre (2 ^ w) (u k)) (λ k. centre (2 ^ w) (v k)) → (x : Option (Unit {0})) (ds : List Digit) → SignsRead m w u x ds → SignsRead n w v x ds
reads_same n m w u v e same None ds h = λ small. h (λ k l. subst (λ z. nat_abs z ≤ 1) (sym (same.at k (omega arith))) (small k (omega arith)))
reads_same n m w u v e same (Some t) ds h = (
  λ k l. subst (λ z. nat_abs z ≤ 1) (same.at k l) (h.0 k (omega arith)),
  record { at = λ k l. h.1.at k (omega arith) ∙ same.at k l },
)

-- coefficients that are small, and those of a polynomial that is the same centred
module _ (n w : ℕ) (u v : Poly) (same : Agree integers n (λ k. centre (2 ^ w) (u k)) v) where
  small_same : Small n w u → (k : ℕ) → k < n → nat_abs (v k) ≤ 1
  small_same h k l = subst (λ z. nat_abs z ≤ 1) (same.at k l) (h k l)

  same_small : ((k : ℕ) → k < n → nat_abs (v k) ≤ 1) → Small n w u
  same_small h k l = subst (λ z. nat_abs z ≤ 1) (sym (same.at k l)) (h k l)

module _ (n w : ℕ) (c hq y b v : List ℕ) (m r : List Digit) (two : 2 ≤ n) (narrow : w ≤ 16) (lc : length c ≡ n) (lv : length v ≡ n) (hy : SameMod 65536 n (integers_of y) (lift_of n (coefficients m)))
    (hb : SameMod 65536 (length c) (integers_of b) (less (integers_of c) (integers_of y))) (hv : SameMod 65536 n (integers_of v) (times n (integers_of b) (integers_of hq))) where
  -- r'
  abbrev opened : Poly
  opened = opened_r n (2 ^ w) (integers_of hq) (integers_of c) (lifting n (coefficients m))

  same : Agree integers n (λ k. centre (2 ^ w) (reduce integers n (integers_of v) k)) opened
  same =
      r_is n w (omega arith) narrow (integers_of hq) (integers_of c) (lifting n (coefficients m)) (lifting n (coefficients m)) (integers_of y) (integers_of b) (integers_of v)
      ((cyclic_laws integer_laws n).rfl (lifting n (coefficients m))) hy (subst (λ k. SameMod 65536 k (integers_of b) (less (integers_of c) (integers_of y))) lc hb) hv

  small_r : Small n w (reduce integers n (integers_of v)) → Ternary n opened
  small_r h = reduced_ternary n (2 ^ w) (pow_pos w) (times n (less (integers_of c) (times n (Φ1 n) (lifting n (coefficients m)))) (integers_of hq)) (small_same n w (reduce integers n (integers_of v)) opened same h)

  pub r_found : (x : Option (Unit {0})) → SignsRead (length v) w (reduce integers (length v) (integers_of v)) x r →
      MatchOption x (Ternary n opened → ⊥) (λ _. Ternary n opened × Agree integers n (coefficients r) opened)
  r_found x read = by x (subst (λ k. SignsRead k w (reduce integers k (integers_of v)) x r) lv read)
    where
      by : (x : Option (Unit {0})) → SignsRead n w (reduce integers n (integers_of v)) x r → MatchOption x (Ternary n opened → ⊥) (λ _. Ternary n opened × Agree integers n (coefficients r) opened)
      by None h = λ t. h (same_small n w (reduce integers n (integers_of v)) opened same (λ k l. t.digit k l))
      by (Some u) h = (small_r h.0, (cyclic_laws integer_laws n).tr h.1 same)

-- ---- the key test
pub three_told : (n : ℕ) (f fp d : List Digit) (b : Bool) → 2 ≤ n → length d ≡ n → Agree integers n (coefficients d) (opened_m n (coefficients fp) (coefficients f)) →
    Tells b (Agree integers (length d) (coefficients d) (power integers 0)) → Tells b (InverseMod 3 n (coefficients f) (coefficients fp))
three_told n f fp d b two ld read tells =
    let three : 2 < 3 = lit< tt in
    told_as (subst (λ k. Tells b (Agree integers k (coefficients d) (power integers 0))) ld tells)
    (λ e. centred_one 3 n (lit< tt) two (times n (coefficients f) (coefficients fp)) three (coefficients d) read e)
    (λ i. one_centred 3 n (lit< tt) two (times n (coefficients f) (coefficients fp)) three (coefficients d) read i)

module _ (n w : ℕ) (h hq v : List ℕ) (d : List Digit) (two : 2 ≤ n) (wide : 2 ≤ w) (narrow : w ≤ 16) (lv : length v ≡ n)
    (hv : SameMod 65536 n (integers_of v) (times n (integers_of h) (integers_of hq))) where
  big : 2 < 2 ^ w
  big = let m : 2 ^ 2 ≤ 2 ^ w = pow-le-pow_right {n = 2} (lit< tt) {i = 2} {j = w} wide in omega arith

  product : SameMod (2 ^ w) n (integers_of v) (times n (integers_of h) (integers_of hq))
  product = narrowed w n narrow hv

  of_v : InverseMod (2 ^ w) n (integers_of h) (integers_of hq) → Rattle.algebra.specs.Polynomials.SamePhi (2 ^ w) n (integers_of v) (power integers 0)
  of_v i = (reduced_laws (mod_laws (2 ^ w)) n).tr (mod_phi (2 ^ w) n product) i

  -- not all coefficients are small, so it is not 1
  pub q_refused : (x : Option (Unit {0})) (a : Bool) → a ≡ is_some x → a ≡ false → SignsRead (length v) w (reduce integers (length v) (integers_of v)) x d → Tells a (InverseMod (2 ^ w) n (integers_of h) (integers_of hq))
  q_refused (Some u) a e f read = absurd (let z : ◌≡◌ {A = ℕ} 0 1 = cc in omega arith)
  q_refused None a e f read = record {
    holds = λ t. absurd (let z : ◌≡◌ {A = ℕ} 0 1 = cc in omega arith);
    fails = λ _ i. subst (λ k. Small k w (reduce integers k (integers_of v)) → ⊥) lv read (one_small (2 ^ w) n (omega (arith, big)) two (integers_of v) big (of_v i));
  }

  -- they are small, and the digits decide
  pub q_told : (x : Option (Unit {0})) (b : Bool) → is_some x ≡ true → SignsRead (length v) w (reduce integers (length v) (integers_of v)) x d → length d ≡ n →
      Tells b (Agree integers (length d) (coefficients d) (power integers 0)) → Tells b (InverseMod (2 ^ w) n (integers_of h) (integers_of hq))
  q_told None b e read ld tells = absurd (let z : ◌≡◌ {A = ℕ} 0 1 = cc in omega arith)
  q_told (Some u) b e read ld tells =
      let P = reduced_laws (mod_laws (2 ^ w)) n in
      let digits = subst (λ k. Agree integers k (coefficients d) (λ i. centre (2 ^ w) (reduce integers k (integers_of v) i))) lv read.1 in
      told_as (subst (λ k. Tells b (Agree integers k (coefficients d) (power integers 0))) ld tells)
      (λ t. P.tr (P.sy (mod_phi (2 ^ w) n product)) (centred_one (2 ^ w) n (omega (arith, big)) two (integers_of v) big (coefficients d) digits t))
      (λ i. one_centred (2 ^ w) n (omega (arith, big)) two (integers_of v) big (coefficients d) digits (of_v i))

module _ (n w : ℕ) (h y v : List ℕ) (f g : List Digit) (two : 2 ≤ n) (narrow : w ≤ 16) (balanced : Balanced (2 ^ w) n (integers_of h)) (ly : length y ≡ n) (lv : length v ≡ n)
    (hy : SameMod 65536 n (integers_of y) (times n (integers_of h) (coefficients f)))
    (hv : SameMod 65536 (length y) (integers_of v) (λ k. pos 43691 *ℤ divided integers (integers_of y) k)) where
  -- the only g that can solve the key equation
  abbrev only_g : Poly
  only_g = candidate (2 ^ w) 43691 (times n (integers_of h) (coefficients f))

  same_g : Agree integers n (λ k. centre (2 ^ w) (integers_of v k)) only_g
  same_g =
      candidate_words n w narrow (integers_of h) (coefficients f) (coefficients f) (integers_of y) (integers_of v) ((cyclic_laws (mod_laws 65536) n).rfl (coefficients f))
      hy
      (subst (λ k. SameMod 65536 k (integers_of v) (λ i. pos 43691 *ℤ divided integers (integers_of y) i)) ly hv)

  -- it is not in T
  pub g_refused : (x : Option (Unit {0})) (a : Bool) → a ≡ is_some x → a ≡ false → SignsRead (length v) w (integers_of v) x g → Tells a (Ternary+ n only_g)
  g_refused (Some u) a e f read = absurd (let z : ◌≡◌ {A = ℕ} 0 1 = cc in omega arith)
  g_refused None a e f read = record {
    holds = λ t. absurd (let z : ◌≡◌ {A = ℕ} 0 1 = cc in omega arith);
    fails = λ _ t. subst (λ k. Small k w (integers_of v) → ⊥) lv read (same_small n w (integers_of v) only_g same_g (λ k l. t.ternary.digit k l));
  }

  -- it is in T, and its correlation decides
  pub g_told : (x : Option (Unit {0})) (b : Bool) → is_some x ≡ true → SignsRead (length v) w (integers_of v) x g → length g ≡ n → b ≡ le_z (pos 0) (correlation (length g) (coefficients g)) → Tells b (Ternary+ n only_g)
  g_told None b e read lg sign = absurd (let z : ◌≡◌ {A = ℕ} 0 1 = cc in omega arith)
  g_told (Some u) b e read lg sign =
      let small = subst (λ k. Small k w (integers_of v)) lv read.0 in
      let digits = subst (λ k. Agree integers k (coefficients g) (λ i. centre (2 ^ w) (integers_of v i))) lv read.1 in
      let alike : correlation (length g) (coefficients g) ≡ correlation n only_g = ap (λ k. correlation k (coefficients g)) lg ∙ correlation_same n two ((cyclic_laws integer_laws n).tr digits same_g) in
      told_as (subst (λ t. Tells t (pos 0 ≤ℤ correlation (length g) (coefficients g))) (sym sign) (correlates_tells (correlation (length g) (coefficients g))))
      (λ c. record {
        ternary = candidate_ternary n (2 ^ w) 43691 two (pow_pos w) (integers_of h) (coefficients f) balanced (small_same n w (integers_of v) only_g same_g small);
        correlates = subst (λ z. pos 0 ≤ℤ z) alike c;
      })
      (λ t. subst (λ z. pos 0 ≤ℤ z) (sym alike) t.correlates)
