-- Loops over lists of words and digits: what one more element makes of what holds of those before it.
use Rattle.std.proofs.Common.{◌≡◌, ℕ, suc, ◌+◌, ◌-◌, ◌*◌, ◌%◌, ◌^◌, ◌<◌, ◌≤◌, cond, ◌≢◌, List, [], ◌∷◌, length, get_or, set, ℤ, pos, ◌+ℤ◌, ◌*ℤ◌, neg_ℤ, sym, refl, ap, subst, mod-lt, add-one, arith, get_or-set_other, get_or-set_same, pow_pos, below_more, le-leb}
use borrow.Author.Differences.{ints}
use borrow.Author.Tests.{lt-leb}
use Rattle.algebra.specs.Radix.{Under}
use Rattle.algebra.specs.Ring.{Agree, Differ, integers, sum, divided}
use Rattle.algebra.specs.Polynomials.{Poly, SameMod, centre, scale}
use Rattle.algebra.proofs.Classes.{centre_same}
use Rattle.algebra.proofs.InPlace.{Changed, changed_more}
use Rattle.algebra.proofs.Integers.{mod_laws, equal_mod, divides_mod}
use Rattle.algebra.proofs.Naturals.{wrapped, congruent_out}
use Rattle.algebra.proofs.Solver.{x, one, ◌⊞◌, ◌⊠◌, ◌⊟◌, minus, follows}
use Rattle.algebra.proofs.Sums.{sum_none, sum_more}
use Rattle.algebra.proofs.WordInverses.{width_divides}

-- what holds of each element below i holds of each below i + 1, where the element at i is written so
pub filled_more :
    {X : Type 0} (P : ℕ → X → Type 0) (d : X) (zs : List X) (i : ℕ) (v : X) → i < length zs → P i v
    → ((k : ℕ) → k < i → P k (get_or zs k d)) → (k : ℕ) → k < i + 1 → P k (get_or (set zs i v) k d)
filled_more P d zs i v l p inv =
    below_more (λ k. P k (get_or (set zs i v) k d)) i (λ k h. let ne : k ≢ i = omega arith in rw get_or-set_other (inv k h)) (rw get_or-set_same p)

-- ---- words, modulo m
-- a sum of words
pub word_plus : (m a b : ℕ) → Differ integers (pos m) (pos ((a + b) % m)) (pos a +ℤ pos b)
word_plus m a b = congruent_out m ((a + b) % m) (a + b) (wrapped m (a + b))

-- a product of words
pub word_times : (m a b : ℕ) → Differ integers (pos m) (pos ((a * b) % m)) (pos a *ℤ pos b)
word_times m a b = congruent_out m ((a * b) % m) (a * b) (wrapped m (a * b))

-- a times each word, modulo q
pub scaled :
    (q a : ℕ) (xs zs : List ℕ) → 0 < q → length zs ≡ length xs → ((k : ℕ) → k < length xs → get_or zs k 0 ≡ a * get_or xs k 0 % q)
    → Under q zs × SameMod q (length xs) (λ k. pos (get_or zs k 0)) (scale (pos a) (λ k. pos (get_or xs k 0)))
scaled q a xs zs some same h = (
  λ k l. subst (λ (y : ℕ). y < q) (sym (h k (omega arith))) (mod-lt (a * get_or xs k 0) some),
  record { at = λ k l. subst (λ (y : ℕ). Differ integers (pos q) (pos y) (pos a *ℤ pos (get_or xs k 0))) (sym (h k l)) (word_times q a (get_or xs k 0)) },
)

-- ---- running sums, modulo m
-- the sum of none
pub total_none : (m : ℕ) (y : Poly) → Differ integers (pos m) (pos 0) (sum integers 0 y)
total_none m y = (mod_laws m).sy (sum_none (mod_laws m) y)

-- one more added
pub total_more : (m i : ℕ) (y : Poly) (t r : ℤ) → Differ integers (pos m) r (t +ℤ y i) → Differ integers (pos m) t (sum integers i y) → Differ integers (pos m) r (sum integers (i + 1) y)
total_more m i y t r d inv =
    let M = mod_laws m in
    rw (add-one i) (M.tr d (M.tr (M.add_cong inv (M.rfl (y i))) (M.sy (sum_more M i y))))

-- minus the sum of none
pub rest_none : (m : ℕ) (y : Poly) → Differ integers (pos m) (pos 0) (neg_ℤ (sum integers 0 y))
rest_none m y = (mod_laws m).sy ((mod_laws m).neg_cong (sum_none (mod_laws m) y))

-- one more taken away
pub rest_more : (m i : ℕ) (y : Poly) (t r : ℤ) → Differ integers (pos m) r (t +ℤ neg_ℤ (y i)) → Differ integers (pos m) t (neg_ℤ (sum integers i y)) → Differ integers (pos m) r (divided integers y i)
rest_more m i y t r d inv =
    let M = mod_laws m in
    follows M (r ∷ t ∷ y i ∷ sum integers i y ∷ sum integers (suc i) y ∷ []) (x 0) (minus (x 4))
    ((one, x 0, x 1 ⊟ x 2) ∷ (one, x 1, minus (x 3)) ∷ (one, x 4, x 3 ⊞ x 2) ∷ []) tt (d, (inv, (sum_more M i y, tt)))

-- below i, word k is t times minus the sum of the words of us to k; `rest` is minus the sum of those below i
abbrev pub Divided : (m t : ℕ) → (us zs : List ℕ) → (rest i : ℕ) → Type 0
Divided m t us zs rest i =
    Differ integers (pos m) (pos rest) (neg_ℤ (sum integers i (λ k. pos (get_or us k 0))))
    × Changed (λ k w. Differ integers (pos m) (pos w) (pos t *ℤ divided integers (λ j. pos (get_or us j 0)) k)) us zs i

-- one word more
pub divided_more :
    (m t : ℕ) (us zs : List ℕ) (rest i r w : ℕ) → i < length zs → Differ integers (pos m) (pos r) (pos rest +ℤ neg_ℤ (pos (get_or zs i 0))) → Differ integers (pos m) (pos w) (pos r *ℤ pos t)
    → Divided m t us zs rest i → Divided m t us (set zs i w) r (i + 1)
divided_more m t us zs rest i r w l d e inv =
    let M = mod_laws m in
    let y : Poly = λ k. pos (get_or us k 0) in
    let same : get_or zs i 0 ≡ get_or us i 0 = inv.1.1 i (omega arith) in
    let minus_sum : Differ integers (pos m) (pos r) (divided integers y i) =
    rest_more m i y (pos rest) (pos r) (subst (λ (a : ℕ). Differ integers (pos m) (pos r) (pos rest +ℤ neg_ℤ (pos a))) same d) inv.0 in (
      subst (λ (k : ℕ). Differ integers (pos m) (pos r) (neg_ℤ (sum integers k y))) (sym (add-one i)) minus_sum,
      changed_more (λ k z. Differ integers (pos m) (pos z) (pos t *ℤ divided integers y k)) us zs i w l (M.tr e (M.tr (M.mul_comm (pos r) (pos t)) (M.mul_cong (M.rfl (pos t)) minus_sum))) inv.1,
    )

-- minus a sum times n, where n is 1 modulo 3
pub shift_one : (n : ℕ) (t s : ℤ) → n % 3 ≡ 1 → Differ integers (pos 3) t s → Differ integers (pos 3) (neg_ℤ t) (neg_ℤ (pos n *ℤ s))
shift_one n t s e d =
    follows (mod_laws 3) (pos n ∷ t ∷ s ∷ []) (minus (x 1)) (minus (x 0 ⊠ x 2))
    ((minus one, x 1, x 2) ∷ (x 2, x 0, one) ∷ []) tt (d, (congruent_out 3 n 1 (record { rem = e }), tt))

-- and where it is -1
pub shift_two : (n : ℕ) (t s : ℤ) → n % 3 ≡ 2 → Differ integers (pos 3) t s → Differ integers (pos 3) t (neg_ℤ (pos n *ℤ s))
shift_two n t s e d =
    let minus_one : Differ integers (pos 3) (pos n) (neg_ℤ (pos 1)) = (mod_laws 3).tr (congruent_out 3 n 2 (record { rem = e })) (record { by = pos 1; is = refl }) in
    follows (mod_laws 3) (pos n ∷ t ∷ s ∷ []) (x 1) (minus (x 0 ⊠ x 2)) ((one, x 1, x 2) ∷ (x 2, x 0, minus one) ∷ []) tt (d, (minus_one, tt))

-- ---- words centred modulo q
module _ (q a : ℕ) where
  -- from half of q on
  centre_high : q ≤ a % q + a % q → centre q (pos a) ≡ neg_ℤ (pos (q - a % q))
  centre_high h = ap (λ t. cond t (neg_ℤ (pos (q - a % q))) (pos (a % q))) (le-leb q (a % q + a % q) h)

  -- below it
  centre_low : a % q + a % q < q → centre q (pos a) ≡ pos (a % q)
  centre_low h = ap (λ t. cond t (neg_ℤ (pos (q - a % q))) (pos (a % q))) (lt-leb q (a % q + a % q) h)

  -- the remainder modulo 3 of what is below half of q
  pub code_low : a % q + a % q < q → Differ integers (pos 3) (pos (a % q % 3)) (centre q (pos a))
  code_low h = (mod_laws 3).tr (congruent_out 3 (a % q % 3) (a % q) (wrapped 3 (a % q))) (equal_mod 3 (sym (centre_low h)))

  -- and of what is not
  pub code_high : 0 < q → q ≤ a % q + a % q → Differ integers (pos 3) (pos ((a % q + 2 * q) % 3)) (centre q (pos a))
  code_high some h =
      let below : a % q < q = mod-lt a some in
      let whole : pos (a % q + 2 * q) ≡ neg_ℤ (pos (q - a % q)) +ℤ pos 3 *ℤ pos q = omega (arith, ints) in
      (mod_laws 3).tr (congruent_out 3 ((a % q + 2 * q) % 3) (a % q + 2 * q) (wrapped 3 (a % q + 2 * q))) ((mod_laws 3).tr (record { by = pos q; is = whole }) (equal_mod 3 (sym (centre_high h))))

-- the same modulo 65536 are the same centred modulo 2^w
pub centre_words : (w n : ℕ) (u v : Poly) → w ≤ 16 → SameMod 65536 n u v → Agree integers n (λ k. centre (2 ^ w) (u k)) (λ k. centre (2 ^ w) (v k))
centre_words w n u v few h = record { at = λ k l. centre_same (2 ^ w) (pow_pos w) (u k) (v k) (divides_mod (2 ^ w) (2 ^ (16 - w)) 65536 (width_divides w few) (h.at k l)) }
