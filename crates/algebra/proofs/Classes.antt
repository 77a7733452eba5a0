-- The integer of a class from 0 to m - 1, and the one nearest to 0.
use Rattle.std.proofs.Common.{◌≡◌, ℕ, suc, ◌+◌, ◌-◌, ◌*◌, ◌%◌, ◌<◌, ◌≤◌, Bool, true, false, cond, not, T, leb, ℤ, pos, negsuc, neg_ℤ, nat_abs, sym, refl, ap, ◌∙◌, subst, mod-lt, mod-eq_of_lt, arith, leb→le}
use lib.Dec.{nleb→lt}
use borrow.Author.Differences.{ints}
use Rattle.algebra.specs.Ring.{Differ, integers}
use Rattle.algebra.specs.Polynomials.{as_word, centre}
use Rattle.algebra.proofs.Integers.{mod_laws, equal_mod, close}
use Rattle.algebra.proofs.Naturals.{wrapped, neg_wrapped, congruent_out, congruent_in, naturals_hom}

pub as_word_below : (m : ℕ) → 0 < m → (z : ℤ) → as_word m z < m
as_word_below m h (pos a) = mod-lt a h
as_word_below m h (negsuc a) = mod-lt (m - suc a % m) h

pub as_word_is : (m : ℕ) → 0 < m → (z : ℤ) → Differ integers (pos m) (pos (as_word m z)) z
as_word_is m h (pos a) = congruent_out m (a % m) a (wrapped m a)
as_word_is m h (negsuc a) =
    (mod_laws m).tr (congruent_out m ((m - suc a % m) % m) (suc a * (m - 1)) (neg_wrapped m h (suc a))) ((naturals_hom m h).h_neg (suc a))

pub word_same : (q : ℕ) → 0 < q → (y z : ℤ) → Differ integers (pos q) y z → as_word q y ≡ as_word q z
word_same q h y z d =
    let M = mod_laws q in
    sym (mod-eq_of_lt (as_word_below q h y))
    ∙ (congruent_in q (as_word q y) (as_word q z) (M.tr (as_word_is q h y) (M.tr d (M.sy (as_word_is q h z))))).rem
    ∙ mod-eq_of_lt (as_word_below q h z)

-- ---- the one nearest to 0
pub centre_is : (q : ℕ) → 0 < q → (z : ℤ) → Differ integers (pos q) (centre q z) z
centre_is q h z = (mod_laws q).tr (by (leb q (as_word q z + as_word q z)) (as_word q z) (as_word_below q h z)) (as_word_is q h z)
  where
    by : (t : Bool) (w : ℕ) → w < q → Differ integers (pos q) (cond t (neg_ℤ (pos (q - w))) (pos w)) (pos w)
    by true w l = record { by = negsuc 0; is = omega (arith, ints) }
    by false w l = equal_mod q refl

pub centre_small : (q : ℕ) → 0 < q → (z : ℤ) → nat_abs (centre q z) + nat_abs (centre q z) ≤ q
centre_small q h z = by (leb q (as_word q z + as_word q z)) refl
  where
    by : (t : Bool) → leb q (as_word q z + as_word q z) ≡ t → nat_abs (cond t (neg_ℤ (pos (q - as_word q z))) (pos (as_word q z))) + nat_abs (cond t (neg_ℤ (pos (q - as_word q z))) (pos (as_word q z))) ≤ q
    by true e =
        let l : q ≤ as_word q z + as_word q z = leb→le q (as_word q z + as_word q z) (subst T (sym e) tt) in
        omega (arith, ints, as_word_below q h z)
    by false e = let l : as_word q z + as_word q z < q = nleb→lt q (as_word q z + as_word q z) (subst (λ t. T (not t)) (sym e) tt) in omega arith

pub centre_same : (q : ℕ) → 0 < q → (y z : ℤ) → Differ integers (pos q) y z → centre q y ≡ centre q z
centre_same q h y z d = ap (λ w. cond (leb q (w + w)) (neg_ℤ (pos (q - w))) (pos w)) (word_same q h y z d)

pub centre_zero : (q : ℕ) → 0 < q → (z : ℤ) → Differ integers (pos q) z (pos 0) → centre q z ≡ pos 0
centre_zero q h z d = close q (centre q z) (pos 0) ((mod_laws q).tr (centre_is q h z) d) (omega (arith, centre_small q h z))
