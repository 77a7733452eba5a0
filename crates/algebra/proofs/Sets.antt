-- What the theorems ask follows from the facts of a set.
use Rattle.std.proofs.Common.{◌≡◌, ℕ, zero, suc, ◌+◌, ◌-◌, ◌*◌, ◌/◌, ◌%◌, ◌^◌, ◌<◌, ◌≤◌, ℤ, pos, ◌*ℤ◌, sym, refl, ap, ◌∙◌, mod-eq_of_lt, mul_comm, mul-le-mul, pow-suc, arith, lit<}
use native.Mathlib.Nat.{mod-add-div}
use native.Mathlib.Decide.{dec_lt}
use Rattle.std.proofs.lemmas.Nat.{pow-add}
use Rattle.algebra.specs.Ring.{Differ, Congruent, integers}
use Rattle.algebra.specs.Polynomials.{as_word}
use Rattle.algebra.specs.Sets.{Set, SetFacts}
use Rattle.algebra.proofs.Derived.{mul_left}
use Rattle.algebra.proofs.Integers.{integer_laws, mod_laws, divides_mod}
use Rattle.algebra.proofs.Naturals.{congruent_in, congruent_out, square_three}
use Rattle.algebra.proofs.Classes.{as_word_is}
use Rattle.algebra.proofs.Newton.{newton}

-- an odd number has an inverse modulo 65536, by Newton's step
pub odd_inverse : (a : ℕ) → a % 2 ≡ 1 → (j : ℕ) × Congruent 65536 (a * j) 1
odd_inverse a h =
    let d₁ : Differ integers (pos 2) (pos a *ℤ pos 1) (pos 1) = record { by = pos (a / 2); is = ap pos (omega (arith, mod-add-div a 2)) } in
    let d₂ = newton integer_laws (pos 2) (pos a) (pos 1) d₁ in
    let d₃ = newton integer_laws (pos 4) (pos a) _ d₂ in
    let d₄ = newton integer_laws (pos 16) (pos a) _ d₃ in
    let d₅ = newton integer_laws (pos 256) (pos a) _ d₄ in
    close_off _ d₅
  where
    close_off : (j : ℤ) → Differ integers (pos 65536) (pos a *ℤ j) (pos 1) → (j : ℕ) × Congruent 65536 (a * j) 1
    close_off j d =
        let M = mod_laws 65536 in
        (as_word 65536 j, congruent_in 65536 (a * as_word 65536 j) 1 (M.tr (mul_left M (pos a) (as_word_is 65536 (lit< tt) j)) d))

-- modulo what divides 65536
down : (q c a : ℕ) → q * c ≡ 65536 → 1 < q → Congruent 65536 a 1 → a % q ≡ 1
down q c a e l h = (congruent_in q a 1 (divides_mod q c 65536 e (congruent_out 65536 a 1 h))).rem ∙ mod-eq_of_lt l

big_enough : (n q : ℕ) → 2 ≤ n → 128 * ((n - 1) * (n - 1)) < q * q → 2 < q
big_enough n q h w = by (dec_lt 2 q)
  where
    by : Dec (2 < q) → 2 < q
    by (yes l) = l
    by (no l) =
        let p : q ≤ 2 = omega arith in
        let t : q * q ≤ 2 * 2 = mul-le-mul p p in
        let o : 1 ≤ n - 1 = omega arith in
        let v : 1 * 1 ≤ (n - 1) * (n - 1) = mul-le-mul o o in
        absurd (omega arith)

-- a coefficient has a bit at least
pub some_width : (n w : ℕ) → 2 ≤ n → 128 * ((n - 1) * (n - 1)) < 2 ^ w * 2 ^ w → 1 ≤ w
some_width n zero h l = let big : 2 < 2 ^ 0 = big_enough n (2 ^ 0) h l in absurd (omega arith)
some_width n (suc w) h l = omega arith

halved : (w : ℕ) → 2 < 2 ^ w → 2 ^ w ≡ 2 * 2 ^ (w - 1)
halved zero l = absurd (omega arith)
halved (suc w) l = let e : suc w - 1 ≡ w = omega arith in pow-suc 2 w ∙ mul_comm (2 ^ w) 2 ∙ ap (λ (i : ℕ). 2 * 2 ^ i) (sym e)

pub sets_suffice : (n w : ℕ) → Set n w → SetFacts n w
sets_suffice n w s =
    let big : 2 < 2 ^ w = big_enough n (2 ^ w) s.long s.wide in
    let one : 1 < 2 ^ w = omega arith in
    let e : w + (16 - w) ≡ 16 = omega (arith, s.narrow) in
    let rest : 2 ^ w * 2 ^ (16 - w) ≡ 65536 = sym (pow-add 2 w (16 - w)) ∙ ap (λ (i : ℕ). 2 ^ i) e in
    let j = odd_inverse n s.odd in
    record {
      big = big;
      three = square_three n s.no_three;
      inverse = j.0;
      inverse_is = down (2 ^ w) (2 ^ (16 - w)) (n * j.0) rest one j.1;
      third = down (2 ^ w) (2 ^ (16 - w)) 131073 rest one (record { rem = refl });
      half = halved w big;
      rest = rest;
    }
