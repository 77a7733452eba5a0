-- Inverses of polynomials of digits, over the integers.
use Rattle.std.proofs.Common.{◌≡◌, ℕ, ◌-◌, ◌≤◌, true, false, List, length, get_or, is_some, Some, None, Option, sym, ap, ◌∙◌, subst, arith, lit<, MatchOption}
use Rattle.algebra.specs.Polynomials.{SameMod, InverseMod, NoInverseMod}
use Rattle.algebra.specs.Residues.{Residue, residue, residues}
use Rattle.algebra.specs.Stands.{digit_number}
use Rattle.algebra.specs.Ternary.{Ternary}
use Rattle.algebra.proofs.Cyclic.{cyclic_laws}
use Rattle.algebra.proofs.Integers.{mod_laws, equal_mod}
use Rattle.algebra.proofs.Polynomials.{inverse_same}
use Rattle.euclid.specs.Inverses.{Inverted, NoInverse, Suited}
use Rattle.euclid.specs.Series.{poly}
use Rattle.arithmetic.specs.declared.digit.Digit.{Digit}
use Rattle.arithmetic.specs.Digits.{digit, coefficients}
use Rattle.arithmetic.proofs.Digits.{number_small}
use Rattle.arithmetic.proofs.Standing.{digits_are, digits_number}

digits_same : (ds : List Digit) → SameMod 3 (length ds) (digits_number ds) (coefficients ds)
digits_same ds = record { at = λ k l. equal_mod 3 (digits_are ds k l) }

-- the polynomial of digits, as the inverse has it
abbrev values : List Digit → ℕ → Residue 3
values ds = poly (residues 3 (lit< tt)) (λ d. residue 3 (lit< tt) d.code) ds

-- an inverse is looked for of f, which has n digits, over lists of i, j, k, l and m digits, and u is the result
module _ (n i j k l m : ℕ) (f u : List Digit) (x : Option ℕ) (long : length f ≡ n) (same : length u ≡ n) where
  pub three_found : is_some x ≡ true → MatchOption x (Suited (length f) i j k l m → NoInverseMod 3 (length f) (digits_number f)) (λ _. InverseMod 3 (length f) (digits_number f) (digits_number u)) → InverseMod 3 n (coefficients f) (coefficients u)
  three_found e c = by x e c
    where
      by : (x : Option ℕ) → is_some x ≡ true → MatchOption x (Suited (length f) i j k l m → NoInverseMod 3 (length f) (digits_number f)) (λ _. InverseMod 3 (length f) (digits_number f) (digits_number u)) → InverseMod 3 n (coefficients f) (coefficients u)
      by None s c = absurd (let z : ◌≡◌ {A = ℕ} 0 1 = cc in omega arith)
      by (Some d) s c =
          inverse_same 3 n (subst (λ i. SameMod 3 i (digits_number f) (coefficients f)) long (digits_same f)) (subst (λ i. SameMod 3 i (digits_number u) (coefficients u)) same (digits_same u))
          (subst (λ i. InverseMod 3 i (digits_number f) (digits_number u)) long c)

  pub three_absent : Suited (length f) i j k l m → is_some x ≡ false → MatchOption x (Suited (length f) i j k l m → NoInverseMod 3 (length f) (digits_number f)) (λ _. InverseMod 3 (length f) (digits_number f) (digits_number u)) → NoInverseMod 3 n (coefficients f)
  three_absent fit e c = by x e c
    where
      by : (x : Option ℕ) → is_some x ≡ false → MatchOption x (Suited (length f) i j k l m → NoInverseMod 3 (length f) (digits_number f)) (λ _. InverseMod 3 (length f) (digits_number f) (digits_number u)) → NoInverseMod 3 n (coefficients f)
      by (Some d) s c v inverse = absurd (let z : ◌≡◌ {A = ℕ} 0 1 = cc in omega arith)
      by None s c v inverse =
          let C = cyclic_laws (mod_laws 3) n in
          subst (λ i. NoInverseMod 3 i (digits_number f)) long (c fit) v (inverse_same 3 n (C.sy (subst (λ i. SameMod 3 i (digits_number f) (coefficients f)) long (digits_same f))) (C.rfl v) inverse)

  pub three_reduced : 1 ≤ n → is_some x ≡ true → MatchOption x (Suited (length f) i j k l m → NoInverse (residues 3 (lit< tt)) (length f) (values f)) (λ degree. Suited (length f) i j k l m × Inverted (residues 3 (lit< tt)) (length f) (values f) (values u) degree) →
      Ternary n (coefficients u)
  three_reduced some e c = by x e c
    where
      by : (x : Option ℕ) → is_some x ≡ true → MatchOption x (Suited (length f) i j k l m → NoInverse (residues 3 (lit< tt)) (length f) (values f)) (λ degree. Suited (length f) i j k l m × Inverted (residues 3 (lit< tt)) (length f) (values f) (values u) degree) →
          Ternary n (coefficients u)
      by None s c = absurd (let z : ◌≡◌ {A = ℕ} 0 1 = cc in omega arith)
      by (Some d) s c = record {
        digit = λ k l. number_small (get_or u k (digit 0));
        last = sym (digits_are u (n - 1) (omega arith)) ∙ ap digit_number (c.1.reduced (n - 1) (omega arith));
      }
