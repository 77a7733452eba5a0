-- From an inverse modulo 2, lifted and masked, to the only reduced inverse modulo 2 ^ w.
use Rattle.std.proofs.Common.{◌≡◌, ℕ, ◌-◌, ◌%◌, ◌^◌, ◌<◌, ◌≤◌, List, length, get_or, pos, sym, ap, ◌∙◌, subst, inl, inr, mod-lt, mod-eq_of_lt, arith, lit<}
use native.Mathlib.Nat.{zero-mod, pow-le-pow_right}
use Rattle.std.proofs.lemmas.Nat.{pow_pos}
use Rattle.std.proofs.lemmas.List.{ext_get_or, get_or_past}
use Rattle.std.proofs.lemmas.Bool.{cases_lt}
use Rattle.algebra.specs.Residues.{residue, residues, residue_laws}
use Rattle.algebra.specs.Polynomials.{Poly, SameMod, InverseMod, NoInverseMod}
use Rattle.algebra.specs.Stands.{numbers, residue_number}
use Rattle.algebra.proofs.Cyclic.{cyclic_laws}
use Rattle.algebra.proofs.Integers.{mod_laws, equal_mod}
use Rattle.algebra.proofs.Naturals.{wrapped, congruent_in, congruent_out}
use Rattle.algebra.proofs.Polynomials.{inverse_same, inverse_only}
use Rattle.algebra.proofs.Residues.{residue_back}
use Rattle.algebra.proofs.WordInverses.{inverses_at, zero_inverts_nothing}
use Rattle.euclid.specs.Series.{poly, Size}
use Rattle.euclid.proofs.Lists.{poly_at}
use Rattle.euclid.proofs.Standing.{stands_for}
use Rattle.arithmetic.specs.declared.bit.Bit.{Bit}
use Rattle.arithmetic.specs.Bits.{bit}
use Rattle.arithmetic.specs.Newton.{Lifted}
use Rattle.arithmetic.specs.Products.{integers_of}
use Rattle.arithmetic.specs.WordInverses.{Taken, Reduced, Inverted}

-- what has no inverse modulo 2 has none modulo 2 ^ w
pub none_at : (w n : ℕ) (f : Poly) → 1 ≤ w → w ≤ 16 → NoInverseMod 2 n f → NoInverseMod (2 ^ w) n f
none_at w n f one few none u i = none u ((inverses_at n w f one few).down u i)

-- ---- modulo 2, by bits
abbrev bits_of : List Bit → Poly
bits_of xs = numbers (residue_number 2) (poly (residues 2 (lit< tt)) (λ b. residue 2 (lit< tt) b.code) xs)

module _ (f : List ℕ) (a : List Bit) (la : length a ≡ length f) (ha : (k : ℕ) → k < length f → (get_or a k (bit 0)).code ≡ get_or f k 0 % 2) where
  f_bits : SameMod 2 (length f) (bits_of a) (integers_of f)
  f_bits = stands_for 2 (lit< tt) (λ b. b.code) (bit 0) a (length f) (integers_of f) (omega arith) (λ k l.
      (mod_laws 2).tr (equal_mod 2 (ap pos (ha k l))) (congruent_out 2 (get_or f k 0 % 2) (get_or f k 0) (wrapped 2 (get_or f k 0))))

  pub bits_none : NoInverseMod 2 (length a) (bits_of a) → NoInverseMod 2 (length f) (integers_of f)
  bits_none none u i =
      let C = cyclic_laws (mod_laws 2) (length f) in
      subst (λ n. NoInverseMod 2 n (bits_of a)) la none u (inverse_same 2 (length f) (C.sy f_bits) (C.rfl u) i)

  pub bits_found : (u : List ℕ) (b : List Bit) → length b ≡ length f → ((k : ℕ) → k < length b → get_or u k 0 ≡ (get_or b k (bit 0)).code) → InverseMod 2 (length a) (bits_of a) (bits_of b) → InverseMod 2 (length f) (integers_of f) (integers_of u)
  bits_found u b lb hb i =
      let u_bits : SameMod 2 (length f) (bits_of b) (integers_of u) = stands_for 2 (lit< tt) (λ b. b.code) (bit 0) b (length f) (integers_of u) (omega arith) (λ k l. equal_mod 2 (ap pos (sym (hb k (omega arith))))) in
      inverse_same 2 (length f) f_bits u_bits (subst (λ n. InverseMod 2 n (bits_of a) (bits_of b)) la i)

-- ---- modulo 2 ^ w
module _ (w : ℕ) (f u v result : List ℕ) (t : Taken w f result) (first : InverseMod 2 (length f) (integers_of f) (integers_of u)) (lifted : Lifted f u v)
    (result' : List ℕ) (places : length result' ≡ length f) (masked : (k : ℕ) → k < length f → get_or result' k 0 ≡ get_or v k 0 % 2 ^ w) where
  some : 0 < 2 ^ w
  some = pow_pos w

  same : SameMod (2 ^ w) (length f) (integers_of v) (integers_of result')
  same = record { at = λ k l. (mod_laws (2 ^ w)).tr ((mod_laws (2 ^ w)).sy (congruent_out (2 ^ w) (get_or v k 0 % 2 ^ w) (get_or v k 0) (wrapped (2 ^ w) (get_or v k 0)))) (equal_mod (2 ^ w) (ap pos (sym (masked k l)))) }

  pub inverse : InverseMod (2 ^ w) (length f) (integers_of f) (integers_of result')
  inverse = inverse_same (2 ^ w) (length f) ((cyclic_laws (mod_laws (2 ^ w)) (length f)).rfl (integers_of f)) same (lifted.inverse first w t.some t.narrow)

  pub reduced : Reduced w (length f) result'
  reduced = record {
    places = places;
    words = λ k l. let e = masked k (omega arith) in let m = mod-lt (get_or v k 0) some in omega arith;
    last = masked (length f - 1) (let h = t.long in omega arith) ∙ ap (λ x. x % 2 ^ w) lifted.last ∙ zero-mod (2 ^ w);
  }

  pub only : (x : List ℕ) → Reduced w (length f) x → InverseMod (2 ^ w) (length f) (integers_of f) (integers_of x) → x ≡ result'
  only x r i =
      let agree = inverse_only (2 ^ w) (length f) (integers_of f) (integers_of x) (integers_of result') i inverse (ap pos r.last) (ap pos reduced.last) in
      ext_get_or 0 x result' (r.places ∙ sym places) (λ k l.
      let lf : k < length f = let e = r.places in omega arith in
      sym (mod-eq_of_lt (r.words k l)) ∙ (congruent_in (2 ^ w) (get_or x k 0) (get_or result' k 0) (agree.at k lf)).rem ∙ mod-eq_of_lt (reduced.words k (let e = places in omega arith)))

  module _ (size : ℕ) (inside : size ≤ length result') (s : Size (residues 65536 (lit< tt)) size (poly (residues 65536 (lit< tt)) (residue 65536 (lit< tt)) result')) where
    fits : (k : ℕ) → get_or result' k 0 < 65536
    fits k = elim (cases_lt k (length result')) [
      | inl l ↦ let most : 2 ^ w ≤ 2 ^ 16 = pow-le-pow_right {n = 2} (lit< tt) {i = w} {j = 16} t.narrow in let word = reduced.words k l in omega arith
      | inr l ↦ let none = get_or_past result' k 0 l in omega arith
    ]

    zero_above : (k : ℕ) → size ≤ k → get_or result' k 0 ≡ 0
    zero_above k h = elim (cases_lt k (length result')) [
      | inl l ↦ residue_back 65536 (lit< tt) (get_or result' k 0) 0 (fits k) (lit< tt) (sym (poly_at (residue_laws 65536 (lit< tt)) (residue 65536 (lit< tt)) result' k 0 l) ∙ s.above k h)
      | inr l ↦ get_or_past result' k 0 l
    ]

    -- the inverse is not the zero polynomial
    pub sized : 1 ≤ size
    sized = elim (cases_lt 0 size) [
      | inl h ↦ h
      | inr h ↦ absurd (zero_inverts_nothing (2 ^ w) (length f) (integers_of f) (integers_of result') (pow-le-pow_right {n = 2} (lit< tt) {i = 1} {j = w} t.some) t.long
          (record { at = λ k l. equal_mod (2 ^ w) (ap pos (zero_above k (omega arith))) }) inverse)
    ]

    pub found : Inverted w f result' (size - 1)
    found = record {
      inverse = inverse;
      reduced = reduced;
      only = only;
      top = λ e.
          let one = sized in
          let within : size - 1 < length result' = omega arith in
          s.top (size - 1) (omega arith) (poly_at (residue_laws 65536 (lit< tt)) (residue 65536 (lit< tt)) result' (size - 1) 0 within ∙ ap (residue 65536 (lit< tt)) e);
      above = λ k h. zero_above k (let one = sized in omega arith);
    }
