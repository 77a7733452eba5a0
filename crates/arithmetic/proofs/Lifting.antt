-- Words of polynomials over the integers, and Newton's steps on lists of words.
use Rattle.std.proofs.Common.{◌≡◌, ℕ, zero, suc, ◌+◌, ◌-◌, ◌%◌, ◌<◌, ◌≤◌, ◌≢◌, List, length, get_or, set, pos, neg_ℤ, sym, ◌∙◌, mod-eq_of_lt, arith, lit<, get_or-set_other, get_or-set_same}
use lib.IntN.{+ℤ_comm, +ℤ_idl}
use Rattle.std.proofs.lemmas.List.FromFn.{fill_by_all}
use Rattle.algebra.specs.Ring.{Differ, integers, reduce}
use Rattle.algebra.specs.Polynomials.{Poly, SameMod, as_word, refine, refine_four}
use Rattle.algebra.proofs.Classes.{word_same}
use Rattle.algebra.proofs.Integers.{mod_laws, equal_mod}
use Rattle.algebra.proofs.Naturals.{wrapped, congruent_out}
use Rattle.algebra.proofs.WordInverses.{two_first, two_later, word_zero, four_steps, steps_invert}
use Rattle.arithmetic.specs.Newton.{Lifted, two_less, words_of}
use Rattle.arithmetic.specs.Products.{integers_of}

-- words that are a polynomial's coefficients up to multiples of 65536 are its words
pub words_are : (n : ℕ) (xs : List ℕ) (u : Poly) → length xs ≡ n → ((k : ℕ) → get_or xs k 0 < 65536) → SameMod 65536 n (integers_of xs) u → xs ≡ words_of n u
unfolding words_of
words_are n xs u same fits h =
    fill_by_all (λ k. as_word 65536 (u k)) xs n 0 same (λ k l. sym (mod-eq_of_lt (fits k)) ∙ word_same 65536 (lit< tt) (pos (get_or xs k 0)) (u k) (h.at k l))

-- 2 added to the first of the words of -p
pub two_more : (n : ℕ) (old zs : List ℕ) → 1 ≤ length zs → ((k : ℕ) → k < n → Differ integers (pos 65536) (pos (get_or zs k 0)) (neg_ℤ (pos (get_or old k 0)))) →
    SameMod 65536 n (integers_of (set zs 0 ((get_or zs 0 0 + 2) % 65536))) (two_less n (integers_of old))
two_more n old zs some h = record { at = at }
  where
    at : (k : ℕ) → k < n → Differ integers (pos 65536) (pos (get_or (set zs 0 ((get_or zs 0 0 + 2) % 65536)) k 0)) (two_less n (integers_of old) k)
    at zero l =
        let M = mod_laws 65536 in
        let x = get_or zs 0 0 in
        let here : 0 < length zs = omega arith in
        rw (get_or-set_same, two_first n)
        (M.tr (congruent_out 65536 ((x + 2) % 65536) (x + 2) (wrapped 65536 (x + 2))) (M.tr (M.add_cong (h 0 l) (M.rfl (pos 2))) (equal_mod 65536 (+ℤ_comm (neg_ℤ (pos (get_or old 0 0))) (pos 2)))))
    at (suc k) l =
        let ne : suc k ≢ 0 = omega arith in
        let later : 0 < suc k = omega arith in
        rw (get_or-set_other, two_later n (suc k) later) ((mod_laws 65536).tr (h (suc k) l) (equal_mod 65536 (sym (+ℤ_idl (neg_ℤ (pos (get_or old (suc k) 0)))))))

-- four steps, and the last word taken from all
pub lifted : (f u u₁ u₂ u₃ u₄ v : List ℕ) → 1 ≤ length f → length v ≡ length f → ((k : ℕ) → get_or v k 0 < 65536) →
    SameMod 65536 (length f) (integers_of u₁) (refine (length f) (integers_of f) (integers_of u)) →
    SameMod 65536 (length f) (integers_of u₂) (refine (length f) (integers_of f) (integers_of u₁)) →
    SameMod 65536 (length f) (integers_of u₃) (refine (length f) (integers_of f) (integers_of u₂)) →
    SameMod 65536 (length f) (integers_of u₄) (refine (length f) (integers_of f) (integers_of u₃)) →
    SameMod 65536 (length f) (integers_of v) (reduce integers (length f) (integers_of u₄)) → Lifted f u v
lifted f u u₁ u₂ u₃ u₄ v some same fits a b c d e =
    let n = length f in
    let whole : SameMod 65536 n (integers_of v) (reduce integers n (refine_four n (integers_of f) (integers_of u))) =
    four_steps 65536 n (integers_of f) (integers_of u) (integers_of u₁) (integers_of u₂) (integers_of u₃) (integers_of u₄) (integers_of v) some a b c d e in
    record {
      words = words_are n v (reduce integers n (refine_four n (integers_of f) (integers_of u))) same fits whole;
      last = word_zero 65536 (get_or v (n - 1) 0) (fits (n - 1)) ((mod_laws 65536).tr (e.at (n - 1) (omega arith)) ((mod_laws 65536).add_neg (pos (get_or u₄ (n - 1) 0))));
      inverse = steps_invert n (integers_of f) (integers_of u) (integers_of v) whole;
    }
