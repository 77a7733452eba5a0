-- Polynomials of words: what the readers leave, and that what is written reads back.
use Rattle.std.proofs.Common.{◌≡◌, ℕ, ◌+◌, ◌-◌, ◌^◌, ◌≤◌, List, [], ◌∷◌, ◌++◌, length, take, set, pos, neg_ℤ, sum, sym, ap, ◌∙◌, subst, arith, length-take}
use borrow.Rule.Slice.PartMut.{post_of}
use Rattle.std.proofs.lemmas.Nat.{pow_pos}
use Rattle.algebra.specs.Polynomials.{Balanced}
use Rattle.algebra.specs.Radix.{Under}
use Rattle.algebra.proofs.Classes.{as_word_below}
use Rattle.algebra.proofs.LastCoefficient.{write_last, front_and_last, under_push, under_take, minus_sum_balances, balanced_again}
use Rattle.arithmetic.specs.Products.{integers_of}
use Rattle.scheme.specs.WordParts.{word_part, part_words}
use Rattle.scheme.specs.WordPolynomials.{balanced, padded, ReadsBack}
use Rattle.scheme.proofs.WordBytes.{length_words, words_back, takes_bits}

-- the front of a list is lent and filled from a part, and then the last element is written
module _ (w : ℕ) (bytes xs front : List ℕ) (some : 1 ≤ length xs) (filled : front ≡ part_words w (length (take (length xs - 1 - 0) xs)) bytes) where
  pub front_is : front ≡ part_words w (length xs - 1) bytes
  front_is = filled ∙ ap (λ n. part_words w n bytes) (simp length-take (omega arith))

  pub last_written : (v : ℕ) → set (front ++ post_of 0 (length xs - 1 - 0) xs) (length xs - 1) v ≡ part_words w (length xs - 1) bytes ++ v ∷ []
  last_written v =
      write_last xs front (length xs - 1) v (omega arith) (ap length front_is ∙ length_words w (length xs - 1) bytes) ∙ ap (λ t. t ++ v ∷ []) front_is

module _ (w n : ℕ) (bytes : List ℕ) (some : 1 ≤ n) where
  pub balanced_sum : Balanced (2 ^ w) n (integers_of (balanced w (part_words w (n - 1) bytes)))
  balanced_sum =
      let cs = part_words w (n - 1) bytes in
      let long : length cs + 1 ≡ n = omega (arith, length_words w (n - 1) bytes) in
      subst (λ m. Balanced (2 ^ w) m (integers_of (balanced w cs))) long (minus_sum_balances w cs)

module _ (w n : ℕ) (bytes : List ℕ) (wide : 1 ≤ w) where
  pub balanced_small : Under (2 ^ w) (balanced w (part_words w n bytes))
  balanced_small = under_push (2 ^ w) _ (part_words w n bytes) (takes_bits w n bytes wide).small (as_word_below (2 ^ w) (pow_pos w) (neg_ℤ (pos (sum (part_words w n bytes)))))

  pub padded_small : Under (2 ^ w) (padded (part_words w n bytes))
  padded_small = under_push (2 ^ w) 0 (part_words w n bytes) (takes_bits w n bytes wide).small (pow_pos w)

pub polynomial_back : (w : ℕ) (p : List ℕ) → 1 ≤ w → 1 ≤ length p → Under (2 ^ w) p → ReadsBack w p (word_part w (take (length p - 1) p))
polynomial_back w p wide some u =
    let front = take (length p - 1) p in
    let long : length front ≡ length p - 1 = simp length-take (omega arith) in
    let back : part_words w (length p - 1) (word_part w front) ≡ front = ap (λ n. part_words w n (word_part w front)) (sym long) ∙ words_back w front wide (under_take (2 ^ w) (length p - 1) p u) in
    record {
      by_sum = λ b. ap (balanced w) back ∙ balanced_again w p some u b;
      by_zero = λ z. ap padded back ∙ ap (λ v. front ++ v ∷ []) (sym z) ∙ front_and_last p some;
    }
