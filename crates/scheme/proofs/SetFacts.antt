-- What the type of a parameter set says, as lemmas ask for it.
use Rattle.std.proofs.Common.{◌≡◌, ℕ, zero, suc, ◌+◌, ◌-◌, ◌*◌, ◌/◌, ◌^◌, ◌<◌, ◌≤◌, ap, ◌∙◌, subst, arith}
use Rattle.algebra.specs.Sets.{Set}
use Rattle.algebra.proofs.Sets.{sets_suffice}
use Rattle.scheme.specs.declared.set.ParameterSet.{ParameterSet}
use Rattle.scheme.specs.Sets.{ternary_bytes, record_bytes, card_bytes, pair_bytes, coin_bytes}

pub facts : (s : ParameterSet) → Set s.n s.width
facts s = record {
  long = s.length.0;
  few = s.length.1;
  odd = s.coprime.0;
  no_three = λ e. omega (arith, s.coprime.1);
  narrow = s.narrow;
  wide = s.wide;
}

two_bits : (w : ℕ) → 2 < 2 ^ w → 2 ≤ w
two_bits zero h = absurd (omega arith)
two_bits (suc zero) h = absurd (omega arith)
two_bits (suc (suc w)) h = omega arith

pub wide : (s : ParameterSet) → 2 ≤ s.width
wide s = two_bits s.width (sets_suffice s.n s.width (facts s)).big

-- what holds at a set's n and width
pub at_set : (P : ℕ → ℕ → Type 0) {a b n w : ℕ} → a ≡ n → b ≡ w → P a b → P n w
at_set P {a} {b} {n} ea eb h = subst (P n) eb (subst (λ k. P k b) ea h)

-- the sizes of a set's records, by its n and w
module _ (s : ParameterSet) (n w : ℕ) (en : s.n ≡ n) (ew : s.width ≡ w) where
  pub ternary_size : s.ternary ≡ ternary_bytes n
  ternary_size = s.parts.0 ∙ ap ternary_bytes en

  pub word_size : s.word ≡ record_bytes n w
  word_size = s.parts.1 ∙ ap (λ k. (k * (s.n - 1) + 7) / 8) ew ∙ ap (λ k. record_bytes k w) en

  pub card_size : s.card ≡ card_bytes n w
  card_size = s.records.0 ∙ ap (λ t. 2 * t + 2 * s.word) ternary_size ∙ ap (λ b. 2 * ternary_bytes n + 2 * b) word_size

  pub pair_size : s.pair ≡ pair_bytes n
  pair_size = s.records.1 ∙ ap (λ t. 2 * t) ternary_size

  pub coin_size : s.coins ≡ coin_bytes n
  coin_size = s.records.2 ∙ ap coin_bytes en
