-- Bits and digits by their codes.
use Rattle.std.proofs.Common.{◌≡◌, ℕ, zero, suc, ◌+◌, ◌%◌, ◌<◌, refl, arith, lit<}
use mathlib.Core.HLevel.{is_prop→PathP}
use native.Mathlib.Bridge.{le_prop}
use lib.Bits.{bit_xor}
use Rattle.arithmetic.specs.declared.bit.Bit.{Bit}
use Rattle.algebra.specs.Residues.{residue, residues, same_residue}
use Rattle.algebra.proofs.Residues.{residue_back}

-- bits of one value are one bit
pub bit_same : (b d : Bit) → residue 2 (lit< tt) b.code ≡ residue 2 (lit< tt) d.code → b ≡ d
bit_same b d e =
    let p : b.code ≡ d.code = residue_back 2 (lit< tt) b.code d.code b.small d.small e in
    λ i. record { code = p i; small = is_prop→PathP (λ k. p k < 2) (λ k. le_prop) b.small d.small i }

pub xor_sum : (a b : ℕ) → a < 2 → b < 2 → bit_xor a b ≡ (a + b) % 2
xor_sum zero zero h l = refl
xor_sum zero (suc zero) h l = refl
xor_sum (suc zero) zero h l = refl
xor_sum (suc zero) (suc zero) h l = refl
xor_sum (suc (suc a)) b h l = let z : ⊥ = omega arith in absurd z
xor_sum zero (suc (suc b)) h l = let z : ⊥ = omega arith in absurd z
xor_sum (suc zero) (suc (suc b)) h l = let z : ⊥ = omega arith in absurd z

-- each bit but 0 is its own inverse
pub bit_undone : (a : ℕ) → a < 2 → (residue 2 (lit< tt) a ≡ (residues 2 (lit< tt)).nought → ⊥) → (residues 2 (lit< tt)).times (residue 2 (lit< tt) a) (residue 2 (lit< tt) a) ≡ (residues 2 (lit< tt)).unit
bit_undone zero l h = absurd (h refl)
bit_undone (suc zero) l h = same_residue 2 _ _ refl
bit_undone (suc (suc a)) l h = let z : ⊥ = omega arith in absurd z

-- and so is each digit
pub digit_undone : (a : ℕ) → a < 3 → (residue 3 (lit< tt) a ≡ (residues 3 (lit< tt)).nought → ⊥) → (residues 3 (lit< tt)).times (residue 3 (lit< tt) a) (residue 3 (lit< tt) a) ≡ (residues 3 (lit< tt)).unit
digit_undone zero l h = absurd (h refl)
digit_undone (suc zero) l h = same_residue 3 _ _ refl
digit_undone (suc (suc zero)) l h = same_residue 3 _ _ refl
digit_undone (suc (suc (suc a))) l h = let z : ⊥ = omega arith in absurd z

-- a factor 2 negates
pub twice_is_minus : (a : ℕ) → a < 3 → (residues 3 (lit< tt)).minus (residue 3 (lit< tt) a) ≡ (residues 3 (lit< tt)).times (residue 3 (lit< tt) 2) (residue 3 (lit< tt) a)
twice_is_minus zero l = same_residue 3 _ _ refl
twice_is_minus (suc zero) l = same_residue 3 _ _ refl
twice_is_minus (suc (suc zero)) l = same_residue 3 _ _ refl
twice_is_minus (suc (suc (suc a))) l = let z : ⊥ = omega arith in absurd z
