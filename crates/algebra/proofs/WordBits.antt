-- Regrouping at bases that are powers of two: what a shift and a mask do to the bits held.
use Rattle.std.proofs.Common.{◌≡◌, ℕ, ◌+◌, ◌-◌, ◌*◌, ◌/◌, ◌%◌, ◌^◌, ◌<◌, ◌≤◌, List, length, get_or, set, sym, ap, ◌∙◌, subst, mod-lt, mul_comm, add_comm, mul-le-mul_left, mul-one, mul-add, arith}
use lib.Bits.{bit_or}
use Rattle.std.proofs.lemmas.Nat.{pow_pos, pow-add, shl_whole, shr_below, mul-add-lt, or_comm, or_shifted}
use Rattle.algebra.proofs.Regrouping.{mod_of_mod}
use Rattle.algebra.proofs.WordInverses.{width_divides}
use Rattle.algebra.proofs.Radix.{Regroups, regroups_read, regroups_write}

-- the low w bits of a number are those of its low word
pub low_of_word : (w x : ℕ) → w ≤ 16 → x % 65536 % 2 ^ w ≡ x % 2 ^ w
low_of_word w x few = ap (λ (m : ℕ). x % m % 2 ^ w) (sym (width_divides w few)) ∙ mod_of_mod x (2 ^ w) (2 ^ (16 - w)) (pow_pos w) (pow_pos (16 - w))

-- the low w bits of x, moved up to the place `held`
pub moved : (w held x : ℕ) → w + held ≤ 32 → (x % 2 ^ w) * 2 ^ held % 2 ^ 32 ≡ (x % 2 ^ w) * 2 ^ held
moved w held x h = shl_whole (x % 2 ^ w) w held 32 (mod-lt x (pow_pos w)) h

-- the bits held and bits above them, put together
pub joined : (acc held x : ℕ) → acc < 2 ^ held → bit_or acc (x * 2 ^ held) ≡ acc + x * 2 ^ held
joined acc held x h = or_comm acc (x * 2 ^ held) ∙ or_shifted x held acc h ∙ add_comm (x * 2 ^ held) acc

-- w bits are read, above those held
pub bits_read :
    (b w acc held i at y : ℕ) (xs out : List ℕ) → y ≡ (get_or xs i 0 % 2 ^ w) * 2 ^ held → acc < 2 ^ held → i < length xs
    → Regroups (2 ^ w) b acc (2 ^ held) i at xs out
    → (bit_or acc y < 2 ^ (held + w)) × Regroups (2 ^ w) b (bit_or acc y) (2 ^ (held + w)) (i + 1) at xs out
bits_read b w acc held i at y xs out e lt h inv =
    let below : (get_or xs i 0 % 2 ^ w) * 2 ^ held + acc < 2 ^ held * 2 ^ w = mul-add-lt (get_or xs i 0 % 2 ^ w) (2 ^ held) acc (2 ^ w) (mod-lt (get_or xs i 0) (pow_pos w)) lt in
    rw (e, joined acc held (get_or xs i 0 % 2 ^ w) lt, pow-add) (omega arith, regroups_read (2 ^ w) b acc (2 ^ held) i at xs out h inv)

-- the lowest w of the bits held are written
pub bits_write :
    (a w acc held i at : ℕ) (xs out : List ℕ) → w ≤ held → acc < 2 ^ held → at < length out
    → Regroups a (2 ^ w) acc (2 ^ held) i at xs out
    → (acc / 2 ^ w < 2 ^ (held - w)) × Regroups a (2 ^ w) (acc / 2 ^ w) (2 ^ (held - w)) i (at + 1) xs (set out at (acc % 2 ^ w))
bits_write a w acc held i at xs out wh lt h inv =
    let k : held ≡ (held - w) + w = omega arith in
    let p : 2 ^ held ≡ 2 ^ w * 2 ^ (held - w) = ap (λ n. 2 ^ n) k ∙ pow-add 2 (held - w) w ∙ mul_comm (2 ^ (held - w)) (2 ^ w) in
    let lt' : acc < 2 ^ ((held - w) + w) = subst (λ n. acc < 2 ^ n) k lt in
    let inv' : Regroups a (2 ^ w) acc (2 ^ w * 2 ^ (held - w)) i at xs out = subst (λ n. Regroups a (2 ^ w) acc n i at xs out) p inv in
    (shr_below acc (held - w) w lt', regroups_write a (2 ^ w) acc (2 ^ (held - w)) i at xs out (pow_pos w) h inv')

-- w bits for each of i words, and one word more
pub times_more : (w i : ℕ) → w * (i + 1) ≡ w * i + w
times_more w i = mul-add w i 1 ∙ ap (λ n. w * i + n) (mul-one w)

pub times_below : (w i n : ℕ) → i < n → w * i + w ≤ w * n
times_below w i n h = subst (λ k. k ≤ w * n) (times_more w i) (mul-le-mul_left w (omega arith))
