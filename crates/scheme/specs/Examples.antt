-- Worked values at set 1, where n is 5.
use Rattle.std.specs.Prelude.{◌≡◌, [], ◌∷◌, map, pos, negsuc}
use Rattle.arithmetic.specs.Digits.{number, sign}
use Rattle.scheme.specs.Coins.{coin}
use Rattle.scheme.specs.Pairs.{pair_record}
use Rattle.scheme.specs.Signs.{settled}

-- the halves 3, 12 and 15 give -1, 1 and 0
abbrev pub CoinHalves : Type 0
CoinHalves = map (λ h. number (coin h)) (3 ∷ 12 ∷ 15 ∷ []) ≡ negsuc 0 ∷ pos 1 ∷ pos 0 ∷ []

-- f drawn as 1, -1, 0, 0 becomes -1, -1, 0, 0
abbrev pub SettledSigns : Type 0
SettledSigns = map number (settled (map sign (pos 1 ∷ negsuc 0 ∷ pos 0 ∷ pos 0 ∷ pos 0 ∷ []))) ≡ negsuc 0 ∷ negsuc 0 ∷ pos 0 ∷ pos 0 ∷ pos 0 ∷ []

-- the coins 01 04 10 01 give the pair record 13 0C
abbrev pub PairOfCoins : Type 0
PairOfCoins = pair_record 5 (0x01 ∷ 0x04 ∷ 0x10 ∷ 0x01 ∷ []) ≡ 0x13 ∷ 0x0C ∷ []
