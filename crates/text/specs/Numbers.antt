-- A field that writes a number.
use Rattle.std.specs.Prelude.{◌≡◌, ℕ, ◌+◌, ◌-◌, ◌*◌, ◌<◌, ◌≤◌, min, List, [], ◌∷◌, length, slice_index_or}

-- the byte of a decimal digit
abbrev pub Digit : ℕ → Type 0
Digit b = (48 ≤ b) × (b ≤ 57)

-- all of these bytes are digits
abbrev pub AllDigits : List ℕ → Type 0
AllDigits [] = Unit {0}
AllDigits (b ∷ bs) = Digit b × AllDigits bs

-- the number that the digits write, after those of n
abbrev pub value_after : ℕ → List ℕ → ℕ
value_after n [] = n
value_after n (b ∷ bs) = value_after (n * 10 + (b - 48)) bs

-- the number that the digits write
abbrev pub value : List ℕ → ℕ
value c = value_after 0 c

-- one to `limit` digits without a leading zero, save 0 itself
pub record Numeral (limit : ℕ) (c : List ℕ) : Type 0 where
  pub digits : AllDigits c
  pub some : 0 < length c
  pub few : length c ≤ limit
  pub lead : slice_index_or c 0 0 ≡ 48 → length c ≡ 1

-- c writes the number n with at most `limit` digits
pub record Number (limit : ℕ) (c : List ℕ) (n : ℕ) : Type 0 where
  pub numeral : Numeral limit c
  pub means : n ≡ value c

-- c writes no number with at most `limit` digits
abbrev pub NoNumber : ℕ → List ℕ → Type 0
NoNumber limit c = Numeral limit c → ⊥

-- a digit limit as it counts: 19 at most, so that every number fits in 64 bits
abbrev pub counted : ℕ → ℕ
counted limit = min limit 19
