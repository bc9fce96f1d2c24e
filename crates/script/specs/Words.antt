-- What the words of a call say.
use Rattle.std.specs.Prelude.{◌≡◌, ℕ, ◌^◌, ◌<◌, ◌≤◌, ◌⊎◌, List, [], ◌∷◌, length, decimal, slice_index, slice_index_or}
use Rattle.std.specs.Borrow.{Bor}

-- the word is how the number n is written in decimal: no sign, no leading zero
abbrev pub Writes : List ℕ → ℕ → Type 0
Writes word n = (n < 2 ^ 32) × (word ≡ decimal n)

-- the word begins with a digit, which is a 0 only where it stands alone
pub record Begins (word : List ℕ) : Type 0 where
  pub some : 0 < length word
  pub low : 48 ≤ slice_index word 0
  pub high : slice_index_or word 0 0 ≤ 57
  pub alone : slice_index_or word 0 0 ≡ 48 → length word ≡ 1

-- one of the words is the number k
abbrev pub Names : List (Bor (List ℕ)) → ℕ → Type 0
Names [] k = ⊥
Names (w ∷ ws) k = Writes w.now k ⊎ Names ws k

-- each of the words is a number below 64
abbrev pub AllMembers : List (Bor (List ℕ)) → Type 0
AllMembers [] = Unit {0}
AllMembers (w ∷ ws) = ((n : ℕ) × (n < 64) × Writes w.now n) × AllMembers ws
