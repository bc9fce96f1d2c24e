-- The register that a table of words means: the first 4,096 words are the rows, one for a user.
use Rattle.std.specs.Prelude.{◌≡◌, ℕ, ◌*◌, ◌^◌, ◌<◌, ◌≤◌, ◌⊎◌, List, length, take}
use Rattle.std.proofs.Common.{arith}
use Rattle.std.proofs.lemmas.List.{length-take}
use Rattle.register.specs.Pairs.{row}
use Rattle.register.specs.Model.{Model, Sound}
use Rattle.register.proofs.Tables.{pairs_most}

-- the rows: the words in use
unfoldable pub rows_of : List ℕ → List ℕ
rows_of ws = take 4096 ws

-- a place for each user and role, and 4,096 seats for each role
abbrev pub model_of : List ℕ → Model
model_of ws = record { rows = rows_of ws; places = 64 * length (rows_of ws); seats = λ _. 4096 }

-- there is a pair of the user and the role, and the word is the user's row
pub record Inside (ws : List ℕ) (u r w : ℕ) : Type 0 where
  pub low : u < length (rows_of ws)
  pub small : r < 64
  pub same : w ≡ row (rows_of ws) u

-- there is none
abbrev pub Outside : List ℕ → ℕ → ℕ → Type 0
Outside ws u r = (length (rows_of ws) ≤ u) ⊎ (64 ≤ r)

-- words of 64 bits are a sound register
pub wide_sound : (ws : List ℕ) → ((u : ℕ) → row (rows_of ws) u < 2 ^ 64) → Sound (model_of ws)
unfolding rows_of
wide_sound ws wide = record { few = omega (arith, length-take 4096 ws); wide = wide; within = pairs_most (rows_of ws) wide }
