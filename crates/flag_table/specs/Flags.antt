-- The register that a table of flags means: 64 flags for a user, one for each role.
use Rattle.std.specs.Prelude.{◌≡◌, ℕ, zero, suc, ◌+◌, ◌*◌, ◌/◌, ◌<◌, ◌≤◌, ◌⊎◌, min, Bool, cond, nat_lt, List, [], ◌∷◌, map, length, take, drop}
use Rattle.register.specs.Model.{Model}

-- flags as a word: flag k is bit k
unfoldable pub word : List Bool → ℕ
word [] = 0
word (b ∷ bs) = cond b 1 0 + 2 * word bs

-- the rows of so many users, each from the next 64 flags
unfoldable pub rows_from : ℕ → List Bool → List ℕ
rows_from zero fs = []
rows_from (suc n) fs = word (take 64 fs) ∷ rows_from n (drop 64 fs)

-- as many users as have all their flags, but at most 4,096
abbrev pub users_in : List Bool → ℕ
users_in fs = min (length fs / 64) 4096

-- their flags
abbrev pub in_use : List Bool → List Bool
in_use fs = take (64 * users_in fs) fs

-- a user's flags; none where he is not below the number of users
abbrev pub flags_of : List Bool → ℕ → List Bool
flags_of fs u = cond (nat_lt u (users_in fs)) (take 64 (drop (64 * u) fs)) []

-- the rows of a table of flags
abbrev pub rows_of : List Bool → List ℕ
rows_of fs = rows_from (users_in fs) fs

-- a place for each flag in use, and one number of seats for all roles
abbrev pub model_of : List Bool → ℕ → Model
model_of fs seats = record { rows = rows_of fs; places = 64 * users_in fs; seats = λ _. seats }

-- the flags that no user has, as numbers
abbrev pub spare_of : List Bool → List ℕ
spare_of fs = map (λ b. cond b 1 0) (drop (64 * users_in fs) fs)

-- there is a pair of the user and the role, and its flag is at the place
pub record Inside (fs : List Bool) (u r k : ℕ) : Type 0 where
  pub low : u < users_in fs
  pub small : r < 64
  pub same : k ≡ 64 * u + r

-- there is none
abbrev pub Outside : List Bool → ℕ → ℕ → Type 0
Outside fs u r = (users_in fs ≤ u) ⊎ (64 ≤ r)
