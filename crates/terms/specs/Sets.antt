-- Sets of numbers as words: a number is a member of a word where the word's bit at that place is 1.
use Rattle.std.specs.Prelude.{◌≡◌, ℕ, ◌/◌, ◌%◌, ◌^◌, ◌<◌, ◌≤◌, cond, ◌⊎◌, List, [], ◌∷◌, ◌==◌, Option, MatchOption, bit_or}

-- the bit of the word w at place k
unfoldable pub bit : ℕ → ℕ → ℕ
bit w k = w / 2 ^ k % 2

-- k is a member of w
abbrev pub In : ℕ → ℕ → Type 0
In k w = bit w k ≡ 1

-- each member of u is a member of v
abbrev pub Within : ℕ → ℕ → Type 0
Within u v = (k : ℕ) → In k u → In k v

-- k is the lowest member of w
pub record Lowest (k w : ℕ) : Type 0 where
  pub member : In k w
  pub low : k < 64
  pub least : (j : ℕ) → In j w → k ≤ j

-- r has the members of w that are not members of g, and no others
pub record Difference (w g r : ℕ) : Type 0 where
  pub inside : Within r w
  pub other : (k : ℕ) → In k w → In k g ⊎ In k r
  pub apart : (k : ℕ) → In k g → In k r → ⊥
  pub less : (k : ℕ) → In k w → In k g → r < w

-- the union of the rows whose numbers are members of w
abbrev pub union : List ℕ → ℕ → ℕ
union [] w = 0
union (row ∷ rows) w = bit_or (cond (w % 2 == 1) row 0) (union rows (w / 2))

-- r is the lowest member of w, if there is one, and v has the other members
abbrev pub NextMember : ℕ → Option ℕ → ℕ → Type 0
NextMember w r v = MatchOption r ((w ≡ 0) × (v ≡ 0)) (λ k. Lowest k w × Difference w (2 ^ k) v)
