-- The first line of a text, where a table has its header.
use Rattle.std.specs.Prelude.{◌≡◌, ℕ, ◌+◌, ◌<◌, ◌⊎◌, List, length, take, slice_index}

-- CR LF stands at i
abbrev pub LineAt : List ℕ → ℕ → Type 0
LineAt s i = (i + 1 < length s) × (slice_index s i ≡ 13) × (slice_index s (i + 1) ≡ 10)

-- no CR LF stands before i
abbrev pub NoLineBefore : List ℕ → ℕ → Type 0
NoLineBefore s i = (k : ℕ) → k < i → LineAt s k → ⊥

-- the first CR LF stands at i and what follows it at next, or there is none and both are the text's end
pub record FirstLine (s : List ℕ) (i next : ℕ) : Type 0 where
  pub first : NoLineBefore s i
  pub ends : (LineAt s i × (next ≡ i + 2)) ⊎ ((i ≡ length s) × (next ≡ i))

-- the bytes before the first CR LF, or all, are the header, and the records begin at next
pub record Headed (header s : List ℕ) (next : ℕ) : Type 0 where
  pub end : ℕ
  pub line : FirstLine s end next
  pub same : take end s ≡ header

-- the bytes before the first CR LF, or all, are not the header
abbrev pub NotHeaded : List ℕ → List ℕ → Type 0
NotHeaded header s = (next : ℕ) → Headed header s next → ⊥
