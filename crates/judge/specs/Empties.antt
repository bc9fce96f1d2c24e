-- A table of sets of which the last are empty.
use Rattle.std.specs.Prelude.{◌≡◌, ℕ, ◌≤◌, List, slice_index}

-- the sets from number n on are empty
abbrev pub EmptyFrom : List ℕ → ℕ → Type 0
EmptyFrom ws n = (k : ℕ) → n ≤ k → slice_index ws k ≡ 0
