-- How comparisons are counted.
use Rattle.std.specs.Prelude.{ℕ, ◌+◌, ◌-◌, ◌^◌, min, Bool, if◌then◌else◌}

-- the count with one more, where the comparison falls to it; it stays at the highest number of 64 bits
abbrev pub counted : Bool → ℕ → ℕ
counted falls n = if falls then min (n + 1) (2 ^ 64 - 1) else n
