-- The text that the writer writes: unquoted, each line ended.
use Rattle.std.specs.Prelude.{ℕ, List, [], ◌∷◌, ◌++◌, decimal}
use Rattle.std.specs.List.{flat_map}

-- what ends a line: CR LF
abbrev pub newline : List ℕ
newline = 13 ∷ 10 ∷ []

-- a number after a comma
abbrev pub further : ℕ → List ℕ
further n = 44 ∷ decimal n

-- a record's line: its numbers in decimal, a comma between each two
abbrev pub line : List ℕ → List ℕ
line [] = newline
line (n ∷ ns) = decimal n ++ (flat_map further ns ++ newline)

-- the header's line
abbrev pub header_line : List ℕ → List ℕ
header_line header = header ++ newline

-- a table: the header's line, and then the records' lines in order
abbrev pub table : List ℕ → List (List ℕ) → List ℕ
table header records = header_line header ++ flat_map line records
