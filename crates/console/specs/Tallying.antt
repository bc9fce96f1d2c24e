-- How a call is counted, and how the totals are printed.
use Rattle.std.specs.Prelude.{ℕ, List, ◌++◌, codes, decimal}
use Rattle.console.specs.declared.tally.Outcome.{Outcome}
use Rattle.console.specs.declared.tally.Outcome.TheVariants as outcome

-- what a call with the outcome adds to the accepted, the refused and those not understood
abbrev pub adds : Outcome → ℕ × ℕ × ℕ
adds outcome.Accepted = (1, 0, 0)
adds outcome.Refused = (0, 1, 0)
adds outcome.NotUnderstood = (0, 0, 1)

-- the totals line, without its end: how many calls there were, and how many were accepted, refused and not understood
abbrev pub totals_text : ℕ → ℕ → ℕ → ℕ → List ℕ
totals_text calls accepted refused rest = decimal calls ++ (codes " calls: " ++ (decimal accepted ++ (codes " accepted, " ++ (decimal refused ++ (codes " refused, " ++ (decimal rest ++ codes " not understood"))))))
