use Rattle.std.proofs.Common.{ℕ, List, ◌++◌, length, vec_items}
use Rattle.script.specs.Literals.{Spells}
use Rattle.script.proofs.literals.spelled.Given as goal

-- what the rest stands for goes after the bytes so far, and where the whole stands for something, so does the rest
abbrev pub invariant-loop-rest : goal.invariant-loop-rest
invariant-loop-rest l =
    ((bytes : List ℕ) → Spells l.rest 0 bytes → Spells l.typed 0 (vec_items l.bytes ++ bytes))
    × ((bytes : List ℕ) → Spells l.typed 0 bytes → (left : List ℕ) × Spells l.rest 0 left)

abbrev pub decreases-loop-rest : goal.decreases-loop-rest
decreases-loop-rest l = length l.rest
