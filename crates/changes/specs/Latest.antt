-- The pairs that changes leave, told by each pair's latest change.
use Rattle.std.specs.Prelude.{◌≡◌, ℕ, ◌⊎◌, List, [], ◌∷◌, ◌≢◌}
use Rattle.changes.specs.declared.Change.{Change}
use Rattle.changes.specs.declared.Change.TheVariants.{Assignment, Withdrawal}

-- no change withdraws the pair
abbrev pub Unwithdrawn : ℕ → ℕ → List Change → Type 0
Unwithdrawn u r [] = Unit {0}
Unwithdrawn u r (c ∷ cs) = (c ≢ Withdrawal u r) × Unwithdrawn u r cs

-- the pair is assigned, and not withdrawn after that: its latest change is an assignment
abbrev pub Stands : ℕ → ℕ → List Change → Type 0
Stands u r [] = ⊥
Stands u r (c ∷ cs) = ((c ≡ Assignment u r) × Unwithdrawn u r cs) ⊎ Stands u r cs
