-- Seniority as rows: row a has the roles that role a is senior to.
use Rattle.std.specs.Prelude.{◌≡◌, ℕ, ◌<◌, cond, List, ◌==◌, bit_or, slice_index}
use Rattle.terms.specs.Sets.{bit, In}

-- a is senior to b
abbrev pub Over : List ℕ → ℕ → ℕ → Type 0
Over rows a b = In b (slice_index rows a)

-- every role is senior to itself
abbrev pub Reflexive : List ℕ → Type 0
Reflexive rows = (a : ℕ) → a < 64 → Over rows a a

-- seniority passes on
abbrev pub Transitive : List ℕ → Type 0
Transitive rows = (t : ℕ × ℕ × ℕ) → (Over rows t.0 t.1 × Over rows t.1 t.2) → Over rows t.0 t.2

-- no two roles are senior to each other
abbrev pub Antisymmetric : List ℕ → Type 0
Antisymmetric rows = (a b : ℕ) → (Over rows a b × Over rows b a) → a ≡ b

-- a row that has the role s gains the roles of g
abbrev pub raised : ℕ → ℕ → ℕ → ℕ
raised s g w = cond (bit w s == 1) (bit_or w g) w
