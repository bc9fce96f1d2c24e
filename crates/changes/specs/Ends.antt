-- The table that changes leave, made in their order.
use Rattle.std.specs.Prelude.{ℕ, ◌^◌, cond, ◌&&◌, List, [], ◌∷◌, ◌==◌, bit_or, bit_xor, nat_lt, slice_set}
use Rattle.terms.specs.Sets.{bit}
use Rattle.register.specs.Pairs.{row}
use Rattle.changes.specs.declared.Change.{Change}
use Rattle.changes.specs.declared.Change.TheVariants.{Assignment, Withdrawal}

-- the row w of user u after one change; a role above 63 changes nothing
abbrev pub changed_row : ℕ → Change → ℕ → ℕ
changed_row u (Assignment v r) w = cond (v == u) (cond (nat_lt r 64) (bit_or w (2 ^ r)) w) w
changed_row u (Withdrawal v r) w = cond (v == u && (bit w r == 1 && nat_lt r 64)) (bit_xor w (2 ^ r)) w

-- and after all
abbrev pub row_after : ℕ → List Change → ℕ → ℕ
row_after u [] w = w
row_after u (c ∷ cs) w = row_after u cs (changed_row u c w)

-- the user of a change
abbrev pub user_of : Change → ℕ
user_of (Assignment u r) = u
user_of (Withdrawal u r) = u

-- the table t after one change, which is in its user's row
abbrev pub changed : List ℕ → Change → List ℕ
changed t c = slice_set t (user_of c) (changed_row (user_of c) c (row t (user_of c)))

-- the end table
abbrev pub ended : List ℕ → List Change → List ℕ
ended t [] = t
ended t (c ∷ cs) = ended (changed t c) cs
