-- When a change is refused in its turn.
use Rattle.std.specs.Prelude.{◌≡◌, ℕ, ◌<◌, not, List, [], ◌∷◌, length, take, Some, None, Option, ◌==◌, nat_le, nat_lt, slice_index_or}
use Rattle.terms.specs.Sets.{bit}
use Rattle.terms.specs.Refusals.{Refusal, refusal, when, first_of}
use Rattle.register.specs.Pairs.{row}
use Rattle.changes.specs.Ends.{user_of, ended}
use Rattle.changes.specs.declared.Change.{Change}
use Rattle.changes.specs.declared.Change.TheVariants.{Assignment, Withdrawal}
use Rattle.changes.specs.declared.ChangeFault.{ChangeFault}
use Rattle.changes.specs.declared.ChangeFault.TheVariants.{NoUser, NoRole, Held, NotHeld}
use Rattle.changes.specs.declared.TurnFault.{TurnFault}

-- number and carried values of each fault
abbrev pub shown_turn : ChangeFault → Refusal
shown_turn NoUser = refusal 11 []
shown_turn NoRole = refusal 12 []
shown_turn Held = refusal 13 []
shown_turn NotHeld = refusal 14 []

-- the rows of a change where there are so many users and its user has the roles w: user not below the users; role above 63;
-- pair held, for an assignment; pair not held, for a withdrawal
abbrev pub change_rows : ℕ → ℕ → Change → Option Refusal
change_rows users w (Assignment u r) = first_of (
    when (nat_le users u) (refusal 11 [])
    ∷ when (nat_lt 63 r) (refusal 12 [])
    ∷ when (bit w r == 1) (refusal 13 [])
    ∷ [])
change_rows users w (Withdrawal u r) = first_of (
    when (nat_le users u) (refusal 11 [])
    ∷ when (nat_lt 63 r) (refusal 12 [])
    ∷ when (not (bit w r == 1)) (refusal 14 [])
    ∷ [])

-- the same against a table
abbrev pub turn_rows : List ℕ → Change → Option Refusal
turn_rows t c = change_rows (length t) (row t (user_of c)) c

abbrev pub change_at : List Change → ℕ → Change
change_at cs i = slice_index_or cs i (Assignment 0 0)

-- what change i of the list meets in its turn: the table t after those before it
abbrev pub in_turn : List ℕ → List Change → ℕ → Option Refusal
in_turn t cs i = turn_rows (ended t (take i cs)) (change_at cs i)

-- each change is accepted in its turn
abbrev pub AllTaken : List ℕ → List Change → Type 0
AllTaken t cs = (j : ℕ) → j < length cs → in_turn t cs j ≡ None

-- the change named is refused in its turn, for the fault named, and those before it are accepted
pub record FirstRefused (t : List ℕ) (cs : List Change) (x : TurnFault) : Type 0 where
  pub numbered : x.change < length cs
  pub before : (j : ℕ) → j < x.change → in_turn t cs j ≡ None
  pub refused : in_turn t cs x.change ≡ Some (shown_turn x.fault)
