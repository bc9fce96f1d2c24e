-- What is printed of each line, and of a whole script.
use Rattle.std.specs.Prelude.{◌≡◌, ◌⊎◌, ℕ, List, ◌+◌, [], ◌∷◌, ◌++◌, vec_items, codes, decimal, length, slice_index}
use Rattle.console.specs.declared.calls.Call.{Call}
use Rattle.console.specs.declared.running.Session.{Session}
use Rattle.console.specs.declared.state.State.{State}
use Rattle.console.specs.declared.tally.Outcome.{Outcome}
use Rattle.console.specs.declared.tally.Outcome.TheVariants as outcome
use Rattle.console.specs.declared.tally.Totals.{Totals}
use Rattle.console.specs.Answering.{Answer, counted, answer_text}
use Rattle.console.specs.Performed.{Performed}
use Rattle.console.specs.Tallying.{adds, totals_text}
use Rattle.script.specs.Lines.{FirstLine}

-- the line of a call: as it was typed, an arrow and the answer, ended by LF
abbrev pub answer_line : List ℕ → Answer → List ℕ
answer_line line answer = line ++ (codes " -> " ++ (answer_text answer ++ (10 ∷ [])))

-- the line that says of a line by its number that it was not understood
abbrev pub not_understood : ℕ → List ℕ
not_understood number = codes "line " ++ (decimal number ++ codes ": not understood\n")

-- the call was performed, counts as its answer does, and its line was printed with the answer after all that was printed before
pub record Answered (s : State) (asked : Call) (before line : List ℕ) (o : Outcome) (t : State) (after : List ℕ) : Type 0 where
  pub answer : Answer
  pub performed : Performed s asked answer t
  pub counts : o ≡ counted answer
  pub printed : after ≡ before ++ answer_line line answer

-- the line was not understood, nothing was performed, and that was printed
pub record Passed (s : State) (before : List ℕ) (number : ℕ) (o : Outcome) (t : State) (after : List ℕ) : Type 0 where
  pub counts : o ≡ outcome.NotUnderstood
  pub same : t ≡ s
  pub printed : after ≡ before ++ not_understood number

-- the line was passed over, or it made a call, which was answered so
abbrev pub Called : State → List ℕ → ℕ → List ℕ → Outcome → State → List ℕ → Type 0
Called s before number line o t after = Passed s before number o t after ⊎ ((asked : Call) × Answered s asked before line o t after)

-- an empty line, or a comment: it begins with `#`
abbrev pub Quiet : List ℕ → Type 0
Quiet line = (length line ≡ 0) ⊎ (slice_index line 0 ≡ 35)

-- one outcome more is counted
pub record Counted (o : Outcome) (a b : Totals) : Type 0 where
  pub calls : b.calls ≡ a.calls + 1
  pub accepted : b.accepted ≡ a.accepted + (adds o).0
  pub refused : b.refused ≡ a.refused + (adds o).1

-- a quiet line is printed as it is and changes nothing else
pub record Kept (a : Session) (line : List ℕ) (b : Session) : Type 0 where
  pub quiet : Quiet line
  pub state : b.state ≡ a.state
  pub totals : b.totals ≡ a.totals
  pub printed : b.out.items ≡ a.out.items ++ (line ++ (10 ∷ []))

-- any other is a call or is not understood, and counts as that
pub record Made (a : Session) (number : ℕ) (line : List ℕ) (b : Session) : Type 0 where
  pub loud : Quiet line → ⊥
  pub outcome : Outcome
  pub called : Called a.state a.out.items number line outcome b.state b.out.items
  pub counted : Counted outcome a.totals b.totals

-- what one line makes of a session
abbrev pub Lined : Session → ℕ → List ℕ → Session → Type 0
Lined a number line b = Kept a line b ⊎ Made a number line b

-- what the first n lines of a script make of a session, one after the other, and what of the script is left
pub data Ran (script : List ℕ) (a : Session) : List ℕ → ℕ → Session → Type 0 where
  begun : Ran script a script 0 a
  one_more : {left after line : List ℕ} {n : ℕ} {b c : Session} → Ran script a left n b → FirstLine left line after → Lined b (n + 1) line c → Ran script a after (n + 1) c

-- a session in which nothing was done yet
pub record Fresh (a : Session) : Type 0 where
  pub empty : vec_items a.state.log ≡ []
  pub silent : a.out.items ≡ []
  pub calls : a.totals.calls ≡ 0

-- what a script prints: what its lines print in their order, from nothing on, and then the totals
pub record Transcript (script printed : List ℕ) : Type 0 where
  pub first : Session
  pub fresh : Fresh first
  pub lines : ℕ
  pub last : Session
  pub ran : Ran script first [] lines last
  pub all : let t = last.totals in printed ≡ last.out.items ++ (totals_text t.calls t.accepted t.refused t.not_understood ++ (10 ∷ []))
