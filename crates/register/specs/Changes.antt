-- What add, remove and clear make of a register, and when add refuses.
use Rattle.std.specs.Prelude.{ℕ, cond, not, [], ◌∷◌, Some, None, Option, nat_le}
use Rattle.terms.specs.Refusals.{Refusal, refusal, when, first_of}
use Rattle.register.specs.Pairs.{pairs, members, with_pair, less_pair, emptied}
use Rattle.register.specs.Model.{Model, seats_of, with_rows, inside, holds}
use Rattle.register.specs.declared.fault.RegisterFault.{RegisterFault}
use Rattle.register.specs.declared.fault.RegisterFault.TheVariants.{NoSuchPair, SeatsFull, PlacesFull}

-- the number of each refusal, and what it carries
abbrev pub shown : RegisterFault → Refusal
shown NoSuchPair = refusal 51 []
shown (SeatsFull r) = refusal 52 (r ∷ [])
shown PlacesFull = refusal 53 []

-- the rows of add for a pair that is not held
abbrev pub new_pair_rows : Model → ℕ → ℕ → Option Refusal
new_pair_rows m u r = first_of (
    when (not (inside m u r)) (refusal 51 [])
    ∷ when (nat_le (seats_of m r) (members m.rows r)) (refusal 52 (r ∷ []))
    ∷ when (nat_le m.places (pairs m.rows)) (refusal 53 [])
    ∷ []
    )

-- what stays where there is a refusal, and what comes where there is none
abbrev pub unless : {X Y : Type 0} → Option X → Y → Y → Y
unless (Some x) old new = old
unless None old new = new

-- add's refusal: none for a held pair, else the first row that applies
unfoldable pub add_rows : Model → ℕ → ℕ → Option Refusal
add_rows m u r = cond (holds m u r) None (new_pair_rows m u r)

-- the register after add: a held pair is left as it is, and a refusal leaves everything
unfoldable pub added : Model → ℕ → ℕ → Model
added m u r = cond (holds m u r) m (unless (new_pair_rows m u r) m (with_rows m (with_pair m.rows u r)))

-- the register after remove
unfoldable pub removed : Model → ℕ → ℕ → Model
removed m u r = cond (holds m u r) (with_rows m (less_pair m.rows u r)) m

-- the register after clear
abbrev pub cleared : Model → Model
cleared m = with_rows m (emptied m.rows)
