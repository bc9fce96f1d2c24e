-- When a carried list of changes is refused, and what it makes of a register.
use Rattle.std.specs.Prelude.{ℕ, List, [], ◌∷◌, length, Option, nat_lt}
use Rattle.std.specs.Option.{option_map}
use Rattle.terms.specs.Refusals.{Refusal, refusal, when, first_of}
use Rattle.terms.specs.Firsts.{first_below}
use Rattle.plan.specs.Authority.{constraint_count}
use Rattle.plan.specs.declared.Plan.{Plan}
use Rattle.register.specs.Pairs.{row, pairs, members}
use Rattle.register.specs.Model.{Model, seats_of, with_rows}
use Rattle.register.specs.Changes.{unless}
use Rattle.register.specs.declared.fault.RegisterFault.{RegisterFault}
use Rattle.register.specs.declared.fault.RegisterFault.TheVariants.{NoSuchPair, SeatsFull, PlacesFull}
use Rattle.changes.specs.Ends.{user_of, ended}
use Rattle.changes.specs.Turns.{shown_turn, change_at, in_turn}
use Rattle.changes.specs.declared.Change.{Change}
use Rattle.carrying.specs.Breaking.{breaks}
use Rattle.carrying.specs.declared.CarryFault.{CarryFault}
use Rattle.carrying.specs.declared.CarryFault.TheVariants.{Turn, Broken, Full}

-- a refusal with one more value in front of those that it carries
abbrev pub with_first : ℕ → Refusal → Refusal
with_first n x = refusal x.number (n ∷ x.values)

-- a register's refusal as those above it see it: no seat is 16 with the role, no place 17; no such pair counts as 11, and the
-- checks before it leave it no case
abbrev pub shown_full : RegisterFault → Refusal
shown_full NoSuchPair = refusal 11 []
shown_full (SeatsFull r) = refusal 16 (r ∷ [])
shown_full PlacesFull = refusal 17 []

-- number and carried values of each fault
abbrev pub shown : CarryFault → Refusal
shown (Turn x) = with_first x.change (shown_turn x.fault)
shown (Broken c i) = refusal 15 (c ∷ i ∷ [])
shown (Full f) = shown_full f

-- 11 to 14: the first change that is refused in its turn, with its number
abbrev pub turns_row : List ℕ → List Change → Option Refusal
turns_row t cs = first_below (λ i. option_map (with_first i) (in_turn t cs i)) (length cs)

-- 15: the lowest constraint that is broken in the end table, and the first change whose user breaks it
abbrev pub broken_row : Plan → List ℕ → List Change → Option Refusal
broken_row p end cs = first_below (λ c. first_below (λ i. when (breaks p (row end (user_of (change_at cs i))) c) (refusal 15 (c ∷ i ∷ []))) (length cs)) (constraint_count p)

-- 16: the lowest role that has more members in the end table than seats
abbrev pub seats_row : Model → List ℕ → Option Refusal
seats_row m end = first_below (λ r. when (nat_lt (seats_of m r) (members end r)) (refusal 16 (r ∷ []))) 64

-- 17: the end table has more pairs than places
abbrev pub places_row : Model → List ℕ → Option Refusal
places_row m end = when (nat_lt m.places (pairs end)) (refusal 17 [])

-- the refusals of carry, where T is the register's: 11 to 14 at each change in its turn, 15 to 17 on the end table alone
unfoldable pub carry_rows : Plan → Model → List Change → Option Refusal
carry_rows p m cs = first_of (
    turns_row m.rows cs
    ∷ broken_row p (ended m.rows cs) cs
    ∷ seats_row m (ended m.rows cs)
    ∷ places_row m (ended m.rows cs)
    ∷ [])

-- the register after carry: T is the end table, or as it was where there is a refusal
unfoldable pub carried : Plan → Model → List Change → Model
carried p m cs = unless (carry_rows p m cs) m (with_rows m (ended m.rows cs))
