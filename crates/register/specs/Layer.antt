-- A layer of seats over a register: fewer seats for some roles, and all else as below.
use Rattle.std.specs.Prelude.{ℕ, min, Bool, not, ◌&&◌, List, nat_le, slice_index}
use Rattle.register.specs.Pairs.{has, members}
use Rattle.register.specs.Model.{Model, Sound, inside}

-- the layer's own seats for a role, at most 4,096
abbrev pub own_seats : List ℕ → ℕ → ℕ
own_seats own r = min (slice_index own r) 4096

-- the register under the layer: its seats are the smaller of the layer's own and of those below
abbrev pub seated : List ℕ → Model → Model
seated own m = record { rows = m.rows; places = m.places; seats = λ r. min (own_seats own r) (m.seats r) }

-- it is sound where the one below is
pub seated_sound : (own : List ℕ) (m : Model) → Sound m → Sound (seated own m)
seated_sound own m s = record { few = s.few; wide = s.wide; within = s.within }

-- the layer alone refuses a pair: one that could be held, is not, and whose role has all of the layer's seats taken
abbrev pub turns_away : List ℕ → Model → ℕ → ℕ → Bool
turns_away own m u r = inside m u r && not (has m.rows u r) && nat_le (own_seats own r) (members m.rows r)
