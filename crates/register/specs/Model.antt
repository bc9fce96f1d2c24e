-- What a register means: its users, its places, the seats of each role, and its set T of pairs.
use Rattle.std.specs.Prelude.{ℕ, ◌^◌, ◌<◌, ◌≤◌, Bool, cond, ◌&&◌, List, ◌∷◌, length, nat_lt}
use Rattle.std.specs.Borrow.{GName}
use Rattle.register.specs.Pairs.{row, has, pairs}

-- T is the rows, one for a user; the places bound the number of pairs, the seats of a role the number of its members
pub record Model : Type 0 where
  pub rows : List ℕ
  pub places : ℕ
  pub seats : ℕ → ℕ

-- the number of users, U
abbrev pub users_of : Model → ℕ
users_of m = length m.rows

-- the seats of a role; a role above 63 has none
abbrev pub seats_of : Model → ℕ → ℕ
seats_of m r = cond (nat_lt r 64) (m.seats r) 0

-- what holds of every register at every moment: at most 4,096 users, rows of roles 0 to 63, and no more pairs than places
pub record Sound (m : Model) : Type 0 where
  pub few : length m.rows ≤ 4096
  pub wide : (u : ℕ) → row m.rows u < 2 ^ 64
  pub within : pairs m.rows ≤ m.places

-- what no call changes of the memory that was lent: what lies outside the register's part, as numbers, and the references' names
pub record Kept : Type 0 where
  pub spare : List ℕ
  pub lenders : List GName

-- the same, lent on by one more reference
abbrev pub lent_by : GName → Kept → Kept
lent_by n k = record { spare = k.spare; lenders = n ∷ k.lenders }

-- the register with another T; users, places and seats stay
abbrev pub with_rows : Model → List ℕ → Model
with_rows m t = record { rows = t; places = m.places; seats = m.seats }

-- the user is below U and the role at most 63
abbrev pub inside : Model → ℕ → ℕ → Bool
inside m u r = nat_lt u (users_of m) && nat_lt r 64

-- the pair is in T
abbrev pub holds : Model → ℕ → ℕ → Bool
holds m u r = inside m u r && has m.rows u r
