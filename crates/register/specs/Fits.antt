-- Which assignments fit a register, and the laws of its changes in terms of single pairs.
use Rattle.std.specs.Prelude.{◌≡◌, ℕ, ◌<◌, ◌≤◌, true, ◌⊎◌, List, None, ◌≢◌}
use Rattle.register.specs.Pairs.{Has, pairs, members}
use Rattle.register.specs.Model.{Model, Sound, users_of, seats_of, holds}
use Rattle.register.specs.Changes.{add_rows, added, removed, cleared}

-- an assignment fits when its users are below U, its pairs at most the places, and no role has more members than seats
pub record Fits (m : Model) (t : List ℕ) : Type 0 where
  pub inside : (u r : ℕ) → Has t u r → (u < users_of m) × (r < 64)
  pub placed : pairs t ≤ m.places
  pub seated : (r : ℕ) → members t r ≤ seats_of m r

-- each pair of t is in a
abbrev pub Part : List ℕ → List ℕ → Type 0
Part t a = (u r : ℕ) → Has t u r → Has a u r

-- a change leaves users, places and seats, and what it leaves is sound
pub record Lasts (m m' : Model) : Type 0 where
  pub users : users_of m' ≡ users_of m
  pub places : m'.places ≡ m.places
  pub seats : m'.seats ≡ m.seats
  pub sound : Sound m'

-- accepted, the pair is in T, and the others are as before; refused, nothing is changed
pub record AddsExactly (m : Model) (u r : ℕ) : Type 0 where
  pub stays : Part m.rows (added m u r).rows
  pub comes : add_rows m u r ≡ None → Has (added m u r).rows u r
  pub only : (v k : ℕ) → Has (added m u r).rows v k → Has m.rows v k ⊎ ((v ≡ u) × (k ≡ r))
  pub refused : (add_rows m u r ≢ None) → added m u r ≡ m
  pub lasts : Lasts m (added m u r)

-- the pair is not in T, and the others are as before; the answer says whether it was there
pub record RemovesExactly (m : Model) (u r : ℕ) : Type 0 where
  pub gone : Has (removed m u r).rows u r → ⊥
  pub only : Part (removed m u r).rows m.rows
  pub stays : (v k : ℕ) → Has m.rows v k → Has (removed m u r).rows v k ⊎ ((v ≡ u) × (k ≡ r))
  pub told : holds m u r ≡ true → Has m.rows u r
  pub tells : Has m.rows u r → holds m u r ≡ true
  pub lasts : Lasts m (removed m u r)

-- no pair is in T
pub record ClearsAll (m : Model) : Type 0 where
  pub none : (u r : ℕ) → Has (cleared m).rows u r → ⊥
  pub lasts : Lasts m (cleared m)

-- the laws of a register: its changes are exact; T fits when it is cleared, and where T fits it still fits after add and
-- remove; and where T is a part of an assignment that fits, add accepts each pair of it, so in any order
pub record Laws (m : Model) : Type 0 where
  pub adds : (u r : ℕ) → AddsExactly m u r
  pub removes : (u r : ℕ) → RemovesExactly m u r
  pub clears : ClearsAll m
  pub starts : Fits (cleared m) (cleared m).rows
  pub keeps : (u r : ℕ) → Fits m m.rows → Fits (added m u r) (added m u r).rows
  pub loses : (u r : ℕ) → Fits m m.rows → Fits (removed m u r) (removed m u r).rows
  pub accepts : (a : List ℕ) (u r : ℕ) → Fits m a → Part m.rows a → Has a u r → add_rows m u r ≡ None
