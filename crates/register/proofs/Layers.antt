-- A layer of seats over a register: when it decides by itself, and when the register below decides. Assumes nothing.
use Rattle.std.proofs.Common.{◌≡◌, ℕ, ◌<◌, ◌≤◌, min, Bool, true, false, not, ◌&&◌, ltb, leb, List, [], ◌∷◌, Some, None, Option, sym, refl, ap, ◌∙◌, inl, inr, arith}
use Rattle.std.proofs.lemmas.Bool.{lt-ltb, ltb-true, le-leb, leb-true, ne_eqb, eqb-false, cases_lt, both_ways, not-true, not_from_false, and_from, and_parts}
use Rattle.terms.specs.Sets.{bit}
use Rattle.terms.specs.Refusals.{Refusal, refusal}
use Rattle.register.specs.Pairs.{row, Has, has, members}
use Rattle.register.specs.Model.{Model, users_of, seats_of, inside, holds}
use Rattle.register.specs.Changes.{add_rows, added, removed}
use Rattle.register.specs.Layer.{own_seats, seated, turns_away}
use Rattle.register.proofs.Cases.{Adds, Way, outside, held, no_seat, no_place, new, way}
use Rattle.register.proofs.Cases as c

-- the layer answers as the register below, and lies over what that leaves
pub record Passes (own : List ℕ) (m : Model) (u r : ℕ) : Type 0 where
  pub answer : add_rows m u r ≡ add_rows (seated own m) u r
  pub model : seated own (added m u r) ≡ added (seated own m) u r

module _ (own : List ℕ) (m : Model) (u r : ℕ) where
  seats_are : r < 64 → seats_of (seated own m) r ≡ min (own_seats own r) (seats_of m r)
  seats_are h = c.seats_low (seated own m) r h ∙ ap (min (own_seats own r)) (sym (c.seats_low m r h))

  -- ---- the layer refuses
  pub turned_away : turns_away own m u r ≡ true → Adds (seated own m) u r (Some (refusal 52 (r ∷ []))) (seated own m)
  turned_away e =
      let a = and_parts (inside m u r && not (has m.rows u r)) (leb (own_seats own r) (members m.rows r)) e in
      let b = and_parts (inside m u r) (not (has m.rows u r)) a.0 in
      let i = and_parts (ltb u (users_of m)) (ltb r 64) b.0 in
      let small = ltb-true r 64 i.1 in
      c.add_no_seat (seated own m) u r (ltb-true u (users_of m) i.0) small (eqb-false (bit (row m.rows u) r) 1 (not-true (has m.rows u r) b.1))
      (omega (arith, seats_are small, leb-true (own_seats own r) (members m.rows r) a.1))

  -- ---- the register below decides
  together : (o : Option Refusal) (after : Model) → Adds m u r o after → Adds (seated own m) u r o (seated own after) → Passes own m u r
  together o after a b = record { answer = a.answer ∙ sym b.answer; model = ap (seated own) a.model ∙ sym b.model }

  module _ (low : u < users_of m) (small : r < 64) (free : Has m.rows u r → ⊥) where
    away : own_seats own r ≤ members m.rows r → turns_away own m u r ≡ true
    away h = and_from _ _ (and_from (inside m u r) _ (and_from _ _ (lt-ltb u (users_of m) low) (lt-ltb r 64 small)) (not_from_false (has m.rows u r) (ne_eqb (bit (row m.rows u) r) 1 free))) (le-leb _ _ h)

    own_free : turns_away own m u r ≡ false → members m.rows r < own_seats own r
    own_free e = elim (cases_lt (members m.rows r) (own_seats own r)) [ inl l ↦ l | inr g ↦ absurd (both_ways (turns_away own m u r) e (away g)) ]

  by_way : turns_away own m u r ≡ false → Way m u r → Passes own m u r
  by_way e (outside h) = together (Some (refusal 51 [])) m (c.add_outside m u r h) (c.add_outside (seated own m) u r h)
  by_way e (held low small h) = together None m (c.add_held m u r (c.held_true m u r low small h)) (c.add_held (seated own m) u r (c.held_true m u r low small h))
  by_way e (no_seat low small free s) =
      together (Some (refusal 52 (r ∷ []))) m (c.add_no_seat m u r low small free s) (c.add_no_seat (seated own m) u r low small free (omega (arith, seats_are small)))
  by_way e (no_place low small free s p) =
      together (Some (refusal 53 [])) m (c.add_no_place m u r low small free s p) (c.add_no_place (seated own m) u r low small free (omega (arith, seats_are small, own_free low small free e)) p)
  by_way e (new low small free s p) =
      together None _ (c.add_new m u r low small free s p) (c.add_new (seated own m) u r low small free (omega (arith, seats_are small, own_free low small free e)) p)

  pub passed_on : turns_away own m u r ≡ false → Passes own m u r
  passed_on e = by_way e (way m u r)

  removed_at : (b : Bool) → holds m u r ≡ b → seated own (removed m u r) ≡ removed (seated own m) u r
  removed_at true e = ap (seated own) (c.remove_held m u r e).model ∙ sym (c.remove_held (seated own m) u r e).model
  removed_at false e = ap (seated own) (c.remove_free m u r e).model ∙ sym (c.remove_free (seated own m) u r e).model

  pub removed_below : seated own (removed m u r) ≡ removed (seated own m) u r
  removed_below = removed_at (holds m u r) refl
