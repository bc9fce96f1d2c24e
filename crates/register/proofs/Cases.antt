-- Which row of add applies, what add and remove leave in each case, and nothing else of the definitions. Assumes nothing.
use Rattle.std.proofs.Common.{◌≡◌, ℕ, ◌<◌, ◌≤◌, Bool, true, false, cond, not, ltb, leb, ◌⊎◌, List, [], ◌∷◌, Some, None, Option, sym, refl, ap, ◌∙◌, subst, inl, inr}
use Rattle.std.proofs.lemmas.Bool.{cases_lt, cases_eq, lt-ltb, le-ltb, le-leb, lt-leb, eq-eqb, ne_eqb, both_ways, and_from, and_left, and_right}
use Rattle.terms.specs.Sets.{bit, In}
use Rattle.terms.specs.Refusals.{Refusal, refusal, when, first_of}
use Rattle.register.specs.Pairs.{row, Has, pairs, having, members, with_pair, less_pair}
use Rattle.register.specs.Model.{Model, users_of, seats_of, with_rows, inside, holds}
use Rattle.register.specs.Changes.{new_pair_rows, unless, add_rows, added, removed}

-- what add answers, and what it leaves
pub record Adds (m : Model) (u r : ℕ) (refused : Option Refusal) (after : Model) : Type 0 where
  pub answer : add_rows m u r ≡ refused
  pub model : added m u r ≡ after

-- what remove answers, and what it leaves
pub record Removes (m : Model) (u r : ℕ) (said : Bool) (after : Model) : Type 0 where
  pub answer : holds m u r ≡ said
  pub model : removed m u r ≡ after

-- ---- members and seats of a role
pub members_low : (t : List ℕ) (r : ℕ) → r < 64 → members t r ≡ having r t
members_low t r h = ap (λ b. cond b (having r t) 0) (lt-ltb r 64 h)

pub members_high : (t : List ℕ) (r : ℕ) → 64 ≤ r → members t r ≡ 0
members_high t r h = ap (λ b. cond b (having r t) 0) (le-ltb r 64 h)

pub seats_low : (m : Model) (r : ℕ) → r < 64 → seats_of m r ≡ m.seats r
seats_low m r h = ap (λ b. cond b (m.seats r) 0) (lt-ltb r 64 h)

-- ---- what reading a word says of the pair
pub read_held : (t : List ℕ) (u r w : ℕ) (b : Bool) → w ≡ row t u → (b ≡ true → In r w) → b ≡ true → Has t u r
read_held t u r w b e told on = subst (In r) e (told on)

pub read_free : (t : List ℕ) (u r w : ℕ) (b : Bool) → w ≡ row t u → (In r w → b ≡ true) → b ≡ false → Has t u r → ⊥
read_free t u r w b e told off h = both_ways b off (told (subst (In r) (sym e) h))

module _ (m : Model) (u r : ℕ) where
  -- ---- the pair is held, or not
  pub held_true : u < users_of m → r < 64 → Has m.rows u r → holds m u r ≡ true
  held_true low small h = and_from (inside m u r) _ (and_from _ _ (lt-ltb u (users_of m) low) (lt-ltb r 64 small)) (eq-eqb (bit (row m.rows u) r) 1 h)

  pub held_false : (Has m.rows u r → ⊥) → holds m u r ≡ false
  held_false n = and_right (inside m u r) _ (ne_eqb (bit (row m.rows u) r) 1 n)

  outside_user : users_of m ≤ u → inside m u r ≡ false
  outside_user h = and_left (ltb u (users_of m)) (ltb r 64) (le-ltb u (users_of m) h)

  outside_role : 64 ≤ r → inside m u r ≡ false
  outside_role h = and_right (ltb u (users_of m)) (ltb r 64) (le-ltb r 64 h)

  not_inside : (users_of m ≤ u) ⊎ (64 ≤ r) → inside m u r ≡ false
  not_inside (inl h) = outside_user h
  not_inside (inr h) = outside_role h

  pub held_outside : (users_of m ≤ u) ⊎ (64 ≤ r) → holds m u r ≡ false
  held_outside h = and_left (inside m u r) _ (not_inside h)

  -- ---- add
  by_rows : holds m u r ≡ false → (o : Option Refusal) → new_pair_rows m u r ≡ o → Adds m u r o (unless o m (with_rows m (with_pair m.rows u r)))
  unfolding add_rows added
  by_rows f o e = record {
    answer = ap (λ b. cond b None (new_pair_rows m u r)) f ∙ e;
    model = ap (λ b. cond b m (unless (new_pair_rows m u r) m (with_rows m (with_pair m.rows u r)))) f ∙ ap (λ x. unless x m (with_rows m (with_pair m.rows u r))) e;
  }

  rows_at : (a b c : Bool) → inside m u r ≡ a → leb (seats_of m r) (members m.rows r) ≡ b → leb m.places (pairs m.rows) ≡ c
      → new_pair_rows m u r ≡ first_of (when (not a) (refusal 51 []) ∷ when b (refusal 52 (r ∷ [])) ∷ when c (refusal 53 []) ∷ [])
  rows_at a b c e f g = λ i. first_of (when (not (e i)) (refusal 51 []) ∷ when (f i) (refusal 52 (r ∷ [])) ∷ when (g i) (refusal 53 []) ∷ [])

  pub add_held : holds m u r ≡ true → Adds m u r None m
  unfolding add_rows added
  add_held h = record {
    answer = ap (λ b. cond b None (new_pair_rows m u r)) h;
    model = ap (λ b. cond b m (unless (new_pair_rows m u r) m (with_rows m (with_pair m.rows u r)))) h;
  }

  pub add_outside : (users_of m ≤ u) ⊎ (64 ≤ r) → Adds m u r (Some (refusal 51 [])) m
  add_outside h = by_rows (held_outside h) (Some (refusal 51 [])) (rows_at false _ _ (not_inside h) refl refl)

  module _ (low : u < users_of m) (small : r < 64) (free : Has m.rows u r → ⊥) where
    within : inside m u r ≡ true
    within = and_from _ _ (lt-ltb u (users_of m) low) (lt-ltb r 64 small)

    pub add_no_seat : seats_of m r ≤ members m.rows r → Adds m u r (Some (refusal 52 (r ∷ []))) m
    add_no_seat s = by_rows (held_false free) (Some (refusal 52 (r ∷ []))) (rows_at true true _ within (le-leb _ _ s) refl)

    pub add_no_place : members m.rows r < seats_of m r → m.places ≤ pairs m.rows → Adds m u r (Some (refusal 53 [])) m
    add_no_place s p = by_rows (held_false free) (Some (refusal 53 [])) (rows_at true false true within (lt-leb _ _ s) (le-leb _ _ p))

    pub add_new : members m.rows r < seats_of m r → pairs m.rows < m.places → Adds m u r None (with_rows m (with_pair m.rows u r))
    add_new s p = by_rows (held_false free) None (rows_at true false false within (lt-leb _ _ s) (lt-leb _ _ p))

  -- ---- remove
  pub remove_held : holds m u r ≡ true → Removes m u r true (with_rows m (less_pair m.rows u r))
  unfolding removed
  remove_held h = record { answer = h; model = ap (λ b. cond b (with_rows m (less_pair m.rows u r)) m) h }

  pub remove_free : holds m u r ≡ false → Removes m u r false m
  unfolding removed
  remove_free h = record { answer = h; model = ap (λ b. cond b (with_rows m (less_pair m.rows u r)) m) h }

-- the five ways of add, and what is known on each
pub data Way (m : Model) (u r : ℕ) : Type 0 where
  outside : (users_of m ≤ u) ⊎ (64 ≤ r) → Way m u r
  held : u < users_of m → r < 64 → Has m.rows u r → Way m u r
  no_seat : u < users_of m → r < 64 → (Has m.rows u r → ⊥) → seats_of m r ≤ members m.rows r → Way m u r
  no_place : u < users_of m → r < 64 → (Has m.rows u r → ⊥) → members m.rows r < seats_of m r → m.places ≤ pairs m.rows → Way m u r
  new : u < users_of m → r < 64 → (Has m.rows u r → ⊥) → members m.rows r < seats_of m r → pairs m.rows < m.places → Way m u r

module _ (m : Model) (u r : ℕ) where
  way_free : u < users_of m → r < 64 → (Has m.rows u r → ⊥) → Way m u r
  way_free low small free = elim (cases_lt (members m.rows r) (seats_of m r)) [
    | inl s ↦ elim (cases_lt (pairs m.rows) m.places) [ inl p ↦ new low small free s p | inr p ↦ no_place low small free s p ]
    | inr s ↦ no_seat low small free s
  ]

  pub way : Way m u r
  way = elim (cases_lt u (users_of m)) [
    | inl low ↦ elim (cases_lt r 64) [
      | inl small ↦ elim (cases_eq (bit (row m.rows u) r) 1) [ inl h ↦ held low small h | inr free ↦ way_free low small free ]
      | inr g ↦ outside (inr g)
    ]
    | inr g ↦ outside (inl g)
  ]
