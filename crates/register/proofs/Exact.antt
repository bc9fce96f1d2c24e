-- The laws of a register, from its soundness.
use Rattle.std.proofs.Common.{◌≡◌, ℕ, ◌^◌, ◌<◌, ◌≤◌, Bool, true, false, cond, ltb, ◌⊎◌, List, [], ◌∷◌, length, set, Some, None, Option, sym, refl, ◌∙◌, subst, inl, inr, arith}
use lib.Bits.{bit_or, bit_xor, or_lt, xor_lt}
use Rattle.std.proofs.lemmas.Nat.{pow_pos, pow_below}
use Rattle.std.proofs.lemmas.List.{length-set, length-replicate}
use Rattle.std.proofs.lemmas.Bool.{cases_eq, cases_lt, ltb-true, eqb-true, both_ways, and_parts}
use Rattle.terms.specs.Sets.{bit, In}
use Rattle.terms.specs.Refusals.{Refusal, refusal}
use Rattle.terms.proofs.Bits.{bit_high, none_in}
use Rattle.register.specs.Pairs.{row, Has, has, pairs, having, members, with_pair, emptied}
use Rattle.register.specs.Model.{Model, Sound, users_of, seats_of, with_rows, inside, holds}
use Rattle.register.specs.Changes.{add_rows, added, removed, cleared}
use Rattle.register.specs.Fits.{Fits, Part, Lasts, AddsExactly, RemovesExactly, ClearsAll, Laws}
use Rattle.register.proofs.Tables.{row_past, each_row, none_row, none_has, none_pairs, none_members, part_pairs, part_members}
use Rattle.register.proofs.Tables as t
use Rattle.register.proofs.Cases.{Way, outside, held, no_seat, no_place, new, way, members_low, members_high}
use Rattle.register.proofs.Cases as c

-- a pair of T has its user below U and a role of at most 63
module _ (m : Model) (s : Sound m) where
  pub has_inside : (u r : ℕ) → Has m.rows u r → (u < users_of m) × (r < 64)
  has_inside u r h = (
    elim (cases_lt u (users_of m)) [ inl l ↦ l | inr g ↦ none_in r (subst (In r) (row_past m.rows u g) h) ],
    elim (cases_lt r 64) [ inl l ↦ l | inr g ↦ absurd (omega (arith, bit_high (row m.rows u) 64 r (s.wide u) g)) ],
  )

-- ---- the pair is held, or free
held_has : (m : Model) (u r : ℕ) → holds m u r ≡ true → (u < users_of m) × (r < 64) × Has m.rows u r
held_has m u r h =
    let a = and_parts (inside m u r) (has m.rows u r) h in
    let b = and_parts (ltb u (users_of m)) (ltb r 64) a.0 in
    (ltb-true u (users_of m) b.0, ltb-true r 64 b.1, eqb-true (bit (row m.rows u) r) 1 a.1)

-- ---- what lasts
same_lasts : (m : Model) → Sound m → Lasts m m
same_lasts m s = record { users = refl; places = refl; seats = refl; sound = s }

-- one word is another
row_lasts : (m : Model) → Sound m → (u w : ℕ) → u < users_of m → w < 2 ^ 64 → pairs (set m.rows u w) ≤ m.places → Lasts m (with_rows m (set m.rows u w))
row_lasts m s u w low fits few = record {
  users = length-set m.rows u w;
  places = refl;
  seats = refl;
  sound = record {
    few = omega (arith, length-set m.rows u w, s.few);
    wide = each_row (λ x. x < 2 ^ 64) m.rows u w low fits s.wide;
    within = few;
  };
}

-- ---- add: what each law says of a register that stays, and of one with the pair
module _ (m : Model) (s : Sound m) (u r : ℕ) where
  stays_exactly : (o : Option Refusal) → (o ≡ None → Has m.rows u r) → c.Adds m u r o m → AddsExactly m u r
  stays_exactly o h a = record {
    stays = λ v k x. subst (λ y. Has y.rows v k) (sym a.model) x;
    comes = λ e. subst (λ y. Has y.rows u r) (sym a.model) (h (sym a.answer ∙ e));
    only = λ v k x. inl (subst (λ y. Has y.rows v k) a.model x);
    refused = λ _. a.model;
    lasts = subst (Lasts m) (sym a.model) (same_lasts m s);
  }

  grows_exactly : u < users_of m → r < 64 → (Has m.rows u r → ⊥) → pairs m.rows < m.places → c.Adds m u r None (with_rows m (with_pair m.rows u r)) → AddsExactly m u r
  grows_exactly low small free room a = record {
    stays = λ v k x. subst (λ y. Has y.rows v k) (sym a.model) (t.with_old m.rows u r low v k x);
    comes = λ _. subst (λ y. Has y.rows u r) (sym a.model) (t.with_has m.rows u r low);
    only = λ v k x. t.with_only m.rows u r low v k (subst (λ y. Has y.rows v k) a.model x);
    refused = λ n. absurd (n a.answer);
    lasts = subst (Lasts m) (sym a.model) (row_lasts m s u (bit_or (row m.rows u) (2 ^ r)) low (or_lt 64 (row m.rows u) (2 ^ r) (s.wide u) (pow_below r 64 small)) (omega (arith, t.with_pairs m.rows u r low free)));
  }

exactly : (m : Model) (u r : ℕ) → Sound m → Way m u r → AddsExactly m u r
exactly m u r s (outside h) = stays_exactly m s u r (Some (refusal 51 [])) (λ e. cc) (c.add_outside m u r h)
exactly m u r s (held low small h) = stays_exactly m s u r None (λ _. h) (c.add_held m u r (c.held_true m u r low small h))
exactly m u r s (no_seat low small free seat) = stays_exactly m s u r (Some (refusal 52 (r ∷ []))) (λ e. cc) (c.add_no_seat m u r low small free seat)
exactly m u r s (no_place low small free seat place) = stays_exactly m s u r (Some (refusal 53 [])) (λ e. cc) (c.add_no_place m u r low small free seat place)
exactly m u r s (new low small free seat place) = grows_exactly m s u r low small free place (c.add_new m u r low small free seat place)

-- ---- remove
removes : (m : Model) (u r : ℕ) → Sound m → (b : Bool) → holds m u r ≡ b → RemovesExactly m u r
removes m u r s true e =
    let a = c.remove_held m u r e in
    let h = held_has m u r e in
    record {
      gone = λ x. t.less_has m.rows u r h.0 h.2 (subst (λ y. Has y.rows u r) a.model x);
      only = λ v k x. t.less_only m.rows u r h.0 h.2 v k (subst (λ y. Has y.rows v k) a.model x);
      stays = λ v k x. subst (λ y. Has y.rows v k ⊎ ((v ≡ u) × (k ≡ r))) (sym a.model) (t.less_stays m.rows u r h.0 h.2 v k x);
      told = λ _. h.2;
      tells = λ _. e;
      lasts = subst (Lasts m) (sym a.model) (row_lasts m s u (bit_xor (row m.rows u) (2 ^ r)) h.0 (xor_lt 64 (row m.rows u) (2 ^ r) (s.wide u) (pow_below r 64 h.1)) (omega (arith, s.within, t.less_pairs m.rows u r h.0 h.2)));
    }
removes m u r s false e =
    let a = c.remove_free m u r e in
    let free : Has m.rows u r → ⊥ = λ h. let i = has_inside m s u r h in both_ways (holds m u r) e (c.held_true m u r i.0 i.1 h) in
    record {
      gone = λ x. free (subst (λ y. Has y.rows u r) a.model x);
      only = λ v k x. subst (λ y. Has y.rows v k) a.model x;
      stays = λ v k x. inl (subst (λ y. Has y.rows v k) (sym a.model) x);
      told = λ h. (held_has m u r h).2;
      tells = λ h. absurd (free h);
      lasts = subst (Lasts m) (sym a.model) (same_lasts m s);
    }

-- ---- clear
clears : (m : Model) → Sound m → ClearsAll m
clears m s = record {
  none = none_has (length m.rows);
  lasts = record {
    users = length-replicate (length m.rows) 0;
    places = refl;
    seats = refl;
    sound = record {
      few = omega (arith, length-replicate {A = ℕ} (length m.rows) 0, s.few);
      wide = λ u. subst (λ x. x < 2 ^ 64) (sym (none_row (length m.rows) u)) (pow_pos 64);
      within = omega (arith, none_pairs (length m.rows));
    };
  };
}

-- ---- fitting
members_le : (xs ys : List ℕ) (r : ℕ) → (r < 64 → having r xs ≤ having r ys) → members xs r ≤ members ys r
members_le xs ys r h = elim (cases_lt r 64) [
  | inl l ↦ omega (arith, h l, members_low xs r l, members_low ys r l)
  | inr g ↦ omega (arith, members_high xs r g)
]

-- a part of what fits, and with as many users, fits
part_fits : (m m' : Model) → Lasts m m' → Sound m → (a b : List ℕ) → Part b a → Fits m a → Fits m' b
part_fits m m' l s a b part f = record {
  inside = λ u r h. let i = f.inside u r (part u r h) in (omega (arith, l.users), i.1);
  placed = omega (arith, part_pairs b a part, f.placed, l.places);
  seated = λ r. subst (λ x. members b r ≤ cond (ltb r 64) (x r) 0) (sym l.seats) (omega (arith, members_le b a r (λ _. part_members b a part r), f.seated r));
}

starts : (m : Model) → Sound m → Fits (cleared m) (cleared m).rows
starts m s = record {
  inside = λ u r h. absurd (none_has (length m.rows) u r h);
  placed = omega (arith, none_pairs (length m.rows));
  seated = λ r. elim (cases_lt r 64) [
    | inl l ↦ omega (arith, members_low (emptied m.rows) r l, none_members (length m.rows) r)
    | inr g ↦ omega (arith, members_high (emptied m.rows) r g)
  ];
}

-- with one pair more, where there is a seat and a place for it
module _ (m : Model) (s : Sound m) (u r : ℕ) (low : u < users_of m) (small : r < 64) (free : Has m.rows u r → ⊥) where
  more_seated : members m.rows r < seats_of m r → ((k : ℕ) → members m.rows k ≤ seats_of m k) → (k : ℕ) → members (with_pair m.rows u r) k ≤ seats_of m k
  more_seated seat f k = elim (cases_eq k r) [
    | inl e ↦ subst (λ x. members (with_pair m.rows u r) x ≤ seats_of m x) (sym e) (omega (arith, members_low (with_pair m.rows u r) r small, members_low m.rows r small, t.with_members m.rows u r low free))
    | inr ne ↦ omega (arith, f k, members_le (with_pair m.rows u r) m.rows k (λ _. omega (arith, t.with_others m.rows u r low k ne)))
  ]

  more_fits : members m.rows r < seats_of m r → pairs m.rows < m.places → Fits m m.rows → Fits (with_rows m (with_pair m.rows u r)) (with_pair m.rows u r)
  more_fits seat room f = record {
    inside = λ v k h. let n = length-set m.rows u (bit_or (row m.rows u) (2 ^ r)) in elim (t.with_only m.rows u r low v k h) [
      | inl old ↦ let i = f.inside v k old in (omega arith, i.1)
      | inr e ↦ (omega arith, omega arith)
    ];
    placed = omega (arith, t.with_pairs m.rows u r low free);
    seated = more_seated seat f.seated;
  }

  -- T with the pair is a part of any assignment that has both
  with_part : (a : List ℕ) → Part m.rows a → Has a u r → Part (with_pair m.rows u r) a
  with_part a part h v k x = elim (t.with_only m.rows u r low v k x) [
    | inl old ↦ part v k old
    | inr e ↦ subst (λ y. Has a y k) (sym e.0) (subst (λ y. Has a u y) (sym e.1) h)
  ]

  has_room : (a : List ℕ) → Fits m a → Part m.rows a → Has a u r → add_rows m u r ≡ None
  has_room a f part h =
      let w = with_part a part h in
      let p = part_pairs (with_pair m.rows u r) a w in
      let q = part_members (with_pair m.rows u r) a w r in
      let seat : members m.rows r < seats_of m r = omega (arith, members_low m.rows r small, members_low a r small, t.with_members m.rows u r low free, f.seated r) in
      let room : pairs m.rows < m.places = omega (arith, t.with_pairs m.rows u r low free, f.placed) in
      (c.add_new m u r low small free seat room).answer

fits_at : (m m' : Model) → m ≡ m' → Fits m' m'.rows → Fits m m.rows
fits_at m m' e f = subst (λ y. Fits y y.rows) (sym e) f

keeps : (m : Model) (u r : ℕ) → Sound m → Way m u r → Fits m m.rows → Fits (added m u r) (added m u r).rows
keeps m u r s (outside h) f = fits_at (added m u r) m (c.add_outside m u r h).model f
keeps m u r s (held low small h) f = fits_at (added m u r) m (c.add_held m u r (c.held_true m u r low small h)).model f
keeps m u r s (no_seat low small free seat) f = fits_at (added m u r) m (c.add_no_seat m u r low small free seat).model f
keeps m u r s (no_place low small free seat place) f = fits_at (added m u r) m (c.add_no_place m u r low small free seat place).model f
keeps m u r s (new low small free seat place) f =
    fits_at (added m u r) (with_rows m (with_pair m.rows u r)) (c.add_new m u r low small free seat place).model (more_fits m s u r low small free seat place f)

accepts : (m : Model) → Sound m → (a : List ℕ) (u r : ℕ) → Fits m a → Part m.rows a → Has a u r → add_rows m u r ≡ None
accepts m s a u r f part h =
    let i = f.inside u r h in
    elim (cases_eq (bit (row m.rows u) r) 1) [
      | inl e ↦ (c.add_held m u r (c.held_true m u r i.0 i.1 e)).answer
      | inr free ↦ has_room m s u r i.0 i.1 free a f part h
    ]

pub laws : (m : Model) → Sound m → Laws m
laws m s = record {
  adds = λ u r. exactly m u r s (way m u r);
  removes = λ u r. removes m u r s (holds m u r) refl;
  clears = clears m s;
  starts = starts m s;
  keeps = λ u r. keeps m u r s (way m u r);
  loses = λ u r. let x = removes m u r s (holds m u r) refl in part_fits m (removed m u r) x.lasts s m.rows (removed m u r).rows x.only;
  accepts = accepts m s;
}
