-- The steps of the search for one user. Assumes nothing.
use Rattle.std.proofs.Common.{◌≡◌, ◌↔◌, ℕ, ◌^◌, ◌<◌, ◌≤◌, length, get_or, Some, None, Option, subst, inl, inr, arith, MatchOption}
use lib.Bits.{bit_and, bit_or}
use lib.Count.{ones}
use Rattle.std.proofs.lemmas.List.{get_or_past}
use Rattle.std.proofs.lemmas.Bool.{cases_lt}
use Rattle.terms.specs.Sets.{In, Within, Difference}
use Rattle.terms.proofs.Bits.{none_in, in_or_l, in_or_r, in_or, in_and, in_both, in_one, in_one_only}
use Rattle.terms.proofs.Unions.{union_in, union_of}
use Rattle.terms.proofs.Sizes.{ones_mono}
use Rattle.plan.specs.Authority.{authorised, held, Satisfies, constraint_at}
use Rattle.plan.specs.declared.Plan.{Plan}
use Rattle.holding.specs.Holding.{HeldWith}
use Rattle.holding.specs.Search.{Holder}

module _ (p : Plan) where
  -- who is authorised for less satisfies what the other does
  pub satisfies_less : (v w : ℕ) → Within (authorised p v) (authorised p w) → Satisfies p w → Satisfies p v
  satisfies_less v w a s i l =
      let r = (constraint_at p i).roles in
      let few : ones (bit_and (authorised p v) r) ≤ ones (bit_and (authorised p w) r) =
      ones_mono (bit_and (authorised p v) r) (bit_and (authorised p w) r)
      (λ k h. let x = in_and (authorised p v) r k h in in_both (authorised p w) r k (a k x.0) x.1) in
      omega (arith, s i l)

  pub grows : (word b : ℕ) → Within (authorised p word) (authorised p (bit_or word b))
  grows word b k h =
      let u = union_of p.juniors word k h in
      union_in p.juniors (bit_or word b) u.0 k (in_or_l word b u.0 u.1) u.2

  -- one role more, for which w is authorised
  pub gained : (word r w : ℕ) → Within (authorised p word) (authorised p w) → In r (authorised p w) → Within (authorised p (bit_or word (2 ^ r))) (authorised p w)
  gained word r w a h k i =
      let u = union_of p.juniors (bit_or word (2 ^ r)) k i in
      elim (in_or word (2 ^ r) u.0 u.1) [
        | inl q ↦ a k (union_in p.juniors word u.0 k q u.2)
        | inr q ↦
            let v = union_of p.juniors w r h in
            let over : In k (get_or p.juniors r 0) = subst (λ x. In k (get_or p.juniors x 0)) (in_one_only r u.0 q) u.2 in
            union_in p.juniors w v.0 k v.1 (p.transitive (v.0, r, k) (v.2, over))
      ]

  pub held_more : (v w : ℕ) → Within (authorised p v) (authorised p w) → Within (held p v) (held p w)
  held_more v w a k h =
      let u = union_of p.grants (authorised p v) k h in
      union_in p.grants (authorised p w) u.0 k (a u.0 u.1) u.2

  first : (a b : ℕ) → Within (authorised p b) (authorised p (bit_or a b))
  first a b k h =
      let u = union_of p.juniors b k h in
      union_in p.juniors (bit_or a b) u.0 k (in_or_r a b u.0 u.1) u.2

  pub own_grant : (a k : ℕ) → a < 64 → In k (get_or p.grants a 0) → In k (held p (2 ^ a))
  own_grant a k b g = union_in p.grants (authorised p (2 ^ a)) a k (union_in p.juniors (2 ^ a) a a (in_one a) (p.reflexive a b)) g

  module _ (word wanted : ℕ) where
    pub holder_kept : (w : ℕ) → Holder p word wanted w → Satisfies p word
    holder_kept w h = satisfies_less word w h.above h.satisfies

    pub holder_done : wanted ≡ 0 → Satisfies p word → Holder p word wanted word
    holder_done e s = record { satisfies = s; above = λ k h. h; holds = λ k h. none_in k (subst (In k) e h) }

    pub holder_take : (a g rest w : ℕ) → g ≡ held p (2 ^ a) → Difference wanted g rest → Holder p (bit_or word (2 ^ a)) rest w → Holder p word wanted w
    holder_take a g rest w e o h = record {
      satisfies = h.satisfies;
      above = λ k i. h.above k (grows word (2 ^ a) k i);
      holds = λ k i. elim (o.other k i) [
        | inl x ↦ held_more (2 ^ a) w (λ j q. h.above j (first word (2 ^ a) j q)) k (subst (In k) e x)
        | inr y ↦ h.holds k y
      ];
    }

    pub holder_drop : (a g rest w : ℕ) → Difference wanted g rest → In a (authorised p w) → Holder p word wanted w → Holder p (bit_or word (2 ^ a)) rest w
    holder_drop a g rest w o i h = record {
      satisfies = h.satisfies;
      above = gained word a w h.above i;
      holds = λ k j. h.holds k (o.inside k j);
    }

    pub holder_none : (k : ℕ) → length p.grants ≡ 64 → In k wanted
        → ((a : ℕ) → a < 64 → In k (get_or p.grants a 0) → (w : ℕ) → Holder p word wanted w → In a (authorised p w) → ⊥)
        → (w : ℕ) → Holder p word wanted w → ⊥
    holder_none k len want no_take w h =
        let u = union_of p.grants (authorised p w) k (h.holds k want) in
        let within : u.0 < 64 = elim (cases_lt u.0 64) [
          | inl l ↦ l
          | inr g ↦ none_in k (subst (In k) (get_or_past p.grants u.0 0 (omega arith)) u.2)
        ] in
        no_take u.0 within u.2 w h u.1

  -- any roles are above none
  pub from_none : (wanted w : ℕ) → HeldWith p wanted w → Holder p 0 wanted w
  from_none wanted w h = record { satisfies = h.satisfies; above = λ k i. let v = union_of p.juniors 0 k i in none_in v.0 v.1; holds = h.holds }

  pub answer_from_none : (wanted : ℕ) (Fit : ℕ → Type 0) → ((w : ℕ) → Fit w ↔ Holder p 0 wanted w) → (o : Option ℕ) → MatchOption o ((w : ℕ) → Fit w → ⊥) Fit
      → MatchOption o ((w : ℕ) → HeldWith p wanted w → ⊥) (λ w. HeldWith p wanted w)
  answer_from_none wanted Fit e None h = λ w k. h w ((e w).1 (from_none wanted w k))
  answer_from_none wanted Fit e (Some w) h = let g = (e w).0 h in record { satisfies = g.satisfies; holds = g.holds }
