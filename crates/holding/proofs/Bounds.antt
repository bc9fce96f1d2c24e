-- The bounds that limits set on what a user can hold. Assumes nothing.
use Rattle.std.proofs.Common.{◌≡◌, ℕ, ◌+◌, ◌-◌, ◌*◌, ◌^◌, ◌<◌, ◌≤◌, ◌⊎◌, get_or, w64, sym, subst, inl, inr, le_trans, mul-le-mul_right, arith}
use lib.Bits.{bit_and, bit_or, bit_xor}
use lib.Count.{ones}
use Rattle.std.proofs.lemmas.Nat.Bits.{bit_at_not}
use Rattle.terms.specs.Sets.{bit, In, Within, Difference}
use Rattle.terms.proofs.Bits.{in_and, in_both, in_or, cut, bit_off}
use Rattle.terms.proofs.Unions.{union_in, union_of}
use Rattle.terms.proofs.Sizes.{ones_none, ones_mono, ones_apart, ones_either, ones_rows}
use Rattle.plan.specs.Authority.{Granted, authorised, held, constraint_count, constraint_at}
use Rattle.plan.specs.declared.Plan.{Plan}
use Rattle.plan.specs.declared.Constraint.{Constraint}
use Rattle.holding.specs.Search.{Holder, fresh}

-- who is not a member is one of the others
pub in_others : (w a : ℕ) → w < 2 ^ 64 → a < 64 → (In a w → ⊥) → In a (18446744073709551615 - w)
unfolding bit
in_others w a l b n = omega (arith, bit_at_not w64 w a l b, bit_off w a n)

pub fresh_none : (all old : ℕ) → ones (fresh all 0 old) ≡ 0
fresh_none all old = omega (arith, ones_none, ones_mono (fresh all 0 old) 0 (λ k h. (in_and all 0 k ((cut (bit_and all 0) old).inside k h)).1))

pub fresh_more : (all u r old : ℕ) → ones (fresh all (bit_or u r) old) ≤ ones (fresh all u old) + ones (fresh all r old)
fresh_more all u r old = ones_either (fresh all (bit_or u r) old) (fresh all u old) (fresh all r old) (λ k h.
    let o = cut (bit_and all (bit_or u r)) old in
    let x = in_and all (bit_or u r) k (o.inside k h) in
    let not_old : In k old → ⊥ = λ i. o.apart k i h in
    elim (in_or u r k x.1) [
      | inl y ↦ elim ((cut (bit_and all u) old).other k (in_both all u k x.0 y)) [ inl z ↦ absurd (not_old z) | inr z ↦ inl z ]
      | inr y ↦ elim ((cut (bit_and all r) old).other k (in_both all r k x.0 y)) [ inl z ↦ absurd (not_old z) | inr z ↦ inr z ]
    ])

-- as many are left as are cut
pub ones_left : (w g r : ℕ) → Difference w g r → ones r ≡ ones (bit_xor w (bit_and w g))
ones_left w g r o =
    let q = bit_xor w (bit_and w g) in
    let d = cut w g in
    omega (
      arith,
      ones_mono r q (λ k i. elim (d.other k (o.inside k i)) [ inl x ↦ absurd (o.apart k x i) | inr x ↦ x ]),
      ones_mono q r (λ k i. elim (o.other k (d.inside k i)) [ inl x ↦ absurd (d.apart k x i) | inr x ↦ x ]),
    )

module _ (p : Plan) (word wanted w : ℕ) (h : Holder p word wanted w) where
  pub fresh_limit : (i : ℕ) → i < constraint_count p
      → ones (fresh (authorised p w) (constraint_at p i).roles (authorised p word)) ≤ (constraint_at p i).limit - 1 - ones (bit_and (authorised p word) (constraint_at p i).roles)
  fresh_limit i b =
      let r = (constraint_at p i).roles in
      let all = authorised p w in
      let old = authorised p word in
      let o = cut (bit_and all r) old in
      let sum : ones (bit_and old r) + ones (fresh all r old) ≤ ones (bit_and all r) = ones_apart (bit_and all r) (bit_and old r) (fresh all r old)
      (λ k j. let y = in_and old r k j in in_both all r k (h.above k y.0) y.1)
      o.inside
      (λ k j l. o.apart k (in_and old r k j).0 l) in
      omega (arith, h.satisfies i b, sum)

  fresh_holds : (u q g : ℕ) → Within q wanted → ((k : ℕ) → In k q → In k (held p word) → ⊥)
      → ((a k : ℕ) → In k q → In k (get_or p.grants a 0) → In a u)
      → ((a : ℕ) → ones (bit_and (get_or p.grants a 0) q) ≤ g)
      → ones q ≤ ones (fresh (authorised p w) u (authorised p word)) * g
  fresh_holds u q g part new sole most =
      let all = authorised p w in
      let old = authorised p word in
      let o = cut (bit_and all u) old in
      ones_rows p.grants (fresh all u old) q g most (λ k j.
      let v = union_of p.grants all k (h.holds k (part k j)) in
      union_in p.grants (fresh all u old) v.0 k
      (elim (o.other v.0 (in_both all u v.0 v.1 (sole v.0 k j v.2))) [
        | inl y ↦ absurd (new k j (union_in p.grants old v.0 k y v.2))
        | inr y ↦ y
      ])
      v.2)

  -- `here` is due and granted to the named roles alone: it is no more than the spare ones can bring
  pub fresh_bound : (roles spare due apart here each : ℕ) {g : ℕ} → Difference wanted g due → g ≡ held p word → Difference due apart here
      → ((a k : ℕ) → Granted p a k → In a roles ⊎ In k apart)
      → ((a : ℕ) → ones (bit_and (get_or p.grants a 0) due) ≤ each)
      → ones (fresh (authorised p w) roles (authorised p word)) ≤ spare → ones here ≤ spare * each
  fresh_bound roles spare due apart here each old is left cover most few = le_trans (fresh_holds roles here each
      (λ k j. old.inside k (left.inside k j))
      (λ k j l. old.apart k (subst (In k) (sym is) l) (left.inside k j))
      (λ a k j g. elim (cover a k g) [ inl x ↦ x | inr y ↦ absurd (left.apart k y j) ])
      (λ a. le_trans (ones_mono (bit_and (get_or p.grants a 0) here) (bit_and (get_or p.grants a 0) due)
      (λ k j. let x = in_and (get_or p.grants a 0) here k j in in_both (get_or p.grants a 0) due k x.0 (left.inside k x.1)))
      (most a)))
      (mul-le-mul_right each few)

module _ (p : Plan) (word wanted i : ℕ) (d : Constraint) (low : i < constraint_count p) (same : d ≡ constraint_at p i) where
  -- the room that constraint i leaves
  pub room : (slack : ℕ) → slack ≡ d.limit - 1 - ones (bit_and (authorised p word) d.roles)
      → slack ≡ (constraint_at p i).limit - 1 - ones (bit_and (authorised p word) (constraint_at p i).roles)
  room slack e = subst (λ (x : Constraint). slack ≡ x.limit - 1 - ones (bit_and (authorised p word) x.roles)) same e

  -- one constraint more
  pub named_more : (roles spare slack : ℕ) → slack ≡ d.limit - 1 - ones (bit_and (authorised p word) d.roles)
      → ((w : ℕ) → Holder p word wanted w → ones (fresh (authorised p w) roles (authorised p word)) ≤ spare)
      → (w : ℕ) → Holder p word wanted w → ones (fresh (authorised p w) (bit_or roles d.roles) (authorised p word)) ≤ spare + slack
  named_more roles spare slack e right w h = subst (λ (x : Constraint). ones (fresh (authorised p w) (bit_or roles x.roles) (authorised p word)) ≤ spare + slack) (sym same)
      (omega (arith, room slack e, fresh_more (authorised p w) roles (constraint_at p i).roles (authorised p word), fresh_limit p word wanted w h i low, right w h))
