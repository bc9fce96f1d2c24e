-- The worked cases of judging. Assumes nothing.
use Rattle.std.proofs.Common.{◌≡◌, ℕ, zero, suc, ◌^◌, ◌<◌, ◌≤◌, false, ◌||◌, ltb, leb, List, [], ◌∷◌, length, get_or, None, sym, refl, ap, ◌∙◌, subst, inl, inr, le_trans, arith, lit<}
use lib.Bits.{bit_and, bit_or}
use lib.Count.{ones}
use Rattle.std.proofs.lemmas.Bool.{cases_lt, cases_eq, ne_eqb, lt-leb}
use Rattle.terms.specs.Sets.{bit, In, Within}
use Rattle.terms.proofs.Bits.{bit_high, none_in, in_and, in_both, in_or, in_or_l, in_or_r}
use Rattle.terms.proofs.Sizes.{ones_none, ones_mono, ones_either}
use Rattle.plan.specs.Authority.{Senior, Granted, authorised, held, policy_count, policy_at, constraint_count, constraint_at, Satisfies, AllSatisfy, held_by}
use Rattle.plan.specs.Enforcing.{Covered, Breachable, Enforces}
use Rattle.plan.specs.History.{Means, rows, Reaches, itself, step, Listed, policies, constraints, grants, seniors}
use Rattle.plan.specs.declared.Plan.{Plan}
use Rattle.plan.specs.declared.Policy.{Policy}
use Rattle.plan.specs.declared.Constraint.{Constraint}
use Rattle.plan.specs.declared.Addition.{Addition}
use Rattle.plan.specs.declared.Addition.TheVariants as add
use Rattle.plan.proofs.Histories.{policies_counted, constraints_counted}
use Rattle.plan.proofs.Holdings.{authorised_exactly, held_exactly}
use Rattle.judge.specs.Judging.{Witnessed, witnesses}
use Rattle.judge.specs.declared.Witness.{Witness}
use Rattle.judge.proofs.Judgements.{some_satisfy, all_of}
use Rattle.cases.specs.Starred.{unconstrained, constrained, plan_g, Taken, Accepted, Refused, Covering, Starred}

-- ---- numbers that are written out

ones_3 : ones 3 ≡ 2
unfolding ones
ones_3 = refl

ones_7 : ones 7 ≡ 3
unfolding ones
ones_7 = refl

bit_5_0 : bit 5 0 ≡ 1
unfolding bit
bit_5_0 = refl

bit_3_0 : bit 3 0 ≡ 1
unfolding bit
bit_3_0 = refl

bit_5_2 : bit 5 2 ≡ 1
unfolding bit
bit_5_2 = refl

bit_2_1 : bit 2 1 ≡ 1
unfolding bit
bit_2_1 = refl

ones_1 : ones 1 ≡ 1
unfolding ones
ones_1 = refl

ones_2 : ones 2 ≡ 1
unfolding ones
ones_2 = refl

-- the members of a word below 2 ^ n are below n
low_member : (w n k : ℕ) → w < 2 ^ n → In k w → k < n
low_member w n k l h = elim (cases_lt k n) [ inl b ↦ b | inr g ↦ absurd (omega (arith, bit_high w n k l g)) ]

-- ---- what a plan means, by numbers

module _ (xs : List Addition) (p : Plan) (m : Means xs p) where
  policy_is : (i : ℕ) → i < length (policies xs) → policy_at p i ≡ get_or (policies xs) i (record { permissions = 0; least = 0 })
  policy_is i l = ap (λ ps. get_or ps i (record { permissions = 0; least = 0 })) m.policies

  constraint_is : (i : ℕ) → i < length (constraints xs) → constraint_at p i ≡ get_or (constraints xs) i (record { roles = 0; limit = 0 })
  constraint_is i l = ap (λ cs. get_or cs i (record { roles = 0; limit = 0 })) m.constraints

-- permission n is granted to role n alone
abbrev Own : Plan → Type 0
Own p = (b k : ℕ) → Granted p b k → b ≡ k

own_listed : (b k : ℕ) → Listed b k ((0, 0) ∷ (1, 1) ∷ (2, 2) ∷ (3, 3) ∷ []) → b ≡ k
own_listed b k (inl e) = sym e.0 ∙ e.1
own_listed b k (inr (inl e)) = sym e.0 ∙ e.1
own_listed b k (inr (inr (inl e))) = sym e.0 ∙ e.1
own_listed b k (inr (inr (inr (inl e)))) = sym e.0 ∙ e.1
own_listed b k (inr (inr (inr (inr n)))) = absurd n

listed_own : (k : ℕ) → k < 4 → Listed k k ((0, 0) ∷ (1, 1) ∷ (2, 2) ∷ (3, 3) ∷ [])
listed_own zero l = inl (refl, refl)
listed_own (suc zero) l = inr (inl (refl, refl))
listed_own (suc (suc zero)) l = inr (inr (inl (refl, refl)))
listed_own (suc (suc (suc zero))) l = inr (inr (inr (inl (refl, refl))))
listed_own (suc (suc (suc (suc k)))) l = absurd (omega arith)

-- no chain leads from a role other than 3
stays : {a b : ℕ} → Reaches ((3, 0) ∷ []) a b → (3 ≡ a → ⊥) → a ≡ b
stays (itself l) n = refl
stays (step l (inl e) r) n = absurd (n e.0)
stays (step l (inr e) r) n = absurd e

-- the parts that the four plans share
module _ (p : Plan) (own : Own p) (given : (k : ℕ) → k < 4 → Granted p k k) (itself' : (a : ℕ) → a < 64 → Senior p a a) (alone : (a b : ℕ) → Senior p a b → (3 ≡ a → ⊥) → a ≡ b) where
  -- a user holds what he is authorised for
  held_few : (w mask : ℕ) → ones (bit_and (held p w) mask) ≤ ones (bit_and (authorised p w) mask)
  held_few w mask = ones_mono (bit_and (held p w) mask) (bit_and (authorised p w) mask) (λ k h.
      let x = in_and (held p w) mask k h in
      let t = (held_exactly p w k).0 x.0 in
      in_both (authorised p w) mask k (subst (λ z. In z (authorised p w)) (own t.0 k t.2) ((authorised_exactly p w t.0).1 t.1)) x.1)

  module _ (mask : ℕ) (limited : (w : ℕ) → Satisfies p w → ones (bit_and (authorised p w) mask) < 2) where
    -- users who satisfy the constraint hold one of its permissions each
    together_few : (ws : List ℕ) → AllSatisfy p ws → ones (bit_and (held_by p ws) mask) ≤ length ws
    together_few [] s = omega (arith, ones_none, ones_mono (bit_and 0 mask) 0 (λ k h. (in_and 0 mask k h).0))
    together_few (w ∷ ws) s =
        let both = ones_either (bit_and (bit_or (held p w) (held_by p ws)) mask) (bit_and (held p w) mask) (bit_and (held_by p ws) mask) (λ k h.
        let x = in_and (bit_or (held p w) (held_by p ws)) mask k h in
        elim (in_or (held p w) (held_by p ws) k x.0) [ inl y ↦ inl (in_both (held p w) mask k y x.1) | inr y ↦ inr (in_both (held_by p ws) mask k y x.1) ]) in
        omega (arith, both, held_few w mask, limited w s.0, together_few ws s.1)

    pub many : (u : ℕ) → Within u mask → (ws : List ℕ) → AllSatisfy p ws → Within u (held_by p ws) → ones u ≤ length ws
    many u i ws s h = le_trans (ones_mono u (bit_and (held_by p ws) mask) (λ k j. in_both (held_by p ws) mask k (h k j) (i k j))) (together_few ws s)

  -- a user assigned to roles other than 3 is authorised for those alone
  pub authorised_alone : (w : ℕ) → bit w 3 ≡ 0 → Within (authorised p w) w
  authorised_alone w z b h =
      let t = (authorised_exactly p w b).0 h in
      subst (λ x. In x w) (alone t.0 b t.2 (λ e. let y = subst (λ x. In x w) (sym e) t.1 in absurd (omega arith))) t.1

  pub masked_few : (w mask : ℕ) → bit w 3 ≡ 0 → ones (bit_and (authorised p w) mask) ≤ ones (bit_and w mask)
  masked_few w mask z = ones_mono (bit_and (authorised p w) mask) (bit_and w mask) (λ k h.
      let x = in_and (authorised p w) mask k h in in_both w mask k (authorised_alone w z k x.0) x.1)

  -- he holds the permissions of his roles
  pub holds_own : (w k : ℕ) → k < 4 → In k w → In k (held p w)
  holds_own w k l h = (held_exactly p w k).1 (k, (k, h, itself' k (omega arith)), given k l)

  pub user_3 : Within 3 (held_by p (3 ∷ []))
  user_3 k h = in_or_l (held p 3) 0 k (holds_own 3 k (omega (arith, low_member 3 2 k (lit< tt) h)) h)

  pub users_5_2 : Within 7 (held_by p (5 ∷ 2 ∷ []))
  users_5_2 zero h = in_or_l (held p 5) (held_by p (2 ∷ [])) 0 (holds_own 5 0 (lit< tt) bit_5_0)
  users_5_2 (suc zero) h = in_or_r (held p 5) (held_by p (2 ∷ [])) 1 (in_or_l (held p 2) 0 1 (holds_own 2 1 (lit< tt) bit_2_1))
  users_5_2 (suc (suc zero)) h = in_or_l (held p 5) (held_by p (2 ∷ [])) 2 (holds_own 5 2 (lit< tt) bit_5_2)
  users_5_2 (suc (suc (suc k))) h = absurd (omega (arith, low_member 7 3 (suc (suc (suc k))) (lit< tt) h))

-- ---- who is refused, and how

-- users ws who satisfy the constraints and cover policy i, fewer than it asks for
breachable : (p : Plan) (i : ℕ) (ws : List ℕ) → i < policy_count p → AllSatisfy p ws → length ws < (policy_at p i).least → Covered p i ws → Breachable p
breachable p i ws l s f c = record { policy = i; numbered = l; breach = record { assignment = ws; satisfies = s; users = ws; among = all_of p ws; few = f; covered = c } }

-- the witness names that policy, and as many users, where the policies below are enforced and fewer users do not cover it
named : (p : Plan) (i : ℕ) (ws : List ℕ) → AllSatisfy p ws → length ws < (policy_at p i).least → Covered p i ws
    → ((k : ℕ) → k < i → Enforces p k) → ((us : List ℕ) → AllSatisfy p us → Covered p i us → length ws ≤ length us)
    → (w : Witness) → Witnessed p w → (w.policy ≡ i) × (w.users ≡ length ws)
named p i ws s f c below least w h = elim (cases_lt w.policy i) [
  | inl l ↦ absurd (below w.policy l (witnesses w) h.satisfies (witnesses w) (all_of p (witnesses w)) (omega (arith, h.count, h.few)) h.covered)
  | inr g ↦ elim (cases_lt i w.policy) [
    | inl l ↦ absurd (h.lowest i l ws s ws (all_of p ws) f c)
    | inr g2 ↦
        let e : w.policy ≡ i = omega arith in (
          e,
          (let a = h.fewest ws s ws (all_of p ws) (subst (λ x. Covered p x ws) (sym e) c) in
              let b = least (witnesses w) h.satisfies (subst (λ x. Covered p x (witnesses w)) e h.covered) in
              omega (arith, h.count)),
        )
  ]
]

-- ---- the four plans

three_in_seven : Within 3 7
unfolding bit
three_in_seven zero h = refl
three_in_seven (suc zero) h = refl
three_in_seven (suc (suc k)) h = absurd (omega (arith, low_member 3 2 (suc (suc k)) (lit< tt) h))

bit_3_3 : bit 3 3 ≡ 0
unfolding bit
bit_3_3 = refl

bit_5_3 : bit 5 3 ≡ 0
unfolding bit
bit_5_3 = refl

bit_2_3 : bit 2 3 ≡ 0
unfolding bit
bit_2_3 = refl

abbrev policy_zero : Policy
policy_zero = record { permissions = 3; least = 2 }

abbrev policy_one : Policy
policy_one = record { permissions = 7; least = 3 }

-- what the four plans have in common
record Shared (p : Plan) : Type 0 where
  own : Own p
  given : (k : ℕ) → k < 4 → Granted p k k
  itself' : (a : ℕ) → a < 64 → Senior p a a
  alone : (a b : ℕ) → Senior p a b → (3 ≡ a → ⊥) → a ≡ b
  two : policy_count p ≡ 2
  zeroth : policy_at p 0 ≡ policy_zero
  first : policy_at p 1 ≡ policy_one

shared : (xs : List Addition) (p : Plan) → grants xs ≡ (0, 0) ∷ (1, 1) ∷ (2, 2) ∷ (3, 3) ∷ [] → seniors xs ≡ (3, 0) ∷ [] → policies xs ≡ policy_zero ∷ policy_one ∷ [] → Means xs p → Shared p
shared xs p g s q m = record {
  own = λ b k h. own_listed b k (subst (Listed b k) g (m.grant_only b k h));
  given = λ k l. m.grant_all k k (subst (Listed k k) (sym g) (listed_own k l));
  itself' = λ a l. m.senior_all a a (itself l);
  alone = λ a b h n. stays (subst (λ ps. Reaches ps a b) s (m.senior_only a b h)) n;
  two = policies_counted xs p m ∙ ap length q;
  zeroth = policy_is xs p m 0 (omega (arith, ap length q)) ∙ ap (λ ps. get_or ps 0 (record { permissions = 0; least = 0 })) q;
  first = policy_is xs p m 1 (omega (arith, ap length q)) ∙ ap (λ ps. get_or ps 1 (record { permissions = 0; least = 0 })) q;
}

module _ (p : Plan) (o : Shared p) where
  covered_zeroth : (ws : List ℕ) → Within 3 (held_by p ws) → Covered p 0 ws
  covered_zeroth ws h = subst (λ (q : Policy). Within q.permissions (held_by p ws)) (sym o.zeroth) h

  whole_zeroth : (ws : List ℕ) → Covered p 0 ws → Within 3 (held_by p ws)
  whole_zeroth ws h = subst (λ (q : Policy). Within q.permissions (held_by p ws)) o.zeroth h

  covered_first : (ws : List ℕ) → Within 7 (held_by p ws) → Covered p 1 ws
  covered_first ws h = subst (λ (q : Policy). Within q.permissions (held_by p ws)) (sym o.first) h

  whole_first : (ws : List ℕ) → Covered p 1 ws → Within 7 (held_by p ws)
  whole_first ws h = subst (λ (q : Policy). Within q.permissions (held_by p ws)) o.first h

  somebody : (ws : List ℕ) → Covered p 0 ws → 1 ≤ length ws
  somebody [] h = none_in 0 (whole_zeroth [] h 0 bit_3_0)
  somebody (w ∷ ws) h = omega arith

  -- one user with the roles 0 and 1 breaks policy 0
  user_breaks : Satisfies p 3 → Breachable p × ((w : Witness) → Witnessed p w → (w.policy ≡ 0) × (w.users ≡ 1))
  user_breaks s =
      let c = covered_zeroth (3 ∷ []) (user_3 p o.own o.given o.itself' o.alone) in
      let f : 1 < (policy_at p 0).least = subst (λ (q : Policy). 1 < q.least) (sym o.zeroth) (lit< tt) in (
        breachable p 0 (3 ∷ []) (omega (arith, o.two)) (s, tt) f c,
        named p 0 (3 ∷ []) (s, tt) f c (λ k l. absurd (omega arith)) (λ us _ h. somebody us h),
      )

  module _ (mask : ℕ) (limited : (w : ℕ) → Satisfies p w → ones (bit_and (authorised p w) mask) < 2) where
    enforces_zeroth : Within 3 mask → Enforces p 0
    enforces_zeroth i us s ws a f c =
        let l = many p o.own o.given o.itself' o.alone mask limited 3 i ws (some_satisfy p a s) (whole_zeroth ws c) in
        let g = subst (λ (q : Policy). length ws < q.least) o.zeroth f in
        omega (arith, ones_3)

    enforces_first : Within 7 mask → Enforces p 1
    enforces_first i us s ws a f c =
        let l = many p o.own o.given o.itself' o.alone mask limited 7 i ws (some_satisfy p a s) (whole_first ws c) in
        let g = subst (λ (q : Policy). length ws < q.least) o.first f in
        omega (arith, ones_7)

-- the one constraint
module _ (roles limit : ℕ) (p : Plan) (m : Means (constrained roles limit) p) where
  abbrev parts : Shared p
  parts = shared (constrained roles limit) p refl refl refl m

  one : constraint_count p ≡ 1
  one = constraints_counted (constrained roles limit) p m

  only : constraint_at p 0 ≡ record { roles = roles; limit = limit }
  only = constraint_is (constrained roles limit) p m 0 (lit< tt)

  limited_by : (w : ℕ) → Satisfies p w → ones (bit_and (authorised p w) roles) < limit
  limited_by w s = subst (λ (c : Constraint). ones (bit_and (authorised p w) c.roles) < c.limit) only (s 0 (omega (arith, one)))

  satisfied : (w : ℕ) → bit w 3 ≡ 0 → ones (bit_and w roles) < limit → Satisfies p w
  satisfied w z f i l =
      let e : 0 ≡ i = omega (arith, one) in
      subst (λ x. ones (bit_and (authorised p w) (constraint_at p x).roles) < (constraint_at p x).limit) e
      (subst (λ (c : Constraint). ones (bit_and (authorised p w) c.roles) < c.limit) (sym only)
      (omega (arith, masked_few p parts.own parts.given parts.itself' parts.alone w roles z)))

g_accepted : Accepted plan_g
g_accepted p m b =
    let o = shared plan_g p refl refl refl m in
    let e = b.breach in
    elim (cases_eq b.policy 0) [
      | inl z ↦ (subst (Enforces p) (sym z) (enforces_zeroth p o 7 (limited_by 7 2 p m) three_in_seven)) e.assignment e.satisfies e.users e.among e.few e.covered
      | inr n ↦
          let f : 1 ≡ b.policy = omega (arith, b.numbered, o.two) in
          (subst (Enforces p) f (enforces_first p o 7 (limited_by 7 2 p m) (λ k h. h))) e.assignment e.satisfies e.users e.among e.few e.covered
    ]

g_unlimited : Refused unconstrained 0 1
g_unlimited p m = user_breaks p (shared unconstrained p refl refl refl m) (λ i l. absurd (omega (arith, constraints_counted unconstrained p m)))

g_other_limit : Refused (constrained 7 3) 0 1
g_other_limit p m = user_breaks p (shared (constrained 7 3) p refl refl refl m) (satisfied 7 3 p m 3 bit_3_3 (omega (arith, ones_3)))

such_as' : Covering (constrained 3 2) 1 (5 ∷ 2 ∷ [])
such_as' p m =
    let o = shared (constrained 3 2) p refl refl refl m in (
      (satisfied 3 2 p m 5 bit_5_3 (omega (arith, ones_1)), (satisfied 3 2 p m 2 bit_2_3 (omega (arith, ones_2)), tt)),
      covered_first p o (5 ∷ 2 ∷ []) (users_5_2 p o.own o.given o.itself' o.alone),
    )

g_other_set : Refused (constrained 3 2) 1 2
g_other_set p m =
    let o = shared (constrained 3 2) p refl refl refl m in
    let two = such_as' p m in
    let f : 2 < (policy_at p 1).least = subst (λ (q : Policy). 2 < q.least) (sym o.first) (lit< tt) in (
      breachable p 1 (5 ∷ 2 ∷ []) (omega (arith, o.two)) two.0 f two.1,
      named p 1 (5 ∷ 2 ∷ []) two.0 f two.1
          (λ k l. let z : 0 ≡ k = omega arith in subst (Enforces p) z (enforces_zeroth p o 3 (limited_by 3 2 p m) (λ j h. h)))
          (λ us s c. let l = many p o.own o.given o.itself' o.alone 3 (limited_by 3 2 p m) 3 (λ j h. h) us s (λ k h. whole_first p o us c k (three_in_seven k h)) in omega (arith, ones_3)),
    )

-- ---- the additions are accepted

-- without pairs no chain leads anywhere
nowhere : {a b : ℕ} → Reaches [] a b → a ≡ b
nowhere (itself l) = refl
nowhere (step l h r) = absurd h

none_above : Reaches [] 0 3 → ⊥
none_above r = let e = nowhere r in absurd (omega arith)

module _ (p : Plan) where
  no_cycle : (xs : List Addition) → Means xs p → seniors xs ≡ [] → rows p (add.Senior 3 0) ≡ None
  no_cycle xs m e = rw (ne_eqb (bit (get_or p.juniors 0 0) 3) 1 (λ h. none_above (subst (λ ps. Reaches ps 0 3) e (m.senior_only 0 3 h)))) refl

  policy_taken : (xs : List Addition) → Means xs p → (u k n : ℕ) → ones u ≡ n → length (policies xs) < 32 → (ltb k 2 || ltb n k || ltb 8 k) ≡ false → ltb 16 n ≡ false → rows p (add.Policy u k) ≡ None
  policy_taken xs m u k n e few a b =
      let c : leb 32 (policy_count p) ≡ false = lt-leb 32 (policy_count p) (omega (arith, policies_counted xs p m)) in
      rw (e, a, b, c) refl

  constraint_taken : (xs : List Addition) → Means xs p → (u k n : ℕ) → ones u ≡ n → length (constraints xs) < 64 → (ltb k 2 || ltb n k) ≡ false → rows p (add.Constraint u k) ≡ None
  constraint_taken xs m u k n e few a =
      let c : leb 64 (constraint_count p) ≡ false = lt-leb 64 (constraint_count p) (omega (arith, constraints_counted xs p m)) in
      rw (e, a, c) refl

taken_with : (roles limit size : ℕ) → ones roles ≡ size → (ltb limit 2 || ltb size limit) ≡ false → Taken (constrained roles limit)
taken_with roles limit size e a zero l p m = refl
taken_with roles limit size e a (suc zero) l p m = refl
taken_with roles limit size e a (suc (suc zero)) l p m = refl
taken_with roles limit size e a (suc (suc (suc zero))) l p m = refl
taken_with roles limit size e a (suc (suc (suc (suc zero)))) l p m = no_cycle p _ m refl
taken_with roles limit size e a (suc (suc (suc (suc (suc zero))))) l p m = policy_taken p _ m 3 2 2 ones_3 (lit< tt) refl refl
taken_with roles limit size e a (suc (suc (suc (suc (suc (suc zero)))))) l p m = policy_taken p _ m 7 3 3 ones_7 (lit< tt) refl refl
taken_with roles limit size e a (suc (suc (suc (suc (suc (suc (suc zero))))))) l p m = constraint_taken p _ m roles limit size e (lit< tt) a
taken_with roles limit size e a (suc (suc (suc (suc (suc (suc (suc (suc n)))))))) l p m = absurd (omega arith)

pub starred : Starred
starred = record { taken_g = taken_with 7 2 3 ones_7 refl; taken_set = taken_with 3 2 2 ones_3 refl; taken_limit = taken_with 7 3 3 ones_7 refl; accepted = g_accepted; unlimited = g_unlimited; other_set = g_other_set; such_as = such_as'; other_limit = g_other_limit }
