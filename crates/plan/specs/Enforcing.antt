-- When an assignment is safe for a policy, and when a plan's constraints enforce it. An assignment is a list of users, as many as
-- one likes, each by the set of his assigned roles.
use Rattle.std.specs.Prelude.{ℕ, ◌<◌, List, [], ◌∷◌, length}
use Rattle.terms.specs.Sets.{Within}
use Rattle.plan.specs.Authority.{policy_count, policy_at, AllSatisfy, held_by}
use Rattle.plan.specs.declared.Plan.{Plan}

-- ws are some of the users us
pub data Among : List ℕ → List ℕ → Type 0 where
  nobody : Among [] []
  left_out : {u : ℕ} {ws us : List ℕ} → Among ws us → Among ws (u ∷ us)
  chosen : {u : ℕ} {ws us : List ℕ} → Among ws us → Among (u ∷ ws) (u ∷ us)

-- the users ws together hold all of policy i
abbrev pub Covered : Plan → ℕ → List ℕ → Type 0
Covered p i ws = Within (policy_at p i).permissions (held_by p ws)

-- the assignment is safe for policy i: no k − 1 of its users, and no fewer, together hold all of it
abbrev pub Safe : Plan → ℕ → List ℕ → Type 0
Safe p i us = (ws : List ℕ) → Among ws us → length ws < (policy_at p i).least → Covered p i ws → ⊥

-- the constraints enforce policy i: every assignment that satisfies them all is safe for it
abbrev pub Enforces : Plan → ℕ → Type 0
Enforces p i = (us : List ℕ) → AllSatisfy p us → Safe p i us

-- they enforce every policy
abbrev pub Enforced : Plan → Type 0
Enforced p = (i : ℕ) → i < policy_count p → Enforces p i

-- an assignment that satisfies all constraints, yet covers policy i with at most k − 1 users
pub record Breach (p : Plan) (i : ℕ) : Type 0 where
  pub assignment : List ℕ
  pub satisfies : AllSatisfy p assignment
  pub users : List ℕ
  pub among : Among users assignment
  pub few : length users < (policy_at p i).least
  pub covered : Covered p i users

-- some policy of the plan can be breached
pub record Breachable (p : Plan) : Type 0 where
  pub policy : ℕ
  pub numbered : policy < policy_count p
  pub breach : Breach p policy
