-- What a plan means for a user, who is given by the set of his assigned roles: the roles that he is authorised for,
-- the permissions that he holds, and whether he satisfies the constraints.
use Rattle.std.specs.Prelude.{ℕ, ◌<◌, ◌≤◌, List, [], ◌∷◌, length, bit_and, bit_or, count_ones, slice_index}
use Rattle.terms.specs.Sets.{In, union}
use Rattle.terms.specs.Lists.{listed}
use Rattle.plan.specs.Order.{Over}
use Rattle.plan.specs.Limits.{policy_in, constraint_in}
use Rattle.plan.specs.declared.Plan.{Plan}
use Rattle.plan.specs.declared.Policy.{Policy}
use Rattle.plan.specs.declared.Constraint.{Constraint}

-- role a is senior to role b; every role is senior to itself
abbrev pub Senior : Plan → ℕ → ℕ → Type 0
Senior p a b = Over p.juniors a b

-- the permission m is granted to role r directly
abbrev pub Granted : Plan → ℕ → ℕ → Type 0
Granted p r m = In m (slice_index p.grants r)

-- a user with the assigned roles w is authorised for role b: one of his assigned roles is senior to it
abbrev pub AuthorisedFor : Plan → ℕ → ℕ → Type 0
AuthorisedFor p w b = (a : ℕ) × In a w × Senior p a b

-- he holds the permission m: it is granted to a role that he is authorised for
abbrev pub Holds : Plan → ℕ → ℕ → Type 0
Holds p w m = (b : ℕ) × AuthorisedFor p w b × Granted p b m

-- the set of the roles that he is authorised for
abbrev pub authorised : Plan → ℕ → ℕ
authorised p w = union p.juniors w

-- the set of the permissions that he holds
abbrev pub held : Plan → ℕ → ℕ
held p w = union p.grants (authorised p w)

-- a plan's policies and its constraints, in order
abbrev pub policies_of : Plan → List Policy
policies_of p = listed p.policies

abbrev pub constraints_of : Plan → List Constraint
constraints_of p = listed p.constraints

-- the number of a plan's policies, and the policy of a number
abbrev pub policy_count : Plan → ℕ
policy_count p = length (policies_of p)

abbrev pub policy_at : Plan → ℕ → Policy
policy_at p i = policy_in (policies_of p) i

-- the number of its constraints, and the constraint of a number
abbrev pub constraint_count : Plan → ℕ
constraint_count p = length (constraints_of p)

abbrev pub constraint_at : Plan → ℕ → Constraint
constraint_at p i = constraint_in (constraints_of p) i

-- a user with the assigned roles w satisfies every constraint: he is authorised for fewer of its roles than its limit
abbrev pub Satisfies : Plan → ℕ → Type 0
Satisfies p w = (i : ℕ) → i < constraint_count p → count_ones (bit_and (authorised p w) (constraint_at p i).roles) < (constraint_at p i).limit

-- constraint i is the lowest that he breaks
pub record LowestBroken (p : Plan) (w i : ℕ) : Type 0 where
  pub numbered : i < constraint_count p
  pub breaks : (constraint_at p i).limit ≤ count_ones (bit_and (authorised p w) (constraint_at p i).roles)
  pub lowest : (j : ℕ) → j < i → count_ones (bit_and (authorised p w) (constraint_at p j).roles) < (constraint_at p j).limit

-- every user of an assignment satisfies them all; users are given by their assigned roles
abbrev pub AllSatisfy : Plan → List ℕ → Type 0
AllSatisfy p [] = Unit {0}
AllSatisfy p (w ∷ ws) = Satisfies p w × AllSatisfy p ws

-- what users hold together
abbrev pub held_by : Plan → List ℕ → ℕ
held_by p [] = 0
held_by p (w ∷ ws) = bit_or (held p w) (held_by p ws)
