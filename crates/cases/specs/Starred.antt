-- The worked cases of judging, as statements about every plan that means the additions named.
use Rattle.std.specs.Prelude.{◌≡◌, ℕ, ◌<◌, List, [], ◌∷◌, ◌++◌, length, take, None, slice_index_or}
use Rattle.plan.specs.Authority.{AllSatisfy}
use Rattle.plan.specs.Enforcing.{Covered, Breachable}
use Rattle.plan.specs.History.{Means, rows}
use Rattle.plan.specs.declared.Plan.{Plan}
use Rattle.plan.specs.declared.Addition.{Addition}
use Rattle.plan.specs.declared.Addition.TheVariants.{Senior, Grant, Policy, Constraint}
use Rattle.judge.specs.Judging.{Witnessed}
use Rattle.judge.specs.declared.Witness.{Witness}

-- permission n is granted to role n, for 0 to 3; role 3 is senior to role 0; policy 0 is ⟨{0, 1}, 2⟩ and policy 1 is ⟨{0, 1, 2}, 3⟩
abbrev pub unconstrained : List Addition
unconstrained = Grant 0 0 ∷ Grant 1 1 ∷ Grant 2 2 ∷ Grant 3 3 ∷ Senior 3 0 ∷ Policy 3 2 ∷ Policy 7 3 ∷ []

-- the same with one constraint: of the roles of a set, nobody is authorised for as many as the limit
abbrev pub constrained : ℕ → ℕ → List Addition
constrained roles limit = unconstrained ++ (Constraint roles limit ∷ [])

-- the plan G has the constraint ⟨{0, 1, 2}, 2⟩
abbrev pub plan_g : List Addition
plan_g = constrained 7 2

-- each addition is accepted by every plan that means those before it, so there is such a plan
abbrev pub Taken : List Addition → Type 0
Taken xs = (n : ℕ) → n < length xs → (p : Plan) → Means (take n xs) p → rows p (slice_index_or xs n (Senior 0 0)) ≡ None

-- judging accepts every plan that means the additions
abbrev pub Accepted : List Addition → Type 0
Accepted xs = (p : Plan) → Means xs p → Breachable p → ⊥

-- judging refuses it, and its witness names policy i and j users
abbrev pub Refused : List Addition → ℕ → ℕ → Type 0
Refused xs i j = (p : Plan) → Means xs p → Breachable p × ((w : Witness) → Witnessed p w → (w.policy ≡ i) × (w.users ≡ j))

-- these users, by their assigned roles, satisfy the constraints and together hold all of policy i
abbrev pub Covering : List Addition → ℕ → List ℕ → Type 0
Covering xs i ws = (p : Plan) → Means xs p → AllSatisfy p ws × Covered p i ws

pub record Starred : Type 0 where
  -- the additions of the plans are accepted, those without a constraint among them, which come first
  pub taken_g : Taken plan_g
  pub taken_set : Taken (constrained 3 2)
  pub taken_limit : Taken (constrained 7 3)
  -- G is accepted
  pub accepted : Accepted plan_g
  -- without its constraint: policy 0, one user
  pub unlimited : Refused unconstrained 0 1
  -- with ⟨{0, 1}, 2⟩ in its place: policy 1, two users, such as {0, 2} and {1}
  pub other_set : Refused (constrained 3 2) 1 2
  pub such_as : Covering (constrained 3 2) 1 (5 ∷ 2 ∷ [])
  -- with limit 3 in place of 2: policy 0, one user
  pub other_limit : Refused (constrained 7 3) 0 1
