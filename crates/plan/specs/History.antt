-- A plan means exactly what was added to it since it was empty.
use Rattle.std.specs.Prelude.{◌≡◌, ℕ, ◌<◌, ◌⊎◌, List, [], ◌∷◌, ◌++◌, map, take, Ok, Err, Option, Result, slice_index_or}
use Rattle.std.specs.Result.{result_err}
use Rattle.std.specs.Option.{option_map}
use Rattle.terms.specs.Refusals.{Refusal}
use Rattle.plan.specs.Authority.{Senior, Granted, policies_of, constraints_of}
use Rattle.plan.specs.Refusing.{shown, senior_rows, grant_rows, policy_rows, constraint_rows}
use Rattle.plan.specs.Adding.{SeniorAdded, GrantAdded, PolicyAdded, ConstraintAdded}
use Rattle.plan.specs.declared.Plan.{Plan}
use Rattle.plan.specs.declared.Policy as policy
use Rattle.plan.specs.declared.Constraint as constraint
use Rattle.plan.specs.declared.PlanFault.{PlanFault}
use Rattle.plan.specs.declared.Addition.{Addition}
use Rattle.plan.specs.declared.Addition.TheVariants as add
use Rattle.plan.specs.declared.Entry.{Entry}

-- the rows of the call that an addition makes
abbrev pub rows : Plan → Addition → Option Refusal
rows p (add.Senior s j) = senior_rows p s j
rows p (add.Grant r m) = grant_rows r m
rows p (add.Policy w k) = policy_rows p w k
rows p (add.Constraint w t) = constraint_rows p w t

-- q is p with the addition
abbrev pub Added : Plan → Addition → Plan → Type 0
Added p (add.Senior s j) q = SeniorAdded p s j q
Added p (add.Grant r m) q = GrantAdded p r m q
Added p (add.Policy w k) q = PolicyAdded p w k q
Added p (add.Constraint w t) q = ConstraintAdded p w t q

abbrev pub additions : List Entry → List Addition
additions log = map (λ e. e.addition) log

-- an addition, if it was accepted
abbrev pub made : Addition → Result Unit PlanFault → List Addition
made a (Ok u) = a ∷ []
made a (Err f) = []

-- the accepted additions, in order
abbrev pub accepted : List Entry → List Addition
accepted [] = []
accepted (e ∷ log) = made e.addition e.answer ++ accepted log

-- the pairs of seniority among additions
abbrev pub seniors : List Addition → List (ℕ × ℕ)
seniors [] = []
seniors (add.Senior s j ∷ xs) = (s, j) ∷ seniors xs
seniors (add.Grant r m ∷ xs) = seniors xs
seniors (add.Policy w k ∷ xs) = seniors xs
seniors (add.Constraint w t ∷ xs) = seniors xs

-- the grants among them
abbrev pub grants : List Addition → List (ℕ × ℕ)
grants [] = []
grants (add.Senior s j ∷ xs) = grants xs
grants (add.Grant r m ∷ xs) = (r, m) ∷ grants xs
grants (add.Policy w k ∷ xs) = grants xs
grants (add.Constraint w t ∷ xs) = grants xs

-- the policies among them, in order
abbrev pub policies : List Addition → List policy.Policy
policies [] = []
policies (add.Senior s j ∷ xs) = policies xs
policies (add.Grant r m ∷ xs) = policies xs
policies (add.Policy w k ∷ xs) = record { permissions = w; least = k } ∷ policies xs
policies (add.Constraint w t ∷ xs) = policies xs

-- the constraints among them, in order
abbrev pub constraints : List Addition → List constraint.Constraint
constraints [] = []
constraints (add.Senior s j ∷ xs) = constraints xs
constraints (add.Grant r m ∷ xs) = constraints xs
constraints (add.Policy w k ∷ xs) = constraints xs
constraints (add.Constraint w t ∷ xs) = record { roles = w; limit = t } ∷ constraints xs

abbrev pub Listed : ℕ → ℕ → List (ℕ × ℕ) → Type 0
Listed a b [] = ⊥
Listed a b (p ∷ ps) = ((p.0 ≡ a) × (p.1 ≡ b)) ⊎ Listed a b ps

-- the reflexive and transitive closure of the pairs, over roles: a chain of pairs leads from one role to the other
pub data Reaches : List (ℕ × ℕ) → ℕ → ℕ → Type 0 where
  itself : {ps : List (ℕ × ℕ)} {a : ℕ} → a < 64 → Reaches ps a a
  step : {ps : List (ℕ × ℕ)} {a b c : ℕ} → a < 64 → Listed a b ps → Reaches ps b c → Reaches ps a c

-- the plan is exactly these additions
pub record Means (xs : List Addition) (p : Plan) : Type 0 where
  pub senior_only : (a b : ℕ) → Senior p a b → Reaches (seniors xs) a b
  pub senior_all : (a b : ℕ) → Reaches (seniors xs) a b → Senior p a b
  pub grant_only : (r m : ℕ) → Granted p r m → Listed r m (grants xs)
  pub grant_all : (r m : ℕ) → Listed r m (grants xs) → Granted p r m
  pub policies : policies_of p ≡ policies xs
  pub constraints : constraints_of p ≡ constraints xs

abbrev pub entry : List Entry → ℕ → Entry
entry log n = slice_index_or log n (record { addition = add.Senior 0 0; answer = Ok tt })

-- answer n is the one that the rows give for the plan so far: for each plan that is exactly the additions accepted before it, and there is one
pub record Answered (log : List Entry) (n : ℕ) : Type 0 where
  pub so_far : Plan
  pub means : Means (accepted (take n log)) so_far
  pub answer : (p : Plan) → Means (accepted (take n log)) p → option_map shown (result_err (entry log n).answer) ≡ rows p (entry log n).addition
