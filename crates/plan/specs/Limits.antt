-- What always holds of the policies and constraints of a plan.
use Rattle.std.specs.Prelude.{ℕ, ◌<◌, ◌≤◌, List, length, count_ones, slice_index_or}
use Rattle.plan.specs.declared.Policy.{Policy}
use Rattle.plan.specs.declared.Constraint.{Constraint}

abbrev pub policy_in : List Policy → ℕ → Policy
policy_in ps i = slice_index_or ps i (record { permissions = 0; least = 0 })

abbrev pub constraint_in : List Constraint → ℕ → Constraint
constraint_in cs i = slice_index_or cs i (record { roles = 0; limit = 0 })

-- a policy asks for two people at least
abbrev pub AtLeastTwo : List Policy → Type 0
AtLeastTwo ps = (i : ℕ) → i < length ps → 2 ≤ (policy_in ps i).least

-- and for eight at most
abbrev pub AtMostEight : List Policy → Type 0
AtMostEight ps = (i : ℕ) → i < length ps → (policy_in ps i).least ≤ 8

-- and for no more than it has permissions
abbrev pub Fitting : List Policy → Type 0
Fitting ps = (i : ℕ) → i < length ps → (policy_in ps i).least ≤ count_ones (policy_in ps i).permissions

-- it has sixteen permissions at most
abbrev pub Narrow : List Policy → Type 0
Narrow ps = (i : ℕ) → i < length ps → count_ones (policy_in ps i).permissions ≤ 16

-- a constraint leaves everybody one of its roles at least
abbrev pub Limited : List Constraint → Type 0
Limited cs = (i : ℕ) → i < length cs → 2 ≤ (constraint_in cs i).limit
