-- The refusals of the calls that add to a plan: their numbers, and for each call its table, read from the top down.
use Rattle.std.specs.Prelude.{ℕ, not, ◌&&◌, ◌||◌, [], ◌∷◌, Option, ◌==◌, count_ones, nat_le, nat_lt, slice_index}
use Rattle.terms.specs.Sets.{bit}
use Rattle.terms.specs.Refusals.{Refusal, refusal, when, first_of}
use Rattle.plan.specs.Authority.{policy_count, constraint_count}
use Rattle.plan.specs.declared.Plan.{Plan}
use Rattle.plan.specs.declared.PlanFault.{PlanFault}
use Rattle.plan.specs.declared.PlanFault.TheVariants.{NoRole, NoPermission, Cycle, Limit, Wide, Full}

-- number and carried values of each fault
abbrev pub shown : PlanFault → Refusal
shown NoRole = refusal 1 []
shown NoPermission = refusal 2 []
shown Cycle = refusal 3 []
shown Limit = refusal 4 []
shown Wide = refusal 5 []
shown Full = refusal 6 []

-- senior s over j: a role above 63; they differ, and j is already senior to s
abbrev pub senior_rows : Plan → ℕ → ℕ → Option Refusal
senior_rows p s j = first_of (
    when (nat_lt 63 s || nat_lt 63 j) (refusal 1 [])
    ∷ when (not (s == j) && bit (slice_index p.juniors j) s == 1) (refusal 3 [])
    ∷ [])

-- grant to r of m: a role above 63; a permission above 63
abbrev pub grant_rows : ℕ → ℕ → Option Refusal
grant_rows r m = first_of (
    when (nat_lt 63 r) (refusal 1 [])
    ∷ when (nat_lt 63 m) (refusal 2 [])
    ∷ [])

-- policy ⟨w, k⟩: k below 2, above the set's size or above 8; more than 16 permissions; already 32 policies
abbrev pub policy_rows : Plan → ℕ → ℕ → Option Refusal
policy_rows p w k = first_of (
    when (nat_lt k 2 || nat_lt (count_ones w) k || nat_lt 8 k) (refusal 4 [])
    ∷ when (nat_lt 16 (count_ones w)) (refusal 5 [])
    ∷ when (nat_le 32 (policy_count p)) (refusal 6 [])
    ∷ [])

-- constraint ⟨w, t⟩: t below 2 or above the set's size; already 64 constraints
abbrev pub constraint_rows : Plan → ℕ → ℕ → Option Refusal
constraint_rows p w t = first_of (
    when (nat_lt t 2 || nat_lt (count_ones w) t) (refusal 4 [])
    ∷ when (nat_le 64 (constraint_count p)) (refusal 6 [])
    ∷ [])
