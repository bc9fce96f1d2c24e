-- What an accepted addition makes of a plan p: the plan q has it, and all else of p as it was.
use Rattle.std.specs.Prelude.{◌≡◌, ℕ, ◌^◌, ◌<◌, ◌⊎◌, [], ◌∷◌, ◌++◌, length, bit_or, slice_index, slice_set}
use Rattle.plan.specs.Authority.{Senior, policies_of, constraints_of}
use Rattle.plan.specs.declared.Plan.{Plan}

-- s is senior to j, with what follows from it, and nothing more
pub record SeniorAdded (p : Plan) (s j : ℕ) (q : Plan) : Type 0 where
  pub senior : s < 64
  pub junior : j < 64
  pub keeps : (a b : ℕ) → Senior p a b → Senior q a b
  pub gains : (a b : ℕ) → Senior p a s → Senior p j b → Senior q a b
  pub only : (a b : ℕ) → Senior q a b → Senior p a b ⊎ (Senior p a s × Senior p j b)
  pub grants : q.grants ≡ p.grants
  pub policies : q.policies ≡ p.policies
  pub constraints : q.constraints ≡ p.constraints

-- role r is granted m
pub record GrantAdded (p : Plan) (r m : ℕ) (q : Plan) : Type 0 where
  pub role : r < length p.grants
  pub permission : m < 64
  pub grants : q.grants ≡ slice_set p.grants r (bit_or (slice_index p.grants r) (2 ^ m))
  pub juniors : q.juniors ≡ p.juniors
  pub policies : q.policies ≡ p.policies
  pub constraints : q.constraints ≡ p.constraints

-- the policy ⟨w, k⟩ comes after the others
pub record PolicyAdded (p : Plan) (w k : ℕ) (q : Plan) : Type 0 where
  pub policies : policies_of q ≡ policies_of p ++ (record { permissions = w; least = k } ∷ [])
  pub grants : q.grants ≡ p.grants
  pub juniors : q.juniors ≡ p.juniors
  pub constraints : q.constraints ≡ p.constraints

-- the constraint ⟨w, t⟩ comes after the others
pub record ConstraintAdded (p : Plan) (w t : ℕ) (q : Plan) : Type 0 where
  pub constraints : constraints_of q ≡ constraints_of p ++ (record { roles = w; limit = t } ∷ [])
  pub grants : q.grants ≡ p.grants
  pub juniors : q.juniors ≡ p.juniors
  pub policies : q.policies ≡ p.policies
