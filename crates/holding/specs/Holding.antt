-- One user who holds a set of permissions.
use Rattle.std.specs.Prelude.{ℕ}
use Rattle.terms.specs.Sets.{Within}
use Rattle.plan.specs.Authority.{held, Satisfies}
use Rattle.plan.specs.declared.Plan.{Plan}

-- a user with the assigned roles w satisfies the constraints and holds all of `wanted`
pub record HeldWith (p : Plan) (wanted w : ℕ) : Type 0 where
  pub satisfies : Satisfies p w
  pub holds : Within wanted (held p w)
