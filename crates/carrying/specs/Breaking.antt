-- When a user breaks a constraint.
use Rattle.std.specs.Prelude.{ℕ, Bool, bit_and, count_ones, nat_le}
use Rattle.plan.specs.Authority.{authorised, constraint_at}
use Rattle.plan.specs.declared.Plan.{Plan}

-- a user with the assigned roles w breaks constraint c: he is authorised for as many of its roles as its limit, or more
abbrev pub breaks : Plan → ℕ → ℕ → Bool
breaks p w c = nat_le (constraint_at p c).limit (count_ones (bit_and (authorised p w) (constraint_at p c).roles))
