-- What a survey of a plan has.
use Rattle.std.specs.Prelude.{◌≡◌, ℕ, ◌^◌, ◌<◌, ◌⊎◌, List, slice_index}
use Rattle.terms.specs.Sets.{In}
use Rattle.plan.specs.Authority.{Granted, held, constraint_count, constraint_at}
use Rattle.plan.specs.declared.Plan.{Plan}

-- at r, what role r holds by itself
abbrev pub Gains : Plan → List ℕ → Type 0
Gains p gs = (r : ℕ) → r < 64 → slice_index gs r ≡ held p (2 ^ r)

-- u has what is granted to a role a that constraint i does not name
pub record Apart (p : Plan) (i u : ℕ) : Type 0 where
  pub covers : i < constraint_count p → (a k : ℕ) → Granted p a k → In a (constraint_at p i).roles ⊎ In k u

-- at i, what is granted to a role a that constraint i does not name
abbrev pub Outside : Plan → List ℕ → Type 0
Outside p os = (t : ℕ × ℕ × ℕ) → ((t.0 < constraint_count p) × Granted p t.1 t.2 × (In t.1 (constraint_at p t.0).roles → ⊥)) → In t.2 (slice_index os t.0)
