-- The first of several rows that applies, where the rows are numbered from 0.
use Rattle.std.specs.Prelude.{ℕ, zero, suc, None, Option}
use Rattle.terms.specs.Refusals.{or_else}

-- the first of f 0, f 1, and so on below n that is something
unfoldable pub first_below : {X : Type 0} → (ℕ → Option X) → ℕ → Option X
first_below f zero = None
first_below f (suc n) = or_else (first_below f n) (f n)
