-- The first constraint that a user breaks, as a row of a table and as a relation. Assumes nothing.
use Rattle.std.proofs.Common.{◌≡◌, ℕ, Some, None, Option, MatchOption}
use Rattle.std.specs.Option.{option_map}
use Rattle.std.proofs.lemmas.Bool.{leb-false, le-leb, lt-leb}
use Rattle.terms.specs.Refusals.{when}
use Rattle.terms.specs.Firsts.{first_below}
use Rattle.terms.proofs.Firsts.{when_none, none_when, some_when, none_below, all_none, first_here}
use Rattle.plan.specs.Authority.{constraint_count, Satisfies, LowestBroken}
use Rattle.plan.specs.declared.Plan.{Plan}
use Rattle.carrying.specs.Breaking.{breaks}

-- the row of constraint c: x c, where a user with the roles w breaks it
abbrev pub breaks_row : {X : Type 0} → Plan → ℕ → (ℕ → X) → ℕ → Option X
breaks_row p w x c = when (breaks p w c) (x c)

module _ (p : Plan) (w : ℕ) where
  module _ {X : Type 0} (x : ℕ → X) where
    -- no row applies exactly where the user satisfies every constraint
    pub none_satisfies : first_below (λ c. when (breaks p w c) (x c)) (constraint_count p) ≡ None → Satisfies p w
    none_satisfies e c l = leb-false _ _ (when_none (breaks p w c) (x c) (none_below (breaks_row p w x) (constraint_count p) e c l))

    pub satisfies_none : Satisfies p w → first_below (λ c. when (breaks p w c) (x c)) (constraint_count p) ≡ None
    satisfies_none s = all_none (breaks_row p w x) (constraint_count p) (λ c l. none_when (breaks p w c) (x c) (lt-leb _ _ (s c l)))

    -- the row that applies is that of the lowest constraint that he breaks
    pub lowest_first : (c : ℕ) → LowestBroken p w c → first_below (λ c. when (breaks p w c) (x c)) (constraint_count p) ≡ Some (x c)
    lowest_first c b = first_here (breaks_row p w x) c (constraint_count p) (x c) b.numbered
        (all_none (breaks_row p w x) c (λ d l. none_when (breaks p w d) (x d) (lt-leb _ _ (b.lowest d l))))
        (some_when (breaks p w c) (x c) (le-leb _ _ b.breaks))

    -- the same, from what `Plan::broken` answers
    pub broken_first : (o : Option ℕ) → MatchOption o (Satisfies p w) (λ c. LowestBroken p w c) → first_below (λ c. when (breaks p w c) (x c)) (constraint_count p) ≡ option_map x o
    broken_first None s = satisfies_none s
    broken_first (Some c) b = lowest_first c b
