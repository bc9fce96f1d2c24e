-- From the fewest users to enforcement, and back. Assumes nothing.
use Rattle.std.proofs.Common.{◌≡◌, ℕ, ◌<◌, ◌≤◌, List, [], ◌∷◌, length, take, Option, sym, ap, ◌∙◌, subst, arith, MatchOption}
use Rattle.plan.specs.Authority.{policy_count, policy_at, AllSatisfy}
use Rattle.plan.specs.Enforcing.{Among, nobody, left_out, chosen, Covered, Enforces, Enforced, Breachable}
use Rattle.plan.specs.declared.Plan.{Plan}
use Rattle.plan.specs.declared.Policy.{Policy}
use Rattle.judge.specs.Search.{Covers, Fewest}
use Rattle.judge.specs.Judging.{Witnessed}
use Rattle.judge.specs.Empties.{EmptyFrom}
use Rattle.judge.specs.declared.Witness.{Witness}

module _ (p : Plan) where
  -- some of the users satisfy what all satisfy
  pub some_satisfy : {ws us : List ℕ} → Among ws us → AllSatisfy p us → AllSatisfy p ws
  some_satisfy nobody s = s
  some_satisfy (left_out a) s = some_satisfy a s.1
  some_satisfy (chosen a) s = (s.0, some_satisfy a s.1)

  pub all_of : (us : List ℕ) → Among us us
  all_of [] = nobody
  all_of (u ∷ us) = chosen (all_of us)

  pub enforces : (i : ℕ) → ((ws : List ℕ) → Covers p (policy_at p i).permissions ws → (policy_at p i).least ≤ length ws) → Enforces p i
  enforces i h us s ws a f c = let l = h ws (record { satisfy = some_satisfy a s; whole = c }) in omega arith

  -- the same, of a policy q that was read at the number i
  module _ (i : ℕ) (q : Policy) (is : q ≡ policy_at p i) where
    pub policy_most : ((ws : List ℕ) → Covers p q.permissions ws → q.least ≤ length ws) → (ws : List ℕ) → Covers p (policy_at p i).permissions ws → (policy_at p i).least ≤ length ws
    policy_most h = subst (λ (x : Policy). (ws : List ℕ) → Covers p x.permissions ws → x.least ≤ length ws) is h

    pub witnessed : (us roles : List ℕ) (n : ℕ) → n ≡ length us → take (length us) roles ≡ us → EmptyFrom roles (length us) → i < policy_count p → ((k : ℕ) → k < i → Enforces p k)
        → Fewest p q.permissions q.least us → Witnessed p (record { policy = i; users = n; roles = roles })
    witnessed us roles n e t rest low lowest f =
        let same : take n roles ≡ us = ap (λ k. take k roles) e ∙ t in
        let found : Fewest p (policy_at p i).permissions (policy_at p i).least us = subst (λ (x : Policy). Fewest p x.permissions x.least us) is f in
        record {
          policy = low;
          lowest = lowest;
          count = ap length same ∙ sym e;
          satisfies = subst (AllSatisfy p) (sym same) found.cover.satisfy;
          covered = subst (Covered p i) (sym same) found.cover.whole;
          few = omega (arith, e, found.few);
          fewest = λ all s ws a c. omega (arith, e, found.least ws (record { satisfy = some_satisfy a s; whole = c }));
          rest = subst (EmptyFrom roles) (sym e) rest;
        }

  pub unbreachable : Enforced p → Breachable p → ⊥
  unbreachable e b = e b.policy b.numbered b.breach.assignment b.breach.satisfies b.breach.users b.breach.among b.breach.few b.breach.covered

  pub breached : (w : Witness) → Witnessed p w → Breachable p
  breached w h = record {
    policy = w.policy;
    numbered = h.policy;
    breach = record { assignment = _; satisfies = h.satisfies; users = _; among = all_of _; few = omega (arith, h.count, h.few); covered = h.covered };
  }

-- the answer is about the plan that was surveyed
pub answer_of : (p p' : Plan) (o : Option Witness) → p' ≡ p → MatchOption o (Enforced p') (λ w. Witnessed p' w) → MatchOption o (Enforced p) (λ w. Witnessed p w)
answer_of p p' o e h = subst (λ (x : Plan). MatchOption o (Enforced x) (λ w. Witnessed x w)) e h
