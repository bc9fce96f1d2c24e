-- What judging answers, and what the witness of a refused plan shows.
use Rattle.std.specs.Prelude.{◌≡◌, ℕ, ◌<◌, ◌≤◌, List, [], length, take}
use Rattle.terms.specs.Refusals.{Refusal, refusal}
use Rattle.plan.specs.Authority.{policy_count, policy_at, AllSatisfy}
use Rattle.plan.specs.Enforcing.{Among, Covered, Enforces}
use Rattle.plan.specs.declared.Plan.{Plan}
use Rattle.judge.specs.Empties.{EmptyFrom}
use Rattle.judge.specs.declared.JudgeFault.{JudgeFault}
use Rattle.judge.specs.declared.JudgeFault.TheVariants.{Unenforced}
use Rattle.judge.specs.declared.Witness.{Witness}

-- number and carried values of each fault; what refusal 7 carries is the witness
abbrev pub shown : JudgeFault → Refusal
shown Unenforced = refusal 7 []

-- the assigned roles of the witness's users
abbrev pub witnesses : Witness → List ℕ
witnesses w = take w.users w.roles

-- The witness names the lowest policy that is not enforced. Its users satisfy the constraints, are fewer than the policy asks for,
-- and together hold all of it; no users of any assignment that satisfies the constraints cover it who are fewer. The sets after
-- theirs are empty.
pub record Witnessed (p : Plan) (w : Witness) : Type 0 where
  pub policy : w.policy < policy_count p
  pub lowest : (i : ℕ) → i < w.policy → Enforces p i
  pub count : length (witnesses w) ≡ w.users
  pub satisfies : AllSatisfy p (witnesses w)
  pub covered : Covered p w.policy (witnesses w)
  pub few : w.users < (policy_at p w.policy).least
  pub fewest : (us : List ℕ) → AllSatisfy p us → (ws : List ℕ) → Among ws us → Covered p w.policy ws → w.users ≤ length ws
  pub rest : EmptyFrom w.roles w.users
