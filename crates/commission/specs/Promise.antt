-- What is promised of a plan that is made from a list of additions and judged into a place.
use Rattle.std.specs.Prelude.{◌≡◌, ℕ, ◌<◌, true, false, ◌↔◌, List, length, is_ok, Result}
use Rattle.plan.specs.Enforcing.{Breachable, Enforced}
use Rattle.plan.specs.History.{accepted, Means, Answered}
use Rattle.plan.specs.declared.Plan.{Plan}
use Rattle.plan.specs.declared.Entry.{Entry}
use Rattle.judge.specs.Judging.{Witnessed}
use Rattle.judge.specs.declared.JudgeFault.{JudgeFault}
use Rattle.judge.specs.declared.JudgedPlan.{JudgedPlan}
use Rattle.judge.specs.declared.Witness.{Witness}

-- log has the additions with their answers; p is the plan made, a what judging answered; the place and the witness record are told
-- before and after
pub record Promise (log : List Entry) (p : Plan) (a : Result Unit JudgeFault) (before after : JudgedPlan) (blank told : Witness) : Type 0 where
  -- each addition is answered as its rows say for the plan so far
  pub answers : (n : ℕ) → n < length log → Answered log n
  -- the plan means exactly the accepted additions
  pub means : Means (accepted log) p
  -- it is refused exactly when some assignment satisfies its constraints yet covers a policy with too few users
  pub exactly : is_ok a ≡ false ↔ Breachable p
  -- accepted: the place holds that plan, which enforces all its policies, and the record is as it was
  pub filled : is_ok a ≡ true → after.plan ≡ p
  pub enforced : is_ok a ≡ true → Enforced p
  pub unwritten : is_ok a ≡ true → told ≡ blank
  -- refused: the place is as it was, and the record tells who could break the lowest policy that is not enforced
  pub kept : is_ok a ≡ false → after ≡ before
  pub witnessed : is_ok a ≡ false → Witnessed p told
