-- What a call does to the console's state.
use Rattle.std.specs.Prelude.{◌≡◌, ℕ, List, [], ◌∷◌, ◌++◌, Ok, Err, vec_items, Result, ◌≢◌}
use Rattle.std.specs.Result.{result_err}
use Rattle.std.specs.Option.{option_map}
use Rattle.plan.specs.Authority.{authorised, held}
use Rattle.plan.specs.Enforcing.{Breachable, Enforced}
use Rattle.plan.specs.History.{rows, additions}
use Rattle.plan.specs.Refusing.{shown}
use Rattle.plan.specs.declared.Addition.{Addition}
use Rattle.plan.specs.declared.Plan.{Plan}
use Rattle.plan.specs.declared.PlanFault.{PlanFault}
use Rattle.judge.specs.Judging.{Witnessed}
use Rattle.script.specs.Listing.{Told}
use Rattle.console.specs.declared.answers.Reply.TheVariants as reply
use Rattle.console.specs.declared.answers.Refusal.TheVariants as refusal
use Rattle.console.specs.declared.calls.Call.{Call}
use Rattle.console.specs.declared.calls.Call.TheVariants as call
use Rattle.console.specs.declared.state.State.{State}
use Rattle.console.specs.Answering.{Answer, told}

-- an empty plan was begun, and the place kept
pub record Begun (s : State) (a : Answer) (t : State) : Type 0 where
  pub accepted : a ≡ Ok reply.Accepted
  pub empty : vec_items t.log ≡ []
  pub kept : t.place ≡ s.place

-- the addition was answered as its rows say of the plan that it met, and noted last in the log with that answer
pub record Logged (s : State) (x : Addition) (a : Answer) (t : State) : Type 0 where
  pub answered : Result Unit PlanFault
  pub right : option_map shown (result_err answered) ≡ rows s.plan x
  pub shows : a ≡ told answered
  pub noted : vec_items t.log ≡ vec_items s.log ++ (record { addition = x; answer = answered } ∷ [])
  pub kept : t.place ≡ s.place

-- a question was answered with this set, and nothing changed
pub record Asked (s : State) (members : ℕ) (a : Answer) (t : State) : Type 0 where
  pub shows : a ≡ Ok (reply.Set (record { set = members }))
  pub same : t ≡ s

-- the answer is right for the plan: accepted, it enforces its policies; refused, it does not, and the witness tells who could break
-- the lowest policy that is not enforced
abbrev pub Right : Plan → Answer → Type 0
Right p (Ok r) = (r ≡ reply.Accepted) × Enforced p
Right p (Err (refusal.Addition fault)) = ⊥
Right p (Err (refusal.Plan breach)) = Breachable p × Witnessed p breach.witness
Right p (Err (refusal.Text wrong)) = ⊥

-- the plan of the same additions was judged; an accepted plan is put into the place, and else the place is kept
pub record Judged (s : State) (a : Answer) (t : State) : Type 0 where
  pub same : additions (vec_items t.log) ≡ additions (vec_items s.log)
  pub right : Right t.plan a
  pub filled : a ≡ Ok reply.Accepted → t.place.plan ≡ t.plan
  pub kept : (a ≢ Ok reply.Accepted) → t.place ≡ s.place

-- the answer tells the places of the text's fields, or its first wrong record
abbrev pub Fielded : List ℕ → Answer → Type 0
Fielded text (Ok reply.Accepted) = ⊥
Fielded text (Ok (reply.Set members)) = ⊥
Fielded text (Ok (reply.Fields list)) = Told text (Ok list)
Fielded text (Err (refusal.Addition fault)) = ⊥
Fielded text (Err (refusal.Plan breach)) = ⊥
Fielded text (Err (refusal.Text wrong)) = Told text (Err wrong)

-- each call in turn
abbrev pub Performed : State → Call → Answer → State → Type 0
Performed s call.New a t = Begun s a t
Performed s (call.Add x) a t = Logged s x a t
Performed s (call.AuthorisedRoles roles) a t = Asked s (authorised s.plan roles) a t
Performed s (call.HeldPermissions roles) a t = Asked s (held s.plan roles) a t
Performed s call.Judge a t = Judged s a t
Performed s (call.Fields text) a t = Fielded (vec_items text) a × (t ≡ s)
