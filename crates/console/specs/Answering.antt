-- Which answer the console gives for what the service answered, and how it is printed.
use Rattle.std.specs.Prelude.{ℕ, List, ◌++◌, Ok, Err, Result, min, take, vec_items, codes, decimal}
use Rattle.std.specs.List.{flat_map}
use Rattle.script.specs.Entries.{list_text}
use Rattle.script.specs.Printing.{set_text}
use Rattle.plan.specs.declared.PlanFault.{PlanFault}
use Rattle.plan.specs.Refusing.{shown}
use Rattle.judge.specs.Judging as judging
use Rattle.console.specs.declared.answers.Reply.{Reply}
use Rattle.console.specs.declared.answers.Reply.TheVariants as reply
use Rattle.console.specs.declared.answers.Breach.{Breach}
use Rattle.console.specs.declared.answers.Refusal.{Refusal}
use Rattle.console.specs.declared.answers.Refusal.TheVariants as refusal
use Rattle.console.specs.declared.tally.Outcome.{Outcome}
use Rattle.console.specs.declared.tally.Outcome.TheVariants as outcome

-- the answer to a call
abbrev pub Answer : Type 0
Answer = Result Reply Refusal

-- the answer to an addition
abbrev pub told : Result Unit PlanFault → Answer
told (Ok u) = Ok reply.Accepted
told (Err fault) = Err (refusal.Addition fault)

-- what an answer counts as
abbrev pub counted : Answer → Outcome
counted (Ok r) = outcome.Accepted
counted (Err why) = outcome.Refused

-- how a reply is printed
abbrev pub reply_text : Reply → List ℕ
reply_text reply.Accepted = codes "accepted"
reply_text (reply.Set members) = set_text members.set
reply_text (reply.Fields list) = list_text list.records (vec_items list.places)

-- sets of roles one after the other, each after a space
abbrev pub sets_text : List ℕ → List ℕ
sets_text = flat_map (λ w. codes " " ++ set_text w)

-- why a plan is not accepted: the refusal's number, the policy, the number of users, and the roles of each;
-- the record has room for seven
abbrev pub breach_text : Breach → List ℕ
breach_text b =
    codes "refused " ++ (decimal (judging.shown b.fault).number
    ++ (codes " policy " ++ (decimal b.witness.policy
    ++ (codes " users " ++ (decimal b.witness.users
    ++ (codes " roles" ++ sets_text (take (min b.witness.users 7) b.witness.roles)))))))

-- how a refusal is printed
abbrev pub refusal_text : Refusal → List ℕ
refusal_text (refusal.Addition fault) = codes "refused " ++ decimal (shown fault).number
refusal_text (refusal.Plan breach) = breach_text breach
refusal_text (refusal.Text wrong) = codes "wrong record " ++ decimal wrong.number

-- how an answer is printed
abbrev pub answer_text : Answer → List ℕ
answer_text (Ok r) = reply_text r
answer_text (Err why) = refusal_text why
