use Rattle.std.proofs.Common.{◌≡◌, ℕ, is_ok, refl, ap, ◌∙◌, arith}
use Rattle.console.proofs.Noting.{same_additions, means_anew}
use Rattle.console.proofs.state.State.judge.Goals as goal

pub invariant_of-self : goal.invariant_of-self
invariant_of-self c =
    let j = c.commission-judgement in record { written = means_anew c.args.self.now.log j.new.log (j.auto.log ∙ c.as_mut_slice.ensures.len) j.result.plan j.ensures.promise.means }

pub returns-in-Ok : goal.returns-in-Ok
returns-in-Ok c =
    let j = c.commission-judgement in
    let ok : is_ok j.result.answer ≡ _ = ap is_ok c.in-Ok.is in
    record {
      same = same_additions c.args.self.now.log j.new.log (j.auto.log ∙ c.as_mut_slice.ensures.len) c.as_mut_slice.result.now j.ensures.additions c.as_mut_slice.ensures.value;
      right = (refl, j.ensures.promise.enforced ok);
      filled = λ _. j.ensures.promise.filled ok;
      kept = λ no. absurd (no refl);
    }

pub returns-in-Err : goal.returns-in-Err
returns-in-Err c =
    let j = c.commission-judgement in
    let failed : is_ok j.result.answer ≡ _ = ap is_ok c.in-Err.is in
    record {
      same = same_additions c.args.self.now.log j.new.log (j.auto.log ∙ c.as_mut_slice.ensures.len) c.as_mut_slice.result.now j.ensures.additions c.as_mut_slice.ensures.value;
      right = (j.ensures.promise.exactly.0 failed, j.ensures.promise.witnessed failed);
      filled = λ e. let z : ◌≡◌ {A = ℕ} 0 1 = cc in absurd (omega arith);
      kept = λ _. j.ensures.promise.kept failed;
    }
