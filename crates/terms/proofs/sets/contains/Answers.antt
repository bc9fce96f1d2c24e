use Rattle.std.proofs.Common.{sym, ◌∙◌, arith}
use Rattle.std.proofs.lemmas.Nat.{and_mask}
use Rattle.std.proofs.lemmas.Bool.{eqb-true, eq-eqb, ltb-true}
use Rattle.terms.specs.Sets.{bit}
use Rattle.terms.proofs.Bits.{bit_high}
use Rattle.terms.proofs.sets.contains.Goals as goal

pub returns-then-number-lt64 : goal.returns-then-number-lt64
unfolding bit
returns-then-number-lt64 c = record {
  yes = λ e. sym (and_mask _ 1) ∙ eqb-true _ _ e;
  no = λ h. eq-eqb _ _ (and_mask _ 1 ∙ h);
}

pub returns-else-number-lt64 : goal.returns-else-number-lt64
returns-else-number-lt64 c = record {
  yes = λ e. absurd (omega (arith, ltb-true _ _ e));
  no = λ h. absurd (omega (arith, bit_high c.args.members 64 c.args.number c.ranges.members.fits c.if-number-lt64.false));
}
