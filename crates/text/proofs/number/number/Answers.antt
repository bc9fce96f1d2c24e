use Rattle.std.proofs.Common.{arith, tests, rules, get_or, ⊎_elim}
use Rattle.text.specs.Numbers.{Digit}
use Rattle.text.proofs.Digits.{digits_at, digits_more, value_more, power_more, power_up, room}
use Rattle.text.proofs.number.number.Goals as goal

pub returns-then-not-is_ascii_digit-clause-value : goal.returns-then-not-is_ascii_digit-clause-value
returns-then-not-is_ascii_digit-clause-value c = λ s.
    let d = digits_at c.args.bytes.now c.loop-b.b-index s.digits (omega arith) in
    let n = c.if-not-is_ascii_digit.ensures in
    ⊎_elim (λ w. omega (arith, d, w)) (λ w. omega (arith, d, w)) n.cases

pub overflow_mul-n : goal.overflow_mul-n
overflow_mul-n c = omega (arith, room c.loop-b.n c.loop-b.b-index c.loop-b.invariant.2 (omega (arith, c.loop-b.invariant.3)))

pub overflow_add-n : goal.overflow_add-n
overflow_add-n c =
    let d : Digit (get_or c.args.bytes.now c.loop-b.b-index 0) = search (rules, tests) in
    omega (arith, c.from.ensures, room c.loop-b.n c.loop-b.b-index c.loop-b.invariant.2 (omega (arith, c.loop-b.invariant.3)))

pub loop-b-preserved : goal.loop-b-preserved
loop-b-preserved c =
    let d : Digit (get_or c.args.bytes.now c.loop-b.b-index 0) = search (rules, tests) in
    let v = value_more c.args.bytes.now c.loop-b.b-index (omega arith) in
    let e = c.from.ensures in
    let i = c.loop-b.invariant.1 in (
      digits_more c.args.bytes.now c.loop-b.b-index (omega arith) c.loop-b.invariant.0 d,
      omega arith,
      power_more c.loop-b.n c.loop-b.b-index c.from.result c.loop-b.invariant.2 (omega arith),
      omega arith,
    )

pub returns-clause-bound : goal.returns-clause-bound
returns-clause-bound c = power_up c.loop-b.n c.loop-b.b-index _ c.loop-b.invariant.2 (omega (arith, c.min.ensures))
