use Rattle.std.proofs.Common.{◌≡◌, ◌<◌, length, get_or, refl, inl, inr, arith}
use Rattle.std.proofs.lemmas.List.{take_rest}
use Rattle.script.proofs.Spelling.{no_unit, x_no_escape, past_no_digit}
use Rattle.script.proofs.literals.unit.Goals as goal

pub returns-in_err-hex_value-in-92 : goal.returns-in_err-hex_value-in-92
returns-in_err-hex_value-in-92 c =
    let ts = c.args.typed.now in
    rw c.from_residual.ensures (no_unit ts 0 (omega arith) (λ b. x_no_escape (get_or ts 1 0) b (omega arith)) (λ e x y h _. c.in_err-hex_value-in-92.ensures x h))

pub returns-in_err-hex_value-in-92-2 : goal.returns-in_err-hex_value-in-92-2
returns-in_err-hex_value-in-92-2 c =
    let ts = c.args.typed.now in
    rw c.from_residual-in_err-hex_value-in-92-2.ensures (no_unit ts 0 (omega arith) (λ b. x_no_escape (get_or ts 1 0) b (omega arith)) (λ e x y _ h. c.in_err-hex_value-in-92-2.ensures y h))

pub returns-in_err-escaped-in-92-2 : goal.returns-in_err-escaped-in-92-2
returns-in_err-escaped-in-92-2 c =
    let ts = c.args.typed.now in
    let e : get_or ts 0 0 ≡ 92 = grind arith in
    let f : get_or ts 1 0 ≡ 120 → length ts < 4 = λ x. grind arith in
    rw c.from_residual-in_err-escaped-in-92-2.ensures (no_unit ts 0 e c.in_err-escaped-in-92-2.ensures (λ e x y _ h. past_no_digit ts 3 y (omega (arith, f e)) h))

pub returns-in_ok-hex_value-in-92-2 : goal.returns-in_ok-hex_value-in-92-2
returns-in_ok-hex_value-in-92-2 c =
    let ts = c.args.typed.now in
    let b = c.in_ok-hex_value-in-92 in
    let d = c.in_ok-hex_value-in-92-2 in
    (4, inr (inr (omega arith, omega arith, (b.field-0, d.field-0, b.ensures, d.ensures, refl), refl)), take_rest ts 4)

pub returns-in_ok-escaped-in-92-2 : goal.returns-in_ok-escaped-in-92-2
returns-in_ok-escaped-in-92-2 c =
    let ts = c.args.typed.now in
    let e : get_or ts 0 0 ≡ 92 = grind arith in
    (2, inr (inl (e, c.in_ok-escaped-in-92-2.ensures, refl)), take_rest ts 2)

pub returns-in-32-to-126 : goal.returns-in-32-to-126
returns-in-32-to-126 c =
    let ts = c.args.typed.now in
    (1, inl ((grind arith, grind arith, grind arith, grind arith), refl, refl), take_rest ts 1)
