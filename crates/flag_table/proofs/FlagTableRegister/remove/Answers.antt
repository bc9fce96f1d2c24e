use Rattle.std.proofs.Common.{[], ◌∷◌, sym, refl, ap, ◌∙◌}
use Rattle.register.proofs.Cases as cases
use Rattle.flag_table.specs.Flags.{model_of}
use Rattle.flag_table.proofs.Marks.{outside, held, free, low, model_unmarked, spare_kept}
use Rattle.flag_table.proofs.FlagTableRegister.remove.Goals as goal

pub returns-in_default : goal.returns-in_default
returns-in_default c =
    let s = c.args.self.now in
    let m = model_of s.flags.now s.seats in
    let a = cases.remove_free m c.args.user c.args.role (cases.held_outside m c.args.user c.args.role (outside s.flags.now s.seats c.args.user c.args.role c.in_default.ensures)) in
    record { answer = sym a.answer; model = sym a.model; kept = refl }

pub returns-then-not-self-flag : goal.returns-then-not-self-flag
returns-then-not-self-flag c =
    let s = c.args.self.now in
    let m = model_of s.flags.now s.seats in
    let a = cases.remove_free m c.args.user c.args.role (cases.held_false m c.args.user c.args.role (free s.flags.now s.seats c.args.user c.args.role c.in-Some.flag c.in-Some.ensures c.if-not-self-flag.true)) in
    record { answer = sym a.answer; model = sym a.model; kept = refl }

pub returns : goal.returns
returns c =
    let s = c.args.self.now in
    let fs = s.flags.now in
    let m = model_of fs s.seats in
    let u = c.args.user in
    let r = c.args.role in
    let k = c.in-Some.flag in
    let i = c.in-Some.ensures in
    let a = cases.remove_held m u r (cases.held_true m u r (low fs s.seats u r k i) i.small (held fs s.seats u r k i c.if-not-self-flag.false)) in
    record {
      answer = sym a.answer;
      model = model_unmarked fs s.seats u r k i c.if-not-self-flag.false ∙ sym a.model;
      kept = ap (λ t. record { spare = t; lenders = s.flags.ghost_name ∷ [] }) (spare_kept fs s.seats u r k i _);
    }
