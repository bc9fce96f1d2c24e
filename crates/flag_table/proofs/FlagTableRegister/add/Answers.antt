use Rattle.std.proofs.Common.{◌<◌, ◌≤◌, [], ◌∷◌, sym, refl, ap, ◌∙◌, arith}
use Rattle.register.specs.Pairs.{members, pairs}
use Rattle.register.specs.Model.{seats_of}
use Rattle.register.proofs.Cases as cases
use Rattle.flag_table.specs.Flags.{model_of}
use Rattle.flag_table.proofs.Marks.{outside, held, free, low, model_marked, spare_kept}
use Rattle.flag_table.proofs.FlagTableRegister.add.Goals as goal

pub returns-in_default : goal.returns-in_default
returns-in_default c =
    let s = c.args.self.now in
    let a = cases.add_outside (model_of s.flags.now s.seats) c.args.user c.args.role (outside s.flags.now s.seats c.args.user c.args.role c.in_default.ensures) in
    record { answer = sym a.answer; model = sym a.model; kept = refl }

pub returns-then-self-flag : goal.returns-then-self-flag
returns-then-self-flag c =
    let s = c.args.self.now in
    let fs = s.flags.now in
    let m = model_of fs s.seats in
    let u = c.args.user in
    let r = c.args.role in
    let k = c.in-Some.flag in
    let i = c.in-Some.ensures in
    let a = cases.add_held m u r (cases.held_true m u r (low fs s.seats u r k i) i.small (held fs s.seats u r k i c.if-self-flag.true)) in
    record { answer = sym a.answer; model = sym a.model; kept = refl }

pub returns-then-member_count-self : goal.returns-then-member_count-self
returns-then-member_count-self c =
    let s = c.args.self.now in
    let fs = s.flags.now in
    let m = model_of fs s.seats in
    let u = c.args.user in
    let r = c.args.role in
    let k = c.in-Some.flag in
    let i = c.in-Some.ensures in
    let none = free fs s.seats u r k i c.if-self-flag.false in
    let full : seats_of m r ≤ members m.rows r = omega (arith, cases.seats_low m r i.small, c.member_count.ensures) in
    let a = cases.add_no_seat m u r (low fs s.seats u r k i) i.small none full in
    record { answer = sym a.answer; model = sym a.model; kept = refl }

pub returns-then-pair_count-user_count : goal.returns-then-pair_count-user_count
returns-then-pair_count-user_count c =
    let s = c.args.self.now in
    let fs = s.flags.now in
    let m = model_of fs s.seats in
    let u = c.args.user in
    let r = c.args.role in
    let k = c.in-Some.flag in
    let i = c.in-Some.ensures in
    let none = free fs s.seats u r k i c.if-self-flag.false in
    let seat : members m.rows r < seats_of m r = omega (arith, cases.seats_low m r i.small, c.member_count.ensures) in
    let full : m.places ≤ pairs m.rows = omega (arith, c.pair_count.ensures, c.user_count.ensures) in
    let a = cases.add_no_place m u r (low fs s.seats u r k i) i.small none seat full in
    record { answer = sym a.answer; model = sym a.model; kept = refl }

pub returns : goal.returns
returns c =
    let s = c.args.self.now in
    let fs = s.flags.now in
    let m = model_of fs s.seats in
    let u = c.args.user in
    let r = c.args.role in
    let k = c.in-Some.flag in
    let i = c.in-Some.ensures in
    let none = free fs s.seats u r k i c.if-self-flag.false in
    let seat : members m.rows r < seats_of m r = omega (arith, cases.seats_low m r i.small, c.member_count.ensures) in
    let place : pairs m.rows < m.places = omega (arith, c.pair_count.ensures, c.user_count.ensures) in
    let a = cases.add_new m u r (low fs s.seats u r k i) i.small none seat place in
    record {
      answer = sym a.answer;
      model = model_marked fs s.seats u r k i ∙ sym a.model;
      kept = ap (λ t. record { spare = t; lenders = s.flags.ghost_name ∷ [] }) (spare_kept fs s.seats u r k i _);
    }
