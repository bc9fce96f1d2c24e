use Rattle.std.proofs.Common.{◌≡◌, ◌*◌, [], ◌∷◌, length, sym, refl, ap, ◌∙◌, arith, rules}
use Rattle.register.proofs.Cases as cases
use Rattle.bit_rows.specs.Table.{rows_of, model_of}
use Rattle.bit_rows.proofs.Keeping.{counts_of, counts_with, no_seat, a_seat}
use Rattle.bit_rows.proofs.Words.{reads_held, reads_free, in_table, with_word, model_written, spare_kept}
use Rattle.bit_rows.proofs.BitRowsRegister.add.Goals as goal

pub returns-in_default : goal.returns-in_default
returns-in_default c =
    let a = cases.add_outside (model_of c.args.self.now.words.now) c.args.user c.args.role c.in_default.ensures in
    record { answer = sym a.answer; model = sym a.model; kept = refl }

pub returns-then-contains : goal.returns-then-contains
returns-then-contains c =
    let ws = c.args.self.now.words.now in
    let u = c.args.user in
    let r = c.args.role in
    let i = c.in-Some.ensures in
    let held = reads_held i c.contains.ensures.yes c.if-contains.true in
    let a = cases.add_held (model_of ws) u r (cases.held_true (model_of ws) u r i.low i.small held) in
    record { answer = sym a.answer; model = sym a.model; kept = refl }

pub returns-then-self-role-ge4096 : goal.returns-then-self-role-ge4096
returns-then-self-role-ge4096 c =
    let s = c.args.self.now in
    let ws = s.words.now in
    let u = c.args.user in
    let r = c.args.role in
    let i = c.in-Some.ensures in
    let free = reads_free i c.contains.ensures.no c.if-contains.false in
    let a = cases.add_no_seat (model_of ws) u r i.low i.small free (no_seat ws s.members s.pairs r (counts_of s) i.small (omega arith)) in
    record { answer = sym a.answer; model = sym a.model; kept = refl }

pub returns-then-self-places : goal.returns-then-self-places
returns-then-self-places c =
    let s = c.args.self.now in
    let ws = s.words.now in
    let u = c.args.user in
    let r = c.args.role in
    let i = c.in-Some.ensures in
    let free = reads_free i c.contains.ensures.no c.if-contains.false in
    let places : c.places.result ≡ 64 * length (rows_of ws) = c.places.ensures ∙ ap (λ t. 64 * length t) c.rows.ensures in
    let a = cases.add_no_place (model_of ws) u r i.low i.small free (a_seat ws s.members s.pairs r (counts_of s) i.small (omega arith)) (omega (arith, s.counted)) in
    record { answer = sym a.answer; model = sym a.model; kept = refl }

pub bounds-self-user : goal.bounds-self-user
bounds-self-user c = in_table c.args.self.now.words.now c.args.user c.args.role c.in-Some.row c.in-Some.ensures

pub invariant_of-self : goal.invariant_of-self
invariant_of-self c =
    let s = c.args.self.now in
    let ws = s.words.now in
    let u = c.args.user in
    let r = c.args.role in
    let i = c.in-Some.ensures in
    let free = reads_free i c.contains.ensures.no c.if-contains.false in
    let long : length s.members ≡ 64 = search rules in
    let k = counts_with (rows_of ws) s.members s.pairs u r (counts_of s) long i.low i.small free _ (with_word ws u r c.in-Some.row i c.with_member.result c.with_member.ensures) in
    record { counted = k.counted; each = k.each; wide = k.wide }

pub returns : goal.returns
returns c =
    let s = c.args.self.now in
    let ws = s.words.now in
    let u = c.args.user in
    let r = c.args.role in
    let i = c.in-Some.ensures in
    let free = reads_free i c.contains.ensures.no c.if-contains.false in
    let places : c.places.result ≡ 64 * length (rows_of ws) = c.places.ensures ∙ ap (λ t. 64 * length t) c.rows.ensures in
    let a = cases.add_new (model_of ws) u r i.low i.small free (a_seat ws s.members s.pairs r (counts_of s) i.small (omega arith)) (omega (arith, s.counted)) in
    let x = c.with_member.result in
    record {
      answer = sym a.answer;
      model = model_written ws u r c.in-Some.row i x _ (with_word ws u r c.in-Some.row i x c.with_member.ensures) ∙ sym a.model;
      kept = ap (λ t. record { spare = t; lenders = s.words.ghost_name ∷ [] }) (spare_kept ws u r c.in-Some.row i x);
    }
