use Rattle.std.proofs.Common.{◌≡◌, ◌*◌, ◌%◌, ◌^◌, [], ◌∷◌, length, sym, refl, ap, ◌∙◌, rules}
use lib.Bits.{bit_xor}
use Rattle.register.proofs.Cases as cases
use Rattle.bit_rows.specs.Table.{rows_of, model_of}
use Rattle.bit_rows.proofs.Keeping.{counts_of, counts_less, some_pair}
use Rattle.bit_rows.proofs.Words.{reads_held, reads_free, in_table, less_word, model_written, spare_kept}
use Rattle.bit_rows.proofs.BitRowsRegister.remove.Goals as goal

pub returns-in_default : goal.returns-in_default
returns-in_default c =
    let m = model_of c.args.self.now.words.now in
    let a = cases.remove_free m c.args.user c.args.role (cases.held_outside m c.args.user c.args.role c.in_default.ensures) in
    record { answer = sym a.answer; model = sym a.model; kept = refl }

pub returns-then-not-contains : goal.returns-then-not-contains
returns-then-not-contains c =
    let ws = c.args.self.now.words.now in
    let u = c.args.user in
    let r = c.args.role in
    let i = c.in-Some.ensures in
    let free = reads_free i c.contains.ensures.no c.if-not-contains.true in
    let a = cases.remove_free (model_of ws) u r (cases.held_false (model_of ws) u r free) in
    record { answer = sym a.answer; model = sym a.model; kept = refl }

pub bounds-self-user : goal.bounds-self-user
bounds-self-user c = in_table c.args.self.now.words.now c.args.user c.args.role c.in-Some.row c.in-Some.ensures

pub overflow_sub-self-2 : goal.overflow_sub-self-2
overflow_sub-self-2 c =
    let s = c.args.self.now in
    let ws = s.words.now in
    let u = c.args.user in
    let r = c.args.role in
    let i = c.in-Some.ensures in
    let held = reads_held i c.contains.ensures.yes c.if-not-contains.false in
    some_pair (rows_of ws) s.members s.pairs u r (counts_of s) (search rules) i.low i.small held

pub invariant_of-self : goal.invariant_of-self
invariant_of-self c =
    let s = c.args.self.now in
    let ws = s.words.now in
    let u = c.args.user in
    let r = c.args.role in
    let i = c.in-Some.ensures in
    let held = reads_held i c.contains.ensures.yes c.if-not-contains.false in
    let long : length s.members ≡ 64 = search rules in
    let k = counts_less (rows_of ws) s.members s.pairs u r (counts_of s) long i.low i.small held _ (less_word ws u r c.in-Some.row i) in
    record { counted = k.counted; each = k.each; wide = k.wide }

pub returns : goal.returns
returns c =
    let s = c.args.self.now in
    let ws = s.words.now in
    let u = c.args.user in
    let r = c.args.role in
    let i = c.in-Some.ensures in
    let held = reads_held i c.contains.ensures.yes c.if-not-contains.false in
    let a = cases.remove_held (model_of ws) u r (cases.held_true (model_of ws) u r i.low i.small held) in
    let x = bit_xor c.in-Some.row ((1 * 2 ^ r) % 2 ^ 64) in
    record {
      answer = sym a.answer;
      model = model_written ws u r c.in-Some.row i x _ (less_word ws u r c.in-Some.row i) ∙ sym a.model;
      kept = ap (λ t. record { spare = t; lenders = s.words.ghost_name ∷ [] }) (spare_kept ws u r c.in-Some.row i x);
    }
