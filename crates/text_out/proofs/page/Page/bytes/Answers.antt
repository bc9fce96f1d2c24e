use Rattle.std.proofs.Common.{◌+◌, ◌-◌, ◌++◌, length, take, refl, ap, ◌∙◌, arith}
use Rattle.std.proofs.lemmas.Slice.{take-put_mid, drop-put_mid}
use Rattle.text_out.proofs.page.Page.bytes.Goals as goal

pub returns : goal.returns
returns c =
    let old = c.args.self.now.buffer.now in
    let now = c.copy_from_slice.new.self in
    let at = c.args.self.now.at in
    let end = at + length c.args.bytes.now in
    let put = c.copy_from_slice.ensures.after in
    let long = ap length put in
    let p = c.requires.fits in
    record {
      same = refl;
      put = record {
        ends = refl;
        front = take-put_mid at (end - at) old now end (omega arith) (omega arith) ∙ ap (λ l. take at old ++ l) put;
        back = drop-put_mid at (end - at) old now end (omega arith) (omega arith) (omega arith);
      };
    }
