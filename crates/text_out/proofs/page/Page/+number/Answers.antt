use Rattle.std.proofs.Common.{sym, arith}
use Rattle.std.proofs.lemmas.Fmt.{decimal_step}
use Rattle.text_out.proofs.Stored.{digit_one}
use Rattle.text_out.proofs.Pages.{room_is, room_first, room_then, append_is, append_then}
use Rattle.text_out.proofs.page.Page.+number.Goals.{then-n-ge10, else-n-ge10}
use Rattle.text_out.proofs.page.Page.+number.Goals as goal

pub number-requires : goal.number-requires
number-requires t c = let p = c.decreases in (omega arith, room_first _ (room_is (decimal_step c.args.n (omega arith) (omega arith)) c.requires))

pub bytes-requires : goal.bytes-requires
bytes-requires t c =
    elim c.if-n-ge10.branch [
      | then-n-ge10 w ↦ rw w.self-is (room_then (room_is (decimal_step c.args.n (omega arith) (omega arith)) c.requires) w.number.ensures)
      | else-n-ge10 w ↦ rw w.self-is (room_is (digit_one c.args.n (omega arith)) c.requires)
    ]

pub returns : goal.returns
returns t c =
    elim c.if-n-ge10.branch [
      | then-n-ge10 w ↦ append_is (sym (decimal_step c.args.n (omega arith) (omega arith))) (append_then w.number.ensures (rw w.self-is at c.bytes.ensures))
      | else-n-ge10 w ↦ append_is (sym (digit_one c.args.n (omega arith))) (rw w.self-is at c.bytes.ensures)
    ]
