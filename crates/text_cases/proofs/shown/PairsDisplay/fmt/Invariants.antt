use Rattle.std.proofs.Common.{◌-◌, length}
use Rattle.text_cases.proofs.shown.PairsDisplay.fmt.Given as goal

abbrev pub decreases-loop-reader : goal.decreases-loop-reader
decreases-loop-reader g l = length l.reader.text.now - l.reader.at
