use Rattle.text_out.proofs.lengths.+width.Given as goal

abbrev pub decreases-width : goal.decreases-width
decreases-width l = l.n
