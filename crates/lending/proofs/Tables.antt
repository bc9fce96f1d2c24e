-- A table is its rows and what lies past them. Assumes nothing.
use Rattle.std.proofs.Common.{◌≡◌, ℕ, List, ◌++◌, length, drop, replicate, sym, ap, ◌∙◌}
use Rattle.std.proofs.lemmas.List.{take-append-drop, length-replicate}
use Rattle.register.specs.Changes.{cleared}
use Rattle.register.specs.Layer.{seated}
use Rattle.register.specs.Model.{Model, with_rows}
use Rattle.bit_rows.specs.Table.{rows_of}
use Rattle.lending.specs.Whole.{whole}

pub table_is : (before after back : List ℕ) (m : Model) → back ≡ after → rows_of after ≡ m.rows → drop 4096 after ≡ drop 4096 before → back ≡ whole m before
unfolding rows_of
table_is before after back m e rows spare =
    e ∙ sym (take-append-drop 4096 after) ∙ ap (λ t. t ++ drop 4096 after) rows ∙ ap (λ t. m.rows ++ t) spare

-- a register that is emptied twice, with a layer in between, is emptied
pub cleared_again : (own : List ℕ) (m : Model) → cleared (seated own (cleared m)) ≡ seated own (cleared m)
cleared_again own m = ap (λ n. seated own (with_rows m (replicate n 0))) (length-replicate (length m.rows) 0)
