-- The whole content of a lent table after a change of its rows, and an emptied register under two layers.
use Rattle.std.specs.Prelude.{ℕ, List, ◌++◌, drop}
use Rattle.register.specs.Changes.{cleared}
use Rattle.register.specs.Layer.{seated}
use Rattle.register.specs.Model.{Model}

-- the rows of the register, and past them the words that were there before
abbrev pub whole : Model → List ℕ → List ℕ
whole m before = m.rows ++ drop 4096 before

-- the register when it is emptied, under an inner and an outer layer of seats
abbrev pub twice_seated : List ℕ → List ℕ → Model → Model
twice_seated inner outer m = seated outer (seated inner (cleared m))
