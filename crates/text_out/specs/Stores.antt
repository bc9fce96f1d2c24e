-- What a store leaves in a buffer.
use Rattle.std.specs.Prelude.{◌≡◌, ℕ, ◌+◌, ◌^◌, ◌<◌, ◌≤◌, List, ◌++◌, length, take, drop, Some, None, Ok, Err, Option, Result}
use Rattle.text_out.specs.declared.WriteFault.{WriteFault}
use Rattle.text_out.specs.declared.WriteFault.TheVariants.{TooShort}

-- the text stands in the buffer from `at` to `end`; what is before and after it is unchanged
pub record Put (old : List ℕ) (at : ℕ) (text : List ℕ) (end : ℕ) (new : List ℕ) : Type 0 where
  pub ends : end ≡ at + length text
  pub front : take end new ≡ take at old ++ text
  pub back : drop end new ≡ drop end old

-- a store of the text at `at`: it is put whole, or the buffer is too short for it and unchanged
abbrev pub Stored : List ℕ → ℕ → List ℕ → Result ℕ WriteFault → List ℕ → Type 0
Stored old at text (Ok end) new = Put old at text end new × (end ≤ length old)
Stored old at text (Err TooShort) new = (length old < at + length text) × (new ≡ old)

-- the length of the text, or none where no buffer holds it
abbrev pub Measured : List ℕ → Option ℕ → Type 0
Measured text (Some n) = n ≡ length text
Measured text None = 2 ^ 64 ≤ length text

-- the length with the text after it, or none where no buffer holds that many
abbrev pub Lengthened : ℕ → List ℕ → Option ℕ → Type 0
Lengthened len text (Some n) = n ≡ len + length text
Lengthened len text None = 2 ^ 64 ≤ len + length text

-- the text of that length goes into a buffer of this size from `at` on, or the buffer is too short for it
abbrev pub Fits : Option ℕ → ℕ → ℕ → Result (Unit {0}) WriteFault → Type 0
Fits (Some n) at size (Ok _) = at + n ≤ size
Fits None at size (Ok _) = ⊥
Fits (Some n) at size (Err TooShort) = size < at + n
Fits None at size (Err TooShort) = Unit {0}
