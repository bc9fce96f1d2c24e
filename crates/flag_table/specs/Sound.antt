-- Every table of flags is a sound register: its rows are words of 64 bits. Assumes nothing.
use Rattle.std.proofs.Common.{◌≡◌, ℕ, zero, suc, ◌+◌, ◌*◌, ◌^◌, ◌<◌, Bool, true, false, cond, List, [], ◌∷◌, length, take, drop, refl, ap, ◌∙◌, inl, inr, lt_of_lt_of_le, pow-suc, arith, pow_mono}
use Rattle.std.proofs.lemmas.Nat.{pow_pos}
use Rattle.std.proofs.lemmas.List.{get_or_past, length-take, drop-drop}
use Rattle.std.proofs.lemmas.Bool.{cases_lt}
use Rattle.register.specs.Pairs.{row}
use Rattle.register.specs.Model.{Sound}
use Rattle.register.proofs.Tables.{pairs_most}
use Rattle.flag_table.specs.Flags.{word, rows_from, users_in, rows_of, model_of}

-- a flag as a digit
abbrev pub digit : Bool → ℕ
digit b = cond b 1 0

-- a flag is one bit
pub digit_two : (b : Bool) → digit b < 2
digit_two true = omega arith
digit_two false = omega arith

-- flags are a word of as many bits
pub word_below : (bs : List Bool) → word bs < 2 ^ length bs
unfolding word
word_below [] = omega arith
word_below (b ∷ bs) = omega (arith, digit_two b, word_below bs, pow-suc 2 (length bs))

-- a user's word has 64 bits
word_wide : (fs : List Bool) → word (take 64 fs) < 2 ^ 64
word_wide fs = lt_of_lt_of_le (word_below (take 64 fs)) (pow_mono {j = 64} (omega (arith, length-take 64 fs)))

-- ---- the rows
pub length_from : (n : ℕ) (fs : List Bool) → length (rows_from n fs) ≡ n
unfolding rows_from
length_from zero fs = refl
length_from (suc n) fs = ap suc (length_from n (drop 64 fs))

-- a user's row is the word of his flags
pub from_at : (n : ℕ) (fs : List Bool) (u : ℕ) → u < n → row (rows_from n fs) u ≡ word (take 64 (drop (64 * u) fs))
unfolding rows_from
from_at zero fs u h = absurd (omega arith)
from_at (suc n) fs zero h = refl
from_at (suc n) fs (suc u) h =
    let e : 64 + 64 * u ≡ 64 * suc u = omega arith in
    from_at n (drop 64 fs) u (omega arith) ∙ ap (λ xs. word (take 64 xs)) (drop-drop (64 * u) 64 fs ∙ ap (λ k. drop k fs) e)

-- and so has 64 bits
pub from_wide : (n : ℕ) (fs : List Bool) (u : ℕ) → row (rows_from n fs) u < 2 ^ 64
from_wide n fs u = elim (cases_lt u n) [
  | inl l ↦ rw (from_at n fs u l) (word_wide (drop (64 * u) fs))
  | inr g ↦ rw (get_or_past (rows_from n fs) u 0 (rw (length_from n fs) g)) (pow_pos 64)
]

-- every table of flags is sound
pub flags_sound : (fs : List Bool) (s : ℕ) → Sound (model_of fs s)
flags_sound fs s =
    let n = length_from (users_in fs) fs in
    record { few = omega arith; wide = from_wide (users_in fs) fs; within = omega (arith, pairs_most (rows_of fs) (from_wide (users_in fs) fs)) }
