-- Flags as a word, and as rows. Assumes nothing.
use Rattle.std.proofs.Common.{◌≡◌, ℕ, zero, suc, ◌+◌, ◌*◌, ◌/◌, ◌<◌, Bool, false, cond, List, [], ◌∷◌, get_or, take, drop, sym, ap, ◌∙◌, inl, inr, arith}
use Rattle.std.proofs.lemmas.List.{get_or-drop, get_or-take, get_or_past}
use Rattle.std.proofs.lemmas.Bool.{cases_lt, lt-ltb, le-ltb}
use Rattle.terms.specs.Sets.{bit}
use Rattle.terms.proofs.Bits.{bit_zero, bit_first, bit_next}
use Rattle.register.specs.Pairs.{row}
use Rattle.flag_table.specs.Flags.{word, rows_from, users_in, flags_of, rows_of}
use Rattle.flag_table.specs.Sound.{digit, digit_two, length_from, from_at}

pub bit_word : (bs : List Bool) (k : ℕ) → bit (word bs) k ≡ digit (get_or bs k false)
unfolding word
bit_word [] k = bit_zero k
bit_word (b ∷ bs) zero = bit_first (digit b + 2 * word bs) ∙ omega (arith, digit_two b)
bit_word (b ∷ bs) (suc k) =
    let half : (digit b + 2 * word bs) / 2 ≡ word bs = omega (arith, digit_two b) in
    bit_next (digit b + 2 * word bs) k ∙ ap (λ w. bit w k) half ∙ bit_word bs k

-- each bit is a flag
pub bit_flag : (n : ℕ) (fs : List Bool) (u r : ℕ) → u < n → r < 64 → bit (row (rows_from n fs) u) r ≡ digit (get_or fs (64 * u + r) false)
bit_flag n fs u r h l =
    ap (λ w. bit w r) (from_at n fs u h)
    ∙ bit_word (take 64 (drop (64 * u) fs)) r
    ∙ ap digit (get_or-take 64 (drop (64 * u) fs) r false l ∙ get_or-drop (64 * u) fs r false)

-- ---- one user's flags
pub user_row : (fs : List Bool) (u : ℕ) → word (flags_of fs u) ≡ row (rows_of fs) u
unfolding word
user_row fs u = elim (cases_lt u (users_in fs)) [
  | inl l ↦ ap (λ b. word (cond b (take 64 (drop (64 * u) fs)) [])) (lt-ltb u (users_in fs) l) ∙ sym (from_at (users_in fs) fs u l)
  | inr g ↦ ap (λ b. word (cond b (take 64 (drop (64 * u) fs)) [])) (le-ltb u (users_in fs) g) ∙ sym (get_or_past (rows_of fs) u 0 (omega (arith, length_from (users_in fs) fs)))
]
