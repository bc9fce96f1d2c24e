-- The rows of a table of words: how many, and what a write does to them. Assumes nothing.
use Rattle.std.proofs.Common.{◌≡◌, ℕ, ◌*◌, ◌%◌, ◌^◌, ◌<◌, min, Bool, true, false, cond, ltb, List, ◌++◌, length, get_or, take, drop, set, replicate, sym, ap, ◌∙◌, inl, inr, arith, drop-set-lt, length-append, length-drop}
use lib.Bits.{bit_or, bit_xor}
use lib.Seq.{take-set-lt}
use Rattle.std.proofs.lemmas.Nat.{pow_pos, one_shl}
use Rattle.std.proofs.lemmas.List.{get_or_past, length-take, length-set, length-replicate, take-append-le, take_all}
use Rattle.std.proofs.lemmas.Slice.{drop-append-drop}
use Rattle.std.proofs.lemmas.Bool.{cases_lt, cond-true, lt-ltb}
use Rattle.terms.specs.Sets.{In}
use Rattle.register.specs.Pairs.{row, Has, with_pair, less_pair}
use Rattle.register.proofs.Cases.{read_held, read_free}
use Rattle.register.specs.Model.{with_rows}
use Rattle.bit_rows.specs.Table.{rows_of, model_of, Inside}

pub length_rows : (ws : List ℕ) → length (rows_of ws) ≡ min 4096 (length ws)
unfolding rows_of
length_rows ws = length-take 4096 ws

-- as many words as there are users are the rows
pub rows_are : (ws : List ℕ) (n : ℕ) → n ≡ min (length ws) 4096 → take n ws ≡ rows_of ws
unfolding rows_of
rows_are ws n e = elim (cases_lt (length ws) 4096) [
  | inl l ↦ take_all n ws (omega arith) ∙ sym (take_all 4096 ws (omega arith))
  | inr g ↦ let f : n ≡ 4096 = omega arith in ap (λ k. take k ws) f
]

-- where every word of a table fits, every row does
pub all_wide : (ws : List ℕ) → ((k : ℕ) → k < length ws → get_or ws k 0 < 2 ^ 64) → (u : ℕ) → row ws u < 2 ^ 64
all_wide ws h u = elim (cases_lt u (length ws)) [ inl l ↦ h u l | inr g ↦ rw (get_or_past ws u 0 g) (pow_pos 64) ]

-- the words in use are overwritten by zeros
module _ (ws zeros : List ℕ) (n : ℕ) (e : n ≡ min (length ws) 4096) (z : zeros ≡ replicate (length (take n ws)) 0) where
  long : length zeros ≡ n
  long = ap (λ (x : List ℕ). length x) z ∙ length-replicate (length (take n ws)) 0 ∙ omega (arith, length-take n ws)

  pub emptied_rows : rows_of (zeros ++ drop n ws) ≡ replicate (length (rows_of ws)) 0
  emptied_rows =
      sym (rows_are (zeros ++ drop n ws) n (omega (arith, long, length-append zeros (drop n ws), length-drop n ws)))
      ∙ take-append-le n zeros (drop n ws) (omega (arith, long))
      ∙ take_all n zeros (omega (arith, long))
      ∙ z
      ∙ ap (λ (x : List ℕ). replicate (length x) 0) (rows_are ws n e)

  pub emptied_spare : drop 4096 (zeros ++ drop n ws) ≡ drop 4096 ws
  emptied_spare = drop-append-drop n ws zeros 4096 (omega arith) long

-- as many other rows are the register with other rows
pub model_with : (ws vs t : List ℕ) → rows_of vs ≡ t → length t ≡ length (rows_of ws) → model_of vs ≡ with_rows (model_of ws) t
model_with ws vs t e n = λ i. record { rows = e i; places = (ap (λ x. 64 * length x) e ∙ ap (λ k. 64 * k) n) i; seats = λ _. 4096 }

-- ---- what the word read says of the pair
pub reads_held : {ws : List ℕ} {u r w : ℕ} {b : Bool} → Inside ws u r w → (b ≡ true → In r w) → b ≡ true → Has (rows_of ws) u r
reads_held {ws = ws} {u = u} i told on = read_held (rows_of ws) u _ _ _ i.same told on

pub reads_free : {ws : List ℕ} {u r w : ℕ} {b : Bool} → Inside ws u r w → (In r w → b ≡ true) → b ≡ false → Has (rows_of ws) u r → ⊥
reads_free {ws = ws} {u = u} i told off = read_free (rows_of ws) u _ _ _ i.same told off

-- ---- a word is written, where there is a pair of the user and the role
module _ (ws : List ℕ) (u r w : ℕ) (i : Inside ws u r w) where
  first : u < 4096
  first = omega (arith, i.low, length_rows ws)

  pub in_table : u < length ws
  in_table = omega (arith, i.low, length_rows ws)

  written : (x y : ℕ) → x ≡ y → rows_of (set ws u x) ≡ set (rows_of ws) u y
  unfolding rows_of
  written x y e = take-set-lt 4096 ws u x first ∙ ap (set (take 4096 ws) u) e

  pub with_word : (x : ℕ) → x ≡ cond (ltb r 64) (bit_or w (2 ^ r)) w → rows_of (set ws u x) ≡ with_pair (rows_of ws) u r
  with_word x e = written x _ (e ∙ cond-true _ _ _ (lt-ltb r 64 i.small) ∙ ap (λ y. bit_or y (2 ^ r)) i.same)

  pub less_word : rows_of (set ws u (bit_xor w ((1 * 2 ^ r) % 2 ^ 64))) ≡ less_pair (rows_of ws) u r
  less_word = written _ _ (ap (bit_xor w) (one_shl r 64 i.small) ∙ ap (λ y. bit_xor y (2 ^ r)) i.same)

  pub model_written : (x y : ℕ) → rows_of (set ws u x) ≡ set (rows_of ws) u y → model_of (set ws u x) ≡ with_rows (model_of ws) (set (rows_of ws) u y)
  model_written x y e = model_with ws (set ws u x) (set (rows_of ws) u y) e (length-set (rows_of ws) u y)

  pub spare_kept : (x : ℕ) → drop 4096 (set ws u x) ≡ drop 4096 ws
  spare_kept x = drop-set-lt 4096 ws u x first
