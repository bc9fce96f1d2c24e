-- Setting and taking away flags, reading a row from its last flag back, and counting flags. Assumes nothing.
use Rattle.std.proofs.Common.{◌≡◌, ℕ, ◌+◌, ◌*◌, ◌/◌, ◌%◌, ◌^◌, ◌<◌, ◌≤◌, min, Bool, Bor, Option, Some, fold, true, false, ◌⊎◌, List, [], ◌∷◌, ◌++◌, zero, suc, map, length, get_or, take, drop, set, replicate, reverse, count_by, refl, sym, ap, ◌∙◌, subst, inl, inr, arith, lt_of_lt_of_le, pow_mono, drop-set-lt, length-append, length-drop}
use Rattle.std.specs.List.{slice_get}
use Rattle.std.specs.Iterator.Runs.{Run, YieldsRun, IsChunksExactRun}
use Rattle.std.proofs.lemmas.Option.{MatchOption-at_some, slice_get_within}
use lib.Bits.{bit_or, bit_xor, or_lt, xor_lt}
use lib.Count.{ones, ones_step}
use Rattle.std.proofs.Math.Seq.{take-add}
use Rattle.std.proofs.lemmas.List.Sums.{sum_by-cons, sum_by-append, fold_push}
use Rattle.terms.proofs.Sizes.{ones_none}
use Rattle.std.proofs.lemmas.Nat.{pow_pos, pow_below, or_shifted}
use Rattle.std.proofs.lemmas.List.{reverse-append, get_or-set_same, get_or-set_other, get_or_append_left, get_or-replicate, get_or-take, get_or-drop, length-take, length-set, length-replicate}
use Rattle.std.proofs.lemmas.Slice.{drop-append-drop}
use Rattle.std.proofs.lemmas.Bool.{cases_eq}
use Rattle.terms.specs.Sets.{bit}
use Rattle.terms.proofs.Bits.{bit_zero}
use Rattle.register.specs.Pairs.{row, Has, pairs, having, members, with_pair, less_pair, emptied}
use Rattle.register.proofs.Cases.{members_low}
use Rattle.register.specs.Model.{users_of, with_rows}
use Rattle.register.proofs.Tables.{each_row, same_rows, none_row, none_members, pairs_most}
use Rattle.register.proofs.Tables as t
use Rattle.flag_table.specs.Flags.{word, rows_from, users_in, rows_of, in_use, model_of, spare_of, Inside, Outside}
use Rattle.flag_table.specs.Sound.{digit, digit_two, word_below, length_from, from_wide}
use Rattle.flag_table.proofs.Words.{bit_flag}

-- ---- as many flags, with other rows
users_same : (fs gs : List Bool) → length gs ≡ length fs → users_in gs ≡ users_in fs
users_same fs gs e = ap (λ k. min (k / 64) 4096) e

pub model_with : (fs gs : List Bool) (s : ℕ) (t : List ℕ) → length gs ≡ length fs → rows_from (users_in fs) gs ≡ t → model_of gs s ≡ with_rows (model_of fs s) t
model_with fs gs s t e f =
    let n = users_same fs gs e in
    λ i. record { rows = (ap (λ k. rows_from k gs) n ∙ f) i; places = 64 * n i; seats = λ _. s }

pub spare_same : (fs gs : List Bool) → length gs ≡ length fs → drop (64 * users_in fs) gs ≡ drop (64 * users_in fs) fs → spare_of gs ≡ spare_of fs
spare_same fs gs e f = ap (λ k. map digit (drop (64 * k) gs)) (users_same fs gs e) ∙ ap (map digit) f

-- ---- one flag, that of user u and role r
module _ (n : ℕ) (fs : List Bool) (u r : ℕ) (low : u < n) (small : r < 64) (room : 64 * n ≤ length fs) where
  here : (b : Bool) → bit (row (rows_from n (set fs (64 * u + r) b)) u) r ≡ digit b
  here b = bit_flag n (set fs (64 * u + r) b) u r low small ∙ ap digit (get_or-set_same fs (64 * u + r) b false (omega arith))

  elsewhere : (b : Bool) (v k : ℕ) → v < n → k < 64 → ((v ≡ u) × (k ≡ r) → ⊥) → bit (row (rows_from n (set fs (64 * u + r) b)) v) k ≡ bit (row (rows_from n fs) v) k
  elsewhere b v k h l ne =
      bit_flag n (set fs (64 * u + r) b) v k h l
      ∙ ap digit (get_or-set_other fs (64 * u + r) (64 * v + k) b false (λ e. ne (omega arith, omega arith)))
      ∙ sym (bit_flag n fs v k h l)

  at_pair : (b : Bool) (new : List ℕ) → length new ≡ n → ((v : ℕ) → row new v < 2 ^ 64) → bit (row new u) r ≡ digit b
      → ((v k : ℕ) → ((v ≡ u) × (k ≡ r) → ⊥) → bit (row new v) k ≡ bit (row (rows_from n fs) v) k) → rows_from n (set fs (64 * u + r) b) ≡ new
  at_pair b new e wide at rest =
      same_rows (rows_from n (set fs (64 * u + r) b)) new (length_from n (set fs (64 * u + r) b) ∙ sym e) (from_wide n (set fs (64 * u + r) b)) wide
      (λ v k h l. let hv : v < n = omega (arith, length_from n (set fs (64 * u + r) b)) in elim (cases_eq v u) [
        | inl p ↦ elim (cases_eq k r) [
          | inl q ↦ subst (λ x. bit (row (rows_from n (set fs (64 * u + r) b)) x) k ≡ bit (row new x) k) (sym p)
              (subst (λ x. bit (row (rows_from n (set fs (64 * u + r) b)) u) x ≡ bit (row new u) x) (sym q) (here b ∙ sym at))
          | inr ne ↦ elsewhere b v k hv l (λ z. ne z.1) ∙ sym (rest v k (λ z. ne z.1))
        ]
        | inr ne ↦ elsewhere b v k hv l (λ z. ne z.0) ∙ sym (rest v k (λ z. ne z.0))
      ])

  inside : u < length (rows_from n fs)
  inside = omega (arith, length_from n fs)

  -- the flag is set: the pair is there
  pub marked : rows_from n (set fs (64 * u + r) true) ≡ with_pair (rows_from n fs) u r
  marked =
      let x = bit_or (row (rows_from n fs) u) (2 ^ r) in
      at_pair true (with_pair (rows_from n fs) u r) (length-set (rows_from n fs) u x ∙ length_from n fs)
      (each_row (λ w. w < 2 ^ 64) (rows_from n fs) u x inside (or_lt 64 (row (rows_from n fs) u) (2 ^ r) (from_wide n fs u) (pow_below r 64 small)) (from_wide n fs))
      (t.with_has (rows_from n fs) u r inside) (t.with_rest (rows_from n fs) u r inside)

  -- the flag is taken away: the pair is gone
  pub unmarked : Has (rows_from n fs) u r → rows_from n (set fs (64 * u + r) false) ≡ less_pair (rows_from n fs) u r
  unmarked held =
      let x = bit_xor (row (rows_from n fs) u) (2 ^ r) in
      at_pair false (less_pair (rows_from n fs) u r) (length-set (rows_from n fs) u x ∙ length_from n fs)
      (each_row (λ w. w < 2 ^ 64) (rows_from n fs) u x inside (xor_lt 64 (row (rows_from n fs) u) (2 ^ r) (from_wide n fs u) (pow_below r 64 small)) (from_wide n fs))
      (t.less_bit (rows_from n fs) u r inside held) (t.less_rest (rows_from n fs) u r inside)

  -- reading the flag is reading the pair
  pub flag_true : get_or fs (64 * u + r) false ≡ true → Has (rows_from n fs) u r
  flag_true e = bit_flag n fs u r low small ∙ ap digit e

  pub flag_off : get_or fs (64 * u + r) false ≡ false → bit (row (rows_from n fs) u) r ≡ 0
  flag_off e = bit_flag n fs u r low small ∙ ap digit e

  pub flag_false : get_or fs (64 * u + r) false ≡ false → Has (rows_from n fs) u r → ⊥
  flag_false e h = omega (arith, flag_off e)

-- ---- the same, of a table in use
pub outside : (fs : List Bool) (s u r : ℕ) → Outside fs u r → (users_of (model_of fs s) ≤ u) ⊎ (64 ≤ r)
outside fs s u r h = elim h [ inl l ↦ inl (omega (arith, length_from (users_in fs) fs)) | inr g ↦ inr g ]

module _ (fs : List Bool) (s u r k : ℕ) (i : Inside fs u r k) where
  room : 64 * users_in fs ≤ length fs
  room = omega arith

  pub in_table : k < length fs
  in_table = omega (arith, i.low, i.small, i.same)

  pub low : u < users_of (model_of fs s)
  low = omega (arith, i.low, length_from (users_in fs) fs)

  pub held : get_or fs k false ≡ true → Has (rows_of fs) u r
  held e = flag_true (users_in fs) fs u r i.low i.small room (subst (λ j. get_or fs j false ≡ true) i.same e)

  pub free : get_or fs k false ≡ false → Has (rows_of fs) u r → ⊥
  free e = flag_false (users_in fs) fs u r i.low i.small room (subst (λ j. get_or fs j false ≡ false) i.same e)

  pub model_marked : model_of (set fs k true) s ≡ with_rows (model_of fs s) (with_pair (rows_of fs) u r)
  model_marked = model_with fs (set fs k true) s (with_pair (rows_of fs) u r) (length-set fs k true)
      (ap (λ j. rows_from (users_in fs) (set fs j true)) i.same ∙ marked (users_in fs) fs u r i.low i.small room)

  pub model_unmarked : get_or fs k false ≡ true → model_of (set fs k false) s ≡ with_rows (model_of fs s) (less_pair (rows_of fs) u r)
  model_unmarked e = model_with fs (set fs k false) s (less_pair (rows_of fs) u r) (length-set fs k false)
      (ap (λ j. rows_from (users_in fs) (set fs j false)) i.same ∙ unmarked (users_in fs) fs u r i.low i.small room (held e))

  pub spare_kept : (b : Bool) → spare_of (set fs k b) ≡ spare_of fs
  spare_kept b = spare_same fs (set fs k b) (length-set fs k b) (drop-set-lt (64 * users_in fs) fs k b (omega (arith, i.low, i.small, i.same)))

-- ---- no flag is set
pub unmarked_all : (n : ℕ) (fs : List Bool) → ((k : ℕ) → k < 64 * n → get_or fs k false ≡ false) → rows_from n fs ≡ replicate n 0
unmarked_all n fs h =
    same_rows (rows_from n fs) (replicate n 0) (length_from n fs ∙ sym (length-replicate n 0)) (from_wide n fs) (λ u. rw (none_row n u) (pow_pos 64))
    (λ u k low l. let hu : u < n = omega (arith, length_from n fs) in bit_flag n fs u k hu l ∙ ap digit (h (64 * u + k) (omega arith)) ∙ sym (ap (λ w. bit w k) (none_row n u) ∙ bit_zero k))

-- the flags in use are taken away
module _ (fs : List Bool) (s : ℕ) where
  front : length (replicate (64 * users_in fs) false) ≡ 64 * users_in fs
  front = length-replicate (64 * users_in fs) false

  long : length (replicate (64 * users_in fs) false ++ drop (64 * users_in fs) fs) ≡ length fs
  long = omega (arith, front, length-append (replicate (64 * users_in fs) false) (drop (64 * users_in fs) fs), length-drop (64 * users_in fs) fs)

  pub model_unset : model_of (replicate (64 * users_in fs) false ++ drop (64 * users_in fs) fs) s ≡ with_rows (model_of fs s) (emptied (rows_of fs))
  model_unset = model_with fs _ s _ long (
      unmarked_all (users_in fs) (replicate (64 * users_in fs) false ++ drop (64 * users_in fs) fs)
      (λ k h. get_or_append_left (replicate (64 * users_in fs) false) (drop (64 * users_in fs) fs) false k (omega (arith, front)) ∙ get_or-replicate (64 * users_in fs) k false false h)
      ∙ ap (λ k. replicate k 0) (sym (length_from (users_in fs) fs)))

  pub spare_unset : spare_of (replicate (64 * users_in fs) false ++ drop (64 * users_in fs) fs) ≡ spare_of fs
  spare_unset = spare_same fs _ long (drop-append-drop (64 * users_in fs) fs (replicate (64 * users_in fs) false) (64 * users_in fs) (omega arith) front)

-- ---- a word that is read from its last flag back
-- the bits move up, and the flag is the lowest
abbrev pub moved_up : ℕ → Bool → ℕ
moved_up row b = bit_or (row * 2 ^ 1 % 2 ^ 64) (digit b)

moved_word : (b : Bool) (w : ℕ) → w < 2 ^ 63 → moved_up w b ≡ digit b + 2 * w
moved_word b w wide =
    let room : w * 2 ^ 1 % 2 ^ 64 ≡ w * 2 ^ 1 = omega arith in
    omega (arith, ap (λ x. bit_or x (digit b)) room, or_shifted w 1 (digit b) (digit_two b))

pub read_back : (bs : List Bool) → length bs ≤ 64 → fold moved_up 0 (reverse bs) ≡ word bs
unfolding word
read_back [] few = refl
read_back (b ∷ bs) few =
    ap (fold moved_up 0) (reverse-append (b ∷ []) bs)
    ∙ fold_push moved_up 0 (reverse bs) b
    ∙ ap (λ w. moved_up w b) (read_back bs (omega (arith, few)))
    ∙ moved_word b (word bs) (lt_of_lt_of_le (word_below bs) (pow_mono {j = 63} (omega (arith, few))))

-- ---- counting the flags that are set
word_ones : (bs : List Bool) → ones (word bs) ≡ count_by (λ b. b) bs
unfolding word
word_ones [] = ones_none
word_ones (b ∷ bs) =
    let w = word bs in
    let low : (digit b + 2 * w) % 2 ≡ digit b = omega (arith, digit_two b) in
    let half : (digit b + 2 * w) / 2 ≡ w = omega (arith, digit_two b) in
    omega (arith, ones_step (digit b + 2 * w), low, ap ones half, word_ones bs, sum_by-cons digit b bs)

pub flag_pairs : (n : ℕ) (fs : List Bool) → count_by (λ b. b) (take (64 * n) fs) ≡ pairs (rows_from n fs)
unfolding rows_from
flag_pairs zero fs = refl
flag_pairs (suc n) fs =
    let e : 64 * suc n ≡ 64 + 64 * n = omega arith in
    ap (λ k. count_by (λ b. b) (take k fs)) e
    ∙ ap (count_by (λ b. b)) (take-add 64 (64 * n) fs)
    ∙ sum_by-append digit (take 64 fs) (take (64 * n) (drop 64 fs))
    ∙ omega (arith, flag_pairs n (drop 64 fs), word_ones (take 64 fs), sum_by-cons ones (word (take 64 fs)) (rows_from n (drop 64 fs)))

-- ---- counting a role's members, user after user
counted : (r a : ℕ) (items : List (Bor (List Bool))) (t : List ℕ) → length items ≡ length t
    → ((k : ℕ) (x : Bor (List Bool)) → slice_get items k ≡ Some x → digit (get_or x.now r false) ≡ bit (row t k) r)
    → fold (λ n x. n + digit (get_or x.now r false)) a items ≡ a + having r t
counted r a [] [] e h = omega arith
counted r a [] (w ∷ t) e h = absurd (omega (arith, e))
counted r a (x ∷ items) [] e h = absurd (omega (arith, e))
counted r a (x ∷ items) (w ∷ t) e h = omega (arith, counted r (a + digit (get_or x.now r false)) items t (omega (arith, e)) (λ k. h (suc k)), h 0 x refl, sum_by-cons (λ v. bit v r) w t)

-- the flag for a role among those of user k
flag_of : (fs bs : List Bool) (r k : ℕ) → bs ≡ take 64 (drop (k * 64) (in_use fs)) → k < users_in fs → r < 64 → digit (get_or bs r false) ≡ bit (row (rows_of fs) k) r
flag_of fs bs r k e h l =
    let n = users_in fs in
    let place : k * 64 + r ≡ 64 * k + r = omega arith in
    ap (λ x. digit (get_or x r false)) e
    ∙ ap digit (get_or-take 64 (drop (k * 64) (in_use fs)) r false l ∙ get_or-drop (k * 64) (in_use fs) r false ∙ get_or-take (64 * n) fs (k * 64 + r) false (omega arith) ∙ ap (λ j. get_or fs j false) place)
    ∙ sym (bit_flag n fs k r h l)

-- each adds one at most
counted_most : (r a : ℕ) (items : List (Bor (List Bool))) → fold (λ n x. n + digit (get_or x.now r false)) a items ≤ a + length items
counted_most r a [] = omega arith
counted_most r a (x ∷ items) = omega (arith, counted_most r (a + digit (get_or x.now r false)) items, digit_two (get_or x.now r false))

-- and there are 4,096 at most
pub counted_few : {S : Type 0} {steps : S → Option (Bor (List Bool)) → S → Type 0} (q : Run steps) (xs : List Bool) (r n : ℕ)
    → n ≡ 64 → length xs ≤ 64 * 4096 → IsChunksExactRun q n xs → fold (λ m x. m + digit (get_or x.now r false)) 0 q.items ≤ 4096
counted_few q xs r n e few cut = omega (arith, counted_most r 0 q.items, q.long, cut.0, ap (λ k. q.len * k) e)

-- the chunks of 64 of the flags in use are the users' flags
pub counted_members : {S : Type 0} {steps : S → Option (Bor (List Bool)) → S → Type 0} (q : Run steps) (fs xs : List Bool) (r n : ℕ) → r < 64
    → n ≡ 64 → xs ≡ in_use fs → q.whole ≡ true → IsChunksExactRun q n xs → fold (λ m x. m + digit (get_or x.now r false)) 0 q.items ≡ members (rows_of fs) r
unfolding YieldsRun
counted_members q fs xs r n l e same whole cut =
    let size : length xs ≡ 64 * users_in fs = omega (arith, ap (λ (x : List Bool). length x) same, length-take (64 * users_in fs) fs) in
    let many : length q.items ≡ users_in fs = sym q.long ∙ cut.1 whole ∙ ap (λ k. length xs / k) e ∙ omega (arith, size) in
    let at : (k : ℕ) (x : Bor (List Bool)) → slice_get q.items k ≡ Some x → x.now ≡ take 64 (drop (k * 64) (in_use fs)) = λ k x is.
    let part = MatchOption-at_some _ _ x (q.gave.1 k ∙ is) (cut.2 k) in
    part.2.0 ∙ (λ i. take (e i) (drop (k * e i) (same i))) in
    omega (arith, members_low (rows_of fs) r l, counted r 0 q.items (rows_of fs) (many ∙ sym (length_from (users_in fs) fs)) (λ k x is. flag_of fs x.now r k (at k x is) (omega (arith, many, slice_get_within q.items k x is)) l))
