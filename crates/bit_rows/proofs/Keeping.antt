-- The counts of rows, and how a pair more, a pair less and no pairs keep them. Assumes nothing.
use Rattle.std.proofs.Common.{◌≡◌, ℕ, ◌+◌, ◌-◌, ◌^◌, ◌<◌, ◌≤◌, List, length, get_or, set, replicate, sym, ◌∙◌, subst, inl, inr, arith}
use lib.Bits.{bit_or, bit_xor, or_lt, xor_lt}
use Rattle.std.proofs.lemmas.Nat.{pow_pos, pow_below}
use Rattle.std.proofs.lemmas.List.{get_or-set_same, get_or-set_other, get_or-replicate}
use Rattle.std.proofs.lemmas.Bool.{cases_eq}
use Rattle.register.specs.Pairs.{row, Has, pairs, having, members, with_pair, less_pair}
use Rattle.register.specs.Model.{seats_of}
use Rattle.register.proofs.Cases.{members_low, seats_low}
use Rattle.register.proofs.Tables.{each_row, none_row, none_pairs, none_members}
use Rattle.register.proofs.Tables as t
use Rattle.bit_rows.specs.Table.{rows_of, model_of}
use Rattle.bit_rows.specs.declared.BitRows.{BitRows}

-- n pairs, and as many members of each role as ms says, in rows of 64 bits
pub record Counts (rows ms : List ℕ) (n : ℕ) : Type 0 where
  pub counted : n ≡ pairs rows
  pub each : (r : ℕ) → r < 64 → get_or ms r 0 ≡ having r rows
  pub wide : (u : ℕ) → row rows u < 2 ^ 64

module _ (rows ms : List ℕ) (n u r : ℕ) (c : Counts rows ms n) (long : length ms ≡ 64) (low : u < length rows) (small : r < 64) where
  -- another number of members of r, and as many of the others
  at_role : (x : ℕ) (new : List ℕ) → x ≡ having r new → ((k : ℕ) → (k ≡ r → ⊥) → having k new ≡ having k rows) → (k : ℕ) → k < 64 → get_or (set ms r x) k 0 ≡ having k new
  at_role x new here others k h = elim (cases_eq k r) [
    | inl e ↦ subst (λ j. get_or (set ms r x) j 0 ≡ having j new) (sym e) (get_or-set_same ms r x 0 (omega arith) ∙ here)
    | inr ne ↦ get_or-set_other ms r k x 0 ne ∙ c.each k h ∙ sym (others k ne)
  ]

  pub counts_with : (Has rows u r → ⊥) → (new : List ℕ) → new ≡ with_pair rows u r → Counts new (set ms r (get_or ms r 0 + 1)) (n + 1)
  counts_with free new e = subst (λ x. Counts x (set ms r (get_or ms r 0 + 1)) (n + 1)) (sym e) (record {
    counted = omega (arith, c.counted, t.with_pairs rows u r low free);
    each = at_role (get_or ms r 0 + 1) (with_pair rows u r) (omega (arith, c.each r small, t.with_members rows u r low free)) (t.with_others rows u r low);
    wide = each_row (λ x. x < 2 ^ 64) rows u (bit_or (row rows u) (2 ^ r)) low (or_lt 64 (row rows u) (2 ^ r) (c.wide u) (pow_below r 64 small)) c.wide;
  })

  module _ (held : Has rows u r) where
    -- a held pair is counted
    pub some_pair : 1 ≤ n
    some_pair = omega (arith, c.counted, t.less_pairs rows u r low held)

    pub some_member : 1 ≤ get_or ms r 0
    some_member = omega (arith, c.each r small, t.less_members rows u r low held)

    pub counts_less : (new : List ℕ) → new ≡ less_pair rows u r → Counts new (set ms r (get_or ms r 0 - 1)) (n - 1)
    counts_less new e = subst (λ x. Counts x (set ms r (get_or ms r 0 - 1)) (n - 1)) (sym e) (record {
      counted = omega (arith, c.counted, t.less_pairs rows u r low held);
      each = at_role (get_or ms r 0 - 1) (less_pair rows u r) (omega (arith, c.each r small, t.less_members rows u r low held)) (t.less_others rows u r low);
      wide = each_row (λ x. x < 2 ^ 64) rows u (bit_xor (row rows u) (2 ^ r)) low (xor_lt 64 (row rows u) (2 ^ r) (c.wide u) (pow_below r 64 small)) c.wide;
    })

-- no pairs, and no members
pub counts_none : (k : ℕ) (rows : List ℕ) → rows ≡ replicate k 0 → Counts rows (replicate 64 0) 0
counts_none k rows e = subst (λ x. Counts x (replicate 64 0) 0) (sym e) (record {
  counted = sym (none_pairs k);
  each = λ r h. get_or-replicate 64 r 0 0 h ∙ sym (none_members k r);
  wide = λ u. subst (λ x. x < 2 ^ 64) (sym (none_row k u)) (pow_pos 64);
})

-- ---- what add asks, by the counts
module _ (ws ms : List ℕ) (n r : ℕ) (c : Counts (rows_of ws) ms n) (small : r < 64) where
  members_are : members (rows_of ws) r ≡ get_or ms r 0
  members_are = members_low (rows_of ws) r small ∙ sym (c.each r small)

  pub no_seat : 4096 ≤ get_or ms r 0 → seats_of (model_of ws) r ≤ members (rows_of ws) r
  no_seat h = omega (arith, members_are, seats_low (model_of ws) r small)

  pub a_seat : get_or ms r 0 < 4096 → members (rows_of ws) r < seats_of (model_of ws) r
  a_seat h = omega (arith, members_are, seats_low (model_of ws) r small)

-- the counts that a register keeps
pub counts_of : (s : BitRows) → Counts (rows_of s.words.now) s.members s.pairs
counts_of s = record { counted = s.counted; each = s.each; wide = s.wide }
