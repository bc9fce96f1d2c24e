-- How far a field goes, by places in the text.
use Rattle.std.specs.Prelude.{◌≡◌, ℕ, ◌+◌, ◌<◌, ◌≤◌, Bool, true, false, List, ◌++◌, length, drop, slice_index, slice_index_or}
use Rattle.text.specs.declared.field.Mark.{Mark}
use Rattle.text.specs.declared.field.Span.{Span}
use Rattle.text.specs.Grammar.{Plain, AllPlain, escape, body, written, Proper, sign, Ends}

-- t does not begin with a quote
abbrev pub NoQuote : List ℕ → Type 0
NoQuote t = slice_index t 0 ≡ 34 → ⊥

-- the bytes from `from` on, up to i, are plain
abbrev pub PlainTo : List ℕ → ℕ → ℕ → Type 0
PlainTo s from i = (c : List ℕ) × AllPlain c × (drop from s ≡ c ++ drop i s)

-- the bytes from `from` on, up to i, are an escaped content
abbrev pub EscapedTo : List ℕ → ℕ → ℕ → Type 0
EscapedTo s from i = (c : List ℕ) × (drop from s ≡ escape c ++ drop i s)

-- the content from `from` on is never closed
abbrev pub Unclosed : List ℕ → ℕ → Type 0
Unclosed s from = (c : List ℕ) × (drop from s ≡ escape c)

-- the content from `from` on is closed by the quote at i
pub record Closes (s : List ℕ) (from i : ℕ) : Type 0 where
  pub content : EscapedTo s from i
  pub after : from ≤ i
  pub within : i < length s
  pub quote : slice_index_or s i 0 ≡ 34
  pub once : NoQuote (drop (i + 1) s)

-- an unquoted field begins with no quote
abbrev pub Opens : Bool → List ℕ → ℕ → Type 0
Opens false s at = NoQuote (drop at s)
Opens true s at = Unit {0}

-- where a field has ended there is no byte that would belong to it
abbrev pub Stops : Bool → List ℕ → ℕ → Type 0
Stops false s i = i < length s → Plain (slice_index s i) → ⊥
Stops true s i = NoQuote (drop i s)

-- a field with its quotes stands from `at` to i, and goes no further
pub record Upto (s : List ℕ) (at i : ℕ) (quoted : Bool) (content : List ℕ) : Type 0 where
  pub proper : Proper quoted content
  pub split : drop at s ≡ written quoted content ++ drop i s
  pub opens : Opens quoted s at
  pub stops : Stops quoted s i
  pub within : i ≤ length s

-- the place past a quote that stands at n, where the field is quoted, else n
abbrev pub past : Bool → ℕ → ℕ
past false n = n
past true n = n + 1

-- the field that begins at `at`: what is between its marks, quotes taken off, stands from start to end
pub record Spans (s : List ℕ) (at : ℕ) (p : Span) : Type 0 where
  pub content : List ℕ
  pub upto : Upto s at (past p.quoted p.end) p.quoted content
  pub start : p.start ≡ past p.quoted at
  pub order : p.start ≤ p.end
  pub inside : drop p.start s ≡ body p.quoted content ++ drop p.end s

-- this mark stands at i, and next is the place after it
pub record MarkTo (s : List ℕ) (i : ℕ) (mark : Mark) (next : ℕ) : Type 0 where
  pub split : drop i s ≡ sign mark ++ drop next s
  pub ends : Ends mark (drop next s)
  pub after : next ≡ i + length (sign mark)
  pub within : next ≤ length s
