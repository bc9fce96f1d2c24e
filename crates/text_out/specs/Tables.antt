-- A table of numbers: its header and its records, as a text is read.
use Rattle.std.specs.Prelude.{◌≡◌, ℕ, ◌^◌, ◌<◌, ◌≤◌, List, length, drop}
use Rattle.std.specs.List.{AllZip, AllByRecursion}
use Rattle.text.specs.Grammar.{Reading}
use Rattle.text.specs.Numbers.{Number}
use Rattle.text.specs.FirstLine.{NoLineBefore, Headed}
use Rattle.text_out.specs.Written.{table}

-- these contents write these numbers, each with at most `limit` digits
abbrev pub Writes : ℕ → List (List ℕ) → List ℕ → Type 0
Writes limit = AllZip (Number limit)

-- the same, record by record
abbrev pub WritesAll : ℕ → List (List (List ℕ)) → List (List ℕ) → Type 0
WritesAll limit = AllZip (Writes limit)

-- the text is a table with this header, and its records are these numbers in this order
pub record Table (limit : ℕ) (header text : List ℕ) (records : List (List ℕ)) : Type 0 where
  pub next : ℕ
  pub headed : Headed header text next
  pub contents : List (List (List ℕ))
  pub reading : Reading (drop next text) contents
  pub numbers : WritesAll limit contents records

-- the text is read as these records, and as no others
pub record ReadsBack (limit : ℕ) (header text : List ℕ) (records : List (List ℕ)) : Type 0 where
  pub reads : Table limit header text records
  pub once : (others : List (List ℕ)) → Table limit header text others → others ≡ records

-- the header is one line: no CR LF stands in it
abbrev pub OneLine : List ℕ → Type 0
OneLine header = NoLineBefore header (length header)

-- each of these numbers has at most `limit` digits
abbrev pub Small : ℕ → List ℕ → Type 0
Small limit = AllByRecursion (λ n. n < 10 ^ limit)

-- each record has a number, and all have at most `limit` digits
abbrev pub Writable : ℕ → List (List ℕ) → Type 0
Writable limit = AllByRecursion (λ r. (0 < length r) × Small limit r)

-- the text is read back as these records, for every digit limit from 1 to 19 that their numbers keep
abbrev pub Back : List ℕ → List (List ℕ) → List ℕ → Type 0
Back header records text = (limit : ℕ) → 0 < limit → limit ≤ 19 → OneLine header → Writable limit records → ReadsBack limit header text records

-- reading a written table gives its records back, in order
abbrev pub RoundTrip : Type 0
RoundTrip = (header : List ℕ) (records : List (List ℕ)) → Back header records (table header records)
