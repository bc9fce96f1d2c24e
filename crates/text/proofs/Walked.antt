-- A walk over a text, record after record. Assumes nothing.
use Rattle.std.proofs.Common.{◌≡◌, ℕ, ◌+◌, ◌<◌, ◌≤◌, false, eqb, List, [], ◌∷◌, ◌++◌, length, drop, sym, refl, ap, ◌∙◌, arith, length-drop}
use Rattle.std.proofs.lemmas.List.{length_push}
use Rattle.std.proofs.lemmas.Bool.{eqb-false}
use Rattle.text.specs.declared.field.TextFault.{TextFault}
use Rattle.text.specs.Grammar.{ReadsTo}
use Rattle.text.specs.Grammar.ReadsTo.{none}
use Rattle.text.specs.Taken.{Skipped}
use Rattle.text.specs.Faults.{RecordRefused}
use Rattle.text.specs.Walks.{FirstWrong}
use Rattle.text.proofs.Records.{record_later, took_within}
use Rattle.text.proofs.Once.{reads_push, reads_stuck}

-- the text is read up to `at`, count records
pub record Walked (text : List ℕ) (at count : ℕ) : Type 0 where
  pub before : List (List (List ℕ))
  pub reads : ReadsTo text before (drop at text)
  pub counted : length before ≡ count
  pub few : count ≤ at
  pub within : at ≤ length text

pub walked_none : (text : List ℕ) → Walked text 0 0
walked_none text = record { before = []; reads = none; counted = refl; few = omega arith; within = omega arith }

-- the reader is not at the end
pub bytes_left : (s t : List ℕ) (at : ℕ) → s ≡ t → false ≡ eqb at (length s) → at ≤ length t → at < length t
bytes_left s t at e f l = let n : at ≡ length s → ⊥ = eqb-false at (length s) (sym f) in omega (arith, ap length e)

pub some_left : (s : List ℕ) (at : ℕ) → at < length s → drop at s ≡ [] → ⊥
some_left s at l e = let a = length-drop at s in let z = ap length e in omega arith

pub skipped_later : (s : List ℕ) (at n next : ℕ) → at < length s → Skipped s at n next → at < next
skipped_later s at n next l h = record_later s at h.handed.end next h.fields l h.handed.took

pub walked_more : (text : List ℕ) (at count n next : ℕ) → at < length text → Walked text at count → Skipped text at n next → Walked text next (count + 1)
walked_more text at count n next l w h =
    let r = h.handed in
    record {
      before = w.before ++ r.contents ∷ [];
      reads = reads_push _ _ _ _ _ w.reads (some_left text at l) r.recorded;
      counted = length_push w.before r.contents ∙ ap (λ k. k + 1) w.counted;
      few = omega (arith, w.few, skipped_later text at n next l h);
      within = took_within text at r.end next h.fields r.took;
    }

pub walked_wrong : (text : List ℕ) (at count : ℕ) (fault : TextFault) → at < length text → Walked text at count → RecordRefused text at fault → FirstWrong text record { number = count + 1; fault = fault }
walked_wrong text at count fault l w h = record {
  before = w.before;
  from = at;
  reads = w.reads;
  count = ap (λ k. k + 1) (sym w.counted);
  left = l;
  refused = h;
  unread = λ rs r. reads_stuck text (drop at text) rs w.before w.reads (some_left text at l) h.absent r;
}
