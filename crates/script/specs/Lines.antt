-- How a script is cut into lines.
use Rattle.std.specs.Prelude.{◌≡◌, ℕ, ◌<◌, ◌⊎◌, List, [], ◌∷◌, ◌++◌, length, Option, MatchOption, ◌≢◌, slice_index, slice_index_or}
use Rattle.std.specs.Borrow.{Bor}

-- no byte is an LF
abbrev pub NoLf : List ℕ → Type 0
NoLf bytes = (k : ℕ) → slice_index bytes k ≢ 10

-- the first LF stands at place i
pub record FirstLf (bytes : List ℕ) (i : ℕ) : Type 0 where
  pub within : i < length bytes
  pub here : slice_index_or bytes i 0 ≡ 10
  pub none_before : (k : ℕ) → k < i → slice_index bytes k ≢ 10

-- line is what was typed before an LF, without the CR if it ends in one
abbrev pub WithoutCr : List ℕ → List ℕ → Type 0
WithoutCr typed line = ((line ≡ typed) × ((front : List ℕ) → typed ≢ front ++ (13 ∷ []))) ⊎ (typed ≡ line ++ (13 ∷ []))

-- line is the first line of the script, and after is what follows it; the last line needs no LF
pub record FirstLine (script line after : List ℕ) : Type 0 where
  pub typed : List ℕ
  pub no_lf : NoLf typed
  pub cut : ((script ≡ typed ++ (10 ∷ after)) × WithoutCr typed line) ⊎ ((script ≡ typed) × (line ≡ typed) × (after ≡ []))

-- the script's first line is handed out, and after is what follows it; nothing, where the script is at its end
abbrev pub LineStep : List ℕ → Option (Bor (List ℕ)) → List ℕ → Type 0
LineStep script r after = MatchOption r ((script ≡ []) × (after ≡ [])) (λ line. FirstLine script line.now after × (length after < length script))
