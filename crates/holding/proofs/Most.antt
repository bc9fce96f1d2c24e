-- The most of a list. Assumes nothing.
use Rattle.std.proofs.Common.{◌<◌, ◌≤◌, ℕ, max, fold, List, [], ◌∷◌, length, get_or, zero, suc, arith, unwrap_or}
use Rattle.std.specs.List.{reduce}

at_most : (xs : List ℕ) (x : ℕ) → x ≤ fold max x xs
at_most [] x = omega arith
at_most (y ∷ ys) x = omega (arith, at_most ys (max x y))

each_most : (xs : List ℕ) (x i : ℕ) → i < length xs → get_or xs i 0 ≤ fold max x xs
each_most [] x i l = absurd (omega arith)
each_most (y ∷ ys) x zero l = omega (arith, at_most ys (max x y))
each_most (y ∷ ys) x (suc i) l = each_most ys (max x y) i (omega arith)

pub most_of : (xs : List ℕ) (i : ℕ) → i < length xs → get_or xs i 0 ≤ unwrap_or (reduce max xs) 0
most_of [] i l = absurd (omega arith)
most_of (x ∷ xs) zero l = at_most xs x
most_of (x ∷ xs) (suc i) l = each_most xs x i (omega arith)
