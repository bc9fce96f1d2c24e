-- One store after another on a page. Assumes nothing.
use Rattle.std.proofs.Common.{◌≡◌, ℕ, ◌+◌, ◌-◌, ◌<◌, ◌≤◌, List, ◌++◌, length, get_or, take, drop, sym, ap, ◌∙◌, subst, append_assoc, arith, length-append, length-take, length-drop}
use Rattle.std.specs.List.{flat_map}
use Rattle.std.proofs.lemmas.List.{drop-drop, take_all}
use Rattle.std.proofs.lemmas.List.Folds.{length-flat_map-take}
use Rattle.text_out.specs.Pages.{Room, Appended}
use Rattle.text_out.specs.declared.page.Page.{Page}
use Rattle.text_out.proofs.Stored.{joined_take}

pub same_length : {p q : Page} {x : List ℕ} → Room p x → Appended p x q → length q.buffer.now ≡ length p.buffer.now
same_length {p} {q} {x} r h =
    let a = p.buffer.now in
    let b = q.buffer.now in
    let e = h.put.ends in
    let f = ap length h.put.front ∙ length-append (take p.at a) x in
    let d = ap length h.put.back in
    omega (arith, r.fits, length-take p.at a, length-take q.at b, length-drop q.at a, length-drop q.at b)

-- room for two texts is room for the first, and then for the second
pub room_first : {p : Page} {x : List ℕ} (y : List ℕ) → Room p (x ++ y) → Room p x
room_first {p} {x} y r = record { fits = omega (arith, r.fits, length-append x y) }

pub room_then : {p q : Page} {x y : List ℕ} → Room p (x ++ y) → Appended p x q → Room q y
room_then {p} {q} {x} {y} r h = record { fits = omega (arith, r.fits, length-append x y, h.put.ends, same_length (room_first y r) h) }

pub room_is : {p : Page} {x y : List ℕ} → x ≡ y → Room p x → Room p y
room_is {p} e r = subst (Room p) e r

pub append_then : {p q r : Page} {x y : List ℕ} → Appended p x q → Appended q y r → Appended p (x ++ y) r
append_then {p} {q} {r} {x} {y} h k =
    let a = p.buffer.now in
    let b = q.buffer.now in
    let l = length-append x y in
    let e = h.put.ends in
    let f = k.put.ends in
    let d : q.at + (r.at - q.at) ≡ r.at = omega arith in
    let beyond : drop r.at b ≡ drop r.at a = ap (λ n. drop n b) (sym d) ∙ sym (drop-drop (r.at - q.at) q.at b) ∙ ap (drop (r.at - q.at)) h.put.back ∙ drop-drop (r.at - q.at) q.at a ∙ ap (λ n. drop n a) d in
    record {
      same = k.same ∙ h.same;
      put = record {
        ends = omega arith;
        front = k.put.front ∙ ap (λ l. l ++ y) h.put.front ∙ append_assoc (take p.at a) x y;
        back = k.put.back ∙ beyond;
      };
    }

pub append_is : {p q : Page} {x y : List ℕ} → x ≡ y → Appended p x q → Appended p y q
append_is {p} {q} e h = subst (λ t. Appended p t q) e h

-- the texts of a list's items, one after another, as a loop over them stores them
pub room_item : {X : Type 0} {p q : Page} (f : X → List ℕ) (xs : List X) (i : ℕ) (d : X) {x : X} → i < length xs → x ≡ get_or xs i d → Room p (flat_map f xs) → Appended p (flat_map f (take i xs)) q → Room q (f x)
room_item {X} {p} {q} f xs i d {x} l e r h =
    let all = length-flat_map-take f xs i d l in
    let same = ap (λ y. length (f y)) e in
    let first : Room p (flat_map f (take i xs)) = record { fits = omega (arith, r.fits) } in
    record { fits = omega (arith, r.fits, h.put.ends, same_length first h) }

pub append_item : {X : Type 0} {p q r : Page} (f : X → List ℕ) (xs : List X) (i : ℕ) (d : X) {x : X} → i < length xs → x ≡ get_or xs i d → Appended p (flat_map f (take i xs)) q → Appended q (f x) r → Appended p (flat_map f (take (i + 1) xs)) r
append_item f xs i d {x} l e h k = append_is (sym (joined_take f xs i d l ∙ ap (λ y. flat_map f (take i xs) ++ f y) (sym e))) (append_then h k)

pub append_all : {X : Type 0} {p q : Page} (f : X → List ℕ) (xs : List X) (i : ℕ) → length xs ≤ i → Appended p (flat_map f (take i xs)) q → Appended p (flat_map f xs) q
append_all f xs i l h = append_is (ap (flat_map f) (take_all i xs l)) h
