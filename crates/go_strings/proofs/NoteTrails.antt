-- What is noted leads back.
use Rattle.std.proofs.Common.{◌≡◌, ℕ, ◌+◌, ◌-◌, ◌*◌, ◌<◌, ◌≤◌, ◌⊎◌, List, [], ◌∷◌, ◌++◌, length, take}
use Rattle.std.proofs.Common.{get_or, Result, Ok, Err, refl, sym, ap, subst, arith}
use Rattle.std.proofs.Math.ListN.{set, length-set}
use Rattle.std.proofs.lemmas.List.{append-nil, append_assoc, set-set, set-get_or, take_all, take_more}
use Rattle.std.proofs.lemmas.List.{take-append-drop, drop-set-lt}
use Rattle.go_rules.specs.declared.Cell.{Cell}
use Rattle.go_rules.specs.declared.Cell.TheVariants.{Empty}
use Rattle.std.specs.Result.{OnOk}
use Rattle.go_base.specs.declared.bytes.NoMemory.{NoMemory}
use Rattle.go_base.specs.declared.view.Flat.{Flat}
use Rattle.go_base.specs.Flats.{KeepsRest}
use Rattle.go_strings.specs.Stands.{cells_of}
use Rattle.go_strings.specs.declared.notes.Note.{Note}
use Rattle.go_strings.specs.Notes.{cells_before, names_before, IsNoted}

-- a list that is not empty ends with its last
pub last_split : {A : Type 0} (xs : List A) (n : ℕ) (v : A) → n ≡ length xs → (n ≡ 0 → ⊥) → v ≡ get_or xs (n - 1) v
    → xs ≡ take (n - 1) xs ++ v ∷ []
last_split xs n v long some is = grind (arith, take_all, take_more)

-- notes and more notes are taken back one after the other
cells_before-append : (ns more : List Note) (cells : List Cell)
    → cells_before (ns ++ more) cells ≡ cells_before ns (cells_before more cells)
cells_before-append [] more cells = refl
cells_before-append (n ∷ ns) more cells = ap (λ t. set t n.at n.cell) (cells_before-append ns more cells)

-- and so for names
names_before-append : (ns more : List Note) (names : List ℕ)
    → names_before (ns ++ more) names ≡ names_before ns (names_before more names)
names_before-append [] more names = refl
names_before-append (n ∷ ns) more names = ap (λ t. set t n.at n.name) (names_before-append ns more names)

-- if nothing changed, no note is needed
pub noted_none : {cells : List Cell} {names : List ℕ} {notes longer : List Note} → longer ≡ notes
    → IsNoted cells cells names names notes longer
noted_none {notes = notes} e = grind (arith, append-nil)

-- what is noted twice is noted
pub noted_more : {a b c : List Cell} {l m n : List ℕ} {x y z : List Note} → IsNoted a b l m x y → IsNoted b c m n y z
    → IsNoted a c l n x z
noted_more {c = c} {n = n} {x = x} g h = grind (arith, append_assoc, cells_before-append, names_before-append)

-- a board that was looked at alone has the same cells
pub cells_again : (old new : Flat) → KeepsRest old new → cells_of new ≡ cells_of old → new.cells ≡ old.cells
cells_again old new keeps same =
    grind (arith, take-append-drop (new.size * new.size) new.cells, take-append-drop (old.size * old.size) old.cells)

-- what was noted up to then is what is noted
pub noted_again : (old new : Flat) → KeepsRest old new → cells_of new ≡ cells_of old
    → {a : List Cell} {l m : List ℕ} {x y : List Note}
    → IsNoted a old.cells l m x y → IsNoted a new.cells l m x y
noted_again old new keeps same {a = a} {l = l} {m = m} {x = x} {y = y} g =
    subst (λ t. IsNoted a t l m x y) (sym (cells_again old new keeps same)) g

-- a cell that was noted and changed
pub noted_cell : (cells : List Cell) (names : List ℕ) (notes longer : List Note) (p : ℕ) (k : Cell)
    → longer ≡ notes ++ (record { at = p; cell = get_or cells p Empty; name = get_or names p 0 }) ∷ []
    → IsNoted cells (set cells p k) names names notes longer
noted_cell cells names notes longer p k e = grind (arith, set-set, set-get_or)

-- a name that was noted and changed
pub noted_name : (cells : List Cell) (names : List ℕ) (notes longer : List Note) (p n : ℕ)
    → longer ≡ notes ++ (record { at = p; cell = get_or cells p Empty; name = get_or names p 0 }) ∷ []
    → IsNoted cells cells names (set names p n) notes longer
noted_name cells names notes longer p n e = grind (arith, set-get_or, set-set)

-- the notes that were taken back so far, and what they led to
pub record Unwound (cells : List Cell) (names : List ℕ) (notes : List Note) (mark : ℕ) (left : List Cell)
    (named : List ℕ) (rest : List Note) : Type 0 where
  pub gone : List Note
  pub notes_are : notes ≡ rest ++ gone
  pub cells_are : left ≡ cells_before gone cells
  pub names_are : named ≡ names_before gone names
  pub at_mark : (gone ≡ []) ⊎ (mark ≤ length rest)

-- a board that was written at a point of it alone
pub keeps_set : (old : Flat) (p : ℕ) (k : Cell) → p < old.size * old.size
    → KeepsRest old (record { size = old.size; cells = set old.cells p k })
keeps_set old p k on =
    record { size = refl; length = length-set old.cells p k; rest = drop-set-lt (old.size * old.size) old.cells p k on }

-- where more follows from what holds after success, it holds too
pub on_ok : {P Q : Type 0} (r : Result (Unit {0}) NoMemory) → (P → Q) → OnOk r P → OnOk r Q
on_ok (Ok x) more h = more h
on_ok (Err e) more h = tt
