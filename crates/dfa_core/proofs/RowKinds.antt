-- The kinds of rows, and how they grow with the table.
use Rattle.std.proofs.Common.{◌≡◌, ℕ, ◌+◌, Bool, true, false, cond, List, [], ◌∷◌, ◌++◌, length, refl, arith}
use Rattle.std.proofs.lemmas.Bool.{cases_lt}
use Rattle.std.proofs.lemmas.List.{length_push, get_or_push, get_or_append_left}
use Rattle.std.proofs.lemmas.Bool.Decides.{nat_tests}
use Rattle.dfa_core.specs.declared.automaton.Seen.{Seen}
use Rattle.dfa_core.specs.declared.automaton.Seen.TheVariants.{Friend, Enemy, Empty, Off}
use Rattle.dfa_core.specs.declared.kind.RowKind.{RowKind}
use Rattle.dfa_core.specs.declared.kind.RowKind.TheVariants.{Plain, Dead}
use Rattle.dfa_core.specs.Automata.{Row, row_at, step_at, IsDead}
use Rattle.dfa_core.specs.RowKinds.{stays_at, kind_with, kind_at, AreKinds}

-- one more row comes with its kind
AreKinds-push : (rows : List Row) (row : Row) (kinds : List RowKind) (kind : RowKind) → AreKinds rows kinds
    → kind ≡ kind_with (length rows) row.targets row.numbers → AreKinds (rows ++ row ∷ []) (kinds ++ kind ∷ [])
AreKinds-push rows row kinds kind before is = grind (arith, length_push, cases_lt, get_or_append_left, get_or_push)

-- the kinds of a list of rows that is known to be longer by one row
pub AreKinds-more : (rows all : List Row) (row : Row) (kinds more : List RowKind) (kind : RowKind) → AreKinds rows kinds
    → all ≡ rows ++ row ∷ [] → more ≡ kinds ++ kind ∷ []
    → kind ≡ kind_with (length rows) row.targets row.numbers → AreKinds all more
AreKinds-more rows all row kinds more kind before rows_more kinds_more is =
    rw (rows_more, kinds_more) (AreKinds-push rows row kinds kind before is)

-- only what stays is dead
dead-stays : (b : Bool) → cond b Dead Plain ≡ Dead → b ≡ true
dead-stays true is = refl
dead-stays false is = absurd (let h : ⊥ = cc in h)

-- if each of its four targets is the row itself, each letter leads back to it
stays-each : (rows : List Row) (r : ℕ) → stays_at r (row_at rows r).targets ≡ true → (x : Seen) → step_at rows r x ≡ r
stays-each rows r stays Friend = grind (arith, nat_tests)
stays-each rows r stays Enemy = grind (arith, nat_tests)
stays-each rows r stays Empty = grind (arith, nat_tests)
stays-each rows r stays Off = grind (arith, nat_tests)

-- a row of the kind `Dead` is dead
pub kind-dead : (rows : List Row) (r : ℕ) → kind_at rows r ≡ Dead → IsDead rows r
kind-dead rows r e = grind (arith, stays-each, dead-stays)

-- a row of the kind `Plain` accepts nothing
pub kind-plain : (rows : List Row) (r : ℕ) → kind_at rows r ≡ Plain → (row_at rows r).numbers ≡ []
kind-plain rows r e = grind arith
