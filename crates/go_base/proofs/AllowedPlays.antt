-- Where a colour may play, by the ban; and the points below a number that pass a test, one after another.
use Rattle.std.proofs.Common.{◌≡◌, ℕ, ◌+◌, ◌*◌, Bool, true, false, refl, arith, is_ok}
use Rattle.std.proofs.lemmas.Bool.{cases_Bool}
use Rattle.std.specs.Ordering.{nat_cmp}
use Rattle.std.specs.FinSet as sets
use Rattle.go_rules.specs.declared.Colour.{Colour}
use Rattle.go_rules.specs.Below.{set_below}
use Rattle.go_rules.specs.Position.{BoardState, is_banned}
use Rattle.go_rules.specs.Play.{play_free, is_legal, legal_points}
use Rattle.go_rules.proofs.Results.{free_occupied, play_occupied, play_ko, play_else}

-- a play on which the ban is is not legal
pub banned_is_illegal : (pos : BoardState) (c : Colour) (p : ℕ) → is_banned pos.ban c p ≡ true
    → false ≡ is_legal pos c p
banned_is_illegal pos c p banned = grind (arith, cases_Bool, is_ok, play_occupied, play_ko)

-- any other play is legal if it is with the ban dropped
pub free_is_legal : (pos : BoardState) (c : Colour) (p : ℕ) → is_banned pos.ban c p ≡ false
    → is_ok (play_free pos c p) ≡ is_legal pos c p
free_is_legal pos c p free = grind (arith, cases_Bool, is_ok, free_occupied, play_occupied, play_else)

-- no point is below 0
pub set_below-none : (test : ℕ → Bool) (found : sets.FinSet nat_cmp) → found ≡ sets.empty → found ≡ set_below 0 test
unfolding set_below
set_below-none test found e = e

-- one point more, which passes the test
pub set_below-passes : (test : ℕ → Bool) (n : ℕ) (found new : sets.FinSet nat_cmp) → found ≡ set_below n test
    → test n ≡ true → new ≡ sets.insert found n → new ≡ set_below (n + 1) test
unfolding set_below
set_below-passes test n found new e t is = grind arith

-- one point more, which fails it
pub set_below-fails : (test : ℕ → Bool) (n : ℕ) (found : sets.FinSet nat_cmp) → found ≡ set_below n test
    → test n ≡ false → found ≡ set_below (n + 1) test
unfolding set_below
set_below-fails test n found e f = grind arith

-- the points of the whole board
pub legal_points-all : (pos : BoardState) (c : Colour)
    → set_below (pos.size * pos.size) (is_legal pos c) ≡ legal_points pos c
unfolding legal_points
legal_points-all pos c = refl
