use Rattle.std.proofs.Common.{◌≡◌, true, false, sym, ap, ◌∙◌, arith}
use Rattle.std.proofs.lemmas.Bool.{not-true, not-false}
use Rattle.std.specs.FinSet as set
use Rattle.go_rules.specs.Strings.{cell_at, is_stone}
use Rattle.go_rules.specs.Position.{other, stone_of}
use Rattle.go_rules.proofs.Cells.{cells_same, cells_differ}
use Rattle.go_rules.proofs.Plays.{stone_is}
use Rattle.go_strings.specs.Named.{IsStringOf}
use Rattle.go_strings.specs.Puts.{IsFriend}
use Rattle.go_strings.specs.Sets.{without}
use Rattle.go_strings.specs.Stands.{cells_of}
use Rattle.go_strings.proofs.LivingStones.{alive_by_empty, alive_by_friend, alive_by_enemy, dead_friend, dead_enemy}
use Rattle.go_strings.proofs.Sides.{enemy_from}
use Rattle.go_strings.proofs.StringNames.{named_there}
use Rattle.go_strings.proofs.living.gives_life.Goals as goal
use Rattle.go_strings.proofs.living.gives_life.Goals.{After-eq-2}

-- an empty side is a liberty
pub returns-then-eq-clause-yes : goal.returns-then-eq-clause-yes
returns-then-eq-clause-yes c = λ _. alive_by_empty c.requires.put c.args.q c.requires.on_board c.requires.near
    (sym c.cell_on-cell.ensures ∙ cells_same _ _ _ c.eq.ensures c.if-eq.true)

-- the string that was read is that of q
string_is : (c : After-eq-2) → is_stone (cell_at (cells_of c.args.board.now) c.args.q) ≡ true
    → IsStringOf c.args.board.now.size (cells_of c.args.board.now) c.args.q c.index-strings-names.result
string_is c stone = grind (arith, named_there)

-- a friend stands there
friend_is : (c : After-eq-2) → c.eq-2.result ≡ true
    → IsFriend c.args.board.now.size (cells_of c.args.board.now) c.args.c c.args.p c.args.q
friend_is c own = grind (arith, cells_same)

-- an enemy stands there
enemy_is : (c : After-eq-2) → c.eq-2.result ≡ false → cell_at (cells_of c.args.board.now) c.args.q
    ≡ stone_of (other c.args.c)
enemy_is c not_own = grind (arith, enemy_from, cells_differ)

-- a friend with another liberty gives life
pub returns-then-eq-2-clause-yes : goal.returns-then-eq-2-clause-yes
returns-then-eq-2-clause-yes c =
    let d = (goal.at.returns-then-eq-2-clause-yes c).After-eq-2 in
    let friend = friend_is d c.if-eq-2.true in
    let there = string_is d (ap is_stone friend.own ∙ stone_is c.args.c) in
    λ t.
    let more = c.is_only-last.ensures.more (not-true _ t) in
    alive_by_friend c.requires.put c.args.q more.0 friend
    (ap (λ l. set.contains (without l c.args.p) more.0) (sym there.liberties) ∙ more.2)

-- one without another gives none
pub returns-then-eq-2-clause-no : goal.returns-then-eq-2-clause-no
returns-then-eq-2-clause-no c =
    let d = (goal.at.returns-then-eq-2-clause-no c).After-eq-2 in
    let friend = friend_is d c.if-eq-2.true in
    let there = string_is d (ap is_stone friend.own ∙ stone_is c.args.c) in
    λ t. dead_friend c.requires.put c.args.q friend.own
    (ap (λ l. without l c.args.p) (sym there.liberties) ∙ c.is_only-last.ensures.only (not-false _ t))

-- an enemy without another liberty is taken
pub returns-clause-yes : goal.returns-clause-yes
returns-clause-yes c =
    let d = (goal.at.returns-clause-yes c).After-eq-2 in
    let enemy = enemy_is d c.if-eq-2.false in
    let there = string_is d (ap is_stone enemy ∙ stone_is (other c.args.c)) in
    λ t. alive_by_enemy c.requires.put c.args.q c.requires.on_board enemy
    (ap (λ l. without l c.args.p) (sym there.liberties) ∙ c.is_only-last.ensures.only t)

-- and one with another is not
pub returns-clause-no : goal.returns-clause-no
returns-clause-no c =
    let d = (goal.at.returns-clause-no c).After-eq-2 in
    let enemy = enemy_is d c.if-eq-2.false in
    let there = string_is d (ap is_stone enemy ∙ stone_is (other c.args.c)) in
    λ t.
    let more = c.is_only-last.ensures.more t in
    dead_enemy c.requires.put c.args.q more.0 c.requires.on_board enemy
    (ap (λ l. set.contains (without l c.args.p) more.0) (sym there.liberties) ∙ more.2)
