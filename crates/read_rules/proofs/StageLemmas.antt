-- The candidates by stages, and by the sets of points that are gathered for them.
use Rattle.std.proofs.Common.{◌≡◌, ℕ, ◌*◌, ◌&&◌, ◌||◌, Bool, true, false, ltb, List, refl, ap, ◌∙◌, arith}
use Rattle.std.proofs.lemmas.Bool.{and_parts, and_from}
use Rattle.std.specs.Ordering.{nat_cmp}
use Rattle.std.specs.FinSet as sets
use Rattle.go_rules.specs.declared.Cell.{Cell}
use Rattle.go_rules.specs.declared.Colour.{Colour}
use Rattle.go_rules.specs.Below.{any_below}
use Rattle.go_rules.specs.Strings.{cell_at, is_liberty, liberties, liberty_points}
use Rattle.go_rules.specs.Position.{BoardState}
use Rattle.go_rules.proofs.Counts.{any_below_gives, any_below_from, any_below_same}
use Rattle.go_rules.proofs.Tests.{same_tests}
use Rattle.go_base.specs.Surroundings.{is_last_liberty_of_enemy}
use Rattle.go_base.proofs.LastLiberties.{contains-liberty_points}
use Rattle.go_base.proofs.Liberties.{len-liberty_points}
use Rattle.wider_rules.specs.Further.{is_further_always, is_further}
use Rattle.read_rules.specs.declared.turn.Turn.{Turn}
use Rattle.read_rules.specs.declared.tree.Tree.TheVariants.{Stated, Wider}
use Rattle.read_rules.specs.Trees.{is_wider}
use Rattle.read_rules.specs.Candidates.{attacker_of, is_empty_beside, is_backfilling, is_candidate, is_left}
use Rattle.read_rules.specs.Stages.{is_wide_by_liberties, is_later_candidate, has_later_candidates}

-- nothing more is the same
or_false : (a : Bool) → a ≡ (a || false)
or_false true = refl
or_false false = refl

-- a liberty, a neighbour with a wide ply, a last liberty, a backfilling move with a wide ply, or a further candidate:
-- the two with a wide ply and the further candidate come last
later_last : (l w f e t b x : Bool)
    → ((((l || ((w && f) && e)) || t) || (w && b)) || x) ≡ ((l || t) || ((w && ((f && e) || b)) || x))
later_last true w f e t b x = refl
later_last false false f e true b x = refl
later_last false false f e false b x = refl
later_last false true false e true b x = refl
later_last false true false e false b x = refl
later_last false true true true true b x = refl
later_last false true true true false b x = refl
later_last false true true false true b x = refl
later_last false true true false false b x = refl

-- the candidates are the liberties, the last liberties of enemy strings, and the later candidates
pub candidate_stages : (turn : Turn) (here : BoardState) (p : ℕ) → is_candidate turn here p
    ≡ ((is_liberty here.size here.cells turn.target p || is_last_liberty_of_enemy here.size here.cells turn.target p)
    || is_later_candidate turn here p)
unfolding is_candidate is_later_candidate is_wide_by_liberties
candidate_stages turn here p = grind (arith, later_last)

-- the later candidates are those by the target's liberties with a wide ply, and in the wider tree the further
-- candidates
pub later_further : (turn : Turn) (here : BoardState) (p : ℕ) (wide further : Bool)
    → wide ≡ (ltb 0 turn.wide && is_wide_by_liberties here turn.target p)
    → further ≡ (is_wider turn.tree
    && is_further (ltb 0 turn.wide) turn.attacker_to_play here.size here.cells turn.target p)
    → (wide || further) ≡ is_later_candidate turn here p
unfolding is_later_candidate
later_further turn here p wide further ew ef = grind arith

-- in the stated tree the later candidates are those by the target's liberties with a wide ply
pub later_stated : (turn : Turn) (here : BoardState) (p : ℕ) (wide : Bool) → turn.tree ≡ Stated
    → wide ≡ (ltb 0 turn.wide && is_wide_by_liberties here turn.target p) → wide ≡ is_later_candidate turn here p
later_stated turn here p wide is ew = grind (arith, or_false wide, later_further turn here p wide false ew)

-- if there may be no later candidates at the turn, no point is one
pub later_none : (turn : Turn) (here : BoardState) (p : ℕ) → has_later_candidates turn ≡ false
    → is_later_candidate turn here p ≡ false
unfolding is_later_candidate
later_none turn here p none = grind arith

-- without wide plies the later candidates of the wider tree are the further candidates of every ply
pub later_narrow : (turn : Turn) (here : BoardState) (p : ℕ) → turn.tree ≡ Wider → turn.wide ≡ 0
    → is_later_candidate turn here p ≡ is_further_always turn.attacker_to_play here.size here.cells turn.target p
unfolding is_later_candidate is_further
later_narrow turn here p is none = grind (arith, or_false)

-- which empty points are beside points of a set depends on the set's members alone
empty_beside_same : (s : ℕ) (cells : List Cell) (S T : ℕ → Bool) (q : ℕ) → ((l : ℕ) → S l ≡ T l)
    → is_empty_beside s cells S q ≡ is_empty_beside s cells T q
unfolding is_empty_beside
empty_beside_same s cells S T q h = grind (arith, any_below_same)

-- the set of the liberties has the liberties, and as many
pub has_liberty : (s : ℕ) (cells : List Cell) (target l : ℕ) (libs : sets.FinSet nat_cmp)
    → libs ≡ liberty_points s cells target
    → sets.contains libs l ≡ is_liberty s cells target l
has_liberty s cells target l libs el = ap (λ t. sets.contains t l) el ∙ contains-liberty_points s cells target l

-- the set of the liberties has as many members as the target has liberties
how_many : (s : ℕ) (cells : List Cell) (target : ℕ) (libs : sets.FinSet nat_cmp) → libs ≡ liberty_points s cells target
    → sets.len libs ≡ liberties s cells target
how_many s cells target libs el = ap sets.len el ∙ len-liberty_points s cells target

-- the points that the attacker's plays at the liberties leave are the backfilling moves
left_is_backfilling : (here : BoardState) (c : Colour) (target p : ℕ) (libs : sets.FinSet nat_cmp)
    → libs ≡ liberty_points here.size here.cells target
    → c ≡ attacker_of (cell_at here.cells target)
    → any_below (here.size * here.size) (λ l. sets.contains libs l && is_left here c l p) ≡ is_backfilling here target p
unfolding is_backfilling
left_is_backfilling here c target p libs el ec =
    grind (arith, same_tests, any_below_gives, and_parts, has_liberty, and_from, any_below_from)

-- What was gathered for a target on the position here: its liberties.
module _ (here : BoardState) (target p : ℕ) (libs : sets.FinSet nat_cmp)
    (el : libs ≡ liberty_points here.size here.cells target) where
  -- the empty neighbours of at most two liberties and what the attacker's plays leave, added to none, are the wide
  -- candidates by the liberties
  pub wide_is : (old : sets.FinSet nat_cmp) (c : Colour) (x : Bool) → old ≡ sets.empty
      → c ≡ attacker_of (cell_at here.cells target)
      → x ≡ ((sets.contains old p
      || (ltb (sets.len libs) 3 && is_empty_beside here.size here.cells (sets.contains libs) p))
      || any_below (here.size * here.size) (λ l. sets.contains libs l && is_left here c l p))
      → x ≡ is_wide_by_liberties here target p
  unfolding is_wide_by_liberties
  wide_is old c x none ec ex =
      let beside = λ (S : ℕ → Bool). is_empty_beside here.size here.cells S p in
      let left = any_below (here.size * here.size) (λ l. sets.contains libs l && is_left here c l p) in
      ex ∙ ap (λ y. (y || (ltb (sets.len libs) 3 && beside (sets.contains libs))) || left)
      (ap (λ t. sets.contains t p) none ∙ sets.contains-empty nat_cmp p)
      ∙ ap (λ n. (ltb n 3 && beside (sets.contains libs)) || left) (how_many here.size here.cells target libs el)
      ∙ ap (λ y. (ltb (liberties here.size here.cells target) 3 && y) || left)
      (empty_beside_same here.size here.cells (sets.contains libs) (is_liberty here.size here.cells target) p
      (λ q. has_liberty here.size here.cells target q libs el))
      ∙ ap (λ y. (ltb (liberties here.size here.cells target) 3 && beside (is_liberty here.size here.cells target))
      || y) (left_is_backfilling here c target p libs el ec)

-- What was gathered for a target on the position here: its liberties, and the last liberties of the enemy strings next
-- to it.
module _ (turn : Turn) (here : BoardState) (p : ℕ) (libs last : sets.FinSet nat_cmp)
    (el : libs ≡ liberty_points here.size here.cells turn.target)
    (et : sets.contains last p ≡ is_last_liberty_of_enemy here.size here.cells turn.target p) where
  -- if there may be no later candidates, these are the candidates
  pub candidate_plain : (x : Bool) → has_later_candidates turn ≡ false
      → x ≡ (sets.contains last p || sets.contains libs p)
      → x ≡ is_candidate turn here p
  candidate_plain x none ex = grind (arith, or_false, has_liberty, candidate_stages, later_none)

  -- together with the later candidates they are the candidates
  pub candidate_later : (x later : Bool) → later ≡ is_later_candidate turn here p
      → x ≡ ((sets.contains last p || sets.contains libs p) || later) → x ≡ is_candidate turn here p
  candidate_later x later is ex = grind (arith, has_liberty, candidate_stages)
