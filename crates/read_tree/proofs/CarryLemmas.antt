-- The target's liberties after an attacker's play that does not take it: those before, but for the point of the play.
use Rattle.std.proofs.Common.{◌≡◌, ◌≢◌, ℕ, ◌*◌, ◌<◌, ◌&&◌, Bool, true, not, cond, eqb, List, length, Option, Some, None}
use Rattle.std.proofs.Common.{IfSome, Ok, refl, sym, ap, subst, ◌∙◌, inl, inr, set, arith}
use Rattle.std.proofs.lemmas.Bool.{cases_eq, eq-eqb, ne_eqb, and_parts, and_from, both_ways}
use Rattle.std.specs.Ordering.{nat_cmp}
use Rattle.std.specs.FinSet as sets
use Rattle.go_rules.specs.declared.Cell.{Cell}
use Rattle.go_rules.specs.declared.Cell.TheVariants.{Empty}
use Rattle.go_rules.specs.declared.Colour.{Colour}
use Rattle.go_rules.specs.declared.Colour.TheVariants.{Black as black, White as white}
use Rattle.go_rules.specs.Board.{are_neighbours}
use Rattle.go_rules.specs.Strings.{cell_at, is_stone, Path, step, IsLiberty, is_liberty, liberty_points}
use Rattle.go_rules.specs.Position.{BoardState, other, stone_of}
use Rattle.go_rules.specs.Play.{play_free, cells_after, is_taken}
use Rattle.go_rules.proofs.Links.{path_same, path_keeps, path_back}
use Rattle.go_rules.proofs.Paths.{path_on_board, IsLiberty-from_test, is_liberty-from_fact}
use Rattle.go_rules.proofs.Plays.{at_put_same, at_put_other, at_after, own_not_taken, taken_whole, stone_is}
use Rattle.go_rules.proofs.Sets.{same_nat_set}
use Rattle.go_rules.proofs.Tests.{same_tests}
use Rattle.go_rules.proofs.PlayLaws.{done_state, others_stay, taken_by_words}
use Rattle.go_base.proofs.LastLiberties.{contains-liberty_points}
use Rattle.read_rules.specs.declared.node.Node.{Node}
use Rattle.read_rules.specs.GameTree.{child_of}
use Rattle.read_rules.proofs.RuleLemmas.{child_gives}
use Rattle.read_rules.specs.declared.turn.Turn.{Turn}
use Rattle.read_tree.specs.Allowances.{Ko, under}
use Rattle.read_tree.specs.Steps.{IsCarried}
use Rattle.read_rules.proofs.AfterPlays.{after_liberty}
use Rattle.read_rules.proofs.LibertyLemmas.{child_free}
use Rattle.read_tree.proofs.TakeLemmas.{other_twice}
use Rattle.go_base.specs.Facts.{Fact, SizeIs, Agrees, Grows, agrees_before, same_size}
use Rattle.trial_board.specs.Trials.{Trying, KeepsTrial, after}
use Rattle.trial_board.proofs.AfterLemmas.{size-after}
use Rattle.read_moves.proofs.WholeBoards.{whole_after}
use Rattle.read_rules.proofs.AreaLemmas.{target_on}
use Rattle.read_tree.specs.declared.allowances.Allowances.{Allowances}
use Rattle.read_tree.specs.declared.table.Entry.{Entry}
use Rattle.read_tree.specs.Walk.{IsReady, IsPointOf, AreLibertiesOf, OnEachAgreeing}

-- a stone of one colour is no stone of the other
colours_differ : (c : Colour) → stone_of c ≡ stone_of (other c) → ⊥
colours_differ black e = cc
colours_differ white e = cc

-- c played at p, where that was legal with the ban dropped; the board is whole, and afterwards t holds a stone of the
-- other colour
module _ (pos : BoardState) (c : Colour) (p : ℕ) (new : BoardState) (t : ℕ)
    (whole : length pos.cells ≡ pos.size * pos.size) (p_on : p < pos.size * pos.size)
    (on : t < pos.size * pos.size) (legal : play_free pos c p ≡ Ok new)
    (enemy : cell_at new.cells t ≡ stone_of (other c)) where
  -- the size of the board
  abbrev s : ℕ
  s = pos.size

  -- the cells once the stone was put at p, before any stone is taken
  abbrev put : List Cell
  put = set pos.cells p (stone_of c)

  -- the cells are those after the stone was put
  cells_are : new.cells ≡ cells_after s put c
  cells_are = ap (λ (x : BoardState). x.cells) (done_state pos c p new legal).1

  -- the stone that was put stands
  stands : cell_at new.cells p ≡ stone_of c
  stands = grind (arith, at_put_same, cells_are, at_after, own_not_taken)

  -- a point that holds what t holds is not that of the play, and was so before
  apart : (x : ℕ) → cell_at new.cells x ≡ cell_at new.cells t → x ≢ p
  apart x same e = colours_differ c (sym stands ∙ ap (cell_at new.cells) (sym e) ∙ same ∙ enemy)

  -- a point that holds afterwards what t holds had that stone before
  was : (x : ℕ) → x < s * s → cell_at new.cells x ≡ cell_at new.cells t → cell_at pos.cells x ≡ cell_at new.cells x
  was x x_on same = elim (others_stay pos c p new x legal x_on (apart x same)) [
    | inl kept ↦ sym kept
    | inr taken ↦ absurd (both_ways (is_stone Empty) refl
        (ap is_stone (sym taken.1 ∙ same ∙ enemy) ∙ stone_is (other c)))
  ]

  -- the stone that is put changes no other point
  put_as : (x : ℕ) → x ≢ p → cell_at put x ≡ cell_at pos.cells x
  put_as x ne = at_put_other pos.cells p x (stone_of c) ne

  -- and with the stone put
  stood_put : {x : ℕ} → Path s new.cells t x → Path s put t x
  stood_put path = grind (arith, path_keeps, path_same, put_as, apart, was, path_on_board)

  -- t was not taken
  not_taken : is_taken s put c t ≡ true → ⊥
  not_taken h = grind (arith, both_ways, at_after, cells_are, stone_is)

  -- a point beside the string that is empty now was empty before: a stone that was taken there would have been of the
  -- string
  was_empty : (q x : ℕ) → q < s * s → Path s new.cells t x → are_neighbours s x q ≡ true → cell_at new.cells q ≡ Empty
      → cell_at pos.cells q ≡ Empty
  was_empty q x q_on path near empty = elim (cases_eq q p) [
    | inl e ↦ absurd (both_ways (is_stone Empty) refl
        (ap is_stone (sym empty ∙ ap (cell_at new.cells) e ∙ stands) ∙ stone_is c))
    | inr ne ↦ elim (others_stay pos c p new q legal q_on ne) [
      | inl kept ↦ sym kept ∙ empty
      | inr taken ↦
          let t_put : cell_at put t ≡ stone_of (other c) = put_as t (apart t refl) ∙ was t on refl ∙ enemy in
          let q_put : cell_at put q ≡ cell_at put t = put_as q ne ∙ taken.0 ∙ sym t_put in
          let linked : Path s put t q = step (stood_put path) q_on near q_put in
          absurd (not_taken (taken_whole s put c q t q_on (taken_by_words s put c q taken.2)
          (path_back s put t on linked)))
    ]
  ]

  -- so a liberty after the play was one before
  was_liberty : (q : ℕ) → IsLiberty s new.cells t q → IsLiberty s pos.cells t q
  was_liberty q lib = grind (arith, was_empty, was, path_keeps, path_on_board, path_same)

  -- and is not the point of the play
  not_played : (q : ℕ) → IsLiberty s new.cells t q → q ≢ p
  not_played q lib e = grind (arith, both_ways, stands, stone_is)

  -- one before that is not the point of the play is one after it
  is_still : (q : ℕ) → IsLiberty s pos.cells t q → q ≢ p → IsLiberty s new.cells t q
  is_still q lib ne = subst (λ cells. IsLiberty s cells t q) (sym cells_are)
      (after_liberty s pos.cells c p (done_state pos c p new legal).0 t on q lib ne)

  -- the liberties by the test
  pub carried : (q : ℕ) → (is_liberty s pos.cells t q && not (eqb q p)) ≡ is_liberty s new.cells t q
  carried q = same_tests _ _
      (λ h.
      let both = and_parts (is_liberty s pos.cells t q) (not (eqb q p)) h in
      is_liberty-from_fact s new.cells t q on (is_still q (IsLiberty-from_test s pos.cells t q both.0)
      (λ e. both_ways (not (eqb q p)) (ap (λ x. not (eqb x p)) e ∙ ap not (self p)) both.1)))
      (λ h.
      let lib = IsLiberty-from_test s new.cells t q h in
      and_from _ _ (is_liberty-from_fact s pos.cells t q on (was_liberty q lib))
      (ap not (ne_eqb q p (not_played q lib))))
    where
      self : (x : ℕ) → eqb x x ≡ true
      self x = eq-eqb x x refl

-- an attacker's child comes of a play of the attacker's colour
pub made_free : (turn : Turn) (ko : Ko) (here : BoardState) (p : ℕ) (next : Node) (new : BoardState)
    → child_of (under turn ko) here p ≡ Some (next, new)
    → turn.attacker_to_play ≡ true → play_free here (other turn.defender) p ≡ Ok new
made_free turn ko here p next new is attacks =
    ap (λ b. play_free here (cond b (other turn.defender) turn.defender) p) (sym attacks)
    ∙ (child_free (under turn ko) here p next new (child_gives (under turn ko) here p next new is)).1

-- on a board of s rows the attacker's play at p leads from here to new, and the liberties of the target are known here
pub record IsPlayed (s : ℕ) (turn : Turn) (here : BoardState) (p : ℕ) (new : BoardState)
    (known : sets.FinSet nat_cmp) : Type 0 where
  pub size : here.size ≡ s
  pub whole : length here.cells ≡ here.size * here.size
  pub point_on : p < s * s
  pub target_on : turn.target < s * s
  pub legal : turn.attacker_to_play ≡ true → play_free here (other turn.defender) p ≡ Ok new
  pub known_is : known ≡ liberty_points s here.cells turn.target

-- what is carried along is what is known after the play, over each position of a kind
pub carries : (Agreed : BoardState → Type 0) (turn : Turn) (p : ℕ) (known : sets.FinSet nat_cmp) (here new : BoardState
    → BoardState) (next : Option (sets.FinSet nat_cmp))
    → ((pos : BoardState) → Agreed pos → IfSome next (IsCarried turn (new pos) p known))
    → ((pos : BoardState) → Agreed pos → IsPlayed pos.size turn (here pos) p (new pos) known)
    → IfSome next (λ found. (pos : BoardState) → Agreed pos
    → found ≡ liberty_points pos.size (new pos).cells turn.target)
carries Agreed turn p known here new None h played = tt
carries Agreed turn p known here new (Some next) h played =
    grind (arith, same_nat_set, contains-liberty_points, carried, other_twice)

-- what is carried along after a play that leads to a node under some allowance is what the looks afterwards know
pub carried_on : {L : Type 0} {shows : L → BoardState} {seen : L → Fact → Bool} {old made next : Trying L} {turn : Turn}
    {n : ℕ} {asked : Allowances} {known : sets.FinSet nat_cmp} {entries : List Entry}
    → IsReady shows seen old turn n asked known entries → seen old.look (SizeIs (shows old.look).size) ≡ true
    → (p : ℕ) → IsPointOf shows old p → Grows (seen old.look) (seen made.look) → KeepsTrial shows seen made next
    → (found : Option (sets.FinSet nat_cmp))
    → OnEachAgreeing seen made next (λ here. IfSome found (IsCarried turn here p known)) → (ko : Ko) (node : Node)
    → ((pos : BoardState) → Agrees (seen made.look) pos
    → child_of (under turn ko) (after pos old.moves) p ≡ Some (node, after pos made.moves))
    → IfSome found (AreLibertiesOf seen next turn.target)
carried_on {shows} {seen} {old} {made} {next} {turn} {known} ready told p on grows stays found carried ko node leads =
    rw stays.moves (carries (Agrees (seen next.look)) turn p known (λ pos. after pos old.moves)
    (λ pos. after pos made.moves) found carried (λ pos a.
    let a1 = agrees_before stays.grows a in
    let a0 = agrees_before grows a1 in
    let size = same_size told a0 in
    record {
      size = size-after pos old.moves;
      whole = whole_after pos old.moves a.sound.cells;
      point_on = target_on pos.size (shows old.look).size p size on;
      target_on = target_on pos.size (shows old.look).size turn.target size ready.target;
      legal = made_free turn ko (after pos old.moves) p node (after pos made.moves) (leads pos a1);
      known_is = ready.liberties pos a0;
    }))
