-- A proof shows a zone: by its first word, and by the proofs that follow it.
use Rattle.std.proofs.Common.{◌≡◌, ◌∙◌, ℕ, zero, suc, ◌+◌, ◌-◌, ◌*◌, ◌<◌, ◌≤◌, ◌&&◌, ◌||◌, Bool, true, false, cond}
use Rattle.std.proofs.Common.{List, [], ◌∷◌, Option, Some, None, refl, sym, ap, subst, inl, inr, arith, ltb, leb}
use Rattle.std.specs.List.{filter, range_with_len}
use Rattle.std.specs.Option.{option_map, option_and_then}
use Rattle.std.specs.Prelude.{codes}
use Rattle.std.specs.Str.{bytes_eq}
use Rattle.std.specs.FinSet as sets
use Rattle.std.proofs.lemmas.List.{ext_get_or}
use Rattle.std.proofs.lemmas.Bool.{cases_Bool, cases_eq, both_ways, and_parts, and_from, or_parts, lt-ltb, ltb-true}
use Rattle.std.proofs.lemmas.Bool.{leb-true}
use Rattle.go_rules.specs.declared.Cell.{Cell}
use Rattle.go_rules.specs.declared.Cell.TheVariants.{Empty}
use Rattle.go_rules.specs.declared.Colour.{Colour}
use Rattle.go_rules.specs.Board.{are_neighbours}
use Rattle.go_rules.specs.Strings.{cell_at, is_stone, same_cell, is_liberty, liberties}
use Rattle.go_rules.specs.Position.{BoardState, IsPosition, other, stone_of}
use Rattle.go_rules.specs.Play.{pass}
use Rattle.go_rules.specs.Rules.{IsOnlyLiberty}
use Rattle.go_rules.proofs.Counts.{any_below_gives}
use Rattle.go_rules.proofs.Paths.{IsLiberty-from_test, is_liberty-from_fact, same_cell-true, same_cell-from}
use Rattle.go_rules.proofs.PlayLaws.{free_keeps, pass_keeps}
use Rattle.read_rules.specs.ActiveArea.{AgreeOn}
use Rattle.read_rules.specs.Candidates.{is_candidate, is_empty_beside, fills, goes_further}
use Rattle.read_rules.specs.declared.node.Node.{Node}
use Rattle.read_rules.specs.declared.turn.Turn.{Turn}
use Rattle.read_rules.specs.GameTree.{has_many_liberties, child_of, next_node, allowance_of, taking_back}
use Rattle.read_rules.specs.Turns.{mover_of}
use Rattle.read_rules.specs.Rules.{IsChild}
use Rattle.read_rules.proofs.CandidateLaws.{candidate_from, candidate_on}
use Rattle.read_rules.proofs.LibertyLemmas.{child_free}
use Rattle.read_rules.proofs.RuleLemmas.{child_gives, child_from, takes_back_gives}
use Rattle.read_proof.specs.Tokens.{Word}
use Rattle.read_proof.specs.Proves.{child_after}
use Rattle.read_proof.proofs.SoundLemmas.{played_on_board}
use Rattle.vertices.specs.Vertices.{target_of as target_named}
use Rattle.wider_rules.specs.FurtherInWords.{links}
use Rattle.sure_rules.specs.Nodes.{is_attackers, is_gone, has_too_many, target_of}
use Rattle.sure_rules.specs.SureTree.{surely_wins}
use Rattle.sure_rules.specs.Zones.{points_of, IsZone}
use Rattle.sure_rules.proofs.ZoneLemmas.{zone_taken_back, zone_attacker, zone_defender}
use Rattle.sure_proof.specs.Rests.{Points, close_to, loss_rests_on}
use Rattle.sure_proof.specs.Rests.{most_wide, most_of_enemy, shown_at, with_string, candidate_rests_on, all_points}
use Rattle.sure_proof.specs.Rests.{guard_of, asked_of}
use Rattle.sure_proof.specs.SureProofs.{Proved, Prover, with_points, behind_word, behind_vertex, is_to, by_capture, by_back}
use Rattle.sure_proof.specs.SureProofs.{by_child, move_rests_on, with_move, with_candidate, with_reply}
use Rattle.sure_proof.specs.SureProofs.{by_move, at_reply, at_replies, replies_to, at_end, behind_pass, by_replies, by_turn}
use Rattle.sure_proof.specs.SureProofs.{proves_surely}
use Rattle.sure_proof.specs.Gathered.{IsWithin}
use Rattle.sure_proof.proofs.ShownLemmas.{insert_self, insert_more, union_first, union_second, below_in, SameOn}
use Rattle.sure_proof.proofs.GuardLemmas.{asks_empty, last_is_asked}
use Rattle.sure_proof.proofs.PlayLemmas.{state}
use Rattle.sure_proof.proofs.SoundLemmas.{has, on_board, zone_on_board, child_there, child_here, stone_of_cell}
use Rattle.sure_proof.proofs.FurtherKept.{wide_candidate, weak_kept, weak_candidate, link_kept}
use Rattle.sure_proof.proofs.FurtherKept.{ShowsCandidate, is_weak, is_link, other_given}
use Rattle.sure_proof.proofs.LossLemmas.{loss_point, loss_zone, play_within}
use Rattle.sure_proof.proofs.SoundLemmas.{liberties_same, count_same, many_same, candidate_without_ban}

-- positions that agree on all points have the same cells
cells_same : (Z : Points) (pos here : BoardState) → IsPosition pos → IsPosition here → AgreeOn (points_of (has Z)) pos here
    → IsWithin (all_points pos.size) Z → pos.cells ≡ here.cells
cells_same Z pos here good sound same within =
    grind (arith, ext_get_or Empty pos.cells here.cells, below_in (pos.size * pos.size))

-- p is a wide candidate by the target's liberties: a wide ply is left, the target has few, and p is empty and next to one
abbrev pub is_wide : Turn → BoardState → ℕ → Bool
is_wide turn pos p = (ltb 0 turn.wide && leb (liberties pos.size pos.cells turn.target) (most_wide turn.tree))
    && is_empty_beside pos.size pos.cells (is_liberty pos.size pos.cells turn.target) p

-- What a candidate rests on.
module _ (turn : Turn) (pos : BoardState) (p : ℕ) where
  -- a liberty rests on what is close to the target
  pub rests_liberty : is_liberty pos.size pos.cells turn.target p ≡ true
      → candidate_rests_on turn pos p ≡ close_to pos.size pos.cells turn.target
  unfolding candidate_rests_on
  rests_liberty t = rw t refl

  -- a point beside a liberty on itself too
  pub rests_wide : is_liberty pos.size pos.cells turn.target p ≡ false → is_wide turn pos p ≡ true
      → candidate_rests_on turn pos p ≡ sets.insert (close_to pos.size pos.cells turn.target) p
  unfolding candidate_rests_on
  rests_wide f t = rw (f, t) refl

  -- any other by another string
  pub rests_other : is_liberty pos.size pos.cells turn.target p ≡ false → is_wide turn pos p ≡ false
      → candidate_rests_on turn pos p
      ≡ with_string pos.size pos.cells turn.target (shown_at turn pos.size pos.cells p)
  unfolding candidate_rests_on
  rests_other f g = rw (f, g) refl

-- Two boards of s rows that agree on what is close to a target that stands.
module _ (turn : Turn) (s : ℕ) (a b : List Cell) (x y : Option (ℕ × Colour)) (p : ℕ) (on : turn.target < s * s)
    (stone : is_stone (cell_at a turn.target) ≡ true) (agree : SameOn (close_to s a turn.target) a b) where
  -- the target has too many liberties on both or on neither
  near_many : has_many_liberties turn (state s b y) ≡ has_many_liberties turn (state s a x)
  near_many = many_same turn s a b x y
      (count_same s a b turn.target (liberties_same s a b turn.target on stone agree))

  -- a liberty is a candidate there
  near_liberty : is_liberty s a turn.target p ≡ true → is_candidate turn (state s b y) p ≡ true
  near_liberty t = candidate_from turn (state s b y) p on (fills (IsLiberty-from_test s b turn.target p
      (sym (liberties_same s a b turn.target on stone agree p) ∙ t)))

  -- and so is a point beside a liberty
  near_wide : turn.attacker_to_play ≡ true → is_wide turn (state s a x) p ≡ true → cell_at a p ≡ cell_at b p
      → is_candidate turn (state s b y) p ≡ true
  unfolding is_empty_beside
  near_wide attacks t here =
      let same = liberties_same s a b turn.target on stone agree in
      let parts = and_parts (ltb 0 turn.wide && leb (liberties s a turn.target) (most_wide turn.tree))
      (is_empty_beside s a (is_liberty s a turn.target) p) t in
      let first = and_parts (ltb 0 turn.wide) (leb (liberties s a turn.target) (most_wide turn.tree)) parts.0 in
      let second = and_parts _ _ parts.1 in
      let third = and_parts (ltb p (s * s)) (same_cell (cell_at a p) Empty) second.0 in
      let found = any_below_gives (s * s) (λ l. is_liberty s a turn.target l && are_neighbours s l p) second.1 in
      let both = and_parts (is_liberty s a turn.target found.0) (are_neighbours s found.0 p) found.2 in
      let count = count_same s a b turn.target same in
      wide_candidate turn (state s b y) p on attacks first.0
      (subst (λ n. n ≤ most_wide turn.tree) count (leb-true (liberties s a turn.target) (most_wide turn.tree) first.1))
      found.0 (IsLiberty-from_test s b turn.target found.0 (sym (same found.0) ∙ both.0))
      (record {
        on_board = ltb-true p (s * s) third.0;
        is_empty = sym here ∙ same_cell-true (cell_at a p) Empty third.1;
        beside = both.1;
      })

  -- and so is a liberty of a string of which the boards show the same, if it shows a candidate
  near_other : turn.attacker_to_play ≡ true → (q : ℕ) → ShowsCandidate turn s a p q → SameOn (close_to s a q) a b
      → is_candidate turn (state s b y) p ≡ true
  near_other attacks q (is_weak weak lib) near =
      let kept = weak_kept s a b turn.target q (most_of_enemy turn.tree) on agree near weak in
      weak_candidate turn (state s b y) p on attacks q kept.0
      (IsLiberty-from_test s b q p (sym (kept.1 p) ∙ is_liberty-from_fact s a q p weak.enemy.on_board lib))
  near_other attacks q (is_link wide wider l link lib) near =
      let kept = link_kept s a b turn.target q 2 l on agree stone near link in
      candidate_from turn (state s b y) p on (goes_further wider (links wide attacks l q kept.0
      (IsLiberty-from_test s b q p (sym (kept.1 p) ∙ is_liberty-from_fact s a q p link.on_board lib))))

-- the same where the candidate rests on what is shown at the point
other_there : (turn : Turn) (pos here : BoardState) (p : ℕ) (Z : Points) → IsPosition pos → IsPosition here
    → turn.target < pos.size * pos.size → is_stone (cell_at pos.cells turn.target) ≡ true
    → turn.attacker_to_play ≡ true → is_candidate turn pos p ≡ true → AgreeOn (points_of (has Z)) pos here
    → (o : Option ℕ) → shown_at turn pos.size pos.cells p ≡ o
    → IsWithin (with_string pos.size pos.cells turn.target o) Z
    → (has_many_liberties turn (state pos.size here.cells here.ban) ≡ has_many_liberties turn pos)
    × (is_candidate turn (state pos.size here.cells here.ban) p ≡ true)
other_there turn pos here p Z good sound on stone attacks candidate same None is all =
    grind (
      arith,
      cells_same Z pos here good sound same all,
      many_same turn pos.size pos.cells here.cells pos.ban here.ban,
      candidate_without_ban turn pos.size pos.cells pos.ban here.ban p candidate,
    )
other_there turn pos here p Z good sound on stone attacks candidate same (Some q) is both =
    let its = close_to pos.size pos.cells turn.target in
    let close : SameOn its pos.cells here.cells = λ x inside.
    same.cells x (both x (union_first x its (close_to pos.size pos.cells q) inside)) in
    let near : SameOn (close_to pos.size pos.cells q) pos.cells here.cells = λ x inside.
    same.cells x (both x (union_second x its (close_to pos.size pos.cells q) inside)) in
    let found = other_given turn pos.size pos.cells p q on is in (
      near_many turn pos.size pos.cells here.cells pos.ban here.ban p on stone close,
      near_other turn pos.size pos.cells here.cells pos.ban here.ban p on stone close attacks q found near,
    )

-- on a position that agrees on what a candidate rests on, the target has too many liberties as here, and the point is a
-- candidate
pub candidate_there : (turn : Turn) (pos here : BoardState) (p : ℕ) (Z : Points) → IsPosition pos → IsPosition here
    → turn.target < pos.size * pos.size → is_stone (cell_at pos.cells turn.target) ≡ true
    → turn.attacker_to_play ≡ true → is_candidate turn pos p ≡ true → AgreeOn (points_of (has Z)) pos here
    → IsWithin (candidate_rests_on turn pos p) Z
    → (has_many_liberties turn here ≡ has_many_liberties turn pos) × (is_candidate turn here p ≡ true)
candidate_there turn pos here p Z good sound on stone attacks candidate same within =
    subst (λ t. (has_many_liberties turn (state t here.cells here.ban) ≡ has_many_liberties turn pos)
    × (is_candidate turn (state t here.cells here.ban) p ≡ true)) same.sizes
    (elim (cases_Bool (is_liberty pos.size pos.cells turn.target p)) [
      | inl t ↦
          let close : SameOn (close_to pos.size pos.cells turn.target) pos.cells here.cells = λ q inside.
          same.cells q (within q (ap (λ (S : Points). has S q) (rests_liberty turn pos p t) ∙ inside)) in (
            near_many turn pos.size pos.cells here.cells pos.ban here.ban p on stone close,
            near_liberty turn pos.size pos.cells here.cells pos.ban here.ban p on stone close t,
          )
      | inr f ↦ elim (cases_Bool (is_wide turn pos p)) [
        | inl t ↦
            let its : (q : ℕ) → has (sets.insert (close_to pos.size pos.cells turn.target) p) q ≡ true
            → cell_at pos.cells q ≡ cell_at here.cells q = λ q inside.
            same.cells q (within q (ap (λ (S : Points). has S q) (rests_wide turn pos p f t) ∙ inside)) in
            let close : SameOn (close_to pos.size pos.cells turn.target) pos.cells here.cells = λ q inside.
            its q (insert_more q (close_to pos.size pos.cells turn.target) p inside) in (
              near_many turn pos.size pos.cells here.cells pos.ban here.ban p on stone close,
              near_wide turn pos.size pos.cells here.cells pos.ban here.ban p on stone close attacks t
                  (its p (insert_self p (close_to pos.size pos.cells turn.target))),
            )
        | inr g ↦ other_there turn pos here p Z good sound on stone attacks candidate same
            (shown_at turn pos.size pos.cells p) refl
            (λ q inside. within q (ap (λ (S : Points). has S q) (rests_other turn pos p f g) ∙ inside))
      ]
    ])

-- The attacker's turn, by a candidate that leads to a child with a zone.
module _ (n : ℕ) (node : Node) (pos : BoardState) (p : ℕ) (next : Node) (first : BoardState) (W : Points)
    (good : IsPosition pos) (on : node.turn.target < pos.size * pos.size) (turn : is_attackers node ≡ true)
    (stands : is_gone node pos ≡ false) (few : has_too_many node pos ≡ false)
    (candidate : is_candidate node.turn pos p ≡ true) (is : child_of node pos p ≡ Some (next, first))
    (zone : IsZone n next first (has W)) where
  -- the points that show it
  abbrev all_of_it : Points
  all_of_it = sets.union (sets.union (candidate_rests_on node.turn pos p) (move_rests_on node pos p W)) W

  -- they are a zone
  play_zone : IsZone (suc n) node pos (has all_of_it)
  play_zone =
      let both : Points = sets.union (candidate_rests_on node.turn pos p) (move_rests_on node pos p W) in
      let p_on = candidate_on node.turn pos p candidate in
      let child = child_gives node pos p next first is in
      let sound_child = free_keeps pos (mover_of node.turn) p first good p_on
      (child_free node pos p next first child).1 in
      let there : (here : BoardState) → IsPosition here → AgreeOn (points_of (has all_of_it)) pos here
      → (has_too_many node here ≡ has_too_many node pos) × (is_candidate node.turn here p ≡ true)
      = λ here sound same. candidate_there node.turn pos here p all_of_it good sound on
      (stone_of_cell (cell_at pos.cells node.turn.target) stands) turn candidate same
      (λ q inside. union_first q both W (union_first q (candidate_rests_on node.turn pos p)
      (move_rests_on node pos p W) inside)) in
      zone_attacker n node pos (has all_of_it) turn (record {
        point = p;
        next = next;
        new = first;
        after = on_board first.size W;
        few = λ here sound same. (there here sound same).0 ∙ few;
        candidate = λ here sound same. (there here sound same).1;
        leads = λ here sound same. child_there node pos here W p all_of_it good sound p_on same
            (λ q inside. union_first q both W (union_second q (candidate_rests_on node.turn pos p)
            (move_rests_on node pos p W) inside)) W (λ q inside. union_second q both W inside) next first child;
        zone = zone_on_board n next first W sound_child zone;
      })

-- wherever a position agrees on Z, the reply at p fails if it can be made
abbrev FailsOn : ℕ → Node → BoardState → Points → ℕ → Type 0
FailsOn n node pos Z p = (here : BoardState) → IsPosition here → AgreeOn (points_of (has Z)) pos here
    → (next : Node) (made : BoardState) → IsChild node here p next made → surely_wins n next made ≡ true

-- A reply of the defender that rests on points of Z.
module _ (n : ℕ) (node : Node) (pos : BoardState) (Y : Points) (p : ℕ) (Z : Points) (good : IsPosition pos)
    (p_on : p < pos.size * pos.size) (rests : IsWithin (move_rests_on node pos p Y) Z) where
  -- if it cannot be made here it cannot be made there
  fails_refused : child_of node pos p ≡ None → FailsOn n node pos Z p
  fails_refused none here sound same next made child =
      let w = child_here node pos here Y p Z good sound p_on same rests next made child in
      absurd (let wrong = sym none ∙ child_from node pos p next w.0 w.1 in cc)

  -- if it can, and its child has a zone within Z, it fails there
  fails_made : (after : Node) (first : BoardState) (W : Points) → child_of node pos p ≡ Some (after, first)
      → IsZone n after first (has W) → IsWithin W Z → FailsOn n node pos Z p
  fails_made after first W is zone within here sound same next made child =
      let here_on = subst (λ s. p < s * s) same.sizes p_on in
      let mine = child_gives node pos p after first is in
      let w = child_there node pos here Y p Z good sound p_on same rests W within after first mine in
      let one : Some (after, w.0) ≡ Some (next, made) =
      sym (child_from node here p after w.0 w.1) ∙ child_from node here p next made child in
      let pair : (after, w.0) ≡ (next, made) = (let e = one in cc) in
      let second_sound = free_keeps here (mover_of node.turn) p w.0 sound here_on
      (child_free node here p after w.0 w.1).1 in
      let first_sound = free_keeps pos (mover_of node.turn) p first good p_on (child_free node pos p after first mine).1 in
      subst (λ (v : Node × BoardState). surely_wins n v.0 v.1 ≡ true) pair
      (zone_on_board n after first W first_sound zone w.0 second_sound w.2)

-- The play that takes back, on points among which are those that show it and a zone of its child.
module _ (n : ℕ) (node : Node) (pos : BoardState) (good : IsPosition pos) (on : node.turn.target < pos.size * pos.size)
    (child : Node × BoardState) (is : taking_back node pos ≡ Some child) (W Z : Points)
    (zone : IsZone n child.0 child.1 (has W)) (rests : IsWithin (loss_rests_on node pos) Z) (within : IsWithin W Z) where
  -- these points are a zone
  back_zone : IsZone (suc n) node pos (has Z)
  back_zone =
      let back = takes_back_gives node pos child.0 child.1 is in
      zone_taken_back n node pos (has Z) (same_cell-from (cell_at pos.cells (target_of node)) Empty back.lost.taken)
      (record {
        point = rests (target_of node) (loss_point node pos);
        fails = λ here sound same next made there.
            fails_made n node pos sets.empty (target_of node) Z good on
            (play_within node pos good on Z rests here sound same next made there) child.0 child.1 W
            (child_from node pos (target_of node) child.0 child.1 back.child) zone within here sound same next made
            there.child;
      })

-- what an optional value that was mapped came of
mapped : (f : Proved → Proved) (o : Option Proved) (found : Proved) → option_map f o ≡ Some found
    → (inner : Proved) × (o ≡ Some inner) × ((f inner).zone ≡ found.zone)
mapped f None found e = absurd (let wrong = e in cc)
mapped f (Some inner) found e =
    let is : f inner ≡ found = (let w = e in cc) in (inner, refl, ap (λ (v : Proved). v.zone) is)

-- what one came of that came behind another
came_behind : {A : Type 0} (f : A → Option Proved) (o : Option A) (found : Proved) → option_and_then f o ≡ Some found
    → (inner : A) × (o ≡ Some inner) × (f inner ≡ Some found)
came_behind f None found e = absurd (let wrong = e in cc)
came_behind f (Some inner) found e = (inner, refl, e)

-- what a prover proves is a zone
abbrev IsSound : ℕ → Prover → Type 0
IsSound n prove = (node : Node) (pos : BoardState) (words : List Word) (found : Proved) → IsPosition pos
    → node.turn.target < pos.size * pos.size → prove node pos words ≡ Some found → IsZone n node pos (has found.zone)

-- The replies at a node of the defender, by a prover.
module _ (n : ℕ) (prove : Prover) (sound : IsSound n prove) (node : Node) (pos : BoardState) (good : IsPosition pos)
    (on : node.turn.target < pos.size * pos.size) where
  -- one reply
  one_reply : (p : ℕ) → p < pos.size * pos.size → (o : Option (Node × BoardState)) → child_of node pos p ≡ o
      → (so_far found : Proved) → at_reply prove node pos p o so_far ≡ Some found
      → IsWithin so_far.zone found.zone × FailsOn n node pos found.zone p
  one_reply p p_on None is so_far found e =
      let same : record { rest = so_far.rest; zone = with_move node pos p so_far.zone } ≡ found
      = (let w = e in cc) in
      let zone = ap (λ (v : Proved). v.zone) same in (
        λ q inside. ap (λ (S : Points). has S q) (sym zone)
            ∙ union_first q so_far.zone (move_rests_on node pos p so_far.zone) inside,
        fails_refused n node pos so_far.zone p found.zone good p_on (λ q inside. ap (λ (S : Points). has S q) (sym zone)
            ∙ union_second q so_far.zone (move_rests_on node pos p so_far.zone) inside) is,
      )
  one_reply p p_on (Some child) is so_far found e =
      let inner = mapped (with_reply node pos p so_far.zone)
      (option_and_then (prove child.0 child.1) (behind_vertex pos.size p so_far.rest)) found e in
      let words = came_behind (prove child.0 child.1) (behind_vertex pos.size p so_far.rest) inner.0 inner.1 in
      let mine = child_gives node pos p child.0 child.1 is in
      let child_sound = free_keeps pos (mover_of node.turn) p child.1 good p_on
      (child_free node pos p child.0 child.1 mine).1 in
      let zone = sound child.0 child.1 words.0 inner.0 child_sound (played_on_board node pos p child on is) words.2 in
      let both : Points = sets.union so_far.zone inner.0.zone in
      let of_all : (q : ℕ) → has (with_move node pos p both) q ≡ true → has found.zone q ≡ true = λ q inside.
      ap (λ (S : Points). has S q) (sym inner.2) ∙ inside in (
        λ q inside. of_all q (union_first q both (move_rests_on node pos p both)
            (union_first q so_far.zone inner.0.zone inside)),
        fails_made n node pos both p found.zone good p_on
            (λ q inside. of_all q (union_second q both (move_rests_on node pos p both) inside)) child.0 child.1
            inner.0.zone is zone
            (λ q inside. of_all q (union_first q both (move_rests_on node pos p both)
            (union_second q so_far.zone inner.0.zone inside))),
      )

  -- what fails on fewer points fails on more
  fails_more : (Y Z : Points) (p : ℕ) → IsWithin Y Z → FailsOn n node pos Y p → FailsOn n node pos Z p
  fails_more Y Z p within fails here here_sound same = fails here here_sound (record {
    sizes = same.sizes;
    cells = λ q inside. same.cells q (within q inside);
    bans = λ q c inside. same.bans q c (within q inside);
  })

  -- the replies from a on that pass the test, one after another
  pub all_replies : (test : ℕ → Bool) (m a : ℕ) → a + m ≤ pos.size * pos.size → (so_far found : Proved)
      → at_replies prove node pos (filter test (range_with_len a m)) so_far ≡ Some found
      → IsWithin so_far.zone found.zone
      × ((p : ℕ) → a ≤ p → p < a + m → test p ≡ true → FailsOn n node pos found.zone p)
  all_replies test zero a few so_far found e =
      let same : so_far ≡ found = (let w = e in cc) in (
        λ q inside. ap (λ (v : Proved). has v.zone q) (sym same) ∙ inside,
        λ p low high. absurd (omega (arith, low, high)),
      )
  all_replies test (suc m) a few so_far found e = elim (cases_Bool (test a)) [
    | inl t ↦
        let split = sym (ap (λ v. at_replies prove node pos
        (cond v (a ∷ filter test (range_with_len (a + 1) m)) (filter test (range_with_len (a + 1) m))) so_far) t) ∙ e in
        let w = came_behind (at_replies prove node pos (filter test (range_with_len (a + 1) m)))
        (at_reply prove node pos a (child_of node pos a) so_far) found split in
        let one = one_reply a (omega (arith, few)) (child_of node pos a) refl so_far w.0 w.1 in
        let rest = all_replies test m (a + 1) (omega (arith, few)) w.0 found w.2 in (
          λ q inside. rest.0 q (one.0 q inside),
          λ p low high passes. elim (cases_eq a p) [
            | inl same ↦ subst (FailsOn n node pos found.zone) same (fails_more w.0.zone found.zone a rest.0 one.1)
            | inr ne ↦ rest.1 p (omega (arith, low, ne)) (omega (arith, high)) passes
          ],
        )
    | inr f ↦
        let skip = sym (ap (λ v. at_replies prove node pos
        (cond v (a ∷ filter test (range_with_len (a + 1) m)) (filter test (range_with_len (a + 1) m))) so_far) f) ∙ e in
        let rest = all_replies test m (a + 1) (omega (arith, few)) so_far found skip in (
          rest.0,
          λ p low high passes. elim (cases_eq a p) [
            | inl same ↦ absurd (both_ways (test p) (ap test (sym same) ∙ f) passes)
            | inr ne ↦ rest.1 p (omega (arith, low, ne)) (omega (arith, high)) passes
          ],
        )
  ]

-- The defender's turn, by the zone of his pass and the replies that it asks for.
module _ (n : ℕ) (node : Node) (pos : BoardState) (P Z : Points) (good : IsPosition pos)
    (turn : is_attackers node ≡ false) (zone : IsZone n (next_node node (allowance_of node)) (pass pos) (has P))
    (within : IsWithin P Z) (guarded : IsWithin (guard_of pos.size pos.cells (other (mover_of node.turn)) P) Z)
    (fails : (p : ℕ) → p < pos.size * pos.size → has (asked_of pos.size pos.cells (other (mover_of node.turn)) P) p ≡ true
    → FailsOn n node pos Z p) where
  -- a point of the pass's zone that is on the board
  its_parts : (q : ℕ) → on_board pos.size P q ≡ true → (has P q ≡ true) × (q < pos.size * pos.size)
  its_parts q inside =
      let parts = and_parts (has P q) (ltb q (pos.size * pos.size)) inside in
      (parts.0, ltb-true q (pos.size * pos.size) parts.1)

  -- the only liberty of an attacker's string with a stone in the pass's zone is asked for
  last_asked : (here : BoardState) → AgreeOn (points_of (has Z)) pos here → (q p : ℕ) → on_board pos.size P q ≡ true
      → cell_at here.cells q ≡ stone_of (other (mover_of node.turn)) → IsOnlyLiberty here.size here.cells q p
      → on_board pos.size (asked_of pos.size pos.cells (other (mover_of node.turn)) P) p ≡ true
  last_asked here same q p inside stone only =
      let c = other (mover_of node.turn) in
      let parts = its_parts q inside in
      let one = subst (λ s. IsOnlyLiberty s here.cells q p) (sym same.sizes) only in
      and_from (has (asked_of pos.size pos.cells c P) p) (ltb p (pos.size * pos.size))
      (last_is_asked pos.size pos.cells here.cells c P (λ r its. same.cells r (within r its))
      (λ r its. same.cells r (guarded r its)) q p parts.1 parts.0 stone one)
      (lt-ltb p (pos.size * pos.size) one.its.on_board)

  -- they show a zone
  pub reply_zone : IsZone (suc n) node pos (has Z)
  reply_zone =
      let c = other (mover_of node.turn) in
      zone_defender n node pos (has Z) turn (record {
        passed = on_board pos.size P;
        is_read = on_board pos.size (asked_of pos.size pos.cells c P);
        zone = zone_on_board n (next_node node (allowance_of node)) (pass pos) P (pass_keeps pos good) zone;
        within = λ q inside. within q (its_parts q inside).0;
        on_board = λ q inside. (its_parts q inside).1;
        empty_points = λ q inside empty.
            let parts = its_parts q inside in
            and_from (has (asked_of pos.size pos.cells c P) q) (ltb q (pos.size * pos.size))
            (asks_empty pos.size pos.cells c P q parts.1 parts.0 empty) (lt-ltb q (pos.size * pos.size) parts.1);
        last_liberties = λ here sound same. last_asked here same;
        fails = λ p read here sound same.
            let parts = and_parts (has (asked_of pos.size pos.cells c P) p) (ltb p (pos.size * pos.size)) read in
            fails p (ltb-true p (pos.size * pos.size) parts.1) parts.0 here sound same;
      })

-- `.` shows a zone
capture_shows : (node : Node) (pos : BoardState) (m : ℕ) (rest : List Word) (found : Proved) → IsPosition pos
    → node.turn.target < pos.size * pos.size → by_capture node pos rest ≡ Some found → IsZone m node pos (has found.zone)
capture_shows node pos m rest found good on e = grind (arith, cases_Bool, loss_zone)

-- What each kind of proof shows, by a prover that is sound.
module _ (n : ℕ) (prove : Prover) (sound : IsSound n prove) (node : Node) (pos : BoardState) (good : IsPosition pos)
    (on : node.turn.target < pos.size * pos.size) where
  -- a vertex
  move_shows : is_attackers node ≡ true → is_gone node pos ≡ false → has_too_many node pos ≡ false
      → (at : Option (Option ℕ)) (rest : List Word) (found : Proved) → by_move prove node pos at rest ≡ Some found
      → IsZone (suc n) node pos (has found.zone)
  unfolding child_after
  move_shows turn stands few None rest found e = absurd (let wrong = e in cc)
  move_shows turn stands few (Some None) rest found e = absurd (let wrong = e in cc)
  move_shows turn stands few (Some (Some p)) rest found e = elim (cases_Bool (is_candidate node.turn pos p)) [
    | inl t ↦ by t (child_of node pos p) refl
        (sym (ap (λ v. by_child prove node pos p (cond v (child_of node pos p) None) rest) t) ∙ e)
    | inr f ↦ absurd (
        let wrong = sym (ap (λ v. by_child prove node pos p (cond v (child_of node pos p) None) rest) f) ∙ e in cc)
  ]
    where
      by : is_candidate node.turn pos p ≡ true → (o : Option (Node × BoardState)) → child_of node pos p ≡ o
          → by_child prove node pos p o rest ≡ Some found → IsZone (suc n) node pos (has found.zone)
      by t None is e = absurd (let wrong = e in cc)
      by t (Some child) is e =
          let inner = mapped (with_candidate node pos p) (prove child.0 child.1 rest) found e in
          let p_on = candidate_on node.turn pos p t in
          let mine = child_gives node pos p child.0 child.1 is in
          let child_sound = free_keeps pos (mover_of node.turn) p child.1 good p_on
          (child_free node pos p child.0 child.1 mine).1 in
          let zone = sound child.0 child.1 rest inner.0 child_sound (played_on_board node pos p child on is) inner.1 in
          subst (λ (S : Points). IsZone (suc n) node pos (has S)) inner.2
          (play_zone n node pos p child.0 child.1 inner.0.zone good on turn stands few t is zone)

  -- `*`
  replies_show : is_attackers node ≡ false → (rest : List Word) (found : Proved)
      → by_replies prove node pos rest ≡ Some found → IsZone (suc n) node pos (has found.zone)
  replies_show turn rest found e =
      let c = other (mover_of node.turn) in
      let next = next_node node (allowance_of node) in
      let first = came_behind (behind_pass prove node pos) (prove next (pass pos) rest) found e in
      let P = first.0.zone in
      let guard = guard_of pos.size pos.cells c P in
      let begun : Proved = record { rest = first.0.rest; zone = sets.union P guard } in
      let second = came_behind at_end (at_replies prove node pos (replies_to node pos P) begun) found first.2 in
      let zone = sound next (pass pos) rest first.0 (pass_keeps pos good) on first.1 in
      let replies = all_replies n prove sound node pos good on (has (asked_of pos.size pos.cells c P))
      (pos.size * pos.size) 0 (omega arith) begun second.0 second.1 in
      let ends = ended second.0 (behind_word (codes ";") second.0.rest) found second.2 in
      subst (λ (S : Points). IsZone (suc n) node pos (has S)) ends
      (reply_zone n node pos P second.0.zone good turn zone
      (λ q inside. replies.0 q (union_first q P guard inside))
      (λ q inside. replies.0 q (union_second q P guard inside))
      (λ p p_on asked. replies.1 p (omega arith) (omega (arith, p_on)) asked))
    where
      ended : (before : Proved) (o : Option (List Word)) (after : Proved)
          → option_map {T = List Word} {U = Proved} (λ left. record { rest = left; zone = before.zone }) o ≡ Some after
          → before.zone ≡ after.zone
      ended before None after e = absurd (let wrong = e in cc)
      ended before (Some left) after e =
          let is : record { rest = left; zone = before.zone } ≡ after = (let w = e in cc) in
          ap (λ (v : Proved). v.zone) is

  -- the vertex of a target that is taken back
  back_shows : (word : Word) (rest : List Word) (found : Proved) (o : Option (Node × BoardState)) → taking_back node pos ≡ o
      → by_back prove node pos word o rest ≡ Some found → IsZone (suc n) node pos (has found.zone)
  back_shows word rest found None is e = absurd (let wrong = e in cc)
  back_shows word rest found (Some child) is e = by (is_to (target_named pos.size word) (target_of node)) e
    where
      by : (named : Bool)
          → cond named (option_map (with_points (loss_rests_on node pos)) (prove child.0 child.1 rest)) None ≡ Some found
          → IsZone (suc n) node pos (has found.zone)
      by false e = absurd (let wrong = e in cc)
      by true e =
          let M : Points = loss_rests_on node pos in
          let inner = mapped (with_points M) (prove child.0 child.1 rest) found e in
          let back = takes_back_gives node pos child.0 child.1 is in
          let led = child_from node pos (target_of node) child.0 child.1 back.child in
          let child_sound = free_keeps pos (mover_of node.turn) (target_of node) child.1 good on
          (child_free node pos (target_of node) child.0 child.1 back.child).1 in
          let zone = sound child.0 child.1 rest inner.0 child_sound
          (played_on_board node pos (target_of node) child on led) inner.1 in
          subst (λ (S : Points). IsZone (suc n) node pos (has S)) inner.2
          (back_zone n node pos good on child is inner.0.zone (sets.union M inner.0.zone) zone
          (λ q inside. union_first q M inner.0.zone inside) (λ q inside. union_second q M inner.0.zone inside))

  -- what follows by the turn
  turn_shows : (word : Word) (rest : List Word) (found : Proved) → by_turn prove node pos word rest ≡ Some found
      → IsZone (suc n) node pos (has found.zone)
  turn_shows word rest found e = elim (cases_Bool (is_attackers node)) [
    | inl turn ↦ attackers turn (is_gone node pos || has_too_many node pos) refl
        (sym (ap (λ v. cond v (cond (is_gone node pos || has_too_many node pos) None
        (by_move prove node pos (target_named pos.size word) rest))
        (cond (bytes_eq word (codes "*")) (by_replies prove node pos rest)
        (by_back prove node pos word (taking_back node pos) rest))) turn) ∙ e)
    | inr turn ↦ defenders turn (bytes_eq word (codes "*"))
        (sym (ap (λ v. cond v (cond (is_gone node pos || has_too_many node pos) None
        (by_move prove node pos (target_named pos.size word) rest))
        (cond (bytes_eq word (codes "*")) (by_replies prove node pos rest)
        (by_back prove node pos word (taking_back node pos) rest))) turn) ∙ e)
  ]
    where
      attackers : is_attackers node ≡ true → (barred : Bool) → (is_gone node pos || has_too_many node pos) ≡ barred
          → cond barred None (by_move prove node pos (target_named pos.size word) rest) ≡ Some found
          → IsZone (suc n) node pos (has found.zone)
      attackers turn true is h = absurd (let wrong = h in cc)
      attackers turn false is h =
          let parts = or_parts (is_gone node pos) (has_too_many node pos) is in
          move_shows turn parts.0 parts.1 (target_named pos.size word) rest found h

      defenders : is_attackers node ≡ false → (every : Bool)
          → cond every (by_replies prove node pos rest) (by_back prove node pos word (taking_back node pos) rest)
          ≡ Some found
          → IsZone (suc n) node pos (has found.zone)
      defenders turn true h = replies_show turn rest found h
      defenders turn false h = back_shows word rest found (taking_back node pos) refl h

-- a proof with n plies left shows a zone
pub proof_shows : (n : ℕ) → IsSound n (proves_surely n)
unfolding proves_surely
proof_shows zero node pos [] found good on e = absurd (let wrong = e in cc)
proof_shows (suc n) node pos [] found good on e = absurd (let wrong = e in cc)
proof_shows zero node pos (word ∷ rest) found good on e = grind (arith, cases_Bool, capture_shows)
proof_shows (suc n) node pos (word ∷ rest) found good on e = elim (cases_Bool (bytes_eq word (codes "."))) [
  | inl t ↦ capture_shows node pos (suc n) rest found good on
      (sym (ap (λ v. cond v (by_capture node pos rest) (by_turn (proves_surely n) node pos word rest)) t) ∙ e)
  | inr f ↦ turn_shows n (proves_surely n) (proof_shows n) node pos good on word rest found
      (sym (ap (λ v. cond v (by_capture node pos rest) (by_turn (proves_surely n) node pos word rest)) f) ∙ e)
]
