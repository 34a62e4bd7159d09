-- Which kinds of fault come where.
use Rattle.std.proofs.Common.{◌≡◌, ◌↔◌, ◌⊎◌, inl, inr, ℕ, Bool, true, false, cond, List, [], ◌∷◌, ◌++◌}
use Rattle.std.proofs.Common.{Option, Some, None, Result, Ok, Err, IfErr, refl, sym, ap, subst, ◌∙◌, arith}
use Rattle.std.proofs.lemmas.Bool.{cases_Bool}
use Rattle.std.specs.List.{list_all, list_any}
use Rattle.go_rules.specs.declared.Colour.{Colour}
use Rattle.go_rules.specs.declared.Illegal.{Illegal}
use Rattle.go_rules.specs.Position.{BoardState, board_of}
use Rattle.go_rules.specs.Replay.{empty_board, moved_to}
use Rattle.go_base.specs.Setups.{has_dead_string}
use Rattle.sgf_rules.specs.declared.kind.FaultKind.{FaultKind}
use Rattle.sgf_rules.specs.declared.kind.FaultKind.TheVariants.{Grammar, BadSize, BadValue, NoLiberty, IllegalPlay}
use Rattle.sgf_rules.specs.declared.meaning.Meaning.TheVariants.{Size, Setup, Play}
use Rattle.sgf_rules.specs.Trees.{Node}
use Rattle.sgf_rules.specs.MainLine.{main_line}
use Rattle.sgf_rules.specs.Uses.{Use, uses_in}
use Rattle.sgf_rules.specs.Points.{move_of}
use Rattle.sgf_rules.specs.Game.{size_of_nodes, is_readable, is_setup, cells_after_uses, position_with, after_setup}
use Rattle.sgf_rules.specs.Game.{or_illegal, after_move, after_use, and_then, after_uses, after_node, after_nodes}
use Rattle.sgf_rules.specs.Game.{HasDeadSetup, game_on, game_along, game_of}

-- what holds of faults of these kinds holds of faults of more kinds
weaker : (r : Result BoardState FaultKind) (P Q : FaultKind → Type 0) → IfErr r P → ((k : FaultKind) → P k → Q k)
    → IfErr r Q
weaker (Ok pos) P Q h more = tt
weaker (Err k) P Q h more = more k h

-- a fault is of a kind that faults are of
of_kind : (r : Result BoardState FaultKind) (P : FaultKind → Type 0) (k : FaultKind) → IfErr r P → r ≡ Err k → P k
of_kind (Ok pos) P k h e = absurd (cc)
of_kind (Err j) P k h e = let same : j ≡ k = cc in subst P same h

-- of two steps the fault is that of the first or of the second
of_steps : (P : FaultKind → Type 0) (r : Result BoardState FaultKind) (f : BoardState → Result BoardState FaultKind)
    → IfErr r P → ((next : BoardState) → IfErr (f next) P) → IfErr (and_then r f) P
of_steps P (Ok next) f h g = g next
of_steps P (Err kind) f h g = h

-- of a choice it is that of one side
of_choice : (P : FaultKind → Type 0) (b : Bool) (r q : Result BoardState FaultKind) → IfErr r P → IfErr q P
    → IfErr (cond b r q) P
of_choice P true r q h g = h
of_choice P false r q h g = g

-- the kind is that of a refused play
abbrev IsPlays : FaultKind → Type 0
IsPlays k = k ≡ IllegalPlay

-- so is the fault of a play
of_play : (r : Result BoardState Illegal) → IfErr (or_illegal r) IsPlays
of_play (Ok next) = tt
of_play (Err e) = refl

-- of a move
of_move : (pos : BoardState) (c : Colour) (m : Option (Option ℕ)) → IfErr (after_move pos c m) IsPlays
of_move pos c None = tt
of_move pos c (Some at) = of_play (moved_to pos c at)

-- of a value
of_use : (pos : BoardState) (u : Use) → IfErr (after_use pos u) IsPlays
of_use pos (Size, v) = tt
of_use pos (Setup cell, v) = tt
of_use pos (Play c, v) = of_move pos c (move_of pos.size v)

-- and of values one after another
of_uses : (us : List Use) (pos : BoardState) → IfErr (after_uses pos us) IsPlays
unfolding after_uses
of_uses [] pos = tt
of_uses (u ∷ us) pos = grind (arith, of_steps, of_use, of_uses us)

-- the fault of a setup is a string without a liberty
of_setup : (pos : BoardState) (us : List Use) → IfErr (after_setup pos us) (λ k. k ≡ NoLiberty)
unfolding position_with
of_setup pos us = grind (arith, of_choice)

-- the kind is that of a setup or of a play
abbrev IsBoards : FaultKind → Type 0
IsBoards k = (k ≡ NoLiberty) ⊎ (k ≡ IllegalPlay)

-- the fault of a setup and the plays behind it is one of these
of_setup_and_plays : (pos : BoardState) (us : List Use)
    → IfErr (and_then (after_setup pos us) (λ next. after_uses next us)) IsBoards
of_setup_and_plays pos us =
    grind (arith, of_steps IsBoards (after_setup pos us), weaker (after_setup pos us), of_setup pos us, of_uses us)

-- the kind is that of a node
abbrev IsNodes : FaultKind → Type 0
IsNodes k = (k ≡ Grammar → ⊥) × (k ≡ BadSize → ⊥)

-- these are kinds of a node
boards_are_nodes : (k : FaultKind) → IsBoards k → IsNodes k
boards_are_nodes Grammar h = grind arith
boards_are_nodes BadSize h = grind arith
boards_are_nodes BadValue h = ((λ e. cc), (λ e. cc))
boards_are_nodes NoLiberty h = ((λ e. cc), (λ e. cc))
boards_are_nodes IllegalPlay h = ((λ e. cc), (λ e. cc))

-- the fault of a node is
of_node : (pos : BoardState) (us : List Use) → IfErr (after_node pos us) IsNodes
unfolding after_node
of_node pos us =
    grind (
      arith,
      of_choice IsNodes (list_all (is_readable pos.size) us),
      of_setup_and_plays pos us,
      weaker,
      boards_are_nodes,
    )

-- nodes one after another
of_nodes : (nodes : List Node) (pos : BoardState) → IfErr (after_nodes pos nodes) IsNodes
unfolding after_nodes
of_nodes [] pos = tt
of_nodes (n ∷ ns) pos = grind (arith, of_steps, of_node, of_nodes ns)

-- a record with a main line and a size has the position after its nodes, or their fault
pub game_with : (text : List ℕ) (nodes : List Node) (s : ℕ) → main_line text ≡ Some nodes
    → size_of_nodes nodes ≡ Some s → game_of text ≡ after_nodes (empty_board s) nodes
unfolding game_of
game_with text nodes s line size = ap game_along line ∙ ap (λ s. game_on s nodes) size

-- without a size it has kind 2
game_without_size : (text : List ℕ) (nodes : List Node) → main_line text ≡ Some nodes
    → size_of_nodes nodes ≡ None → game_of text ≡ Err BadSize
unfolding game_of
game_without_size text nodes line none = ap game_along line ∙ ap (λ s. game_on s nodes) none

-- and without a main line kind 1
pub game_without_line : (text : List ℕ) → main_line text ≡ None → game_of text ≡ Err Grammar
unfolding game_of
game_without_line text none = ap game_along none

-- a record with a main line has no fault of the grammar
no_grammar : (nodes : List Node) (s : Option ℕ) → game_on s nodes ≡ Err Grammar → ⊥
no_grammar nodes None e = cc
no_grammar nodes (Some s) e =
    (of_kind (after_nodes (empty_board s) nodes) IsNodes Grammar (of_nodes nodes (empty_board s)) e).0 refl

-- the same of its text
pub line_no_grammar : (text : List ℕ) (nodes : List Node) → main_line text ≡ Some nodes → game_of text ≡ Err Grammar → ⊥
unfolding game_of
line_no_grammar text nodes line e = no_grammar nodes (size_of_nodes nodes) (sym (ap game_along line) ∙ e)

-- a record with a main line has a fault of the size exactly where that says none
pub size_fault : (text : List ℕ) (nodes : List Node) → main_line text ≡ Some nodes
    → (game_of text ≡ Err BadSize) ↔ (size_of_nodes nodes ≡ None)
size_fault text nodes line =
    ((λ e. by_size (size_of_nodes nodes) refl e), (λ none. game_without_size text nodes line none))
  where
    by_size : (s : Option ℕ) → size_of_nodes nodes ≡ s → game_of text ≡ Err BadSize → s ≡ None
    by_size None e f = refl
    by_size (Some s) e f = absurd ((of_kind (after_nodes (empty_board s) nodes) IsNodes BadSize
        (of_nodes nodes (empty_board s)) (sym (game_with text nodes s line e) ∙ f)).1 refl)

-- what one step leads on from, another does too
step_on : (r : Result BoardState FaultKind) (f g : BoardState → Result BoardState FaultKind) (now : BoardState)
    (kind : FaultKind) → and_then r f ≡ Ok now → ((next : BoardState) → f next ≡ Ok now → g next ≡ Err kind)
    → and_then r g ≡ Err kind
step_on (Ok next) f g now kind e more = more next e
step_on (Err k) f g now kind e more = absurd (cc)

-- a fault of a node is that of all nodes, where those before it have none
pub first_faulty_node : (pos now : BoardState) (earlier later : List Node) (n : Node) (kind : FaultKind)
    → after_nodes pos earlier ≡ Ok now → after_node now (uses_in n) ≡ Err kind
    → after_nodes pos (earlier ++ n ∷ later) ≡ Err kind
unfolding after_nodes
first_faulty_node pos now [] later n kind e f = grind arith
first_faulty_node pos now (m ∷ ms) later n kind e f =
    step_on (after_node pos (uses_in m)) (λ next. after_nodes next ms) (λ next. after_nodes next (ms ++ n ∷ later)) now
    kind e (λ next h. first_faulty_node next now ms later n kind h f)

-- a value that says nothing is none of these
no_value_fault : IsBoards BadValue → ⊥
no_value_fault (inl e) = cc
no_value_fault (inr e) = cc

-- a node has kind 3 exactly where one of its used values does not say what it should
pub value_fault : (pos : BoardState) (us : List Use)
    → (after_node pos us ≡ Err BadValue) ↔ (list_all (is_readable pos.size) us ≡ false)
unfolding after_node
value_fault pos us =
    grind (arith, cases_Bool (list_all (is_readable pos.size) us), of_setup_and_plays pos us, no_value_fault, of_kind)

-- a setup without a string that has no liberty leads on
setup_made : (pos : BoardState) (us : List Use) → list_any is_setup us ≡ true
    → has_dead_string pos.size (cells_after_uses pos.size pos.cells us) ≡ false
    → after_setup pos us ≡ Ok (board_of pos.size (cells_after_uses pos.size pos.cells us))
unfolding position_with
setup_made pos us some alive = rw (some, alive) refl

-- a node whose setup leads on has no string without a liberty
setup_leads_on : (pos next : BoardState) (us : List Use) → after_setup pos us ≡ Ok next
    → and_then (after_setup pos us) (λ next. after_uses next us) ≡ Err NoLiberty → ⊥
setup_leads_on pos next us e f = grind (arith, of_uses us, of_kind)

-- where its values say what they should, a node has kind 4 exactly where its setup leaves a string without a liberty
pub liberty_fault : (pos : BoardState) (us : List Use) → list_all (is_readable pos.size) us ≡ true
    → (after_node pos us ≡ Err NoLiberty) ↔ HasDeadSetup pos us
unfolding after_node position_with
liberty_fault pos us all = grind (arith, cases_Bool, setup_leads_on, setup_made)
