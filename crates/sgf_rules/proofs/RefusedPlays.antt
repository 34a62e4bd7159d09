-- Where a play of a node is refused: the first value whose move the rules refuse.
use Rattle.std.proofs.Common.{◌≡◌, ◌↔◌, ℕ, true, List, [], ◌∷◌, ◌++◌, Option, Some, None, Result, Ok, Err}
use Rattle.std.proofs.Common.{refl, ap, ◌∙◌, arith}
use Rattle.std.specs.List.{list_all}
use Rattle.go_rules.specs.declared.Colour.{Colour}
use Rattle.go_rules.specs.declared.Illegal.{Illegal}
use Rattle.go_rules.specs.Position.{BoardState}
use Rattle.go_rules.specs.Replay.{moved_to}
use Rattle.sgf_rules.specs.declared.kind.FaultKind.{FaultKind}
use Rattle.sgf_rules.specs.declared.kind.FaultKind.TheVariants.{IllegalPlay}
use Rattle.sgf_rules.specs.declared.meaning.Meaning.TheVariants.{Size, Setup, Play}
use Rattle.sgf_rules.specs.Uses.{Use}
use Rattle.sgf_rules.specs.Points.{move_of}
use Rattle.sgf_rules.specs.Game.{is_readable, after_setup, or_illegal, after_move, after_use, and_then, after_uses}
use Rattle.sgf_rules.specs.Game.{after_node, HasRefusedPlay}

-- the first of these values is a refused move, with these values behind it
first_is_refused : (pos : BoardState) (c : Colour) (v : List ℕ) (us : List Use) (at : Option ℕ) (why : Illegal)
    → move_of pos.size v ≡ Some at → moved_to pos c at ≡ Err why → HasRefusedPlay pos ((Play c, v) ∷ us)
unfolding after_uses
first_is_refused pos c v us at why says refused = record {
  before = [];
  after = us;
  colour = c;
  value = v;
  place = refl;
  reached = pos;
  led = refl;
  at = at;
  says = says;
  why = why;
  refused = refused;
}

-- a value that says a move of this kind has a refused move if its fault is that of a play
module _ (pos : BoardState) (c : Colour) (v : List ℕ) (us : List Use) where
  by_answer : (at : Option ℕ) → move_of pos.size v ≡ Some at → (r : Result BoardState Illegal) → moved_to pos c at ≡ r
      → or_illegal r ≡ Err IllegalPlay → HasRefusedPlay pos ((Play c, v) ∷ us)
  by_answer at says (Ok next) is e = absurd (cc)
  by_answer at says (Err why) is e = first_is_refused pos c v us at why says is

  by_move : (m : Option (Option ℕ)) → move_of pos.size v ≡ m → after_move pos c m ≡ Err IllegalPlay
      → HasRefusedPlay pos ((Play c, v) ∷ us)
  by_move None says e = absurd (cc)
  by_move (Some at) says e = by_answer at says (moved_to pos c at) refl e

-- a value whose fault is that of a play says a refused move
value_refused : (pos : BoardState) (u : Use) (us : List Use) → after_use pos u ≡ Err IllegalPlay
    → HasRefusedPlay pos (u ∷ us)
value_refused pos (Size, v) us e = absurd (cc)
value_refused pos (Setup cell, v) us e = absurd (cc)
value_refused pos (Play c, v) us e = by_move pos c v us (move_of pos.size v) refl e

-- a refused move behind a value that leads to a position
behind : (pos next : BoardState) (u : Use) (us : List Use) → after_use pos u ≡ Ok next → HasRefusedPlay next us
    → HasRefusedPlay pos (u ∷ us)
unfolding after_uses
behind pos next u us leads has = record {
  before = u ∷ has.before;
  after = has.after;
  colour = has.colour;
  value = has.value;
  place = ap (λ l. u ∷ l) has.place;
  reached = has.reached;
  led = ap (λ r. and_then r (λ n. after_uses n has.before)) leads ∙ has.led;
  at = has.at;
  says = has.says;
  why = has.why;
  refused = has.refused;
}

-- if the fault of values is that of a play, one of their moves is refused
refused-from : (us : List Use) (pos : BoardState) → after_uses pos us ≡ Err IllegalPlay → HasRefusedPlay pos us
unfolding after_uses
refused-from [] pos e = absurd (cc)
refused-from (u ∷ us) pos e = by_step (after_use pos u) refl e (λ next. refused-from us next)
  where
    by_step : (r : Result BoardState FaultKind) → after_use pos u ≡ r
        → and_then r (λ next. after_uses next us) ≡ Err IllegalPlay
        → ((next : BoardState) → after_uses next us ≡ Err IllegalPlay → HasRefusedPlay next us)
        → HasRefusedPlay pos (u ∷ us)
    by_step (Ok next) is fault later = behind pos next u us is (later next fault)
    by_step (Err kind) is fault later = value_refused pos u us (is ∙ fault)

-- values behind others are looked at on the position to which these lead
after_more : (before rest : List Use) (pos reached : BoardState) → after_uses pos before ≡ Ok reached
    → after_uses pos (before ++ rest) ≡ after_uses reached rest
unfolding after_uses
after_more [] rest pos reached led = let same : pos ≡ reached = cc in ap (λ p. after_uses p rest) same
after_more (u ∷ us) rest pos reached led = grind (arith, after_more us rest)

-- if one of their moves is refused, the fault of values is that of a play
refused-to : (us : List Use) (pos : BoardState) → HasRefusedPlay pos us → after_uses pos us ≡ Err IllegalPlay
unfolding after_uses
refused-to us pos has =
    let here : after_use has.reached (Play has.colour, has.value) ≡ Err IllegalPlay =
    ap (after_move has.reached has.colour) has.says ∙ ap or_illegal has.refused in
    ap (after_uses pos) has.place
    ∙ after_more has.before ((Play has.colour, has.value) ∷ has.after) pos has.reached has.led
    ∙ ap (λ r. and_then r (λ next. after_uses next has.after)) here

-- a node whose values can be read and whose setup stands has the fault of a play exactly if a move is refused
pub play_fault : (pos now : BoardState) (us : List Use) → list_all (is_readable pos.size) us ≡ true
    → after_setup pos us ≡ Ok now → (after_node pos us ≡ Err IllegalPlay) ↔ HasRefusedPlay now us
unfolding after_node
play_fault pos now us readable stands = grind (arith, refused-from, refused-to)
