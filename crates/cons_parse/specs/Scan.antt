-- The walk over items: what is open at a place, and whether a leaf before it stands too deep.
use Rattle.std.specs.Prelude.{◌≡◌, Bool, true, false, ◌||◌, nat_lt, List, [], ◌∷◌, length, reverse, Option, Some, None}
use Rattle.std.specs.Prelude.{if◌then◌else◌}
use Rattle.std.specs.Option.{option_and_then}
use Rattle.pat_types.specs.declared.expr.Op.{Op}
use Rattle.pat_types.specs.declared.expr.Op.TheVariants.{Sub}
use Rattle.cons_parse.specs.declared.calls.Item.{Item}
use Rattle.cons_parse.specs.declared.calls.Item.TheVariants as item
use Rattle.cons_parse.specs.declared.scan.Opener.{Opener}
use Rattle.cons_parse.specs.declared.scan.Opener.TheVariants.{Prefix, Parenthesis}
use Rattle.cons_parse.specs.declared.scan.Place.{Place}
use Rattle.cons_parse.specs.Faults.{most_levels}

-- a place: what is open, the newest first; whether an operand stands before the place; and whether a leaf before the
-- place is too deep
pub record Spot : Type 0 where
  pub openers : List Opener
  pub after : Bool
  pub deep : Bool

-- the place that the code keeps, as the definitions have it
abbrev pub spot_of : Place → Spot
spot_of p = record { openers = reverse p.openers.items; after = p.after; deep = p.deep }

-- the newest opener is a sign before its operand
abbrev pub is_prefixed : List Opener → Bool
is_prefixed [] = false
is_prefixed (Prefix ∷ ms) = true
is_prefixed (Parenthesis ∷ ms) = false

-- what stays open once the operand behind the newest signs has been read
abbrev pub settled : List Opener → List Opener
settled [] = []
settled (Prefix ∷ ms) = settled ms
settled (Parenthesis ∷ ms) = Parenthesis ∷ ms

-- the place behind a leaf, if ms was open before the leaf
abbrev pub after_leaf : List Opener → Bool → Spot
after_leaf ms deep = record { openers = settled ms; after = true; deep = deep || nat_lt most_levels (length ms) }

-- the place behind the opener m
abbrev pub behind : Opener → List Opener → Bool → Spot
behind m ms deep = record { openers = m ∷ ms; after = false; deep = deep }

-- the operator is `-`
abbrev pub is_sub : Op → Bool
is_sub Sub = true
is_sub _ = false

-- the place behind an item that stands where an operand was expected; none if the item may not stand there
abbrev pub begun : List Opener → Bool → Item → Option Spot
begun ms deep (item.Number n) = Some (after_leaf ms deep)
begun ms deep (item.Call name args) = Some (after_leaf ms deep)
begun ms deep (item.Operator op) = if is_sub op then Some (behind Prefix ms deep) else None
begun ms deep item.Bang = Some (behind Prefix ms deep)
begun ms deep item.Open = Some (behind Parenthesis ms deep)
begun ms deep item.Close = None

-- the place behind a closing parenthesis; none if the newest opener is no parenthesis
abbrev pub closed : List Opener → Bool → Option Spot
closed [] deep = None
closed (Prefix ∷ ms) deep = None
closed (Parenthesis ∷ ms) deep = Some (record { openers = settled ms; after = true; deep = deep })

-- the place behind an item that follows an operand; none if the item may not stand there
abbrev pub gone_on : List Opener → Bool → Item → Option Spot
gone_on ms deep (item.Number n) = None
gone_on ms deep (item.Call name args) = None
gone_on ms deep (item.Operator op) = Some (record { openers = ms; after = false; deep = deep })
gone_on ms deep item.Bang = None
gone_on ms deep item.Open = None
gone_on ms deep item.Close = closed ms deep

-- the place behind an item; none if the item may not stand there
abbrev pub advance : Spot → Item → Option Spot
advance s i = if s.after then gone_on s.openers s.deep i else begun s.openers s.deep i

-- whether a leaf stands too deep; none if something is still open
abbrev pub ended_with : List Opener → Bool → Option Bool
ended_with [] deep = Some deep
ended_with (m ∷ ms) deep = None

-- whether a leaf stands too deep; none if the expression may not end at this place
abbrev pub ended : Spot → Option Bool
ended s = if s.after then ended_with s.openers s.deep else None

-- whether a leaf stands too deep once these items follow the place; none if the grammar does not allow them there
unfoldable pub scanned_from : Spot → List Item → Option Bool
scanned_from s [] = ended s
scanned_from s (i ∷ is) = option_and_then (λ t. scanned_from t is) (advance s i)

-- the place before the first item
abbrev pub at_start : Spot
at_start = record { openers = []; after = false; deep = false }

-- whether a leaf stands too deep; none if the items are not in the grammar
abbrev pub scanned : List Item → Option Bool
scanned is = scanned_from at_start is

-- closing the newest opener succeeds exactly if it is a parenthesis; new is then what stays open
abbrev pub Closes : List Opener → List Opener → Bool → Type 0
Closes old new true = (ms : List Opener) × (old ≡ Parenthesis ∷ ms) × (new ≡ settled ms)
Closes [] new false = Unit {0}
Closes (Prefix ∷ ms) new false = Unit {0}
Closes (Parenthesis ∷ ms) new false = ⊥
