-- What contracts see of cached connections.
use Rattle.std.specs.Prelude.{◌≡◌, ℕ, ◌↔◌, IsTrue, IsNone, IfSome, false}
use Rattle.go_rules.specs.Position.{BoardState, stone_of}
use Rattle.go_base.specs.Facts.{Fact, Agrees, CellIs}
use Rattle.go_base.specs.AmongFacts.{told}
use Rattle.read_rules.specs.ActiveArea.{IsAboutOne}
use Rattle.read_rules.specs.GoodMoves.{IsOnBoard}
use Rattle.connect_rules.specs.declared.question.LinkKind.{LinkKind}
use Rattle.connect_rules.specs.declared.question.Linkage.{Linkage}
use Rattle.connect_rules.specs.Linkages.{asked_on, linkage_of}
use Rattle.connect_rules.specs.ConnectionArea.{InConnectionArea}
use Rattle.read_cache.specs.declared.variants.Variant.{Variant}
use Rattle.read_cache.specs.Keeping.{Keeping, WasAsked}
use Rattle.kept_connections.specs.declared.key.LinkKey.{LinkKey}
use Rattle.kept_connections.specs.Keys.{same_key}

-- how deep connections are read, and the cached answers, with the counts of the answers that were fresh and of those
-- that could not be cached
pub record ConnectionsView : Type 0 where
  pub plies : ℕ
  pub answers : Keeping LinkKey Linkage

-- the linkage is the answer to the question on the position; it has no move exactly if the answer is no, and its move
-- is on the board
pub record IsLinkageOf (key : LinkKey) (pos : BoardState) (linkage : Linkage) : Type 0 where
  pub right : linkage ≡ linkage_of key.question pos
  pub none : IsNone linkage.at ↔ (linkage.yes ≡ false)
  pub on_board : IfSome linkage.at (IsOnBoard key.question.size)

-- the answer of the variant rests on its facts, and both stones are among the facts: on each position on which the
-- facts hold the answer is the answer to the question, and each fact is about a point of the active area of the
-- connection
pub record Rests (key : LinkKey) (variant : Variant Linkage) : Type 0 where
  pub a : IsTrue (told variant.facts (CellIs key.question.a (stone_of key.question.colour)))
  pub b : IsTrue (told variant.facts (CellIs key.question.b (stone_of key.question.colour)))
  pub answers : (pos : BoardState) → Agrees (told variant.facts) pos → IsLinkageOf key pos variant.answer
  pub near : (pos : BoardState) → Agrees (told variant.facts) pos → (fact : Fact) → IsTrue (told variant.facts fact)
      → IsAboutOne (InConnectionArea key.question pos) fact

-- the question about the stones at a and b on the position
abbrev pub key_on : BoardState → LinkKind → ℕ → ℕ → ℕ → LinkKey
key_on pos kind a b plies = record { question = asked_on pos kind a b plies }

-- new is old after the question was asked once on the position: its answer was cached already, or it was fresh
abbrev pub HasAsked : LinkKey → BoardState → Linkage → Keeping LinkKey Linkage → Keeping LinkKey Linkage → Type 0
HasAsked key pos answer old new = WasAsked same_key key Rests pos answer old new
