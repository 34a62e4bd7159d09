-- The matches that were found are listed.
use Rattle.std.proofs.Common.{inl, refl, ap, ◌∙◌, arith}
use Rattle.go_rules.proofs.CaptureLaws.{replay_size}
use Rattle.session_core.specs.EngineView.{EngineView}
use Rattle.session_core.proofs.ChosenMoves.{among-same}
use Rattle.session_core.proofs.LineAnswers.{if_ok_map}
use Rattle.session_core.proofs.ListedMatches.{listed-told}
use Rattle.session_core.proofs.engine.Engine.list_matches.Goals as goal

-- there was no memory for what is found
pub returns-in_default-clause-answer : goal.returns-in_default-clause-answer
returns-in_default-clause-answer g c = inl (refl, c.in_default.ensures.unasked)

-- the matches are of the patterns, each at a point of the board
pub list_text-requires : goal.list_text-requires
list_text-requires g c =
    let size = c.size-size.ensures ∙ ap (λ (k : EngineView). k.base.size) c.self.view_is in
    among-same _ _ _ _ _ _ c.patterns.ensures size c.as_slice.ensures.value c.in-Ok.ensures.among

-- the list is told, or there was no memory for it
pub returns-clause-answer : goal.returns-clause-answer
returns-clause-answer g c = grind (arith, replay_size, if_ok_map, listed-told)
