use Rattle.std.proofs.Common.{◌≡◌, take}
use Rattle.machine_rules.specs.MatchTexts.{matches_text}
use Rattle.session_core.proofs.match_text.list_text.Given as goal

-- the matches so far were put
abbrev pub invariant-loop-z : goal.invariant-loop-z
invariant-loop-z l = l.text ≡ matches_text l.patterns l.size (take l.z-index l.found)
