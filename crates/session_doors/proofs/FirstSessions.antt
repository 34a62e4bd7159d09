-- A session before its first line, by the automaton of its patterns.
use Rattle.std.proofs.Common.{ℕ, List, refl}
use Rattle.pat_types.specs.declared.pattern.Pattern.{Pattern}
use Rattle.dfa_core.specs.Automata.{Row}
use Rattle.dfa_core.specs.States.{IsAutomatonOf}
use Rattle.match_engine.specs.ReadingDepths.{ReadingDepths}
use Rattle.session_core.specs.EngineView.{first_kept}
use Rattle.session_core.specs.MatcherView.{MatcherView}
use Rattle.session_core.specs.declared.reply.Reply.TheVariants.{Nothing}
use Rattle.session_core.proofs.PlainMatchers.{matcher-plain}
use Rattle.session_doors.specs.declared.held.HeldSession.{HeldSession}
use Rattle.session_doors.specs.Opened.{IsFirst}

-- a session before its first line with these depths and with a matcher
abbrev pub held_first : ReadingDepths → ℕ → MatcherView → HeldSession
held_first depths cache matcher = record { engine = first_kept depths cache; matcher = matcher; reply = Nothing }

-- by the automaton of these patterns it is the first one with them
pub first-held : (patterns : List Pattern) (rows : List Row) (depths : ReadingDepths) (cache : ℕ)
    → IsAutomatonOf patterns rows
    → IsFirst patterns depths cache (held_first depths cache (record { patterns = patterns; automaton = rows }))
first-held patterns rows depths cache accepts = record {
  machine = λ helpers. refl;
  matches = matcher-plain patterns rows accepts;
  counts = refl;
  readings = refl;
  links = refl;
  reply = refl;
}
