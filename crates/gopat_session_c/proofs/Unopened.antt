-- A session for which there was no place.
use Rattle.std.proofs.Common.{◌≡◌, List, ℕ, Option, None, sym, subst}
use Rattle.match_doors.specs.declared.patterns.PatternFault.TheVariants.{NoMemory}
use Rattle.match_doors.specs.declared.replies.OpenReply.{OpenReply}
use Rattle.session_doors.specs.declared.held.HeldSession.{HeldSession}
use Rattle.session_doors.specs.declared.opening.OpenFault.{OpenFault}
use Rattle.session_doors.specs.declared.opening.OpenFault.TheVariants.{Patterns}
use Rattle.session_doors.specs.declared.opening.OpenedSession.{OpenedSession}
use Rattle.session_doors.specs.declared.options.SessionOptions.{SessionOptions}
use Rattle.session_doors.specs.Opened.{IsOpened, RefusesBy}
use Rattle.session_doors.specs.Replies.{refused_reply}
use Rattle.gopat_session_c.specs.Held.{Opens}

-- the options have no fault, so want of memory is told, and nothing is held
pub no_place : (text : List ℕ) (options : SessionOptions) (reply : OpenReply) (held : Option HeldSession)
    (opened : OpenedSession) → held ≡ None → IsOpened text options opened → reply ≡ refused_reply (Patterns NoMemory)
    → Opens text options reply held
no_place text options reply held opened none is told =
    subst (λ (o : Option HeldSession). Opens text options reply o) (sym none) (
      Patterns NoMemory,
      subst (λ (f : Option OpenFault). RefusesBy text options.states f (Patterns NoMemory)) (sym is.faultless) tt,
      told,
    )
