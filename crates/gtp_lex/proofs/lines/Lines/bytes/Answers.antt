-- A line that was given is not too long.
use Rattle.std.proofs.Common.{◌≤◌, IsSome, length, sym, subst, rules}
use Rattle.gtp_rules.specs.Lines.{longest_line}
use Rattle.gtp_lex.specs.Lines.{LinesState}
use Rattle.gtp_lex.proofs.GivenLemmas.{state-short}
use Rattle.gtp_lex.proofs.lines.Lines.bytes.Goals as goal

-- the bytes of a line that was given are at most those that a line may have
pub returns-clause-short : goal.returns-clause-short
returns-clause-short c =
    let short : length c.self.inside.bytes.items ≤ longest_line =
    state-short c.self.inside.phase c.self.inside.bytes.items
    (subst (λ (l : LinesState). IsSome l.given) (sym c.self.view_is) c.requires) in
    search rules
