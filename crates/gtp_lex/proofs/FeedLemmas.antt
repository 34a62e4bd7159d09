-- What one piece does to the line that is held.
use Rattle.std.proofs.Common.{◌≡◌, ℕ, ◌+◌, ◌<◌, true, false, eqb, List, ◌++◌, length, take, get_or}
use Rattle.std.proofs.Common.{sym, ap, ◌∙◌}
use Rattle.std.specs.List.{All}
use Rattle.gtp_rules.specs.Lines.{line_of, line_feed}
use Rattle.gtp_lex.specs.Held.{lines_from, held_from}
use Rattle.gtp_lex.specs.Lines.{LinesState, Feeds}
use Rattle.gtp_lex.specs.LinesView.{state_of}
use Rattle.gtp_lex.specs.declared.lines.Phase.TheVariants.{Open, Full}
use Rattle.gtp_lex.proofs.HeldLemmas.{fed_open, fed_ended}

-- Of the piece a front of len bytes has no line feed and goes on with the line so far.
module _ (old : LinesState) (line piece new : List ℕ) (len : ℕ) (held : line_of line ≡ old.held)
    (none : All (λ b. eqb b line_feed ≡ false) (take len piece))
    (kept : line_of new ≡ line_of (line ++ take len piece)) where
  -- the piece has no line feed
  pub Feeds-open : len ≡ length piece → Feeds old (state_of Open (line_of new)) piece len
  Feeds-open whole =
      let fed = fed_open line piece new len whole none kept in
      record {
        ended = λ waits. absurd (let e : true ≡ false = sym waits in cc);
        open_ended = λ _. (
          whole,
          ap (λ h. lines_from h piece) (sym held)
              ∙ fed.0,
          ap (λ h. held_from h piece) (sym held) ∙ fed.1,
        );
      }

  -- the byte after the front is a line feed
  pub Feeds-ended : len < length piece → get_or piece len 0 ≡ line_feed
      → Feeds old (state_of Full (line_of new)) piece (len + 1)
  Feeds-ended within feed =
      let fed = fed_ended line piece new len within none feed kept in
      record {
        ended = λ _. (
          ap (λ h. lines_from h (take (len + 1) piece)) (sym held)
              ∙ fed.0,
          ap (λ h. held_from h (take (len + 1) piece)) (sym held) ∙ fed.1,
        );
        open_ended = λ waits. absurd (let e : true ≡ false = waits in cc);
      }
