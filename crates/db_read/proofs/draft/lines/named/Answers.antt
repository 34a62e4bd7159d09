use Rattle.std.proofs.Common.{refl, ap, map}
use Rattle.db_rules.specs.Accepted.{no_line}
use Rattle.db_read.proofs.draft.lines.named.Goals as goal

-- an entry of which only the Pattern line was read has the name on it and nothing else
pub returns-clause-begun : goal.returns-clause-begun
returns-clause-begun c = λ k e. record {
  name = e;
  words = ap (map (λ w. w.now)) c.new.ensures.items;
  diagram = c.empty_diagram.ensures.drawn;
  colon = refl;
  marks = c.empty_marks.ensures;
  expression = refl;
  drawn = no_line;
  labelled = no_line;
}
