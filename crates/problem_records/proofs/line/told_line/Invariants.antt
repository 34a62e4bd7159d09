-- The loop over the lines of a comment.
use Rattle.std.proofs.Common.{◌≡◌, ◌++◌, drop, map}
use Rattle.std.specs.List.{filter_map}
use Rattle.std.specs.Option.{option_map, option_to_list}
use Rattle.problem_records.specs.Lines.{text_behind, told_line, only_one}
use Rattle.problem_records.proofs.line.told_line.Given as goal

-- what was found so far, and then what the other lines tell, is what all lines tell
abbrev pub invariant-loop-line : goal.invariant-loop-line
invariant-loop-line l = record {
  rest : only_one (option_to_list (option_map (λ text. text.now) l.found)
      ++ filter_map text_behind (map (λ line. line.now) (drop l.line-index l.lines)))
      ≡ told_line (map (λ line. line.now) l.lines);
}
