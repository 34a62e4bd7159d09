use Rattle.std.proofs.Common.{◌≡◌, ◌∷◌, ◌++◌, take}
use Rattle.std.specs.List.{flat_map}
use Rattle.gtp_cmd.specs.Words.{line_feed}
use Rattle.gtp_cmd.proofs.rows.put_words.Given as goal

-- the words of the rows so far were put
abbrev pub invariant-loop-row : goal.invariant-loop-row
invariant-loop-row l = l.out ≡ l.fn.out ++ flat_map (λ r. line_feed ∷ r.word.now) (take l.row-index l.rows)
