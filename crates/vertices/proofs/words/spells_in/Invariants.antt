use Rattle.std.proofs.Common.{◌≡◌, drop, map}
use Rattle.std.specs.Str.{bytes_eq}
use Rattle.vertices.specs.Words.{kept}
use Rattle.vertices.specs.RawWords.{cased}
use Rattle.vertices.proofs.words.spells_in.Given as goal

-- the word is the name exactly if what is left of the one is what is left of the other
abbrev pub invariant-loop-b : goal.invariant-loop-b
invariant-loop-b l = bytes_eq (map (cased l.either_case) (kept (drop l.b-index l.word))) l.left
    ≡ bytes_eq (map (cased l.either_case) (kept l.word)) l.name
