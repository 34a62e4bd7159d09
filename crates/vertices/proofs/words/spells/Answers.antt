use Rattle.std.proofs.Common.{ap, ◌∙◌}
use Rattle.std.specs.Str.{bytes_eq}
use Rattle.std.proofs.lemmas.List.{map-id}
use Rattle.vertices.specs.Words.{kept}
use Rattle.vertices.proofs.words.spells.Goals as goal

-- as it stands, each byte is itself
pub returns : goal.returns
returns c = c.spells_in.ensures ∙ ap (λ w. bytes_eq w c.args.name.now) (map-id (kept c.args.word.now))
