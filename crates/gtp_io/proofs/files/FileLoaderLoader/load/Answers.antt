use Rattle.std.proofs.Common.{length, drop, ap, sym, ◌∙◌, ◌++◌, take-append-drop}
use Rattle.gtp_io.proofs.files.FileLoaderLoader.load.Goals as goal

-- what was read stands behind the bytes that were handed in
pub returns-in-Ok-true-clause-loaded : goal.returns-in-Ok-true-clause-loaded
returns-in-Ok-true-clause-loaded g c =
    let kept = length c.args.into.items in (
      drop kept c.read_file.new.into.items,
      sym (take-append-drop kept c.read_file.new.into.items)
          ∙ ap (λ l. l ++ drop kept c.read_file.new.into.items) c.read_file.ensures,
    )
