-- The contents were loaded, and the line feed that they need was put.
use Rattle.std.proofs.Common.{◌≡◌, ◌++◌, length, drop, ap, ◌∙◌, arith}
use Rattle.session.specs.PatternFiles.{added_feed}
use Rattle.session.proofs.PatternFileLemmas.{AddsContents-loaded}
use Rattle.session.proofs.pattern_files.with_file.Goals as goal

-- a file's contents stand behind the text, and a line feed behind them unless they are empty or end in one
pub returns-clause-ok : goal.returns-clause-ok
returns-clause-ok g c =
    let loaded = c.in_ok-text.text.items in
    let fed : c.in_ok-with_feed.field-0.items ≡ loaded ++ added_feed
    (drop c.len-before.result loaded) = c.in_ok-with_feed.ensures in
    let len : c.len-before.result ≡ length c.args.text.items = omega (arith, c.len-before.ensures, c.args.text.ok) in
    AddsContents-loaded (g.L.Loader.contents c.args.files.now c.args.name.now) c.args.text.items loaded
    c.in_ok-with_feed.field-0.items c.in_ok-text.ensures.loaded
    (fed ∙ ap (λ n. loaded ++ added_feed (drop n loaded)) len)
