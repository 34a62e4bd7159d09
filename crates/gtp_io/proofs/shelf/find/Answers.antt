-- The name was compared with the i-th, and those before it are other names.
use Rattle.std.proofs.Common.{◌∙◌, sym, ap}
use Rattle.std.specs.Str.{bytes_eq}
use Rattle.std.specs.String.{string_bytes}
use Rattle.gtp_io.proofs.NamedContents.{named-drop, named-here}
use Rattle.gtp_io.proofs.shelf.find.Goals as goal

-- the first name that is equal has the contents that are found
pub returns-then-eq-clause-found : goal.returns-then-eq-clause-found
returns-then-eq-clause-found c =
    let test = ap (λ b. bytes_eq b c.args.name.now) (sym (c.as_str.ensures.value ∙ ap string_bytes c.index-names-i.is))
    ∙ sym c.eq.ensures ∙ c.if-eq.true in
    sym c.loop-i.invariant
    ∙ named-here string_bytes
    (λ v. v.items) c.args.names.now c.args.contents.now c.args.name.now c.requires c.loop-i.i
    c.index-names-i.result c.loop-i-test.true test

-- a name that is another leaves the search to those behind it
pub loop-i-preserved : goal.loop-i-preserved
loop-i-preserved c =
    let test = ap (λ b. bytes_eq b c.args.name.now) (sym (c.as_str.ensures.value ∙ ap string_bytes c.index-names-i.is))
    ∙ sym c.eq.ensures ∙ c.if-eq.false in
    sym (named-drop string_bytes
    (λ v. v.items) c.args.names.now c.args.contents.now c.args.name.now c.requires c.loop-i.i
    c.index-names-i.result c.loop-i-test.true test)
    ∙ c.loop-i.invariant
