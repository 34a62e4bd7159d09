-- The last part of the line is read, or as many fields as are looked at.
use Rattle.std.proofs.Common.{◌≡◌, ◌∙◌, ◌∷◌, ◌++◌, [], ap, length, map, take, drop, ◌+◌, arith}
use Rattle.std.specs.Prelude.{if◌then◌else◌}
use Rattle.std.proofs.lemmas.Bool.{le-ltb}
use Rattle.std.proofs.lemmas.List.{map_push, length-map}
use Rattle.db_lex.specs.Lines.{trimmed}
use Rattle.db_rules.specs.Colon.{split_at_commas}
use Rattle.db_entry.proofs.FewFields.{whole_line_read, enough_read}
use Rattle.db_entry.proofs.colon.first_fields.Goals as goal

-- no comma is left: what was gathered and the last part are all
pub returns-then-len-rest : goal.returns-then-len-rest
returns-then-len-rest c =
    let now = c.loop-rest.invariant in
    let len = c.field_len-len.result in
    let rest = c.loop-rest.rest.now in
    let last : split_at_commas 0 rest ≡ take len rest ∷ [] =
    c.field_len-len.ensures.first
    ∙ ap (λ b. take len rest ∷ (if b then split_at_commas 0 (drop (len + 1) rest) else []))
    (le-ltb len (length rest) c.if-len-rest.true) in
    let pushed =
    ap (map (λ f. f.now)) c.in_ok-push.ensures.items
    ∙ map_push (λ f. f.now) c.loop-rest.fields.items c.trim.result in
    whole_line_read (map (λ f. f.now) c.loop-rest.fields.items) _ (split_at_commas 0 rest) _ (take len rest) now.3 last
    (pushed ∙ ap (λ t. map (λ f. f.now) c.loop-rest.fields.items ++ t ∷ []) c.trim.ensures.value)
    (omega (arith, now.2, c.loop-rest-test.true, c.len.ensures, length-map c.loop-rest.fields.items (λ f. f.now)))

-- as many fields as are looked at are gathered
pub returns : goal.returns
returns c =
    let now = c.loop-rest.invariant in
    enough_read (map (λ f. f.now) c.loop-rest.fields.items)
    (map trimmed (split_at_commas 0 c.loop-rest.rest.now)) _ now.3
    (omega (
      arith,
      now.1,
      now.2,
      c.loop-rest-test.false,
      c.len.ensures,
      length-map c.loop-rest.fields.items
          (λ f. f.now),
    ))
