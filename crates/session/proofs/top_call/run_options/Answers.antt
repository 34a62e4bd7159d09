-- The files were opened, and the session served the lines.
use Rattle.std.proofs.Common.{ap, ◌∙◌}
use Rattle.std.specs.Prelude.{option_map}
use Rattle.run_notes.specs.declared.notes.Sent.{Sent}
use Rattle.session.proofs.RunPhases.{came-served}
use Rattle.session.proofs.top_call.run_options.Goals as goal

-- a run whose files could be opened ends as the serving of its lines ended
pub returns-clause-came : goal.returns-clause-came
returns-clause-came g c =
    came-served _ _ _ c.args.options.now c.in-Ok.opened.lines _ _ _ _ c.serve_lines-ended.result _ _ c.served.result
    _ _ _ c.serve_lines-ended.ensures.serves c.in-Ok.ensures.ok c.open_with.ensures.same c.in-Ok.ensures.kept
    c.in-Ok.ensures.unsent c.served.ensures.counts
    (c.served.ensures.sent ∙ ap (λ (s : Sent). option_map (λ _. s) c.args.options.now.generate) c.sent.ensures)
    c.served.ensures.phase
