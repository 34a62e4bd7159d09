-- The automaton is that of the patterns, and the session is the first one with them.
use Rattle.std.proofs.Common.{arith, sym, subst, ◌∙◌}
use Rattle.session_core.specs.EngineView.{EngineView, depths_in}
use Rattle.session_core.specs.MatcherView.{MatcherView}
use Rattle.session_core.specs.declared.reply.Reply.TheVariants.{Nothing}
use Rattle.session_doors.specs.Opened.{IsFirst}
use Rattle.session_doors.proofs.FirstSessions.{first-held, held_first}
use Rattle.session_doors.proofs.opening.first.Goals as goal

-- the automaton accepts numbers of the patterns alone
pub new-requires : goal.new-requires
new-requires c = record { numbers = c.in_ok-list.ensures.ok.numbers }

-- the patterns were read, and the session is the first one
pub returns-clause-ok : goal.returns-clause-ok
returns-clause-ok c =
    let read = c.in_ok-list.ensures.ok in
    let list = c.in_ok-list.field-0.list.items in
    let depths = depths_in c.args.tree c.args.options.now in
    let cache = c.args.options.now.cache in
    record {
      patterns = list;
      read = record { patterns = read.patterns; few = read.few };
      first = subst (λ (engine : EngineView). IsFirst list depths cache
          (record { engine = engine; matcher = c.in_ok-session.session.matcher; reply = Nothing }))
          (sym c.in_ok-session.ensures.engine)
          (subst (λ (matcher : MatcherView). IsFirst list depths cache (held_first depths cache matcher))
          (sym (c.in_ok-session.ensures.matcher ∙ c.in_ok-matcher.ensures))
          (first-held list c.in_ok-list.field-0.automaton depths cache read.automaton));
      count = omega (arith, c.len-patterns.ensures, c.in_ok-list.field-0.list.ok);
    }
