-- A front and whole blocks have no fault, and are read as what they are.
use Rattle.std.proofs.Common.{◌≡◌, ℕ, ◌+◌, ◌<◌, ◌≤◌, Bool, true, false, cond, List, [], ◌∷◌, ◌++◌, length, Option}
use Rattle.std.proofs.Common.{Some, None, refl, sym, ap, subst, ◌∙◌, append_assoc, arith}
use Rattle.std.specs.Prelude.{fold, slice_index}
use Rattle.std.specs.List.{All, flat_map}
use Rattle.std.proofs.lemmas.Bool.{lt-leb}
use Rattle.std.proofs.lemmas.List.{append-nil, length-append, map-append}
use Rattle.std.proofs.lemmas.List.Elements.{All-head, All-tail}
use Rattle.db_lex.specs.declared.line.LineKind.{LineKind}
use Rattle.db_lex.specs.declared.line.LineKind.TheVariants.{Pattern, Colon, Semicolon, Action, Other}
use Rattle.db_lex.specs.Lines.{KeptLine, kept_lines, word_of}
use Rattle.db_rules.specs.declared.fault.Fault.{Fault}
use Rattle.db_rules.specs.declared.stage.TableCell.TheVariants.{Next}
use Rattle.db_rules.specs.declared.stage.Stage.{Stage}
use Rattle.db_rules.specs.declared.stage.Stage.TheVariants.{Start, Diagram, Labels, Expression, Actions}
use Rattle.db_rules.specs.declared.kind.FaultKind.{FaultKind}
use Rattle.db_rules.specs.Diagram.{diagram_fault}
use Rattle.db_rules.specs.Labels.{constraint_fault, labels_closing_fault}
use Rattle.db_rules.specs.Accepted.{IsDrawn, IsLabelled}
use Rattle.db_rules.specs.Accepted as accepted
use Rattle.db_rules.specs.Blocks.{Block, SoFar, blocks_of, lines_in, words_in, begun_with, placed, table}
use Rattle.db_rules.specs.Blocks.{after_line, end_refused, at_start, so_far}
use Rattle.db_rules.specs.Faults.{at_line, most_entries, is_unnamed, expression_kind}
use Rattle.db_rules.specs.Faults.{pattern_fault, own_fault, closing_fault, found, found_at_end}
use Rattle.db_rules.specs.Faults.{first_fault, end_number, entries}
use Rattle.db_rules.specs.Database.{IsLineOf, IsInFront, IsColonLine, IsBlock, IsDatabase}
use Rattle.db_rules.proofs.TableLemmas.{found_table}
use Rattle.db_rules.proofs.Walk.{walk, first_fault-walk}

-- each of these words has no fault below the words above it
abbrev AreBelow : (List (List ℕ) → List ℕ → Option FaultKind) → List (List ℕ) → List (List ℕ) → Type 0
AreBelow fault above [] = Unit {0}
AreBelow fault above (word ∷ words) = (fault above word ≡ None) × AreBelow fault (above ++ word ∷ []) words

-- a word without a fault below the others may follow them
below-push : (fault : List (List ℕ) → List ℕ → Option FaultKind) (above words : List (List ℕ)) (word : List ℕ)
    → AreBelow fault above words → fault (above ++ words) word ≡ None → AreBelow fault above (words ++ word ∷ [])
below-push fault above [] word below none = (subst (λ a. fault a word ≡ None) (append-nil above) none, tt)
below-push fault above (w ∷ words) word below none =
    let all_above : above ++ w ∷ words ≡ (above ++ w ∷ []) ++ words = sym (append_assoc above (w ∷ []) words) in
    let last : fault ((above ++ w ∷ []) ++ words) word ≡ None = subst (λ a. fault a word ≡ None) all_above none in
    (below.0, below-push fault (above ++ w ∷ []) words word below.1 last)

-- each line of a main diagram has no fault below the lines above it
drawn_below : (words : List (List ℕ)) → IsDrawn words → AreBelow diagram_fault [] words
drawn_below _ accepted.no_line = tt
drawn_below q1 (accepted.one_line_more words word drawn none) = grind (arith, below-push, drawn_below words drawn)

-- each line of a constraint diagram has no fault below the lines above it
labelled_below : (diagram words : List (List ℕ)) → IsLabelled diagram words
    → AreBelow (constraint_fault diagram) [] words
labelled_below diagram _ accepted.no_line = tt
labelled_below diagram _ (accepted.one_line_more words word labelled none) =
    below-push (constraint_fault diagram) [] words word (labelled_below diagram words labelled) none

-- what some lines come to, of these parts
abbrev parts : Stage → List KeptLine → List Block → Option Block → SoFar
parts stage front done now = record { stage = stage; front = front; done = done; now = now }

-- no line of these has a fault behind what some lines come to
unfoldable AreClean : List (List ℕ) → SoFar → List KeptLine → Type 0
AreClean helpers s [] = Unit {0}
AreClean helpers s (line ∷ lines) = (found helpers s line ≡ None) × AreClean helpers (after_line s line) lines

-- lines without a fault lead from what some lines come to on to what all of them come to
record Leads (helpers : List (List ℕ)) (s : SoFar) (lines : List KeptLine) (t : SoFar) : Type 0 where
  clean : AreClean helpers s lines
  there : fold after_line s lines ≡ t

-- no lines at all leave what there is as it is
leads-none : {helpers : List (List ℕ)} {s : SoFar} → Leads helpers s [] s
unfolding AreClean
leads-none = record { clean = tt; there = refl }

-- a line without a fault, and lines that lead on behind it, lead on together
leads-more : {helpers : List (List ℕ)} {s t u : SoFar} {line : KeptLine} {lines : List KeptLine}
    → (found helpers s line ≡ None) × (after_line s line ≡ t) → Leads helpers t lines u
    → Leads helpers s (line ∷ lines) u
unfolding AreClean
leads-more {helpers} {lines = lines} one more = grind arith

-- lines that lead on, and more behind them
leads-append : {helpers : List (List ℕ)} (lines : List KeptLine) {more : List KeptLine} {s t u : SoFar}
    → Leads helpers s lines t → Leads helpers t more u → Leads helpers s (lines ++ more) u
unfolding AreClean
leads-append {helpers} [] {more} {u = u} first second = subst (λ v. Leads helpers v more u) (sym first.there) second
leads-append {helpers} (line ∷ lines) {s = s} {t = t} first second =
    let rest : Leads helpers (after_line s line) lines t = record { clean = first.clean.1; there = first.there } in
    leads-more (first.clean.0, refl) (leads-append lines rest second)

-- a line that the table takes, that closes nothing at fault and has none of its own, stands where its kind belongs
taken : (helpers : List (List ℕ)) (s : SoFar) (line : KeptLine) (kind : LineKind) (stage : Stage) → IsLineOf kind line
    → table s.stage kind (slice_index line.bytes 0) ≡ Next stage → closing_fault line.number (Some kind) s ≡ None
    → own_fault helpers s line kind ≡ None → (found helpers s line ≡ None)
    × (after_line s line ≡ placed line stage s kind)
unfolding after_line
taken helpers s line kind stage of_kind next closing own = grind (arith, found_table)

-- each of these lines is fine behind the lines above it
AreFine : (List KeptLine → KeptLine → Type 0) → List KeptLine → List KeptLine → Type 0
AreFine Fine above [] = Unit {0}
AreFine Fine above (line ∷ lines) = Fine above line × AreFine Fine (above ++ line ∷ []) lines

-- lines that are fine wherever they stand
fine_anywhere : (Fine : KeptLine → Type 0) (above lines : List KeptLine) → All Fine lines
    → AreFine (λ above line. Fine line) above lines
unfolding AreFine
fine_anywhere Fine above [] all = tt
fine_anywhere Fine above (line ∷ lines) all =
    (All-head Fine line lines all, fine_anywhere Fine (above ++ line ∷ []) lines (All-tail Fine line lines all))

-- other lines of which no word has a fault below the words above it
fine_below : (fault : List (List ℕ) → List ℕ → Option FaultKind) (above lines : List KeptLine)
    → All (IsLineOf Other) lines
    → AreBelow fault (words_in above) (words_in lines)
    → AreFine (λ above line. IsLineOf Other line × (fault (words_in above) (word_of line.bytes) ≡ None)) above lines
unfolding AreFine
fine_below fault above [] all below = tt
fine_below fault above (line ∷ lines) all below =
    let words : words_in above ++ word_of line.bytes ∷ [] ≡ words_in (above ++ line ∷ []) =
    sym (map-append (λ l. word_of l.bytes) above (line ∷ [])) in
    let rest = subst (λ w. AreBelow fault w (words_in lines)) words below.1 in (
      (All-head (IsLineOf Other) line lines all, below.0),
      fine_below fault (above ++ line ∷ []) lines (All-tail (IsLineOf Other) line lines all) rest,
    )

-- where each fine line goes on to what the lines with it come to, fine lines lead over all of them
leads_over : (helpers : List (List ℕ)) (at : List KeptLine → SoFar) (Fine : List KeptLine → KeptLine → Type 0)
    → ((above : List KeptLine) (line : KeptLine) → Fine above line
    → (found helpers (at above) line ≡ None) × (after_line (at above) line ≡ at (above ++ line ∷ [])))
    → (above lines : List KeptLine) → AreFine Fine above lines → Leads helpers (at above) lines (at (above ++ lines))
unfolding AreFine
leads_over helpers at Fine step above [] fine = grind (arith, append-nil, leads-none)
leads_over helpers at Fine step above (line ∷ lines) fine =
    let more = leads_over helpers at Fine step (above ++ line ∷ []) lines fine.1 in
    leads-more (step above line fine.0)
    (subst (λ l. Leads helpers (at (above ++ line ∷ [])) lines (at l)) (append_assoc above (line ∷ []) lines) more)

-- the lines in front stay there
over_front : (helpers : List (List ℕ)) (lines : List KeptLine) → All IsInFront lines
    → Leads helpers at_start lines (parts Start lines [] None)
over_front helpers lines all =
    leads_over helpers (λ front. parts Start front [] None) (λ above line. IsInFront line)
    (λ above line fine. taken helpers (parts Start above [] None) line Other Start fine.other
    (rw fine.letter refl) refl refl)
    [] lines (fine_anywhere IsInFront [] lines all)

-- a stage that lines lead to, if there are any
abbrev moved : Stage → Stage → List KeptLine → Stage
moved to from [] = from
moved to from (line ∷ lines) = to

-- where the reader stands behind a whole block
abbrev behind : Block → Stage
behind b = moved Actions (moved Expression Labels b.expression) b.actions

-- whatever comes behind these lines closes nothing that is at fault, and may be a Pattern line or the end
record IsReady (s : SoFar) : Type 0 where
  settled : (number : ℕ) (kind : Option LineKind) → closing_fault number kind s ≡ None
  next : (byte : ℕ) → table s.stage Pattern byte ≡ Next Diagram
  ends : end_refused s.stage ≡ None

module _ (helpers : List (List ℕ)) (front : List KeptLine) (done : List Block) where
  -- the lines of a main diagram
  over_diagram : (b : Block) (lines : List KeptLine) → All (IsLineOf Other) lines → IsDrawn (words_in lines)
      → Leads helpers (parts Diagram front done (Some (record b { diagram = [] }))) lines
      (parts Diagram front done (Some (record b { diagram = lines })))
  over_diagram b lines all drawn =
      let at = λ (d : List KeptLine). parts Diagram front done (Some (record b { diagram = d })) in
      leads_over helpers at
      (λ above line. IsLineOf Other line × (diagram_fault (words_in above) (word_of line.bytes) ≡ None))
      (λ above line fine. taken helpers (at above) line Other Diagram fine.0 refl refl fine.1)
      [] lines (fine_below diagram_fault [] lines all (drawn_below (words_in lines) drawn))

  -- the one colon line
  over_colon : (b : Block) (lines : List KeptLine) → IsColonLine helpers (words_in b.diagram) lines
      → Leads helpers (parts Diagram front done (Some (record b { colon = [] }))) lines
      (parts Labels front done (Some (record b { colon = lines })))
  over_colon b lines one =
      let start = parts Diagram front done (Some (record b { colon = [] })) in
      let end = λ (l : List KeptLine). parts Labels front done (Some (record b { colon = l })) in
      let step = taken helpers start one.line Colon Labels one.colon refl refl one.faultless in
      subst (λ l. Leads helpers start l (end l)) (sym one.alone) (leads-more step leads-none)

  -- the lines of a constraint diagram
  over_constraint : (b : Block) (lines : List KeptLine) → All (IsLineOf Other) lines
      → IsLabelled (words_in b.diagram) (words_in lines)
      → Leads helpers (parts Labels front done (Some (record b { constraint = [] }))) lines
      (parts Labels front done (Some (record b { constraint = lines })))
  over_constraint b lines all labelled =
      let at = λ (l : List KeptLine). parts Labels front done (Some (record b { constraint = l })) in
      leads_over helpers at
      (λ above line. IsLineOf Other line
      × (constraint_fault (words_in b.diagram) (words_in above) (word_of line.bytes) ≡ None))
      (λ above line fine. taken helpers (at above) line Other Labels fine.0 refl refl fine.1)
      [] lines (fine_below (constraint_fault (words_in b.diagram)) [] lines all
      (labelled_below (words_in b.diagram) (words_in lines) labelled))

  -- more lines of an expression
  over_more_expression : (b : Block) (above lines : List KeptLine) → All (IsLineOf Semicolon) lines
      → Leads helpers (parts Expression front done (Some (record b { expression = above }))) lines
      (parts Expression front done (Some (record b { expression = above ++ lines })))
  over_more_expression b above lines all =
      let at = λ (e : List KeptLine). parts Expression front done (Some (record b { expression = e })) in
      leads_over helpers at (λ above line. IsLineOf Semicolon line)
      (λ above line fine. taken helpers (at above) line Semicolon Expression fine refl refl refl)
      above lines (fine_anywhere (IsLineOf Semicolon) above lines all)

  -- more lines of actions
  over_more_actions : (b : Block) (above lines : List KeptLine) → All (IsLineOf Action) lines
      → Leads helpers (parts Actions front done (Some (record b { actions = above }))) lines
      (parts Actions front done (Some (record b { actions = above ++ lines })))
  over_more_actions b above lines all =
      let at = λ (a : List KeptLine). parts Actions front done (Some (record b { actions = a })) in
      leads_over helpers at (λ above line. IsLineOf Action line)
      (λ above line fine. taken helpers (at above) line Action Actions fine refl refl refl)
      above lines (fine_anywhere (IsLineOf Action) above lines all)

  -- the lines of an expression, the first of which closes the constraint diagram
  over_expression : (b : Block) (lines : List KeptLine) → All (IsLineOf Semicolon) lines
      → labels_closing_fault (words_in b.diagram) (words_in b.constraint) ≡ None
      → Leads helpers (parts Labels front done (Some (record b { expression = [] }))) lines
      (parts (moved Expression Labels lines) front done (Some (record b { expression = lines })))
  over_expression b [] all closed = leads-none
  over_expression b (line ∷ lines) all closed =
      let start = parts Labels front done (Some (record b { expression = [] })) in
      leads-more
      (taken helpers start line Semicolon Expression (All-head (IsLineOf Semicolon) line lines all) refl
      (ap (at_line line.number) closed) refl)
      (over_more_expression b (line ∷ []) lines (All-tail (IsLineOf Semicolon) line lines all))

  -- the lines of actions, the first of which closes what stands before them
  over_actions : (stage : Stage) (b : Block) (lines : List KeptLine) → All (IsLineOf Action) lines
      → ((byte : ℕ) → table stage Action byte ≡ Next Actions)
      → ((number : ℕ)
      → closing_fault number (Some Action) (parts stage front done (Some (record b { actions = [] }))) ≡ None)
      → Leads helpers (parts stage front done (Some (record b { actions = [] }))) lines
      (parts (moved Actions stage lines) front done (Some (record b { actions = lines })))
  over_actions stage b [] all next settled = leads-none
  over_actions stage b (line ∷ lines) all next settled =
      let start = parts stage front done (Some (record b { actions = [] })) in
      leads-more
      (taken helpers start line Action Actions (All-head (IsLineOf Action) line lines all)
      (next (slice_index line.bytes 0)) (settled line.number) refl)
      (over_more_actions b (line ∷ []) lines (All-tail (IsLineOf Action) line lines all))

  -- the lines of a whole block up to its actions
  over_to_expression : (b : Block) → IsBlock helpers b
      → Leads helpers (parts Diagram front done (Some (begun_with b.head)))
      (b.diagram ++ b.colon ++ b.constraint ++ b.expression)
      (parts (moved Expression Labels b.expression) front done (Some (record b { actions = [] })))
  over_to_expression b block =
      let first : Block = begun_with b.head in
      let second : Block = record first { diagram = b.diagram } in
      let third : Block = record second { colon = b.colon } in
      let fourth : Block = record third { constraint = b.constraint } in
      leads-append (b.diagram ++ b.colon ++ b.constraint)
      (leads-append (b.diagram ++ b.colon)
      (leads-append b.diagram (over_diagram first b.diagram block.diagram block.drawn)
      (over_colon second b.colon block.colon))
      (over_constraint third b.constraint block.constraint block.labelled))
      (over_expression fourth b.expression block.expression block.closed)

-- if there is no fault none is found, whatever the condition
on_condition : (c : Bool) (fault : Option Fault) → fault ≡ None → cond c fault None ≡ None
on_condition true fault none = none
on_condition false fault none = refl

-- a whole constraint diagram and an expression without a fault close without one
settled_before_actions : (helpers : List (List ℕ)) (front : List KeptLine) (done : List Block) (b : Block)
    (lines : List KeptLine)
    → labels_closing_fault (words_in b.diagram) (words_in b.constraint) ≡ None → expression_kind b ≡ None
    → (number : ℕ) (kind : Option LineKind)
    → closing_fault number kind (parts (moved Expression Labels lines) front done (Some b)) ≡ None
settled_before_actions helpers front done b [] closed judged number kind = grind (arith, on_condition)
settled_before_actions helpers front done b (line ∷ lines) closed judged number kind = grind (arith, on_condition)

-- behind a whole block the next one may begin, or the text may end
ready_behind : (helpers : List (List ℕ)) (front : List KeptLine) (done : List Block) (b : Block) → IsBlock helpers b
    → IsReady (parts (behind b) front done (Some b))
ready_behind helpers front done b block = grind (arith, settled_before_actions)

-- a named Pattern line among few enough has no fault
named_line : (entries : ℕ) (line : List ℕ) → entries < most_entries → is_unnamed line ≡ false
    → pattern_fault entries line ≡ None
unfolding pattern_fault
named_line entries line few named = rw (lt-leb most_entries entries few, named) refl

-- where an action line stands behind an expression or a constraint diagram it is taken
actions_next : (lines : List KeptLine) (byte : ℕ) → table (moved Expression Labels lines) Action byte ≡ Next Actions
actions_next [] byte = refl
actions_next (line ∷ lines) byte = refl

-- a whole block has no fault, and is read as what it is
over_block : (helpers : List (List ℕ)) (s : SoFar) (b : Block) → IsReady s → IsBlock helpers b
    → length (blocks_of s) < most_entries
    → Leads helpers s (lines_in b) (parts (behind b) s.front (blocks_of s) (Some b))
over_block helpers s b ready block few =
    let done = blocks_of s in
    let stage = moved Expression Labels b.expression in
    let head = taken helpers s b.head Pattern Diagram block.head (ready.next (slice_index b.head.bytes 0))
    (ready.settled b.head.number (Some Pattern)) (named_line (length done) b.head.bytes few block.named) in
    let settled = settled_before_actions helpers s.front done (record b { actions = [] }) b.expression block.closed
    block.judged in
    let actions = over_actions helpers s.front done stage b b.actions block.actions (actions_next b.expression)
    (λ number. settled number (Some Action)) in
    leads-more head (leads-append (b.diagram ++ b.colon ++ b.constraint ++ b.expression)
    (over_to_expression helpers s.front done b block) actions)

-- where whole blocks lead to
record Arrives (helpers : List (List ℕ)) (s : SoFar) (blocks : List Block) : Type 0 where
  last : SoFar
  leads : Leads helpers s (flat_map lines_in blocks) last
  ready : IsReady last
  front : last.front ≡ s.front
  all : blocks_of last ≡ blocks_of s ++ blocks

-- whole blocks have no fault, and are read as what they are
over_blocks : (helpers : List (List ℕ)) (s : SoFar) (blocks : List Block) → IsReady s → All (IsBlock helpers) blocks
    → length (blocks_of s) + length blocks ≤ most_entries → Arrives helpers s blocks
over_blocks helpers s [] ready all few = grind (arith, leads-none, append-nil)
over_blocks helpers s (b ∷ blocks) ready all few =
    let block = All-head (IsBlock helpers) b blocks all in
    let next = parts (behind b) s.front (blocks_of s) (Some b) in
    let one = over_block helpers s b ready block (omega (arith, few)) in
    let more =
    over_blocks helpers next blocks (ready_behind helpers s.front (blocks_of s) b block)
    (All-tail (IsBlock helpers) b blocks all) (omega (arith, few, length-append (blocks_of s) (b ∷ []))) in
    record {
      last = more.last;
      leads = leads-append (lines_in b) one more.leads;
      ready = more.ready;
      front = more.front;
      all = more.all ∙ append_assoc (blocks_of s) (b ∷ []) blocks;
    }

-- lines without a fault, behind which the text may end, have none
no_fault : (helpers : List (List ℕ)) (end : ℕ) (s : SoFar) (lines : List KeptLine) → AreClean helpers s lines
    → found_at_end end (fold after_line s lines) ≡ None → walk helpers end s lines ≡ None
unfolding AreClean walk
no_fault helpers end s [] clean ends = ends
no_fault helpers end s (line ∷ lines) clean ends =
    grind (arith, no_fault helpers end (after_line s line) lines clean.1 ends)

-- where the text may end nothing is found at its end
nothing_at_end : (number : ℕ) (s : SoFar) → IsReady s → found_at_end number s ≡ None
unfolding found_at_end
nothing_at_end number s ready = rw (ready.settled number None, ready.ends) refl

-- before the first line the text may end, and the first block may begin
ready_at_front : (front : List KeptLine) → IsReady (parts Start front [] None)
ready_at_front front = record { settled = λ number kind. refl; next = λ byte. refl; ends = refl }

-- a text is read as this front and these blocks, and has no fault
pub record IsReadAs (helpers : List (List ℕ)) (text : List ℕ) (front : List KeptLine)
    (blocks : List Block) : Type 0 where
  pub faultless : first_fault helpers text ≡ None
  pub front_is : (so_far (kept_lines text)).front ≡ front
  pub blocks_are : blocks_of (so_far (kept_lines text)) ≡ blocks

-- a database is read as its front and its blocks, and has no fault
pub database_is_read : (helpers : List (List ℕ)) (text : List ℕ) → (d : IsDatabase helpers text)
    → IsReadAs helpers text d.front d.blocks
unfolding so_far
database_is_read helpers text d =
    let blocks =
    over_blocks helpers (parts Start d.front [] None) d.blocks (ready_at_front d.front) d.whole
    (omega (arith, d.few)) in
    let whole =
    leads-append d.front
    (over_front helpers d.front d.in_front) blocks.leads in
    let leads : Leads helpers at_start (kept_lines text) blocks.last =
    subst (λ l. Leads helpers at_start l blocks.last) (sym d.cut) whole in
    let ends : found_at_end (end_number text) (fold after_line at_start (kept_lines text)) ≡ None =
    ap (found_at_end (end_number text)) leads.there ∙ nothing_at_end (end_number text) blocks.last blocks.ready in
    record {
      faultless = grind (arith, first_fault-walk, no_fault);
      front_is = ap (λ (s : SoFar). s.front) leads.there ∙ blocks.front;
      blocks_are = ap blocks_of leads.there ∙ blocks.all;
    }
