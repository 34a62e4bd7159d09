-- A reader with one line more.
use Rattle.std.proofs.Common.{◌≡◌, ◌≢◌, ℕ, ◌+◌, ◌<◌, Bool, true, false, List, [], ◌∷◌, ◌++◌, length, map, Option, Some}
use Rattle.std.proofs.Common.{None, refl, sym, ap, subst, ◌∙◌, arith}
use Rattle.std.specs.Prelude.{◌&&◌, nat_lt}
use Rattle.std.specs.Option.{option_to_list}
use Rattle.std.proofs.lemmas.Bool.{eqb-true, not-false}
use Rattle.std.proofs.lemmas.List.{length-append, map_push, map-append}
use Rattle.pat_types.specs.declared.pattern.Pattern.{Pattern as PatternRead}
use Rattle.db_lex.specs.declared.line.LineKind.{LineKind}
use Rattle.db_lex.specs.declared.line.LineKind.TheVariants.{Pattern, Colon, Semicolon, Action, Other}
use Rattle.db_lex.specs.Lines.{KeptLine, word_of}
use Rattle.db_rules.specs.declared.stage.Stage.{Stage}
use Rattle.db_rules.specs.declared.stage.Stage.TheVariants.{Start, Diagram, Labels, Expression, Actions}
use Rattle.db_rules.specs.declared.stage.TableCell.TheVariants.{Next}
use Rattle.db_rules.specs.declared.kind.FaultKind.{FaultKind}
use Rattle.db_rules.specs.declared.kind.FaultKind.TheVariants.{ConstraintShape}
use Rattle.db_rules.specs.Kinds.{first_of}
use Rattle.db_rules.specs.Diagram.{diagram_fault, letters_of, star_count}
use Rattle.db_rules.specs.Colon.{colon_fault, fields_fault}
use Rattle.db_rules.specs.Labels.{constraint_fault, labels_closing_fault}
use Rattle.db_rules.specs.Blocks.{Block, SoFar, words_in, begun_with, placed, table}
use Rattle.db_rules.specs.Entries.{entry_of, entry_of_block}
use Rattle.db_rules.specs.Faults.{own_fault, at_line, closes, gathered_fault, closing_fault}
use Rattle.db_read.specs.declared.draft.Draft.{Draft}
use Rattle.db_read.specs.declared.error.DbError.{DbError}
use Rattle.db_read.specs.declared.reader.Reader.{Reader}
use Rattle.db_read.specs.Drafts.{Drafts, IsPastColon, IsUnjudged, IsJudged}
use Rattle.db_read.specs.Reading.{BlamesAt, IsAtStage, ReadsNow, Shows}

-- what some lines come to, of these parts
abbrev pub parts : Stage → List KeptLine → List Block → Option Block → SoFar
parts stage front done now = record { stage = stage; front = front; done = done; now = now }

-- the block that goes on has changed
Shows-now : (r n : Reader) (stage next : Stage) (front : List KeptLine) (done : List Block) (b d : Block)
    → Shows r (parts stage front done (Some b)) → n.stage ≡ next → n.done ≡ r.done → n.begun ≡ r.begun
    → Drafts n.draft d → IsAtStage next n.draft d → next ≢ Start → Shows n (parts next front done (Some d))
Shows-now r n stage next front done b d s stage_is done_is begun_is drafts fresh on = grind (arith, length-append)

-- lines with one line more are some
some-pushed : (lines : List KeptLine) (line : KeptLine) → 0 < length (lines ++ line ∷ [])
some-pushed lines line = omega (arith, length-append lines (line ∷ []))

-- a draft with the expression and the constraint of another is unjudged if that is
unjudged-rest : (old new : Draft) → (new.expression ≡ old.expression) × (new.constraint ≡ old.constraint)
    → IsUnjudged old → IsUnjudged new
unjudged-rest old new rest h = record { no_line = rest.0 ∙ h.no_line; no_constraint = rest.1 ∙ h.no_constraint }

-- the tests of a list of six faults of which none fits
none_of_six : (a b c d e f : Bool) (k l m n o p : FaultKind)
    → first_of ((a, k) ∷ (b, l) ∷ (c, m) ∷ (d, n) ∷ (e, o) ∷ (f, p) ∷ []) ≡ None → b ≡ false
none_of_six true b c d e f k l m n o p h = absurd cc
none_of_six false true c d e f k l m n o p h = absurd cc
none_of_six false false c d e f k l m n o p h = refl

-- a colon line without a fault stands behind a diagram with one star
colon_one_star : (helpers diagram : List (List ℕ)) (line : List ℕ) → colon_fault helpers diagram line ≡ None
    → star_count (letters_of diagram) ≡ 1
unfolding fields_fault
colon_one_star helpers diagram line none = grind (arith, eqb-true, not-false, none_of_six)

module _ (r n : Reader) (stage : Stage) (front : List KeptLine) (done : List Block) (k : KeptLine) where
  -- what the draft has of the expression stays
  abbrev KeepsRest : Type 0
  KeepsRest = (n.draft.expression ≡ r.draft.expression) × (n.draft.constraint ≡ r.draft.constraint)

  -- a colon line is read
  pub colon_ok : (helpers : List (List ℕ)) (now : Option Block) (bytes : List ℕ)
      → k.bytes ≡ bytes → stage ≡ Diagram → Shows r (parts stage front done now)
      → n.stage ≡ Labels → n.done ≡ r.done → n.begun ≡ r.begun → KeepsRest
      → ((b : Block) (l : KeptLine) → l.bytes ≡ bytes → b.colon ≡ [] → Drafts r.draft b
      → (colon_fault helpers (words_in b.diagram) bytes ≡ None)
      × Drafts n.draft (record b { colon = b.colon ++ l ∷ [] }))
      → (own_fault helpers (parts stage front done now) k Colon ≡ None)
      × Shows n (placed k Labels (parts stage front done now) Colon)
  colon_ok helpers None bytes e stage_is s ns nd nb rest reads = absurd (cc (s.draft, stage_is))
  colon_ok helpers (Some b) bytes e stage_is s ns nd nb rest reads =
      let fresh : IsAtStage Diagram r.draft b = subst (λ t. IsAtStage t r.draft b) stage_is s.draft.1 in
      let read = reads b k e fresh.0 s.draft.0 in
      let one_star = colon_one_star helpers (words_in b.diagram) bytes read.0 in (
        ap (colon_fault helpers (words_in b.diagram)) e ∙ read.0,
        Shows-now r n stage Labels front done b (record b { colon = b.colon ++ k ∷ [] }) s ns nd nb read.1
            ((one_star, some-pushed b.colon k), unjudged-rest r.draft n.draft rest fresh.2) (λ h. absurd cc),
      )

  -- a line of the main diagram is read
  pub diagram_ok : (helpers : List (List ℕ)) (now : Option Block) (word : List ℕ)
      → word_of k.bytes ≡ word → stage ≡ Diagram → Shows r (parts stage front done now)
      → n.stage ≡ r.stage → n.done ≡ r.done → n.begun ≡ r.begun → KeepsRest
      → ((b : Block) (l : KeptLine) → word_of l.bytes ≡ word → b.constraint ≡ [] → Drafts r.draft b
      → (diagram_fault (words_in b.diagram) word ≡ None) × Drafts n.draft (record b { diagram = b.diagram ++ l ∷ [] }))
      → (own_fault helpers (parts stage front done now) k Other ≡ None)
      × Shows n (placed k Diagram (parts stage front done now) Other)
  diagram_ok helpers None word e stage_is s ns nd nb rest reads = absurd (cc (s.draft, stage_is))
  diagram_ok helpers (Some b) word e stage_is s ns nd nb rest reads =
      let fresh : IsAtStage Diagram r.draft b = subst (λ t. IsAtStage t r.draft b) stage_is s.draft.1 in
      let read = reads b k e fresh.1 s.draft.0 in (
        subst (λ t. own_fault helpers (parts t front done (Some b)) k Other ≡ None) (sym stage_is)
            (ap (diagram_fault (words_in b.diagram)) e ∙ read.0),
        Shows-now r n stage Diagram front done b (record b { diagram = b.diagram ++ k ∷ [] }) s
            (ns ∙ s.stage ∙ stage_is) nd nb read.1
            (fresh.0, fresh.1, unjudged-rest r.draft n.draft rest fresh.2) (λ h. absurd cc),
      )

  -- a line of the constraint diagram is read
  pub constraint_ok : (helpers : List (List ℕ)) (now : Option Block) (word : List ℕ)
      → word_of k.bytes ≡ word → stage ≡ Labels → Shows r (parts stage front done now)
      → n.stage ≡ r.stage → n.done ≡ r.done → n.begun ≡ r.begun → KeepsRest
      → ((b : Block) (l : KeptLine) → word_of l.bytes ≡ word → Drafts r.draft b
      → (constraint_fault (words_in b.diagram) (words_in b.constraint) word ≡ None)
      × Drafts n.draft (record b { constraint = b.constraint ++ l ∷ [] }))
      → (own_fault helpers (parts stage front done now) k Other ≡ None)
      × Shows n (placed k Labels (parts stage front done now) Other)
  constraint_ok helpers None word e stage_is s ns nd nb rest reads = absurd (cc (s.draft, stage_is))
  constraint_ok helpers (Some b) word e stage_is s ns nd nb rest reads =
      let fresh : IsAtStage Labels r.draft b = subst (λ t. IsAtStage t r.draft b) stage_is s.draft.1 in
      let read = reads b k e s.draft.0 in (
        subst (λ t. own_fault helpers (parts t front done (Some b)) k Other ≡ None) (sym stage_is)
            (ap (constraint_fault (words_in b.diagram) (words_in b.constraint)) e ∙ read.0),
        Shows-now r n stage Labels front done b (record b { constraint = b.constraint ++ k ∷ [] }) s
            (ns ∙ s.stage ∙ stage_is) nd nb read.1
            (fresh.0, unjudged-rest r.draft n.draft rest fresh.1) (λ h. absurd cc),
      )

-- where an expression line is taken there is a colon line, and there is no constraint
at_expression_line : (stage : Stage) (byte : ℕ) (d : Draft) (b : Block) → table stage Semicolon byte ≡ Next Expression
    → IsAtStage stage d b → IsPastColon b × (d.constraint ≡ None)
at_expression_line Start byte d b next there = absurd cc
at_expression_line Diagram byte d b next there = absurd cc
at_expression_line Labels byte d b next there = (there.0, there.1.no_constraint)
at_expression_line Expression byte d b next there = there
at_expression_line Actions byte d b next there = absurd cc

-- where an expression line is taken there is a block
begun_before_expression : (stage : Stage) (byte : ℕ) → table stage Semicolon byte ≡ Next Expression → stage ≡ Start → ⊥
begun_before_expression Start byte next start = absurd cc
begun_before_expression Diagram byte next start = absurd cc
begun_before_expression Labels byte next start = absurd cc
begun_before_expression Expression byte next start = absurd cc
begun_before_expression Actions byte next start = absurd cc

-- an expression line is read
pub expression_ok : (r n : Reader) (stage : Stage) (front : List KeptLine) (done : List Block) (k : KeptLine)
    (now : Option Block) (number byte : ℕ) (bytes : List ℕ) → k.number ≡ number → k.bytes ≡ bytes
    → table stage Semicolon byte ≡ Next Expression → Shows r (parts stage front done now)
    → n.stage ≡ Expression → n.done ≡ r.done → n.begun ≡ r.begun → n.draft.constraint ≡ r.draft.constraint
    → ((b : Block) (l : KeptLine) → l.number ≡ number → l.bytes ≡ bytes → Drafts r.draft b
    → Drafts n.draft (record b { expression = b.expression ++ l ∷ [] }))
    → Shows n (placed k Expression (parts stage front done now) Semicolon)
expression_ok r n stage front done k None number byte bytes e f next s ns nd nb rest reads =
    absurd (begun_before_expression stage byte next s.draft)
expression_ok r n stage front done k (Some b) number byte bytes e f next s ns nd nb rest reads =
    let there = at_expression_line stage byte r.draft b next s.draft.1 in
    Shows-now r n stage Expression front done b (record b { expression = b.expression ++ k ∷ [] }) s ns nd nb
    (reads b k e f s.draft.0) (there.0, rest ∙ there.1) (λ h. absurd cc)

-- a draft without an expression is judged: it has no constraint
pub judged_without : (d : Draft) → IsUnjudged d → IsJudged d
judged_without d h = grind arith

-- where an action line is taken behind a closed expression there is a colon line, and the draft is judged
at_action_line : (stage : Stage) (byte : ℕ) (d : Draft) (b : Block) → table stage Action byte ≡ Next Actions
    → (stage ≡ Expression → ⊥) → IsAtStage stage d b → IsPastColon b × IsJudged d
at_action_line Start byte d b next left there = absurd cc
at_action_line Diagram byte d b next left there = absurd cc
at_action_line Labels byte d b next left there = (there.0, judged_without d there.1)
at_action_line Expression byte d b next left there = absurd (left refl)
at_action_line Actions byte d b next left there = there

-- where an action line is taken there is a block
begun_before_actions : (stage : Stage) (byte : ℕ) → table stage Action byte ≡ Next Actions → stage ≡ Start → ⊥
begun_before_actions Start byte next start = absurd cc
begun_before_actions Diagram byte next start = absurd cc
begun_before_actions Labels byte next start = absurd cc
begun_before_actions Expression byte next start = absurd cc
begun_before_actions Actions byte next start = absurd cc

-- an action line is none of those that a draft is of
with_actions : (d : Draft) (b : Block) (k : KeptLine) → Drafts d b
    → Drafts d (record b { actions = b.actions ++ k ∷ [] })
with_actions d b k h = grind arith

-- an action line is passed over
pub action_ok : (r n : Reader) (stage : Stage) (front : List KeptLine) (done : List Block) (k : KeptLine)
    (now : Option Block) (byte : ℕ) → table stage Action byte ≡ Next Actions → (stage ≡ Expression → ⊥)
    → Shows r (parts stage front done now)
    → n.stage ≡ Actions → n.done ≡ r.done → n.begun ≡ r.begun → n.draft ≡ r.draft
    → Shows n (placed k Actions (parts stage front done now) Action)
action_ok r n stage front done k None byte next left s ns nd nb same = grind (arith, begun_before_actions)
action_ok r n stage front done k (Some b) byte next left s ns nd nb same =
    let there = at_action_line stage byte r.draft b next left s.draft.1 in
    let drafts : Drafts r.draft (record b { actions = b.actions ++ k ∷ [] }) = with_actions r.draft b k s.draft.0 in
    Shows-now r n stage Actions front done b (record b { actions = b.actions ++ k ∷ [] }) s ns nd nb
    (subst (λ (d : Draft). Drafts d (record b { actions = b.actions ++ k ∷ [] })) (sym same) drafts)
    (there.0, subst IsJudged (sym same) there.1) (λ h. absurd cc)

-- the constraint diagram is at fault by the numbers of its lines
pub labels_gathered : (r : Reader) (number : ℕ) (stage : Stage) (front : List KeptLine) (done : List Block)
    (now : Option Block) → stage ≡ Labels → Shows r (parts stage front done now)
    → gathered_fault number stage now
    ≡ at_line number (first_of ((
      nat_lt 0 r.draft.marks.lines
          && nat_lt r.draft.marks.lines r.draft.diagram.lines,
      ConstraintShape,
    ) ∷ []))
unfolding labels_closing_fault
labels_gathered r number stage front done None stage_is s = absurd (cc (s.draft, stage_is))
labels_gathered r number stage front done (Some b) stage_is s = grind arith

-- what is closed is a constraint diagram or an expression
pub closed_stage : (stage : Stage) (kind : Option LineKind) → closes stage kind ≡ true → (stage ≡ Labels → ⊥)
    → stage ≡ Expression
closed_stage Start kind leaves other = absurd cc
closed_stage Diagram kind leaves other = absurd cc
closed_stage Labels kind leaves other = absurd (other refl)
closed_stage Expression kind leaves other = refl
closed_stage Actions kind leaves other = absurd cc

-- the entries with that of the block that another follows
pub entries-closed : (done : List Block) (now : Option Block)
    → map entry_of_block (done ++ option_to_list now) ≡ map entry_of_block done ++ map entry_of_block
    (option_to_list now)
entries-closed done now = map-append entry_of_block done (option_to_list now)

-- the entry of the block that another follows is put at the end
pub close_ok : (d : Draft) (stage : Stage) (old new : List PatternRead) (p : PatternRead) (now : Option Block)
    → stage ≢ Start → new ≡ old ++ p ∷ [] → ((b : Block) → Drafts d b → entry_of p ≡ entry_of_block b)
    → ReadsNow d stage now
    → map entry_of new ≡ map entry_of old ++ map entry_of_block (option_to_list now)
close_ok d stage old new p None on pushed finished reads = absurd (on reads)
close_ok d stage old new p (Some b) on pushed finished reads = grind (arith, map_push)

-- a block is begun
pub pattern_ok : (r n : Reader) (s : SoFar) (k : KeptLine) → Shows r s → n.stage ≡ Diagram → n.begun ≡ r.begun + 1
    → Drafts n.draft (begun_with k) → IsUnjudged n.draft
    → map entry_of n.done.items ≡ map entry_of r.done.items ++ map entry_of_block (option_to_list s.now)
    → Shows n (placed k Diagram s Pattern)
pattern_ok r n s k h stage begun drafts unjudged entries = grind (arith, entries-closed, length-append)

-- where what was gathered has no fault, the line that closes it has none by it
pub closed_fault : (number : ℕ) (kind : Option LineKind) (s : SoFar) → closes s.stage kind ≡ true
    → gathered_fault number s.stage s.now ≡ None → closing_fault number kind s ≡ None
closed_fault number kind s leaves none = rw leaves none

-- a fault of what is closed is the one that the line closes
pub closed_blames : (number : ℕ) (kind : Option LineKind) (s : SoFar) (e : DbError) → closes s.stage kind ≡ true
    → BlamesAt e (gathered_fault number s.stage s.now) → BlamesAt e (closing_fault number kind s)
closed_blames number kind s e leaves blames = rw leaves blames
