-- The lines of a text without a fault are a front and then whole blocks, each line in its place.
use Rattle.std.proofs.Common.{◌≡◌, ◌≢◌, ℕ, ◌<◌, ◌≤◌, Bool, true, false, cond, List, [], ◌∷◌, ◌++◌, length, Option, Some}
use Rattle.std.proofs.Common.{None, refl, sym, ap, subst, ◌∙◌, append_assoc, arith}
use Rattle.std.specs.Prelude.{fold, slice_index}
use Rattle.std.specs.List.{All, flat_map}
use Rattle.std.specs.Option.{option_to_list}
use Rattle.std.proofs.lemmas.Bool.{leb-false}
use Rattle.std.proofs.lemmas.List.{append-nil, length-append, map-append}
use Rattle.std.proofs.lemmas.List.Concat.{flat_map-append}
use Rattle.std.proofs.lemmas.List.Elements.{All-nil, All-append, All-push}
use Rattle.db_lex.specs.declared.line.LineKind.{LineKind}
use Rattle.db_lex.specs.declared.line.LineKind.TheVariants.{Pattern, Colon, Semicolon, Action, Other}
use Rattle.db_lex.specs.Lines.{KeptLine, kind_of, word_of, kept_lines}
use Rattle.db_rules.specs.declared.fault.Fault.{Fault}
use Rattle.db_rules.specs.declared.stage.TableCell.TheVariants.{Next, Refused}
use Rattle.db_rules.specs.declared.stage.Stage.{Stage}
use Rattle.db_rules.specs.declared.stage.Stage.TheVariants.{Start, Diagram, Labels, Expression, Actions}
use Rattle.db_rules.specs.declared.kind.FaultKind.{FaultKind}
use Rattle.db_rules.specs.declared.kind.FaultKind.TheVariants.{StrayLine}
use Rattle.db_rules.specs.Kinds.{first_of}
use Rattle.db_rules.specs.Diagram.{diagram_fault}
use Rattle.db_rules.specs.Labels.{constraint_fault, labels_closing_fault, labels_of}
use Rattle.db_rules.specs.Expressions.{kind_of_expression}
use Rattle.db_rules.specs.Colon.{is_ascii_letter, colon_fault}
use Rattle.db_rules.specs.Accepted.{IsDrawn, IsLabelled}
use Rattle.db_rules.specs.Accepted as accepted
use Rattle.db_rules.specs.Blocks.{Block, SoFar, blocks_of, lines_in, words_in, begun_with, placed, table, cell_for}
use Rattle.db_rules.specs.Blocks.{with_cell, after_line, end_refused, at_start}
use Rattle.db_rules.specs.Faults.{or_else, at_line, first_number, most_entries, is_unnamed, expression_kind}
use Rattle.db_rules.specs.Faults.{pattern_fault, own_fault, gathered_fault, closing_fault, found}
use Rattle.db_rules.specs.Faults.{found_at_end, first_fault, end_number, closes}
use Rattle.db_rules.specs.Database.{IsLineOf, IsInFront, IsColonLine, IsBlock, IsDatabase}
use Rattle.db_rules.proofs.Walk.{walk, first_fault-walk}

-- what some lines come to, of these parts
abbrev parts : Stage → List KeptLine → List Block → Option Block → SoFar
parts stage front done now = record { stage = stage; front = front; done = done; now = now }

-- all lines so far
abbrev all_in : SoFar → List KeptLine
all_in s = s.front ++ flat_map lines_in (blocks_of s)

-- the block that goes on stands last
lines_of_last : (front : List KeptLine) (done : List Block) (b : Block)
    → front ++ flat_map lines_in (done ++ b ∷ []) ≡ (front ++ flat_map lines_in done) ++ lines_in b
lines_of_last front done b = grind (arith, flat_map-append, append-nil, append_assoc)

-- a line at the end of a list stands behind an empty list after it too
past : (x y : List KeptLine) (line : KeptLine) → y ≡ [] → (x ++ line ∷ []) ++ y ≡ (x ++ y) ++ line ∷ []
past x y line none = grind (arith, append-nil)

-- a line at the end of the second of two lists stands at the end of both
at_end : (x y : List KeptLine) (line : KeptLine) → x ++ (y ++ line ∷ []) ≡ (x ++ y) ++ line ∷ []
at_end x y line = sym (append_assoc x y (line ∷ []))

-- nothing stands behind the main diagram yet
abbrev AreEmptyBehindDiagram : Block → Type 0
AreEmptyBehindDiagram b = (b.colon ≡ []) × (b.constraint ≡ []) × (b.expression ≡ []) × (b.actions ≡ [])

-- nothing stands behind the constraint diagram yet
abbrev AreEmptyBehindLabels : Block → Type 0
AreEmptyBehindLabels b = (b.expression ≡ []) × (b.actions ≡ [])

-- a line of the main diagram stands at the end of a block that has nothing behind it
diagram_line_ends : (b : Block) (line : KeptLine) → AreEmptyBehindDiagram b
    → lines_in (record b { diagram = b.diagram ++ line ∷ [] }) ≡ lines_in b ++ line ∷ []
diagram_line_ends b line h = grind (arith, past)

-- a colon line stands at the end of a block that has nothing behind the main diagram
colon_line_ends : (b : Block) (line : KeptLine) → AreEmptyBehindDiagram b
    → lines_in (record b { colon = b.colon ++ line ∷ [] }) ≡ lines_in b ++ line ∷ []
colon_line_ends b line h = grind (arith, at_end, past)

-- a line of the constraint diagram stands at the end of a block that has nothing behind it
constraint_line_ends : (b : Block) (line : KeptLine) → AreEmptyBehindLabels b
    → lines_in (record b { constraint = b.constraint ++ line ∷ [] }) ≡ lines_in b ++ line ∷ []
constraint_line_ends b line h = grind (arith, at_end, past)

-- an expression line stands at the end of a block without action lines
expression_line_ends : (b : Block) (line : KeptLine) → b.actions ≡ []
    → lines_in (record b { expression = b.expression ++ line ∷ [] }) ≡ lines_in b ++ line ∷ []
expression_line_ends b line h = grind (arith, at_end, past)

-- an action line stands at the end of its block
action_line_ends : (b : Block) (line : KeptLine)
    → lines_in (record b { actions = b.actions ++ line ∷ [] }) ≡ lines_in b ++ line ∷ []
action_line_ends b line =
    ap (λ t. b.head ∷ t) (at_end (b.diagram ++ b.colon ++ b.constraint ++ b.expression) b.actions line)

-- if no fault is told at a line the line has none
no_kind : (number : ℕ) (kind : Option FaultKind) → at_line number kind ≡ None → kind ≡ None
no_kind number None none = refl
no_kind number (Some kind) none = absurd cc

-- neither of two faults that are looked for in order is there
or_none : (a b : Option Fault) → or_else a b ≡ None → (a ≡ None) × (b ≡ None)
or_none None b none = (refl, none)
or_none (Some a) b none = absurd cc

-- neither of two tests passes
none_of_two : (a b : Bool) (k l : FaultKind) → first_of ((a, k) ∷ (b, l) ∷ []) ≡ None → (a ≡ false) × (b ≡ false)
none_of_two true b k l none = absurd cc
none_of_two false true k l none = absurd cc
none_of_two false false k l none = (refl, refl)

-- a Pattern line without a fault has a name, and few enough entries begin before it
few_and_named : (entries : ℕ) (line : List ℕ) → pattern_fault entries line ≡ None → (entries < most_entries)
    × (is_unnamed line ≡ false)
unfolding pattern_fault
few_and_named entries line none = grind (arith, none_of_two, leb-false)

-- the stage that the table has is the one it has
next_is : (a b : Stage) → Next a ≡ Next b → a ≡ b
next_is a b e = cc

-- a Pattern line that is taken begins a block, and does not leave a main diagram
pattern_taken : (stage next : Stage) (byte : ℕ) → table stage Pattern byte ≡ Next next → (next ≡ Diagram)
    × (stage ≢ Diagram)
pattern_taken Start next byte e = (cc, λ same. absurd cc)
pattern_taken Diagram next byte e = absurd cc
pattern_taken Labels next byte e = (cc, λ same. absurd cc)
pattern_taken Expression next byte e = (cc, λ same. absurd cc)
pattern_taken Actions next byte e = (cc, λ same. absurd cc)

-- another line that is taken at the start begins with a letter, and stays there
letter_taken : (letter : Bool) (next : Stage) → cond letter (Next Start) (Refused StrayLine) ≡ Next next
    → (letter ≡ true) × (next ≡ Start)
letter_taken true next e = (refl, cc)
letter_taken false next e = absurd cc

-- an action line that is taken leads to actions, and comes neither at the start nor in a main diagram
action_taken : (stage next : Stage) (byte : ℕ) → table stage Action byte ≡ Next next → (next ≡ Actions)
    × (stage ≢ Start) × (stage ≢ Diagram)
action_taken Start next byte e = absurd cc
action_taken Diagram next byte e = absurd cc
action_taken Labels next byte e = (cc, (λ same. absurd cc), (λ same. absurd cc))
action_taken Expression next byte e = (cc, (λ same. absurd cc), (λ same. absurd cc))
action_taken Actions next byte e = (cc, (λ same. absurd cc), (λ same. absurd cc))

-- a kind of line, or the end, that closes a constraint diagram and an expression
abbrev ClosesBoth : Option LineKind → Type 0
ClosesBoth kind = (closes Labels kind ≡ true) × (closes Expression kind ≡ true)

-- what is closed has no fault if it is found to have none
gathered_where_closed : (number : ℕ) (kind : Option LineKind) (stage : Stage) (front : List KeptLine)
    (done : List Block) (now : Option Block) → ClosesBoth kind
    → closing_fault number kind (parts stage front done now) ≡ None → gathered_fault number stage now ≡ None
gathered_where_closed number kind stage front done None both none = refl
gathered_where_closed number kind Start front done (Some b) both none = refl
gathered_where_closed number kind Diagram front done (Some b) both none = refl
gathered_where_closed number kind Labels front done (Some b) both none = grind arith
gathered_where_closed number kind Expression front done (Some b) both none = grind arith
gathered_where_closed number kind Actions front done (Some b) both none = refl

-- a text whose end is not refused does not end in a main diagram
not_in_diagram : (number : ℕ) (stage : Stage) → at_line number (end_refused stage) ≡ None → stage ≢ Diagram
not_in_diagram number Start none = λ same. absurd cc
not_in_diagram number Diagram none = absurd cc
not_in_diagram number Labels none = λ same. absurd cc
not_in_diagram number Expression none = λ same. absurd cc
not_in_diagram number Actions none = λ same. absurd cc

-- a line at which nothing is found has no bad byte, closes nothing at fault, is taken by the table, and has no fault of
-- its own
record IsFine (helpers : List (List ℕ)) (s : SoFar) (line : KeptLine) : Type 0 where
  clean : line.is_bad ≡ false
  closing : closing_fault line.number (Some (kind_of line.bytes)) s ≡ None
  next : Stage
  cell : cell_for s.stage line ≡ Next next
  own : own_fault helpers s line (kind_of line.bytes) ≡ None

-- a line at which no fault is found is fine
nothing_found : (helpers : List (List ℕ)) (s : SoFar) (line : KeptLine) → found helpers s line ≡ None
    → IsFine helpers s line
unfolding found
nothing_found helpers s line none = grind (arith, or_none, no_kind)

module _ (helpers : List (List ℕ)) where
  -- a named Pattern line, and a main diagram below it without a fault
  record HasDiagram (line : KeptLine) (lines : List KeptLine) : Type 0 where
    head : IsLineOf Pattern line
    named : is_unnamed line.bytes ≡ false
    diagram : All (IsLineOf Other) lines
    drawn : IsDrawn (words_in lines)

  -- each line of the block so far is one of its part, without a fault
  record IsBegun (b : Block) : Type 0 where
    top : HasDiagram b.head b.diagram
    constraint : All (IsLineOf Other) b.constraint
    labelled : IsLabelled (words_in b.diagram) (words_in b.constraint)
    expression : All (IsLineOf Semicolon) b.expression
    actions : All (IsLineOf Action) b.actions

  -- the constraint diagram of the block has no fault if it is closed
  abbrev IsClosed : Block → Type 0
  IsClosed b = labels_closing_fault (words_in b.diagram) (words_in b.constraint) ≡ None

  -- the parts of the block that the stage has left are whole, and those that it has not reached are empty
  abbrev IsOpen : Stage → Block → Type 0
  IsOpen Start b = ⊥
  IsOpen Diagram b = AreEmptyBehindDiagram b
  IsOpen Labels b = IsColonLine helpers (words_in b.diagram) b.colon × AreEmptyBehindLabels b
  IsOpen Expression b = IsColonLine helpers (words_in b.diagram) b.colon × IsClosed b × (b.actions ≡ [])
  IsOpen Actions b = IsColonLine helpers (words_in b.diagram) b.colon × IsClosed b × (expression_kind b ≡ None)

  -- the block that goes on is at the stage; there is none at the start alone
  abbrev Fits : Stage → List Block → Option Block → Type 0
  Fits stage done None = (stage ≡ Start) × (done ≡ [])
  Fits stage done (Some b) = IsBegun b × IsOpen stage b

  -- some lines without a fault come to a front, to whole blocks, and to one that may go on
  record Stands (s : SoFar) : Type 0 where
    front : All IsInFront s.front
    done : All (IsBlock helpers) s.done
    few : length (blocks_of s) ≤ most_entries
    fits : Fits s.stage s.done s.now

  -- one line more stands at the end
  record Goes (s t : SoFar) (line : KeptLine) : Type 0 where
    lines : all_in t ≡ all_in s ++ line ∷ []
    stands : Stands t

  -- the block of these parts is whole
  whole : (b : Block) → IsBegun b → IsColonLine helpers (words_in b.diagram) b.colon → IsClosed b
      → expression_kind b ≡ None → IsBlock helpers b
  whole b begun colon closed judged = record {
    head = begun.top.head;
    named = begun.top.named;
    diagram = begun.top.diagram;
    drawn = begun.top.drawn;
    colon = colon;
    constraint = begun.constraint;
    labelled = begun.labelled;
    closed = closed;
    expression = begun.expression;
    judged = judged;
    actions = begun.actions;
  }

  -- a block that is left is whole, where what the stage has gathered has no fault
  whole_block : (number : ℕ) (stage : Stage) (b : Block) → IsBegun b → IsOpen stage b
      → gathered_fault number stage (Some b) ≡ None → stage ≢ Diagram → IsBlock helpers b
  whole_block number Start b begun fits none left = absurd fits
  whole_block number Diagram b begun fits none left = absurd (left refl)
  whole_block number Labels b begun fits none left =
      whole b begun fits.0 (no_kind number _ none)
      (ap (kind_of_expression (labels_of (words_in b.diagram) (words_in b.constraint))) fits.1.0)
  whole_block number Expression b begun fits none left =
      whole b begun fits.0 fits.1 (no_kind (first_number b.expression) (expression_kind b) none)
  whole_block number Actions b begun fits none left = whole b begun fits.0 fits.1 fits.2

  -- the blocks that are left are whole
  all_whole : (number : ℕ) (stage : Stage) (done : List Block) (now : Option Block) → All (IsBlock helpers) done
      → Fits stage done now
      → gathered_fault number stage now ≡ None → stage ≢ Diagram → All (IsBlock helpers) (done ++ option_to_list now)
  all_whole number stage done None all fits none left =
      All-append (IsBlock helpers) done [] all (All-nil (IsBlock helpers))
  all_whole number stage done (Some b) all fits none left =
      All-push (IsBlock helpers) done b all (whole_block number stage b fits.0 fits.1 none left)

  -- a block that goes on with one line more
  grown : (stage next : Stage) (front : List KeptLine) (done : List Block) (b d : Block) (line : KeptLine)
      → Stands (parts stage front done (Some b))
      → lines_in d ≡ lines_in b ++ line ∷ [] → IsBegun d → IsOpen next d
      → Goes (parts stage front done (Some b)) (parts next front done (Some d)) line
  grown stage next front done b d line stands more begun fits = record {
    lines = lines_of_last front done d ∙ ap (λ l. (front ++ flat_map lines_in done) ++ l) more
        ∙ sym (append_assoc (front ++ flat_map lines_in done) (lines_in b) (line ∷ []))
        ∙ ap (λ l. l ++ line ∷ []) (sym (lines_of_last front done b));
    stands = record {
      front = stands.front;
      done = stands.done;
      few = omega (arith, stands.few, length-append done (b ∷ []), length-append done (d ∷ []));
      fits = (begun, fits);
    };
  }

  -- a line in front
  to_front : (front : List KeptLine) (done : List Block) (line : KeptLine) → Stands (parts Start front done None)
      → IsInFront line
      → Goes (parts Start front done None) (parts Start (front ++ line ∷ []) done None) line
  to_front front done line stands fine =
      let none : flat_map lines_in (done ++ []) ≡ [] = ap (λ d. flat_map lines_in (d ++ [])) stands.fits.1 in
      record {
        lines = rw none (simp append-nil);
        stands = record {
          front = All-push IsInFront front line stands.front fine;
          done = stands.done;
          few =
              stands.few;
          fits = stands.fits;
        };
      }

  -- a Pattern line
  to_block : (s : SoFar) (line : KeptLine) → Stands s → IsLineOf Pattern line
      → gathered_fault line.number s.stage s.now ≡ None
      → pattern_fault (length (blocks_of s)) line.bytes ≡ None → s.stage ≢ Diagram
      → Goes s (placed line Diagram s Pattern) line
  to_block s line stands head none own left =
      let named = few_and_named (length (blocks_of s)) line.bytes own in
      record {
        lines = lines_of_last s.front (blocks_of s) (begun_with line);
        stands = record {
          front = stands.front;
          done = all_whole line.number s.stage s.done s.now stands.done stands.fits none left;
          few = omega (arith, named.0, length-append (blocks_of s) (begun_with line ∷ []));
          fits = (
            record {
              top = record {
                head = head;
                named = named.1;
                diagram = All-nil (IsLineOf Other);
                drawn = accepted.no_line;
              };
              constraint = All-nil (IsLineOf Other);
              labelled = accepted.no_line;
              expression = All-nil (IsLineOf Semicolon);
              actions = All-nil (IsLineOf Action);
            },
            (refl, refl, refl, refl),
          );
        };
      }

  -- a line of the main diagram
  to_diagram : (front : List KeptLine) (done : List Block) (b : Block) (line : KeptLine)
      → Stands (parts Diagram front done (Some b)) → IsLineOf Other line
      → diagram_fault (words_in b.diagram) (word_of line.bytes) ≡ None
      → Goes (parts Diagram front done (Some b)) (parts Diagram front done (Some (record b {
        diagram =
            b.diagram ++ line ∷ [];
      }))) line
  to_diagram front done b line stands other none =
      let begun = stands.fits.0 in
      let empty = stands.fits.1 in
      let words : words_in b.diagram ++ word_of line.bytes ∷ [] ≡ words_in (b.diagram ++ line ∷ []) =
      sym (map-append (λ l. word_of l.bytes) b.diagram (line ∷ [])) in
      let drawn : IsDrawn (words_in (b.diagram ++ line ∷ [])) =
      subst IsDrawn words (accepted.one_line_more (words_in b.diagram) (word_of line.bytes) begun.top.drawn none) in
      let labelled : IsLabelled (words_in (b.diagram ++ line ∷ [])) (words_in b.constraint) =
      subst (λ c. IsLabelled (words_in (b.diagram ++ line ∷ [])) (words_in c)) (sym empty.1) accepted.no_line in
      grown Diagram Diagram front done b (record b {
        diagram =
            b.diagram ++ line ∷ [];
      }) line stands (diagram_line_ends b line empty)
      (record {
        top = record {
          head = begun.top.head;
          named = begun.top.named;
          diagram = All-push (IsLineOf Other) b.diagram line begun.top.diagram other;
          drawn = drawn;
        };
        constraint = begun.constraint;
        labelled = labelled;
        expression = begun.expression;
        actions = begun.actions;
      })
      empty

  -- the colon line
  to_colon : (front : List KeptLine) (done : List Block) (b : Block) (line : KeptLine)
      → Stands (parts Diagram front done (Some b)) → IsLineOf Colon line
      → colon_fault helpers (words_in b.diagram) line.bytes ≡ None
      → Goes (parts Diagram front done (Some b)) (parts Labels front done (Some (record b {
        colon =
            b.colon ++ line ∷ [];
      }))) line
  to_colon front done b line stands colon none =
      let begun = stands.fits.0 in
      let empty = stands.fits.1 in
      let one : IsColonLine helpers (words_in b.diagram) (b.colon ++ line ∷ []) =
      record { line = line; alone = ap (λ l. l ++ line ∷ []) empty.0; colon = colon; faultless = none } in
      grown Diagram Labels front done b (record b {
        colon =
            b.colon ++ line ∷ [];
      }) line stands (colon_line_ends b line empty)
      (record {
        top = begun.top;
        constraint = begun.constraint;
        labelled = begun.labelled;
        expression = begun.expression;
        actions = begun.actions;
      })
      (one, (empty.2, empty.3))

  -- a line of the constraint diagram
  to_constraint : (front : List KeptLine) (done : List Block) (b : Block) (line : KeptLine)
      → Stands (parts Labels front done (Some b)) → IsLineOf Other line
      → constraint_fault (words_in b.diagram) (words_in b.constraint) (word_of line.bytes) ≡ None
      → Goes (parts Labels front done (Some b)) (parts Labels front done (Some (record b {
        constraint =
            b.constraint ++ line ∷ [];
      }))) line
  to_constraint front done b line stands other none =
      let begun = stands.fits.0 in
      let fits = stands.fits.1 in
      let words : words_in b.constraint ++ word_of line.bytes ∷ [] ≡ words_in (b.constraint ++ line ∷ []) =
      sym (map-append (λ l. word_of l.bytes) b.constraint (line ∷ [])) in
      let labelled : IsLabelled (words_in b.diagram) (words_in (b.constraint ++ line ∷ [])) =
      subst (IsLabelled (words_in b.diagram)) words
      (accepted.one_line_more (words_in b.constraint) (word_of line.bytes) begun.labelled none) in
      grown Labels Labels front done b (record b {
        constraint =
            b.constraint ++ line ∷ [];
      }) line stands (constraint_line_ends b line fits.1)
      (record {
        top = begun.top;
        constraint = All-push (IsLineOf Other) b.constraint line begun.constraint other;
        labelled = labelled;
        expression = begun.expression;
        actions = begun.actions;
      })
      fits

  -- a line of an expression
  to_expression : (stage : Stage) (front : List KeptLine) (done : List Block) (b : Block) (line : KeptLine)
      → Stands (parts stage front done (Some b)) → IsLineOf Semicolon line
      → IsColonLine helpers (words_in b.diagram) b.colon → IsClosed b → b.actions ≡ []
      → Goes (parts stage front done (Some b)) (parts Expression front done (Some (record b {
        expression =
            b.expression ++ line ∷ [];
      }))) line
  to_expression stage front done b line stands semicolon colon closed empty =
      let begun = stands.fits.0 in
      grown stage Expression front done b (record b {
        expression =
            b.expression ++ line ∷ [];
      }) line stands (expression_line_ends b line empty)
      (record {
        top = begun.top;
        constraint = begun.constraint;
        labelled = begun.labelled;
        expression = All-push (IsLineOf Semicolon) b.expression line begun.expression semicolon;
        actions = begun.actions;
      })
      (colon, closed, empty)

  -- a line of actions
  to_actions : (stage : Stage) (front : List KeptLine) (done : List Block) (b : Block) (line : KeptLine)
      → Stands (parts stage front done (Some b)) → IsLineOf Action line
      → IsBlock helpers b
      → Goes (parts stage front done (Some b)) (parts Actions front done (Some (record b {
        actions =
            b.actions ++ line ∷ [];
      }))) line
  to_actions stage front done b line stands action block =
      let begun = stands.fits.0 in
      grown stage Actions front done b (record b {
        actions =
            b.actions ++ line ∷ [];
      }) line stands (action_line_ends b line)
      (record {
        top = begun.top;
        constraint = begun.constraint;
        labelled = begun.labelled;
        expression = begun.expression;
        actions = All-push (IsLineOf Action) b.actions line begun.actions action;
      })
      (block.colon, block.closed, block.judged)

  -- a line of text stands at the end, by the stage
  by_text : (stage next : Stage) (front : List KeptLine) (done : List Block) (now : Option Block) (line : KeptLine)
      → Stands (parts stage front done now) → IsLineOf Other line
      → table stage Other (slice_index line.bytes 0) ≡ Next next
      → closing_fault line.number (Some Other) (parts stage front done now) ≡ None
      → own_fault helpers (parts stage front done now) line Other ≡ None
      → Goes (parts stage front done now) (placed line next (parts stage front done now) Other) line
  by_text Start next front done None line stands of_kind e closing own =
      let s = parts Start front done None in
      let letter = letter_taken (is_ascii_letter (slice_index line.bytes 0)) next e in
      subst (λ t. Goes s (placed line t s Other) line) (sym letter.1) (to_front front done line stands (record {
        other =
            of_kind;
        letter = letter.0;
      }))
  by_text Start next front done (Some b) line stands of_kind e closing own = absurd stands.fits.1
  by_text Diagram next front done None line stands of_kind e closing own = absurd (cc stands.fits.0)
  by_text Diagram next front done (Some b) line stands of_kind e closing own =
      let s = parts Diagram front done (Some b) in
      subst (λ t. Goes s (placed line t s Other) line) (next_is Diagram next e)
      (to_diagram front done b line stands of_kind own)
  by_text Labels next front done None line stands of_kind e closing own = absurd (cc stands.fits.0)
  by_text Labels next front done (Some b) line stands of_kind e closing own =
      let s = parts Labels front done (Some b) in
      subst (λ t. Goes s (placed line t s Other) line) (next_is Labels next e)
      (to_constraint front done b line stands of_kind own)
  by_text Expression next front done now line stands of_kind e closing own = absurd cc
  by_text Actions next front done now line stands of_kind e closing own = absurd cc

  -- a line that the table takes stands at the end, by its kind and the stage
  by_kind : (kind : LineKind) (stage next : Stage) (front : List KeptLine) (done : List Block) (now : Option Block)
      (line : KeptLine)
      → Stands (parts stage front done now) → IsLineOf kind line
      → table stage kind (slice_index line.bytes 0) ≡ Next next
      → closing_fault line.number (Some kind) (parts stage front done now) ≡ None
      → own_fault helpers (parts stage front done now) line kind ≡ None
      → Goes (parts stage front done now) (placed line next (parts stage front done now) kind) line
  by_kind Pattern stage next front done now line stands of_kind e closing own =
      let s = parts stage front done now in
      let taken = pattern_taken stage next (slice_index line.bytes 0) e in
      subst (λ t. Goes s (placed line t s Pattern) line) (sym taken.0)
      (to_block s line stands of_kind
      (gathered_where_closed line.number (Some Pattern) stage front done now (refl, refl) closing) own taken.1)
  by_kind Colon Diagram next front done None line stands of_kind e closing own = absurd (cc stands.fits.0)
  by_kind Colon Diagram next front done (Some b) line stands of_kind e closing own =
      let s = parts Diagram front done (Some b) in
      subst (λ t. Goes s (placed line t s Colon) line) (next_is Labels next e)
      (to_colon front done b line stands of_kind own)
  by_kind Colon Start next front done now line stands of_kind e closing own = absurd cc
  by_kind Colon Labels next front done now line stands of_kind e closing own = absurd cc
  by_kind Colon Expression next front done now line stands of_kind e closing own = absurd cc
  by_kind Colon Actions next front done now line stands of_kind e closing own = absurd cc
  by_kind Semicolon Labels next front done None line stands of_kind e closing own = absurd (cc stands.fits.0)
  by_kind Semicolon Labels next front done (Some b) line stands of_kind e closing own =
      let s = parts Labels front done (Some b) in
      let fits = stands.fits.1 in
      subst (λ t. Goes s (placed line t s Semicolon) line) (next_is Expression next e)
      (to_expression Labels front done b line stands of_kind fits.0 (no_kind line.number _ closing) fits.1.1)
  by_kind Semicolon Expression next front done None line stands of_kind e closing own = absurd (cc stands.fits.0)
  by_kind Semicolon Expression next front done (Some b) line stands of_kind e closing own =
      let s = parts Expression front done (Some b) in
      let fits = stands.fits.1 in
      subst (λ t. Goes s (placed line t s Semicolon) line) (next_is Expression next e)
      (to_expression Expression front done b line stands of_kind fits.0 fits.1 fits.2)
  by_kind Semicolon Start next front done now line stands of_kind e closing own = absurd cc
  by_kind Semicolon Diagram next front done now line stands of_kind e closing own = absurd cc
  by_kind Semicolon Actions next front done now line stands of_kind e closing own = absurd cc
  by_kind Action stage next front done None line stands of_kind e closing own =
      absurd ((action_taken stage next (slice_index line.bytes 0) e).1 stands.fits.0)
  by_kind Action stage next front done (Some b) line stands of_kind e closing own =
      let s = parts stage front done (Some b) in
      let taken = action_taken stage next (slice_index line.bytes 0) e in
      let none = gathered_where_closed line.number (Some Action) stage front done (Some b) (refl, refl) closing in
      let block = whole_block line.number stage b stands.fits.0 stands.fits.1 none taken.2 in
      subst (λ t. Goes s (placed line t s Action) line) (sym taken.0)
      (to_actions stage front done b line stands of_kind block)
  by_kind Other stage next front done now line stands of_kind e closing own =
      by_text stage next front done now line stands of_kind e closing own

  -- a line without a fault stands at the end
  goes : (s : SoFar) (line : KeptLine) → Stands s → found helpers s line ≡ None → Goes s (after_line s line) line
  unfolding after_line
  goes s line stands none =
      let fine = nothing_found helpers s line none in
      subst (λ c. Goes s (with_cell s line c) line) (sym fine.cell)
      (by_kind (kind_of line.bytes) s.stage fine.next s.front s.done s.now line stands (record {
        clean =
            fine.clean;
        kind_is = refl;
      }) fine.cell fine.closing fine.own)

  -- where lines without a fault end
  record Ends (s : SoFar) (lines : List KeptLine) (end : ℕ) : Type 0 where
    all : all_in (fold after_line s lines) ≡ all_in s ++ lines
    stands : Stands (fold after_line s lines)
    none : found_at_end end (fold after_line s lines) ≡ None

  -- going over lines without a fault puts each at the end
  goes_on : (end : ℕ) (s : SoFar) (lines : List KeptLine) → walk helpers end s lines ≡ None → Stands s
      → Ends s lines end
  unfolding walk
  goes_on end s [] none stands = record { all = sym (append-nil (all_in s)); stands = stands; none = none }
  goes_on end s (line ∷ lines) none stands =
      let both = or_none (found helpers s line) (walk helpers end (after_line s line) lines) none in
      let one = goes s line stands both.0 in
      let more = goes_on end (after_line s line) lines both.1 one.stands in
      record {
        all = more.all ∙ ap (λ l. l ++ lines) one.lines ∙ append_assoc (all_in s) (line ∷ []) lines;
        stands =
            more.stands;
        none = more.none;
      }

  -- what lines without a fault come to at the end is a front and whole blocks
  whole_at_end : (number : ℕ) (s : SoFar) → Stands s → found_at_end number s ≡ None
      → All (IsBlock helpers) (blocks_of s)
  unfolding found_at_end
  whole_at_end number s stands none =
      let both = or_none (closing_fault number None s) (at_line number (end_refused s.stage)) none in
      all_whole number s.stage s.done s.now stands.done stands.fits
      (gathered_where_closed number None s.stage s.front s.done s.now (refl, refl) both.0)
      (not_in_diagram number s.stage both.1)

-- before the first line there is no front and no block
stands_at_start : (helpers : List (List ℕ)) → Stands helpers at_start
stands_at_start helpers = grind arith

-- a text without a fault is a database
pub faultless_is_database : (helpers : List (List ℕ)) (text : List ℕ) → first_fault helpers text ≡ None
    → IsDatabase helpers text
faultless_is_database helpers text none =
    let faultless = sym (first_fault-walk helpers text) ∙ none in
    let ends = goes_on helpers (end_number text) at_start (kept_lines text) faultless (stands_at_start helpers) in
    let last = fold after_line at_start (kept_lines text) in
    record {
      front = last.front;
      blocks = blocks_of last;
      cut = sym ends.all;
      in_front = ends.stands.front;
      whole = whole_at_end helpers (end_number text) last ends.stands ends.none;
      few = ends.stands.few;
    }
