-- Lines that are answered one after another, and what is put for them.
use Rattle.std.proofs.Common.{◌≡◌, ℕ, ◌+◌, ◌-◌, ◌<◌, ◌≤◌, Bool, true, false, List, [], ◌∷◌, ◌++◌, length, take, drop, Option}
use Rattle.std.proofs.Common.{refl, sym, ap, subst, ◌∙◌, append-nil, append_assoc, suc, take-add, length-drop, arith, Result, Ok, Err, IfOk}
use Rattle.std.proofs.KnownBytes.{Appends-nil, Appends-trans, Consumes-trans}
use Rattle.std.proofs.lemmas.List.{take_rest}
use Rattle.std.specs.Io.KnownBytes.{Appends, Consumes}
use Rattle.gtp_rules.specs.Lines.{RawLine, Line, lines_with_rest}
use Rattle.gtp_rules.specs.Transcript.{MayAnswer, IsRun, IsTranscript}
use Rattle.gtp_rules.proofs.Runs.{IsRun-append}
use Rattle.gtp_lex.specs.Held.{lines_from, held_from, held_line}
use Rattle.gtp_lex.proofs.HeldLemmas.{lines_with_rest-lines_from, lines_from-append, held_from-append}
use Rattle.sure_lines.specs.Files.{Contents}
use Rattle.sure_lines.specs.Machine.{Machine}
use Rattle.sure_lines.specs.Sessions.{AreAnswered, IsSession}
use Rattle.sure_lines.specs.SureStep.{step}

-- answers of a machine with the same files
pub answered-by : (here there : Contents) (old new : Machine) (lines : List RawLine) (a b : Option (List ℕ)) (ended : Bool)
    → here ≡ there → AreAnswered here old new lines a b ended → AreAnswered there old new lines a b ended
answered-by here there old new lines a b ended same answered = grind arith

-- the same with a flag that says whether the session ended
pub answered-flag : (contents : Contents) (old new : Machine) (lines : List RawLine) (a b : Option (List ℕ))
    (ended flag : Bool) → ended ≡ flag → AreAnswered contents old new lines a b ended
    → AreAnswered contents old new lines a b flag
answered-flag contents old new lines a b ended flag same answered = grind arith

-- what holds of a success holds of it in another way too
pub if_ok_map : {T E : Type 0} {P Q : T → Type 0} (r : Result T E) → ((x : T) → P x → Q x) → IfOk r P → IfOk r Q
if_ok_map (Ok x) goes is = goes x is
if_ok_map (Err e) goes is = tt

-- n bytes more were put behind the first done of the bytes
pub put_further : (a b c : Option (List ℕ)) (bytes : List ℕ) (done n : ℕ) → Appends a b (take done bytes)
    → Appends b c (take n (take (length bytes - done) (drop done bytes))) → Appends a c (take (done + n) bytes)
put_further a b c bytes done n start more =
    let rest = drop done bytes in
    let next : Appends b c (take n rest) = subst (λ l. Appends b c (take n l)) (take_rest bytes done) more in
    subst (Appends a c) (sym (take-add done n bytes)) (Appends-trans a b c (take done bytes) (take n rest) start next)

-- where a read gave nothing, nothing was taken
pub nothing_taken : (a b : Option (List ℕ)) (buf : List ℕ) (n : ℕ) → n ≡ 0 → Consumes a b (take n buf) → Consumes a b []
nothing_taken a b buf n none taken = subst (λ k. Consumes a b (take k buf)) none taken

-- bytes of a rest are no more than are left
pub within_rest : (bytes : List ℕ) (done n : ℕ) → n ≤ length (take (length bytes - done) (drop done bytes))
    → n ≤ length bytes - done
within_rest bytes done n fits = grind (arith, take_rest, length-drop)

-- a run that has ended is one of further lines too
run-ended : (contents : Contents) (old new : Machine) (xs ys : List RawLine) (out : List ℕ)
    → IsRun (step contents) old xs out new true → IsRun (step contents) old (xs ++ ys) out new true
run-ended contents old new [] ys out run = absurd (let e = run.2 in cc)
run-ended contents old new (x ∷ xs) ys out (first, rest, mid, true, answers, joined, ends) = grind arith
run-ended contents old new (x ∷ xs) ys out (first, rest, mid, false, answers, joined, more) =
    (first, rest, mid, false, answers, joined, run-ended contents mid new xs ys rest more)

-- the lines that ended in the bytes so far are answered, and the line so far is what they leave
pub record IsSoFar (contents : Contents) (first now : Machine) (left left_now written written_now : Option (List ℕ))
    (held : RawLine) : Type 0 where
  pub taken : List ℕ
  pub takes : Consumes left left_now taken
  pub answered : AreAnswered contents first now (lines_from (Line []) taken) written written_now false
  pub held_is : held ≡ held_from (Line []) taken

-- of all these lines some are answered, and these are left
pub record IsPieceSoFar (contents : Contents) (first now : Machine) (all left : List RawLine)
    (written written_now : Option (List ℕ)) : Type 0 where
  pub lines : List RawLine
  pub whole : all ≡ lines ++ left
  pub answered : AreAnswered contents first now lines written written_now false

-- a list of no bytes
pub length-nil : (bytes : List ℕ) → length bytes ≡ 0 → bytes ≡ []
length-nil [] none = refl
length-nil (b ∷ bs) none = absurd (let impossible : suc (length bs) ≡ 0 = none in cc)

module _ (contents : Contents) where
  -- no line
  pub answered-none : (old : Machine) (written : Option (List ℕ)) → AreAnswered contents old old [] written written false
  answered-none old written = record { out = []; run = (refl, refl, refl); puts = Appends-nil written }

  -- what is put after a line, by whether it ends the session
  after_one : (ends : Bool) (old new : Machine) (line : RawLine) (out : List ℕ)
      → MayAnswer (step contents) old line out new ends → IsRun (step contents) old (line ∷ []) out new ends
  after_one true old new line out answers = grind (arith, append-nil out)
  after_one false old new line out answers = grind (arith, append-nil out)

  -- one line
  pub answered-one : (old new : Machine) (line : RawLine) (out : List ℕ) (a b : Option (List ℕ)) (ends : Bool)
      → MayAnswer (step contents) old line out new ends → Appends a b out
      → AreAnswered contents old new (line ∷ []) a b ends
  answered-one old new line out a b ends answers puts = grind (arith, after_one)

  -- lines after lines
  pub answered-append : (old mid new : Machine) (xs ys : List RawLine) (a b c : Option (List ℕ)) (ended : Bool)
      → AreAnswered contents old mid xs a b false → AreAnswered contents mid new ys b c ended
      → AreAnswered contents old new (xs ++ ys) a c ended
  answered-append old mid new xs ys a b c ended first second = record {
    out = first.out ++ second.out;
    run = IsRun-append Machine (step contents) old xs ys first.out second.out mid new ended first.run second.run;
    puts = Appends-trans a b c first.out second.out first.puts second.puts;
  }

  -- lines behind one that ended the session
  pub answered-ended : (old new : Machine) (xs ys : List RawLine) (a b : Option (List ℕ))
      → AreAnswered contents old new xs a b true → AreAnswered contents old new (xs ++ ys) a b true
  answered-ended old new xs ys a b first = grind (arith, run-ended)

  -- the same lines
  pub answered-is : (old new : Machine) (xs ys : List RawLine) (a b : Option (List ℕ)) (ended : Bool) → xs ≡ ys
      → AreAnswered contents old new ys a b ended → AreAnswered contents old new xs a b ended
  answered-is old new xs ys a b ended same answered = grind arith

  -- none of the lines is answered yet
  pub piece-start : (first : Machine) (all : List RawLine) (w : Option (List ℕ))
      → IsPieceSoFar contents first first all all w w
  piece-start first all w = record { lines = []; whole = refl; answered = answered-none first w }

  -- some more were answered
  pub piece-more : (first now new : Machine) (all left more rest : List RawLine) (w0 w1 w2 : Option (List ℕ))
      → IsPieceSoFar contents first now all left w0 w1 → left ≡ more ++ rest
      → AreAnswered contents now new more w1 w2 false → IsPieceSoFar contents first new all rest w0 w2
  piece-more first now new all left more rest w0 w1 w2 before same answered = record {
    lines = before.lines ++ more;
    whole = before.whole ∙ ap (λ l. before.lines ++ l) same ∙ sym (append_assoc before.lines more rest);
    answered = answered-append first now new before.lines more w0 w1 w2 false before.answered answered;
  }

  -- one of them ended the session
  pub piece-ended : (first now new : Machine) (all left more rest : List RawLine) (w0 w1 w2 : Option (List ℕ))
      → IsPieceSoFar contents first now all left w0 w1 → left ≡ more ++ rest
      → AreAnswered contents now new more w1 w2 true → AreAnswered contents first new all w0 w2 true
  piece-ended first now new all left more rest w0 w1 w2 before same answered =
      grind (arith, answered-is, append_assoc, answered-ended, answered-append)

  -- none is left
  pub piece-done : (first now : Machine) (all left : List RawLine) (w0 w1 : Option (List ℕ))
      → IsPieceSoFar contents first now all left w0 w1 → left ≡ [] → AreAnswered contents first now all w0 w1 false
  piece-done first now all left w0 w1 before none = grind (arith, answered-is, append-nil)

  -- nothing was taken yet
  pub so_far-none : (first : Machine) (left written : Option (List ℕ)) (held : RawLine) → held ≡ Line []
      → IsSoFar contents first first left left written written held
  so_far-none first left written held empty = grind (arith, answered-none first written)

  -- A piece more was taken.
  module _ (first now new : Machine) (l0 l1 l2 w0 w1 w2 : Option (List ℕ)) (held : RawLine) (piece : List ℕ)
      (before : IsSoFar contents first now l0 l1 w0 w1 held) (takes : Consumes l1 l2 piece) where
    -- the lines of the bytes with the piece
    longer_lines : lines_from (Line []) (before.taken ++ piece)
        ≡ lines_from (Line []) before.taken ++ lines_from held piece
    longer_lines = grind (arith, lines_from-append)

    -- its lines were answered, and none ended the session
    pub so_far-more : (held_now : RawLine) → held_now ≡ held_from held piece
        → AreAnswered contents now new (lines_from held piece) w1 w2 false → IsSoFar contents first new l0 l2 w0 w2 held_now
    so_far-more held_now leaves answered = record {
      taken = before.taken ++ piece;
      takes = Consumes-trans l0 l1 l2 before.taken piece before.takes takes;
      answered = answered-is first new _ _ w0 w2 false longer_lines
          (answered-append first now new _ _ w0 w1 w2 false before.answered answered);
      held_is = leaves ∙ ap (λ h. held_from h piece) before.held_is
          ∙ sym (held_from-append (Line []) before.taken piece);
    }

    -- one of its lines ended the session
    pub session-ended : AreAnswered contents now new (lines_from held piece) w1 w2 true → IsSession contents first l0 l2 w0 w2
    session-ended answered =
        let whole = answered-is first new _ _ w0 w2 true
        (lines_with_rest-lines_from (before.taken ++ piece)
        ∙ ap (λ l. l ++ held_line (held_from (Line []) (before.taken ++ piece))) longer_lines)
        (answered-ended first new _ (held_line (held_from (Line []) (before.taken ++ piece))) w0 w2
        (answered-append first now new _ _ w0 w1 w2 true before.answered answered)) in
        record {
          taken = before.taken ++ piece;
          out = whole.out;
          takes = Consumes-trans l0 l1 l2 before.taken piece before.takes takes;
          puts = whole.puts;
          transcript = (new, true, whole.run);
        }

  -- the end came, and the rest was answered
  pub session-done : (first now new : Machine) (l0 l1 l2 w0 w1 w2 : Option (List ℕ)) (held : RawLine) (ended : Bool)
      → IsSoFar contents first now l0 l1 w0 w1 held → Consumes l1 l2 []
      → AreAnswered contents now new (held_line held) w1 w2 ended → IsSession contents first l0 l2 w0 w2
  session-done first now new l0 l1 l2 w0 w1 w2 held ended before takes answered =
      let whole = answered-is first new _ _ w0 w2 ended
      (lines_with_rest-lines_from before.taken
      ∙ ap (λ h. lines_from (Line []) before.taken ++ held_line h) (sym before.held_is))
      (answered-append first now new _ _ w0 w1 w2 ended before.answered answered) in
      record {
        taken = before.taken;
        out = whole.out;
        takes = subst (Consumes l0 l2) (append-nil before.taken)
            (Consumes-trans l0 l1 l2 before.taken [] before.takes takes);
        puts = whole.puts;
        transcript = (new, ended, whole.run);
      }
