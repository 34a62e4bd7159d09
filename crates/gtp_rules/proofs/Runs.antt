-- Runs one after another.
use Rattle.std.proofs.Common.{◌≡◌, ℕ, ◌<◌, Bool, true, false, List, [], ◌∷◌, ◌++◌, length, refl, sym, ap, subst}
use Rattle.std.proofs.Common.{◌∙◌, append_assoc, append-nil, inl, arith, length-append}
use Rattle.gtp_rules.specs.Lines.{RawLine}
use Rattle.gtp_rules.specs.Steps.{Step}
use Rattle.gtp_rules.specs.Transcript.{MayAnswer, IsTotal, IsRun, IsTranscript, Cut}

module _ (M : Type 0) (step : M → RawLine → Step M → Type 0) where
  -- a run that has not ended, and one that goes on from its machine, are a run
  pub IsRun-append : (old : M) (xs ys : List RawLine) (a b : List ℕ) (mid new : M) (ended : Bool)
      → IsRun step old xs a mid false → IsRun step mid ys b new ended → IsRun step old (xs ++ ys) (a ++ b) new ended
  IsRun-append old [] ys a b mid new ended p q =
      subst (λ o. IsRun step old ys (o ++ b) new ended) (sym p.0) (subst (λ m. IsRun step m ys b new ended) p.1 q)
  IsRun-append old (x ∷ xs) ys a b mid new ended (first, rest, m, true, answers, joined, h) q =
      absurd (let e = h.2 in cc)
  IsRun-append old (x ∷ xs) ys a b mid new ended (first, rest, m, false, answers, joined, h) q = (
    first,
    rest ++ b,
    m,
    false,
    answers,
    ap (λ o. o ++ b) joined
        ∙ append_assoc first rest b,
    IsRun-append m xs ys rest b mid new ended h q,
  )

  -- a cut in the first of some lines
  abbrev pub Cut-one : (from : M) (line : RawLine) (more lines : List RawLine) (part missing : List ℕ) (next : M)
      (ends : Bool) → lines ≡ line ∷ more → MayAnswer step from line (part ++ missing) next ends → 0 < length missing
      → Cut step from lines part
  Cut-one from line more lines part missing next ends place answers proper = record {
    before = [];
    line = line;
    after = more;
    whole = [];
    part = part;
    missing = missing;
    mid = from;
    next = next;
    ends = ends;
    place = place;
    answered = (refl, refl, refl);
    reply = answers;
    proper = proper;
    out = refl;
  }

  -- a cut in the later lines, after a run of the earlier ones
  abbrev pub Cut-after : (old : M) (xs ys lines : List RawLine) (a b : List ℕ) (mid : M) → lines ≡ xs ++ ys
      → IsRun step old xs a mid false → Cut step mid ys b → Cut step old lines (a ++ b)
  Cut-after old xs ys lines a b mid same run cut = record {
    before = xs ++ cut.before;
    line = cut.line;
    after = cut.after;
    whole = a ++ cut.whole;
    part = cut.part;
    missing = cut.missing;
    mid = cut.mid;
    next = cut.next;
    ends = cut.ends;
    place = same ∙ ap (λ l. xs ++ l) cut.place ∙ sym (append_assoc xs cut.before (cut.line ∷ cut.after));
    answered = IsRun-append old xs cut.before a cut.whole mid cut.mid false run cut.answered;
    reply = cut.reply;
    proper = cut.proper;
    out = ap (λ l. a ++ l) cut.out ∙ sym (append_assoc a cut.whole cut.part);
  }

  -- a cut in the earlier of some lines
  abbrev pub Cut-more : (old : M) (xs ys lines : List RawLine) (a : List ℕ) → lines ≡ xs ++ ys → Cut step old xs a
      → Cut step old lines a
  Cut-more old xs ys lines a same cut = record {
    before = cut.before;
    line = cut.line;
    after = cut.after ++ ys;
    whole = cut.whole;
    part = cut.part;
    missing = cut.missing;
    mid = cut.mid;
    next = cut.next;
    ends = cut.ends;
    place = same ∙ ap (λ l. l ++ ys) cut.place ∙ append_assoc cut.before (cut.line ∷ cut.after) ys;
    answered = cut.answered;
    reply = cut.reply;
    proper = cut.proper;
    out = cut.out;
  }

  -- where the lines behind a line have a transcript, those with it have one
  total-step : (old : M) (line : RawLine) (lines : List RawLine) (given : Step M) → step old line given
      → (ends : Bool) → given.ends ≡ ends → (out : List ℕ) × IsTranscript step given.next lines out
      → (out : List ℕ) × IsTranscript step old (line ∷ lines) out
  total-step old line lines given gives true e rest = (
    given.reply,
    (
      given.next,
      true,
      (
        given.reply,
        [],
        given.next,
        true,
        (given, gives, inl (refl, refl, sym e)),
        sym (append-nil given.reply),
        (refl, refl, refl),
      ),
    ),
  )
  total-step old line lines given gives false e (out, (last, ended, run)) = (
    given.reply ++ out,
    (last, ended, (given.reply, out, given.next, false, (given, gives, inl (refl, refl, sym e)), refl, run)),
  )

  -- each list of lines has a transcript, where something is given for each line
  IsRun-total : IsTotal step → (old : M) (lines : List RawLine) → (out : List ℕ) × IsTranscript step old lines out
  IsRun-total total old [] = ([], (old, false, (refl, refl, refl)))
  IsRun-total total old (line ∷ lines) =
      let g = total old line in
      total-step old line lines g.0 g.1 g.0.ends refl (IsRun-total total g.0.next lines)

  -- the line and those after it, from its reply on
  goes-on : IsTotal step → (mid next : M) (line : RawLine) (after : List RawLine) (part missing : List ℕ) (ends : Bool)
      → 0 < length missing → MayAnswer step mid line (part ++ missing) next ends
      → (more : List ℕ) × (0 < length more) × IsTranscript step mid (line ∷ after) (part ++ more)
  goes-on total mid next line after part missing true proper answers = (
    missing,
    proper,
    (
      next,
      true,
      (part ++ missing, [], next, true, answers, sym (append-nil (part ++ missing)), (refl, refl, refl)),
    ),
  )
  goes-on total mid next line after part missing false proper answers =
      let t = IsRun-total total next after in (
        missing ++ t.0,
        (let a = length-append missing t.0 in omega (arith, a)),
        (t.1.0, t.1.1, (part ++ missing, t.0, next, false, answers, sym (append_assoc part missing t.0), t.1.2)),
      )

  -- what broke off is a proper front of a transcript
  pub Cut-front : IsTotal step → (first : M) (lines : List RawLine) (put : List ℕ) → Cut step first lines put
      → (more : List ℕ) × (0 < length more) × IsTranscript step first lines (put ++ more)
  Cut-front total first lines put cut =
      let g = goes-on total cut.mid cut.next cut.line cut.after cut.part cut.missing cut.ends cut.proper cut.reply in
      let run = IsRun-append first cut.before (cut.line ∷ cut.after) cut.whole
      (cut.part ++ g.0) cut.mid g.2.0 g.2.1 cut.answered g.2.2 in
      let same : put ++ g.0 ≡ cut.whole ++ (cut.part ++ g.0) = ap (λ l. l ++ g.0) cut.out
      ∙ append_assoc cut.whole cut.part g.0 in (
        g.0,
        g.1,
        (
          g.2.0,
          g.2.1,
          subst (λ l. IsRun step first l (put ++ g.0) g.2.0 g.2.1) (sym cut.place)
              (subst (λ o. IsRun step first (cut.before ++ cut.line ∷ cut.after) o g.2.0 g.2.1) (sym same) run),
        ),
      )
