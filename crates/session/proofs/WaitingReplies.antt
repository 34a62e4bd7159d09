-- Replies that wait: one more of them, and how they go out or break off.
use Rattle.std.proofs.Common.{◌≡◌, ⊎_elim, inl, inr, ℕ, suc, ◌+◌, ◌-◌, ◌<◌, ◌≤◌, Bool, true, false, cond, List}
use Rattle.std.proofs.Common.{[], ◌∷◌, ◌++◌, length, take, drop, Option, Some, None, Result, Ok, Err, OnOk, IfOk, IfErr}
use Rattle.std.proofs.Common.{IsErrAnd, refl, sym, ap, subst, ◌∙◌, append_assoc, append-nil, take-append-drop, take-add}
use Rattle.std.proofs.Common.{length-append, le-leb, set, arith}
use Rattle.std.specs.Io.KnownBytes.{Appends, Keeps, append_known}
use Rattle.std.proofs.KnownBytes.{Appends-trans}
use Rattle.std.proofs.lemmas.Bool.{cases_lt, lt-leb}
use Rattle.std.proofs.lemmas.List.{take_more_set, take_rest, take-append-le, length-take-le, length-drop}
use Rattle.std.proofs.Math.Seq.{take-append-add}
use Rattle.run_notes.specs.declared.notes.Counts.{Counts}
use Rattle.run_notes.specs.declared.notes.Sent.{Sent}
use Rattle.session.specs.Tallies.{kept_sum}
use Rattle.session.specs.Serving.{Puts, PutsFront, PutsPart, PutsReply}
use Rattle.session.specs.Waiting.{WaitingState, OutboxState, OutputState, none_wait, gone, counts_at, AreMarked}
use Rattle.session.specs.Waiting.{output_of, holds_with, sent_with, Stop, IsStop, CutsReply, MayStop, KeepsOutput}
use Rattle.session.specs.Waiting.{Sends}
use Rattle.session.specs.declared.outbox.ReplyMark.{ReplyMark}
use Rattle.session.proofs.TallyLemmas.{kept_sum-twice}

-- what holds of every success follows from what does
pub on_ok_map : {T E P Q : Type 0} (result : Result T E) → (P → Q) → OnOk result P → OnOk result Q
on_ok_map (Ok x) words p = words p
on_ok_map (Err e) words p = tt

-- what holds of the one value that a success may have holds of a success
pub if_ok_is : {T E S : Type 0} (P : T → Type 0) (result : Result T E) (x : T) → IfOk result (λ y. y ≡ x)
    → OnOk result S → (S → P x) → IfOk result P
if_ok_is P (Ok y) x same s words = subst P (sym same) (words s)
if_ok_is P (Err e) x same s words = tt

-- the output may fail so within these bytes, or within equal ones
pub may-stop-is : (output : OutputState) (sent sent' : List ℕ) (counts : Counts) (stop : Stop) → sent ≡ sent'
    → MayStop output sent counts stop → MayStop output sent' counts stop
may-stop-is output sent sent' counts stop same may = subst (λ l. MayStop output l counts stop) same may

-- what holds of an error holds where it is passed up
pub passed_up : {T E : Type 0} (result : Result T E) (error : E) (P : E → Type 0) → IsErrAnd result (λ e. e ≡ error)
    → P error → IfErr result P
passed_up (Ok x) error P same p = tt
passed_up (Err e) error P same p = subst P (sym same) p

-- The bytes as they are put.

-- the bytes were put in part
pub part-front : (old new : Option (List ℕ)) (before now : Sent) (bytes : List ℕ) (n : ℕ)
    → PutsFront old new before now bytes n → PutsPart old new before now bytes
part-front old new before now bytes n front = grind (arith, length-drop n bytes, take-append-drop n bytes)

-- bytes of a rest are no more than are left
pub within_rest : (bytes : List ℕ) (done n : ℕ) → n ≤ length (take (length bytes - done) (drop done bytes))
    → n ≤ length bytes - done
within_rest bytes done n fits = grind (arith, take_rest, length-drop)

-- the sink took n bytes more behind the first done of the bytes, and they were counted
pub put_further : (a b c : Option (List ℕ)) (before now : Sent) (bytes : List ℕ) (done n total : ℕ)
    → done ≤ length bytes → Puts a b before now (take done bytes)
    → Appends b c (take n (take (length bytes - done) (drop done bytes)))
    → n ≤ length (take (length bytes - done) (drop done bytes))
    → total ≡ kept_sum now.bytes n
    → Puts a c before (record { lines = now.lines; bytes = total }) (take (done + n) bytes)
put_further a b c before now bytes done n total start puts more fits counted =
    let within = within_rest bytes done n fits in
    let rest = drop done bytes in
    let next : Appends b c (take n rest) = subst (λ l. Appends b c (take n l)) (take_rest bytes done) more in
    let joined : take (done + n) bytes ≡ take done bytes ++ take n rest = take-add done n bytes in
    let first = length-take-le done bytes start in
    let whole = length-take-le (done + n) bytes (omega (arith, start, within)) in
    record {
      writes = subst (Appends a c) (sym joined)
          (Appends-trans a b c (take done bytes) (take n rest) puts.writes next);
      lines = puts.lines;
      bytes_sent = counted ∙ ap (λ k. kept_sum k n) (puts.bytes_sent ∙ ap (kept_sum before.bytes) first)
          ∙ kept_sum-twice before.bytes done n ∙ ap (kept_sum before.bytes) (sym whole);
    }

-- The marks of replies.

-- a reply before others, of which not each has ended
front-step : (ended : Bool) (g g' n : ℕ) (c c' own : Counts) → (g < n → (g' ≡ g) × (c' ≡ c))
    → cond ended (suc g) 0 < suc n
    → (cond ended (suc g') 0 ≡ cond ended (suc g) 0) × (cond ended c' own ≡ cond ended c own)
front-step true g g' n c c' own later less = grind arith
front-step false g g' n c c' own later less = (refl, refl)

-- where not each of some replies has ended, those behind them do not count
gone-front : (ms ns : List ReplyMark) (k : ℕ) → gone ms k < length ms
    → (gone (ms ++ ns) k ≡ gone ms k) × (counts_at (ms ++ ns) k ≡ counts_at ms k)
gone-front [] ns k less = absurd (omega (arith, less))
gone-front (m ∷ ms) ns k less = grind (arith, front-step, gone-front ms ns k)

-- a reply before others that have all ended
back-step : (ended : Bool) (g g' n h : ℕ) (c c' own : Counts) → (g ≡ n → (g' ≡ n + h) × (c' ≡ c))
    → cond ended (suc g) 0 ≡ suc n → (cond ended (suc g') 0 ≡ suc n + h) × (cond ended c' own ≡ c)
back-step true g g' n h c c' own later all = grind arith
back-step false g g' n h c c' own later all = absurd (omega (arith, all))

-- where some replies have all ended, those behind them decide
gone-back : (ms ns : List ReplyMark) (k : ℕ) → gone ms k ≡ length ms
    → (gone (ms ++ ns) k ≡ length ms + gone ns k) × (counts_at (ms ++ ns) k ≡ counts_at ns k)
gone-back [] ns k all = ((let same : gone ns k ≡ 0 + gone ns k = omega arith in same), refl)
gone-back (m ∷ ms) ns k all = grind (arith, back-step, gone-back ms ns k)

-- A reply more waits.
module _ (bytes reply : List ℕ) (marks : List ReplyMark) (m : ReplyMark) (are : AreMarked bytes marks)
    (ends : m.end ≡ length bytes + length reply) where
  -- its mark stands behind the others
  pub marked-more : AreMarked (bytes ++ reply) (marks ++ m ∷ [])
  marked-more = grind (arith, length-append, gone-back, le-leb, gone-front, lt-leb, cases_lt)

-- known bytes, and some behind them
known-append : (known : Option (List ℕ)) (bytes more : List ℕ)
    → Appends (append_known known bytes) (append_known known (bytes ++ more)) more
known-append None bytes more = tt
known-append (Some xs) bytes more = sym (append_assoc xs bytes more)

-- some bytes were put, of which the first are counted before
known-behind : (known written : Option (List ℕ)) (bytes more : List ℕ) → Appends known written (bytes ++ more)
    → Appends (append_known known bytes) written more
known-behind None written bytes more puts = tt
known-behind (Some xs) None bytes more puts = absurd puts
known-behind (Some xs) (Some ys) bytes more puts = puts ∙ sym (append_assoc xs bytes more)

-- with no byte more known bytes are as they were
pub none-appends : (known : Option (List ℕ)) → Appends known (append_known known []) []
none-appends None = tt
none-appends (Some xs) = refl

-- what was to be put is out, and nothing waits
pub kept-none : (first known written : Option (List ℕ)) (bytes : List ℕ) → Appends first known bytes
    → Keeps known (append_known written []) → Appends first written bytes
kept-none None known written bytes puts same = tt
kept-none (Some xs) None written bytes puts same = absurd puts
kept-none (Some xs) (Some ys) None bytes puts same = absurd same
kept-none (Some xs) (Some ys) (Some zs) bytes puts same = sym (append-nil zs) ∙ same ∙ puts

-- A reply more waits, and nothing is put.
module _ (written : Option (List ℕ)) (sent : Sent) (bytes reply : List ℕ) (marks : List ReplyMark) (m : ReplyMark)
    (are : AreMarked bytes marks) (ends : m.end ≡ length bytes + length reply) where
  -- the output before it
  abbrev before : OutputState
  before = record { written = written; sent = sent; waiting = record { bytes = bytes; marks = marks } }

  -- the output once the reply stands behind the others, with its mark last
  abbrev after : OutputState
  after = record {
    written = written;
    sent = sent;
    waiting = record { bytes = bytes ++ reply; marks = marks ++ m ∷ [] };
  }

  -- the reply is out with what waits
  added-whole : PutsReply (holds_with before) (holds_with after) (sent_with before) (sent_with after) reply
  added-whole = grind (arith, known-append, length-append, kept_sum-twice)

  -- the output may fail within a reply before
  added-front : (stop : Stop) (at : IsStop after stop) → at.place < length bytes
      → IsStop before stop
  added-front stop at front = grind (arith, gone-front, take-append-le)

  -- and what was put behind them is a front of it
  part-added : (stop : Stop) (at : IsStop after stop) → length bytes ≤ at.place
      → Puts (holds_with before) stop.written (sent_with before) stop.sent
      (take (at.place - length bytes) reply)
  part-added stop at back =
      grind (
        arith,
        length-append bytes reply,
        length-take-le,
        known-behind written stop.written bytes,
        take-append-add bytes reply,
        length-append,
        gone-back,
        lt-leb,
        kept_sum-twice sent.bytes (length bytes),
      )

  -- so the output may fail within it
  added-back : (stop : Stop) (at : IsStop after stop) → length bytes ≤ at.place
      → CutsReply (holds_with before) (sent_with before) reply m.counts stop
  added-back stop at back =
      grind (
        arith,
        length-append bytes reply,
        part-front (holds_with before) stop.written (sent_with before) stop.sent reply (at.place - length bytes),
        part-added stop at back,
        length-append,
        gone-back,
        lt-leb,
      )

  -- the reply is sent behind those that wait
  pub sends-added : Sends before after reply m.counts
  sends-added = record {
    whole = added-whole;
    stops = λ stop at. ⊎_elim (λ (front : at.place < length bytes). inl (added-front stop at front))
        (λ (back : length bytes ≤ at.place). inr (added-back stop at back)) (cases_lt at.place (length bytes));
  }

-- an output of which nothing waits
abbrev pub drained : Option (List ℕ) → Sent → OutputState
drained written sent = record { written = written; sent = sent; waiting = none_wait }

-- all stayed, and nothing waits after it
pub stays-none : (old new : OutputState) → new.waiting ≡ none_wait → KeepsOutput old new
    → KeepsOutput old (drained new.written new.sent)
stays-none old new none stays = grind arith

-- if nothing waits the output fails within no reply before
pub none-stops : (output : OutputState) (stop : Stop) → output.waiting ≡ none_wait → IsStop output stop → ⊥
none-stops output stop none at = grind arith

-- a reply came, and then all stayed with what waits
pub sends-stays : (a b c : OutputState) (reply : List ℕ) (counts : Counts) → Sends a b reply counts → KeepsOutput b c
    → Sends a c reply counts
sends-stays a b c reply counts sends stays = grind arith

-- The fields of an outbox after a reply more.
module _ (len count : ℕ) (old new reply : List ℕ) (marks : List ReplyMark) (m : ReplyMark)
    (wrote : take (len + length reply) new ≡ take len old ++ reply) (some : count < length marks)
    (fits : len ≤ length old) (ends : m.end ≡ len + length reply) where
  -- what waits after it
  abbrev waits-more : WaitingState
  waits-more = record {
    bytes = take (len + length reply) new;
    marks = take (count + 1) (set marks count m);
  }

  -- where it ends
  ends-behind : m.end ≡ length (take len old) + length reply
  ends-behind = let front = length-take-le len old fits in omega (arith, front, ends)

  -- its mark stands behind the others
  pub marked-added : AreMarked (take len old) (take count marks) → AreMarked (take (len + length reply) new)
      (take (count + 1) (set marks count m))
  marked-added are = grind (arith, take_more_set, marked-more, ends-behind)

  -- the reply is sent
  pub sends-more : (sent : Sent) (box : OutboxState)
      → record { waiting = record { bytes = take len old; marks = take count marks }; sent = sent } ≡ box
      → AreMarked (take len old) (take count marks) → (written : Option (List ℕ))
      → Sends (output_of written box) (output_of written (record { waiting = waits-more; sent = sent })) reply m.counts
  sends-more sent box is are written =
      grind (
        arith,
        take_more_set,
        sends-added written sent (take len old) reply (take count marks) m are ends-behind,
        ends-behind,
      )
