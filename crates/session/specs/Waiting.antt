-- Replies that wait for the output, and the state of a run after its output failed.
use Rattle.std.specs.Prelude.{◌≡◌, ◌⊎◌, ℕ, suc, ◌<◌, ◌≤◌, nat_le, if◌then◌else◌, List, [], ◌∷◌, length, take, Option}
use Rattle.std.specs.Io.KnownBytes.{Appends, Keeps, append_known}
use Rattle.run_notes.specs.declared.notes.Counts.{Counts}
use Rattle.run_notes.specs.declared.notes.Sent.{Sent}
use Rattle.session_core.specs.EngineView.{no_counts}
use Rattle.session.specs.Tallies.{kept_sum}
use Rattle.session.specs.Serving.{PutsPart, PutsReply}
use Rattle.session_core.specs.Replies.{reply_bytes}
use Rattle.session.specs.declared.outbox.ReplyMark.{ReplyMark}
use Rattle.session_core.specs.declared.reply.Reply.{Reply}
use Rattle.session_core.specs.declared.reply.Reply.TheVariants as reply

-- the bytes of the replies that wait, in their order, and where each ends, with the counts after its line
pub record WaitingState : Type 0 where
  pub bytes : List ℕ
  pub marks : List ReplyMark

-- no reply waits
abbrev pub none_wait : WaitingState
none_wait = record { bytes = []; marks = [] }

-- the replies that wait, and what was sent before them
pub record OutboxState : Type 0 where
  pub waiting : WaitingState
  pub sent : Sent

-- nothing was sent
abbrev pub none_sent : Sent
none_sent = record { lines = 0; bytes = 0 }

-- how many bytes may wait
abbrev pub outbox_room : ℕ
outbox_room = 4096

-- how many replies may wait
abbrev pub most_marks : ℕ
most_marks = 128

-- how many replies come before the first that does not end within k bytes
abbrev pub gone : List ReplyMark → ℕ → ℕ
gone [] k = 0
gone (m ∷ ms) k = if nat_le m.end k then suc (gone ms k) else 0

-- the counts after the line of the first reply that does not end within k bytes
abbrev pub counts_at : List ReplyMark → ℕ → Counts
counts_at [] k = no_counts
counts_at (m ∷ ms) k = if nat_le m.end k then counts_at ms k else m.counts

-- every reply ends within all the bytes, and not every reply ends within fewer
pub record AreMarked (bytes : List ℕ) (marks : List ReplyMark) : Type 0 where
  pub all : (k : ℕ) → length bytes ≤ k → gone marks k ≡ length marks
  pub some : (k : ℕ) → k < length bytes → gone marks k < length marks

-- an output: what it holds, what was sent, and which replies wait for it
pub record OutputState : Type 0 where
  pub written : Option (List ℕ)
  pub sent : Sent
  pub waiting : WaitingState

-- the output that holds these bytes, with the replies of an outbox
abbrev pub output_of : Option (List ℕ) → OutboxState → OutputState
output_of written outbox = record { written = written; sent = outbox.sent; waiting = outbox.waiting }

-- what the output holds once the waiting replies are out
abbrev pub holds_with : OutputState → Option (List ℕ)
holds_with output = append_known output.written output.waiting.bytes

-- what is sent once the waiting replies are out
abbrev pub sent_with : OutputState → Sent
sent_with output = record {
  lines = kept_sum output.sent.lines (length output.waiting.marks);
  bytes = kept_sum output.sent.bytes (length output.waiting.bytes);
}

-- the state of a run after its output failed: what the output holds, what was sent, and the counts to note
pub record Stop : Type 0 where
  pub written : Option (List ℕ)
  pub sent : Sent
  pub counts : Counts

-- the output failed when it held these bytes; the outbox counted what was sent, and these counts are noted
abbrev pub stop_of : Option (List ℕ) → OutboxState → Counts → Stop
stop_of written outbox counts = record { written = written; sent = outbox.sent; counts = counts }

-- The output may fail like this within the waiting replies: in the first reply that is not whole among the bytes put.
pub record IsStop (output : OutputState) (stop : Stop) : Type 0 where
  pub place : ℕ
  pub within : place < length output.waiting.bytes
  pub writes : Appends output.written stop.written (take place output.waiting.bytes)
  pub lines : stop.sent.lines ≡ kept_sum output.sent.lines (gone output.waiting.marks place)
  pub bytes : stop.sent.bytes ≡ kept_sum output.sent.bytes place
  pub counts : stop.counts ≡ counts_at output.waiting.marks place

-- the output failed within this reply, and the counts after its line are noted
pub record CutsReply (written : Option (List ℕ)) (sent : Sent) (reply : List ℕ) (counts : Counts)
    (stop : Stop) : Type 0 where
  pub puts : PutsPart written stop.written sent stop.sent reply
  pub same : stop.counts ≡ counts

-- the output may fail like this within the waiting replies, or within a reply after them
abbrev pub MayStop : OutputState → List ℕ → Counts → Stop → Type 0
MayStop output reply counts stop =
    IsStop output stop ⊎ CutsReply (holds_with output) (sent_with output) reply counts stop

-- once the waiting replies are out, all is as it was, and the output may fail in no new way
pub record KeepsOutput (old new : OutputState) : Type 0 where
  pub holds : Keeps (holds_with old) (holds_with new)
  pub sends : sent_with new ≡ sent_with old
  pub stops : (stop : Stop) → IsStop new stop → IsStop old stop

-- once the waiting replies are out, so is this reply, and the only new way to fail is within it
pub record Sends (old new : OutputState) (reply : List ℕ) (counts : Counts) : Type 0 where
  pub whole : PutsReply (holds_with old) (holds_with new) (sent_with old) (sent_with new) reply
  pub stops : (stop : Stop) → IsStop new stop → MayStop old reply counts stop

-- the reply to a line was sent; if there is none, nothing changes
abbrev pub SendsReply : OutputState → OutputState → Reply → Counts → Type 0
SendsReply old new reply.Nothing counts = new ≡ old
SendsReply old new answer counts = Sends old new (reply_bytes answer) counts
