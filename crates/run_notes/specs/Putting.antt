-- What reaches a sink when a text is put on it.
use Rattle.std.specs.Prelude.{◌≡◌, ◌⊎◌, ℕ, List, [], ◌++◌, Option}
use Rattle.std.specs.Io.KnownBytes.{Appends}
use Rattle.gtp_io.specs.Outside.{HasRisen}

-- a front of the bytes was put, from none of them to all
pub record PutsFront (old new : Option (List ℕ)) (bytes : List ℕ) : Type 0 where
  pub part : List ℕ
  pub missing : List ℕ
  pub whole : bytes ≡ part ++ missing
  pub writes : Appends old new part

-- the sink got this whole text, or a front of it and its count of faults rose
pub record IsNoted (written_old written_new : Option (List ℕ)) (faults_old faults_new : ℕ)
    (text : List ℕ) : Type 0 where
  pub got : List ℕ
  pub missing : List ℕ
  pub front : text ≡ got ++ missing
  pub writes : Appends written_old written_new got
  pub whole : (missing ≡ []) ⊎ HasRisen faults_old faults_new
