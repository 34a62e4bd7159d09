use Rattle.std.proofs.Common.{◌≡◌, take, map}
use Rattle.std.specs.String.{string_bytes}
use Rattle.session.specs.PatternFiles.{IsJoined}
use Rattle.session.proofs.pattern_files.joined.Given as goal

-- the files so far were joined, and none was missed
abbrev pub invariant-loop-name : goal.invariant-loop-name
invariant-loop-name g l = record {
  joined : IsJoined (g.L.Loader.contents l.fn.files) (map string_bytes (take l.name-index l.names)) l.text.items;
  missed : g.L.Loader.missed l.files ≡ g.L.Loader.missed l.fn.files;
  same : g.L.Loader.contents l.files ≡ g.L.Loader.contents l.fn.files;
}
