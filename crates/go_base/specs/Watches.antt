-- What a watch shows, and the facts that it has recorded.
use Rattle.go_rules.specs.Position.{BoardState}
use Rattle.go_base.specs.declared.facts.Facts.{Facts}
use Rattle.go_base.specs.declared.look.Watch.{Watch}

-- the position that the watch shows
abbrev pub shown_by : Watch → BoardState
shown_by watch = watch.position.now

-- the facts that the watch has recorded
abbrev pub facts_of : Watch → Facts
facts_of watch = watch.facts
