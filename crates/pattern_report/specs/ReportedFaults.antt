-- What a reported fault says about the text.
use Rattle.db_rules.specs.declared.fault.Fault.{Fault}
use Rattle.pattern_faults.specs.declared.fault.Fault.{Fault as ReportedFault}

-- the line and the kind of a reported fault
abbrev pub line_and_kind : ReportedFault → Fault
line_and_kind told = record { line = told.line; kind = told.kind }
