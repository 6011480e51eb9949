-- The text of a report. (docs/REPORT.md; this project's own.)
use Rattle.std.specs.Prelude.{ℕ, List}
use Rattle.reporting.specs.Seen.{text_of}
use Rattle.reporting.specs.declared.made.Report.{Report}

-- its bytes
abbrev pub report_bytes : Report → List ℕ
report_bytes r = text_of r.parts.items
