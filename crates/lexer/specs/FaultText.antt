-- How a fault is printed. (docs/REPORT.md, "Load faults"; this project's own.)
use Rattle.std.specs.Prelude.{ℕ, List, ◌++◌, codes, decimal}
use Rattle.lexer.specs.declared.fault.FaultKind.{FaultKind}
use Rattle.lexer.specs.declared.fault.FaultKind.TheVariants.{Character, Token, Indent, Statement}
use Rattle.lexer.specs.declared.fault.FaultKind.TheVariants.{Scope}
use Rattle.lexer.specs.declared.fault.SyntaxFault.{SyntaxFault}
use Rattle.lexer.specs.declared.fault.ParseStop.{ParseStop}
use Rattle.lexer.specs.declared.fault.ParseStop.TheVariants.{Fault, NoMemory}

-- the pass, as the report names it
abbrev pub kind_text : FaultKind → List ℕ
kind_text Character = codes "character"
kind_text Token = codes "token"
kind_text Indent = codes "indent"
kind_text Statement = codes "statement"
kind_text Scope = codes "scope"

-- a fault as it is printed: the pass that found it, and its line
abbrev pub fault_text : SyntaxFault → List ℕ
fault_text f = codes "syntax " ++ kind_text f.kind ++ codes " at line " ++ decimal f.line

-- what is printed where a file is not read: its fault, or that memory was refused
abbrev pub stop_text : ParseStop → List ℕ
stop_text (Fault f) = fault_text f
stop_text NoMemory = codes "no memory"
