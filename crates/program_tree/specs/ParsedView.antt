-- The file with resolved names that an answer of the parser stands for. (This project's own.)
use Rattle.program_tree.specs.declared.parsed.Parsed.{Parsed}
use Rattle.program_tree.specs.ProgramView.{steps}
use Rattle.program_tree.specs.Resolved.{Program}

-- what the parser gives, as the file that the meaning of files is said of
abbrev pub program_of : Parsed → Program
program_of p =
    record
    { globals = p.globals.keys; loaded = p.loaded; slots = p.slots; steps = steps p.steps.items }
