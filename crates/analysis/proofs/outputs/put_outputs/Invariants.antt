use Rattle.std.proofs.Common.{take}
use Rattle.analysis.specs.Made.{HasMore}
use Rattle.analysis.proofs.outputs.put_outputs.Given as goal

abbrev pub invariant-loop-file : goal.invariant-loop-file
invariant-loop-file l = HasMore (take l.file-index l.files) l.fn.made l.made
