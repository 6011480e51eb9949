use Rattle.std.proofs.lemmas.Grind.{merely}
use Rattle.program_tree.specs.ParsedView.{program_of}
use Rattle.code.proofs.compiling.compile.Goals as goal

pub invariant_of-result : goal.invariant_of-result
invariant_of-result c = merely (program_of c.args.parsed.now, c.in_ok-functions.ensures)
