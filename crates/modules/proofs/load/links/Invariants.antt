use Rattle.std.proofs.Common.{take}
use Rattle.modules.specs.Loading.{AreLinks}
use Rattle.modules.proofs.load.links.Given as goal

abbrev pub invariant-loop-file : goal.invariant-loop-file
invariant-loop-file g l = record {
  links : AreLinks l.paths (take l.file-index l.files) l.deps;
}
