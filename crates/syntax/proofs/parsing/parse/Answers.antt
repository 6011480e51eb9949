use Rattle.std.proofs.Common.{◌≡◌, Ok}
use Rattle.grammar.specs.Blocks.{Block}
use Rattle.grammar.specs.BareLines.{bare_lines}
use Rattle.file_syntax.specs.Files.{IsFile, syntax}
use Rattle.file_syntax.specs.IsProgram.{IsProgram}
use Rattle.program_tree.specs.ParsedView.{program_of}
use Rattle.file_syntax.specs.ProgramDepth.{IsShallow}
use Rattle.program_tree.specs.Resolved.{resolved}
use Rattle.file_syntax.proofs.FileDepths.{program_shallow}
use Rattle.file_syntax.proofs.FileLaws.{syntax_is}
use Rattle.file_syntax.proofs.FaultLaws.{fault_is}
use Rattle.file_syntax.proofs.FileRanges.{program_is}
use Rattle.syntax.proofs.ProgramLemmas.{if_ok_then}
use Rattle.syntax.proofs.parsing.parse.Goals as goal

pub returns-clause-shallow : goal.returns-clause-shallow
returns-clause-shallow c =
    let text = c.args.text.now in
    if_ok_then c.read.result
    (λ p. (tree : Block) × (syntax text c.args.kind ≡ Ok tree) × (program_of p ≡ resolved (bare_lines tree)))
    (λ p. IsShallow (program_of p))
    (λ p t. program_shallow text c.args.kind t.0 (program_of p) t.1 t.2)
    c.read.ensures.tree

pub returns-clause-fits : goal.returns-clause-fits
returns-clause-fits c =
    let text = c.args.text.now in
    if_ok_then c.read.result
    (λ p. (tree : Block) × (syntax text c.args.kind ≡ Ok tree) × (program_of p ≡ resolved (bare_lines tree)))
    (λ p. IsProgram (program_of p))
    (λ p t. program_is text c.args.kind t.0 (program_of p) t.1 t.2)
    c.read.ensures.tree

pub returns-clause-file : goal.returns-clause-file
returns-clause-file c =
    let text = c.args.text.now in
    if_ok_then c.read.result
    (λ p. (tree : Block) × (syntax text c.args.kind ≡ Ok tree) × (program_of p ≡ resolved (bare_lines tree)))
    (λ p. (tree : Block) × IsFile text c.args.kind tree × (program_of p ≡ resolved (bare_lines tree)))
    (λ p t. (t.0, syntax_is text c.args.kind t.0 t.1, t.2))
    c.read.ensures.tree

pub returns-clause-first : goal.returns-clause-first
returns-clause-first c f e = fault_is c.args.text.now c.args.kind f (c.read.ensures.fault f e)
