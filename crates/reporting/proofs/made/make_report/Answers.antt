use Rattle.std.proofs.Common.{◌∙◌, ◌++◌, ap, flat_map}
use Rattle.depsets.specs.Listed.{walked}
use Rattle.claims.specs.Conflicts.{conflicts_of}
use Rattle.reporting.specs.Answers.{file_line, owned_actions}
use Rattle.reporting.specs.Lines.{conflict_line}
use Rattle.reporting.specs.Seen.{block_text, blocks_of, nodes_seen}
use Rattle.reporting.proofs.BlockLemmas.{blocks_told}
use Rattle.reporting.proofs.made.make_report.Goals as goal

pub returns-clause-text : goal.returns-clause-text
returns-clause-text g c =
    let ns = nodes_seen c.args.nodes.now in
    let all = owned_actions ns in
    let front = flat_map file_line c.args.faults.now in
    c.in_ok-parts.ensures
    ∙ (λ i. front
    ++ (flat_map (block_text walked) (blocks_of (c.in_ok-told.ensures.tellings i) ns) ++ flat_map conflict_line (c.in_ok-told.ensures.conflicts i)))
    ∙ ap (λ text. front ++ (text ++ flat_map conflict_line (conflicts_of walked all))) (blocks_told walked all ns)
