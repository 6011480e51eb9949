use Rattle.std.proofs.Common.{◌≡◌, ◌++◌, take, string_bytes}
use Rattle.reporting.specs.Seen.{lines_of}
use Rattle.reporting.proofs.node_lines.put_nodes.Given as goal

abbrev pub invariant-loop-block : goal.invariant-loop-block
invariant-loop-block l = string_bytes l.out ≡ string_bytes l.fn.out ++ lines_of (take l.block-index l.blocks)
