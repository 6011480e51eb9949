use Rattle.std.proofs.Common.{◌≡◌, ◌≤◌, max, drop}
use Rattle.depsets.specs.Rose.{depths, roses}
use Rattle.depsets.proofs.depset.most_levels.Given as goal

abbrev pub invariant-loop-child : goal.invariant-loop-child
invariant-loop-child l = record {
  levels : max l.most (depths (roses (drop l.child-index l.children))) ≡ depths (roses l.children);
  bounded : l.most ≤ 1000;
}
