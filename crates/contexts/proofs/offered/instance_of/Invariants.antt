use Rattle.std.proofs.Common.{◌≡◌, drop}
use Rattle.contexts.specs.Offered.{instance_of}
use Rattle.contexts.proofs.offered.instance_of.Given as goal

abbrev pub invariant-loop-instance : goal.invariant-loop-instance
invariant-loop-instance l = instance_of l.provider (drop l.instance-index l.instances) ≡ instance_of l.provider l.instances
