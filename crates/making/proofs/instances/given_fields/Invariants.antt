use Rattle.std.proofs.Common.{◌≡◌, ◌++◌, drop}
use Rattle.operations.specs.Instances.{given_fields}
use Rattle.making.proofs.instances.given_fields.Given as goal

abbrev pub invariant-loop-field : goal.invariant-loop-field
invariant-loop-field l =
    l.slots ++ given_fields (drop l.field-index l.fields) l.names l.values ≡ given_fields l.fields l.names l.values
