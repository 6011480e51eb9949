use Rattle.std.proofs.Common.{◌≡◌, true, take}
use Rattle.declaring.specs.ProviderCalls.{are_distinct}
use Rattle.declaring.proofs.fields.are_new.Given as goal

abbrev pub invariant-loop-name : goal.invariant-loop-name
invariant-loop-name l = record {
  keys : l.seen.keys ≡ take l.name-index l.names;
  distinct : are_distinct (take l.name-index l.names) ≡ true;
}
