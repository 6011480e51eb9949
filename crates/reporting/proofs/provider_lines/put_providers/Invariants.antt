use Rattle.std.proofs.Common.{◌≡◌, ◌++◌, take, flat_map, string_bytes}
use Rattle.depsets.specs.Listed.{walked}
use Rattle.reporting.specs.Lines.{provider_line}
use Rattle.reporting.proofs.provider_lines.put_providers.Given as goal

abbrev pub invariant-loop-provider : goal.invariant-loop-provider
invariant-loop-provider l = string_bytes l.out ≡ string_bytes l.fn.out ++ flat_map (provider_line walked) (take l.provider-index l.providers)
