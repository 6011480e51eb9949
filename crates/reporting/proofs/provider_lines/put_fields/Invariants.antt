use Rattle.std.proofs.Common.{◌≡◌, ◌++◌, string_bytes}
use Rattle.std.specs.Iterator.Adapters.{zip_first, zip_second}
use Rattle.std.specs.Slice.Iter.{iter_rest}
use Rattle.depsets.specs.Listed.{walked}
use Rattle.values.specs.Tree.{slots}
use Rattle.reporting.specs.Lines.{fields_text}
use Rattle.reporting.proofs.provider_lines.put_fields.Given as goal

abbrev pub invariant-loop-name : goal.invariant-loop-name
invariant-loop-name l =
    string_bytes l.out ++ fields_text walked (iter_rest (zip_first l.name-iterator)) (slots (iter_rest (zip_second l.name-iterator)))
    ≡ string_bytes l.fn.out ++ fields_text walked l.names (slots l.fields)
