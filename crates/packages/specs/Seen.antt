-- What a label names, where it lies, as the definitions of targets have it (this project's own).
use Rattle.std.specs.Prelude.{◌≡◌, ℕ, List, None}
use Rattle.workspace.specs.Labels.{LabelParts}
use Rattle.targets.specs.Resolving.{Package, Named, target, source_file, failed_package, nothing}
use Rattle.targets.specs.Resolving.{dependencies, target_or_file}
use Rattle.packages.specs.declared.resolved.Named.{Named as Answer}
use Rattle.packages.specs.declared.resolved.Named.TheVariants as answer
use Rattle.packages.specs.declared.all_targets.Declaration.{Declaration}
use Rattle.packages.specs.declared.all_targets.Declaration.TheVariants as found

-- what the code answers, as the definitions of targets have it
abbrev pub named_seen : Answer → Named
named_seen (answer.Target t ds) = target t.now
named_seen answer.SourceFile = source_file
named_seen answer.FailedPackage = failed_package
named_seen answer.Nothing = nothing

-- what stands beside a target is what it depends on
abbrev pub HasDependencies : Answer → Type 0
HasDependencies (answer.Target t ds) = ds.now ≡ dependencies t.now
HasDependencies answer.SourceFile = Unit {0}
HasDependencies answer.FailedPackage = Unit {0}
HasDependencies answer.Nothing = Unit {0}

-- ---- before a source file is looked for

-- What a label names, by what its package declares: where it declares no such target, a source file
-- or nothing.
abbrev pub found_named : List (List ℕ) → (List ℕ → Package) → LabelParts → Declaration → Named
found_named paths package_at l (found.Target t ds) = target t.now
found_named paths package_at l found.Undeclared = target_or_file paths package_at l None
found_named paths package_at l found.FailedPackage = failed_package
found_named paths package_at l found.NoPackage = nothing

-- what stands beside a target is what it depends on
abbrev pub AreItsOwn : Declaration → Type 0
AreItsOwn (found.Target t ds) = ds.now ≡ dependencies t.now
AreItsOwn found.Undeclared = Unit {0}
AreItsOwn found.FailedPackage = Unit {0}
AreItsOwn found.NoPackage = Unit {0}
