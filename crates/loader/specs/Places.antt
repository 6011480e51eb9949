-- The places of the evaluations of files, each with its work: what a module declares, and what a
-- `BUILD` file declares. That of an implementation is `implementations`'. (docs/PROFILE.md, "Rules
-- of all calls"; this project's own.)
use Rattle.std.specs.Prelude.{List, []}
use Rattle.workspace.specs.FileKinds.{package_of}
use Rattle.loading.specs.Loads.{Path}
use Rattle.targets.specs.declared.declarations.Declarations.{Declarations}
use Rattle.rule_calls.specs.Packages.{Declared}
use Rattle.file_places.specs.ModulePlace.{module_place}
use Rattle.file_places.specs.BuildPlace.{build_place}
use Rattle.evaluation.specs.Runs.{OfModule, OfBuild}
use Rattle.loader.specs.MadeBefore.{attribute_at, rule_of}

-- ---- modules

-- what a module has declared at its beginning
abbrev pub nothing_declared : Declarations
nothing_declared = record { providers = 0; rules = []; attributes = [] }

-- what the evaluation of a module does besides the language: it declares providers, rules and
-- attributes
abbrev pub of_module : OfModule Declarations
of_module = record
    { place = λ known. module_place (attribute_at known); first = nothing_declared; made = λ d. d }

-- ---- BUILD files

-- the package of a BUILD file, before it has declared anything
abbrev pub no_targets : Path → Declared
no_targets path = record { «package» = package_of path; targets = [] }

-- what the evaluation of a BUILD file does besides, in a workspace with files of these paths: it
-- declares targets, by the rules of modules
abbrev pub of_build : List Path → OfBuild Declared
of_build paths =
    record {
      place = λ known path. build_place (rule_of paths known);
      first = no_targets;
      declared = λ d. d.targets;
    }
