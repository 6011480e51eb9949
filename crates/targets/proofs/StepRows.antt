-- Worked outcomes of labels, by computation.
use Rattle.std.specs.Prelude.{◌≡◌, ℕ, pos, false, List, [], ◌∷◌, None, Some, Result, Ok, Err, refl, codes, if◌then◌else◌, bytes_eq}
use Rattle.depsets.specs.declared.element.FileRef.{FileRef}
use Rattle.values.specs.Tree.{key, leaf, branch, list, tuple, instance, trees, slots}
use Rattle.values.specs.View.{FrozenTree}
use Rattle.keys.specs.declared.key.Key.TheVariants as index
use Rattle.leaves.specs.declared.leaf.AttributeKind.TheVariants as kind
use Rattle.leaves.specs.declared.leaf.ExportName.TheVariants as export
use Rattle.leaves.specs.declared.leaf.FunctionRef.{FunctionRef}
use Rattle.leaves.specs.declared.leaf.Leaf.TheVariants as plain
use Rattle.leaves.specs.declared.leaf.Provider.{Provider}
use Rattle.leaves.specs.declared.leaf.ProviderRef.TheVariants as provider
use Rattle.ticks.specs.declared.ticks.Kind.TheVariants as broken
use Rattle.actions.specs.declared.action.Action.{Action}
use Rattle.actions.specs.declared.action.Inputs.TheVariants as inputs
use Rattle.workspace.specs.Labels.{LabelParts}
use Rattle.workspace.specs.Paths.{are_segments}
use Rattle.targets.specs.Resolving.{Package, no_build_file, faulty, declaring, Named, target, source_file, failed_package, nothing, named, needs}
use Rattle.targets.specs.Checks.{Dependency}
use Rattle.targets.specs.Steps.{Implemented, Fault, missing_default_info, step}
use Rattle.targets.specs.declared.attributes.AllowFiles.{AllowFiles}
use Rattle.targets.specs.declared.attributes.AllowFiles.TheVariants as allowed
use Rattle.targets.specs.declared.attributes.AttributeValue.{AttributeValue}
use Rattle.targets.specs.declared.attributes.AttributeValue.TheVariants as has
use Rattle.targets.specs.declared.attributes.NamedAttribute.{NamedAttribute}
use Rattle.targets.specs.declared.outcome.Outcome.{Outcome}
use Rattle.targets.specs.declared.outcome.Outcome.TheVariants.{Source, Done, Failed}
use Rattle.targets.specs.declared.outcome.TargetFault.TheVariants as fault
use Rattle.targets.specs.declared.target.Target.{Target}

abbrev label : List ℕ → LabelParts
label n = record { «package» = codes "a"; name = n }

abbrev deps_named : List ℕ → List (List Provider) → AllowFiles → NamedAttribute
deps_named n ps files = record { name = n; attribute = record { kind = kind.LabelList; default = None; mandatory = false; values = []; providers = ps; allow_files = files } }

abbrev function : FunctionRef
function = record { id = record { «module» = 0; number = 0 }; path = codes "a/r.bzl"; name = codes "_r" }

abbrev of_rule : List NamedAttribute → List AttributeValue → Target
of_rule named values = record { label = label (codes "t"); rule = record { implementation = function; attributes = named }; values = values }

-- t with these labels for `deps`
abbrev t_of : List (List Provider) → AllowFiles → List LabelParts → Target
t_of ps files ls = of_rule (deps_named (codes "deps") ps files ∷ []) (has.Labels ls ∷ [])

abbrev any_t : List LabelParts → Target
any_t ls = t_of [] allowed.Nothing ls

-- what an implementation comes to, whatever it is given
abbrev gives : FrozenTree → LabelParts → Target → List Dependency → Result Implemented Fault
gives result l t ds = Ok (record { result = result; files = []; actions = [] })

abbrev returning : FrozenTree → Target → List Outcome → Outcome
returning result t os = step (gives result) (label (codes "t")) (target t) os

abbrev None_ : FrozenTree
None_ = leaf plain.None

abbrev made : ℕ → List ℕ → List (List ℕ) → Provider
made n x fields = record { id = Some (record { «module» = 0; number = n }); name = provider.Exported (record { path = codes "a/p.bzl"; name = export.Global x }); fields = fields }

abbrev A : Provider
A = made 0 (codes "A") []

abbrev B : Provider
B = made 1 (codes "B") []

abbrev C : Provider
C = made 2 (codes "C") []

abbrev of : Provider → FrozenTree
of p = branch (instance p (slots []))

abbrev offering : List FrozenTree → Outcome
offering ts = Done (missing_default_info (label (codes "d")) ∷ ts) []

abbrev done : List FrozenTree → Outcome
done ts = Done (missing_default_info (label (codes "t")) ∷ ts) []

-- ---- what labels name, and dependencies

abbrev files : List (List ℕ)
files = codes "a/BUILD" ∷ codes "a/s.txt" ∷ codes "a/t" ∷ codes "b/BUILD" ∷ codes "b/s.txt" ∷ codes "c/s.txt" ∷ []

abbrev packages : List ℕ → Package
packages p =
    if bytes_eq p (codes "a") then declaring (any_t (label (codes "s.txt") ∷ label (codes "x") ∷ label (codes "s.txt") ∷ []) ∷ [])
    else (if bytes_eq p (codes "b") then faulty else no_build_file)

abbrev in_workspace : LabelParts → Named
in_workspace l = named files packages l

abbrev at : List ℕ → List ℕ → LabelParts
at p n = record { «package» = p; name = n }

-- a target hides the file of its path
target_before_file : in_workspace (label (codes "t")) ≡ target (any_t (label (codes "s.txt") ∷ label (codes "x") ∷ label (codes "s.txt") ∷ []))
unfolding are_segments
target_before_file = refl

file_of_package : in_workspace (label (codes "s.txt")) ≡ source_file
unfolding are_segments
file_of_package = refl

none_of_package : in_workspace (label (codes "none")) ≡ nothing
unfolding are_segments
none_of_package = refl

-- BUILD files are source files too
build_file_itself : in_workspace (label (codes "BUILD")) ≡ source_file
unfolding are_segments
build_file_itself = refl

-- the file that is there counts neither in a package that failed nor where there is no package
of_failed_package : in_workspace (at (codes "b") (codes "s.txt")) ≡ failed_package
unfolding are_segments
of_failed_package = refl

of_no_package : in_workspace (at (codes "c") (codes "s.txt")) ≡ nothing
unfolding are_segments
of_no_package = refl

-- no label: `//a:..`
of_no_label : in_workspace (at (codes "a") (codes "..")) ≡ nothing
unfolding are_segments
of_no_label = refl

each_label_once : needs files packages (label (codes "t")) ≡ label (codes "s.txt") ∷ label (codes "x") ∷ []
unfolding are_segments
each_label_once = refl

no_needs : needs files packages (label (codes "s.txt")) ≡ []
unfolding are_segments
no_needs = refl

-- of attributes in the order of the rule, and of each value
two_attributes : needs files (λ p. declaring (of_rule (deps_named (codes "srcs") [] allowed.Nothing ∷ deps_named (codes "deps") [] allowed.Nothing ∷ []) (has.Label (Some (label (codes "z"))) ∷ has.Labels (label (codes "b") ∷ label (codes "z") ∷ label (codes "a") ∷ []) ∷ []) ∷ [])) (label (codes "t"))
    ≡ label (codes "z") ∷ label (codes "b") ∷ label (codes "a") ∷ []
unfolding are_segments
two_attributes = refl

-- ---- outcomes

missing_target : step (gives None_) (label (codes "none")) nothing [] ≡ Failed fault.NoSuchTarget
missing_target = refl

missing_package : step (gives None_) (label (codes "x")) failed_package [] ≡ Failed fault.PackageFailed
missing_package = refl

source : step (gives None_) (label (codes "s.txt")) source_file [] ≡ Source (record { path = codes "a/s.txt"; owner = codes "//a:s.txt" })
source = refl

-- all that failed, in the order of the dependencies; before the checks
failed_dependencies : returning None_ (t_of ((A ∷ []) ∷ []) allowed.Nothing (label (codes "x") ∷ label (codes "y") ∷ label (codes "z") ∷ [])) (Failed fault.NoSuchTarget ∷ offering [] ∷ Failed fault.Cycle ∷ [])
    ≡ Failed (fault.DependencyFailed (label (codes "x") ∷ label (codes "z") ∷ []))
failed_dependencies = refl

-- providers = [[A, B], [C]]: A alone is missing something; C, and A with B, are enough
abbrev asking : List LabelParts → Target
asking ls = t_of ((A ∷ B ∷ []) ∷ (C ∷ []) ∷ []) allowed.Nothing ls

one_alone : returning None_ (asking (label (codes "pa") ∷ [])) (offering (of A ∷ []) ∷ []) ≡ Failed (fault.ProvidersMissing (codes "deps") (label (codes "pa")))
one_alone = refl

each_enough : returning None_ (asking (label (codes "pc") ∷ label (codes "pab") ∷ [])) (offering (of C ∷ []) ∷ offering (of B ∷ of A ∷ []) ∷ []) ≡ done []
each_enough = refl

-- providers = [[]] is passed by every target, and a source file isn't asked
empty_list_asks_nothing : returning None_ (t_of ([] ∷ []) allowed.Any (label (codes "d") ∷ label (codes "s.txt") ∷ [])) (offering [] ∷ Source (record { path = codes "a/s.txt"; owner = codes "//a:s.txt" }) ∷ []) ≡ done []
empty_list_asks_nothing = refl

-- a source file with allow_files = [".md"], and with [".txt"]
abbrev text_file : Outcome
text_file = Source (record { path = codes "a/s.txt"; owner = codes "//a:s.txt" })

wrong_ending : returning None_ (t_of [] (allowed.Ending (codes ".md" ∷ [])) (label (codes "s.txt") ∷ [])) (text_file ∷ []) ≡ Failed (fault.FileKind (codes "deps") (label (codes "s.txt")))
wrong_ending = refl

right_ending : returning None_ (t_of [] (allowed.Ending (codes ".txt" ∷ [])) (label (codes "s.txt") ∷ [])) (text_file ∷ []) ≡ done []
right_ending = refl

no_ending : returning None_ (t_of [] (allowed.Ending []) (label (codes "s.txt") ∷ [])) (text_file ∷ []) ≡ Failed (fault.FileKind (codes "deps") (label (codes "s.txt")))
no_ending = refl

-- by attribute, then by value; a dependency of two attributes is tested by both
first_by_attribute : returning None_ (of_rule (deps_named (codes "srcs") [] allowed.Any ∷ deps_named (codes "deps") ((A ∷ []) ∷ []) allowed.Nothing ∷ [])
    (has.Labels (label (codes "s.txt") ∷ label (codes "d") ∷ []) ∷ has.Labels (label (codes "d") ∷ label (codes "s.txt") ∷ []) ∷ [])) (text_file ∷ offering [] ∷ [])
    ≡ Failed (fault.ProvidersMissing (codes "deps") (label (codes "d")))
first_by_attribute = refl

-- fail("no") on line 4
failing : step (λ l t ds. Err (record { kind = broken.Fail (codes "no"); path = codes "a/z.bzl"; line = 4 })) (label (codes "t")) (target (any_t [])) []
    ≡ Failed (fault.Implementation (broken.Fail (codes "no")) (codes "a/z.bzl") 4)
failing = refl

-- [DefaultInfo(), DefaultInfo()], 1, (A(),), [A(), 1], A()
two_default_infos : returning (branch (list (trees (missing_default_info (label []) ∷ missing_default_info (label []) ∷ [])))) (any_t []) [] ≡ Failed fault.Returned
two_default_infos = refl

number_returned : returning (key (index.Number (pos 1))) (any_t []) [] ≡ Failed fault.Returned
number_returned = refl

tuple_returned : returning (branch (tuple (trees (of A ∷ [])))) (any_t []) [] ≡ Failed fault.Returned
tuple_returned = refl

other_in_list : returning (branch (list (trees (of A ∷ key (index.Number (pos 1)) ∷ [])))) (any_t []) [] ≡ Failed fault.Returned
other_in_list = refl

instance_alone : returning (of A) (any_t []) [] ≡ Failed fault.Returned
instance_alone = refl

-- a missing `DefaultInfo` is first; one that is returned keeps its place
missing_is_first : returning (branch (list (trees (of A ∷ of B ∷ [])))) (any_t []) [] ≡ done (of A ∷ of B ∷ [])
missing_is_first = refl

returned_keeps_its_place : returning (branch (list (trees (of A ∷ missing_default_info (label (codes "t")) ∷ [])))) (any_t []) [] ≡ Done (of A ∷ missing_default_info (label (codes "t")) ∷ []) []
returned_keeps_its_place = refl

-- two declared Files, of which one is written
abbrev file : List ℕ → FileRef
file p = record { path = p; owner = codes "//a:t" }

abbrev write : List ℕ → Action
write p = record { mnemonic = codes "FileWrite"; outputs = file p ∷ []; inputs = inputs.Files []; words = []; content = Some [] }

abbrev declaring_files : FrozenTree → List Action → Outcome
declaring_files result actions =
    step (λ l t ds. Ok (record { result = result; files = file (codes "a/o") ∷ file (codes "a/p") ∷ []; actions = actions })) (label (codes "t")) (target (any_t [])) []

none_made : declaring_files None_ [] ≡ Failed (fault.NoAction (codes "a/o"))
none_made = refl

one_made : declaring_files None_ (write (codes "a/o") ∷ []) ≡ Failed (fault.NoAction (codes "a/p"))
one_made = refl

both_made : declaring_files None_ (write (codes "a/p") ∷ write (codes "a/o") ∷ []) ≡ Done (missing_default_info (label (codes "t")) ∷ []) (write (codes "a/p") ∷ write (codes "a/o") ∷ [])
both_made = refl

-- `returned` before `no action`
returned_before_no_action : declaring_files (of A) [] ≡ Failed fault.Returned
returned_before_no_action = refl
