-- What is packed of a folder, and what is left out (docs/REPORT.md, "From a folder to an input";
-- this project's own choice).
use Rattle.std.specs.Prelude.{◌≡◌, ◌≢◌, ◌⊎◌, ◌-◌, ◌^◌, ℕ, Bool, true, false, not, ◌||◌, min}
use Rattle.std.specs.Prelude.{if◌then◌else◌, List, [], codes, Option, Some, None, Contains, All}
use Rattle.std.specs.Prelude.{IsUtf8, ⊤}
use Rattle.std.specs.Cmp.Lexicographic.{slice_cmp}
use Rattle.std.specs.List.{count_by}
use Rattle.std.specs.List.Sorted.{IsSorted, IsStrictlySortedBy}
use Rattle.std.specs.Ordering.{nat_cmp}
use Rattle.std.specs.Str.{bytes_eq}
use Rattle.request.specs.Input.{Spells}
use Rattle.workspace.specs.FileKinds.{is_build_file, is_module}
use Rattle.workspace.specs.Paths.{is_path, last_segment}
use Rattle.workspace.specs.Workspaces.{Pair, paths_of, text_limit}
use Rattle.packing.specs.Folders.{At, Comes, HasOthers, IsFile, IsKnown, IsLonger}
use Rattle.packing.specs.Folders.{Leads, Node, Reaches, file, folder, link, shut_file, shut_folder}
use Rattle.packing.specs.Folders.{TellsNames, special, unread}
use Rattle.packing.specs.Inputs.{input_text}
use Rattle.packing.specs.declared.folders.Unread.{Unread}
use Rattle.packing.specs.declared.folders.Unread.TheVariants as reasons
use Rattle.packing.specs.declared.leaving.LeftOut.{LeftOut}
use Rattle.packing.specs.declared.leaving.Reason.{Reason}
use Rattle.packing.specs.declared.leaving.Reason.TheVariants as reason
use Rattle.packing.specs.declared.whole.Packed.{Packed}
use Rattle.packing.specs.declared.writing.Counts.{Counts}

-- a `BUILD` file or a module: the text is used
abbrev pub is_used : List ℕ → Bool
is_used path = is_build_file path || is_module path

-- `BUILD.bazel` and `MODULE.bazel`, which `bzlan` doesn't serve
abbrev pub is_bazel_file : List ℕ → Bool
is_bazel_file path =
    bytes_eq (last_segment path) (codes "BUILD.bazel")
    || bytes_eq (last_segment path) (codes "MODULE.bazel")

-- the text of a file where it is used, and else the empty text
abbrev pub used_text : List ℕ → List ℕ → List ℕ
used_text path bytes = if is_used path then bytes else []

-- the pair is of the regular file that stands there, where that is known; where it isn't, the pair
-- of a file that isn't used has the empty text
abbrev pub IsOf : Option Node → Pair → Type 0
IsOf None pair = is_used pair.0 ≡ false → pair.1 ≡ []
IsOf (Some (folder names others)) pair = ⊥
IsOf (Some (file bytes)) pair = pair.1 ≡ used_text pair.0 bytes
IsOf (Some link) pair = ⊥
IsOf (Some special) pair = ⊥
IsOf (Some (shut_folder u)) pair = ⊥
IsOf (Some (shut_file u)) pair = (is_used pair.0 ≡ false) × (pair.1 ≡ [])
IsOf (Some (unread u)) pair = ⊥

-- the bytes aren't UTF-8, where they are known
abbrev pub IsNoText : Option Node → Type 0
IsNoText None = ⊤
IsNoText (Some (folder names others)) = ⊥
IsNoText (Some (file bytes)) = IsUtf8 bytes → ⊥
IsNoText (Some link) = ⊥
IsNoText (Some special) = ⊥
IsNoText (Some (shut_folder u)) = ⊥
IsNoText (Some (shut_file u)) = ⊥
IsNoText (Some (unread u)) = ⊥

-- neither folder, file nor link, where it is known
abbrev pub IsSpecial : Option Node → Type 0
IsSpecial None = ⊤
IsSpecial (Some (folder names others)) = ⊥
IsSpecial (Some (file bytes)) = ⊥
IsSpecial (Some link) = ⊥
IsSpecial (Some special) = ⊤
IsSpecial (Some (shut_folder u)) = ⊥
IsSpecial (Some (shut_file u)) = ⊥
IsSpecial (Some (unread u)) = ⊥

-- why something couldn't be read is true of what is known; of a file only where its text is used
abbrev pub IsUnread : Option Node → List ℕ → Unread → Type 0
IsUnread None path u = ⊤
IsUnread (Some (folder names others)) path u = ⊥
IsUnread (Some (file bytes)) path u = ⊥
IsUnread (Some link) path u = ⊥
IsUnread (Some special) path u = ⊥
IsUnread (Some (shut_folder why)) path u = why ≡ u
IsUnread (Some (shut_file why)) path u = (why ≡ u) × (is_used path ≡ true)
IsUnread (Some (unread why)) path u = why ≡ u

-- the reason holds of the path. The first four are told of a regular file, and of these the last
-- two only where its text is used
abbrev pub Holds : At → List ℕ → Reason → Type 0
Holds at path reason.IllegalPath = IsFile (at path) × (is_path path ≡ false)
Holds at path reason.BazelFile = IsFile (at path) × (is_bazel_file path ≡ true)
Holds at path reason.NotUtf8 = IsNoText (at path) × (is_used path ≡ true)
Holds at path reason.TooLong = IsLonger (at path) text_limit × (is_used path ≡ true)
Holds at path reason.Special = IsSpecial (at path)
Holds at path reason.NamesNotUtf8 = HasOthers (at path)
Holds at path reason.Gone = IsUnread (at path) path reasons.Gone
Holds at path reason.Denied = IsUnread (at path) path reasons.Denied
Holds at path reason.NameTooLong = IsUnread (at path) path reasons.NameTooLong
Holds at path reason.Failed =
    IsUnread (at path) path reasons.Failed ⊎ IsUnread (at path) path reasons.TooLong

-- what is named as left out has the reason that is told for it
abbrev pub HasReason : At → LeftOut → Type 0
HasReason at l = Holds at l.path l.reason

-- and where all is known that a walk comes to, it comes there
abbrev pub HasCause : At → LeftOut → Type 0
HasCause at l = HasReason at l × (IsKnown at → Comes at l.path)

-- it is named by its own path, and not for the names in it
abbrev pub Names : LeftOut → List ℕ → Type 0
Names l path = (l.path ≡ path) × (l.reason ≢ reason.NamesNotUtf8)

-- what stands at a path is named as left out
abbrev pub IsNamed : List LeftOut → List ℕ → Type 0
IsNamed left path = (l : LeftOut) × Contains left l × Names l path

-- what stands at a path isn't lost, among the files that are found and what is left out: a regular
-- file is one of those, and a folder with names that aren't UTF-8 is named so. Links are passed
-- over; of what isn't known nothing is said. What is special, a folder that is shut and what is
-- unread are lost unless they are named
abbrev pub IsTold : Option Node → List ℕ → List (List ℕ) → List LeftOut → Type 0
IsTold None path files left = ⊤
IsTold (Some (folder names others)) path files left =
    others ≡ true → Contains left (record { path = path; reason = reason.NamesNotUtf8 })
IsTold (Some (file bytes)) path files left = Contains files path
IsTold (Some link) path files left = ⊤
IsTold (Some special) path files left = ⊥
IsTold (Some (shut_folder u)) path files left = ⊥
IsTold (Some (shut_file u)) path files left = Contains files path
IsTold (Some (unread u)) path files left = ⊥

-- the paths ascend by their bytes
abbrev pub AreAscending : List (List ℕ) → Type 0
AreAscending paths = IsStrictlySortedBy (slice_cmp nat_cmp) paths

-- what is left out stands by the bytes of the paths
abbrev pub AreInOrder : List LeftOut → Type 0
AreInOrder left = IsSorted (λ a b. slice_cmp nat_cmp a.path b.path) left

-- how many of some paths are such; the count stays at the greatest u64
abbrev pub how_many : (List ℕ → Bool) → List (List ℕ) → ℕ
how_many f paths = min (count_by f paths) (2 ^ 64 - 1)

-- how many of some files there are of each kind
abbrev pub counts_of : List (List ℕ) → Counts
counts_of paths = record {
  packages = how_many is_build_file paths;
  modules = how_many is_module paths;
  sources = how_many (λ path. not (is_used path)) paths;
}

-- what is written is the text of a workspace, and spells it: its pairs ascend by their paths, and
-- each is of a file of the folder, none of them a `BUILD.bazel` or `MODULE.bazel`. Nothing known
-- that a walk leads to is lost, from the root on, which is a folder that tells its names: a file,
-- shut or not, is one of them or named as left out; what is neither file, folder nor link, a folder
-- that is shut and what is unread are named; a folder with names that aren't UTF-8 is named so.
-- What is named has its cause and stands by its path. Where all is known that a walk comes to, no
-- other file is one of them. The files are counted by their kinds
pub record Packs (at : At) (p : Packed) : Type 0 where
  pub root : TellsNames (at [])
  pub workspace : List Pair
  pub told : p.input.items ≡ input_text workspace
  pub spelt : Spells p.input.items workspace
  pub ascending : AreAscending (paths_of workspace)
  pub of : All (λ q. IsOf (at q.0) q) workspace
  pub served : All (λ q. is_bazel_file q.0 ≡ false) workspace
  pub whole : (path : List ℕ) → Leads at [] path
      → IsTold (at path) path (paths_of workspace) p.left.items ⊎ IsNamed p.left.items path
  pub only : IsKnown at → All (Reaches at []) (paths_of workspace)
  pub causes : All (HasCause at) p.left.items
  pub ordered : AreInOrder p.left.items
  pub counted : p.counts ≡ counts_of (paths_of workspace)
