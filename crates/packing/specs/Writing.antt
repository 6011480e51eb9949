-- An input that is written file by file. (docs/REPORT.md, "From a folder to an input"; this
-- project's own.)
use Rattle.std.specs.Prelude.{◌≡◌, ◌<◌, ◌≤◌, ◌⊎◌, ◌++◌, ◌+◌, ◌-◌, ◌^◌, ℕ, Bool, true, false}
use Rattle.std.specs.Prelude.{not, min, List, [], ◌∷◌, length, All, Contains, IsUtf8, ⊤}
use Rattle.std.specs.List.{list_all}
use Rattle.request.specs.Input.{input_limit}
use Rattle.workspace.specs.FileKinds.{is_build_file, is_module}
use Rattle.workspace.specs.Workspaces.{Pair, is_file, paths_of}
use Rattle.packing.specs.Folders.{At, IsFound}
use Rattle.packing.specs.Inputs.{begun_text, comma, input_text, pair_text}
use Rattle.packing.specs.Packs.{AreAscending, HasCause, IsNamed, IsOf, Names, counts_of}
use Rattle.packing.specs.Packs.{is_bazel_file, is_used}
use Rattle.packing.specs.declared.leaving.LeftOut.{LeftOut}
use Rattle.packing.specs.declared.writing.Counts.{Counts}
use Rattle.packing.specs.declared.writing.Writing.{Writing}
use Rattle.packing.specs.declared.writing.WriteStop.{WriteStop}
use Rattle.packing.specs.declared.writing.WriteStop.TheVariants as stop

-- a count with one more, where there is one
abbrev pub one_more : Bool → ℕ → ℕ
one_more true n = min (n + 1) (2 ^ 64 - 1)
one_more false n = n

-- the counts with the file at this path
abbrev pub counted_too : List ℕ → Counts → Counts
counted_too path c = record {
  packages = one_more (is_build_file path) c.packages;
  modules = one_more (is_module path) c.modules;
  sources = one_more (not (is_used path)) c.sources;
}

-- the file's pair is put behind the others
pub record Puts (at : At) (path : List ℕ) (old new : Writing) (pairs : List Pair) : Type 0 where
  pub text : List ℕ
  pub begun : new.input.items ≡ begun_text (pairs ++ (path, text) ∷ [])
  pub limit : length new.input.items < input_limit
  pub file : is_file (path, text) ≡ true
  pub of : IsOf (at path) (path, text)
  pub served : is_bazel_file path ≡ false
  pub left : new.left.items ≡ old.left.items
  pub counted : new.counts ≡ counted_too path old.counts

-- the file is named as left out
pub record Leaves (at : At) (path : List ℕ) (old new : Writing) : Type 0 where
  pub input : new.input.items ≡ old.input.items
  pub named : LeftOut
  pub names : Names named path
  pub left : new.left.items ≡ old.left.items ++ named ∷ []
  pub cause : HasCause at named
  pub counted : new.counts ≡ old.counts

-- one file more was taken: its pair is put behind the others, or it is named as left out
pub record Takes (at : At) (path : List ℕ) (old new : Writing) : Type 0 where
  pub taken : (pairs : List Pair) → old.input.items ≡ begun_text pairs
      → Puts at path old new pairs ⊎ Leaves at path old new
  pub utf8 : IsUtf8 old.input.items → IsUtf8 new.input.items

-- with the file's pair, and the last bracket, the input would be above the limit
abbrev pub Exceeds : At → List ℕ → List ℕ → Type 0
Exceeds at path input = (text : List ℕ) × (is_file (path, text) ≡ true)
    × IsOf (at path) (path, text) × (is_bazel_file path ≡ false)
    × (input_limit ≤ length (input ++ (comma input ++ pair_text (path, text))))

-- the pairs of some legal files that are served, in order
pub record ArePacked (at : At) (pairs : List Pair) : Type 0 where
  pub files : list_all is_file pairs ≡ true
  pub ascending : AreAscending (paths_of pairs)
  pub of : All (λ p. IsOf (at p.0) p) pairs
  pub served : All (λ p. is_bazel_file p.0 ≡ false) pairs

-- each of the files `done` was taken, and is packed or named as left out; what was left out before
-- still is
pub record Written (at : At) (done : List (List ℕ)) (before : List LeftOut)
    (w : Writing) : Type 0 where
  pub pairs : List Pair
  pub packed : ArePacked at pairs
  pub begun : w.input.items ≡ begun_text pairs
  pub limit : length w.input.items < input_limit
  pub utf8 : IsUtf8 w.input.items
  pub within : All (Contains done) (paths_of pairs)
  pub whole : (path : List ℕ) → Contains done path
      → Contains (paths_of pairs) path ⊎ IsNamed w.left.items path
  pub kept : (l : LeftOut) → Contains before l → Contains w.left.items l
  pub causes : All (HasCause at) w.left.items
  pub counted : w.counts ≡ counts_of (paths_of pairs)

-- the pairs of some of these files spell more than the limit
pub record AreTooMuch (at : At) (files : List (List ℕ)) : Type 0 where
  pub pairs : List Pair
  pub packed : ArePacked at pairs
  pub within : All (Contains files) (paths_of pairs)
  pub long : input_limit < length (input_text pairs)

-- the pairs of some files that a walk found spell more than the limit
abbrev pub IsTooMuch : At → Type 0
IsTooMuch at = (files : List (List ℕ)) × All (IsFound at) files × AreTooMuch at files

-- why the writing of these files stopped: too many bytes have their cause; that memory was refused,
-- no definition tells
abbrev pub Stops : At → List (List ℕ) → WriteStop → Type 0
Stops at files stop.TooLong = AreTooMuch at files
Stops at files stop.NoMemory = ⊤
