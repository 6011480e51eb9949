-- Why nothing is packed (docs/REPORT.md, "From a folder to an input"; this project's own choice).
use Rattle.std.specs.Prelude.{◌≡◌, ◌≢◌, ◌<◌, ◌≤◌, ℕ, Bool, true, List, [], Option, Some, None}
use Rattle.std.specs.Prelude.{length, slice_index_or, All, IsUtf8, ⊤}
use Rattle.devices.specs.Devices.{WritesBeginning}
use Rattle.workspace.specs.Paths.{is_path}
use Rattle.workspace.specs.Workspaces.{text_limit}
use Rattle.packing.specs.Folders.{At, HasNoNames, IsFound, Node, file, folder, link, special}
use Rattle.packing.specs.Folders.{shut_file, shut_folder, unread}
use Rattle.packing.specs.Packs.{Packs, is_used}
use Rattle.packing.specs.Writing.{IsTooMuch}
use Rattle.packing.specs.declared.folders.Unread.TheVariants as why
use Rattle.packing.specs.declared.whole.FileSize.{FileSize}
use Rattle.packing.specs.declared.whole.Packed.{Packed}
use Rattle.packing.specs.declared.whole.PackStop.{PackStop}
use Rattle.packing.specs.declared.whole.PackStop.TheVariants as stop

-- a regular file of so many bytes that are UTF-8, where it is known
abbrev pub HasSize : Option Node → ℕ → Type 0
HasSize None n = ⊤
HasSize (Some (folder names others)) n = ⊥
HasSize (Some (file bytes)) n = (n ≡ length bytes) × IsUtf8 bytes
HasSize (Some link) n = ⊥
HasSize (Some special) n = ⊥
HasSize (Some (shut_folder u)) n = ⊥
HasSize (Some (shut_file u)) n = ⊥
HasSize (Some (unread u)) n = ⊥

-- a file that a walk found, whose path is legal and whose text is used, with the number of its
-- bytes, which are no more than a text may have
pub record IsSize (at : At) (s : FileSize) : Type 0 where
  pub found : IsFound at s.path
  pub legal : is_path s.path ≡ true
  pub used : is_used s.path ≡ true
  pub bytes : HasSize (at s.path) s.bytes
  pub within : s.bytes ≤ text_limit

-- at most five files with their sizes, the greatest first. Whether a greater one is missing, as one
-- that couldn't be read again, no definition tells
pub record AreSizes (at : At) (sizes : List FileSize) : Type 0 where
  pub few : length sizes ≤ 5
  pub each : All (IsSize at) sizes
  pub falling : (i j : ℕ) (d : FileSize) → i ≤ j → j < length sizes
      → (slice_index_or sizes j d).bytes ≤ (slice_index_or sizes i d).bytes

-- each refusal has its cause: the root tells no names, where it is known, for that reason where it
-- is a folder that is shut or isn't told at all, and not for want of memory; the input would be too
-- long; or something is left out where nothing may be, and it is named. That memory was refused, no
-- definition tells; of a failed write the clauses of `pack` tell
abbrev pub Refuses : At → Bool → PackStop → Type 0
Refuses at strict (stop.Root u) = (u ≢ why.NoMemory) × HasNoNames (at []) u
Refuses at strict (stop.TooLong sizes) = IsTooMuch at × AreSizes at sizes.items
Refuses at strict (stop.LeftOut left) = (strict ≡ true) × (0 < length left.items)
    × ((p : Packed) × Packs at p × (p.left ≡ left))
Refuses at strict stop.NoMemory = ⊤
Refuses at strict stop.Write = ⊤

-- a beginning of the folder's input was written; where nothing may be left out, nothing is
abbrev pub BeginsInput : At → Bool → Option (List ℕ) → Option (List ℕ) → Type 0
BeginsInput at strict old new = (p : Packed) × Packs at p × (strict ≡ true → p.left.items ≡ [])
    × WritesBeginning old new p.input.items
