-- What stands in a folder, and what a walk through it reaches (docs/REPORT.md, "From a folder to an
-- input"; this project's own choice).
--
-- A folder is seen as a function: what stands at each path below it. `None` says nothing of a path:
-- what stands there isn't known, as in the folders of a system, or nothing does. The folder itself
-- is at the empty path.
use Rattle.std.specs.Prelude.{◌≡◌, ◌<◌, ℕ, Bool, true, false, nat_eq, List, [], ◌∷◌, ◌++◌, length}
use Rattle.std.specs.Prelude.{codes, Option, Some, None, Contains, IsSome, ⊤}
use Rattle.std.specs.List.{starts_with}
use Rattle.packing.specs.declared.folders.Kind.{Kind}
use Rattle.packing.specs.declared.folders.Kind.TheVariants as kind
use Rattle.packing.specs.declared.folders.Unread.{Unread}

-- a folder with the names in it that are UTF-8, and whether there are others; a regular file with
-- its bytes; a link; or what is none of these. A folder that is shut tells no names, a file that is
-- shut no bytes, and of what is unread not even the kind is told: each with the reason
pub data Node : Type 0 where
  folder : List (List ℕ) → Bool → Node
  file : List ℕ → Node
  link : Node
  special : Node
  shut_folder : Unread → Node
  shut_file : Unread → Node
  unread : Unread → Node

-- what is known of a folder: what stands at each path below it
abbrev pub At : Type 0
At = List ℕ → Option Node

-- the path of a name in a folder
abbrev pub below : List ℕ → List ℕ → List ℕ
below [] name = name
below (b ∷ bs) name = (b ∷ bs) ++ 47 ∷ name

-- a name that is passed over: `bazel-*` in the root, as Bazel's links to what it makes are called,
-- and the empty name, which no system has
abbrev pub passes_over : List ℕ → List ℕ → Bool
passes_over from [] = true
passes_over [] (c ∷ cs) = starts_with nat_eq (c ∷ cs) (codes "bazel-")
passes_over (b ∷ bs) (c ∷ cs) = false

-- its name begins with a dot
abbrev pub is_hidden : List ℕ → Bool
is_hidden name = starts_with nat_eq name (codes ".")

-- what stands there is known to be a folder, and its name begins with a dot
abbrev pub IsHiddenFolder : Option Node → List ℕ → Type 0
IsHiddenFolder None name = ⊥
IsHiddenFolder (Some (folder names others)) name = is_hidden name ≡ true
IsHiddenFolder (Some (file bytes)) name = ⊥
IsHiddenFolder (Some link) name = ⊥
IsHiddenFolder (Some special) name = ⊥
IsHiddenFolder (Some (shut_folder u)) name = is_hidden name ≡ true
IsHiddenFolder (Some (shut_file u)) name = ⊥
IsHiddenFolder (Some (unread u)) name = ⊥

-- from a folder a walk leads to a path: by names that stand in the folders on the way, but for
-- names and folders that are passed over
pub data Leads (at : At) : List ℕ → List ℕ → Type 0 where
  here : (path : List ℕ) → Leads at path path
  inside : (from name path : List ℕ) (names : List (List ℕ)) (others : Bool)
      → at from ≡ Some (folder names others) → Contains names name
      → passes_over from name ≡ false → (IsHiddenFolder (at (below from name)) name → ⊥)
      → Leads at (below from name) path → Leads at from path

-- what stands there is known to be a regular file
abbrev pub IsKnownFile : Option Node → Type 0
IsKnownFile None = ⊥
IsKnownFile (Some (folder names others)) = ⊥
IsKnownFile (Some (file bytes)) = ⊤
IsKnownFile (Some link) = ⊥
IsKnownFile (Some special) = ⊥
IsKnownFile (Some (shut_folder u)) = ⊥
IsKnownFile (Some (shut_file u)) = ⊤
IsKnownFile (Some (unread u)) = ⊥

-- from a folder a walk reaches the regular file at a path
abbrev pub Reaches : At → List ℕ → List ℕ → Type 0
Reaches at from path = Leads at from path × IsKnownFile (at path)

-- a walk comes to a path: that of the folder itself, and of each name in a folder that it comes to,
-- but for names and folders that are passed over
pub data Comes (at : At) : List ℕ → Type 0 where
  start : Comes at []
  onward : (from name : List ℕ) (names : List (List ℕ)) (others : Bool) → Comes at from
      → at from ≡ Some (folder names others) → Contains names name
      → passes_over from name ≡ false → (IsHiddenFolder (at (below from name)) name → ⊥)
      → Comes at (below from name)

-- a name stands in a folder that a walk comes to
abbrev pub IsListed : At → List ℕ → List ℕ → Type 0
IsListed at from name = (names : List (List ℕ)) × (others : Bool) × Comes at from
    × (at from ≡ Some (folder names others)) × Contains names name

-- what stands at each path that a walk comes to is known
abbrev pub IsKnown : At → Type 0
IsKnown at = (path : List ℕ) → Comes at path → IsSome (at path)

-- what a folder tells is true of what is known: the names in it, and whether there are others
abbrev pub HasNames : Option Node → List (List ℕ) → Bool → Type 0
HasNames None told more = ⊤
HasNames (Some (folder names others)) told more = (told ≡ names) × (more ≡ others)
HasNames (Some (file bytes)) told more = ⊥
HasNames (Some link) told more = ⊥
HasNames (Some special) told more = ⊥
HasNames (Some (shut_folder u)) told more = ⊥
HasNames (Some (shut_file u)) told more = ⊥
HasNames (Some (unread u)) told more = ⊥

-- what a folder tells is true of what is known: the kind of what stands at a path
abbrev pub HasKind : Option Node → Kind → Type 0
HasKind None k = ⊤
HasKind (Some (folder names others)) k = k ≡ kind.Folder
HasKind (Some (file bytes)) k = k ≡ kind.File
HasKind (Some link) k = k ≡ kind.Link
HasKind (Some special) k = k ≡ kind.Special
HasKind (Some (shut_folder u)) k = k ≡ kind.Folder
HasKind (Some (shut_file u)) k = k ≡ kind.File
HasKind (Some (unread u)) k = ⊥

-- what a folder tells is true of what is known: the bytes of a regular file
abbrev pub HasBytes : Option Node → List ℕ → Type 0
HasBytes None told = ⊤
HasBytes (Some (folder names others)) told = ⊥
HasBytes (Some (file bytes)) told = told ≡ bytes
HasBytes (Some link) told = ⊥
HasBytes (Some special) told = ⊥
HasBytes (Some (shut_folder u)) told = ⊥
HasBytes (Some (shut_file u)) told = ⊥
HasBytes (Some (unread u)) told = ⊥

-- why the kind isn't told is true of what is known
abbrev pub HasNoKind : Option Node → Unread → Type 0
HasNoKind None u = ⊤
HasNoKind (Some (folder names others)) u = ⊥
HasNoKind (Some (file bytes)) u = ⊥
HasNoKind (Some link) u = ⊥
HasNoKind (Some special) u = ⊥
HasNoKind (Some (shut_folder why)) u = ⊥
HasNoKind (Some (shut_file why)) u = ⊥
HasNoKind (Some (unread why)) u = why ≡ u

-- why no names are told: a folder tells them, unless it is shut
abbrev pub HasNoNames : Option Node → Unread → Type 0
HasNoNames None u = ⊤
HasNoNames (Some (folder names others)) u = ⊥
HasNoNames (Some (file bytes)) u = ⊤
HasNoNames (Some link) u = ⊤
HasNoNames (Some special) u = ⊤
HasNoNames (Some (shut_folder why)) u = why ≡ u
HasNoNames (Some (shut_file why)) u = ⊤
HasNoNames (Some (unread why)) u = why ≡ u

-- why no bytes are told: a regular file tells them, unless it is shut
abbrev pub HasNoBytes : Option Node → Unread → Type 0
HasNoBytes None u = ⊤
HasNoBytes (Some (folder names others)) u = ⊤
HasNoBytes (Some (file bytes)) u = ⊥
HasNoBytes (Some link) u = ⊤
HasNoBytes (Some special) u = ⊤
HasNoBytes (Some (shut_folder why)) u = ⊤
HasNoBytes (Some (shut_file why)) u = why ≡ u
HasNoBytes (Some (unread why)) u = why ≡ u

-- a regular file of more bytes than the limit, where it is known
abbrev pub IsLonger : Option Node → ℕ → Type 0
IsLonger None limit = ⊤
IsLonger (Some (folder names others)) limit = ⊥
IsLonger (Some (file bytes)) limit = limit < length bytes
IsLonger (Some link) limit = ⊥
IsLonger (Some special) limit = ⊥
IsLonger (Some (shut_folder u)) limit = ⊥
IsLonger (Some (shut_file u)) limit = ⊥
IsLonger (Some (unread u)) limit = ⊥

-- a folder, where it is known
abbrev pub IsFolder : Option Node → Type 0
IsFolder None = ⊤
IsFolder (Some (folder names others)) = ⊤
IsFolder (Some (file bytes)) = ⊥
IsFolder (Some link) = ⊥
IsFolder (Some special) = ⊥
IsFolder (Some (shut_folder u)) = ⊤
IsFolder (Some (shut_file u)) = ⊥
IsFolder (Some (unread u)) = ⊥

-- a folder that tells its names, where it is known
abbrev pub TellsNames : Option Node → Type 0
TellsNames None = ⊤
TellsNames (Some (folder names others)) = ⊤
TellsNames (Some (file bytes)) = ⊥
TellsNames (Some link) = ⊥
TellsNames (Some special) = ⊥
TellsNames (Some (shut_folder u)) = ⊥
TellsNames (Some (shut_file u)) = ⊥
TellsNames (Some (unread u)) = ⊥

-- a folder with names that aren't UTF-8, where it is known
abbrev pub HasOthers : Option Node → Type 0
HasOthers None = ⊤
HasOthers (Some (folder names others)) = others ≡ true
HasOthers (Some (file bytes)) = ⊥
HasOthers (Some link) = ⊥
HasOthers (Some special) = ⊥
HasOthers (Some (shut_folder u)) = ⊥
HasOthers (Some (shut_file u)) = ⊥
HasOthers (Some (unread u)) = ⊥

-- a regular file, where it is known
abbrev pub IsFile : Option Node → Type 0
IsFile None = ⊤
IsFile (Some (folder names others)) = ⊥
IsFile (Some (file bytes)) = ⊤
IsFile (Some link) = ⊥
IsFile (Some special) = ⊥
IsFile (Some (shut_folder u)) = ⊥
IsFile (Some (shut_file u)) = ⊤
IsFile (Some (unread u)) = ⊥

-- the path of a file that a walk found: a regular file stands there, where it is known, and where
-- all is known that a walk comes to, it reaches the file
abbrev pub IsFound : At → List ℕ → Type 0
IsFound at path = IsFile (at path) × (IsKnown at → Reaches at [] path)
