-- A walk through a folder on its way. (docs/REPORT.md, "From a folder to an input"; this project's
-- own.)
use Rattle.std.specs.Prelude.{◌≡◌, ◌⊎◌, ℕ, false, List, [], All, Contains}
use Rattle.packing.specs.Folders.{At, Comes, IsFile, IsFolder, IsFound, IsHiddenFolder}
use Rattle.packing.specs.Folders.{IsKnown, Leads, Reaches, TellsNames, below, passes_over}
use Rattle.packing.specs.Packs.{HasCause, HasReason, IsNamed, IsTold}
use Rattle.packing.specs.declared.walk.Walk.{Walk}

-- a folder waits that leads to the path
abbrev pub Awaits : At → List (List ℕ) → List ℕ → Type 0
Awaits at waiting path = (from : List ℕ) × Contains waiting from × Leads at from path

-- what stands at the path isn't lost: it was found or named, or nothing is said of it, or a folder
-- that waits leads to it
abbrev pub IsCovered : At → Walk → List ℕ → Type 0
IsCovered at w path = IsTold (at path) path w.files.keys w.left.items
    ⊎ (IsNamed w.left.items path ⊎ Awaits at w.waiting.items path)

-- nothing is lost that a folder leads to
abbrev pub CoversFrom : At → Walk → List ℕ → Type 0
CoversFrom at w from = (path : List ℕ) → Leads at from path → IsCovered at w path

-- nor what a name in a folder leads to, if what it stands for isn't passed over
abbrev pub CoversName : At → Walk → List ℕ → List ℕ → Type 0
CoversName at w from name =
    passes_over from name ≡ false → (IsHiddenFolder (at (below from name)) name → ⊥)
    → CoversFrom at w (below from name)

-- a step of a walk loses nothing, takes files alone, leaves nothing out without a reason, and waits
-- for folders alone
pub record Grows (at : At) (old new : Walk) : Type 0 where
  pub covered : (path : List ℕ) → IsCovered at old path → IsCovered at new path
  pub files : All (λ p. IsFile (at p)) old.files.keys → All (λ p. IsFile (at p)) new.files.keys
  pub reasons : All (HasReason at) old.left.items → All (HasReason at) new.left.items
  pub folders : All (λ p. IsFolder (at p)) old.waiting.items
      → All (λ p. IsFolder (at p)) new.waiting.items

-- each file that was found is reached, and a walk comes to each folder that waits and to what is
-- left out
pub record IsWithin (at : At) (w : Walk) : Type 0 where
  pub files : All (Reaches at []) w.files.keys
  pub waiting : All (Comes at) w.waiting.items
  pub left : All (λ l. Comes at l.path) w.left.items

-- a step of a walk goes nowhere else, where all that it comes to is known
abbrev pub Stays : At → Walk → Walk → Type 0
Stays at old new = IsKnown at → IsWithin at old → IsWithin at new

-- a walk that went through the names in the root, and has lost nothing
pub record IsBegun (at : At) (w : Walk) : Type 0 where
  pub root : TellsNames (at [])
  pub covers : CoversFrom at w []
  pub folders : All (λ p. IsFolder (at p)) w.waiting.items
  pub only : IsKnown at → IsWithin at w
  pub files : All (λ p. IsFile (at p)) w.files.keys
  pub reasons : All (HasReason at) w.left.items

-- a whole walk: through a folder, and nothing is lost that it leads to; what it found are files
-- that it reaches, and it left nothing out without a cause
pub record IsWalked (at : At) (w : Walk) : Type 0 where
  pub root : TellsNames (at [])
  pub whole : (path : List ℕ) → Leads at [] path
      → IsTold (at path) path w.files.keys w.left.items ⊎ IsNamed w.left.items path
  pub found : All (IsFound at) w.files.keys
  pub causes : All (HasCause at) w.left.items
