-- Worked rows of loading, over an evaluation that gives a module the names that it binds.
use Rattle.std.specs.Prelude.{◌≡◌, ℕ, List, [], ◌∷◌, Option, Some, None, Result, Ok, Err, refl, if◌then◌else◌, codes}
use Rattle.std.specs.Str.{bytes_eq}
use Rattle.loading.specs.Loads.{Path, Name, Load, Read}
use Rattle.loading.specs.declared.faults.LoadFaultKind.TheVariants.{Syntax, LoadCycle, MissingFile, LoadedModuleFailed, PrivateName, MissingName}
use Rattle.loading.specs.Modules.{Sources, module_of, build_of}

abbrev Text : Type 0
Text = Result (Read (List Name)) (ℕ × ℕ)

abbrev load_at : ℕ → Option Path → List Name → Load
load_at n t xs = record { line = n; target = t; asked = xs }

abbrev binds : List Load → List Name → Text
binds ls names = Ok (record { loads = ls; tree = names })

abbrev workspace : List Path → (Path → Text) → Sources (List Name) (List Name) ℕ ℕ
workspace paths read = record { modules = paths; read = read; globals = λ m. m; run = λ known p names. Ok names }

abbrev p : Path
p = codes "p"

abbrev q : Path
q = codes "q"

abbrev r : Path
r = codes "r"

abbrev text_of : Text → Text → Text → Path → Text
text_of a b c t = if bytes_eq t p then a else (if bytes_eq t q then b else c)

abbrev x : Name
x = codes "x"

abbrev y : Name
y = codes "y"

-- What is loaded isn't handed on. p: x = 1; q: load(":p", "x"), y = x; r: load(":q", "y", z = "x")
abbrev handed : Sources (List Name) (List Name) ℕ ℕ
handed = workspace (p ∷ q ∷ r ∷ []) (text_of (binds [] (x ∷ [])) (binds (load_at 1 (Some p) (x ∷ []) ∷ []) (y ∷ [])) (binds (load_at 1 (Some q) (y ∷ x ∷ []) ∷ []) []))

missing_name_row : module_of handed r ≡ Err (record { kind = MissingName; path = r; line = 1 })
missing_name_row = refl

loader_row : module_of handed q ≡ Ok (y ∷ [])
loader_row = refl

-- p and q load each other, on line 2 of p; r loads p. The loader behind the cycle has a failed module.
abbrev around : Sources (List Name) (List Name) ℕ ℕ
around =
    workspace (p ∷ q ∷ r ∷ [])
    (text_of (binds (load_at 1 None (x ∷ []) ∷ load_at 2 (Some q) (x ∷ []) ∷ []) []) (binds (load_at 1 (Some p) (x ∷ []) ∷ []) []) (binds (load_at 1 (Some p) (x ∷ []) ∷ []) []))

cycle_row : module_of around p ≡ Err (record { kind = LoadCycle; path = p; line = 2 })
cycle_row = refl

behind_row : module_of around r ≡ Err (record { kind = LoadedModuleFailed; path = r; line = 1 })
behind_row = refl

-- A file that loads itself.
itself_row : module_of (workspace (r ∷ []) (λ t. binds (load_at 1 (Some r) (x ∷ []) ∷ []) [])) r ≡ Err (record { kind = LoadCycle; path = r; line = 1 })
itself_row = refl

-- r: a private name of p on line 1, and a missing file on line 2. The first statement's fault is told.
private_row : module_of (workspace (p ∷ r ∷ []) (text_of (binds [] []) (binds [] []) (binds (load_at 1 (Some p) (codes "_u" ∷ []) ∷ load_at 2 None (codes "v" ∷ []) ∷ []) []))) r
    ≡ Err (record { kind = PrivateName; path = r; line = 1 })
private_row = refl

-- p and q load r, which is no module, though its text loads p: no file is found, whatever is asked of it, and there is no cycle.
abbrev outside : Sources (List Name) (List Name) ℕ ℕ
outside = workspace (p ∷ q ∷ []) (text_of (binds (load_at 1 (Some r) (x ∷ []) ∷ []) []) (binds (load_at 1 (Some r) (codes "_v" ∷ []) ∷ []) []) (binds (load_at 1 (Some p) (y ∷ []) ∷ []) []))

no_module_row : module_of outside p ≡ Err (record { kind = MissingFile; path = p; line = 1 })
no_module_row = refl

private_of_none_row : module_of outside q ≡ Err (record { kind = MissingFile; path = q; line = 1 })
private_of_none_row = refl

-- A syntax fault comes before everything, and whoever loads the file has a failed module; so has a BUILD file.
abbrev broken : Sources (List Name) (List Name) ℕ ℕ
broken = workspace (p ∷ q ∷ []) (text_of (Err (2, 7)) (binds (load_at 3 (Some p) (x ∷ []) ∷ []) []) (binds (load_at 4 (Some q) [] ∷ []) []))

syntax_row : module_of broken p ≡ Err (record { kind = Syntax 2; path = p; line = 7 })
syntax_row = refl

failed_row : module_of broken q ≡ Err (record { kind = LoadedModuleFailed; path = q; line = 3 })
failed_row = refl

build_row : build_of broken (λ known path names. Ok names) r ≡ Err (record { kind = LoadedModuleFailed; path = r; line = 4 })
build_row = refl
