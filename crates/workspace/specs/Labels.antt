-- The labels of targets and files, and the texts that they are read from (Bazel documentation,
-- "Labels"; docs/PROFILE.md, "Labels").
use Rattle.std.specs.Prelude.{◌≡◌, true, ℕ, Bool, ◌&&◌, ◌||◌, ◌==◌, nat_eq, List, [], ◌∷◌, ◌++◌}
use Rattle.std.specs.Prelude.{length, take, drop, ◌+◌, codes, Option, Some, None, option_and_then}
use Rattle.std.specs.Prelude.{option_map, if◌then◌else◌, bytes_eq}
use Rattle.std.specs.List.{list_any, before_first, after_first, starts_with}
use Rattle.std.specs.Borrow.{Bor}
use Rattle.workspace.specs.Paths.{is_path, last_segment}

-- what a label is made of: a package, empty for the root package, and a name within it
pub record LabelParts : Type 0 where
  pub «package» : List ℕ
  pub name : List ℕ

-- labels are the same where their packages and names are, byte for byte
abbrev pub same_label : LabelParts → LabelParts → Bool
same_label a b = bytes_eq a.«package» b.«package» && bytes_eq a.name b.name

-- the byte `:`, which stands between a label's package and its name
abbrev pub is_colon : ℕ → Bool
is_colon b = b == 58

-- the path that package and name form; the root package is empty and has no slash after it
abbrev pub label_path : LabelParts → List ℕ
label_path l = if length l.«package» == 0 then l.name else l.«package» ++ 47 ∷ l.name

-- `//PACKAGE:NAME`
abbrev pub label_text : LabelParts → List ℕ
label_text l = codes "//" ++ (l.«package» ++ 58 ∷ l.name)

-- the package is empty or a path, the name is a path, and both together form a path
abbrev pub is_label : LabelParts → Bool
is_label l =
    ((length l.«package» == 0 || is_path l.«package») && is_path l.name) && is_path (label_path l)

-- the parts of a label that is kept as its text: a package of so many bytes stands behind `//`, and
-- the name behind the colon
abbrev pub parts_kept : List ℕ → ℕ → LabelParts
parts_kept text size = record { «package» = take size (drop 2 text); name = drop (size + 3) text }

-- a text that is kept is the text of these parts, and they are legal
pub record IsLabelKept (text : List ℕ) (size : ℕ) : Type 0 where
  pub spells : text ≡ label_text (parts_kept text size)
  pub sized : length (parts_kept text size).«package» ≡ size
  pub legal : is_label (parts_kept text size) ≡ true

-- package and name in what follows `//`: `p:n` and `:n` write both; `p` alone is a package, and its
-- last segment the name
abbrev pub whole_parts : List ℕ → LabelParts
whole_parts rest =
    if list_any is_colon rest
    then record { «package» = before_first is_colon rest; name = after_first is_colon rest }
    else record { «package» = rest; name = last_segment rest }

-- the name that `:n` and `n` write
abbrev pub relative_name : List ℕ → List ℕ
relative_name [] = []
relative_name (b ∷ rest) = if is_colon b then rest else b ∷ rest

-- package and name that a text writes, legal or not; without a package only a text that begins with
-- `//` writes them
abbrev pub label_parts : List ℕ → Option (List ℕ) → Option LabelParts
label_parts text «package» =
    if starts_with nat_eq text (codes "//") then Some (whole_parts (drop 2 text))
    else option_map (λ p. record { «package» = p; name = relative_name text }) «package»

-- a package behind a reference, where one is given
abbrev pub given_package : Option (Bor (List ℕ)) → Option (List ℕ)
given_package p = option_map (λ s. s.now) p

-- package and name behind references
abbrev pub written_parts : Option (Bor (List ℕ) × Bor (List ℕ)) → Option LabelParts
written_parts r = option_map (λ p. record { «package» = p.0.now; name = p.1.now }) r

-- these parts, where they are those of a legal label
abbrev pub legal_label : LabelParts → Option LabelParts
legal_label l = if is_label l then Some l else None

-- the label that a text is, where it is one
abbrev pub label_of : List ℕ → Option (List ℕ) → Option LabelParts
label_of text «package» = option_and_then legal_label (label_parts text «package»)
