-- When two actions are equal: by mnemonic, paths of outputs, paths of inputs, words, and content or
-- want of one. Owners of Files don't count. (This project's own rule.)
use Rattle.std.specs.Prelude.{ℕ, Bool, ◌&&◌, List, [], ◌∷◌, map, Option}
use Rattle.std.specs.List.{flat_map}
use lib.Pointwise.{pointwise}
use Rattle.std.specs.Option.{option_eq}
use Rattle.std.specs.Str.{bytes_eq}
use Rattle.depsets.specs.Own.{Own}
use Rattle.depsets.specs.Rose.{Rose}
use Rattle.depsets.specs.declared.element.Element.{Element}
use Rattle.depsets.specs.declared.element.Element.TheVariants as element
use Rattle.depsets.specs.declared.element.FileRef.{FileRef}
use Rattle.actions.specs.declared.action.Action.{Action}
use Rattle.actions.specs.declared.action.Inputs.{Inputs}
use Rattle.actions.specs.declared.action.Inputs.TheVariants as inputs

-- the path of a File, which alone is compared of it
abbrev pub path_of : FileRef → List ℕ
path_of f = f.path

-- Files by their paths; what is no File is none of an action's inputs
abbrev pub element_paths : Element → List (List ℕ)
element_paths (element.File f) = path_of f ∷ []
element_paths _ = []

-- what of an action is compared
pub record Compared : Type 0 where
  pub mnemonic : List ℕ
  pub outputs : List (List ℕ)
  pub inputs : List (List ℕ)
  pub words : List (List ℕ)
  pub content : Option (List ℕ)

-- whether two lists of texts are the same, text by text
abbrev pub same_texts : List (List ℕ) → List (List ℕ) → Bool
same_texts xs ys = pointwise bytes_eq xs ys

-- whether two actions are equal, by what is compared of them
abbrev pub same_parts : Compared → Compared → Bool
same_parts a b =
    bytes_eq a.mnemonic b.mnemonic
    && (same_texts a.outputs b.outputs && (same_texts a.inputs b.inputs
    && (same_texts a.words b.words && option_eq bytes_eq a.content b.content)))

module _ (listing : Rose Own → List Element) where
  -- the paths of an action's inputs: a depset gives those of its listing
  abbrev pub input_paths : Inputs → List (List ℕ)
  input_paths (inputs.Files files) = map path_of files
  input_paths (inputs.Depset d) = flat_map element_paths (listing d)

  -- what is compared of an action
  abbrev pub compared : Action → Compared
  compared a = record {
    mnemonic = a.mnemonic;
    outputs = map path_of a.outputs;
    inputs = input_paths a.inputs;
    words = a.words;
    content = a.content;
  }

  -- whether two actions are equal
  abbrev pub same_action : Action → Action → Bool
  same_action a b = same_parts (compared a) (compared b)
