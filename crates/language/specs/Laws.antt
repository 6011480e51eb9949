-- What is so of files over the operations of the language. (This project's own.)
use Rattle.meaning.specs.Correct.{CallsAreMeant, FunctionsAreMeant, TopLevelsAreMeant}
use Rattle.operations.specs.Names.{Linked}
use Rattle.language.specs.Place.{Place}
use Rattle.language.specs.Language.{language}

-- whatever files are linked, and whatever the place has
pub record FilesAreMeant (W : Type 0) : Type 0 where
  pub calls : (world : Linked) (place : Place W) → CallsAreMeant (language world place)
  pub functions : (world : Linked) (place : Place W) → FunctionsAreMeant (language world place)
  pub top_levels : (world : Linked) (place : Place W) → TopLevelsAreMeant (language world place)
