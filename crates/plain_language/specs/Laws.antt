-- Where an id has one tree in all that an evaluation has seen, it does the same by plain listings.
-- (Bazel's documentation of depsets has no ids; they are this project's own.)
use Rattle.std.specs.Prelude.{◌≡◌, ℕ, List}
use Rattle.meaning.specs.Calls.{function_meaning, top_meaning}
use Rattle.meaning.specs.Functions.{Files}
use Rattle.meaning.specs.Operations.{FunctionId, Arguments}
use Rattle.values.specs.declared.value.Value.{Value}
use Rattle.operations.specs.Names.{Linked}
use Rattle.language.specs.Language.{language}
use Rattle.language.specs.Place.{Place}
use Rattle.language.specs.declared.whole.Whole.{Whole}
use Rattle.keeping.specs.Kept.{good_arguments}
use Rattle.agreeing.specs.Agreed.{EachAgrees}
use Rattle.one_tree.specs.Found.{Set}
use Rattle.holding.specs.Held.{Seen, WholeHolds, held}
use Rattle.holding.specs.Places.{LinkedKeeps, PlaceKeeps}
use Rattle.plain_language.specs.Language.{plain_language}

-- by the owner of an evaluation, the depsets that it was given, and those in the work of its place
module _ {W : Type 0} (owner : List ℕ) (base : List Set) (in_work : W → List Set) where
  -- each operation does the same, on what was seen
  abbrev pub OperationsArePlain : Type 0
  OperationsArePlain = (world : Linked) (place : Place W)
      → EachAgrees (held owner base in_work) (language world place) (plain_language world place)

  -- so a function that is called from outside does, whose place keeps one tree for an id
  abbrev pub CallsArePlain : Type 0
  CallsArePlain =
      (world : Linked) (place : Place W) (files : Files) (f : FunctionId) (given : Arguments Value)
      (k : Seen owner base) (s : Whole W)
      → LinkedKeeps base world → PlaceKeeps owner base in_work place
      → good_arguments (held owner base in_work) k given → WholeHolds in_work k s
      → function_meaning (language world place) files f given s
      ≡ function_meaning (plain_language world place) files f given s

  -- and so does the top level of a file
  abbrev pub TopLevelsArePlain : Type 0
  TopLevelsArePlain =
      (world : Linked) (place : Place W) (files : Files) (file : ℕ)
      (k : Seen owner base) (s : Whole W)
      → LinkedKeeps base world → PlaceKeeps owner base in_work place → WholeHolds in_work k s
      → top_meaning (language world place) files file s
      ≡ top_meaning (plain_language world place) files file s
