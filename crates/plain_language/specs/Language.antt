-- The operations of the language, where `t.to_list()` lists a depset plainly. All others are those
-- of `language`. (docs/PROFILE.md, "Listing a depset"; this project's own.)
use Rattle.std.specs.Prelude.{ℕ, List, Option, Some, None}
use Rattle.meaning.specs.Operations as meant
use Rattle.values.specs.Shape.{shape}
use Rattle.ticks.specs.declared.ticks.Kind.{Kind}
use Rattle.values.specs.declared.value.Value.{Value}
use Rattle.operations.specs.Arguments.{Given}
use Rattle.operations.specs.Fields.{shape_method}
use Rattle.operations.specs.Names.{Linked}
use Rattle.operations.specs.declared.method.Method.{Method}
use Rattle.language.specs.Place.{Does, Place, of_state}
use Rattle.language.specs.declared.whole.Whole.{Whole}
use Rattle.language.specs.Language.{of_place, given_of, value_call, place_method, language}
use Rattle.plain_language.specs.Methods.{method_call}

-- with the linked files and the place of an evaluation
module _ {W : Type 0} (world : Linked) (place : Place W) where
  -- a method of an object is its place's
  abbrev pub method_or_place : Option Method → Value → List ℕ → Given → Does W Value
  method_or_place (Some m) v x g w = of_state (method_call m v g) w
  method_or_place None v x g w = place_method world place (of_place v) x g w

  -- a call of a value, or of a method of a value
  abbrev pub call_of : meant.Callee Value → Given → Does W Value
  call_of (meant.plain v) g w = value_call world place v g w
  call_of (meant.method v x) g w = method_or_place (shape_method (shape w.state.heap v) x) v x g w

  -- the operations of the language, of which only the call differs
  abbrev pub plain_language : meant.Operations (Whole W) Value Kind
  plain_language = record (language world place) { call = λ c a. call_of c (given_of a) }
