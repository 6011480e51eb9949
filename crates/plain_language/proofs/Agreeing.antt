-- Each operation of the language does the same by plain listings, and so does each call and each top level.
use Rattle.std.proofs.Common.{◌≡◌, ℕ, List, Option, Some, None, refl, ap}
use Rattle.meaning.specs.Operations as meant
use Rattle.values.specs.Shape.{shape}
use Rattle.values.specs.declared.value.Value.{Value}
use Rattle.operations.specs.Arguments.{Given}
use Rattle.operations.specs.Fields.{shape_method}
use Rattle.operations.specs.Names.{Linked}
use Rattle.operations.specs.declared.method.Method.{Method}
use Rattle.language.specs.Language.{given_of, language}
use Rattle.language.specs.Language as usual
use Rattle.language.specs.Place.{Place, with_work}
use Rattle.language.specs.declared.whole.Whole.{Whole}
use Rattle.keeping.specs.Kept.{good_callee}
use Rattle.agreeing.proofs.Calls.{calls_agree, top_levels_agree}
use Rattle.one_tree.specs.Found.{Set}
use Rattle.holding.specs.Held.{Seen, IsSeen, WholeHolds, held}
use Rattle.holding.proofs.Assembled.{operations_keep}
use Rattle.plain_language.specs.Language.{method_or_place, call_of, plain_language}
use Rattle.plain_language.specs.Laws.{OperationsArePlain, CallsArePlain, TopLevelsArePlain}
use Rattle.plain_language.proofs.Methods.{method_same}

module _ {W : Type 0} (owner : List ℕ) (base : List Set) (in_work : W → List Set) where
  module _ (world : Linked) (place : Place W) (k : Seen owner base) (w : Whole W) (holds : WholeHolds in_work k w) where
    method_or_place_same : (m : Option Method) (v : Value) (x : List ℕ) (g : Given) → IsSeen k v
        → usual.method_or_place world place m v x g w ≡ method_or_place world place m v x g w
    method_or_place_same (Some m) v x g i = ap (with_work w.work) (method_same k w.state holds.state m v g i)
    method_or_place_same None v x g i = refl

    call_same : (c : meant.Callee Value) (g : Given) → good_callee (held owner base in_work) k c
        → usual.call_of world place c g w ≡ call_of world place c g w
    call_same (meant.plain v) g i = refl
    call_same (meant.method v x) g i = method_or_place_same (shape_method (shape w.state.heap v) x) v x g i

  pub operations_are_plain : OperationsArePlain owner base in_work
  operations_are_plain world place = record {
    refusal = λ x. refl;
    number = λ n. refl;
    string = λ t. refl;
    none = refl;
    predeclared = λ p. refl;
    truth = λ k a s i hs. refl;
    tick = λ k s hs. refl;
    binary = λ k o a b s i j hs. refl;
    sign = λ k o a s i hs. refl;
    increase = λ k a b s i j hs. refl;
    field = λ k a x s i hs. refl;
    item = λ k a b s i j hs. refl;
    set_item = λ k a b c s i j l hs. refl;
    new_list = λ k vs s i hs. refl;
    new_tuple = λ k vs s i hs. refl;
    collect = λ k a b s i j hs. refl;
    new_dict = λ k s hs. refl;
    enter = λ k a b c s i j l hs. refl;
    keep = λ k a b c s i j l hs. refl;
    begin = λ k a s i hs. refl;
    end = λ k a s i hs. refl;
    parts = λ k a s i hs. refl;
    global = λ k f n s hs. refl;
    set_global = λ k f n a s i hs. refl;
    set_loaded = λ k f n a s i hs. refl;
    loaded = λ k f t x s hs. refl;
    define = λ k f x vs s i hs. refl;
    defaults = λ k f s hs. refl;
    function = λ a. refl;
    find = λ k a x s i hs. refl;
    call = λ k g a s i j hs. call_same world place k s hs g (given_of a) i;
  }

  pub calls_are_plain : CallsArePlain owner base in_work
  calls_are_plain world place files f given k s linked keeps good holds =
      calls_agree (held owner base in_work) (language world place) (plain_language world place) files f given k s
      (operations_keep owner base in_work world place linked keeps) (operations_are_plain world place) good holds

  pub top_levels_are_plain : TopLevelsArePlain owner base in_work
  top_levels_are_plain world place files file k s linked keeps holds =
      top_levels_agree (held owner base in_work) (language world place) (plain_language world place) files file k s
      (operations_keep owner base in_work world place linked keeps) (operations_are_plain world place) holds
