-- What a `BUILD` file has while it runs: a call of a rule declares a target of its package; calls
-- of `provider`, `rule` and `attr` are `place` (docs/PROFILE.md, "Rules of all calls").
use Rattle.std.specs.Prelude.{Option, Some, None, Result, Ok, Err}
use Rattle.leaves.specs.declared.leaf.AttributeKind.{AttributeKind}
use Rattle.leaves.specs.declared.leaf.BuiltIn.{BuiltIn}
use Rattle.leaves.specs.declared.leaf.BuiltIn.TheVariants as built_in
use Rattle.leaves.specs.declared.leaf.Leaf.{Leaf}
use Rattle.leaves.specs.declared.leaf.Leaf.TheVariants as plain
use Rattle.leaves.specs.declared.leaf.MadeId.{MadeId}
use Rattle.ticks.specs.declared.ticks.Kind.{Kind}
use Rattle.ticks.specs.declared.ticks.Kind.TheVariants as fault
use Rattle.values.specs.declared.value.Value.{Value}
use Rattle.operations.specs.Arguments.{Given}
use Rattle.operations.specs.Making.{none}
use Rattle.operations.specs.States.{Doing}
use Rattle.language.specs.Place.{Does, Place}
use Rattle.language.specs.declared.whole.Whole.{Whole}
use Rattle.targets.specs.declared.attributes.Rule.{Rule}
use Rattle.rule_calls.specs.Packages.{Declared}
use Rattle.rule_calls.specs.Called.{call}
use Rattle.file_places.specs.Methods.{declared_kind, has_method}

-- a call of a rule gives None
abbrev pub giving_none : Doing Declared → Result (Value × Whole Declared) Kind
giving_none (Ok p) = Ok (none, record { state = p.1; work = p.0 })
giving_none (Err k) = Err k

-- a call of the rule of a number, where there is one: a target is declared
abbrev pub rule_called : Option Rule → Given → Does Declared Value
rule_called (Some r) g w = giving_none (call w.work r g w.state)
rule_called None g w = Err fault.Wrong

-- `provider` and `rule` are called by a module alone: here they are `place`
abbrev pub refused_call : BuiltIn → Given → Does Declared Value
refused_call built_in.Provider g w = Err fault.Place
refused_call built_in.Rule g w = Err fault.Place
refused_call _ g w = Err fault.Wrong

-- and so are the methods of `attr`; a name that is none of them is `name`
abbrev pub refused_method : Option AttributeKind → Given → Does Declared Value
refused_method (Some k) g w = Err fault.Place
refused_method None g w = Err fault.Name

-- the rules of the modules that are linked, by numbers
module _ (rules : MadeId → Option Rule) where
  -- a call that the language leaves to the place: a rule declares a target, `provider` and `rule`
  -- are refused, and what else it may be is `type`
  abbrev pub build_call : Leaf → Given → Does Declared Value
  build_call (plain.BuiltIn b) g w = refused_call b g w
  build_call (plain.Rule r) g w = rule_called (rules r.id) g w
  build_call _ g w = Err fault.Wrong

  -- `attr` has no fields, and a `BUILD` file sees no targets as values
  abbrev pub build_place : Place Declared
  build_place = record {
    call = build_call;
    has_method = has_method;
    method = λ l x. refused_method (declared_kind l x);
    field = λ l x w. Err fault.Name;
    item = λ n v w. Err fault.Wrong;
    offers = λ n v w. Err fault.Wrong;
  }
