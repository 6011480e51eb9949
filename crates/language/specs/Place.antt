-- What only one place has (a module, a `BUILD` file, an implementation): its own work beside the
-- state of an evaluation, its calls, and what its targets and objects show. (docs/PROFILE.md,
-- "Fields" and "Rules of all calls"; this project's own.)
use Rattle.std.specs.Prelude.{ℕ, Bool, List, Result, Ok, Err}
use Rattle.leaves.specs.declared.leaf.Leaf.{Leaf}
use Rattle.values.specs.declared.value.Value.{Value}
use Rattle.ticks.specs.declared.ticks.Kind.{Kind}
use Rattle.operations.specs.declared.state.State.{State}
use Rattle.operations.specs.States.{Op}
use Rattle.operations.specs.Arguments.{Given}
pub use Rattle.language.specs.declared.whole.Whole.{Whole}

-- what is done with the state of an evaluation and the work of its place: an answer and both after
-- it, or the kind of the fault
abbrev pub Does : Type 0 → Type 0 → Type 0
Does W A = Whole W → Result (A × Whole W) Kind

-- what a place adds to the language, for what it works on (`W`)
pub record Place (W : Type 0) : Type 0 where
  -- a call of `provider` or `rule`, or of a rule
  pub call : Leaf → Given → Does W Value
  -- whether an object has a method of this name, and a call of it: of `attr` and of `ctx.actions`
  pub has_method : Leaf → List ℕ → Bool
  pub method : Leaf → List ℕ → Given → Does W Value
  -- a field of a target or of an object
  pub field : Leaf → List ℕ → Whole W → Result Value Kind
  -- `t[P]` and `P in t` of a target
  pub item : ℕ → Value → Whole W → Result Value Kind
  pub offers : ℕ → Value → Whole W → Result Bool Kind

module _ {W : Type 0} where
  -- what an operation did to the state, with the work of the place beside it
  abbrev pub with_work : {A : Type 0} → W → Result (A × State) Kind → Result (A × Whole W) Kind
  with_work w (Ok p) = Ok (p.0, record { state = p.1; work = w })
  with_work w (Err k) = Err k

  -- what was done to the work of the place, with the state as it was
  abbrev pub with_state : {A : Type 0} → Whole W → Result (A × W) Kind
      → Result (A × Whole W) Kind
  with_state w (Ok p) = Ok (p.0, record w { work = p.1 })
  with_state w (Err k) = Err k

  -- an operation of the language leaves the work of the place as it is
  abbrev pub of_state : {A : Type 0} → Op A → Does W A
  of_state f w = with_work w.work (f w.state)

  -- what is only read changes neither the state nor the work
  abbrev pub kept : {A : Type 0} → Result A Kind → Does W A
  kept (Ok a) w = Ok (a, w)
  kept (Err k) w = Err k
