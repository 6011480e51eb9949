-- A call of a rule in two steps.
use Rattle.std.proofs.Common.{◌≡◌, ◌∙◌, Bool, true, false, ◌||◌, List, [], ◌∷◌, Option, Some, None, Result, Ok, Err, if◌then◌else◌, ap, sym, refl}
use Rattle.std.specs.Prelude.{codes}
use Rattle.std.specs.List.{cons_option}
use Rattle.ticks.specs.Ticking.{Count, Ticking, then_on, FaultOr}
use Rattle.values.specs.View.{FrozenTree}
use Rattle.values.specs.Visits.{all_of}
use Rattle.values.specs.declared.cells.Cell.{Cell}
use Rattle.ticks.specs.declared.ticks.Broken.{Broken}
use Rattle.ticks.specs.declared.ticks.Broken.TheVariants as broken
use Rattle.ticks.specs.declared.ticks.Kind.{Kind}
use Rattle.ticks.specs.declared.ticks.Kind.TheVariants.{Wrong, Arity, Key as key_fault}
use Rattle.ticks.specs.declared.ticks.TheConstants.{VISITED_LEVELS}
use Rattle.values.specs.declared.value.Value.{Value}
use Rattle.visits.specs.Freeze.{freeze_at}
use Rattle.operations.specs.Arguments.{Given}
use Rattle.operations.specs.Items.{or_fault}
use Rattle.operations.specs.States.{Doing, with_ticks}
use Rattle.operations.specs.declared.state.State.{State}
use Rattle.workspace.specs.Labels.{LabelParts}
use Rattle.targets.specs.RuleCalls.{given_as, given_values, label_from, value_for, each_of, repeats_given, has_declared, fits, after_freezing, typed_call, declares}
use Rattle.targets.specs.declared.attributes.AttributeValue.{AttributeValue}
use Rattle.targets.specs.declared.attributes.NamedAttribute.{NamedAttribute}
use Rattle.targets.specs.declared.attributes.Rule.{Rule}
use Rattle.targets.specs.declared.target.Target.{Target}
use Rattle.rule_calls.specs.Each.{added}
use Rattle.rule_arguments.specs.Freezing.{frozen_option, frozen_for}
use Rattle.rule_calls.specs.Packages.{Declared}
use Rattle.rule_calls.specs.Called.{target_of, target_read}
use Rattle.rule_calls.proofs.Adding.{added-each}

-- ---- the target is read

abbrev as_option : {A : Type 0} → Result A Kind → Option A
as_option (Ok x) = Some x
as_option (Err k) = None

some_of : {A : Type 0} (o : Option A) (a : A) → or_fault Wrong o ≡ Ok a → o ≡ Some a
some_of None a h = absurd (cc)
some_of (Some b) a h = ap as_option h

-- the same fault, of something else
abbrev same_fault : {A B : Type 0} → Result A Kind → Result B Kind
same_fault (Ok x) = Err Wrong
same_fault (Err k) = Err k

module _ (h : List Cell) (d : Declared) (r : Rule) (g : Given) where
  abbrev asked_label : Option LabelParts
  asked_label = label_from h d.«package» (given_as g (codes "name"))

  pub read-both : (l : LabelParts) (vs : List AttributeValue) → or_fault Wrong asked_label ≡ Ok l → added (value_for h d.«package» g) [] r.attributes ≡ Ok vs
      → target_read h d r g ≡ target_of r d.targets g (Some l) (Some vs)
  read-both l vs a b =
      let p : asked_label ≡ Some l = some_of asked_label l a in
      let q : each_of (value_for h d.«package» g) r.attributes ≡ Some vs =
      some_of (each_of (value_for h d.«package» g) r.attributes) vs (sym (added-each (value_for h d.«package» g) r.attributes) ∙ b) in
      λ i. target_of r d.targets g (p i) (q i)

  -- what is of another type is `type`, also where there is no label
  no_values : (ol : Option LabelParts) (ovs : Option (List AttributeValue)) (k : Kind) → or_fault Wrong ovs ≡ Err k → target_of r d.targets g ol ovs ≡ Err k
  no_values None None k e = ap same_fault e
  no_values (Some l) None k e = ap same_fault e
  no_values ol (Some vs) k e = absurd (cc)

  pub read-fault : (e : Broken) → FaultOr (added (value_for h d.«package» g) [] r.attributes) e → FaultOr (target_read h d r g) e
  read-fault broken.NoMemory q = tt
  read-fault (broken.Kind k) q =
      no_values asked_label (each_of (value_for h d.«package» g) r.attributes) k (sym (added-each (value_for h d.«package» g) r.attributes) ∙ q)

-- ---- what is given is frozen

abbrev spent : {A : Type 0} → Ticking A → Ticking (Unit {0})
spent r = then_on r (λ a d. Ok (tt, d))

dropped : (t : FrozenTree) (r : Ticking (List FrozenTree)) → spent r ≡ spent (then_on r (λ ts e. Ok (t ∷ ts, e)))
dropped t (Ok p) = refl
dropped t (Err k) = refl

module _ (g : Given) (h : List Cell) where
  abbrev all_frozen : List Value → Count → Ticking (List FrozenTree)
  all_frozen vs c = all_of (freeze_at VISITED_LEVELS h) vs c

  first_frozen : (rest : List NamedAttribute) (r : Ticking FrozenTree) → ((c : Count) → frozen_for rest g h c ≡ spent (all_frozen (given_values rest g) c))
      → then_on (spent r) (λ u d. frozen_for rest g h d) ≡ spent (then_on r (λ t d. then_on (all_frozen (given_values rest g) d) (λ ts e. Ok (t ∷ ts, e))))
  first_frozen rest (Err k) ih = refl
  first_frozen rest (Ok p) ih = ih p.1 ∙ dropped p.0 (all_frozen (given_values rest g) p.1)

  given_frozen : (o : Option Value) (rest : List NamedAttribute) (c : Count) → ((d : Count) → frozen_for rest g h d ≡ spent (all_frozen (given_values rest g) d))
      → then_on (frozen_option o h c) (λ u d. frozen_for rest g h d) ≡ spent (all_frozen (cons_option o (given_values rest g)) c)
  given_frozen None rest c ih = ih c
  given_frozen (Some v) rest c ih = first_frozen rest (freeze_at VISITED_LEVELS h v c) ih

  frozen-all : (named : List NamedAttribute) (c : Count) → frozen_for named g h c ≡ spent (all_frozen (given_values named g) c)
  frozen-all [] c = refl
  frozen-all (a ∷ rest) c = given_frozen (given_as g a.name) rest c (frozen-all rest)

-- ---- both

module _ (r : Rule) (ts : List Target) (g : Given) (s : State) where
  abbrev then_frozen : Result Target Kind → Doing Target
  then_frozen (Ok t) = after_freezing t r g s
  then_frozen (Err k) = Err k

  chosen : (b : Bool) (t : Target) → (if b then Err key_fault else after_freezing t r g s) ≡ then_frozen (if b then Err key_fault else Ok t)
  chosen true t = refl
  chosen false t = refl

  typed-then : (ol : Option LabelParts) (ovs : Option (List AttributeValue)) → typed_call r ts g ol ovs s ≡ then_frozen (target_of r ts g ol ovs)
  typed-then None ovs = refl
  typed-then (Some l) None = refl
  typed-then (Some l) (Some vs) = chosen (repeats_given r.attributes g vs || has_declared ts l) (record { label = l; rule = r; values = vs })

module _ (d : Declared) (r : Rule) (g : Given) (s : State) where
  abbrev If : Bool → Doing Target → Doing Target
  If b x = if b then x else Err Arity

  steps : fits r g ≡ true → declares d.«package» d.targets r g s ≡ then_frozen r d.targets g s (target_read s.heap d r g)
  steps f =
      ap (λ b. If b (typed_call r d.targets g (asked_label s.heap d r g) (each_of (value_for s.heap d.«package» g) r.attributes) s)) f
      ∙ typed-then r d.targets g s (asked_label s.heap d r g) (each_of (value_for s.heap d.«package» g) r.attributes)

  target_steps : (t : Target) → fits r g ≡ true → target_read s.heap d r g ≡ Ok t
      → declares d.«package» d.targets r g s ≡ with_ticks s (then_on (frozen_for r.attributes g s.heap s.ticks) (λ u c. Ok (t, c)))
  target_steps t f p =
      steps f ∙ ap (then_frozen r d.targets g s) p
      ∙ ap (λ (x : Ticking (Unit {0})). with_ticks s (then_on x (λ u c. Ok (t, c)))) (sym (frozen-all g s.heap r.attributes s.ticks))

  pub declares-ok : (t : Target) (c : Count) → fits r g ≡ true → target_read s.heap d r g ≡ Ok t → frozen_for r.attributes g s.heap s.ticks ≡ Ok (tt, c)
      → declares d.«package» d.targets r g s ≡ Ok (t, record s { ticks = c })
  declares-ok t c f p q = target_steps t f p ∙ ap (λ (x : Ticking (Unit {0})). with_ticks s (then_on x (λ u c. Ok (t, c)))) q

  pub declares-fault : (t : Target) (e : Broken) → fits r g ≡ true → target_read s.heap d r g ≡ Ok t → FaultOr (frozen_for r.attributes g s.heap s.ticks) e
      → FaultOr (declares d.«package» d.targets r g s) e
  declares-fault t broken.NoMemory f p q = tt
  declares-fault t (broken.Kind k) f p q = target_steps t f p ∙ ap (λ (x : Ticking (Unit {0})). with_ticks s (then_on x (λ u c. Ok (t, c)))) q
