-- What a call that declares a target comes to.
use Rattle.std.proofs.Common.{◌≡◌, ◌∙◌, ℕ, suc, Bool, true, false, ◌||◌, List, [], ◌∷◌, Option, Some, None, Ok, Err, length, ap, sym, refl}
use Rattle.std.specs.Prelude.{if◌then◌else◌, option_and_then, option_map, codes}
use Rattle.ticks.specs.Ticking.{Ticking, then_on}
use Rattle.values.specs.Shape.{shape}
use Rattle.ticks.specs.declared.ticks.Kind.TheVariants.{Arity, Key as key_fault}
use Rattle.values.specs.declared.value.Value.{Value}
use Rattle.operations.specs.Arguments.{Given}
use Rattle.operations.specs.Reading.{string_in}
use Rattle.operations.specs.States.{with_ticks}
use Rattle.operations.specs.declared.state.State.{State}
use Rattle.workspace.specs.Labels.{LabelParts, is_label, legal_label}
use Rattle.targets.specs.RuleCalls.{fits, each_of, value_for, label_from, given_as, repeats_given, has_declared, frozen_given, after_freezing, typed_call, build_file, rule_call}
use Rattle.targets.specs.Laws.{IsDeclared}
use Rattle.targets.specs.declared.attributes.AttributeValue.{AttributeValue}
use Rattle.targets.specs.declared.attributes.Rule.{Rule}
use Rattle.targets.specs.declared.target.Target.{Target}

-- as many as there were
pub each_length : {A B : Type 0} (f : A → Option B) (xs : List A) (ys : List B) → each_of f xs ≡ Some ys → length ys ≡ length xs
each_length f [] [] e = refl
each_length f [] (y ∷ ys) e = absurd (cc)
each_length {A} {B} f (x ∷ xs) ys e = at_first (f x) (λ zs. each_length f xs zs) e
  where
    at_rest : (o : Option (List B)) (y : B) → ((zs : List B) → o ≡ Some zs → length zs ≡ length xs) → option_map (λ zs. y ∷ zs) o ≡ Some ys → length ys ≡ length (x ∷ xs)
    at_rest None y k h = absurd (cc)
    at_rest (Some zs) y k h =
        let whole : y ∷ zs ≡ ys = cc in
        sym (ap length whole) ∙ ap (λ n. suc n) (k zs refl)

    at_first : (o : Option B) → ((zs : List B) → each_of f xs ≡ Some zs → length zs ≡ length xs) → option_and_then (λ y. option_map (λ zs. y ∷ zs) (each_of f xs)) o ≡ Some ys → length ys ≡ length (x ∷ xs)
    at_first None k h = absurd (cc)
    at_first (Some y) k h = at_rest (each_of f xs) y k h

module _ («package» : List ℕ) (before : List Target) (r : Rule) (g : Given) (s : State) (t : Target) (after : State) where
  -- what the label of a name is
  named_label : (v : Option Value) (l : LabelParts) → label_from s.heap «package» v ≡ Some l → (l.«package» ≡ «package») × (is_label l ≡ true)
  named_label None l e = absurd (cc)
  named_label (Some v) l e = at_text (string_in (shape s.heap v)) e
    where
      at_text : (o : Option (List ℕ)) → option_and_then (λ n. legal_label (record { «package» = «package»; name = n })) o ≡ Some l → (l.«package» ≡ «package») × (is_label l ≡ true)
      at_text None h = absurd (cc)
      at_text (Some n) h = at_test (is_label m) refl h
        where
          m : LabelParts
          m = record { «package» = «package»; name = n }

          at_test : (b : Bool) → is_label m ≡ b → (if b then Some m else None) ≡ Some l → (l.«package» ≡ «package») × (is_label l ≡ true)
          at_test true is k = let same : m ≡ l = cc in (sym (ap (λ (x : LabelParts). x.«package») same), sym (ap is_label same) ∙ is)
          at_test false is k = absurd (cc)

  -- freezing changes ticks alone
  frozen : (x : Target) → after_freezing x r g s ≡ Ok (t, after) → (t ≡ x) × (after.heap ≡ s.heap) × (after.depsets ≡ s.depsets)
  frozen x e = at (frozen_given r g s.heap s.ticks) e
    where
      at : (o : Ticking (Unit {0})) → with_ticks s (then_on o (λ u d. Ok (x, d))) ≡ Ok (t, after) → (t ≡ x) × (after.heap ≡ s.heap) × (after.depsets ≡ s.depsets)
      at (Err k) h = absurd (cc)
      at (Ok p) h =
          let pair : (x, record s { ticks = p.1 }) ≡ (t, after) = cc in
          (sym (ap (λ (q : Target × State). q.0) pair), sym (ap (λ (q : Target × State). q.1.heap) pair), sym (ap (λ (q : Target × State). q.1.depsets) pair))

  typed : (v : Option Value) (l : Option LabelParts) (vs : Option (List AttributeValue)) → label_from s.heap «package» v ≡ l → each_of (value_for s.heap «package» g) r.attributes ≡ vs
      → typed_call r before g l vs s ≡ Ok (t, after) → IsDeclared «package» before r s t after
  typed v None vs is are e = absurd (cc)
  typed v (Some l) None is are e = absurd (cc)
  typed v (Some l) (Some vs) is are e = at (repeats_given r.attributes g vs) (has_declared before l) refl e
    where
      x : Target
      x = record { label = l; rule = r; values = vs }

      at : (b c : Bool) → has_declared before l ≡ c → (if b || c then Err key_fault else after_freezing x r g s) ≡ Ok (t, after) → IsDeclared «package» before r s t after
      at true c new h = absurd (cc)
      at false true new h = absurd (cc)
      at false false new h =
          let f = frozen x h in
          let n = named_label v l is in
          record {
            here = ap (λ (y : Target). y.label.«package») f.0 ∙ n.0;
            legal = ap (λ (y : Target). is_label y.label) f.0 ∙ n.1;
            new = ap (λ (y : Target). has_declared before y.label) f.0 ∙ new;
            rule = ap (λ (y : Target). y.rule) f.0;
            values = ap (λ (y : Target). length y.values) f.0 ∙ each_length (value_for s.heap «package» g) r.attributes vs are;
            heap = f.1;
            depsets = f.2;
          }

  pub is_declared : rule_call (build_file «package» before) r g s ≡ Ok (t, after) → IsDeclared «package» before r s t after
  is_declared e = at (fits r g) e
    where
      v : Option Value
      v = given_as g (codes "name")

      at : (b : Bool) → (if b then typed_call r before g (label_from s.heap «package» v) (each_of (value_for s.heap «package» g) r.attributes) s else Err Arity) ≡ Ok (t, after) → IsDeclared «package» before r s t after
      at false h = absurd (cc)
      at true h = typed v (label_from s.heap «package» v) (each_of (value_for s.heap «package» g) r.attributes) refl refl h
