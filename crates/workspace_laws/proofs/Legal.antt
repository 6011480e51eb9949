-- Labels that are read from texts are legal; so are those of attributes, rules and targets that are made of them.
use Rattle.std.proofs.Common.{◌≡◌, ◌||◌, ℕ, zero, suc, Bool, true, false, List, [], ◌∷◌, ◌++◌, slice_get, Option, Some, None, Result, Ok, Err, refl, if◌then◌else◌}
use Rattle.std.specs.Prelude.{option_map, option_and_then, unwrap_or, codes, bytes_eq}
use Rattle.std.specs.List.{AllByRecursion}
use Rattle.values.specs.Shape.{Shape, key, atom, items, entries, shape}
use Rattle.values.specs.declared.cells.Cell.{Cell}
use Rattle.keys.specs.declared.key.Key.{Key}
use Rattle.keys.specs.declared.key.Key.TheVariants as index
use Rattle.leaves.specs.declared.leaf.AttributeKind.{AttributeKind}
use Rattle.leaves.specs.declared.leaf.AttributeKind.TheVariants as kind
use Rattle.leaves.specs.declared.leaf.AttributeRef.{AttributeRef}
use Rattle.leaves.specs.declared.leaf.FunctionRef.{FunctionRef}
use Rattle.leaves.specs.declared.leaf.Leaf.TheVariants as plain
use Rattle.leaves.specs.declared.leaf.Provider.{Provider}
use Rattle.ticks.specs.Ticking.{Ticking, then_on}
use Rattle.ticks.specs.declared.ticks.Kind.{Kind}
use Rattle.ticks.specs.declared.ticks.Kind.TheVariants as fault
use Rattle.values.specs.declared.value.Value.{Value}
use Rattle.operations.specs.Arguments.{Given, Bound, bound}
use Rattle.operations.specs.Reading.{string_in}
use Rattle.operations.specs.States.{Doing, then_give, with_ticks}
use Rattle.operations.specs.declared.state.State.{State}
use Rattle.workspace.specs.Labels.{LabelParts, is_label, label_of, label_parts, legal_label}
use Rattle.targets.specs.Attributes.{are_attributes, default_of, default_of_kind, labels_in}
use Rattle.targets.specs.RuleCalls.{after_freezing, declares, each_of, fits, frozen_given, given_as, given_or_default, has_declared, is_allowed, label_from, label_in, repeats_given, typed, typed_call, value_for}
use Rattle.targets.specs.TextDicts.{text_entry}
use Rattle.targets.specs.declared.attributes.AllowFiles.{AllowFiles}
use Rattle.targets.specs.declared.attributes.Attribute.{Attribute}
use Rattle.targets.specs.declared.attributes.AttributeValue.{AttributeValue}
use Rattle.targets.specs.declared.attributes.AttributeValue.TheVariants as has
use Rattle.targets.specs.declared.attributes.NamedAttribute.{NamedAttribute}
use Rattle.targets.specs.declared.attributes.Rule.{Rule}
use Rattle.targets.specs.declared.target.Target.{Target}
use Rattle.declaring.specs.AttributeCalls.{allow_files_in, attribute_declared, attribute_in, attribute_of, attribute_parameters, default_in, default_typed, mandatory_in, named, new_attribute, providers_in, values_in, whole_label_in}
use Rattle.declaring.specs.NewNames.{may_be_doc, name_in}
use Rattle.declaring.specs.ProviderCalls.{fields_in, provider_declared, provider_with}
use Rattle.declaring.specs.RuleMaking.{attribute_entry, attributes_in, attributes_shown, declaration, declaration_in, function_in, if_attributes, named_attribute, reference_in, rule_declared, rule_with}
use Rattle.targets.specs.declared.declarations.Declarations.{Declarations}
use Rattle.holding.proofs.Steps.{IfGiven, IfSome, either}

-- ---- what is there, if something is

module _ {A B : Type 0} (P : A → Type 0) (Q : B → Type 0) where
  pub mapped : (f : A → B) → ((a : A) → P a → Q (f a)) → (o : Option A) → IfSome P o → IfSome Q (option_map f o)
  mapped f g (Some a) h = g a h
  mapped f g None h = tt

  pub chained : (f : A → Option B) → ((a : A) → P a → IfSome Q (f a)) → (o : Option A) → IfSome P o → IfSome Q (option_and_then f o)
  chained f g (Some a) h = g a h
  chained f g None h = tt

  -- each of a list, if none is missing
  pub each : (f : A → Option B) → ((a : A) → P a → IfSome Q (f a)) → (xs : List A) → AllByRecursion P xs
      → IfSome (AllByRecursion Q) (each_of f xs)
  each f g [] h = tt
  each f g (x ∷ xs) h = go (f x) (g x h.0) (each_of f xs) (each f g xs h.1)
    where
      go : (o : Option B) → IfSome Q o → (os : Option (List B)) → IfSome (AllByRecursion Q) os
          → IfSome (AllByRecursion Q) (option_and_then (λ y. option_map (λ ys. y ∷ ys) os) o)
      go (Some y) i (Some ys) j = (i, j)
      go (Some y) i None j = tt
      go None i os j = tt

abbrev Any : {A : Type 0} → A → Type 0
Any a = Unit {0}

any : {A : Type 0} (o : Option A) → IfSome Any o
any (Some a) = tt
any None = tt

all_any : {A : Type 0} (xs : List A) → AllByRecursion Any xs
all_any [] = tt
all_any (x ∷ xs) = (tt, all_any xs)

module _ {A : Type 0} (P : A → Type 0) where
  pub joined : (xs ys : List A) → AllByRecursion P xs → AllByRecursion P ys → AllByRecursion P (xs ++ ys)
  joined [] ys h i = i
  joined (x ∷ xs) ys h i = (h.0, joined xs ys h.1 i)

  pub one_more : (xs : List A) (x : A) → AllByRecursion P xs → P x → AllByRecursion P (xs ++ x ∷ [])
  one_more xs x h p = joined xs (x ∷ []) h (p, tt)

  pub at_place : (xs : List A) (n : ℕ) → AllByRecursion P xs → IfSome P (slice_get xs n)
  at_place [] n h = tt
  at_place (x ∷ xs) zero h = h.0
  at_place (x ∷ xs) (suc n) h = at_place xs n h.1

-- ---- labels

abbrev pub IsLegal : LabelParts → Type 0
IsLegal l = is_label l ≡ true

legal_if : (l : LabelParts) → IfSome IsLegal (legal_label l)
legal_if l = go (is_label l) refl
  where
    go : (b : Bool) → is_label l ≡ b → IfSome IsLegal (if b then Some l else None)
    go true e = e
    go false e = tt

pub label_legal : (t : List ℕ) (p : Option (List ℕ)) → IfSome IsLegal (label_of t p)
label_legal t p = chained Any IsLegal legal_label (λ l i. legal_if l) (label_parts t p) (any (label_parts t p))

-- ---- values of attributes

abbrev pub ValueLegal : AttributeValue → Type 0
ValueLegal v = AllByRecursion IsLegal (labels_in v)

abbrev pub AttributeLegal : Attribute → Type 0
AttributeLegal a = ValueLegal (default_of a)

abbrev pub NamedLegal : NamedAttribute → Type 0
NamedLegal n = AttributeLegal n.attribute

abbrev pub RuleLegal : Rule → Type 0
RuleLegal r = AllByRecursion NamedLegal r.attributes

abbrev pub TargetLegal : Target → Type 0
TargetLegal t = AllByRecursion ValueLegal t.values

-- a value without labels, if there is one
bare : {A : Type 0} (f : A → AttributeValue) → ((a : A) → ValueLegal (f a)) → (o : Option A) → IfSome ValueLegal (option_map f o)
bare f g o = mapped Any ValueLegal f (λ a i. g a) o (any o)

one_label : (t : List ℕ) (p : Option (List ℕ)) → IfSome ValueLegal (option_map (λ l. has.Label (Some l)) (label_of t p))
one_label t p = mapped IsLegal ValueLegal (λ l. has.Label (Some l)) (λ l h. (h, tt)) (label_of t p) (label_legal t p)

some_labels : (f : Value → Option LabelParts) → ((v : Value) → IfSome IsLegal (f v)) → (vs : List Value)
    → IfSome ValueLegal (option_map has.Labels (each_of f vs))
some_labels f g vs = mapped (AllByRecursion IsLegal) ValueLegal has.Labels (λ ls h. h) (each_of f vs) (each Any IsLegal f (λ v i. g v) vs (all_any vs))

shown_legal : (p : Option (List ℕ)) (s : Shape) → IfSome IsLegal (option_and_then (λ t. label_of t p) (string_in s))
shown_legal p s = chained Any IsLegal (λ t. label_of t p) (λ t i. label_legal t p) (string_in s) (any (string_in s))

-- ---- what a module declares

-- a default that may be missing
abbrev DefaultLegal : AttributeKind → Option AttributeValue → Type 0
DefaultLegal k o = ValueLegal (unwrap_or o (default_of_kind k))

kind_legal : (k : AttributeKind) → ValueLegal (default_of_kind k)
kind_legal kind.String = tt
kind_legal kind.Int = tt
kind_legal kind.Bool = tt
kind_legal kind.StringList = tt
kind_legal kind.StringDict = tt
kind_legal kind.Label = tt
kind_legal kind.LabelList = tt

module _ (h : List Cell) where
  default_shown : (k : AttributeKind) (s : Shape) → IfSome ValueLegal (default_typed h k s)
  default_shown kind.String (key (index.Text t)) = tt
  default_shown kind.Int (key (index.Number n)) = tt
  default_shown kind.Bool (key (index.Truth b)) = tt
  default_shown kind.StringList (items true xs) = bare has.Strings (λ ts. tt) (each_of (λ v. string_in (shape h v)) xs)
  default_shown kind.StringDict (entries es) = bare has.StringDict (λ ds. tt) (each_of (text_entry h) es)
  default_shown kind.Label (atom plain.None) = tt
  default_shown kind.Label (key (index.Text t)) = one_label t None
  default_shown kind.LabelList (items j xs) = some_labels (λ v. whole_label_in (shape h v)) (λ v. shown_legal None (shape h v)) xs
  default_shown _ _ = tt

  default_legal : (k : AttributeKind) (o : Option Value) → IfSome (DefaultLegal k) (default_in h k o)
  default_legal k None = kind_legal k
  default_legal k (Some v) = mapped ValueLegal (DefaultLegal k) Some (λ d i. i) (default_typed h k (shape h v)) (default_shown k (shape h v))

attribute_legal : (k : AttributeKind) (b : Bool) (d : Option (Option AttributeValue)) (m : Option Bool) (ks : Option (List Key))
    (ps : Option (List (List Provider))) (fs : Option AllowFiles) → IfSome (DefaultLegal k) d
    → IfSome AttributeLegal (attribute_of k b d m ks ps fs)
attribute_legal k true (Some d) (Some m) (Some ks) (Some ps) (Some fs) i = i
attribute_legal k _ _ _ _ _ _ i = tt

abbrev pub DeclarationsLegal : Declarations → Type 0
DeclarationsLegal d = AllByRecursion AttributeLegal d.attributes × AllByRecursion RuleLegal d.rules

-- the declarations after a call that made one
abbrev MadeLegal : Result (Value × Declarations) Kind → Type 0
MadeLegal = IfGiven (λ p. DeclarationsLegal p.1)

module _ (s : State) (d : Declarations) (legal : DeclarationsLegal d) where
  declared_legal : (o : Option Attribute) → IfSome AttributeLegal o → MadeLegal (attribute_declared s d o)
  declared_legal (Some a) i = (one_more AttributeLegal d.attributes a legal.0 i, legal.1)
  declared_legal None i = tt

  pub new_attribute_legal : (k : AttributeKind) (g : Given) → MadeLegal (new_attribute k g s d)
  new_attribute_legal k g = go (bound (attribute_parameters k) g)
    where
      made : MadeLegal (attribute_declared s d (attribute_in s.heap k g))
      made =
          declared_legal (attribute_in s.heap k g)
          (attribute_legal k (may_be_doc s.heap (named g (codes "doc"))) (default_in s.heap k (named g (codes "default")))
          (mandatory_in s.heap (named g (codes "mandatory"))) (values_in s.heap k (named g (codes "values")))
          (providers_in s.heap (named g (codes "providers"))) (allow_files_in s.heap (named g (codes "allow_files")))
          (default_legal s.heap k (named g (codes "default"))))

      go : (r : Result Bound Kind) → MadeLegal (then_give r (λ os. attribute_declared s d (attribute_in s.heap k g)))
      go (Ok os) = made
      go (Err e) = tt

  provider_legal : (b : Bool) (o : Option (List (List ℕ))) → MadeLegal (provider_declared s d b o)
  provider_legal true (Some fields) = legal
  provider_legal true None = tt
  provider_legal false o = tt

  pub new_provider_legal : (r : Result Bound Kind) → MadeLegal (provider_with s d r)
  new_provider_legal (Ok (doc ∷ Some fields ∷ [])) = provider_legal (may_be_doc s.heap doc) (fields_in s.heap (shape s.heap fields))
  new_provider_legal (Ok _) = tt
  new_provider_legal (Err k) = tt

  module _ (linked : List ℕ → ℕ → Option Attribute) (others : (p : List ℕ) (n : ℕ) → IfSome AttributeLegal (linked p n)) where
    declaration_legal : (a : AttributeRef) → IfSome AttributeLegal (declaration linked s d a)
    declaration_legal a = go (bytes_eq a.path s.owner)
      where
        go : (b : Bool) → IfSome AttributeLegal (if b then slice_get d.attributes a.number else linked a.path a.number)
        go true = at_place AttributeLegal d.attributes a.number legal.0
        go false = others a.path a.number

    named_legal : (x : Option (List ℕ)) (o : Option Attribute) → IfSome AttributeLegal o → IfSome NamedLegal (named_attribute linked s d x o)
    named_legal (Some x) (Some a) i = i
    named_legal (Some x) None i = tt
    named_legal None o i = tt

    entry_legal : (e : Key × Value) → IfSome NamedLegal (attribute_entry linked s d e)
    entry_legal e =
        let v = shape s.heap e.1 in
        named_legal (name_in (key e.0)) (declaration_in linked s d v)
        (chained Any AttributeLegal (declaration linked s d) (λ a i. declaration_legal a) (reference_in v) (any (reference_in v)))

    kept_legal : (named : List NamedAttribute) → AllByRecursion NamedLegal named → IfSome (AllByRecursion NamedLegal) (if_attributes linked s d named)
    kept_legal named i = either (IfSome (AllByRecursion NamedLegal)) (are_attributes named) (Some named) None i tt

    shown_attributes_legal : (v : Shape) → IfSome (AllByRecursion NamedLegal) (attributes_shown linked s d v)
    shown_attributes_legal (entries es) =
        let f = attribute_entry linked s d in
        chained (AllByRecursion NamedLegal) (AllByRecursion NamedLegal) (if_attributes linked s d) kept_legal (each_of f es)
        (each Any NamedLegal f (λ e i. entry_legal e) es (all_any es))
    shown_attributes_legal _ = tt

    attributes_legal : (o : Option Value) → IfSome (AllByRecursion NamedLegal) (attributes_in linked s d o)
    attributes_legal None = tt
    attributes_legal (Some v) = shown_attributes_legal (shape s.heap v)

    rule_legal : (b : Bool) (f : Option FunctionRef) (o : Option (List NamedAttribute)) → IfSome (AllByRecursion NamedLegal) o
        → MadeLegal (rule_declared linked s d b f o)
    rule_legal true (Some f) (Some named) i = (legal.0, one_more RuleLegal d.rules (record { implementation = f; attributes = named }) legal.1 i)
    rule_legal true (Some f) None i = tt
    rule_legal true None o i = tt
    rule_legal false f o i = tt

    pub new_rule_legal : (r : Result Bound Kind) → MadeLegal (rule_with linked s d r)
    new_rule_legal (Ok (Some f ∷ attrs ∷ doc ∷ [])) =
        rule_legal (may_be_doc s.heap doc) (function_in (shape s.heap f)) (attributes_in linked s d attrs) (attributes_legal attrs)
    new_rule_legal (Ok _) = tt
    new_rule_legal (Err k) = tt

-- ---- what a call of a rule declares

allowed_legal : (b : Bool) (k : Key) → IfSome ValueLegal (if b then Some (has.Key k) else None)
allowed_legal true k = tt
allowed_legal false k = tt

module _ (h : List Cell) («package» : List ℕ) where
  typed_legal : (k : AttributeKind) (ks : List Key) (s : Shape) → IfSome ValueLegal (typed h «package» k ks s)
  typed_legal kind.String ks (key (index.Text t)) = allowed_legal (is_allowed ks (index.Text t)) (index.Text t)
  typed_legal kind.Int ks (key (index.Number n)) = allowed_legal (is_allowed ks (index.Number n)) (index.Number n)
  typed_legal kind.Bool ks (key (index.Truth b)) = tt
  typed_legal kind.StringList ks (items true xs) = bare has.Strings (λ ts. tt) (each_of (λ v. string_in (shape h v)) xs)
  typed_legal kind.StringDict ks (entries es) = bare has.StringDict (λ ds. tt) (each_of (text_entry h) es)
  typed_legal kind.Label ks (key (index.Text t)) = one_label t (Some «package»)
  typed_legal kind.LabelList ks (items true xs) =
      some_labels (λ v. label_in h «package» (shape h v)) (λ v. shown_legal (Some «package») (shape h v)) xs
  typed_legal _ _ _ = tt

  given_legal : (a : Attribute) (o : Option Value) → AttributeLegal a → IfSome ValueLegal (given_or_default h «package» a o)
  given_legal a None i = i
  given_legal a (Some v) i = typed_legal a.kind a.values (shape h v)

  values_legal : (r : Rule) (g : Given) → RuleLegal r → IfSome (AllByRecursion ValueLegal) (each_of (value_for h «package» g) r.attributes)
  values_legal r g legal = each NamedLegal ValueLegal (value_for h «package» g) (λ n i. given_legal n.attribute (given_as g n.name) i) r.attributes legal

-- the target of a call, if it declares one
abbrev CalledLegal : Doing Target → Type 0
CalledLegal = IfGiven (λ p. TargetLegal p.0)

module _ (s : State) where
  frozen_legal : (t : Target) (x : Ticking (Unit {0})) → TargetLegal t → CalledLegal (with_ticks s (then_on x (λ u d. Ok (t, d))))
  frozen_legal t (Ok p) i = i
  frozen_legal t (Err e) i = tt

  call_legal : (r : Rule) (ts : List Target) (g : Given) (l : Option LabelParts) (vs : Option (List AttributeValue))
      → IfSome (AllByRecursion ValueLegal) vs → CalledLegal (typed_call r ts g l vs s)
  call_legal r ts g (Some l) (Some vs) i =
      let t : Target = record { label = l; rule = r; values = vs } in
      either CalledLegal (repeats_given r.attributes g vs || has_declared ts l) (Err fault.Key) (after_freezing t r g s) tt
      (frozen_legal t (frozen_given r g s.heap s.ticks) i)
  call_legal r ts g (Some l) None i = tt
  call_legal r ts g None vs i = tt

  pub declares_legal : («package» : List ℕ) (ts : List Target) (r : Rule) (g : Given) → RuleLegal r → CalledLegal (declares «package» ts r g s)
  declares_legal «package» ts r g legal =
      let l = label_from s.heap «package» (given_as g (codes "name")) in
      let vs = each_of (value_for s.heap «package» g) r.attributes in
      either CalledLegal (fits r g) (typed_call r ts g l vs s) (Err fault.Arity)
      (call_legal r ts g l vs (values_legal s.heap «package» r g legal)) tt
