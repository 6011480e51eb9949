-- Codes of leaves, keys and providers: a code tells any two apart, as what is kept behind a count
-- asks. (This project's own.)
use Rattle.std.specs.Prelude.{◌≡◌, ℤ, ℕ, Bool, List, Option, ◌⊎◌, refl}
use Rattle.std.specs.Coded.{Coded, coded×, coded⊎, coded_ℤ, coded_ℕ, coded_bool, coded_list}
use Rattle.std.specs.Coded.{coded_option, code_by}
use Rattle.std.proofs.Common.{inl, inr}
use base.Stored.{coded_unit}
use Rattle.depsets.specs.Rose.{Rose, coded_rose}
use Rattle.depsets.specs.Own.{Own, own_code, text_code}
use Rattle.depsets.specs.declared.element.FileRef.{FileRef}
use Rattle.leaves.specs.declared.leaf.BuiltIn.{BuiltIn}
use Rattle.leaves.specs.declared.leaf.BuiltIn.TheVariants as built_in
use Rattle.leaves.specs.declared.leaf.FunctionRef.{FunctionRef}
use Rattle.leaves.specs.declared.leaf.MadeId.{MadeId}
use Rattle.leaves.specs.declared.leaf.Provider.{Provider}
use Rattle.leaves.specs.declared.leaf.RuleRef.{RuleRef}
use Rattle.leaves.specs.declared.leaf.Exported.{Exported}
use Rattle.leaves.specs.declared.leaf.ExportName.{ExportName}
use Rattle.leaves.specs.declared.leaf.ExportName.TheVariants as export
use Rattle.leaves.specs.declared.leaf.ProviderRef.{ProviderRef}
use Rattle.leaves.specs.declared.leaf.ProviderRef.TheVariants as provider
use Rattle.leaves.specs.declared.leaf.AttributeKind.{AttributeKind}
use Rattle.leaves.specs.declared.leaf.AttributeKind.TheVariants as attribute
use Rattle.leaves.specs.declared.leaf.AttributeRef.{AttributeRef}
use Rattle.leaves.specs.declared.leaf.Object.{Object}
use Rattle.leaves.specs.declared.leaf.Object.TheVariants as object
use Rattle.leaves.specs.declared.leaf.Leaf.{Leaf}
use Rattle.leaves.specs.declared.leaf.Leaf.TheVariants as plain
use Rattle.keys.specs.declared.key.Key.{Key}
use Rattle.keys.specs.declared.key.Key.TheVariants as key

-- the code of Files
abbrev pub file_code : Coded FileRef
file_code =
    code_by (List ℕ × List ℕ) (coded× text_code text_code) (λ f. (f.path, f.owner))
    (λ p. record { path = p.0; owner = p.1 }) (λ _. refl)

-- the code of the numbers of what a module made
abbrev pub made_code : Coded MadeId
made_code =
    code_by (ℕ × ℕ) (coded× coded_ℕ coded_ℕ) (λ m. (m.«module», m.number))
    (λ p. record { «module» = p.0; number = p.1 }) (λ _. refl)

-- the code of functions
abbrev pub function_code : Coded FunctionRef
function_code =
    code_by (MadeId × (List ℕ × List ℕ)) (coded× made_code (coded× text_code text_code))
    (λ f. (f.id, (f.path, f.name)))
    (λ p. record { id = p.0; path = p.1.0; name = p.1.1 }) (λ _. refl)

-- what a provider or a rule is called, as plain data, by which it gets a code
abbrev pub ExportNameSum : Type 0
ExportNameSum = (List ℕ) ⊎ ℕ

-- its plain data
abbrev pub split_export_name : ExportName → ExportNameSum
split_export_name (export.Global x) = inl x
split_export_name (export.Making x) = inr x

-- what such data makes
abbrev pub join_export_name : ExportNameSum → ExportName
join_export_name (inl x) = export.Global x
join_export_name (inr x) = export.Making x

-- No two have the same plain data.
pub join_export_name-split_export_name : (x : ExportName)
    → join_export_name (split_export_name x) ≡ x
join_export_name-split_export_name (export.Global x) = refl
join_export_name-split_export_name (export.Making x) = refl

-- the code of what providers and rules are called
abbrev pub export_name_code : Coded ExportName
export_name_code =
    code_by ExportNameSum
    (coded⊎ text_code coded_ℕ)
    split_export_name join_export_name join_export_name-split_export_name

-- the code of how a provider or a rule is printed
abbrev pub exported_code : Coded Exported
exported_code =
    code_by (List ℕ × ExportName) (coded× text_code export_name_code) (λ e. (e.path, e.name))
    (λ p. record { path = p.0; name = p.1 }) (λ _. refl)

-- how a provider is printed, as plain data, by which it gets a code
abbrev pub ProviderSum : Type 0
ProviderSum = (Unit {0}) ⊎ Exported

-- its plain data
abbrev pub split_provider : ProviderRef → ProviderSum
split_provider provider.DefaultInfo = inl tt
split_provider (provider.Exported x) = inr x

-- what such data makes
abbrev pub join_provider : ProviderSum → ProviderRef
join_provider (inl u) = provider.DefaultInfo
join_provider (inr x) = provider.Exported x

-- No two have the same plain data.
pub join_provider-split_provider : (x : ProviderRef) → join_provider (split_provider x) ≡ x
join_provider-split_provider provider.DefaultInfo = refl
join_provider-split_provider (provider.Exported x) = refl

-- the code of how providers are printed
abbrev pub provider_name_code : Coded ProviderRef
provider_name_code =
    code_by ProviderSum
    (coded⊎ coded_unit exported_code)
    split_provider join_provider join_provider-split_provider

-- the code of names, such as those of a provider's fields
abbrev pub names_code : Coded (List (List ℕ))
names_code = coded_list text_code

-- the code of providers
abbrev pub provider_code : Coded Provider
provider_code =
    code_by (Option MadeId × (ProviderRef × List (List ℕ)))
    (coded× (coded_option made_code) (coded× provider_name_code names_code))
    (λ p. (p.id, (p.name, p.fields)))
    (λ q. record { id = q.0; name = q.1.0; fields = q.1.1 }) (λ _. refl)

-- the code of rules
abbrev pub rule_code : Coded RuleRef
rule_code =
    code_by (MadeId × Exported) (coded× made_code exported_code) (λ r. (r.id, r.name))
    (λ p. record { id = p.0; name = p.1 }) (λ _. refl)

-- a kind of attribute as plain data, by which it gets a code
abbrev pub KindSum : Type 0
KindSum =
    (Unit {0}) ⊎ ((Unit {0}) ⊎ ((Unit {0}) ⊎ ((Unit {0})
    ⊎ ((Unit {0}) ⊎ ((Unit {0}) ⊎ (Unit {0}))))))

-- its plain data
abbrev pub split_kind : AttributeKind → KindSum
split_kind attribute.String = inl tt
split_kind attribute.Int = inr (inl tt)
split_kind attribute.Bool = inr (inr (inl tt))
split_kind attribute.StringList = inr (inr (inr (inl tt)))
split_kind attribute.StringDict = inr (inr (inr (inr (inl tt))))
split_kind attribute.Label = inr (inr (inr (inr (inr (inl tt)))))
split_kind attribute.LabelList = inr (inr (inr (inr (inr (inr tt)))))

-- what such data makes
abbrev pub join_kind : KindSum → AttributeKind
join_kind (inl u) = attribute.String
join_kind (inr (inl u)) = attribute.Int
join_kind (inr (inr (inl u))) = attribute.Bool
join_kind (inr (inr (inr (inl u)))) = attribute.StringList
join_kind (inr (inr (inr (inr (inl u))))) = attribute.StringDict
join_kind (inr (inr (inr (inr (inr (inl u)))))) = attribute.Label
join_kind (inr (inr (inr (inr (inr (inr u)))))) = attribute.LabelList

-- No two have the same plain data.
pub join_kind-split_kind : (x : AttributeKind) → join_kind (split_kind x) ≡ x
join_kind-split_kind attribute.String = refl
join_kind-split_kind attribute.Int = refl
join_kind-split_kind attribute.Bool = refl
join_kind-split_kind attribute.StringList = refl
join_kind-split_kind attribute.StringDict = refl
join_kind-split_kind attribute.Label = refl
join_kind-split_kind attribute.LabelList = refl

-- the code of kinds of attributes
abbrev pub kind_code : Coded AttributeKind
kind_code =
    code_by KindSum
    (coded⊎ coded_unit (coded⊎ coded_unit (coded⊎ coded_unit (coded⊎ coded_unit
    (coded⊎ coded_unit (coded⊎ coded_unit coded_unit))))))
    split_kind join_kind join_kind-split_kind

-- the code of attribute declarations
abbrev pub attribute_code : Coded AttributeRef
attribute_code =
    code_by (AttributeKind × (List ℕ × ℕ)) (coded× kind_code (coded× text_code coded_ℕ))
    (λ a. (a.kind, (a.path, a.number)))
    (λ p. record { kind = p.0; path = p.1.0; number = p.1.1 }) (λ _. refl)

-- one of `attr`, `ctx` and the parts of `ctx` as plain data, by which it gets a code
abbrev pub ObjectSum : Type 0
ObjectSum = (Unit {0}) ⊎ ((Unit {0}) ⊎ ((Unit {0}) ⊎ ((Unit {0}) ⊎ (Unit {0}))))

-- its plain data
abbrev pub split_object : Object → ObjectSum
split_object object.Attr = inl tt
split_object object.Context = inr (inl tt)
split_object object.ContextAttr = inr (inr (inl tt))
split_object object.ContextFiles = inr (inr (inr (inl tt)))
split_object object.ContextActions = inr (inr (inr (inr tt)))

-- what such data makes
abbrev pub join_object : ObjectSum → Object
join_object (inl u) = object.Attr
join_object (inr (inl u)) = object.Context
join_object (inr (inr (inl u))) = object.ContextAttr
join_object (inr (inr (inr (inl u)))) = object.ContextFiles
join_object (inr (inr (inr (inr u)))) = object.ContextActions

-- No two have the same plain data.
pub join_object-split_object : (x : Object) → join_object (split_object x) ≡ x
join_object-split_object object.Attr = refl
join_object-split_object object.Context = refl
join_object-split_object object.ContextAttr = refl
join_object-split_object object.ContextFiles = refl
join_object-split_object object.ContextActions = refl

-- the code of `attr`, `ctx` and the parts of `ctx`
abbrev pub object_code : Coded Object
object_code =
    code_by ObjectSum
    (coded⊎ coded_unit (coded⊎ coded_unit (coded⊎ coded_unit (coded⊎ coded_unit coded_unit))))
    split_object join_object join_object-split_object

-- a built-in function as plain data, by which it gets a code
abbrev pub BuiltInSum : Type 0
BuiltInSum =
    (Unit {0}) ⊎ ((Unit {0}) ⊎ ((Unit {0}) ⊎ ((Unit {0})
    ⊎ ((Unit {0}) ⊎ ((Unit {0}) ⊎ ((Unit {0}) ⊎ (Unit {0})))))))

-- its plain data
abbrev pub split_built_in : BuiltIn → BuiltInSum
split_built_in built_in.Depset = inl tt
split_built_in built_in.Fail = inr (inl tt)
split_built_in built_in.Len = inr (inr (inl tt))
split_built_in built_in.List = inr (inr (inr (inl tt)))
split_built_in built_in.Provider = inr (inr (inr (inr (inl tt))))
split_built_in built_in.Range = inr (inr (inr (inr (inr (inl tt)))))
split_built_in built_in.Rule = inr (inr (inr (inr (inr (inr (inl tt))))))
split_built_in built_in.Str = inr (inr (inr (inr (inr (inr (inr tt))))))

-- what such data makes
abbrev pub join_built_in : BuiltInSum → BuiltIn
join_built_in (inl u) = built_in.Depset
join_built_in (inr (inl u)) = built_in.Fail
join_built_in (inr (inr (inl u))) = built_in.Len
join_built_in (inr (inr (inr (inl u)))) = built_in.List
join_built_in (inr (inr (inr (inr (inl u))))) = built_in.Provider
join_built_in (inr (inr (inr (inr (inr (inl u)))))) = built_in.Range
join_built_in (inr (inr (inr (inr (inr (inr (inl u))))))) = built_in.Rule
join_built_in (inr (inr (inr (inr (inr (inr (inr u))))))) = built_in.Str

-- No two have the same plain data.
pub join_built_in-split_built_in : (x : BuiltIn) → join_built_in (split_built_in x) ≡ x
join_built_in-split_built_in built_in.Depset = refl
join_built_in-split_built_in built_in.Fail = refl
join_built_in-split_built_in built_in.Len = refl
join_built_in-split_built_in built_in.List = refl
join_built_in-split_built_in built_in.Provider = refl
join_built_in-split_built_in built_in.Range = refl
join_built_in-split_built_in built_in.Rule = refl
join_built_in-split_built_in built_in.Str = refl

-- the code of built-in functions
abbrev pub built_in_code : Coded BuiltIn
built_in_code =
    code_by BuiltInSum
    (coded⊎ coded_unit (coded⊎ coded_unit (coded⊎ coded_unit (coded⊎ coded_unit
    (coded⊎ coded_unit (coded⊎ coded_unit (coded⊎ coded_unit coded_unit)))))))
    split_built_in join_built_in join_built_in-split_built_in

-- a leaf as plain data, by which it gets a code
abbrev pub LeafSum : Type 0
LeafSum =
    (Unit {0}) ⊎ ((List ℕ) ⊎ (FileRef ⊎ ((Rose Own) ⊎ (FunctionRef ⊎ (BuiltIn
    ⊎ (Provider ⊎ (RuleRef ⊎ (AttributeRef ⊎ (ℕ ⊎ Object)))))))))

-- its plain data
abbrev pub split_leaf : Leaf → LeafSum
split_leaf plain.None = inl tt
split_leaf (plain.Label x) = inr (inl x)
split_leaf (plain.File x) = inr (inr (inl x))
split_leaf (plain.Depset x) = inr (inr (inr (inl x)))
split_leaf (plain.Function x) = inr (inr (inr (inr (inl x))))
split_leaf (plain.BuiltIn x) = inr (inr (inr (inr (inr (inl x)))))
split_leaf (plain.Provider x) = inr (inr (inr (inr (inr (inr (inl x))))))
split_leaf (plain.Rule x) = inr (inr (inr (inr (inr (inr (inr (inl x)))))))
split_leaf (plain.Attribute x) = inr (inr (inr (inr (inr (inr (inr (inr (inl x))))))))
split_leaf (plain.Target x) = inr (inr (inr (inr (inr (inr (inr (inr (inr (inl x)))))))))
split_leaf (plain.Object x) = inr (inr (inr (inr (inr (inr (inr (inr (inr (inr x)))))))))

-- what such data makes
abbrev pub join_leaf : LeafSum → Leaf
join_leaf (inl u) = plain.None
join_leaf (inr (inl x)) = plain.Label x
join_leaf (inr (inr (inl x))) = plain.File x
join_leaf (inr (inr (inr (inl x)))) = plain.Depset x
join_leaf (inr (inr (inr (inr (inl x))))) = plain.Function x
join_leaf (inr (inr (inr (inr (inr (inl x)))))) = plain.BuiltIn x
join_leaf (inr (inr (inr (inr (inr (inr (inl x))))))) = plain.Provider x
join_leaf (inr (inr (inr (inr (inr (inr (inr (inl x)))))))) = plain.Rule x
join_leaf (inr (inr (inr (inr (inr (inr (inr (inr (inl x))))))))) = plain.Attribute x
join_leaf (inr (inr (inr (inr (inr (inr (inr (inr (inr (inl x)))))))))) = plain.Target x
join_leaf (inr (inr (inr (inr (inr (inr (inr (inr (inr (inr x)))))))))) = plain.Object x

-- No two have the same plain data.
pub join_leaf-split_leaf : (x : Leaf) → join_leaf (split_leaf x) ≡ x
join_leaf-split_leaf plain.None = refl
join_leaf-split_leaf (plain.Label x) = refl
join_leaf-split_leaf (plain.File x) = refl
join_leaf-split_leaf (plain.Depset x) = refl
join_leaf-split_leaf (plain.Function x) = refl
join_leaf-split_leaf (plain.BuiltIn x) = refl
join_leaf-split_leaf (plain.Provider x) = refl
join_leaf-split_leaf (plain.Rule x) = refl
join_leaf-split_leaf (plain.Attribute x) = refl
join_leaf-split_leaf (plain.Target x) = refl
join_leaf-split_leaf (plain.Object x) = refl

-- the code of leaves
abbrev pub leaf_code : Coded Leaf
leaf_code =
    code_by LeafSum
    (coded⊎ coded_unit (coded⊎ text_code (coded⊎ file_code (coded⊎ (coded_rose own_code)
    (coded⊎ function_code (coded⊎ built_in_code (coded⊎ provider_code
    (coded⊎ rule_code (coded⊎ attribute_code (coded⊎ coded_ℕ object_code))))))))))
    split_leaf join_leaf join_leaf-split_leaf

-- a key as plain data, by which it gets a code
abbrev pub KeySum : Type 0
KeySum = (List ℕ) ⊎ (ℤ ⊎ Bool)

-- its plain data
abbrev pub split_key : Key → KeySum
split_key (key.Text x) = inl x
split_key (key.Number x) = inr (inl x)
split_key (key.Truth x) = inr (inr x)

-- what such data makes
abbrev pub join_key : KeySum → Key
join_key (inl x) = key.Text x
join_key (inr (inl x)) = key.Number x
join_key (inr (inr x)) = key.Truth x

-- No two have the same plain data.
pub join_key-split_key : (x : Key) → join_key (split_key x) ≡ x
join_key-split_key (key.Text x) = refl
join_key-split_key (key.Number x) = refl
join_key-split_key (key.Truth x) = refl

-- the code of keys
abbrev pub key_code : Coded Key
key_code =
    code_by KeySum
    (coded⊎ text_code (coded⊎ coded_ℤ coded_bool))
    split_key join_key join_key-split_key
