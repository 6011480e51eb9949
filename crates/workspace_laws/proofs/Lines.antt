-- The lines of what becomes of a label, by the listing that skips ids and by the plain one.
use Rattle.std.proofs.Common.{◌≡◌, List, [], ◌∷◌, ◌++◌, ℕ, refl, ap}
use Rattle.std.specs.Prelude.{codes}
use Rattle.std.specs.List.{flat_map}
use Rattle.depsets.specs.Listed.{walked, flat}
use Rattle.values.specs.Tree.{Slots, key as key_tree, leaf, branch, list, tuple, dict, instance, end, missing, given}
use Rattle.values.specs.View.{FrozenTree, FrozenBranch}
use Rattle.keys.specs.declared.key.Key.{Key}
use Rattle.leaves.specs.declared.leaf.Leaf.{Leaf}
use Rattle.leaves.specs.declared.leaf.Provider.{Provider}
use Rattle.leaf_texts.specs.Texts.{field_head, provider_text}
use Rattle.printing.specs.TreeTexts.{IsCoherentTree, IsCoherentBranch, AreCoherentSlots}
use Rattle.printing.proofs.TreeTextLemmas.{text-coherent}
use Rattle.actions.specs.declared.action.Action.{Action}
use Rattle.actions.specs.declared.action.Inputs.{Inputs}
use Rattle.actions.specs.declared.action.Inputs.TheVariants as inputs
use Rattle.actions.specs.Ascending.{Each}
use Rattle.claims.proofs.Agreed.{compared_plain, paths_plain}
use Rattle.claims.specs.Coherent.{AreCoherentInputs}
use Rattle.claims.specs.Same.{compared}
use Rattle.claims.specs.declared.telling.Telling.{Telling}
use Rattle.claims.specs.declared.telling.Telling.TheVariants.{Alone, Owners, Elsewhere}
use Rattle.one_tree.specs.Found.{Set, in_tree, in_outcome}
use Rattle.one_tree.specs.Sets.{IsOneTree}
use Rattle.one_tree.proofs.Amidst.{among_left, among_right}
use Rattle.one_tree.proofs.News.{parts_keep, texts_are_plain}
use Rattle.workspace.specs.Labels.{LabelParts, label_text}
use Rattle.targets.specs.declared.outcome.Outcome.{Outcome}
use Rattle.targets.specs.declared.outcome.Outcome.TheVariants.{Source, Done, Failed}
use Rattle.outcomes.specs.Found.{in_inputs, in_actions, in_target}
use Rattle.reporting.specs.Lines.{line, strings_text, outputs_text, given_words, fields_text, instance_line, provider_line, owners_text, action_text, action_line, outcome_text}

-- ---- parts of what has one tree for an id

pub front : (ds es : List Set) → IsOneTree (ds ++ es) → IsOneTree ds
front ds es k = (parts_keep ds (ds ++ es) (λ d i. among_left d ds es i)).0 k

pub behind : (ds es : List Set) → IsOneTree (ds ++ es) → IsOneTree es
behind ds es k = (parts_keep es (ds ++ es) (λ d i. among_right d ds es i)).0 k

-- ---- providers

fields_same : (xs : List (List ℕ)) (ss : Slots Leaf Key Provider) → AreCoherentSlots ss → fields_text walked xs ss ≡ fields_text flat xs ss
fields_same [] end h = refl
fields_same [] (missing ss) h = refl
fields_same [] (given t ss) h = refl
fields_same (x ∷ xs) end h = refl
fields_same (x ∷ xs) (missing ss) h = fields_same xs ss h
fields_same (x ∷ xs) (given t ss) h = λ i. (codes " " ++ (field_head x ++ text-coherent t h.0 i)) ++ fields_same xs ss h.1 i

instance_same : (b : FrozenBranch) → IsCoherentBranch b → instance_line walked b ≡ instance_line flat b
instance_same (list ts) h = refl
instance_same (tuple ts) h = refl
instance_same (dict ps) h = refl
instance_same (instance p ss) h = ap (λ text. line (codes "  provider " ++ (provider_text p.name ++ text))) (fields_same p.fields ss h)

provider_same : (t : FrozenTree) → IsCoherentTree t → provider_line walked t ≡ provider_line flat t
provider_same (key_tree k) h = refl
provider_same (leaf l) h = refl
provider_same (branch b) h = instance_same b h

providers_same : (ts : List FrozenTree) → IsOneTree (in_outcome ts) → flat_map (provider_line walked) ts ≡ flat_map (provider_line flat) ts
providers_same [] k = refl
providers_same (t ∷ ts) k =
    λ i. provider_same t (texts_are_plain t (front (in_tree t) (in_outcome ts) k)) i ++ providers_same ts (behind (in_tree t) (in_outcome ts) k) i

-- ---- actions

pub coherent_inputs : (i : Inputs) → IsOneTree (in_inputs i) → AreCoherentInputs i
coherent_inputs (inputs.Files fs) k = tt
coherent_inputs (inputs.Depset d) k = k

text_same : (a : Action) → IsOneTree (in_inputs a.inputs) → action_text walked a ≡ action_text flat a
text_same a k = ap (λ paths. outputs_text a ++ (codes " inputs " ++ (strings_text paths ++ given_words a))) (paths_plain a.inputs (coherent_inputs a.inputs k))

pub action_same : (t : Telling) (a : Action) → IsOneTree (in_inputs a.inputs) → action_line walked t a ≡ action_line flat t a
action_same Alone a k = ap line (text_same a k)
action_same (Owners labels) a k = ap (λ text. line (text ++ owners_text labels)) (text_same a k)
action_same Elsewhere a k = refl

-- what is compared of actions is the same
pub compared_same : (rest : List Action) → IsOneTree (in_actions rest) → Each (λ a. compared walked a ≡ compared flat a) rest
compared_same [] k = tt
compared_same (a ∷ rest) k = (
  compared_plain a (coherent_inputs a.inputs (front (in_inputs a.inputs) (in_actions rest) k)),
  compared_same rest (behind (in_inputs a.inputs) (in_actions rest) k),
)

-- ---- outcomes

pub outcome_same : (text : List ℕ) (l : LabelParts) (o : Outcome) → IsOneTree (in_target o) → outcome_text walked text l o ≡ outcome_text flat text l o
outcome_same text l (Source f) k = refl
outcome_same text l (Failed f) k = refl
outcome_same text l (Done ps rest) k =
    λ i. line (codes "target " ++ (label_text l ++ codes " ok")) ++ (providers_same ps (front (in_outcome ps) (in_actions rest) k) i ++ text)
