-- The text of a report, by the listing that skips ids and by the plain one.
use Rattle.std.proofs.Common.{◌≡◌, ◌∙◌, ◌||◌, inr, ⊎_elim, ℕ, List, [], ◌∷◌, ◌++◌, map, refl, ap, subst}
use Rattle.std.specs.List.{flat_map, list_any, AllByRecursion}
use Rattle.std.proofs.lemmas.List.Elements.{recursion_from_All}
use Rattle.depsets.specs.Flat.{Among}
use Rattle.depsets.specs.Listed.{walked, flat}
use Rattle.actions.specs.Ascending.{Each}
use Rattle.actions.specs.declared.action.Action.{Action}
use Rattle.claims.specs.Owned.{Owned}
use Rattle.claims.specs.Same.{compared}
use Rattle.claims.specs.Telling.{telling}
use Rattle.one_tree.specs.Found.{Set, in_outcome}
use Rattle.one_tree.specs.Sets.{IsOneTree}
use Rattle.one_tree.proofs.Amidst.{among_cases}
use Rattle.workspace.specs.Labels.{LabelParts, label_text}
use Rattle.targets.specs.Steps.{is_failed}
use Rattle.targets.specs.declared.outcome.Outcome.{Outcome}
use Rattle.targets.specs.declared.outcome.Outcome.TheVariants.{Source, Done, Failed}
use Rattle.outcomes.specs.Found.{in_actions, in_inputs, in_target, has_depset}
use Rattle.outcomes.specs.Workspaces.{Workspace, outcome_of, ImplementsWell, IsSound}
use Rattle.outcomes.proofs.Together.{outcomes_together}
use Rattle.reporting.specs.Lines.{action_line, conflict_line, outcome_text}
use Rattle.reporting.specs.Answers.{Node, actions_of, owned_by, node_actions, told_line, owned_actions, file_line, node_text, has_some}
use Rattle.workspace_laws.specs.ReportLaws.{in_nodes, TextsArePlain, WorkspacesAreToldPlainly}
use Rattle.claims.proofs.Agreed.{Agree, compared_plain, conflicts_same, telling_same}
use Rattle.workspace_laws.proofs.Lines.{front, behind, action_same, coherent_inputs, compared_same, outcome_same}

-- ---- what is compared of the actions of nodes

owned_agree : (text : List ℕ) (acts : List Action) → Each (λ a. compared walked a ≡ compared flat a) acts → Each (Agree walked flat) (map (owned_by text) acts)
owned_agree text [] h = tt
owned_agree text (a ∷ rest) h = (h.0, owned_agree text rest h.1)

target_agrees : (text : List ℕ) (o : Outcome) → IsOneTree (in_target o) → Each (Agree walked flat) (map (owned_by text) (actions_of o))
target_agrees text (Source f) k = tt
target_agrees text (Failed f) k = tt
target_agrees text (Done ts rest) k = owned_agree text rest (compared_same rest (behind (in_outcome ts) (in_actions rest) k))

each_append : (xs ys : List Owned) → Each (Agree walked flat) xs → Each (Agree walked flat) ys → Each (Agree walked flat) (xs ++ ys)
each_append [] ys g h = h
each_append (x ∷ xs) ys g h = (g.0, each_append xs ys g.1 h)

all_agree : (ns : List Node) → IsOneTree (in_nodes ns) → Each (Agree walked flat) (owned_actions ns)
all_agree [] k = tt
all_agree (n ∷ ns) k =
    each_append (node_actions n) (owned_actions ns) (target_agrees (label_text n.label) n.outcome (front (in_target n.outcome) (in_nodes ns) k))
    (all_agree ns (behind (in_target n.outcome) (in_nodes ns) k))

-- ---- the lines of nodes

module _ (all : List Owned) (agree : Each (Agree walked flat) all) where
  actions_same : (text : List ℕ) (acts : List Action) → IsOneTree (in_actions acts)
      → flat_map (told_line walked all) (map (owned_by text) acts) ≡ flat_map (told_line flat all) (map (owned_by text) acts)
  actions_same text [] k = refl
  actions_same text (a ∷ rest) k =
      let own = owned_by text a in
      let one = front (in_inputs a.inputs) (in_actions rest) k in
      let told = telling_same walked flat all agree own (compared_plain a (coherent_inputs a.inputs one)) in
      λ i. (ap (λ t. action_line walked t a) told ∙ action_same (telling flat all own) a one) i
      ++ actions_same text rest (behind (in_inputs a.inputs) (in_actions rest) k) i

  lines_same : (text : List ℕ) (o : Outcome) → IsOneTree (in_target o)
      → flat_map (told_line walked all) (map (owned_by text) (actions_of o)) ≡ flat_map (told_line flat all) (map (owned_by text) (actions_of o))
  lines_same text (Source f) k = refl
  lines_same text (Failed f) k = refl
  lines_same text (Done ts rest) k = actions_same text rest (behind (in_outcome ts) (in_actions rest) k)

  node_same : (n : Node) → IsOneTree (in_target n.outcome) → node_text walked all n ≡ node_text flat all n
  node_same n k =
      ap (λ l. outcome_text walked l n.label n.outcome) (lines_same (label_text n.label) n.outcome k)
      ∙ outcome_same (flat_map (told_line flat all) (node_actions n)) n.label n.outcome k

  nodes_same : (ns : List Node) → IsOneTree (in_nodes ns) → flat_map (node_text walked all) ns ≡ flat_map (node_text flat all) ns
  nodes_same [] k = refl
  nodes_same (n ∷ ns) k =
      λ i. node_same n (front (in_target n.outcome) (in_nodes ns) k) i ++ nodes_same ns (behind (in_target n.outcome) (in_nodes ns) k) i

pub texts_are_plain : TextsArePlain
texts_are_plain faults nodes k =
    let all = owned_actions nodes in
    let agree = all_agree nodes k in
    let conflicts = conflicts_same walked flat all agree in record {
      text = λ i. flat_map file_line faults ++ (nodes_same all agree nodes k i ++ flat_map conflict_line (conflicts i));
      conflicts = conflicts;
      loud = ap (λ cs. has_some faults || (list_any (λ n. is_failed n.outcome) nodes || has_some cs)) conflicts;
    }

module _ (w : Workspace) (sound : IsSound w) (well : ImplementsWell w) where
  -- in what becomes of some label
  abbrev Told : Set → Type 0
  Told d = (t : LabelParts) × has_depset (outcome_of w t) d

  abbrev IsOf : Node → Type 0
  IsOf n = n.outcome ≡ outcome_of w n.label

  told : (ns : List Node) → AllByRecursion IsOf ns → (d : Set) → Among d (in_nodes ns) → Told d
  told [] are d i = absurd i
  told (n ∷ ns) are d i =
      ⊎_elim (λ j. (n.label, subst (λ o. has_depset o d) are.0 j)) (λ j. told ns are.1 d j) (among_cases d (in_target n.outcome) (in_nodes ns) i)

  one_tree : (ns : List Node) → AllByRecursion IsOf ns → IsOneTree (in_nodes ns)
  one_tree ns are = λ a b i j e. (outcomes_together w sound well).coherent a b (inr (told ns are a i)) (inr (told ns are b j)) e

pub workspaces_are_told_plainly : WorkspacesAreToldPlainly
workspaces_are_told_plainly w faults nodes sound well are =
    texts_are_plain faults nodes (one_tree w sound well nodes (recursion_from_All (λ (n : Node). n.outcome ≡ outcome_of w n.label) nodes are))
