-- Nodes with how their actions are told: one turn of each loop, and what they come to.
use Rattle.std.proofs.Common.{◌≡◌, ◌∙◌, ◌+◌, ◌||◌, ◌<◌, ℕ, zero, suc, Bool, List, [], ◌∷◌, ◌++◌, length, map, take, drop, get_or, flat_map, ap, sym, refl, append_assoc, add-one}
use Rattle.std.specs.List.{list_any}
use Rattle.std.proofs.lemmas.Grind.{flat_map-append}
use Rattle.std.proofs.lemmas.List.{map-append, append-nil, take_more, at_drop_more}
use Rattle.std.proofs.Math.Seq.{take-append_seam}
use Rattle.depsets.specs.Own.{Own}
use Rattle.depsets.specs.Rose.{Rose}
use Rattle.depsets.specs.Listed.{walked}
use Rattle.depsets.specs.declared.element.Element.{Element}
use Rattle.actions.specs.declared.action.Action.{Action}
use Rattle.claims.specs.Owned.{Owned}
use Rattle.claims.specs.Telling.{telling}
use Rattle.claims.specs.declared.telling.Telling.{Telling}
use Rattle.workspace.specs.Labels.{label_text}
use Rattle.reporting.specs.Answers.{Node as Told, actions_of, node_actions, node_text, owned_actions, owned_by, told_line}
use Rattle.reporting.specs.Lines.{action_line, outcome_text}
use Rattle.reporting.specs.Seen.{action_lines, block_seen, block_text, blocks_of, node_seen, nodes_seen, telling_at}
use Rattle.reporting.specs.declared.blocks.Block.{Block}
use Rattle.reporting.specs.declared.node_lines.Node.{Node}

-- ---- lines of actions

-- the line of the first of the actions from a place on
lines_at : (listing : Rose Own → List Element) (ts : List Telling) (i : ℕ) (a : Action) (rest : List Action)
    → action_lines listing (drop i ts) (a ∷ rest) ≡ action_line listing (telling_at ts i) a ++ action_lines listing (drop (suc i) ts) rest
lines_at listing [] zero a rest = refl
lines_at listing [] (suc i) a rest = refl
lines_at listing (t ∷ ts) zero a rest = refl
lines_at listing (t ∷ ts) (suc i) a rest = lines_at listing ts i a rest

pub lines_next : (ts : List Telling) (acts : List Action) (i : ℕ) (a d : Action) (old new : List ℕ) → i < length acts → a ≡ get_or acts i d
    → new ≡ old ++ action_line walked (telling_at ts i) a
    → new ++ action_lines walked (drop (i + 1) ts) (drop (i + 1) acts) ≡ old ++ action_lines walked (drop i ts) (drop i acts)
lines_next ts acts i a d old new low p e =
    let rest = action_lines walked (drop (i + 1) ts) (drop (i + 1) acts) in
    ap (λ l. l ++ rest) e ∙ append_assoc old (action_line walked (telling_at ts i) a) rest
    ∙ ap (λ l. old ++ l)
    (ap (λ n. action_line walked (telling_at ts i) a ++ action_lines walked (drop n ts) (drop (i + 1) acts)) (add-one i)
    ∙ sym (lines_at walked ts i a (drop (i + 1) acts))
    ∙ ap (λ b. action_lines walked (drop i ts) (b ∷ drop (i + 1) acts)) p
    ∙ sym (at_drop_more (action_lines walked (drop i ts)) acts i d low))

-- ---- the actions of nodes

pub nodes_more : (ns : List Node) (i : ℕ) (n : Node) (old new : List Owned) → i < length ns → n ≡ get_or ns i n
    → old ≡ owned_actions (nodes_seen (take i ns)) → new ≡ old ++ node_actions (node_seen n) → new ≡ owned_actions (nodes_seen (take (i + 1) ns))
nodes_more ns i n old new low p had e =
    e ∙ ap (λ l. l ++ node_actions (node_seen n)) had
    ∙ ap (λ l. owned_actions (nodes_seen (take i ns)) ++ l) (sym (append-nil (node_actions (node_seen n))))
    ∙ sym (flat_map-append node_actions (nodes_seen (take i ns)) (node_seen n ∷ []))
    ∙ ap (flat_map node_actions) (sym (map-append node_seen (take i ns) (n ∷ [])))
    ∙ ap (λ l. owned_actions (nodes_seen l)) (ap (λ m. take i ns ++ m ∷ []) p ∙ sym (take_more ns i n low))

pub blocks_next : (ns : List Node) (i : ℕ) (n : Node) (bs : List Block) (b : Block) (ts : List Telling) → i < length ns → n ≡ get_or ns i n
    → block_seen b ≡ (take (length (actions_of n.outcome.now)) ts, node_seen n)
    → map block_seen (bs ++ b ∷ []) ++ blocks_of (drop (length (actions_of n.outcome.now)) ts) (nodes_seen (drop (i + 1) ns))
    ≡ map block_seen bs ++ blocks_of ts (nodes_seen (drop i ns))
blocks_next ns i n bs b ts low p is =
    let rest = blocks_of (drop (length (actions_of n.outcome.now)) ts) (nodes_seen (drop (i + 1) ns)) in
    ap (λ l. l ++ rest) (map-append block_seen bs (b ∷ [])) ∙ append_assoc (map block_seen bs) (block_seen b ∷ []) rest
    ∙ ap (λ l. map block_seen bs ++ l)
    (ap (λ x. x ∷ rest) is
    ∙ ap (λ m. blocks_of ts (nodes_seen (m ∷ drop (i + 1) ns))) p
    ∙ sym (at_drop_more (λ l. blocks_of ts (nodes_seen l)) ns i n low))

-- ---- what is told of all nodes

drop_front : {X : Type 0} (xs ys : List X) → drop (length xs) (xs ++ ys) ≡ ys
drop_front [] ys = refl
drop_front (x ∷ xs) ys = drop_front xs ys

long_map : {X Y : Type 0} (f : X → Y) (xs : List X) → length (map f xs) ≡ length xs
long_map f [] = refl
long_map f (x ∷ xs) = ap suc (long_map f xs)

module _ (listing : Rose Own → List Element) (all : List Owned) where
  -- how the actions of a node are told
  abbrev tellings_of : Told → List Telling
  tellings_of n = map (telling listing all) (node_actions n)

  tellings_long : (n : Told) → length (actions_of n.outcome) ≡ length (tellings_of n)
  tellings_long n =
      sym (long_map (telling listing all) (node_actions n) ∙ long_map (owned_by (label_text n.label)) (actions_of n.outcome))

  lines_told : (text : List ℕ) (acts : List Action)
      → action_lines listing (map (telling listing all) (map (owned_by text) acts)) acts ≡ flat_map (told_line listing all) (map (owned_by text) acts)
  lines_told text [] = refl
  lines_told text (a ∷ rest) = ap (λ l. told_line listing all (owned_by text a) ++ l) (lines_told text rest)

  node_told : (n : Told) → block_text listing (tellings_of n, n) ≡ node_text listing all n
  node_told n = ap (λ l. outcome_text listing l n.label n.outcome) (lines_told (label_text n.label) (actions_of n.outcome))

  pub blocks_told : (ns : List Told) → flat_map (block_text listing) (blocks_of (map (telling listing all) (owned_actions ns)) ns) ≡ flat_map (node_text listing all) ns
  blocks_told [] = refl
  blocks_told (n ∷ ns) =
      let rest = map (telling listing all) (owned_actions ns) in
      let own = tellings_of n in
      let split : map (telling listing all) (owned_actions (n ∷ ns)) ≡ own ++ rest = map-append (telling listing all) (node_actions n) (owned_actions ns) in
      ap (λ ts. flat_map (block_text listing) (blocks_of ts (n ∷ ns))) split
      ∙ ap (λ k. block_text listing (take k (own ++ rest), n) ++ flat_map (block_text listing) (blocks_of (drop k (own ++ rest)) ns)) (tellings_long n)
      ∙ (λ i. block_text listing (take-append_seam own rest i, n) ++ flat_map (block_text listing) (blocks_of (drop_front own rest i) ns))
      ∙ (λ i. node_told n i ++ blocks_told ns i)

pub any_seen : {A B : Type 0} (f : A → B) (p : B → Bool) (xs : List A) → list_any (λ x. p (f x)) xs ≡ list_any p (map f xs)
any_seen f p [] = refl
any_seen f p (x ∷ xs) = ap (λ b. p (f x) || b) (any_seen f p xs)
