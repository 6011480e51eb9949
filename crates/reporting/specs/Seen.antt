-- Nodes where they lie, as the definitions of a report see them. (docs/REPORT.md, "Nodes"; this
-- project's own.)
use Rattle.std.specs.Prelude.{◌≡◌, ℕ, ◌+◌, ◌/◌, ◌%◌, ◌<◌, min, List, [], ◌∷◌, ◌++◌, length, map}
use Rattle.std.specs.Prelude.{take, drop, slice_index_or, string_bytes, String}
use Rattle.std.specs.Fork.{slice_chunk}
use Rattle.std.specs.List.{flat_map}
use Rattle.depsets.specs.Listed.{walked}
use Rattle.depsets.specs.Own.{Own}
use Rattle.depsets.specs.Rose.{Rose}
use Rattle.depsets.specs.declared.element.Element.{Element}
use Rattle.actions.specs.declared.action.Action.{Action}
use Rattle.claims.specs.declared.telling.Telling.{Telling}
use Rattle.claims.specs.declared.telling.Telling.TheVariants.{Alone}
use Rattle.reporting.specs.Answers.{Node as Told, actions_of}
use Rattle.reporting.specs.Lines.{action_line, outcome_text}
use Rattle.reporting.specs.declared.blocks.Block.{Block}
use Rattle.reporting.specs.declared.node_lines.Node.{Node}

-- a label with what becomes of it, as plain data
abbrev pub node_seen : Node → Told
node_seen n = record { label = n.label.now; outcome = n.outcome.now }

-- the same of several
abbrev pub nodes_seen : List Node → List Told
nodes_seen ns = map node_seen ns

-- how the actions of a node are told, and the node
abbrev pub block_seen : Block → List Telling × Told
block_seen b = (b.tellings.now, node_seen b.node)

-- nodes, each with how its actions are told, where the actions of all are told so
abbrev pub blocks_of : List Telling → List Told → List (List Telling × Told)
blocks_of ts [] = []
blocks_of ts (n ∷ ns) =
    let count = length (actions_of n.outcome) in
    (take count ts, n) ∷ blocks_of (drop count ts) ns

-- how the action at a place is told: alone where nothing is said of it
abbrev pub telling_at : List Telling → ℕ → Telling
telling_at ts n = slice_index_or ts n Alone

-- the lines of actions, where they are told so in their order
abbrev pub action_lines : (Rose Own → List Element) → List Telling → List Action → List ℕ
action_lines listing ts [] = []
action_lines listing [] (a ∷ rest) =
    action_line listing Alone a ++ action_lines listing [] rest
action_lines listing (t ∷ ts) (a ∷ rest) =
    action_line listing t a ++ action_lines listing ts rest

-- the lines of a node, by how its actions are told
abbrev pub block_text : (Rose Own → List Element) → List Telling × Told → List ℕ
block_text listing b =
    outcome_text listing (action_lines listing b.0 (actions_of b.1.outcome)) b.1.label b.1.outcome

-- the lines of nodes, where depsets are listed by the walk that passes over ids it has seen
abbrev pub lines_of : List Block → List ℕ
lines_of bs = flat_map (block_text walked) (map block_seen bs)

-- the bytes of texts, one after the other
abbrev pub text_of : {A : Type 0} → List (String A) → List ℕ
text_of ts = flat_map string_bytes ts

-- these are the texts of all parts of nodes, of so many nodes each
pub record AreParts {A : Type 0} (ns : List Block) (size : ℕ)
    (texts : List (String A)) : Type 0 where
  pub len : length texts ≡ length ns / size + min 1 (length ns % size)
  pub each : (i : ℕ) (d : String A) → i < length texts
      → string_bytes (slice_index_or texts i d) ≡ lines_of (slice_chunk ns size i)
