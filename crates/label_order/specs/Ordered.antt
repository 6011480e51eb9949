-- The labels of a graph's nodes, in the order of their texts (this project's own).
use Rattle.std.specs.Prelude.{◌≡◌, ◌↔◌, ℕ, ◌<◌, true, List, length, map, Contains, All}
use Rattle.std.specs.List.{range_with_len}
use Rattle.std.specs.Borrow.{Bor}
use Rattle.actions.specs.Ascending.{AreAscending}
use Rattle.workspace.specs.Labels.{LabelParts, is_label, label_text}
use Rattle.graph.specs.Same.{label_at}

-- a label, and the number of its node
abbrev pub Entry : Type 0
Entry = LabelParts × ℕ

-- the same, of a label that the code lends
abbrev pub entry_seen : Bor LabelParts × ℕ → Entry
entry_seen e = (e.0.now, e.1)

-- a text, and the label that has it with its number
abbrev pub Keyed : Type 0
Keyed = Bor (List ℕ) × (Bor LabelParts × ℕ)

-- the label with its number, without the text by which it is sorted
abbrev pub keyed_seen : Keyed → Entry
keyed_seen k = entry_seen k.1

-- the label is legal, and the text is the label's
abbrev pub IsKeyed : Keyed → Type 0
IsKeyed k = (is_label k.1.0.now ≡ true) × (k.0.now ≡ label_text k.1.0.now)

-- those of all nodes, by number
abbrev pub entries : List LabelParts → List Entry
entries labels = map (λ n. (label_at labels n, n)) (range_with_len 0 (length labels))

-- Each label stands there once, with the number of its node, and their texts ascend.
pub record AreInOrder (labels : List LabelParts) (es : List Entry) : Type 0 where
  pub size : length es ≡ length labels
  pub all : (l : LabelParts) → Contains (map (λ e. e.0) es) l ↔ Contains labels l
  pub ordered : AreAscending (map (λ e. label_text e.0) es)
  pub numbered : All (λ e. (e.1 < length labels) × (label_at labels e.1 ≡ e.0)) es
