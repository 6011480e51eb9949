use Rattle.std.proofs.Common.{◌≡◌, ℕ, ◌+◌, ◌-◌, ◌<◌, ◌≤◌, List, length, get_or, arith, rules, ap, sym, ◌∙◌, take, drop}
use Rattle.std.proofs.lemmas.List.{get_or_default}
use Rattle.edges.specs.Rows.{row}
use Rattle.edges.specs.Flat.{flat_rows, IsFlat}
use Rattle.edges.proofs.Flat.{flat_len, flat_at, flat_bounds}
use Rattle.edges.proofs.adjacency.Adjacency.row.Goals as goal

-- a start that was read
read : (xs : List ℕ) (i k x : ℕ) → i ≡ k → i < length xs → x ≡ get_or xs i x → x ≡ get_or xs k 0
read xs i k x e low is = is ∙ get_or_default xs i x 0 low ∙ ap (λ j. get_or xs j 0) e

bounds : (starts entries : List ℕ) (n start end : ℕ) → IsFlat starts entries → n < length starts - 1 → start ≡ get_or starts n 0 → end ≡ get_or starts (n + 1) 0 → (start ≤ end) × (end ≤ length entries)
bounds starts entries n start end flat low from to = let b = flat_bounds starts entries n flat low in (omega (arith, b.0, from, to), omega (arith, b.1, to))

pub index-start-requires : goal.index-start-requires
index-start-requires c = omega (arith, c.number-n.ensures, c.requires, c.self.inside.starts.ok.0, flat_len c.self.inside.starts.items c.self.inside.entries.items, ap length c.self.view_is)

pub overflow_add-n : goal.overflow_add-n
overflow_add-n c =
    omega (arith, c.self.inside.starts.small, c.self.inside.starts.ok.1, c.number-n.ensures, c.requires, c.self.inside.starts.ok.0, flat_len c.self.inside.starts.items c.self.inside.entries.items, ap length c.self.view_is)

pub index-end-requires : goal.index-end-requires
index-end-requires c = omega (arith, c.number-n.ensures, c.requires, c.self.inside.starts.ok.0, flat_len c.self.inside.starts.items c.self.inside.entries.items, ap length c.self.view_is)

-- where the row lies among the entries that were lent
part : (starts entries lent : List ℕ) (n m start end : ℕ) → IsFlat starts entries → n < length starts - 1 → m ≡ n → start ≡ get_or starts m start → end ≡ get_or starts (m + 1) end → lent ≡ entries
    → (start ≤ end) × (end ≤ length lent) × (take (end - start) (drop start lent) ≡ row (flat_rows starts entries) n)
part starts entries lent n m start end flat low e from to whole =
    let start_is = read starts m n start e (omega (arith, low, e)) from in
    let end_is = read starts (m + 1) (n + 1) end (ap (λ k. k + 1) e) (omega (arith, low, e)) to in
    let b = bounds starts entries n start end flat low start_is end_is in (
      b.0,
      omega (arith, b.1, ap length whole),
      ap (take (end - start)) (ap (drop start) whole)
          ∙ ap (λ s. take (end - s) (drop s entries)) start_is
          ∙ ap (λ e. take (e - get_or starts n 0) (drop (get_or starts n 0) entries)) end_is
          ∙ sym (flat_at starts entries n low),
    )

below : (starts entries : List ℕ) (rows : List (List ℕ)) (n : ℕ) → flat_rows starts entries ≡ rows → n < length rows → n < length starts - 1
below starts entries rows n is low = omega (arith, flat_len starts entries, ap length is, low)

pub offset_bounds-deref-start : goal.offset_bounds-deref-start
offset_bounds-deref-start c =
    let p = part c.self.inside.starts.items c.self.inside.entries.items c.deref.result.now c.args.n c.number-n.result c.index-start.result.now c.index-end.result.now c.self.invariant
    (below c.self.inside.starts.items c.self.inside.entries.items c.args.self.now c.args.n c.self.view_is c.requires.node) c.number-n.ensures c.index-start.ensures c.index-end.ensures c.deref.ensures.value in
    omega (arith, p.0, p.1, c.deref.type_inv.1)

pub slice_bounds-result-count : goal.slice_bounds-result-count
slice_bounds-result-count c =
    (part c.self.inside.starts.items c.self.inside.entries.items c.deref.result.now c.args.n c.number-n.result c.index-start.result.now c.index-end.result.now c.self.invariant
    (below c.self.inside.starts.items c.self.inside.entries.items c.args.self.now c.args.n c.self.view_is c.requires.node) c.number-n.ensures c.index-start.ensures c.index-end.ensures c.deref.ensures.value).0

pub slice_bounds-result-start : goal.slice_bounds-result-start
slice_bounds-result-start c =
    let first : c.index-start.result.now ≤ c.index-end.result.now = slice_bounds-result-count c in
    search rules

pub slice_bounds-result-end : goal.slice_bounds-result-end
slice_bounds-result-end c =
    let last : c.index-end.result.now ≤ length c.deref.result.now = (part c.self.inside.starts.items c.self.inside.entries.items c.deref.result.now c.args.n c.number-n.result c.index-start.result.now c.index-end.result.now c.self.invariant
    (below c.self.inside.starts.items c.self.inside.entries.items c.args.self.now c.args.n c.self.view_is c.requires.node) c.number-n.ensures c.index-start.ensures c.index-end.ensures c.deref.ensures.value).1 in
    search rules

pub returns : goal.returns
returns c =
    (part c.self.inside.starts.items c.self.inside.entries.items c.deref.result.now c.args.n c.number-n.result c.index-start.result.now c.index-end.result.now c.self.invariant
    (below c.self.inside.starts.items c.self.inside.entries.items c.args.self.now c.args.n c.self.view_is c.requires.node) c.number-n.ensures c.index-start.ensures c.index-end.ensures c.deref.ensures.value).2
    ∙ ap (λ rows. row rows c.args.n) c.self.view_is
