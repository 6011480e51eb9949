-- From numbers back to nodes, under the numbers of an order.
use Rattle.std.proofs.Common.{◌≡◌, ℕ, zero, suc, ◌<◌, inl, inr, Bool, true, false, List, [], ◌∷◌, length, get_or, map, Contains, sym, ap, ◌∙◌, subst, arith, refl, true≢false, eqb-true, ◌↔◌, Decides}
use Rattle.std.specs.Prelude.{nat_eq}
use Rattle.std.specs.List.{IsDistinct, AllByRecursion}
use Rattle.std.specs.Cmp.{decided}
use Rattle.std.proofs.lemmas.List.{get_or_past, get_or_default, get_or-map, length-map}
use Rattle.std.proofs.lemmas.Map.Keys.{IsDistinct-cons, IsDistinct-head, IsDistinct-tail, apart_from_distinct}
use Rattle.std.proofs.lemmas.Map.Steps.{length-le_from_distinct_below}
use Rattle.edges.specs.Walks.{Walk, Cyclic}
use Rattle.edges.specs.Rows.{row, has, IsGraph, IsRenumbered}
use Rattle.edges.proofs.Tests.{cases_of, not_both, isnt, either, none_any}
use Rattle.edges.proofs.Lists.{has_at, has-head, has-later, to_has, below_or_past, sides, apart_of}
use Rattle.edges.proofs.Renumbering.{cyclic_from_name}
use Rattle.workspace.specs.Labels.{LabelParts, same_label}
use Rattle.edges.specs.Edges.{EdgesView}
use Rattle.graph.specs.Same.{same_label-decides, no_label, label_at}
use Rattle.graph.specs.Graphs.{IsGraphOf}
use Rattle.graph.specs.Reached.{IsReached, AreReached}
use Rattle.graph.specs.Numbering.{Numbering}
use Rattle.graph.proofs.Growth.{is_in, is_in-at}
use Rattle.graph.proofs.Rows.{from_test, to_test, named_in}

-- ---- lists of numbers, and what they name

pub map_same : {X : Type 0} (f g : ℕ → X) (ns : List ℕ) → ((n : ℕ) → has ns n ≡ true → f n ≡ g n) → map f ns ≡ map g ns
map_same f g [] same = refl
map_same f g (n ∷ ns) same =
    let here : f n ≡ g n = same n (has-head n ns) in
    let later : map f ns ≡ map g ns = map_same f g ns (λ m h. same m (has-later n ns m h)) in
    cc

map_twice : {X : Type 0} (f : ℕ → X) (g : ℕ → ℕ) (ns : List ℕ) → map f (map g ns) ≡ map (λ n. f (g n)) ns
map_twice f g [] = refl
map_twice f g (n ∷ ns) = ap (λ l. f (g n) ∷ l) (map_twice f g ns)

Contains_mapped : {X : Type 0} (f : ℕ → X) (ns : List ℕ) (n : ℕ) → Contains ns n → Contains (map f ns) (f n)
Contains_mapped f ns n h =
    let k = h.0 in
    (k, let e = length-map ns f in let low = h.1 in omega (arith, e, low), get_or-map f ns k n (f n) h.1 ∙ ap f h.2)

-- each of so many numbers stands among as many that are distinct
all_among : (ns : List ℕ) (v : ℕ) → IsDistinct nat_eq ns → ((n : ℕ) → has ns n ≡ true → n < length ns) → v < length ns → has ns v ≡ true
all_among ns v distinct inside low = elim (cases_of (has ns v)) [
  | inl there ↦ there
  | inr none ↦
      let most = length-le_from_distinct_below (v ∷ ns) (length ns) (IsDistinct-cons nat_eq v ns (none_any (nat_eq v) ns none) distinct) (λ q h. elim (either (nat_eq q v) (has ns q) h) [
        | inl is ↦ let e = eqb-true q v is in omega (arith, e, low)
        | inr later ↦ inside q later
      ]) in
      absurd (omega (arith, most))
]

module _ {L : Type 0} (same : L → L → Bool) (decides : (a b : L) → Decides (same a b) (a ≡ b)) where
  -- numbers of what is distinct are distinct
  unmapped_distinct : (f : ℕ → L) (ns : List ℕ) → IsDistinct same (map f ns) → IsDistinct nat_eq ns
  unfolding IsDistinct
  unmapped_distinct f [] d = tt
  unmapped_distinct f (n ∷ ns) d = IsDistinct-cons nat_eq n ns (apart n ns (IsDistinct-head same (f n) (map f ns) d)) (unmapped_distinct f ns (IsDistinct-tail same (f n) (map f ns) d))
    where
      apart : (n : ℕ) (ns : List ℕ) → AllByRecursion (λ y. same (f n) y ≡ false) (map f ns) → AllByRecursion (λ m. nat_eq n m ≡ false) ns
      apart n [] all = tt
      apart n (m ∷ ns) all = (isnt (nat_eq n m) (λ e. not_both (same (f n) (f m)) ((decides (f n) (f m)).1 (ap f (eqb-true n m e))) all.0), apart n ns all.1)

  -- and the other way round, where apart numbers name what is apart
  mapped_distinct : (f : ℕ → L) (ns : List ℕ) → IsDistinct nat_eq ns → ((n m : ℕ) → has ns n ≡ true → has ns m ≡ true → nat_eq n m ≡ false → same (f n) (f m) ≡ false) → IsDistinct same (map f ns)
  unfolding IsDistinct
  mapped_distinct f [] d other = tt
  mapped_distinct f (n ∷ ns) d other =
      IsDistinct-cons same (f n) (map f ns) (apart n ns (IsDistinct-head nat_eq n ns d) (λ m h. other n m (has-head n ns) (has-later n ns m h)))
      (mapped_distinct f ns (IsDistinct-tail nat_eq n ns d) (λ a b i j. other a b (has-later n ns a i) (has-later n ns b j)))
    where
      apart : (n : ℕ) (ns : List ℕ) → AllByRecursion (λ m. nat_eq n m ≡ false) ns → ((m : ℕ) → has ns m ≡ true → nat_eq n m ≡ false → same (f n) (f m) ≡ false) → AllByRecursion (λ y. same (f n) y ≡ false) (map f ns)
      apart n [] all other = tt
      apart n (m ∷ ns) all other = (other m (has-head m ns) all.0, apart n ns all.1 (λ k h. other k (has-later m ns k h)))

  module _ (none : L) (needs : L → List L) (asked nodes : List L) (rows : List (List ℕ)) (numbered : Numbering same none needs asked nodes rows) (whole : length rows ≡ length nodes) where
    pub rows_graph : IsGraph rows
    unfolding IsDistinct
    rows_graph = record {
      distinct = λ n. elim (below_or_past n (length rows)) [
        | inl low ↦ unmapped_distinct (λ k. get_or nodes k none) (row rows n) (subst (IsDistinct same) (sym (numbered.named n low).names) (numbered.apart n low))
        | inr past ↦ subst (IsDistinct nat_eq) (sym (get_or_past rows n [] past)) tt
      ];
      inside = λ n d h. elim (below_or_past n (length rows)) [
        | inl low ↦ let i = (numbered.named n low).inside d h in omega (arith, i, whole)
        | inr past ↦ absurd (true≢false (sym (subst (λ r. has r d ≡ true) (get_or_past rows n [] past) h)))
      ];
    }

    -- two numbers name two nodes
    names_apart : (n m : ℕ) → n < length nodes → m < length nodes → nat_eq n m ≡ false → same (get_or nodes n none) (get_or nodes m none) ≡ false
    names_apart n m low low' other = elim (sides n m (apart_of n m other)) [
      | inl l ↦ apart_from_distinct same nodes n m none numbered.once l low'
      | inr g ↦ (decided same decides).symm (get_or nodes n none) (get_or nodes m none) ∙ apart_from_distinct same nodes m n none numbered.once g low
    ]

    number_in : (x : L) → is_in same decides nodes x ≡ true → (n : ℕ) × (n < length nodes) × (get_or nodes n none ≡ x)
    number_in x h =
        let k = from_test same decides none needs asked nodes x h in
        (k.0, k.1, get_or_default nodes k.0 none x k.1 ∙ k.2)

    walk_in : (n : ℕ) (a b : L) → is_in same decides nodes a ≡ true → Walk needs n a b → is_in same decides nodes b ≡ true
    walk_in zero a b h w = subst (λ x. is_in same decides nodes x ≡ true) w h
    walk_in (suc n) a b h w =
        let i = number_in a h in
        let low = i.1 in
        let are = numbered.named i.0 (omega (arith, low, whole)) in
        let needed : is_in same decides (needs (get_or nodes i.0 none)) w.0 ≡ true = subst (λ x. is_in same decides (needs x) w.0 ≡ true) (sym i.2) (to_test same decides none needs asked (needs a) w.0 w.1) in
        walk_in n w.0 b (named_in same decides none needs asked nodes (needs (get_or nodes i.0 none)) (row rows i.0) are w.0 needed) w.2

    reached_in : (x : L) → IsReached needs asked x → is_in same decides nodes x ≡ true
    reached_in x r = walk_in r.2.0 r.0 x (numbered.all_asked r.0 (to_test same decides none needs asked asked r.0 r.1)) r.2.1

    -- ---- under new numbers

    module _ (origin : List ℕ) (deps : List (List ℕ)) (new : IsRenumbered rows origin deps) (is_graph : IsGraph deps) (labels : List L) (are : labels ≡ map (λ n. get_or nodes n none) origin) where
      origin_size : length origin ≡ length nodes
      origin_size = new.listed ∙ whole

      size : length labels ≡ length nodes
      size = ap length are ∙ length-map origin (λ n. get_or nodes n none) ∙ origin_size

      pub same_size : length deps ≡ length labels
      same_size = new.size ∙ whole ∙ sym size

      origin_at : (k : ℕ) → k < length nodes → get_or origin k 0 < length nodes
      origin_at k low = let l = new.nodes k (omega (arith, low, whole)) in omega (arith, l, whole)

      origin_in : (n : ℕ) → has origin n ≡ true → n < length nodes
      origin_in n h =
          let k = has_at origin n h in
          let low = k.1 in
          let e = k.2 in
          let there = origin_at k.0 (omega (arith, low, origin_size)) in
          omega (arith, there, e)

      label_is : (k : ℕ) → k < length nodes → get_or labels k none ≡ get_or nodes (get_or origin k 0) none
      label_is k low = ap (λ ls. get_or ls k none) are ∙ get_or-map (λ n. get_or nodes n none) origin k 0 none (omega (arith, low, origin_size))

      names : (k : ℕ) → k < length labels → map (λ n. get_or labels n none) (row deps k) ≡ needs (get_or labels k none)
      names k low =
          let low' : k < length nodes = omega (arith, low, size) in
          map_same (λ n. get_or labels n none) (λ n. get_or nodes (get_or origin n 0) none) (row deps k)
          (λ n h. let i = is_graph.inside k n h in label_is n (omega (arith, i, same_size, size)))
          ∙ sym (map_twice (λ n. get_or nodes n none) (λ n. get_or origin n 0) (row deps k))
          ∙ ap (map (λ n. get_or nodes n none)) (new.same k (omega (arith, low', whole)))
          ∙ (numbered.named (get_or origin k 0) (let l = origin_at k low' in omega (arith, l, whole))).names
          ∙ ap needs (sym (label_is k low'))

      -- walks are walks of the labels
      walk_named : (n i j : ℕ) → i < length labels → Walk (row deps) n i j → Walk needs n (get_or labels i none) (get_or labels j none)
      walk_named zero i j low w = ap (λ k. get_or labels k none) w
      walk_named (suc n) i j low w =
          let inside = is_graph.inside i w.0 (to_has (row deps i) w.0 w.1) in (
            get_or labels w.0 none,
            subst (λ xs. Contains xs (get_or labels w.0 none)) (names i low) (Contains_mapped (λ k. get_or labels k none) (row deps i) w.0 w.1),
            walk_named n w.0 j (omega (arith, inside, same_size)) w.2,
          )

      walk_low : (n i j : ℕ) → i < length labels → Walk (row deps) n i j → j < length labels
      walk_low zero i j low w = omega (arith, low, w)
      walk_low (suc n) i j low w =
          let inside = is_graph.inside i w.0 (to_has (row deps i) w.0 w.1) in
          walk_low n w.0 j (omega (arith, inside, same_size)) w.2

      pub cyclic_named : (n : ℕ) → n < length labels → Cyclic (row deps) n ↔ Cyclic needs (get_or labels n none)
      cyclic_named n low = (
        λ c.
            let there = walk_low c.1.0 n c.0 low c.1.1 in
            (get_or labels c.0 none, (c.1.0, walk_named c.1.0 n c.0 low c.1.1), (c.2.0, walk_named (suc c.2.0) c.0 c.0 there c.2.1)),
        λ c. cyclic_from_name needs deps is_graph (λ k. get_or labels k none) (λ k l. names k (omega (arith, l, same_size))) n (omega (arith, low, same_size)) c,
      )

      pub all_reached : AreReached needs asked same labels
      all_reached = record {
        once = subst (IsDistinct same) (sym are)
            (mapped_distinct (λ n. get_or nodes n none) origin new.once (λ n m i j other. names_apart n m (origin_in n i) (origin_in m j) other));
        all = λ x. (
          λ h.
              let low = h.1 in
              let at : get_or nodes (get_or origin h.0 0) none ≡ x = sym (label_is h.0 (omega (arith, low, size))) ∙ get_or_default labels h.0 none x h.1 ∙ h.2 in
              numbered.reached x (subst (λ y. is_in same decides nodes y ≡ true) at (is_in-at same decides none nodes (get_or origin h.0 0) none (origin_at h.0 (omega (arith, low, size))))),
          λ r.
              let n = number_in x (reached_in x r) in
              let low = n.1 in
              let k = has_at origin n.0 (all_among origin n.0 new.once (λ m h. let l = origin_in m h in omega (arith, l, origin_size)) (omega (arith, low, origin_size))) in
              let low' = k.1 in
              let at : get_or labels k.0 none ≡ x = label_is k.0 (omega (arith, low', origin_size)) ∙ ap (λ j. get_or nodes j none) k.2 ∙ n.2 in
              (k.0, omega (arith, low', origin_size, size), get_or_default labels k.0 x none (omega (arith, low', origin_size, size)) ∙ at),
        );
      }

-- the graph of labels
pub graph_of_labels : (needs : LabelParts → List LabelParts) (asked given : List LabelParts) → asked ≡ given → (numbers : List LabelParts) (rows : List (List ℕ)) → Numbering same_label no_label needs asked numbers rows → length rows ≡ length numbers
    → (origin : List ℕ) (edges : EdgesView) → IsRenumbered rows origin edges.deps → IsGraph edges.deps → (labels : List LabelParts) → labels ≡ map (label_at numbers) origin → IsGraphOf needs given (record { labels = labels; edges = edges })
graph_of_labels needs asked given same numbers rows numbered whole origin edges new is_graph labels are =
    subst (λ ls. IsGraphOf needs ls (record { labels = labels; edges = edges })) same (record {
      nodes = all_reached same_label same_label-decides no_label needs asked numbers rows numbered whole origin edges.deps new is_graph labels are;
      graph = is_graph;
      size = same_size same_label same_label-decides no_label needs asked numbers rows numbered whole origin edges.deps new is_graph labels are;
      deps = names same_label same_label-decides no_label needs asked numbers rows numbered whole origin edges.deps new is_graph labels are;
      cyclic = cyclic_named same_label same_label-decides no_label needs asked numbers rows numbered whole origin edges.deps new is_graph labels are;
    })
