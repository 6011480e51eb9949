-- What one row more keeps, and what all rows together say.
use Rattle.std.proofs.Common.{◌≡◌, ℕ, zero, suc, ◌+◌, ◌<◌, ◌⊎◌, inl, inr, Bool, true, List, [], ◌∷◌, ◌++◌, length, get_or, map, Contains, sym, ap, ◌∙◌, subst, arith, refl, true≢false, eqb-true, eq-eqb, length-append, Decides}
use Rattle.std.specs.Prelude.{nat_eq}
use Rattle.std.specs.List.{IsDistinct}
use Rattle.std.specs.Cmp.{decided}
use Rattle.std.proofs.lemmas.List.{get_or_append_left, get_or_push}
use Rattle.std.proofs.lemmas.List.Folds.{list_any-append}
use Rattle.std.proofs.lemmas.Map.Views.{Contains-from_any, list_any-from_Contains}
use Rattle.edges.specs.Walks.{Walk}
use Rattle.edges.specs.Rows.{row, has}
use Rattle.edges.proofs.Tests.{cases_of, not_both, either, or_left}
use Rattle.edges.proofs.Lists.{has-head, has-later}
use Rattle.graph.specs.Reached.{IsReached, TooManyReached}
use Rattle.graph.specs.Numbering.{Grown, AreNumbers, Numbering}
use Rattle.graph.proofs.Growth.{is_in, place_kept, numbers_kept, is_in-at}

module _ {L : Type 0} (same : L → L → Bool) (decides : (a b : L) → Decides (same a b) (a ≡ b)) (none : L) (needs : L → List L) (asked : List L) where
  pub from_test : (xs : List L) (x : L) → is_in same decides xs x ≡ true → Contains xs x
  from_test xs x h = Contains-from_any (λ a b e. (decides a b).0 e) x xs h

  pub to_test : (xs : List L) (x : L) → Contains xs x → is_in same decides xs x ≡ true
  to_test xs x h = list_any-from_Contains (decided same decides) x xs h

  walk_more : (n : ℕ) (a b c : L) → Walk needs n a b → Contains (needs b) c → Walk needs (suc n) a c
  walk_more zero a b c w has = (c, subst (λ x. Contains (needs x) c) (sym w) has, refl)
  walk_more (suc n) a b c w has = (w.0, w.1, walk_more n w.0 b c w.2 has)

  reached_next : (t d : L) → IsReached needs asked t → is_in same decides (needs t) d ≡ true → IsReached needs asked d
  reached_next t d r h = (r.0, r.1, (suc r.2.0, walk_more r.2.0 r.0 t d r.2.1 (from_test (needs t) d h)))

  reached_asked : (x : L) → is_in same decides asked x ≡ true → IsReached needs asked x
  reached_asked x h = (x, from_test asked x h, (0, refl))

  -- what is named is among the nodes
  mapped_in : (nodes : List L) (ns : List ℕ) → ((n : ℕ) → has ns n ≡ true → n < length nodes) → (d : L) → is_in same decides (map (λ n. get_or nodes n none) ns) d ≡ true → is_in same decides nodes d ≡ true
  mapped_in nodes [] inside d h = absurd (true≢false (sym h))
  mapped_in nodes (n ∷ ns) inside d h = elim (either (same d (get_or nodes n none)) (is_in same decides (map (λ k. get_or nodes k none) ns) d) h) [
    | inl here ↦ subst (λ x. is_in same decides nodes x ≡ true) (sym ((decides d (get_or nodes n none)).0 here)) (is_in-at same decides none nodes n none (inside n (has-head n ns)))
    | inr later ↦ mapped_in nodes ns (λ m k. inside m (has-later n ns m k)) d later
  ]

  pub named_in : (nodes named : List L) (ns : List ℕ) → AreNumbers none nodes named ns → (d : L) → is_in same decides named d ≡ true → is_in same decides nodes d ≡ true
  named_in nodes named ns are d h = mapped_in nodes ns are.inside d (subst (λ xs. is_in same decides xs d ≡ true) (sym are.names) h)

  -- ---- the beginning

  pub begins : (start nodes : List L) (ns : List ℕ) (rows : List (List ℕ)) → start ≡ [] → rows ≡ [] → Grown same start asked nodes → AreNumbers none nodes asked ns → Numbering same none needs asked nodes rows
  unfolding IsDistinct
  begins start nodes ns rows empty no_rows h are =
      let g : Grown same [] asked nodes = subst (λ xs. Grown same xs asked nodes) empty h in
      subst (Numbering same none needs asked nodes) (sym no_rows) (record {
        once = g.distinct tt;
        reached = λ x h. elim (g.each x h) [ inl never ↦ absurd (true≢false (sym never)) | inr a ↦ reached_asked x a ];
        all_asked = named_in nodes asked ns are;
        within = omega arith;
        named = λ n low. absurd (omega (arith, low));
        apart = λ n low. absurd (omega (arith, low));
      })

  pub many_first : (start nodes : List L) (limit : ℕ) → start ≡ [] → Grown same start asked nodes → limit < length nodes → TooManyReached needs asked same limit
  unfolding IsDistinct
  many_first start nodes limit empty h over =
      let g : Grown same [] asked nodes = subst (λ xs. Grown same xs asked nodes) empty h in
      record {
        nodes = nodes;
        once = g.distinct tt;
        reached = λ x there. elim (g.each x (to_test nodes x there)) [ inl never ↦ absurd (true≢false (sym never)) | inr a ↦ reached_asked x a ];
        more = over;
      }

  -- ---- one row more

  module _ (nodes new needed : List L) (rows : List (List ℕ)) (was : Numbering same none needs asked nodes rows) (low : length rows < length nodes) (node : L) (turn : node ≡ get_or nodes (length rows) none) (found : needed ≡ needs node) (grown : Grown same nodes needed new) where
    its_needs : needed ≡ needs (get_or nodes (length rows) none)
    its_needs = found ∙ ap needs turn

    new_reached : (x : L) → is_in same decides new x ≡ true → IsReached needs asked x
    new_reached x h = elim (grown.each x h) [
      | inl old ↦ was.reached x old
      | inr d ↦ reached_next (get_or nodes (length rows) none) x (was.reached (get_or nodes (length rows) none) (is_in-at same decides none nodes (length rows) none low)) (subst (λ xs. is_in same decides xs x ≡ true) its_needs d)
    ]

    pub many_next : (limit : ℕ) → limit < length new → TooManyReached needs asked same limit
    many_next limit over = record {
      nodes = new;
      once = grown.distinct was.once;
      reached = λ x there. new_reached x (to_test new x there);
      more = over;
    }

    kept_at : (n : ℕ) → n < length nodes → (n < length new) × (get_or new n none ≡ get_or nodes n none)
    kept_at n l = place_kept same decides none nodes new needed n grown l

    module _ (list : List ℕ) (are : AreNumbers none new needed list) (apart : IsDistinct same needed) where
      row_last : (n : ℕ) → n ≡ length rows → row (rows ++ list ∷ []) n ≡ list
      row_last n e = get_or_push rows list [] n (sym e)

      row_before : (n : ℕ) → n < length rows → row (rows ++ list ∷ []) n ≡ row rows n
      row_before n l = get_or_append_left rows (list ∷ []) [] n l

      last_needs : (n : ℕ) → n ≡ length rows → needs (get_or new n none) ≡ needed
      last_needs n e = ap (λ k. needs (get_or new k none)) e ∙ ap needs (kept_at (length rows) low).1 ∙ sym its_needs

      size : length (rows ++ list ∷ []) ≡ length rows + 1
      size = length-append rows (list ∷ [])

      split : (n : ℕ) → n < length (rows ++ list ∷ []) → (n ≡ length rows) ⊎ (n < length rows)
      split n l = elim (cases_of (nat_eq n (length rows))) [
        | inl e ↦ inl (eqb-true n (length rows) e)
        | inr other ↦
            let apart' : n ≡ length rows → ⊥ = λ e. not_both (nat_eq n (length rows)) (eq-eqb n (length rows) e) other in
            inr (omega (arith, l, size, apart'))
      ]

      pub next_row : (more : List (List ℕ)) → more ≡ rows ++ list ∷ [] → Numbering same none needs asked new more
      next_row more e = subst (Numbering same none needs asked new) (sym e) (record {
        once = grown.distinct was.once;
        reached = new_reached;
        all_asked = λ x h.
            ap (λ xs. is_in same decides xs x) grown.kept.1 ∙ list_any-append (same x) nodes grown.kept.0
            ∙ or_left (is_in same decides nodes x) (is_in same decides grown.kept.0 x) (was.all_asked x h);
        within = let k = (kept_at (length rows) low).0 in omega (arith, size, k);
        named = λ n l. elim (split n l) [
          | inl e ↦ subst (λ r. AreNumbers none new (needs (get_or new n none)) r) (sym (row_last n e)) (subst (λ ds. AreNumbers none new ds list) (sym (last_needs n e)) are)
          | inr l' ↦
              let w = was.within in
              let k = kept_at n (omega (arith, l', w)) in
              subst (λ r. AreNumbers none new (needs (get_or new n none)) r) (sym (row_before n l'))
              (subst (λ t. AreNumbers none new (needs t) (row rows n)) (sym k.1) (numbers_kept same decides none nodes new needed (needs (get_or nodes n none)) (row rows n) grown (was.named n l')))
        ];
        apart = λ n l. elim (split n l) [
          | inl e ↦ subst (IsDistinct same) (sym (last_needs n e)) apart
          | inr l' ↦
              let w = was.within in
              let k = kept_at n (omega (arith, l', w)) in
              subst (λ t. IsDistinct same (needs t)) (sym k.1) (was.apart n l')
        ];
      })
