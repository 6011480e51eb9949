-- The walk that visits no id twice gives the listing, in as many steps as there is work.
use Rattle.std.proofs.Common.{◌≡◌, ℕ, ◌+◌, ◌≤◌, Bool, true, false, cond, ◌||◌, List, [], ◌∷◌, ◌++◌, ◌⊎◌, inl, inr, ⊎_elim, refl, sym, ap, subst, ◌∙◌, true≢false, arith, sum_by, map}
use Rattle.std.proofs.lemmas.Bool.{cases_Bool, false_from_ne_true}
use Rattle.std.proofs.lemmas.List.Sums.{sum_by-append}
use Rattle.depsets.specs.Rose.{Rose, Roses, node, none, more, label, weight, weights}
use Rattle.depsets.specs.Keys.{has, keep, keep_all, Covers}
use Rattle.depsets.specs.Flat.{Among, nodes, nodes_of, how_many, IsCoherent, ids, walk, walks, cost, cost_of, work, flat}
use Rattle.depsets.specs.Skip.{Walk, step, take_own, mark, visit, visits}
use Rattle.depsets.proofs.Keys.{keep-absent, keep_all-append, keep_all-covered, Covers-keep_all, Covers-keep, Covers-kept, has-keep_cases, has-keep_all_cases}

module _ {X : Type 0} where
  pub Among-left : (x : X) (xs ys : List X) → Among x xs → Among x (xs ++ ys)
  Among-left x [] ys h = absurd h
  Among-left x (z ∷ zs) ys (inl e) = inl e
  Among-left x (z ∷ zs) ys (inr h) = inr (Among-left x zs ys h)

  pub Among-right : (x : X) (xs ys : List X) → Among x ys → Among x (xs ++ ys)
  Among-right x [] ys h = h
  Among-right x (z ∷ zs) ys h = inr (Among-right x zs ys h)

  pub Among_cases : (x : X) (xs ys : List X) → Among x (xs ++ ys) → Among x xs ⊎ Among x ys
  Among_cases x [] ys h = inr h
  Among_cases x (z ∷ zs) ys (inl e) = inl (inl e)
  Among_cases x (z ∷ zs) ys (inr h) = ⊎_elim (λ p. inl (inr p)) inr (Among_cases x zs ys h)

pub map-append : {A B : Type 0} (f : A → B) (xs ys : List A) → map f (xs ++ ys) ≡ map f xs ++ map f ys
map-append f [] ys = refl
map-append f (x ∷ xs) ys = ap (λ l. f x ∷ l) (map-append f xs ys)

module _ {L : Type 0} where
  mutual
    light : (t : Rose L) (a : Rose L) → Among a (nodes t) → weight a ≤ weight t
    light (node x ts) a h =
        ⊎_elim {C = weight a ≤ weight (node x ts)} (λ p. let q : weight a ≤ weights ts = lights ts a p in omega arith)
        (λ p. ⊎_elim {C = weight a ≤ weight (node x ts)} (λ e. let q = ap weight e in omega arith) absurd p)
        (Among_cases a (nodes_of ts) (node x ts ∷ []) h)

    lights : (ts : Roses L) (a : Rose L) → Among a (nodes_of ts) → weight a ≤ weights ts
    lights none a h = absurd h
    lights (more t ts) a h =
        ⊎_elim {C = weight a ≤ weights (more t ts)} (λ p. let q : weight a ≤ weight t = light t a p in omega arith)
        (λ p. let q : weight a ≤ weights ts = lights ts a p in omega arith)
        (Among_cases a (nodes t) (nodes_of ts) h)

  -- no node is below itself
  not_below_itself : (x : L) (ts : Roses L) → Among (node x ts) (nodes_of ts) → ⊥
  not_below_itself x ts h = let q : weight (node x ts) ≤ weights ts = lights ts _ h in omega arith

module _ {L I E : Type 0} (id : L → I) (direct : L → List E) (eqI : I → I → Bool) (eqE : E → E → Bool)
    (sameI : (x y : I) → eqI x y ≡ true → x ≡ y) (ownI : (x : I) → eqI x x ≡ true) (ownE : (x : E) → eqE x x ≡ true)
    (pre : Bool) (ns : List (Rose L)) (coherent : IsCoherent id ns) where
  abbrev all_walks : Rose L → List E
  all_walks = walk direct pre

  -- the work of the ids seen
  abbrev spent : List I → ℕ
  spent ks = sum_by (cost_of direct id eqI ns) ks

  abbrev IsBelow : List (Rose L) → Type 0
  IsBelow ms = (a : Rose L) → Among a ms → Among a ns

  -- of each id seen, all elements and all ids below it were seen
  record Inv (s : Walk I E) : Type 0 where
    elements : (a : Rose L) → Among a ns → has eqI s.seen (id (label a)) ≡ true → Covers eqE s.items (walk direct pre a)
    below : (a : Rose L) → Among a ns → has eqI s.seen (id (label a)) ≡ true → Covers eqI s.seen (ids id (nodes a))

  record Done (t : Rose L) (s r : Walk I E) : Type 0 where
    items : r.items ≡ keep_all eqE s.items (walk direct pre t)
    seen : r.seen ≡ keep_all eqI s.seen (ids id (nodes t))
    steps : r.steps + spent s.seen ≡ s.steps + spent r.seen
    inv : Inv r

  record DoneAll (ts : Roses L) (s r : Walk I E) : Type 0 where
    items : r.items ≡ keep_all eqE s.items (walks direct pre ts)
    seen : r.seen ≡ keep_all eqI s.seen (ids id (nodes_of ts))
    steps : r.steps + spent s.seen ≡ s.steps + how_many ts + spent r.seen
    inv : Inv r

  -- before the node itself is marked
  record Middle (x : L) (ts : Roses L) (s m : Walk I E) : Type 0 where
    items : m.items ≡ keep_all eqE s.items (walk direct pre (node x ts))
    seen : m.seen ≡ keep_all eqI s.seen (ids id (nodes_of ts))
    steps : m.steps + spent s.seen ≡ s.steps + cost direct (node x ts) + spent m.seen
    inv : Inv m

  cost_at : (ms : List (Rose L)) → IsBelow ms → (a : Rose L) → Among a ms → Among a ns → cost_of direct id eqI ms (id (label a)) ≡ cost direct a
  cost_at [] sub a h an = absurd h
  cost_at (b ∷ rest) sub a h an =
      ⊎_elim
      (λ p. ap (λ c. cond c (cost direct b) (cost_of direct id eqI rest (id (label a)))) p
      ∙ ap (cost direct) (sym (coherent a b an (sub b (inl refl)) (sameI _ _ p))))
      (λ p. ap (λ c. cond c (cost direct b) (cost_of direct id eqI rest (id (label a)))) p
      ∙ cost_at rest (λ c q. sub c (inr q)) a
      (⊎_elim (λ e. absurd (true≢false (sym (ownI (id (label a))) ∙ ap (λ c. eqI (id (label a)) (id (label c))) (sym e) ∙ p))) (λ q. q) h) an)
      (cases_Bool (eqI (id (label a)) (id (label b))))

  has_ids : (ms : List (Rose L)) (i : I) → has eqI (ids id ms) i ≡ true → (b : Rose L) × Among b ms × (i ≡ id (label b))
  has_ids [] i h = absurd (true≢false (sym h))
  has_ids (b ∷ rest) i h =
      ⊎_elim (λ p. (b, inl refl, sameI _ _ p))
      (λ p. let r = has_ids rest i (sym (ap (λ c. c || has eqI (ids id rest) i) p) ∙ h) in (r.0, inr r.1, r.2))
      (cases_Bool (eqI i (id (label b))))

  inv_take : (x : L) (s : Walk I E) → Inv s → Inv (take_own id direct eqI eqE x s)
  inv_take x s inv = record {
    elements = λ a an h. Covers-keep_all eqE s.items (direct x) _ (inv.elements a an h);
    below = inv.below;
  }

  inv_step : (s : Walk I E) → Inv s → Inv (step id direct eqI eqE s)
  inv_step s inv = record { elements = inv.elements; below = inv.below }

  middle_pre : (x : L) (ts : Roses L) (s m : Walk I E) → pre ≡ true → DoneAll ts (take_own id direct eqI eqE x s) m → Middle x ts s m
  middle_pre x ts s m p d = record {
    items = d.items ∙ sym (keep_all-append eqE s.items (direct x) (walks direct pre ts))
        ∙ ap (λ b. keep_all eqE s.items (cond b (direct x ++ walks direct pre ts) (walks direct pre ts ++ direct x))) (sym p);
    seen = d.seen;
    steps = omega (arith, d.steps);
    inv = d.inv;
  }

  middle_post : (x : L) (ts : Roses L) (s m : Walk I E) → pre ≡ false → DoneAll ts s m → Middle x ts s (take_own id direct eqI eqE x m)
  middle_post x ts s m p d = record {
    items = ap (λ l. keep_all eqE l (direct x)) d.items ∙ sym (keep_all-append eqE s.items (walks direct pre ts) (direct x))
        ∙ ap (λ b. keep_all eqE s.items (cond b (direct x ++ walks direct pre ts) (walks direct pre ts ++ direct x))) (sym p);
    seen = d.seen;
    steps = omega (arith, d.steps);
    inv = inv_take x m d.inv;
  }

  absent : (x : L) (ts : Roses L) (s m : Walk I E) → IsBelow (nodes (node x ts)) → has eqI s.seen (id x) ≡ false → Middle x ts s m → has eqI m.seen (id x) ≡ false
  absent x ts s m sub h d =
      false_from_ne_true _
      (λ q. ⊎_elim (λ r. true≢false (sym r ∙ h))
      (λ r. let b = has_ids (nodes_of ts) (id x) r in
      let same = coherent (node x ts) b.0 (sub _ (Among-right _ (nodes_of ts) _ (inl refl))) (sub _ (Among-left _ (nodes_of ts) _ b.1)) b.2 in
      not_below_itself x ts (subst (λ c. Among c (nodes_of ts)) (sym same) b.1))
      (has-keep_all_cases eqI s.seen (ids id (nodes_of ts)) (id x) (subst (λ l. has eqI l (id x) ≡ true) d.seen q)))

  close : (x : L) (ts : Roses L) (s m : Walk I E) → IsBelow (nodes (node x ts)) → has eqI s.seen (id x) ≡ false → Middle x ts s m → Done (node x ts) s (mark id direct eqI eqE x m)
  close x ts s m sub h d =
      let here : Among (node x ts) ns = sub _ (Among-right _ (nodes_of ts) _ (inl refl)) in
      let gone = absent x ts s m sub h d in
      let marked : keep eqI m.seen (id x) ≡ keep_all eqI s.seen (ids id (nodes (node x ts))) =
      ap (λ l. keep eqI l (id x)) d.seen
      ∙ sym (keep_all-append eqI s.seen (ids id (nodes_of ts)) (id x ∷ []))
      ∙ ap (keep_all eqI s.seen) (sym (map-append (λ a. id (label a)) (nodes_of ts) (node x ts ∷ []))) in
      let grown = ap spent (keep-absent eqI m.seen (id x) gone) ∙ sum_by-append (cost_of direct id eqI ns) m.seen (id x ∷ []) in
      let price = cost_at ns (λ a q. q) (node x ts) here here in
      let paid : spent (keep eqI m.seen (id x)) ≡ spent m.seen + cost direct (node x ts) = omega (arith, grown, price) in
      record {
        items = d.items;
        seen = marked;
        steps = omega (arith, d.steps, paid);
        inv = record {
          elements = λ a an q.
              ⊎_elim (λ r. d.inv.elements a an r)
              (λ r. subst (λ b. Covers eqE m.items (walk direct pre b)) (sym (coherent a (node x ts) an here (sameI _ _ r)))
              (subst (λ l. Covers eqE l (walk direct pre (node x ts))) (sym d.items) (Covers-kept eqE ownE s.items (walk direct pre (node x ts)))))
              (has-keep_cases eqI m.seen (id x) (id (label a)) q);
          below = λ a an q.
              ⊎_elim (λ r. Covers-keep eqI m.seen (id x) _ (d.inv.below a an r))
              (λ r. subst (λ b. Covers eqI (keep eqI m.seen (id x)) (ids id (nodes b))) (sym (coherent a (node x ts) an here (sameI _ _ r)))
              (subst (λ l. Covers eqI l (ids id (nodes (node x ts)))) (sym marked) (Covers-kept eqI ownI s.seen (ids id (nodes (node x ts))))))
              (has-keep_cases eqI m.seen (id x) (id (label a)) q);
        };
      }

  skipped : (t : Rose L) (s : Walk I E) → Among t ns → has eqI s.seen (id (label t)) ≡ true → Inv s → Done t s s
  skipped t s here h inv = record {
    items = sym (keep_all-covered eqE s.items _ (inv.elements t here h));
    seen = sym (keep_all-covered eqI s.seen _ (inv.below t here h));
    steps = refl;
    inv = inv;
  }

  one_node : (x : L) (ts : Roses L) (s : Walk I E) → IsBelow (nodes (node x ts)) → Inv s
      → DoneAll ts (take_own id direct eqI eqE x s) (visits id direct eqI eqE pre ts (take_own id direct eqI eqE x s))
      → DoneAll ts s (visits id direct eqI eqE pre ts s)
      → Done (node x ts) s (visit id direct eqI eqE pre (node x ts) s)
  one_node x ts s sub inv before after =
      let inner = λ (p : Bool). cond p (visits id direct eqI eqE pre ts (take_own id direct eqI eqE x s)) (take_own id direct eqI eqE x (visits id direct eqI eqE pre ts s)) in
      ⊎_elim
      (λ h. subst (λ b. Done (node x ts) s (cond b s (mark id direct eqI eqE x (inner pre)))) (sym h)
      (skipped (node x ts) s (sub _ (Among-right _ (nodes_of ts) _ (inl refl))) h inv))
      (λ h. subst (λ b. Done (node x ts) s (cond b s (mark id direct eqI eqE x (inner pre)))) (sym h)
      (close x ts s (inner pre) sub h
      (⊎_elim (λ p. subst (λ b. Middle x ts s (inner b)) (sym p) (middle_pre x ts s _ p before))
      (λ p. subst (λ b. Middle x ts s (inner b)) (sym p) (middle_post x ts s _ p after)) (cases_Bool pre))))
      (cases_Bool (has eqI s.seen (id x)))

  mutual
    visit-done : (t : Rose L) (s : Walk I E) → IsBelow (nodes t) → Inv s → Done t s (visit id direct eqI eqE pre t s)
    visit-done (node x ts) s sub inv =
        let sub' : IsBelow (nodes_of ts) = λ a h. sub a (Among-left a (nodes_of ts) _ h) in
        one_node x ts s sub inv (visits-done ts (take_own id direct eqI eqE x s) sub' (inv_take x s inv)) (visits-done ts s sub' inv)

    visits-done : (ts : Roses L) (s : Walk I E) → IsBelow (nodes_of ts) → Inv s → DoneAll ts s (visits id direct eqI eqE pre ts s)
    visits-done none s sub inv = record { items = refl; seen = refl; steps = omega arith; inv = inv }
    visits-done (more t ts) s sub inv =
        let one = visit-done t (step id direct eqI eqE s) (λ a h. sub a (Among-left a (nodes t) _ h)) (inv_step s inv) in
        let rest = visits-done ts (visit id direct eqI eqE pre t (step id direct eqI eqE s)) (λ a h. sub a (Among-right a (nodes t) _ h)) one.inv in
        record {
          items = rest.items ∙ ap (λ l. keep_all eqE l (walks direct pre ts)) one.items ∙ sym (keep_all-append eqE s.items (walk direct pre t) (walks direct pre ts));
          seen = rest.seen ∙ ap (λ l. keep_all eqI l (ids id (nodes_of ts))) one.seen ∙ sym (keep_all-append eqI s.seen (ids id (nodes t)) (ids id (nodes_of ts)))
              ∙ ap (keep_all eqI s.seen) (sym (map-append (λ a. id (label a)) (nodes t) (nodes_of ts)));
          steps = omega (arith, one.steps, rest.steps);
          inv = rest.inv;
        }

-- the theorem: of a coherent tree the walk gives the listing, and makes as many steps as there is work, the root being one
module _ {L I E : Type 0} (id : L → I) (direct : L → List E) (eqI : I → I → Bool) (eqE : E → E → Bool)
    (sameI : (x y : I) → eqI x y ≡ true → x ≡ y) (ownI : (x : I) → eqI x x ≡ true) (ownE : (x : E) → eqE x x ≡ true)
    (pre : Bool) (t : Rose L) (coherent : IsCoherent id (nodes t)) where
  abbrev start : Walk I E
  start = record { seen = []; items = []; steps = 1 }

  from_start : Done id direct eqI eqE sameI ownI ownE pre (nodes t) coherent t start (visit id direct eqI eqE pre t start)
  from_start = visit-done id direct eqI eqE sameI ownI ownE pre (nodes t) coherent t start (λ a h. h) (record { elements = λ a an h. absurd (true≢false (sym h)); below = λ a an h. absurd (true≢false (sym h)) })

  pub items-visit : (visit id direct eqI eqE pre t start).items ≡ flat direct eqE pre t
  items-visit = from_start.items

  pub steps-visit : (visit id direct eqI eqE pre t start).steps ≡ work direct id eqI t
  steps-visit =
      let e = ap (λ l. sum_by (cost_of direct id eqI (nodes t)) l) from_start.seen in
      omega (arith, from_start.steps, e)
