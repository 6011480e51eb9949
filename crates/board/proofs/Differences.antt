-- The law in numbers: what is missing is what there is less what was done.
use Rattle.std.proofs.Common.{◌≡◌, ◌≢◌, ℕ, zero, suc, ◌+◌, ◌<◌, ◌≤◌, cond, eqb, List, [], ◌∷◌, length, sym, refl, ◌∙◌, subst, arith, eq-eqb, ne_eqb}
use mathlib.Core.Logic.{dite}
use native.Mathlib.Decide.{ℕ_discrete}
use Rattle.board.specs.declared.journal.Journal.{Journal}
use Rattle.board.specs.Journal.{times, edge_times, edges_into, tally, Each, bit, deps, finishes, delivers, delivered_into, finished_count, missing, unfinished}
use Rattle.board.specs.Lawful.{WorkFollowsStart, IsLawful, IsPlan, CountsAreDifferences}
use Rattle.board.proofs.Counts.{times_here, times_else, below, below_none, below_plus, length_below, none_is, some_is}
use Rattle.board.proofs.Facts.{facts_of}

-- f of each of these numbers, added up
over : (ℕ → ℕ) → List ℕ → ℕ
over f [] = 0
over f (d ∷ ds) = f d + over f ds

over_none : (ds : List ℕ) → over (λ _. 0) ds ≡ 0
unfolding over
over_none [] = refl
over_none (d ∷ ds) = let r = over_none ds in omega arith

over_plus : (f g : ℕ → ℕ) (ds : List ℕ) → over (λ d. f d + g d) ds ≡ over f ds + over g ds
unfolding over
over_plus f g [] = refl
over_plus f g (d ∷ ds) = let r = over_plus f g ds in omega arith

-- b at x, and 0 elsewhere
at_one : ℕ → ℕ → ℕ → ℕ
at_one x b d = cond (eqb d x) b 0

at_here : (x b d : ℕ) → d ≡ x → at_one x b d ≡ b
unfolding at_one
at_here x b d e = rw (eq-eqb d x e) refl

at_else : (x b d : ℕ) → d ≢ x → at_one x b d ≡ 0
unfolding at_one
at_else x b d ne = rw (ne_eqb d x ne) refl

at_zero : (x b : ℕ) (ds : List ℕ) → b ≡ 0 → over (at_one x b) ds ≡ 0
unfolding over
at_zero x b [] z = refl
at_zero x b (d ∷ ds) z = let r = at_zero x b ds z in dite (ℕ_discrete d x) (λ e. let a = at_here x b d e in omega arith) (λ ne. let a = at_else x b d ne in omega arith)

at_none : (x b : ℕ) (ds : List ℕ) → times x ds ≡ 0 → over (at_one x b) ds ≡ 0
unfolding over
at_none x b [] z = refl
at_none x b (d ∷ ds) z = dite (ℕ_discrete x d)
    (λ e. let t : times x (x ∷ ds) ≡ 0 = subst (λ j. times x (j ∷ ds) ≡ 0) (sym e) z in let h = times_here x ds in absurd (omega arith))
    (λ ne. let t = times_else x d ds ne in let r = at_none x b ds (omega arith) in let a = at_else x b d (λ e. ne (sym e)) in omega arith)

at_once : (x b : ℕ) (ds : List ℕ) → times x ds ≡ 1 → over (at_one x b) ds ≡ b
unfolding over
at_once x b [] o = absurd (omega arith)
at_once x b (d ∷ ds) o = dite (ℕ_discrete x d)
    (λ e. let t : times x (x ∷ ds) ≡ 1 = subst (λ j. times x (j ∷ ds) ≡ 1) (sym e) o in let h = times_here x ds in let a = at_here x b d (sym e) in let r = at_none x b ds (omega arith) in omega arith)
    (λ ne. let t = times_else x d ds ne in let r = at_once x b ds (omega arith) in let a = at_else x b d (λ e. ne (sym e)) in omega arith)

-- of edges into u from distinct dependencies, each dependency's add up to all
edges_over : (u : ℕ) (es : List (ℕ × ℕ)) (ds : List ℕ) → ((x : ℕ) → times x ds ≤ 1) → ((d : ℕ) → 0 < edge_times d u es → 0 < times d ds) → over (λ d. edge_times d u es) ds ≡ edges_into u es
unfolding at_one
edges_over u [] ds one inside = over_none ds
edges_over u (e ∷ es) ds one inside =
    let p = over_plus (at_one e.0 (bit (eqb u e.1))) (λ d. edge_times d u es) ds in
    let r = edges_over u es ds one (λ d q. inside d (omega arith)) in dite (ℕ_discrete u e.1)
    (λ i.
    let b : bit (eqb u e.1) ≡ 1 = rw (eq-eqb u e.1 i) refl in
    let h = at_here e.0 (bit (eqb u e.1)) e.0 refl in let o = one e.0 in
    let t = inside e.0 (omega arith) in
    let a = at_once e.0 (bit (eqb u e.1)) ds (omega arith) in omega arith)
    (λ ne. let b : bit (eqb u e.1) ≡ 0 = rw (ne_eqb u e.1 ne) refl in let a = at_zero e.0 (bit (eqb u e.1)) ds b in omega arith)

over_tally : (f : ℕ → Journal → ℕ) (js : List Journal) (ds : List ℕ) → over (λ d. tally (f d) js) ds ≡ tally (λ j. over (λ d. f d j) ds) js
over_tally f [] ds = over_none ds
over_tally f (j ∷ js) ds = let p = over_plus (λ d. f d j) (λ d. tally (f d) js) ds in let r = over_tally f js ds in omega arith

tally_each : (f g : Journal → ℕ) (P : Journal → Type 0) (js : List Journal) → ((j : Journal) → P j → f j ≡ g j) → Each P js → tally f js ≡ tally g js
tally_each f g P [] e p = refl
tally_each f g P (j ∷ js) e p = let a = e j p.0 in let r = tally_each f g P js e p.1 in omega arith

delivered_all : (plan : List (List ℕ)) (js : List Journal) (u : ℕ) → IsPlan plan → Each (WorkFollowsStart plan) js → over (λ d. delivers d u js) (deps plan u) ≡ delivered_into u js
delivered_all plan js u shape work =
    over_tally (λ d j. edge_times d u j.delivered) js (deps plan u)
    ∙ tally_each (λ j. over (λ d. edge_times d u j.delivered) (deps plan u)) (λ j. edges_into u j.delivered) (WorkFollowsStart plan) js (λ j w. edges_over u j.delivered (deps plan u) (shape.distinct u) (λ d p. w.edges d u p)) work

missing_and_delivered : (js : List Journal) (u : ℕ) (ds : List ℕ) → ((d : ℕ) → delivers d u js ≤ 1) → missing js u ds + over (λ d. delivers d u js) ds ≡ length ds
unfolding over
missing_and_delivered js u [] one = refl
missing_and_delivered js u (d ∷ ds) one = let r = missing_and_delivered js u ds one in let o = one d in dite (ℕ_discrete (delivers d u js) 0)
    (λ e. let a : bit (eqb (delivers d u js) 0) ≡ 1 = rw (eq-eqb (delivers d u js) 0 e) refl in omega arith)
    (λ ne. let a : bit (eqb (delivers d u js) 0) ≡ 0 = rw (ne_eqb (delivers d u js) 0 ne) refl in omega arith)

finished_below : (plan : List (List ℕ)) (js : List Journal) → Each (WorkFollowsStart plan) js → below (λ m. finishes m js) (length plan) ≡ finished_count js
finished_below plan [] work = below_none (λ m. 0) (length plan) (λ m l. refl)
finished_below plan (j ∷ js) work =
    let p = below_plus (λ m. finishes m (j ∷ js)) (λ m. times m j.finished) (λ m. finishes m js) (length plan) (λ m. refl) in
    let l = length_below (length plan) j.finished (λ x q. work.0.nodes x (work.0.finished x q)) in let r = finished_below plan js work.1 in omega arith

unfinished_and_finished : (js : List Journal) (k : ℕ) → ((m : ℕ) → finishes m js ≤ 1) → unfinished js k + below (λ m. finishes m js) k ≡ k
unfolding below
unfinished_and_finished js zero one = refl
unfinished_and_finished js (suc k) one = let r = unfinished_and_finished js k one in let o = one k in dite (ℕ_discrete (finishes k js) 0)
    (λ e. let a : bit (eqb (finishes k js) 0) ≡ 1 = none_is js k e in omega arith)
    (λ ne. let a : bit (eqb (finishes k js) 0) ≡ 0 = some_is js k (omega arith) in omega arith)

pub differences : (plan : List (List ℕ)) (words : List ℕ) (js : List Journal) → IsPlan plan → IsLawful plan words js → CountsAreDifferences plan words js
differences plan words js shape law =
    let f = facts_of plan words js law in
    let edges : (n : ℕ) → missing js n (deps plan n) + delivered_into n js ≡ length (deps plan n) = λ n.
    let m = missing_and_delivered js n (deps plan n) (λ d. f.once_delivered d n) in let d = delivered_all plan js n shape law.work_follows_start in omega arith in
    let c = f.count in let u = unfinished_and_finished js (length plan) f.once_finished in let b = finished_below plan js law.work_follows_start in
    record { waiting = λ n lt z. let w = f.waiting n lt z in let e = edges n in omega arith; edges = edges; count = omega arith }
