-- Each step keeps the rule of the table.
use Rattle.std.proofs.Common.{◌≡◌, ℕ, ◌+◌, ◌-◌, ◌%◌, ◌^◌, ◌<◌, ◌≤◌, Bool, true, false, eqb, List, [], ◌∷◌, ◌++◌, length, set, get_or, sym, refl, ap, ◌∙◌, subst, arith, eq-eqb, ne_eqb, length-set}
use Rattle.std.proofs.lemmas.List.{set-get_or}
use mathlib.Core.Logic.{dite}
use mathlib.Core.Option.{none, some}
use native.Mathlib.Decide.{ℕ_discrete}
use lib.ListN.{get_elem?}
use prog.Atomic.{either}
use Rattle.atomic_table.specs.Table.{State, step, keeps, stepped, Allows, Splits, Joins, Enters, Final, Seen}
use Rattle.atomic_table.proofs.Lists.{set_again, set_else}
use Rattle.board.specs.declared.journal.Journal.{Journal}
use Rattle.board.specs.Journal.{times, edge_times, tally, Each, deps, bit, starts, missing, mark}
use Rattle.board.specs.Lawful.{IsLawful, WasComplete}
use Rattle.board.proofs.Facts.{Fits, Facts, facts_of, lawful_of}
use Rattle.board.specs.Rule.{all_journals, IsBoardState}
use Rattle.board.specs.Steps.{with_started, with_finished, with_seen, with_least, with_set, with_saw, Mine, first_journal, IsOne, with_delivered, with_readied, comparing, delivering, looking, head_of, tail_of, starting, finishing, counting, halting, hearing}
use Rattle.board.proofs.JournalLists.{among_at, tally_set, tally_length, tally_at, tally-append, tally_snoc, tally_none, each_at, each_set, each-append, each_snoc}
use Rattle.board.proofs.Counts.{missing_none, no_pos, missing_le, times_here, times_else, left_rest}
use Rattle.board.proofs.LawSteps.{looks, started_law, finished_law, halted_law, one_less, law_same, gave_law, some_missing, u_word}

not_true : (b : Bool) → (b ≡ true → ⊥) → b ≡ false
not_true true f = absurd (f refl)
not_true false f = refl

bit_no : (b : Bool) → (0 < bit b → ⊥) → b ≡ false
bit_no true f = absurd (f (omega arith))
bit_no false f = refl

kept : (plan : List (List ℕ)) (passes : ℕ) (words words' : List ℕ) (vs : List (List Journal)) (id : ℕ) (h k : Journal) → IsBoardState plan passes words vs → get_elem? vs id ≡ some (h ∷ [])
    → length words' ≡ length words → k.plan ≡ h.plan → Facts plan words' (all_journals (set vs id (k ∷ []))) → IsBoardState plan passes words' (set vs id (k ∷ []))
kept plan passes words words' vs id h k r at wide same law = record {
  wide = wide ∙ r.wide;
  all = let a = tally_set (λ _. 1) vs id (h ∷ []) (k ∷ []) at in let b = tally_length (all_journals vs) in let c = tally_length (all_journals (set vs id (k ∷ []))) in let d = r.all in omega arith;
  told = each_set (λ x. x.plan ≡ plan) vs id (k ∷ []) r.told (same ∙ (each_at (λ x. x.plan ≡ plan) vs id (h ∷ []) at r.told).0, tt);
  shape = r.shape;
  law = lawful_of plan words' (all_journals (set vs id (k ∷ []))) law;
}

module _ (plan : List (List ℕ)) (passes slots id : ℕ) (me : Mine) (one : IsOne me.0) where
  abbrev St : Type 0
  St = State (Unit {0}) (List Journal)

  abbrev Holds : St → Type 0
  Holds s = IsBoardState plan passes s.words s.views

  abbrev h : Journal
  h = first_journal me.0

  module _ (s : St) (r : Holds s) (at_ : get_elem? s.views id ≡ some me.0) where
    abbrev hs : List Journal
    hs = all_journals s.views

    at : get_elem? s.views id ≡ some (h ∷ [])
    at = at_ ∙ ap some one

    facts : Facts plan s.words hs
    facts = facts_of plan s.words hs r.law

    mine : Fits plan s.words hs h
    mine = (each_at (Fits plan s.words hs) s.views id (h ∷ []) at facts.fits).0

    told : h.plan ≡ plan
    told = (each_at (λ x. x.plan ≡ plan) s.views id (h ∷ []) at r.told).0

    -- a load
    loads : (i : ℕ) (k : Journal) → Facts plan s.words (all_journals (set s.views id (k ∷ []))) → k.plan ≡ h.plan → Holds (stepped s i (get_or s.words i 0) id me.1 (k ∷ []) keeps)
    loads i k law same = subst (λ ws. IsBoardState plan passes ws (set s.views id (k ∷ []))) (sym (set-get_or s.words i 0)) (kept plan passes s.words s.words s.views id h k r at refl same law)

    looked : (k : Journal) → ((n : ℕ) → times n k.started ≡ times n h.started) → ((n : ℕ) → times n k.readied ≡ times n h.readied) → ((n : ℕ) → times n k.finished ≡ times n h.finished)
        → ((d u : ℕ) → edge_times d u k.delivered ≡ edge_times d u h.delivered) → bit k.set ≡ bit h.set → Fits plan s.words hs k → Facts plan s.words (all_journals (set s.views id (k ∷ [])))
    looked k a b c d e f = looks plan s.words s.views id h k facts at a b c d e f

    -- where the word of n is 0, every edge into it was delivered
    was_complete : (n : ℕ) → n < length plan → get_or s.words n 0 ≡ 0 → WasComplete n h
    was_complete n lt z =
        let none_yet : starts n hs ≡ 0 = no_pos (starts n hs) (λ p. let m : get_or s.words n 0 ≡ mark = facts.marked n lt p in omega arith) in
        let all : missing hs n (deps plan n) ≡ 0 = sym (facts.waiting n lt none_yet) ∙ z in record {
          words = s.words;
          journals = hs;
          among = among_at s.views id h at;
          lawful = subst (λ p. IsLawful p s.words hs) (sym told) r.law;
          zero = z;
          edges = λ d p. missing_none hs n d (deps plan n) (subst (λ q. 0 < times d (deps q n)) told p) all;
        }

  pub allows_start : (n : ℕ) → n < length plan → Allows Holds slots id me n (λ x. either (eqb x 0) mark x) (starting (step slots n 0 mark none) me)
  allows_start n lt s r len at_ small = let x : ℕ = get_or s.words n 0 in let law = facts s r at_ in let f = mine s r at_ in dite (ℕ_discrete x 0)
      (λ z. (
        with_started n h ∷ [],
        keeps,
        tt,
        subst (λ b. Holds (stepped s n (either b mark x) id me.1 (with_started n h ∷ []) keeps)) (sym (eq-eqb x 0 z))
            (kept plan passes s.words (set s.words n mark) s.views id h (with_started n h) r (at s r at_) (length-set s.words n mark) refl (started_law plan s.words s.views id h n law (at s r at_) r.wide lt z)),
        (
          refl,
          record {
            took = λ _. refl;
            fresh = λ _. (let none_yet : starts n (hs s r at_) ≡ 0 = no_pos (starts n (hs s r at_)) (λ p. let m : x ≡ mark = law.marked n lt p in omega arith) in
                let a = tally_at (λ y. times n y.started) s.views id h (at s r at_) in
                (omega arith, no_pos (times n h.seen) (λ p. let b = f.seen n p in omega arith)));
            complete = λ _. was_complete s r at_ n lt z;
            other = λ e. absurd (omega arith);
            early = λ nz. absurd (nz z);
          },
        ),
      ))
      (λ nz. dite (ℕ_discrete x mark)
      (λ m.
      let begun : 0 < starts n (hs s r at_) = dite (ℕ_discrete (starts n (hs s r at_)) 0)
      (λ e. let w = law.waiting n lt e in let le = missing_le (hs s r at_) n (deps plan n) in let sh = r.shape.short n in absurd (omega arith)) (λ ne. omega arith) in
      let fit : Fits plan s.words (hs s r at_) (with_seen n h) = record {
        own = record { nodes = f.own.nodes; edges = f.own.edges; delivered = f.own.delivered; finished = f.own.finished; whole = f.own.whole };
        least = f.least;
        saw = f.saw;
        seen = λ j p. dite (ℕ_discrete j n) (λ e. subst (λ i. 0 < starts i (hs s r at_)) (sym e) begun) (λ ne. f.seen j (let t = times_else j n h.seen ne in omega arith));
      } in (
        with_seen n h ∷ [],
        keeps,
        tt,
        subst (λ b. Holds (stepped s n (either b mark x) id me.1 (with_seen n h ∷ []) keeps)) (sym (ne_eqb x 0 nz))
            (loads s r at_ n (with_seen n h) (looked s r at_ (with_seen n h) (λ _. refl) (λ _. refl) (λ _. refl) (λ _ _. refl) refl fit) refl),
        (refl, record { took = λ z. absurd (nz z); fresh = λ z. absurd (nz z); complete = λ z. absurd (nz z); other = λ _. refl; early = λ _ nm. absurd (nm m) }),
      ))
      (λ nm.
      let none_yet : starts n (hs s r at_) ≡ 0 = no_pos (starts n (hs s r at_)) (λ p. nm (law.marked n lt p)) in
      let w = law.waiting n lt none_yet in let le = missing_le (hs s r at_) n (deps plan n) in
      let waits : 0 < length (deps h.plan n) = subst (λ p. 0 < length (deps p n)) (sym (told s r at_)) (omega arith) in
      let unready : times n h.readied ≡ 0 = no_pos (times n h.readied) (λ p. let a = tally_at (λ y. times n y.readied) s.views id h (at s r at_) in nz (w ∙ law.readied n (omega arith))) in (
        h ∷ [],
        keeps,
        tt,
        subst (λ b. Holds (stepped s n (either b mark x) id me.1 (h ∷ []) keeps)) (sym (ne_eqb x 0 nz))
            (loads s r at_ n h (looked s r at_ h (λ _. refl) (λ _. refl) (λ _. refl) (λ _ _. refl) refl f) refl),
        (refl, record { took = λ z. absurd (nz z); fresh = λ z. absurd (nz z); complete = λ z. absurd (nz z); other = λ m. absurd (nm m); early = λ _ _. (refl, (waits, unready)) }),
      )))

  pub allows_finish : (n : ℕ) → 0 < times n h.started → times n h.finished ≡ 0 → ((u : ℕ) → 0 < times n (deps plan u) → 0 < edge_times n u h.delivered)
      → Allows Holds slots id me (length plan) (λ x. (x + (2 ^ 64 - 1)) % 2 ^ 64) (finishing n (step slots (length plan) 1 0 none) me)
  allows_finish n start first whole s r len at_ small = let x : ℕ = get_or s.words (length plan) 0 in let law = facts s r at_ in
      let ol = one_less plan s.words s.views id h n law (at s r at_) r.wide start first whole in let co = law.count in
      let fits : x < 18446744073709551616 = small in
      let less : x - 1 ≡ (x + 18446744073709551615) % 18446744073709551616 = omega arith in (
        with_finished n h ∷ [],
        keeps,
        tt,
        subst (λ y. Holds (stepped s (length plan) y id me.1 (with_finished n h ∷ []) keeps)) less
            (kept plan passes s.words (set s.words (length plan) (x - 1)) s.views id h (with_finished n h) r (at s r at_) (length-set s.words (length plan) (x - 1)) refl
            (finished_law plan s.words s.views id h n law (at s r at_) r.wide start first whole)),
        (refl, refl),
      )

  pub allows_left : Allows Holds slots id me (length plan) (λ x. x) (counting (step slots (length plan) 0 0 none) me)
  allows_left s r len at_ small = let x : ℕ = get_or s.words (length plan) 0 in let law = facts s r at_ in let f = mine s r at_ in let co = law.count in
      let a = left_rest (hs s r at_) (length plan) h.finished (λ j p. f.own.nodes j (f.own.finished j p)) (λ j. tally_at (λ y. times j y.finished) s.views id h (at s r at_)) law.once_finished in
      let same : length h.plan ≡ length plan = ap length (told s r at_) in
      let fit : Fits plan s.words (hs s r at_) (with_least x h) = record { own = record { nodes = f.own.nodes; edges = f.own.edges; delivered = f.own.delivered; finished = f.own.finished; whole = f.own.whole }; least = omega arith; saw = f.saw; seen = f.seen } in (
        with_least x h ∷ [],
        keeps,
        tt,
        loads s r at_ (length plan) (with_least x h) (looked s r at_ (with_least x h) (λ _. refl) (λ _. refl) (λ _. refl) (λ _ _. refl) refl fit) refl,
        (refl, record { lower = f.least; rest = omega arith; now = refl }),
      )

  pub allows_halt : Allows Holds slots id me (length plan + 1) (λ _. 1) (λ _. halting (step slots (length plan + 1) 1 0 none) me 1)
  allows_halt s r len at_ small = (
    with_set h ∷ [],
    keeps,
    tt,
    kept plan passes s.words (set s.words (length plan + 1) 1) s.views id h (with_set h) r (at s r at_) (length-set s.words (length plan + 1) 1) refl (halted_law plan s.words s.views id h (facts s r at_) (at s r at_) r.wide),
    (refl, refl),
  )

  pub allows_halted : Allows Holds slots id me (length plan + 1) (λ x. x) (hearing (step slots (length plan + 1) 0 0 none) me)
  allows_halted s r len at_ small = let x : ℕ = get_or s.words (length plan + 1) 0 in let law = facts s r at_ in let f = mine s r at_ in dite (ℕ_discrete x 1)
      (λ e.
      let fit : Fits plan s.words (hs s r at_) (with_saw h) = record { own = record { nodes = f.own.nodes; edges = f.own.edges; delivered = f.own.delivered; finished = f.own.finished; whole = f.own.whole }; least = f.least; saw = λ _. e; seen = f.seen } in (
        with_saw h ∷ [],
        keeps,
        tt,
        loads s r at_ (length plan + 1) (with_saw h) (looked s r at_ (with_saw h) (λ _. refl) (λ _. refl) (λ _. refl) (λ _ _. refl) refl fit) refl,
        (refl, record { is_set = λ _. refl; unset = λ ne. absurd (ne e) }),
      ))
      (λ ne.
      let unset : h.set ≡ false = bit_no h.set (λ p. let a = tally_at (λ y. bit y.set) s.views id h (at s r at_) in ne (law.halt_set (omega arith))) in
      let unseen : h.saw ≡ false = not_true h.saw (λ p. ne (f.saw p)) in (
        h ∷ [],
        keeps,
        tt,
        loads s r at_ (length plan + 1) h (looked s r at_ h (λ _. refl) (λ _. refl) (λ _. refl) (λ _ _. refl) refl f) refl,
        (refl, record { is_set = λ e. absurd (ne e); unset = λ _. (refl, unset, unseen) }),
      ))

  pub allows_deliver : (d u : ℕ) → 0 < times d h.started → edge_times d u h.delivered ≡ 0 → 0 < times d (deps plan u)
      → Allows Holds slots id me u (λ x. (x + (2 ^ 64 - 1)) % 2 ^ 64) (delivering d (step slots u 1 0 none) me)
  allows_deliver d u start first edge s r len at_ small = let x : ℕ = get_or s.words u 0 in let law = facts s r at_ in let dis = r.shape.distinct u in
      let sm = some_missing plan s.words s.views id h d u law (at s r at_) r.wide dis start first edge in
      let uw = u_word plan s.words s.views id h d u law (at s r at_) r.wide dis start first edge in
      let fits : x < 18446744073709551616 = small in
      let less : x - 1 ≡ (x + 18446744073709551615) % 18446744073709551616 = omega arith in
      let a : Journal = with_delivered d u h in let b : Journal = with_readied u a in dite (ℕ_discrete x 1)
      (λ e. (
        b ∷ [],
        keeps,
        tt,
        subst (λ y. Holds (stepped s u y id me.1 (b ∷ []) keeps)) less
            (kept plan passes s.words (set s.words u (x - 1)) s.views id h b r (at s r at_) (length-set s.words u (x - 1)) refl
            (gave_law plan s.words s.views id h d u law (at s r at_) r.wide dis start first edge b refl refl refl refl refl refl refl (λ m ne. times_else m u h.readied ne) (λ _. times_here u h.readied) (λ ne. absurd (ne e)))),
        (refl, record { last = λ _. refl; more = λ ne. absurd (ne e) }),
      ))
      (λ ne. (
        a ∷ [],
        keeps,
        tt,
        subst (λ y. Holds (stepped s u y id me.1 (a ∷ []) keeps)) less
            (kept plan passes s.words (set s.words u (x - 1)) s.views id h a r (at s r at_) (length-set s.words u (x - 1)) refl
            (gave_law plan s.words s.views id h d u law (at s r at_) r.wide dis start first edge a refl refl refl refl refl refl refl (λ m _. refl) (λ e. absurd (ne e)) (λ _. refl))),
        (refl, record { last = λ e. absurd (ne e); more = λ _. refl }),
      ))

  pub allows_look : (n : ℕ) → n < length plan → Allows Holds slots id me n (λ x. x) (looking (step slots n 0 0 none) me)
  allows_look n lt s r len at_ small = let x : ℕ = get_or s.words n 0 in let law = facts s r at_ in let f = mine s r at_ in dite (ℕ_discrete x mark)
      (λ m.
      let begun : 0 < starts n (hs s r at_) = dite (ℕ_discrete (starts n (hs s r at_)) 0)
      (λ e. let w = law.waiting n lt e in let le = missing_le (hs s r at_) n (deps plan n) in let sh = r.shape.short n in absurd (omega arith)) (λ ne. omega arith) in
      let fit : Fits plan s.words (hs s r at_) (with_seen n h) = record {
        own = record { nodes = f.own.nodes; edges = f.own.edges; delivered = f.own.delivered; finished = f.own.finished; whole = f.own.whole };
        least = f.least;
        saw = f.saw;
        seen = λ j p. dite (ℕ_discrete j n) (λ e. subst (λ i. 0 < starts i (hs s r at_)) (sym e) begun) (λ ne. f.seen j (let t = times_else j n h.seen ne in omega arith));
      } in (
        with_seen n h ∷ [],
        keeps,
        tt,
        loads s r at_ n (with_seen n h) (looked s r at_ (with_seen n h) (λ _. refl) (λ _. refl) (λ _. refl) (λ _ _. refl) refl fit) refl,
        (refl, record { started = λ _. refl; unstarted = λ ne. absurd (ne m) }),
      ))
      (λ nm.
      let none_yet : starts n (hs s r at_) ≡ 0 = no_pos (starts n (hs s r at_)) (λ p. nm (law.marked n lt p)) in
      let mine_not : times n h.started ≡ 0 = let a = tally_at (λ y. times n y.started) s.views id h (at s r at_) in omega arith in
      let unseen : times n h.seen ≡ 0 = no_pos (times n h.seen) (λ p. let b = f.seen n p in omega arith) in (
        h ∷ [],
        keeps,
        tt,
        loads s r at_ n h (looked s r at_ h (λ _. refl) (λ _. refl) (λ _. refl) (λ _ _. refl) refl f) refl,
        (refl, record { started = λ m. absurd (nm m); unstarted = λ _. (refl, (mine_not, unseen)) }),
      ))

-- the views are cut and joined otherwise, and the journals stay
regroup : (plan : List (List ℕ)) (passes : ℕ) (words : List ℕ) (vs us : List (List Journal)) → IsBoardState plan passes words vs → ((f : Journal → ℕ) → tally f (all_journals us) ≡ tally f (all_journals vs))
    → ((P : Journal → Type 0) → Each P (all_journals vs) → Each P (all_journals us)) → IsBoardState plan passes words us
regroup plan passes words vs us r counts each = record {
  wide = r.wide;
  all = let a = counts (λ _. 1) in let b = tally_length (all_journals vs) in let c = tally_length (all_journals us) in let d = r.all in omega arith;
  told = each (λ x. x.plan ≡ plan) r.told;
  shape = r.shape;
  law = let law = facts_of plan words (all_journals vs) r.law in lawful_of plan words (all_journals us) (law_same plan words (all_journals vs) (all_journals us) law (λ n. counts (λ x. times n x.started)) (λ n. counts (λ x. times n x.readied)) (λ n. counts (λ x. times n x.finished))
      (λ d u. counts (λ x. edge_times d u x.delivered)) (counts (λ x. bit x.set)) (each (Fits plan words (all_journals vs)) law.fits));
}

module _ (plan : List (List ℕ)) (passes : ℕ) where
  abbrev Rule : State (Unit {0}) (List Journal) → Type 0
  Rule s = IsBoardState plan passes s.words s.views

  pub allows_join : (id other : ℕ) (v w : List Journal) → Joins Rule id v other w (v ++ w) []
  allows_join id other v w s r at apart at' =
      let vs : List (List Journal) = set s.views id (v ++ w) in
      let was : get_elem? s.views other ≡ some w = sym (set_else s.views id other (v ++ w) apart) ∙ at' in
      regroup plan passes s.words s.views (set vs other []) r
      (λ f. let a = tally_set f s.views id v (v ++ w) at in let b = tally_set f vs other w [] at' in let c = tally-append f v w in omega arith)
      (λ P p. each_set P vs other [] (each_set P s.views id (v ++ w) p (each-append P v w (each_at P s.views id v at p) (each_at P s.views other w was p))) tt)

  pub allows_split : (id : ℕ) (v l r : List Journal) → ((f : Journal → ℕ) → tally f l + tally f r ≡ tally f v) → ((P : Journal → Type 0) → Each P v → Each P l × Each P r) → Splits Rule id v l r
  allows_split id v l r counts each s k at =
      regroup plan passes s.words s.views (set s.views id l ++ r ∷ []) k
      (λ f. let a = tally_set f s.views id v l at in let b = tally_snoc f (set s.views id l) r in let c = counts f in omega arith)
      (λ P p. let q = each P (each_at P s.views id v at p) in each_snoc P (set s.views id l) r (each_set P s.views id l p q.0) q.1)

  pub allows_compare : (slots id : ℕ) (me : Mine) → Allows Rule slots id me 0 (λ x. x) (comparing (step slots 0 0 0 none) me)
  allows_compare slots id me s r len at small =
      let le : (f : Journal → ℕ) → tally f me.0 ≤ tally f (all_journals s.views) = λ f. let a = tally_set f s.views id me.0 [] at in omega arith in (
        me.0,
        keeps,
        tt,
        subst (λ (z : List ℕ × List (List Journal)). IsBoardState plan passes z.0 z.1) (λ i. (sym (set-get_or s.words 0 0) i, sym (set_again s.views id me.0 at) i)) r,
        (
          refl,
          record {
            started = λ n. let a = le (λ x. times n x.started) in let b = r.law.nothing_twice.started n in omega arith;
            readied = λ n. let a = le (λ x. times n x.readied) in let b = r.law.nothing_twice.readied n in omega arith;
            finished = λ n. let a = le (λ x. times n x.finished) in let b = r.law.nothing_twice.finished n in omega arith;
            delivered = λ d u. let a = le (λ x. edge_times d u x.delivered) in let b = r.law.nothing_twice.delivered d u in omega arith;
          },
        ),
      )

  -- the journals of a view that has as many as there are passes are all journals
  pub state_at_end : (id : ℕ) (v : List Journal) (words : List ℕ) (slots : List (Unit {0})) → length v ≡ passes → Final (Seen Rule id v) words slots → IsBoardState plan passes words (v ∷ [])
  state_at_end id v words slots full fin =
      let s = fin.0 in let r = fin.1.0 in let at = fin.1.1 in
      let none_left : (f : Journal → ℕ) → tally f (all_journals (set s.views id [])) ≡ 0 =
      λ f. let a = tally_set (λ _. 1) s.views id v [] at in let b = tally_length v in let c = tally_length (all_journals s.views) in let d = r.all in tally_none f (all_journals (set s.views id [])) (omega arith) in
      subst (λ ws. IsBoardState plan passes ws (v ∷ [])) fin.2
      (regroup plan passes s.words s.views (v ∷ []) r
      (λ f. let a = tally_set f s.views id v [] at in let b = none_left f in let c = tally-append f v [] in omega arith)
      (λ P p. each-append P v [] (each_at P s.views id v at p) tt))

  pub allows_empty_split : (id : ℕ) (v : List Journal) → Splits Rule id v v []
  allows_empty_split id v = allows_split id v v [] (λ f. omega arith) (λ P p. (p, tt))

  peel_counts : (f : Journal → ℕ) (v : List Journal) → tally f (tail_of v) + tally f (head_of v) ≡ tally f v
  peel_counts f [] = refl
  peel_counts f (x ∷ xs) = omega arith

  peel_each : (P : Journal → Type 0) (v : List Journal) → Each P v → Each P (tail_of v) × Each P (head_of v)
  peel_each P [] p = (tt, tt)
  peel_each P (x ∷ xs) p = (p.1, (p.0, tt))

  pub allows_first_split : (id : ℕ) (v : List Journal) → Splits Rule id v (tail_of v) (head_of v)
  allows_first_split id v = allows_split id v (tail_of v) (head_of v) (λ f. peel_counts f v) (λ P p. peel_each P v p)

  -- a seat with no journal
  pub allows_enter : (slots i : ℕ) → Enters Rule slots i (λ n w. (let v : List Journal = w in v) ≡ [])
  allows_enter slots i s r len small = (
    [],
    regroup plan passes s.words s.views (s.views ++ [] ∷ []) r (λ f. let a = tally_snoc f s.views [] in omega arith) (λ P p. each_snoc P s.views [] p tt),
    refl,
  )
