-- Each kind of step keeps the law.
use Rattle.std.proofs.Common.{◌≡◌, ◌≢◌, ℕ, ◌+◌, ◌-◌, ◌<◌, ◌≤◌, List, [], ◌∷◌, length, set, get_or, sym, refl, ap, ◌∙◌, subst, arith, get_or-set_other, get_or-set_same}
use Rattle.std.specs.Prelude.{Option, None, Some}
use mathlib.Core.Logic.{dite}
use mathlib.Core.Option.{some}
use native.Mathlib.Decide.{ℕ_discrete}
use lib.ListN.{get_elem?}
use Rattle.board.specs.declared.journal.Journal.{Journal}
use Rattle.board.specs.Journal.{times, edge_times, tally, Each, deps, bit, starts, readies, finishes, delivers, sets, missing, unfinished, AtMost, mark}
use Rattle.board.specs.Lawful.{WorkFollowsStart}
use Rattle.board.proofs.Facts.{Fits, Facts}
use Rattle.board.specs.Rule.{all_journals}
use Rattle.board.specs.Steps.{with_started, with_finished, with_set}
use Rattle.board.proofs.JournalLists.{tally_set, tally_at, each_at, each_set, each_on, others, quiet}
use Rattle.board.proofs.Counts.{times_here, times_else, missing_same, unfinished_same, no_pos, unfinished_less, edge_times_here, edge_times_else, deps_inside, missing_some, missing_one}

at_most_less : (n m : ℕ) (o : Option ℕ) → m ≤ n → AtMost n o → AtMost m o
at_most_less n m None le p = tt
at_most_less n m (Some k) le p = omega arith

pub fits_on : (plan : List (List ℕ)) (words words' : List ℕ) (hs hs' : List Journal) → get_or words' (length plan) 0 ≤ get_or words (length plan) 0
    → (get_or words (length plan + 1) 0 ≡ 1 → get_or words' (length plan + 1) 0 ≡ 1) → ((n : ℕ) → starts n hs ≤ starts n hs')
    → (h : Journal) → Fits plan words hs h → Fits plan words' hs' h
fits_on plan words words' hs hs' less halt more h f = record {
  own = f.own;
  least = at_most_less (get_or words (length plan) 0) (get_or words' (length plan) 0) h.least less f.least;
  saw = λ s. halt (f.saw s);
  seen = λ n p. let a = f.seen n p in let b = more n in omega arith;
}

-- the words and the counts stay
pub law_same : (plan : List (List ℕ)) (words : List ℕ) (hs hs' : List Journal) → Facts plan words hs → ((n : ℕ) → starts n hs' ≡ starts n hs) → ((n : ℕ) → readies n hs' ≡ readies n hs)
    → ((n : ℕ) → finishes n hs' ≡ finishes n hs) → ((d u : ℕ) → delivers d u hs' ≡ delivers d u hs) → sets hs' ≡ sets hs → Each (Fits plan words hs) hs' → Facts plan words hs'
law_same plan words hs hs' law st re fi de se fits =
    let mi : (n : ℕ) → missing hs' n (deps plan n) ≡ missing hs n (deps plan n) = λ n. missing_same hs' hs n (deps plan n) (λ d. de d n) in
    record {
      once_started = λ n. let a = st n in let b = law.once_started n in omega arith;
      once_readied = λ n. let a = re n in let b = law.once_readied n in omega arith;
      once_finished = λ n. let a = fi n in let b = law.once_finished n in omega arith;
      once_delivered = λ d u. let a = de d u in let b = law.once_delivered d u in omega arith;
      fits = each_on (Fits plan words hs) (Fits plan words hs') hs' (fits_on plan words words hs hs' (omega arith) (λ e. e) (λ n. let a = st n in omega arith)) fits;
      waiting = λ n lt none. law.waiting n lt (sym (st n) ∙ none) ∙ sym (mi n);
      marked = λ n lt some_. law.marked n lt (let a = st n in omega arith);
      complete = λ n some_. mi n ∙ law.complete n (let a = st n in omega arith);
      ready = λ n some_ none. let r = law.ready n some_ (sym (mi n) ∙ none) in let a = re n in omega arith;
      readied = λ n some_. mi n ∙ law.readied n (let a = re n in omega arith);
      count = law.count ∙ sym (unfinished_same hs' hs (length plan) fi);
      halt = law.halt;
      halt_set = λ p. law.halt_set (omega arith);
      set_halt = λ e. let p = law.set_halt e in omega arith;
    }

module _ (plan : List (List ℕ)) (words : List ℕ) (vs : List (List Journal)) (id : ℕ) (h k : Journal) (law : Facts plan words (all_journals vs)) (at : get_elem? vs id ≡ some (h ∷ [])) where
  abbrev hs : List Journal
  hs = all_journals vs

  abbrev hs' : List Journal
  hs' = all_journals (set vs id (k ∷ []))

  change : (f : Journal → ℕ) → tally f hs' + f h ≡ tally f hs + f k
  change f = let r = tally_set f vs id (h ∷ []) (k ∷ []) at in omega arith

  same : (f : Journal → ℕ) → f k ≡ f h → tally f hs' ≡ tally f hs
  same f e = let r = change f in omega arith

  mine : Fits plan words hs h
  mine = (each_at (Fits plan words hs) vs id (h ∷ []) at law.fits).0

  -- the words stay, and the journal's lists but what it saw
  pub looks : ((n : ℕ) → times n k.started ≡ times n h.started) → ((n : ℕ) → times n k.readied ≡ times n h.readied) → ((n : ℕ) → times n k.finished ≡ times n h.finished)
      → ((d u : ℕ) → edge_times d u k.delivered ≡ edge_times d u h.delivered) → bit k.set ≡ bit h.set → Fits plan words hs k → Facts plan words hs'
  looks started readied finished delivered set_ fit =
      law_same plan words hs hs' law (λ n. same (λ x. times n x.started) (started n)) (λ n. same (λ x. times n x.readied) (readied n)) (λ n. same (λ x. times n x.finished) (finished n))
      (λ d u. same (λ x. edge_times d u x.delivered) (delivered d u)) (same (λ x. bit x.set) set_) (each_set (Fits plan words hs) vs id (k ∷ []) law.fits (fit, tt))

-- A node is started where its word is 0
module _ (plan : List (List ℕ)) (words : List ℕ) (vs : List (List Journal)) (id : ℕ) (h : Journal) (n : ℕ) (law : Facts plan words (all_journals vs)) (at : get_elem? vs id ≡ some (h ∷ []))
    (wide : length words ≡ length plan + 2) (lt : n < length plan) (open_ : get_or words n 0 ≡ 0) where
  abbrev ks : Journal
  ks = with_started n h

  abbrev al : List Journal
  al = all_journals vs

  abbrev al' : List Journal
  al' = all_journals (set vs id (ks ∷ []))

  abbrev ws' : List ℕ
  ws' = set words n mark

  none : starts n al ≡ 0
  none = no_pos (starts n al) (λ p. let m = law.marked n lt p in omega arith)

  moves : (f : Journal → ℕ) → tally f al' + f h ≡ tally f al + f ks
  moves f = change plan words vs id h ks law at f

  stays : (f : Journal → ℕ) → f ks ≡ f h → tally f al' ≡ tally f al
  stays f e = same plan words vs id h ks law at f e

  begun : starts n al' ≡ 1
  begun = let a = moves (λ x. times n x.started) in let b = times_here n h.started in let z = none in omega arith

  else_same : (m : ℕ) → m ≢ n → starts m al' ≡ starts m al
  else_same m ne = stays (λ x. times m x.started) (times_else m n h.started ne)

  word_else : (m : ℕ) → m ≢ n → get_or ws' m 0 ≡ get_or words m 0
  word_else m ne = get_or-set_other words n m mark 0 ne

  more_starts : (m : ℕ) → starts m al ≤ starts m al'
  more_starts m = let a = moves (λ x. times m x.started) in omega arith

  own_started : WorkFollowsStart plan h → WorkFollowsStart plan ks
  own_started o = record {
    nodes = λ m p. dite (ℕ_discrete m n) (λ e. omega arith) (λ ne. o.nodes m (let a = times_else m n h.started ne in omega arith));
    edges = λ d u p. o.edges d u p;
    delivered = λ d u p. let a = o.delivered d u p in omega arith;
    finished = λ m p. let a = o.finished m p in omega arith;
    whole = λ m p u q. o.whole m p u q;
  }

  pub started_law : Facts plan ws' al'
  started_law =
      let re : (m : ℕ) → readies m al' ≡ readies m al = λ m. stays (λ x. times m x.readied) refl in
      let fi : (m : ℕ) → finishes m al' ≡ finishes m al = λ m. stays (λ x. times m x.finished) refl in
      let de : (d u : ℕ) → delivers d u al' ≡ delivers d u al = λ d u. stays (λ x. edge_times d u x.delivered) refl in
      let se : sets al' ≡ sets al = stays (λ x. bit x.set) refl in
      let mi : (m : ℕ) → missing al' m (deps plan m) ≡ missing al m (deps plan m) = λ m. missing_same al' al m (deps plan m) (λ d. de d m) in
      let f = mine plan words vs id h ks law at in
      let wc : get_or ws' (length plan) 0 ≡ get_or words (length plan) 0 = word_else (length plan) (λ e. omega arith) in
      let wh : get_or ws' (length plan + 1) 0 ≡ get_or words (length plan + 1) 0 = word_else (length plan + 1) (λ e. omega arith) in
      record {
        once_started = λ m. dite (ℕ_discrete m n) (λ e. subst (λ j. starts j al' ≤ 1) (sym e) (let a = begun in omega arith)) (λ ne. let a = else_same m ne in let b = law.once_started m in omega arith);
        once_readied = λ m. let a = re m in let b = law.once_readied m in omega arith;
        once_finished = λ m. let a = fi m in let b = law.once_finished m in omega arith;
        once_delivered = λ d u. let a = de d u in let b = law.once_delivered d u in omega arith;
        fits = each_on (Fits plan words al) (Fits plan ws' al') al' (fits_on plan words ws' al al' (omega arith) (λ e. wh ∙ e) more_starts)
            (each_set (Fits plan words al) vs id (ks ∷ []) law.fits (record { own = own_started f.own; least = f.least; saw = f.saw; seen = f.seen }, tt));
        waiting = λ m l z. dite (ℕ_discrete m n) (λ e. let b : starts m al' ≡ 1 = subst (λ j. starts j al' ≡ 1) (sym e) begun in absurd (omega arith))
            (λ ne. word_else m ne ∙ law.waiting m l (sym (else_same m ne) ∙ z) ∙ sym (mi m));
        marked = λ m l p. dite (ℕ_discrete m n) (λ e. subst (λ j. get_or ws' j 0 ≡ mark) (sym e) (get_or-set_same words n mark 0 (omega arith)))
            (λ ne. word_else m ne ∙ law.marked m l (let a = else_same m ne in omega arith));
        complete = λ m p. dite (ℕ_discrete m n) (λ e. subst (λ j. missing al' j (deps plan j) ≡ 0) (sym e) (mi n ∙ sym (law.waiting n lt none) ∙ open_))
            (λ ne. mi m ∙ law.complete m (let a = else_same m ne in omega arith));
        ready = λ m p z. let r = law.ready m p (sym (mi m) ∙ z) in let a = re m in omega arith;
        readied = λ m p. mi m ∙ law.readied m (let a = re m in omega arith);
        count = wc ∙ law.count ∙ sym (unfinished_same al' al (length plan) fi);
        halt = let a = law.halt in omega arith;
        halt_set = λ p. wh ∙ law.halt_set (omega arith);
        set_halt = λ e. let p = law.set_halt (sym wh ∙ e) in omega arith;
      }

-- A node is finished, once, by the pass that started it
module _ (plan : List (List ℕ)) (words : List ℕ) (vs : List (List Journal)) (id : ℕ) (h : Journal) (n : ℕ) (law : Facts plan words (all_journals vs)) (at : get_elem? vs id ≡ some (h ∷ []))
    (wide : length words ≡ length plan + 2) (start : 0 < times n h.started) (first : times n h.finished ≡ 0) (whole : (u : ℕ) → 0 < times n (deps plan u) → 0 < edge_times n u h.delivered) where
  abbrev kf : Journal
  kf = with_finished n h

  abbrev bs : List Journal
  bs = all_journals vs

  abbrev bs' : List Journal
  bs' = all_journals (set vs id (kf ∷ []))

  abbrev c : ℕ
  c = get_or words (length plan) 0

  abbrev us' : List ℕ
  us' = set words (length plan) (c - 1)

  f_moves : (f : Journal → ℕ) → tally f bs' + f h ≡ tally f bs + f kf
  f_moves f = change plan words vs id h kf law at f

  f_stays : (f : Journal → ℕ) → f kf ≡ f h → tally f bs' ≡ tally f bs
  f_stays f e = same plan words vs id h kf law at f e

  pub not_finished : finishes n bs ≡ 0
  not_finished =
      let f : Journal → ℕ = λ x. times n x.finished in let g : Journal → ℕ = λ x. times n x.started in
      let a = tally_set f vs id (h ∷ []) [] at in let b = tally_set g vs id (h ∷ []) [] at in let o = law.once_started n in
      let e : Each (Fits plan words bs) (others vs id) = each_set (Fits plan words bs) vs id [] law.fits tt in
      let q = quiet f g (others vs id) (each_on (Fits plan words bs) (λ x. g x ≡ 0 → f x ≡ 0) (others vs id) (λ x t z. no_pos (f x) (λ p. let w = t.own.finished n p in omega arith)) e) (omega arith) in
      omega arith

  f_here : finishes n bs' ≡ 1
  f_here = let a = f_moves (λ x. times n x.finished) in let b = times_here n h.finished in let z = not_finished in omega arith

  f_else : (m : ℕ) → m ≢ n → finishes m bs' ≡ finishes m bs
  f_else m ne = f_stays (λ x. times m x.finished) (times_else m n h.finished ne)

  inside : n < length plan
  inside = (mine plan words vs id h kf law at).own.nodes n start

  pub one_less : unfinished bs' (length plan) + 1 ≡ unfinished bs (length plan)
  one_less = unfinished_less bs bs' n (length plan) inside not_finished (let a = f_here in omega arith) f_else

  u_else : (m : ℕ) → m ≢ length plan → get_or us' m 0 ≡ get_or words m 0
  u_else m ne = get_or-set_other words (length plan) m (c - 1) 0 ne

  own_finished : WorkFollowsStart plan h → WorkFollowsStart plan kf
  own_finished o = record {
    nodes = o.nodes;
    edges = o.edges;
    delivered = o.delivered;
    finished = λ m p. dite (ℕ_discrete m n) (λ e. subst (λ j. 0 < times j h.started) (sym e) start) (λ ne. o.finished m (let a = times_else m n h.finished ne in omega arith));
    whole = λ m p u q. dite (ℕ_discrete m n) (λ e. subst (λ j. 0 < edge_times j u h.delivered) (sym e) (whole u (subst (λ j. 0 < times j (deps plan u)) e q)))
        (λ ne. o.whole m (let a = times_else m n h.finished ne in omega arith) u q);
  }

  pub finished_law : Facts plan us' bs'
  finished_law =
      let st : (m : ℕ) → starts m bs' ≡ starts m bs = λ m. f_stays (λ x. times m x.started) refl in
      let re : (m : ℕ) → readies m bs' ≡ readies m bs = λ m. f_stays (λ x. times m x.readied) refl in
      let de : (d u : ℕ) → delivers d u bs' ≡ delivers d u bs = λ d u. f_stays (λ x. edge_times d u x.delivered) refl in
      let se : sets bs' ≡ sets bs = f_stays (λ x. bit x.set) refl in
      let mi : (m : ℕ) → missing bs' m (deps plan m) ≡ missing bs m (deps plan m) = λ m. missing_same bs' bs m (deps plan m) (λ d. de d m) in
      let f = mine plan words vs id h kf law at in
      let uc : get_or us' (length plan) 0 ≡ c - 1 = get_or-set_same words (length plan) (c - 1) 0 (omega arith) in
      let uh : get_or us' (length plan + 1) 0 ≡ get_or words (length plan + 1) 0 = u_else (length plan + 1) (λ e. omega arith) in
      let cc_ = law.count in let ol = one_less in
      record {
        once_started = λ m. let a = st m in let b = law.once_started m in omega arith;
        once_readied = λ m. let a = re m in let b = law.once_readied m in omega arith;
        once_finished = λ m. dite (ℕ_discrete m n) (λ e. subst (λ j. finishes j bs' ≤ 1) (sym e) (let a = f_here in omega arith)) (λ ne. let a = f_else m ne in let b = law.once_finished m in omega arith);
        once_delivered = λ d u. let a = de d u in let b = law.once_delivered d u in omega arith;
        fits = each_on (Fits plan words bs) (Fits plan us' bs') bs' (fits_on plan words us' bs bs' (omega arith) (λ e. uh ∙ e) (λ m. let a = st m in omega arith))
            (each_set (Fits plan words bs) vs id (kf ∷ []) law.fits (record { own = own_finished f.own; least = f.least; saw = f.saw; seen = f.seen }, tt));
        waiting = λ m l z. u_else m (λ e. omega arith) ∙ law.waiting m l (sym (st m) ∙ z) ∙ sym (mi m);
        marked = λ m l p. u_else m (λ e. omega arith) ∙ law.marked m l (let a = st m in omega arith);
        complete = λ m p. mi m ∙ law.complete m (let a = st m in omega arith);
        ready = λ m p z. let r = law.ready m p (sym (mi m) ∙ z) in let a = re m in omega arith;
        readied = λ m p. mi m ∙ law.readied m (let a = re m in omega arith);
        count = omega arith;
        halt = let a = law.halt in omega arith;
        halt_set = λ p. uh ∙ law.halt_set (omega arith);
        set_halt = λ e. let p = law.set_halt (sym uh ∙ e) in omega arith;
      }

-- The halt is set
module _ (plan : List (List ℕ)) (words : List ℕ) (vs : List (List Journal)) (id : ℕ) (h : Journal) (law : Facts plan words (all_journals vs)) (at : get_elem? vs id ≡ some (h ∷ [])) (wide : length words ≡ length plan + 2) where
  abbrev kh : Journal
  kh = with_set h

  abbrev cs : List Journal
  cs = all_journals vs

  abbrev cs' : List Journal
  cs' = all_journals (set vs id (kh ∷ []))

  abbrev hs_words : List ℕ
  hs_words = set words (length plan + 1) 1

  h_stays : (f : Journal → ℕ) → f kh ≡ f h → tally f cs' ≡ tally f cs
  h_stays f e = same plan words vs id h kh law at f e

  h_else : (m : ℕ) → m ≢ length plan + 1 → get_or hs_words m 0 ≡ get_or words m 0
  h_else m ne = get_or-set_other words (length plan + 1) m 1 0 ne

  pub halted_law : Facts plan hs_words cs'
  halted_law =
      let st : (m : ℕ) → starts m cs' ≡ starts m cs = λ m. h_stays (λ x. times m x.started) refl in
      let re : (m : ℕ) → readies m cs' ≡ readies m cs = λ m. h_stays (λ x. times m x.readied) refl in
      let fi : (m : ℕ) → finishes m cs' ≡ finishes m cs = λ m. h_stays (λ x. times m x.finished) refl in
      let de : (d u : ℕ) → delivers d u cs' ≡ delivers d u cs = λ d u. h_stays (λ x. edge_times d u x.delivered) refl in
      let mi : (m : ℕ) → missing cs' m (deps plan m) ≡ missing cs m (deps plan m) = λ m. missing_same cs' cs m (deps plan m) (λ d. de d m) in
      let f = mine plan words vs id h kh law at in
      let uc : get_or hs_words (length plan) 0 ≡ get_or words (length plan) 0 = h_else (length plan) (λ e. omega arith) in
      let uh : get_or hs_words (length plan + 1) 0 ≡ 1 = get_or-set_same words (length plan + 1) 1 0 (omega arith) in
      let mv = change plan words vs id h kh law at (λ x. bit x.set) in
      let le : bit h.set ≤ sets cs = tally_at (λ x. bit x.set) vs id h at in
      record {
        once_started = λ m. let a = st m in let b = law.once_started m in omega arith;
        once_readied = λ m. let a = re m in let b = law.once_readied m in omega arith;
        once_finished = λ m. let a = fi m in let b = law.once_finished m in omega arith;
        once_delivered = λ d u. let a = de d u in let b = law.once_delivered d u in omega arith;
        fits = each_on (Fits plan words cs) (Fits plan hs_words cs') cs' (fits_on plan words hs_words cs cs' (omega arith) (λ e. uh) (λ m. let a = st m in omega arith))
            (each_set (Fits plan words cs) vs id (kh ∷ []) law.fits (record { own = record { nodes = f.own.nodes; edges = f.own.edges; delivered = f.own.delivered; finished = f.own.finished; whole = f.own.whole }; least = f.least; saw = f.saw; seen = f.seen }, tt));
        waiting = λ m l z. h_else m (λ e. omega arith) ∙ law.waiting m l (sym (st m) ∙ z) ∙ sym (mi m);
        marked = λ m l p. h_else m (λ e. omega arith) ∙ law.marked m l (let a = st m in omega arith);
        complete = λ m p. mi m ∙ law.complete m (let a = st m in omega arith);
        ready = λ m p z. let r = law.ready m p (sym (mi m) ∙ z) in let a = re m in omega arith;
        readied = λ m p. mi m ∙ law.readied m (let a = re m in omega arith);
        count = uc ∙ law.count ∙ sym (unfinished_same cs' cs (length plan) fi);
        halt = omega arith;
        halt_set = λ p. uh;
        set_halt = λ e. omega arith;
      }

-- An edge is delivered by the pass that started d. kd is the journal afterwards: with u readied, where r says so
module _ (plan : List (List ℕ)) (words : List ℕ) (vs : List (List Journal)) (id : ℕ) (h : Journal) (d u : ℕ) (law : Facts plan words (all_journals vs)) (at : get_elem? vs id ≡ some (h ∷ []))
    (wide : length words ≡ length plan + 2) (distinct : (x : ℕ) → times x (deps plan u) ≤ 1) (start : 0 < times d h.started) (first : edge_times d u h.delivered ≡ 0) (edge : 0 < times d (deps plan u)) where
  abbrev ds : List Journal
  ds = all_journals vs

  pub not_delivered : delivers d u ds ≡ 0
  not_delivered =
      let f : Journal → ℕ = λ x. edge_times d u x.delivered in let g : Journal → ℕ = λ x. times d x.started in
      let a = tally_set f vs id (h ∷ []) [] at in let b = tally_set g vs id (h ∷ []) [] at in let o = law.once_started d in
      let e : Each (Fits plan words ds) (others vs id) = each_set (Fits plan words ds) vs id [] law.fits tt in
      let q = quiet f g (others vs id) (each_on (Fits plan words ds) (λ x. g x ≡ 0 → f x ≡ 0) (others vs id) (λ x t z. no_pos (f x) (λ p. let w = t.own.delivered d u p in omega arith)) e) (omega arith) in
      omega arith

  pub u_inside : u < length plan
  u_inside = deps_inside plan u d edge

  pub some_missing : 0 < missing ds u (deps plan u)
  some_missing = missing_some ds u d (deps plan u) edge not_delivered

  pub u_open : starts u ds ≡ 0
  u_open = no_pos (starts u ds) (λ p. let a = law.complete u p in let b = some_missing in omega arith)

  pub u_word : get_or words u 0 ≡ missing ds u (deps plan u)
  u_word = law.waiting u u_inside u_open

  abbrev x : ℕ
  x = get_or words u 0

  abbrev ws : List ℕ
  ws = set words u (x - 1)

  module _ (kd : Journal) (d_started : kd.started ≡ h.started) (d_delivered : kd.delivered ≡ (d, u) ∷ h.delivered) (d_finished : kd.finished ≡ h.finished) (d_seen : kd.seen ≡ h.seen) (d_least : kd.least ≡ h.least)
      (d_set : kd.set ≡ h.set) (d_saw : kd.saw ≡ h.saw) (d_else : (m : ℕ) → m ≢ u → times m kd.readied ≡ times m h.readied) (d_last : x ≡ 1 → times u kd.readied ≡ 1 + times u h.readied)
      (d_more : x ≢ 1 → times u kd.readied ≡ times u h.readied) where
    abbrev ds' : List Journal
    ds' = all_journals (set vs id (kd ∷ []))

    d_stays : (f : Journal → ℕ) → f kd ≡ f h → tally f ds' ≡ tally f ds
    d_stays f e = same plan words vs id h kd law at f e

    edge_else : (a b : ℕ) → ((a ≡ d) × (b ≡ u) → ⊥) → delivers a b ds' ≡ delivers a b ds
    edge_else a b ne = d_stays (λ y. edge_times a b y.delivered) (ap (edge_times a b) d_delivered ∙ edge_times_else a b d u h.delivered ne)

    edge_here : delivers d u ds' ≡ 1
    edge_here = let a = change plan words vs id h kd law at (λ y. edge_times d u y.delivered) in let b = ap (edge_times d u) d_delivered ∙ edge_times_here d u h.delivered in let c = not_delivered in omega arith

    missing_else : (m : ℕ) → m ≢ u → missing ds' m (deps plan m) ≡ missing ds m (deps plan m)
    missing_else m ne = missing_same ds' ds m (deps plan m) (λ a. edge_else a m (λ p. ne p.1))

    missing_here : missing ds' u (deps plan u) + 1 ≡ missing ds u (deps plan u)
    missing_here = missing_one ds ds' u d (deps plan u) (distinct d) edge not_delivered (let a = edge_here in omega arith) (λ a ne. edge_else a u (λ p. ne p.0))

    readies_else : (m : ℕ) → m ≢ u → readies m ds' ≡ readies m ds
    readies_else m ne = d_stays (λ y. times m y.readied) (d_else m ne)

    unready : readies u ds ≡ 0
    unready = no_pos (readies u ds) (λ p. let a = law.readied u p in let b = some_missing in omega arith)

    ready_last : x ≡ 1 → readies u ds' ≡ 1
    ready_last e = let a = change plan words vs id h kd law at (λ y. times u y.readied) in let b = d_last e in let c = unready in omega arith

    ready_more : x ≢ 1 → readies u ds' ≡ 0
    ready_more e = let a = change plan words vs id h kd law at (λ y. times u y.readied) in let b = d_more e in let c = unready in omega arith

    w_else : (m : ℕ) → m ≢ u → get_or ws m 0 ≡ get_or words m 0
    w_else m ne = get_or-set_other words u m (x - 1) 0 ne

    w_here : get_or ws u 0 ≡ x - 1
    w_here = let i = u_inside in get_or-set_same words u (x - 1) 0 (omega arith)

    own_gave : WorkFollowsStart plan h → WorkFollowsStart plan kd
    own_gave o = record {
      nodes = λ n p. o.nodes n (subst (λ l. 0 < times n l) d_started p);
      edges = λ a b p. dite (ℕ_discrete a d)
          (λ e. dite (ℕ_discrete b u) (λ e'. subst (λ i. 0 < times i (deps plan b)) (sym e) (subst (λ j. 0 < times d (deps plan j)) (sym e') edge))
          (λ ne. o.edges a b (let t = edge_times_else a b d u h.delivered (λ q. ne q.1) in let v = ap (edge_times a b) d_delivered in omega arith)))
          (λ ne. o.edges a b (let t = edge_times_else a b d u h.delivered (λ q. ne q.0) in let v = ap (edge_times a b) d_delivered in omega arith));
      delivered = λ a b p. subst (λ l. 0 < times a l) (sym d_started) (dite (ℕ_discrete a d)
          (λ e. subst (λ j. 0 < times j h.started) (sym e) start)
          (λ ne. o.delivered a b (let t = edge_times_else a b d u h.delivered (λ q. ne q.0) in let v = ap (edge_times a b) d_delivered in omega arith)));
      finished = λ n p. subst (λ l. 0 < times n l) (sym d_started) (o.finished n (subst (λ l. 0 < times n l) d_finished p));
      whole = λ n p b q. let t = o.whole n (subst (λ l. 0 < times n l) d_finished p) b q in let v = ap (edge_times n b) d_delivered in omega arith;
    }

    pub gave_law : Facts plan ws ds'
    gave_law =
        let st : (m : ℕ) → starts m ds' ≡ starts m ds = λ m. d_stays (λ y. times m y.started) (ap (times m) d_started) in
        let fi : (m : ℕ) → finishes m ds' ≡ finishes m ds = λ m. d_stays (λ y. times m y.finished) (ap (times m) d_finished) in
        let se : sets ds' ≡ sets ds = d_stays (λ y. bit y.set) (ap bit d_set) in
        let f = mine plan words vs id h kd law at in let i = u_inside in
        let wc : get_or ws (length plan) 0 ≡ get_or words (length plan) 0 = w_else (length plan) (λ e. omega arith) in
        let wh : get_or ws (length plan + 1) 0 ≡ get_or words (length plan + 1) 0 = w_else (length plan + 1) (λ e. omega arith) in
        record {
          once_started = λ m. let a = st m in let b = law.once_started m in omega arith;
          once_readied = λ m. dite (ℕ_discrete m u) (λ e. subst (λ j. readies j ds' ≤ 1) (sym e) (dite (ℕ_discrete x 1) (λ l. let a = ready_last l in omega arith) (λ l. let a = ready_more l in omega arith)))
              (λ ne. let a = readies_else m ne in let b = law.once_readied m in omega arith);
          once_finished = λ m. let a = fi m in let b = law.once_finished m in omega arith;
          once_delivered = λ a b. dite (ℕ_discrete a d)
              (λ e. dite (ℕ_discrete b u) (λ e'. subst (λ j. delivers j b ds' ≤ 1) (sym e) (subst (λ j. delivers d j ds' ≤ 1) (sym e') (let t = edge_here in omega arith)))
              (λ ne. let t = edge_else a b (λ p. ne p.1) in let o = law.once_delivered a b in omega arith))
              (λ ne. let t = edge_else a b (λ p. ne p.0) in let o = law.once_delivered a b in omega arith);
          fits = each_on (Fits plan words ds) (Fits plan ws ds') ds' (fits_on plan words ws ds ds' (omega arith) (λ e. wh ∙ e) (λ m. let a = st m in omega arith))
              (each_set (Fits plan words ds) vs id (kd ∷ []) law.fits
              (record { own = own_gave f.own; least = subst (AtMost (get_or words (length plan) 0)) (sym d_least) f.least; saw = λ s. f.saw (sym d_saw ∙ s); seen = λ n p. f.seen n (subst (λ l. 0 < times n l) d_seen p) }, tt));
          waiting = λ m l z. dite (ℕ_discrete m u)
              (λ e. subst (λ j. get_or ws j 0 ≡ missing ds' j (deps plan j)) (sym e) (let a = w_here in let b = u_word in let c = missing_here in omega arith))
              (λ ne. w_else m ne ∙ law.waiting m l (sym (st m) ∙ z) ∙ sym (missing_else m ne));
          marked = λ m l p. dite (ℕ_discrete m u) (λ e. let a = st m in let b : starts m ds ≡ 0 = subst (λ j. starts j ds ≡ 0) (sym e) u_open in absurd (omega arith))
              (λ ne. w_else m ne ∙ law.marked m l (let a = st m in omega arith));
          complete = λ m p. dite (ℕ_discrete m u) (λ e. let a = st m in let b : starts m ds ≡ 0 = subst (λ j. starts j ds ≡ 0) (sym e) u_open in absurd (omega arith))
              (λ ne. missing_else m ne ∙ law.complete m (let a = st m in omega arith));
          ready = λ m p z. dite (ℕ_discrete m u)
              (λ e. subst (λ j. 0 < readies j ds') (sym e) (let w = u_word in let c = missing_here in let z' : missing ds' u (deps plan u) ≡ 0 = subst (λ j. missing ds' j (deps plan j) ≡ 0) e z in
              let l : x ≡ 1 = omega arith in let a = ready_last l in omega arith))
              (λ ne. let r = law.ready m p (sym (missing_else m ne) ∙ z) in let a = readies_else m ne in omega arith);
          readied = λ m p. dite (ℕ_discrete m u)
              (λ e. subst (λ j. missing ds' j (deps plan j) ≡ 0) (sym e) (let p' : 0 < readies u ds' = subst (λ j. 0 < readies j ds') e p in dite (ℕ_discrete x 1)
              (λ l. let w = u_word in let c = missing_here in omega arith) (λ l. let a = ready_more l in absurd (omega arith))))
              (λ ne. missing_else m ne ∙ law.readied m (let a = readies_else m ne in omega arith));
          count = wc ∙ law.count ∙ sym (unfinished_same ds' ds (length plan) fi);
          halt = let a = law.halt in omega arith;
          halt_set = λ p. wh ∙ law.halt_set (omega arith);
          set_halt = λ e. let p = law.set_halt (sym wh ∙ e) in omega arith;
        }
