-- Lists of notes.
use Rattle.std.proofs.Common.{◌-◌, ◌/◌, ◌%◌, ◌≤◌, inl, false, true≢false, get_or-set_other, ◌≢◌, ◌≡◌, ℕ, zero, suc, ◌+◌, ◌*◌, ◌<◌, true, List, [], ◌∷◌, ◌++◌, length, map, set, take, get_or, sym, refl, ap, ◌∙◌, subst, arith}
use Rattle.std.specs.Prelude.{Option, None, Some}
use Rattle.std.proofs.lemmas.List.{map-append, map-set, map_more, length-map, set-get_or}
use Rattle.std.proofs.lemmas.Grind.{get_or-set_at}
use mathlib.Core.Logic.{dite}
use native.Mathlib.Decide.{ℕ_discrete}
use Rattle.once_cell.specs.Once.{Agrees}
use Rattle.once_cell.specs.declared.race.note.Note.{Note}
use Rattle.board.specs.Flags.{is_up, Tracks}
use Rattle.board.proofs.FlagLists.{tracks_more}
use Rattle.board.specs.Views.{Union, Keeps, is_known, MemoryView, known_at, learned, cells_of, knowns_of, Same, Agree, AgreeBelow}

same_mem : {V : Type 0} {a b : List ℕ} {k l : List (Option V)} → a ≡ b → k ≡ l → (let x : MemoryView V = record { cells = a; known = k } in let y : MemoryView V = record { cells = b; known = l } in x ≡ y)
same_mem e f = λ i. record { cells = e i; known = f i }

module _ {V : Type 0} where
  pub some_is : (o : Option V) → is_known o ≡ true → (v : V) × (o ≡ Some v)
  some_is None e = absurd (true≢false (sym e))
  some_is (Some v) e = (v, refl)

  pub known_is : (ns : List (Note V)) (n : ℕ) (old : Note V) → n < length ns → old ≡ get_or ns n old → get_or (knowns_of ns) n None ≡ old.known
  known_is [] n old lt e = absurd (omega arith)
  known_is (x ∷ xs) zero old lt e = ap (λ (y : Note V). y.known) (sym e)
  known_is (x ∷ xs) (suc n) old lt e = known_is xs n old (omega arith) e

  pub cell_is : (ns : List (Note V)) (n : ℕ) (old : Note V) → n < length ns → old ≡ get_or ns n old → get_or (cells_of ns) n 0 ≡ old.cell
  cell_is [] n old lt e = absurd (omega arith)
  cell_is (x ∷ xs) zero old lt e = ap (λ (y : Note V). y.cell) (sym e)
  cell_is (x ∷ xs) (suc n) old lt e = cell_is xs n old (omega arith) e

  -- a note that is put in the place of one of the same cell
  pub cells_stay : (ns : List (Note V)) (n : ℕ) (new : Note V) → n < length ns → get_or (cells_of ns) n 0 ≡ new.cell → cells_of (set ns n new) ≡ cells_of ns
  cells_stay [] n new lt e = absurd (omega arith)
  cells_stay (x ∷ xs) zero new lt e = λ i. sym e i ∷ cells_of xs
  cells_stay (x ∷ xs) (suc n) new lt e = λ i. x.cell ∷ cells_stay xs n new (omega arith) e i

  pub knowns_stay : (ns : List (Note V)) (n : ℕ) (new : Note V) → n < length ns → get_or (knowns_of ns) n None ≡ new.known → knowns_of (set ns n new) ≡ knowns_of ns
  knowns_stay [] n new lt e = absurd (omega arith)
  knowns_stay (x ∷ xs) zero new lt e = λ i. sym e i ∷ knowns_of xs
  knowns_stay (x ∷ xs) (suc n) new lt e = λ i. x.known ∷ knowns_stay xs n new (omega arith) e i

  pub knowns_set : (ns : List (Note V)) (n : ℕ) (new : Note V) (v : V) → new.known ≡ Some v → knowns_of (set ns n new) ≡ set (knowns_of ns) n (Some v)
  knowns_set ns n new v e = map-set (λ (y : Note V). y.known) ns n new ∙ ap (set (knowns_of ns) n) e

  abbrev pub mem : List (Note V) → MemoryView V
  mem ns = record { cells = cells_of ns; known = knowns_of ns }

  pub as_many : (ns : List (Note V)) (m : MemoryView V) → mem ns ≡ m → length ns ≡ length m.known
  as_many ns m e = let a : length (knowns_of ns) ≡ length ns = simp length-map in sym a ∙ ap (λ (z : MemoryView V). length z.known) e

  -- a node has its note
  pub note_in : (ns : List (Note V)) (m : MemoryView V) (len n : ℕ) → mem ns ≡ m → len ≡ length ns → n < length m.known → n < len
  note_in ns m len n e size lt = let a = as_many ns m e in omega arith

  inside : (ns : List (Note V)) (m : MemoryView V) (n : ℕ) → mem ns ≡ m → n < length m.known → n < length ns
  inside ns m n e lt = let a : length m.known ≡ length (knowns_of ns) = ap (λ (z : MemoryView V). length z.known) (sym e) in let b : length (knowns_of ns) ≡ length ns = simp length-map in omega arith

  -- the flags of these notes
  pub tracked : (ns : List (Note V)) (flags : List ℕ) (m : MemoryView V) → mem ns ≡ m → Tracks flags (knowns_of ns) → Tracks flags m.known
  tracked ns flags m e f = subst (Tracks flags) (ap (λ (z : MemoryView V). z.known) e) f

  pub has_room : (ns : List (Note V)) (flags : List ℕ) (m : MemoryView V) (n : ℕ) → mem ns ≡ m → Tracks flags (knowns_of ns) → n < length m.known → n < 64 * length flags
  has_room ns flags m n e f lt = let r = (tracked ns flags m e f).room in omega arith

  pub got_none : (ns : List (Note V)) (flags : List ℕ) (m : MemoryView V) (n : ℕ) (old new : Note V) → mem ns ≡ m → Tracks flags (knowns_of ns) → n < length m.known → old ≡ get_or ns n old → new.cell ≡ old.cell
      → old.known ≡ None → new.known ≡ None → Tracks flags (knowns_of (set ns n new)) × (known_at m n ≡ None) × (mem (set ns n new) ≡ m)
  got_none ns flags m n old new e f lt at cell was is =
      let i = inside ns m n e lt in let k : get_or (knowns_of ns) n None ≡ new.known = known_is ns n old i at ∙ was ∙ sym is in (
        subst (Tracks flags) (sym (knowns_stay ns n new i k)) f,
        ap (λ (z : MemoryView V). known_at z n) (sym e) ∙ known_is ns n old i at ∙ was,
        same_mem (cells_stay ns n new i (cell_is ns n old i at ∙ sym cell)) (knowns_stay ns n new i k) ∙ e,
      )

  pub learns : (ns : List (Note V)) (m : MemoryView V) (n : ℕ) (new : Note V) (v : V) → mem ns ≡ m → n < length m.known → get_or m.cells n 0 ≡ new.cell → new.known ≡ Some v → mem (set ns n new) ≡ learned m n v
  learns ns m n new v e lt cell is = let i = inside ns m n e lt in
      same_mem (cells_stay ns n new i (ap (λ (z : MemoryView V). get_or z.cells n 0) e ∙ cell)) (knowns_set ns n new v is) ∙ ap (λ (z : MemoryView V). learned z n v) e

  pub got_some : (ns : List (Note V)) (m : MemoryView V) (n : ℕ) (old new : Note V) (v : V) → mem ns ≡ m → n < length m.known → old ≡ get_or ns n old → new.cell ≡ old.cell
      → new.known ≡ Some v → Agrees old.known v → Agrees (known_at m n) v × (mem (set ns n new) ≡ learned m n v)
  got_some ns m n old new v e lt at cell is agrees = let i = inside ns m n e lt in
      let l = learns ns m n new v e lt (ap (λ (z : MemoryView V). get_or z.cells n 0) (sym e) ∙ cell_is ns n old i at ∙ sym cell) is in
      (subst (λ o. Agrees o v) (sym (ap (λ (z : MemoryView V). known_at z n) (sym e) ∙ known_is ns n old i at)) agrees, l)

  -- a note that knows is put at n, and the flag of n is raised
  pub flagged : (ns : List (Note V)) (flags flags' : List ℕ) (n : ℕ) (new : Note V) (m : MemoryView V) → mem ns ≡ m → Tracks flags (knowns_of ns) → n < length m.known → is_known new.known ≡ true → length flags' ≡ length flags → is_up flags' n ≡ true
      → ((k : ℕ) → k ≢ n → is_up flags' k ≡ is_up flags k) → Tracks flags' (knowns_of (set ns n new))
  flagged ns flags flags' n new m e f lt is size up others =
      let s = some_is new.known is in
      subst (Tracks flags') (sym (knowns_set ns n new s.0 s.1)) (tracks_more flags flags' (knowns_of ns) n s.0 f (subst (λ (z : MemoryView V). n < length z.known) (sym e) lt) size up others)

  pub set_back : (l : List (Note V)) (i : ℕ) (a b : Note V) → a ≡ get_or l i a → b ≡ a → set l i b ≡ l
  set_back l i a b at e = ap (set l i) (e ∙ at) ∙ set-get_or l i a

  levels : (us ts : List (Note V)) → cells_of ts ≡ cells_of us → length ts ≡ length us
  levels us ts e = let a : length (cells_of ts) ≡ length ts = simp length-map in let b : length (cells_of us) ≡ length us = simp length-map in let c = ap length e in omega arith

  pub one_cell : (us ts : List (Note V)) (i : ℕ) (a b : Note V) → cells_of ts ≡ cells_of us → i < length us → a ≡ get_or us i a → b ≡ get_or ts i b → b.cell ≡ a.cell
  one_cell us ts i a b e lt at at' =
      let same : length ts ≡ length us = levels us ts e in
      sym (cell_is ts i b (omega arith) at') ∙ ap (λ (l : List ℕ). get_or l i 0) e ∙ cell_is us i a lt at

  pub agree_more : (us ts : List (Note V)) (i : ℕ) (a b : Note V) → cells_of ts ≡ cells_of us → i < length us → a ≡ get_or us i a → b ≡ get_or ts i b → Same a.known b.known → AgreeBelow i (knowns_of us) (knowns_of ts)
      → AgreeBelow (i + 1) (knowns_of us) (knowns_of ts)
  agree_more us ts i a b e lt at at' same before n below =
      let wide : length ts ≡ length us = levels us ts e in
      dite (ℕ_discrete n i)
      (λ is. subst (λ j. Same (get_or (knowns_of us) j None) (get_or (knowns_of ts) j None)) (sym is)
      (let P : Option V × Option V → Type 0 = λ z. Same z.0 z.1 in subst P (λ k. (sym (known_is us i a lt at) k, sym (known_is ts i b (omega arith) at') k)) same))
      (λ ne. before n (omega arith))

  pub learned_now : (m : MemoryView V) (n : ℕ) (v : V) → n < length m.known → known_at (learned m n v) n ≡ Some v
  learned_now m n v lt = get_or-set_at m.known n n (Some v) None refl lt

  pub learned_else : (m m' : MemoryView V) (n k : ℕ) (v : V) → m' ≡ learned m n v → k ≢ n → known_at m' k ≡ known_at m k
  learned_else m m' n k v e ne = ap (λ z. known_at z k) e ∙ get_or-set_other m.known n k (Some v) None ne

  agreed : (o : Option V) (v w : V) → Agrees o v → o ≡ Some w → v ≡ w
  agreed None v w a e = cc
  agreed (Some x) v w a e = cc

  pub learned_keeps : (m m' : MemoryView V) (n : ℕ) (v : V) → n < length m.known → Agrees (known_at m n) v → m' ≡ learned m n v → Keeps (known_at m) (known_at m')
  learned_keeps m m' n v lt a e k w is = dite (ℕ_discrete k n)
      (λ same. ap (known_at m') same ∙ ap (λ z. known_at z n) e ∙ learned_now m n v lt ∙ ap Some (agreed (known_at m n) v w a (ap (known_at m) (sym same) ∙ is)))
      (λ ne. learned_else m m' n k v e ne ∙ is)

  past_end : (l : List (Option V)) (n : ℕ) → length l ≤ n → get_or l n None ≡ None
  past_end [] n le = refl
  past_end (x ∷ xs) zero le = absurd (omega arith)
  past_end (x ∷ xs) (suc n) le = past_end xs n (omega arith)

  same_both : (a b : Option V) (v w : V) → Same a b → a ≡ Some v → b ≡ Some w → v ≡ w
  same_both a b v w s e f = let P : Option V × Option V → Type 0 = λ z. Same z.0 z.1 in let r : Same (Some v) (Some w) = subst P (λ i. (e i, f i)) s in r

  -- where two lists of as many notes agree below their length, they agree
  pub agree_all : (a b : List (Option V)) (k : ℕ) → AgreeBelow k a b → length a ≡ k → Agree (λ n. get_or a n None) (λ n. get_or b n None)
  agree_all a b k below size n v w e f = dite (ℕ_discrete (k - n) 0)
      (λ z. let p = past_end a n (omega arith) in absurd (none_some v (sym p ∙ e)))
      (λ nz. same_both (get_or a n None) (get_or b n None) v w (below n (omega arith)) e f)
    where
      none_some : (x : V) → (let o : Option V = None in o ≡ Some x) → ⊥
      none_some x q = true≢false (sym (ap is_known q))

  -- a node whose flag is down is not known
  pub not_up : (ns : List (Note V)) (flags : List ℕ) (m : MemoryView V) (k : ℕ) → mem ns ≡ m → Tracks flags (knowns_of ns) → is_up flags k ≡ false → is_known (known_at m k) ≡ false
  not_up ns flags m k e f down = let t = tracked ns flags m e f in dite (ℕ_discrete (length m.known - k) 0)
      (λ z. ap is_known (past_end m.known k (omega arith)))
      (λ nz. sym (t.same k (omega arith)) ∙ down)

  pub union_none : (a b : Option V) → is_known b ≡ false → Union a b a
  union_none None None e = (tt, tt, λ k. inl k)
  union_none (Some x) None e = (refl, tt, λ k. inl k)
  union_none a (Some y) e = absurd (true≢false e)

  -- the 64 nodes from n on, of which the other knows none, are merged by passing over them
  pub skipped : (start other now : MemoryView V) (n n' : ℕ) → n % 64 ≡ 0 → n' ≤ n + 64 → ((k : ℕ) → k / 64 ≡ n / 64 → is_known (known_at other k) ≡ false)
      → ((k : ℕ) → k < n → Union (known_at start k) (known_at other k) (known_at now k)) → ((k : ℕ) → n ≤ k → known_at now k ≡ known_at start k)
      → (k : ℕ) → k < n' → Union (known_at start k) (known_at other k) (known_at now k)
  skipped start other now n n' even le none below above k lt = dite (ℕ_discrete (n - k) 0)
      (λ z. subst (Union (known_at start k) (known_at other k)) (sym (above k (omega arith))) (union_none (known_at start k) (known_at other k) (none k (omega arith))))
      (λ nz. below k (omega arith))

  -- node n is merged, after those before it
  pub merged_one : (start other was now : MemoryView V) (n : ℕ) → Union (known_at was n) (known_at other n) (known_at now n) → ((k : ℕ) → k ≢ n → known_at now k ≡ known_at was k)
      → ((k : ℕ) → k < n → Union (known_at start k) (known_at other k) (known_at was k)) → ((k : ℕ) → n ≤ k → known_at was k ≡ known_at start k)
      → (k : ℕ) → k < n + 1 → Union (known_at start k) (known_at other k) (known_at now k)
  merged_one start other was now n here others below above k lt = dite (ℕ_discrete k n)
      (λ e. subst (λ (i : ℕ). Union (known_at start i) (known_at other i) (known_at now i)) (sym e) (subst (λ o. Union o (known_at other n) (known_at now n)) (above n (omega arith)) here))
      (λ ne. subst (Union (known_at start k) (known_at other k)) (sym (others k ne)) (below k (omega arith)))

  -- all nodes are merged
  pub merged_all : (start other now : MemoryView V) (nodes n : ℕ) → length other.known ≡ length start.known → nodes ≡ length start.known → nodes ≤ n → ((k : ℕ) → k < n → Union (known_at start k) (known_at other k) (known_at now k))
      → ((k : ℕ) → n ≤ k → known_at now k ≡ known_at start k) → (k : ℕ) → Union (known_at start k) (known_at other k) (known_at now k)
  merged_all start other now nodes n same size end below above k = dite (ℕ_discrete (n - k) 0)
      (λ z. subst (Union (known_at start k) (known_at other k)) (sym (above k (omega arith))) (union_none (known_at start k) (known_at other k) (ap is_known (past_end other.known k (omega arith)))))
      (λ nz. below k (omega arith))

  pub cell_at : (ns : List (Note V)) (m : MemoryView V) (n : ℕ) (old : Note V) → mem ns ≡ m → n < length m.known → old ≡ get_or ns n old → old.cell ≡ get_or m.cells n 0
  cell_at ns m n old e lt at = sym (cell_is ns n old (inside ns m n e lt) at) ∙ ap (λ (z : MemoryView V). get_or z.cells n 0) e

  pub known_there : (ns : List (Note V)) (m : MemoryView V) (n : ℕ) (old : Note V) → mem ns ≡ m → n < length m.known → old ≡ get_or ns n old → old.known ≡ known_at m n
  known_there ns m n old e lt at = sym (known_is ns n old (inside ns m n e lt) at) ∙ ap (λ (z : MemoryView V). known_at z n) e

  -- a note that knows nothing, behind the others
  pub note_more : {X : Type 0} (f : X → ℕ) (old new : List (Note V)) (note : Note V) (xs : List X) (i : ℕ) (x : X) → new ≡ old ++ note ∷ [] → i < length xs → x ≡ get_or xs i x → note.cell ≡ f x → note.known ≡ None
      → cells_of old ≡ map f (take i xs) → knowns_of old ≡ map (λ _. None) (take i xs) → (cells_of new ≡ map f (take (i + 1) xs)) × (knowns_of new ≡ map (λ _. None) (take (i + 1) xs))
  note_more f old new note xs i x is lt at cell known cells knowns = (
    ap cells_of is ∙ map-append (λ n. n.cell) old (note ∷ []) ∙ (λ j. cells j ++ (cell ∙ ap f at) j ∷ []) ∙ sym (map_more f xs i x lt),
    ap knowns_of is ∙ map-append (λ n. n.known) old (note ∷ []) ∙ (λ j. knowns j ++ known j ∷ []) ∙ sym (map_more (λ _. None) xs i x lt),
  )
