-- What all passes know together, and what holds at the end.
use Rattle.std.proofs.Common.{◌≡◌, ℕ, zero, suc, ◌+◌, ◌<◌, ◌≤◌, inl, inr, Bool, true, false, true≢false, List, [], ◌∷◌, ◌++◌, length, map, sym, refl, ap, ◌∙◌, subst, arith, length-set}
use Rattle.std.specs.Prelude.{Option, None, Some, IfSome, eqb, IsTrue, ◌↔◌, slice_index, slice_index_or}
use Rattle.std.specs.List.{All}
use Rattle.std.proofs.lemmas.List.{map-append}
use Rattle.std.proofs.lemmas.List.Elements.{All-push, All-weaker}
use mathlib.Core.Logic.{dite, ⊎_elim}
use native.Mathlib.Decide.{ℕ_discrete}
use Rattle.board.specs.declared.journal.Journal.{Journal}
use Rattle.board.specs.Journal.{AtMost, bit, finishes, unfinished, sets}
use Rattle.board.specs.Lawful.{IsEnd, IsLawful}
use Rattle.board.proofs.Facts.{Fits, facts_of}
use Rattle.board.specs.Rule.{IsBoardState}
use Rattle.board.specs.Views.{PassView, MemoryView, known_at, knows, learned, is_known, Union, Knower, Keeps, IsGathered, journal_of}
use Rattle.board.proofs.JournalLists.{append_none, each_on}

module _ {V : Type 0} where
  if_some : (P : V → Type 0) (o : Option V) (v : V) → IfSome o P → o ≡ Some v → P v
  if_some P o v p e = subst (λ z. IfSome z P) e p

  -- nothing was known here, and v there
  pub union_learned : (a b c : Option V) (v : V) → is_known a ≡ false → b ≡ Some v → c ≡ Some v → Union a b c
  union_learned None b c v na is ic = subst (λ z. Union None z c) (sym is) (tt, ic, λ _. inr refl)
  union_learned (Some x) b c v na is ic = absurd (true≢false na)

  pub learned_sizes : (m m' : MemoryView V) (n : ℕ) (v : V) → m' ≡ learned m n v → (m'.cells ≡ m.cells) × (length m'.known ≡ length m.known)
  learned_sizes m m' n v e = (ap (λ (z : MemoryView V). z.cells) e, ap (λ (z : MemoryView V). length z.known) e ∙ length-set m.known n (Some v))

  knower_left : (n : ℕ) (ps qs : List (PassView V)) → Knower n ps → Knower n (ps ++ qs)
  knower_left n [] qs k = absurd k
  knower_left n (p ∷ ps) qs (inl k) = inl k
  knower_left n (p ∷ ps) qs (inr k) = inr (knower_left n ps qs k)

  knower_right : (n : ℕ) (ps qs : List (PassView V)) → Knower n qs → Knower n (ps ++ qs)
  knower_right n [] qs k = k
  knower_right n (p ∷ ps) qs k = inr (knower_right n ps qs k)

  pub gathered_more : (m a b : MemoryView V) (ps : List (PassView V)) (p : PassView V) → IsGathered m ps a → (b.cells ≡ a.cells) × (length b.known ≡ length a.known) → ((n : ℕ) → Union (known_at a n) (knows p n) (known_at b n))
      → IsGathered m (ps ++ p ∷ []) b
  gathered_more m a b ps p was same u =
      let grows : Keeps (known_at a) (known_at b) = λ n v e. if_some (λ x. known_at b n ≡ Some x) (known_at a n) v (u n).0 e in record {
        cells = same.0 ∙ was.cells;
        size = same.1 ∙ was.size;
        own = λ n v e. grows n v (was.own n v e);
        kept = All-push (λ q. Keeps (knows q) (known_at b)) ps p (All-weaker (λ q. Keeps (knows q) (known_at a)) (λ q. Keeps (knows q) (known_at b)) (λ q k n v e. grows n v (k n v e)) ps was.kept)
            (λ n v e. if_some (λ x. known_at b n ≡ Some x) (knows p n) v (u n).1 e);
        only = λ n g. ⊎_elim (λ (l : is_known (known_at a n) ≡ true). ⊎_elim (λ (x : is_known (known_at m n) ≡ true). inl x) (λ (k : Knower n ps). inr (knower_left n ps (p ∷ []) k)) (was.only n l))
            (λ (r : is_known (knows p n) ≡ true). inr (knower_right n ps (p ∷ []) (inl r))) ((u n).2 g);
      }

  -- the last pass had m
  pub gathered_all : (m m' : MemoryView V) (ps items : List (PassView V)) (p : PassView V) (known : List (Option V)) → IsGathered m ps m' → m ≡ p.memory → items ≡ ps ++ p ∷ [] → known ≡ m'.known
      → All (λ q. Keeps (knows q) (λ n. slice_index_or known n None)) items × ((n : ℕ) → is_known (slice_index_or known n None) ≡ true → Knower n items)
  gathered_all m m' ps items p known was e split k =
      let Of : List (Option V) × List (PassView V) → Type 0 = λ z. All (λ q. Keeps (knows q) (λ n. slice_index_or z.0 n None)) z.1 × ((n : ℕ) → is_known (slice_index_or z.0 n None) ≡ true → Knower n z.1) in
      subst Of (λ i. (sym k i, sym split i)) (
        All-push (λ q. Keeps (knows q) (known_at m')) ps p was.kept (λ n v is. was.own n v (ap (λ (z : MemoryView V). known_at z n) e ∙ is)),
        λ n g. ⊎_elim (λ (x : is_known (known_at m n) ≡ true). knower_right n ps (p ∷ []) (inl (ap (λ (z : MemoryView V). is_known (known_at z n)) (sym e) ∙ x))) (λ (j : Knower n ps). knower_left n ps (p ∷ []) j) (was.only n g),
      )

  pub journals_split : (ps items : List (PassView V)) (p : PassView V) (h : Journal) → items ≡ ps ++ p ∷ [] → h ≡ p.journal → map journal_of ps ++ h ∷ [] ≡ map journal_of items
  journals_split ps items p h split e = (λ i. map journal_of ps ++ e i ∷ []) ∙ sym (map-append journal_of ps (p ∷ [])) ∙ ap (map journal_of) (sym split)

-- ---- the end
all_ended : (hs : List Journal) (k n : ℕ) → unfinished hs k ≡ 0 → n < k → 0 < finishes n hs
all_ended hs zero n z lt = absurd (omega arith)
all_ended hs (suc k) n z lt = dite (ℕ_discrete n k)
    (λ e. subst (λ j. 0 < finishes j hs) (sym e) (one_ended (finishes k hs) (omega arith)))
    (λ ne. all_ended hs k n (omega arith) (omega arith))
  where
    one_ended : (x : ℕ) → bit (eqb x 0) ≡ 0 → 0 < x
    one_ended zero e = absurd (omega arith)
    one_ended (suc x) e = omega arith

pub ends_so : (plan plan' : List (List ℕ)) (passes nodes l h : ℕ) (words : List ℕ) (hs hs' : List Journal) (left : ℕ) (halted : Bool) → IsBoardState plan passes words (hs ∷ []) → plan ≡ plan' → hs ≡ hs' → nodes ≡ length plan
    → slice_index words nodes ≡ l → slice_index words (nodes + 1) ≡ h → left ≡ l → (IsTrue halted ↔ (h ≡ 1)) → IsEnd plan' words hs' left halted
ends_so plan plan' passes nodes l h words hs hs' left halted kept same journals size wl wh el eh =
    let P : List (List ℕ) × List Journal → Type 0 = λ z. IsEnd z.0 words z.1 left halted in
    let lawful : IsLawful plan words hs = subst (IsLawful plan words) (append_none hs) kept.law in let law = facts_of plan words hs lawful in
    let wl' : slice_index words (length plan) ≡ l = subst (λ n. slice_index words n ≡ l) size wl in
    let wh' : slice_index words (length plan + 1) ≡ h = subst (λ n. slice_index words (n + 1) ≡ h) size wh in
    subst P (λ i. (same i, journals i)) (record {
      lawful = lawful;
      count = wl' ∙ sym el;
      halt = ((λ t. law.set_halt (wh' ∙ eh.0 t)), (λ s. eh.1 (sym wh' ∙ law.halt_set s)));
      whole = each_on (Fits plan words hs) (λ k. k.least ≡ Some 0 → (n : ℕ) → n < length plan → finishes n hs ≡ 1) hs
          (λ k f e n lt. let low : slice_index words (length plan) ≤ 0 = subst (AtMost (slice_index words (length plan))) e f.least in let co = law.count in
          let one = law.once_finished n in let some = all_ended hs (length plan) n (omega arith) lt in omega arith) law.fits;
      saw = each_on (Fits plan words hs) (λ k. k.saw ≡ true → 0 < sets hs) hs (λ k f e. law.set_halt (f.saw e)) law.fits;
    })
