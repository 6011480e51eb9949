-- The rule holds of a new table.
use Rattle.std.proofs.Common.{◌≡◌, ℕ, zero, suc, ◌+◌, ◌<◌, ◌≤◌, eqb, List, [], ◌∷◌, ◌++◌, map, length, get_or, sym, refl, ap, ◌∙◌, subst, arith, eq-eqb, length-append}
use Rattle.std.proofs.lemmas.List.{length-map}
use Rattle.board.specs.declared.journal.Journal.{Journal}
use Rattle.board.specs.Journal.{times, edge_times, tally, Each, bit, deps, starts, readies, finishes, delivers, sets, missing, unfinished}
use Rattle.board.proofs.Facts.{Fits, lawful_of}
use Rattle.board.specs.Rule.{blank, blanks, first_words, IsBoardState}
use Rattle.board.specs.Lawful.{IsLawful}
use Rattle.board.proofs.JournalLists.{append_none, each-append}
use Rattle.board.proofs.Counts.{short_list}

blanks_zero : (f : Journal → ℕ) (plan : List (List ℕ)) (k : ℕ) → f (blank plan) ≡ 0 → tally f (blanks plan k) ≡ 0
blanks_zero f plan zero e = refl
blanks_zero f plan (suc k) e = let r = blanks_zero f plan k e in omega arith

blanks_each : (P : Journal → Type 0) (plan : List (List ℕ)) (k : ℕ) → P (blank plan) → Each P (blanks plan k)
blanks_each P plan zero p = tt
blanks_each P plan (suc k) p = (p, blanks_each P plan k p)

pub blanks_length : (plan : List (List ℕ)) (k : ℕ) → length (blanks plan k) ≡ k
blanks_length plan zero = refl
blanks_length plan (suc k) = let r = blanks_length plan k in omega arith

missing_all : (hs : List Journal) (u : ℕ) (ds : List ℕ) → ((d : ℕ) → delivers d u hs ≡ 0) → missing hs u ds ≡ length ds
missing_all hs u [] z = refl
missing_all hs u (d ∷ ds) z = let r = missing_all hs u ds z in let a : bit (eqb (delivers d u hs) 0) ≡ 1 = rw (eq-eqb (delivers d u hs) 0 (z d)) refl in omega arith

unfinished_all : (hs : List Journal) (k : ℕ) → ((n : ℕ) → finishes n hs ≡ 0) → unfinished hs k ≡ k
unfinished_all hs zero z = refl
unfinished_all hs (suc k) z = let r = unfinished_all hs k z in let a : bit (eqb (finishes k hs) 0) ≡ 1 = rw (eq-eqb (finishes k hs) 0 (z k)) refl in omega arith

degree_at : (plan : List (List ℕ)) (rest : List ℕ) (n : ℕ) → n < length plan → get_or (map length plan ++ rest) n 0 ≡ length (deps plan n)
degree_at [] rest n lt = absurd (omega arith)
degree_at (x ∷ xs) rest zero lt = refl
degree_at (x ∷ xs) rest (suc n) lt = degree_at xs rest n (omega arith)

past_end : (plan : List (List ℕ)) (rest : List ℕ) (j : ℕ) → get_or (map length plan ++ rest) (length plan + j) 0 ≡ get_or rest j 0
past_end [] rest j = ap (λ (k : ℕ). get_or rest k 0) (let e : 0 + j ≡ j = omega arith in e)
past_end (x ∷ xs) rest j = let e : suc (length xs) + j ≡ suc (length xs + j) = omega arith in rw e (past_end xs rest j)

pub first_length : (plan : List (List ℕ)) → length (first_words plan) ≡ length plan + 2
first_length plan = let a = length-append (map length plan) (length plan ∷ 0 ∷ []) in let m : length (map length plan) ≡ length plan = simp length-map in omega arith

-- a new board is lawful
pub first_law : (plan : List (List ℕ)) (passes : ℕ) → IsLawful plan (first_words plan) (blanks plan passes)
first_law plan passes =
    let js : List Journal = blanks plan passes in
    let none : (f : Journal → ℕ) → f (blank plan) ≡ 0 → tally f js ≡ 0 = λ f e. blanks_zero f plan passes e in
    let st : (n : ℕ) → starts n js ≡ 0 = λ n. none (λ x. times n x.started) refl in
    let re : (n : ℕ) → readies n js ≡ 0 = λ n. none (λ x. times n x.readied) refl in
    let fi : (n : ℕ) → finishes n js ≡ 0 = λ n. none (λ x. times n x.finished) refl in
    let de : (d u : ℕ) → delivers d u js ≡ 0 = λ d u. none (λ x. edge_times d u x.delivered) refl in
    let se : sets js ≡ 0 = none (λ x. bit x.set) refl in
    let mi : (n : ℕ) → missing js n (deps plan n) ≡ length (deps plan n) = λ n. missing_all js n (deps plan n) (λ d. de d n) in
    let wc : get_or (first_words plan) (length plan) 0 ≡ length plan = let e : length plan ≡ length plan + 0 = omega arith in let q = past_end plan (length plan ∷ 0 ∷ []) 0 in ap (λ (k : ℕ). get_or (first_words plan) k 0) e ∙ q in
    let wh : get_or (first_words plan) (length plan + 1) 0 ≡ 0 = past_end plan (length plan ∷ 0 ∷ []) 1 in
    lawful_of plan (first_words plan) js (record {
      once_started = λ n. let a = st n in omega arith;
      once_readied = λ n. let a = re n in omega arith;
      once_finished = λ n. let a = fi n in omega arith;
      once_delivered = λ d u. let a = de d u in omega arith;
      fits = blanks_each (Fits plan (first_words plan) js) plan passes (record {
        own = record { nodes = λ n p. absurd (omega arith); edges = λ d u p. absurd (omega arith); delivered = λ d u p. absurd (omega arith); finished = λ n p. absurd (omega arith); whole = λ n p u q. absurd (omega arith) };
        least = tt;
        saw = λ e. absurd (cc);
        seen = λ n p. absurd (omega arith);
      });
      waiting = λ n lt _. degree_at plan (length plan ∷ 0 ∷ []) n lt ∙ sym (mi n);
      marked = λ n lt p. let a = st n in absurd (omega arith);
      complete = λ n p. let a = st n in absurd (omega arith);
      ready = λ n p z. let a = mi n in absurd (omega arith);
      readied = λ n p. let a = re n in absurd (omega arith);
      count = wc ∙ sym (unfinished_all js (length plan) fi);
      halt = omega arith;
      halt_set = λ p. absurd (omega arith);
      set_halt = λ e. absurd (omega arith);
    })

pub begins : (plan : List (List ℕ)) (passes : ℕ) → ((n d : ℕ) → times d (deps plan n) ≤ 1) → ((n d : ℕ) → 0 < times d (deps plan n) → d < length plan) → length plan < 18446744073709551615
    → IsBoardState plan passes (first_words plan) (blanks plan passes ∷ [])
begins plan passes distinct inside small = record {
  wide = first_length plan;
  all = omega (arith, length-append (blanks plan passes) [], blanks_length plan passes);
  told = each-append (λ x. x.plan ≡ plan) (blanks plan passes) [] (blanks_each (λ x. x.plan ≡ plan) plan passes refl) tt;
  shape = record { distinct = distinct; inside = inside; short = λ n. let a = short_list (length plan) (deps plan n) (inside n) (distinct n) in omega arith };
  law = subst (IsLawful plan (first_words plan)) (sym (append_none (blanks plan passes))) (first_law plan passes);
}
