-- How often a number stands in a list, and what follows for the counts of a board.
use Rattle.std.proofs.Common.{◌≡◌, ◌≢◌, ℕ, zero, suc, ◌+◌, ◌<◌, ◌≤◌, Bool, true, false, cond, eqb, List, [], ◌∷◌, length, sym, refl, ap, subst, arith, eq-eqb, ne_eqb}
use mathlib.Core.Logic.{dite}
use native.Mathlib.Decide.{ℕ_discrete}
use Rattle.board.specs.declared.journal.Journal.{Journal}
use Rattle.board.specs.Journal.{times, edge_times, bit, deps, delivers, finishes, missing, unfinished}

pub times_here : (x : ℕ) (xs : List ℕ) → times x (x ∷ xs) ≡ 1 + times x xs
times_here x xs = rw (eq-eqb x x refl) refl

pub times_else : (x y : ℕ) (xs : List ℕ) → x ≢ y → times x (y ∷ xs) ≡ times x xs
times_else x y xs ne = rw (ne_eqb x y ne) (omega arith)

pub no_pos : (n : ℕ) → (0 < n → ⊥) → n ≡ 0
no_pos n f = dite (ℕ_discrete n 0) (λ e. e) (λ ne. absurd (f (omega arith)))

pub missing_same : (a b : List Journal) (u : ℕ) (ds : List ℕ) → ((d : ℕ) → delivers d u a ≡ delivers d u b) → missing a u ds ≡ missing b u ds
missing_same a b u [] e = refl
missing_same a b u (d ∷ ds) e = let r = missing_same a b u ds e in rw (e d, r) refl

pub unfinished_same : (a b : List Journal) (k : ℕ) → ((n : ℕ) → finishes n a ≡ finishes n b) → unfinished a k ≡ unfinished b k
unfinished_same a b zero e = refl
unfinished_same a b (suc k) e = let r = unfinished_same a b k e in rw (e k, r) refl

bit_le : (b : Bool) → cond b 1 0 ≤ 1
bit_le true = omega arith
bit_le false = omega arith

pub missing_le : (hs : List Journal) (u : ℕ) (ds : List ℕ) → missing hs u ds ≤ length ds
missing_le hs u [] = omega arith
missing_le hs u (d ∷ ds) = let r = missing_le hs u ds in let b = bit_le (eqb (delivers d u hs) 0) in omega arith

pub unfinished_below : (a b : List Journal) (k : ℕ) → ((n : ℕ) → n < k → finishes n a ≡ finishes n b) → unfinished a k ≡ unfinished b k
unfinished_below a b zero e = refl
unfinished_below a b (suc k) e = let r = unfinished_below a b k (λ n lt. e n (omega arith)) in rw (e k (omega arith), r) refl

pub none_is : (hs : List Journal) (n : ℕ) → finishes n hs ≡ 0 → bit (eqb (finishes n hs) 0) ≡ 1
none_is hs n e = rw (eq-eqb (finishes n hs) 0 e) refl

pub some_is : (hs : List Journal) (n : ℕ) → 0 < finishes n hs → bit (eqb (finishes n hs) 0) ≡ 0
some_is hs n e = rw (ne_eqb (finishes n hs) 0 (λ z. omega arith)) refl

-- one more node is finished
pub unfinished_less : (a b : List Journal) (n k : ℕ) → n < k → finishes n a ≡ 0 → 0 < finishes n b → ((m : ℕ) → m ≢ n → finishes m b ≡ finishes m a) → unfinished b k + 1 ≡ unfinished a k
unfinished_less a b n zero lt none one same = absurd (omega arith)
unfinished_less a b n (suc k) lt none one same =
    dite (ℕ_discrete k n)
    (λ e.
    let x : bit (eqb (finishes k a) 0) ≡ 1 = none_is a k (subst (λ m. finishes m a ≡ 0) (sym e) none) in
    let y : bit (eqb (finishes k b) 0) ≡ 0 = some_is b k (subst (λ m. 0 < finishes m b) (sym e) one) in
    let r = unfinished_below b a k (λ m l. same m (λ i. omega arith)) in omega arith)
    (λ ne. let x = same k ne in let r = unfinished_less a b n k (omega arith) none one same in
    let y : bit (eqb (finishes k b) 0) ≡ bit (eqb (finishes k a) 0) = ap (λ (m : ℕ). bit (eqb m 0)) x in omega arith)

-- f of each number below k, added up
unfoldable pub below : (ℕ → ℕ) → ℕ → ℕ
below f zero = 0
below f (suc k) = f k + below f k

pub below_none : (f : ℕ → ℕ) (k : ℕ) → ((m : ℕ) → m < k → f m ≡ 0) → below f k ≡ 0
unfolding below
below_none f zero e = refl
below_none f (suc k) e = let a = e k (omega arith) in let b = below_none f k (λ m l. e m (omega arith)) in omega arith

pub below_plus : (f g h : ℕ → ℕ) (k : ℕ) → ((m : ℕ) → f m ≡ g m + h m) → below f k ≡ below g k + below h k
unfolding below
below_plus f g h zero e = refl
below_plus f g h (suc k) e = let a = e k in let b = below_plus f g h k e in omega arith

below_one : (y k : ℕ) → y < k → below (λ m. bit (eqb m y)) k ≡ 1
unfolding below
below_one y zero lt = absurd (omega arith)
below_one y (suc k) lt =
    dite (ℕ_discrete k y)
    (λ e. let a : bit (eqb k y) ≡ 1 = rw (eq-eqb k y e) refl in
    let b = below_none (λ m. bit (eqb m y)) k (λ m l. let ne : (m ≡ y) → ⊥ = λ q. omega arith in rw (ne_eqb m y ne) refl) in omega arith)
    (λ ne. let a : bit (eqb k y) ≡ 0 = rw (ne_eqb k y ne) refl in let b = below_one y k (omega arith) in omega arith)

pub length_below : (N : ℕ) (xs : List ℕ) → ((x : ℕ) → 0 < times x xs → x < N) → below (λ m. times m xs) N ≡ length xs
unfolding below
length_below N [] e = below_none (λ m. 0) N (λ m l. refl)
length_below N (y ∷ ys) e =
    let a = below_plus (λ m. times m (y ∷ ys)) (λ m. bit (eqb m y)) (λ m. times m ys) N (λ m. refl) in
    let b = below_one y N (e y (let t = times_here y ys in omega arith)) in
    let c = length_below N ys (λ x p. e x (omega arith)) in omega arith

-- the nodes that are not finished, and those that one journal finished, are at most all nodes
left_over : (hs : List Journal) (f : ℕ → ℕ) (k : ℕ) → ((m : ℕ) → f m ≤ finishes m hs) → ((m : ℕ) → finishes m hs ≤ 1) → unfinished hs k + below f k ≤ k
unfolding below
left_over hs f zero le one = omega arith
left_over hs f (suc k) le one = let r = left_over hs f k le one in let a = le k in let b = one k in
    dite (ℕ_discrete (finishes k hs) 0)
    (λ e. let c : bit (eqb (finishes k hs) 0) ≡ 1 = none_is hs k e in omega arith)
    (λ ne. let c : bit (eqb (finishes k hs) 0) ≡ 0 = some_is hs k (omega arith) in omega arith)

pub left_rest : (hs : List Journal) (N : ℕ) (xs : List ℕ) → ((x : ℕ) → 0 < times x xs → x < N) → ((m : ℕ) → times m xs ≤ finishes m hs) → ((m : ℕ) → finishes m hs ≤ 1) → unfinished hs N + length xs ≤ N
left_rest hs N xs inside le one = let a = left_over hs (λ m. times m xs) N le one in let b = length_below N xs inside in omega arith

pub edge_times_here : (d u : ℕ) (es : List (ℕ × ℕ)) → edge_times d u ((d, u) ∷ es) ≡ 1 + edge_times d u es
edge_times_here d u es = rw (eq-eqb d d refl, eq-eqb u u refl) refl

pub edge_times_else : (a b d u : ℕ) (es : List (ℕ × ℕ)) → ((a ≡ d) × (b ≡ u) → ⊥) → edge_times a b ((d, u) ∷ es) ≡ edge_times a b es
edge_times_else a b d u es ne =
    dite (ℕ_discrete a d)
    (λ e. let n : (b ≡ u) → ⊥ = λ f. ne (e, f) in let z : cond (eqb a d) (bit (eqb b u)) 0 ≡ 0 = rw (eq-eqb a d e, ne_eqb b u n) refl in omega arith)
    (λ n. let z : cond (eqb a d) (bit (eqb b u)) 0 ≡ 0 = rw (ne_eqb a d n) refl in omega arith)

pub deps_inside : (plan : List (List ℕ)) (u d : ℕ) → 0 < times d (deps plan u) → u < length plan
deps_inside [] u d p = absurd (omega arith)
deps_inside (x ∷ xs) zero d p = omega arith
deps_inside (x ∷ xs) (suc u) d p = let r = deps_inside xs u d p in omega arith

pub missing_some : (hs : List Journal) (u d : ℕ) (ds : List ℕ) → 0 < times d ds → delivers d u hs ≡ 0 → 0 < missing hs u ds
missing_some hs u d [] p z = absurd (omega arith)
missing_some hs u d (e ∷ es) p z =
    dite (ℕ_discrete d e)
    (λ i. let a : bit (eqb (delivers e u hs) 0) ≡ 1 = rw (eq-eqb (delivers e u hs) 0 (subst (λ j. delivers j u hs ≡ 0) i z)) refl in omega arith)
    (λ n. let t = times_else d e es n in let r = missing_some hs u d es (omega arith) z in omega arith)

pub missing_none : (hs : List Journal) (u d : ℕ) (ds : List ℕ) → 0 < times d ds → missing hs u ds ≡ 0 → 0 < delivers d u hs
missing_none hs u d ds p z = dite (ℕ_discrete (delivers d u hs) 0) (λ e. let m = missing_some hs u d ds p e in absurd (omega arith)) (λ ne. omega arith)

missing_out : (a b : List Journal) (u d : ℕ) (ds : List ℕ) → times d ds ≡ 0 → ((x : ℕ) → x ≢ d → delivers x u b ≡ delivers x u a) → missing b u ds ≡ missing a u ds
missing_out a b u d [] z same = refl
missing_out a b u d (e ∷ es) z same =
    dite (ℕ_discrete d e)
    (λ i. let t : times d (d ∷ es) ≡ 0 = subst (λ j. times d (j ∷ es) ≡ 0) (sym i) z in let h = times_here d es in absurd (omega arith))
    (λ n. let t = times_else d e es n in let r = missing_out a b u d es (omega arith) same in let q : bit (eqb (delivers e u b) 0) ≡ bit (eqb (delivers e u a) 0) = ap (λ (m : ℕ). bit (eqb m 0)) (same e (λ j. n (sym j))) in omega arith)

-- one more of distinct dependencies has delivered
pub missing_one : (a b : List Journal) (u d : ℕ) (ds : List ℕ) → times d ds ≤ 1 → 0 < times d ds → delivers d u a ≡ 0 → 0 < delivers d u b → ((x : ℕ) → x ≢ d → delivers x u b ≡ delivers x u a) → missing b u ds + 1 ≡ missing a u ds
missing_one a b u d [] le p z s same = absurd (omega arith)
missing_one a b u d (e ∷ es) le p z s same =
    dite (ℕ_discrete d e)
    (λ i.
    let x : bit (eqb (delivers e u a) 0) ≡ 1 = rw (eq-eqb (delivers e u a) 0 (subst (λ j. delivers j u a ≡ 0) i z)) refl in
    let y : bit (eqb (delivers e u b) 0) ≡ 0 = rw (ne_eqb (delivers e u b) 0 (λ q. let s' : 0 < delivers e u b = subst (λ j. 0 < delivers j u b) i s in omega arith)) refl in
    let t : times d (d ∷ es) ≤ 1 = subst (λ j. times d (j ∷ es) ≤ 1) (sym i) le in let h = times_here d es in
    let r = missing_out a b u d es (omega arith) same in omega arith)
    (λ n. let t = times_else d e es n in let r = missing_one a b u d es (omega arith) (omega arith) z s same in
    let q : bit (eqb (delivers e u b) 0) ≡ bit (eqb (delivers e u a) 0) = ap (λ (m : ℕ). bit (eqb m 0)) (same e (λ j. n (sym j))) in omega arith)

below_le : (f : ℕ → ℕ) (k : ℕ) → ((m : ℕ) → f m ≤ 1) → below f k ≤ k
unfolding below
below_le f zero le = omega arith
below_le f (suc k) le = let a = le k in let b = below_le f k le in omega arith

pub short_list : (N : ℕ) (xs : List ℕ) → ((x : ℕ) → 0 < times x xs → x < N) → ((x : ℕ) → times x xs ≤ 1) → length xs ≤ N
short_list N xs inside one = let a = length_below N xs inside in let b = below_le (λ m. times m xs) N one in omega arith
