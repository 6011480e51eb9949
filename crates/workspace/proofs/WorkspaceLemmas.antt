-- Workspaces that grow by a file.
use Rattle.std.proofs.Common.{◌≡◌, ◌∙◌, ◌<◌, ◌+◌, ◌++◌, ◌||◌, ℕ, Bool, true, false, List, [], ◌∷◌, length, take, drop, refl, ap, sym, subst, get_or, inl, inr}
use Rattle.std.proofs.lemmas.Bool.{and_parts, both_ways, or_cases}
use Rattle.std.proofs.lemmas.Cmp.{nat_list_eq_equiv}
use Rattle.std.proofs.lemmas.List.{map-append, take-append-drop, take_more}
use Rattle.std.proofs.lemmas.List.Folds.{list_all-append, list_any-append}
use Rattle.std.proofs.lemmas.Map.Keys.{IsDistinct-head, IsDistinct-tail, IsDistinct-cons, IsDistinct-push}
use Rattle.std.specs.Prelude.{cond}
use Rattle.std.specs.Borrow.{Bor}
use Rattle.std.specs.BTreeSet.{BTreeSet, Updates, contains}
use Rattle.std.specs.BTreeMap.{is_at}
use Rattle.std.specs.Ordering.{nat_cmp}
use Rattle.std.specs.Cmp.Lexicographic.{slice_cmp, texts_ties}
use Rattle.std.specs.declared.cmp.Ordering.{Ordering}
use Rattle.std.specs.List.{AllByRecursion, IsDistinct, list_all, list_any}
use Rattle.std.specs.Str.{bytes_eq}
use Rattle.workspace.specs.Files.{file_pairs}
use Rattle.workspace.specs.declared.workspace.File.{File}
use Rattle.workspace.specs.Workspaces.{IsWorkspace, Pair, is_file, pairs_behind, paths_of}

all-front : {X : Type 0} (P : X → Type 0) (xs ys : List X) → AllByRecursion P (xs ++ ys) → AllByRecursion P xs
all-front P [] ys h = tt
all-front P (x ∷ xs) ys h = (h.0, all-front P xs ys h.1)

all-last : {X : Type 0} (P : X → Type 0) (xs : List X) (y : X) → AllByRecursion P (xs ++ y ∷ []) → P y
all-last P [] y h = h.0
all-last P (x ∷ xs) y h = all-last P xs y h.1

IsDistinct-nil : IsDistinct bytes_eq []
unfolding IsDistinct
IsDistinct-nil = tt

IsDistinct-front : (xs ys : List (List ℕ)) → IsDistinct bytes_eq (xs ++ ys) → IsDistinct bytes_eq xs
IsDistinct-front [] ys h = IsDistinct-nil
IsDistinct-front (x ∷ xs) ys h =
    IsDistinct-cons bytes_eq x xs (all-front _ xs ys (IsDistinct-head bytes_eq x (xs ++ ys) h))
    (IsDistinct-front xs ys (IsDistinct-tail bytes_eq x (xs ++ ys) h))

-- a path that comes again isn't distinct from the others
not_distinct : (xs : List (List ℕ)) (y : List ℕ) → list_any (bytes_eq y) xs ≡ true → IsDistinct bytes_eq (xs ++ y ∷ []) → ⊥
not_distinct [] y again h = both_ways false refl again
not_distinct (x ∷ xs) y again h = elim (or_cases (bytes_eq y x) (list_any (bytes_eq y) xs) again) [
  | inl same ↦ both_ways (bytes_eq x y) (all-last (λ z. bytes_eq x z ≡ false) xs y (IsDistinct-head bytes_eq x (xs ++ y ∷ []) h)) (nat_list_eq_equiv.symm x y ∙ same)
  | inr later ↦ not_distinct xs y later (IsDistinct-tail bytes_eq x (xs ++ y ∷ []) h)
]

pub IsWorkspace-front : (xs ys : List Pair) → IsWorkspace (xs ++ ys) → IsWorkspace xs
IsWorkspace-front xs ys w = record {
  files = (and_parts (list_all is_file xs) (list_all is_file ys) (sym (list_all-append is_file xs ys) ∙ w.files)).0;
  distinct = IsDistinct-front (paths_of xs) (paths_of ys) (rw (← map-append (λ (p : Pair). p.0) xs ys) w.distinct);
}

-- no workspace has a file that is illegal
not_file : (pairs : List Pair) (p : Pair) → is_file p ≡ false → IsWorkspace (pairs ++ p ∷ []) → ⊥
not_file pairs p illegal w =
    let both = and_parts (list_all is_file pairs) (list_all is_file (p ∷ [])) (sym (list_all-append is_file pairs (p ∷ [])) ∙ w.files) in
    both_ways (is_file p) illegal (and_parts (is_file p) true both.1).0

-- pairs of which one is no file are no workspace
pub refused_by_pair : (pairs : List (Bor (List ℕ) × Bor (List ℕ))) (i : ℕ) (d : Bor (List ℕ) × Bor (List ℕ)) → i < length pairs
    → is_file ((get_or pairs i d).0.now, (get_or pairs i d).1.now) ≡ false → IsWorkspace (pairs_behind pairs) → ⊥
refused_by_pair pairs i d lt illegal w =
    let x = get_or pairs i d in
    let parts : pairs_behind pairs ≡ pairs_behind (take (i + 1) pairs) ++ pairs_behind (drop (i + 1) pairs)
    = ap pairs_behind (sym (take-append-drop (i + 1) pairs)) ∙ map-append _ (take (i + 1) pairs) (drop (i + 1) pairs) in
    let step : pairs_behind (take (i + 1) pairs) ≡ pairs_behind (take i pairs) ++ (x.0.now, x.1.now) ∷ []
    = ap pairs_behind (take_more pairs i d lt) ∙ map-append _ (take i pairs) (x ∷ []) in
    not_file (pairs_behind (take i pairs)) (x.0.now, x.1.now) illegal
    (subst IsWorkspace step (IsWorkspace-front (pairs_behind (take (i + 1) pairs)) (pairs_behind (drop (i + 1) pairs)) (subst IsWorkspace parts w)))

-- paths are compared by their bytes
abbrev pub path_cmp : Bor (List ℕ) → Bor (List ℕ) → Ordering
path_cmp x y = slice_cmp nat_cmp x.now y.now

-- no path of these pairs stands twice, and a set has just their paths
pub record NotesPaths (pairs : List Pair) (paths : BTreeSet (Bor (List ℕ))) : Type 0 where
  pub distinct : IsDistinct bytes_eq (paths_of pairs)
  pub seen : (q : Bor (List ℕ)) → contains path_cmp paths q ≡ list_any (bytes_eq q.now) (paths_of pairs)

pub NotesPaths-nil : (paths : BTreeSet (Bor (List ℕ))) → paths.keys ≡ [] → NotesPaths [] paths
NotesPaths-nil paths none = record {
  distinct = IsDistinct-nil;
  seen = λ q. ap (list_any (is_at (path_cmp q))) none;
}

either : (a b : Bool) → cond a true b ≡ (b || (a || false))
either true true = refl
either true false = refl
either false true = refl
either false false = refl

NotesPaths-push : (pairs : List Pair) (olds news : BTreeSet (Bor (List ℕ))) (p : Pair) (k : Bor (List ℕ)) → k.now ≡ p.0 → NotesPaths pairs olds
    → contains path_cmp olds k ≡ false → Updates path_cmp olds news k true → NotesPaths (pairs ++ p ∷ []) news
NotesPaths-push pairs olds news p k is h fresh more = record {
  distinct =
      rw (map-append (λ (q : Pair). q.0) pairs (p ∷ []))
      (IsDistinct-push nat_list_eq_equiv (paths_of pairs) p.0 h.distinct (ap (λ (t : List ℕ). list_any (bytes_eq t) (paths_of pairs)) (sym is) ∙ sym (h.seen k) ∙ fresh));
  seen = λ q.
      let paths : list_any (bytes_eq q.now) (paths_of (pairs ++ p ∷ [])) ≡ (list_any (bytes_eq q.now) (paths_of pairs) || (bytes_eq q.now p.0 || false))
      = ap (list_any (bytes_eq q.now)) (map-append (λ (r : Pair). r.0) pairs (p ∷ [])) ∙ list_any-append (bytes_eq q.now) (paths_of pairs) (p.0 ∷ []) in
      let same : is_at (path_cmp k) q ≡ bytes_eq q.now p.0
      = sym (texts_ties k.now q.now) ∙ nat_list_eq_equiv.symm k.now q.now ∙ ap (bytes_eq q.now) is in
      more.0 q ∙ rw (same, h.seen q) (either (bytes_eq q.now p.0) (list_any (bytes_eq q.now) (paths_of pairs))) ∙ sym paths;
}

-- a turn of the loop over the files
pub NotesPaths-step : (files : List File) (i : ℕ) (d : File) (olds news : BTreeSet (Bor (List ℕ))) (k : Bor (List ℕ)) → i < length files
    → k.now ≡ (get_or files i d).path → NotesPaths (file_pairs (take i files)) olds → contains path_cmp olds k ≡ false → Updates path_cmp olds news k true
    → NotesPaths (file_pairs (take (i + 1) files)) news
NotesPaths-step files i d olds news k lt is h fresh more =
    let x = get_or files i d in
    let grown : file_pairs (take (i + 1) files) ≡ file_pairs (take i files) ++ (x.path, x.text) ∷ []
    = ap file_pairs (take_more files i d lt) ∙ map-append _ (take i files) (x ∷ []) in
    subst (λ (ps : List Pair). NotesPaths ps news) (sym grown) (NotesPaths-push (file_pairs (take i files)) olds news (x.path, x.text) k is h fresh more)

-- a path that was noted before stands twice
pub NotesPaths-again : (files : List File) (i : ℕ) (d : File) (paths : BTreeSet (Bor (List ℕ))) (k : Bor (List ℕ)) → i < length files
    → k.now ≡ (get_or files i d).path → NotesPaths (file_pairs (take i files)) paths → contains path_cmp paths k ≡ true
    → IsDistinct bytes_eq (paths_of (file_pairs files)) → ⊥
NotesPaths-again files i d paths k lt is h had whole =
    let x = get_or files i d in
    let parts : paths_of (file_pairs files) ≡ paths_of (file_pairs (take (i + 1) files)) ++ paths_of (file_pairs (drop (i + 1) files))
    = ap (λ (fs : List File). paths_of (file_pairs fs)) (sym (take-append-drop (i + 1) files))
    ∙ ap paths_of (map-append _ (take (i + 1) files) (drop (i + 1) files)) ∙ map-append _ (file_pairs (take (i + 1) files)) (file_pairs (drop (i + 1) files)) in
    let step : paths_of (file_pairs (take (i + 1) files)) ≡ paths_of (file_pairs (take i files)) ++ x.path ∷ []
    = ap (λ (fs : List File). paths_of (file_pairs fs)) (take_more files i d lt)
    ∙ ap paths_of (map-append _ (take i files) (x ∷ [])) ∙ map-append _ (file_pairs (take i files)) ((x.path, x.text) ∷ []) in
    not_distinct (paths_of (file_pairs (take i files))) x.path (ap (λ (t : List ℕ). list_any (bytes_eq t) (paths_of (file_pairs (take i files)))) (sym is) ∙ sym (h.seen k) ∙ had)
    (subst (IsDistinct bytes_eq) step (IsDistinct-front (paths_of (file_pairs (take (i + 1) files))) (paths_of (file_pairs (drop (i + 1) files))) (subst (IsDistinct bytes_eq) parts whole)))
