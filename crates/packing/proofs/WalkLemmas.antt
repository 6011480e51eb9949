-- Steps of a walk.
use Rattle.std.proofs.Common.{◌≡◌, ◌∙◌, ◌≢◌, ◌⊎◌, ◌<◌, ◌+◌, ◌++◌, ℕ, Bool, true, false, List, [], ◌∷◌, length, refl, ap, ap₂, sym, subst, inl, inr, arith, take, get_or, true≢false}
use Rattle.std.specs.Prelude.{All, Contains, IsSome, Option, Some, None}
use Rattle.std.specs.declared.cmp.Ordering.{Ordering}
use Rattle.std.specs.declared.cmp.Ordering.TheVariants.{Less, Equal, Greater}
use Rattle.std.specs.BTreeSet.{insert_key}
use Rattle.std.specs.Cmp.Lexicographic.{slice_cmp}
use Rattle.std.specs.Ordering.{is_eq, match_ordering, nat_cmp}
use Rattle.std.proofs.lemmas.List.{take_more}
use Rattle.std.proofs.lemmas.List.Elements.{All-nil, All-pop, All-push, All-same, Contains-append_cases, Contains-append_left, Contains-append_right, Contains-push_cases}
use Rattle.std.proofs.lemmas.Map.Text.{is_eq-slice_cmp}
use Rattle.std.proofs.lemmas.Slice.Eq.{bytes_eq-Decides}
use Rattle.std.proofs.lemmas.Map.Views.{All-insert_key}
use Rattle.packing.specs.Folders.{At, Comes, HasKind, HasNames, HasNoKind, HasNoNames, HasOthers, IsFile, IsFolder, IsHiddenFolder, IsKnown, IsKnownFile, IsListed, Leads, Node, Reaches, TellsNames, below, file, folder, here, inside, is_hidden, link, onward, passes_over, shut_file, shut_folder, special, start, unread}
use Rattle.packing.specs.Packs.{HasReason, IsTold, IsUnread}
use Rattle.packing.specs.Walks.{CoversFrom, CoversName, Grows, IsBegun, IsCovered, IsWithin, Stays}
use Rattle.packing.specs.declared.folders.Kind.{Kind}
use Rattle.packing.specs.declared.folders.Kind.TheVariants as kind
use Rattle.packing.specs.declared.folders.Unread.{Unread}
use Rattle.packing.specs.declared.leaving.LeftOut.{LeftOut}
use Rattle.packing.specs.declared.leaving.Reason.{Reason}
use Rattle.packing.specs.declared.leaving.Reason.TheVariants as reason
use Rattle.packing.specs.declared.walk.Walk.{Walk}

same-contains : {X : Type 0} (xs ys : List X) (x : X) → ys ≡ xs → Contains xs x → Contains ys x
same-contains xs ys x same h = subst (λ zs. Contains zs x) (sym same) h

-- ---- nothing is lost

told-kept : (n : Option Node) (path : List ℕ) (files more : List (List ℕ)) (left rest : List LeftOut) → ((x : List ℕ) → Contains files x → Contains more x)
    → ((l : LeftOut) → Contains left l → Contains rest l) → IsTold n path files left → IsTold n path more rest
told-kept None path files more left rest found kept told = told
told-kept (Some (folder names others)) path files more left rest found kept told = λ is. kept (record { path = path; reason = reason.NamesNotUtf8 }) (told is)
told-kept (Some (file bytes)) path files more left rest found kept told = found path told
told-kept (Some link) path files more left rest found kept told = told
told-kept (Some special) path files more left rest found kept told = told
told-kept (Some (shut_folder w)) path files more left rest found kept told = told
told-kept (Some (shut_file w)) path files more left rest found kept told = found path told
told-kept (Some (unread u)) path files more left rest found kept told = told

covered-kept : (at : At) (old new : Walk) (path : List ℕ) → ((x : List ℕ) → Contains old.files.keys x → Contains new.files.keys x)
    → ((l : LeftOut) → Contains old.left.items l → Contains new.left.items l) → ((x : List ℕ) → Contains old.waiting.items x → Contains new.waiting.items x)
    → IsCovered at old path → IsCovered at new path
covered-kept at old new path found kept waits h = elim h [
  | inl told ↦ inl (told-kept (at path) path old.files.keys new.files.keys old.left.items new.left.items found kept told)
  | inr rest ↦ elim rest [
    | inl named ↦ inr (inl (named.0, kept named.0 named.1, named.2))
    | inr waiting ↦ inr (inr (waiting.0, waits waiting.0 waiting.1, waiting.2))
  ]
]

-- something more is named
pub grows-left : (at : At) (old new : Walk) (l : LeftOut) → new.files.keys ≡ old.files.keys → new.waiting.items ≡ old.waiting.items
    → new.left.items ≡ old.left.items ++ l ∷ [] → HasReason at l → Grows at old new
grows-left at old new l files waiting left reason = record {
  covered = λ path h. covered-kept at old new path (λ x k. same-contains old.files.keys new.files.keys x files k)
      (λ m k. same-contains (old.left.items ++ l ∷ []) new.left.items m left (Contains-append_left old.left.items (l ∷ []) m k))
      (λ x k. same-contains old.waiting.items new.waiting.items x waiting k) h;
  files = λ h. subst (λ ks. All (λ p. IsFile (at p)) ks) (sym files) h;
  reasons = λ h. subst (λ ls. All (HasReason at) ls) (sym left) (All-push (HasReason at) old.left.items l h reason);
  folders = λ h. subst (λ ws. All (λ p. IsFolder (at p)) ws) (sym waiting) h;
}

-- what is named leads nowhere
pub covers-named : (at : At) (w : Walk) (path : List ℕ) (r : Reason) → Contains w.left.items (record { path = path; reason = r }) → r ≢ reason.NamesNotUtf8
    → ((names : List (List ℕ)) (others : Bool) → at path ≡ Some (folder names others) → ⊥) → CoversFrom at w path
covers-named at w path r named itself shut p (here q) = inr (inl (record { path = path; reason = r }, named, (refl, itself)))
covers-named at w path r named itself shut p (inside f name q names others there listed kept seen later) = absurd (shut names others there)

pub grows-same : (at : At) (w : Walk) → Grows at w w
grows-same at w = record { covered = λ path h. h; files = λ h. h; reasons = λ h. h; folders = λ h. h }

pub grows-then : (at : At) (a b c : Walk) → Grows at a b → Grows at b c → Grows at a c
grows-then at a b c g h = record {
  covered = λ path k. h.covered path (g.covered path k);
  files = λ k. h.files (g.files k);
  reasons = λ k. h.reasons (g.reasons k);
  folders = λ k. h.folders (g.folders k);
}

-- ---- paths in order

abbrev order : List ℕ → List ℕ → Ordering
order = slice_cmp nat_cmp

same_path : (x y : List ℕ) → order x y ≡ Equal → x ≡ y
same_path x y is = (bytes_eq-Decides x y).0 (sym (is_eq-slice_cmp x y) ∙ ap is_eq is)

one : (x : List ℕ) (xs : List (List ℕ)) (q : List ℕ) → x ≡ q → Contains (x ∷ xs) q
one x xs q same = (0, omega arith, same)

insert-keeps : (ks : List (List ℕ)) (k q : List ℕ) → Contains ks q → Contains (insert_key order ks k) q
insert-keeps [] k q h = absurd (omega (arith, h.1))
insert-keeps (x ∷ xs) k q h = go (insert-keeps xs k q) (order k x)
  where
    go : (Contains xs q → Contains (insert_key order xs k) q) → (o : Ordering)
        → Contains (match_ordering o (k ∷ x ∷ xs) (x ∷ xs) (x ∷ insert_key order xs k)) q
    go rest Less = Contains-append_right (k ∷ []) (x ∷ xs) q h
    go rest Equal = h
    go rest Greater = elim (Contains-append_cases (x ∷ []) xs q h) [
      | inl first ↦ Contains-append_left (x ∷ []) (insert_key order xs k) q first
      | inr later ↦ Contains-append_right (x ∷ []) (insert_key order xs k) q (rest later)
    ]

pub insert-has : (ks : List (List ℕ)) (k : List ℕ) → Contains (insert_key order ks k) k
insert-has [] k = one k [] k refl
insert-has (x ∷ xs) k = go (insert-has xs k) (order k x) refl
  where
    go : Contains (insert_key order xs k) k → (o : Ordering) → order k x ≡ o
        → Contains (match_ordering o (k ∷ x ∷ xs) (x ∷ xs) (x ∷ insert_key order xs k)) k
    go rest Less is = one k (x ∷ xs) k refl
    go rest Equal is = one x xs k (sym (same_path k x is))
    go rest Greater is = Contains-append_right (x ∷ []) (insert_key order xs k) k rest

-- a file more is found
pub grows-found : (at : At) (old new : Walk) (path : List ℕ) → new.files.keys ≡ insert_key order old.files.keys path
    → new.waiting.items ≡ old.waiting.items → new.left.items ≡ old.left.items → IsFile (at path) → Grows at old new
grows-found at old new path files waiting left is = record {
  covered = λ p h. covered-kept at old new p
      (λ x k. same-contains (insert_key order old.files.keys path) new.files.keys x files (insert-keeps old.files.keys path x k))
      (λ l k. same-contains old.left.items new.left.items l left k) (λ x k. same-contains old.waiting.items new.waiting.items x waiting k) h;
  files = λ h. subst (λ ks. All (λ p. IsFile (at p)) ks) (sym files) (All-insert_key order path (λ p. IsFile (at p)) old.files.keys h is);
  reasons = λ h. subst (λ ls. All (HasReason at) ls) (sym left) h;
  folders = λ h. subst (λ ws. All (λ p. IsFolder (at p)) ws) (sym waiting) h;
}

-- what is told to be a folder is one, where it is known
pub kind-folder : (n : Option Node) → HasKind n kind.Folder → IsFolder n
kind-folder None has = has
kind-folder (Some (folder names others)) has = tt
kind-folder (Some (file bytes)) has = absurd (cc)
kind-folder (Some link) has = absurd (cc)
kind-folder (Some special) has = absurd (cc)
kind-folder (Some (shut_folder w)) has = tt
kind-folder (Some (shut_file w)) has = absurd (cc)
kind-folder (Some (unread u)) has = has

-- what isn't a folder leads to itself alone
alone : (at : At) (from path : List ℕ) (k : Kind) → HasKind (at from) k → k ≢ kind.Folder → Leads at from path → path ≡ from
alone at from path k is other (here p) = refl
alone at from path k is other (inside f name p names others there listed kept seen later) = absurd (other (subst (λ n. HasKind n k) there is))

covers-alone : (at : At) (w : Walk) (path : List ℕ) (k : Kind) → HasKind (at path) k → k ≢ kind.Folder → IsTold (at path) path w.files.keys w.left.items
    → CoversFrom at w path
covers-alone at w path k is other told p r = subst (IsCovered at w) (sym (alone at path p k is other r)) (inl told)

told-file : (n : Option Node) (path : List ℕ) (files : List (List ℕ)) (left : List LeftOut) → HasKind n kind.File → Contains files path → IsTold n path files left
told-file None path files left is found = is
told-file (Some (folder names others)) path files left is found = absurd (cc)
told-file (Some (file bytes)) path files left is found = found
told-file (Some link) path files left is found = absurd (cc)
told-file (Some special) path files left is found = absurd (cc)
told-file (Some (shut_folder w)) path files left is found = absurd (cc)
told-file (Some (shut_file w)) path files left is found = found
told-file (Some (unread u)) path files left is found = is

told-link : (n : Option Node) (path : List ℕ) (files : List (List ℕ)) (left : List LeftOut) → HasKind n kind.Link → IsTold n path files left
told-link None path files left is = is
told-link (Some (folder names others)) path files left is = absurd (cc)
told-link (Some (file bytes)) path files left is = absurd (cc)
told-link (Some link) path files left is = tt
told-link (Some special) path files left is = absurd (cc)
told-link (Some (shut_folder w)) path files left is = absurd (cc)
told-link (Some (shut_file w)) path files left is = absurd (cc)
told-link (Some (unread u)) path files left is = is

pub covers-found : (at : At) (w : Walk) (path : List ℕ) → HasKind (at path) kind.File → Contains w.files.keys path → CoversFrom at w path
covers-found at w path is found = covers-alone at w path kind.File is (λ e. cc) (told-file (at path) path w.files.keys w.left.items is found)

pub covers-link : (at : At) (w : Walk) (path : List ℕ) → HasKind (at path) kind.Link → CoversFrom at w path
covers-link at w path is = covers-alone at w path kind.Link is (λ e. cc) (told-link (at path) path w.files.keys w.left.items is)

-- a folder that is passed over
told-hidden : (n : Option Node) (name path : List ℕ) (files : List (List ℕ)) (left : List LeftOut) → HasKind n kind.Folder → is_hidden name ≡ true
    → (IsHiddenFolder n name → ⊥) → IsTold n path files left
told-hidden None name path files left is hidden seen = is
told-hidden (Some (folder names others)) name path files left is hidden seen = absurd (seen hidden)
told-hidden (Some (file bytes)) name path files left is hidden seen = absurd (cc)
told-hidden (Some link) name path files left is hidden seen = absurd (cc)
told-hidden (Some special) name path files left is hidden seen = absurd (cc)
told-hidden (Some (shut_folder w)) name path files left is hidden seen = absurd (seen hidden)
told-hidden (Some (shut_file w)) name path files left is hidden seen = absurd (cc)
told-hidden (Some (unread u)) name path files left is hidden seen = is

hidden-folder : (n : Option Node) (name : List ℕ) (names : List (List ℕ)) (others : Bool) → n ≡ Some (folder names others) → is_hidden name ≡ true → IsHiddenFolder n name
hidden-folder n name names others there hidden = subst (λ m. IsHiddenFolder m name) (sym there) hidden

pub covers-hidden : (at : At) (w : Walk) (from name : List ℕ) → HasKind (at (below from name)) kind.Folder → is_hidden name ≡ true → CoversName at w from name
covers-hidden at w from name is hidden kept seen path (here p) =
    inl (told-hidden (at (below from name)) name (below from name) w.files.keys w.left.items is hidden seen)
covers-hidden at w from name is hidden kept seen path (inside f n p names others there listed k s later) =
    absurd (seen (hidden-folder (at (below from name)) name names others there hidden))

-- ---- into a folder

told-others : (n : Option Node) (path : List ℕ) (names : List (List ℕ)) (more : Bool) (files : List (List ℕ)) (left : List LeftOut) → HasNames n names more
    → (more ≡ true → Contains left (record { path = path; reason = reason.NamesNotUtf8 })) → IsTold n path files left
told-others None path names more files left has named = has
told-others (Some (folder ns others)) path names more files left has named = λ is. named (has.1 ∙ is)
told-others (Some (file bytes)) path names more files left has named = absurd has
told-others (Some link) path names more files left has named = absurd has
told-others (Some special) path names more files left has named = absurd has
told-others (Some (shut_folder w)) path names more files left has named = absurd has
told-others (Some (shut_file w)) path names more files left has named = absurd has
told-others (Some (unread u)) path names more files left has named = absurd has

-- a name that isn't in the folder leads nowhere
pub covers-names : (at : At) (w : Walk) (from : List ℕ) (names : List (List ℕ)) (more : Bool) → HasNames (at from) names more
    → (more ≡ true → Contains w.left.items (record { path = from; reason = reason.NamesNotUtf8 }))
    → ((name : List ℕ) → Contains names name → CoversName at w from name) → CoversFrom at w from
covers-names at w from names more told named each path (here p) = inl (told-others (at from) from names more w.files.keys w.left.items told named)
covers-names at w from names more told named each path (inside f name p ns others there listed kept seen later) =
    let same : names ≡ ns = (subst (λ n. HasNames n names more) there told).0 in
    each name (subst (λ (xs : List (List ℕ)). Contains xs name) (sym same) listed) kept seen path later

pub covers-more : (at : At) (a b : Walk) (from : List ℕ) (names : List (List ℕ)) (i : ℕ) (d : List ℕ) → i < length names → Grows at a b
    → ((name : List ℕ) → Contains (take i names) name → CoversName at a from name) → CoversName at b from (get_or names i d)
    → (name : List ℕ) → Contains (take (i + 1) names) name → CoversName at b from name
covers-more at a b from names i d lt g before now name h =
    let grown : take (i + 1) names ≡ take i names ++ get_or names i d ∷ [] = take_more names i d lt in
    elim (Contains-push_cases (take i names) (get_or names i d) name (subst (λ (xs : List (List ℕ)). Contains xs name) grown h)) [
      | inl early ↦ λ kept seen path r. g.covered path (before name early kept seen path r)
      | inr same ↦ subst (λ (n : List ℕ). CoversName at b from n) same now
    ]

-- ---- nowhere else

-- a file more is found
pub stays-found : (at : At) (old new : Walk) (path : List ℕ) → new.files.keys ≡ insert_key order old.files.keys path
    → new.waiting.items ≡ old.waiting.items → new.left.items ≡ old.left.items → Reaches at [] path → Stays at old new
stays-found at old new path files waiting left reached k h = record {
  files = All-same (Reaches at []) new.files.keys (insert_key order old.files.keys path) files
      (All-insert_key order path (Reaches at []) old.files.keys h.files reached);
  waiting = All-same (Comes at) new.waiting.items old.waiting.items waiting h.waiting;
  left = All-same (λ (l : LeftOut). Comes at l.path) new.left.items old.left.items left h.left;
}

-- something more is left out
pub stays-left : (at : At) (old new : Walk) (l : LeftOut) → new.files.keys ≡ old.files.keys → new.waiting.items ≡ old.waiting.items
    → new.left.items ≡ old.left.items ++ l ∷ [] → Comes at l.path → Stays at old new
stays-left at old new l files waiting left asked k h = record {
  files = All-same (Reaches at []) new.files.keys old.files.keys files h.files;
  waiting = All-same (Comes at) new.waiting.items old.waiting.items waiting h.waiting;
  left = All-same (λ (l : LeftOut). Comes at l.path) new.left.items (old.left.items ++ l ∷ []) left
      (All-push (λ (l : LeftOut). Comes at l.path) old.left.items l h.left asked);
}

known-folder : (n : Option Node) (told : List (List ℕ)) (more : Bool) → IsSome n → HasNames n told more → n ≡ Some (folder told more)
known-folder None told more some has = absurd (cc)
known-folder (Some (folder names others)) told more some has = sym (ap₂ (λ (ns : List (List ℕ)) (b : Bool). Some (folder ns b)) has.0 has.1)
known-folder (Some (file bytes)) told more some has = absurd has
known-folder (Some link) told more some has = absurd has
known-folder (Some special) told more some has = absurd has
known-folder (Some (shut_folder w)) told more some has = absurd has
known-folder (Some (shut_file w)) told more some has = absurd has
known-folder (Some (unread u)) told more some has = absurd has

known-file : (n : Option Node) → IsSome n → HasKind n kind.File → IsKnownFile n
known-file None some has = absurd (cc)
known-file (Some (folder names others)) some has = absurd (cc)
known-file (Some (file bytes)) some has = tt
known-file (Some link) some has = absurd (cc)
known-file (Some special) some has = absurd (cc)
known-file (Some (shut_folder w)) some has = absurd (cc)
known-file (Some (shut_file w)) some has = tt
known-file (Some (unread u)) some has = has

-- a file isn't hidden
seen-file : (n : Option Node) (name : List ℕ) → HasKind n kind.File → IsHiddenFolder n name → ⊥
seen-file None name has h = h
seen-file (Some (folder names others)) name has h = absurd (cc)
seen-file (Some (file bytes)) name has h = h
seen-file (Some link) name has h = h
seen-file (Some special) name has h = h
seen-file (Some (shut_folder w)) name has h = absurd (cc)
seen-file (Some (shut_file w)) name has h = h
seen-file (Some (unread u)) name has h = h

-- nor is a name that begins with no dot
pub seen-name : (n : Option Node) (name : List ℕ) → is_hidden name ≡ false → IsHiddenFolder n name → ⊥
seen-name None name shown h = h
seen-name (Some (folder names others)) name shown h = absurd (true≢false (sym h ∙ shown))
seen-name (Some (file bytes)) name shown h = h
seen-name (Some link) name shown h = h
seen-name (Some special) name shown h = h
seen-name (Some (shut_folder w)) name shown h = absurd (true≢false (sym h ∙ shown))
seen-name (Some (shut_file w)) name shown h = h
seen-name (Some (unread u)) name shown h = h

-- what a path leads to that a walk comes to, the root leads to
comes-leads : (at : At) (from path : List ℕ) → Comes at from → Leads at from path → Leads at [] path
comes-leads at from path start r = r
comes-leads at from path (onward f name names others c there listed kept seen) r =
    comes-leads at f path c (inside f name path names others there listed kept seen r)

-- by a name that a known folder tells
pub listed-by : (at : At) (from : List ℕ) (told : List (List ℕ)) (more : Bool) (name : List ℕ) → IsKnown at → Comes at from → HasNames (at from) told more
    → Contains told name → IsListed at from name
listed-by at from told more name k c has listed = (told, more, c, known-folder (at from) told more (k from c) has, listed)

pub comes-by : (at : At) (from name : List ℕ) → IsListed at from name → passes_over from name ≡ false → (IsHiddenFolder (at (below from name)) name → ⊥)
    → Comes at (below from name)
comes-by at from name l kept seen = onward from name l.0 l.1 l.2 l.3 l.4 kept seen

-- to a regular file
pub reached-file : (at : At) (from name : List ℕ) → HasKind (at (below from name)) kind.File → passes_over from name ≡ false
    → IsKnown at → IsListed at from name → Reaches at [] (below from name)
reached-file at from name is kept k l =
    let c : Comes at (below from name) = comes-by at from name l kept (seen-file (at (below from name)) name is) in
    (comes-leads at (below from name) (below from name) c (here (below from name)), known-file (at (below from name)) (k (below from name) c) is)

comes-along : (at : At) (from path : List ℕ) → Comes at from → Leads at from path → Comes at path
comes-along at from path c (here p) = c
comes-along at from path c (inside f name p names others there listed kept seen later) =
    comes-along at (below f name) p (onward f name names others c there listed kept seen) later

pub reaches-comes : (at : At) (path : List ℕ) → Reaches at [] path → Comes at path
reaches-comes at path r = comes-along at [] path start r.0

-- whose names are told is a folder that tells them
pub told-names : (n : Option Node) (told : List (List ℕ)) (more : Bool) → HasNames n told more → TellsNames n
told-names None told more has = has
told-names (Some (folder names others)) told more has = tt
told-names (Some (file bytes)) told more has = has
told-names (Some link) told more has = has
told-names (Some special) told more has = has
told-names (Some (shut_folder w)) told more has = has
told-names (Some (shut_file w)) told more has = has
told-names (Some (unread u)) told more has = has

-- with names that aren't UTF-8 besides, it has others
pub told-more : (n : Option Node) (told : List (List ℕ)) (more : Bool) → HasNames n told more → more ≡ true → HasOthers n
told-more None told more has is = has
told-more (Some (folder names others)) told more has is = sym has.1 ∙ is
told-more (Some (file bytes)) told more has is = has
told-more (Some link) told more has is = has
told-more (Some special) told more has is = has
told-more (Some (shut_folder w)) told more has is = has
told-more (Some (shut_file w)) told more has is = has
told-more (Some (unread u)) told more has is = has

-- what tells no kind, and a folder that tells no names, are unread for that reason
pub unread-kind : (n : Option Node) (path : List ℕ) (u : Unread) → HasNoKind n u → IsUnread n path u
unread-kind None path u has = has
unread-kind (Some (folder names others)) path u has = has
unread-kind (Some (file bytes)) path u has = has
unread-kind (Some link) path u has = has
unread-kind (Some special) path u has = has
unread-kind (Some (shut_folder w)) path u has = absurd has
unread-kind (Some (shut_file w)) path u has = absurd has
unread-kind (Some (unread w)) path u has = has

pub unread-folder : (n : Option Node) (path : List ℕ) (u : Unread) → IsFolder n → HasNoNames n u → IsUnread n path u
unread-folder None path u is has = has
unread-folder (Some (folder names others)) path u is has = has
unread-folder (Some (file bytes)) path u is has = absurd is
unread-folder (Some link) path u is has = absurd is
unread-folder (Some special) path u is has = absurd is
unread-folder (Some (shut_folder w)) path u is has = has
unread-folder (Some (shut_file w)) path u is has = absurd is
unread-folder (Some (unread w)) path u is has = has

-- what tells no kind, and what is special, is no folder that is passed over
pub seen-unread : (n : Option Node) (name : List ℕ) (u : Unread) → HasNoKind n u → IsHiddenFolder n name → ⊥
seen-unread None name u has h = h
seen-unread (Some (folder names others)) name u has h = has
seen-unread (Some (file bytes)) name u has h = h
seen-unread (Some link) name u has h = h
seen-unread (Some special) name u has h = h
seen-unread (Some (shut_folder w)) name u has h = has
seen-unread (Some (shut_file w)) name u has h = h
seen-unread (Some (unread w)) name u has h = h

pub seen-special : (n : Option Node) (name : List ℕ) → HasKind n kind.Special → IsHiddenFolder n name → ⊥
seen-special None name has h = h
seen-special (Some (folder names others)) name has h = absurd (cc)
seen-special (Some (file bytes)) name has h = h
seen-special (Some link) name has h = h
seen-special (Some special) name has h = h
seen-special (Some (shut_folder w)) name has h = absurd (cc)
seen-special (Some (shut_file w)) name has h = h
seen-special (Some (unread w)) name has h = h

-- what tells no kind, what is special and a folder that tells no names lead nowhere
pub shut-kind : (n : Option Node) (u : Unread) (names : List (List ℕ)) (others : Bool) → HasNoKind n u → n ≡ Some (folder names others) → ⊥
shut-kind n u names others has there = subst (λ m. HasNoKind m u) there has

pub shut-special : (n : Option Node) (names : List (List ℕ)) (others : Bool) → HasKind n kind.Special → n ≡ Some (folder names others) → ⊥
shut-special n names others has there = let bad : kind.Special ≡ kind.Folder = subst (λ m. HasKind m kind.Special) there has in cc

pub shut-names : (n : Option Node) (u : Unread) (names : List (List ℕ)) (others : Bool) → HasNoNames n u → n ≡ Some (folder names others) → ⊥
shut-names n u names others has there = subst (λ m. HasNoNames m u) there has

-- ---- the whole walk

-- a walk that has found nothing yet, and then went through the names in the root
pub begun : (at : At) (names : List (List ℕ)) (more : Bool) (none w : Walk) (from : List ℕ) → none.files.keys ≡ [] → none.waiting.items ≡ [] → none.left.items ≡ []
    → from ≡ [] → HasNames (at []) names more → Grows at none w → CoversFrom at w from → (Comes at from → Stays at none w) → IsBegun at w
begun at names more none w from files waiting left is told grows covers only = record {
  root = told-names (at []) names more told;
  covers = subst (CoversFrom at w) is covers;
  folders = grows.folders (All-same (λ p. IsFolder (at p)) none.waiting.items [] waiting (All-nil (λ p. IsFolder (at p))));
  only = λ k. only (subst (Comes at) (sym is) start) k (record {
    files = All-same (Reaches at []) none.files.keys [] files (All-nil (Reaches at []));
    waiting = All-same (Comes at) none.waiting.items [] waiting (All-nil (Comes at));
    left = All-same (λ (l : LeftOut). Comes at l.path) none.left.items [] left (All-nil (λ (l : LeftOut). Comes at l.path));
  });
  files = grows.files (All-same (λ p. IsFile (at p)) none.files.keys [] files (All-nil (λ p. IsFile (at p))));
  reasons = grows.reasons (All-same (HasReason at) none.left.items [] left (All-nil (HasReason at)));
}

-- a folder that waited is taken out, and folders wait
pub folder-taken : (at : At) (old new : Walk) (from : List ℕ) → old.waiting.items ≡ new.waiting.items ++ from ∷ [] → All (λ p. IsFolder (at p)) old.waiting.items
    → All (λ p. IsFolder (at p)) new.waiting.items × IsFolder (at from)
folder-taken at old new from waiting h = All-pop (λ p. IsFolder (at p)) old.waiting.items new.waiting.items (Some from) waiting h

-- a folder that waited is taken out
pub within-taken : (at : At) (old new : Walk) (from : List ℕ) → new.files.keys ≡ old.files.keys → new.left.items ≡ old.left.items
    → old.waiting.items ≡ new.waiting.items ++ from ∷ [] → IsWithin at old → IsWithin at new × Comes at from
within-taken at old new from files left waiting h =
    let both = All-pop (Comes at) old.waiting.items new.waiting.items (Some from) waiting h.waiting in (
      record {
        files = All-same (Reaches at []) new.files.keys old.files.keys files h.files;
        waiting = both.0;
        left = All-same (λ (l : LeftOut). Comes at l.path) new.left.items old.left.items left h.left;
      },
      both.1,
    )

pub taken-covered : (at : At) (old new : Walk) (from path : List ℕ) → new.files.keys ≡ old.files.keys → new.left.items ≡ old.left.items
    → old.waiting.items ≡ new.waiting.items ++ from ∷ [] → IsCovered at old path → IsCovered at new path ⊎ Leads at from path
taken-covered at old new from path files left waiting h = elim h [
  | inl told ↦ inl (inl (told-kept (at path) path old.files.keys new.files.keys old.left.items new.left.items
      (λ x k. same-contains old.files.keys new.files.keys x files k) (λ l k. same-contains old.left.items new.left.items l left k) told))
  | inr rest ↦ elim rest [
    | inl named ↦ inl (inr (inl (named.0, same-contains old.left.items new.left.items named.0 left named.1, named.2)))
    | inr waits ↦ elim (Contains-push_cases new.waiting.items from waits.0 (subst (λ (xs : List (List ℕ)). Contains xs waits.0) waiting waits.1)) [
      | inl other ↦ inl (inr (inr (waits.0, other, waits.2)))
      | inr this ↦ inr (subst (λ (f : List ℕ). Leads at f path) (sym this) waits.2)
    ]
  ]
]
