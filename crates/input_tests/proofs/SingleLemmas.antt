-- What `pack` says of a folder with one file comes to that file's pair.
use Rattle.std.proofs.Common.{◌≡◌, ◌≢◌, ◌∙◌, ℕ, Bool, true, false, List, [], ◌∷◌, refl, ap, ap₂, sym, subst, inl, inr, arith, true≢false}
use Rattle.std.specs.Prelude.{All, Contains, IfErr, IfOk, IsSome, Option, Some, None, Result, Ok, Err, if◌then◌else◌}
use Rattle.std.specs.List.{IsDistinct}
use Rattle.std.specs.Str.{bytes_eq}
use Rattle.std.proofs.lemmas.List.Elements.{All-head, All-tail, All-weaker, Contains-push, Contains-push_cases}
use Rattle.std.proofs.lemmas.Slice.Eq.{bytes_eq-Decides}
use Rattle.workspace.specs.Workspaces.{Pair, paths_of}
use Rattle.packing.specs.Folders.{IsHiddenFolder, IsKnown, IsKnownFile, Leads, Node, Reaches, below, file, folder, here, inside, onward, passes_over, start}
use Rattle.packing.specs.Inputs.{input_text}
use Rattle.packing.specs.Packs.{AreAscending, IsOf, IsTold, Packs, used_text}
use Rattle.packing.specs.Refusals.{Refuses}
use Rattle.packing.specs.declared.leaving.LeftOut.{LeftOut}
use Rattle.packing.specs.declared.folders.Unread.{Unread}
use Rattle.packing.specs.declared.whole.PackStop.{PackStop}
use Rattle.packing.specs.declared.whole.PackStop.TheVariants as stop
use Rattle.packing.specs.declared.whole.Packed.{Packed}
use Rattle.packing.proofs.WritingLemmas.{ascending-distinct}
use Rattle.request.specs.Input.{Spells}
use Rattle.input_tests.specs.Singles.{single, workspace_of}

same : (xs : List ℕ) → bytes_eq xs xs ≡ true
same xs = (bytes_eq-Decides xs xs).1 refl

none_in : {X : Type 0} (x : X) → Contains [] x → ⊥
none_in x h = omega (arith, h.1)

one_in : {X : Type 0} (x y : X) → Contains (x ∷ []) y → x ≡ y
one_in x y h = elim (Contains-push_cases [] x y h) [ inl none ↦ absurd (none_in y none) | inr is ↦ is ]

-- ---- what stands where

is_file : (name bytes : List ℕ) → name ≢ [] → single name bytes name ≡ Some (file bytes)
is_file [] bytes some = absurd (some refl)
is_file (c ∷ cs) bytes some = ap (λ b. if b then Some (file bytes) else None) (same (c ∷ cs))

choice : List ℕ → Bool → Option Node
choice bytes b = if b then Some (file bytes) else None

no_folder : (bytes : List ℕ) (names : List (List ℕ)) (others b : Bool) → choice bytes b ≡ Some (folder names others) → ⊥
unfolding choice
no_folder bytes names others true is = cc
no_folder bytes names others false is = cc

only_root : (name bytes from : List ℕ) (names : List (List ℕ)) (others : Bool) → single name bytes from ≡ Some (folder names others)
    → (from ≡ []) × (names ≡ name ∷ [])
unfolding choice
only_root name bytes [] names others is = (refl, cc)
only_root name bytes (c ∷ cs) names others is = absurd (no_folder bytes names others (bytes_eq (c ∷ cs) name) is)

chosen : (bytes : List ℕ) (b : Bool) → IsKnownFile (choice bytes b) → b ≡ true
unfolding choice
chosen bytes true is = refl
chosen bytes false is = absurd is

only_file : (name bytes path : List ℕ) → IsKnownFile (single name bytes path) → path ≡ name
unfolding choice
only_file name bytes [] is = absurd is
only_file name bytes (c ∷ cs) is = (bytes_eq-Decides (c ∷ cs) name).0 (chosen bytes (bytes_eq (c ∷ cs) name) is)

-- ---- what a walk reaches

known : (name bytes : List ℕ) → name ≢ [] → IsKnown (single name bytes)
known name bytes some path start = refl
known name bytes some path (onward from n names others c there listed kept seen) =
    let r = only_root name bytes from names others there in
    let is : name ≡ n = one_in name n (subst (λ (ns : List (List ℕ)). Contains ns n) r.1 listed) in
    let at_root : below from n ≡ name = ap (λ f. below f n) r.0 ∙ sym is in
    subst IsSome (sym (ap (single name bytes) at_root ∙ is_file name bytes some)) refl

reaches : (name bytes : List ℕ) → name ≢ [] → passes_over [] name ≡ false → Leads (single name bytes) [] name
reaches name bytes some kept =
    inside [] name name (name ∷ []) false refl (Contains-push [] name) kept
    (λ hidden. subst (λ (n : Option Node). IsHiddenFolder n name) (is_file name bytes some) hidden) (here name)

-- ---- one pair

one_distinct : (xs : List (List ℕ)) (x : List ℕ) → IsDistinct bytes_eq xs → All (λ y. y ≡ x) xs → Contains xs x → xs ≡ x ∷ []
unfolding IsDistinct
one_distinct [] x distinct all there = absurd (none_in x there)
one_distinct (y ∷ []) x distinct all there = ap (λ z. z ∷ []) (All-head (λ z. z ≡ x) y [] all)
one_distinct (y ∷ z ∷ zs) x distinct all there =
    let first : y ≡ x = All-head (λ w. w ≡ x) y (z ∷ zs) all in
    let second : z ≡ x = All-head (λ w. w ≡ x) z zs (All-tail (λ w. w ≡ x) y (z ∷ zs) all) in
    absurd (true≢false (sym (same x) ∙ sym (ap₂ bytes_eq first second) ∙ distinct.0.0))

one_path : (xs : List (List ℕ)) (x : List ℕ) → AreAscending xs → All (λ y. y ≡ x) xs → Contains xs x → xs ≡ x ∷ []
one_path xs x ascending all there = one_distinct xs x (ascending-distinct xs ascending) all there

one_pair : (name bytes : List ℕ) (ps : List Pair) → name ≢ [] → paths_of ps ≡ name ∷ [] → All (λ q. IsOf (single name bytes q.0) q) ps
    → ps ≡ (name, used_text name bytes) ∷ []
one_pair name bytes [] some is of = absurd (cc)
one_pair name bytes (p ∷ []) some is of =
    let path : p.0 ≡ name = cc in
    let at : single name bytes p.0 ≡ Some (file bytes) = ap (single name bytes) path ∙ is_file name bytes some in
    let text : p.1 ≡ used_text p.0 bytes = subst (λ (n : Option Node). IsOf n p) at (All-head (λ (q : Pair). IsOf (single name bytes q.0) q) p [] of) in
    ap (λ q. q ∷ []) (ap₂ (λ (a b : List ℕ). (a, b)) path (text ∙ ap (λ a. used_text a bytes) path))
one_pair name bytes (p ∷ q ∷ ps) some is of = absurd (cc)

-- ---- the input

some_name : (name : List ℕ) → passes_over [] name ≡ false → name ≢ []
some_name name kept is = true≢false (subst (λ (n : List ℕ). passes_over [] n ≡ false) is kept)

its_workspace : (name bytes : List ℕ) (p : Packed) (h : Packs (single name bytes) p) → p.left.items ≡ [] → passes_over [] name ≡ false
    → h.workspace ≡ workspace_of name bytes
its_workspace name bytes p h left kept =
    let some : name ≢ [] = some_name name kept in
    let all : All (λ y. y ≡ name) (paths_of h.workspace) =
    All-weaker (Reaches (single name bytes) []) (λ y. y ≡ name) (λ y r. only_file name bytes y r.1) (paths_of h.workspace) (h.only (known name bytes some)) in
    let there : Contains (paths_of h.workspace) name = elim (h.whole name (reaches name bytes some kept)) [
      | inl told ↦ subst (λ (n : Option Node). IsTold n name (paths_of h.workspace) p.left.items) (is_file name bytes some) told
      | inr out ↦ absurd (none_in out.0 (subst (λ (ls : List LeftOut). Contains ls out.0) left out.1))
    ] in
    one_pair name bytes h.workspace some (one_path (paths_of h.workspace) name h.ascending all there) h.of

pub packs-single : (name bytes : List ℕ) (r : Result Packed PackStop) → IfOk r (Packs (single name bytes)) → IfOk r (λ p. true ≡ true → p.left.items ≡ [])
    → IfOk r (λ p. passes_over [] name ≡ false → p.input.items ≡ input_text (workspace_of name bytes))
packs-single name bytes (Ok p) packs strict = λ kept. packs.told ∙ ap input_text (its_workspace name bytes p packs (strict refl) kept)
packs-single name bytes (Err e) packs strict = tt

pub spells-single : (name bytes : List ℕ) (r : Result Packed PackStop) → IfOk r (Packs (single name bytes)) → IfOk r (λ p. true ≡ true → p.left.items ≡ [])
    → IfOk r (λ p. passes_over [] name ≡ false → Spells p.input.items (workspace_of name bytes))
spells-single name bytes (Ok p) packs strict = λ kept. subst (Spells p.input.items) (its_workspace name bytes p packs (strict refl) kept) packs.spelt
spells-single name bytes (Err e) packs strict = tt

-- its root is read
pub root-read : (name bytes : List ℕ) (r : Result Packed PackStop) (u : Unread) → IfErr r (Refuses (single name bytes) true) → r ≡ Err (stop.Root u) → ⊥
root-read name bytes r u refuses is = (subst (λ (x : Result Packed PackStop). IfErr x (Refuses (single name bytes) true)) is refuses).1
