-- What is kept of files, by number and by path.
use Rattle.std.proofs.Common.{◌≡◌, ℕ, zero, suc, ◌<◌, true, false, List, [], ◌∷◌, length, map, get_or, Some, None, sym, ap, ◌∙◌, arith, refl}
use Rattle.std.specs.Prelude.{position, bytes_eq, unwrap_or, Result, Ok, Err, if◌then◌else◌}
use Rattle.std.specs.Map.{lookup}
use Rattle.std.proofs.lemmas.List.{get_or-map, length-map}
use Rattle.std.proofs.lemmas.List.Quantifiers.{position-Some}
use Rattle.std.proofs.lemmas.Option.{slice_get-get_or}
use Rattle.std.proofs.lemmas.Slice.Eq.{bytes_eq-Decides}
use Rattle.edges.proofs.Tests.{neither}
use Rattle.lexer.specs.declared.fault.FaultKind.{FaultKind}
use Rattle.lexer.specs.declared.fault.SyntaxFault.{SyntaxFault}
use Rattle.program_tree.specs.Resolved.{Program}
use Rattle.meaning.specs.Functions.{functions}
use Rattle.loading.specs.Loads.{Path, Load}
use Rattle.workspace.specs.Workspaces.{Pair, paths_of}
use Rattle.load_graph.specs.Paths.{listed}
use Rattle.evaluation.specs.Runs.{no_program, program_at}
use Rattle.evaluation.specs.Workspaces.{parsed, linked_file, linked_files, read_as, read_file, number_of, text_at}
use Rattle.sources.specs.Kept.{KeptView, loads_of, kept_of, as_read}

-- ---- by number

kept_at : (files : List Pair) (kept : List KeptView) (n : ℕ) (d : KeptView) → kept ≡ map kept_of files → n < length files → get_or kept n d ≡ kept_of (get_or files n ([], []))
kept_at files kept n d are low = ap (λ ks. get_or ks n d) are ∙ get_or-map kept_of files n ([], []) d low

program_is : (files : List Pair) (n : ℕ) → n < length files → program_at (linked_files files) n ≡ linked_file (get_or files n ([], []))
program_is files n low =
    let size = length-map files linked_file in
    ap (λ o. unwrap_or o no_program) (slice_get-get_or (linked_files files) n no_program (omega (arith, low, size)))
    ∙ get_or-map linked_file files n ([], []) no_program low

-- what is kept of the file of a number, as it is read
module _ (files self : List Pair) (kept : List KeptView) (n : ℕ) (is : files ≡ self) (are : kept ≡ map kept_of files) where
  pub kept_bound : n < length self → n < length kept
  kept_bound low = let e = ap length are ∙ length-map files kept_of ∙ ap length is in omega (arith, low, e)

  module _ (low : n < length self) (k : KeptView) (read : k ≡ get_or kept n k) where
    kept_is : k ≡ kept_of (get_or self n ([], []))
    kept_is = read ∙ kept_at self kept n k (are ∙ ap (map kept_of) is) low

    pub names_are : k.names ≡ (program_at (linked_files self) n).globals
    names_are = ap (λ (x : KeptView). x.names) kept_is ∙ ap (λ (p : Program). p.globals) (sym (program_is self n low))

    pub functions_are : k.functions ≡ length (functions (program_at (linked_files self) n))
    functions_are = ap (λ (x : KeptView). x.functions) kept_is ∙ ap (λ (p : Program). length (functions p)) (sym (program_is self n low))

    pub loads_are : k.loads ≡ (kept_of (get_or self n ([], []))).loads
    loads_are = ap (λ (x : KeptView). x.loads) kept_is

-- ---- by path

lookup_at : (files : List Pair) (q : Path) (n : ℕ) → n < length files → bytes_eq q (get_or files n ([], [])).0 ≡ true → ((k : ℕ) → k < n → bytes_eq q (get_or files k ([], [])).0 ≡ false) → lookup (bytes_eq q) files ≡ Some (get_or files n ([], [])).1
lookup_at [] q n low here before = absurd (omega (arith, low))
lookup_at (f ∷ fs) q zero low here before = ap (λ b. if b then Some f.1 else lookup (bytes_eq q) fs) here
lookup_at (f ∷ fs) q (suc n) low here before =
    ap (λ b. if b then Some f.1 else lookup (bytes_eq q) fs) (before 0 (omega arith))
    ∙ lookup_at fs q n (omega (arith, low)) here (λ k less. before (suc k) (omega (arith, less)))

no_lookup : (files : List Pair) (q : Path) → listed (paths_of files) q ≡ false → lookup (bytes_eq q) files ≡ None
no_lookup [] q none = refl
no_lookup (f ∷ fs) q none =
    let apart = neither (bytes_eq q f.0) (listed (paths_of fs) q) none in
    ap (λ b. if b then Some f.1 else lookup (bytes_eq q) fs) apart.0 ∙ no_lookup fs q apart.1

as_read_is : (path : Path) (n : ℕ) (r : Result Program SyntaxFault) → as_read n (loads_of path r) ≡ read_as path n r
as_read_is path n (Ok p) = refl
as_read_is path n (Err f) = refl

path_at : (files : List Pair) (k : ℕ) → k < length files → get_or (paths_of files) k [] ≡ (get_or files k ([], [])).0
path_at files k low = get_or-map (λ (p : Pair). p.0) files k ([], []) [] low

pub number_low : (files : List Pair) (q : Path) (n : ℕ) → position (bytes_eq q) (paths_of files) ≡ Some n → n < length files
number_low files q n e =
    let low = (position-Some (bytes_eq q) (paths_of files) n [] e).0 in
    let size = length-map files (λ (p : Pair). p.0) in
    omega (arith, low, size)

pub read_present : (files : List Pair) (q : Path) (n : ℕ) (loads : Result (List Load) (FaultKind × ℕ)) → position (bytes_eq q) (paths_of files) ≡ Some n → loads ≡ (kept_of (get_or files n ([], []))).loads → as_read n loads ≡ read_file files q
read_present files q n loads e are =
    let at = position-Some (bytes_eq q) (paths_of files) n [] e in
    let low = number_low files q n e in
    let f = get_or files n ([], []) in
    let here : bytes_eq q f.0 ≡ true = ap (bytes_eq q) (sym (path_at files n low)) ∙ at.1 in
    let same : q ≡ f.0 = (bytes_eq-Decides q f.0).0 here in
    let number : number_of files q ≡ n = ap (λ o. unwrap_or o (length files)) e in
    let text : text_at files q ≡ f.1 = ap (λ o. unwrap_or o []) (lookup_at files q n low here (λ k less. ap (bytes_eq q) (sym (path_at files k (omega (arith, less, low)))) ∙ at.2 k less)) in
    ap (as_read n) are ∙ as_read_is f.0 n (parsed f.0 f.1)
    ∙ ap (λ p. read_as p n (parsed p f.1)) (sym same)
    ∙ ap (λ t. read_as q n (parsed q t)) (sym text)
    ∙ ap (λ m. read_as q m (parsed q (text_at files q))) (sym number)

pub read_absent : (files : List Pair) (q : Path) (n : ℕ) (loads : Result (List Load) (FaultKind × ℕ)) → n ≡ length files → position (bytes_eq q) (paths_of files) ≡ None → listed (paths_of files) q ≡ false → loads ≡ loads_of q (parsed q []) → as_read n loads ≡ read_file files q
read_absent files q n loads size e none are =
    let number : number_of files q ≡ n = ap (λ o. unwrap_or o (length files)) e ∙ sym size in
    let text : text_at files q ≡ [] = ap (λ o. unwrap_or o []) (no_lookup files q none) in
    ap (as_read n) are ∙ as_read_is q n (parsed q [])
    ∙ ap (λ t. read_as q n (parsed q t)) (sym text)
    ∙ ap (λ m. read_as q m (parsed q (text_at files q))) (sym number)
