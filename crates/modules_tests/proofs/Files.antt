-- Files that are found by path.
use Rattle.std.proofs.Common.{◌≡◌, ◌∙◌, ℕ, false, List, length, get_or, Err, sym, ap, arith}
use Rattle.std.proofs.lemmas.List.{get_or_default}
use Rattle.loading.specs.Loads.{Path}
use Rattle.load_graph.specs.Paths.{ArePaths, IsAt, listed}
use Rattle.load_graph.proofs.Finding.{entry_at, no_entry}
use Rattle.modules_tests.specs.Fakes.{File, or_none, file_in}

pub found : (ps : List Path) (fs : List File) (q : Path) (n k : ℕ) (d : File) → ArePaths ps → length fs ≡ length ps → IsAt ps q n → k ≡ n → d ≡ get_or fs k d → d ≡ file_in ps fs q
found ps fs q n k d are size at same read =
    let a = at.0 in
    read ∙ get_or_default fs k d (Err (0, 0)) (omega (arith, a, size, same)) ∙ ap (λ x. get_or fs x (Err (0, 0))) same
    ∙ sym (ap (file_in ps fs) (sym at.1) ∙ ap or_none (entry_at ps fs n (Err (0, 0)) are.distinct a (omega (arith, a, size))))

pub nowhere : (ps : List Path) (fs : List File) (q : Path) → listed ps q ≡ false → ◌≡◌ {A = File} (Err (0, 0)) (file_in ps fs q)
nowhere ps fs q none = sym (ap or_none (no_entry ps fs q none))
