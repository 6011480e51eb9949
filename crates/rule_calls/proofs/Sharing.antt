-- Labels of targets that the package has declared.
use Rattle.std.proofs.Common.{◌≡◌, ◌∙◌, ℕ, true, List, Some, None, if◌then◌else◌, ap, sym, refl}
use Rattle.std.specs.Prelude.{map, option_and_then}
use Rattle.std.specs.Map.{lookup}
use Rattle.std.specs.Str.{bytes_eq}
use Rattle.std.proofs.lemmas.Slice.Eq.{bytes_eq-Decides}
use Rattle.workspace.specs.Labels.{LabelParts, is_label, label_of, label_parts, legal_label}
use Rattle.targets.proofs.NamedTargets.{found}
use Rattle.targets.specs.declared.target.Target.{Target}
use Rattle.rule_calls.specs.Packages.{are_named}
use Rattle.rule_calls.proofs.Named.{found_here}

-- what a text that writes no package names
pub label_is : (t p n : List ℕ) (l : LabelParts) → label_parts t (Some p) ≡ Some (record { «package» = p; name = n }) → l ≡ record { «package» = p; name = n } → is_label l ≡ true
    → label_of t (Some p) ≡ Some l
label_is t p n l parts is legal =
    ap (option_and_then legal_label) parts ∙ ap legal_label (sym is) ∙ ap (λ b. if b then Some l else None) legal

-- the label of the target of a name
pub named_label : (p n : List ℕ) (es : List (List ℕ × Target)) (t : Target) → are_named p es ≡ true → Some t ≡ lookup (bytes_eq n) es → t.label ≡ record { «package» = p; name = n }
named_label p n es t named h =
    let l : LabelParts = record { «package» = p; name = n } in
    (found l (map (λ e. e.1) es) t (sym (h ∙ found_here p l es named ((bytes_eq-Decides p p).1 refl)))).0
