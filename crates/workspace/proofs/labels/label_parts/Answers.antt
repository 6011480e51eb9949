use Rattle.std.proofs.Common.{◌∙◌, ◌++◌, List, ℕ, ap, sym, codes, Option, Some, None, false}
use Rattle.std.proofs.lemmas.Str.Pattern.{starts_text}
use Rattle.std.specs.Borrow.{Bor}
use Rattle.workspace.specs.Labels.{LabelParts, given_package, label_parts}
use Rattle.workspace.proofs.LabelLemmas.{label_parts-relative, label_parts-whole}
use Rattle.workspace.proofs.labels.label_parts.Goals as goal

pub returns-in-Some : goal.returns-in-Some
returns-in-Some c =
    let cut = c.in-Some.ensures.cases in
    ap (λ (l : LabelParts). Some l) (sym c.whole_parts.ensures)
    ∙ label_parts-whole c.args.text.now c.in-Some.rest.now (given_package c.args.«package»)
    (cut.1.1 ∙ ap (λ (t : List ℕ). codes "//" ++ t) (sym cut.2))

pub returns-in-Some-package : goal.returns-in-Some-package
returns-in-Some-package c =
    let other = starts_text false (codes "//") c.args.text.now c.in-None.ensures.cases in
    let folder = c.in-Some-package.«package».now in
    ap (λ (n : List ℕ). Some (record { «package» = folder; name = n })) c.relative_name.ensures
    ∙ label_parts-relative c.args.text.now (Some folder) (sym other)
    ∙ ap (λ (p : Option (Bor (List ℕ))). label_parts c.args.text.now (given_package p)) (sym c.in-Some-package.is)

pub returns-in-None-package : goal.returns-in-None-package
returns-in-None-package c =
    let other = starts_text false (codes "//") c.args.text.now c.in-None.ensures.cases in
    label_parts-relative c.args.text.now None (sym other)
    ∙ ap (λ (p : Option (Bor (List ℕ))). label_parts c.args.text.now (given_package p)) (sym c.in-None-package.is)
