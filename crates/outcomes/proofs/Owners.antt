-- Labels own by their texts.
use Rattle.std.proofs.Common.{◌≡◌, ◌∙◌, ℕ, true, List, Option, Some, None, sym, ap, subst}
use Rattle.workspace.specs.Labels.{LabelParts, is_label, label_text, label_of}
use Rattle.workspace.proofs.LabelLaws.{label_text-reads}

label_or : LabelParts → Option LabelParts → LabelParts
label_or l None = l
label_or l (Some m) = m

-- two labels that one text is read as are one
one_label : (t : List ℕ) (l m : LabelParts) → label_of t None ≡ Some l → label_of t None ≡ Some m → l ≡ m
unfolding label_or
one_label t l m p q = ap (label_or l) (sym p ∙ q)

-- legal labels with one text are one label
pub texts_apart : (l m : LabelParts) → is_label l ≡ true → is_label m ≡ true → label_text l ≡ label_text m → l ≡ m
texts_apart l m p q e =
    one_label (label_text l) l m (label_text-reads l None p) (subst (λ (t : List ℕ). label_of t None ≡ Some m) (sym e) (label_text-reads m None q))
