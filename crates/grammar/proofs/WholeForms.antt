-- What is read of all tokens of a line, with a limit on the depth, is the form of the line.
use Rattle.std.proofs.Common.{◌≡◌, ◌<◌, ◌≤◌, List, Option, Some, None, refl, sym, ap, ◌∙◌, subst, arith, inl, inr, ◌⊎◌}
use Rattle.lexer.specs.Tokens.{Token}
use Rattle.grammar.specs.Depth.{form_depth}
use Rattle.grammar.specs.Statements as W
use Rattle.grammar.specs.FormReading.{form_reads}
use Rattle.grammar.specs.FormDescent.{Shaped, reads_form}
use Rattle.grammar.specs.LineForm.{shaped, IsLineForm}
use Rattle.grammar.proofs.Capped.{either_way}
use Rattle.grammar.proofs.CappedForms.{CappedO}
use Rattle.grammar.proofs.HeadForms.{form_reads_same}
use Rattle.grammar.proofs.LinesRead.{is_read_form}
use Rattle.grammar.proofs.LinesSound.{form_is}
use Rattle.grammar.proofs.WholeLines.{not_some, some_same}

none_form : (ts : List Token) → form_reads ts ≡ None → IsLineForm ts None
none_form ts e = λ f s le. not_some f (sym e ∙ is_read_form ts f s)

deep_form : (ts : List Token) (f : W.Form) → form_reads ts ≡ Some f → 200 < form_depth f → IsLineForm ts None
deep_form ts f e lt = λ g s le. let same = ap form_depth (some_same (sym e ∙ is_read_form ts g s)) in Prim.omega (arith, same, lt, le)

some_form : (ts : List Token) (f : W.Form) (o : Option Shaped) → form_reads ts ≡ Some f → CappedO form_depth shaped 200 (Some f) o → (form_depth f ≤ 200) ⊎ (200 < form_depth f) → IsLineForm ts o
some_form ts f o e c (inl le) = subst (IsLineForm ts) (sym (c.0 le)) (f, form_is ts f e, le, refl)
some_form ts f o e c (inr lt) = subst (IsLineForm ts) (sym (c.1 lt)) (deep_form ts f e lt)

by_form : (ts : List Token) (r : Option W.Form) (o : Option Shaped) → form_reads ts ≡ r → CappedO form_depth shaped 200 r o → IsLineForm ts o
by_form ts None o e c = subst (IsLineForm ts) (sym c) (none_form ts e)
by_form ts (Some f) o e c = some_form ts f o e c (either_way (form_depth f) 200)

pub is_line_form : (ts : List Token) → IsLineForm ts (reads_form ts)
is_line_form ts = by_form ts (form_reads ts) (reads_form ts) refl (form_reads_same ts)
