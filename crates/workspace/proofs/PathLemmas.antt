-- A text that is one segment is cut at no slash.
use Rattle.std.proofs.Common.{◌≡◌, ◌∙◌, ℕ, true, false, List, [], ◌∷◌, ap, sym, refl}
use Rattle.std.proofs.lemmas.Bool.{and_from, and_parts, false≢true, ne_eqb}
use Rattle.std.proofs.lemmas.List.Splits.{slice_split-cons_no}
use Rattle.std.specs.List.{list_all, onto_first, slice_split}
use Rattle.workspace.specs.Paths.{are_segments, is_segment, is_segment_byte, is_slash}

byte-no_slash : (b : ℕ) → is_segment_byte b ≡ true → is_slash b ≡ false
byte-no_slash b legal = ne_eqb b 47 (λ e. false≢true (sym (ap is_segment_byte e) ∙ legal))

uncut : (bytes : List ℕ) → list_all is_segment_byte bytes ≡ true → slice_split is_slash bytes ≡ bytes ∷ []
uncut [] legal = refl
uncut (b ∷ bs) legal =
    let parts = and_parts (is_segment_byte b) (list_all is_segment_byte bs) legal in
    slice_split-cons_no is_slash b bs (byte-no_slash b parts.0) ∙ ap (onto_first b) (uncut bs parts.1)

pub one_segment : (text : List ℕ) → is_segment text ≡ true → are_segments text ≡ true
unfolding are_segments
one_segment text legal =
    let bytes = (and_parts _ (list_all is_segment_byte text) legal).1 in
    ap (list_all is_segment) (uncut text bytes) ∙ and_from (is_segment text) true legal refl
