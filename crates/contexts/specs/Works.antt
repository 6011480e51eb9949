-- When a File is among those that are declared: two Files are the same where path and owner are.
-- (docs/PROFILE.md, "Equality" and "Calls for files and actions".)
use Rattle.std.specs.Prelude.{Bool, false, ◌&&◌, ◌||◌, List, [], ◌∷◌, ◌++◌, bytes_eq}
use Rattle.std.specs.List.{list_any}
use Rattle.depsets.specs.declared.element.FileRef.{FileRef}

-- whether two Files are the same
abbrev pub same_file : FileRef → FileRef → Bool
same_file f g = bytes_eq f.path g.path && bytes_eq f.owner g.owner

-- whether a File is among these
abbrev pub is_among : FileRef → List FileRef → Bool
is_among f fs = list_any (same_file f) fs

-- the many, or, where there are none of them, the few
abbrev pub many_or_few : List FileRef → List FileRef → List FileRef
many_or_few [] few = few
many_or_few (f ∷ fs) few = f ∷ fs

-- whether a File of these stands there twice, or is among those that were seen before
abbrev pub repeats_after : List FileRef → List FileRef → Bool
repeats_after seen [] = false
repeats_after seen (f ∷ fs) = is_among f seen || repeats_after (seen ++ f ∷ []) fs

-- whether a File stands there twice
abbrev pub repeats : List FileRef → Bool
repeats fs = repeats_after [] fs
