-- By what a listing looks up what it has seen: a number that is worked out once, when the depset is
-- made. It says nothing of what a listing is. (This project's own.)
use Rattle.std.specs.Prelude.{ℕ, ◌++◌, fold}
use Rattle.std.specs.Hash as fed
use Rattle.std.specs.Hash.FoldHasher as folding
use Rattle.depsets.specs.declared.depset.Id.{Id}
use Rattle.depsets.specs.declared.element.Element.{Element}
use Rattle.depsets.specs.declared.element.FileRef.{FileRef}
use Rattle.depsets.specs.declared.element.Element.TheVariants.{Text, Number, Truth, Label, File}

-- the number that std's hasher gives for these writes
abbrev pub digest : fed.HashWrites → ℕ
digest writes = folding.finish (fold folding.write folding.initial writes)

-- what is fed to the hasher for an id: its owner and its serial
abbrev pub id_writes : Id → fed.HashWrites
id_writes i = fed.str i.owner ++ fed.u64 i.serial

-- what is fed for a File: 4, which is the number of its type, and then its path and its owner
abbrev pub file_writes : FileRef → fed.HashWrites
file_writes f = fed.u8 4 ++ (fed.str f.path ++ fed.str f.owner)

-- what is fed for an element: the number of its type, and then what is compared
abbrev pub element_writes : Element → fed.HashWrites
element_writes (Text s) = fed.u8 0 ++ fed.str s
element_writes (Number n) = fed.u8 1 ++ fed.i64 n
element_writes (Truth b) = fed.u8 2 ++ fed.bool b
element_writes (Label s) = fed.u8 3 ++ fed.str s
element_writes (File f) = file_writes f

-- the number by which a listing looks up an id
abbrev pub id_digest : Id → ℕ
id_digest i = digest (id_writes i)

-- the number by which a listing looks up an element
abbrev pub element_digest : Element → ℕ
element_digest e = digest (element_writes e)
