-- Labels as keys by which they are looked up: a digest of the text first, so that texts are
-- compared only where digests are equal. It says nothing of what is found. (This project's own.)
use Rattle.std.specs.Prelude.{◌≡◌, ◌+◌, ◌*◌, ◌%◌, ◌^◌, ℕ, List, fold}
use Rattle.std.specs.List.{list_any}
use Rattle.std.specs.Borrow.{Bor}
use Rattle.std.specs.BTreeSet.{BTreeSet, contains}
use Rattle.std.specs.Cmp.Lexicographic.{slice_cmp}
use Rattle.std.specs.Ordering.{nat_cmp, ordering_then}
use Rattle.std.specs.declared.cmp.Ordering.{Ordering}
use Rattle.workspace.specs.Labels.{LabelParts, label_text, same_label}

-- 31 times what stands before a byte, and the byte
abbrev pub digest_step : ℕ → ℕ → ℕ
digest_step d b = (d * 31 % 2 ^ 64 + b) % 2 ^ 64

-- the digest of a text
abbrev pub text_digest : List ℕ → ℕ
text_digest text = fold digest_step 0 text

-- a digest, a name and a package, where they lie
abbrev pub Key : Type 0
Key = ℕ × Bor (List ℕ) × Bor (List ℕ)

-- the label that a key is of
abbrev pub key_label : Key → LabelParts
key_label k = record { «package» = k.2.now; name = k.1.now }

-- the digest is that of the label
abbrev pub IsKey : Key → Type 0
IsKey k = k.0 ≡ text_digest (label_text (key_label k))

-- this key is that of this label
abbrev pub IsKeyOf : Key → LabelParts → Type 0
IsKeyOf k l = (key_label k ≡ l) × IsKey k

-- by digest, then by name, and then by package
abbrev pub key_cmp : Key → Key → Ordering
key_cmp p q = ordering_then (ordering_then (nat_cmp p.0 q.0) (slice_cmp nat_cmp p.1.now q.1.now))
    (slice_cmp nat_cmp p.2.now q.2.now)

-- the set has just these labels
abbrev pub IsNoted : List LabelParts → BTreeSet Key → Type 0
IsNoted ls seen =
    (q : Key) → IsKey q → contains key_cmp seen q ≡ list_any (same_label (key_label q)) ls
