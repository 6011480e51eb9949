-- The lines of the parts of nodes, one after the other, are those of the whole.
use Rattle.std.proofs.Common.{arith, ◌≡◌, ℕ, suc, ◌+◌, ◌*◌, ◌/◌, ◌%◌, ◌<◌, ◌≤◌, min, List, [], ◌∷◌, ◌++◌, length, map, take, get_or, flat_map, ap, sym, subst, ◌∙◌, append_assoc, string_bytes, String}
use Rattle.std.proofs.lemmas.Grind.{flat_map-append, div_ceil_times}
use Rattle.std.proofs.lemmas.List.{map-append, append-nil, take_all}
use Rattle.std.proofs.Math.Seq.{take-add}
use Rattle.std.specs.Fork.{slice_chunk}
use Rattle.depsets.specs.Listed.{walked}
use Rattle.reporting.specs.Seen.{AreParts, block_seen, block_text, lines_of, text_of}
use Rattle.reporting.specs.declared.blocks.Block.{Block}

pub lines_of_both : (ns ms : List Block) → lines_of ns ++ lines_of ms ≡ lines_of (ns ++ ms)
lines_of_both ns ms =
    sym (ap (flat_map (block_text walked)) (map-append block_seen ns ms) ∙ flat_map-append (block_text walked) (map block_seen ns) (map block_seen ms))

-- one part more
part_next : (ns : List Block) (size i : ℕ)
    → lines_of (take (i * size) ns) ++ lines_of (slice_chunk ns size i) ≡ lines_of (take ((i + 1) * size) ns)
part_next ns size i =
    lines_of_both (take (i * size) ns) (slice_chunk ns size i)
    ∙ ap lines_of (sym (take-add (i * size) size ns) ∙ ap (λ n. take n ns) (grind arith))

-- the texts of the parts from one on, behind the lines of the nodes before them
parts_from : {A : Type 0} (ns : List Block) (size i : ℕ) (ts : List (String A))
    → ((j : ℕ) (d : String A) → j < length ts → string_bytes (get_or ts j d) ≡ lines_of (slice_chunk ns size (i + j)))
    → lines_of (take (i * size) ns) ++ text_of ts ≡ lines_of (take ((i + length ts) * size) ns)
parts_from ns size i [] each =
    let same : i ≡ i + 0 = omega arith in
    append-nil (lines_of (take (i * size) ns)) ∙ ap (λ n. lines_of (take (n * size) ns)) same
parts_from ns size i (t ∷ ts) each =
    let before = lines_of (take (i * size) ns) in
    let first : i + 0 ≡ i = omega arith in
    let here = each 0 t (omega arith) ∙ ap (λ n. lines_of (slice_chunk ns size n)) first in
    let last : i + 1 + length ts ≡ i + suc (length ts) = omega arith in
    sym (append_assoc before (string_bytes t) (text_of ts))
    ∙ ap (λ l. l ++ text_of ts) (ap (λ l. before ++ l) here ∙ part_next ns size i)
    ∙ parts_from ns size (i + 1) ts (λ j d low.
    let next : i + suc j ≡ i + 1 + j = omega arith in
    each (suc j) d (omega (arith, low)) ∙ ap (λ n. lines_of (slice_chunk ns size n)) next)
    ∙ ap (λ n. lines_of (take (n * size) ns)) last

-- the texts of all parts, one after the other, are the lines of the whole
pub parts_are_whole : {A : Type 0} (ns : List Block) (size : ℕ) (texts : List (String A)) → 0 < size → AreParts ns size texts
    → text_of texts ≡ lines_of ns
parts_are_whole ns size texts some parts =
    let none : 0 * size ≡ 0 = grind arith in
    let all : length ns ≤ (0 + length texts) * size =
    subst (λ n. length ns ≤ n * size) (let same : length ns / size + min 1 (length ns % size) ≡ 0 + length texts = omega (arith, parts.len) in same) (div_ceil_times (length ns) size some).0 in
    sym (ap (λ n. lines_of (take n ns) ++ text_of texts) none)
    ∙ parts_from ns size 0 texts (λ j d low.
    let same : j ≡ 0 + j = omega arith in
    parts.each j d low ∙ ap (λ n. lines_of (slice_chunk ns size n)) same)
    ∙ ap lines_of (take_all ((0 + length texts) * size) ns all)
