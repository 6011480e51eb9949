-- The logical lines of a file have at most one tree.
use Rattle.std.proofs.Common.{◌≡◌, ℕ, suc, ◌≤◌, Bool, true, false, List, [], ◌∷◌, refl, sym, ap, ◌∙◌, subst, arith}
use Rattle.grammar.specs.Statements.{Form, form_spelled}
use Rattle.grammar.specs.Places.{Place, inside_of, takes_else, still_early, opens}
use Rattle.grammar.specs.Blocks.{Block, no_lines, plain_line, head_line, Laid, some_lines, block_laid, Fits, IsBlock}
use Rattle.grammar.proofs.LinesRead.{one_form}

-- lines that stand outside of a block: the first is less deep
abbrev Outside : ℕ → List Laid → Type 0
Outside c [] = Unit {0}
Outside c (l ∷ ls) = suc l.column ≤ c

head_of : Laid → List Laid → Laid
head_of d [] = d
head_of d (l ∷ ls) = l

tail_of : List Laid → List Laid
tail_of [] = []
tail_of (l ∷ ls) = ls

same_head : (l m : Laid) (ls ms : List Laid) → Path (List Laid) (l ∷ ls) (m ∷ ms) → l ≡ m
unfolding head_of
same_head l m ls ms e = ap (head_of l) e

same_tail : (l m : Laid) (ls ms : List Laid) → Path (List Laid) (l ∷ ls) (m ∷ ms) → ls ≡ ms
unfolding tail_of
same_tail l m ls ms e = ap tail_of e

true_false : {P : Type 0} (a b : Bool) → a ≡ b → a ≡ true → b ≡ false → P
true_false a b e h k = absurd (go (sym h ∙ e ∙ k))
  where
    go : Path Bool true false → ⊥
    go e = Prim.cc

-- what is behind a block stands outside of the one that its head opened
behind_outside : (c d : ℕ) (b : Block) (ls : List Laid) → suc c ≤ d → Outside c ls → Outside d (block_laid c b ls)
behind_outside c d no_lines [] le h = tt
behind_outside c d no_lines (l ∷ ls) le h = Prim.omega (arith, le, h)
behind_outside c d (plain_line n f b) ls le h = Prim.omega (arith, le)
behind_outside c d (head_line n f e inner b) ls le h = Prim.omega (arith, le)

-- a block with a line begins at its column
begins_at : (d e : ℕ) (b k : Block) (ls ms : List Laid) → some_lines b ≡ true → some_lines k ≡ true → block_laid d b ls ≡ block_laid e k ms → d ≡ e
begins_at d e no_lines k ls ms h g p = Prim.cc
begins_at d e (plain_line n f b) no_lines ls ms h g p = Prim.cc
begins_at d e (head_line n f i a b) no_lines ls ms h g p = Prim.cc
begins_at d e (plain_line n f b) (plain_line m j k) ls ms h g p = ap (λ l. l.column) (same_head _ _ _ _ p)
begins_at d e (plain_line n f b) (head_line m j i a k) ls ms h g p = ap (λ l. l.column) (same_head _ _ _ _ p)
begins_at d e (head_line n f i a b) (plain_line m j k) ls ms h g p = ap (λ l. l.column) (same_head _ _ _ _ p)
begins_at d e (head_line n f i a b) (head_line m j o q k) ls ms h g p = ap (λ l. l.column) (same_head _ _ _ _ p)

-- lines with the same tokens have the same form
same_form : (p q : Place) (after later early sooner : Bool) (f g : Form) (l m : Laid) → Fits p after early f → Fits q later sooner g → l ≡ m → l.tokens ≡ form_spelled f → m.tokens ≡ form_spelled g → f ≡ g
same_form p q after later early sooner f g l m h k e i j = one_form f g h.is_form k.is_form (sym i ∙ ap (λ l. l.tokens) e ∙ j)

pub one_block : (p q : Place) (after later early sooner : Bool) (c : ℕ) (t u : Block) (ls ms : List Laid) → IsBlock p after early c t → IsBlock q later sooner c u → Outside c ls → Outside c ms → block_laid c t ls ≡ block_laid c u ms → (t ≡ u) × (ls ≡ ms)
one_block p q after later early sooner c no_lines no_lines ls ms ht hu ol om e = (refl, e)
one_block p q after later early sooner c no_lines (plain_line n f b) ls ms ht hu ol om e = let h = subst (Outside c) e ol in absurd (Prim.omega (arith, h))
one_block p q after later early sooner c no_lines (head_line n f d a b) ls ms ht hu ol om e = let h = subst (Outside c) e ol in absurd (Prim.omega (arith, h))
one_block p q after later early sooner c (plain_line n f b) no_lines ls ms ht hu ol om e = let h = subst (Outside c) (sym e) om in absurd (Prim.omega (arith, h))
one_block p q after later early sooner c (head_line n f d a b) no_lines ls ms ht hu ol om e = let h = subst (Outside c) (sym e) om in absurd (Prim.omega (arith, h))
one_block p q after later early sooner c (plain_line n f b) (plain_line m g k) ls ms ht hu ol om e =
    let first = same_head _ _ _ _ e in
    let form = same_form p q after later early sooner f g _ _ ht.0 hu.0 first refl refl in
    let rest = one_block p q (takes_else f) (takes_else g) (still_early early f) (still_early sooner g) c b k ls ms ht.2 hu.2 ol om (same_tail _ _ _ _ e) in
    (ap (λ n. plain_line n f b) (ap (λ l. l.line) first) ∙ ap (λ f. plain_line m f b) form ∙ ap (plain_line m g) rest.0, rest.1)
one_block p q after later early sooner c (plain_line n f b) (head_line m g d a k) ls ms ht hu ol om e =
    true_false (opens g) (opens f) (ap opens (sym (same_form p q after later early sooner f g _ _ ht.0 hu.0 (same_head _ _ _ _ e) refl refl))) hu.1 ht.1
one_block p q after later early sooner c (head_line n f d a b) (plain_line m g k) ls ms ht hu ol om e =
    true_false (opens f) (opens g) (ap opens (same_form p q after later early sooner f g _ _ ht.0 hu.0 (same_head _ _ _ _ e) refl refl)) ht.1 hu.1
one_block p q after later early sooner c (head_line n f d a b) (head_line m g i o k) ls ms ht hu ol om e =
    let first = same_head _ _ _ _ e in
    let form = same_form p q after later early sooner f g _ _ ht.0 hu.0 first refl refl in
    let behind = same_tail _ _ _ _ e in
    let column = begins_at d i a o (block_laid c b ls) (block_laid c k ms) ht.3 hu.3 behind in
    let moved : IsBlock (inside_of q g) false false d o = subst (λ i. IsBlock (inside_of q g) false false i o) (sym column) hu.4 in
    let inner = one_block (inside_of p f) (inside_of q g) false false false false d a o (block_laid c b ls) (block_laid c k ms) ht.4 moved
    (behind_outside c d b ls ht.2 ol) (behind_outside c d k ms ht.2 om) (behind ∙ ap (λ i. block_laid i o (block_laid c k ms)) (sym column)) in
    let rest = one_block p q (takes_else f) (takes_else g) (still_early early f) (still_early sooner g) c b k ls ms ht.5 hu.5 ol om inner.1 in
    (ap (λ n. head_line n f d a b) (ap (λ l. l.line) first) ∙ ap (λ f. head_line m f d a b) form ∙ ap (λ d. head_line m g d a b) column ∙ ap (λ a. head_line m g i a b) inner.0 ∙ ap (head_line m g i o) rest.0, rest.1)
