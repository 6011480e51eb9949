-- Where a token that begins a logical line stands at a wrong column: the definition by steps and the relation say the same.
use Rattle.std.proofs.Common.{ℕ, ◌≡◌, ◌⊎◌, inl, inr, Bool, true, false, List, ◌∷◌, length, refl, sym, ap, subst, ◌∙◌, nat_le, Option, Some, None, Result, Ok, Err, arith, if◌then◌else◌}
use Rattle.std.specs.Prelude.{ok_or}
use Rattle.std.proofs.lemmas.Bool.Decides.{nat_tests}
use Rattle.lexer.specs.Tokens.{Placed}
use Rattle.lexer.specs.Layout.{back_to, innermost, block_opened, columns_at}
use Rattle.lexer.specs.LaidOut.{BlocksBehind, first_line, ends_with_colon}
use Rattle.lexer.proofs.BlockLaws.{blocks_are, blocks_as}
use Rattle.file_syntax.specs.IndentFault.{IsColumnFault, not_deeper, too_deep, at_no_block}
use Rattle.file_syntax.proofs.Steps.{Layout}

-- which of two tests a block fails
either_opened : (low full : Bool) (first line n : ℕ) (x : List ℕ)
    → (if low then Err first else if full then Err line else Ok x) ≡ Err n
    → ((low ≡ true) × (n ≡ first)) ⊎ ((low ≡ false) × (full ≡ true) × (n ≡ line))
either_opened true full first line n x e = inl (refl, let same : first ≡ n = cc in sym same)
either_opened false true first line n x e = inr (refl, refl, let same : line ≡ n = cc in sym same)
either_opened false false first line n x e = absurd cc

-- a value that isn't there
not_there : (o : Option (List ℕ)) (line n : ℕ) → ok_or o line ≡ Err n → n ≡ line
not_there None line n e = let same : line ≡ n = cc in sym same
not_there (Some x) line n e = absurd cc

-- the columns behind a line that ends with `:`
columns_head : (s : Layout) (line column : ℕ) → s.head ≡ true → columns_at s line column ≡ block_opened s line column
columns_head s line column h = rw h refl

-- the columns behind another line
columns_other : (s : Layout) (line column : ℕ) → s.head ≡ false → columns_at s line column ≡ ok_or (back_to column s.columns) line
columns_other s line column h = rw h refl

-- where a line is refused its column is wrong
pub column_fault_is : (s : Layout) (before : List Placed) (t : Placed) (n : ℕ)
    → s.head ≡ ends_with_colon false before → s.first ≡ first_line before
    → columns_at s t.line t.column ≡ Err n → IsColumnFault before s.columns t n
column_fault_is s before t n h f e = by_head s.head refl
  where
    by_head : (b : Bool) → s.head ≡ b → IsColumnFault before s.columns t n
    by_head true k = elim (either_opened (nat_le t.column (innermost s.columns)) (nat_le 32 (length s.columns)) s.first t.line n (t.column ∷ s.columns) (sym (columns_head s t.line t.column k) ∙ e)) [
      | inl g ↦
          let test : nat_le t.column (innermost s.columns) ≡ true = g.0 in
          not_deeper (sym h ∙ k) (grind (arith, nat_tests)) (g.1 ∙ f)
      | inr g ↦
          let test : nat_le t.column (innermost s.columns) ≡ false = g.0 in
          let full : nat_le 32 (length s.columns) ≡ true = g.1 in
          too_deep (sym h ∙ k) (grind (arith, nat_tests)) (grind (arith, nat_tests)) g.2
    ]
    by_head false k = at_no_block (sym h ∙ k)
        (λ after b. let found = blocks_as false s t.line t.column after k b in absurd cc)
        (not_there (back_to t.column s.columns) t.line n (sym (columns_other s t.line t.column k) ∙ e))

-- a line at a wrong column is refused
pub column_fault_as : (s : Layout) (before : List Placed) (t : Placed) (n : ℕ)
    → s.head ≡ ends_with_colon false before → s.first ≡ first_line before
    → IsColumnFault before s.columns t n → columns_at s t.line t.column ≡ Err n
column_fault_as s before t n h f (not_deeper c d e) =
    let test : nat_le t.column (innermost s.columns) ≡ true = grind (arith, nat_tests) in
    columns_head s t.line t.column (h ∙ c) ∙ rw test (ap Err (f ∙ sym e))
column_fault_as s before t n h f (too_deep c d m e) =
    let test : nat_le t.column (innermost s.columns) ≡ false = grind (arith, nat_tests) in
    let full : nat_le 32 (length s.columns) ≡ true = grind (arith, nat_tests) in
    columns_head s t.line t.column (h ∙ c) ∙ rw (test, full) (ap Err (sym e))
column_fault_as s before t n h f (at_no_block c d e) = by_result (columns_at s t.line t.column) refl
  where
    by_result : (r : Result (List ℕ) ℕ) → columns_at s t.line t.column ≡ r → columns_at s t.line t.column ≡ Err n
    by_result (Ok after) g =
        absurd (d after (subst (λ (b : Bool). BlocksBehind b t.column s.columns after) (h ∙ c) (blocks_are s t.line t.column after g)))
    by_result (Err m) g =
        g ∙ ap Err (not_there (back_to t.column s.columns) t.line m (sym (columns_other s t.line t.column (h ∙ c)) ∙ g) ∙ sym e)
