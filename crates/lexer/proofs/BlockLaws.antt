-- What the beginning of a logical line makes of the open blocks: the definition by steps and the relation say the same.
use Rattle.std.proofs.Common.{ℕ, ◌≡◌, ◌<◌, Bool, true, false, List, [], ◌∷◌, ◌++◌, length, refl, sym, ap, inl, inr, ◌⊎◌, nat_le, nat_lt, ◌==◌, Option, Some, None, Ok, Err, arith, if◌then◌else◌}
use Rattle.std.specs.List.{AllByRecursion}
use Rattle.std.specs.Prelude.{ok_or}
use Rattle.std.proofs.lemmas.Bool.Decides.{nat_tests}
use Rattle.lexer.specs.declared.layout.Layout.{Layout}
use Rattle.lexer.specs.Layout.{back_to, innermost, block_opened, columns_at}
use Rattle.lexer.specs.LaidOut.{BlocksBehind}

-- which way a choice went
pub chosen : {A : Type 0} (b : Bool) (x y z : A) → (if b then x else y) ≡ z
    → ((b ≡ true) × (x ≡ z)) ⊎ ((b ≡ false) × (y ≡ z))
chosen true x y z e = inl (refl, e)
chosen false x y z e = inr (refl, e)

-- two tests that a block is opened behind
opened_under : (low full : Bool) (first line : ℕ) (x y : List ℕ)
    → (if low then Err first else if full then Err line else Ok x) ≡ Ok y → (low ≡ false) × (full ≡ false) × (x ≡ y)
opened_under true full first line x y e = absurd cc
opened_under false true first line x y e = absurd cc
opened_under false false first line x y e = (refl, refl, cc)

-- a value that is there
there : {A : Type 0} (o : Option A) (line : ℕ) (x : A) → ok_or o line ≡ Ok x → o ≡ Some x
there None line x e = absurd cc
there (Some y) line x e = cc

-- a line that goes back stands at the column of a block, and closes the deeper ones
back_is : (column : ℕ) (columns after : List ℕ) → back_to column columns ≡ Some after
    → BlocksBehind false column columns after
back_is column [] after e = elim (chosen (column == 0) (Some []) None (Some after) e) [
  | inl h ↦
      let test : (column == 0) ≡ true = h.0 in
      let z : 0 ≡ column = grind (arith, nat_tests) in
      let r : [] ≡ after = cc in
      rw (← r) (z, ([], refl, tt))
  | inr h ↦ let c : None ≡ Some after = h.1 in absurd cc
]
back_is column (c ∷ columns) after e = elim (chosen (column == c) _ _ (Some after) e) [
  | inl h ↦
      let test : (column == c) ≡ true = h.0 in
      let z : c ≡ column = grind (arith, nat_tests) in
      let r : c ∷ columns ≡ after = cc in
      rw (← r) (z, ([], refl, tt))
  | inr h ↦ elim (chosen (nat_lt column c) _ _ (Some after) h.1) [
    | inl k ↦
        let test : nat_lt column c ≡ true = k.0 in
        let less : column < c = grind (arith, nat_tests) in
        let further = back_is column columns after k.1 in
        (further.0, (c ∷ further.1.0, ap (λ l. c ∷ l) further.1.1, (less, further.1.2)))
    | inr k ↦ let n : None ≡ Some after = k.1 in absurd cc
  ]
]

-- a line at the column of a block goes back to it
back_as : (column : ℕ) (deeper after : List ℕ) → AllByRecursion (λ c. column < c) deeper → innermost after ≡ column
    → back_to column (deeper ++ after) ≡ Some after
back_as column [] [] h e = let test : (column == 0) ≡ true = grind (arith, nat_tests) in rw test refl
back_as column [] (c ∷ after) h e = let test : (column == c) ≡ true = grind (arith, nat_tests) in rw test refl
back_as column (c ∷ deeper) after h e =
    let less : column < c = h.0 in
    let other : (column == c) ≡ false = grind (arith, nat_tests) in
    let below : nat_lt column c ≡ true = grind (arith, nat_tests) in
    rw (other, below) (back_as column deeper after h.1 e)

-- a block that is opened is deeper than the one around it, and at most 32 are open
opening_is : (s : Layout) (line column : ℕ) (after : List ℕ) → block_opened s line column ≡ Ok after
    → BlocksBehind true column s.columns after
opening_is s line column after e =
    let g = opened_under (nat_le column (innermost s.columns)) (nat_le 32 (length s.columns)) s.first line _ after e in
    let low : nat_le column (innermost s.columns) ≡ false = g.0 in
    let full : nat_le 32 (length s.columns) ≡ false = g.1 in
    let deeper : innermost s.columns < column = grind (arith, nat_tests) in
    let few : length s.columns < 32 = grind (arith, nat_tests) in
    (deeper, few, sym g.2)

-- where a block may be opened it is
opening_as : (s : Layout) (line column : ℕ) (after : List ℕ) → BlocksBehind true column s.columns after
    → block_opened s line column ≡ Ok after
opening_as s line column after h =
    let deeper : innermost s.columns < column = h.0 in
    let few : length s.columns < 32 = h.1 in
    let low : nat_le column (innermost s.columns) ≡ false = grind (arith, nat_tests) in
    let full : nat_le 32 (length s.columns) ≡ false = grind (arith, nat_tests) in
    rw (low, full) (ap Ok (sym h.2))

-- the columns that are open once a line has begun are those of the relation
pub blocks_are : (s : Layout) (line column : ℕ) (after : List ℕ) → columns_at s line column ≡ Ok after
    → BlocksBehind s.head column s.columns after
blocks_are s line column after e = elim (chosen s.head _ _ (Ok after) e) [
  | inl h ↦ rw h.0 (opening_is s line column after h.1)
  | inr h ↦ rw h.0 (back_is column s.columns after (there (back_to column s.columns) line after h.1))
]

-- where the relation has blocks the line begins without fault
pub blocks_as : (head : Bool) (s : Layout) (line column : ℕ) (after : List ℕ) → s.head ≡ head
    → BlocksBehind head column s.columns after
    → columns_at s line column ≡ Ok after
blocks_as true s line column after e h = rw e (opening_as s line column after h)
blocks_as false s line column after e h =
    let back : back_to column s.columns ≡ Some after = rw h.1.1 (back_as column h.1.0 after h.1.2 h.0) in
    rw (e, back) refl
