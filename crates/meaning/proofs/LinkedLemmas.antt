-- Linked codes, each of which was compiled: each run of them ends.
use Rattle.std.proofs.Common.{◌≡◌, [], ◌∷◌, refl, sym, ap, ◌∙◌, subst}
use Rattle.std.proofs.Math.Logic.{∥∥₁_map₂, ∥∥₁_elim}
use Rattle.meaning.specs.Operations.{Operations}
use Rattle.meaning.specs.Functions.{Files}
use Rattle.meaning.specs.Instructions.{Codes}
use Rattle.meaning.specs.Machine.{Next}
use Rattle.meaning.specs.StatementCode.{file_code, code_of}
use Rattle.meaning.specs.Correct.{call_start, function_start, top_start}
use Rattle.meaning.specs.EndsIn.{Counted, Counted-prop, Terminates}
use Rattle.meaning.specs.Linked.{AreFileCodes}
use Rattle.meaning.proofs.Terminates.{terminates}

all_files : (codes : Codes) → AreFileCodes codes → ∥ ((files : Files) × (codes ≡ code_of files)) ∥₁
all_files [] h = ∣ ([], refl) ∣₁
all_files (fs ∷ codes) h =
    ∥∥₁_map₂ h.0 (all_files codes h.1) (λ a b. (a.0 ∷ b.0, ap (λ x. x ∷ codes) a.1 ∙ ap (λ cs. file_code a.0 ∷ cs) b.1))

module _ {S V K : Type 0} (ops : Operations S V K) where
  -- what is so of the code of files is so of linked codes
  by_files : (codes : Codes) (x : Codes → Next S V K) → AreFileCodes codes →
      ((files : Files) → Counted ops (code_of files) (x (code_of files))) → Counted ops codes (x codes)
  by_files codes x h is =
      ∥∥₁_elim (all_files codes h) (Counted-prop ops codes (x codes)) (λ f. subst (λ cs. Counted ops cs (x cs)) (sym f.1) (is f.0))

  pub linked_terminates : (codes : Codes) → AreFileCodes codes → Terminates ops codes
  linked_terminates codes h = record {
    calls = λ file at g given s.
        by_files codes (λ cs. call_start ops cs file at g given s) h (λ files. (terminates ops files).calls file at g given s);
    functions = λ f given s.
        by_files codes (λ cs. function_start ops cs f given s) h (λ files. (terminates ops files).functions f given s);
    tops = λ file s. by_files codes (λ cs. top_start ops cs file s) h (λ files. (terminates ops files).tops file s);
  }
