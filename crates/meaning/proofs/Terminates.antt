-- Each run of compiled code ends.
use Rattle.std.proofs.Common.{◌≡◌, ℕ, zero, suc, sym, subst}
use Rattle.meaning.specs.Operations.{Operations}
use Rattle.meaning.specs.Outcome.{Final}
use Rattle.meaning.specs.Functions.{Files}
use Rattle.meaning.specs.Instructions.{Codes}
use Rattle.meaning.specs.Machine.{Next, more, over, stuck}
use Rattle.meaning.specs.Performing.{step, ends, run_from}
use Rattle.meaning.specs.StatementCode.{code_of}
use Rattle.meaning.specs.EndsIn.{Counted, Terminates}
use Rattle.meaning.proofs.Ends.{AtEnd, call_ends, function_ends, top_ends}

module _ {S V K : Type 0} (ops : Operations S V K) where
  counted : (codes : Codes) (n : ℕ) (x : Next S V K) (o : Final S V K) → run_from ops codes n x ≡ ends o →
      Counted ops codes x
  counted codes n (over p) o e = (0, tt)
  counted codes n stuck o e = absurd (subst AtEnd (sym e) tt)
  counted codes zero (more c) o e = absurd (subst AtEnd (sym e) tt)
  counted codes (suc n) (more c) o e = let r = counted codes n (step ops codes c) o e in (suc r.0, r.1)

  pub terminates : (files : Files) → Terminates ops (code_of files)
  terminates files = record {
    calls = λ file at g given s. let c = (call_ends ops files file at g given s).comes in counted (code_of files) c.0 _ _ c.1;
    functions = λ f given s. let c = (function_ends ops files f given s).comes in counted (code_of files) c.0 _ _ c.1;
    tops = λ file s. let c = (top_ends ops files file s).comes in counted (code_of files) c.0 _ _ c.1;
  }
