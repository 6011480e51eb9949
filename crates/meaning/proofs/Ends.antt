-- A run has one end, and it is the one that is meant.
use Rattle.std.proofs.Common.{◌≡◌, ℕ, zero, suc, ◌≤◌, [], ◌∷◌, Option, Some, None, refl, sym, ap, ◌∙◌, subst, ⊎_elim, arith}
use Rattle.std.specs.Prelude.{Ok, Err, option_map, replicate}
use Rattle.std.proofs.lemmas.Bool.{cases_lt}
use Rattle.meaning.specs.Correct as spec
use Rattle.meaning.specs.Operations.{FunctionId, Callee, Arguments, Operations}
use Rattle.meaning.specs.Outcome.{Outcome, done, fault, Final, final_of, ◌>>=◌, pure, Here}
use Rattle.meaning.specs.Functions.{Function, Files, function_at, def_line}
use Rattle.meaning.specs.Expressions.{Invoke}
use Rattle.meaning.specs.Statements.{block}
use Rattle.meaning.specs.Calls.{outside, call_meaning, function_meaning, defined_at, top_meaning, top, value_of, written, running, invoke}
use Rattle.meaning.specs.Instructions.{Codes}
use Rattle.meaning.specs.Machine.{Next, more, over, stuck, returning, finishing, starts}
use Rattle.meaning.specs.Performing.{step, Ending, ends, unfinished, gets_stuck, run_from}
use Rattle.meaning.specs.StatementCode.{code_of, function_code}
use Rattle.meaning.specs.Correct.{call_start, function_start, function_from, top_start, top_from}
use Rattle.meaning.proofs.Leads.{Leads, Gives, stays}
use Rattle.meaning.proofs.Calls.{code_found, line_found, body_runs, written_ends, begun_ends, calls_run}

abbrev IsOver : {S V K : Type 0} → Ending S V K → Type 0
IsOver (ends o) = Unit {0}
IsOver unfinished = ⊥
IsOver gets_stuck = Unit {0}

abbrev pub AtEnd : {S V K : Type 0} → Ending S V K → Type 0
AtEnd (ends o) = Unit {0}
AtEnd unfinished = ⊥
AtEnd gets_stuck = ⊥

abbrev final_in : {S V K : Type 0} → Final S V K → Ending S V K → Final S V K
final_in o (ends p) = p
final_in o unfinished = o
final_in o gets_stuck = o

module _ {S V K : Type 0} (ops : Operations S V K) (codes : Codes) where
  -- more instructions change nothing of a run that is over
  longer : (m n : ℕ) (x : Next S V K) (e : Ending S V K) → m ≤ n → IsOver e → run_from ops codes m x ≡ e →
      run_from ops codes n x ≡ e
  longer m n (over o) e le h r = r
  longer m n stuck e le h r = r
  longer zero n (more c) e le h r = absurd (subst IsOver (sym r) h)
  longer (suc m) zero (more c) e le h r = absurd (omega arith)
  longer (suc m) (suc n) (more c) e le h r = longer m n (step ops codes c) e (omega arith) h r

  one_end : (m n : ℕ) (x : Next S V K) (e f : Ending S V K) → IsOver e → IsOver f → run_from ops codes m x ≡ e →
      run_from ops codes n x ≡ f → e ≡ f
  one_end m n x e f he hf p q =
      ⊎_elim
      (λ lt. sym (longer m n x e (omega arith) he p) ∙ q)
      (λ le. sym p ∙ longer n m x f le hf q)
      (cases_lt m n)

  at_once : (o : Final S V K) → run_from ops codes 0 (finishing [] [] o) ≡ ends o
  at_once (Ok p) = refl
  at_once (Err e) = refl

  pub ended : (x : Next S V K) (o : Final S V K) → Leads ops codes x (finishing [] [] o) → spec.Ends ops codes x o
  ended x o h =
      let r = h.by 0 in
      let come : run_from ops codes r.0 x ≡ ends o = r.1 ∙ at_once o in
      record {
        comes = (r.0, come);
        only = λ n p e. ap (final_in p) (one_end n r.0 x (ends p) (ends o) tt tt e come);
        never_stuck = λ n e. subst AtEnd (sym (one_end n r.0 x gets_stuck (ends o) tt tt e come)) tt;
      }

module _ {S V K : Type 0} (ops : Operations S V K) (files : Files) where
  abbrev codes : Codes
  codes = code_of files

  -- leads to this end, with no frame below
  abbrev LeadsTo : Next S V K → Final S V K → Type 0
  LeadsTo x o = Leads ops codes x (finishing [] [] o)

  abbrev invoked : ℕ → Invoke S V K
  invoked = invoke ops files

  final_leads : (a : Next S V K) (o : Outcome S V K V) → Gives ops codes V a o (λ v l s. returning v [] [] s) →
      LeadsTo a (final_of o)
  final_leads a (done v l s) g = g.by
  final_leads a (fault e) g = g.by

  top_leads : (file : ℕ) (s : S) (o : Option Function) → function_at files (record { file = file; number = 0 }) ≡ o →
      LeadsTo (top_from ops codes file s (option_map function_code o)) (top ops files file o s)
  top_leads file s None h = stays
  top_leads file s (Some d) h =
      final_leads _ ((block ops (invoked 128) files d.body (outside file 0) >>= λ e. pure (value_of ops e)) (replicate d.slots None) s)
      (body_runs ops files (record { file = file; number = 0 }) d [] [] (invoked 128) 0 (replicate d.slots None) s h (calls_run ops files 128 [] refl))

  pub call_ends : (file at : ℕ) (g : Callee V) (args : Arguments V) (s : S) →
      spec.Ends ops codes (call_start ops codes file at g args s) (call_meaning ops files file at g args s)
  call_ends file at g args s = ended ops codes _ _ ((calls_run ops files 128 [] refl).by file at g args [] s)

  function_leads : (f : FunctionId) (args : Arguments V) (s : S) (o : Option ℕ) →
      LeadsTo (function_from ops codes f args s o) (defined_at ops files f args o s)
  function_leads f args s None = stays
  function_leads f args s (Some n) =
      let here : Here = outside f.file n in
      subst (λ o. LeadsTo (starts ops codes here f args [] s o) (written ops here f args (running ops files (invoked 127) here f) (function_at files f) s))
      (sym (code_found files f))
      (written_ends ops files here f args [] (running ops files (invoked 127) here f) (function_at files f) s (λ d h l.
      begun_ends ops files (invoked 127) here (omega arith) f (calls_run ops files 127 (f ∷ []) refl) [] d l s h))

  pub function_ends : (f : FunctionId) (args : Arguments V) (s : S) →
      spec.Ends ops codes (function_start ops codes f args s) (function_meaning ops files f args s)
  function_ends f args s = ended ops codes _ _ (
      subst (λ o. LeadsTo (function_from ops codes f args s o) (function_meaning ops files f args s)) (sym (line_found files f))
      (function_leads f args s (def_line files f)))

  pub top_ends : (file : ℕ) (s : S) → spec.Ends ops codes (top_start ops codes file s) (top_meaning ops files file s)
  top_ends file s = ended ops codes _ _ (
      subst (λ o. LeadsTo (top_from ops codes file s o) (top_meaning ops files file s)) (sym (code_found files (record { file = file; number = 0 })))
      (top_leads file s (function_at files (record { file = file; number = 0 })) refl))
