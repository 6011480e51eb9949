-- A call that the machine makes does what the call means.
use Rattle.std.proofs.Common.{◌≡◌, ℕ, zero, suc, ◌+◌, ◌<◌, Bool, true, false, nat_lt, if◌then◌else◌, List, [], ◌∷◌, ◌++◌, length, map, Option, Some, None, refl, sym, ap, ◌∙◌, subst, arith, append_assoc, length-append}
use Rattle.std.specs.Prelude.{slice_get, option_map}
use Rattle.std.specs.List.{list_any}
use Rattle.std.proofs.Math.Seq.{get_or-append_seam}
use Rattle.std.proofs.lemmas.Option.{slice_get-get_or, slice_get-map}
use Rattle.std.proofs.lemmas.Bool.{lt-ltb, le-ltb}
use Rattle.meaning.specs.Instructions as instr
use Rattle.program_tree.specs.Resolved.{Program}
use Rattle.meaning.specs.Operations.{recursion, deep, FunctionId, Callee, Arguments, Operations}
use Rattle.meaning.specs.Outcome.{Slots, Outcome, done, fault, Final, final_of, ◌>>=◌, pure, act, Here, refused}
use Rattle.meaning.specs.Entry.{in_file, same_function, entry, called}
use Rattle.meaning.specs.Functions.{Function, Files, functions, function_at, its_name, function_name, its_line, def_line}
use Rattle.meaning.specs.Expressions.{Invoke}
use Rattle.meaning.specs.Statements.{End, next, breaks, continues, returns, block}
use Rattle.meaning.specs.Calls.{Going, inside, value_of, tested, written, chosen, running, invoke}
use Rattle.meaning.specs.Instructions.{FunctionCode, Codes, code_at, code_line, code_name}
use Rattle.meaning.specs.Machine.{Frame, Next, more, doing, choose, faults, returning, outer, finishing, frame_of, starting, starts, calls}
use Rattle.meaning.specs.Performing.{line_of}
use Rattle.meaning.specs.ExpressionCode.{Lines}
use Rattle.meaning.specs.StatementCode.{body_code, end_code, block_code, function_code, file_code, code_of}
use Rattle.meaning.proofs.Leads.{Leads, Gives, stays, goes_on, stepped, gives_then, Stands, halves}
use Rattle.meaning.proofs.OneStep.{Site, Calls, now}
use Rattle.meaning.proofs.Loops.{ending}
use Rattle.meaning.proofs.Blocks.{block_runs}

-- a function's instructions stand in it
stands_all : (codes : Codes) (fn : FunctionId) (fc : FunctionCode) → code_at codes fn ≡ Some fc → (is pre : Lines) →
    fc.code ≡ pre ++ is → Stands codes fn (length pre) is (length pre + length is)
stands_all codes fn fc h [] pre e = let z : length pre ≡ length pre + 0 = omega arith in z
stands_all codes fn fc h (i ∷ is) pre e =
    let within : length pre < length (pre ++ i ∷ is) = omega (arith, length-append pre (i ∷ is)) in
    let here = slice_get-get_or (pre ++ i ∷ is) (length pre) i within ∙ ap Some (get_or-append_seam pre i is i) in
    let n : length (pre ++ i ∷ []) ≡ suc (length pre) = omega (arith, length-append pre (i ∷ [])) in
    let m : length (pre ++ i ∷ []) + length is ≡ length pre + length (i ∷ is) = omega (arith, n) in
    let rest = stands_all codes fn fc h is (pre ++ i ∷ []) (e ∙ sym (append_assoc pre (i ∷ []) is)) in (
      ap (λ o. line_of o (length pre)) h ∙ ap (λ l. slice_get l (length pre)) e ∙ here,
      subst (λ k. Stands codes fn k is (length pre + length (i ∷ is))) n (subst (λ k. Stands codes fn (length (pre ++ i ∷ [])) is k) m rest),
    )

-- the code at a place is that of the function there
in_file_map : (o : Option (List Function)) (n : ℕ) →
    in_file (option_map (map function_code) o) n ≡ option_map function_code (in_file o n)
in_file_map None n = refl
in_file_map (Some fs) n = slice_get-map function_code fs n

slice_get-map2 : (files : Files) (n : ℕ) →
    slice_get (map file_code files) n ≡ option_map (map function_code) (slice_get (map functions files) n)
slice_get-map2 files n = slice_get-map file_code files n ∙ (as_two (slice_get files n) ∙ ap (option_map (map function_code)) (sym (slice_get-map functions files n)))
  where
    as_two : (o : Option Program) → option_map file_code o ≡ option_map (map function_code) (option_map functions o)
    as_two None = refl
    as_two (Some f) = refl

pub code_found : (files : Files) (f : FunctionId) →
    code_at (code_of files) f ≡ option_map function_code (function_at files f)
code_found files f = ap (λ o. in_file o f.number) (slice_get-map2 files f.file) ∙ in_file_map (slice_get (map functions files) f.file) f.number

pub names_found : (files : Files) (f : FunctionId) → code_name (code_of files) f ≡ function_name files f
names_found files f = ap instr.its_name (code_found files f) ∙ as_named (function_at files f)
  where
    as_named : (o : Option Function) → instr.its_name (option_map function_code o) ≡ its_name o
    as_named None = refl
    as_named (Some d) = refl

pub line_found : (files : Files) (f : FunctionId) → code_line (code_of files) f ≡ def_line files f
line_found files f = ap instr.its_line (code_found files f) ∙ as_lined (function_at files f)
  where
    as_lined : (o : Option Function) → instr.its_line (option_map function_code o) ≡ its_line o
    as_lined None = refl
    as_lined (Some d) = refl

module _ {S V K : Type 0} (ops : Operations S V K) (files : Files) where
  abbrev codes : Codes
  codes = code_of files

  abbrev site : FunctionId → List FunctionId → List (Frame V) → Site S V K
  site fn active below = record { ops = ops; codes = codes; fn = fn; active = active; below = below }

  abbrev active_at : ℕ → ℕ → List FunctionId → Here
  active_at file at active = record { file = file; at = at; active = active }

  -- how a call ends leads on as its value does
  abbrev Ends : List (Frame V) → List FunctionId → Next S V K → Final S V K → Type 0
  Ends below active a r = Leads ops codes a (finishing below active r)

  final_ends : (below : List (Frame V)) (active : List FunctionId) (a : Next S V K) (o : Outcome S V K V) →
      Gives ops codes V a o (λ v l s. returning v below active s) → Ends below active a (final_of o)
  final_ends below active a (done v l s) g = g.by
  final_ends below active a (fault e) g = g.by

  if_ends : (below : List (Frame V)) (active : List FunctionId) (t : Bool) (a b : Next S V K) (m n : S → Final S V K)
      (s : S) →
      Ends below active a (m s) → Ends below active b (n s) → Ends below active (choose t a b) ((if t then m else n) s)
  if_ends below active true a b m n s g h = g
  if_ends below active false a b m n s g h = h

  -- what a body begins with: the test of depth, the tick, and the frame
  abbrev framed : Here → FunctionId → List (Frame V) → Slots V → S → Next S V K
  framed here f below l s =
      doing (act here ops.tick l s) (λ _ l s.
      more (record { top = frame_of f l; below = below; active = f ∷ here.active; state = s }))

  abbrev begun : Here → FunctionId → List (Frame V) → Slots V → S → Next S V K
  begun here f below l s =
      choose (nat_lt (length here.active) 128) (framed here f below l s) (faults here (ops.refusal deep))

  tested_ends : (here : Here) (f : FunctionId) (below : List (Frame V)) (go : Slots V → S → Final S V K)
      (o : Option (Slots V)) (s : S) →
      ((l : Slots V) → Ends below here.active (begun here f below l s) (go l s)) →
      Ends below here.active (starting ops codes here f below s o) (tested ops here f go o s)
  tested_ends here f below go None s run = stays
  tested_ends here f below go (Some l) s run =
      if_ends below here.active (list_any (same_function f) here.active) _ _ (λ s. refused here (ops.refusal recursion)) (go l) s
      (stays) (run l)

  pub written_ends : (here : Here) (f : FunctionId) (args : Arguments V) (below : List (Frame V)) (go : Going S V K)
      (o : Option Function) (s : S) →
      ((d : Function) → o ≡ Some d → (l : Slots V) → Ends below here.active (begun here f below l s) (go d l s)) →
      Ends below here.active (starts ops codes here f args below s (option_map function_code o)) (written ops here f args go o s)
  written_ends here f args below go None s run = stays
  written_ends here f args below go (Some d) s run =
      tested_ends here f below (go d) (entry d.params d.slots (ops.defaults f s) args) s (run d refl)

  chosen_ends : (here : Here) (g : Callee V) (args : Arguments V) (below : List (Frame V))
      (go : FunctionId → Going S V K) (o : Option FunctionId) (s : S) →
      ((f : FunctionId) (d : Function) → function_at files f ≡ Some d → (l : Slots V) →
      Ends below here.active (begun here f below l s) (go f d l s)) →
      Ends below here.active (calls ops codes here g args below s o) (chosen ops files here g args go o s)
  chosen_ends here g args below go None s run = stays
  chosen_ends here g args below go (Some f) s run =
      subst (λ o. Ends below here.active (starts ops codes here f args below s o) (written ops here f args (go f) (function_at files f) s))
      (sym (code_found files f))
      (written_ends here f args below (go f) (function_at files f) s (run f))

  -- the end of a body
  body_ends : (fn : FunctionId) (active : List FunctionId) (below : List (Frame V)) (m pc' : ℕ) →
      Stands codes fn m end_code pc' →
      (e : End V) (l : Slots V) (s : S) →
      Leads ops codes (ending (site fn active below) m [] e l s) (returning (value_of ops e) below (outer active) s)
  body_ends fn active below m pc' h next l s =
      goes_on
      (stepped (record { top = record (frame_of fn l) { pc = m }; below = below; active = active; state = s }) 0 instr.push_none h.0)
      (stepped (record { top = record (frame_of fn l) { pc = suc m; values = ops.none ∷ [] }; below = below; active = active; state = s }) 0 instr.give_back h.1.0)
  body_ends fn active below m pc' h breaks l s = stays
  body_ends fn active below m pc' h continues l s = stays
  body_ends fn active below m pc' h (returns v) l s = stays

  -- a body, from its first instruction
  pub body_runs : (fn : FunctionId) (d : Function) (active : List FunctionId) (below : List (Frame V))
      (inv : Invoke S V K) (at : ℕ) (l : Slots V) (s : S) →
      function_at files fn ≡ Some d → Calls ops codes active inv →
      Gives ops codes V (now (site fn active below) 0 l [] [] [] s)
      ((block ops inv files d.body (active_at fn.file at active) >>= λ e. pure (value_of ops e)) l s)
      (λ v l s. returning v below (outer active) s)
  body_runs fn d active below inv at l s h made =
      let all = stands_all codes fn (function_code d) (code_found files fn ∙ ap (option_map function_code) h) (body_code d) [] refl in
      let p = halves codes fn 0 _ (block_code d.body) _ all in
      gives_then (block ops inv files d.body (active_at fn.file at active) l s)
      (block_runs (site fn active below) inv made files (names_found files) d.body at 0 p.0 l [] s p.1)
      (λ e l s. record { by = body_ends fn active below p.0 _ p.2 e l s })

  -- a function whose arguments fit
  pub begun_ends : (inv : Invoke S V K) (here : Here) → length here.active < 128 → (f : FunctionId) →
      Calls ops codes (f ∷ here.active) inv →
      (below : List (Frame V)) (d : Function) (l : Slots V) (s : S) → function_at files f ≡ Some d →
      Ends below here.active (begun here f below l s) (running ops files inv here f d l s)
  begun_ends inv here lt f made below d l s h =
      subst (λ b. Ends below here.active (choose b (framed here f below l s) (faults here (ops.refusal deep))) (running ops files inv here f d l s))
      (sym (lt-ltb (length here.active) 128 lt))
      (final_ends below here.active _ ((act here ops.tick >>= λ _. block ops inv files d.body (inside f here) >>= λ e. pure (value_of ops e)) l s)
      (gives_then {k = λ _ l s. more (record { top = frame_of f l; below = below; active = f ∷ here.active; state = s })} (act here ops.tick l s)
      (record { by = stays }) (λ _ l s.
      body_runs f d (f ∷ here.active) below inv 0 l s h made)))

  -- calls, where 128 functions may be active in all
  pub calls_run : (n : ℕ) (active : List FunctionId) → n + length active ≡ 128 →
      Calls ops codes active (invoke ops files n)
  unfolding invoke
  calls_run zero active e = record {
    by = λ file at g args below s.
        chosen_ends (active_at file at active) g args below (λ f d l s. refused (active_at file at active) (ops.refusal deep)) (called ops g) s (λ f d h l.
        let no : nat_lt (length active) 128 ≡ false = le-ltb (length active) 128 (omega (arith, e)) in
        subst (λ b. Ends below active (choose b (framed (active_at file at active) f below l s) (faults (active_at file at active) (ops.refusal deep))) (refused (active_at file at active) (ops.refusal deep)))
        (sym no) (stays));
  }
  calls_run (suc n) active e = record {
    by = λ file at g args below s.
        chosen_ends (active_at file at active) g args below _ (called ops g) s (λ f d h l.
        begun_ends (invoke ops files n) (active_at file at active) (omega (arith, e)) f (calls_run n (f ∷ active) (omega (arith, e))) below d l s h);
  }
