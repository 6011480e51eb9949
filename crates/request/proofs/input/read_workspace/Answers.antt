use Rattle.std.proofs.Common.{◌≡◌, ◌∙◌, Err, Some, ap, arith, subst, sym}
use Rattle.std.specs.Prelude.{IsUtf8}
use Rattle.json.specs.Lex.{tokens}
use Rattle.request.specs.declared.input.InputRefused.TheVariants.{Illegal}
use Rattle.request.proofs.InputLemmas.{read-tokens, spelt-once, tokens-read}
use Rattle.workspace.specs.Workspaces.{IsWorkspace}
use Rattle.request.proofs.input.read_workspace.Goals as goal

pub returns-in-Err-clause-illegal : goal.returns-in-Err-clause-illegal
returns-in-Err-clause-illegal c e pairs s =
    let same : c.in-Err.refused ≡ Illegal = cc in
    c.in-Err.ensures.illegal (ap (λ r. Err r) same) pairs (subst IsUtf8 (sym c.as_slice.ensures.value) s.utf8)
    (ap tokens c.as_slice.ensures.value ∙ read-tokens c.args.input.items s.value pairs s.read s.pairs_of) s.workspace.files

pub returns-in-Ok-finish-clause-ok : goal.returns-in-Ok-finish-clause-ok
returns-in-Ok-finish-clause-ok c =
    let told = rw c.as_slice.ensures.value at c.in-Ok.ensures.ok in
    let v = tokens-read c.args.input.items c.in-Ok.files told.1 in record {
      limit = omega arith;
      utf8 = told.0;
      value = v.0;
      read = v.1;
      pairs_of = v.2 ∙ ap (λ w. Some w) (sym c.in-Ok-finish.ensures.ok);
      workspace = c.in-Ok-finish.ensures.legal;
    }

pub returns-in-Err-Illegal-clause-illegal : goal.returns-in-Err-Illegal-clause-illegal
returns-in-Err-Illegal-clause-illegal c _ pairs s =
    let told = rw c.as_slice.ensures.value at c.in-Ok.ensures.ok in
    let once = spelt-once c.args.input.items c.in-Ok.files pairs s.value told.1 s.read s.pairs_of in
    c.in-Err-Illegal.ensures.illegal (ap (λ r. Err r) c.in-Err-Illegal.field-0-is) (subst IsWorkspace (sym once) s.workspace)
