use Rattle.std.proofs.Common.{◌≡◌, ◌∙◌, List, ℕ, IfOk, false, ap₂, string_bytes, subst, sym, true, Err, ap}
use Rattle.workspace.specs.Workspaces.{Pair, is_file}
use Rattle.packing.specs.Packs.{Holds, IsOf, is_bazel_file}
use Rattle.packing.specs.Writing.{Takes}
use Rattle.packing.specs.declared.writing.Skip.TheVariants as skip
use Rattle.packing.proofs.WritingLemmas.{takes-left, takes-put}
use Rattle.packing.proofs.writing.Writing.with_file.Goals as goal

pub returns-in-Ok-clause-takes : goal.returns-in-Ok-clause-takes
returns-in-Ok-clause-takes g c =
    let at = g.F.Folder.at c.args.folder.now in
    let paths : c.as_str.result.now ≡ c.as_str-in-Ok.result.now = c.as_str.ensures ∙ sym c.as_str-in-Ok.ensures in
    let pairs : (c.as_str.result.now, string_bytes c.in-Ok.text) ≡ (c.as_str-in-Ok.result.now, c.as_str-in-Ok-2.result.now)
    = ap₂ (λ (a b : List ℕ). (a, b)) paths (sym c.as_str-in-Ok-2.ensures.value) in
    subst (λ (p : List ℕ). IfOk c.with_text.result (Takes at p c.args.self)) c.as_str-in-Ok.ensures
    (takes-put at c.as_str-in-Ok.result.now c.as_str-in-Ok-2.result.now c.args.self c.with_text.result
    c.with_text.ensures.input c.with_text.ensures.utf8 c.with_text.ensures.limit c.with_text.ensures.left c.with_text.ensures.counted
    (subst (λ (q : Pair). is_file q ≡ true) pairs c.in-Ok.ensures.file)
    (subst (λ (q : Pair). IsOf (at q.0) q) pairs c.in-Ok.ensures.of)
    (subst (λ (p : List ℕ). is_bazel_file p ≡ false) paths c.in-Ok.ensures.served))

pub returns-in-Err-Left-clause-takes : goal.returns-in-Err-Left-clause-takes
returns-in-Err-Left-clause-takes g c =
    let at = g.F.Folder.at c.args.folder.now in
    takes-left at c.args.path.now c.in-Err-Left.reason c.args.self c.without.result c.without.ensures.input c.without.ensures.left c.without.ensures.counted
    (subst (λ (p : List ℕ). Holds at p c.in-Err-Left.reason) c.as_str.ensures
    (c.in-Err-Left.ensures.cause c.in-Err-Left.reason (ap (λ s. Err s) c.in-Err-Left.field-0-is)))
    (λ is. c.in-Err-Left.ensures.itself (ap (λ s. Err s) (c.in-Err-Left.field-0-is ∙ ap (λ r. skip.Left r) is))) c.requires
