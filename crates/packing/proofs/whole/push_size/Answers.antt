use Rattle.std.proofs.Common.{◌∙◌, List, ℕ, ap, arith, subst, sym}
use Rattle.std.proofs.lemmas.Grind.{common_steps}
use Rattle.std.specs.Prelude.{IsUtf8}
use Rattle.workspace.specs.Paths.{is_path}
use Rattle.packing.specs.Folders.{HasBytes}
use Rattle.packing.specs.Packs.{is_used}
use Rattle.packing.proofs.SizesLemmas.{sized-more}
use Rattle.packing.proofs.whole.push_size.Goals as goal

pub returns : goal.returns
returns g c each =
    let at = g.F.Folder.at c.args.folder.now in
    let utf8 : IsUtf8 c.in-Ok.bytes.items = subst IsUtf8 c.deref.ensures.value c.in-Ok-from_utf8.ensures.cases.1 in
    sized-more at c.args.sizes.now.items c.push.new.self.items (record { bytes = c.len.result; path = c.in_ok-share.field-0 }) c.args.path.now c.in-Ok.bytes.items
    c.in_ok-push.ensures.items c.requires (ap is_path (sym c.as_str.ensures) ∙ sym c.is_path.ensures ∙ c.if-not-is_path.false)
    (ap is_used (sym c.as_str-else-not-is_path.ensures) ∙ sym c.is_used.ensures ∙ c.if-not-is_used.false) utf8
    (subst (λ (p : List ℕ). HasBytes (at p) c.in-Ok.bytes.items) c.as_str-2.ensures c.in-Ok.ensures.bytes)
    (grind (arith, common_steps)) (grind (arith, common_steps)) (sym c.in_ok-share.ensures) each
