use Rattle.std.proofs.Common.{◌∙◌, ap, map, refl, sym}
use Rattle.grammar.specs.LineView.{form_of, item_of}
use Rattle.program_tree.specs.Resolved as resolved
use Rattle.program_tree.specs.Resolved.{global_of}
use Rattle.file_syntax.specs.Scopes.{form_scoped}
use Rattle.syntax.proofs.heads.form_head.Goals as goal

pub returns-in_ok-made-in-Load : goal.returns-in_ok-made-in-Load
returns-in_ok-made-in-Load c =
    let s = c.args.scope.now in (
      ap (λ f. form_scoped s (form_of f)) c.in-Load.is,
      ap resolved.simple
          (c.in_ok-made-in-Load.ensures
          ∙ ap (λ is. resolved.load c.in-Load.path (map (λ i. record { asked = i.asked; binds = global_of s i.binds }) (map item_of is))) c.as_slice.ensures.value)
          ∙ ap (λ f. resolved.head s (form_of f)) (sym c.in-Load.is),
      refl,
    )
