use Rattle.std.proofs.Common.{◌∙◌, [], ◌∷◌, ◌++◌, List, map, take, ap, sym}
use Rattle.std.proofs.lemmas.List.{map_more}
use Rattle.std.proofs.lemmas.Option.{get_or_from_slice_get, slice_get_within}
use Rattle.workspace.specs.Labels.{LabelParts}
use Rattle.targets.specs.Resolving.{dependencies}
use Rattle.packages.proofs.kept.all_dependencies.Goals as goal

pub loop-place-preserved : goal.loop-place-preserved
loop-place-preserved c =
    let ts = c.args.targets.now.targets in let n = c.loop-place.place in let t = c.target.result.now in
    let own = c.in_ok-dependencies.ensures ∙ ap dependencies (sym (get_or_from_slice_get ts n t t c.target.ensures)) in (
      c.in_ok-push.ensures.items ∙ ap (λ l. l ++ c.in_ok-dependencies.field-0 ∷ []) c.loop-place.invariant.0 ∙ ap (λ (x : List LabelParts). map dependencies (take n ts) ++ x ∷ []) own
          ∙ sym (map_more dependencies ts n t (slice_get_within ts n t c.target.ensures)),
      c.loop-place.invariant.1,
    )
