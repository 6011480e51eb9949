use Rattle.std.proofs.Common.{◌++◌, ◌∙◌, ap, map, flat_map, drop, string_bytes, ◌+◌, arith}
use Rattle.leaf_texts.specs.Texts.{joined_from, quoted, separator}
use Rattle.claims.specs.Same.{element_paths}
use Rattle.reporting.proofs.ElementPaths.{file-next, other-next, no_paths}
use Rattle.reporting.proofs.strings_in.put_element_paths.Goals as goal
use Rattle.reporting.proofs.strings_in.put_element_paths.Goals.{in-File+in_ok-put_string_at, in_default}

pub loop-i-preserved : goal.loop-i-preserved
loop-i-preserved c =
    let es = c.args.elements.now in
    let i = c.loop-i.i in
    let e = c.at.result.now in
    let low = c.loop-i.invariant.0 in
    let rest = map quoted (flat_map element_paths (drop (i + 1) es)) in
    elim c.match-at.branch [
      | in-File+in_ok-put_string_at w ↦
          let one = w.place-is in
          let text = w.as_str.ensures ∙ ap (λ f. f.path) w.get.ensures in
          let put =
          ap string_bytes w.out-is ∙ w.in_ok-put_string_at.ensures
          ∙ ap (λ t. string_bytes c.loop-i.out ++ (separator c.loop-i.place ++ quoted t)) text in (
            omega (arith, low, one),
            ap (λ n. string_bytes c.match-at.out ++ joined_from n rest) w.place-is
                ∙ file-next es i e c.at.ensures c.loop-i.place (string_bytes c.loop-i.out) (string_bytes c.match-at.out) w.in-File.file.path (ap element_paths w.in-File.is) put
                ∙ c.loop-i.invariant.1,
          )
      | in_default w ↦
          let same = w.place-is in (
            omega (arith, low, same),
            (λ j. string_bytes (w.out-is j) ++ joined_from (w.place-is j) rest)
                ∙ other-next es i e c.at.ensures c.loop-i.place (string_bytes c.loop-i.out) (no_paths e w.in_default.not-File)
                ∙ c.loop-i.invariant.1,
          )
    ]
