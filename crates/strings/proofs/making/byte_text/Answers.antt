use Rattle.std.proofs.Common.{arith, ap}
use Rattle.std.specs.Prelude.{slice_index}
use Rattle.strings.proofs.Ascii.{text_places}
use Rattle.strings.proofs.making.byte_text.Goals as goal

pub get-requires : goal.get-requires
get-requires c =
    let e = ap (λ t. slice_index t c.args.place) c.as_bytes.ensures.value in
    let l = text_places c.args.text.now c.requires.ascii c.args.place in
    omega (arith, e, l)
