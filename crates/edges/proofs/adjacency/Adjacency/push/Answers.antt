use Rattle.std.proofs.Common.{◌≡◌, ℕ, List, ◌++◌, ◌∷◌, [], length, ap, ◌∙◌}
use Rattle.std.proofs.lemmas.List.{length-append}
use Rattle.edges.specs.Flat.{flat_rows, IsFlat}
use Rattle.edges.proofs.Flat.{flat_push}
use Rattle.edges.proofs.adjacency.Adjacency.push.Goals as goal

-- the flat form of one row more
grown : (starts entries list starts' entries' : List ℕ) (end : ℕ) (rows : List (List ℕ)) → IsFlat starts entries → flat_rows starts entries ≡ rows → entries' ≡ entries ++ list → starts' ≡ starts ++ end ∷ []
    → end ≡ length entries' → flat_rows starts' entries' ≡ rows ++ list ∷ []
grown starts entries list starts' entries' end rows flat is entries_are starts_are end_is =
    ap (λ s. flat_rows s entries') starts_are ∙ ap (flat_rows (starts ++ end ∷ [])) entries_are
    ∙ flat_push starts entries list end flat (end_is ∙ ap length entries_are ∙ length-append entries list) ∙ ap (λ r. r ++ list ∷ []) is

pub returns : goal.returns
returns c =
    let entries = c.in_ok-extend_from_slice.ensures.items in
    let starts = c.in-Ok.ensures.items in
    let old = c.in_ok-reserve.ensures.items in
    grown c.self.inside.starts.items c.self.inside.entries.items c.args.list.now c.push.new.self.items c.extend_from_slice.new.self.items c.len.result c.args.self.now c.self.invariant c.self.view_is entries
    (starts ∙ ap (λ s. s ++ c.len.result ∷ []) old) (c.len.ensures ∙ c.extend_from_slice.new.self.ok.0)
