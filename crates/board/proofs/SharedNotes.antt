-- A note through a `&`: what it owns can be had twice, so a `&` to it gives that. Assumes `Logic`.
use Rattle.std.proofs.Common.{◌∙◌, ap, ℕ, List, [], ◌∷◌, ◌++◌}
use seplogic.Ra.Ura.{Ura}
use mir.Val.{Val, vstruct, of_list}
use base.Share
use base.Share.{halves}
use base.Logic.{ent, sep, wand, apply∗}
use base.Fml.{Lft, Share, Fml, Incl-refl, fsep, flft}
use ghost.Rules.{Halves}
use types.Logic.{Logic, sem}
use types.Frac.{shr_bor-Acc_by}
use types.Kit.{‵, ◌⊛◌, raw, some, later, await, ◌$◌, ◌∵◌, !, qed, move, use1, use2, split, pick, fsplit, fjoin, fpick, fpack, updating, now, done}
use denote.Shadow.{pure_l, pure_i}
use denote.Laws.{Is, Tells, Copy, shows}
use denote.Memory.{part_of, part_at, cell_at, shared_of, share_laws}
use denote.RattleType.{RattleType}
use denote.Struct.Struct.{Struct}
use denote.Struct.Owning.{shape}
use Rattle.once_cell.specs.Once.{noted}
use Rattle.once_cell.specs.contracts.race.note.Note as note
use Rattle.once_cell.proofs.Notes as notes
use Rattle.once_cell.proofs.Notes.{token}

module _ {M : Type 1} {𝓤 : Ura M} (𝓛 : Logic 𝓤) (R : RattleType) where
  abbrev Note : RattleType
  Note = note.the_row R

  abbrev Data : List Val → Fml
  Data vs = (Struct (shape (note.the_type R))).own_val (tt, tt) vs

  tells : Tells Note (Is Note) (λ n. token ∷ [])
  tells n vs p = p.0.1.0 ∙ ap (λ (us : List Val). vstruct (of_list (us ++ [])) ∷ []) p.0.1.1.0.1.0

  copied : Copy 𝓛 Note
  copied = record {
    twice = λ n vs. qed 𝓛 (‵ (Note.own_val n vs) ∷ []) ∵ fsplit ! $ pure_l ! (Data vs) (λ f.
        use1 𝓛 (‵ (noted R n.cell n.known) ⊛ ‵ (noted R n.cell n.known)) (notes.noted_twice 𝓛 R n.cell n.known) $ split ! $
        pure_i ! (Data vs) (λ vss. (tt, ((λ uss. (tt, tt)), tt))) f $ fjoin ! $ move ! (1 ∷ 0 ∷ []) $ pure_i ! (Data vs) (λ vss. (tt, ((λ uss. (tt, tt)), tt))) f $ fjoin ! $ done !);
  }

  module _ (n : Note.Denot) (b o : ℕ) where
    abbrev At : Share → Fml
    At s = part_at Note s n b o

    halved : Halves 𝓤 𝓛.H 𝓛.A At
    halved = let laws = share_laws 𝓛 Note (Is Note) (shows 𝓛 Note) (λ m. token ∷ []) tells copied in
        record { cut = λ q. laws.cut q (Share.left q) (Share.right q) (halves q) n b o; join = λ q. laws.join q (Share.left q) (Share.right q) (halves q) n b o }

    out : (s : Share) → ent 𝓤 (sem 𝓛 (At s)) (sep 𝓤 (sem 𝓛 (noted R n.cell n.known)) (sem 𝓛 (At s)))
    unfolding part_of
    out s = qed 𝓛 (‵ (At s) ∷ []) ∵ fpick ! (λ vs. fsplit ! $ move ! (1 ∷ []) $ fsplit ! $ move ! (1 ∷ []) $
        use1 𝓛 (‵ (noted R n.cell n.known) ⊛ ‵ (noted R n.cell n.known)) (notes.noted_twice 𝓛 R n.cell n.known) $ split ! $ move ! (2 ∷ 1 ∷ []) $ fjoin ! $ move ! (2 ∷ 0 ∷ []) $ fjoin ! $
        fpack ! (List Val) (λ us. fsep (cell_at s Note.mir us b o) (Note.own_val n us)) vs $ move ! (1 ∷ 0 ∷ []) $ done !)

    -- what a `&` to the note says
    pub seen_of : (κ : Lft) (q : Share) → ent 𝓤 (sep 𝓤 (sem 𝓛 (shared_of Note n b o κ)) (𝓛.A.lft κ q)) (𝓛.H.⇛ (sep 𝓤 (sem 𝓛 (noted R n.cell n.known)) (𝓛.A.lft κ q)))
    seen_of κ q = qed 𝓛 (‵ (shared_of Note n b o κ) ∷ ‵ (flft κ q) ∷ []) ∵ updating ! $
        use2 𝓛 (later (some (λ (s : Share). ‵ (At s) ⊛ raw (wand 𝓤 (sem 𝓛 (At s)) (𝓛.H.⇛ (𝓛.A.lft κ q)))))) (shr_bor-Acc_by 𝓛 At halved κ ((κ, q) ∷ []) (Incl-refl κ)) $ await ! tt $ pick ! (λ s. split ! $
        use1 𝓛 (‵ (noted R n.cell n.known) ⊛ ‵ (At s)) (out s) $ split ! $ move ! (1 ∷ 2 ∷ []) $
        use2 𝓛 (later (‵ (flft κ q))) (apply∗ 𝓤 (sem 𝓛 (At s)) (𝓛.H.⇛ (𝓛.A.lft κ q))) $ await ! tt $ move ! (1 ∷ 0 ∷ []) $ now ! $ done !)
