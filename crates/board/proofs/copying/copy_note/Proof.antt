-- What a `&` to a note says goes into the note behind the `&mut`.
use Rattle.std.proofs.Common.{◌≡◌, ℕ, List, [], ◌∷◌, ◌++◌, refl, sym, subst}
use mir.Syntax.{a_type}
use mir.Val.{Val, vptr, vunit}
use mir.MapTy.{inst_fn}
use base.Logic.{SProp, ent, emp, id⊢, apply∗, all, all_e}
use base.Fml.{Lft, Share, ftrue, flft}
use prog.Wp.{WpFn}
use types.Logic.{sem}
use types.Kit.{‵, raw, ◌⊛◌, later, ◌$◌, ◌∵◌, !, qed, by, move, keep, drop, split, split3, join, fsplit, fsplit3, fjoin, suffices, use0, use1, use2, await, feq_i}
use types.Run.{of_opd, returns, enter, unit_lit}
use types.ByLocal.{alloc_all, pass_all, free_all, look_at, sets}
use contract.Monad.{fact, fact_i}
use contract.Running.{tables}
use denote.Exit.{yes}
use denote.RattleType.{RattleType, owns}
use denote.Signature.{types_at, plain}
use denote.Builtin.{RefOf}
use denote.Opens.{unhide}
use denote.Steps.{nothing}
use denote.Param.{param, layouts}
use denote.Triple.Walked.{Stays, stay_dropped, walk_of, Goes-dropped, stay_ref, Goes-ref}
use Rattle.once_cell.specs.Once.{noted}
use Rattle.once_cell.proofs.Notes as notes
use Rattle.once_cell.proofs.Notes.{Note}
use Rattle.std.proofs.raw_atomic.Walks.{proved_at, leaves}
use Rattle.board.proofs.SharedNotes.{seen_of}
use Rattle.board.specs.contracts.copying.copy_note.{ended, clauses}
use Rattle.board.specs.contracts.copying.copy_note.Key.{name as #self}
use Rattle.board.proofs.copying.copy_note.Statement.{statement}
use Rattle.board.proofs.copying.copy_note.Code as code

pub copy_note_spec : {M : Type 1} → statement M
copy_note_spec 𝓤 𝓛 𝓜 𝓡 wired T L =
    let H = 𝓛.H in let 𝓣 = tables 𝓤 H 𝓜 𝓡 𝓡.env in let R : RattleType = param 0 T in let En = ended T in let c = clauses T 𝓛 𝓜.mem 𝓡.returns in
    let inst = layouts (a_type ∷ []) (T, tt) in let fn = inst_fn inst code.function in let N : RattleType = Note 𝓛 R in
    let hs : Stays En.signature.params En.kept = (stay_dropped (RefOf (0 ∷ []) tt (plain (λ _. N)) (λ _. tt)) yes, (stay_ref (1 ∷ []) tt (plain (λ _. N)), tt)) in
    proved_at 𝓛 En hs c 𝓜 𝓡 (Goes-dropped 𝓛 3 (RefOf (0 ∷ []) tt (plain (λ _. N)) (λ _. tt)) yes (λ κs x f. refl), (Goes-ref 𝓛 3 1 tt (plain (λ _. N)), tt)) (#self inst) fn (code.unfolded 𝓤 H 𝓜 𝓡 wired (T, tt)) (λ z are.
    let κs = z.0.0 in let qs = z.0.1 in let Post : Val → SProp 𝓤 = (walk_of 𝓛 En hs c).post z in let Run : List Val → SProp 𝓤 = λ ws. WpFn 𝓤 H 𝓣.C 𝓣.Λ fn ws Post in
    let b : ℕ = z.0.3.0.ref_ptr.0 in let o : ℕ = z.0.3.0.ref_ptr.1 in let n : N.Denot = z.0.3.0.now in let κ : Lft = κs.0 in let q : Share = qs.0 in let μ : Lft = κs.1.1.0 in let r : Share = qs.1.1.0 in
    let κ' : Lft = κs.1.0 in let q' : Share = qs.1.0 in let m = z.0.3.1.0 in let nb₀ : ℕ = m.ref_ptr.0 in let no₀ : ℕ = m.ref_ptr.1 in let ν₀ : ℕ = m.ghost_name in
    let Shuts = notes.Shuts 𝓛 R κ' q' nb₀ no₀ ν₀ in let Told : Type 0 = n ≡ n in let Vs : List Val = vptr b o ∷ vptr nb₀ no₀ ∷ [] in
    qed 𝓛 (((‵ (flft κ q) ⊛ ‵ (flft κ' q') ⊛ ‵ (flft μ r) ⊛ ‵ ftrue) ⊛ ‵ (owns (types_at En.signature.params κs) z.0.3 z.0.4)) ∷ raw ((c κs z.0.3).requires z.1) ∷ []) ∵
    keep ! (0 ∷ []) $ split ! $ split3 ! $ move ! (2 ∷ []) $ split ! $ move ! (4 ∷ []) $ fsplit3 ! $ move ! (1 ∷ []) $ fsplit ! $ keep ! (1 ∷ 2 ∷ 6 ∷ 7 ∷ 4 ∷ []) $
    suffices ! (Run Vs) (subst (λ (us : List Val). ent 𝓤 (Run Vs) (Run us)) (sym (λ i. are.0.0 i ++ (are.1.0.0 i ++ []))) (id⊢ 𝓤 (Run Vs))) $
    enter ! 𝓣.C 𝓣.Λ fn Vs Post $ alloc_all ! (λ l. pass_all ! refl ((tt, tt), ((tt, tt), tt)) $
    move ! (0 ∷ 3 ∷ []) $ use2 𝓛 (later (‵ (noted R m.now.cell m.now.known) ⊛ raw (all 𝓤 Shuts))) (notes.note_opens 𝓛 R κ' q' nb₀ no₀ ν₀ m.now) $ await ! tt $ split ! $ move ! (2 ∷ []) $ fsplit ! $ drop ! $ unhide ! $
    -- [what the `&` holds; the other note; its way back; the `&`'s token; μ's token]
    move ! (0 ∷ 3 ∷ []) $ use2 𝓛 (later (‵ (noted R n.cell n.known) ⊛ ‵ (flft κ q))) (seen_of 𝓛 R n b o κ q) $ await ! tt $ split ! $
    move ! (3 ∷ []) $ use1 𝓛 (raw (Shuts n)) (all_e 𝓤 Shuts n) $ move ! (1 ∷ 0 ∷ []) $ use2 𝓛 (later (‵ (notes.lent 𝓛 R κ' q' nb₀ no₀ ν₀ n) ⊛ ‵ (flft κ' q'))) (apply∗ 𝓤 (sem 𝓛 (noted R n.cell n.known)) _) $ await ! tt $ split ! $
    feq_i ! (List Val) z.0.4.1.0 (vptr nb₀ no₀ ∷ []) are.1.0.0 $ fjoin ! $ nothing ! $ move ! (1 ∷ 0 ∷ []) $ fjoin ! $ nothing ! $ fjoin ! $
    move ! (1 ∷ 4 ∷ []) $ nothing ! $ move ! (2 ∷ 0 ∷ []) $ join ! $ move ! (1 ∷ 0 ∷ []) $ join ! $ move ! (2 ∷ 0 ∷ []) $ join ! $
    sets ! (of_opd ! (unit_lit !)) refl (tt, tt) $ feq_i ! (List Val) (vunit ∷ []) (vunit ∷ []) refl $ use0 𝓛 (raw (fact 𝓤 Told)) (fact_i 𝓤 Told (emp 𝓤) refl) $
    returns ! (look_at ! 0 refl) $ free_all ! refl $ keep ! (2 ∷ 3 ∷ 1 ∷ 0 ∷ []) $ by ! (leaves 𝓛 En hs c z vunit tt (tt, (n, tt)) (tt, (tt, tt)))))
