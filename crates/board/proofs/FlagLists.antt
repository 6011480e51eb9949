-- What flags say of the values that are known.
use Rattle.std.proofs.Common.{◌≡◌, ◌≢◌, ℕ, ◌*◌, ◌<◌, ◌≤◌, true, false, List, length, map, set, get_or, sym, refl, ap, ◌∙◌, subst, arith, get_or-set_other, length-set}
use Rattle.std.specs.Prelude.{Option, None, Some}
use Rattle.std.proofs.lemmas.Grind.{get_or-set_at}
use mathlib.Core.Logic.{dite}
use native.Mathlib.Decide.{ℕ_discrete}
use Rattle.board.specs.Flags.{is_up, Tracks}
use Rattle.board.specs.Views.{is_known}
use Rattle.std.proofs.lemmas.List.{length-map}
use Rattle.board.proofs.Backed.{none_at}

module _ {V : Type 0} where
  -- the flag of n is raised where its value is learned
  pub tracks_more : (flags flags' : List ℕ) (known : List (Option V)) (n : ℕ) (v : V) → Tracks flags known → n < length known → length flags' ≡ length flags → is_up flags' n ≡ true
      → ((k : ℕ) → k ≢ n → is_up flags' k ≡ is_up flags k) → Tracks flags' (set known n (Some v))
  tracks_more flags flags' known n v t lt size up others = record {
    room = let a = t.room in let b = length-set known n (Some v) in omega arith;
    same = λ k l. dite (ℕ_discrete k n)
        (λ e. ap (is_up flags') e ∙ up ∙ sym (ap is_known (ap (λ (i : ℕ). get_or (set known n (Some v)) i None) e ∙ get_or-set_at known n n (Some v) None refl lt)))
        (λ ne. let b = length-set known n (Some v) in others k ne ∙ t.same k (omega arith) ∙ sym (ap is_known (get_or-set_other known n k (Some v) None ne)));
  }

  pub tracks_none : {X : Type 0} (flags : List ℕ) (known : List (Option V)) (xs : List X) → known ≡ map (λ _. None) xs → length xs ≤ 64 * length flags → ((n : ℕ) → is_up flags n ≡ false) → Tracks flags known
  tracks_none flags known xs e room down = subst (Tracks flags) (sym e) (record {
    room = let a : length (map (λ _. nothing) xs) ≡ length xs = simp length-map in omega arith;
    same = λ n lt. down n ∙ sym (ap is_known (none_at xs n));
  })
    where
      nothing : Option V
      nothing = None
