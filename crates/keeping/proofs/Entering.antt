-- What stands in the slots of a function that is entered.
use Rattle.std.proofs.Common.{ℕ, zero, suc, Bool, true, false, List, [], ◌∷◌, ◌++◌, length, map, if◌then◌else◌, bytes_eq}
use Rattle.std.specs.Prelude.{◌-◌, Option, Some, None, option_map, replicate}
use Rattle.std.specs.Map.{lookup}
use Rattle.program_tree.specs.Names.{Name, or_else}
use Rattle.meaning.specs.Operations.{Arguments}
use Rattle.meaning.specs.Outcome.{Slots}
use Rattle.meaning.specs.Entry.{before_all, is_named, filled, defaults_of, all_known, entry}
use Rattle.keeping.specs.Kept.{Kept, goods, named_goods, good_slot, good_slots, good_arguments}

module _ {S V : Type 0} (r : Kept S V) (k : r.World) where
  abbrev pub good_entry : Option (Slots V) → Type 0
  good_entry None = Unit {0}
  good_entry (Some l) = good_slots r k l

  pub empty_slots : (n : ℕ) → good_slots r k (replicate n None)
  empty_slots zero = tt
  empty_slots (suc n) = (tt, empty_slots n)

  slots_behind : (l m : Slots V) → good_slots r k l → good_slots r k m → good_slots r k (l ++ m)
  slots_behind [] m h g = g
  slots_behind (o ∷ l) m h g = (h.0, slots_behind l m h.1 g)

  given_slots : (vs : List V) → goods r k vs → good_slots r k (map Some vs)
  given_slots [] h = tt
  given_slots (v ∷ vs) h = (h.0, given_slots vs h.1)

  before_good : (o : Option V) (rest : Option (Slots V)) → good_slot r k o → good_entry rest → good_entry (before_all o rest)
  before_good None rest h g = tt
  before_good (Some v) None h g = tt
  before_good (Some v) (Some l) h g = (h, g)

  if_entry : (t : Bool) (a b : Option (Slots V)) → good_entry a → good_entry b → good_entry (if t then a else b)
  if_entry true a b h g = h
  if_entry false a b h g = g

  if_slot : (t : Bool) (a b : Option V) → good_slot r k a → good_slot r k b → good_slot r k (if t then a else b)
  if_slot true a b h g = h
  if_slot false a b h g = g

  named_good : (p : Name) (ps : List (Name × V)) → named_goods r k ps → good_slot r k (lookup (bytes_eq p) ps)
  named_good p [] h = tt
  named_good p (e ∷ ps) h = if_slot (bytes_eq p e.0) (Some e.1) (lookup (bytes_eq p) ps) h.0 (named_good p ps h.1)

  or_good : (a b : Option V) → good_slot r k a → good_slot r k b → good_slot r k (or_else a b)
  or_good None b h g = g
  or_good (Some v) b h g = h

  filled_good : (ps : List Name) (vs : List V) (named : List (Name × V)) (ds : List (Option V)) → goods r k vs → named_goods r k named → good_slots r k ds → good_entry (filled ps vs named ds)
  filled_good [] [] named ds hv hn hd = tt
  filled_good [] (v ∷ vs) named ds hv hn hd = tt
  filled_good (p ∷ ps) [] named [] hv hn hd = tt
  filled_good (p ∷ ps) (v ∷ vs) named [] hv hn hd = tt
  filled_good (p ∷ ps) (v ∷ vs) named (d ∷ ds) hv hn hd =
      if_entry (is_named p named) None (before_all (Some v) (filled ps vs named ds)) tt (before_good (Some v) (filled ps vs named ds) hv.0 (filled_good ps vs named ds hv.1 hn hd.1))
  filled_good (p ∷ ps) [] named (d ∷ ds) hv hn hd =
      before_good (or_else (lookup (bytes_eq p) named) d) (filled ps [] named ds) (or_good (lookup (bytes_eq p) named) d (named_good p named hn) hd.0) (filled_good ps [] named ds tt hn hd.1)

  with_more : (n : ℕ) (o : Option (Slots V)) → good_entry o → good_entry (option_map (λ l. l ++ replicate n None) o)
  with_more n None h = tt
  with_more n (Some l) h = slots_behind l (replicate n None) h (empty_slots n)

  pub entry_good : (params : List Name) (slots : ℕ) (defaults : List V) (given : Arguments V) → goods r k defaults → good_arguments r k given → good_entry (entry params slots defaults given)
  unfolding entry
  entry_good params slots defaults given hd hg =
      if_entry (all_known params given.named) (option_map (λ l. l ++ replicate (slots - length params) None) (filled params given.items given.named (defaults_of params defaults))) None
      (with_more (slots - length params) (filled params given.items given.named (defaults_of params defaults))
      (filled_good params given.items given.named (defaults_of params defaults) hg.0 hg.1
      (slots_behind (replicate (length params - length defaults) None) (map Some defaults) (empty_slots (length params - length defaults)) (given_slots defaults hd)))) tt
