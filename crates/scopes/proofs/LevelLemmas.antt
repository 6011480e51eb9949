-- The slots of names, as levels are entered and left.
use Rattle.std.proofs.Common.{◌≡◌, ℕ, suc, ◌+◌, ◌<◌, ◌≤◌, Bool, true, false, ◌||◌, List, [], ◌∷◌, ◌++◌, drop, length, map, take, Option, Some, None, refl, sym, ap, ◌∙◌, subst, arith, if◌then◌else◌}
use Rattle.std.specs.Prelude.{bytes_eq, cond, is_some, option_map, position, IfSome}
use Rattle.std.specs.Cmp.Lexicographic.{nat_list_eq_equiv}
use Rattle.std.specs.List.{position_or_len}
use Rattle.std.specs.Option.{option_flatten}
use Rattle.std.specs.Map.{lookup, set_value}
use Rattle.std.proofs.lemmas.Bool.{lt-ltb}
use Rattle.std.proofs.lemmas.List.{length-drop, length-take-le}
use Rattle.std.proofs.lemmas.List.Folds.{list_any-append, list_any_at}
use Rattle.std.proofs.lemmas.List.Quantifiers.{position-Some}
use Rattle.std.proofs.lemmas.List.Recursion.{is_position_or_len}
use Rattle.std.proofs.lemmas.Map.{lookup-set_value}
use Rattle.indexmap.specs.IndexSet.{insert_key}
use Rattle.program_tree.specs.Names.{Name, among, or_else, slot_of, width}
use Rattle.scopes.specs.ScopeView.{AllKnowAround, AreLevel, HasSlots, IsCut, KnowsAround, found, names_in, parts}
use Rattle.scopes.specs.declared.levels.BoundName.{BoundName}
use Rattle.file_syntax.proofs.NamePlaces.{before_it, counted, has_place, not_both, same, same_name, slot_within}

neither : (a b : Bool) → (a || b) ≡ false → (a ≡ false) × (b ≡ false)
neither true b h = absurd cc
neither false b h = (refl, h)

turned : (x y : Name) → bytes_eq x y ≡ bytes_eq y x
turned x y = nat_list_eq_equiv.symm x y

no_place : (x : Name) (xs : List Name) → among x xs ≡ false → position (bytes_eq x) xs ≡ None
no_place x xs h = by (position (bytes_eq x) xs) refl
  where
    by : (o : Option ℕ) → position (bytes_eq x) xs ≡ o → position (bytes_eq x) xs ≡ None
    by None e = e
    by (Some k) e =
        let p = position-Some (bytes_eq x) xs k [] e in
        not_both (among x xs) (list_any_at (bytes_eq x) xs k [] p.0 p.1) h

-- a name that the innermost level lacks has the slot that it has around that
outside : (x : Name) (l : List Name) (ls : List (List Name)) → among x l ≡ false → slot_of x (l ∷ ls) ≡ slot_of x ls
outside x l ls h = ap (λ o. or_else (option_map (λ n. width ls + n) o) (slot_of x ls)) (no_place x l h)

second_none : (a b : Option ℕ) → or_else a b ≡ None → b ≡ None
second_none None b h = h
second_none (Some n) b h = absurd cc

pub none_set : (t : Name → Bool) (w : Option ℕ) (es : List (Name × Option ℕ)) → lookup t es ≡ None → set_value t es w ≡ es
none_set t w [] h = refl
none_set t w (e ∷ es) h = by (none_set t w es) (t e.0) refl
  where
    by : (lookup t es ≡ None → set_value t es w ≡ es) → (b : Bool) → t e.0 ≡ b → set_value t (e ∷ es) w ≡ e ∷ es
    by ih true s =
        let k : Some e.1 ≡ None = sym (ap (λ b. cond b (Some e.1) (lookup t es)) s) ∙ h in
        absurd cc
    by ih false s =
        ap (λ b. cond b ((e.0, w) ∷ es) (e ∷ set_value t es w)) s
        ∙ ap (λ fs. e ∷ fs) (ih (sym (ap (λ b. cond b (Some e.1) (lookup t es)) s) ∙ h))

-- what a map has for each name, where one was given a slot
abbrev pub Puts : List (Name × Option ℕ) → Name → Option ℕ → List (Name × Option ℕ) → Type 0
Puts es y o fs = (x : Name) → lookup (bytes_eq x) fs ≡ cond (bytes_eq y x) (Some o) (lookup (bytes_eq x) es)

found_put : (es : List (Name × Option ℕ)) (y : Name) (o : Option ℕ) (fs : List (Name × Option ℕ)) → Puts es y o fs
    → (x : Name) → found x fs ≡ cond (bytes_eq y x) o (found x es)
found_put es y o fs p x = ap option_flatten (p x) ∙ by (bytes_eq y x)
  where
    by : (s : Bool) → option_flatten (cond s (Some o) (lookup (bytes_eq x) es)) ≡ cond s o (found x es)
    by true = refl
    by false = refl

set_puts : (es : List (Name × Option ℕ)) (y : Name) (o v : Option ℕ) → lookup (bytes_eq y) es ≡ Some v → Puts es y o (set_value (bytes_eq y) es o)
set_puts es y o v e x = lookup-set_value nat_list_eq_equiv (bytes_eq y) (λ w z p. nat_list_eq_equiv.congr y w z p) x o es (ap is_some e)

-- a level of which these names are left to be given the slots that they have around it
abbrev pub IsLeft : List BoundName → List (Name × Option ℕ) → List (List Name) → Type 0
IsLeft bs es ls = KnowsAround bs ls
    × ((x : Name) → (among x (names_in bs) ≡ false → found x es ≡ slot_of x ls) × (lookup (bytes_eq x) es ≡ None → slot_of x ls ≡ None))

pub all_left : (es : List (Name × Option ℕ)) (bs : List BoundName) (ls : List (List Name)) → AreLevel es bs ls → IsLeft bs es ls
all_left es bs ls h = (
  h.1,
  λ x. (
    λ n. h.0 x ∙ outside x (names_in bs) ls n,
    λ n. second_none (option_map (λ n. width ls + n) (position (bytes_eq x) (names_in bs))) (slot_of x ls) (sym (h.0 x) ∙ ap option_flatten n),
  ),
)

pub one_left : (b : BoundName) (bs : List BoundName) (es : List (Name × Option ℕ)) (ls : List (List Name)) → IsLeft (b ∷ bs) es ls
    → IsLeft bs (set_value (bytes_eq b.name) es b.around) ls
one_left b bs es ls h = by (lookup (bytes_eq b.name) es) refl
  where
    beside : (x : Name) → among x (names_in bs) ≡ false → bytes_eq b.name x ≡ false → found x es ≡ slot_of x ls
    beside x n s = (h.1 x).0 (ap (λ c. c || among x (names_in bs)) (turned x b.name ∙ s) ∙ n)

    absent : lookup (bytes_eq b.name) es ≡ None → (x : Name) → among x (names_in bs) ≡ false → (s : Bool) → bytes_eq b.name x ≡ s → found x es ≡ slot_of x ls
    absent e x n true s =
        let k : lookup (bytes_eq x) es ≡ None = subst (λ z. lookup (bytes_eq z) es ≡ None) (same_name b.name x s) e in
        ap option_flatten k ∙ sym ((h.1 x).1 k)
    absent e x n false s = beside x n s

    given : (x : Name) → among x (names_in bs) ≡ false → (s : Bool) → bytes_eq b.name x ≡ s → cond (bytes_eq b.name x) b.around (found x es) ≡ slot_of x ls
    given x n true s = ap (λ c. cond c b.around (found x es)) s ∙ h.0.0 ∙ ap (λ z. slot_of z ls) (same_name b.name x s)
    given x n false s = ap (λ c. cond c b.around (found x es)) s ∙ beside x n s

    kept : (x : Name) → (s : Bool) → bytes_eq b.name x ≡ s → cond (bytes_eq b.name x) (Some b.around) (lookup (bytes_eq x) es) ≡ None → slot_of x ls ≡ None
    kept x true s n =
        let k : Some b.around ≡ None = sym (ap (λ c. cond c (Some b.around) (lookup (bytes_eq x) es)) s) ∙ n in
        absurd cc
    kept x false s n = (h.1 x).1 (sym (ap (λ c. cond c (Some b.around) (lookup (bytes_eq x) es)) s) ∙ n)

    by : (o : Option (Option ℕ)) → lookup (bytes_eq b.name) es ≡ o → IsLeft bs (set_value (bytes_eq b.name) es b.around) ls
    by None e =
        subst (λ fs. IsLeft bs fs ls) (sym (none_set (bytes_eq b.name) b.around es e)) (h.0.1, λ x. (λ n. absent e x n (bytes_eq b.name x) refl, (h.1 x).1))
    by (Some v) e =
        let p = set_puts es b.name b.around v e in (
          h.0.1,
          λ x. (
            λ n. found_put es b.name b.around (set_value (bytes_eq b.name) es b.around) p x ∙ given x n (bytes_eq b.name x) refl,
            λ n. kept x (bytes_eq b.name x) refl (sym (p x) ∙ n),
          ),
        )

pub none_left : (es : List (Name × Option ℕ)) (ls : List (List Name)) → IsLeft [] es ls → HasSlots es ls
none_left es ls h = λ x. (h.1 x).0 refl

-- whether a level has a name, by the slot that the name has
not_there : (y : Name) (l : List Name) (ls : List (List Name)) (o : Option ℕ) → slot_of y (l ∷ ls) ≡ o → IfSome o (λ s. s < width ls) → among y l ≡ false
not_there y l ls o e h = by (among y l) refl
  where
    by : (b : Bool) → among y l ≡ b → among y l ≡ false
    by false a = a
    by true a =
        let p = has_place y l a in
        let q : Some (width ls + p.0) ≡ o = sym (ap (λ r. or_else (option_map (λ n. width ls + n) r) (slot_of y ls)) p.1) ∙ e in
        let k : width ls + p.0 < width ls = subst (λ r. IfSome r (λ s. s < width ls)) (sym q) h in
        absurd (omega (arith, k))

there : (y : Name) (l : List Name) (ls : List (List Name)) (s : ℕ) → slot_of y (l ∷ ls) ≡ Some s → width ls ≤ s → among y l ≡ true
there y l ls s e h = by (among y l) refl
  where
    by : (b : Bool) → among y l ≡ b → among y l ≡ true
    by true a = a
    by false a =
        let k = slot_within y ls s (sym (outside y l ls a) ∙ e) in
        absurd (omega (arith, k, h))

no_slots : (x : Name) (ls : List (List Name)) → width ls ≡ 0 → slot_of x ls ≡ None
no_slots x ls h = by (slot_of x ls) refl
  where
    by : (o : Option ℕ) → slot_of x ls ≡ o → slot_of x ls ≡ None
    by None e = e
    by (Some k) e = let w = slot_within x ls k e in absurd (omega (arith, h, w))

named : (bs : List BoundName) → length (names_in bs) ≡ length bs
named [] = refl
named (c ∷ bs) = ap suc (named bs)

-- there are as many slots as names that are bound
pub width_cut : (ns : List ℕ) (bs : List BoundName) → IsCut ns bs → width (map names_in (parts ns bs)) ≡ length bs
width_cut [] bs h = sym (ap length h)
width_cut (n ∷ ns) bs h =
    let outside : width (map names_in (parts ns (take n bs))) ≡ length (take n bs) = width_cut ns (take n bs) h.1 in
    omega (arith, outside, named (drop n bs), length-take-le n bs h.0, length-drop n bs, h.0)

-- where none is bound
pub none_bound : (x : Name) (ns : List ℕ) (bs : List BoundName) → IsCut ns bs → length bs ≡ 0 → slot_of x (map names_in (parts ns bs)) ≡ None
none_bound x ns bs h e = no_slots x (map names_in (parts ns bs)) (width_cut ns bs h ∙ e)

-- bound names that are cut at these places, with the slots that they have, are these levels
pub record IsLevels (ns : List ℕ) (bs : List BoundName) (es : List (Name × Option ℕ)) (ls : List (List Name)) : Type 0 where
  pub cut : IsCut ns bs
  pub slots : HasSlots es ls
  pub around : AllKnowAround (parts ns bs)
  pub names : map names_in (parts ns bs) ≡ ls

-- and so they are with a level more
pub level_added : (ns : List ℕ) (bs cs : List BoundName) (fs : List (Name × Option ℕ)) (xs : List Name) (ls : List (List Name)) → IsCut ns bs
    → AllKnowAround (parts ns bs) → map names_in (parts ns bs) ≡ ls → names_in (drop (length bs) cs) ≡ xs → AreLevel fs (drop (length bs) cs) ls
    → take (length bs) cs ≡ bs → length bs ≤ length cs → IsLevels (length bs ∷ ns) cs fs (xs ∷ ls)
level_added ns bs cs fs xs ls cut around names e level front fits =
    record {
      cut = (fits, subst (IsCut ns) (sym front) cut);
      slots = subst (λ l. HasSlots fs (l ∷ ls)) e level.0;
      around = (
        subst (KnowsAround (drop (length bs) cs)) (sym same) level.1,
        subst (λ ds. AllKnowAround (parts ns ds)) (sym front) around,
      );
      names = ap (λ l. l ∷ map names_in (parts ns (take (length bs) cs))) e ∙ ap (λ ks. xs ∷ ks) same;
    }
  where
    same : map names_in (parts ns (take (length bs) cs)) ≡ ls
    same = ap (λ ds. map names_in (parts ns ds)) front ∙ names

-- places among names and one more
longer : (l : List Name) (y : Name) → length (l ++ y ∷ []) ≡ suc (length l)
longer [] y = refl
longer (z ∷ zs) y = ap suc (longer zs y)

placed : (x : Name) (l : List Name) (k : ℕ) → before_it x l ≡ k → k < length l → position (bytes_eq x) l ≡ Some k
placed x l k e h =
    let q : position_or_len (bytes_eq x) l ≡ k = sym (is_position_or_len (before_it x) (bytes_eq x) refl (λ y ys. refl) l) ∙ e in
    let lt : position_or_len (bytes_eq x) l < length l = subst (λ n. n < length l) (sym q) h in
    ap (λ b. if b then Some (position_or_len (bytes_eq x) l) else None) (lt-ltb _ _ lt) ∙ ap Some q

before_kept : (x y : Name) (l : List Name) → among x l ≡ true → before_it x (l ++ y ∷ []) ≡ before_it x l
before_kept x y [] h = absurd cc
before_kept x y (z ∷ zs) h = by (before_kept x y zs) (bytes_eq x z) refl
  where
    by : (among x zs ≡ true → before_it x (zs ++ y ∷ []) ≡ before_it x zs) → (b : Bool) → bytes_eq x z ≡ b → before_it x ((z ∷ zs) ++ y ∷ []) ≡ before_it x (z ∷ zs)
    by ih true e =
        ap (λ t. if t then 0 else 1 + before_it x (zs ++ y ∷ [])) e
        ∙ sym (ap (λ t. if t then 0 else 1 + before_it x zs) e)
    by ih false e = ap (λ n. if bytes_eq x z then 0 else 1 + n) (ih (sym (ap (λ t. t || among x zs) e) ∙ h))

before_last : (x y : Name) (l : List Name) → among x l ≡ false → bytes_eq x y ≡ true → before_it x (l ++ y ∷ []) ≡ length l
before_last x y [] h e = ap (λ t. if t then 0 else 1) e
before_last x y (z ∷ zs) h e =
    let n = neither (bytes_eq x z) (among x zs) h in
    let i = before_last x y zs n.1 e in
    subst (λ t. (if t then 0 else 1 + before_it x (zs ++ y ∷ [])) ≡ suc (length zs)) (sym n.0) (omega (arith, i))

-- the slots of names inside of a level with one name more
slot_pushed : (x y : Name) (l : List Name) (ls : List (List Name)) (n : ℕ) → among y l ≡ false → n ≡ width ls + length l
    → slot_of x ((l ++ y ∷ []) ∷ ls) ≡ cond (bytes_eq y x) (Some n) (slot_of x (l ∷ ls))
slot_pushed x y l ls n a w = by (among x l) refl (bytes_eq y x) refl
  where
    by : (b : Bool) → among x l ≡ b → (s : Bool) → bytes_eq y x ≡ s → slot_of x ((l ++ y ∷ []) ∷ ls) ≡ cond (bytes_eq y x) (Some n) (slot_of x (l ∷ ls))
    by true b true s = not_both (among y l) (subst (λ z. among z l ≡ true) (sym (same_name y x s)) b) a
    by true b false s =
        let k = counted x l b in
        let lt : before_it x l < length (l ++ y ∷ []) = omega (arith, k, longer l y) in
        ap (λ o. or_else (option_map (λ n. width ls + n) o) (slot_of x ls)) (placed x (l ++ y ∷ []) (before_it x l) (before_kept x y l b) lt ∙ sym (placed x l (before_it x l) refl k))
        ∙ sym (ap (λ c. cond c (Some n) (slot_of x (l ∷ ls))) s)
    by false b true s =
        let lt : length l < length (l ++ y ∷ []) = omega (arith, longer l y) in
        ap (λ o. or_else (option_map (λ n. width ls + n) o) (slot_of x ls)) (placed x (l ++ y ∷ []) (length l) (before_last x y l b (turned x y ∙ s)) lt)
        ∙ ap Some (sym w)
        ∙ sym (ap (λ c. cond c (Some n) (slot_of x (l ∷ ls))) s)
    by false b false s =
        let lacks : among x (l ++ y ∷ []) ≡ false =
        list_any-append (bytes_eq x) l (y ∷ []) ∙ ap (λ c. c || among x (y ∷ [])) b ∙ ap (λ c. c || false) (turned x y ∙ s) in
        outside x (l ++ y ∷ []) ls lacks
        ∙ sym (outside x l ls b)
        ∙ sym (ap (λ c. cond c (Some n) (slot_of x (l ∷ ls))) s)

names_pushed : (bs : List BoundName) (b : BoundName) → names_in (bs ++ b ∷ []) ≡ names_in bs ++ b.name ∷ []
names_pushed [] b = refl
names_pushed (c ∷ bs) b = ap (λ l. c.name ∷ l) (names_pushed bs b)

knows_pushed : (bs : List BoundName) (b : BoundName) (ls : List (List Name)) → KnowsAround bs ls → b.around ≡ slot_of b.name ls → KnowsAround (bs ++ b ∷ []) ls
knows_pushed [] b ls h e = (e, tt)
knows_pushed (c ∷ bs) b ls h e = (h.0, knows_pushed bs b ls h.1 e)

-- a name that is new in the level
pub bound_new : (es fs : List (Name × Option ℕ)) (bs : List BoundName) (y : Name) (n : ℕ) (o : Option ℕ) (ls : List (List Name)) → Puts es y (Some n) fs
    → n ≡ width ls + length bs → found y es ≡ o → IfSome o (λ s. s < width ls) → AreLevel es bs ls
    → (names_in (bs ++ record { name = y; around = o } ∷ []) ≡ insert_key bytes_eq (names_in bs) y) × AreLevel fs (bs ++ record { name = y; around = o } ∷ []) ls
bound_new es fs bs y n o ls p w f i h =
    let b : BoundName = record { name = y; around = o } in
    let l = names_in bs in
    let s : slot_of y (l ∷ ls) ≡ o = sym (h.0 y) ∙ f in
    let a = not_there y l ls o s i in
    let e = names_pushed bs b in
    let m : n ≡ width ls + length l = omega (arith, w, named bs) in (
      e ∙ sym (ap (λ c. if c then l else l ++ y ∷ []) a),
      (
        λ x.
            found_put es y (Some n) fs p x
            ∙ ap (cond (bytes_eq y x) (Some n)) (h.0 x)
            ∙ sym (slot_pushed x y l ls n a m)
            ∙ ap (λ k. slot_of x (k ∷ ls)) (sym e),
        knows_pushed bs b ls h.1 (sym s ∙ outside y l ls a),
      ),
    )

-- and one that the level had, which gets its slot again
pub bound_again : (es fs : List (Name × Option ℕ)) (bs : List BoundName) (y : Name) (n s : ℕ) (ls : List (List Name)) → Puts es y (Some n) fs
    → found y es ≡ Some s → width ls ≤ s → AreLevel es bs ls
    → (names_in bs ≡ insert_key bytes_eq (names_in bs) y) × AreLevel (set_value (bytes_eq y) fs (Some s)) bs ls
bound_again es fs bs y n s ls p f w h =
    let l = names_in bs in (
      sym (ap (λ c. if c then l else l ++ y ∷ []) (there y l ls s (sym (h.0 y) ∙ f) w)),
      (λ x. found_put fs y (Some s) gs again x ∙ by x (bytes_eq y x) refl ∙ h.0 x, h.1),
    )
  where
    gs : List (Name × Option ℕ)
    gs = set_value (bytes_eq y) fs (Some s)

    again : Puts fs y (Some s) gs
    again = set_puts fs y (Some s) (Some n) (p y ∙ ap (λ c. cond c (Some (Some n)) (lookup (bytes_eq y) es)) (same y))

    by : (x : Name) (t : Bool) → bytes_eq y x ≡ t → cond (bytes_eq y x) (Some s) (found x fs) ≡ found x es
    by x true t = ap (λ c. cond c (Some s) (found x fs)) t ∙ sym f ∙ ap (λ z. found z es) (same_name y x t)
    by x false t =
        ap (λ c. cond c (Some s) (found x fs)) t
        ∙ found_put es y (Some n) fs p x
        ∙ ap (λ c. cond c (Some n) (found x es)) t
