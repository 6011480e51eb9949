-- Rows by computation.
use Rattle.std.specs.Prelude.{◌≡◌, pos, negsuc, [], ◌∷◌, Ok, Err, Some, None, refl, codes, true, false}
use Rattle.strings.specs.declared.errors.StringError.TheVariants.{EmptySeparator, Index}
use Rattle.strings.specs.Affixes.{begins, ends}
use Rattle.strings.specs.Indexes.{item_of}
use Rattle.strings.specs.Joining.{join_of}
use Rattle.strings.specs.Parts.{is_part, first_place}
use Rattle.strings.specs.Splitting.{split_of}
use Rattle.strings.specs.Texts.{is_text, sum_of}

-- "a,,b".split(",")
commas : split_of (codes ",") (codes "a,,b") ≡ Ok (codes "a" ∷ [] ∷ codes "b" ∷ [])
commas = refl

-- "aaa".split("aa")
from_the_left : split_of (codes "aa") (codes "aaa") ≡ Ok ([] ∷ codes "a" ∷ [])
from_the_left = refl

-- "".split(",")
of_nothing : split_of (codes ",") [] ≡ Ok ([] ∷ [])
of_nothing = refl

-- "one two  three".split(" ")
words : split_of (codes " ") (codes "one two  three") ≡ Ok (codes "one" ∷ codes "two" ∷ [] ∷ codes "three" ∷ [])
words = refl

-- "ab".split("")
by_nothing : split_of [] (codes "ab") ≡ Err EmptySeparator
by_nothing = refl

-- "banana".split("n") and "banana".split("x")
letters : split_of (codes "n") (codes "banana") ≡ Ok (codes "ba" ∷ codes "a" ∷ codes "a" ∷ [])
letters = refl

whole : split_of (codes "x") (codes "banana") ≡ Ok (codes "banana" ∷ [])
whole = refl

-- ", ".join(["one", "two", "three"]) and "a".join("ctmrn".elems())
commas_between : join_of (codes ", ") (codes "one" ∷ codes "two" ∷ codes "three" ∷ []) ≡ Ok (codes "one, two, three")
commas_between = refl

a_between : join_of (codes "a") (codes "c" ∷ codes "t" ∷ codes "m" ∷ codes "r" ∷ codes "n" ∷ []) ≡ Ok (codes "catamaran")
a_between = refl

one_alone : join_of (codes ", ") (codes "one" ∷ []) ≡ Ok (codes "one")
one_alone = refl

none_joined : join_of (codes ", ") [] ≡ Ok []
none_joined = refl

-- "" in "" and "a" in ""
nothing_in_nothing : is_part [] [] ≡ true
nothing_in_nothing = refl

a_in_nothing : is_part (codes "a") [] ≡ false
a_in_nothing = refl

-- "nasty" in "dynasty", "a" in "banana", "f" not in "way"
in_dynasty : is_part (codes "nasty") (codes "dynasty") ≡ true
in_dynasty = refl

in_banana : is_part (codes "a") (codes "banana") ≡ true
in_banana = refl

not_in_way : is_part (codes "f") (codes "way") ≡ false
not_in_way = refl

second : first_place (codes "an") (codes "banana") ≡ Some 1
second = refl

nowhere : first_place (codes "nab") (codes "banana") ≡ None
nowhere = refl

-- "filename.sky".endswith(".sky"), "bc".endswith("abc")
ending : ends (codes ".sky") (codes "filename.sky") ≡ true
ending = refl

too_long : ends (codes "abc") (codes "bc") ≡ false
too_long = refl

ends_with_nothing : ends [] (codes "bc") ≡ true
ends_with_nothing = refl

-- "filename.sky".startswith("filename")
front : begins (codes "filename") (codes "filename.sky") ≡ true
front = refl

longer_front : begins (codes "filename.sky.") (codes "filename.sky") ≡ false
longer_front = refl

-- "two"[0], "two"[-1], "two"[3]
first : item_of (codes "two") (pos 0) ≡ Ok (codes "t")
first = refl

last : item_of (codes "two") (negsuc 0) ≡ Ok (codes "o")
last = refl

past : item_of (codes "two") (pos 3) ≡ Err Index
past = refl

one_behind : sum_of (codes "one") (codes "two") ≡ Ok (codes "onetwo")
one_behind = refl

ascii : is_text (codes "\n~") ≡ true
ascii = refl

umlaut : is_text (195 ∷ 164 ∷ []) ≡ false
umlaut = refl
