-- Lines of items.
use Rattle.std.proofs.Common.{lit<, ◌≤◌, arith, ◌≡◌, ℕ, Bool, true, false, not, cond, ◌&&◌, List, [], ◌∷◌, length, map, drop, Result, Ok, Err, Some, None, refl, sym, ap, subst, ◌∙◌, slice_index_or, ◌||◌, ◌^◌, ◌<◌, nat_le, codes}
use Rattle.std.specs.Global.{Vec}
use Rattle.std.specs.List.{list_all, slice_split, onto_first, AllByRecursion}
use Rattle.std.specs.Int.{is_in_range as is_between}
use Rattle.std.proofs.lemmas.Bool.{and_parts}
use Rattle.std.proofs.lemmas.Bool.Decides.{nat_tests}
use Rattle.bus_text.specs.Fields.{is_at}
use Rattle.bus_text.specs.inside.Gives.{LineFails}
use Rattle.bus_text.specs.Numbers.{is_plain_decimal, decimal_value, is_hexadecimal}
use Rattle.bus_text.proofs.NumberLaws.{is_in_range-min, hexadecimal_value-lt}
use Rattle.bus_text.specs.Refusals.{first_of, unless}
use Rattle.bus_text.specs.declared.fault.LineFault.{LineFault}
use Rattle.bus_text.specs.declared.fault.LineFault.TheVariants as line
use Rattle.bus_text.specs.declared.reason.Reason.{Reason}
use Rattle.bus_text.specs.declared.reason.Reason.TheVariants.{Keyword, Fields, Spelling, Range}
use Rattle.bus_strings.specs.Items.{Item, numbers, is_in_range, IsItem}
use Rattle.bus_strings.specs.Reading.{is_colon, number_of, are_spelled, strings_of, item_of, HasFront, item_reading}
use Rattle.bus_strings.proofs.StringLemmas.{values}

list_all-map : {X Y : Type 0} (h : X → Y) (p : Y → Bool) (xs : List X) → list_all p (map h xs) ≡ list_all (λ x. p (h x)) xs
list_all-map h p [] = refl
list_all-map h p (x ∷ xs) = ap (λ b. p (h x) && b) (list_all-map h p xs)

pub short_is : (strings : List (Vec ℕ)) → list_all (λ v. nat_le (length v.items) 256) strings ≡ list_all (λ s. nat_le (length s) 256) (numbers strings)
short_is strings = sym (list_all-map (λ v. v.items) (λ s. nat_le (length s) 256) strings)

-- the four tests of an item's line, in order
abbrev pub staged : Bool → Bool → Bool → Bool → Item → Result Item Reason
staged a b c d item = unless (first_of ((not a, Keyword) ∷ (not b, Fields) ∷ (not c, Spelling) ∷ (not d, Range) ∷ [])) item

stages : (a b c d a' b' c' d' : Bool) (item : Item) → a ≡ a' → b ≡ b' → c ≡ c' → d ≡ d' → staged a b c d item ≡ staged a' b' c' d' item
stages a b c d a' b' c' d' item p q r s = ap (λ x. staged x b c d item) p ∙ ap (λ x. staged a' x c d item) q ∙ ap (λ x. staged a' b' x d item) r ∙ ap (λ x. staged a' b' c' x item) s

pub reads : (fields : List (List ℕ)) (a b c d : Bool) → is_at fields 0 (codes "MSG") ≡ a → is_at fields 2 (codes ":") ≡ b → (is_plain_decimal (number_of fields) && are_spelled (drop 3 fields)) ≡ c → is_in_range (item_of fields) ≡ d
    → item_reading fields ≡ staged a b c d (item_of fields)
unfolding item_reading
reads fields a b c d p q r s = stages _ _ _ _ a b c d (item_of fields) p q r s

pub keyword_refused : (fields : List (List ℕ)) → is_at fields 0 (codes "MSG") ≡ false → item_reading fields ≡ Err Keyword
keyword_refused fields p = reads fields false _ _ _ p refl refl refl

pub fields_refused : (fields : List (List ℕ)) → is_at fields 0 (codes "MSG") ≡ true → is_at fields 2 (codes ":") ≡ false → item_reading fields ≡ Err Fields
fields_refused fields p q = reads fields true false _ _ p q refl refl

pub decimal_refused : (fields : List (List ℕ)) → is_at fields 0 (codes "MSG") ≡ true → is_at fields 2 (codes ":") ≡ true → is_plain_decimal (number_of fields) ≡ false → item_reading fields ≡ Err Spelling
decimal_refused fields p q r = reads fields true true false _ p q (ap (λ b. b && are_spelled (drop 3 fields)) r) refl

err_if : {A : Type 0} (t : Bool) (x : A) (r s : Reason) → cond t (Ok x) (Err r) ≡ Err s → (t ≡ false) × (r ≡ s)
err_if true x r s h = absurd cc
err_if false x r s h = (refl, cc)

ok_if : {A : Type 0} (t : Bool) (x y : A) (r : Reason) → cond t (Ok x) (Err r) ≡ Ok y → (t ≡ true) × (x ≡ y)
ok_if true x y r h = (refl, cc)
ok_if false x y r h = absurd cc

spelled : (fields : List (List ℕ)) (b : Bool) → is_plain_decimal (number_of fields) ≡ true → are_spelled (drop 3 fields) ≡ b → (is_plain_decimal (number_of fields) && are_spelled (drop 3 fields)) ≡ b
spelled fields b p q = ap (λ x. x && are_spelled (drop 3 fields)) p ∙ q

pub words_refused : (fields : List (List ℕ)) (terminal : ℕ) (e : LineFault Reason) → HasFront fields terminal → LineFails e (cond (are_spelled (drop 3 fields)) (Ok (strings_of (drop 3 fields))) (Err Spelling)) → LineFails e (item_reading fields)
words_refused fields terminal line.Memory f h = tt
words_refused fields terminal (line.Refused reason) f h =
    let k = err_if (are_spelled (drop 3 fields)) (strings_of (drop 3 fields)) Spelling reason h in
    reads fields true true false _ f.keyword f.colon (spelled fields false f.plain k.0) refl ∙ ap Err k.1

small : (n : ℕ) → is_between 1 128 n ≡ true → n ≤ 128
small n h = grind (arith, nat_tests)

-- the item, as far as its number has room
pub item_is : (fields : List (List ℕ)) (n : ℕ) (strings : List (List ℕ)) (b : Bool) → HasFront fields n → cond (are_spelled (drop 3 fields)) (Ok (strings_of (drop 3 fields))) (Err Spelling) ≡ Ok strings → is_in_range (record { terminal = n; strings = strings }) ≡ b
    → item_reading fields ≡ cond b (Ok (record { terminal = n; strings = strings })) (Err Range)
item_is fields n strings b f h s = by_test b s where
  k : (are_spelled (drop 3 fields) ≡ true) × (strings_of (drop 3 fields) ≡ strings)
  k = ok_if (are_spelled (drop 3 fields)) (strings_of (drop 3 fields)) strings Spelling h

  same : is_in_range (item_of fields) ≡ is_in_range (record { terminal = n; strings = strings })
  same =
      ap (λ b. b && (is_between 1 31 (length (strings_of (drop 3 fields))) && list_all (λ string. nat_le (length string) 256) (strings_of (drop 3 fields)))) (sym (ap (λ m. is_between 1 128 m) f.value ∙ is_in_range-min 1 128 (decimal_value (number_of fields)) 18446744073709551615 (lit< tt)))
      ∙ ap (λ (ss : List (List ℕ)). is_in_range (record { terminal = n; strings = ss })) k.1

  by_test : (b : Bool) → is_in_range (record { terminal = n; strings = strings }) ≡ b → item_reading fields ≡ cond b (Ok (record { terminal = n; strings = strings })) (Err Range)
  by_test true s =
      let most = small n (and_parts (is_between 1 128 n) _ s).0 in
      let value : n ≡ decimal_value (number_of fields) = omega (arith, f.value, most) in
      reads fields true true true true f.keyword f.colon (spelled fields true f.plain k.0) (same ∙ s) ∙ ap (λ m. Ok (record { terminal = m; strings = strings_of (drop 3 fields) })) (sym value) ∙ ap (λ (ss : List (List ℕ)). Ok (record { terminal = n; strings = ss })) k.1
  by_test false s = reads fields true true true false f.keyword f.colon (spelled fields true f.plain k.0) (same ∙ s)

-- ---- the fields of a line, taken one by one
pub third : (fields : List (List ℕ)) (word : List ℕ) → is_at (drop 1 (drop 1 fields)) 0 word ≡ is_at fields 2 word
third [] word = refl
third (a ∷ []) word = refl
third (a ∷ b ∷ []) word = refl
third (a ∷ b ∷ c ∷ rest) word = refl

pub second : (fields : List (List ℕ)) → slice_index_or (drop 1 fields) 0 [] ≡ number_of fields
second [] = refl
second (a ∷ []) = refl
second (a ∷ b ∷ rest) = refl

pub behind : (fields : List (List ℕ)) → drop 1 (drop 1 (drop 1 fields)) ≡ drop 3 fields
behind [] = refl
behind (a ∷ []) = refl
behind (a ∷ b ∷ []) = refl
behind (a ∷ b ∷ c ∷ rest) = refl

-- ---- the ranges of what is read
words_small : (fields : List (List ℕ)) → are_spelled fields ≡ true → AllByRecursion (AllByRecursion (λ word. word < 2 ^ 16)) (strings_of fields)
words_small [] h = (tt, tt)
words_small (field ∷ fields) h =
    let parts = and_parts (is_colon field || is_hexadecimal 4 field) _ h in
    by_test (is_colon field) parts.0 (slice_split is_colon fields) (words_small fields parts.1) where
      by_test : (t : Bool) → (t || is_hexadecimal 4 field) ≡ true → (pieces : List (List (List ℕ))) → AllByRecursion (AllByRecursion (λ word. word < 2 ^ 16)) (values pieces) → AllByRecursion (AllByRecursion (λ word. word < 2 ^ 16)) (values (cond t ([] ∷ pieces) (onto_first field pieces)))
      by_test true h pieces k = (tt, k)
      by_test false h [] k = ((hexadecimal_value-lt 4 field h, tt), tt)
      by_test false h (piece ∷ pieces) k = ((hexadecimal_value-lt 4 field h, k.0), k.1)

staged_ok : (a b c d : Bool) (v item : Item) → staged a b c d v ≡ Ok item → (a ≡ true) × (b ≡ true) × (c ≡ true) × (d ≡ true) × (v ≡ item)
staged_ok true true true true v item h = (refl, refl, refl, refl, cc)
staged_ok true true true false v item h = absurd cc
staged_ok true true false d v item h = absurd cc
staged_ok true false c d v item h = absurd cc
staged_ok false b c d v item h = absurd cc

-- what the tests say of a line that is read
pub item_parts : (fields : List (List ℕ)) (item : Item) → item_reading fields ≡ Ok item
    → (is_at fields 0 (codes "MSG") ≡ true) × (is_at fields 2 (codes ":") ≡ true) × ((is_plain_decimal (number_of fields) && are_spelled (drop 3 fields)) ≡ true) × (is_in_range (item_of fields) ≡ true) × (item_of fields ≡ item)
item_parts fields item h =
    staged_ok (is_at fields 0 (codes "MSG")) (is_at fields 2 (codes ":")) (is_plain_decimal (number_of fields) && are_spelled (drop 3 fields)) (is_in_range (item_of fields)) (item_of fields) item (sym (reads fields _ _ _ _ refl refl refl refl) ∙ h)

-- an item that is read is in its ranges
pub is_item : (fields : List (List ℕ)) (item : Item) → item_reading fields ≡ Ok item → IsItem item
is_item fields item h =
    let k = item_parts fields item h in
    let right : IsItem (item_of fields) = record { ranges = k.3; words = words_small (drop 3 fields) (and_parts (is_plain_decimal (number_of fields)) _ k.2).1 } in
    subst IsItem k.4 right

pub some_if : (t : Bool) (n m : ℕ) → Some n ≡ cond t (Some m) None → (t ≡ true) × (n ≡ m)
some_if true n m h = (refl, cc)
some_if false n m h = absurd cc

pub none_if : (t : Bool) (m : ℕ) → None ≡ cond t (Some m) None → t ≡ false
none_if true m h = absurd cc
none_if false m h = refl
