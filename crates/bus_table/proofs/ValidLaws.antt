-- A valid table has its facts: a law of the computing test.
use Rattle.std.specs.Prelude.{◌≡◌, ℕ, ◌<◌, Bool, true, false, ◌||◌, ◌==◌, nat_le, nat_eq, IsTrue, List, [], ◌∷◌, ◌++◌, length}
use Rattle.std.specs.Prelude.{map, Option, Some, None}
use Rattle.std.specs.List.{list_all, list_any, find, IsDistinct, AllByRecursion}
use Rattle.std.specs.Option.{option_map}
use Rattle.std.proofs.Common.{arith, refl, sym, ◌∙◌, cond}
use Rattle.std.proofs.lemmas.Bool.{and_parts, or_parts}
use Rattle.std.proofs.lemmas.Bool.Decides.{nat_tests}
use Rattle.std.proofs.lemmas.List.{length-map}
use Rattle.std.proofs.lemmas.List.Folds.{list_any-append}
use Rattle.bus_table.specs.declared.mode.Mode.{Mode}
use Rattle.bus_table.specs.declared.mode.Mode.TheVariants.{Aperiodic, Periodic}
use Rattle.bus_table.specs.declared.error.WholeReason.TheVariants.{NumberTwice}
use Rattle.bus_table.specs.Tables.{Sender, Table}
use Rattle.bus_table.specs.Ranges.{is_number, is_tg, is_sender}
use Rattle.bus_table.specs.Whole.{first_again, numbers, no_sender, periodic_refusal}
use Rattle.bus_table.specs.Valid.{fits_mode, is_valid}
use Rattle.bus_table.specs.inside.Facts.{FitsMode, SenderFacts, TableFacts}
use Rattle.bus_table.proofs.PartLaws.{parts_of}
use Rattle.bus_table.proofs.FewNumbers.{number_bounds, few_numbers, senders_right}

pub map_none : {A B : Type 0} (f : A → B) (a : Option A) → option_map f a ≡ None → a ≡ None
map_none f None h = refl
map_none f (Some x) h = absurd (cc)

-- the first element is not among the earlier ones
pub fresh_first : {A : Type 0} (same : A → A → Bool) (earlier : List A) (x : A) (xs : List A) → first_again same earlier (x ∷ xs) ≡ None
    → (list_any (λ y. same y x) earlier ≡ false) × (first_again same (earlier ++ x ∷ []) xs ≡ None)
fresh_first same earlier x xs h =
    elim (list_any (λ y. same y x) earlier) as (λ b. cond b (Some x) (first_again same (earlier ++ x ∷ []) xs) ≡ None → (b ≡ false) ×
    (first_again same (earlier ++ x ∷ []) xs ≡ None)) [
      | true ↦ λ k. absurd (cc)
      | false ↦ λ k. (refl, k)
    ] h

-- apart from the earlier ones and from one more
apart_parts : {A : Type 0} (same : A → A → Bool) (earlier : List A) (x : A) (xs : List A)
    → AllByRecursion (λ z. list_any (λ y. same y z) (earlier ++ x ∷ []) ≡ false) xs
    → AllByRecursion (λ z. list_any (λ y. same y z) earlier ≡ false) xs × AllByRecursion (λ z. same x z ≡ false) xs
apart_parts same earlier x [] h = (tt, tt)
apart_parts same earlier x (z ∷ zs) h =
    let both = or_parts (list_any (λ y. same y z) earlier) (same x z || false) (sym (list_any-append (λ y. same y z) earlier (x ∷ []))
    ∙ h.0) in
    let last = or_parts (same x z) false both.1 in
    let rest = apart_parts same earlier x zs h.1 in
    ((both.0, rest.0), (last.0, rest.1))

-- where nothing stands again, all are different
pub all_distinct : {A : Type 0} (same : A → A → Bool) (earlier xs : List A) → first_again same earlier xs ≡ None
    → IsDistinct same xs × AllByRecursion (λ z. list_any (λ y. same y z) earlier ≡ false) xs
unfolding IsDistinct
all_distinct same earlier [] h = (tt, tt)
all_distinct same earlier (x ∷ xs) h =
    let parts = fresh_first same earlier x xs h in
    let rest = all_distinct same (earlier ++ x ∷ []) xs parts.1 in
    let split = apart_parts same earlier x xs rest.1 in
    ((split.1, rest.0), (parts.0, split.0))

front_apart : {A : Type 0} (P : A → Type 0) (xs ys : List A) → AllByRecursion P (xs ++ ys) → AllByRecursion P xs
front_apart P [] ys h = tt
front_apart P (x ∷ xs) ys h = (h.0, front_apart P xs ys h.1)

front_distinct : {A : Type 0} (same : A → A → Bool) (xs ys : List A) → IsDistinct same (xs ++ ys) → IsDistinct same xs
unfolding IsDistinct
front_distinct same [] ys h = tt
front_distinct same (x ∷ xs) ys h = (front_apart (λ y. same x y ≡ false) xs ys h.0, front_distinct same xs ys h.1)

-- the first isn't found, and none behind it
none_found : {A : Type 0} (p : A → Bool) (x : A) (xs : List A) → find p (x ∷ xs) ≡ None → (p x ≡ false) × (find p xs ≡ None)
none_found p x xs h =
    elim (p x) as (λ b. cond b (Some x) (find p xs) ≡ None → (b ≡ false) × (find p xs ≡ None)) [
      | true ↦ λ k. absurd (cc)
      | false ↦ λ k. (refl, k)
    ] h

-- a sender's facts, from its own range, its gap and its mode
one_sender : (table : Table) (sender : Sender) → is_sender sender ≡ true → nat_le table.sg sender.tg ≡ false
    → FitsMode table.mode table.ti sender.at → SenderFacts table sender
one_sender table sender h short mode =
    let number = number_bounds sender.number (and_parts (is_number sender.number) _ h).0 in
    let gap = and_parts (nat_le 8 sender.tg) _ (and_parts (is_tg sender.tg) _ (and_parts (is_number sender.number) _ h).1).0 in
    record {
      in_range = h;
      number_least = number.0;
      number_most = number.1;
      tg_least = grind (arith, nat_tests, gap.0);
      tg_most = grind (arith, nat_tests, gap.1);
      tg_short = grind (arith, nat_tests, short);
      mode = mode;
    }

all_senders : (table : Table) (senders : List Sender) → list_all is_sender senders ≡ true → find (λ s. nat_le table.sg s.tg) senders ≡ None
    → AllByRecursion (λ s. FitsMode table.mode table.ti s.at) senders → AllByRecursion (SenderFacts table) senders
all_senders table [] h short mode = tt
all_senders table (sender ∷ senders) h short mode =
    let parts = and_parts (is_sender sender) _ h in
    let gap = none_found (λ s. nat_le table.sg s.tg) sender senders short in
    (one_sender table sender parts.0 gap.0 mode.0, all_senders table senders parts.1 gap.1 mode.1)

all_zero : (ti : ℕ) (senders : List Sender) → list_all (λ s. s.at == 0) senders ≡ true
    → AllByRecursion (λ s. FitsMode Aperiodic ti s.at) senders
all_zero ti [] h = tt
all_zero ti (sender ∷ senders) h =
    let parts = and_parts (sender.at == 0) _ h in
    (grind (arith, nat_tests, parts.0), all_zero ti senders parts.1)

all_below : (ti : ℕ) (senders : List Sender) → find (λ s. nat_le ti s.at) senders ≡ None
    → AllByRecursion (λ s. FitsMode Periodic ti s.at) senders
all_below ti [] h = tt
all_below ti (sender ∷ senders) h =
    let parts = none_found (λ s. nat_le ti s.at) sender senders h in
    (grind (arith, nat_tests, parts.0), all_below ti senders parts.1)

-- what the mode asks of the offsets
offsets : (mode : Mode) (ti : ℕ) (senders : List Sender) → fits_mode mode senders ≡ true → periodic_refusal mode ti senders ≡ None
    → AllByRecursion (λ s. FitsMode mode ti s.at) senders
offsets Aperiodic ti senders fits none = all_zero ti senders fits
offsets Periodic ti senders fits none = all_below ti senders (map_none _ _ none)

some_sender : (senders : List Sender) → no_sender senders ≡ None → 0 < length senders
some_sender [] h = absurd (cc)
some_sender (sender ∷ senders) h = omega arith

-- a valid table has these facts
pub valid_facts : (table : Table) → IsTrue (is_valid table) → TableFacts table
valid_facts table valid =
    let p = parts_of table valid in
    let all = (all_distinct nat_eq [] (numbers table) (map_none NumberTwice _ p.once)).0 in
    let distinct = front_distinct nat_eq (map (λ s. s.number) table.senders) (map (λ l. l.number) table.listeners) all in
    let few = few_numbers (map (λ s. s.number) table.senders) (senders_right table.senders p.senders) distinct in
    let ti_range = and_parts (nat_le 1000 table.ti) _ p.ti in
    let sg_range = and_parts (nat_le 9 table.sg) _ p.sg in
    record {
      ti_least = grind (arith, nat_tests, ti_range.0);
      ti_most = grind (arith, nat_tests, ti_range.1);
      sg_least = grind (arith, nat_tests, sg_range.0);
      sg_most = grind (arith, nat_tests, sg_range.1);
      some = some_sender table.senders p.some;
      few = omega (arith, few, length-map table.senders (λ (s : Sender). s.number));
      numbers = distinct;
      gaps = (all_distinct (λ a b. a.tg == b.tg) [] table.senders (map_none _ _ p.gaps)).0;
      senders = all_senders table table.senders p.senders (map_none _ _ p.short) (offsets table.mode table.ti table.senders p.fits p.late);
    }
