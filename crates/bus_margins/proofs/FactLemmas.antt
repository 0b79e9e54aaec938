-- What the rooms of a table say, as facts of its senders.
use Rattle.std.specs.List.{list_all}
use Rattle.std.proofs.Common.{arith, ◌≡◌, suc, ◌+◌, ◌*◌, ◌<◌, ◌≤◌, true, nat_lt, List, [], ◌∷◌, map, length, Some}
use Rattle.std.proofs.Common.{refl, sym, ◌∙◌, ap, subst, inl, inr}
use Rattle.std.proofs.lemmas.Bool.{and_parts, and_from}
use Rattle.std.proofs.lemmas.Bool.Decides.{nat_tests}
use Rattle.bus_strings.specs.Members.{In}
use Rattle.bus_table.specs.Lengths.{shortest}
use Rattle.bus_table.specs.Tables.{Sender, Table}
use Rattle.bus_bounds.specs.Bounds.{Bounds}
use Rattle.bus_margins.specs.Times.{least_time, most_time, drop_of}
use Rattle.bus_margins.specs.Least.{least, holds}
use Rattle.bus_margins.specs.Rooms.{whole_room, drop_room, turns_room, opening_room, waiting_room, joining_room, alone_room, interval_room, cycle_room, first_cycle_room, joining_least, least_spoken, with_others, behind, rooms_in, order_holds}
use Rattle.bus_margins.proofs.LeastLemmas.{others_tell}
use Rattle.bus_margins.proofs.TellingLemmas.{waiting_same}
use Rattle.bus_margins.proofs.FitLemmas.{Ahead, lesser_both, both_lesser, fits_some, some_fits, told, tell, pairs_told, pairs_tell}

-- the rules that both levels ask for
pub record OrderFacts (bounds : Bounds) (table : Table) (order : List Sender) : Type 0 where
  pub whole : (a : Sender) → In a order → drop_of bounds ≤ least_time bounds table.sg
  pub drop : (a : Sender) → In a (behind order) → drop_of bounds ≤ least_time bounds a.tg
  pub turns : (a b : Sender) → Ahead a b (behind order) → most_time bounds a.tg + 2 * bounds.delay + 1 ≤ least_time bounds b.tg
  pub opening : (a b : Sender) → Ahead a b order
      → most_time bounds table.sg + most_time bounds a.tg + 2 * bounds.delay + 1 ≤ least_time bounds table.sg + least_time bounds b.tg
  pub waiting : 1 < length order → (a : Sender) → In a order → most_time bounds a.tg + 2 * bounds.delay + 1 ≤ least_time bounds table.sg
  pub joining : (a b : Sender) → Ahead a b order → most_time bounds table.sg + bounds.delay ≤ least_time bounds table.sg + least_time bounds a.tg
  pub alone : length order ≡ 1 → (a : Sender) → In a order → bounds.delay ≤ least_time bounds table.sg + least_time bounds a.tg

-- the rule of intervals
abbrev pub Lasts : Bounds → Table → List Sender → Type 0
Lasts bounds table senders = (a : Sender) → In a senders
    → most_time bounds table.ti ≤ least_time bounds (shortest a) + least_time bounds table.sg + most_time bounds a.tg

-- the rule of cycles
pub record Cycles (bounds : Bounds) (table : Table) (first : Sender) (others : List Sender) : Type 0 where
  pub behind : (a : Sender) → In a others → most_time bounds table.ti + least_time bounds a.tg
      ≤ least_time bounds table.sg + least_spoken bounds table.senders + most_time bounds a.tg
  pub opener : most_time bounds table.ti + least_time bounds first.tg
      ≤ most_time bounds table.sg + least_spoken bounds table.senders + most_time bounds first.tg

-- no message may be empty
abbrev pub AreLasting : Bounds → List Sender → Type 0
AreLasting bounds senders = (a : Sender) → In a senders → 0 < least_time bounds (shortest a)

pub lasting_told : (bounds : Bounds) (xs : List Sender) → list_all (λ a. nat_lt 0 (least_time bounds (shortest a))) xs ≡ true → AreLasting bounds xs
lasting_told bounds [] h a i = absurd i
lasting_told bounds (x ∷ xs) h a i =
    let p = and_parts (nat_lt 0 (least_time bounds (shortest x))) _ h in
    elim i [
      | inl e ↦ let l : 0 < least_time bounds (shortest x) = grind (arith, nat_tests, p.0) in subst (λ z. 0 < least_time bounds (shortest z)) (sym e) l
      | inr j ↦ lasting_told bounds xs p.1 a j
    ]

pub lasting_tell : (bounds : Bounds) (xs : List Sender) → AreLasting bounds xs → list_all (λ a. nat_lt 0 (least_time bounds (shortest a))) xs ≡ true
lasting_tell bounds [] h = refl
lasting_tell bounds (x ∷ xs) h =
    let l = h x (inl refl) in
    and_from (nat_lt 0 (least_time bounds (shortest x))) _ (grind (arith, nat_tests, l)) (lasting_tell bounds xs (λ a i. h a (inr i)))

waiting_told : (bounds : Bounds) (table : Table) (order : List Sender) → holds (least (with_others (waiting_room bounds table) [] order)) ≡ true
    → 1 < length order → (a : Sender) → In a order → most_time bounds a.tg + 2 * bounds.delay + 1 ≤ least_time bounds table.sg
waiting_told bounds table [] h more a i = absurd i
waiting_told bounds table (x ∷ []) h more a i = absurd (let m : 1 < 1 = more in omega arith)
waiting_told bounds table (x ∷ y ∷ xs) h more a i =
    let both = lesser_both (Some (waiting_room bounds table x y)) (least (map (λ z. waiting_room bounds table z x) (y ∷ xs)))
    (sym (ap holds (others_tell (waiting_room bounds table) x y xs (waiting_same bounds table))) ∙ h) in
    elim i [
      | inl e ↦ subst (λ z. most_time bounds z.tg + 2 * bounds.delay + 1 ≤ least_time bounds table.sg) (sym e) (fits_some (waiting_room bounds table x y) both.0)
      | inr j ↦ told (λ z. waiting_room bounds table z x) (y ∷ xs) both.1 a j
    ]

waiting_tell : (bounds : Bounds) (table : Table) (order : List Sender)
    → (1 < length order → (a : Sender) → In a order → most_time bounds a.tg + 2 * bounds.delay + 1 ≤ least_time bounds table.sg)
    → holds (least (with_others (waiting_room bounds table) [] order)) ≡ true
waiting_tell bounds table [] h = refl
waiting_tell bounds table (x ∷ []) h = refl
waiting_tell bounds table (x ∷ y ∷ xs) h =
    let more : 1 < suc (suc (length xs)) = omega arith in
    ap holds (others_tell (waiting_room bounds table) x y xs (waiting_same bounds table))
    ∙ both_lesser (Some (waiting_room bounds table x y)) (least (map (λ z. waiting_room bounds table z x) (y ∷ xs)))
    (some_fits (waiting_room bounds table x y) (h more x (inl refl)))
    (tell (λ z. waiting_room bounds table z x) (y ∷ xs) (λ a i. h more a (inr i)))

joining_told : (bounds : Bounds) (table : Table) (order : List Sender) → holds (joining_least bounds table order) ≡ true
    → (a b : Sender) → Ahead a b order → most_time bounds table.sg + bounds.delay ≤ least_time bounds table.sg + least_time bounds a.tg
joining_told bounds table [] h a b i = absurd i
joining_told bounds table (x ∷ []) h a b i = elim i [ inl p ↦ absurd p.1 | inr p ↦ absurd p ]
joining_told bounds table (x ∷ y ∷ xs) h a b i = pairs_told (joining_room bounds table) (x ∷ y ∷ xs) h a b i

alone_told : (bounds : Bounds) (table : Table) (order : List Sender) → holds (joining_least bounds table order) ≡ true
    → length order ≡ 1 → (a : Sender) → In a order → bounds.delay ≤ least_time bounds table.sg + least_time bounds a.tg
alone_told bounds table [] h n a i = absurd i
alone_told bounds table (x ∷ []) h n a i = elim i [
  | inl e ↦ subst (λ z. bounds.delay ≤ least_time bounds table.sg + least_time bounds z.tg) (sym e) (fits_some (alone_room bounds table x) h)
  | inr j ↦ absurd j
]
alone_told bounds table (x ∷ y ∷ xs) h n a i = absurd (let m : suc (suc (length xs)) ≡ 1 = n in omega arith)

joining_tell : (bounds : Bounds) (table : Table) (order : List Sender) → OrderFacts bounds table order → holds (joining_least bounds table order) ≡ true
joining_tell bounds table [] facts = refl
joining_tell bounds table (x ∷ []) facts = some_fits (alone_room bounds table x) (facts.alone refl x (inl refl))
joining_tell bounds table (x ∷ y ∷ xs) facts = pairs_tell (joining_room bounds table) (x ∷ y ∷ xs) facts.joining

pub order_told : (bounds : Bounds) (table : Table) (order : List Sender) → order_holds (rooms_in bounds table order) ≡ true
    → OrderFacts bounds table order
order_told bounds table order h =
    let p = and_parts _ _ h in
    let q = and_parts _ _ p.1 in
    let r = and_parts _ _ q.1 in
    let s = and_parts _ _ r.1 in
    let t = and_parts _ _ s.1 in
    record {
      whole = told (whole_room bounds table) order p.0;
      drop = told (drop_room bounds) (behind order) q.0;
      turns = pairs_told (turns_room bounds) (behind order) r.0;
      opening = pairs_told (opening_room bounds table) order s.0;
      waiting = waiting_told bounds table order t.0;
      joining = joining_told bounds table order t.1;
      alone = alone_told bounds table order t.1;
    }

pub order_tell : (bounds : Bounds) (table : Table) (order : List Sender) → OrderFacts bounds table order
    → order_holds (rooms_in bounds table order) ≡ true
order_tell bounds table order facts =
    and_from _ _ (tell (whole_room bounds table) order facts.whole)
    (and_from _ _ (tell (drop_room bounds) (behind order) facts.drop)
    (and_from _ _ (pairs_tell (turns_room bounds) (behind order) facts.turns)
    (and_from _ _ (pairs_tell (opening_room bounds table) order facts.opening)
    (and_from _ _ (waiting_tell bounds table order facts.waiting) (joining_tell bounds table order facts)))))

pub interval_told : (bounds : Bounds) (table : Table) (order : List Sender) → holds (rooms_in bounds table order).interval ≡ true
    → Lasts bounds table order
interval_told bounds table order h = told (interval_room bounds table) order h

pub interval_tells : (bounds : Bounds) (table : Table) (order : List Sender) → Lasts bounds table order
    → holds (rooms_in bounds table order).interval ≡ true
interval_tells bounds table order l = tell (interval_room bounds table) order l

pub cycle_told : (bounds : Bounds) (table : Table) (first : Sender) (others : List Sender)
    → holds (rooms_in bounds table (first ∷ others)).cycle ≡ true → Cycles bounds table first others
cycle_told bounds table first others h =
    let p = lesser_both (Some (first_cycle_room bounds table first)) (least (map (cycle_room bounds table) others)) h in
    record { behind = told (cycle_room bounds table) others p.1; opener = fits_some (first_cycle_room bounds table first) p.0 }

pub cycle_tells : (bounds : Bounds) (table : Table) (first : Sender) (others : List Sender) → Cycles bounds table first others
    → holds (rooms_in bounds table (first ∷ others)).cycle ≡ true
cycle_tells bounds table first others c =
    both_lesser (Some (first_cycle_room bounds table first)) (least (map (cycle_room bounds table) others))
    (some_fits (first_cycle_room bounds table first) c.opener) (tell (cycle_room bounds table) others c.behind)
