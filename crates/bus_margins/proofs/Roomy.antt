-- Where the rules hold that both levels ask for, the bus of the table has room, and there alone.
use Rattle.std.proofs.Common.{arith, ◌≡◌, ◌≢◌, ℕ, zero, suc, ◌<◌, List, [], ◌∷◌, length}
use Rattle.std.proofs.Common.{refl, inl}
use Rattle.bus_strings.specs.Members.{In}
use Rattle.bus_table.specs.Lengths.{shortest}
use Rattle.bus_table.specs.Tables.{Sender, Table}
use Rattle.bus_bounds.specs.Bounds.{Bounds}
use Rattle.bus_clocks.specs.Room.{LeavesRoom, StartsItself, HasCycle}
use Rattle.bus_margins.specs.Times.{least_time, most_time}
use Rattle.bus_margins.specs.Rooms.{behind, spoken_by}
use Rattle.bus_margins.specs.Buses.{at_place, bus_in}
use Rattle.bus_margins.proofs.FitLemmas.{Ahead}
use Rattle.bus_margins.proofs.PlaceLemmas.{At, AtTwo, Placed, PlacedTwo, at_of, at_two, place_of, places_of}
use Rattle.bus_margins.proofs.FactLemmas.{OrderFacts, AreLasting, Lasts, Cycles}
use Rattle.bus_margins.proofs.Ordering.{Ordered}
use Rattle.bus_margins.proofs.Apart.{least_places}

-- those behind the first, by their places
other_at : (xs : List Sender) (k : ℕ) → 0 < k → k < length xs
    → (a : Sender) × In a (behind xs) × ((f : Sender → ℕ) → at_place f xs k ≡ f a)
other_at [] k p h = absurd (omega arith)
other_at (x ∷ xs) zero p h = absurd (omega arith)
other_at (x ∷ xs) (suc k) p h = let w : At xs k = at_of xs k (omega arith) in (w.sender, w.there, w.same)

others_at : (xs : List Sender) (j k : ℕ) → 0 < j → j < k → k < length xs
    → (a b : Sender) × Ahead a b (behind xs) × ((f : Sender → ℕ) → at_place f xs j ≡ f a) × ((f : Sender → ℕ) → at_place f xs k ≡ f b)
others_at [] j k p l h = absurd (omega arith)
others_at (x ∷ xs) zero k p l h = absurd (omega arith)
others_at (x ∷ xs) (suc j) zero p l h = absurd (omega arith)
others_at (x ∷ xs) (suc j) (suc k) p l h = let w : AtTwo xs j k = at_two xs j k (omega arith) (omega arith) in (w.a, w.b, w.ahead, w.same_a, w.same_b)

behind_place : (xs : List Sender) (a : Sender) → In a (behind xs) → (k : ℕ) × (0 < k) × (k < length xs) × ((f : Sender → ℕ) → at_place f xs k ≡ f a)
behind_place [] a i = absurd i
behind_place (x ∷ xs) a i = let w : Placed xs a = place_of xs a i in (suc w.place, omega arith, omega (arith, w.within), w.same)

behind_places : (xs : List Sender) (a b : Sender) → Ahead a b (behind xs)
    → (j k : ℕ) × (0 < j) × (j < k) × (k < length xs) × ((f : Sender → ℕ) → at_place f xs j ≡ f a) × ((f : Sender → ℕ) → at_place f xs k ≡ f b)
behind_places [] a b i = absurd i
behind_places (x ∷ xs) a b i =
    let w : PlacedTwo xs a b = places_of xs a b i in
    (suc w.j, suc w.k, omega arith, omega (arith, w.less), omega (arith, w.within), w.same_a, w.same_b)

some_in : (xs : List Sender) → length xs ≡ 1 → (a : Sender) × In a xs × ((f : Sender → ℕ) → at_place f xs 0 ≡ f a)
some_in [] n = absurd (let m : 0 ≡ 1 = n in omega arith)
some_in (x ∷ xs) n = (x, inl refl, λ f. refl)

pub room_from : (bounds : Bounds) (table : Table) (order : List Sender) → 0 < length order → AreLasting bounds order → OrderFacts bounds table order
    → LeavesRoom (bus_in bounds table order)
room_from bounds table order some lasting facts = record {
  some = some;
  lasting = λ k h.
      (let w : At order k = at_of order k h in
      let e = w.same (λ a. least_time bounds (shortest a)) in
      let l = lasting w.sender w.there in
      omega (arith, e, l));
  whole = λ k h. (let w : At order k = at_of order k h in facts.whole w.sender w.there);
  drop = λ k p h.
      (let w = other_at order k p h in
      let e = w.2 (λ a. least_time bounds a.tg) in
      let l = facts.drop w.0 w.1 in
      omega (arith, e, l));
  turns = λ j k p l h.
      (let w = others_at order j k p l h in
      let e = w.3 (λ a. most_time bounds a.tg) in
      let g = w.4 (λ a. least_time bounds a.tg) in
      let t = facts.turns w.0 w.1 w.2 in
      omega (arith, e, g, t));
  opening = λ j k l h.
      (let w : AtTwo order j k = at_two order j k l h in
      let e = w.same_a (λ a. most_time bounds a.tg) in
      let g = w.same_b (λ a. least_time bounds a.tg) in
      let t = facts.opening w.a w.b w.ahead in
      omega (arith, e, g, t));
  waiting = λ j k h g other.
      (let w : At order j = at_of order j h in
      let e = w.same (λ a. most_time bounds a.tg) in
      let more : 1 < length order = omega (arith, h, g, other) in
      let l = facts.waiting more w.sender w.there in
      omega (arith, e, l));
  joining = λ j k l h.
      (let w : AtTwo order j k = at_two order j k l h in
      let e = w.same_a (λ a. least_time bounds a.tg) in
      let t = facts.joining w.a w.b w.ahead in
      omega (arith, e, t));
  alone = λ n.
      (let w = some_in order n in
      let e = w.2 (λ a. least_time bounds a.tg) in
      let l = facts.alone n w.0 w.1 in
      omega (arith, e, l));
}

pub lasting_of : (bounds : Bounds) (table : Table) (order : List Sender) → LeavesRoom (bus_in bounds table order) → AreLasting bounds order
lasting_of bounds table order r a i =
    let w : Placed order a = place_of order a i in
    let e = w.same (λ b. least_time bounds (shortest b)) in
    let l = r.lasting w.place w.within in
    omega (arith, e, l)

-- one that another waits for
another : (n j : ℕ) → 1 < n → j < n → (k : ℕ) × (k < n) × (j ≢ k)
another n zero more h = (1, more, λ e. omega arith)
another n (suc j) more h = (0, omega (arith, more), λ e. omega arith)

pub facts_of : (bounds : Bounds) (table : Table) (order : List Sender) → LeavesRoom (bus_in bounds table order) → OrderFacts bounds table order
facts_of bounds table order r = record {
  whole = λ a i. (let w : Placed order a = place_of order a i in r.whole w.place w.within);
  drop = λ a i.
      (let w = behind_place order a i in
      let e = w.3 (λ b. least_time bounds b.tg) in
      let l = r.drop w.0 w.1 w.2 in
      omega (arith, e, l));
  turns = λ a b p.
      (let w = behind_places order a b p in
      let e = w.5 (λ c. most_time bounds c.tg) in
      let g = w.6 (λ c. least_time bounds c.tg) in
      let l = r.turns w.0 w.1 w.2 w.3 w.4 in
      omega (arith, e, g, l));
  opening = λ a b p.
      (let w : PlacedTwo order a b = places_of order a b p in
      let e = w.same_a (λ c. most_time bounds c.tg) in
      let g = w.same_b (λ c. least_time bounds c.tg) in
      let l = r.opening w.j w.k w.less w.within in
      omega (arith, e, g, l));
  waiting = λ more a i.
      (let w : Placed order a = place_of order a i in
      let o = another (length order) w.place more w.within in
      let e = w.same (λ c. most_time bounds c.tg) in
      let l = r.waiting w.place o.0 w.within o.1 o.2 in
      omega (arith, e, l));
  joining = λ a b p.
      (let w : PlacedTwo order a b = places_of order a b p in
      let e = w.same_a (λ c. least_time bounds c.tg) in
      let l = r.joining w.j w.k w.less w.within in
      omega (arith, e, l));
  alone = λ n a i.
      (let w : Placed order a = place_of order a i in
      let e = w.same (λ c. least_time bounds c.tg) in
      let z : w.place ≡ 0 = omega (arith, w.within, n) in
      let l = r.alone n in
      let g : at_place (λ c. least_time bounds c.tg) order 0 ≡ least_time bounds a.tg = rw (← z) e in
      omega (arith, g, l));
}

-- ---- intervals
pub starts_from : (bounds : Bounds) (table : Table) (order : List Sender) → Lasts bounds table order → StartsItself (bus_in bounds table order)
starts_from bounds table order lasts k h =
    let w : At order k = at_of order k h in
    let e = w.same (λ a. least_time bounds (shortest a)) in
    let g = w.same (λ a. most_time bounds a.tg) in
    let l = lasts w.sender w.there in
    omega (arith, e, g, l)

pub lasts_of : (bounds : Bounds) (table : Table) (order : List Sender) → StartsItself (bus_in bounds table order) → Lasts bounds table order
lasts_of bounds table order s a i =
    let w : Placed order a = place_of order a i in
    let e = w.same (λ b. least_time bounds (shortest b)) in
    let g = w.same (λ b. most_time bounds b.tg) in
    let l = s w.place w.within in
    omega (arith, e, g, l)

-- ---- cycles
pub cycle_from : (bounds : Bounds) (table : Table) (first : Sender) (others : List Sender) → Ordered table (first ∷ others)
    → Cycles bounds table first others → HasCycle (bus_in bounds table (first ∷ others))
cycle_from bounds table first others ordered c =
    let spoken = ordered.spoken (spoken_by bounds) in
    let places = least_places (λ a. least_time bounds a.tg) (λ a. least_time bounds (shortest a)) (first ∷ others) in
    record {
      others = λ k p h.
          (let w = other_at (first ∷ others) k p h in
          let e = w.2 (λ a. least_time bounds a.tg) in
          let g = w.2 (λ a. most_time bounds a.tg) in
          let l = c.behind w.0 w.1 in
          omega (arith, e, g, l, spoken, places));
      first = (let l = c.opener in omega (arith, l, spoken, places));
    }

pub cycle_of : (bounds : Bounds) (table : Table) (first : Sender) (others : List Sender) → Ordered table (first ∷ others)
    → HasCycle (bus_in bounds table (first ∷ others)) → Cycles bounds table first others
cycle_of bounds table first others ordered c =
    let spoken = ordered.spoken (spoken_by bounds) in
    let places = least_places (λ a. least_time bounds a.tg) (λ a. least_time bounds (shortest a)) (first ∷ others) in
    record {
      behind = λ a i.
          (let w = behind_place (first ∷ others) a i in
          let e = w.3 (λ b. least_time bounds b.tg) in
          let g = w.3 (λ b. most_time bounds b.tg) in
          let l = c.others w.0 w.1 w.2 in
          omega (arith, e, g, l, spoken, places));
      opener = (let l = c.first in omega (arith, l, spoken, places));
    }
