-- What is kept of a stream where an item is taken.
use Rattle.std.specs.Prelude.{◌==◌, IfSome, option_map, unwrap_or}
use Rattle.std.specs.Option.{option_map_or}
use Rattle.std.proofs.Common.{◌≡◌, ℕ, ◌-◌, ◌*◌, ◌^◌, ◌<◌, ◌≤◌, Bool, true, false, cond, ◌&&◌, nat_le, nat_lt, List, ◌++◌, Some, None, arith, refl, ap, sym, subst, ◌∙◌, append_assoc}
use Rattle.std.specs.declared.option.Option.{Option}
use Rattle.std.proofs.Math.Nat.{mul-div-le}
use Rattle.std.proofs.lemmas.Bool.{and_parts}
use Rattle.bus_outer.specs.Texts.{Adds}
use Rattle.bus_outer.specs.declared.text_buffer.TextBuffer.{TextBuffer}
use Rattle.bus_outer.proofs.TextLaws.{adds_then}
use Rattle.bus_strings.specs.Messages.{Message}
use Rattle.bus_table.specs.Tables.{Table}
use Rattle.bus_bounds.specs.Bounds.{Bounds}
use Rattle.bus_stream.specs.declared.item.Item.{Item}
use Rattle.bus_stream.specs.declared.item.Item.TheVariants.{Sent, Told, Lost}
use Rattle.bus_stream.specs.declared.place.Place.{Place}
use Rattle.bus_stream.specs.Places.{bit_of, is_behind, place_after}
use Rattle.bus_stream.specs.Places as places
use Rattle.bus_watch.specs.declared.part.Part.{Part}
use Rattle.bus_watch.specs.declared.state.State.{State}
use Rattle.bus_watch.specs.Parts.{begun, is_long, most_span, told_to}
use Rattle.bus_watch.specs.Streams as streams
use Rattle.bus_watch.specs.Streams.{ended, is_part_long, opening, part_for, part_or, sent, told, with_item, with_part}
use Rattle.bus_watch.specs.Looks.{CanLook}
use Rattle.bus_watch.specs.Standing.{AddsFront, CanTake, IsItem, IsPart, IsState}
use Rattle.bus_watch.proofs.PartLemmas.{can_begin, can_take, judged_part, judged_sent, look_at, told_part}

pub bit_low : (time : ℕ) → time < 2 ^ 64 → 500 * bit_of time < 2 ^ 64
bit_low time h = omega (arith, h, mul-div-le time 500)

pub part_of : (table : Table) (s : State) (part : Part) → IsState table s → s.part ≡ Some part → IsPart table s.place part
part_of table s part is at = subst (λ o. IfSome o (λ p. IsPart table s.place p)) at is.part

-- it may be looked who is silent where a part ends
pub look_end : (table : Table) (s : State) (part : Part) (time : Option ℕ) → IsState table s → s.part ≡ Some part
    → IfSome time (λ t. (s.place.bit ≤ bit_of t) × (t < 2 ^ 64)) → CanLook table part (bit_of (unwrap_or time part.told))
look_end table s part None is at later =
    let p = part_of table s part is at in
    look_at table s.place part (bit_of part.told) p (omega (arith, p.told_to)) (omega (arith, p.told_to, is.low))
look_end table s part (Some t) is at later = look_at table s.place part (bit_of t) (part_of table s part is at) later.0 (bit_low t later.1)

-- the part in which a transmission stands
pub begun_is : (bounds : Bounds) (table : Table) (time : ℕ) (s : State) (long : Bool)
    → with_part (cond long (ended s) s) (part_or bounds table time (cond long (ended s) s).part)
    ≡ with_part s (cond long (begun bounds table time) (part_or bounds table time s.part))
begun_is bounds table time s true = refl
begun_is bounds table time s false = refl

pub part_begun : (bounds : Bounds) (table : Table) (time : ℕ) (s : State) (bit : ℕ) (ended begun : State) → bit ≡ bit_of time
    → ended ≡ cond (is_part_long s bit) (streams.ended s) s → begun ≡ with_part ended (part_or bounds table time ended.part)
    → begun ≡ with_part s (part_for bounds table s time)
part_begun bounds table time s bit ended begun at long is =
    is ∙ ap (λ (x : State). with_part x (part_or bounds table time x.part)) (long ∙ ap (λ b. cond (is_part_long s b) (streams.ended s) s) at)
    ∙ begun_is bounds table time s (is_part_long s (bit_of time))

short_span : (span : ℕ) → nat_lt most_span span ≡ false → span ≤ most_span
short_span span h = grind (arith, h)

can_part : (bounds : Bounds) (table : Table) (time terminal number : ℕ) (place : Place) (part : Option Part) (long : Bool)
    → IfSome part (λ p. IsPart table place p) → IfSome part (λ p. p.sent ≤ number) → number < 2 ^ 64 - 1
    → is_behind place (bit_of time) terminal ≡ true → place.bit ≤ bit_of time → 500 * bit_of time < 2 ^ 64
    → IfSome part (λ p. is_long (bit_of time) p ≡ long)
    → CanTake table (cond long (begun bounds table time) (part_or bounds table time part)) (bit_of time) terminal
can_part bounds table time terminal number place part true is few more behind later low at = can_begin bounds table time terminal low
can_part bounds table time terminal number place None false is few more behind later low at = can_begin bounds table time terminal low
can_part bounds table time terminal number place (Some p) false is few more behind later low at =
    can_take table place p (bit_of time) terminal is behind later (short_span _ at) low (omega (arith, few, more))

pub behind_later : (place : Place) (bit terminal : ℕ) → is_behind place bit terminal ≡ true → place.bit ≤ bit
behind_later place bit terminal h = grind (arith, h)

pub long_at : (bit : ℕ) (part : Option Part) → IfSome part (λ p. is_long bit p ≡ option_map_or (is_long bit) part false)
long_at bit None = tt
long_at bit (Some p) = refl

-- so it can be taken into that part
pub can_sent : (bounds : Bounds) (table : Table) (s : State) (time terminal : ℕ) → IsState table s → s.number < 2 ^ 64 - 1
    → is_behind s.place (bit_of time) terminal ≡ true → 500 * bit_of time < 2 ^ 64
    → CanTake table (part_for bounds table s time) (bit_of time) terminal
can_sent bounds table s time terminal is more behind low =
    can_part bounds table time terminal s.number s.place s.part (is_part_long s (bit_of time)) is.part is.few more behind
    (behind_later s.place (bit_of time) terminal behind) low (long_at (bit_of time) s.part)

-- and what is kept stands up to it
few_begun : (bounds : Bounds) (table : Table) (time number : ℕ) (part : Option Part) (long : Bool)
    → IfSome part (λ p. p.sent ≤ number) → (cond long (begun bounds table time) (part_or bounds table time part)).sent ≤ number
few_begun bounds table time number part true few = omega arith
few_begun bounds table time number None false few = omega arith
few_begun bounds table time number (Some p) false few = few

pub state_sent : (bounds : Bounds) (table : Table) (s : State) (time terminal : ℕ) (message : Message) → IsState table s
    → s.number < 2 ^ 64 - 1 → is_behind s.place (bit_of time) terminal ≡ true → 500 * bit_of time < 2 ^ 64
    → IsState table (record (sent bounds table s time terminal message) { place = record { bit = bit_of time; terminal = terminal } })
state_sent bounds table s time terminal message is more behind low = record {
  part = judged_part bounds table (part_for bounds table s time) time terminal message (can_sent bounds table s time terminal is more behind low);
  few = omega (
    arith,
    few_begun bounds table time s.number s.part (is_part_long s (bit_of time)) is.few,
    judged_sent bounds table (part_for bounds table s time) time terminal message,
  );
  low = low;
}

told_state : (table : Table) (time number : ℕ) (place : Place) (part : Option Part) → IfSome part (λ p. IsPart table place p)
    → place.bit ≤ bit_of time → IfSome (option_map (told_to table time) part) (λ p. IsPart table (places.told_to place (bit_of time)) p)
told_state table time number place None is later = tt
told_state table time number place (Some p) is later = told_part table place p time is later

told_few : (table : Table) (time number : ℕ) (part : Option Part) → IfSome part (λ p. p.sent ≤ number)
    → IfSome (option_map (told_to table time) part) (λ p. p.sent ≤ number)
told_few table time number None few = tt
told_few table time number (Some p) few = few

told_low : (place : Place) (bit : ℕ) (same : Bool) → 500 * place.bit < 2 ^ 64 → 500 * bit < 2 ^ 64
    → 500 * (cond same place (record { bit = bit; terminal = 0 })).bit < 2 ^ 64
told_low place bit true a b = a
told_low place bit false a b = b

pub state_told : (table : Table) (s : State) (time : ℕ) → IsState table s → s.place.bit ≤ bit_of time → 500 * bit_of time < 2 ^ 64
    → IsState table (record (told table s time) { place = places.told_to s.place (bit_of time) })
state_told table s time is later low = record {
  part = told_state table time s.number s.place s.part is.part later;
  few = told_few table time s.number s.part is.few;
  low = told_low s.place (bit_of time) (s.place.bit == bit_of time) is.low low;
}

pub state_ended : (table : Table) (s : State) (to : ℕ) → IsState table s → 500 * bit_of to < 2 ^ 64
    → IsState table (record (ended s) { place = places.told_to s.place (bit_of to) })
state_ended table s to is low = record {
  part = tt;
  few = tt;
  low = told_low s.place (bit_of to) (s.place.bit == bit_of to) is.low low;
}

pub state_new : (table : Table) → IsState table opening
state_new table = record { part = tt; few = tt; low = omega arith }

-- a front of what comes behind some bytes
pub front_behind : {K : Type 0} {held : K → Option (List ℕ)} {faults : K → ℕ} {k k' k'' : K} {a b c : TextBuffer} {xs ys : List ℕ} (zs : List ℕ)
    → Adds held faults k k' a b xs → AddsFront held faults k' k'' b c ys → AddsFront held faults k k'' a c (xs ++ ys ++ zs)
front_behind {K} {held} {faults} {k} {k'} {k''} {a} {b} {c} {xs} {ys} zs p q = record {
  some = xs ++ q.some;
  rest = q.rest ++ zs;
  adds = adds_then p q.adds;
  front = ap (λ l. xs ++ l ++ zs) q.front ∙ ap (λ l. l ++ zs) (sym (append_assoc xs q.some q.rest)) ∙ append_assoc (xs ++ q.some) q.rest zs;
}

-- ---- items

some_where : (b : Bool) (p q : Place) → cond b (Some p) None ≡ Some q → (b ≡ true) × (p ≡ q)
some_where true p q h = (refl, grind (arith, h))
some_where false p q h = absurd (grind (arith, h))

at_most : (a b : ℕ) → nat_le a b ≡ true → a ≤ b
at_most a b h = grind (arith, h)

pub sent_behind : (place place' : Place) (time terminal : ℕ) (message : Message) → place_after place (Sent time terminal message) ≡ Some place'
    → is_behind place (bit_of time) terminal ≡ true
sent_behind place place' time terminal message at =
    (some_where (is_behind place (bit_of time) terminal) (record { bit = bit_of time; terminal = terminal }) place' at).0

pub told_behind : (place place' : Place) (time : ℕ) → place_after place (Told time) ≡ Some place' → place.bit ≤ bit_of time
told_behind place place' time at =
    at_most place.bit (bit_of time) (some_where (nat_le place.bit (bit_of time)) (places.told_to place (bit_of time)) place' at).0

pub lost_behind : (place place' : Place) (from to : ℕ) → place_after place (Lost from to) ≡ Some place' → place.bit ≤ bit_of from
lost_behind place place' from to at =
    at_most place.bit (bit_of from)
    (and_parts (nat_le place.bit (bit_of from)) (nat_le (bit_of from) (bit_of to))
    (some_where (nat_le place.bit (bit_of from) && nat_le (bit_of from) (bit_of to)) (places.told_to place (bit_of to)) place' at).0).0

pub state_item : (bounds : Bounds) (table : Table) (s : State) (item : Item) (place : Place) → IsState table s → IsItem item
    → s.number < 2 ^ 64 - 1 → place_after s.place item ≡ Some place → IsState table (with_item bounds table s item place)
state_item bounds table s (Sent time terminal message) place is fits more at =
    let p = some_where (is_behind s.place (bit_of time) terminal) (record { bit = bit_of time; terminal = terminal }) place at in
    subst (λ q. IsState table (record (sent bounds table s time terminal message) { place = q })) p.1
    (state_sent bounds table s time terminal message is more p.0 (bit_low time fits.2))
state_item bounds table s (Told time) place is fits more at =
    let p = some_where (nat_le s.place.bit (bit_of time)) (places.told_to s.place (bit_of time)) place at in
    subst (λ q. IsState table (record (told table s time) { place = q })) p.1
    (state_told table s time is (at_most s.place.bit (bit_of time) p.0) (bit_low time fits))
state_item bounds table s (Lost from to) place is fits more at =
    let p = some_where (nat_le s.place.bit (bit_of from) && nat_le (bit_of from) (bit_of to)) (places.told_to s.place (bit_of to)) place at in
    subst (λ q. IsState table (record (ended s) { place = q })) p.1 (state_ended table s to is (bit_low to fits.1))
