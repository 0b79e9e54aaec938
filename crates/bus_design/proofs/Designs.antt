-- The best gaps are the best table.
use Rattle.std.specs.Prelude.{IfSome}
use Rattle.std.proofs.Common.{arith, ◌≡◌, ℕ, suc, ◌+◌, ◌<◌, ◌≤◌, ◌++◌, true, false, ◌&&◌, List, [], ◌∷◌, map, take, length, Option, Some, None, slice_get}
use Rattle.std.proofs.Common.{refl, sym, ◌∙◌, ap, subst, inl, inr}
use Rattle.std.proofs.lemmas.Bool.{and_parts, true≢false}
use Rattle.std.proofs.lemmas.List.{take_more}
use Rattle.std.proofs.lemmas.Option.{get_or_from_slice_get, slice_get_within}
use Rattle.bus_table.specs.Lengths.{shortest}
use Rattle.bus_table.specs.Tables.{Sender, Table}
use Rattle.bus_table.specs.Turns.{turn_key, turn_order}
use Rattle.bus_table.proofs.TurnLaws.{from_sort, in_sort}
use Rattle.bus_bounds.specs.Bounds.{Bounds, most_clocks}
use Rattle.bus_margins.specs.Least.{holds}
use Rattle.bus_margins.specs.Rooms.{lasts, rooms_of, order_holds}
use Rattle.bus_margins.proofs.FactLemmas.{AreLasting, lasting_told, lasting_tell}
use Rattle.bus_gaps.specs.declared.design.Design.{Design}
use Rattle.bus_gaps.specs.Gaps.{least_time}
use Rattle.bus_gaps.specs.Designs.{AreRoomy, AreNone, IsBest, cycle_of}
use Rattle.bus_design.specs.Others.{at_gap, with_gaps, speaker_of, speakers_of, IsAnother}
use Rattle.bus_design.specs.Bests.{IsBestFor, AreNoneFor}
use Rattle.bus_design.proofs.Levels.{any_test, any_is_roomy, roomy_is_any, cycle_is_most}

-- other gaps make messages last no longer and no less long
lasting_with : (bounds : Bounds) (senders : List Sender) (gaps : List ℕ) → AreLasting bounds senders → AreLasting bounds (with_gaps senders gaps)
lasting_with bounds [] gaps h b i = absurd i
lasting_with bounds (a ∷ senders) [] h b i = absurd i
lasting_with bounds (a ∷ senders) (x ∷ gaps) h b (inl e) = subst (λ z. 0 < least_time bounds (shortest z)) (sym e) (h a (inl refl))
lasting_with bounds (a ∷ senders) (x ∷ gaps) h b (inr i) = lasting_with bounds senders gaps (λ c j. h c (inr j)) b i

with_lasting : (bounds : Bounds) (senders : List Sender) (gaps : List ℕ) → length gaps ≡ length senders
    → AreLasting bounds (with_gaps senders gaps) → AreLasting bounds senders
with_lasting bounds [] gaps n h b i = absurd i
with_lasting bounds (a ∷ senders) [] n h b i = absurd (let m : 0 ≡ suc (length senders) = n in omega (arith, m))
with_lasting bounds (a ∷ senders) (x ∷ gaps) n h b (inl e) =
    subst (λ z. 0 < least_time bounds (shortest z)) (sym e) (h (at_gap x a) (inl refl))
with_lasting bounds (a ∷ senders) (x ∷ gaps) n h b (inr i) =
    with_lasting bounds senders gaps (let m : suc (length gaps) ≡ suc (length senders) = n in omega (arith, m)) (λ c j. h c (inr j)) b i

pub lasts_too : (bounds : Bounds) (table other : Table) (gaps : List ℕ) → IsAnother table other gaps → lasts bounds table ≡ true → lasts bounds other ≡ true
lasts_too bounds table other gaps is h =
    let all : AreLasting bounds (turn_order table) =
    λ a i. lasting_told bounds table.senders h a (from_sort (turn_key table.mode) table.senders a i) in
    let made : AreLasting bounds (turn_order other) = subst (AreLasting bounds) (sym is.order) (lasting_with bounds (turn_order table) gaps all) in
    lasting_tell bounds other.senders (λ a i. made a (in_sort (turn_key other.mode) other.senders a i))

lasts_before : (bounds : Bounds) (table other : Table) (gaps : List ℕ) → IsAnother table other gaps → lasts bounds other ≡ true
    → lasts bounds table ≡ true
lasts_before bounds table other gaps is h =
    let all : AreLasting bounds (turn_order other) =
    λ a i. lasting_told bounds other.senders h a (from_sort (turn_key other.mode) other.senders a i) in
    let own : AreLasting bounds (turn_order table) =
    with_lasting bounds (turn_order table) gaps is.count (subst (AreLasting bounds) is.order all) in
    lasting_tell bounds table.senders (λ a i. own a (in_sort (turn_key table.mode) table.senders a i))

pub unlasting_none : (bounds : Bounds) (table : Table) → lasts bounds table ≡ false → AreNoneFor bounds table
unlasting_none bounds table h other gaps is any =
    let p = any_test (lasts bounds other && order_holds (rooms_of bounds other)) (holds (rooms_of bounds other).interval) (holds (rooms_of bounds other).cycle) any in
    true≢false (sym (lasts_before bounds table other gaps is (and_parts (lasts bounds other) _ p.0).0) ∙ h)

-- the best gaps
best_for : (bounds : Bounds) (table : Table) (design : Design) → bounds.clocks ≤ most_clocks → lasts bounds table ≡ true
    → IsBest bounds (speakers_of table) design → IsBestFor bounds table design
best_for bounds table design within lasting best = record {
  roomy = best.own.gaps.roomy;
  any = λ made is sg ti. roomy_is_any bounds table made design.gaps.items is ti (lasts_too bounds table made design.gaps.items is lasting)
      (subst (λ n. AreRoomy bounds (speakers_of table) n design.gaps.items) (sym sg) best.own.gaps.roomy);
  cycle = λ made is sg. cycle_is_most bounds table made design.gaps.items is
      ∙ ap (λ n. cycle_of bounds (speakers_of table) n design.gaps.items) sg ∙ sym best.own.cycle;
  best = λ other gaps is any. (let r = any_is_roomy bounds table other gaps within is any in
      let l = best.best other.sg gaps r in
      let e = cycle_is_most bounds table other gaps is in
      omega (arith, l, e));
  last = λ other gaps is any same. (let r = any_is_roomy bounds table other gaps within is any in
      let e = cycle_is_most bounds table other gaps is in
      best.last other.sg gaps r (sym e ∙ same));
  least = λ other gaps is any sg. best.own.gaps.least gaps
      (subst (λ n. AreRoomy bounds (speakers_of table) n gaps) sg (any_is_roomy bounds table other gaps within is any));
}

pub found_best : (bounds : Bounds) (table : Table) (found : Option Design) → bounds.clocks ≤ most_clocks → lasts bounds table ≡ true
    → IfSome found (IsBest bounds (speakers_of table)) → IfSome found (IsBestFor bounds table)
found_best bounds table None within lasting best = tt
found_best bounds table (Some design) within lasting best = best_for bounds table design within lasting best

pub none_best : (bounds : Bounds) (table : Table) → bounds.clocks ≤ most_clocks → AreNone bounds (speakers_of table) → AreNoneFor bounds table
none_best bounds table within none other gaps is any = none other.sg gaps (any_is_roomy bounds table other gaps within is any)

map_push : (xs : List Sender) (a : Sender) → map speaker_of (xs ++ a ∷ []) ≡ map speaker_of xs ++ speaker_of a ∷ []
map_push [] a = refl
map_push (x ∷ xs) a = ap (λ ys. speaker_of x ∷ ys) (map_push xs a)

-- one more of them
pub speakers_more : (order : List Sender) (k : ℕ) (a : Sender) → slice_get order k ≡ Some a
    → map speaker_of (take (k + 1) order) ≡ map speaker_of (take k order) ++ speaker_of a ∷ []
speakers_more order k a at =
    ap (map speaker_of) (take_more order k a (slice_get_within order k a at) ∙ ap (λ y. take k order ++ y ∷ []) (get_or_from_slice_get order k a a at))
    ∙ map_push (take k order) a
