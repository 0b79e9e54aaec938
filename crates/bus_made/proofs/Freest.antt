-- The free order has the least longest cycle of all orders.
use Rattle.std.specs.Prelude.{nat_lt, not, IsTrue}
use Rattle.std.specs.List.{list_all, list_any}
use Rattle.std.specs.List.Sorted.{IsPermutation}
use Rattle.std.proofs.Common.{arith, ◌≡◌, ℕ, ◌≤◌, Bool, true, false, ◌&&◌, ◌||◌, cond, List, [], ◌∷◌, map}
use Rattle.std.proofs.Common.{refl, sym, ◌∙◌, ap, subst}
use Rattle.std.proofs.lemmas.Bool.{and_parts}
use Rattle.std.proofs.lemmas.List.{length-map}
use Rattle.std.proofs.lemmas.List.Sorted.{IsPermutation-refl, IsPermutation-cons, IsPermutation-middle, IsPermutation-trans, IsPermutation-map, list_any-IsPermutation}
use Rattle.bus_bounds.specs.Bounds.{Bounds, most_clocks}
use Rattle.bus_table.specs.declared.mode.Mode.TheVariants.{Aperiodic}
use Rattle.bus_table.specs.Lengths.{shortest}
use Rattle.bus_table.specs.Tables.{Sender, Table}
use Rattle.bus_table.specs.Turns.{insert, sort, turn_key, turn_order}
use Rattle.bus_table.specs.Valid.{is_valid}
use Rattle.bus_margins.specs.Least.{holds}
use Rattle.bus_margins.specs.Rooms.{lasts, level_of, most_apart, order_holds, rooms_of}
use Rattle.bus_margins.specs.declared.level.Level.TheVariants.{Any}
use Rattle.bus_gaps.specs.declared.speaker.Speaker.{Speaker}
use Rattle.bus_gaps.specs.Gaps.{least_time}
use Rattle.bus_gaps.specs.Designs.{AreRoomy, cycle_of}
use Rattle.bus_gaps.specs.Free as free
use Rattle.bus_gaps.specs.Free.{FreeOrderIsBest}
use Rattle.bus_gaps.proofs.Free.{free_order_is_best}
use Rattle.bus_design.specs.Others.{IsAnother, made_table, speaker_of, speakers_of, with_gaps}
use Rattle.bus_design.proofs.Designs.{lasts_too}
use Rattle.bus_design.proofs.Levels.{any_is_roomy, any_test, cycle_is_most, roomy_is_any}
use Rattle.bus_design.proofs.Made.{made_is_valid, roomy_many}
use Rattle.bus_design.proofs.Plans.{sorted}
use Rattle.bus_made.specs.Orders.{FreeIsFreest, IsReordered, freed}
use Rattle.bus_made.proofs.Freed.{freed_senders, freed_speakers, freed_valid}

-- ---- the same in another order
swapped : {X : Type 0} (a b : X) (xs : List X) → IsPermutation (a ∷ (b ∷ xs)) (b ∷ (a ∷ xs))
swapped a b xs = IsPermutation-middle (a ∷ []) b xs

inserted : (key : Sender → ℕ) (a : Sender) (bs : List Sender) → IsPermutation (a ∷ bs) (insert key a bs)
inserted key a [] = IsPermutation-refl (a ∷ [])
inserted key a (b ∷ bs) =
    elim (nat_lt (key a) (key b)) as (λ w. IsPermutation (a ∷ (b ∷ bs)) (cond w (a ∷ (b ∷ bs)) (b ∷ insert key a bs))) [
      | true ↦ IsPermutation-refl (a ∷ (b ∷ bs))
      | false ↦ IsPermutation-trans (a ∷ (b ∷ bs)) (b ∷ (a ∷ bs)) (b ∷ insert key a bs) (swapped a b bs)
          (IsPermutation-cons b (a ∷ bs) (insert key a bs) (inserted key a bs))
    ]

turned : (key : Sender → ℕ) (bs : List Sender) → IsPermutation bs (sort key bs)
turned key [] = IsPermutation-refl []
turned key (a ∷ bs) =
    IsPermutation-trans (a ∷ bs) (a ∷ sort key bs) (insert key a (sort key bs)) (IsPermutation-cons a bs (sort key bs) (turned key bs)) (inserted key a (sort key bs))

put : (a : Speaker) (bs : List Speaker) → IsPermutation (a ∷ bs) (free.insert a bs)
put a [] = IsPermutation-refl (a ∷ [])
put a (b ∷ bs) =
    elim (nat_lt a.shortest b.shortest) as (λ w. IsPermutation (a ∷ (b ∷ bs)) (cond w (b ∷ free.insert a bs) (a ∷ (b ∷ bs)))) [
      | true ↦ IsPermutation-trans (a ∷ (b ∷ bs)) (b ∷ (a ∷ bs)) (b ∷ free.insert a bs) (swapped a b bs)
          (IsPermutation-cons b (a ∷ bs) (free.insert a bs) (put a bs))
      | false ↦ IsPermutation-refl (a ∷ (b ∷ bs))
    ]

by_shortest : (bs : List Speaker) → IsPermutation bs (free.by_shortest bs)
by_shortest [] = IsPermutation-refl []
by_shortest (a ∷ bs) =
    IsPermutation-trans (a ∷ bs) (a ∷ free.by_shortest bs) (free.insert a (free.by_shortest bs)) (IsPermutation-cons a bs (free.by_shortest bs) (by_shortest bs))
    (put a (free.by_shortest bs))

-- ---- messages that last
unlasting : Bounds → Speaker → Bool
unlasting bounds a = not (nat_lt 0 (least_time bounds a.shortest))

lasts_is : (bounds : Bounds) (senders : List Sender)
    → list_all (λ a. nat_lt 0 (least_time bounds (shortest a))) senders ≡ not (list_any (unlasting bounds) (map speaker_of senders))
unfolding unlasting
lasts_is bounds [] = refl
lasts_is bounds (a ∷ senders) = both (nat_lt 0 (least_time bounds (shortest a))) _ _ (lasts_is bounds senders) where
  both : (b c d : Bool) → c ≡ not d → (b && c) ≡ not (not b || d)
  both true c d e = e
  both false c d e = refl

lasting_in : (bounds : Bounds) (table other : Table) → IsPermutation (speakers_of table) (speakers_of other) → lasts bounds other ≡ true
    → lasts bounds (freed table) ≡ true
lasting_in bounds table other same h =
    let p = unlasting bounds in
    let own : list_any (unlasting bounds) (map speaker_of other.senders) ≡ list_any (unlasting bounds) (speakers_of other) =
    list_any-IsPermutation (unlasting bounds) _ _ (IsPermutation-map speaker_of _ _ (turned (turn_key other.mode) other.senders)) in
    let moved : list_any (unlasting bounds) (speakers_of table) ≡ list_any (unlasting bounds) (speakers_of other) =
    list_any-IsPermutation (unlasting bounds) (speakers_of table) (speakers_of other) same in
    let by : list_any (unlasting bounds) (speakers_of table) ≡ list_any (unlasting bounds) (free.by_shortest (speakers_of table)) =
    list_any-IsPermutation (unlasting bounds) (speakers_of table) (free.by_shortest (speakers_of table)) (by_shortest (speakers_of table)) in
    lasts_is bounds (freed table).senders
    ∙ ap (λ l. not (list_any (unlasting bounds) l)) (freed_senders table)
    ∙ ap not (sym by ∙ moved ∙ sym own)
    ∙ sym (lasts_is bounds other.senders)
    ∙ h

-- ---- another order's gaps in this one
own_gaps : (order : List Sender) → with_gaps order (map (λ a. a.tg) order) ≡ order
own_gaps [] = refl
own_gaps (a ∷ order) = ap (λ l. a ∷ l) (own_gaps order)

itself : (other : Table) → IsTrue (is_valid other) → other.mode ≡ Aperiodic → IsAnother other other (map (λ a. a.tg) (turn_order other))
itself other valid mode = record {
  valid = valid;
  mode = mode;
  count = length-map (turn_order other) (λ a. a.tg);
  order = sym (own_gaps (turn_order other));
}

record Here (bounds : Bounds) (table other : Table) : Type 0 where
  gaps : List ℕ
  made : Table
  another : IsAnother (freed table) made gaps
  any : level_of bounds made ≡ Any
  cycle : most_apart bounds made ≡ most_apart bounds other

here : (bounds : Bounds) (table other : Table) → bounds.clocks ≤ most_clocks → IsTrue (is_valid table) → table.mode ≡ Aperiodic
    → IsReordered table other → level_of bounds other ≡ Any → Here bounds table other
here bounds table other within valid mode re any =
    let gaps : List ℕ = map (λ a. a.tg) (turn_order other) in
    let own = itself other re.valid re.mode in
    let roomy = any_is_roomy bounds other other gaps within own any in
    let moved = free_order_is_best bounds (speakers_of table) (speakers_of other) other.sg gaps within re.same roomy in
    let same = freed_speakers table in
    let fit : AreRoomy bounds (speakers_of (freed table)) other.sg gaps = subst (λ l. AreRoomy bounds l other.sg gaps) (sym same) moved.0 in
    let made : Table = made_table (freed table) other.sg gaps in
    let another : IsAnother (freed table) made gaps = record {
      valid = made_is_valid bounds (freed table) other.sg gaps within (freed_valid table valid mode) refl fit;
      mode = refl;
      count = roomy_many bounds (freed table) other.sg gaps fit;
      order = sorted bounds other.sg _ (turn_order (freed table)) gaps _ within fit.taken;
    } in
    let lasting : lasts bounds other ≡ true =
    (and_parts (lasts bounds other) _ (any_test (lasts bounds other && order_holds (rooms_of bounds other)) (holds (rooms_of bounds other).interval) (holds (rooms_of bounds other).cycle) any).0).0 in
    record {
      gaps = gaps;
      made = made;
      another = another;
      any = roomy_is_any bounds (freed table) made gaps another refl
          (lasts_too bounds (freed table) made gaps another (lasting_in bounds table other re.same lasting)) fit;
      cycle = cycle_is_most bounds (freed table) made gaps another ∙ ap (λ l. cycle_of bounds l other.sg gaps) same ∙ moved.1
          ∙ sym (cycle_is_most bounds other other gaps own);
    }

pub free_is_freest : FreeIsFreest
free_is_freest bounds table within valid mode = record {
  best = λ made other is re any. (let h = here bounds table other within valid mode re any in
      let l = is.best h.made h.gaps h.another h.any in
      let e = h.cycle in
      omega (arith, l, e));
  none = λ other none re any. (let h = here bounds table other within valid mode re any in none h.made h.gaps h.another h.any);
}
