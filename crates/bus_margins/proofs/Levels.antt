-- The laws of levels.
use Rattle.std.specs.Prelude.{◌↔◌}
use Rattle.std.proofs.Common.{arith, ◌≡◌, ◌≢◌, ◌<◌, ◌⊎◌, Bool, true, false, cond, ◌&&◌, List, [], ◌∷◌}
use Rattle.std.proofs.Common.{refl, inl, inr}
use Rattle.std.proofs.lemmas.Bool.{and_parts, and_from}
use Rattle.bus_table.specs.Tables.{Sender, Table}
use Rattle.bus_table.specs.Turns.{turn_order}
use Rattle.bus_table.proofs.ValidLaws.{valid_facts}
use Rattle.bus_bounds.specs.Bounds.{Bounds}
use Rattle.bus_clocks.specs.Buses.{among}
use Rattle.bus_clocks.specs.Room.{LeavesRoom, HasCycle}
use Rattle.bus_clocks.specs.Rounds as clocks
use Rattle.bus_clocks.proofs.Orders.{any_start_settles}
use Rattle.bus_clocks.proofs.Starts.{real_clocks_keep_order}
use Rattle.bus_clocks.proofs.GrowingAlone.{joining_is_orderly}
use Rattle.bus_margins.specs.declared.level.Level.TheVariants.{Any, Common, Neither}
use Rattle.bus_margins.specs.Times.{most_time}
use Rattle.bus_margins.specs.Least.{holds}
use Rattle.bus_margins.specs.Rooms.{lasts, rooms_in, rooms_of, order_holds, most_spoken}
use Rattle.bus_margins.specs.Buses.{bus_of, bus_in}
use Rattle.bus_margins.specs.Laws.{IsAperiodic, AnyIsRoom, AnySettles, AnyJoins, LevelIsRoom, LevelKeepsOrder}
use Rattle.bus_margins.proofs.Apart.{most_spoken_is}
use Rattle.bus_margins.proofs.Ordering.{Ordered, ordered}
use Rattle.bus_margins.proofs.FactLemmas.{lasting_told, lasting_tell, order_told, order_tell, interval_told, interval_tells, cycle_told, cycle_tells}
use Rattle.bus_margins.proofs.WiderLemmas.{interval_cycle}
use Rattle.bus_margins.proofs.Roomy.{room_from, lasting_of, facts_of, starts_from, lasts_of, cycle_from, cycle_of}

-- a level by its rules: those of both, intervals and cycles
any_test : (x i c : Bool) → cond x (cond i Any (cond c Common Neither)) Neither ≡ Any → (x ≡ true) × (i ≡ true)
any_test true true c h = (refl, refl)
any_test true false true h = absurd (cc)
any_test true false false h = absurd (cc)
any_test false i c h = absurd (cc)

test_any : (x i c : Bool) → x ≡ true → i ≡ true → cond x (cond i Any (cond c Common Neither)) Neither ≡ Any
test_any true true c h k = refl
test_any true false c h k = absurd (cc)
test_any false i c h k = absurd (cc)

some_test : (x i c : Bool) → cond x (cond i Any (cond c Common Neither)) Neither ≢ Neither → (x ≡ true) × ((i ≡ true) ⊎ (c ≡ true))
some_test true true c h = (refl, inl refl)
some_test true false true h = (refl, inr refl)
some_test true false false h = absurd (h refl)
some_test false i c h = absurd (h refl)

test_some : (x i c : Bool) → x ≡ true → c ≡ true → cond x (cond i Any (cond c Common Neither)) Neither ≢ Neither
test_some true true c h k e = absurd (cc)
test_some true false true h k e = absurd (cc)
test_some true false false h k e = absurd (cc)
test_some false i c h k e = absurd (cc)

-- the rules of both levels are room
room_told : (bounds : Bounds) (table : Table) (order : List Sender) → Ordered table order
    → (lasts bounds table && order_holds (rooms_in bounds table order)) ≡ true → LeavesRoom (bus_in bounds table order)
room_told bounds table order ordered h =
    let p = and_parts _ _ h in
    room_from bounds table order ordered.some (λ a i. lasting_told bounds table.senders p.0 a (ordered.known a i)) (order_told bounds table order p.1)

room_tells : (bounds : Bounds) (table : Table) (order : List Sender) → Ordered table order → LeavesRoom (bus_in bounds table order)
    → (lasts bounds table && order_holds (rooms_in bounds table order)) ≡ true
room_tells bounds table order ordered r =
    and_from _ _ (lasting_tell bounds table.senders (λ a i. lasting_of bounds table order r a (ordered.all a i)))
    (order_tell bounds table order (facts_of bounds table order r))

cycle_is : (bounds : Bounds) (table : Table) (order : List Sender) → Ordered table order
    → (holds (rooms_in bounds table order).cycle ≡ true) ↔ HasCycle (bus_in bounds table order)
cycle_is bounds table [] ordered = absurd (let s : 0 < 0 = ordered.some in omega arith)
cycle_is bounds table (first ∷ others) ordered = (
  (λ h. cycle_from bounds table first others ordered (cycle_told bounds table first others h)),
  (λ c. cycle_tells bounds table first others (cycle_of bounds table first others ordered c)),
)

order_of : (table : Table) → IsAperiodic table → Ordered table (turn_order table)
order_of table asked = ordered table (valid_facts table asked.valid)

pub any_is_room : AnyIsRoom
any_is_room bounds table asked =
    let stands = order_of table asked in (
      (λ h.
          (let p = any_test (lasts bounds table && order_holds (rooms_of bounds table)) (holds (rooms_of bounds table).interval) (holds (rooms_of bounds table).cycle) h in (
            room_told bounds table (turn_order table) stands p.0,
            starts_from bounds table (turn_order table) (interval_told bounds table (turn_order table) p.1),
          ))),
      (λ r.
          test_any (lasts bounds table && order_holds (rooms_of bounds table)) (holds (rooms_of bounds table).interval) (holds (rooms_of bounds table).cycle)
          (room_tells bounds table (turn_order table) stands r.0) (interval_tells bounds table (turn_order table) (lasts_of bounds table (turn_order table) r.1))),
    )

pub level_is_room : LevelIsRoom
level_is_room bounds table asked =
    let stands = order_of table asked in
    let cycle = cycle_is bounds table (turn_order table) stands in (
      (λ h.
          (let p = some_test (lasts bounds table && order_holds (rooms_of bounds table)) (holds (rooms_of bounds table).interval) (holds (rooms_of bounds table).cycle) h in (
            room_told bounds table (turn_order table) stands p.0,
            cycle.0 (elim p.1 [ inl i ↦ interval_cycle bounds table (turn_order table) stands i | inr c ↦ c ]),
          ))),
      (λ r.
          test_some (lasts bounds table && order_holds (rooms_of bounds table)) (holds (rooms_of bounds table).interval) (holds (rooms_of bounds table).cycle)
          (room_tells bounds table (turn_order table) stands r.0) (cycle.1 r.1)),
    )

pub any_settles : AnySettles
any_settles bounds table c up asked level ok have alone =
    let r = (any_is_room bounds table asked).0 level in
    let w = any_start_settles (bus_of bounds table) c up (most_time bounds table.sg) r.0 r.1 ok have alone (λ k h. omega arith) in
    let spoken : clocks.most_spoken (among (bus_of bounds table)) ≡ most_spoken bounds table.senders = most_spoken_is bounds table in
    (w.0, omega (arith, w.1, spoken), w.2)

pub any_joins : AnyJoins
any_joins bounds table c v asked level ok have join =
    let r = (any_is_room bounds table asked).0 level in joining_is_orderly (bus_of bounds table) c v r.0 r.1 ok have join

pub level_keeps_order : LevelKeepsOrder
level_keeps_order bounds table c asked level ok cold powered even =
    let r = (level_is_room bounds table asked).0 level in real_clocks_keep_order (bus_of bounds table) c r.0 (inr r.1) ok cold powered even
