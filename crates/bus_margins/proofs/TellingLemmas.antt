-- What the code goes through in turn order.
use Rattle.std.specs.Prelude.{slice_get}
use Rattle.std.specs.List.{AllByRecursion}
use Rattle.std.proofs.Common.{arith, ◌≡◌, ◌≢◌, ℕ, zero, suc, ◌+◌, ◌-◌, ◌<◌, ◌≤◌, false, List, [], ◌∷◌, length, take, Option, Some, None}
use Rattle.std.proofs.Common.{refl, sym, subst, add-one}
use Rattle.std.proofs.lemmas.Bool.Decides.{nat_tests}
use Rattle.std.proofs.lemmas.List.{take_all}
use Rattle.bus_table.specs.declared.mode.Mode.TheVariants.{Aperiodic}
use Rattle.bus_table.specs.Tables.{Sender, Table}
use Rattle.bus_table.specs.Turns.{turn_order, turn_key}
use Rattle.bus_table.specs.inside.Facts.{TableFacts}
use Rattle.bus_table.specs.inside.Orders.{Rises, RisesBehind}
use Rattle.bus_table.proofs.TurnLaws.{order_rises, order_length}
use Rattle.bus_bounds.specs.Bounds.{Bounds, most_clocks}
use Rattle.bus_margins.specs.declared.room.Room.{Room}
use Rattle.bus_margins.specs.declared.room.Rooms.{Rooms}
use Rattle.bus_margins.specs.declared.rule.Rule.{Rule}
use Rattle.bus_margins.specs.declared.rule.Rule.TheVariants.{Whole, Drop, Waiting, Interval, Cycle}
use Rattle.bus_margins.specs.declared.rule.PairRule.{PairRule}
use Rattle.bus_margins.specs.declared.rule.PairRule.TheVariants.{Turns, Opening, Joining}
use Rattle.bus_margins.specs.Times.{least_time}
use Rattle.bus_margins.specs.Least.{is_less, lesser, least}
use Rattle.bus_margins.specs.Rooms.{pairs, with_others, behind, waiting_room, joining_least, cycle_least, alone_room, first_cycle_room, rooms_in}
use Rattle.bus_margins.specs.inside.Telling.{room_by, least_behind, least_of, pair_room, left_out, spoken_of, neighbours}
use Rattle.bus_margins.proofs.TimeLemmas.{least_time_more}
use Rattle.bus_margins.proofs.LeastLemmas.{Nearest, neighbours_tell, others_tell, taken_more, near_more}

-- one sender more behind the first
pub behind_more : (bounds : Bounds) (table : Table) (rule : Rule) (order : List Sender) (k : ℕ) (first x : Sender) → 1 ≤ k
    → slice_get order 0 ≡ Some first → slice_get order k ≡ Some x
    → least_behind bounds table rule (take (k + 1) order) ≡ lesser (least_behind bounds table rule (take k order)) (Some (room_by bounds table first rule x))
behind_more bounds table rule [] k first x low h g = absurd (let w : None ≡ Some first = h in cc)
behind_more bounds table rule (a ∷ others) zero first x low h g = absurd (omega arith)
behind_more bounds table rule (a ∷ others) (suc j) first x low h g =
    let w : Some a ≡ Some first = h in
    let e : a ≡ first = cc in
    rw (← e) (rw add-one (taken_more (room_by bounds table a rule) others j x g))

-- one pair of neighbours more
near_all : (room : Sender → Sender → Room) (order : List Sender) (k : ℕ) (a b : Sender) → 1 ≤ k
    → slice_get order (k - 1) ≡ Some a → slice_get order k ≡ Some b
    → least (neighbours room (take (k + 1) order)) ≡ lesser (least (neighbours room (take k order))) (Some (room a b))
near_all room order zero a b low h g = absurd (omega arith)
near_all room order (suc j) a b low h g =
    let e : suc j - 1 ≡ j = omega arith in
    let at : slice_get order j ≡ Some a = subst (λ n. slice_get order n ≡ Some a) e h in
    rw add-one (near_more room order j a b at g)

near_behind : (room : Sender → Sender → Room) (order : List Sender) (k : ℕ) (a b : Sender) → 2 ≤ k
    → slice_get order (k - 1) ≡ Some a → slice_get order k ≡ Some b
    → least (neighbours room (behind (take (k + 1) order))) ≡ lesser (least (neighbours room (behind (take k order)))) (Some (room a b))
near_behind room [] k a b low h g = absurd (let w : None ≡ Some a = h in cc)
near_behind room (o ∷ ys) zero a b low h g = absurd (omega arith)
near_behind room (o ∷ ys) (suc zero) a b low h g = absurd (omega arith)
near_behind room (o ∷ ys) (suc (suc j)) a b low h g =
    let e : suc (suc j) - 1 ≡ suc j = omega arith in
    let at : slice_get (o ∷ ys) (suc j) ≡ Some a = subst (λ n. slice_get (o ∷ ys) n ≡ Some a) e h in
    rw add-one (near_more room ys j a b at g)

pub pair_more : (room : Sender → Sender → Room) (rule : PairRule) (order : List Sender) (k : ℕ) (a b : Sender) → left_out rule + 1 ≤ k
    → slice_get order (k - 1) ≡ Some a → slice_get order k ≡ Some b
    → least (neighbours room (spoken_of rule (take (k + 1) order))) ≡ lesser (least (neighbours room (spoken_of rule (take k order)))) (Some (room a b))
pair_more room Turns order k a b low h g = near_behind room order k a b (let l : 1 + 1 ≤ k = low in omega arith) h g
pair_more room Opening order k a b low h g = near_all room order k a b (let l : 0 + 1 ≤ k = low in omega arith) h g
pair_more room Joining order k a b low h g = near_all room order k a b (let l : 0 + 1 ≤ k = low in omega arith) h g

-- no pair yet
pub pair_first : (room : Sender → Sender → Room) (rule : PairRule) (order : List Sender)
    → None ≡ least (neighbours room (spoken_of rule (take (left_out rule + 1) order)))
pair_first room Turns [] = refl
pair_first room Turns (a ∷ []) = refl
pair_first room Turns (a ∷ b ∷ order) = refl
pair_first room Opening [] = refl
pair_first room Opening (a ∷ order) = refl
pair_first room Joining [] = refl
pair_first room Joining (a ∷ order) = refl

-- in turn order the next sender leaves no more room than those behind it
near_by : (bounds : Bounds) (table : Table) (rule : PairRule) (a b c : Sender) → bounds.clocks ≤ most_clocks → b.tg < c.tg
    → is_less (pair_room bounds table rule a c) (pair_room bounds table rule a b) ≡ false
near_by bounds table Turns a b c h l =
    let m : least_time bounds b.tg ≤ least_time bounds c.tg = least_time_more bounds b.tg c.tg h (omega arith) in grind (arith, nat_tests, m)
near_by bounds table Opening a b c h l =
    let m : least_time bounds b.tg ≤ least_time bounds c.tg = least_time_more bounds b.tg c.tg h (omega arith) in grind (arith, nat_tests, m)
near_by bounds table Joining a b c h l = grind (arith, nat_tests)

rises_near : (bounds : Bounds) (table : Table) (rule : PairRule) (a b : Sender) (senders : List Sender) → bounds.clocks ≤ most_clocks
    → RisesBehind (turn_key Aperiodic) b senders
    → AllByRecursion (λ c. is_less (pair_room bounds table rule a c) (pair_room bounds table rule a b) ≡ false) senders
rises_near bounds table rule a b [] h r = tt
rises_near bounds table rule a b (c ∷ senders) h r = (near_by bounds table rule a b c h r.0, rises_near bounds table rule a b senders h r.1)

rises_nearest : (bounds : Bounds) (table : Table) (rule : PairRule) (order : List Sender) → bounds.clocks ≤ most_clocks
    → Rises (turn_key Aperiodic) order → Nearest (pair_room bounds table rule) order
rises_nearest bounds table rule [] h r = tt
rises_nearest bounds table rule (a ∷ []) h r = tt
rises_nearest bounds table rule (a ∷ b ∷ senders) h r =
    (rises_near bounds table rule a b senders h r.1.0, rises_nearest bounds table rule (b ∷ senders) h r.1)

rises_spoken : (rule : PairRule) (key : Sender → ℕ) (order : List Sender) → Rises key order → Rises key (spoken_of rule order)
rises_spoken Turns key [] r = tt
rises_spoken Turns key (a ∷ order) r = r.1
rises_spoken Opening key order r = r
rises_spoken Joining key order r = r

pub aperiodic_rises : (table : Table) → table.mode ≡ Aperiodic → TableFacts table → Rises (turn_key Aperiodic) (turn_order table)
aperiodic_rises table mode facts = subst (λ m. Rises (turn_key m) (turn_order table)) mode (order_rises table facts)

pub pair_tell : (bounds : Bounds) (table : Table) (rule : PairRule) → table.mode ≡ Aperiodic → TableFacts table → bounds.clocks ≤ most_clocks
    → least (pairs (pair_room bounds table rule) (spoken_of rule (turn_order table)))
    ≡ least (neighbours (pair_room bounds table rule) (spoken_of rule (turn_order table)))
pair_tell bounds table rule mode facts h =
    neighbours_tell (pair_room bounds table rule) (spoken_of rule (turn_order table))
    (rises_nearest bounds table rule (spoken_of rule (turn_order table)) h
    (rises_spoken rule (turn_key Aperiodic) (turn_order table) (aperiodic_rises table mode facts)))

-- all senders
pub whole_order : (table : Table) (k : ℕ) → length table.senders ≤ k → take k (turn_order table) ≡ turn_order table
whole_order table k h = take_all k (turn_order table) (omega (arith, order_length table))

-- the first with those behind it
pub least_all : (bounds : Bounds) (table : Table) (rule : Rule) (order : List Sender) (first : Sender) → slice_get order 0 ≡ Some first
    → lesser (Some (room_by bounds table first rule first)) (least_behind bounds table rule order) ≡ least_of bounds table rule order
least_all bounds table rule [] first h = absurd (let w : None ≡ Some first = h in cc)
least_all bounds table rule (a ∷ others) first h =
    let w : Some a ≡ Some first = h in
    let e : first ≡ a = cc in
    rw e refl

pub cycle_all : (bounds : Bounds) (table : Table) (order : List Sender) (first : Sender) → slice_get order 0 ≡ Some first
    → lesser (Some (first_cycle_room bounds table first)) (least_behind bounds table Cycle order) ≡ cycle_least bounds table order
cycle_all bounds table [] first h = absurd (let w : None ≡ Some first = h in cc)
cycle_all bounds table (a ∷ others) first h =
    let w : Some a ≡ Some first = h in
    let e : first ≡ a = cc in
    rw e refl

pub joining_alone : (bounds : Bounds) (table : Table) (order : List Sender) (first : Sender) → slice_get order 0 ≡ Some first → length order ≡ 1
    → Some (alone_room bounds table first) ≡ joining_least bounds table order
joining_alone bounds table [] first h n = absurd (let w : None ≡ Some first = h in cc)
joining_alone bounds table (a ∷ []) first h n =
    let w : Some a ≡ Some first = h in
    let e : first ≡ a = cc in
    rw e refl
joining_alone bounds table (a ∷ b ∷ order) first h n = absurd (let m : suc (suc (length order)) ≡ 1 = n in omega arith)

pub joining_others : (bounds : Bounds) (table : Table) (order : List Sender) → length order ≢ 1
    → least (pairs (pair_room bounds table Joining) order) ≡ joining_least bounds table order
joining_others bounds table [] n = refl
joining_others bounds table (a ∷ []) n = absurd (n refl)
joining_others bounds table (a ∷ b ∷ order) n = refl

pub waiting_same : (bounds : Bounds) (table : Table) (a b c : Sender) → is_less (waiting_room bounds table a b) (waiting_room bounds table a c) ≡ false
waiting_same bounds table a b c = grind (arith, nat_tests)

pub waiting_alone : (bounds : Bounds) (table : Table) (order : List Sender) → length order ≡ 1
    → None ≡ least (with_others (waiting_room bounds table) [] order)
waiting_alone bounds table [] n = refl
waiting_alone bounds table (a ∷ []) n = refl
waiting_alone bounds table (a ∷ b ∷ order) n = absurd (let m : suc (suc (length order)) ≡ 1 = n in omega arith)

pub waiting_all : (bounds : Bounds) (table : Table) (order : List Sender) (first second : Sender)
    → slice_get order 0 ≡ Some first → slice_get order 1 ≡ Some second
    → lesser (Some (room_by bounds table second Waiting first)) (least_behind bounds table Waiting order)
    ≡ least (with_others (waiting_room bounds table) [] order)
waiting_all bounds table [] first second h g = absurd (let w : None ≡ Some first = h in cc)
waiting_all bounds table (a ∷ []) first second h g = absurd (let w : None ≡ Some second = g in cc)
waiting_all bounds table (a ∷ b ∷ order) first second h g =
    let w : Some a ≡ Some first = h in
    let v : Some b ≡ Some second = g in
    let e : first ≡ a = cc in
    let f : second ≡ b = cc in
    rw e (rw f (sym (others_tell (waiting_room bounds table) a b order (waiting_same bounds table))))

-- the rooms together
unfoldable made : Option Room → Option Room → Option Room → Option Room → Option Room → Option Room → Option Room → Option Room → Rooms
made a b c d e f g h = record { whole = a; drop = b; turns = c; opening = d; waiting = e; joining = f; interval = g; cycle = h }

same_rooms : (a b : Rooms) → a.whole ≡ b.whole → a.drop ≡ b.drop → a.turns ≡ b.turns → a.opening ≡ b.opening → a.waiting ≡ b.waiting
    → a.joining ≡ b.joining → a.interval ≡ b.interval → a.cycle ≡ b.cycle → a ≡ b
unfolding made
same_rooms a b p q r s t u v w = same a b p q r s t u v w where
  same : (a b : Rooms) → a.whole ≡ b.whole → a.drop ≡ b.drop → a.turns ≡ b.turns → a.opening ≡ b.opening → a.waiting ≡ b.waiting
      → a.joining ≡ b.joining → a.interval ≡ b.interval → a.cycle ≡ b.cycle
      → made a.whole a.drop a.turns a.opening a.waiting a.joining a.interval a.cycle ≡ made b.whole b.drop b.turns b.opening b.waiting b.joining b.interval b.cycle
  same a b p q r s t u v w = cc

pub rooms_told : (bounds : Bounds) (table : Table) (order : List Sender) (rooms : Rooms)
    → rooms.whole ≡ least_of bounds table Whole order
    → rooms.drop ≡ least_behind bounds table Drop order
    → rooms.turns ≡ least (pairs (pair_room bounds table Turns) (behind order))
    → rooms.opening ≡ least (pairs (pair_room bounds table Opening) order)
    → rooms.waiting ≡ least (with_others (waiting_room bounds table) [] order)
    → rooms.joining ≡ joining_least bounds table order
    → rooms.interval ≡ least_of bounds table Interval order
    → rooms.cycle ≡ cycle_least bounds table order
    → rooms ≡ rooms_in bounds table order
rooms_told bounds table [] rooms p q r s t u v w = same_rooms rooms (rooms_in bounds table []) p q r s t u v w
rooms_told bounds table (first ∷ others) rooms p q r s t u v w = same_rooms rooms (rooms_in bounds table (first ∷ others)) p q r s t u v w
