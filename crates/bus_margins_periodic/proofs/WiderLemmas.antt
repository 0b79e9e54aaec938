-- What holds with wider bounds holds with narrower ones: order in any case, and room for turns where clocks are as exact.
use Rattle.std.proofs.Common.{◌≡◌, ℕ, zero, suc, ◌+◌, ◌-◌, ◌*◌, ◌<◌, ◌≤◌, ◌⊎◌, max, List, [], ◌∷◌, length, IsTrue, inl, inr, arith, ap}
use Rattle.std.proofs.Math.Nat.{max-le, le-max_left, le-max_right, mul-le-mul_left}
use Rattle.bus_table.specs.Tables.{Sender, Table}
use Rattle.bus_table.specs.Timers.{quiet_of}
use Rattle.bus_table.specs.Lengths.{shortest, longest}
use Rattle.bus_table.specs.Turns.{turn_order}
use Rattle.bus_table.specs.Valid.{is_valid}
use Rattle.bus_bounds.specs.Bounds.{Bounds, AreBounds, drift}
use Rattle.bus_bounds.proofs.BoundLaws.{drift_faster}
use Rattle.bus_clocks.specs.Buses.{sum_below}
use Rattle.bus_drift.specs.Leading.{NoneOvertakenInRound, HasPause, least_offset, round_end}
use Rattle.bus_drift.specs.Room.{HearsOut, HasRoomForSync, NoneOvertaken, BeginsApart, BeginsInTurn}
use Rattle.bus_drift.specs.Turns.{who, slowest, fastest, longest_step, shortest_step}
use Rattle.bus_drift.proofs.Greatest.{offsets_are_least}
use Rattle.bus_drift.proofs.Sums.{between_less}
use Rattle.bus_margins.specs.Buses.{at_place, bus_of}
use Rattle.bus_margins.specs.Times.{least_time, most_time, drop_of}
use Rattle.bus_margins_periodic.specs.Buses.{soon_by, late_by, soon_of, late_of}
use Rattle.bus_margins_periodic.specs.Laws.{HasTurns, HasLead}
use Rattle.bus_margins_periodic.proofs.TableLemmas.{Stands, stands_at, sound, opens}

-- the latter are wider
pub record Wider (p q : Bounds) : Type 0 where
  pub clocks : p.clocks ≤ q.clocks
  pub delay : p.delay ≤ q.delay
  pub jitter : p.jitter ≤ q.jitter

placed_less : (f g : Sender → ℕ) → ((a : Sender) → f a ≤ g a) → (order : List Sender) (k : ℕ) → at_place f order k ≤ at_place g order k
placed_less f g less [] k = omega arith
placed_less f g less (a ∷ order) zero = less a
placed_less f g less (a ∷ order) (suc k) = placed_less f g less order k

below_less : (f g : ℕ → ℕ) → ((l : ℕ) → f l ≤ g l) → (n : ℕ) → sum_below f n ≤ sum_below g n
below_less f g less zero = omega arith
below_less f g less (suc n) =
    let before : sum_below f n ≤ sum_below g n = below_less f g less n in
    let now : f n ≤ g n = less n in
    omega arith

max_less : (a b x y : ℕ) → a ≤ x → b ≤ y → max a b ≤ max x y
max_less a b x y less more =
    let l : x ≤ max x y = le-max_left x y in
    let m : y ≤ max x y = le-max_right x y in
    max-le (omega arith) (omega arith)

module _ (p q : Bounds) (table : Table) (range : AreBounds q) (w : Wider p q) where
  -- ---- times

  least : (bits : ℕ) → least_time q bits ≤ least_time p bits
  least bits =
      let more : drift p.clocks (500 * bits) ≤ drift q.clocks (500 * bits) = drift_faster p.clocks q.clocks (500 * bits) w.clocks range.clocks in
      let far : p.jitter ≤ q.jitter = w.jitter in
      omega arith

  most : (bits : ℕ) → most_time p bits ≤ most_time q bits
  most bits =
      let more : drift p.clocks (500 * bits) ≤ drift q.clocks (500 * bits) = drift_faster p.clocks q.clocks (500 * bits) w.clocks range.clocks in
      let far : p.jitter ≤ q.jitter = w.jitter in
      omega arith

  drops : drop_of p ≤ drop_of q
  drops =
      let more : drift p.clocks 2000 ≤ drift q.clocks 2000 = drift_faster p.clocks q.clocks 2000 w.clocks range.clocks in
      let far : p.jitter ≤ q.jitter = w.jitter in
      let late : p.delay ≤ q.delay = w.delay in
      omega arith

  tg_less : (k : ℕ) → (bus_of q table).tg_short k ≤ (bus_of p table).tg_short k
  tg_less k = placed_less (λ a. least_time q a.tg) (λ a. least_time p a.tg) (λ a. least a.tg) (turn_order table) k

  tg_more : (k : ℕ) → (bus_of p table).tg_long k ≤ (bus_of q table).tg_long k
  tg_more k = placed_less (λ a. most_time p a.tg) (λ a. most_time q a.tg) (λ a. most a.tg) (turn_order table) k

  shorter : (k : ℕ) → (bus_of q table).shortest k ≤ (bus_of p table).shortest k
  shorter k = placed_less (λ a. least_time q (shortest a)) (λ a. least_time p (shortest a)) (λ a. least (shortest a)) (turn_order table) k

  longer : (k : ℕ) → (bus_of p table).longest k ≤ (bus_of q table).longest k
  longer k = placed_less (λ a. most_time p (longest a)) (λ a. most_time q (longest a)) (λ a. most (longest a)) (turn_order table) k

  sooner : (k : ℕ) → soon_of q table k ≤ soon_of p table k
  sooner k = placed_less (soon_by q table) (soon_by p table) (λ a. least (quiet_of table + a.at)) (turn_order table) k

  late_more : (a : Sender) → late_by p table a ≤ late_by q table a
  late_more a =
      let gap : most_time p a.tg ≤ most_time q a.tg = most a.tg in
      let sync : most_time p table.sg ≤ most_time q table.sg = most table.sg in
      let both : most_time p table.sg + most_time p a.tg ≤ most_time q table.sg + most_time q a.tg = omega (arith, gap, sync) in
      let due : max (most_time p (quiet_of table + a.at)) (most_time p table.sg + most_time p a.tg)
      ≤ max (most_time q (quiet_of table + a.at)) (most_time q table.sg + most_time q a.tg) =
      max_less (most_time p (quiet_of table + a.at)) (most_time p table.sg + most_time p a.tg) (most_time q (quiet_of table + a.at))
      (most_time q table.sg + most_time q a.tg) (most (quiet_of table + a.at)) both in
      sum_more (max (most_time p (quiet_of table + a.at)) (most_time p table.sg + most_time p a.tg))
      (max (most_time q (quiet_of table + a.at)) (most_time q table.sg + most_time q a.tg)) p.delay q.delay due w.delay where
        sum_more : (a b x y : ℕ) → a ≤ b → x ≤ y → a + x ≤ b + y
        sum_more a b x y one two = omega arith

  later : (k : ℕ) → late_of p table k ≤ late_of q table k
  later k = placed_less (late_by p table) (late_by q table) late_more (turn_order table) k

  -- ---- order

  slow_more : (i j : ℕ) → slowest (bus_of p table) i j ≤ slowest (bus_of q table) i j
  slow_more i j =
      between_less (longest_step (bus_of p table)) (longest_step (bus_of q table)) (λ l.
      let message : (bus_of p table).longest (who (bus_of p table) l) ≤ (bus_of q table).longest (who (bus_of p table) l) = longer (who (bus_of p table) l) in
      let gap : (bus_of p table).tg_long (who (bus_of p table) (suc l)) ≤ (bus_of q table).tg_long (who (bus_of p table) (suc l)) =
      tg_more (who (bus_of p table) (suc l)) in
      let late : p.delay ≤ q.delay = w.delay in
      step_more _ _ _ _ _ _ message late gap) i j where
        step_more : (a b c x y z : ℕ) → a ≤ x → b ≤ y → c ≤ z → a + b + c ≤ x + y + z
        step_more a b c x y z one two three = omega arith

  fast_less : (i j : ℕ) → fastest (bus_of q table) i j ≤ fastest (bus_of p table) i j
  fast_less i j =
      between_less (shortest_step (bus_of q table)) (shortest_step (bus_of p table)) (λ l.
      let message : (bus_of q table).shortest (who (bus_of p table) l) ≤ (bus_of p table).shortest (who (bus_of p table) l) = shorter (who (bus_of p table) l) in
      let gap : (bus_of q table).tg_short (who (bus_of p table) (suc l)) ≤ (bus_of p table).tg_short (who (bus_of p table) (suc l)) =
      tg_less (who (bus_of p table) (suc l)) in
      step_less _ _ _ _ message gap) i j where
        step_less : (a b x y : ℕ) → a ≤ x → b ≤ y → a + b ≤ x + y
        step_less a b x y one two = omega arith

  -- where two are close, they are so with wider bounds
  closer : (i j a b : ℕ) → (i ≡ j) ⊎ ((bus_of p table).tg_short b ≤ (bus_of p table).tg_long a + 2 * p.delay)
      → (i ≡ j) ⊎ ((bus_of q table).tg_short b ≤ (bus_of q table).tg_long a + 2 * q.delay)
  closer i j a b (inl same) = inl same
  closer i j a b (inr near) = inr (wide _ _ _ _ p.delay q.delay near (tg_less b) (tg_more a) w.delay) where
    wide : (s t x y d e : ℕ) → s ≤ x + 2 * d → t ≤ s → x ≤ y → d ≤ e → t ≤ y + 2 * e
    wide s t x y d e near one two three = omega arith

  -- what is enough with wider bounds is enough
  enough : (slow slow' fast fast' : ℕ) → most_time q table.ti + slow' + q.delay < least_time q table.ti + fast' → slow ≤ slow' → fast' ≤ fast
      → most_time p table.ti + slow + p.delay < least_time p table.ti + fast
  enough slow slow' fast fast' h more less = sum _ _ _ _ _ _ _ _ _ _ h (most table.ti) (least table.ti) more less w.delay where
    sum : (tl ts tl' ts' s s' f f' d d' : ℕ) → tl' + s' + d' < ts' + f' → tl ≤ tl' → ts' ≤ ts → s ≤ s' → f' ≤ f → d ≤ d' → tl + s + d < ts + f
    sum tl ts tl' ts' s s' f f' d d' h a b e g i = omega arith

  pub narrow_order : NoneOvertaken (bus_of q table) → NoneOvertaken (bus_of p table)
  narrow_order order i j k known low less within close =
      enough (slowest (bus_of p table) i j) (slowest (bus_of q table) i j) (fastest (bus_of p table) i k) (fastest (bus_of q table) i k)
      (order i j k known low less within (closer i j (who (bus_of p table) j) (who (bus_of p table) k) close)) (slow_more i j) (fast_less i k)

  narrow_round : NoneOvertakenInRound (bus_of q table) → NoneOvertakenInRound (bus_of p table)
  narrow_round order i j k low less known close =
      enough (slowest (bus_of p table) i j) (slowest (bus_of q table) i j) (fastest (bus_of p table) i k) (fastest (bus_of q table) i k)
      (order i j k low less known (closer i j j k close)) (slow_more i j) (fast_less i k)

  pub narrow_clock : ((k : ℕ) → 0 < k → k < (bus_of q table).senders → (bus_of q table).ti_long k ≤ (bus_of q table).ti_short 0)
      → (k : ℕ) → 0 < k → k < (bus_of p table).senders → (bus_of p table).ti_long k ≤ (bus_of p table).ti_short 0
  narrow_clock clock k some known = chain _ _ _ _ (most table.ti) (clock k some known) (least table.ti) where
    chain : (a b c d : ℕ) → a ≤ b → b ≤ c → c ≤ d → a ≤ d
    chain a b c d one two three = omega arith

  -- ---- hearing and the beginning

  module _ (own : AreBounds p) (valid : IsTrue (is_valid table)) where
    narrow_hearing : HearsOut (bus_of q table) → HearsOut (bus_of p table)
    narrow_hearing hearing = record {
      some = hearing.some;
      lasting = (sound p table own valid).lasting;
      whole = λ k known. chain _ _ _ _ drops (hearing.whole k known) (tg_less k);
      heard = λ k known. chain _ _ _ _ w.delay (hearing.heard k known) (tg_less k);
    } where
      chain : (a b c d : ℕ) → a ≤ b → b ≤ c → c ≤ d → a ≤ d
      chain a b c d one two three = omega arith

    narrow_first : BeginsApart (bus_of q table) (soon_of q table) (late_of q table) → BeginsApart (bus_of p table) (soon_of p table) (late_of p table)
    narrow_first first = record {
      opens = opens p table own valid;
      synced = λ k some known. pair _ _ _ _ _ _ (first.synced k some known) (most table.sg) w.delay (sooner 0);
      apart = λ k known. whole _ _ _ _ _ _ _ _ _ _ (first.apart k known) (later k) (longer k) w.delay (tg_more (suc k)) (sooner (suc k));
    } where
      pair : (a b x y s t : ℕ) → x + y ≤ s → a ≤ x → b ≤ y → s ≤ t → a + b ≤ t
      pair a b x y s t h e f g = omega arith

      whole : (a b c d x y z u s t : ℕ) → x + y + z + u ≤ s → a ≤ x → b ≤ y → c ≤ z → d ≤ u → s ≤ t → a + b + c + d ≤ t
      whole a b c d x y z u s t h e f g i j = omega arith

    narrow_begin : BeginsInTurn (bus_of q table) (soon_of q table) (late_of q table) → BeginsInTurn (bus_of p table) (soon_of p table) (late_of p table)
    narrow_begin begin = record {
      first = narrow_first begin.first;
      round = whole _ _ _ _ _ _ _ _ _ _ _ _ begin.round (later last) (longer last) w.delay (tg_more 0) (sooner 0) (least table.ti);
      again = λ k known. pair _ _ _ _ _ _ _ _ (begin.again k known) (later last) w.delay (sooner k) (least table.ti);
    } where
      last : ℕ
      last = length (turn_order table) - 1

      pair : (a b x y s t v u : ℕ) → x + y < s + v → a ≤ x → b ≤ y → s ≤ t → v ≤ u → a + b < t + u
      pair a b x y s t v u h e f g i = omega arith

      whole : (a b c d x y z v s t m n : ℕ) → x + y + z + v ≤ s + m → a ≤ x → b ≤ y → c ≤ z → d ≤ v → s ≤ t → m ≤ n → a + b + c + d ≤ t + n
      whole a b c d x y z v s t m n h e f g i j k = omega arith

    -- ---- where clocks are as exact, a long timer is longer by as much as any

    module _ (same : p.clocks ≡ q.clocks) where
      longer_by : (bits : ℕ) → most_time q bits ≡ most_time p bits + (q.jitter - p.jitter)
      longer_by bits =
          let e : drift p.clocks (500 * bits) ≡ drift q.clocks (500 * bits) = ap (λ c. drift c (500 * bits)) same in
          let far : p.jitter ≤ q.jitter = w.jitter in
          omega arith

      tg_by : (k : ℕ) → k < length (turn_order table) → (bus_of q table).tg_long k ≡ (bus_of p table).tg_long k + (q.jitter - p.jitter)
      tg_by k known =
          let s : Stands (turn_order table) k = stands_at p table own valid k known in
          let a : (bus_of q table).tg_long k ≡ most_time q s.sender.tg = s.is (λ a. most_time q a.tg) in
          let b : (bus_of p table).tg_long k ≡ most_time p s.sender.tg = s.is (λ a. most_time p a.tg) in
          let by : most_time q s.sender.tg ≡ most_time p s.sender.tg + (q.jitter - p.jitter) = longer_by s.sender.tg in
          equal _ _ _ _ _ a b by where
            equal : (x y u v d : ℕ) → x ≡ u → y ≡ v → u ≡ v + d → x ≡ y + d
            equal x y u v d a b e = omega arith

      narrow_sync : HasRoomForSync (bus_of q table) → HasRoomForSync (bus_of p table)
      narrow_sync sync = record {
        gaps = (sound p table own valid).gaps;
        room = λ k known.
            less _ _ _ _ _ _ _ _ _ _ _ (length (turn_order table) - 1) (sync.room k known) (below_less (bus_of p table).longest (bus_of q table).longest longer (length (turn_order table)))
            (mul-le-mul_left (length (turn_order table)) (most table.sg)) (tg_by k known) (mul-le-mul_left (length (turn_order table) - 1) w.delay) (longer_by table.ti);
      } where
        less : (a b c d x y z v t u j n : ℕ) → x + y + z + v ≤ u + n → a ≤ x → b ≤ y → z ≡ c + j → d ≤ v → u ≡ t + j → a + b + c + d ≤ t + n
        less a b c d x y z v t u j n h one two three four five = omega arith

      pub narrow_turns : HasTurns q table → HasTurns p table
      narrow_turns room = record {
        hearing = narrow_hearing room.hearing;
        sync = narrow_sync room.sync;
        order = narrow_order room.order;
        begin = narrow_begin room.begin;
      }

      -- ---- where one leads

      offset_more : (k : ℕ) → least_offset (bus_of p table) (soon_of p table) (late_of p table) k ≤ least_offset (bus_of q table) (soon_of q table) (late_of q table) k
      offset_more zero = omega arith
      offset_more (suc k) =
          let before = offset_more k in
          max_less _ _ _ _ (minus _ _ _ _ (later (suc k)) (sooner 0)) (whole _ _ _ _ _ _ _ _ before (longer k) w.delay (tg_more (suc k))) where
            minus : (a b x y : ℕ) → a ≤ x → y ≤ b → a - b ≤ x - y
            minus a b x y one two = omega arith

            whole : (a b c d x y z v : ℕ) → a ≤ x → b ≤ y → c ≤ z → d ≤ v → a + b + c + d ≤ x + y + z + v
            whole a b c d x y z v e f g i = omega arith

      abbrev last : ℕ
      last = length (turn_order table) - 1

      abbrev ends : Bounds → ℕ
      ends bounds = round_end (bus_of bounds table) (least_offset (bus_of bounds table) (soon_of bounds table) (late_of bounds table))

      ends_more : ends p ≤ ends q
      ends_more = sum _ _ _ _ (offset_more last) (longer last) where
        sum : (a b x y : ℕ) → a ≤ x → b ≤ y → a + b ≤ x + y
        sum a b x y one two = omega arith

      narrow_pause : HasPause (bus_of q table) (least_offset (bus_of q table) (soon_of q table) (late_of q table))
          → HasPause (bus_of p table) (least_offset (bus_of p table) (soon_of p table) (late_of p table))
      narrow_pause pause = record {
        opening = opening _ _ _ _ _ _ _ _ _ _ _ pause.opening ends_more w.delay (most table.sg) (tg_by 0 (sound p table own valid).some) (longer_by table.ti);
        room = λ k some known. gap _ _ _ _ _ _ _ _ (pause.room k some known) ends_more w.delay (most table.sg) (least table.ti);
      } where
        opening : (a b c d x y z v t u j : ℕ) → x + y + z + v ≤ u → a ≤ x → b ≤ y → c ≤ z → v ≡ d + j → u ≡ t + j → a + b + c + d ≤ t
        opening a b c d x y z v t u j h one two three four five = omega arith

        gap : (a b c x y z s t : ℕ) → x + y + z ≤ s → a ≤ x → b ≤ y → c ≤ z → s ≤ t → a + b + c ≤ t
        gap a b c x y z s t h e f g i = omega arith

      pub narrow_lead : HasLead q table → HasLead p table
      narrow_lead room = record {
        hearing = narrow_hearing room.hearing;
        clock = narrow_clock room.clock;
        offsets = (offsets_are_least (bus_of p table) (soon_of p table) (late_of p table)).0;
        order = narrow_round room.order;
        pause = narrow_pause room.pause;
        begin = narrow_first room.begin;
      }
