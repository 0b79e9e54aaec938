-- Joining, of any number of senders: one that is alone hears itself at once, and its rounds grow no more.
use Rattle.std.proofs.Common.{◌≡◌, ℕ, suc, ◌+◌, ◌<◌, ◌≤◌, Bool, false, List, [], ◌∷◌, inl, inr, arith, subst}
use Rattle.std.proofs.lemmas.Bool.{cases_lt, cases_eq}
use Rattle.bus_clocks.specs.Buses.{Bus, among}
use Rattle.bus_clocks.specs.Entries.{AreClear, Entry, In, end_of}
use Rattle.bus_clocks.specs.Courses.{Course, HasEntry, HasLeft, HaveLeft, IsCourse, IsQuiet}
use Rattle.bus_clocks.specs.Room.{LeavesRoom, StartsItself}
use Rattle.bus_clocks.specs.Rounds.{InRounds, next}
use Rattle.bus_clocks.specs.Growing.{InGrowing, IsJoined, JoiningIsOrderly}
use Rattle.bus_clocks.proofs.Alone.{among_one, as_first, clear_alone, course_alone, next_alone, room_alone, rounds_alone}
use Rattle.bus_clocks.proofs.Timers.{Synced, begins_up, is_quiet, sync_must}
use Rattle.bus_clocks.proofs.Worlds.{World, Started, started, start_must, ears}
use Rattle.bus_clocks.proofs.Turns.{Left, turn_then, left_then}
use Rattle.bus_clocks.proofs.Rounds.{Opening, Opens, opens, next_at, in_rounds}
use Rattle.bus_clocks.proofs.Growing.{joining}

module _ (bus : Bus) (one : bus.senders ≡ 1) (c : Course) (have : HaveLeft bus c) where
  -- who else joins, of nobody
  grown : (l : List Entry) (u a : ℕ) (p : ℕ → Bool) → 0 < a → InRounds (among bus) c 0 u l → InGrowing bus c a p u l
  grown [] u a p more h =
      let none : (among bus).delay ≡ 0 = among_one bus one in
      let late : c.horizon ≤ u + (among bus).delay + bus.sg_long 0 + bus.tg_long 0 = h 0 (omega arith) (λ t soon. have 0 t (omega arith) soon) in
      inr ((λ k from known. absurd (omega arith)), omega arith)
  grown (x ∷ l) u a p more h =
      let none : (among bus).delay ≡ 0 = among_one bus one in
      let early : u + bus.sg_short 0 + bus.tg_short 0 ≤ x.moment = h.1 in
      let late : x.moment ≤ u + (among bus).delay + bus.sg_long 0 + bus.tg_long 0 = h.2 in
      inr (
        (λ k from known. absurd (omega arith)),
        h.0,
        omega arith,
        omega arith,
        (
          (λ _. false),
          record {
            keeps = λ k some known is. absurd (omega arith);
            must = λ k some known long. absurd (omega arith);
            may = λ k some known is. absurd (omega arith);
          },
          grown l (end_of x) 1 (λ _. false) (omega arith) (subst (λ b. InRounds (among bus) c b (end_of x) l) (next_alone bus one) h.3),
        ),
      )

  module _ (v : ℕ) (room : LeavesRoom bus) (itself : StartsItself bus) (ok : IsCourse bus c) (join : IsJoined bus c v) where
    abbrev w : World
    w = record {
      bus = among bus;
      c = as_first c;
      up = v + bus.delay;
      room = room_alone bus one room;
      lone = λ _. among_one bus one;
      ok = course_alone bus one c ok;
      still = λ n t low. join.still 0 t low;
      due = λ k known. inr (join.due k known);
    }

    abbrev lo : ℕ
    lo = v + bus.sg_short 0 + bus.tg_short 0

    abbrev hi : ℕ
    hi = v + bus.delay + bus.sg_long 0 + bus.tg_long 0

    start_late : (x : Entry) → In x c.list → v + bus.sg_short 0 + bus.tg_short 0 ≤ x.moment
    start_late x i =
        let s : Started w x = started w x i in
        let known : x.sender < bus.senders = s.known in
        let is : s.synced.from + c.sg x.sender s.synced.from ≡ s.sync = s.synced.elapsed in
        let up : c.up x.sender ≤ s.synced.from = begins_up (ears w) x.sender s.synced.from s.synced.begins in
        let low : bus.sg_short x.sender ≤ c.sg x.sender s.synced.from = join.sg x.sender s.synced.from known in
        let before : s.sync + bus.tg_short x.sender ≤ x.moment = s.before (inr (λ a. join.tg x.sender a known)) in
        let from : v ≤ c.up x.sender = join.later x.sender known in
        subst (λ k. v + bus.sg_short k + bus.tg_short k ≤ x.moment) (let e : x.sender ≡ 0 = omega arith in e)
        (let goal : v + bus.sg_short x.sender + bus.tg_short x.sender ≤ x.moment = omega arith in goal)

    quiet_until : (b u : ℕ) → ((x : Entry) → In x c.list → v + bus.delay ≤ x.moment → u ≤ x.moment) → b ≤ u → IsQuiet (as_first c) 0 (v + bus.delay) b
    quiet_until b u next low = is_quiet (ears w) 0 (v + bus.delay) b (omega arith) (λ x i.
        (let wide : bus.delay ≤ bus.sg_short 0 + bus.tg_short 0 = room.alone one in
        let late : v + bus.sg_short 0 + bus.tg_short 0 ≤ x.moment = start_late x i in
        let n : u ≤ x.moment = next x i (omega arith) in inl (omega arith)))

    no_later : (u : ℕ) → ((x : Entry) → In x c.list → v + bus.delay ≤ x.moment → u ≤ x.moment) → hi < u → hi < c.horizon → HasLeft (as_first c) 0 hi → ⊥
    no_later u next far soon left =
        let some : 0 < bus.senders = room.some in
        let up : c.up 0 ≤ v + bus.delay = join.first in
        let wide : bus.delay ≤ bus.sg_short 0 + bus.tg_short 0 = room.alone one in
        let s : Synced (ears w) 0 (v + bus.delay + bus.sg_long 0) (v + bus.delay + bus.sg_long 0) =
        sync_must (ears w) 0 (v + bus.delay) (v + bus.delay + bus.sg_long 0) some up (omega arith) (quiet_until (v + bus.delay + bus.sg_long 0) u next (omega arith)) in
        let none : (x : Entry) → In x c.list → x.moment < v + bus.delay + bus.sg_long 0 + bus.tg_long 0 → ⊥ = λ x i less.
        (let late : v + bus.sg_short 0 + bus.tg_short 0 ≤ x.moment = start_late x i in
        let n : u ≤ x.moment = next x i (omega arith) in omega arith) in
        let h : HasEntry c.list 0 (v + bus.delay + bus.sg_long 0 + bus.tg_long 0) =
        start_must w 0 s.at (v + bus.delay + bus.sg_long 0) (v + bus.delay + bus.sg_long 0 + bus.tg_long 0) some s.sync (λ x i mine less. absurd (none x i less))
        s.by (omega arith) soon (omega arith) (λ t p q. quiet_until (v + bus.delay + bus.sg_long 0 + bus.tg_long 0) u next (omega arith) t (omega arith) q) left
        (λ x i mine less. absurd (none x i less)) in
        let at : h.entry.moment ≡ v + bus.delay + bus.sg_long 0 + bus.tg_long 0 = h.moment in
        let n : u ≤ h.entry.moment = next h.entry h.there (omega arith) in
        omega arith

    opening : Opening w (v + bus.delay) lo hi
    opening =
        let wide : bus.delay ≤ bus.sg_short 0 + bus.tg_short 0 = room.alone one in
        record {
          rest = λ x i less. (let late : v + bus.sg_short 0 + bus.tg_short 0 ≤ x.moment = start_late x i in absurd (omega arith));
          low = λ x i from mine. start_late x i;
          fits = omega arith;
          by = no_later;
          ahead = λ x i from other. (let known : x.sender < bus.senders = (started w x i).known in absurd (omega arith));
          joined = λ k u more known next low. absurd (omega arith);
          since = omega arith;
          powered = λ k known.
              let up : c.up 0 ≤ v + bus.delay = join.first in
              subst (λ i. c.up i ≤ lo + (among bus).delay) (let e : 0 ≡ k = omega arith in e) (let goal : c.up 0 ≤ v + bus.sg_short 0 + bus.tg_short 0 + (among bus).delay = omega arith in goal);
          full = λ k known. inr (λ a. join.tg k a known);
          idle = λ y i mine from low only. inl itself;
          lasts = inl have;
        }

    go : (l : List Entry) → Left w (v + bus.delay) l → InGrowing bus c bus.senders (λ _. false) v l × AreClear bus.delay l
    go [] left = (
      inr (
        (λ k from known. absurd (omega arith)),
        elim (cases_lt hi c.horizon) [
          | inr fine ↦ fine
          | inl soon ↦ absurd (no_later (suc hi) (λ x i on. absurd (left.all x i on)) (omega arith) soon (have 0 hi room.some soon))
        ],
      ),
      tt,
    )
    go (y ∷ ys) left =
        let n : Opens w (v + bus.delay) lo hi y ys = opens w (v + bus.delay) lo hi opening y ys left in
        let more = in_rounds w ys (end_of y) (next bus.senders 0) (next_at w (end_of y) 0 (turn_then w (v + bus.delay) 0 y ys n.step)) (left_then w (v + bus.delay) 0 y ys n.step) in
        let rounds : InRounds (among bus) c 0 (end_of y) ys =
        subst (λ b. InRounds (among bus) c b (end_of y) ys) (next_alone bus one) (rounds_alone bus one c (next bus.senders 0) (end_of y) ys more.0) in
        let clear = clear_alone bus one c (end_of y) ys (room.alone one) left.ordered.1 rounds in (
          inr (
            (λ k from known. absurd (omega arith)),
            n.mine,
            n.low,
            n.high,
            (
              (λ _. false),
              record {
                keeps = λ k some known is. absurd (omega arith);
                must = λ k some known long. absurd (omega arith);
                may = λ k some known is. absurd (omega arith);
              },
              grown ys (end_of y) 1 (λ _. false) (omega arith) rounds,
            ),
          ),
          (clear.0, clear.1),
        )

    pub joined_alone : InGrowing bus c bus.senders (λ _. false) v c.list × AreClear bus.delay c.list
    joined_alone = go c.list (record {
      all = λ x i from. i;
      there = λ x i. i;
      later = λ x i.
          (let late : v + bus.sg_short 0 + bus.tg_short 0 ≤ x.moment = start_late x i in
          let wide : bus.delay ≤ bus.sg_short 0 + bus.tg_short 0 = room.alone one in
          omega arith);
      ordered = ok.ordered;
    })

pub joining_is_orderly : JoiningIsOrderly
joining_is_orderly bus c v room itself ok have join = elim (cases_eq bus.senders 1) [
  | inr more ↦ joining bus c v room (λ one. absurd (more one)) itself ok have join
  | inl one ↦ joined_alone bus one c have v room itself ok join
]
