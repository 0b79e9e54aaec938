-- A sender starts where its clock says so.
use Rattle.std.proofs.Common.{◌≡◌, ℕ, ◌+◌, ◌-◌, ◌^◌, ◌<◌, ◌≤◌, Bool, List, [], length, Option, Some, None, inl, inr, arith, sym, refl, ap, ◌∙◌, subst}
use Rattle.std.specs.Prelude.{slice_index_or}
use Rattle.std.specs.Option.{MatchOption, option_and_then}
use Rattle.std.proofs.lemmas.Bool.{lt-ltb}
use Rattle.std.proofs.lemmas.List.{take_all}
use Rattle.bus_timers.specs.declared.timing.Timing.{Timing}
use Rattle.bus_timers.specs.declared.history.History.{History}
use Rattle.bus_timers.specs.declared.cores.Core.{Ghosts}
use Rattle.bus_timers.specs.Told.{CountsOne}
use Rattle.bus_timers.specs.GapPlace.{GapFrom}
use Rattle.bus_timers.specs.Histories.{HasHeardAll}
use Rattle.bus_timers.proofs.TimingLaws.{sound_sg}
use Rattle.bus_timers.proofs.GapStepLaws.{gap_started}
use Rattle.bus_strings.specs.Messages.{Message, Entry, bits}
use Rattle.bus_strings.proofs.MessageLaws.{bits_some}
use Rattle.bus_table.specs.Tables.{Hand}
use Rattle.bus_medium.specs.Terminals.{Terminal, last_begun, with_begun}
use Rattle.bus_medium.specs.MessageStretches.{later_place, with_passed_many}
use Rattle.bus_medium.specs.Buses.{Seat}
use Rattle.bus_medium.specs.inside.Following.{Idle, Started}
use Rattle.bus_medium.specs.inside.Lazy.{Clock, StandsLazily, lazy, lazy_seat, Sits, MovesOnce, IsReady, IsTold, due_at}
use Rattle.bus_medium.proofs.LazyLaws.{is_ready, not_ready, Says, told_all}

-- a sender whose clock is not ready is as before, and wasn't due
pub begin_none : {C : Type 0} (core : Ghosts C) (q t : ℕ) (x : Seat C) (k : Clock) → q + t < k.ready → Idle (lazy core q (q + t)) (lazy_seat (q + t) x k) (lazy_seat (q + t) x k)
begin_none core q t x k early = record {
  same = refl;
  not = λ timing p last s due. not_ready core q (q + t) (record { seat = x; clock = k }) timing p last s early due.0 due.2;
}

-- the clock of a sender that starts at this place
pub record IsBegun {C : Type 0} (now : ℕ) (seat : Seat C) (clock : Clock) : Type 0 where
  pub sg : clock.sg ≡ seat.timing.sg
  pub tg : clock.tg ≡ seat.timing.tg
  pub told : clock.told ≡ now
  pub due : clock.due ≡ due_at seat (now + seat.timing.ti)
  pub gap : clock.gap_from ≡ now + seat.timing.sg
  pub ready : IsReady clock

-- the sender x was told all, and is z
pub record Heard {C : Type 0} (core : Ghosts C) (now : ℕ) (x z : Seat C) (k : Clock) : Type 0 where
  pub history : History
  pub says : Says now k history
  pub heard : HasHeardAll (core.stands x.terminal.core) (core.stands z.terminal.core) history
  pub timing : z.timing ≡ x.timing
  pub terminal : z.terminal ≡ with_passed_many x.terminal history.bits z.terminal.core
  pub room : core.room x.terminal.core ≤ core.room z.terminal.core + history.bits
  pub moves : CountsOne (core.moves x.terminal.core) (core.moves z.terminal.core)

later_none : (m : Message) (n : ℕ) → n ≡ 0 → 0 < bits m → later_place m n 0 ≡ Some 0
later_none m n e some = ap (λ i. later_place m i 0) e ∙ rw (lt-ltb 0 (bits m) some) refl

-- it is running nothing then
heard_idle : {C : Type 0} (core : Ghosts C) (now : ℕ) (x z : Seat C) (k : Clock) → Heard core now x z k → z.terminal.running ≡ (lazy_seat now x k).terminal.running
heard_idle {C} core now x z k h =
    ap (λ (w : Terminal C). w.running) h.terminal ∙ ap (λ n. option_and_then (later_place (last_begun x.terminal.hand x.terminal.sent) n) x.terminal.running) h.says.bits

begun_stands : {C : Type 0} (core : Ghosts C) (q t : ℕ) (x z y : Seat C) (k c : Clock) (e : Entry) → Heard core (q + t) x z k → Started core z y t e → IsBegun (q + t) y c
    → (timing : Timing) (p : List Bool) (last : Option ℕ) → StandsLazily core q (q + t) (record { seat = x; clock = k }) timing p last
    → StandsLazily core q (q + t) (record { seat = y; clock = c }) timing p (Some (length p))
begun_stands core q t x z y k c e h st b timing p last s =
    let same : y.timing ≡ timing = st.timing ∙ h.timing ∙ s.same in
    let sgs : y.timing.sg ≡ timing.sg = ap (λ (w : Timing). w.sg) same in
    let tis : y.timing.ti ≡ timing.ti = ap (λ (w : Timing). w.ti) same in
    let at : length p ≡ q + t = s.at in
    let told : c.told ≡ q + t = b.told in
    let gap : c.gap_from ≡ q + t + y.timing.sg = b.gap in
    record {
      sound = s.sound;
      same = same;
      at = s.at;
      sg = b.sg ∙ sgs;
      tg = b.tg ∙ ap (λ (w : Timing). w.tg) same;
      gap = subst (λ w. GapFrom timing.sg p (Some (length p)) w) (let w : length p + timing.sg ≡ c.gap_from = omega arith in w) (gap_started timing.sg p (sound_sg timing s.sound));
      due = b.due ∙ ap (due_at y) (let w : q + t + y.timing.ti ≡ length p + timing.ti = omega arith in w);
      ready = b.ready;
      from = omega arith;
      told = omega arith;
      stands = subst (λ w. core.stands y.terminal.core timing w (Some (length p))) (sym (take_all c.told p (omega arith)))
          (st.told timing p last (told_all core q (q + t) (record { seat = x; clock = k }) (core.stands z.terminal.core) h.history h.says h.heard timing p last s));
      room =
          let a : core.room y.terminal.core ≡ core.room z.terminal.core = st.room in
          let r : core.room x.terminal.core ≤ core.room z.terminal.core + h.history.bits = h.room in
          let n : h.history.bits ≡ q + t - k.told = h.says.bits in
          let d : 2 ^ 62 + q ≤ core.room x.terminal.core + k.told = s.room in
          let l : k.told ≤ q + t = s.told in
          omega arith;
    }

begun_terminal : {C : Type 0} (core : Ghosts C) (q t : ℕ) (x z y : Seat C) (k c : Clock) (e : Entry) → Heard core (q + t) x z k → Started core z y t e → c.told ≡ q + t
    → (lazy_seat (q + t) y c).terminal ≡ with_begun (lazy_seat (q + t) x k).terminal (record { seat = y; clock = c })
begun_terminal {C} core q t x z y k c e h st told =
    let n = q + t - c.told in
    let none : q + t - c.told ≡ 0 = omega arith in
    let x_hand : z.terminal.hand ≡ x.terminal.hand = ap (λ (w : Terminal C). w.hand) h.terminal in
    let x_sent : z.terminal.sent ≡ x.terminal.sent = ap (λ (w : Terminal C). w.sent) h.terminal in
    let hand : y.terminal.hand ≡ x.terminal.hand = ap (λ (w : Terminal C). w.hand) st.terminal ∙ x_hand in
    let sent : y.terminal.sent ≡ x.terminal.sent + 1 = ap (λ (w : Terminal C). w.sent) st.terminal ∙ ap (λ i. i + 1) x_sent in
    let running : y.terminal.running ≡ Some 0 = ap (λ (w : Terminal C). w.running) st.terminal in
    let begun : last_begun y.terminal.hand y.terminal.sent ≡ e.message =
    ap (λ (w : Terminal C). last_begun w.hand w.sent) st.terminal ∙ ap (λ i. slice_index_or z.terminal.hand.messages i []) (let i : z.terminal.sent + 1 - 1 ≡ z.terminal.sent = omega arith in i) ∙ st.message in
    let long : 0 < bits e.message = bits_some e.message st.some in
    let at : option_and_then (later_place (last_begun y.terminal.hand y.terminal.sent) (q + t - c.told)) y.terminal.running ≡ Some 0 =
    ap (λ o. option_and_then (later_place (last_begun y.terminal.hand y.terminal.sent) (q + t - c.told)) o) running
    ∙ ap (λ (m : Message). later_place m (q + t - c.told) 0) begun ∙ later_none e.message (q + t - c.told) none long in
    ap (λ (w : Hand). record { core = record { seat = y; clock = c }; hand = w; sent = y.terminal.sent; running = option_and_then (later_place (last_begun y.terminal.hand y.terminal.sent) (q + t - c.told)) y.terminal.running }) hand
    ∙ ap (λ w. record { core = record { seat = y; clock = c }; hand = x.terminal.hand; sent = w; running = option_and_then (later_place (last_begun y.terminal.hand y.terminal.sent) (q + t - c.told)) y.terminal.running }) sent
    ∙ ap (λ w. record { core = record { seat = y; clock = c }; hand = x.terminal.hand; sent = x.terminal.sent + 1; running = w }) at

begun_started : {C : Type 0} (core : Ghosts C) (q t : ℕ) (x z y : Seat C) (k c : Clock) (e : Entry) → Heard core (q + t) x z k → Started core z y t e → IsBegun (q + t) y c
    → Started (lazy core q (q + t)) (lazy_seat (q + t) x k) (lazy_seat (q + t) y c) t e
begun_started {C} core q t x z y k c e h st b =
    let x_hand : z.terminal.hand ≡ x.terminal.hand = ap (λ (w : Terminal C). w.hand) h.terminal in
    let x_sent : z.terminal.sent ≡ x.terminal.sent = ap (λ (w : Terminal C). w.sent) h.terminal in
    record {
      free = sym (heard_idle core (q + t) x z k h) ∙ st.free;
      unsent = subst (λ (w : Terminal C). w.sent < length w.hand.messages) h.terminal st.unsent;
      may = λ timing p last s. st.may timing p last (told_all core q (q + t) (record { seat = x; clock = k }) (core.stands z.terminal.core) h.history h.says h.heard timing p last s);
      told = begun_stands core q t x z y k c e h st b;
      timing = st.timing ∙ h.timing;
      terminal = begun_terminal core q t x z y k c e h st b.told;
      room = refl;
      moves = refl;
      moment = st.moment;
      number = st.number ∙ ap (λ (w : Hand). w.terminal) x_hand;
      message = ap (λ (w : Hand). slice_index_or w.messages x.terminal.sent []) (sym x_hand) ∙ ap (λ i. slice_index_or z.terminal.hand.messages i []) (sym x_sent) ∙ st.message;
      some = st.some;
    }

-- one whose clock is ready starts
pub begin_some : {C : Type 0} (core : Ghosts C) (q t : ℕ) (x z y : Seat C) (k c : Clock) (o : Option Entry) → Sits core q (q + t) x k → k.ready ≤ q + t → q + t < 2 ^ 62 → Heard core (q + t) x z k
    → MatchOption o (Idle core z y) (λ e. Started core z y t e) → IsBegun (q + t) y c
    → MatchOption o (Idle (lazy core q (q + t)) (lazy_seat (q + t) x k) (lazy_seat (q + t) y c)) (λ e. Started (lazy core q (q + t)) (lazy_seat (q + t) x k) (lazy_seat (q + t) y c) t e)
begin_some {C} core q t x z y k c None sits ready small h idle b =
    let due = is_ready core q (q + t) (record { seat = x; clock = k }) x.timing sits.past sits.last sits.stands ready small in
    absurd (idle.not x.timing sits.past sits.last
    (told_all core q (q + t) (record { seat = x; clock = k }) (core.stands z.terminal.core) h.history h.says h.heard x.timing sits.past sits.last sits.stands)
    (due.0, heard_idle core (q + t) x z k h ∙ sits.free due.0, subst (λ (w : Terminal C). w.sent < length w.hand.messages) (sym h.terminal) due.1))
begin_some core q t x z y k c (Some e) sits ready small h st b = begun_started core q t x z y k c e h st b

counts_most : (n m : ℕ) → CountsOne n m → m ≤ n + 1
counts_most n m (inl e) = omega arith
counts_most n m (inr e) = let k : m ≡ n = e.0 in omega arith

pub begin_moves : {C : Type 0} (core : Ghosts C) (q t : ℕ) (x z y : Seat C) (k : Clock) (o : Option Entry) → Sits core q (q + t) x k → k.ready ≤ q + t → q + t < 2 ^ 62 → Heard core (q + t) x z k
    → MatchOption o (Idle core z y) (λ e. Started core z y t e) → MovesOnce core x y
begin_moves {C} core q t x z y k None sits ready small h idle =
    let due = is_ready core q (q + t) (record { seat = x; clock = k }) x.timing sits.past sits.last sits.stands ready small in
    absurd (idle.not x.timing sits.past sits.last
    (told_all core q (q + t) (record { seat = x; clock = k }) (core.stands z.terminal.core) h.history h.says h.heard x.timing sits.past sits.last sits.stands)
    (due.0, heard_idle core (q + t) x z k h ∙ sits.free due.0, subst (λ (w : Terminal C). w.sent < length w.hand.messages) (sym h.terminal) due.1))
begin_moves {C} core q t x z y k (Some e) sits ready small h st =
    let a : core.moves z.terminal.core ≤ core.moves x.terminal.core + 1 = counts_most (core.moves x.terminal.core) (core.moves z.terminal.core) h.moves in
    let b : core.moves y.terminal.core ≡ core.moves z.terminal.core = st.moves in
    let x_sent : z.terminal.sent ≡ x.terminal.sent = ap (λ (w : Terminal C). w.sent) h.terminal in
    let sent : y.terminal.sent ≡ x.terminal.sent + 1 = ap (λ (w : Terminal C). w.sent) st.terminal ∙ ap (λ i. i + 1) x_sent in
    omega arith

pub moves_none : {C : Type 0} (core : Ghosts C) (x : Seat C) → MovesOnce core x x
moves_none core x = omega arith

-- what a sender is once its core was told
pub after_hearing : {C : Type 0} (core : Ghosts C) (now : ℕ) (x w : Seat C) (v : Terminal C) (k : Clock) (h : History) → w ≡ x → Says now k h → HasHeardAll (core.stands w.terminal.core) (core.stands v.core) h
    → v ≡ with_passed_many w.terminal h.bits v.core → core.room w.terminal.core ≤ core.room v.core + h.bits → CountsOne (core.moves w.terminal.core) (core.moves v.core)
    → Heard core now x (record { timing = w.timing; terminal = v }) k
after_hearing {C} core now x w v k h same says heard passed room moves =
    let made : Heard core now w (record { timing = w.timing; terminal = v }) k = record { history = h; says = says; heard = heard; timing = refl; terminal = passed; room = room; moves = moves } in
    subst (λ (s : Seat C). Heard core now s (record { timing = w.timing; terminal = v }) k) same made

-- a sender whose core was told all
pub heard_told : {C : Type 0} (core : Ghosts C) (q now : ℕ) (x z : Seat C) (k : Clock) → Sits core q now x k → Heard core now x z k → IsTold core q now k x z
heard_told {C} core q now x z k sits h = record {
  timing = h.timing;
  terminal = h.terminal ∙ ap (λ n. with_passed_many x.terminal n z.terminal.core) h.says.bits;
  stands = λ timing p last s. told_all core q now (record { seat = x; clock = k }) (core.stands z.terminal.core) h.history h.says h.heard timing p last s;
  room =
      let r : core.room x.terminal.core ≤ core.room z.terminal.core + h.history.bits = h.room in
      let n : h.history.bits ≡ now - k.told = h.says.bits in
      let d : 2 ^ 62 + q ≤ core.room x.terminal.core + k.told = sits.stands.room in
      let l : k.told ≤ now = sits.stands.told in
      omega arith;
  moves = counts_most (core.moves x.terminal.core) (core.moves z.terminal.core) h.moves;
}
