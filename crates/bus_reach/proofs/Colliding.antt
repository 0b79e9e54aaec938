-- Senders that all start at once never part, where the transmit interval is no shorter than all that each waits and sends. Places are counted
-- as in the past of the bus.
use Rattle.std.proofs.Common.{◌≡◌, ℕ, zero, suc, ◌+◌, ◌-◌, ◌*◌, ◌<◌, ◌≤◌, true, false, List, [], ◌∷◌, ◌++◌, ◌↔◌, length, get_or, Option, Some, None, inl, inr, arith, sym, refl, ap, ◌∙◌, subst}
use Rattle.std.specs.Prelude.{IfSome}
use Rattle.std.specs.Option.{option_map}
use Rattle.std.proofs.Math.Nat.{suc-mul}
use Rattle.std.proofs.lemmas.Bool.{cases_lt}
use Rattle.std.proofs.lemmas.List.{length-drop, get_or-drop}
use Rattle.bus_timers.specs.Timings.{due_place}
use Rattle.bus_timers.specs.MayStart.{IsQuiet}
use Rattle.bus_strings.specs.Members.{In}
use Rattle.bus_strings.specs.Messages.{Entry, bits}
use Rattle.bus_strings.specs.Transmissions.{carrier, end_of}
use Rattle.bus_table.specs.Lengths.{longest}
use Rattle.bus_table.specs.declared.mode.Mode.TheVariants.{Aperiodic}
use Rattle.bus_table.specs.Tables.{Sender, Table}
use Rattle.bus_table.specs.Timers.{quiet_for, due_for}
use Rattle.bus_medium.specs.Lawful.{HasEntry}
use Rattle.bus_medium.specs.Past.{past, own}
use Rattle.bus_medium.specs.Timings.{timing_of}
use Rattle.bus_medium.specs.Wakes.{woken_past, woken_place}
use Rattle.bus_medium.proofs.Hearing.{own_none}
use Rattle.bus_medium.proofs.PastLaws.{length_past, past_at, own_later, own_more, last_push, no_carrier}
use Rattle.bus_medium.proofs.Waking.{length_woken}
use Rattle.bus_reach.proofs.Sending.{Run, RunMay, run_place, run_starts_at, run_sent}

-- a run of senders that are powered up for one moment, and of which all that each waits and sends is over within an interval
pub record Pack : Type 0 where
  pub run : Run
  pub up : ℕ
  pub ready : (b : Sender) → In b run.table.senders → run.wake b.number + b.tg ≡ up
  pub late : (b : Sender) → In b run.table.senders → run.table.sg ≤ run.wake b.number
  pub over : (a b : Sender) → In a run.table.senders → In b run.table.senders → run.table.sg + a.tg + longest b ≤ run.table.ti

-- all start at this moment
abbrev pub AllAt : Pack → ℕ → Type 0
AllAt p v = (b : Sender) → In b p.run.table.senders → HasEntry p.run.list b.number v

-- nothing starts behind it and before that
abbrev pub NoneIn : Pack → ℕ → ℕ → Type 0
NoneIn p v t = (x : Entry) → In x p.run.list → v < x.moment → x.moment < t → ⊥

-- ---- nobody is sooner
sooner : (sg tg e len m w up : ℕ) → sg ≤ e → e + tg ≤ len → len ≡ sg + m - w → w + tg ≡ up → 0 < sg → up ≤ m
sooner sg tg e len m w up a b c d some = omega arith

not_sooner : (p : Pack) (x : Entry) → In x p.run.list → p.up ≤ x.moment
not_sooner p x i =
    let f = run_sent p.run x i in
    let s = f.may.synchronized in
    let long : length (woken_past p.run.table.sg (p.run.wake f.by.number) p.run.list x.moment) ≡ p.run.table.sg + x.moment - p.run.wake f.by.number =
    length-drop (p.run.wake f.by.number) (past p.run.table.sg p.run.list x.moment)
    ∙ ap (λ n. n - p.run.wake f.by.number) (length_past p.run.table.sg p.run.list x.moment) in
    let sg = (p.run.sound f.by f.there).sg_least in
    sooner p.run.table.sg f.by.tg s.0 (length (woken_past p.run.table.sg (p.run.wake f.by.number) p.run.list x.moment)) x.moment (p.run.wake f.by.number) p.up
    s.2.long s.1 long (p.ready f.by f.there) (omega (arith, sg))

-- ---- quiet
-- the bit times of what a sender has heard are quiet where the bus is
quiet_there : (sg w t from len i : ℕ) → sg ≤ w → len + w ≡ sg + t → from + sg ≤ i + w → (l : List Entry)
    → ((u : ℕ) → from ≤ u → u < t → carrier l u ≡ false) → IsQuiet (woken_past sg w l t) i len
quiet_there sg w t from len i late long far l silent k low high =
    let u : ℕ = k + w - sg in
    let place : w + k ≡ sg + u = omega arith in
    get_or-drop w (past sg l t) k true
    ∙ ap (λ n. get_or (past sg l t) n true) place
    ∙ past_at sg l t u (omega arith)
    ∙ silent u (omega arith) (omega arith)

-- what began before it ends in time
silent_before : (p : Pack) (v t from : ℕ) → ((x : Entry) → In x p.run.list → x.moment < t → end_of x ≤ from)
    → (u : ℕ) → from ≤ u → u < t → carrier p.run.list u ≡ false
silent_before p v t from ended u low high = no_carrier p.run.list u (λ x i. elim (cases_lt u x.moment) [
  | inl later ↦ inr later
  | inr begun ↦ inl (let e : end_of x ≤ from = ended x i (omega arith) in omega arith)
])

-- a start that is behind a place for one is so for a later one
within : (o : Option ℕ) (w bound place : ℕ) → bound ≤ place + w → IfSome o (λ start. start + w ≤ bound) → IfSome o (λ start. start ≤ place)
within None w bound place less h = h
within (Some start) w bound place less h = let k : start + w ≤ bound = h in omega arith

-- a sender may start once all is quiet for long enough
may_start : (p : Pack) (b : Sender) (t from : ℕ) → In b p.run.table.senders → p.up ≤ t → from + p.run.table.sg + b.tg ≤ t
    → due_place (timing_of p.run.table b) (run_place p.run b t) + p.run.wake b.number ≤ p.run.table.sg + t
    → IfSome (run_place p.run b t) (λ start. start + p.run.wake b.number ≤ p.run.table.sg + from)
    → p.run.wake b.number ≤ from + p.run.table.sg
    → ((u : ℕ) → from ≤ u → u < t → carrier p.run.list u ≡ false) → RunMay p.run b t
may_start p b t from i late room due own inside silent =
    let ready = p.ready b i in
    let after = p.late b i in
    let long = length_woken p.run.table.sg (p.run.wake b.number) p.run.list t (omega (arith, ready, late)) in
    let len : ℕ = length (woken_past p.run.table.sg (p.run.wake b.number) p.run.list t) in
    let quiet : IsQuiet (woken_past p.run.table.sg (p.run.wake b.number) p.run.list t) (len - b.tg - p.run.table.sg) len =
    quiet_there p.run.table.sg (p.run.wake b.number) t from len (len - b.tg - p.run.table.sg) after long (omega (arith, long, room, inside)) p.run.list silent in
    record {
      interval = omega (arith, long, due);
      synchronized = (
        len - b.tg,
        omega (arith, long, room, inside),
        record {
          long = omega (arith, long, room, inside);
          quiet = λ k low high. quiet k (omega (arith, low)) (omega (arith, high));
          own = within (run_place p.run b t) (p.run.wake b.number) (p.run.table.sg + from) (len - b.tg - p.run.table.sg) (omega (arith, long, room, inside)) own;
        },
      );
      gap_fits = omega (arith, long, room, inside);
      gap = λ k low high. quiet k (omega (arith, low)) high;
    }

starts_now : (p : Pack) (b : Sender) (t : ℕ) → In b p.run.table.senders → t < p.run.end → RunMay p.run b t → HasEntry p.run.list b.number t
starts_now p b t i soon may = (run_starts_at p.run b t i soon).1 may

-- ---- the first time
due_first : (table : Table) (b : Sender) → table.mode ≡ Aperiodic → due_place (timing_of table b) None ≡ table.sg
due_first table b mode =
    ap (λ m. quiet_for m table.sg table.senders + due_for m b) mode
    ∙ (let e : table.sg + 0 ≡ table.sg = omega arith in e)

first : (p : Pack) → p.up < p.run.end → AllAt p p.up
first p soon b i =
    let ready = p.ready b i in
    let after = p.late b i in
    let none : own p.run.list b.number p.up ≡ [] =
    own_none p.run.list b.number p.up (λ x j mine. not_sooner p x j) in
    let last : run_place p.run b p.up ≡ None = ap (woken_place p.run.table.sg (p.run.wake b.number)) none in
    let due : due_place (timing_of p.run.table b) (run_place p.run b p.up) ≡ p.run.table.sg =
    ap (due_place (timing_of p.run.table b)) last ∙ due_first p.run.table b p.run.mode in
    starts_now p b p.up i soon (may_start p b p.up (p.run.wake b.number - p.run.table.sg) i (omega arith) (omega (arith, ready, after))
    (omega (arith, due, ready)) (subst (λ o. IfSome o (λ start. start + p.run.wake b.number ≤ p.run.table.sg + (p.run.wake b.number - p.run.table.sg))) (sym last) tt)
    (omega (arith, after))
    (silent_before p p.up p.up (p.run.wake b.number - p.run.table.sg)
    (λ x j less. let k = not_sooner p x j in absurd (omega (arith, less, k)))))

-- ---- and again
-- where one starts and none behind it, the place of the last start is its
last_there : (p : Pack) (v t : ℕ) (b : Sender) → HasEntry p.run.list b.number v → v < t → NoneIn p v t
    → run_place p.run b t ≡ Some (p.run.table.sg + v - p.run.wake b.number)
last_there p v t b h less none =
    let at : h.entry.moment ≡ v = h.moment in
    let more : own p.run.list b.number (h.entry.moment + 1) ≡ own p.run.list b.number h.entry.moment ++ h.entry ∷ [] =
    subst (λ n. own p.run.list n (h.entry.moment + 1) ≡ own p.run.list n h.entry.moment ++ h.entry ∷ []) h.terminal
    (own_more p.run.list h.entry p.run.law.ordered h.there) in
    let same : own p.run.list b.number t ≡ own p.run.list b.number (h.entry.moment + 1) =
    own_later p.run.list b.number (h.entry.moment + 1) t (omega (arith, at, less))
    (λ z j mine low high. none z j (omega (arith, at, low)) high) in
    ap (woken_place p.run.table.sg (p.run.wake b.number)) (same ∙ more)
    ∙ ap (option_map (λ n. n - p.run.wake b.number)) (last_push p.run.table.sg (own p.run.list b.number h.entry.moment) h.entry)
    ∙ ap (λ m. Some (p.run.table.sg + m - p.run.wake b.number)) at

-- its interval is over one interval later
due_again : (p : Pack) (v t : ℕ) (b : Sender) → In b p.run.table.senders → p.up ≤ v → HasEntry p.run.list b.number v → v < t → NoneIn p v t
    → due_place (timing_of p.run.table b) (run_place p.run b t) + p.run.wake b.number ≡ p.run.table.sg + v + p.run.table.ti
due_again p v t b i low h less none =
    let ready = p.ready b i in
    let due : due_place (timing_of p.run.table b) (run_place p.run b t) ≡ p.run.table.sg + v - p.run.wake b.number + p.run.table.ti =
    ap (due_place (timing_of p.run.table b)) (last_there p v t b h less none) in
    omega (arith, due, ready, low)

-- so nobody starts within it
none_until : (p : Pack) (v n : ℕ) → p.up ≤ v → AllAt p v → n ≤ p.run.table.ti → NoneIn p v (v + n)
none_until p v zero low all less x i above below = omega (arith, above, below)
none_until p v (suc n) low all less x i above below =
    let before : NoneIn p v (v + n) = none_until p v n low all (omega (arith, less)) in
    elim (cases_lt x.moment (v + n)) [
      | inl sooner' ↦ before x i above sooner'
      | inr now ↦
          (let f = run_sent p.run x i in
          let at : x.moment ≡ v + n = omega (arith, now, below) in
          let none : NoneIn p v x.moment = λ y j a c. before y j a (omega (arith, at, c)) in
          let due = due_again p v x.moment f.by f.there low (all f.by f.there) above none in
          let ready = p.ready f.by f.there in
          let long = length_woken p.run.table.sg (p.run.wake f.by.number) p.run.list x.moment (omega (arith, ready, low, above)) in
          let over = f.may.interval in
          omega (arith, due, long, over, at, less))
    ]

-- and then all do
again : (p : Pack) (v : ℕ) → p.up ≤ v → AllAt p v → v + p.run.table.ti < p.run.end
    → AllAt p (v + p.run.table.ti)
again p v low all soon b i =
    let ready = p.ready b i in
    let after = p.late b i in
    let sound = p.run.sound b i in
    let ti = sound.ti_least in
    let h = all b i in
    let t : ℕ = v + p.run.table.ti in
    let none : NoneIn p v t = none_until p v p.run.table.ti low all (omega arith) in
    let less : v < t = omega (arith, ti) in
    let due = due_again p v t b i low h less none in
    let last = last_there p v t b h less none in
    let room = p.over b b i i in
    let from : ℕ = t - p.run.table.sg - b.tg in
    starts_now p b t i soon (may_start p b t from i (omega (arith, low)) (omega (arith, room)) (omega (arith, due))
    (subst (λ o. IfSome o (λ start. start + p.run.wake b.number ≤ p.run.table.sg + from)) (sym last)
    (let k : p.run.table.sg + v - p.run.wake b.number + p.run.wake b.number ≤ p.run.table.sg + from = omega (arith, ready, low, room) in k))
    (omega (arith, ready, low, room))
    (silent_before p v t from (λ x j before.
    let f = run_sent p.run x j in
    let most = f.most in
    let over = p.over b f.by i f.there in
    let begun : x.moment ≤ v = elim (cases_lt v x.moment) [ inl behind ↦ absurd (none x j behind before) | inr at ↦ omega (arith, at) ] in
    omega (arith, most, over, begun))))

-- ---- for ever
abbrev turn : Pack → ℕ → ℕ
turn p k = p.up + k * p.run.table.ti

next_turn : (p : Pack) (k : ℕ) → turn p (suc k) ≡ turn p k + p.run.table.ti
next_turn p k = let m : suc k * p.run.table.ti ≡ k * p.run.table.ti + p.run.table.ti = suc-mul k p.run.table.ti in omega (arith, m)

pub record Turns (p : Pack) (k : ℕ) : Type 0 where
  pub all : turn p k < p.run.end → AllAt p (turn p k)
  pub only : (x : Entry) → In x p.run.list → x.moment < turn p k → (j : ℕ) × (x.moment ≡ turn p j)

late_enough : (p : Pack) (k : ℕ) → p.up ≤ turn p k
late_enough p k = omega arith

turns : (p : Pack) (k : ℕ) → Turns p k
turns p zero =
    let at : turn p 0 ≡ p.up = omega arith in
    record {
      all = λ soon. subst (λ v. AllAt p v) (sym at) (first p (omega (arith, at, soon)));
      only = λ x i less. let k = not_sooner p x i in absurd (omega (arith, at, less, k));
    }
turns p (suc k) =
    let before = turns p k in
    let next = next_turn p k in
    let low = late_enough p k in
    record {
      all = λ soon. subst (λ v. AllAt p v) (sym next)
          (again p (turn p k) low (before.all (omega (arith, next, soon))) (omega (arith, next, soon)));
      only = λ x i less. elim (cases_lt x.moment (turn p k)) [
        | inl sooner' ↦ before.only x i sooner'
        | inr rest ↦ elim (cases_lt (turn p k) x.moment) [
          | inl behind ↦ absurd (none_until p (turn p k) p.run.table.ti low
              (before.all (let s = (run_sent p.run x i).soon in omega (arith, s, behind))) (omega arith) x i behind (omega (arith, next, less)))
          | inr at ↦ (k, omega (arith, rest, at))
        ]
      ];
    }

-- turns go on for ever
far : (p : Pack) (k : ℕ) → 1 ≤ p.run.table.ti → k ≤ turn p k
far p zero some = omega arith
far p (suc k) some = let less = far p k some in let next = next_turn p k in omega (arith, less, next, some)

pub at_turns : (p : Pack) (b : Sender) (t : ℕ) → In b p.run.table.senders → t < p.run.end
    → HasEntry p.run.list b.number t ↔ ((k : ℕ) × (t ≡ turn p k))
at_turns p b t i soon =
    let ti = (p.run.sound b i).ti_least in (
      (λ h.
          let at : h.entry.moment ≡ t = h.moment in
          let behind = far p (suc t) (omega (arith, ti)) in
          let w = (turns p (suc t)).only h.entry h.there (omega (arith, at, behind)) in
          (w.0, sym at ∙ w.1)),
      (λ w.
          let at : t ≡ turn p w.0 = w.1 in
          subst (λ v. HasEntry p.run.list b.number v) (sym at) ((turns p w.0).all (omega (arith, at, soon)) b i)),
    )
