-- What a sender's watch stands for, and what it tells of the moments to come.
use Rattle.std.proofs.Common.{◌≡◌, ℕ, zero, suc, ◌+◌, ◌-◌, ◌<◌, ◌≤◌, ◌⊎◌, false, cond, [], ◌∷◌, ◌++◌, length, replicate, Some, None, inl, inr, arith, sym, refl, ap, ◌∙◌, subst}
use Rattle.std.proofs.lemmas.Bool.{cases_lt, le-leb, lt-leb}
use Rattle.std.proofs.lemmas.List.{length_push}
use Rattle.bus_timers.specs.declared.timing.Timing.{Timing}
use Rattle.bus_timers.specs.Timings.{IsSound, due_place}
use Rattle.bus_timers.specs.GapPlace.{GapFrom}
use Rattle.bus_timers.proofs.GapStepLaws.{gap_quiet, gap_ready, gap_settled, gap_started}
use Rattle.bus_strings.specs.Members.{In}
use Rattle.bus_strings.specs.Messages.{Entry}
use Rattle.bus_strings.specs.Transmissions.{carrier, IsAscending}
use Rattle.bus_table.specs.Tables.{Sender, Table}
use Rattle.bus_trace.specs.Traces.{Recording}
use Rattle.bus_medium.specs.Past.{past, own, last_place}
use Rattle.bus_medium.specs.Timings.{quiet_of, due_for, timing_of}
use Rattle.bus_audit.specs.Breaches.{held}
use Rattle.bus_audit.specs.declared.watch.Watch.{Watch}
use Rattle.bus_audit.specs.inside.Watches.{settled, begun, passed}
use Rattle.bus_audit.specs.inside.Standing.{Keeps, Tells}
use Rattle.bus_medium.specs.PastLaws.{NoneOf}
use Rattle.bus_medium.proofs.PastLaws.{length_past, own_later, own_more, last_push}
use Rattle.bus_audit.proofs.Entries.{own_none}
use Rattle.bus_medium.specs.BusyLaws.{IsBusy}
use Rattle.bus_medium.proofs.BusyLaws.{busy_elapsed, busy_waiting, busy_nobody}

-- what it keeps it tells
pub keeps_tells : (table : Table) (trace : Recording) (s : Sender) (w : Watch) (u : ℕ) → Keeps table trace s w u u → Tells table trace s w u
keeps_tells table trace s w u k =
    let q = quiet_of table in
    let timing = timing_of table s in
    let p = past q trace.list u in
    let last = last_place q (own trace.list s.number u) in
    let len : length p ≡ q + u = length_past q trace.list u in
    let tg : w.timing.tg ≡ timing.tg = ap (λ (t : Timing). t.tg) k.timing in
    let least : 8 ≤ timing.tg = k.sound.tg_least in
    let most : timing.tg < timing.sg = k.sound.tg_short in
    let e : due_place timing last ≡ w.due = k.interval in
    let both = gap_ready timing p last w.gap (omega arith) (omega arith) k.from in
    record {
      number = k.number;
      ready_may = λ h. both.0 (omega arith, omega arith);
      may_ready = λ may. let a : due_place timing last ≤ length p = (both.1 may).0 in let b : w.gap + timing.tg ≤ length p = (both.1 may).1 in omega arith;
      left = k.left;
    }

-- on a quiet bus nothing changes
pub keeps_quiet : (table : Table) (trace : Recording) (s : Sender) (w : Watch) (c d : ℕ) → ((v : ℕ) → c ≤ v → v < c + d → carrier trace.list v ≡ false) → NoneOf trace.list s.number c (c + d) → Keeps table trace s w c c → Keeps table trace s w (c + d) (c + d)
keeps_quiet table trace s w c zero quiet none k = subst (λ u. Keeps table trace s w u u) (let e : c ≡ c + 0 = omega arith in e) k
keeps_quiet table trace s w c (suc d) quiet none k =
    let q = quiet_of table in
    let so : Keeps table trace s w (c + d) (c + d) = keeps_quiet table trace s w c d (λ v low high. quiet v low (omega arith)) (λ x i e low high. none x i e low (omega arith)) k in
    let same : own trace.list s.number (suc (c + d)) ≡ own trace.list s.number (c + d) = own_later trace.list s.number (c + d) (suc (c + d)) (omega arith) (λ x i e low high. none x i e (omega arith) (omega arith)) in
    let least : 8 ≤ (timing_of table s).tg = so.sound.tg_least in
    let most : (timing_of table s).tg < (timing_of table s).sg = so.sound.tg_short in
    subst (λ u. Keeps table trace s w u u) (let e : suc (c + d) ≡ c + suc d = omega arith in e) (record {
      number = so.number;
      timing = so.timing;
      sound = so.sound;
      interval = ap (λ l. due_place (timing_of table s) (last_place q l)) same ∙ so.interval;
      from = subst (λ b. GapFrom (timing_of table s).sg (past q trace.list (c + d) ++ b ∷ []) (last_place q (own trace.list s.number (suc (c + d)))) w.gap) (sym (quiet (c + d) (omega arith) (omega arith)))
          (subst (λ l. GapFrom (timing_of table s).sg (past q trace.list (c + d) ++ false ∷ []) (last_place q l) w.gap) (sym same)
          (gap_quiet (timing_of table s).sg (past q trace.list (c + d)) (last_place q (own trace.list s.number (c + d))) w.gap (omega arith) so.from));
      left = ap (λ l. w.left + length l) same ∙ so.left;
    })

pub keeps_until : (table : Table) (trace : Recording) (s : Sender) (w : Watch) (c u : ℕ) → c ≤ u → ((v : ℕ) → c ≤ v → v < u → carrier trace.list v ≡ false) → NoneOf trace.list s.number c u → Keeps table trace s w c c → Keeps table trace s w u u
keeps_until table trace s w c u low quiet none k =
    let e : c + (u - c) ≡ u = omega arith in
    subst (λ v. Keeps table trace s w v v) e (keeps_quiet table trace s w c (u - c) (λ v a b. quiet v a (omega arith)) (λ x i f a b. none x i f a (omega arith)) k)

-- what was kept for one beginning of the own transmissions is kept for the same
pub keeps_cut : (table : Table) (trace : Recording) (s : Sender) (w : Watch) (c a b : ℕ) → own trace.list s.number b ≡ own trace.list s.number a → Keeps table trace s w c a → Keeps table trace s w c b
keeps_cut table trace s w c a b same k =
    let q = quiet_of table in
    record {
      number = k.number;
      timing = k.timing;
      sound = k.sound;
      interval = ap (λ l. due_place (timing_of table s) (last_place q l)) same ∙ k.interval;
      from = subst (λ l. GapFrom (timing_of table s).sg (past q trace.list c) (last_place q l) w.gap) (sym same) k.from;
      left = ap (λ l. w.left + length l) same ∙ k.left;
    }

-- where the terminal gap counts from behind a busy stretch
pub passed_gap : (from to : ℕ) (w : Watch) → ((w.gap ≤ from) × ((passed from to w).gap ≡ to)) ⊎ ((from < w.gap) × ((passed from to w).gap ≡ to + w.timing.sg))
passed_gap from to w =
    elim (cases_lt from w.gap) [
      | inl waiting ↦ inr (waiting, ap (λ b. cond b to (to + w.timing.sg)) (lt-leb w.gap from waiting))
      | inr elapsed ↦ inl (elapsed, ap (λ b. cond b to (to + w.timing.sg)) (le-leb w.gap from elapsed))
    ]

-- a busy stretch moves the watch
pub keeps_busy : (table : Table) (trace : Recording) (s : Sender) (w : Watch) (a b : ℕ) → IsBusy trace.list a b → NoneOf trace.list s.number (a + 1) b → Keeps table trace s w a (a + 1) → Keeps table trace s (passed (quiet_of table + a) (quiet_of table + b) w) b b
keeps_busy table trace s w a b busy none k =
    let q = quiet_of table in
    let timing = timing_of table s in
    let some : a < b = busy.some in
    let least : 8 ≤ timing.tg = k.sound.tg_least in
    let most : timing.tg < timing.sg = k.sound.tg_short in
    let sg : w.timing.sg ≡ timing.sg = ap (λ (t : Timing). t.sg) k.timing in
    let last = last_place q (own trace.list s.number (a + 1)) in
    let moved : GapFrom timing.sg (past q trace.list b) last (passed (q + a) (q + b) w).gap = elim (passed_gap (q + a) (q + b) w) [
      | inl elapsed ↦ subst (λ p. GapFrom timing.sg (past q trace.list b) last p) (sym elapsed.1) (busy_elapsed q trace.list timing.sg last a b w.gap (omega arith) busy k.from elapsed.0)
      | inr waiting ↦ subst (λ p. GapFrom timing.sg (past q trace.list b) last p) (ap (λ n. q + b + n) (sym sg) ∙ sym waiting.1) (busy_waiting q trace.list timing.sg last a b w.gap (omega arith) busy k.from waiting.0)
    ] in
    keeps_cut table trace s (passed (q + a) (q + b) w) b (a + 1) b (own_later trace.list s.number (a + 1) b (omega arith) none) (record {
      number = k.number;
      timing = k.timing;
      sound = k.sound;
      interval = k.interval;
      from = moved;
      left = k.left;
    })

-- and while it lasts the watch tells that nobody may start
pub busy_tells : (table : Table) (trace : Recording) (s : Sender) (w : Watch) (a b u : ℕ) → IsBusy trace.list a b → NoneOf trace.list s.number (a + 1) u → a < u → u < b → Keeps table trace s w a (a + 1) → Tells table trace s (passed (quiet_of table + a) (quiet_of table + b) w) u
busy_tells table trace s w a b u busy none low high k =
    let q = quiet_of table in
    let w' = passed (q + a) (q + b) w in
    let late : q + b ≤ w'.gap = elim (passed_gap (q + a) (q + b) w) [ inl elapsed ↦ let e : (passed (q + a) (q + b) w).gap ≡ q + b = elapsed.1 in omega arith | inr waiting ↦ let e : (passed (q + a) (q + b) w).gap ≡ q + b + w.timing.sg = waiting.1 in omega arith ] in
    record {
      number = k.number;
      ready_may = λ h. absurd (omega arith);
      may_ready = λ may. absurd (busy_nobody q trace.list (timing_of table s) (last_place q (own trace.list s.number u)) a b u k.sound busy low high may);
      left = ap (λ l. w.left + length l) (own_later trace.list s.number (a + 1) u (omega arith) none) ∙ k.left;
    }

-- at the settled start
due_settled : (table : Table) (s : Sender) → due_place (timing_of table s) None ≡ quiet_of table + due_for table.mode s
due_settled table s = refl

pub keeps_settled : (table : Table) (trace : Recording) (s : Sender) → IsSound (timing_of table s) → Keeps table trace s (settled table trace.holds s) 0 0
keeps_settled table trace s sound =
    let q = quiet_of table in
    let none : own trace.list s.number 0 ≡ [] = own_none trace.list s.number in
    let least : 8 ≤ (timing_of table s).tg = sound.tg_least in
    let most : (timing_of table s).tg < (timing_of table s).sg = sound.tg_short in
    let quiet : (timing_of table s).sg ≤ (timing_of table s).quiet = sound.quiet_least in
    record {
      number = refl;
      timing = refl;
      sound = sound;
      interval = ap (λ l. due_place (timing_of table s) (last_place q l)) none;
      from = subst (λ l. GapFrom table.sg (replicate q false) (last_place q l) table.sg) (sym none) (gap_settled table.sg q (omega arith) (omega arith));
      left = ap (λ l. held trace.holds s.number + length l) none ∙ omega arith;
    }

-- a start of its own
pub keeps_begun : (table : Table) (trace : Recording) (s : Sender) (w : Watch) (x : Entry) → IsAscending trace.list → In x trace.list → x.terminal ≡ s.number → 0 < w.left → Keeps table trace s w x.moment x.moment → Keeps table trace s (begun (quiet_of table + x.moment) w) x.moment (x.moment + 1)
keeps_begun table trace s w x o i mine left k =
    let q = quiet_of table in
    let timing = timing_of table s in
    let t = x.moment in
    let len : length (past q trace.list t) ≡ q + t = length_past q trace.list t in
    let least : 8 ≤ timing.tg = k.sound.tg_least in
    let most : timing.tg < timing.sg = k.sound.tg_short in
    let more : own trace.list s.number (t + 1) ≡ own trace.list s.number t ++ x ∷ [] = subst (λ n. own trace.list n (t + 1) ≡ own trace.list n t ++ x ∷ []) mine (own_more trace.list x o i) in
    let last : last_place q (own trace.list s.number (t + 1)) ≡ Some (q + t) = ap (last_place q) more ∙ last_push q (own trace.list s.number t) x in
    let count : length (own trace.list s.number (t + 1)) ≡ length (own trace.list s.number t) + 1 = ap length more ∙ length_push (own trace.list s.number t) x in
    let was : w.left + length (own trace.list s.number t) ≡ held trace.holds s.number = k.left in
    record {
      number = k.number;
      timing = k.timing;
      sound = k.sound;
      interval = ap (due_place timing) last ∙ ap (λ (v : Timing). q + t + v.ti) (sym k.timing);
      from = subst (λ p. GapFrom timing.sg (past q trace.list t) (last_place q (own trace.list s.number (t + 1))) p) (ap (λ (v : Timing). q + t + v.sg) (sym k.timing))
          (subst (λ v. GapFrom timing.sg (past q trace.list t) v (q + t + timing.sg)) (sym last)
          (subst (λ n. GapFrom timing.sg (past q trace.list t) (Some n) (n + timing.sg)) len (gap_started timing.sg (past q trace.list t) (omega arith))));
      left = omega arith;
    }
