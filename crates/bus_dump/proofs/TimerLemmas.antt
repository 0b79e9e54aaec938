-- What the wires of timers tell.
use Rattle.std.proofs.Common.{◌≡◌, ℕ, ◌+◌, ◌-◌, ◌<◌, ◌≤◌, Bool, true, false, ◌&&◌, ◌||◌, cond, eqb, leb, ltb, fold, List, [], ◌∷◌, length, map, Option, Some, None, unwrap_or}
use Rattle.std.proofs.Common.{inl, inr, arith, sym, refl, ap, ◌∙◌}
use Rattle.std.specs.Prelude.{IsTrue, nat_eq, ◌↔◌}
use Rattle.std.specs.List.{AllByRecursion, IsDistinct, find, list_any, range_with_len}
use Rattle.std.proofs.lemmas.Bool.{and_parts, eq-eqb, le-leb, leb-true, ltb-true, true≢false}
use Rattle.std.proofs.lemmas.List.Folds.{list_any-append}
use Rattle.bus_strings.specs.Members.{In}
use Rattle.bus_strings.specs.Messages.{Entry}
use Rattle.bus_table.specs.Tables.{Sender, Table}
use Rattle.bus_table.specs.Valid.{is_valid}
use Rattle.bus_table.proofs.ValidLaws.{valid_facts}
use Rattle.bus_timers.specs.declared.timing.Timing.{Timing}
use Rattle.bus_timers.specs.Timings.{due_place}
use Rattle.bus_timers.specs.MayStartTest.{TestDecides, is_quiet, is_sync, may_start}
use Rattle.bus_medium.specs.Past.{last_place, own, past}
use Rattle.bus_medium.proofs.PastLaws.{length_past}
use Rattle.bus_medium.specs.Timings.{quiet_of, timing_of}
use Rattle.bus_dump.specs.declared.dump.Dump.TheVariants.{Timers}
use Rattle.bus_dump.specs.TimerLaws.{GapElapsed, Synchronizes, TimersAreTold}
use Rattle.bus_dump.specs.Scenes.{Scene, elapsed_at, scene_at}
use Rattle.bus_dump.specs.Signals.{Bit, Gap, Interval, May, Synchronization, Value, elapsed, no_elapsed, value}
use Rattle.bus_dump.specs.Timers.{Elapsed, has_interval, has_synchronization, has_gap}
use Rattle.bus_dump.proofs.SenderTimerLemmas.{bare, bare_due, gap_test, synchronization_test}
use Rattle.bus_dump.proofs.RangeLemmas.{range_join}

-- ---- the timers of a sender are its own
other_number : (numbers : List ℕ) (n m : ℕ) → AllByRecursion (λ k. nat_eq n k ≡ false) numbers → In m numbers → eqb n m ≡ false
other_number [] n m all i = absurd i
other_number (k ∷ numbers) n m all (inl same) = ap (eqb n) same ∙ all.0
other_number (k ∷ numbers) n m all (inr i) = other_number numbers n m all.1 i

number_in : (senders : List Sender) (s : Sender) → In s senders → In s.number (map (λ (x : Sender). x.number) senders)
number_in [] s i = absurd i
number_in (x ∷ senders) s (inl same) = inl (ap (λ (y : Sender). y.number) same)
number_in (x ∷ senders) s (inr i) = inr (number_in senders s i)

found : (table : Table) (list : List Entry) (t : ℕ) (senders : List Sender) (s : Sender) → IsDistinct nat_eq (map (λ (x : Sender). x.number) senders) → In s senders
    → elapsed s.number (map (elapsed_at table list t) senders) ≡ elapsed_at table list t s
unfolding IsDistinct
found table list t [] s distinct i = absurd i
found table list t (x ∷ senders) s distinct (inl same) =
    ap (λ b. unwrap_or (cond b (Some (elapsed_at table list t x)) (find (λ (e : Elapsed). eqb e.terminal s.number) (map (elapsed_at table list t) senders))) no_elapsed)
    (eq-eqb x.number s.number (sym (ap (λ (y : Sender). y.number) same)))
    ∙ ap (elapsed_at table list t) (sym same)
found table list t (x ∷ senders) s distinct (inr i) =
    ap (λ b. unwrap_or (cond b (Some (elapsed_at table list t x)) (find (λ (e : Elapsed). eqb e.terminal s.number) (map (elapsed_at table list t) senders))) no_elapsed)
    (other_number (map (λ (y : Sender). y.number) senders) x.number s.number distinct.0 (number_in senders s i))
    ∙ found table list t senders s distinct.1 i

pub timers_found : (table : Table) (list : List Entry) (t : ℕ) (s : Sender) → IsTrue (is_valid table) → In s table.senders
    → elapsed s.number (map (elapsed_at table list t) table.senders) ≡ elapsed_at table list t s
timers_found table list t s valid i = found table list t table.senders s (valid_facts table valid).numbers i

-- ---- the three and the one
same_may : (a b c d : Bool) → (a && b && c && d) ≡ (a && (b && c && d))
same_may true b c d = refl
same_may false b c d = refl

pub may_is : (timing : Timing) (past : List Bool) (last : Option ℕ) → may_start timing past last ≡ (has_interval timing past last && has_gap timing past last)
may_is timing past last =
    same_may (leb (due_place timing last) (length past)) (list_any (λ e. is_sync timing.sg past last e) (range_with_len 0 (length past + 1 - timing.tg)))
    (leb timing.tg (length past)) (is_quiet past (length past - timing.tg) (length past))

any_more : (p : ℕ → Bool) (n m : ℕ) → n ≤ m → list_any p (range_with_len 0 n) ≡ true → list_any p (range_with_len 0 m) ≡ true
any_more p n m h w =
    ap (λ k. list_any p (range_with_len 0 k)) (let e : m ≡ n + (m - n) = omega arith in e)
    ∙ ap (list_any p) (range_join 0 n (m - n)) ∙ list_any-append p (range_with_len 0 n) (range_with_len (0 + n) (m - n))
    ∙ ap (λ b. b || list_any p (range_with_len (0 + n) (m - n))) w

pub gap_behind_synchronization : (timing : Timing) (past : List Bool) (last : Option ℕ) → has_gap timing past last ≡ true
    → has_synchronization timing past last ≡ true
gap_behind_synchronization timing past last h =
    let a = first (list_any (λ e. is_sync timing.sg past last e) (range_with_len 0 (length past + 1 - timing.tg))) (leb timing.tg (length past))
    (is_quiet past (length past - timing.tg) (length past)) h in
    any_more (λ e. is_sync timing.sg past last e) (length past + 1 - timing.tg) (length past + 1) (omega arith) a
  where
    first : (x y z : Bool) → (x && y && z) ≡ true → x ≡ true
    first true y z e = refl
    first false y z e = absurd (true≢false (sym e))

-- ---- the tests are the definitions
-- the last own start lies in the past
starts_low : (q t n : ℕ) (list : List Entry) (last : Option ℕ) → unwrap_or last 0 ≤ q + t
    → unwrap_or (fold (λ (before : Option ℕ) (x : Entry). Some (q + x.moment)) last (own list n t)) 0 ≤ q + t
starts_low q t n [] last h = h
starts_low q t n (x ∷ list) last h =
    elim (eqb x.terminal n && ltb x.moment t) as (λ b. (eqb x.terminal n && ltb x.moment t) ≡ b
    → unwrap_or (fold (λ (before : Option ℕ) (y : Entry). Some (q + y.moment)) last (cond b (x ∷ own list n t) (own list n t))) 0 ≤ q + t) [
      | true ↦ λ e.
          let begun : x.moment < t = ltb-true x.moment t (and_parts (eqb x.terminal n) (ltb x.moment t) e).1 in
          let low : q + x.moment ≤ q + t = omega arith in
          starts_low q t n list (Some (q + x.moment)) low
      | false ↦ λ e. starts_low q t n list last h
    ] refl

last_low : (q : ℕ) (list : List Entry) (n t : ℕ) → unwrap_or (last_place q (own list n t)) 0 ≤ length (past q list t)
last_low q list n t =
    let long : length (past q list t) ≡ q + t = length_past q list t in
    let low : unwrap_or (last_place q (own list n t)) 0 ≤ q + t = starts_low q t n list None (omega arith) in
    omega (arith, long, low)

synchronization_is : TestDecides → (timing : Timing) (heard : List Bool) (last : Option ℕ) → unwrap_or last 0 ≤ length heard
    → (has_synchronization timing heard last ≡ true) ↔ Synchronizes timing.sg 0 heard last
synchronization_is decides timing heard last low =
    let test = decides (bare timing 0) heard last in
    let same : may_start (bare timing 0) heard last ≡ has_synchronization timing heard last = synchronization_test timing heard last low in (
      λ h. (test.0 (same ∙ h)).synchronized,
      λ s. sym same ∙ test.1 (record {
        interval = bare_due timing 0 heard last low;
        synchronized = s;
        gap_fits = omega arith;
        gap = λ k l u. absurd (omega arith);
      }),
    )

gap_is : TestDecides → (timing : Timing) (heard : List Bool) (last : Option ℕ) → unwrap_or last 0 ≤ length heard
    → (has_gap timing heard last ≡ true) ↔ GapElapsed timing heard last
gap_is decides timing heard last low =
    let test = decides (bare timing timing.tg) heard last in
    let same : may_start (bare timing timing.tg) heard last ≡ has_gap timing heard last = gap_test timing heard last low in (
      λ h. (let m = test.0 (same ∙ h) in record { synchronized = m.synchronized; gap_fits = m.gap_fits; gap = m.gap }),
      λ g. sym same ∙ test.1 (record {
        interval = bare_due timing timing.tg heard last low;
        synchronized = g.synchronized;
        gap_fits = g.gap_fits;
        gap = g.gap;
      }),
    )

-- ---- the wires
bit_is : (a b : Bool) (v : Value) → v ≡ Bit a → v ≡ Bit b → a ≡ b
bit_is a b v e h = let w : Bit a ≡ Bit b = sym e ∙ h in cc

wire_is : {P : Type 0} (a : Bool) (v : Value) → v ≡ Bit a → ((a ≡ true) ↔ P) → (v ≡ Bit true) ↔ P
wire_is a v e w = (λ h. w.0 (bit_is a true v e h), λ p. e ∙ ap Bit (w.1 p))

pub timers_agree : TestDecides → TimersAreTold
timers_agree decides breach table list t s valid i =
    let n : ℕ = s.number in
    let scene : Scene = scene_at Timers breach table list t in
    let timing : Timing = timing_of table s in
    let heard : List Bool = past (quiet_of table) list t in
    let last : Option ℕ = last_place (quiet_of table) (own list n t) in
    let low : unwrap_or last 0 ≤ length heard = last_low (quiet_of table) list n t in
    let found = timers_found table list t s valid i in
    let a : Bool = has_interval timing heard last in
    let b : Bool = has_gap timing heard last in
    let interval : value (Interval n) scene ≡ Bit a = ap (λ (e : Elapsed). Bit e.interval) found in
    let gap : value (Gap n) scene ≡ Bit b = ap (λ (e : Elapsed). Bit e.gap) found in
    let synchronization : value (Synchronization n) scene ≡ Bit (has_synchronization timing heard last) =
    ap (λ (e : Elapsed). Bit e.synchronization) found in
    let may : value (May n) scene ≡ Bit (a && b) = ap (λ (e : Elapsed). Bit e.may) found ∙ ap Bit (may_is timing heard last) in
    record {
      interval = wire_is a (value (Interval n) scene) interval (
        λ h. leb-true (due_place timing last) (length heard) h,
        λ h. le-leb (due_place timing last) (length heard) h,
      );
      synchronization = wire_is (has_synchronization timing heard last) (value (Synchronization n) scene) synchronization
          (synchronization_is decides timing heard last low);
      gap = wire_is b (value (Gap n) scene) gap (gap_is decides timing heard last low);
      may = wire_is (a && b) (value (May n) scene) may (
        λ h. (let p = and_parts a b h in (interval ∙ ap Bit p.0, gap ∙ ap Bit p.1)),
        λ h. ap (λ c. c && b) (bit_is a true (value (Interval n) scene) interval h.0) ∙ bit_is b true (value (Gap n) scene) gap h.1,
      );
      behind = λ h. synchronization ∙ ap Bit (gap_behind_synchronization timing heard last (bit_is b true (value (Gap n) scene) gap h));
    }
