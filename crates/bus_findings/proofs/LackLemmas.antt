-- What lacks is the amount by which a start is too early.
use Rattle.std.specs.Prelude.{not, nat_le, nat_lt, ◌==◌}
use Rattle.std.specs.List.{filter, range_with_len}
use Rattle.std.proofs.Common.{◌≡◌, ℕ, ◌+◌, ◌-◌, ◌<◌, ◌≤◌, Bool, true, false, ◌&&◌, cond, List, inl, inr, arith, ap, sym, subst}
use Rattle.std.proofs.lemmas.Bool.{cases_lt, cases_Bool, or_cases, and_parts, and_from, or_left, or_right, lt-ltb, ltb-true, leb-true, leb-false, eq-eqb, eqb-true, eqb-false, ne_eqb, not-true, not_from_false}
use Rattle.bus_strings.proofs.MemberLaws.{any_in, any_found, in_filter, from_filter}
use Rattle.bus_recording.specs.Seen.{Seen, Monitor, Bounds}
use Rattle.bus_recording.specs.Findings.{HasHeardBegin, IsMet, IsEarlyByGap}
use Rattle.bus_findings.specs.Amounts.{IsAmount, greatest, greatest_to}
use Rattle.bus_findings.specs.Lacks.{has_heard_begin, is_met, has_room, sync_lack}
use Rattle.bus_findings.specs.Laws.{IntervalLackIsAmount, GapLackIsAmount, SyncLackIsAmount}
use Rattle.bus_findings.proofs.AmountLemmas.{greatest_at, greatest_over, greatest_to_most, greatest_to_over, greatest_to_test, in_range, from_range}
use Rattle.bus_findings.proofs.SeenLemmas.{is_in, in_is}

pub interval_is : IntervalLackIsAmount
interval_is timers o y = record { so = λ some. omega arith; most = λ m some h. omega arith }

-- ---- the terminal gap

pub heard_from : (monitor : Monitor) (y r : Seen) → has_heard_begin monitor y r ≡ true → HasHeardBegin monitor r y
heard_from monitor y r e =
    elim (or_cases (nat_lt (r.moment + monitor.reach) y.moment) (r.sender == y.sender && nat_lt r.moment y.moment) e) [
      | inl far ↦ inl (ltb-true (r.moment + monitor.reach) y.moment far)
      | inr own ↦
          let p = and_parts (r.sender == y.sender) (nat_lt r.moment y.moment) own in
          inr (eqb-true r.sender y.sender p.0, ltb-true r.moment y.moment p.1)
    ]

pub heard_to : (monitor : Monitor) (y r : Seen) → HasHeardBegin monitor r y → has_heard_begin monitor y r ≡ true
heard_to monitor y r (inl far) = or_left _ _ (lt-ltb (r.moment + monitor.reach) y.moment far)
heard_to monitor y r (inr own) = or_right _ _ (and_from _ _ (eq-eqb r.sender y.sender own.0) (lt-ltb r.moment y.moment own.1))

gap_wide : (timers : Bounds) (monitor : Monitor) (recording : List Seen) (y : Seen) → monitor.drop ≤ timers.short.tg
    → IsAmount (λ n. IsEarlyByGap timers monitor n recording y)
    (greatest (λ r. r.soonest + timers.short.tg - y.moment) (filter (has_heard_begin monitor y) recording))
gap_wide timers monitor recording y wide =
    let f : Seen → ℕ = λ r. r.soonest + timers.short.tg - y.moment in
    let p : Seen → Bool = has_heard_begin monitor y in
    record {
      so = λ some.
          let w = greatest_at f (filter p recording) some in
          let here = from_filter p recording w.0 w.1 in
          let e : greatest f (filter p recording) ≡ w.0.soonest + timers.short.tg - y.moment = w.2 in
          record { wide = wide; other = w.0; there = is_in recording w.0 here.0; begun = heard_from monitor y w.0 here.1; early = omega (arith, e, some) };
      most = λ m some h.
          let inside = in_filter p recording h.other (in_is recording h.other h.there) (heard_to monitor y h.other h.begun) in
          let over : h.other.soonest + timers.short.tg - y.moment ≤ greatest f (filter p recording) = greatest_over f (filter p recording) h.other inside in
          let early : y.moment + m ≤ h.other.soonest + timers.short.tg = h.early in
          omega (arith, over, early);
    }

pub gap_is : GapLackIsAmount
gap_is timers monitor recording y =
    let g : ℕ = greatest (λ r. r.soonest + timers.short.tg - y.moment) (filter (has_heard_begin monitor y) recording) in
    elim (cases_Bool (nat_le monitor.drop timers.short.tg)) [
      | inl holds ↦
          let e : g ≡ cond (nat_le monitor.drop timers.short.tg) g 0 = ap (λ b. cond b g 0) (sym holds) in
          subst (λ n. IsAmount (λ m. IsEarlyByGap timers monitor m recording y) n) e
          (gap_wide timers monitor recording y (leb-true monitor.drop timers.short.tg holds))
      | inr fails ↦
          let e : 0 ≡ cond (nat_le monitor.drop timers.short.tg) g 0 = ap (λ b. cond b g 0) (sym fails) in
          let narrow : timers.short.tg < monitor.drop = leb-false monitor.drop timers.short.tg fails in
          subst (λ n. IsAmount (λ m. IsEarlyByGap timers monitor m recording y) n) e (record {
            so = λ some. absurd (omega arith);
            most = λ m some h. (let wide : monitor.drop ≤ timers.short.tg = h.wide in absurd (omega arith));
          })
    ]

-- ---- the synchronization gap

met_test : Monitor → ℕ → ℕ → ℕ → Seen → Bool
met_test monitor k a b r = not (r.sender == k) && (nat_lt (r.moment + monitor.reach) b && nat_lt a r.soonest)

met_from : (monitor : Monitor) (recording : List Seen) (k a b : ℕ) → is_met monitor recording k a b ≡ true → IsMet monitor recording k a b
unfolding met_test
met_from monitor recording k a b e =
    let w = any_found (met_test monitor k a b) recording e in
    let p = and_parts (not (w.0.sender == k)) (nat_lt (w.0.moment + monitor.reach) b && nat_lt a w.0.soonest) w.2 in
    let q = and_parts (nat_lt (w.0.moment + monitor.reach) b) (nat_lt a w.0.soonest) p.1 in
    record {
      other = w.0;
      there = is_in recording w.0 w.1;
      foreign = eqb-false w.0.sender k (not-true _ p.0);
      begun = ltb-true (w.0.moment + monitor.reach) b q.0;
      ended = ltb-true a w.0.soonest q.1;
    }

met_to : (monitor : Monitor) (recording : List Seen) (k a b : ℕ) → IsMet monitor recording k a b → is_met monitor recording k a b ≡ true
unfolding met_test
met_to monitor recording k a b m =
    any_in (met_test monitor k a b) recording m.other (in_is recording m.other m.there)
    (and_from _ _ (not_from_false _ (ne_eqb m.other.sender k m.foreign))
    (and_from _ _ (lt-ltb (m.other.moment + monitor.reach) b m.begun) (lt-ltb a m.other.soonest m.ended)))

-- there is room for quiet of a length where some stretch is met by nobody
record IsRoom (timers : Bounds) (monitor : Monitor) (recording : List Seen) (o y : Seen) (length a : ℕ) : Type 0 where
  behind : o.soonest ≤ a
  fits : a + length + timers.short.tg ≤ y.moment
  free : is_met monitor recording y.sender a (a + length) ≡ false

room_from : (timers : Bounds) (monitor : Monitor) (recording : List Seen) (o y : Seen) (length : ℕ)
    → has_room timers monitor recording o y length ≡ true → (a : ℕ) × IsRoom timers monitor recording o y length a
room_from timers monitor recording o y length e =
    let count : ℕ = y.moment + 1 - (o.soonest + length + timers.short.tg) in
    let w = any_found (λ a. not (is_met monitor recording y.sender a (a + length))) (range_with_len o.soonest count) e in
    let r = from_range count o.soonest w.0 w.1 in
    let high : w.0 < o.soonest + count = r.1 in
    (w.0, record { behind = r.0; fits = omega (arith, high); free = not-true _ w.2 })

room_to : (timers : Bounds) (monitor : Monitor) (recording : List Seen) (o y : Seen) (length a : ℕ)
    → IsRoom timers monitor recording o y length a → has_room timers monitor recording o y length ≡ true
room_to timers monitor recording o y length a r =
    let count : ℕ = y.moment + 1 - (o.soonest + length + timers.short.tg) in
    let behind : o.soonest ≤ a = r.behind in
    let fits : a + length + timers.short.tg ≤ y.moment = r.fits in
    any_in (λ b. not (is_met monitor recording y.sender b (b + length))) (range_with_len o.soonest count) a
    (in_range count o.soonest a behind (omega (arith, behind, fits))) (not_from_false _ r.free)

-- nobody meets a part of a stretch that nobody meets
free_part : (monitor : Monitor) (recording : List Seen) (k a b c : ℕ) → b ≤ c → is_met monitor recording k a c ≡ false → is_met monitor recording k a b ≡ false
free_part monitor recording k a b c less free =
    elim (cases_Bool (is_met monitor recording k a b)) [
      | inl holds ↦
          let m = met_from monitor recording k a b holds in
          let begun : m.other.moment + monitor.reach < b = m.begun in
          let wider : is_met monitor recording k a c ≡ true =
          met_to monitor recording k a c (record { other = m.other; there = m.there; foreign = m.foreign; begun = omega arith; ended = m.ended }) in
          absurd (cc (wider, free))
      | inr fails ↦ fails
    ]

-- a stretch that nobody meets is no longer than the greatest room, if that lacks of the gap
room_most : (timers : Bounds) (monitor : Monitor) (recording : List Seen) (o y : Seen) (length a : ℕ)
    → greatest_to (has_room timers monitor recording o y) timers.short.sg < timers.short.sg
    → IsRoom timers monitor recording o y length a → length ≤ greatest_to (has_room timers monitor recording o y) timers.short.sg
room_most timers monitor recording o y length a lacks r =
    let test : ℕ → Bool = has_room timers monitor recording o y in
    let fits : a + length + timers.short.tg ≤ y.moment = r.fits in
    elim (cases_lt timers.short.sg length) [
      | inl longer ↦
          let whole : has_room timers monitor recording o y timers.short.sg ≡ true =
          room_to timers monitor recording o y timers.short.sg a (record {
            behind = r.behind;
            fits = omega (arith, fits, longer);
            free = free_part monitor recording y.sender a (a + timers.short.sg) (a + length) (omega (arith, longer)) r.free;
          }) in
          let over : timers.short.sg ≤ greatest_to test timers.short.sg = greatest_to_over test timers.short.sg timers.short.sg whole (omega arith) in
          absurd (omega (arith, over, lacks))
      | inr shorter ↦ greatest_to_over test timers.short.sg length (room_to timers monitor recording o y length a r) shorter
    ]

pub sync_is : SyncLackIsAmount
sync_is timers monitor recording o y drop =
    let test : ℕ → Bool = has_room timers monitor recording o y in
    let g : ℕ = greatest_to test timers.short.sg in
    let top : g ≤ timers.short.sg = greatest_to_most test timers.short.sg in
    record {
      so = λ some. record {
        wide = omega (arith, some, drop);
        met = λ a length long behind fits. elim (cases_Bool (is_met monitor recording y.sender a (a + length))) [
          | inl holds ↦ met_from monitor recording y.sender a (a + length) holds
          | inr fails ↦
              let lacks : g < timers.short.sg = omega (arith, some) in
              let less : length ≤ g = room_most timers monitor recording o y length a lacks (record { behind = behind; fits = fits; free = fails }) in
              absurd (omega (arith, some, long, less))
        ];
      };
      most = λ m some h. elim (cases_lt (sync_lack timers monitor recording o y) m) [
        | inr fine ↦ fine
        | inl more ↦
            let wide : monitor.drop + m ≤ timers.short.sg + 1 = h.wide in
            let positive : 0 < g = omega (arith, wide, more, drop) in
            let w = room_from timers monitor recording o y g (greatest_to_test test timers.short.sg positive) in
            let r = w.1 in
            let found = h.met w.0 g (omega (arith, wide, more, drop, top)) r.behind r.fits in
            let holds : is_met monitor recording y.sender w.0 (w.0 + g) ≡ true = met_to monitor recording y.sender w.0 (w.0 + g) found in
            absurd (let fails : is_met monitor recording y.sender w.0 (w.0 + g) ≡ false = r.free in cc (holds, fails))
      ];
    }
