-- Why nothing behind a transmission counts.
use Rattle.std.specs.Prelude.{max, not, ◌==◌, nat_le, nat_lt, option_map, option_and_then}
use Rattle.std.proofs.Common.{◌≡◌, ℕ, ◌+◌, ◌-◌, ◌<◌, ◌≤◌, Bool, true, false, cond, ◌&&◌, ◌||◌, List, [], ◌∷◌, ◌++◌, Option, Some, None, inl, inr, arith, refl, sym, ap, subst, ◌∙◌}
use Rattle.std.proofs.lemmas.Bool.{or_cases, or_left, or_right, and_parts, ltb-true, eqb-true}
use Rattle.std.proofs.lemmas.Bool.Decides.{nat_tests}
use Rattle.std.proofs.lemmas.List.{map-append}
use Rattle.bus_strings.specs.Marking.{greatest_end}
use Rattle.bus_strings.specs.Members.{In}
use Rattle.bus_strings.specs.Messages.{Entry}
use Rattle.bus_strings.proofs.MemberLaws.{of_each}
use Rattle.bus_table.specs.Fits.{fits, sender_of}
use Rattle.bus_table.specs.Tables.{Sender, Table}
use Rattle.bus_bounds.specs.Bounds.{Bounds}
use Rattle.bus_recording.specs.Seen.{Seen, Monitor, Bounds as Timers}
use Rattle.bus_findings.specs.declared.judgement.Due.{Due}
use Rattle.bus_findings.specs.declared.judgement.Judgement.{Judgement}
use Rattle.bus_findings.specs.declared.judgement.Late.{Late}
use Rattle.bus_findings.specs.Amounts.{first_below, greatest}
use Rattle.bus_findings.specs.Dues.{due_of, first_due, first_elapsed, is_quiet, is_same, last_over}
use Rattle.bus_findings.specs.Fronts.{FrontsTell, StandsBeforeAll}
use Rattle.bus_findings.specs.Judging.{begun_within, judgement_by, judgement_of, last_start, late_by, of_sender, overlap, stands_before}
use Rattle.bus_findings.specs.Lacks.{gap_lack, has_heard_begin, has_room, interval_lack, is_met, sync_lack}
use Rattle.bus_findings.specs.Recorded.{monitor_of, recorded, seen, timers_of}
use Rattle.bus_findings.proofs.FrontLists.{all_front, any_front, any_range, count_front, filter_front, find_range, greatest_same, last_front}

-- ---- tests that fail

and_last : (a b : Bool) → b ≡ false → (a && b) ≡ false
and_last true b h = h
and_last false b h = refl

or_none : (a b : Bool) → a ≡ false → b ≡ false → (a || b) ≡ false
or_none a b h l = ap (λ t. t || b) h ∙ l

-- ---- what stands behind a transmission

no_earlier : (x z : Entry) → stands_before z x ≡ true → x.moment ≤ z.moment
no_earlier x z h = elim (or_cases (nat_lt x.moment z.moment) (x.moment == z.moment && nat_lt x.terminal z.terminal) h) [
  | inl less ↦ (let l : x.moment < z.moment = ltb-true x.moment z.moment less in omega (arith, l))
  | inr same ↦ (let p = and_parts (x.moment == z.moment) (nat_lt x.terminal z.terminal) same in
      let e : x.moment ≡ z.moment = eqb-true x.moment z.moment p.0 in omega (arith, e))
]

not_before : (x z : Entry) → stands_before z x ≡ true → stands_before x z ≡ false
not_before x z h = elim (or_cases (nat_lt x.moment z.moment) (x.moment == z.moment && nat_lt x.terminal z.terminal) h) [
  | inl less ↦
      (let l : x.moment < z.moment = ltb-true x.moment z.moment less in
      let a : nat_lt z.moment x.moment ≡ false = grind (arith, nat_tests, l) in
      let b : (z.moment == x.moment) ≡ false = grind (arith, nat_tests, l) in
      or_none _ _ a (ap (λ t. t && nat_lt z.terminal x.terminal) b))
  | inr same ↦
      (let p = and_parts (x.moment == z.moment) (nat_lt x.terminal z.terminal) same in
      let e : x.moment ≡ z.moment = eqb-true x.moment z.moment p.0 in
      let l : x.terminal < z.terminal = ltb-true x.terminal z.terminal p.1 in
      let a : nat_lt z.moment x.moment ≡ false = grind (arith, nat_tests, e) in
      let b : nat_lt z.terminal x.terminal ≡ false = grind (arith, nat_tests, l) in
      or_none _ _ a (and_last (z.moment == x.moment) (nat_lt z.terminal x.terminal) b))
]

in_recorded : (bounds : Bounds) (behind : List Entry) (r : Seen) → In r (recorded bounds behind) → (z : Entry) × In z behind × (r ≡ seen bounds z)
in_recorded bounds [] r i = absurd i
in_recorded bounds (z ∷ zs) r (inl e) = (z, inl refl, e)
in_recorded bounds (z ∷ zs) r (inr i) = (let w = in_recorded bounds zs r i in (w.0, inr w.1, w.2))

module _ (bounds : Bounds) (table : Table) (list behind : List Entry) (x : Entry) (all : StandsBeforeAll x behind) where
  h : (z : Entry) → In z behind → stands_before z x ≡ true
  h = of_each (λ z. stands_before z x ≡ true) behind all

  late_seen : (r : Seen) → In r (recorded bounds behind) → x.moment ≤ r.moment
  late_seen r i =
      let w = in_recorded bounds behind r i in
      subst (λ (q : Seen). x.moment ≤ q.moment) (sym w.2) (no_earlier x w.0 (h w.0 w.1))

  joined : recorded bounds (list ++ behind) ≡ recorded bounds list ++ recorded bounds behind
  joined = map-append (seen bounds) list behind

  -- ---- each test of an element

  heard_not : (monitor : Monitor) (r : Seen) → In r (recorded bounds behind) → has_heard_begin monitor (seen bounds x) r ≡ false
  heard_not monitor r i =
      let l : x.moment ≤ r.moment = late_seen r i in
      let a : nat_lt (r.moment + monitor.reach) x.moment ≡ false = grind (arith, nat_tests, l) in
      let b : nat_lt r.moment x.moment ≡ false = grind (arith, nat_tests, l) in
      or_none _ _ a (and_last (r.sender == x.terminal) (nat_lt r.moment x.moment) b)

  met_not : (monitor : Monitor) (k a b : ℕ) → b ≤ x.moment → (r : Seen) → In r (recorded bounds behind)
      → (not (r.sender == k) && (nat_lt (r.moment + monitor.reach) b && nat_lt a r.soonest)) ≡ false
  met_not monitor k a b low r i =
      let l : x.moment ≤ r.moment = late_seen r i in
      let f : nat_lt (r.moment + monitor.reach) b ≡ false = grind (arith, nat_tests, l, low) in
      and_last (not (r.sender == k)) _ (ap (λ t. t && nat_lt a r.soonest) f)

  quiet_passes : (monitor : Monitor) (o : Seen) (a b : ℕ) → b ≤ x.moment → (r : Seen) → In r (recorded bounds behind)
      → (is_same r o || (nat_le b r.moment || nat_le (r.latest + monitor.rest) a)) ≡ true
  quiet_passes monitor o a b low r i =
      let l : x.moment ≤ r.moment = late_seen r i in
      let f : nat_le b r.moment ≡ true = grind (arith, nat_tests, l, low) in
      or_right (is_same r o) _ (or_left (nat_le b r.moment) _ f)

  start_not : (number : ℕ) (r : Seen) → In r (recorded bounds behind) → (r.sender == number && nat_lt r.moment x.moment) ≡ false
  start_not number r i =
      let l : x.moment ≤ r.moment = late_seen r i in
      let b : nat_lt r.moment x.moment ≡ false = grind (arith, nat_tests, l) in
      and_last (r.sender == number) (nat_lt r.moment x.moment) b

  begun_not : (from : ℕ) (r : Seen) → In r (recorded bounds behind) → (nat_le from r.moment && nat_lt r.moment x.moment) ≡ false
  begun_not from r i =
      let l : x.moment ≤ r.moment = late_seen r i in
      let b : nat_lt r.moment x.moment ≡ false = grind (arith, nat_tests, l) in
      and_last (nat_le from r.moment) (nat_lt r.moment x.moment) b

  -- ---- each word

  same_overlap : overlap (list ++ behind) x ≡ overlap list x
  same_overlap = ap (λ l. greatest_end l - x.moment) (filter_front (stands_before x) list behind (λ z i. not_before x z (h z i)))

  same_start : (number : ℕ) → last_start (recorded bounds (list ++ behind)) number x.moment ≡ last_start (recorded bounds list) number x.moment
  same_start number =
      ap (λ l. last_start l number x.moment) joined
      ∙ last_front (λ r. r.sender == number && nat_lt r.moment x.moment) (recorded bounds list) (recorded bounds behind) (start_not number)

  same_gap : (timers : Timers) (monitor : Monitor)
      → gap_lack timers monitor (recorded bounds (list ++ behind)) (seen bounds x) ≡ gap_lack timers monitor (recorded bounds list) (seen bounds x)
  same_gap timers monitor =
      ap (λ l. gap_lack timers monitor l (seen bounds x)) joined
      ∙ ap (λ l. cond (nat_le monitor.drop timers.short.tg) (greatest (λ r. r.soonest + timers.short.tg - x.moment) l) 0)
      (filter_front (has_heard_begin monitor (seen bounds x)) (recorded bounds list) (recorded bounds behind) (heard_not monitor))

  same_met : (monitor : Monitor) (k a b : ℕ) → b ≤ x.moment
      → is_met monitor (recorded bounds (list ++ behind)) k a b ≡ is_met monitor (recorded bounds list) k a b
  same_met monitor k a b low =
      ap (λ l. is_met monitor l k a b) joined
      ∙ any_front (λ r. not (r.sender == k) && (nat_lt (r.moment + monitor.reach) b && nat_lt a r.soonest)) (recorded bounds list)
      (recorded bounds behind) (met_not monitor k a b low)

  same_room : (timers : Timers) (monitor : Monitor) (o : Seen) (length : ℕ)
      → has_room timers monitor (recorded bounds (list ++ behind)) o (seen bounds x) length
      ≡ has_room timers monitor (recorded bounds list) o (seen bounds x) length
  same_room timers monitor o length =
      any_range (λ a. not (is_met monitor (recorded bounds (list ++ behind)) x.terminal a (a + length)))
      (λ a. not (is_met monitor (recorded bounds list) x.terminal a (a + length)))
      (x.moment + 1 - (o.soonest + length + timers.short.tg)) o.soonest
      (λ a low high. ap (λ b. not b) (same_met monitor x.terminal a (a + length) (omega (arith, low, high))))

  same_sync : (timers : Timers) (monitor : Monitor) (o : Seen)
      → sync_lack timers monitor (recorded bounds (list ++ behind)) o (seen bounds x)
      ≡ sync_lack timers monitor (recorded bounds list) o (seen bounds x)
  same_sync timers monitor o =
      ap (λ n. timers.short.sg - max n (monitor.drop - 1))
      (greatest_same (has_room timers monitor (recorded bounds (list ++ behind)) o (seen bounds x))
      (has_room timers monitor (recorded bounds list) o (seen bounds x)) (same_room timers monitor o) timers.short.sg)

  same_quiet : (monitor : Monitor) (o : Seen) (a b : ℕ) → b ≤ x.moment
      → is_quiet monitor (recorded bounds (list ++ behind)) o a b ≡ is_quiet monitor (recorded bounds list) o a b
  same_quiet monitor o a b low =
      ap (λ l. is_quiet monitor l o a b) joined
      ∙ ap (λ t. nat_le monitor.settled a && (nat_le o.latest a && t))
      (all_front (λ r. is_same r o || (nat_le b r.moment || nat_le (r.latest + monitor.rest) a)) (recorded bounds list) (recorded bounds behind)
      (quiet_passes monitor o a b low))

  same_elapsed : (timers : Timers) (monitor : Monitor) (o : Seen)
      → first_elapsed timers monitor (recorded bounds (list ++ behind)) o x.moment ≡ first_elapsed timers monitor (recorded bounds list) o x.moment
  unfolding first_below
  same_elapsed timers monitor o =
      find_range (λ e. nat_le timers.long.sg e && is_quiet monitor (recorded bounds (list ++ behind)) o (e - timers.long.sg) e)
      (λ e. nat_le timers.long.sg e && is_quiet monitor (recorded bounds list) o (e - timers.long.sg) e) x.moment 0
      (λ e low high. ap (λ t. nat_le timers.long.sg e && t) (same_quiet monitor o (e - timers.long.sg) e (omega (arith, high))))

  same_first : (timers : Timers) (monitor : Monitor) (o : Seen) (e : ℕ)
      → first_due timers monitor (recorded bounds (list ++ behind)) o x.moment e ≡ first_due timers monitor (recorded bounds list) o x.moment e
  unfolding first_below
  same_first timers monitor o e =
      find_range (λ t. nat_le (o.moment + timers.long.ti) t && (nat_le (e + timers.long.tg) t
      && is_quiet monitor (recorded bounds (list ++ behind)) o (t - timers.long.tg) t))
      (λ t. nat_le (o.moment + timers.long.ti) t && (nat_le (e + timers.long.tg) t
      && is_quiet monitor (recorded bounds list) o (t - timers.long.tg) t)) x.moment 0
      (λ t low high. ap (λ b. nat_le (o.moment + timers.long.ti) t && (nat_le (e + timers.long.tg) t && b))
      (same_quiet monitor o (t - timers.long.tg) t (omega (arith, high))))

  same_with : (timers : Timers) (o : Seen) (f g : ℕ → Option ℕ) → ((e : ℕ) → f e ≡ g e) → (elapsed : Option ℕ)
      → option_and_then (λ e. option_map (λ t. let d : Due = record { moment = t; timer = last_over timers o e t } in d) (f e)) elapsed
      ≡ option_and_then (λ e. option_map (λ t. let d : Due = record { moment = t; timer = last_over timers o e t } in d) (g e)) elapsed
  same_with timers o f g k None = refl
  same_with timers o f g k (Some e) = ap (option_map (λ t. let d : Due = record { moment = t; timer = last_over timers o e t } in d)) (k e)

  same_due : (timers : Timers) (monitor : Monitor) (o : Seen)
      → due_of timers monitor (recorded bounds (list ++ behind)) o x.moment ≡ due_of timers monitor (recorded bounds list) o x.moment
  same_due timers monitor o =
      ap (λ elapsed. option_and_then (λ e. option_map (λ t. let d : Due = record { moment = t; timer = last_over timers o e t } in d)
      (first_due timers monitor (recorded bounds (list ++ behind)) o x.moment e)) elapsed) (same_elapsed timers monitor o)
      ∙ same_with timers o (first_due timers monitor (recorded bounds (list ++ behind)) o x.moment)
      (first_due timers monitor (recorded bounds list) o x.moment) (same_first timers monitor o)
      (first_elapsed timers monitor (recorded bounds list) o x.moment)

  same_begun : (from : ℕ) → begun_within (recorded bounds (list ++ behind)) from x.moment ≡ begun_within (recorded bounds list) from x.moment
  same_begun from =
      ap (λ l. begun_within l from x.moment) joined
      ∙ count_front (λ r. nat_le from r.moment && nat_lt r.moment x.moment) (recorded bounds list) (recorded bounds behind) (begun_not from)

  same_late_by : (due : Option Due)
      → option_map (late_by (recorded bounds (list ++ behind)) (seen bounds x)) due ≡ option_map (late_by (recorded bounds list) (seen bounds x)) due
  same_late_by None = refl
  same_late_by (Some due) =
      ap (λ n. let l : Option Late = Some (record { timer = due.timer; amount = x.moment - due.moment; passed = n }) in l) (same_begun due.moment)

  same_late : (timers : Timers) (monitor : Monitor) (o : Seen)
      → option_map (late_by (recorded bounds (list ++ behind)) (seen bounds x)) (due_of timers monitor (recorded bounds (list ++ behind)) o x.moment)
      ≡ option_map (late_by (recorded bounds list) (seen bounds x)) (due_of timers monitor (recorded bounds list) o x.moment)
  same_late timers monitor o =
      ap (option_map (late_by (recorded bounds (list ++ behind)) (seen bounds x))) (same_due timers monitor o)
      ∙ same_late_by (due_of timers monitor (recorded bounds list) o x.moment)

  -- ---- all together

  found_with : Sender → ℕ → ℕ → ℕ → Option Late → ℕ → Judgement
  found_with sender interval sync gap late more = record {
    stranger = false;
    interval = interval;
    sync_gap = sync;
    terminal_gap = gap;
    late = late;
    misfit = not (fits sender x.message);
    overlap = more;
  }

  same_sender : (sender : Sender) (last : Option Seen) → of_sender bounds table (list ++ behind) sender x last ≡ of_sender bounds table list sender x last
  unfolding found_with
  same_sender sender None =
      let monitor : Monitor = monitor_of bounds table in
      let timers : Timers = timers_of bounds table sender in
      ap (λ g. found_with sender 0 0 g None (overlap (list ++ behind) x)) (same_gap timers monitor)
      ∙ ap (λ o. found_with sender 0 0 (gap_lack timers monitor (recorded bounds list) (seen bounds x)) None o) same_overlap
  same_sender sender (Some o) =
      let monitor : Monitor = monitor_of bounds table in
      let timers : Timers = timers_of bounds table sender in
      let i : ℕ = interval_lack timers o (seen bounds x) in
      let sync : List Seen → ℕ = λ l. sync_lack timers monitor l o (seen bounds x) in
      let gap : List Seen → ℕ = λ l. gap_lack timers monitor l (seen bounds x) in
      let late : List Seen → Option Late = λ l. option_map (late_by l (seen bounds x)) (due_of timers monitor l o x.moment) in
      let more : List Seen = recorded bounds (list ++ behind) in
      let less : List Seen = recorded bounds list in
      ap (λ n. found_with sender i n (gap more) (late more) (overlap (list ++ behind) x)) (same_sync timers monitor o)
      ∙ ap (λ n. found_with sender i (sync less) n (late more) (overlap (list ++ behind) x)) (same_gap timers monitor)
      ∙ ap (λ n. found_with sender i (sync less) (gap less) n (overlap (list ++ behind) x)) (same_late timers monitor o)
      ∙ ap (λ n. found_with sender i (sync less) (gap less) (late less) n) same_overlap

  same_by : (sender : Option Sender) → judgement_by bounds table (list ++ behind) x sender ≡ judgement_by bounds table list x sender
  same_by None = ap (λ n. let j : Judgement = record {
    stranger = true;
    interval = 0;
    sync_gap = 0;
    terminal_gap = 0;
    late = None;
    misfit = false;
    overlap = n;
  } in j) same_overlap
  same_by (Some sender) =
      ap (λ l. of_sender bounds table (list ++ behind) sender x l) (same_start x.terminal)
      ∙ same_sender sender (last_start (recorded bounds list) x.terminal x.moment)

pub fronts_tell : FrontsTell
unfolding judgement_of
fronts_tell bounds table list behind x all = same_by bounds table list behind x all (sender_of table.senders x.terminal)
