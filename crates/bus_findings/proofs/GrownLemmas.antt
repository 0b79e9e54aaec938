-- What is known of a recording stays known where one transmission more comes behind it.
use Rattle.std.specs.Prelude.{slice_get, slice_range, sum_by, nat_lt, min, max, ◌==◌}
use Rattle.std.specs.List.{reduce}
use Rattle.std.specs.Option.{option_map_or}
use Rattle.std.proofs.Common.{◌≡◌, ℕ, zero, suc, ◌+◌, ◌-◌, ◌^◌, ◌<◌, ◌≤◌, true, List, [], ◌∷◌, ◌++◌, take, drop, length, Option, Some, None, inl, inr, arith, refl, ap, sym, subst, ◌∙◌}
use Rattle.std.proofs.lemmas.Bool.{or_left, or_right, and_from, eq-eqb, lt-ltb}
use Rattle.std.proofs.lemmas.List.{length-append, take-append-le}
use Rattle.std.proofs.lemmas.List.Sums.{sum_by-cons}
use Rattle.bus_strings.specs.Limits.{horizon_limit, most_terminal}
use Rattle.bus_strings.specs.Marking.{greatest_end}
use Rattle.bus_strings.specs.Members.{In}
use Rattle.bus_strings.specs.Messages.{Entry, IsMessage}
use Rattle.bus_strings.specs.Transmissions.{Precedes}
use Rattle.bus_strings.proofs.MemberLaws.{of_each, all_in, at_in, from_filter, in_push_cases, ordered_push}
use Rattle.bus_table.specs.Tables.{Sender, Table}
use Rattle.bus_trace.specs.Traces.{IsTrace, IsBelow}
use Rattle.bus_bounds.specs.Bounds.{Bounds, most_clocks}
use Rattle.bus_recording.specs.Seen.{Seen}
use Rattle.bus_findings.specs.declared.heard.Heard.{Heard}
use Rattle.bus_findings.specs.declared.quiet.Quiet.{Quiet}
use Rattle.bus_findings.specs.declared.watch.Last.{Last}
use Rattle.bus_findings.specs.declared.watch.Watch.{Watch}
use Rattle.bus_findings.specs.Amounts.{greatest}
use Rattle.bus_findings.specs.Dues.{due_of}
use Rattle.bus_findings.specs.Growing.{AreBy, Growing, Precede, due_until}
use Rattle.bus_findings.specs.Judging.{judgement_of, stands_before}
use Rattle.bus_findings.specs.Recorded.{monitor_of, reach, recorded, seen, settled_of, timers_of}
use Rattle.bus_findings.specs.Terminals.{fault_count, faults_among, own, apart}
use Rattle.bus_findings.specs.inside.Calm.{AreClose, IsQuiet, end_before}
use Rattle.bus_findings.specs.inside.Grown.{IsGrown, trace_of}
use Rattle.bus_findings.specs.inside.Sound.{AreLong}
use Rattle.bus_findings.specs.inside.Standing.{AreEnds, AreWatched, HasBegun, IsHeard, IsLast, IsLastAt, IsLastTo, IsStretch, IsWatch, latest_end, others_end, own_end}
use Rattle.bus_findings.proofs.FrontLemmas.{fronts_tell}
use Rattle.bus_findings.proofs.JudgeLemmas.{last_at, last_never}
use Rattle.bus_findings.proofs.PlaceLemmas.{drop_past, in_take, moments_ascend}
use Rattle.bus_findings.proofs.TraceLemmas.{begun_later, few_of, trace_long}

-- ---- lists with more behind

get_grown : {X : Type 0} → (xs ys : List X) (j : ℕ) → j < length xs → slice_get (xs ++ ys) j ≡ slice_get xs j
get_grown [] ys j h = absurd (omega (arith, h))
get_grown (x ∷ xs) ys zero h = refl
get_grown (x ∷ xs) ys (suc j) h = get_grown xs ys j (omega (arith, h))

pub get_last : {X : Type 0} → (xs : List X) (x : X) → slice_get (xs ++ x ∷ []) (length xs) ≡ Some x
get_last [] x = refl
get_last (y ∷ xs) x = get_last xs x

range_grown : {X : Type 0} → (xs ys : List X) (a b : ℕ) → b ≤ length xs → slice_range (xs ++ ys) a b ≡ slice_range xs a b
range_grown xs ys zero b h = take-append-le (b - 0) xs ys (omega (arith, h))
range_grown [] ys (suc a) b h =
    let e : b - suc a ≡ 0 = omega (arith, h) in
    ap (λ n. take n (drop (suc a) ys)) e ∙ sym (ap (λ n. take n (drop (suc a) [])) e)
range_grown (x ∷ xs) ys (suc a) b h =
    let e : b - suc a ≡ b - 1 - a = omega arith in
    ap (λ n. take n (drop a (xs ++ ys))) e ∙ range_grown xs ys a (b - 1) (omega (arith, h)) ∙ sym (ap (λ n. take n (drop a xs)) e)

sum_same : {X : Type 0} (f g : X → ℕ) → (xs : List X) → ((x : X) → In x xs → f x ≡ g x) → sum_by f xs ≡ sum_by g xs
sum_same f g [] h = refl
sum_same f g (x ∷ xs) h =
    let a : sum_by f (x ∷ xs) ≡ f x + sum_by f xs = sum_by-cons f x xs in
    let b : sum_by g (x ∷ xs) ≡ g x + sum_by g xs = sum_by-cons g x xs in
    let here : f x ≡ g x = h x (inl refl) in
    let rest : sum_by f xs ≡ sum_by g xs = sum_same f g xs (λ z i. h z (inr i)) in
    omega (arith, a, b, here, rest)

-- ---- one transmission more

stands : (z x : Entry) → Precedes z x → stands_before x z ≡ true
stands z x (inl less) = or_left (nat_lt z.moment x.moment) _ (lt-ltb z.moment x.moment less)
stands z x (inr same) =
    or_right (nat_lt z.moment x.moment) _ (and_from _ _ (eq-eqb z.moment x.moment same.0) (lt-ltb z.terminal x.terminal same.1))

module _ (bounds : Bounds) (list : List Entry) (x : Entry) where
  taken : (i : ℕ) → i ≤ length list → take i (list ++ x ∷ []) ≡ take i list
  taken i low = take-append-le i list (x ∷ []) low

  close_grown : (gap a b : ℕ) → b ≤ length list → AreClose bounds list gap a b → AreClose bounds (list ++ x ∷ []) gap a b
  close_grown gap a b low is j y left right at =
      let within : j < length list = omega (arith, right, low) in
      let there : slice_get list j ≡ Some y = sym (get_grown list (x ∷ []) j within) ∙ at in
      let e : end_before bounds (list ++ x ∷ []) j ≡ end_before bounds list j =
      ap (λ l. greatest (λ (r : Seen). r.latest) (recorded bounds l)) (taken j (omega (arith, within))) in
      let h : y.moment < end_before bounds list j + gap = is j y left right there in
      omega (arith, h, e)

  quiet_grown : (i : ℕ) (quiet : Quiet) → i ≤ length list → IsQuiet bounds list i quiet → IsQuiet bounds (list ++ x ∷ []) i quiet
  quiet_grown i quiet low is =
      let place : quiet.place ≤ i - 1 = is.place in
      let within : quiet.place ≤ length list = omega (arith, place, low) in
      let e : end_before bounds (list ++ x ∷ []) quiet.place ≡ end_before bounds list quiet.place =
      ap (λ l. greatest (λ (r : Seen). r.latest) (recorded bounds l)) (taken quiet.place within) in
      let exact : quiet.from ≤ end_before bounds list quiet.place = is.exact in
      record {
        place = is.place;
        long = is.long;
        from = λ y inside. is.from y (subst (λ l. In y l) (taken quiet.place within) inside);
        exact = omega (arith, exact, e);
        bound = is.bound;
        before = close_grown quiet.long (quiet.earlier + 1) quiet.place within is.before;
        behind = close_grown quiet.long (quiet.place + 1) i low is.behind;
        since = close_grown (quiet.since + 1) (quiet.place + 1) i low is.since;
      }

  pub heard_grown : (i : ℕ) (heard : Heard) → i ≤ length list → IsHeard bounds list i heard → IsHeard bounds (list ++ x ∷ []) i heard
  heard_grown i heard low is =
      let t : take i list ≡ take i (list ++ x ∷ []) = sym (taken i low) in
      record {
        end = is.end ∙ ap greatest_end t;
        end_bound = is.end_bound;
        soonest = subst (λ l. AreEnds (recorded bounds l) heard.soonest) t is.soonest;
        latest = is.latest ∙ ap (λ l. latest_end (reach bounds) (recorded bounds l)) t;
        latest_bound = is.latest_bound;
        quiet = quiet_grown i heard.quiet low is.quiet;
      }

  pub begun_grown : (moment : ℕ) (heard : Heard) → HasBegun bounds list moment heard → HasBegun bounds (list ++ x ∷ []) moment heard
  begun_grown moment heard is =
      let low : heard.begun ≤ length list = is.within in
      let t : take heard.begun list ≡ take heard.begun (list ++ x ∷ []) = sym (taken heard.begun low) in
      let long : length (list ++ x ∷ []) ≡ length list + 1 = length-append list (x ∷ []) in
      record {
        within = omega (arith, low, long);
        end = is.end ∙ ap (λ l. greatest (λ (r : Seen). r.soonest) (recorded bounds l)) t;
        bound = is.bound;
        begun = λ y inside. is.begun y (subst (λ l. In y l) (sym t) inside);
      }

  at_grown : (number : ℕ) (last : Last) → last.place < length list → IsLastAt bounds list number last → IsLastAt bounds (list ++ x ∷ []) number last
  at_grown number last within is =
      let t : take last.place list ≡ take last.place (list ++ x ∷ []) = sym (taken last.place (omega (arith, within))) in
      record {
        start = is.start;
        there = get_grown list (x ∷ []) last.place within ∙ is.there;
        mine = is.mine;
        others = is.others ∙ ap (λ l. others_end (recorded bounds l) number) t;
        others_bound = is.others_bound;
        latest = is.latest ∙ ap (λ l. latest_end (reach bounds) (recorded bounds l)) t;
        latest_bound = is.latest_bound;
      }

  last_grown : (number i : ℕ) (last : Option Last) → i ≤ length list → IsLast bounds list number i last → IsLast bounds (list ++ x ∷ []) number i last
  last_grown number i None low is = λ y inside. is y (subst (λ l. In y l) (taken i low) inside)
  last_grown number i (Some last) low is =
      let place : last.place < i = is.within in
      record {
        at = at_grown number last (omega (arith, place, low)) is.at;
        within = is.within;
        none = λ y inside. is.none y (subst (λ l. In y l) (range_grown list (x ∷ []) (last.place + 1) i low) inside);
      }

  faults_grown : (table : Table) (number i : ℕ) → Precede list x
      → faults_among bounds table (list ++ x ∷ []) (own (take i list) number) ≡ faults_among bounds table list (own (take i list) number)
  faults_grown table number i before =
      sum_same (λ z. fault_count (judgement_of bounds table (list ++ x ∷ []) z)) (λ z. fault_count (judgement_of bounds table list z))
      (own (take i list) number)
      (λ z inside.
      let there : In z list = in_take list i z (from_filter (λ (y : Entry). y.terminal == number) (take i list) z inside).0 in
      ap fault_count (fronts_tell bounds table list (x ∷ []) z (stands z x (before z there), tt)))

  watch_grown : (table : Table) (number i : ℕ) (watch : Watch) → i ≤ length list → Precede list x → IsWatch bounds table list number i watch
      → IsWatch bounds table (list ++ x ∷ []) number i watch
  watch_grown table number i watch low before is =
      let t : take i list ≡ take i (list ++ x ∷ []) = sym (taken i low) in
      record {
        last = last_grown number i watch.last low is.last;
        own_end = is.own_end ∙ ap (λ l. own_end (recorded bounds l) number) t;
        own_bound = is.own_bound;
        starts = is.starts ∙ ap (λ l. length (own l number)) t;
        faults = is.faults ∙ sym (faults_grown table number i before) ∙ ap (λ l. faults_among bounds table (list ++ x ∷ []) (own l number)) t;
        counted = is.counted;
        few = is.few;
        least = is.least ∙ ap (λ l. reduce min (apart (own l number))) t;
        most = is.most ∙ ap (λ l. reduce max (apart (own l number))) t;
      }

  pub watched_grown : (table : Table) (i : ℕ) (watches : List Watch) → i ≤ length list → Precede list x → AreWatched bounds table list i watches
      → AreWatched bounds table (list ++ x ∷ []) i watches
  watched_grown table i watches low before is = record {
    enough = is.enough;
    each = λ k s w here at. watch_grown table s.number i w low before (is.each k s w here at);
  }

-- ---- the trace

pub trace_new : IsTrace (trace_of [])
trace_new = record { horizon = omega arith; holds = tt; terminals = tt; list = tt; order = tt }

pub trace_grown : (list : List Entry) (x : Entry) → Precede list x → IsBelow horizon_limit x → IsTrace (trace_of list) → IsTrace (trace_of (list ++ x ∷ []))
trace_grown list x before below is = record {
  horizon = is.horizon;
  holds = is.holds;
  terminals = is.terminals;
  list = all_in (IsBelow horizon_limit) (list ++ x ∷ []) (λ z inside. elim (in_push_cases list x z inside) [
    | inl old ↦ of_each (IsBelow horizon_limit) list is.list z old
    | inr new ↦ subst (IsBelow horizon_limit) (sym new) below
  ]);
  order = ordered_push Precedes list x is.order before;
}

-- none begins behind the last one
pub by_last : (list : List Entry) (x : Entry) → Precede list x → AreBy list x.moment
by_last list x before z inside = moments_ascend z x (before z inside)

-- ---- what is kept

pub grown_new : (bounds : Bounds) (table : Table) (settled : ℕ) (heard : Heard) (watches : List Watch) → bounds.delay ≤ 9 → bounds.clocks ≤ most_clocks
    → settled ≡ settled_of bounds table → settled < 2 ^ 40 → IsHeard bounds [] 0 heard → ((moment : ℕ) → HasBegun bounds [] moment heard)
    → AreWatched bounds table [] 0 watches → IsGrown bounds table settled [] heard watches
grown_new bounds table settled heard watches near clocks known low hears begun watched = record {
  near = near;
  clocks = clocks;
  known = known;
  low = low;
  trace = trace_new;
  hears = hears;
  begun = λ moment by. begun moment;
  watched = watched;
}

-- before one transmission more is judged
pub record IsReady (bounds : Bounds) (table : Table) (list : List Entry) (i : ℕ) (x : Entry) (heard : Heard) (watches : List Watch) : Type 0 where
  pub there : slice_get list i ≡ Some x
  pub trace : IsTrace (trace_of list)
  pub long : AreLong bounds list
  pub count : i + 1 ≡ length list
  pub few : i < 2 ^ 50
  pub hears : IsHeard bounds list i heard
  pub begun : HasBegun bounds list x.moment heard
  pub watched : AreWatched bounds table list i watches

pub ready : (bounds : Bounds) (table : Table) (settled : ℕ) (list more : List Entry) (i : ℕ) (x : Entry) (heard : Heard) (watches : List Watch)
    → IsGrown bounds table settled list heard watches → Precede list x → IsBelow horizon_limit x → more ≡ list ++ x ∷ [] → i ≡ length list
    → IsReady bounds table more i x heard watches
ready bounds table settled list more i x heard watches is before below whole count =
    let t : IsTrace (trace_of (list ++ x ∷ [])) = trace_grown list x before below is.trace in
    let long : length (list ++ x ∷ []) ≡ length list + 1 = length-append list (x ∷ []) in
    let all : IsReady bounds table (list ++ x ∷ []) (length list) x heard watches = record {
      there = get_last list x;
      trace = t;
      long = trace_long bounds (trace_of (list ++ x ∷ [])) is.clocks t;
      count = omega (arith, long);
      few = few_of (trace_of (list ++ x ∷ [])) t (length list) (omega (arith, long));
      hears = heard_grown bounds list x (length list) heard (omega arith) is.hears;
      begun = begun_grown bounds list x x.moment heard (is.begun x.moment (by_last list x before));
      watched = watched_grown bounds list x table (length list) watches (omega arith) before is.watched;
    } in
    subst (λ l. IsReady bounds table l i x heard watches) (sym whole) (subst (λ n. IsReady bounds table (list ++ x ∷ []) n x heard watches) (sym count) all)

-- the same of a value that is seen as what it is of
pub ready_of : (bounds : Bounds) (table : Table) (settled : ℕ) (list more : List Entry) (i : ℕ) (x inside : Entry) (heard : Heard) (watches : List Watch) (self : Growing)
    → record { bounds = bounds; table = table; list = list } ≡ self → IsGrown bounds table settled list heard watches → Precede self.list x
    → inside ≡ x → (1 ≤ inside.terminal) × (inside.terminal ≤ most_terminal) × (inside.moment < horizon_limit) → IsMessage x.message
    → more ≡ list ++ x ∷ [] → i + 1 ≡ length more → IsReady bounds table more i x heard watches
ready_of bounds table settled list more i x inside heard watches self view is before inner ranges right whole count =
    let a : inside.moment ≡ x.moment = ap (λ (z : Entry). z.moment) inner in
    let b : inside.terminal ≡ x.terminal = ap (λ (z : Entry). z.terminal) inner in
    let positive : 1 ≤ inside.terminal = ranges.0 in
    let low : inside.terminal ≤ most_terminal = ranges.1 in
    let moment : inside.moment < horizon_limit = ranges.2 in
    let long : length (list ++ x ∷ []) ≡ length list + 1 = length-append list (x ∷ []) in
    let one : length more ≡ length (list ++ x ∷ []) = ap length whole in
    ready bounds table settled list more i x heard watches is (subst (λ (g : Growing). Precede g.list x) (sym view) before)
    (record { moment = omega (arith, a, moment); positive = omega (arith, b, positive); low = omega (arith, b, low); message = right })
    whole (omega (arith, count, long, one))

-- and behind it
pub grown_on : (bounds : Bounds) (table : Table) (settled : ℕ) (before list : List Entry) (i : ℕ) (x : Entry) (heard old : Heard) (watches kept : List Watch)
    → IsGrown bounds table settled before old kept → IsReady bounds table list i x old kept → IsHeard bounds list (i + 1) heard
    → HasBegun bounds list x.moment heard → AreWatched bounds table list (i + 1) watches → IsGrown bounds table settled list heard watches
grown_on bounds table settled before list i x heard old watches kept was is hears begun watched = record {
  near = was.near;
  clocks = was.clocks;
  known = was.known;
  low = was.low;
  trace = is.trace;
  hears = subst (λ n. IsHeard bounds list n heard) is.count hears;
  begun = λ moment by. begun_later bounds list x.moment moment heard begun (by x (at_in list i x is.there));
  watched = subst (λ n. AreWatched bounds table list n watches) is.count watched;
}

-- ---- who is due

pub due_never : (bounds : Bounds) (table : Table) (list : List Entry) (s : Sender) (w : Watch) (until : ℕ)
    → IsWatch bounds table list s.number (length list) w → w.last ≡ None → due_until bounds table list s until ≡ None
unfolding due_until
due_never bounds table list s w until is none =
    ap (λ o. option_map_or (λ (r : Seen). due_of (timers_of bounds table s) (monitor_of bounds table) (recorded bounds list) r until) o None)
    (last_never bounds list s.number (length list) (until + 1) (subst (IsLast bounds list s.number (length list)) none is.last)
    (λ z inside. absurd (drop_past list (length list) z (omega arith) inside)))

pub record IsDue (bounds : Bounds) (table : Table) (list : List Entry) (s : Sender) (last : Last) (until : ℕ) : Type 0 where
  pub start : Entry
  pub there : slice_get list last.place ≡ Some start
  pub at : IsLastAt bounds list s.number last
  pub stretch : IsStretch list s.number last.place (length list) until
  pub is : due_until bounds table list s until ≡ due_of (timers_of bounds table s) (monitor_of bounds table) (recorded bounds list) (seen bounds start) until

stretch_by : (list : List Entry) (number : ℕ) (bounds : Bounds) (last : Last) (until : ℕ) → IsTrace (trace_of list) → AreBy list until
    → IsLastTo bounds list number (length list) last → IsStretch list number last.place (length list) until
stretch_by list number bounds last until t by l = record {
  order = t.order;
  within = l.within;
  short = omega arith;
  none = l.none;
  before = λ x inside. by x (in_take list (length list) x inside);
  behind = λ x inside. absurd (drop_past list (length list) x (omega arith) inside);
}

pub due_since : (bounds : Bounds) (table : Table) (list : List Entry) (s : Sender) (w : Watch) (last : Last) (until : ℕ) → IsTrace (trace_of list)
    → AreBy list until → IsWatch bounds table list s.number (length list) w → w.last ≡ Some last → IsDue bounds table list s last until
unfolding due_until
due_since bounds table list s w last until t by is some =
    let l = subst (IsLast bounds list s.number (length list)) some is.last in
    let o : Entry = l.at.start in
    let low : o.moment ≤ until = by o (at_in list last.place o l.at.there) in
    let more : AreBy list (until + 1) = λ z inside. (let h : z.moment ≤ until = by z inside in omega (arith, h)) in
    record {
      start = o;
      there = l.at.there;
      at = l.at;
      stretch = stretch_by list s.number bounds last until t by l;
      is = ap (λ v. option_map_or (λ (r : Seen). due_of (timers_of bounds table s) (monitor_of bounds table) (recorded bounds list) r until) v None)
          (last_at bounds list s.number last.place (length list) (until + 1) o (stretch_by list s.number bounds last (until + 1) t more l) l.at.there l.at.mine
          (omega (arith, low)));
    }
