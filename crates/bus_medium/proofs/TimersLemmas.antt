-- The timers of all senders and the clocks that they keep, one after another.
use Rattle.std.proofs.Common.{◌≡◌, ◌≢◌, ℕ, zero, suc, ◌++◌, ◌∷◌, ◌+◌, ◌-◌, ◌^◌, ◌<◌, ◌≤◌, ◌⊎◌, Bool, true, false, cond, [], List, length, set, max, Some, None, inl, inr, arith, sym, refl, ap, ◌∙◌, subst}
use Rattle.std.specs.Prelude.{slice_get}
use Rattle.std.proofs.lemmas.Bool.{cases_lt, cases_eq, lt-leb, le-leb}
use Rattle.std.proofs.lemmas.List.{length-map, length-set}
use Rattle.std.proofs.lemmas.Option.{slice_get_within}
use Rattle.bus_strings.proofs.ListLaws.{some_at}
use Rattle.bus_medium.specs.Jumps.{Each}
use Rattle.bus_medium.specs.declared.timers.Timers.{Timers}
use Rattle.bus_medium.specs.declared.timers.BusIdle.{BusIdle}
use Rattle.bus_medium.specs.inside.Lazy.{Clock, clock_of, clocks_of, clock_after, gap_after, AreAfter, IsKept, EachKept, AreNoShorter, AreKept, OthersKept, IsLater, IsSoon, AreLater, FirstReady, IsAlone}
use Rattle.bus_medium.proofs.Seats.{get_set_same, get_set_other, same_some, map_at}

pub clock_at : (e : ℕ) (ws : List Timers) (j : ℕ) (w : Timers) → slice_get ws j ≡ Some w → slice_get (clocks_of e ws) j ≡ Some (clock_of e w)
clock_at e ws j w h = map_at (clock_of e) ws j w h

pub record TimersPlace (e : ℕ) (ws : List Timers) (j : ℕ) (k : Clock) : Type 0 where
  pub timers : Timers
  pub at : slice_get ws j ≡ Some timers
  pub is : clock_of e timers ≡ k

pub timers_at : (e : ℕ) (ws : List Timers) (j : ℕ) (k : Clock) → slice_get (clocks_of e ws) j ≡ Some k → TimersPlace e ws j k
timers_at e ws j k h =
    let long : length (clocks_of e ws) ≡ length ws = length-map ws (clock_of e) in
    let within : j < length (clocks_of e ws) = slice_get_within (clocks_of e ws) j k h in
    let w = some_at ws j (omega arith) in
    record { timers = w.0; at = w.1; is = same_some (clock_of e w.0) k (sym (clock_at e ws j w.0 w.1) ∙ h) }

-- a timers that was told that the bus was busy
pub record Passed (e from to : ℕ) (w v : Timers) : Type 0 where
  pub clock : clock_of to v ≡ clock_after from to (clock_of e w)
  pub kept : IsKept v

pub passed_after : (e from to : ℕ) (ws vs : List Timers) → Each (Passed e from to) ws vs → AreAfter from to (clocks_of e ws) (clocks_of to vs)
passed_after e from to ws vs h = record {
  same_length = length-map vs (clock_of to) ∙ h.same_length ∙ sym (length-map ws (clock_of e));
  each = λ j k c k_at c_at.
      let w = timers_at e ws j k k_at in
      let v = timers_at to vs j c c_at in
      sym v.is ∙ (h.each j w.timers v.timers w.at v.at).clock ∙ ap (clock_after from to) w.is;
}

pub passed_kept : (e from to : ℕ) (ws vs : List Timers) → Each (Passed e from to) ws vs → EachKept vs
passed_kept e from to ws vs h = λ j v v_at.
    let within : j < length vs = slice_get_within vs j v v_at in
    let long : length vs ≡ length ws = h.same_length in
    let w = some_at ws j (omega arith) in
    (h.each j w.0 v w.1 v_at).kept

-- one that need not be told
same_gap : (e least from to : ℕ) (w : Timers) → IsKept w → e ≤ from → from < e + least → least ≤ w.sg → gap_after w.sg (e + w.behind) from to ≡ to + w.behind
same_gap e least from to w kept ended short long = elim kept.counted [
  | inl none ↦
      let zero : w.behind ≡ 0 = none in
      ap (λ v. cond v to (to + w.sg)) (le-leb (e + w.behind) from (omega arith)) ∙ (let h : to ≡ to + w.behind = omega arith in h)
  | inr whole ↦
      let gap : w.behind ≡ w.sg = whole in
      ap (λ v. cond v to (to + w.sg)) (lt-leb (e + w.behind) from (omega arith)) ∙ (let h : to + w.sg ≡ to + w.behind = omega arith in h)
]

passed_by : (e least from to : ℕ) (w : Timers) → IsKept w → e ≤ from → from < e + least → least ≤ w.sg → from ≤ to → Passed e from to w w
passed_by e least from to w kept ended short long order = record {
  clock = ap (λ g. record { sg = w.sg; tg = w.tg; told = w.told; due = w.due; gap_from = g; ready = max w.due (g + w.tg) }) (sym (same_gap e least from to w kept ended short long));
  kept = kept;
}

pub passed_one : (e least from to : ℕ) (ws : List Timers) (p : ℕ) (w v : Timers) → e ≤ from → from < e + least → from ≤ to → AreNoShorter least (clocks_of e ws) → OthersKept (Some p) ws → slice_get ws p ≡ Some w → Passed e from to w v
    → Each (Passed e from to) ws (set ws p v)
passed_one e least from to ws p w v ended short order shorter others at told = record {
  same_length = length-set ws p v;
  each = λ j a b a_at b_at. elim (cases_eq p j) [
    | inl here ↦
        let within : p < length ws = slice_get_within ws p w at in
        let b_is : v ≡ b = same_some v b (sym (get_set_same ws p v within) ∙ ap (slice_get (set ws p v)) here ∙ b_at) in
        let a_is : w ≡ a = same_some w a (sym at ∙ ap (slice_get ws) here ∙ a_at) in
        subst (λ x. Passed e from to x b) a_is (subst (λ y. Passed e from to w y) b_is told)
    | inr other ↦
        let same : a ≡ b = same_some a b (sym a_at ∙ sym (get_set_other ws p j v other) ∙ b_at) in
        let apart : j ≢ p = λ h. other (sym h) in
        subst (λ y. Passed e from to a y) same (passed_by e least from to a (others.1 j a apart a_at) ended short (shorter j (clock_of e a) (clock_at e ws j a a_at)) order)
  ];
}

-- ---- who is ready first
-- a timers that tells that its sender is ready later
pub later_ready : (e most : ℕ) (w : Timers) → IsKept w → e ≤ most → IsLater most (most - e) w → most < (clock_of e w).ready
later_ready e most w kept order later =
    let over : w.over ≡ w.behind + w.tg = kept.over in
    elim later [
      | inl due ↦ let h : most < w.due = due in let r : most < max w.due (e + w.behind + w.tg) = omega arith in r
      | inr gap ↦ let h : most - e < w.over = gap in let r : most < max w.due (e + w.behind + w.tg) = omega arith in r
    ]

-- one that tells that it is ready by then
pub soon_ready : (e most : ℕ) (w : Timers) → IsKept w → e ≤ most → IsSoon most (most - e) w → (clock_of e w).ready ≤ most
soon_ready e most w kept order soon =
    let over : w.over ≡ w.behind + w.tg = kept.over in
    let due : w.due ≤ most = soon.0 in
    let gap : w.over ≤ most - e = soon.1 in
    let r : max w.due (e + w.behind + w.tg) ≤ most = omega arith in r

pub ready_behind : (e : ℕ) (w : Timers) → e ≤ (clock_of e w).ready
ready_behind e w = let r : e ≤ max w.due (e + w.behind + w.tg) = omega arith in r

-- those of one stretch and the next
pub later_on : (most behind : ℕ) (ws : List Timers) (from place to : ℕ) → AreLater most behind ws from place → AreLater most behind ws place to → AreLater most behind ws from to
later_on most behind ws from place to first next = λ j w low high at. elim (cases_lt j place) [ inl old ↦ first j w low old at | inr new ↦ next j w new high at ]

pub later_one : (most behind : ℕ) (ws : List Timers) (place : ℕ) (v : Timers) → slice_get ws place ≡ Some v → IsLater most behind v → AreLater most behind ws place (place + 1)
later_one most behind ws place v v_at later = λ j w low high at.
    let here : place ≡ j = omega arith in
    subst (IsLater most behind) (same_some v w (sym v_at ∙ ap (slice_get ws) here ∙ at)) later

-- who is ready first, of the first i
pub record ReadySoFar (most e : ℕ) (ws : List Timers) (ready place : ℕ) (alone : Bool) (i : ℕ) : Type 0 where
  pub low : e ≤ ready
  pub high : ready ≤ most
  pub before : (j : ℕ) (w : Timers) → j < i → slice_get ws j ≡ Some w → ready ≤ (clock_of e w).ready
  pub found : (ready ≡ most) ⊎ ((w : Timers) × (slice_get ws place ≡ Some w) × ((clock_of e w).ready ≡ ready))
  pub others : alone ≡ true → (place < length ws) × ((j : ℕ) (w : Timers) → j ≢ place → j < i → slice_get ws j ≡ Some w → ready < (clock_of e w).ready)

pub ready_none : (most e : ℕ) (ws : List Timers) (place : ℕ) → e ≤ most → ReadySoFar most e ws most place false 0
ready_none most e ws place order = record {
  low = order;
  high = omega arith;
  before = λ j w below at. absurd (omega arith);
  found = inl refl;
  others = λ e. absurd (let h : false ≡ true = e in cc);
}

same_ready : (e : ℕ) (ws : List Timers) (i j : ℕ) (v w : Timers) → slice_get ws i ≡ Some v → i ≡ j → slice_get ws j ≡ Some w → (clock_of e v).ready ≡ (clock_of e w).ready
same_ready e ws i j v w v_at here w_at = ap (λ (x : Timers). (clock_of e x).ready) (same_some v w (sym v_at ∙ ap (slice_get ws) here ∙ w_at))

-- one that is ready no later stands for those before it
pub ready_sooner : (most e : ℕ) (ws : List Timers) (ready place : ℕ) (alone now : Bool) (i r : ℕ) (v : Timers) → ReadySoFar most e ws ready place alone i → slice_get ws i ≡ Some v → r ≡ (clock_of e v).ready → r ≤ ready
    → (now ≡ true → r < ready) → ReadySoFar most e ws r i now (i + 1)
ready_sooner most e ws ready place alone now i r v so at is soon strict =
    let high : ready ≤ most = so.high in
    let from : e ≤ (clock_of e v).ready = ready_behind e v in
    record {
      low = omega arith;
      high = omega arith;
      before = λ j w below w_at. elim (cases_eq i j) [
        | inl here ↦ let same : (clock_of e v).ready ≡ (clock_of e w).ready = same_ready e ws i j v w at here w_at in omega arith
        | inr other ↦ let old : ready ≤ (clock_of e w).ready = so.before j w (omega arith) w_at in omega arith
      ];
      found = inr (v, at, sym is);
      others = λ h. (
        slice_get_within ws i v at,
        λ j w apart below w_at.
            let less : r < ready = strict h in
            let other : j ≢ i = apart in
            let earlier : j < i = elim (cases_lt j i) [ inl less ↦ less | inr not ↦ absurd (apart (let h : j ≡ i = omega arith in h)) ] in
            let old : ready ≤ (clock_of e w).ready = so.before j w earlier w_at in omega arith,
      );
    }

-- those that are ready later are skipped
pub ready_skip : (most e : ℕ) (ws : List Timers) (ready place : ℕ) (alone : Bool) (i k : ℕ) → EachKept ws → ReadySoFar most e ws ready place alone i → AreLater ready (ready - e) ws i k → ReadySoFar most e ws ready place alone k
ready_skip most e ws ready place alone i k kept so later = record {
  low = so.low;
  high = so.high;
  before = λ j w below at. elim (cases_lt j i) [
    | inl old ↦ so.before j w old at
    | inr new ↦ let h : ready < (clock_of e w).ready = later_ready e ready w (kept j w at) so.low (later j w new below at) in omega arith
  ];
  found = so.found;
  others = λ h. let o = so.others h in (
    o.0,
    λ j w apart below at. elim (cases_lt j i) [
      | inl old ↦ o.1 j w apart old at
      | inr new ↦ later_ready e ready w (kept j w at) so.low (later j w new below at)
    ],
  );
}

-- all of them
pub ready_all : (most e : ℕ) (ws : List Timers) (ready place : ℕ) (alone : Bool) (i : ℕ) → ReadySoFar most e ws ready place alone i → length ws ≤ i → FirstReady most (clocks_of e ws) ready
ready_all most e ws ready place alone i so h = record {
  high = so.high;
  before = λ j k at.
      let w = timers_at e ws j k at in
      let within : j < length ws = slice_get_within ws j w.timers w.at in
      subst (λ (x : Clock). ready ≤ x.ready) w.is (so.before j w.timers (omega arith) w.at);
  found = elim so.found [
    | inl most ↦ inl most
    | inr w ↦ inr (place, clock_of e w.0, clock_at e ws place w.0 w.1, let same : (clock_of e w.0).ready ≡ ready = w.2 in let r : (clock_of e w.0).ready ≤ ready = omega arith in r)
  ];
}

-- the others are ready later
pub ready_alone : (most e : ℕ) (ws : List Timers) (ready place : ℕ) (alone : Bool) (i : ℕ) → ReadySoFar most e ws ready place alone i → length ws ≤ i → alone ≡ true → IsAlone ready (clocks_of e ws) place
ready_alone most e ws ready place alone i so h is =
    let o = so.others is in
    record {
      within = (let long : length (clocks_of e ws) ≡ length ws = length-map ws (clock_of e) in let h : place < length ws = o.0 in omega arith);
      others = λ j k apart at.
          let w = timers_at e ws j k at in
          let within : j < length ws = slice_get_within ws j w.timers w.at in
          subst (λ (x : Clock). ready < x.ready) w.is (o.1 j w.timers apart (omega arith) w.at);
    }

-- timers of senders that start
pub clocks_long : (e n : ℕ) (ws : List Timers) → length ws ≡ n → length (clocks_of e ws) ≡ n
clocks_long e n ws h = length-map ws (clock_of e) ∙ h

pub shorter_set : (e least : ℕ) (ws : List Timers) (p : ℕ) (w v : Timers) → AreNoShorter least (clocks_of e ws) → slice_get ws p ≡ Some w → v.sg ≡ w.sg → AreNoShorter least (clocks_of e (set ws p v))
shorter_set e least ws p w v shorter at same = λ j k k_at.
    let x = timers_at e (set ws p v) j k k_at in
    let sg : x.timers.sg ≡ k.sg = ap (λ (c : Clock). c.sg) x.is in
    elim (cases_eq p j) [
      | inl here ↦
          let within : p < length ws = slice_get_within ws p w at in
          let is : v ≡ x.timers = same_some v x.timers (sym (get_set_same ws p v within) ∙ ap (slice_get (set ws p v)) here ∙ x.at) in
          let vs : v.sg ≡ x.timers.sg = ap (λ (c : Timers). c.sg) is in
          let old : least ≤ w.sg = shorter p (clock_of e w) (clock_at e ws p w at) in omega arith
      | inr other ↦
          let old : least ≤ x.timers.sg = shorter j (clock_of e x.timers) (clock_at e ws j x.timers (sym (get_set_other ws p j v other) ∙ x.at)) in omega arith
    ]

pub passed_now : (e from to : ℕ) (w v : Timers) → clock_of to v ≡ clock_after from to (clock_of e w) → (v.behind ≡ 0) ⊎ (v.behind ≡ v.sg) → v.behind < 2 ^ 32 → v.over ≡ v.behind + v.tg → Passed e from to w v
passed_now e from to w v clock counted small over = record {
  clock = clock;
  kept = record { counted = counted; small = small; over = over };
}

-- timers that are added
pub kept_none : EachKept []
kept_none = λ j w at. absurd (let h : None ≡ Some w = at in cc)

pub clocks_push : (e : ℕ) (ws : List Timers) (w : Timers) → clocks_of e (ws ++ w ∷ []) ≡ clocks_of e ws ++ clock_of e w ∷ []
clocks_push e [] w = refl
clocks_push e (v ∷ vs) w = ap (λ ks. clock_of e v ∷ ks) (clocks_push e vs w)

pub kept_push : (ws : List Timers) (w : Timers) → EachKept ws → IsKept w → EachKept (ws ++ w ∷ [])
kept_push [] w kept this zero v at = subst IsKept (same_some w v at) this
kept_push [] w kept this (suc j) v at = absurd (let h : None ≡ Some v = at in cc)
kept_push (x ∷ xs) w kept this zero v at = kept 0 v at
kept_push (x ∷ xs) w kept this (suc j) v at = kept_push xs w (λ k u u_at. kept (suc k) u u_at) this j v at

-- the least synchronization gap of the first i
abbrev pub LeastSoFar : ℕ → List Timers → ℕ → Type 0
LeastSoFar least ws i = (j : ℕ) (w : Timers) → j < i → slice_get ws j ≡ Some w → least ≤ w.sg

pub least_none : (least : ℕ) (ws : List Timers) → LeastSoFar least ws 0
least_none least ws = λ j w below at. absurd (omega arith)

pub least_more : (least next : ℕ) (ws : List Timers) (i : ℕ) (v : Timers) → LeastSoFar least ws i → slice_get ws i ≡ Some v → next ≤ least → next ≤ v.sg → LeastSoFar next ws (i + 1)
least_more least next ws i v so at less small = λ j w below w_at. elim (cases_eq i j) [
  | inl here ↦ let same : v.sg ≡ w.sg = ap (λ (x : Timers). x.sg) (same_some v w (sym at ∙ ap (slice_get ws) here ∙ w_at)) in omega arith
  | inr other ↦ let old : least ≤ w.sg = so j w (omega arith) w_at in omega arith
]

pub least_all : (least : ℕ) (ws : List Timers) (i : ℕ) → LeastSoFar least ws i → length ws ≤ i → AreNoShorter least (clocks_of 0 ws)
least_all least ws i so h = λ j k k_at.
    let w = timers_at 0 ws j k k_at in
    let within : j < length ws = slice_get_within ws j w.timers w.at in
    let old : least ≤ w.timers.sg = so j w.timers (omega arith) w.at in
    subst (λ (x : Clock). least ≤ x.sg) w.is old

-- a busy bus leaves the gaps
pub shorter_after : (least from to : ℕ) (ks cs : List Clock) → AreNoShorter least ks → AreAfter from to ks cs → AreNoShorter least cs
shorter_after least from to ks cs shorter after = λ j c c_at.
    let within : j < length cs = slice_get_within cs j c c_at in
    let long : length cs ≡ length ks = after.same_length in
    let k = some_at ks j (omega arith) in
    subst (λ (x : Clock). least ≤ x.sg) (sym (after.each j k.0 c k.1 c_at)) (shorter j k.0 k.1)

pub alone_within : (e place : ℕ) (ws : List Timers) (p : ℕ) → IsAlone place (clocks_of e ws) p → p < length ws
alone_within e place ws p alone = let long : length (clocks_of e ws) ≡ length ws = length-map ws (clock_of e) in let h : p < length (clocks_of e ws) = alone.within in omega arith

pub kept_later : (heard : BusIdle) (now then : ℕ) (ws : List Timers) → now ≤ then → AreKept heard now ws → AreKept heard then ws
kept_later heard now then ws order kept = record { ended = (let h : heard.ended ≤ now = kept.ended in omega arith); least = kept.least; each = kept.each }

pub kept_small : (e : ℕ) (ws : List Timers) (j : ℕ) (w : Timers) → e < 2 ^ 62 → EachKept ws → slice_get ws j ≡ Some w → e + w.behind < 2 ^ 63
kept_small e ws j w small kept at = let few : w.behind < 2 ^ 32 = (kept j w at).small in omega arith
