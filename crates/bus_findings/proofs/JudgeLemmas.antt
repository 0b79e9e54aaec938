-- What is found at a transmission, told by what was kept of those before it.
use Rattle.std.specs.Prelude.{max, slice_get, slice_range, ◌==◌, nat_lt, nat_le, option_map, filter, count_by}
use Rattle.std.specs.Option.{option_or}
use Rattle.std.proofs.Common.{◌≡◌, ◌≢◌, ℕ, ◌+◌, ◌-◌, ◌<◌, ◌≤◌, Bool, true, false, cond, ◌&&◌, List, [], ◌∷◌, ◌++◌, take, drop, length, Some, None, inl, inr, arith, refl, ap, sym, subst, ◌∙◌, append-nil}
use Rattle.std.proofs.lemmas.Bool.{cases_lt, cases_eq, cases_Bool, or_cases, and_parts, and_from, and_left, and_right, or_left, or_right, eq-eqb, eqb-true, ne_eqb, ltb-true, lt-ltb, le-ltb, leb-true, leb-false, false_from_ne_true}
use Rattle.std.proofs.lemmas.List.{map-append, take-append-drop}
use Rattle.std.proofs.lemmas.List.Elements.{filter-append}
use Rattle.bus_strings.specs.Limits.{inner_gap}
use Rattle.bus_strings.specs.Marking.{greatest_end}
use Rattle.bus_strings.specs.Members.{In}
use Rattle.bus_strings.specs.Messages.{Entry}
use Rattle.bus_strings.specs.Transmissions.{Precedes, IsAscending}
use Rattle.bus_strings.proofs.MemberLaws.{in_filter, from_filter, in_append_cases}
use Rattle.bus_table.specs.Tables.{Table}
use Rattle.bus_bounds.specs.Bounds.{Bounds}
use Rattle.bus_recording.specs.Seen.{Seen, IsIn, Monitor, Bounds as TimerBounds}
use Rattle.bus_recording.specs.Findings.{IsEarlyByGap, HasHeardBegin}
use Rattle.bus_findings.specs.declared.heard.Heard.{Heard}
use Rattle.bus_findings.specs.declared.judgement.Due.{Due}
use Rattle.bus_findings.specs.declared.judgement.Judgement.{Judgement}
use Rattle.bus_findings.specs.declared.judgement.Late.{Late}
use Rattle.bus_findings.specs.declared.watch.Last.{Last}
use Rattle.bus_findings.specs.declared.watch.Watch.{Watch}
use Rattle.bus_findings.specs.Amounts.{IsAmount, greatest}
use Rattle.bus_findings.specs.Recorded.{seen, recorded, reach, monitor_of}
use Rattle.bus_findings.specs.Dues.{due_of}
use Rattle.bus_findings.specs.Lacks.{gap_lack}
use Rattle.bus_findings.specs.Judging.{last_such, last_start, begun_within, late_by, stands_before, overlap}
use Rattle.bus_findings.specs.inside.Standing.{HasReached, IsLastTo, IsStretch, IsWatch}
use Rattle.bus_findings.specs.inside.Sound.{AreLong}
use Rattle.bus_findings.specs.inside.Walked as walked
use Rattle.bus_findings.proofs.AmountLemmas.{amounts_agree, greatest_at, greatest_over}
use Rattle.bus_findings.proofs.SeenLemmas.{is_in, in_is, recorded_is, is_recorded}
use Rattle.bus_findings.proofs.LackLemmas.{gap_is}
use Rattle.bus_findings.proofs.DueLemmas.{due_first}
use Rattle.bus_findings.proofs.PlaceLemmas.{before, here, between, behind, stands, split_at, behind_split, in_take, before_it, behind_part, behind_it, moments_ascend, own_moments_ascend, filter_none, filter_each, count_apart, count_map}
use Rattle.bus_findings.proofs.WalkLemmas.{from_it}

-- ---- the terminal gap

own_test : ℕ → Seen → Bool
own_test number r = r.sender == number

-- whom the terminal has heard begin, and that nobody ends later
record IsEndOf (monitor : Monitor) (recording : List Seen) (y : Seen) (end : ℕ) : Type 0 where
  attained : 0 < end → (w : Seen) × IsIn w recording × HasHeardBegin monitor w y × (end ≡ w.soonest)
  most : (w : Seen) → IsIn w recording → HasHeardBegin monitor w y → w.soonest ≤ end
  some : (w : Seen) → IsIn w recording → 0 < w.soonest

gap_of_end : (timers : TimerBounds) (monitor : Monitor) (recording : List Seen) (y : Seen) (end : ℕ) → monitor.drop ≡ inner_gap + 1
    → IsEndOf monitor recording y end → walked.gap_lack timers.short.tg end y.moment ≡ gap_lack timers monitor recording y
gap_of_end timers monitor recording y end drop is =
    let g : ℕ = timers.short.tg in
    let P : ℕ → Type 0 = λ m. IsEarlyByGap timers monitor m recording y in
    amounts_agree P (walked.gap_lack g end y.moment) (gap_lack timers monitor recording y) (elim (cases_eq end 0) [
      | inl none ↦
          let e : walked.gap_lack g end y.moment ≡ 0 = ap (λ b. let v : ℕ = cond b 0 (cond (nat_le g inner_gap) 0 (end + g - y.moment)) in v) (eq-eqb end 0 none) in
          let r : IsAmount P 0 = record {
            so = λ some. absurd (omega arith);
            most = λ m some h.
                let less : h.other.soonest ≤ end = is.most h.other h.there h.begun in
                let more : 0 < h.other.soonest = is.some h.other h.there in
                absurd (omega arith);
          } in subst (IsAmount P) (sym e) r
      | inr some ↦
          let a : walked.gap_lack g end y.moment ≡ cond (nat_le g inner_gap) 0 (end + g - y.moment) =
          ap (λ b. let v : ℕ = cond b 0 (cond (nat_le g inner_gap) 0 (end + g - y.moment)) in v) (ne_eqb end 0 some) in
          elim (cases_Bool (nat_le g inner_gap)) [
            | inl narrow ↦
                let e : walked.gap_lack g end y.moment ≡ 0 = a ∙ ap (λ b. let v : ℕ = cond b 0 (end + g - y.moment) in v) narrow in
                let small : g ≤ inner_gap = leb-true g inner_gap narrow in
                let r : IsAmount P 0 = record {
                  so = λ q. absurd (omega arith);
                  most = λ m q h. (let wide : monitor.drop ≤ g = h.wide in absurd (omega arith));
                } in subst (IsAmount P) (sym e) r
            | inr wide ↦
                let e : walked.gap_lack g end y.moment ≡ end + g - y.moment = a ∙ ap (λ b. let v : ℕ = cond b 0 (end + g - y.moment) in v) wide in
                let great : inner_gap < g = leb-false g inner_gap wide in
                let r : IsAmount P (end + g - y.moment) = record {
                  so = λ q.
                      let w = is.attained (omega (arith, some)) in
                      let same : end ≡ w.0.soonest = w.3 in
                      record { wide = omega (arith, great, drop); other = w.0; there = w.1; begun = w.2; early = omega (arith, q, same) };
                  most = λ m q h.
                      let less : h.other.soonest ≤ end = is.most h.other h.there h.begun in
                      let early : y.moment + m ≤ h.other.soonest + g = h.early in
                      omega (arith, less, early);
                } in subst (IsAmount P) (sym e) r
          ]
    ]) (gap_is timers monitor recording y)

end_of_heard : (bounds : Bounds) (table : Table) (list : List Entry) (number i : ℕ) (watch : Watch) (heard : Heard) (y : Entry)
    → AreLong bounds list → IsAscending list → slice_get list i ≡ Some y → y.terminal ≡ number
    → HasReached bounds list y.moment heard → IsWatch bounds table list number i watch
    → IsEndOf (monitor_of bounds table) (recorded bounds list) (seen bounds y) (max heard.begun_end watch.own_end)
unfolding own_test
end_of_heard bounds table list number i watch heard y long up at mine reached kept =
    let f : Seen → ℕ = λ r. r.soonest in
    let fronts : List Seen = recorded bounds (take heard.begun list) in
    let olds : List Seen = recorded bounds (take i list) in
    let begun : heard.begun_end ≡ greatest f fronts = reached.begun.end in
    let own : watch.own_end ≡ greatest f (filter (own_test number) olds) = kept.own_end in
    record {
      attained = λ some. elim (cases_lt heard.begun_end watch.own_end) [
        | inl later ↦
            let w = greatest_at f (filter (own_test number) olds) (omega (arith, later, own)) in
            let p = from_filter (own_test number) olds w.0 w.1 in
            let x = recorded_is bounds (take i list) w.0 (is_in olds w.0 p.0) in
            let e : greatest f (filter (own_test number) olds) ≡ w.0.soonest = w.2 in
            let whose : w.0.sender ≡ number = eqb-true w.0.sender number p.1 in
            let its : x.0.terminal ≡ w.0.sender = ap (λ (r : Seen). r.sender) x.2 in
            let m : x.0.moment ≡ w.0.moment = ap (λ (r : Seen). r.moment) x.2 in
            let less : x.0.moment < y.moment = own_moments_ascend x.0 y (before_it list i y x.0 up at x.1) (its ∙ whose ∙ sym mine) in (
              w.0,
              subst (λ r. IsIn r (recorded bounds list)) x.2 (is_recorded bounds list x.0 (in_take list i x.0 x.1)),
              inr (whose ∙ sym mine, omega (arith, m, less)),
              omega (arith, later, own, e),
            )
        | inr no_later ↦
            let w = greatest_at f fronts (omega (arith, no_later, some, begun)) in
            let x = recorded_is bounds (take heard.begun list) w.0 (is_in fronts w.0 w.1) in
            let e : greatest f fronts ≡ w.0.soonest = w.2 in
            let m : x.0.moment ≡ w.0.moment = ap (λ (r : Seen). r.moment) x.2 in
            let far : x.0.moment + reach bounds < y.moment = reached.begun.begun x.0 x.1 in (
              w.0,
              subst (λ r. IsIn r (recorded bounds list)) x.2 (is_recorded bounds list x.0 (in_take list heard.begun x.0 x.1)),
              inl (omega (arith, m, far)),
              omega (arith, no_later, begun, e),
            )
      ];
      most = λ r inside heard_begin.
          let w = recorded_is bounds list r inside in
          let m : w.0.moment ≡ r.moment = ap (λ (q : Seen). q.moment) w.2 in
          elim heard_begin [
            | inl far ↦ elim (in_append_cases (take heard.begun list) (drop heard.begun list) w.0 (subst (λ l. In w.0 l) (sym (take-append-drop heard.begun list)) w.1)) [
              | inl front ↦
                  let member = in_is fronts r (subst (λ q. IsIn q fronts) w.2 (is_recorded bounds (take heard.begun list) w.0 front)) in
                  let over : r.soonest ≤ greatest f fronts = greatest_over f fronts r member in
                  omega (arith, over, begun)
              | inr rest ↦
                  let near : y.moment ≤ w.0.moment + reach bounds = reached.all w.0 rest in
                  absurd (let q : r.moment + reach bounds < y.moment = far in omega (arith, near, m, q))
            ]
            | inr its ↦
                let less : r.moment < y.moment = its.1 in
                elim (stands list i (i + 1) y w.0 at (omega arith) w.1) [
                  | before front ↦
                      let member = in_filter (own_test number) olds r (in_is olds r (subst (λ q. IsIn q olds) w.2 (is_recorded bounds (take i list) w.0 front)))
                      (eq-eqb r.sender number (its.0 ∙ mine)) in
                      let over : r.soonest ≤ greatest f (filter (own_test number) olds) = greatest_over f (filter (own_test number) olds) r member in
                      omega (arith, over, own)
                  | here same ↦ (let q : w.0.moment ≡ y.moment = ap (λ (x : Entry). x.moment) same in absurd (omega (arith, less, m, q)))
                  | between mid ↦
                      let q : y.moment ≤ w.0.moment = moments_ascend y w.0 (behind_part list i (i + 1) y w.0 up at (omega arith) mid) in
                      absurd (omega (arith, less, m, q))
                  | behind rest ↦
                      let q : y.moment ≤ w.0.moment = moments_ascend y w.0 (behind_it list i y w.0 up at rest) in
                      absurd (omega (arith, less, m, q))
                ]
          ];
      some = λ r inside.
          let w = recorded_is bounds list r inside in
          let q : w.0.moment + 19 ≤ (seen bounds w.0).soonest = long w.0 w.1 in
          let e : (seen bounds w.0).soonest ≡ r.soonest = ap f w.2 in
          omega (arith, q, e);
    }

pub gap_at : (timers : TimerBounds) (bounds : Bounds) (table : Table) (list : List Entry) (number i : ℕ) (watch : Watch) (heard : Heard) (y : Entry)
    → AreLong bounds list → IsAscending list → slice_get list i ≡ Some y → y.terminal ≡ number
    → HasReached bounds list y.moment heard → IsWatch bounds table list number i watch
    → walked.gap_lack timers.short.tg (max heard.begun_end watch.own_end) y.moment
    ≡ gap_lack timers (monitor_of bounds table) (recorded bounds list) (seen bounds y)
gap_at timers bounds table list number i watch heard y long up at mine reached kept =
    gap_of_end timers (monitor_of bounds table) (recorded bounds list) (seen bounds y) (max heard.begun_end watch.own_end) refl
    (end_of_heard bounds table list number i watch heard y long up at mine reached kept)

-- ---- the last start

last_such_none : {X : Type 0} (p : X → Bool) → (xs : List X) → ((x : X) → In x xs → p x ≡ false) → last_such p xs ≡ None
last_such_none p [] h = refl
last_such_none p (x ∷ xs) h =
    ap (λ o. option_or o (cond (p x) (Some x) None)) (last_such_none p xs (λ y i. h y (inr i)))
    ∙ ap (λ b. cond b (Some x) None) (h x (inl refl))

last_such_at : {X : Type 0} (p : X → Bool) → (xs : List X) (y : X) (zs : List X) → p y ≡ true → ((z : X) → In z zs → p z ≡ false)
    → last_such p (xs ++ y ∷ zs) ≡ Some y
last_such_at p [] y zs e h =
    ap (λ o. option_or o (cond (p y) (Some y) None)) (last_such_none p zs h) ∙ ap (λ b. cond b (Some y) None) e
last_such_at p (x ∷ xs) y zs e h = ap (λ o. option_or o (cond (p x) (Some x) None)) (last_such_at p xs y zs e h)

last_test : ℕ → ℕ → Seen → Bool
last_test number moment r = r.sender == number && nat_lt r.moment moment

pub last_at : (bounds : Bounds) (list : List Entry) (number place to start : ℕ) (o : Entry) → IsStretch list number place to start
    → slice_get list place ≡ Some o → o.terminal ≡ number → o.moment < start → last_start (recorded bounds list) number start ≡ Some (seen bounds o)
unfolding last_test
last_at bounds list number place to start o s there mine less =
    let rest : List Entry = slice_range list (place + 1) to ++ drop to list in
    let parts : recorded bounds list ≡ recorded bounds (take place list) ++ seen bounds o ∷ recorded bounds rest =
    ap (recorded bounds) (behind_split list place to o there s.within) ∙ map-append (seen bounds) (take place list) (o ∷ rest) in
    ap (last_such (last_test number start)) parts
    ∙ last_such_at (last_test number start) (recorded bounds (take place list)) (seen bounds o) (recorded bounds rest)
    (and_from _ _ (eq-eqb o.terminal number mine) (lt-ltb o.moment start less))
    (λ r inside.
    let w = recorded_is bounds rest r (is_in (recorded bounds rest) r inside) in
    let m : w.0.moment ≡ r.moment = ap (λ (q : Seen). q.moment) w.2 in
    let t : w.0.terminal ≡ r.sender = ap (λ (q : Seen). q.sender) w.2 in
    elim (in_append_cases (slice_range list (place + 1) to) (drop to list) w.0 w.1) [
      | inl mid ↦ and_left (r.sender == number) (nat_lt r.moment start) (ne_eqb r.sender number (λ e. s.none w.0 mid (t ∙ e)))
      | inr later ↦ (let high : start ≤ w.0.moment = s.behind w.0 later in and_right (r.sender == number) (nat_lt r.moment start) (le-ltb r.moment start (omega (arith, high, m))))
    ])

pub last_never : (bounds : Bounds) (list : List Entry) (number to start : ℕ) → ((x : Entry) → In x (take to list) → x.terminal ≢ number)
    → ((x : Entry) → In x (drop to list) → start ≤ x.moment) → last_start (recorded bounds list) number start ≡ None
unfolding last_test
last_never bounds list number to start never later =
    last_such_none (last_test number start) (recorded bounds list) (λ r inside.
    let w = recorded_is bounds list r (is_in (recorded bounds list) r inside) in
    let m : w.0.moment ≡ r.moment = ap (λ (q : Seen). q.moment) w.2 in
    let t : w.0.terminal ≡ r.sender = ap (λ (q : Seen). q.sender) w.2 in
    elim (in_append_cases (take to list) (drop to list) w.0 (subst (λ l. In w.0 l) (sym (take-append-drop to list)) w.1)) [
      | inl front ↦ and_left (r.sender == number) (nat_lt r.moment start) (ne_eqb r.sender number (λ e. never w.0 front (t ∙ e)))
      | inr rest ↦ (let high : start ≤ w.0.moment = later w.0 rest in and_right (r.sender == number) (nat_lt r.moment start) (le-ltb r.moment start (omega (arith, high, m))))
    ])

-- between the last start of a terminal and its next one there is a stretch
pub stretch_to : (bounds : Bounds) (list : List Entry) (number i : ℕ) (last : Last) (y : Entry) → IsAscending list → slice_get list i ≡ Some y → i < length list
    → IsLastTo bounds list number i last → IsStretch list number last.place i y.moment
stretch_to bounds list number i last y up at low l = record {
  order = up;
  within = l.within;
  short = omega arith;
  none = l.none;
  before = λ x inside. moments_ascend x y (before_it list i y x up at inside);
  behind = λ x inside. from_it list i y x up at inside;
}

-- ---- who began in between

begun_test : ℕ → ℕ → Seen → Bool
begun_test from to r = nat_le from r.moment && nat_lt r.moment to

pub begun_at : (bounds : Bounds) (list : List Entry) (number place to from start : ℕ) (o : Entry) → IsStretch list number place to start
    → slice_get list place ≡ Some o → o.moment < from
    → begun_within (recorded bounds list) from start ≡ count_by (λ x. nat_le from x.moment && nat_lt x.moment start) (slice_range list (place + 1) to)
unfolding begun_test
begun_at bounds list number place to from start o s there less =
    let test : Entry → Bool = λ x. nat_le from x.moment && nat_lt x.moment start in
    let early : (x : Entry) → x.moment ≤ o.moment → test x ≡ false = λ x low.
    and_left (nat_le from x.moment) (nat_lt x.moment start) (false_from_ne_true (nat_le from x.moment) (λ h.
    let q : from ≤ x.moment = leb-true from x.moment h in omega (arith, low, less, q))) in
    count_map (begun_test from start) (seen bounds) list
    ∙ ap (count_by test) (behind_split list place to o there s.within)
    ∙ count_apart test (take place list) o (slice_range list (place + 1) to) (drop to list)
    (λ z i. early z (moments_ascend z o (before_it list place o z s.order there i)))
    (early o (omega arith))
    (λ z i. (let high : start ≤ z.moment = s.behind z i in and_right (nat_le from z.moment) (nat_lt z.moment start) (le-ltb z.moment start high)))

-- ---- overlaps

precedes_from : (x z : Entry) → stands_before x z ≡ true → Precedes z x
precedes_from x z e =
    elim (or_cases (nat_lt z.moment x.moment) (z.moment == x.moment && nat_lt z.terminal x.terminal) e) [
      | inl less ↦ inl (ltb-true z.moment x.moment less)
      | inr tie ↦ (let p = and_parts (z.moment == x.moment) (nat_lt z.terminal x.terminal) tie in inr (eqb-true z.moment x.moment p.0, ltb-true z.terminal x.terminal p.1))
    ]

precedes_to : (x z : Entry) → Precedes z x → stands_before x z ≡ true
precedes_to x z (inl less) = or_left _ _ (lt-ltb z.moment x.moment less)
precedes_to x z (inr tie) = or_right (nat_lt z.moment x.moment) _ (and_from _ _ (eq-eqb z.moment x.moment tie.0) (lt-ltb z.terminal x.terminal tie.1))

not_itself : (x : Entry) → Precedes x x → ⊥
not_itself x (inl less) = omega arith
not_itself x (inr tie) = let less : x.terminal < x.terminal = tie.1 in omega arith

not_both : (x z : Entry) → Precedes x z → Precedes z x → ⊥
not_both x z (inl a) (inl b) = omega arith
not_both x z (inl a) (inr b) = let e : z.moment ≡ x.moment = b.0 in omega arith
not_both x z (inr a) (inl b) = let e : x.moment ≡ z.moment = a.0 in omega arith
not_both x z (inr a) (inr b) = let p : x.terminal < z.terminal = a.1 in let q : z.terminal < x.terminal = b.1 in omega arith

pub overlap_at : (list : List Entry) (i : ℕ) (x : Entry) → IsAscending list → slice_get list i ≡ Some x → overlap list x ≡ greatest_end (take i list) - x.moment
overlap_at list i x up at =
    let p : Entry → Bool = stands_before x in
    let rest : List Entry = x ∷ drop (i + 1) list in
    let none : filter p rest ≡ [] = filter_none p rest (λ z inside. false_from_ne_true (p z) (λ e.
    let q : Precedes z x = precedes_from x z e in
    elim inside [
      | inl same ↦ not_itself x (subst (λ w. Precedes w x) same q)
      | inr later ↦ not_both x z (behind_it list i x z up at later) q
    ])) in
    let all : filter p (take i list) ≡ take i list = filter_each p (take i list) (λ z inside. precedes_to x z (before_it list i x z up at inside)) in
    let parts : filter p list ≡ take i list =
    ap (filter p) (split_at list i x at) ∙ filter-append p (take i list) rest ∙ ap (λ l. filter p (take i list) ++ l) none ∙ append-nil (filter p (take i list)) ∙ all in
    ap (λ l. greatest_end l - x.moment) parts

-- ---- lateness

same_late : (a b : Late) → a.timer ≡ b.timer → a.amount ≡ b.amount → a.passed ≡ b.passed → a ≡ b
same_late a b t n p =
    let e : record { timer = a.timer; amount = a.amount; passed = a.passed } ≡ record { timer = b.timer; amount = b.amount; passed = b.passed } = rw (t, n, p) refl in e

-- a terminal is due behind its last start
due_later : (timers : TimerBounds) (monitor : Monitor) (recording : List Seen) (o : Seen) (until : ℕ) (due : Due) → 0 < timers.long.ti
    → due_of timers monitor recording o until ≡ Some due → o.moment < due.moment
due_later timers monitor recording o until due some is =
    let interval : o.moment + timers.long.ti ≤ due.moment = (due_first timers monitor recording o until due is).over.interval in
    omega (arith, interval, some)

-- what is found of a start that was due
pub late_at : (timers : TimerBounds) (monitor : Monitor) (bounds : Bounds) (list : List Entry) (number place to : ℕ) (o y : Entry) (due : Due) (late : Late)
    → IsStretch list number place to y.moment → slice_get list place ≡ Some o → 0 < timers.long.ti
    → due_of timers monitor (recorded bounds list) (seen bounds o) y.moment ≡ Some due
    → late.timer ≡ due.timer → late.amount ≡ y.moment - due.moment
    → late.passed ≡ count_by (λ x. nat_le due.moment x.moment && nat_lt x.moment y.moment) (slice_range list (place + 1) to)
    → Some late ≡ option_map (late_by (recorded bounds list) (seen bounds y)) (due_of timers monitor (recorded bounds list) (seen bounds o) y.moment)
late_at timers monitor bounds list number place to o y due late s there some is timer amount passed =
    let later : o.moment < due.moment = due_later timers monitor (recorded bounds list) (seen bounds o) y.moment due some is in
    let made : Late = late_by (recorded bounds list) (seen bounds y) due in
    let same : late ≡ made = same_late late made timer amount (passed ∙ sym (begun_at bounds list number place to due.moment y.moment o s there later)) in
    ap Some same ∙ sym (ap (option_map (late_by (recorded bounds list) (seen bounds y))) is)

-- two judgements that have the same parts
pub same_judgement : (a b : Judgement) → a.stranger ≡ b.stranger → a.interval ≡ b.interval → a.sync_gap ≡ b.sync_gap → a.terminal_gap ≡ b.terminal_gap
    → a.late ≡ b.late → a.misfit ≡ b.misfit → a.overlap ≡ b.overlap → a ≡ b
same_judgement a b s i g t l m o =
    let e : record { stranger = a.stranger; interval = a.interval; sync_gap = a.sync_gap; terminal_gap = a.terminal_gap; late = a.late; misfit = a.misfit; overlap = a.overlap }
    ≡ record { stranger = b.stranger; interval = b.interval; sync_gap = b.sync_gap; terminal_gap = b.terminal_gap; late = b.late; misfit = b.misfit; overlap = b.overlap } =
    rw (s, i, g, t, l, m, o) refl in e
