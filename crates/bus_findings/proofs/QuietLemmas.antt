-- What is known of the last long stretch in which nobody was heard, and what it rules out.
use Rattle.std.specs.Prelude.{max, slice_get, slice_range, nat_le, nat_lt, not, ◌&&◌, ◌||◌, ◌==◌, filter}
use Rattle.std.proofs.Common.{◌≡◌, ◌≢◌, ◌^◌, ℕ, ◌+◌, ◌-◌, ◌<◌, ◌≤◌, Bool, true, List, take, Some, None, inl, inr, arith, ap, sym, ◌∙◌}
use Rattle.std.proofs.lemmas.Bool.{and_parts, cases_eq, or_cases, leb-true, ltb-true, ne_eqb, not_from_false}
use Rattle.bus_strings.specs.Members.{In}
use Rattle.bus_strings.specs.Messages.{Entry}
use Rattle.bus_strings.proofs.MemberLaws.{in_filter, from_filter, in_map}
use Rattle.bus_bounds.specs.Bounds.{Bounds}
use Rattle.bus_recording.specs.Seen.{Seen}
use Rattle.bus_recording.specs.Walk as walk
use Rattle.bus_findings.specs.declared.heard.Ends.{Ends}
use Rattle.bus_findings.specs.declared.quiet.Over.{Over}
use Rattle.bus_findings.specs.declared.quiet.Quiet.{Quiet}
use Rattle.bus_findings.specs.Recorded.{seen, recorded, reach}
use Rattle.bus_findings.specs.inside.Calm.{HaveEnded, IsQuiet, end_before, rules_out}
use Rattle.bus_findings.specs.inside.Standing.{AreEnds, others_end, latest_end}
use Rattle.bus_findings.proofs.AmountLemmas.{greatest_under, greatest_over}
use Rattle.bus_findings.proofs.HeardLemmas.{of_other}
use Rattle.bus_findings.proofs.PlainLemmas.{none_before, none_plain}
use Rattle.bus_findings.proofs.SeenLemmas.{is_in, recorded_is}

-- ---- what is known of the last long stretch

-- nothing was seen
pub quiet_none : (bounds : Bounds) (list : List Entry) (long : ℕ) → long ≤ 2 ^ 18
    → IsQuiet bounds list 0 (record { long = long; place = 0; earlier = 0; from = 0; since = 0 })
quiet_none bounds list long low = record {
  place = omega arith;
  long = low;
  from = λ x inside. absurd inside;
  exact = omega arith;
  bound = omega arith;
  before = λ j x left right at. absurd (omega (arith, right));
  behind = λ j x left right at. absurd (omega (arith, right));
  since = λ j x left right at. absurd (omega (arith, right));
}

-- one more that ends a long stretch
pub quiet_new : (bounds : Bounds) (list : List Entry) (i soonest : ℕ) (quiet : Quiet) → soonest < 2 ^ 41 → HaveEnded bounds list i soonest
    → soonest ≤ end_before bounds list i → IsQuiet bounds list i quiet
    → IsQuiet bounds list (i + 1) (record { long = quiet.long; place = i; earlier = quiet.place; from = soonest; since = 0 })
quiet_new bounds list i soonest quiet low ended exact is = record {
  place = omega arith;
  long = is.long;
  from = ended;
  exact = exact;
  bound = low;
  before = is.behind;
  behind = λ j x left right at. absurd (omega (arith, left, right));
  since = λ j x left right at. absurd (omega (arith, left, right));
}

-- and one that doesn't
pub quiet_on : (bounds : Bounds) (list : List Entry) (i end moment since : ℕ) (quiet : Quiet) → ((x : Entry) → slice_get list i ≡ Some x → x.moment ≡ moment)
    → end ≤ end_before bounds list i → moment < end + quiet.long → since ≡ max quiet.since (moment - end) → IsQuiet bounds list i quiet
    → IsQuiet bounds list (i + 1) (record quiet { since = since })
quiet_on bounds list i end moment since quiet begins reached close made is =
    let place : quiet.place ≤ i - 1 = is.place in
    record {
      place = omega (arith, place);
      long = is.long;
      from = is.from;
      exact = is.exact;
      bound = is.bound;
      before = is.before;
      behind = λ j x left right at. elim (cases_eq j i) [
        | inl same ↦ (let e : x.moment ≡ moment = begins x (sym (ap (slice_get list) same) ∙ at) in
            let h : end_before bounds list j ≡ end_before bounds list i = ap (end_before bounds list) same in omega (arith, e, h, reached, close))
        | inr apart ↦ is.behind j x left (omega (arith, right, apart)) at
      ];
      since = λ j x left right at. elim (cases_eq j i) [
        | inl same ↦ (let e : x.moment ≡ moment = begins x (sym (ap (slice_get list) same) ∙ at) in
            let h : end_before bounds list j ≡ end_before bounds list i = ap (end_before bounds list) same in omega (arith, e, h, reached, made))
        | inr apart ↦ (let h : x.moment < end_before bounds list j + (quiet.since + 1) = is.since j x left (omega (arith, right, apart)) at in omega (arith, h, made))
      ];
    }

-- ---- the ends that are known

-- of a terminal that is neither the greatest's nor a given one, all others' greatest end is the greatest
first_is : (recording : List Seen) (ends : Ends) (number : ℕ) → AreEnds recording ends → (n : ℕ) × (number ≢ n) × (ends.first ≡ others_end recording n)
first_is recording ends number are =
    let n : ℕ = number + ends.terminal + 1 in
    (n, (λ e. absurd (omega (arith, e))), sym (of_other ends n (λ e. absurd (omega (arith, e)))) ∙ are.others n)

pub have_ended : (bounds : Bounds) (list : List Entry) (i : ℕ) (ends : Ends) → AreEnds (recorded bounds (take i list)) ends → HaveEnded bounds list i ends.first
have_ended bounds list i ends are x inside =
    let recording : List Seen = recorded bounds (take i list) in
    let w = first_is recording ends x.terminal are in
    let test : Seen → Bool = λ r. not (r.sender == w.0) in
    let kept : In (seen bounds x) (filter test recording) =
    in_filter test recording (seen bounds x) (in_map (seen bounds) (take i list) x inside) (not_from_false _ (ne_eqb x.terminal w.0 w.1)) in
    let h : (seen bounds x).soonest ≤ others_end recording w.0 = greatest_over (λ r. r.soonest) (filter test recording) (seen bounds x) kept in
    let e : ends.first ≡ others_end recording w.0 = w.2 in
    omega (arith, h, e)

pub ended_exactly : (bounds : Bounds) (list : List Entry) (i : ℕ) (ends : Ends) → AreEnds (recorded bounds (take i list)) ends
    → ends.first ≤ end_before bounds list i
ended_exactly bounds list i ends are =
    let recording : List Seen = recorded bounds (take i list) in
    let w = first_is recording ends 0 are in
    let test : Seen → Bool = λ r. not (r.sender == w.0) in
    let h : others_end recording w.0 ≤ end_before bounds list i =
    greatest_under (λ r. r.soonest) (end_before bounds list i) (filter test recording) (λ r inside.
    let member : In r recording = (from_filter test recording r inside).0 in
    let x = recorded_is bounds (take i list) r (is_in recording r member) in
    let early : (seen bounds x.0).soonest ≤ (seen bounds x.0).latest = omega arith in
    let soon : (seen bounds x.0).soonest ≡ r.soonest = ap (λ (s : Seen). s.soonest) x.2 in
    let late : (seen bounds x.0).latest ≡ r.latest = ap (λ (s : Seen). s.latest) x.2 in
    let most : r.latest ≤ end_before bounds list i = greatest_over (λ s. s.latest) recording r member in
    omega (arith, early, soon, late, most)) in
    let e : ends.first ≡ others_end recording w.0 = w.2 in
    omega (arith, h, e)

-- the greatest moment at which a terminal may hear one end is the reach behind the greatest end, or before it
pub latest_reached : (bounds : Bounds) (list : List Entry) (i : ℕ) → latest_end (reach bounds) (recorded bounds (take i list)) ≤ end_before bounds list i + reach bounds
latest_reached bounds list i =
    greatest_under (λ r. r.latest + reach bounds) (end_before bounds list i + reach bounds) (recorded bounds (take i list)) (λ r inside.
    let most : r.latest ≤ end_before bounds list i = greatest_over (λ s. s.latest) (recorded bounds (take i list)) r inside in omega (arith, most))

pub latest_covers : (bounds : Bounds) (list : List Entry) (i : ℕ) → end_before bounds list i ≤ latest_end (reach bounds) (recorded bounds (take i list))
latest_covers bounds list i =
    greatest_under (λ r. r.latest) (latest_end (reach bounds) (recorded bounds (take i list))) (recorded bounds (take i list)) (λ r inside.
    let most : r.latest + reach bounds ≤ latest_end (reach bounds) (recorded bounds (take i list)) =
    greatest_over (λ s. s.latest + reach bounds) (recorded bounds (take i list)) r inside in omega (arith, most))

-- ---- what it rules out

pub walk_is_plain : (bounds : Bounds) (list : List Entry) (i place end start c : ℕ) (quiet : Quiet) (over : Over) (o x : Entry) → IsQuiet bounds list i quiet
    → slice_get list place ≡ Some o → slice_get list quiet.place ≡ Some x → end_before bounds list place ≤ c → (seen bounds o).latest ≤ c
    → end ≤ end_before bounds list i → rules_out quiet place over end start x.moment ≡ true
    → walk.first_due (reach bounds) over.sync_gap over.terminal_gap over.interval start c None (recorded bounds (slice_range list (place + 1) i)) ≡ None
walk_is_plain bounds list i place end start c quiet over o x is there at covers own least told =
    let tg : ℕ = over.terminal_gap in
    let sg : ℕ = over.sync_gap in
    let last_test : Bool = nat_lt x.moment over.interval || nat_lt x.moment (quiet.from + sg + tg) in
    let end_test : Bool = nat_le start (end + tg) && last_test in
    let thin_test : Bool = nat_lt quiet.since tg && end_test in
    let wide_test : Bool = nat_le quiet.long sg && thin_test in
    let behind_test : Bool = nat_lt place quiet.place && wide_test in
    elim (or_cases (nat_le start over.interval) (nat_le quiet.earlier place && behind_test) told) [
      | inl early ↦ none_before (reach bounds) sg tg over.interval start (leb-true start over.interval early) c None (recorded bounds (slice_range list (place + 1) i))
      | inr fine ↦
          let a = and_parts (nat_le quiet.earlier place) behind_test fine in
          let b = and_parts (nat_lt place quiet.place) wide_test a.1 in
          let d = and_parts (nat_le quiet.long sg) thin_test b.1 in
          let e = and_parts (nat_lt quiet.since tg) end_test d.1 in
          let f = and_parts (nat_le start (end + tg)) last_test e.1 in
          let first : quiet.earlier ≤ place = leb-true quiet.earlier place a.0 in
          let low : place < quiet.place = ltb-true place quiet.place b.0 in
          let within : quiet.place ≤ i - 1 = is.place in
          let long : quiet.long ≤ sg = leb-true quiet.long sg d.0 in
          let thin : quiet.since < tg = ltb-true quiet.since tg e.0 in
          let last : start ≤ end + tg = leb-true start (end + tg) f.0 in
          none_plain bounds list (reach bounds) sg tg over.interval start end c place quiet.place i quiet.long quiet.since quiet.from o x there low
          (omega (arith, low, within)) at covers own (λ j z left right j_at. is.before j z (omega (arith, first, left)) right j_at) long is.since (omega (arith, thin))
          is.exact least last (elim (or_cases (nat_lt x.moment over.interval) (nat_lt x.moment (quiet.from + sg + tg)) f.1) [
            | inl soon ↦ inl (ltb-true x.moment over.interval soon)
            | inr short ↦ inr (ltb-true x.moment (quiet.from + sg + tg) short)
          ])
    ]
