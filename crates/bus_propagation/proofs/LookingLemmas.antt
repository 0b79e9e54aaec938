-- A sender looks ahead over what comes to it.
use Rattle.std.proofs.Common.{◌≡◌, ℕ, ◌<◌, ◌≤◌, ◌⊎◌, max, List, inl, inr, arith, refl, sym, ap, ◌∙◌, subst}
use Rattle.std.proofs.lemmas.Bool.{cases_lt}
use Rattle.bus_timers.specs.Timings.{IsSound}
use Rattle.bus_strings.specs.Messages.{Entry}
use Rattle.bus_medium.specs.Lawful.{Station}
use Rattle.bus_medium.specs.Delays.{Delays, heard_end}
use Rattle.bus_medium.specs.Wakes.{Wakes}
use Rattle.bus_propagation.specs.declared.timers.Timers.{Timers}
use Rattle.bus_propagation.specs.inside.Arrivals.{heard_begin, ComesFirst, NoneComes}
use Rattle.bus_propagation.specs.inside.Hearing.{Hears, RestsUntil, IsNextStart, HaveWords, gap_after, ready_moment}
use Rattle.bus_propagation.proofs.HearingLemmas.{hears_behind, rests_through, next_start, ComeFrom}

-- these are the timers after what it has heard
abbrev pub HearsAs : Delays → Wakes → Station → List Entry → Timers → Type 0
HearsAs delay wake s list timers = Hears delay wake s list timers.moment timers.due timers.gap_from

-- from the timers `timers` it has looked on to those ahead
pub record Looking (delay : Delays) (s : Station) (list : List Entry) (moment : ℕ) (timers certain ahead : Timers) : Type 0 where
  pub kept : (wake : Wakes) → HearsAs delay wake s list timers → HearsAs delay wake s list certain
  pub on : (wake : Wakes) → HearsAs delay wake s list timers → HearsAs delay wake s list ahead
  pub rests : (wake : Wakes) → HearsAs delay wake s list timers → RestsUntil delay wake s list timers.moment ahead.moment
  pub low : timers.moment ≤ certain.moment
  pub order : certain.moment ≤ ahead.moment
  pub sure : (certain.moment ≡ timers.moment) ⊎ (certain.moment ≤ moment)

pub looking_none : (delay : Delays) (s : Station) (list : List Entry) (moment : ℕ) (timers : Timers) → Looking delay s list moment timers timers timers
looking_none delay s list moment timers = record {
  kept = λ wake h. h;
  on = λ wake h. h;
  rests = λ wake h m low high begun due. omega arith;
  low = omega arith;
  order = omega arith;
  sure = inl refl;
}

hears_as : (delay : Delays) (wake : Wakes) (s : Station) (list : List Entry) (timers : Timers) (v D G : ℕ) → timers.moment ≡ v → timers.due ≡ D → timers.gap_from ≡ G → Hears delay wake s list v D G → HearsAs delay wake s list timers
hears_as delay wake s list timers v D G a b c h =
    subst (λ x. Hears delay wake s list x timers.due timers.gap_from) (sym a) (subst (λ x. Hears delay wake s list v x timers.gap_from) (sym b) (subst (λ x. Hears delay wake s list v D x) (sym c) h))

-- over an arrival before which it isn't ready
pub looked_on : (delay : Delays) (s : Station) (list : List Entry) (moment : ℕ) (timers certain ahead next kept : Timers) (b e : ℕ) → IsSound s.timing → HaveWords list
    → Looking delay s list moment timers certain ahead → ComesFirst delay s.number list ahead.moment b e → b < ready_moment s.timing ahead.due ahead.gap_from
    → next.moment ≡ e → next.due ≡ ahead.due → next.gap_from ≡ gap_after s.timing.quiet s.timing.sg ahead.gap_from (max ahead.moment b) e
    → ((kept ≡ next) × (e ≤ moment)) ⊎ (kept ≡ certain) → Looking delay s list moment timers kept next
looked_on delay s list moment timers certain ahead next kept b e sound words so c late at due from which =
    let further : ahead.moment < e = c.ahead in
    let order : certain.moment ≤ ahead.moment = so.order in
    let low : timers.moment ≤ certain.moment = so.low in
    let on : (wake : Wakes) → HearsAs delay wake s list timers → HearsAs delay wake s list next = λ wake h.
    hears_as delay wake s list next e ahead.due (gap_after s.timing.quiet s.timing.sg ahead.gap_from (max ahead.moment b) e) at due from
    (hears_behind delay wake s sound list ahead.moment ahead.due ahead.gap_from b e words (so.on wake h) c) in
    let next_at : next.moment ≡ e = at in
    let kept_is : ((kept.moment ≡ next.moment) × (e ≤ moment)) ⊎ (kept.moment ≡ certain.moment) = elim which [
      | inl new ↦ inl (ap (λ (x : Timers). x.moment) new.0, new.1)
      | inr old ↦ inr (ap (λ (x : Timers). x.moment) old)
    ] in
    record {
      kept = λ wake h. elim which [
        | inl new ↦ subst (HearsAs delay wake s list) (sym new.0) (on wake h)
        | inr old ↦ subst (HearsAs delay wake s list) (sym old) (so.kept wake h)
      ];
      on = on;
      rests = λ wake h m low_m high begun is_due. elim (cases_lt m ahead.moment) [
        | inl before ↦ so.rests wake h m low_m before begun is_due
        | inr behind ↦ rests_through delay wake s sound list ahead.moment ahead.due ahead.gap_from b e words (so.on wake h) c late m behind (omega arith) begun is_due
      ];
      low = elim kept_is [ inl new ↦ let k : kept.moment ≡ next.moment = new.0 in omega arith | inr old ↦ omega arith ];
      order = elim kept_is [ inl new ↦ let k : kept.moment ≡ next.moment = new.0 in omega arith | inr old ↦ omega arith ];
      sure = elim kept_is [
        | inl new ↦ let k : kept.moment ≡ next.moment = new.0 in let l : e ≤ moment = new.1 in inr (omega arith)
        | inr old ↦ elim so.sure [ inl same ↦ inl (old ∙ same) | inr sure ↦ inr (omega arith) ]
      ];
    }

-- it looks no further where nothing more comes, or where it is ready before that
pub looked : (delay : Delays) (wake : Wakes) (s : Station) (list : List Entry) (moment : ℕ) (timers certain ahead : Timers) → IsSound s.timing
    → Looking delay s list moment timers certain ahead → ComeFrom delay s.number list ahead.moment (ready_moment s.timing ahead.due ahead.gap_from) → HearsAs delay wake s list timers
    → IsNextStart delay wake s list certain.moment (ready_moment s.timing ahead.due ahead.gap_from)
looked delay wake s list moment timers certain ahead sound so come h =
    let next = next_start delay wake s sound list ahead.moment ahead.due ahead.gap_from (so.on wake h) come in
    let low : timers.moment ≤ certain.moment = so.low in
    let order : certain.moment ≤ ahead.moment = so.order in
    let late : ahead.moment ≤ ready_moment s.timing ahead.due ahead.gap_from = next.low in
    record {
      low = omega arith;
      begun = next.begun;
      rests = λ m from to begun is_due. elim (cases_lt m ahead.moment) [
        | inl before ↦ so.rests wake h m (omega arith) before begun is_due
        | inr behind ↦ next.rests m behind to begun is_due
      ];
      due = next.due;
    }

-- nothing comes
pub none_comes : (delay : Delays) (number : ℕ) (list : List Entry) (v t : ℕ) → NoneComes delay number list v → ComeFrom delay number list v t
none_comes delay number list v t none y there ahead = let k : heard_end delay y number ≤ v = none y there in absurd (omega arith)

-- what comes first comes behind it
pub first_comes : (delay : Delays) (number : ℕ) (list : List Entry) (v t b e : ℕ) → ComesFirst delay number list v b e → t ≤ b → ComeFrom delay number list v t
first_comes delay number list v t b e c low y there ahead = let k : b ≤ heard_begin delay y number = c.first y there ahead in omega arith
