-- Each bit time of quiet at which a terminal gap counts is in one that is drawn.
use Rattle.std.proofs.Common.{◌≡◌, ℕ, suc, ◌+◌, ◌-◌, ◌<◌, ◌≤◌, true, cond, min, ltb, List, [], ◌∷◌, length, take, Some, inl, inr, arith, refl, sym, ap, subst, ◌∙◌}
use Rattle.std.specs.Prelude.{◌⊎◌, IsTrue, fold, slice_get}
use Rattle.std.specs.List.{AllByRecursion}
use Rattle.std.proofs.lemmas.Bool.{cases_Bool, cases_lt, lt-ltb, ltb-true, true≢false}
use Rattle.bus_strings.proofs.MemberLaws.{filter_same, from_filter, of_each}
use Rattle.bus_strings.proofs.OverlapLemmas.{ascending_is_by_moment}
use Rattle.bus_strings.specs.Members.{In}
use Rattle.bus_strings.specs.Messages.{Entry}
use Rattle.bus_strings.specs.Transmissions.{IsByMoment, end_of}
use Rattle.bus_timers.specs.GapPlace.{GapFrom}
use Rattle.bus_timers.specs.Timings.{IsSound}
use Rattle.bus_timers.proofs.GapStepLaws.{gap_one}
use Rattle.bus_table.specs.Tables.{Sender, Table}
use Rattle.bus_table.specs.Valid.{is_valid}
use Rattle.bus_table.specs.Timers.{quiet_of}
use Rattle.bus_trace.specs.Traces.{IsTrace, Recording}
use Rattle.bus_medium.specs.BusyLaws.{IsBusy}
use Rattle.bus_medium.specs.Past.{past, last_place}
use Rattle.bus_medium.specs.Past.{own as own_of}
use Rattle.bus_medium.specs.Timings.{timing_of}
use Rattle.bus_medium.proofs.BusyLaws.{entry_is_busy}
use Rattle.bus_medium.proofs.PastLaws.{before, length_past, same_bools}
use Rattle.bus_medium.proofs.StationLaws.{timings_are_sound}
use Rattle.bus_shapes.specs.Laws.{SentsAreTold}
use Rattle.bus_shapes.specs.Sending.{sent_of, sents}
use Rattle.bus_shapes.specs.declared.sent.Sent.{Sent}
use Rattle.bus_picture.specs.Gaps.{Heard, gap_from, gap_place, heard_all, heard_before, is_first, last_moment}
use Rattle.bus_picture.specs.GapLaws.{GapsAreAll, IsIn, IsStill, drawn_gap, last_gap}
use Rattle.bus_picture.proofs.GapLemmas.{all_known, before_known, counts_at, from_sync, have_words}
use Rattle.bus_picture.proofs.HeardLemmas.{HaveWords, Knows, Synced, last_sounds}
use Rattle.bus_picture.proofs.IntervalLemmas.{before_or_later, sent_in}

-- ---- the next transmission
-- All begin by a moment, or there is a first that begins behind it.
next_entry : (u : ℕ) (l : List Entry) → AllByRecursion (λ (y : Entry). y.moment ≤ u) l
    ⊎ ((k : ℕ) × (e : Entry) × (slice_get l k ≡ Some e) × (u < e.moment) × AllByRecursion (λ (y : Entry). y.moment ≤ u) (take k l))
next_entry u [] = inl tt
next_entry u (x ∷ l) =
    elim (cases_lt u x.moment) [
      | inl later ↦ inr (0, x, refl, later, tt)
      | inr low ↦ elim (next_entry u l) [
        | inl all ↦ inl (low, all)
        | inr r ↦ inr (suc r.0, r.1, r.2, r.3, (low, r.4))
      ]
    ]

last_low : (t u : ℕ) (l : List Entry) → t ≤ u → AllByRecursion (λ (y : Entry). y.moment ≤ u) l → fold (λ t (y : Entry). y.moment) t l ≤ u
last_low t u [] low all = low
last_low t u (x ∷ l) low all = last_low x.moment u l all.0 all.1

-- ---- where a terminal gap counts
module _ (table : Table) (trace : Recording) (sender : Sender) (u g : ℕ) (valid : IsTrue (is_valid table)) (recorded : IsTrace trace)
    (there : In sender table.senders) (still : IsStill trace.list u)
    (counts : GapFrom table.sg (past (quiet_of table) trace.list u) (last_place (quiet_of table) (own_of trace.list sender.number u)) g)
    (begun : g ≤ quiet_of table + u) (left : quiet_of table + u < g + sender.tg) where
  abbrev l : List Entry
  l = trace.list

  abbrev q : ℕ
  q = quiet_of table

  abbrev sg : ℕ
  sg = table.sg

  abbrev n : ℕ
  n = sender.number

  rises : IsByMoment l
  rises = ascending_is_by_moment l recorded.order

  words : HaveWords l
  words = have_words trace.horizon l recorded.list

  -- None begins there.
  not_there : (y : Entry) → In y l → y.moment ≤ u → y.moment < u
  not_there y i low =
      let busy : IsBusy l y.moment (end_of y) = entry_is_busy l y i (words y i) in
      let some : y.moment < end_of y = busy.some in
      elim (still y i) [ inl over ↦ (let o : end_of y ≤ u = over in omega arith) | inr later ↦ absurd (omega arith) ]

  -- What is heard there is what is heard of all that begin before a later moment, where none begins between.
  same_before : (t : ℕ) → u < t → ((y : Entry) → In y l → y.moment < t → y.moment ≤ u) → before l t ≡ before l u
  same_before t later none =
      filter_same (λ (y : Entry). ltb y.moment t) (λ (y : Entry). ltb y.moment u) l (λ y i. same_bools (ltb y.moment t) (ltb y.moment u)
      (λ w. lt-ltb y.moment u (not_there y i (none y i (ltb-true y.moment t w))))
      (λ w. let low : y.moment < u = ltb-true y.moment u w in lt-ltb y.moment t (omega arith)))

  -- Where the synchronization gap hasn't been heard, none has counted.
  none_counts : (h : Heard) → Knows q sg n (before l u) h → HaveWords (before l u) → q + u < gap_place sg h → h.quiet_from ≤ q + u → ⊥
  none_counts h k early_words beyond over =
      elim (cases_Bool h.synchronized) [
        | inl yes' ↦
            let place : gap_place sg h ≡ h.quiet_from + 0 = ap (λ b. h.quiet_from + cond b 0 sg) yes' in
            omega arith
        | inr not ↦
            let place : gap_place sg h ≡ h.quiet_from + sg = ap (λ b. h.quiet_from + cond b 0 sg) not in
            let long : length (past q l u) ≡ q + u = length_past q l u in
            elim counts [
              | inr waits ↦ let ahead : length (past q l u) < g = waits.ahead in omega arith
              | inl elapsed ↦
                  let e : ℕ = elapsed.sync.0 in
                  let early : e ≤ g = elapsed.sync.1 in
                  let synced : Synced q sg n (before l u) e = from_sync q sg n u l rises e elapsed.sync.2 in
                  elim (cases_lt h.quiet_from e) [
                    | inr low ↦ k.waits not e low synced
                    | inl high ↦ elim k.final [
                      | inl none ↦ true≢false (sym none.synced ∙ not)
                      | inr f ↦ let far : h.quiet_from + sg ≤ e = last_sounds q sg n e (before l u) h f early_words synced (omega arith) in omega arith
                    ]
                  ]
            ]
      ]

  -- The gap counts from the place that was heard.
  place_is : (h : Heard) → Knows q sg n (before l u) h → g ≡ gap_place sg h
  place_is h k =
      let sound : IsSound (timing_of table sender) = timings_are_sound table sender valid there in
      let quiet : sg ≤ q = sound.quiet_least in
      let early_words : HaveWords (before l u) = λ y i. words y (from_filter (λ (z : Entry). ltb z.moment u) l y i).0 in
      let long : length (past q l u) ≡ q + u = length_past q l u in
      let over : h.quiet_from ≤ q + u = elim k.final [
        | inl none ↦ let f : h.quiet_from ≡ sg = none.from in omega arith
        | inr f ↦
            let from = from_filter (λ (z : Entry). ltb z.moment u) l f.entry f.there in
            let low : f.entry.moment < u = ltb-true f.entry.moment u from.1 in
            let is : q + end_of f.entry ≡ h.quiet_from = f.ends in
            elim (still f.entry from.0) [ inl ended ↦ (let o : end_of f.entry ≤ u = ended in omega arith) | inr later ↦ absurd (omega arith) ]
      ] in
      let reached : gap_place sg h ≤ q + u = elim (cases_lt (q + u) (gap_place sg h)) [
        | inr within ↦ within
        | inl beyond ↦ absurd (none_counts h k early_words beyond over)
      ] in
      gap_one sg (past q l u) (last_place q (own_of l n u)) g (gap_place sg h) counts (counts_at q sg n u l rises h early_words quiet k over reached)

  covers : (h : Heard) (t : ℕ) → u < t → Knows q sg n (before l u) h → IsIn u (gap_from q sender.tg (gap_place sg h) t)
  covers h t later k =
      let is : g ≡ gap_place sg h = place_is h k in
      ((let from : gap_place sg h - q ≤ u = omega arith in from), (let to : u < min (gap_place sg h + sender.tg - q) t = omega arith in to))

  -- The gap before the next transmission.
  before_next : SentsAreTold → (k : ℕ) (e : Entry) → slice_get l k ≡ Some e → u < e.moment → AllByRecursion (λ (y : Entry). y.moment ≤ u) (take k l)
      → (x : Sent) × In x (sents l) × (is_first l x ≡ true) × IsIn u (drawn_gap table trace sender x)
  before_next told k e at later low =
      let x : Sent = sent_of l k e in
      let whole : 0 + k ≡ k = omega arith in
      let shown : In x (sents l) = subst (λ j. In (sent_of l j e) (sents l)) whole (sent_in l 0 k l e at) in
      let known : Knows q sg n (before l e.moment) (heard_before q sg n l x) = before_known told table trace sender x valid recorded there shown in
      let none : (y : Entry) → In y l → y.moment < e.moment → y.moment ≤ u = λ y i less. elim (before_or_later k l e y rises at i) [
        | inl earlier ↦ of_each (λ (y : Entry). y.moment ≤ u) (take k l) low y earlier
        | inr behind ↦ absurd (omega arith)
      ] in
      let least : last_moment (take k l) ≤ u = last_low 0 u (take k l) (omega arith) low in (
        x,
        shown,
        lt-ltb (last_moment (take k l)) e.moment (omega arith),
        covers (heard_before q sg n l x) e.moment later (subst (λ (p : List Entry). Knows q sg n p (heard_before q sg n l x)) (same_before e.moment later none) known),
      )

  -- The gap behind all.
  behind_all : u < trace.horizon → AllByRecursion (λ (y : Entry). y.moment ≤ u) l → IsIn u (last_gap table trace sender)
  behind_all within low =
      covers (heard_all q sg n l) trace.horizon within
      (subst (λ (p : List Entry). Knows q sg n p (heard_all q sg n l)) (same_before trace.horizon within (λ y i less. of_each (λ (y : Entry). y.moment ≤ u) l low y i))
      (all_known table trace sender valid recorded there))

pub gaps_are_all : SentsAreTold → GapsAreAll
gaps_are_all told table trace sender u g valid recorded there within still counts begun left =
    elim (next_entry u trace.list) [
      | inl all ↦ inr (behind_all table trace sender u g valid recorded there still counts begun left within all)
      | inr r ↦ inl (before_next table trace sender u g valid recorded there still counts begun left told r.0 r.1 r.2 r.3 r.4)
    ]
