-- The terminal gaps that are drawn are those of the timers.
use Rattle.std.proofs.Common.{◌≡◌, ℕ, zero, suc, ◌+◌, ◌-◌, ◌<◌, ◌≤◌, Bool, true, false, cond, max, min, eqb, ltb, List, [], ◌∷◌, length, take, Option, Some, None, get_or, filter, inl, inr, arith, refl, sym, ap, subst, ◌∙◌}
use Rattle.std.specs.Prelude.{◌&&◌, ◌⊎◌, IfSome, IsTrue, fold, slice_get}
use Rattle.std.specs.List.{AllByRecursion}
use Rattle.std.proofs.lemmas.Bool.{cases_lt, le-ltb, lt-ltb, ltb-true, true≢false}
use Rattle.std.proofs.lemmas.List.{get_or-replicate, get_or_append_left, get_or_past}
use Rattle.bus_strings.proofs.MemberLaws.{at_in, from_filter, in_filter, of_each}
use Rattle.bus_strings.proofs.OverlapLemmas.{ascending_is_by_moment}
use Rattle.bus_strings.specs.Members.{In}
use Rattle.bus_strings.specs.Messages.{Entry}
use Rattle.bus_strings.specs.Transmissions.{IsByMoment, carrier, end_of}
use Rattle.bus_timers.specs.GapPlace.{Elapsed, GapFrom}
use Rattle.bus_timers.specs.MayStart.{IsQuiet, IsSync}
use Rattle.bus_timers.specs.Timings.{IsSound}
use Rattle.bus_table.specs.Tables.{Sender, Table}
use Rattle.bus_table.specs.Valid.{is_valid}
use Rattle.bus_table.specs.Timers.{greatest_gap, quiet_for, quiet_of}
use Rattle.bus_table.specs.declared.mode.Mode.{Mode}
use Rattle.bus_table.specs.declared.mode.Mode.TheVariants.{Aperiodic, Periodic}
use Rattle.bus_trace.specs.Traces.{IsBelow, IsTrace, Recording}
use Rattle.bus_medium.specs.BusyLaws.{IsBusy}
use Rattle.bus_medium.specs.Past.{past, own, last_place}
use Rattle.bus_medium.specs.Past.{own as own_of}
use Rattle.bus_medium.specs.Timings.{timing_of}
use Rattle.bus_medium.proofs.BusyLaws.{entry_is_busy}
use Rattle.bus_medium.proofs.PastLaws.{before, carrier_before, from_own, in_own, length_past, no_carrier, past_at}
use Rattle.bus_medium.proofs.Seats.{same_some}
use Rattle.bus_medium.proofs.StationLaws.{timings_are_sound}
use Rattle.bus_shapes.specs.Laws.{SentsAreTold}
use Rattle.bus_shapes.specs.Sending.{sents}
use Rattle.bus_shapes.specs.SendingLaws.{IsToldOf}
use Rattle.bus_shapes.specs.declared.sent.Sent.{Sent}
use Rattle.bus_picture.specs.Gaps.{Heard, gap_from, gap_place, heard_all, heard_before, settled}
use Rattle.bus_picture.specs.GapLaws.{GapsAreTrue, IsGapOf, LastGapsAreTrue}
use Rattle.bus_picture.proofs.HeardLemmas.{all_heard, Elapses, Final, HaveWords, Knows, Synced, knows_all, last_sounds}

-- ---- the past
past_low : (q : ℕ) (l : List Entry) (t k : ℕ) → k < q → get_or (past q l t) k true ≡ false
past_low q l zero k low = get_or-replicate q k false true low
past_low q l (suc t) k low =
    get_or_append_left (past q l t) (carrier l t ∷ []) true k (omega (arith, length_past q l t)) ∙ past_low q l t k low

-- at a place of the past there is no carrier where there is none in the list
past_silent : (q : ℕ) (l : List Entry) (t k : ℕ) → k < q + t → ((u : ℕ) → q + u ≡ k → carrier l u ≡ false) → get_or (past q l t) k true ≡ false
past_silent q l t k within silent =
    elim (cases_lt k q) [
      | inl low ↦ past_low q l t k low
      | inr high ↦
          let e : q + (k - q) ≡ k = omega arith in
          subst (λ (i : ℕ). get_or (past q l t) i true ≡ false) e (past_at q l t (k - q) (omega arith) ∙ silent (k - q) e)
    ]

-- ---- the last own start
last_in : (q : ℕ) (o : Option ℕ) (l : List Entry) (s : ℕ) → fold (λ _ (x : Entry). Some (q + x.moment)) o l ≡ Some s
    → (o ≡ Some s) ⊎ ((y : Entry) × In y l × (q + y.moment ≡ s))
last_in q o [] s h = inl h
last_in q o (x ∷ l) s h =
    elim (last_in q (Some (q + x.moment)) l s h) [
      | inl here ↦ inr (x, inl refl, same_some (q + x.moment) s here)
      | inr later ↦ inr (later.0, inr later.1, later.2)
    ]

last_some : (q : ℕ) (o : Option ℕ) (l : List Entry) (y : Entry) → IsByMoment l → In y l
    → (s : ℕ) × (fold (λ _ (x : Entry). Some (q + x.moment)) o l ≡ Some s) × (q + y.moment ≤ s)
last_some q o [] y rises i = absurd i
last_some q o (x ∷ []) y rises i =
    (q + x.moment, refl, elim i [ inl e ↦ (let m : y.moment ≡ x.moment = ap (λ (z : Entry). z.moment) e in omega arith) | inr no' ↦ absurd no' ])
last_some q o (x ∷ (z ∷ l)) y rises (inr i) = last_some q (Some (q + x.moment)) (z ∷ l) y rises.1 i
last_some q o (x ∷ (z ∷ l)) y rises (inl e) =
    let m : y.moment ≡ x.moment = ap (λ (w : Entry). w.moment) e in
    let less : x.moment ≤ z.moment = rises.0.0 in
    let rest = last_some q (Some (q + x.moment)) (z ∷ l) z rises.1 (inl refl) in
    let more : q + z.moment ≤ rest.0 = rest.2 in
    (rest.0, rest.1, omega arith)

all_kept : (p : Entry → Bool) (P : Entry → Type 0) (xs : List Entry) → AllByRecursion P xs → AllByRecursion P (filter p xs)
all_kept p P [] h = tt
all_kept p P (x ∷ xs) h =
    elim (p x) as (λ b. AllByRecursion P (cond b (x ∷ filter p xs) (filter p xs))) [ true ↦ (h.0, all_kept p P xs h.1) | false ↦ all_kept p P xs h.1 ]

rise_kept : (p : Entry → Bool) (xs : List Entry) → IsByMoment xs → IsByMoment (filter p xs)
rise_kept p [] h = tt
rise_kept p (x ∷ xs) h =
    elim (p x) as (λ b. IsByMoment (cond b (x ∷ filter p xs) (filter p xs))) [
      | true ↦ (all_kept p (λ (y : Entry). x.moment ≤ y.moment) xs h.0, rise_kept p xs h.1)
      | false ↦ rise_kept p xs h.1
    ]

-- ---- what is heard up to a moment, as the timers have it
module _ (q sg n t : ℕ) (l : List Entry) (rises : IsByMoment l) where
  abbrev heard : List Bool
  heard = past q l t

  abbrev last : Option ℕ
  last = last_place q (own l n t)

  own_last : (e : ℕ) → ((y : Entry) → In y l → y.terminal ≡ n → y.moment < t → q + y.moment + sg ≤ e) → IfSome last (λ s. s ≤ e - sg)
  own_last e all =
      elim last as (λ (o : Option ℕ). last ≡ o → IfSome o (λ s. s ≤ e - sg)) [
        | None ↦ λ h. tt
        | Some s ↦ λ h. elim (last_in q None (own l n t) s h) [
          | inl no' ↦ absurd (let k : None ≡ Some s = no' in cc)
          | inr y ↦
              let from = from_own l n t y.0 y.1 in
              let is : q + y.0.moment ≡ s = y.2 in
              let low : q + y.0.moment + sg ≤ e = all y.0 from.0 from.1 from.2 in
              omega arith
        ]
      ] refl

  last_own : (e : ℕ) → sg ≤ e → IfSome last (λ s. s ≤ e - sg) → (y : Entry) → In y l → y.terminal ≡ n → y.moment < t → q + y.moment + sg ≤ e
  last_own e long h y i o early =
      let s = last_some q None (own l n t) y (rise_kept (λ (z : Entry). eqb z.terminal n && ltb z.moment t) l rises) (in_own l n t y i o early) in
      let low : s.0 ≤ e - sg = subst (λ (p : Option ℕ). IfSome p (λ s. s ≤ e - sg)) s.1 h in
      let more : q + y.moment ≤ s.0 = s.2 in
      omega arith

  -- a synchronization gap of the timers is one of the list
  pub from_sync : (e : ℕ) → IsSync sg heard last e → Synced q sg n (before l t) e
  from_sync e s =
      let long : sg ≤ e = s.long in
      record {
        long = long;
        silent = λ u a b. elim (cases_lt u t) [
          | inl early ↦ carrier_before l t u early ∙ sym (past_at q l t u early) ∙ s.quiet (q + u) (omega arith) b
          | inr late ↦
              let out : get_or heard (q + u) true ≡ true = get_or_past heard (q + u) true (omega (arith, length_past q l t)) in
              absurd (true≢false (sym out ∙ s.quiet (q + u) (omega arith) b))
        ];
        own = λ y i o. let f = from_filter (λ (z : Entry). ltb z.moment t) l y i in last_own e long s.own y f.0 o (ltb-true y.moment t f.1);
      }

  -- and the other way round
  to_sync : (e : ℕ) → e ≤ q + t → Synced q sg n (before l t) e → IsSync sg heard last e
  to_sync e within s = record {
    long = s.long;
    quiet = λ k a b. past_silent q l t k (omega arith) (λ u is. sym (carrier_before l t u (omega arith)) ∙ s.silent u (omega arith) (omega arith));
    own = own_last e (λ y i o early. s.own y (in_filter (λ (z : Entry). ltb z.moment t) l y i (lt-ltb y.moment t early)) o);
  }

  module _ (h : Heard) (words : HaveWords (before l t)) (settles : sg ≤ q) (k : Knows q sg n (before l t) h) (over : h.quiet_from ≤ q + t) where
    silent_behind : (u : ℕ) → h.quiet_from ≤ q + u → carrier (before l t) u ≡ false
    silent_behind u low = no_carrier (before l t) u (λ y i. inl (let w : q + end_of y ≤ h.quiet_from = k.ended y i in omega arith))

    quiet_behind : (g : ℕ) → h.quiet_from ≤ g → IsQuiet heard g (length heard)
    quiet_behind g low p a b =
        let long : length heard ≡ q + t = length_past q l t in
        past_silent q l t p (omega arith) (λ u is. sym (carrier_before l t u (omega arith)) ∙ silent_behind u (omega arith))

    -- what is quiet up to the moment begins behind the last bit time that was not
    last_before : (f : Final q (before l t) h) (m : ℕ) → IsQuiet heard m (length heard) → h.quiet_from ≤ m
    last_before f m silent =
        let z : Entry = f.entry in
        let busy : IsBusy (before l t) z.moment (end_of z) = entry_is_busy (before l t) z f.there (words z f.there) in
        let some : z.moment < end_of z = busy.some in
        let is : q + end_of z ≡ h.quiet_from = f.ends in
        let long : length heard ≡ q + t = length_past q l t in
        elim (cases_lt m h.quiet_from) [
          | inr behind ↦ behind
          | inl less ↦
              let on : carrier l (end_of z - 1) ≡ true = sym (carrier_before l t (end_of z - 1) (omega arith)) ∙ busy.final in
              let off : get_or heard (q + (end_of z - 1)) true ≡ false = silent (q + (end_of z - 1)) (omega arith) (omega arith) in
              absurd (true≢false (sym on ∙ sym (past_at q l t (end_of z - 1) (omega arith)) ∙ off))
        ]

    counts_synced : h.synchronized ≡ true → Elapsed sg heard last h.quiet_from
    counts_synced yes' =
        let e : Elapses q sg n (before l t) = k.elapsed yes' in
        let low : sg ≤ h.quiet_from = k.low in
        let at : e.at ≤ h.quiet_from = elim e.early [
          | inl first ↦ omega arith
          | inr z ↦
              let w : q + end_of z.0 ≤ h.quiet_from = k.ended z.0 z.1 in
              let b : e.at ≤ q + z.0.moment = z.2 in
              omega arith
        ] in
        let long : length heard ≡ q + t = length_past q l t in
        record {
          reached = omega arith;
          sync = (e.at, at, to_sync e.at (omega arith) e.synced);
          quiet = quiet_behind h.quiet_from (omega arith);
          least = λ e' m s below silent. elim k.final [
            | inl none ↦ let f : h.quiet_from ≡ sg = none.from in let w : sg ≤ e' = s.long in omega arith
            | inr f ↦ last_before f m silent
          ];
        }

    counts_waiting : h.synchronized ≡ false → h.quiet_from + sg ≤ q + t → Elapsed sg heard last (h.quiet_from + sg)
    counts_waiting not reached =
        let long : length heard ≡ q + t = length_past q l t in
        let synced : Synced q sg n (before l t) (h.quiet_from + sg) = record {
          long = omega arith;
          silent = λ u a b. silent_behind u (omega arith);
          own = λ y i o. let w : q + end_of y ≤ h.quiet_from = k.ended y i in omega arith;
        } in
        record {
          reached = omega arith;
          sync = (h.quiet_from + sg, omega arith, to_sync (h.quiet_from + sg) reached synced);
          quiet = quiet_behind (h.quiet_from + sg) (omega arith);
          least = λ e m s below silent. elim k.final [
            | inl none ↦ absurd (true≢false (sym none.synced ∙ not))
            | inr f ↦
                let own_sync : Synced q sg n (before l t) e = from_sync e s in
                elim (cases_lt h.quiet_from e) [
                  | inr low ↦ absurd (k.waits not e low own_sync)
                  | inl high ↦ let far : h.quiet_from + sg ≤ e = last_sounds q sg n e (before l t) h f words own_sync (omega arith) in omega arith
                ]
          ];
        }

    pub counts_at : gap_place sg h ≤ q + t → GapFrom sg heard last (gap_place sg h)
    counts_at reached =
        elim h.synchronized as (λ b. h.synchronized ≡ b → h.quiet_from + cond b 0 sg ≤ q + t → GapFrom sg heard last (h.quiet_from + cond b 0 sg)) [
          | true ↦ λ e low. inl (subst (Elapsed sg heard last) (let z : h.quiet_from ≡ h.quiet_from + 0 = omega arith in z) (counts_synced e))
          | false ↦ λ e low. inl (counts_waiting e low)
        ] refl reached

    pub silent_at : (u : ℕ) → h.quiet_from ≤ q + u → u < t → carrier l u ≡ false
    silent_at u low early = sym (carrier_before l t u early) ∙ silent_behind u low

-- ---- what begins before an entry stands before it
none_before : (t : ℕ) (xs : List Entry) → AllByRecursion (λ (y : Entry). t ≤ y.moment) xs → before xs t ≡ []
none_before t [] h = refl
none_before t (x ∷ xs) h = rw (le-ltb x.moment t h.0) (none_before t xs h.1)

same_before : (l : List Entry) (k : ℕ) (e : Entry) → IsByMoment l → slice_get l k ≡ Some e → before (take k l) e.moment ≡ before l e.moment
same_before [] k e rises at = absurd (let h : None ≡ Some e = at in cc)
same_before (x ∷ xs) zero e rises at =
    let same : x ≡ e = same_some x e at in
    let low : AllByRecursion (λ (y : Entry). e.moment ≤ y.moment) xs = subst (λ (z : Entry). AllByRecursion (λ (y : Entry). z.moment ≤ y.moment) xs) same rises.0 in
    let m : x.moment ≡ e.moment = ap (λ (z : Entry). z.moment) same in
    sym (none_before e.moment (x ∷ xs) (omega arith, low))
same_before (x ∷ xs) (suc k) e rises at =
    ap (λ (l : List Entry). cond (ltb x.moment e.moment) (x ∷ l) l) (same_before xs k e rises.1 at)

pub taken : (k : ℕ) (xs : List Entry) (y : Entry) → In y (take k xs) → In y xs
taken zero xs y i = absurd i
taken (suc k) [] y i = absurd i
taken (suc k) (x ∷ xs) y (inl e) = inl e
taken (suc k) (x ∷ xs) y (inr i) = inr (taken k xs y i)

all_taken : (P : Entry → Type 0) (k : ℕ) (xs : List Entry) → AllByRecursion P xs → AllByRecursion P (take k xs)
all_taken P zero xs h = tt
all_taken P (suc k) [] h = tt
all_taken P (suc k) (x ∷ xs) h = (h.0, all_taken P k xs h.1)

pub rise_taken : (k : ℕ) (xs : List Entry) → IsByMoment xs → IsByMoment (take k xs)
rise_taken zero xs h = tt
rise_taken (suc k) [] h = tt
rise_taken (suc k) (x ∷ xs) h = (all_taken (λ (y : Entry). x.moment ≤ y.moment) k xs h.0, rise_taken k xs h.1)

-- ---- the settled start
abbrev Settles : ℕ → ℕ → ℕ → Type 0
Settles quiet sg tg = (quiet ≡ sg) ⊎ (sg + tg ≤ quiet)

gap_from_fold : (g : ℕ) (ss : List Sender) → g ≤ fold (λ gap (s : Sender). max gap s.tg) g ss
gap_from_fold g [] = omega arith
gap_from_fold g (s ∷ ss) = omega (arith, gap_from_fold (max g s.tg) ss)

gap_in_fold : (g : ℕ) (ss : List Sender) (s : Sender) → In s ss → s.tg ≤ fold (λ gap (s : Sender). max gap s.tg) g ss
gap_in_fold g [] s i = absurd i
gap_in_fold g (r ∷ ss) s (inl e) = let t : s.tg ≡ r.tg = ap (λ (s : Sender). s.tg) e in omega (arith, gap_from_fold (max g r.tg) ss)
gap_in_fold g (r ∷ ss) s (inr i) = gap_in_fold (max g r.tg) ss s i

settles_by : (mode : Mode) (sg : ℕ) (ss : List Sender) (s : Sender) → In s ss → Settles (quiet_for mode sg ss) sg s.tg
settles_by Aperiodic sg ss s i = inl refl
settles_by Periodic sg ss s i = inr (let low : s.tg ≤ greatest_gap ss = gap_in_fold 0 ss s i in omega arith)

-- ---- the laws
pub have_words : (horizon : ℕ) (l : List Entry) → AllByRecursion (IsBelow horizon) l → HaveWords l
have_words horizon l h y i = (of_each (IsBelow horizon) l h y i).message.some

all_below : (horizon : ℕ) (l : List Entry) → AllByRecursion (IsBelow horizon) l → AllByRecursion (λ (y : Entry). y.moment < horizon) l
all_below horizon [] h = tt
all_below horizon (x ∷ l) h = (h.0.moment, all_below horizon l h.1)

-- The terminal gap of a sender that has heard all that begins before a moment.
gap_of : (table : Table) (trace : Recording) (sender : Sender) (t : ℕ) (h : Heard) → IsTrue (is_valid table) → IsTrace trace → In sender table.senders
    → Knows (quiet_of table) table.sg sender.number (before trace.list t) h
    → (gap_from (quiet_of table) sender.tg (gap_place table.sg h) t).from < (gap_from (quiet_of table) sender.tg (gap_place table.sg h) t).to
    → IsGapOf table trace sender t (gap_from (quiet_of table) sender.tg (gap_place table.sg h) t)
gap_of table trace sender t h valid recorded there k less =
    let l : List Entry = trace.list in
    let q : ℕ = quiet_of table in
    let sg : ℕ = table.sg in
    let n : ℕ = sender.number in
    let sound : IsSound (timing_of table sender) = timings_are_sound table sender valid there in
    let quiet : sg ≤ q = sound.quiet_least in
    let rises : IsByMoment l = ascending_is_by_moment l recorded.order in
    let words : HaveWords l = have_words trace.horizon l recorded.list in
    let early_words : HaveWords (before l t) = λ y i. words y (from_filter (λ (z : Entry). ltb z.moment t) l y i).0 in
    let place : ℕ = gap_place sg h in
    let low : h.quiet_from ≤ place = omega arith in
    let drawn : place - q < min (place + sender.tg - q) t = less in
    let over : h.quiet_from ≤ q + t = omega arith in
    let behind : q ≤ place = elim k.final [
      | inl none ↦
          let f : h.quiet_from ≡ sg = none.from in
          let p : place ≡ sg = ap (λ b. h.quiet_from + cond b 0 sg) none.synced ∙ (let z : h.quiet_from + 0 ≡ sg = omega arith in z) in
          elim (settles_by table.mode sg table.senders sender there) [ inl e ↦ (let s : q ≡ sg = e in omega arith) | inr m ↦ (let s : sg + sender.tg ≤ q = m in absurd (omega arith)) ]
      | inr f ↦ let e : q + end_of f.entry ≡ h.quiet_from = f.ends in omega arith
    ] in
    record {
      counts = subst (GapFrom sg (past q l t) (last_place q (own_of l n t))) (let e : place ≡ q + (place - q) = omega arith in e)
          (counts_at q sg n t l rises h early_words quiet k over (omega arith));
      silent = λ u a b. silent_at q sg n t l rises h early_words quiet k over u (omega arith) (omega arith);
      ends = let e : min (place + sender.tg - q) t ≡ min (place - q + sender.tg) t = omega arith in e;
    }

-- What a sender has heard of those that begin before a transmission.
pub before_known : SentsAreTold → (table : Table) (trace : Recording) (sender : Sender) (x : Sent) → IsTrue (is_valid table) → IsTrace trace
    → In sender table.senders → In x (sents trace.list)
    → Knows (quiet_of table) table.sg sender.number (before trace.list x.moment) (heard_before (quiet_of table) table.sg sender.number trace.list x)
before_known told table trace sender x valid recorded there shown =
    let l : List Entry = trace.list in
    let q : ℕ = quiet_of table in
    let sg : ℕ = table.sg in
    let n : ℕ = sender.number in
    let is : IsToldOf l x = told l x shown in
    let moment : is.entry.moment ≡ x.moment = sym (ap (λ (s : Sent). s.moment) is.told) in
    let sound : IsSound (timing_of table sender) = timings_are_sound table sender valid there in
    let long : 9 ≤ sg = sound.sg_least in
    let quiet : sg ≤ q = sound.quiet_least in
    let rises : IsByMoment l = ascending_is_by_moment l recorded.order in
    let words : HaveWords l = have_words trace.horizon l recorded.list in
    subst (λ (p : List Entry). Knows q sg n p (heard_before q sg n l x)) (subst (λ (m : ℕ). before (take x.at l) m ≡ before l m) moment (same_before l x.at is.entry rises is.at))
    (knows_all q sg n x.moment (take x.at l) (omega arith) quiet (λ y i. words y (taken x.at l y i)) (rise_taken x.at l rises))

-- And of all.
pub all_known : (table : Table) (trace : Recording) (sender : Sender) → IsTrue (is_valid table) → IsTrace trace → In sender table.senders
    → Knows (quiet_of table) table.sg sender.number (before trace.list trace.horizon) (heard_all (quiet_of table) table.sg sender.number trace.list)
all_known table trace sender valid recorded there =
    let l : List Entry = trace.list in
    let q : ℕ = quiet_of table in
    let sg : ℕ = table.sg in
    let n : ℕ = sender.number in
    let t : ℕ = trace.horizon in
    let sound : IsSound (timing_of table sender) = timings_are_sound table sender valid there in
    let long : 9 ≤ sg = sound.sg_least in
    let quiet : sg ≤ q = sound.quiet_least in
    let rises : IsByMoment l = ascending_is_by_moment l recorded.order in
    subst (Knows q sg n (before l t)) (sym (all_heard q sg n t (settled sg) l (all_below t l recorded.list)))
    (knows_all q sg n t l (omega arith) quiet (have_words t l recorded.list) rises)

pub gaps_are_true : SentsAreTold → GapsAreTrue
gaps_are_true told table trace sender x valid recorded there shown less =
    let l : List Entry = trace.list in
    let is : IsToldOf l x = told l x shown in
    let moment : is.entry.moment ≡ x.moment = sym (ap (λ (s : Sent). s.moment) is.told) in
    let at : In is.entry l = at_in l x.at is.entry is.at in
    let busy : IsBusy l is.entry.moment (end_of is.entry) = entry_is_busy l is.entry at (have_words trace.horizon l recorded.list is.entry at) in
    record {
      gap_of = gap_of table trace sender x.moment (heard_before (quiet_of table) table.sg sender.number l x) valid recorded there
          (before_known told table trace sender x valid recorded there shown) less;
      carrier_begins = ap (carrier l) (sym moment) ∙ busy.first;
    }

pub last_gaps_are_true : LastGapsAreTrue
last_gaps_are_true table trace sender valid recorded there less =
    gap_of table trace sender trace.horizon (heard_all (quiet_of table) table.sg sender.number trace.list) valid recorded there
    (all_known table trace sender valid recorded there) less
