-- How a sender goes with the list, and that one whose message runs may not start.
use Rattle.std.proofs.Common.{◌≡◌, ℕ, ◌+◌, ◌-◌, ◌<◌, ◌≤◌, ◌⊎◌, Bool, true, false, List, [], ◌∷◌, ◌++◌, length, replicate, get_or, Option, Some, None, inl, inr, arith, sym, refl, ap, ◌∙◌, subst}
use Rattle.std.specs.Prelude.{fold}
use Rattle.std.specs.Option.{option_and_then, option_map, option_map_or}
use Rattle.std.proofs.lemmas.Bool.{cases_lt, true≢false, lt-ltb, le-ltb}
use Rattle.std.proofs.lemmas.List.{length_push, get_or_default}
use Rattle.std.proofs.lemmas.List.Sums.{fold-append}
use Rattle.bus_timers.specs.declared.timing.Timing.{Timing}
use Rattle.bus_timers.specs.Timings.{IsSound}
use Rattle.bus_timers.specs.MayStart.{MayStart}
use Rattle.bus_strings.specs.Members.{In}
use Rattle.bus_strings.specs.Messages.{Entry, bits}
use Rattle.bus_strings.specs.Pulses.{is_on}
use Rattle.bus_strings.specs.Transmissions.{pulses, carrier, end_of}
use Rattle.bus_strings.proofs.PulsesAlongLaws.{quiet_behind}
use Rattle.bus_strings.proofs.MessageLaws.{bits_some}
use Rattle.bus_table.specs.Tables.{Hand}
use Rattle.bus_medium.specs.Terminals.{last_begun}
use Rattle.bus_medium.specs.MessageStretches.{later_place}
use Rattle.bus_medium.proofs.SendingLaws.{sending_is_not_ready}
use Rattle.bus_medium.specs.Past.{past, own, last_place}
use Rattle.bus_medium.specs.Buses.{last_of, running_at}
use Rattle.bus_medium.specs.inside.Following.{Running, Follows}
use Rattle.bus_strings.proofs.MemberLaws.{any_in, in_push_cases, in_push}
use Rattle.bus_medium.proofs.PastLaws.{length_past, past_at, pulses_on, pulses_begun, from_own, last_push}

-- the last of a list is in it, and its place is that of the last start
pub last_of_push : (l : List Entry) (x : Entry) → last_of (l ++ x ∷ []) ≡ Some x
last_of_push l x = fold-append (λ _ y. Some y) None l (x ∷ [])

last_from : (o : Option Entry) (l : List Entry) (x : Entry) → fold (λ _ y. Some y) o l ≡ Some x → (o ≡ Some x) ⊎ In x l
last_from o [] x h = inl h
last_from o (y ∷ l) x h = elim (last_from (Some y) l x h) [ inl same ↦ inr (inl (sym (let e : y ≡ x = cc in e))) | inr there ↦ inr (inr there) ]

pub last_in : (l : List Entry) (x : Entry) → last_of l ≡ Some x → In x l
last_in l x h = elim (last_from None l x h) [ inl same ↦ cc | inr there ↦ there ]

last_place_from : (q : ℕ) (o : Option Entry) (l : List Entry) → fold (λ _ x. Some (q + x.moment)) (option_map (λ x. q + x.moment) o) l ≡ option_map (λ x. q + x.moment) (fold (λ _ x. Some x) o l)
last_place_from q o [] = refl
last_place_from q o (y ∷ l) = last_place_from q (Some y) l

pub last_place_is : (q : ℕ) (l : List Entry) → last_place q l ≡ option_map (λ x. q + x.moment) (last_of l)
last_place_is q l = last_place_from q None l

-- a terminal that is sending may not start
pub running_not_may : (q : ℕ) (timing : Timing) (hand : Hand) (sent d n t : ℕ) (l : List Entry) → IsSound timing → Running hand sent d (own l n t) t → MayStart timing (past q l t) (last_place q (own l n t)) → ⊥
running_not_may q timing hand sent d n t l sound r may =
    let x : Entry = r.entry in
    let there : In r.entry l = (from_own l n t r.entry r.there).0 in
    let place : r.entry.moment + d ≡ t = r.place in
    let len : length (past q l t) ≡ q + t = length_past q l t in
    let last : last_place q (own l n t) ≡ Some (q + r.entry.moment) = last_place_is q (own l n t) ∙ ap (option_map (λ (y : Entry). q + y.moment)) r.last in
    sending_is_not_ready timing (past q l t) (q + r.entry.moment) d r.entry.message sound (omega arith) r.within
    (λ k below is_on_k.
    let at : q + r.entry.moment + k ≡ q + (r.entry.moment + k) = omega arith in
    let same : r.entry.moment + k - r.entry.moment ≡ k = omega arith in
    let pulse : pulses (r.entry.moment + k) r.entry ≡ true = pulses_on (r.entry.moment + k) r.entry (omega arith) ∙ ap (is_on r.entry.message) same ∙ is_on_k in
    get_or_default (past q l t) (q + r.entry.moment + k) false true (omega arith) ∙ ap (λ i. get_or (past q l t) i true) at ∙ past_at q l t (r.entry.moment + k) (omega arith) ∙ any_in (pulses (r.entry.moment + k)) l r.entry there pulse)
    (subst (λ w. MayStart timing (past q l t) w) last may)

pub due_is_free : {stands : Timing → List Bool → Option ℕ → Type 0} (q : ℕ) (timing : Timing) (hand : Hand) (sent : ℕ) (now : Option ℕ) (n t : ℕ) (l : List Entry) → Follows stands q timing hand sent now (past q l t) (own l n t) t
    → MayStart timing (past q l t) (last_place q (own l n t)) → now ≡ None
due_is_free q timing hand sent None n t l f may = refl
due_is_free q timing hand sent (Some d) n t l f may = absurd (running_not_may q timing hand sent d n t l f.sound (f.running d refl) may)

-- n bit times later, whatever was heard
pub follows_on : {stands stands' : Timing → List Bool → Option ℕ → Type 0} (q : ℕ) (timing : Timing) (hand : Hand) (sent : ℕ) (now : Option ℕ) (p p' : List Bool) (mine : List Entry) (t n : ℕ)
    → Follows stands q timing hand sent now p mine t → stands' timing p' (last_place q mine)
    → Follows stands' q timing hand sent (option_and_then (later_place (last_begun hand sent) n) now) p' mine (t + n)
follows_on q timing hand sent None p p' mine t n f core = record {
  sound = f.sound;
  core = core;
  count = f.count;
  idle = λ e x i. let ended : end_of x ≤ t = f.idle refl x i in omega arith;
  running = λ d e. absurd (cc);
}
follows_on {stands} {stands'} q timing hand sent (Some d) p p' mine t n f core =
    let r : Running hand sent d mine t = f.running d refl in
    let place : r.entry.moment + d ≡ t = r.place in
    let inside : d < bits r.entry.message = r.within in
    let long : bits (last_begun hand sent) ≡ bits r.entry.message = ap bits r.message in
    elim (cases_lt (d + n) (bits (last_begun hand sent))) [
      | inl more ↦ subst (λ o. Follows stands' q timing hand sent o p' mine (t + n)) (sym (let e : later_place (last_begun hand sent) n d ≡ Some (d + n) = rw (lt-ltb (d + n) (bits (last_begun hand sent)) more) refl in e)) (record {
        sound = f.sound;
        core = core;
        count = f.count;
        idle = λ e. absurd (cc);
        running = λ k e. subst (λ w. Running hand sent w mine (t + n)) (let same : d + n ≡ k = cc in same) (record {
          entry = r.entry;
          there = r.there;
          last = r.last;
          place = omega arith;
          within = omega arith;
          message = r.message;
          others = λ x i. elim (r.others x i) [ inl same ↦ inl same | inr ended ↦ inr (omega arith) ];
        });
      })
      | inr over ↦ subst (λ o. Follows stands' q timing hand sent o p' mine (t + n)) (sym (let e : later_place (last_begun hand sent) n d ≡ None = rw (le-ltb (d + n) (bits (last_begun hand sent)) over) refl in e)) (record {
        sound = f.sound;
        core = core;
        count = f.count;
        idle = λ e x i. elim (r.others x i) [ inl same ↦ let h : end_of x ≡ end_of r.entry = ap end_of same in omega arith | inr ended ↦ omega arith ];
        running = λ k e. absurd (cc);
      })
    ]

-- a stretch later
pub follows_later : {stands stands' : Timing → List Bool → Option ℕ → Type 0} (q : ℕ) (timing : Timing) (hand : Hand) (sent : ℕ) (now : Option ℕ) (p : List Bool) (mine : List Entry) (t n : ℕ) (c : Bool)
    → Follows stands q timing hand sent now p mine t
    → ((timing : Timing) (p : List Bool) (last : Option ℕ) → stands timing p last → stands' timing (p ++ replicate n c) last)
    → Follows stands' q timing hand sent (option_and_then (later_place (last_begun hand sent) n) now) (p ++ replicate n c) mine (t + n)
follows_later q timing hand sent now p mine t n c f steps =
    follows_on q timing hand sent now p (p ++ replicate n c) mine t n f (steps timing p (last_place q mine) f.core)

-- a message begins
pub follows_started : {stands stands' : Timing → List Bool → Option ℕ → Type 0} (q : ℕ) (timing : Timing) (hand : Hand) (sent : ℕ) (p : List Bool) (mine : List Entry) (t : ℕ) (x : Entry)
    → Follows stands q timing hand sent None p mine t → length p ≡ q + t → ((timing : Timing) (p : List Bool) (last : Option ℕ) → stands timing p last → stands' timing p (Some (length p)))
    → x.moment ≡ t → get_or hand.messages sent [] ≡ x.message → 0 < length x.message
    → Follows stands' q timing hand (sent + 1) (Some 0) p (mine ++ x ∷ []) t
follows_started {stands} {stands'} q timing hand sent p mine t x f len steps at message some =
    let last : last_place q (mine ++ x ∷ []) ≡ Some (length p) = last_push q mine x ∙ ap Some (let e : q + x.moment ≡ length p = omega arith in e) in
    let long : 0 < bits x.message = bits_some x.message some in
    let n : sent ≡ length mine = f.count in
    let place : sent + 1 - 1 ≡ sent = omega arith in
    record {
      sound = f.sound;
      core = subst (λ w. stands' timing p w) (sym last) (steps timing p (last_place q mine) f.core);
      count = omega (arith, length_push mine x);
      idle = λ e. absurd (cc);
      running = λ d e. subst (λ w. Running hand (sent + 1) w (mine ++ x ∷ []) t) (let same : 0 ≡ d = cc in same) (record {
        entry = x;
        there = in_push mine x;
        last = last_of_push mine x;
        place = omega arith;
        within = long;
        message = ap (λ k. get_or hand.messages k []) place ∙ message;
        others = λ y i. elim (in_push_cases mine x y i) [ inl old ↦ inr (f.idle refl y old) | inr same ↦ inl same ];
      });
    }

-- a sender sounds only where a transmission of its own has a pulse
pub sounding_pulse : {stands : Timing → List Bool → Option ℕ → Type 0} (q : ℕ) (timing : Timing) (hand : Hand) (sent : ℕ) (now : Option ℕ) (p : List Bool) (l : List Entry) (n t : ℕ) → Follows stands q timing hand sent now p (own l n (t + 1)) t
    → option_map_or (λ d. is_on (last_begun hand sent) d) now false ≡ true → carrier l t ≡ true
sounding_pulse q timing hand sent None p l n t f h = absurd (true≢false (sym h))
sounding_pulse q timing hand sent (Some d) p l n t f h =
    let r : Running hand sent d (own l n (t + 1)) t = f.running d refl in
    let there : In r.entry l = (from_own l n (t + 1) r.entry r.there).0 in
    let place : r.entry.moment + d ≡ t = r.place in
    let at : t - r.entry.moment ≡ d = omega arith in
    any_in (pulses t) l r.entry there (pulses_on t r.entry (omega arith) ∙ ap (is_on r.entry.message) at ∙ ap (λ m. is_on m d) (sym r.message) ∙ h)

-- a transmission of its own that has a pulse sounds
pub pulse_sounding : {stands : Timing → List Bool → Option ℕ → Type 0} (q : ℕ) (timing : Timing) (hand : Hand) (sent : ℕ) (now : Option ℕ) (p : List Bool) (l : List Entry) (n t : ℕ) (x : Entry) → Follows stands q timing hand sent now p (own l n (t + 1)) t
    → In x (own l n (t + 1)) → pulses t x ≡ true → option_map_or (λ d. is_on (last_begun hand sent) d) now false ≡ true
pulse_sounding q timing hand sent None p l n t x f i h =
    let begun_at : x.moment ≤ t = pulses_begun t x h in
    let ended : end_of x ≤ t = f.idle refl x i in
    absurd (true≢false (sym h ∙ pulses_on t x begun_at ∙ quiet_behind x.message (t - x.moment) (omega arith)))
pulse_sounding q timing hand sent (Some d) p l n t x f i h =
    let begun_at : x.moment ≤ t = pulses_begun t x h in
    let r : Running hand sent d (own l n (t + 1)) t = f.running d refl in
    elim (r.others x i) [
      | inl same ↦
          let place : r.entry.moment + d ≡ t = r.place in
          let moments : x.moment ≡ r.entry.moment = ap (λ y. y.moment) same in
          let at : t - x.moment ≡ d = omega arith in
          ap (λ m. is_on m d) (r.message ∙ ap (λ y. y.message) (sym same)) ∙ ap (is_on x.message) (sym at) ∙ sym (pulses_on t x begun_at) ∙ h
      | inr over ↦ absurd (true≢false (sym h ∙ pulses_on t x begun_at ∙ quiet_behind x.message (t - x.moment) (omega arith)))
    ]

-- where a sender that follows is in its message
pub running_is : {stands : Timing → List Bool → Option ℕ → Type 0} (q : ℕ) (timing : Timing) (hand : Hand) (sent : ℕ) (now : Option ℕ) (p : List Bool) (mine : List Entry) (t : ℕ) → Follows stands q timing hand sent now p mine t → now ≡ option_and_then (running_at t) (last_of mine)
running_is q timing hand sent None p mine t f =
    elim (last_of mine) as (λ o. last_of mine ≡ o → None ≡ option_and_then (running_at t) o) [
      | None ↦ λ e. refl
      | Some x ↦ λ e. let ended : end_of x ≤ t = f.idle refl x (last_in mine x e) in rw (le-ltb t (end_of x) ended) refl
    ] refl
running_is q timing hand sent (Some d) p mine t f =
    let r : Running hand sent d mine t = f.running d refl in
    let place : r.entry.moment + d ≡ t = r.place in
    let within : d < bits r.entry.message = r.within in
    let at : t - r.entry.moment ≡ d = omega arith in
    let runs : running_at t r.entry ≡ Some (t - r.entry.moment) = rw (lt-ltb t (end_of r.entry) (let k : t < end_of r.entry = omega arith in k)) refl in
    sym (ap (option_and_then (running_at t)) r.last ∙ runs ∙ ap (λ k. Some k) at)
