-- The senders decide, one after another.
use Rattle.std.proofs.Common.{◌≡◌, ◌≢◌, ℕ, ◌+◌, ◌<◌, ◌≤◌, ◌⊎◌, List, [], ◌∷◌, ◌++◌, length, set, get_or, map, Option, Some, None, inl, inr, arith, sym, refl, ap, ◌∙◌, subst}
use Rattle.std.specs.Prelude.{slice_get}
use Rattle.std.specs.Option.{MatchOption}
use Rattle.std.proofs.lemmas.Bool.{cases_lt, cases_eq, cases_order}
use Rattle.std.proofs.lemmas.List.{length-set, length-map}
use Rattle.std.proofs.lemmas.Option.{slice_get_within, slice_get-get_or, get_or_from_slice_get}
use Rattle.bus_timers.specs.declared.cores.Core.{Ghosts}
use Rattle.bus_strings.specs.Members.{In}
use Rattle.bus_strings.specs.Messages.{Entry}
use Rattle.bus_strings.proofs.ListLaws.{some_at}
use Rattle.bus_table.specs.Tables.{Hand}
use Rattle.bus_medium.specs.Terminals.{Terminal}
use Rattle.bus_medium.specs.Past.{past, own, last_place}
use Rattle.bus_medium.specs.Lawful.{Station, HaveOwnNumbers, HasEntry, IsDue, IsLawfulTo}
use Rattle.bus_medium.specs.Buses.{Seat, station_of, number_of}
use Rattle.bus_medium.specs.inside.Following.{Follows, FollowsAt, AllFollow, AllHaveRoom, Started, Idle}
use Rattle.bus_medium.specs.Orders.{IsByNumber, AreNumbers}
use Rattle.bus_medium.proofs.PastLaws.{length_past, past_push, own_later, own_push, own_push_other}
use Rattle.bus_medium.proofs.Steps.{not_yet, lawful_idle, lawful_start, lawful_next}
use Rattle.bus_medium.proofs.Following.{due_is_free, follows_started}
use Rattle.bus_medium.proofs.Seats.{get_set_same, get_set_other, same_some, map_set_same, in_map, from_map, number_at, same_numbers, own_numbers}

-- with no transmission at moment t, what is own up to it is what was own before it
pub own_next : (l : List Entry) (n t : ℕ) → (HasEntry l n t → ⊥) → own l n (t + 1) ≡ own l n t
own_next l n t not_there =
    own_later l n t (t + 1) (omega arith) (λ x i same from to. not_there (record { entry = x; there = i; moment = omega arith; terminal = same }))

-- the senders with numbers below n have decided at moment t, and the others have not
pub record DecidedSoFar {C : Type 0} (core : Ghosts C) (quiet t : ℕ) (xs ys : List (Seat C)) (l : List Entry) (n : ℕ) : Type 0 where
  pub same_length : length ys ≡ length xs
  pub stations : map station_of ys ≡ map station_of xs
  pub lawful : IsLawfulTo quiet (map station_of xs) t n l
  pub done : (j : ℕ) (y : Seat C) → slice_get ys j ≡ Some y → number_of y < n → FollowsAt core quiet y l t (t + 1)
  pub rest : (j : ℕ) (y : Seat C) → slice_get ys j ≡ Some y → n ≤ number_of y → FollowsAt core quiet y l t t
  pub room : (m : ℕ) → AllHaveRoom core xs m → AllHaveRoom core ys m

-- the sender at place p is the only one with a number from n up to its own
abbrev pub IsNextUp : {C : Type 0} → List (Seat C) → ℕ → ℕ → Seat C → Type 0
IsNextUp {C} ys n p x = (j : ℕ) (z : Seat C) → slice_get ys j ≡ Some z → n ≤ number_of z → number_of z ≤ number_of x → j ≡ p

pub station_in : {C : Type 0} (xs ys : List (Seat C)) (j : ℕ) (y : Seat C) → map station_of ys ≡ map station_of xs → slice_get ys j ≡ Some y → In (station_of y) (map station_of xs)
station_in xs ys j y e at = subst (λ ss. In (station_of y) ss) e (in_map station_of ys j y at)

-- the same own transmissions and the same past
pub same_follows : {C : Type 0} (core : Ghosts C) (quiet : ℕ) (x : Seat C) (l m : List Entry) (t a b : ℕ) → past quiet l t ≡ past quiet m t → own l (number_of x) a ≡ own m (number_of x) b → FollowsAt core quiet x l t a → FollowsAt core quiet x m t b
same_follows core quiet x l m t a b p o f =
    subst (λ mine. Follows (core.stands x.terminal.core) quiet x.timing x.terminal.hand x.terminal.sent x.terminal.running (past quiet m t) mine t) o
    (subst (λ q. Follows (core.stands x.terminal.core) quiet x.timing x.terminal.hand x.terminal.sent x.terminal.running q (own l (number_of x) a) t) p f)

pub decided_none : {C : Type 0} (core : Ghosts C) (quiet t : ℕ) (xs : List (Seat C)) (l : List Entry) → IsLawfulTo quiet (map station_of xs) t 0 l → AllFollow core quiet xs l t t → DecidedSoFar core quiet t xs xs l 0
decided_none core quiet t xs l law f = record {
  same_length = refl;
  stations = refl;
  lawful = law;
  done = λ j y at below. absurd (omega arith);
  rest = λ j y at low. f j y at;
  room = λ m h. h;
}

pub decided_idle : {C : Type 0} (core : Ghosts C) (quiet t : ℕ) (xs ys : List (Seat C)) (l : List Entry) (n p : ℕ) (x y : Seat C) → DecidedSoFar core quiet t xs ys l n
    → slice_get ys p ≡ Some x → n ≤ number_of x → IsNextUp ys n p x → Idle core x y → DecidedSoFar core quiet t xs (set ys p y) l (number_of x + 1)
decided_idle {C} core quiet t xs ys l n p x y so at low next idle =
    let within : p < length ys = slice_get_within ys p x at in
    let f : FollowsAt core quiet x l t t = so.rest p x at low in
    let count : x.terminal.sent ≡ length (own l (number_of x) t) = f.count in
    -- each element of the new list is one of the old list
    let old : (j : ℕ) (z : Seat C) → slice_get (set ys p y) j ≡ Some z → slice_get ys j ≡ Some z = λ j z z_at. elim (cases_eq p j) [
      | inl same ↦ ap (slice_get ys) (sym same) ∙ at ∙ ap Some (sym idle.same) ∙ sym (get_set_same ys p y within) ∙ ap (slice_get (set ys p y)) same ∙ z_at
      | inr other ↦ sym (get_set_other ys p j y other) ∙ z_at
    ] in
    let the_one : (j : ℕ) (z : Seat C) → slice_get ys j ≡ Some z → n ≤ number_of z → number_of z ≤ number_of x → z ≡ x = λ j z z_at z_low z_high.
    same_some z x (sym z_at ∙ ap (slice_get ys) (next j z z_at z_low z_high) ∙ at) in
    record {
      same_length = length-set ys p y ∙ so.same_length;
      stations = map_set_same station_of ys p x y at (ap station_of idle.same) ∙ so.stations;
      lawful = lawful_idle quiet (map station_of xs) t n (number_of x + 1) l so.lawful (omega arith) (λ s s_in s_low s_high due.
          let m = from_map station_of ys s (subst (λ ss. In s ss) (sym so.stations) s_in) in
          let number : number_of m.element ≡ s.number = ap (λ (r : Station). r.number) m.same in
          let this : m.element ≡ x = the_one m.place m.element m.at (omega arith) (omega arith) in
          let s_is : s ≡ station_of x = sym m.same ∙ ap station_of this in
          let mine : IsDue quiet l (station_of x) t = subst (λ r. IsDue quiet l r t) s_is due in
          let left : length (own l (number_of x) t) < length x.terminal.hand.messages = mine.left in
          idle.not x.timing (past quiet l t) (last_place quiet (own l (number_of x) t)) f.core (mine.may, due_is_free quiet x.timing x.terminal.hand x.terminal.sent x.terminal.running (number_of x) t l f mine.may, omega arith));
      done = λ j z z_at below. elim (cases_lt (number_of z) n) [
        | inl before ↦ so.done j z (old j z z_at) before
        | inr this ↦
            let z_is : z ≡ x = the_one j z (old j z z_at) this (omega arith) in
            subst (λ w. FollowsAt core quiet w l t (t + 1)) (sym z_is) (same_follows core quiet x l l t t (t + 1) refl (sym (own_next l (number_of x) t (not_yet quiet (map station_of xs) t n l (number_of x) so.lawful low))) f)
      ];
      rest = λ j z z_at above. so.rest j z (old j z z_at) (omega arith);
      room = λ m h j z z_at. so.room m h j z (old j z z_at);
    }

pub decided_started : {C : Type 0} (core : Ghosts C) (quiet t : ℕ) (xs ys : List (Seat C)) (l : List Entry) (n p : ℕ) (x y : Seat C) (e : Entry) → HaveOwnNumbers (map station_of xs) → DecidedSoFar core quiet t xs ys l n
    → slice_get ys p ≡ Some x → n ≤ number_of x → IsNextUp ys n p x → Started core x y t e → DecidedSoFar core quiet t xs (set ys p y) (l ++ e ∷ []) (number_of x + 1)
decided_started {C} core quiet t xs ys l n p x y e own_n so at low next st =
    let within : p < length ys = slice_get_within ys p x at in
    let here : In (station_of x) (map station_of xs) = station_in xs ys p x so.stations at in
    let f : FollowsAt core quiet x l t t = so.rest p x at low in
    let count : x.terminal.sent ≡ length (own l (number_of x) t) = f.count in
    let unsent : x.terminal.sent < length x.terminal.hand.messages = st.unsent in
    let em : e.moment ≡ t = st.moment in
    let et : e.terminal ≡ number_of x = st.number in
    let not_there : HasEntry l (number_of x) t → ⊥ = not_yet quiet (map station_of xs) t n l (number_of x) so.lawful low in
    let pasts : past quiet (l ++ e ∷ []) t ≡ past quiet l t = past_push quiet l e t (omega arith) in
    let hands : y.terminal.hand ≡ x.terminal.hand = ap (λ (w : Terminal C). w.hand) st.terminal in
    let numbers : number_of y ≡ number_of x = ap (λ (h : Hand). h.terminal) hands in
    let same_station : station_of y ≡ station_of x =
    ap (λ (h : Hand). record { number = h.terminal; timing = y.timing; hand = h.messages }) hands ∙ ap (λ w. record { number = number_of x; timing = w; hand = x.terminal.hand.messages }) st.timing in
    -- the other senders see nothing of it
    let other : (j : ℕ) (z : Seat C) (cut : ℕ) → number_of z ≢ number_of x → FollowsAt core quiet z l t cut → FollowsAt core quiet z (l ++ e ∷ []) t cut = λ j z cut apart h.
    same_follows core quiet z l (l ++ e ∷ []) t cut cut (sym pasts) (sym (own_push_other l (number_of z) cut e (λ q. apart (sym q.0 ∙ et)))) h in
    let mine : own (l ++ e ∷ []) (number_of x) (t + 1) ≡ own l (number_of x) t ++ e ∷ [] = own_push l (number_of x) (t + 1) e et (omega arith) ∙ ap (λ w. w ++ e ∷ []) (own_next l (number_of x) t not_there) in
    -- places of the new list
    let place : (j : ℕ) (z : Seat C) → slice_get (set ys p y) j ≡ Some z → ((p ≡ j) × (z ≡ y)) ⊎ ((p ≢ j) × (slice_get ys j ≡ Some z)) = λ j z z_at. elim (cases_eq p j) [
      | inl same ↦ inl (same, same_some z y (sym z_at ∙ ap (slice_get (set ys p y)) (sym same) ∙ get_set_same ys p y within))
      | inr apart ↦ inr (apart, sym (get_set_other ys p j y apart) ∙ z_at)
    ] in
    let fresh : FollowsAt core quiet y (l ++ e ∷ []) t (t + 1) =
    let free : Follows (core.stands x.terminal.core) quiet x.timing x.terminal.hand x.terminal.sent None (past quiet l t) (own l (number_of x) t) t =
    subst (λ o. Follows (core.stands x.terminal.core) quiet x.timing x.terminal.hand x.terminal.sent o (past quiet l t) (own l (number_of x) t) t) st.free f in
    let made : Follows (core.stands y.terminal.core) quiet x.timing x.terminal.hand (x.terminal.sent + 1) (Some 0) (past quiet l t) (own l (number_of x) t ++ e ∷ []) t =
    follows_started quiet x.timing x.terminal.hand x.terminal.sent (past quiet l t) (own l (number_of x) t) t e free (length_past quiet l t) st.told em st.message st.some in
    let with_past : Follows (core.stands y.terminal.core) quiet x.timing x.terminal.hand (x.terminal.sent + 1) (Some 0) (past quiet (l ++ e ∷ []) t) (own (l ++ e ∷ []) (number_of x) (t + 1)) t =
    subst (λ w. Follows (core.stands y.terminal.core) quiet x.timing x.terminal.hand (x.terminal.sent + 1) (Some 0) (past quiet (l ++ e ∷ []) t) w t) (sym mine)
    (subst (λ q. Follows (core.stands y.terminal.core) quiet x.timing x.terminal.hand (x.terminal.sent + 1) (Some 0) q (own l (number_of x) t ++ e ∷ []) t) (sym pasts) made) in
    subst (λ w. Follows (core.stands y.terminal.core) quiet w y.terminal.hand y.terminal.sent y.terminal.running (past quiet (l ++ e ∷ []) t) (own (l ++ e ∷ []) (number_of y) (t + 1)) t) (sym st.timing)
    (subst (λ (w : Terminal C). Follows (core.stands y.terminal.core) quiet x.timing w.hand w.sent w.running (past quiet (l ++ e ∷ []) t) (own (l ++ e ∷ []) w.hand.terminal (t + 1)) t) (sym st.terminal) with_past) in
    record {
      same_length = length-set ys p y ∙ so.same_length;
      stations = map_set_same station_of ys p x y at same_station ∙ so.stations;
      lawful =
          let to : IsLawfulTo quiet (map station_of xs) t (number_of x) l = lawful_idle quiet (map station_of xs) t n (number_of x) l so.lawful low (λ s s_in s_low s_high due.
          let m = from_map station_of ys s (subst (λ ss. In s ss) (sym so.stations) s_in) in
          let number : number_of m.element ≡ s.number = ap (λ (r : Station). r.number) m.same in
          let this : m.place ≡ p = next m.place m.element m.at (omega arith) (omega arith) in
          let elements : m.element ≡ x = same_some m.element x (sym m.at ∙ ap (slice_get ys) this ∙ at) in
          let same : number_of m.element ≡ number_of x = ap number_of elements in
          omega arith) in
          lawful_start quiet (map station_of xs) t (number_of x) l (station_of x) e own_n to here refl
          (record { may = st.may x.timing (past quiet l t) (last_place quiet (own l (number_of x) t)) f.core; left = omega arith })
          em et (ap (slice_get x.terminal.hand.messages) (sym count) ∙ slice_get-get_or x.terminal.hand.messages x.terminal.sent [] unsent ∙ ap Some st.message);
      done = λ j z z_at below. elim (place j z z_at) [
        | inl this ↦ subst (λ w. FollowsAt core quiet w (l ++ e ∷ []) t (t + 1)) (sym this.1) fresh
        | inr old ↦
            let apart : number_of z ≢ number_of x = λ same. old.0 (sym (next j z old.1 (omega arith) (omega arith))) in
            elim (cases_lt (number_of z) n) [
              | inl before ↦ other j z (t + 1) apart (so.done j z old.1 before)
              | inr not_before ↦ absurd (apart (let this : j ≡ p = next j z old.1 not_before (omega arith) in ap number_of (same_some z x (sym old.1 ∙ ap (slice_get ys) this ∙ at))))
            ]
      ];
      rest = λ j z z_at above. elim (place j z z_at) [
        | inl this ↦ let same : number_of z ≡ number_of y = ap number_of this.1 in absurd (omega arith)
        | inr old ↦ other j z t (λ same. omega arith) (so.rest j z old.1 (omega arith))
      ];
      room = λ m h j z z_at. elim (place j z z_at) [
        | inl this ↦ subst (λ w. m ≤ core.room w.terminal.core) (sym this.1) (let k : m ≤ core.room x.terminal.core = so.room m h p x at in let r : core.room y.terminal.core ≡ core.room x.terminal.core = st.room in omega arith)
        | inr old ↦ so.room m h j z old.1
      ];
    }

pub decided_one : {C : Type 0} (core : Ghosts C) (quiet t : ℕ) (xs ys : List (Seat C)) (l : List Entry) (n p : ℕ) (x y : Seat C) → HaveOwnNumbers (map station_of xs) → DecidedSoFar core quiet t xs ys l n
    → slice_get ys p ≡ Some x → n ≤ number_of x → IsNextUp ys n p x → (o : Option Entry) → MatchOption o (Idle core x y) (λ e. Started core x y t e) → (m : List Entry) → MatchOption o (m ≡ l) (λ e. m ≡ l ++ e ∷ [])
    → DecidedSoFar core quiet t xs (set ys p y) m (number_of x + 1)
decided_one core quiet t xs ys l n p x y o so at low next None idle m e = subst (λ k. DecidedSoFar core quiet t xs (set ys p y) k (number_of x + 1)) (sym e) (decided_idle core quiet t xs ys l n p x y so at low next idle)
decided_one core quiet t xs ys l n p x y o so at low next (Some begun) st m e = subst (λ k. DecidedSoFar core quiet t xs (set ys p y) k (number_of x + 1)) (sym e) (decided_started core quiet t xs ys l n p x y begun o so at low next st)

-- the senders at the first i places have decided
pub record DecidedPlaces {C : Type 0} (core : Ghosts C) (quiet t : ℕ) (xs ys : List (Seat C)) (l : List Entry) (places : List ℕ) (i : ℕ) : Type 0 where
  pub upto : ℕ
  pub behind : (k p : ℕ) → k < i → slice_get places k ≡ Some p → get_or (map number_of xs) p 0 < upto
  pub ahead : (k p : ℕ) → i ≤ k → slice_get places k ≡ Some p → upto ≤ get_or (map number_of xs) p 0
  pub so : DecidedSoFar core quiet t xs ys l upto

pub no_places : {C : Type 0} (core : Ghosts C) (quiet t : ℕ) (xs : List (Seat C)) (l : List Entry) (places : List ℕ) → IsLawfulTo quiet (map station_of xs) t 0 l → AllFollow core quiet xs l t t → DecidedPlaces core quiet t xs xs l places 0
no_places core quiet t xs l places law f = record {
  upto = 0;
  behind = λ k p below at. absurd (omega arith);
  ahead = λ k p low at. omega arith;
  so = decided_none core quiet t xs l law f;
}

-- the number of the sender at a place doesn't change
pub number_kept : {C : Type 0} (xs ys : List (Seat C)) (j : ℕ) (y : Seat C) → map station_of ys ≡ map station_of xs → slice_get ys j ≡ Some y → get_or (map number_of xs) j 0 ≡ number_of y
number_kept xs ys j y e at = ap (λ ns. get_or ns j 0) (sym (same_numbers xs ys e)) ∙ number_at ys j y at

pub one_place : {C : Type 0} (core : Ghosts C) (quiet t : ℕ) (xs ys : List (Seat C)) (l : List Entry) (places : List ℕ) (i p : ℕ) (x y : Seat C) → IsByNumber (map number_of xs) places → DecidedPlaces core quiet t xs ys l places i
    → slice_get places i ≡ Some p → slice_get ys p ≡ Some x → (o : Option Entry) → MatchOption o (Idle core x y) (λ e. Started core x y t e) → (m : List Entry) → MatchOption o (m ≡ l) (λ e. m ≡ l ++ e ∷ [])
    → DecidedPlaces core quiet t xs (set ys p y) m places (i + 1)
one_place core quiet t xs ys l places i p x y by d place at o begun m e =
    let so = d.so in
    let number : get_or (map number_of xs) p 0 ≡ number_of x = number_kept xs ys p x so.stations at in
    let low : d.upto ≤ get_or (map number_of xs) p 0 = d.ahead i p (omega arith) place in
    let len : length (map number_of xs) ≡ length xs = length-map xs number_of in
    let long : length ys ≡ length xs = so.same_length in
    let next : IsNextUp ys d.upto p x = λ j z z_at z_low z_high.
    let within : j < length ys = slice_get_within ys j z z_at in
    let k = by.whole j (omega arith) in
    let z_number : get_or (map number_of xs) j 0 ≡ number_of z = number_kept xs ys j z so.stations z_at in
    elim (cases_order k.0 i) [
      | inl same ↦ let places_same : Some j ≡ Some p = sym k.1 ∙ ap (slice_get places) same ∙ place in same_some j p places_same
      | inr apart ↦ elim apart [
        | inl before ↦ let b : get_or (map number_of xs) j 0 < d.upto = d.behind k.0 j before k.1 in absurd (omega arith)
        | inr after ↦ let a : get_or (map number_of xs) p 0 < get_or (map number_of xs) j 0 = by.rising i k.0 p j after place k.1 in absurd (omega arith)
      ]
    ] in
    record {
      upto = number_of x + 1;
      behind = λ k r below r_at. elim (cases_lt k i) [
        | inl before ↦ let b : get_or (map number_of xs) r 0 < d.upto = d.behind k r before r_at in omega arith
        | inr this ↦
            let same : k ≡ i = omega arith in
            let r_is : r ≡ p = same_some r p (sym r_at ∙ ap (slice_get places) same ∙ place) in
            let r_number : get_or (map number_of xs) r 0 ≡ get_or (map number_of xs) p 0 = ap (λ j. get_or (map number_of xs) j 0) r_is in
            omega arith
      ];
      ahead = λ k r above r_at. let a : get_or (map number_of xs) p 0 < get_or (map number_of xs) r 0 = by.rising i k p r (omega arith) place r_at in omega arith;
      so = decided_one core quiet t xs ys l d.upto p x y (own_numbers xs places by) so at (omega arith) next o begun m e;
    }

pub all_places : {C : Type 0} (core : Ghosts C) (quiet t : ℕ) (xs ys : List (Seat C)) (l : List Entry) (places : List ℕ) (i : ℕ) → IsByNumber (map number_of xs) places → DecidedPlaces core quiet t xs ys l places i → length places ≤ i
    → IsLawfulTo quiet (map station_of xs) (t + 1) 0 l × AllFollow core quiet ys l t (t + 1)
all_places core quiet t xs ys l places i by d all =
    let so = d.so in
    let len : length (map number_of xs) ≡ length xs = length-map xs number_of in
    let long : length ys ≡ length xs = so.same_length in
    let below : (j : ℕ) → j < length xs → get_or (map number_of xs) j 0 < d.upto = λ j within.
    let k = by.whole j (omega arith) in
    d.behind k.0 j (let inside : k.0 < length places = slice_get_within places k.0 j k.1 in omega arith) k.1 in (
      lawful_next quiet (map station_of xs) t d.upto l (λ s there.
          let m = from_map station_of xs s there in
          let within : m.place < length xs = slice_get_within xs m.place m.element m.at in
          let b : get_or (map number_of xs) m.place 0 < d.upto = below m.place within in
          let number : get_or (map number_of xs) m.place 0 ≡ number_of m.element = number_at xs m.place m.element m.at in
          let same : number_of m.element ≡ s.number = ap (λ (r : Station). r.number) m.same in
          omega arith) so.lawful,
      (λ j y y_at.
          let within : j < length ys = slice_get_within ys j y y_at in
          let b : get_or (map number_of xs) j 0 < d.upto = below j (omega arith) in
          let number : get_or (map number_of xs) j 0 ≡ number_of y = number_kept xs ys j y so.stations y_at in
          so.done j y y_at (omega arith)),
    )

-- places are places of senders
pub places_within : {C : Type 0} (xs : List (Seat C)) (places : List ℕ) → IsByNumber (map number_of xs) places → (k : ℕ) → k < length places → get_or places k 0 < length xs
places_within xs places by k h =
    let len : length (map number_of xs) ≡ length xs = length-map xs number_of in
    let p = some_at places k h in
    let same : get_or places k 0 ≡ p.0 = get_or_from_slice_get places k p.0 0 p.1 in
    let within : p.0 < length (map number_of xs) = by.within k p.0 p.1 in
    omega arith

-- the number of a sender that is one of a terminal
pub number_in : {C : Type 0} (xs ys : List (Seat C)) (j : ℕ) (y : Seat C) → AreNumbers (map number_of xs) → map station_of ys ≡ map station_of xs → length ys ≡ length xs → slice_get ys j ≡ Some y → (1 ≤ number_of y) × (number_of y ≤ 128)
number_in xs ys j y n e long at =
    let len : length (map number_of xs) ≡ length xs = length-map xs number_of in
    let within : j < length ys = slice_get_within ys j y at in
    let same : get_or (map number_of xs) j 0 ≡ number_of y = number_kept xs ys j y e at in
    let both = n j (omega arith) in
    let least : 1 ≤ get_or (map number_of xs) j 0 = both.0 in
    let most : get_or (map number_of xs) j 0 ≤ 128 = both.1 in
    (omega arith, omega arith)
