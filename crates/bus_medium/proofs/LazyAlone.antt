-- One sender starts alone: the others are idle.
use Rattle.std.proofs.Common.{◌≡◌, ◌≢◌, ℕ, zero, suc, ◌+◌, ◌-◌, ◌<◌, ◌≤◌, ◌++◌, ◌∷◌, [], List, length, set, map, Option, Some, None, inl, inr, arith, sym, refl, ap, ◌∙◌, subst}
use Rattle.std.specs.Prelude.{slice_get}
use Rattle.std.specs.Option.{MatchOption}
use Rattle.std.proofs.lemmas.Bool.{cases_order}
use Rattle.std.proofs.lemmas.List.{length-map, length-set, map-set}
use Rattle.std.proofs.lemmas.Option.{slice_get_within}
use Rattle.bus_timers.specs.declared.cores.Core.{Ghosts}
use Rattle.bus_strings.specs.Messages.{Entry}
use Rattle.bus_strings.proofs.ListLaws.{some_at}
use Rattle.bus_medium.specs.Buses.{Seat, number_of, station_of}
use Rattle.bus_medium.specs.Lawful.{IsLawfulTo}
use Rattle.bus_medium.specs.Orders.{IsByNumber}
use Rattle.bus_medium.specs.declared.timers.Timers.{Timers}
use Rattle.bus_medium.specs.inside.Following.{AllFollow, Idle, Started}
use Rattle.bus_medium.specs.inside.Lazy.{Clock, clock_of, clocks_of, lazy, lazy_seat, lazy_seats, IsAlone}
use Rattle.bus_medium.proofs.Seats.{get_set_other}
use Rattle.bus_medium.proofs.DecideLemmas.{DecidedPlaces, no_places, one_place}
use Rattle.bus_medium.proofs.LazySeats.{lazy_from, lazy_set}
use Rattle.bus_medium.proofs.LazyStarts.{begin_none}

set_same : {X : Type 0} (xs : List X) (i : ℕ) (x : X) → slice_get xs i ≡ Some x → set xs i x ≡ xs
set_same [] i x h = refl
set_same (y ∷ ys) zero x h = let same : y ≡ x = cc in ap (λ w. w ∷ ys) (sym same)
set_same (y ∷ ys) (suc i) x h = ap (λ ws. y ∷ ws) (set_same ys i x h)

-- the senders at all places but p are idle
abbrev pub OthersIdle : {C : Type 0} → Ghosts C → List (Seat C) → ℕ → Type 0
OthersIdle {C} core ys p = (r : ℕ) (z : Seat C) → r ≢ p → slice_get ys r ≡ Some z → Idle core z z

skip_place : {C : Type 0} (core : Ghosts C) (quiet t : ℕ) (xs ys : List (Seat C)) (l : List Entry) (places : List ℕ) (i r : ℕ) (x : Seat C) → IsByNumber (map number_of xs) places → DecidedPlaces core quiet t xs ys l places i
    → slice_get places i ≡ Some r → slice_get ys r ≡ Some x → Idle core x x → DecidedPlaces core quiet t xs ys l places (i + 1)
skip_place core quiet t xs ys l places i r x by d place at idle =
    subst (λ w. DecidedPlaces core quiet t xs w l places (i + 1)) (set_same ys r x at) (one_place core quiet t xs ys l places i r x x by d place at None idle l refl)

skip_places : {C : Type 0} (core : Ghosts C) (quiet t : ℕ) (xs ys : List (Seat C)) (l : List Entry) (places : List ℕ) (p n i : ℕ) → IsByNumber (map number_of xs) places → length ys ≡ length xs → i + n ≤ length places
    → ((k r : ℕ) → i ≤ k → k < i + n → slice_get places k ≡ Some r → r ≢ p) → OthersIdle core ys p → DecidedPlaces core quiet t xs ys l places i → DecidedPlaces core quiet t xs ys l places (i + n)
skip_places core quiet t xs ys l places p zero i by long within apart idle d = subst (λ k. DecidedPlaces core quiet t xs ys l places k) (let e : i ≡ i + 0 = omega arith in e) d
skip_places core quiet t xs ys l places p (suc n) i by long within apart idle d =
    let inside : i + suc n ≤ length places = within in
    let r = some_at places i (omega arith) in
    let len : length (map number_of xs) ≡ length xs = length-map xs number_of in
    let there : r.0 < length (map number_of xs) = by.within i r.0 r.1 in
    let x = some_at ys r.0 (omega arith) in
    let next = skip_place core quiet t xs ys l places i r.0 x.0 by d r.1 x.1 (idle r.0 x.0 (apart i r.0 (omega arith) (omega arith) r.1) x.1) in
    subst (λ k. DecidedPlaces core quiet t xs ys l places k) (let e : i + 1 + n ≡ i + suc n = omega arith in e)
    (skip_places core quiet t xs ys l places p n (i + 1) by long (omega arith) (λ k s low high s_at. apart k s (omega arith) (omega arith) s_at) idle next)

-- so all have decided when it has
pub alone_places : {C : Type 0} (core : Ghosts C) (quiet t : ℕ) (xs : List (Seat C)) (l m : List Entry) (places : List ℕ) (p : ℕ) (x y : Seat C) → IsByNumber (map number_of xs) places → IsLawfulTo quiet (map station_of xs) t 0 l
    → AllFollow core quiet xs l t t → OthersIdle core xs p → slice_get xs p ≡ Some x → (o : Option Entry) → MatchOption o (Idle core x y) (λ e. Started core x y t e) → MatchOption o (m ≡ l) (λ e. m ≡ l ++ e ∷ [])
    → DecidedPlaces core quiet t xs (set xs p y) m places (length places)
alone_places core quiet t xs l m places p x y by law follow idle at o begun is =
    let within : p < length xs = slice_get_within xs p x at in
    let len : length (map number_of xs) ≡ length xs = length-map xs number_of in
    let i = by.whole p (omega arith) in
    let inside : i.0 < length places = slice_get_within places i.0 p i.1 in
    let apart : (k r : ℕ) → k ≢ i.0 → slice_get places k ≡ Some r → r ≢ p = λ k r other r_at same.
    let rise : (a b : ℕ) → a < b → slice_get places a ≡ Some p → slice_get places b ≡ Some p → ⊥ = λ a b less a_at b_at. let h = by.rising a b p p less a_at b_at in absurd (omega arith) in
    let k_at : slice_get places k ≡ Some p = r_at ∙ ap (λ w. Some w) same in
    elim (cases_order k i.0) [ inl e ↦ other e | inr e ↦ elim e [ inl less ↦ rise k i.0 less k_at i.1 | inr more ↦ rise i.0 k more i.1 k_at ] ] in
    let d0 = no_places core quiet t xs l places law follow in
    let d1 = skip_places core quiet t xs xs l places p i.0 0 by refl (omega arith) (λ k r low high r_at. apart k r (λ e. omega arith) r_at) idle d0 in
    let d2 = one_place core quiet t xs xs l places (0 + i.0) p x y by d1 (subst (λ k. slice_get places k ≡ Some p) (let e : i.0 ≡ 0 + i.0 = omega arith in e) i.1) at o begun m is in
    let idle_set : OthersIdle core (set xs p y) p = λ r z other z_at. idle r z other (sym (get_set_other xs p r y (λ e. other (sym e))) ∙ z_at) in
    subst (λ k. DecidedPlaces core quiet t xs (set xs p y) m places k) (let e : 0 + i.0 + 1 + (length places - (0 + i.0 + 1)) ≡ length places = omega arith in e)
    (skip_places core quiet t xs (set xs p y) m places p (length places - (0 + i.0 + 1)) (0 + i.0 + 1) by (length-set xs p y) (omega arith) (λ k r low high r_at. apart k r (λ e. omega arith) r_at) idle_set d2)

pub others_idle : {C : Type 0} (core : Ghosts C) (q t : ℕ) (seats : List (Seat C)) (clocks : List Clock) (p : ℕ) → length clocks ≡ length seats → IsAlone (q + t) clocks p → OthersIdle (lazy core q (q + t)) (lazy_seats (q + t) seats clocks) p
others_idle core q t seats clocks p long alone = λ r z apart at.
    let w = lazy_from (q + t) seats clocks r z long at in
    subst (λ v. Idle (lazy core q (q + t)) v v) w.is (begin_none core q t w.seat w.clock (alone.others r w.clock apart w.clock_at))

pub timers_set : {C : Type 0} (now e : ℕ) (xs : List (Seat C)) (ws : List Timers) (p : ℕ) (y : Seat C) (v : Timers) → lazy_seats now (set xs p y) (clocks_of e (set ws p v)) ≡ set (lazy_seats now xs (clocks_of e ws)) p (lazy_seat now y (clock_of e v))
timers_set now e xs ws p y v = ap (lazy_seats now (set xs p y)) (map-set (clock_of e) ws p v) ∙ lazy_set now xs (clocks_of e ws) p y (clock_of e v)
