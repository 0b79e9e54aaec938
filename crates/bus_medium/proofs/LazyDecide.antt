-- The senders start, one after another.
use Rattle.std.proofs.Common.{◌≡◌, ℕ, ◌+◌, ◌<◌, ◌≤◌, ◌++◌, ◌∷◌, [], max, List, length, set, get_or, map, Option, Some, None, inl, inr, arith, sym, refl, ap, ◌∙◌, subst}
use Rattle.std.specs.Prelude.{slice_get}
use Rattle.std.specs.Option.{MatchOption}
use Rattle.std.proofs.lemmas.Bool.{cases_lt, cases_eq}
use Rattle.std.proofs.lemmas.List.{length-set}
use Rattle.std.proofs.lemmas.Option.{slice_get_within}
use Rattle.bus_timers.specs.declared.cores.Core.{Ghosts}
use Rattle.bus_strings.specs.Messages.{Entry}
use Rattle.bus_strings.specs.Transmissions.{end_of}
use Rattle.bus_strings.proofs.MemberLaws.{in_append_left, in_push, in_push_cases}
use Rattle.bus_strings.proofs.ListLaws.{some_at}
use Rattle.bus_medium.specs.Past.{past, own, last_place}
use Rattle.bus_medium.specs.Buses.{Seat, station_of, number_of}
use Rattle.bus_medium.specs.inside.Following.{FollowsAt, Idle, Started}
use Rattle.bus_medium.specs.inside.Lazy.{Clock, Clocked, lazy, lazy_seat, lazy_seats, Sits, AllSit, MovesOnce, MovedBySent, EndsAt, RestsAt}
use Rattle.bus_medium.proofs.Following.{due_is_free}
use Rattle.bus_medium.proofs.DecideLemmas.{DecidedPlaces, number_kept}
use Rattle.bus_medium.proofs.Seats.{get_set_same, get_set_other, same_some}
use Rattle.bus_medium.proofs.LazySeats.{lazy_at, lazy_stations}

-- a sender that follows the list sits
pub follows_sits : {C : Type 0} (core : Ghosts C) (q t cut : ℕ) (x : Seat C) (k : Clock) (l : List Entry) → cut ≡ t → FollowsAt (lazy core q (q + t)) q (lazy_seat (q + t) x k) l t cut → Sits core q (q + t) x k
follows_sits {C} core q t cut x k l e f =
    let y : Seat (Clocked C) = lazy_seat (q + t) x k in
    let g : FollowsAt (lazy core q (q + t)) q (lazy_seat (q + t) x k) l t t = subst (λ c. FollowsAt (lazy core q (q + t)) q (lazy_seat (q + t) x k) l t c) e f in
    record {
      past = past q l t;
      last = last_place q (own l (number_of x) t);
      stands = g.core;
      free = λ may. due_is_free q x.timing x.terminal.hand x.terminal.sent (lazy_seat (q + t) x k).terminal.running (number_of x) t l g may;
    }

pub all_sit : {C : Type 0} (core : Ghosts C) (q h t : ℕ) (seats : List (Seat C)) (clocks : List Clock) (l : List Entry) → RestsAt core q h seats clocks l t → AllSit core q (q + t) seats clocks
all_sit core q h t seats clocks l r j x k x_at k_at =
    follows_sits core q t t x k l refl (r.to.follow j (lazy_seat (q + t) x k) (lazy_at (q + t) seats clocks j x k x_at k_at))

-- the sender that decides next has not decided
pub next_sits : {C : Type 0} (core : Ghosts C) (q t : ℕ) (xs : List (Seat (Clocked C))) (seats : List (Seat C)) (clocks : List Clock) (l : List Entry) (places : List ℕ) (i p : ℕ) (x : Seat C) (k : Clock)
    → DecidedPlaces (lazy core q (q + t)) q t xs (lazy_seats (q + t) seats clocks) l places i → slice_get places i ≡ Some p → slice_get seats p ≡ Some x → slice_get clocks p ≡ Some k → Sits core q (q + t) x k
next_sits core q t xs seats clocks l places i p x k d place x_at k_at =
    let at = lazy_at (q + t) seats clocks p x k x_at k_at in
    let number : get_or (map number_of xs) p 0 ≡ number_of x = number_kept xs (lazy_seats (q + t) seats clocks) p (lazy_seat (q + t) x k) d.so.stations at in
    let low : d.upto ≤ get_or (map number_of xs) p 0 = d.ahead i p (omega arith) place in
    follows_sits core q t t x k l refl (d.so.rest p (lazy_seat (q + t) x k) at (omega arith))

-- the stations of the senders themselves
pub real_stations : {C : Type 0} (now now' : ℕ) (xs ys : List (Seat C)) (ks cs : List Clock) → length ks ≡ length xs → length cs ≡ length ys → map station_of (lazy_seats now ys cs) ≡ map station_of (lazy_seats now' xs ks)
    → map station_of ys ≡ map station_of xs
real_stations now now' xs ys ks cs a b e = sym (lazy_stations now ys cs b) ∙ e ∙ lazy_stations now' xs ks a

-- one more has moved
pub moved_none : {C : Type 0} (core : Ghosts C) (xs : List (Seat C)) → MovedBySent core xs xs
moved_none core xs = record {
  same_length = refl;
  each = λ j x y x_at y_at.
      let e : Some x ≡ Some y = sym x_at ∙ y_at in
      subst (λ w. MovesOnce core x w) (same_some x y e) (let k : core.moves x.terminal.core + x.terminal.sent ≤ core.moves x.terminal.core + x.terminal.sent = omega arith in k);
}

pub moved_set : {C : Type 0} (core : Ghosts C) (xs ys : List (Seat C)) (p : ℕ) (y z : Seat C) → MovedBySent core xs ys → slice_get ys p ≡ Some y → MovesOnce core y z → MovedBySent core xs (set ys p z)
moved_set core xs ys p y z m at one = record {
  same_length = length-set ys p z ∙ m.same_length;
  each = λ j a b a_at b_at. elim (cases_eq p j) [
    | inl here ↦
        let within : p < length ys = slice_get_within ys p y at in
        let b_is : b ≡ z = same_some b z (sym b_at ∙ ap (slice_get (set ys p z)) (sym here) ∙ get_set_same ys p z within) in
        let old : core.moves y.terminal.core + a.terminal.sent ≤ core.moves a.terminal.core + y.terminal.sent = m.each j a y a_at (ap (slice_get ys) (sym here) ∙ at) in
        let new : core.moves z.terminal.core + y.terminal.sent ≤ core.moves y.terminal.core + z.terminal.sent = one in
        subst (λ w. MovesOnce core a w) (sym b_is) (let k : core.moves z.terminal.core + a.terminal.sent ≤ core.moves a.terminal.core + z.terminal.sent = omega arith in k)
    | inr other ↦ m.each j a b a_at (sym (get_set_other ys p j z other) ∙ b_at)
  ];
}

pub moved_more : {C : Type 0} (core : Ghosts C) (xs ys zs : List (Seat C)) → MovedBySent core xs ys → MovedBySent core ys zs → MovedBySent core xs zs
moved_more core xs ys zs a b = record {
  same_length = b.same_length ∙ a.same_length;
  each = λ j x z x_at z_at.
      let within : j < length zs = slice_get_within zs j z z_at in
      let len : length zs ≡ length ys = b.same_length in
      let y = some_at ys j (omega arith) in
      let p : core.moves y.0.terminal.core + x.terminal.sent ≤ core.moves x.terminal.core + y.0.terminal.sent = a.each j x y.0 x_at y.1 in
      let q : core.moves z.terminal.core + y.0.terminal.sent ≤ core.moves y.0.terminal.core + z.terminal.sent = b.each j y.0 z y.1 z_at in
      let k : core.moves z.terminal.core + x.terminal.sent ≤ core.moves x.terminal.core + z.terminal.sent = omega arith in k;
}

-- the latest end so far
pub ends_none : (t : ℕ) (l : List Entry) → EndsAt t l l t
ends_none t l = record { from = omega arith; ended = λ h. h; last = inl refl }

pub ends_more : (t : ℕ) (l m n : List Entry) (e f : ℕ) (o : Option Entry) → EndsAt t l m e → MatchOption o (f ≡ e) (λ x. f ≡ max e (end_of x)) → MatchOption o (Unit {0}) (λ x. x.moment ≡ t) → MatchOption o (n ≡ m) (λ x. n ≡ m ++ x ∷ []) → EndsAt t l n f
ends_more t l m n e f None so later at is = subst (λ w. EndsAt t l w f) (sym is) (subst (EndsAt t l m) (sym later) so)
ends_more t l m n e f (Some x) so later at is =
    let from : t ≤ e = so.from in
    subst (λ w. EndsAt t l w f) (sym is) (record {
      from = omega arith;
      ended = λ h y i. elim (in_push_cases m x y i) [
        | inl old ↦ let k : end_of y ≤ e = so.ended h y old in omega arith
        | inr same ↦ let k : end_of y ≡ end_of x = ap end_of same in omega arith
      ];
      last = elim (cases_lt e (end_of x)) [
        | inl longer ↦ inr (x, in_push m x, at, let k : end_of x ≡ f = omega arith in k)
        | inr not ↦ elim so.last [
          | inl none ↦ inl (let k : f ≡ t = omega arith in k)
          | inr y ↦ let k : end_of y.0 ≡ e = y.3 in inr (y.0, in_append_left m (x ∷ []) y.0 y.1, y.2, let w : end_of y.0 ≡ f = omega arith in w)
        ]
      ];
    })

pub starts_now : {C : Type 0} (core : Ghosts C) (t : ℕ) (x y : Seat C) (o : Option Entry) → MatchOption o (Idle core x y) (λ e. Started core x y t e) → MatchOption o (Unit {0}) (λ e. e.moment ≡ t)
starts_now core t x y None h = tt
starts_now core t x y (Some e) h = h.moment
