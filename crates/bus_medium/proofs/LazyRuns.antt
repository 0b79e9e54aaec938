-- A run by starts, from the settled start to the horizon.
use Rattle.std.proofs.Common.{◌≡◌, ℕ, suc, ◌+◌, ◌-◌, ◌*◌, ◌^◌, ◌<◌, ◌≤◌, ◌∷◌, [], Bool, true, false, ◌&&◌, eqb, ltb, cond, min, List, length, map, filter, replicate, Some, None, inl, inr, arith, sym, refl, ap, ◌∙◌, subst}
use Rattle.std.specs.Prelude.{slice_get}
use Rattle.std.specs.List.{sum_by}
use Rattle.std.specs.Option.{option_and_then}
use Rattle.std.proofs.lemmas.List.{take_all, length-replicate}
use Rattle.std.proofs.lemmas.List.Sums.{sum_by-cons}
use Rattle.std.proofs.lemmas.Option.{slice_get_within}
use Rattle.bus_timers.specs.declared.cores.Core.{Ghosts}
use Rattle.bus_timers.specs.GapPlace.{GapFrom}
use Rattle.bus_timers.proofs.TimingLaws.{sound_sg}
use Rattle.bus_strings.specs.Members.{In}
use Rattle.bus_strings.specs.Messages.{Entry}
use Rattle.bus_strings.specs.Transmissions.{carrier, end_of}
use Rattle.bus_strings.proofs.MemberLaws.{at_in, in_at}
use Rattle.bus_strings.proofs.ListLaws.{some_at}
use Rattle.bus_medium.specs.Terminals.{Terminal, last_begun}
use Rattle.bus_medium.specs.MessageStretches.{later_place, with_passed_many}
use Rattle.bus_medium.specs.Past.{past, own, last_place}
use Rattle.bus_medium.specs.BusyLaws.{IsBusy}
use Rattle.bus_medium.specs.Lawful.{HaveOwnNumbers, IsLawful, IsLawfulTo}
use Rattle.bus_medium.specs.Buses.{Seat, station_of, number_of, SeatStands, StandsAt}
use Rattle.bus_medium.specs.Edges.{strings_sent}
use Rattle.bus_medium.specs.Jumps.{Each, Moved}
use Rattle.bus_medium.specs.inside.Following.{FollowsAt}
use Rattle.bus_medium.specs.inside.Runs.{Decided}
use Rattle.bus_medium.specs.inside.Lazy.{Clock, Clocked, StandsLazily, lazy, lazy_seat, lazy_seats, IsSettled, AreSettled, RestsAt}
use Rattle.bus_medium.specs.inside.Lazy.{NextPlace, EndsAt, IsTold, AreTold, MovedBySent, clock_after, HaveEnded}
use Rattle.bus_medium.proofs.Steps.{lawful_none, lawful_whole, lawful_once}
use Rattle.bus_medium.proofs.Following.{running_is}
use Rattle.bus_medium.proofs.LazySeats.{lazy_at, lazy_from, lazy_stations}
use Rattle.bus_medium.proofs.LazyDecide.{moved_none, moved_more}
use Rattle.bus_medium.proofs.LazySteps.{rests_ended, rests_idle, starts_busy, busy_rests}
use Rattle.bus_medium.proofs.Waking.{woken_quiet}

settled_stands : {C : Type 0} (core : Ghosts C) (q : ℕ) (x : Seat C) (k : Clock) → SeatStands core q x [] 0 → IsSettled q x k → StandsLazily core q (q + 0) (record { seat = x; clock = k }) x.timing (replicate q false) None
settled_stands core q x k s i =
    let told : k.told ≡ q = i.told in
    record {
      sound = s.sound;
      same = refl;
      at = length-replicate q false ∙ (let e : q ≡ q + 0 = omega arith in e);
      sg = i.sg;
      tg = i.tg;
      gap = subst (λ g. GapFrom x.timing.sg (replicate q false) None g) (sym i.gap) (woken_quiet x.timing.sg q (sound_sg x.timing s.sound));
      due = i.due;
      ready = i.ready;
      from = omega arith;
      told = omega arith;
      stands = subst (λ p. core.stands x.terminal.core x.timing p None) (sym (take_all k.told (replicate q false) (omega (arith, length-replicate q false)))) s.stands;
      room = let r : 2 ^ 62 ≤ core.room x.terminal.core + 0 = s.room in omega arith;
    }

pub settled_rests : {C : Type 0} (core : Ghosts C) (q h : ℕ) (xs : List (Seat C)) (ks : List Clock) → StandsAt core (record { quiet = q; seats = xs }) [] 0 → AreSettled q xs ks → RestsAt core q h xs ks [] 0
settled_rests {C} core q h xs ks s a = record {
  same_length = a.same_length;
  to = record {
    lawful = lawful_none q (map station_of (lazy_seats (q + 0) xs ks));
    follow = λ j y at.
        let w = lazy_from (q + 0) xs ks j y a.same_length at in
        let x = s w.seat (at_in xs j w.seat w.seat_at) in
        let none : w.seat.terminal.running ≡ None = x.running in
        let still : (lazy_seat (q + 0) w.seat w.clock).terminal.running ≡ None =
        ap (option_and_then (later_place (last_begun w.seat.terminal.hand w.seat.terminal.sent) (q + 0 - w.clock.told))) none in
        let made : FollowsAt (lazy core q (q + 0)) q (lazy_seat (q + 0) w.seat w.clock) [] 0 0 = record {
          sound = x.sound;
          core = settled_stands core q w.seat w.clock x (a.each j w.seat w.clock w.seat_at w.clock_at);
          count = x.sent;
          idle = λ e y i. absurd i;
          running = λ d e. absurd (let both : None ≡ Some d = sym still ∙ e in cc);
        } in
        subst (λ z. FollowsAt (lazy core q (q + 0)) q z [] 0 0) w.is made;
    room = λ j y at. let k : 2 ^ 62 - 0 ≤ 2 ^ 62 = omega arith in k;
  };
  ended = inl (λ x i. absurd i);
  some = λ x i. absurd i;
  within = omega arith;
}

-- where nobody starts before the horizon
pub rests_whole : {C : Type 0} (core : Ghosts C) (q h t s : ℕ) (seats : List (Seat C)) (clocks : List Clock) (l : List Entry) → RestsAt core q h seats clocks l t → t < h → NextPlace (q + t) (q + h) clocks (q + s) → s ≡ h
    → RestsAt core q h seats clocks l h
rests_whole core q h t s seats clocks l r below next e = subst (λ v. RestsAt core q h seats clocks l v) e (record {
  same_length = r.same_length;
  to = rests_idle core q h t s seats clocks l r below next;
  ended = inr e;
  some = r.some;
  within = omega arith;
})

rests_longer : {C : Type 0} (core : Ghosts C) (q h t s : ℕ) (seats : List (Seat C)) (clocks : List Clock) (l : List Entry) → RestsAt core q h seats clocks l t → t < h → NextPlace (q + t) (q + h) clocks (q + s) → HaveEnded l s
rests_longer core q h t s seats clocks l r below next = λ x i.
    let low : q + t ≤ q + s = next.low in
    let e : end_of x ≤ t = rests_ended core q h t seats clocks l r below x i in
    omega arith

-- the senders that are due have started
pub turn_busy : {C : Type 0} (core : Ghosts C) (q h t s e : ℕ) (seats : List (Seat C)) (clocks : List Clock) (ys : List (Seat (Clocked C))) (l m : List Entry) → RestsAt core q h seats clocks l t → t < h → NextPlace (q + t) (q + h) clocks (q + s)
    → s < h → q + s < 2 ^ 62 → Decided (lazy core q (q + s)) q s (lazy_seats (q + s) seats clocks) ys l m → EndsAt s l m e → IsBusy m s e
turn_busy core q h t s e seats clocks ys l m r below next before small d ends =
    starts_busy core q h t s e seats clocks ys l m r.same_length (rests_idle core q h t s seats clocks l r below next) next before small d ends (rests_longer core q h t s seats clocks l r below next) r.some

pub turn_rests : {C : Type 0} (core : Ghosts C) (q h t s e b r : ℕ) (seats ys : List (Seat C)) (clocks cs after : List Clock) (l m : List Entry) → RestsAt core q h seats clocks l t → t < h → NextPlace (q + t) (q + h) clocks (q + s)
    → s < h → q + s < 2 ^ 62 → length cs ≡ length ys → Decided (lazy core q (q + s)) q s (lazy_seats (q + s) seats clocks) (lazy_seats (q + s) ys cs) l m → EndsAt s l m e
    → Each (λ k c. c ≡ clock_after (q + s) (q + b) k) cs after → IsBusy m s b → r ≡ min e h → b ≤ r → ((u : ℕ) → b ≤ u → u < r → carrier m u ≡ false) → RestsAt core q h ys after m r
turn_rests core q h t s e b r seats ys clocks cs after l m rests below next before small long d ends clocks_after part r_is order quiet =
    busy_rests core q h s e b r ys cs after (lazy_seats (q + s) seats clocks) l m long clocks_after d ends (rests_longer core q h t s seats clocks l rests below next) rests.some
    (turn_busy core q h t s e seats clocks (lazy_seats (q + s) ys cs) l m rests below next before small d ends) part before r_is order quiet

-- the run so far
pub record RunSoFar {C : Type 0} (core : Ghosts C) (q h : ℕ) (xs ys : List (Seat C)) (ks : List Clock) (l : List Entry) (t : ℕ) : Type 0 where
  pub rests : RestsAt core q h ys ks l t
  pub stations : map station_of ys ≡ map station_of xs
  pub moved : MovedBySent core xs ys

pub run_none : {C : Type 0} (core : Ghosts C) (q h : ℕ) (xs : List (Seat C)) (ks : List Clock) → StandsAt core (record { quiet = q; seats = xs }) [] 0 → AreSettled q xs ks → RunSoFar core q h xs xs ks [] 0
run_none core q h xs ks s a = record { rests = settled_rests core q h xs ks s a; stations = refl; moved = moved_none core xs }

pub run_more : {C : Type 0} (core : Ghosts C) (q h : ℕ) (xs ys zs : List (Seat C)) (ks cs : List Clock) (l m : List Entry) (t r : ℕ) → RunSoFar core q h xs ys ks l t → map station_of zs ≡ map station_of ys → RestsAt core q h zs cs m r
    → MovedBySent core ys zs → RunSoFar core q h xs zs cs m r
run_more core q h xs ys zs ks cs l m t r so same rests moved = record { rests = rests; stations = same ∙ so.stations; moved = moved_more core xs ys zs so.moved moved }

pub run_lawful : {C : Type 0} (core : Ghosts C) (q h : ℕ) (xs ys : List (Seat C)) (ks : List Clock) (l : List Entry) (t : ℕ) → RunSoFar core q h xs ys ks l t → t ≡ h → IsLawful q (map station_of xs) h l
run_lawful core q h xs ys ks l t so e =
    lawful_whole q (map station_of xs) h l (subst (λ u. IsLawfulTo q (map station_of xs) u 0 l) e
    (subst (λ ss. IsLawfulTo q ss t 0 l) (lazy_stations (q + t) ys ks so.rests.same_length ∙ so.stations) so.rests.to.lawful))

pub run_only : {C : Type 0} (core : Ghosts C) (q h : ℕ) (xs ys : List (Seat C)) (ks : List Clock) (l : List Entry) (t : ℕ) → HaveOwnNumbers (map station_of xs) → RunSoFar core q h xs ys ks l t → t ≡ h
    → (other : List Entry) → IsLawful q (map station_of xs) h other → other ≡ l
run_only core q h xs ys ks l t own_n so e other law = lawful_once q (map station_of xs) h other l own_n law (run_lawful core q h xs ys ks l t so e)

-- the senders that were told stay the same
pub map_each : {X Y : Type 0} (f : X → Y) (xs ys : List X) → length ys ≡ length xs → ((j : ℕ) (x y : X) → slice_get xs j ≡ Some x → slice_get ys j ≡ Some y → f y ≡ f x) → map f ys ≡ map f xs
map_each f [] [] e h = refl
map_each f [] (y ∷ ys) e h = let k : suc (length ys) ≡ 0 = e in absurd (omega arith)
map_each f (x ∷ xs) [] e h = let k : 0 ≡ suc (length xs) = e in absurd (omega arith)
map_each f (x ∷ xs) (y ∷ ys) e h =
    let k : suc (length ys) ≡ suc (length xs) = e in
    ap (λ w. w ∷ map f ys) (h 0 x y refl refl) ∙ ap (λ ws. f x ∷ ws) (map_each f xs ys (omega arith) (λ j a b a_at b_at. h (suc j) a b a_at b_at))

told_seat : {C : Type 0} (core : Ghosts C) (q now : ℕ) (k : Clock) (x y : Seat C) → IsTold core q now k x y → record { timing = x.timing; terminal = with_passed_many x.terminal (now - k.told) y.terminal.core } ≡ y
told_seat {C} core q now k x y told =
    sym (ap (λ (w : Terminal C). record { timing = y.timing; terminal = w }) told.terminal ∙ ap (λ w. record { timing = w; terminal = with_passed_many x.terminal (now - k.told) y.terminal.core }) told.timing)

pub run_keeps : {C : Type 0} (core : Ghosts C) (q now : ℕ) (ks : List Clock) (ys zs : List (Seat C)) → length ks ≡ length ys → AreTold core q now ks ys zs → map station_of zs ≡ map station_of ys
run_keeps core q now ks ys zs long told = map_each station_of ys zs told.same_length (λ j y z y_at z_at.
    let within : j < length ys = slice_get_within ys j y y_at in
    let k = some_at ks j (omega arith) in
    ap station_of (sym (told_seat core q now k.0 y z (told.each j y z k.0 y_at z_at k.1))))

-- the sender at a place, its clock, and what it was before it was told
pub record ToldPlace {C : Type 0} (core : Ghosts C) (q h : ℕ) (l : List Entry) (ys : List (Seat C)) (j : ℕ) (z : Seat C) : Type 0 where
  pub seat : Seat C
  pub clock : Clock
  pub at : slice_get ys j ≡ Some seat
  pub told : IsTold core q (q + h) clock seat z
  pub follow : FollowsAt (lazy core q (q + h)) q (lazy_seat (q + h) seat clock) l h h

told_place : {C : Type 0} (core : Ghosts C) (q h : ℕ) (ys zs : List (Seat C)) (ks : List Clock) (l : List Entry) (j : ℕ) (z : Seat C) → RestsAt core q h ys ks l h → AreTold core q (q + h) ks ys zs → slice_get zs j ≡ Some z → ToldPlace core q h l ys j z
told_place core q h ys zs ks l j z rests told z_at =
    let within : j < length zs = slice_get_within zs j z z_at in
    let long : length zs ≡ length ys = told.same_length in
    let longs : length ks ≡ length ys = rests.same_length in
    let y = some_at ys j (omega arith) in
    let k = some_at ks j (omega arith) in
    record {
      seat = y.0;
      clock = k.0;
      at = y.1;
      told = told.each j y.0 z k.0 y.1 z_at k.1;
      follow = rests.to.follow j (lazy_seat (q + h) y.0 k.0) (lazy_at (q + h) ys ks j y.0 k.0 y.1 k.1);
    }

pub run_stands : {C : Type 0} (core : Ghosts C) (q h : ℕ) (xs ys zs : List (Seat C)) (ks : List Clock) (l : List Entry) (t : ℕ) → RunSoFar core q h xs ys ks l t → t ≡ h → AreTold core q (q + h) ks ys zs
    → StandsAt core (record { quiet = q; seats = zs }) l h
run_stands {C} core q h xs ys zs ks l t so e told = λ z there.
    let rests : RestsAt core q h ys ks l h = subst (λ v. RestsAt core q h ys ks l v) e so.rests in
    let p = in_at zs z there in
    let w = told_place core q h ys zs ks l p.0 z rests told p.1 in
    let f = w.follow in
    let made : SeatStands core q (record { timing = w.seat.timing; terminal = with_passed_many w.seat.terminal (q + h - w.clock.told) z.terminal.core }) l h = record {
      sound = f.sound;
      stands = w.told.stands w.seat.timing (past q l h) (last_place q (own l (number_of w.seat) h)) f.core;
      room = let r : 2 ^ 62 + q ≤ core.room z.terminal.core + (q + h) = w.told.room in omega arith;
      sent = f.count;
      running = running_is q w.seat.timing w.seat.terminal.hand w.seat.terminal.sent (lazy_seat (q + h) w.seat w.clock).terminal.running (past q l h) (own l (number_of w.seat) h) h f;
    } in
    subst (λ v. SeatStands core q v l h) (told_seat core q (q + h) w.clock w.seat z w.told) made

-- no more starts than wordstrings
filter_few : (p : Entry → Bool) (l : List Entry) → ((x : Entry) → In x l → 0 < length x.message) → length (filter p l) ≤ sum_by (λ (x : Entry). length x.message) l
filter_few p [] some = omega arith
filter_few p (y ∷ l) some =
    let b : sum_by (λ (x : Entry). length x.message) (y ∷ l) ≡ length y.message + sum_by (λ (x : Entry). length x.message) l = sum_by-cons (λ (x : Entry). length x.message) y l in
    let rest : length (filter p l) ≤ sum_by (λ (x : Entry). length x.message) l = filter_few p l (λ x i. some x (inr i)) in
    let one : 0 < length y.message = some y (inl refl) in
    elim (p y) as (λ v. length (cond v (y ∷ filter p l) (filter p l)) ≤ sum_by (λ (x : Entry). length x.message) (y ∷ l)) [
      | true ↦ (let k : suc (length (filter p l)) ≤ sum_by (λ (x : Entry). length x.message) (y ∷ l) = omega arith in k)
      | false ↦ (let k : length (filter p l) ≤ sum_by (λ (x : Entry). length x.message) (y ∷ l) = omega arith in k)
    ]

own_few : (l : List Entry) (n t : ℕ) → ((x : Entry) → In x l → 0 < length x.message) → length (own l n t) ≤ strings_sent l
unfolding strings_sent
own_few l n t some = filter_few (λ x. eqb x.terminal n && ltb x.moment t) l some

pub run_moved : {C : Type 0} (core : Ghosts C) (q h : ℕ) (xs ys zs : List (Seat C)) (ks : List Clock) (l : List Entry) (t : ℕ) → StandsAt core (record { quiet = q; seats = xs }) [] 0 → RunSoFar core q h xs ys ks l t → t ≡ h
    → AreTold core q (q + h) ks ys zs → Moved core (2 * strings_sent l + 1) xs zs
run_moved {C} core q h xs ys zs ks l t s so e told =
    let rests : RestsAt core q h ys ks l h = subst (λ v. RestsAt core q h ys ks l v) e so.rests in
    record {
      same_length = told.same_length ∙ so.moved.same_length;
      each = λ j x z x_at z_at.
          let w = told_place core q h ys zs ks l j z rests told z_at in
          let none : x.terminal.sent ≡ 0 = (s x (at_in xs j x x_at)).sent in
          let count : w.seat.terminal.sent ≡ length (own l (number_of w.seat) h) = w.follow.count in
          let few : length (own l (number_of w.seat) h) ≤ strings_sent l = own_few l (number_of w.seat) h rests.some in
          let before : core.moves w.seat.terminal.core + x.terminal.sent ≤ core.moves x.terminal.core + w.seat.terminal.sent = so.moved.each j x w.seat x_at w.at in
          let last : core.moves z.terminal.core ≤ core.moves w.seat.terminal.core + 1 = w.told.moves in
          omega arith;
    }
