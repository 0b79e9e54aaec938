-- Senders and their clocks, one after another.
use Rattle.std.proofs.Common.{◌≡◌, ℕ, zero, suc, ◌<◌, List, [], ◌∷◌, length, set, map, Some, None, arith, sym, refl, ap, ◌∙◌}
use Rattle.std.specs.Prelude.{slice_get}
use Rattle.std.proofs.lemmas.Option.{slice_get_within}
use Rattle.bus_strings.proofs.ListLaws.{some_at}
use Rattle.bus_medium.specs.Buses.{Seat, station_of, number_of}
use Rattle.bus_medium.specs.inside.Lazy.{Clock, Clocked, lazy_seat, lazy_seats}
use Rattle.bus_medium.proofs.Seats.{same_some}

pub lazy_length : {C : Type 0} (now : ℕ) (xs : List (Seat C)) (ks : List Clock) → length ks ≡ length xs → length (lazy_seats now xs ks) ≡ length xs
lazy_length now [] ks e = refl
lazy_length now (x ∷ xs) [] e = let h : 0 ≡ suc (length xs) = e in absurd (omega arith)
lazy_length now (x ∷ xs) (k ∷ ks) e =
    let h : suc (length ks) ≡ suc (length xs) = e in
    ap suc (lazy_length now xs ks (omega arith))

-- what the rules read of them is what they read of the senders
pub lazy_stations : {C : Type 0} (now : ℕ) (xs : List (Seat C)) (ks : List Clock) → length ks ≡ length xs → map station_of (lazy_seats now xs ks) ≡ map station_of xs
lazy_stations now [] ks e = refl
lazy_stations now (x ∷ xs) [] e = let h : 0 ≡ suc (length xs) = e in absurd (omega arith)
lazy_stations now (x ∷ xs) (k ∷ ks) e =
    let h : suc (length ks) ≡ suc (length xs) = e in
    ap (λ ss. station_of x ∷ ss) (lazy_stations now xs ks (omega arith))

pub lazy_numbers : {C : Type 0} (now : ℕ) (xs : List (Seat C)) (ks : List Clock) → length ks ≡ length xs → map number_of (lazy_seats now xs ks) ≡ map number_of xs
lazy_numbers now [] ks e = refl
lazy_numbers now (x ∷ xs) [] e = let h : 0 ≡ suc (length xs) = e in absurd (omega arith)
lazy_numbers now (x ∷ xs) (k ∷ ks) e =
    let h : suc (length ks) ≡ suc (length xs) = e in
    ap (λ ss. number_of x ∷ ss) (lazy_numbers now xs ks (omega arith))

pub lazy_at : {C : Type 0} (now : ℕ) (xs : List (Seat C)) (ks : List Clock) (j : ℕ) (x : Seat C) (k : Clock) → slice_get xs j ≡ Some x → slice_get ks j ≡ Some k
    → slice_get (lazy_seats now xs ks) j ≡ Some (lazy_seat now x k)
lazy_at now [] ks j x k a b = absurd (let h : None ≡ Some x = a in cc)
lazy_at now (y ∷ ys) [] j x k a b = absurd (let h : None ≡ Some k = b in cc)
lazy_at now (y ∷ ys) (c ∷ cs) zero x k a b =
    let same : y ≡ x = cc in
    let same_clock : c ≡ k = cc in
    ap Some (ap (λ w. lazy_seat now w c) same ∙ ap (λ w. lazy_seat now x w) same_clock)
lazy_at now (y ∷ ys) (c ∷ cs) (suc j) x k a b = lazy_at now ys cs j x k a b

-- the sender and the clock at a place
pub record LazyPlace {C : Type 0} (now : ℕ) (xs : List (Seat C)) (ks : List Clock) (j : ℕ) (y : Seat (Clocked C)) : Type 0 where
  pub seat : Seat C
  pub clock : Clock
  pub seat_at : slice_get xs j ≡ Some seat
  pub clock_at : slice_get ks j ≡ Some clock
  pub is : lazy_seat now seat clock ≡ y

pub lazy_from : {C : Type 0} (now : ℕ) (xs : List (Seat C)) (ks : List Clock) (j : ℕ) (y : Seat (Clocked C)) → length ks ≡ length xs → slice_get (lazy_seats now xs ks) j ≡ Some y → LazyPlace now xs ks j y
lazy_from now xs ks j y e at =
    let len : length (lazy_seats now xs ks) ≡ length xs = lazy_length now xs ks e in
    let within : j < length (lazy_seats now xs ks) = slice_get_within (lazy_seats now xs ks) j y at in
    let x = some_at xs j (omega arith) in
    let k = some_at ks j (omega arith) in
    record {
      seat = x.0;
      clock = k.0;
      seat_at = x.1;
      clock_at = k.1;
      is = same_some (lazy_seat now x.0 k.0) y (sym (lazy_at now xs ks j x.0 k.0 x.1 k.1) ∙ at);
    }

pub lazy_set : {C : Type 0} (now : ℕ) (xs : List (Seat C)) (ks : List Clock) (p : ℕ) (y : Seat C) (k : Clock) → lazy_seats now (set xs p y) (set ks p k) ≡ set (lazy_seats now xs ks) p (lazy_seat now y k)
lazy_set now [] ks p y k = refl
lazy_set now (x ∷ xs) [] zero y k = refl
lazy_set now (x ∷ xs) [] (suc p) y k = refl
lazy_set now (x ∷ xs) (c ∷ cs) zero y k = refl
lazy_set now (x ∷ xs) (c ∷ cs) (suc p) y k = ap (λ w. lazy_seat now x c ∷ w) (lazy_set now xs cs p y k)
