-- The senders decide at a moment, and are passed a stretch of bit times.
use Rattle.std.proofs.Common.{◌≡◌, ℕ, suc, ◌+◌, ◌-◌, ◌^◌, ◌<◌, ◌≤◌, Bool, List, [], ◌∷◌, ◌++◌, length, map, replicate}
use Rattle.std.proofs.Common.{arith, sym, refl, ap, ◌∙◌, subst}
use Rattle.std.specs.List.{list_any}
use Rattle.std.proofs.lemmas.Option.{slice_get_within}
use Rattle.bus_timers.specs.declared.cores.Core.{Ghosts}
use Rattle.bus_strings.specs.Messages.{Entry}
use Rattle.bus_strings.specs.Transmissions.{carrier}
use Rattle.bus_strings.proofs.ListLaws.{some_at}
use Rattle.bus_table.specs.Tables.{Hand}
use Rattle.bus_medium.specs.Terminals.{Terminal}
use Rattle.bus_medium.specs.Past.{past}
use Rattle.bus_medium.specs.Lawful.{IsLawfulTo}
use Rattle.bus_medium.specs.Buses.{Seat, station_of, number_of}
use Rattle.bus_medium.specs.inside.Following.{AllHaveRoom}
use Rattle.bus_medium.specs.Jumps.{Each}
use Rattle.bus_medium.specs.inside.Lasting.{PassedMany}
use Rattle.bus_medium.specs.inside.Runs.{Decided, Reached, seat_sounds}
use Rattle.bus_medium.proofs.Carrier.{carrier_is}
use Rattle.bus_medium.proofs.Jumping.{past_steady, all_later}

-- a sender that is passed bit times stays the same sender
passed_station : {C : Type 0} (core : Ghosts C) (c : Bool) (n : ℕ) (x y : Seat C) → PassedMany core c n x y → station_of y ≡ station_of x
passed_station {C} core c n x y p =
    let hands : y.terminal.hand ≡ x.terminal.hand = ap (λ (w : Terminal C). w.hand) p.terminal in
    ap (λ (h : Hand). record { number = h.terminal; timing = y.timing; hand = h.messages }) hands
    ∙ ap (λ w. record { number = number_of x; timing = w; hand = x.terminal.hand.messages }) p.timing

pub each_rest : {X : Type 0} (R : X → X → Type 0) (x y : X) (xs ys : List X) → Each R (x ∷ xs) (y ∷ ys) → Each R xs ys
each_rest R x y xs ys p = record {
  same_length = let k : suc (length ys) ≡ suc (length xs) = p.same_length in omega arith;
  each = λ j a b a_at b_at. p.each (suc j) a b a_at b_at;
}

pub passed_stations : {C : Type 0} (core : Ghosts C) (c : Bool) (n : ℕ) (xs ys : List (Seat C)) → Each (PassedMany core c n) xs ys → map station_of ys ≡ map station_of xs
passed_stations core c n [] [] p = refl
passed_stations core c n [] (y ∷ ys) p = let k : suc (length ys) ≡ 0 = p.same_length in absurd (omega arith)
passed_stations core c n (x ∷ xs) [] p = let k : 0 ≡ suc (length xs) = p.same_length in absurd (omega arith)
passed_stations core c n (x ∷ xs) (y ∷ ys) p =
    ap (λ s. s ∷ map station_of ys) (passed_station core c n x y (p.each 0 x y refl refl))
    ∙ ap (λ ss. station_of x ∷ ss) (passed_stations core c n xs ys (each_rest (PassedMany core c n) x y xs ys p))

-- n bit times take n of the room at most
passed_room : {C : Type 0} (core : Ghosts C) (c : Bool) (n t : ℕ) (ys zs : List (Seat C)) → AllHaveRoom core ys (2 ^ 62 - t) → Each (PassedMany core c n) ys zs → AllHaveRoom core zs (2 ^ 62 - (t + n))
passed_room core c n t ys zs room p j z z_at =
    let within : j < length zs = slice_get_within zs j z z_at in
    let len : length zs ≡ length ys = p.same_length in
    let y = some_at ys j (omega arith) in
    let before : 2 ^ 62 - t ≤ core.room y.0.terminal.core = room j y.0 y.1 in
    let taken : core.room y.0.terminal.core ≤ core.room z.terminal.core + n = (p.each j y.0 z y.1 z_at).room in
    omega arith

-- behind the bit times that they were passed, for which the list is lawful and the past is known
passed_reached : {C : Type 0} (core : Ghosts C) (quiet t n : ℕ) (c : Bool) (xs ys zs : List (Seat C)) (l m : List Entry) → Decided core quiet t xs ys l m → 1 ≤ n
    → IsLawfulTo quiet (map station_of ys) (t + n) 0 m → past quiet m (t + n) ≡ past quiet m t ++ replicate n c → Each (PassedMany core c n) ys zs → Reached core quiet (t + n) xs zs m
passed_reached core quiet t n c xs ys zs l m d some law pasts p =
    let same : map station_of zs ≡ map station_of ys = passed_stations core c n ys zs p in
    record {
      stations = same ∙ d.stations;
      to = record {
        lawful = subst (λ ss. IsLawfulTo quiet ss (t + n) 0 m) (sym same) law;
        follow = all_later core quiet t n c ys zs m some p d.lawful d.follow pasts;
        room = passed_room core c n t ys zs d.room p;
      };
    }

-- one bit time
pub bit_reached : {C : Type 0} (core : Ghosts C) (quiet t : ℕ) (c : Bool) (xs ys zs : List (Seat C)) (l m : List Entry) → Decided core quiet t xs ys l m → c ≡ list_any seat_sounds ys
    → Each (PassedMany core c 1) ys zs → Reached core quiet (t + 1) xs zs m
bit_reached core quiet t c xs ys zs l m d heard p =
    let sounds : carrier m t ≡ c = carrier_is core quiet t ys m d.lawful d.follow ∙ sym heard in
    passed_reached core quiet t 1 c xs ys zs l m d (omega arith) d.lawful
    (past_steady quiet m t c 1 (λ k below. ap (carrier m) (let e : t + k ≡ t = omega arith in e) ∙ sounds)) p
