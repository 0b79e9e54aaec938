-- The carrier of a bit time is what some sender has.
use Rattle.std.proofs.Common.{◌≡◌, ℕ, suc, ◌+◌, ◌≤◌, Bool, true, false, ◌||◌, List, [], ◌∷◌, map, Some, inl, inr, arith, sym, refl, ap, ◌∙◌}
use Rattle.std.specs.Prelude.{slice_get}
use Rattle.std.specs.List.{list_any}
use Rattle.std.proofs.lemmas.Bool.{true≢false}
use Rattle.bus_timers.specs.declared.cores.Core.{Ghosts}
use Rattle.bus_strings.specs.Members.{In}
use Rattle.bus_strings.specs.Messages.{Entry}
use Rattle.bus_strings.specs.Transmissions.{pulses, carrier}
use Rattle.bus_medium.specs.Past.{past}
use Rattle.bus_medium.specs.Lawful.{Station, IsLawfulTo}
use Rattle.bus_medium.specs.Buses.{Seat, station_of, number_of}
use Rattle.bus_medium.specs.inside.Runs.{seat_sounds}
use Rattle.bus_medium.specs.inside.Following.{AllFollow}
use Rattle.bus_medium.proofs.PastLaws.{same_bools, pulses_begun, in_own}
use Rattle.bus_medium.proofs.Following.{sounding_pulse, pulse_sounding}
use Rattle.bus_medium.proofs.Seats.{any_at, from_map}

pub record Found {X : Type 0} (p : X → Bool) (xs : List X) : Type 0 where
  pub element : X
  pub place : ℕ
  pub at : slice_get xs place ≡ Some element
  pub there : In element xs
  pub passes : p element ≡ true

pub from_any : {X : Type 0} (p : X → Bool) → (xs : List X) → list_any p xs ≡ true → Found p xs
from_any p [] h = absurd (true≢false (sym h))
from_any p (x ∷ xs) h =
    elim (p x) as (λ b. p x ≡ b → (b || list_any p xs) ≡ true → Found p (x ∷ xs)) [
      | true ↦ λ e k. record { element = x; place = 0; at = refl; there = inl refl; passes = e }
      | false ↦ λ e k. let f = from_any p xs k in record { element = f.element; place = suc f.place; at = f.at; there = inr f.there; passes = f.passes }
    ] refl h

-- the carrier is what some sender has
pub carrier_is : {C : Type 0} (core : Ghosts C) (quiet t : ℕ) (ys : List (Seat C)) (l : List Entry) → IsLawfulTo quiet (map station_of ys) (t + 1) 0 l → AllFollow core quiet ys l t (t + 1) → carrier l t ≡ list_any seat_sounds ys
carrier_is core quiet t ys l law f = same_bools (carrier l t) (list_any seat_sounds ys)
    (λ h.
    let x = from_any (pulses t) l h in
    let n = (law.sent x.element x.there).1 in
    let m = from_map station_of ys n.sender n.there in
    let y = m.element in
    let number : x.element.terminal ≡ number_of m.element = sym n.number ∙ ap (λ (s : Station). s.number) (sym m.same) in
    let begun : x.element.moment ≤ t = pulses_begun t x.element x.passes in
    any_at seat_sounds ys m.place m.element m.at
    (pulse_sounding quiet y.timing y.terminal.hand y.terminal.sent y.terminal.running (past quiet l t) l (number_of y) t x.element (f m.place m.element m.at) (in_own l (number_of m.element) (t + 1) x.element x.there number (omega arith)) x.passes))
    (λ h.
    let s = from_any seat_sounds ys h in
    let y = s.element in
    sounding_pulse quiet y.timing y.terminal.hand y.terminal.sent y.terminal.running (past quiet l t) l (number_of y) t (f s.place s.element s.at) s.passes)
