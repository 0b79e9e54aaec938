-- Lanes and signals, one after another.
use Rattle.std.proofs.Common.{◌≡◌, ℕ, suc, ◌+◌, ◌<◌, Bool, true, false, not, cond, ◌&&◌, ◌||◌, List, [], ◌∷◌, ◌++◌, length, map, take, Some, None}
use Rattle.std.proofs.Common.{inl, inr, arith, sym, refl, ap, ◌∙◌, append_assoc}
use Rattle.std.specs.Prelude.{slice_get}
use Rattle.std.specs.List.{AllByRecursion, filter, find, flat_map, list_any, range_with_len}
use Rattle.std.specs.Option.{option_map_or}
use Rattle.std.proofs.lemmas.Bool.{cases_Bool, true≢false}
use Rattle.std.proofs.lemmas.List.{map_push, map-append, take_more}
use Rattle.std.proofs.lemmas.List.Concat.{flat_map-append}
use Rattle.std.proofs.lemmas.List.Elements.{filter-append}
use Rattle.std.proofs.lemmas.List.Folds.{list_any-append}
use Rattle.std.proofs.lemmas.Option.{slice_get_within, get_or_from_slice_get}
use Rattle.bus_strings.proofs.ListLaws.{range_push}
use Rattle.bus_dump.specs.declared.dump.Dump.{Dump}
use Rattle.bus_dump.specs.declared.dump.Dump.TheVariants.{Timers, Vcd, Wires}
use Rattle.bus_dump.specs.declared.lane.Lane.{Lane}
use Rattle.bus_dump.specs.DumpTexts.{changes, value_line}
use Rattle.bus_dump.specs.inside.Layouts.{IsStill, asked_dump}
use Rattle.bus_dump.specs.Scenes.{Scene}
use Rattle.bus_dump.specs.Seen.{Seen}
use Rattle.bus_dump.specs.Signals.{Signal, Pulse, Garbled, Label, Message, Interval, Synchronization, Gap, May, Bit, Number, Floating, value, is_same, is_of, is_on, elapsed, shown_label, has, lane_signals, signals_of}
use Rattle.bus_dump.specs.Timers.{Elapsed}
use Rattle.bus_dump.specs.inside.Walks.{change_put}
use Rattle.bus_dump.proofs.ChangeLemmas.{same_value}

-- one element more under a function
pub mapped_more : {X Y : Type 0} (f : X → Y) (xs : List X) (k : ℕ) (x : X) (y : Y) (ys ys' : List Y) → slice_get xs k ≡ Some x → y ≡ f x
    → ys ≡ map f (take k xs) → ys' ≡ ys ++ y ∷ [] → ys' ≡ map f (take (k + 1) xs)
mapped_more f xs k x y ys ys' at is old new =
    let within : k < length xs = slice_get_within xs k x at in
    new ∙ ap (λ l. l ++ y ∷ []) old ∙ ap (λ z. map f (take k xs) ++ z ∷ []) is
    ∙ sym (map_push f (take k xs) x)
    ∙ ap (map f) (sym (take_more xs k x within ∙ ap (λ z. take k xs ++ z ∷ []) (get_or_from_slice_get xs k x x at)))

-- one number more of a range that passes a test
pub stranger_more : {Y : Type 0} (f : ℕ → Y) (p : ℕ → Bool) (before n : ℕ) (front ns ns' : List Y) → n ≡ before + 1
    → ns ≡ front ++ map f (filter p (range_with_len 1 before)) → ns' ≡ ns ++ map f (filter p (n ∷ []))
    → ns' ≡ front ++ map f (filter p (range_with_len 1 (before + 1)))
stranger_more f p before n front ns ns' is old new =
    let one : before + 1 ≡ suc before = omega arith in
    let same : n ≡ 1 + before = omega arith in
    let rest = filter p (range_with_len 1 before) in
    new ∙ ap (λ l. l ++ map f (filter p (n ∷ []))) old ∙ append_assoc front (map f rest) (map f (filter p (n ∷ [])))
    ∙ ap (λ l. front ++ l) (ap (λ k. map f rest ++ map f (filter p (k ∷ []))) same
    ∙ sym (ap (λ k. map f (filter p (range_with_len 1 k))) one ∙ ap (λ l. map f (filter p l)) (range_push 1 before)
    ∙ ap (map f) (filter-append p (range_with_len 1 before) ((1 + before) ∷ [])) ∙ map-append f rest (filter p ((1 + before) ∷ []))))

-- what is put of each lane is what is put of all their signals
pub lanes_put : {X : Type 0} (f : Signal → List X) (of : Lane → List Signal) (bus : List Signal) (lanes : List Lane)
    → flat_map f bus ++ flat_map (λ lane. flat_map f (of lane)) lanes ≡ flat_map f (bus ++ flat_map of lanes)
lanes_put f of bus lanes = ap (λ l. flat_map f bus ++ l) (each lanes) ∙ sym (flat_map-append f bus (flat_map of lanes)) where
  each : (ls : List Lane) → flat_map (λ lane. flat_map f (of lane)) ls ≡ flat_map f (flat_map of ls)
  each [] = refl
  each (l ∷ ls) = ap (λ x. flat_map f (of l) ++ x) (each ls) ∙ sym (flat_map-append f (of l) (flat_map of ls))

pub all_by_lanes : {X : Type 0} (f : Signal → List X) (of : Lane → List Signal) (bus bus' : List Signal) (lanes lanes' : List Lane) → bus ≡ bus' → lanes ≡ lanes'
    → flat_map f bus ++ flat_map (λ lane. flat_map f (of lane)) lanes ≡ flat_map f (bus' ++ flat_map of lanes')
all_by_lanes f of bus bus' lanes lanes' e d =
    lanes_put f of bus lanes ∙ ap (λ b. flat_map f (b ++ flat_map of lanes)) e ∙ ap (λ l. flat_map f (bus' ++ flat_map of l)) d

pub put_by_lanes : {X : Type 0} (f : Signal → List X) (of : Lane → List Signal) (front : List X) (bus bus' : List Signal) (lanes lanes' : List Lane)
    → bus ≡ bus' → lanes ≡ lanes'
    → front ++ flat_map f bus ++ flat_map (λ lane. flat_map f (of lane)) lanes ≡ front ++ flat_map f (bus' ++ flat_map of lanes')
put_by_lanes f of front bus bus' lanes lanes' e d =
    append_assoc front (flat_map f bus) (flat_map (λ lane. flat_map f (of lane)) lanes) ∙ ap (λ l. front ++ l) (all_by_lanes f of bus bus' lanes lanes' e d)

pub lanes_any : (p : Signal → Bool) (of : Lane → List Signal) (bus : List Signal) (lanes : List Lane)
    → (list_any p bus || list_any (λ lane. list_any p (of lane)) lanes) ≡ list_any p (bus ++ flat_map of lanes)
lanes_any p of bus lanes = ap (λ b. list_any p bus || b) (each lanes) ∙ sym (list_any-append p bus (flat_map of lanes)) where
  each : (ls : List Lane) → list_any (λ lane. list_any p (of lane)) ls ≡ list_any p (flat_map of ls)
  each [] = refl
  each (l ∷ ls) = ap (λ b. list_any p (of l) || b) (each ls) ∙ sym (list_any-append p (of l) (flat_map of ls))

-- ---- a lane in which nothing changes
none_of : (n : ℕ) (q : Seen → Bool) (seen : List Seen) → list_any (is_of n) seen ≡ false → list_any (λ s. is_of n s && q s) seen ≡ false
none_of n q [] h = refl
none_of n q (s ∷ seen) h =
    let first = none_first (is_of n s) (list_any (is_of n) seen) h in
    rw (first.0) (none_of n q seen first.1)
  where
    none_first : (a b : Bool) → (a || b) ≡ false → (a ≡ false) × (b ≡ false)
    none_first true b e = absurd (true≢false e)
    none_first false b e = (refl, e)

pub found_none : {X : Type 0} (p : X → Bool) (xs : List X) → list_any p xs ≡ false → find p xs ≡ None
found_none p [] h = refl
found_none p (x ∷ xs) h = elim (cases_Bool (p x)) [
  | inl yes' ↦ absurd (true≢false (sym (ap (λ b. b || list_any p xs) yes') ∙ h))
  | inr no' ↦ ap (λ b. cond b (Some x) (find p xs)) no' ∙ found_none p xs (sym (ap (λ b. b || list_any p xs) no') ∙ h)
]

still_pulse : (n : ℕ) (before now : Scene) → IsStill before now n → value (Pulse n) before ≡ value (Pulse n) now
still_pulse n before now s = ap Bit (none_of n is_on before.seen s.was ∙ sym (none_of n is_on now.seen s.is))

still_garbled : (n : ℕ) (before now : Scene) → IsStill before now n → value (Garbled n) before ≡ value (Garbled n) now
still_garbled n before now s =
    ap Bit (none_of n (λ (x : Seen). x.garbled) before.seen s.was ∙ sym (none_of n (λ (x : Seen). x.garbled) now.seen s.is))

still_label : (n : ℕ) (before now : Scene) → IsStill before now n → value (Label n) before ≡ value (Label n) now
still_label n before now s =
    ap (λ o. option_map_or shown_label o Floating) (found_none (λ x. is_of n x && is_on x) before.seen (none_of n is_on before.seen s.was)
    ∙ sym (found_none (λ x. is_of n x && is_on x) now.seen (none_of n is_on now.seen s.is)))

still_message : (n : ℕ) (before now : Scene) → IsStill before now n → value (Message n) before ≡ value (Message n) now
still_message n before now s =
    ap (λ o. option_map_or (λ (x : Seen). Number x.number) o Floating) (found_none (is_of n) before.seen s.was ∙ sym (found_none (is_of n) now.seen s.is))

-- no signal of the lane changes
all_still : (n : ℕ) (before now : Scene) → IsStill before now n → AllByRecursion (λ signal. value signal before ≡ value signal now) (signals_of n)
all_still n before now s = (
  still_pulse n before now s,
  (
    still_garbled n before now s,
    (
      still_label n before now s,
      (
        still_message n before now s,
        (
          ap (λ (e : Elapsed). Bit e.interval) s.same,
          (
            ap (λ (e : Elapsed). Bit e.synchronization) s.same,
            (
              ap (λ (e : Elapsed). Bit e.gap) s.same,
              (
                ap (λ (e : Elapsed). Bit e.may) s.same,
                tt,
              ),
            ),
          ),
        ),
      ),
    ),
  ),
)

not_changed : (before now : Scene) (signal : Signal) → value signal before ≡ value signal now → changes before now signal ≡ false
not_changed before now signal e = ap (λ v. not (is_same (value signal before) v)) (sym e) ∙ ap not (same_value (value signal before))

still_any : (before now : Scene) (p : Signal → Bool) (ss : List Signal) → AllByRecursion (λ signal. value signal before ≡ value signal now) ss
    → list_any (changes before now) (filter p ss) ≡ false
still_any before now p [] all = refl
still_any before now p (s ∷ ss) all =
    elim (p s) as (λ b. list_any (changes before now) (cond b (s ∷ filter p ss) (filter p ss)) ≡ false) [
      | true ↦ rw (not_changed before now s all.0) (still_any before now p ss all.1)
      | false ↦ still_any before now p ss all.1
    ]

still_none : (before now : Scene) (p : Signal → Bool) (ss : List Signal) → AllByRecursion (λ signal. value signal before ≡ value signal now) ss
    → flat_map (change_put before now) (filter p ss) ≡ []
still_none before now p [] all = refl
still_none before now p (s ∷ ss) all =
    elim (p s) as (λ b. flat_map (change_put before now) (cond b (s ∷ filter p ss) (filter p ss)) ≡ []) [
      | true ↦ ap (λ b. cond b (value_line now s) [] ++ flat_map (change_put before now) (filter p ss)) (not_changed before now s all.0)
          ∙ still_none before now p ss all.1
      | false ↦ still_none before now p ss all.1
    ]

-- no signal of a timer changes
unasked : (sender : Bool) (n : ℕ) (before now : Scene) → elapsed n before.timers ≡ elapsed n now.timers
    → flat_map (change_put before now) (filter (has Vcd sender) (signals_of n)) ≡ flat_map (change_put before now) (filter (has Timers sender) (signals_of n))
unasked false n before now same = refl
unasked true n before now same =
    let f = change_put before now in
    let timers : List Signal = Interval n ∷ (Synchronization n ∷ (Gap n ∷ (May n ∷ []))) in
    let none : flat_map f timers ≡ [] = still_none before now (λ s. true) timers (
      ap (λ (e : Elapsed). Bit e.interval) same,
      (ap (λ (e : Elapsed). Bit e.synchronization) same, (ap (λ (e : Elapsed). Bit e.gap) same, (ap (λ (e : Elapsed). Bit e.may) same, tt))),
    ) in
    ap (λ x. f (Pulse n) ++ (f (Garbled n) ++ (f (Label n) ++ (f (Message n) ++ x)))) (sym none)

pub asked_put : (dump : Dump) (told : Bool) (lane : Lane) (before now : Scene) → (told ≡ false → before.timers ≡ now.timers)
    → flat_map (change_put before now) (lane_signals (asked_dump dump told) lane) ≡ flat_map (change_put before now) (lane_signals dump lane)
asked_put Vcd told lane before now tells = refl
asked_put Wires told lane before now tells = refl
asked_put Timers true lane before now tells = refl
asked_put Timers false lane before now tells = unasked lane.sender lane.terminal before now (ap (elapsed lane.terminal) (tells refl))

pub still_lane : (dump : Dump) (lane : Lane) (before now : Scene) → IsStill before now lane.terminal
    → list_any (changes before now) (lane_signals dump lane) ≡ false
still_lane dump lane before now s = still_any before now (has dump lane.sender) (signals_of lane.terminal) (all_still lane.terminal before now s)

pub still_lane_put : (dump : Dump) (lane : Lane) (before now : Scene) → IsStill before now lane.terminal
    → flat_map (change_put before now) (lane_signals dump lane) ≡ []
still_lane_put dump lane before now s = still_none before now (has dump lane.sender) (signals_of lane.terminal) (all_still lane.terminal before now s)
