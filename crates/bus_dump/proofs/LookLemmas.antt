-- What is seen of live transmissions, one after another.
use Rattle.std.proofs.Common.{◌≡◌, ℕ, ◌+◌, ◌-◌, ◌<◌, ◌≤◌, Bool, true, false, cond, List, [], ◌∷◌, ◌++◌, length, take, get_or, Option, Some, None}
use Rattle.std.proofs.Common.{arith, sym, ap, ◌∙◌}
use Rattle.std.specs.Prelude.{slice_get}
use Rattle.std.specs.List.{AllByRecursion, cons_option, filter_map}
use Rattle.std.proofs.lemmas.List.{take_more}
use Rattle.std.proofs.lemmas.List.Elements.{filter_map-append, All-from_recursion}
use Rattle.bus_strings.proofs.ListLaws.{all_more}
use Rattle.bus_strings.specs.Messages.{Message, Entry, bits}
use Rattle.bus_dump.specs.declared.shown_stretch.ShownStretch.{ShownStretch}
use Rattle.bus_dump.specs.declared.live.Live.{Live}
use Rattle.bus_dump.specs.OnBus.{Shown, shown_at}
use Rattle.bus_dump.specs.Seen.{Seen, holds, seen_of}
use Rattle.bus_dump.specs.inside.Walks.{IsShownStretch, IsLive, IsSteady, StaysTo, live_of, see, sight_of}
use Rattle.bus_dump.proofs.LiveLemmas.{LiveFacts, live_facts, held_from, holds_true, seen_some}

-- what a list of live transmissions has where it has nothing
abbrev pub no_live : Live
no_live = record { at = 0; terminal = 0; moment = 0; end = 0; number = 0; garbled = false }

-- ---- one
-- a look at a message tells how long it stays as it is
pub stretch_now : (m : Message) (d : ℕ) (g : ShownStretch) → IsShownStretch m d g → g.shown ≡ shown_at m d
stretch_now m d g i = let e : d + 0 ≡ d = omega arith in let some : 1 ≤ g.left = i.some in sym (i.steady 0 (omega arith)) ∙ ap (shown_at m) e

pub stretch_stays : (x : Entry) (t : ℕ) (g : ShownStretch) → x.moment ≤ t → IsShownStretch x.message (t - x.moment) g → StaysTo x t (t + g.left)
stretch_stays x t g begun i later low high =
    let within : t - x.moment + g.left ≤ bits x.message = i.within in
    let e : t - x.moment + (later - t) ≡ later - x.moment = omega arith in
    (omega arith, ap (shown_at x.message) (sym e) ∙ i.steady (later - t) (omega arith) ∙ stretch_now x.message (t - x.moment) g i)

-- the entry of a live transmission
pub facts_at : (list : List Entry) (t : ℕ) (live : List Live) (i : ℕ) → i < length live → AllByRecursion (IsLive list t) live → LiveFacts list t (get_or live i no_live)
facts_at list t live i h all =
    (live_facts list t (get_or live i no_live).at (get_or live i no_live) (All-from_recursion (IsLive list t) live all i no_live h)).1

-- what is seen of it
seen_with : ℕ → ℕ → Bool → Option Shown → Seen
seen_with terminal number garbled shown = record { terminal = terminal; number = number; garbled = garbled; shown = shown }

pub see_live : (list : List Entry) (t : ℕ) (one : Live) (x : Entry) → slice_get list one.at ≡ Some x → holds t x ≡ true → one ≡ live_of list one.at x
    → see list t one ≡ Some (sight_of t x one)
unfolding seen_with
see_live list t one x at held is =
    seen_some list t one.at x at ∙ ap (λ b. cond b (Some (seen_of list t one.at x)) None) held
    ∙ ap Some (ap (λ n. seen_with x.terminal n (live_of list one.at x).garbled (shown_at x.message (t - x.moment))) (sym (ap (λ (l : Live). l.number) is))
    ∙ ap (λ g. seen_with x.terminal one.number g (shown_at x.message (t - x.moment))) (sym (ap (λ (l : Live). l.garbled) is)))

pub steady_live : (list : List Entry) (t until : ℕ) (one : Live) (x : Entry) → slice_get list one.at ≡ Some x → holds t x ≡ true → one ≡ live_of list one.at x
    → StaysTo x t until → IsSteady list t until one
unfolding seen_with
steady_live list t until one x at held is stays later low high =
    let stay = stays later low high in
    let begun : x.moment ≤ t = held_from t x held in
    see_live list later one x at (holds_true later x (omega arith) stay.0) is
    ∙ ap (λ s. Some (seen_with x.terminal one.number one.garbled s)) stay.1
    ∙ sym (see_live list t one x at held is)

-- ---- all
weaker : (list : List Entry) (t until until' : ℕ) (live : List Live) → until' ≤ until → AllByRecursion (IsSteady list t until) live
    → AllByRecursion (IsSteady list t until') live
weaker list t until until' [] h all = tt
weaker list t until until' (one ∷ live) h all = ((λ later low high. all.0 later low (omega arith)), weaker list t until until' live h all.1)

pub look_seen : (list : List Entry) (t : ℕ) (live : List Live) (i : ℕ) (x : Entry) (seen seen' : List Seen) (s : Seen) → i < length live
    → AllByRecursion (IsLive list t) live → slice_get list (get_or live i no_live).at ≡ Some x → s ≡ sight_of t x (get_or live i no_live)
    → seen ≡ filter_map (see list t) (take i live) → seen' ≡ seen ++ s ∷ [] → seen' ≡ filter_map (see list t) (take (i + 1) live)
look_seen list t live i x seen seen' s h all at is old new =
    let one : Live = get_or live i no_live in
    let f = facts_at list t live i h all in
    let same : f.entry ≡ x = (let w : Some f.entry ≡ Some x = sym f.at ∙ at in cc) in
    let told : see list t one ≡ Some s =
    see_live list t one f.entry f.at f.held f.is ∙ ap (λ y. Some (sight_of t y one)) same ∙ ap Some (sym is) in
    new ∙ ap (λ l. l ++ s ∷ []) old
    ∙ sym (ap (filter_map (see list t)) (take_more live i no_live h)
    ∙ filter_map-append (see list t) (take i live) (one ∷ [])
    ∙ ap (λ o. filter_map (see list t) (take i live) ++ cons_option o []) told)

pub look_steady : (list : List Entry) (t : ℕ) (live : List Live) (i : ℕ) (x : Entry) (until next least : ℕ) → i < length live
    → AllByRecursion (IsLive list t) live → slice_get list (get_or live i no_live).at ≡ Some x → StaysTo x t next
    → AllByRecursion (IsSteady list t until) (take i live) → least ≤ until → least ≤ next → AllByRecursion (IsSteady list t least) (take (i + 1) live)
look_steady list t live i x until next least h all at stays old low lower =
    let one : Live = get_or live i no_live in
    let f = facts_at list t live i h all in
    let same : f.entry ≡ x = (let w : Some f.entry ≡ Some x = sym f.at ∙ at in cc) in
    let here : IsSteady list t next one =
    steady_live list t next one x at (ap (holds t) (sym same) ∙ f.held) (f.is ∙ ap (live_of list one.at) same) stays in
    all_more (IsSteady list t least) live i no_live h (weaker list t until least (take i live) low old)
    (λ later l u. here later l (omega arith))
