-- What is put is the text of the dump.
use Rattle.std.proofs.Common.{◌≡◌, ℕ, ◌+◌, ◌-◌, ◌<◌, ◌≤◌, ◌⊎◌, Bool, List, [], ◌∷◌, ◌++◌, Option, None, map, arith, sym, ap, subst, ◌∙◌, append_assoc, append-nil}
use Rattle.std.specs.List.{AllByRecursion, flat_map, range_with_len}
use Rattle.bus_strings.specs.Messages.{Entry}
use Rattle.bus_strings.specs.Transmissions.{IsTransmission}
use Rattle.bus_table.specs.Tables.{Table}
use Rattle.bus_trace.specs.Traces.{Recording, IsTrace, IsBelow}
use Rattle.bus_dump.specs.declared.dump.Dump.{Dump}
use Rattle.bus_dump.specs.declared.layout.Layout.{Layout}
use Rattle.bus_dump.specs.Doubled.{doubled}
use Rattle.bus_trace.specs.Windows.{Window}
use Rattle.bus_dump.specs.DumpTexts.{behind_text, changes_at, changes_text, changes_to, declaration, dump_text, end_of_dump, first_values, head_text, last_stamp, text_of}
use Rattle.bus_dump.specs.Lanes.{lanes}
use Rattle.bus_dump.specs.inside.Layouts.{bit_times_put, layout_signals}
use Rattle.bus_dump.specs.Scenes.{Scene, elapsed_at, is_breach, scene_at, timed}
use Rattle.bus_dump.specs.Seen.{Seen, seen_at}
use Rattle.bus_dump.specs.Signals.{Signal, signals}
use Rattle.bus_dump.specs.Timers.{Elapsed}
use Rattle.bus_dump.specs.inside.Walks.{IsWalkable, SteadyTo}
use Rattle.bus_dump.specs.inside.TimerWalks.{BreachStays, ElapsedStays, StaysAs}
use Rattle.bus_dump.proofs.ChangeLemmas.{changes_last, changes_left, changes_next}

-- a list of a trace in which none is doubled
transmissions : (horizon : ℕ) (list : List Entry) → AllByRecursion (IsBelow horizon) list → AllByRecursion IsTransmission list
transmissions horizon [] all = tt
transmissions horizon (x ∷ list) all =
    (record { positive = all.0.positive; low = all.0.low; message = all.0.message }, transmissions horizon list all.1)

pub trace_walkable : (t : Recording) (list : List Entry) → IsTrace t → doubled t.list ≡ None → list ≡ t.list → IsWalkable list
trace_walkable t list is single e =
    subst IsWalkable (sym e) (record { order = is.order; entries = transmissions t.horizon t.list is.list; single = single })

-- the scene of a bit time
abbrev pub scene : List Seen → List Elapsed → Bool → Scene
scene seen timers breach = record { seen = seen; timers = timers; breach = breach }

pub scene_is : (seen seen' : List Seen) (timers timers' : List Elapsed) (breach breach' : Bool) → seen ≡ seen' → timers ≡ timers' → breach ≡ breach'
    → scene seen timers breach ≡ scene seen' timers' breach'
scene_is seen seen' timers timers' breach breach' e f g =
    ap (λ s. scene s timers breach) e ∙ ap (λ t. scene seen' t breach) f ∙ ap (scene seen' timers') g

pub scene_stays : (dump : Dump) (breach : Option ℕ) (table : Table) (list : List Entry) (t until : ℕ) → SteadyTo list t until
    → ElapsedStays table list (timed dump table) t until → BreachStays breach t until
    → StaysAs (scene_at dump breach table list) t until
scene_stays dump breach table list t until steady still same later low high =
    scene_is (seen_at list later) (seen_at list t) (map (elapsed_at table list later) (timed dump table)) (map (elapsed_at table list t) (timed dump table))
    (is_breach breach later) (is_breach breach t) (steady later low high) (still later low high) (same later low high)

-- the values at the first bit time
pub first_is : (ss : List Signal) (at : ℕ → Scene) (now : Scene) (from : ℕ) → now ≡ at from
    → first_values ss now from ≡ first_values ss (at from) from ++ flat_map (changes_at ss at) (range_with_len (from + 1) (from - from))
first_is ss at now from e =
    ap (λ n. first_values ss n from) e ∙ sym (append-nil (first_values ss (at from) from))
    ∙ ap (λ n. first_values ss (at from) from ++ flat_map (changes_at ss at) (range_with_len (from + 1) n)) (let z : 0 ≡ from - from = omega arith in z)

-- what changes at the next bit time
pub next_put : (ss : List Signal) (at : ℕ → Scene) (first : List ℕ) (from t u : ℕ) (before now : Scene) → from ≤ t → t < u → StaysAs at t u
    → before ≡ at t → now ≡ at u
    → (first ++ flat_map (changes_at ss at) (range_with_len (from + 1) (t - from))) ++ changes_text ss before now u
    ≡ first ++ flat_map (changes_at ss at) (range_with_len (from + 1) (u - from))
next_put ss at first from t u before now low h steady was is =
    let f = changes_at ss at in
    append_assoc first (flat_map f (range_with_len (from + 1) (t - from))) (changes_text ss before now u)
    ∙ ap (λ x. first ++ (flat_map f (range_with_len (from + 1) (t - from)) ++ x))
    (ap (λ b. changes_text ss b now u) was ∙ ap (λ n. changes_text ss (at t) n u) is)
    ∙ ap (λ x. first ++ x) (changes_next ss at from t u low h steady)

pub last_put : (ss : List Signal) (at : ℕ → Scene) (first : List ℕ) (from t until end : ℕ) → from ≤ t → t < until → end ≤ until
    → t ≤ from ⊎ t < end → StaysAs at t until
    → first ++ flat_map (changes_at ss at) (range_with_len (from + 1) (t - from)) ≡ first ++ changes_to ss at from end
last_put ss at first from t until end low later past reached steady =
    ap (λ x. first ++ x) (changes_last ss at from t until end low later past reached steady)

-- what is put and what is left
pub left_put : (ss : List Signal) (at : ℕ → Scene) (first : List ℕ) (from t end : ℕ) → from ≤ t → t < end
    → (first ++ flat_map (changes_at ss at) (range_with_len (from + 1) (t - from))) ++ flat_map (changes_at ss at) (range_with_len (1 + t) (end - 1 - t))
    ≡ first ++ changes_to ss at from end
left_put ss at first from t end low below =
    append_assoc first (flat_map (changes_at ss at) (range_with_len (from + 1) (t - from))) (flat_map (changes_at ss at) (range_with_len (1 + t) (end - 1 - t)))
    ∙ ap (λ x. first ++ x) (changes_left ss at from t end low below)

-- the whole
pub whole_put : (dump : Dump) (window : Window) (breach : Option ℕ) (comment : List ℕ) (table : Table) (t : Recording) (layout : Layout)
    (list : List Entry) (from end : ℕ) → list ≡ t.list → from ≡ window.from → end ≡ end_of_dump window t.horizon → layout.dump ≡ dump
    → layout_signals layout ≡ signals dump (lanes table list)
    → head_text comment ++ flat_map declaration (layout_signals layout) ++ behind_text ++ bit_times_put breach table list from end layout
    ++ last_stamp from end
    ≡ dump_text dump window breach comment table t
whole_put dump window breach comment table t layout list from end l f e d s =
    let ss = layout_signals layout in
    let front : List ℕ = head_text comment ++ flat_map declaration ss ++ behind_text in
    let at = scene_at layout.dump breach table list in
    ap (λ x. x ++ last_stamp from end) (sym (append_assoc front (first_values ss (at from) from) (changes_to ss at from end)))
    ∙ ap (λ z. text z layout.dump list from end) s
    ∙ ap (λ z. text (signals dump (lanes table list)) z list from end) d
    ∙ ap (λ z. text (signals dump (lanes table z)) dump z from end) l
    ∙ ap (λ z. text (signals dump (lanes table t.list)) dump t.list z end) f
    ∙ ap (text (signals dump (lanes table t.list)) dump t.list window.from) e
  where
    text : List Signal → Dump → List Entry → ℕ → ℕ → List ℕ
    text z kind entries first last =
        text_of comment z (scene_at kind breach table entries) first last
