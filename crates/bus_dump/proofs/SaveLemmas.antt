-- What the lines of a save file show.
use Rattle.std.proofs.Common.{◌≡◌, ◌⊎◌, ℕ, codes, decimal, Option, ◌-◌, drop, Bool, true, false, not, ◌&&◌, cond, eqb, List, [], ◌∷◌, ◌++◌, inl, inr, sym, refl, ap, ◌∙◌, subst, append_assoc, append-nil}
use Rattle.std.specs.List.{flat_map}
use Rattle.bus_strings.specs.Members.{In}
use Rattle.bus_strings.proofs.MemberLaws.{from_filter}
use Rattle.bus_table.specs.Tables.{Table}
use Rattle.bus_dump.specs.declared.dump.Dump.{Dump}
use Rattle.bus_dump.specs.declared.dump.Dump.TheVariants.{Vcd, Wires, Timers}
use Rattle.bus_dump.specs.declared.lane.Lane.{Lane}
use Rattle.bus_dump.specs.DumpTexts.{bits_text, name_text}
use Rattle.bus_dump.specs.SaveLaws.{EndsLine, HasLines}
use Rattle.bus_dump.specs.SaveFiles.{FirstBreach, as_decimal, as_hexadecimal, as_wires, beginning_text, bus_shown, group_begin, group_end, group_mark, heading, label_shown, labels_shown, lane_shown, lane_title, marked, marker_text, messages_shown, nanoseconds, opening, shown, timers_shown, zoom}
use Rattle.bus_dump.specs.Signals.{Signal, Carrier, Overlap, Sync, Breach, Word, Pulse, Garbled, Label, Message, Interval, Synchronization, Gap, May}
use Rattle.bus_dump.specs.Signals.{has, is_timer, is_wire, lane_signals, signals_of}

-- ---- texts that end with a line feed
pub ends_join : (xs ys : List ℕ) → EndsLine xs → EndsLine ys → EndsLine (xs ++ ys)
ends_join xs ys h (inl none) = subst EndsLine (sym (ap (λ l. xs ++ l) none ∙ append-nil xs)) h
ends_join xs ys h (inr e) = inr (xs ++ e.0, ap (λ l. xs ++ l) e.1 ∙ sym (append_assoc xs e.0 (10 ∷ [])))

pub flat_map_ends : {X : Type 0} (f : X → List ℕ) → ((x : X) → EndsLine (f x)) → (xs : List X) → EndsLine (flat_map f xs)
flat_map_ends f h [] = inl refl
flat_map_ends f h (x ∷ xs) = ends_join (f x) (flat_map f xs) (h x) (flat_map_ends f h xs)

pub shown_ends : (s : Signal) → EndsLine (shown s)
shown_ends s = inr (codes "bus." ++ name_text s ++ drop 1 (bits_text s), refl)

heading_ends : (name : List ℕ) → EndsLine (heading name)
heading_ends name = inr (codes "@200\n-" ++ name, refl)

group_begin_ends : (folded : Bool) (name : List ℕ) → EndsLine (group_begin folded name)
group_begin_ends folded name = inr (group_mark folded ++ name, refl)

group_end_ends : (folded : Bool) → EndsLine (group_end folded)
group_end_ends true = inr (codes "@1401200\n-group_end", refl)
group_end_ends false = inr (codes "@1000200\n-group_end", refl)

beginning_ends : (from : ℕ) → EndsLine (beginning_text from)
beginning_ends from =
    let told : List ℕ = codes "[timestart] " ++ decimal (nanoseconds from) in
    elim (eqb from 0) as (λ b. EndsLine (cond b [] (told ++ codes "\n"))) [
      | true ↦ inl refl
      | false ↦ inr (told, refl)
    ]

pub opening_ends : (from end : ℕ) (breach : Option FirstBreach) → EndsLine (opening from end breach)
opening_ends from end breach =
    let first : List ℕ = codes "*-" ++ decimal (zoom (end - from)) ++ codes " " ++ marker_text breach in
    ends_join (first ++ codes "\n") (beginning_text from) (inr (first, refl)) (beginning_ends from)

wires_ends : EndsLine as_wires
wires_ends = inr (codes "@28", refl)

hexadecimal_ends : EndsLine as_hexadecimal
hexadecimal_ends = inr (codes "@22", refl)

decimal_ends : EndsLine as_decimal
decimal_ends = inr (codes "@24", refl)

marked_ends : EndsLine marked
marked_ends = inr (codes "[color] 2", refl)

-- a text, and a signal that is shown behind it
and_shown : (xs : List ℕ) (s : Signal) → EndsLine xs → EndsLine (xs ++ shown s)
and_shown xs s h = ends_join xs (shown s) h (shown_ends s)

and_marked : (xs : List ℕ) → EndsLine xs → EndsLine (xs ++ marked)
and_marked xs h = ends_join xs marked h marked_ends

-- ---- texts that have lines
pub itself : (lines : List ℕ) → HasLines lines lines
itself lines = record { front = []; behind = []; parts = sym (append-nil lines); line = inl refl }

pub before : {lines xs : List ℕ} (ys : List ℕ) → HasLines lines xs → HasLines lines (xs ++ ys)
before {lines} {xs} ys h = record {
  front = h.front;
  behind = h.behind ++ ys;
  parts = ap (λ l. l ++ ys) h.parts ∙ append_assoc (h.front ++ lines) h.behind ys;
  line = h.line;
}

pub behind : {lines ys : List ℕ} (xs : List ℕ) → EndsLine xs → HasLines lines ys → HasLines lines (xs ++ ys)
behind {lines} {ys} xs e h = record {
  front = xs ++ h.front;
  behind = h.behind;
  parts = ap (λ l. xs ++ l) h.parts ∙ sym (append_assoc xs (h.front ++ lines) h.behind)
      ∙ ap (λ l. l ++ h.behind) (sym (append_assoc xs h.front lines));
  line = ends_join xs h.front e h.line;
}

-- a signal is shown
abbrev pub Shows : Signal → List ℕ → Type 0
Shows s text = HasLines (shown s) text

-- ---- the bus
abbrev bus1 : List ℕ
bus1 = heading (codes "bus") ++ as_wires

abbrev bus2 : List ℕ
bus2 = bus1 ++ shown Carrier ++ marked

abbrev bus3 : List ℕ
bus3 = bus2 ++ shown Overlap

abbrev bus4 : List ℕ
bus4 = bus3 ++ shown Sync ++ marked

abbrev bus5 : List ℕ
bus5 = bus4 ++ shown Breach ++ as_hexadecimal

bus1_ends : EndsLine bus1
bus1_ends = ends_join (heading (codes "bus")) as_wires (heading_ends (codes "bus")) wires_ends

bus2_ends : EndsLine bus2
bus2_ends = and_marked (bus1 ++ shown Carrier) (and_shown bus1 Carrier bus1_ends)

bus3_ends : EndsLine bus3
bus3_ends = and_shown bus2 Overlap bus2_ends

bus4_ends : EndsLine bus4
bus4_ends = and_marked (bus3 ++ shown Sync) (and_shown bus3 Sync bus3_ends)

bus5_ends : EndsLine bus5
bus5_ends = ends_join (bus4 ++ shown Breach) as_hexadecimal (and_shown bus4 Breach bus4_ends) hexadecimal_ends

pub of_bus : (s : Signal) → In s (Carrier ∷ (Overlap ∷ (Sync ∷ (Breach ∷ (Word ∷ []))))) → Shows s bus_shown
of_bus s (inl is) = subst (λ z. Shows z bus_shown) (sym is) (record {
  front = bus1;
  behind = marked ++ shown Overlap ++ shown Sync ++ marked ++ shown Breach ++ as_hexadecimal ++ shown Word;
  parts = refl;
  line = bus1_ends;
})
of_bus s (inr (inl is)) = subst (λ z. Shows z bus_shown) (sym is) (record {
  front = bus2;
  behind = shown Sync ++ marked ++ shown Breach ++ as_hexadecimal ++ shown Word;
  parts = refl;
  line = bus2_ends;
})
of_bus s (inr (inr (inl is))) = subst (λ z. Shows z bus_shown) (sym is) (record {
  front = bus3;
  behind = marked ++ shown Breach ++ as_hexadecimal ++ shown Word;
  parts = refl;
  line = bus3_ends;
})
of_bus s (inr (inr (inr (inl is)))) = subst (λ z. Shows z bus_shown) (sym is) (record {
  front = bus4;
  behind = as_hexadecimal ++ shown Word;
  parts = refl;
  line = bus4_ends;
})
of_bus s (inr (inr (inr (inr (inl is))))) = subst (λ z. Shows z bus_shown) (sym is) (record {
  front = bus5;
  behind = [];
  parts = refl;
  line = bus5_ends;
})
of_bus s (inr (inr (inr (inr (inr none))))) = absurd none

-- ---- a lane
-- the texts before its signals
abbrev messages1 : ℕ → List ℕ
messages1 t = as_wires ++ shown (Pulse t) ++ marked

abbrev messages2 : ℕ → List ℕ
messages2 t = messages1 t ++ shown (Garbled t) ++ as_decimal

abbrev timers1 : ℕ → List ℕ
timers1 t = as_wires ++ shown (Interval t)

abbrev timers2 : ℕ → List ℕ
timers2 t = timers1 t ++ shown (Synchronization t)

abbrev timers3 : ℕ → List ℕ
timers3 t = timers2 t ++ shown (Gap t) ++ marked

messages1_ends : (t : ℕ) → EndsLine (messages1 t)
messages1_ends t = and_marked (as_wires ++ shown (Pulse t)) (and_shown as_wires (Pulse t) wires_ends)

messages2_ends : (t : ℕ) → EndsLine (messages2 t)
messages2_ends t =
    ends_join (messages1 t ++ shown (Garbled t)) as_decimal (and_shown (messages1 t) (Garbled t) (messages1_ends t)) decimal_ends

timers1_ends : (t : ℕ) → EndsLine (timers1 t)
timers1_ends t = and_shown as_wires (Interval t) wires_ends

timers2_ends : (t : ℕ) → EndsLine (timers2 t)
timers2_ends t = and_shown (timers1 t) (Synchronization t) (timers1_ends t)

timers3_ends : (t : ℕ) → EndsLine (timers3 t)
timers3_ends t = and_marked (timers2 t ++ shown (Gap t)) (and_shown (timers2 t) (Gap t) (timers2_ends t))

-- what stands before the timers of a lane
abbrev lane_front : Bool → Table → Lane → List ℕ
lane_front folded table lane = group_begin folded (lane_title table lane.terminal) ++ messages_shown lane.terminal

front_ends : (folded : Bool) (table : Table) (lane : Lane) → EndsLine (lane_front folded table lane)
front_ends folded table lane =
    ends_join (group_begin folded (lane_title table lane.terminal)) (messages_shown lane.terminal)
    (group_begin_ends folded (lane_title table lane.terminal))
    (and_shown (messages2 lane.terminal) (Message lane.terminal) (messages2_ends lane.terminal))

pub lane_ends : (folded : Bool) (table : Table) (lane : Lane) → EndsLine (lane_shown folded table lane)
lane_ends folded table lane =
    let front : List ℕ = lane_front folded table lane in
    ends_join (front ++ cond lane.sender (timers_shown lane.terminal) []) (group_end folded)
    (elim (lane.sender) as (λ b. EndsLine (front ++ cond b (timers_shown lane.terminal) [])) [
      | true ↦ ends_join front (timers_shown lane.terminal) (front_ends folded table lane)
          (and_shown (timers3 lane.terminal) (May lane.terminal) (timers3_ends lane.terminal))
      | false ↦ ends_join front [] (front_ends folded table lane) (inl refl)
    ]) (group_end_ends folded)

-- only a sender has timers
sends : (dump : Dump) (sender : Bool) (s : Signal) → is_timer s ≡ true → has dump sender s ≡ true → sender ≡ true
sends Vcd sender s timer h = absurd (let e : false ≡ true = ap not (sym timer) ∙ h in cc)
sends Wires sender s timer h = absurd (let e : false ≡ true = sym (no_wire (is_wire s)) ∙ ap (λ b. is_wire s && not b) (sym timer) ∙ h in cc) where
  no_wire : (b : Bool) → (b && false) ≡ false
  no_wire true = refl
  no_wire false = refl
sends Timers true s timer h = refl
sends Timers false s timer h = absurd (let e : false ≡ true = ap not (sym timer) ∙ h in cc)

timers_of : (folded : Bool) (table : Table) (lane : Lane) (s : Signal) → lane.sender ≡ true → Shows s (timers_shown lane.terminal)
    → Shows s (lane_shown folded table lane)
timers_of folded table lane s sender h =
    before (group_end folded) (behind (lane_front folded table lane) (front_ends folded table lane)
    (subst (λ b. Shows s (cond b (timers_shown lane.terminal) [])) (sym sender) h))

-- a text of both parts
abbrev pub Parts : Bool → Table → Signal → Lane → Type 0
Parts folded table s lane = Shows s (label_shown lane) ⊎ Shows s (lane_shown folded table lane)

pub of_lane : (dump : Dump) (folded : Bool) (table : Table) (s : Signal) (lane : Lane) → In s (lane_signals dump lane) → Parts folded table s lane
of_lane dump folded table s lane i =
    (let found = from_filter (has dump lane.sender) (signals_of lane.terminal) s i in by found.0 found.1) where
      t : ℕ
      t = lane.terminal

      timer : (z : Signal) → s ≡ z → is_timer z ≡ true → has dump lane.sender s ≡ true → Shows z (timers_shown t) → Parts folded table s lane
      timer z is one h shows =
          inr (subst (λ y. Shows y (lane_shown folded table lane)) (sym is)
          (timers_of folded table lane z (sends dump lane.sender z one (subst (λ y. has dump lane.sender y ≡ true) is h)) shows))

      message : (z : Signal) → s ≡ z → Shows z (messages_shown t) → Parts folded table s lane
      message z is shows =
          inr (subst (λ y. Shows y (lane_shown folded table lane)) (sym is)
          (before (group_end folded) (before (cond lane.sender (timers_shown t) [])
          (behind (group_begin folded (lane_title table t)) (group_begin_ends folded (lane_title table t)) shows))))

      by : In s (signals_of t) → has dump lane.sender s ≡ true → Parts folded table s lane
      by (inl is) h = message (Pulse t) is
          (before (shown (Message t)) (before as_decimal (before (shown (Garbled t)) (before marked (behind as_wires wires_ends (itself (shown (Pulse t))))))))
      by (inr (inl is)) h = message (Garbled t) is (before (shown (Message t)) (before as_decimal (behind (messages1 t) (messages1_ends t) (itself (shown (Garbled t))))))
      by (inr (inr (inl is))) h = inl (subst (λ y. Shows y (label_shown lane)) (sym is) (itself (shown (Label t))))
      by (inr (inr (inr (inl is)))) h = message (Message t) is (behind (messages2 t) (messages2_ends t) (itself (shown (Message t))))
      by (inr (inr (inr (inr (inl is))))) h = timer (Interval t) is refl h
          (before (shown (May t)) (before marked (before (shown (Gap t)) (before (shown (Synchronization t)) (behind as_wires wires_ends (itself (shown (Interval t))))))))
      by (inr (inr (inr (inr (inr (inl is)))))) h = timer (Synchronization t) is refl h
          (before (shown (May t)) (before marked (before (shown (Gap t)) (behind (timers1 t) (timers1_ends t) (itself (shown (Synchronization t)))))))
      by (inr (inr (inr (inr (inr (inr (inl is))))))) h = timer (Gap t) is refl h
          (before (shown (May t)) (before marked (behind (timers2 t) (timers2_ends t) (itself (shown (Gap t))))))
      by (inr (inr (inr (inr (inr (inr (inr (inl is)))))))) h = timer (May t) is refl h (behind (timers3 t) (timers3_ends t) (itself (shown (May t))))
      by (inr (inr (inr (inr (inr (inr (inr (inr none)))))))) h = absurd none

-- ---- the whole
pub bus_ends : EndsLine bus_shown
bus_ends = and_shown bus5 Word bus5_ends

-- what stands before the labels of the lanes, in their group
abbrev pub labels_front : Bool → List ℕ
labels_front folded = group_begin folded (codes "labels") ++ as_hexadecimal

pub labels_front_ends : (folded : Bool) → EndsLine (labels_front folded)
labels_front_ends folded =
    ends_join (group_begin folded (codes "labels")) as_hexadecimal (group_begin_ends folded (codes "labels")) hexadecimal_ends

pub labels_end : (folded : Bool) (ls : List Lane) → EndsLine (labels_shown folded ls)
labels_end folded ls =
    ends_join (labels_front folded ++ flat_map label_shown ls) (group_end folded)
    (ends_join (labels_front folded) (flat_map label_shown ls) (labels_front_ends folded)
    (flat_map_ends label_shown (λ lane. shown_ends (Label lane.terminal)) ls)) (group_end_ends folded)
