-- Equal dumps are those of equal lists.
use Rattle.std.proofs.Common.{◌≡◌, ℕ, ◌*◌, ◌^◌, ◌<◌, ◌≤◌, max, Bool, true, false, not, eqb, leb, ltb, ◌&&◌, List, [], ◌∷◌, ◌++◌, map, Option, Some, None, inl, inr, arith, sym, refl, ap, subst, ◌∙◌}
use Rattle.std.specs.Prelude.{IsTrue}
use Rattle.std.specs.List.{AllByRecursion, flat_map}
use Rattle.std.proofs.lemmas.Bool.{and_parts, cases_lt, le-leb, lt-ltb, ltb-true, true≢false}
use Rattle.bus_strings.proofs.MemberLaws.{at_in, in_append_left, in_append_right, in_filter, of_each}
use Rattle.bus_strings.specs.Members.{In}
use Rattle.bus_strings.specs.Messages.{Entry, bits}
use Rattle.bus_strings.specs.Transmissions.{IsAscending, IsOrdered, end_of, overlaps}
use Rattle.bus_table.specs.Tables.{Table}
use Rattle.bus_table.specs.Valid.{is_valid}
use Rattle.bus_trace.specs.Traces.{IsBelow, IsTrace, Recording}
use Rattle.bus_trace.specs.Windows.{IsWindow, whole}
use Rattle.bus_medium.proofs.AscendingLaws.{same_ascending}
use Rattle.bus_dump.specs.declared.dump.Dump.{Dump}
use Rattle.bus_dump.specs.declared.dump.Dump.TheVariants.{Timers, Vcd, Wires}
use Rattle.bus_dump.specs.Doubled.{doubled}
use Rattle.bus_dump.specs.DumpTexts.{dump_text, end_of_dump, name_text}
use Rattle.bus_dump.specs.Lanes.{Lane, lanes}
use Rattle.bus_trace.specs.Runs.{HasNoFeed}
use Rattle.bus_dump.specs.Laws.{IsDumped, IsShownWhole, NothingIsLost}
use Rattle.bus_dump.specs.Reading.{read_named}
use Rattle.bus_dump.specs.Scenes.{Scene, scene_at}
use Rattle.bus_dump.specs.Signals.{Signal, Carrier, Overlap, Sync, Breach, Word, Label, Message, bus_signals, has, is_timer, lane_signals, signals, signals_of, value}
use Rattle.bus_dump.specs.Stamps.{StampsAre, stamped, stamps}
use Rattle.bus_dump.proofs.ClearLemmas.{AreApart, before_it}
use Rattle.bus_dump.proofs.LaneLawLemmas.{lane_of}
use Rattle.bus_dump.proofs.LostLemmas.{IsRight, IsSame, bits_some, in_other}
use Rattle.bus_dump.proofs.NameLemmas.{same_signals}
use Rattle.bus_dump.proofs.SingleLemmas.{precedes, single_by}
use Rattle.bus_dump.proofs.SmallLemmas.{dump_read, signals_small}
use Rattle.bus_dump.proofs.StampLemmas.{stamps_told}

in_flat : {X Y : Type 0} (f : X → List Y) (xs : List X) (x : X) (y : Y) → In x xs → In y (f x) → In y (flat_map f xs)
in_flat f [] x y i j = absurd i
in_flat f (z ∷ xs) x y (inl same) j = in_append_left (f z) (flat_map f xs) y (subst (λ w. In y (f w)) same j)
in_flat f (z ∷ xs) x y (inr i) j = in_append_right (f z) (flat_map f xs) y (in_flat f xs x y i j)

-- the signals of a dump that has the words on the bus
abbrev HasWords : Dump → Type 0
HasWords dump = has dump false Word ≡ true

abbrev signals_in : Dump → Table → Recording → List Signal
signals_in dump table trace = signals dump (lanes table trace.list)

-- it has all signals but timers
has_all : (dump : Dump) (sender : Bool) (s : Signal) → HasWords dump → is_timer s ≡ false → has dump sender s ≡ true
has_all Vcd sender s words plain = ap not plain
has_all Wires sender s words plain = absurd (true≢false (sym words))
has_all Timers true s words plain = refl
has_all Timers false s words plain = ap not plain

of_lane : (dump : Dump) (table : Table) (trace : Recording) (lane : Lane) (s : Signal) → HasWords dump → In lane (lanes table trace.list)
    → In s (signals_of lane.terminal) → is_timer s ≡ false → In s (signals_in dump table trace)
of_lane dump table trace lane s words i j plain =
    in_append_right (bus_signals dump) (flat_map (lane_signals dump) (lanes table trace.list)) s
    (in_flat (lane_signals dump) (lanes table trace.list) lane s i
    (in_filter (has dump lane.sender) (signals_of lane.terminal) s j (has_all dump lane.sender s words plain)))

message_in : (dump : Dump) (table : Table) (trace : Recording) (lane : Lane) (n : ℕ) → HasWords dump → In lane (lanes table trace.list)
    → lane.terminal ≡ n → In (Message n) (signals_in dump table trace)
message_in dump table trace lane n words i is =
    subst (λ k. In (Message k) (signals_in dump table trace)) is
    (of_lane dump table trace lane (Message lane.terminal) words i (inr (inr (inr (inl refl)))) refl)

label_in : (dump : Dump) (table : Table) (trace : Recording) (lane : Lane) (n : ℕ) → HasWords dump → In lane (lanes table trace.list)
    → lane.terminal ≡ n → In (Label n) (signals_in dump table trace)
label_in dump table trace lane n words i is =
    subst (λ k. In (Label k) (signals_in dump table trace)) is
    (of_lane dump table trace lane (Label lane.terminal) words i (inr (inr (inl refl))) refl)

word_in : (dump : Dump) (table : Table) (trace : Recording) → HasWords dump → In Word (signals_in dump table trace)
word_in dump table trace words =
    in_append_left (bus_signals dump) (flat_map (lane_signals dump) (lanes table trace.list)) Word
    (in_filter (has dump false) (Carrier ∷ (Overlap ∷ (Sync ∷ (Breach ∷ (Word ∷ []))))) Word (inr (inr (inr (inr (inl refl))))) words)

-- what is known of two traces, whose breaches are at these moments
record AreDumped (dump : Dump) (first second : Option ℕ) (comment : List ℕ) (table : Table) (a b : Recording) : Type 0 where
  words : HasWords dump
  valid : IsTrue (is_valid table)
  left : IsTrace a
  right : IsTrace b
  plain : HasNoFeed comment
  horizons : a.horizon ≡ b.horizon
  texts : dump_text dump (whole a.horizon) first comment table a ≡ dump_text dump (whole b.horizon) second comment table b

-- the window of all of a trace
whole_window : (h : ℕ) → h ≤ 2 ^ 40 → IsWindow (whole h)
whole_window h low = record { some = omega arith; within = omega arith }

all_dumped : (trace : Recording) (t : ℕ) → t < trace.horizon → IsDumped (whole trace.horizon) trace t
all_dumped trace t low = record { held = both (leb 0 t) (ltb t (max trace.horizon 1)) (le-leb 0 t (omega arith)) (lt-ltb t (max trace.horizon 1) (omega (arith, low))); below = low }
  where
    both : (p q : Bool) → p ≡ true → q ≡ true → (p && q) ≡ true
    both p q h k = rw (h, k) refl

same_in : (dump : Dump) (first second : Option ℕ) (comment : List ℕ) (table : Table) (a b : Recording) → AreDumped dump first second comment table a b
    → signals_in dump table a ≡ signals_in dump table b
same_in dump first second comment table a b h =
    same_signals comment (signals_in dump table a) (signals_in dump table b) (scene_at dump first table a.list) (scene_at dump second table b.list)
    0 (end_of_dump (whole a.horizon) a.horizon) 0 (end_of_dump (whole b.horizon) b.horizon)
    (signals_small dump table a.list h.valid) (signals_small dump table b.list h.valid) h.texts

same_value : (dump : Dump) (first second : Option ℕ) (comment : List ℕ) (table : Table) (a b : Recording) (s : Signal) (t : ℕ)
    → AreDumped dump first second comment table a b → In s (signals_in dump table a)
    → t < a.horizon → value s (scene_at dump first table a.list t) ≡ value s (scene_at dump second table b.list t)
same_value dump first second comment table a b s t h i low =
    let j : In s (signals_in dump table b) = subst (λ ss. In s ss) (same_in dump first second comment table a b h) i in
    let horizons : a.horizon ≡ b.horizon = h.horizons in
    let also : t < b.horizon = omega (arith, low, horizons) in
    let both : Some (value s (scene_at dump first table a.list t)) ≡ Some (value s (scene_at dump second table b.list t)) =
    sym (dump_read dump (whole a.horizon) first comment table a t s h.valid h.left (whole_window a.horizon h.left.horizon) h.plain (all_dumped a t low) i)
    ∙ ap (read_named (name_text s) (5 * t)) h.texts
    ∙ dump_read dump (whole b.horizon) second comment table b t s h.valid h.right (whole_window b.horizon h.right.horizon) h.plain (all_dumped b t also) j in
    cc

same_terminal : (dump : Dump) (first second : Option ℕ) (comment : List ℕ) (table : Table) (a b : Recording) (x : Entry) → AreDumped dump first second comment table a b → In x a.list
    → IsSame a.list b.list a.horizon x.terminal
same_terminal dump first second comment table a b x h i =
    let own = lane_of table a h.valid h.left x i in
    record {
      message = λ t low. same_value dump first second comment table a b (Message x.terminal) t h (message_in dump table a own.0 x.terminal h.words own.1 own.2) low;
      label = λ t low. same_value dump first second comment table a b (Label x.terminal) t h (label_in dump table a own.0 x.terminal h.words own.1 own.2) low;
      word = λ t low. same_value dump first second comment table a b Word t h (word_in dump table a h.words) low;
    }

turned : (dump : Dump) (first second : Option ℕ) (comment : List ℕ) (table : Table) (a b : Recording) → AreDumped dump first second comment table a b
    → AreDumped dump second first comment table b a
turned dump first second comment table a b h = record {
  words = h.words;
  valid = h.valid;
  left = h.right;
  right = h.left;
  plain = h.plain;
  horizons = sym h.horizons;
  texts = sym h.texts;
}

-- ---- the horizon
none_pushed : (ys : List ℕ) (b : ℕ) → [] ≡ ys ++ b ∷ [] → ⊥
none_pushed [] b h = (let w : [] ≡ b ∷ [] = h in absurd cc)
none_pushed (y ∷ ys) b h = (let w : [] ≡ y ∷ (ys ++ b ∷ []) = h in absurd cc)

same_end : (xs ys : List ℕ) (a b : ℕ) → xs ++ a ∷ [] ≡ ys ++ b ∷ [] → a ≡ b
same_end [] [] a b h = (let w : a ∷ [] ≡ b ∷ [] = h in cc)
same_end [] (y ∷ ys) a b h = absurd (none_pushed ys b (let w : a ∷ [] ≡ y ∷ (ys ++ b ∷ []) = h in cc))
same_end (x ∷ xs) [] a b h = absurd (none_pushed xs a (let w : x ∷ (xs ++ a ∷ []) ≡ b ∷ [] = h in cc))
same_end (x ∷ xs) (y ∷ ys) a b h = same_end xs ys a b (let w : x ∷ (xs ++ a ∷ []) ≡ y ∷ (ys ++ b ∷ []) = h in cc)

ends_with : (ss : List Signal) (scene : ℕ → Scene) (end : ℕ) (text : List ℕ) → StampsAre (stamped ss scene 0 end) 0 end text
    → (front : List ℕ) × (stamps text ≡ front ++ (5 * end) ∷ [])
ends_with ss scene end text s = elim (cases_lt 0 end) [
  | inl some ↦ (s.front, s.last some)
  | inr none ↦
      let zero' : end ≡ 0 = omega arith in (
        [],
        s.are ∙ ap (λ k. map (λ t. 5 * t) (stamped ss scene 0 k)) zero' ∙ sym (ap (λ k. (5 * k) ∷ []) zero'),
      )
]

same_horizon : (dump : Dump) (first second : Option ℕ) (comment : List ℕ) (table : Table) (a b : Recording) → IsTrue (is_valid table) → IsTrace a → IsTrace b
    → HasNoFeed comment
    → dump_text dump (whole a.horizon) first comment table a ≡ dump_text dump (whole b.horizon) second comment table b → a.horizon ≡ b.horizon
same_horizon dump first second comment table a b valid left right plain texts =
    let m : ℕ = end_of_dump (whole a.horizon) a.horizon in
    let n : ℕ = end_of_dump (whole b.horizon) b.horizon in
    let one = ends_with (signals_in dump table a) (scene_at dump first table a.list) m (dump_text dump (whole a.horizon) first comment table a)
    (stamps_told dump (whole a.horizon) first comment table a valid left (whole_window a.horizon left.horizon) plain) in
    let two = ends_with (signals_in dump table b) (scene_at dump second table b.list) n (dump_text dump (whole b.horizon) second comment table b)
    (stamps_told dump (whole b.horizon) second comment table b valid right (whole_window b.horizon right.horizon) plain) in
    let last : 5 * m ≡ 5 * n = same_end one.0 two.0 (5 * m) (5 * n) (sym one.1 ∙ ap stamps texts ∙ two.1) in
    let p : m ≡ a.horizon = omega arith in
    let q : n ≡ b.horizon = omega arith in
    omega (arith, last, p, q)

-- ---- the whole
clear_single : (list : List Entry) (horizon : ℕ) → IsAscending list → AllByRecursion (IsBelow horizon) list → IsOrdered AreApart list
    → doubled list ≡ None
clear_single list horizon order below apart = single_by list (λ k x y i e into.
    let parts = and_parts (eqb x.terminal y.terminal) (ltb y.moment (end_of x)) into in
    let inside : y.moment < end_of x = ltb-true y.moment (end_of x) parts.1 in
    let some : 0 < bits y.message =
    bits_some y.message (of_each (IsBelow horizon) list below y (at_in list k y e)).message.some in
    let begun : x.moment ≤ y.moment = elim (precedes list k x y order i e) [
      | inl before ↦ omega arith
      | inr beside ↦ (let same : x.moment ≡ y.moment = beside.0 in omega arith)
    ] in
    let over : overlaps x y ≡ true =
    rw (lt-ltb x.moment (end_of y) (omega (arith, begun, some)), lt-ltb y.moment (end_of x) inside) refl in
    true≢false (sym over ∙ before_it AreApart list k x y apart i e))

right_list : (trace : Recording) → IsTrace trace → IsShownWhole trace → IsRight trace.list trace.horizon
right_list trace is w = record {
  clear = record { single = clear_single trace.list trace.horizon is.order is.list w.apart; apart = w.apart };
  below = is.list;
  ended = w.ended;
}

pub nothing_lost : NothingIsLost
nothing_lost dump first second comment table a b words valid left right plain whole other texts =
    let horizons : a.horizon ≡ b.horizon = same_horizon dump first second comment table a b valid left right plain texts in
    let h : AreDumped dump first second comment table a b =
    record { words = words; valid = valid; left = left; right = right; plain = plain; horizons = horizons; texts = texts } in
    let c : IsRight a.list a.horizon = right_list a left whole in
    let d : IsRight b.list b.horizon = right_list b right other in (
      horizons,
      same_ascending a.list b.list left.order right.order
          (in_other a.list b.list a.horizon c (subst (IsRight b.list) (sym horizons) d) (λ x i. same_terminal dump first second comment table a b x h i))
          (in_other b.list a.list b.horizon d (subst (IsRight a.list) horizons c) (λ x i. same_terminal dump second first comment table b a x (turned dump first second comment table a b h) i)),
    )
