-- The terminals of a dump's signals are small, and so its dump is read.
use Rattle.std.proofs.Common.{ℕ, zero, suc, ◌+◌, ◌*◌, ◌^◌, ◌<◌, ◌≤◌, Bool, true, false, cond, leb, ltb, List, [], ◌∷◌, map, inl, inr, arith, refl, ◌∙◌}
use Rattle.std.specs.Prelude.{IsTrue}
use Rattle.std.specs.List.{AllByRecursion, filter, flat_map, range_with_len}
use Rattle.bus_strings.specs.Members.{In}
use Rattle.bus_strings.specs.Messages.{Entry}
use Rattle.bus_strings.proofs.ListLaws.{all_append}
use Rattle.bus_table.specs.Tables.{Sender, Table}
use Rattle.bus_table.proofs.TurnLaws.{from_sort}
use Rattle.bus_table.specs.Turns.{turn_key, turn_order}
use Rattle.bus_table.specs.Valid.{is_valid}
use Rattle.bus_table.specs.inside.Facts.{SenderFacts}
use Rattle.bus_table.proofs.ValidLaws.{valid_facts}
use Rattle.bus_dump.specs.declared.dump.Dump.{Dump}
use Rattle.bus_dump.specs.DumpTexts.{dump_text, end_of_dump, id_text, name_text}
use Rattle.bus_dump.specs.Lanes.{Lane, is_stranger, lanes, sender_lane, stranger_lane}
use Rattle.bus_dump.specs.Laws.{DumpsAreRead, IdentifiersDiffer, NamesAreDeclared}
use Rattle.bus_dump.specs.Scenes.{scene_at}
use Rattle.bus_dump.specs.Signals.{Signal, Carrier, Overlap, Sync, Breach, Word, bus_signals, has, lane_signals, signals, signals_of}
use Rattle.std.proofs.lemmas.Bool.{and_parts, leb-true, ltb-true}
use Rattle.bus_dump.proofs.NameLemmas.{name_declared, read_by_name}
use Rattle.bus_dump.proofs.ReadLemmas.{IsSmall, same_id}
use Rattle.bus_dump.proofs.ReadThroughLemmas.{small_filter, text_read}

abbrev IsSmallLane : Lane → Type 0
IsSmallLane lane = lane.terminal < 2 ^ 64

lane_small : (dump : Dump) (lane : Lane) → IsSmallLane lane → AllByRecursion IsSmall (lane_signals dump lane)
lane_small dump lane h = small_filter (has dump lane.sender) (signals_of lane.terminal) (h, (h, (h, (h, (h, (h, (h, (h, tt))))))))

lanes_small : (dump : Dump) (ls : List Lane) → AllByRecursion IsSmallLane ls → AllByRecursion IsSmall (flat_map (lane_signals dump) ls)
lanes_small dump [] h = tt
lanes_small dump (l ∷ ls) h = all_append IsSmall (lane_signals dump l) (flat_map (lane_signals dump) ls) (lane_small dump l h.0) (lanes_small dump ls h.1)

bus_small : (dump : Dump) → AllByRecursion IsSmall (bus_signals dump)
bus_small dump =
    let z : 0 < 2 ^ 64 = omega arith in
    small_filter (has dump false) (Carrier ∷ (Overlap ∷ (Sync ∷ (Breach ∷ (Word ∷ []))))) (z, (z, (z, (z, (z, tt)))))

strangers_small : (p : ℕ → Bool) (a n : ℕ) → a + n < 2 ^ 64 → AllByRecursion IsSmallLane (map stranger_lane (filter p (range_with_len a n)))
strangers_small p a zero h = tt
strangers_small p a (suc n) h =
    elim (p a) as (λ b. AllByRecursion IsSmallLane (map stranger_lane (cond b (a ∷ filter p (range_with_len (a + 1) n)) (filter p (range_with_len (a + 1) n))))) [
      | true ↦ (omega arith, strangers_small p (a + 1) n (omega arith))
      | false ↦ strangers_small p (a + 1) n (omega arith)
    ]

senders_small : (table : Table) (all : List Sender) → ((s : Sender) → In s all → In s table.senders) → AllByRecursion (SenderFacts table) table.senders
    → AllByRecursion IsSmallLane (map sender_lane all)
senders_small table [] from facts = tt
senders_small table (s ∷ all) from facts =
    let most : s.number ≤ 128 = (fact table.senders (from s (inl refl)) facts).number_most in
    (omega arith, senders_small table all (λ x i. from x (inr i)) facts)
  where
    fact : (xs : List Sender) → In s xs → AllByRecursion (SenderFacts table) xs → SenderFacts table s
    fact [] i f = absurd i
    fact (x ∷ xs) (inl same) f = rw same f.0
    fact (x ∷ xs) (inr i) f = fact xs i f.1

pub signals_small : (dump : Dump) (table : Table) (list : List Entry) → IsTrue (is_valid table) → AllByRecursion IsSmall (signals dump (lanes table list))
signals_small dump table list valid =
    let facts = valid_facts table valid in
    let strangers = map stranger_lane (filter (is_stranger table list) (range_with_len 1 128)) in
    all_append IsSmall (bus_signals dump) (flat_map (lane_signals dump) (lanes table list)) (bus_small dump)
    (lanes_small dump (lanes table list) (all_append IsSmallLane (map sender_lane (turn_order table)) strangers
    (senders_small table (turn_order table) (λ s i. from_sort (turn_key table.mode) table.senders s i) facts.senders)
    (strangers_small (is_stranger table list) 1 128 (omega arith))))

small_in : (ss : List Signal) (s : Signal) → In s ss → AllByRecursion IsSmall ss → IsSmall s
small_in [] s i h = absurd i
small_in (x ∷ ss) s (inl same) h = rw same h.0
small_in (x ∷ ss) s (inr i) h = small_in ss s i h.1

pub names_declared : NamesAreDeclared
names_declared dump window breach comment table trace signal valid is plain i =
    let ss : List Signal = signals dump (lanes table trace.list) in
    let small = signals_small dump table trace.list valid in
    name_declared comment ss (scene_at dump breach table trace.list) window.from (end_of_dump window trace.horizon) signal plain small
    (small_in ss signal i small) i

pub ids_differ : IdentifiersDiffer
ids_differ dump table list a b valid i j e =
    let ss : List Signal = signals dump (lanes table list) in
    let small = signals_small dump table list valid in
    same_id a b (small_in ss a i small) (small_in ss b j small) e

pub dump_read : DumpsAreRead
dump_read dump window breach comment table trace t signal valid is sound plain held i =
    let ss : List Signal = signals dump (lanes table trace.list) in
    let small = signals_small dump table trace.list valid in
    let limit : trace.horizon ≤ 2 ^ 40 = is.horizon in
    let rises : window.from < window.to = sound.some in
    let within : window.to ≤ 2 ^ 40 = sound.within in
    let parts = and_parts (leb window.from t) (ltb t window.to) held.held in
    let early : window.from ≤ t = leb-true window.from t parts.0 in
    let late : t < window.to = ltb-true t window.to parts.1 in
    let below : t < trace.horizon = held.below in
    let end : ℕ = end_of_dump window trace.horizon in
    read_by_name (name_text signal) (id_text signal) (dump_text dump window breach comment table trace) (5 * t)
    (names_declared dump window breach comment table trace signal valid is plain i)
    ∙ text_read comment ss (scene_at dump breach table trace.list) window.from end t signal plain small i (small_in ss signal i small) early (omega arith)
    (omega arith)
