-- The terminals that titles name are those that receive words.
use Rattle.std.proofs.Common.{◌≡◌, ℕ, zero, suc, ◌+◌, ◌<◌, ◌≤◌, Bool, true, false, cond, List, [], ◌∷◌, length, filter, inl, inr, arith, refl, sym, ap, subst, ◌∙◌}
use Rattle.std.specs.Prelude.{◌&&◌, ◌==◌, nat_lt, not}
use Rattle.std.specs.List.{flat_map, list_any, range_with_len, zip}
use Rattle.std.proofs.lemmas.Bool.{and_parts, cases_eq, eq-eqb, eqb-true, lt-ltb, ltb-true, and_from}
use Rattle.bus_strings.proofs.ListLaws.{flat_map-map, flat_map-passing, flat_map-same}
use Rattle.bus_strings.proofs.MemberLaws.{any_in, from_filter, from_map, in_filter, in_map, any_found}
use Rattle.bus_strings.specs.Limits.{most_terminal}
use Rattle.bus_strings.specs.Members.{In}
use Rattle.bus_strings.specs.Messages.{Entry, Wordstring}
use Rattle.bus_strings.specs.Transmissions.{garbled, marks}
use Rattle.bus_table.specs.declared.line.TakeLine.{TakeLine}
use Rattle.bus_table.specs.Tables.{Table}
use Rattle.bus_filter.specs.Received.{ReceivedLine, Taker, entry_lines, is_heard, matches, received_line, selection, string_lines, takers}
use Rattle.bus_shapes.specs.declared.sent.Sent.{Sent}
use Rattle.bus_shapes.specs.SendingLaws.{IsToldOf}
use Rattle.bus_picture.specs.Takings.{does_take, is_taken_by, taken_by, takes_words}
use Rattle.bus_picture.specs.TakingLaws.{NamedReceive, ReceivesStrings, ReceivesWords, string_received}

-- ---- wordstring by wordstring
none_flat : (f : Wordstring → List ReceivedLine) (strings : List Wordstring) → flat_map (λ string. cond false (f string) []) strings ≡ []
none_flat f [] = refl
none_flat f (string ∷ strings) = none_flat f strings

by_string : (b : Bool) (f : Wordstring → List ReceivedLine) (strings : List Wordstring)
    → cond b (flat_map f strings) [] ≡ flat_map (λ string. cond b (f string) []) strings
by_string true f strings = refl
by_string false f strings = sym (none_flat f strings)

pub receives_strings : ReceivesStrings
receives_strings list taker =
    let marked : List (Entry × Bool) = zip list (marks list) in
    let test : Entry × Bool → Bool = is_heard taker.number in
    flat_map-map (entry_lines taker.takes) (λ (m : Entry × Bool). m.0) (filter test marked)
    ∙ sym (flat_map-passing test (λ (m : Entry × Bool). entry_lines taker.takes m.0) marked)
    ∙ flat_map-same (λ (m : Entry × Bool). cond (test m) (entry_lines taker.takes m.0) []) (λ (m : Entry × Bool). flat_map (string_received taker m) m.0.message) marked
    (λ m. by_string (test m) (string_lines taker.takes m.0.moment) m.0.message)

-- ---- who is named
in_range : (start len n : ℕ) → start ≤ n → n < start + len → In n (range_with_len start len)
in_range start zero n low high = absurd (let no : n < n = omega arith in omega (arith, no))
in_range start (suc len) n low high =
    elim (cases_eq n start) [
      | inl same ↦ inl same
      | inr other ↦ inr (in_range (start + 1) len n (omega (arith, other)) (omega arith))
    ]

-- What is heard of an entry is what the title says of its transmission.
heard_as : (list : List Entry) (x : Sent) (t : IsToldOf list x) (n : ℕ) → is_heard n (t.entry, garbled list x.at) ≡ (not x.garbled && not (x.terminal == n))
heard_as list x t n =
    ap (λ g. not g && not (t.entry.terminal == n)) (sym (ap (λ (s : Sent). s.garbled) t.told))
    ∙ ap (λ m. not x.garbled && not (m == n)) (sym (ap (λ (s : Sent). s.terminal) t.told))

named : (table : Table) (list : List Entry) (x : Sent) (string : Wordstring) (n : ℕ) (t : IsToldOf list x) → In n (taken_by table x string)
    → ReceivesWords table (t.entry, garbled list x.at) string n
named table list x string n t i =
    let kept = from_filter (is_taken_by table x string) (range_with_len 1 most_terminal) n i in
    let found = any_found (λ (taker : Taker). taker.number == n && does_take x string taker) (takers table) kept.1 in
    let taker : Taker = found.0 in
    let parts = and_parts (taker.number == n) (does_take x string taker) found.2 in
    let heard_too = and_parts (not x.garbled && not (x.terminal == taker.number)) (list_any (takes_words string) taker.takes) parts.1 in
    let taking = any_found (takes_words string) taker.takes heard_too.1 in
    let line : TakeLine = taking.0 in
    let halves = and_parts (matches line string.label string.ext) (nat_lt 0 (length (selection line string.words))) taking.2 in
    let hears : is_heard taker.number (t.entry, garbled list x.at) ≡ true = heard_as list x t taker.number ∙ heard_too.0 in
    let one : In (received_line t.entry.moment string line) (string_lines taker.takes t.entry.moment string) =
    in_map (received_line t.entry.moment string) (filter (λ (l : TakeLine). matches l string.label string.ext) taker.takes) line
    (in_filter (λ (l : TakeLine). matches l string.label string.ext) taker.takes line taking.1 halves.0) in
    record {
      taker = taker;
      of_table = found.1;
      number = eqb-true taker.number n parts.0;
      line = received_line t.entry.moment string line;
      received = subst (λ b. In (received_line t.entry.moment string line) (cond b (string_lines taker.takes t.entry.moment string) [])) (sym hears) one;
      some = ltb-true 0 (length (selection line string.words)) halves.1;
    }

-- What is received is of a terminal that hears, by one of its lines.
record ByLine (taker : Taker) (moment : ℕ) (string : Wordstring) (line : ReceivedLine) (b : Bool) : Type 0 where
  hears : b ≡ true
  by : TakeLine
  one : In by taker.takes
  matching : matches by string.label string.ext ≡ true
  words : line.words ≡ selection by string.words

by_line : (taker : Taker) (moment : ℕ) (string : Wordstring) (line : ReceivedLine) (b : Bool) → In line (cond b (string_lines taker.takes moment string) [])
    → ByLine taker moment string line b
by_line taker moment string line true i =
    let from = from_map (received_line moment string) (filter (λ (l : TakeLine). matches l string.label string.ext) taker.takes) line i in
    let kept = from_filter (λ (l : TakeLine). matches l string.label string.ext) taker.takes from.0 from.1 in
    record { hears = refl; by = from.0; one = kept.0; matching = kept.1; words = sym (ap (λ (r : ReceivedLine). r.words) from.2) }
by_line taker moment string line false i = absurd i

receives : (table : Table) (list : List Entry) (x : Sent) (string : Wordstring) (n : ℕ) (t : IsToldOf list x) → 1 ≤ n → n ≤ most_terminal
    → ReceivesWords table (t.entry, garbled list x.at) string n → In n (taken_by table x string)
receives table list x string n t low high r =
    let by = by_line r.taker t.entry.moment string r.line (is_heard r.taker.number (t.entry, garbled list x.at)) r.received in
    let hears : (not x.garbled && not (x.terminal == r.taker.number)) ≡ true = sym (heard_as list x t r.taker.number) ∙ by.hears in
    let some : 0 < length (selection by.by string.words) = subst (λ (ws : List ℕ). 0 < length ws) by.words r.some in
    let takes : takes_words string by.by ≡ true =
    and_from (matches by.by string.label string.ext) (nat_lt 0 (length (selection by.by string.words))) by.matching (lt-ltb 0 (length (selection by.by string.words)) some) in
    let does : does_take x string r.taker ≡ true =
    and_from (not x.garbled && not (x.terminal == r.taker.number)) (list_any (takes_words string) r.taker.takes) hears
    (any_in (takes_words string) r.taker.takes by.by by.one takes) in
    in_filter (is_taken_by table x string) (range_with_len 1 most_terminal) n (in_range 1 most_terminal n low (omega arith))
    (any_in (λ (taker : Taker). taker.number == n && does_take x string taker) (takers table) r.taker r.of_table
    (and_from (r.taker.number == n) (does_take x string r.taker) (eq-eqb r.taker.number n r.number) does))

pub named_receive : NamedReceive
named_receive table list x string n told low high =
    (named table list x string n told, receives table list x string n told low high)
