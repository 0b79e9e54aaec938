-- What is observed of the senders of a table with the items of a messages text is a trace: every number of it lies in its range.
use Rattle.std.specs.Prelude.{◌≡◌, ℕ, suc, ◌<◌, ◌≤◌, ◌^◌, true, ◌&&◌, ◌==◌, nat_le, IsTrue, List, [], ◌∷◌, length}
use Rattle.std.specs.List.{list_all, AllByRecursion}
use Rattle.std.specs.Int.{is_in_range as is_between}
use Rattle.std.proofs.Common.{arith, refl, sym, ap, ◌∙◌, subst, inl, inr}
use Rattle.std.proofs.lemmas.Bool.{and_parts}
use Rattle.std.proofs.lemmas.Bool.Decides.{nat_tests}
use Rattle.bus_text.specs.Lines.{Entry as Line, entries_of}
use Rattle.bus_text.proofs.LineLaws.{length-entries_of-le}
use Rattle.bus_text.proofs.NumberLaws.{hexadecimal_value-lt}
use Rattle.bus_strings.specs.Grammar.{AreWords, AreStrings, IsItemLine, AreItemLines, AreMessageLines, IsMessagesText}
use Rattle.bus_strings.specs.Items.{Item, is_in_range}
use Rattle.bus_strings.specs.Limits.{horizon_limit, most_strings, most_words}
use Rattle.bus_strings.specs.Members.{In}
use Rattle.bus_strings.proofs.MemberLaws.{of_each, at_in, from_filter, from_map, all_in, pass_in}
use Rattle.bus_strings.specs.Messages.{Entry, Message, IsWordstring}
use Rattle.bus_strings.specs.Transmissions.{IsTransmission}
use Rattle.bus_table.specs.inside.Facts.{SenderFacts}
use Rattle.bus_table.specs.Fits.{allows, fits}
use Rattle.bus_table.specs.Hands.{message_of, items_of, hand_of, hands_of, are_hands}
use Rattle.bus_table.specs.Ranges.{is_label, is_ext, is_send_line, are_send_lines}
use Rattle.bus_table.specs.declared.line.SendLine.{SendLine}
use Rattle.bus_table.specs.Tables.{Sender, Table, Hand}
use Rattle.bus_table.specs.Valid.{is_valid}
use Rattle.bus_table.proofs.ValidLaws.{valid_facts}
use Rattle.bus_table.proofs.FillingLaws.{sends_in_range}
use Rattle.bus_table.proofs.FitLaws.{same_count}
use Rattle.bus_medium.specs.Lawful.{Station, IsRuled, IsDue}
use Rattle.bus_medium.proofs.StationLaws.{HasSender, stations_are_of_senders}
use Rattle.bus_medium.specs.Timings.{quiet_of, stations_of}
use Rattle.bus_trace.specs.Traces.{Recording, IsTrace}
use Rattle.bus_command.specs.Readers.{text_limit}
use Rattle.bus_tool.specs.Texts.{IsObserved}
use Rattle.bus_command.proofs.FewHands.{hands_few}
use Rattle.bus_tool.proofs.TraceLemmas.{observed_is_trace}

-- ---- a messages text has no more items than bytes
pub item_lines : (items : List Item) (lines : List Line) → AreItemLines items lines → length items ≡ length lines
item_lines [] [] h = refl
item_lines [] (line ∷ lines) h = absurd h
item_lines (item ∷ items) [] h = absurd h
item_lines (item ∷ items) (line ∷ lines) h = ap suc (item_lines items lines h.1)

message_lines : (items : List Item) (lines : List Line) → AreMessageLines items lines → length items ≤ length lines
message_lines items [] h = absurd h
message_lines items (line ∷ lines) h = (let same = item_lines items lines h.1 in omega (arith, same))

pub few_items : (items : List Item) (text : List ℕ) → IsMessagesText items text → length items ≤ length text
few_items items text h =
    let lines = message_lines items (entries_of text) h in
    let bytes = length-entries_of-le text in
    omega (arith, lines, bytes)

-- ---- the data words of an item are words
abbrev AreLow : List ℕ → Type 0
AreLow words = AllByRecursion (λ word. word < 2 ^ 16) words

words_low : (words : List ℕ) (fields : List (List ℕ)) → AreWords words fields → AreLow words
words_low [] fields h = tt
words_low (word ∷ words) [] h = absurd h
words_low (word ∷ words) (field ∷ fields) h =
    (subst (λ w. w < 2 ^ 16) h.0.value (hexadecimal_value-lt 4 field h.0.digits), words_low words fields h.1)

strings_low : (strings : List (List ℕ)) (fields : List (List ℕ)) → AreStrings strings fields → AllByRecursion AreLow strings
strings_low [] fields h = tt
strings_low (string ∷ []) fields h = (words_low string fields h, tt)
strings_low (string ∷ next ∷ strings) fields h = (words_low string h.0 h.3, strings_low (next ∷ strings) h.1 h.4)

item_line : (items : List Item) (lines : List Line) (item : Item) → AreItemLines items lines → In item items → (line : Line) × IsItemLine item line.fields
item_line [] lines item h i = absurd i
item_line (other ∷ items) [] item h i = absurd h
item_line (other ∷ items) (line ∷ lines) item h (inl same) = (line, subst (λ o. IsItemLine o line.fields) (sym same) h.0)
item_line (other ∷ items) (line ∷ lines) item h (inr i) = item_line items lines item h.1 i

-- the lines of the items of a messages text
pub message_items : (items : List Item) (lines : List Line) → AreMessageLines items lines → (own : List Line) × AreItemLines items own
message_items items [] h = absurd h
message_items items (line ∷ lines) h = (lines, h.1)

-- each has few words
abbrev AreShort : List (List ℕ) → Type 0
AreShort strings = list_all (λ string. nat_le (length string) most_words) strings ≡ true

item_short : (item : Item) → is_in_range item ≡ true → AreShort item.strings
item_short item h = (and_parts (is_between 1 most_strings (length item.strings)) _ (and_parts _ (is_between 1 most_strings (length item.strings) && list_all (λ string. nat_le (length string) most_words) item.strings) h).1).1

-- ---- a message of such strings, and of the lines of a sender
label_low : (line : SendLine) → is_send_line line ≡ true → line.label < 4096
label_low line h = (let parts = and_parts (is_label line.label) _ h in grind (arith, nat_tests, parts.0))

ext_low : (line : SendLine) → is_send_line line ≡ true → line.ext < 16
ext_low line h = (let parts = and_parts (is_label line.label) _ h in let ext = and_parts (is_ext line.ext) _ parts.1 in grind (arith, nat_tests, ext.0))

each_string : (sends : List SendLine) (strings : List (List ℕ)) → list_all is_send_line sends ≡ true → AreShort strings → AllByRecursion AreLow strings → AllByRecursion IsWordstring (message_of sends strings)
each_string [] strings h short low = tt
each_string (line ∷ sends) [] h short low = tt
each_string (line ∷ sends) (string ∷ strings) h short low =
    let parts = and_parts (is_send_line line) _ h in
    let counts = and_parts (nat_le (length string) most_words) _ short in
    let few : length string ≤ most_words = grind (arith, nat_tests, counts.0) in
    (record { label = label_low line parts.0; ext = ext_low line parts.0; few = few; words = low.0 }, each_string sends strings parts.1 counts.1 low.1)

-- from 1 to 31
record Counted (sends : List SendLine) : Type 0 where
  least : 1 ≤ length sends
  most : length sends ≤ most_strings

counted : (sends : List SendLine) → are_send_lines sends ≡ true → Counted sends
counted sends h =
    let range = and_parts (is_between 1 most_strings (length sends)) _ h in
    let count = and_parts (nat_le 1 (length sends)) _ range.0 in
    record { least = grind (arith, nat_tests, count.0); most = grind (arith, nat_tests, count.1) }

-- ---- a transmission of a sender with one of these messages
-- one that items give
record IsMade (table : Table) (items : List Item) (message : Message) : Type 0 where
  sender : Sender
  there : In sender table.senders
  item : Item
  given : In item items
  same : message ≡ message_of sender.sends item.strings

made_of : (table : Table) (items : List Item) (hand : Hand) (message : Message) → In hand (hands_of table items) → In message hand.messages → IsMade table items message
made_of table items hand message i k =
    let dealt = from_map (hand_of items) table.senders hand i in
    let sender : Sender = dealt.0 in
    let there : In message (hand_of items sender).messages = subst (λ (h : Hand). In message h.messages) (sym dealt.2) k in
    let made = from_map (λ item. message_of sender.sends item.strings) (items_of sender.number items) message there in
    record {
      sender = sender;
      there = dealt.1;
      item = made.0;
      given = (from_filter (λ item. item.terminal == sender.number) items made.0 made.1).0;
      same = sym made.2;
    }

in_range : (table : Table) (valid : IsTrue (is_valid table)) (sender : Sender) → In sender table.senders → SenderFacts table sender
in_range table valid sender there = of_each (SenderFacts table) table.senders (valid_facts table valid).senders sender there

wordstrings : (table : Table) (items : List Item) (lines : List Line) (message : Message) → IsTrue (is_valid table) → AreItemLines items lines → IsMade table items message → AllByRecursion IsWordstring message
wordstrings table items lines message valid stands made =
    let facts = in_range table valid made.sender made.there in
    let line = item_line items lines made.item stands made.given in
    let sends = and_parts (is_between 1 most_strings (length made.sender.sends)) _ (sends_in_range made.sender facts.in_range) in
    subst (AllByRecursion IsWordstring) (sym made.same)
    (each_string made.sender.sends made.item.strings sends.1 (item_short made.item line.1.ranges) (strings_low made.item.strings line.1.words line.1.strings))

-- a transmission of a message of a sender's hand
pub record IsOfHand (table : Table) (hands : List Hand) (x : Entry) : Type 0 where
  pub sender : Sender
  pub there : In sender table.senders
  pub number : x.terminal ≡ sender.number
  pub hand : Hand
  pub dealt : In hand hands
  pub fit : list_all (fits sender) hand.messages ≡ true
  pub message : In x.message hand.messages

pub of_hand : (table : Table) (items : List Item) (lines : List Line) (x : Entry) → IsTrue (is_valid table) → AreItemLines items lines → IsOfHand table (hands_of table items) x → IsTransmission x
of_hand table items lines x valid stands h =
    let facts = in_range table valid h.sender h.there in
    let count = counted h.sender.sends (sends_in_range h.sender facts.in_range) in
    let same = same_count allows h.sender.sends x.message (pass_in (fits h.sender) h.hand.messages x.message h.fit h.message) in
    record {
      positive = omega (arith, h.number, facts.number_least);
      low = omega (arith, h.number, facts.number_most);
      message = record {
        some = omega (arith, same, count.least);
        few = omega (arith, same, count.most);
        strings = wordstrings table items lines x.message valid stands (made_of table items h.hand x.message h.dealt h.message);
      };
    }

is_transmission : (due : List Entry → Station → ℕ → Type 0) (table : Table) (items : List Item) (lines : List Line) (until : ℕ) (list : List Entry) → IsTrue (is_valid table) → IsTrue (are_hands table.senders (hands_of table items)) → AreItemLines items lines
    → IsRuled due (stations_of table (hands_of table items)) until list → (x : Entry) → In x list → IsTransmission x
is_transmission due table items lines until list valid dealt stands lawful x i =
    let next = (lawful.sent x i).1 in
    let seat : HasSender table (hands_of table items) next.sender = stations_are_of_senders table (hands_of table items) next.sender valid dealt next.there in
    of_hand table items lines x valid stands (record {
      sender = seat.sender;
      there = seat.there;
      number = sym next.number ∙ seat.is.number;
      hand = seat.is.hand;
      dealt = seat.is.dealt;
      fit = seat.is.fit;
      message = subst (In x.message) seat.is.messages (at_in next.sender.hand _ x.message next.message);
    })

-- ---- the recording of what is observed is a trace
pub all_transmissions : (due : List Entry → Station → ℕ → Type 0) (table : Table) (items : List Item) (lines : List Line) (until : ℕ) (list : List Entry) → IsTrue (is_valid table)
    → IsTrue (are_hands table.senders (hands_of table items)) → AreItemLines items lines → IsRuled due (stations_of table (hands_of table items)) until list → AllByRecursion IsTransmission list
all_transmissions due table items lines until list valid dealt stands ruled = all_in IsTransmission list (is_transmission due table items lines until list valid dealt stands ruled)

pub observed_recording : (table : Table) (items : List Item) (text : List ℕ) (until : ℕ) (trace : Recording) → IsTrue (is_valid table) → IsTrue (are_hands table.senders (hands_of table items)) → IsMessagesText items text → length text ≤ text_limit → until ≤ horizon_limit
    → IsObserved table (hands_of table items) until trace → IsTrace trace
observed_recording table items text until trace valid dealt stands short within o =
    let items_few = few_items items text stands in
    let few = hands_few items table.senders (omega (arith, items_few, short)) in
    let own = message_items items (entries_of text) stands in
    let ranged = all_transmissions (IsDue (quiet_of table)) table items own.0 until trace.list valid dealt own.1 o.lawful in
    let is = observed_is_trace table (hands_of table items) until trace.holds trace.list within few o.holds o.lawful ranged in
    subst (λ (n : ℕ). IsTrace (record { horizon = n; holds = trace.holds; list = trace.list })) (sym o.horizon) is
