-- What holds of each state that lines have given, and that a step keeps it.
use Rattle.std.proofs.Common.{arith, ◌≡◌, ℕ, ◌+◌, ◌/◌, ◌%◌, ◌<◌, ◌≤◌, ◌^◌, true, false, ◌==◌, List, [], ◌∷◌, ◌++◌}
use Rattle.std.proofs.Common.{length, Option, Some, None, Ok, refl, sym, ap, subst, ◌∙◌, length-append, append_assoc}
use Rattle.std.specs.Prelude.{nat_lt, nat_le, IsTrue}
use Rattle.std.specs.List.{AllByRecursion, list_all}
use Rattle.std.proofs.lemmas.Bool.{and_parts, eqb-true}
use Rattle.std.proofs.lemmas.Bool.Decides.{nat_tests}
use Rattle.bus_words.specs.declared.word.Kind.TheVariants.{Label}
use Rattle.bus_words.specs.declared.word.Word.{Word}
use Rattle.bus_strings.specs.Limits.{word_bits, inner_gap}
use Rattle.bus_strings.proofs.ListLaws.{all_push}
use Rattle.bus_strings.specs.Members.{In}
use Rattle.bus_strings.specs.Messages.{Entry, IsWordstring, IsMessage}
use Rattle.bus_strings.specs.Transmissions.{end_of}
use Rattle.bus_table.specs.declared.line.SendLine.{SendLine}
use Rattle.bus_table.specs.Fits.{allows, matches}
use Rattle.bus_table.specs.Ranges.{is_send_line}
use Rattle.bus_table.specs.Tables.{Sender, Table}
use Rattle.bus_table.proofs.TurnLaws.{numbers_differ}
use Rattle.bus_table.specs.Valid.{is_valid}
use Rattle.bus_table.proofs.ValidLaws.{valid_facts}
use Rattle.bus_words.specs.Words.{data_word}
use Rattle.bus_wave.specs.declared.fault.WaveReason.TheVariants.{Order}
use Rattle.bus_wave.specs.Judging.{Phase, Opened, Silent, Saying, Waiting, Closed, State, string_of, with_string, quiet_behind}
use Rattle.bus_wave.specs.Judging.{quiet_step, is_label_of, begins, beginner, begun, begin_step, label_step, data_step, end_behind, end_step}
use Rattle.bus_wave.specs.Reading.{is_closed}
use Rattle.bus_wave.specs.Spacing.{least_gap, IsOfSender, AreApart}
use Rattle.bus_wave.specs.WaveTexts.{WaveLine, Quiet, last_end, lines_up_to}
use Rattle.bus_wave.proofs.StateLemmas.{lines_of, earliest, bits_one, bits_push, bits_word, last_push, earliest_push, apart_push, apart_later}
use Rattle.bus_wave.proofs.StateLemmas.{quiet_more, sent, label_is, begin_lines, next_lines, data_lines}
use Rattle.bus_wave.proofs.SenderLemmas.{LineFacts, line_facts, send_facts, middle, found_sender, find_is, matched_count, matched_push}
use Rattle.bus_wave.proofs.StepLemmas.{ok_is, no_error, no_other}

-- ---- what holds of each state
-- a message of a sender is under way: the SEND lines before this one are those of its complete wordstrings
pub record IsBegun (table : Table) (x : Entry) (line : SendLine) (left : List SendLine) : Type 0 where
  pub sender : Sender
  pub among : In sender table.senders
  pub number : x.terminal ≡ sender.number
  pub before : List SendLine
  pub lines : sender.sends ≡ before ++ line ∷ left
  pub matched : matches allows before x.message ≡ true

-- within a wordstring
pub record IsSaying (table : Table) (at : ℕ) (list : List Entry) (x : Entry) (line : SendLine) (words : List ℕ) (left : List SendLine) : Type 0 where
  pub begun : IsBegun table x line left
  pub starts : earliest 0 list ≤ x.moment
  pub strings : AllByRecursion IsWordstring x.message
  pub values : AllByRecursion (λ word. word < 2 ^ 16) words
  pub few : length words ≤ line.most
  pub now : at ≡ end_of (with_string x (string_of line words))

-- between two wordstrings
pub record IsWaiting (table : Table) (at : ℕ) (list : List Entry) (x : Entry) (next : SendLine) (left : List SendLine) : Type 0 where
  pub begun : IsBegun table x next left
  pub some : 0 < length x.message
  pub starts : earliest 0 list ≤ x.moment
  pub strings : AllByRecursion IsWordstring x.message
  pub now : at ≡ end_of x + inner_gap

abbrev pub PhaseSound : Table → ℕ → List Entry → Phase → Type 0
PhaseSound table at list Opened = (at ≡ 0) × (list ≡ [])
PhaseSound table at list (Silent free) = free ≡ true → earliest 0 list ≤ at
PhaseSound table at list (Saying x line words left) = IsSaying table at list x line words left
PhaseSound table at list (Waiting x next left) = IsWaiting table at list x next left
PhaseSound table at list Closed = Unit {0}

pub record Sound (table : Table) (s : State) : Type 0 where
  pub senders : AllByRecursion (IsOfSender table) s.list
  pub messages : AllByRecursion (λ x. IsMessage x.message) s.list
  pub apart : AreApart 0 s.at s.list
  pub phase : PhaseSound table s.at s.list s.phase

-- a state has these lines and one more, and isn't closed
pub record Follows (table : Table) (old : List WaveLine) (line : WaveLine) (s : State) : Type 0 where
  pub sound : Sound table s
  pub lines : lines_of s ≡ old ++ line ∷ []
  pub going : is_closed s.phase ≡ false

-- a state has the same lines, and is closed
pub record Ends (table : Table) (old : List WaveLine) (s : State) : Type 0 where
  pub sound : Sound table s
  pub lines : lines_of s ≡ old
  pub closed : is_closed s.phase ≡ true

-- ---- a whole message
record IsWhole (table : Table) (at : ℕ) (list : List Entry) (y : Entry) : Type 0 where
  sender : IsOfSender table y
  message : IsMessage y.message
  starts : earliest 0 list ≤ y.moment
  now : at ≡ end_of y

whole : (table : Table) → IsTrue (is_valid table) → (at : ℕ) (list : List Entry) (x : Entry) (line : SendLine) (words : List ℕ)
    → IsSaying table at list x line words [] → line.least ≤ length words → IsWhole table at list (with_string x (string_of line words))
whole table valid at list x line words h least =
    let b = h.begun in
    let facts = send_facts table valid b.sender b.among in
    let these : LineFacts line = line_facts line (middle b.before line [] (ap (list_all is_send_line) (sym b.lines) ∙ facts.lines)) in
    let fit : matches allows b.sender.sends (x.message ++ string_of line words ∷ []) ≡ true =
    ap (λ ls. matches allows ls (x.message ++ string_of line words ∷ [])) b.lines ∙ matched_push b.before x.message line words b.matched least h.few in
    let count : length (x.message ++ string_of line words ∷ []) ≡ length b.sender.sends = matched_count b.sender.sends (x.message ++ string_of line words ∷ []) fit in
    let string : IsWordstring (string_of line words) =
    record { label = these.label; ext = these.ext; few = (let k = h.few in let m = these.few in omega arith); words = h.values } in
    record {
      sender = record { sender = b.sender; found = found_sender table.senders b.sender x.terminal (numbers_differ table (valid_facts table valid)) b.among b.number; fits = fit };
      message = record {
        some = omega (arith, length-append x.message (string_of line words ∷ []));
        few = omega (arith, count, facts.few);
        strings = all_push IsWordstring x.message (string_of line words) h.strings string;
      };
      starts = h.starts;
      now = h.now;
    }

with_whole : (table : Table) (at now : ℕ) (list : List Entry) (y : Entry) (phase : Phase) → AllByRecursion (IsOfSender table) list
    → AllByRecursion (λ x. IsMessage x.message) list → AreApart 0 at list → IsWhole table at list y → at ≤ now
    → PhaseSound table now (list ++ y ∷ []) phase → Sound table (record { at = now; list = list ++ y ∷ []; phase = phase })
with_whole table at now list y phase senders messages apart w low h = record {
  senders = all_push (IsOfSender table) list y senders w.sender;
  messages = all_push (λ x. IsMessage x.message) list y messages w.message;
  apart = apart_push 0 at now list y apart low w.starts (let k = w.now in omega arith);
  phase = h;
}

-- ---- a Q line
quiet_behind_follows : (table : Table) → IsTrue (is_valid table) → (at : ℕ) (list : List Entry) (x : Entry) (line : SendLine) (words : List ℕ)
    (left : List SendLine) (n : ℕ) (s : State) → 1 ≤ n → Sound table (record { at = at; list = list; phase = Saying x line words left })
    → line.least ≤ length words
    → quiet_behind (record { at = at; list = list; phase = Saying x line words left }) n (with_string x (string_of line words)) left ≡ Ok s
    → Follows table (lines_up_to at (list ++ with_string x (string_of line words) ∷ [])) (Quiet n) s
quiet_behind_follows table valid at list x line words [] n s some h least e =
    let y : Entry = with_string x (string_of line words) in
    let w = whole table valid at list x line words h.phase least in
    let ends : last_end 0 (list ++ y ∷ []) ≡ at = last_push 0 list y ∙ sym w.now in
    let new : State = record { at = at + n; list = list ++ y ∷ []; phase = Silent (nat_le least_gap n) } in
    let free : nat_le least_gap n ≡ true → earliest 0 (list ++ y ∷ []) ≤ at + n =
    λ t. (let far : least_gap ≤ n = grind (arith, nat_tests, t) in let k = w.now in omega (arith, earliest_push 0 list y)) in
    subst (λ (m : State). Follows table (lines_up_to at (list ++ y ∷ [])) (Quiet n) m) (ok_is new s e) (record {
      sound = with_whole table at (at + n) list y (Silent (nat_le least_gap n)) h.senders h.messages h.apart w (omega arith) free;
      lines = quiet_more at n (list ++ y ∷ []) ends some;
      going = refl;
    })
quiet_behind_follows table valid at list x line words (next ∷ left) n s some h least e =
    let y : Entry = with_string x (string_of line words) in
    let p = no_other (n == inner_gap) _ Order s e in
    let gap : n ≡ inner_gap = eqb-true _ _ p.0 in
    let say : IsSaying table at list x line words (next ∷ left) = h.phase in
    let b = say.begun in
    let facts = send_facts table valid b.sender b.among in
    let these : LineFacts line = line_facts line (middle b.before line (next ∷ left) (ap (list_all is_send_line) (sym b.lines) ∙ facts.lines)) in
    let string : IsWordstring (string_of line words) =
    record { label = these.label; ext = these.ext; few = (let k = say.few in let m = these.few in omega arith); words = say.values } in
    let ends : last_end 0 (list ++ y ∷ []) ≡ at = last_push 0 list y ∙ sym say.now in
    let new : State = record { at = at + n; list = list; phase = Waiting y next left } in
    subst (λ (m : State). Follows table (lines_up_to at (list ++ y ∷ [])) (Quiet n) m) (ok_is new s p.1) (record {
      sound = record {
        senders = h.senders;
        messages = h.messages;
        apart = apart_later 0 at (at + n) list h.apart (omega arith);
        phase = record {
          begun = record {
            sender = b.sender;
            among = b.among;
            number = b.number;
            before = b.before ++ line ∷ [];
            lines = b.lines ∙ sym (append_assoc b.before (line ∷ []) (next ∷ left));
            matched = matched_push b.before x.message line words b.matched least say.few;
          };
          some = omega (arith, length-append x.message (string_of line words ∷ []));
          starts = say.starts;
          strings = all_push IsWordstring x.message (string_of line words) say.strings string;
          now = (let k = say.now in omega (arith, gap));
        };
      };
      lines = quiet_more at n (list ++ y ∷ []) ends some;
      going = refl;
    })

pub quiet_follows : (table : Table) → IsTrue (is_valid table) → (at : ℕ) (list : List Entry) (phase : Phase) (n : ℕ) (s : State) → 1 ≤ n
    → Sound table (record { at = at; list = list; phase = phase })
    → quiet_step phase (record { at = at; list = list; phase = phase }) n ≡ Ok s
    → Follows table (lines_of (record { at = at; list = list; phase = phase })) (Quiet n) s
quiet_follows table valid at list Opened n s some h e =
    let p = h.phase in
    let new : State = record { at = at + n; list = list; phase = Silent true } in
    let ends : last_end 0 list ≡ at = subst (λ l. last_end 0 l ≡ at) (sym p.1) (sym p.0) in
    let soon : earliest 0 list ≤ at + n = subst (λ l. earliest 0 l ≤ at + n) (sym p.1) (omega arith) in
    subst (λ (m : State). Follows table (lines_up_to at list) (Quiet n) m) (ok_is new s e) (record {
      sound = record { senders = h.senders; messages = h.messages; apart = apart_later 0 at (at + n) list h.apart (omega arith); phase = λ _. soon };
      lines = quiet_more at n list ends some;
      going = refl;
    })
quiet_follows table valid at list (Silent free) n s some h e = absurd cc
quiet_follows table valid at list (Saying x line words left) n s some h e =
    let p = no_error (nat_lt (length words) line.least) Order (quiet_behind (record { at = at; list = list; phase = Saying x line words left }) n (with_string x (string_of line words)) left) s e in
    quiet_behind_follows table valid at list x line words left n s some h (grind (arith, nat_tests, p.0)) p.1
quiet_follows table valid at list (Waiting x next left) n s some h e = absurd cc
quiet_follows table valid at list Closed n s some h e = absurd cc

-- ---- a label word
abbrev label_of : ℕ → Word
label_of value = record { kind = Label; value = value }

label_parts : (value : ℕ) (line : SendLine) → is_label_of value line ≡ true → (value / 16 ≡ line.label) × (value % 16 ≡ line.ext)
label_parts value line h =
    let p = and_parts (value / 16 == line.label) (value % 16 == line.ext) h in (eqb-true _ _ p.0, eqb-true _ _ p.1)

begun_follows : (table : Table) (at : ℕ) (list : List Entry) (sender : Sender) (sends : List SendLine) (value : ℕ) (s : State)
    → In sender table.senders → sender.sends ≡ sends → begins value sends ≡ true → AllByRecursion (IsOfSender table) list
    → AllByRecursion (λ x. IsMessage x.message) list → AreApart 0 at list → earliest 0 list ≤ at
    → (let new : State = record { at = at + word_bits; list = list; phase = begun (record { moment = at; terminal = sender.number; message = [] }) sends } in new) ≡ s
    → Follows table (lines_up_to at list) (sent (label_of value)) s
begun_follows table at list sender [] value s among lines first senders messages apart soon e = absurd cc
begun_follows table at list sender (line ∷ left) value s among lines first senders messages apart soon e =
    let x : Entry = record { moment = at; terminal = sender.number; message = [] } in
    let parts = label_parts value line first in
    subst (λ (m : State). Follows table (lines_up_to at list) (sent (label_of value)) m) e (record {
      sound = record {
        senders = senders;
        messages = messages;
        apart = apart_later 0 at (at + word_bits) list apart (omega arith);
        phase = record {
          begun = record { sender = sender; among = among; number = refl; before = []; lines = lines; matched = refl };
          starts = soon;
          strings = tt;
          values = tt;
          few = omega arith;
          now = omega (arith, bits_one (string_of line []));
        };
      };
      lines = begin_lines at list sender.number line (label_of value) (label_is line value parts.0 parts.1);
      going = refl;
    })

begin_follows : (table : Table) (at : ℕ) (list : List Entry) (phase : Phase) (o : Option Sender) (value : ℕ) (s : State)
    → beginner table.senders value ≡ o → Sound table (record { at = at; list = list; phase = phase }) → earliest 0 list ≤ at
    → begin_step (record { at = at; list = list; phase = phase }) o ≡ Ok s
    → Follows table (lines_up_to at list) (sent (label_of value)) s
begin_follows table at list phase None value s found h soon e = absurd cc
begin_follows table at list phase (Some sender) value s found h soon e =
    let w = find_is (λ sender. begins value sender.sends) table.senders sender found in
    begun_follows table at list sender sender.sends value s w.0 refl w.1 h.senders h.messages h.apart soon (ok_is _ s e)

pub label_follows : (table : Table) → IsTrue (is_valid table) → (at : ℕ) (list : List Entry) (phase : Phase) (value : ℕ) (s : State)
    → Sound table (record { at = at; list = list; phase = phase })
    → label_step table.senders phase (record { at = at; list = list; phase = phase }) value ≡ Ok s
    → Follows table (lines_of (record { at = at; list = list; phase = phase })) (sent (label_of value)) s
label_follows table valid at list Opened value s h e =
    let p = h.phase in
    begin_follows table at list Opened (beginner table.senders value) value s refl h (subst (λ l. earliest 0 l ≤ at) (sym p.1) (omega arith)) e
label_follows table valid at list (Silent free) value s h e =
    let p = no_other free (begin_step (record { at = at; list = list; phase = Silent free }) (beginner table.senders value)) Order s e in
    begin_follows table at list (Silent free) (beginner table.senders value) value s refl h (h.phase p.0) p.1
label_follows table valid at list (Saying x line words left) value s h e = absurd cc
label_follows table valid at list (Waiting x next left) value s h e =
    let p = no_other (is_label_of value next) _ Order s e in
    let wait : IsWaiting table at list x next left = h.phase in
    let parts = label_parts value next p.0 in
    let new : State = record { at = at + word_bits; list = list; phase = Saying x next [] left } in
    subst (λ (m : State). Follows table (lines_up_to at (list ++ x ∷ [])) (sent (label_of value)) m) (ok_is new s p.1) (record {
      sound = record {
        senders = h.senders;
        messages = h.messages;
        apart = apart_later 0 at (at + word_bits) list h.apart (omega arith);
        phase = record {
          begun = wait.begun;
          starts = wait.starts;
          strings = wait.strings;
          values = tt;
          few = omega arith;
          now = (let k = wait.now in omega (arith, bits_push x.message (string_of next []) wait.some));
        };
      };
      lines = next_lines at list x next (label_of value) (label_is next value parts.0 parts.1) wait.some wait.now;
      going = refl;
    })
label_follows table valid at list Closed value s h e = absurd cc

-- ---- a data word
pub data_follows : (table : Table) (at : ℕ) (list : List Entry) (phase : Phase) (value : ℕ) (s : State) → value < 2 ^ 16
    → Sound table (record { at = at; list = list; phase = phase })
    → data_step phase (record { at = at; list = list; phase = phase }) value ≡ Ok s
    → Follows table (lines_of (record { at = at; list = list; phase = phase })) (sent (data_word value)) s
data_follows table at list Opened value s low h e = absurd cc
data_follows table at list (Silent free) value s low h e = absurd cc
data_follows table at list (Saying x line words left) value s low h e =
    let p = no_other (nat_lt (length words) line.most) _ Order s e in
    let say : IsSaying table at list x line words left = h.phase in
    let room : length words < line.most = grind (arith, nat_tests, p.0) in
    let new : State = record { at = at + word_bits; list = list; phase = Saying x line (words ++ value ∷ []) left } in
    subst (λ (m : State). Follows table (lines_up_to at (list ++ with_string x (string_of line words) ∷ [])) (sent (data_word value)) m) (ok_is new s p.1) (record {
      sound = record {
        senders = h.senders;
        messages = h.messages;
        apart = apart_later 0 at (at + word_bits) list h.apart (omega arith);
        phase = record {
          begun = say.begun;
          starts = say.starts;
          strings = say.strings;
          values = all_push (λ word. word < 2 ^ 16) words value say.values low;
          few = omega (arith, length-append words (value ∷ []));
          now = (let k = say.now in omega (arith, bits_word x.message line words value));
        };
      };
      lines = data_lines at list x line words value say.now;
      going = refl;
    })
data_follows table at list (Waiting x next left) value s low h e = absurd cc
data_follows table at list Closed value s low h e = absurd cc

-- ---- the end
end_behind_ends : (table : Table) → IsTrue (is_valid table) → (at : ℕ) (list : List Entry) (x : Entry) (line : SendLine) (words : List ℕ)
    (left : List SendLine) (s : State) → Sound table (record { at = at; list = list; phase = Saying x line words left })
    → line.least ≤ length words
    → end_behind (record { at = at; list = list; phase = Saying x line words left }) (with_string x (string_of line words)) left ≡ Ok s
    → Ends table (lines_up_to at (list ++ with_string x (string_of line words) ∷ [])) s
end_behind_ends table valid at list x line words [] s h least e =
    let y : Entry = with_string x (string_of line words) in
    let w = whole table valid at list x line words h.phase least in
    let new : State = record { at = at; list = list ++ y ∷ []; phase = Closed } in
    subst (λ (m : State). Ends table (lines_up_to at (list ++ y ∷ [])) m) (ok_is new s e) (record {
      sound = with_whole table at at list y Closed h.senders h.messages h.apart w (omega arith) tt;
      lines = refl;
      closed = refl;
    })
end_behind_ends table valid at list x line words (next ∷ left) s h least e = absurd cc

no_more : (table : Table) (at : ℕ) (list : List Entry) (phase : Phase) (s : State) → Sound table (record { at = at; list = list; phase = phase })
    → (let new : State = record { at = at; list = list; phase = Closed } in new) ≡ s → Ends table (lines_up_to at list) s
no_more table at list phase s h e = subst (λ (m : State). Ends table (lines_up_to at list) m) e (record {
  sound = record { senders = h.senders; messages = h.messages; apart = h.apart; phase = tt };
  lines = refl;
  closed = refl;
})

pub end_ends : (table : Table) → IsTrue (is_valid table) → (at : ℕ) (list : List Entry) (phase : Phase) (s : State)
    → Sound table (record { at = at; list = list; phase = phase })
    → end_step phase (record { at = at; list = list; phase = phase }) ≡ Ok s
    → Ends table (lines_of (record { at = at; list = list; phase = phase })) s
end_ends table valid at list Opened s h e = no_more table at list Opened s h (ok_is _ s e)
end_ends table valid at list (Silent free) s h e = no_more table at list (Silent free) s h (ok_is _ s e)
end_ends table valid at list (Saying x line words left) s h e =
    let p = no_error (nat_lt (length words) line.least) Order (end_behind (record { at = at; list = list; phase = Saying x line words left }) (with_string x (string_of line words)) left) s e in
    end_behind_ends table valid at list x line words left s h (grind (arith, nat_tests, p.0)) p.1
end_ends table valid at list (Waiting x next left) s h e = absurd cc
end_ends table valid at list Closed s h e = absurd cc
