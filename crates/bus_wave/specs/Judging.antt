-- What the lines of a wave text have given so far, and what one symbol more gives. The rules of order:
--   no Q line stands behind a Q line;
--   a message begins with the label word of the first SEND line of a sender, and begins behind the first line, behind the Q line behind
--   that, or behind a Q line of at least 8 that stands behind a whole message;
--   behind a label word stand data words, at most as many as its SEND line's most; a Q line or END stands behind them only where they
--   are at least as many as its least;
--   where the sender has a further SEND line, the line `Q 4` follows, and then the label word of that SEND line; the message is whole
--   where the sender has none;
--   END doesn't stand within a message that isn't whole;
--   a label word and a data word stand nowhere else.
use Rattle.std.specs.Prelude.{ℕ, ◌+◌, ◌-◌, ◌*◌, ◌/◌, ◌%◌, Bool, true, false, ◌&&◌, ◌==◌, nat_lt, nat_le, List, [], ◌∷◌, ◌++◌, length, find}
use Rattle.std.specs.Prelude.{Option, Some, None, Result, Ok, Err, if◌then◌else◌}
use Rattle.std.specs.List.{sum_by}
use Rattle.bus_text.specs.AllOf.{◌>>=◌}
use Rattle.bus_words.specs.declared.word.Kind.{Kind}
use Rattle.bus_words.specs.declared.word.Kind.TheVariants.{Label, Plain}
use Rattle.bus_strings.specs.Limits.{horizon_limit, word_bits, inner_gap}
use Rattle.bus_strings.specs.Messages.{Wordstring, Entry}
use Rattle.bus_table.specs.declared.line.SendLine.{SendLine}
use Rattle.bus_table.specs.Tables.{Sender}
use Rattle.bus_wave.specs.declared.fault.WaveReason.{WaveReason}
use Rattle.bus_wave.specs.declared.fault.WaveReason.TheVariants.{Range, Order}
use Rattle.bus_wave.specs.declared.symbol.Symbol.{Symbol}
use Rattle.bus_wave.specs.declared.symbol.Symbol.TheVariants.{Quiet, Sent, End}
use Rattle.bus_wave.specs.Spacing.{least_gap}

-- Where the lines so far stand:
--   Opened                     behind the first line
--   Silent free                behind a Q line outside of messages; free: a message may begin
--   Saying x line words left   within a message, of which the wordstrings of x are complete: this SEND line's wordstring has these data
--                              words so far, and these SEND lines are left
--   Waiting x next left        behind the Q line behind the wordstrings of x: the label word of `next` has to come
--   Closed                     behind END
pub data Phase : Type 0 where
  Opened : Phase
  Silent : Bool → Phase
  Saying : Entry → SendLine → List ℕ → List SendLine → Phase
  Waiting : Entry → SendLine → List SendLine → Phase
  Closed : Phase

-- The bit times so far, the transmissions that are complete, and the phase.
pub record State : Type 0 where
  pub at : ℕ
  pub list : List Entry
  pub phase : Phase

-- Behind the first line.
abbrev pub opening : State
opening = record { at = 0; list = []; phase = Opened }

-- ---- the least rest of a begun message
-- The bit times of the shortest wordstrings of SEND lines, each behind an inner gap.
abbrev pub later : List SendLine → ℕ
later left = sum_by (λ line. inner_gap + word_bits * (1 + line.least)) left

-- The least bit times that a begun message still takes.
abbrev pub least_rest : Phase → ℕ
least_rest Opened = 0
least_rest (Silent free) = 0
least_rest (Saying x line words left) = word_bits * (line.least - length words) + later left
least_rest (Waiting x next left) = word_bits * (1 + next.least) + later left
least_rest Closed = 0

-- A state, unless its bit times pass the greatest horizon, counted with the least rest of a begun message.
abbrev pub bounded : State → Result State WaveReason
bounded s = if nat_le (s.at + least_rest s.phase) horizon_limit then Ok s else Err Range

-- ---- a Q line
-- A wordstring of a SEND line.
abbrev pub string_of : SendLine → List ℕ → Wordstring
string_of line words = record { label = line.label; ext = line.ext; words = words }

-- A transmission with one more wordstring.
abbrev pub with_string : Entry → Wordstring → Entry
with_string x string = record x { message = x.message ++ string ∷ [] }

-- Quiet behind the last data word that a wordstring may end with: the message goes on with these SEND lines, or is whole.
abbrev pub quiet_behind : State → ℕ → Entry → List SendLine → Result State WaveReason
quiet_behind s n x [] = Ok (record { at = s.at + n; list = s.list ++ x ∷ []; phase = Silent (nat_le least_gap n) })
quiet_behind s n x (next ∷ left) =
    if n == inner_gap then Ok (record { at = s.at + n; list = s.list; phase = Waiting x next left }) else Err Order

-- Quiet behind these data words of a wordstring of x.
abbrev pub pause_step : State → ℕ → Entry → SendLine → List ℕ → List SendLine → Result State WaveReason
pause_step s n x line words left =
    if nat_lt (length words) line.least then Err Order else quiet_behind s n (with_string x (string_of line words)) left

-- So many quiet bit times, of which there is one, behind a phase.
abbrev pub quiet_step : Phase → State → ℕ → Result State WaveReason
quiet_step Opened s n = Ok (record { at = s.at + n; list = s.list; phase = Silent true })
quiet_step (Silent free) s n = Err Order
quiet_step (Saying x line words left) s n = pause_step s n x line words left
quiet_step (Waiting x next left) s n = Err Order
quiet_step Closed s n = Err Order

-- ---- a label word
-- Whether a label word is that of a SEND line: the label in the upper twelve bits, the extension in the lower four.
abbrev pub is_label_of : ℕ → SendLine → Bool
is_label_of value line = value / 16 == line.label && value % 16 == line.ext

-- Whether a label word is that of the first of these SEND lines.
abbrev pub begins : ℕ → List SendLine → Bool
begins value [] = false
begins value (line ∷ left) = is_label_of value line

-- The sender whose messages begin with a label word.
abbrev pub beginner : List Sender → ℕ → Option Sender
beginner senders value = find (λ sender. begins value sender.sends) senders

-- The phase behind the label word of the first SEND line.
abbrev pub begun : Entry → List SendLine → Phase
begun x [] = Opened
begun x (line ∷ left) = Saying x line [] left

-- The label word with which a message of this sender begins.
abbrev pub begin_step : State → Option Sender → Result State WaveReason
begin_step s None = Err Order
begin_step s (Some sender) = Ok (record {
  at = s.at + word_bits;
  list = s.list;
  phase = begun (record { moment = s.at; terminal = sender.number; message = [] }) sender.sends;
})

-- A label word behind the wordstrings of x, where that of `next` has to come.
abbrev pub next_step : State → ℕ → Entry → SendLine → List SendLine → Result State WaveReason
next_step s value x next left =
    if is_label_of value next then Ok (record { at = s.at + word_bits; list = s.list; phase = Saying x next [] left }) else Err Order

-- A label word behind a phase.
abbrev pub label_step : List Sender → Phase → State → ℕ → Result State WaveReason
label_step senders Opened s value = begin_step s (beginner senders value)
label_step senders (Silent free) s value = if free then begin_step s (beginner senders value) else Err Order
label_step senders (Saying x line words left) s value = Err Order
label_step senders (Waiting x next left) s value = next_step s value x next left
label_step senders Closed s value = Err Order

-- ---- a data word
-- A data word behind a phase.
abbrev pub data_step : Phase → State → ℕ → Result State WaveReason
data_step Opened s value = Err Order
data_step (Silent free) s value = Err Order
data_step (Saying x line words left) s value =
    if nat_lt (length words) line.most
    then Ok (record { at = s.at + word_bits; list = s.list; phase = Saying x line (words ++ value ∷ []) left })
    else Err Order
data_step (Waiting x next left) s value = Err Order
data_step Closed s value = Err Order

-- ---- the end
-- The end behind the last data word that a wordstring may end with, where no SEND line is left.
abbrev pub end_behind : State → Entry → List SendLine → Result State WaveReason
end_behind s x [] = Ok (record { at = s.at; list = s.list ++ x ∷ []; phase = Closed })
end_behind s x (next ∷ left) = Err Order

-- The end behind these data words of a wordstring of x.
abbrev pub last_step : State → Entry → SendLine → List ℕ → List SendLine → Result State WaveReason
last_step s x line words left =
    if nat_lt (length words) line.least then Err Order else end_behind s (with_string x (string_of line words)) left

-- The end behind a phase.
abbrev pub end_step : Phase → State → Result State WaveReason
end_step Opened s = Ok (record { at = s.at; list = s.list; phase = Closed })
end_step (Silent free) s = Ok (record { at = s.at; list = s.list; phase = Closed })
end_step (Saying x line words left) s = last_step s x line words left
end_step (Waiting x next left) s = Err Order
end_step Closed s = Err Order

-- ---- one symbol more
-- A word behind a phase.
abbrev pub word_step : List Sender → Kind → State → ℕ → Result State WaveReason
word_step senders Label s value = label_step senders s.phase s value
word_step senders Plain s value = data_step s.phase s value

-- The state after one symbol more, where it keeps the rules of order.
abbrev pub order_step : List Sender → State → Symbol → Result State WaveReason
order_step senders s (Quiet n) = quiet_step s.phase s n
order_step senders s (Sent word) = word_step senders word.kind s word.value
order_step senders s End = end_step s.phase s

-- Whether a symbol is no bit time of quiet.
abbrev pub is_nothing : Symbol → Bool
is_nothing (Quiet n) = n == 0
is_nothing (Sent word) = false
is_nothing End = false

-- The state after one symbol more, or why there is none.
unfoldable pub step : List Sender → State → Symbol → Result State WaveReason
step senders s symbol = if is_nothing symbol then Err Range else order_step senders s symbol >>= bounded
