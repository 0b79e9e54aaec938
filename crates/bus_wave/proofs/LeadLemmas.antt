-- The lines of a spaced trace lead from the first line to the end.
use Rattle.std.proofs.Common.{arith, ◌≡◌, ℕ, ◌+◌, ◌*◌, ◌/◌, ◌%◌, ◌<◌, ◌≤◌, ◌^◌, true, false, cond, ◌&&◌, ◌==◌, List, [], ◌∷◌, ◌++◌}
use Rattle.std.proofs.Common.{length, map, Some, Result, Ok, Err, refl, sym, ap, subst, ◌∙◌, length-append, append_assoc, append-nil}
use Rattle.std.specs.Prelude.{nat_lt}
use Rattle.std.specs.List.{AllByRecursion, sum_by, flat_map}
use Rattle.std.proofs.lemmas.Bool.{eq-eqb}
use Rattle.std.proofs.lemmas.Bool.Decides.{nat_tests}
use Rattle.std.proofs.lemmas.List.Sums.{sum_by-cons}
use Rattle.bus_words.specs.declared.word.Word.{Word}
use Rattle.bus_words.specs.Words.{label_word, data_word}
use Rattle.bus_strings.specs.Limits.{horizon_limit, word_bits, inner_gap}
use Rattle.bus_strings.specs.Messages.{Wordstring, Message, Entry, IsWordstring, IsMessage, word_count, bits}
use Rattle.bus_table.specs.declared.line.SendLine.{SendLine}
use Rattle.bus_table.specs.Fits.{allows, matches}
use Rattle.bus_table.specs.Tables.{Sender}
use Rattle.bus_wave.specs.declared.fault.WaveReason.{WaveReason}
use Rattle.bus_wave.specs.declared.fault.WaveReason.TheVariants.{Order}
use Rattle.bus_wave.specs.declared.symbol.Symbol.TheVariants as symbol
use Rattle.bus_wave.specs.Judging.{Phase, Saying, Waiting, State, string_of, with_string, later}
use Rattle.bus_wave.specs.Judging.{is_label_of, beginner, begun, begin_step, label_step, order_step, step}
use Rattle.bus_wave.specs.Waves.{word_halves}
use Rattle.bus_wave.specs.WaveTexts.{WaveLine, Quiet, Halves, string_lines, message_lines}
use Rattle.bus_wave.proofs.StateLemmas.{sent}
use Rattle.bus_wave.proofs.SenderLemmas.{matched}
use Rattle.bus_wave.proofs.StepLemmas.{step_ok}

-- ---- lines that lead from one state to another
abbrev pub Leads : List Sender → State → List WaveLine → State → Type 0
Leads senders s [] e = s ≡ e
Leads senders s (Quiet n ∷ lines) e = (m : State) × (step senders s (symbol.Quiet n) ≡ Ok m) × Leads senders m lines e
Leads senders s (Halves halves ∷ lines) e =
    (m : State) × (word : Word) × (word.value < 2 ^ 16) × (halves ≡ word_halves word) × (step senders s (symbol.Sent word) ≡ Ok m) × Leads senders m lines e

pub lead_append : (senders : List Sender) (s m e : State) (ls ms : List WaveLine) → Leads senders s ls m → Leads senders m ms e
    → Leads senders s (ls ++ ms) e
lead_append senders s m e [] ms a b = subst (λ (k : State). Leads senders k ms e) (sym a) b
lead_append senders s m e (Quiet n ∷ ls) ms a b = (a.0, a.1, lead_append senders a.0 m e ls ms a.2 b)
lead_append senders s m e (Halves halves ∷ ls) ms a b = (a.0, a.1, a.2, a.3, a.4, lead_append senders a.0 m e ls ms a.5 b)

-- ---- what is left of a message
-- the bit times of further wordstrings
abbrev rest_bits : List Wordstring → ℕ
rest_bits strings = sum_by (λ string. inner_gap + word_bits * word_count string) strings

later_le : (left : List SendLine) (strings : List Wordstring) → matches allows left strings ≡ true → later left ≤ rest_bits strings
later_le [] [] h = omega arith
later_le [] (string ∷ strings) h = absurd cc
later_le (line ∷ left) [] h = absurd cc
later_le (line ∷ left) (string ∷ strings) h =
    let m = matched line left string strings h in
    let least : line.least ≤ length string.words = m.least in
    let rest : later left ≤ rest_bits strings = later_le left strings m.others in
    let a = sum_by-cons (λ (l : SendLine). inner_gap + word_bits * (1 + l.least)) line left in
    let b = sum_by-cons (λ (s : Wordstring). inner_gap + word_bits * word_count s) string strings in
    omega arith

bits_all : (string : Wordstring) (strings : List Wordstring) → bits (string ∷ strings) ≡ word_bits * word_count string + rest_bits strings
bits_all string strings = omega (arith, sum_by-cons word_count string strings, both strings) where
  both : (ss : List Wordstring) → rest_bits ss ≡ inner_gap * length ss + word_bits * sum_by word_count ss
  both [] = refl
  both (s ∷ ss) = omega (arith, both ss, sum_by-cons word_count s ss, sum_by-cons (λ (t : Wordstring). inner_gap + word_bits * word_count t) s ss)

-- ---- data words
data_lead : (senders : List Sender) (at : ℕ) (list : List Entry) (x : Entry) (line : SendLine) (left : List SendLine) (ws words : List ℕ)
    → length ws + length words ≤ line.most → line.least ≤ length ws + length words
    → at + word_bits * length words + later left ≤ horizon_limit → AllByRecursion (λ word. word < 2 ^ 16) words
    → Leads senders (record { at = at; list = list; phase = Saying x line ws left }) (map sent (map data_word words))
    (record { at = at + word_bits * length words; list = list; phase = Saying x line (ws ++ words) left })
data_lead senders at list x line left ws [] most least low values =
    let same : at ≡ at + 0 = omega arith in
    ap (λ n. (let s : State = record { at = n; list = list; phase = Saying x line ws left } in s)) same
    ∙ ap (λ vs. (let s : State = record { at = at + 0; list = list; phase = Saying x line vs left } in s)) (sym (append-nil ws))
data_lead senders at list x line left ws (v ∷ vs) most least low values =
    let old : State = record { at = at; list = list; phase = Saying x line ws left } in
    let m : State = record { at = at + word_bits; list = list; phase = Saying x line (ws ++ v ∷ []) left } in
    let one : length (ws ++ v ∷ []) ≡ length ws + 1 = omega (arith, length-append ws (v ∷ [])) in
    let room : nat_lt (length ws) line.most ≡ true = grind (arith, nat_tests) in
    let keeps : order_step senders old (symbol.Sent (data_word v)) ≡ Ok m = ap (λ b. cond b (Ok m) (Err Order)) room in
    let now = step_ok senders old (symbol.Sent (data_word v)) m (record { some = refl; keeps = keeps; low = omega arith }) in
    let rest = data_lead senders (at + word_bits) list x line left (ws ++ v ∷ []) vs (omega arith) (omega arith) (omega arith) values.1 in
    let place : at + word_bits + word_bits * length vs ≡ at + word_bits * length (v ∷ vs) = omega arith in
    let end = ap (λ n. (let s : State = record { at = n; list = list; phase = Saying x line ((ws ++ v ∷ []) ++ vs) left } in s)) place
    ∙ ap (λ zs. (let s : State = record { at = at + word_bits * length (v ∷ vs); list = list; phase = Saying x line zs left } in s)) (append_assoc ws (v ∷ []) vs) in
    (m, data_word v, values.0, refl, now, subst (λ (e : State). Leads senders m (map sent (map data_word vs)) e) end rest)

-- ---- a label word and its data words
string_is : (line : SendLine) (string : Wordstring) → string.label ≡ line.label → string.ext ≡ line.ext → string_of line string.words ≡ string
string_is line string a b =
    ap (λ l. (let s : Wordstring = record { label = l; ext = line.ext; words = string.words } in s)) (sym a)
    ∙ ap (λ l. (let s : Wordstring = record { label = string.label; ext = l; words = string.words } in s)) (sym b)

pub is_label : (line : SendLine) (string : Wordstring) → string.label ≡ line.label → string.ext ≡ line.ext → string.ext < 16
    → is_label_of (16 * string.label + string.ext) line ≡ true
is_label line string a b low =
    let high : (16 * string.label + string.ext) / 16 ≡ line.label = omega (arith, a) in
    let rest : (16 * string.label + string.ext) % 16 ≡ line.ext = omega (arith, b) in
    ap (λ t. t && (16 * string.label + string.ext) % 16 == line.ext) (eq-eqb _ _ high) ∙ eq-eqb _ _ rest

-- a label word that is taken in this state, and the data words behind it
words_lead : (senders : List Sender) (old : State) (x : Entry) (line : SendLine) (left : List SendLine) (string : Wordstring)
    → IsWordstring string → line.least ≤ length string.words → length string.words ≤ line.most
    → old.at + word_bits * word_count string + later left ≤ horizon_limit
    → (let m : State = record { at = old.at + word_bits; list = old.list; phase = Saying x line [] left } in
    order_step senders old (symbol.Sent (label_word string.label string.ext)) ≡ Ok m)
    → Leads senders old (string_lines string)
    (record { at = old.at + word_bits * word_count string; list = old.list; phase = Saying x line string.words left })
words_lead senders old x line left string right least most low keeps =
    let m : State = record { at = old.at + word_bits; list = old.list; phase = Saying x line [] left } in
    let label : Word = label_word string.label string.ext in
    let value : label.value < 2 ^ 16 = (let a = right.label in let b = right.ext in omega arith) in
    let now = step_ok senders old (symbol.Sent label) m (record { some = refl; keeps = keeps; low = omega arith }) in
    let rest = data_lead senders (old.at + word_bits) old.list x line left [] string.words (omega arith) (omega arith) (omega arith) right.words in
    let place : old.at + word_bits + word_bits * length string.words ≡ old.at + word_bits * word_count string = omega arith in
    let end = ap (λ n. (let s : State = record { at = n; list = old.list; phase = Saying x line string.words left } in s)) place in
    (m, label, value, refl, now, subst (λ (e : State). Leads senders m (map sent (map data_word string.words)) e) end rest)

-- ---- a message
-- within the last wordstring of this transmission, which may end here
pub record Reaches (senders : List Sender) (s : State) (lines : List WaveLine) (at : ℕ) (list : List Entry) (y : Entry) : Type 0 where
  pub x : Entry
  pub line : SendLine
  pub words : List ℕ
  pub least : line.least ≤ length words
  pub entry : with_string x (string_of line words) ≡ y
  pub leads : Leads senders s lines (record { at = at; list = list; phase = Saying x line words [] })

onto_reaches : (senders : List Sender) (s m : State) (ls ms : List WaveLine) (at : ℕ) (list : List Entry) (y : Entry)
    → Leads senders s ls m → Reaches senders m ms at list y → Reaches senders s (ls ++ ms) at list y
onto_reaches senders s m ls ms at list y a r =
    record { x = r.x; line = r.line; words = r.words; least = r.least; entry = r.entry; leads = lead_append senders s m _ ls ms a r.leads }

rest_reaches : (senders : List Sender) (at : ℕ) (list : List Entry) (x : Entry) (line : SendLine) (words : List ℕ) (left : List SendLine)
    (strings : List Wordstring) → matches allows left strings ≡ true → AllByRecursion IsWordstring strings → line.least ≤ length words
    → at + rest_bits strings ≤ horizon_limit
    → Reaches senders (record { at = at; list = list; phase = Saying x line words left })
    (flat_map (λ next. Quiet inner_gap ∷ string_lines next) strings) (at + rest_bits strings) list
    (record x { message = x.message ++ string_of line words ∷ strings })
rest_reaches senders at list x line words [] [] fit right least low = record {
  x = x;
  line = line;
  words = words;
  least = least;
  entry = refl;
  leads = (let same : at ≡ at + 0 = omega arith in ap (λ n. (let s : State = record { at = n; list = list; phase = Saying x line words [] } in s)) same);
}
rest_reaches senders at list x line words [] (string ∷ strings) fit right least low = absurd cc
rest_reaches senders at list x line words (next ∷ left) [] fit right least low = absurd cc
rest_reaches senders at list x line words (next ∷ left) (string ∷ strings) fit right least low =
    let fits_next = matched next left string strings fit in
    let label : string.label ≡ next.label = fits_next.label in
    let ext : string.ext ≡ next.ext = fits_next.ext in
    let few : next.least ≤ length string.words = fits_next.least in
    let many : length string.words ≤ next.most = fits_next.most in
    let rest_low : later left ≤ rest_bits strings = later_le left strings fits_next.others in
    let sums = sum_by-cons (λ (s : Wordstring). inner_gap + word_bits * word_count s) string strings in
    let y : Entry = with_string x (string_of line words) in
    let old : State = record { at = at; list = list; phase = Saying x line words (next ∷ left) } in
    let m : State = record { at = at + inner_gap; list = list; phase = Waiting y next left } in
    let test : nat_lt (length words) line.least ≡ false = grind (arith, nat_tests) in
    let keeps : order_step senders old (symbol.Quiet inner_gap) ≡ Ok m = ap (λ b. cond b (Err Order) (Ok m)) test in
    let now = step_ok senders old (symbol.Quiet inner_gap) m (record { some = refl; keeps = keeps; low = omega arith }) in
    let said : State = record { at = at + inner_gap + word_bits; list = list; phase = Saying y next [] left } in
    let low_ext : string.ext < 16 = (let k = right.0.ext in k) in
    let takes : order_step senders m (symbol.Sent (label_word string.label string.ext)) ≡ Ok said =
    ap (λ b. cond b (Ok said) (Err Order)) (is_label next string label ext low_ext) in
    let first = words_lead senders m y next left string right.0 few many (omega arith) takes in
    let spoken : State = record { at = at + inner_gap + word_bits * word_count string; list = list; phase = Saying y next string.words left } in
    let others = rest_reaches senders (at + inner_gap + word_bits * word_count string) list y next string.words left strings fits_next.others right.1 few (omega arith) in
    let place : at + inner_gap + word_bits * word_count string + rest_bits strings ≡ at + rest_bits (string ∷ strings) = omega arith in
    let message : (x.message ++ string_of line words ∷ []) ++ string_of next string.words ∷ strings ≡ x.message ++ string_of line words ∷ string ∷ strings =
    ap (λ s. (x.message ++ string_of line words ∷ []) ++ s ∷ strings) (string_is next string label ext) ∙ append_assoc x.message (string_of line words ∷ []) (string ∷ strings) in
    let gone : Leads senders old (Quiet inner_gap ∷ string_lines string) spoken = (m, now, first) in
    let all = onto_reaches senders old spoken (Quiet inner_gap ∷ string_lines string) (flat_map (λ s. Quiet inner_gap ∷ string_lines s) strings) _ list _ gone others in
    subst (λ (n : ℕ). Reaches senders old (flat_map (λ s. Quiet inner_gap ∷ string_lines s) (string ∷ strings)) n list (record x { message = x.message ++ string_of line words ∷ string ∷ strings })) place
    (subst (λ (ss : Message). Reaches senders old (flat_map (λ s. Quiet inner_gap ∷ string_lines s) (string ∷ strings)) (at + inner_gap + word_bits * word_count string + rest_bits strings) list (record x { message = ss })) message all)

-- a phase in which a message may begin
abbrev pub IsReady : Phase → Type 0
IsReady phase = (senders : List Sender) (s : State) (value : ℕ) → label_step senders phase s value ≡ begin_step s (beginner senders value)

pub message_reaches : (senders : List Sender) (at : ℕ) (list : List Entry) (phase : Phase) (sender : Sender) (message : Message) → IsReady phase
    → IsMessage message → matches allows sender.sends message ≡ true
    → ((string : Wordstring) (strings : List Wordstring) → message ≡ string ∷ strings → beginner senders (16 * string.label + string.ext) ≡ Some sender)
    → at + bits message ≤ horizon_limit
    → Reaches senders (record { at = at; list = list; phase = phase }) (message_lines message) (at + bits message) list
    (record { moment = at; terminal = sender.number; message = message })
message_reaches senders at list phase sender [] ready right fit found low = absurd (let k = right.some in omega arith)
message_reaches senders at list phase sender (string ∷ strings) ready right fit found low = by_sends sender.sends refl fit where
  by_sends : (sends : List SendLine) → sender.sends ≡ sends → matches allows sends (string ∷ strings) ≡ true
      → Reaches senders (record { at = at; list = list; phase = phase }) (message_lines (string ∷ strings)) (at + bits (string ∷ strings)) list
      (record { moment = at; terminal = sender.number; message = string ∷ strings })
  by_sends [] e h = absurd cc
  by_sends (line ∷ left) e h =
      let fits_line = matched line left string strings h in
      let label : string.label ≡ line.label = fits_line.label in
      let ext : string.ext ≡ line.ext = fits_line.ext in
      let few : line.least ≤ length string.words = fits_line.least in
      let many : length string.words ≤ line.most = fits_line.most in
      let rest_low : later left ≤ rest_bits strings = later_le left strings fits_line.others in
      let all_bits = bits_all string strings in
      let x : Entry = record { moment = at; terminal = sender.number; message = [] } in
      let old : State = record { at = at; list = list; phase = phase } in
      let said : State = record { at = at + word_bits; list = list; phase = Saying x line [] left } in
      let takes : order_step senders old (symbol.Sent (label_word string.label string.ext)) ≡ Ok said =
      ready senders old (16 * string.label + string.ext) ∙ ap (begin_step old) (found string strings refl)
      ∙ ap (λ ls. (let r : Result State WaveReason = Ok (record { at = at + word_bits; list = list; phase = begun x ls }) in r)) e in
      let first = words_lead senders old x line left string right.strings.0 few many (omega arith) takes in
      let spoken : State = record { at = at + word_bits * word_count string; list = list; phase = Saying x line string.words left } in
      let others = rest_reaches senders (at + word_bits * word_count string) list x line string.words left strings fits_line.others right.strings.1 few (omega arith) in
      let place : at + word_bits * word_count string + rest_bits strings ≡ at + bits (string ∷ strings) = omega arith in
      let all = onto_reaches senders old spoken (string_lines string) (flat_map (λ s. Quiet inner_gap ∷ string_lines s) strings) _ list _ first others in
      subst (λ (n : ℕ). Reaches senders old (message_lines (string ∷ strings)) n list (record { moment = at; terminal = sender.number; message = string ∷ strings })) place
      (subst (λ (s : Wordstring). Reaches senders old (message_lines (string ∷ strings)) (at + word_bits * word_count string + rest_bits strings) list (record { moment = at; terminal = sender.number; message = s ∷ strings })) (string_is line string label ext) all)
