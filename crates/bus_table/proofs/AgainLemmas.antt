-- A text that stands for a table is read as that table, line by line.
use Rattle.std.proofs.Common.{arith, ◌≡◌, ℕ, ◌+◌, ◌<◌, ◌≤◌, Bool, true, false, cond, ◌==◌, nat_lt, nat_le, List, [], ◌∷◌, ◌++◌, length, map, codes, Some, Result, Ok, Err, refl, sym, ap, subst, ◌∙◌, append_assoc}
use Rattle.std.specs.List.{flat_map, list_all, AllByRecursion}
use Rattle.std.specs.Int.{is_in_range as in_numbers}
use Rattle.std.proofs.lemmas.Bool.{and_parts, and_from, lt-ltb}
use Rattle.std.proofs.lemmas.Bool.Decides.{nat_tests}
use Rattle.std.proofs.lemmas.List.{append-nil, length_push}
use Rattle.bus_text.specs.declared.reason.Reason.{Reason}
use Rattle.bus_text.specs.declared.reason.Reason.TheVariants as reasons
use Rattle.bus_text.specs.AllOf.{◌>>=◌}
use Rattle.bus_text.specs.Lines.{Entry, entries_of, line_after_of}
use Rattle.bus_text.specs.Refusals.{at_line}
use Rattle.bus_table.specs.declared.mode.Mode.{Mode}
use Rattle.bus_table.specs.declared.mode.Mode.TheVariants.{Aperiodic, Periodic}
use Rattle.bus_table.specs.declared.keyword.Keyword.{Keyword}
use Rattle.bus_table.specs.declared.keyword.Keyword.TheVariants as keywords
use Rattle.bus_table.specs.declared.stage.Stage.{Stage}
use Rattle.bus_table.specs.declared.stage.Stage.TheVariants as stages
use Rattle.bus_table.specs.Drafts.{Draft, draft_of, start, of_last, may_come, may_end, opened, hearing, with_send, with_take, with_heard, with_last, form_reading, keyword_reading, line_reading}
use Rattle.bus_table.specs.Forms.{keyword_of}
use Rattle.bus_table.specs.Heads.{Head, is_head}
use Rattle.bus_table.specs.Ranges.{is_number, is_ti, is_sg, is_send_line, is_take_line, is_sender, is_listener}
use Rattle.bus_table.specs.Reading.{steps, table_of, ended, text_reading}
use Rattle.bus_table.specs.Tables.{SendLine, TakeLine, Sender, Listener, Table}
use Rattle.bus_table.specs.Text.{Line, TableLine, ModeLine, TiLine, SgLine, SenderLine, Sends, Takes, ListenerLine, sender_lines, listener_lines, lines_of, IsLine, AreLines, IsTableText}
use Rattle.bus_table.specs.Valid.{fits_mode, is_in_range}
use Rattle.bus_table.proofs.LineLemmas.{table_again, mode_again, number_line_again, head_line_again, send_line_again, take_line_again, fits_offset}
use Rattle.bus_table.proofs.ReadingLemmas.{ranges_of}

word_line : (fields : List (List ℕ)) (keyword : Keyword) (draft : Draft) → keyword_of fields ≡ Some keyword → may_come draft keyword ≡ true → line_reading draft fields ≡ form_reading draft keyword fields
unfolding line_reading
word_line fields keyword draft e may = ap (λ k. keyword_reading draft k fields) e ∙ ap (λ t. cond t (form_reading draft keyword fields) (Err reasons.Keyword)) may

-- one more line is read
takes_line : (draft next : Draft) (entry : Entry) (entries : List Entry) → line_reading draft entry.fields ≡ Ok next → steps draft (entry ∷ entries) ≡ steps next entries
unfolding steps
takes_line draft next entry entries h = ap (λ r. at_line entry.number r >>= λ d. steps d entries) h

-- what a line makes of a draft
read_as : {A : Type 0} (make : A → Draft) (r : Result A Reason) (x : A) → r ≡ Ok x → (r >>= λ y. Ok (make y)) ≡ Ok (make x)
read_as make r x h = ap (λ q. q >>= λ y. Ok (make y)) h

-- a table of this mode before its senders, and of these listeners behind them
abbrev in_head : Stage → Mode → ℕ → ℕ → Draft
in_head stage mode ti sg = draft_of stage mode ti sg [] []

table_line : (mode : Mode) (fields : List (List ℕ)) → IsLine mode TableLine fields → line_reading start fields ≡ Ok (in_head stages.Table Aperiodic 0 0)
table_line mode fields h = word_line fields keywords.Table start (ap keyword_of h) refl ∙ ap (λ r. r >>= λ _. Ok (in_head stages.Table Aperiodic 0 0)) (table_again fields h)

mode_line : (mode : Mode) (fields : List (List ℕ)) → IsLine mode (ModeLine mode) fields → line_reading (in_head stages.Table Aperiodic 0 0) fields ≡ Ok (in_head stages.Mode mode 0 0)
mode_line mode fields h =
    word_line fields keywords.Mode (in_head stages.Table Aperiodic 0 0) (ap keyword_of h) refl
    ∙ read_as (λ m. in_head stages.Mode m 0 0) _ mode (mode_again mode fields h)

ti_line : (mode : Mode) (ti : ℕ) (fields : List (List ℕ)) → IsLine mode (TiLine ti) fields → is_ti ti ≡ true → line_reading (in_head stages.Mode mode 0 0) fields ≡ Ok (in_head stages.Ti mode ti 0)
ti_line mode ti fields h r =
    word_line fields keywords.Ti (in_head stages.Mode mode 0 0) (ap keyword_of h.parts) refl
    ∙ read_as (λ t. in_head stages.Ti mode t 0) _ ti (number_line_again is_ti fields (codes "TI") ti h r)

sg_line : (mode : Mode) (ti sg : ℕ) (fields : List (List ℕ)) → IsLine mode (SgLine sg) fields → is_sg sg ≡ true → line_reading (in_head stages.Ti mode ti 0) fields ≡ Ok (in_head stages.Sg mode ti sg)
sg_line mode ti sg fields h r =
    word_line fields keywords.Sg (in_head stages.Ti mode ti 0) (ap keyword_of h.parts) refl
    ∙ read_as (λ s. in_head stages.Sg mode ti s) _ sg (number_line_again is_sg fields (codes "SG") sg h r)

-- the keyword of a SENDER line
sender_word : (mode : Mode) (n tg at : ℕ) (fields : List (List ℕ)) → IsLine mode (SenderLine n tg at) fields → keyword_of fields ≡ Some keywords.Sender
sender_word Aperiodic n tg at fields h = ap keyword_of h.parts
sender_word Periodic n tg at fields h = ap keyword_of h.parts

-- the stages at which a sender block may begin
abbrev may_send : Stage → Bool
may_send stages.Sg = true
may_send stages.Send = true
may_send stages.Take = true
may_send stage = false

sender_may : (stage : Stage) (mode : Mode) (ti sg : ℕ) (done : List Sender) → may_send stage ≡ true → may_come (draft_of stage mode ti sg done []) keywords.Sender ≡ true
sender_may stages.Sg mode ti sg done h = refl
sender_may stages.Send mode ti sg done h = refl
sender_may stages.Take mode ti sg done h = refl
sender_may stage mode ti sg done h = absurd cc

sender_line : (stage : Stage) (mode : Mode) (ti sg : ℕ) (done : List Sender) (head : Head) (fields : List (List ℕ)) → may_send stage ≡ true → IsLine mode (SenderLine head.number head.tg head.at) fields → is_head head ≡ true → fits_offset mode head.at ≡ true
    → line_reading (draft_of stage mode ti sg done []) fields ≡ Ok (draft_of (stages.Sender head) mode ti sg done [])
sender_line stage mode ti sg done head fields may h r fits =
    word_line fields keywords.Sender (draft_of stage mode ti sg done []) (sender_word mode head.number head.tg head.at fields h) (sender_may stage mode ti sg done may)
    ∙ read_as (λ h. draft_of (stages.Sender h) mode ti sg done []) _ head (head_line_again mode fields head h r fits)

first_send : (mode : Mode) (ti sg : ℕ) (done : List Sender) (head : Head) (line : SendLine) (fields : List (List ℕ)) → IsLine mode (Sends line) fields → is_send_line line ≡ true
    → line_reading (draft_of (stages.Sender head) mode ti sg done []) fields ≡ Ok (draft_of stages.Send mode ti sg (done ++ opened head line ∷ []) [])
first_send mode ti sg done head line fields h r =
    word_line fields keywords.Send (draft_of (stages.Sender head) mode ti sg done []) (ap keyword_of h.parts) refl
    ∙ read_as (λ l. draft_of stages.Send mode ti sg (done ++ opened head l ∷ []) []) _ line (send_line_again fields line h r)

-- the last of some
of_last-push : {X : Type 0} (count : X → ℕ) (xs : List X) (x : X) → of_last count (xs ++ x ∷ []) ≡ count x
of_last-push count [] x = refl
of_last-push count (y ∷ []) x = refl
of_last-push count (y ∷ z ∷ xs) x = of_last-push count (z ∷ xs) x

with_last-push : {X : Type 0} (change : X → X) (xs : List X) (x : X) → with_last change (xs ++ x ∷ []) ≡ xs ++ change x ∷ []
with_last-push change [] x = refl
with_last-push change (y ∷ []) x = refl
with_last-push change (y ∷ z ∷ xs) x = ap (λ zs. y ∷ zs) (with_last-push change (z ∷ xs) x)

next_send : (mode : Mode) (ti sg : ℕ) (done : List Sender) (sender : Sender) (line : SendLine) (fields : List (List ℕ)) → length sender.sends < 31 → IsLine mode (Sends line) fields → is_send_line line ≡ true
    → line_reading (draft_of stages.Send mode ti sg (done ++ sender ∷ []) []) fields ≡ Ok (draft_of stages.Send mode ti sg (done ++ with_send line sender ∷ []) [])
next_send mode ti sg done sender line fields few h r =
    let senders = done ++ sender ∷ [] in
    let count = of_last-push (λ (s : Sender). length s.sends) done sender in
    word_line fields keywords.Send (draft_of stages.Send mode ti sg senders []) (ap keyword_of h.parts) (ap (λ n. nat_lt n 31) count ∙ lt-ltb (length sender.sends) 31 few)
    ∙ read_as (λ l. draft_of stages.Send mode ti sg (with_last (with_send l) senders) []) _ line (send_line_again fields line h r)
    ∙ ap (λ (ss : List Sender). Ok (draft_of stages.Send mode ti sg ss [])) (with_last-push (with_send line) done sender)

-- the stages of a sender's lines
abbrev is_sent : Stage → Bool
is_sent stages.Send = true
is_sent stages.Take = true
is_sent stage = false

next_take : (stage : Stage) (mode : Mode) (ti sg : ℕ) (done : List Sender) (sender : Sender) (line : TakeLine) (fields : List (List ℕ)) → is_sent stage ≡ true → length sender.takes < 64 → IsLine mode (Takes line) fields → is_take_line line ≡ true
    → line_reading (draft_of stage mode ti sg (done ++ sender ∷ []) []) fields ≡ Ok (draft_of stages.Take mode ti sg (done ++ with_take line sender ∷ []) [])
next_take stages.Send mode ti sg done sender line fields sent few h r =
    let senders = done ++ sender ∷ [] in
    let count = of_last-push (λ (s : Sender). length s.takes) done sender in
    word_line fields keywords.Take (draft_of stages.Send mode ti sg senders []) (ap keyword_of h.parts) (ap (λ n. nat_lt n 64) count ∙ lt-ltb (length sender.takes) 64 few)
    ∙ read_as (λ l. draft_of stages.Take mode ti sg (with_last (with_take l) senders) []) _ line (take_line_again fields line h r)
    ∙ ap (λ (ss : List Sender). Ok (draft_of stages.Take mode ti sg ss [])) (with_last-push (with_take line) done sender)
next_take stages.Take mode ti sg done sender line fields sent few h r =
    let senders = done ++ sender ∷ [] in
    let count = of_last-push (λ (s : Sender). length s.takes) done sender in
    word_line fields keywords.Take (draft_of stages.Take mode ti sg senders []) (ap keyword_of h.parts) (ap (λ n. nat_lt n 64) count ∙ lt-ltb (length sender.takes) 64 few)
    ∙ read_as (λ l. draft_of stages.Take mode ti sg (with_last (with_take l) senders) []) _ line (take_line_again fields line h r)
    ∙ ap (λ (ss : List Sender). Ok (draft_of stages.Take mode ti sg ss [])) (with_last-push (with_take line) done sender)
next_take stage mode ti sg done sender line fields sent few h r = absurd cc

-- the lines behind those of a terminal, once these are read
record Behind (draft made : Draft) (mode : Mode) (more : List Line) (entries : List Entry) : Type 0 where
  rest : List Entry
  lines : AreLines mode more rest
  same : steps draft entries ≡ steps made rest

-- a terminal with more lines
abbrev with_sends : Sender → List SendLine → Sender
with_sends sender [] = sender
with_sends sender (line ∷ lines) = with_sends (with_send line sender) lines

abbrev with_takes : Sender → List TakeLine → Sender
with_takes sender [] = sender
with_takes sender (line ∷ lines) = with_takes (with_take line sender) lines

abbrev with_all_heard : Listener → List TakeLine → Listener
with_all_heard listener [] = listener
with_all_heard listener (line ∷ lines) = with_all_heard (with_heard line listener) lines

sends_again : (lines : List SendLine) (mode : Mode) (ti sg : ℕ) (done : List Sender) (sender : Sender) (more : List Line) (entries : List Entry) → list_all is_send_line lines ≡ true → length sender.sends + length lines ≤ 31
    → AreLines mode (map Sends lines ++ more) entries → Behind (draft_of stages.Send mode ti sg (done ++ sender ∷ []) []) (draft_of stages.Send mode ti sg (done ++ with_sends sender lines ∷ []) []) mode more entries
sends_again [] mode ti sg done sender more entries h few are = record { rest = entries; lines = are; same = refl }
sends_again (line ∷ lines) mode ti sg done sender more [] h few are = absurd are
sends_again (line ∷ lines) mode ti sg done sender more (entry ∷ entries) h few are =
    let parts = and_parts (is_send_line line) _ h in
    let read = next_send mode ti sg done sender line entry.fields (omega arith) are.0 parts.0 in
    let behind = sends_again lines mode ti sg done (with_send line sender) more entries parts.1 (omega (arith, length_push sender.sends line)) are.1 in
    record {
      rest = behind.rest;
      lines = behind.lines;
      same = takes_line _ (draft_of stages.Send mode ti sg (done ++ with_send line sender ∷ []) []) entry entries read ∙ behind.same;
    }

-- the stage behind TAKE lines
abbrev taken_stage : Stage → List TakeLine → Stage
taken_stage stage [] = stage
taken_stage stage (line ∷ lines) = stages.Take

still_taken : (lines : List TakeLine) → taken_stage stages.Take lines ≡ stages.Take
still_taken [] = refl
still_taken (line ∷ lines) = refl

takes_again : (lines : List TakeLine) (stage : Stage) (mode : Mode) (ti sg : ℕ) (done : List Sender) (sender : Sender) (more : List Line) (entries : List Entry) → is_sent stage ≡ true → list_all is_take_line lines ≡ true → length sender.takes + length lines ≤ 64
    → AreLines mode (map Takes lines ++ more) entries → Behind (draft_of stage mode ti sg (done ++ sender ∷ []) []) (draft_of (taken_stage stage lines) mode ti sg (done ++ with_takes sender lines ∷ []) []) mode more entries
takes_again [] stage mode ti sg done sender more entries sent h few are = record { rest = entries; lines = are; same = refl }
takes_again (line ∷ lines) stage mode ti sg done sender more [] sent h few are = absurd are
takes_again (line ∷ lines) stage mode ti sg done sender more (entry ∷ entries) sent h few are =
    let parts = and_parts (is_take_line line) _ h in
    let read = next_take stage mode ti sg done sender line entry.fields sent (omega arith) are.0 parts.0 in
    let behind = takes_again lines stages.Take mode ti sg done (with_take line sender) more entries refl parts.1 (omega (arith, length_push sender.takes line)) are.1 in
    record {
      rest = behind.rest;
      lines = behind.lines;
      same = takes_line _ (draft_of stages.Take mode ti sg (done ++ with_take line sender ∷ []) []) entry entries read ∙ behind.same
          ∙ ap (λ (p : Stage). steps (draft_of p mode ti sg (done ++ with_takes (with_take line sender) lines ∷ []) []) behind.rest) (still_taken lines);
    }

with_sends-is : (sender : Sender) (lines : List SendLine) → with_sends sender lines ≡ record sender { sends = sender.sends ++ lines }
with_sends-is sender [] = ap (λ (ls : List SendLine). record sender { sends = ls }) (sym (append-nil sender.sends))
with_sends-is sender (line ∷ lines) = with_sends-is (with_send line sender) lines ∙ ap (λ (ls : List SendLine). record sender { sends = ls }) (append_assoc sender.sends (line ∷ []) lines)

with_takes-is : (sender : Sender) (lines : List TakeLine) → with_takes sender lines ≡ record sender { takes = sender.takes ++ lines }
with_takes-is sender [] = ap (λ (ls : List TakeLine). record sender { takes = ls }) (sym (append-nil sender.takes))
with_takes-is sender (line ∷ lines) = with_takes-is (with_take line sender) lines ∙ ap (λ (ls : List TakeLine). record sender { takes = ls }) (append_assoc sender.takes (line ∷ []) lines)

with_all_heard-is : (listener : Listener) (lines : List TakeLine) → with_all_heard listener lines ≡ record listener { takes = listener.takes ++ lines }
with_all_heard-is listener [] = ap (λ (ls : List TakeLine). record listener { takes = ls }) (sym (append-nil listener.takes))
with_all_heard-is listener (line ∷ lines) = with_all_heard-is (with_heard line listener) lines ∙ ap (λ (ls : List TakeLine). record listener { takes = ls }) (append_assoc listener.takes (line ∷ []) lines)

-- what is known of a sender of the table
record Ready (mode : Mode) (sender : Sender) : Type 0 where
  head : is_head (record { number = sender.number; tg = sender.tg; at = sender.at }) ≡ true
  some : 0 < length sender.sends
  few : length sender.sends ≤ 31
  sends : list_all is_send_line sender.sends ≡ true
  few_takes : length sender.takes ≤ 64
  takes : list_all is_take_line sender.takes ≡ true
  offset : fits_offset mode sender.at ≡ true

abbrev head_of : Sender → Head
head_of sender = record { number = sender.number; tg = sender.tg; at = sender.at }

-- the sender, as it grows
grown : (sender : Sender) (line : SendLine) (lines : List SendLine) → sender.sends ≡ line ∷ lines → with_takes (with_sends (opened (head_of sender) line) lines) sender.takes ≡ sender
grown sender line lines e =
    with_takes-is (with_sends (opened (head_of sender) line) lines) sender.takes
    ∙ ap (λ (s : Sender). record s { takes = s.takes ++ sender.takes }) (with_sends-is (opened (head_of sender) line) lines)
    ∙ ap (λ (ls : List SendLine). record { number = sender.number; tg = sender.tg; at = sender.at; sends = ls; takes = sender.takes }) (sym e)

-- where a sender block ends
abbrev block_end : Sender → Stage
block_end sender = taken_stage stages.Send sender.takes

block_may : (sender : Sender) → may_send (block_end sender) ≡ true
block_may sender = go sender.takes where
  go : (takes : List TakeLine) → may_send (taken_stage stages.Send takes) ≡ true
  go [] = refl
  go (t ∷ takes) = refl

sender_again : (sends : List SendLine) (sender : Sender) (stage : Stage) (mode : Mode) (ti sg : ℕ) (done : List Sender) (more : List Line) (entries : List Entry) → sender.sends ≡ sends → Ready mode sender → may_send stage ≡ true
    → AreLines mode (SenderLine sender.number sender.tg sender.at ∷ (map Sends sends ++ (map Takes sender.takes ++ more))) entries
    → Behind (draft_of stage mode ti sg done []) (draft_of (block_end sender) mode ti sg (done ++ sender ∷ []) []) mode more entries
sender_again [] sender stage mode ti sg done more entries e ready may are = absurd (omega (arith, ready.some, ap length e))
sender_again (line ∷ lines) sender stage mode ti sg done more [] e ready may are = absurd are
sender_again (line ∷ lines) sender stage mode ti sg done more (entry ∷ []) e ready may are = absurd are.1
sender_again (line ∷ lines) sender stage mode ti sg done more (entry ∷ next ∷ entries) e ready may are =
    let head = head_of sender in
    let sends = and_parts (is_send_line line) _ (ap (list_all is_send_line) (sym e) ∙ ready.sends) in
    let few : 1 + length lines ≤ 31 = omega (arith, ready.few, ap length e) in
    let sent = sends_again lines mode ti sg done (opened head line) (map Takes sender.takes ++ more) entries sends.1 few are.1.1 in
    let full = with_sends (opened head line) lines in
    let no_takes : full.takes ≡ [] = ap (λ (s : Sender). s.takes) (with_sends-is (opened head line) lines) in
    let behind = takes_again sender.takes stages.Send mode ti sg done full more sent.rest refl ready.takes (omega (arith, ready.few_takes, ap length no_takes)) sent.lines in
    record {
      rest = behind.rest;
      lines = behind.lines;
      same = takes_line (draft_of stage mode ti sg done []) (draft_of (stages.Sender head) mode ti sg done []) entry (next ∷ entries) (sender_line stage mode ti sg done head entry.fields may are.0 ready.head ready.offset)
          ∙ takes_line (draft_of (stages.Sender head) mode ti sg done []) (draft_of stages.Send mode ti sg (done ++ opened head line ∷ []) []) next entries (first_send mode ti sg done head line next.fields are.1.0 sends.0)
          ∙ sent.same
          ∙ behind.same
          ∙ ap (λ (s : Sender). steps (draft_of (block_end sender) mode ti sg (done ++ s ∷ []) []) behind.rest) (grown sender line lines e);
    }

-- where the senders end
abbrev senders_end : Stage → List Sender → Stage
senders_end stage [] = stage
senders_end stage (s ∷ senders) = senders_end (block_end s) senders

senders_may : (stage : Stage) (senders : List Sender) → may_send stage ≡ true → may_send (senders_end stage senders) ≡ true
senders_may stage [] h = h
senders_may stage (s ∷ senders) h = senders_may (block_end s) senders (block_may s)

senders_again : (senders : List Sender) (stage : Stage) (mode : Mode) (ti sg : ℕ) (done : List Sender) (more : List Line) (entries : List Entry) → AllByRecursion (Ready mode) senders → may_send stage ≡ true
    → AreLines mode (flat_map sender_lines senders ++ more) entries
    → Behind (draft_of stage mode ti sg done []) (draft_of (senders_end stage senders) mode ti sg (done ++ senders) []) mode more entries
senders_again [] stage mode ti sg done more entries ready may are = record {
  rest = entries;
  lines = are;
  same = ap (λ (ss : List Sender). steps (draft_of stage mode ti sg ss []) entries) (sym (append-nil done));
}
senders_again (sender ∷ senders) stage mode ti sg done more entries ready may are =
    let rest = flat_map sender_lines senders ++ more in
    let split = append_assoc (sender_lines sender) (flat_map sender_lines senders) more
    ∙ ap (λ ls. SenderLine sender.number sender.tg sender.at ∷ ls) (append_assoc (map Sends sender.sends) (map Takes sender.takes) rest) in
    let one = sender_again sender.sends sender stage mode ti sg done rest entries refl ready.0 may (subst (λ (ls : List Line). AreLines mode ls entries) split are) in
    let others = senders_again senders (block_end sender) mode ti sg (done ++ sender ∷ []) more one.rest ready.1 (block_may sender) one.lines in
    record {
      rest = others.rest;
      lines = others.lines;
      same = one.same ∙ others.same ∙ ap (λ (ss : List Sender). steps (draft_of (senders_end (block_end sender) senders) mode ti sg ss []) others.rest) (append_assoc done (sender ∷ []) senders);
    }

-- the stages at which a listener block may begin
listener_may : (stage : Stage) (mode : Mode) (ti sg : ℕ) (senders : List Sender) (heard : List Listener) → may_end stage ≡ true → may_come (draft_of stage mode ti sg senders heard) keywords.Listener ≡ true
listener_may stages.Sg mode ti sg senders heard h = refl
listener_may stages.Send mode ti sg senders heard h = refl
listener_may stages.Take mode ti sg senders heard h = refl
listener_may stages.Listener mode ti sg senders heard h = refl
listener_may stage mode ti sg senders heard h = absurd cc

send_ends : (stage : Stage) → may_send stage ≡ true → may_end stage ≡ true
send_ends stages.Sg h = refl
send_ends stages.Send h = refl
send_ends stages.Take h = refl
send_ends stage h = absurd cc

listener_line : (stage : Stage) (mode : Mode) (ti sg : ℕ) (senders : List Sender) (heard : List Listener) (n : ℕ) (fields : List (List ℕ)) → may_end stage ≡ true → IsLine mode (ListenerLine n) fields → is_number n ≡ true
    → line_reading (draft_of stage mode ti sg senders heard) fields ≡ Ok (draft_of stages.Listener mode ti sg senders (heard ++ hearing n ∷ []))
listener_line stage mode ti sg senders heard n fields may h r =
    word_line fields keywords.Listener (draft_of stage mode ti sg senders heard) (ap keyword_of h.parts) (listener_may stage mode ti sg senders heard may)
    ∙ read_as (λ n. draft_of stages.Listener mode ti sg senders (heard ++ hearing n ∷ [])) _ n (number_line_again is_number fields (codes "LISTENER") n h r)

next_heard : (mode : Mode) (ti sg : ℕ) (senders : List Sender) (heard : List Listener) (listener : Listener) (line : TakeLine) (fields : List (List ℕ)) → length listener.takes < 64 → IsLine mode (Takes line) fields → is_take_line line ≡ true
    → line_reading (draft_of stages.Listener mode ti sg senders (heard ++ listener ∷ [])) fields ≡ Ok (draft_of stages.Listener mode ti sg senders (heard ++ with_heard line listener ∷ []))
next_heard mode ti sg senders heard listener line fields few h r =
    let listeners = heard ++ listener ∷ [] in
    let count = of_last-push (λ (l : Listener). length l.takes) heard listener in
    word_line fields keywords.Take (draft_of stages.Listener mode ti sg senders listeners) (ap keyword_of h.parts) (ap (λ n. nat_lt n 64) count ∙ lt-ltb (length listener.takes) 64 few)
    ∙ read_as (λ l. draft_of stages.Listener mode ti sg senders (with_last (with_heard l) listeners)) _ line (take_line_again fields line h r)
    ∙ ap (λ (ls : List Listener). Ok (draft_of stages.Listener mode ti sg senders ls)) (with_last-push (with_heard line) heard listener)

heard_again : (lines : List TakeLine) (mode : Mode) (ti sg : ℕ) (senders : List Sender) (heard : List Listener) (listener : Listener) (more : List Line) (entries : List Entry) → list_all is_take_line lines ≡ true → length listener.takes + length lines ≤ 64
    → AreLines mode (map Takes lines ++ more) entries
    → Behind (draft_of stages.Listener mode ti sg senders (heard ++ listener ∷ [])) (draft_of stages.Listener mode ti sg senders (heard ++ with_all_heard listener lines ∷ [])) mode more entries
heard_again [] mode ti sg senders heard listener more entries h few are = record { rest = entries; lines = are; same = refl }
heard_again (line ∷ lines) mode ti sg senders heard listener more [] h few are = absurd are
heard_again (line ∷ lines) mode ti sg senders heard listener more (entry ∷ entries) h few are =
    let parts = and_parts (is_take_line line) _ h in
    let read = next_heard mode ti sg senders heard listener line entry.fields (omega arith) are.0 parts.0 in
    let behind = heard_again lines mode ti sg senders heard (with_heard line listener) more entries parts.1 (omega (arith, length_push listener.takes line)) are.1 in
    record {
      rest = behind.rest;
      lines = behind.lines;
      same = takes_line _ (draft_of stages.Listener mode ti sg senders (heard ++ with_heard line listener ∷ [])) entry entries read ∙ behind.same;
    }

-- where the listeners end
abbrev listeners_end : Stage → List Listener → Stage
listeners_end stage [] = stage
listeners_end stage (l ∷ listeners) = stages.Listener

nothing_left : (draft : Draft) → steps draft [] ≡ Ok draft
unfolding steps
nothing_left draft = refl

listeners_again : (listeners : List Listener) (stage : Stage) (mode : Mode) (ti sg : ℕ) (senders : List Sender) (heard : List Listener) (entries : List Entry) → list_all is_listener listeners ≡ true → may_end stage ≡ true
    → AreLines mode (flat_map listener_lines listeners) entries
    → steps (draft_of stage mode ti sg senders heard) entries ≡ Ok (draft_of (listeners_end stage listeners) mode ti sg senders (heard ++ listeners))
listeners_again [] stage mode ti sg senders heard [] range may are = nothing_left (draft_of stage mode ti sg senders heard) ∙ ap (λ (ls : List Listener). Ok (draft_of stage mode ti sg senders ls)) (sym (append-nil heard))
listeners_again [] stage mode ti sg senders heard (entry ∷ entries) range may are = absurd are
listeners_again (listener ∷ listeners) stage mode ti sg senders heard [] range may are = absurd are
listeners_again (listener ∷ listeners) stage mode ti sg senders heard (entry ∷ entries) range may are =
    let parts = and_parts (is_listener listener) _ range in
    let one = and_parts (is_number listener.number) _ parts.0 in
    let takes = and_parts (nat_le (length listener.takes) 64) _ one.1 in
    let most : length listener.takes ≤ 64 = grind (arith, nat_tests, takes.0) in
    let few : 0 + length listener.takes ≤ 64 = omega arith in
    let behind = heard_again listener.takes mode ti sg senders heard (hearing listener.number) (flat_map listener_lines listeners) entries takes.1 few are.1 in
    let whole = with_all_heard-is (hearing listener.number) listener.takes in
    takes_line (draft_of stage mode ti sg senders heard) (draft_of stages.Listener mode ti sg senders (heard ++ hearing listener.number ∷ [])) entry entries (listener_line stage mode ti sg senders heard listener.number entry.fields may are.0 one.0)
    ∙ behind.same
    ∙ ap (λ (l : Listener). steps (draft_of stages.Listener mode ti sg senders (heard ++ l ∷ [])) behind.rest) whole
    ∙ listeners_again listeners stages.Listener mode ti sg senders (heard ++ listener ∷ []) behind.rest parts.1 refl behind.lines
    ∙ ap (λ (ls : List Listener). Ok (draft_of (listeners_end stages.Listener listeners) mode ti sg senders ls)) (append_assoc heard (listener ∷ []) listeners)
    ∙ ap (λ (p : Stage). Ok (draft_of p mode ti sg senders (heard ++ listener ∷ listeners))) (still_heard listeners)
  where
    still_heard : (listeners : List Listener) → listeners_end stages.Listener listeners ≡ stages.Listener
    still_heard [] = refl
    still_heard (l ∷ listeners) = refl

ends_well : (stage : Stage) (listeners : List Listener) → may_end stage ≡ true → may_end (listeners_end stage listeners) ≡ true
ends_well stage [] h = h
ends_well stage (l ∷ listeners) h = refl

ready_sender : (mode : Mode) (sender : Sender) → is_sender sender ≡ true → fits_offset mode sender.at ≡ true → Ready mode sender
ready_sender mode sender range offset =
    let r = ranges_of sender range in
    let sends = and_parts (in_numbers 1 31 (length sender.sends)) _ r.sends in
    let count = and_parts (nat_le 1 (length sender.sends)) _ sends.0 in
    let takes = and_parts (nat_le (length sender.takes) 64) _ r.takes in
    record {
      head = and_from _ _ r.number (and_from _ _ r.gap r.offset);
      some = grind (arith, nat_tests, count.0);
      few = grind (arith, nat_tests, count.1);
      sends = sends.1;
      few_takes = grind (arith, nat_tests, takes.0);
      takes = takes.1;
      offset = offset;
    }

ready_senders : (mode : Mode) (senders : List Sender) → list_all is_sender senders ≡ true → fits_mode mode senders ≡ true → AllByRecursion (Ready mode) senders
ready_senders mode [] range fits = tt
ready_senders Aperiodic (s ∷ senders) range fits =
    let r = and_parts (is_sender s) _ range in
    let f = and_parts (s.at == 0) _ fits in
    (ready_sender Aperiodic s r.0 f.0, ready_senders Aperiodic senders r.1 f.1)
ready_senders Periodic (s ∷ senders) range fits = let r = and_parts (is_sender s) _ range in (ready_sender Periodic s r.0 refl, ready_senders Periodic senders r.1 refl)

abbrev raw_table : Mode → ℕ → ℕ → List Sender → List Listener → Table
raw_table mode ti sg senders listeners = record { mode = mode; ti = ti; sg = sg; senders = senders; listeners = listeners }

again_at : (mode : Mode) (ti sg : ℕ) (senders : List Sender) (listeners : List Listener) (entries : List Entry) (after : ℕ)
    → is_in_range (raw_table mode ti sg senders listeners) ≡ true → AreLines mode (lines_of (raw_table mode ti sg senders listeners)) entries
    → (steps start entries >>= ended after) ≡ Ok (raw_table mode ti sg senders listeners)
again_at mode ti sg senders listeners [] after range are = absurd are
again_at mode ti sg senders listeners (a ∷ []) after range are = absurd are.1
again_at mode ti sg senders listeners (a ∷ b ∷ []) after range are = absurd are.1.1
again_at mode ti sg senders listeners (a ∷ b ∷ c ∷ []) after range are = absurd are.1.1.1
again_at mode ti sg senders listeners (a ∷ b ∷ c ∷ d ∷ entries) after range are =
    let t = and_parts (is_ti ti) _ range in
    let s = and_parts (is_sg sg) _ t.1 in
    let in_senders = and_parts (list_all is_sender senders) _ s.1 in
    let in_listeners = and_parts (list_all is_listener listeners) _ in_senders.1 in
    let sent = senders_again senders stages.Sg mode ti sg [] (flat_map listener_lines listeners) entries (ready_senders mode senders in_senders.0 in_listeners.1) refl are.1.1.1.1 in
    let end = senders_end stages.Sg senders in
    let may = send_ends end (senders_may stages.Sg senders refl) in
    let last = draft_of (listeners_end end listeners) mode ti sg senders listeners in
    let read : steps start (a ∷ b ∷ c ∷ d ∷ entries) ≡ Ok last =
    takes_line start (in_head stages.Table Aperiodic 0 0) a (b ∷ c ∷ d ∷ entries) (table_line mode a.fields are.0)
    ∙ takes_line (in_head stages.Table Aperiodic 0 0) (in_head stages.Mode mode 0 0) b (c ∷ d ∷ entries) (mode_line mode b.fields are.1.0)
    ∙ takes_line (in_head stages.Mode mode 0 0) (in_head stages.Ti mode ti 0) c (d ∷ entries) (ti_line mode ti c.fields are.1.1.0 t.0)
    ∙ takes_line (in_head stages.Ti mode ti 0) (in_head stages.Sg mode ti sg) d entries (sg_line mode ti sg d.fields are.1.1.1.0 s.0)
    ∙ sent.same
    ∙ listeners_again listeners end mode ti sg senders [] sent.rest in_listeners.0 may sent.lines in
    ap (λ r. r >>= ended after) read ∙ ap (λ t. cond t (Ok (table_of last)) (Err (record { line = after; reason = reasons.Ended }))) (ends_well end listeners may)

pub text_again : (text : List ℕ) (table : Table) → IsTableText table text → text_reading text ≡ Ok table
unfolding text_reading
text_again text table h = again_at table.mode table.ti table.sg table.senders table.listeners (entries_of text) (line_after_of text) h.ranges h.lines
