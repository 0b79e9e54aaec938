-- The lines so far: each line that is read adds what it says.
use Rattle.std.proofs.Common.{arith, ◌≡◌, ℕ, ◌+◌, ◌<◌, Bool, true, false, cond, nat_lt, nat_le, List, [], ◌∷◌, ◌++◌, length, map, codes, Option, Some, None, Result, Ok, Err, refl, sym, ap, subst, ◌∙◌, append_assoc}
use Rattle.std.specs.List.{flat_map, AllByRecursion}
use Rattle.std.specs.Int.{is_in_range}
use Rattle.std.proofs.lemmas.Bool.{and_parts, and_from}
use Rattle.std.proofs.lemmas.Bool.Decides.{nat_tests}
use Rattle.std.proofs.lemmas.List.{append-nil, length_push}
use Rattle.std.proofs.lemmas.Grind.{flat_map-append}
use Rattle.bus_text.specs.declared.reason.Reason.{Reason}
use Rattle.bus_text.specs.declared.reason.Reason.TheVariants as reasons
use Rattle.bus_text.specs.Fields.{is_at}
use Rattle.bus_text.specs.Lines.{Entry}
use Rattle.bus_text.proofs.AllOfLaws.{bind_ok}
use Rattle.bus_text.proofs.DigitLaws.{list_all_push}
use Rattle.bus_strings.proofs.ListLaws.{all_push}
use Rattle.bus_table.specs.declared.mode.Mode.{Mode}
use Rattle.bus_table.specs.declared.keyword.Keyword.{Keyword}
use Rattle.bus_table.specs.declared.keyword.Keyword.TheVariants as keywords
use Rattle.bus_table.specs.declared.stage.Stage.{Stage}
use Rattle.bus_table.specs.declared.stage.Stage.TheVariants as stages
use Rattle.bus_table.specs.Drafts.{Draft, draft_of, of_last, last_sends, may_come, opened, hearing, with_send, with_take, with_heard, with_last, form_reading, keyword_reading, line_reading}
use Rattle.bus_table.specs.Forms.{word_of, keyword_of, table_reading, mode_reading, number_reading, head_reading, send_reading, take_reading}
use Rattle.bus_table.specs.Heads.{Head, is_head}
use Rattle.bus_table.specs.Ranges.{is_number, is_tg, is_ti, is_sg, is_offset, is_send_line, is_take_line, are_send_lines, are_take_lines, is_sender, is_listener}
use Rattle.bus_table.specs.Tables.{SendLine, TakeLine, Sender, Listener}
use Rattle.bus_table.specs.Text.{Line, TableLine, ModeLine, TiLine, SgLine, SenderLine, Sends, Takes, ListenerLine, sender_lines, listener_lines, IsLine, AreLines}
use Rattle.bus_table.proofs.LineLemmas.{keyword_found, table_found, mode_found, number_line_found, head_line_found, send_line_found, take_line_found, fits_offset}

-- ---- what the lines so far say
-- the lines at the head
abbrev pub head_lines : Stage → Mode → ℕ → ℕ → List Line
head_lines stages.Start mode ti sg = []
head_lines stages.Table mode ti sg = TableLine ∷ []
head_lines stages.Mode mode ti sg = TableLine ∷ ModeLine mode ∷ []
head_lines stages.Ti mode ti sg = TableLine ∷ ModeLine mode ∷ TiLine ti ∷ []
head_lines stage mode ti sg = TableLine ∷ ModeLine mode ∷ TiLine ti ∷ SgLine sg ∷ []

-- the SENDER line of a sender that has no SEND line yet
abbrev pub open_lines : Stage → List Line
open_lines (stages.Sender head) = SenderLine head.number head.tg head.at ∷ []
open_lines stage = []

abbrev pub draft_lines : Draft → List Line
draft_lines draft =
    head_lines draft.stage draft.mode draft.ti draft.sg
    ++ (flat_map sender_lines draft.senders ++ (open_lines draft.stage ++ flat_map listener_lines draft.listeners))

-- ---- what is kept
-- a sender that a text gives
pub record Made (mode : Mode) (sender : Sender) : Type 0 where
  pub range : is_sender sender ≡ true
  pub offset : fits_offset mode sender.at ≡ true

-- what holds of the last of some, of which there is one
abbrev pub HasLast : {X : Type 0} → (X → Type 0) → List X → Type 0
HasLast P [] = ⊥
HasLast P (last ∷ []) = P last
HasLast P (first ∷ next ∷ others) = HasLast P (next ∷ others)

abbrev pub Any : {X : Type 0} → X → Type 0
Any x = Unit {0}

-- what a stage says of the numbers, the senders and the listeners before it
abbrev pub Stands : Stage → Mode → ℕ → ℕ → List Sender → List Listener → Type 0
Stands stages.Start mode ti sg senders listeners = (senders ≡ []) × (listeners ≡ [])
Stands stages.Table mode ti sg senders listeners = (senders ≡ []) × (listeners ≡ [])
Stands stages.Mode mode ti sg senders listeners = (senders ≡ []) × (listeners ≡ [])
Stands stages.Ti mode ti sg senders listeners = (senders ≡ []) × (listeners ≡ []) × (is_ti ti ≡ true)
Stands stages.Sg mode ti sg senders listeners = (is_ti ti ≡ true) × (is_sg sg ≡ true) × (listeners ≡ [])
Stands (stages.Sender head) mode ti sg senders listeners =
    (is_ti ti ≡ true) × (is_sg sg ≡ true) × (listeners ≡ []) × (is_head head ≡ true) × (fits_offset mode head.at ≡ true)
Stands stages.Send mode ti sg senders listeners =
    (is_ti ti ≡ true) × (is_sg sg ≡ true) × (listeners ≡ []) × HasLast (λ (s : Sender). s.takes ≡ []) senders
Stands stages.Take mode ti sg senders listeners = (is_ti ti ≡ true) × (is_sg sg ≡ true) × (listeners ≡ []) × HasLast Any senders
Stands stages.Listener mode ti sg senders listeners = (is_ti ti ≡ true) × (is_sg sg ≡ true) × HasLast Any listeners

pub record Kept (draft : Draft) : Type 0 where
  pub made : AllByRecursion (Made draft.mode) draft.senders
  pub heard : AllByRecursion (λ l. is_listener l ≡ true) draft.listeners
  pub stands : Stands draft.stage draft.mode draft.ti draft.sg draft.senders draft.listeners

-- a line was read: it says something more, and what is kept is kept
pub record Adds (old new : Draft) (fields : List (List ℕ)) : Type 0 where
  pub line : Line
  pub says : IsLine new.mode line fields
  pub lines : draft_lines new ≡ draft_lines old ++ line ∷ []
  pub carries : (entries : List Entry) → AreLines old.mode (draft_lines old) entries → AreLines new.mode (draft_lines old) entries
  pub kept : Kept new

-- ---- the last of some
pub push_last : {X : Type 0} (P : X → Type 0) (xs : List X) (x : X) → P x → HasLast P (xs ++ x ∷ [])
push_last P [] x h = h
push_last P (y ∷ []) x h = h
push_last P (y ∷ z ∷ xs) x h = push_last P (z ∷ xs) x h

change_last : {X : Type 0} (P Q : X → Type 0) (change : X → X) → ((x : X) → P x → Q (change x)) → (xs : List X) → HasLast P xs → HasLast Q (with_last change xs)
change_last P Q change go [] h = absurd h
change_last P Q change go (x ∷ []) h = go x h
change_last P Q change go (x ∷ y ∷ []) h = change_last P Q change go (y ∷ []) h
change_last P Q change go (x ∷ y ∷ z ∷ xs) h = change_last P Q change go (y ∷ z ∷ xs) h

weaken_last : {X : Type 0} (P Q : X → Type 0) → ((x : X) → P x → Q x) → (xs : List X) → HasLast P xs → HasLast Q xs
weaken_last P Q go [] h = absurd h
weaken_last P Q go (x ∷ []) h = go x h
weaken_last P Q go (x ∷ y ∷ xs) h = weaken_last P Q go (y ∷ xs) h

-- what holds of each holds of each where the last is changed
all_last : {X : Type 0} (P : X → Type 0) (count : X → ℕ) (most : ℕ) (change : X → X) → ((x : X) → P x → count x < most → P (change x)) → (xs : List X) → AllByRecursion P xs → of_last count xs < most → AllByRecursion P (with_last change xs)
all_last P count most change go [] h room = tt
all_last P count most change go (x ∷ []) h room = (go x h.0 room, tt)
all_last P count most change go (x ∷ y ∷ xs) h room = (h.0, all_last P count most change go (y ∷ xs) h.1 room)

-- the last says one line more
last_lines : {X : Type 0} (f : X → List Line) (change : X → X) (line : Line) (P : X → Type 0) → ((x : X) → P x → f (change x) ≡ f x ++ line ∷ []) → (xs : List X) → HasLast P xs
    → flat_map f (with_last change xs) ≡ flat_map f xs ++ line ∷ []
last_lines f change line P go [] h = absurd h
last_lines f change line P go (x ∷ []) h = append-nil (f (change x)) ∙ go x h ∙ ap (λ ls. ls ++ line ∷ []) (sym (append-nil (f x)))
last_lines f change line P go (x ∷ y ∷ xs) h =
    ap (λ ls. f x ++ ls) (last_lines f change line P go (y ∷ xs) h) ∙ sym (append_assoc (f x) (flat_map f (y ∷ xs)) (line ∷ []))

-- ---- terminals
opened_made : (mode : Mode) (head : Head) (line : SendLine) → is_head head ≡ true → fits_offset mode head.at ≡ true → is_send_line line ≡ true → Made mode (opened head line)
opened_made mode head line h fits k =
    let number = and_parts (is_number head.number) _ h in
    let gap = and_parts (is_tg head.tg) _ number.1 in
    record { range = and_from _ _ number.0 (and_from _ _ gap.0 (and_from _ _ gap.1 (and_from _ _ (and_from _ _ refl (and_from _ _ k refl)) refl))); offset = fits }

more_room : (n m : ℕ) → is_in_range 1 31 n ≡ true → n < 31 → m ≡ n + 1 → is_in_range 1 31 m ≡ true
more_room n m h k e = grind (arith, nat_tests)

more_takes : (n m : ℕ) → n < 64 → m ≡ n + 1 → nat_le m 64 ≡ true
more_takes n m k e = grind (arith, nat_tests)

-- the ranges of a sender
pub record InRange (sender : Sender) : Type 0 where
  pub number : is_number sender.number ≡ true
  pub gap : is_tg sender.tg ≡ true
  pub offset : is_offset sender.at ≡ true
  pub sends : are_send_lines sender.sends ≡ true
  pub takes : are_take_lines sender.takes ≡ true

pub ranges_of : (sender : Sender) → is_sender sender ≡ true → InRange sender
ranges_of sender h =
    let number = and_parts (is_number sender.number) _ h in
    let gap = and_parts (is_tg sender.tg) _ number.1 in
    let offset = and_parts (is_offset sender.at) _ gap.1 in
    let lines = and_parts (are_send_lines sender.sends) _ offset.1 in
    record { number = number.0; gap = gap.0; offset = offset.0; sends = lines.0; takes = lines.1 }

in_ranges : (sender : Sender) → InRange sender → is_sender sender ≡ true
in_ranges sender h = and_from _ _ h.number (and_from _ _ h.gap (and_from _ _ h.offset (and_from _ _ h.sends h.takes)))

more_take_lines : (takes : List TakeLine) (line : TakeLine) → are_take_lines takes ≡ true → length takes < 64 → is_take_line line ≡ true → are_take_lines (takes ++ line ∷ []) ≡ true
more_take_lines takes line h room k =
    let parts = and_parts (nat_le (length takes) 64) _ h in
    and_from _ _ (more_takes (length takes) _ room (length_push takes line)) (list_all_push is_take_line takes line parts.1 k)

send_made : (mode : Mode) (line : SendLine) → is_send_line line ≡ true → (sender : Sender) → Made mode sender → length sender.sends < 31 → Made mode (with_send line sender)
send_made mode line k sender made room =
    let r = ranges_of sender made.range in
    let sends = and_parts (is_in_range 1 31 (length sender.sends)) _ r.sends in
    record {
      range = in_ranges (with_send line sender) (record {
        number = r.number;
        gap = r.gap;
        offset = r.offset;
        sends = and_from _ _ (more_room _ _ sends.0 room (length_push sender.sends line)) (list_all_push is_send_line sender.sends line sends.1 k);
        takes = r.takes;
      });
      offset = made.offset;
    }

take_made : (mode : Mode) (line : TakeLine) → is_take_line line ≡ true → (sender : Sender) → Made mode sender → length sender.takes < 64 → Made mode (with_take line sender)
take_made mode line k sender made room =
    let r = ranges_of sender made.range in
    record {
      range = in_ranges (with_take line sender) (record { number = r.number; gap = r.gap; offset = r.offset; sends = r.sends; takes = more_take_lines sender.takes line r.takes room k });
      offset = made.offset;
    }

heard_made : (line : TakeLine) → is_take_line line ≡ true → (listener : Listener) → is_listener listener ≡ true → length listener.takes < 64 → is_listener (with_heard line listener) ≡ true
heard_made line k listener h room =
    let parts = and_parts (is_number listener.number) _ h in
    and_from _ _ parts.0 (more_take_lines listener.takes line parts.1 room k)

map_push : {X : Type 0} (f : X → Line) (xs : List X) (x : X) → map f (xs ++ x ∷ []) ≡ map f xs ++ f x ∷ []
map_push f [] x = refl
map_push f (y ∷ xs) x = ap (λ ls. f y ∷ ls) (map_push f xs x)

opened_lines : (head : Head) (line : SendLine) (senders : List Sender)
    → flat_map sender_lines (senders ++ opened head line ∷ []) ≡ (flat_map sender_lines senders ++ SenderLine head.number head.tg head.at ∷ []) ++ Sends line ∷ []
opened_lines head line senders =
    flat_map-append sender_lines senders (opened head line ∷ []) ∙ sym (append_assoc (flat_map sender_lines senders) (SenderLine head.number head.tg head.at ∷ []) (Sends line ∷ []))

-- the lines of a sender without TAKE lines
no_takes : (sender : Sender) → sender.takes ≡ [] → sender_lines sender ≡ SenderLine sender.number sender.tg sender.at ∷ map Sends sender.sends
no_takes sender h = ap (λ ls. SenderLine sender.number sender.tg sender.at ∷ map Sends sender.sends ++ map Takes ls) h ∙ ap (λ ls. SenderLine sender.number sender.tg sender.at ∷ ls) (append-nil (map Sends sender.sends))

send_lines_more : (line : SendLine) (sender : Sender) → sender.takes ≡ [] → sender_lines (with_send line sender) ≡ sender_lines sender ++ Sends line ∷ []
send_lines_more line sender h =
    no_takes (with_send line sender) h
    ∙ ap (λ ls. SenderLine sender.number sender.tg sender.at ∷ ls) (map_push Sends sender.sends line)
    ∙ ap (λ ls. ls ++ Sends line ∷ []) (sym (no_takes sender h))

take_lines_more : (line : TakeLine) (sender : Sender) → sender_lines (with_take line sender) ≡ sender_lines sender ++ Takes line ∷ []
take_lines_more line sender =
    ap (λ ls. SenderLine sender.number sender.tg sender.at ∷ ls)
    (ap (λ ls. map Sends sender.sends ++ ls) (map_push Takes sender.takes line) ∙ sym (append_assoc (map Sends sender.sends) (map Takes sender.takes) (Takes line ∷ [])))

heard_lines_more : (line : TakeLine) (listener : Listener) → listener_lines (with_heard line listener) ≡ listener_lines listener ++ Takes line ∷ []
heard_lines_more line listener = ap (λ ls. ListenerLine listener.number ∷ ls) (map_push Takes listener.takes line)

-- ---- one line
-- what reading the line at this stage makes of the draft is added
abbrev AddsAt : Draft → Keyword → List (List ℕ) → Type 0
AddsAt old keyword fields = (new : Draft) → Kept old → is_at fields 0 (word_of keyword) ≡ true → form_reading old keyword fields ≡ Ok new → Adds old new fields

abbrev read_as : Draft → Result Draft Reason
read_as draft = Ok draft

to_new : (old made new : Draft) (fields : List (List ℕ)) → read_as made ≡ Ok new → Adds old made fields → Adds old new fields
to_new old made new fields h adds = let same : made ≡ new = cc in subst (λ (d : Draft). Adds old d fields) same adds

-- the lines at the head, where there are no senders and listeners yet
none_more : (f g : List Line → List Line) (line : Line) (senders : List Sender) (listeners : List Listener) → senders ≡ [] → listeners ≡ [] → f [] ≡ g [] ++ line ∷ []
    → f (flat_map sender_lines senders ++ flat_map listener_lines listeners) ≡ g (flat_map sender_lines senders ++ flat_map listener_lines listeners) ++ line ∷ []
none_more f g line senders listeners s l h =
    let none : flat_map sender_lines senders ++ flat_map listener_lines listeners ≡ [] =
    ap (λ (ss : List Sender). flat_map sender_lines ss ++ flat_map listener_lines listeners) s ∙ ap (λ (ls : List Listener). flat_map listener_lines ls) l in
    ap f none ∙ h ∙ sym (ap (λ ls. g ls ++ line ∷ []) none)

table_adds : (mode : Mode) (ti sg : ℕ) (senders : List Sender) (listeners : List Listener) (fields : List (List ℕ)) → AddsAt (draft_of stages.Start mode ti sg senders listeners) keywords.Table fields
table_adds mode ti sg senders listeners fields new kept word h =
    let r = bind_ok (table_reading fields) (λ _. Ok (draft_of stages.Table mode ti sg senders listeners)) new h in
    to_new _ (draft_of stages.Table mode ti sg senders listeners) new fields r.2 (record {
      line = TableLine;
      says = table_found fields r.0 word r.1;
      lines = none_more (λ ls. TableLine ∷ ls) (λ ls. ls) TableLine senders listeners kept.stands.0 kept.stands.1 refl;
      carries = λ entries are. are;
      kept = record { made = kept.made; heard = kept.heard; stands = kept.stands };
    })

-- the line before the mode is the same in each
head_carries : (old mode : Mode) (ti sg : ℕ) (senders : List Sender) (listeners : List Listener) → senders ≡ [] → listeners ≡ []
    → (entries : List Entry) → AreLines old (draft_lines (draft_of stages.Table old ti sg senders listeners)) entries → AreLines mode (draft_lines (draft_of stages.Table old ti sg senders listeners)) entries
head_carries old mode ti sg senders listeners s l entries are =
    let none : flat_map sender_lines senders ++ flat_map listener_lines listeners ≡ [] =
    ap (λ (ss : List Sender). flat_map sender_lines ss ++ flat_map listener_lines listeners) s ∙ ap (λ (ls : List Listener). flat_map listener_lines ls) l in
    subst (λ (ls : List Line). AreLines mode (TableLine ∷ ls) entries) (sym none) (one entries (subst (λ (ls : List Line). AreLines old (TableLine ∷ ls) entries) none are))
  where
    one : (entries : List Entry) → AreLines old (TableLine ∷ []) entries → AreLines mode (TableLine ∷ []) entries
    one [] h = h
    one (e ∷ []) h = h
    one (e ∷ f ∷ entries) h = absurd h.1

no_senders : (mode : Mode) (senders : List Sender) → senders ≡ [] → AllByRecursion (Made mode) senders
no_senders mode senders h = subst (λ (ss : List Sender). AllByRecursion (Made mode) ss) (sym h) tt

mode_adds : (old : Mode) (ti sg : ℕ) (senders : List Sender) (listeners : List Listener) (fields : List (List ℕ)) → AddsAt (draft_of stages.Table old ti sg senders listeners) keywords.Mode fields
mode_adds old ti sg senders listeners fields new kept word h =
    let r = bind_ok (mode_reading fields) (λ mode. Ok (draft_of stages.Mode mode ti sg senders listeners)) new h in
    to_new _ (draft_of stages.Mode r.0 ti sg senders listeners) new fields r.2 (record {
      line = ModeLine r.0;
      says = mode_found fields r.0 word r.1;
      lines = none_more (λ ls. TableLine ∷ ModeLine r.0 ∷ ls) (λ ls. TableLine ∷ ls) (ModeLine r.0) senders listeners kept.stands.0 kept.stands.1 refl;
      carries = head_carries old r.0 ti sg senders listeners kept.stands.0 kept.stands.1;
      kept = record { made = no_senders r.0 senders kept.stands.0; heard = kept.heard; stands = kept.stands };
    })

ti_adds : (mode : Mode) (ti sg : ℕ) (senders : List Sender) (listeners : List Listener) (fields : List (List ℕ)) → AddsAt (draft_of stages.Mode mode ti sg senders listeners) keywords.Ti fields
ti_adds mode ti sg senders listeners fields new kept word h =
    let r = bind_ok (number_reading is_ti fields) (λ n. Ok (draft_of stages.Ti mode n sg senders listeners)) new h in
    let found = number_line_found is_ti fields (codes "TI") r.0 word r.1 in
    to_new _ (draft_of stages.Ti mode r.0 sg senders listeners) new fields r.2 (record {
      line = TiLine r.0;
      says = found.0;
      lines = none_more (λ ls. TableLine ∷ ModeLine mode ∷ TiLine r.0 ∷ ls) (λ ls. TableLine ∷ ModeLine mode ∷ ls) (TiLine r.0) senders listeners kept.stands.0 kept.stands.1 refl;
      carries = λ entries are. are;
      kept = record { made = kept.made; heard = kept.heard; stands = (kept.stands.0, kept.stands.1, found.1) };
    })

sg_adds : (mode : Mode) (ti sg : ℕ) (senders : List Sender) (listeners : List Listener) (fields : List (List ℕ)) → AddsAt (draft_of stages.Ti mode ti sg senders listeners) keywords.Sg fields
sg_adds mode ti sg senders listeners fields new kept word h =
    let r = bind_ok (number_reading is_sg fields) (λ n. Ok (draft_of stages.Sg mode ti n senders listeners)) new h in
    let found = number_line_found is_sg fields (codes "SG") r.0 word r.1 in
    to_new _ (draft_of stages.Sg mode ti r.0 senders listeners) new fields r.2 (record {
      line = SgLine r.0;
      says = found.0;
      lines = none_more (λ ls. TableLine ∷ ModeLine mode ∷ TiLine ti ∷ SgLine r.0 ∷ ls) (λ ls. TableLine ∷ ModeLine mode ∷ TiLine ti ∷ ls) (SgLine r.0) senders listeners kept.stands.0 kept.stands.1 refl;
      carries = λ entries are. are;
      kept = record { made = kept.made; heard = kept.heard; stands = (kept.stands.2, found.1, kept.stands.1) };
    })

-- the four lines at the head, and what stands behind them
abbrev behind_head : Mode → ℕ → ℕ → List Line → List Line
behind_head mode ti sg lines = TableLine ∷ ModeLine mode ∷ TiLine ti ∷ SgLine sg ∷ lines

-- one more line behind the senders' lines, where there are no listeners
open_after : (senders : List Sender) (listeners : List Listener) (line : Line) → listeners ≡ []
    → flat_map sender_lines senders ++ line ∷ flat_map listener_lines listeners ≡ (flat_map sender_lines senders ++ flat_map listener_lines listeners) ++ line ∷ []
open_after senders listeners line none =
    ap (λ (ls : List Listener). flat_map sender_lines senders ++ line ∷ flat_map listener_lines ls) none
    ∙ ap (λ ls. ls ++ line ∷ []) (sym (append-nil (flat_map sender_lines senders)))
    ∙ sym (ap (λ (ls : List Listener). (flat_map sender_lines senders ++ flat_map listener_lines ls) ++ line ∷ []) none)

-- the senders say one line more, where there are no listeners
sent_after : (before after : List Line) (listeners : List Listener) (line : Line) → listeners ≡ [] → after ≡ before ++ line ∷ []
    → after ++ flat_map listener_lines listeners ≡ (before ++ flat_map listener_lines listeners) ++ line ∷ []
sent_after before after listeners line none h =
    ap (λ (ls : List Listener). after ++ flat_map listener_lines ls) none ∙ append-nil after ∙ h
    ∙ ap (λ ls. ls ++ line ∷ []) (sym (append-nil before))
    ∙ sym (ap (λ (ls : List Listener). (before ++ flat_map listener_lines ls) ++ line ∷ []) none)

-- a SENDER line behind the SG line, or behind a line of a sender
sender_adds_to : (stage : Stage) (mode : Mode) (ti sg : ℕ) (senders : List Sender) (listeners : List Listener) (fields : List (List ℕ)) (new : Draft)
    → Kept (draft_of stage mode ti sg senders listeners) → is_ti ti ≡ true → is_sg sg ≡ true → listeners ≡ []
    → draft_lines (draft_of stage mode ti sg senders listeners) ≡ behind_head mode ti sg (flat_map sender_lines senders ++ flat_map listener_lines listeners)
    → is_at fields 0 (codes "SENDER") ≡ true → form_reading (draft_of stage mode ti sg senders listeners) keywords.Sender fields ≡ Ok new → Adds (draft_of stage mode ti sg senders listeners) new fields
sender_adds_to stage mode ti sg senders listeners fields new kept in_ti in_sg none lines word h =
    let r = bind_ok (head_reading mode fields) (λ head. Ok (draft_of (stages.Sender head) mode ti sg senders listeners)) new h in
    let found = head_line_found mode fields r.0 word r.1 in
    to_new _ (draft_of (stages.Sender r.0) mode ti sg senders listeners) new fields r.2 (record {
      line = SenderLine r.0.number r.0.tg r.0.at;
      says = found.0;
      lines = ap (behind_head mode ti sg) (open_after senders listeners (SenderLine r.0.number r.0.tg r.0.at) none) ∙ ap (λ ls. ls ++ SenderLine r.0.number r.0.tg r.0.at ∷ []) (sym lines);
      carries = λ entries are. are;
      kept = record { made = kept.made; heard = kept.heard; stands = (in_ti, in_sg, none, found.1, found.2) };
    })

first_send_adds : (head : Head) (mode : Mode) (ti sg : ℕ) (senders : List Sender) (listeners : List Listener) (fields : List (List ℕ)) → AddsAt (draft_of (stages.Sender head) mode ti sg senders listeners) keywords.Send fields
first_send_adds head mode ti sg senders listeners fields new kept word h =
    let r = bind_ok (send_reading fields) (λ line. Ok (draft_of stages.Send mode ti sg (senders ++ opened head line ∷ []) listeners)) new h in
    let found = send_line_found fields r.0 word r.1 in
    let none = kept.stands.2 in
    to_new _ (draft_of stages.Send mode ti sg (senders ++ opened head r.0 ∷ []) listeners) new fields r.2 (record {
      line = Sends r.0;
      says = found.0;
      lines = ap (behind_head mode ti sg)
          (ap (λ (ls : List Listener). flat_map sender_lines (senders ++ opened head r.0 ∷ []) ++ flat_map listener_lines ls) none
          ∙ append-nil (flat_map sender_lines (senders ++ opened head r.0 ∷ []))
          ∙ opened_lines head r.0 senders
          ∙ sym (ap (λ (ls : List Listener). (flat_map sender_lines senders ++ SenderLine head.number head.tg head.at ∷ flat_map listener_lines ls) ++ Sends r.0 ∷ []) none));
      carries = λ entries are. are;
      kept = record {
        made = all_push (Made mode) senders (opened head r.0) kept.made (opened_made mode head r.0 kept.stands.3 kept.stands.4 found.1);
        heard = kept.heard;
        stands = (kept.stands.0, kept.stands.1, none, push_last (λ (s : Sender). s.takes ≡ []) senders (opened head r.0) refl);
      };
    })

next_send_adds : (mode : Mode) (ti sg : ℕ) (senders : List Sender) (listeners : List Listener) (fields : List (List ℕ)) → last_sends senders < 31 → AddsAt (draft_of stages.Send mode ti sg senders listeners) keywords.Send fields
next_send_adds mode ti sg senders listeners fields room new kept word h =
    let r = bind_ok (send_reading fields) (λ line. Ok (draft_of stages.Send mode ti sg (with_last (with_send line) senders) listeners)) new h in
    let found = send_line_found fields r.0 word r.1 in
    to_new _ (draft_of stages.Send mode ti sg (with_last (with_send r.0) senders) listeners) new fields r.2 (record {
      line = Sends r.0;
      says = found.0;
      lines = ap (behind_head mode ti sg) (sent_after (flat_map sender_lines senders) _ listeners (Sends r.0) kept.stands.2
          (last_lines sender_lines (with_send r.0) (Sends r.0) (λ (s : Sender). s.takes ≡ []) (send_lines_more r.0) senders kept.stands.3));
      carries = λ entries are. are;
      kept = record {
        made = all_last (Made mode) (λ (s : Sender). length s.sends) 31 (with_send r.0) (send_made mode r.0 found.1) senders kept.made room;
        heard = kept.heard;
        stands = (kept.stands.0, kept.stands.1, kept.stands.2, change_last (λ (s : Sender). s.takes ≡ []) (λ (s : Sender). s.takes ≡ []) (with_send r.0) (λ s e. e) senders kept.stands.3);
      };
    })

-- a TAKE line of a sender
take_adds_to : (stage : Stage) (mode : Mode) (ti sg : ℕ) (senders : List Sender) (listeners : List Listener) (fields : List (List ℕ)) (new : Draft)
    → Kept (draft_of stage mode ti sg senders listeners) → is_ti ti ≡ true → is_sg sg ≡ true → listeners ≡ [] → HasLast Any senders → of_last (λ (s : Sender). length s.takes) senders < 64
    → draft_lines (draft_of stage mode ti sg senders listeners) ≡ behind_head mode ti sg (flat_map sender_lines senders ++ flat_map listener_lines listeners)
    → is_at fields 0 (codes "TAKE") ≡ true → (line : TakeLine) → take_reading fields ≡ Ok line → read_as (draft_of stages.Take mode ti sg (with_last (with_take line) senders) listeners) ≡ Ok new
    → Adds (draft_of stage mode ti sg senders listeners) new fields
take_adds_to stage mode ti sg senders listeners fields new kept in_ti in_sg none last room lines word line read made =
    let found = take_line_found fields line word read in
    to_new _ (draft_of stages.Take mode ti sg (with_last (with_take line) senders) listeners) new fields made (record {
      line = Takes line;
      says = found.0;
      lines = ap (behind_head mode ti sg) (sent_after (flat_map sender_lines senders) _ listeners (Takes line) none
          (last_lines sender_lines (with_take line) (Takes line) Any (λ s a. take_lines_more line s) senders last))
          ∙ ap (λ ls. ls ++ Takes line ∷ []) (sym lines);
      carries = λ entries are. are;
      kept = record {
        made = all_last (Made mode) (λ (s : Sender). length s.takes) 64 (with_take line) (take_made mode line found.1) senders kept.made room;
        heard = kept.heard;
        stands = (in_ti, in_sg, none, change_last Any Any (with_take line) (λ s a. tt) senders last);
      };
    })

-- a LISTENER line
listener_adds_to : (stage : Stage) (mode : Mode) (ti sg : ℕ) (senders : List Sender) (listeners : List Listener) (fields : List (List ℕ)) (new : Draft)
    → Kept (draft_of stage mode ti sg senders listeners) → is_ti ti ≡ true → is_sg sg ≡ true
    → draft_lines (draft_of stage mode ti sg senders listeners) ≡ behind_head mode ti sg (flat_map sender_lines senders ++ flat_map listener_lines listeners)
    → is_at fields 0 (codes "LISTENER") ≡ true → form_reading (draft_of stage mode ti sg senders listeners) keywords.Listener fields ≡ Ok new → Adds (draft_of stage mode ti sg senders listeners) new fields
listener_adds_to stage mode ti sg senders listeners fields new kept in_ti in_sg lines word h =
    let r = bind_ok (number_reading is_number fields) (λ n. Ok (draft_of stages.Listener mode ti sg senders (listeners ++ hearing n ∷ []))) new h in
    let found = number_line_found is_number fields (codes "LISTENER") r.0 word r.1 in
    to_new _ (draft_of stages.Listener mode ti sg senders (listeners ++ hearing r.0 ∷ [])) new fields r.2 (record {
      line = ListenerLine r.0;
      says = found.0;
      lines = ap (behind_head mode ti sg)
          (ap (λ ls. flat_map sender_lines senders ++ ls) (flat_map-append listener_lines listeners (hearing r.0 ∷ []))
          ∙ sym (append_assoc (flat_map sender_lines senders) (flat_map listener_lines listeners) (ListenerLine r.0 ∷ [])))
          ∙ ap (λ ls. ls ++ ListenerLine r.0 ∷ []) (sym lines);
      carries = λ entries are. are;
      kept = record {
        made = kept.made;
        heard = all_push (λ (l : Listener). is_listener l ≡ true) listeners (hearing r.0) kept.heard (and_from _ _ found.1 refl);
        stands = (in_ti, in_sg, push_last Any listeners (hearing r.0) tt);
      };
    })

hear_adds : (mode : Mode) (ti sg : ℕ) (senders : List Sender) (listeners : List Listener) (fields : List (List ℕ)) → of_last (λ (l : Listener). length l.takes) listeners < 64 → AddsAt (draft_of stages.Listener mode ti sg senders listeners) keywords.Take fields
hear_adds mode ti sg senders listeners fields room new kept word h =
    let r = bind_ok (take_reading fields) (λ line. Ok (draft_of stages.Listener mode ti sg senders (with_last (with_heard line) listeners))) new h in
    let found = take_line_found fields r.0 word r.1 in
    to_new _ (draft_of stages.Listener mode ti sg senders (with_last (with_heard r.0) listeners)) new fields r.2 (record {
      line = Takes r.0;
      says = found.0;
      lines = ap (behind_head mode ti sg)
          (ap (λ ls. flat_map sender_lines senders ++ ls) (last_lines listener_lines (with_heard r.0) (Takes r.0) Any (λ l a. heard_lines_more r.0 l) listeners kept.stands.2)
          ∙ sym (append_assoc (flat_map sender_lines senders) (flat_map listener_lines listeners) (Takes r.0 ∷ [])));
      carries = λ entries are. are;
      kept = record {
        made = kept.made;
        heard = all_last (λ (l : Listener). is_listener l ≡ true) (λ (l : Listener). length l.takes) 64 (with_heard r.0) (heard_made r.0 found.1) listeners kept.heard room;
        stands = (kept.stands.0, kept.stands.1, change_last Any Any (with_heard r.0) (λ l a. tt) listeners kept.stands.2);
      };
    })

send_room : (n : ℕ) → nat_lt n 31 ≡ true → n < 31
send_room n h = grind (arith, nat_tests)

take_room : (n : ℕ) → nat_lt n 64 ≡ true → n < 64
take_room n h = grind (arith, nat_tests)

take_adds : (stage : Stage) (mode : Mode) (ti sg : ℕ) (senders : List Sender) (listeners : List Listener) (fields : List (List ℕ)) → may_come (draft_of stage mode ti sg senders listeners) keywords.Take ≡ true → AddsAt (draft_of stage mode ti sg senders listeners) keywords.Take fields
take_adds stages.Send mode ti sg senders listeners fields may = λ new kept word h.
    let r = bind_ok (take_reading fields) (λ line. Ok (draft_of stages.Take mode ti sg (with_last (with_take line) senders) listeners)) new h in
    take_adds_to stages.Send mode ti sg senders listeners fields new kept kept.stands.0 kept.stands.1 kept.stands.2 (weaken_last (λ (s : Sender). s.takes ≡ []) Any (λ s e. tt) senders kept.stands.3) (take_room _ may) refl word r.0 r.1 r.2
take_adds stages.Take mode ti sg senders listeners fields may = λ new kept word h.
    let r = bind_ok (take_reading fields) (λ line. Ok (draft_of stages.Take mode ti sg (with_last (with_take line) senders) listeners)) new h in
    take_adds_to stages.Take mode ti sg senders listeners fields new kept kept.stands.0 kept.stands.1 kept.stands.2 kept.stands.3 (take_room _ may) refl word r.0 r.1 r.2
take_adds stages.Listener mode ti sg senders listeners fields may = hear_adds mode ti sg senders listeners fields (take_room _ may)
take_adds stage mode ti sg senders listeners fields may = absurd cc

form_adds : (stage : Stage) (mode : Mode) (ti sg : ℕ) (senders : List Sender) (listeners : List Listener) (keyword : Keyword) (fields : List (List ℕ)) → may_come (draft_of stage mode ti sg senders listeners) keyword ≡ true → AddsAt (draft_of stage mode ti sg senders listeners) keyword fields
form_adds stages.Start mode ti sg senders listeners keywords.Table fields may = table_adds mode ti sg senders listeners fields
form_adds stages.Table mode ti sg senders listeners keywords.Mode fields may = mode_adds mode ti sg senders listeners fields
form_adds stages.Mode mode ti sg senders listeners keywords.Ti fields may = ti_adds mode ti sg senders listeners fields
form_adds stages.Ti mode ti sg senders listeners keywords.Sg fields may = sg_adds mode ti sg senders listeners fields
form_adds (stages.Sender head) mode ti sg senders listeners keywords.Send fields may = first_send_adds head mode ti sg senders listeners fields
form_adds stages.Send mode ti sg senders listeners keywords.Send fields may = next_send_adds mode ti sg senders listeners fields (send_room (last_sends senders) may)
form_adds stage mode ti sg senders listeners keywords.Take fields may = take_adds stage mode ti sg senders listeners fields may
form_adds stages.Sg mode ti sg senders listeners keywords.Sender fields may = λ new kept word h. sender_adds_to stages.Sg mode ti sg senders listeners fields new kept kept.stands.0 kept.stands.1 kept.stands.2 refl word h
form_adds stages.Send mode ti sg senders listeners keywords.Sender fields may = λ new kept word h. sender_adds_to stages.Send mode ti sg senders listeners fields new kept kept.stands.0 kept.stands.1 kept.stands.2 refl word h
form_adds stages.Take mode ti sg senders listeners keywords.Sender fields may = λ new kept word h. sender_adds_to stages.Take mode ti sg senders listeners fields new kept kept.stands.0 kept.stands.1 kept.stands.2 refl word h
form_adds stages.Sg mode ti sg senders listeners keywords.Listener fields may = λ new kept word h. listener_adds_to stages.Sg mode ti sg senders listeners fields new kept kept.stands.0 kept.stands.1 refl word h
form_adds stages.Send mode ti sg senders listeners keywords.Listener fields may = λ new kept word h. listener_adds_to stages.Send mode ti sg senders listeners fields new kept kept.stands.0 kept.stands.1 refl word h
form_adds stages.Take mode ti sg senders listeners keywords.Listener fields may = λ new kept word h. listener_adds_to stages.Take mode ti sg senders listeners fields new kept kept.stands.0 kept.stands.1 refl word h
form_adds stages.Listener mode ti sg senders listeners keywords.Listener fields may = λ new kept word h. listener_adds_to stages.Listener mode ti sg senders listeners fields new kept kept.stands.0 kept.stands.1 refl word h
form_adds stage mode ti sg senders listeners keyword fields may = absurd cc

keyword_adds : (old new : Draft) (fields : List (List ℕ)) (k : Option Keyword) → keyword_of fields ≡ k → Kept old → keyword_reading old k fields ≡ Ok new → Adds old new fields
keyword_adds old new fields None e kept h = absurd cc
keyword_adds old new fields (Some keyword) e kept h = by_test (may_come old keyword) refl h where
  by_test : (t : Bool) → may_come old keyword ≡ t → cond t (form_reading old keyword fields) (Err reasons.Keyword) ≡ Ok new → Adds old new fields
  by_test true may go = form_adds old.stage old.mode old.ti old.sg old.senders old.listeners keyword fields may new kept (keyword_found fields keyword e) go
  by_test false may go = absurd cc

pub line_adds : (old new : Draft) (fields : List (List ℕ)) → Kept old → line_reading old fields ≡ Ok new → Adds old new fields
unfolding line_reading
line_adds old new fields kept h = keyword_adds old new fields (keyword_of fields) refl kept h
