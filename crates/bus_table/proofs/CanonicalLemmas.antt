-- The canonical text of a table is what is put, and stands for the table.
use Rattle.std.proofs.Common.{arith, ◌≡◌, ℕ, ◌+◌, ◌<◌, ◌^◌, true, List, [], ◌∷◌, ◌++◌, length, map, take, get_or, codes, Option, Some, None, refl, sym, ap, subst}
use Rattle.std.proofs.Common.{◌∙◌, lit<, append_assoc, append-nil, ◌%◌}
use Rattle.std.specs.Prelude.{decimal, IsTrue, Ok}
use Rattle.std.specs.List.{flat_map, list_all, AllByRecursion}
use Rattle.std.specs.Int.{is_in_range as is_between}
use Rattle.std.specs.Option.{option_map_or}
use Rattle.std.proofs.lemmas.Bool.{and_parts}
use Rattle.std.proofs.lemmas.Bool.Decides.{nat_tests}
use Rattle.std.proofs.lemmas.List.{take_more}
use Rattle.std.proofs.lemmas.List.Concat.{flat_map-append}
use Rattle.bus_text.specs.Canonical.{spelled_line, spelled_lines}
use Rattle.bus_text.specs.inside.Spelled.{IsField, AreFields, numbered}
use Rattle.bus_text.proofs.CanonicalLaws.{entries_of-spelled_lines, constant_field}
use Rattle.bus_text.specs.Digits.{hex_digit, hexadecimal}
use Rattle.bus_text.proofs.DigitLaws.{hexadecimal_is, hexadecimal_field}
use Rattle.bus_text.specs.Lines.{Entry}
use Rattle.bus_text.specs.Numbers.{IsHexadecimal}
use Rattle.bus_text.proofs.NumberLaws.{decimal_is, decimal_field}
use Rattle.bus_table.specs.declared.mode.Mode.{Mode}
use Rattle.bus_table.specs.declared.mode.Mode.TheVariants.{Aperiodic, Periodic}
use Rattle.bus_table.specs.Canonical.{sender_fields, send_fields, ext_field, take_fields, line_fields, table_text}
use Rattle.bus_table.specs.inside.Puts.{number_bytes, mode_bytes, head_bytes, send_bytes, take_bytes, opening_bytes, offset_bytes, sender_bytes, listener_bytes, table_bytes}
use Rattle.bus_table.specs.Ranges.{is_number, is_ti, is_sg, is_tg, is_offset, is_label, is_ext, is_send_line, is_take_line, are_send_lines, are_take_lines, is_sender, is_listener}
use Rattle.bus_table.specs.Reading.{answer_of}
use Rattle.bus_table.specs.Tables.{SendLine, TakeLine, Sender, Listener, Table}
use Rattle.bus_table.specs.Text.{Line, TableLine, ModeLine, TiLine, SgLine, SenderLine, Sends, Takes, ListenerLine, sender_lines, listener_lines, lines_of, mode_word, IsExtField, IsLine, AreLines, IsTableText}
use Rattle.bus_table.specs.Valid.{fits_mode, is_valid, is_in_range}
use Rattle.bus_table.specs.Whole.{whole_refusal}
use Rattle.std.specs.Prelude.{is_none}
use Rattle.bus_table.proofs.AnswerLemmas.{answer_again}

-- ---- what is put
-- one more of a list is put behind those before it
pub flat_map_next : {X : Type 0} (f : X → List ℕ) (xs : List X) (i : ℕ) (x : X) → x ≡ get_or xs i x → i < length xs
    → flat_map f (take (i + 1) xs) ≡ flat_map f (take i xs) ++ f x
flat_map_next {X} f xs i x e h =
    ap (flat_map f) (take_more xs i x h) ∙ flat_map-append f (take i xs) (get_or xs i x ∷ [])
    ∙ ap (λ (y : X). flat_map f (take i xs) ++ (f y ++ [])) (sym e)
    ∙ ap (λ t. flat_map f (take i xs) ++ t) (append-nil (f x))

-- the text of lines
abbrev text_of : Mode → List Line → List ℕ
text_of mode lines = spelled_lines (map (line_fields mode) lines)

text_append : (mode : Mode) (xs ys : List Line) → text_of mode (xs ++ ys) ≡ text_of mode xs ++ text_of mode ys
text_append mode [] ys = refl
text_append mode (x ∷ xs) ys =
    ap (λ t. spelled_line (line_fields mode x) ++ t) (text_append mode xs ys)
    ∙ sym (append_assoc (spelled_line (line_fields mode x)) (text_of mode xs) (text_of mode ys))

number_put : (keyword : List ℕ) (n : ℕ) → number_bytes keyword n ≡ spelled_line (keyword ∷ decimal n ∷ [])
number_put keyword n = simp append_assoc

mode_put : (mode : Mode) → mode_bytes mode ≡ spelled_line (codes "MODE" ∷ mode_word mode ∷ [])
mode_put Aperiodic = refl
mode_put Periodic = refl

line_put : (line : SendLine) → send_bytes line ≡ spelled_line (send_fields line)
line_put line = simp append_assoc

ext_put : (label first count : ℕ) (ext : Option ℕ)
    → take_bytes (record { label = label; ext = ext; first = first; count = count })
    ≡ spelled_line (take_fields (record { label = label; ext = ext; first = first; count = count }))
ext_put label first count None = simp append_assoc
ext_put label first count (Some ext) = simp append_assoc

offset_last : (n c tg d at e : List ℕ) → ((n ++ c) ++ tg) ++ ((d ++ at) ++ e) ≡ (n ++ (c ++ (tg ++ (d ++ at)))) ++ e
offset_last n c tg d at e = simp append_assoc

opening_put : (mode : Mode) (n tg at : ℕ) → opening_bytes n tg ++ offset_bytes mode at ≡ spelled_line (sender_fields mode n tg at)
opening_put Aperiodic n tg at = simp append_assoc
opening_put Periodic n tg at =
    ap (λ t. codes "SENDER " ++ t)
    (offset_last (decimal n) (codes " TG ") (decimal tg) (codes " AT ") (decimal at) (codes "\n"))

sends_put : (mode : Mode) (sends : List SendLine) → flat_map send_bytes sends ≡ text_of mode (map Sends sends)
sends_put mode [] = refl
sends_put mode (line ∷ sends) =
    ap (λ t. t ++ flat_map send_bytes sends) (line_put line)
    ∙ ap (λ t. spelled_line (send_fields line) ++ t) (sends_put mode sends)

takes_put : (mode : Mode) (takes : List TakeLine) → flat_map take_bytes takes ≡ text_of mode (map Takes takes)
takes_put mode [] = refl
takes_put mode (line ∷ takes) =
    ap (λ t. t ++ flat_map take_bytes takes) (ext_put line.label line.first line.count line.ext)
    ∙ ap (λ t. spelled_line (take_fields line) ++ t) (takes_put mode takes)

sender_put : (mode : Mode) (sender : Sender) → sender_bytes mode sender ≡ text_of mode (sender_lines sender)
sender_put mode sender =
    let opening : List ℕ = spelled_line (sender_fields mode sender.number sender.tg sender.at) in
    ap (λ t. t ++ flat_map send_bytes sender.sends ++ flat_map take_bytes sender.takes) (opening_put mode sender.number sender.tg sender.at)
    ∙ append_assoc opening (flat_map send_bytes sender.sends) (flat_map take_bytes sender.takes)
    ∙ ap (λ t. opening ++ (t ++ flat_map take_bytes sender.takes)) (sends_put mode sender.sends)
    ∙ ap (λ t. opening ++ (text_of mode (map Sends sender.sends) ++ t)) (takes_put mode sender.takes)
    ∙ ap (λ t. opening ++ t) (sym (text_append mode (map Sends sender.sends) (map Takes sender.takes)))

senders_put : (mode : Mode) (senders : List Sender) → flat_map (sender_bytes mode) senders ≡ text_of mode (flat_map sender_lines senders)
senders_put mode [] = refl
senders_put mode (sender ∷ senders) =
    ap (λ t. t ++ flat_map (sender_bytes mode) senders) (sender_put mode sender)
    ∙ ap (λ t. text_of mode (sender_lines sender) ++ t) (senders_put mode senders)
    ∙ sym (text_append mode (sender_lines sender) (flat_map sender_lines senders))

listener_put : (mode : Mode) (listener : Listener) → listener_bytes listener ≡ text_of mode (listener_lines listener)
listener_put mode listener =
    ap (λ t. t ++ flat_map take_bytes listener.takes) (number_put (codes "LISTENER") listener.number)
    ∙ ap (λ t. spelled_line (codes "LISTENER" ∷ decimal listener.number ∷ []) ++ t) (takes_put mode listener.takes)

listeners_put : (mode : Mode) (listeners : List Listener)
    → flat_map listener_bytes listeners ≡ text_of mode (flat_map listener_lines listeners)
listeners_put mode [] = refl
listeners_put mode (listener ∷ listeners) =
    ap (λ t. t ++ flat_map listener_bytes listeners) (listener_put mode listener)
    ∙ ap (λ t. text_of mode (listener_lines listener) ++ t) (listeners_put mode listeners)
    ∙ sym (text_append mode (listener_lines listener) (flat_map listener_lines listeners))

-- the lines at the head
abbrev head_lines : Table → List Line
head_lines table = TableLine ∷ ModeLine table.mode ∷ TiLine table.ti ∷ SgLine table.sg ∷ []

head_put : (table : Table) → head_bytes table.mode table.ti table.sg ≡ text_of table.mode (head_lines table)
head_put table =
    let first : List ℕ = codes "TABLE 1\n" in
    let mode : List ℕ = spelled_line (codes "MODE" ∷ mode_word table.mode ∷ []) in
    let ti : List ℕ = spelled_line (codes "TI" ∷ decimal table.ti ∷ []) in
    let sg : List ℕ = spelled_line (codes "SG" ∷ decimal table.sg ∷ []) in
    ap (λ t. first ++ t ++ number_bytes (codes "TI") table.ti ++ number_bytes (codes "SG") table.sg) (mode_put table.mode)
    ∙ ap (λ t. first ++ mode ++ t ++ number_bytes (codes "SG") table.sg) (number_put (codes "TI") table.ti)
    ∙ ap (λ t. first ++ mode ++ ti ++ t) (number_put (codes "SG") table.sg)
    ∙ append_assoc (first ++ mode) ti sg
    ∙ append_assoc first mode (ti ++ sg)
    ∙ ap (λ t. first ++ (mode ++ (ti ++ t))) (sym (append-nil sg))

pub table_put : (table : Table) → table_bytes table ≡ table_text table
table_put table =
    let senders : List ℕ = text_of table.mode (flat_map sender_lines table.senders) in
    let listeners : List ℕ = text_of table.mode (flat_map listener_lines table.listeners) in
    ap (λ t. t ++ flat_map (sender_bytes table.mode) table.senders ++ flat_map listener_bytes table.listeners) (head_put table)
    ∙ ap (λ t. text_of table.mode (head_lines table) ++ t ++ flat_map listener_bytes table.listeners) (senders_put table.mode table.senders)
    ∙ ap (λ t. text_of table.mode (head_lines table) ++ senders ++ t) (listeners_put table.mode table.listeners)
    ∙ append_assoc (text_of table.mode (head_lines table)) senders listeners
    ∙ ap (λ t. text_of table.mode (head_lines table) ++ t) (sym (text_append table.mode (flat_map sender_lines table.senders) (flat_map listener_lines table.listeners)))
    ∙ sym (text_append table.mode (head_lines table) (flat_map sender_lines table.senders ++ flat_map listener_lines table.listeners))

-- the same, of the parts that were read of the table
pub put_as_read : (t : Table) (mode again : Mode) (ti sg : ℕ) (senders : List Sender) (listeners : List Listener) → mode ≡ t.mode
    → again ≡ t.mode → ti ≡ t.ti → sg ≡ t.sg → senders ≡ t.senders → listeners ≡ t.listeners
    → head_bytes mode ti sg ++ flat_map (sender_bytes again) senders ++ flat_map listener_bytes listeners ≡ table_text t
put_as_read t mode again ti sg senders listeners a b c d e f =
    ap (λ (m : Mode). head_bytes m ti sg ++ flat_map (sender_bytes again) senders ++ flat_map listener_bytes listeners) a
    ∙ ap (λ n. head_bytes t.mode n sg ++ flat_map (sender_bytes again) senders ++ flat_map listener_bytes listeners) c
    ∙ ap (λ n. head_bytes t.mode t.ti n ++ flat_map (sender_bytes again) senders ++ flat_map listener_bytes listeners) d
    ∙ ap (λ (m : Mode). head_bytes t.mode t.ti t.sg ++ flat_map (sender_bytes m) senders ++ flat_map listener_bytes listeners) b
    ∙ ap (λ (ss : List Sender). head_bytes t.mode t.ti t.sg ++ flat_map (sender_bytes t.mode) ss ++ flat_map listener_bytes listeners) e
    ∙ ap (λ (ls : List Listener). head_bytes t.mode t.ti t.sg ++ flat_map (sender_bytes t.mode) t.senders ++ flat_map listener_bytes ls) f
    ∙ table_put t

-- ---- what it stands for
-- the canonical fields of a line say what it says, and are fields
record IsSaid (mode : Mode) (line : Line) : Type 0 where
  says : IsLine mode line (line_fields mode line)
  fields : AreFields (line_fields mode line)

said_lines : (n : ℕ) (mode : Mode) (lines : List Line) → AllByRecursion (IsSaid mode) lines
    → AreLines mode lines (numbered n (map (line_fields mode) lines)) × AllByRecursion AreFields (map (line_fields mode) lines)
said_lines n mode [] h = (tt, tt)
said_lines n mode (line ∷ lines) h =
    let others = said_lines (n + 1) mode lines h.1 in
    ((h.0.says, others.0), (h.0.fields, others.1))

said_append : (mode : Mode) (xs ys : List Line) → AllByRecursion (IsSaid mode) xs → AllByRecursion (IsSaid mode) ys → AllByRecursion (IsSaid mode) (xs ++ ys)
said_append mode [] ys h k = k
said_append mode (x ∷ xs) ys h k = (h.0, said_append mode xs ys h.1 k)

-- a number that a range keeps small
small : (lo hi n : ℕ) → hi < 2 ^ 64 → is_between lo hi n ≡ true → n < 2 ^ 64
small lo hi n h k = grind (arith, nat_tests)

number_said : (keyword : List ℕ) (n : ℕ) → n < 2 ^ 64 → IsField keyword → AllByRecursion IsField (keyword ∷ decimal n ∷ [])
number_said keyword n h k = (k, (decimal_field n h, tt))

ti_said : (mode : Mode) (n : ℕ) → n < 2 ^ 64 → IsSaid mode (TiLine n)
ti_said mode n h = record {
  says = record { number = decimal n; parts = refl; value = decimal_is n h };
  fields = ((λ e. absurd (omega (arith, e))), number_said (codes "TI") n h (constant_field (codes "TI") (lit< tt) refl));
}

sg_said : (mode : Mode) (n : ℕ) → n < 2 ^ 64 → IsSaid mode (SgLine n)
sg_said mode n h = record {
  says = record { number = decimal n; parts = refl; value = decimal_is n h };
  fields = ((λ e. absurd (omega (arith, e))), number_said (codes "SG") n h (constant_field (codes "SG") (lit< tt) refl));
}

listener_said : (mode : Mode) (n : ℕ) → n < 2 ^ 64 → IsSaid mode (ListenerLine n)
listener_said mode n h = record {
  says = record { number = decimal n; parts = refl; value = decimal_is n h };
  fields = ((λ e. absurd (omega (arith, e))), number_said (codes "LISTENER") n h (constant_field (codes "LISTENER") (lit< tt) refl));
}

table_said : (mode : Mode) → IsSaid mode TableLine
table_said mode = record {
  says = refl;
  fields = ((λ e. absurd (omega (arith, e))), (constant_field (codes "TABLE") (lit< tt) refl, (constant_field (codes "1") (lit< tt) refl, tt)));
}

mode_said : (mode m : Mode) → IsSaid mode (ModeLine m)
mode_said mode Aperiodic = record {
  says = refl;
  fields = ((λ e. absurd (omega (arith, e))), (constant_field (codes "MODE") (lit< tt) refl, (constant_field (codes "aperiodic") (lit< tt) refl, tt)));
}
mode_said mode Periodic = record {
  says = refl;
  fields = ((λ e. absurd (omega (arith, e))), (constant_field (codes "MODE") (lit< tt) refl, (constant_field (codes "periodic") (lit< tt) refl, tt)));
}

opening_said : (mode : Mode) (n tg at : ℕ) → n < 2 ^ 64 → tg < 2 ^ 64 → at < 2 ^ 64 → IsSaid mode (SenderLine n tg at)
opening_said Aperiodic n tg at h k l = record {
  says = record {
    number = decimal n;
    gap = decimal tg;
    parts = refl;
    number_is = decimal_is n h;
    gap_is = decimal_is tg k;
  };
  fields =
      ((λ e. absurd (omega (arith, e))), (constant_field (codes "SENDER") (lit< tt) refl, (decimal_field n h, (constant_field (codes "TG") (lit< tt) refl, (decimal_field tg k, tt)))));
}
opening_said Periodic n tg at h k l = record {
  says = record {
    number = decimal n;
    gap = decimal tg;
    offset = decimal at;
    parts = refl;
    number_is = decimal_is n h;
    gap_is = decimal_is tg k;
    offset_is = decimal_is at l;
  };
  fields =
      ((λ e. absurd (omega (arith, e))), (constant_field (codes "SENDER") (lit< tt) refl, (decimal_field n h, (constant_field (codes "TG") (lit< tt) refl, (decimal_field tg k, (constant_field (codes "AT") (lit< tt) refl, (decimal_field at l, tt)))))));
}

-- the digit of an extension
one_digit : (ext : ℕ) → ext < 16 → hexadecimal 1 ext ≡ hex_digit ext ∷ []
one_digit ext h = let e : ext % 16 ≡ ext = omega arith in ap (λ d. hex_digit d ∷ []) e

digit_is : (ext : ℕ) → ext < 16 → IsHexadecimal 1 (hex_digit ext ∷ []) ext
digit_is ext h = subst (λ (ds : List ℕ). IsHexadecimal 1 ds ext) (one_digit ext h) (hexadecimal_is 1 ext (omega arith))

digit_field : (ext : ℕ) → ext < 16 → IsField (hex_digit ext ∷ [])
digit_field ext h = subst IsField (one_digit ext h) (hexadecimal_field 1 ext (lit< tt))

send_said : (mode : Mode) (line : SendLine) → is_send_line line ≡ true → IsSaid mode (Sends line)
send_said mode line h =
    let label = and_parts (is_label line.label) _ h in
    let ext = and_parts (is_ext line.ext) _ label.1 in
    let below : line.label < 16 ^ 3 = grind (arith, nat_tests, label.0) in
    let digit : line.ext < 16 = grind (arith, nat_tests, ext.0) in
    let least : line.least < 2 ^ 64 = grind (arith, nat_tests, ext.1) in
    let most : line.most < 2 ^ 64 = grind (arith, nat_tests, ext.1) in
    record {
      says = record {
        label = hexadecimal 3 line.label;
        ext = hex_digit line.ext ∷ [];
        least = decimal line.least;
        most = decimal line.most;
        parts = refl;
        label_is = hexadecimal_is 3 line.label below;
        ext_is = digit_is line.ext digit;
        least_is = decimal_is line.least least;
        most_is = decimal_is line.most most;
      };
      fields =
          ((λ e. absurd (omega (arith, e))), (constant_field (codes "SEND") (lit< tt) refl, (hexadecimal_field 3 line.label (lit< tt), (digit_field line.ext digit, (decimal_field line.least least, (decimal_field line.most most, tt))))));
    }

ext_said : (ext : Option ℕ) → option_map_or is_ext ext true ≡ true → IsExtField ext (ext_field ext) × IsField (ext_field ext)
ext_said None h = (refl, constant_field (codes "*") (lit< tt) refl)
ext_said (Some ext) h = let below : ext < 16 = grind (arith, nat_tests, h) in (digit_is ext below, digit_field ext below)

take_said : (mode : Mode) (line : TakeLine) → is_take_line line ≡ true → IsSaid mode (Takes line)
take_said mode line h =
    let label = and_parts (is_label line.label) _ h in
    let ext = and_parts (option_map_or is_ext line.ext true) _ label.1 in
    let below : line.label < 16 ^ 3 = grind (arith, nat_tests, label.0) in
    let said = ext_said line.ext ext.0 in
    let first : line.first < 2 ^ 64 = grind (arith, nat_tests, ext.1) in
    let count : line.count < 2 ^ 64 = grind (arith, nat_tests, ext.1) in
    record {
      says = record {
        label = hexadecimal 3 line.label;
        ext = ext_field line.ext;
        first = decimal line.first;
        count = decimal line.count;
        parts = refl;
        label_is = hexadecimal_is 3 line.label below;
        ext_is = said.0;
        first_is = decimal_is line.first first;
        count_is = decimal_is line.count count;
      };
      fields =
          ((λ e. absurd (omega (arith, e))), (constant_field (codes "TAKE") (lit< tt) refl, (hexadecimal_field 3 line.label (lit< tt), (said.1, (decimal_field line.first first, (decimal_field line.count count, tt))))));
    }

sends_said : (mode : Mode) (sends : List SendLine) → list_all is_send_line sends ≡ true → AllByRecursion (IsSaid mode) (map Sends sends)
sends_said mode [] h = tt
sends_said mode (line ∷ sends) h = let p = and_parts (is_send_line line) _ h in (send_said mode line p.0, sends_said mode sends p.1)

takes_said : (mode : Mode) (takes : List TakeLine) → list_all is_take_line takes ≡ true → AllByRecursion (IsSaid mode) (map Takes takes)
takes_said mode [] h = tt
takes_said mode (line ∷ takes) h = let p = and_parts (is_take_line line) _ h in (take_said mode line p.0, takes_said mode takes p.1)

sender_said : (mode : Mode) (sender : Sender) → is_sender sender ≡ true → AllByRecursion (IsSaid mode) (sender_lines sender)
sender_said mode sender h =
    let number = and_parts (is_number sender.number) _ h in
    let tg = and_parts (is_tg sender.tg) _ number.1 in
    let at = and_parts (is_offset sender.at) _ tg.1 in
    let lines = and_parts (are_send_lines sender.sends) (are_take_lines sender.takes) at.1 in
    (opening_said mode sender.number sender.tg sender.at (small 1 128 sender.number (lit< tt) number.0) (small 8 256 sender.tg (lit< tt) tg.0) (grind (arith, nat_tests, at.0)), said_append mode (map Sends sender.sends) (map Takes sender.takes) (sends_said mode sender.sends (and_parts _ (list_all is_send_line sender.sends) lines.0).1) (takes_said mode sender.takes (and_parts _ (list_all is_take_line sender.takes) lines.1).1))

senders_said : (mode : Mode) (senders : List Sender) → list_all is_sender senders ≡ true → AllByRecursion (IsSaid mode) (flat_map sender_lines senders)
senders_said mode [] h = tt
senders_said mode (sender ∷ senders) h =
    let p = and_parts (is_sender sender) _ h in
    said_append mode (sender_lines sender) (flat_map sender_lines senders) (sender_said mode sender p.0) (senders_said mode senders p.1)

hearer_said : (mode : Mode) (listener : Listener) → is_listener listener ≡ true → AllByRecursion (IsSaid mode) (listener_lines listener)
hearer_said mode listener h =
    let number = and_parts (is_number listener.number) (are_take_lines listener.takes) h in
    (listener_said mode listener.number (small 1 128 listener.number (lit< tt) number.0), takes_said mode listener.takes (and_parts _ (list_all is_take_line listener.takes) number.1).1)

hearers_said : (mode : Mode) (listeners : List Listener) → list_all is_listener listeners ≡ true → AllByRecursion (IsSaid mode) (flat_map listener_lines listeners)
hearers_said mode [] h = tt
hearers_said mode (listener ∷ listeners) h =
    let p = and_parts (is_listener listener) _ h in
    said_append mode (listener_lines listener) (flat_map listener_lines listeners) (hearer_said mode listener p.0) (hearers_said mode listeners p.1)

lines_said : (table : Table) → is_in_range table ≡ true → AllByRecursion (IsSaid table.mode) (lines_of table)
lines_said table h =
    let ti = and_parts (is_ti table.ti) _ h in
    let sg = and_parts (is_sg table.sg) _ ti.1 in
    let senders = and_parts (list_all is_sender table.senders) _ sg.1 in
    let listeners = and_parts (list_all is_listener table.listeners) (fits_mode table.mode table.senders) senders.1 in
    (table_said table.mode, (mode_said table.mode table.mode, (ti_said table.mode table.ti (small 1000 128000 table.ti (lit< tt) ti.0), (sg_said table.mode table.sg (small 9 1024 table.sg (lit< tt) sg.0), said_append table.mode (flat_map sender_lines table.senders) (flat_map listener_lines table.listeners) (senders_said table.mode table.senders senders.0) (hearers_said table.mode table.listeners listeners.0)))))

-- the canonical text of a table whose numbers are in their ranges stands for it
table_text_is : (table : Table) → is_in_range table ≡ true → IsTableText table (table_text table)
table_text_is table h =
    let said = said_lines 1 table.mode (lines_of table) (lines_said table h) in
    record {
      ranges = h;
      lines = subst (λ (es : List Entry). AreLines table.mode (lines_of table) es) (sym (entries_of-spelled_lines (map (line_fields table.mode) (lines_of table)) said.1)) said.0;
    }

-- that of a valid table stands for it
pub canonical_is : (table : Table) → IsTrue (is_valid table) → IsTableText table (table_text table)
canonical_is table valid = table_text_is table (and_parts (is_in_range table) (is_none (whole_refusal table)) valid).0

-- and reads as it
pub canonical_again : (table : Table) → IsTrue (is_valid table) → answer_of (table_text table) ≡ Ok table
canonical_again table valid = answer_again (table_text table) table (canonical_is table valid) valid
