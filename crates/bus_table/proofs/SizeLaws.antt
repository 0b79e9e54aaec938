-- How long the canonical text of a valid table is, at most.
use Rattle.std.proofs.Common.{arith, ◌≡◌, ℕ, ◌*◌, ◌<◌, ◌≤◌, ◌^◌, Bool, true, nat_le, nat_lt, IsTrue, List, [], ◌∷◌, ◌++◌, length, map, Option, Some, None}
use Rattle.std.proofs.Common.{ap, length-append, lit<}
use Rattle.std.specs.Fmt.{decimal}
use Rattle.std.specs.Int.{is_in_range}
use Rattle.std.specs.List.{list_all, flat_map, join_with_byte, AllByRecursion}
use Rattle.std.specs.Option.{option_map_or}
use Rattle.std.proofs.lemmas.Bool.{and_parts, leb-true}
use Rattle.std.proofs.lemmas.Bool.Decides.{nat_tests}
use Rattle.std.proofs.lemmas.Fmt.{length-decimal-le}
use Rattle.std.proofs.lemmas.List.Concat.{flat_map-append}
use Rattle.bus_text.specs.Canonical.{spelled_line}
use Rattle.bus_strings.proofs.ListLaws.{flat_map-map}
use Rattle.bus_table.specs.declared.mode.Mode.{Mode}
use Rattle.bus_table.specs.declared.mode.Mode.TheVariants.{Aperiodic, Periodic}
use Rattle.bus_table.specs.Canonical.{ext_field, line_fields, table_text}
use Rattle.bus_table.specs.Ranges.{is_number, is_tg, is_offset, is_label, is_ext, is_send_line, is_take_line, are_send_lines, are_take_lines, is_sender, is_listener}
use Rattle.bus_table.specs.Tables.{SendLine, TakeLine, Sender, Listener, Table}
use Rattle.bus_table.specs.Text.{Line, TableLine, ModeLine, TiLine, SgLine, SenderLine, Sends, Takes, ListenerLine, sender_lines, listener_lines, lines_of}
use Rattle.bus_table.specs.Valid.{is_valid}
use Rattle.bus_table.proofs.TerminalLaws.{few_terminals}
use Rattle.bus_table.proofs.PartLaws.{parts_of}

-- ---- a line
-- fields of at most 20 bytes each, and no more than seven
record IsSmall (fields : List (List ℕ)) : Type 0 where
  short : AllByRecursion (λ (f : List ℕ). length f < 21) fields
  few : length fields ≤ 7

joined_length : (fields : List (List ℕ)) → AllByRecursion (λ (f : List ℕ). length f < 21) fields → length (join_with_byte 32 fields) ≤ 21 * length fields
joined_length [] h = omega arith
joined_length (x ∷ []) h = (let own : length x < 21 = h.0 in omega arith)
joined_length (x ∷ (y ∷ xs)) h =
    let own : length x < 21 = h.0 in
    let rest = joined_length (y ∷ xs) h.1 in
    omega (arith, own, rest, length-append x (32 ∷ join_with_byte 32 (y ∷ xs)))

spelled_length : (fields : List (List ℕ)) → IsSmall fields → length (spelled_line fields) ≤ 148
spelled_length fields h =
    omega (arith, length-append (join_with_byte 32 fields) (10 ∷ []), joined_length fields h.short, h.few)

number_short : (n : ℕ) → n < 2 ^ 64 → length (decimal n) < 21
number_short n h = (let e = length-decimal-le 20 n (lit< tt) (omega (arith, h)) h in omega (arith, e))

in_range : (lo hi n : ℕ) → is_in_range lo hi n ≡ true → n ≤ hi
in_range lo hi n h = grind (arith, nat_tests)

number_line : (keyword : List ℕ) (n : ℕ) → length keyword < 21 → n < 2 ^ 64 → IsSmall (keyword ∷ decimal n ∷ [])
number_line keyword n k h = record { short = (k, (number_short n h, tt)); few = omega arith }

send_small : (mode : Mode) (line : SendLine) → is_send_line line ≡ true → IsSmall (line_fields mode (Sends line))
send_small mode line h =
    let ext = and_parts (is_ext line.ext) _ (and_parts (is_label line.label) _ h).1 in
    let counts = and_parts (nat_le line.least line.most) _ ext.1 in
    let least = leb-true line.least line.most counts.0 in
    let most = leb-true line.most 256 counts.1 in
    record {
      short = (lit< tt, (lit< tt, (lit< tt, (number_short line.least (omega (arith, least, most)), (number_short line.most (omega (arith, most)), tt)))));
      few = omega arith;
    }

ext_short : (ext : Option ℕ) → length (ext_field ext) < 21
ext_short None = lit< tt
ext_short (Some e) = lit< tt

take_small : (mode : Mode) (line : TakeLine) → is_take_line line ≡ true → IsSmall (line_fields mode (Takes line))
take_small mode line h =
    let ext = and_parts (option_map_or is_ext line.ext true) _ (and_parts (is_label line.label) _ h).1 in
    let counts = and_parts (nat_lt line.first 256) (is_in_range 1 256 line.count) ext.1 in
    let first : line.first < 256 = grind (arith, nat_tests, counts.0) in
    let count = in_range 1 256 line.count counts.1 in
    record {
      short = (lit< tt, (lit< tt, (ext_short line.ext, (number_short line.first (omega (arith, first)), (number_short line.count (omega (arith, count)), tt)))));
      few = omega arith;
    }

sender_small : (mode : Mode) (n tg at : ℕ) → n < 2 ^ 64 → tg < 2 ^ 64 → at < 2 ^ 64 → IsSmall (line_fields mode (SenderLine n tg at))
sender_small Aperiodic n tg at h k l = record {
  short = (lit< tt, (number_short n h, (lit< tt, (number_short tg k, tt))));
  few = omega arith;
}
sender_small Periodic n tg at h k l = record {
  short = (lit< tt, (number_short n h, (lit< tt, (number_short tg k, (lit< tt, (number_short at l, tt))))));
  few = omega arith;
}

mode_small : (mode m : Mode) → IsSmall (line_fields mode (ModeLine m))
mode_small mode Aperiodic = record { short = (lit< tt, (lit< tt, tt)); few = omega arith }
mode_small mode Periodic = record { short = (lit< tt, (lit< tt, tt)); few = omega arith }

-- ---- a block
abbrev bytes : Mode → Line → List ℕ
bytes mode line = spelled_line (line_fields mode line)

-- lines of one kind that are each small
lines_length : {X : Type 0} (mode : Mode) (p : X → Bool) (of : X → Line) (xs : List X) → ((x : X) → p x ≡ true → IsSmall (line_fields mode (of x)))
    → list_all p xs ≡ true → length (flat_map (bytes mode) (map of xs)) ≤ 148 * length xs
lines_length mode p of [] each h = omega arith
lines_length mode p of (x ∷ xs) each h =
    let parts = and_parts (p x) _ h in
    let one = spelled_length (line_fields mode (of x)) (each x parts.0) in
    let rest = lines_length mode p of xs each parts.1 in
    omega (arith, one, rest, length-append (bytes mode (of x)) (flat_map (bytes mode) (map of xs)))

takes_length : (mode : Mode) (takes : List TakeLine) → are_take_lines takes ≡ true → length (flat_map (bytes mode) (map Takes takes)) ≤ 148 * 64
takes_length mode takes h =
    let parts = and_parts (nat_le (length takes) 64) _ h in
    let few = leb-true (length takes) 64 parts.0 in
    let all = lines_length mode is_take_line Takes takes (take_small mode) parts.1 in
    omega (arith, few, all)

sends_length : (mode : Mode) (sends : List SendLine) → are_send_lines sends ≡ true → length (flat_map (bytes mode) (map Sends sends)) ≤ 148 * 31
sends_length mode sends h =
    let parts = and_parts (is_in_range 1 31 (length sends)) _ h in
    let few = in_range 1 31 (length sends) parts.0 in
    let all = lines_length mode is_send_line Sends sends (send_small mode) parts.1 in
    omega (arith, few, all)

sender_length : (mode : Mode) (sender : Sender) → is_sender sender ≡ true → length (flat_map (bytes mode) (sender_lines sender)) ≤ 148 * 96
sender_length mode sender h =
    let number = and_parts (is_number sender.number) _ h in
    let gap = and_parts (is_tg sender.tg) _ number.1 in
    let offset = and_parts (is_offset sender.at) _ gap.1 in
    let lines = and_parts (are_send_lines sender.sends) _ offset.1 in
    let n = in_range 1 128 sender.number number.0 in
    let tg = in_range 8 256 sender.tg gap.0 in
    let at : sender.at < 128000 = grind (arith, nat_tests, offset.0) in
    let first = spelled_length (line_fields mode (SenderLine sender.number sender.tg sender.at))
    (sender_small mode sender.number sender.tg sender.at (omega (arith, n)) (omega (arith, tg)) (omega (arith, at))) in
    let sends = sends_length mode sender.sends lines.0 in
    let takes = takes_length mode sender.takes lines.1 in
    let front : List Line = SenderLine sender.number sender.tg sender.at ∷ map Sends sender.sends in
    omega (
      arith,
      first,
      sends,
      takes,
      ap length (flat_map-append (bytes mode) front (map Takes sender.takes)),
      length-append (flat_map (bytes mode) front) (flat_map (bytes mode) (map Takes sender.takes)),
      length-append (bytes mode (SenderLine sender.number sender.tg sender.at)) (flat_map (bytes mode) (map Sends sender.sends)),
    )

listener_length : (mode : Mode) (listener : Listener) → is_listener listener ≡ true → length (flat_map (bytes mode) (listener_lines listener)) ≤ 148 * 65
listener_length mode listener h =
    let number = and_parts (is_number listener.number) _ h in
    let n = in_range 1 128 listener.number number.0 in
    let first : length (bytes mode (ListenerLine listener.number)) ≤ 148 =
    spelled_length (line_fields mode (ListenerLine listener.number)) (number_line _ listener.number (lit< tt) (omega (arith, n))) in
    let takes = takes_length mode listener.takes number.1 in
    omega (arith, first, takes, length-append (bytes mode (ListenerLine listener.number)) (flat_map (bytes mode) (map Takes listener.takes)))

-- ---- the blocks
blocks_length : {X : Type 0} (mode : Mode) (most : ℕ) (p : X → Bool) (of : X → List Line) (xs : List X)
    → ((x : X) → p x ≡ true → length (flat_map (bytes mode) (of x)) ≤ most) → list_all p xs ≡ true
    → length (flat_map (bytes mode) (flat_map of xs)) ≤ most * length xs
blocks_length mode most p of [] each h = omega arith
blocks_length mode most p of (x ∷ xs) each h =
    let parts = and_parts (p x) _ h in
    let one = each x parts.0 in
    let rest = blocks_length mode most p of xs each parts.1 in
    let split = ap length (flat_map-append (bytes mode) (of x) (flat_map of xs)) in
    let both = length-append (flat_map (bytes mode) (of x)) (flat_map (bytes mode) (flat_map of xs)) in
    grind (arith, one, rest, split, both)

head_length : (mode m : Mode) (ti sg : ℕ) → ti < 2 ^ 64 → sg < 2 ^ 64
    → length (flat_map (bytes mode) (TableLine ∷ ModeLine m ∷ TiLine ti ∷ SgLine sg ∷ [])) ≤ 592
head_length mode m ti sg h k =
    let a = spelled_length (line_fields mode TableLine) (record { short = (lit< tt, (lit< tt, tt)); few = omega arith }) in
    let b = spelled_length (line_fields mode (ModeLine m)) (mode_small mode m) in
    let c : length (bytes mode (TiLine ti)) ≤ 148 = spelled_length (line_fields mode (TiLine ti)) (number_line _ ti (lit< tt) h) in
    let d : length (bytes mode (SgLine sg)) ≤ 148 = spelled_length (line_fields mode (SgLine sg)) (number_line _ sg (lit< tt) k) in
    omega (
      arith,
      a,
      b,
      c,
      d,
      length-append (bytes mode TableLine) (flat_map (bytes mode) (ModeLine m ∷ TiLine ti ∷ SgLine sg ∷ [])),
      length-append (bytes mode (ModeLine m)) (flat_map (bytes mode) (TiLine ti ∷ SgLine sg ∷ [])),
      length-append (bytes mode (TiLine ti)) (flat_map (bytes mode) (SgLine sg ∷ [])),
      length-append (bytes mode (SgLine sg)) [],
    )

-- no more than eight mebibytes, and far less
pub text_length : (table : Table) → IsTrue (is_valid table) → length (table_text table) ≤ 8388608
text_length table valid =
    let mode = table.mode in
    let p = parts_of table valid in
    let few = few_terminals table valid in
    let t = in_range 1000 128000 table.ti p.ti in
    let g = in_range 9 1024 table.sg p.sg in
    let head : List Line = TableLine ∷ ModeLine mode ∷ TiLine table.ti ∷ SgLine table.sg ∷ [] in
    let blocks : List Line = flat_map sender_lines table.senders in
    let others : List Line = flat_map listener_lines table.listeners in
    let a = head_length mode mode table.ti table.sg (omega (arith, t)) (omega (arith, g)) in
    let b = blocks_length mode (148 * 96) is_sender sender_lines table.senders (sender_length mode) p.senders in
    let c = blocks_length mode (148 * 65) is_listener listener_lines table.listeners (listener_length mode) p.listeners in
    let whole : length (table_text table) ≡ length (flat_map (bytes mode) (head ++ blocks ++ others)) =
    ap length (flat_map-map spelled_line (line_fields mode) (lines_of table)) in
    omega (
      arith,
      few.0,
      few.1,
      a,
      b,
      c,
      whole,
      ap length (flat_map-append (bytes mode) (head ++ blocks) others),
      length-append (flat_map (bytes mode) (head ++ blocks)) (flat_map (bytes mode) others),
      ap length (flat_map-append (bytes mode) head blocks),
      length-append (flat_map (bytes mode) head) (flat_map (bytes mode) blocks),
    )
