-- What a valid table tells of its senders and their lines, and what fits them.
use Rattle.std.proofs.Common.{arith, ◌≡◌, ◌≢◌, ℕ, ◌<◌, ◌≤◌, Bool, true, false, cond, ◌&&◌, ◌==◌, List, [], ◌∷◌, ◌++◌}
use Rattle.std.proofs.Common.{length, Some, refl, sym, ap, ◌∙◌, inl, inr}
use Rattle.std.specs.Prelude.{nat_lt, nat_le, find, IsTrue}
use Rattle.std.specs.List.{list_all}
use Rattle.std.proofs.lemmas.Bool.{and_parts, eqb-true}
use Rattle.std.proofs.lemmas.Bool.Decides.{nat_tests}
use Rattle.bus_strings.specs.Members.{In}
use Rattle.bus_strings.proofs.MemberLaws.{of_each}
use Rattle.bus_strings.specs.Messages.{Wordstring, Message}
use Rattle.bus_table.specs.declared.line.SendLine.{SendLine}
use Rattle.bus_table.specs.inside.Facts.{SenderFacts}
use Rattle.bus_table.specs.Fits.{allows, matches, sender_of}
use Rattle.std.specs.Int.{is_in_range as is_between}
use Rattle.bus_table.specs.Ranges.{is_send_line, is_number, is_tg, is_offset, are_send_lines, are_take_lines}
use Rattle.bus_table.specs.Tables.{Sender, Table}
use Rattle.bus_table.specs.inside.Orders.{Differ}
use Rattle.bus_table.specs.Valid.{is_valid}
use Rattle.bus_table.proofs.ValidLaws.{valid_facts}
use Rattle.bus_wave.specs.Judging.{string_of}

-- ---- senders and their lines
pub record LineFacts (line : SendLine) : Type 0 where
  pub label : line.label < 4096
  pub ext : line.ext < 16
  pub order : line.least ≤ line.most
  pub few : line.most ≤ 256

pub line_facts : (line : SendLine) → is_send_line line ≡ true → LineFacts line
line_facts line h =
    let a = and_parts (nat_lt line.label 4096) _ h in
    let b = and_parts (nat_lt line.ext 16) _ a.1 in
    let d = and_parts (nat_le line.least line.most) _ b.1 in
    record {
      label = grind (arith, nat_tests, a.0);
      ext = grind (arith, nat_tests, b.0);
      order = grind (arith, nat_tests, d.0);
      few = grind (arith, nat_tests, d.1);
    }

pub record SendFacts (sender : Sender) : Type 0 where
  pub low : 1 ≤ sender.number
  pub high : sender.number ≤ 128
  pub few : length sender.sends ≤ 31
  pub lines : list_all is_send_line sender.sends ≡ true

pub send_facts : (table : Table) → IsTrue (is_valid table) → (sender : Sender) → In sender table.senders → SendFacts sender
send_facts table valid sender among =
    let facts = of_each (SenderFacts table) table.senders (valid_facts table valid).senders sender among in
    let takes : Bool = are_take_lines sender.takes in
    let sends : Bool = are_send_lines sender.sends in
    let a = and_parts (is_number sender.number) (is_tg sender.tg && (is_offset sender.at && (sends && takes))) facts.in_range in
    let b = and_parts (is_tg sender.tg) (is_offset sender.at && (sends && takes)) a.1 in
    let d = and_parts (is_offset sender.at) (sends && takes) b.1 in
    let e = and_parts sends takes d.1 in
    let f = and_parts (is_between 1 31 (length sender.sends)) (list_all is_send_line sender.sends) e.0 in
    let g = and_parts (nat_le 1 (length sender.sends)) (nat_le (length sender.sends) 31) f.0 in
    record { low = facts.number_least; high = facts.number_most; few = grind (arith, nat_tests, g.1); lines = f.1 }

pub middle : (before : List SendLine) (line : SendLine) (left : List SendLine) → list_all is_send_line (before ++ line ∷ left) ≡ true
    → is_send_line line ≡ true
middle [] line left h = (and_parts (is_send_line line) (list_all is_send_line left) h).0
middle (first ∷ before) line left h = middle before line left (and_parts (is_send_line first) (list_all is_send_line (before ++ line ∷ left)) h).1

-- a sender is found under its number
pub found_sender : (senders : List Sender) (sender : Sender) (number : ℕ) → Differ (λ s. s.number) senders → In sender senders → number ≡ sender.number
    → sender_of senders number ≡ Some sender
found_sender [] sender number d i e = absurd i
found_sender (other ∷ senders) sender number d (inl same) e =
    let k : other.number ≡ number = ap (λ (s : Sender). s.number) (sym same) ∙ sym e in
    let test : (other.number == number) ≡ true = grind (arith, nat_tests) in
    ap (λ b. cond b (Some other) (sender_of senders number)) test ∙ ap Some (sym same)
found_sender (other ∷ senders) sender number d (inr i) e =
    let apart : other.number ≢ sender.number = d.0 sender i in
    let test : (other.number == number) ≡ false = grind (arith, nat_tests, apart, e) in
    ap (λ b. cond b (Some other) (sender_of senders number)) test ∙ found_sender senders sender number d.1 i e

pub find_is : (p : Sender → Bool) (senders : List Sender) (sender : Sender) → find p senders ≡ Some sender → In sender senders × (p sender ≡ true)
find_is p [] sender h = absurd cc
find_is p (other ∷ senders) sender h =
    elim (p other) as (λ b. p other ≡ b → cond b (Some other) (find p senders) ≡ Some sender → In sender (other ∷ senders) × (p sender ≡ true)) [
      | true ↦ λ e k. (let same : other ≡ sender = cc in (inl (sym same), ap p (sym same) ∙ e))
      | false ↦ λ e k. (let w = find_is p senders sender k in (inr w.0, w.1))
    ] refl h

-- ---- wordstrings and their lines
pub record Matched (line : SendLine) (string : Wordstring) (sends : List SendLine) (message : Message) : Type 0 where
  pub label : string.label ≡ line.label
  pub ext : string.ext ≡ line.ext
  pub least : line.least ≤ length string.words
  pub most : length string.words ≤ line.most
  pub others : matches allows sends message ≡ true

pub matched : (line : SendLine) (sends : List SendLine) (string : Wordstring) (message : Message)
    → matches allows (line ∷ sends) (string ∷ message) ≡ true → Matched line string sends message
matched line sends string message h =
    let label = and_parts (string.label == line.label) _ h in
    let ext = and_parts (string.ext == line.ext) _ label.1 in
    let words = and_parts (allows line (length string.words)) _ ext.1 in
    let range = and_parts (nat_le line.least (length string.words)) _ words.0 in
    record {
      label = eqb-true _ _ label.0;
      ext = eqb-true _ _ ext.0;
      least = grind (arith, nat_tests, range.0);
      most = grind (arith, nat_tests, range.1);
      others = words.1;
    }

pub matched_count : (sends : List SendLine) (message : Message) → matches allows sends message ≡ true → length message ≡ length sends
matched_count [] [] h = refl
matched_count [] (string ∷ message) h = absurd cc
matched_count (line ∷ sends) [] h = absurd cc
matched_count (line ∷ sends) (string ∷ message) h = omega (arith, matched_count sends message (matched line sends string message h).others)

one_matched : (line : SendLine) (words : List ℕ) → line.least ≤ length words → length words ≤ line.most
    → matches allows (line ∷ []) (string_of line words ∷ []) ≡ true
one_matched line words least most =
    let a : (line.label == line.label) ≡ true = grind (arith, nat_tests) in
    let b : (line.ext == line.ext) ≡ true = grind (arith, nat_tests) in
    let d : nat_le line.least (length words) ≡ true = grind (arith, nat_tests) in
    let e : nat_le (length words) line.most ≡ true = grind (arith, nat_tests) in
    rw (a, b, d, e) refl

pub matched_push : (before : List SendLine) (message : Message) (line : SendLine) (words : List ℕ) → matches allows before message ≡ true
    → line.least ≤ length words → length words ≤ line.most
    → matches allows (before ++ line ∷ []) (message ++ string_of line words ∷ []) ≡ true
matched_push [] [] line words h least most = one_matched line words least most
matched_push [] (string ∷ message) line words h least most = absurd cc
matched_push (first ∷ before) [] line words h least most = absurd cc
matched_push (first ∷ before) (string ∷ message) line words h least most =
    let again = matched_push before message line words (matched first before string message h).others least most in
    ap (λ b. string.label == first.label && (string.ext == first.ext && (allows first (length string.words) && b))) again
    ∙ sym (ap (λ b. string.label == first.label && (string.ext == first.ext && (allows first (length string.words) && b))) (matched first before string message h).others)
    ∙ h
