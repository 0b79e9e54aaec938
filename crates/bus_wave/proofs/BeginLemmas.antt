-- The sender of a message is found by its first label word, since no two SEND lines of a table have the same label and extension.
use Rattle.std.proofs.Common.{◌≡◌, ℕ, ◌/◌, ◌%◌, Bool, true, false, cond, ◌&&◌, ◌==◌, List, [], ◌∷◌, ◌++◌, Some, None}
use Rattle.std.proofs.Common.{refl, sym, ap, subst, ◌∙◌, inl, inr, append_assoc, append-nil}
use Rattle.std.specs.Prelude.{IsTrue}
use Rattle.std.specs.List.{list_any}
use Rattle.std.proofs.lemmas.Bool.{and_parts, or_parts, eqb-true, eq-eqb, true≢false}
use Rattle.std.proofs.lemmas.List.Folds.{list_any-append}
use Rattle.bus_strings.specs.Members.{In}
use Rattle.bus_strings.proofs.MemberLaws.{in_append_right}
use Rattle.bus_table.specs.declared.line.SendLine.{SendLine}
use Rattle.bus_table.specs.Fits.{sender_of}
use Rattle.bus_table.specs.Tables.{Sender, Table}
use Rattle.bus_table.specs.Valid.{is_valid}
use Rattle.bus_table.proofs.ValidLaws.{map_none, fresh_first}
use Rattle.bus_table.specs.Whole.{first_again, same_pair, send_lines}
use Rattle.bus_table.proofs.PartLaws.{parts_of}
use Rattle.bus_wave.specs.Judging.{is_label_of, begins, beginner}
use Rattle.bus_wave.proofs.SenderLemmas.{find_is}

-- ---- no line stands again
none_again : (earlier xs : List SendLine) (line : SendLine) → first_again same_pair earlier xs ≡ None → In line xs
    → list_any (λ y. same_pair y line) earlier ≡ false
none_again earlier [] line h i = absurd i
none_again earlier (x ∷ xs) line h (inl same) =
    ap (λ l. list_any (λ y. same_pair y l) earlier) same ∙ (fresh_first same_pair earlier x xs h).0
none_again earlier (x ∷ xs) line h (inr i) =
    let rest = none_again (earlier ++ x ∷ []) xs line (fresh_first same_pair earlier x xs h).1 i in
    (or_parts (list_any (λ y. same_pair y line) earlier) (list_any (λ y. same_pair y line) (x ∷ [])) (sym (list_any-append (λ y. same_pair y line) earlier (x ∷ [])) ∙ rest)).0

onward : (earlier xs ys : List SendLine) → first_again same_pair earlier (xs ++ ys) ≡ None → first_again same_pair (earlier ++ xs) ys ≡ None
onward earlier [] ys h = ap (λ es. first_again same_pair es ys) (append-nil earlier) ∙ h
onward earlier (x ∷ xs) ys h =
    ap (λ es. first_again same_pair es ys) (sym (append_assoc earlier (x ∷ []) xs)) ∙ onward (earlier ++ x ∷ []) xs ys (fresh_first same_pair earlier x (xs ++ ys) h).1

-- ---- the pairs of a valid table
pairs_once : (table : Table) → IsTrue (is_valid table) → first_again same_pair [] (send_lines table.senders) ≡ None
pairs_once table valid = map_none _ (first_again same_pair [] (send_lines table.senders)) (parts_of table valid).pairs

-- ---- the sender of a label word
label_again : (l line : SendLine) (value : ℕ) → is_label_of value l ≡ true → is_label_of value line ≡ true → same_pair l line ≡ true
label_again l line value a b =
    let p = and_parts (value / 16 == l.label) (value % 16 == l.ext) a in
    let q = and_parts (value / 16 == line.label) (value % 16 == line.ext) b in
    let label : l.label ≡ line.label = sym (eqb-true _ _ p.0) ∙ eqb-true _ _ q.0 in
    let ext : l.ext ≡ line.ext = sym (eqb-true _ _ p.1) ∙ eqb-true _ _ q.1 in
    ap (λ t. t && l.ext == line.ext) (eq-eqb _ _ label) ∙ eq-eqb _ _ ext

in_lines : (senders : List Sender) (sender : Sender) (line : SendLine) (left : List SendLine) → In sender senders → sender.sends ≡ line ∷ left
    → In line (send_lines senders)
in_lines [] sender line left i e = absurd i
in_lines (other ∷ senders) sender line left (inl same) e =
    let lines : other.sends ≡ line ∷ left = ap (λ (s : Sender). s.sends) (sym same) ∙ e in
    subst (λ (ls : List SendLine). In line (ls ++ send_lines senders)) (sym lines) (inl refl)
in_lines (other ∷ senders) sender line left (inr i) e = in_append_right other.sends (send_lines senders) line (in_lines senders sender line left i e)

not_other : (earlier : List SendLine) (sends others : List SendLine) (line : SendLine) (value : ℕ) → first_again same_pair earlier (sends ++ others) ≡ None
    → In line others → is_label_of value line ≡ true → begins value sends ≡ false
not_other earlier [] others line value h i label = refl
not_other earlier (l ∷ ls) others line value h i label =
    let rest = (fresh_first same_pair earlier l (ls ++ others) h).1 in
    let none = none_again (earlier ++ l ∷ []) (ls ++ others) line rest (in_append_right ls others line i) in
    let last = (or_parts (list_any (λ y. same_pair y line) earlier) (list_any (λ y. same_pair y line) (l ∷ [])) (sym (list_any-append (λ y. same_pair y line) earlier (l ∷ [])) ∙ none)).1 in
    let apart = (or_parts (same_pair l line) false last).0 in
    by_test (is_label_of value l) refl apart
  where
    by_test : (b : Bool) → is_label_of value l ≡ b → same_pair l line ≡ false → b ≡ false
    by_test false e apart = refl
    by_test true e apart = absurd (true≢false (sym (label_again l line value e label) ∙ apart))

found_first : (earlier : List SendLine) (senders : List Sender) (sender : Sender) (line : SendLine) (left : List SendLine) (value : ℕ)
    → first_again same_pair earlier (send_lines senders) ≡ None → In sender senders → sender.sends ≡ line ∷ left → is_label_of value line ≡ true
    → beginner senders value ≡ Some sender
found_first earlier [] sender line left value h i e label = absurd i
found_first earlier (other ∷ senders) sender line left value h (inl same) e label =
    let lines : other.sends ≡ line ∷ left = ap (λ (s : Sender). s.sends) (sym same) ∙ e in
    let test : begins value other.sends ≡ true = ap (begins value) lines ∙ label in
    ap (λ b. cond b (Some other) (beginner senders value)) test ∙ ap Some (sym same)
found_first earlier (other ∷ senders) sender line left value h (inr i) e label =
    let test : begins value other.sends ≡ false = not_other earlier other.sends (send_lines senders) line value h (in_lines senders sender line left i e) label in
    ap (λ b. cond b (Some other) (beginner senders value)) test
    ∙ found_first (earlier ++ other.sends) senders sender line left value (onward earlier other.sends (send_lines senders) h) i e label

-- the sender of a label word that is that of its first SEND line
pub beginner_is : (table : Table) → IsTrue (is_valid table) → (sender : Sender) (line : SendLine) (left : List SendLine) (value : ℕ)
    → In sender table.senders → sender.sends ≡ line ∷ left → is_label_of value line ≡ true → beginner table.senders value ≡ Some sender
beginner_is table valid sender line left value i e label = found_first [] table.senders sender line left value (pairs_once table valid) i e label

-- the sender of a number is a sender of the table, and has that number
pub of_number : (senders : List Sender) (number : ℕ) (sender : Sender) → sender_of senders number ≡ Some sender
    → In sender senders × (sender.number ≡ number)
of_number senders number sender h =
    let w = find_is (λ s. s.number == number) senders sender h in (w.0, eqb-true _ _ w.1)
