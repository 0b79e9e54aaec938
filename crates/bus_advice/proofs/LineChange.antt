-- An aperiodic table with more data words to send at least on one SEND line.
use Rattle.std.specs.Prelude.{◌≡◌, ℕ, zero, suc, ◌+◌, ◌-◌, ◌*◌, ◌<◌, ◌≤◌, Bool, true, false, ◌&&◌, ◌==◌, nat_le, IsTrue, List, [], ◌∷◌, ◌++◌, map, Some, None, length, slice_get}
use Rattle.std.specs.List.{list_all}
use Rattle.std.specs.Option.{option_map}
use Rattle.std.proofs.Common.{inl, inr, arith, sym, refl, ap, ◌∙◌}
use Rattle.std.proofs.lemmas.Bool.{and_parts, and_from, cases_eq, false_from_ne_true}
use Rattle.std.proofs.lemmas.Bool.Decides.{nat_tests}
use Rattle.std.proofs.lemmas.List.{map-append}
use Rattle.std.proofs.lemmas.List.Sums.{sum_by-cons}
use Rattle.bus_strings.specs.Limits.{inner_gap}
use Rattle.bus_strings.specs.Members.{In}
use Rattle.bus_strings.proofs.MemberLaws.{in_map, from_map}
use Rattle.bus_table.specs.declared.mode.Mode.TheVariants.{Aperiodic}
use Rattle.bus_table.specs.declared.error.WholeReason.TheVariants.{GapTwice, PairTwice}
use Rattle.bus_table.specs.declared.line.SendLine.{SendLine}
use Rattle.bus_table.specs.Tables.{Sender, Table}
use Rattle.bus_table.specs.Lengths.{shortest, words_at_least}
use Rattle.bus_table.specs.Ranges.{is_number, is_tg, is_offset, is_label, is_ext, is_sender, is_send_line, are_send_lines}
use Rattle.bus_table.specs.Valid.{is_valid}
use Rattle.bus_table.specs.Whole.{first_again, same_pair, send_lines}
use Rattle.bus_table.specs.inside.Facts.{SenderFacts, TableFacts}
use Rattle.bus_table.proofs.ValidLaws.{valid_facts, map_none}
use Rattle.bus_table.proofs.TurnLaws.{of_each, numbers_differ}
use Rattle.bus_table.proofs.PartLaws.{parts_of, none_long}
use Rattle.bus_table.proofs.FillingLaws.{sends_in_range}
use Rattle.bus_regime.specs.Verdicts.{verdict_of, is_accepted, least_cycle}
use Rattle.bus_regime.proofs.VerdictLaws.{accepted_cycle, cycle_accepted, refused_cycle}
use Rattle.bus_advice.specs.Changes.{change_sender, at_least, at_least_in, with_line, with_least}
use Rattle.bus_advice.specs.Advices.{works, greater_least}
use Rattle.bus_advice.specs.inside.InnerGaps.{IsShort}
use Rattle.bus_advice.proofs.Searches.{above_some, above_none}
use Rattle.bus_advice.proofs.Members.{same_by, changed_here, changed_there, kept_by, sum_changed, all_changed, again_map, again_unmap}
use Rattle.bus_advice.proofs.Changing.{stays_valid}
use Rattle.bus_advice.proofs.CycleChange.{is_working, working_valid, working_accepted}

abbrev changed : Sender → ℕ → ℕ → Sender → Sender
changed s place n = change_sender s.number (with_line place n)

-- ---- the lines of the sender
length-changed : (place n : ℕ) (lines : List SendLine) → length (at_least_in place n lines) ≡ length lines
length-changed place n [] = refl
length-changed zero n (l ∷ lines) = refl
length-changed (suc place) n (l ∷ lines) = let rest = length-changed place n lines in omega (arith, rest)

words_changed : (place n : ℕ) (lines : List SendLine) (line : SendLine) → slice_get lines place ≡ Some line
    → words_at_least (at_least_in place n lines) + line.least ≡ words_at_least lines + n
words_changed place n [] line h = absurd (let k : None ≡ Some line = h in cc)
words_changed zero n (l ∷ lines) line h =
    let same : l ≡ line = (let k : Some l ≡ Some line = h in cc) in
    let least : l.least ≡ line.least = ap (λ (x : SendLine). x.least) same in
    let one = sum_by-cons (λ (x : SendLine). 1 + x.least) (at_least n l) lines in
    let two = sum_by-cons (λ (x : SendLine). 1 + x.least) l lines in
    omega (arith, one, two, least)
words_changed (suc place) n (l ∷ lines) line h =
    let one = sum_by-cons (λ (x : SendLine). 1 + x.least) l (at_least_in place n lines) in
    let two = sum_by-cons (λ (x : SendLine). 1 + x.least) l lines in
    let rest = words_changed place n lines line h in
    omega (arith, one, two, rest)

shortest_changed : (s : Sender) (place n : ℕ) (line : SendLine) → slice_get s.sends place ≡ Some line
    → shortest (with_line place n s) + 20 * line.least ≡ shortest s + 20 * n
shortest_changed s place n line h =
    let words = words_changed place n s.sends line h in
    let long = length-changed place n s.sends in
    let same : inner_gap * (length (at_least_in place n s.sends) - 1) ≡ inner_gap * (length s.sends - 1) = ap (λ k. inner_gap * (k - 1)) long in
    omega (arith, words, same)

-- ---- the range of a line
line_range : (line : SendLine) (n : ℕ) → n ≤ line.most → is_send_line line ≡ true → is_send_line (at_least n line) ≡ true
line_range line n high h =
    let one = and_parts (is_label line.label) _ h in
    let two = and_parts (is_ext line.ext) _ one.1 in
    let three = and_parts (nat_le line.least line.most) _ two.1 in
    let fits : nat_le n line.most ≡ true = grind (arith, nat_tests, high) in
    and_from _ _ one.0 (and_from _ _ two.0 (and_from _ _ fits three.1))

lines_range : (place n : ℕ) (lines : List SendLine) (line : SendLine) → slice_get lines place ≡ Some line → n ≤ line.most
    → list_all is_send_line lines ≡ true → list_all is_send_line (at_least_in place n lines) ≡ true
lines_range place n [] line e high h = h
lines_range zero n (l ∷ lines) line e high h =
    let same : l ≡ line = (let k : Some l ≡ Some line = e in cc) in
    let most : line.most ≡ l.most = ap (λ (x : SendLine). x.most) (sym same) in
    let parts = and_parts (is_send_line l) _ h in
    and_from _ _ (line_range l n (omega arith) parts.0) parts.1
lines_range (suc place) n (l ∷ lines) line e high h =
    let parts = and_parts (is_send_line l) _ h in
    and_from _ _ parts.0 (lines_range place n lines line e high parts.1)

line_only : (place n : ℕ) (lines : List SendLine) (line : SendLine) → slice_get lines place ≡ Some line
    → list_all is_send_line (at_least_in place n lines) ≡ true → n ≤ line.most
line_only place n [] line e h = absurd (let k : None ≡ Some line = e in cc)
line_only zero n (l ∷ lines) line e h =
    let same : l ≡ line = (let k : Some l ≡ Some line = e in cc) in
    let most : l.most ≡ line.most = ap (λ (x : SendLine). x.most) same in
    let one = and_parts (is_label l.label) _ (and_parts (is_send_line (at_least n l)) _ h).0 in
    let two = and_parts (is_ext l.ext) _ one.1 in
    let three = and_parts (nat_le n l.most) _ two.1 in
    let fits : n ≤ l.most = grind (arith, nat_tests, three.0) in
    omega arith
line_only (suc place) n (l ∷ lines) line e h = line_only place n lines line e (and_parts (is_send_line l) _ h).1

-- ---- the range of the sender
in_range : (s : Sender) (place n : ℕ) (line : SendLine) → slice_get s.sends place ≡ Some line → n ≤ line.most → is_sender s ≡ true
    → is_sender (with_line place n s) ≡ true
in_range s place n line e high h =
    let one = and_parts (is_number s.number) _ h in
    let two = and_parts (is_tg s.tg) _ one.1 in
    let three = and_parts (is_offset s.at) _ two.1 in
    let four = and_parts (are_send_lines s.sends) _ three.1 in
    let five = and_parts _ (list_all is_send_line s.sends) four.0 in
    let long = length-changed place n s.sends in
    and_from _ _ one.0 (and_from _ _ two.0 (and_from _ _ three.0 (and_from _ _
    (and_from _ _ (ap (λ k. nat_le 1 k && nat_le k 31) long ∙ five.0) (lines_range place n s.sends line e high five.1))
    four.1)))

-- ---- labels and extensions
blank : (place n : ℕ) (lines : List SendLine) → map (at_least 0) (at_least_in place n lines) ≡ map (at_least 0) lines
blank place n [] = refl
blank zero n (l ∷ lines) = refl
blank (suc place) n (l ∷ lines) = ap (λ ls. at_least 0 l ∷ ls) (blank place n lines)

blank_all : (s : Sender) (place n : ℕ) (senders : List Sender)
    → map (at_least 0) (send_lines (map (changed s place n) senders)) ≡ map (at_least 0) (send_lines senders)
blank_all s place n [] = refl
blank_all s place n (x ∷ senders) =
    map-append (at_least 0) (changed s place n x).sends (send_lines (map (changed s place n) senders))
    ∙ ap (λ ls. ls ++ map (at_least 0) (send_lines (map (changed s place n) senders)))
    (kept_by (λ t. map (at_least 0) t.sends) s.number (with_line place n) (λ t. blank place n t.sends) x)
    ∙ ap (λ ls. map (at_least 0) x.sends ++ ls) (blank_all s place n senders)
    ∙ sym (map-append (at_least 0) x.sends (send_lines senders))

pairs_again : (s : Sender) (place n : ℕ) (senders : List Sender) → first_again same_pair [] (send_lines senders) ≡ None
    → first_again same_pair [] (send_lines (map (changed s place n) senders)) ≡ None
pairs_again s place n senders h =
    again_unmap same_pair same_pair (at_least 0) (λ a b e. e) [] (send_lines (map (changed s place n) senders))
    (ap (first_again same_pair []) (blank_all s place n senders)
    ∙ again_map same_pair same_pair (at_least 0) (λ l. Unit {0}) (λ a b p q e. e) [] (send_lines senders) (λ a i. tt) (λ a i. tt) h)

-- ---- terminal gaps stay
module _ (s : Sender) (place n : ℕ) where
  same_gap : (x : Sender) → (changed s place n x).tg ≡ x.tg
  same_gap = kept_by (λ t. t.tg) s.number (with_line place n) (λ t. refl)

  tells_gap : (a b : Sender) → ((changed s place n a).tg == (changed s place n b).tg) ≡ true → (a.tg == b.tg) ≡ true
  tells_gap a b h = ap (λ k. k == b.tg) (sym (same_gap a)) ∙ ap (λ k. (changed s place n a).tg == k) (sym (same_gap b)) ∙ h

-- ---- the table
least_valid : (table : Table) (s : Sender) (place n : ℕ) (line : SendLine) → IsTrue (is_valid table) → table.mode ≡ Aperiodic
    → In s table.senders → slice_get s.sends place ≡ Some line → n ≤ line.most → IsTrue (is_valid (with_least s.number place n table))
least_valid table s place n line valid aperiodic i at high =
    let p = parts_of table valid in
    let facts = valid_facts table valid in
    let f : Sender → Sender = changed s place n in
    let once : first_again (λ a b. a.tg == b.tg) [] table.senders ≡ None = map_none (λ (x : Sender). GapTwice x.number) _ p.gaps in
    let pairs : first_again same_pair [] (send_lines table.senders) ≡ None = map_none (λ (l : SendLine). PairTwice l.label l.ext) _ p.pairs in
    stays_valid table f valid aperiodic (record {
      number = kept_by (λ t. t.number) s.number (with_line place n) (λ t. refl);
      at = kept_by (λ t. t.at) s.number (with_line place n) (λ t. refl);
      range = all_changed is_sender f table.senders (λ x j h. elim (cases_eq x.number s.number) [
        | inl e ↦
            (let one : x ≡ s = same_by (λ t. t.number) table.senders (numbers_differ table facts) x s j i e in
            ap is_sender (changed_here s.number (with_line place n) x e) ∙ in_range x place n line (ap (λ (t : Sender). slice_get t.sends place) one ∙ at) high h)
        | inr e ↦ ap is_sender (changed_there s.number (with_line place n) x e) ∙ h
      ]) p.senders;
      gaps = ap (option_map (λ (x : Sender). GapTwice x.number))
          (again_map (λ (a b : Sender). a.tg == b.tg) (λ (a b : Sender). a.tg == b.tg) f (λ x. In x table.senders) (λ a b j k h. tells_gap s place n a b h) [] table.senders (λ a j. absurd j) (λ a j. j) once);
      short = none_long table.sg (map f table.senders) (λ y j. let w = from_map f table.senders y j in
          let tg : (f w.0).tg ≡ y.tg = ap (λ (t : Sender). t.tg) w.2 in
          let same : (f w.0).tg ≡ w.0.tg = same_gap s place n w.0 in
          let k = (of_each (SenderFacts table) table.senders facts.senders w.0 w.1).tg_short in omega (arith, k));
      pairs = ap (option_map (λ (l : SendLine). PairTwice l.label l.ext)) (pairs_again s place n table.senders pairs);
    })

line_cycle : (table : Table) (s : Sender) (place n : ℕ) (line : SendLine) → TableFacts table → In s table.senders
    → slice_get s.sends place ≡ Some line
    → least_cycle (with_least s.number place n table) + 20 * line.least ≡ least_cycle table + 20 * n
line_cycle table s place n line facts i at =
    let words = shortest_changed s place n line at in
    let sums = sum_changed (λ x. x.tg + shortest x) (with_line place n) table.senders s i (numbers_differ table facts) in
    omega (arith, sums, words)

least_only : (table : Table) (s : Sender) (place n : ℕ) (line : SendLine) → table.mode ≡ Aperiodic → In s table.senders
    → slice_get s.sends place ≡ Some line → works (with_least s.number place n table) ≡ true
    → (n ≤ line.most) × (table.ti ≤ least_cycle (with_least s.number place n table))
least_only table s place n line aperiodic i at h =
    let made : Table = with_least s.number place n table in
    let f : Sender → Sender = changed s place n in
    let facts = valid_facts made (working_valid made h) in
    let here : f s ≡ with_line place n s = changed_here s.number (with_line place n) s refl in
    let own = (of_each (SenderFacts made) made.senders facts.senders (f s) (in_map f table.senders s i)).in_range in
    let range : is_sender (with_line place n s) ≡ true = sym (ap is_sender here) ∙ own in
    let lines = (and_parts _ (list_all is_send_line (at_least_in place n s.sends)) (sends_in_range (with_line place n s) range)).1 in
    (line_only place n s.sends line at lines, accepted_cycle made aperiodic (working_accepted made h))

all_at : {A : Type 0} (p : A → Bool) (xs : List A) (k : ℕ) (x : A) → list_all p xs ≡ true → slice_get xs k ≡ Some x → p x ≡ true
all_at p [] k x h e = absurd (let w : None ≡ Some x = e in cc)
all_at p (y ∷ ys) zero x h e =
    let same : y ≡ x = (let w : Some y ≡ Some x = e in cc) in
    ap p (sym same) ∙ (and_parts (p y) _ h).0
all_at p (y ∷ ys) (suc k) x h e = all_at p ys k x (and_parts (p y) _ h).1 e

pub line_small : (table : Table) (s : Sender) (place : ℕ) (line : SendLine) → IsTrue (is_valid table) → In s table.senders
    → slice_get s.sends place ≡ Some line → line.most ≤ 256
line_small table s place line valid i at =
    let own = (of_each (SenderFacts table) table.senders (valid_facts table valid).senders s i).in_range in
    let lines = (and_parts _ (list_all is_send_line s.sends) (sends_in_range s own)).1 in
    let one = and_parts (is_label line.label) _ (all_at is_send_line s.sends place line lines at) in
    let two = and_parts (is_ext line.ext) _ one.1 in
    let three = and_parts (nat_le line.least line.most) _ two.1 in
    let most : line.most ≤ 256 = grind (arith, nat_tests, three.1) in
    most

pub least_some : (table : Table) (s : Sender) (place deficit n : ℕ) (line : SendLine) → IsTrue (is_valid table) → IsShort table deficit
    → In s table.senders → slice_get s.sends place ≡ Some line → deficit + 20 * line.least ≤ 20 * n → 20 * n < deficit + 20 * line.least + 20
    → n ≤ line.most → Some n ≡ greater_least table s.number place line
least_some table s place deficit n line valid lacks i at enough nearest high =
    let small = line_small table s place line valid i at in
    let some = lacks.some in
    let less = lacks.short in
    let facts = valid_facts table valid in
    let low : line.least < n = omega arith in
    let cycle = line_cycle table s place n line facts i at in
    above_some (λ least. works (with_least s.number place least table)) line.least n low (omega arith)
    (is_working (with_least s.number place n table) (least_valid table s place n line valid lacks.aperiodic i at high)
    (cycle_accepted (with_least s.number place n table) lacks.aperiodic (omega arith)))
    (λ m a b. false_from_ne_true _ (λ h.
    let only = least_only table s place m line lacks.aperiodic i at h in
    let fits = only.1 in
    let other = line_cycle table s place m line facts i at in
    absurd (omega arith)))

pub least_none : (table : Table) (s : Sender) (place deficit n : ℕ) (line : SendLine) → IsTrue (is_valid table) → IsShort table deficit
    → In s table.senders → slice_get s.sends place ≡ Some line → 20 * n < deficit + 20 * line.least + 20 → line.most < n
    → None ≡ greater_least table s.number place line
least_none table s place deficit n line valid lacks i at nearest high =
    let less = lacks.short in
    let facts = valid_facts table valid in
    above_none (λ least. works (with_least s.number place least table)) line.least
    (λ m a b. false_from_ne_true _ (λ h.
    let only = least_only table s place m line lacks.aperiodic i at h in
    let most : m ≤ line.most = only.0 in
    let fits = only.1 in
    let other = line_cycle table s place m line facts i at in
    absurd (omega arith)))

-- it is in its range
pub least_most : (table : Table) (s : Sender) (place n : ℕ) (line : SendLine) → IsTrue (is_valid table) → table.mode ≡ Aperiodic
    → In s table.senders → slice_get s.sends place ≡ Some line → works (with_least s.number place n table) ≡ true → n ≤ 256
least_most table s place n line valid aperiodic i at h =
    let only = least_only table s place n line aperiodic i at h in
    let fits : n ≤ line.most = only.0 in
    let small = line_small table s place line valid i at in
    omega arith

-- fewer don't help
pub least_refused : (table : Table) (s : Sender) (place n : ℕ) (line : SendLine) → IsTrue (is_valid table) → table.mode ≡ Aperiodic
    → is_accepted (verdict_of table) ≡ false → In s table.senders → slice_get s.sends place ≡ Some line → n ≤ line.least
    → works (with_least s.number place n table) ≡ false
least_refused table s place n line valid aperiodic refused i at high = false_from_ne_true _ (λ h.
    let less = refused_cycle table aperiodic refused in
    let only = least_only table s place n line aperiodic i at h in
    let fits : table.ti ≤ least_cycle (with_least s.number place n table) = only.1 in
    let cycle = line_cycle table s place n line (valid_facts table valid) i at in
    absurd (omega (arith, less, fits, cycle, high)))
