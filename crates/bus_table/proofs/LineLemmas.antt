-- One line: what is read is said by the line, and what the line says is read.
use Rattle.std.proofs.Common.{arith, ◌≡◌, ℕ, Bool, true, false, not, cond, ◌&&◌, ◌||◌, ◌==◌, List, [], ◌∷◌, length, codes, Option, Some, None, Result, Ok, refl, sym, ap, subst, ◌∙◌}
use Rattle.std.specs.List.{find}
use Rattle.std.specs.Str.{bytes_eq}
use Rattle.std.proofs.lemmas.Bool.{and_parts, eqb-true}
use Rattle.bus_text.specs.declared.reason.Reason.{Reason}
use Rattle.bus_text.specs.declared.reason.Reason.TheVariants.{Fields, Spelling}
use Rattle.bus_text.specs.Fields.{is_at}
use Rattle.bus_text.specs.Headers.{is_format_one}
use Rattle.bus_text.proofs.HeaderLaws.{format_found}
use Rattle.bus_text.specs.Numbers.{is_plain_decimal, decimal_value, is_hexadecimal, hexadecimal_value}
use Rattle.bus_text.specs.Refusals.{first_of, unless}
use Rattle.bus_text.proofs.FieldLemmas.{same_bytes}
use Rattle.bus_table.specs.declared.keyword.Keyword.{Keyword}
use Rattle.bus_table.specs.declared.mode.Mode.{Mode}
use Rattle.bus_table.specs.declared.mode.Mode.TheVariants.{Aperiodic, Periodic}
use Rattle.bus_table.specs.Forms.{word_of, all_keywords, keyword_of, field, table_reading, mode_reading, number_reading, mode_of, head_of, sender_reading, offset_head_of, offset_reading, head_reading, send_line_of, is_send_spelled, send_reading, is_star, is_ext_spelled, ext_of, take_line_of, is_take_spelled, take_reading}
use Rattle.bus_table.specs.Heads.{Head, is_head}
use Rattle.bus_table.specs.Ranges.{is_send_line, is_take_line}
use Rattle.bus_table.specs.Tables.{SendLine, TakeLine}
use Rattle.bus_table.specs.Text.{IsNumberLine, IsSenderLine, IsOffsetLine, IsSenderOf, IsSendLine, IsExtField, IsTakeLine, mode_word}
use Rattle.bus_table.proofs.FormLemmas.{staged}

-- ---- keywords
find_step : {A : Type 0} (p : A → Bool) (y x : A) (rest : Option A) (t : Bool) → p y ≡ t → (rest ≡ Some x → p x ≡ true) → cond t (Some y) rest ≡ Some x → p x ≡ true
find_step p y x rest true e go h = let same : y ≡ x = cc in ap p (sym same) ∙ e
find_step p y x rest false e go h = go h

find_test : {A : Type 0} (p : A → Bool) (xs : List A) (x : A) → find p xs ≡ Some x → p x ≡ true
find_test p [] x h = absurd cc
find_test p (y ∷ xs) x h = find_step p y x (find p xs) (p y) refl (find_test p xs x) h

-- the first field of a line is the spelling of its keyword
pub keyword_found : (fields : List (List ℕ)) (keyword : Keyword) → keyword_of fields ≡ Some keyword → is_at fields 0 (word_of keyword) ≡ true
keyword_found fields keyword h = find_test (λ k. is_at fields 0 (word_of k)) all_keywords keyword h

-- ---- results
pub staged_ok : {A : Type 0} (a b c : Bool) (v item : A) → staged a b c v ≡ Ok item → (a ≡ true) × (b ≡ true) × (c ≡ true) × (v ≡ item)
staged_ok true true true v item h = (refl, refl, refl, cc)
staged_ok true true false v item h = absurd cc
staged_ok true false c v item h = absurd cc
staged_ok false b c v item h = absurd cc

-- ---- the TABLE line
one_stage : (a : Bool) (u : Unit {0}) → unless (first_of ((not a, Fields) ∷ [])) tt ≡ Ok u → a ≡ true
one_stage true u h = refl
one_stage false u h = absurd cc

pub table_found : (fields : List (List ℕ)) (u : Unit {0}) → is_at fields 0 (codes "TABLE") ≡ true → table_reading fields ≡ Ok u → fields ≡ codes "TABLE" ∷ codes "1" ∷ []
unfolding table_reading
table_found fields u p h = format_found (codes "TABLE") fields p (one_stage (is_format_one fields) u h)

pub table_again : (fields : List (List ℕ)) → fields ≡ codes "TABLE" ∷ codes "1" ∷ [] → table_reading fields ≡ Ok tt
unfolding table_reading
table_again fields h = ap table_reading h

-- ---- the MODE line
abbrev mode_staged : Bool → Bool → Mode → Result Mode Reason
mode_staged a b mode = unless (first_of ((not a, Fields) ∷ (not b, Spelling) ∷ [])) mode

mode_stages : (a b : Bool) (mode item : Mode) → mode_staged a b mode ≡ Ok item → (a ≡ true) × (b ≡ true) × (mode ≡ item)
mode_stages true true mode item h = (refl, refl, cc)
mode_stages true false mode item h = absurd cc
mode_stages false b mode item h = absurd cc

-- the word of the mode that a word names
named : (word : List ℕ) (aperiodic periodic : Bool) → bytes_eq word (codes "aperiodic") ≡ aperiodic → bytes_eq word (codes "periodic") ≡ periodic → (aperiodic || periodic) ≡ true
    → bytes_eq word (mode_word (cond periodic Periodic Aperiodic)) ≡ true
named word aperiodic true a p h = p
named word true false a p h = a
named word false false a p h = absurd cc

mode_parts : (fields : List (List ℕ)) → is_at fields 0 (codes "MODE") ≡ true → length fields ≡ 2 → (is_at fields 1 (codes "aperiodic") || is_at fields 1 (codes "periodic")) ≡ true
    → fields ≡ codes "MODE" ∷ mode_word (mode_of fields) ∷ []
mode_parts [] p n q = absurd cc
mode_parts (a ∷ []) p n q = absurd cc
mode_parts (a ∷ b ∷ []) p n q =
    ap (λ f. f ∷ b ∷ []) (same_bytes a (codes "MODE") p)
    ∙ ap (λ f. codes "MODE" ∷ f ∷ []) (same_bytes b _ (named b (bytes_eq b (codes "aperiodic")) (bytes_eq b (codes "periodic")) refl refl q))
mode_parts (a ∷ b ∷ c ∷ fields) p n q = absurd (omega arith)

pub mode_found : (fields : List (List ℕ)) (mode : Mode) → is_at fields 0 (codes "MODE") ≡ true → mode_reading fields ≡ Ok mode → fields ≡ codes "MODE" ∷ mode_word mode ∷ []
unfolding mode_reading
mode_found fields mode p h =
    let k = mode_stages (length fields == 2) (is_at fields 1 (codes "aperiodic") || is_at fields 1 (codes "periodic")) (mode_of fields) mode h in
    mode_parts fields p (eqb-true _ _ k.0) k.1 ∙ ap (λ (m : Mode). codes "MODE" ∷ mode_word m ∷ []) k.2

pub mode_again : (mode : Mode) (fields : List (List ℕ)) → fields ≡ codes "MODE" ∷ mode_word mode ∷ [] → mode_reading fields ≡ Ok mode
unfolding mode_reading
mode_again Aperiodic fields h = ap mode_reading h
mode_again Periodic fields h = ap mode_reading h

-- ---- lines of a keyword and a number
number_parts : (fields : List (List ℕ)) (keyword : List ℕ) → is_at fields 0 keyword ≡ true → length fields ≡ 2 → is_plain_decimal (field fields 1) ≡ true → IsNumberLine keyword (decimal_value (field fields 1)) fields
number_parts [] keyword p n q = absurd cc
number_parts (a ∷ []) keyword p n q = absurd cc
number_parts (a ∷ b ∷ []) keyword p n q = record { number = b; parts = ap (λ f. f ∷ b ∷ []) (same_bytes a keyword p); value = record { plain = q; value = refl } }
number_parts (a ∷ b ∷ c ∷ fields) keyword p n q = absurd (omega arith)

pub number_line_found : (in_range : ℕ → Bool) (fields : List (List ℕ)) (keyword : List ℕ) (n : ℕ) → is_at fields 0 keyword ≡ true → number_reading in_range fields ≡ Ok n → IsNumberLine keyword n fields × (in_range n ≡ true)
unfolding number_reading
number_line_found in_range fields keyword n p h =
    let k = staged_ok (length fields == 2) (is_plain_decimal (field fields 1)) (in_range (decimal_value (field fields 1))) (decimal_value (field fields 1)) n h in
    (subst (λ (m : ℕ). IsNumberLine keyword m fields) k.3 (number_parts fields keyword p (eqb-true _ _ k.0) k.1), ap in_range (sym k.3) ∙ k.2)

pub number_line_again : (in_range : ℕ → Bool) (fields : List (List ℕ)) (keyword : List ℕ) (n : ℕ) → IsNumberLine keyword n fields → in_range n ≡ true → number_reading in_range fields ≡ Ok n
unfolding number_reading
number_line_again in_range fields keyword n line h =
    ap (number_reading in_range) line.parts
    ∙ ap (λ b. staged true b (in_range (decimal_value line.number)) (decimal_value line.number)) line.value.plain
    ∙ ap (λ (m : ℕ). staged true true (in_range m) m) line.value.value
    ∙ ap (λ c. staged true true c n) h

-- ---- SENDER lines
sender_parts : (fields : List (List ℕ)) → is_at fields 0 (codes "SENDER") ≡ true → length fields ≡ 4 → is_at fields 2 (codes "TG") ≡ true → is_plain_decimal (field fields 1) ≡ true → is_plain_decimal (field fields 3) ≡ true
    → IsSenderLine (decimal_value (field fields 1)) (decimal_value (field fields 3)) fields
sender_parts [] p n q r s = absurd cc
sender_parts (a ∷ []) p n q r s = absurd cc
sender_parts (a ∷ b ∷ []) p n q r s = absurd cc
sender_parts (a ∷ b ∷ c ∷ []) p n q r s = absurd (omega arith)
sender_parts (a ∷ b ∷ c ∷ d ∷ []) p n q r s = record {
  number = b;
  gap = d;
  parts = ap (λ f. f ∷ b ∷ c ∷ d ∷ []) (same_bytes a (codes "SENDER") p) ∙ ap (λ f. codes "SENDER" ∷ b ∷ f ∷ d ∷ []) (same_bytes c (codes "TG") q);
  number_is = record { plain = r; value = refl };
  gap_is = record { plain = s; value = refl };
}
sender_parts (a ∷ b ∷ c ∷ d ∷ e ∷ fields) p n q r s = absurd (omega arith)

pub sender_line_found : (fields : List (List ℕ)) (head : Head) → is_at fields 0 (codes "SENDER") ≡ true → sender_reading fields ≡ Ok head
    → IsSenderLine head.number head.tg fields × (is_head head ≡ true) × ((head.at == 0) ≡ true)
unfolding sender_reading
sender_line_found fields head p h =
    let k = staged_ok (length fields == 4 && is_at fields 2 (codes "TG")) (is_plain_decimal (field fields 1) && is_plain_decimal (field fields 3)) (is_head (head_of fields)) (head_of fields) head h in
    let a = and_parts (length fields == 4) _ k.0 in
    let b = and_parts (is_plain_decimal (field fields 1)) _ k.1 in
    (subst (λ (m : Head). IsSenderLine m.number m.tg fields) k.3 (sender_parts fields p (eqb-true _ _ a.0) a.1 b.0 b.1), ap is_head (sym k.3) ∙ k.2, ap (λ (m : Head). m.at == 0) (sym k.3))

pub sender_line_again : (fields : List (List ℕ)) (head : Head) → IsSenderLine head.number head.tg fields → is_head head ≡ true → head.at ≡ 0 → sender_reading fields ≡ Ok head
unfolding sender_reading
sender_line_again fields head line h zero =
    let made : ℕ → ℕ → ℕ → Head = λ n g a. record { number = n; tg = g; at = a } in
    let n = decimal_value line.number in
    let g = decimal_value line.gap in
    ap sender_reading line.parts
    ∙ ap (λ b. staged true (b && is_plain_decimal line.gap) (is_head (made n g 0)) (made n g 0)) line.number_is.plain
    ∙ ap (λ b. staged true b (is_head (made n g 0)) (made n g 0)) line.gap_is.plain
    ∙ ap (λ (m : ℕ). staged true true (is_head (made m g 0)) (made m g 0)) line.number_is.value
    ∙ ap (λ (m : ℕ). staged true true (is_head (made head.number m 0)) (made head.number m 0)) line.gap_is.value
    ∙ ap (λ (m : ℕ). staged true true (is_head (made head.number head.tg m)) (made head.number head.tg m)) (sym zero)
    ∙ ap (λ c. staged true true c head) h

-- ---- SENDER lines with an offset
offset_parts : (fields : List (List ℕ)) → is_at fields 0 (codes "SENDER") ≡ true → length fields ≡ 6 → is_at fields 2 (codes "TG") ≡ true → is_at fields 4 (codes "AT") ≡ true
    → is_plain_decimal (field fields 1) ≡ true → is_plain_decimal (field fields 3) ≡ true → is_plain_decimal (field fields 5) ≡ true
    → IsOffsetLine (decimal_value (field fields 1)) (decimal_value (field fields 3)) (decimal_value (field fields 5)) fields
offset_parts [] p n q o r s t = absurd cc
offset_parts (a ∷ []) p n q o r s t = absurd (omega arith)
offset_parts (a ∷ b ∷ []) p n q o r s t = absurd (omega arith)
offset_parts (a ∷ b ∷ c ∷ []) p n q o r s t = absurd (omega arith)
offset_parts (a ∷ b ∷ c ∷ d ∷ []) p n q o r s t = absurd (omega arith)
offset_parts (a ∷ b ∷ c ∷ d ∷ e ∷ []) p n q o r s t = absurd (omega arith)
offset_parts (a ∷ b ∷ c ∷ d ∷ e ∷ f ∷ []) p n q o r s t = record {
  number = b;
  gap = d;
  offset = f;
  parts = ap (λ w. w ∷ b ∷ c ∷ d ∷ e ∷ f ∷ []) (same_bytes a (codes "SENDER") p) ∙ ap (λ w. codes "SENDER" ∷ b ∷ w ∷ d ∷ e ∷ f ∷ []) (same_bytes c (codes "TG") q)
      ∙ ap (λ w. codes "SENDER" ∷ b ∷ codes "TG" ∷ d ∷ w ∷ f ∷ []) (same_bytes e (codes "AT") o);
  number_is = record { plain = r; value = refl };
  gap_is = record { plain = s; value = refl };
  offset_is = record { plain = t; value = refl };
}
offset_parts (a ∷ b ∷ c ∷ d ∷ e ∷ f ∷ g ∷ fields) p n q o r s t = absurd (omega arith)

pub offset_line_found : (fields : List (List ℕ)) (head : Head) → is_at fields 0 (codes "SENDER") ≡ true → offset_reading fields ≡ Ok head → IsOffsetLine head.number head.tg head.at fields × (is_head head ≡ true)
unfolding offset_reading
offset_line_found fields head p h =
    let k = staged_ok (length fields == 6 && (is_at fields 2 (codes "TG") && is_at fields 4 (codes "AT"))) (is_plain_decimal (field fields 1) && (is_plain_decimal (field fields 3) && is_plain_decimal (field fields 5))) (is_head (offset_head_of fields)) (offset_head_of fields) head h in
    let a = and_parts (length fields == 6) _ k.0 in
    let words = and_parts (is_at fields 2 (codes "TG")) _ a.1 in
    let b = and_parts (is_plain_decimal (field fields 1)) _ k.1 in
    let c = and_parts (is_plain_decimal (field fields 3)) _ b.1 in
    (subst (λ (m : Head). IsOffsetLine m.number m.tg m.at fields) k.3 (offset_parts fields p (eqb-true _ _ a.0) words.0 words.1 b.0 c.0 c.1), ap is_head (sym k.3) ∙ k.2)

pub offset_line_again : (fields : List (List ℕ)) (head : Head) → IsOffsetLine head.number head.tg head.at fields → is_head head ≡ true → offset_reading fields ≡ Ok head
unfolding offset_reading
offset_line_again fields head line h =
    let made : ℕ → ℕ → ℕ → Head = λ n g a. record { number = n; tg = g; at = a } in
    let n = decimal_value line.number in
    let g = decimal_value line.gap in
    let a = decimal_value line.offset in
    ap offset_reading line.parts
    ∙ ap (λ b. staged true (b && (is_plain_decimal line.gap && is_plain_decimal line.offset)) (is_head (made n g a)) (made n g a)) line.number_is.plain
    ∙ ap (λ b. staged true (b && is_plain_decimal line.offset) (is_head (made n g a)) (made n g a)) line.gap_is.plain
    ∙ ap (λ b. staged true b (is_head (made n g a)) (made n g a)) line.offset_is.plain
    ∙ ap (λ (m : ℕ). staged true true (is_head (made m g a)) (made m g a)) line.number_is.value
    ∙ ap (λ (m : ℕ). staged true true (is_head (made head.number m a)) (made head.number m a)) line.gap_is.value
    ∙ ap (λ (m : ℕ). staged true true (is_head (made head.number head.tg m)) (made head.number head.tg m)) line.offset_is.value
    ∙ ap (λ c. staged true true c head) h

-- ---- SENDER lines of a mode
-- whether a sender may have this offset
abbrev pub fits_offset : Mode → ℕ → Bool
fits_offset Aperiodic at = at == 0
fits_offset Periodic at = true

pub head_line_found : (mode : Mode) (fields : List (List ℕ)) (head : Head) → is_at fields 0 (codes "SENDER") ≡ true → head_reading mode fields ≡ Ok head
    → IsSenderOf mode head.number head.tg head.at fields × (is_head head ≡ true) × (fits_offset mode head.at ≡ true)
head_line_found Aperiodic fields head p h = sender_line_found fields head p h
head_line_found Periodic fields head p h = let k = offset_line_found fields head p h in (k.0, k.1, refl)

pub head_line_again : (mode : Mode) (fields : List (List ℕ)) (head : Head) → IsSenderOf mode head.number head.tg head.at fields → is_head head ≡ true → fits_offset mode head.at ≡ true → head_reading mode fields ≡ Ok head
head_line_again Aperiodic fields head line h fits = sender_line_again fields head line h (eqb-true head.at 0 fits)
head_line_again Periodic fields head line h fits = offset_line_again fields head line h

-- ---- SEND lines
send_parts : (fields : List (List ℕ)) → is_at fields 0 (codes "SEND") ≡ true → length fields ≡ 5 → is_send_spelled fields ≡ true → IsSendLine (send_line_of fields) fields
send_parts [] p n s = absurd cc
send_parts (a ∷ []) p n s = absurd (omega arith)
send_parts (a ∷ b ∷ []) p n s = absurd (omega arith)
send_parts (a ∷ b ∷ c ∷ []) p n s = absurd (omega arith)
send_parts (a ∷ b ∷ c ∷ d ∷ []) p n s = absurd (omega arith)
send_parts (a ∷ b ∷ c ∷ d ∷ e ∷ []) p n s =
    let label = and_parts (is_hexadecimal 3 b) _ s in
    let ext = and_parts (is_hexadecimal 1 c) _ label.1 in
    let counts = and_parts (is_plain_decimal d) _ ext.1 in
    record {
      label = b;
      ext = c;
      least = d;
      most = e;
      parts = ap (λ f. f ∷ b ∷ c ∷ d ∷ e ∷ []) (same_bytes a (codes "SEND") p);
      label_is = record { digits = label.0; value = refl };
      ext_is = record { digits = ext.0; value = refl };
      least_is = record { plain = counts.0; value = refl };
      most_is = record { plain = counts.1; value = refl };
    }
send_parts (a ∷ b ∷ c ∷ d ∷ e ∷ f ∷ fields) p n s = absurd (omega arith)

pub send_line_found : (fields : List (List ℕ)) (line : SendLine) → is_at fields 0 (codes "SEND") ≡ true → send_reading fields ≡ Ok line → IsSendLine line fields × (is_send_line line ≡ true)
unfolding send_reading
send_line_found fields line p h =
    let k = staged_ok (length fields == 5) (is_send_spelled fields) (is_send_line (send_line_of fields)) (send_line_of fields) line h in
    (subst (λ (l : SendLine). IsSendLine l fields) k.3 (send_parts fields p (eqb-true _ _ k.0) k.1), ap is_send_line (sym k.3) ∙ k.2)

spelled_again : (fields : List (List ℕ)) (line : SendLine) → IsSendLine line fields → (length fields ≡ 5) × (is_send_spelled fields ≡ true) × (send_line_of fields ≡ line)
spelled_again fields line is =
    let whole = codes "SEND" ∷ is.label ∷ is.ext ∷ is.least ∷ is.most ∷ [] in
    let e : fields ≡ whole = is.parts in (
      ap length e,
      ap is_send_spelled e ∙ ap (λ b. b && (is_hexadecimal 1 is.ext && (is_plain_decimal is.least && is_plain_decimal is.most))) is.label_is.digits
          ∙ ap (λ b. b && (is_plain_decimal is.least && is_plain_decimal is.most)) is.ext_is.digits
          ∙ ap (λ b. b && is_plain_decimal is.most) is.least_is.plain
          ∙ is.most_is.plain,
      ap send_line_of e
          ∙ ap (λ (n : ℕ). record { label = n; ext = hexadecimal_value is.ext; least = decimal_value is.least; most = decimal_value is.most }) is.label_is.value
          ∙ ap (λ (n : ℕ). record { label = line.label; ext = n; least = decimal_value is.least; most = decimal_value is.most }) is.ext_is.value
          ∙ ap (λ (n : ℕ). record { label = line.label; ext = line.ext; least = n; most = decimal_value is.most }) is.least_is.value
          ∙ ap (λ (n : ℕ). record { label = line.label; ext = line.ext; least = line.least; most = n }) is.most_is.value,
    )

pub send_line_again : (fields : List (List ℕ)) (line : SendLine) → IsSendLine line fields → is_send_line line ≡ true → send_reading fields ≡ Ok line
unfolding send_reading
send_line_again fields line is h =
    let k = spelled_again fields line is in
    ap (λ (n : ℕ). staged (n == 5) (is_send_spelled fields) (is_send_line (send_line_of fields)) (send_line_of fields)) k.0
    ∙ ap (λ b. staged true b (is_send_line (send_line_of fields)) (send_line_of fields)) k.1
    ∙ ap (λ (l : SendLine). staged true true (is_send_line l) l) k.2
    ∙ ap (λ c. staged true true c line) h

-- ---- TAKE lines
abbrev FoundExt : List ℕ → Bool → Type 0
FoundExt f star = (star || is_hexadecimal 1 f) ≡ true → IsExtField (cond star None (Some (hexadecimal_value f))) f

ext_found : (f : List ℕ) → is_ext_spelled f ≡ true → IsExtField (ext_of f) f
ext_found f h = by_star (is_star f) refl h where
  by_star : (star : Bool) → is_star f ≡ star → FoundExt f star
  by_star true e h = same_bytes f (codes "*") e
  by_star false e h = record { digits = h; value = refl }

-- a digit is no star
no_star : (f : List ℕ) (ext : ℕ) → IsExtField (Some ext) f → (star : Bool) → is_star f ≡ star → star ≡ false
no_star f ext h false e = refl
no_star f ext h true e = let wrong : is_hexadecimal 1 (codes "*") ≡ true = subst (λ (g : List ℕ). is_hexadecimal 1 g ≡ true) (same_bytes f (codes "*") e) h.digits in absurd cc

ext_again : (f : List ℕ) (ext : Option ℕ) → IsExtField ext f → (is_ext_spelled f ≡ true) × (ext_of f ≡ ext)
ext_again f None h = (ap is_ext_spelled h, ap ext_of h)
ext_again f (Some ext) h =
    let star = no_star f ext h (is_star f) refl in
    (ap (λ b. b || is_hexadecimal 1 f) star ∙ h.digits, ap (λ b. cond b None (Some (hexadecimal_value f))) star ∙ ap Some h.value)

take_parts : (fields : List (List ℕ)) → is_at fields 0 (codes "TAKE") ≡ true → length fields ≡ 5 → is_take_spelled fields ≡ true → IsTakeLine (take_line_of fields) fields
take_parts [] p n s = absurd cc
take_parts (a ∷ []) p n s = absurd (omega arith)
take_parts (a ∷ b ∷ []) p n s = absurd (omega arith)
take_parts (a ∷ b ∷ c ∷ []) p n s = absurd (omega arith)
take_parts (a ∷ b ∷ c ∷ d ∷ []) p n s = absurd (omega arith)
take_parts (a ∷ b ∷ c ∷ d ∷ e ∷ []) p n s =
    let label = and_parts (is_hexadecimal 3 b) _ s in
    let ext = and_parts (is_ext_spelled c) _ label.1 in
    let counts = and_parts (is_plain_decimal d) _ ext.1 in
    record {
      label = b;
      ext = c;
      first = d;
      count = e;
      parts = ap (λ f. f ∷ b ∷ c ∷ d ∷ e ∷ []) (same_bytes a (codes "TAKE") p);
      label_is = record { digits = label.0; value = refl };
      ext_is = ext_found c ext.0;
      first_is = record { plain = counts.0; value = refl };
      count_is = record { plain = counts.1; value = refl };
    }
take_parts (a ∷ b ∷ c ∷ d ∷ e ∷ f ∷ fields) p n s = absurd (omega arith)

pub take_line_found : (fields : List (List ℕ)) (line : TakeLine) → is_at fields 0 (codes "TAKE") ≡ true → take_reading fields ≡ Ok line → IsTakeLine line fields × (is_take_line line ≡ true)
unfolding take_reading
take_line_found fields line p h =
    let k = staged_ok (length fields == 5) (is_take_spelled fields) (is_take_line (take_line_of fields)) (take_line_of fields) line h in
    (subst (λ (l : TakeLine). IsTakeLine l fields) k.3 (take_parts fields p (eqb-true _ _ k.0) k.1), ap is_take_line (sym k.3) ∙ k.2)

taken_again : (fields : List (List ℕ)) (line : TakeLine) → IsTakeLine line fields → (length fields ≡ 5) × (is_take_spelled fields ≡ true) × (take_line_of fields ≡ line)
taken_again fields line is =
    let e : fields ≡ codes "TAKE" ∷ is.label ∷ is.ext ∷ is.first ∷ is.count ∷ [] = is.parts in
    let made : ℕ → Option ℕ → ℕ → ℕ → TakeLine = λ l x f c. record { label = l; ext = x; first = f; count = c } in
    let ext = ext_again is.ext line.ext is.ext_is in (
      ap length e,
      ap is_take_spelled e ∙ ap (λ b. b && (is_ext_spelled is.ext && (is_plain_decimal is.first && is_plain_decimal is.count))) is.label_is.digits
          ∙ ap (λ b. b && (is_plain_decimal is.first && is_plain_decimal is.count)) ext.0
          ∙ ap (λ b. b && is_plain_decimal is.count) is.first_is.plain
          ∙ is.count_is.plain,
      ap take_line_of e
          ∙ ap (λ (n : ℕ). made n (ext_of is.ext) (decimal_value is.first) (decimal_value is.count)) is.label_is.value
          ∙ ap (λ (x : Option ℕ). made line.label x (decimal_value is.first) (decimal_value is.count)) ext.1
          ∙ ap (λ (n : ℕ). made line.label line.ext n (decimal_value is.count)) is.first_is.value
          ∙ ap (λ (n : ℕ). made line.label line.ext line.first n) is.count_is.value,
    )

pub take_line_again : (fields : List (List ℕ)) (line : TakeLine) → IsTakeLine line fields → is_take_line line ≡ true → take_reading fields ≡ Ok line
unfolding take_reading
take_line_again fields line is h =
    let k = taken_again fields line is in
    ap (λ (n : ℕ). staged (n == 5) (is_take_spelled fields) (is_take_line (take_line_of fields)) (take_line_of fields)) k.0
    ∙ ap (λ b. staged true b (is_take_line (take_line_of fields)) (take_line_of fields)) k.1
    ∙ ap (λ (l : TakeLine). staged true true (is_take_line l) l) k.2
    ∙ ap (λ c. staged true true c line) h
