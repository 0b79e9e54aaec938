-- Lines that are recognized as they are written.
use Rattle.std.proofs.Common.{arith, zero, suc, ◌≡◌, ℕ, ◌+◌, ◌-◌, ◌*◌, ◌/◌, ◌%◌, ◌<◌, ◌≤◌, ◌^◌, Bool, cond, true, false, not, ◌==◌, List, [], ◌∷◌}
use Rattle.std.proofs.Common.{◌++◌, length, take, drop, get_or, Ok, Some, IfSome, MatchOption, refl, sym, ap, subst, ◌∙◌, append-nil, append_assoc}
use Rattle.std.proofs.Common.{take-append-drop}
use Rattle.std.specs.List.{list_all, join_with_byte}
use Rattle.std.specs.declared.option.Option.{Option}
use Rattle.std.specs.Char.{is_ascii_digit, digit_value}
use Rattle.std.specs.Fmt.{decimal}
use Rattle.std.specs.Str.{bytes_eq}
use Rattle.std.specs.Str.Parse.{AllDigits}
use Rattle.std.proofs.lemmas.Bool.Decides.{nat_tests}
use Rattle.std.proofs.lemmas.Slice.Eq.{bytes_eq-Decides}
use Rattle.std.proofs.lemmas.List.{take_all, length-take, length-drop}
use Rattle.std.proofs.lemmas.Str.Parse.{numerals_by_value, tells_digits}
use Rattle.std.proofs.lemmas.Fmt.{decimal-digits_value}
use Rattle.std.proofs.lemmas.Bool.{not-false}
use Rattle.bus_text.specs.Numbers.{decimal_value}
use Rattle.bus_words.specs.declared.word.Kind.TheVariants.{Label}
use Rattle.bus_words.specs.declared.word.Word.{Word}
use Rattle.bus_words.specs.Words.{label_word}
use Rattle.bus_words.specs.WordTexts.{word_text}
use Rattle.bus_text.specs.Digits.{hex_digit, is_capital_digit, hexadecimal}
use Rattle.bus_text.proofs.DigitLaws.{digit_value-lt, hex_digit-digit_value}
use Rattle.bus_text.proofs.CanonicalLaws.{feedless_line}
use Rattle.bus_text.proofs.NumberLemmas.{digits_from}
use Rattle.bus_strings.specs.Messages.{Wordstring, IsWordstring}
use Rattle.bus_trace.specs.declared.position.Position.TheVariants.{Begun, Closed}
use Rattle.bus_trace.specs.declared.keyword.Keyword.TheVariants.{Ws}
use Rattle.bus_trace.specs.Traces.{Line, string_line, begin_line, ended_line}
use Rattle.bus_trace.specs.inside.Writing.{data_put}
use Rattle.bus_trace.specs.States.{State, step, spaced_fields, fields_step, last_count, may_follow, is_ended}
use Rattle.bus_trace.specs.inside.Sound.{IsSound}
use Rattle.bus_trace.specs.inside.Quick.{string_taken, BeginsRight, ClosesRight, HasData, TakesFront, line_end}
use Rattle.bus_trace.proofs.Lasts.{last_end_most}
use Rattle.bus_trace.proofs.WriteTexts.{joined}
use Rattle.bus_trace.proofs.Again.{begin_again, close_by_end, string_line_again}
use Rattle.bus_trace.proofs.AgainLines.{Leads, fields_again}

pub rest_is : (text : List ℕ) (n : ℕ) → n ≤ length text → text ≡ take n text ++ take (length text - n) (drop n text)
rest_is text n h = sym (take-append-drop n text) ∙ ap (λ r. take n text ++ r)
    (sym (take_all (length text - n) (drop n text) (omega (arith, length-drop n text))))

pub behind_is : (text word : List ℕ) (r : Bool) → length word ≤ length text → r ≡ not (bytes_eq (take (length word) text) word)
    → r ≡ false → text ≡ word ++ take (length text - length word) (drop (length word) text)
behind_is text word r h e f =
    let same : take (length word) text ≡ word = (bytes_eq-Decides (take (length word) text) word).0
    (not-false (bytes_eq (take (length word) text) word) (sym e ∙ f)) in
    rest_is text (length word) h ∙ ap (λ w. w ++ take (length text - length word) (drop (length word) text)) same

get_take : (n : ℕ) (xs : List ℕ) → 0 < n → get_or (take n xs) 0 0 ≡ get_or xs 0 0
get_take zero xs h = absurd (omega arith)
get_take (suc n) [] h = refl
get_take (suc n) (x ∷ xs) h = refl

pub no_idle : (b : ℕ) → (b == 48) ≡ false → b ≡ 48 → ⊥
no_idle b h e = grind (arith, nat_tests)

-- a number that begins with no idle zero is the decimal of its value
pub number_front : (text : List ℕ) (count value : ℕ) → count ≤ length text → list_all is_ascii_digit (take count text) ≡ true
    → value ≡ decimal_value (take count text) → value < 10 ^ 18 → 0 < count → (1 < count → get_or text 0 0 ≡ 48 → ⊥)
    → text ≡ decimal value ++ take (length text - count) (drop count text)
number_front text count value within digits value_is room some idle =
    let ds : List ℕ = take count text in
    let long : length ds ≡ count = length-take count text ∙ omega (arith, within) in
    let one : get_or ds 0 0 ≡ 48 → length ds ≡ 1 = λ e. omega
    (arith, long, some, at_most count (λ l. idle l (sym (get_take count text some) ∙ e))) in
    let is : decimal value ≡ ds =
    ap decimal value_is ∙ decimal-digits_value (numerals_by_value (AllDigits 10) tells_digits) ds (digits_from ds digits)
    (omega (arith, long, some)) one (omega (arith, value_is, room)) in
    rest_is text count within ∙ ap (λ w. w ++ take (length text - count) (drop count text)) (sym is) where
      at_most : (n : ℕ) → (1 < n → ⊥) → n ≤ 1
      at_most zero h = omega arith
      at_most (suc zero) h = omega arith
      at_most (suc (suc n)) h = absurd (h (omega arith))

-- ---- steps
pub step_of : (s n : State) (fields : Line) (line : List ℕ) → Leads s (fields ∷ []) n → line ≡ join_with_byte 32 fields → step s line ≡ Ok n
unfolding step
step_of s n fields line h e =
    ap (λ l. fields_step s (spaced_fields l)) e ∙ ap (fields_step s) (fields_again fields h.0.some h.0.all) ∙ h.1.1
    ∙ ap (λ (m : State). Ok m) h.1.3

-- a line that leads on was taken in front
pub front_of : (feed : Bool) (s n : State) (fields : Line) (text rest after : List ℕ) → Leads s (fields ∷ []) n
    → text ≡ join_with_byte 32 fields ++ rest → rest ≡ line_end feed after → TakesFront feed s n text after
front_of feed s n fields text rest after h e k = record {
  line = join_with_byte 32 fields;
  parts = e ∙ ap (λ r. join_with_byte 32 fields ++ r) k;
  feedless = feedless_line fields h.0.all;
  short = h.0.short;
  steps = step_of s n fields (join_with_byte 32 fields) h refl;
  goes = ap (λ (m : State). is_ended m.position) (sym h.1.3) ∙ h.1.2;
}

pub begin_taken : (feed : Bool) (s : State) (moment terminal : ℕ) (text rest after : List ℕ) → IsSound s → BeginsRight s moment terminal
    → text ≡ join_with_byte 32 (begin_line moment terminal) ++ rest → rest ≡ line_end feed after
    → TakesFront feed s
    (record { position = Begun moment terminal; format = s.format; mark = s.mark; horizon = s.horizon; holds = s.holds; list = s.list })
    text after
begin_taken feed s moment terminal text rest after sound b e k =
    front_of feed s _ (begin_line moment terminal) text rest after
    (begin_again s.position s.format s.mark s.horizon s.holds s.list moment terminal sound.trace.horizon b.stands b.below b.positive
    b.low b.after b.fine) e k

pub close_taken : (feed : Bool) (s : State) (end : ℕ) (mark : Bool) (text rest after : List ℕ) → IsSound s → ClosesRight s end mark
    → text ≡ join_with_byte 32 (ended_line end mark) ++ rest → rest ≡ line_end feed after
    → TakesFront feed s
    (record { position = Closed; format = s.format; mark = mark; horizon = s.horizon; holds = s.holds; list = s.list }) text after
close_taken feed s end mark text rest after sound c e k =
    front_of feed s _ (ended_line end mark) text rest after
    (close_by_end s.position s.format mark s.mark s.horizon s.holds s.list end c.stands c.ends
    (omega (arith, c.ends, last_end_most s.horizon s.list sound.trace.horizon sound.trace.list)) c.fine) e k

pub string_front : (feed : Bool) (s : State) (w : Wordstring) (text rest after : List ℕ)
    → may_follow s.position s.format (last_count s.list) Ws ≡ true → IsWordstring w
    → text ≡ join_with_byte 32 (string_line w) ++ rest → rest ≡ line_end feed after → TakesFront feed s (string_taken s w) text after
string_front feed s w text rest after may i e k = front_of feed s (string_taken s w) (string_line w) text rest after
    (string_line_again s.position s.format s.mark s.horizon s.holds s.list w may i) e k

-- the line is all of a text that is given without a line feed
pub whole_line : (s n : State) (text rest : List ℕ) → TakesFront false s n text rest → step s text ≡ Ok n
whole_line s n text rest t = ap (step s) (t.parts ∙ append-nil t.line) ∙ t.steps

-- ---- words
same_four : (a b c d a' b' c' d' : ℕ) → a ≡ a' → b ≡ b' → c ≡ c' → d ≡ d' → a ∷ b ∷ c ∷ d ∷ [] ≡ a' ∷ b' ∷ c' ∷ d' ∷ []
same_four a b c d a' b' c' d' h i j k = cc

-- the four digits of a number of four digits
parts : (a b c d v : ℕ) → a < 16 → b < 16 → c < 16 → d < 16 → v ≡ 256 * (16 * a + b) + (16 * c + d)
    → (v / 16 / 16 / 16 % 16 ≡ a) × (v / 16 / 16 % 16 ≡ b) × (v / 16 % 16 ≡ c) × (v % 16 ≡ d)
parts a b c d v h i j k e = (omega arith, omega arith, omega arith, omega arith)

-- four values that are below one that is no digit's are those of digits
digit_by : (t : Bool) (v x : ℕ) → x ≡ cond t v 61 → x < 61 → (t ≡ true) × (x ≡ v)
digit_by true v x h k = (refl, h)
digit_by false v x h k = absurd (omega (arith, h, k))

-- a number is written by the digits whose values make it
pub four_written : (a b c d x y z w v : ℕ) → x ≡ cond (is_capital_digit a) (digit_value a) 61
    → y ≡ cond (is_capital_digit b) (digit_value b) 61 → z ≡ cond (is_capital_digit c) (digit_value c) 61
    → w ≡ cond (is_capital_digit d) (digit_value d) 61 → x + y + z + w < 61 → v ≡ 256 * (16 * x + y) + (16 * z + w)
    → hexadecimal 4 v ≡ a ∷ b ∷ c ∷ d ∷ []
four_written a b c d x y z w v h i j k low e =
    let p = digit_by (is_capital_digit a) (digit_value a) x h (omega (arith, low)) in
    let q = digit_by (is_capital_digit b) (digit_value b) y i (omega (arith, low)) in
    let r = digit_by (is_capital_digit c) (digit_value c) z j (omega (arith, low)) in
    let s = digit_by (is_capital_digit d) (digit_value d) w k (omega (arith, low)) in
    let n = parts (digit_value a) (digit_value b) (digit_value c) (digit_value d) v (digit_value-lt a p.0) (digit_value-lt b q.0)
    (digit_value-lt c r.0) (digit_value-lt d s.0) (omega (arith, e, p.1, q.1, r.1, s.1)) in
    same_four _ _ _ _ a b c d (ap hex_digit n.0 ∙ hex_digit-digit_value a p.0) (ap hex_digit n.1 ∙ hex_digit-digit_value b q.0)
    (ap hex_digit n.2 ∙ hex_digit-digit_value c r.0) (ap hex_digit n.3 ∙ hex_digit-digit_value d s.0)

-- what is said of an option's value, where that is known
pub some_given : {A : Type 0} (o : Option A) (x : A) (P : A → Type 0) → o ≡ Some x → IfSome o P → P x
some_given o x P e h = subst (λ p. IfSome p P) e h

pub match_given : {A : Type 0} (o : Option A) (x : A) (N : Type 0) (P : A → Type 0) → o ≡ Some x → MatchOption o N P → P x
match_given o x N P e h = subst (λ p. MatchOption p N P) e h

-- the words of a line, its label word first
pub words_joined : (label ext value : ℕ) (words : List ℕ) (line front rest : List ℕ) → 16 * label + ext ≡ value
    → line ≡ 87 ∷ 83 ∷ (front ++ rest) → front ≡ 32 ∷ word_text (record { kind = Label; value = value }) → rest ≡ data_put words
    → line ≡ join_with_byte 32 (string_line (record { label = label; ext = ext; words = words }))
words_joined label ext value words line front rest v e f r =
    let word : Word = label_word label ext in
    e ∙ ap (λ x. 87 ∷ 83 ∷ (x ++ rest)) f ∙ ap (λ n. 87 ∷ 83 ∷ 32 ∷ (word_text (record { kind = Label; value = n }) ++ rest)) (sym v)
    ∙ ap (λ x. 87 ∷ 83 ∷ 32 ∷ (word_text word ++ x)) r ∙ ap (λ x. 87 ∷ 83 ∷ 32 ∷ x) (sym (joined (word_text word) words))

-- so is a line whose label word and data words are those of a wordstring
pub string_joined : (label ext value : ℕ) (line front rest : List ℕ) (s : Wordstring) → 16 * label + ext ≡ value
    → line ≡ 87 ∷ 83 ∷ (front ++ rest) → front ≡ 32 ∷ word_text (record { kind = Label; value = value }) → HasData label ext rest s
    → line ≡ join_with_byte 32 (string_line s)
string_joined label ext value line front rest s v e f h =
    words_joined s.label s.ext value s.words line front rest (omega (arith, v, h.same_label, h.same_ext)) e f h.words

-- the same in front of a text
pub string_joined_front : (label ext value : ℕ) (text front words rest : List ℕ) (s : Wordstring) → 16 * label + ext ≡ value
    → text ≡ 87 ∷ 83 ∷ (front ++ (words ++ rest)) → front ≡ 32 ∷ word_text (record { kind = Label; value = value })
    → HasData label ext words s → text ≡ join_with_byte 32 (string_line s) ++ rest
string_joined_front label ext value text front words rest s v e f h =
    e ∙ ap (λ x. 87 ∷ 83 ∷ x) (sym (append_assoc front words rest))
    ∙ ap (λ x. x ++ rest) (string_joined label ext value (87 ∷ 83 ∷ (front ++ words)) front words s v refl f h)
