-- The lines of transmissions that stand apart stand for their wave.
use Rattle.std.proofs.Common.{arith, ◌≡◌, ℕ, zero, suc, ◌+◌, ◌-◌, ◌*◌, ◌<◌, ◌≤◌, true, false, cond, List, [], ◌∷◌, ◌++◌, length, map, get_or}
use Rattle.std.proofs.Common.{Some, None, refl, sym, ap, subst, ◌∙◌, append_assoc, append-nil, length-append}
use Rattle.std.specs.Prelude.{nat_lt, replicate}
use Rattle.std.specs.List.{flat_map, range_with_len, sum_by, AllByRecursion}
use Rattle.std.specs.Option.{option_or}
use Rattle.std.proofs.lemmas.Bool.Decides.{nat_tests}
use Rattle.std.proofs.lemmas.Grind.{flat_map-append}
use Rattle.std.proofs.lemmas.List.{length-replicate, length-map, map-append, get_or_past}
use Rattle.std.proofs.lemmas.List.Sums.{sum_by-cons}
use Rattle.bus_words.specs.declared.word.Word.{Word}
use Rattle.bus_words.specs.Words.{frame, data_word}
use Rattle.bus_strings.specs.Limits.{inner_gap}
use Rattle.bus_strings.specs.Messages.{Wordstring, Message, Entry, word_count, bits, words_of}
use Rattle.bus_strings.specs.Transmissions.{end_of}
use Rattle.bus_trace.specs.Traces.{Recording, IsBelow, IsTrace}
use Rattle.bus_wave.specs.Spacing.{least_gap, AreApart}
use Rattle.bus_wave.specs.Waves.{Half, quiet, word_halves, string_wave, message_wave, half_of, half_at, wave}
use Rattle.bus_wave.specs.WaveTexts.{WaveLine, Quiet, Halves, line_wave, lines_wave, AreLines, quiet_lines, string_lines, message_lines, last_end}
use Rattle.bus_wave.specs.WaveTexts.{laid, lines_up_to, text_of}
use Rattle.bus_wave.specs.WaveLaws.{HasOneText}
use Rattle.bus_wave.proofs.CodeLemmas.{length-frame_halves}
use Rattle.bus_wave.proofs.LineLemmas.{one_list}

-- ---- a function over a range
range_is : (f : ℕ → Half) (from : ℕ) (xs : List Half) → ((k : ℕ) → k < length xs → f (from + k) ≡ get_or xs k None)
    → map f (range_with_len from (length xs)) ≡ xs
range_is f from [] h = refl
range_is f from (x ∷ xs) h =
    let first : f from ≡ x = ap f (let e : from ≡ from + 0 = omega arith in e) ∙ h 0 (omega arith) in
    let others = range_is f (from + 1) xs (λ k less. ap f (let e : from + 1 + k ≡ from + suc k = omega arith in e) ∙ h (suc k) (omega arith)) in
    ap (λ y. y ∷ map f (range_with_len (from + 1) (length xs))) first ∙ ap (λ ys. x ∷ ys) others

range_same : (f g : ℕ → Half) (from n : ℕ) → ((t : ℕ) → from ≤ t → f t ≡ g t) → map f (range_with_len from n) ≡ map g (range_with_len from n)
range_same f g from zero h = refl
range_same f g from (suc n) h =
    ap (λ y. y ∷ map f (range_with_len (from + 1) n)) (h from (omega arith))
    ∙ ap (λ ys. g from ∷ ys) (range_same f g (from + 1) n (λ t low. h t (omega arith)))

range_append : (f : ℕ → Half) (from n m : ℕ) → map f (range_with_len from (n + m)) ≡ map f (range_with_len from n) ++ map f (range_with_len (from + n) m)
range_append f from zero m =
    ap (λ k. map f (range_with_len from k)) (let e : 0 + m ≡ m = omega arith in e)
    ∙ ap (λ k. map f (range_with_len k m)) (let e : from ≡ from + 0 = omega arith in e)
range_append f from (suc n) m =
    ap (λ k. map f (range_with_len from k)) (let e : suc n + m ≡ suc (n + m) = omega arith in e)
    ∙ ap (λ ys. f from ∷ ys) (range_append f (from + 1) n m)
    ∙ ap (λ k. f from ∷ (map f (range_with_len (from + 1) n) ++ map f (range_with_len k m))) (let e : from + 1 + n ≡ from + suc n = omega arith in e)

all_none : (n k : ℕ) → (let none : Half = None in get_or (replicate n none) k none) ≡ None
all_none zero zero = refl
all_none zero (suc k) = refl
all_none (suc n) zero = refl
all_none (suc n) (suc k) = all_none n k

-- ---- how long waves are
length-words : (words : List Word) → length (flat_map word_halves words) ≡ 40 * length words
length-words [] = refl
length-words (word ∷ words) = omega (arith, length-append (word_halves word) (flat_map word_halves words), length-frame_halves (frame word), length-words words)

length-string : (string : Wordstring) → length (string_wave string) ≡ 40 * word_count string
length-string string =
    omega (
      arith,
      length-map (flat_map word_halves (words_of string)) (λ b. let h : Half = Some b in h),
      length-words (words_of string),
      length-map string.words data_word,
    )

length-next : (strings : List Wordstring)
    → length (flat_map (λ next. quiet inner_gap ++ string_wave next) strings) ≡ 8 * length strings + 40 * sum_by word_count strings
length-next [] = refl
length-next (string ∷ strings) =
    omega (
      arith,
      length-append (quiet inner_gap ++ string_wave string) (flat_map (λ next. quiet inner_gap ++ string_wave next) strings),
      length-append (quiet inner_gap) (string_wave string),
      length-string string,
      length-next strings,
      sum_by-cons word_count string strings,
    )

-- a message has two half bit times for each bit time
length-message : (message : Message) → 0 < length message → length (message_wave message) ≡ 2 * bits message
length-message [] h = absurd (omega arith)
length-message (string ∷ strings) h =
    omega (
      arith,
      length-append (string_wave string) (flat_map (λ next. quiet inner_gap ++ string_wave next) strings),
      length-string string,
      length-next strings,
      sum_by-cons word_count string strings,
    )

-- ---- what lines stand for
words_stand : (words : List Word) → lines_wave (map (λ word. Halves (word_halves word)) words) ≡ map Some (flat_map word_halves words)
words_stand [] = refl
words_stand (word ∷ words) =
    ap (λ ws. map Some (word_halves word) ++ ws) (words_stand words) ∙ sym (map-append (λ b. let h : Half = Some b in h) (word_halves word) (flat_map word_halves words))

next_stand : (strings : List Wordstring)
    → lines_wave (flat_map (λ next. Quiet inner_gap ∷ string_lines next) strings) ≡ flat_map (λ next. quiet inner_gap ++ string_wave next) strings
next_stand [] = refl
next_stand (string ∷ strings) =
    flat_map-append line_wave (Quiet inner_gap ∷ string_lines string) (flat_map (λ next. Quiet inner_gap ∷ string_lines next) strings)
    ∙ ap (λ ws. (quiet inner_gap ++ ws) ++ lines_wave (flat_map (λ next. Quiet inner_gap ∷ string_lines next) strings)) (words_stand (words_of string))
    ∙ ap (λ ws. (quiet inner_gap ++ string_wave string) ++ ws) (next_stand strings)

message_stand : (message : Message) → lines_wave (message_lines message) ≡ message_wave message
message_stand [] = refl
message_stand (string ∷ strings) =
    flat_map-append line_wave (string_lines string) (flat_map (λ next. Quiet inner_gap ∷ string_lines next) strings)
    ∙ ap (λ ws. ws ++ lines_wave (flat_map (λ next. Quiet inner_gap ∷ string_lines next) strings)) (words_stand (words_of string))
    ∙ ap (λ ws. string_wave string ++ ws) (next_stand strings)

quiet_stand : (n : ℕ) → lines_wave (quiet_lines n) ≡ quiet n
quiet_stand zero = refl
quiet_stand (suc n) = append-nil (quiet (suc n))

-- ---- a transmission at a time
before_entry : (x : Entry) (t : ℕ) → t < 2 * x.moment → half_of x t ≡ None
before_entry x t h =
    let e : nat_lt t (2 * x.moment) ≡ true = grind (arith, nat_tests) in
    ap (λ b. cond b None (get_or (message_wave x.message) (t - 2 * x.moment) None)) e

within_entry : (x : Entry) (k : ℕ) → half_of x (2 * x.moment + k) ≡ get_or (message_wave x.message) k None
within_entry x k =
    let e : nat_lt (2 * x.moment + k) (2 * x.moment) ≡ false = grind (arith, nat_tests) in
    let place : 2 * x.moment + k - 2 * x.moment ≡ k = omega arith in
    ap (λ b. cond b None (get_or (message_wave x.message) (2 * x.moment + k - 2 * x.moment) None)) e
    ∙ ap (λ i. get_or (message_wave x.message) i None) place

behind_entry : (x : Entry) (t : ℕ) → 0 < length x.message → 2 * end_of x ≤ t → half_of x t ≡ None
behind_entry x t some h =
    let e : nat_lt t (2 * x.moment) ≡ false = grind (arith, nat_tests) in
    ap (λ b. cond b None (get_or (message_wave x.message) (t - 2 * x.moment) None)) e
    ∙ get_or_past (message_wave x.message) (t - 2 * x.moment) None (omega (arith, length-message x.message some))

quiet_before : (start horizon : ℕ) (list : List Entry) (t : ℕ) → AreApart start horizon list → AllByRecursion (λ x. 0 < length x.message) list
    → t < 2 * start → half_at list t ≡ None
quiet_before start horizon [] t a some h = refl
quiet_before start horizon (x ∷ xs) t a some h =
    ap (λ o. option_or o (half_at xs t)) (before_entry x t (omega (arith, a.0)))
    ∙ quiet_before (end_of x + least_gap) horizon xs t a.2 some.1 (omega (arith, a.0))

or_none : (o : Half) → option_or o None ≡ o
or_none None = refl
or_none (Some half) = refl

-- ---- all of them
laid_stand : (from start horizon : ℕ) (list : List Entry) → from ≤ start → from ≤ horizon → AreApart start horizon list
    → AllByRecursion (λ x. 0 < length x.message) list
    → map (half_at list) (range_with_len (2 * from) (2 * (horizon - from))) ≡ lines_wave (laid from list ++ quiet_lines (horizon - last_end from list))
laid_stand from start horizon [] low room a some =
    let n : ℕ = horizon - from in
    let count : length (quiet n) ≡ 2 * n = length-replicate (2 * n) None in
    ap (λ k. map (half_at []) (range_with_len (2 * from) k)) (sym count)
    ∙ range_is (half_at []) (2 * from) (quiet n) (λ k less. sym (all_none (2 * n) k))
    ∙ sym (quiet_stand n)
laid_stand from start horizon (x ∷ xs) low room a some =
    let m : ℕ = x.moment in
    let e : ℕ = end_of x in
    let list : List Entry = x ∷ xs in
    let ms : List Half = message_wave x.message in
    let many : length ms ≡ 2 * bits x.message = length-message x.message some.0 in
    let cut : 2 * (horizon - from) ≡ 2 * (m - from) + (length ms + 2 * (horizon - e)) = omega (arith, a.0, a.1, many) in
    let to_moment : 2 * from + 2 * (m - from) ≡ 2 * m = omega (arith, a.0) in
    let to_end : 2 * m + length ms ≡ 2 * e = omega (arith, many) in
    let first_many : length (quiet (m - from)) ≡ 2 * (m - from) = length-replicate (2 * (m - from)) None in
    let first : map (half_at list) (range_with_len (2 * from) (2 * (m - from))) ≡ quiet (m - from) =
    ap (λ k. map (half_at list) (range_with_len (2 * from) k)) (sym first_many)
    ∙ range_is (half_at list) (2 * from) (quiet (m - from)) (λ k less. quiet_before m horizon list (2 * from + k)
    (let here : m ≤ x.moment = omega arith in (here, a.1, a.2)) some (omega (arith, less, first_many, a.0)) ∙ sym (all_none (2 * (m - from)) k)) in
    let second : map (half_at list) (range_with_len (2 * m) (length ms)) ≡ ms =
    range_is (half_at list) (2 * m) ms (λ k less.
    ap (λ o. option_or o (half_at xs (2 * m + k))) (within_entry x k)
    ∙ ap (λ o. option_or (get_or ms k None) o) (quiet_before (e + least_gap) horizon xs (2 * m + k) a.2 some.1 (omega (arith, less, many)))
    ∙ or_none (get_or ms k None)) in
    let third : map (half_at list) (range_with_len (2 * e) (2 * (horizon - e))) ≡ lines_wave (laid e xs ++ quiet_lines (horizon - last_end e xs)) =
    range_same (half_at list) (half_at xs) (2 * e) (2 * (horizon - e)) (λ t behind. ap (λ o. option_or o (half_at xs t)) (behind_entry x t some.0 behind))
    ∙ laid_stand e (e + least_gap) horizon xs (omega arith) a.1 a.2 some.1 in
    ap (λ k. map (half_at list) (range_with_len (2 * from) k)) cut
    ∙ range_append (half_at list) (2 * from) (2 * (m - from)) (length ms + 2 * (horizon - e))
    ∙ ap (λ k. map (half_at list) (range_with_len (2 * from) (2 * (m - from))) ++ map (half_at list) (range_with_len k (length ms + 2 * (horizon - e)))) to_moment
    ∙ ap (λ ws. map (half_at list) (range_with_len (2 * from) (2 * (m - from))) ++ ws) (range_append (half_at list) (2 * m) (length ms) (2 * (horizon - e)))
    ∙ ap (λ k. map (half_at list) (range_with_len (2 * from) (2 * (m - from))) ++ (map (half_at list) (range_with_len (2 * m) (length ms)) ++ map (half_at list) (range_with_len k (2 * (horizon - e))))) to_end
    ∙ ap (λ ws. ws ++ (map (half_at list) (range_with_len (2 * m) (length ms)) ++ map (half_at list) (range_with_len (2 * e) (2 * (horizon - e))))) first
    ∙ ap (λ ws. quiet (m - from) ++ (ws ++ map (half_at list) (range_with_len (2 * e) (2 * (horizon - e))))) second
    ∙ ap (λ ws. quiet (m - from) ++ (ms ++ ws)) third
    ∙ sym (parts (m - from) x.message (laid e xs) (quiet_lines (horizon - last_end e xs)))
  where
    parts : (n : ℕ) (message : Message) (others rest : List WaveLine)
        → lines_wave (((quiet_lines n ++ message_lines message) ++ others) ++ rest) ≡ quiet n ++ (message_wave message ++ lines_wave (others ++ rest))
    parts n message others rest =
        ap lines_wave (append_assoc (quiet_lines n ++ message_lines message) others rest)
        ∙ flat_map-append line_wave (quiet_lines n ++ message_lines message) (others ++ rest)
        ∙ ap (λ ws. ws ++ lines_wave (others ++ rest)) (flat_map-append line_wave (quiet_lines n) (message_lines message))
        ∙ ap (λ ws. (ws ++ lines_wave (message_lines message)) ++ lines_wave (others ++ rest)) (quiet_stand n)
        ∙ ap (λ ws. (quiet n ++ ws) ++ lines_wave (others ++ rest)) (message_stand message)
        ∙ append_assoc (quiet n) (message_wave message) (lines_wave (others ++ rest))

-- ---- the form of the lines
unquiet : (lines : List WaveLine) → AreLines true lines → AreLines false lines
unquiet [] h = tt
unquiet (Quiet n ∷ lines) h = absurd (let e : true ≡ false = h.0 in cc)
unquiet (Halves halves ∷ lines) h = h

quiet_right : (n : ℕ) (lines : List WaveLine) → AreLines true lines → AreLines false (quiet_lines n ++ lines)
quiet_right zero lines h = unquiet lines h
quiet_right (suc n) lines h = (refl, omega arith, h)

last_right : (n : ℕ) → AreLines false (quiet_lines n)
last_right zero = tt
last_right (suc n) = (refl, omega arith, tt)

words_right : (words : List Word) (rest : List WaveLine) → AreLines false rest
    → AreLines false (map (λ word. Halves (word_halves word)) words ++ rest)
words_right [] rest h = h
words_right (word ∷ words) rest h = (length-frame_halves (frame word), words_right words rest h)

next_right : (strings : List Wordstring) (rest : List WaveLine) → AreLines false rest
    → AreLines false (flat_map (λ next. Quiet inner_gap ∷ string_lines next) strings ++ rest)
next_right [] rest h = h
next_right (string ∷ strings) rest h =
    let more : List WaveLine = flat_map (λ next. Quiet inner_gap ∷ string_lines next) strings in
    let k = words_right (words_of string) (more ++ rest) (next_right strings rest h) in
    subst (AreLines false) (sym (append_assoc (Quiet inner_gap ∷ string_lines string) more rest)) (refl, omega arith, k)

message_right : (message : Message) (rest : List WaveLine) → 0 < length message → AreLines false rest → AreLines true (message_lines message ++ rest)
message_right [] rest some h = absurd (omega arith)
message_right (string ∷ strings) rest some h =
    let more : List WaveLine = flat_map (λ next. Quiet inner_gap ∷ string_lines next) strings in
    let k = words_right (words_of string) (more ++ rest) (next_right strings rest h) in
    subst (AreLines true) (sym (append_assoc (string_lines string) more rest)) k

laid_right : (from n : ℕ) (list : List Entry) → AllByRecursion (λ x. 0 < length x.message) list → AreLines false (laid from list ++ quiet_lines n)
laid_right from n [] some = last_right n
laid_right from n (x ∷ xs) some =
    let rest : List WaveLine = laid (end_of x) xs ++ quiet_lines n in
    let k = quiet_right (x.moment - from) (message_lines x.message ++ rest) (message_right x.message rest some.0 (laid_right (end_of x) n xs some.1)) in
    subst (AreLines false)
    (sym (append_assoc (quiet_lines (x.moment - from)) (message_lines x.message) rest) ∙ sym (append_assoc (quiet_lines (x.moment - from) ++ message_lines x.message) (laid (end_of x) xs) (quiet_lines n))) k

-- ---- the text
pub has_one_text : (t : Recording) → AreApart 0 t.horizon t.list → AllByRecursion (λ x. 0 < length x.message) t.list → HasOneText t
unfolding wave
has_one_text t apart some =
    let lines : List WaveLine = lines_up_to t.horizon t.list in
    let right = laid_right 0 (t.horizon - last_end 0 t.list) t.list some in
    let whole : t.horizon - 0 ≡ t.horizon = omega arith in
    let stand : lines_wave lines ≡ wave t =
    sym (laid_stand 0 0 t.horizon t.list (omega arith) (omega arith) apart some) ∙ ap (λ n. map (half_at t.list) (range_with_len 0 (2 * n))) whole in
    record {
      is = record { lines = lines; right = right; stand = stand; text_is = refl };
      only = λ text h. h.text_is ∙ ap text_of (one_list false h.lines lines h.right right (h.stand ∙ sym stand));
    }

-- each message of a trace has wordstrings
pub some_strings : (t : Recording) → IsTrace t → AllByRecursion (λ x. 0 < length x.message) t.list
some_strings t h = each t.list h.list where
  each : (list : List Entry) → AllByRecursion (IsBelow t.horizon) list → AllByRecursion (λ x. 0 < length x.message) list
  each [] k = tt
  each (x ∷ xs) k = (k.0.message.some, each xs k.1)
