-- What is looked up by a key.
use Rattle.std.proofs.Common.{arith, zero, suc, ◌≡◌, ℕ, ◌+◌, ◌-◌, ◌<◌, ◌≤◌, ◌&&◌, ◌==◌, Bool, true, false, not, cond, List, [], ◌∷◌, ◌++◌, length, take, get_or, map}
use Rattle.std.proofs.Common.{refl, ap, sym, ◌∙◌, subst, append-nil}
use Rattle.std.specs.List.{filter, flat_map, sum_by, zip}
use Rattle.std.specs.Option.{option_map_or}
use Rattle.std.proofs.lemmas.Bool.{ne_eqb}
use Rattle.std.proofs.lemmas.Simd.{map-map}
use Rattle.std.proofs.lemmas.List.{take_all, take_more, get_or_default, get_or-map, map-append, length-map}
use Rattle.std.proofs.lemmas.Option.{slice_get_within}
use Rattle.std.proofs.lemmas.Slice.Zip.{get_or-zip, length-zip}
use Rattle.bus_strings.specs.Messages.{Wordstring, Entry}
use Rattle.bus_strings.specs.OverlapLaws.{ClearIsUnmarked}
use Rattle.bus_strings.specs.Transmissions.{marks, IsClear}
use Rattle.bus_strings.proofs.ListLaws.{flat_map-more}
use Rattle.bus_strings.proofs.MarkLaws.{length-marks}
use Rattle.bus_table.specs.declared.line.TakeLine.{TakeLine}
use Rattle.bus_filter.specs.Received.{Taker, ReceivedLine, matches, received_line, string_lines, entry_lines, is_heard}
use Rattle.bus_filter.specs.ReceivedTexts.{line_text}
use Rattle.bus_filter.specs.inside.Keys.{AreSpans, AreKeys, NoneTaken, key, keys, message_key, of_label, key_count, silent}
use Rattle.bus_filter.specs.inside.Putting.{string_put, entry_put, marked_put, string_count, marked_count}
use Rattle.bus_filter.proofs.PutLemmas.{string_is, marked_is}
use Rattle.bus_filter.proofs.CountLemmas.{string_counted, marked_counted}
use Rattle.bus_filter.proofs.SpanLemmas.{none_pass}

-- ---- only the lines of its label match a wordstring
both_by : {X : Type 0} (b : Bool) (p q : X → Bool) (x : X) (xs : List X) → (b ≡ false → p x ≡ false) → filter p (filter q xs) ≡ filter p xs
    → filter p (cond b (x ∷ filter q xs) (filter q xs)) ≡ filter p (x ∷ xs)
both_by true p q x xs h e = ap (λ t. cond (p x) (x ∷ t) t) e
both_by false p q x xs h e = e ∙ sym (ap (λ b. cond b (x ∷ filter p xs) (filter p xs)) (h refl))

both_pass : {X : Type 0} (p q : X → Bool) (xs : List X) → ((x : X) → q x ≡ false → p x ≡ false) → filter p (filter q xs) ≡ filter p xs
both_pass p q [] h = refl
both_pass p q (x ∷ xs) h = both_by (q x) p q x xs (h x) (both_pass p q xs h)

matching : (string : Wordstring) (takes : List TakeLine)
    → filter (λ line. matches line string.label string.ext) (of_label string.label takes) ≡ filter (λ line. matches line string.label string.ext) takes
matching string takes =
    both_pass (λ (line : TakeLine). matches line string.label string.ext) (λ (line : TakeLine). line.label == string.label) takes
    (λ line e. ap (λ b. b && option_map_or (λ e. e == string.ext) line.ext true) e)

same_lines : (moment : ℕ) (string : Wordstring) (some takes : List TakeLine) → of_label string.label some ≡ of_label string.label takes
    → string_lines some moment string ≡ string_lines takes moment string
same_lines moment string some takes e =
    ap (map (received_line moment string))
    (sym (matching string some) ∙ ap (filter (λ (line : TakeLine). matches line string.label string.ext)) e ∙ matching string takes)

by_label : (label : ℕ) (string : Wordstring) (some takes : List TakeLine) → label ≡ string.label → of_label label some ≡ of_label label takes
    → of_label string.label some ≡ of_label string.label takes
by_label label string some takes l e = subst (λ (n : ℕ). of_label n some ≡ of_label n takes) l e

-- lines of which those of the label are the same give the same
pub same_put : (moment : ℕ) (string : Wordstring) (label : ℕ) (some takes : List TakeLine) → label ≡ string.label → of_label label some ≡ of_label label takes
    → string_put some moment string ≡ string_put takes moment string
same_put moment string label some takes l e =
    string_is some moment string ∙ ap (flat_map line_text) (same_lines moment string some takes (by_label label string some takes l e)) ∙ sym (string_is takes moment string)

pub same_count : (string : Wordstring) (label : ℕ) (some takes : List TakeLine) → label ≡ string.label → of_label label some ≡ of_label label takes
    → string_count some string ≡ string_count takes string
same_count string label some takes l e =
    string_counted some 0 string ∙ ap length (same_lines 0 string some takes (by_label label string some takes l e)) ∙ sym (string_counted takes 0 string)

-- ---- what no line takes
none_of_label : (takes : List TakeLine) (first behind : List ℕ) (label : ℕ) → AreSpans takes (length takes) first behind → get_or behind label 0 ≡ 0 → of_label label takes ≡ []
none_of_label takes first behind label spans e =
    none_pass (λ (line : TakeLine). line.label == label) takes (λ k line there. ne_eqb line.label label
    (λ same. let w = spans.within k line (slice_get_within takes k line there) there in
    let g : get_or behind line.label 0 ≡ get_or behind label 0 = ap (λ l. get_or behind l 0) same in
    absurd (omega (arith, w, g, e))))

message_skipped : (takes : List TakeLine) (first behind : List ℕ) (moment : ℕ) (strings : List Wordstring) → AreSpans takes (length takes) first behind
    → get_or behind (message_key strings) 0 ≡ 0 → flat_map (string_lines takes moment) strings ≡ []
message_skipped takes first behind moment [] spans e = absurd (let t = spans.several_taken in omega (arith, t, e))
message_skipped takes first behind moment (string ∷ []) spans e =
    ap (λ t. t ++ []) (ap (map (received_line moment string)) (sym (matching string takes)
    ∙ ap (filter (λ (line : TakeLine). matches line string.label string.ext)) (none_of_label takes first behind string.label spans e)))
message_skipped takes first behind moment (string ∷ second ∷ others) spans e = absurd (let t = spans.several_taken in omega (arith, t, e))

nothing_by : {A : Type 0} (b own : Bool) (f : List ReceivedLine → A) (z : A) (lines : List ReceivedLine) → f [] ≡ z → (b ≡ false → lines ≡ []) → cond (not b && own) (f lines) z ≡ z
nothing_by true own f z lines e h = refl
nothing_by false false f z lines e h = refl
nothing_by false true f z lines e h = ap f (h refl) ∙ e

-- what has this key gives nothing
skipped : {A : Type 0} (f : List ReceivedLine → A) (z : A) (taker : Taker) (x : Entry) (garbled : Bool) (k : ℕ) (first behind : List ℕ) → f [] ≡ z
    → AreSpans taker.takes (length taker.takes) first behind → k ≡ key (x, garbled) → get_or behind k 0 ≡ 0
    → cond (is_heard taker.number (x, garbled)) (f (entry_lines taker.takes x)) z ≡ z
skipped f z taker x garbled k first behind e spans is none =
    nothing_by garbled (not (x.terminal == taker.number)) f z (entry_lines taker.takes x) e
    (λ clear. message_skipped taker.takes first behind x.moment x.message spans
    (let own : k ≡ message_key x.message = is ∙ ap (λ g. cond g silent (message_key x.message)) clear in ap (λ n. get_or behind n 0) (sym own) ∙ none))

pub put_skipped : (taker : Taker) (x : Entry) (garbled : Bool) (k : ℕ) (first behind : List ℕ) → AreSpans taker.takes (length taker.takes) first behind
    → k ≡ key (x, garbled) → get_or behind k 0 ≡ 0 → marked_put taker (x, garbled) ≡ []
put_skipped taker x garbled k first behind spans is none =
    marked_is taker (x, garbled) ∙ skipped (flat_map line_text) [] taker x garbled k first behind refl spans is none

pub count_skipped : (taker : Taker) (x : Entry) (garbled : Bool) (k : ℕ) (first behind : List ℕ) → AreSpans taker.takes (length taker.takes) first behind
    → k ≡ key (x, garbled) → get_or behind k 0 ≡ 0 → marked_count taker (x, garbled) ≡ 0
count_skipped taker x garbled k first behind spans is none =
    marked_counted taker (x, garbled) ∙ skipped length 0 taker x garbled k first behind refl spans is none

pub entry_same : (takes : List TakeLine) (x : Entry) (moment : ℕ) (strings : List Wordstring) → moment ≡ x.moment → strings ≡ x.message
    → flat_map (string_put takes moment) strings ≡ entry_put takes x
entry_same takes x moment strings m s = ap (λ n. flat_map (string_put takes n) strings) m ∙ ap (flat_map (string_put takes x.moment)) s

-- ---- its own messages, and those of others
own_by : {A : Type 0} (b own : Bool) (t z : A) → own ≡ true → cond (not b && not own) t z ≡ z
own_by true own t z e = refl
own_by false true t z e = refl
own_by false false t z e = absurd cc

pub own_put : (taker : Taker) (x : Entry) (garbled : Bool) → (x.terminal == taker.number) ≡ true → marked_put taker (x, garbled) ≡ []
own_put taker x garbled e = own_by garbled (x.terminal == taker.number) (entry_put taker.takes x) [] e

pub own_count : (taker : Taker) (x : Entry) (garbled : Bool) → (x.terminal == taker.number) ≡ true → marked_count taker (x, garbled) ≡ 0
own_count taker x garbled e = own_by garbled (x.terminal == taker.number) (sum_by (string_count taker.takes) x.message) 0 e

not_silent : (takes : List TakeLine) (x : Entry) (garbled : Bool) (k : ℕ) (first behind : List ℕ) → AreSpans takes (length takes) first behind → k ≡ key (x, garbled) → 0 < get_or behind k 0
    → garbled ≡ false
not_silent takes x false k first behind spans is some = refl
not_silent takes x true k first behind spans is some =
    absurd (let s = spans.silent_skipped in let e : get_or behind k 0 ≡ get_or behind silent 0 = ap (λ n. get_or behind n 0) is in omega (arith, s, e, some))

heard_by : {A : Type 0} (b own : Bool) (t z : A) → b ≡ false → own ≡ false → t ≡ cond (not b && not own) t z
heard_by false false t z b o = refl
heard_by true own t z b o = absurd cc
heard_by false true t z b o = absurd cc

pub put_taken : (taker : Taker) (x : Entry) (garbled : Bool) (k : ℕ) (first behind : List ℕ) → AreSpans taker.takes (length taker.takes) first behind
    → k ≡ key (x, garbled) → 0 < get_or behind k 0 → (x.terminal == taker.number) ≡ false → entry_put taker.takes x ≡ marked_put taker (x, garbled)
put_taken taker x garbled k first behind spans is some other =
    heard_by garbled (x.terminal == taker.number) (entry_put taker.takes x) [] (not_silent taker.takes x garbled k first behind spans is some) other

pub count_taken : (taker : Taker) (x : Entry) (garbled : Bool) (k : ℕ) (first behind : List ℕ) → AreSpans taker.takes (length taker.takes) first behind
    → k ≡ key (x, garbled) → 0 < get_or behind k 0 → (x.terminal == taker.number) ≡ false
    → sum_by (string_count taker.takes) x.message ≡ marked_count taker (x, garbled)
count_taken taker x garbled k first behind spans is some other =
    heard_by garbled (x.terminal == taker.number) (sum_by (string_count taker.takes) x.message) 0 (not_silent taker.takes x garbled k first behind spans is some) other

-- ---- the keys of a list, one after another
abbrev pub marked_at : List Entry → ℕ → Bool
marked_at list i = get_or (marks list) i false

pub next_pair : (list : List Entry) (i : ℕ) (x : Entry) → i < length list → x ≡ get_or list i x
    → take (i + 1) (zip list (marks list)) ≡ take i (zip list (marks list)) ++ (x, marked_at list i) ∷ []
next_pair list i x within is =
    take_more (zip list (marks list)) i (x, false) (omega (arith, within, length-zip list (marks list), length-marks list))
    ∙ ap (λ pair. take i (zip list (marks list)) ++ pair ∷ [])
    (get_or-zip list (marks list) i (x, false) within (omega (arith, within, length-marks list)) ∙ ap (λ y. (y, marked_at list i)) (sym is))

pub key_at : (list : List Entry) (given : List ℕ) (i : ℕ) (x : Entry) → AreKeys given list → i < length list → x ≡ get_or list i x
    → get_or given i 0 ≡ key (x, marked_at list i)
key_at list given i x have within is =
    ap (λ t. get_or t i 0) have.are
    ∙ get_or-map key (zip list (marks list)) i (x, false) 0 (omega (arith, within, length-zip list (marks list), length-marks list))
    ∙ ap key (get_or-zip list (marks list) i (x, false) within (omega (arith, within, length-marks list)) ∙ ap (λ y. (y, marked_at list i)) (sym is))

pub as_many : (list : List Entry) (given : List ℕ) → AreKeys given list → length given ≡ length list
as_many list given have =
    omega (arith, ap length have.are, length-map (zip list (marks list)) key, length-zip list (marks list), length-marks list)

-- one more key
pub key_more : (list : List Entry) (i : ℕ) (x : Entry) (g : Bool) (some more : List ℕ) (k : ℕ) → take (i + 1) (zip list (marks list)) ≡ take i (zip list (marks list)) ++ (x, g) ∷ []
    → k ≡ key (x, g) → more ≡ some ++ k ∷ [] → some ≡ map key (take i (zip list (marks list))) → more ≡ map key (take (i + 1) (zip list (marks list)))
key_more list i x g some more k next is e before =
    e ∙ ap (λ t. t ++ k ∷ []) before ∙ ap (λ n. map key (take i (zip list (marks list))) ++ n ∷ []) is
    ∙ sym (map-append key (take i (zip list (marks list))) ((x, g) ∷ [])) ∙ ap (map key) (sym next)

-- one more key where nothing overlaps
pub clear_more : (list : List Entry) (i : ℕ) (x : Entry) (some more : List ℕ) (k : ℕ) → x ≡ get_or list i x → i < length list → k ≡ key (x, false)
    → more ≡ some ++ k ∷ [] → some ≡ map (λ y. key (y, false)) (take i list) → more ≡ map (λ y. key (y, false)) (take (i + 1) list)
clear_more list i x some more k at within is e before =
    let clear_key : Entry → ℕ = λ y. key (y, false) in
    e ∙ ap (λ t. t ++ k ∷ []) before ∙ ap (λ n. map clear_key (take i list) ++ n ∷ []) is
    ∙ sym (map-append clear_key (take i list) (x ∷ []))
    ∙ ap (map clear_key) (sym (take_more list i x within ∙ ap (λ y. take i list ++ y ∷ []) (sym at)))

-- which are all of them, since none is marked
pub clear_keys : (list : List Entry) (i : ℕ) (given : List ℕ) → ClearIsUnmarked → IsClear list → length list ≤ i
    → given ≡ map (λ y. key (y, false)) (take i list) → given ≡ keys list
clear_keys list i given law clear past are =
    are ∙ ap (map (λ (y : Entry). key (y, false))) (take_all i list past)
    ∙ sym (map-map key (λ (y : Entry). (y, false)) list) ∙ ap (map key) (sym (law list clear))

-- of which none is out of range
pub low_more : (some more : List ℕ) (k : ℕ) → more ≡ some ++ k ∷ [] → k < key_count → ((i : ℕ) → get_or some i 0 < key_count) → (i : ℕ) → get_or more i 0 < key_count
low_more some more k e low before i = subst (λ (t : List ℕ). get_or t i 0 < key_count) (sym e) (pushed some k i low before) where
  pushed : (some : List ℕ) (k i : ℕ) → k < key_count → ((i : ℕ) → get_or some i 0 < key_count) → get_or (some ++ k ∷ []) i 0 < key_count
  pushed [] k zero low before = low
  pushed [] k (suc i) low before = before i
  pushed (y ∷ some) k zero low before = before zero
  pushed (y ∷ some) k (suc i) low before = pushed some k i low (λ j. before (suc j))

-- what no line takes of gives nothing
none_put : (taker : Taker) (list : List Entry) (given first behind : List ℕ) (from n : ℕ) → AreSpans taker.takes (length taker.takes) first behind → AreKeys given list
    → from + n ≤ length list → NoneTaken behind given from (from + n)
    → flat_map (marked_put taker) (take (from + n) (zip list (marks list))) ≡ flat_map (marked_put taker) (take from (zip list (marks list)))
none_put taker list given first behind from zero spans have within none =
    ap (λ k. flat_map (marked_put taker) (take k (zip list (marks list)))) (plus from) where
      plus : (k : ℕ) → k + 0 ≡ k
      plus k = omega arith
none_put taker list given first behind from (suc n) spans have within none =
    let none_yet : Entry = record { moment = 0; terminal = 0; message = [] } in
    let x : Entry = get_or list (from + n) none_yet in
    let here : from + n < length list = omega (arith, within) in
    let is : x ≡ get_or list (from + n) x = get_or_default list (from + n) none_yet x here in
    ap (λ k. flat_map (marked_put taker) (take k (zip list (marks list)))) (next from n)
    ∙ sym (flat_map-more (marked_put taker) (take (from + n) (zip list (marks list))) _ (x, marked_at list (from + n)) (next_pair list (from + n) x here is))
    ∙ ap (λ t. flat_map (marked_put taker) (take (from + n) (zip list (marks list))) ++ t)
    (put_skipped taker x (marked_at list (from + n)) (get_or given (from + n) 0) first behind spans (key_at list given (from + n) x have here is) (none (from + n) (omega arith) (omega arith)))
    ∙ append-nil _
    ∙ none_put taker list given first behind from n spans have (omega (arith, within)) (λ k low high. none k low (omega (arith, high))) where
      next : (a b : ℕ) → a + suc b ≡ a + b + 1
      next a b = omega arith

pub skips : (taker : Taker) (list : List Entry) (given first behind : List ℕ) (from to : ℕ) → AreSpans taker.takes (length taker.takes) first behind → AreKeys given list
    → from ≤ to → to ≤ length list → NoneTaken behind given from to
    → flat_map (marked_put taker) (take to (zip list (marks list))) ≡ flat_map (marked_put taker) (take from (zip list (marks list)))
skips taker list given first behind from to spans have order within none =
    ap (λ k. flat_map (marked_put taker) (take k (zip list (marks list)))) (parts from to order)
    ∙ none_put taker list given first behind from (to - from) spans have (omega (arith, order, within)) (λ k low high. none k low (omega (arith, order, high))) where
      parts : (a b : ℕ) → a ≤ b → b ≡ a + (b - a)
      parts a b h = omega (arith, h)
