-- The made items, round by round: they are in their ranges, fit the made table, and each sender has one in each round.
use Rattle.std.proofs.Common.{arith, ◌≡◌, ℕ, zero, suc, ◌+◌, ◌-◌, ◌<◌, ◌≤◌, ◌^◌, Bool, true, false, cond, ◌==◌, nat_le, List}
use Rattle.std.proofs.Common.{[], ◌∷◌, ◌++◌, length, map, take, set, Some, Ok, refl, sym, ap, subst, ◌∙◌, append_assoc}
use Rattle.std.specs.Prelude.{IsOk, Result}
use Rattle.std.specs.Int.{is_in_range as is_between}
use Rattle.std.specs.List.{filter, find, flat_map, range_with_len, AllByRecursion}
use Rattle.std.proofs.lemmas.List.{take_more_set, take_all}
use Rattle.std.proofs.lemmas.Bool.{ne_eqb, and_from}
use Rattle.std.proofs.lemmas.Bool.Decides.{nat_tests}
use Rattle.std.proofs.lemmas.List.FromFn.{length-map-range_with_len, map-range_with_len_more}
use Rattle.bus_strings.specs.Items.{Item, IsItem, is_in_range}
use Rattle.bus_table.specs.declared.fit.FitError.{FitError}
use Rattle.bus_table.specs.Fits.{allows, has_shape, shape_fit, item_fit, fit_from, items_fit}
use Rattle.bus_strings.specs.Messages.{Message}
use Rattle.bus_strings.proofs.ListLaws.{flat_map-range, all_append}
use Rattle.bus_table.specs.Hands.{items_of, message_of, hand_of, hands_of}
use Rattle.bus_table.specs.declared.line.SendLine.{SendLine}
use Rattle.bus_table.specs.Tables.{Sender, Hand}
use Rattle.bus_vectors.specs.Made.{sender_count, round_count, made_send, made_sender, made_table, word_count, made_word, made_words, made_item, made_round, made_items}
use Rattle.bus_vectors.specs.MadeLaws.{MadeItemsFit, MadeItemsAreEven}

-- ---- what is made
-- one more
pub next_made : {X : Type 0} (f : ℕ → X) (place : ℕ) (one : X) (old new : List X) → new ≡ old ++ one ∷ [] → one ≡ f place
    → old ≡ map f (range_with_len 0 place) → new ≡ map f (range_with_len 0 (place + 1))
next_made {X} f place one old new h value before =
    let at : 0 + place ≡ place = omega arith in
    h ∙ ap (λ (l : List X). l ++ one ∷ []) before ∙ ap (λ x. map f (range_with_len 0 place) ++ x ∷ []) value
    ∙ sym (map-range_with_len_more f 0 place place at)

-- one data word more in front of an array
pub front_next : (f : ℕ → ℕ) (words : List ℕ) (place word : ℕ) → place < length words → word ≡ f place
    → take place words ≡ map f (range_with_len 0 place) → take (place + 1) (set words place word) ≡ map f (range_with_len 0 (place + 1))
front_next f words place word within value before =
    next_made f place word (take place words) (take (place + 1) (set words place word)) (take_more_set words place word within) value before

-- all of the array
pub front_whole : (f : ℕ → ℕ) (words : List ℕ) (place : ℕ) → length words ≤ place → place ≡ 40 → take place words ≡ map f (range_with_len 0 place)
    → words ≡ map f (range_with_len 0 40)
front_whole f words place long end h = sym (take_all place words long) ∙ h ∙ ap (λ n. map f (range_with_len 0 n)) end

-- one item more behind those that were there
pub items_next : (f : ℕ → Item) (i : ℕ) (item : Item) (there old new : List Item) → 1 ≤ i → new ≡ old ++ item ∷ [] → item ≡ f i
    → old ≡ there ++ map f (range_with_len 1 (i - 1)) → (1 ≤ i + 1) × (new ≡ there ++ map f (range_with_len 1 (i + 1 - 1)))
items_next f i item there old new least h value before =
    let n : (i - 1) + 1 ≡ i + 1 - 1 = omega arith in
    let at : 1 + (i - 1) ≡ i = omega arith in (
      omega arith,
      h ∙ ap (λ (l : List Item). l ++ item ∷ []) before
          ∙ append_assoc there (map f (range_with_len 1 (i - 1))) (item ∷ [])
          ∙ ap (λ (x : Item). there ++ (map f (range_with_len 1 (i - 1)) ++ x ∷ [])) value
          ∙ ap (λ (l : List Item). there ++ l) (sym (map-range_with_len_more f 1 (i - 1) i at) ∙ ap (λ m. map f (range_with_len 1 m)) n),
    )

-- all items of a round
pub round_whole : (number i count : ℕ) (there new : List Item) (round : ℕ) → count ≡ sender_count number → i ≡ count + 1
    → new ≡ there ++ map (made_item number round) (range_with_len 1 (i - 1)) → new ≡ there ++ made_round number round
round_whole number i count there new round count_is end h =
    let e : i - 1 ≡ sender_count number = omega arith in
    h ∙ ap (λ n. there ++ map (made_item number round) (range_with_len 1 n)) e

-- what holds of each of a range of numbers
all_mapped : {X : Type 0} (P : X → Type 0) (f : ℕ → X) (a n : ℕ) → ((k : ℕ) → a ≤ k → k < a + n → P (f k))
    → AllByRecursion P (map f (range_with_len a n))
all_mapped P f a zero h = tt
all_mapped P f a (suc n) h = (h a (omega arith) (omega arith), all_mapped P f (a + 1) n (λ k least less. h k (omega arith) (omega arith)))

all_flat : {X : Type 0} (P : X → Type 0) (f : ℕ → List X) (a n : ℕ) → ((k : ℕ) → AllByRecursion P (f k))
    → AllByRecursion P (flat_map f (range_with_len a n))
all_flat P f a zero h = tt
all_flat P f a (suc n) h = all_append P (f a) (flat_map f (range_with_len (a + 1) n)) (h a) (all_flat P f (a + 1) n h)

-- ---- items
few : (number : ℕ) → sender_count number ≤ 31
few number = omega arith

pub words_length : (number round i : ℕ) → length (made_words number round i) ≡ word_count number round i
words_length number round i = length-map-range_with_len (made_word number round i) 0 (word_count number round i)

in_ranges : (number round i : ℕ) → 1 ≤ i → i ≤ 31 → is_in_range (made_item number round i) ≡ true
in_ranges number round i least most =
    let n : length (made_words number round i) ≤ 256 = omega (arith, words_length number round i) in
    let t : is_between 1 128 i ≡ true = grind (arith, nat_tests) in
    let s : nat_le (length (made_words number round i)) 256 ≡ true = grind (arith, nat_tests) in
    and_from _ _ t (and_from true _ refl (and_from _ true s refl))

item_is : (number round i : ℕ) → 1 ≤ i → i ≤ 31 → IsItem (made_item number round i)
item_is number round i least most = record {
  ranges = in_ranges number round i least most;
  words = (all_mapped (λ word. word < 2 ^ 16) (made_word number round i) 0 (word_count number round i) (λ k least less. omega arith), tt);
}

items_are : (number : ℕ) → AllByRecursion IsItem (made_items number)
items_are number =
    all_flat IsItem (made_round number) 0 (round_count number)
    (λ round. all_mapped IsItem (made_item number round) 1 (sender_count number)
    (λ i least less. item_is number round i least (omega (arith, few number))))

-- ---- that they fit
found : (i a n : ℕ) → a ≤ i → i < a + n → find (λ (s : Sender). s.number == i) (map made_sender (range_with_len a n)) ≡ Some (made_sender i)
found i a zero least less = absurd (omega arith)
found i a (suc n) least less =
    elim (a == i) as (λ b. (a == i) ≡ b → cond b (Some (made_sender a)) (find (λ (s : Sender). s.number == i) (map made_sender (range_with_len (a + 1) n))) ≡ Some (made_sender i)) [
      | true ↦ λ e. (let same : a ≡ i = grind (arith, nat_tests) in ap (λ m. Some (made_sender m)) same)
      | false ↦ λ e. (let next : a + 1 ≤ i = grind (arith, nat_tests) in found i (a + 1) n next (omega arith))
    ] refl

shape : (number round i : ℕ) → has_shape (made_sender i).sends (made_item number round i).strings ≡ true
shape number round i =
    let low : 30 ≤ length (made_words number round i) = omega (arith, words_length number round i) in
    let high : length (made_words number round i) ≤ 40 = omega (arith, words_length number round i) in
    let t : allows (made_send i) (length (made_words number round i)) ≡ true = grind (arith, nat_tests) in
    and_from _ true t refl

fit_one : (k number round i : ℕ) → 1 ≤ i → i < 1 + sender_count number
    → item_fit k (made_table number).senders (made_item number round i) ≡ Ok tt
fit_one k number round i least less =
    ap (λ s. shape_fit k s (made_item number round i).strings) (found i 1 (sender_count number) least less)
    ∙ ap (λ t. let e : Result (Unit {0}) FitError = cond t (Ok tt) (shape_fit k (Some (made_sender i)) []) in e) (shape number round i)

fit_all : (k : ℕ) (senders : List Sender) (items : List Item) → AllByRecursion (λ item. (k : ℕ) → item_fit k senders item ≡ Ok tt) items
    → fit_from k senders items ≡ Ok tt
fit_all k senders [] h = refl
fit_all k senders (item ∷ items) h = rw (h.0 k) (fit_all (k + 1) senders items h.1)

fit : (number : ℕ) → items_fit (made_table number) (made_items number) ≡ Ok tt
fit number =
    fit_all 1 (made_table number).senders (made_items number)
    (all_flat (λ item. (k : ℕ) → item_fit k (made_table number).senders item ≡ Ok tt) (made_round number) 0 (round_count number)
    (λ round. all_mapped (λ item. (k : ℕ) → item_fit k (made_table number).senders item ≡ Ok tt) (made_item number round) 1 (sender_count number)
    (λ i least less k. fit_one k number round i least less)))

-- one round more
pub rounds_next : (number round : ℕ) (old new : List Item) → new ≡ old ++ made_round number round
    → old ≡ flat_map (made_round number) (range_with_len 0 round) → new ≡ flat_map (made_round number) (range_with_len 0 (round + 1))
rounds_next number round old new h before =
    h ∙ ap (λ (l : List Item). l ++ made_round number round) before ∙ sym (flat_map-range (made_round number) round)

-- all rounds
pub rounds_whole : (number round count : ℕ) (items : List Item) → count ≡ round_count number → round ≡ count
    → items ≡ flat_map (made_round number) (range_with_len 0 round) → items ≡ made_items number
rounds_whole number round count items count_is end h =
    h ∙ ap (λ n. flat_map (made_round number) (range_with_len 0 n)) (end ∙ count_is)

pub whole_items_are : (number round count : ℕ) (items : List Item) → count ≡ round_count number → round ≡ count
    → items ≡ flat_map (made_round number) (range_with_len 0 round) → AllByRecursion IsItem items
whole_items_are number round count items count_is end h =
    subst (λ (l : List Item). AllByRecursion IsItem l) (sym (rounds_whole number round count items count_is end h)) (items_are number)

pub made_items_fit : MadeItemsFit
made_items_fit number = (items_are number, subst IsOk (sym (fit number)) refl)

-- ---- that they are even
none_of : (number round i a n : ℕ) → i < a → items_of i (map (made_item number round) (range_with_len a n)) ≡ []
none_of number round i a zero less = refl
none_of number round i a (suc n) less =
    let differ : (a == i) ≡ false = ne_eqb a i (λ e. absurd (omega (arith, e))) in
    rw differ (none_of number round i (a + 1) n (omega arith))

one_of : (number round i a n : ℕ) → a ≤ i → i < a + n
    → items_of i (map (made_item number round) (range_with_len a n)) ≡ made_item number round i ∷ []
one_of number round i a zero least less = absurd (omega arith)
one_of number round i a (suc n) least less =
    let rest : List Item = items_of i (map (made_item number round) (range_with_len (a + 1) n)) in
    elim (a == i) as (λ b. (a == i) ≡ b → cond b (made_item number round a ∷ items_of i (map (made_item number round) (range_with_len (a + 1) n))) (items_of i (map (made_item number round) (range_with_len (a + 1) n))) ≡ made_item number round i ∷ []) [
      | true ↦ λ e. (let same : a ≡ i = grind (arith, nat_tests) in
          ap (λ (l : List Item). made_item number round a ∷ l) (none_of number round i (a + 1) n (omega arith)) ∙ ap (λ m. made_item number round m ∷ []) same)
      | false ↦ λ e. (let next : a + 1 ≤ i = grind (arith, nat_tests) in one_of number round i (a + 1) n next (omega arith))
    ] refl

filter_append : {X : Type 0} (p : X → Bool) (xs ys : List X) → filter p (xs ++ ys) ≡ filter p xs ++ filter p ys
filter_append p [] ys = refl
filter_append p (x ∷ xs) ys =
    elim (p x) as (λ b. cond b (x ∷ filter p (xs ++ ys)) (filter p (xs ++ ys)) ≡ cond b (x ∷ filter p xs) (filter p xs) ++ filter p ys) [
      | true ↦ ap (λ l. x ∷ l) (filter_append p xs ys)
      | false ↦ filter_append p xs ys
    ]

own_count : (number i a n : ℕ) → 1 ≤ i → i < 1 + sender_count number
    → length (items_of i (flat_map (made_round number) (range_with_len a n))) ≡ n
own_count number i a zero least less = refl
own_count number i a (suc n) least less =
    let rest : List Item = flat_map (made_round number) (range_with_len (a + 1) n) in
    ap length (filter_append (λ (item : Item). item.terminal == i) (made_round number a) (flat_map (made_round number) (range_with_len (a + 1) n)))
    ∙ ap (λ (l : List Item). length (l ++ items_of i (flat_map (made_round number) (range_with_len (a + 1) n)))) (one_of number a i 1 (sender_count number) least less)
    ∙ ap suc (own_count number i (a + 1) n least less)

own_items : (number i a n : ℕ) → 1 ≤ i → i < 1 + sender_count number
    → items_of i (flat_map (made_round number) (range_with_len a n)) ≡ map (λ round. made_item number round i) (range_with_len a n)
own_items number i a zero least less = refl
own_items number i a (suc n) least less =
    filter_append (λ (item : Item). item.terminal == i) (made_round number a) (flat_map (made_round number) (range_with_len (a + 1) n))
    ∙ ap (λ (l : List Item). l ++ items_of i (flat_map (made_round number) (range_with_len (a + 1) n))) (one_of number a i 1 (sender_count number) least less)
    ∙ ap (λ (l : List Item). made_item number a i ∷ l) (own_items number i (a + 1) n least less)

pub made_items_are_even : MadeItemsAreEven
made_items_are_even number =
    all_mapped (λ sender. length (items_of sender.number (made_items number)) ≡ round_count number) made_sender 1 (sender_count number)
    (λ i least less. own_count number i 0 (round_count number) least less)

-- ---- the hands that they give
map_twice : {X Y Z : Type 0} (g : Y → Z) (f : X → Y) (xs : List X) → map g (map f xs) ≡ map (λ x. g (f x)) xs
map_twice g f [] = refl
map_twice g f (x ∷ xs) = ap (λ l. g (f x) ∷ l) (map_twice g f xs)

-- the message of a sender in a round
abbrev pub made_message : (number i round : ℕ) → Message
made_message number i round = message_of (made_sender i).sends (made_item number round i).strings

-- all messages of a sender
pub hand_whole : (number i count round : ℕ) (messages : List Message) → 1 ≤ i → i ≤ sender_count number → count ≡ round_count number → round ≡ count
    → messages ≡ map (made_message number i) (range_with_len 0 round)
    → let hand : Hand = record { terminal = i; messages = messages } in hand ≡ hand_of (made_items number) (made_sender i)
hand_whole number i count round messages least most count_is end h =
    let sends : List SendLine = (made_sender i).sends in
    let own = own_items number i 0 (round_count number) least (omega arith) in
    let e : messages ≡ map (λ (item : Item). message_of sends item.strings) (items_of i (made_items number)) =
    h ∙ ap (λ n. map (made_message number i) (range_with_len 0 n)) (end ∙ count_is)
    ∙ sym (map_twice (λ (item : Item). message_of sends item.strings) (λ round. made_item number round i) (range_with_len 0 (round_count number)))
    ∙ ap (map (λ (item : Item). message_of sends item.strings)) (sym own) in
    ap (λ ms. let hand : Hand = record { terminal = i; messages = ms } in hand) e

-- the hands of all senders
pub hands_whole : (number i count : ℕ) (hands : List Hand) → count ≡ sender_count number → i ≡ count + 1
    → hands ≡ map (λ k. hand_of (made_items number) (made_sender k)) (range_with_len 1 (i - 1)) → hands ≡ hands_of (made_table number) (made_items number)
hands_whole number i count hands count_is end h =
    let e : i - 1 ≡ sender_count number = omega arith in
    h ∙ ap (λ n. map (λ k. hand_of (made_items number) (made_sender k)) (range_with_len 1 n)) e
    ∙ sym (map_twice (hand_of (made_items number)) made_sender (range_with_len 1 (sender_count number)))
