-- Items and hands.
use Rattle.std.proofs.Common.{arith, ◌≡◌, ℕ, zero, suc, ◌+◌, ◌<◌, Bool, true, false, cond, ◌&&◌, ◌==◌, nat_lt, nat_eq, List, [], ◌∷◌, ◌++◌, length, map, get_or, set, Option, Some, None, Result, Ok, Err, refl, sym, ap, subst, ◌∙◌}
use Rattle.std.specs.Prelude.{IsOk, IsSome, is_some, slice_get, if◌then◌else◌}
use Rattle.std.specs.Option.{option_map_or}
use Rattle.std.specs.List.{list_all, find, IsDistinct, AllByRecursion, position, position_or_len}
use Rattle.std.proofs.lemmas.Bool.{and_parts, eqb-true, eq-eqb, and_from, lt-ltb}
use Rattle.std.proofs.lemmas.Bool.Decides.{nat_tests}
use Rattle.std.proofs.lemmas.List.{append-nil, map-append}
use Rattle.std.proofs.lemmas.List.Elements.{filter-append}
use Rattle.std.proofs.lemmas.Option.{slice_get-get_or, slice_get_within}
use Rattle.bus_table.proofs.FormLemmas.{let_through}
use Rattle.std.proofs.lemmas.List.Folds.{find_at}
use Rattle.std.proofs.lemmas.List.Quantifiers.{position-Some}
use Rattle.bus_text.specs.AllOf.{◌>>=◌}
use Rattle.bus_strings.specs.Items.{Item}
use Rattle.bus_strings.specs.Messages.{Message}
use Rattle.bus_table.specs.declared.fit.FitError.{FitError}
use Rattle.bus_table.specs.declared.fit.FitError.TheVariants as FitErrors
use Rattle.bus_table.specs.Fits.{has_shape, sender_of, shape_fit, fit_from}
use Rattle.bus_table.specs.Hands.{message_of, items_of, hand_of}
use Rattle.bus_table.specs.Tables.{Sender, Hand}
use Rattle.bus_table.specs.inside.Fitting.{is_fit}
use Rattle.bus_table.specs.Hands.{with_message}

abbrev Done : Result (Unit {0}) FitError → Type 0
Done r = IsOk r

abbrev shape_answer : Bool → ℕ → Result (Unit {0}) FitError
shape_answer t k = if t then Ok tt else Err (FitErrors.Shape k)

shaped : (k : ℕ) (item : Item) (rest : Result (Unit {0}) FitError) (t : Bool) → Done (shape_answer t k >>= λ _. rest) → (t ≡ true) × Done rest
shaped k item rest true h = (refl, h)
shaped k item rest false h = absurd cc

fit_first : (k : ℕ) (sender : Option Sender) (item : Item) (rest : Result (Unit {0}) FitError) → Done (shape_fit k sender item.strings >>= λ _. rest) → (option_map_or (λ s. has_shape s.sends item.strings) sender false ≡ true) × Done rest
fit_first k None item rest h = absurd cc
fit_first k (Some sender) item rest h = shaped k item rest (has_shape sender.sends item.strings) h

-- where the items fit, each one does
pub each_fits : (k : ℕ) (senders : List Sender) (items : List Item) → IsOk (fit_from k senders items) → list_all (is_fit senders) items ≡ true
each_fits k senders [] h = refl
each_fits k senders (item ∷ items) h =
    let p = fit_first k (sender_of senders item.terminal) item (fit_from (k + 1) senders items) h in
    and_from _ _ p.0 (each_fits (k + 1) senders items p.1)

-- ---- one more item
eqb_sym : (m n : ℕ) → nat_eq m n ≡ nat_eq n m
eqb_sym m n = grind (arith, nat_tests)

-- the messages of a sender, from the items of the terminals
abbrev messages_of : Sender → List Item → List Message
messages_of sender items = map (λ item. message_of sender.sends item.strings) (items_of sender.number items)

one_more : (done : List Item) (item : Item) (sender : Sender) (t : Bool) → (item.terminal == sender.number) ≡ t
    → messages_of sender (done ++ item ∷ []) ≡ messages_of sender done ++ cond t (message_of sender.sends item.strings ∷ []) []
one_more done item sender t h =
    ap (map (λ i. message_of sender.sends i.strings)) (filter-append (λ i. i.terminal == sender.number) done (item ∷ []))
    ∙ map-append (λ i. message_of sender.sends i.strings) (items_of sender.number done) (cond (item.terminal == sender.number) (item ∷ []) [])
    ∙ ap (λ ms. messages_of sender done ++ ms) (ap (λ b. map (λ i. message_of sender.sends i.strings) (cond b (item ∷ []) [])) h ∙ mapped t)
  where
    mapped : (t : Bool) → map (λ i. message_of sender.sends i.strings) (cond t (item ∷ []) []) ≡ cond t (message_of sender.sends item.strings ∷ []) []
    mapped true = refl
    mapped false = refl

-- the item is a message of its sender
own_hand : (done : List Item) (item : Item) (sender : Sender) → sender.number ≡ item.terminal → hand_of (done ++ item ∷ []) sender ≡ with_message (hand_of done sender) (message_of sender.sends item.strings)
own_hand done item sender e = ap (λ (ms : List Message). record { terminal = sender.number; messages = ms }) (one_more done item sender true (eq-eqb item.terminal sender.number (sym e)))

-- and of no other
other_hand : (done : List Item) (item : Item) (sender : Sender) → nat_eq sender.number item.terminal ≡ false → hand_of (done ++ item ∷ []) sender ≡ hand_of done sender
other_hand done item sender h =
    ap (λ (ms : List Message). record { terminal = sender.number; messages = ms }) (one_more done item sender false (eqb_sym item.terminal sender.number ∙ h) ∙ append-nil (messages_of sender done))

other_hands : (done : List Item) (item : Item) (senders : List Sender) → AllByRecursion (λ n. nat_eq item.terminal n ≡ false) (map (λ s. s.number) senders) → map (hand_of (done ++ item ∷ [])) senders ≡ map (hand_of done) senders
other_hands done item [] h = refl
other_hands done item (s ∷ senders) h =
    ap (λ (x : Hand). x ∷ map (hand_of (done ++ item ∷ [])) senders) (other_hand done item s (eqb_sym s.number item.terminal ∙ h.0)) ∙ ap (λ (hs : List Hand). hand_of done s ∷ hs) (other_hands done item senders h.1)

-- a number that stands further on is another one
stands_on : (n : ℕ) (senders : List Sender) (k : ℕ) (sender : Sender) → AllByRecursion (λ m. nat_eq n m ≡ false) (map (λ s. s.number) senders) → k < length senders → sender ≡ get_or senders k sender → nat_eq n sender.number ≡ false
stands_on n [] k sender all h e = absurd (omega arith)
stands_on n (s ∷ senders) zero sender all h e = ap (λ (x : Sender). nat_eq n x.number) e ∙ all.0
stands_on n (s ∷ senders) (suc k) sender all h e = stands_on n senders k sender all.1 (omega arith) e

-- the hand at the sender's place has one more message
pub next_hands : (done : List Item) (item : Item) (senders : List Sender) (k : ℕ) (sender : Sender) (old new : Hand) → IsDistinct nat_eq (map (λ s. s.number) senders) → k < length senders → sender ≡ get_or senders k sender → sender.number ≡ item.terminal
    → old ≡ get_or (map (hand_of done) senders) k old → new ≡ with_message old (message_of sender.sends item.strings) → set (map (hand_of done) senders) k new ≡ map (hand_of (done ++ item ∷ [])) senders
unfolding IsDistinct
next_hands done item [] k sender old new distinct h e n o w = absurd (omega arith)
next_hands done item (s ∷ senders) zero sender old new distinct h e n o w =
    let own = w ∙ ap (λ (x : Hand). with_message x (message_of sender.sends item.strings)) o ∙ ap (λ (x : Sender). with_message (hand_of done s) (message_of x.sends item.strings)) e ∙ sym (own_hand done item s (sym (ap (λ (x : Sender). x.number) e) ∙ n)) in
    let others = subst (λ (m : ℕ). AllByRecursion (λ n. nat_eq m n ≡ false) (map (λ s. s.number) senders)) (sym (ap (λ (x : Sender). x.number) e) ∙ n) distinct.0 in
    ap (λ (x : Hand). x ∷ map (hand_of done) senders) own ∙ ap (λ (hs : List Hand). hand_of (done ++ item ∷ []) s ∷ hs) (sym (other_hands done item senders others))
next_hands done item (s ∷ senders) (suc k) sender old new distinct h e n o w =
    let other = subst (λ (m : ℕ). nat_eq s.number m ≡ false) n (stands_on s.number senders k sender distinct.0 (omega arith) e) in
    ap (λ (hs : List Hand). hand_of done s ∷ hs) (next_hands done item senders k sender old new distinct.1 (omega arith) e n o w)
    ∙ ap (λ (x : Hand). x ∷ map (hand_of (done ++ item ∷ [])) senders) (sym (other_hand done item s other))

-- ---- where a sender stands
-- the sender at the place of a number
pub record StandsAt (senders : List Sender) (number k : ℕ) (sender : Sender) : Type 0 where
  pub less : k < length senders
  pub found : find (λ s. s.number == number) senders ≡ Some sender
  pub same : sender.number ≡ number

pub stands_at : (senders : List Sender) (number k : ℕ) (sender : Sender) → position (λ s. s.number == number) senders ≡ Some k → sender ≡ get_or senders k sender → StandsAt senders number k sender
stands_at senders number k sender h e =
    let p = λ (s : Sender). s.number == number in
    let place = let_through (nat_lt (position_or_len p senders) (length senders)) (position_or_len p senders) k (sym h) in
    let some = position-Some p senders k sender h in
    record {
      less = some.0;
      found = find_at p senders ∙ ap (slice_get senders) (sym place.1) ∙ slice_get-get_or senders k sender some.0 ∙ ap Some (sym e);
      same = eqb-true sender.number number (ap (λ (s : Sender). s.number == number) e ∙ some.1);
    }

stands_found : (p : Sender → Bool) (senders : List Sender) (item : Item) (found : Option Sender) → slice_get senders (position_or_len p senders) ≡ found → option_map_or (λ s. has_shape s.sends item.strings) found false ≡ true → IsSome (position p senders)
stands_found p senders item None e go = absurd cc
stands_found p senders item (Some s) e go = ap (λ t. is_some (cond t (Some (position_or_len p senders)) None)) (lt-ltb (position_or_len p senders) (length senders) (slice_get_within senders (position_or_len p senders) s e))

-- a sender that is found stands somewhere
pub stands : (p : Sender → Bool) (senders : List Sender) (item : Item) → option_map_or (λ s. has_shape s.sends item.strings) (find p senders) false ≡ true → IsSome (position p senders)
stands p senders item h = stands_found p senders item (find p senders) (sym (find_at p senders)) h

pub shape_at : (senders : List Sender) (item : Item) (sender : Sender) → is_fit senders item ≡ true → find (λ s. s.number == item.terminal) senders ≡ Some sender → has_shape sender.sends item.strings ≡ true
shape_at senders item sender h e = sym (ap (λ (o : Option Sender). option_map_or (λ s. has_shape s.sends item.strings) o false) e) ∙ h

-- the next item fits, and those behind it
pub fit_now : (senders : List Sender) (items others : List Item) (item next : Item) → list_all (is_fit senders) items ≡ true → items ≡ next ∷ others → item ≡ next → (is_fit senders item ≡ true) × (list_all (is_fit senders) others ≡ true)
fit_now senders items others item next h e same =
    and_parts (is_fit senders item) _ (ap (λ (x : Item). is_fit senders x && list_all (is_fit senders) others) same ∙ sym (ap (list_all (is_fit senders)) e) ∙ h)

-- where no sender stands, none is found
pub none_found : (p : Sender → Bool) (senders : List Sender) → position p senders ≡ None → find p senders ≡ None
none_found p senders h = by (find p senders) refl where
  by : (o : Option Sender) → find p senders ≡ o → find p senders ≡ None
  by None e = e
  by (Some s) e =
      let at : slice_get senders (position_or_len p senders) ≡ Some s = sym (find_at p senders) ∙ e in
      let some : position p senders ≡ Some (position_or_len p senders) = ap (λ t. cond t (Some (position_or_len p senders)) None) (lt-ltb (position_or_len p senders) (length senders) (slice_get_within senders (position_or_len p senders) s at)) in
      let wrong : None ≡ Some (position_or_len p senders) = sym h ∙ some in
      absurd cc
