-- A list of values that grows by one.
use Rattle.std.proofs.Common.{◌≡◌, ℕ, suc, ◌+◌, ◌<◌, ◌≤◌, Bool, true, false, cond, List, [], ◌∷◌, ◌++◌, map, length, get_or, take, drop, Some, sym, refl, ap, ◌∙◌, append_assoc, append-nil, add-one, None}
use Rattle.std.specs.Prelude.{slice_get, Option}
use Rattle.std.specs.List.{filter}
use Rattle.std.proofs.lemmas.List.{take_more, take_all, drop_all, map-append}
use Rattle.std.proofs.lemmas.Option.{get_or_from_slice_get, slice_get_within}
use Rattle.serde_json.specs.Data.{Data}
use Rattle.serde_json.specs.View.{view}
use Rattle.serde_json.specs.declared.value.Value.{Value}
use Rattle.bus_strings.proofs.ListLaws.{drop_at}
use Rattle.bus_table.specs.declared.line.SendLine.{SendLine}
use Rattle.bus_table.specs.Tables.{Sender, Table}
use Rattle.bus_facts.specs.declared.pace.Pace.{Pace}
use Rattle.bus_facts.specs.Takes.{taken_by_value}
use Rattle.bus_facts.specs.Values.{count}
use Rattle.bus_facts.specs.Senders.{latency_value, send_value, send_values, sender_value, turn_values}

-- ---- by a function of each
pub pushed : {A : Type 0} (f : A → Data) (xs : List A) (k : ℕ) (x : A) (value : Value) (old new : List Value) → k < length xs → x ≡ get_or xs k x
    → view value ≡ f x → new ≡ old ++ value ∷ [] → map view old ≡ map f (take k xs) → map view new ≡ map f (take (k + 1) xs)
pushed f xs k x value old new less at is added before =
    ap (map view) added ∙ map-append view old (value ∷ [])
    ∙ ap (λ (ds : List Data). ds ++ view value ∷ []) before
    ∙ ap (λ (d : Data). map f (take k xs) ++ d ∷ []) (is ∙ ap f at)
    ∙ sym (map-append f (take k xs) (get_or xs k x ∷ []))
    ∙ ap (map f) (sym (take_more xs k x less))

pub pushed_at : {A : Type 0} (f : A → Data) (xs : List A) (k : ℕ) (x : A) (value : Value) (old new : List Value) → slice_get xs k ≡ Some x
    → view value ≡ f x → new ≡ old ++ value ∷ [] → map view old ≡ map f (take k xs) → map view new ≡ map f (take (k + 1) xs)
pushed_at f xs k x value old new at is added before =
    pushed f xs k x value old new (slice_get_within xs k x at) (sym (get_or_from_slice_get xs k x x at)) is added before

pub pushed_all : {A : Type 0} (f : A → Data) (xs : List A) (k : ℕ) (values : List Value) → length xs ≤ k → map view values ≡ map f (take k xs)
    → map view values ≡ map f xs
pushed_all f xs k values past h = h ∙ ap (map f) (take_all k xs past)

-- ---- with those to come
grown : (old new : List Value) (value : Value) (d : Data) (rest whole : List Data) → new ≡ old ++ value ∷ [] → view value ≡ d
    → map view old ++ d ∷ rest ≡ whole → map view new ++ rest ≡ whole
grown old new value d rest whole added is h =
    ap (λ vs. map view vs ++ rest) added ∙ ap (λ l. l ++ rest) (map-append view old (value ∷ []))
    ∙ append_assoc (map view old) (view value ∷ []) rest ∙ ap (λ e. map view old ++ e ∷ rest) is ∙ h

pub whole_of : (values : List Value) (rest whole : List Data) → rest ≡ [] → map view values ++ rest ≡ whole → map view values ≡ whole
whole_of values rest whole none h = sym (append-nil (map view values)) ∙ ap (λ l. map view values ++ l) (sym none) ∙ h

pub send_step : (table : Table) (pace : Option Pace) (sender : Sender) (k : ℕ) (line : SendLine) (value : Value) (old new : List Value) (whole : List Data)
    → slice_get sender.sends k ≡ Some line → view value ≡ send_value (latency_value table pace sender k) (taken_by_value table sender.number line) line → new ≡ old ++ value ∷ []
    → map view old ++ send_values table pace sender k (drop k sender.sends) ≡ whole
    → map view new ++ send_values table pace sender (k + 1) (drop (k + 1) sender.sends) ≡ whole
send_step table pace sender k line value old new whole at is added h =
    ap (λ n. map view new ++ send_values table pace sender n (drop (k + 1) sender.sends)) (add-one k)
    ∙ grown old new value (send_value (latency_value table pace sender k) (taken_by_value table sender.number line) line) (send_values table pace sender (suc k) (drop (k + 1) sender.sends)) whole added is
    (ap (λ l. map view old ++ send_values table pace sender k l) (sym (drop_at sender.sends k line at)) ∙ h)

pub send_end : (table : Table) (pace : Option Pace) (sender : Sender) (k : ℕ) (values : List Value) (whole : List Data) → length sender.sends ≤ k
    → map view values ++ send_values table pace sender k (drop k sender.sends) ≡ whole → map view values ≡ whole
send_end table pace sender k values whole past h =
    whole_of values (send_values table pace sender k (drop k sender.sends)) whole (ap (send_values table pace sender k) (drop_all k sender.sends past)) h

pub turn_step : (table : Table) (pace : Option Pace) (order : List Sender) (before k : ℕ) (gap : Data) (sender : Sender) (value : Value) (old new : List Value)
    (whole : List Data) → slice_get order k ≡ Some sender → gap ≡ count (before + sender.tg) → view value ≡ sender_value table pace None gap sender
    → new ≡ old ++ value ∷ [] → map view old ++ turn_values table pace before (drop k order) ≡ whole
    → map view new ++ turn_values table pace 0 (drop (k + 1) order) ≡ whole
turn_step table pace order before k gap sender value old new whole at g is added h =
    grown old new value (sender_value table pace None (count (before + sender.tg)) sender) (turn_values table pace 0 (drop (k + 1) order)) whole added
    (is ∙ ap (λ d. sender_value table pace None d sender) g)
    (ap (λ l. map view old ++ turn_values table pace before l) (sym (drop_at order k sender at)) ∙ h)

pub turn_end : (table : Table) (pace : Option Pace) (order : List Sender) (before k : ℕ) (values : List Value) (whole : List Data) → length order ≤ k
    → map view values ++ turn_values table pace before (drop k order) ≡ whole → map view values ≡ whole
turn_end table pace order before k values whole past h =
    whole_of values (turn_values table pace before (drop k order)) whole (ap (turn_values table pace before) (drop_all k order past)) h

-- ---- by a test
filter_push : {A : Type 0} (p : A → Bool) (xs : List A) (x : A) → filter p (xs ++ x ∷ []) ≡ filter p xs ++ cond (p x) (x ∷ []) []
filter_push p [] x = elim (p x) as (λ b. cond b (x ∷ []) [] ≡ cond b (x ∷ []) []) [ true ↦ refl | false ↦ refl ]
filter_push p (y ∷ ys) x =
    elim (p y) as (λ b. cond b (y ∷ filter p (ys ++ x ∷ [])) (filter p (ys ++ x ∷ [])) ≡ cond b (y ∷ filter p ys) (filter p ys) ++ cond (p x) (x ∷ []) []) [
      | true ↦ ap (λ l. y ∷ l) (filter_push p ys x)
      | false ↦ filter_push p ys x
    ]

pub taken_pass : {A : Type 0} (p : A → Bool) (xs : List A) (k : ℕ) (x : A) → k < length xs → x ≡ get_or xs k x → p x ≡ true
    → filter p (take (k + 1) xs) ≡ filter p (take k xs) ++ x ∷ []
taken_pass p xs k x less at yes' =
    ap (filter p) (take_more xs k x less ∙ ap (λ y. take k xs ++ y ∷ []) (sym at)) ∙ filter_push p (take k xs) x
    ∙ ap (λ b. filter p (take k xs) ++ cond b (x ∷ []) []) yes'

pub taken_fail : {A : Type 0} (p : A → Bool) (xs : List A) (k : ℕ) (x : A) → k < length xs → x ≡ get_or xs k x → p x ≡ false
    → filter p (take (k + 1) xs) ≡ filter p (take k xs)
taken_fail p xs k x less at no' =
    ap (filter p) (take_more xs k x less ∙ ap (λ y. take k xs ++ y ∷ []) (sym at)) ∙ filter_push p (take k xs) x
    ∙ ap (λ b. filter p (take k xs) ++ cond b (x ∷ []) []) no' ∙ append-nil (filter p (take k xs))

pub pushed_pass : {A : Type 0} (p : A → Bool) (f : A → Data) (xs : List A) (k : ℕ) (x : A) (value : Value) (old new : List Value) → k < length xs
    → x ≡ get_or xs k x → p x ≡ true → view value ≡ f x → new ≡ old ++ value ∷ [] → map view old ≡ map f (filter p (take k xs))
    → map view new ≡ map f (filter p (take (k + 1) xs))
pushed_pass p f xs k x value old new less at yes' is added before =
    ap (map view) added ∙ map-append view old (value ∷ [])
    ∙ ap (λ (ds : List Data). ds ++ view value ∷ []) before
    ∙ ap (λ (d : Data). map f (filter p (take k xs)) ++ d ∷ []) is
    ∙ sym (map-append f (filter p (take k xs)) (x ∷ []))
    ∙ ap (map f) (sym (taken_pass p xs k x less at yes'))
