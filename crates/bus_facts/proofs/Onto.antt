-- A list of values to which those of further items are added.
use Rattle.std.proofs.Common.{◌≡◌, ℕ, ◌+◌, ◌<◌, Bool, true, false, List, [], ◌∷◌, ◌++◌, map, length, get_or, take, sym, ap, ◌∙◌, append_assoc, append-nil}
use Rattle.std.specs.List.{filter, flat_map}
use Rattle.std.proofs.lemmas.List.{map-append}
use Rattle.serde_json.specs.Data.{Data}
use Rattle.serde_json.specs.View.{view}
use Rattle.serde_json.specs.declared.value.Value.{Value}
use Rattle.bus_strings.proofs.ListLaws.{take_read, flat_map-take}
use Rattle.bus_facts.proofs.Pushing.{taken_pass, taken_fail}

onto : (old before after so_far more next : List Data) → before ≡ old ++ so_far → after ≡ before ++ more → next ≡ so_far ++ more
    → after ≡ old ++ next
onto old before after so_far more next was added grown =
    added ∙ ap (λ l. l ++ more) was ∙ append_assoc old so_far more ∙ ap (λ l. old ++ l) (sym grown)

pushed_view : (before after : List Value) (value : Value) (d : Data) → after ≡ before ++ value ∷ [] → view value ≡ d
    → map view after ≡ map view before ++ d ∷ []
pushed_view before after value d added is =
    ap (map view) added ∙ map-append view before (value ∷ []) ∙ ap (λ e. map view before ++ e ∷ []) is

-- one of each
pub each_onto : {A : Type 0} (f : A → Data) (old : List Data) (xs : List A) (k : ℕ) (x : A) (value : Value) (before after : List Value) → k < length xs
    → x ≡ get_or xs k x → view value ≡ f x → after ≡ before ++ value ∷ [] → map view before ≡ old ++ map f (take k xs)
    → map view after ≡ old ++ map f (take (k + 1) xs)
each_onto f old xs k x value before after less at is added was =
    onto old (map view before) (map view after) (map f (take k xs)) (f x ∷ []) (map f (take (k + 1) xs)) was (pushed_view before after value (f x) added is)
    (ap (map f) (take_read xs k x less at) ∙ map-append f (take k xs) (x ∷ []))

-- one of each that passes a test
pub pass_onto : {A : Type 0} (p : A → Bool) (f : A → Data) (old : List Data) (xs : List A) (k : ℕ) (x : A) (value : Value) (before after : List Value)
    → k < length xs → x ≡ get_or xs k x → p x ≡ true → view value ≡ f x → after ≡ before ++ value ∷ []
    → map view before ≡ old ++ map f (filter p (take k xs)) → map view after ≡ old ++ map f (filter p (take (k + 1) xs))
pass_onto p f old xs k x value before after less at passes is added was =
    onto old (map view before) (map view after) (map f (filter p (take k xs))) (f x ∷ []) (map f (filter p (take (k + 1) xs))) was
    (pushed_view before after value (f x) added is)
    (ap (map f) (taken_pass p xs k x less at passes) ∙ map-append f (filter p (take k xs)) (x ∷ []))

pub fail_onto : {A : Type 0} (p : A → Bool) (f : A → Data) (old : List Data) (xs : List A) (k : ℕ) (x : A) (before : List Data)
    → k < length xs → x ≡ get_or xs k x → p x ≡ false → before ≡ old ++ map f (filter p (take k xs))
    → before ≡ old ++ map f (filter p (take (k + 1) xs))
fail_onto p f old xs k x before less at fails was = was ∙ ap (λ l. old ++ map f l) (sym (taken_fail p xs k x less at fails))

-- some of each
pub some_onto : {A : Type 0} (f : A → List Data) (old : List Data) (xs : List A) (k : ℕ) (x : A) (more before after : List Data) → k < length xs
    → x ≡ get_or xs k x → more ≡ f x → after ≡ before ++ more → before ≡ old ++ flat_map f (take k xs)
    → after ≡ old ++ flat_map f (take (k + 1) xs)
some_onto f old xs k x more before after less at is added was =
    onto old before after (flat_map f (take k xs)) (f x) (flat_map f (take (k + 1) xs)) was (added ∙ ap (λ l. before ++ l) is)
    (flat_map-take f xs k x less at)
