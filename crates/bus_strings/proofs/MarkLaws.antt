-- A walk over a list, and the marks that come with it.
use Rattle.std.proofs.Common.{arith, zero, suc, ◌≡◌, ℕ, ◌+◌, ◌<◌, ◌≤◌, Bool, true, false, List, [], ◌∷◌, ◌++◌, length, take, drop, get_or}
use Rattle.std.proofs.Common.{Option, Some, None, refl, ap, sym, ◌∙◌, drop-cons}
use Rattle.std.specs.Bool.{beq}
use Rattle.std.specs.List.{zip}
use Rattle.std.specs.Option.{option_eq}
use Rattle.std.specs.Iterator.{YieldsFirst}
use Rattle.std.proofs.lemmas.List.{length-drop, take_all}
use Rattle.std.proofs.lemmas.List.FromFn.{length-map-range_with_len, get_or-map-range_with_len}
use Rattle.std.proofs.lemmas.Slice.Zip.{length-zip}
use Rattle.bus_strings.specs.Messages.{Entry}
use Rattle.bus_strings.specs.Transmissions.{garbled, marks}

-- ---- the next entry with its mark
-- the first pair of what is left
next_pair : {X : Type 0} (xs : List X) (ms : List Bool) (i : ℕ) (x : X) (m : Bool) (rest : List Bool) → x ≡ get_or xs i x → i < length xs
    → drop i ms ≡ m ∷ rest
    → (take (suc i) (zip xs ms) ≡ take i (zip xs ms) ++ (x, m) ∷ []) × (rest ≡ drop (suc i) ms)
next_pair [] ms i x m rest e within h = absurd (omega arith)
next_pair (y ∷ xs) [] zero x m rest e within h = absurd cc
next_pair (y ∷ xs) [] (suc i) x m rest e within h = absurd cc
next_pair (y ∷ xs) (n ∷ ms) zero x m rest e within h =
    let n_is : n ≡ m = cc in
    let rest_is : ms ≡ rest = cc in
    (ap (λ z. (z, n) ∷ []) (sym e) ∙ ap (λ z. (x, z) ∷ []) n_is, sym rest_is)
next_pair (y ∷ xs) (n ∷ ms) (suc i) x m rest e within h =
    let r = next_pair xs ms i x m rest e (omega arith) h in
    (ap (λ t. (y, n) ∷ t) r.0, r.1)

is_true : (m : Bool) → beq m true ≡ m
is_true true = refl
is_true false = refl

none_left : {X : Type 0} (ms : List X) (i : ℕ) → i < length ms → drop i ms ≡ [] → ⊥
none_left ms i within e = omega (arith, ap length e, length-drop i ms)

pub length-marks : (list : List Entry) → length (marks list) ≡ length list
length-marks list = length-map-range_with_len (garbled list) 0 (length list)

-- the next entry, and its mark as it was taken
next_by : (list : List Entry) (ms : List Bool) (i : ℕ) (x : Entry) (old new : List Bool) (r : Option Bool) → length ms ≡ length list
    → x ≡ get_or list i x → i < length list → old ≡ drop i ms → YieldsFirst (λ (s : List Bool). s) old r new
    → (take (suc i) (zip list ms) ≡ take i (zip list ms) ++ (x, option_eq beq r (Some true)) ∷ []) × (new ≡ drop (suc i) ms)
next_by list ms i x old new None l e within o y = absurd (none_left ms i (omega arith) (sym o ∙ y.0))
next_by list ms i x old new (Some m) l e within o y =
    let p = next_pair list ms i x m new e within (sym o ∙ y) in
    (p.0 ∙ ap (λ b. take i (zip list ms) ++ (x, b) ∷ []) (sym (is_true m)), p.1)

pub next_marked : (list : List Entry) (i : ℕ) (x : Entry) (old new : List Bool) (r : Option Bool) (b : Bool) → x ≡ get_or list i x
    → i < length list → old ≡ drop i (marks list) → YieldsFirst (λ (s : List Bool). s) old r new → b ≡ option_eq beq r (Some true)
    → (take (i + 1) (zip list (marks list)) ≡ take i (zip list (marks list)) ++ (x, b) ∷ []) × (new ≡ drop (i + 1) (marks list))
next_marked list i x old new r b e within o y t =
    let n = next_by list (marks list) i x old new r (length-marks list) e within o y in
    let one : i + 1 ≡ suc i = omega arith in (
      ap (λ k. take k (zip list (marks list))) one ∙ n.0 ∙ ap (λ c. take i (zip list (marks list)) ++ (x, c) ∷ []) (sym t),
      n.1 ∙ ap (λ k. drop k (marks list)) (sym one),
    )

-- all pairs
pub all_marked : (list : List Entry) (i : ℕ) → length list ≤ i → take i (zip list (marks list)) ≡ zip list (marks list)
all_marked list i h = take_all i (zip list (marks list)) (omega (arith, length-zip list (marks list), length-marks list))

-- ---- the next mark alone
left_mark : (list : List Entry) (i : ℕ) → i < length list → drop i (marks list) ≡ garbled list i ∷ drop (suc i) (marks list)
left_mark list i h =
    drop-cons (marks list) i false (omega (arith, length-map-range_with_len (garbled list) 0 (length list)))
    ∙ ap (λ b. b ∷ drop (suc i) (marks list)) (get_or-map-range_with_len (garbled list) 0 (length list) i i false h (omega arith))

mark_by : (list : List Entry) (i : ℕ) (old new : List Bool) (r : Option Bool) → i < length list → old ≡ drop i (marks list)
    → YieldsFirst (λ (s : List Bool). s) old r new → (option_eq beq r (Some true) ≡ garbled list i) × (new ≡ drop (suc i) (marks list))
mark_by list i old new None h o y = absurd (let w : [] ≡ garbled list i ∷ drop (suc i) (marks list) = sym y.0 ∙ o ∙ left_mark list i h in cc)
mark_by list i old new (Some m) h o y =
    let w : m ∷ new ≡ garbled list i ∷ drop (suc i) (marks list) = sym y ∙ o ∙ left_mark list i h in
    let m_is : m ≡ garbled list i = cc in
    let new_is : new ≡ drop (suc i) (marks list) = cc in
    (is_true m ∙ m_is, new_is)

pub next_mark : (list : List Entry) (i : ℕ) (old new : List Bool) (r : Option Bool) (b : Bool) → i < length list → old ≡ drop i (marks list)
    → YieldsFirst (λ (s : List Bool). s) old r new → b ≡ option_eq beq r (Some true) → (b ≡ garbled list i) × (new ≡ drop (i + 1) (marks list))
next_mark list i old new r b h o y e =
    let n = mark_by list i old new r h o y in
    let one : i + 1 ≡ suc i = omega arith in
    (e ∙ n.0, n.1 ∙ ap (λ k. drop k (marks list)) (sym one))
