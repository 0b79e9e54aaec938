-- What follows of the past that a list makes, and of what is a sender's own.
-- The contract of `laws::pasts` says that each law with a name of its own holds; the proofs are for the crates above to cite.
use Rattle.std.proofs.Common.{◌≡◌, ℕ, zero, suc, ◌+◌, ◌-◌, ◌<◌, ◌≤◌, Bool, true, false, ◌&&◌, ◌||◌, cond, eqb, ltb, List, [], ◌∷◌}
use Rattle.std.proofs.Common.{◌++◌}
use Rattle.std.proofs.Common.{Some, None, inl, inr, arith, sym, refl, ap, ◌∙◌, subst}
use Rattle.std.specs.List.{filter}
use Rattle.std.proofs.lemmas.Bool.{cases_lt, cases_Bool, true≢false, and_parts, lt-ltb, le-leb, lt-leb, ltb-true, eq-eqb, eqb-true}
use Rattle.std.proofs.lemmas.List.{length_push, length-replicate, get_or_append_left, get_or_push, append-nil}
use Rattle.std.proofs.lemmas.List.Folds.{list_any-append}
use Rattle.std.proofs.lemmas.List.Sums.{fold-append}
use Rattle.std.proofs.lemmas.List.Elements.{filter-append}
use Rattle.bus_strings.specs.Members.{In}
use Rattle.bus_strings.proofs.MemberLaws.{in_filter, from_filter, filter_same, filter_filter, any_in, none_any, any_filter}
use Rattle.bus_strings.specs.Messages.{Entry}
use Rattle.bus_strings.specs.Pulses.{is_on}
use Rattle.bus_strings.proofs.PulsesAlongLaws.{quiet_behind}
use Rattle.bus_strings.specs.Transmissions.{pulses, carrier, end_of, Precedes}
use Rattle.bus_medium.specs.Past.{past, own}
use Rattle.bus_medium.proofs.AscendingLaws.{behind_in}
use Rattle.bus_medium.specs.PastLaws.{PastLength, PastAt, NoCarrier, OwnLater, OwnMore, LastMore, OneAt}

pub length_past : PastLength
length_past q l zero = length-replicate q false ∙ omega arith
length_past q l (suc t) = length_push (past q l t) (carrier l t) ∙ omega (arith, length_past q l t)

pub past_at : PastAt
past_at q l zero u h = absurd (omega arith)
past_at q l (suc t) u h =
    elim (cases_lt u t) [
      | inl before ↦ get_or_append_left (past q l t) (carrier l t ∷ []) true (q + u) (omega (arith, length_past q l t))
          ∙ past_at q l t u before
      | inr now ↦
          let e : u ≡ t = omega arith in
          get_or_push (past q l t) (carrier l t) true (q + u) (omega (arith, length_past q l t)) ∙ ap (carrier l) (sym e)
    ]

-- a transmission has no pulse before its moment
pub pulses_later : (t : ℕ) (x : Entry) → t < x.moment → pulses t x ≡ false
pulses_later t x h = rw (lt-leb x.moment t h) refl

-- one that has a pulse has begun
pub pulses_begun : (t : ℕ) (x : Entry) → pulses t x ≡ true → x.moment ≤ t
pulses_begun t x h = elim (cases_lt t x.moment) [ inl later ↦ absurd (true≢false (sym h ∙ pulses_later t x later)) | inr begun ↦ begun ]

-- from its moment on it has the pulses of its message
pub pulses_on : (t : ℕ) (x : Entry) → x.moment ≤ t → pulses t x ≡ is_on x.message (t - x.moment)
pulses_on t x h = rw (le-leb x.moment t h) refl

-- and none behind its end
pub pulses_ended : (t : ℕ) (x : Entry) → end_of x ≤ t → pulses t x ≡ false
pulses_ended t x h = pulses_on t x (omega arith) ∙ quiet_behind x.message (t - x.moment) (omega arith)

pub no_carrier : NoCarrier
no_carrier l u h = none_any (pulses u) l (λ x i. elim (h x i) [ inl over ↦ pulses_ended u x over | inr later ↦ pulses_later u x later ])

-- where the message of one is on there is carrier
pub some_carrier : (l : List Entry) (x : Entry) (u : ℕ) → In x l → x.moment ≤ u → is_on x.message (u - x.moment) ≡ true → carrier l u ≡ true
some_carrier l x u i begun on = any_in (pulses u) l x i (pulses_on u x begun ∙ on)

-- a transmission changes nothing before its moment
pub carrier_push : (l : List Entry) (x : Entry) (u : ℕ) → u < x.moment → carrier (l ++ x ∷ []) u ≡ carrier l u
carrier_push l x u h =
    list_any-append (pulses u) l (x ∷ [])
    ∙ rw (pulses_later u x h) (elim (carrier l u) as (λ b. (b || false) ≡ b) [ true ↦ refl | false ↦ refl ])

-- the past at its moment is as before
pub past_push : (q : ℕ) (l : List Entry) (x : Entry) (u : ℕ) → u ≤ x.moment → past q (l ++ x ∷ []) u ≡ past q l u
past_push q l x zero h = refl
past_push q l x (suc u) h =
    ap (λ p. p ++ carrier (l ++ x ∷ []) u ∷ []) (past_push q l x u (omega arith))
    ∙ ap (λ b. past q l u ++ b ∷ []) (carrier_push l x u (omega arith))

-- two tests that say yes of the same say the same
pub same_bools : (a b : Bool) → (a ≡ true → b ≡ true) → (b ≡ true → a ≡ true) → a ≡ b
same_bools true b f g = sym (f refl)
same_bools false true f g = g refl
same_bools false false f g = refl

-- the test of `own`
pub own_test : (n t : ℕ) (x : Entry) → x.terminal ≡ n → x.moment < t → (eqb x.terminal n && ltb x.moment t) ≡ true
own_test n t x e h = rw (eq-eqb x.terminal n e, lt-ltb x.moment t h) refl

-- what it takes
pub from_own_test : (n t : ℕ) (x : Entry) → (eqb x.terminal n && ltb x.moment t) ≡ true → (x.terminal ≡ n) × (x.moment < t)
from_own_test n t x h = let p = and_parts (eqb x.terminal n) (ltb x.moment t) h in (eqb-true x.terminal n p.0, ltb-true x.moment t p.1)

-- and what it does not take
pub not_own_test : (n t : ℕ) (x : Entry) → ((x.terminal ≡ n) × (x.moment < t) → ⊥) → (eqb x.terminal n && ltb x.moment t) ≡ false
not_own_test n t x h =
    elim (cases_Bool (eqb x.terminal n && ltb x.moment t)) [ inl yes' ↦ absurd (h (from_own_test n t x yes')) | inr no' ↦ no' ]

-- the own transmissions are those of the list with the number that began before the moment
pub in_own : (l : List Entry) (n t : ℕ) (x : Entry) → In x l → x.terminal ≡ n → x.moment < t → In x (own l n t)
in_own l n t x i e h = in_filter (λ y. eqb y.terminal n && ltb y.moment t) l x i (own_test n t x e h)

-- and no others are
pub from_own : (l : List Entry) (n t : ℕ) (x : Entry) → In x (own l n t) → In x l × (x.terminal ≡ n) × (x.moment < t)
from_own l n t x h =
    let f = from_filter (λ y. eqb y.terminal n && ltb y.moment t) l x h in
    let g = from_own_test n t x f.1 in
    (f.0, g.0, g.1)

pub own_later : OwnLater
own_later l n a b low none = filter_same (λ x. eqb x.terminal n && ltb x.moment b) (λ x. eqb x.terminal n && ltb x.moment a) l (λ x i.
    same_bools (eqb x.terminal n && ltb x.moment b) (eqb x.terminal n && ltb x.moment a)
    (λ w. let p = from_own_test n b x w in
    own_test n a x p.0 (elim (cases_lt x.moment a) [ inl less ↦ less | inr more ↦ absurd (none x i p.0 more p.1) ]))
    (λ w. let p = from_own_test n a x w in let k : x.moment < a = p.1 in own_test n b x p.0 (omega arith)))

-- behind the last start of all nothing more is own
pub own_after : (l : List Entry) (n t u : ℕ) → ((x : Entry) → In x l → x.moment < t) → t ≤ u → own l n u ≡ own l n t
own_after l n t u begun low = own_later l n t u low (λ x i same from to. let k : x.moment < t = begun x i in omega arith)

-- own transmissions after one more
pub own_push : (l : List Entry) (n t : ℕ) (x : Entry) → x.terminal ≡ n → x.moment < t → own (l ++ x ∷ []) n t ≡ own l n t ++ x ∷ []
own_push l n t x e h = filter-append (λ y. eqb y.terminal n && ltb y.moment t) l (x ∷ []) ∙ rw (own_test n t x e h) refl

-- after one more that isn't own
pub own_push_other : (l : List Entry) (n t : ℕ) (x : Entry) → ((x.terminal ≡ n) × (x.moment < t) → ⊥) → own (l ++ x ∷ []) n t ≡ own l n t
own_push_other l n t x h = filter-append (λ y. eqb y.terminal n && ltb y.moment t) l (x ∷ [])
    ∙ rw (not_own_test n t x h) (append-nil (own l n t))

-- none of those behind it is own by then
none_behind : (x : Entry) (l : List Entry) (u : ℕ) → u ≤ x.moment + 1 → ((y : Entry) → In y l → Precedes x y) → own l x.terminal u ≡ []
none_behind x [] u most behind = refl
none_behind x (y ∷ l) u most behind =
    let not_own : (eqb y.terminal x.terminal && ltb y.moment u) ≡ false = not_own_test x.terminal u y (λ p.
    let same : y.terminal ≡ x.terminal = p.0 in
    let early : y.moment < u = p.1 in
    elim (behind y (inl refl)) [ inl less ↦ omega arith | inr at ↦ let more : x.terminal < y.terminal = at.1 in omega arith ]) in
    ap (λ b. cond b (y ∷ own l x.terminal u) (own l x.terminal u)) not_own ∙ none_behind x l u most (λ z i. behind z (inr i))

pub own_more : OwnMore
own_more [] x o i = absurd i
own_more (y ∷ ys) x o (inl same) =
    let n = x.terminal in
    let t = x.moment in
    let moments : x.moment ≡ y.moment = ap (λ w. w.moment) same in
    let behind : (z : Entry) → In z ys → Precedes x z = λ z k. subst (λ w. Precedes w z) (sym same) (behind_in y ys z o.0 k) in
    let here : (eqb y.terminal n && ltb y.moment (t + 1)) ≡ true = own_test n (t + 1) y (sym (ap (λ w. w.terminal) same)) (omega arith) in
    let not_before : (eqb y.terminal n && ltb y.moment t) ≡ false = not_own_test n t y (λ p. let k : y.moment < t = p.1 in omega arith) in
    ap (λ b. cond b (y ∷ own ys n (t + 1)) (own ys n (t + 1))) here
    ∙ ap (λ zs. y ∷ zs) (none_behind x ys (t + 1) (omega arith) behind)
    ∙ ap (λ w. w ∷ []) (sym same)
    ∙ ap (λ zs. zs ++ x ∷ []) (sym (none_behind x ys t (omega arith) behind))
    ∙ ap (λ b. cond b (y ∷ own ys n t) (own ys n t) ++ x ∷ []) (sym not_before)
own_more (y ∷ ys) x o (inr i) =
    let n = x.terminal in
    let t = x.moment in
    let before : Precedes y x = behind_in y ys x o.0 i in
    let test : (eqb y.terminal n && ltb y.moment (t + 1)) ≡ (eqb y.terminal n && ltb y.moment t) = same_bools
    (eqb y.terminal n && ltb y.moment (t + 1)) (eqb y.terminal n && ltb y.moment t)
    (λ w. let p = from_own_test n (t + 1) y w in let a : y.terminal ≡ n = p.0 in
    own_test n t y p.0 (elim before [ inl less ↦ less | inr at ↦ let c : y.terminal < x.terminal = at.1 in absurd (omega arith) ]))
    (λ w. let p = from_own_test n t y w in let k : y.moment < t = p.1 in own_test n (t + 1) y p.0 (omega arith)) in
    ap (λ b. cond b (y ∷ own ys n (t + 1)) (own ys n (t + 1))) test
    ∙ ap (λ zs. cond (eqb y.terminal n && ltb y.moment t) (y ∷ zs) zs) (own_more ys x o.1 i)
    ∙ elim (eqb y.terminal n && ltb y.moment t)
    as (λ b. cond b (y ∷ (own ys n t ++ x ∷ [])) (own ys n t ++ x ∷ []) ≡ cond b (y ∷ own ys n t) (own ys n t) ++ x ∷ []) [
      | true ↦ refl
      | false ↦ refl
    ]

pub last_push : LastMore
last_push q l x = fold-append (λ _ y. Some (q + y.moment)) None l (x ∷ [])

pub one_at : OneAt
one_at [] x y o i j a b = absurd i
one_at (z ∷ zs) x y o (inl e) (inl f) a b = e ∙ sym f
one_at (z ∷ zs) x y o (inl e) (inr j) a b =
    absurd (elim (subst (λ w. Precedes w y) (sym e) (behind_in z zs y o.0 j)) [
      | inl less ↦ omega arith
      | inr same ↦ let k : x.terminal < y.terminal = same.1 in omega arith
    ])
one_at (z ∷ zs) x y o (inr i) (inl f) a b =
    absurd (elim (subst (λ w. Precedes w x) (sym f) (behind_in z zs x o.0 i)) [
      | inl less ↦ omega arith
      | inr same ↦ let k : y.terminal < x.terminal = same.1 in omega arith
    ])
one_at (z ∷ zs) x y o (inr i) (inr j) a b = one_at zs x y o.1 i j a b

-- what was before a moment
abbrev pub before : List Entry → ℕ → List Entry
before l t = filter (λ x. ltb x.moment t) l

-- it tells the carrier before the moment
pub carrier_before : (l : List Entry) (t u : ℕ) → u < t → carrier (before l t) u ≡ carrier l u
carrier_before l t u h =
    any_filter (pulses u) (λ x. ltb x.moment t) l (λ x e. lt-ltb x.moment t (let k : x.moment ≤ u = pulses_begun u x e in omega arith))

-- the past at it
pub past_before : (q : ℕ) (l : List Entry) (t u : ℕ) → u ≤ t → past q (before l t) u ≡ past q l u
past_before q l t zero h = refl
past_before q l t (suc u) h =
    ap (λ p. p ++ carrier (before l t) u ∷ []) (past_before q l t u (omega arith))
    ∙ ap (λ b. past q l u ++ b ∷ []) (carrier_before l t u (omega arith))

-- and what is own
pub own_before : (l : List Entry) (n t : ℕ) → own (before l t) n t ≡ own l n t
own_before l n t =
    filter_filter (λ x. eqb x.terminal n && ltb x.moment t) (λ x. ltb x.moment t) l (λ x e. lt-ltb x.moment t (from_own_test n t x e).1)
