-- The planned table.
use Rattle.std.specs.Prelude.{IfSome}
use Rattle.std.proofs.Common.{arith, ◌≡◌, ℕ, zero, suc, ◌+◌, ◌<◌, ◌≤◌, ◌++◌, Bool, true, false, cond, nat_lt, List, [], ◌∷◌, map, take, length, get_or, slice_get, Some, None, Option}
use Rattle.std.proofs.Common.{refl, sym, ◌∙◌, ap, subst, inl, inr}
use Rattle.std.proofs.lemmas.Bool.{cases_lt}
use Rattle.std.proofs.lemmas.Bool.Decides.{nat_tests}
use Rattle.std.proofs.lemmas.List.{take_more}
use Rattle.std.proofs.lemmas.Option.{get_or_from_slice_get, slice_get_within}
use Rattle.bus_strings.specs.Members.{In}
use Rattle.bus_table.specs.declared.mode.Mode.TheVariants.{Aperiodic}
use Rattle.bus_table.specs.Ranges.{kept}
use Rattle.bus_table.specs.Tables.{Sender}
use Rattle.bus_table.specs.Turns.{insert, sort, turn_key}
use Rattle.bus_bounds.specs.Bounds.{Bounds, most_clocks}
use Rattle.bus_margins.proofs.TimeLemmas.{least_time_more}
use Rattle.bus_gaps.specs.Gaps.{least_time, next_low, AreTaken}
use Rattle.bus_design.specs.Others.{at_gap, with_gaps, speaker_of}
use Rattle.bus_design.proofs.Orders.{low_all}

-- what is kept is the value
pub kept_is : {X : Type 0} (test : X → Bool) (x : X) → IfSome (kept test x) (λ y. y ≡ x)
kept_is test x = (elim (test x) as (λ b. IfSome (cond b (Some x) None) (λ y. y ≡ x)) [ true ↦ refl | false ↦ tt ])

-- gaps that are taken ascend
pub ascends : (bounds : Bounds) (sg x y : ℕ) → bounds.clocks ≤ most_clocks → next_low bounds sg x ≤ least_time bounds y → x < y
ascends bounds sg x y within h =
    elim (cases_lt x y) [
      | inl l ↦ l
      | inr r ↦ absurd (let m = least_time_more bounds y x within r in omega (arith, m, h))
    ]

pub insert_front : (a : Sender) (bs : List Sender) → ((b : Sender) → In b bs → a.tg < b.tg) → insert (turn_key Aperiodic) a bs ≡ a ∷ bs
insert_front a [] h = refl
insert_front a (b ∷ bs) h =
    let less : a.tg < b.tg = h b (inl refl) in
    let test : nat_lt a.tg b.tg ≡ true = grind (arith, nat_tests, less) in
    ap (λ t. cond t (a ∷ (b ∷ bs)) (b ∷ insert (turn_key Aperiodic) a bs)) test

-- so the senders that have them stand in turn order
pub sorted : (bounds : Bounds) (sg : ℕ) (alone : Bool) (senders : List Sender) (gaps : List ℕ) (low : ℕ) → bounds.clocks ≤ most_clocks
    → AreTaken bounds sg alone low (map speaker_of senders) gaps → sort (turn_key Aperiodic) (with_gaps senders gaps) ≡ with_gaps senders gaps
sorted bounds sg alone [] gaps low within t = refl
sorted bounds sg alone (a ∷ senders) [] low within t = refl
sorted bounds sg alone (a ∷ senders) (x ∷ gaps) low within t =
    ap (insert (turn_key Aperiodic) (at_gap x a)) (sorted bounds sg alone senders gaps (next_low bounds sg x) within t.1)
    ∙ insert_front (at_gap x a) (with_gaps senders gaps)
    (λ b i. ascends bounds sg x b.tg within (low_all bounds sg alone senders gaps (next_low bounds sg x) t.1 b i))

pushed : (senders : List Sender) (gaps : List ℕ) (k : ℕ) (a : Sender) (x : ℕ) → k < length senders → k < length gaps
    → with_gaps (take k senders ++ a ∷ []) (take k gaps ++ x ∷ []) ≡ with_gaps (take k senders) (take k gaps) ++ at_gap x a ∷ []
pushed senders gaps zero a x s g = refl
pushed [] gaps (suc k) a x s g = absurd (let m : suc k < 0 = s in omega (arith, m))
pushed (b ∷ senders) [] (suc k) a x s g = absurd (let m : suc k < 0 = g in omega (arith, m))
pushed (b ∷ senders) (y ∷ gaps) (suc k) a x s g =
    ap (λ zs. at_gap y b ∷ zs) (pushed senders gaps k a x (let m : suc k < suc (length senders) = s in omega (arith, m))
    (let m : suc k < suc (length gaps) = g in omega (arith, m)))

-- one more of them
pub gaps_more : (senders : List Sender) (gaps : List ℕ) (k : ℕ) (a : Sender) (d : ℕ) → slice_get senders k ≡ Some a → k < length gaps
    → with_gaps (take (k + 1) senders) (take (k + 1) gaps) ≡ with_gaps (take k senders) (take k gaps) ++ at_gap (get_or gaps k d) a ∷ []
gaps_more senders gaps k a d at l =
    let s = take_more senders k a (slice_get_within senders k a at) ∙ ap (λ y. take k senders ++ y ∷ []) (get_or_from_slice_get senders k a a at) in
    let g = take_more gaps k d l in
    ap (λ xs. with_gaps xs (take (k + 1) gaps)) s ∙ ap (with_gaps (take k senders ++ a ∷ [])) g
    ∙ pushed senders gaps k a (get_or gaps k d) (slice_get_within senders k a at) l

pub if_some : {X : Type 0} (P : X → Type 0) (o : Option X) (x : X) → o ≡ Some x → IfSome o P → P x
if_some P o x e h = subst (λ w. IfSome w P) e h

pub from_kept : {X : Type 0} (test : X → Bool) (x : X) (o : Option X) (y : X) → o ≡ kept test x → o ≡ Some y → y ≡ x
from_kept test x o y e is = if_some (λ z. z ≡ x) o y is (subst (λ w. IfSome w (λ z. z ≡ x)) (sym e) (kept_is test x))

pub push_gap : (order : List Sender) (gaps : List ℕ) (k : ℕ) (a : Sender) (d : ℕ) (items : List Sender) (o : Option Sender) (s : Sender)
    → o ≡ Some s → IfSome o (λ other. other ≡ at_gap (get_or gaps k d) a) → slice_get order k ≡ Some a → k < length gaps
    → items ≡ with_gaps (take k order) (take k gaps) → items ++ s ∷ [] ≡ with_gaps (take (k + 1) order) (take (k + 1) gaps)
push_gap order gaps k a d items o s is made at l so_far =
    ap (λ (xs : List Sender). xs ++ s ∷ []) so_far
    ∙ ap (λ z. with_gaps (take k order) (take k gaps) ++ z ∷ []) (if_some (λ other. other ≡ at_gap (get_or gaps k d) a) o s is made)
    ∙ sym (gaps_more order gaps k a d at l)
