-- One sender more in turn order, or one gap more.
use Rattle.std.specs.Prelude.{◌≡◌, ℕ, ◌+◌, ◌≤◌, Bool, true, false, ◌||◌, List, [], ◌∷◌, ◌++◌, length, take, drop, Some, None, slice_get}
use Rattle.std.specs.List.{flat_map, list_any, count_by}
use Rattle.std.proofs.Common.{arith, sym, refl, ap, ◌∙◌, cond, append_assoc, get_or}
use Rattle.std.proofs.lemmas.Grind.{flat_map-append}
use Rattle.std.proofs.lemmas.List.{append-nil, take_more, take_all, drop_all}
use Rattle.std.proofs.lemmas.List.Sums.{sum_by-cons}
use Rattle.std.proofs.lemmas.Option.{slice_get_within, get_or_from_slice_get}
use Rattle.bus_strings.proofs.ListLaws.{drop_at}
use Rattle.bus_strings.proofs.TestLaws.{or_false}
use Rattle.bus_table.specs.Tables.{Sender, Table}
use Rattle.bus_table.specs.Turns.{turn_key, turn_order}
use Rattle.bus_table.proofs.TurnLaws.{length-sort}
use Rattle.bus_regime.specs.Gaps.{Gap}
use Rattle.bus_regime.specs.Verdicts.{is_small}
use Rattle.bus_regime.specs.Gaps.{has_width}
use Rattle.bus_advice.specs.inside.InnerGaps.{has_room, width_for, needed_width}

pub one_more : {A B : Type 0} (f : A → List B) (xs : List A) (k : ℕ) (x : A) (base before after more : List B) → slice_get xs k ≡ Some x
    → before ≡ base ++ flat_map f (take k xs) → after ≡ before ++ more → more ≡ f x → after ≡ base ++ flat_map f (take (k + 1) xs)
one_more f xs k x base before after more at so e is =
    let inside = slice_get_within xs k x at in
    let read : get_or xs k x ≡ x = get_or_from_slice_get xs k x x at in
    let taken : take (k + 1) xs ≡ take k xs ++ x ∷ [] = take_more xs k x inside ∙ ap (λ y. take k xs ++ y ∷ []) read in
    e ∙ ap (λ l. l ++ more) so ∙ ap (λ l. (base ++ flat_map f (take k xs)) ++ l) (is ∙ sym (append-nil (f x)))
    ∙ append_assoc base (flat_map f (take k xs)) (flat_map f (x ∷ []))
    ∙ ap (λ l. base ++ l) (sym (flat_map-append f (take k xs) (x ∷ [])) ∙ ap (flat_map f) (sym taken))

pub all_turned : {B : Type 0} (f : Sender → List B) (table : Table) (k : ℕ) (base now : List B) → length table.senders ≤ k
    → now ≡ base ++ flat_map f (take k (turn_order table)) → now ≡ base ++ flat_map f (turn_order table)
all_turned f table k base now past so =
    let long = length-sort (turn_key table.mode) table.senders in
    so ∙ ap (λ l. base ++ flat_map f l) (take_all k (turn_order table) (omega (arith, long, past)))

pub any_more : (p : Gap → Bool) (all : List Gap) (k : ℕ) (g : Gap) (total so next : Bool) → slice_get all k ≡ Some g
    → total ≡ (so || list_any p (drop k all)) → next ≡ (so || p g) → total ≡ (next || list_any p (drop (k + 1) all))
any_more p all k g total so next at h e =
    h ∙ ap (λ l. so || list_any p l) (drop_at all k g at) ∙ assoc so (p g) (list_any p (drop (k + 1) all))
    ∙ ap (λ b. b || list_any p (drop (k + 1) all)) (sym e)
  where
    assoc : (a b c : Bool) → (a || (b || c)) ≡ ((a || b) || c)
    assoc true b c = refl
    assoc false b c = refl

pub small_more : (all : List Gap) (k : ℕ) (g : Gap) (total : Bool) → slice_get all k ≡ Some g → is_small g ≡ false
    → total ≡ list_any is_small (drop k all) → total ≡ list_any is_small (drop (k + 1) all)
small_more all k g total at fits h =
    h ∙ ap (list_any is_small) (drop_at all k g at) ∙ ap (λ b. b || list_any is_small (drop (k + 1) all)) fits

pub small_found : (all : List Gap) (k : ℕ) (g : Gap) (total : Bool) → slice_get all k ≡ Some g → is_small g ≡ true
    → total ≡ list_any is_small (drop k all) → total ≡ true
small_found all k g total at small h =
    h ∙ ap (list_any is_small) (drop_at all k g at) ∙ ap (λ b. b || list_any is_small (drop (k + 1) all)) small

pub count_more : (p : Gap → Bool) (all : List Gap) (k : ℕ) (g : Gap) (total so one : ℕ) → slice_get all k ≡ Some g
    → total ≡ so + count_by p (drop k all) → one ≡ cond (p g) 1 0 → total ≡ so + one + count_by p (drop (k + 1) all)
count_more p all k g total so one at h e =
    let next : count_by p (drop k all) ≡ count_by p (g ∷ drop (k + 1) all) = ap (count_by p) (drop_at all k g at) in
    omega (arith, h, e, next, sum_by-cons (λ (x : Gap). cond (p x) 1 0) g (drop (k + 1) all))

pub needed_none : (sg tg : ℕ) (inner : List Gap) → list_any is_small inner ≡ true → None ≡ needed_width sg tg inner
needed_none sg tg inner small =
    sym (ap (λ b. cond b None (Some (width_for sg tg (list_any (has_room sg) inner) (count_by (has_width sg) inner)))) small)

pub needed_some : (sg tg : ℕ) (all inner : List Gap) (k : ℕ) (room : Bool) (wide width : ℕ) → length all ≤ k
    → list_any is_small inner ≡ list_any is_small (drop k all) → list_any (has_room sg) inner ≡ (room || list_any (has_room sg) (drop k all))
    → count_by (has_width sg) inner ≡ wide + count_by (has_width sg) (drop k all) → width ≡ width_for sg tg room wide
    → Some width ≡ needed_width sg tg inner
needed_some sg tg all inner k room wide width past small r w is =
    let none : drop k all ≡ [] = drop_all k all past in
    let fits : list_any is_small inner ≡ false = small ∙ ap (list_any is_small) none in
    let rooms : list_any (has_room sg) inner ≡ room = r ∙ ap (λ l. room || list_any (has_room sg) l) none ∙ or_false room in
    let rest : count_by (has_width sg) (drop k all) ≡ 0 = ap (count_by (has_width sg)) none in
    let wides : count_by (has_width sg) inner ≡ wide = omega (arith, w, rest) in
    ap Some (is ∙ ap (λ b. width_for sg tg b wide) (sym rooms) ∙ ap (λ n. width_for sg tg (list_any (has_room sg) inner) n) (sym wides))
    ∙ sym (ap (λ b. cond b None (Some (width_for sg tg (list_any (has_room sg) inner) (count_by (has_width sg) inner)))) fits)
