-- Steps of the code's loops.
use Rattle.std.specs.Prelude.{◌≡◌, ◌≢◌, ℕ, zero, suc, ◌+◌, ◌-◌, ◌<◌, ◌≤◌, max, min, ◌==◌, true, false, List, [], ◌∷◌, ◌++◌, take, drop, map, get_or, length, Bool, Some, None, slice_get, nat_lt, nat_le, IsTrue, ◌/◌, ◌%◌}
use Rattle.std.specs.List.{All}
use Rattle.std.proofs.Common.{inl, inr, arith, sym, refl, ap, ◌∙◌, cond, subst}
use Rattle.std.proofs.lemmas.Bool.{ne_eqb, and_parts}
use Rattle.std.proofs.lemmas.Bool.Decides.{nat_tests}
use Rattle.std.proofs.Common.{set, get_or-set_other, get_or-set_same}
use Rattle.std.proofs.lemmas.List.{take_more, drop_all}
use Rattle.bus_strings.specs.Members.{In}
use Rattle.bus_strings.proofs.ListLaws.{drop_at}
use Rattle.bus_table.specs.Tables.{Sender, Table}
use Rattle.bus_table.specs.Lengths.{longest}
use Rattle.bus_table.specs.Offsets.{at_offset}
use Rattle.bus_table.specs.Turns.{turn_order}
use Rattle.bus_table.specs.inside.Facts.{SenderFacts, TableFacts}
use Rattle.bus_table.specs.inside.Orders.{Differ}
use Rattle.bus_table.specs.Ranges.{is_number, is_tg, is_sender}
use Rattle.bus_table.specs.Valid.{is_valid}
use Rattle.bus_table.proofs.TurnLaws.{of_each}
use Rattle.bus_table.proofs.ValidLaws.{valid_facts}
use Rattle.bus_plan.specs.Plans.{offset_in}
use Rattle.bus_cable_plan.specs.Plans.{behind, laid_out, least_in_order, left_over, share, plan_in_order, offsets_in_order}
use Rattle.bus_cable_plan.specs.Shapes.{Shape, Pair, gap_in, needed, greatest_tg, second_tg, greater_pair, pair_from, greatest_pair, own, neighbours, apart, round, lesser_shape, shape_of}
use Rattle.bus_cable_plan.proofs.Splits.{heads_same, tails_same}

-- ---- one more sender behind
greatest_push : (xs : List Sender) (y : Sender) → greatest_tg (xs ++ y ∷ []) ≡ max (greatest_tg xs) y.tg
greatest_push [] y = omega arith
greatest_push (x ∷ xs) y = let rest = greatest_push xs y in omega (arith, rest)

second_push : (xs : List Sender) (y : Sender) → second_tg (xs ++ y ∷ []) ≡ max (second_tg xs) (min (greatest_tg xs) y.tg)
second_push [] y = omega arith
second_push (x ∷ xs) y = let top = greatest_push xs y in let rest = second_push xs y in omega (arith, top, rest)

pub greatest_more : (xs : List Sender) (i : ℕ) (d : Sender) → i < length xs
    → greatest_tg (take (i + 1) xs) ≡ max (greatest_tg (take i xs)) (get_or xs i d).tg
greatest_more xs i d h = ap greatest_tg (take_more xs i d h) ∙ greatest_push (take i xs) (get_or xs i d)

pub second_more : (xs : List Sender) (i : ℕ) (d : Sender) → i < length xs
    → second_tg (take (i + 1) xs) ≡ max (second_tg (take i xs)) (min (greatest_tg (take i xs)) (get_or xs i d).tg)
second_more xs i d h = ap second_tg (take_more xs i d h) ∙ second_push (take i xs) (get_or xs i d)

-- ---- numbers in their ranges
greatest_at_most : (n : ℕ) (ss : List Sender) → ((s : Sender) → In s ss → s.tg ≤ n) → (greatest_tg ss ≤ n) × (second_tg ss ≤ n)
greatest_at_most n [] h = (omega arith, omega arith)
greatest_at_most n (s ∷ ss) h =
    let one = h s (inl refl) in
    let rest = greatest_at_most n ss (λ x i. h x (inr i)) in
    let p = rest.0 in
    let q = rest.1 in
    (omega (arith, one, p), omega (arith, one, p, q))

pub tops_small : (table : Table) → TableFacts table → (senders : List Sender) → senders ≡ table.senders
    → (greatest_tg senders ≤ 256) × (second_tg senders ≤ 256)
tops_small table facts senders e =
    subst (λ ss. (greatest_tg ss ≤ 256) × (second_tg ss ≤ 256)) (sym e)
    (greatest_at_most 256 table.senders (λ s i. (of_each (SenderFacts table) table.senders facts.senders s i).tg_most))

pub all_of : (P : ℕ → Type 0) (xs : List ℕ) → ((n : ℕ) → In n xs → P n) → All P xs
all_of P [] h k d l = absurd (omega arith)
all_of P (x ∷ xs) h zero d l = h x (inl refl)
all_of P (x ∷ xs) h (suc k) d l = all_of P xs (λ n i. h n (inr i)) k d (omega arith)

-- ---- offsets by number, one more behind
pub offset_push : (xs : List Sender) (y : Sender) (number : ℕ) → ((x : Sender) → In x xs → x.number ≢ y.number)
    → offset_in (xs ++ y ∷ []) number ≡ cond (y.number == number) y.at (offset_in xs number)
offset_push [] y number apart = refl
offset_push (x ∷ xs) y number apart =
    let rest = offset_push xs y number (λ z i. apart z (inr i)) in
    (elim (x.number == number) as (λ b. (x.number == number) ≡ b
    → cond b x.at (offset_in (xs ++ y ∷ []) number) ≡ cond (y.number == number) y.at (cond b x.at (offset_in xs number))) [
      | true ↦ λ h.
          let here : x.number ≡ number = grind (arith, nat_tests, h) in
          let other : x.number ≢ y.number = apart x (inl refl) in
          let no : (y.number == number) ≡ false = ne_eqb y.number number (λ k. other (here ∙ sym k)) in
          sym (ap (λ b. cond b y.at x.at) no)
      | false ↦ λ h. rest
    ]) refl

-- ---- the pair of neighbours
pub pair_step : (order : List Sender) (k : ℕ) (s : Sender) (start best next : Pair) (first before tg : ℕ) → slice_get order k ≡ Some s
    → tg ≡ s.tg → next ≡ greater_pair best (record { before = before; behind = tg }) → start ≡ pair_from best first before (drop k order)
    → start ≡ pair_from next first tg (drop (k + 1) order)
pair_step order k s start best next first before tg at is chosen so =
    so ∙ ap (pair_from best first before) (drop_at order k s at)
    ∙ ap (λ (n : ℕ). pair_from (greater_pair best (record { before = before; behind = n })) first n (drop (k + 1) order)) (sym is)
    ∙ ap (λ (p : Pair). pair_from p first tg (drop (k + 1) order)) (sym chosen)

pub pair_end : (order : List Sender) (k : ℕ) (start best last : Pair) (first before : ℕ) → length order ≤ k
    → start ≡ pair_from best first before (drop k order) → last ≡ greater_pair best (record { before = before; behind = first }) → last ≡ start
pair_end order k start best last first before all so chosen =
    chosen ∙ sym (so ∙ ap (pair_from best first before) (drop_all k order all))

-- ---- the shape that needs least
abbrev shape_from : ℕ → List Sender → ℕ → ℕ → ℕ → Pair → Shape
shape_from d ss sg first second pair =
    lesser_shape d ss (lesser_shape d ss (lesser_shape d ss (own sg first) (neighbours d sg pair)) (apart sg first second)) (round d sg first second)

pub shape_told : (d : ℕ) (table : Table) (sg first second : ℕ) (pair : Pair) (a b one c two e shape : Shape)
    → sg ≡ table.sg → first ≡ greatest_tg table.senders → second ≡ second_tg table.senders → pair ≡ greatest_pair (turn_order table)
    → a ≡ own sg first → b ≡ neighbours d sg pair → one ≡ lesser_shape d table.senders a b
    → c ≡ apart sg first second → two ≡ lesser_shape d table.senders one c
    → e ≡ round d sg first second → shape ≡ lesser_shape d table.senders two e → shape ≡ shape_of d table
shape_told d table sg first second pair a b one c two e shape sg_is first_is second_is pair_is a_is b_is one_is c_is two_is e_is is =
    let ss : List Sender = table.senders in
    is ∙ ap (λ (x : Shape). lesser_shape d ss x e) (two_is ∙ ap (λ (x : Shape). lesser_shape d ss x c) (one_is
    ∙ ap (λ (x : Shape). lesser_shape d ss x b) a_is ∙ ap (lesser_shape d ss (own sg first)) b_is)
    ∙ ap (lesser_shape d ss (lesser_shape d ss (own sg first) (neighbours d sg pair))) c_is)
    ∙ ap (lesser_shape d ss (lesser_shape d ss (lesser_shape d ss (own sg first) (neighbours d sg pair)) (apart sg first second))) e_is
    ∙ ap (λ (x : ℕ). shape_from d ss x first second pair) sg_is ∙ ap (λ (x : ℕ). shape_from d ss table.sg x second pair) first_is
    ∙ ap (λ (x : ℕ). shape_from d ss table.sg (greatest_tg ss) x pair) second_is
    ∙ ap (shape_from d ss table.sg (greatest_tg ss) (second_tg ss)) pair_is

-- ---- the walk that lays out the senders
cut_next : (n : ℕ) (k : ℕ) (xs : List Sender) (y : Sender) (ys : List Sender) → n ≡ suc k → drop k xs ≡ y ∷ ys
    → (take n xs ≡ take k xs ++ y ∷ []) × (drop n xs ≡ ys)
cut_next n zero [] y ys e h = absurd cc
cut_next n zero (x ∷ xs) y ys e h =
    let head = heads_same x y xs ys h in
    let tail = tails_same x y xs ys h in (
      ap (λ m. take m (x ∷ xs)) e ∙ ap (λ z. z ∷ []) head,
      ap (λ m. drop m (x ∷ xs)) e ∙ tail,
    )
cut_next n (suc k) [] y ys e h = absurd cc
cut_next n (suc k) (x ∷ xs) y ys e h =
    let w = cut_next (suc k) k xs y ys refl h in (
      ap (λ m. take m (x ∷ xs)) e ∙ ap (λ l. x ∷ l) w.0,
      ap (λ m. drop m (x ∷ xs)) e ∙ w.1,
    )

cut_apart : (k : ℕ) (xs : List Sender) (y : Sender) (ys : List Sender) → Differ (λ s. s.number) xs → drop k xs ≡ y ∷ ys
    → (x : Sender) → In x (take k xs) → x.number ≢ y.number
cut_apart zero xs y ys d h x i = absurd i
cut_apart (suc k) [] y ys d h x i = absurd i
cut_apart (suc k) (z ∷ xs) y ys d h x (inl e) =
    let there : In y xs = in_drop k xs y (subst (λ l. In y l) (sym h) (inl refl)) in
    λ same. d.0 y there (ap (λ (s : Sender). s.number) (sym e) ∙ same)
  where
    in_drop : (j : ℕ) (us : List Sender) (u : Sender) → In u (drop j us) → In u us
    in_drop zero us u j = j
    in_drop (suc j) [] u i = absurd i
    in_drop (suc j) (v ∷ us) u i = inr (in_drop j us u i)
cut_apart (suc k) (z ∷ xs) y ys d h x (inr i) = cut_apart k xs y ys d.1 h x i

pub start_laid : (gap : Sender → ℕ) (rest end left : ℕ) (order : List Sender) (a : Sender) → slice_get order 0 ≡ Some a → end ≡ longest a
    → left ≡ rest - 1
    → ((number : ℕ) → offset_in (take 1 (laid_out gap rest order)) number ≡ 0)
    × (drop 1 (laid_out gap rest order) ≡ behind gap end left (drop 1 order))
start_laid gap rest end left [] a h e l = absurd (none h) where
  none : None ≡ Some a → ⊥
  none k = absurd cc
start_laid gap rest end left (b ∷ order) a h e l =
    let same : b ≡ a = some_same h in (
      (λ number. zero_or (b.number == number)),
      ap (λ (x : Sender). behind gap (longest x) (rest - 1) order) same ∙ ap (λ (n : ℕ). behind gap n (rest - 1) order) (sym e)
          ∙ ap (λ (n : ℕ). behind gap end n order) (sym l),
    )
  where
    some_same : Some b ≡ Some a → b ≡ a
    some_same k = cc

    zero_or : (w : Bool) → ◌≡◌ {A = ℕ} (cond w 0 0) 0
    zero_or true = refl
    zero_or false = refl

pub step_laid : (gap : Sender → ℕ) (plan order : List Sender) (k end rest : ℕ) (s : Sender) (offsets : List ℕ) (number at next left : ℕ)
    → Differ (λ x. x.number) plan → slice_get order k ≡ Some s → drop k plan ≡ behind gap end rest (drop k order)
    → ((n : ℕ) → n < 129 → get_or offsets n 0 ≡ offset_in (take k plan) n) → length offsets ≡ 129
    → number ≡ s.number → at ≡ end + (gap s + min rest 1) → next ≡ at + longest s → left ≡ rest - 1
    → ((n : ℕ) → n < 129 → get_or (set offsets number at) n 0 ≡ offset_in (take (k + 1) plan) n)
    × (drop (k + 1) plan ≡ behind gap next left (drop (k + 1) order))
step_laid gap plan order k end rest s offsets number at next left differ here still told size number_is at_is next_is left_is =
    let a : ℕ = end + (gap s + min rest 1) in
    let later : List Sender = behind gap (a + longest s) (rest - 1) (drop (k + 1) order) in
    let cut : drop k plan ≡ at_offset a s ∷ later = still ∙ ap (behind gap end rest) (drop_at order k s here) in
    let w = cut_next (k + 1) k plan (at_offset a s) later (let e : k + 1 ≡ suc k = omega arith in e) cut in
    let apart = cut_apart k plan (at_offset a s) later differ cut in (
      (λ n low. let push = ap (λ l. offset_in l n) w.0 ∙ offset_push (take k plan) (at_offset a s) n apart in
          (elim (s.number == n) as (λ b. (s.number == n) ≡ b → get_or (set offsets number at) n 0 ≡ offset_in (take (k + 1) plan) n) [
            | true ↦ λ h.
                let same : s.number ≡ n = grind (arith, nat_tests, h) in
                let place : number ≡ n = number_is ∙ same in
                ap (λ m. get_or (set offsets m at) n 0) place ∙ (let within : n < length offsets = omega (arith, size, low) in rw get_or-set_same at_is)
                ∙ sym (push ∙ ap (λ b. cond b a (offset_in (take k plan) n)) h)
            | false ↦ λ h.
                let other : s.number ≢ n = grind (arith, nat_tests, h) in
                let ne : n ≢ number = λ e. other (sym (e ∙ number_is)) in
                rw get_or-set_other (told n low) ∙ sym (push ∙ ap (λ b. cond b a (offset_in (take k plan) n)) h)
          ]) refl),
      w.1 ∙ ap (λ (m : ℕ). behind gap m (rest - 1) (drop (k + 1) order)) (sym (next_is ∙ ap (λ (m : ℕ). m + longest s) at_is))
          ∙ ap (λ (m : ℕ). behind gap next m (drop (k + 1) order)) (sym left_is),
    )

behind_length : (gap : Sender → ℕ) (end rest : ℕ) (order : List Sender) → length (behind gap end rest order) ≡ length order
behind_length gap end rest [] = refl
behind_length gap end rest (s ∷ order) =
    let k = behind_length gap (end + (gap s + min rest 1) + longest s) (rest - 1) order in omega (arith, k)

pub laid_length : (gap : Sender → ℕ) (rest : ℕ) (order : List Sender) → length (laid_out gap rest order) ≡ length order
laid_length gap rest [] = refl
laid_length gap rest (s ∷ order) = let k = behind_length gap (longest s) (rest - 1) order in omega (arith, k)

pub greater_small : (n : ℕ) (a b : Pair) → a.before ≤ n → a.behind ≤ n → b.before ≤ n → b.behind ≤ n
    → ((greater_pair a b).before ≤ n) × ((greater_pair a b).behind ≤ n)
greater_small n a b p q r s =
    elim (nat_lt (a.before + a.behind) (b.before + b.behind)) as (λ w. ((cond w b a).before ≤ n) × ((cond w b a).behind ≤ n)) [
      | true ↦ (r, s)
      | false ↦ (p, q)
    ]

pub sender_tg : (tg : ℕ) (s : Sender) → tg ≡ s.tg → IsTrue (is_sender s) → tg ≤ 256
sender_tg tg s e h =
    let gap = and_parts (nat_le 8 s.tg) _ (and_parts (is_tg s.tg) _ (and_parts (is_number s.number) _ h).1).0 in
    let most : s.tg ≤ 256 = grind (arith, nat_tests, gap.1) in
    omega (arith, most, e)

-- ---- the offsets of the plan
map_same : (f g : Sender → ℕ) (ss : List Sender) → ((s : Sender) → In s ss → f s ≡ g s) → map f ss ≡ map g ss
map_same f g [] h = refl
map_same f g (s ∷ ss) h = ap (λ n. n ∷ map f ss) (h s (inl refl)) ∙ ap (λ l. g s ∷ l) (map_same f g ss (λ x i. h x (inr i)))

pub offsets_told : (d : ℕ) (table : Table) (shape : Shape) (needs part rest : ℕ) (offsets : List ℕ)
    → shape ≡ shape_of d table → needs ≡ needed d shape table.senders → part ≡ (table.ti - needs) / length table.senders
    → rest ≡ (table.ti - needs) % length table.senders
    → ((number : ℕ) → number < 129 → get_or offsets number 0
    ≡ offset_in (laid_out (λ s. gap_in d shape s + part) rest (turn_order table)) number)
    → IsTrue (is_valid table) → map (λ s. get_or offsets s.number 0) table.senders ≡ offsets_in_order d table
offsets_told d table shape needs part rest offsets shape_is needs_is part_is rest_is told valid =
    let facts = valid_facts table valid in
    let least : needs ≡ least_in_order d table = needs_is ∙ ap (λ (x : Shape). needed d x table.senders) shape_is in
    let part_told : part ≡ share d table = part_is ∙ ap (λ (n : ℕ). (table.ti - n) / length table.senders) least in
    let rest_told : rest ≡ left_over d table % length table.senders =
    rest_is ∙ ap (λ (n : ℕ). (table.ti - n) % length table.senders) least in
    let plan : laid_out (λ s. gap_in d shape s + part) rest (turn_order table) ≡ plan_in_order d table =
    ap (λ (x : Shape). laid_out (λ s. gap_in d x s + part) rest (turn_order table)) shape_is
    ∙ ap (λ (n : ℕ). laid_out (λ s. gap_in d (shape_of d table) s + n) rest (turn_order table)) part_told
    ∙ ap (λ (n : ℕ). laid_out (λ s. gap_in d (shape_of d table) s + share d table) n (turn_order table)) rest_told in
    map_same (λ s. get_or offsets s.number 0) (λ s. offset_in (plan_in_order d table) s.number) table.senders (λ s i.
    let most = (of_each (SenderFacts table) table.senders facts.senders s i).number_most in
    told s.number (omega (arith, most)) ∙ ap (λ l. offset_in l s.number) plan)
