-- Which boxes of a row lie apart, and which have different shades.
use Rattle.std.proofs.Common.{◌≡◌, ◌≢◌, ◌⊎◌, ℕ, zero, suc, ◌+◌, ◌-◌, ◌%◌, ◌<◌, ◌≤◌, ◌&&◌, ◌||◌, Bool, true, false, cond, eqb, leb, max, List, [], ◌∷◌, inl, inr, arith, refl, sym, ap, subst, ◌∙◌}
use Rattle.std.specs.Prelude.{not}
use Rattle.std.specs.List.{count_by}
use Rattle.std.proofs.lemmas.Bool.{cases_eq, cases_lt, eq-eqb, leb-false, ne_eqb, true≢false}
use Rattle.std.proofs.lemmas.List.Sums.{sum_by-cons}
use Rattle.bus_strings.specs.Members.{In}
use Rattle.bus_shapes.specs.declared.sent.Sent.{Sent}
use Rattle.bus_cycles.specs.Laws.{AreFew, LieApart, SlotsAreKept, ThreeAreKept, ThreeLieApart, reaches_behind}
use Rattle.bus_cycles.specs.MarkLaws.{BreachHidesNone, FaultHidesNone}
use Rattle.bus_cycles.specs.Pages.{Page, page_of, row_height_of, top_of}
use Rattle.bus_cycles.specs.RowTexts.{Shaded, area_of, below_top, free_slot, height_of, is_free, is_reached, lane_in, left_of, right_of, shade, shaded, slot_of}
use Rattle.bus_cycles.proofs.CoverLemmas.{further}

-- ---- the height of a row
pub height_is : (garbled : ℕ) → (140 ≤ row_height_of garbled) × (row_height_of garbled ≤ 320)
height_is garbled = by_case (eqb garbled 0) where
  by_case : (b : Bool) → (140 ≤ cond b 140 320) × (cond b 140 320 ≤ 320)
  by_case true = (omega arith, omega arith)
  by_case false = (omega arith, omega arith)

-- ---- what the line of a breach hides
-- A box of this shade is within its row.
within_row : (page : Page) (tone : ℕ) → 140 ≤ page.row_height → tone < 5 → (10 ≤ below_top page tone) × (below_top page tone + height_of page tone + 10 ≤ page.row_height)
within_row page zero high low = (omega arith, omega arith)
within_row page (suc zero) high low = (omega arith, omega arith)
within_row page (suc (suc zero)) high low = (omega arith, omega arith)
within_row page (suc (suc (suc zero))) high low = (omega arith, omega arith)
within_row page (suc (suc (suc (suc zero)))) high low = (omega arith, omega arith)
within_row page (suc (suc (suc (suc (suc n))))) high low = absurd (omega arith)

-- The slot that is taken is one of these.
slot_low : (free : ℕ → Bool) (own : ℕ) → own < 3 → free_slot free own < 3
slot_low free own low = by_case (free own) (free ((own + 1) % 3)) (free ((own + 2) % 3)) where
  by_case : (a b c : Bool) → cond a own (cond b ((own + 1) % 3) (cond c ((own + 2) % 3) own)) < 3
  by_case true b c = low
  by_case false true c = omega arith
  by_case false false true = omega arith
  by_case false false false = low

pub hides_none : BreachHidesNone
hides_none table survey counts row begin left x low =
    let page : Page = page_of table survey counts in
    let tone : ℕ = x.shade in
    let high : 140 ≤ page.row_height = (height_is counts.garbled).0 in
    let within = within_row page tone high low in
    let below : 10 ≤ below_top page tone = within.0 in
    let whole : below_top page tone + height_of page tone + 10 ≤ page.row_height = within.1 in
    let top : 1690 ≤ top_of page row = omega arith in
    (above (top_of page row) (below_top page tone) top below, under (top_of page row) (below_top page tone) (height_of page tone) page.row_height whole)
  where
    above : (top below : ℕ) → 1690 ≤ top → 10 ≤ below → top - 30 + 40 ≤ top + below
    above top below h k = omega arith

    under : (top below height row : ℕ) → below + height + 10 ≤ row → top + below + height ≤ top + row - 10
    under top below height row h = omega arith

-- ---- what the mark of a fault hides
-- A line across a box of this shade, below the upper part of a mark and above the lower one.
crossed : (page : Page) (tone : ℕ) → 140 ≤ page.row_height → tone < 5
    → (max (below_top page tone) 30 < below_top page tone + height_of page tone) × (max (below_top page tone) 30 + 30 < page.row_height)
crossed page zero high low = (omega arith, omega arith)
crossed page (suc zero) high low = (omega arith, omega arith)
crossed page (suc (suc zero)) high low = (omega arith, omega arith)
crossed page (suc (suc (suc zero))) high low = (omega arith, omega arith)
crossed page (suc (suc (suc (suc zero)))) high low = (omega arith, omega arith)
crossed page (suc (suc (suc (suc (suc n))))) high low = absurd (omega arith)

pub fault_hides : FaultHidesNone
fault_hides table survey counts row begin left x low =
    let page : Page = page_of table survey counts in
    let tone : ℕ = x.shade in
    let high : 140 ≤ page.row_height = (height_is counts.garbled).0 in
    let line = crossed page tone high low in
    let found = seen (top_of page row) (below_top page tone) (height_of page tone) page.row_height line.0 line.1 in
    record { line = found.0; top = found.1; bottom = found.2; under = found.3; over = found.4 }
  where
    seen : (top below height row : ℕ) → max below 30 < below + height → max below 30 + 30 < row
        → (n : ℕ) × (top + below ≤ n) × (n < top + below + height) × (top + 30 ≤ n) × (n < top + row - 30)
    seen top below height row a b = (top + max below 30, omega arith, omega arith, omega arith, omega arith)

-- ---- three that are garbled
-- A slot lies above the next ones.
slots_apart : (page : Page) (top one other : ℕ) → 140 ≤ page.row_height → one < other → other < 3
    → top + below_top page (2 + one) + height_of page (2 + one) ≤ top + below_top page (2 + other)
slots_apart page top zero zero high less low = absurd (omega arith)
slots_apart page top zero (suc zero) high less low = omega arith
slots_apart page top zero (suc (suc zero)) high less low = omega arith
slots_apart page top (suc zero) zero high less low = absurd (omega arith)
slots_apart page top (suc zero) (suc zero) high less low = absurd (omega arith)
slots_apart page top (suc zero) (suc (suc zero)) high less low = omega arith
slots_apart page top (suc (suc one)) other high less low = absurd (omega arith)
slots_apart page top one (suc (suc (suc other))) high less low = absurd (omega arith)

either : (page : Page) (top one other : ℕ) → 140 ≤ page.row_height → one < 3 → other < 3 → one ≢ other
    → (top + below_top page (2 + one) + height_of page (2 + one) ≤ top + below_top page (2 + other))
    ⊎ (top + below_top page (2 + other) + height_of page (2 + other) ≤ top + below_top page (2 + one))
either page top one other high low other_low differ =
    elim (cases_lt one other) [
      | inl less ↦ inl (slots_apart page top one other high less other_low)
      | inr more ↦ inr (slots_apart page top other one high (omega (arith, differ)) low)
    ]

-- ---- a slot that is free
-- A terminal keeps its slot where that is free.
pub slots_kept : SlotsAreKept
slots_kept page begin earlier sent garbled free =
    let own : ℕ = lane_in page sent % 3 in
    let test : ℕ → Bool = is_free page begin earlier (left_of page begin sent) in
    ap (λ b. cond b (2 + slot_of page begin earlier sent) (lane_in page sent % 2)) garbled
    ∙ ap (λ b. 2 + cond b own (cond (test ((own + 1) % 3)) ((own + 1) % 3) (cond (test ((own + 2) % 3)) ((own + 2) % 3) own))) free

abbrev flag : Bool → ℕ
flag b = cond b 1 0

-- One more of this shade, which may reach behind a place, is counted once.
abbrev Grows : ℕ → Bool → Bool → Bool → Bool → Type 0
Grows tone t a b c =
    flag ((eqb tone 2 && t) || a) + flag ((eqb tone 3 && t) || b) + flag ((eqb tone 4 && t) || c)
    ≤ cond (leb 2 tone && t) 1 0 + (flag a + flag b + flag c)

one_more : (t a : Bool) (n : ℕ) → flag (t || a) + n ≤ cond t 1 0 + (flag a + n)
one_more true a n = omega arith
one_more false a n = omega arith

grows_two : (t a b c : Bool) → Grows 2 t a b c
grows_two t a b c = let h = one_more t a (flag b + flag c) in omega (arith, h)

grows_three : (t a b c : Bool) → Grows 3 t a b c
grows_three t a b c = let h = one_more t b (flag a + flag c) in omega (arith, h)

grows_four : (t a b c : Bool) → Grows 4 t a b c
grows_four t a b c = let h = one_more t c (flag a + flag b) in omega (arith, h)

grows_none : (p q r g t a b c : Bool) → p ≡ false → q ≡ false → r ≡ false
    → flag ((p && t) || a) + flag ((q && t) || b) + flag ((r && t) || c) ≤ cond (g && t) 1 0 + (flag a + flag b + flag c)
grows_none false false false g t a b c d e f = omega arith
grows_none true q r g t a b c d e f = absurd (true≢false d)
grows_none false true r g t a b c d e f = absurd (true≢false e)
grows_none false false true g t a b c d e f = absurd (true≢false f)

grows : (tone : ℕ) (t a b c : Bool) → Grows tone t a b c
grows tone t a b c =
    elim (cases_eq tone 2) [
      | inl two ↦ subst (λ n. Grows n t a b c) (sym two) (grows_two t a b c)
      | inr p ↦
          elim (cases_eq tone 3) [
            | inl three ↦ subst (λ n. Grows n t a b c) (sym three) (grows_three t a b c)
            | inr q ↦
                elim (cases_eq tone 4) [
                  | inl four ↦ subst (λ n. Grows n t a b c) (sym four) (grows_four t a b c)
                  | inr r ↦
                      grows_none (eqb tone 2) (eqb tone 3) (eqb tone 4) (leb 2 tone) t a b c (ne_eqb tone 2 p) (ne_eqb tone 3 q) (ne_eqb tone 4 r)
                ]
          ]
    ]

-- As many slots are reached behind a place as garbled ones reach there, at most.
slots_counted : (page : Page) (begin left : ℕ) (xs : List Shaded)
    → flag (is_reached page begin xs 2 (left + 1)) + flag (is_reached page begin xs 3 (left + 1)) + flag (is_reached page begin xs 4 (left + 1))
    ≤ count_by (reaches_behind page begin left) xs
slots_counted page begin left [] = omega arith
slots_counted page begin left (x ∷ xs) =
    let n : ℕ = cond (reaches_behind page begin left x) 1 0 in
    let both : count_by (reaches_behind page begin left) (x ∷ xs) ≡ n + count_by (reaches_behind page begin left) xs =
    sum_by-cons (λ y. cond (reaches_behind page begin left y) 1 0) x xs in
    let rest = slots_counted page begin left xs in
    let here = grows x.shade (leb (left + 1) (right_of page begin x.sent)) (is_reached page begin xs 2 (left + 1)) (is_reached page begin xs 3 (left + 1)) (is_reached page begin xs 4 (left + 1)) in
    omega (arith, both, rest, here)

-- The first of three that passes a test, where one does.
first_free : (free : ℕ → Bool) (a b c : Bool) (x y z : ℕ) → free x ≡ a → free y ≡ b → free z ≡ c → (a ≡ false → b ≡ false → c ≡ false → ⊥)
    → free (cond a x (cond b y (cond c z x))) ≡ true
first_free free true b c x y z d e f some = d
first_free free false true c x y z d e f some = e
first_free free false false true x y z d e f some = f
first_free free false false false x y z d e f some = absurd (some refl refl refl)

taken_free : (free : ℕ → Bool) (own : ℕ) → own < 3 → (free 0 ≡ false → free 1 ≡ false → free 2 ≡ false → ⊥) → free (free_slot free own) ≡ true
taken_free free zero low some = first_free free (free 0) (free 1) (free 2) 0 1 2 refl refl refl some
taken_free free (suc zero) low some = first_free free (free 1) (free 2) (free 0) 1 2 0 refl refl refl (λ b c a. some a b c)
taken_free free (suc (suc zero)) low some = first_free free (free 2) (free 0) (free 1) 2 0 1 refl refl refl (λ c a b. some a b c)
taken_free free (suc (suc (suc own))) low some = absurd (omega arith)

not_all : (a b c : Bool) (n : ℕ) → flag a + flag b + flag c ≤ n → n ≤ 2 → not a ≡ false → not b ≡ false → not c ≡ false → ⊥
not_all true true true n h few p q r = absurd (omega arith)
not_all false b c n h few p q r = true≢false p
not_all true false c n h few p q r = true≢false q
not_all true true false n h few p q r = true≢false r

unreached : (b : Bool) → not b ≡ true → b ≡ false
unreached true e = absurd (true≢false (sym e))
unreached false e = refl

-- Where few reach behind its beginning, nothing in its slot does.
slot_free : (page : Page) (begin : ℕ) (earlier : List Shaded) (sent : Sent) → sent.garbled ≡ true → AreFew page begin earlier sent
    → is_reached page begin earlier (shade page begin earlier sent) (left_of page begin sent + 1) ≡ false
slot_free page begin earlier sent garbled few =
    let left : ℕ = left_of page begin sent in
    let free : ℕ → Bool = is_free page begin earlier left in
    let own : ℕ = lane_in page sent % 3 in
    let counted = slots_counted page begin left earlier in
    let some = not_all (is_reached page begin earlier 2 (left + 1)) (is_reached page begin earlier 3 (left + 1)) (is_reached page begin earlier 4 (left + 1))
    (count_by (reaches_behind page begin left) earlier) counted few in
    let tone : shade page begin earlier sent ≡ 2 + slot_of page begin earlier sent =
    ap (λ b. cond b (2 + slot_of page begin earlier sent) (lane_in page sent % 2)) garbled in
    ap (λ n. is_reached page begin earlier n (left + 1)) tone
    ∙ unreached (is_reached page begin earlier (2 + slot_of page begin earlier sent) (left + 1)) (taken_free free own (omega arith) some)

pub three_kept : ThreeAreKept
three_kept page begin earlier sent garbled few =
    further page begin earlier (shade page begin earlier sent) (left_of page begin sent + 1) (right_of page begin sent) (omega arith)
    (slot_free page begin earlier sent garbled few)

ends_before : (page : Page) (begin : ℕ) (xs : List Shaded) (other : Shaded) (tone right : ℕ) → In other xs → other.shade ≡ tone
    → is_reached page begin xs tone right ≡ false → right_of page begin other.sent < right
ends_before page begin [] other tone right i is none = absurd i
ends_before page begin (x ∷ xs) other tone right (inl same) is none =
    let here : (eqb other.shade tone && leb right (right_of page begin other.sent)) ≡ false =
    ap (λ (y : Shaded). eqb y.shade tone && leb right (right_of page begin y.sent)) same
    ∙ or_none (eqb x.shade tone && leb right (right_of page begin x.sent)) (is_reached page begin xs tone right) none in
    leb-false right (right_of page begin other.sent)
    (sym (ap (λ b. b && leb right (right_of page begin other.sent)) (eq-eqb other.shade tone is)) ∙ here)
  where
    or_none : (a b : Bool) → (a || b) ≡ false → a ≡ false
    or_none true b e = absurd (true≢false e)
    or_none false b e = refl
ends_before page begin (x ∷ xs) other tone right (inr i) is none =
    ends_before page begin xs other tone right i is (or_rest (eqb x.shade tone && leb right (right_of page begin x.sent)) (is_reached page begin xs tone right) none)
  where
    or_rest : (a b : Bool) → (a || b) ≡ false → b ≡ false
    or_rest true b e = absurd (true≢false e)
    or_rest false b e = e

apart_from : (page : Page) (row begin : ℕ) (other own : Shaded) (a b : ℕ) → 140 ≤ page.row_height → other.shade ≡ 2 + a → own.shade ≡ 2 + b → a < 3 → b < 3 → a ≢ b
    → LieApart (area_of page row begin other) (area_of page row begin own)
apart_from page row begin other own a b high is_a is_b low_a low_b differ =
    let found = either page (top_of page row) a b high low_a low_b differ in
    let LiesOver : ℕ → ℕ → Type 0 = λ m n. top_of page row + below_top page m + height_of page m ≤ top_of page row + below_top page n in
    elim found [
      | inl over ↦ inl (subst (λ m. LiesOver m own.shade) (sym is_a) (subst (λ n. LiesOver (2 + a) n) (sym is_b) over))
      | inr under ↦ inr (inl (subst (λ m. LiesOver own.shade m) (sym is_a) (subst (λ n. LiesOver n (2 + a)) (sym is_b) under)))
    ]

pub lie_apart : ThreeLieApart
lie_apart table survey counts row begin earlier other sent garbled i some low few =
    let page : Page = page_of table survey counts in
    let own : Shaded = shaded page begin earlier sent in
    let high : 140 ≤ page.row_height = (height_is counts.garbled).0 in
    let free = slot_free page begin earlier sent garbled few in
    let slot : ℕ = slot_of page begin earlier sent in
    let tone : own.shade ≡ 2 + slot = ap (λ b. cond b (2 + slot) (lane_in page sent % 2)) garbled in
    let slot_is : slot < 3 = slot_low (is_free page begin earlier (left_of page begin sent)) (lane_in page sent % 3) (omega arith) in
    elim (cases_eq other.shade own.shade) [
      | inl same ↦
          let before : right_of page begin other.sent < left_of page begin sent + 1 =
          ends_before page begin earlier other own.shade (left_of page begin sent + 1) i same free in
          inr (inr (omega (arith, before)))
      | inr differ ↦
          let two : other.shade ≡ 2 + (other.shade - 2) = omega arith in
          apart_from page row begin other own (other.shade - 2) slot high two tone (omega arith) slot_is
          (λ e. differ (two ∙ ap (λ n. 2 + n) e ∙ sym tone))
    ]
