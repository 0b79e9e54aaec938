-- Each sender is marked where it is due, and each row names its ends.
use Rattle.std.proofs.Common.{◌≡◌, ◌↔◌, ℕ, suc, ◌+◌, ◌-◌, ◌*◌, ◌/◌, ◌<◌, ◌≤◌, Bool, true, false, cond, ltb, Some, inl, inr, List, [], ◌∷◌, ◌++◌, arith, sym, refl, ap, subst, ◌∙◌}
use Rattle.std.specs.Prelude.{slice_get, ⊤}
use Rattle.std.specs.List.{AllByRecursion}
use Rattle.std.proofs.lemmas.Bool.{ltb-true, ltb-false, ne_eqb, lt-ltb, le-ltb}
use Rattle.std.proofs.lemmas.Nat.{le-div}
use Rattle.std.proofs.Math.Nat.{div-mul-le_self}
use Rattle.std.proofs.lemmas.List.Sums.{count_by-le-length, sum_by-cons}
use Rattle.bus_strings.specs.Members.{In}
use Rattle.bus_strings.proofs.MemberLaws.{of_each}
use Rattle.bus_table.specs.declared.mode.Mode.TheVariants.{Periodic}
use Rattle.bus_table.specs.Tables.{Sender, Table}
use Rattle.bus_table.specs.Timers.{due_for, due_of}
use Rattle.bus_pen.specs.declared.class.Class.TheVariants.{Tick}
use Rattle.bus_shapes.specs.declared.sent.Sent.{Sent}
use Rattle.bus_pen.specs.Scales.{place}
use Rattle.bus_pen.specs.Shapes.{box_text}
use Rattle.bus_audit.specs.Breaches.{held}
use Rattle.bus_table.proofs.ValidLaws.{valid_facts}
use Rattle.bus_cycles.specs.CyclesTexts.{begins}
use Rattle.bus_cycles.specs.Dues.{begins_in, begins_of, due_line, due_over, due_rows, due_text, dues_text, is_due_at}
use Rattle.bus_cycles.specs.Laws.{Ascend, EndsAreNamed, IsPartOf}
use Rattle.bus_cycles.specs.PictureLaws.{BoxesBeginWhereDue, DuesAreMarked}
use Rattle.bus_cycles.specs.Surveys.{is_drawn}
use Rattle.bus_cycles.proofs.AscendLemmas.{rows_ascend}
use Rattle.bus_cycles.proofs.BeginLemmas.{begins_cons}
use Rattle.bus_cycles.proofs.CycleLemmas.{numbered}
use Rattle.bus_cycles.specs.Pages.{Page, page_of}
use Rattle.bus_cycles.specs.Rows.{Cycle, Row, cycle_of, is_new, row_at, rows, rows_from, rows_of, with_sent}
use Rattle.bus_cycles.specs.Sents.{shown}
use Rattle.bus_cycles.proofs.MarkedLemmas.{part_of}
use Rattle.bus_cycles.proofs.RowLemmas.{no_origin_offset}

-- ---- offsets
due_is : (table : Table) (sender : Sender) → table.mode ≡ Periodic → due_of table sender ≡ sender.at
due_is table sender mode = ap (λ m. due_for m sender) mode

-- rows that are numbered from a place on
abbrev Numbered : ℕ → List Row → Type 0
Numbered p [] = ⊤
Numbered p (r ∷ rs) = (r.place ≡ p) × Numbered (p + 1) rs

from_numbers : (list : List Row) (p : ℕ) → ((k : ℕ) (row : Row) → slice_get list k ≡ Some row → row.place ≡ p + k) → Numbered p list
from_numbers [] p h = tt
from_numbers (r ∷ rs) p h =
    let here : r.place ≡ p + 0 = h 0 r refl in
    (omega arith, from_numbers rs (p + 1) (λ k row e. let at : row.place ≡ p + suc k = h (suc k) row e in omega arith))

-- none of them has an earlier place
least_place : (list : List Row) (p : ℕ) (row : Row) → Numbered p list → In row list → p ≤ row.place
least_place [] p row n i = absurd i
least_place (r ∷ rs) p row n (inl same) = let at : row.place ≡ p = ap (λ (y : Row). y.place) same ∙ n.0 in omega arith
least_place (r ∷ rs) p row n (inr i) = let later : p + 1 ≤ row.place = least_place rs (p + 1) row n.1 i in omega arith

-- a quotient doesn't fall as what is divided rises
quotient_rises : (a b k : ℕ) → 0 < k → a ≤ b → a / k ≤ b / k
quotient_rises a b k some rise = let most : a / k * k ≤ a = div-mul-le_self a k in le-div (a / k) b k some (omega arith)

-- how many rows are due, with one row before them
abbrev due_at : ℕ → ℕ → Row → Bool
due_at ti holds row = ltb (row.begin / ti) holds

abbrev due_count : ℕ → ℕ → List Row → ℕ
due_count ti holds list = due_rows ti holds (begins_of list)

count_cons : (ti holds : ℕ) (r : Row) (rs : List Row)
    → due_count ti holds (r ∷ rs) ≡ cond (is_drawn r.place) (cond (due_at ti holds r) 1 0 + due_count ti holds rs) (due_count ti holds rs)
count_cons ti holds r rs =
    ap (due_rows ti holds) (begins_cons r rs)
    ∙ (elim (is_drawn r.place) as (λ b. due_rows ti holds (cond b (r.begin ∷ []) [] ++ begins_of rs) ≡ cond b (cond (due_at ti holds r) 1 0 + due_count ti holds rs) (due_count ti holds rs)) [
      | true ↦ sum_by-cons (λ b. cond (is_due_at ti holds b) 1 0) r.begin (begins_of rs)
      | false ↦ refl
    ])

none_later : (ti holds b : ℕ) (list : List Row) → 0 < ti → ltb (b / ti) holds ≡ false → AllByRecursion (λ (next : Row). b < next.begin) list → due_count ti holds list ≡ 0
none_later ti holds b [] some over later = refl
none_later ti holds b (r ∷ rs) some over later =
    let low : b < r.begin = later.0 in
    let rises : b / ti ≤ r.begin / ti = quotient_rises b r.begin ti some (omega arith) in
    let past : holds ≤ b / ti = ltb-false (b / ti) holds over in
    let here : due_at ti holds r ≡ false = le-ltb (r.begin / ti) holds (omega arith) in
    let rest : due_count ti holds rs ≡ 0 = none_later ti holds b rs some over later.1 in
    count_cons ti holds r rs ∙ ap (λ t. cond (is_drawn r.place) (cond t 1 0 + due_count ti holds rs) (due_count ti holds rs)) here ∙ nothing (is_drawn r.place) (due_count ti holds rs) rest
  where
    nothing : (t : Bool) (n : ℕ) → n ≡ 0 → cond t (0 + n) n ≡ 0
    nothing true n e = omega arith
    nothing false n e = e

-- those in which a start is due are the first of them
are_first : (ti holds : ℕ) (list : List Row) (p : ℕ) → 0 < ti → Numbered p list → Ascend list → (row : Row) → In row list → is_drawn row.place ≡ true
    → (row.begin / ti < holds) ↔ (row.place < p + due_count ti holds list)
are_first ti holds [] p some n up row i drawn = absurd i
are_first ti holds (r ∷ rs) p some n up row i drawn = by_case (due_at ti holds r) refl i (λ j. are_first ti holds rs (p + 1) some n.1 up.1 row j drawn)
  where
    rest : ℕ
    rest = due_count ti holds rs

    r_place : r.place ≡ p
    r_place = n.0

    least : p ≤ row.place
    least = least_place (r ∷ rs) p row n i

    r_drawn : is_drawn r.place ≡ true
    r_drawn = let low : row.place < 500 = ltb-true row.place 500 drawn in lt-ltb r.place 500 (omega (arith, r_place, least))

    count : (b : Bool) → due_at ti holds r ≡ b → due_count ti holds (r ∷ rs) ≡ cond b 1 0 + rest
    count b e = count_cons ti holds r rs ∙ ap (λ t. cond t (cond (due_at ti holds r) 1 0 + rest) rest) r_drawn ∙ ap (λ t. cond t 1 0 + rest) e

    by_case : (b : Bool) → due_at ti holds r ≡ b → In row (r ∷ rs) → (In row rs → (row.begin / ti < holds) ↔ (row.place < p + 1 + rest))
        → (row.begin / ti < holds) ↔ (row.place < p + due_count ti holds (r ∷ rs))
    by_case true e (inl same) next =
        let counted : due_count ti holds (r ∷ rs) ≡ 1 + rest = count true e in
        let at : row.place ≡ p = ap (λ (y : Row). y.place) same ∙ r_place in
        let due : row.begin / ti < holds = subst (λ (y : Row). y.begin / ti < holds) (sym same) (ltb-true (r.begin / ti) holds e) in
        (λ h. omega (arith, counted, at), λ h. due)
    by_case true e (inr j) next =
        let counted : due_count ti holds (r ∷ rs) ≡ 1 + rest = count true e in
        let later = next j in
        (λ h. let less : row.place < p + 1 + rest = later.0 h in omega (arith, less, counted), λ h. later.1 (omega (arith, h, counted)))
    by_case false e (inl same) next =
        let none : rest ≡ 0 = none_later ti holds r.begin rs some e up.0 in
        let counted : due_count ti holds (r ∷ rs) ≡ 0 + rest = count false e in
        let over : holds ≤ row.begin / ti = subst (λ (y : Row). holds ≤ y.begin / ti) (sym same) (ltb-false (r.begin / ti) holds e) in
        (λ h. absurd (omega (arith, h, over)), λ h. absurd (omega (arith, h, counted, none, least)))
    by_case false e (inr j) next =
        let none : rest ≡ 0 = none_later ti holds r.begin rs some e up.0 in
        let counted : due_count ti holds (r ∷ rs) ≡ 0 + rest = count false e in
        let low : r.begin < row.begin = of_each (λ (next : Row). r.begin < next.begin) rs up.0 row j in
        let rises : r.begin / ti ≤ row.begin / ti = quotient_rises r.begin row.begin ti some (omega (arith, low)) in
        let over : holds ≤ r.begin / ti = ltb-false (r.begin / ti) holds e in
        (λ h. absurd (omega (arith, h, over, rises)), λ h. absurd (omega (arith, h, counted, none, least)))

pub dues_marked : DuesAreMarked
dues_marked table window trace survey counts sender valid is mode one =
    let page : Page = page_of table survey counts in
    let list : List Row = rows table window trace.list in
    let holds : ℕ = held trace.holds sender.number in
    let moments : List ℕ = begins window table trace in
    let moments_are : moments ≡ begins_of list = ap (λ m. begins_in m list) mode in
    let count : ℕ = due_rows table.ti holds moments in
    let counted : count ≡ due_count table.ti holds list = ap (due_rows table.ti holds) moments_are in
    let count_is : count ≡ 0 + due_count table.ti holds list = omega (arith, counted) in
    let some : 0 < table.ti = (let f = valid_facts table valid in omega (arith, f.ti_least)) in
    let places : Numbered 0 list = from_numbers list 0 (λ k row e. let at : row.place ≡ k = numbered table window trace.list k row e in omega (arith, at)) in
    let part : IsPartOf (due_text page trace.holds moments sender) (dues_text page table trace.holds moments) =
    part_of (due_text page trace.holds moments) table.senders sender one in
    record {
      count = count;
      rows_are = λ row i drawn.
          subst (λ n. (row.begin / table.ti < holds) ↔ (row.place < n)) (sym count_is)
          (are_first table.ti holds list 0 some places (rows_ascend table window trace valid is) row i drawn);
      few = count_by-le-length (is_due_at table.ti holds) moments;
      own = λ more.
          subst (λ at. due_text page trace.holds moments sender ≡ box_text Tick (due_line page at count)) (sym (due_is table sender mode))
          (drawn_over page sender.at count more);
      part = part;
      none = λ none. ap (λ n. due_over page sender.at n) none;
    }
  where
    drawn_over : (page : Page) (at n : ℕ) → 0 < n → due_over page at n ≡ box_text Tick (due_line page at n)
    drawn_over page at n more = ap (λ b. cond b [] (box_text Tick (due_line page at n))) (ne_eqb n 0 (λ e. omega arith))

pub begin_where_due : BoxesBeginWhereDue
begin_where_due table survey counts sender begin lines sent mode at =
    let page : Page = page_of table survey counts in
    let none : (cycle_of table).origin_offset ≡ 0 = no_origin_offset table mode in
    let since : sent.moment + (cycle_of table).origin_offset - begin ≡ due_of table sender = behind sent.moment (cycle_of table).origin_offset begin (due_of table sender) none at in
    ap (λ n. place page.scale n / 10 * 10) since
  where
    behind : (moment origin_offset begin due : ℕ) → origin_offset ≡ 0 → moment ≡ begin + due → moment + origin_offset - begin ≡ due
    behind moment origin_offset begin due e f = omega arith

-- ---- ends
record IsNamed (row : Row) : Type 0 where
  first : (head : Sent) (back : List Sent) → row.sents ≡ head ∷ back → row.first ≡ head.terminal
  last : (front : List Sent) (end : Sent) → row.sents ≡ front ++ end ∷ [] → row.last ≡ end.terminal
  head : Sent
  back : List Sent
  sents_are : row.sents ≡ head ∷ back

last_same : (xs ys : List Sent) (x y : Sent) → xs ++ x ∷ [] ≡ ys ++ y ∷ [] → x ≡ y
last_same [] [] x y e = cc
last_same [] (b ∷ []) x y e = absurd cc
last_same [] (b ∷ (c ∷ cs)) x y e = absurd cc
last_same (a ∷ []) [] x y e = absurd cc
last_same (a ∷ (c ∷ cs)) [] x y e = absurd cc
last_same (a ∷ us) (b ∷ vs) x y e = let rest : us ++ x ∷ [] ≡ vs ++ y ∷ [] = cc in last_same us vs x y rest

named_at : (cycle : Cycle) (place : ℕ) (sent : Sent) → IsNamed (row_at cycle place sent)
named_at cycle place sent = record {
  first = λ head back e. ap (λ (s : Sent). s.terminal) (let same : sent ≡ head = cc in same);
  last = λ front end e. ap (λ (s : Sent). s.terminal) (last_same [] front sent end e);
  head = sent;
  back = [];
  sents_are = refl;
}

named_with : (row : Row) (sent : Sent) → IsNamed row → IsNamed (with_sent row sent)
named_with row sent is =
    let parts : row.sents ++ sent ∷ [] ≡ is.head ∷ (is.back ++ sent ∷ []) = ap (λ l. l ++ sent ∷ []) is.sents_are in
    record {
      first = λ head back e.
          let both : is.head ∷ (is.back ++ sent ∷ []) ≡ head ∷ back = sym parts ∙ e in
          let same : is.head ≡ head = cc in
          is.first is.head is.back is.sents_are ∙ ap (λ (s : Sent). s.terminal) same;
      last = λ front end e. ap (λ (s : Sent). s.terminal) (last_same row.sents front sent end e);
      head = is.head;
      back = is.back ++ sent ∷ [];
      sents_are = parts;
    }

named_step : (row : Row) (new more : List Row) (b : Bool) → IsNamed row → AllByRecursion IsNamed new → AllByRecursion IsNamed more
    → AllByRecursion IsNamed (cond b (row ∷ new) more)
named_step row new more true is n m = (is, n)
named_step row new more false is n m = m

named_from : (cycle : Cycle) (row : Row) (xs : List Sent) → IsNamed row → AllByRecursion IsNamed (rows_from cycle row xs)
named_from cycle row [] is = (is, tt)
named_from cycle row (x ∷ xs) is =
    named_step row (rows_from cycle (row_at cycle (row.place + 1) x) xs) (rows_from cycle (with_sent row x) xs) (is_new cycle row.begin x) is
    (named_from cycle (row_at cycle (row.place + 1) x) xs (named_at cycle (row.place + 1) x)) (named_from cycle (with_sent row x) xs (named_with row x is))

named_of : (cycle : Cycle) (xs : List Sent) → AllByRecursion IsNamed (rows_of cycle xs)
named_of cycle [] = tt
named_of cycle (x ∷ xs) = named_from cycle (row_at cycle 0 x) xs (named_at cycle 0 x)

pub ends_named : EndsAreNamed
ends_named table window list row front back first last i head end =
    let is : IsNamed row = of_each IsNamed (rows table window list) (named_of (cycle_of table) (shown window list)) row i in
    (is.first first back head, is.last front last end)
