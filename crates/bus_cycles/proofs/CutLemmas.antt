-- Rows that are cut are drawn open, and whole ones have all of their cycle.
use Rattle.std.proofs.Common.{◌≡◌, ◌≢◌, ◌↔◌, ℕ, ◌+◌, ◌-◌, ◌*◌, ◌/◌, ◌<◌, ◌≤◌, Bool, true, false, cond, ltb, leb, max, fold, List, [], ◌∷◌, ◌++◌, length, inl, inr, arith, sym, refl, ap, ◌∙◌}
use Rattle.std.specs.Prelude.{codes, decimal, not}
use Rattle.std.specs.List.{AllByRecursion}
use Rattle.std.proofs.lemmas.Bool.{and_parts, leb-true, ltb-true, ltb-false}
use Rattle.bus_strings.specs.Members.{In}
use Rattle.bus_strings.proofs.MemberLaws.{of_each}
use Rattle.bus_table.proofs.ValidLaws.{valid_facts}
use Rattle.bus_pen.specs.declared.area.Area.{Area}
use Rattle.bus_pen.specs.declared.class.Class.{Class}
use Rattle.bus_pen.specs.declared.class.Class.TheVariants.{Unobserved}
use Rattle.bus_pen.specs.Classes.{class_name}
use Rattle.bus_pen.specs.Shapes.{titled_end, titled_text}
use Rattle.bus_pen.specs.Laws.{PlacesLieWithin, PlacesRise}
use Rattle.bus_pen.specs.Scales.{place}
use Rattle.bus_shapes.specs.declared.sent.Sent.{Sent}
use Rattle.bus_cycles.specs.Cuts.{is_cut_before, is_cut_before_in, is_cut_behind, is_cut_behind_in}
use Rattle.bus_cycles.specs.Laws.{CutAreOpen, OpenHidesNone, WholeAreSeen}
use Rattle.bus_cycles.specs.Pages.{Page, page_of}
use Rattle.bus_cycles.specs.Rows.{Cycle, Row, cycle_of, end_of_all, extent_of, is_fresh, is_new, row_at, rows, rows_from, rows_of, with_sent}
use Rattle.bus_cycles.specs.RowTexts.{before_area, behind_area, pixel}
use Rattle.bus_cycles.specs.Sents.{shown}
use Rattle.bus_cycles.proofs.WordLemmas.{pixel_rises}

-- ---- open where cut
-- a text that is some is drawn exactly where it is
pub drawn_where : (b : Bool) (text : List ℕ) → text ≢ [] → (cond b text [] ≢ []) ↔ (b ≡ true)
drawn_where true text some = (λ h. refl, λ h. some)
drawn_where false text some = (λ h. absurd (h refl), λ h. absurd cc)

-- a text whose front is some
front_some : (a b c d e f g h i j k l m n : List ℕ) → 0 < length a → a ++ b ++ c ++ d ++ e ++ f ++ g ++ h ++ i ++ j ++ k ++ l ++ m ++ n ≢ []
front_some [] b c d e f g h i j k l m n some = absurd (omega arith)
front_some (x ∷ xs) b c d e f g h i j k l m n some = λ q. absurd cc

box_is_some : (class : Class) (area : Area) (words : List ℕ) → titled_text class area words ≢ []
box_is_some class area words =
    front_some (codes "<rect class=\"") (class_name class) (codes "\" x=\"") (decimal area.left) (codes "\" y=\"") (decimal area.top)
    (codes "\" width=\"") (decimal area.width) (codes "\" height=\"") (decimal area.height) (codes "\"") (codes "><title>") words titled_end
    (omega arith)

pub open_where_cut : CutAreOpen
open_where_cut page row = (
  drawn_where (is_cut_before page.cycle page.seen row) _ (box_is_some Unobserved (before_area page row.place) _),
  drawn_where (is_cut_behind page.cycle page.seen row) _ (box_is_some Unobserved (behind_area page row) _),
)

-- ---- what that hides
ends_within : (sents : List Sent) (sent : Sent) (so_far : ℕ) → In sent sents → sent.end ≤ fold (λ end (s : Sent). max end s.end) so_far sents
ends_within [] sent so_far i = absurd i
ends_within (x ∷ xs) sent so_far (inl same) =
    let end_is : sent.end ≡ x.end = ap (λ (s : Sent). s.end) same in
    let more : max so_far x.end ≤ fold (λ end (s : Sent). max end s.end) (max so_far x.end) xs = so_far_within xs (max so_far x.end) in
    omega arith
  where
    so_far_within : (ys : List Sent) (n : ℕ) → n ≤ fold (λ end (s : Sent). max end s.end) n ys
    so_far_within [] n = omega arith
    so_far_within (y ∷ ys) n =
        let rest : max n y.end ≤ fold (λ end (s : Sent). max end s.end) (max n y.end) ys = so_far_within ys (max n y.end) in
        omega arith
ends_within (x ∷ xs) sent so_far (inr i) = ends_within xs sent (max so_far x.end) i

pub open_hides_none : PlacesRise → PlacesLieWithin → OpenHidesNone
open_hides_none rise within table survey counts row x is one order =
    let page : Page = page_of table survey counts in
    let sent : Sent = x.sent in
    let end : sent.end ≤ end_of_all row.sents = ends_within row.sents sent 0 one in
    let last : ℕ = max (end_of_all row.sents) page.seen.to in
    let first : pixel page row.begin sent.moment ≤ pixel page row.begin sent.end = pixel_rises page row.begin sent.moment sent.end rise is order in
    let ends : pixel page row.begin sent.end ≤ pixel page row.begin last = pixel_rises page row.begin sent.end last rise is (omega arith) in
    let left : 1500 ≤ place page.scale (sent.moment + page.cycle.origin_offset - row.begin) = (within page.scale (sent.moment + page.cycle.origin_offset - row.begin) is).0 in
    (tens (place page.scale (sent.moment + page.cycle.origin_offset - row.begin)) left, behind (pixel page row.begin sent.moment) (pixel page row.begin sent.end) (pixel page row.begin last) first ends)
  where
    tens : (n : ℕ) → 1500 ≤ n → 1450 + 40 ≤ n / 10 * 10
    tens n h = omega arith

    behind : (a b c : ℕ) → a ≤ b → b ≤ c → a + (max b (a + 10) - a) ≤ c + 10
    behind a b c h k = omega arith

-- ---- a whole row has its cycle
-- a row knows whether its first transmission is seen to begin a cycle
pub record IsFresh (cycle : Cycle) (row : Row) : Type 0 where
  pub first : Sent
  pub others : List Sent
  pub sents_are : row.sents ≡ first ∷ others
  pub fresh_is : row.fresh ≡ is_fresh cycle first

fresh_at : (cycle : Cycle) (place : ℕ) (sent : Sent) → IsFresh cycle (row_at cycle place sent)
fresh_at cycle place sent = record { first = sent; others = []; sents_are = refl; fresh_is = refl }

fresh_with : (cycle : Cycle) (row : Row) (sent : Sent) → IsFresh cycle row → IsFresh cycle (with_sent row sent)
fresh_with cycle row sent is = record {
  first = is.first;
  others = is.others ++ sent ∷ [];
  sents_are = ap (λ l. l ++ sent ∷ []) is.sents_are;
  fresh_is = is.fresh_is;
}

fresh_step : (cycle : Cycle) (row : Row) (new more : List Row) (b : Bool) → IsFresh cycle row → AllByRecursion (IsFresh cycle) new
    → AllByRecursion (IsFresh cycle) more → AllByRecursion (IsFresh cycle) (cond b (row ∷ new) more)
fresh_step cycle row new more true is n m = (is, n)
fresh_step cycle row new more false is n m = m

fresh_from : (cycle : Cycle) (row : Row) (xs : List Sent) → IsFresh cycle row → AllByRecursion (IsFresh cycle) (rows_from cycle row xs)
fresh_from cycle row [] is = (is, tt)
fresh_from cycle row (x ∷ xs) is =
    fresh_step cycle row (rows_from cycle (row_at cycle (row.place + 1) x) xs) (rows_from cycle (with_sent row x) xs) (is_new cycle row.begin x) is
    (fresh_from cycle (row_at cycle (row.place + 1) x) xs (fresh_at cycle (row.place + 1) x)) (fresh_from cycle (with_sent row x) xs (fresh_with cycle row x is))

fresh_of : (cycle : Cycle) (xs : List Sent) → AllByRecursion (IsFresh cycle) (rows_of cycle xs)
fresh_of cycle [] = tt
fresh_of cycle (x ∷ xs) = fresh_from cycle (row_at cycle 0 x) xs (fresh_at cycle 0 x)

same_first : (one other : Sent) (xs ys : List Sent) → one ∷ xs ≡ other ∷ ys → one ≡ other
same_first one other xs ys e = cc

pub whole_seen : WholeAreSeen
whole_seen table window list seen row first others valid mode i parts whole =
    let facts = valid_facts table valid in
    let gap : 9 ≤ table.sg = facts.sg_least in
    let cycle : Cycle = cycle_of table in
    let is : IsFresh cycle row = of_each (IsFresh cycle) (rows table window list) (fresh_of cycle (shown window list)) row i in
    let same : is.first ≡ first = same_first is.first first is.others others (sym is.sents_are ∙ parts) in
    let both = and_parts (not (is_cut_before cycle seen (extent_of row))) (not (is_cut_behind cycle seen (extent_of row))) whole in
    let before : not (not row.fresh) ≡ true = sym (ap (λ m. not (is_cut_before_in m cycle seen (extent_of row))) mode) ∙ both.0 in
    let behind : not (ltb seen.to (end_of_all row.sents + table.sg)) ≡ true = sym (ap (λ m. not (is_cut_behind_in m cycle seen (extent_of row))) mode) ∙ both.1 in
    let fresh : is_fresh cycle first ≡ true = ap (is_fresh cycle) (sym same) ∙ sym is.fresh_is ∙ twice row.fresh before in
    let tests = and_parts (ltb 0 first.before) (leb table.sg (first.moment - first.before)) fresh in
    let some : 0 < first.before = ltb-true 0 first.before tests.0 in
    let wide : table.sg ≤ first.moment - first.before = leb-true table.sg (first.moment - first.before) tests.1 in
    let over : end_of_all row.sents + table.sg ≤ seen.to = ltb-false seen.to (end_of_all row.sents + table.sg) (once (ltb seen.to (end_of_all row.sents + table.sg)) behind) in
    (some, far first.before table.sg first.moment gap wide, over)
  where
    twice : (b : Bool) → not (not b) ≡ true → b ≡ true
    twice true e = refl
    twice false e = absurd cc

    once : (b : Bool) → not b ≡ true → b ≡ false
    once true e = absurd cc
    once false e = refl

    far : (before gap moment : ℕ) → 9 ≤ gap → gap ≤ moment - before → before + gap ≤ moment
    far before gap moment least wide = omega arith
