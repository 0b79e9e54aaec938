-- What is left out of a row is covered.
use Rattle.std.proofs.Common.{◌≡◌, ℕ, ◌+◌, ◌-◌, ◌*◌, ◌/◌, ◌<◌, ◌≤◌, Bool, true, false, ◌&&◌, ◌||◌, eqb, leb, List, [], ◌∷◌, ◌++◌, inl, inr, arith, sym, refl, ap, subst, ◌∙◌, append_assoc, append-nil}
use Rattle.std.specs.List.{AllByRecursion, flat_map}
use Rattle.std.proofs.lemmas.Bool.{and_parts, eqb-true, leb-true, leb-false, lt-leb, true≢false}
use Rattle.bus_strings.proofs.MemberLaws.{in_append_right, of_each}
use Rattle.bus_strings.specs.Members.{In}
use Rattle.bus_pen.specs.Laws.{PlacesRise}
use Rattle.bus_pen.specs.Scales.{IsScale, place}
use Rattle.bus_shapes.specs.declared.sent.Sent.{Sent}
use Rattle.bus_shapes.specs.Sending.{sents}
use Rattle.bus_cycles.specs.Laws.{LeftOutAreCovered}
use Rattle.bus_cycles.specs.Pages.{Page}
use Rattle.bus_cycles.specs.Rows.{Row, rows}
use Rattle.bus_cycles.specs.RowTexts.{Shaded, all_shaded, is_reached, left_of, right_of, shade, shaded}
use Rattle.bus_cycles.specs.Sents.{is_shown, shown}
use Rattle.bus_cycles.proofs.AscendLemmas.{Chain, IsBehind, chain, chain_filtered}
use Rattle.bus_cycles.proofs.DrawLemmas.{all_shaded_more, reached_more}
use Rattle.bus_cycles.proofs.RowLemmas.{partition}

-- ---- the transmissions of a row are in order
chain_right : (xs ys : List Sent) → Chain (xs ++ ys) → Chain ys
chain_right [] ys h = h
chain_right (x ∷ xs) ys h = chain_right xs ys h.1

all_left : (m : ℕ) (xs ys : List Sent) → AllByRecursion (IsBehind m) (xs ++ ys) → AllByRecursion (IsBehind m) xs
all_left m [] ys h = tt
all_left m (x ∷ xs) ys h = (h.0, all_left m xs ys h.1)

chain_left : (xs ys : List Sent) → Chain (xs ++ ys) → Chain xs
chain_left [] ys h = tt
chain_left (x ∷ xs) ys h = (all_left x.moment xs ys h.0, chain_left xs ys h.1)

chain_row : (rs : List Row) (row : Row) → Chain (flat_map (λ (r : Row). r.sents) rs) → In row rs → Chain row.sents
chain_row [] row h i = absurd i
chain_row (r ∷ rs) row h (inl same) = subst (λ (y : Row). Chain y.sents) (sym same) (chain_left r.sents (flat_map (λ (r : Row). r.sents) rs) h)
chain_row (r ∷ rs) row h (inr i) = chain_row rs row (chain_right r.sents (flat_map (λ (r : Row). r.sents) rs) h) i

in_order : (front back later : List Sent) (other sent : Sent) → Chain ((front ++ other ∷ back) ++ sent ∷ later) → other.moment ≤ sent.moment
in_order front back later other sent h =
    let parts : Chain (front ++ other ∷ (back ++ sent ∷ later)) = subst Chain (append_assoc front (other ∷ back) (sent ∷ later)) h in
    let behind : Chain (other ∷ (back ++ sent ∷ later)) = chain_right front (other ∷ (back ++ sent ∷ later)) parts in
    let one : IsBehind other.moment sent =
    of_each (IsBehind other.moment) (back ++ sent ∷ later) behind.0 sent (in_append_right back (sent ∷ later) sent (inl refl)) in
    one.moment

left_rises : (page : Page) (begin : ℕ) (other sent : Sent) → PlacesRise → IsScale page.scale → other.moment ≤ sent.moment
    → left_of page begin other ≤ left_of page begin sent
left_rises page begin other sent rise is order =
    let origin_offset : ℕ = page.cycle.origin_offset in
    let places : place page.scale (other.moment + origin_offset - begin) ≤ place page.scale (sent.moment + origin_offset - begin) =
    rise page.scale (other.moment + origin_offset - begin) (sent.moment + origin_offset - begin) is (omega arith) in
    tens (place page.scale (other.moment + origin_offset - begin)) (place page.scale (sent.moment + origin_offset - begin)) places
  where
    tens : (a b : ℕ) → a ≤ b → a / 10 * 10 ≤ b / 10 * 10
    tens a b h = omega arith

-- ---- the first that has a shade and reaches as far
pub record IsFirst (page : Page) (begin : ℕ) (whole : List Sent) (tone right : ℕ) : Type 0 where
  pub front : List Sent
  pub other : Sent
  pub back : List Sent
  pub whole_is : whole ≡ front ++ other ∷ back
  pub stays : is_reached page begin (all_shaded page begin [] front) tone (right_of page begin other) ≡ false
  pub same : shade page begin (all_shaded page begin [] front) other ≡ tone
  pub reaches : right ≤ right_of page begin other

pub further : (page : Page) (begin : ℕ) (xs : List Shaded) (tone near far : ℕ) → near ≤ far → is_reached page begin xs tone near ≡ false
    → is_reached page begin xs tone far ≡ false
further page begin [] tone near far h e = refl
further page begin (x ∷ xs) tone near far h e =
    let parts = or_none (eqb x.shade tone && leb near (right_of page begin x.sent)) (is_reached page begin xs tone near) e in
    both_none (eqb x.shade tone && leb far (right_of page begin x.sent)) (is_reached page begin xs tone far)
    (one (eqb x.shade tone) (right_of page begin x.sent) parts.0) (further page begin xs tone near far h parts.1)
  where
    or_none : (a b : Bool) → (a || b) ≡ false → (a ≡ false) × (b ≡ false)
    or_none true b e = absurd (true≢false e)
    or_none false b e = (refl, e)

    both_none : (a b : Bool) → a ≡ false → b ≡ false → (a || b) ≡ false
    both_none a b p q = cc

    one : (t : Bool) (right : ℕ) → (t && leb near right) ≡ false → (t && leb far right) ≡ false
    one true right e = let short : right < near = leb-false near right e in lt-leb far right (omega arith)
    one false right e = refl

first_step : (page : Page) (begin : ℕ) (front : List Sent) (x : Sent) (xs : List Sent) (tone right : ℕ) (b : Bool)
    → is_reached page begin (all_shaded page begin [] front) tone right ≡ false
    → (eqb (shade page begin (all_shaded page begin [] front) x) tone && leb right (right_of page begin x)) ≡ b
    → (is_reached page begin (all_shaded page begin [] (front ++ x ∷ [])) tone right ≡ false → IsFirst page begin ((front ++ x ∷ []) ++ xs) tone right)
    → IsFirst page begin (front ++ x ∷ xs) tone right
first_step page begin front x xs tone right true none here next =
    let before : List Shaded = all_shaded page begin [] front in
    let parts = and_parts (eqb (shade page begin before x) tone) (leb right (right_of page begin x)) here in
    let reach : right ≤ right_of page begin x = leb-true right (right_of page begin x) parts.1 in
    record {
      front = front;
      other = x;
      back = xs;
      whole_is = refl;
      stays = further page begin before tone right (right_of page begin x) reach none;
      same = eqb-true (shade page begin before x) tone parts.0;
      reaches = reach;
    }
first_step page begin front x xs tone right false none here next =
    let before : List Shaded = all_shaded page begin [] front in
    subst (λ l. IsFirst page begin l tone right) (append_assoc front (x ∷ []) xs)
    (next (ap (λ l. is_reached page begin l tone right) (all_shaded_more page begin [] front x)
    ∙ reached_more page begin before (shaded page begin before x) tone right
    ∙ ap (λ b. is_reached page begin before tone right || b) here
    ∙ ap (λ b. b || false) none))

first_from : (page : Page) (begin : ℕ) (front xs : List Sent) (tone right : ℕ) → is_reached page begin (all_shaded page begin [] front) tone right ≡ false
    → is_reached page begin (all_shaded page begin [] (front ++ xs)) tone right ≡ true → IsFirst page begin (front ++ xs) tone right
first_from page begin front [] tone right none e =
    absurd (true≢false (sym e ∙ ap (λ l. is_reached page begin (all_shaded page begin [] l) tone right) (append-nil front) ∙ none))
first_from page begin front (x ∷ xs) tone right none e =
    first_step page begin front x xs tone right (eqb (shade page begin (all_shaded page begin [] front) x) tone && leb right (right_of page begin x)) none refl
    (λ h. first_from page begin (front ++ x ∷ []) xs tone right h
    (ap (λ l. is_reached page begin (all_shaded page begin [] l) tone right) (append_assoc front (x ∷ []) xs) ∙ e))

-- ---- covered
pub left_out_covered : PlacesRise → LeftOutAreCovered
left_out_covered rise table window trace page row earlier later sent is fits i parts out =
    let shown_chain : Chain (shown window trace.list) =
    chain_filtered (is_shown window) (sents trace.list) (chain trace.list trace.horizon is.order is.list) in
    let all : Chain row.sents = chain_row (rows table window trace.list) row (subst Chain (sym (partition table window trace.list)) shown_chain) i in
    let tone : ℕ = shade page row.begin (all_shaded page row.begin [] earlier) sent in
    let first : IsFirst page row.begin earlier tone (right_of page row.begin sent) =
    first_from page row.begin [] earlier tone (right_of page row.begin sent) refl out in
    let whole : row.sents ≡ (first.front ++ first.other ∷ first.back) ++ sent ∷ later = parts ∙ ap (λ l. l ++ sent ∷ later) first.whole_is in
    let order = in_order first.front first.back later first.other sent (subst Chain whole all) in
    record {
      front = first.front;
      other = first.other;
      back = first.back;
      earlier_are = first.whole_is;
      stays = ap (λ n. is_reached page row.begin (all_shaded page row.begin [] first.front) n (right_of page row.begin first.other)) first.same ∙ first.stays;
      same = first.same;
      left = left_rises page row.begin first.other sent rise fits order;
      right = first.reaches;
    }
