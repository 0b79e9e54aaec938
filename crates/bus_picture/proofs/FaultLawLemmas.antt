-- The laws of the marks of faults.
use Rattle.std.proofs.Common.{◌≡◌, ℕ, zero, suc, ◌+◌, ◌<◌, ◌≤◌, Bool, true, false, cond, List, [], ◌∷◌, length, arith, refl, sym, ap, ◌∙◌, Some, None, inl, inr}
use Rattle.std.specs.Prelude.{◌&&◌, ◌||◌, ◌==◌, ◌⊎◌, ◌-◌, nat_le, nat_lt, slice_get, count_by}
use Rattle.std.proofs.lemmas.Bool.{and_parts, eq-eqb, eqb-true, leb-true, lt-ltb}
use Rattle.std.proofs.lemmas.List.Sums.{sum_by-cons}
use Rattle.bus_strings.proofs.MemberLaws.{any_in, at_in}
use Rattle.bus_strings.specs.Members.{In}
use Rattle.bus_strings.specs.Messages.{Entry}
use Rattle.bus_strings.specs.Transmissions.{end_of}
use Rattle.bus_dump.specs.declared.lane.Lane.{Lane}
use Rattle.bus_dump.specs.Lanes.{lanes}
use Rattle.bus_dump.specs.Laws.{LanesAreTerminals}
use Rattle.bus_findings.specs.declared.judgement.Judgement.{Judgement}
use Rattle.bus_findings.specs.Terminals.{fault_count, fault_sum, is_faulty}
use Rattle.bus_medium.specs.BusyLaws.{IsBusy}
use Rattle.bus_medium.proofs.BusyLaws.{entry_is_busy}
use Rattle.bus_medium.proofs.Seats.{same_some}
use Rattle.bus_shapes.specs.declared.told.Told.{Told}
use Rattle.bus_pen.specs.declared.scale.Scale.{Scale}
use Rattle.bus_picture.specs.FaultLaws.{FaultsAreMarked, FaultsHaveLanes, IsFoundIn, NoneIsMarked}
use Rattle.bus_picture.specs.Faults.{Fault, fault_of, faults, faults_text, is_marked}
use Rattle.bus_picture.specs.Lanes.{drawn_lanes, has_some, is_in, is_named, lanes_with_some, most_empty}
use Rattle.bus_picture.specs.Strings.{has_moment, meets}
use Rattle.bus_picture.specs.TimeLines.{lanes_in}
use Rattle.bus_picture.proofs.CountLemmas.{drawn_count, kept_count}
use Rattle.bus_picture.proofs.GapLemmas.{have_words}

-- ---- which are marked
one_or_later : {Z : Type 0} (b : Bool) (z w : Z) (ws : List Z) → In z (cond b (w ∷ ws) ws) → ((z ≡ w) × (b ≡ true)) ⊎ In z ws
one_or_later true z w ws (inl e) = inl (e, refl)
one_or_later true z w ws (inr i) = inr i
one_or_later false z w ws i = inr i

first_kept : {Z : Type 0} (b : Bool) (z w : Z) (ws : List Z) → z ≡ w → b ≡ true → In z (cond b (w ∷ ws) ws)
first_kept true z w ws e h = inl e
first_kept false z w ws e h = absurd (let k : false ≡ true = h in cc)

later_kept : {Z : Type 0} (b : Bool) (z w : Z) (ws : List Z) → In z ws → In z (cond b (w ∷ ws) ws)
later_kept true z w ws i = inr i
later_kept false z w ws i = i

found : (scale : Scale) (xs : List Entry) (ys : List Judgement) (fault : Fault) → In fault (faults scale xs ys) → IsFoundIn scale xs ys fault
found scale [] ys fault i = absurd i
found scale (x ∷ xs) [] fault i = absurd i
found scale (x ∷ xs) (y ∷ ys) fault i =
    elim (one_or_later (is_marked scale (fault_of (x, y))) fault (fault_of (x, y)) (faults scale xs ys) i) [
      | inl here ↦
          let parts = and_parts (is_faulty fault.found) (has_moment scale fault.moment) (ap (is_marked scale) here.0 ∙ here.1) in
          record {
            at = 0;
            entry = x;
            there = refl;
            judged = ap (λ (f : Fault). Some f.found) (sym here.0);
            moment = ap (λ (f : Fault). f.moment) here.0;
            terminal = ap (λ (f : Fault). f.terminal) here.0;
            faulty = parts.0;
            shown = parts.1;
          }
      | inr behind ↦
          let f : IsFoundIn scale xs ys fault = found scale xs ys fault behind in
          record {
            at = suc f.at;
            entry = f.entry;
            there = f.there;
            judged = f.judged;
            moment = f.moment;
            terminal = f.terminal;
            faulty = f.faulty;
            shown = f.shown;
          }
    ]

is_fault_of : (fault : Fault) (x : Entry) (y : Judgement) → fault.moment ≡ x.moment → fault.terminal ≡ x.terminal → y ≡ fault.found
    → fault ≡ fault_of (x, y)
is_fault_of fault x y moment terminal judged =
    ap (λ m. record { moment = m; terminal = fault.terminal; found = fault.found }) moment
    ∙ ap (λ t. record { moment = x.moment; terminal = t; found = fault.found }) terminal
    ∙ ap (λ j. record { moment = x.moment; terminal = x.terminal; found = j }) (sym judged)

both : (a b : Bool) → a ≡ true → b ≡ true → (a && b) ≡ true
both a b h k = ap (λ c. c && b) h ∙ k

in_faults : (scale : Scale) (xs : List Entry) (ys : List Judgement) (fault : Fault) (k : ℕ) (x : Entry) → slice_get xs k ≡ Some x
    → slice_get ys k ≡ Some fault.found → fault.moment ≡ x.moment → fault.terminal ≡ x.terminal → is_marked scale fault ≡ true
    → In fault (faults scale xs ys)
in_faults scale [] ys fault k x there judged m t is = absurd (let e : None ≡ Some x = there in cc)
in_faults scale (x' ∷ xs) [] fault k x there judged m t is = absurd (let e : None ≡ Some fault.found = judged in cc)
in_faults scale (x' ∷ xs) (y ∷ ys) fault zero x there judged m t is =
    let same : x' ≡ x = same_some x' x there in
    let e : fault ≡ fault_of (x', y) =
    is_fault_of fault x' y (m ∙ ap (λ (z : Entry). z.moment) (sym same)) (t ∙ ap (λ (z : Entry). z.terminal) (sym same)) (same_some y fault.found judged) in
    first_kept (is_marked scale (fault_of (x', y))) fault (fault_of (x', y)) (faults scale xs ys) e (sym (ap (is_marked scale) e) ∙ is)
in_faults scale (x' ∷ xs) (y ∷ ys) fault (suc k) x there judged m t is =
    later_kept (is_marked scale (fault_of (x', y))) fault (fault_of (x', y)) _ (in_faults scale xs ys fault k x there judged m t is)

pub faults_are_marked : FaultsAreMarked
faults_are_marked scale list judgements fault = (
  found scale list judgements fault,
  λ f. in_faults scale list judgements fault f.at f.entry f.there f.judged f.moment f.terminal
      (both (is_faulty fault.found) (has_moment scale fault.moment) f.faulty f.shown),
)

-- ---- their lanes
-- What begins at a moment of the scale meets it.
met : (scale : Scale) (from to : ℕ) → has_moment scale from ≡ true → from < to → meets scale from to ≡ true
met scale from to h longer =
    let parts = and_parts (nat_le scale.from from) (nat_lt from scale.to) h in
    let low : scale.from ≤ from = leb-true scale.from from parts.0 in
    both (nat_lt from scale.to) (nat_lt scale.from to) parts.1 (lt-ltb scale.from to (omega arith))

-- The lane of such a transmission has something to show.
has_its_start : (scale : Scale) (told : Told) (list : List Entry) (x : Entry) → In x list → meets scale x.moment (end_of x) ≡ true
    → (lane : Lane) → (lane.terminal == x.terminal) ≡ true → has_some scale told list lane ≡ true
has_its_start scale told list x i h lane own =
    let same : (x.terminal == lane.terminal) ≡ true = eq-eqb x.terminal lane.terminal (sym (eqb-true lane.terminal x.terminal own)) in
    let here : is_in scale lane x ≡ true = both (x.terminal == lane.terminal) (meets scale x.moment (end_of x)) same h in
    ap (λ b. b || is_named told lane.terminal) (any_in (is_in scale lane) list x i here)

one_lane : (scale : Scale) (told : Told) (list : List Entry) (x : Entry) → In x list → meets scale x.moment (end_of x) ≡ true
    → (all : List Lane)
    → count_by (λ (lane : Lane). lane.terminal == x.terminal) (drawn_lanes scale told list all)
    ≡ count_by (λ (lane : Lane). lane.terminal == x.terminal) all
one_lane scale told list x i h all =
    drawn_count (nat_lt most_empty (length all - length (lanes_with_some scale told list all))) (λ (lane : Lane). lane.terminal == x.terminal)
    (lanes_with_some scale told list all) all
    (kept_count (λ (lane : Lane). lane.terminal == x.terminal) (has_some scale told list) all (has_its_start scale told list x i h))

pub faults_have_lanes : LanesAreTerminals → FaultsHaveLanes
faults_have_lanes agree scale told table trace judgements fault valid is i =
    let f : IsFoundIn scale trace.list judgements fault = found scale trace.list judgements fault i in
    let there : In f.entry trace.list = at_in trace.list f.at f.entry f.there in
    let busy : IsBusy trace.list f.entry.moment (end_of f.entry) =
    entry_is_busy trace.list f.entry there (have_words trace.horizon trace.list is.list f.entry there) in
    let shown : has_moment scale f.entry.moment ≡ true = ap (has_moment scale) (sym f.moment) ∙ f.shown in
    let meets_it : meets scale f.entry.moment (end_of f.entry) ≡ true = met scale f.entry.moment (end_of f.entry) shown busy.some in
    ap (λ n. count_by (λ (lane : Lane). lane.terminal == n) (lanes_in scale told table trace.list)) f.terminal
    ∙ one_lane scale told trace.list f.entry there meets_it (lanes table trace.list)
    ∙ (agree table trace valid is).sending f.entry there

-- ---- where nothing is found
none_counted : (xs : List Entry) (ys : List Judgement) (scale : Scale) → fault_sum ys ≡ 0 → faults scale xs ys ≡ []
none_counted [] ys scale h = refl
none_counted (x ∷ xs) [] scale h = refl
none_counted (x ∷ xs) (y ∷ ys) scale h =
    let all : fault_count y + fault_sum ys ≡ 0 = sym (sum_by-cons fault_count y ys) ∙ h in
    let here : fault_count y ≡ 0 = omega arith in
    let rest : fault_sum ys ≡ 0 = omega arith in
    let no : is_faulty y ≡ false = ap (nat_lt 0) here in
    ap (λ b. cond (b && has_moment scale x.moment) (fault_of (x, y) ∷ faults scale xs ys) (faults scale xs ys)) no
    ∙ none_counted xs ys scale rest

pub none_is_marked : NoneIsMarked
none_is_marked scale near lanes list judgements h =
    ap (faults_text scale near lanes) (none_counted list judgements scale h)
