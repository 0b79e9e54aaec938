-- How what is kept of a sender goes on with one more transmission.
use Rattle.std.specs.Prelude.{max, min, slice_get, slice_range, ◌==◌, filter}
use Rattle.std.specs.List.{reduce}
use Rattle.std.specs.Option.{option_map_or}
use Rattle.std.proofs.Common.{◌≡◌, ◌≢◌, ℕ, zero, suc, ◌+◌, ◌-◌, ◌^◌, ◌<◌, ◌≤◌, ◌⊎◌, Bool, true, false, cond, List, [], ◌∷◌, ◌++◌, take, drop, length, get_or, Option, Some, None, inl, inr, arith, refl, ap, sym, subst, ◌∙◌, append_assoc}
use Rattle.std.proofs.lemmas.Bool.{eq-eqb, ne_eqb}
use Rattle.std.proofs.lemmas.List.{length-append}
use Rattle.std.proofs.lemmas.List.Elements.{filter-append}
use Rattle.std.proofs.lemmas.List.Sums.{fold-append, sum_by_push}
use Rattle.std.proofs.lemmas.Option.{slice_get-get_or}
use Rattle.std.proofs.Math.Seq.{take-add}
use Rattle.bus_strings.specs.Members.{In}
use Rattle.bus_strings.specs.Messages.{Entry}
use Rattle.bus_strings.proofs.ListLaws.{drop_at}
use Rattle.bus_strings.proofs.MemberLaws.{in_append_cases}
use Rattle.bus_table.specs.Tables.{Table}
use Rattle.bus_bounds.specs.Bounds.{Bounds}
use Rattle.bus_findings.specs.declared.heard.Heard.{Heard}
use Rattle.bus_findings.specs.declared.watch.Last.{Last}
use Rattle.bus_findings.specs.declared.watch.Watch.{Watch}
use Rattle.bus_findings.specs.Amounts.{greatest}
use Rattle.bus_findings.specs.Judging.{judgement_of}
use Rattle.bus_findings.specs.Recorded.{seen, recorded}
use Rattle.bus_findings.specs.Terminals.{own, apart, faults_among, fault_count}
use Rattle.bus_findings.specs.inside.Counting.{lesser, greater, with_least, with_most, apart_from, moment_at}
use Rattle.bus_findings.specs.inside.Standing.{IsHeard, IsLast, IsLastTo, IsWatch, of_others, own_end, others_end}
use Rattle.bus_findings.proofs.AmountLemmas.{greatest_push}
use Rattle.bus_findings.proofs.PlaceLemmas.{take_next, take_split, filter_push, filter_skip, filter_none}
use Rattle.bus_findings.proofs.HeardLemmas.{recorded_next}

-- between a place and itself there is nothing
none_between : {X : Type 0} (xs : List X) (a : ℕ) (z : X) → In z (slice_range xs a a) → ⊥
none_between xs a z inside =
    let zero_long : a - a ≡ 0 = omega arith in
    let e : slice_range xs a a ≡ [] = ap (λ n. take n (drop a xs)) zero_long in
    subst (λ l. In z l) e inside

nil_dropped : {X : Type 0} → (n : ℕ) → drop {A = X} n [] ≡ []
nil_dropped zero = refl
nil_dropped (suc n) = refl

dropped : {X : Type 0} → (xs : List X) (a n : ℕ) → drop n (drop a xs) ≡ drop (a + n) xs
dropped xs zero n = let e : 0 + n ≡ n = omega arith in rw e refl
dropped [] (suc a) n = let e : suc a + n ≡ suc (a + n) = omega arith in nil_dropped n ∙ sym (ap (λ m. drop m []) e)
dropped (x ∷ xs) (suc a) n = let e : suc a + n ≡ suc (a + n) = omega arith in dropped xs a n ∙ sym (ap (λ m. drop m (x ∷ xs)) e)

-- up to a place, and one further
part_next : {X : Type 0} (xs : List X) (a i : ℕ) (x z : X) → a ≤ i → slice_get xs i ≡ Some x → In z (slice_range xs a (i + 1)) → In z (slice_range xs a i) ⊎ (z ≡ x)
part_next xs a i x z low at inside =
    let n : ℕ = i - a in
    let one : i + 1 - a ≡ n + 1 = omega arith in
    let back : a + n ≡ i = omega arith in
    let e : slice_range xs a (i + 1) ≡ take n (drop a xs) ++ x ∷ [] =
    ap (λ m. take m (drop a xs)) one ∙ take-add n 1 (drop a xs)
    ∙ ap (λ l. take n (drop a xs) ++ take 1 l) (dropped xs a n ∙ ap (λ m. drop m xs) back ∙ drop_at xs i x at) in
    elim (in_append_cases (take n (drop a xs)) (x ∷ []) z (subst (λ l. In z l) e inside)) [
      | inl front ↦ inl front
      | inr last ↦ elim last [ inl same ↦ inr same | inr none ↦ absurd none ]
    ]

-- ---- of the terminal that starts

pub own_next : (list : List Entry) (i : ℕ) (x : Entry) → slice_get list i ≡ Some x → own (take (i + 1) list) x.terminal ≡ own (take i list) x.terminal ++ x ∷ []
own_next list i x at =
    ap (λ l. own l x.terminal) (take_next list i x at) ∙ filter_push (λ z. z.terminal == x.terminal) (take i list) x (eq-eqb x.terminal x.terminal refl)

pub last_started : (bounds : Bounds) (list : List Entry) (i : ℕ) (x : Entry) (heard : Heard) (others : ℕ) → IsHeard bounds list i heard → slice_get list i ≡ Some x
    → others ≡ of_others heard.soonest x.terminal → IsLastTo bounds list x.terminal (i + 1) (record { place = i; others = others; latest = heard.latest })
last_started bounds list i x heard others h at is =
    let told : of_others heard.soonest x.terminal ≡ others_end (recorded bounds (take i list)) x.terminal = h.soonest.others x.terminal in
    let order : heard.soonest.second ≤ heard.soonest.first = h.soonest.order in
    let bound : heard.soonest.first < 2 ^ 41 = h.soonest.bound in
    let low : of_others heard.soonest x.terminal ≤ heard.soonest.first =
    elim (x.terminal == heard.soonest.terminal) as (λ b. cond b heard.soonest.second heard.soonest.first ≤ heard.soonest.first) [ true ↦ order | false ↦ omega arith ] in
    record {
      at = record {
        start = x;
        there = at;
        mine = refl;
        others = is ∙ told;
        others_bound = omega (arith, is, low, bound);
        latest = h.latest;
        latest_bound = h.latest_bound;
      };
      within = omega arith;
      none = λ z inside. absurd (none_between list (i + 1) z inside);
    }

pub end_started : (bounds : Bounds) (list : List Entry) (i : ℕ) (x : Entry) → slice_get list i ≡ Some x
    → own_end (recorded bounds (take (i + 1) list)) x.terminal ≡ max (own_end (recorded bounds (take i list)) x.terminal) (seen bounds x).soonest
end_started bounds list i x at =
    ap (λ l. own_end l x.terminal) (recorded_next bounds list i x at)
    ∙ ap (greatest (λ r. r.soonest)) (filter_push (λ r. r.sender == x.terminal) (recorded bounds (take i list)) (seen bounds x) (eq-eqb x.terminal x.terminal refl))
    ∙ greatest_push (λ r. r.soonest) (filter (λ r. r.sender == x.terminal) (recorded bounds (take i list))) (seen bounds x)

pub starts_started : (list : List Entry) (i : ℕ) (x : Entry) → slice_get list i ≡ Some x
    → length (own (take (i + 1) list) x.terminal) ≡ length (own (take i list) x.terminal) + 1
starts_started list i x at = ap length (own_next list i x at) ∙ length-append (own (take i list) x.terminal) (x ∷ [])

pub faults_started : (bounds : Bounds) (table : Table) (list : List Entry) (i : ℕ) (x : Entry) → slice_get list i ≡ Some x
    → faults_among bounds table list (own (take (i + 1) list) x.terminal)
    ≡ faults_among bounds table list (own (take i list) x.terminal) + fault_count (judgement_of bounds table list x)
faults_started bounds table list i x at =
    ap (faults_among bounds table list) (own_next list i x at)
    ∙ sum_by_push (λ z. fault_count (judgement_of bounds table list z)) (own (take i list) x.terminal) x

-- how far apart they stand
apart_push : (list : List Entry) (o x : Entry) → apart (list ++ o ∷ x ∷ []) ≡ apart (list ++ o ∷ []) ++ (x.moment - o.moment) ∷ []
apart_push [] o x = refl
apart_push (a ∷ []) o x = refl
apart_push (a ∷ b ∷ list) o x = ap (λ l. (b.moment - a.moment) ∷ l) (apart_push (b ∷ list) o x)

least_push : (ns : List ℕ) (n : ℕ) → reduce min (ns ++ n ∷ []) ≡ Some (lesser (reduce min ns) n)
least_push [] n = refl
least_push (m ∷ ns) n = ap Some (fold-append min m ns (n ∷ []))

most_push : (ns : List ℕ) (n : ℕ) → reduce max (ns ++ n ∷ []) ≡ Some (greater (reduce max ns) n)
most_push [] n = refl
most_push (m ∷ ns) n = ap Some (fold-append max m ns (n ∷ []))

-- the own ones of a list up to the last start
own_to : (bounds : Bounds) (list : List Entry) (number i : ℕ) (l : Last) → IsLastTo bounds list number i l → (zs : List Entry) × (o : Entry)
    × (slice_get list l.place ≡ Some o) × (own (take i list) number ≡ zs ++ o ∷ [])
own_to bounds list number i l is =
    let o : Entry = is.at.start in
    let p : Entry → Bool = λ z. z.terminal == number in
    let rest : filter p (slice_range list (l.place + 1) i) ≡ [] = filter_none p (slice_range list (l.place + 1) i) (λ z inside. ne_eqb z.terminal number (is.none z inside)) in
    let one : filter p (o ∷ slice_range list (l.place + 1) i) ≡ o ∷ [] =
    ap (λ b. cond b (o ∷ filter p (slice_range list (l.place + 1) i)) (filter p (slice_range list (l.place + 1) i))) (eq-eqb o.terminal number is.at.mine)
    ∙ ap (λ r. o ∷ r) rest in (
      filter p (take l.place list),
      o,
      is.at.there,
      ap (filter p) (take_split list l.place i o is.at.there is.within) ∙ filter-append p (take l.place list) (o ∷ slice_range list (l.place + 1) i)
          ∙ ap (λ r. filter p (take l.place list) ++ r) one,
    )

apart_next : (bounds : Bounds) (list : List Entry) (i : ℕ) (x : Entry) (l : Last) → slice_get list i ≡ Some x → IsLastTo bounds list x.terminal i l
    → apart (own (take (i + 1) list) x.terminal) ≡ apart (own (take i list) x.terminal) ++ (moment_at list i - moment_at list l.place) ∷ []
apart_next bounds list i x l at is =
    let w = own_to bounds list x.terminal i l is in
    let first : moment_at list l.place ≡ w.1.moment = ap (λ o. option_map_or (λ (z : Entry). z.moment) o 0) w.2 in
    let second : moment_at list i ≡ x.moment = ap (λ o. option_map_or (λ (z : Entry). z.moment) o 0) at in
    let same : x.moment - w.1.moment ≡ moment_at list i - moment_at list l.place = omega (arith, first, second) in
    ap apart (own_next list i x at ∙ ap (λ k. k ++ x ∷ []) w.3 ∙ append_assoc w.0 (w.1 ∷ []) (x ∷ []))
    ∙ apart_push w.0 w.1 x ∙ ap (λ k. apart k ++ (x.moment - w.1.moment) ∷ []) (sym w.3)
    ∙ ap (λ n. apart (own (take i list) x.terminal) ++ n ∷ []) same

apart_first : (list : List Entry) (i : ℕ) (x : Entry) → slice_get list i ≡ Some x → ((z : Entry) → In z (take i list) → z.terminal ≢ x.terminal)
    → apart (own (take (i + 1) list) x.terminal) ≡ []
apart_first list i x at none =
    let empty : own (take i list) x.terminal ≡ [] = filter_none (λ z. z.terminal == x.terminal) (take i list) (λ z inside. ne_eqb z.terminal x.terminal (none z inside)) in
    ap apart (own_next list i x at ∙ ap (λ k. k ++ x ∷ []) empty)

pub least_started : (bounds : Bounds) (list : List Entry) (i : ℕ) (x : Entry) (last : Option Last) → slice_get list i ≡ Some x → IsLast bounds list x.terminal i last
    → reduce min (apart (own (take (i + 1) list) x.terminal)) ≡ with_least (reduce min (apart (own (take i list) x.terminal))) (apart_from list last i)
least_started bounds list i x None at is = ap (reduce min) (apart_first list i x at is)
least_started bounds list i x (Some l) at is =
    ap (reduce min) (apart_next bounds list i x l at is) ∙ least_push (apart (own (take i list) x.terminal)) (moment_at list i - moment_at list l.place)

pub most_started : (bounds : Bounds) (list : List Entry) (i : ℕ) (x : Entry) (last : Option Last) → slice_get list i ≡ Some x → IsLast bounds list x.terminal i last
    → reduce max (apart (own (take (i + 1) list) x.terminal)) ≡ with_most (reduce max (apart (own (take i list) x.terminal))) (apart_from list last i)
most_started bounds list i x None at is = ap (reduce max) (apart_first list i x at is)
most_started bounds list i x (Some l) at is =
    ap (reduce max) (apart_next bounds list i x l at is) ∙ most_push (apart (own (take i list) x.terminal)) (moment_at list i - moment_at list l.place)

-- the place of the last start, if there is one
pub last_within : (bounds : Bounds) (list : List Entry) (number i : ℕ) (last : Option Last) → IsLast bounds list number i last → (l : Last) → last ≡ Some l → l.place < i
last_within bounds list number i None is l e = absurd (let w : None ≡ Some l = e in cc)
last_within bounds list number i (Some m) is l e = let same : m ≡ l = cc in subst (λ (k : Last). k.place < i) same is.within

-- ---- of a terminal that doesn't

last_kept : (bounds : Bounds) (list : List Entry) (number i : ℕ) (x : Entry) (last : Option Last) → slice_get list i ≡ Some x → x.terminal ≢ number
    → IsLast bounds list number i last → IsLast bounds list number (i + 1) last
last_kept bounds list number i x None at apart is = λ z inside.
    elim (in_append_cases (take i list) (x ∷ []) z (subst (λ l. In z l) (take_next list i x at) inside)) [
      | inl front ↦ is z front
      | inr last ↦ elim last [ inl same ↦ (λ e. apart (ap (λ (y : Entry). y.terminal) (sym same) ∙ e)) | inr none ↦ absurd none ]
    ]
last_kept bounds list number i x (Some l) at apart is = record {
  at = is.at;
  within = omega (arith, is.within);
  none = λ z inside. elim (part_next list (l.place + 1) i x z (omega (arith, is.within)) at inside) [
    | inl front ↦ is.none z front
    | inr same ↦ (λ e. apart (ap (λ (y : Entry). y.terminal) (sym same) ∙ e))
  ];
}

own_kept : (list : List Entry) (number i : ℕ) (x : Entry) → slice_get list i ≡ Some x → x.terminal ≢ number → own (take (i + 1) list) number ≡ own (take i list) number
own_kept list number i x at apart =
    ap (λ l. own l number) (take_next list i x at) ∙ filter_skip (λ z. z.terminal == number) (take i list) x (ne_eqb x.terminal number apart)

end_kept : (bounds : Bounds) (list : List Entry) (number i : ℕ) (x : Entry) → slice_get list i ≡ Some x → x.terminal ≢ number
    → own_end (recorded bounds (take (i + 1) list)) number ≡ own_end (recorded bounds (take i list)) number
end_kept bounds list number i x at apart =
    ap (λ l. own_end l number) (recorded_next bounds list i x at)
    ∙ ap (greatest (λ r. r.soonest)) (filter_skip (λ r. r.sender == number) (recorded bounds (take i list)) (seen bounds x) (ne_eqb x.terminal number apart))

pub watch_kept : (bounds : Bounds) (table : Table) (list : List Entry) (number i : ℕ) (x : Entry) (watch : Watch) → slice_get list i ≡ Some x → x.terminal ≢ number
    → IsWatch bounds table list number i watch → IsWatch bounds table list number (i + 1) watch
watch_kept bounds table list number i x watch at other is =
    let e : own (take i list) number ≡ own (take (i + 1) list) number = sym (own_kept list number i x at other) in
    record {
      last = last_kept bounds list number i x watch.last at other is.last;
      own_end = is.own_end ∙ sym (end_kept bounds list number i x at other);
      own_bound = is.own_bound;
      starts = is.starts ∙ ap length e;
      faults = is.faults ∙ ap (faults_among bounds table list) e;
      counted = omega (arith, is.counted);
      few = is.few;
      least = is.least ∙ ap (λ l. reduce min (apart l)) e;
      most = is.most ∙ ap (λ l. reduce max (apart l)) e;
    }

-- the moment that is read at a place
pub moment_read : (list : List Entry) (i : ℕ) (x : Entry) → i < length list → x ≡ get_or list i x → moment_at list i ≡ x.moment
moment_read list i x low is =
    let e : slice_get list i ≡ Some x = slice_get-get_or list i x low ∙ ap Some (sym is) in
    ap (λ o. option_map_or (λ (z : Entry). z.moment) o 0) e
