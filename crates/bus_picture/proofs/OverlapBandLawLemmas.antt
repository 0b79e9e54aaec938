-- Overlap bands are the bit times at which two transmissions are sent.
use Rattle.std.proofs.Common.{◌≡◌, ℕ, zero, suc, ◌+◌, ◌<◌, ◌≤◌, true, false, cond, max, min, List, [], ◌∷◌, filter, map, Some, None, inl, inr, arith, refl, sym, ap, subst, ◌∙◌}
use Rattle.std.specs.Prelude.{◌⊎◌, fold, nat_lt, slice_get, take, ⊤}
use Rattle.std.specs.List.{AllByRecursion}
use Rattle.std.proofs.lemmas.Bool.{and_parts, cases_lt, ltb-true, lt-ltb, and_from}
use Rattle.bus_strings.proofs.MemberLaws.{from_filter, from_map, in_filter, in_map}
use Rattle.bus_strings.specs.Members.{In}
use Rattle.bus_strings.specs.Messages.{Entry}
use Rattle.bus_strings.specs.Marking.{greatest_end}
use Rattle.bus_strings.specs.Transmissions.{IsByMoment, end_of}
use Rattle.bus_dump.proofs.ClearLemmas.{before_it}
use Rattle.bus_pen.specs.declared.scale.Scale.{Scale}
use Rattle.bus_shapes.specs.declared.sent.Sent.{Sent}
use Rattle.bus_pen.specs.Laws.{PlacesRise}
use Rattle.bus_shapes.specs.Laws.{SentsAreTold}
use Rattle.bus_pen.specs.declared.measures.TheConstants.{PIXEL as pixel}
use Rattle.bus_pen.specs.Scales.{IsScale, place}
use Rattle.bus_shapes.specs.Sending.{sent_of, sents, sents_from}
use Rattle.bus_shapes.specs.SendingLaws.{IsToldOf}
use Rattle.bus_picture.specs.Strings.{meets}
use Rattle.bus_picture.specs.OverlapBands.{OverlapBand, is_overlapped, joined, overlap_of, overlaps, bands_from, touches, widened}
use Rattle.bus_picture.specs.OverlapBandLaws.{IsIn, IsShared, OverlapsHaveBands, BandsAreOverlaps}
use Rattle.bus_picture.proofs.LawLemmas.{IsBehind, Rise, kept_rise, rise}

-- ---- the greatest end
abbrev end_from : ℕ → List Entry → ℕ
end_from end xs = fold (λ end (x : Entry). max end (end_of x)) end xs

no_less : (end : ℕ) (xs : List Entry) → end ≤ end_from end xs
no_less end [] = omega arith
no_less end (x ∷ xs) = omega (arith, no_less (max end (end_of x)) xs)

within : (end : ℕ) (xs : List Entry) (x : Entry) → In x xs → end_of x ≤ end_from end xs
within end [] x i = absurd i
within end (y ∷ xs) x (inl same) = let e : end_of x ≡ end_of y = ap end_of same in omega (arith, e, no_less (max end (end_of y)) xs)
within end (y ∷ xs) x (inr i) = within (max end (end_of y)) xs x i

-- A transmission that ends behind t, and is one of these.
abbrev Reaches : ℕ → List Entry → Type 0
Reaches t xs = (x : Entry) × In x xs × (t < end_of x)

max_cases : (a b t : ℕ) → t < max a b → (t < a) ⊎ (t < b)
max_cases a b t h = elim (cases_lt t a) [ inl low ↦ inl low | inr high ↦ inr (omega arith) ]

reaches : (t end : ℕ) (xs : List Entry) → t < end_from end xs → (t < end) ⊎ Reaches t xs
reaches t end [] h = inl h
reaches t end (x ∷ xs) h =
    elim (reaches t (max end (end_of x)) xs h) [
      | inl low ↦ elim (max_cases end (end_of x) t low) [ inl old ↦ inl old | inr here ↦ inr (x, inl refl, here) ]
      | inr later ↦ inr (later.0, inr later.1, later.2)
    ]

-- ---- what is told of an entry
in_from : (list : List Entry) (n : ℕ) (xs : List Entry) (k : ℕ) (x : Entry) → slice_get xs k ≡ Some x → In (sent_of list (n + k) x) (sents_from list n xs)
in_from list n [] k x e = absurd (let w : None ≡ Some x = e in cc)
in_from list n (y ∷ xs) zero x e =
    let same : y ≡ x = (let w : Some y ≡ Some x = e in cc) in
    inl (ap (λ m. sent_of list m x) (let z : n + 0 ≡ n = omega arith in z) ∙ ap (sent_of list n) (sym same))
in_from list n (y ∷ xs) (suc k) x e =
    inr (subst (λ m. In (sent_of list m x) (sents_from list (n + 1) xs)) (let z : n + 1 + k ≡ n + suc k = omega arith in z) (in_from list (n + 1) xs k x e))

in_sents : (list : List Entry) (k : ℕ) (x : Entry) → slice_get list k ≡ Some x → In (sent_of list k x) (sents list)
in_sents list k x e = subst (λ m. In (sent_of list m x) (sents list)) (let z : 0 + k ≡ k = omega arith in z) (in_from list 0 list k x e)

-- ---- overlaps
-- What is shared is in the overlap of the later one.
overlapped : (scale : Scale) (list : List Entry) (t : ℕ) → IsByMoment list → scale.from ≤ t → t < scale.to → IsShared list t
    → (o : OverlapBand) × In o (overlaps scale list) × IsIn o t
overlapped scale list t order low high shared =
    let x : Sent = sent_of list shared.at shared.other in
    let reach : end_of shared.one ≤ x.before = within 0 (take shared.at list) shared.one shared.before in
    let sends : shared.one.moment ≤ t × (t < end_of shared.one) = shared.sends in
    let too : shared.other.moment ≤ t × (t < end_of shared.other) = shared.sends_too in
    let one : t < end_of shared.one = sends.1 in
    let begun : shared.other.moment ≤ t = too.0 in
    let runs : t < end_of shared.other = too.1 in
    let inside : t < min x.end x.before = omega arith in
    let passes : is_overlapped scale x ≡ true =
    and_from (nat_lt x.moment (min x.end x.before)) (meets scale x.moment (min x.end x.before)) (lt-ltb x.moment (min x.end x.before) (omega arith))
    (and_from (nat_lt x.moment scale.to) (nat_lt scale.from (min x.end x.before)) (lt-ltb x.moment scale.to (omega arith))
    (lt-ltb scale.from (min x.end x.before) (omega arith))) in (
      overlap_of x,
      in_map overlap_of (filter (is_overlapped scale) (sents list)) x
          (in_filter (is_overlapped scale) (sents list) x (in_sents list shared.at shared.other shared.is) passes),
      (begun, inside),
    )

-- Each bit time of an overlap is shared.
record AllShared (list : List Entry) (o : OverlapBand) : Type 0 where
  some : o.from < o.to
  shared : (t : ℕ) → IsIn o t → IsShared list t

shared_in : SentsAreTold → (list : List Entry) (x : Sent) (t : ℕ) → IsByMoment list → In x (sents list) → x.moment ≤ t → t < min x.end x.before
    → IsShared list t
shared_in told list x t order i low high =
    let is : IsToldOf list x = told list x i in
    let moment : x.moment ≡ is.entry.moment = ap (λ (s : Sent). s.moment) is.told in
    let end : x.end ≡ end_of is.entry = ap (λ (s : Sent). s.end) is.told in
    let before : x.before ≡ greatest_end (take x.at list) = ap (λ (s : Sent). s.before) is.told in
    let early : t < end_from 0 (take x.at list) = omega (arith, before) in
    elim (reaches t 0 (take x.at list) early) [
      | inl none ↦ absurd (let no : 1 ≤ 0 = omega arith in omega (arith, no))
      | inr one ↦
          let order' : one.0.moment ≤ is.entry.moment =
          before_it (λ (y z : Entry). y.moment ≤ z.moment) list x.at one.0 is.entry order one.1 is.at in
          record {
            at = x.at;
            one = one.0;
            other = is.entry;
            before = one.1;
            is = is.at;
            sends = (omega arith, one.2);
            sends_too = (omega arith, omega arith);
          }
    ]

all_shared : SentsAreTold → (scale : Scale) (list : List Entry) (o : OverlapBand) → IsByMoment list → In o (overlaps scale list) → AllShared list o
all_shared told scale list o order i =
    let from = from_map overlap_of (filter (is_overlapped scale) (sents list)) o i in
    let x : Sent = from.0 in
    let kept = from_filter (is_overlapped scale) (sents list) x from.1 in
    let some : x.moment < min x.end x.before =
    ltb-true x.moment (min x.end x.before)
    (and_parts (nat_lt x.moment (min x.end x.before)) (meets scale x.moment (min x.end x.before)) kept.1).0 in
    subst (AllShared list) from.2
    (record { some = some; shared = λ t within. shared_in told list x t order kept.0 within.0 within.1 })

-- ---- what is shared is in an overlap band
abbrev RiseFrom : ℕ → List OverlapBand → Type 0
RiseFrom t [] = ⊤
RiseFrom t (o ∷ os) = (t ≤ o.from) × RiseFrom t os

abbrev RiseAll : List OverlapBand → Type 0
RiseAll [] = ⊤
RiseAll (o ∷ os) = RiseFrom o.from os × RiseAll os

behind_all : (t : ℕ) (xs : List Sent) → AllByRecursion (IsBehind t) xs → RiseFrom t (map overlap_of xs)
behind_all t [] h = tt
behind_all t (x ∷ xs) h = (h.0, behind_all t xs h.1)

rise_all : (xs : List Sent) → Rise xs → RiseAll (map overlap_of xs)
rise_all [] h = tt
rise_all (x ∷ xs) h = (behind_all x.moment xs h.0, rise_all xs h.1)

abbrev HasOne : List OverlapBand → ℕ → Type 0
HasOne ts t = (band : OverlapBand) × In band ts × IsIn band t

has_one : (scale : Scale) (band : OverlapBand) (os : List OverlapBand) (t : ℕ) → RiseFrom band.from os → RiseAll os → (IsIn band t) ⊎ HasOne os t
    → HasOne (bands_from scale band os) t
has_one scale band [] t low order (inl here) = (band, inl refl, here)
has_one scale band [] t low order (inr later) = absurd later.1
has_one scale band (next ∷ os) t low order has =
    elim (touches scale band next) as (λ b. HasOne (cond b (bands_from scale (widened band next) os) (band ∷ bands_from scale next os)) t) [
      | true ↦ has_one scale (widened band next) os t low.1 order.1 (elim has [
        | inl here ↦ inl (let first : band.from ≤ t = here.0 in let last : t < band.to = here.1 in (first, omega arith))
        | inr later ↦ elim later.1 [
          | inl same ↦ inl (
              let first : later.0.from ≤ t = later.2.0 in
              let last : t < later.0.to = later.2.1 in
              let from : later.0.from ≡ next.from = ap (λ (o : OverlapBand). o.from) same in
              let to : later.0.to ≡ next.to = ap (λ (o : OverlapBand). o.to) same in
              let before : band.from ≤ next.from = low.0 in
              (omega arith, omega arith)
              )
          | inr i ↦ inr (later.0, i, later.2)
        ]
      ])
      | false ↦ elim has [
        | inl here ↦ (band, inl refl, here)
        | inr later ↦ (
            let r : HasOne (bands_from scale next os) t =
            has_one scale next os t order.0 order.1 (elim later.1 [
              | inl same ↦ inl (subst (λ (o : OverlapBand). IsIn o t) same later.2)
              | inr i ↦ inr (later.0, i, later.2)
            ]) in
            (r.0, inr r.1, r.2)
            )
      ]
    ]

has_joined : (scale : Scale) (os : List OverlapBand) (t : ℕ) → RiseAll os → HasOne os t → HasOne (joined scale os) t
has_joined scale [] t order has = absurd has.1
has_joined scale (o ∷ os) t order has =
    has_one scale o os t order.0 order.1 (elim has.1 [
      | inl same ↦ inl (subst (λ (o : OverlapBand). IsIn o t) same has.2)
      | inr i ↦ inr (has.0, i, has.2)
    ])

pub overlaps_have_bands : OverlapsHaveBands
overlaps_have_bands scale list t order low high shared =
    has_joined scale (overlaps scale list) t
    (rise_all (filter (is_overlapped scale) (sents list)) (kept_rise (is_overlapped scale) (sents list) (rise list 0 list order)))
    (overlapped scale list t order low high shared)

-- ---- what is in an overlap band is shared, up to a pixel
abbrev IsNear : Scale → List Entry → ℕ → Type 0
IsNear scale list t = (u : ℕ) × IsShared list u × (t ≤ u) × (place scale u < place scale t + pixel)

abbrev AllNear : Scale → List Entry → OverlapBand → Type 0
AllNear scale list band = (t : ℕ) → IsIn band t → IsNear scale list t

near_here : (scale : Scale) (list : List Entry) (o : OverlapBand) → AllShared list o → AllNear scale list o
near_here scale list o all t within = (t, all.shared t within, omega arith, omega arith)

near_both : PlacesRise → (scale : Scale) (list : List Entry) (band next : OverlapBand) → IsScale scale → touches scale band next ≡ true → AllNear scale list band
    → AllShared list next → AllNear scale list (widened band next)
near_both rises scale list band next is close old new t within =
    let first : band.from ≤ t = within.0 in
    let last : t < max band.to next.to = within.1 in
    let some : next.from < next.to = new.some in
    elim (cases_lt t band.to) [
      | inl before ↦ old t (first, before)
      | inr behind ↦ elim (cases_lt t next.from) [
        | inl between ↦ (
          next.from,
          new.shared next.from (omega arith, some),
          omega arith,
          (
              let near : place scale next.from < place scale band.to + pixel = ltb-true (place scale next.from) (place scale band.to + pixel) close in
              let up : place scale band.to ≤ place scale t = rises scale band.to t is behind in
              omega arith
              ),
        )
        | inr inside ↦ near_here scale list next new t (inside, omega arith)
      ]
    ]

near_from : PlacesRise → (scale : Scale) (list : List Entry) (band : OverlapBand) (os : List OverlapBand) → IsScale scale → AllNear scale list band
    → ((o : OverlapBand) → In o os → AllShared list o) → (one : OverlapBand) → In one (bands_from scale band os) → AllNear scale list one
near_from rises scale list band [] is old all one (inl same) = subst (AllNear scale list) (sym same) old
near_from rises scale list band [] is old all one (inr i) = absurd i
near_from rises scale list band (next ∷ os) is old all one i =
    (elim (touches scale band next) as (λ b. touches scale band next ≡ b → In one (cond b (bands_from scale (widened band next) os) (band ∷ bands_from scale next os))
    → AllNear scale list one) [
      | true ↦ λ close j.
          near_from rises scale list (widened band next) os is (near_both rises scale list band next is close old (all next (inl refl)))
          (λ o k. all o (inr k)) one j
      | false ↦ λ far j. elim j [
        | inl same ↦ subst (AllNear scale list) (sym same) old
        | inr k ↦ near_from rises scale list next os is (near_here scale list next (all next (inl refl))) (λ o k. all o (inr k)) one k
      ]
    ]) refl i

near_joined : PlacesRise → (scale : Scale) (list : List Entry) (os : List OverlapBand) → IsScale scale → ((o : OverlapBand) → In o os → AllShared list o)
    → (one : OverlapBand) → In one (joined scale os) → AllNear scale list one
near_joined rises scale list [] is all one i = absurd i
near_joined rises scale list (o ∷ os) is all one i =
    near_from rises scale list o os is (near_here scale list o (all o (inl refl))) (λ p k. all p (inr k)) one i

pub bands_are_overlaps : SentsAreTold → PlacesRise → BandsAreOverlaps
bands_are_overlaps told rises scale list band t is order i within =
    near_joined rises scale list (overlaps scale list) is (λ o j. all_shared told scale list o order j) band i t within
