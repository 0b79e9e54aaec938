-- The transmissions that are live at a bit time.
use Rattle.std.proofs.Common.{◌≡◌, ℕ, zero, suc, ◌+◌, ◌<◌, ◌≤◌, true, false, cond, ◌&&◌, ltb, leb, List, [], ◌∷◌, ◌++◌, length, Option, Some, None}
use Rattle.std.proofs.Common.{inl, inr, arith, sym, refl, ap, ◌∙◌}
use Rattle.std.specs.Prelude.{slice_get}
use Rattle.std.specs.List.{AllByRecursion, filter, filter_map, range_with_len}
use Rattle.std.specs.Option.{option_and_then}
use Rattle.std.proofs.lemmas.Bool.{true≢false, cases_lt, lt-ltb, le-ltb, le-leb, lt-leb, ltb-true, leb-true, and_parts, cases_Bool}
use Rattle.std.proofs.lemmas.Option.{cond_some}
use Rattle.bus_strings.proofs.MemberLaws.{of_each, at_in}
use Rattle.bus_strings.specs.Messages.{Entry}
use Rattle.bus_strings.specs.Transmissions.{end_of, IsAscending, Precedes}
use Rattle.bus_strings.proofs.ListLaws.{all_cons}
use Rattle.bus_dump.specs.declared.live.Live.{Live}
use Rattle.bus_dump.specs.Seen.{holds, seen_of, seen_entry, seen_at}
use Rattle.bus_dump.specs.inside.Walks.{live_of, live_entry, live_to, ends_after, see, IsLive, IsSteady}
use Rattle.bus_dump.proofs.RangeLemmas.{same_along, front_is, filter_along, given_along, given_push, given_in, kept_if}

-- ---- spans
pub holds_true : (t : ℕ) (x : Entry) → x.moment ≤ t → t < end_of x → holds t x ≡ true
holds_true t x l h = rw (le-leb x.moment t l, lt-ltb t (end_of x) h) refl

pub holds_ended : (t : ℕ) (x : Entry) → end_of x ≤ t → holds t x ≡ false
holds_ended t x h = rw (le-ltb t (end_of x) h) (elim (leb x.moment t) as (λ b. (b && false) ≡ false) [ true ↦ refl | false ↦ refl ])

pub holds_ahead : (t : ℕ) (x : Entry) → t < x.moment → holds t x ≡ false
holds_ahead t x h = rw (lt-leb x.moment t h) refl

pub held_from : (t : ℕ) (x : Entry) → holds t x ≡ true → x.moment ≤ t
held_from t x h = leb-true x.moment t (and_parts (leb x.moment t) (ltb t (end_of x)) h).0

pub held_to : (t : ℕ) (x : Entry) → holds t x ≡ true → t < end_of x
held_to t x h = ltb-true t (end_of x) (and_parts (leb x.moment t) (ltb t (end_of x)) h).1

pub not_held : (t : ℕ) (x : Entry) → x.moment ≤ t → holds t x ≡ false → end_of x ≤ t
not_held t x l h =
    elim (cases_lt t (end_of x)) [
      | inl k ↦ absurd (true≢false (sym (holds_true t x l k) ∙ h))
      | inr k ↦ k
    ]

-- ---- entries by place
-- what stands at a place, or that nothing does
pub data AtPlace (list : List Entry) (k : ℕ) : Type 0 where
  absent : slice_get list k ≡ None → AtPlace list k
  present : (x : Entry) → slice_get list k ≡ Some x → AtPlace list k

pub at_place : (list : List Entry) (k : ℕ) → AtPlace list k
at_place list k = by_option (slice_get list k) refl where
  by_option : (o : Option Entry) → slice_get list k ≡ o → AtPlace list k
  by_option None e = absent e
  by_option (Some x) e = present x e

-- of a list in order, earlier entries do not start later
ordered_in : (list : List Entry) (i k : ℕ) (x y : Entry) → IsAscending list → slice_get list i ≡ Some x → slice_get list k ≡ Some y → i ≤ k
    → x.moment ≤ y.moment
ordered_in [] i k x y o p q h = absurd (let w : None ≡ Some x = p in cc)
ordered_in (z ∷ list) zero zero x y o p q h = let e : x ≡ y = cc in let m : x.moment ≡ y.moment = ap (λ (w : Entry). w.moment) e in omega arith
ordered_in (z ∷ list) zero (suc k) x y o p q h =
    let same : z ≡ x = (let w : Some z ≡ Some x = p in cc) in
    let m : z.moment ≡ x.moment = ap (λ (w : Entry). w.moment) same in
    elim (of_each (Precedes z) list o.0 y (at_in list k y q)) [
      | inl before ↦ omega arith
      | inr beside ↦ (let e : z.moment ≡ y.moment = beside.0 in omega arith)
    ]
ordered_in (z ∷ list) (suc i) zero x y o p q h = absurd (omega arith)
ordered_in (z ∷ list) (suc i) (suc k) x y o p q h = ordered_in list i k x y o.1 p q (omega arith)

pub moments_rise : (list : List Entry) → IsAscending list → (i k : ℕ) (x y : Entry) → slice_get list i ≡ Some x → slice_get list k ≡ Some y → i ≤ k
    → x.moment ≤ y.moment
moments_rise list o i k x y p q h = ordered_in list i k x y o p q h

-- ---- what is live and what is seen
pub live_none : (list : List Entry) (t k : ℕ) → slice_get list k ≡ None → live_entry list t k ≡ None
live_none list t k e = ap (λ o. option_and_then (λ x. cond (holds t x) (Some (live_of list k x)) None) o) e

pub live_some : (list : List Entry) (t k : ℕ) (x : Entry) → slice_get list k ≡ Some x → live_entry list t k ≡ cond (holds t x) (Some (live_of list k x)) None
live_some list t k x e = ap (λ o. option_and_then (λ x. cond (holds t x) (Some (live_of list k x)) None) o) e

pub seen_none : (list : List Entry) (t k : ℕ) → slice_get list k ≡ None → seen_entry list t k ≡ None
seen_none list t k e = ap (λ o. option_and_then (λ x. cond (holds t x) (Some (seen_of list t k x)) None) o) e

pub seen_some : (list : List Entry) (t k : ℕ) (x : Entry) → slice_get list k ≡ Some x → seen_entry list t k ≡ cond (holds t x) (Some (seen_of list t k x)) None
seen_some list t k x e = ap (λ o. option_and_then (λ x. cond (holds t x) (Some (seen_of list t k x)) None) o) e

-- what is known of a live transmission
pub record LiveFacts (list : List Entry) (t : ℕ) (live : Live) : Type 0 where
  pub entry : Entry
  pub at : slice_get list live.at ≡ Some entry
  pub held : holds t entry ≡ true
  pub is : live ≡ live_of list live.at entry

pub live_facts : (list : List Entry) (t k : ℕ) (live : Live) → live_entry list t k ≡ Some live → (k ≡ live.at) × LiveFacts list t live
live_facts list t k live e = elim (at_place list k) [
  | absent n ↦ absurd (let w : None ≡ Some live = sym (live_none list t k n) ∙ e in cc)
  | present x p ↦
      let g = cond_some (holds t x) (live_of list k x) live (sym (live_some list t k x p) ∙ e) in
      let place : k ≡ live.at = ap (λ (l : Live). l.at) g.1 in (
        place,
        record {
          entry = x;
          at = ap (slice_get list) (sym place) ∙ p;
          held = g.0;
          is = sym g.1 ∙ ap (λ n. live_of list n x) place;
        },
      )
]

-- each is live
all_live : (list : List Entry) (t a n : ℕ) → AllByRecursion (IsLive list t) (filter_map (live_entry list t) (range_with_len a n))
all_live list t a zero = tt
all_live list t a (suc n) =
    all_cons (IsLive list t) (live_entry list t a) (filter_map (live_entry list t) (range_with_len (a + 1) n))
    (λ live e. ap (live_entry list t) (sym (live_facts list t a live e).0) ∙ e)
    (all_live list t (a + 1) n)

pub are_live : (list : List Entry) (t n : ℕ) → AllByRecursion (IsLive list t) (live_to list t n)
are_live list t n = all_live list t 0 n

-- ---- going on
-- those that have begun by t and end behind u are live at u
pub live_later : (list : List Entry) (t u n : ℕ) → t ≤ u → ((k : ℕ) (x : Entry) → k < n → slice_get list k ≡ Some x → x.moment ≤ t)
    → filter (ends_after u) (live_to list t n) ≡ live_to list u n
live_later list t u n l before =
    filter_along (ends_after u) (live_entry list t) (live_entry list u) 0 n (λ k low high. elim (at_place list k) [
      | absent e ↦ ap (kept_if (ends_after u)) (live_none list t k e) ∙ sym (live_none list u k e)
      | present x e ↦
          ap (kept_if (ends_after u)) (live_some list t k x e) ∙ at_entry k x (before k x (omega arith) e) ∙ sym (live_some list u k x e)
    ])
  where
    at_entry : (k : ℕ) (x : Entry) → x.moment ≤ t → kept_if (ends_after u) (cond (holds t x) (Some (live_of list k x)) None) ≡ cond (holds u x) (Some (live_of list k x)) None
    at_entry k x m =
        elim (cases_lt u (end_of x)) [
          | inl on ↦ (
              let h : holds t x ≡ true = holds_true t x m (omega arith) in
              let g : holds u x ≡ true = holds_true u x (omega arith) on in
              rw (h, g, lt-ltb u (end_of x) on) refl)
          | inr off ↦ (
              let g : holds u x ≡ false = holds_ended u x off in
              rw (g) (elim (holds t x) as (λ b. kept_if (ends_after u) (cond b (Some (live_of list k x)) None) ≡ None) [ true ↦ rw (le-ltb u (end_of x) off) refl | false ↦ refl ]))
        ]

-- the next one begins
pub live_begun : (list : List Entry) (t n : ℕ) (x : Entry) → slice_get list n ≡ Some x → x.moment ≤ t → t < end_of x
    → live_to list t (n + 1) ≡ live_to list t n ++ live_of list n x ∷ []
live_begun list t n x e m h =
    given_push (live_entry list t) n (live_of list n x) (live_some list t n x e ∙ ap (λ b. cond b (Some (live_of list n x)) None) (holds_true t x m h))

-- ---- what is seen
-- of the live ones is seen what is seen of the list
pub seen_is : (list : List Entry) (t n : ℕ) → n ≤ length list → ((k : ℕ) (x : Entry) → n ≤ k → slice_get list k ≡ Some x → t < x.moment)
    → filter_map (see list t) (live_to list t n) ≡ seen_at list t
seen_is list t n within ahead =
    given_along (see list t) (live_entry list t) (seen_entry list t) 0 n (λ k. at_entry k)
    ∙ sym (front_is (seen_entry list t) n (length list) within (λ k l. none k l))
  where
    at_entry : (k : ℕ) → option_and_then (see list t) (live_entry list t k) ≡ seen_entry list t k
    at_entry k = elim (at_place list k) [
      | absent e ↦ ap (option_and_then (see list t)) (live_none list t k e) ∙ sym (seen_none list t k e)
      | present x e ↦
          ap (option_and_then (see list t)) (live_some list t k x e)
          ∙ elim (cases_Bool (holds t x)) [
            | inl on ↦ ap (λ b. option_and_then (see list t) (cond b (Some (live_of list k x)) None)) on
            | inr off ↦ ap (λ b. option_and_then (see list t) (cond b (Some (live_of list k x)) None)) off
                ∙ sym (seen_some list t k x e ∙ ap (λ b. cond b (Some (seen_of list t k x)) None) off)
          ]
    ]

    none : (k : ℕ) → n ≤ k → seen_entry list t k ≡ None
    none k l = elim (at_place list k) [
      | absent e ↦ seen_none list t k e
      | present x e ↦ seen_some list t k x e ∙ ap (λ b. cond b (Some (seen_of list t k x)) None) (holds_ahead t x (ahead k x l e))
    ]

-- from t to below u the same is seen
pub same_seen : (list : List Entry) (t u n : ℕ) → n ≤ length list
    → ((k : ℕ) (x : Entry) → k < n → slice_get list k ≡ Some x → x.moment ≤ t)
    → ((k : ℕ) (x : Entry) → n ≤ k → slice_get list k ≡ Some x → u ≤ x.moment)
    → AllByRecursion (IsSteady list t u) (live_to list t n)
    → (v : ℕ) → t ≤ v → v < u → seen_at list v ≡ seen_at list t
same_seen list t u n within before ahead steady v low high =
    front_is (seen_entry list v) n (length list) within (λ k l. none v k l high)
    ∙ same_along (seen_entry list v) (seen_entry list t) 0 n (λ k l h. same k (omega arith))
    ∙ sym (front_is (seen_entry list t) n (length list) within (λ k l. none t k l (omega arith)))
  where
    none : (w k : ℕ) → n ≤ k → w < u → seen_entry list w k ≡ None
    none w k l h = elim (at_place list k) [
      | absent e ↦ seen_none list w k e
      | present x e ↦ (let m : u ≤ x.moment = ahead k x l e in
          seen_some list w k x e ∙ ap (λ b. cond b (Some (seen_of list w k x)) None) (holds_ahead w x (omega arith)))
    ]

    same : (k : ℕ) → k < n → seen_entry list v k ≡ seen_entry list t k
    same k h = elim (at_place list k) [
      | absent e ↦ seen_none list v k e ∙ sym (seen_none list t k e)
      | present x e ↦ elim (cases_Bool (holds t x)) [
        | inl on ↦
            let is : live_entry list t k ≡ Some (live_of list k x) = live_some list t k x e ∙ ap (λ b. cond b (Some (live_of list k x)) None) on in
            of_each (IsSteady list t u) (live_to list t n) steady (live_of list k x) (given_in (live_entry list t) 0 n k (live_of list k x) (omega arith) (omega arith) is) v low high
        | inr off ↦
            let m : x.moment ≤ t = before k x h e in
            let ended : end_of x ≤ t = not_held t x m off in
            seen_some list v k x e ∙ ap (λ b. cond b (Some (seen_of list v k x)) None) (holds_ended v x (omega arith))
            ∙ sym (seen_some list t k x e ∙ ap (λ b. cond b (Some (seen_of list t k x)) None) off)
      ]
    ]
