-- What is heard of a list tells when all are over, and whether the synchronization gap has elapsed since the last own start.
use Rattle.std.proofs.Common.{◌≡◌, ℕ, ◌+◌, ◌-◌, ◌<◌, ◌≤◌, true, false, ◌||◌, cond, eqb, leb, ltb, List, [], ◌∷◌, ◌++◌, length, inl, inr, arith, refl, sym, ap, subst, ◌∙◌}
use Rattle.std.specs.Prelude.{◌⊎◌, fold}
use Rattle.std.specs.List.{AllByRecursion, list_any}
use Rattle.std.proofs.lemmas.Bool.{cases_Bool, cases_lt, eq-eqb, eqb-true, lt-ltb, leb-true, leb-false, true≢false}
use Rattle.std.proofs.lemmas.List.{append_assoc, append-nil}
use Rattle.std.proofs.lemmas.List.Folds.{list_any-append}
use Rattle.std.proofs.lemmas.List.Elements.{filter-append}
use Rattle.bus_strings.proofs.MemberLaws.{from_filter, in_append_left, in_push, in_push_cases, of_each}
use Rattle.bus_strings.specs.Members.{In}
use Rattle.bus_strings.specs.Messages.{Entry}
use Rattle.bus_strings.specs.Transmissions.{IsByMoment, carrier, end_of, pulses}
use Rattle.bus_medium.specs.BusyLaws.{Heard as HeardAt, IsBusy}
use Rattle.bus_medium.proofs.BusyLaws.{entry_is_busy}
use Rattle.bus_medium.proofs.PastLaws.{before, carrier_push, no_carrier}
use Rattle.bus_picture.specs.Gaps.{Heard, heard_more, heard_next, heard_of, settled}

abbrev pub HaveWords : List Entry → Type 0
HaveWords l = (y : Entry) → In y l → 0 < length y.message

-- at place e a synchronization gap has elapsed behind all own starts
pub record Synced (q sg n : ℕ) (p : List Entry) (e : ℕ) : Type 0 where
  pub long : sg ≤ e
  pub silent : (u : ℕ) → e ≤ q + u + sg → q + u < e → carrier p u ≡ false
  pub own : (y : Entry) → In y p → y.terminal ≡ n → q + y.moment + sg ≤ e

-- nothing is heard
pub record Nothing (sg : ℕ) (p : List Entry) (h : Heard) : Type 0 where
  pub from : h.quiet_from ≡ sg
  pub synced : h.synchronized ≡ true
  pub none : (y : Entry) → In y p → ⊥

-- this one is the last to end
pub record Final (q : ℕ) (p : List Entry) (h : Heard) : Type 0 where
  pub entry : Entry
  pub there : In entry p
  pub ends : q + end_of entry ≡ h.quiet_from

-- the place lies where something began, or before all of it
abbrev pub IsEarly : ℕ → ℕ → List Entry → ℕ → Type 0
IsEarly q sg p e = (e ≤ sg) ⊎ ((z : Entry) × In z p × (e ≤ q + z.moment))

-- the synchronization gap has elapsed
pub record Elapses (q sg n : ℕ) (p : List Entry) : Type 0 where
  pub at : ℕ
  pub early : IsEarly q sg p at
  pub synced : Synced q sg n p at

pub record Knows (q sg n : ℕ) (p : List Entry) (h : Heard) : Type 0 where
  pub low : sg ≤ h.quiet_from
  pub ended : (y : Entry) → In y p → q + end_of y ≤ h.quiet_from
  pub final : Nothing sg p h ⊎ Final q p h
  pub elapsed : h.synchronized ≡ true → Elapses q sg n p
  pub waits : h.synchronized ≡ false → (e : ℕ) → e ≤ h.quiet_from → Synced q sg n p e → ⊥

-- ---- carrier
-- more transmissions take no carrier away
pub still : (p : List Entry) (x : Entry) (u : ℕ) → carrier (p ++ x ∷ []) u ≡ false → carrier p u ≡ false
still p x u none =
    let both : (carrier p u || list_any (pulses u) (x ∷ [])) ≡ false = sym (list_any-append (pulses u) p (x ∷ [])) ∙ none in
    elim (carrier p u) as (λ b. (b || list_any (pulses u) (x ∷ [])) ≡ false → b ≡ false) [
      | true ↦ λ h. h
      | false ↦ λ h. refl
    ] both

-- no synchronization gap fits into a transmission
pub too_short : (q sg n e : ℕ) (p : List Entry) (z : Entry) → 5 ≤ sg → In z p → 0 < length z.message → Synced q sg n p e
    → q + z.moment + sg ≤ e → e ≤ q + end_of z → ⊥
too_short q sg n e p z long there some s low high =
    let busy : IsBusy p z.moment (end_of z) = entry_is_busy p z there some in
    let k : ℕ = e - sg - q in
    let at : HeardAt p k = busy.soon k (omega arith) (omega arith) in
    let a : k ≤ at.at = at.low in
    let b : at.at ≤ k + 4 = at.high in
    true≢false (sym at.on ∙ s.silent at.at (omega arith) (omega arith))

-- the last bit time before the quiet is none of a synchronization gap
pub last_sounds : (q sg n e : ℕ) (p : List Entry) (h : Heard) (f : Final q p h) → HaveWords p → Synced q sg n p e
    → h.quiet_from ≤ e → h.quiet_from + sg ≤ e
last_sounds q sg n e p h f words s low =
    let z : Entry = f.entry in
    let busy : IsBusy p z.moment (end_of z) = entry_is_busy p z f.there (words z f.there) in
    let some : z.moment < end_of z = busy.some in
    let is : q + end_of z ≡ h.quiet_from = f.ends in
    elim (cases_lt e (h.quiet_from + sg)) [
      | inl less ↦ absurd (true≢false (sym busy.final ∙ s.silent (end_of z - 1) (omega arith) (omega arith)))
      | inr more ↦ more
    ]

-- ---- one more
module _ (q sg n : ℕ) (p : List Entry) (h : Heard) (x : Entry) (long : 5 ≤ sg) (settles : sg ≤ q) (words : HaveWords (p ++ x ∷ []))
    (order : (y : Entry) → In y p → y.moment ≤ x.moment) (k : Knows q sg n p h) where
  abbrev more : List Entry
  more = p ++ x ∷ []

  abbrev next : Heard
  next = heard_more q sg n h x

  some_words : HaveWords p
  some_words y i = words y (in_append_left p (x ∷ []) y i)

  next_ended : (y : Entry) → In y more → q + end_of y ≤ next.quiet_from
  next_ended y i =
      elim (in_push_cases p x y i) [
        | inl old ↦ omega (arith, k.ended y old)
        | inr now ↦ let e : end_of y ≡ end_of x = ap end_of now in omega arith
      ]

  next_final : Final q more next
  next_final =
      elim (cases_lt (q + end_of x) h.quiet_from) [
        | inr new ↦ record { entry = x; there = in_push p x; ends = omega arith }
        | inl old ↦ elim k.final [
          | inl none ↦ let f : h.quiet_from ≡ sg = none.from in absurd (omega arith)
          | inr f ↦ let e : q + end_of f.entry ≡ h.quiet_from = f.ends in record {
            entry = f.entry;
            there = in_append_left p (x ∷ []) f.entry f.there;
            ends = omega arith;
          }
        ]
      ]

  -- it had elapsed
  keeps : (x.terminal ≡ n → ⊥) → Elapses q sg n p → Elapses q sg n more
  keeps other e =
      let far : e.at ≤ q + x.moment = elim e.early [
        | inl low ↦ omega arith
        | inr z ↦ let m : z.0.moment ≤ x.moment = order z.0 z.1 in let l : e.at ≤ q + z.0.moment = z.2 in omega arith
      ] in
      record {
        at = e.at;
        early = inr (x, in_push p x, far);
        synced = record {
          long = e.synced.long;
          silent = λ u a b. carrier_push p x u (omega arith) ∙ e.synced.silent u a b;
          own = λ y i o. elim (in_push_cases p x y i) [
            | inl old ↦ e.synced.own y old o
            | inr now ↦ absurd (other (ap (λ (z : Entry). z.terminal) (sym now) ∙ o))
          ];
        };
      }

  -- it elapses in the quiet before
  reaches : (x.terminal ≡ n → ⊥) → h.quiet_from + sg ≤ q + x.moment → Elapses q sg n more
  reaches other low = record {
    at = h.quiet_from + sg;
    early = inr (x, in_push p x, low);
    synced = record {
      long = omega arith;
      silent = λ u a b. carrier_push p x u (omega arith)
          ∙ no_carrier p u (λ y i. inl (let w : q + end_of y ≤ h.quiet_from = k.ended y i in omega arith));
      own = λ y i o. elim (in_push_cases p x y i) [
        | inl old ↦ let w : q + end_of y ≤ h.quiet_from = k.ended y old in omega arith
        | inr now ↦ absurd (other (ap (λ (z : Entry). z.terminal) (sym now) ∙ o))
      ];
    };
  }

  next_elapsed : next.synchronized ≡ true → Elapses q sg n more
  next_elapsed yes' =
      elim (cases_Bool (eqb x.terminal n)) [
        | inl own ↦ absurd (true≢false (sym yes' ∙ ap (λ b. cond b false (h.synchronized || leb (h.quiet_from + sg) (q + x.moment))) own))
        | inr no' ↦
            let other : x.terminal ≡ n → ⊥ = λ e. true≢false (sym (eq-eqb x.terminal n e) ∙ no') in
            let or' : (h.synchronized || leb (h.quiet_from + sg) (q + x.moment)) ≡ true =
            ap (λ b. cond b false (h.synchronized || leb (h.quiet_from + sg) (q + x.moment))) (sym no') ∙ yes' in
            elim (cases_Bool h.synchronized) [
              | inl had ↦ keeps other (k.elapsed had)
              | inr had_not ↦ reaches other (leb-true (h.quiet_from + sg) (q + x.moment)
                  (ap (λ b. b || leb (h.quiet_from + sg) (q + x.moment)) (sym had_not) ∙ or'))
            ]
      ]

  -- not in an own message, nor in those that run beside it
  own_waits : x.terminal ≡ n → (e : ℕ) → e ≤ next.quiet_from → Synced q sg n more e → ⊥
  own_waits own e high s =
      let low : q + x.moment + sg ≤ e = s.own x (in_push p x) own in
      elim (cases_lt (q + end_of x) e) [
        | inr within ↦ too_short q sg n e more x long (in_push p x) (words x (in_push p x)) s low within
        | inl behind ↦ elim k.final [
          | inl none ↦ let f : h.quiet_from ≡ sg = none.from in omega arith
          | inr f ↦
              let z : Entry = f.entry in
              let is : q + end_of z ≡ h.quiet_from = f.ends in
              let m : z.moment ≤ x.moment = order z f.there in
              too_short q sg n e more z long (in_append_left p (x ∷ []) z f.there) (some_words z f.there) s (omega arith) (omega arith)
        ]
      ]

  -- not in that of another, where the quiet before was too short
  other_waits : h.synchronized ≡ false → q + x.moment < h.quiet_from + sg → (e : ℕ) → e ≤ next.quiet_from → Synced q sg n more e → ⊥
  other_waits had_not short e high s =
      let old : Synced q sg n p e = record {
        long = s.long;
        silent = λ u a b. still p x u (s.silent u a b);
        own = λ y i o. s.own y (in_append_left p (x ∷ []) y i) o;
      } in
      elim (cases_lt h.quiet_from e) [
        | inr before' ↦ k.waits had_not e before' old
        | inl behind ↦ elim k.final [
          | inl none ↦ true≢false (sym none.synced ∙ had_not)
          | inr f ↦
              let far : h.quiet_from + sg ≤ e = last_sounds q sg n e p h f some_words old (omega arith) in
              let busy : IsBusy more x.moment (end_of x) = entry_is_busy more x (in_push p x) (words x (in_push p x)) in
              elim (cases_lt (q + x.moment + sg) e) [
                | inl within ↦ too_short q sg n e more x long (in_push p x) (words x (in_push p x)) s (omega arith) (omega arith)
                | inr across ↦ true≢false (sym busy.first ∙ s.silent x.moment (omega arith) (omega arith))
              ]
        ]
      ]

  next_waits : next.synchronized ≡ false → (e : ℕ) → e ≤ next.quiet_from → Synced q sg n more e → ⊥
  next_waits not e high s =
      elim (cases_Bool (eqb x.terminal n)) [
        | inl own ↦ own_waits (eqb-true x.terminal n own) e high s
        | inr no' ↦
            let or' : (h.synchronized || leb (h.quiet_from + sg) (q + x.moment)) ≡ false =
            ap (λ b. cond b false (h.synchronized || leb (h.quiet_from + sg) (q + x.moment))) (sym no') ∙ not in
            elim (cases_Bool h.synchronized) [
              | inl had ↦ true≢false (ap (λ b. b || leb (h.quiet_from + sg) (q + x.moment)) (sym had) ∙ or')
              | inr had_not ↦ other_waits had_not (leb-false (h.quiet_from + sg) (q + x.moment)
                  (ap (λ b. b || leb (h.quiet_from + sg) (q + x.moment)) (sym had_not) ∙ or')) e high s
            ]
      ]

  pub knows_more : Knows q sg n more next
  knows_more = record {
    low = omega (arith, k.low);
    ended = next_ended;
    final = inr next_final;
    elapsed = next_elapsed;
    waits = next_waits;
  }

-- ---- all of those that begin before a moment
pub knows_none : (q sg n : ℕ) → Knows q sg n [] (settled sg)
knows_none q sg n = record {
  low = omega arith;
  ended = λ y i. absurd i;
  final = inl (record { from = refl; synced = refl; none = λ y i. i });
  elapsed = λ h. record {
    at = sg;
    early = inl (omega arith);
    synced = record { long = omega arith; silent = λ u a b. refl; own = λ y i o. absurd i };
  };
  waits = λ h. absurd (true≢false h);
}

-- what begins before a moment, with one more
before_more : (t : ℕ) (p : List Entry) (x : Entry) → before (p ++ x ∷ []) t ≡ before p t ++ cond (ltb x.moment t) (x ∷ []) []
before_more t p x = filter-append (λ (y : Entry). ltb y.moment t) p (x ∷ [])

by_moment : (q sg n t : ℕ) (p : List Entry) (h : Heard) (x : Entry) → 5 ≤ sg → sg ≤ q → HaveWords (p ++ x ∷ [])
    → ((y : Entry) → In y p → y.moment ≤ x.moment) → Knows q sg n (before p t) h
    → Knows q sg n (before (p ++ x ∷ []) t) (heard_next q sg n t h x)
by_moment q sg n t p h x long settles words order k =
    let inside : (y : Entry) → In y (before p t) → In y p = λ y i. (from_filter (λ (z : Entry). ltb z.moment t) p y i).0 in
    subst (λ l. Knows q sg n l (heard_next q sg n t h x)) (sym (before_more t p x))
    (elim (ltb x.moment t) as (λ b. Knows q sg n (before p t ++ cond b (x ∷ []) []) (cond b (heard_more q sg n h x) h)) [
      | true ↦ knows_more q sg n (before p t) h x long settles (λ y i. elim (in_push_cases (before p t) x y i) [
        | inl old ↦ words y (in_append_left p (x ∷ []) y (inside y old))
        | inr now ↦ words y (subst (λ z. In z (p ++ x ∷ [])) (sym now) (in_push p x))
      ]) (λ y i. order y (inside y i)) k
      | false ↦ subst (λ l. Knows q sg n l h) (sym (append-nil (before p t))) k
    ])

all_after : (q sg n t : ℕ) (p xs : List Entry) (h : Heard) → 5 ≤ sg → sg ≤ q → HaveWords (p ++ xs)
    → ((y x : Entry) → In y p → In x xs → y.moment ≤ x.moment) → IsByMoment xs → Knows q sg n (before p t) h
    → Knows q sg n (before (p ++ xs) t) (fold (heard_next q sg n t) h xs)
all_after q sg n t p [] h long settles words order rises k = subst (λ l. Knows q sg n (before l t) h) (sym (append-nil p)) k
all_after q sg n t p (x ∷ xs) h long settles words order rises k =
    let same : (p ++ x ∷ []) ++ xs ≡ p ++ x ∷ xs = append_assoc p (x ∷ []) xs in
    let words' : HaveWords ((p ++ x ∷ []) ++ xs) = subst HaveWords (sym same) words in
    let one : Knows q sg n (before (p ++ x ∷ []) t) (heard_next q sg n t h x) =
    by_moment q sg n t p h x long settles (λ y i. words' y (in_append_left (p ++ x ∷ []) xs y i)) (λ y i. order y x i (inl refl)) k in
    subst (λ l. Knows q sg n (before l t) (fold (heard_next q sg n t) (heard_next q sg n t h x) xs)) same
    (all_after q sg n t (p ++ x ∷ []) xs (heard_next q sg n t h x) long settles words' (λ y z i j. elim (in_push_cases p x y i) [
      | inl old ↦ order y z old (inr j)
      | inr now ↦ subst (λ (w : Entry). w.moment ≤ z.moment) (sym now) (of_each (λ (w : Entry). x.moment ≤ w.moment) xs rises.0 z j)
    ]) rises.1 one)

pub knows_all : (q sg n t : ℕ) (xs : List Entry) → 5 ≤ sg → sg ≤ q → HaveWords xs → IsByMoment xs
    → Knows q sg n (before xs t) (heard_of q sg n t xs)
knows_all q sg n t xs long settles words rises =
    all_after q sg n t [] xs (settled sg) long settles words (λ y x i. absurd i) rises (knows_none q sg n)

-- Where all begin before a moment, all are heard.
pub all_heard : (q sg n t : ℕ) (h : Heard) (p : List Entry) → AllByRecursion (λ (y : Entry). y.moment < t) p
    → fold (heard_more q sg n) h p ≡ fold (heard_next q sg n t) h p
all_heard q sg n t h [] low = refl
all_heard q sg n t h (y ∷ p) low =
    all_heard q sg n t (heard_more q sg n h y) p low.1
    ∙ ap (λ b. fold (heard_next q sg n t) (cond b (heard_more q sg n h y) h) p) (sym (lt-ltb y.moment t low.0))
