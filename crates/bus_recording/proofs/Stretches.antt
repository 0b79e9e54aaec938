-- The stretches of a walk for late starts, one by one.
use Rattle.std.specs.Prelude.{nat_le, nat_lt, max}
use Rattle.std.proofs.Common.{◌≡◌, ◌⊎◌, ℕ, ◌+◌, ◌<◌, ◌≤◌, List, ◌∷◌, Option, Some, None, inl, inr, arith, sym, refl, ap, ◌∙◌}
use Rattle.std.proofs.lemmas.Bool.{cases_Bool, leb-true, ltb-true, le-leb, lt-ltb}
use Rattle.bus_recording.specs.Seen.{IsIn, Monitor, Seen}
use Rattle.bus_recording.specs.Walk.{Ascends, IsLateWalk, due_in, elapsed_by, first_of}

pub some_one : (a b : ℕ) → Some a ≡ Some b → a ≡ b
some_one a b is = cc

pub none_some : (b : ℕ) → None ≡ Some b → ⊥
none_some b is = cc

-- where the gap elapses
pub elapsed_some : (sg c m v : ℕ) (e : Option ℕ) → elapsed_by sg c m e ≡ Some v → (e ≡ Some v) ⊎ ((c + sg ≡ v) × (c + sg ≤ m))
elapsed_some sg c m v (Some e) is = inl is
elapsed_some sg c m v None is = elim (cases_Bool (nat_le (c + sg) m)) [
  | inl yes' ↦ inr (some_one (c + sg) v (sym (rw yes' refl) ∙ is), leb-true (c + sg) m yes')
  | inr no' ↦ absurd (none_some v (sym (rw no' refl) ∙ is))
]

pub elapsed_is : (sg c m : ℕ) → c + sg ≤ m → elapsed_by sg c m None ≡ Some (c + sg)
elapsed_is sg c m le = rw (le-leb (c + sg) m le) refl

abbrev pub top : ℕ → ℕ → ℕ → ℕ → ℕ
top tg over c e = max over (max (e + tg) (c + tg))

-- what is due in a stretch
pub due_some : (tg over start c m t : ℕ) (e : ℕ) → due_in tg over start c m (Some e) ≡ Some t → (top tg over c e ≡ t) × (t ≤ m) × (t < start)
due_some tg over start c m t e is = elim (cases_Bool (nat_le (top tg over c e) m)) [
  | inr no' ↦ absurd (none_some t (sym (rw no' refl) ∙ is))
  | inl yes' ↦ elim (cases_Bool (nat_lt (top tg over c e) start)) [
    | inr no' ↦ absurd (none_some t (sym (rw (yes', no') refl) ∙ is))
    | inl also ↦
        let same : top tg over c e ≡ t = some_one (top tg over c e) t (sym (rw (yes', also) refl) ∙ is) in
        let low : top tg over c e ≤ m = leb-true (top tg over c e) m yes' in
        let less : top tg over c e < start = ltb-true (top tg over c e) start also in
        (same, omega arith, omega arith)
  ]
]

pub due_is : (tg over start c m e : ℕ) → top tg over c e ≤ m → top tg over c e < start → due_in tg over start c m (Some e) ≡ Some (top tg over c e)
due_is tg over start c m e low less = rw (le-leb (top tg over c e) m low, lt-ltb (top tg over c e) start less) refl

-- one of them, or the other
pub first_cases : (a b : Option ℕ) (t : ℕ) → first_of a b ≡ Some t → (a ≡ Some t) ⊎ (b ≡ Some t)
first_cases (Some s) b t is = inl is
first_cases None b t is = inr is

pub first_some : (a b : Option ℕ) (t : ℕ) → a ≡ Some t → first_of a b ≡ Some t
first_some a b t is = ap (λ v. first_of v b) is

-- a walk that goes on
pub record Going (monitor : Monitor) (recording : List Seen) (o y : Seen) (c : ℕ) (l : List Seen) : Type 0 where
  pub ascends : Ascends l
  pub settles : monitor.settled ≤ c
  pub own : o.latest ≤ c
  pub there : (r : Seen) → IsIn r l → IsIn r recording × ((r ≡ o) → ⊥) × (r.moment ≤ y.moment) × (r.moment ≤ r.latest)
  pub others : (r : Seen) → IsIn r recording → (r ≡ o) ⊎ (IsIn r l ⊎ ((r.latest + monitor.rest ≤ c) ⊎ (y.moment ≤ r.moment)))

pub begins : (monitor : Monitor) (recording : List Seen) (o y : Seen) (c : ℕ) (l : List Seen) → IsLateWalk monitor recording o y c l → Going monitor recording o y c l
begins monitor recording o y c l w = record { ascends = w.ascends; settles = w.settles; own = w.own; there = w.there; others = w.others }

pub goes_on : (monitor : Monitor) (recording : List Seen) (o y : Seen) (c : ℕ) (r : Seen) (l : List Seen) → Going monitor recording o y c (r ∷ l)
    → Going monitor recording o y (max c (r.latest + monitor.rest)) l
goes_on monitor recording o y c r l w =
    let s : monitor.settled ≤ c = w.settles in
    let own : o.latest ≤ c = w.own in
    record {
      ascends = w.ascends.1;
      settles = omega arith;
      own = omega arith;
      there = λ q i. w.there q (inr i);
      others = λ x i. elim (w.others x i) [
        | inl same ↦ inl same
        | inr other ↦ elim other [
          | inl inside ↦ elim inside [
            | inl same ↦ (let k : x.latest ≡ r.latest = ap (λ (v : Seen). v.latest) same in inr (inr (inl (omega arith))))
            | inr j ↦ inr (inl j)
          ]
          | inr outside ↦ elim outside [ inl over ↦ inr (inr (inl (omega arith))) | inr late ↦ inr (inr (inr late)) ]
        ]
      ];
    }

pub far_of : (r : Seen) (l : List Seen) → Ascends (r ∷ l) → (q : Seen) → IsIn q (r ∷ l) → r.moment ≤ q.moment
far_of r l up q (inl same) = (let k : q.moment ≡ r.moment = ap (λ (v : Seen). v.moment) same in omega arith)
far_of r l up q (inr j) = up.0 q j
