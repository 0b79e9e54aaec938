-- The last start of a terminal before a moment, and the first from one on.
use Rattle.std.proofs.Common.{◌≡◌, ℕ, ◌+◌, ◌<◌, ◌≤◌, ◌⊎◌, List, [], ◌∷◌, inl, inr, arith, sym, refl, ap, ◌∙◌}
use Rattle.std.proofs.lemmas.Bool.{cases_lt, cases_eq}
use Rattle.bus_strings.specs.Members.{In}
use Rattle.bus_strings.specs.Messages.{Entry}
use Rattle.bus_clocks.specs.Entries.{Entry as Sending}
use Rattle.bus_clocks.proofs.LastStarts.{find_last}
use Rattle.bus_recording_lawful.proofs.Ticks.{course, from_among, tick, to_among}

pub record Last (list : List Entry) (n t : ℕ) : Type 0 where
  pub x : Entry
  pub there : In x list
  pub mine : x.terminal ≡ n
  pub before : x.moment < t
  pub last : (y : Entry) → In y list → y.terminal ≡ n → y.moment < t → y.moment ≤ x.moment

pub last_before : (list : List Entry) (n t : ℕ) → ((x : Entry) → In x list → x.terminal ≡ n → x.moment < t → ⊥) ⊎ Last list n t
last_before list n t = elim (find_last (course 0 list).list n t) [
  | inl none ↦ inl (λ x i mine less. none (tick 0 x) (to_among 0 list x i) mine (let l : 0 + x.moment < t = omega arith in l))
  | inr p ↦
      let g = from_among 0 list p.0 p.1 in
      let m : p.0.moment ≡ 0 + g.0.moment = ap (λ (v : Sending). v.moment) g.2 in
      let low : p.0.moment < t = p.3 in
      inr (record {
        x = g.0;
        there = g.1;
        mine = sym (ap (λ (v : Sending). v.sender) g.2) ∙ p.2;
        before = omega arith;
        last = λ y i mine less. (let k : 0 + y.moment ≤ p.0.moment = p.4 (tick 0 y) (to_among 0 list y i) mine (let l : 0 + y.moment < t = omega arith in l) in omega arith);
      })
]

pub record First (list : List Entry) (n t : ℕ) : Type 0 where
  pub z : Entry
  pub there : In z list
  pub mine : z.terminal ≡ n
  pub from : t ≤ z.moment
  pub first : (y : Entry) → In y list → y.terminal ≡ n → t ≤ y.moment → z.moment ≤ y.moment

pub first_from : (list : List Entry) (n t : ℕ) → ((x : Entry) → In x list → x.terminal ≡ n → x.moment < t) ⊎ First list n t
first_from [] n t = inl (λ x i mine. absurd i)
first_from (w ∷ list) n t = elim (cases_eq w.terminal n) [
  | inr other ↦ elim (first_from list n t) [
    | inl none ↦ inl (λ x i mine. elim i [ inl same ↦ absurd (other (ap (λ (v : Entry). v.terminal) (sym same) ∙ mine)) | inr j ↦ none x j mine ])
    | inr f ↦ inr (record {
      z = f.z;
      there = inr f.there;
      mine = f.mine;
      from = f.from;
      first = λ y i mine up. elim i [ inl same ↦ absurd (other (ap (λ (v : Entry). v.terminal) (sym same) ∙ mine)) | inr j ↦ f.first y j mine up ];
    })
  ]
  | inl own ↦ elim (cases_lt w.moment t) [
    | inl early ↦ elim (first_from list n t) [
      | inl none ↦ inl (λ x i mine. elim i [
        | inl same ↦ (let e : x.moment ≡ w.moment = ap (λ (v : Entry). v.moment) same in omega arith)
        | inr j ↦ none x j mine
      ])
      | inr f ↦ inr (record {
        z = f.z;
        there = inr f.there;
        mine = f.mine;
        from = f.from;
        first = λ y i mine up. elim i [
          | inl same ↦ (let e : y.moment ≡ w.moment = ap (λ (v : Entry). v.moment) same in absurd (omega arith))
          | inr j ↦ f.first y j mine up
        ];
      })
    ]
    | inr late ↦ elim (first_from list n t) [
      | inl none ↦ inr (record {
        z = w;
        there = inl refl;
        mine = own;
        from = late;
        first = λ y i mine up. elim i [
          | inl same ↦ (let e : y.moment ≡ w.moment = ap (λ (v : Entry). v.moment) same in omega arith)
          | inr j ↦ (let l : y.moment < t = none y j mine in absurd (omega arith))
        ];
      })
      | inr f ↦ elim (cases_lt f.z.moment w.moment) [
        | inl sooner ↦ inr (record {
          z = f.z;
          there = inr f.there;
          mine = f.mine;
          from = f.from;
          first = λ y i mine up. elim i [
            | inl same ↦ (let e : y.moment ≡ w.moment = ap (λ (v : Entry). v.moment) same in omega arith)
            | inr j ↦ f.first y j mine up
          ];
        })
        | inr fine ↦ inr (record {
          z = w;
          there = inl refl;
          mine = own;
          from = late;
          first = λ y i mine up. elim i [
            | inl same ↦ (let e : y.moment ≡ w.moment = ap (λ (v : Entry). v.moment) same in omega arith)
            | inr j ↦ (let l : f.z.moment ≤ y.moment = f.first y j mine up in omega arith)
          ];
        })
      ]
    ]
  ]
]
