-- Behind the last power-up a synchronization gap comes soon that all senders hear from its beginning on: until then each sends once at most.
use Rattle.std.proofs.Common.{◌≡◌, ℕ, zero, suc, ◌+◌, ◌<◌, ◌≤◌, ◌⊎◌, List, [], ◌∷◌, length, inl, inr, arith, sym, refl, ap, ◌∙◌, subst}
use Rattle.std.specs.Prelude.{sum_by}
use Rattle.std.proofs.lemmas.Bool.{cases_lt}
use Rattle.std.proofs.lemmas.List.Sums.{sum_by-cons}
use Rattle.bus_strings.specs.Members.{In}
use Rattle.bus_strings.specs.Messages.{Entry, bits}
use Rattle.bus_strings.specs.Transmissions.{end_of}
use Rattle.bus_table.specs.Tables.{Sender}
use Rattle.bus_table.specs.Lengths.{longest}
use Rattle.bus_medium.specs.Lawful.{HasEntry}
use Rattle.bus_medium.proofs.Hearing.{own_none}
use Rattle.bus_reach.proofs.Minding.{Bus, sent, Clock, clock_due, clock_idle, clock_power, first_due, some_sg, IsRest, IsIdle, rest_idle, Cluster, next_cluster, alone, rest_behind, clock_elapsed, clock_waiting, clock_inside, clock_own}
use Rattle.bus_reach.proofs.SpreadLemmas.{first_of_some}
use Rattle.bus_medium.specs.Wakes.{woken_place}
use Rattle.bus_medium.proofs.Waking.{GapAt, at_settled}

-- a list of senders without one
abbrev pub without : (l : List Sender) (b : Sender) → In b l → List Sender
without [] b i = []
without (a ∷ l) b (inl same) = l
without (a ∷ l) b (inr i) = a ∷ without l b i

pub without_in : (l : List Sender) (b : Sender) (i : In b l) (c : Sender) → In c l → (c ≡ b) ⊎ In c (without l b i)
without_in [] b i c j = absurd i
without_in (a ∷ l) b (inl same) c (inl here) = inl (here ∙ sym same)
without_in (a ∷ l) b (inl same) c (inr j) = inr j
without_in (a ∷ l) b (inr i) c (inl here) = inr (inl here)
without_in (a ∷ l) b (inr i) c (inr j) = elim (without_in l b i c j) [ inl e ↦ inl e | inr k ↦ inr (inr k) ]

pub without_length : (l : List Sender) (b : Sender) (i : In b l) → suc (length (without l b i)) ≡ length l
without_length [] b i = absurd i
without_length (a ∷ l) b (inl same) = refl
without_length (a ∷ l) b (inr i) = ap suc (without_length l b i)

-- how long they take at most
abbrev pub weight : List Sender → ℕ
weight l = sum_by (λ (c : Sender). c.tg + longest c) l

pub without_weight : (l : List Sender) (b : Sender) (i : In b l) → b.tg + longest b + weight (without l b i) ≡ weight l
without_weight [] b i = absurd i
without_weight (a ∷ l) b (inl same) = ap (λ (c : Sender). c.tg + longest c + weight l) same ∙ sym (sum_by-cons (λ (c : Sender). c.tg + longest c) a l)
without_weight (a ∷ l) b (inr i) =
    omega (arith, without_weight l b i, sum_by-cons (λ (c : Sender). c.tg + longest c) a l, sum_by-cons (λ (c : Sender). c.tg + longest c) a (without l b i))

-- what is known where all that began has ended
abbrev pub Known : Bus → ℕ → Type 0
Known s v = (b : Sender) → In b s.table.senders → s.wake b.number ≤ s.table.sg + v → (G : ℕ) × (G ≤ s.table.sg + v + s.table.sg) × Clock s b v G

-- a sender counts its terminal gap from there, or from one synchronization gap later
abbrev pub Two : Bus → Sender → ℕ → Type 0
Two s b v = Clock s b v (s.table.sg + v) ⊎ Clock s b v (s.table.sg + v + s.table.sg)

known_start : (s : Bus) → Known s 0
known_start s b i powered =
    let sg : 5 ≤ s.table.sg = some_sg s in (
      s.table.sg + s.wake b.number,
      omega arith,
      (let none = own_none s.list b.number 0 (λ x j mine. omega arith) in record {
        at = subst (λ o. GapAt s.table.sg s.table.sg (s.wake b.number) s.list 0 (woken_place s.table.sg (s.wake b.number) o) (s.table.sg + s.wake b.number)) (sym none)
            (at_settled s.table.sg s.table.sg (s.wake b.number) s.list (omega arith) (omega arith));
        low = omega arith;
        ti = first_due s b 0 (s.table.sg + s.wake b.number) none (omega arith);
      }),
    )

at_moment : (s : Bus) (v u : ℕ) → IsRest s v → IsIdle s v u → v ≤ u → Known s v → (b : Sender) → In b s.table.senders → s.wake b.number ≤ s.table.sg + u
    → (G : ℕ) × (G ≤ s.table.sg + u + s.table.sg) × Clock s b u G
at_moment s v u rest idle low known b i powered = elim (cases_lt (s.table.sg + v) (s.wake b.number)) [
  | inl later ↦ (s.wake b.number + s.table.sg, omega arith, clock_power s b v u rest idle (omega arith) powered)
  | inr before ↦ let k = known b i before in (k.0, (let h : k.0 ≤ s.table.sg + v + s.table.sg = k.1 in omega arith), clock_idle s b v u k.0 rest idle low before k.2)
]

pub two_behind : (s : Bus) (v : ℕ) (x : Entry) → IsRest s v → Known s v → Cluster s v x → (b : Sender) → In b s.table.senders → s.wake b.number ≤ s.table.sg + end_of x
    → Two s b (end_of x)
two_behind s v x rest known c b i powered = elim (cases_lt (s.table.sg + x.moment) (s.wake b.number)) [
  | inl inside ↦ inr (clock_inside s v x c b inside powered)
  | inr before ↦
      let k = at_moment s v x.moment rest c.idle c.first known b i before in
      let due = clock_due s b x.moment k.0 i (sent s x c.there).soon k.2 before in
      elim (cases_lt (s.table.sg + x.moment) (k.0 + b.tg)) [
        | inl early ↦
            let none : HasEntry s.list b.number x.moment → ⊥ = λ h. (let w : k.0 + b.tg ≤ s.table.sg + x.moment = due.0 h in omega arith) in
            elim (cases_lt (s.table.sg + x.moment) k.0) [
              | inl waits ↦ inr (clock_waiting s v x c b k.0 before none k.2 waits k.1)
              | inr elapsed ↦ inl (clock_elapsed s v x c b k.0 before none k.2 elapsed)
            ]
        | inr now ↦ inr (clock_own s v x c b i (due.1 now))
      ]
]

known_behind : (s : Bus) (v : ℕ) (x : Entry) → IsRest s v → Known s v → Cluster s v x → Known s (end_of x)
known_behind s v x rest known c b i powered = elim (two_behind s v x rest known c b i powered) [
  | inl k ↦ (s.table.sg + end_of x, omega arith, k)
  | inr k ↦ (s.table.sg + end_of x + s.table.sg, omega arith, k)
]

module _ (s : Bus) (up : ℕ) (wakes : (b : Sender) → In b s.table.senders → s.wake b.number ≤ up + s.table.sg)
    (room : up + (s.table.sg + weight s.table.senders) + s.table.sg ≤ s.end) where
  short : (b : Sender) → In b s.table.senders → b.tg < s.table.sg
  short b i = (s.sound b i).tg_short

  fits_in : (b : Sender) → In b s.table.senders → b.tg + longest b ≤ weight s.table.senders
  fits_in b i = omega (arith, without_weight s.table.senders b i)

  -- a sender is due soon behind the last power-up
  due_soon : (v : ℕ) → IsRest s v → Known s v → v ≤ up → (b : Sender) → In b s.table.senders → IsIdle s v (up + s.table.sg + b.tg + 1) → ⊥
  due_soon v rest known low b i idle =
      let sg : 5 ≤ s.table.sg = some_sg s in
      let powered : s.wake b.number ≤ up + s.table.sg = wakes b i in
      let fit : b.tg + longest b ≤ weight s.table.senders = fits_in b i in
      let idle_up : IsIdle s v up = λ x j from. (let k : up + s.table.sg + b.tg + 1 ≤ x.moment = idle x j from in omega arith) in
      let idle_on : IsIdle s up (up + s.table.sg + b.tg) = λ x j from. (let k : up + s.table.sg + b.tg + 1 ≤ x.moment = idle x j (omega arith) in omega arith) in
      let k = at_moment s v up rest idle_up low known b i (omega arith) in
      let high : k.0 ≤ s.table.sg + up + s.table.sg = k.1 in
      let c : Clock s b (up + s.table.sg + b.tg) k.0 = clock_idle s b up (up + s.table.sg + b.tg) k.0 (rest_idle s v up rest idle_up low) idle_on (omega arith) (omega arith) k.2 in
      let h = (clock_due s b (up + s.table.sg + b.tg) k.0 i (omega arith) c (omega arith)).1 (omega arith) in
      let at : h.entry.moment ≡ up + s.table.sg + b.tg = h.moment in
      let far : up + s.table.sg + b.tg + 1 ≤ h.entry.moment = idle h.entry h.there (omega arith) in
      omega arith

  -- the first that is under way behind the last power-up
  record Begun : Type 0 where
    v : ℕ
    x : Entry
    rest : IsRest s v
    known : Known s v
    low : v ≤ up
    cluster : Cluster s v x
    high : up < end_of x
    soon : (b : Sender) → In b s.table.senders → x.moment ≤ up + s.table.sg + b.tg

  soon_at : (v : ℕ) → IsRest s v → Known s v → v ≤ up → (x : Entry) → Cluster s v x → (b : Sender) → In b s.table.senders → x.moment ≤ up + s.table.sg + b.tg
  soon_at v rest known low x c b i = elim (cases_lt (up + s.table.sg + b.tg) x.moment) [
    | inl far ↦ absurd (due_soon v rest known low b i (λ y j from. let k : x.moment ≤ y.moment = c.idle y j from in omega arith))
    | inr near ↦ near
  ]

  begun_at : (v : ℕ) → IsRest s v → Known s v → v ≤ up → (x : Entry) × Cluster s v x
  begun_at v rest known low = elim (next_cluster s v) [
    | inl none ↦ (let b = first_of_some s.table.senders s.facts.some in absurd (due_soon v rest known low b.0 b.1 (λ x i from. absurd (none x i from))))
    | inr f ↦ f
  ]

  seek : (n v : ℕ) → up ≤ v + n → v ≤ up → IsRest s v → Known s v → Begun
  seek zero v far low rest known =
      let f = begun_at v rest known low in
      let first : v ≤ f.0.moment = f.1.first in
      let bit : 0 < bits f.0.message = (sent s f.0 f.1.there).bit in
      record { v = v; x = f.0; rest = rest; known = known; low = low; cluster = f.1; high = omega arith; soon = soon_at v rest known low f.0 f.1 }
  seek (suc n) v far low rest known =
      let f = begun_at v rest known low in
      let first : v ≤ f.0.moment = f.1.first in
      let bit : 0 < bits f.0.message = (sent s f.0 f.1.there).bit in
      elim (cases_lt up (end_of f.0)) [
        | inl over ↦ record { v = v; x = f.0; rest = rest; known = known; low = low; cluster = f.1; high = over; soon = soon_at v rest known low f.0 f.1 }
        | inr on ↦ seek n (end_of f.0) (omega arith) on (rest_behind s v f.0 rest f.1) (known_behind s v f.0 rest known f.1)
      ]

  begun : Begun
  begun = seek up 0 (omega arith) (omega arith) (λ x i less. absurd (omega arith)) (known_start s)

  -- of one sender nothing follows before moment v
  abbrev pub Once : ℕ → Type 0
  Once v = (x y : Entry) → In x s.list → In y s.list → x.terminal ≡ y.terminal → up ≤ x.moment → x.moment < y.moment → v ≤ y.moment

  -- who has spoken waits for a synchronization gap
  abbrev pub Spoke : ℕ → Type 0
  Spoke v = (x : Entry) → In x s.list → up ≤ x.moment → x.moment < v → (b : Sender) → In b s.table.senders → x.terminal ≡ b.number → Clock s b v (s.table.sg + v + s.table.sg)

  -- a synchronization gap that all hear from its beginning on
  pub record Calm : Type 0 where
    pub v : ℕ
    pub low : up ≤ v
    pub rest : IsRest s v
    pub idle : IsIdle s v (v + s.table.sg)
    pub out : (b : Sender) → In b s.table.senders → Clock s b v (s.table.sg + v + s.table.sg)
    pub once : Once v
    pub soon : v ≤ up + (s.table.sg + weight s.table.senders)

  -- at moment v those of l may still speak before
  record Calming (v : ℕ) (l : List Sender) : Type 0 where
    low : up ≤ v
    rest : IsRest s v
    all : (b : Sender) → In b s.table.senders → (In b l × Two s b v) ⊎ Clock s b v (s.table.sg + v + s.table.sg)
    spoke : Spoke v
    once : Once v
    soon : v + weight l ≤ up + (s.table.sg + weight s.table.senders)

  module _ (v : ℕ) (l : List Sender) (m : Calming v l) where
    powered : (b : Sender) → In b s.table.senders → s.wake b.number ≤ s.table.sg + v
    powered b i = let k : s.wake b.number ≤ up + s.table.sg = wakes b i in let low : up ≤ v = m.low in omega arith

    -- one that is in sync starts its terminal gap behind moment v, at the latest
    no_later : (b : Sender) → In b s.table.senders → Clock s b v (s.table.sg + v) → (u : ℕ) → IsIdle s v u → v + b.tg < u → ⊥
    no_later b i k u idle less =
        let soon : v + weight l ≤ up + (s.table.sg + weight s.table.senders) = m.soon in
        let brief : b.tg < s.table.sg = short b i in
        let woken : s.wake b.number ≤ s.table.sg + v = powered b i in
        let c : Clock s b (v + b.tg) (s.table.sg + v) = clock_idle s b v (v + b.tg) (s.table.sg + v) m.rest (λ x j from. let w : u ≤ x.moment = idle x j from in omega arith) (omega arith) woken k in
        let h = (clock_due s b (v + b.tg) (s.table.sg + v) i (omega arith) c (omega arith)).1 (omega arith) in
        let at : h.entry.moment ≡ v + b.tg = h.moment in
        let far : u ≤ h.entry.moment = idle h.entry h.there (omega arith) in
        omega arith

    finish : IsIdle s v (v + s.table.sg) → Calm
    finish idle = record {
      v = v;
      low = m.low;
      rest = m.rest;
      idle = idle;
      out = λ b i. elim (m.all b i) [
        | inr out ↦ out
        | inl p ↦ elim p.1 [
          | inr out ↦ out
          | inl sync ↦ (let brief : b.tg < s.table.sg = short b i in absurd (no_later b i sync (v + s.table.sg) idle (omega arith)))
        ]
      ];
      once = m.once;
      soon = (let soon : v + weight l ≤ up + (s.table.sg + weight s.table.senders) = m.soon in omega arith);
    }

    module _ (x : Entry) (c : Cluster s v x) (near : x.moment < v + s.table.sg) where
      out_silent : (b : Sender) → In b s.table.senders → Clock s b v (s.table.sg + v + s.table.sg) → HasEntry s.list b.number x.moment → ⊥
      out_silent b i k h =
          let woken : s.wake b.number ≤ s.table.sg + v = powered b i in
          let first : v ≤ x.moment = c.first in
          let there : Clock s b x.moment (s.table.sg + v + s.table.sg) = clock_idle s b v x.moment (s.table.sg + v + s.table.sg) m.rest c.idle first woken k in
          let due : s.table.sg + v + s.table.sg + b.tg ≤ s.table.sg + x.moment =
          (clock_due s b x.moment (s.table.sg + v + s.table.sg) i (sent s x c.there).soon there (omega arith)).0 h in
          omega arith

      out_stays : (b : Sender) → In b s.table.senders → Clock s b v (s.table.sg + v + s.table.sg) → Clock s b (end_of x) (s.table.sg + end_of x + s.table.sg)
      out_stays b i k =
          let woken : s.wake b.number ≤ s.table.sg + v = powered b i in
          let first : v ≤ x.moment = c.first in
          clock_waiting s v x c b (s.table.sg + v + s.table.sg) (omega arith) (out_silent b i k)
          (clock_idle s b v x.moment (s.table.sg + v + s.table.sg) m.rest c.idle first woken k) (omega arith) (omega arith)

      -- who starts was in sync, and has the terminal gap that has passed
      starter : (b : Sender) → In b s.table.senders → HasEntry s.list b.number x.moment → In b l × (x.moment ≡ v + b.tg)
      starter b i h = elim (m.all b i) [
        | inr out ↦ absurd (out_silent b i out h)
        | inl p ↦ elim p.1 [
          | inr out ↦ absurd (out_silent b i out h)
          | inl sync ↦
              let woken : s.wake b.number ≤ s.table.sg + v = powered b i in
              let first : v ≤ x.moment = c.first in
              let due : s.table.sg + v + b.tg ≤ s.table.sg + x.moment =
              (clock_due s b x.moment (s.table.sg + v) i (sent s x c.there).soon (clock_idle s b v x.moment (s.table.sg + v) m.rest c.idle first woken sync) (omega arith)).0 h in (
                p.0,
                elim (cases_lt (v + b.tg) x.moment) [
                  | inl far ↦ absurd (no_later b i sync x.moment c.idle far)
                  | inr at ↦ omega arith
                ],
              )
        ]
      ]

      here : HasEntry s.list (sent s x c.there).by.number x.moment
      here = record { entry = x; there = c.there; moment = refl; terminal = (sent s x c.there).number }

      one : In (sent s x c.there).by l × (x.moment ≡ v + (sent s x c.there).by.tg)
      one = starter (sent s x c.there).by (sent s x c.there).there here

      all_then : (b : Sender) → In b s.table.senders
          → (In b (without l (sent s x c.there).by one.0) × Two s b (end_of x)) ⊎ Clock s b (end_of x) (s.table.sg + end_of x + s.table.sg)
      all_then b i = elim (m.all b i) [
        | inr out ↦ inr (out_stays b i out)
        | inl p ↦ elim p.1 [
          | inr out ↦ inr (out_stays b i out)
          | inl sync ↦
              let woken : s.wake b.number ≤ s.table.sg + v = powered b i in
              let first : v ≤ x.moment = c.first in
              let at : Clock s b x.moment (s.table.sg + v) = clock_idle s b v x.moment (s.table.sg + v) m.rest c.idle first woken sync in
              let due = clock_due s b x.moment (s.table.sg + v) i (sent s x c.there).soon at (omega arith) in
              elim (cases_lt x.moment (v + b.tg)) [
                | inl early ↦
                    let none : HasEntry s.list b.number x.moment → ⊥ = λ h. (let w : s.table.sg + v + b.tg ≤ s.table.sg + x.moment = due.0 h in omega arith) in
                    elim (without_in l (sent s x c.there).by one.0 b p.0) [
                      | inl same ↦
                          let e : b.tg ≡ (sent s x c.there).by.tg = ap (λ (z : Sender). z.tg) same in
                          let f : x.moment ≡ v + (sent s x c.there).by.tg = one.1 in
                          absurd (omega arith)
                      | inr k ↦ inl (k, inl (clock_elapsed s v x c b (s.table.sg + v) (omega arith) none at (omega arith)))
                    ]
                | inr now ↦ inr (clock_own s v x c b i (due.1 (omega arith)))
              ]
        ]
      ]

      spoke_then : Spoke (end_of x)
      spoke_then y j from to b i mine = elim (cases_lt y.moment v) [
        | inl before ↦ out_stays b i (m.spoke y j from before b i mine)
        | inr after ↦
            let k : x.moment ≤ y.moment = c.idle y j after in
            elim (cases_lt x.moment y.moment) [
              | inl later ↦ let w : end_of x ≤ y.moment = alone s x c.there y j later in absurd (omega arith)
              | inr at ↦ clock_own s v x c b i (record { entry = y; there = j; moment = omega arith; terminal = mine })
            ]
      ]

      once_then : Once (end_of x)
      once_then y z i j same from less =
          let low : v ≤ z.moment = m.once y z i j same from less in
          let k : x.moment ≤ z.moment = c.idle z j low in
          elim (cases_lt x.moment z.moment) [
            | inl later ↦ alone s x c.there z j later
            | inr at ↦
                let f = sent s z j in
                let early : y.moment < v = elim (cases_lt y.moment v) [
                  | inl before ↦ before
                  | inr after ↦ let w : x.moment ≤ y.moment = c.idle y i after in absurd (omega arith)
                ] in
                absurd (out_silent f.by f.there (m.spoke y i from early f.by f.there (same ∙ f.number))
                (record { entry = z; there = j; moment = omega arith; terminal = f.number }))
          ]

      soon_then : end_of x + weight (without l (sent s x c.there).by one.0) ≤ up + (s.table.sg + weight s.table.senders)
      soon_then =
          let soon : v + weight l ≤ up + (s.table.sg + weight s.table.senders) = m.soon in
          let most : bits x.message ≤ longest (sent s x c.there).by = (sent s x c.there).most in
          let at : x.moment ≡ v + (sent s x c.there).by.tg = one.1 in
          omega (arith, without_weight l (sent s x c.there).by one.0)

      calming_then : Calming (end_of x) (without l (sent s x c.there).by one.0)
      calming_then = record {
        low = (let low : up ≤ v = m.low in let first : v ≤ x.moment = c.first in omega arith);
        rest = rest_behind s v x m.rest c;
        all = all_then;
        spoke = spoke_then;
        once = once_then;
        soon = soon_then;
      }

  calm_on : (n v : ℕ) (l : List Sender) → length l ≤ n → Calming v l → Calm
  calm_on zero v l few m = elim (next_cluster s v) [
    | inl none ↦ finish v l m (λ x i from. absurd (none x i from))
    | inr f ↦ elim (cases_lt f.0.moment (v + s.table.sg)) [
      | inr far ↦ finish v l m (λ x i from. let k : f.0.moment ≤ x.moment = f.1.idle x i from in omega arith)
      | inl near ↦ absurd (omega (arith, without_length l (sent s f.0 f.1.there).by (one v l m f.0 f.1 near).0))
    ]
  ]
  calm_on (suc n) v l few m = elim (next_cluster s v) [
    | inl none ↦ finish v l m (λ x i from. absurd (none x i from))
    | inr f ↦ elim (cases_lt f.0.moment (v + s.table.sg)) [
      | inr far ↦ finish v l m (λ x i from. let k : f.0.moment ≤ x.moment = f.1.idle x i from in omega arith)
      | inl near ↦ calm_on n (end_of f.0) (without l (sent s f.0 f.1.there).by (one v l m f.0 f.1 near).0) (omega (arith, without_length l (sent s f.0 f.1.there).by (one v l m f.0 f.1 near).0))
          (calming_then v l m f.0 f.1 near)
    ]
  ]

  calming_first : (b : Begun) → Calming (end_of b.x) (without s.table.senders (sent s b.x b.cluster.there).by (sent s b.x b.cluster.there).there)
  calming_first b =
      let f = sent s b.x b.cluster.there in
      let high : up < end_of b.x = b.high in
      let low : b.v ≤ up = b.low in
      record {
        low = omega arith;
        rest = rest_behind s b.v b.x b.rest b.cluster;
        all = λ d i. elim (without_in s.table.senders f.by f.there d i) [
          | inl same ↦ inr (clock_own s b.v b.x b.cluster d i (record { entry = b.x; there = b.cluster.there; moment = refl; terminal = f.number ∙ ap (λ (z : Sender). z.number) (sym same) }))
          | inr k ↦ inl (k, two_behind s b.v b.x b.rest b.known b.cluster d i (let w : s.wake d.number ≤ up + s.table.sg = wakes d i in omega arith))
        ];
        spoke = λ y j from to d i mine.
            let k : b.x.moment ≤ y.moment = b.cluster.idle y j (omega arith) in
            elim (cases_lt b.x.moment y.moment) [
              | inl later ↦ let w : end_of b.x ≤ y.moment = alone s b.x b.cluster.there y j later in absurd (omega arith)
              | inr at ↦ clock_own s b.v b.x b.cluster d i (record { entry = y; there = j; moment = omega arith; terminal = mine })
            ];
        once = λ y z i j same from less.
            let k : b.x.moment ≤ y.moment = b.cluster.idle y i (omega arith) in
            alone s b.x b.cluster.there z j (omega arith);
        soon =
            let soon : b.x.moment ≤ up + s.table.sg + f.by.tg = b.soon f.by f.there in
            let most : bits b.x.message ≤ longest f.by = f.most in
            omega (arith, without_weight s.table.senders f.by f.there);
      }

  pub calm : Calm
  calm = calm_on (length s.table.senders) (end_of begun.x) (without s.table.senders (sent s begun.x begun.cluster.there).by (sent s begun.x begun.cluster.there).there)
      (omega (arith, without_length s.table.senders (sent s begun.x begun.cluster.there).by (sent s begun.x begun.cluster.there).there)) (calming_first begun)
