-- From a moment at which all senders count their terminal gap from the same place, and none is due earlier, they speak in rounds.
use Rattle.std.proofs.Common.{◌≡◌, ℕ, ◌+◌, ◌<◌, ◌≤◌, ◌⊎◌, List, [], ◌∷◌, inl, inr, arith, sym, refl, ap, ◌∙◌, subst}
use Rattle.std.proofs.lemmas.Bool.{cases_lt}
use Rattle.bus_strings.specs.Members.{In}
use Rattle.bus_strings.proofs.MemberLaws.{of_each}
use Rattle.bus_strings.specs.Messages.{Entry, bits}
use Rattle.bus_strings.specs.Transmissions.{end_of, IsAscending, Precedes}
use Rattle.bus_table.specs.Tables.{Sender}
use Rattle.bus_table.specs.inside.Orders.{Rises}
use Rattle.bus_table.proofs.TurnLaws.{behind_rises}
use Rattle.bus_medium.specs.Lawful.{HasEntry}
use Rattle.bus_medium.proofs.PastLaws.{one_at}
use Rattle.bus_reach.specs.Settling.{InRounds}
use Rattle.bus_reach.proofs.Minding.{Bus, sent, Clock, clock_due, clock_idle, IsRest, IsIdle, Cluster, alone, rest_behind, clock_elapsed, clock_waiting, clock_own}

-- what is left of the list from moment v on
pub record Left (s : Bus) (v : ℕ) (ys : List Entry) : Type 0 where
  pub ordered : IsAscending ys
  pub from : (x : Entry) → In x ys → In x s.list × (v ≤ x.moment)
  pub has : (x : Entry) → In x s.list → v ≤ x.moment → In x ys

-- a is the next of a round, the others of it stand behind it; all of them count from moment `from`. Who is no longer in the round waits for a
-- synchronization gap, which is to come; where all are in it, it may have passed
pub record Turn (s : Bus) (v from : ℕ) (a : Sender) (rest : List Sender) : Type 0 where
  pub ended : IsRest s v
  pub low : v ≤ from
  pub woken : (b : Sender) → In b s.table.senders → s.wake b.number ≤ s.table.sg + v
  pub rises : Rises (λ b. b.tg) (a ∷ rest)
  pub counts : (b : Sender) → In b (a ∷ rest) → In b s.table.senders × Clock s b v (s.table.sg + from)
  pub others : (b : Sender) → In b s.table.senders → In b (a ∷ rest) ⊎ (Clock s b v (s.table.sg + v + s.table.sg) × (from ≡ v))

module _ (s : Bus) (v from : ℕ) (a : Sender) (rest : List Sender) (so : Turn s v from a rest) where
  member : In a s.table.senders
  member = (so.counts a (inl refl)).0

  short : (b : Sender) → In b s.table.senders → b.tg < s.table.sg
  short b i = (s.sound b i).tg_short

  clock_to : (b : Sender) (G u : ℕ) → In b s.table.senders → Clock s b v G → IsIdle s v u → v ≤ u → Clock s b u G
  clock_to b G u i k idle low = clock_idle s b v u G so.ended idle low (so.woken b i) k

  -- it starts where the horizon isn't reached
  pub starts_then : from + a.tg < s.end → IsIdle s v (from + a.tg) → HasEntry s.list a.number (from + a.tg)
  starts_then less idle =
      let low : v ≤ from = so.low in
      let woken : s.wake a.number ≤ s.table.sg + v = so.woken a member in
      (clock_due s a (from + a.tg) (s.table.sg + from) member less (clock_to a (s.table.sg + from) (from + a.tg) member (so.counts a (inl refl)).1 idle (omega arith)) (omega arith)).1 (omega arith)

  -- where nothing follows the horizon comes before
  pub ends_then : Left s v [] → s.end ≤ from + a.tg
  ends_then left =
      let low : v ≤ from = so.low in
      elim (cases_lt (from + a.tg) s.end) [
        | inl less ↦
            let h = starts_then less (λ x i f. absurd (left.has x i f)) in
            let at : h.entry.moment ≡ from + a.tg = h.moment in
            absurd (left.has h.entry h.there (omega arith))
        | inr over ↦ over
      ]

  module _ (x : Entry) (ys : List Entry) (left : Left s v (x ∷ ys)) where
    pub there : In x s.list
    there = (left.from x (inl refl)).0

    pub first : v ≤ x.moment
    first = (left.from x (inl refl)).1

    behind_x : (y : Entry) → In y ys → Precedes x y
    behind_x y j = of_each (Precedes x) ys left.ordered.0 y j

    pub idle : IsIdle s v x.moment
    idle y i f = elim (left.has y i f) [
      | inl same ↦ let e : y.moment ≡ x.moment = ap (λ (w : Entry). w.moment) same in omega arith
      | inr j ↦ elim (behind_x y j) [ inl less ↦ omega arith | inr at ↦ let e : x.moment ≡ y.moment = at.0 in omega arith ]
    ]

    soon : x.moment < s.end
    soon = (sent s x there).soon

    no_later : x.moment ≤ from + a.tg
    no_later = elim (cases_lt (from + a.tg) x.moment) [
      | inl far ↦
          let low : v ≤ from = so.low in
          let less : x.moment < s.end = soon in
          let h = starts_then (omega arith) (λ y i f. let k : x.moment ≤ y.moment = idle y i f in omega arith) in
          let at : h.entry.moment ≡ from + a.tg = h.moment in
          let k : x.moment ≤ h.entry.moment = idle h.entry h.there (omega arith) in
          absurd (omega arith)
      | inr near ↦ near
    ]

    -- who waits doesn't start then
    out_silent : (b : Sender) → In b s.table.senders → Clock s b v (s.table.sg + v + s.table.sg) → from ≡ v → HasEntry s.list b.number x.moment → ⊥
    out_silent b i k at h =
        let woken : s.wake b.number ≤ s.table.sg + v = so.woken b i in
        let low : v ≤ x.moment = first in
        let near : x.moment ≤ from + a.tg = no_later in
        let brief : a.tg < s.table.sg = short a member in
        let due : s.table.sg + v + s.table.sg + b.tg ≤ s.table.sg + x.moment =
        (clock_due s b x.moment (s.table.sg + v + s.table.sg) i soon (clock_to b (s.table.sg + v + s.table.sg) x.moment i k idle first) (omega arith)).0 h in
        omega arith

    -- nobody but the next does
    pub only : (b : Sender) → In b s.table.senders → HasEntry s.list b.number x.moment → (b ≡ a) × (x.moment ≡ from + a.tg)
    only b i h = elim (so.others b i) [
      | inr out ↦ absurd (out_silent b i out.0 out.1 h)
      | inl j ↦
          let woken : s.wake b.number ≤ s.table.sg + v = so.woken b i in
          let low : v ≤ x.moment = first in
          let near : x.moment ≤ from + a.tg = no_later in
          let due : s.table.sg + from + b.tg ≤ s.table.sg + x.moment =
          (clock_due s b x.moment (s.table.sg + from) i soon (clock_to b (s.table.sg + from) x.moment i (so.counts b j).1 idle first) (omega arith)).0 h in
          elim j [
            | inl same ↦ (let e : b.tg ≡ a.tg = ap (λ (z : Sender). z.tg) same in (same, omega arith))
            | inr k ↦ (let more : a.tg < b.tg = behind_rises (λ z. z.tg) a rest b so.rises.0 k in absurd (omega arith))
          ]
    ]

    pub here : HasEntry s.list (sent s x there).by.number x.moment
    here = record { entry = x; there = there; moment = refl; terminal = (sent s x there).number }

    pub at : (x.terminal ≡ a.number) × (x.moment ≡ from + a.tg)
    at =
        let f = sent s x there in
        let k = only f.by f.there here in
        (f.number ∙ ap (λ (z : Sender). z.number) k.0, k.1)

    -- and it sends one transmission
    pub lone : (y : Entry) → In y s.list → y.moment ≡ x.moment → y ≡ x
    lone y i same =
        let f = sent s y i in
        let k = only f.by f.there (record { entry = y; there = i; moment = same; terminal = f.number }) in
        one_at s.list y x s.law.ordered i there same (f.number ∙ ap (λ (z : Sender). z.number) k.0 ∙ sym at.0)

    cluster : Cluster s v x
    cluster = record {
      there = there;
      first = first;
      idle = idle;
      most = λ y i same. (let e : end_of y ≡ end_of x = ap end_of (lone y i same) in omega arith);
    }

    pub left_then : Left s (end_of x) ys
    left_then = record {
      ordered = left.ordered.1;
      from = λ y j.
          let old = left.from y (inr j) in (
            old.0,
            elim (behind_x y j) [
              | inl less ↦ alone s x there y old.0 less
              | inr same ↦
                  let m : x.moment ≡ y.moment = same.0 in
                  let t : x.terminal < y.terminal = same.1 in
                  let e : y.terminal ≡ x.terminal = ap (λ (w : Entry). w.terminal) (lone y old.0 (sym m)) in
                  absurd (omega arith)
            ],
          );
      has = λ y i f.
          let low : v ≤ x.moment = first in
          let bit : 0 < bits x.message = (sent s x there).bit in
          elim (left.has y i (omega arith)) [
            | inl same ↦ (let e : y.moment ≡ x.moment = ap (λ (w : Entry). w.moment) same in absurd (omega arith))
            | inr j ↦ j
          ];
    }

    woken_then : (b : Sender) → In b s.table.senders → s.wake b.number ≤ s.table.sg + end_of x
    woken_then b i = let k : s.wake b.number ≤ s.table.sg + v = so.woken b i in let low : v ≤ x.moment = first in omega arith

    -- who spoke, or spoke before, waits
    waits : (b : Sender) → In b s.table.senders → b ≡ a → Clock s b (end_of x) (s.table.sg + end_of x + s.table.sg)
    waits b i same = clock_own s v x cluster b i (record { entry = x; there = there; moment = refl; terminal = at.0 ∙ ap (λ (z : Sender). z.number) (sym same) })

    still : (b : Sender) → In b s.table.senders → Clock s b v (s.table.sg + v + s.table.sg) → from ≡ v → Clock s b (end_of x) (s.table.sg + end_of x + s.table.sg)
    still b i k same =
        let woken : s.wake b.number ≤ s.table.sg + v = so.woken b i in
        let low : v ≤ x.moment = first in
        let brief : a.tg < s.table.sg = short a member in
        let moment : x.moment ≡ from + a.tg = at.1 in
        clock_waiting s v x cluster b (s.table.sg + v + s.table.sg) (omega arith) (out_silent b i k same) (clock_to b (s.table.sg + v + s.table.sg) x.moment i k idle first) (omega arith) (omega arith)

    -- who has yet to speak counts from the end
    goes_on : (b : Sender) → In b rest → In b s.table.senders × Clock s b (end_of x) (s.table.sg + end_of x)
    goes_on b j =
        let k = so.counts b (inr j) in
        let woken : s.wake b.number ≤ s.table.sg + v = so.woken b k.0 in
        let low : v ≤ x.moment = first in
        let more : a.tg < b.tg = behind_rises (λ z. z.tg) a rest b so.rises.0 j in
        let moment : x.moment ≡ from + a.tg = at.1 in
        let none : HasEntry s.list b.number x.moment → ⊥ = λ h. (let e : b.tg ≡ a.tg = ap (λ (z : Sender). z.tg) (only b k.0 h).0 in omega arith) in
        (k.0, clock_elapsed s v x cluster b (s.table.sg + from) (omega arith) none (clock_to b (s.table.sg + from) x.moment k.0 k.1 idle first) (omega arith))

    -- the next of the round
    pub next_turn : (b : Sender) (more : List Sender) → rest ≡ b ∷ more → Turn s (end_of x) (end_of x) b more
    next_turn b more is = record {
      ended = rest_behind s v x so.ended cluster;
      low = omega arith;
      woken = woken_then;
      rises = subst (Rises (λ z. z.tg)) is so.rises.1;
      counts = λ c j. goes_on c (subst (In c) (sym is) j);
      others = λ c i. elim (so.others c i) [
        | inr out ↦ inr (still c i out.0 out.1, refl)
        | inl j ↦ elim j [
          | inl same ↦ inr (waits c i same, refl)
          | inr k ↦ inl (subst (In c) is k)
        ]
      ];
    }

    -- the next round
    pub next_round : (b : Sender) (more : List Sender) → rest ≡ [] → Rises (λ z. z.tg) (b ∷ more) → ((c : Sender) → In c (b ∷ more) → In c s.table.senders)
        → ((c : Sender) → In c s.table.senders → In c (b ∷ more)) → Turn s (end_of x) (end_of x + s.table.sg) b more
    next_round b more is rises from_order to_order =
        let out : (c : Sender) → In c s.table.senders → Clock s c (end_of x) (s.table.sg + end_of x + s.table.sg) = λ c i. elim (so.others c i) [
          | inr out ↦ still c i out.0 out.1
          | inl j ↦ elim j [
            | inl same ↦ waits c i same
            | inr k ↦ absurd (subst (In c) is k)
          ]
        ] in
        record {
          ended = rest_behind s v x so.ended cluster;
          low = omega arith;
          woken = woken_then;
          rises = rises;
          counts = λ c j. (from_order c j, subst (Clock s c (end_of x)) (let e : s.table.sg + end_of x + s.table.sg ≡ s.table.sg + (end_of x + s.table.sg) = omega arith in e) (out c (from_order c j)));
          others = λ c i. inl (to_order c i);
        }

module _ (s : Bus) (b : Sender) (more : List Sender) (rises : Rises (λ z. z.tg) (b ∷ more)) (from_order : (c : Sender) → In c (b ∷ more) → In c s.table.senders)
    (to_order : (c : Sender) → In c s.table.senders → In c (b ∷ more)) where
  pub in_rounds : (ys : List Entry) (v from : ℕ) (a : Sender) (rest : List Sender) → Turn s v from a rest → Left s v ys → InRounds s.table.sg b more s.end a rest from ys
  in_rounds [] v from a rest so left = ends_then s v from a rest so left
  in_rounds (x ∷ ys) v from a [] so left =
      let is = at s v from a [] so x ys left in
      (is.0, is.1, in_rounds ys (end_of x) (end_of x + s.table.sg) b more (next_round s v from a [] so x ys left b more refl rises from_order to_order) (left_then s v from a [] so x ys left))
  in_rounds (x ∷ ys) v from a (c ∷ rest) so left =
      let is = at s v from a (c ∷ rest) so x ys left in
      (is.0, is.1, in_rounds ys (end_of x) (end_of x) c rest (next_turn s v from a (c ∷ rest) so x ys left c rest refl) (left_then s v from a (c ∷ rest) so x ys left))
