-- The terminal gap of each sender of a bus without delays, from one moment at which nothing is sent to the next, whenever it is powered up and
-- whatever collides. Places are counted as in the past of the bus.
use Rattle.std.proofs.Common.{◌≡◌, ℕ, zero, suc, ◌+◌, ◌-◌, ◌<◌, ◌≤◌, ◌⊎◌, ◌↔◌, true, false, List, [], ◌∷◌, ◌++◌, length, get_or, Option, Some, None, inl, inr, arith, sym, refl, ap, ◌∙◌, subst}
use Rattle.std.specs.Prelude.{slice_get}
use Rattle.std.specs.List.{list_all}
use Rattle.std.specs.Option.{option_map}
use Rattle.std.proofs.lemmas.Bool.{cases_lt}
use Rattle.std.proofs.lemmas.List.{length-drop}
use Rattle.bus_timers.specs.Timings.{IsSound, due_place}
use Rattle.bus_timers.specs.MayStart.{MayStart}
use Rattle.bus_timers.proofs.GapStepLaws.{gap_ready}
use Rattle.bus_timers.proofs.TimingLaws.{sound_sg, sound_tg}
use Rattle.bus_strings.specs.Members.{In}
use Rattle.bus_strings.proofs.MemberLaws.{in_map, from_map}
use Rattle.bus_strings.specs.Messages.{Message, Entry, bits}
use Rattle.bus_strings.specs.Transmissions.{carrier, end_of}
use Rattle.bus_table.specs.declared.mode.Mode.TheVariants.{Aperiodic}
use Rattle.bus_table.specs.Tables.{Sender, Table}
use Rattle.bus_table.specs.inside.Facts.{TableFacts}
use Rattle.bus_table.specs.Fits.{fits}
use Rattle.bus_table.specs.Lengths.{shortest, longest}
use Rattle.bus_table.proofs.TurnLaws.{numbers_differ}
use Rattle.bus_medium.specs.Past.{past, own}
use Rattle.bus_medium.proofs.PastLaws.{length_past, own_later, own_more, last_push, no_carrier}
use Rattle.bus_medium.specs.BusyLaws.{IsBusy}
use Rattle.bus_medium.proofs.BusyLaws.{entry_is_busy}
use Rattle.bus_medium.specs.Lawful.{Station, HasEntry}
use Rattle.bus_medium.specs.Timings.{timing_of, due_for}
use Rattle.bus_medium.specs.Wakes.{woken_past, woken_place}
use Rattle.bus_medium.specs.CableLawful.{IsLawfulOnCable}
use Rattle.bus_schedule.proofs.HandLemmas.{Sendable, station, stations, quiet_is, message_of}
use Rattle.bus_medium.proofs.Hearing.{own_none}
use Rattle.bus_reach.proofs.Sending.{Run, RunMay, RunSent, run_place, run_starts_at, run_sent, run_same}
use Rattle.bus_schedule.proofs.Orders.{same_sender}
use Rattle.bus_medium.proofs.Waking.{GapAt, length_woken, at_quiet, busy_elapsed_at, busy_waiting_at, busy_waiting_whole, at_power_up, at_start, woken_nobody}

-- a table that starts itself, wakes, and the lawful list up to a moment before which each sender has messages left
pub record Bus : Type 0 where
  pub table : Table
  pub hands : ℕ → List Message
  pub wake : ℕ → ℕ
  pub end : ℕ
  pub list : List Entry
  pub mode : table.mode ≡ Aperiodic
  pub facts : TableFacts table
  pub sound : (b : Sender) → In b table.senders → IsSound (timing_of table b)
  pub fit : (b : Sender) → In b table.senders → list_all (fits b) (hands b.number) ≡ true
  pub law : IsLawfulOnCable table.sg (λ _ _. 0) wake (stations table hands) end list
  pub left : (b : Sender) (t : ℕ) → In b table.senders → t < end → length (own list b.number t) < length (hands b.number)
  pub starts : (b : Sender) → In b table.senders → table.ti ≤ table.sg + b.tg + shortest b

-- as a run of any table
abbrev pub run : Bus → Run
run s = record {
  table = s.table;
  hands = s.hands;
  wake = s.wake;
  end = s.end;
  list = s.list;
  mode = s.mode;
  facts = s.facts;
  sound = s.sound;
  fit = s.fit;
  law = s.law;
  left = s.left;
}

-- the place of a sender's last start before a moment
abbrev pub place : Bus → Sender → ℕ → Option ℕ
place s b u = run_place (run s) b u

abbrev pub May : Bus → Sender → ℕ → Type 0
May s b t = RunMay (run s) b t

-- a sender starts where its timers allow it
pub starts_at : (s : Bus) (b : Sender) (t : ℕ) → In b s.table.senders → t < s.end → HasEntry s.list b.number t ↔ May s b t
starts_at s b t i less = run_starts_at (run s) b t i less

-- who sent a transmission
abbrev pub Sent : Bus → Entry → Type 0
Sent s x = RunSent (run s) x

pub sent : (s : Bus) (x : Entry) → In x s.list → Sent s x
sent s x i = run_sent (run s) x i

-- it is told by its number
pub same_number : (s : Bus) (a b : Sender) → In a s.table.senders → In b s.table.senders → a.number ≡ b.number → a ≡ b
same_number s a b i j e = run_same (run s) a b i j e

-- and was powered up before
fits_past : (tg len q t w : ℕ) → 8 ≤ tg → tg ≤ len → len ≡ q + t - w → w < q + t
fits_past tg len q t w a b c = omega arith

pub woke : (s : Bus) (x : Entry) → In x s.list → s.wake x.terminal < s.table.sg + x.moment
woke s x i =
    let f = sent s x i in
    subst (λ n. s.wake n < s.table.sg + x.moment) (sym f.number)
    (fits_past f.by.tg (length (woken_past s.table.sg (s.wake f.by.number) s.list x.moment)) s.table.sg x.moment (s.wake f.by.number)
    (s.sound f.by f.there).tg_least f.may.gap_fits
    (length-drop (s.wake f.by.number) (past s.table.sg s.list x.moment) ∙ ap (λ n. n - s.wake f.by.number) (length_past s.table.sg s.list x.moment)))

-- at moment u its terminal gap counts from place G, and its transmit interval has elapsed with it
pub record Clock (s : Bus) (b : Sender) (u G : ℕ) : Type 0 where
  pub at : GapAt s.table.sg s.table.sg (s.wake b.number) s.list u (place s b u) G
  pub low : s.wake b.number + s.table.sg ≤ G
  pub ti : due_place (timing_of s.table b) (place s b u) + s.wake b.number ≤ G + b.tg

pub clock_due : (s : Bus) (b : Sender) (t G : ℕ) → In b s.table.senders → t < s.end → Clock s b t G
    → s.wake b.number ≤ s.table.sg + t → HasEntry s.list b.number t ↔ (G + b.tg ≤ s.table.sg + t)
clock_due s b t G i less c powered =
    let both = starts_at s b t i less in
    let sound = s.sound b i in
    let ready = gap_ready (timing_of s.table b) (woken_past s.table.sg (s.wake b.number) s.list t) (place s b t) c.at.g (sound_sg (timing_of s.table b) sound)
    (sound_tg (timing_of s.table b) sound) c.at.from in
    let long = length_woken s.table.sg (s.wake b.number) s.list t powered in (
      (λ h. let p = ready.1 (both.0 h) in over (length (woken_past s.table.sg (s.wake b.number) s.list t)) (s.wake b.number) (s.table.sg + t) c.at.g G b.tg long c.at.is p.1),
      (λ h. both.1 (ready.0 (
        under (length (woken_past s.table.sg (s.wake b.number) s.list t)) (s.wake b.number) (s.table.sg + t) (due_place (timing_of s.table b) (place s b t)) (G + b.tg) long c.ti h,
        under_gap (length (woken_past s.table.sg (s.wake b.number) s.list t)) (s.wake b.number) (s.table.sg + t) c.at.g G b.tg long c.at.is h,
      ))),
    )
  where
    over : (len w m g G tg : ℕ) → len + w ≡ m → g + w ≡ G → g + tg ≤ len → G + tg ≤ m
    over len w m g G tg a p h = omega arith

    under : (len w m d e : ℕ) → len + w ≡ m → d + w ≤ e → e ≤ m → d ≤ len
    under len w m d e a p h = omega arith

    under_gap : (len w m g G tg : ℕ) → len + w ≡ m → g + w ≡ G → G + tg ≤ m → g + tg ≤ len
    under_gap len w m g G tg a p h = omega arith

pub some_sg : (s : Bus) → 5 ≤ s.table.sg
some_sg s = let k : 9 ≤ s.table.sg = s.facts.sg_least in omega arith

-- all that began before moment v has ended by then
abbrev pub IsRest : Bus → ℕ → Type 0
IsRest s v = (x : Entry) → In x s.list → x.moment < v → end_of x ≤ v

-- from moment v on nothing begins before moment u
abbrev pub IsIdle : Bus → ℕ → ℕ → Type 0
IsIdle s v u = (x : Entry) → In x s.list → v ≤ x.moment → u ≤ x.moment

pub rest_idle : (s : Bus) (v u : ℕ) → IsRest s v → IsIdle s v u → v ≤ u → IsRest s u
rest_idle s v u rest idle low x i less = elim (cases_lt x.moment v) [
  | inl before ↦ let k : end_of x ≤ v = rest x i before in omega arith
  | inr after ↦ let k : u ≤ x.moment = idle x i after in absurd (omega arith)
]

silent : (s : Bus) (v u m : ℕ) → IsRest s v → IsIdle s v u → v ≤ m → m < u → carrier s.list m ≡ false
silent s v u m rest idle low high = no_carrier s.list m (λ x i. elim (cases_lt x.moment v) [
  | inl before ↦ let k : end_of x ≤ v = rest x i before in inl (omega arith)
  | inr after ↦ let k : u ≤ x.moment = idle x i after in inr (omega arith)
])

at_silent : (sg q w : ℕ) → 5 ≤ sg → (l : List Entry) (last : Option ℕ) (v n G : ℕ) → w ≤ q + v
    → ((m : ℕ) → v ≤ m → m < v + n → carrier l m ≡ false) → GapAt sg q w l v last G → GapAt sg q w l (v + n) last G
at_silent sg q w some l last v zero G h quiet a = subst (λ u. GapAt sg q w l u last G) (let e : v ≡ v + 0 = omega arith in e) a
at_silent sg q w some l last v (suc n) G h quiet a =
    subst (λ u. GapAt sg q w l u last G) (let e : suc (v + n) ≡ v + suc n = omega arith in e)
    (at_quiet sg q w some l last (v + n) G (omega arith) (quiet (v + n) (omega arith) (omega arith))
    (at_silent sg q w some l last v n G h (λ m p r. quiet m p (omega arith)) a))

at_silent_to : (s : Bus) (b : Sender) (last : Option ℕ) (v p u G : ℕ) → IsRest s v → IsIdle s v u → v ≤ p → p ≤ u → s.wake b.number ≤ s.table.sg + p
    → GapAt s.table.sg s.table.sg (s.wake b.number) s.list p last G → GapAt s.table.sg s.table.sg (s.wake b.number) s.list u last G
at_silent_to s b last v p u G rest idle low high powered a =
    subst (λ m. GapAt s.table.sg s.table.sg (s.wake b.number) s.list m last G) (let e : p + (u - p) ≡ u = omega arith in e)
    (at_silent s.table.sg s.table.sg (s.wake b.number) (some_sg s) s.list last p (u - p) G powered
    (λ m f t. silent s v u m rest idle (omega arith) (omega arith)) a)

-- where nothing is sent it stays
pub clock_idle : (s : Bus) (b : Sender) (v u G : ℕ) → IsRest s v → IsIdle s v u → v ≤ u → s.wake b.number ≤ s.table.sg + v → Clock s b v G → Clock s b u G
clock_idle s b v u G rest idle low powered c =
    let same : own s.list b.number v ≡ own s.list b.number u = sym (own_later s.list b.number v u low (λ x i mine from to.
    let k : u ≤ x.moment = idle x i from in omega arith)) in
    record {
      at = subst (λ o. GapAt s.table.sg s.table.sg (s.wake b.number) s.list u (woken_place s.table.sg (s.wake b.number) o) G) same
          (at_silent_to s b (place s b v) v v u G rest idle (omega arith) low powered c.at);
      low = c.low;
      ti = subst (λ o. due_place (timing_of s.table b) (woken_place s.table.sg (s.wake b.number) o) + s.wake b.number ≤ G + b.tg) same c.ti;
    }

-- who hasn't started is due at once
due_none : (s : Bus) (b : Sender) → due_place (timing_of s.table b) None ≡ s.table.sg
due_none s b =
    let q = quiet_is s.table s.mode in
    let d : due_for s.table.mode b ≡ 0 = ap (λ m. due_for m b) s.mode in
    omega (arith, q, d)

pub first_due : (s : Bus) (b : Sender) (u G : ℕ) → own s.list b.number u ≡ [] → s.wake b.number + s.table.sg ≤ G
    → due_place (timing_of s.table b) (place s b u) + s.wake b.number ≤ G + b.tg
first_due s b u G none low =
    let e : due_place (timing_of s.table b) (place s b u) ≡ s.table.sg =
    ap (λ o. due_place (timing_of s.table b) (woken_place s.table.sg (s.wake b.number) o)) none ∙ due_none s b in
    omega (arith, e)

-- from its power-up on it counts one synchronization gap later
pub clock_power : (s : Bus) (b : Sender) (v u : ℕ) → IsRest s v → IsIdle s v u → s.table.sg + v ≤ s.wake b.number → s.wake b.number ≤ s.table.sg + u
    → Clock s b u (s.wake b.number + s.table.sg)
clock_power s b v u rest idle low high =
    let none : own s.list b.number u ≡ [] = own_none s.list b.number u (λ x i mine.
    let k : s.wake b.number < s.table.sg + x.moment = subst (λ n. s.wake n < s.table.sg + x.moment) mine (woke s x i) in idle x i (omega arith)) in
    let p : ℕ = s.wake b.number - s.table.sg in
    let is : s.table.sg + (s.wake b.number - s.table.sg) ≡ s.wake b.number = omega arith in
    let sg : 5 ≤ s.table.sg = some_sg s in
    record {
      at = subst (λ o. GapAt s.table.sg s.table.sg (s.wake b.number) s.list u (woken_place s.table.sg (s.wake b.number) o) (s.wake b.number + s.table.sg)) (sym none)
          (subst (λ m. GapAt s.table.sg s.table.sg (s.wake b.number) s.list u None (m + s.table.sg)) is
          (at_silent_to s b None v (s.wake b.number - s.table.sg) u (s.table.sg + (s.wake b.number - s.table.sg) + s.table.sg) rest idle (omega arith) (omega arith) (omega arith)
          (at_power_up s.table.sg s.table.sg (s.wake b.number) s.list (s.wake b.number - s.table.sg) (omega arith) is)));
      low = omega arith;
      ti = first_due s b u (s.wake b.number + s.table.sg) none (omega arith);
    }

-- the next to begin behind moment v, and of those that begin with it the last to end
pub record Cluster (s : Bus) (v : ℕ) (x : Entry) : Type 0 where
  pub there : In x s.list
  pub first : v ≤ x.moment
  pub idle : IsIdle s v x.moment
  pub most : (y : Entry) → In y s.list → y.moment ≡ x.moment → end_of y ≤ end_of x

record First (l : List Entry) (v : ℕ) (x : Entry) : Type 0 where
  there : In x l
  first : v ≤ x.moment
  idle : (y : Entry) → In y l → v ≤ y.moment → x.moment ≤ y.moment
  most : (y : Entry) → In y l → y.moment ≡ x.moment → end_of y ≤ end_of x

alone_first : (l : List Entry) (v : ℕ) (z : Entry) → v ≤ z.moment → ((y : Entry) → In y l → v ≤ y.moment → ⊥) → First (z ∷ l) v z
alone_first l v z low none = record {
  there = inl refl;
  first = low;
  idle = λ y i from. elim i [
    | inl same ↦ (let e : y.moment ≡ z.moment = ap (λ (w : Entry). w.moment) same in omega arith)
    | inr old ↦ absurd (none y old from)
  ];
  most = λ y i e. elim i [
    | inl same ↦ (let f : end_of y ≡ end_of z = ap end_of same in omega arith)
    | inr old ↦ absurd (none y old (omega arith))
  ];
}

-- a transmission more, that comes before
take_first : (l : List Entry) (v : ℕ) (z x : Entry) → v ≤ z.moment → (z.moment < x.moment) ⊎ ((z.moment ≡ x.moment) × (end_of x ≤ end_of z)) → First l v x → First (z ∷ l) v z
take_first l v z x low before f = record {
  there = inl refl;
  first = low;
  idle = λ y i from. elim i [
    | inl same ↦ (let e : y.moment ≡ z.moment = ap (λ (w : Entry). w.moment) same in omega arith)
    | inr old ↦ (let k : x.moment ≤ y.moment = f.idle y old from in elim before [ inl less ↦ omega arith | inr at ↦ let e : z.moment ≡ x.moment = at.0 in omega arith ])
  ];
  most = λ y i e. elim i [
    | inl same ↦ (let g : end_of y ≡ end_of z = ap end_of same in omega arith)
    | inr old ↦ (let k : x.moment ≤ y.moment = f.idle y old (omega arith) in
        elim before [
          | inl less ↦ absurd (omega arith)
          | inr at ↦ let a : z.moment ≡ x.moment = at.0 in let c : end_of x ≤ end_of z = at.1 in
              let d : end_of y ≤ end_of x = f.most y old (omega arith) in omega arith
        ])
  ];
}

-- one that doesn't
keep_first : (l : List Entry) (v : ℕ) (z x : Entry) → (v ≤ z.moment → (x.moment < z.moment) ⊎ ((z.moment ≡ x.moment) × (end_of z ≤ end_of x))) → First l v x → First (z ∷ l) v x
keep_first l v z x behind f =
    let first : v ≤ x.moment = f.first in
    record {
      there = inr f.there;
      first = first;
      idle = λ y i from. elim i [
        | inl same ↦ (let e : y.moment ≡ z.moment = ap (λ (w : Entry). w.moment) same in elim (behind (omega arith)) [ inl less ↦ omega arith | inr at ↦ let a : z.moment ≡ x.moment = at.0 in omega arith ])
        | inr old ↦ f.idle y old from
      ];
      most = λ y i e. elim i [
        | inl same ↦ (let g : y.moment ≡ z.moment = ap (λ (w : Entry). w.moment) same in let h : end_of y ≡ end_of z = ap end_of same in
            elim (behind (omega arith)) [ inl less ↦ absurd (omega arith) | inr at ↦ let a : end_of z ≤ end_of x = at.1 in omega arith ])
        | inr old ↦ f.most y old e
      ];
    }

first_from : (l : List Entry) (v : ℕ) → ((y : Entry) → In y l → v ≤ y.moment → ⊥) ⊎ ((x : Entry) × First l v x)
first_from [] v = inl (λ y i low. i)
first_from (z ∷ l) v = elim (cases_lt z.moment v) [
  | inl early ↦ elim (first_from l v) [
    | inl none ↦ inl (λ y i low. elim i [ inl same ↦ (let e : y.moment ≡ z.moment = ap (λ (w : Entry). w.moment) same in omega arith) | inr old ↦ none y old low ])
    | inr f ↦ inr (f.0, keep_first l v z f.0 (λ low. absurd (omega arith)) f.1)
  ]
  | inr low ↦ elim (first_from l v) [
    | inl none ↦ inr (z, alone_first l v z low none)
    | inr f ↦ elim (cases_lt z.moment f.0.moment) [
      | inl less ↦ inr (z, take_first l v z f.0 low (inl less) f.1)
      | inr more ↦ elim (cases_lt f.0.moment z.moment) [
        | inl later ↦ inr (f.0, keep_first l v z f.0 (λ p. inl later) f.1)
        | inr same ↦
            let e : z.moment ≡ f.0.moment = omega arith in
            elim (cases_lt (end_of z) (end_of f.0)) [
              | inl shorter ↦ inr (f.0, keep_first l v z f.0 (λ p. inr (e, omega arith)) f.1)
              | inr longer ↦ inr (z, take_first l v z f.0 low (inr (e, longer)) f.1)
            ]
      ]
    ]
  ]
]

pub next_cluster : (s : Bus) (v : ℕ) → ((y : Entry) → In y s.list → v ≤ y.moment → ⊥) ⊎ ((x : Entry) × Cluster s v x)
next_cluster s v = elim (first_from s.list v) [
  | inl none ↦ inl none
  | inr f ↦ inr (f.0, record { there = f.1.there; first = f.1.first; idle = f.1.idle; most = f.1.most })
]

pub busy : (s : Bus) (x : Entry) → In x s.list → IsBusy s.list x.moment (end_of x)
busy s x i = entry_is_busy s.list x i (sent s x i).some

-- nobody begins inside
pub alone : (s : Bus) (x : Entry) → In x s.list → (y : Entry) → In y s.list → x.moment < y.moment → end_of x ≤ y.moment
alone s x i y j more = elim (cases_lt y.moment (end_of x)) [
  | inl inside ↦
      let f = sent s y j in
      absurd (woken_nobody s.table.sg (s.wake f.by.number) s.list (timing_of s.table f.by) (place s f.by y.moment) x.moment (end_of x) y.moment (s.sound f.by f.there) (busy s x i) more inside f.may)
  | inr behind ↦ behind
]

pub rest_behind : (s : Bus) (v : ℕ) (x : Entry) → IsRest s v → Cluster s v x → IsRest s (end_of x)
rest_behind s v x rest c y i less =
    let first : v ≤ x.moment = c.first in
    elim (cases_lt y.moment v) [
      | inl before ↦ let k : end_of y ≤ v = rest y i before in omega arith
      | inr after ↦
          let k : x.moment ≤ y.moment = c.idle y i after in
          elim (cases_lt x.moment y.moment) [
            | inl later ↦ let w : end_of x ≤ y.moment = alone s x c.there y i later in absurd (omega arith)
            | inr same ↦ c.most y i (omega arith)
          ]
    ]

module _ (s : Bus) (v : ℕ) (x : Entry) (c : Cluster s v x) (b : Sender) where
  some_bit : 0 < bits x.message
  some_bit = (sent s x c.there).bit

  kept : (HasEntry s.list b.number x.moment → ⊥) → own s.list b.number x.moment ≡ own s.list b.number (end_of x)
  kept none = sym (own_later s.list b.number x.moment (end_of x) (omega arith) (λ y i mine from to. elim (cases_lt x.moment y.moment) [
    | inl later ↦ let w : end_of x ≤ y.moment = alone s x c.there y i later in omega arith
    | inr same ↦ none (record { entry = y; there = i; moment = omega arith; terminal = mine })
  ]))

  -- a sender that hears it, behind an elapsed synchronization gap
  pub clock_elapsed : (G : ℕ) → s.wake b.number ≤ s.table.sg + x.moment → (HasEntry s.list b.number x.moment → ⊥) → Clock s b x.moment G → G ≤ s.table.sg + x.moment
      → Clock s b (end_of x) (s.table.sg + end_of x)
  clock_elapsed G powered none k low =
      let woken : s.wake b.number + s.table.sg ≤ G = k.low in
      let due : due_place (timing_of s.table b) (place s b (end_of x)) + s.wake b.number ≤ G + b.tg =
      subst (λ o. due_place (timing_of s.table b) (woken_place s.table.sg (s.wake b.number) o) + s.wake b.number ≤ G + b.tg) (kept none) k.ti in
      record {
        at = subst (λ o. GapAt s.table.sg s.table.sg (s.wake b.number) s.list (end_of x) (woken_place s.table.sg (s.wake b.number) o) (s.table.sg + end_of x)) (kept none)
            (busy_elapsed_at s.table.sg s.table.sg (s.wake b.number) (some_sg s) s.list (place s b x.moment) x.moment (end_of x) G powered (busy s x c.there) low k.at);
        low = omega arith;
        ti = omega (arith, due);
      }

  -- and before
  pub clock_waiting : (G : ℕ) → s.wake b.number ≤ s.table.sg + x.moment → (HasEntry s.list b.number x.moment → ⊥) → Clock s b x.moment G → s.table.sg + x.moment < G
      → G ≤ s.table.sg + x.moment + s.table.sg → Clock s b (end_of x) (s.table.sg + end_of x + s.table.sg)
  clock_waiting G powered none k high most =
      let woken : s.wake b.number + s.table.sg ≤ G = k.low in
      let due : due_place (timing_of s.table b) (place s b (end_of x)) + s.wake b.number ≤ G + b.tg =
      subst (λ o. due_place (timing_of s.table b) (woken_place s.table.sg (s.wake b.number) o) + s.wake b.number ≤ G + b.tg) (kept none) k.ti in
      record {
        at = subst (λ o. GapAt s.table.sg s.table.sg (s.wake b.number) s.list (end_of x) (woken_place s.table.sg (s.wake b.number) o) (s.table.sg + end_of x + s.table.sg)) (kept none)
            (busy_waiting_whole s.table.sg s.table.sg (s.wake b.number) (some_sg s) s.list (place s b x.moment) x.moment (end_of x) G powered (busy s x c.there) high k.at);
        low = omega arith;
        ti = omega (arith, due);
      }

  -- a sender that is powered up in the middle of it
  pub clock_inside : s.table.sg + x.moment < s.wake b.number → s.wake b.number ≤ s.table.sg + end_of x → Clock s b (end_of x) (s.table.sg + end_of x + s.table.sg)
  clock_inside low high =
      let sg : 5 ≤ s.table.sg = some_sg s in
      let none : own s.list b.number (end_of x) ≡ [] = own_none s.list b.number (end_of x) (λ y i mine.
      let k : s.wake b.number < s.table.sg + y.moment = subst (λ n. s.wake n < s.table.sg + y.moment) mine (woke s y i) in
      alone s x c.there y i (omega arith)) in
      let is : s.table.sg + (s.wake b.number - s.table.sg) ≡ s.wake b.number = omega arith in
      let first : GapAt s.table.sg s.table.sg (s.wake b.number) s.list (s.wake b.number - s.table.sg) None (s.table.sg + (s.wake b.number - s.table.sg) + s.table.sg) =
      at_power_up s.table.sg s.table.sg (s.wake b.number) s.list (s.wake b.number - s.table.sg) (omega arith) is in
      let there : GapAt s.table.sg s.table.sg (s.wake b.number) s.list (end_of x) None (s.table.sg + end_of x + s.table.sg) =
      elim (cases_lt (s.wake b.number - s.table.sg) (end_of x)) [
        | inl inside ↦ busy_waiting_at s.table.sg s.table.sg (s.wake b.number) sg s.list None x.moment (end_of x) (s.wake b.number - s.table.sg) (omega arith) (busy s x c.there)
            (omega arith) inside first
        | inr at ↦ subst (λ m. GapAt s.table.sg s.table.sg (s.wake b.number) s.list m None (s.table.sg + m + s.table.sg)) (let e : s.wake b.number - s.table.sg ≡ end_of x = omega arith in e) first
      ] in
      record {
        at = subst (λ o. GapAt s.table.sg s.table.sg (s.wake b.number) s.list (end_of x) (woken_place s.table.sg (s.wake b.number) o) (s.table.sg + end_of x + s.table.sg)) (sym none) there;
        low = omega arith;
        ti = first_due s b (end_of x) (s.table.sg + end_of x + s.table.sg) none (omega arith);
      }

  -- a sender of one of those
  pub clock_own : In b s.table.senders → HasEntry s.list b.number x.moment → Clock s b (end_of x) (s.table.sg + end_of x + s.table.sg)
  clock_own i h =
      let sg : 5 ≤ s.table.sg = some_sg s in
      let y : Entry = h.entry in
      let at : h.entry.moment ≡ x.moment = h.moment in
      let woken : s.wake b.number < s.table.sg + h.entry.moment = subst (λ n. s.wake n < s.table.sg + h.entry.moment) h.terminal (woke s h.entry h.there) in
      let f = sent s h.entry h.there in
      let is : f.by ≡ b = same_number s f.by b f.there i (sym f.number ∙ h.terminal) in
      let least : shortest b ≤ bits h.entry.message = subst (λ (z : Sender). shortest z ≤ bits h.entry.message) is f.least in
      let most : end_of h.entry ≤ end_of x = c.most h.entry h.there at in
      let starts : s.table.ti ≤ s.table.sg + b.tg + shortest b = s.starts b i in
      let more : own s.list b.number (h.entry.moment + 1) ≡ own s.list b.number h.entry.moment ++ h.entry ∷ [] =
      subst (λ n. own s.list n (h.entry.moment + 1) ≡ own s.list n h.entry.moment ++ h.entry ∷ []) h.terminal (own_more s.list h.entry s.law.ordered h.there) in
      let same : own s.list b.number (end_of x) ≡ own s.list b.number (h.entry.moment + 1) =
      own_later s.list b.number (h.entry.moment + 1) (end_of x) (omega (arith, some_bit)) (λ z j mine from to.
      let k : end_of x ≤ z.moment = alone s x c.there z j (omega arith) in omega arith) in
      let last : place s b (end_of x) ≡ Some (s.table.sg + h.entry.moment - s.wake b.number) =
      ap (woken_place s.table.sg (s.wake b.number)) (same ∙ more)
      ∙ ap (option_map (λ p. p - s.wake b.number)) (last_push s.table.sg (own s.list b.number h.entry.moment) h.entry) in
      let last_x : place s b (end_of x) ≡ Some (s.table.sg + x.moment - s.wake b.number) = last ∙ ap (λ m. Some (s.table.sg + m - s.wake b.number)) at in
      let due : due_place (timing_of s.table b) (place s b (end_of x)) ≡ s.table.sg + x.moment - s.wake b.number + s.table.ti =
      ap (due_place (timing_of s.table b)) last_x in
      record {
        at = subst (λ o. GapAt s.table.sg s.table.sg (s.wake b.number) s.list (end_of x) o (s.table.sg + end_of x + s.table.sg)) (sym last_x)
            (busy_waiting_at s.table.sg s.table.sg (s.wake b.number) sg s.list (Some (s.table.sg + x.moment - s.wake b.number)) x.moment (end_of x) x.moment
            (omega arith) (busy s x c.there) (omega arith) (omega (arith, some_bit))
            (at_start s.table.sg s.table.sg (s.wake b.number) s.list x.moment (omega arith) (omega arith)));
        low = omega arith;
        ti = omega (arith, due);
      }
