-- A lawful list in ticks: what is heard of it, and which start of a sender was the last. Tick 0 is where the quiet before the settled start
-- begins, so ticks are places in a past.
use Rattle.std.proofs.Common.{◌≡◌, ℕ, ◌+◌, ◌-◌, ◌<◌, ◌≤◌, Bool, true, false, ◌&&◌, ◌||◌, List, [], ◌∷◌, map, length, get_or, Some, None, inl, inr, arith, sym, refl, ap, ◌∙◌, subst, leb-true, le-leb, eq-eqb, eqb-true}
use Rattle.std.specs.Prelude.{nat_eq, nat_le}
use Rattle.std.specs.List.{list_any}
use Rattle.std.proofs.lemmas.Bool.{cases_lt, cases_Bool, true≢false, and_parts}
use Rattle.bus_timers.specs.MayStart.{IsQuiet as IsStill}
use Rattle.bus_strings.specs.Members.{In}
use Rattle.bus_strings.specs.Messages.{Entry, bits}
use Rattle.bus_strings.specs.Transmissions.{IsAscending, carrier, end_of, pulses}
use Rattle.bus_strings.proofs.MemberLaws.{any_in, any_found}
use Rattle.bus_medium.specs.Past.{own, past, last_place}
use Rattle.bus_medium.specs.BusyLaws.{Heard, IsBusy}
use Rattle.bus_medium.proofs.BusyLaws.{entry_is_busy}
use Rattle.bus_medium.proofs.PastLaws.{past_at, pulses_begun, pulses_ended, own_later, own_more, last_push, one_at, same_bools}
use Rattle.bus_clocks.specs.Courses.{Course, IsQuiet, carrier as carrier_at}
use Rattle.bus_clocks.specs.Entries.{Entry as Sending, In as Among}
use Rattle.bus_clocks.specs.Hearing.{hears_any}

-- a transmission in ticks
abbrev pub tick : ℕ → Entry → Sending
tick quiet x = record { moment = quiet + x.moment; sender = x.terminal; length = bits x.message }

abbrev is_tick : ℕ → Sending → Entry → Bool
is_tick quiet y x = nat_eq y.moment (quiet + x.moment) && nat_eq y.sender x.terminal

abbrev pub sounds : ℕ → ℕ → Entry → Bool
sounds quiet u x = nat_le quiet u && pulses (u - quiet) x

-- what happens, of which the timers are no matter here
abbrev pub course : ℕ → List Entry → Course
course quiet list = record {
  up = λ _. 0;
  due = λ _. 0;
  tg = λ _ _. 0;
  sg = λ _ _. 0;
  ti = λ _ _. 0;
  messages = λ _. None;
  noise = λ _ _. false;
  hears = λ y n u. list_any (λ x. is_tick quiet y x && sounds quiet u x) list;
  horizon = 0;
  list = map (tick quiet) list;
}

pub both : (a b : Bool) → a ≡ true → b ≡ true → (a && b) ≡ true
both true b h k = k
both false b h k = absurd (true≢false (sym h))

pub to_among : (quiet : ℕ) (l : List Entry) (x : Entry) → In x l → Among (tick quiet x) (map (tick quiet) l)
to_among quiet [] x i = i
to_among quiet (y ∷ l) x (inl same) = inl (ap (tick quiet) same)
to_among quiet (y ∷ l) x (inr i) = inr (to_among quiet l x i)

pub from_among : (quiet : ℕ) (l : List Entry) (y : Sending) → Among y (map (tick quiet) l) → (x : Entry) × In x l × (y ≡ tick quiet x)
from_among quiet [] y i = absurd i
from_among quiet (x ∷ l) y (inl same) = (x, inl refl, same)
from_among quiet (x ∷ l) y (inr i) = let r = from_among quiet l y i in (r.0, inr r.1, r.2)

module _ (quiet : ℕ) (list : List Entry) (asc : IsAscending list) where
  -- each is heard where it sounds
  pub hears_is : (x : Entry) (n u : ℕ) → In x list → (course quiet list).hears (tick quiet x) n u ≡ sounds quiet u x
  hears_is x n u i = same_bools (list_any (λ y. is_tick quiet (tick quiet x) y && sounds quiet u y) list) (sounds quiet u x)
      (λ h.
      let w = any_found (λ y. is_tick quiet (tick quiet x) y && sounds quiet u y) list h in
      let p = and_parts (is_tick quiet (tick quiet x) w.0) (sounds quiet u w.0) w.2 in
      let q = and_parts (nat_eq (quiet + x.moment) (quiet + w.0.moment)) (nat_eq x.terminal w.0.terminal) p.0 in
      let m : quiet + x.moment ≡ quiet + w.0.moment = eqb-true (quiet + x.moment) (quiet + w.0.moment) q.0 in
      let one : x ≡ w.0 = one_at list x w.0 asc i w.1 (omega arith) (eqb-true x.terminal w.0.terminal q.1) in
      ap (sounds quiet u) one ∙ p.1)
      (λ h. any_in (λ y. is_tick quiet (tick quiet x) y && sounds quiet u y) list x i
      (both (is_tick quiet (tick quiet x) x) (sounds quiet u x)
      (both (nat_eq (quiet + x.moment) (quiet + x.moment)) (nat_eq x.terminal x.terminal) (eq-eqb (quiet + x.moment) (quiet + x.moment) refl) (eq-eqb x.terminal x.terminal refl)) h))

  any_of : (l : List Sending) (k u : ℕ) → hears_any (course quiet list).hears l k u ≡ true → (y : Sending) × Among y l × ((course quiet list).hears y k u ≡ true)
  any_of [] k u h = absurd (true≢false (sym h))
  any_of (y ∷ l) k u h =
      (elim ((course quiet list).hears y k u) as
      (λ b. (course quiet list).hears y k u ≡ b → (b || hears_any (course quiet list).hears l k u) ≡ true
      → (z : Sending) × Among z (y ∷ l) × ((course quiet list).hears z k u ≡ true)) [
        | true ↦ λ e g. (y, inl refl, e)
        | false ↦ λ e g. (let w = any_of l k u g in (w.0, inr w.1, w.2))
      ]) refl h

  one_of : (l : List Sending) (y : Sending) (k u : ℕ) → Among y l → (course quiet list).hears y k u ≡ true → hears_any (course quiet list).hears l k u ≡ true
  one_of [] y k u i h = absurd i
  one_of (z ∷ l) y k u (inl same) h =
      subst (λ b. (b || hears_any (course quiet list).hears l k u) ≡ true) (sym (ap (λ w. (course quiet list).hears w k u) (sym same) ∙ h)) refl
  one_of (z ∷ l) y k u (inr i) h =
      elim ((course quiet list).hears z k u) as (λ b. (b || hears_any (course quiet list).hears l k u) ≡ true) [ true ↦ refl | false ↦ one_of l y k u i h ]

  -- carrier in ticks and in bit times
  pub carrier_from : (k u : ℕ) → carrier_at (course quiet list) k u ≡ true → (quiet ≤ u) × (carrier list (u - quiet) ≡ true)
  carrier_from k u h =
      let w = any_of (course quiet list).list k u h in
      let x = from_among quiet list w.0 w.1 in
      let p = and_parts (nat_le quiet u) (pulses (u - quiet) x.0) (sym (hears_is x.0 k u x.1) ∙ ap (λ y. (course quiet list).hears y k u) (sym x.2) ∙ w.2) in
      (leb-true quiet u p.0, any_in (pulses (u - quiet)) list x.0 x.1 p.1)

  pub carrier_to : (k u : ℕ) → quiet ≤ u → carrier list (u - quiet) ≡ true → carrier_at (course quiet list) k u ≡ true
  carrier_to k u low h =
      let w = any_found (pulses (u - quiet)) list h in
      one_of (course quiet list).list (tick quiet w.0) k u (to_among quiet list w.0 w.1)
      (hears_is w.0 k u w.1 ∙ both (nat_le quiet u) (pulses (u - quiet) w.0) (le-leb quiet u low) w.2)

  past_is : (t u : ℕ) → quiet ≤ u → u < quiet + t → get_or (past quiet list t) u true ≡ carrier list (u - quiet)
  past_is t u low high =
      ap (λ i. get_or (past quiet list t) i true) (let e : u ≡ quiet + (u - quiet) = omega arith in e) ∙ past_at quiet list t (u - quiet) (omega arith)

  pub from_still : (k t i j : ℕ) → j ≤ quiet + t → IsStill (past quiet list t) i j → IsQuiet (course quiet list) k i j
  from_still k t i j fits still u from' to = elim (cases_Bool (carrier_at (course quiet list) k u)) [
    | inr rests ↦ rests
    | inl loud ↦ (let w = carrier_from k u loud in absurd (true≢false (sym (past_is t u w.0 (omega arith) ∙ w.1) ∙ still u from' to)))
  ]

  pub to_still : (k t i j : ℕ) → quiet ≤ i → j ≤ quiet + t → IsQuiet (course quiet list) k i j → IsStill (past quiet list t) i j
  to_still k t i j low fits rests u from' to = past_is t u (omega arith) (omega arith) ∙ (elim (cases_Bool (carrier list (u - quiet))) [
    | inr silent ↦ silent
    | inl loud ↦ absurd (true≢false (sym (carrier_to k u (omega arith) loud) ∙ rests u from' to))
  ])

  -- the last start of a terminal
  pub last_is : (n t : ℕ) (x : Entry) → In x list → x.terminal ≡ n → x.moment < t
      → ((y : Entry) → In y list → y.terminal ≡ n → y.moment < t → y.moment ≤ x.moment) → last_place quiet (own list n t) ≡ Some (quiet + x.moment)
  last_is n t x i mine before most =
      ap (last_place quiet) (own_later list n (x.moment + 1) t (omega arith) (λ y j own from' to. (let k : y.moment ≤ x.moment = most y j own to in omega arith)))
      ∙ ap (λ m. last_place quiet (own list m (x.moment + 1))) (sym mine) ∙ ap (last_place quiet) (own_more list x asc i) ∙ last_push quiet (own list x.terminal x.moment) x

  -- ---- what is heard of one

  or_none : (b : Bool) → (b || false) ≡ true → b ≡ true
  or_none true h = refl
  or_none false h = h

  pub on : (x : Entry) (n u : ℕ) → In x list → carrier (x ∷ []) u ≡ true → (course quiet list).hears (tick quiet x) n (quiet + u) ≡ true
  on x n u i h =
      hears_is x n (quiet + u) i ∙ both (nat_le quiet (quiet + u)) (pulses (quiet + u - quiet) x) (le-leb quiet (quiet + u) (omega arith))
      (ap (λ v. pulses v x) (let e : quiet + u - quiet ≡ u = omega arith in e) ∙ or_none (pulses u x) h)

  pub off : (x : Entry) (n u : ℕ) → In x list → (course quiet list).hears (tick quiet x) n u ≡ true → (quiet + x.moment ≤ u) × (u < quiet + end_of x)
  off x n u i h =
      let p = and_parts (nat_le quiet u) (pulses (u - quiet) x) (sym (hears_is x n u i) ∙ h) in
      let low : quiet ≤ u = leb-true quiet u p.0 in
      let begun : x.moment ≤ u - quiet = pulses_begun (u - quiet) x p.1 in (
        omega arith,
        elim (cases_lt (u - quiet) (end_of x)) [
          | inl less ↦ omega arith
          | inr over ↦ absurd (true≢false (sym p.1 ∙ pulses_ended (u - quiet) x over))
        ],
      )

  pub busy : (x : Entry) → In x list → 0 < length x.message → IsBusy (x ∷ []) x.moment (end_of x)
  busy x i some = entry_is_busy (x ∷ []) x (inl refl) some

  -- from the first to the last tick there are no five quiet ones
  pub filled : (x : Entry) (n t : ℕ) → In x list → 0 < length x.message → quiet + x.moment ≤ t → t ≤ quiet + end_of x - 1
      → (u : ℕ) × (t ≤ u) × (u < t + 5) × ((course quiet list).hears (tick quiet x) n u ≡ true)
  filled x n t i some low high =
      let b : IsBusy (x ∷ []) x.moment (end_of x) = busy x i some in
      let lasts : x.moment < end_of x = b.some in
      elim (cases_lt (t - quiet + 4) (end_of x)) [
        | inl inside ↦
            let h : Heard (x ∷ []) (t - quiet) = b.soon (t - quiet) (omega arith) inside in
            let from' : t - quiet ≤ h.at = h.low in
            let to : h.at ≤ t - quiet + 4 = h.high in
            (quiet + h.at, omega arith, omega arith, on x n h.at i h.on)
        | inr near ↦ (
          quiet + (end_of x - 1),
          omega arith,
          omega arith,
          on x n (end_of x - 1) i b.final,
        )
      ]
