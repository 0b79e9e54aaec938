-- The timers of the senders of a list: what they tell, how long that lasts, and how they pass what is heard.
use Rattle.std.proofs.Common.{◌≡◌, ℕ, zero, suc, ◌+◌, ◌^◌, ◌<◌, ◌≤◌, Bool, true, false, ◌&&◌, cond, eqb, leb, List, [], ◌∷◌, ◌++◌, length, map, replicate, Some, None}
use Rattle.std.proofs.Common.{take, get_or, inl, inr, arith, sym, refl, ap, subst, ◌∙◌, append_assoc, append-nil}
use Rattle.std.specs.Prelude.{IsTrue, slice_get}
use Rattle.std.specs.List.{AllByRecursion, list_any}
use Rattle.std.specs.Option.{option_map_or}
use Rattle.std.proofs.lemmas.Bool.{cases_lt, cases_Bool, true≢false, eq-eqb, eqb-true, ne_eqb, and_parts}
use Rattle.std.proofs.lemmas.List.{map_push, take_more}
use Rattle.std.proofs.lemmas.Option.{slice_get-get_or}
use Rattle.bus_strings.proofs.ListLaws.{all_more}
use Rattle.bus_strings.specs.Members.{In}
use Rattle.bus_strings.proofs.MemberLaws.{of_each, at_in, any_in}
use Rattle.bus_strings.proofs.MessageLaws.{bits_some}
use Rattle.bus_strings.specs.Messages.{Entry, bits}
use Rattle.bus_strings.specs.Transmissions.{IsTransmission, IsAscending, carrier}
use Rattle.bus_table.specs.Tables.{Sender, Table}
use Rattle.bus_table.specs.Valid.{is_valid}
use Rattle.bus_timers.specs.Timings.{IsSound, due_place}
use Rattle.bus_timers.specs.GapPlace.{GapFrom}
use Rattle.bus_timers.proofs.GapStepLaws.{gap_settled}
use Rattle.bus_timers.specs.MayStartTest.{TestDecides}
use Rattle.bus_timers.proofs.TimingLaws.{sound_sg}
use Rattle.bus_medium.specs.Past.{past, own, last_place}
use Rattle.bus_medium.proofs.PastLaws.{length_past, own_later, own_more, last_push, not_own_test}
use Rattle.bus_medium.proofs.StationLaws.{timings_are_sound}
use Rattle.bus_medium.specs.Timings.{quiet_of, timing_of}
use Rattle.bus_dump.specs.declared.sender_timers.SenderTimers.{SenderTimers}
use Rattle.bus_dump.specs.declared.live.Live.{Live}
use Rattle.bus_dump.specs.declared.walk.Walk.{Walk}
use Rattle.bus_dump.specs.inside.SenderTimers.{IsLow, Keeps, last_behind, next_turn, passed, tells_at}
use Rattle.bus_dump.specs.Scenes.{elapsed_at}
use Rattle.bus_dump.specs.Timers.{elapsed_of}
use Rattle.bus_dump.specs.Seen.{holds}
use Rattle.bus_dump.specs.inside.Walks.{BeginsFrom, IsWalkable, Stands, live_entry, live_of}
use Rattle.bus_dump.specs.inside.TimerWalks.{AreAllTimersOf, AreTimersOf, NoneBetween, begins, timers_passed}
use Rattle.bus_dump.specs.inside.TimerWalks.{timer_turn, settled, starts, starts_at}
use Rattle.bus_dump.proofs.SenderTimerLemmas.{timers_passed as passed_keeps, timers_steady, timers_tell}
use Rattle.bus_dump.proofs.LawLemmas.{any_given, any_places, any_same}
use Rattle.bus_dump.proofs.LiveLemmas.{absent, present, at_place, holds_ahead, holds_true, live_none, live_some}
use Rattle.bus_dump.proofs.RangeLemmas.{front_is}

-- ---- who starts
entry_bits : (list : List Entry) (x : Entry) → AllByRecursion IsTransmission list → In x list → 0 < bits x.message
entry_bits list x all there = bits_some x.message (of_each IsTransmission list all x there).message.some

pub begins_is : (list : List Entry) (t n : ℕ) (w : Walk) → IsWalkable list → Stands list t w → begins t w.live.items n ≡ starts list t n
begins_is list t n w walkable s =
    ap (λ l. begins t l n) s.live
    ∙ ap (list_any test) (sym (front_is (live_entry list t) w.begun (length list) s.within none))
    ∙ any_given test (live_entry list t) 0 (length list)
    ∙ any_same (λ k. option_map_or test (live_entry list t k) false) (λ k. option_map_or (starts_at t n) (slice_get list k) false) 0 (length list) same
    ∙ any_places (starts_at t n) list
  where
    test : Live → Bool
    test = λ (one : Live). eqb one.moment t && eqb one.terminal n

    none : (k : ℕ) → w.begun ≤ k → live_entry list t k ≡ None
    none k l = elim (at_place list k) [
      | absent e ↦ live_none list t k e
      | present x e ↦ (let m : t + 1 ≤ x.moment = s.ahead k x l e in
          live_some list t k x e ∙ ap (λ b. cond b (Some (live_of list k x)) None) (holds_ahead t x (omega arith)))
    ]

    same : (k : ℕ) → option_map_or test (live_entry list t k) false ≡ option_map_or (starts_at t n) (slice_get list k) false
    same k = elim (at_place list k) [
      | absent e ↦ ap (λ o. option_map_or test o false) (live_none list t k e) ∙ sym (ap (λ o. option_map_or (starts_at t n) o false) e)
      | present x e ↦
          ap (λ o. option_map_or test o false) (live_some list t k x e)
          ∙ elim (cases_Bool (holds t x)) [
            | inl on ↦ ap (λ b. option_map_or test (cond b (Some (live_of list k x)) None) false) on
            | inr off ↦ ap (λ b. option_map_or test (cond b (Some (live_of list k x)) None) false) off
                ∙ sym (ap (λ b. b && eqb x.terminal n) (ne_eqb x.moment t (λ at.
                let some : 0 < bits x.message = entry_bits list x walkable.entries (at_in list k x e) in
                true≢false (sym (holds_true t x (omega arith) (omega arith)) ∙ off))))
          ]
          ∙ sym (ap (λ o. option_map_or (starts_at t n) o false) e)
    ]

-- the entry that starts
pub starting : (list : List Entry) (t n : ℕ) → starts list t n ≡ true → (x : Entry) × In x list × (x.moment ≡ t) × (x.terminal ≡ n)
starting [] t n h = absurd (true≢false (sym h))
starting (x ∷ list) t n h = elim (cases_Bool (starts_at t n x)) [
  | inl yes' ↦ (let p = and_parts (eqb x.moment t) (eqb x.terminal n) yes' in (x, inl refl, eqb-true x.moment t p.0, eqb-true x.terminal n p.1))
  | inr no' ↦ (let more = starting list t n (sym (rw no' refl) ∙ h) in (more.0, inr more.1, more.2, more.3))
]

-- ---- the last own start
pub none_between : (list : List Entry) (t u : ℕ) (w : Walk) → Stands list t w → BeginsFrom list w.begun u → NoneBetween list t u
none_between list t u w s ahead x there =
    let p = place_of list x there in
    elim (cases_lt p.0 w.begun) [
      | inl begun ↦ inl (s.before p.0 x begun p.1)
      | inr later ↦ inr (ahead p.0 x later p.1)
    ]
  where
    place_of : (xs : List Entry) (y : Entry) → In y xs → (k : ℕ) × (slice_get xs k ≡ Some y)
    place_of [] y i = absurd i
    place_of (z ∷ zs) y (inl same) = (0, ap Some (sym same))
    place_of (z ∷ zs) y (inr i) = let p = place_of zs y i in (suc p.0, p.1)

pub last_is : (q : ℕ) (list : List Entry) (t u n : ℕ) → IsAscending list → t < u → NoneBetween list t u
    → last_place q (own list n u) ≡ last_behind (q + t) (starts list t n) (last_place q (own list n t))
last_is q list t u n order h none = elim (cases_Bool (starts list t n)) [
  | inl yes' ↦
      let p = starting list t n yes' in
      let x : Entry = p.0 in
      let more : own list n (t + 1) ≡ own list n t ++ x ∷ [] =
      subst (λ m. own list m (t + 1) ≡ own list m t ++ x ∷ []) p.3
      (subst (λ m. own list x.terminal (m + 1) ≡ own list x.terminal m ++ x ∷ []) p.2 (own_more list x order p.1)) in
      let later : own list n u ≡ own list n (t + 1) =
      own_later list n (t + 1) u (omega arith) (λ y there same low high. elim (none y there) [ inl a ↦ omega arith | inr b ↦ omega arith ]) in
      let m : x.moment ≡ t = p.2 in
      ap (last_place q) (later ∙ more) ∙ last_push q (own list n t) x ∙ ap (λ k. Some (q + k)) m
      ∙ sym (ap (λ b. last_behind (q + t) b (last_place q (own list n t))) yes')
  | inr no' ↦
      ap (last_place q) (own_later list n t u (omega arith) (λ y there same low high. elim (none y there) [
        | inl a ↦ (let at : y.moment ≡ t = omega arith in
            absurd (true≢false (sym (any_in (starts_at t n) list y there (rw (eq-eqb y.moment t at, eq-eqb y.terminal n same) refl)) ∙ no')))
        | inr b ↦ omega arith
      ]))
      ∙ sym (ap (λ b. last_behind (q + t) b (last_place q (own list n t))) no')
]

-- ---- the past
replicate_push : (n : ℕ) (b : Bool) → replicate n b ++ b ∷ [] ≡ replicate (suc n) b
replicate_push zero b = refl
replicate_push (suc n) b = ap (λ l. b ∷ l) (replicate_push n b)

pub past_along : (q : ℕ) (list : List Entry) (t k : ℕ) (b : Bool) → ((v : ℕ) → t ≤ v → v < t + k → carrier list v ≡ b)
    → past q list (t + k) ≡ past q list t ++ replicate k b
past_along q list t zero b h = ap (past q list) (let e : t + 0 ≡ t = omega arith in e) ∙ sym (append-nil (past q list t))
past_along q list t (suc k) b h =
    ap (past q list) (let e : t + suc k ≡ suc (t + k) = omega arith in e)
    ∙ ap (λ p. p ++ carrier list (t + k) ∷ []) (past_along q list t k b (λ v l u. h v l (omega arith)))
    ∙ ap (λ c. (past q list t ++ replicate k b) ++ c ∷ []) (h (t + k) (omega arith) (omega arith))
    ∙ append_assoc (past q list t) (replicate k b) (b ∷ [])
    ∙ ap (λ l. past q list t ++ l) (replicate_push k b)

-- ---- the timers of one sender
own_none : (list : List Entry) (n : ℕ) → own list n 0 ≡ []
own_none [] n = refl
own_none (x ∷ list) n = ap (λ b. cond b (x ∷ own list n 0) (own list n 0)) (not_own_test n 0 x (λ p. let k : x.moment < 0 = p.1 in omega arith)) ∙ own_none list n

timers_settled : (table : Table) (list : List Entry) (sender : Sender) → IsSound (timing_of table sender) → AreTimersOf table list 0 sender (settled table sender)
timers_settled table list sender sound =
    let timing = timing_of table sender in
    let none : last_place (quiet_of table) (own list sender.number 0) ≡ None = ap (last_place (quiet_of table)) (own_none list sender.number) in
    let least : table.sg ≤ quiet_of table = sound.quiet_least in
    record {
      terminal = refl;
      timing = refl;
      keeps = record {
        sound = sound;
        interval = sym (ap (due_place timing) none);
        from = subst (λ l. GapFrom table.sg (replicate (quiet_of table) false) l table.sg) (sym none)
            (gap_settled table.sg (quiet_of table) (sound_sg timing sound) least);
      };
    }

-- they are kept on, where its terminal starts at t or not, and the carrier stays as it is
keeps_on : (table : Table) (list : List Entry) (t k : ℕ) (sender : Sender) (sender_timers : SenderTimers) (live : List Live) (b : Bool) → IsAscending list → 0 < k
    → NoneBetween list t (t + k) → ((v : ℕ) → t ≤ v → v < t + k → carrier list v ≡ b)
    → begins t live sender.number ≡ starts list t sender.number → AreTimersOf table list t sender sender_timers
    → AreTimersOf table list (t + k) sender (timers_passed t live (quiet_of table + t) (quiet_of table + (t + k)) b sender_timers)
keeps_on table list t k sender sender_timers live b order some none same begin c =
    let q = quiet_of table in
    let n = sender.number in
    let s : Bool = begins t live sender_timers.terminal in
    let s_is : s ≡ starts list t n = ap (begins t live) c.terminal ∙ begin in
    let len : length (past q list t) ≡ q + t = length_past q list t in
    let kept : Keeps (passed (q + t) (q + (t + k)) s b sender_timers) (past q list t ++ replicate k b) (last_behind (q + t) s (last_place q (own list n t))) =
    passed_keeps sender_timers (past q list t) (last_place q (own list n t)) (q + t) (q + (t + k)) k s b c.keeps (sym len) (omega arith) some in
    let last : last_place q (own list n (t + k)) ≡ last_behind (q + t) s (last_place q (own list n t)) =
    last_is q list t (t + k) n order (omega arith) none ∙ ap (λ x. last_behind (q + t) x (last_place q (own list n t))) (sym s_is) in
    record {
      terminal = c.terminal;
      timing = c.timing;
      keeps = subst (λ p. Keeps (passed (q + t) (q + (t + k)) s b sender_timers) p (last_place q (own list n (t + k)))) (sym (past_along q list t k b same))
          (subst (λ l. Keeps (passed (q + t) (q + (t + k)) s b sender_timers) (past q list t ++ replicate k b) l) (sym last) kept);
    }

-- it tells what the timers tell
tells : TestDecides → (table : Table) (list : List Entry) (t : ℕ) (sender : Sender) (sender_timers : SenderTimers) → AreTimersOf table list t sender sender_timers
    → tells_at (quiet_of table + t) sender_timers ≡ elapsed_at table list t sender
tells decides table list t sender sender_timers c =
    let q = quiet_of table in
    let p = past q list t in
    let l = last_place q (own list sender.number t) in
    ap (λ n. tells_at n sender_timers) (sym (length_past q list t))
    ∙ timers_tell decides sender_timers p l c.keeps
    ∙ ap (λ n. elapsed_of n sender_timers.timing p l) c.terminal
    ∙ ap (λ g. elapsed_of sender.number g p l) c.timing

-- the timers tell the same up to the next turn
stays : TestDecides → (table : Table) (list : List Entry) (t k limit : ℕ) (sender : Sender) (sender_timers : SenderTimers) (live : List Live) (b : Bool) → IsAscending list
    → 0 < k → NoneBetween list t (t + k) → ((v : ℕ) → t ≤ v → v < t + k → carrier list v ≡ b)
    → begins t live sender.number ≡ starts list t sender.number → AreTimersOf table list t sender sender_timers → quiet_of table + t < limit
    → quiet_of table + t + k < timer_turn t live (quiet_of table + t) limit b sender_timers
    → elapsed_at table list (t + k) sender ≡ elapsed_at table list t sender
stays decides table list t k limit sender sender_timers live b order some none same begin c low h =
    let q = quiet_of table in
    let on = keeps_on table list t k sender sender_timers live b order some none same begin c in
    let at : q + (t + k) ≡ q + t + k = omega arith in
    sym (tells decides table list (t + k) sender (timers_passed t live (q + t) (q + (t + k)) b sender_timers) on)
    ∙ ap (λ p. tells_at p (timers_passed t live (q + t) p b sender_timers)) at
    ∙ by_start (begins t live sender_timers.terminal) refl
    ∙ tells decides table list t sender sender_timers c
  where
    by_start : (s : Bool) → begins t live sender_timers.terminal ≡ s
        → tells_at (quiet_of table + t + k) (passed (quiet_of table + t) (quiet_of table + t + k) (begins t live sender_timers.terminal) b sender_timers) ≡ tells_at (quiet_of table + t) sender_timers
    by_start true e =
        let turn : timer_turn t live (quiet_of table + t) limit b sender_timers ≡ quiet_of table + t + 1 =
        ap (λ s. next_turn (quiet_of table + t) limit s b sender_timers) e in
        absurd (omega arith)
    by_start false e =
        ap (λ s. tells_at (quiet_of table + t + k) (passed (quiet_of table + t) (quiet_of table + t + k) s b sender_timers)) e
        ∙ timers_steady sender_timers (quiet_of table + t) limit k b c.keeps.sound some low
        (subst (λ s. quiet_of table + t + k < next_turn (quiet_of table + t) limit s b sender_timers) e h)

-- ---- all timers
pub all_settled : (table : Table) (list : List Entry) (senders : List Sender) → AllByRecursion (λ sender. IsSound (timing_of table sender)) senders
    → AreAllTimersOf table list 0 senders (map (settled table) senders)
all_settled table list [] all = tt
all_settled table list (s ∷ senders) all = (timers_settled table list s all.0, all_settled table list senders all.1)

pub all_tell : TestDecides → (table : Table) (list : List Entry) (t : ℕ) (senders : List Sender) (all_timers : List SenderTimers) → AreAllTimersOf table list t senders all_timers
    → map (tells_at (quiet_of table + t)) all_timers ≡ map (elapsed_at table list t) senders
all_tell decides table list t [] [] c = refl
all_tell decides table list t [] (k ∷ all_timers) c = absurd c
all_tell decides table list t (s ∷ senders) [] c = absurd c
all_tell decides table list t (s ∷ senders) (k ∷ all_timers) c =
    ap (λ e. e ∷ map (tells_at (quiet_of table + t)) all_timers) (tells decides table list t s k c.0)
    ∙ ap (λ l. elapsed_at table list t s ∷ l) (all_tell decides table list t senders all_timers c.1)

pub all_pass : (table : Table) (list : List Entry) (t k : ℕ) (live : List Live) (b : Bool) → IsAscending list → 0 < k → NoneBetween list t (t + k)
    → ((v : ℕ) → t ≤ v → v < t + k → carrier list v ≡ b) → ((n : ℕ) → begins t live n ≡ starts list t n)
    → (senders : List Sender) (all_timers : List SenderTimers) → AreAllTimersOf table list t senders all_timers
    → AreAllTimersOf table list (t + k) senders (map (timers_passed t live (quiet_of table + t) (quiet_of table + (t + k)) b) all_timers)
all_pass table list t k live b order some none same begin [] [] c = tt
all_pass table list t k live b order some none same begin [] (y ∷ all_timers) c = absurd c
all_pass table list t k live b order some none same begin (s ∷ senders) [] c = absurd c
all_pass table list t k live b order some none same begin (s ∷ senders) (y ∷ all_timers) c = (
  keeps_on table list t k s y live b order some none same (begin s.number) c.0,
  all_pass table list t k live b order some none same begin senders all_timers c.1,
)

pub all_stay : TestDecides → (table : Table) (list : List Entry) (t k limit next : ℕ) (live : List Live) (b : Bool) → IsAscending list → 0 < k
    → NoneBetween list t (t + k) → ((v : ℕ) → t ≤ v → v < t + k → carrier list v ≡ b) → ((n : ℕ) → begins t live n ≡ starts list t n)
    → quiet_of table + t < limit → quiet_of table + t + k < next → (senders : List Sender) (all_timers : List SenderTimers)
    → AllByRecursion (λ sender_timers. next ≤ timer_turn t live (quiet_of table + t) limit b sender_timers) all_timers → AreAllTimersOf table list t senders all_timers
    → map (elapsed_at table list (t + k)) senders ≡ map (elapsed_at table list t) senders
all_stay decides table list t k limit next live b order some none same begin low h [] [] least c = refl
all_stay decides table list t k limit next live b order some none same begin low h [] (y ∷ all_timers) least c = absurd c
all_stay decides table list t k limit next live b order some none same begin low h (s ∷ senders) [] least c = absurd c
all_stay decides table list t k limit next live b order some none same begin low h (s ∷ senders) (y ∷ all_timers) least c =
    let first : next ≤ timer_turn t live (quiet_of table + t) limit b y = least.0 in
    ap (λ e. e ∷ map (elapsed_at table list (t + k)) senders)
    (stays decides table list t k limit s y live b order some none same (begin s.number) c.0 low (omega arith))
    ∙ ap (λ l. elapsed_at table list t s ∷ l) (all_stay decides table list t k limit next live b order some none same begin low h senders all_timers least.1 c.1)

-- ---- far below the end of their type
low_settled : (table : Table) (sender : Sender) → IsSound (timing_of table sender) → IsLow (settled table sender)
low_settled table sender sound =
    let a : quiet_of table ≤ table.sg + 256 = sound.quiet_most in
    let b : table.sg ≤ 1024 = sound.sg_most in
    let c = sound.due_most in
    record { sound = sound; due = omega arith; gap = omega arith }

pub all_low : (table : Table) (senders : List Sender) → AllByRecursion (λ sender. IsSound (timing_of table sender)) senders
    → AllByRecursion IsLow (map (settled table) senders)
all_low table [] all = tt
all_low table (s ∷ senders) all = (low_settled table s all.0, all_low table senders all.1)

low_passed : (from to : ℕ) (starts carrier : Bool) (sender_timers : SenderTimers) → from < 2 ^ 42 → to < 2 ^ 42 → IsLow sender_timers → IsLow (passed from to starts carrier sender_timers)
low_passed from to starts carrier sender_timers a b l =
    let ti : sender_timers.timing.ti ≤ 128000 = l.sound.ti_most in
    let sg : sender_timers.timing.sg ≤ 1024 = l.sound.sg_most in
    let due : sender_timers.due < 2 ^ 43 = l.due in
    let gap : sender_timers.gap < 2 ^ 43 = l.gap in
    by_start starts carrier ti sg due gap
  where
    behind : (g : ℕ) → g < 2 ^ 43 → sender_timers.timing.sg ≤ 1024 → cond (leb g from) to (to + sender_timers.timing.sg) < 2 ^ 43
    behind g h sg = elim (leb g from) as (λ x. cond x to (to + sender_timers.timing.sg) < 2 ^ 43) [ true ↦ omega arith | false ↦ omega arith ]

    by_start : (s c : Bool) → sender_timers.timing.ti ≤ 128000 → sender_timers.timing.sg ≤ 1024 → sender_timers.due < 2 ^ 43 → sender_timers.gap < 2 ^ 43 → IsLow (passed from to s c sender_timers)
    by_start true true ti sg due gap = record { sound = l.sound; due = omega arith; gap = behind (from + sender_timers.timing.sg) (omega arith) sg }
    by_start true false ti sg due gap = record { sound = l.sound; due = omega arith; gap = omega arith }
    by_start false true ti sg due gap = record { sound = l.sound; due = due; gap = behind sender_timers.gap gap sg }
    by_start false false ti sg due gap = record { sound = l.sound; due = due; gap = gap }

pub all_low_passed : (t : ℕ) (live : List Live) (from to : ℕ) (carrier : Bool) → from < 2 ^ 42 → to < 2 ^ 42 → (all_timers : List SenderTimers)
    → AllByRecursion IsLow all_timers → AllByRecursion IsLow (map (timers_passed t live from to carrier) all_timers)
all_low_passed t live from to carrier a b [] all = tt
all_low_passed t live from to carrier a b (c ∷ all_timers) all =
    (low_passed from to (begins t live c.terminal) carrier c a b all.0, all_low_passed t live from to carrier a b all_timers all.1)

-- ---- loops
-- what a list of timers has where it has nothing
abbrev pub no_timers : SenderTimers
no_timers = record { terminal = 0; timing = record { ti = 0; sg = 0; tg = 0; quiet = 0; due = 0 }; due = 0; gap = 0 }

pub all_sound : (table : Table) → IsTrue (is_valid table) → AllByRecursion (λ sender. IsSound (timing_of table sender)) table.senders
all_sound table valid = each table.senders (λ s i. timings_are_sound table s valid i) where
  each : (ss : List Sender) → ((s : Sender) → In s ss → IsSound (timing_of table s)) → AllByRecursion (λ sender. IsSound (timing_of table sender)) ss
  each [] h = tt
  each (s ∷ ss) h = (h s (inl refl), each ss (λ x i. h x (inr i)))

pub each_more : {X Y : Type 0} (f : X → Y) (xs : List X) (i : ℕ) (ys ys' : List Y) (y : Y) (d : X) → i < length xs → ys ≡ map f (take i xs)
    → ys' ≡ ys ++ y ∷ [] → y ≡ f (get_or xs i d) → ys' ≡ map f (take (i + 1) xs)
each_more f xs i ys ys' y d h old new is =
    new ∙ ap (λ l. l ++ y ∷ []) old ∙ ap (λ z. map f (take i xs) ++ z ∷ []) is
    ∙ sym (map_push f (take i xs) (get_or xs i d)) ∙ ap (map f) (sym (take_more xs i d h))

pub settled_more : (table : Table) (ys ys' : List SenderTimers) (y : SenderTimers) (k : ℕ) → k < length table.senders → ys ≡ map (settled table) (take k table.senders)
    → ys' ≡ ys ++ y ∷ [] → ((sender : Sender) → slice_get table.senders k ≡ Some sender → y ≡ settled table sender)
    → ys' ≡ map (settled table) (take (k + 1) table.senders)
settled_more table ys ys' y k h old new is =
    let s = at_place' table.senders k h in
    each_more (settled table) table.senders k ys ys' y s.0 h old new
    (is (get_or table.senders k s.0) (slice_get-get_or table.senders k s.0 h))
  where
    at_place' : (ss : List Sender) (i : ℕ) → i < length ss → (s : Sender) × (i < length ss)
    at_place' [] i l = absurd (omega arith)
    at_place' (s ∷ ss) i l = (s, l)

pub low_at : (all_timers : List SenderTimers) (i : ℕ) (d : SenderTimers) → i < length all_timers → AllByRecursion IsLow all_timers → IsLow (get_or all_timers i d)
low_at all_timers i d h all = of_each IsLow all_timers all (get_or all_timers i d) (at_in all_timers i (get_or all_timers i d) (slice_get-get_or all_timers i d h))

pub least_more : (f : SenderTimers → ℕ) (all_timers : List SenderTimers) (i : ℕ) (d : SenderTimers) (next turn least : ℕ) → i < length all_timers
    → AllByRecursion (λ sender_timers. next ≤ f sender_timers) (take i all_timers) → turn ≡ f (get_or all_timers i d) → least ≤ next → least ≤ turn
    → AllByRecursion (λ sender_timers. least ≤ f sender_timers) (take (i + 1) all_timers)
least_more f all_timers i d next turn least h all is low lower =
    all_more (λ sender_timers. least ≤ f sender_timers) all_timers i d h (weaker (take i all_timers) all) (subst (λ n. least ≤ n) is lower)
  where
    weaker : (xs : List SenderTimers) → AllByRecursion (λ sender_timers. next ≤ f sender_timers) xs → AllByRecursion (λ sender_timers. least ≤ f sender_timers) xs
    weaker [] a = tt
    weaker (x ∷ xs) a = (let k : next ≤ f x = a.0 in omega arith, weaker xs a.1)
