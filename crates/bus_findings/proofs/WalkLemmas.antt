-- What the walk between two starts gives is what is found.
use Rattle.std.specs.Prelude.{max, slice_get, slice_range, not, ◌==◌, option_map, filter}
use Rattle.std.proofs.Common.{◌≡◌, ◌≢◌, ℕ, zero, suc, ◌+◌, ◌-◌, ◌<◌, ◌≤◌, ◌⊎◌, Bool, List, [], ◌∷◌, take, drop, Option, Some, None, inl, inr, arith, refl, ap, sym, subst, ◌∙◌}
use Rattle.std.proofs.lemmas.Bool.{cases_lt, ne_eqb, not_from_false, not-true, eqb-false}
use Rattle.bus_strings.specs.Limits.{inner_gap}
use Rattle.bus_strings.specs.Members.{In}
use Rattle.bus_strings.specs.Messages.{Entry}
use Rattle.bus_strings.specs.Transmissions.{Precedes, IsOrdered, IsAscending}
use Rattle.bus_strings.proofs.KeptLemmas.{all_take}
use Rattle.bus_strings.proofs.ListLaws.{drop_at}
use Rattle.bus_strings.proofs.MemberLaws.{in_append_right, of_each, at_in, in_filter, from_filter}
use Rattle.bus_table.specs.Tables.{Table}
use Rattle.bus_bounds.specs.Bounds.{Bounds}
use Rattle.bus_recording.specs.Seen.{Seen, IsIn, Monitor, Bounds as TimerBounds}
use Rattle.bus_recording.specs.Findings.{IsEarlyBySync}
use Rattle.bus_recording.specs.Walk as walk
use Rattle.bus_recording.specs.Walk.{Ascends, IsSyncWalk, IsLateWalk, WalkFindsSync, WalkFindsNoSync, WalkFindsDue, WalkFindsNotDue, WalkFindsElapsed}
use Rattle.bus_findings.specs.declared.watch.Last.{Last}
use Rattle.bus_findings.specs.Amounts.{IsAmount, greatest}
use Rattle.bus_findings.specs.Recorded.{seen, recorded, reach, monitor_of}
use Rattle.bus_findings.specs.Lacks.{sync_lack}
use Rattle.bus_findings.specs.Dues.{due_of}
use Rattle.bus_findings.specs.inside.Standing.{IsLastAt, IsLastTo, IsStretch, others_end, latest_end}
use Rattle.bus_findings.specs.inside.Sound.{AreLong}
use Rattle.bus_findings.specs.inside.Walked as walked
use Rattle.bus_findings.proofs.AmountLemmas.{amounts_agree, greatest_at, greatest_over}
use Rattle.bus_findings.proofs.SeenLemmas.{is_in, in_is, recorded_is, is_recorded}
use Rattle.bus_findings.proofs.LackLemmas.{sync_is}
use Rattle.bus_findings.proofs.DueLemmas.{cases_option, due_first, not_due, due_by, elapsed_least, same_due}
use Rattle.bus_findings.proofs.PlaceLemmas.{before, here, between, behind, stands, take_split, in_part, in_take, before_it, behind_part, behind_it, moments_ascend, ordered_drop}

-- ---- the stretch between two starts

ordered_take : (R : Entry → Entry → Type 0) (n : ℕ) (list : List Entry) → IsOrdered R list → IsOrdered R (take n list)
ordered_take R zero list h = tt
ordered_take R (suc n) [] h = tt
ordered_take R (suc n) (x ∷ list) h = (all_take (R x) n list h.0, ordered_take R n list h.1)

pub ascends : (bounds : Bounds) (list : List Entry) → IsAscending list → Ascends (recorded bounds list)
ascends bounds [] up = tt
ascends bounds (x ∷ list) up = (
  (λ q i.
      let w = recorded_is bounds list q i in
      let p : Precedes x w.0 = of_each (Precedes x) list up.0 w.0 w.1 in
      let low : x.moment ≤ w.0.moment = moments_ascend x w.0 p in
      let e : w.0.moment ≡ q.moment = ap (λ (r : Seen). r.moment) w.2 in
      omega arith),
  ascends bounds list up.1,
)

ascends_part : (bounds : Bounds) (list : List Entry) (a b : ℕ) → IsAscending list → Ascends (recorded bounds (slice_range list a b))
ascends_part bounds list a b up =
    ascends bounds (slice_range list a b) (ordered_take Precedes (b - a) (drop a list) (ordered_drop Precedes a list up))

-- the last start is the one at its place
pub own_number : (bounds : Bounds) (list : List Entry) (number : ℕ) (last : Last) (o : Entry) → IsLastAt bounds list number last
    → slice_get list last.place ≡ Some o → o.terminal ≡ number
own_number bounds list number last o l there =
    let e : Some o ≡ Some l.start = sym there ∙ l.there in
    let same : o ≡ l.start = cc in
    ap (λ (x : Entry). x.terminal) same ∙ l.mine

-- from an entry on, none is earlier
pub from_it : (list : List Entry) (i : ℕ) (y z : Entry) → IsAscending list → slice_get list i ≡ Some y → In z (drop i list) → y.moment ≤ z.moment
from_it list i y z up at inside =
    let w : (z ≡ y) ⊎ In z (drop (i + 1) list) = subst (λ l. In z l) (drop_at list i y at) inside in
    elim w [
      | inl same ↦ (let e : z.moment ≡ y.moment = ap (λ (x : Entry). x.moment) same in omega arith)
      | inr later ↦ moments_ascend y z (behind_it list i y z up at later)
    ]

pub in_front : (list : List Entry) (place to : ℕ) (o z : Entry) → slice_get list place ≡ Some o → place < to → In z (slice_range list (place + 1) to)
    → In z (take to list)
in_front list place to o z there less inside =
    subst (λ l. In z l) (sym (take_split list place to o there less))
    (in_append_right (take place list) (o ∷ slice_range list (place + 1) to) z (inr inside))

-- of two that stand in a row each is recorded for itself
apart_seen : (bounds : Bounds) (x z : Entry) → Precedes x z → seen bounds x ≡ seen bounds z → ⊥
apart_seen bounds x z (inl less) same = let e : x.moment ≡ z.moment = ap (λ (r : Seen). r.moment) same in omega arith
apart_seen bounds x z (inr tie) same =
    let e : x.terminal ≡ z.terminal = ap (λ (r : Seen). r.sender) same in
    let less : x.terminal < z.terminal = tie.1 in omega arith

foreign_test : ℕ → Seen → Bool
foreign_test number r = not (r.sender == number)

-- ---- the synchronization gap

sync_walk : (bounds : Bounds) (table : Table) (list : List Entry) (number i : ℕ) (last : Last) (o y : Entry) → bounds.delay ≤ 9 → AreLong bounds list
    → IsAscending list → IsLastTo bounds list number i last → slice_get list last.place ≡ Some o → slice_get list i ≡ Some y → y.terminal ≡ number
    → IsSyncWalk (monitor_of bounds table) (recorded bounds list) (seen bounds o) (seen bounds y) (max (seen bounds o).soonest last.others)
    (recorded bounds (slice_range list (last.place + 1) i))
unfolding foreign_test
sync_walk bounds table list number i last o y near long up l there at mine =
    let place : ℕ = last.place in
    let others : last.others ≡ others_end (recorded bounds (take place list)) number = l.at.others in
    let ends : o.moment + 19 ≤ (seen bounds o).soonest = long o (at_in list place o there) in
    record {
      ascends = ascends_part bounds list (place + 1) i up;
      foreign = λ r inside.
          let w = recorded_is bounds (slice_range list (place + 1) i) r inside in
          let e : w.0.terminal ≡ r.sender = ap (λ (s : Seen). s.sender) w.2 in
          let apart : w.0.terminal ≢ number = l.none w.0 w.1 in (
            subst (λ s. IsIn s (recorded bounds list)) w.2 (is_recorded bounds list w.0 (in_part list (place + 1) i w.0 (omega (arith, l.within)) w.1)),
            λ same. apart (e ∙ same ∙ mine),
          );
      others = λ r inside apart.
          let w = recorded_is bounds list r inside in
          let e : w.0.terminal ≡ r.sender = ap (λ (s : Seen). s.sender) w.2 in
          elim (stands list place i o w.0 there l.within w.1) [
            | before front ↦
                let pass = not_from_false (r.sender == number) (ne_eqb r.sender number (λ same. apart (same ∙ sym mine))) in
                let member = in_filter (foreign_test number) (recorded bounds (take place list)) r
                (in_is (recorded bounds (take place list)) r (subst (λ s. IsIn s (recorded bounds (take place list))) w.2 (is_recorded bounds (take place list) w.0 front))) pass in
                let over : r.soonest ≤ others_end (recorded bounds (take place list)) number =
                greatest_over (λ (s : Seen). s.soonest) (filter (foreign_test number) (recorded bounds (take place list))) r member in
                inr (inl (omega (arith, over, others)))
            | here same ↦ absurd (apart (sym e ∙ ap (λ (x : Entry). x.terminal) same ∙ own_number bounds list number last o l.at there ∙ sym mine))
            | between mid ↦ inl (subst (λ s. IsIn s (recorded bounds (slice_range list (place + 1) i))) w.2 (is_recorded bounds (slice_range list (place + 1) i) w.0 mid))
            | behind rest ↦
                let low : y.moment ≤ w.0.moment = from_it list i y w.0 up at rest in
                let m : w.0.moment ≡ r.moment = ap (λ (s : Seen). s.moment) w.2 in
                inr (inr (omega (arith, low, m)))
          ];
      behind = omega arith;
      of_one = elim (cases_lt (seen bounds o).soonest last.others) [
        | inr fine ↦ inl (omega arith)
        | inl more ↦
            let f : Seen → ℕ = λ s. s.soonest in
            let some : 0 < greatest f (filter (foreign_test number) (recorded bounds (take place list))) = omega (arith, more, others) in
            let w = greatest_at f (filter (foreign_test number) (recorded bounds (take place list))) some in
            let p = from_filter (foreign_test number) (recorded bounds (take place list)) w.0 w.1 in
            let x = recorded_is bounds (take place list) w.0 (is_in (recorded bounds (take place list)) w.0 p.0) in
            let first : Precedes x.0 o = before_it list place o x.0 up there x.1 in
            let low : x.0.moment ≤ o.moment = moments_ascend x.0 o first in
            let m : x.0.moment ≡ w.0.moment = ap (λ (s : Seen). s.moment) x.2 in
            let apart : w.0.sender ≢ number = eqb-false w.0.sender number (not-true _ p.1) in
            let g : greatest f (filter (foreign_test number) (recorded bounds (take place list))) ≡ w.0.soonest = w.2 in
            inr (
              w.0,
              subst (λ s. IsIn s (recorded bounds list)) x.2 (is_recorded bounds list x.0 (in_take list place x.0 x.1)),
              (λ same. apart (same ∙ mine)),
              omega (arith, low, m),
              omega (arith, more, others, g),
            )
      ];
      long = omega (arith, ends, near);
    }

-- a start that is too early by more is too early by less
pub early_less : (timers : TimerBounds) (monitor : Monitor) (recording : List Seen) (o y : Seen) (m : ℕ) → 0 < m
    → IsEarlyBySync timers monitor m recording o y → IsEarlyBySync timers monitor 1 recording o y
early_less timers monitor recording o y m some h =
    let wide : monitor.drop + m ≤ timers.short.sg + 1 = h.wide in
    record { wide = omega arith; met = λ a length long own fits. h.met a length (omega arith) own fits }

pub sync_walked : WalkFindsSync → WalkFindsNoSync → (timers : TimerBounds) (monitor : Monitor) (recording : List Seen) (o y : Seen) (a : ℕ)
    (part : List Seen) → IsSyncWalk monitor recording o y a part → monitor.drop ≡ inner_gap + 1
    → walked.sync_lack monitor.reach timers.short.sg timers.short.tg y.moment a part ≡ sync_lack timers monitor recording o y
sync_walked finds finds_none timers monitor recording o y a part w drop =
    let n : ℕ = walked.sync_lack monitor.reach timers.short.sg timers.short.tg y.moment a part in
    let P : ℕ → Type 0 = λ m. IsEarlyBySync timers monitor m recording o y in
    amounts_agree P n (sync_lack timers monitor recording o y) (elim (cases_lt 0 n) [
      | inl some ↦
          let g = finds timers monitor recording o y a part n w (omega arith) some (omega (arith, some, drop)) in
          let r : IsAmount P n = record { so = λ _. g.so; most = λ m _ h. g.most m h } in r
      | inr none ↦
          let r : IsAmount P n = record {
            so = λ some. absurd (omega arith);
            most = λ m some h. absurd (finds_none timers monitor recording o y a part w (omega arith) (omega (arith, none, drop))
                (early_less timers monitor recording o y m some h));
          } in r
    ]) (sync_is timers monitor recording o y (omega arith))

pub sync_at : WalkFindsSync → WalkFindsNoSync → (timers : TimerBounds) (bounds : Bounds) (table : Table) (list : List Entry) (number i : ℕ) (last : Last) (o y : Entry)
    → bounds.delay ≤ 9 → AreLong bounds list → IsAscending list → IsLastTo bounds list number i last → slice_get list last.place ≡ Some o
    → slice_get list i ≡ Some y → y.terminal ≡ number
    → walked.sync_lack (reach bounds) timers.short.sg timers.short.tg y.moment (max (seen bounds o).soonest last.others)
    (recorded bounds (slice_range list (last.place + 1) i))
    ≡ sync_lack timers (monitor_of bounds table) (recorded bounds list) (seen bounds o) (seen bounds y)
sync_at finds finds_none timers bounds table list number i last o y near long up l there at mine =
    sync_walked finds finds_none timers (monitor_of bounds table) (recorded bounds list) (seen bounds o) (seen bounds y) _ _
    (sync_walk bounds table list number i last o y near long up l there at mine) refl

-- ---- lateness

late_walk : (bounds : Bounds) (table : Table) (list : List Entry) (number to start : ℕ) (last : Last) (o : Entry) (y : Seen) → y.moment ≡ start
    → IsLastAt bounds list number last → IsStretch list number last.place to start → slice_get list last.place ≡ Some o
    → IsLateWalk (monitor_of bounds table) (recorded bounds list) (seen bounds o) y
    (max (max (monitor_of bounds table).settled (seen bounds o).latest) last.latest) (recorded bounds (slice_range list (last.place + 1) to))
late_walk bounds table list number to start last o y is l s there =
    let place : ℕ = last.place in
    let settled : ℕ = (monitor_of bounds table).settled in
    let ends : last.latest ≡ latest_end (reach bounds) (recorded bounds (take place list)) = l.latest in
    record {
      ascends = ascends_part bounds list (place + 1) to s.order;
      settles = omega arith;
      own = omega arith;
      lasts = omega arith;
      least = elim (cases_lt (max settled (seen bounds o).latest) last.latest) [
        | inr fine ↦ elim (cases_lt settled (seen bounds o).latest) [ inl more ↦ inr (inl (omega arith)) | inr less ↦ inl (omega arith) ]
        | inl more ↦
            let f : Seen → ℕ = λ r. r.latest + reach bounds in
            let some : 0 < greatest f (recorded bounds (take place list)) = omega (arith, more, ends) in
            let w = greatest_at f (recorded bounds (take place list)) some in
            let x = recorded_is bounds (take place list) w.0 (is_in (recorded bounds (take place list)) w.0 w.1) in
            let first : Precedes x.0 o = before_it list place o x.0 s.order there x.1 in
            let low : x.0.moment ≤ o.moment = moments_ascend x.0 o first in
            let m : x.0.moment ≡ w.0.moment = ap (λ (r : Seen). r.moment) x.2 in
            let g : greatest f (recorded bounds (take place list)) ≡ w.0.latest + reach bounds = w.2 in
            inr (inr (
              w.0,
              subst (λ r. IsIn r (recorded bounds list)) x.2 (is_recorded bounds list x.0 (in_take list place x.0 x.1)),
              (λ same. apart_seen bounds x.0 o first (x.2 ∙ same)),
              omega (arith, low, m),
              omega (arith, more, ends, g),
            ))
      ];
      there = λ r inside.
          let w = recorded_is bounds (slice_range list (place + 1) to) r inside in
          let later : Precedes o w.0 = behind_part list place to o w.0 s.order there s.within w.1 in
          let high : w.0.moment ≤ start = s.before w.0 (in_front list place to o w.0 there s.within w.1) in
          let m : w.0.moment ≡ r.moment = ap (λ (q : Seen). q.moment) w.2 in
          let e : (seen bounds w.0).latest ≡ r.latest = ap (λ (q : Seen). q.latest) w.2 in (
            subst (λ q. IsIn q (recorded bounds list)) w.2 (is_recorded bounds list w.0 (in_part list (place + 1) to w.0 (omega (arith, s.within)) w.1)),
            (λ same. apart_seen bounds o w.0 later (sym (w.2 ∙ same))),
            omega (arith, high, m, is),
            omega (arith, m, e),
          );
      others = λ r inside.
          let w = recorded_is bounds list r inside in
          elim (stands list place to o w.0 there s.within w.1) [
            | before front ↦
                let member = in_is (recorded bounds (take place list)) r (subst (λ q. IsIn q (recorded bounds (take place list))) w.2 (is_recorded bounds (take place list) w.0 front)) in
                let over : r.latest + reach bounds ≤ latest_end (reach bounds) (recorded bounds (take place list)) =
                greatest_over (λ (q : Seen). q.latest + reach bounds) (recorded bounds (take place list)) r member in
                inr (inr (inl (omega (arith, over, ends))))
            | here same ↦ inl (sym w.2 ∙ ap (seen bounds) same)
            | between mid ↦ inr (inl (subst (λ q. IsIn q (recorded bounds (slice_range list (place + 1) to))) w.2 (is_recorded bounds (slice_range list (place + 1) to) w.0 mid)))
            | behind rest ↦
                let low : start ≤ w.0.moment = s.behind w.0 rest in
                let m : w.0.moment ≡ r.moment = ap (λ (q : Seen). q.moment) w.2 in
                inr (inr (inr (omega (arith, low, m, is))))
          ];
    }

-- where the walk gives when the terminal was due, it gives when its synchronization gap elapsed
elapsed_stays : (rest sg start c e : ℕ) → (l : List Seen) → walk.first_elapsed rest sg start c (Some e) l ≡ Some e
elapsed_stays rest sg start c e [] = refl
elapsed_stays rest sg start c e (r ∷ l) = elapsed_stays rest sg start (max c (r.latest + rest)) e l

due_elapses : (rest sg tg over start t : ℕ) → (c : ℕ) (e : Option ℕ) (l : List Seen) → walk.first_due rest sg tg over start c e l ≡ Some t
    → (u : ℕ) × (walk.first_elapsed rest sg start c e l ≡ Some u)
due_elapses rest sg tg over start t c (Some e) l is = (e, elapsed_stays rest sg start c e l)
due_elapses rest sg tg over start t c None [] is =
    elim (cases_option (walk.elapsed_by sg c start None)) [
      | inr some ↦ some
      | inl none ↦ absurd (let w : None ≡ Some t = sym (ap (walk.due_in tg over start c start) none) ∙ is in cc)
    ]
due_elapses rest sg tg over start t c None (r ∷ l) is =
    let d : ℕ = max c (r.latest + rest) in
    elim (cases_option (walk.elapsed_by sg c r.moment None)) [
      | inr some ↦ (some.0, ap (λ e. walk.first_elapsed rest sg start d e l) some.1 ∙ elapsed_stays rest sg start d some.0 l)
      | inl none ↦
          let s : walk.first_due rest sg tg over start c None (r ∷ l) ≡ walk.first_due rest sg tg over start d None l =
          ap (λ e. walk.first_of (walk.due_in tg over start c r.moment e) (walk.first_due rest sg tg over start d e l)) none in
          let w = due_elapses rest sg tg over start t d None l (sym s ∙ is) in
          (w.0, ap (λ e. walk.first_elapsed rest sg start d e l) none ∙ w.1)
    ]

pub due_walked : WalkFindsDue → WalkFindsNotDue → WalkFindsElapsed → (timers : TimerBounds) (monitor : Monitor) (recording : List Seen) (o y : Seen) (c : ℕ) (part : List Seen)
    → IsLateWalk monitor recording o y c part → 0 < timers.long.sg → 0 < timers.long.tg
    → walked.due monitor.rest timers.long.sg timers.long.tg (o.moment + timers.long.ti) y.moment c part ≡ due_of timers monitor recording o y.moment
due_walked finds finds_none elapses timers monitor recording o y c part w some_sg some_tg =
    let over : ℕ = o.moment + timers.long.ti in
    let found : Option ℕ = walk.first_due monitor.rest timers.long.sg timers.long.tg over y.moment c None part in
    let elapsed : Option ℕ = walk.first_elapsed monitor.rest timers.long.sg y.moment c None part in
    elim (cases_option found) [
      | inl none ↦ elim (cases_option (due_of timers monitor recording o y.moment)) [
        | inl never ↦ ap (option_map (walked.due_at over timers.long.tg elapsed)) none ∙ sym never
        | inr some ↦
            let f = due_first timers monitor recording o y.moment some.0 some.1 in
            absurd (finds_none timers monitor recording o y c part w some_sg some_tg none some.0.moment f.before f.over)
      ]
      | inr some ↦
          let at = finds timers monitor recording o y c some.0 part w some_sg some_tg some.1 in
          elim (cases_option (due_of timers monitor recording o y.moment)) [
            | inl never ↦ absurd (not_due timers monitor recording o y.moment some.0 never at.0 at.1)
            | inr due ↦
                let f = due_first timers monitor recording o y.moment due.0 due.1 in
                let b = due_by timers monitor recording o y.moment due.0 due.1 in
                let one : due.0.moment ≤ some.0 = f.first some.0 at.1 in
                let two : some.0 ≤ due.0.moment = at.2 due.0.moment f.before f.over in
                let t : some.0 ≡ due.0.moment = omega (arith, one, two) in
                let u = due_elapses monitor.rest timers.long.sg timers.long.tg over y.moment some.0 c None part some.1 in
                let e = elapses timers monitor recording o y c u.0 part w some_sg u.1 in
                let same : u.0 ≡ b.e = elapsed_least timers monitor recording o y.moment b.e u.0 b.elapsed e.0 e.1 e.2 in
                let timer : walked.last_over over timers.long.tg elapsed some.0 ≡ due.0.timer =
                ap (λ v. walked.last_over over timers.long.tg v some.0) (u.1 ∙ ap Some same)
                ∙ ap (walked.last_over over timers.long.tg (Some b.e)) t ∙ sym b.timer in
                let made : walked.due_at over timers.long.tg elapsed some.0 ≡ due.0 = same_due (walked.due_at over timers.long.tg elapsed some.0) due.0 t timer in
                ap (option_map (walked.due_at over timers.long.tg elapsed)) some.1 ∙ ap Some made ∙ sym due.1
          ]
    ]

pub due_at : WalkFindsDue → WalkFindsNotDue → WalkFindsElapsed → (timers : TimerBounds) (bounds : Bounds) (table : Table) (list : List Entry) (number to start : ℕ) (last : Last) (o : Entry)
    → IsLastAt bounds list number last → IsStretch list number last.place to start → slice_get list last.place ≡ Some o → 0 < timers.long.sg → 0 < timers.long.tg
    → walked.due (reach bounds) timers.long.sg timers.long.tg (o.moment + timers.long.ti) start
    (max (max (monitor_of bounds table).settled (seen bounds o).latest) last.latest) (recorded bounds (slice_range list (last.place + 1) to))
    ≡ due_of timers (monitor_of bounds table) (recorded bounds list) (seen bounds o) start
due_at finds finds_none elapses timers bounds table list number to start last o l s there some_sg some_tg =
    let y : Seen = record { moment = start; sender = number; soonest = start; latest = start } in
    due_walked finds finds_none elapses timers (monitor_of bounds table) (recorded bounds list) (seen bounds o) y _ _
    (late_walk bounds table list number to start last o y refl l s there) some_sg some_tg

-- the walks of the same numbers are the same
pub room_same : (reach g h m n a b : ℕ) (part : List Seen) → g ≡ h → m ≡ n → a ≡ b → walk.longest_room reach g m a part ≡ walk.longest_room reach h n b part
room_same reach g h m n a b part e1 e2 e3 = ap (λ v. walk.longest_room reach v m a part) e1 ∙ ap (λ v. walk.longest_room reach h v a part) e2 ∙ ap (λ v. walk.longest_room reach h n v part) e3

pub due_same : (rest s t g h u v start a b : ℕ) (part : List Seen) → s ≡ t → g ≡ h → u ≡ v → a ≡ b
    → walked.due rest s g u start a part ≡ walked.due rest t h v start b part
due_same rest s t g h u v start a b part e1 e2 e3 e4 =
    ap (λ z. walked.due rest z g u start a part) e1 ∙ ap (λ z. walked.due rest t z u start a part) e2
    ∙ ap (λ z. walked.due rest t h z start a part) e3 ∙ ap (λ z. walked.due rest t h v start z part) e4
