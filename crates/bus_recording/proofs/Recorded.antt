-- What monitors record is a recording.
use Rattle.std.proofs.Common.{◌≡◌, ℕ, ◌+◌, ◌-◌, ◌*◌, ◌<◌, ◌≤◌, Bool, true, false, ◌||◌, List, [], ◌∷◌, inl, inr, arith, sym, refl, ap, ◌∙◌, subst}
use Rattle.std.proofs.lemmas.Bool.{cases_lt, cases_eq, true≢false}
use Rattle.bus_clocks.specs.Entries.{Entry, In, IsAscending, end_of}
use Rattle.bus_clocks.specs.Courses.{Course, carrier}
use Rattle.bus_clocks.specs.Hearing.{Hears, hears_any}
use Rattle.bus_recording.specs.Seen.{Bounds}
use Rattle.bus_recording.specs.Keeping.{HasBeenQuiet, KeepsBounds}
use Rattle.bus_recording.specs.Bounded.{bounds_of}
use Rattle.bus_recording.specs.Monitors.{seen_by}
use Rattle.bus_recording.specs.Alarms.{CourseIsClean, HeardCourseIsClean, HeardIsClean, HeardIsRecorded, PlacedIsClean, PlacedIsRecorded}
use Rattle.bus_recording.proofs.Courses.{courses_keep}
use Rattle.bus_recording.proofs.Just.{just}
use Rattle.bus_recording.proofs.Quiet.{quiet_behind}

found : (hears : Entry → ℕ → ℕ → Bool) (list : List Entry) (k t : ℕ) → hears_any hears list k t ≡ true → (x : Entry) × In x list × (hears x k t ≡ true)
found hears [] k t h = absurd (true≢false (sym h))
found hears (y ∷ list) k t h =
    (elim (hears y k t) as (λ b. hears y k t ≡ b → (b || hears_any hears list k t) ≡ true → (x : Entry) × In x (y ∷ list) × (hears x k t ≡ true)) [
      | true ↦ λ e g. (y, inl refl, e)
      | false ↦ λ e g. (let w = found hears list k t g in (w.0, inr w.1, w.2))
    ]) refl h

-- carrier that is no noise is of a transmission
pub of_one : (c : Course) (k t : ℕ) → c.noise k t ≡ false → carrier c k t ≡ true → (x : Entry) × In x c.list × (c.hears x k t ≡ true)
of_one c k t still loud = found c.hears c.list k t (subst (λ b. (b || hears_any c.hears c.list k t) ≡ true) still loud)

pub placed : PlacedIsRecorded
placed c k from away reach drop start longest settled arrives recording p near f done since =
    let over : start + longest + 2 * reach ≤ settled + 1 = done.over in
    record {
      each = f.each;
      whole = λ t loud late.
          let w = of_one c k t (done.still t (omega arith)) loud in
          elim (cases_lt (arrives w.0) start) [
            | inr on ↦ (w.0, w.1, w.2, f.all w.0 w.1 on)
            | inl before ↦
                let most : w.0.length ≤ longest = done.most w.0 w.1 before in
                elim (cases_eq w.0.sender k) [
                  | inl own ↦
                      let to : t < end_of w.0 + 0 = ((p.itself w.0 w.1 own).within t w.2).1 in
                      let at : arrives w.0 ≡ w.0.moment + away = p.steady w.0 w.1 own in
                      absurd (omega arith)
                  | inr foreign ↦
                      let to : t < arrives w.0 + w.0.length + away = ((p.near w.0 w.1 foreign).within t w.2).1 in
                      absurd (omega arith)
                ]
          ];
      own = λ x i own.
          let at : arrives x ≡ x.moment + away = p.steady x i own in
          record { sender = refl; begins = omega arith; begun = omega arith; ends = omega arith; ended = omega arith };
      others = λ x i foreign.
          let q = p.near x i foreign in
          let soon : q.first ≤ arrives x + away = q.first_soon in
          record {
            sender = refl;
            within = λ t h. (
              (q.within t h).0,
              (let to : t < arrives x + x.length + away = (q.within t h).1 in omega arith),
            );
            first = q.first;
            last = q.last;
            first_heard = q.first_heard;
            first_soon = omega arith;
            last_heard = q.last_heard;
            last_late = q.last_late;
            filled = q.filled;
          };
      itself = p.itself;
      since = λ x i own on.
          let at : arrives x ≡ x.moment + away = p.steady x i own in
          let low : start ≤ arrives x = f.since x i on in
          omega arith;
      order = λ x z i j e g less on.
          let low : start ≤ arrives x = f.since x i on in
          let at : arrives x ≡ x.moment + away = p.steady x i e in
          let to : arrives z ≡ z.moment + away = p.steady z j g in
          (f.all z j (omega arith), omega arith);
      together = λ x z i j e g same.
          let at : arrives x ≡ x.moment + away = p.steady x i e in
          let to : arrives z ≡ z.moment + away = p.steady z j g in
          omega arith;
    }

pub placed_clean : PlacedIsClean
placed_clean c k from away reach drop start longest settled arrives recording kept bounds keeps within p near f done since =
    just c (record { reach = 2 * reach; rest = 2 * reach; drop = drop; settled = settled }) k from away 0 (seen_by arrives) recording kept bounds keeps within
    (placed c k from away reach drop start longest settled arrives recording p near f done since)

-- of two own transmissions the second begins behind the first's end and the terminal gap
pub in_order : (c : Course) (k from drop : ℕ) (kept : Bounds) → KeepsBounds c kept k from → drop ≤ kept.short.tg → (x z : Entry) → In x c.list → In z c.list
    → z.sender ≡ k → Hears c.hears 0 drop x k → from ≤ z.moment → x.moment < z.moment → x.moment + x.length + kept.short.tg ≤ z.moment
in_order c k from drop kept keeps wide x z i j own ear since less =
    let soon : ear.first ≤ x.moment + 0 = ear.first_soon in
    let been : HasBeenQuiet c k kept.short.tg z.moment = keeps.gap z x ear.first j own since i ear.first_heard (omega arith) in
    let fits : kept.short.tg ≤ z.moment = been.0 in
    let late : end_of x ≤ ear.last + 1 = ear.last_late in
    let last : ear.last + 1 ≤ z.moment - kept.short.tg =
    quiet_behind c k drop x ear.first ear.last (z.moment - kept.short.tg) z.moment i ear.first_heard ear.filled (omega arith) been.1 (omega arith) in
    omega arith

pub heard : HeardIsRecorded
heard c k from reach drop start longest settled arrives recording kept keeps wide room h f done since =
    let over : start + longest + 2 * reach ≤ settled + 1 = done.over in
    record {
      each = f.each;
      whole = λ t loud late.
          let w = of_one c k t (done.still t (omega arith)) loud in
          elim (cases_lt (arrives w.0) start) [
            | inr on ↦ (w.0, w.1, w.2, f.all w.0 w.1 on)
            | inl before ↦
                let most : w.0.length ≤ longest = done.most w.0 w.1 before in
                let low : w.0.moment ≤ arrives w.0 = (h.recorded w.0 w.1).0 in
                elim (cases_eq w.0.sender k) [
                  | inl own ↦ (let to : t < end_of w.0 + 0 = ((h.itself w.0 w.1 own).within t w.2).1 in absurd (omega arith))
                  | inr foreign ↦ (let to : t < end_of w.0 + reach = ((h.others w.0 w.1 foreign).within t w.2).1 in absurd (omega arith))
                ]
          ];
      own = λ x i own.
          let low : x.moment ≤ arrives x = (h.recorded x i).0 in
          let high : arrives x ≤ x.moment + reach = (h.recorded x i).1 in
          record { sender = refl; begins = omega arith; begun = omega arith; ends = omega arith; ended = omega arith };
      others = λ x i foreign.
          let q = h.others x i foreign in
          let low : x.moment ≤ arrives x = (h.recorded x i).0 in
          let high : arrives x ≤ x.moment + reach = (h.recorded x i).1 in
          let soon : q.first ≤ x.moment + reach = q.first_soon in
          let late : end_of x ≤ q.last + 1 = q.last_late in
          record {
            sender = refl;
            within = λ t g. (
              (let from' : x.moment ≤ t = (q.within t g).0 in omega arith),
              (let to : t < end_of x + reach = (q.within t g).1 in omega arith),
            );
            first = q.first;
            last = q.last;
            first_heard = q.first_heard;
            first_soon = omega arith;
            last_heard = q.last_heard;
            last_late = omega arith;
            filled = q.filled;
          };
      itself = h.itself;
      since = λ x i own on.
          let low : start ≤ arrives x = f.since x i on in
          let high : arrives x ≤ x.moment + reach = (h.recorded x i).1 in
          omega arith;
      order = λ x z i j e g less on.
          let low : start ≤ arrives x = f.since x i on in
          let high : arrives x ≤ x.moment + reach = (h.recorded x i).1 in
          let to : z.moment ≤ arrives z = (h.recorded z j).0 in
          let long : reach < x.length + kept.short.tg = room x i e in
          let apart : x.moment + x.length + kept.short.tg ≤ z.moment = in_order c k from drop kept keeps wide x z i j g (h.itself x i e) (omega arith) less in
          (f.all z j (omega arith), omega arith);
      together = λ x z i j e g same. ap arrives (h.once x z i j e g same);
    }

pub heard_clean : HeardIsClean
heard_clean c k from reach drop start longest settled arrives recording kept bounds keeps within wide room h f done since =
    just c (record { reach = 2 * reach; rest = 2 * reach; drop = drop; settled = settled }) k from reach reach (seen_by arrives) recording kept bounds keeps within
    (heard c k from reach drop start longest settled arrives recording kept keeps wide room h f done since)

pub course_clean : CourseIsClean
course_clean bus c k away reach drop start longest settled arrives recording bounds ok known some within p near f done =
    placed_clean c k 0 away reach drop start longest settled arrives recording (bounds_of bus k) bounds (courses_keep bus c k 0 ok known some) within p near f done (omega arith)

-- of one sender no two begin at one moment
once : (list : List Entry) → IsAscending list → (x z : Entry) → In x list → In z list → x.sender ≡ z.sender → x.moment ≡ z.moment → x ≡ z
once [] up x z i j e m = absurd i
once (y ∷ list) up x z (inl i) (inl j) e m = i ∙ sym j
once (y ∷ list) up x z (inl i) (inr j) e m =
    let a : x.moment ≡ y.moment = ap (λ (w : Entry). w.moment) i in
    elim (up.0 z j) [ inl less ↦ absurd (omega arith) | inr two ↦ absurd (two.1 (sym (ap (λ (w : Entry). w.sender) i) ∙ e)) ]
once (y ∷ list) up x z (inr i) (inl j) e m =
    let a : z.moment ≡ y.moment = ap (λ (w : Entry). w.moment) j in
    elim (up.0 x i) [ inl less ↦ absurd (omega arith) | inr two ↦ absurd (two.1 (sym (ap (λ (w : Entry). w.sender) j) ∙ sym e)) ]
once (y ∷ list) up x z (inr i) (inr j) e m = once list up.1 x z i j e m

pub heard_course_clean : HeardCourseIsClean
heard_course_clean bus c k start longest settled arrives recording bounds ok known some within wide room recorded f done =
    heard_clean c k 0 bus.delay bus.drop start longest settled arrives recording (bounds_of bus k) bounds (courses_keep bus c k 0 ok known some) within wide
    (λ x i mine.
    let long : bus.shortest x.sender ≤ x.length = (ok.sent x i).2 in
    let same : bus.shortest x.sender ≡ bus.shortest k = ap bus.shortest mine in
    omega arith)
    (record {
      recorded = recorded;
      itself = λ x i mine. subst (λ n. Hears c.hears 0 bus.drop x n) mine (ok.own x i);
      others = λ x i foreign. ok.others x k i;
      once = λ x z i j e g same. once c.list ok.ordered x z i j (e ∙ sym g) same;
    }) f done (omega arith)
