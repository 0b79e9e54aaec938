-- Why a start without a finding is the lawful one, where all is exact.
use Rattle.std.proofs.Common.{◌≡◌, ℕ, ◌+◌, ◌-◌, ◌<◌, ◌≤◌, true, List, inl, inr, arith, sym, ap, ◌∙◌}
use Rattle.std.proofs.lemmas.Bool.{cases_lt, cases_eq}
use Rattle.bus_clocks.specs.Entries.{Entry, In, end_of}
use Rattle.bus_clocks.specs.Hearing.{Hears}
use Rattle.bus_clocks.specs.Courses.{Course, IsQuiet}
use Rattle.bus_recording.specs.Seen.{IsIn, Seen, Timers}
use Rattle.bus_recording.specs.Findings.{HasNoFinding, IsQuietForCertain}
use Rattle.bus_recording.specs.Keeping.{AreInRow, AreOver, HasBeenQuiet}
use Rattle.bus_recording.specs.Recordings.{IsRecording}
use Rattle.bus_recording.specs.Amounts.{AreNext}
use Rattle.bus_recording.specs.Monitors.{monitor_of, seen_by}
use Rattle.bus_recording.specs.Exact.{IsExact, CleanStartIsDue, CleanStartIsLawful, exactly}
use Rattle.bus_recording.proofs.Admissible.{allowed, over}
use Rattle.bus_recording.proofs.Amounts.{gap, interval, late, sync}
use Rattle.bus_recording.proofs.Quiet.{hush, quiet_behind}
use Rattle.bus_recording.proofs.Recorded.{of_one, placed}
use Rattle.bus_recording.proofs.Search.{Free, look}

abbrev at_once : Entry → Seen
at_once = seen_by (λ y. y.moment)

module _ (c : Course) (k drop : ℕ) (recording : List Seen) (timers : Timers) (x z : Entry) (exact : IsExact c k drop recording) (row : AreInRow c.list k x z)
    (some : 0 < drop) (sg_wide : drop ≤ timers.sg) (tg_wide : drop ≤ timers.tg) where
  off : (y : Entry) (t : ℕ) → In y c.list → c.hears y k t ≡ true → (y.moment ≤ t) × (t < end_of y)
  off y t i h =
      let p = (exact.hears y i).within t h in
      let high : t < end_of y + 0 = p.1 in
      (p.0, omega arith)

  rec : IsRecording c (monitor_of 0 drop 0) k 0 0 0 at_once recording
  rec = placed c k 0 0 0 drop 0 0 0 (λ y. y.moment) recording
      (record {
        steady = λ y i mine. (let e : y.moment ≡ y.moment + 0 = omega arith in e);
        itself = λ y i mine. exact.hears y i;
        near = λ y i foreign.
            let h : Hears c.hears 0 drop y k = exact.hears y i in
            let soon : h.first ≤ y.moment + 0 = h.first_soon in
            let late : end_of y ≤ h.last + 1 = h.last_late in
            record {
              within = λ t g. (
                (let low : y.moment ≤ t = (h.within t g).0 in omega arith),
                (let high : t < end_of y + 0 = (h.within t g).1 in omega arith),
              );
              first = h.first;
              last = h.last;
              first_heard = h.first_heard;
              first_soon = omega arith;
              last_heard = h.last_heard;
              last_late = omega arith;
              filled = h.filled;
            };
      })
      (omega arith) exact.recorded
      (record { most = λ y i before. absurd (omega arith); over = omega arith; still = λ t low. exact.still t })
      (omega arith)

  in_it : (y : Entry) → In y c.list → IsIn (at_once y) recording
  in_it y i = exact.recorded.all y i (omega arith)

  pair : AreNext c.list k at_once recording x z
  pair = record {
    there = row.there;
    here = row.here;
    mine = row.mine;
    own = row.own;
    next = record {
      there = in_it x row.there;
      here = in_it z row.here;
      same = row.mine ∙ sym row.own;
      behind = row.behind;
      next = λ r i same less.
          let w = exact.recorded.each r i in
          let m : r.moment ≡ w.0.moment = ap (λ (v : Seen). v.moment) w.2 in
          let s : r.sender ≡ w.0.sender = ap (λ (v : Seen). v.sender) w.2 in
          elim (cases_lt r.moment z.moment) [
            | inr fine ↦ fine
            | inl before ↦ (let last : w.0.moment ≤ x.moment = row.next w.0 w.1 (sym s ∙ same ∙ row.own) (omega arith) in absurd (omega arith))
          ];
    };
  }

  -- ---- the lawful start has no finding

  lawful_clean : AreOver c k timers x z.moment → ((t : ℕ) → t < z.moment → AreOver c k timers x t → ⊥)
      → HasNoFinding (exactly timers) (monitor_of 0 drop 0) recording (at_once x) (at_once z)
  lawful_clean now before = record {
    by_interval = λ f.
        let few : z.moment + 1 ≤ x.moment + timers.ti + 0 = interval c (monitor_of 0 drop 0) k 0 0 0 at_once recording rec (exactly timers) 1 x z pair f in
        let passed : x.moment + timers.ti ≤ z.moment = now.interval in
        omega arith;
    by_sync = λ f.
        let room : now.elapsed + timers.tg ≤ z.moment = now.room in
        elim (sync c (monitor_of 0 drop 0) k 0 0 0 at_once recording rec (exactly timers) 1 x z timers.sg now.elapsed pair f now.behind now.synchronized (omega arith)) [
          | inl much ↦ omega arith
          | inr short ↦ omega arith
        ];
    by_gap = λ f. elim (gap c (monitor_of 0 drop 0) k 0 0 0 at_once recording rec (exactly timers) 1 z timers.tg row.here row.own (in_it z row.here) f now.gap) [
      | inl much ↦ omega arith
      | inr short ↦ omega arith
    ];
    late = λ f.
        let w = late c (monitor_of 0 drop 0) k 0 0 0 at_once recording rec (exactly timers) timers 1 x z pair (omega arith) (omega arith) (omega arith) f in
        let early : w.0 + 1 ≤ z.moment = w.1 in
        before w.0 (omega arith) w.2;
  }

  -- ---- and where there is no finding, the start is the lawful one

  module _ (none : HasNoFinding (exactly timers) (monitor_of 0 drop 0) recording (at_once x) (at_once z)) where
    -- what began before the start has ended a terminal gap before it
    ended : (y : Entry) → In y c.list → y.moment < z.moment → end_of y + timers.tg ≤ z.moment
    ended y i before = elim (cases_lt z.moment (end_of y + timers.tg)) [
      | inr fine ↦ fine
      | inl short ↦ absurd (none.by_gap (record {
        wide = tg_wide;
        other = at_once y;
        there = in_it y i;
        begun = inl (omega arith);
        early = omega arith;
      }))
    ]

    gap_quiet : timers.tg ≤ z.moment → HasBeenQuiet c k timers.tg z.moment
    gap_quiet fits = (
      fits,
      λ t low high. hush c k t (λ loud.
          let w = of_one c k t (exact.still t) loud in
          let p = off w.0 t w.1 w.2 in
          let begun : w.0.moment ≤ t = p.0 in
          let lasts : t < end_of w.0 = p.1 in
          let over' : end_of w.0 + timers.tg ≤ z.moment = ended w.0 w.1 (omega arith) in
          omega arith),
    )

    interval_over : x.moment + timers.ti ≤ z.moment
    interval_over = elim (cases_lt z.moment (x.moment + timers.ti)) [
      | inr fine ↦ fine
      | inl short ↦ absurd (none.by_interval (let k : z.moment + 1 ≤ x.moment + timers.ti = omega arith in k))
    ]

    -- no own transmission lies behind the end of the last one
    own_out : (y : Entry) (a t : ℕ) → In y c.list → y.sender ≡ k → end_of x ≤ a → a ≤ t → t < z.moment → y.moment ≤ t → t < end_of y → ⊥
    own_out y a t i mine low from' to begun lasts =
        let last : y.moment ≤ x.moment = row.next y i mine (omega arith) in
        elim (cases_lt y.moment x.moment) [
          | inl before ↦ (let gone : end_of y ≤ x.moment = exact.apart y x i row.there mine row.mine before in omega arith)
          | inr same ↦
              let one : y ≡ x = exact.once y x i row.there mine row.mine (omega arith) in
              let equal : end_of y ≡ end_of x = ap end_of one in
              omega arith
        ]

    free_over : (a : ℕ) → end_of x ≤ a → a + timers.sg ≤ z.moment - timers.tg → Free recording k a (a + timers.sg) → AreOver c k timers x z.moment
    free_over a low fits free = record {
      interval = interval_over;
      elapsed = a + timers.sg;
      behind = omega arith;
      synchronized = (
        omega arith,
        λ t from' to. hush c k t (λ loud.
            let w = of_one c k t (exact.still t) loud in
            let p = off w.0 t w.1 w.2 in
            let begun : w.0.moment ≤ t = p.0 in
            let lasts : t < end_of w.0 = p.1 in
            elim (cases_eq w.0.sender k) [
              | inl mine ↦ own_out w.0 a t w.1 mine low (omega arith) (omega arith) begun lasts
              | inr foreign ↦ elim (free (at_once w.0) (in_it w.0 w.1) foreign) [ inl far ↦ omega arith | inr gone ↦ omega arith ]
            ]),
      );
      room = omega arith;
      gap = gap_quiet (omega arith);
    }

    is_over : AreOver c k timers x z.moment
    is_over = elim (look recording k (end_of x) timers.sg (z.moment - timers.tg) (z.moment + 1)) [
      | inl w ↦ free_over w.0 w.1 w.2 w.3
      | inr all ↦ absurd (none.by_sync (record {
        wide = omega arith;
        met = λ a length long low fits.
            let m = all a (omega arith) low (omega arith) in
            let begun : m.0.moment < a + timers.sg = m.3 in
            record {
              other = m.0;
              there = m.1;
              foreign = λ same. m.2 (same ∙ row.own);
              begun = omega arith;
              ended = m.4;
            };
      }))
    ]

    -- what begins before the end of a quiet has ended before it begins
    gone_by : (y : Entry) (a b : ℕ) → In y c.list → IsQuiet c k a b → a + drop ≤ b → y.moment < b → end_of y ≤ a
    gone_by y a b i quiet long before =
        let h : Hears c.hears 0 drop y k = exact.hears y i in
        let soon : h.first ≤ y.moment + 0 = h.first_soon in
        let late : end_of y ≤ h.last + 1 = h.last_late in
        let gone : h.last + 1 ≤ a = quiet_behind c k drop y h.first h.last a b i h.first_heard h.filled long quiet (omega arith) in
        omega arith

    certain : (a b : ℕ) → IsQuiet c k a b → a + drop ≤ b → x.moment < b → IsQuietForCertain (monitor_of 0 drop 0) recording (at_once x) a b
    certain a b quiet long before = record {
      recorded = omega arith;
      own = gone_by x a b row.there quiet long before;
      others = λ r i.
          let w = exact.recorded.each r i in
          let m : r.moment ≡ w.0.moment = ap (λ (v : Seen). v.moment) w.2 in
          let l : r.latest ≡ w.0.moment + w.0.length = ap (λ (v : Seen). v.latest) w.2 in
          elim (cases_lt w.0.moment b) [
            | inl begun ↦ (let gone : end_of w.0 ≤ a = gone_by w.0 a b w.1 quiet long begun in inr (inr (omega arith)))
            | inr far ↦ inr (inl (omega arith))
          ];
    }

    never : (t : ℕ) → t < z.moment → AreOver c k timers x t → ⊥
    never t before o =
        let behind : x.moment + timers.sg ≤ o.elapsed = o.behind in
        let room : o.elapsed + timers.tg ≤ t = o.room in
        let fits : timers.sg ≤ o.elapsed = o.synchronized.0 in
        none.late (record {
          due = t;
          early = omega arith;
          over = record {
            interval = o.interval;
            elapsed = o.elapsed;
            fits = fits;
            synchronized = certain (o.elapsed - timers.sg) o.elapsed o.synchronized.1 (omega arith) (omega arith);
            room = room;
            gap = certain (t - timers.tg) t o.gap.1 (omega arith) (omega arith);
          };
        })

pub clean_starts_are_due : CleanStartIsDue
clean_starts_are_due c k drop recording timers x z exact row some sg_wide tg_wide = (
  λ none. (
    is_over c k drop recording timers x z exact row some sg_wide tg_wide none,
    never c k drop recording timers x z exact row some sg_wide tg_wide none,
  ),
  λ lawful. lawful_clean c k drop recording timers x z exact row some sg_wide tg_wide lawful.0 lawful.1,
)

pub clean_starts_are_lawful : CleanStartIsLawful
clean_starts_are_lawful c k drop recording timers x z exact row up some sg_wide tg_wide = (
  λ none. (
    allowed c k x z.moment timers.ti timers.sg timers.tg up (is_over c k drop recording timers x z exact row some sg_wide tg_wide none),
    λ t from' to may.
        never c k drop recording timers x z exact row some sg_wide tg_wide none t to (over c k x t timers.ti timers.sg timers.tg up (omega arith) may),
  ),
  λ lawful.
      lawful_clean c k drop recording timers x z exact row some sg_wide tg_wide
      (over c k x z.moment timers.ti timers.sg timers.tg up (omega arith) lawful.0)
      (λ t before o.
      let behind : x.moment + timers.sg ≤ o.elapsed = o.behind in
      let room : o.elapsed + timers.tg ≤ t = o.room in
      lawful.1 t (omega arith) before (allowed c k x t timers.ti timers.sg timers.tg up o)),
)
