-- Why what a monitor on a cable notes in whole bit times is judged rightly.
use Rattle.std.specs.Prelude.{nat_le}
use Rattle.std.proofs.Common.{◌≡◌, ℕ, ◌+◌, ◌-◌, ◌*◌, ◌<◌, ◌≤◌, true, false, cond, List, [], ◌∷◌, inl, inr, arith, sym, refl, ap, subst}
use Rattle.std.proofs.lemmas.Bool.{cases_lt, leb-true, le-leb}
use Rattle.std.proofs.Math.Nat.{mul-le-mul_right, add-mul}
use Rattle.bus_clocks.specs.Entries.{Entry, In}
use Rattle.bus_recording.specs.Seen.{IsIn, Seen}
use Rattle.bus_recording.specs.Monitors.{monitor_of, recorded_from, seen_by, ThereAreRecordings}
use Rattle.bus_recording.specs.Bounded.{bounds_of}
use Rattle.bus_recording.specs.Just.{AreWithin}
use Rattle.bus_recording.specs.Rounding.{IsNotedFrom, IsRounded, NotedCourseIsClean, NotedIsClean, bounds_in_ticks}
use Rattle.bus_recording.proofs.Courses.{courses_keep}
use Rattle.bus_recording.proofs.Recorded.{placed}
use Rattle.bus_recording.proofs.Rounded.{rounded_clean}

module _ (arrives : Entry → ℕ) (start : ℕ) where
  from_each : (list : List Entry) (r : Seen) → IsIn r (recorded_from arrives start list) → (x : Entry) × In x list × (r ≡ seen_by arrives x) × (start ≤ arrives x)
  from_each [] r i = absurd i
  from_each (y ∷ list) r i =
      (elim (nat_le start (arrives y)) as
      (λ b. nat_le start (arrives y) ≡ b → IsIn r (cond b (seen_by arrives y ∷ recorded_from arrives start list) (recorded_from arrives start list))
      → (x : Entry) × In x (y ∷ list) × (r ≡ seen_by arrives x) × (start ≤ arrives x)) [
        | true ↦ λ e j. elim j [
          | inl same ↦ (y, inl refl, same, leb-true start (arrives y) e)
          | inr k ↦ (let w = from_each list r k in (w.0, inr w.1, w.2, w.3))
        ]
        | false ↦ λ e j. (let w = from_each list r j in (w.0, inr w.1, w.2, w.3))
      ]) refl i

  from_all : (list : List Entry) (x : Entry) → In x list → start ≤ arrives x → IsIn (seen_by arrives x) (recorded_from arrives start list)
  from_all [] x i low = i
  from_all (y ∷ list) x (inl same) low =
      let e : nat_le start (arrives y) ≡ true = le-leb start (arrives y) (subst (λ w. start ≤ arrives w) same low) in
      subst (λ b. IsIn (seen_by arrives x) (cond b (seen_by arrives y ∷ recorded_from arrives start list) (recorded_from arrives start list))) (sym e)
      (inl (ap (seen_by arrives) same))
  from_all (y ∷ list) x (inr i) low =
      (elim (nat_le start (arrives y)) as
      (λ b. IsIn (seen_by arrives x) (cond b (seen_by arrives y ∷ recorded_from arrives start list) (recorded_from arrives start list))) [
        | true ↦ inr (from_all list x i low)
        | false ↦ from_all list x i low
      ])

pub there_are_recordings : ThereAreRecordings
there_are_recordings arrives start list = record {
  each = λ r i. (let w = from_each arrives start list r i in (w.0, w.1, w.2));
  all = λ x i low. from_all arrives start list x i low;
  since = λ x i there.
      let w = from_each arrives start list (seen_by arrives x) there in
      let same : arrives x ≡ arrives w.0 = ap (λ (v : Seen). v.moment) w.2 in
      let low : start ≤ arrives w.0 = w.3 in
      omega arith;
}

-- bit times from `start` on are ticks from there on
on_time : (bit start m t : ℕ) → m * bit ≤ t → t < m * bit + bit → start * bit ≤ t → start ≤ m
on_time bit start m t low high on = elim (cases_lt m start) [
  | inr fine ↦ fine
  | inl less ↦
      let k : (m + 1) * bit ≤ start * bit = mul-le-mul_right bit (let l : m + 1 ≤ start = omega arith in l) in
      let e : (m + 1) * bit ≡ m * bit + 1 * bit = add-mul m 1 bit in
      absurd (omega arith)
]

-- what is noted from a bit time on is what is recorded from there on
pub as_rounded : (bit : ℕ) (arrives : Entry → ℕ) (noted : Entry → Seen) (start : ℕ) (list : List Entry) (recording : List Seen)
    → IsNotedFrom bit arrives noted start list recording
    → IsRounded bit list (seen_by arrives) noted (recorded_from arrives (start * bit) list) recording
as_rounded bit arrives noted start list recording f =
    record {
      so = f.so;
      each = f.each;
      all = λ x i there.
          let low : start * bit ≤ arrives x = (there_are_recordings arrives (start * bit) list).since x i there in
          f.all x i (on_time bit start (noted x).moment (arrives x) (f.so x i).begins (f.so x i).begun low);
      back = λ x i there.
          let low : start ≤ (noted x).moment = f.since x i there in
          let up : start * bit ≤ (noted x).moment * bit = mul-le-mul_right bit low in
          let begins : (noted x).moment * bit ≤ arrives x = (f.so x i).begins in
          (there_are_recordings arrives (start * bit) list).all x i (omega arith);
    }

pub noted_clean : NotedIsClean
noted_clean c k from away reach drop bit start longest settled arrives noted recording coarse kept bounds keeps p near f done since one coarser within wide room =
    rounded_clean c (monitor_of reach drop settled) coarse k from away 0 bit (seen_by arrives) noted (recorded_from arrives (start * bit) c.list) recording kept bounds keeps
    (placed c k from away reach drop (start * bit) longest settled arrives (recorded_from arrives (start * bit) c.list) p near (there_are_recordings arrives (start * bit) c.list) done since)
    (as_rounded bit arrives noted start c.list recording f) one coarser
    (subst (λ n. AreWithin n kept (bounds_in_ticks bit bounds)) (let e : bit - 1 ≡ 0 + (bit - 1) = omega arith in e) within)
    wide
    (λ x i mine. (let long : bit ≤ x.length + kept.short.tg = room x i mine in omega arith))

pub noted_course_clean : NotedCourseIsClean
noted_course_clean bus c k away reach drop bit start longest settled arrives noted recording coarse bounds ok known some p near f done one coarser within wide room =
    noted_clean c k 0 away reach drop bit start longest settled arrives noted recording coarse (bounds_of bus k) bounds (courses_keep bus c k 0 ok known some) p near
    f done (omega arith) one coarser within wide
    (λ x i mine.
    let long : bus.shortest x.sender ≤ x.length = (ok.sent x i).2 in
    let same : bus.shortest x.sender ≡ bus.shortest k = ap bus.shortest mine in
    omega arith)
