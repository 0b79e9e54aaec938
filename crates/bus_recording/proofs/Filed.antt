-- Why what keeps its bounds has no finding in a file that counts from its own beginning.
use Rattle.std.proofs.Common.{◌≡◌, ℕ, ◌+◌, ◌-◌, ◌*◌, ◌<◌, ◌≤◌, List, inl, inr, arith, ap, ◌∙◌, subst}
use Rattle.std.proofs.lemmas.Bool.{cases_lt}
use Rattle.std.proofs.Math.Nat.{mul-le-mul_right, add-mul}
use Rattle.bus_clocks.specs.Entries.{Entry}
use Rattle.bus_clocks.specs.Courses.{Course}
use Rattle.bus_recording.specs.Seen.{IsIn, Monitor, Seen}
use Rattle.bus_recording.specs.Bounded.{bounds_of}
use Rattle.bus_recording.specs.Recordings.{IsRecording}
use Rattle.bus_recording.specs.Monitors.{IsSettled, monitor_of, recorded_from, seen_by}
use Rattle.bus_recording.specs.Rounding.{IsCoarser, IsNotedFrom, all_in_ticks, finer, in_ticks}
use Rattle.bus_recording.specs.Shifts.{all_later, settled_later}
use Rattle.bus_recording.specs.Files.{CourseFileIsClean, FileIsClean, FileIsRecorded, IsFile, IsToldOf, arrived, until}
use Rattle.bus_recording.proofs.Courses.{courses_keep}
use Rattle.bus_recording.proofs.Names.{names_free}
use Rattle.bus_recording.proofs.Noted.{as_rounded, noted_clean, there_are_recordings}
use Rattle.bus_recording.proofs.Recorded.{placed}
use Rattle.bus_recording.proofs.Rounded.{rounded_recorded}
use Rattle.bus_recording.proofs.Shifted.{from_later, in_later}
use Rattle.bus_recording.proofs.Unshifted.{counts_from_anywhere}
use Rattle.bus_recording.proofs.Until.{arrived_in, in_arrived, until_keeps, until_placed}

pub in_time : (bit end m t : ℕ) → t < m * bit + bit → m < end → t < end * bit
in_time bit end m t high less =
    let k : (m + 1) * bit ≤ end * bit = mul-le-mul_right bit (let l : m + 1 ≤ end = omega arith in l) in
    let e : (m + 1) * bit ≡ m * bit + 1 * bit = add-mul m 1 bit in
    omega arith

noted_in_time : (bit end m t : ℕ) → m * bit ≤ t → t < end * bit → m < end
noted_in_time bit end m t low high = elim (cases_lt m end) [
  | inl fine ↦ fine
  | inr more ↦ (let k : end * bit ≤ m * bit = mul-le-mul_right bit more in absurd (omega arith))
]

module _ (c : Course) (bit : ℕ) (arrives : Entry → ℕ) (noted : Entry → Seen) (start end : ℕ) (recording : List Seen)
    (f : IsFile bit arrives noted start end c.list recording) where
  as_noted : IsNotedFrom bit arrives noted start (arrived arrives (end * bit) c.list) (all_later start recording)
  as_noted = record {
    so = λ x i. f.so x (arrived_in arrives (end * bit) c.list x i).0;
    each = λ n i.
        let g = from_later start recording n i in
        let w = f.each g.0 g.1 in
        (w.0, in_arrived arrives (end * bit) c.list w.0 w.1 (in_time bit end (noted w.0).moment (arrives w.0) (f.so w.0 w.1).begun w.3), g.2 ∙ w.2);
    all = λ x i low.
        let a = arrived_in arrives (end * bit) c.list x i in
        let w = f.all x a.0 low (noted_in_time bit end (noted x).moment (arrives x) (f.so x a.0).begins a.1) in
        subst (λ v. IsIn v (all_later start recording)) w.2 (in_later start recording w.0 w.1);
    since = λ x i there.
        let g = from_later start recording (noted x) there in
        let at : (noted x).moment ≡ g.0.moment + start = ap (λ (v : Seen). v.moment) g.2 in
        omega arith;
  }

-- what is told of the monitor, in ticks of the bus
module _ (c : Course) (arrives : Entry → ℕ) (k reach drop bit start end longest : ℕ) (monitor : Monitor)
    (told : IsToldOf c arrives k reach drop bit start longest monitor) (one : 1 ≤ bit) where
  abbrev settled : ℕ
  settled = (start + monitor.settled + 1) * bit - 1

  settles : IsSettled (until arrives (end * bit) c) arrives k reach (start * bit) longest settled
  settles =
      let whole : (start + monitor.settled + 1) * bit ≡ (start + monitor.settled) * bit + 1 * bit = add-mul (start + monitor.settled) 1 bit in
      let parts : (start + monitor.settled) * bit ≡ start * bit + monitor.settled * bit = add-mul start monitor.settled bit in
      let next : (monitor.settled + 1) * bit ≡ monitor.settled * bit + 1 * bit = add-mul monitor.settled 1 bit in
      let over : longest + 2 * reach ≤ (monitor.settled + 1) * bit = told.settled in
      record {
        most = λ x i before. told.most x (arrived_in arrives (end * bit) c.list x i).0 before;
        over = omega arith;
        still = λ t late. told.still t (omega arith);
      }

  coarser : IsCoarser bit (monitor_of reach drop settled) (settled_later start monitor)
  coarser =
      let whole : (start + monitor.settled + 1) * bit ≡ (start + monitor.settled) * bit + 1 * bit = add-mul (start + monitor.settled) 1 bit in
      let parts : (start + monitor.settled) * bit ≡ start * bit + monitor.settled * bit = add-mul start monitor.settled bit in
      let turned : (monitor.settled + start) * bit ≡ monitor.settled * bit + start * bit = add-mul monitor.settled start bit in
      record { reach = told.begin; rest = told.finish; drop = told.quiet; settled = omega arith }

pub file_clean : FileIsClean
file_clean c k from away reach drop bit start end longest arrives noted recording monitor kept bounds keeps since one p near f told within wide room =
    (counts_from_anywhere bounds monitor start k recording).0
    (noted_clean (until arrives (end * bit) c) k from away reach drop bit start longest (settled c arrives k reach drop bit start end longest monitor told one) arrives noted
    (all_later start recording) (settled_later start monitor) kept bounds (until_keeps c kept k from away drop (end * bit) arrives p keeps)
    (until_placed c k away drop (end * bit) arrives p) near (as_noted c bit arrives noted start end recording f)
    (settles c arrives k reach drop bit start end longest monitor told one) since one
    (coarser c arrives k reach drop bit start end longest monitor told one) within wide
    (λ x i mine. room x (arrived_in arrives (end * bit) c.list x i).0 mine))

pub file_recorded : FileIsRecorded
file_recorded c k away reach drop bit start end longest arrives noted recording monitor one p near f told apart =
    let d = until arrives (end * bit) c in
    let over = settled c arrives k reach drop bit start end longest monitor told one in
    subst (λ n. IsRecording d (finer bit drop (settled_later start monitor)) k 0 away n (λ x. in_ticks bit (noted x)) (all_in_ticks bit (all_later start recording)))
    (let e : 0 + (bit - 1) ≡ bit - 1 = omega arith in e)
    (rounded_recorded d (monitor_of reach drop over) (settled_later start monitor) k 0 away 0 bit (seen_by arrives) noted (recorded_from arrives (start * bit) d.list)
    (all_later start recording)
    (placed d k 0 away reach drop (start * bit) longest over arrives (recorded_from arrives (start * bit) d.list) (until_placed c k away drop (end * bit) arrives p) near
    (there_are_recordings arrives (start * bit) d.list) (settles c arrives k reach drop bit start end longest monitor told one) (omega arith))
    (as_rounded bit arrives noted start d.list (all_later start recording) (as_noted c bit arrives noted start end recording f)) one
    (coarser c arrives k reach drop bit start end longest monitor told one)
    (λ x z i j e g less there.
    let xi = (arrived_in arrives (end * bit) c.list x i).0 in
    let zi = (arrived_in arrives (end * bit) c.list z j).0 in
    let a : arrives x ≡ x.moment + away = p.steady x xi e in
    let b : arrives z ≡ z.moment + away = p.steady z zi g in
    let far : x.moment + bit ≤ z.moment = apart x z xi zi e g less in
    omega arith))

pub course_file_clean : CourseFileIsClean
course_file_clean bus c k away reach drop bit start end longest arrives noted recording monitor bounds name ok known some one p near f told within wide room free =
    names_free bounds monitor name k recording free
    (file_clean c k 0 away reach drop bit start end longest arrives noted recording monitor (bounds_of bus k) bounds (courses_keep bus c k 0 ok known some) (omega arith) one p
    near f told within wide
    (λ x i mine.
    let long : bus.shortest x.sender ≤ x.length = (ok.sent x i).2 in
    let same : bus.shortest x.sender ≡ bus.shortest k = ap bus.shortest mine in
    omega arith))
