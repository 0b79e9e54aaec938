-- A window of a file is a file.
use Rattle.std.specs.Prelude.{◌≡◌, ◌*◌}
use Rattle.std.proofs.Common.{ℕ, ◌+◌, ◌≤◌, arith, sym, ap, ◌∙◌}
use Rattle.bus_recording.specs.Seen.{Seen}
use Rattle.bus_recording.specs.Shifts.{later}
use Rattle.bus_recording.specs.Windows.{WindowIsFile, WindowIsTold}

-- the same, with other numbers
seen_as : ℕ → ℕ → ℕ → ℕ → Seen
seen_as sender moment soonest latest = record { moment = moment; sender = sender; soonest = soonest; latest = latest }

later_twice : (start base : ℕ) (r : Seen) → later (start + base) r ≡ later start (later base r)
unfolding seen_as
later_twice start base r =
    let m : r.moment + (start + base) ≡ r.moment + base + start = omega arith in
    let s : r.soonest + (start + base) ≡ r.soonest + base + start = omega arith in
    let l : r.latest + (start + base) ≡ r.latest + base + start = omega arith in
    ap (λ n. seen_as r.sender n (r.soonest + (start + base)) (r.latest + (start + base))) m
    ∙ ap (λ n. seen_as r.sender (r.moment + base + start) n (r.latest + (start + base))) s
    ∙ ap (λ n. seen_as r.sender (r.moment + base + start) (r.soonest + base + start) n) l

pub window_is_file : WindowIsFile
window_is_file bit start end base arrives noted list file window f w = record {
  so = f.so;
  each = λ r i. (let it = f.each (later base r) (w.each r i) in (it.0, it.1, later_twice start base r ∙ it.2, it.3));
  all = λ x i low high.
      let it = f.all x i (omega (arith, low)) high in
      let m : it.0.moment + start ≡ (noted x).moment = ap (λ (s : Seen). s.moment) it.2 in
      let there = w.all it.0 it.1 (omega (arith, m, low)) in
      (there.0, there.1, later_twice start base there.0 ∙ ap (later start) (sym there.2) ∙ it.2);
}

pub window_is_told : WindowIsTold
window_is_told c arrives k reach drop bit start base longest monitor short t = record {
  begin = t.begin;
  finish = t.finish;
  quiet = t.quiet;
  most = λ x i before. short x i;
  settled = t.settled;
  still = λ u low. t.still u (more u low);
}
  where
    more : (u : ℕ) → (start + base + monitor.settled + 1) * bit ≤ u + reach + 1 → (start + monitor.settled + 1) * bit ≤ u + reach + 1
    more u low =
        let e : (start + base + monitor.settled + 1) * bit ≡ (start + monitor.settled + 1) * bit + base * bit = grind arith in
        omega (arith, low, e)
