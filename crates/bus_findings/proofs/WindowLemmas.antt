-- A window of a trace stands in a file.
use Rattle.std.specs.Prelude.{nat_lt}
use Rattle.std.proofs.Common.{◌≡◌, ℕ, ◌+◌, ◌-◌, ◌*◌, ◌≤◌, Bool, true, false, cond, List, [], ◌∷◌, inl, inr, arith, refl, sym, ap, subst, ◌∙◌}
use Rattle.std.proofs.lemmas.Bool.Decides.{nat_tests}
use Rattle.bus_strings.specs.Messages.{Entry, bits}
use Rattle.bus_table.specs.Tables.{Sender, Table}
use Rattle.bus_trace.specs.Traces.{Recording}
use Rattle.bus_bounds.specs.Bounds.{Bounds}
use Rattle.bus_recording.specs.Names.{all_renamed, renamed}
use Rattle.bus_recording.specs.Seen.{IsIn, Seen}
use Rattle.bus_recording.specs.Shifts.{later}
use Rattle.bus_recording.specs.Windows.{WindowIsFile, WindowIsTold}
use Rattle.bus_findings.specs.Files.{StandsInFile}
use Rattle.bus_findings.specs.Recorded.{bits_drift, recorded, seen, monitor_of}
use Rattle.bus_findings.specs.Windows.{AreNoLonger, WindowsAreOfCourses, WindowsKeep, moved, window_from}

-- ---- the window of a file

earlier : ℕ → Seen → Seen
earlier base r = record { moment = r.moment - base; sender = r.sender; soonest = r.soonest - base; latest = r.latest - base }

window_of : ℕ → List Seen → List Seen
window_of base [] = []
window_of base (r ∷ file) = cond (nat_lt r.moment base) (window_of base file) (earlier base r ∷ window_of base file)

-- it ends no earlier than it begins
record Lasts (r : Seen) : Type 0 where
  soonest : r.moment ≤ r.soonest
  latest : r.moment ≤ r.latest

seen_as : ℕ → ℕ → ℕ → ℕ → Seen
seen_as sender moment soonest latest = record { moment = moment; sender = sender; soonest = soonest; latest = latest }

back : (base : ℕ) (r : Seen) → base ≤ r.moment → Lasts r → later base (earlier base r) ≡ r
unfolding seen_as earlier
back base r low l =
    let m : r.moment - base + base ≡ r.moment = omega (arith, low) in
    let s : r.soonest - base + base ≡ r.soonest = (let k = l.soonest in omega (arith, low, k)) in
    let e : r.latest - base + base ≡ r.latest = (let k = l.latest in omega (arith, low, k)) in
    ap (λ n. seen_as r.sender n (r.soonest - base + base) (r.latest - base + base)) m
    ∙ ap (λ n. seen_as r.sender r.moment n (r.latest - base + base)) s
    ∙ ap (λ n. seen_as r.sender r.moment r.soonest n) e

window_each : (base : ℕ) (file : List Seen) → ((r : Seen) → IsIn r file → Lasts r) → (r : Seen) → IsIn r (window_of base file)
    → IsIn (later base r) file
unfolding window_of
window_each base [] l r i = absurd i
window_each base (y ∷ file) l r i =
    elim (nat_lt y.moment base) as (λ b. nat_lt y.moment base ≡ b → IsIn r (cond b (window_of base file) (earlier base y ∷ window_of base file))
    → IsIn (later base r) (y ∷ file)) [
      | true ↦ λ e k. inr (window_each base file (λ z j. l z (inr j)) r k)
      | false ↦ λ e k. elim k [
        | inl same ↦
            (let low : base ≤ y.moment = grind (arith, nat_tests, e) in
            inl (ap (later base) same ∙ back base y low (l y (inl refl))))
        | inr j ↦ inr (window_each base file (λ z m. l z (inr m)) r j)
      ]
    ] refl i

window_all : (base : ℕ) (file : List Seen) → ((r : Seen) → IsIn r file → Lasts r) → (r : Seen) → IsIn r file → base ≤ r.moment
    → (w : Seen) × IsIn w (window_of base file) × (r ≡ later base w)
unfolding window_of
window_all base [] l r i low = absurd i
window_all base (y ∷ file) l r (inl same) low =
    let at : base ≤ y.moment = subst (λ (s : Seen). base ≤ s.moment) same low in
    let e : nat_lt y.moment base ≡ false = grind (arith, nat_tests, at) in (
      earlier base y,
      subst (λ b. IsIn (earlier base y) (cond b (window_of base file) (earlier base y ∷ window_of base file))) (sym e) (inl refl),
      same ∙ sym (back base y at (l y (inl refl))),
    )
window_all base (y ∷ file) l r (inr i) low =
    let w = window_all base file (λ z j. l z (inr j)) r i low in (
      w.0,
      elim (nat_lt y.moment base) as (λ b. IsIn w.0 (cond b (window_of base file) (earlier base y ∷ window_of base file))) [
        | true ↦ w.1
        | false ↦ inr w.1
      ],
      w.2,
    )

-- ---- the window of what is recorded

module _ (bounds : Bounds) (name : ℕ → ℕ) where
  lasts_seen : (r : Seen) (x : Entry) → renamed name r ≡ seen bounds x → Lasts r
  lasts_seen r x e =
      let m : r.moment ≡ x.moment = ap (λ (s : Seen). s.moment) e in
      let s : r.soonest ≡ x.moment + (bits x.message - bits_drift bounds x) = ap (λ (s : Seen). s.soonest) e in
      let l : r.latest ≡ x.moment + (bits x.message + bits_drift bounds x) = ap (λ (s : Seen). s.latest) e in
      record { soonest = omega (arith, m, s); latest = omega (arith, m, l) }

  heads : (r : Seen) (file : List Seen) (x : Entry) (list : List Entry) → all_renamed name (r ∷ file) ≡ recorded bounds (x ∷ list)
      → (renamed name r ≡ seen bounds x) × (all_renamed name file ≡ recorded bounds list)
  heads r file x list e = (first e, rest e) where
    first : (renamed name r ∷ all_renamed name file) ≡ (seen bounds x ∷ recorded bounds list) → renamed name r ≡ seen bounds x
    first e = cc

    rest : (renamed name r ∷ all_renamed name file) ≡ (seen bounds x ∷ recorded bounds list) → all_renamed name file ≡ recorded bounds list
    rest e = cc

  all_last : (file : List Seen) (list : List Entry) → all_renamed name file ≡ recorded bounds list → (r : Seen) → IsIn r file → Lasts r
  all_last [] list e r i = absurd i
  all_last (y ∷ file) [] e r i = absurd (cc)
  all_last (y ∷ file) (x ∷ list) e r (inl same) = subst Lasts (sym same) (lasts_seen y x (heads y file x list e).0)
  all_last (y ∷ file) (x ∷ list) e r (inr i) = all_last file list (heads y file x list e).1 r i

  moved_seen : (base : ℕ) (r : Seen) (x : Entry) → base ≤ x.moment → renamed name r ≡ seen bounds x
      → renamed name (earlier base r) ≡ seen bounds (moved base x)
  unfolding seen_as earlier
  moved_seen base r x low e =
      let m : r.moment ≡ x.moment = ap (λ (s : Seen). s.moment) e in
      let n : name r.sender ≡ x.terminal = ap (λ (s : Seen). s.sender) e in
      let s : r.soonest ≡ x.moment + (bits x.message - bits_drift bounds x) = ap (λ (s : Seen). s.soonest) e in
      let l : r.latest ≡ x.moment + (bits x.message + bits_drift bounds x) = ap (λ (s : Seen). s.latest) e in
      let m2 : r.moment - base ≡ x.moment - base = ap (λ k. k - base) m in
      let s2 : r.soonest - base ≡ x.moment - base + (bits x.message - bits_drift bounds x) = omega (arith, s, low) in
      let l2 : r.latest - base ≡ x.moment - base + (bits x.message + bits_drift bounds x) = omega (arith, l, low) in
      ap (λ k. seen_as k (r.moment - base) (r.soonest - base) (r.latest - base)) n
      ∙ ap (λ k. seen_as x.terminal k (r.soonest - base) (r.latest - base)) m2
      ∙ ap (λ k. seen_as x.terminal (x.moment - base) k (r.latest - base)) s2
      ∙ ap (λ k. seen_as x.terminal (x.moment - base) (x.moment - base + (bits x.message - bits_drift bounds x)) k) l2

  windows_same : (base : ℕ) (file : List Seen) (list : List Entry) → all_renamed name file ≡ recorded bounds list
      → all_renamed name (window_of base file) ≡ recorded bounds (window_from base list)
  unfolding window_of
  windows_same base [] [] e = refl
  windows_same base [] (x ∷ list) e = absurd (cc)
  windows_same base (r ∷ file) [] e = absurd (cc)
  windows_same base (r ∷ file) (x ∷ list) e =
      let h = heads r file x list e in
      let m : r.moment ≡ x.moment = ap (λ (s : Seen). s.moment) h.0 in
      let rest = windows_same base file list h.1 in
      ap (λ n. all_renamed name (cond (nat_lt n base) (window_of base file) (earlier base r ∷ window_of base file))) m
      ∙ chosen (nat_lt x.moment base) refl rest h.0
    where
      chosen : (b : Bool) → nat_lt x.moment base ≡ b → all_renamed name (window_of base file) ≡ recorded bounds (window_from base list)
          → renamed name r ≡ seen bounds x
          → all_renamed name (cond b (window_of base file) (earlier base r ∷ window_of base file))
          ≡ recorded bounds (cond b (window_from base list) (moved base x ∷ window_from base list))
      chosen true t rest head = rest
      chosen false t rest head =
          let low : base ≤ x.moment = grind (arith, nat_tests, t) in
          ap (λ s. s ∷ all_renamed name (window_of base file)) (moved_seen base r x low head)
          ∙ ap (λ l. seen bounds (moved base x) ∷ l) rest

-- ---- all of it

windowed : (bounds : Bounds) (table : Table) (trace window : Recording) (sender : Sender) (base : ℕ) → WindowIsFile → WindowIsTold
    → (s : StandsInFile bounds table trace sender) → AreNoLonger bounds table trace sender s → window.list ≡ window_from base trace.list
    → StandsInFile bounds table window sender
windowed bounds table trace window sender base is_file is_told s short e = record {
  course = s.course;
  terminal = s.terminal;
  name = s.name;
  arrives = s.arrives;
  away = s.away;
  reach = s.reach;
  drop = s.drop;
  bit = s.bit;
  start = s.start + base;
  end = s.end;
  longest = s.longest;
  noted = s.noted;
  file = window_of base s.file;
  some = s.some;
  placed = s.placed;
  near = s.near;
  noted_so = is_file s.bit s.start s.end base s.arrives s.noted s.course.list s.file (window_of base s.file) s.noted_so
      (record { each = window_each base s.file lasting; all = window_all base s.file lasting });
  told = is_told s.course s.arrives s.terminal s.reach s.drop s.bit s.start base s.longest (monitor_of bounds table) short s.told;
  names = s.names;
  named = s.named;
  is_trace = windows_same bounds s.name base s.file trace.list s.is_trace ∙ ap (recorded bounds) (sym e);
}
  where
    lasting : (r : Seen) → IsIn r s.file → Lasts r
    lasting = all_last bounds s.name s.file trace.list s.is_trace

since_later : (from start base bit away : ℕ) → from ≤ start * bit - away → from ≤ (start + base) * bit - away
since_later from start base bit away h =
    let e : (start + base) * bit ≡ start * bit + base * bit = grind arith in
    omega (arith, h, e)

pub windows_keep : WindowIsFile → WindowIsTold → WindowsKeep
unfolding windowed
windows_keep is_file is_told bounds table trace window sender base keeps short e = record {
  stands = windowed bounds table trace window sender base is_file is_told keeps.stands short e;
  from = keeps.from;
  kept = keeps.kept;
  keeps = keeps.keeps;
  since = since_later keeps.from keeps.stands.start base keeps.stands.bit keeps.stands.away keeps.since;
  within = keeps.within;
  wide = keeps.wide;
  long = keeps.long;
}

pub windows_are_of_courses : WindowIsFile → WindowIsTold → WindowsAreOfCourses
unfolding windowed
windows_are_of_courses is_file is_told bounds table trace window sender base is short e = record {
  stands = windowed bounds table trace window sender base is_file is_told is.stands short e;
  bus = is.bus;
  is_course = is.is_course;
  sends = is.sends;
  waits = is.waits;
  within = is.within;
  wide = is.wide;
  long = is.long;
}
