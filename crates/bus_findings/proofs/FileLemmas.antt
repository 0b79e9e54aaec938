-- Who has no finding is told none, and the other way round; so nobody is blamed in the file of a monitor that keeps its bounds.
use Rattle.std.specs.Option.{option_map_or}
use Rattle.std.proofs.Common.{◌≡◌, ℕ, ◌<◌, ◌≤◌, List, [], ◌∷◌, Some, inl, inr, arith, ap, sym, subst, ◌∙◌}
use Rattle.std.proofs.lemmas.Bool.{cases_lt, and_from, eq-eqb, lt-ltb}
use Rattle.bus_strings.specs.Members.{In}
use Rattle.bus_strings.specs.Messages.{Entry}
use Rattle.bus_strings.specs.Transmissions.{Precedes, IsAscending}
use Rattle.bus_strings.proofs.MemberLaws.{of_each}
use Rattle.bus_table.specs.Fits.{sender_of}
use Rattle.bus_table.specs.Tables.{Sender, Table}
use Rattle.bus_trace.specs.Traces.{Recording, IsTrace}
use Rattle.bus_bounds.specs.Bounds.{Bounds}
use Rattle.bus_recording.specs.Files.{FileIsClean, CourseFileIsClean}
use Rattle.bus_recording.specs.Findings.{IsEarlyByInterval, IsEarlyByGap, IsEarlyBySync, IsLate, IsClean, HasNoFinding}
use Rattle.bus_recording.specs.Names.{all_renamed, NamesAreFree}
use Rattle.bus_recording.specs.Seen.{Seen, IsIn, IsNext}
use Rattle.bus_findings.specs.declared.judgement.Judgement.{Judgement}
use Rattle.bus_findings.specs.declared.judgement.Late.{Late}
use Rattle.bus_findings.specs.Amounts.{IsAmount}
use Rattle.bus_findings.specs.Judging.{last_start, judgement_of}
use Rattle.bus_findings.specs.Laws.{IsUnblamed, IsOfSender, CleanIsUnblamed, UnblamedIsClean, FilesAreUnblamed, CourseFilesAreUnblamed}
use Rattle.bus_findings.specs.Files.{StandsInFile}
use Rattle.bus_findings.specs.Recorded.{seen, recorded, monitor_of, timers_of}
use Rattle.bus_findings.proofs.SeenLemmas.{in_is, recorded_is}
use Rattle.bus_findings.proofs.LackLemmas.{gap_is}
use Rattle.bus_findings.proofs.DueLemmas.{cases_option}
use Rattle.bus_findings.proofs.SenderLemmas.{judged_sender}
use Rattle.bus_findings.proofs.JustLemmas.{clean_unblamed, next_is, last_none, last_test, amounts_told}

pub clean_is_unblamed : CleanIsUnblamed
clean_is_unblamed bounds table trace sender x t clean is = clean_unblamed bounds table trace sender x t clean is

-- ---- who is told none has no finding

same_precedes : (x z : Entry) → Precedes x z → x.moment ≡ z.moment → x.terminal ≡ z.terminal → ⊥
same_precedes x z (inl less) same mine = omega (arith, less, same)
same_precedes x z (inr later) same mine = omega (arith, later, mine)

-- of one terminal and one moment there is one transmission
pub one_start : (list : List Entry) (x z : Entry) → IsAscending list → In x list → In z list → x.moment ≡ z.moment → x.terminal ≡ z.terminal → x ≡ z
one_start [] x z up i j same mine = absurd i
one_start (y ∷ list) x z up (inl a) (inl b) same mine = a ∙ sym b
one_start (y ∷ list) x z up (inl a) (inr j) same mine =
    absurd (same_precedes y z (of_each (Precedes y) list up.0 z j) (ap (λ (w : Entry). w.moment) (sym a) ∙ same) (ap (λ (w : Entry). w.terminal) (sym a) ∙ mine))
one_start (y ∷ list) x z up (inr i) (inl b) same mine =
    absurd (same_precedes y x (of_each (Precedes y) list up.0 x i) (ap (λ (w : Entry). w.moment) (sym b) ∙ sym same) (ap (λ (w : Entry). w.terminal) (sym b) ∙ sym mine))
one_start (y ∷ list) x z up (inr i) (inr j) same mine = one_start list x z up.1 i j same mine

-- of two that are the last before a third each is the other
one_before : (a b x : ℕ) → a < x → b < x → (a < b → x ≤ b) → (b < a → x ≤ a) → a ≡ b
one_before a b x low less first second =
    elim (cases_lt a b) [
      | inl under ↦ absurd (let past : x ≤ b = first under in omega (arith, less, past))
      | inr over ↦ elim (cases_lt b a) [
        | inl under ↦ absurd (let past : x ≤ a = second under in omega (arith, low, past))
        | inr same ↦ omega (arith, over, same)
      ]
    ]

-- an amount of 0 isn't so by 1
never_so : (P : ℕ → Type 0) (n : ℕ) → IsAmount P n → n ≡ 0 → P 1 → ⊥
never_so P n is none so = let low : 1 ≤ n = is.most 1 (omega arith) so in omega arith

first_clean : (bounds : Bounds) (table : Table) (trace : Recording) (sender : Sender) (x : Entry) → IsOfSender table trace sender x
    → IsUnblamed (judgement_of bounds table trace.list x)
    → IsEarlyByGap (timers_of bounds table sender) (monitor_of bounds table) 1 (recorded bounds trace.list) (seen bounds x) → ⊥
first_clean bounds table trace sender x is u h =
    let e = judged_sender bounds table trace.list x sender is.sender_is in
    never_so (λ n. IsEarlyByGap (timers_of bounds table sender) (monitor_of bounds table) n (recorded bounds trace.list) (seen bounds x))
    _ (gap_is (timers_of bounds table sender) (monitor_of bounds table) (recorded bounds trace.list) (seen bounds x))
    (sym (ap (λ (j : Judgement). j.terminal_gap) e) ∙ u.terminal_gap) h

-- the next start behind another has that one for its last
last_at_next : (bounds : Bounds) (trace : Recording) (x w : Entry) → IsTrace trace → In x trace.list → In w trace.list
    → IsNext (recorded bounds trace.list) (seen bounds w) (seen bounds x)
    → last_start (recorded bounds trace.list) x.terminal x.moment ≡ Some (seen bounds w)
unfolding last_test
last_at_next bounds trace x w t i j next =
    let all : List Seen = recorded bounds trace.list in
    let o : Seen = seen bounds w in
    let same : w.terminal ≡ x.terminal = next.same in
    let before : w.moment < x.moment = next.behind in
    elim (cases_option (last_start all x.terminal x.moment)) [
      | inl none ↦
          absurd (last_none (last_test x.terminal x.moment) all o none (in_is all o next.there)
          (and_from _ _ (eq-eqb w.terminal x.terminal same) (lt-ltb w.moment x.moment before)))
      | inr some ↦
          let q = next_is bounds trace x some.0 t i some.1 in
          let z = recorded_is bounds trace.list some.0 q.there in
          let its : IsNext all (seen bounds z.0) (seen bounds x) = subst (λ (r : Seen). IsNext all r (seen bounds x)) (sym z.2) q in
          let mine : z.0.terminal ≡ x.terminal = its.same in
          let there : z.0.moment < x.moment = its.behind in
          let moments : w.moment ≡ z.0.moment = one_before w.moment z.0.moment x.moment before there
          (next.next (seen bounds z.0) its.there mine) (its.next o next.there same) in
          some.1 ∙ ap Some (sym z.2 ∙ ap (seen bounds) (sym (one_start trace.list w z.0 t.order j z.1 moments (same ∙ sym mine))))
    ]

next_clean : (bounds : Bounds) (table : Table) (trace : Recording) (sender : Sender) (x : Entry) (o : Seen) → IsTrace trace → IsOfSender table trace sender x
    → IsUnblamed (judgement_of bounds table trace.list x) → IsNext (recorded bounds trace.list) o (seen bounds x)
    → HasNoFinding (timers_of bounds table sender) (monitor_of bounds table) (recorded bounds trace.list) o (seen bounds x)
next_clean bounds table trace sender x o t is u next =
    let all : List Seen = recorded bounds trace.list in
    let timers = timers_of bounds table sender in
    let monitor = monitor_of bounds table in
    let w = recorded_is bounds trace.list o next.there in
    let at : IsNext all (seen bounds w.0) (seen bounds x) = subst (λ (r : Seen). IsNext all r (seen bounds x)) (sym w.2) next in
    let last : last_start all x.terminal x.moment ≡ Some o = last_at_next bounds trace x w.0 t is.there w.1 at ∙ ap Some w.2 in
    let a = amounts_told bounds table trace sender x o is last in
    record {
      by_interval = never_so (λ n. IsEarlyByInterval timers n o (seen bounds x)) _ a.interval u.interval;
      by_sync = never_so (λ n. IsEarlyBySync timers monitor n all o (seen bounds x)) _ a.sync_gap u.sync_gap;
      by_gap = never_so (λ n. IsEarlyByGap timers monitor n all (seen bounds x)) _ a.terminal_gap u.terminal_gap;
      late = never_so (λ n. IsLate timers monitor n all o (seen bounds x)) _ a.late (ap (λ l. option_map_or (λ (late : Late). late.amount) l 0) u.late);
    }

-- a recorded start of the sender is one of its transmissions
pub own_start : (bounds : Bounds) (table : Table) (trace : Recording) (sender : Sender) (y : Seen) → sender_of table.senders sender.number ≡ Some sender
    → IsIn y (recorded bounds trace.list) → y.sender ≡ sender.number → (x : Entry) × IsOfSender table trace sender x × (seen bounds x ≡ y)
own_start bounds table trace sender y found i mine =
    let w = recorded_is bounds trace.list y i in
    let number : w.0.terminal ≡ sender.number = ap (λ (r : Seen). r.sender) w.2 ∙ mine in
    (w.0, record { there = w.1; sender_is = ap (sender_of table.senders) number ∙ found }, w.2)

pub unblamed_is_clean : UnblamedIsClean
unblamed_is_clean bounds table trace sender t found none = record {
  next = λ o y next mine.
      let all : List Seen = recorded bounds trace.list in
      let w = own_start bounds table trace sender y found next.here mine in
      subst (HasNoFinding (timers_of bounds table sender) (monitor_of bounds table) all o) w.2
      (next_clean bounds table trace sender w.0 o t w.1 (none w.0 w.1) (subst (IsNext all o) (sym w.2) next));
  each = λ y i mine h.
      let all : List Seen = recorded bounds trace.list in
      let w = own_start bounds table trace sender y found i mine in
      first_clean bounds table trace sender w.0 w.1 (none w.0 w.1)
      (subst (IsEarlyByGap (timers_of bounds table sender) (monitor_of bounds table) 1 all) (sym w.2) h);
}

-- ---- files

named_clean : (bounds : Bounds) (table : Table) (trace : Recording) (sender : Sender) (s : StandsInFile bounds table trace sender)
    → IsClean (timers_of bounds table sender) (monitor_of bounds table) (all_renamed s.name s.file) (s.name s.terminal)
    → IsClean (timers_of bounds table sender) (monitor_of bounds table) (recorded bounds trace.list) sender.number
named_clean bounds table trace sender s clean =
    subst (λ list. IsClean (timers_of bounds table sender) (monitor_of bounds table) list sender.number) s.is_trace
    (subst (IsClean (timers_of bounds table sender) (monitor_of bounds table) (all_renamed s.name s.file)) s.named clean)

pub files_unblamed : FileIsClean → NamesAreFree → FilesAreUnblamed
files_unblamed clean free bounds table trace sender x t k is =
    let s : StandsInFile bounds table trace sender = k.stands in
    let timers = timers_of bounds table sender in
    let monitor = monitor_of bounds table in
    clean_unblamed bounds table trace sender x t (named_clean bounds table trace sender s (free timers monitor s.name s.terminal s.file s.names
    (clean s.course s.terminal k.from s.away s.reach s.drop s.bit s.start s.end s.longest s.arrives s.noted s.file monitor k.kept timers k.keeps k.since s.some
    s.placed s.near s.noted_so s.told k.within k.wide k.long))) is

pub course_files_unblamed : CourseFileIsClean → CourseFilesAreUnblamed
course_files_unblamed clean bounds table trace sender x t k is =
    let s : StandsInFile bounds table trace sender = k.stands in
    clean_unblamed bounds table trace sender x t (named_clean bounds table trace sender s
    (clean k.bus s.course s.terminal s.away s.reach s.drop s.bit s.start s.end s.longest s.arrives s.noted s.file (monitor_of bounds table)
    (timers_of bounds table sender) s.name k.is_course k.sends k.waits s.some s.placed s.near s.noted_so s.told k.within k.wide k.long s.names)) is
