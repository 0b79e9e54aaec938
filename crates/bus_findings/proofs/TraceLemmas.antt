-- What holds of the transmissions of a trace, and of those so far.
use Rattle.std.specs.Prelude.{slice_get, map, sum_by, is_some, nat_lt, not, min, max, replicate, Ok, Err}
use Rattle.std.specs.Int.{div_ceil}
use Rattle.std.specs.List.{flat_map, reduce, AllByRecursion}
use Rattle.std.proofs.Common.{◌≡◌, ℕ, zero, suc, ◌+◌, ◌-◌, ◌*◌, ◌^◌, ◌<◌, ◌≤◌, Bool, true, false, List, [], ◌∷◌, ◌++◌, take, length, get_or, Option, Some, None, inl, inr, arith, refl, ap, sym, subst, ◌∙◌}
use Rattle.std.proofs.Math.Seq.{take-length}
use Rattle.std.proofs.Math.Nat.{lt_of_mul-lt-mul_right}
use Rattle.std.proofs.lemmas.Grind.{div_ceil_times}
use Rattle.std.proofs.lemmas.List.{map-append}
use Rattle.std.proofs.lemmas.List.Sums.{sum_by_push, sum_by-cons}
use Rattle.bus_strings.specs.Members.{In}
use Rattle.bus_strings.specs.Messages.{Entry, bits}
use Rattle.bus_strings.specs.Transmissions.{Precedes, IsAscending}
use Rattle.bus_strings.proofs.KeptLemmas.{bits_within}
use Rattle.bus_strings.proofs.ListLaws.{flat_map-push, drop_at}
use Rattle.bus_strings.proofs.MemberLaws.{of_each, at_in}
use Rattle.std.proofs.lemmas.Option.{slice_get-get_or}
use Rattle.bus_outer.specs.Sinks.{WritesText}
use Rattle.bus_table.specs.Tables.{Sender, Table}
use Rattle.bus_trace.specs.Traces.{Recording, IsTrace, IsBelow}
use Rattle.bus_bounds.specs.Bounds.{Bounds, drift, most_clocks}
use Rattle.bus_bounds.proofs.BoundLaws.{drift_more}
use Rattle.bus_findings.specs.declared.judgement.Judgement.{Judgement}
use Rattle.bus_findings.specs.declared.heard.Heard.{Heard}
use Rattle.bus_findings.specs.declared.judgement.Late.{Late}
use Rattle.bus_findings.specs.declared.totals.Totals.{Totals}
use Rattle.bus_findings.specs.declared.watch.Watch.{Watch}
use Rattle.bus_findings.specs.Judging.{judgement_of}
use Rattle.bus_findings.specs.Recorded.{reach}
use Rattle.bus_findings.specs.Terminals.{own, apart, totals_among, faults_among, fault_count, early_count, once, is_late, is_passed}
use Rattle.bus_findings.specs.Texts.{judgement_lines, entry_lines, numbers_line, terminal_line}
use Rattle.bus_findings.specs.inside.Sound.{AreLong}
use Rattle.bus_findings.specs.inside.Standing.{with_judgement, no_totals, AreFew, AreWatched, IsWatch, HasBegun}
use Rattle.bus_findings.proofs.PlaceLemmas.{take_next, behind_it, moments_ascend}

-- of a word's twenty bit times an oscillator within bounds loses one at most
ceil_least : (a b q : ℕ) → 0 < b → a ≤ q * b → div_ceil a b ≤ q
ceil_least a b q some h =
    let t : div_ceil a b * b < a + b = (div_ceil_times a b some).1 in
    let e : suc q * b ≡ q * b + b = omega arith in
    let l : div_ceil a b * b < suc q * b = omega (arith, t, e, h) in
    let less : div_ceil a b < suc q = lt_of_mul-lt-mul_right b l in
    omega (arith, less)

drift_word : (clocks : ℕ) → clocks ≤ most_clocks → drift clocks 20 ≤ 1
unfolding drift
drift_word clocks h = ceil_least (20 * clocks) (1000000 - clocks) 1 (omega (arith, h)) (omega (arith, h))

pub trace_long : (bounds : Bounds) (trace : Recording) → bounds.clocks ≤ most_clocks → IsTrace trace → AreLong bounds trace.list
trace_long bounds trace few t x inside =
    let b = of_each (IsBelow trace.horizon) trace.list t.list x inside in
    let n : ℕ = bits x.message in
    let least : 20 ≤ n = (bits_within x.message b.message).0 in
    let parts : n ≡ 20 + (n - 20) = omega (arith, least) in
    let more = drift_more bounds.clocks 20 (n - 20) few in
    let most : drift bounds.clocks (20 + (n - 20)) ≤ drift bounds.clocks 20 + (n - 20) = more.1 in
    let same : drift bounds.clocks n ≡ drift bounds.clocks (20 + (n - 20)) = ap (drift bounds.clocks) parts in
    let one : drift bounds.clocks 20 ≤ 1 = drift_word bounds.clocks few in
    omega (arith, least, most, same, one)

-- each is late with others in between or without
late_is : (late : Option Late) → once (is_some late) ≡ once (is_late false late) + once (is_late true late)
late_is None = refl
late_is (Some late) = elim (is_passed late) as (λ b. once true ≡ once (not b) + once b) [ true ↦ refl | false ↦ refl ]

raised : (y : Entry) (list : List Entry) (n : ℕ) → y.terminal < 256 → n ≤ 256 * y.moment + y.terminal → AllByRecursion (Precedes y) list
    → AllByRecursion (λ z. (z.terminal < 256) × (n ≤ 256 * z.moment + z.terminal)) list
    → AllByRecursion (λ z. (z.terminal < 256) × (n + 1 ≤ 256 * z.moment + z.terminal)) list
raised y [] n small low behind all = tt
raised y (z ∷ list) n small low behind all =
    let here : n + 1 ≤ 256 * z.moment + z.terminal = elim behind.0 [
      | inl less ↦ (let m : y.moment < z.moment = less in omega (arith, m, small, low))
      | inr tie ↦ (let m : y.moment ≡ z.moment = tie.0 in let t : y.terminal < z.terminal = tie.1 in omega (arith, m, t, low))
    ] in
    ((all.0.0, here), raised y list n small low behind.1 all.1)

-- there are no more transmissions than moments and terminals
above : (list : List Entry) (n i : ℕ) (x : Entry) → IsAscending list → AllByRecursion (λ y. (y.terminal < 256) × (n ≤ 256 * y.moment + y.terminal)) list
    → slice_get list i ≡ Some x → n + i ≤ 256 * x.moment + x.terminal
above [] n i x up all e = absurd (let q : None ≡ Some x = e in cc)
above (y ∷ list) n zero x up all e =
    let same : y ≡ x = cc in
    subst (λ (z : Entry). n + zero ≤ 256 * z.moment + z.terminal) same (let h : n ≤ 256 * y.moment + y.terminal = all.0.1 in omega (arith, h))
above (y ∷ list) n (suc i) x up all e =
    let h : n + 1 + i ≤ 256 * x.moment + x.terminal = above list (n + 1) i x up.1 (raised y list n all.0.0 all.0.1 up.0 all.1) e in
    omega (arith, h)

small_all : (horizon : ℕ) (list : List Entry) → AllByRecursion (IsBelow horizon) list → AllByRecursion (λ y. (y.terminal < 256) × (0 ≤ 256 * y.moment + y.terminal)) list
small_all horizon [] h = tt
small_all horizon (x ∷ list) h = let low : x.terminal ≤ 128 = h.0.low in ((omega (arith, low), omega arith), small_all horizon list h.1)

pub few_of : (trace : Recording) → IsTrace trace → (i : ℕ) → i < length trace.list → i < 2 ^ 50
few_of trace t i less =
    let x : Entry = get_or trace.list i (record { moment = 0; terminal = 0; message = [] }) in
    let at : slice_get trace.list i ≡ Some x = slice_get-get_or trace.list i (record { moment = 0; terminal = 0; message = [] }) less in
    let b = of_each (IsBelow trace.horizon) trace.list t.list x (at_in trace.list i x at) in
    let h : 0 + i ≤ 256 * x.moment + x.terminal = above trace.list 0 i x t.order (small_all trace.horizon trace.list t.list) at in
    let moment : x.moment < trace.horizon = b.moment in
    let terminal : x.terminal ≤ 128 = b.low in
    let most : trace.horizon ≤ 2 ^ 40 = t.horizon in
    omega (arith, h, moment, terminal, most)

-- ---- one transmission more

pub lines_next : {X : Type 0} (f : X → List ℕ) (xs : List X) (i : ℕ) (x : X) → slice_get xs i ≡ Some x → flat_map f (take (i + 1) xs) ≡ flat_map f (take i xs) ++ f x
lines_next f xs i x at = ap (flat_map f) (take_next xs i x at) ∙ flat_map-push f (take i xs) x

pub map_next : {X Y : Type 0} (f : X → Y) (xs : List X) (i : ℕ) (x : X) → slice_get xs i ≡ Some x → map f (take (i + 1) xs) ≡ map f (take i xs) ++ f x ∷ []
map_next f xs i x at = ap (map f) (take_next xs i x at) ∙ map-append f (take i xs) (x ∷ [])

pub count_next : {X : Type 0} (f : X → ℕ) (xs : List X) (i : ℕ) (x : X) → slice_get xs i ≡ Some x → sum_by f (take (i + 1) xs) ≡ sum_by f (take i xs) + f x
count_next f xs i x at = ap (sum_by f) (take_next xs i x at) ∙ sum_by_push f (take i xs) x

pub same_lines : (bounds : Bounds) (table : Table) (list : List Entry) (x : Entry) (moment terminal : ℕ) (found : Judgement) → moment ≡ x.moment → terminal ≡ x.terminal
    → found ≡ judgement_of bounds table list x → judgement_lines moment terminal found ≡ entry_lines bounds table list x
same_lines bounds table list x moment terminal found m t j =
    ap (λ n. judgement_lines n terminal found) m ∙ ap (λ n. judgement_lines x.moment n found) t ∙ ap (judgement_lines x.moment x.terminal) j

same_totals : (a b : Totals) → a.early ≡ b.early → a.late ≡ b.late → a.passed ≡ b.passed → a.strangers ≡ b.strangers → a.misfits ≡ b.misfits → a ≡ b
same_totals a b e l p s m =
    let q : record { early = a.early; late = a.late; passed = a.passed; strangers = a.strangers; misfits = a.misfits }
    ≡ record { early = b.early; late = b.late; passed = b.passed; strangers = b.strangers; misfits = b.misfits } = rw (e, l, p, s, m) refl in q

pub totals_next : (bounds : Bounds) (table : Table) (list : List Entry) (i : ℕ) (x : Entry) → slice_get list i ≡ Some x
    → totals_among bounds table list (take (i + 1) list) ≡ with_judgement (totals_among bounds table list (take i list)) (judgement_of bounds table list x)
totals_next bounds table list i x at =
    same_totals (totals_among bounds table list (take (i + 1) list)) (with_judgement (totals_among bounds table list (take i list)) (judgement_of bounds table list x))
    (count_next (λ z. early_count (judgement_of bounds table list z)) list i x at)
    (count_next (λ z. once (is_late false (judgement_of bounds table list z).late)) list i x at)
    (count_next (λ z. once (is_late true (judgement_of bounds table list z).late)) list i x at)
    (count_next (λ z. once (judgement_of bounds table list z).stranger) list i x at)
    (count_next (λ z. once (judgement_of bounds table list z).misfit) list i x at)

-- no more than three of a kind are found at once
once_most : (b : Bool) → once b ≤ 1
once_most true = omega arith
once_most false = omega arith

pub few_next : (t : Totals) (n : ℕ) (found : Judgement) → AreFew t n → AreFew (with_judgement t found) (n + 3)
few_next t n found few =
    let a : once (nat_lt 0 found.interval) ≤ 1 = once_most (nat_lt 0 found.interval) in
    let b : once (nat_lt 0 found.sync_gap) ≤ 1 = once_most (nat_lt 0 found.sync_gap) in
    let c : once (nat_lt 0 found.terminal_gap) ≤ 1 = once_most (nat_lt 0 found.terminal_gap) in
    let early : t.early ≤ n = few.early in
    let late : t.late ≤ n = few.late in
    let passed : t.passed ≤ n = few.passed in
    let strangers : t.strangers ≤ n = few.strangers in
    let misfits : t.misfits ≤ n = few.misfits in
    record {
      early = omega (arith, early, a, b, c);
      late = omega (arith, late, once_most (is_late false found.late));
      passed = omega (arith, passed, once_most (is_late true found.late));
      strangers = omega (arith, strangers, once_most found.stranger);
      misfits = omega (arith, misfits, once_most found.misfit);
    }

pub none_few : AreFew no_totals 0
none_few = record { early = omega arith; late = omega arith; passed = omega arith; strangers = omega arith; misfits = omega arith }

-- who has begun early enough has at a later moment too
pub begun_later : (bounds : Bounds) (list : List Entry) (m n : ℕ) (heard : Heard) → HasBegun bounds list m heard → m ≤ n → HasBegun bounds list n heard
begun_later bounds list m n heard h less = record {
  within = h.within;
  end = h.end;
  bound = h.bound;
  begun = λ x inside. (let low : x.moment + reach bounds < m = h.begun x inside in omega (arith, low, less));
}

pub next_later : (list : List Entry) (i : ℕ) (x y : Entry) → IsAscending list → slice_get list i ≡ Some x → slice_get list (i + 1) ≡ Some y → x.moment ≤ y.moment
next_later list i x y up at next =
    moments_ascend x y (behind_it list i x y up at (subst (λ l. In y l) (sym (drop_at list (i + 1) y next)) (inl refl)))

-- nothing is kept of a sender before the first transmission
pub watched_new : (bounds : Bounds) (table : Table) (list : List Entry) (watches : List Watch) (new : Watch) → length table.senders ≤ length watches
    → ((k : ℕ) (w : Watch) → slice_get watches k ≡ Some w → w ≡ new)
    → new ≡ record { last = None; own_end = 0; starts = 0; faults = 0; least = None; most = None } → AreWatched bounds table list 0 watches
watched_new bounds table list watches new enough all is = record {
  enough = enough;
  each = λ k s w here at. subst (IsWatch bounds table list s.number 0) (sym (all k w at ∙ is)) (record {
    last = λ z inside. absurd inside;
    own_end = refl;
    own_bound = omega arith;
    starts = refl;
    faults = refl;
    counted = omega arith;
    few = omega arith;
    least = refl;
    most = refl;
  });
}

pub same_of_all : {X : Type 0} → (n : ℕ) (x : X) (k : ℕ) (y : X) → slice_get (replicate n x) k ≡ Some y → y ≡ x
same_of_all zero x k y e = absurd (let q : None ≡ Some y = e in cc)
same_of_all (suc n) x zero y e = let q : Some x ≡ Some y = e in cc
same_of_all (suc n) x (suc k) y e = same_of_all n x k y e

-- how many faults there are of a kind, and of all
pub faults_are : (bounds : Bounds) (table : Table) (list some : List Entry)
    → faults_among bounds table list some ≡ (totals_among bounds table list some).early + (totals_among bounds table list some).late
    + (totals_among bounds table list some).passed + (totals_among bounds table list some).strangers + (totals_among bounds table list some).misfits
faults_are bounds table list [] = refl
faults_are bounds table list (x ∷ some) =
    let j : Judgement = judgement_of bounds table list x in
    let rest = faults_are bounds table list some in
    let late : once (is_some j.late) ≡ once (is_late false j.late) + once (is_late true j.late) = late_is j.late in
    let a : sum_by (λ z. early_count (judgement_of bounds table list z)) (x ∷ some) ≡ early_count j + sum_by (λ z. early_count (judgement_of bounds table list z)) some =
    sum_by-cons (λ z. early_count (judgement_of bounds table list z)) x some in
    let b : sum_by (λ z. once (is_late false (judgement_of bounds table list z).late)) (x ∷ some)
    ≡ once (is_late false j.late) + sum_by (λ z. once (is_late false (judgement_of bounds table list z).late)) some =
    sum_by-cons (λ z. once (is_late false (judgement_of bounds table list z).late)) x some in
    let c : sum_by (λ z. once (is_late true (judgement_of bounds table list z).late)) (x ∷ some)
    ≡ once (is_late true j.late) + sum_by (λ z. once (is_late true (judgement_of bounds table list z).late)) some =
    sum_by-cons (λ z. once (is_late true (judgement_of bounds table list z).late)) x some in
    let d : sum_by (λ z. once (judgement_of bounds table list z).stranger) (x ∷ some) ≡ once j.stranger + sum_by (λ z. once (judgement_of bounds table list z).stranger) some =
    sum_by-cons (λ z. once (judgement_of bounds table list z).stranger) x some in
    let e : sum_by (λ z. once (judgement_of bounds table list z).misfit) (x ∷ some) ≡ once j.misfit + sum_by (λ z. once (judgement_of bounds table list z).misfit) some =
    sum_by-cons (λ z. once (judgement_of bounds table list z).misfit) x some in
    let f : faults_among bounds table list (x ∷ some) ≡ fault_count j + faults_among bounds table list some =
    sum_by-cons (λ z. fault_count (judgement_of bounds table list z)) x some in
    omega (arith, rest, late, a, b, c, d, e, f)

-- what was written whatever is answered with it
pub written_with : {K T U E : Type 0} (held : K → Option (List ℕ)) (faults : K → ℕ) (old new : K) (u : T) (v : U) (text : List ℕ)
    → WritesText {E = E} held faults old new (Ok u) text → WritesText {E = E} held faults old new (Ok v) text
written_with held faults old new u v text w = record { ok = w.ok; prefix = w.prefix; same = w.same; later = w.later; cause = w.cause }

pub unwritten_with : {K T U E : Type 0} (held : K → Option (List ℕ)) (faults : K → ℕ) (old new : K) (e : E) (text : List ℕ)
    → WritesText {T = T} held faults old new (Err e) text → WritesText {T = U} held faults old new (Err e) text
unwritten_with held faults old new e text w = record { ok = w.ok; prefix = w.prefix; same = w.same; later = w.later; cause = w.cause }

-- what is kept of a sender behind the whole list
pub terminal_same : (bounds : Bounds) (table : Table) (list : List Entry) (s : Sender) (number : ℕ) (w : Watch) → number ≡ s.number
    → IsWatch bounds table list s.number (length list) w
    → numbers_line number w.starts w.faults w.least w.most ≡ terminal_line bounds table list s
terminal_same bounds table list s number w n is =
    let all : own (take (length list) list) s.number ≡ own list s.number = ap (λ l. own l s.number) (take-length list) in
    ap (λ k. numbers_line k w.starts w.faults w.least w.most) n
    ∙ ap (λ k. numbers_line s.number k w.faults w.least w.most) (is.starts ∙ ap length all)
    ∙ ap (λ k. numbers_line s.number (length (own list s.number)) k w.least w.most) (is.faults ∙ ap (faults_among bounds table list) all)
    ∙ ap (λ k. numbers_line s.number (length (own list s.number)) (faults_among bounds table list (own list s.number)) k w.most) (is.least ∙ ap (λ l. reduce min (apart l)) all)
    ∙ ap (numbers_line s.number (length (own list s.number)) (faults_among bounds table list (own list s.number)) (reduce min (apart (own list s.number))))
    (is.most ∙ ap (λ l. reduce max (apart l)) all)

pub starts_same : (bounds : Bounds) (table : Table) (list : List Entry) (s : Sender) (w : Watch) → IsWatch bounds table list s.number (length list) w
    → w.starts ≡ length (own list s.number)
starts_same bounds table list s w is = is.starts ∙ ap (λ l. length (own l s.number)) (take-length list)
