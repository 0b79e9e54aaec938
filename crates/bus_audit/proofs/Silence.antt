-- A stretch of pairs without entries: who is missed in it first, if anyone is.
use Rattle.std.proofs.Common.{◌≡◌, ℕ, ◌+◌, ◌<◌, ◌≤◌, ◌⊎◌, List, [], ◌∷◌, length, Some, inl, inr, arith, sym, refl, ap, ◌∙◌, subst, eq-eqb, eqb-true}
use Rattle.std.specs.Prelude.{slice_get}
use Rattle.std.proofs.lemmas.Bool.{cases_lt}
use Rattle.std.proofs.lemmas.Option.{slice_get_within}
use Rattle.bus_timers.specs.MayStartTest.{TestDecides}
use Rattle.bus_strings.specs.Members.{In}
use Rattle.bus_table.specs.Tables.{Sender, Table}
use Rattle.bus_table.specs.Fits.{sender_of}
use Rattle.bus_table.specs.inside.Orders.{Differ}
use Rattle.bus_trace.specs.Traces.{Recording}
use Rattle.bus_medium.specs.Lawful.{IsBefore}
use Rattle.bus_medium.specs.Timings.{quiet_of}
use Rattle.bus_medium.proofs.Ruled.{before_within}
use Rattle.bus_audit.specs.declared.answer.BreachKind.TheVariants.{Missing}
use Rattle.bus_audit.specs.declared.watch.Watch.{Watch}
use Rattle.bus_audit.specs.Breaches.{kind_at, IsCleanTo, IsFirstBreach}
use Rattle.bus_audit.specs.inside.Watches.{ready, ready_moment, pair, turn, NoneBefore, Misses}
use Rattle.bus_audit.specs.inside.Standing.{NotBefore, NoEntries, At, Told, Tells}
use Rattle.bus_strings.proofs.MemberLaws.{in_at, at_in}
use Rattle.bus_strings.proofs.ListLaws.{some_at}
use Rattle.bus_audit.proofs.Lists.{find_one}
use Rattle.bus_audit.proofs.Pairs.{IsSilent, SenderAt, from_sender_of, silent_clean, silent_missing}

pub cases_before : (u k t n : ℕ) → IsBefore u k t n ⊎ NotBefore u k t n
cases_before u k t n =
    elim (cases_lt u t) [
      | inl less ↦ inl (inl less)
      | inr more ↦ elim (cases_lt t u) [
        | inl later ↦ inr (inl later)
        | inr not ↦ elim (cases_lt k n) [ inl low ↦ inl (inr (omega arith, low)) | inr high ↦ inr (inr (omega arith, high)) ]
      ]
    ]

pub not_both : (u k t n : ℕ) → IsBefore u k t n → NotBefore u k t n → ⊥
not_both u k t n (inl a) (inl b) = omega arith
not_both u k t n (inl a) (inr b) = let e : u ≡ t = b.0 in omega arith
not_both u k t n (inr a) (inl b) = let e : u ≡ t = a.0 in omega arith
not_both u k t n (inr a) (inr b) = let e : k < n = a.1 in let f : n ≤ k = b.1 in omega arith

pub before_trans : (u k t n v m : ℕ) → IsBefore u k t n → IsBefore t n v m → IsBefore u k v m
before_trans u k t n v m (inl a) (inl b) = inl (omega arith)
before_trans u k t n v m (inl a) (inr b) = let e : t ≡ v = b.0 in inl (omega arith)
before_trans u k t n v m (inr a) (inl b) = let e : u ≡ t = a.0 in inl (omega arith)
before_trans u k t n v m (inr a) (inr b) = let e : u ≡ t = a.0 in let f : t ≡ v = b.0 in let g : k < n = a.1 in let h : n < m = b.1 in inr (omega arith, omega arith)

-- pairs go as their numbers
pub number_before : (u k t n : ℕ) → k < 256 → IsBefore u k t n → pair u k < pair t n
number_before u k t n h (inl less) = omega arith
number_before u k t n h (inr same) = let e : u ≡ t = same.0 in let f : k < n = same.1 in omega arith

pub before_number : (u k t n : ℕ) → n ≤ 256 → pair u k < pair t n → IsBefore u k t n
before_number u k t n h less =
    elim (cases_before u k t n) [
      | inl before ↦ before
      | inr not ↦ absurd (elim not [ inl later ↦ omega arith | inr same ↦ let e : u ≡ t = same.0 in let f : n ≤ k = same.1 in omega arith ])
    ]

pub pair_one : (a b c e : ℕ) → b < 256 → e < 256 → pair a b ≡ pair c e → (a ≡ c) × (b ≡ e)
pair_one a b c e h k same = (omega arith, omega arith)

-- the senders of a valid table, by number
pub record Seated (table : Table) : Type 0 where
  pub apart : Differ (λ s. s.number) table.senders
  pub few : (j : ℕ) (s : Sender) → slice_get table.senders j ≡ Some s → s.number ≤ 128

pub same_sender : (senders : List Sender) (a b : Sender) → Differ (λ s. s.number) senders → In a senders → In b senders → a.number ≡ b.number → a ≡ b
same_sender [] a b d i j e = absurd i
same_sender (s ∷ senders) a b d (inl f) (inl g) e = f ∙ sym g
same_sender (s ∷ senders) a b d (inl f) (inr j) e = absurd (d.0 b j (sym (ap (λ (r : Sender). r.number) f) ∙ e))
same_sender (s ∷ senders) a b d (inr i) (inl g) e = absurd (d.0 a i (sym (ap (λ (r : Sender). r.number) g) ∙ sym e))
same_sender (s ∷ senders) a b d (inr i) (inr j) e = same_sender senders a b d.1 i j e

pub sender_is_of : (senders : List Sender) (s : Sender) → Differ (λ s. s.number) senders → In s senders → sender_of senders s.number ≡ Some s
sender_is_of senders s d i = find_one _ senders s i (eq-eqb s.number s.number refl) (λ r j e. same_sender senders r s d j i (eqb-true r.number s.number e))

-- the sender of a number, with its watch
pub record Watched (table : Table) (watches : List Watch) (s : Sender) : Type 0 where
  pub place : ℕ
  pub watch : Watch
  pub at : At table watches place s watch

pub watched : (table : Table) (watches : List Watch) (s : Sender) → length watches ≡ length table.senders → In s table.senders → Watched table watches s
watched table watches s len i =
    let p = in_at table.senders s i in
    let within : p.0 < length table.senders = slice_get_within table.senders p.0 s p.1 in
    let w = some_at watches p.0 (omega arith) in
    record { place = p.0; watch = w.0; at = record { sender = p.1; watch = w.1 } }

-- where no sender is missed before a pair, all is clean up to it
pub silence_clean : (table : Table) (trace : Recording) (watches : List Watch) (c a n top t m : ℕ) → TestDecides → Seated table → Told table trace watches c a n top
    → ((u k : ℕ) → IsBefore u k t m → u ≤ top) → NoEntries trace.list a n t m → NoneBefore (quiet_of table) c watches (pair t m) → IsCleanTo table trace t m
silence_clean table trace watches c a n top t m d seated told upto none missed u k before =
    elim (cases_before u k a n) [
      | inl old ↦ told.clean u k old
      | inr new ↦ silent_clean table trace u k d
          (λ x i e f. none x i (subst (λ v. NotBefore v x.terminal a n) (sym e) (subst (λ v. NotBefore u v a n) (sym f) new)) (subst (λ v. IsBefore v x.terminal t m) (sym e) (subst (λ v. IsBefore u v t m) (sym f) before)))
          (λ s is may left.
          let sa : SenderAt table.senders k s = from_sender_of table.senders k s is in
          let number : s.number ≡ k = sa.number in
          let w : Watched table watches s = watched table watches s told.same_length sa.there in
          let few : s.number ≤ 128 = seated.few w.place s w.at.sender in
          let new' : NotBefore u s.number a n = subst (λ v. NotBefore u v a n) (sym number) new in
          let tell : Tells table trace s w.watch u = told.tells w.place s w.watch u w.at new' (upto u k before) in
          let is_ready : ready w.watch ≤ quiet_of table + u = tell.may_ready may in
          let begun : c ≤ u = told.late w.place s w.watch u w.at new' (upto u k before) is_ready in
          let some : 0 < w.watch.left = omega (arith, tell.left) in
          let turn_low : pair t m ≤ turn (quiet_of table) c w.watch = missed w.place w.watch w.at.watch some in
          let same : w.watch.number ≡ s.number = tell.number in
          let less : pair u k < pair t m = number_before u k t m (omega arith) before in
          omega arith)
    ]

-- told up to an earlier moment
pub told_less : (table : Table) (trace : Recording) (watches : List Watch) (c a n top t : ℕ) → t ≤ top → Told table trace watches c a n top → Told table trace watches c a n t
told_less table trace watches c a n top t low told = record {
  clean = told.clean;
  same_length = told.same_length;
  numbers = told.numbers;
  tells = λ j s w u at new high. told.tells j s w u at new (omega arith);
  late = λ j s w u at new high. told.late j s w u at new (omega arith);
  later = told.later;
}

-- the first sender that is missed before a pair is the first breach
pub silence_breach : (table : Table) (trace : Recording) (watches : List Watch) (c a n top t m : ℕ) → (v r : ℕ) → TestDecides → Seated table → Told table trace watches c a n top
    → ((u k : ℕ) → IsBefore u k t m → (u ≤ top) × (u < trace.horizon)) → NoEntries trace.list a n t m → m ≤ 256 → r < 256 → Misses (quiet_of table) c watches (pair v r) → NoneBefore (quiet_of table) c watches (pair v r) → pair v r < pair t m
    → IsFirstBreach table trace v r Missing
silence_breach table trace watches c a n top t m v r d seated told upto none small tiny miss missed less =
    let q = quiet_of table in
    let w = miss.watch in
    let within : miss.place < length table.senders = subst (λ l. miss.place < l) told.same_length (slice_get_within watches miss.place w miss.at) in
    let g = some_at table.senders miss.place within in
    let s : Sender = g.0 in
    let at : At table watches miss.place s w = record { sender = g.1; watch = miss.at } in
    let few : s.number ≤ 128 = seated.few miss.place s g.1 in
    let before : IsBefore v r t m = before_number v r t m small less in
    let new : NotBefore (ready_moment q c w) s.number a n = told.later miss.place s w at miss.left in
    let high : v ≤ top = (upto v r before).0 in
    let same : w.number ≡ s.number = told.numbers miss.place s w at in
    let turn_is : turn q c w ≡ pair v r = miss.turn_is in
    let both = pair_one (ready_moment q c w) w.number v r (omega arith) tiny turn_is in
    let moment : ready_moment q c w ≡ v = both.0 in
    let number : s.number ≡ r = sym same ∙ both.1 in
    let new' : NotBefore v s.number a n = subst (λ u. NotBefore u s.number a n) moment new in
    let tell : Tells table trace s w v = told.tells miss.place s w v at new' high in
    let left : 0 < w.left = miss.left in
    let silent : IsSilent trace.list v s.number = λ x i e f. none x i
    (subst (λ y. NotBefore y x.terminal a n) (sym e) (subst (λ y. NotBefore v y a n) (sym f) new'))
    (subst (λ y. IsBefore y x.terminal t m) (sym e) (subst (λ y. IsBefore v y t m) (sym (f ∙ number)) before)) in
    record {
      below = (upto v r before).1;
      here = subst (λ k. kind_at table trace v k ≡ Some Missing) number
          (silent_missing table trace v s.number s d silent (sender_is_of table.senders s seated.apart (at_in table.senders miss.place s g.1)) (tell.ready_may (omega arith)) (omega (arith, tell.left)));
      first = silence_clean table trace watches c a n v v r d seated (told_less table trace watches c a n top v high told) (λ u k b. before_within u k v r b) (λ x i y z. none x i y (before_trans x.moment x.terminal v r t m z before)) missed;
    }
