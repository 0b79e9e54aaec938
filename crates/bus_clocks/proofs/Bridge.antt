-- The two rules, compared.
use Rattle.std.proofs.Common.{◌≡◌, ℕ, zero, suc, ◌+◌, ◌-◌, ◌<◌, ◌≤◌, ◌⊎◌, Bool, true, false, List, [], ◌∷◌, ◌++◌, length, get_or, Option, Some, None, inl, inr, arith, sym, refl, ap, ◌∙◌, subst}
use Rattle.std.proofs.lemmas.Bool.{cases_lt, true≢false}
use Rattle.bus_timers.specs.MayStart.{MayStart as Allows, IsSync, IsQuiet as IsStill}
use Rattle.bus_clocks.specs.Buses.{Bus}
use Rattle.bus_clocks.specs.Entries.{Entry, In}
use Rattle.bus_clocks.specs.Courses.{Course, IsCourse, IsQuiet, MayStart, carrier}
use Rattle.bus_clocks.specs.Hearing.{Hears, hears_any}
use Rattle.bus_clocks.specs.Windows.{AllowedStart, CoursesAreAdmissible, ExactTimersAgree, IsLast, IsTimed, StartsAreAllowed, bits, past, timing}
use Rattle.bus_clocks.proofs.Timers.{Beginning, beginning, begins_by, quiet_each, or_false}

push_length : (l : List Bool) (b : Bool) → length (l ++ b ∷ []) ≡ suc (length l)
push_length [] b = refl
push_length (x ∷ l) b = ap suc (push_length l b)

push_old : (l : List Bool) (b d : Bool) (i : ℕ) → i < length l → get_or (l ++ b ∷ []) i d ≡ get_or l i d
push_old [] b d i low = absurd (let w : i < 0 = low in omega arith)
push_old (x ∷ l) b d zero low = refl
push_old (x ∷ l) b d (suc i) low = push_old l b d i (let w : suc i < suc (length l) = low in omega arith)

push_new : (l : List Bool) (b d : Bool) → get_or (l ++ b ∷ []) (length l) d ≡ b
push_new [] b d = refl
push_new (x ∷ l) b d = push_new l b d

pub bits_length : (c : Course) (k n : ℕ) → length (bits c k n) ≡ n
bits_length c k zero = refl
bits_length c k (suc n) = push_length (bits c k n) (carrier c k (c.up k + n)) ∙ ap suc (bits_length c k n)

pub bits_at : (c : Course) (k n i : ℕ) → i < n → get_or (bits c k n) i true ≡ carrier c k (c.up k + i)
bits_at c k zero i low = absurd (omega arith)
bits_at c k (suc n) i low = elim (cases_lt i n) [
  | inl old ↦ push_old (bits c k n) (carrier c k (c.up k + n)) true i (let e : length (bits c k n) ≡ n = bits_length c k n in omega arith) ∙ bits_at c k n i old
  | inr now ↦
      let e : length (bits c k n) ≡ n = bits_length c k n in
      let is : i ≡ length (bits c k n) = omega arith in
      let same : i ≡ n = omega arith in
      ap (λ j. get_or (bits c k n ++ carrier c k (c.up k + n) ∷ []) j true) is ∙ push_new (bits c k n) (carrier c k (c.up k + n)) true
      ∙ ap (λ j. carrier c k (c.up k + j)) (sym same)
]

-- what the comparison needs
pub record IsBounded (bus : Bus) (c : Course) : Type 0 where
  pub own : (x : Entry) → In x c.list → Hears c.hears 0 bus.drop x x.sender
  pub tg_high : (k a : ℕ) → k < bus.senders → c.tg k a ≤ bus.tg_long k
  pub sg_high : (k a : ℕ) → k < bus.senders → c.sg k a ≤ bus.sg_long k
  pub ti_high : (k a : ℕ) → k < bus.senders → c.ti k a ≤ bus.ti_long k

bounded : (bus : Bus) (c : Course) → IsCourse bus c → IsBounded bus c
bounded bus c ok = record { own = ok.own; tg_high = ok.tg_high; sg_high = ok.sg_high; ti_high = ok.ti_high }

module _ (bus : Bus) (c : Course) (ok : IsBounded bus c) (k : ℕ) where
  own_out : (a b : ℕ) (x : Entry) → In x c.list → x.sender ≡ k → IsQuiet c k a b → (x.moment < a) ⊎ (b ≤ x.moment)
  own_out a b x i mine quiet = elim (cases_lt x.moment a) [
    | inl before ↦ inl before
    | inr low ↦ elim (cases_lt x.moment b) [
      | inr behind ↦ inr behind
      | inl high ↦
          let h : Hears c.hears 0 bus.drop x k = subst (λ n. Hears c.hears 0 bus.drop x n) mine (ok.own x i) in
          let soon : h.first ≤ x.moment + 0 = h.first_soon in
          let first : x.moment ≤ h.first = (h.within h.first h.first_heard).0 in
          let rests : carrier c k h.first ≡ false = quiet h.first (omega arith) (omega arith) in
          absurd (true≢false (sym h.first_heard ∙ quiet_each c.hears c.list k h.first (or_false (c.noise k h.first) (hears_any c.hears c.list k h.first) rests).1 x i))
    ]
  ]

  -- quiet in the one and in the other
  to_still : (t i j : ℕ) → j ≤ t - c.up k → IsQuiet c k (c.up k + i) (c.up k + j) → IsStill (past c k t) i j
  to_still t i j low quiet n p q = bits_at c k (t - c.up k) n (omega arith) ∙ quiet (c.up k + n) (omega arith) (omega arith)

  pub from_still : (t i j a b : ℕ) → j ≤ t - c.up k → a ≡ c.up k + i → b ≡ c.up k + j → IsStill (past c k t) i j → IsQuiet c k a b
  from_still t i j a b low is_a is_b still u p q =
      let e : c.up k + (u - c.up k) ≡ u = omega arith in
      subst (λ v. carrier c k v ≡ false) e (sym (bits_at c k (t - c.up k) (u - c.up k) (omega arith)) ∙ still (u - c.up k) (omega arith) (omega arith))

  module _ (t : ℕ) (m : MayStart c k t) where
    in_time : (c.up k ≤ m.synced.from) × (m.synced.from + c.sg k m.synced.from ≡ m.sync) × (m.sync ≤ m.from) × (m.from + c.tg k m.from ≤ t)
    in_time = (
      elim m.synced.begins [ inl is ↦ omega arith | inr p ↦ (let l : c.up k < m.synced.from = p.0 in omega arith) ],
      m.synced.elapsed,
      elim m.begins [ inl is ↦ omega arith | inr p ↦ omega arith ],
      m.terminal,
    )

    pub allowed : (ti sg tg : ℕ) → IsTimed c k ti sg tg → (last : Option ℕ) → IsLast c k t last → Allows (timing ti sg tg) (past c k t) last
    allowed ti sg tg timed None none =
        let w = in_time in
        let up : c.up k ≤ m.synced.from = w.0 in let is : m.synced.from + c.sg k m.synced.from ≡ m.sync = w.1 in
        let low : m.sync ≤ m.from = w.2 in let terminal : m.from + c.tg k m.from ≤ t = w.3 in
        let long : length (past c k t) ≡ t - c.up k = bits_length c k (t - c.up k) in
        let one : sg ≤ c.sg k m.synced.from = timed.sg_low m.synced.from in
        let two : tg ≤ c.tg k m.from = timed.tg_low m.from in
        record {
          interval = omega arith;
          synchronized = (
            m.sync - c.up k,
            omega arith,
            record {
              long = omega arith;
              quiet = to_still t (m.sync - c.up k - sg) (m.sync - c.up k) (omega arith) (λ u p q. m.synced.quiet u (omega arith) (omega arith));
              own = tt;
            },
          );
          gap_fits = omega arith;
          gap = subst (λ n. IsStill (past c k t) (n - tg) n) (sym long) (to_still t (t - c.up k - tg) (t - c.up k) (omega arith) (λ u p q. m.quiet u (omega arith) (omega arith)));
        }
    allowed ti sg tg timed (Some place) l =
        let w = in_time in
        let up : c.up k ≤ m.synced.from = w.0 in let is : m.synced.from + c.sg k m.synced.from ≡ m.sync = w.1 in
        let low : m.sync ≤ m.from = w.2 in let terminal : m.from + c.tg k m.from ≤ t = w.3 in
        let long : length (past c k t) ≡ t - c.up k = bits_length c k (t - c.up k) in
        let one : sg ≤ c.sg k m.synced.from = timed.sg_low m.synced.from in
        let two : tg ≤ c.tg k m.from = timed.tg_low m.from in
        let x : Entry = l.0 in
        let at : x.moment ≡ c.up k + place = l.4 in
        let before : x.moment < m.sync = m.none x l.1 l.2 l.3 in
        let three : ti ≤ c.ti k x.moment = timed.ti_low x.moment in
        let interval : x.moment + c.ti k x.moment ≤ t = m.interval x l.1 l.2 l.3 l.5 in
        let sooner : x.moment < m.synced.from = elim (own_out m.synced.from m.sync x l.1 l.2 m.synced.quiet) [ inl fine ↦ fine | inr bad ↦ absurd (omega arith) ] in
        record {
          interval = omega arith;
          synchronized = (
            m.sync - c.up k,
            omega arith,
            record {
              long = omega arith;
              quiet = to_still t (m.sync - c.up k - sg) (m.sync - c.up k) (omega arith) (λ u p q. m.synced.quiet u (omega arith) (omega arith));
              own = (let goal : place ≤ m.sync - c.up k - sg = omega arith in goal);
            },
          );
          gap_fits = omega arith;
          gap = subst (λ n. IsStill (past c k t) (n - tg) n) (sym long) (to_still t (t - c.up k - tg) (t - c.up k) (omega arith) (λ u p q. m.quiet u (omega arith) (omega arith)));
        }

  module _ (t : ℕ) (known : k < bus.senders) (some : 0 < bus.sg_long k) (up : c.up k ≤ t) (due : c.due k ≤ c.up k) where
    starts : (last : Option ℕ) → IsLast c k t last → (e : ℕ) → bus.sg_long k ≤ e → e + bus.tg_long k ≤ t - c.up k
        → IsQuiet c k (c.up k + (e - bus.sg_long k)) (c.up k + e) → IsQuiet c k (t - bus.tg_long k) t
        → ((x : Entry) → In x c.list → x.sender ≡ k → x.moment < t → x.moment ≤ c.up k + (e - bus.sg_long k))
        → ((x : Entry) → In x c.list → x.sender ≡ k → x.moment < t → ((y : Entry) → In y c.list → y.sender ≡ k → y.moment < t → y.moment ≤ x.moment)
        → x.moment + bus.ti_long k ≤ t) → MayStart c k t
    starts last l e long fits window gap own interval =
        let s : Beginning (carrier c k) (c.up k) (c.up k + e) = beginning (carrier c k) (c.up k) e (c.up k + e) refl in
        let by : s.from ≤ c.up k + (e - bus.sg_long k) = begins_by (carrier c k) (c.up k) (c.up k + e) (c.up k + (e - bus.sg_long k)) s (omega arith) (omega arith) window in
        let brief : c.sg k s.from ≤ bus.sg_long k = ok.sg_high k s.from known in
        let at : ℕ = s.from + c.sg k s.from in
        let g : Beginning (carrier c k) (s.from + c.sg k s.from) t = beginning (carrier c k) (s.from + c.sg k s.from) (t - (s.from + c.sg k s.from)) t (omega arith) in
        let by_g : g.from ≤ t - bus.tg_long k = begins_by (carrier c k) (s.from + c.sg k s.from) t (t - bus.tg_long k) g (omega arith) (omega arith) gap in
        let brief_g : c.tg k g.from ≤ bus.tg_long k = ok.tg_high k g.from known in
        record {
          sync = s.from + c.sg k s.from;
          synced = record { from = s.from; begins = s.begins; quiet = λ u p q. s.quiet u p (omega arith); elapsed = refl };
          none = λ x i mine less.
              let low : x.moment ≤ c.up k + (e - bus.sg_long k) = own x i mine less in
              elim (own_out s.from (c.up k + e) x i mine s.quiet) [ inl before ↦ omega arith | inr bad ↦ absurd (omega arith) ];
          from = g.from;
          begins = g.begins;
          quiet = g.quiet;
          terminal = omega arith;
          due = omega arith;
          interval = λ x i mine less last_x.
              let long_ti : c.ti k x.moment ≤ bus.ti_long k = ok.ti_high k x.moment known in
              let soon : x.moment + bus.ti_long k ≤ t = interval x i mine less last_x in
              omega arith;
        }

    pub demanded : (last : Option ℕ) → IsLast c k t last → Allows (timing (bus.ti_long k) (bus.sg_long k) (bus.tg_long k)) (past c k t) last → MayStart c k t
    demanded None none a =
        let long : length (past c k t) ≡ t - c.up k = bits_length c k (t - c.up k) in
        let e : ℕ = a.synchronized.0 in
        let fits : a.synchronized.0 + bus.tg_long k ≤ length (past c k t) = a.synchronized.1 in
        let sync : IsSync (bus.sg_long k) (past c k t) None a.synchronized.0 = a.synchronized.2 in
        let s_long : bus.sg_long k ≤ a.synchronized.0 = sync.long in
        starts None none a.synchronized.0 sync.long (omega arith)
        (from_still t (a.synchronized.0 - bus.sg_long k) a.synchronized.0 (c.up k + (a.synchronized.0 - bus.sg_long k)) (c.up k + a.synchronized.0) (omega arith) refl refl sync.quiet)
        (from_still t (length (past c k t) - bus.tg_long k) (length (past c k t)) (t - bus.tg_long k) t (omega arith) (omega arith) (omega arith) a.gap)
        (λ x i mine less. absurd (none x i mine less)) (λ x i mine less last_x. absurd (none x i mine less))
    demanded (Some place) l a =
        let long : length (past c k t) ≡ t - c.up k = bits_length c k (t - c.up k) in
        let fits : a.synchronized.0 + bus.tg_long k ≤ length (past c k t) = a.synchronized.1 in
        let sync : IsSync (bus.sg_long k) (past c k t) (Some place) a.synchronized.0 = a.synchronized.2 in
        let s_long : bus.sg_long k ≤ a.synchronized.0 = sync.long in
        let s_own : place ≤ a.synchronized.0 - bus.sg_long k = sync.own in
        let at : l.0.moment ≡ c.up k + place = l.4 in
        let ti : place + bus.ti_long k ≤ length (past c k t) = a.interval in
        starts (Some place) l a.synchronized.0 sync.long (omega arith)
        (from_still t (a.synchronized.0 - bus.sg_long k) a.synchronized.0 (c.up k + (a.synchronized.0 - bus.sg_long k)) (c.up k + a.synchronized.0) (omega arith) refl refl sync.quiet)
        (from_still t (length (past c k t) - bus.tg_long k) (length (past c k t)) (t - bus.tg_long k) t (omega arith) (omega arith) (omega arith) a.gap)
        (λ x i mine less. (let high : x.moment ≤ l.0.moment = l.5 x i mine less in omega arith))
        (λ x i mine less last_x. (let high : x.moment ≤ l.0.moment = l.5 x i mine less in omega arith))

pub starts_are_allowed : StartsAreAllowed
starts_are_allowed bus c k t ti sg tg last ok known timed l m = allowed bus c (bounded bus c ok) k t m ti sg tg timed last l

pub allowed_start : AllowedStart
allowed_start bus c k t last ok known some up due l a = demanded bus c (bounded bus c ok) k t known some up due last l a

pub exact_timers_agree : ExactTimersAgree
exact_timers_agree bus c k t last ok known some up due timed l = (
  (λ m. allowed bus c (bounded bus c ok) k t m (bus.ti_long k) (bus.sg_long k) (bus.tg_long k) timed last l),
  (λ a. demanded bus c (bounded bus c ok) k t known some up due last l a),
)

pub courses_are_admissible : CoursesAreAdmissible
courses_are_admissible bus c ok timers timed = record {
  ordered = ok.ordered;
  sent = ok.sent;
  allowed = λ x last i l.
      let s = ok.sent x i in
      let m : MayStart c x.sender x.moment = ((ok.exact x.sender x.moment s.0 s.1).0 (record { entry = x; there = i; sender = refl; moment = refl })).0 in
      starts_are_allowed bus c x.sender x.moment (bus.ti_short x.sender) (bus.sg_short x.sender) (bus.tg_short x.sender) last ok s.0 (timed x.sender s.0) l m;
  left = λ x i. (let s = ok.sent x i in ((ok.exact x.sender x.moment s.0 s.1).0 (record { entry = x; there = i; sender = refl; moment = refl })).1);
  demanded = λ k t last known soon up l a left.
      (ok.exact k t known soon).1 (allowed_start bus c k t last ok known (timers k known).0 up (timers k known).1 l a, left);
  own = ok.own;
  others = ok.others;
}
