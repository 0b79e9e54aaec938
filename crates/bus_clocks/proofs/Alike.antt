-- A sender of one course that finds the same as a sender of another may start where that one may.
use Rattle.std.proofs.Common.{◌≡◌, ℕ, ◌+◌, ◌-◌, ◌<◌, ◌≤◌, Bool, inl, inr, arith, sym, ◌∙◌, subst}
use Rattle.bus_clocks.specs.Entries.{Entry, In}
use Rattle.bus_clocks.specs.Hearing.{Hears}
use Rattle.bus_clocks.specs.Courses.{Course, carrier, IsQuiet, SyncAt, MayStart}

-- sender k of the one course finds before moment t what sender j of the other does
pub record Alike (c d : Course) (k j t : ℕ) : Type 0 where
  pub up : c.up k ≡ d.up j
  pub due : c.due k ≡ d.due j
  pub tg : (a : ℕ) → c.tg k a ≡ d.tg j a
  pub sg : (a : ℕ) → c.sg k a ≡ d.sg j a
  pub ti : (a : ℕ) → c.ti k a ≡ d.ti j a
  pub heard : (u : ℕ) → u < t → carrier c k u ≡ carrier d j u
  pub there : (x : Entry) → In x c.list → x.sender ≡ k → x.moment < t → (y : Entry) × In y d.list × (y.sender ≡ j) × (y.moment ≡ x.moment)
  pub back : (y : Entry) → In y d.list → y.sender ≡ j → y.moment < t → (x : Entry) × In x c.list × (x.sender ≡ k) × (x.moment ≡ y.moment)

pub alike_back : (c d : Course) (k j t : ℕ) → Alike c d k j t → Alike d c j k t
alike_back c d k j t a = record {
  up = sym a.up;
  due = sym a.due;
  tg = λ m. sym (a.tg m);
  sg = λ m. sym (a.sg m);
  ti = λ m. sym (a.ti m);
  heard = λ u less. sym (a.heard u less);
  there = a.back;
  back = a.there;
}

module _ (c d : Course) (k j t : ℕ) (a : Alike c d k j t) where
  quiet_alike : (m n : ℕ) → n ≤ t → IsQuiet c k m n → IsQuiet d j m n
  quiet_alike m n low quiet u p q = sym (a.heard u (omega arith)) ∙ quiet u p q

  sync_alike : (e : ℕ) → e ≤ t → SyncAt c k e → SyncAt d j e
  sync_alike e low s =
      let is : s.from + c.sg k s.from ≡ e = s.elapsed in
      let up : c.up k ≡ d.up j = a.up in
      record {
        from = s.from;
        begins = elim s.begins [
          | inl at ↦ inl (at ∙ a.up)
          | inr p ↦ (let l : c.up k < s.from = p.0 in inr (omega arith, sym (a.heard (s.from - 1) (omega arith)) ∙ p.1))
        ];
        quiet = quiet_alike s.from e low s.quiet;
        elapsed = subst (λ n. s.from + n ≡ e) (a.sg s.from) s.elapsed;
      }

  pub may_alike : MayStart c k t → MayStart d j t
  may_alike s =
      let terminal : s.from + c.tg k s.from ≤ t = s.terminal in
      let low : s.sync ≤ s.from = elim s.begins [ inl is ↦ omega arith | inr p ↦ omega arith ] in
      record {
        sync = s.sync;
        synced = sync_alike s.sync (omega arith) s.synced;
        none = λ y i mine less.
            let p = a.back y i mine less in
            let at : p.0.moment ≡ y.moment = p.3 in
            let before : p.0.moment < s.sync = s.none p.0 p.1 p.2 (omega arith) in
            omega arith;
        from = s.from;
        begins = elim s.begins [
          | inl same ↦ inl same
          | inr p ↦ (let l : s.sync < s.from = p.0 in inr (p.0, sym (a.heard (s.from - 1) (omega arith)) ∙ p.1))
        ];
        quiet = quiet_alike s.from t (omega arith) s.quiet;
        terminal = subst (λ n. s.from + n ≤ t) (a.tg s.from) s.terminal;
        due = subst (λ n. n ≤ t) a.due s.due;
        interval = λ y i mine less last.
            let p = a.back y i mine less in
            let at : p.0.moment ≡ y.moment = p.3 in
            let far : p.0.moment + c.ti k p.0.moment ≤ t = s.interval p.0 p.1 p.2 (omega arith) (λ x l own before.
            let q = a.there x l own before in
            let at_q : q.0.moment ≡ x.moment = q.3 in
            let high : q.0.moment ≤ y.moment = last q.0 q.1 q.2 (omega arith) in
            omega arith) in
            subst (λ n. n + d.ti j n ≤ t) at (subst (λ n. p.0.moment + n ≤ t) (a.ti p.0.moment) far);
      }

-- what is heard alike is heard as well
pub hears_as : (h g : Entry → ℕ → ℕ → Bool) (r drop : ℕ) (x y : Entry) (n m : ℕ) → x.moment ≡ y.moment → x.length ≡ y.length
    → ((t : ℕ) → h x n t ≡ g y m t) → Hears h r drop x n → Hears g r drop y m
hears_as h g r drop x y n m at long same s = record {
  within = λ t on.
      let w = s.within t (same t ∙ on) in
      let low : x.moment ≤ t = w.0 in
      let high : t < x.moment + x.length + r = w.1 in
      (omega arith, omega arith);
  first = s.first;
  last = s.last;
  first_heard = sym (same s.first) ∙ s.first_heard;
  first_soon = (let soon : s.first ≤ x.moment + r = s.first_soon in omega arith);
  last_heard = sym (same s.last) ∙ s.last_heard;
  last_late = (let late : x.moment + x.length ≤ s.last + 1 = s.last_late in omega arith);
  filled = λ t p q. (let f = s.filled t p q in (f.0, f.1, f.2, sym (same f.0) ∙ f.3));
}
