-- Why what is found in whole bit times is found in ticks.
use Rattle.std.proofs.Common.{◌≡◌, ℕ, ◌+◌, ◌-◌, ◌*◌, ◌/◌, ◌<◌, ◌≤◌, List, [], ◌∷◌, inl, inr, arith, sym, refl, ap, ◌∙◌, subst}
use Rattle.std.proofs.lemmas.Bool.{cases_lt}
use Rattle.std.proofs.Math.Nat.{mul-le-mul_right, add-mul, div-mul-le_self, lt-div-mul-add}
use Rattle.bus_recording.specs.Seen.{Bounds, IsIn, IsNext, Monitor, Seen}
use Rattle.bus_recording.specs.Findings.{IsEarlyByGap, IsEarlyBySync, IsLate, IsMet, IsQuietForCertain}
use Rattle.bus_recording.specs.Rounding.{GapInTicks, IntervalInTicks, LateInTicks, NextInTicks, SyncInTicks, all_in_ticks, bounds_in_ticks, finer, in_ticks}

abbrev four : ℕ → ℕ → ℕ → ℕ → Seen
four moment sender soonest latest = record { moment = moment; sender = sender; soonest = soonest; latest = latest }

same_seen : (r q : Seen) → r.moment ≡ q.moment → r.sender ≡ q.sender → r.soonest ≡ q.soonest → r.latest ≡ q.latest → r ≡ q
same_seen r q a b c d =
    ap (λ m. four m r.sender r.soonest r.latest) a ∙ ap (λ n. four q.moment n r.soonest r.latest) b
    ∙ ap (λ s. four q.moment q.sender s r.latest) c ∙ ap (λ l. four q.moment q.sender q.soonest l) d

pub ticks_in : (bit : ℕ) (l : List Seen) (r : Seen) → IsIn r l → IsIn (in_ticks bit r) (all_in_ticks bit l)
ticks_in bit [] r i = i
ticks_in bit (y ∷ l) r (inl same) = inl (ap (in_ticks bit) same)
ticks_in bit (y ∷ l) r (inr i) = inr (ticks_in bit l r i)

pub in_ticks_from : (bit : ℕ) (l : List Seen) (q : Seen) → IsIn q (all_in_ticks bit l) → (r : Seen) × IsIn r l × (q ≡ in_ticks bit r)
in_ticks_from bit [] q i = absurd i
in_ticks_from bit (y ∷ l) q (inl same) = (y, inl refl, same)
in_ticks_from bit (y ∷ l) q (inr i) = (let w = in_ticks_from bit l q i in (w.0, inr w.1, w.2))

-- a bit time earlier
pub step : (bit a b : ℕ) → a < b → a * bit + bit ≤ b * bit
step bit a b less =
    let k : (a + 1) * bit ≤ b * bit = mul-le-mul_right bit (let m : a + 1 ≤ b = omega arith in m) in
    let e : (a + 1) * bit ≡ a * bit + 1 * bit = add-mul a 1 bit in
    omega arith

pub up : (bit a b : ℕ) → a ≤ b → a * bit ≤ b * bit
up bit a b le = mul-le-mul_right bit le

pub two : (bit a b : ℕ) → (a + b) * bit ≡ a * bit + b * bit
two bit a b = add-mul a b bit

pub down : (bit a b : ℕ) → a * bit < b * bit → a < b
down bit a b less = elim (cases_lt a b) [ inl done ↦ done | inr le ↦ (let k : b * bit ≤ a * bit = up bit b a le in absurd (omega arith)) ]

-- two that are less than a bit time apart are the same
pub same_bit : (bit a b m : ℕ) → a * bit ≤ m → m < a * bit + bit → b * bit ≤ m → m < b * bit + bit → a ≡ b
same_bit bit a b m al ah bl bh = elim (cases_lt a b) [
  | inl less ↦ (let k : a * bit + bit ≤ b * bit = step bit a b less in absurd (omega arith))
  | inr le ↦ elim (cases_lt b a) [
    | inl less ↦ (let k : b * bit + bit ≤ a * bit = step bit b a less in absurd (omega arith))
    | inr ge ↦ omega arith
  ]
]

pub from_ticks : (bit : ℕ) (l : List Seen) (r : Seen) → 1 ≤ bit → IsIn (in_ticks bit r) (all_in_ticks bit l) → IsIn r l
from_ticks bit l r one i =
    let w = in_ticks_from bit l (in_ticks bit r) i in
    let m : r.moment * bit ≡ w.0.moment * bit = ap (λ (v : Seen). v.moment) w.2 in
    let n : r.sender ≡ w.0.sender = ap (λ (v : Seen). v.sender) w.2 in
    let s : r.soonest * bit ≡ w.0.soonest * bit = ap (λ (v : Seen). v.soonest) w.2 in
    let t : r.latest * bit ≡ w.0.latest * bit = ap (λ (v : Seen). v.latest) w.2 in
    let same : r ≡ w.0 = same_seen r w.0
    (same_bit bit r.moment w.0.moment (r.moment * bit) (omega arith) (omega arith) (omega arith) (omega arith)) n
    (same_bit bit r.soonest w.0.soonest (r.soonest * bit) (omega arith) (omega arith) (omega arith) (omega arith))
    (same_bit bit r.latest w.0.latest (r.latest * bit) (omega arith) (omega arith) (omega arith) (omega arith)) in
    subst (λ v. IsIn v l) (sym same) w.1

-- ---- findings in bit times are findings in ticks

pub interval_up : IntervalInTicks
interval_up bit n bounds o y f =
    let k : (y.moment + n) * bit ≤ (o.moment + bounds.short.ti) * bit = up bit (y.moment + n) (o.moment + bounds.short.ti) f in
    let e : (o.moment + bounds.short.ti) * bit ≡ o.moment * bit + bounds.short.ti * bit = two bit o.moment bounds.short.ti in
    let g : (y.moment + n) * bit ≡ y.moment * bit + n * bit = two bit y.moment n in
    omega arith

module _ (bit drop : ℕ) (coarse : Monitor) (recording : List Seen) (one : 1 ≤ bit) (wide : drop ≤ coarse.drop * bit) where
  pub gap_up : (n : ℕ) (bounds : Bounds) (y : Seen) → IsEarlyByGap bounds coarse n recording y
      → IsEarlyByGap (bounds_in_ticks bit bounds) (finer bit drop coarse) (n * bit) (all_in_ticks bit recording) (in_ticks bit y)
  gap_up n bounds y f =
      let w : coarse.drop * bit ≤ bounds.short.tg * bit = up bit coarse.drop bounds.short.tg f.wide in
      let k : (y.moment + n) * bit ≤ (f.other.soonest + bounds.short.tg) * bit = up bit (y.moment + n) (f.other.soonest + bounds.short.tg) f.early in
      let g : (y.moment + n) * bit ≡ y.moment * bit + n * bit = two bit y.moment n in
      let e : (f.other.soonest + bounds.short.tg) * bit ≡ f.other.soonest * bit + bounds.short.tg * bit = two bit f.other.soonest bounds.short.tg in
      record {
        wide = omega arith;
        other = in_ticks bit f.other;
        there = ticks_in bit recording f.other f.there;
        begun = elim f.begun [
          | inl far ↦
              let a : (f.other.moment + coarse.reach) * bit + bit ≤ y.moment * bit = step bit (f.other.moment + coarse.reach) y.moment far in
              let b : (f.other.moment + coarse.reach) * bit ≡ f.other.moment * bit + coarse.reach * bit = two bit f.other.moment coarse.reach in
              inl (omega arith)
          | inr near ↦
              let a : f.other.moment * bit + bit ≤ y.moment * bit = step bit f.other.moment y.moment near.1 in
              inr (near.0, omega arith)
        ];
        early = omega arith;
      }

  -- a stretch in ticks has as long a one in bit times within it, but for the rounding of its beginning
  met_up : (bounds : Bounds) (o y : Seen) (n short a length : ℕ) → IsEarlyBySync bounds coarse n recording o y → bounds.short.sg < short + n
      → short * bit ≤ length → o.soonest * bit ≤ a → a + length + bounds.short.tg * bit ≤ y.moment * bit
      → IsMet (finer bit drop coarse) (all_in_ticks bit recording) y.sender a (a + length)
  met_up bounds o y n short a length f less long own fits =
      let q = a / bit in
      let low : q * bit ≤ a = div-mul-le_self a bit in
      let high : a < q * bit + bit = lt-div-mul-add (let p : 0 < bit = omega arith in p) in
      let from' : o.soonest ≤ q = elim (cases_lt q o.soonest) [
        | inl early ↦ (let k : q * bit + bit ≤ o.soonest * bit = step bit q o.soonest early in absurd (omega arith))
        | inr done ↦ done
      ] in
      let sum : (q + short + bounds.short.tg) * bit ≡ (q + short) * bit + bounds.short.tg * bit = two bit (q + short) bounds.short.tg in
      let part : (q + short) * bit ≡ q * bit + short * bit = two bit q short in
      let to : q + short + bounds.short.tg ≤ y.moment = elim (cases_lt y.moment (q + short + bounds.short.tg)) [
        | inl early ↦
            let k : y.moment * bit + bit ≤ (q + short + bounds.short.tg) * bit = step bit y.moment (q + short + bounds.short.tg) early in
            absurd (omega arith)
        | inr done ↦ done
      ] in
      let m = f.met q short less from' to in
      let b : (m.other.moment + coarse.reach) * bit + bit ≤ (q + short) * bit = step bit (m.other.moment + coarse.reach) (q + short) m.begun in
      let c : (m.other.moment + coarse.reach) * bit ≡ m.other.moment * bit + coarse.reach * bit = two bit m.other.moment coarse.reach in
      let d : q * bit + bit ≤ m.other.soonest * bit = step bit q m.other.soonest m.ended in
      record {
        other = in_ticks bit m.other;
        there = ticks_in bit recording m.other m.there;
        foreign = m.foreign;
        begun = omega arith;
        ended = omega arith;
      }

  pub sync_up : (n : ℕ) (bounds : Bounds) (o y : Seen) → 0 < n → IsEarlyBySync bounds coarse n recording o y
      → IsEarlyBySync (bounds_in_ticks bit bounds) (finer bit drop coarse) (n * bit - (bit - 1)) (all_in_ticks bit recording) (in_ticks bit o) (in_ticks bit y)
  sync_up n bounds o y some f =
      let fits : coarse.drop + n ≤ bounds.short.sg + 1 = f.wide in
      let w : (coarse.drop + n) * bit ≤ (bounds.short.sg + 1) * bit = up bit (coarse.drop + n) (bounds.short.sg + 1) fits in
      let w1 : (coarse.drop + n) * bit ≡ coarse.drop * bit + n * bit = two bit coarse.drop n in
      let w2 : (bounds.short.sg + 1) * bit ≡ bounds.short.sg * bit + 1 * bit = two bit bounds.short.sg 1 in
      let one_n : 1 * bit ≤ n * bit = up bit 1 n (omega arith) in
      record {
        wide = omega arith;
        met = λ a length long own fits'.
            let less : (bounds.short.sg + 1 - n) * bit + n * bit ≡ (bounds.short.sg + 1) * bit =
            sym (two bit (bounds.short.sg + 1 - n) n) ∙ ap (λ v. v * bit) (let e : bounds.short.sg + 1 - n + n ≡ bounds.short.sg + 1 = omega arith in e) in
            met_up bounds o y n (bounds.short.sg + 1 - n) a length f (omega arith) (omega arith) own fits';
      }

module _ (bit drop : ℕ) (coarse : Monitor) (recording : List Seen) where
  quiet_up : (o : Seen) (a b : ℕ) → IsQuietForCertain coarse recording o a b
      → IsQuietForCertain (finer bit drop coarse) (all_in_ticks bit recording) (in_ticks bit o) (a * bit) (b * bit)
  quiet_up o a b q = record {
    recorded = up bit coarse.settled a q.recorded;
    own = up bit o.latest a q.own;
    others = λ r i.
        let g = in_ticks_from bit recording r i in
        let rm : r.moment ≡ g.0.moment * bit = ap (λ (v : Seen). v.moment) g.2 in
        let rl : r.latest ≡ g.0.latest * bit = ap (λ (v : Seen). v.latest) g.2 in
        elim (q.others g.0 g.1) [
          | inl same ↦ inl (g.2 ∙ ap (in_ticks bit) same)
          | inr apart ↦ elim apart [
            | inl behind ↦ (let k : b * bit ≤ g.0.moment * bit = up bit b g.0.moment behind in inr (inl (omega arith)))
            | inr before ↦
                let k : (g.0.latest + coarse.rest) * bit ≤ a * bit = up bit (g.0.latest + coarse.rest) a before in
                let e : (g.0.latest + coarse.rest) * bit ≡ g.0.latest * bit + coarse.rest * bit = two bit g.0.latest coarse.rest in
                inr (inr (omega arith))
          ]
        ];
  }

  less_up : (a b : ℕ) → b ≤ a → (a - b) * bit ≡ a * bit - b * bit
  less_up a b le =
      let e : (a - b + b) * bit ≡ (a - b) * bit + b * bit = two bit (a - b) b in
      let f : (a - b + b) * bit ≡ a * bit = ap (λ v. v * bit) (let k : a - b + b ≡ a = omega arith in k) in
      omega arith

  pub late_up : (n : ℕ) (bounds : Bounds) (o y : Seen) → IsLate bounds coarse n recording o y
      → IsLate (bounds_in_ticks bit bounds) (finer bit drop coarse) (n * bit) (all_in_ticks bit recording) (in_ticks bit o) (in_ticks bit y)
  late_up n bounds o y f =
      let room : f.over.elapsed + bounds.long.tg ≤ f.due = f.over.room in
      let early : (f.due + n) * bit ≤ y.moment * bit = up bit (f.due + n) y.moment f.early in
      let parts : (f.due + n) * bit ≡ f.due * bit + n * bit = two bit f.due n in
      let ti : (o.moment + bounds.long.ti) * bit ≤ f.due * bit = up bit (o.moment + bounds.long.ti) f.due f.over.interval in
      let ti_sum : (o.moment + bounds.long.ti) * bit ≡ o.moment * bit + bounds.long.ti * bit = two bit o.moment bounds.long.ti in
      let tg : (f.over.elapsed + bounds.long.tg) * bit ≤ f.due * bit = up bit (f.over.elapsed + bounds.long.tg) f.due room in
      let tg_sum : (f.over.elapsed + bounds.long.tg) * bit ≡ f.over.elapsed * bit + bounds.long.tg * bit = two bit f.over.elapsed bounds.long.tg in
      record {
        due = f.due * bit;
        early = omega arith;
        over = record {
          interval = omega arith;
          elapsed = f.over.elapsed * bit;
          fits = up bit bounds.long.sg f.over.elapsed f.over.fits;
          synchronized = subst (λ v. IsQuietForCertain (finer bit drop coarse) (all_in_ticks bit recording) (in_ticks bit o) v (f.over.elapsed * bit))
              (less_up f.over.elapsed bounds.long.sg f.over.fits)
              (quiet_up o (f.over.elapsed - bounds.long.sg) f.over.elapsed f.over.synchronized);
          room = omega arith;
          gap = subst (λ v. IsQuietForCertain (finer bit drop coarse) (all_in_ticks bit recording) (in_ticks bit o) v (f.due * bit))
              (less_up f.due bounds.long.tg (omega arith))
              (quiet_up o (f.due - bounds.long.tg) f.due f.over.gap);
        };
      }

  pub next_up : (o y : Seen) → 1 ≤ bit → IsNext recording o y → IsNext (all_in_ticks bit recording) (in_ticks bit o) (in_ticks bit y)
  next_up o y one n = record {
    there = ticks_in bit recording o n.there;
    here = ticks_in bit recording y n.here;
    same = n.same;
    behind = (let k : o.moment * bit + bit ≤ y.moment * bit = step bit o.moment y.moment n.behind in omega arith);
    next = λ z i e less.
        let g = in_ticks_from bit recording z i in
        let zm : z.moment ≡ g.0.moment * bit = ap (λ (v : Seen). v.moment) g.2 in
        let zt : z.sender ≡ g.0.sender = ap (λ (v : Seen). v.sender) g.2 in
        let k : y.moment ≤ g.0.moment = n.next g.0 g.1 (sym zt ∙ e) (down bit o.moment g.0.moment (omega arith)) in
        let u : y.moment * bit ≤ g.0.moment * bit = up bit y.moment g.0.moment k in
        omega arith;
  }

pub one_gap : (bit : ℕ) (coarse : Monitor) (rounded : List Seen) (y : Seen) (bounds : Bounds) (drop : ℕ) → 1 ≤ bit
    → IsEarlyByGap (bounds_in_ticks bit bounds) (finer bit drop coarse) (1 * bit) (all_in_ticks bit rounded) (in_ticks bit y)
    → IsEarlyByGap (bounds_in_ticks bit bounds) (finer bit drop coarse) 1 (all_in_ticks bit rounded) (in_ticks bit y)
one_gap bit coarse rounded y bounds drop one g =
    let early : y.moment * bit + 1 * bit ≤ g.other.soonest + bounds.short.tg * bit = g.early in
    record { wide = g.wide; other = g.other; there = g.there; begun = g.begun; early = omega arith }

pub gap_in_ticks : GapInTicks
gap_in_ticks bit drop n coarse bounds recording y one wide f = gap_up bit drop coarse recording one wide n bounds y f

pub sync_in_ticks : SyncInTicks
sync_in_ticks bit drop n coarse bounds recording o y one wide some f = sync_up bit drop coarse recording one wide n bounds o y some f

pub late_in_ticks : LateInTicks
late_in_ticks bit drop n coarse bounds recording o y one f = late_up bit drop coarse recording n bounds o y f

pub next_in_ticks : NextInTicks
next_in_ticks bit recording o y one n = next_up bit 0 (record { reach = 0; rest = 0; drop = 0; settled = 0 }) recording o y one n
