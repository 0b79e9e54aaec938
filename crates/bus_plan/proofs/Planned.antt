-- The senders at their planned offsets: they rise, they fill the interval, and each of their gaps is fine.
use Rattle.std.specs.Prelude.{◌≡◌, ◌≢◌, ℕ, ◌+◌, ◌-◌, ◌*◌, ◌<◌, ◌≤◌, ◌⊎◌, true, false, nat_le, ◌==◌, List, [], ◌∷◌, map}
use Rattle.std.specs.List.{sum_by}
use Rattle.std.proofs.Common.{inl, inr, arith, sym, refl, ap, ◌∙◌, subst, cond}
use Rattle.std.proofs.lemmas.Bool.{eq-eqb}
use Rattle.std.proofs.lemmas.Bool.Decides.{nat_tests}
use Rattle.std.proofs.lemmas.List.Sums.{sum_by-cons}
use Rattle.bus_strings.specs.Members.{In}
use Rattle.bus_table.specs.declared.mode.Mode.TheVariants.{Periodic}
use Rattle.bus_table.specs.Tables.{Sender}
use Rattle.bus_table.specs.Lengths.{longest}
use Rattle.bus_table.specs.Turns.{turn_key}
use Rattle.bus_table.specs.inside.Orders.{Rises, Differ}
use Rattle.bus_table.proofs.TurnLaws.{rises_behind}
use Rattle.bus_regime.specs.Gaps.{Gap, gaps_from, last_end}
use Rattle.bus_table.specs.Offsets.{at_offset}
use Rattle.bus_regime.specs.inside.Fine.{IsSynchronized, IsFine}
use Rattle.bus_regime.proofs.GapLaws.{gap_sender}
use Rattle.bus_plan.specs.Plans.{turn_time, behind, second_gap, planned, sync_time, offset_in}

-- what a planned sender has of its table
pub record IsModest (sg : ℕ) (s : Sender) : Type 0 where
  pub number_most : s.number ≤ 128
  pub tg_least : 0 < s.tg
  pub tg_short : s.tg < sg

abbrev pub AreModest : ℕ → List Sender → Type 0
AreModest sg ss = (s : Sender) → In s ss → IsModest sg s

-- ---- offsets
behind_in : (sg end : ℕ) (ss : List Sender) → AreModest sg ss → (x : Sender) → In x (behind end ss)
    → (end < x.at) × (x.at ≤ end + sum_by turn_time ss) × (x.number ≤ 128)
behind_in sg end [] m x i = absurd i
behind_in sg end (s ∷ ss) m x (inl e) =
    let at : x.at ≡ end + s.tg = ap (λ (y : Sender). y.at) e in
    let number : x.number ≡ s.number = ap (λ (y : Sender). y.number) e in
    let k = m s (inl refl) in
    let least = k.tg_least in
    let most = k.number_most in
    let sum = sum_by-cons turn_time s ss in
    (omega (arith, at, least), omega (arith, at, sum), omega (arith, number, most))
behind_in sg end (s ∷ ss) m x (inr i) =
    let rest = behind_in sg (end + s.tg + longest s) ss (λ y j. m y (inr j)) x i in
    let sum = sum_by-cons turn_time s ss in
    let low = rest.0 in
    let high = rest.1 in
    (omega (arith, low), omega (arith, high, sum), rest.2)

key_less : (a b : Sender) → a.number ≤ 128 → a.at < b.at → turn_key Periodic a < turn_key Periodic b
key_less a b h k = omega (arith, h, k)

behind_rises : (sg end : ℕ) (ss : List Sender) → AreModest sg ss → Rises (turn_key Periodic) (behind end ss)
behind_rises sg end [] m = tt
behind_rises sg end (s ∷ ss) m =
    let rest = λ (y : Sender) (j : In y ss). m y (inr j) in (
      rises_behind (turn_key Periodic) (at_offset (end + s.tg) s) (behind (end + s.tg + longest s) ss)
          (λ x i. let later = (behind_in sg (end + s.tg + longest s) ss rest x i).0 in
          key_less (at_offset (end + s.tg) s) x (m s (inl refl)).number_most (omega (arith, later))),
      behind_rises sg (end + s.tg + longest s) ss rest,
    )

behind_end : (end : ℕ) (ss : List Sender) → last_end end (behind end ss) ≡ end + sum_by turn_time ss
behind_end end [] = omega arith
behind_end end (s ∷ ss) =
    let rest = behind_end (end + s.tg + longest s) ss in
    let sum = sum_by-cons turn_time s ss in
    omega (arith, rest, sum)

-- each gap behind is its sender's terminal gap
behind_gap : (ti end : ℕ) (ss : List Sender) (g : Gap) → In g (gaps_from ti (ti + end) (behind end ss)) → g.from + g.sender.tg ≤ g.to
behind_gap ti end [] g i = absurd i
behind_gap ti end (s ∷ ss) g (inl e) =
    let from : g.from ≡ ti + end = ap (λ (x : Gap). x.from) e in
    let to : g.to ≡ ti + (end + s.tg) = ap (λ (x : Gap). x.to) e in
    let tg : g.sender.tg ≡ s.tg = ap (λ (x : Gap). x.sender.tg) e in
    omega (arith, from, to, tg)
behind_gap ti end (s ∷ ss) g (inr i) = behind_gap ti (end + s.tg + longest s) ss g i

-- ---- two senders and more, the second behind a gap of n
abbrev pub spaced : ℕ → Sender → Sender → List Sender → List Sender
spaced n a b others = at_offset 0 a ∷ at_offset (longest a + n) b ∷ behind (longest a + n + longest b) others

-- the second gap is wide enough, and so is what is left before the first
record IsSpaced (sg ti n : ℕ) (a b : Sender) (others : List Sender) : Type 0 where
  second : b.tg ≤ n
  room : longest a + n + longest b + sum_by turn_time others + sg ≤ ti
  sync : (longest a + n + longest b + sum_by turn_time others + (sg + a.tg) ≤ ti) ⊎ (sg ≤ n)

is_spaced : (sg ti : ℕ) (a b : Sender) (others : List Sender) → AreModest sg (a ∷ b ∷ others)
    → sum_by turn_time (a ∷ b ∷ others) + sync_time sg (a ∷ b ∷ others) ≤ ti → IsSpaced sg ti (second_gap sg a b) a b others
is_spaced sg ti a b others m h =
    let one = sum_by-cons turn_time a (b ∷ others) in
    let two = sum_by-cons turn_time b others in
    let short_a = (m a (inl refl)).tg_short in
    let short_b = (m b (inr (inl refl))).tg_short in
    (elim (nat_le (a.tg + b.tg) sg) as (λ w. nat_le (a.tg + b.tg) sg ≡ w
    → sum_by turn_time (a ∷ b ∷ others) + cond w sg (2 * sg - (a.tg + b.tg)) ≤ ti → IsSpaced sg ti (cond w b.tg sg) a b others) [
      | true ↦ λ e k. record { second = omega arith; room = omega (arith, one, two, k); sync = inl (omega (arith, one, two, k)) }
      | false ↦ λ e k. record {
        second = omega (arith, short_b);
        room = omega (arith, one, two, k, short_a, short_b);
        sync = inr (omega arith);
      }
    ]) refl h

spaced_fine : (sg ti n : ℕ) (a b : Sender) (others : List Sender) → a.tg < sg → Differ (λ s. s.number) (spaced n a b others)
    → IsSpaced sg ti n a b others
    → (g : Gap) → In g (gaps_from ti (last_end 0 (spaced n a b others)) (spaced n a b others))
    → IsFine sg (gaps_from ti (last_end 0 (spaced n a b others)) (spaced n a b others)) g
spaced_fine sg ti n a b others short differ s g i =
    let from : ℕ = last_end 0 (spaced n a b others) in
    let all : List Gap = gaps_from ti from (spaced n a b others) in
    let end = behind_end (longest a + n + longest b) others in
    let first : Gap = record { sender = at_offset 0 a; from = from; to = ti + 0 } in
    let second : Gap = record { sender = at_offset (longest a + n) b; from = ti + (0 + longest a); to = ti + (longest a + n) } in
    let by_first = λ (h : Gap) (apart : a.number ≢ h.sender.number). (let w : IsSynchronized sg all h =
    record { other = first; among = inl refl; apart = apart; wide = omega (arith, end, s.room) } in w) in
    elim i [
      | inl e ↦ subst (IsFine sg all) (sym e) (record {
        wide = omega (arith, end, short, s.room);
        sync = elim s.sync [
          | inl own ↦ inl (omega (arith, end, own))
          | inr long ↦ inr (record {
            other = second;
            among = inr (inl refl);
            apart = λ k. differ.0 (at_offset (longest a + n) b) (inl refl) (sym k);
            wide = omega (arith, long);
          })
        ];
      })
      | inr j ↦ elim j [
        | inl e ↦ subst (IsFine sg all) (sym e) (record {
          wide = omega (arith, s.second);
          sync = inr (by_first second (differ.0 (at_offset (longest a + n) b) (inl refl)));
        })
        | inr k ↦ record {
          wide = behind_gap ti (longest a + n + longest b) others g k;
          sync = inr (by_first g (differ.0 g.sender
              (inr (gap_sender ti (ti + (longest a + n + longest b)) (behind (longest a + n + longest b) others) g k))));
        }
      ]
    ]

-- ---- the planned senders
pub planned_fine : (sg ti : ℕ) (order : List Sender) → AreModest sg order → Differ (λ s. s.number) (planned sg order)
    → sum_by turn_time order + sync_time sg order ≤ ti
    → (g : Gap) → In g (gaps_from ti (last_end 0 (planned sg order)) (planned sg order))
    → IsFine sg (gaps_from ti (last_end 0 (planned sg order)) (planned sg order)) g
planned_fine sg ti [] m differ h g i = absurd i
planned_fine sg ti (a ∷ []) m differ h g (inl e) =
    let sum = sum_by-cons turn_time a [] in
    let none : sum_by turn_time [] ≡ 0 = refl in
    subst (IsFine sg (gaps_from ti (last_end 0 (planned sg (a ∷ []))) (planned sg (a ∷ [])))) (sym e)
    (record { wide = omega (arith, sum, none, h); sync = inl (omega (arith, sum, none, h)) })
planned_fine sg ti (a ∷ []) m differ h g (inr i) = absurd i
planned_fine sg ti (a ∷ b ∷ others) m differ h g i =
    spaced_fine sg ti (second_gap sg a b) a b others (m a (inl refl)).tg_short differ (is_spaced sg ti a b others m h) g i

spaced_rises : (sg n : ℕ) (a b : Sender) (others : List Sender) → AreModest sg (a ∷ b ∷ others) → 0 < n
    → Rises (turn_key Periodic) (spaced n a b others)
spaced_rises sg n a b others m some =
    let rest = λ (y : Sender) (j : In y others). m y (inr (inr j)) in
    let later = λ (x : Sender) (i : In x (behind (longest a + n + longest b) others)).
    (behind_in sg (longest a + n + longest b) others rest x i).0 in (
      rises_behind (turn_key Periodic) (at_offset 0 a) (at_offset (longest a + n) b ∷ behind (longest a + n + longest b) others)
          (λ x i. key_less (at_offset 0 a) x (m a (inl refl)).number_most
          (elim i [
            | inl e ↦ let at : x.at ≡ longest a + n = ap (λ (y : Sender). y.at) e in omega (arith, at, some)
            | inr j ↦ let k = later x j in omega (arith, k)
          ])),
      (
        rises_behind (turn_key Periodic) (at_offset (longest a + n) b) (behind (longest a + n + longest b) others)
            (λ x i. key_less (at_offset (longest a + n) b) x (m b (inr (inl refl))).number_most (let k = later x i in omega (arith, k))),
        behind_rises sg (longest a + n + longest b) others rest,
      ),
    )

pub planned_rises : (sg ti : ℕ) (order : List Sender) → AreModest sg order → sum_by turn_time order + sync_time sg order ≤ ti
    → Rises (turn_key Periodic) (planned sg order)
planned_rises sg ti [] m h = tt
planned_rises sg ti (a ∷ []) m h = (tt, tt)
planned_rises sg ti (a ∷ b ∷ others) m h =
    let second = (is_spaced sg ti a b others m h).second in
    let least = (m b (inr (inl refl))).tg_least in
    spaced_rises sg (second_gap sg a b) a b others m (omega (arith, second, least))

-- each planned offset is below the interval
pub planned_below : (sg ti : ℕ) (order : List Sender) → 0 < ti → AreModest sg order → sum_by turn_time order + sync_time sg order ≤ ti
    → (x : Sender) → In x (planned sg order) → x.at < ti
planned_below sg ti [] some m h x i = absurd i
planned_below sg ti (a ∷ []) some m h x (inl e) = let at : x.at ≡ 0 = ap (λ (y : Sender). y.at) e in omega (arith, at, some)
planned_below sg ti (a ∷ []) some m h x (inr i) = absurd i
planned_below sg ti (a ∷ b ∷ others) some m h x i =
    let room = (is_spaced sg ti a b others m h).room in
    let short = (m a (inl refl)).tg_short in
    elim i [
      | inl e ↦ let at : x.at ≡ 0 = ap (λ (y : Sender). y.at) e in omega (arith, at, some)
      | inr j ↦ elim j [
        | inl e ↦ let at : x.at ≡ longest a + second_gap sg a b = ap (λ (y : Sender). y.at) e in omega (arith, at, room, short)
        | inr k ↦ let at = (behind_in sg (longest a + second_gap sg a b + longest b) others (λ y l. m y (inr (inr l))) x k).1 in
            omega (arith, at, room, short)
      ]
    ]

-- ---- each sender finds its offset by its number
-- a sender at the offset that stands under its number
abbrev pub placed : List Sender → Sender → Sender
placed plan s = at_offset (offset_in plan s.number) s

other_first : (y : Sender) (plan zs : List Sender) → ((z : Sender) → In z zs → y.number ≢ z.number)
    → map (placed (y ∷ plan)) zs ≡ map (placed plan) zs
other_first y plan [] apart = refl
other_first y plan (z ∷ zs) apart =
    let no : (y.number == z.number) ≡ false = (let h : y.number ≢ z.number = apart z (inl refl) in grind (arith, nat_tests)) in
    ap (λ b. at_offset (cond b y.at (offset_in plan z.number)) z ∷ map (placed (y ∷ plan)) zs) no
    ∙ ap (λ l. placed plan z ∷ l) (other_first y plan zs (λ w i. apart w (inr i)))

pub placed_same : (plan : List Sender) → Differ (λ s. s.number) plan → map (placed plan) plan ≡ plan
placed_same [] d = refl
placed_same (y ∷ plan) d =
    ap (λ b. at_offset (cond b y.at (offset_in plan y.number)) y ∷ map (placed (y ∷ plan)) plan) (eq-eqb y.number y.number refl)
    ∙ ap (λ l. y ∷ l) (other_first y plan plan d.0 ∙ placed_same plan d.1)

behind_placed : (plan : List Sender) (end : ℕ) (ss : List Sender) → map (placed plan) (behind end ss) ≡ map (placed plan) ss
behind_placed plan end [] = refl
behind_placed plan end (s ∷ ss) = ap (λ l. placed plan s ∷ l) (behind_placed plan (end + s.tg + longest s) ss)

planned_placed : (plan : List Sender) (sg : ℕ) (order : List Sender) → map (placed plan) (planned sg order) ≡ map (placed plan) order
planned_placed plan sg [] = refl
planned_placed plan sg (a ∷ []) = refl
planned_placed plan sg (a ∷ b ∷ others) =
    ap (λ l. placed plan a ∷ placed plan b ∷ l) (behind_placed plan (longest a + second_gap sg a b + longest b) others)

behind_from : (end : ℕ) (ss : List Sender) (x : Sender) → In x (behind end ss) → (s : Sender) × In s ss × (x.number ≡ s.number)
behind_from end [] x i = absurd i
behind_from end (s ∷ ss) x (inl e) = (s, inl refl, ap (λ (y : Sender). y.number) e)
behind_from end (s ∷ ss) x (inr i) = let w = behind_from (end + s.tg + longest s) ss x i in (w.0, inr w.1, w.2)

behind_differ : (end : ℕ) (ss : List Sender) → Differ (λ s. s.number) ss → Differ (λ s. s.number) (behind end ss)
behind_differ end [] d = tt
behind_differ end (s ∷ ss) d = (
  (λ x i k. (let w = behind_from (end + s.tg + longest s) ss x i in d.0 w.0 w.1 (k ∙ w.2))),
  behind_differ (end + s.tg + longest s) ss d.1,
)

pub planned_differ : (sg : ℕ) (order : List Sender) → Differ (λ s. s.number) order → Differ (λ s. s.number) (planned sg order)
planned_differ sg [] d = tt
planned_differ sg (a ∷ []) d = ((λ x i. absurd i), tt)
planned_differ sg (a ∷ b ∷ others) d =
    let end : ℕ = longest a + second_gap sg a b + longest b in (
      (λ x i. elim i [
        | inl e ↦ λ k. d.0 b (inl refl) (k ∙ ap (λ (y : Sender). y.number) e)
        | inr j ↦
            λ k. (let w = behind_from end others x j in d.0 w.0 (inr w.1) (k ∙ w.2))
      ]),
      ((λ x i k. (let w = behind_from end others x i in d.1.0 w.0 w.1 (k ∙ w.2))), behind_differ end others d.1.1),
    )

-- the planned senders are those of the order, each at the offset under its number
pub planned_is : (sg : ℕ) (order : List Sender) → Differ (λ s. s.number) order → planned sg order ≡ map (placed (planned sg order)) order
planned_is sg order d = sym (placed_same (planned sg order) (planned_differ sg order d)) ∙ planned_placed (planned sg order) sg order
