-- Where somebody isn't in sync when the first sender starts the first round fails.
use Rattle.std.proofs.Common.{◌≡◌, ℕ, zero, suc, ◌+◌, ◌<◌, ◌≤◌, true, false, cond, List, [], ◌∷◌, Option, inl, inr, arith, sym, refl, ap, ◌∙◌, subst, lt-ltb}
use Rattle.std.specs.Prelude.{IfSome, nat_eq}
use Rattle.std.proofs.lemmas.Bool.{cases_lt, cases_eq}
use Rattle.bus_clocks.specs.Buses.{Bus, among, sum_below}
use Rattle.bus_clocks.specs.Entries.{Entry, In, IsAscending, end_of}
use Rattle.bus_clocks.specs.Courses.{Course, HasEntry, IsCourse, MayStart}
use Rattle.bus_clocks.specs.Rounds.{InRounds, next}
use Rattle.bus_clocks.specs.Needing.{AreBounds, JoiningIsNeeded, SyncIsNeeded}
use Rattle.bus_clocks.proofs.Chosen.{c, cold, has_first, loud, may, more, ok, some}
use Rattle.bus_clocks.proofs.Needs.{longer, longer_in, longer_is, longer_not}
use Rattle.bus_clocks.proofs.Turns.{first_least}

-- the delay among the senders is no more than the delay
pub among_most : (bus : Bus) → (among bus).delay ≤ bus.delay
among_most bus = elim (nat_eq bus.senders 1) as (λ b. cond b 0 bus.delay ≤ bus.delay) [ true ↦ omega arith | false ↦ omega arith ]

pub next_is : (senders a : ℕ) → suc a < senders → next senders a ≡ suc a
next_is senders a less = ap (λ b. cond b (suc a) 0) (lt-ltb (suc a) senders less)

-- what the first n senders take at most
abbrev pub most_of : Bus → ℕ → ℕ
most_of bus n = sum_below (λ k. bus.delay + bus.tg_long k + bus.longest k) n

pub most_grows : (bus : Bus) (m n : ℕ) → m ≤ n → most_of bus m ≤ most_of bus n
most_grows bus m zero low = subst (λ i. most_of bus i ≤ 0) (let e : 0 ≡ m = omega arith in e) (let e : 0 ≤ 0 = omega arith in e)
most_grows bus m (suc n) low = elim (cases_eq m (suc n)) [
  | inl same ↦ subst (λ i. most_of bus m ≤ most_of bus i) same (let e : most_of bus m ≤ most_of bus m = omega arith in e)
  | inr other ↦ (let e : most_of bus m ≤ most_of bus n = most_grows bus m n (omega arith) in omega arith)
]

module _ (bus : Bus) (ups : ℕ → ℕ) (messages : Option ℕ) (b : ℕ) (bounds : AreBounds bus) (has : IfSome messages (λ n. 0 < n)) (behind : 0 < b) (known : b < bus.senders)
    (quick : (k : ℕ) → 0 < k → k < bus.senders → bus.tg_long k + bus.delay < bus.sg_long b) (less : ups 0 + bus.sg_short 0 + bus.tg_short 0 < ups b + bus.sg_long b) where
  abbrev tgc : ℕ → ℕ
  tgc = longer b bus.tg_short bus.tg_long

  abbrev sgc : ℕ → ℕ
  sgc = longer b bus.sg_short bus.sg_long

  tg_in : (j : ℕ) → j < bus.senders → (bus.tg_short j ≤ tgc j) × (tgc j ≤ bus.tg_long j)
  tg_in j one = longer_in b bus.tg_short bus.tg_long j (bounds.tg j one)

  sg_in : (j : ℕ) → j < bus.senders → (bus.sg_short j ≤ sgc j) × (sgc j ≤ bus.sg_long j)
  sg_in j one = longer_in b bus.sg_short bus.sg_long j (bounds.sg j one)

  -- nobody hears anything later
  abbrev at_once : ℕ → Entry → ℕ
  at_once n x = 0

  near : (n : ℕ) (x : Entry) → at_once n x ≤ bus.delay
  near n x = omega arith

  self : (x : Entry) → at_once x.sender x ≡ 0
  self x = refl

  abbrev H : ℕ
  H = ups 0 + bus.sg_long 0 + most_of bus bus.senders + 1

  abbrev course : Course
  course = c bus bounds ups tgc sgc at_once messages H tg_in sg_in near self has

  fine : IsCourse bus course
  fine = ok bus bounds ups tgc sgc at_once messages H tg_in sg_in near self has

  -- b's transmission in a round, and that it comes soon
  record Soon (v : ℕ) (l : List Entry) : Type 0 where
    z : Entry
    there : In z l
    of_b : z.sender ≡ b
    below : (e : ℕ) → v + bus.sg_long b ≤ e → ((y : Entry) → In y l → y.moment < e → end_of y + bus.sg_long b ≤ e) → z.moment < e

  find : (l : List Entry) (v a : ℕ) → 0 < a → a ≤ b → InRounds (among bus) course a v l → v ≤ ups 0 + bus.sg_long 0 + most_of bus a
      → ((x : Entry) → In x l → In x course.list) → ((x : Entry) → In x course.list → x.sender ≡ b → In x l) → Soon v l
  find l v zero behind_a upto rounds high there own = absurd (omega arith)
  find [] v (suc a) behind_a upto rounds high there own =
      let d : (among bus).delay ≤ bus.delay = among_most bus in
      let l : H ≤ v + (among bus).delay + bus.tg_long (suc a) =
      rounds b known (λ t soon. more bus bounds ups tgc sgc at_once messages H tg_in sg_in near self has b t (λ x i mine before. own x i mine)) in
      let g : most_of bus (suc (suc a)) ≤ most_of bus bus.senders = most_grows bus (suc (suc a)) bus.senders (omega arith) in
      absurd (omega arith)
  find (y ∷ ys) v (suc a) behind_a upto rounds high there own =
      let d : (among bus).delay ≤ bus.delay = among_most bus in
      let mine : y.sender ≡ suc a = rounds.0 in
      let soon : y.moment ≤ v + (among bus).delay + bus.tg_long (suc a) = rounds.2 in
      let fast : bus.tg_long (suc a) + bus.delay < bus.sg_long b = quick (suc a) behind_a (omega arith) in
      let brief : y.length ≤ bus.longest (suc a) = subst (λ k. y.length ≤ bus.longest k) mine (fine.sent y (there y (inl refl))).3 in
      elim (cases_eq (suc a) b) [
        | inl is ↦ record {
          z = y;
          there = inl refl;
          of_b = mine ∙ is;
          below = λ e low each. omega arith;
        }
        | inr other ↦
            let rest : InRounds (among bus) course (suc (suc a)) (end_of y) ys =
            subst (λ n. InRounds (among bus) course n (end_of y) ys) (next_is bus.senders (suc a) (omega arith)) rounds.3 in
            let p : Soon (end_of y) ys = find ys (end_of y) (suc (suc a)) (omega arith) (omega arith) rest (omega arith) (λ x i. there x (inr i))
            (λ x i own_x. elim (own x i own_x) [
              | inl same ↦ absurd (other (sym mine ∙ ap (λ (w : Entry). w.sender) (sym same) ∙ own_x))
              | inr j ↦ j
            ]) in
            record {
              z = p.z;
              there = inr p.there;
              of_b = p.of_b;
              below = λ e low each. p.below e (each y (inl refl) (omega arith)) (λ x i. each x (inr i));
            }
      ]

  fails : (l : List Entry) → course.list ≡ l → InRounds (among bus) course 0 (ups 0) l → ⊥
  fails [] is rounds =
      let d : (among bus).delay ≤ bus.delay = among_most bus in
      let l : H ≤ ups 0 + (among bus).delay + bus.sg_long 0 + bus.tg_long 0 =
      rounds 0 (omega arith) (λ t soon. more bus bounds ups tgc sgc at_once messages H tg_in sg_in near self has 0 t (λ x i mine before. subst (In x) is i)) in
      let g : most_of bus 1 ≤ most_of bus bus.senders = most_grows bus 1 bus.senders (omega arith) in
      omega arith
  fails (x ∷ ys) is rounds =
      let d : (among bus).delay ≤ bus.delay = among_most bus in
      let mine : x.sender ≡ 0 = rounds.0 in
      let i : In x course.list = subst (In x) (sym is) (inl refl) in
      let up : IsAscending (x ∷ ys) = subst IsAscending is fine.ordered in
      let high : x.moment ≤ ups 0 + (among bus).delay + bus.sg_long 0 + bus.tg_long 0 = rounds.2 in
      let brief : x.length ≤ bus.longest 0 = subst (λ k. x.length ≤ bus.longest k) mine (fine.sent x i).3 in
      let soon : x.moment < H = (fine.sent x i).1 in
      let least : (z : Entry) → In z course.list → x.moment ≤ z.moment = λ z j. first_least x ys up z (subst (In z) is j) in
      let is_0 : ups 0 + sgc 0 + tgc 0 ≡ ups 0 + bus.sg_short 0 + bus.tg_short 0 =
      ap (λ n. ups 0 + n + tgc 0) (longer_not b bus.sg_short bus.sg_long 0 (λ e. omega arith))
      ∙ ap (λ n. ups 0 + bus.sg_short 0 + n) (longer_not b bus.tg_short bus.tg_long 0 (λ e. omega arith)) in
      let first_by : x.moment ≤ ups 0 + bus.sg_short 0 + bus.tg_short 0 = elim (cases_lt (ups 0 + bus.sg_short 0 + bus.tg_short 0) x.moment) [
        | inr by ↦ by
        | inl far ↦
            let h : HasEntry course.list 0 (ups 0 + bus.sg_short 0 + bus.tg_short 0) =
            has_first bus bounds ups tgc sgc at_once messages H tg_in sg_in near self has 0 (ups 0 + bus.sg_short 0 + bus.tg_short 0) (omega arith) is_0 (omega arith)
            (λ z j own before. (let l : x.moment ≤ z.moment = least z j in omega arith)) (λ z j. (let l : x.moment ≤ z.moment = least z j in omega arith)) in
            let at : h.entry.moment ≡ ups 0 + bus.sg_short 0 + bus.tg_short 0 = h.moment in
            let l : x.moment ≤ h.entry.moment = least h.entry h.there in
            absurd (omega arith)
      ] in
      let rest : InRounds (among bus) course 1 (end_of x) ys =
      subst (λ n. InRounds (among bus) course n (end_of x) ys) (next_is bus.senders 0 (omega arith)) rounds.3 in
      let p : Soon (end_of x) ys = find ys (end_of x) 1 (omega arith) (omega arith) rest (omega arith) (λ z j. subst (In z) (sym is) (inr j))
      (λ z j own. elim (subst (In z) is j) [
        | inl same ↦ (let e : z.sender ≡ x.sender = ap (λ (w : Entry). w.sender) same in absurd (omega arith))
        | inr k ↦ k
      ]) in
      let there : In p.z course.list = subst (In p.z) (sym is) (inr p.there) in
      let s : MayStart course b p.z.moment =
      subst (λ k. MayStart course k p.z.moment) p.of_b (may bus bounds ups tgc sgc at_once messages H tg_in sg_in near self has p.z there) in
      let from : ups b ≤ s.synced.from = elim s.synced.begins [ inl is ↦ omega arith | inr q ↦ (let l : ups b < s.synced.from = q.0 in omega arith) ] in
      let long : sgc b ≡ bus.sg_long b = longer_is b bus.sg_short bus.sg_long in
      let elapsed : s.synced.from + sgc b ≡ s.sync = s.synced.elapsed in
      let low : s.sync ≤ s.from = elim s.begins [ inl same ↦ omega arith | inr q ↦ (let l : s.sync < s.from = q.0 in omega arith) ] in
      let terminal : s.from + tgc b ≤ p.z.moment = s.terminal in
      let fast : bus.tg_long b + bus.delay < bus.sg_long b = quick b behind known in
      let before : (y : Entry) → In y course.list → y.moment < s.sync → end_of y + bus.sg_long b ≤ s.sync = λ y j sooner.
      (let long_y : 0 < y.length = some bus bounds ups tgc sgc at_once messages H tg_in sg_in near self has y j in
      elim (cases_lt y.moment s.synced.from) [
        | inr inside ↦ absurd (loud bus bounds ups tgc sgc at_once messages H tg_in sg_in near self has b s.synced.from s.sync y.moment y s.synced.quiet j inside sooner (omega arith) (omega arith))
        | inl early ↦ elim (cases_lt s.synced.from (end_of y)) [
          | inr over ↦ omega arith
          | inl on ↦ absurd (loud bus bounds ups tgc sgc at_once messages H tg_in sg_in near self has b s.synced.from s.sync s.synced.from y s.synced.quiet j (omega arith) (omega arith) (omega arith) (omega arith))
        ]
      ]) in
      let bad : p.z.moment < s.sync = p.below s.sync (before x i (omega arith)) (λ y j sooner. before y (subst (In y) (sym is) (inr j)) sooner) in
      omega arith

pub sync_is_needed : SyncIsNeeded
sync_is_needed bus ups messages b bounds has behind known quick less = record {
  c = course bus ups messages b bounds has behind known quick less;
  course = fine bus ups messages b bounds has behind known quick less;
  cold = cold bus bounds ups (tgc bus ups messages b bounds has behind known quick less) (sgc bus ups messages b bounds has behind known quick less) (λ n x. 0) messages
      (H bus ups messages b bounds has behind known quick less) (tg_in bus ups messages b bounds has behind known quick less) (sg_in bus ups messages b bounds has behind known quick less)
      (near bus ups messages b bounds has behind known quick less) (self bus ups messages b bounds has behind known quick less) has;
  up = λ j. refl;
  even = λ j. refl;
  fails = λ rounds soon apart. fails bus ups messages b bounds has behind known quick less (course bus ups messages b bounds has behind known quick less).list refl rounds;
}

-- the first is powered up by the delay before all others
abbrev pub others_later : ℕ → ℕ → ℕ
others_later delay zero = 0
others_later delay (suc k) = delay

pub joining_is_needed : JoiningIsNeeded
joining_is_needed bus messages b bounds has behind known quick less = (
  others_later bus.delay,
  (λ j one. within bus.delay j),
  sync_is_needed bus (others_later bus.delay) messages b bounds has behind known quick (enough b behind less),
) where
  within : (delay j : ℕ) → (others_later delay 0 ≤ others_later delay j + delay) × (others_later delay j ≤ others_later delay 0 + delay)
  within delay zero = (omega arith, omega arith)
  within delay (suc j) = (omega arith, omega arith)

  enough : (j : ℕ) → 0 < j → bus.sg_short 0 + bus.tg_short 0 < bus.sg_long j + bus.delay
      → others_later bus.delay 0 + bus.sg_short 0 + bus.tg_short 0 < others_later bus.delay j + bus.sg_long j
  enough zero none room = absurd (omega arith)
  enough (suc j) more room = omega arith
