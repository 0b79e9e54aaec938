-- In rounds from the beginning each transmission has its place in the list.
use Rattle.std.proofs.Common.{◌≡◌, ℕ, zero, suc, ◌+◌, ◌*◌, ◌<◌, ◌≤◌, Bool, true, false, ◌&&◌, cond, eqb, ltb, List, [], ◌∷◌, ◌++◌, length, Some, inl, inr, arith, sym, refl, ap, ◌∙◌, subst, eq-eqb, ne_eqb, lt-ltb}
use Rattle.std.specs.Prelude.{slice_get}
use Rattle.std.proofs.lemmas.Option.{none-some, same_Some}
use Rattle.std.proofs.lemmas.Bool.{cases_lt, cases_eq, cases_Bool}
use Rattle.bus_clocks.specs.Buses.{Bus}
use Rattle.bus_clocks.specs.Entries.{Entry, In, IsAscending, end_of, own}
use Rattle.bus_clocks.specs.Courses.{Course}
use Rattle.bus_clocks.specs.Rounds.{InRounds, earliest, next}
use Rattle.bus_clocks.proofs.Hands.{count}
use Rattle.bus_clocks.proofs.Lists.{in_push, moved, own_early, sooner_false}
use Rattle.bus_clocks.proofs.Turns.{first_least}

abbrev one_if : Bool → ℕ
one_if true = 1
one_if false = 0

-- how many of these are sender k's
abbrev tally : ℕ → List Entry → ℕ
tally k [] = 0
tally k (x ∷ l) = one_if (eqb x.sender k) + tally k l

more_turns : (n k : ℕ) → suc n * k ≡ n * k + k
more_turns n k = grind arith

no_turns : (n : ℕ) → 0 * n ≡ 0
no_turns n = grind arith

all_own : (l : List Entry) (k t : ℕ) → ((x : Entry) → In x l → x.moment < t) → length (own l k t) ≡ tally k l
all_own [] k t early = refl
all_own (x ∷ l) k t early =
    let rest : length (own l k t) ≡ tally k l = all_own l k t (λ y i. early y (inr i)) in
    let one : length (own (x ∷ l) k t) ≡ cond (eqb x.sender k && true) (suc (length (own l k t))) (length (own l k t)) =
    count (eqb x.sender k && ltb x.moment t) x (own l k t) ∙ ap (λ b. cond (eqb x.sender k && b) (suc (length (own l k t))) (length (own l k t))) (lt-ltb x.moment t (early x (inl refl))) in
    elim (cases_Bool (eqb x.sender k)) [
      | inl yes' ↦
          let two : cond (eqb x.sender k && true) (suc (length (own l k t))) (length (own l k t)) ≡ suc (length (own l k t)) =
          ap (λ b. cond (b && true) (suc (length (own l k t))) (length (own l k t))) yes' in
          let three : one_if (eqb x.sender k) ≡ 1 = ap one_if yes' in
          omega arith
      | inr no' ↦
          let two : cond (eqb x.sender k && true) (suc (length (own l k t))) (length (own l k t)) ≡ length (own l k t) =
          ap (λ b. cond (b && true) (suc (length (own l k t))) (length (own l k t))) no' in
          let three : one_if (eqb x.sender k) ≡ 0 = ap one_if no' in
          omega arith
    ]

tally_push : (k : ℕ) (l : List Entry) (y : Entry) → tally k (l ++ y ∷ []) ≡ tally k l + one_if (eqb y.sender k)
tally_push k [] y = (let goal : one_if (eqb y.sender k) + 0 ≡ 0 + one_if (eqb y.sender k) = omega arith in goal)
tally_push k (x ∷ l) y = (let rest : tally k (l ++ y ∷ []) ≡ tally k l + one_if (eqb y.sender k) = tally_push k l y in
    let goal : one_if (eqb x.sender k) + tally k (l ++ y ∷ []) ≡ one_if (eqb x.sender k) + tally k l + one_if (eqb y.sender k) = omega arith in goal)

tally_mine : (k : ℕ) (l : List Entry) (y : Entry) → y.sender ≡ k → tally k (l ++ y ∷ []) ≡ suc (tally k l)
tally_mine k l y mine =
    let e : one_if (eqb y.sender k) ≡ 1 = ap one_if (eq-eqb y.sender k mine) in
    let f : tally k (l ++ y ∷ []) ≡ tally k l + one_if (eqb y.sender k) = tally_push k l y in
    omega arith

tally_other : (k : ℕ) (l : List Entry) (y : Entry) → (y.sender ≡ k → ⊥) → tally k (l ++ y ∷ []) ≡ tally k l
tally_other k l y other =
    let e : one_if (eqb y.sender k) ≡ 0 = ap one_if (ne_eqb y.sender k other) in
    let f : tally k (l ++ y ∷ []) ≡ tally k l + one_if (eqb y.sender k) = tally_push k l y in
    omega arith

-- a number has one quotient and one rest
one_rest : (n r q a j : ℕ) → a < n → j < n → r * n + a ≡ q * n + j → (r ≡ q) × (a ≡ j)
one_rest n zero zero a j low high same = (
  refl,
  (let zero_n : 0 * n ≡ 0 = no_turns n in omega arith),
)
one_rest n (suc r) (suc q) a j low high same =
    let one : suc r * n ≡ r * n + n = more_turns r n in
    let two : suc q * n ≡ q * n + n = more_turns q n in
    let p = one_rest n r q a j low high (omega arith) in
    (ap suc p.0, p.1)
one_rest n zero (suc q) a j low high same =
    let two : suc q * n ≡ q * n + n = more_turns q n in
    let zero_n : 0 * n ≡ 0 = no_turns n in
    absurd (omega arith)
one_rest n (suc r) zero a j low high same =
    let one : suc r * n ≡ r * n + n = more_turns r n in
    let zero_n : 0 * n ≡ 0 = no_turns n in
    absurd (omega arith)

module _ (bus : Bus) (c : Course) (some : 0 < bus.senders) where
  later : (a v : ℕ) (y : Entry) → earliest bus a v ≤ y.moment → v ≤ y.moment
  later zero v y low = (let l : v + bus.sg_short 0 + bus.tg_short 0 ≤ y.moment = low in omega arith)
  later (suc a) v y low = (let l : v + bus.tg_short (suc a) ≤ y.moment = low in omega arith)

  -- at place a of round r, where all of `pre` began before moment v
  record At (a r v : ℕ) (pre : List Entry) : Type 0 where
    known : a < bus.senders
    spoke : (k : ℕ) → k < a → tally k pre ≡ suc r
    yet : (k : ℕ) → a ≤ k → k < bus.senders → tally k pre ≡ r
    early : (x : Entry) → In x pre → x.moment < v

  -- the entry at place n of what follows
  record Placed (list : List Entry) (a r n : ℕ) (x : Entry) : Type 0 where
    q : ℕ
    j : ℕ
    known : j < bus.senders
    at : r * bus.senders + a + n ≡ q * bus.senders + j
    sender : x.sender ≡ j
    message : length (own list j x.moment) ≡ q

  next_at : (a r v : ℕ) (pre : List Entry) (y : Entry) → At a r v pre → y.sender ≡ a → v ≤ y.moment → 0 < y.length
      → (b : ℕ) × (s : ℕ) × (next bus.senders a ≡ b) × (s * bus.senders + b ≡ r * bus.senders + a + 1) × At b s (end_of y) (pre ++ y ∷ [])
  next_at a r v pre y s mine from long =
      let early : (x : Entry) → In x (pre ++ y ∷ []) → x.moment < end_of y = λ x i. elim (in_push pre y x i) [
        | inl old ↦ (let e : x.moment < v = s.early x old in omega arith)
        | inr same ↦ (let e : x.moment ≡ y.moment = ap (λ (z : Entry). z.moment) same in omega arith)
      ] in
      let known : a < bus.senders = s.known in
      elim (cases_lt (suc a) bus.senders) [
        | inl more ↦ (
          suc a,
          r,
          ap (λ b. cond b (suc a) 0) (lt-ltb (suc a) bus.senders more),
          omega arith,
          record {
            known = more;
            spoke = λ k less. elim (cases_eq k a) [
              | inl is ↦ tally_mine k pre y (mine ∙ sym is) ∙ ap suc (s.yet k (omega arith) (omega arith))
              | inr other ↦ tally_other k pre y (λ e. other (sym e ∙ mine)) ∙ s.spoke k (omega arith)
            ];
            yet = λ k low high. tally_other k pre y (λ e. (let f : k ≡ a = sym e ∙ mine in omega arith)) ∙ s.yet k (omega arith) high;
            early = early;
          },
        )
        | inr last ↦ (
          0,
          suc r,
          ap (λ b. cond b (suc a) 0) (sooner_false (suc a) bus.senders last),
          (let step : suc r * bus.senders ≡ r * bus.senders + bus.senders = more_turns r bus.senders in omega arith),
          record {
            known = some;
            spoke = λ k less. absurd (omega arith);
            yet = λ k low high. elim (cases_eq k a) [
              | inl is ↦ tally_mine k pre y (mine ∙ sym is) ∙ ap suc (s.yet k (omega arith) high)
              | inr other ↦ tally_other k pre y (λ e. other (sym e ∙ mine)) ∙ s.spoke k (omega arith)
            ];
            early = early;
          },
        )
      ]

  place : (ys pre : List Entry) (a r v n : ℕ) (x : Entry) → At a r v pre → IsAscending ys → InRounds bus c a v ys → ((y : Entry) → In y ys → 0 < y.length)
      → slice_get ys n ≡ Some x → Placed (pre ++ ys) a r n x
  place [] pre a r v n x s up rounds long h = absurd (none-some x h)
  place (y ∷ ys) pre a r v zero x s up rounds long h =
      let same : y ≡ x = same_Some y x h in
      let mine : y.sender ≡ a = rounds.0 in
      let from : v ≤ y.moment = later a v y rounds.1 in
      let none : own (pre ++ y ∷ ys) a y.moment ≡ own pre a y.moment = own_early pre (y ∷ ys) a y.moment (first_least y ys up) in
      let all : length (own pre a y.moment) ≡ tally a pre = all_own pre a y.moment (λ z i. (let e : z.moment < v = s.early z i in omega arith)) in
      let sent : length (own (pre ++ y ∷ ys) a y.moment) ≡ r = ap (λ l. length l) none ∙ all ∙ s.yet a (omega arith) s.known in
      record {
        q = r;
        j = a;
        known = s.known;
        at = omega arith;
        sender = ap (λ (z : Entry). z.sender) (sym same) ∙ mine;
        message = subst (λ (z : Entry). length (own (pre ++ y ∷ ys) a z.moment) ≡ r) same sent;
      }
  place (y ∷ ys) pre a r v (suc n) x s up rounds long h =
      let from : v ≤ y.moment = later a v y rounds.1 in
      let w = next_at a r v pre y s rounds.0 from (long y (inl refl)) in
      let rest : InRounds bus c w.0 (end_of y) ys = subst (λ b. InRounds bus c b (end_of y) ys) w.2 rounds.3 in
      let p : Placed ((pre ++ y ∷ []) ++ ys) w.0 w.1 n x = place ys (pre ++ y ∷ []) w.0 w.1 (end_of y) n x w.4 up.1 rest (λ z i. long z (inr i)) h in
      let step : w.1 * bus.senders + w.0 ≡ r * bus.senders + a + 1 = w.3 in
      let at : w.1 * bus.senders + w.0 + n ≡ p.q * bus.senders + p.j = p.at in
      record {
        q = p.q;
        j = p.j;
        known = p.known;
        at = omega arith;
        sender = p.sender;
        message = subst (λ l. length (own l p.j x.moment) ≡ p.q) (sym (moved pre y ys)) p.message;
      }

  pub placed : (ys : List Entry) (v : ℕ) → IsAscending ys → InRounds bus c 0 v ys → ((y : Entry) → In y ys → 0 < y.length)
      → (r j : ℕ) (x : Entry) → j < bus.senders → slice_get ys (r * bus.senders + j) ≡ Some x → (x.sender ≡ j) × (length (own ys j x.moment) ≡ r)
  placed ys v up rounds long r j x known h =
      let p : Placed ([] ++ ys) 0 0 (r * bus.senders + j) x = place ys [] 0 0 v (r * bus.senders + j) x (record {
        known = some;
        spoke = λ k less. absurd (omega arith);
        yet = λ k low high. refl;
        early = λ z i. absurd i;
      }) up rounds long h in
      let at : 0 * bus.senders + 0 + (r * bus.senders + j) ≡ p.q * bus.senders + p.j = p.at in
      let is = one_rest bus.senders r p.q j p.j known p.known (omega arith) in
      (p.sender ∙ sym is.1, subst (λ k. length (own ys k x.moment) ≡ r) (sym is.1) (p.message ∙ sym is.0))
