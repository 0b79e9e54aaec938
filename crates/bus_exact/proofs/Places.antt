-- The senders of a table by their places in turn order.
use Rattle.std.proofs.Common.{◌≡◌, ℕ, zero, suc, ◌+◌, ◌*◌, ◌<◌, ◌≤◌, cond, List, [], ◌∷◌, length, inl, inr, arith, sym, refl, ap, ◌∙◌, subst, eq-eqb, ne_eqb}
use Rattle.std.specs.Prelude.{◌≢◌, sum_by}
use Rattle.std.proofs.lemmas.List.Sums.{sum_by-cons}
use Rattle.bus_strings.specs.Members.{In}
use Rattle.bus_table.specs.Tables.{Sender}
use Rattle.bus_table.specs.inside.Orders.{Rises, Differ}
use Rattle.bus_table.proofs.TurnLaws.{behind_rises}
use Rattle.bus_clocks.specs.Buses.{sum_below}
use Rattle.bus_exact.specs.Exact.{value_at, place_of}

pub record Placed (l : List Sender) (b : Sender) (k : ℕ) : Type 0 where
  pub there : In b l
  pub known : k < length l
  pub is : place_of l b.number ≡ k
  pub has : (f : Sender → ℕ) → value_at f l k ≡ f b

place_here : (a : Sender) (l : List Sender) (n : ℕ) → a.number ≡ n → place_of (a ∷ l) n ≡ 0
place_here a l n same = ap (λ b. cond b 0 (suc (place_of l n))) (eq-eqb a.number n same)

place_there : (a : Sender) (l : List Sender) (n : ℕ) → a.number ≢ n → place_of (a ∷ l) n ≡ suc (place_of l n)
place_there a l n other = ap (λ b. cond b 0 (suc (place_of l n))) (ne_eqb a.number n other)

pub placed : (l : List Sender) → Differ (λ s. s.number) l → (b : Sender) → In b l → Placed l b (place_of l b.number)
placed [] d b i = absurd i
placed (a ∷ l) d b (inl same) =
    let zero_is : place_of (a ∷ l) b.number ≡ 0 = place_here a l b.number (ap (λ (s : Sender). s.number) (sym same)) in
    subst (Placed (a ∷ l) b) (sym zero_is) (record {
      there = inl same;
      known = (let p : 0 < suc (length l) = omega arith in p);
      is = zero_is;
      has = λ f. ap f (sym same);
    })
placed (a ∷ l) d b (inr i) =
    let rest : Placed l b (place_of l b.number) = placed l d.1 b i in
    let next_is : place_of (a ∷ l) b.number ≡ suc (place_of l b.number) = place_there a l b.number (d.0 b i) in
    let less : place_of l b.number < length l = rest.known in
    subst (Placed (a ∷ l) b) (sym next_is) (record {
      there = inr i;
      known = (let p : suc (place_of l b.number) < suc (length l) = omega arith in p);
      is = next_is;
      has = rest.has;
    })

pub at_place : (l : List Sender) → Differ (λ s. s.number) l → (k : ℕ) → k < length l → (b : Sender) × Placed l b k
at_place [] d k less = absurd (let p : k < 0 = less in omega arith)
at_place (a ∷ l) d zero less = (a, record { there = inl refl; known = less; is = place_here a l a.number refl; has = λ f. refl })
at_place (a ∷ l) d (suc k) less =
    let rest = at_place l d.1 k (let p : suc k < suc (length l) = less in omega arith) in (
      rest.0,
      record {
        there = inr rest.1.there;
        known = less;
        is = place_there a l rest.0.number (d.0 rest.0 rest.1.there) ∙ ap suc rest.1.is;
        has = rest.1.has;
      },
    )

pub rises_at : (f : Sender → ℕ) (l : List Sender) → Rises f l → (j k : ℕ) → j < k → k < length l → value_at f l j < value_at f l k
rises_at f [] r j k less known = absurd (let p : k < 0 = known in omega arith)
rises_at f (a ∷ l) r j zero less known = absurd (omega arith)
rises_at f (a ∷ l) r zero (suc k) less known =
    let b = one f l k (let p : suc k < suc (length l) = known in omega arith) in
    let low : f a < f b.0 = behind_rises f a l b.0 r.0 b.1 in
    let is : value_at f l k ≡ f b.0 = b.2 in
    (let p : f a < value_at f l k = omega arith in p)
  where
    one : (f : Sender → ℕ) (l : List Sender) (k : ℕ) → k < length l → (b : Sender) × In b l × (value_at f l k ≡ f b)
    one f [] k less = absurd (let p : k < 0 = less in omega arith)
    one f (a ∷ l) zero less = (a, inl refl, refl)
    one f (a ∷ l) (suc k) less = let r = one f l k (let p : suc k < suc (length l) = less in omega arith) in (r.0, inr r.1, r.2)
rises_at f (a ∷ l) r (suc j) (suc k) less known = rises_at f l r.1 j k (omega arith) (let p : suc k < suc (length l) = known in omega arith)

-- sums by places
sum_shift : (g : ℕ → ℕ) (n : ℕ) → sum_below g (suc n) ≡ g 0 + sum_below (λ k. g (suc k)) n
sum_shift g zero = omega arith
sum_shift g (suc n) = let e : sum_below g (suc n) ≡ g 0 + sum_below (λ k. g (suc k)) n = sum_shift g n in omega arith

pub sum_places : (d : ℕ) (f h : Sender → ℕ) (l : List Sender) → sum_below (λ k. d + value_at f l k + value_at h l k) (length l) ≡ length l * d + sum_by (λ s. f s + h s) l
sum_places d f h [] = omega arith
sum_places d f h (a ∷ l) =
    let one : sum_below (λ k. d + value_at f (a ∷ l) k + value_at h (a ∷ l) k) (suc (length l)) ≡ d + f a + h a + sum_below (λ k. d + value_at f l k + value_at h l k) (length l) =
    sum_shift (λ k. d + value_at f (a ∷ l) k + value_at h (a ∷ l) k) (length l) in
    let two : sum_below (λ k. d + value_at f l k + value_at h l k) (length l) ≡ length l * d + sum_by (λ s. f s + h s) l = sum_places d f h l in
    let three : sum_by (λ s. f s + h s) (a ∷ l) ≡ f a + h a + sum_by (λ s. f s + h s) l = sum_by-cons (λ s. f s + h s) a l in
    let four : suc (length l) * d ≡ length l * d + d = times_suc (length l) d in
    omega arith
  where
    times_suc : (n d : ℕ) → suc n * d ≡ n * d + d
    times_suc n d = grind arith

pub sum_two : (f h : Sender → ℕ) (l : List Sender) → sum_below (λ k. value_at f l k + value_at h l k) (length l) ≡ sum_by (λ s. f s + h s) l
sum_two f h [] = refl
sum_two f h (a ∷ l) =
    let first : sum_below (λ k. value_at f (a ∷ l) k + value_at h (a ∷ l) k) (suc (length l)) ≡ f a + h a + sum_below (λ k. value_at f l k + value_at h l k) (length l) =
    sum_shift (λ k. value_at f (a ∷ l) k + value_at h (a ∷ l) k) (length l) in
    let two : sum_below (λ k. value_at f l k + value_at h l k) (length l) ≡ sum_by (λ s. f s + h s) l = sum_two f h l in
    let three : sum_by (λ s. f s + h s) (a ∷ l) ≡ f a + h a + sum_by (λ s. f s + h s) l = sum_by-cons (λ s. f s + h s) a l in
    omega arith

pub value_behind : (f : Sender → ℕ) (l : List Sender) (k : ℕ) → length l ≤ k → value_at f l k ≡ 0
value_behind f [] k behind = refl
value_behind f (a ∷ l) zero behind = absurd (let p : suc (length l) ≤ 0 = behind in omega arith)
value_behind f (a ∷ l) (suc k) behind = value_behind f l k (let p : suc (length l) ≤ suc k = behind in omega arith)
