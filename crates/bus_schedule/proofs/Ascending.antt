-- The rounds of a periodic table ascend, also where its messages overlap: each interval has its own starts.
use Rattle.std.proofs.Common.{◌≡◌, ℕ, zero, suc, ◌+◌, ◌*◌, ◌<◌, ◌≤◌, List, [], ◌∷◌, ◌++◌, inl, inr, arith, refl, ap}
use Rattle.std.specs.List.{AllByRecursion}
use Rattle.std.proofs.lemmas.Bool.{cases_lt}
use Rattle.bus_strings.specs.Members.{In}
use Rattle.bus_strings.specs.Messages.{Message, Entry}
use Rattle.bus_strings.specs.Transmissions.{Precedes, IsOrdered, IsAscending}
use Rattle.bus_table.specs.declared.mode.Mode.TheVariants.{Periodic}
use Rattle.bus_table.specs.Tables.{Sender}
use Rattle.bus_table.specs.Turns.{turn_key}
use Rattle.bus_table.specs.inside.Orders.{Rises, RisesBehind}
use Rattle.bus_schedule.specs.Closed.{sends, offset_turns, offset_schedule}
use Rattle.bus_strings.proofs.MemberLaws.{in_append_cases, from_map}

all_append : (P : Entry → Type 0) (xs ys : List Entry) → AllByRecursion P xs → ((y : Entry) → In y ys → P y) → AllByRecursion P (xs ++ ys)
all_append P [] [] h k = tt
all_append P [] (y ∷ ys) h k = (k y (inl refl), all_append P [] ys tt (λ z i. k z (inr i)))
all_append P (x ∷ xs) ys h k = (h.0, all_append P xs ys h.1 k)

ordered_append : (R : Entry → Entry → Type 0) (xs ys : List Entry) → IsOrdered R xs → IsOrdered R ys → ((x y : Entry) → In x xs → In y ys → R x y)
    → IsOrdered R (xs ++ ys)
ordered_append R [] ys a b h = b
ordered_append R (x ∷ xs) ys a b h = (
  all_append (R x) xs ys a.0 (λ y i. h x y (inl refl) i),
  ordered_append R xs ys a.1 b (λ z y i j. h z y (inr i) j),
)

-- turns of one round, by offset and then number
before : (messages : ℕ → List Message) (round base : ℕ) (a b : Sender) → a.number ≤ 128 → b.number ≤ 128 → turn_key Periodic a < turn_key Periodic b
    → Precedes (sends messages round a (base + a.at)) (sends messages round b (base + b.at))
before messages round base a b p q less =
    let k : 256 * a.at + a.number < 256 * b.at + b.number = less in
    elim (cases_lt a.at b.at) [
      | inl sooner ↦ inl (omega arith)
      | inr not ↦ inr (omega arith, omega arith)
    ]

behind_all : (messages : ℕ → List Message) (round base : ℕ) (a : Sender) (order : List Sender) → ((s : Sender) → In s (a ∷ order) → s.number ≤ 128)
    → RisesBehind (turn_key Periodic) a order → AllByRecursion (Precedes (sends messages round a (base + a.at))) (offset_turns messages round order base)
behind_all messages round base a [] few r = tt
behind_all messages round base a (b ∷ order) few r = (
  before messages round base a b (few a (inl refl)) (few b (inr (inl refl))) r.0,
  behind_all messages round base a order (λ s i. elim i [ inl e ↦ few s (inl e) | inr j ↦ few s (inr (inr j)) ]) r.1,
)

offset_turns_ascend : (messages : ℕ → List Message) (round base : ℕ) (order : List Sender) → ((s : Sender) → In s order → s.number ≤ 128)
    → Rises (turn_key Periodic) order → IsAscending (offset_turns messages round order base)
offset_turns_ascend messages round base [] few r = tt
offset_turns_ascend messages round base (a ∷ order) few r = (
  behind_all messages round base a order few r.0,
  offset_turns_ascend messages round base order (λ s i. few s (inr i)) r.1,
)

more_intervals : (n ti : ℕ) → suc n * ti ≡ n * ti + ti
more_intervals n ti = grind arith

turn_between : (messages : ℕ → List Message) (round base ti : ℕ) (order : List Sender) (x : Entry) → ((s : Sender) → In s order → s.at < ti)
    → In x (offset_turns messages round order base) → (base ≤ x.moment) × (x.moment < base + ti)
turn_between messages round base ti order x below i =
    let f = from_map (λ (s : Sender). sends messages round s (base + s.at)) order x i in
    let e : base + f.0.at ≡ x.moment = ap (λ (z : Entry). z.moment) f.2 in
    let k : f.0.at < ti = below f.0 f.1 in
    (omega arith, omega arith)

module _ (messages : ℕ → List Message) (ti : ℕ) (order : List Sender) (below : (s : Sender) → In s order → s.at < ti) where
  started : (n : ℕ) (x : Entry) → In x (offset_schedule messages ti order n) → x.moment < n * ti
  started zero x i = absurd i
  started (suc n) x i =
      elim (in_append_cases (offset_schedule messages ti order n) (offset_turns messages n order (n * ti)) x i) [
        | inl old ↦ omega (arith, started n x old, more_intervals n ti)
        | inr now ↦ let b = turn_between messages n (n * ti) ti order x below now in omega (arith, b.1, more_intervals n ti)
      ]

  pub offset_schedule_ascends : (n : ℕ) → ((s : Sender) → In s order → s.number ≤ 128) → Rises (turn_key Periodic) order
      → IsAscending (offset_schedule messages ti order n)
  offset_schedule_ascends zero few r = tt
  offset_schedule_ascends (suc n) few r =
      ordered_append Precedes (offset_schedule messages ti order n) (offset_turns messages n order (n * ti)) (offset_schedule_ascends n few r)
      (offset_turns_ascend messages n (n * ti) order few r)
      (λ x y i j.
      let a : x.moment < n * ti = started n x i in
      let b = turn_between messages n (n * ti) ti order y below j in
      inl (omega (arith, b.0)))
