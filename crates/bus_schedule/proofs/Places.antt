-- Which transmission stands at which place of rounds that lie one after the other.
use Rattle.std.proofs.Common.{◌≡◌, ℕ, zero, suc, ◌+◌, ◌-◌, ◌*◌, ◌<◌, ◌≤◌, List, [], ◌∷◌, ◌++◌, length, Some, None, inl, inr, arith, sym, refl, ap, ◌∙◌, subst}
use Rattle.std.specs.Prelude.{slice_get}
use Rattle.std.proofs.lemmas.Bool.{cases_lt}
use Rattle.std.proofs.lemmas.List.{length-append, length-map}
use Rattle.std.proofs.lemmas.Option.{slice_get_within}
use Rattle.bus_strings.specs.Messages.{Message, Entry}
use Rattle.bus_strings.specs.Transmissions.{end_of}
use Rattle.bus_strings.proofs.ListLaws.{get_left}
use Rattle.bus_table.specs.Tables.{Sender}
use Rattle.bus_schedule.specs.Closed.{sends, turns, offset_turns, in_rounds}

pub get_right : {X : Type 0} → (xs ys : List X) (n j : ℕ) → length xs ≡ n → slice_get (xs ++ ys) (n + j) ≡ slice_get ys j
get_right [] ys n j e = ap (slice_get ys) (omega (arith, e))
get_right (x ∷ xs) ys zero j e = absurd (let k : suc (length xs) ≡ 0 = e in omega arith)
get_right (x ∷ xs) ys (suc n) j e = ap (slice_get (x ∷ (xs ++ ys))) (let k : suc n + j ≡ suc (n + j) = omega arith in k) ∙ get_right xs ys n j (let k : suc (length xs) ≡ suc n = e in omega arith)

-- the list has one turn of each sender of the order, which sends its message of the round
pub record IsRound (messages : ℕ → List Message) (round : ℕ) (order : List Sender) (list : List Entry) : Type 0 where
  pub whole : length list ≡ length order
  pub turn : (place : ℕ) (sender : Sender) → slice_get order place ≡ Some sender
      → (moment : ℕ) × (slice_get list place ≡ Some (sends messages round sender moment))

length-turns : (messages : ℕ → List Message) (round : ℕ) (order : List Sender) (from : ℕ) → length (turns messages round order from) ≡ length order
length-turns messages round [] from = refl
length-turns messages round (sender ∷ order) from = ap suc (length-turns messages round order (end_of (sends messages round sender (from + sender.tg))))

turns_at : (messages : ℕ → List Message) (round : ℕ) (order : List Sender) (from turn : ℕ) (sender : Sender) → slice_get order turn ≡ Some sender
    → (moment : ℕ) × (slice_get (turns messages round order from) turn ≡ Some (sends messages round sender moment))
turns_at messages round [] from turn sender h = absurd (let k : None ≡ Some sender = h in cc)
turns_at messages round (a ∷ order) from zero sender h = let e : a ≡ sender = let k : Some a ≡ Some sender = h in cc in (from + a.tg, ap (λ s. Some (sends messages round s (from + a.tg))) e)
turns_at messages round (a ∷ order) from (suc turn) sender h = turns_at messages round order (end_of (sends messages round a (from + a.tg))) turn sender h

pub turns_are_round : (messages : ℕ → List Message) (round : ℕ) (order : List Sender) (from : ℕ) → IsRound messages round order (turns messages round order from)
turns_are_round messages round order from = record { whole = length-turns messages round order from; turn = λ place sender at. turns_at messages round order from place sender at }

-- where a sender's turn of a periodic round stands
pub offset_turn_at : (messages : ℕ → List Message) (round base : ℕ) (order : List Sender) (place : ℕ) (sender : Sender) → slice_get order place ≡ Some sender
    → slice_get (offset_turns messages round order base) place ≡ Some (sends messages round sender (base + sender.at))
offset_turn_at messages round base [] place sender h = absurd (let k : None ≡ Some sender = h in cc)
offset_turn_at messages round base (a ∷ order) zero sender h = let e : a ≡ sender = let k : Some a ≡ Some sender = h in cc in ap (λ (s : Sender). Some (sends messages round s (base + s.at))) e
offset_turn_at messages round base (a ∷ order) (suc place) sender h = offset_turn_at messages round base order place sender h

-- and whose turn stands at a place
pub offset_turn_is : (messages : ℕ → List Message) (round base : ℕ) (order : List Sender) (place : ℕ) (x : Entry) → slice_get (offset_turns messages round order base) place ≡ Some x
    → (sender : Sender) × (slice_get order place ≡ Some sender) × (sends messages round sender (base + sender.at) ≡ x)
offset_turn_is messages round base [] place x h = absurd (let k : None ≡ Some x = h in cc)
offset_turn_is messages round base (a ∷ order) zero x h = (a, refl, (let k : Some (sends messages round a (base + a.at)) ≡ Some x = h in cc))
offset_turn_is messages round base (a ∷ order) (suc place) x h = offset_turn_is messages round base order place x h

pub offset_turns_are_round : (messages : ℕ → List Message) (round base : ℕ) (order : List Sender) → IsRound messages round order (offset_turns messages round order base)
offset_turns_are_round messages round base order = record {
  whole = length-map order (λ (s : Sender). sends messages round s (base + s.at));
  turn = λ place sender at. (base + sender.at, offset_turn_at messages round base order place sender at);
}

pub more_turns : (n k : ℕ) → suc n * k ≡ n * k + k
more_turns n k = grind arith

turns_so_far : (r d k : ℕ) → (suc r + d) * k ≡ r * k + k + d * k
turns_so_far r d k = grind arith

turns_before : (r n k : ℕ) → r < n → r * k + k ≤ n * k
turns_before r n k h = grind (arith, turns_so_far r (n - suc r) k)

module _ (k : ℕ) (round : ℕ → List Entry) (long : (r : ℕ) → length (round r) ≡ k) where
  pub length-in_rounds : (n : ℕ) → length (in_rounds round n) ≡ n * k
  length-in_rounds zero = omega arith
  length-in_rounds (suc n) = length-append (in_rounds round n) (round n) ∙ omega (arith, length-in_rounds n, long n, more_turns n k)

  -- turn `turn` of round `r` stands at its place
  pub in_rounds_at : (n r turn : ℕ) (x : Entry) → r < n → slice_get (round r) turn ≡ Some x → slice_get (in_rounds round n) (r * k + turn) ≡ Some x
  in_rounds_at zero r turn x less at = absurd (omega arith)
  in_rounds_at (suc n) r turn x less at =
      let so_far : length (in_rounds round n) ≡ n * k = length-in_rounds n in
      let within : turn < length (round r) = slice_get_within (round r) turn x at in
      let count : length (round r) ≡ k = long r in
      elim (cases_lt r n) [
        | inl before ↦
            let low : r * k + k ≤ n * k = turns_before r n k before in
            get_left (in_rounds round n) (round n) (r * k + turn) (omega arith) ∙ in_rounds_at n r turn x before at
        | inr now ↦
            let same : n ≡ r = omega arith in
            subst (λ m. slice_get (in_rounds round m ++ round m) (r * k + turn) ≡ Some x) (sym same)
            (get_right (in_rounds round r) (round r) (r * k) turn (length-in_rounds r) ∙ at)
      ]

  -- and what stands there is that turn
  pub in_rounds_get : (n r turn : ℕ) (x : Entry) → turn < k → slice_get (in_rounds round n) (r * k + turn) ≡ Some x
      → (r < n) × (slice_get (round r) turn ≡ Some x)
  in_rounds_get zero r turn x inside at = absurd (let w : None ≡ Some x = at in cc)
  in_rounds_get (suc n) r turn x inside at =
      let so_far : length (in_rounds round n) ≡ n * k = length-in_rounds n in
      elim (cases_lt r n) [
        | inl before ↦
            let low : r * k + k ≤ n * k = turns_before r n k before in
            let w = in_rounds_get n r turn x inside (sym (get_left (in_rounds round n) (round n) (r * k + turn) (omega arith)) ∙ at) in
            (omega arith, w.1)
        | inr behind ↦
            let within : r * k + turn < length (in_rounds round (suc n)) = slice_get_within (in_rounds round (suc n)) (r * k + turn) x at in
            let both : length (in_rounds round (suc n)) ≡ suc n * k = length-in_rounds (suc n) in
            let one : suc n * k ≡ n * k + k = more_turns n k in
            elim (cases_lt n r) [
              | inl over ↦ let high : n * k + k ≤ r * k = turns_before n r k over in absurd (omega arith)
              | inr not_over ↦
                  let same : r ≡ n = omega arith in (
                    omega arith,
                    subst (λ m. slice_get (round m) turn ≡ Some x) (sym same)
                        (sym (get_right (in_rounds round n) (round n) (n * k) turn so_far)
                        ∙ ap (λ m. slice_get (in_rounds round (suc n)) (m * k + turn)) (sym same) ∙ at),
                  )
            ]
      ]
