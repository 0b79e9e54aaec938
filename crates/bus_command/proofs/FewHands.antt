-- The hands that items give have no more messages each than there are items.
use Rattle.std.specs.Prelude.{◌≡◌, ℕ, ◌≤◌, true, false, ◌==◌, List, [], ◌∷◌, length, map, filter, Result, Ok, Err}
use Rattle.std.specs.List.{AllByRecursion}
use Rattle.std.proofs.Common.{arith, cond, refl, subst}
use Rattle.std.proofs.lemmas.List.{length-map}
use Rattle.bus_text.specs.AllOf.{◌>>=◌}
use Rattle.bus_text.specs.Refusals.{Refusal}
use Rattle.bus_strings.specs.Items.{Item}
use Rattle.bus_strings.specs.Reading.{messages_reading}
use Rattle.bus_table.specs.declared.fit.FitError.{FitError}
use Rattle.bus_hands.specs.Dealt.{items_or_error, hands_or_error, hands_reading}
use Rattle.bus_table.specs.Fits.{items_fit}
use Rattle.bus_table.specs.Tables.{Sender, Hand, Table}
use Rattle.bus_table.specs.Hands.{message_of, items_of, hand_of, hands_of}
use Rattle.bus_command.specs.Readers.{text_limit}

abbrev pub AreFew : List Hand → Type 0
AreFew hands = AllByRecursion (λ hand. length hand.messages ≤ text_limit) hands

length_kept : (p : Item → _) (items : List Item) → length (filter p items) ≤ length items
length_kept p [] = omega arith
length_kept p (item ∷ items) =
    elim (p item) as (λ b. length (cond b (item ∷ filter p items) (filter p items)) ≤ length (item ∷ items)) [ true ↦ omega (arith, length_kept p items) | false ↦ omega (arith, length_kept p items) ]

hand_few : (items : List Item) (sender : Sender) → length (hand_of items sender).messages ≤ length items
hand_few items sender = omega (arith, length-map (items_of sender.number items) (λ (item : Item). message_of sender.sends item.strings), length_kept (λ item. item.terminal == sender.number) items)

pub hands_few : (items : List Item) (senders : List Sender) → length items ≤ text_limit → AreFew (map (hand_of items) senders)
hands_few items [] short = tt
hands_few items (sender ∷ senders) short = (omega (arith, hand_few items sender), hands_few items senders short)

given : (fit : Result (Unit {0}) FitError) (hands made : List Hand) → hands_or_error fit made ≡ Ok hands → made ≡ hands
given (Ok u) hands made h = cc
given (Err error) hands made h = absurd cc

-- A text gives a hand no more messages than it has bytes.
pub read_few : ((text : List ℕ) (items : List Item) → messages_reading text ≡ Ok items → length items ≤ length text)
    → (table : Table) (text : List ℕ) (hands : List Hand) → length text ≤ text_limit → hands_reading table text ≡ Ok hands → AreFew hands
read_few few table text hands short h = by (messages_reading text) refl h where
  by : (reading : Result (List Item) Refusal) → messages_reading text ≡ reading
      → (items_or_error reading >>= λ items. hands_or_error (items_fit table items) (hands_of table items)) ≡ Ok hands → AreFew hands
  by (Ok items) e k =
      subst AreFew (given (items_fit table items) hands (hands_of table items) k) (hands_few items table.senders (omega (arith, few text items e, short)))
  by (Err refusal) e k = absurd cc
