-- Where the hand of a sender stands.
use Rattle.std.proofs.Common.{◌≡◌, ◌≢◌, ℕ, zero, suc, true, List, [], ◌∷◌, Some, sym, refl, ap, ◌∙◌}
use Rattle.std.specs.Prelude.{◌==◌, slice_get}
use Rattle.std.specs.List.{list_all}
use Rattle.std.proofs.lemmas.Bool.{and_parts, eqb-true, eq-eqb, ne_eqb, true≢false}
use Rattle.bus_strings.specs.Members.{In}
use Rattle.bus_table.specs.Tables.{Sender, Hand}
use Rattle.bus_table.specs.Fits.{fits}
use Rattle.bus_table.specs.Hands.{are_hands}
use Rattle.bus_table.specs.inside.Orders.{Differ}
use Rattle.bus_table.proofs.TurnLaws.{at_in}
use Rattle.bus_schedule.specs.Even.{messages_of}

pub hand_here : (hand : Hand) (hands : List Hand) (number : ℕ) → hand.terminal ≡ number → messages_of (hand ∷ hands) number ≡ hand.messages
hand_here hand hands number e = rw (eq-eqb hand.terminal number e) refl

pub hand_there : (hand : Hand) (hands : List Hand) (number : ℕ) → hand.terminal ≢ number
    → messages_of (hand ∷ hands) number ≡ messages_of hands number
hand_there hand hands number e = rw (ne_eqb hand.terminal number e) refl

-- the hand of the first sender isn't that of another
pub hand_of_other : (a : Sender) (senders : List Sender) (hand : Hand) (hands : List Hand) (b : Sender)
    → Differ (λ s. s.number) (a ∷ senders)
    → hand.terminal ≡ a.number → In b senders → messages_of (hand ∷ hands) b.number ≡ messages_of hands b.number
hand_of_other a senders hand hands b d same i = hand_there hand hands b.number (λ e. d.0 b i (sym same ∙ e))

-- the hand of a sender stands at the sender's place in the table
pub record HandAt (hands : List Hand) (k : ℕ) (sender : Sender) : Type 0 where
  pub hand : Hand
  pub at : slice_get hands k ≡ Some hand
  pub messages : messages_of hands sender.number ≡ hand.messages

pub hand_at : (senders : List Sender) (hands : List Hand) (k : ℕ) (sender : Sender) → Differ (λ s. s.number) senders
    → are_hands senders hands ≡ true → slice_get senders k ≡ Some sender → HandAt hands k sender
hand_at [] hands k sender d a at = absurd cc
hand_at (s ∷ senders) [] k sender d a at = absurd (true≢false (sym a))
hand_at (s ∷ senders) (hand ∷ hands) zero sender d a at =
    let same : s ≡ sender = cc in
    let one = and_parts (hand.terminal == s.number) _ a in
    let number : hand.terminal ≡ sender.number = eqb-true hand.terminal s.number one.0 ∙ ap (λ (w : Sender). w.number) same in
    record { hand = hand; at = refl; messages = hand_here hand hands sender.number number }
hand_at (s ∷ senders) (hand ∷ hands) (suc k) sender d a at =
    let one = and_parts (hand.terminal == s.number) _ a in
    let two = and_parts (list_all (fits s) hand.messages) _ one.1 in
    let number : hand.terminal ≡ s.number = eqb-true hand.terminal s.number one.0 in
    let there : HandAt hands k sender = hand_at senders hands k sender d.1 two.1 at in
    record {
      hand = there.hand;
      at = there.at;
      messages = hand_of_other s senders hand hands sender d number (at_in senders k sender at) ∙ there.messages;
    }
