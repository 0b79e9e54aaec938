-- Who takes a SEND line: senders, then listeners.
use Rattle.std.proofs.Common.{◌≡◌, ℕ, Bool, true, false, ◌||◌, List, [], ◌∷◌, map, refl, ap, sym, ◌∙◌}
use Rattle.std.specs.List.{list_any}
use Rattle.std.proofs.lemmas.List.Folds.{list_any-append}
use Rattle.bus_table.specs.declared.line.SendLine.{SendLine}
use Rattle.bus_table.specs.Tables.{Table}
use Rattle.bus_filter.specs.Received.{sender_taker, listener_taker}
use Rattle.bus_feeds.specs.Feeds.{takes_from, sender_takes, listener_takes, is_taken}

any_map : {X Y : Type 0} (p : Y → Bool) (f : X → Y) (xs : List X) → list_any p (map f xs) ≡ list_any (λ x. p (f x)) xs
any_map p f [] = refl
any_map p f (x ∷ xs) = ap (λ b. p (f x) || b) (any_map p f xs)

taken_parts : (table : Table) (number : ℕ) (send : SendLine)
    → is_taken table number send ≡ (list_any (sender_takes number send) table.senders || list_any (listener_takes number send) table.listeners)
taken_parts table number send =
    list_any-append (takes_from number send) (map sender_taker table.senders) (map listener_taker table.listeners)
    ∙ ap (λ b. b || list_any (takes_from number send) (map listener_taker table.listeners)) (any_map (takes_from number send) sender_taker table.senders)
    ∙ ap (λ b. list_any (sender_takes number send) table.senders || b) (any_map (takes_from number send) listener_taker table.listeners)

-- the answer where a sender takes it, and where none does
pub with_sender : (table : Table) (number : ℕ) (send : SendLine) (r : Bool) → r ≡ list_any (sender_takes number send) table.senders → r ≡ true → r ≡ is_taken table number send
with_sender table number send r e t =
    t ∙ sym (taken_parts table number send ∙ ap (λ b. b || list_any (listener_takes number send) table.listeners) (sym e ∙ t))

pub with_listeners : (table : Table) (number : ℕ) (send : SendLine) (q r : Bool) → q ≡ list_any (sender_takes number send) table.senders → q ≡ false → r ≡ list_any (listener_takes number send) table.listeners
    → r ≡ is_taken table number send
with_listeners table number send q r e f l =
    l ∙ sym (taken_parts table number send ∙ ap (λ b. b || list_any (listener_takes number send) table.listeners) (sym e ∙ f))
