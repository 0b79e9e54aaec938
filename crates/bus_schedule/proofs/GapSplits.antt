-- Where a gap stands among the gaps of an order.
use Rattle.std.proofs.Common.{◌≡◌, ℕ, ◌+◌, List, [], ◌∷◌, ◌++◌, inl, inr, sym, refl, ap, ◌∙◌}
use Rattle.bus_strings.specs.Members.{In}
use Rattle.bus_table.specs.Tables.{Sender}
use Rattle.bus_regime.specs.Gaps.{Gap, latest_end, gaps_from}
use Rattle.bus_schedule.proofs.GapLemmas.{final}

pub final_append : (ti from : ℕ) (xs ys : List Sender) → final ti from (xs ++ ys) ≡ final ti (final ti from xs) ys
final_append ti from [] ys = refl
final_append ti from (a ∷ xs) ys = final_append ti (ti + latest_end a) xs ys

-- where a gap stands among the gaps of an order
pub record GapAt (ti from : ℕ) (order : List Sender) (ahead : List Gap) (own : Gap) (behind : List Gap) : Type 0 where
  pub done : List Sender
  pub rest : List Sender
  pub split : order ≡ done ++ own.sender ∷ rest
  pub ahead_is : ahead ≡ gaps_from ti from done
  pub behind_is : behind ≡ gaps_from ti (ti + latest_end own.sender) rest
  pub from_is : own.from ≡ final ti from done
  pub to_is : own.to ≡ ti + own.sender.at

pub gap_split : (ti from : ℕ) (order : List Sender) (ahead : List Gap) (own : Gap) (behind : List Gap) → gaps_from ti from order ≡ ahead ++ own ∷ behind
    → GapAt ti from order ahead own behind
gap_split ti from [] [] own behind e = absurd cc
gap_split ti from [] (g ∷ ahead) own behind e = absurd cc
gap_split ti from (a ∷ order) [] own behind e =
    let here : record { sender = a; from = from; to = ti + a.at } ≡ own = cc in
    let tail : gaps_from ti (ti + latest_end a) order ≡ behind = cc in
    let s : a ≡ own.sender = ap (λ (g : Gap). g.sender) here in
    record {
      done = [];
      rest = order;
      split = ap (λ b. b ∷ order) s;
      ahead_is = refl;
      behind_is = sym tail ∙ ap (λ (b : Sender). gaps_from ti (ti + latest_end b) order) s;
      from_is = sym (ap (λ (g : Gap). g.from) here);
      to_is = sym (ap (λ (g : Gap). g.to) here) ∙ ap (λ (b : Sender). ti + b.at) s;
    }
gap_split ti from (a ∷ order) (g ∷ ahead) own behind e =
    let here : record { sender = a; from = from; to = ti + a.at } ≡ g = cc in
    let tail : gaps_from ti (ti + latest_end a) order ≡ ahead ++ own ∷ behind = cc in
    let w : GapAt ti (ti + latest_end a) order ahead own behind = gap_split ti (ti + latest_end a) order ahead own behind tail in
    record {
      done = a ∷ w.done;
      rest = w.rest;
      split = ap (λ o. a ∷ o) w.split;
      ahead_is = ap (λ gs. g ∷ gs) w.ahead_is ∙ ap (λ h. h ∷ gaps_from ti (ti + latest_end a) w.done) (sym here);
      behind_is = w.behind_is;
      from_is = w.from_is;
      to_is = w.to_is;
    }

-- the last of an order
pub last_sender : (ti from : ℕ) (a : Sender) (order : List Sender) → (b : Sender) × In b (a ∷ order) × (final ti from (a ∷ order) ≡ ti + latest_end b)
last_sender ti from a [] = (a, inl refl, refl)
last_sender ti from a (c ∷ order) = let w = last_sender ti (ti + latest_end a) c order in (w.0, inr w.1, w.2)
