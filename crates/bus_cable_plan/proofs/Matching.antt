-- Gaps before the senders of an order: what holds of the one list holds of the other.
use Rattle.std.proofs.Common.{◌≡◌, ℕ, ◌+◌, List, [], ◌∷◌, ◌++◌, inl, inr, arith, refl, sym, ap, ◌∙◌, subst}
use Rattle.std.specs.List.{sum_by}
use Rattle.std.proofs.lemmas.List.Sums.{sum_by-cons}
use Rattle.bus_strings.specs.Members.{In}
use Rattle.bus_table.specs.Tables.{Sender}
use Rattle.bus_table.specs.inside.Orders.{Differ}
use Rattle.bus_regime.specs.Gaps.{Gap, latest_end, gaps_from}
use Rattle.bus_cable_plan.specs.inside.Lists.{Apart, want, wants, IsNext}
use Rattle.bus_cable_plan.specs.inside.Orders.{AreOf, IsBefore}

pub of_gaps : (ti from : ℕ) (order : List Sender) → AreOf (gaps_from ti from order) order
of_gaps ti from [] = tt
of_gaps ti from (s ∷ order) = (refl, refl, of_gaps ti (ti + latest_end s) order)

pub of_in : (gs : List Gap) (ss : List Sender) → AreOf gs ss → (s : Sender) → In s ss
    → (g : Gap) × In g gs × (g.sender.tg ≡ s.tg) × (g.sender.number ≡ s.number)
of_in [] [] h s i = absurd i
of_in [] (t ∷ ss) h s i = absurd h
of_in (g ∷ gs) [] h s i = absurd i
of_in (g ∷ gs) (t ∷ ss) h s (inl e) =
    (g, inl refl, h.0 ∙ ap (λ (x : Sender). x.tg) (sym e), h.1 ∙ ap (λ (x : Sender). x.number) (sym e))
of_in (g ∷ gs) (t ∷ ss) h s (inr i) = let w = of_in gs ss h.2 s i in (w.0, inr w.1, w.2, w.3)

pub from_of : (gs : List Gap) (ss : List Sender) → AreOf gs ss → (g : Gap) → In g gs
    → (s : Sender) × In s ss × (g.sender.tg ≡ s.tg) × (g.sender.number ≡ s.number)
from_of [] ss h g i = absurd i
from_of (x ∷ gs) [] h g i = absurd h
from_of (x ∷ gs) (t ∷ ss) h g (inl e) =
    (t, inl refl, ap (λ (y : Gap). y.sender.tg) e ∙ h.0, ap (λ (y : Gap). y.sender.number) e ∙ h.1)
from_of (x ∷ gs) (t ∷ ss) h g (inr i) = let w = from_of gs ss h.2 g i in (w.0, inr w.1, w.2, w.3)

pub of_apart : (gs : List Gap) (ss : List Sender) → AreOf gs ss → Differ (λ s. s.number) ss → Apart gs
of_apart [] ss h d = tt
of_apart (g ∷ gs) [] h d = absurd h
of_apart (g ∷ gs) (s ∷ ss) h d = (
  (λ x i same. (let w = from_of gs ss h.2 x i in d.0 w.0 w.1 (sym h.1 ∙ same ∙ w.3))),
  of_apart gs ss h.2 d.1,
)

pub of_wants : (d sg : ℕ) (gs : List Gap) (ss : List Sender) → AreOf gs ss → wants d sg gs ≡ sum_by (want d sg) ss
of_wants d sg [] [] h = refl
of_wants d sg [] (s ∷ ss) h = absurd h
of_wants d sg (g ∷ gs) [] h = absurd h
of_wants d sg (g ∷ gs) (s ∷ ss) h =
    let rest = of_wants d sg gs ss h.2 in
    let tg = h.0 in
    let one = sum_by-cons (want d sg) s ss in
    omega (arith, rest, tg, one)

-- ---- neighbours
of_cut : (gs : List Gap) (x : List Sender) (f : Sender) (y : List Sender) → AreOf gs (x ++ f ∷ y)
    → (xs : List Gap) × (g : Gap) × (ys : List Gap) × (gs ≡ xs ++ g ∷ ys) × (g.sender.tg ≡ f.tg) × (g.sender.number ≡ f.number) × AreOf ys y
of_cut [] [] f y h = absurd h
of_cut [] (s ∷ x) f y h = absurd h
of_cut (g ∷ gs) [] f y h = ([], g, gs, refl, h.0, h.1, h.2)
of_cut (g ∷ gs) (s ∷ x) f y h = let w = of_cut gs x f y h.2 in (g ∷ w.0, w.1, w.2, ap (λ l. g ∷ l) w.3, w.4, w.5, w.6)

-- the gaps before neighbours are next to each other
pub record AreNext (gs : List Gap) (f g : Sender) : Type 0 where
  pub first : Gap
  pub second : Gap
  pub first_in : In first gs
  pub next : IsNext first second gs
  pub first_tg : first.sender.tg ≡ f.tg
  pub second_tg : second.sender.tg ≡ g.tg

at_split : (xs : List Gap) (g : Gap) (ys gs : List Gap) → gs ≡ xs ++ g ∷ ys → In g gs
at_split xs g ys gs e = subst (λ l. In g l) (sym e) (there xs) where
  there : (l : List Gap) → In g (l ++ g ∷ ys)
  there [] = inl refl
  there (z ∷ l) = inr (there l)

pub of_next : (gs : List Gap) (order : List Sender) → AreOf gs order → (f g : Sender) → IsBefore f g order → AreNext gs f g
of_next gs order h f g (inl n) = two (of_cut gs n.0 f (g ∷ n.1) (subst (AreOf gs) n.2 h)) where
  two : ((xs : List Gap) × (a : Gap) × (ys : List Gap) × (gs ≡ xs ++ a ∷ ys) × (a.sender.tg ≡ f.tg) × (a.sender.number ≡ f.number) × AreOf ys (g ∷ n.1))
      → AreNext gs f g
  two w = at w.2 w.6 w.3 where
    at : (ys : List Gap) → AreOf ys (g ∷ n.1) → gs ≡ w.0 ++ w.1 ∷ ys → AreNext gs f g
    at [] k e = absurd k
    at (b ∷ ys) k e = record {
      first = w.1;
      second = b;
      first_in = at_split w.0 w.1 (b ∷ ys) gs e;
      next = inl (w.0, ys, e);
      first_tg = w.4;
      second_tg = k.0;
    }
of_next [] order h f g (inr n) = absurd (none (subst (AreOf []) n.1 h)) where
  none : AreOf [] (g ∷ (n.0 ++ f ∷ [])) → ⊥
  none k = k
of_next (b ∷ gs) order h f g (inr n) = two (subst (AreOf (b ∷ gs)) n.1 h) where
  two : AreOf (b ∷ gs) (g ∷ (n.0 ++ f ∷ [])) → AreNext (b ∷ gs) f g
  two k = last (of_cut gs n.0 f [] k.2) where
    last : ((xs : List Gap) × (a : Gap) × (ys : List Gap) × (gs ≡ xs ++ a ∷ ys) × (a.sender.tg ≡ f.tg) × (a.sender.number ≡ f.number) × AreOf ys [])
        → AreNext (b ∷ gs) f g
    last w = at w.2 w.6 w.3 where
      at : (ys : List Gap) → AreOf ys [] → gs ≡ w.0 ++ w.1 ∷ ys → AreNext (b ∷ gs) f g
      at [] u e = record {
        first = w.1;
        second = b;
        first_in = inr (at_split w.0 w.1 [] gs e);
        next = inr (w.0, ap (λ l. b ∷ l) e);
        first_tg = w.4;
        second_tg = k.0;
      }
      at (c ∷ ys) u e = absurd u

-- ---- and back
from_cut : (x : List Gap) (f : Gap) (y : List Gap) (ss : List Sender) → AreOf (x ++ f ∷ y) ss
    → (xs : List Sender) × (s : Sender) × (ys : List Sender) × (ss ≡ xs ++ s ∷ ys) × (f.sender.tg ≡ s.tg) × AreOf y ys
from_cut [] f y [] h = absurd h
from_cut [] f y (s ∷ ss) h = ([], s, ss, refl, h.0, h.2)
from_cut (g ∷ x) f y [] h = absurd h
from_cut (g ∷ x) f y (s ∷ ss) h = let w = from_cut x f y ss h.2 in (s ∷ w.0, w.1, w.2, ap (λ l. s ∷ l) w.3, w.4, w.5)

-- the senders of gaps that are next to each other
pub record AreBefore (order : List Sender) (f g : Gap) : Type 0 where
  pub first : Sender
  pub second : Sender
  pub next : IsBefore first second order
  pub first_tg : f.sender.tg ≡ first.tg
  pub second_tg : g.sender.tg ≡ second.tg

pub from_next : (gs : List Gap) (order : List Sender) → AreOf gs order → (f g : Gap) → IsNext f g gs → AreBefore order f g
from_next gs order h f g (inl n) = two (from_cut n.0 f (g ∷ n.1) order (subst (λ l. AreOf l order) n.2 h)) where
  two : ((xs : List Sender) × (s : Sender) × (ys : List Sender) × (order ≡ xs ++ s ∷ ys) × (f.sender.tg ≡ s.tg) × AreOf (g ∷ n.1) ys)
      → AreBefore order f g
  two w = at w.2 w.5 w.3 where
    at : (ys : List Sender) → AreOf (g ∷ n.1) ys → order ≡ w.0 ++ w.1 ∷ ys → AreBefore order f g
    at [] k e = absurd k
    at (t ∷ ys) k e = record { first = w.1; second = t; next = inl (w.0, ys, e); first_tg = w.4; second_tg = k.0 }
from_next gs [] h f g (inr n) = absurd (none (subst (λ l. AreOf l []) n.1 h)) where
  none : AreOf (g ∷ (n.0 ++ f ∷ [])) [] → ⊥
  none k = k
from_next gs (b ∷ ss) h f g (inr n) = two (subst (λ l. AreOf l (b ∷ ss)) n.1 h) where
  two : AreOf (g ∷ (n.0 ++ f ∷ [])) (b ∷ ss) → AreBefore (b ∷ ss) f g
  two k = last (from_cut n.0 f [] ss k.2) where
    last : ((xs : List Sender) × (s : Sender) × (ys : List Sender) × (ss ≡ xs ++ s ∷ ys) × (f.sender.tg ≡ s.tg) × AreOf [] ys)
        → AreBefore (b ∷ ss) f g
    last w = at w.2 w.5 w.3 where
      at : (ys : List Sender) → AreOf [] ys → ss ≡ w.0 ++ w.1 ∷ ys → AreBefore (b ∷ ss) f g
      at [] u e = record { first = w.1; second = b; next = inr (w.0, ap (λ l. b ∷ l) e); first_tg = w.4; second_tg = k.0 }
      at (t ∷ ys) u e = absurd u
