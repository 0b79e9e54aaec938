-- How old what is known of a sender may be.
use Rattle.std.specs.Prelude.{◌≡◌, List, [], ◌∷◌, ◌++◌, length}
use Rattle.std.proofs.Common.{ℕ, zero, suc, ◌+◌, ◌≤◌, inl, inr, arith, refl, sym, ap, subst, ◌∙◌}
use Rattle.bus_table.specs.Lengths.{longest}
use Rattle.bus_table.specs.Tables.{Sender}
use Rattle.bus_table.specs.Turns.{turn_order}
use Rattle.bus_bounds.specs.Bounds.{Bounds}
use Rattle.bus_clocks.specs.Buses.{Bus, among}
use Rattle.bus_clocks.specs.Courses.{Course}
use Rattle.bus_clocks.specs.Entries.{Entry, In}
use Rattle.bus_clocks.specs.Rounds.{AreSpaced, Follows, most_round}
use Rattle.bus_margins.specs.Buses.{at_place, bus_of}
use Rattle.bus_margins.specs.Rooms.{most_apart}
use Rattle.bus_margins.specs.Times.{most_time}
use Rattle.bus_margins.proofs.Apart.{apart_is_a_round}
use Rattle.bus_design.specs.Ages.{AgesAreBounded, MadeHasLeastAges}
use Rattle.bus_design.specs.Others.{with_gaps}

in_back : (xs ys : List Entry) (y : Entry) → In y ys → In y (xs ++ ys)
in_back [] ys y i = i
in_back (x ∷ xs) ys y i = inr (in_back xs ys y i)

-- what follows one of them follows it
spaced_at : (least most : ℕ) (c : Course) (before : List Entry) (x : Entry) (tail : List Entry) → AreSpaced least most c (before ++ x ∷ tail)
    → Follows least most c x tail
spaced_at least most c [] x tail s = s.0
spaced_at least most c (z ∷ before) x tail s = spaced_at least most c before x tail s.1

next_by : (least most : ℕ) (c : Course) (x y : Entry) (between rest : List Entry) → Follows least most c x (between ++ y ∷ rest)
    → y.sender ≡ x.sender → ((z : Entry) → In z between → z.sender ≡ x.sender → ⊥) → y.moment ≤ x.moment + most
next_by least most c x y [] rest (inl f) same none = f.2
next_by least most c x y [] rest (inr f) same none = absurd (f.0 same)
next_by least most c x y (z ∷ between) rest (inl f) same none = absurd (none z (inl refl) f.0)
next_by least most c x y (z ∷ between) rest (inr f) same none = next_by least most c x y between rest f.1 same (λ w i. none w (inr i))

pub ages_are_bounded : AgesAreBounded
ages_are_bounded bounds table c up origin x y is settled n =
    let bus : Bus = bus_of bounds table in
    let spaced = subst (AreSpaced _ (most_round (among bus)) c) n.parts settled.spaced in
    let follows = spaced_at _ (most_round (among bus)) c n.before x (n.between ++ y ∷ n.rest) spaced in
    let soon = next_by _ (most_round (among bus)) c x y n.between n.rest follows n.same n.none in
    let here : In y settled.rounds =
    subst (In y) (sym n.parts) (in_back n.before (x ∷ (n.between ++ y ∷ n.rest)) y (inr (in_back n.between (y ∷ n.rest) y (inl refl)))) in
    let there : In y c.list = subst (In y) (sym settled.parts) (in_back settled.before settled.rounds y here) in
    let short : y.length ≤ bus.longest y.sender = (is.sent y there).3 in
    let own : bus.longest y.sender ≡ bus.longest x.sender = ap bus.longest n.same in
    let round : most_apart bounds table ≡ most_round (among bus) = (apart_is_a_round bounds table).1 in
    omega (arith, soon, short, own, round)

-- ---- the made table

-- other gaps change no message
speaks_as : (bounds : Bounds) (order : List Sender) (gaps : List ℕ) (k : ℕ) → length gaps ≡ length order
    → at_place (λ a. most_time bounds (longest a)) (with_gaps order gaps) k ≡ at_place (λ a. most_time bounds (longest a)) order k
speaks_as bounds [] gaps k n = refl
speaks_as bounds (a ∷ order) [] k n = absurd (let m : 0 ≡ length (a ∷ order) = n in cc)
speaks_as bounds (a ∷ order) (x ∷ gaps) zero n = refl
speaks_as bounds (a ∷ order) (x ∷ gaps) (suc k) n =
    speaks_as bounds order gaps k (let m : length (x ∷ gaps) ≡ length (a ∷ order) = n in omega (arith, m))

pub made_has_least_ages : MadeHasLeastAges
made_has_least_ages bounds table made other gaps place is another any there =
    let f : List Sender → ℕ = λ order. at_place (λ a. most_time bounds (longest a)) order place in
    let own : (bus_of bounds made).longest place ≡ f (turn_order table) =
    ap f is.another.order ∙ speaks_as bounds (turn_order table) _ place is.another.count in
    let its : (bus_of bounds other).longest place ≡ f (turn_order table) = ap f another.order ∙ speaks_as bounds (turn_order table) gaps place another.count in
    let least = is.best other gaps another any in
    omega (arith, own, its, least)
