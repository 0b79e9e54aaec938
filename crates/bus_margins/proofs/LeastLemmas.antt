-- The least of rooms, put together.
use Rattle.std.specs.Prelude.{slice_get}
use Rattle.std.specs.List.{AllByRecursion}
use Rattle.std.proofs.Common.{arith, ◌≡◌, ℕ, zero, suc, true, false, cond, List, [], ◌∷◌, ◌++◌, map, take, Option, Some, None}
use Rattle.std.proofs.Common.{refl, sym, ◌∙◌, ap}
use Rattle.std.proofs.lemmas.Bool.Decides.{nat_tests}
use Rattle.bus_table.specs.Tables.{Sender}
use Rattle.bus_margins.specs.declared.room.Room.{Room}
use Rattle.bus_margins.specs.Least.{is_less, lesser, least}
use Rattle.bus_margins.specs.Rooms.{pairs, with_others}
use Rattle.bus_margins.specs.inside.Telling.{neighbours}

less_along : (a b c : Room) → is_less b a ≡ true → is_less c b ≡ true → is_less c a ≡ true
less_along a b c p q = grind (arith, nat_tests, p, q)

less_not : (a b c : Room) → is_less b a ≡ false → is_less c b ≡ false → is_less c a ≡ false
less_not a b c p q = grind (arith, nat_tests, p, q)

some_lesser : (a b c : Room)
    → cond (is_less c (cond (is_less b a) b a)) c (cond (is_less b a) b a)
    ≡ cond (is_less (cond (is_less c b) c b) a) (cond (is_less c b) c b) a
some_lesser a b c =
    elim (is_less b a) as (λ p. is_less b a ≡ p → cond (is_less c (cond p b a)) c (cond p b a)
    ≡ cond (is_less (cond (is_less c b) c b) a) (cond (is_less c b) c b) a) [
      | true ↦ λ e. elim (is_less c b) as (λ q. is_less c b ≡ q → cond q c b ≡ cond (is_less (cond q c b) a) (cond q c b) a) [
        | true ↦ λ f. sym (ap (λ w. cond w c a) (less_along a b c e f))
        | false ↦ λ f. sym (ap (λ w. cond w b a) e)
      ] refl
      | false ↦ λ e. elim (is_less c b) as (λ q. is_less c b ≡ q → cond (is_less c a) c a ≡ cond (is_less (cond q c b) a) (cond q c b) a) [
        | true ↦ λ f. refl
        | false ↦ λ f. ap (λ w. cond w c a) (less_not a b c e f) ∙ sym (ap (λ w. cond w b a) e)
      ] refl
    ] refl

pub lesser_assoc : (a b c : Option Room) → lesser (lesser a b) c ≡ lesser a (lesser b c)
lesser_assoc None b c = refl
lesser_assoc (Some a) None c = refl
lesser_assoc (Some a) (Some b) None = refl
lesser_assoc (Some a) (Some b) (Some c) = ap Some (some_lesser a b c)

pub lesser_none : (a : Option Room) → lesser a None ≡ a
lesser_none None = refl
lesser_none (Some a) = refl

pub least_append : (xs ys : List Room) → least (xs ++ ys) ≡ lesser (least xs) (least ys)
least_append [] ys = refl
least_append (x ∷ xs) ys = ap (lesser (Some x)) (least_append xs ys) ∙ sym (lesser_assoc (Some x) (least xs) (least ys))

-- one that none behind it is less than
pub leads : (x : Room) (ys : List Room) → AllByRecursion (λ y. is_less y x ≡ false) ys → lesser (Some x) (least ys) ≡ Some x
leads x [] h = refl
leads x (y ∷ ys) h =
    sym (lesser_assoc (Some x) (Some y) (least ys)) ∙ ap (λ w. lesser (Some (cond w y x)) (least ys)) h.0 ∙ leads x ys h.1

-- of each the next one leaves no more room than those behind it
abbrev pub Nearest : (Sender → Sender → Room) → List Sender → Type 0
Nearest room [] = Unit {0}
Nearest room (a ∷ []) = Unit {0}
Nearest room (a ∷ b ∷ senders) = AllByRecursion (λ c. is_less (room a c) (room a b) ≡ false) senders × Nearest room (b ∷ senders)

pub all_mapped : (f : Sender → Room) (P : Room → Type 0) (xs : List Sender) → AllByRecursion (λ x. P (f x)) xs → AllByRecursion P (map f xs)
all_mapped f P [] h = tt
all_mapped f P (x ∷ xs) h = (h.0, all_mapped f P xs h.1)

-- so neighbours tell the least
pub neighbours_tell : (room : Sender → Sender → Room) (order : List Sender) → Nearest room order → least (pairs room order) ≡ least (neighbours room order)
neighbours_tell room [] h = refl
neighbours_tell room (a ∷ []) h = refl
neighbours_tell room (a ∷ b ∷ senders) h =
    least_append (map (room a) (b ∷ senders)) (pairs room (b ∷ senders))
    ∙ ap (λ w. lesser w (least (pairs room (b ∷ senders))))
    (leads (room a b) (map (room a) senders) (all_mapped (room a) (λ y. is_less y (room a b) ≡ false) senders h.0))
    ∙ ap (lesser (Some (room a b))) (neighbours_tell room (b ∷ senders) h.1)

-- where all others leave a sender the same, any of them tells the least
each_same : (room : Sender → Sender → Room) (x first : Sender) → ((a b c : Sender) → is_less (room a b) (room a c) ≡ false) → (ys : List Sender)
    → AllByRecursion (λ b. is_less (room x b) (room x first) ≡ false) ys
each_same room x first h [] = tt
each_same room x first h (y ∷ ys) = (h x y first, each_same room x first h ys)

-- the first of those before them
pub first_tells : (room : Sender → Sender → Room) (first : Sender) (before xs : List Sender)
    → ((a b c : Sender) → is_less (room a b) (room a c) ≡ false)
    → least (with_others room (first ∷ before) xs) ≡ least (map (λ a. room a first) xs)
first_tells room first before [] h = refl
first_tells room first before (x ∷ xs) h =
    least_append (map (room x) (first ∷ (before ++ xs))) (with_others room (first ∷ (before ++ x ∷ [])) xs)
    ∙ ap (λ w. lesser w (least (with_others room (first ∷ (before ++ x ∷ [])) xs)))
    (leads (room x first) (map (room x) (before ++ xs))
    (all_mapped (room x) (λ y. is_less y (room x first) ≡ false) (before ++ xs) (each_same room x first h (before ++ xs))))
    ∙ ap (lesser (Some (room x first))) (first_tells room first (before ++ x ∷ []) xs h)

-- so the first of all with the second, and each other one with the first
pub others_tell : (room : Sender → Sender → Room) (first second : Sender) (xs : List Sender)
    → ((a b c : Sender) → is_less (room a b) (room a c) ≡ false)
    → least (with_others room [] (first ∷ second ∷ xs)) ≡ lesser (Some (room first second)) (least (map (λ a. room a first) (second ∷ xs)))
others_tell room first second xs h =
    least_append (map (room first) (second ∷ xs)) (with_others room (first ∷ []) (second ∷ xs))
    ∙ ap (λ w. lesser w (least (with_others room (first ∷ []) (second ∷ xs))))
    (leads (room first second) (map (room first) xs) (all_mapped (room first) (λ y. is_less y (room first second) ≡ false) xs (each_same room first second h xs)))
    ∙ ap (lesser (Some (room first second))) (first_tells room first [] (second ∷ xs) h)

-- one sender more
pub taken_more : (f : Sender → Room) (ys : List Sender) (j : ℕ) (x : Sender) → slice_get ys j ≡ Some x
    → least (map f (take (suc j) ys)) ≡ lesser (least (map f (take j ys))) (Some (f x))
taken_more f [] j x h = absurd (let w : None ≡ Some x = h in cc)
taken_more f (y ∷ ys) zero x h = let w : Some y ≡ Some x = h in let e : y ≡ x = cc in ap (λ z. Some (f z)) e
taken_more f (y ∷ ys) (suc i) x h =
    ap (lesser (Some (f y))) (taken_more f ys i x h) ∙ sym (lesser_assoc (Some (f y)) (least (map f (take i ys))) (Some (f x)))

pub near_more : (f : Sender → Sender → Room) (ys : List Sender) (j : ℕ) (a b : Sender) → slice_get ys j ≡ Some a → slice_get ys (suc j) ≡ Some b
    → least (neighbours f (take (suc (suc j)) ys)) ≡ lesser (least (neighbours f (take (suc j) ys))) (Some (f a b))
near_more f [] j a b h k = absurd (let w : None ≡ Some a = h in cc)
near_more f (y ∷ []) zero a b h k = absurd (let w : None ≡ Some b = k in cc)
near_more f (y ∷ []) (suc i) a b h k = absurd (let w : None ≡ Some a = h in cc)
near_more f (y ∷ z ∷ zs) zero a b h k =
    let w : Some y ≡ Some a = h in let v : Some z ≡ Some b = k in let e : y ≡ a = cc in let g : z ≡ b = cc in
    let r : f y z ≡ f a b = ap (λ u. f u z) e ∙ ap (f a) g in ap Some r
near_more f (y ∷ z ∷ zs) (suc i) a b h k =
    ap (lesser (Some (f y z))) (near_more f (z ∷ zs) i a b h k)
    ∙ sym (lesser_assoc (Some (f y z)) (least (neighbours f (take (suc i) (z ∷ zs)))) (Some (f a b)))
