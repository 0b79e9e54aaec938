-- What gaps have stays where the list is turned round.
use Rattle.std.proofs.Common.{◌≡◌, ◌≢◌, ℕ, List, [], ◌∷◌, ◌++◌, ◌⊎◌, inl, inr, arith, refl, sym, ap, ◌∙◌}
use Rattle.std.proofs.lemmas.List.{append-nil, append_assoc}
use Rattle.bus_strings.specs.Members.{In}
use Rattle.bus_regime.specs.Gaps.{Gap}
use Rattle.bus_cable_plan.specs.inside.Lists.{Apart, IsNext, HasEnough}
use Rattle.bus_cable_plan.proofs.Splits.{heads_same, tails_same, append_cases, in_left, in_right, in_turned, total_append, wants_append}

-- ---- numbers that differ
pub apart_left : (xs ys : List Gap) → Apart (xs ++ ys) → Apart xs
apart_left [] ys h = tt
apart_left (x ∷ xs) ys h = ((λ g i. h.0 g (in_left xs ys g i)), apart_left xs ys h.1)

pub apart_right : (xs ys : List Gap) → Apart (xs ++ ys) → Apart ys
apart_right [] ys h = h
apart_right (x ∷ xs) ys h = apart_right xs ys h.1

pub apart_across : (xs ys : List Gap) → Apart (xs ++ ys) → (x y : Gap) → In x xs → In y ys → x.sender.number ≢ y.sender.number
apart_across [] ys h x y i j = absurd i
apart_across (z ∷ xs) ys h x y (inl e) j = λ same. h.0 y (in_right xs ys y j) (ap (λ (g : Gap). g.sender.number) (sym e) ∙ same)
apart_across (z ∷ xs) ys h x y (inr i) j = apart_across xs ys h.1 x y i j

apart_join : (xs ys : List Gap) → Apart xs → Apart ys → ((x y : Gap) → In x xs → In y ys → x.sender.number ≢ y.sender.number)
    → Apart (xs ++ ys)
apart_join [] ys p q r = q
apart_join (x ∷ xs) ys p q r = (
  (λ g i. (elim (in_sides xs ys g i) [ inl l ↦ p.0 g l | inr k ↦ r x g (inl refl) k ])),
  apart_join xs ys p.1 q (λ a b i j. r a b (inr i) j),
) where
  in_sides : (us vs : List Gap) (g : Gap) → In g (us ++ vs) → In g us ⊎ In g vs
  in_sides [] vs g i = inr i
  in_sides (u ∷ us) vs g (inl e) = inl (inl e)
  in_sides (u ∷ us) vs g (inr i) = elim (in_sides us vs g i) [ inl l ↦ inl (inr l) | inr k ↦ inr k ]

pub apart_turned : (xs ys : List Gap) → Apart (xs ++ ys) → Apart (ys ++ xs)
apart_turned xs ys h =
    apart_join ys xs (apart_right xs ys h) (apart_left xs ys h) (λ x y i j same. apart_across xs ys h y x j i (sym same))

-- ---- neighbours
none_there : (b c g : Gap) (w q : List Gap) → g ∷ [] ≡ b ∷ c ∷ (w ++ q) → ⊥
none_there b c g w q e = absurd (let k = tails_same g b [] (c ∷ (w ++ q)) e in nil_not_cons c (w ++ q) k) where
  nil_not_cons : (x : Gap) (l : List Gap) → [] ≡ x ∷ l → ⊥
  nil_not_cons x l e = absurd cc

next_turned : (f g : Gap) (p q : List Gap) → IsNext f g (p ++ q) → IsNext f g (q ++ p)
next_turned f g p q (inl n) = elim (append_cases p q n.0 (f ∷ g ∷ n.1) n.2) [
  | inl k ↦ inl (k.0, n.1 ++ p, ap (λ l. l ++ p) k.2 ∙ append_assoc k.0 (f ∷ g ∷ n.1) p)
  | inr k ↦ at k.0 k.1 k.2
] where
  at : (w : List Gap) → p ≡ n.0 ++ w → f ∷ g ∷ n.1 ≡ w ++ q → IsNext f g (q ++ p)
  at [] a b = inl ([], n.1 ++ p, ap (λ l. l ++ p) (sym b))
  at (z ∷ []) a b =
      let head = heads_same f z (g ∷ n.1) q b in
      let tail = tails_same f z (g ∷ n.1) q b in
      inr (
        n.1 ++ n.0,
        ap (λ l. l ++ p) (sym tail) ∙ ap (λ l. g ∷ (n.1 ++ l)) (a ∙ ap (λ y. n.0 ++ y ∷ []) (sym head))
            ∙ ap (λ l. g ∷ l) (sym (append_assoc n.1 n.0 (f ∷ []))),
      )
  at (z ∷ y ∷ w) a b =
      let head = heads_same f z (g ∷ n.1) (y ∷ (w ++ q)) b in
      let tail = tails_same f z (g ∷ n.1) (y ∷ (w ++ q)) b in
      let second = heads_same g y n.1 (w ++ q) tail in
      inl (
        q ++ n.0,
        w,
        ap (λ l. q ++ l) (a ∙ ap (λ x. n.0 ++ x ∷ y ∷ w) (sym head) ∙ ap (λ x. n.0 ++ f ∷ x ∷ w) (sym second))
            ∙ sym (append_assoc q n.0 (f ∷ g ∷ w)),
      )
next_turned f g [] q (inr n) = inr (n.0, append-nil q ∙ n.1)
next_turned f g (x ∷ p) q (inr n) =
    let head = heads_same x g (p ++ q) (n.0 ++ f ∷ []) n.1 in
    let tail = tails_same x g (p ++ q) (n.0 ++ f ∷ []) n.1 in
    elim (append_cases p q n.0 (f ∷ []) tail) [
      | inl k ↦ inl (
        k.0,
        p,
        ap (λ l. l ++ x ∷ p) k.2 ∙ append_assoc k.0 (f ∷ []) (x ∷ p) ∙ ap (λ y. k.0 ++ f ∷ y ∷ p) head,
      )
      | inr k ↦ at k.0 k.1 k.2 head
    ]
  where
    at : (w : List Gap) → p ≡ n.0 ++ w → f ∷ [] ≡ w ++ q → x ≡ g → IsNext f g (q ++ x ∷ p)
    at [] a b head = inl ([], p, ap (λ l. l ++ x ∷ p) (sym b) ∙ ap (λ y. f ∷ y ∷ p) head)
    at (z ∷ []) a b head =
        let same = heads_same f z [] q b in
        let none = tails_same f z [] q b in
        inr (
          n.0,
          ap (λ l. l ++ x ∷ p) (sym none) ∙ ap (λ l. x ∷ l) (a ∙ ap (λ y. n.0 ++ y ∷ []) (sym same)) ∙ ap (λ y. y ∷ (n.0 ++ f ∷ [])) head,
        )
    at (z ∷ y ∷ w) a b head = absurd (none_there z y f w q b)

-- ---- what is enough
pub enough_turned : (d sg : ℕ) (p q : List Gap) → HasEnough d sg (p ++ q) → HasEnough d sg (q ++ p)
enough_turned d sg p q h =
    let t = total_append d p q in
    let u = total_append d q p in
    let v = wants_append d sg p q in
    let w = wants_append d sg q p in
    elim h [
      | inl one ↦ inl (omega (arith, one, t, u))
      | inr r ↦ elim r [
        | inl all ↦ inr (inl (omega (arith, all, t, u, v, w)))
        | inr s ↦ elim s [
          | inl c ↦ let e = c.enough in inr (inr (inl (record {
            first = c.first;
            second = c.second;
            next = next_turned c.first c.second p q c.next;
            enough = omega (arith, e, t, u);
          })))
          | inr c ↦ let e = c.enough in inr (inr (inr (record {
            first = c.first;
            second = c.second;
            first_in = in_turned p q c.first c.first_in;
            second_in = in_turned p q c.second c.second_in;
            apart = c.apart;
            enough = omega (arith, e, t, u);
          })))
        ]
      ]
    ]
