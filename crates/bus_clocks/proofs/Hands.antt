-- How many messages senders have sent and have left.
use Rattle.std.proofs.Common.{◌≡◌, ℕ, suc, ◌<◌, ◌≤◌, ◌⊎◌, Bool, true, false, ◌&&◌, cond, eqb, ltb, List, [], ◌∷◌, length, Option, Some, None, inl, inr, arith, sym, refl, ap, ◌∙◌}
use Rattle.std.specs.Prelude.{IfSome}
use Rattle.std.proofs.lemmas.Bool.{cases_Bool, true≢false}
use Rattle.bus_clocks.specs.Entries.{Entry, In, own, IsAscending}
use Rattle.bus_clocks.proofs.Lists.{is_own, own_is}

pub left_by : (o : Option ℕ) (a b : ℕ) → a ≤ b → IfSome o (λ n. b < n) → IfSome o (λ n. a < n)
left_by None a b low h = tt
left_by (Some n) a b low h = (let less : b < n = h in omega arith)

-- a test of the one moment is that of the other
same_test : (k t u : ℕ) (x : Entry) → (x.sender ≡ k → x.moment < t → x.moment < u) → (x.sender ≡ k → x.moment < u → x.moment < t)
    → (eqb x.sender k && ltb x.moment t) ≡ (eqb x.sender k && ltb x.moment u)
same_test k t u x there back = elim (cases_Bool (eqb x.sender k && ltb x.moment t)) [
  | inl yes' ↦ (let p = is_own k t x yes' in yes' ∙ sym (own_is k u x p.0 (there p.0 p.1)))
  | inr no' ↦ elim (cases_Bool (eqb x.sender k && ltb x.moment u)) [
    | inl yes' ↦ (let p = is_own k u x yes' in absurd (true≢false (sym (own_is k t x p.0 (back p.0 p.1)) ∙ no')))
    | inr also ↦ no' ∙ sym also
  ]
]

pub own_same : (l : List Entry) (k t u : ℕ) → ((x : Entry) → In x l → x.sender ≡ k → x.moment < t → x.moment < u)
    → ((x : Entry) → In x l → x.sender ≡ k → x.moment < u → x.moment < t) → own l k t ≡ own l k u
own_same [] k t u there back = refl
own_same (y ∷ l) k t u there back =
    ap (λ b. cond b (y ∷ own l k t) (own l k t)) (same_test k t u y (there y (inl refl)) (back y (inl refl)))
    ∙ ap (λ z. cond (eqb y.sender k && ltb y.moment u) (y ∷ z) z) (own_same l k t u (λ x i. there x (inr i)) (λ x i. back x (inr i)))

pub count : (b : Bool) (y : Entry) (z : List Entry) → length (cond b (y ∷ z) z) ≡ cond b (suc (length z)) (length z)
count true y z = refl
count false y z = refl

-- later there are no fewer
pub own_most : (l : List Entry) (k t u : ℕ) → t ≤ u → length (own l k t) ≤ length (own l k u)
own_most [] k t u low = omega arith
own_most (y ∷ l) k t u low =
    let rest : length (own l k t) ≤ length (own l k u) = own_most l k t u low in
    elim (cases_Bool (eqb y.sender k && ltb y.moment t)) [
      | inl yes' ↦
          let p = is_own k t y yes' in
          let less : y.moment < t = p.1 in
          let also : eqb y.sender k && ltb y.moment u ≡ true = own_is k u y p.0 (omega arith) in
          let one : length (own (y ∷ l) k t) ≡ suc (length (own l k t)) = ap (λ b. length (cond b (y ∷ own l k t) (own l k t))) yes' in
          let two : length (own (y ∷ l) k u) ≡ suc (length (own l k u)) = ap (λ b. length (cond b (y ∷ own l k u) (own l k u))) also in
          omega arith
      | inr no' ↦
          let one : length (own (y ∷ l) k t) ≡ length (own l k t) = ap (λ b. length (cond b (y ∷ own l k t) (own l k t))) no' in
          elim (cases_Bool (eqb y.sender k && ltb y.moment u)) [
            | inl also ↦
                let two : length (own (y ∷ l) k u) ≡ suc (length (own l k u)) = ap (λ b. length (cond b (y ∷ own l k u) (own l k u))) also in
                omega arith
            | inr also ↦
                let two : length (own (y ∷ l) k u) ≡ length (own l k u) = ap (λ b. length (cond b (y ∷ own l k u) (own l k u))) also in
                omega arith
          ]
    ]

-- one more, where this is the only one between
pub own_more : (l : List Entry) (k v t : ℕ) (y : Entry) → IsAscending l → In y l → y.sender ≡ k → v ≤ y.moment → y.moment < t
    → ((x : Entry) → In x l → x.sender ≡ k → x.moment < t → (x.moment < v) ⊎ (x ≡ y)) → length (own l k t) ≡ suc (length (own l k v))
own_more [] k v t y up i mine low high only = absurd i
own_more (z ∷ l) k v t y up (inl is) mine low high only =
    let mine_z : z.sender ≡ k = ap (λ (w : Entry). w.sender) (sym is) ∙ mine in
    let at : z.moment ≡ y.moment = ap (λ (w : Entry). w.moment) (sym is) in
    let yes' : eqb z.sender k && ltb z.moment t ≡ true = own_is k t z mine_z (omega arith) in
    let no' : eqb z.sender k && ltb z.moment v ≡ false = elim (cases_Bool (eqb z.sender k && ltb z.moment v)) [
      | inl bad ↦ (let less : z.moment < v = (is_own k v z bad).1 in absurd (omega arith))
      | inr fine ↦ fine
    ] in
    let one : length (own (z ∷ l) k t) ≡ suc (length (own l k t)) = ap (λ b. length (cond b (z ∷ own l k t) (own l k t))) yes' in
    let two : length (own (z ∷ l) k v) ≡ length (own l k v) = ap (λ b. length (cond b (z ∷ own l k v) (own l k v))) no' in
    let rest : own l k t ≡ own l k v = own_same l k t v
    (λ x i own less. elim (only x (inr i) own less) [
      | inl before ↦ before
      | inr same ↦
          let e : x.moment ≡ y.moment = ap (λ (w : Entry). w.moment) same in
          elim (up.0 x i) [ inl later ↦ absurd (omega arith) | inr p ↦ absurd (p.1 (mine_z ∙ sym own)) ]
    ]) (λ x i own less. omega arith) in
    let three : length (own l k t) ≡ length (own l k v) = ap (λ m. length m) rest in
    omega arith
own_more (z ∷ l) k v t y up (inr i) mine low high only =
    let rest : length (own l k t) ≡ suc (length (own l k v)) = own_more l k v t y up.1 i mine low high (λ x j. only x (inr j)) in
    let same : (eqb z.sender k && ltb z.moment t) ≡ (eqb z.sender k && ltb z.moment v) = same_test k t v z
    (λ own less. elim (only z (inl refl) own less) [
      | inl before ↦ before
      | inr is ↦
          let e : z.moment ≡ y.moment = ap (λ (w : Entry). w.moment) is in
          elim (up.0 y i) [ inl later ↦ absurd (omega arith) | inr p ↦ absurd (p.1 (own ∙ sym mine)) ]
    ]) (λ own less. omega arith) in
    elim (cases_Bool (eqb z.sender k && ltb z.moment v)) [
      | inl yes' ↦
          let one : length (own (z ∷ l) k t) ≡ suc (length (own l k t)) = ap (λ b. length (cond b (z ∷ own l k t) (own l k t))) (same ∙ yes') in
          let two : length (own (z ∷ l) k v) ≡ suc (length (own l k v)) = ap (λ b. length (cond b (z ∷ own l k v) (own l k v))) yes' in
          omega arith
      | inr no' ↦
          let one : length (own (z ∷ l) k t) ≡ length (own l k t) = ap (λ b. length (cond b (z ∷ own l k t) (own l k t))) (same ∙ no') in
          let two : length (own (z ∷ l) k v) ≡ length (own l k v) = ap (λ b. length (cond b (z ∷ own l k v) (own l k v))) no' in
          omega arith
    ]
