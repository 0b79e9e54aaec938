-- The wish of which most is lacking.
use Rattle.std.specs.Prelude.{nat_lt, slice_get}
use Rattle.std.proofs.Common.{arith, ◌≡◌, ℕ, zero, suc, ◌+◌, ◌-◌, ◌<◌, ◌≤◌, Bool, true, false, cond, List, [], ◌∷◌, length, Option, Some, None}
use Rattle.std.proofs.Common.{refl, sym, ◌∙◌, ap, subst, inl, inr}
use Rattle.std.proofs.lemmas.Bool.{cases_lt}
use Rattle.std.proofs.lemmas.Bool.Decides.{nat_tests}
use Rattle.std.proofs.lemmas.Option.{slice_get_within}
use Rattle.bus_bounds.specs.Bounds.{Bounds}
use Rattle.bus_table.specs.Lengths.{longest}
use Rattle.bus_table.specs.Tables.{Sender, Table}
use Rattle.bus_table.specs.Turns.{turn_order}
use Rattle.bus_margins.specs.Buses.{at_place}
use Rattle.bus_margins.specs.Rooms.{most_apart}
use Rattle.bus_margins.specs.Times.{most_time}
use Rattle.bus_design.specs.Ages.{age_of}
use Rattle.bus_made.specs.declared.wish.Wish.{Wish}
use Rattle.bus_made.specs.declared.wish.Lack.{Lack}
use Rattle.bus_made.specs.Wishes.{AreMet, IsLacking, lack_of, lacking, lacking_of, wish_of, worse, worst_age}

at_sender : (f : Sender → ℕ) (order : List Sender) (k : ℕ) (a : Sender) → slice_get order k ≡ Some a → at_place f order k ≡ f a
at_sender f [] k a e = absurd (let h : None ≡ Some a = e in cc)
at_sender f (b ∷ order) zero a e = let h : Some b ≡ Some a = e in ap f (let same : b ≡ a = cc in same)
at_sender f (b ∷ order) (suc k) a e = at_sender f order k a e

same_some : {X : Type 0} (x y : X) → Some x ≡ Some y → x ≡ y
same_some x y e = cc

no_some : {X : Type 0} (x : X) → None ≡ Some x → ⊥
no_some x e = cc

module _ (bounds : Bounds) (table : Table) (wishes : List Wish) where
  abbrev order : List Sender
  order = turn_order table

  age_at : (k : ℕ) (a : Sender) → slice_get order k ≡ Some a → age_of bounds table k ≡ worst_age bounds table a
  age_at k a at = ap (λ n. most_apart bounds table + n + bounds.delay) (at_sender (λ s. most_time bounds (longest s)) order k a at)

  record LackBelow (n : ℕ) (lack : Lack) : Type 0 where
    place : ℕ
    sender : Sender
    wish : Wish
    at : slice_get order place ≡ Some sender
    asked : wish_of wishes sender.number ≡ Some wish
    terminal : lack.terminal ≡ sender.number
    wished : lack.wished ≡ wish.age
    least : lack.least ≡ age_of bounds table place
    short : lack.wished < lack.least
    most : (k : ℕ) (other : Sender) (its : Wish) → k < n → slice_get order k ≡ Some other → wish_of wishes other.number ≡ Some its
        → age_of bounds table k - its.age ≤ lack.least - lack.wished

  abbrev Told : ℕ → Option Lack → Type 0
  Told n None = (k : ℕ) (other : Sender) (its : Wish) → k < n → slice_get order k ≡ Some other → wish_of wishes other.number ≡ Some its
      → age_of bounds table k ≤ its.age
  Told n (Some lack) = LackBelow n lack

  -- one more, of which no more is lacking
  keep : (n : ℕ) (lack : Lack) → LackBelow n lack
      → ((other : Sender) (its : Wish) → slice_get order n ≡ Some other → wish_of wishes other.number ≡ Some its
      → age_of bounds table n - its.age ≤ lack.least - lack.wished)
      → LackBelow (suc n) lack
  keep n lack b here = record {
    place = b.place;
    sender = b.sender;
    wish = b.wish;
    at = b.at;
    asked = b.asked;
    terminal = b.terminal;
    wished = b.wished;
    least = b.least;
    short = b.short;
    most = λ k other its l at asked. elim (cases_lt k n) [
      | inl less ↦ b.most k other its less at asked
      | inr rest ↦
          (let same : k ≡ n = omega (arith, l, rest) in
          subst (λ m. age_of bounds table m - its.age ≤ lack.least - lack.wished) (sym same)
          (here other its (subst (λ m. slice_get order m ≡ Some other) same at) asked))
    ];
  }

  met_more : (n : ℕ) → Told n None
      → ((other : Sender) (its : Wish) → slice_get order n ≡ Some other → wish_of wishes other.number ≡ Some its → age_of bounds table n ≤ its.age)
      → Told (suc n) None
  met_more n met here = λ k other its l at asked. elim (cases_lt k n) [
    | inl less ↦ met k other its less at asked
    | inr rest ↦
        (let same : k ≡ n = omega (arith, l, rest) in
        subst (λ m. age_of bounds table m ≤ its.age) (sym same) (here other its (subst (λ m. slice_get order m ≡ Some other) same at) asked))
  ]

  -- one more that lacks nothing
  kept : (n : ℕ) (known : Option Lack) → Told n known
      → ((other : Sender) (its : Wish) → slice_get order n ≡ Some other → wish_of wishes other.number ≡ Some its → age_of bounds table n ≤ its.age)
      → Told (suc n) (worse known None)
  kept n None met here = met_more n met here
  kept n (Some lack) b here = keep n lack b (λ other its at asked. let l = here other its at asked in omega (arith, l))

  -- one more that lacks
  newer : (n : ℕ) (a : Sender) (wish : Wish) → slice_get order n ≡ Some a → wish_of wishes a.number ≡ Some wish → wish.age < worst_age bounds table a
      → ((k : ℕ) (other : Sender) (its : Wish) → k < n → slice_get order k ≡ Some other → wish_of wishes other.number ≡ Some its
      → age_of bounds table k - its.age ≤ worst_age bounds table a - wish.age)
      → LackBelow (suc n) (record { terminal = a.number; least = worst_age bounds table a; wished = wish.age })
  newer n a wish at asked short before = record {
    place = n;
    sender = a;
    wish = wish;
    at = at;
    asked = asked;
    terminal = refl;
    wished = refl;
    least = sym (age_at n a at);
    short = short;
    most = λ k other its l there its_asked. elim (cases_lt k n) [
      | inl less ↦ before k other its less there its_asked
      | inr rest ↦
          (let same : k ≡ n = omega (arith, l, rest) in
          let here : other ≡ a = same_some other a (sym there ∙ ap (slice_get order) same ∙ at) in
          let own : its ≡ wish = same_some its wish (sym its_asked ∙ ap (λ (s : Sender). wish_of wishes s.number) here ∙ asked) in
          let ages : age_of bounds table k ≡ worst_age bounds table a = ap (age_of bounds table) same ∙ age_at n a at in
          let wished : its.age ≡ wish.age = ap (λ (w : Wish). w.age) own in
          omega (arith, ages, wished))
    ];
  }

  lacks : (n : ℕ) (a : Sender) (wish : Wish) (known : Option Lack) → slice_get order n ≡ Some a → wish_of wishes a.number ≡ Some wish
      → wish.age < worst_age bounds table a → Told n known
      → Told (suc n) (worse known (Some (record { terminal = a.number; least = worst_age bounds table a; wished = wish.age })))
  lacks n a wish None at asked short met =
      newer n a wish at asked short (λ k other its l there its_asked. let m = met k other its l there its_asked in omega (arith, m))
  lacks n a wish (Some known) at asked short b = by (nat_lt (known.least - known.wished) (worst_age bounds table a - wish.age)) refl where
    by : (w : Bool) → nat_lt (known.least - known.wished) (worst_age bounds table a - wish.age) ≡ w
        → LackBelow (suc n) (cond w (record { terminal = a.number; least = worst_age bounds table a; wished = wish.age }) known)
    by true e =
        newer n a wish at asked short (λ k other its l there its_asked.
        let m = b.most k other its l there its_asked in
        let more : known.least - known.wished < worst_age bounds table a - wish.age = grind (arith, nat_tests, e) in
        omega (arith, m, more))
    by false e =
        keep n known b (λ other its there its_asked.
        let here : other ≡ a = same_some other a (sym there ∙ at) in
        let own : its ≡ wish = same_some its wish (sym its_asked ∙ ap (λ (s : Sender). wish_of wishes s.number) here ∙ asked) in
        let ages : age_of bounds table n ≡ worst_age bounds table a = age_at n a at in
        let wished : its.age ≡ wish.age = ap (λ (w : Wish). w.age) own in
        let less : worst_age bounds table a - wish.age ≤ known.least - known.wished = grind (arith, nat_tests, e) in
        omega (arith, ages, wished, less))

  step : (n : ℕ) (a : Sender) (known : Option Lack) → slice_get order n ≡ Some a → Told n known
      → Told (suc n) (worse known (lack_of a.number (worst_age bounds table a) (wish_of wishes a.number)))
  step n a known at told = by (wish_of wishes a.number) refl where
    test : (wish : Wish) → wish_of wishes a.number ≡ Some wish → (w : Bool) → nat_lt wish.age (worst_age bounds table a) ≡ w
        → Told (suc n) (worse known (cond w (Some (record { terminal = a.number; least = worst_age bounds table a; wished = wish.age })) None))
    test wish asked true e = lacks n a wish known at asked (grind (arith, nat_tests, e)) told
    test wish asked false e =
        kept n known told (λ other its there its_asked.
        let here : other ≡ a = same_some other a (sym there ∙ at) in
        let own : its ≡ wish = same_some its wish (sym its_asked ∙ ap (λ (s : Sender). wish_of wishes s.number) here ∙ asked) in
        let ages : age_of bounds table n ≡ worst_age bounds table a = age_at n a at in
        let wished : its.age ≡ wish.age = ap (λ (w : Wish). w.age) own in
        let less : worst_age bounds table a ≤ wish.age = grind (arith, nat_tests, e) in
        omega (arith, ages, wished, less))

    by : (o : Option Wish) → wish_of wishes a.number ≡ o → Told (suc n) (worse known (lack_of a.number (worst_age bounds table a) o))
    by None e =
        kept n known told (λ other its there its_asked.
        let here : other ≡ a = same_some other a (sym there ∙ at) in
        absurd (no_some its (sym e ∙ ap (λ (s : Sender). wish_of wishes s.number) (sym here) ∙ its_asked)))
    by (Some wish) e = test wish e (nat_lt wish.age (worst_age bounds table a)) refl

  told_from : (n : ℕ) (known : Option Lack) (senders : List Sender) → ((j : ℕ) → slice_get senders j ≡ slice_get order (n + j)) → Told n known
      → Told (n + length senders) (lacking_of bounds table wishes known senders)
  told_from n known [] tail told = let e : n ≡ n + 0 = omega arith in subst (λ m. Told m known) e told
  told_from n known (a ∷ senders) tail told =
      let e : suc n + length senders ≡ n + suc (length senders) = omega arith in
      let zero_more : n + 0 ≡ n = omega arith in
      let at : slice_get order n ≡ Some a = ap (slice_get order) (sym zero_more) ∙ sym (tail 0) in
      subst (λ m. Told m (lacking_of bounds table wishes known (a ∷ senders))) e
      (told_from (suc n) (worse known (lack_of a.number (worst_age bounds table a) (wish_of wishes a.number))) senders
      (λ j. tail (suc j) ∙ ap (slice_get order) (let f : n + suc j ≡ suc n + j = omega arith in f)) (step n a known at told))

  abbrev pub Says : Option Lack → Type 0
  Says None = AreMet bounds table wishes
  Says (Some lack) = IsLacking bounds table wishes lack

  pub lacking_says : Says (lacking bounds table wishes)
  lacking_says = all (lacking bounds table wishes) (told_from 0 None order (λ j. ap (slice_get order) (let e : j ≡ 0 + j = omega arith in e)) (λ k other its l at asked. absurd (let m : k < 0 = l in omega (arith, m)))) where
    all : (o : Option Lack) → Told (0 + length order) o → Says o
    all None met = λ k sender wish at asked. met k sender wish (let l = slice_get_within order k sender at in omega (arith, l)) at asked
    all (Some lack) b = record {
      place = b.place;
      sender = b.sender;
      wish = b.wish;
      at = b.at;
      asked = b.asked;
      terminal = b.terminal;
      wished = b.wished;
      least = b.least;
      short = b.short;
      most = λ k other its at asked. b.most k other its (let l = slice_get_within order k other at in omega (arith, l)) at asked;
    }
