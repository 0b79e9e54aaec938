-- Why windows are long.
use Rattle.std.proofs.Common.{arith, ◌≡◌, ◌⊎◌, ℕ, ◌+◌, ◌<◌, ◌≤◌, true, false, cond, List, [], ◌∷◌, Option, Some, None, inl, inr, refl, sym, ap, ◌∙◌, subst, leb-true}
use Rattle.std.specs.Prelude.{nat_le, nat_lt}
use Rattle.std.proofs.lemmas.Bool.{cases_Bool, and_parts, ltb-true}
use Rattle.std.proofs.lemmas.Bool.Decides.{nat_tests}
use Rattle.bus_blocks.specs.declared.mark.Mark.{Mark}
use Rattle.bus_blocks.specs.Blocks.{begin, begins, behind, count_from, is_over, standing, with_moment, within}
use Rattle.bus_blocks.specs.Laws.{IsWindow, Rise}

-- how many are no earlier, with one more
one_more : (from moment : ℕ) (before : List ℕ) → from ≤ moment → count_from from (moment ∷ before) ≡ count_from from before + 1
one_more from moment before h =
    let t : nat_le from moment ≡ true = grind (arith, nat_tests, h) in
    ap (λ b. cond b (count_from from before + 1) (count_from from before)) t

no_fewer : (from moment : ℕ) (before : List ℕ) → count_from from before ≤ count_from from (moment ∷ before)
no_fewer from moment before = elim (nat_le from moment) as (λ b. count_from from before ≤ cond b (count_from from before + 1) (count_from from before)) [
  | true ↦ omega arith
  | false ↦ omega arith
]

-- all of these are at a moment or before
abbrev AllTo : ℕ → List ℕ → Type 0
AllTo last [] = Unit {0}
AllTo last (moment ∷ before) = (moment ≤ last) × AllTo last before

all_later : (a b : ℕ) (list : List ℕ) → a ≤ b → AllTo a list → AllTo b list
all_later a b [] h all = tt
all_later a b (moment ∷ before) h all = (let l : moment ≤ a = all.0 in omega (arith, h, l), all_later a b before h all.1)

none_from : (from last : ℕ) (list : List ℕ) → last < from → AllTo last list → count_from from list ≡ 0
none_from from last [] h all = refl
none_from from last (moment ∷ before) h all =
    let l : moment ≤ last = all.0 in
    let less : moment < from = omega (arith, h, l) in
    let t : nat_le from moment ≡ false = grind (arith, nat_tests, less) in
    ap (λ b. cond b (count_from from before + 1) (count_from from before)) t ∙ none_from from last before h all.1

-- what holds of the later window
abbrev Newer : ℕ → List ℕ → Mark → Option ℕ → Type 0
Newer first list mark None = mark.older ≡ first
Newer first list mark (Some from) = (count_from from list ≡ mark.count) × (mark.older ≤ from) × (from ≤ mark.last)

record Stands (size first : ℕ) (list : List ℕ) (mark : Mark) : Type 0 where
  all : AllTo mark.last list
  there : mark.older ≤ mark.last
  long : (mark.older ≡ first) ⊎ (size ≤ count_from mark.older list)
  newer : Newer first list mark mark.newer

stays : (size first moment : ℕ) (list : List ℕ) (mark : Mark) → Stands size first list mark → mark.last ≤ moment
    → Stands size first (moment ∷ list) (within mark moment)
stays size first moment list mark w h =
    let t : mark.older ≤ mark.last = w.there in
    record {
      all = (omega arith, all_later mark.last moment list h w.all);
      there = omega (arith, t, h);
      long = elim w.long [
        | inl same ↦ inl same
        | inr more ↦ inr (let m : count_from mark.older list ≤ count_from mark.older (moment ∷ list) = no_fewer mark.older moment list in omega (arith, more, m))
      ];
      newer = goes_on mark.newer w.newer;
    }
  where
    goes_on : (newer : Option ℕ) → Newer first list mark newer → Newer first (moment ∷ list) (within mark moment) newer
    goes_on None n = n
    goes_on (Some from) n =
        let l : from ≤ mark.last = n.2 in
        let o : from ≤ moment = omega (arith, l, h) in
        (one_more from moment list o ∙ ap (λ c. c + 1) n.0, n.1, o)

-- what holds of the window that begins once a block is over
abbrev Begun : ℕ → ℕ → ℕ → List ℕ → Mark → Option ℕ → Type 0
Begun size first moment list mark newer =
    ((begins mark.older newer ≡ first) ⊎ (size ≤ count_from (begins mark.older newer) (moment ∷ list))) × (begins mark.older newer ≤ moment)

turned : (size first moment : ℕ) (list : List ℕ) (mark : Mark) → Stands size first list mark → size ≤ mark.count → mark.last < moment
    → Stands size first (moment ∷ list) (behind mark moment)
turned size first moment list mark w full h =
    let v : Begun size first moment list mark mark.newer = begun mark.newer w.newer in
    record {
      all = (omega arith, all_later mark.last moment list (omega (arith, h)) w.all);
      there = v.1;
      long = v.0;
      newer = (one_more moment moment list (omega arith) ∙ ap (λ c. c + 1) (none_from moment mark.last list h w.all), v.1, omega arith);
    }
  where
    begun : (newer : Option ℕ) → Newer first list mark newer → Begun size first moment list mark newer
    begun None n = (inl n, (let t : mark.older ≤ mark.last = w.there in omega (arith, t, h)))
    begun (Some from) n =
        let l : from ≤ mark.last = n.2 in
        let c : count_from from list ≡ mark.count = n.0 in
        let m : count_from from list ≤ count_from from (moment ∷ list) = no_fewer from moment list in
        (inr (omega (arith, full, c, m)), omega (arith, l, h))

-- ---- behind any transmissions

last_is : (size moment : ℕ) (mark : Mark) → (with_moment size mark moment).last ≡ moment
last_is size moment mark = elim (is_over size mark moment) as (λ b. (cond b (behind mark moment) (within mark moment)).last ≡ moment) [
  | true ↦ refl
  | false ↦ refl
]

one_step : (size first moment : ℕ) (list : List ℕ) (mark : Mark) → Stands size first list mark → mark.last ≤ moment
    → Stands size first (moment ∷ list) (with_moment size mark moment)
one_step size first moment list mark w h = elim (cases_Bool (is_over size mark moment)) [
  | inl yes' ↦
      (let p = and_parts (nat_le size mark.count) (nat_lt mark.last moment) yes' in
      let full : size ≤ mark.count = leb-true size mark.count p.0 in
      let later : mark.last < moment = ltb-true mark.last moment p.1 in
      subst (λ b. Stands size first (moment ∷ list) (cond b (behind mark moment) (within mark moment))) (sym yes')
      (turned size first moment list mark w full later))
  | inr no' ↦
      subst (λ b. Stands size first (moment ∷ list) (cond b (behind mark moment) (within mark moment))) (sym no')
      (stays size first moment list mark w h)
]

stands : (size first : ℕ) (list : List ℕ) → Rise first list → Stands size first list (standing size first list)
stands size first [] h = record { all = tt; there = omega arith; long = inl refl; newer = refl }
stands size first (moment ∷ []) h = one_step size first moment [] (begin first) (stands size first [] tt) h
stands size first (moment ∷ one ∷ before) h =
    let same : (standing size first (one ∷ before)).last ≡ one = last_is size one (standing size first before) in
    let low : one ≤ moment = h.0 in
    one_step size first moment (one ∷ before) (standing size first (one ∷ before)) (stands size first (one ∷ before) h.1) (omega (arith, same, low))

pub windows_are_long : (size first moment : ℕ) (before : List ℕ) → Rise first (moment ∷ before)
    → IsWindow size first moment before (standing size first (moment ∷ before)).older
windows_are_long size first moment before h =
    let w = stands size first (moment ∷ before) h in
    let t : (standing size first (moment ∷ before)).older ≤ (standing size first (moment ∷ before)).last = w.there in
    let same : (standing size first (moment ∷ before)).last ≡ moment = last_is size moment (standing size first before) in
    record { there = omega (arith, t, same); long = w.long }
