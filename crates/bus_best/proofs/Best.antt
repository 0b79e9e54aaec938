-- What is computed is the best.
use Rattle.std.specs.Prelude.{nat_le, ◌==◌}
use Rattle.std.specs.Option.{option_map}
use Rattle.std.proofs.Common.{arith, ◌≡◌, ℕ, zero, suc, ◌+◌, ◌<◌, ◌≤◌, Bool, true, false, cond, List, [], ◌∷◌, length, Some, None, Option}
use Rattle.std.proofs.Common.{refl, sym, ◌∙◌, ap, subst, inl, inr}
use Rattle.std.proofs.lemmas.Bool.{cases_lt, and_parts, and_from, true≢false}
use Rattle.std.proofs.lemmas.Bool.Decides.{nat_tests}
use Rattle.bus_bounds.specs.Bounds.{Bounds, most_clocks}
use Rattle.bus_gaps.specs.declared.speaker.Speaker.{Speaker}
use Rattle.bus_gaps.specs.Gaps.{least_time, most_time, drop_of, first_low, next_low, AreTaken, Takes}
use Rattle.bus_gaps.specs.Designs.{AreAtMost, AreNoneWith, AreRoomy, cycle_of}
use Rattle.bus_gaps.proofs.Cycles.{cycle_more}
use Rattle.bus_best.specs.Bests.{Best, BestIsBest, IsAnswer, best_among, best_of, best_with, better, first_from, gaps_from, least_taken, takes, with_gaps, with_rest}
use Rattle.bus_best.proofs.Meaning.{next_more, waits_true, true_waits}

-- ---- the first number that passes
record First (test : ℕ → Bool) (x n y : ℕ) : Type 0 where
  passes : test y ≡ true
  from : x ≤ y
  within : y < x + n
  least : (z : ℕ) → x ≤ z → test z ≡ true → y ≤ z

abbrev Finds : (ℕ → Bool) → ℕ → ℕ → Option ℕ → Type 0
Finds test x n None = (z : ℕ) → x ≤ z → z < x + n → test z ≡ true → ⊥
Finds test x n (Some y) = First test x n y

one_more : (test : ℕ → Bool) (x n : ℕ) (b : Bool) → test x ≡ b → Finds test (suc x) n (first_from test (suc x) n)
    → Finds test x (suc n) (cond b (Some x) (first_from test (suc x) n))
one_more test x n true e rest = record { passes = e; from = omega arith; within = omega arith; least = λ z l t. l }
one_more test x n false e rest = later (first_from test (suc x) n) rest where
  later : (o : Option ℕ) → Finds test (suc x) n o → Finds test x (suc n) o
  later None none = λ z l m t.
      elim (cases_lt x z) [
        | inl more ↦ none z more (omega (arith, m)) t
        | inr rest ↦ (let same : z ≡ x = omega (arith, l, rest) in true≢false (sym t ∙ ap test same ∙ e))
      ]
  later (Some y) f = (let from = f.from in let within = f.within in record {
    passes = f.passes;
    from = omega (arith, from);
    within = omega (arith, within);
    least = λ z l t. elim (cases_lt x z) [
      | inl more ↦ f.least z more t
      | inr rest ↦ absurd (let same : z ≡ x = omega (arith, l, rest) in true≢false (sym t ∙ ap test same ∙ e))
    ];
  })

first_finds : (test : ℕ → Bool) (x n : ℕ) → Finds test x n (first_from test x n)
unfolding first_from
first_finds test x zero = λ z l m t. omega (arith, l, m)
first_finds test x (suc n) = one_more test x n (test x) refl (first_finds test (suc x) n)

-- ---- one gap
takes_told : (bounds : Bounds) (sg : ℕ) (alone : Bool) (a : Speaker) (low x : ℕ) → 8 ≤ x → x < 257 → takes bounds sg alone a low x ≡ true
    → Takes bounds sg alone a low x
takes_told bounds sg alone a low x least most e =
    let p = and_parts (nat_le low (least_time bounds x)) _ e in
    let q = and_parts (nat_le (most_time bounds 1000) (least_time bounds a.shortest + least_time bounds sg + most_time bounds x)) _ p.1 in
    let lasts = p.0 in let outlasts = q.0 in
    record {
      least = least;
      most = omega (arith, most);
      lasts = grind (arith, nat_tests, lasts);
      outlasts = grind (arith, nat_tests, outlasts);
      waits = waits_true bounds sg alone x q.1;
    }

takes_tell : (bounds : Bounds) (sg : ℕ) (alone : Bool) (a : Speaker) (low high x : ℕ) → bounds.clocks ≤ most_clocks → low ≤ high
    → Takes bounds sg alone a high x → takes bounds sg alone a low x ≡ true
takes_tell bounds sg alone a low high x within l t =
    let lasts = t.lasts in let outlasts = t.outlasts in
    and_from _ _ (grind (arith, nat_tests, lasts, l)) (and_from _ _ (grind (arith, nat_tests, outlasts)) (true_waits bounds sg alone x x within (omega arith) t.waits))

-- ---- a gap for each
module _ (bounds : Bounds) (sg : ℕ) (alone : Bool) (within : bounds.clocks ≤ most_clocks) where
  record Least (low : ℕ) (senders : List Speaker) (gaps : List ℕ) : Type 0 where
    taken : AreTaken bounds sg alone low senders gaps
    least : (high : ℕ) (others : List ℕ) → low ≤ high → AreTaken bounds sg alone high senders others → AreAtMost gaps others

  abbrev Gives : ℕ → List Speaker → Option (List ℕ) → Type 0
  Gives low senders None = (high : ℕ) (others : List ℕ) → low ≤ high → AreTaken bounds sg alone high senders others → ⊥
  Gives low senders (Some gaps) = Least low senders gaps

  no_gap : (low : ℕ) (a : Speaker) (senders : List Speaker) → Finds (takes bounds sg alone a low) 8 249 None → Gives low (a ∷ senders) None
  no_gap low a senders none high [] l t = t
  no_gap low a senders none high (y ∷ others) l t =
      let least = t.0.least in let most = t.0.most in
      none y least (omega (arith, most)) (takes_tell bounds sg alone a low high y within l t.0)

  no_rest : (low : ℕ) (a : Speaker) (senders : List Speaker) (x : ℕ) → First (takes bounds sg alone a low) 8 249 x
      → Gives (next_low bounds sg x) senders None → Gives low (a ∷ senders) None
  no_rest low a senders x f none high [] l t = t
  no_rest low a senders x f none high (y ∷ others) l t =
      let up : x ≤ y = f.least y t.0.least (takes_tell bounds sg alone a low high y within l t.0) in
      none (next_low bounds sg y) others (next_more bounds sg sg x y within (omega arith) up) t.1

  one_gap : (low : ℕ) (a : Speaker) (senders : List Speaker) (x : ℕ) (gaps : List ℕ) → First (takes bounds sg alone a low) 8 249 x
      → Least (next_low bounds sg x) senders gaps → Least low (a ∷ senders) (x ∷ gaps)
  one_gap low a senders x gaps f rest = record {
    taken = (takes_told bounds sg alone a low x f.from f.within f.passes, rest.taken);
    least = least;
  } where
    least : (high : ℕ) (others : List ℕ) → low ≤ high → AreTaken bounds sg alone high (a ∷ senders) others → AreAtMost (x ∷ gaps) others
    least high [] l t = absurd t
    least high (y ∷ others) l t =
        let up : x ≤ y = f.least y t.0.least (takes_tell bounds sg alone a low high y within l t.0) in
        (up, rest.least (next_low bounds sg y) others (next_more bounds sg sg x y within (omega arith) up) t.1)

  gaps_give : (low : ℕ) (senders : List Speaker) → Gives low senders (gaps_from bounds sg alone low senders)
  gaps_give low [] = record { taken = tt; least = least } where
    least : (high : ℕ) (others : List ℕ) → low ≤ high → AreTaken bounds sg alone high [] others → AreAtMost [] others
    least high [] l t = tt
    least high (y ∷ others) l t = absurd t
  gaps_give low (a ∷ senders) =
      here (λ x. gaps_give (next_low bounds sg x) senders) (least_taken bounds sg alone a low) (first_finds (takes bounds sg alone a low) 8 249)
    where
      then : (x : ℕ) (o : Option (List ℕ)) → First (takes bounds sg alone a low) 8 249 x → Gives (next_low bounds sg x) senders o
          → Gives low (a ∷ senders) (option_map (λ gaps. x ∷ gaps) o)
      then x None f g = no_rest low a senders x f g
      then x (Some gaps) f g = one_gap low a senders x gaps f g

      here : ((x : ℕ) → Gives (next_low bounds sg x) senders (gaps_from bounds sg alone (next_low bounds sg x) senders)) → (o : Option ℕ)
          → Finds (takes bounds sg alone a low) 8 249 o
          → Gives low (a ∷ senders) (with_rest o (λ x. gaps_from bounds sg alone (next_low bounds sg x) senders))
      here rest None f = no_gap low a senders f
      here rest (Some x) f = then x (gaps_from bounds sg alone (next_low bounds sg x) senders) f (rest x)

-- ---- one synchronization gap
record With (bounds : Bounds) (senders : List Speaker) (sg : ℕ) (best : Best) : Type 0 where
  own : best.sg ≡ sg
  roomy : AreRoomy bounds senders best.sg best.gaps
  cycle : best.cycle ≡ cycle_of bounds senders best.sg best.gaps
  least : (others : List ℕ) → AreRoomy bounds senders best.sg others → AreAtMost best.gaps others

abbrev GivesWith : Bounds → List Speaker → ℕ → Option Best → Type 0
GivesWith bounds senders sg None = AreNoneWith bounds senders sg
GivesWith bounds senders sg (Some best) = With bounds senders sg best

with_gives : (bounds : Bounds) (senders : List Speaker) (sg : ℕ) → bounds.clocks ≤ most_clocks → 9 ≤ sg → sg ≤ 1024
    → GivesWith bounds senders sg (best_with bounds senders sg)
with_gives bounds senders sg within low high = by (nat_le (drop_of bounds) (least_time bounds sg)) refl where
  alone : Bool
  alone = length senders == 1

  each : (o : Option (List ℕ)) → drop_of bounds ≤ least_time bounds sg
      → Gives bounds sg (length senders == 1) within (first_low bounds sg (length senders == 1)) senders o
      → GivesWith bounds senders sg (option_map (with_gaps bounds senders sg) o)
  each None whole none = λ others r. none _ others (omega arith) r.taken
  each (Some gaps) whole g = record {
    own = refl;
    roomy = record { least = low; most = high; whole = whole; taken = g.taken };
    cycle = refl;
    least = λ others r. g.least _ others (omega arith) r.taken;
  }

  by : (b : Bool) → nat_le (drop_of bounds) (least_time bounds sg) ≡ b
      → GivesWith bounds senders sg (cond b (option_map (with_gaps bounds senders sg) (gaps_from bounds sg (length senders == 1) (first_low bounds sg (length senders == 1)) senders)) None)
  by true e =
      each (gaps_from bounds sg (length senders == 1) (first_low bounds sg (length senders == 1)) senders) (grind (arith, nat_tests, e))
      (gaps_give bounds sg (length senders == 1) within (first_low bounds sg (length senders == 1)) senders)
  by false e = λ others r. (let less : least_time bounds sg < drop_of bounds = grind (arith, nat_tests, e) in let whole = r.whole in omega (arith, less, whole))

-- ---- the best of those below one
record BestBelow (bounds : Bounds) (senders : List Speaker) (sg : ℕ) (found : Best) : Type 0 where
  roomy : AreRoomy bounds senders found.sg found.gaps
  cycle : found.cycle ≡ cycle_of bounds senders found.sg found.gaps
  least : (others : List ℕ) → AreRoomy bounds senders found.sg others → AreAtMost found.gaps others
  best : (n : ℕ) (others : List ℕ) → n < sg → AreRoomy bounds senders n others → found.cycle ≤ cycle_of bounds senders n others
  last : (n : ℕ) (others : List ℕ) → n < sg → AreRoomy bounds senders n others → cycle_of bounds senders n others ≡ found.cycle → n ≤ found.sg

abbrev Below : Bounds → List Speaker → ℕ → Option Best → Type 0
Below bounds senders sg None = (n : ℕ) → n < sg → AreNoneWith bounds senders n
Below bounds senders sg (Some best) = BestBelow bounds senders sg best

module _ (bounds : Bounds) (senders : List Speaker) (within : bounds.clocks ≤ most_clocks) where
  here_none : (sg n : ℕ) (others : List ℕ) → n < suc sg → sg ≤ n → AreNoneWith bounds senders sg → AreRoomy bounds senders n others → ⊥
  here_none sg n others l m none r = let same : n ≡ sg = omega (arith, l, m) in none others (subst (λ k. AreRoomy bounds senders k others) same r)

  here_least : (sg : ℕ) (made : Best) (n : ℕ) (others : List ℕ) → With bounds senders sg made → n ≡ sg → AreRoomy bounds senders n others
      → made.cycle ≤ cycle_of bounds senders n others
  here_least sg made n others w same r =
      let at : n ≡ made.sg = same ∙ sym w.own in
      let own : AreRoomy bounds senders made.sg others = subst (λ k. AreRoomy bounds senders k others) at r in
      let less = cycle_more bounds senders made.sg made.gaps others within (w.least others own) in
      let e = w.cycle in
      let f : cycle_of bounds senders n others ≡ cycle_of bounds senders made.sg others = ap (λ k. cycle_of bounds senders k others) at in
      omega (arith, less, e, f)

  skip : (sg : ℕ) (known : Option Best) → AreNoneWith bounds senders sg → Below bounds senders sg known → Below bounds senders (suc sg) known
  skip sg None none b = λ n l others r. elim (cases_lt n sg) [
    | inl less ↦ b n less others r
    | inr rest ↦ here_none sg n others l rest none r
  ]
  skip sg (Some known) none b = record {
    roomy = b.roomy;
    cycle = b.cycle;
    least = b.least;
    best = λ n others l r. elim (cases_lt n sg) [
      | inl less ↦ b.best n others less r
      | inr rest ↦ absurd (here_none sg n others l rest none r)
    ];
    last = λ n others l r e. elim (cases_lt n sg) [
      | inl less ↦ b.last n others less r e
      | inr rest ↦ absurd (here_none sg n others l rest none r)
    ];
  }

  take : (sg : ℕ) (made : Best) → With bounds senders sg made
      → ((n : ℕ) (others : List ℕ) → n < sg → AreRoomy bounds senders n others → made.cycle ≤ cycle_of bounds senders n others)
      → BestBelow bounds senders (suc sg) made
  take sg made w below = (let own = w.own in record {
    roomy = w.roomy;
    cycle = w.cycle;
    least = w.least;
    best = λ n others l r. elim (cases_lt n sg) [
      | inl less ↦ below n others less r
      | inr rest ↦ here_least sg made n others w (omega (arith, l, rest)) r
    ];
    last = λ n others l r e. omega (arith, l, own);
  })

  choose : (sg : ℕ) (known made : Best) (b : Bool) → nat_le made.cycle known.cycle ≡ b → With bounds senders sg made
      → BestBelow bounds senders sg known → BestBelow bounds senders (suc sg) (cond b made known)
  choose sg known made true e w b =
      let l : made.cycle ≤ known.cycle = grind (arith, nat_tests, e) in
      take sg made w (λ n others less r. let k = b.best n others less r in omega (arith, l, k))
  choose sg known made false e w b =
      let l : known.cycle < made.cycle = grind (arith, nat_tests, e) in record {
        roomy = b.roomy;
        cycle = b.cycle;
        least = b.least;
        best = λ n others m r. elim (cases_lt n sg) [
          | inl less ↦ b.best n others less r
          | inr rest ↦ (let k = here_least sg made n others w (omega (arith, m, rest)) r in omega (arith, l, k))
        ];
        last = λ n others m r s. elim (cases_lt n sg) [
          | inl less ↦ b.last n others less r s
          | inr rest ↦ absurd (let k = here_least sg made n others w (omega (arith, m, rest)) r in omega (arith, l, k, s))
        ];
      }

  next : (sg : ℕ) (known made : Option Best) → GivesWith bounds senders sg made → Below bounds senders sg known
      → Below bounds senders (suc sg) (better known made)
  next sg None None g b = skip sg None g b
  next sg (Some known) None g b = skip sg (Some known) g b
  next sg None (Some made) g b = take sg made g (λ n others less r. absurd (b n less others r))
  next sg (Some known) (Some made) g b = choose sg known made (nat_le made.cycle known.cycle) refl g b

  among : (n : ℕ) → n ≤ 1016 → Below bounds senders (9 + n) (best_among bounds senders n)
  unfolding best_among
  among zero most = λ n l others r. let least = r.least in omega (arith, least, l)
  among (suc n) most =
      let e : suc (9 + n) ≡ 9 + suc n = omega arith in
      subst (λ sg. Below bounds senders sg (better (best_among bounds senders n) (best_with bounds senders (9 + n)))) e
      (next (9 + n) (best_among bounds senders n) (best_with bounds senders (9 + n))
      (with_gives bounds senders (9 + n) within (omega arith) (omega (arith, most))) (among n (omega (arith, most))))

  whole : (o : Option Best) → Below bounds senders 1025 o → IsAnswer bounds senders o
  whole None b = λ sg others r. b sg (let most = r.most in omega (arith, most)) others r
  whole (Some best) b = record {
    roomy = b.roomy;
    cycle = b.cycle;
    best = λ sg others r. b.best sg others (let most = r.most in omega (arith, most)) r;
    last = λ sg others r e. b.last sg others (let most = r.most in omega (arith, most)) r e;
    least = b.least;
  }

pub best_is_best : BestIsBest
best_is_best bounds senders within = whole bounds senders within (best_of bounds senders) (among bounds senders within 1016 (omega arith))
