-- The least longest cycle.
use Rattle.std.specs.Prelude.{nat_le, IfSome, IsNone}
use Rattle.std.proofs.Common.{arith, ◌≡◌, ℕ, ◌+◌, ◌<◌, ◌≤◌, Bool, true, false, cond, List, [], ◌∷◌, length, Option, Some, None}
use Rattle.std.proofs.Common.{refl, sym, ◌∙◌, ap, subst, inl, inr}
use Rattle.std.proofs.lemmas.Bool.{cases_lt, true≢false}
use Rattle.std.proofs.lemmas.Bool.Decides.{nat_tests}
use Rattle.bus_bounds.specs.Bounds.{Bounds, most_clocks}
use Rattle.bus_gaps.specs.declared.speaker.Speaker.{Speaker}
use Rattle.bus_gaps.specs.declared.design.Design.{Design}
use Rattle.bus_gaps.specs.Designs.{AreAtMost, AreRoomy, AreNoneWith, AreNone, delay_among, spoken, cycle_of, IsDesign, IsBest, kept}
use Rattle.bus_gaps.proofs.Chains.{most_time_more}

-- with lesser gaps a cycle is no longer
spoken_more : (bounds : Bounds) (delay : ℕ) (senders : List Speaker) (gaps others : List ℕ) → bounds.clocks ≤ most_clocks → AreAtMost gaps others
    → spoken bounds delay senders gaps ≤ spoken bounds delay senders others
spoken_more bounds delay [] gaps others within h = omega arith
spoken_more bounds delay (a ∷ senders) [] others within h = omega arith
spoken_more bounds delay (a ∷ senders) (x ∷ gaps) [] within h = absurd h
spoken_more bounds delay (a ∷ senders) (x ∷ gaps) (y ∷ others) within h =
    let first = most_time_more bounds x y within h.0 in
    let rest = spoken_more bounds delay senders gaps others within h.1 in
    omega (arith, first, rest)

pub cycle_more : (bounds : Bounds) (senders : List Speaker) (sg : ℕ) (gaps others : List ℕ) → bounds.clocks ≤ most_clocks → AreAtMost gaps others
    → cycle_of bounds senders sg gaps ≤ cycle_of bounds senders sg others
cycle_more bounds senders sg gaps others within h =
    let rest = spoken_more bounds (delay_among bounds (length senders)) senders gaps others within h in omega (arith, rest)

-- the best of those with a synchronization gap below this one
pub record IsBestBelow (bounds : Bounds) (senders : List Speaker) (sg : ℕ) (design : Design) : Type 0 where
  pub own : IsDesign bounds senders design
  pub best : (n : ℕ) (others : List ℕ) → n < sg → AreRoomy bounds senders n others → design.cycle ≤ cycle_of bounds senders n others
  pub last : (n : ℕ) (others : List ℕ) → n < sg → AreRoomy bounds senders n others → cycle_of bounds senders n others ≡ design.cycle
      → n ≤ design.sg

abbrev pub AreBestBelow : Bounds → List Speaker → ℕ → Option Design → Type 0
AreBestBelow bounds senders sg None = (n : ℕ) → n < sg → AreNoneWith bounds senders n
AreBestBelow bounds senders sg (Some design) = IsBestBelow bounds senders sg design

pub below_start : (bounds : Bounds) (senders : List Speaker) → AreBestBelow bounds senders 9 None
below_start bounds senders n l others r = let least = r.least in omega (arith, least, l)

below_skip : (bounds : Bounds) (senders : List Speaker) (sg : ℕ) (known : Option Design) → AreNoneWith bounds senders sg
    → AreBestBelow bounds senders sg known → AreBestBelow bounds senders (sg + 1) known
below_skip bounds senders sg None none b =
    λ n l others r. elim (cases_lt n sg) [
      | inl less ↦ b n less others r
      | inr rest ↦ (let same : n ≡ sg = omega (arith, l, rest) in none others (subst (λ m. AreRoomy bounds senders m others) same r))
    ]
below_skip bounds senders sg (Some design) none b = record {
  own = b.own;
  best = λ n others l r. elim (cases_lt n sg) [
    | inl less ↦ b.best n others less r
    | inr rest ↦ (let same : n ≡ sg = omega (arith, l, rest) in absurd (none others (subst (λ m. AreRoomy bounds senders m others) same r)))
  ];
  last = λ n others l r e. elim (cases_lt n sg) [
    | inl less ↦ b.last n others less r e
    | inr rest ↦ (let same : n ≡ sg = omega (arith, l, rest) in absurd (none others (subst (λ m. AreRoomy bounds senders m others) same r)))
  ];
}

-- the least at its own synchronization gap
design_least : (bounds : Bounds) (senders : List Speaker) (sg : ℕ) (made : Design) (n : ℕ) (others : List ℕ) → bounds.clocks ≤ most_clocks
    → made.sg ≡ sg → IsDesign bounds senders made → n ≡ sg → AreRoomy bounds senders n others → made.cycle ≤ cycle_of bounds senders n others
design_least bounds senders sg made n others within own is same r =
    let at : n ≡ made.sg = same ∙ sym own in
    let r2 : AreRoomy bounds senders made.sg others = subst (λ m. AreRoomy bounds senders m others) at r in
    let less = cycle_more bounds senders made.sg made.gaps.items others within (is.gaps.least others r2) in
    let e = is.cycle in
    let f : cycle_of bounds senders n others ≡ cycle_of bounds senders made.sg others = ap (λ m. cycle_of bounds senders m others) at in
    omega (arith, less, e, f)

take_made : (bounds : Bounds) (senders : List Speaker) (sg : ℕ) (made : Design) → bounds.clocks ≤ most_clocks → made.sg ≡ sg
    → IsDesign bounds senders made
    → ((n : ℕ) (others : List ℕ) → n < sg → AreRoomy bounds senders n others → made.cycle ≤ cycle_of bounds senders n others)
    → IsBestBelow bounds senders (sg + 1) made
take_made bounds senders sg made within own is below = record {
  own = is;
  best = λ n others l r. elim (cases_lt n sg) [
    | inl less ↦ below n others less r
    | inr rest ↦ design_least bounds senders sg made n others within own is (omega (arith, l, rest)) r
  ];
  last = λ n others l r e. omega (arith, l, own);
}

choose : (bounds : Bounds) (senders : List Speaker) (sg : ℕ) (known made : Design) (b : Bool) → nat_le made.cycle known.cycle ≡ b
    → bounds.clocks ≤ most_clocks → made.sg ≡ sg → IsDesign bounds senders made → IsBestBelow bounds senders sg known
    → IsBestBelow bounds senders (sg + 1) (cond b made known)
choose bounds senders sg known made true e within own is b =
    let l : made.cycle ≤ known.cycle = grind (arith, nat_tests, e) in
    take_made bounds senders sg made within own is (λ n others less r. (let k = b.best n others less r in omega (arith, l, k)))
choose bounds senders sg known made false e within own is b =
    let l : known.cycle < made.cycle = grind (arith, nat_tests, e) in record {
      own = b.own;
      best = λ n others m r. elim (cases_lt n sg) [
        | inl less ↦ b.best n others less r
        | inr rest ↦ (let k = design_least bounds senders sg made n others within own is (omega (arith, m, rest)) r in omega (arith, l, k))
      ];
      last = λ n others m r s. elim (cases_lt n sg) [
        | inl less ↦ b.last n others less r s
        | inr rest ↦ absurd (let k = design_least bounds senders sg made n others within own is (omega (arith, m, rest)) r in omega (arith, l, k, s))
      ];
    }

pub below_next : (bounds : Bounds) (senders : List Speaker) (sg : ℕ) (known made : Option Design) → bounds.clocks ≤ most_clocks
    → IfSome made (λ design. (design.sg ≡ sg) × IsDesign bounds senders design) → (IsNone made → AreNoneWith bounds senders sg)
    → AreBestBelow bounds senders sg known → AreBestBelow bounds senders (sg + 1) (kept known made)
below_next bounds senders sg None None within is none b = below_skip bounds senders sg None (none refl) b
below_next bounds senders sg (Some known) None within is none b = below_skip bounds senders sg (Some known) (none refl) b
below_next bounds senders sg None (Some made) within is none b =
    take_made bounds senders sg made within is.0 is.1 (λ n others less r. absurd (b n less others r))
below_next bounds senders sg (Some known) (Some made) within is none b =
    choose bounds senders sg known made (nat_le made.cycle known.cycle) refl within is.0 is.1 b

-- that below the first one that is too great is the best of all
pub best_whole : (bounds : Bounds) (senders : List Speaker) (sg : ℕ) (best : Option Design) → 1025 ≤ sg → AreBestBelow bounds senders sg best
    → IfSome best (IsBest bounds senders)
best_whole bounds senders sg None l b = tt
best_whole bounds senders sg (Some design) l b = record {
  own = b.own;
  best = λ n others r. b.best n others (let most = r.most in omega (arith, most, l)) r;
  last = λ n others r e. b.last n others (let most = r.most in omega (arith, most, l)) r e;
}

pub none_whole : (bounds : Bounds) (senders : List Speaker) (sg : ℕ) (best : Option Design) → 1025 ≤ sg → AreBestBelow bounds senders sg best
    → IsNone best → AreNone bounds senders
none_whole bounds senders sg None l b n sg2 others r = b sg2 (let most = r.most in omega (arith, most, l)) others r
none_whole bounds senders sg (Some design) l b n sg2 others r = absurd (true≢false n)
