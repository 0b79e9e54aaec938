-- What is written behind bit time 0 is what changes.
use Rattle.std.proofs.Common.{◌≡◌, ℕ, ◌-◌, true, false, not, ◌||◌, ◌⊎◌, cond, List, [], ◌∷◌, inl, inr, sym, refl, ap, ◌∙◌}
use Rattle.std.specs.Prelude.{◌≢◌, ◌↔◌}
use Rattle.std.specs.List.{AllByRecursion, list_any}
use Rattle.std.proofs.lemmas.Bool.{cases_Bool, not-false, or_parts, true≢false}
use Rattle.bus_strings.specs.Members.{In}
use Rattle.bus_dump.specs.DumpTexts.{changes, some_changes}
use Rattle.bus_dump.specs.Laws.{Changes, StaysSame}
use Rattle.bus_dump.specs.Scenes.{Scene}
use Rattle.bus_dump.specs.Signals.{Signal, value, is_same}
use Rattle.bus_dump.proofs.ChangeLemmas.{same_value}
use Rattle.bus_dump.proofs.ReadLemmas.{is_same_equal}

not_same : (before now : Scene) (s : Signal) → changes before now s ≡ true → value s before ≡ value s now → ⊥
not_same before now s h e =
    true≢false (sym h ∙ ap (λ v. not (is_same (value s before) v)) (sym e) ∙ ap not (same_value (value s before)))

change_is : (before now : Scene) (s : Signal) → (changes before now s ≡ true) ↔ (value s before ≢ value s now)
change_is before now s = (
  not_same before now s,
  λ h. elim (cases_Bool (is_same (value s before) (value s now))) [
    | inl yes' ↦ absurd (h (is_same_equal (value s before) (value s now) yes'))
    | inr no' ↦ ap not no'
  ],
)

none_change : (before now : Scene) (ss : List Signal) → list_any (changes before now) ss ≡ false
    → AllByRecursion (λ s. value s before ≡ value s now) ss
none_change before now [] h = tt
none_change before now (s ∷ ss) h =
    let parts = or_parts (changes before now s) (list_any (changes before now) ss) h in (
      is_same_equal (value s before) (value s now) (not-false (is_same (value s before) (value s now)) parts.0),
      none_change before now ss parts.1,
    )

some_change : (before now : Scene) (ss : List Signal) → list_any (changes before now) ss ≡ true → (s : Signal) × In s ss × (changes before now s ≡ true)
some_change before now [] h = absurd (true≢false (sym h))
some_change before now (s ∷ ss) h = elim (cases_Bool (changes before now s)) [
  | inl yes' ↦ (s, inl refl, yes')
  | inr no' ↦ (let more = some_change before now ss (sym (ap (λ b. b || list_any (changes before now) ss) no') ∙ h) in (more.0, inr more.1, more.2))
]

pub idle : (ss : List Signal) (scene : ℕ → Scene) (t : ℕ) → StaysSame ss scene t ⊎ Changes ss scene t
unfolding some_changes
idle ss scene t = elim (cases_Bool (list_any (changes (scene (t - 1)) (scene t)) ss)) [
  | inl yes' ↦
      let c = some_change (scene (t - 1)) (scene t) ss yes' in
      inr (record {
        signal = c.0;
        there = c.1;
        other = not_same (scene (t - 1)) (scene t) c.0 c.2;
        which = change_is (scene (t - 1)) (scene t);
        text = ap (λ b. cond b (some_changes ss (scene (t - 1)) (scene t) t) []) yes';
      })
  | inr no' ↦ inl (record {
    same = none_change (scene (t - 1)) (scene t) ss no';
    text = ap (λ b. cond b (some_changes ss (scene (t - 1)) (scene t) t) []) no';
  })
]
