use Rattle.std.proofs.Common.{ℕ, ◌<◌, ◌≡◌, ◌∙◌, Result, Ok, Err, subst, sym, ap, rules}
use Rattle.std.specs.List.{All}
use Rattle.std.specs.List.Sorted.{IsNonDecreasingBy}
use Rattle.std.proofs.lemmas.List.Sorted.{All-permutation, IsNonDecreasingBy-from_sort_by_key, list_any-IsPermutation}
use Rattle.std.specs.Result.{IfOk}
use Rattle.bus_load.specs.Loads.{Stretch, AreApart, IsCarrierOf, has, is_within}
use Rattle.bus_load.proofs.gathering.carrier_stretches.Goals as goal

pub joined-requires-clause-some : goal.joined-requires-clause-some
joined-requires-clause-some c =
    let P = λ (s : Stretch). s.from < s.to in
    subst (All P) (sym c.deref-2.ensures.value)
    (All-permutation P _ _ c.sort_unstable_by_key.ensures.permutation c.in_ok-stretches.ensures.some)

pub joined-requires-clause-order : goal.joined-requires-clause-order
joined-requires-clause-order c =
    subst (IsNonDecreasingBy (λ (s : Stretch). s.from)) (sym c.deref-2.ensures.value)
    (IsNonDecreasingBy-from_sort_by_key (λ (s : Stretch). s.from) _ c.sort_unstable_by_key.ensures.sorted (λ a r q k. search rules))

both_ok : {T E : Type 0} (P Q R : T → Type 0) → ((x : T) → P x → Q x → R x) → (r : Result T E) → IfOk r P → IfOk r Q → IfOk r R
both_ok P Q R f (Ok x) p q = f x p q
both_ok P Q R f (Err e) p q = tt

pub returns : goal.returns
returns c =
    both_ok (λ v. AreApart v.items) (λ v. (t : ℕ) → is_within v.items t ≡ is_within c.deref-2.result.now t) (λ v. IsCarrierOf v.items c.args.list.now)
    (λ v apart within. record {
      apart = apart;
      within = λ t.
          within t ∙ ap (λ ss. is_within ss t) c.deref-2.ensures.value
          ∙ sym (list_any-IsPermutation (has t) _ _ c.sort_unstable_by_key.ensures.permutation) ∙ c.in_ok-stretches.ensures.within t;
    }) c.joined.result c.joined.ensures.apart c.joined.ensures.within
