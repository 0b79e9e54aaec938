-- Numbers that differ still do in any order.
use Rattle.std.specs.Prelude.{◌≡◌, ◌≢◌, ◌⊎◌, nat_lt, ℕ, true, false, List, [], ◌∷◌}
use Rattle.std.proofs.Common.{inl, inr, sym, ap, ◌∙◌, cond, refl}
use Rattle.bus_strings.specs.Members.{In}
use Rattle.bus_table.specs.Tables.{Sender}
use Rattle.bus_table.specs.inside.Orders.{Differ}
use Rattle.bus_table.specs.Turns.{insert, sort}
use Rattle.bus_table.proofs.TurnLaws.{from_sort}

insert_from : (key : Sender → ℕ) (a : Sender) (bs : List Sender) (x : Sender) → In x (insert key a bs) → (x ≡ a) ⊎ In x bs
insert_from key a [] x h = h
insert_from key a (c ∷ cs) x h =
    elim (nat_lt (key a) (key c)) as (λ w. In x (cond w (a ∷ (c ∷ cs)) (c ∷ insert key a cs)) → (x ≡ a) ⊎ In x (c ∷ cs)) [
      | true ↦ λ k. k
      | false ↦ λ k. elim k [ inl same ↦ inr (inl same) | inr r ↦ elim (insert_from key a cs x r) [ inl e ↦ inl e | inr i ↦ inr (inr i) ] ]
    ] h

insert_differ : (key f : Sender → ℕ) (a : Sender) (bs : List Sender) → ((b : Sender) → In b bs → f a ≢ f b) → Differ f bs
    → Differ f (insert key a bs)
insert_differ key f a [] h d = ((λ b i. absurd i), tt)
insert_differ key f a (c ∷ cs) h d =
    elim (nat_lt (key a) (key c)) as (λ w. Differ f (cond w (a ∷ (c ∷ cs)) (c ∷ insert key a cs))) [
      | true ↦ (h, d)
      | false ↦ (
        (λ b i. elim (insert_from key a cs b i) [ inl e ↦ λ k. h c (inl refl) (sym (k ∙ ap f e)) | inr j ↦ d.0 b j ]),
        insert_differ key f a cs (λ b i. h b (inr i)) d.1,
      )
    ]

pub sort_differ : (key f : Sender → ℕ) (bs : List Sender) → Differ f bs → Differ f (sort key bs)
sort_differ key f [] d = tt
sort_differ key f (a ∷ bs) d = insert_differ key f a (sort key bs) (λ b i. d.0 b (from_sort key bs b i)) (sort_differ key f bs d.1)
