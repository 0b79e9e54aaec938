-- What deciding adds to the list.
use Rattle.std.proofs.Common.{◌≡◌, ℕ, ◌<◌, List, [], ◌∷◌, ◌++◌, length, Option, Some, None, inl, inr, arith, sym, ap, ◌∙◌, subst, append_assoc}
use Rattle.std.specs.Option.{MatchOption}
use Rattle.std.proofs.lemmas.List.{append-nil}
use Rattle.bus_timers.specs.declared.cores.Core.{Ghosts}
use Rattle.bus_strings.specs.Messages.{Entry}
use Rattle.bus_medium.specs.Buses.{Seat}
use Rattle.bus_medium.specs.inside.Following.{Idle, Started}
use Rattle.bus_medium.specs.inside.Runs.{Grown}
use Rattle.bus_strings.proofs.MemberLaws.{in_push_cases}

pub grown_none : (t : ℕ) (l : List Entry) → Grown t l l
grown_none t l = record { more = []; is = sym (append-nil l); at = λ x i. absurd i; some = λ x i. absurd i }

pub grown_one : {C : Type 0} (core : Ghosts C) (t : ℕ) (l m n : List Entry) (x y : Seat C) (o : Option Entry) → Grown t l m → MatchOption o (Idle core x y) (λ e. Started core x y t e) → MatchOption o (n ≡ m) (λ e. n ≡ m ++ e ∷ []) → Grown t l n
grown_one core t l m n x y None so idle e = subst (Grown t l) (sym e) so
grown_one core t l m n x y (Some b) so st e = record {
  more = so.more ++ b ∷ [];
  is = e ∙ ap (λ w. w ++ b ∷ []) so.is ∙ append_assoc l so.more (b ∷ []);
  at = λ z i. elim (in_push_cases so.more b z i) [ inl old ↦ so.at z old | inr same ↦ ap (λ w. w.moment) same ∙ st.moment ];
  some = λ z i. elim (in_push_cases so.more b z i) [ inl old ↦ so.some z old | inr same ↦ let k : length z.message ≡ length b.message = ap (λ w. length w.message) same in let h : 0 < length b.message = st.some in omega arith ];
}
