-- The columns of a line, by their numbers.
use Rattle.std.specs.Prelude.{◌≡◌, ℕ}
use Rattle.std.proofs.Common.{ap, ◌∙◌}
use Rattle.bus_explain.specs.Senders.{last_columns}

pub same_last : (a b c x y z : ℕ) → a ≡ x → b ≡ y → c ≡ z → last_columns a b c ≡ last_columns x y z
same_last a b c x y z h k l = ap (λ n. last_columns n b c) h ∙ ap (λ n. last_columns x n c) k ∙ ap (last_columns x y) l
