-- The words of a table.
use Rattle.std.proofs.Common.{◌≡◌, ℕ, ap, ◌∙◌}
use Rattle.bus_table.specs.declared.mode.Mode.{Mode}
use Rattle.bus_shapes.specs.Sayings.{summary_words}

pub same_summary : (mode mode' : Mode) (ti ti' sg sg' senders senders' : ℕ) → mode ≡ mode' → ti ≡ ti' → sg ≡ sg' → senders ≡ senders'
    → summary_words mode ti sg senders ≡ summary_words mode' ti' sg' senders'
same_summary mode mode' ti ti' sg sg' senders senders' m t s n =
    ap (λ (k : Mode). summary_words k ti sg senders) m ∙ ap (λ (k : ℕ). summary_words mode' k sg senders) t
    ∙ ap (λ (k : ℕ). summary_words mode' ti' k senders) s ∙ ap (summary_words mode' ti' sg') n
