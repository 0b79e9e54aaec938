-- Senders are moved one by one, and the moved table is valid.
use Rattle.std.proofs.Common.{◌≡◌, ℕ, zero, suc, ◌+◌, ◌<◌, ◌≤◌, List, [], ◌∷◌, ◌++◌, length, take, get_or, inl, inr, arith, sym, ap}
use Rattle.std.proofs.Common.{◌∙◌, subst}
use Rattle.std.specs.List.{All}
use Rattle.std.specs.Prelude.{IsTrue}
use Rattle.std.proofs.lemmas.List.{take_all}
use Rattle.std.proofs.lemmas.List.Elements.{All-head, All-tail}
use Rattle.bus_strings.specs.Members.{In}
use Rattle.bus_table.specs.declared.mode.Mode.{Mode}
use Rattle.bus_table.specs.declared.mode.Mode.TheVariants.{Periodic}
use Rattle.bus_table.specs.Tables.{Sender, Listener, Table}
use Rattle.bus_table.specs.Valid.{is_valid}
use Rattle.bus_table.proofs.OffsetLaws.{kept_valid}
use Rattle.bus_table.specs.Offsets.{at_offset, at_offsets, with_offsets}

moved_more : (offsets : List ℕ) (senders : List Sender) (i at d : ℕ) (s : Sender) → i < length offsets → i < length senders
    → at ≡ get_or offsets i d → s ≡ get_or senders i s
    → at_offsets (take (suc i) offsets) (take (suc i) senders) ≡ at_offsets (take i offsets) (take i senders) ++ at_offset at s ∷ []
moved_more [] senders i at d s h k e f = absurd (omega arith)
moved_more (o ∷ offsets) [] i at d s h k e f = absurd (omega arith)
moved_more (o ∷ offsets) (t ∷ senders) zero at d s h k e f = ap (λ n. at_offset n t ∷ []) (sym e) ∙ ap (λ x. at_offset at x ∷ []) (sym f)
moved_more (o ∷ offsets) (t ∷ senders) (suc i) at d s h k e f =
    ap (λ l. at_offset o t ∷ l) (moved_more offsets senders i at d s (omega arith) (omega arith) e f)

pub moved_next : (offsets : List ℕ) (senders : List Sender) (i at d : ℕ) (s : Sender) → i < length offsets → i < length senders
    → at ≡ get_or offsets i d → s ≡ get_or senders i s
    → at_offsets (take (i + 1) offsets) (take (i + 1) senders) ≡ at_offsets (take i offsets) (take i senders) ++ at_offset at s ∷ []
moved_next offsets senders i at d s h k e f =
    let next : i + 1 ≡ suc i = omega arith in
    ap (λ n. at_offsets (take n offsets) (take n senders)) next ∙ moved_more offsets senders i at d s h k e f

pub moved_all : (offsets : List ℕ) (senders : List Sender) (n : ℕ) → length offsets ≤ n → length senders ≤ n
    → at_offsets (take n offsets) (take n senders) ≡ at_offsets offsets senders
moved_all offsets senders n h k =
    ap (λ os. at_offsets os (take n senders)) (take_all n offsets h)
    ∙ ap (at_offsets offsets) (take_all n senders k)

each_of : (P : ℕ → Type 0) (xs : List ℕ) → All P xs → (n : ℕ) → In n xs → P n
each_of P [] h n i = absurd i
each_of P (x ∷ xs) h n (inl e) = subst P (sym e) (All-head P x xs h)
each_of P (x ∷ xs) h n (inr i) = each_of P xs (All-tail P x xs h) n i

-- the parts of a valid table at other offsets
pub moved_valid : (table : Table) (offsets : List ℕ) (mode : Mode) (ti sg : ℕ) (senders : List Sender) (listeners : List Listener)
    → IsTrue (is_valid table) → table.mode ≡ Periodic → All (λ at. at < table.ti) offsets
    → mode ≡ table.mode → ti ≡ table.ti → sg ≡ table.sg → senders ≡ at_offsets offsets table.senders → listeners ≡ table.listeners
    → IsTrue (is_valid (record { mode = mode; ti = ti; sg = sg; senders = senders; listeners = listeners }))
moved_valid table offsets mode ti sg senders listeners valid periodic below m t g s l =
    let kept = kept_valid table offsets valid periodic (each_of (λ at. at < table.ti) offsets below) in
    let same : with_offsets offsets table ≡ (record { mode = mode; ti = ti; sg = sg; senders = senders; listeners = listeners }) = cc in
    subst (λ made. IsTrue (is_valid made)) same kept
