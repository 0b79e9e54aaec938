-- The places of the senders by the label words with which their messages begin.
use Rattle.std.proofs.Common.{arith, ◌≡◌, ◌≢◌, ℕ, suc, ◌+◌, ◌*◌, ◌/◌, ◌%◌, ◌<◌, Bool, true, false, cond, ◌&&◌, ◌==◌, List, ◌∷◌, length, Some}
use Rattle.std.proofs.Common.{refl, sym, ap, ◌∙◌, get_or, set, drop, drop-cons, ◌≤◌}
use Rattle.std.specs.Prelude.{replicate}
use Rattle.std.proofs.Math.Seq.{drop-length}
use Rattle.std.proofs.lemmas.Bool.{eqb-true, ne_eqb}
use Rattle.std.proofs.lemmas.Bool.Decides.{nat_tests}
use Rattle.std.proofs.lemmas.Grind.{get_or-set_at}
use Rattle.std.proofs.lemmas.Option.{slice_get_read}
use Rattle.std.proofs.lemmas.List.{get_or-set_other, get_or-replicate}
use Rattle.bus_table.specs.Tables.{Sender}
use Rattle.bus_wave.specs.inside.Beginning.{sender_at}
use Rattle.bus_wave.specs.Judging.{begins, beginner}

-- the label word of a SEND line
pub label_word_is : (value label ext : ℕ) → ext < 16 → (value / 16 == label && value % 16 == ext) ≡ (value == 16 * label + ext)
label_word_is value label ext low = by_test (value == 16 * label + ext) refl where
  by_test : (b : Bool) → (value == 16 * label + ext) ≡ b → (value / 16 == label && value % 16 == ext) ≡ b
  by_test true e =
      let same : value ≡ 16 * label + ext = eqb-true _ _ e in
      grind (arith, nat_tests, (let a : value / 16 ≡ label = omega arith in a), (let b : value % 16 ≡ ext = omega arith in b))
  by_test false e = by_label (value / 16 == label) refl where
    other : value / 16 ≡ label → value % 16 ≢ ext
    other a b = absurd (let same : value ≡ 16 * label + ext = omega arith in grind (arith, nat_tests))

    by_label : (b : Bool) → (value / 16 == label) ≡ b → (b && value % 16 == ext) ≡ false
    by_label false a = refl
    by_label true a = ne_eqb (value % 16) ext (other (eqb-true _ _ a))

-- no sender is placed
pub none_placed : (senders : List Sender) (places : List ℕ) (count : ℕ) → places ≡ replicate count 0 → (value : ℕ) → value < count
    → sender_at senders (get_or places value 0) ≡ beginner (drop (length senders) senders) value
none_placed senders places count none value low =
    ap (λ ps. sender_at senders (get_or ps value 0)) none ∙ ap (sender_at senders) (get_or-replicate count value 0 0 low)
    ∙ sym (ap (λ ss. beginner ss value) (drop-length senders))

-- the place of one sender more
pub place_more : (senders : List Sender) (s : Sender) (places : List ℕ) (k place word : ℕ) → place ≡ suc k → place ≤ length senders
    → s ≡ get_or senders k s → ((value : ℕ) → begins value s.sends ≡ (value == word)) → word < length places
    → ((value : ℕ) → value < 65536 → sender_at senders (get_or places value 0) ≡ beginner (drop place senders) value)
    → (value : ℕ) → value < 65536 → sender_at senders (get_or (set places word place) value 0) ≡ beginner (drop k senders) value
place_more senders s places k place word next within is test room h value low =
    by_test (value == word) refl ∙ sym (ap (λ ss. beginner ss value) front)
  where
    less : k < length senders
    less = omega (arith, next, within)

    here : sender_at senders place ≡ Some s
    here = ap (sender_at senders) next ∙ slice_get_read senders (length senders) k s refl less is

    front : drop k senders ≡ s ∷ drop place senders
    front = drop-cons senders k s less ∙ ap (λ x. x ∷ drop (suc k) senders) (sym is) ∙ ap (λ n. s ∷ drop n senders) (sym next)

    by_test : (b : Bool) → (value == word) ≡ b
        → sender_at senders (get_or (set places word place) value 0) ≡ cond (begins value s.sends) (Some s) (beginner (drop place senders) value)
    by_test true e =
        ap (sender_at senders) (get_or-set_at places word value place 0 (eqb-true _ _ e) room) ∙ here
        ∙ sym (ap (λ b. cond b (Some s) (beginner (drop place senders) value)) (test value ∙ e))
    by_test false e =
        let other : value ≢ word = grind (arith, nat_tests) in
        ap (sender_at senders) (get_or-set_other places word value place 0 other) ∙ h value low
        ∙ sym (ap (λ b. cond b (Some s) (beginner (drop place senders) value)) (test value ∙ e))
