-- A walk over a list finds whether the line of a gap or of a transmit interval is drawn.
use Rattle.std.proofs.Common.{◌≡◌, ℕ, ◌+◌, ◌<◌, Bool, true, false, List, [], ◌∷◌, length, take, Option, Some, arith, refl, ap, subst, ◌∙◌}
use Rattle.std.specs.Prelude.{◌&&◌, ◌||◌, ◌==◌, slice_get}
use Rattle.std.specs.List.{list_any}
use Rattle.std.proofs.lemmas.Bool.{or_from}
use Rattle.std.proofs.lemmas.List.{length-take}
use Rattle.std.proofs.lemmas.List.Folds.{list_any-append}
use Rattle.bus_strings.proofs.MemberLaws.{any_in}
use Rattle.bus_strings.specs.Members.{In}
use Rattle.bus_strings.specs.Messages.{Entry}
use Rattle.bus_pen.specs.declared.scale.Scale.{Scale}
use Rattle.bus_shapes.specs.declared.sent.Sent.{Sent}
use Rattle.bus_shapes.specs.Sending.{sent_of, sents, sents_from}
use Rattle.bus_picture.specs.Gaps.{Heard, heard_of, is_first}
use Rattle.bus_picture.specs.Intervals.{last_start}
use Rattle.bus_picture.specs.Kinds.{has_gap_before, has_interval_before, is_gap, is_interval}
use Rattle.bus_picture.specs.Timers.{LaneTimings}
use Rattle.bus_picture.specs.inside.Starting.{Hearing, any_first, heard_gap, is_gap_before, is_interval_before}
use Rattle.bus_picture.proofs.IntervalLemmas.{sent_in}
use Rattle.bus_picture.proofs.StartLemmas.{take_next, told_push, within_list}

-- ---- the first transmissions of a list
or_none : (a : Bool) → (a || false) ≡ a
or_none true = refl
or_none false = refl

any_more : (test : Sent → Bool) (list : List Entry) (k : ℕ) (x : Entry) → slice_get list k ≡ Some x
    → any_first test list (k + 1) ≡ (any_first test list k || test (sent_of list k x))
any_more test list k x at =
    let within : k < length list = within_list k list x at in
    let long : 0 + length (take k list) ≡ k = omega (arith, length-take k list) in
    ap (λ (l : List Entry). list_any test (sents_from list 0 l)) (take_next k list x at)
    ∙ ap (list_any test) (told_push list 0 (take k list) x)
    ∙ list_any-append test (sents_from list 0 (take k list)) (sent_of list (0 + length (take k list)) x ∷ [])
    ∙ ap (λ b. any_first test list k || b) (or_none (test (sent_of list (0 + length (take k list)) x)))
    ∙ ap (λ n. any_first test list k || test (sent_of list n x)) long

-- It is of none of them, with one more of which it isn't.
pub none_more : (test : Sent → Bool) (list : List Entry) (k : ℕ) (x : Entry) → slice_get list k ≡ Some x → any_first test list k ≡ false
    → test (sent_of list k x) ≡ false → any_first test list (k + 1) ≡ false
none_more test list k x at none here = any_more test list k x at ∙ or_from (any_first test list k) (test (sent_of list k x)) none here

-- It is of one of the list.
pub one_settles : (test : Sent → Bool) (list : List Entry) (k : ℕ) (x : Entry) → slice_get list k ≡ Some x → test (sent_of list k x) ≡ true
    → list_any test (sents list) ≡ true
one_settles test list k x at here =
    let whole : 0 + k ≡ k = omega arith in
    any_in test (sents list) (sent_of list k x) (subst (λ j. In (sent_of list j x) (sents list)) whole (sent_in list 0 k list x at)) here

-- ---- what a walk knows
pub same_gap : (scale : Scale) (list : List Entry) (timings : LaneTimings) (h : Hearing) (k : ℕ) (x : Entry) → h.first ≡ is_first list (sent_of list k x)
    → h.before ≡ heard_of timings.quiet timings.sg timings.terminal x.moment (take k list) → h.moment ≡ x.moment
    → is_gap_before scale timings h ≡ has_gap_before scale list timings (sent_of list k x)
same_gap scale list timings h k x first before moment =
    ap (λ b. b && is_gap scale (heard_gap timings h.before h.moment)) first
    ∙ ap (λ (e : Heard). is_first list (sent_of list k x) && is_gap scale (heard_gap timings e h.moment)) before
    ∙ ap (λ t. is_first list (sent_of list k x) && is_gap scale (heard_gap timings (heard_of timings.quiet timings.sg timings.terminal x.moment (take k list)) t)) moment

pub same_interval : (scale : Scale) (list : List Entry) (timings : LaneTimings) (last : Option ℕ) (k : ℕ) (x : Entry)
    → last ≡ last_start timings.terminal (take k list)
    → is_interval_before scale timings last x ≡ has_interval_before scale list timings (sent_of list k x)
same_interval scale list timings last k x is = ap (λ (o : Option ℕ). x.terminal == timings.terminal && is_interval scale timings o (Some x.moment)) is
