-- For the timers a message is as good as carrier on each of its bit times, and nobody may start while it lasts.
use Rattle.std.proofs.Common.{◌≡◌, ℕ, zero, suc, ◌+◌, ◌-◌, ◌<◌, ◌≤◌, ◌⊎◌, ◌↔◌, Bool, true, false, List, [], ◌∷◌, ◌++◌, length, get_or, replicate, Option, inl, inr, arith, sym, refl, ap, ◌∙◌, subst}
use Rattle.std.proofs.lemmas.Bool.{cases_lt, cases_Bool, true≢false}
use Rattle.std.proofs.lemmas.List.{length_push, get_or_append_left, get_or_push}
use Rattle.bus_medium.proofs.MessageStretchLaws.{some_of_bits}
use Rattle.bus_timers.specs.GapPlace.{GapFrom}
use Rattle.bus_timers.proofs.GapStepLaws.{gap_quiet, gap_carrier_elapsed, gap_carrier_waiting, gap_one}
use Rattle.bus_timers.proofs.GapStretchLaws.{gap_carriers_elapsed, gap_carriers_waiting}
use Rattle.bus_strings.specs.Messages.{Message, bits}
use Rattle.bus_strings.specs.Pulses.{is_on}
use Rattle.bus_strings.specs.PulseLaws.{Pulse}
use Rattle.bus_strings.proofs.PulsesAlongLaws.{first_is_on, last_is_on, pulse_soon}
use Rattle.bus_strings.proofs.MessageLaws.{bits_some}
use Rattle.bus_medium.specs.Stretches.{during, MessageIsCarrier, MessageElapsed, MessageWaiting, NoStartDuring}

pub length_during : (past : List Bool) (m : Message) (d : ℕ) → length (during past m d) ≡ length past + d
length_during past m zero = omega arith
length_during past m (suc d) = length_push (during past m d) (is_on m d) ∙ omega (arith, length_during past m d)

-- where the terminal gap counts from after d bit times of a message: `behind` is the place in the message behind its last carrier
pub record Sent (sg : ℕ) (past : List Bool) (last : Option ℕ) (m : Message) (base d : ℕ) : Type 0 where
  pub behind : ℕ
  pub some : 1 ≤ behind
  pub within : behind ≤ d
  pub quiet : (k : ℕ) → behind ≤ k → k < d → is_on m k ≡ false
  pub from : GapFrom sg (during past m d) last (length past + behind + base)

-- base is 0 where the synchronization gap had elapsed, and sg where it had not
sent_more : (sg : ℕ) (past : List Bool) (last : Option ℕ) (m : Message) (base d : ℕ) → 5 ≤ sg → (base ≡ 0) ⊎ (base ≡ sg) → d < bits m → Sent sg past last m base d → Sent sg past last m base (suc d)
sent_more sg past last m base d pos which below s =
    let len : length (during past m d) ≡ length past + d = length_during past m d in
    let within : s.behind ≤ d = s.within in
    elim (cases_Bool (is_on m d)) [
      | inl sounds ↦
          let h : GapFrom sg (during past m d ++ true ∷ []) last (length past + suc d + base) = elim which [
            | inl elapsed ↦ subst (λ p. GapFrom sg (during past m d ++ true ∷ []) last p) (omega arith) (gap_carrier_elapsed sg (during past m d) last (length past + s.behind + base) (omega arith) s.from (omega arith))
            | inr waiting ↦
                let near : d ≤ s.behind + 4 = elim (cases_lt (s.behind + 4) (bits m)) [
                  | inl inside ↦
                      let p : Pulse m s.behind = pulse_soon m s.behind inside in
                      let low : s.behind ≤ p.at = p.low in let high : p.at ≤ s.behind + 4 = p.high in
                      elim (cases_lt p.at d) [ inl before ↦ absurd (true≢false (sym p.is_on ∙ s.quiet p.at low before)) | inr after ↦ omega arith ]
                  | inr outside ↦ omega arith
                ] in
                subst (λ p. GapFrom sg (during past m d ++ true ∷ []) last p) (omega arith) (gap_carrier_waiting sg (during past m d) last (length past + s.behind + base) (omega arith) s.from (omega arith))
          ] in
          record { behind = suc d; some = omega arith; within = omega arith; quiet = λ k low high. absurd (omega arith); from = subst (λ b. GapFrom sg (during past m d ++ b ∷ []) last (length past + suc d + base)) (sym sounds) h }
      | inr rests ↦
          record {
            behind = s.behind;
            some = s.some;
            within = omega arith;
            quiet = λ k low high. elim (cases_lt k d) [ inl old ↦ s.quiet k low old | inr now ↦ let e : k ≡ d = omega arith in ap (is_on m) e ∙ rests ];
            from = subst (λ b. GapFrom sg (during past m d ++ b ∷ []) last (length past + s.behind + base)) (sym rests) (gap_quiet sg (during past m d) last (length past + s.behind + base) (omega arith) s.from);
          }
    ]

sent_all : (sg : ℕ) (past : List Bool) (last : Option ℕ) (m : Message) (base d : ℕ) → 5 ≤ sg → (base ≡ 0) ⊎ (base ≡ sg) → 1 ≤ d → d ≤ bits m → Sent sg past last m base 1 → Sent sg past last m base d
sent_all sg past last m base zero pos which low high s = absurd (omega arith)
sent_all sg past last m base (suc zero) pos which low high s = s
sent_all sg past last m base (suc (suc d)) pos which low high s = sent_more sg past last m base (suc d) pos which (omega arith) (sent_all sg past last m base (suc d) pos which (omega arith) (omega arith) s)

sent_whole : (sg : ℕ) (past : List Bool) (last : Option ℕ) (m : Message) (base : ℕ) → 0 < length m → Sent sg past last m base (bits m) → GapFrom sg (during past m (bits m)) last (length past + bits m + base)
sent_whole sg past last m base some s =
    let within : s.behind ≤ bits m = s.within in
    let at : s.behind ≡ bits m = elim (cases_lt s.behind (bits m)) [
      | inl less ↦ absurd (true≢false (sym (last_is_on m some) ∙ s.quiet (bits m - 1) (omega arith) (omega arith)))
      | inr not ↦ omega arith
    ] in
    subst (λ b. GapFrom sg (during past m (bits m)) last (length past + b + base)) at s.from

-- a whole message, to a core whose synchronization gap had elapsed
pub message_elapsed : MessageElapsed
message_elapsed sg past last m g pos some h reached =
    let first : Sent sg past last m 0 1 = record {
      behind = 1;
      some = omega arith;
      within = omega arith;
      quiet = λ k low high. absurd (omega arith);
      from = subst (λ b. GapFrom sg (past ++ b ∷ []) last (length past + 1 + 0)) (sym (first_is_on m some)) (subst (λ p. GapFrom sg (past ++ true ∷ []) last p) (omega arith) (gap_carrier_elapsed sg past last g (omega arith) h reached));
    } in
    subst (λ p. GapFrom sg (during past m (bits m)) last p) (omega arith) (sent_whole sg past last m 0 some (sent_all sg past last m 0 (bits m) pos (inl refl) (bits_some m some) (omega arith) first))

-- and to one whose synchronization gap had not
pub message_waiting : MessageWaiting
message_waiting sg past last m g pos some h ahead =
    let first : Sent sg past last m sg 1 = record {
      behind = 1;
      some = omega arith;
      within = omega arith;
      quiet = λ k low high. absurd (omega arith);
      from = subst (λ b. GapFrom sg (past ++ b ∷ []) last (length past + 1 + sg)) (sym (first_is_on m some)) (gap_carrier_waiting sg past last g (omega arith) h ahead);
    } in
    sent_whole sg past last m sg some (sent_all sg past last m sg (bits m) pos (inr refl) (bits_some m some) (omega arith) first)

-- so it stands for carrier of its length
pub message_is_carrier : MessageIsCarrier
message_is_carrier sg past last m g h pos some from =
    let bit : 0 < bits m = bits_some m some in
    let both : (p : ℕ) → GapFrom sg (during past m (bits m)) last p → GapFrom sg (past ++ replicate (bits m) true) last p → GapFrom sg (during past m (bits m)) last h ↔ GapFrom sg (past ++ replicate (bits m) true) last h = λ p a b. (
      (λ c. subst (λ w. GapFrom sg (past ++ replicate (bits m) true) last w) (gap_one sg (during past m (bits m)) last p h a c) b),
      (λ c. subst (λ w. GapFrom sg (during past m (bits m)) last w) (gap_one sg (past ++ replicate (bits m) true) last p h b c) a),
    ) in
    elim (cases_lt (length past) g) [
      | inl ahead ↦ both (length past + bits m + sg) (message_waiting sg past last m g pos some from ahead) (gap_carriers_waiting sg past last g (bits m) (omega arith) bit from ahead)
      | inr reached ↦ both (length past + bits m) (message_elapsed sg past last m g pos some from reached) (gap_carriers_elapsed sg past last g (bits m) (omega arith) bit from reached)
    ]

-- during a message nobody may start
pub during_at : (past : List Bool) (m : Message) (d k : ℕ) → k < d → get_or (during past m d) (length past + k) true ≡ is_on m k
during_at past m zero k h = absurd (omega arith)
during_at past m (suc d) k h =
    elim (cases_lt k d) [
      | inl before ↦ get_or_append_left (during past m d) (is_on m d ∷ []) true (length past + k) (omega (arith, length_during past m d)) ∙ during_at past m d k before
      | inr now ↦ let e : k ≡ d = omega arith in get_or_push (during past m d) (is_on m d) true (length past + k) (omega (arith, length_during past m d)) ∙ ap (is_on m) (sym e)
    ]

pub no_start_during : NoStartDuring
no_start_during timing past last m d sound some inside may =
    let tg : 8 ≤ timing.tg = sound.tg_least in
    let len : length (during past m d) ≡ length past + d = length_during past m d in
    let fits : timing.tg ≤ length (during past m d) = may.gap_fits in
    elim (cases_lt d 5) [
      | inl soon ↦ true≢false (sym (during_at past m d 0 (omega arith) ∙ first_is_on m (some_of_bits m d inside)) ∙ may.gap (length past + 0) (omega arith) (omega arith))
      | inr late ↦
          let w : Pulse m (d - 5) = pulse_soon m (d - 5) (omega arith) in
          let low : d - 5 ≤ w.at = w.low in let high : w.at ≤ d - 5 + 4 = w.high in
          true≢false (sym (during_at past m d w.at (omega arith) ∙ w.is_on) ∙ may.gap (length past + w.at) (omega arith) (omega arith))
    ]
