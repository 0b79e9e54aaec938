-- The turns of a round of a growing schedule: each sender of it is due when its turn comes, and no other is, whether it has spoken or isn't
-- awake yet.
--   lo      no sender has heard all before, and none later than this by more than `spread`
--   share   of the cycle that bounds the transmit interval: what each sender's turn takes of it at least
use Rattle.std.proofs.Common.{◌≡◌, ◌≢◌, ℕ, ◌+◌, ◌*◌, ◌<◌, ◌≤◌, ◌⊎◌, max, Bool, true, false, cond, List, [], ◌∷◌, ◌++◌, length, get_or, inl, inr, arith, sym, refl, ap, ◌∙◌, subst}
use Rattle.std.specs.Prelude.{◌==◌, if◌then◌else◌}
use Rattle.std.specs.List.{filter}
use Rattle.std.proofs.lemmas.Bool.{eq-eqb, ne_eqb, cases_eq, cases_Bool}
use Rattle.std.proofs.lemmas.List.{append-nil, append_assoc, length-append}
use Rattle.bus_strings.specs.Members.{In}
use Rattle.bus_strings.proofs.MemberLaws.{in_append_cases, in_append_left, in_append_right, in_push_cases, ordered_push}
use Rattle.bus_strings.specs.Messages.{Message, Entry, bits}
use Rattle.bus_strings.specs.Marking.{greatest_end}
use Rattle.bus_strings.specs.Transmissions.{end_of, IsOrdered}
use Rattle.bus_table.specs.declared.mode.Mode.TheVariants.{Aperiodic}
use Rattle.bus_table.specs.Tables.{Sender, Table}
use Rattle.bus_table.specs.Lengths.{shortest}
use Rattle.bus_table.specs.Turns.{turn_key, turn_order}
use Rattle.bus_table.specs.inside.Orders.{Rises}
use Rattle.bus_table.proofs.TurnLaws.{from_sort, in_sort, order_rises, numbers_differ}
use Rattle.bus_schedule.specs.Closed.{sends}
use Rattle.bus_medium.specs.Delays.{Delays, heard_end}
use Rattle.bus_reach.specs.Joining.{grow_turns, grow_heard, hears_awake}
use Rattle.bus_medium.proofs.CableClocks.{gap_elapsed, gap_waiting, max_first}
use Rattle.bus_schedule.proofs.Growing.{Setting, sendable}
use Rattle.bus_schedule.proofs.Greatest.{ends_within, max_within}
use Rattle.bus_schedule.proofs.HandLemmas.{Sendable}
use Rattle.bus_medium.proofs.CableSteps.{put_here, put_other}
use Rattle.bus_medium.proofs.CableSteps as steps
use Rattle.bus_reach.proofs.Knowing.{ScheduledSoFar, StartsNext, due_behind, gap_from_behind, sent_behind, known_step, woken}
use Rattle.bus_schedule.proofs.Orders.{rises_before, rises_after, same_sender}
use Rattle.bus_reach.proofs.SpreadLemmas.{IsTolerant}

-- the shares of all of these, and of those before the one with this number
abbrev pub total : (Sender → ℕ) → List Sender → ℕ
total share [] = 0
total share (a ∷ bs) = share a + total share bs

abbrev pub before : (Sender → ℕ) → List Sender → ℕ → ℕ
before share [] n = 0
before share (a ∷ bs) n = if n == a.number then 0 else share a + before share bs n

pub before_here : (share : Sender → ℕ) (a : Sender) (bs : List Sender) (n : ℕ) → n ≡ a.number → before share (a ∷ bs) n ≡ 0
before_here share a bs n e = rw (eq-eqb n a.number e) refl

pub before_there : (share : Sender → ℕ) (a : Sender) (bs : List Sender) (n : ℕ) → n ≢ a.number → before share (a ∷ bs) n ≡ share a + before share bs n
before_there share a bs n e = rw (ne_eqb n a.number e) refl

before_middle : (share : Sender → ℕ) (prefix : List Sender) (a : Sender) (suffix : List Sender) → ((b : Sender) → In b prefix → a.number ≢ b.number)
    → before share (prefix ++ a ∷ suffix) a.number ≡ total share prefix
before_middle share [] a suffix h = before_here share a suffix a.number refl
before_middle share (c ∷ prefix) a suffix h = before_there share c (prefix ++ a ∷ suffix) a.number (h c (inl refl)) ∙ ap (λ v. share c + v) (before_middle share prefix a suffix (λ b i. h b (inr i)))

total_middle : (share : Sender → ℕ) (prefix : List Sender) (a : Sender) (suffix : List Sender) → total share (prefix ++ a ∷ suffix) ≡ total share prefix + (share a + total share suffix)
total_middle share [] a suffix = omega arith
total_middle share (c ∷ prefix) a suffix = omega (arith, total_middle share prefix a suffix)

-- whether it has spoken already, or isn't in this round
abbrev pub IsOut : (Sender → Bool) → List Sender → List Sender → Sender → Type 0
IsOut p prefix suffix b = In b prefix ⊎ (In b suffix × (p b ≡ false))

-- Inside a round, whose senders are those that pass p: those of the prefix have had their turn
pub record Turn (table : Table) (hands : ℕ → List Message) (delay : Delays) (wake : ℕ → ℕ) (spread room : ℕ) (share : Sender → ℕ) (first : Sender)
    (p : Sender → Bool) (count : ℕ → ℕ) (prefix suffix : List Sender) (from : ℕ → ℕ) (list : List Entry) : Type 0 where
  pub lo : ℕ
  pub t : ℕ
  pub last : ℕ
  pub due : ℕ → ℕ
  pub gap_from : ℕ → ℕ
  pub sent : ℕ → ℕ
  pub split : turn_order table ≡ prefix ++ suffix
  pub known : ScheduledSoFar table hands delay wake list t last from due gap_from sent
  pub low : (b : Sender) → In b table.senders → lo ≤ from b.number
  pub high : (b : Sender) → In b table.senders → from b.number ≤ lo + spread
  pub last_low : last ≤ lo
  pub spoken : 0 < length prefix
  pub laid : IsOrdered (λ x y. end_of x + room ≤ y.moment) list
  pub some : (x : Entry) → In x list → 0 < end_of x
  pub awake : wake first.number ≤ lo
  pub settled : (b : Sender) → In b table.senders → (share b ≡ 0) ⊎ (wake b.number ≤ lo + spread)
  pub absent : (b : Sender) → In b suffix → p b ≡ false → share b ≡ 0
  pub waiting : (b : Sender) → In b suffix → p b ≡ true → gap_from b.number ≡ table.sg + from b.number
  pub idle : (b : Sender) → In b table.senders → IsOut p prefix suffix b → gap_from b.number ≡ max (table.sg + from b.number + table.sg) (table.sg + wake b.number)
  pub due_waiting : (b : Sender) → In b suffix → (due b.number ≤ table.sg + wake b.number) ⊎ (due b.number ≤ table.sg + lo + before share suffix b.number + b.tg)
  pub due_idle : (b : Sender) → In b table.senders → IsOut p prefix suffix b
      → (due b.number ≤ table.sg + wake b.number) ⊎ (due b.number ≤ table.sg + lo + total share suffix + table.sg + before share (turn_order table) b.number + b.tg)
  pub count_waiting : (b : Sender) → In b suffix → sent b.number ≡ count b.number
  pub count_spoken : (b : Sender) → In b prefix → sent b.number ≡ count b.number + (if p b then 1 else 0)

-- Before a round begins
pub record Begin (table : Table) (hands : ℕ → List Message) (delay : Delays) (wake : ℕ → ℕ) (spread room : ℕ) (share : Sender → ℕ) (first : Sender)
    (count : ℕ → ℕ) (round : ℕ) (from : ℕ → ℕ) (list : List Entry) : Type 0 where
  pub lo : ℕ
  pub t : ℕ
  pub last : ℕ
  pub heard_all : ℕ → ℕ
  pub due : ℕ → ℕ
  pub gap_from : ℕ → ℕ
  pub sent : ℕ → ℕ
  pub known : ScheduledSoFar table hands delay wake list t last heard_all due gap_from sent
  pub ended : (b : Sender) → In b table.senders → heard_all b.number ≤ lo + spread
  pub first_gap : gap_from first.number ≡ table.sg + from first.number
  pub first_low : lo ≤ from first.number
  pub first_high : from first.number ≤ lo + spread
  pub low : (b : Sender) → In b table.senders → table.sg + lo ≤ gap_from b.number
  pub high : (b : Sender) → In b table.senders → (gap_from b.number ≤ table.sg + wake b.number) ⊎ (gap_from b.number ≤ table.sg + lo + spread)
  pub last_low : last ≤ lo
  pub wide : (last ≡ 0) ⊎ (last + table.sg ≤ lo)
  pub laid : IsOrdered (λ x y. end_of x + room ≤ y.moment) list
  pub some : (x : Entry) → In x list → 0 < end_of x
  pub due_by : (b : Sender) → In b table.senders
      → (due b.number ≤ table.sg + wake b.number) ⊎ (due b.number ≤ table.sg + lo + before share (turn_order table) b.number + b.tg)
  pub absent : (b : Sender) → In b table.senders → hears_awake delay wake (sends hands (count first.number) first (from first.number + first.tg)) b ≡ false → share b ≡ 0
  pub count_is : (b : Sender) → In b table.senders → sent b.number ≡ count b.number
  pub count_most : (b : Sender) → In b table.senders → count b.number ≤ round

module _ (table : Table) (hands : ℕ → List Message) (n : ℕ) (setting : Setting table hands n) (mode : table.mode ≡ Aperiodic) (delay : Delays) (wake : ℕ → ℕ) (spread room : ℕ)
    (tolerant : IsTolerant table delay spread room) (share : Sender → ℕ) (share_most : (b : Sender) → share b ≤ b.tg + shortest b)
    (long : table.ti ≤ table.sg + total share (turn_order table)) (first : Sender) (others : List Sender) (order_is : turn_order table ≡ first ∷ others) where
  pub of_order : (b : Sender) → In b (turn_order table) → In b table.senders
  of_order b i = from_sort (turn_key table.mode) table.senders b i

  pub in_order : (b : Sender) → In b table.senders → In b (turn_order table)
  in_order b i = in_sort (turn_key table.mode) table.senders b i

  pub same : (a b : Sender) → In a table.senders → In b table.senders → b.number ≡ a.number → b ≡ a
  same a b i j e = same_sender (λ c. c.number) table.senders b a (numbers_differ table setting.dealt.facts) j i e

  pub rises : Rises (λ b. b.tg) (turn_order table)
  rises = subst (λ m. Rises (turn_key m) (turn_order table)) mode (order_rises table setting.dealt.facts)

  -- senders with other terminal gaps have other numbers
  pub apart : (a b : Sender) → In a table.senders → In b table.senders → a.tg < b.tg → b.number ≢ a.number
  apart a b i j less e = let s : b.tg ≡ a.tg = ap (λ (c : Sender). c.tg) (same a b i j e) in omega arith

  -- a turn
  module _ (p : Sender → Bool) (count : ℕ → ℕ) (prefix : List Sender) (a : Sender) (suffix : List Sender) (from : ℕ → ℕ) (list : List Entry)
      (most : (b : Sender) → In b table.senders → count b.number < n) (member : p a ≡ true)
      (t : Turn table hands delay wake spread room share first p count prefix (a ∷ suffix) from list) where
    up : Rises (λ b. b.tg) (prefix ++ a ∷ suffix)
    up = subst (λ o. Rises (λ b. b.tg) o) t.split rises

    in_prefix : (b : Sender) → In b prefix → In b table.senders
    in_prefix b i = of_order b (subst (λ o. In b o) (sym t.split) (in_append_left prefix (a ∷ suffix) b i))

    in_suffix : (b : Sender) → In b (a ∷ suffix) → In b table.senders
    in_suffix b i = of_order b (subst (λ o. In b o) (sym t.split) (in_append_right prefix (a ∷ suffix) b i))

    there : In a table.senders
    there = in_suffix a (inl refl)

    apart_prefix : (b : Sender) → In b prefix → b.number ≢ a.number
    apart_prefix b i e = apart b a (in_prefix b i) there (rises_before (λ c. c.tg) prefix a suffix b up i) (sym e)

    apart_suffix : (b : Sender) → In b suffix → b.number ≢ a.number
    apart_suffix b i = apart a b there (in_suffix b (inr i)) (rises_after (λ c. c.tg) prefix a suffix b up i)

    abbrev x : Entry
    x = sends hands (count a.number) a (from a.number + a.tg)

    message : Sendable a (hands a.number) (count a.number) (get_or (hands a.number) (count a.number) [])
    message = sendable table hands n setting a (count a.number) there (most a there)

    lag : (b : Sender) → In b table.senders → delay x b.number ≤ spread
    lag b i = tolerant.delays a b x there i refl

    no_lag : delay x a.number ≡ 0
    no_lag = tolerant.own x

    gap_is : t.gap_from a.number ≡ table.sg + from a.number
    gap_is = t.waiting a (inl refl) member

    -- one that is out waits for a synchronization gap
    waits : (b : Sender) → In b table.senders → IsOut p prefix suffix b → table.sg + (x.moment + delay x b.number) < t.gap_from b.number
    waits b i out =
        let is : t.gap_from b.number ≡ max (table.sg + from b.number + table.sg) (table.sg + wake b.number) = t.idle b i (elim out [ inl spoken ↦ inl spoken | inr not ↦ inr (inr not.0, not.1) ]) in
        let low : t.lo ≤ from b.number = t.low b i in
        let high : from a.number ≤ t.lo + spread = t.high a there in
        let d : delay x b.number ≤ spread = lag b i in
        let k : a.tg + 2 * spread < table.sg = tolerant.short a there in
        omega (arith, (max_within (table.sg + from b.number + table.sg) (table.sg + wake b.number)).0)

    cases : (b : Sender) → In b table.senders → b.number ≢ a.number → IsOut p prefix suffix b ⊎ (In b suffix × (p b ≡ true))
    cases b i other =
        elim (in_append_cases prefix (a ∷ suffix) b (subst (λ o. In b o) t.split (in_order b i))) [
          | inl spoken ↦ inl (inl spoken)
          | inr waits ↦ elim waits [
            | inl here ↦ absurd (other (ap (λ (c : Sender). c.number) here))
            | inr later ↦ elim (cases_Bool (p b)) [
              | inl yes' ↦ inr (later, yes')
              | inr no' ↦ inl (inr (later, no'))
            ]
          ]
        ]

    starts : StartsNext table hands delay n t.last from t.due t.gap_from t.sent a (count a.number) (from a.number + a.tg)
    starts =
        let low : t.lo ≤ from a.number = t.low a there in
        let last_low : t.last ≤ t.lo = t.last_low in
        let woken : table.sg + wake a.number ≤ t.gap_from a.number = woken table hands delay wake list t.t t.last from t.due t.gap_from t.sent t.known a there in
        record {
          behind = omega arith;
          ready = λ b i.
              let h : from b.number ≤ t.lo + spread = t.high b i in
              let k : spread ≤ a.tg = tolerant.least a there in
              omega arith;
          interval = elim (t.due_waiting a (inl refl)) [
            | inl never ↦ omega (arith, gap_is)
            | inr before_now ↦ omega (arith, before_here share a suffix a.number refl)
          ];
          terminal = omega (arith, gap_is);
          slow = λ b i other. elim (cases b i other) [
            | inl out ↦ inl (omega (arith, waits b i out))
            | inr later ↦
                let g : t.gap_from b.number ≡ table.sg + from b.number = t.waiting b (inr later.0) later.1 in
                let low_b : t.lo ≤ from b.number = t.low b i in
                let high : from a.number ≤ t.lo + spread = t.high a there in
                let d : delay x b.number ≤ spread = lag b i in
                let k : a.tg + 2 * spread < b.tg = tolerant.apart a b there i (rises_after (λ c. c.tg) prefix a suffix b up later.0) in
                inl (omega arith)
          ];
          turn = t.count_waiting a (inl refl);
          left = most a there;
        }

    laid_then : IsOrdered (λ y z. end_of y + room ≤ z.moment) (list ++ x ∷ [])
    laid_then = ordered_push (λ y z. end_of y + room ≤ z.moment) list x t.laid (λ y i.
        let ended : end_of y ≤ greatest_end list = ends_within list y i in
        let last_is : greatest_end list ≡ t.last = t.known.ends in
        let last_low : t.last ≤ t.lo = t.last_low in
        let low : t.lo ≤ from a.number = t.low a there in
        let k : spread ≤ a.tg = tolerant.least a there in
        elim tolerant.fits [
          | inl within ↦ omega arith
          | inr alone ↦
              let one : length (turn_order table) ≡ 1 = alone.0 in
              let spoken : 0 < length prefix = t.spoken in
              absurd (omega (arith, ap length t.split, length-append prefix (a ∷ suffix)))
        ])

    -- those that are out stay out, and this one now is
    idle_then : (b : Sender) → In b table.senders → IsOut p (prefix ++ a ∷ []) suffix b
        → gap_from_behind table delay wake t.gap_from a x b.number
        ≡ max (table.sg + heard_end delay x b.number + table.sg) (table.sg + wake b.number)
    idle_then b i out =
        elim (cases_eq b.number a.number) [
          | inl here ↦
              let is : b ≡ a = same a b there i here in
              let woken : table.sg + wake b.number ≤ t.gap_from b.number = woken table hands delay wake list t.t t.last from t.due t.gap_from t.sent t.known b i in
              let g : t.gap_from b.number ≡ table.sg + from a.number = ap (λ (c : Sender). t.gap_from c.number) is ∙ gap_is in
              steps.gap_from_here table.sg table.sg delay wake t.gap_from a.number x b.number here
              ∙ max_first (table.sg + heard_end delay x b.number + table.sg) (table.sg + wake b.number) (omega arith)
          | inr other ↦
              let was : IsOut p prefix suffix b = elim out [
                | inl spoken ↦ elim (in_push_cases prefix a b spoken) [ inl old ↦ inl old | inr now ↦ absurd (other (ap (λ (c : Sender). c.number) now)) ]
                | inr not ↦ inr not
              ] in
              steps.gap_from_other table.sg table.sg delay wake t.gap_from a.number x b.number other
              ∙ gap_waiting table.sg table.sg (wake b.number) (t.gap_from b.number) (x.moment + delay x b.number)
              (heard_end delay x b.number) (waits b i was)
        ]

    due_idle_then : (b : Sender) → In b table.senders → IsOut p (prefix ++ a ∷ []) suffix b
        → (due_behind table t.due a (from a.number + a.tg) b.number ≤ table.sg + wake b.number)
        ⊎ (due_behind table t.due a (from a.number + a.tg) b.number
        ≤ table.sg + end_of x + total share suffix + table.sg + before share (turn_order table) b.number + b.tg)
    due_idle_then b i out =
        let low : t.lo ≤ from a.number = t.low a there in
        let least : shortest a ≤ bits (get_or (hands a.number) (count a.number) []) = message.least in
        let most_a : share a ≤ a.tg + shortest a = share_most a in
        elim (cases_eq b.number a.number) [
          | inl here ↦
              let is : b ≡ a = same a b there i here in
              let tg : b.tg ≡ a.tg = ap (λ (c : Sender). c.tg) is in
              let place : before share (turn_order table) b.number ≡ total share prefix =
              ap (λ (c : Sender). before share (turn_order table) c.number) is ∙ ap (λ o. before share o a.number) t.split
              ∙ before_middle share prefix a suffix (λ c j e. apart_prefix c j (sym e)) in
              let whole : total share (turn_order table) ≡ total share prefix + (share a + total share suffix) = ap (total share) t.split ∙ total_middle share prefix a suffix in
              inr (omega (arith, put_here t.due a.number (table.sg + (from a.number + a.tg) + table.ti) b.number here, long))
          | inr other ↦
              let was : IsOut p prefix (a ∷ suffix) b = elim out [
                | inl spoken ↦ elim (in_push_cases prefix a b spoken) [ inl old ↦ inl old | inr now ↦ absurd (other (ap (λ (c : Sender). c.number) now)) ]
                | inr not ↦ inr (inr not.0, not.1)
              ] in
              let kept = put_other t.due a.number (table.sg + (from a.number + a.tg) + table.ti) b.number other in
              elim (t.due_idle b i was) [
                | inl never ↦ inl (omega (arith, kept))
                | inr so ↦ inr (omega (arith, kept))
              ]
        ]

    turn : Turn table hands delay wake spread room share first p count (prefix ++ a ∷ []) suffix (heard_end delay x)
        (list ++ x ∷ [])
    turn =
        let bit : 0 < bits (get_or (hands a.number) (count a.number) []) = message.some_bits in
        let low_a : t.lo ≤ from a.number = t.low a there in
        record {
          lo = end_of x;
          t = from a.number + a.tg + 1;
          last = end_of x;
          due = due_behind table t.due a (from a.number + a.tg);
          gap_from = gap_from_behind table delay wake t.gap_from a x;
          sent = sent_behind t.sent a;
          split = t.split ∙ sym (append_assoc prefix (a ∷ []) suffix);
          known = known_step table hands n setting delay wake tolerant.own list t.t t.last from t.due t.gap_from t.sent a (count a.number) (from a.number + a.tg) there t.known starts;
          low = λ b i. omega arith;
          high = λ b i. omega (arith, lag b i);
          last_low = omega arith;
          spoken = omega (arith, length-append prefix (a ∷ []));
          laid = laid_then;
          some = λ y i. elim (in_push_cases list x y i) [
            | inl old ↦ t.some y old
            | inr is ↦ omega (arith, ap end_of is)
          ];
          awake = let w : wake first.number ≤ t.lo = t.awake in omega arith;
          settled = λ b i. elim (t.settled b i) [ inl none ↦ inl none | inr awake ↦ inr (omega arith) ];
          absent = λ b i. t.absent b (inr i);
          waiting = λ b i yes'.
              let g : t.gap_from b.number ≡ table.sg + from b.number = t.waiting b (inr i) yes' in
              let h : from b.number ≤ t.lo + spread = t.high b (in_suffix b (inr i)) in
              let k : spread ≤ a.tg = tolerant.least a there in
              steps.gap_from_other table.sg table.sg delay wake t.gap_from a.number x b.number (apart_suffix b i)
              ∙ gap_elapsed table.sg table.sg (wake b.number) (t.gap_from b.number) (x.moment + delay x b.number)
              (heard_end delay x b.number) (omega arith);
          idle = idle_then;
          due_waiting = λ b i.
              let kept = put_other t.due a.number (table.sg + (from a.number + a.tg) + table.ti) b.number (apart_suffix b i) in
              let least : shortest a ≤ bits (get_or (hands a.number) (count a.number) []) = message.least in
              let most_a : share a ≤ a.tg + shortest a = share_most a in
              elim (t.due_waiting b (inr i)) [
                | inl never ↦ inl (omega (arith, kept))
                | inr so ↦ inr (omega (arith, kept, before_there share a suffix b.number (apart_suffix b i)))
              ];
          due_idle = due_idle_then;
          count_waiting = λ b i. put_other t.sent a.number (t.sent a.number + 1) b.number (apart_suffix b i) ∙ t.count_waiting b (inr i);
          count_spoken = λ b i. elim (in_push_cases prefix a b i) [
            | inl old ↦ put_other t.sent a.number (t.sent a.number + 1) b.number (apart_prefix b old) ∙ t.count_spoken b old
            | inr now ↦
                let number : b.number ≡ a.number = ap (λ (c : Sender). c.number) now in
                let passes : p b ≡ true = ap p now ∙ member in
                let counted : t.sent a.number ≡ count b.number = t.count_waiting a (inl refl) ∙ ap count (sym number) in
                put_here t.sent a.number (t.sent a.number + 1) b.number number ∙ ap (λ v. v + 1) counted ∙ ap (λ (v : Bool). count b.number + cond v 1 0) (sym passes)
          ];
        }

  -- a sender that isn't in this round is passed over
  skip : (p : Sender → Bool) (count : ℕ → ℕ) (prefix : List Sender) (a : Sender) (suffix : List Sender) (from : ℕ → ℕ) (list : List Entry) → p a ≡ false
      → Turn table hands delay wake spread room share first p count prefix (a ∷ suffix) from list
      → Turn table hands delay wake spread room share first p count (prefix ++ a ∷ []) suffix from list
  skip p count prefix a suffix from list not t =
      let nothing : share a ≡ 0 = t.absent a (inl refl) not in
      let up : Rises (λ b. b.tg) (prefix ++ a ∷ suffix) = subst (λ o. Rises (λ b. b.tg) o) t.split rises in
      let within : (b : Sender) → In b (a ∷ suffix) → In b table.senders = λ b i. of_order b (subst (λ o. In b o) (sym t.split) (in_append_right prefix (a ∷ suffix) b i)) in
      let other : (b : Sender) → In b suffix → b.number ≢ a.number = λ b i. apart a b (within a (inl refl)) (within b (inr i)) (rises_after (λ c. c.tg) prefix a suffix b up i) in
      let was : (b : Sender) → IsOut p (prefix ++ a ∷ []) suffix b → IsOut p prefix (a ∷ suffix) b = λ b out. elim out [
        | inl spoken ↦ elim (in_push_cases prefix a b spoken) [ inl old ↦ inl old | inr now ↦ inr (inl now, ap p now ∙ not) ]
        | inr out_there ↦ inr (inr out_there.0, out_there.1)
      ] in
      record {
        lo = t.lo;
        t = t.t;
        last = t.last;
        due = t.due;
        gap_from = t.gap_from;
        sent = t.sent;
        split = t.split ∙ sym (append_assoc prefix (a ∷ []) suffix);
        known = t.known;
        low = t.low;
        high = t.high;
        last_low = t.last_low;
        spoken = omega (arith, length-append prefix (a ∷ []));
        laid = t.laid;
        some = t.some;
        awake = t.awake;
        settled = t.settled;
        absent = λ b i. t.absent b (inr i);
        waiting = λ b i. t.waiting b (inr i);
        idle = λ b i out. t.idle b i (was b out);
        due_waiting = λ b i. elim (t.due_waiting b (inr i)) [
          | inl never ↦ inl never
          | inr so ↦ inr (omega (arith, before_there share a suffix b.number (other b i)))
        ];
        due_idle = λ b i out. elim (t.due_idle b i (was b out)) [
          | inl never ↦ inl never
          | inr so ↦ inr (omega arith)
        ];
        count_waiting = λ b i. t.count_waiting b (inr i);
        count_spoken = λ b i. elim (in_push_cases prefix a b i) [
          | inl old ↦ t.count_spoken b old
          | inr now ↦
              let number : b.number ≡ a.number = ap (λ (c : Sender). c.number) now in
              let counted : t.sent b.number ≡ count b.number = ap t.sent number ∙ t.count_waiting a (inl refl) ∙ ap count (sym number) in
              counted ∙ (let e : count b.number ≡ count b.number + 0 = omega arith in e) ∙ ap (λ (v : Bool). count b.number + cond v 1 0) (sym (ap p now ∙ not))
        ];
      }

  pub turns_on : (p : Sender → Bool) (count : ℕ → ℕ) (suffix prefix : List Sender) (from : ℕ → ℕ) (list : List Entry) → ((b : Sender) → In b table.senders → count b.number < n)
      → Turn table hands delay wake spread room share first p count prefix suffix from list
      → Turn table hands delay wake spread room share first p count (prefix ++ suffix) [] (grow_heard delay hands count (filter p suffix) from)
      (list ++ grow_turns delay hands count (filter p suffix) from)
  turns_on p count [] prefix from list most t =
      subst (λ d. Turn table hands delay wake spread room share first p count d [] from (list ++ [])) (sym (append-nil prefix))
      (subst (λ k. Turn table hands delay wake spread room share first p count prefix [] from k) (sym (append-nil list)) t)
  turns_on p count (a ∷ suffix) prefix from list most t =
      elim (cases_Bool (p a)) [
        | inl yes' ↦
            let x : Entry = sends hands (count a.number) a (from a.number + a.tg) in
            let so = turns_on p count suffix (prefix ++ a ∷ []) (heard_end delay (sends hands (count a.number) a (from a.number + a.tg))) (list ++ sends hands (count a.number) a (from a.number + a.tg) ∷ []) most
            (turn p count prefix a suffix from list most yes' t) in
            subst (λ (v : Bool). Turn table hands delay wake spread room share first p count (prefix ++ a ∷ suffix) [] (grow_heard delay hands count (cond v (a ∷ filter p suffix) (filter p suffix)) from)
            (list ++ grow_turns delay hands count (cond v (a ∷ filter p suffix) (filter p suffix)) from)) (sym yes')
            (subst (λ d. Turn table hands delay wake spread room share first p count d [] (grow_heard delay hands count (a ∷ filter p suffix) from) (list ++ grow_turns delay hands count (a ∷ filter p suffix) from))
            (append_assoc prefix (a ∷ []) suffix)
            (subst (λ k. Turn table hands delay wake spread room share first p count ((prefix ++ a ∷ []) ++ suffix) [] (grow_heard delay hands count (a ∷ filter p suffix) from) k)
            (append_assoc list (x ∷ []) (grow_turns delay hands count (filter p suffix) (heard_end delay x))) so))
        | inr no' ↦
            let so = turns_on p count suffix (prefix ++ a ∷ []) from list most (skip p count prefix a suffix from list no' t) in
            subst (λ (v : Bool). Turn table hands delay wake spread room share first p count (prefix ++ a ∷ suffix) [] (grow_heard delay hands count (cond v (a ∷ filter p suffix) (filter p suffix)) from)
            (list ++ grow_turns delay hands count (cond v (a ∷ filter p suffix) (filter p suffix)) from)) (sym no')
            (subst (λ d. Turn table hands delay wake spread room share first p count d [] (grow_heard delay hands count (filter p suffix) from) (list ++ grow_turns delay hands count (filter p suffix) from))
            (append_assoc prefix (a ∷ []) suffix) so)
      ]
