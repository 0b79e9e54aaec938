-- A table bears exactly the delays with which it keeps its schedule; a delay of 0 is borne, and with a delay each shorter one.
use Rattle.std.proofs.Common.{◌≡◌, ℕ, ◌+◌, ◌*◌, ◌<◌, ◌≤◌, true, List, [], ◌∷◌, length, inl, inr, arith, sym, refl, ◌∙◌}
use Rattle.std.specs.Prelude.{◌==◌, ◌||◌, ◌&&◌, nat_le}
use Rattle.std.specs.List.{list_all}
use Rattle.std.proofs.lemmas.Bool.{cases_Bool, cases_lt, le-leb, lt-ltb, and_from, or_right, or_left, or_cases}
use Rattle.bus_strings.specs.Members.{In}
use Rattle.bus_strings.proofs.MemberLaws.{pass_in}
use Rattle.bus_table.specs.Tables.{Sender, sender_numbers}
use Rattle.bus_table.specs.inside.Facts.{SenderFacts}
use Rattle.bus_table.proofs.TurnLaws.{of_each}
use Rattle.bus_table.proofs.ValidLaws.{valid_facts}
use Rattle.bus_medium.specs.Delays.{AreDelays, cable}
use Rattle.bus_schedule.specs.Laws.{WitnessesAreEven}
use Rattle.bus_schedule.specs.Settled.{witness_hands}
use Rattle.bus_schedule.proofs.WitnessLemmas.{two_rounds}
use Rattle.bus_schedule.specs.Even.{rounds}
use Rattle.bus_reach.specs.Bearing.{bears}
use Rattle.bus_reach.specs.Cables.{FailsOnCable}
use Rattle.bus_reach.specs.Laws.{BorneIsKept, ZeroIsBorne, ShorterIsBorne}
use Rattle.bus_reach.specs.Tolerance.{is_apart, leaves_room}
use Rattle.bus_reach.proofs.Exact.{tolerance_is_exact}
use Rattle.bus_reach.proofs.Modes.{in_aperiodic}
use Rattle.bus_reach.proofs.RunLemmas.{borne_is_closed}
use Rattle.bus_reach.proofs.SpreadLemmas.{LeavesRoom, room_left}

-- places on a cable make delays up to its length
pub cables_delay : (most : ℕ) (senders : List ℕ) (place : ℕ → ℕ) → ((number : ℕ) → In number senders → place number ≤ most) → AreDelays most senders (cable place)
cables_delay most senders place within = record {
  own = λ x. omega arith;
  within = λ number i x j. let a : place x.terminal ≤ most = within x.terminal j in let b : place number ≤ most = within number i in omega arith;
}

pub borne_is_kept : WitnessesAreEven → BorneIsKept
borne_is_kept even table d valid mode accepted = (
  (λ borne hands delay wake is delays wakes. (borne_is_closed table hands d delay wake valid mode accepted is delays wakes borne).lawful),
  (λ keeps. elim (cases_Bool (bears table d)) [
    | inl yes' ↦ yes'
    | inr no' ↦
        let two : 2 ≤ rounds (witness_hands table) = omega (arith, two_rounds table (valid_facts table valid)) in
        let f : FailsOnCable table d = tolerance_is_exact table d valid mode accepted no' in
        absurd (f.fails (witness_hands table) (even table valid) two (keeps (witness_hands table) (cable f.place) f.wake (even table valid) (cables_delay d (sender_numbers table) f.place (λ n i. f.places n)) f.wakes))
  ]),
)

-- each of these passes
all_pass : (d sg : ℕ) (senders these : List Sender) → ((a : Sender) → In a these → LeavesRoom d sg senders a) → list_all (leaves_room d sg senders) these ≡ true
all_pass d sg senders [] h = refl
all_pass d sg senders (a ∷ these) h = and_from (leaves_room d sg senders a) (list_all (leaves_room d sg senders) these) (leaves (h a (inl refl))) (all_pass d sg senders these (λ b i. h b (inr i)))
  where
    beside : (others : List Sender) → ((b : Sender) → In b others → a.tg < b.tg → a.tg + 2 * d < b.tg) → list_all (λ b. nat_le b.tg a.tg || is_apart d a.tg b.tg) others ≡ true
    beside [] k = refl
    beside (b ∷ others) k = and_from (nat_le b.tg a.tg || is_apart d a.tg b.tg) (list_all (λ c. nat_le c.tg a.tg || is_apart d a.tg c.tg) others)
        (elim (cases_lt a.tg b.tg) [
          | inl longer ↦ or_right (nat_le b.tg a.tg) (is_apart d a.tg b.tg) (lt-ltb (a.tg + 2 * d) b.tg (k b (inl refl) longer))
          | inr not ↦ or_left (nat_le b.tg a.tg) (is_apart d a.tg b.tg) (le-leb b.tg a.tg not)
        ]) (beside others (λ c i. k c (inr i)))

    leaves : LeavesRoom d sg senders a → leaves_room d sg senders a ≡ true
    leaves r = and_from (nat_le d a.tg) (is_apart d a.tg sg && list_all (λ b. nat_le b.tg a.tg || is_apart d a.tg b.tg) senders) (le-leb d a.tg r.least)
        (and_from (is_apart d a.tg sg) (list_all (λ b. nat_le b.tg a.tg || is_apart d a.tg b.tg) senders) (lt-ltb (a.tg + 2 * d) sg r.short) (beside senders r.apart))

pub zero_is_borne : ZeroIsBorne
zero_is_borne table valid mode =
    in_aperiodic table 0 mode
    ∙ or_right (length table.senders == 1) (list_all (leaves_room 0 table.sg table.senders) table.senders)
    (all_pass 0 table.sg table.senders table.senders (λ a i. record {
      least = omega arith;
      short = let k : a.tg < table.sg = (of_each (SenderFacts table) table.senders (valid_facts table valid).senders a i).tg_short in omega arith;
      apart = λ b j less. omega arith;
    }))

pub shorter_is_borne : ShorterIsBorne
shorter_is_borne table less most mode low borne =
    in_aperiodic table less mode
    ∙ elim (or_cases (length table.senders == 1) (list_all (leaves_room most table.sg table.senders) table.senders) (sym (in_aperiodic table most mode) ∙ borne)) [
      | inl one ↦ or_left (length table.senders == 1) (list_all (leaves_room less table.sg table.senders) table.senders) one
      | inr each ↦ or_right (length table.senders == 1) (list_all (leaves_room less table.sg table.senders) table.senders)
          (all_pass less table.sg table.senders table.senders (λ a i.
          let r : LeavesRoom most table.sg table.senders a = room_left most table.sg table.senders a (pass_in (leaves_room most table.sg table.senders) table.senders a each i) in
          let least : most ≤ a.tg = r.least in
          let short : a.tg + 2 * most < table.sg = r.short in
          record {
            least = omega arith;
            short = omega arith;
            apart = λ b j longer. let k : a.tg + 2 * most < b.tg = r.apart b j longer in omega arith;
          }))
    ]
