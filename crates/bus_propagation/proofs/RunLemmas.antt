-- A run on the cable goes on from turn to turn, up to the horizon.
use Rattle.std.proofs.Common.{◌≡◌, ℕ, ◌+◌, ◌-◌, ◌*◌, get_or, ◌<◌, ◌≤◌, ◌⊎◌, List, [], ◌∷◌, ◌++◌, length, set, map, Some, inl, inr, arith, sym, refl, ◌∙◌, subst}
use Rattle.std.specs.Prelude.{slice_get, fold, IsTrue}
use Rattle.std.specs.List.{AllByRecursion}
use Rattle.std.proofs.lemmas.List.Sums.{fold-append}
use Rattle.std.proofs.lemmas.Option.{get_or_from_slice_get}
use Rattle.bus_strings.proofs.MemberLaws.{of_each, at_in}
use Rattle.bus_strings.proofs.OverlapLemmas.{ascending_is_by_moment}
use Rattle.bus_strings.specs.Messages.{Entry}
use Rattle.bus_strings.specs.Transmissions.{IsByMoment}
use Rattle.bus_table.specs.Hands.{are_hands}
use Rattle.bus_table.specs.Tables.{Table, Hand}
use Rattle.bus_table.specs.Valid.{is_valid}
use Rattle.bus_medium.specs.Jumps.{Each}
use Rattle.bus_medium.specs.Delays.{Delays}
use Rattle.bus_medium.specs.Wakes.{Wakes}
use Rattle.bus_medium.specs.CableLawful.{IsLawfulOnCable}
use Rattle.bus_medium.specs.inside.Seating.{AreDistinct}
use Rattle.bus_medium.specs.Timings.{quiet_of, stations_of}
use Rattle.bus_medium.proofs.CableLists.{cable_once}
use Rattle.bus_medium.proofs.SeatingLemmas.{stations_numbers}
use Rattle.bus_medium.proofs.StationLaws.{stations_have_own_numbers}
use Rattle.bus_medium.proofs.TimingLemmas.{are_distinct}
use Rattle.bus_propagation.specs.declared.seat.Seat.{Seat}
use Rattle.bus_propagation.specs.inside.Hearing.{HaveWords}
use Rattle.bus_propagation.specs.inside.Seats.{station_of}
use Rattle.bus_propagation.specs.inside.Turns.{IsSender, KeepsPlace, IsSeated, Awaits, Follows, HasAttended, GoesTo, NoLater, IsTurn, NobodyBefore, Begun}
use Rattle.bus_propagation.proofs.TurnLemmas.{goes_start, goes_on, awaits_turn, turn_low, turn_left, took_turn, goes_whole}

-- how far a list has come, by moment and number
unfoldable pub rank : List Entry → ℕ
rank list = fold (λ _ x. 129 * x.moment + x.terminal + 1) 0 list

rank_push : (list : List Entry) (x : Entry) → rank (list ++ x ∷ []) ≡ 129 * x.moment + x.terminal + 1
unfolding rank
rank_push list x = fold-append (λ _ x. 129 * x.moment + x.terminal + 1) 0 list (x ∷ [])

rank_none : rank [] ≡ 0
unfolding rank
rank_none = refl

-- the senders of the table go with the list, up to some turn at a moment
pub record RunsTo (table : Table) (hands : List Hand) (delay : Delays) (wake : Wakes) (horizon : ℕ) (list : List Entry) (seats : List Seat) (moment : ℕ) : Type 0 where
  pub number : ℕ
  pub goes : GoesTo (quiet_of table) delay wake (stations_of table hands) list seats moment number
  pub rank_is : rank list ≡ 129 * moment + number
  pub small : number ≤ 129
  pub early : (moment < horizon) ⊎ ((moment ≡ 0) × (number ≡ 0))

-- no two of them are the same
stations_apart : (table : Table) (hands : List Hand) → IsTrue (is_valid table) → IsTrue (are_hands table.senders hands) → AreDistinct (map (λ s. s.number) (stations_of table hands))
stations_apart table hands valid dealt = subst AreDistinct (sym (stations_numbers table table.senders hands dealt)) (are_distinct table valid)

module _ (table : Table) (hands : List Hand) (delay : Delays) (wake : Wakes) (horizon : ℕ) where
  pub runs_start : (seats : List Seat) → map station_of seats ≡ stations_of table hands → AllByRecursion (IsSeated (quiet_of table) wake) seats → RunsTo table hands delay wake horizon [] seats 0
  runs_start seats same seated = record {
    number = 0;
    goes = goes_start (quiet_of table) delay wake (stations_of table hands) seats same (λ j x at. of_each (IsSeated (quiet_of table) wake) seats seated x (at_in seats j x at));
    rank_is = rank_none ∙ omega arith;
    small = omega arith;
    early = inr (refl, refl);
  }

  -- who follows goes on as before
  pub runs_on : (list : List Entry) (xs ys : List Seat) (t : ℕ) → RunsTo table hands delay wake horizon list xs t → Each (Follows delay list t) xs ys → RunsTo table hands delay wake horizon list ys t
  runs_on list xs ys t so follow = record {
    number = so.number;
    goes = goes_on (quiet_of table) delay wake (stations_of table hands) list xs ys t so.number so.goes follow;
    rank_is = so.rank_is;
    small = so.small;
    early = so.early;
  }

  -- the senders may hear of the list
  pub record Ready (list : List Entry) (seats : List Seat) : Type 0 where
    pub senders : (j : ℕ) (z : Seat) → slice_get seats j ≡ Some z → IsSender z
    pub words : HaveWords list
    pub order : IsByMoment list
    pub place : (j : ℕ) (z : Seat) → slice_get seats j ≡ Some z → KeepsPlace delay list z

  pub ready_to_follow : (list : List Entry) (seats : List Seat) (t : ℕ) → RunsTo table hands delay wake horizon list seats t → Ready list seats
  ready_to_follow list seats t so = record {
    senders = λ j z at. (so.goes.listen j z at).sender;
    words = so.goes.words;
    order = ascending_is_by_moment list so.goes.lawful.ordered;
    place = λ j z at. (so.goes.listen j z at).place;
  }

  -- the turn of a sender that has attended
  pub record Turns (list : List Entry) (seats : List Seat) (t p u : ℕ) (x : Seat) : Type 0 where
    pub runs : RunsTo table hands delay wake horizon list seats t
    pub at : slice_get seats p ≡ Some x
    pub next : x.next ≡ Some u
    pub first : (j : ℕ) (z : Seat) (m : ℕ) → slice_get seats j ≡ Some z → z.next ≡ Some m → NoLater u x.terminal m z.terminal
    pub awaits : Awaits delay wake list x
    pub sender : IsSender x
    pub left : x.sent < length x.messages.items

  pub turns : (list : List Entry) (xs ys : List Seat) (t p u : ℕ) (x : Seat) → RunsTo table hands delay wake horizon list xs t → Each (Follows delay list t) xs ys → HasAttended delay list t xs ys p → IsTurn ys p u
      → x ≡ get_or ys p x → Turns list ys t p u x
  turns list xs ys t p u x so follow attended turn is =
      let same : turn.seat ≡ x = sym (is ∙ get_or_from_slice_get ys p turn.seat x turn.at) in
      let runs : RunsTo table hands delay wake horizon list ys t = runs_on list xs ys t so follow in
      let awaits : Awaits delay wake list turn.seat = awaits_turn (quiet_of table) delay wake (stations_of table hands) list xs ys t so.number p turn.seat so.goes follow attended turn.at in
      subst (Turns list ys t p u) same (record {
        runs = runs;
        at = turn.at;
        next = turn.next;
        first = turn.first;
        awaits = awaits;
        sender = (runs.goes.listen p turn.seat turn.at).sender;
        left = turn_left (quiet_of table) delay wake list u turn.seat awaits turn.next;
      })

  -- the same of lists that are told apart
  pub takes_turn : (list heard : List Entry) (xs old new : List Seat) (t p u : ℕ) (x : Seat) → heard ≡ list → old ≡ xs → RunsTo table hands delay wake horizon list xs t → Each (Follows delay heard t) old new
      → HasAttended delay heard t old new p → IsTurn new p u → x ≡ get_or new p x → Turns list new t p u x
  takes_turn list heard xs old new t p u x same_list same_seats so follow attended turn is =
      turns list xs new t p u x so
      (subst (λ (s : List Seat). Each (Follows delay list t) s new) same_seats (subst (λ (l : List Entry). Each (Follows delay l t) old new) same_list follow))
      (subst (λ (s : List Seat). HasAttended delay list t s new p) same_seats (subst (λ (l : List Entry). HasAttended delay l t old new p) same_list attended))
      turn is

  -- a turn later it has come further
  pub record Further (list : List Entry) (e : Entry) (seats : List Seat) (u : ℕ) : Type 0 where
    pub runs : RunsTo table hands delay wake horizon (list ++ e ∷ []) seats u
    pub less : 129 * horizon - rank (list ++ e ∷ []) < 129 * horizon - rank list

  pub runs_further : (list : List Entry) (seats : List Seat) (t p u : ℕ) (x y : Seat) (e : Entry) → IsTrue (is_valid table) → IsTrue (are_hands table.senders hands) → Turns list seats t p u x → u < horizon
      → Begun u x y e → Further list e (set seats p y) u
  runs_further list seats t p u x y e valid dealt turn early b =
      let so : RunsTo table hands delay wake horizon list seats t = turn.runs in
      let goes : GoesTo (quiet_of table) delay wake (stations_of table hands) (list ++ e ∷ []) (set seats p y) u (x.terminal + 1) =
      took_turn (quiet_of table) delay wake (stations_of table hands) list seats t so.number p u x y e (stations_have_own_numbers table hands valid dealt) (stations_apart table hands valid dealt)
      so.goes turn.at turn.awaits turn.next turn.first b in
      let low : NoLater t so.number u x.terminal = turn_low (quiet_of table) delay wake (stations_of table hands) list seats t so.number p u x so.goes turn.at turn.awaits turn.next in
      let most : x.terminal ≤ 128 = turn.sender.most in
      let small : so.number ≤ 129 = so.small in
      let e_moment : e.moment ≡ u = b.moment in
      let e_terminal : e.terminal ≡ x.terminal = b.terminal in
      let old : rank list ≡ 129 * t + so.number = so.rank_is in
      let new : rank (list ++ e ∷ []) ≡ 129 * e.moment + e.terminal + 1 = rank_push list e in
      record {
        runs = record { number = x.terminal + 1; goes = goes; rank_is = omega arith; small = omega arith; early = inl early };
        less = elim low [
          | inl less ↦ omega arith
          | inr at_once ↦ let m : t ≡ u = at_once.0 in let k : so.number ≤ x.terminal = at_once.1 in omega arith
        ];
      }

  pub runs_whole : (list : List Entry) (seats : List Seat) (t : ℕ) → RunsTo table hands delay wake horizon list seats t → NobodyBefore seats horizon → IsLawfulOnCable (quiet_of table) delay wake (stations_of table hands) horizon list
  runs_whole list seats t so none = goes_whole (quiet_of table) delay wake (stations_of table hands) list seats t so.number horizon so.goes so.early none

  pub runs_only : (list other : List Entry) (seats : List Seat) (t : ℕ) → IsTrue (is_valid table) → IsTrue (are_hands table.senders hands) → RunsTo table hands delay wake horizon list seats t → NobodyBefore seats horizon
      → IsLawfulOnCable (quiet_of table) delay wake (stations_of table hands) horizon other → other ≡ list
  runs_only list other seats t valid dealt so none law =
      cable_once (quiet_of table) delay wake (stations_of table hands) horizon other list (stations_have_own_numbers table hands valid dealt) law (runs_whole list seats t so none)
