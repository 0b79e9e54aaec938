-- What comes to a terminal next.
use Rattle.std.proofs.Common.{◌≡◌, ℕ, zero, suc, ◌+◌, ◌<◌, ◌≤◌, ◌⊎◌, ◌^◌, true, false, List, [], ◌∷◌, length, Option, Some, None, inl, inr, arith, sym, refl, ap, ◌∙◌, subst}
use Rattle.std.specs.Prelude.{slice_get, nat_le}
use Rattle.std.specs.Option.{IfSome, MatchOption, option_map_or}
use Rattle.std.proofs.lemmas.Bool.{cases_lt, leb-true, true≢false}
use Rattle.std.proofs.lemmas.Option.{slice_get_within}
use Rattle.bus_strings.specs.Members.{In}
use Rattle.bus_strings.proofs.MemberLaws.{at_in, in_at, of_each}
use Rattle.bus_strings.proofs.KeptLemmas.{bits_within}
use Rattle.bus_strings.specs.Messages.{Entry, IsMessage, bits}
use Rattle.bus_strings.specs.Transmissions.{end_of, IsByMoment}
use Rattle.bus_medium.specs.Delays.{Delays, distance, heard_end}
use Rattle.bus_medium.proofs.Seats.{same_some}
use Rattle.bus_propagation.specs.declared.arrival.Arrival.{Arrival}
use Rattle.bus_propagation.specs.declared.arrival.Coming.{Coming}
use Rattle.bus_propagation.specs.inside.Arrivals.{heard_begin, ComesFirst, NoneComes, ArePassed}

pub end_within : (x : Entry) → x.moment < 2 ^ 40 → IsMessage x.message → end_of x ≤ 2 ^ 40 + 160000
end_within x low m = let b : bits x.message ≤ 159460 = (bits_within x.message m).1 in omega arith

-- at one place stands one entry
one_there : (list : List Entry) (p i : ℕ) (x y : Entry) → i ≡ p → slice_get list p ≡ Some x → slice_get list i ≡ Some y → x ≡ y
one_there list p i x y same at y_at = same_some x y (sym at ∙ ap (slice_get list) (sym same) ∙ y_at)

-- this is one of the list, not heard to its end at a moment
pub record IsArrival (delay : Delays) (number : ℕ) (list : List Entry) (moment : ℕ) (a : Arrival) : Type 0 where
  pub entry : Entry
  pub there : In entry list
  pub begins : a.begin ≡ heard_begin delay entry number
  pub ends : a.end ≡ heard_end delay entry number
  pub ahead : moment < a.end

-- the first of those before a place of the list
pub record FirstSoFar (delay : Delays) (number : ℕ) (list : List Entry) (moment : ℕ) (first : Option Coming) (place : ℕ) : Type 0 where
  pub none : first ≡ None → ArePassed delay number list place moment
  pub some : (c : Coming) → first ≡ Some c → IsArrival delay number list moment c.arrival
  pub least : (c : Coming) → first ≡ Some c → (i : ℕ) (x : Entry) → i < place → slice_get list i ≡ Some x → moment < heard_end delay x number → c.arrival.begin ≤ heard_begin delay x number
  pub passed : (c : Coming) → first ≡ Some c → ArePassed delay number list c.cursor moment × (c.cursor < place)

-- places up to 1024 are at most so far apart
pub near_by : (d a b : ℕ) → d ≡ distance a b → a ≤ 1024 → b ≤ 1024 → d ≤ 1024
near_by d a b is from to = omega arith

pub none_so_far : (delay : Delays) (number : ℕ) (list : List Entry) (moment cursor : ℕ) → ArePassed delay number list cursor moment → FirstSoFar delay number list moment None cursor
none_so_far delay number list moment cursor passed = record {
  none = λ e. passed;
  some = λ c e. absurd (let k : None ≡ Some c = e in cc);
  least = λ c e. absurd (let k : None ≡ Some c = e in cc);
  passed = λ c e. absurd (let k : None ≡ Some c = e in cc);
}

-- one more that was heard to its end
pub one_ended : (delay : Delays) (number : ℕ) (list : List Entry) (moment : ℕ) (first : Option Coming) (place : ℕ) (x : Entry) → FirstSoFar delay number list moment first place
    → slice_get list place ≡ Some x → heard_end delay x number ≤ moment → FirstSoFar delay number list moment first (place + 1)
one_ended delay number list moment first place x so at over = record {
  none = λ e i y low y_at. elim (cases_lt i place) [
    | inl before ↦ so.none e i y before y_at
    | inr here ↦ subst (λ z. heard_end delay z number ≤ moment) (one_there list place i x y (omega arith) at y_at) over
  ];
  some = so.some;
  least = λ c e i y low y_at ahead. elim (cases_lt i place) [
    | inl before ↦ so.least c e i y before y_at ahead
    | inr here ↦ let k : heard_end delay y number ≤ moment = subst (λ z. heard_end delay z number ≤ moment) (one_there list place i x y (omega arith) at y_at) over in absurd (omega arith)
  ];
  passed = λ c e. let p = so.passed c e in let k : c.cursor < place = p.1 in (p.0, omega arith);
}

-- which of two comes first, and up to where all is passed
pub record IsSooner (first : Option Coming) (place : ℕ) (a : Arrival) (b : Coming) : Type 0 where
  pub one : MatchOption first (b.arrival ≡ a) (λ c. (b.arrival ≡ a) ⊎ (b.arrival ≡ c.arrival))
  pub least : b.arrival.begin ≤ a.begin
  pub no_later : IfSome first (λ c. b.arrival.begin ≤ c.arrival.begin)
  pub cursor : MatchOption first (b.cursor ≡ place) (λ c. b.cursor ≡ c.cursor)

-- one more that wasn't
pub one_comes : (delay : Delays) (number : ℕ) (list : List Entry) (moment : ℕ) (first : Option Coming) (place : ℕ) (x : Entry) (a : Arrival) (b : Coming)
    → FirstSoFar delay number list moment first place → slice_get list place ≡ Some x → a.begin ≡ heard_begin delay x number → a.end ≡ heard_end delay x number → moment < a.end
    → IsSooner first place a b → FirstSoFar delay number list moment (Some b) (place + 1)
one_comes delay number list moment first place x a b so at begins ends ahead sooner = record {
  none = λ e. absurd (let k : Some b ≡ None = e in cc);
  some = λ c e.
      let is : b ≡ c = cc in
      subst (λ (d : Coming). IsArrival delay number list moment d.arrival) is (from_either first so.some sooner.one);
  least = λ c e i y i_low y_at y_ahead.
      let is : b ≡ c = cc in
      let least : b.arrival.begin ≤ a.begin = sooner.least in
      subst (λ (d : Coming). d.arrival.begin ≤ heard_begin delay y number) is (elim (cases_lt i place) [
        | inr here ↦
            let same : heard_begin delay x number ≡ heard_begin delay y number = ap (λ z. heard_begin delay z number) (one_there list place i x y (omega arith) at y_at) in
            omega arith
        | inl before ↦ elim first as (λ f. first ≡ f → b.arrival.begin ≤ heard_begin delay y number) [
          | None ↦ λ f. let k : heard_end delay y number ≤ moment = so.none f i y before y_at in absurd (omega arith)
          | Some d ↦ λ f.
              let k : d.arrival.begin ≤ heard_begin delay y number = so.least d f i y before y_at y_ahead in
              let l : b.arrival.begin ≤ d.arrival.begin = subst (λ g. IfSome g (λ c. b.arrival.begin ≤ c.arrival.begin)) f sooner.no_later in
              omega arith
        ] refl
      ]);
  passed = λ c e.
      let is : b ≡ c = cc in
      subst (λ (d : Coming). ArePassed delay number list d.cursor moment × (d.cursor < place + 1)) is (elim first as (λ f. first ≡ f → ArePassed delay number list b.cursor moment × (b.cursor < place + 1)) [
        | None ↦ λ f.
            let k : b.cursor ≡ place = subst (λ g. MatchOption g (b.cursor ≡ place) (λ c. b.cursor ≡ c.cursor)) f sooner.cursor in
            (subst (λ n. ArePassed delay number list n moment) (sym k) (so.none f), omega arith)
        | Some d ↦ λ f.
            let k : b.cursor ≡ d.cursor = subst (λ g. MatchOption g (b.cursor ≡ place) (λ c. b.cursor ≡ c.cursor)) f sooner.cursor in
            let p = so.passed d f in
            let l : d.cursor < place = p.1 in
            (subst (λ n. ArePassed delay number list n moment) (sym k) p.0, omega arith)
      ] refl);
}
  where
    fresh : b.arrival ≡ a → IsArrival delay number list moment b.arrival
    fresh e = subst (IsArrival delay number list moment) (sym e) (record { entry = x; there = at_in list place x at; begins = begins; ends = ends; ahead = ahead })

    from_either : (f : Option Coming) → ((c : Coming) → f ≡ Some c → IsArrival delay number list moment c.arrival) → MatchOption f (b.arrival ≡ a) (λ c. (b.arrival ≡ a) ⊎ (b.arrival ≡ c.arrival))
        → IsArrival delay number list moment b.arrival
    from_either None some one = fresh one
    from_either (Some d) some (inl new) = fresh new
    from_either (Some d) some (inr old) = subst (IsArrival delay number list moment) (sym old) (some d refl)

-- of a list of which all from a place on comes no earlier, that is what comes first of all
first_of : (delay : Delays) (number : ℕ) (list : List Entry) (moment : ℕ) (c : Coming) (place : ℕ) → FirstSoFar delay number list moment (Some c) place
    → ((i : ℕ) (y : Entry) → place ≤ i → slice_get list i ≡ Some y → c.arrival.begin ≤ heard_begin delay y number) → ComesFirst delay number list moment c.arrival.begin c.arrival.end
first_of delay number list moment c place so rest =
    let found = so.some c refl in
    record {
      entry = found.entry;
      there = found.there;
      begins = found.begins;
      ends = found.ends;
      ahead = found.ahead;
      first = λ y there ahead.
          let at = in_at list y there in
          elim (cases_lt at.0 place) [ inl before ↦ so.least c refl at.0 y before at.1 ahead | inr behind ↦ rest at.0 y behind at.1 ];
    }

-- the whole list
pub first_of_all : (delay : Delays) (number : ℕ) (list : List Entry) (moment : ℕ) (first : Option Coming) (place : ℕ) → FirstSoFar delay number list moment first place → length list ≤ place
    → MatchOption first (NoneComes delay number list moment) (λ c. ComesFirst delay number list moment c.arrival.begin c.arrival.end)
first_of_all delay number list moment None place so all = λ y there.
    let at = in_at list y there in
    let within : at.0 < length list = slice_get_within list at.0 y at.1 in
    so.none refl at.0 y (omega arith) at.1
first_of_all delay number list moment (Some c) place so all =
    first_of delay number list moment c place so (λ i y low at. let within : i < length list = slice_get_within list i y at in absurd (omega arith))

-- the moments of a list in order
moments_at : (list : List Entry) (i k : ℕ) (x y : Entry) → IsByMoment list → slice_get list i ≡ Some x → slice_get list k ≡ Some y → i ≤ k → x.moment ≤ y.moment
moments_at [] i k x y order at at_k h = absurd (let w : None ≡ Some x = at in cc)
moments_at (z ∷ zs) zero zero x y order at at_k h = let same : x ≡ y = (let w : Some x ≡ Some y = sym at ∙ at_k in cc) in let e : x.moment ≡ y.moment = ap (λ (v : Entry). v.moment) same in omega (arith, e)
moments_at (z ∷ zs) zero (suc k) x y order at at_k h =
    let same : z ≡ x = (let w : Some z ≡ Some x = at in cc) in
    subst (λ (w : Entry). w.moment ≤ y.moment) same (of_each (λ w. z.moment ≤ w.moment) zs order.0 y (at_in zs k y at_k))
moments_at (z ∷ zs) (suc i) zero x y order at at_k h = absurd (omega arith)
moments_at (z ∷ zs) (suc i) (suc k) x y order at at_k h = moments_at zs i k x y order.1 at at_k (omega arith)

-- what is sent at or behind the moment at which something comes is heard no earlier
pub first_enough : (delay : Delays) (number : ℕ) (list : List Entry) (moment : ℕ) (first : Option Coming) (place : ℕ) (x : Entry) → IsByMoment list → FirstSoFar delay number list moment first place
    → slice_get list place ≡ Some x → option_map_or (λ c. nat_le c.arrival.begin x.moment) first false ≡ true
    → MatchOption first (NoneComes delay number list moment) (λ c. ComesFirst delay number list moment c.arrival.begin c.arrival.end)
first_enough delay number list moment None place x order so at by = absurd (true≢false (sym by))
first_enough delay number list moment (Some c) place x order so at by =
    first_of delay number list moment c place so (λ i y low y_at.
    let m : x.moment ≤ y.moment = moments_at list place i x y order at y_at low in
    let b : c.arrival.begin ≤ x.moment = leb-true c.arrival.begin x.moment by in
    omega arith)

-- what comes has a cursor behind which all is passed
pub passed_by : (delay : Delays) (number : ℕ) (list : List Entry) (moment : ℕ) (first : Option Coming) (place : ℕ) → FirstSoFar delay number list moment first place
    → IfSome first (λ c. ArePassed delay number list c.cursor moment)
passed_by delay number list moment None place so = tt
passed_by delay number list moment (Some c) place so = (so.passed c refl).0

pub cursor_within : (delay : Delays) (number : ℕ) (list : List Entry) (moment : ℕ) (first : Option Coming) (place : ℕ) → FirstSoFar delay number list moment first place → place ≤ length list
    → IfSome first (λ c. c.cursor < length list)
cursor_within delay number list moment None place so within = tt
cursor_within delay number list moment (Some c) place so within = let k : c.cursor < place = (so.passed c refl).1 in omega arith

-- what is heard to its end at a moment is so later
pub passed_later : (delay : Delays) (number : ℕ) (list : List Entry) (cursor v u : ℕ) → ArePassed delay number list cursor v → v ≤ u → ArePassed delay number list cursor u
passed_later delay number list cursor v u passed low i x before at = let k : heard_end delay x number ≤ v = passed i x before at in omega arith
