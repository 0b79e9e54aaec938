-- Dealing items out, one after the other.
use Rattle.std.specs.Prelude.{◌≡◌, ℕ, List, [], ◌∷◌, ◌++◌, map, Result, Ok, Err}
use Rattle.bus_strings.specs.Items.{Item}
use Rattle.bus_table.specs.declared.fit.FitError.{FitError}
use Rattle.bus_table.specs.Fits.{fit_from, item_fit}
use Rattle.bus_table.specs.Hands.{hand_of}
use Rattle.bus_table.specs.Tables.{Sender, Hand}

-- The hands that items give senders.
abbrev pub dealt : List Sender → List Item → List Hand
dealt senders items = map (hand_of items) senders

-- Of whatever items these hands were, now they are of this one too.
abbrev pub IsDealt : List Sender → Item → List Hand → List Hand → Type 0
IsDealt senders item old new = (done : List Item) → old ≡ dealt senders done → new ≡ dealt senders (done ++ item ∷ [])

-- Behind items of which these are the hands, where all fit, item k was dealt out if it fits.
abbrev pub IsTried : ℕ → List Sender → Item → List Hand → List Hand → Result (Unit {0}) FitError → Type 0
IsTried k senders item old new (Ok fit) = (item_fit k senders item ≡ Ok tt) × IsDealt senders item old new
IsTried k senders item old new (Err error) = item_fit k senders item ≡ Err error

-- The hands are those of the items that were read, if all of these fit.
abbrev pub AreDealt : List Sender → List Item → List Hand → Result (Unit {0}) FitError → Type 0
AreDealt senders done hands (Ok fit) = (fit_from 1 senders done ≡ Ok tt) × (hands ≡ dealt senders done)
AreDealt senders done hands (Err error) = fit_from 1 senders done ≡ Err error
