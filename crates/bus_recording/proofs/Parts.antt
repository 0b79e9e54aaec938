-- Two transmissions that are the same agree in each part.
use Rattle.std.proofs.Common.{◌≡◌, ap}
use Rattle.bus_recording.specs.Seen.{Seen}

pub same_moment : (r q : Seen) → r ≡ q → r.moment ≡ q.moment
same_moment r q same = ap (λ (v : Seen). v.moment) same

pub same_sender : (r q : Seen) → r ≡ q → r.sender ≡ q.sender
same_sender r q same = ap (λ (v : Seen). v.sender) same

pub same_soonest : (r q : Seen) → r ≡ q → r.soonest ≡ q.soonest
same_soonest r q same = ap (λ (v : Seen). v.soonest) same

pub same_latest : (r q : Seen) → r ≡ q → r.latest ≡ q.latest
same_latest r q same = ap (λ (v : Seen). v.latest) same
