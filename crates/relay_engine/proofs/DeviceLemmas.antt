-- What devices give and take in several calls.
use Rattle.std.proofs.Common.{◌≡◌, ◌≤◌, ℕ, List, [], length, Option, Some, None, refl, sym, ◌∙◌, arith}
use Rattle.std.proofs.KnownBytes.{Appends-nil}
use Rattle.std.proofs.lemmas.List.{append-nil, length-append}
use Rattle.std.specs.Io.KnownBytes.{Appends, Keeps}
use Rattle.edge_core.specs.Device.{SinkState, Takes, TakesFront}

pub takes_nothing : (a b : SinkState) → b ≡ a → Takes a [] b
takes_nothing a b e = rw e (record { taken = Appends-nil a.written; unfailed = refl; same = refl })

-- a front is no longer than the whole
pub front_len : (a b : SinkState) (xs : List ℕ) (count : ℕ) → TakesFront a xs count b → count ≤ length xs
front_len a b xs count f = rw (← f.is_front.1) (omega (arith, f.counted, length-append f.front f.is_front.0))

-- nothing was written by a call that failed
pub appends_kept : (a b : Option (List ℕ)) → Keeps a b → Appends a b []
appends_kept None b kept = tt
appends_kept (Some bytes) None kept = absurd kept
appends_kept (Some bytes) (Some same) kept = kept ∙ sym (append-nil bytes)
