-- What C gets beside a refusal: zeros.
-- Assumes nothing.
use Rattle.std.proofs.Common.{◌≡◌, refl, Err, replicate}
use Rattle.refusal.specs.declared.Refusal.TheVariants.{Count}
use Rattle.live.specs.Live as Live
use Rattle.border.specs.Border.{begun_of, scanned_of}

-- a view begun from k of 33 is refused, with the state of zeros
pub begun_33 : begun_of (Live.begun_of 33) ≡ record { number = 20; value = 0; view = Live.fresh 0 0 }
unfolding Live.begun_of
begun_33 = refl

-- a scan at no tolerance is refused, with zeros for the kept numbers
pub scanned_none : scanned_of (Err Count) ≡ record { number = 19; value = 0; kept = replicate 16 0 }
scanned_none = refl
