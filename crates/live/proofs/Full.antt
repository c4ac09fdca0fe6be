-- What whoever holds a View knows of its array: it has 66 entries.
-- Assumes nothing.
use mathlib.Core.Path.{◌≡◌}
use mathlib.Core.List.{List}
use mir.Val.{Val}
use lib.ListN.{length}
use denote.Laws.{Is}
use denote.Struct.Laws as LL
use Rattle.live.specs.declared.View.{View}
use Rattle.live.specs.contracts.View as T
use Rattle.live.proofs.View.TheLaws as T'

pub full : (v : View) {vs : List Val} → Is T.the_row v vs → length v.samples ≡ 66
full v {vs} is = (LL.owed T.the_type T'.the_laws v vs is).1.1.0.1.0.1
