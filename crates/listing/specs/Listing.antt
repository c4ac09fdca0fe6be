-- How the two lists are made, channel by channel, for runs of the same lengths.
--   Put                    a channel behind the entries of a list, if it belongs there
--   PartFits               a channel that lies in both runs, and can be compared
--   Listable               what the checks show: runs of the same lengths, and room for each channel in both lists
--   moved_in, noisy_in     the two tests of a channel
--   BothListed             both lists are made
-- Laws are in ListingLaws. Assumes nothing.
use Rattle.std.specs.Prelude.{◌≡◌, Bool, cond, List, ℕ, ◌+◌, ◌≤◌, ◌<◌, ℤ, length, set, get_or}
use Rattle.lists.specs.Overwrite.{Wrote}
use Rattle.lists.specs.Listed.{listed}
use Rattle.channels.specs.Channels.{sum, of_channel}
use Rattle.ratio.specs.declared.Ratio.{Ratio}
use Rattle.tolerance.specs.Meaning.{Held}
use Rattle.verdicts.specs.Sums.{moved, noisy}
use Rattle.listing.specs.declared.Counts.{Counts}

pub record Put (o : List ℕ) (n c : ℕ) (belongs : Bool) (r : ℕ) (o' : List ℕ) : Type 0 where
  pub count : r ≡ cond belongs (n + 1) n
  pub content : o' ≡ cond belongs (set o n c) o

pub record PartFits (vs ws : List ℤ) (at n : ℕ) (r : Ratio) (k : ℕ) : Type 0 where
  pub today : at + n ≤ length vs
  pub earlier : at + n ≤ length ws
  pub few : n ≤ 4096
  pub held : Held r
  pub factor : k ≤ 16

pub record Listable (vs ws : List ℤ) (ls : List ℕ) (r : Ratio) (k room room' : ℕ) : Type 0 where
  pub channels : length ls ≤ 64
  pub today : sum ls ≡ length vs
  pub earlier : sum ls ≡ length ws
  pub few : (c : ℕ) → c < length ls → get_or ls c 0 ≤ 4096
  pub held : Held r
  pub factor : k ≤ 16
  pub first_room : length ls ≤ room
  pub second_room : length ls ≤ room'

abbrev pub moved_in : Ratio → List ℤ → List ℤ → List ℕ → ℕ → Bool
moved_in r vs ws ls c = moved r (of_channel ls c vs) (of_channel ls c ws)

abbrev pub noisy_in : ℕ → List ℤ → List ℤ → List ℕ → ℕ → Bool
noisy_in k vs ws ls c = noisy k (of_channel ls c vs) (of_channel ls c ws)

pub record BothListed (vs ws : List ℤ) (ls : List ℕ) (r : Ratio) (k : ℕ) (m s : List ℕ) (n : Counts) (m' s' : List ℕ) : Type 0 where
  pub moved : Wrote (listed (moved_in r vs ws ls) (length ls)) m n.moved m'
  pub noisy : Wrote (listed (noisy_in k vs ws ls) (length ls)) s n.noisy s'
