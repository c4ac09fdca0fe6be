-- Laws of `scan`: where the checks pass the pass may run, and what it wrote is what the separate calls promise.
-- Assumes nothing.
use mathlib.Core.Path.{◌≡◌}
use mathlib.Core.List.{List}
use Prim.Native.Nat.{ℕ, ◌<◌}
use native.Mathlib.Omega.{arith}
use lib.IntN.{ℤ}
use lib.ListN.{length, take}
use lib.Seq.{length-take-le}
use Rattle.std.proofs.lemmas.List.{get_or-take}
use Rattle.tolerance.specs.declared.Parts.{Parts}
use Rattle.limits.specs.Prepare.{criterion_of, Sets}
use Rattle.limits.proofs.PrepareLaws.{sets_ready, room_fine}
use Rattle.tolerances.specs.declared.Tolerances.{Tolerances}
use Rattle.tolerances.specs.Tolerances.{limits_at, parts_at, ScanReady}
use Rattle.tolerances.proofs.TolerancesLaws.{several_sets}
use Rattle.scans.specs.Answers.{part}
use Rattle.scans.specs.Scan.{criterion_at, Given, Scanned}
use Rattle.scans.proofs.PassLaws.{part_length}
use Rattle.scans.proofs.StreamLaws.{kept_streams}
use Rattle.engine.specs.Scan.{ScanKept}
use Rattle.engine.proofs.ReduceLaws.{walk_kept}

module _ {ts : List ℕ} {vs : List ℤ} {t : Tolerances} {g : ℕ} (o : List ℕ) {ps : List Parts} (r : ScanReady ts vs t g (length o) ps) where
  abbrev asked : List Parts
  asked = take t.count ps

  so_many : length asked ≡ t.count
  so_many = length-take-le t.count ps (omega (arith, r.several.few, r.several.each.size))

  sets : (a : ℕ) → a < t.count → Sets (limits_at t g a) (criterion_at asked g a)
  sets a lt = let e : parts_at asked a ≡ parts_at ps a = get_or-take t.count ps a _ lt in rw e (several_sets r.several a lt)

  pub scan_given : Given ts vs asked g o
  scan_given = record {
    trace = r.trace;
    ratios = record { few = omega (arith, so_many, r.several.few); bounded = λ a lt. (sets a (omega (arith, so_many))).bounded };
    room = rw so_many r.several.room_is;
  }

  pub scan_kept : {counts o' : List ℕ} → Scanned ts vs asked g o counts o' → ScanKept ts vs t g o counts o'
  scan_kept {counts} {o'} s = record {
    rows = r.rows;
    each = λ a lt.
        let n = part_length t.count (length ts) a o r.several.room_is lt in
        let ready = room_fine ts vs (limits_at t g a) (length (part (length ts) a o)) (sets_ready ts vs (limits_at t g a) r.row (sets a lt)) (omega arith) in
        let u : a < length asked = omega (arith, so_many) in
        walk_kept ready (record { count = s.kept a u; content = s.parts a u });
    none = λ a u. s.none a (omega (arith, so_many));
    beyond = rw so_many at s.beyond;
    streams = λ a lt j u. kept_streams ts vs (criterion_of (limits_at t g a)) j u;
  }
