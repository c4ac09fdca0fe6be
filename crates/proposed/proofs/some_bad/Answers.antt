-- `proposed::some_bad` meets its contract. Assumes nothing.
use Rattle.std.proofs.Common.{rules, ap, not}
use Rattle.trace.specs.Trace.{falls_at}
use Rattle.proposed.proofs.ProposedLaws.{rising_clear}
use Rattle.proposed.proofs.some_bad.Goals.{then-list-ne0, else-list-ne0}
use Rattle.proposed.proofs.some_bad.Goals as goal

pub returns-else-n-from : goal.returns-else-n-from
returns-else-n-from c = elim c.if-list-ne0.branch [
  | then-list-ne0 w ↦ search rules
  | else-list-ne0 w ↦ λ h.
      rising_clear _ _ (search rules) (search rules) (search rules)
      ((c.some_where.ensures (falls_at c.args.list.now) (λ k here l u p. search rules)).holds (ap not h))
]
