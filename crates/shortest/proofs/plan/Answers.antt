-- `shortest::plan` meets its contract: each turn fills one entry more of both tables. Assumes nothing.
use mathlib.Core.Path.{sym}
use native.Mathlib.Omega.{arith}
use borrow.Author.Rules.{rules}
use Rattle.lists.proofs.FirstLaws.{clear_none, first_none}
use Rattle.trace.proofs.Holes.{run_bounds, links_end_is}
use Rattle.trace.proofs.Validity.{steps_valid}
use Rattle.shortest.proofs.Tables.{tabling_none, counted_after, stop_inside, tabling_more}
use Rattle.shortest.proofs.plan.Goals as goal

pub loop-i-init : goal.loop-i-init
loop-i-init c = (
  tabling_none _ _ c.args.links.now c.args.next.now (search rules) (search rules),
  sym (first_none (omega arith) clear_none),
)

pub end_of-requires : goal.end_of-requires
end_of-requires c =
    let b = run_bounds _ _ _ (omega (arith, c.loop-i-test.true, c.loop-i.invariant.0)) c.run_from-run.ensures in
    (b.0, omega (arith, b.1, c.requires.0.few))

pub next_stop-b-requires : goal.next_stop-b-requires
next_stop-b-requires c =
    let t = c.loop-i-test.true in
    let pre = c.requires in (
      record {
        trace = pre.0;
        bounded = pre.1;
        inside = omega (arith, t, c.loop-i.invariant.0);
        counted = counted_after _ _ (steps_valid _ _ _) c.loop-i.invariant.0 t;
        limit_is = links_end_is _ _ _ (omega (arith, t, c.loop-i.invariant.0)) c.run_from-run.ensures c.end_of.ensures;
      },
      c.across-x.ensures,
    )

pub offset_bounds-links-b : goal.offset_bounds-links-b
offset_bounds-links-b c = omega (arith, stop_inside _ _ (steps_valid _ _ _) c.loop-i.invariant.0 c.loop-i-test.true c.next_stop-b.ensures)

pub bounds-links-b : goal.bounds-links-b
bounds-links-b c = omega (arith, stop_inside _ _ (steps_valid _ _ _) c.loop-i.invariant.0 c.loop-i-test.true c.next_stop-b.ensures)

pub overflow_add-links : goal.overflow_add-links
overflow_add-links c = omega (arith, stop_inside _ _ (steps_valid _ _ _) c.loop-i.invariant.0 c.loop-i-test.true c.next_stop-b.ensures)

pub overflow_cast-next : goal.overflow_cast-next
overflow_cast-next c = omega (arith, stop_inside _ _ (steps_valid _ _ _) c.loop-i.invariant.0 c.loop-i-test.true c.next_stop-b.ensures)

pub loop-i-preserved : goal.loop-i-preserved
loop-i-preserved c =
    (tabling_more _ _ (steps_valid _ _ _) c.loop-i.invariant.0 c.loop-i-test.true c.next_stop-b.ensures, c.run_from-run.ensures)
