use Rattle.std.proofs.Common.{◌++◌, ap, ◌∙◌, subst, sym}
use Rattle.task_code_statements.specs.Vectorizing.{AreLeft, TestFirst}
use Rattle.task_code_statements.proofs.guards.tests_of.Goals as goal

pub returns : goal.returns
returns c =
    let added = c.in_ok-add_left.ensures in
    record {
      parts = c.in_ok-fixed.field-0;
      parted = c.in_ok-fixed.ensures;
      left = subst (λ guards. AreLeft c.args.bounds.now c.args.counter guards c.add_left.new.left.items) c.as_slice-2.ensures.value
          (subst (AreLeft c.args.bounds.now c.args.counter c.as_slice-2.result.now) (sym (added.1 ∙ ap (λ l. l ++ added.0) c.new-left.ensures.items)) added.2);
      first = subst (λ hanging. TestFirst c.args.bounds.now c.args.counter c.in_ok-fixed.field-0.fixed.items hanging c.add_tests_at_start.new.fixed.items)
          c.as_slice.ensures.value c.in_ok-add_tests_at_start.ensures;
    }
