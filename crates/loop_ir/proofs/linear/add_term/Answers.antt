use Rattle.std.proofs.Common.{ℕ, List, ◌%◌, ◌^◌, ap, ◌∙◌, sym}
use Rattle.std.specs.Prelude.{slice_get, slice_set}
use Rattle.loop_ir.specs.declared.expressions.Term.{Term}
use Rattle.loop_ir.specs.Expressions.{sum_of}
use Rattle.loop_ir.proofs.Sums.{sum_set, sum_push}
use Rattle.loop_ir.proofs.linear.add_term.Goals as goal

pub returns-in-Some-clause-sum : goal.returns-in-Some-clause-sum
returns-in-Some-clause-sum c = λ values.
    ap (λ (ts : List Term). sum_of values ts % 2 ^ 32) c.set.ensures
    ∙ ap (λ (n : ℕ). sum_of values (slice_set c.args.terms.now c.in-Some.place (record { counter = c.args.term.counter; stride = n })) % 2 ^ 32) c.add.ensures
    ∙ sum_set values c.args.terms.now c.in-Some.place c.in-Some.stride c.args.term.stride c.args.term.counter
    (ap (λ (ts : List Term). slice_get ts c.in-Some.place) (sym c.as_slice.ensures) ∙ c.in-Some.ensures)

pub returns-in_ok-push-in-None-clause-sum : goal.returns-in_ok-push-in-None-clause-sum
returns-in_ok-push-in-None-clause-sum c = λ values.
    ap (λ (ts : List Term). sum_of values ts % 2 ^ 32) c.in_ok-push-in-None.ensures.ok
    ∙ ap (λ (k : ℕ). k % 2 ^ 32) (sum_push values c.args.terms.now c.args.term)
