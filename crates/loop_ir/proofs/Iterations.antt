-- One more iteration of a loop.
use Rattle.std.proofs.Common.{◌≡◌, ℕ, suc, ◌+◌, ◌<◌, refl, ap, subst, ◌∙◌, sym, arith}
use Rattle.std.proofs.lemmas.Bool.{lt-ltb}
use Rattle.halide_pipeline.specs.Pixel.{Planes}
use Rattle.loop_ir.specs.declared.expressions.Counter.{Counter}
use Rattle.loop_ir.specs.declared.statements.Stmt.{Stmt}
use Rattle.loop_ir.specs.Buffers.{Points}
use Rattle.loop_ir.specs.Counters.{Values, with}
use Rattle.loop_ir.specs.declared.statements.LoopKind.{LoopKind}
use Rattle.loop_ir.specs.declared.statements.Stmt.TheVariants as s
use Rattle.loop_ir.specs.declared.statements.Phase.{Phase}
use Rattle.loop_ir.specs.declared.statements.Whole.{Whole}
use Rattle.loop_ir.specs.Running.{run, run_task, task_values, iterated, whole_value}
use Rattle.loop_ir.proofs.Trees.{run_sequence, run_for, run_bind}

pub iterations_none : (one : ℕ → Planes → Planes) (start : Planes) → start ≡ iterated 0 one start
unfolding iterated
iterations_none one start = refl

iterations_more : (n : ℕ) (one : ℕ → Planes → Planes) (start : Planes) → iterated (n + 1) one start ≡ one n (iterated n one start)
unfolding iterated
iterations_more n one start = let next : n + 1 ≡ suc n = omega arith in ap (λ k. iterated k one start) next

pub iteration_made : (points now : Points) (inputs : Planes) (body new_statement : Stmt) (counter : Counter) (n : ℕ) (before entered : Values) (start old new : Planes)
    → now ≡ points → new_statement ≡ body → entered ≡ with counter n before
    → old ≡ iterated n (λ iteration. run points inputs body (with counter iteration before)) start
    → new ≡ run now inputs new_statement entered old
    → new ≡ iterated (n + 1) (λ iteration. run points inputs body (with counter iteration before)) start
iteration_made points now inputs body new_statement counter n before entered start old new same body_is enters so_far
    made =
    made ∙ ap (λ p. run p inputs new_statement entered old) same
    ∙ ap (λ statement. run points inputs statement entered old) body_is
    ∙ ap (λ values. run points inputs body values old) enters
    ∙ ap (run points inputs body (with counter n before)) so_far
    ∙ sym (iterations_more n (λ iteration. run points inputs body (with counter iteration before)) start)

pub both_made : (statement first second : Stmt) (points now : Points) (inputs : Planes) (values : Values) (start middle end : Planes)
    → statement ≡ s.Sequence first second → now ≡ points
    → middle ≡ run points inputs first values start
    → end ≡ run now inputs second values middle
    → end ≡ run points inputs statement values start
both_made statement first second points now inputs values start middle end is same one other =
    other ∙ ap (λ p. run p inputs second values middle) same
    ∙ ap (run points inputs second values) one
    ∙ sym (run_sequence points inputs first second values start)
    ∙ ap (λ own. run points inputs own values start) (sym is)

pub loop_left : (statement body : Stmt) (counter : Counter) (count : ℕ) (kind : LoopKind) (points : Points) (inputs : Planes) (before : Values) (n : ℕ)
    (start end : Planes)
    → statement ≡ s.For counter count kind body → n ≡ count
    → end ≡ iterated n (λ iteration. run points inputs body (with counter iteration before)) start
    → end ≡ run points inputs statement before start
loop_left statement body counter count kind points inputs before n start end is all made =
    made ∙ ap (λ k. iterated k (λ iteration. run points inputs body (with counter iteration before)) start) all
    ∙ sym (run_for points inputs counter count kind body before start)
    ∙ ap (λ own. run points inputs own before start) (sym is)

pub task_made : (points now : Points) (inputs : Planes) (phase : Phase) (n : ℕ) (start old new : Planes)
    → now ≡ points → old ≡ iterated n (run_task points inputs phase) start → new ≡ run_task now inputs phase n old
    → new ≡ iterated (n + 1) (run_task points inputs phase) start
task_made points now inputs phase n start old new same so_far made =
    made ∙ ap (λ p. run_task p inputs phase n old) same
    ∙ ap (run_task points inputs phase n) so_far
    ∙ sym (iterations_more n (run_task points inputs phase) start)

pub test_passed : (statement body new_statement : Stmt) (counter : Counter) (whole : Whole) (extent value : ℕ) (points : Points) (inputs : Planes)
    (before entered : Values) (start end : Planes)
    → statement ≡ s.Bind counter whole extent body → new_statement ≡ body → value ≡ whole_value whole before → value < extent → entered ≡ with counter value before
    → end ≡ run points inputs new_statement entered start → end ≡ run points inputs statement before start
test_passed statement body new_statement counter whole extent value points inputs before entered start end is body_is value_is below enters made =
    made ∙ ap (λ one. run points inputs one entered start) body_is
    ∙ ap (λ values. run points inputs body values start) (enters ∙ ap (λ n. with counter n before) value_is)
    ∙ sym (run_bind points inputs counter whole extent body before start
    ∙ rw (lt-ltb (whole_value whole before) extent (subst (λ n. n < extent) value_is below)) refl)
    ∙ ap (λ one. run points inputs one before start) (sym is)

pub task_done : (points : Points) (inputs : Planes) (phase : Phase) (task : ℕ) (entered : Values) (start end : Planes)
    → entered ≡ task_values phase.counter task → end ≡ run points inputs phase.body entered start → end ≡ run_task points inputs phase task start
task_done points inputs phase task entered start end enters made = made ∙ ap (λ values. run points inputs phase.body values start) enters
