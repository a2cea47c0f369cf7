use Rattle.std.proofs.Common.{◌≡◌, ◌+◌, ◌^◌, ◌<◌, suc, sym, ◌∙◌, subst, arith}
use Rattle.loop_ir.specs.declared.statements.Stmt.TheVariants as s
use Rattle.task_code_loops.specs.Bounds.{IsBelow}
use Rattle.task_code_loops.specs.Guarding.{GuardsWords}
use Rattle.task_code_statements.specs.Contexts.{Meets}
use Rattle.task_code_statements.specs.Laying.{LaysOut}
use Rattle.task_code_statements.specs.Statements.{EmitsLoop, EmitsStatement}
use Rattle.task_code_statements.proofs.Giving.{loop-alone, loop-behind, none-given, some-given, statement-after}
use Rattle.task_code_statements.proofs.Idling.{idle-emits}
use Rattle.task_code_statements.proofs.Laying.{none-laid, one-laid, laid-emits, number-enters, parted-arm}
use Rattle.task_code_statements.proofs.Nesting.{sequence-arm, none-emits, loop-arm, for-arm}
use Rattle.task_code_statements.proofs.Splitting.{split-emits, guarded-emits, bind-arm}
use Rattle.task_code_statements.proofs.Storing.{arm}
use Rattle.task_code_statements.proofs.AtOnce.{vector-arm}
use Rattle.task_code_statements.proofs.statements.+statements.Goals as goal

pub emit_statement-returns-in_ok-emit_known_store-in-Store : goal.emit_statement-returns-in_ok-emit_known_store-in-Store
emit_statement-returns-in_ok-emit_known_store-in-Store t c =
    arm c.args.site.now.places.now c.args.site.now.scope.now (Meets c.args.context.now) c.args.statement.now (s.Store c.in-Store.store) _ _ c.in-Store.is
    c.in_ok-emit_known_store-in-Store.ensures

pub emit_statement-returns-in_ok-add_second-in-Sequence : goal.emit_statement-returns-in_ok-add_second-in-Sequence
emit_statement-returns-in_ok-add_second-in-Sequence t c =
    sequence-arm c.args.site.now.places.now c.args.site.now.scope.now (Meets c.args.context.now) c.args.statement.now c.in-Sequence.first c.in-Sequence.second
    c.get.result.now c.get-in-Sequence.result.now _ _ _ c.in-Sequence.is c.get.ensures c.get-in-Sequence.ensures c.in_ok-emit_statement-in-Sequence.ensures
    c.in_ok-emit_statement-in-Sequence-2.ensures

pub emit_statement-returns-in_ok-emit_vectorized-in-AtOnce : goal.emit_statement-returns-in_ok-emit_vectorized-in-AtOnce
emit_statement-returns-in_ok-emit_vectorized-in-AtOnce t c =
    vector-arm c.args.site.now.places.now c.args.site.now.scope.now c.args.context.now c.args.statement.now c.in-For.counter c.in-For.count c.in-For.kind
    c.in-For.body c.get-in-AtOnce.result.now _ _ c.in-For.is c.get-in-AtOnce.ensures (c.method_of.ensures.at_once c.in-AtOnce.is)
    c.in_ok-emit_vectorized-in-AtOnce.ensures

pub emit_statement-returns-in_ok-emit_laid_out-in-LaidOut : goal.emit_statement-returns-in_ok-emit_laid_out-in-LaidOut
emit_statement-returns-in_ok-emit_laid_out-in-LaidOut t c =
    for-arm c.args.site.now.places.now c.args.site.now.scope.now (Meets c.args.context.now) c.args.statement.now c.in-For.counter c.in-For.count c.in-For.kind
    c.in-For.body c.get-in-LaidOut.result.now _ _ c.in-For.is c.get-in-LaidOut.ensures (c.method_of.ensures.laid_out c.in-LaidOut.is)
    c.in_ok-emit_laid_out-in-LaidOut.ensures

pub emit_statement-returns-in_ok-emit_once-in-Once : goal.emit_statement-returns-in_ok-emit_once-in-Once
emit_statement-returns-in_ok-emit_once-in-Once t c =
    for-arm c.args.site.now.places.now c.args.site.now.scope.now (Meets c.args.context.now) c.args.statement.now c.in-For.counter c.in-For.count c.in-For.kind
    c.in-For.body c.get-in-Once.result.now _ _ c.in-For.is c.get-in-Once.ensures (c.method_of.ensures.once c.in-Once.is)
    c.in_ok-emit_once-in-Once.ensures

pub emit_statement-returns-in_ok-emit_serial-in-InOrder : goal.emit_statement-returns-in_ok-emit_serial-in-InOrder
emit_statement-returns-in_ok-emit_serial-in-InOrder t c =
    for-arm c.args.site.now.places.now c.args.site.now.scope.now (Meets c.args.context.now) c.args.statement.now c.in-For.counter c.in-For.count c.in-For.kind
    c.in-For.body c.get-in-InOrder.result.now _ _ c.in-For.is c.get-in-InOrder.ensures (c.method_of.ensures.in_order c.in-InOrder.is)
    c.in_ok-emit_serial-in-InOrder.ensures

pub emit_statement-returns-in_ok-emit_split-in-Bind : goal.emit_statement-returns-in_ok-emit_split-in-Bind
emit_statement-returns-in_ok-emit_split-in-Bind t c =
    bind-arm c.args.site.now.places.now c.args.site.now.scope.now (Meets c.args.context.now) c.args.statement.now c.in-Bind.counter c.in-Bind.whole
    c.in-Bind.extent c.in-Bind.body c.get-in-Bind.result.now _ _ c.in-Bind.is c.get-in-Bind.ensures c.in_ok-emit_split-in-Bind.ensures

pub emit_loop-returns-then-bound-eq0 : goal.emit_loop-returns-then-bound-eq0
emit_loop-returns-then-bound-eq0 t c = λ kind plain.
    none-emits c.args.site.now.places.now c.args.site.now.scope.now (Meets c.args.context.now) c.args.bound.counter c.args.bound.count kind c.args.body.now _
    c.if-bound-eq0.true

pub emit_loop-returns-in-None : goal.emit_loop-returns-in-None
emit_loop-returns-in-None t c =
    loop-alone c.args.site.now.places.now c.args.site.now.scope.now (Meets c.args.context.now) c.args.bound.counter c.args.bound.count c.args.body.now
    c.args.code.now.words.items c.emit_before.new.code.items _
    (none-given c.args.site.now.places.now c.args.site.now.scope.now c.args.context.now c.in_ok-before.before.naming c.args.code.now.words.items
    c.emit_before.new.code.items c.in-None.is c.in_ok-before.ensures) c.in_ok-emit_iterations-in-None.ensures

pub emit_loop-returns : goal.emit_loop-returns
emit_loop-returns t c =
    loop-behind c.args.site.now.places.now c.args.site.now.scope.now c.as_slice.result.now c.args.context.now c.in-Some.naming c.args.bound.counter
    c.args.bound.count c.args.body.now c.args.code.now.words.items c.emit_before.new.code.items _
    (some-given c.args.site.now.places.now c.args.site.now.scope.now c.args.context.now c.in-Some.naming c.in_ok-before.before.naming
    c.args.code.now.words.items c.emit_before.new.code.items c.in-Some.is c.in_ok-before.ensures) c.as_slice.ensures.value
    c.in_ok-emit_iterations-in-Some.ensures

pub emit_once-returns-in-None : goal.emit_once-returns-in-None
emit_once-returns-in-None t c =
    loop-alone c.args.site.now.places.now c.args.site.now.scope.now (Meets c.args.context.now) c.args.bound.counter c.args.bound.count c.args.body.now
    c.args.code.now.words.items c.emit_before.new.code.items _
    (none-given c.args.site.now.places.now c.args.site.now.scope.now c.args.context.now c.in_ok-before.before.naming c.args.code.now.words.items
    c.emit_before.new.code.items c.in-None.is c.in_ok-before.ensures) c.in_ok-emit_laid_out-in-None.ensures

pub emit_once-returns : goal.emit_once-returns
emit_once-returns t c =
    loop-behind c.args.site.now.places.now c.args.site.now.scope.now c.as_slice.result.now c.args.context.now c.in-Some.naming c.args.bound.counter
    c.args.bound.count c.args.body.now c.args.code.now.words.items c.emit_before.new.code.items _
    (some-given c.args.site.now.places.now c.args.site.now.scope.now c.args.context.now c.in-Some.naming c.in_ok-before.before.naming
    c.args.code.now.words.items c.emit_before.new.code.items c.in-Some.is c.in_ok-before.ensures) c.as_slice.ensures.value
    c.in_ok-emit_laid_out-in-Some.ensures

pub emit_iterations-returns : goal.emit_iterations-returns
emit_iterations-returns t c = λ kind plain.
    let own = c.args.iterations.now.own in
    loop-arm c.args.site.now.places.now c.args.site.now.scope.now (Meets c.args.context.now) (Meets c.in_ok-inner.inner) own.counter own.count
    kind c.args.iterations.now.body.now c.in_ok-begun.begun c.as_slice.result.now _ _ c.len-start.result _ _ _ _ plain c.in_ok-inner.ensures.meets
    c.in_ok-begun.ensures.loop_invariant c.in_ok-begun.ensures.begins c.as_slice.ensures.value (c.len-start.ensures ∙ c.begin_iterations.new.code.ok.0)
    c.in_ok-emit_statement.ensures c.in_ok-end_loop.ensures.ok

pub emit_laid_out-loop-iteration-init : goal.emit_laid_out-loop-iteration-init
emit_laid_out-loop-iteration-init t c =
    none-laid c.args.site.now.places.now c.args.site.now.scope.now (Meets c.args.context.now) c.args.bound.counter c.args.body.now _

pub emit_laid_out-loop-iteration-preserved : goal.emit_laid_out-loop-iteration-preserved
emit_laid_out-loop-iteration-preserved t c =
    let k = c.loop-iteration.iteration in
    let more : suc k ≡ k + 1 = omega arith in
    let small : k < 2 ^ 32 = omega arith in
    let so = Meets c.args.context.now in
    subst (λ n. LaysOut c.args.code.now.words.items c.emit_unless_idle.new.code.words.items c.args.site.now.places.now c.args.site.now.scope.now so
    c.args.bound.counter c.args.body.now n) more
    (one-laid c.args.site.now.places.now c.args.site.now.scope.now so c.args.bound.counter c.args.body.now k (Meets c.in_ok-inner.inner) _ _ _
    (sym c.mentions.ensures ∙ c.if-mentions.false)
    (number-enters c.args.context.now c.in_ok-inner.inner c.args.bound.counter k c.of_number-number.result small c.of_number-number.ensures.value
    c.in_ok-inner.ensures) c.loop-iteration.invariant c.in_ok-emit_unless_idle.ensures)

pub emit_laid_out-returns : goal.emit_laid_out-returns
emit_laid_out-returns t c = λ kind plain.
    let all : c.loop-iteration.iteration ≡ c.args.bound.count = omega arith in
    let so = Meets c.args.context.now in
    laid-emits c.args.site.now.places.now c.args.site.now.scope.now so c.args.bound.counter c.args.body.now c.args.bound.count kind _ _ plain
    (subst (λ n. LaysOut c.args.code.now.words.items c.loop-iteration.code.words.items c.args.site.now.places.now c.args.site.now.scope.now so
    c.args.bound.counter c.args.body.now n) all c.loop-iteration.invariant)

pub emit_parted-loop-iteration-init : goal.emit_parted-loop-iteration-init
emit_parted-loop-iteration-init t c = c.in_ok-emit_loop.ensures

pub emit_parted-loop-iteration-preserved : goal.emit_parted-loop-iteration-preserved
emit_parted-loop-iteration-preserved t c =
    let k = c.loop-iteration.iteration in
    let more : suc k ≡ k + 1 = omega arith in
    let small : k < 2 ^ 32 = omega arith in
    subst (λ n. EmitsLoop c.args.code.now.words.items c.emit_unless_idle.new.code.words.items c.args.site.now.places.now c.args.site.now.scope.now
    (Meets c.args.context.now) c.args.bound.counter n c.args.body.now) more
    (parted-arm c.args.site.now.places.now c.args.site.now.scope.now c.args.context.now c.in_ok-inner.inner c.args.bound.counter k c.args.body.now
    c.of_number-number.result _ _ _ small (sym c.mentions.ensures ∙ c.if-mentions.false) c.of_number-number.ensures.value c.in_ok-inner.ensures
    c.loop-iteration.invariant c.in_ok-emit_unless_idle.ensures)

pub emit_parted-returns : goal.emit_parted-returns
emit_parted-returns t c =
    let all : c.loop-iteration.iteration ≡ c.args.bound.count = omega arith in
    subst (λ n. EmitsLoop c.args.code.now.words.items c.loop-iteration.code.words.items c.args.site.now.places.now c.args.site.now.scope.now
    (Meets c.args.context.now) c.args.bound.counter n c.args.body.now) all c.loop-iteration.invariant

pub emit_unless_idle-returns-then-branch : goal.emit_unless_idle-returns-then-branch
emit_unless_idle-returns-then-branch t c =
    idle-emits c.args.site.now.places.now c.args.site.now.scope.now c.args.context.now c.args.statement.now _ (c.in_ok-is_idle.ensures c.if-branch.true)

pub emit_entered-returns-then-is_below : goal.emit_entered-returns-then-is_below
emit_entered-returns-then-is_below t c =
    let entered = c.in_ok-entered.entered in
    let enters = c.in_ok-entered.ensures in
    let bounds = c.args.context.now.bounds.items in
    split-emits c.args.site.now.places.now c.args.site.now.scope.now c.args.context.now entered.inner c.args.split.counter c.args.split.whole
    c.args.split.extent c.args.body.now entered.form.sum (sym c.mentions.ensures ∙ c.if-mentions.false) enters.value_is enters.meets _ _
    (subst (λ f. IsBelow bounds f c.args.split.extent) enters.form_is
    (subst (λ b. IsBelow b entered.form c.args.split.extent) c.as_slice.ensures.value (c.is_below.ensures c.if-is_below.true))) c.in_ok-emit_statement.ensures

pub emit_entered-returns : goal.emit_entered-returns
emit_entered-returns t c =
    let entered = c.in_ok-entered.entered in
    let enters = c.in_ok-entered.ensures in
    guarded-emits c.args.site.now.places.now c.args.site.now.scope.now c.args.context.now entered.inner c.args.split.counter c.args.split.whole
    c.args.split.extent c.args.body.now entered.form.sum (sym c.mentions.ensures ∙ c.if-mentions.false) enters.value_is enters.meets _ _ _
    (subst (λ old. EmitsStatement old c.emit_statement-2.new.code.words.items c.args.site.now.places.now c.args.site.now.scope.now (Meets entered.inner)
    c.args.body.now) c.no_words_beside-made.ensures c.in_ok-emit_statement-2.ensures)
    (subst (λ f. GuardsWords c.args.code.now.words.items c.emit_tested.new.code.words.items c.args.site.now.scope.now f c.args.split.extent
    c.emit_statement-2.new.code.words.items) enters.form_is c.in_ok-emit_tested.ensures)

pub emit_split-returns-in_ok-emit_entered-in-None : goal.emit_split-returns-in_ok-emit_entered-in-None
emit_split-returns-in_ok-emit_entered-in-None t c =
    subst (λ old. EmitsStatement old c.emit_entered.new.code.words.items c.args.site.now.places.now c.args.site.now.scope.now (Meets c.args.context.now)
    (s.Bind c.args.split.counter c.args.split.whole c.args.split.extent c.args.body.now))
    (none-given c.args.site.now.places.now c.args.site.now.scope.now c.args.context.now c.in_ok-emit_start.field-0 c.args.code.now.words.items
    c.emit_start.new.code.items c.in-None.is c.in_ok-emit_start.ensures) c.in_ok-emit_entered-in-None.ensures

pub emit_split-returns-in_ok-emit_entered-in-Some : goal.emit_split-returns-in_ok-emit_entered-in-Some
emit_split-returns-in_ok-emit_entered-in-Some t c =
    statement-after c.args.site.now.places.now c.args.site.now.scope.now c.as_slice.result.now c.args.context.now c.in-Some.before
    (s.Bind c.args.split.counter c.args.split.whole c.args.split.extent c.args.body.now) c.args.code.now.words.items c.emit_start.new.code.items _
    (some-given c.args.site.now.places.now c.args.site.now.scope.now c.args.context.now c.in-Some.before c.in_ok-emit_start.field-0 c.args.code.now.words.items
    c.emit_start.new.code.items c.in-Some.is c.in_ok-emit_start.ensures) c.as_slice.ensures.value c.in_ok-emit_entered-in-Some.ensures
