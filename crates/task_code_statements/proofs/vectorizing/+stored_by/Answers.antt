use Rattle.std.proofs.Common.{refl, subst, sym}
use Rattle.task_code_registers.specs.declared.scopes.AffineForm.{AffineForm}
use Rattle.std.specs.Prelude.{IfSome}
use Rattle.task_code_statements.specs.Splits.{IsSplitValue}
use Rattle.task_code_statements.specs.Vectorizing.{IsStoreOf, TestToo}
use Rattle.task_code_statements.proofs.AtOnce.{split-tested}
use Rattle.task_code_statements.proofs.Standing.{split-replaced}
use Rattle.task_code_statements.proofs.vectorizing.+stored_by.Goals as goal

pub returns-in_ok-guarded_store-in-Store : goal.returns-in_ok-guarded_store-in-Store
returns-in_ok-guarded_store-in-Store t c = subst (λ b. IsStoreOf c.args.context.now b c.in_ok-guarded_store-in-Store.guarded_store) (sym c.in-Store.is) c.in_ok-guarded_store-in-Store.ensures

pub returns-in_ok-add_test-in-Bind : goal.returns-in_ok-add_test-in-Bind
returns-in_ok-add_test-in-Bind t c =
    let entered = c.in_ok-entered-in-Bind.entered in
    let enters = c.in_ok-entered-in-Bind.ensures in
    let lacks = c.guarded_lacks.ensures c.if-not-guarded_lacks.false in
    split-tested c.args.context.now entered.inner c.in-Bind.counter c.in-Bind.whole c.in-Bind.extent c.args.body.now c.in-Bind.inside c.get-in-Bind.result.now
    entered.form.sum c.in_ok-guarded_store-in-Bind-2.guarded_store c.in-Bind.is c.get-in-Bind.ensures enters.value_is enters.meets c.in_ok-guarded_store-in-Bind-2.ensures lacks.store
    lacks.guards _
    refl
    (subst (λ (f : AffineForm). TestToo c.args.context.now.bounds.items c.in_ok-guarded_store-in-Bind-2.guarded_store.guards.items (record { sum = f.sum; extent = c.in-Bind.extent })
    c.add_test.new.guards.items) c.into_form-form.ensures
    (subst (λ b. TestToo b c.in_ok-guarded_store-in-Bind-2.guarded_store.guards.items (record { sum = c.into_form-form.result.sum; extent = c.in-Bind.extent })
    c.add_test.new.guards.items) c.as_slice.ensures.value c.in_ok-add_test-in-Bind.ensures))

pub returns-in-Some : goal.returns-in-Some
returns-in-Some t c =
    split-replaced c.args.context.now c.in_ok-inner-in-Bind.inner c.in-Bind.whole c.in-Bind.extent
    (record { counter = c.in-Bind.counter; e = c.in-Some.e }) c.args.body.now c.in-Bind.inside c.get.result.now c.in_ok-guarded_store-in-Bind.guarded_store
    c.in_ok-guarded-in-Bind.guarded c.in-Bind.is c.get.ensures
    (subst (λ o. IfSome o (IsSplitValue c.args.context.now c.in-Bind.whole c.in-Bind.extent)) c.in-Some.is c.in_ok-e-in-Bind.ensures)
    c.in_ok-inner-in-Bind.ensures c.in_ok-guarded_store-in-Bind.ensures c.in_ok-guarded-in-Bind.ensures
