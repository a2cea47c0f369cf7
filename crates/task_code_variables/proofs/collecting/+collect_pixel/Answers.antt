use Rattle.std.proofs.Common.{◌<◌, ap, ◌∙◌, subst, sym}
use Rattle.loop_ir.specs.declared.statements.Stmt.{size-Stmt}
use Rattle.loop_ir.specs.declared.statements.Stmt.TheVariants as s
use Rattle.task_code_loops.specs.Beginning.{variable}
use Rattle.task_code_variables.proofs.Arms.{collected-split, collected-split-late, split-holds}
use Rattle.task_code_variables.proofs.Choosing.{body-one, no-for, no-sequence, smaller}
use Rattle.task_code_variables.proofs.Iterating.{collects-as}
use Rattle.task_code_variables.proofs.Fitting.{bind-faulty, fault-as, passed-on, split-faulty, split-full}
use Rattle.task_code_variables.proofs.collecting.+collect_pixel.Goals as goal

pub returns-in_ok-collect_store-in-Store-clause-ok : goal.returns-in_ok-collect_store-in-Store-clause-ok
returns-in_ok-collect_store-in-Store-clause-ok t c =
    collects-as c.args.site.now.places.now c.args.site.now.scope.now c.args.around.now c.args.lane.group c.args.lane.r c.args.statement.now
    (s.Store c.in-Store.store) _ _ c.in-Store.is c.in_ok-collect_store-in-Store.ensures.ok

pub returns-in_err-collect_store-in-Store-clause-err : goal.returns-in_err-collect_store-in-Store-clause-err
returns-in_err-collect_store-in-Store-clause-err t c =
    passed-on _ c.from_residual.result c.in_err-collect_store-in-Store.field-0.0 c.from_residual.ensures.1
    (fault-as c.args.site.now.places.now c.args.site.now.scope.now c.args.statement.now (s.Store c.in-Store.store) _ c.in-Store.is)
    c.in_err-collect_store-in-Store.ensures.err

pub returns-in-Sequence-clause-err : goal.returns-in-Sequence-clause-err
returns-in-Sequence-clause-err t c = absurd (no-sequence c.args.statement.now c.in-Sequence.field-0 c.in-Sequence.field-1 c.in-Sequence.is c.requires.one)

pub returns-in-For-clause-err : goal.returns-in-For-clause-err
returns-in-For-clause-err t c =
    absurd (no-for c.args.statement.now c.in-For.field-3 c.in-For.field-0 c.in-For.field-1 c.in-For.field-2 c.in-For.is c.requires.one)

pub collect_pixel-requires : goal.collect_pixel-requires
collect_pixel-requires t c = (
  subst (λ n. size-Stmt c.get.result.now < n) c.decreases (smaller c.args.statement.now c.in-Bind.body c.get.result.now c.in-Bind.counter c.in-Bind.whole
      c.in-Bind.extent c.in-Bind.is c.get.ensures),
  (
    split-holds c.args.site.now.scope.now c.in_ok-scope-in-Bind.scope.items c.as_slice.result.now c.args.around.now c.as_slice-in-Bind.result.now
        c.in-Bind.counter c.in-Bind.whole _ _ c.requires.holds c.in_ok-scope-in-Bind.ensures.ok c.as_slice.ensures.value
        (c.as_slice-in-Bind.ensures.value ∙ c.in_ok-inner-in-Bind.ensures),
    (
      c.requires.low,
      body-one c.args.statement.now c.in-Bind.body c.get.result.now c.in-Bind.counter c.in-Bind.whole c.in-Bind.extent c.in-Bind.is c.get.ensures
          c.requires.one,
    ),
  ),
)

pub returns-in_err-scope-in-Bind-clause-err : goal.returns-in_err-scope-in-Bind-clause-err
returns-in_err-scope-in-Bind-clause-err t c =
    passed-on _ c.from_residual-in_err-scope-in-Bind.result c.in_err-scope-in-Bind.field-0.0 c.from_residual-in_err-scope-in-Bind.ensures.1
    (λ e. fault-as c.args.site.now.places.now c.args.site.now.scope.now c.args.statement.now
    (s.Bind c.in-Bind.counter c.in-Bind.whole c.in-Bind.extent c.in-Bind.body) _ c.in-Bind.is
    (split-full c.args.site.now.places.now c.args.site.now.scope.now c.in-Bind.counter c.in-Bind.whole c.in-Bind.extent c.in-Bind.body _ e))
    c.in_err-scope-in-Bind.ensures.err

pub returns-in_err-collect_pixel-in-Bind-clause-err : goal.returns-in_err-collect_pixel-in-Bind-clause-err
returns-in_err-collect_pixel-in-Bind-clause-err t c =
    passed-on _ c.from_residual-in_err-collect_pixel-in-Bind.result c.in_err-collect_pixel-in-Bind.field-0.0
    c.from_residual-in_err-collect_pixel-in-Bind.ensures.1
    (λ e. bind-faulty c.args.site.now.places.now c.args.site.now.scope.now c.args.statement.now c.in-Bind.body c.get.result.now c.in-Bind.counter
    c.in-Bind.whole c.in-Bind.extent _ c.in-Bind.is c.get.ensures
    (split-faulty c.args.site.now.places.now c.args.site.now.scope.now c.in-Bind.counter c.in-Bind.whole c.in-Bind.extent c.get.result.now
    c.args.around.now c.in_ok-scope-in-Bind.scope.items c.as_slice.result.now _ _ _ c.in_ok-scope-in-Bind.ensures.ok c.as_slice.ensures.value e))
    c.in_err-collect_pixel-in-Bind.ensures.err

pub returns-in_err-emit_guarded-in-Bind-clause-err : goal.returns-in_err-emit_guarded-in-Bind-clause-err
returns-in_err-emit_guarded-in-Bind-clause-err t c =
    passed-on _ c.from_residual-in_err-emit_guarded-in-Bind.result c.in_err-emit_guarded-in-Bind.field-0.0
    c.from_residual-in_err-emit_guarded-in-Bind.ensures.1
    (λ e. bind-faulty c.args.site.now.places.now c.args.site.now.scope.now c.args.statement.now c.in-Bind.body c.get.result.now c.in-Bind.counter
    c.in-Bind.whole c.in-Bind.extent _ c.in-Bind.is c.get.ensures
    (collected-split-late c.args.site.now.scope.now c.in_ok-scope-in-Bind.scope.items c.as_slice.result.now c.args.around.now
    c.as_slice-in-Bind.result.now c.in-Bind.counter c.in-Bind.whole _ _ c.requires.holds c.in_ok-scope-in-Bind.ensures.ok c.as_slice.ensures.value
    (c.as_slice-in-Bind.ensures.value ∙ c.in_ok-inner-in-Bind.ensures) c.args.site.now.places.now c.args.lane.group c.args.lane.r c.in-Bind.extent
    c.get.result.now c.in_ok-form-in-Bind.form _ _ _ c.new-words.ensures.items c.as_slice-made.ensures.value
    (c.in_ok-form-in-Bind.ensures ∙ ap variable c.numbered.ensures) c.in_ok-collect_pixel-in-Bind.ensures.ok _ e))
    c.in_err-emit_guarded-in-Bind.ensures.err

pub returns-in_ok-emit_guarded-in-Bind-clause-ok : goal.returns-in_ok-emit_guarded-in-Bind-clause-ok
returns-in_ok-emit_guarded-in-Bind-clause-ok t c =
    collects-as c.args.site.now.places.now c.args.site.now.scope.now c.args.around.now c.args.lane.group c.args.lane.r c.args.statement.now
    (s.Bind c.in-Bind.counter c.in-Bind.whole c.in-Bind.extent c.get.result.now) _ _
    (c.in-Bind.is ∙ ap (s.Bind c.in-Bind.counter c.in-Bind.whole c.in-Bind.extent) (sym c.get.ensures))
    (collected-split c.args.site.now.scope.now c.in_ok-scope-in-Bind.scope.items c.as_slice.result.now c.args.around.now
    c.as_slice-in-Bind.result.now c.in-Bind.counter c.in-Bind.whole _ _ c.requires.holds c.in_ok-scope-in-Bind.ensures.ok c.as_slice.ensures.value
    (c.as_slice-in-Bind.ensures.value ∙ c.in_ok-inner-in-Bind.ensures) c.args.site.now.places.now c.args.lane.group c.args.lane.r c.in-Bind.extent
    c.get.result.now c.in_ok-form-in-Bind.form _ _ _ c.new-words.ensures.items c.as_slice-made.ensures.value
    (c.in_ok-form-in-Bind.ensures ∙ ap variable c.numbered.ensures) c.in_ok-collect_pixel-in-Bind.ensures.ok _ c.in_ok-emit_guarded-in-Bind.ensures.ok)
