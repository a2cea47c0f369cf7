use Rattle.task_code_variables.proofs.Iterating.{store-collects}
use Rattle.task_code_variables.proofs.Fitting.{passed-on, parked-faulty}
use Rattle.task_code_variables.proofs.collecting.collect_store.Goals as goal

pub put_into_lane-requires : goal.put_into_lane-requires
put_into_lane-requires c = (c.requires.low, c.in_ok-s.ensures.ok.source.0)

pub returns-clause-ok : goal.returns-clause-ok
returns-clause-ok c =
    store-collects c.args.site.now.places.now c.args.site.now.scope.now c.args.around.now c.args.lane.group c.args.lane.r c.in_ok-s.s c.args.store.now
    c.in_ok-made.made c.in_ok-made.ensures c.requires.holds.registers _ _ _ c.in_ok-s.ensures.ok c.in_ok-put_into_lane.ensures

pub returns-in_err-s-clause-err : goal.returns-in_err-s-clause-err
returns-in_err-s-clause-err c =
    passed-on _ c.from_residual-in_err-s.result c.in_err-s.field-0.0 c.from_residual-in_err-s.ensures.1
    (parked-faulty c.args.site.now.places.now c.args.site.now.scope.now c.args.around.now c.args.store.now c.in_ok-made.made _ c.requires.holds
    c.in_ok-made.ensures) c.in_err-s.ensures.err
