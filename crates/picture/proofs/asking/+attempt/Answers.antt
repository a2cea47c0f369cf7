use Rattle.std.proofs.Common.{refl}
use Rattle.halide_pipeline.specs.Pixel.{value}
use Rattle.picture.specs.declared.scenes.FuncState.TheVariants as states
use Rattle.picture.specs.inner.Evaluation.{reads_in}
use Rattle.picture.proofs.AlongLines.{found-same, value-binary, value-divide, value-remainder, value-call1, value-call2}
use Rattle.picture.proofs.asking.+attempt.Goals as goal

pub returns-in_ok-b-in-Binary : goal.returns-in_ok-b-in-Binary
returns-in_ok-b-in-Binary t c =
    let reads = reads_in c.args.scene.now c.args.func_index states.Earlier in
    found-same _ _ c.both.result
    (value-binary reads c.args.environment.now c.args.expr.now c.in-Binary.operation c.in-Binary.a c.in-Binary.b c.get.result.now c.get-in-Binary.result.now
    c.in-Binary.is c.get.ensures c.get-in-Binary.ensures)
    (c.both.ensures (value reads c.args.environment.now c.get.result.now) (value reads c.args.environment.now c.get-in-Binary.result.now)
    c.in_ok-a-in-Binary.ensures c.in_ok-b-in-Binary.ensures)

pub returns-in_ok-a-in-Divide : goal.returns-in_ok-a-in-Divide
returns-in_ok-a-in-Divide t c =
    let reads = reads_in c.args.scene.now c.args.func_index states.Earlier in
    found-same _ _ c.quotient.result
    (value-divide reads c.args.environment.now c.args.expr.now c.in-Divide.a c.get-in-Divide.result.now c.in-Divide.divisor c.in-Divide.is
    c.get-in-Divide.ensures)
    (c.quotient.ensures (value reads c.args.environment.now c.get-in-Divide.result.now) c.in_ok-a-in-Divide.ensures)

pub returns-in_ok-a-in-Remainder : goal.returns-in_ok-a-in-Remainder
returns-in_ok-a-in-Remainder t c =
    let reads = reads_in c.args.scene.now c.args.func_index states.Earlier in
    found-same _ _ c.remainder.result
    (value-remainder reads c.args.environment.now c.args.expr.now c.in-Remainder.a c.get-in-Remainder.result.now c.in-Remainder.divisor c.in-Remainder.is
    c.get-in-Remainder.ensures)
    (c.remainder.ensures (value reads c.args.environment.now c.get-in-Remainder.result.now) c.in_ok-a-in-Remainder.ensures)

pub returns-in_ok-pixel-in-Call1 : goal.returns-in_ok-pixel-in-Call1
returns-in_ok-pixel-in-Call1 t c =
    let reads = reads_in c.args.scene.now c.args.func_index states.Earlier in
    found-same _ _ c.in_ok-pixel-in-Call1.pixel
    (value-call1 reads c.args.environment.now c.args.expr.now c.in-Call1.source c.in-Call1.x c.get-in-Call1.result.now c.in-Call1.is c.get-in-Call1.ensures)
    (c.in_ok-pixel-in-Call1.ensures (value reads c.args.environment.now c.get-in-Call1.result.now) 0 c.in_ok-x-in-Call1.ensures refl)

pub returns-in_ok-pixel-in-Call2 : goal.returns-in_ok-pixel-in-Call2
returns-in_ok-pixel-in-Call2 t c =
    let reads = reads_in c.args.scene.now c.args.func_index states.Earlier in
    found-same _ _ c.in_ok-pixel-in-Call2.pixel
    (value-call2 reads c.args.environment.now c.args.expr.now c.in-Call2.source c.in-Call2.x c.in-Call2.y c.get-in-Call2.result.now c.get-in-Call2-2.result.now
    c.in-Call2.is c.get-in-Call2.ensures c.get-in-Call2-2.ensures)
    (c.in_ok-pixel-in-Call2.ensures (value reads c.args.environment.now c.get-in-Call2.result.now) (value reads c.args.environment.now
    c.get-in-Call2-2.result.now) c.in_ok-x-in-Call2.ensures c.in_ok-y-in-Call2.ensures)
