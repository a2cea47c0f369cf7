use Rattle.std.proofs.Common.{◌+◌, refl, inl, inr, arith, subst}
use Rattle.std.specs.Prelude.{IfSome}
use Rattle.loop_ir.specs.declared.expressions.Expr.{size-Expr}
use Rattle.task_code_scalar.proofs.Refusing.{passed}
use Rattle.task_code_values.specs.Operands.{IsSum}
use Rattle.task_code_values.proofs.Evaluating.{number-operand, linear-operand, binary-arm, immediate-arm, divide-arm, remainder-arm, select-arm, load-arm}
use Rattle.task_code_values.proofs.Evaluating.{index-sum}
use Rattle.task_code_values.proofs.Evaluating.{index-register, one-of}
use Rattle.task_code_values.proofs.Operating.{done-map, err-map}
use Rattle.task_code_values.proofs.Parts.{binary-fits, load-fits, divide-fits, remainder-fits, select-fits, fits-as, roomy, passed-part, held-as}
use Rattle.task_code_values.proofs.Parts.{held-linear, held-binary, held-divide, held-remainder, held-select, held-load}
use Rattle.task_code_values.proofs.Parts.{binary-first, binary-second, divide-first, remainder-first, select-first, select-second, select-third}
use Rattle.task_code_values.proofs.Parts.{load-first, load-second}
use Rattle.task_code_values.proofs.Parts.{part-measure, index-measure, own-measure}
use Rattle.task_code_values.proofs.Pointing.{stack-place}
use Rattle.task_code_values.proofs.expressions.+values.Goals as goal

pub emit_operand-returns-in_ok-emit_number_operand-in-Number-clause-ok : goal.emit_operand-returns-in_ok-emit_number_operand-in-Number-clause-ok
emit_operand-returns-in_ok-emit_number_operand-in-Number-clause-ok t c =
    number-operand c.args.site.now.places.now c.args.site.now.scope.now c.args.e.now c.in-Number.number c.args.r c.args.leaf
    c.in_ok-emit_number_operand-in-Number.field-0 _ _ c.in-Number.is c.requires.leaf (omega arith) c.in_ok-emit_number_operand-in-Number.ensures

pub emit_operand-returns-in-Linear-clause-ok : goal.emit_operand-returns-in-Linear-clause-ok
emit_operand-returns-in-Linear-clause-ok t c =
    done-map c.emit_sum_operand.result (λ s z. linear-operand c.args.site.now.places.now c.args.site.now.scope.now c.args.e.now c.in-Linear.own
    c.args.r c.args.leaf s _ _ c.in-Linear.is c.requires.leaf z) c.emit_sum_operand.ensures.ok

pub emit_operand-returns-in-Linear-clause-err : goal.emit_operand-returns-in-Linear-clause-err
emit_operand-returns-in-Linear-clause-err t c =
    err-map c.emit_sum_operand.result
    (λ deep held. deep (held-linear c.args.site.now.scope.now c.args.e.now c.in-Linear.own c.in-Linear.is held)) c.emit_sum_operand.ensures.err

pub emit_operand-returns-in_ok-emit_operation-in-Binary-clause-ok : goal.emit_operand-returns-in_ok-emit_operation-in-Binary-clause-ok
emit_operand-returns-in_ok-emit_operation-in-Binary-clause-ok t c =
    binary-arm c.args.site.now.places.now c.args.site.now.scope.now c.args.r c.requires.place.0 c.args.e.now c.args.leaf c.in-Binary.operation c.in-Binary.a
    c.in-Binary.b _ _ c.in_ok-first-in-Binary.first c.in_ok-second-in-Binary.second
    _ _ _ _ (binary-fits c.args.e.now c.in-Binary.operation c.in-Binary.a c.in-Binary.b c.args.r c.in-Binary.is c.requires.fits).room c.in-Binary.is
    c.get.ensures c.get-other.ensures c.in_ok-first-in-Binary.ensures.ok c.in_ok-second-in-Binary.ensures.ok c.in_ok-emit_operation-in-Binary.ensures

pub emit_operand-returns-in-Some-clause-ok : goal.emit_operand-returns-in-Some-clause-ok
emit_operand-returns-in-Some-clause-ok t c =
    immediate-arm c.args.site.now.places.now c.args.site.now.scope.now c.args.r c.requires.place.0 c.args.e.now c.args.leaf c.in-Binary.operation c.in-Binary.a
    c.in-Binary.b _ _ c.in_ok-first-in-Binary.first c.in-Some.own
    _ _ _ (binary-fits c.args.e.now c.in-Binary.operation c.in-Binary.a c.in-Binary.b c.args.r c.in-Binary.is c.requires.fits).room c.in-Binary.is
    c.get.ensures c.get-other.ensures c.in_ok-first-in-Binary.ensures.ok c.in-Some.ensures
    c.in_ok-emit_immediate-in-Binary.ensures

pub emit_operand-emit_immediate-requires : goal.emit_operand-emit_immediate-requires
emit_operand-emit_immediate-requires t c =
    let low = c.requires.place.0 in
    let room = (binary-fits c.args.e.now c.in-Binary.operation c.in-Binary.a c.in-Binary.b c.args.r c.in-Binary.is c.requires.fits).room in
    ((omega (arith, low), room), c.in_ok-first-in-Binary.ensures.ok.source)

pub emit_operand-returns-in_err-first-in-Binary-clause-err : goal.emit_operand-returns-in_err-first-in-Binary-clause-err
emit_operand-returns-in_err-first-in-Binary-clause-err t c =
    passed-part c.args.site.now.scope.now c.from_residual-in_err-first-in-Binary.result c.in_err-first-in-Binary.field-0.0 c.get.result.now c.args.e.now
    c.from_residual-in_err-first-in-Binary.ensures.1 (λ held. held-as c.args.site.now.scope.now c.get.result.now c.in-Binary.a c.get.ensures ((held-binary
    c.args.site.now.scope.now c.args.e.now c.in-Binary.operation c.in-Binary.a c.in-Binary.b c.in-Binary.is held).0)) c.in_err-first-in-Binary.ensures.err

pub emit_operand-returns-in_err-second-in-Binary-clause-err : goal.emit_operand-returns-in_err-second-in-Binary-clause-err
emit_operand-returns-in_err-second-in-Binary-clause-err t c =
    passed-part c.args.site.now.scope.now c.from_residual-in_err-second-in-Binary.result c.in_err-second-in-Binary.field-0.0 c.get-other.result.now c.args.e.now
    c.from_residual-in_err-second-in-Binary.ensures.1 (λ held. held-as c.args.site.now.scope.now c.get-other.result.now c.in-Binary.b
    c.get-other.ensures ((held-binary c.args.site.now.scope.now c.args.e.now c.in-Binary.operation c.in-Binary.a c.in-Binary.b c.in-Binary.is held).1))
    c.in_err-second-in-Binary.ensures.err

pub emit_operand-returns-in_ok-emit_quotient-in-Divide-clause-ok : goal.emit_operand-returns-in_ok-emit_quotient-in-Divide-clause-ok
emit_operand-returns-in_ok-emit_quotient-in-Divide-clause-ok t c =
    divide-arm c.args.site.now.places.now c.args.site.now.scope.now c.args.r c.requires.place.0 c.args.e.now c.args.leaf c.in-Divide.a _ c.in-Divide.divisor
    c.in_ok-first-in-Divide.first _ _ _ (divide-fits c.args.e.now c.in-Divide.a c.in-Divide.divisor c.args.r c.in-Divide.is c.requires.fits).room
    c.in-Divide.is c.get-in-Divide.ensures c.in_ok-first-in-Divide.ensures.ok c.in_ok-emit_quotient-in-Divide.ensures

pub emit_operand-returns-in_err-first-in-Divide-clause-err : goal.emit_operand-returns-in_err-first-in-Divide-clause-err
emit_operand-returns-in_err-first-in-Divide-clause-err t c =
    passed-part c.args.site.now.scope.now c.from_residual-in_err-first-in-Divide.result c.in_err-first-in-Divide.field-0.0 c.get-in-Divide.result.now
    c.args.e.now
    c.from_residual-in_err-first-in-Divide.ensures.1 (λ held. held-as c.args.site.now.scope.now c.get-in-Divide.result.now c.in-Divide.a
    c.get-in-Divide.ensures (held-divide c.args.site.now.scope.now c.args.e.now c.in-Divide.a c.in-Divide.divisor c.in-Divide.is held))
    c.in_err-first-in-Divide.ensures.err

pub emit_operand-emit_quotient-requires-clause-place : goal.emit_operand-emit_quotient-requires-clause-place
emit_operand-emit_quotient-requires-clause-place t c =
    (c.requires.place.0, (divide-fits c.args.e.now c.in-Divide.a c.in-Divide.divisor c.args.r c.in-Divide.is c.requires.fits).room)

pub emit_operand-emit_quotient-requires-clause-operand : goal.emit_operand-emit_quotient-requires-clause-operand
emit_operand-emit_quotient-requires-clause-operand t c =
    let x = c.in_ok-first-in-Divide.ensures.ok in (x.source, one-of c.args.site.now.scope.now c.args.r c.in_ok-first-in-Divide.first x.which)

pub emit_operand-emit_quotient-requires-clause-some : goal.emit_operand-emit_quotient-requires-clause-some
emit_operand-emit_quotient-requires-clause-some t c =
    (divide-fits c.args.e.now c.in-Divide.a c.in-Divide.divisor c.args.r c.in-Divide.is c.requires.fits).some

pub emit_operand-returns-in_ok-emit_remainder-in-Remainder-clause-ok : goal.emit_operand-returns-in_ok-emit_remainder-in-Remainder-clause-ok
emit_operand-returns-in_ok-emit_remainder-in-Remainder-clause-ok t c =
    remainder-arm c.args.site.now.places.now c.args.site.now.scope.now c.args.r c.requires.place.0 c.args.e.now c.args.leaf c.in-Remainder.a _
    c.in-Remainder.divisor
    c.in_ok-first-in-Remainder.first _ _ _ (remainder-fits c.args.e.now c.in-Remainder.a c.in-Remainder.divisor c.args.r c.in-Remainder.is
    c.requires.fits).room
    c.in-Remainder.is c.get-in-Remainder.ensures c.in_ok-first-in-Remainder.ensures.ok c.in_ok-emit_remainder-in-Remainder.ensures

pub emit_operand-returns-in_err-first-in-Remainder-clause-err : goal.emit_operand-returns-in_err-first-in-Remainder-clause-err
emit_operand-returns-in_err-first-in-Remainder-clause-err t c =
    passed-part c.args.site.now.scope.now c.from_residual-in_err-first-in-Remainder.result c.in_err-first-in-Remainder.field-0.0 c.get-in-Remainder.result.now
    c.args.e.now
    c.from_residual-in_err-first-in-Remainder.ensures.1 (λ held. held-as c.args.site.now.scope.now c.get-in-Remainder.result.now c.in-Remainder.a
    c.get-in-Remainder.ensures (held-remainder c.args.site.now.scope.now c.args.e.now c.in-Remainder.a c.in-Remainder.divisor c.in-Remainder.is held))
    c.in_err-first-in-Remainder.ensures.err

pub emit_operand-emit_remainder-requires-clause-place : goal.emit_operand-emit_remainder-requires-clause-place
emit_operand-emit_remainder-requires-clause-place t c =
    (c.requires.place.0, (remainder-fits c.args.e.now c.in-Remainder.a c.in-Remainder.divisor c.args.r c.in-Remainder.is c.requires.fits).room)

pub emit_operand-emit_remainder-requires-clause-operand : goal.emit_operand-emit_remainder-requires-clause-operand
emit_operand-emit_remainder-requires-clause-operand t c =
    let x = c.in_ok-first-in-Remainder.ensures.ok in (x.source, one-of c.args.site.now.scope.now c.args.r c.in_ok-first-in-Remainder.first x.which)

pub emit_operand-emit_remainder-requires-clause-some : goal.emit_operand-emit_remainder-requires-clause-some
emit_operand-emit_remainder-requires-clause-some t c =
    (remainder-fits c.args.e.now c.in-Remainder.a c.in-Remainder.divisor c.args.r c.in-Remainder.is c.requires.fits).some

pub emit_operand-returns-in_ok-emit_selection-in-Select-clause-ok : goal.emit_operand-returns-in_ok-emit_selection-in-Select-clause-ok
emit_operand-returns-in_ok-emit_selection-in-Select-clause-ok t c =
    select-arm c.args.site.now.places.now c.args.site.now.scope.now c.args.r c.requires.place.0 c.args.e.now c.args.leaf c.in-Select.c c.in-Select.a
    c.in-Select.b _ _ _ c.in_ok-condition-in-Select.condition c.in_ok-first-in-Select.first
    c.in_ok-second-in-Select.second _ _ _ _ _ (select-fits c.args.e.now c.in-Select.c c.in-Select.a c.in-Select.b c.args.r c.in-Select.is
    c.requires.fits).room c.in-Select.is c.get-in-Select.ensures c.get-in-Select-2.ensures c.get-in-Select-3.ensures
    c.in_ok-condition-in-Select.ensures.ok c.in_ok-first-in-Select.ensures.ok c.in_ok-second-in-Select.ensures.ok c.in_ok-emit_selection-in-Select.ensures

pub emit_operand-returns-in_err-condition-in-Select-clause-err : goal.emit_operand-returns-in_err-condition-in-Select-clause-err
emit_operand-returns-in_err-condition-in-Select-clause-err t c =
    passed-part c.args.site.now.scope.now c.from_residual-in_err-condition-in-Select.result c.in_err-condition-in-Select.field-0.0 c.get-in-Select.result.now
    c.args.e.now
    c.from_residual-in_err-condition-in-Select.ensures.1 (λ held. held-as c.args.site.now.scope.now c.get-in-Select.result.now c.in-Select.c
    c.get-in-Select.ensures ((held-select c.args.site.now.scope.now c.args.e.now c.in-Select.c c.in-Select.a c.in-Select.b c.in-Select.is held).0))
    c.in_err-condition-in-Select.ensures.err

pub emit_operand-returns-in_err-first-in-Select-clause-err : goal.emit_operand-returns-in_err-first-in-Select-clause-err
emit_operand-returns-in_err-first-in-Select-clause-err t c =
    passed-part c.args.site.now.scope.now c.from_residual-in_err-first-in-Select.result c.in_err-first-in-Select.field-0.0 c.get-in-Select-2.result.now
    c.args.e.now
    c.from_residual-in_err-first-in-Select.ensures.1 (λ held. held-as c.args.site.now.scope.now c.get-in-Select-2.result.now c.in-Select.a
    c.get-in-Select-2.ensures ((held-select c.args.site.now.scope.now c.args.e.now c.in-Select.c c.in-Select.a c.in-Select.b c.in-Select.is held).1))
    c.in_err-first-in-Select.ensures.err

pub emit_operand-returns-in_err-second-in-Select-clause-err : goal.emit_operand-returns-in_err-second-in-Select-clause-err
emit_operand-returns-in_err-second-in-Select-clause-err t c =
    passed-part c.args.site.now.scope.now c.from_residual-in_err-second-in-Select.result c.in_err-second-in-Select.field-0.0 c.get-in-Select-3.result.now
    c.args.e.now
    c.from_residual-in_err-second-in-Select.ensures.1 (λ held. held-as c.args.site.now.scope.now c.get-in-Select-3.result.now c.in-Select.b
    c.get-in-Select-3.ensures ((held-select c.args.site.now.scope.now c.args.e.now c.in-Select.c c.in-Select.a c.in-Select.b c.in-Select.is held).2))
    c.in_err-second-in-Select.ensures.err

pub emit_operand-returns-in_ok-emit_pixel-in-Load-clause-ok : goal.emit_operand-returns-in_ok-emit_pixel-in-Load-clause-ok
emit_operand-returns-in_ok-emit_pixel-in-Load-clause-ok t c =
    load-arm c.args.site.now.places.now c.args.site.now.scope.now c.args.r c.requires.place.0 c.args.e.now c.args.leaf c.in-Load.source _
    c.in-Load.x c.in-Load.y _ _ c.in_ok-column-in-Load.column c.in_ok-row-in-Load.row
    _ _ _ _ (load-fits c.args.e.now c.in-Load.source c.in-Load.x c.in-Load.y c.args.r c.in-Load.is c.requires.fits).room c.in-Load.is
    c.get-in-Load.ensures c.get-in-Load-2.ensures refl c.in_ok-column-in-Load.ensures.ok c.in_ok-row-in-Load.ensures.ok
    c.in_ok-emit_pixel-in-Load.ensures.ok

pub emit_operand-returns-in_err-column-in-Load-clause-err : goal.emit_operand-returns-in_err-column-in-Load-clause-err
emit_operand-returns-in_err-column-in-Load-clause-err t c =
    passed-part c.args.site.now.scope.now c.from_residual-in_err-column-in-Load.result c.in_err-column-in-Load.field-0.0 c.get-in-Load.result.now c.args.e.now
    c.from_residual-in_err-column-in-Load.ensures.1 (λ held. held-as c.args.site.now.scope.now c.get-in-Load.result.now c.in-Load.x c.get-in-Load.ensures
    ((held-load c.args.site.now.scope.now c.args.e.now c.in-Load.source c.in-Load.x c.in-Load.y c.in-Load.is held).0)) c.in_err-column-in-Load.ensures.err

pub emit_operand-returns-in_err-row-in-Load-clause-err : goal.emit_operand-returns-in_err-row-in-Load-clause-err
emit_operand-returns-in_err-row-in-Load-clause-err t c =
    passed-part c.args.site.now.scope.now c.from_residual-in_err-row-in-Load.result c.in_err-row-in-Load.field-0.0 c.get-in-Load-2.result.now c.args.e.now
    c.from_residual-in_err-row-in-Load.ensures.1 (λ held. held-as c.args.site.now.scope.now c.get-in-Load-2.result.now c.in-Load.y c.get-in-Load-2.ensures
    ((held-load c.args.site.now.scope.now c.args.e.now c.in-Load.source c.in-Load.x c.in-Load.y c.in-Load.is held).1)) c.in_err-row-in-Load.ensures.err

pub emit_operand-returns-in_err-emit_pixel-in-Load-clause-err : goal.emit_operand-returns-in_err-emit_pixel-in-Load-clause-err
emit_operand-returns-in_err-emit_pixel-in-Load-clause-err t c =
    passed c.from_residual-in_err-emit_pixel-in-Load.result c.in_err-emit_pixel-in-Load.field-0.0 c.from_residual-in_err-emit_pixel-in-Load.ensures.1
    (λ long. long)
    (λ deep held. deep (c.in_ok-column-in-Load.ensures.ok.held (held-as c.args.site.now.scope.now c.get-in-Load.result.now c.in-Load.x c.get-in-Load.ensures
    (held-load c.args.site.now.scope.now c.args.e.now c.in-Load.source c.in-Load.x c.in-Load.y c.in-Load.is held).0))
    (c.in_ok-row-in-Load.ensures.ok.held (held-as c.args.site.now.scope.now c.get-in-Load-2.result.now c.in-Load.y c.get-in-Load-2.ensures (held-load
    c.args.site.now.scope.now c.args.e.now c.in-Load.source c.in-Load.x c.in-Load.y c.in-Load.is held).1))) c.in_err-emit_pixel-in-Load.ensures.err

pub emit_operand-emit_pixel-requires-clause-place : goal.emit_operand-emit_pixel-requires-clause-place
emit_operand-emit_pixel-requires-clause-place t c =
    (c.requires.place.0, (load-fits c.args.e.now c.in-Load.source c.in-Load.x c.in-Load.y c.args.r c.in-Load.is c.requires.fits).room)

pub emit_operand-emit_pixel-requires-clause-first : goal.emit_operand-emit_pixel-requires-clause-first
emit_operand-emit_pixel-requires-clause-first t c =
    c.in_ok-column-in-Load.ensures.ok.stands

pub emit_operand-emit_pixel-requires-clause-second : goal.emit_operand-emit_pixel-requires-clause-second
emit_operand-emit_pixel-requires-clause-second t c =
    c.in_ok-row-in-Load.ensures.ok.stands

pub emit_index-returns-in-Some-clause-ok : goal.emit_index-returns-in-Some-clause-ok
emit_index-returns-in-Some-clause-ok t c =
    index-sum c.args.site.now.places.now c.args.site.now.scope.now c.args.e.now c.in-Some.own c.args.r _ (subst (λ o. IfSome o (IsSum c.args.e.now))
    c.in-Some.is c.in_ok-own.ensures.some)

pub emit_index-returns-in_ok-s-in-None-clause-ok : goal.emit_index-returns-in_ok-s-in-None-clause-ok
emit_index-returns-in_ok-s-in-None-clause-ok t c =
    index-register c.args.site.now.places.now c.args.site.now.scope.now c.args.e.now c.args.r c.in_ok-s-in-None.s _ _
    (c.requires.place.0, roomy c.args.e.now c.args.r (c.in_ok-own.ensures.none c.in-None.is) c.requires.fits) c.in_ok-s-in-None.ensures.ok

pub emit_index-returns-in_err-s-in-None-clause-err : goal.emit_index-returns-in_err-s-in-None-clause-err
emit_index-returns-in_err-s-in-None-clause-err t c =
    passed c.from_residual-in_err-s-in-None.result c.in_err-s-in-None.field-0.0 c.from_residual-in_err-s-in-None.ensures.1 (λ long. long) (λ deep.
    deep) c.in_err-s-in-None.ensures.err

pub emit_operand-emit_operand-requires : goal.emit_operand-emit_operand-requires
emit_operand-emit_operand-requires t c = (
  part-measure (size-Expr c.get.result.now) (size-Expr c.args.e.now) t c.decreases (binary-first c.args.e.now c.in-Binary.operation c.in-Binary.a
      c.in-Binary.b c.get.result.now c.in-Binary.is c.get.ensures),
  (
    c.requires.place,
    (
      let low = c.requires.place.0 in let room = (binary-fits c.args.e.now c.in-Binary.operation c.in-Binary.a c.in-Binary.b c.args.r c.in-Binary.is
          c.requires.fits).room in inr (refl, (omega (arith, low), omega (arith, room))),
      fits-as c.get.result.now c.in-Binary.a c.args.r c.get.ensures (binary-fits c.args.e.now c.in-Binary.operation c.in-Binary.a c.in-Binary.b
          c.args.r c.in-Binary.is c.requires.fits).first,
    ),
  ),
)

pub emit_operand-emit_operand-requires-in-Binary : goal.emit_operand-emit_operand-requires-in-Binary
emit_operand-emit_operand-requires-in-Binary t c = (
  part-measure (size-Expr c.get-other.result.now) (size-Expr c.args.e.now) t c.decreases (binary-second c.args.e.now c.in-Binary.operation
      c.in-Binary.a c.in-Binary.b c.get-other.result.now c.in-Binary.is c.get-other.ensures),
  (
    let low = c.requires.place.0 in let room = (binary-fits c.args.e.now c.in-Binary.operation c.in-Binary.a c.in-Binary.b c.args.r c.in-Binary.is
        c.requires.fits).room in (omega (arith, low), omega (arith, room)),
    (
      inl refl,
      fits-as c.get-other.result.now c.in-Binary.b (c.args.r + 1) c.get-other.ensures (binary-fits c.args.e.now c.in-Binary.operation
          c.in-Binary.a c.in-Binary.b c.args.r c.in-Binary.is c.requires.fits).second,
    ),
  ),
)

pub emit_operand-emit_operand-requires-in-Divide : goal.emit_operand-emit_operand-requires-in-Divide
emit_operand-emit_operand-requires-in-Divide t c = (
  part-measure (size-Expr c.get-in-Divide.result.now) (size-Expr c.args.e.now) t c.decreases (divide-first c.args.e.now c.in-Divide.a
      c.get-in-Divide.result.now c.in-Divide.divisor c.in-Divide.is c.get-in-Divide.ensures),
  (
    c.requires.place,
    (
      let low = c.requires.place.0 in let room = (divide-fits c.args.e.now c.in-Divide.a c.in-Divide.divisor c.args.r c.in-Divide.is
          c.requires.fits).room in inr (refl, (omega (arith, low), omega (arith, room))),
      fits-as c.get-in-Divide.result.now c.in-Divide.a c.args.r c.get-in-Divide.ensures (divide-fits c.args.e.now c.in-Divide.a c.in-Divide.divisor
          c.args.r c.in-Divide.is c.requires.fits).first,
    ),
  ),
)

pub emit_operand-emit_operand-requires-in-Remainder : goal.emit_operand-emit_operand-requires-in-Remainder
emit_operand-emit_operand-requires-in-Remainder t c = (
  part-measure (size-Expr c.get-in-Remainder.result.now) (size-Expr c.args.e.now) t c.decreases (remainder-first c.args.e.now c.in-Remainder.a
      c.get-in-Remainder.result.now c.in-Remainder.divisor c.in-Remainder.is c.get-in-Remainder.ensures),
  (
    c.requires.place,
    (
      let low = c.requires.place.0 in let room = (remainder-fits c.args.e.now c.in-Remainder.a c.in-Remainder.divisor c.args.r c.in-Remainder.is
          c.requires.fits).room in inr (refl, (omega (arith, low), omega (arith, room))),
      fits-as c.get-in-Remainder.result.now c.in-Remainder.a c.args.r c.get-in-Remainder.ensures (remainder-fits c.args.e.now c.in-Remainder.a
          c.in-Remainder.divisor c.args.r c.in-Remainder.is c.requires.fits).first,
    ),
  ),
)

pub emit_operand-emit_operand-requires-in-Select : goal.emit_operand-emit_operand-requires-in-Select
emit_operand-emit_operand-requires-in-Select t c = (
  part-measure (size-Expr c.get-in-Select.result.now) (size-Expr c.args.e.now) t c.decreases (select-first c.args.e.now c.in-Select.c c.in-Select.a
      c.in-Select.b c.get-in-Select.result.now c.in-Select.is c.get-in-Select.ensures),
  (
    c.requires.place,
    (
      let low = c.requires.place.0 in let room = (select-fits c.args.e.now c.in-Select.c c.in-Select.a c.in-Select.b c.args.r c.in-Select.is
          c.requires.fits).room in inr (refl, (omega (arith, low), omega (arith, room))),
      fits-as c.get-in-Select.result.now c.in-Select.c c.args.r c.get-in-Select.ensures (select-fits c.args.e.now c.in-Select.c c.in-Select.a
          c.in-Select.b c.args.r c.in-Select.is c.requires.fits).first,
    ),
  ),
)

pub emit_operand-emit_operand-requires-in-Select-2 : goal.emit_operand-emit_operand-requires-in-Select-2
emit_operand-emit_operand-requires-in-Select-2 t c = (
  part-measure (size-Expr c.get-in-Select-2.result.now) (size-Expr c.args.e.now) t c.decreases (select-second c.args.e.now c.in-Select.c
      c.in-Select.a c.in-Select.b c.get-in-Select-2.result.now c.in-Select.is c.get-in-Select-2.ensures),
  (
    let low = c.requires.place.0 in let room = (select-fits c.args.e.now c.in-Select.c c.in-Select.a c.in-Select.b c.args.r c.in-Select.is
        c.requires.fits).room in (omega (arith, low), omega (arith, room)),
    (
      let low = c.requires.place.0 in let room = (select-fits c.args.e.now c.in-Select.c c.in-Select.a c.in-Select.b c.args.r c.in-Select.is
          c.requires.fits).room in inr (refl, (omega (arith, low), omega (arith, room))),
      fits-as c.get-in-Select-2.result.now c.in-Select.a (c.args.r + 1) c.get-in-Select-2.ensures (select-fits c.args.e.now c.in-Select.c
          c.in-Select.a c.in-Select.b c.args.r c.in-Select.is c.requires.fits).second,
    ),
  ),
)

pub emit_operand-emit_operand-requires-in-Select-3 : goal.emit_operand-emit_operand-requires-in-Select-3
emit_operand-emit_operand-requires-in-Select-3 t c = (
  part-measure (size-Expr c.get-in-Select-3.result.now) (size-Expr c.args.e.now) t c.decreases (select-third c.args.e.now c.in-Select.c c.in-Select.a
      c.in-Select.b c.get-in-Select-3.result.now c.in-Select.is c.get-in-Select-3.ensures),
  (
    let low = c.requires.place.0 in let room = (select-fits c.args.e.now c.in-Select.c c.in-Select.a c.in-Select.b c.args.r c.in-Select.is
        c.requires.fits).room in (omega (arith, low), omega (arith, room)),
    (
      let low = c.requires.place.0 in let room = (select-fits c.args.e.now c.in-Select.c c.in-Select.a c.in-Select.b c.args.r c.in-Select.is
          c.requires.fits).room in inr (refl, (omega (arith, low), omega (arith, room))),
      fits-as c.get-in-Select-3.result.now c.in-Select.b (c.args.r + 2) c.get-in-Select-3.ensures (select-fits c.args.e.now c.in-Select.c
          c.in-Select.a c.in-Select.b c.args.r c.in-Select.is c.requires.fits).third,
    ),
  ),
)

pub emit_operand-emit_index-requires : goal.emit_operand-emit_index-requires
emit_operand-emit_index-requires t c = (
  index-measure (size-Expr c.get-in-Load.result.now) (size-Expr c.args.e.now) t c.decreases (load-first c.args.e.now c.in-Load.source c.in-Load.x
      c.in-Load.y c.get-in-Load.result.now c.in-Load.is c.get-in-Load.ensures),
  (
    c.requires.place,
    fits-as c.get-in-Load.result.now c.in-Load.x c.args.r c.get-in-Load.ensures (load-fits c.args.e.now c.in-Load.source c.in-Load.x c.in-Load.y
        c.args.r c.in-Load.is c.requires.fits).first,
  ),
)

pub emit_operand-emit_index-requires-in-Load : goal.emit_operand-emit_index-requires-in-Load
emit_operand-emit_index-requires-in-Load t c = (
  index-measure (size-Expr c.get-in-Load-2.result.now) (size-Expr c.args.e.now) t c.decreases (load-second c.args.e.now c.in-Load.source c.in-Load.x
      c.in-Load.y c.get-in-Load-2.result.now c.in-Load.is c.get-in-Load-2.ensures),
  (
    let low = c.requires.place.0 in let room = (load-fits c.args.e.now c.in-Load.source c.in-Load.x c.in-Load.y c.args.r c.in-Load.is
        c.requires.fits).room in (omega (arith, low), omega (arith, room)),
    fits-as c.get-in-Load-2.result.now c.in-Load.y (c.args.r + 1) c.get-in-Load-2.ensures (load-fits c.args.e.now c.in-Load.source c.in-Load.x
        c.in-Load.y c.args.r c.in-Load.is c.requires.fits).second,
  ),
)

pub emit_index-emit_operand-requires : goal.emit_index-emit_operand-requires
emit_index-emit_operand-requires t c = (
  own-measure (size-Expr c.args.e.now) t c.decreases,
  (
    c.requires.place,
    (
      inr (
        refl,
        (
          c.requires.place.0,
          roomy c.args.e.now c.args.r
              (c.in_ok-own.ensures.none c.in-None.is) c.requires.fits,
        ),
      ),
      c.requires.fits,
    ),
  ),
)

pub emit_operand-emit_operation-requires : goal.emit_operand-emit_operation-requires
emit_operand-emit_operation-requires t c = (
  stack-place c.args.r (
    c.requires.place.0,
    (binary-fits c.args.e.now c.in-Binary.operation c.in-Binary.a c.in-Binary.b c.args.r c.in-Binary.is
        c.requires.fits).room,
  ),
  (c.in_ok-first-in-Binary.ensures.ok.source, c.in_ok-second-in-Binary.ensures.ok.source),
)

pub emit_operand-emit_selection-requires : goal.emit_operand-emit_selection-requires
emit_operand-emit_selection-requires t c =
    let room = (select-fits c.args.e.now c.in-Select.c c.in-Select.a c.in-Select.b c.args.r c.in-Select.is c.requires.fits).room in (
      stack-place c.args.r (c.requires.place.0, (omega (arith, room))),
      (c.in_ok-condition-in-Select.ensures.ok.source, (c.in_ok-first-in-Select.ensures.ok.source, c.in_ok-second-in-Select.ensures.ok.source)),
    )
