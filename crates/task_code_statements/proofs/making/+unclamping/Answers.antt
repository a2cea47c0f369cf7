use Rattle.std.proofs.Common.{refl}
use Rattle.loop_ir.specs.declared.expressions.Expr.TheVariants as e
use Rattle.task_code_loops.specs.Known.{AreKnown}
use Rattle.task_code_clamps.proofs.Same.{ranged-anywhere, ranged-divide, ranged-remainder, ranged-select}
use Rattle.task_code_names.proofs.Alike.{alike-number, alike-linear, alike-binary, alike-divide, alike-remainder, alike-select, alike-load}
use Rattle.task_code_statements.proofs.making.+unclamping.Goals as goal

pub unclamped-returns-in-Number : goal.unclamped-returns-in-Number
unclamped-returns-in-Number t c = record {
  middle = e.Number c.in-Number.n;
  by_others = alike-number (AreKnown c.args.known.now) c.args.e.now c.in-Number.n c.in-Number.is;
  ranged = c.of_number.ensures c.args.places.now c.args.bounds.now;
}

pub unclamped-returns-in_ok-sum-in-Linear : goal.unclamped-returns-in_ok-sum-in-Linear
unclamped-returns-in_ok-sum-in-Linear t c = record {
  middle = e.Linear c.in_ok-sum-in-Linear.sum;
  by_others = alike-linear (AreKnown c.args.known.now) c.args.e.now c.in-Linear.own c.in_ok-sum-in-Linear.sum c.in-Linear.is c.in_ok-sum-in-Linear.ensures;
  ranged = c.of_linear.ensures c.args.places.now;
}

pub unclamped-returns-in_ok-new_ranged-in-Binary : goal.unclamped-returns-in_ok-new_ranged-in-Binary
unclamped-returns-in_ok-new_ranged-in-Binary t c =
    let one = c.in_ok-first-in-Binary.ensures in
    let two = c.in_ok-second-in-Binary.ensures in
    record {
      middle = e.Binary c.in-Binary.operation one.middle two.middle;
      by_others =
          alike-binary (AreKnown c.args.known.now) c.args.e.now c.in-Binary.operation c.in-Binary.a c.in-Binary.b c.get.result.now
          c.get-in-Binary.result.now one.middle two.middle c.in-Binary.is c.get.ensures c.get-in-Binary.ensures one.by_others two.by_others;
      ranged = c.in_ok-new_ranged-in-Binary.ensures c.args.places.now one.middle two.middle one.ranged two.ranged;
    }

pub unclamped-returns-in_ok-first-in-Divide : goal.unclamped-returns-in_ok-first-in-Divide
unclamped-returns-in_ok-first-in-Divide t c =
    let one = c.in_ok-first-in-Divide.ensures in
    record {
      middle = e.Divide one.middle c.in-Divide.divisor;
      by_others =
          alike-divide (AreKnown c.args.known.now) c.args.e.now c.in-Divide.a c.get-in-Divide.result.now one.middle c.in-Divide.divisor c.in-Divide.is
          c.get-in-Divide.ensures one.by_others;
      ranged =
          ranged-anywhere c.args.places.now c.args.bounds.now (e.Divide one.middle c.in-Divide.divisor) _ c.anywhere.result c.anywhere.ensures.same
          c.anywhere.ensures.word
          (ranged-divide c.args.places.now c.args.bounds.now (e.Divide one.middle c.in-Divide.divisor) one.middle one.middle c.in_ok-first-in-Divide.first
          c.in-Divide.divisor _ refl refl one.without_clamps c.anywhere.ensures.lies);
    }

pub unclamped-returns-in_ok-first-in-Remainder : goal.unclamped-returns-in_ok-first-in-Remainder
unclamped-returns-in_ok-first-in-Remainder t c =
    let one = c.in_ok-first-in-Remainder.ensures in
    record {
      middle = e.Remainder one.middle c.in-Remainder.divisor;
      by_others =
          alike-remainder (AreKnown c.args.known.now) c.args.e.now c.in-Remainder.a c.get-in-Remainder.result.now one.middle c.in-Remainder.divisor
          c.in-Remainder.is c.get-in-Remainder.ensures one.by_others;
      ranged =
          ranged-anywhere c.args.places.now c.args.bounds.now (e.Remainder one.middle c.in-Remainder.divisor) _ c.anywhere-in-Remainder.result
          c.anywhere-in-Remainder.ensures.same c.anywhere-in-Remainder.ensures.word
          (ranged-remainder c.args.places.now c.args.bounds.now (e.Remainder one.middle c.in-Remainder.divisor) one.middle one.middle
          c.in_ok-first-in-Remainder.first c.in-Remainder.divisor _ refl refl one.without_clamps c.anywhere-in-Remainder.ensures.lies);
    }

pub unclamped-returns-in_ok-second-in-Select : goal.unclamped-returns-in_ok-second-in-Select
unclamped-returns-in_ok-second-in-Select t c =
    let test = c.in_ok-condition-in-Select.ensures in
    let one = c.in_ok-first-in-Select.ensures in
    let two = c.in_ok-second-in-Select.ensures in
    record {
      middle = e.Select test.middle one.middle two.middle;
      by_others =
          alike-select (AreKnown c.args.known.now) c.args.e.now c.in-Select.c c.in-Select.a c.in-Select.b c.get-in-Select.result.now
          c.get-in-Select-2.result.now c.get-in-Select-3.result.now test.middle one.middle two.middle c.in-Select.is c.get-in-Select.ensures
          c.get-in-Select-2.ensures c.get-in-Select-3.ensures test.by_others one.by_others two.by_others;
      ranged =
          ranged-anywhere c.args.places.now c.args.bounds.now (e.Select test.middle one.middle two.middle) _ c.anywhere-in-Select.result
          c.anywhere-in-Select.ensures.same c.anywhere-in-Select.ensures.word
          (ranged-select c.args.places.now c.args.bounds.now (e.Select test.middle one.middle two.middle) test.middle one.middle two.middle test.middle
          one.middle two.middle c.in_ok-condition-in-Select.condition c.in_ok-first-in-Select.first c.in_ok-second-in-Select.second _ refl refl refl refl
          test.without_clamps one.without_clamps two.without_clamps c.anywhere-in-Select.ensures.lies);
    }

pub unclamped-returns-in_ok-row-in-Load : goal.unclamped-returns-in_ok-row-in-Load
unclamped-returns-in_ok-row-in-Load t c =
    let one = c.in_ok-column-in-Load.ensures in
    let two = c.in_ok-row-in-Load.ensures in
    record {
      middle = e.Load c.in-Load.source one.middle two.middle;
      by_others =
          alike-load (AreKnown c.args.known.now) c.args.e.now c.in-Load.source c.in-Load.x c.in-Load.y c.get-in-Load.result.now c.get-in-Load-2.result.now
          one.middle two.middle c.in-Load.is c.get-in-Load.ensures c.get-in-Load-2.ensures one.by_others two.by_others;
      ranged = c.of_load.ensures c.args.bounds.now one.middle two.middle one.without_clamps two.without_clamps;
    }
