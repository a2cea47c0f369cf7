use Rattle.std.proofs.Common.{◌≡◌, ◌≢◌, [], arith, rules}
use Rattle.std.proofs.lemmas.Grind.{common_steps}
use Rattle.line_text.proofs.ReadingLaws.{goes_on, fails, is_done}
use Rattle.schedule.proofs.schedules.read_lines.Goals as goal

pub returns-in-Err : goal.returns-in-Err
returns-in-Err c =
    let some : c.lines.rest.now ≢ [] = search rules in
    rw c.at_line.ensures (fails _ _ _ _ c.lines.rest.now _ c.take_line.new.reader _ _ c.in-Err.error (c.first_line.ensures.lines some) c.in-Err.ensures
    c.lines.invariant)

pub lines-preserved : goal.lines-preserved
lines-preserved c =
    let some : c.lines.rest.now ≢ [] = search rules in
    goes_on _ _ _ _ c.lines.rest.now _ _ _ _ (c.first_line.ensures.lines some) (c.first_line.ensures.shorter some) c.in-Ok.ensures c.lines.invariant

pub returns : goal.returns
returns c =
    let e : c.lines.rest.now ≡ [] = grind (arith, common_steps) in
    is_done _ _ _ _ c.lines.rest.now _ e c.lines.invariant
